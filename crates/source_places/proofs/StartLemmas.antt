-- Where lines start tells the line and the column of an offset, and the bytes of a line.
use Rattle.std.proofs.Common.{◌≡◌, ◌∙◌, ◌<◌, ◌≤◌, ◌+◌, ◌-◌, ℕ, zero, suc, refl, ap, sym, subst, arith, Bool, true, false, List, [], ◌∷◌, ◌++◌, length, get_or, min, take, drop, leb}
use Rattle.std.specs.Prelude.{if◌then◌else◌}
use Rattle.std.specs.List.Sorted.{IsNonDecreasingBy}
use Rattle.std.proofs.lemmas.Bool.{le-leb, lt-leb}
use Rattle.facts.proofs.Numbers.{plus_suc_moved as more}
use Rattle.source_places.specs.Places.{behind_feed, feeds_in, is_feed, line_after, place_at}
use Rattle.source_places.specs.Starts.{begun, end_of, start_if, start_of, starts_of}

-- ---- starts ascend

-- each start lies behind the offset from which they are counted
above : (at : ℕ) (text : List ℕ) (k d : ℕ) → k < length (starts_of at text) → at < get_or (starts_of at text) k d
above at [] k d lt = absurd (omega (arith, lt))
above at (b ∷ bs) k d lt = go (is_feed b) k lt (above (suc at) bs)
  where
    go : (t : Bool) (k : ℕ) → k < length (start_if t (suc at) ++ starts_of (suc at) bs) → ((k d : ℕ) → k < length (starts_of (suc at) bs) → suc at < get_or (starts_of (suc at) bs) k d) →
        at < get_or (start_if t (suc at) ++ starts_of (suc at) bs) k d
    go true zero lt rest = omega arith
    go true (suc k) lt rest = let more : suc at < get_or (starts_of (suc at) bs) k d = rest k d (omega (arith, lt)) in omega (arith, more)
    go false k lt rest = let more : suc at < get_or (starts_of (suc at) bs) k d = rest k d lt in omega (arith, more)

pub rises : (at : ℕ) (text : List ℕ) → IsNonDecreasingBy (λ s. s) (starts_of at text)
rises at [] = λ i j d le lt. absurd (omega (arith, lt))
rises at (b ∷ bs) = go (is_feed b) (rises (suc at) bs)
  where
    go : (t : Bool) → IsNonDecreasingBy (λ s. s) (starts_of (suc at) bs) → IsNonDecreasingBy (λ s. s) (start_if t (suc at) ++ starts_of (suc at) bs)
    go true rest zero zero d le lt = omega arith
    go true rest zero (suc j) d le lt = let more : suc at < get_or (starts_of (suc at) bs) j d = above (suc at) bs j d (omega (arith, lt)) in omega (arith, more)
    go true rest (suc i) zero d le lt = absurd (omega (arith, le))
    go true rest (suc i) (suc j) d le lt = rest i j d (omega (arith, le)) (omega (arith, lt))
    go false rest i j d le lt = rest i j d le lt

-- ---- how many have begun

-- where the first so many aren't behind the offset, and all others are
pub point_begun : (starts : List ℕ) (at i : ℕ) → i ≤ length starts → ((k d : ℕ) → k < i → leb (get_or starts k d) at ≡ true) → ((k d : ℕ) → i ≤ k → k < length starts → leb (get_or starts k d) at ≡ false) →
    i ≡ begun starts at
point_begun [] at i le before after = omega (arith, le)
point_begun (s ∷ starts) at zero le before after =
    rw (after 0 0 (omega arith) (omega arith)) (point_begun starts at 0 (omega arith) (λ k d lt. absurd (omega (arith, lt))) (λ k d low high. after (suc k) d (omega arith) (omega (arith, high))))
point_begun (s ∷ starts) at (suc i) le before after =
    rw (before 0 0 (omega arith)) (ap suc (point_begun starts at i (omega (arith, le)) (λ k d lt. before (suc k) d (omega (arith, lt))) (λ k d low high. after (suc k) d (omega (arith, low)) (omega (arith, high)))))

none_begun : (at m : ℕ) (text : List ℕ) → m ≤ at → begun (starts_of at text) m ≡ 0
none_begun at m [] le = refl
none_begun at m (b ∷ bs) le = go (is_feed b) (none_begun (suc at) m bs (omega (arith, le)))
  where
    go : (t : Bool) → begun (starts_of (suc at) bs) m ≡ 0 → begun (start_if t (suc at) ++ starts_of (suc at) bs) m ≡ 0
    go true rest = rw (lt-leb (suc at) m (omega (arith, le))) rest
    go false rest = rest

-- ---- lines and columns

-- the column of an offset, n bytes of whose first line stand before the text: where no start has begun all bytes
-- stand behind the last feed, and else those behind the last start do
abbrev IsColumn : ℕ → List ℕ → ℕ → ℕ → ℕ → Type 0
IsColumn at text off n zero = behind_feed n (take off text) ≡ n + min off (length text)
IsColumn at text off n (suc k) = behind_feed n (take off text) + get_or (starts_of at text) k 0 ≡ at + min off (length text)

-- as many starts have begun as there are line feeds before the offset
record IsPlace (at : ℕ) (text : List ℕ) (off n : ℕ) : Type 0 where
  pub feeds : begun (starts_of at text) (at + off) ≡ feeds_in (take off text)
  pub column : (k : ℕ) → feeds_in (take off text) ≡ k → IsColumn at text off n k

-- the same where the first byte may be a line feed
abbrev IsColumnIf : ℕ → List ℕ → ℕ → ℕ → Bool → ℕ → Type 0
IsColumnIf at bs off n t zero = (if t then behind_feed 0 (take off bs) else behind_feed (suc n) (take off bs)) ≡ n + min (suc off) (suc (length bs))
IsColumnIf at bs off n t (suc k) =
    (if t then behind_feed 0 (take off bs) else behind_feed (suc n) (take off bs)) + get_or (start_if t (suc at) ++ starts_of (suc at) bs) k 0 ≡ at + min (suc off) (suc (length bs))

place : (at : ℕ) (text : List ℕ) (off n : ℕ) → IsPlace at text off n
place at [] zero n = record { feeds = refl; column = go }
  where
    go : (k : ℕ) → 0 ≡ k → IsColumn at [] 0 n k
    go zero e = omega arith
    go (suc k) e = absurd (omega (arith, e))
place at [] (suc off) n = record { feeds = refl; column = go }
  where
    go : (k : ℕ) → 0 ≡ k → IsColumn at [] (suc off) n k
    go zero e = omega arith
    go (suc k) e = absurd (omega (arith, e))
place at (b ∷ bs) zero n = record { feeds = none_begun at (at + 0) (b ∷ bs) (omega arith); column = go }
  where
    go : (k : ℕ) → 0 ≡ k → IsColumn at (b ∷ bs) 0 n k
    go zero e = omega arith
    go (suc k) e = absurd (omega (arith, e))
place at (b ∷ bs) (suc off) n = record { feeds = feeds (is_feed b) (place (suc at) bs off 0); column = column (is_feed b) (place (suc at) bs off) }
  where
    feeds : (t : Bool) → IsPlace (suc at) bs off 0 → begun (start_if t (suc at) ++ starts_of (suc at) bs) (at + suc off) ≡ (if t then suc (feeds_in (take off bs)) else feeds_in (take off bs))
    feeds true rest = rw (le-leb (suc at) (at + suc off) (omega arith)) (ap suc (ap (begun (starts_of (suc at) bs)) (more at off) ∙ rest.feeds))
    feeds false rest = ap (begun (starts_of (suc at) bs)) (more at off) ∙ rest.feeds

    column : (t : Bool) → ((m : ℕ) → IsPlace (suc at) bs off m) → (k : ℕ) → (if t then suc (feeds_in (take off bs)) else feeds_in (take off bs)) ≡ k → IsColumnIf at bs off n t k
    column true rest zero e = absurd (omega (arith, e))
    column true rest (suc zero) e = let c : behind_feed 0 (take off bs) ≡ 0 + min off (length bs) = (rest 0).column 0 (omega (arith, e)) in omega (arith, c)
    column true rest (suc (suc k)) e =
        let c : behind_feed 0 (take off bs) + get_or (starts_of (suc at) bs) k 0 ≡ suc at + min off (length bs) = (rest 0).column (suc k) (omega (arith, e)) in omega (arith, c)
    column false rest zero e = let c : behind_feed (suc n) (take off bs) ≡ suc n + min off (length bs) = (rest (suc n)).column 0 e in omega (arith, c)
    column false rest (suc k) e =
        let c : behind_feed (suc n) (take off bs) + get_or (starts_of (suc at) bs) k 0 ≡ suc at + min off (length bs) = (rest (suc n)).column (suc k) e in omega (arith, c)

-- the place of an offset, of which so many starts have begun
pub feeds_are : (text : List ℕ) (off feeds : ℕ) → feeds ≡ begun (starts_of 0 text) off → feeds ≡ feeds_in (take off text)
feeds_are text off feeds is = is ∙ ap (begun (starts_of 0 text)) (omega arith) ∙ (place 0 text off 0).feeds

pub column_is : (text : List ℕ) (off feeds : ℕ) → feeds ≡ feeds_in (take off text) → min off (length text) - start_of (starts_of 0 text) feeds ≡ behind_feed 0 (take off text)
column_is text off feeds is = go feeds ((place 0 text off 0).column feeds (sym is))
  where
    go : (k : ℕ) → IsColumn 0 text off 0 k → min off (length text) - start_of (starts_of 0 text) k ≡ behind_feed 0 (take off text)
    go zero c = let d : behind_feed 0 (take off text) ≡ 0 + min off (length text) = c in omega (arith, d)
    go (suc k) c = let d : behind_feed 0 (take off text) + get_or (starts_of 0 text) k 0 ≡ 0 + min off (length text) = c in omega (arith, d)

-- ---- the bytes of a line

-- the line before which k line feeds stand lies there in the text, which begins at the offset `at`
record IsPart (at : ℕ) (starts text line : List ℕ) (k : ℕ) : Type 0 where
  pub from : ℕ
  pub end : ℕ
  pub begins : get_or (at ∷ starts) k 0 ≡ at + from
  pub ends : end_of starts k (at + length text) ≡ at + end
  pub low : from ≤ end
  pub high : end ≤ length text
  pub bytes : line ≡ drop from (take end text)

module _ (at b : ℕ) (bs : List ℕ) where
  abbrev rest : List ℕ
  rest = starts_of (suc at) bs

  first : (t : Bool) → IsPart (suc at) rest bs (line_after 0 bs) 0 → IsPart at (start_if t (suc at) ++ rest) (b ∷ bs) (if t then [] else b ∷ line_after 0 bs) 0
  first true p = record { from = 0; end = 0; begins = omega arith; ends = omega arith; low = omega arith; high = omega arith; bytes = refl }
  first false p =
      let from : suc at ≡ suc at + p.from = p.begins in
      let none : p.from ≡ 0 = omega (arith, from) in
      let ends : end_of rest 0 (suc at + length bs) ≡ suc at + p.end = p.ends in
      let high : p.end ≤ length bs = p.high in record {
        from = 0;
        end = suc p.end;
        begins = omega arith;
        ends = ap (end_of rest 0) (more at (length bs)) ∙ ends ∙ sym (more at p.end);
        low = omega arith;
        high = omega (arith, high);
        bytes = ap (λ xs. b ∷ xs) (p.bytes ∙ ap (λ n. drop n (take p.end bs)) none);
      }

  later : (t : Bool) (k : ℕ) → suc k ≤ length (start_if t (suc at) ++ rest) → ((m : ℕ) → m ≤ length rest → IsPart (suc at) rest bs (line_after m bs) m) →
      IsPart at (start_if t (suc at) ++ rest) (b ∷ bs) (if t then line_after k bs else line_after (suc k) bs) (suc k)
  later true k le parts =
      let p = parts k (omega (arith, le)) in
      let low : p.from ≤ p.end = p.low in
      let high : p.end ≤ length bs = p.high in record {
        from = suc p.from;
        end = suc p.end;
        begins = p.begins ∙ sym (more at p.from);
        ends = ap (end_of rest k) (more at (length bs)) ∙ p.ends ∙ sym (more at p.end);
        low = omega (arith, low);
        high = omega (arith, high);
        bytes = p.bytes;
      }
  later false k le parts =
      let p = parts (suc k) le in
      let low : p.from ≤ p.end = p.low in
      let high : p.end ≤ length bs = p.high in record {
        from = suc p.from;
        end = suc p.end;
        begins = p.begins ∙ sym (more at p.from);
        ends = ap (end_of rest (suc k)) (more at (length bs)) ∙ p.ends ∙ sym (more at p.end);
        low = omega (arith, low);
        high = omega (arith, high);
        bytes = p.bytes;
      }

part : (at : ℕ) (text : List ℕ) (k : ℕ) → k ≤ length (starts_of at text) → IsPart at (starts_of at text) text (line_after k text) k
part at [] zero le = record { from = 0; end = 0; begins = omega arith; ends = omega arith; low = omega arith; high = omega arith; bytes = refl }
part at [] (suc k) le = absurd (omega (arith, le))
part at (b ∷ bs) zero le = first at b bs (is_feed b) (part (suc at) bs 0 (omega arith))
part at (b ∷ bs) (suc k) le = later at b bs (is_feed b) k le (part (suc at) bs)

none_after : (at : ℕ) (text : List ℕ) (k : ℕ) → length (starts_of at text) < k → line_after k text ≡ []
none_after at [] k lt = refl
none_after at (b ∷ bs) zero lt = absurd (omega (arith, lt))
none_after at (b ∷ bs) (suc k) lt = go (is_feed b) lt (none_after (suc at) bs)
  where
    go : (t : Bool) → length (start_if t (suc at) ++ starts_of (suc at) bs) < suc k → ((m : ℕ) → length (starts_of (suc at) bs) < m → line_after m bs ≡ []) →
        (if t then line_after k bs else line_after (suc k) bs) ≡ []
    go true lt rest = rest k (omega (arith, lt))
    go false lt rest = rest (suc k) lt

-- ---- what code answers

module _ (text list : List ℕ) (is : list ≡ starts_of 0 text) where
  pub list_rises : IsNonDecreasingBy (λ s. s) list
  list_rises = subst (λ (xs : List ℕ). IsNonDecreasingBy (λ s. s) xs) (sym is) (rises 0 text)

  pub place_is : (off feeds within start here column : ℕ) → feeds ≡ begun list off → within ≡ feeds → start ≡ start_of list feeds → here ≡ min off (length text) → column ≡ here - start →
      record { line = within + 1; column = column + 1 } ≡ place_at text off
  place_is off feeds within start here column begins all starts stands behind =
      let line : feeds ≡ feeds_in (take off text) = feeds_are text off feeds (begins ∙ ap (λ xs. begun xs off) is) in
      let first : start ≡ start_of (starts_of 0 text) feeds = starts ∙ ap (λ xs. start_of xs feeds) is in
      let places : column ≡ behind_feed 0 (take off text) = behind ∙ (λ i. stands i - first i) ∙ column_is text off feeds line in
      let lines : within ≡ feeds_in (take off text) = all ∙ line in
      λ i. record { line = lines i + 1; column = places i + 1 }

  pub past_lines : (k : ℕ) → length list < k → [] ≡ line_after k text
  past_lines k lt = sym (none_after 0 text k (subst (λ xs. length xs < k) is lt))

  pub line_is : (k start end : ℕ) → k ≤ length list → start ≡ start_of list k → end ≡ end_of list k (length text) → drop start (take end text) ≡ line_after k text
  line_is k start end le starts ends =
      let here : IsPart 0 (starts_of 0 text) text (line_after k text) k = part 0 text k (subst (λ xs. k ≤ length xs) is le) in
      let from : start ≡ here.from = starts ∙ ap (λ xs. start_of xs k) is ∙ here.begins ∙ omega arith in
      let to : end ≡ here.end = ends ∙ ap (λ xs. end_of xs k (length text)) is ∙ ap (end_of (starts_of 0 text) k) (omega arith) ∙ here.ends ∙ omega arith in
      (λ i. drop (from i) (take (to i) text)) ∙ sym here.bytes
