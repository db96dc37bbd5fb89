-- Where a comment ends.
use Rattle.std.proofs.Common.{◌≡◌, ℕ, ◌+◌, ◌≤◌, suc, Bool, true, false, cond, nat_eq, List, [], ◌∷◌, ◌++◌, length, drop, get_or, refl, ap, sym, ◌∙◌, subst, arith}
use Rattle.std.specs.Prelude.{Option, Some, None, ◌&&◌, ◌||◌}
use Rattle.std.specs.List.{list_all, prefix_len}
use Rattle.std.specs.Option.{option_map}
use Rattle.std.proofs.lemmas.Bool.{or_parts}
use Rattle.pt_base.proofs.Booleans.{and_parts}
use Rattle.c_lexer.specs.Comments.{is_no_line_feed, ends_line, has_close}
use Rattle.c_lexer.specs.Next.{close_of}

-- fewer than two bytes have no `*/`
pub close_none : (xs : List ℕ) → length xs ≤ 1 → close_of xs ≡ None
close_none [] h = refl
close_none (x ∷ []) h = grind arith
close_none (x ∷ y ∷ xs) h = absurd (omega arith)

-- a line ends where its run of other bytes does
pub run_ends_line : (bs : List ℕ) → ends_line (drop (prefix_len is_no_line_feed bs) bs) ≡ true
run_ends_line [] = refl
run_ends_line (b ∷ bs) = ends_at b bs (is_no_line_feed b) refl (run_ends_line bs) where
  ends_at : (b : ℕ) (bs : List ℕ) (r : Bool) → is_no_line_feed b ≡ r → ends_line (drop (prefix_len is_no_line_feed bs) bs) ≡ true
      → ends_line (drop (cond r (1 + prefix_len is_no_line_feed bs) 0) (b ∷ bs)) ≡ true
  ends_at b bs true e rest =
      let more : suc (prefix_len is_no_line_feed bs) ≡ 1 + prefix_len is_no_line_feed bs = omega arith in
      subst (λ k. ends_line (drop k (b ∷ bs)) ≡ true) more rest
  ends_at b bs false e rest = grind (arith, e)

pub run_of_line : (body after : List ℕ) → list_all is_no_line_feed body ≡ true → ends_line after ≡ true
    → prefix_len is_no_line_feed (body ++ after) ≡ length body
run_of_line [] [] all ends = refl
run_of_line [] (a ∷ after) all ends = grind (arith, ends)
run_of_line (b ∷ body) after all ends = grind (arith, all, run_of_line body after (grind (arith, all)) ends)

-- no `*/`
pub open_has_none : (bs : List ℕ) → has_close bs ≡ false → close_of bs ≡ None
open_has_none [] h = refl
open_has_none (b ∷ bs) h = grind (arith, h, open_has_none bs (grind (arith, h)))

none_at : (t : Bool) (o : Option ℕ) → cond t (Some 2) (option_map (λ n. n + 1) o) ≡ None → (t ≡ false) × (o ≡ None)
none_at true o h = absurd (cc)
none_at false None h = (refl, refl)
none_at false (Some n) h = absurd (cc)

pub none_is_open : (bs : List ℕ) → close_of bs ≡ None → has_close bs ≡ false
none_is_open [] h = refl
none_is_open (b ∷ bs) h =
    let no = none_at (nat_eq b 42 && nat_eq (get_or bs 0 0) 47) (close_of bs) h in
    ap (λ t. t || has_close bs) no.0 ∙ none_is_open bs no.1

-- the first `*/` stands behind a body without one
pub close_of_body : (body after : List ℕ) → has_close body ≡ false → close_of (body ++ (42 ∷ (47 ∷ after))) ≡ Some (2 + length body)
close_of_body [] after h = refl
close_of_body (b ∷ []) after h = grind (arith, h)
close_of_body (b ∷ c ∷ body) after h =
    let parts = or_parts (nat_eq b 42 && nat_eq c 47) (has_close (c ∷ body)) h in
    let rest = close_of_body (c ∷ body) after parts.1 in
    let size : 2 + suc (length body) + 1 ≡ 2 + suc (suc (length body)) = omega arith in
    ap (λ t. cond t (Some 2) (option_map (λ n. n + 1) (close_of (c ∷ (body ++ (42 ∷ (47 ∷ after))))))) parts.0 ∙ ap (option_map (λ n. n + 1)) rest ∙ ap Some size

-- the bytes up to the first `*/`
pub record Closed (bs : List ℕ) (n : ℕ) : Type 0 where
  pub body : List ℕ
  pub after : List ℕ
  pub is : bs ≡ body ++ (42 ∷ (47 ∷ after))
  pub size : n ≡ 2 + length body
  pub no_close : has_close body ≡ false

first_is : (bs : List ℕ) → nat_eq (get_or bs 0 0) 47 ≡ true → bs ≡ 47 ∷ drop 1 bs
first_is [] h = absurd (cc)
first_is (b ∷ bs) h = let e : b ≡ 47 = grind (arith, h) in ap (λ x. x ∷ bs) e

first_stays : (b : ℕ) (body rest : List ℕ) → (nat_eq b 42 && nat_eq (get_or (body ++ rest) 0 0) 47) ≡ false
    → (nat_eq b 42 && nat_eq (get_or body 0 0) 47) ≡ false
first_stays b [] rest h = grind arith
first_stays b (c ∷ body) rest h = h

pub mapped : (f : ℕ → ℕ) (o : Option ℕ) (n : ℕ) → option_map f o ≡ Some n → (i : ℕ) × (o ≡ Some i) × (f i ≡ n)
mapped f None n h = absurd (cc)
mapped f (Some i) n h = (i, refl, cc)

closed_at : (b : ℕ) (bs : List ℕ) (n : ℕ) (r : Bool) → (nat_eq b 42 && nat_eq (get_or bs 0 0) 47) ≡ r
    → cond r (Some 2) (option_map (λ n. n + 1) (close_of bs)) ≡ Some n → ((i : ℕ) → close_of bs ≡ Some i → Closed bs i) → Closed (b ∷ bs) n
closed_at b bs n true e h later =
    let tests = and_parts (nat_eq b 42) (nat_eq (get_or bs 0 0) 47) e in
    let star : b ≡ 42 = grind (arith, tests.0) in
    record {
      body = [];
      after = drop 1 bs;
      is = ap (λ x. x ∷ bs) star ∙ ap (λ xs. 42 ∷ xs) (first_is bs tests.1);
      size = cc;
      no_close = refl;
    }
closed_at b bs n false e h later =
    let inner = mapped (λ n. n + 1) (close_of bs) n h in
    let rest = later inner.0 inner.1 in
    let stays = first_stays b rest.body (42 ∷ (47 ∷ rest.after)) (ap (λ xs. nat_eq b 42 && nat_eq (get_or xs 0 0) 47) (sym rest.is) ∙ e) in
    record {
      body = b ∷ rest.body;
      after = rest.after;
      is = ap (λ xs. b ∷ xs) rest.is;
      size = omega (arith, inner.2, rest.size);
      no_close = ap (λ t. t || has_close rest.body) stays ∙ rest.no_close;
    }

pub closed : (bs : List ℕ) (n : ℕ) → close_of bs ≡ Some n → Closed bs n
closed [] n h = absurd (cc)
closed (b ∷ bs) n h = closed_at b bs n (nat_eq b 42 && nat_eq (get_or bs 0 0) 47) refl h (closed bs)
