-- Where each pair comes to an end alone, every chooser comes to whole turns.
use Rattle.std.proofs.Common.{◌≡◌, ◌+◌, ◌<◌, ◌≤◌, ◌⊎◌, ℕ, zero, suc, List, [], ◌∷◌, ◌++◌, map, take, replicate, slice_get, slice_set, Bool, true, false, Some, inl, inr, refl, sym, ◌∙◌, ap, subst, arith}
use Rattle.facts.proofs.Booleans.{false_not_true}
use Rattle.facts.proofs.Numbers.{suc_plus, zero_plus}
use Rattle.pair_protocol.specs.Sides.{Sides, of_bool}
use Rattle.pair_protocol.specs.Pair.{Both, run, done, wrong, both_from, Who, slaves, parents}
use Rattle.session_turns.specs.Turns.{GoesOn, is_running, count_running, Reach, TurnsLead, begun, over}
use Rattle.session_turns.specs.TurnsLaws.{ComeTo, first_of, TurnsEnd}
use Rattle.session_turns.proofs.Laters.{done_stays}
use Rattle.session_turns.proofs.Onward.{all_come}

-- ---- the pairs come to their ends in so many steps in all

abbrev Within : {S M X R E Q : Type 0} → Sides S M X R E Q → ℕ → List (Both S M E Q) → List (List ℕ × E) → Type 0
Within g n [] [] = Unit {0}
Within g n [] (e ∷ es) = ⊥
Within g n (b ∷ bs) [] = ⊥
Within g n (b ∷ bs) (e ∷ es) = (k : ℕ) × (left : ℕ) × (k + left ≤ n) × (both_from g k b ≡ done e.0 e.1) × Within g left bs es

come_within : {S M X R E Q : Type 0} (g : Sides S M X R E Q) (starts : List (S × M)) (ends : List (List ℕ × E)) → ComeTo g starts ends → (n : ℕ) × Within g n (map begun starts) ends
come_within g [] [] h = (0, tt {0})
come_within g [] (e ∷ es) h = absurd h
come_within g (x ∷ xs) [] h = absurd h
come_within g (x ∷ xs) (e ∷ es) h =
    let rest = come_within g xs es h.1 in
    (h.0.0 + rest.0, (h.0.0, rest.0, omega arith, h.0.1, rest.1))

-- ---- where none runs, all are over

abbrev is_done : {S M E Q : Type 0} → Both S M E Q → Bool
is_done (run s m w) = false
is_done (done bytes e) = true
is_done (wrong bytes q) = false

pub wrong_stays : {S M X R E Q : Type 0} (g : Sides S M X R E Q) (k : ℕ) (bytes : List ℕ) (q : Q) → both_from g k (wrong bytes q) ≡ wrong bytes q
wrong_stays g zero bytes q = refl
wrong_stays g (suc k) bytes q = wrong_stays g k bytes q

none_of_one : (n : ℕ) → 1 + n ≡ 0 → ⊥
none_of_one n e = omega (arith, e)

none_behind : (n : ℕ) → 0 + n ≡ 0 → n ≡ 0
none_behind n e = omega (arith, e)

all_over : {S M X R E Q : Type 0} (g : Sides S M X R E Q) (n : ℕ) (bs : List (Both S M E Q)) (es : List (List ℕ × E)) → Within g n bs es → count_running bs ≡ 0 → map over es ≡ bs
all_over g n [] [] h none = refl
all_over g n [] (e ∷ es) h none = absurd h
all_over g n (b ∷ bs) [] h none = absurd h
all_over g n (run s m w ∷ bs) (e ∷ es) h none = absurd (none_of_one (count_running bs) none)
all_over g n (done bytes end ∷ bs) (e ∷ es) h none =
    let same = sym h.3 ∙ done_stays g h.0 bytes end in
    let others = all_over g h.1 bs es h.4 (none_behind (count_running bs) none) in
    λ i. same i ∷ others i
all_over g n (wrong bytes q ∷ bs) (e ∷ es) h none = false_not_true (ap is_done (sym (wrong_stays g h.0 bytes q) ∙ h.3))

-- ---- the one before which so many run goes on, and all have fewer steps to go

record Found {S M X R E Q : Type 0} (g : Sides S M X R E Q) (n : ℕ) (bs : List (Both S M E Q)) (es : List (List ℕ × E)) (k : ℕ) : Type 0 where
  place : ℕ
  slave : S
  monitor : M
  written : List ℕ
  next : Both S M E Q
  stands : slice_get bs place ≡ Some (run slave monitor written)
  passed : count_running (take place bs) ≡ k
  onward : GoesOn g slave monitor written next
  less : ℕ
  fewer : less < n
  within : Within g less (slice_set bs place next) es

found_here : {S M X R E Q : Type 0} (g : Sides S M X R E Q) (n : ℕ) (s : S) (m : M) (w : List ℕ) (bs : List (Both S M E Q)) (e : List ℕ × E) (es : List (List ℕ × E)) (i left : ℕ) → i + left ≤ n →
    both_from g i (run s m w) ≡ done e.0 e.1 → Within g left bs es → Found g n (run s m w ∷ bs) (e ∷ es) 0
found_here g n s m w bs e es i left few comes rest =
    let next = all_come g i s m w e.0 e.1 comes in
    let fewer = next.fewer in
    record {
      place = 0;
      slave = s;
      monitor = m;
      written = w;
      next = next.next;
      stands = refl;
      passed = refl;
      onward = next.onward;
      less = next.left + left;
      fewer = omega (arith, few, fewer);
      within = (next.left, left, omega arith, next.comes, rest);
    }

found_behind : {S M X R E Q : Type 0} (g : Sides S M X R E Q) (n : ℕ) (b : Both S M E Q) (bs : List (Both S M E Q)) (e : List ℕ × E) (es : List (List ℕ × E)) (i left k : ℕ) → i + left ≤ n →
    both_from g i b ≡ done e.0 e.1 → Found g left bs es k → Found g n (b ∷ bs) (e ∷ es) (of_bool (is_running b) + k)
found_behind g n b bs e es i left k few comes f =
    let fewer = f.fewer in
    record {
      place = suc f.place;
      slave = f.slave;
      monitor = f.monitor;
      written = f.written;
      next = f.next;
      stands = f.stands;
      passed = ap (λ c. of_bool (is_running b) + c) f.passed;
      onward = f.onward;
      less = i + f.less;
      fewer = omega (arith, few, fewer);
      within = (i, f.less, omega arith, comes, f.within);
    }

below_behind_one : (k n : ℕ) → suc k < 1 + n → k < n
below_behind_one k n h = omega (arith, h)

below_behind_none : (k n : ℕ) → k < 0 + n → k < n
below_behind_none k n h = omega (arith, h)

one_plus : (k : ℕ) → 1 + k ≡ suc k
one_plus k = omega arith

find : {S M X R E Q : Type 0} (g : Sides S M X R E Q) (n : ℕ) (bs : List (Both S M E Q)) (es : List (List ℕ × E)) → Within g n bs es → (k : ℕ) → k < count_running bs → Found g n bs es k
find g n [] [] h k below = absurd (omega (arith, below))
find g n [] (e ∷ es) h k below = absurd h
find g n (b ∷ bs) [] h k below = absurd h
find g n (run s m w ∷ bs) (e ∷ es) h zero below = found_here g n s m w bs e es h.0 h.1 h.2 h.3 h.4
find g n (run s m w ∷ bs) (e ∷ es) h (suc k) below =
    subst (λ c. Found g n (run s m w ∷ bs) (e ∷ es) c) (one_plus k)
    (found_behind g n (run s m w) bs e es h.0 h.1 k h.2 h.3 (find g h.1 bs es h.4 k (below_behind_one k (count_running bs) below)))
find g n (done bytes end ∷ bs) (e ∷ es) h k below =
    subst (λ c. Found g n (done bytes end ∷ bs) (e ∷ es) c) (zero_plus k)
    (found_behind g n (done bytes end) bs e es h.0 h.1 k h.2 h.3 (find g h.1 bs es h.4 k (below_behind_none k (count_running bs) below)))
find g n (wrong bytes q ∷ bs) (e ∷ es) h k below =
    subst (λ c. Found g n (wrong bytes q ∷ bs) (e ∷ es) c) (zero_plus k)
    (found_behind g n (wrong bytes q) bs e es h.0 h.1 k h.2 h.3 (find g h.1 bs es h.4 k (below_behind_none k (count_running bs) below)))

-- ---- the answers of a turn

abbrev Walks : ℕ → (ℕ → Who) → Type 0
Walks left told = ((j : ℕ) × (j < left) × (first_of (suc j) told ≡ replicate j slaves ++ parents ∷ [])) ⊎ (first_of left told ≡ replicate left slaves)

walk_on : (left : ℕ) (told : ℕ → Who) (who : Who) → told 0 ≡ who → Walks left (λ k. told (suc k)) → Walks (suc left) told
walk_on left told slaves is (inl h) = let below = h.1 in let same = h.2 in inl (suc h.0, omega (arith, below), λ i. is i ∷ same i)
walk_on left told slaves is (inr same) = inr (λ i. is i ∷ same i)
walk_on left told parents is rest = inl (0, omega arith, ap (λ who. who ∷ []) is)

walk : (left : ℕ) (told : ℕ → Who) → Walks left told
walk zero told = inr refl
walk (suc left) told = walk_on left told (told 0) refl (walk left (λ k. told (suc k)))

record Turn (count : ℕ) (told : ℕ → Who) : Type 0 where
  asked : ℕ
  passed : ℕ
  below : passed < count
  reaches : Reach count (first_of asked told) passed

turn_by : (count : ℕ) (told : ℕ → Who) → 0 < count → Walks count told → Turn count told
turn_by count told some (inl h) = record { asked = suc h.0; passed = h.0; below = h.1; reaches = inl (h.1, h.2) }
turn_by count told some (inr h) = record { asked = count; passed = 0; below = some; reaches = inr (some, h, refl) }

-- ---- turn behind turn

abbrev behind : ℕ → (ℕ → Who) → ℕ → Who
behind zero told = told
behind (suc n) told = behind n (λ k. told (suc k))

first_more : (n k : ℕ) (told : ℕ → Who) → first_of (n + k) told ≡ first_of n told ++ first_of k (behind n told)
first_more zero k told = ap (λ n. first_of n told) (zero_plus k)
first_more (suc n) k told = ap (λ n. first_of n told) (sym (suc_plus n k)) ∙ ap (λ xs. told 0 ∷ xs) (first_more n k (λ k. told (suc k)))

record Whole {S M X R E Q : Type 0} (g : Sides S M X R E Q) (bs : List (Both S M E Q)) (es : List (List ℕ × E)) (told : ℕ → Who) : Type 0 where
  asked : ℕ
  turns : ℕ
  lead : TurnsLead g turns (first_of asked told) bs (map over es)

abbrev AllWhole : {S M X R E Q : Type 0} → Sides S M X R E Q → ℕ → Type 0
AllWhole {S = S} {M = M} {E = E} {Q = Q} g most = (n : ℕ) → n < most → (bs : List (Both S M E Q)) (es : List (List ℕ × E)) → Within g n bs es → (told : ℕ → Who) → Whole g bs es told

whole_behind : {S M X R E Q : Type 0} (g : Sides S M X R E Q) (most : ℕ) → AllWhole g most → (n : ℕ) → n < suc most → (bs : List (Both S M E Q)) (es : List (List ℕ × E)) (told : ℕ → Who) →
    (t : Turn (count_running bs) told) → Found g n bs es t.passed → Whole g bs es told
whole_behind g most all n few bs es told t f =
    let fewer = f.fewer in
    let rest = all f.less (omega (arith, few, fewer)) (slice_set bs f.place f.next) es f.within (behind t.asked told) in
    record {
      asked = t.asked + rest.asked;
      turns = suc rest.turns;
      lead = (
        first_of t.asked told,
        first_of rest.asked (behind t.asked told),
        slice_set bs f.place f.next,
        first_more t.asked rest.asked told,
        record {
          place = f.place;
          slave = f.slave;
          monitor = f.monitor;
          written = f.written;
          next = f.next;
          stands = f.stands;
          reached = subst (λ k. Reach (count_running bs) (first_of t.asked told) k) (sym f.passed) t.reaches;
          onward = f.onward;
          others_stay = refl;
        },
        rest.lead,
      );
    }

none_or_some : (n : ℕ) → (n ≡ 0) ⊎ (0 < n)
none_or_some zero = inl refl
none_or_some (suc n) = inr (omega arith)

whole_in : {S M X R E Q : Type 0} (g : Sides S M X R E Q) (most : ℕ) → AllWhole g most → (n : ℕ) → n < suc most → (bs : List (Both S M E Q)) (es : List (List ℕ × E)) → Within g n bs es → (told : ℕ → Who) →
    (count_running bs ≡ 0) ⊎ (0 < count_running bs) → Whole g bs es told
whole_in g most all n few bs es h told (inl none) = record { asked = 0; turns = 0; lead = (refl, all_over g n bs es h none) }
whole_in g most all n few bs es h told (inr some) =
    let t = turn_by (count_running bs) told some (walk (count_running bs) told) in
    whole_behind g most all n few bs es told t (find g n bs es h t.passed t.below)

all_whole : {S M X R E Q : Type 0} (g : Sides S M X R E Q) (most : ℕ) → AllWhole g most
all_whole g zero n few bs es h told = absurd (omega (arith, few))
all_whole g (suc most) n few bs es h told = whole_in g most (all_whole g most) n few bs es h told (none_or_some (count_running bs))

pub turns_end : (S M X R E Q : Type 0) → TurnsEnd S M X R E Q
turns_end S M X R E Q g starts ends h told =
    let come = come_within g starts ends h in
    let whole = all_whole g (suc come.0) come.0 (omega arith) (map begun starts) ends come.1 told in
    (whole.asked, record { turns = whole.turns; lead = whole.lead })
