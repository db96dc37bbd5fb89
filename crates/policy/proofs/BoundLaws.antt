-- The two bounds of a word, by its first point.
use Rattle.std.proofs.Common.{◌≡◌, ◌∙◌, ◌+◌, ℕ, ℤ, zero, suc, cond, not, ◌&&◌, ◌==◌, if◌then◌else◌, List, [], ◌∷◌, ◌++◌, length, take, drop, slice_index, Option, Some, None, refl, ap, ap₂, sym, arith, one-add, add-zero, suc-add}
use Rattle.std.specs.List.{position_or_len}
use Rattle.std.proofs.lemmas.Bool.{eqb-true}
use Rattle.pt_base.proofs.Booleans.{and_parts}
use Rattle.pt_base.proofs.Numbers.{plus_one}
use Rattle.pt_base.proofs.Places.{take_front}
use Rattle.policy.specs.Rules.{AreBounds}
use Rattle.policy.specs.Reading.{bound_of, bounds_of, pair_of}
use Rattle.policy.proofs.OptionLemmas.{if_some}
use Rattle.policy.proofs.DecimalLaws.{bound_is, bound_gives, bound_pointless, Pointless}

-- two points stand at the place
cut_at : (word : List ℕ) (k : ℕ) → slice_index word k ≡ 46 → slice_index word (suc k) ≡ 46 → word ≡ take k word ++ (46 ∷ 46 ∷ drop (suc (suc k)) word)
cut_at [] k a b = cc
cut_at (x ∷ []) zero a b = cc
cut_at (x ∷ y ∷ word) zero a b = ap₂ (λ p q. p ∷ q ∷ word) a b
cut_at (x ∷ word) (suc k) a b = ap (λ w. x ∷ w) (cut_at word k a b)

add_two : (k : ℕ) → k + 2 ≡ suc (suc k)
add_two k = omega arith

record Cut (word : List ℕ) (dot : ℕ) (p : ℤ × ℤ) : Type 0 where
  spelled : word ≡ take dot word ++ (46 ∷ 46 ∷ drop (dot + 2) word)
  low : bound_of (take dot word) ≡ Some p.0
  high : bound_of (drop (dot + 2) word) ≡ Some p.1

pair_is : (low high : Option ℤ) (p : ℤ × ℤ) → pair_of low high ≡ Some p → (low ≡ Some p.0) × (high ≡ Some p.1)
pair_is None high p e = cc
pair_is (Some l) None p e = cc
pair_is (Some l) (Some h) p e =
    let same : ◌≡◌ {A = ℤ × ℤ} (l, h) p = cc in
    (ap (λ q. Some q.0) same, ap (λ q. Some q.1) same)

cut_is : (word : List ℕ) (dot : ℕ) (p : ℤ × ℤ)
    → (if (slice_index word dot == 46) && (slice_index word (dot + 1) == 46) then pair_of (bound_of (take dot word)) (bound_of (drop (dot + 2) word)) else None) ≡ Some p → Cut word dot p
cut_is word dot p e =
    let found = if_some ((slice_index word dot == 46) && (slice_index word (dot + 1) == 46)) (pair_of (bound_of (take dot word)) (bound_of (drop (dot + 2) word))) p e in
    let points = and_parts (slice_index word dot == 46) (slice_index word (dot + 1) == 46) found.0 in
    let first : slice_index word dot ≡ 46 = eqb-true (slice_index word dot) 46 points.0 in
    let second : slice_index word (suc dot) ≡ 46 = ap (slice_index word) (sym (plus_one dot)) ∙ eqb-true (slice_index word (dot + 1)) 46 points.1 in
    let pair = pair_is (bound_of (take dot word)) (bound_of (drop (dot + 2) word)) p found.1 in
    record {
      spelled = cut_at word dot first second ∙ ap (λ n. take dot word ++ (46 ∷ 46 ∷ drop n word)) (sym (add_two dot));
      low = pair.0;
      high = pair.1;
    }

pub bounds_are : (word : List ℕ) (p : ℤ × ℤ) → bounds_of word ≡ Some p → AreBounds word p.0 p.1
bounds_are word p e =
    let dot : ℕ = position_or_len (λ b. b == 46) word in
    let c = cut_is word dot p e in
    record {
      low_word = take dot word;
      high_word = drop (dot + 2) word;
      spelled = c.spelled;
      low_bound = bound_is (take dot word) p.0 c.low;
      high_bound = bound_is (drop (dot + 2) word) p.1 c.high;
    }

-- the first point is behind a word that has none
dot_behind : (low rest : List ℕ) → Pointless low → position_or_len (λ b. b == 46) (low ++ 46 ∷ rest) ≡ length low
unfolding Pointless
dot_behind [] rest none = refl
dot_behind (b ∷ bs) rest none =
    ap (λ t. cond (not t) (1 + position_or_len (λ c. c == 46) (bs ++ 46 ∷ rest)) 0) none.0
    ∙ one-add (position_or_len (λ c. c == 46) (bs ++ 46 ∷ rest)) ∙ ap suc (dot_behind bs rest none.1)

at_behind : (low rest : List ℕ) (k : ℕ) → slice_index (low ++ rest) (length low + k) ≡ slice_index rest k
at_behind [] rest k = ap (slice_index rest) (omega arith)
at_behind (b ∷ bs) rest k = ap (slice_index (b ∷ (bs ++ rest))) (suc-add (length bs) k) ∙ at_behind bs rest k

drop_behind : (low rest : List ℕ) (k : ℕ) → drop (length low + k) (low ++ rest) ≡ drop k rest
drop_behind [] rest k = ap (λ n. drop n rest) (omega arith)
drop_behind (b ∷ bs) rest k = ap (λ n. drop n (b ∷ (bs ++ rest))) (suc-add (length bs) k) ∙ drop_behind bs rest k

pub bounds_give : (word : List ℕ) (low high : ℤ) → AreBounds word low high → bounds_of word ≡ Some (low, high)
bounds_give word low high are = ap bounds_of are.spelled ∙ given are.low_word are.high_word (bound_pointless are.low_word low are.low_bound) (bound_gives are.low_word low are.low_bound) (bound_gives are.high_word high are.high_bound)
  where
    given : (l h : List ℕ) → Pointless l → bound_of l ≡ Some low → bound_of h ≡ Some high → bounds_of (l ++ (46 ∷ 46 ∷ h)) ≡ Some (low, high)
    given l h none a b =
        let word' : List ℕ = l ++ (46 ∷ 46 ∷ h) in
        let first : slice_index word' (length l) ≡ 46 = ap (slice_index word') (sym (add-zero (length l))) ∙ at_behind l (46 ∷ 46 ∷ h) 0 in
        let second : slice_index word' (length l + 1) ≡ 46 = at_behind l (46 ∷ 46 ∷ h) 1 in
        ap (λ dot. if (slice_index word' dot == 46) && (slice_index word' (dot + 1) == 46) then pair_of (bound_of (take dot word')) (bound_of (drop (dot + 2) word')) else None) (dot_behind l (46 ∷ h) none)
        ∙ ap₂ (λ x y. if (x == 46) && (y == 46) then pair_of (bound_of (take (length l) word')) (bound_of (drop (length l + 2) word')) else None) first second
        ∙ ap₂ (λ x y. pair_of (bound_of x) (bound_of y)) (take_front l (46 ∷ 46 ∷ h)) (drop_behind l (46 ∷ 46 ∷ h) 2)
        ∙ ap₂ pair_of a b
