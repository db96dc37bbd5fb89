-- The two bounds of a word.
use Rattle.std.proofs.Common.{◌≡◌, ◌∙◌, ◌+◌, ◌-◌, ◌<◌, ℕ, ℤ, suc, Bool, true, false, cond, not, ◌&&◌, nat_lt, ◌==◌, if◌then◌else◌, List, [], ◌∷◌, length, take, drop, slice_index, Option, Some, None, refl, ap, ap₂, sym, arith, one-add, length-drop, take_all, eq-eqb}
use Rattle.std.specs.List.{position, position_or_len}
use Rattle.pt_base.proofs.Numbers.{nat_lt_below}
use Rattle.policy.specs.Reading.{bound_of, bounds_of, pair_of}

-- at the first place that passes, the byte passes
at_dot : (word : List ℕ) → position_or_len (λ b. b == 46) word < length word → (slice_index word (position_or_len (λ b. b == 46) word) == 46) ≡ true
at_dot [] = λ h. absurd (omega arith)
at_dot (b ∷ bs) = go (b == 46) refl (at_dot bs)
  where
    go : (t : Bool) → (b == 46) ≡ t
        → (position_or_len (λ c. c == 46) bs < length bs → (slice_index bs (position_or_len (λ c. c == 46) bs) == 46) ≡ true)
        → cond (not t) (1 + position_or_len (λ c. c == 46) bs) 0 < suc (length bs) → (slice_index (b ∷ bs) (cond (not t) (1 + position_or_len (λ c. c == 46) bs) 0) == 46) ≡ true
    go true e rest h = e
    go false e rest h =
        let here : position_or_len (λ c. c == 46) bs < length bs = omega arith in
        ap (λ k. slice_index (b ∷ bs) k == 46) (one-add (position_or_len (λ c. c == 46) bs)) ∙ rest here

some_if : (t : Bool) (m n : ℕ) → ◌≡◌ {A = Option ℕ} (Some n) (cond t (Some m) None) → (t ≡ true) × (n ≡ m)
some_if true m n e = (refl, cc)
some_if false m n e = cc

pub bounds_is : (word : List ℕ) (n : ℕ) (low high : ℤ) → Some n ≡ position (λ b. b == 46) word → slice_index word (n + 1) ≡ 46
    → Some low ≡ bound_of (take n word) → Some high ≡ bound_of (take (length word - (n + 2)) (drop (n + 2) word)) → Some (low, high) ≡ bounds_of word
bounds_is word n low high found second l h =
    let is : (nat_lt (position_or_len (λ b. b == 46) word) (length word) ≡ true) × (n ≡ position_or_len (λ b. b == 46) word)
    = some_if (nat_lt (position_or_len (λ b. b == 46) word) (length word)) (position_or_len (λ b. b == 46) word) n found in
    let within : position_or_len (λ b. b == 46) word < length word = nat_lt_below (position_or_len (λ b. b == 46) word) (length word) is.0 in
    let tail : take (length word - (n + 2)) (drop (n + 2) word) ≡ drop (n + 2) word = take_all (length word - (n + 2)) (drop (n + 2) word) (omega (arith, length-drop (n + 2) word)) in
    let next : (slice_index word (n + 1) == 46) ≡ true = eq-eqb (slice_index word (n + 1)) 46 second in
    ap₂ pair_of l (h ∙ ap bound_of tail)
    ∙ ap (λ k. pair_of (bound_of (take k word)) (bound_of (drop (k + 2) word))) is.1
    ∙ ap₂ (λ a b. if a && b then pair_of (bound_of (take (position_or_len (λ b. b == 46) word) word)) (bound_of (drop (position_or_len (λ b. b == 46) word + 2) word)) else None)
    (sym (at_dot word within)) (sym (ap (λ k. slice_index word (k + 1) == 46) (sym is.1) ∙ next))
