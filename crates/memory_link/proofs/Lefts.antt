-- What is left of a message.
use Rattle.std.proofs.Common.{◌≡◌, ◌≤◌, ◌-◌, ℕ, suc, List, [], ◌∷◌, length, drop, eqb, sym, ap, ◌∙◌, arith, length-drop}
use Rattle.std.proofs.lemmas.Bool.{eq-eqb, ne_eqb}
use Rattle.pair_protocol.specs.Pair.{is_empty}

-- all bytes were given where none is left
pub none_is : (given : ℕ) (bytes left : List ℕ) → given ≤ length bytes → drop given bytes ≡ left → eqb given (length bytes) ≡ is_empty left
none_is given bytes [] le e = eq-eqb given (length bytes) (all given (length bytes) le (sym (length-drop given bytes) ∙ ap length e))
  where
    all : (a b : ℕ) → a ≤ b → b - a ≡ 0 → a ≡ b
    all a b h k = omega (arith, h, k)
none_is given bytes (b ∷ left) le e = ne_eqb given (length bytes) (λ same. some given (length bytes) (length left) same (sym (length-drop given bytes) ∙ ap length e))
  where
    some : (a b n : ℕ) → a ≡ b → b - a ≡ suc n → ⊥
    some a b n h k = omega (arith, h, k)
