-- Slots by their numbers.
use Rattle.std.proofs.Common.{◌≡◌, ℕ, ◌⊎◌, inl, inr, ap}
use Rattle.std.proofs.lemmas.Bool.{cases_eq}
use Rattle.pt_base.specs.declared.slot.Slot.{Slot}

-- slots with one number are one slot
pub same_slot : (a b : Slot) → a.0 ≡ b.0 → a ≡ b
same_slot a b e = ap (λ (n : ℕ). let s : Slot = record { 0 = n } in s) e

pub slot_cases : (a b : Slot) → (a ≡ b) ⊎ (a.0 ≡ b.0 → ⊥)
slot_cases a b = elim (cases_eq a.0 b.0) as (λ _. (a ≡ b) ⊎ (a.0 ≡ b.0 → ⊥)) [ inl e ↦ inl (same_slot a b e) | inr ne ↦ inr ne ]

abbrev pub zero_slot : Slot
zero_slot = record { 0 = 0 }
