-- The answers that were taken from a chooser.
use Rattle.std.specs.Prelude.{◌≡◌, ℕ, ◌+◌, List, [], ◌∷◌, ⊤, Option, Some, None}
use Rattle.pt_base.specs.declared.chooser.Who as base
use Rattle.pt_base.specs.declared.chooser.Who.TheVariants as who
use Rattle.pair_protocol.specs.Pair.{Who, slaves, parents}

-- the half that an answer names
abbrev pub half_named : base.Who → Who
half_named who.Slave = slaves
half_named who.Parent = parents

-- these are the first of what was told, and the rest is told still
abbrev pub AreFirst : List Who → (ℕ → base.Who) → (ℕ → base.Who) → Type 0
AreFirst [] told rest = (k : ℕ) → rest k ≡ told k
AreFirst (answer ∷ answers) told rest = (answer ≡ half_named (told 0)) × AreFirst answers (λ k. told (k + 1)) rest

-- A chooser that tells its answers gave these, and tells the others as before.
abbrev pub AreTaken : List Who → Option (ℕ → base.Who) → Option (ℕ → base.Who) → Type 0
AreTaken answers None rest = ⊤
AreTaken answers (Some told) None = ⊥
AreTaken answers (Some told) (Some rest) = AreFirst answers told rest
