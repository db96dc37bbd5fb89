-- Which hosts are mixed: they stand in plain code, and yet take what is secret.
use Rattle.std.specs.Prelude.{Bool, not, ◌&&◌}
use Rattle.std.specs.List.{list_any}
use Rattle.pt_tree.specs.declared.signature.Signature.{Signature}

-- a host that isn't privileged and has a marked parameter
abbrev pub is_mixed : Signature → Bool
is_mixed s = not s.privileged && list_any (λ p. p.marked) s.params
