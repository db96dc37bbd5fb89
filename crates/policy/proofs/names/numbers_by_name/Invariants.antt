use Rattle.std.proofs.Common.{◌≡◌, ◌≤◌, ℕ, List, length, drop, map}
use Rattle.std.specs.List.{position_from}
use Rattle.std.specs.Map.{lookup}
use Rattle.std.specs.Str.{bytes_eq}
use Rattle.policy.proofs.names.numbers_by_name.Given as goal

-- the functions from here on have their numbers
abbrev pub invariant-loop-next : goal.invariant-loop-next
invariant-loop-next l = record {
  within : l.next ≤ length l.signatures;
  named : (name : List ℕ) → lookup (λ k. bytes_eq name k.now) l.numbers.entries ≡ position_from (λ s. bytes_eq s.name name) l.next (map (λ s. s.now) (drop l.next l.signatures));
}

abbrev pub decreases-loop-next : goal.decreases-loop-next
decreases-loop-next l = l.next
