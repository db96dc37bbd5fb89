-- The halves of an accepted program are halves of it.
use Rattle.std.specs.Prelude.{IsTrue}
use Rattle.typed_tree.specs.TypedTree.{TypedTree}
use Rattle.typed_tree.specs.WellFormed.{is_well_formed}
use Rattle.flow_rules.specs.declared.accepted.Accepted.{Accepted}
use Rattle.flow_rules.specs.Faults.{IsAccepted}
use Rattle.pt_core.specs.WellFormed.{slave_program}
use Rattle.lowering.specs.Functions.{core_program}
use Rattle.pair_invariant_law.specs.Halves.{AreHalvesOf}
pub use Rattle.splitter.specs.Accepted.{monitor_half, slave_half}

-- Of a well-formed program that breaks no rule, they are halves of the whole program in the normal form.
abbrev pub AcceptedHalves : Type 0
AcceptedHalves = (t : TypedTree) (a : Accepted) → IsTrue (is_well_formed t) → IsAccepted t a → AreHalvesOf (core_program t) (slave_program (slave_half t a)) (monitor_half t a)
