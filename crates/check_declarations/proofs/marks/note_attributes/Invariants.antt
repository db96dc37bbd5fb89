use Rattle.std.proofs.Common.{◌≡◌, ◌++◌, drop, not}
use Rattle.std.specs.Prelude.{flat_map}
use Rattle.check_declarations.specs.declared.fault.FaultKind.TheVariants.{BadAttribute}
use Rattle.check_declarations.specs.Faults.{fault_if}
use Rattle.check_declarations.specs.Marks.{may_stand, marks_of, mark_faults}
use Rattle.check_declarations.proofs.marks.note_attributes.Given as goal

abbrev pub invariant-loop-a : goal.invariant-loop-a
invariant-loop-a l = record {
  marked : l.marked ≡ (marks_of l.fn.attributes).marked;
  faults : l.faults.items ++ flat_map (λ a. fault_if (not (may_stand l.carrier (marks_of l.fn.attributes).marked a.mark)) BadAttribute a.span) (drop l.a-index l.attributes) ≡ l.fn.faults.items ++ mark_faults l.carrier l.fn.attributes;
}
