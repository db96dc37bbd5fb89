use Rattle.std.proofs.Common.{◌∙◌, ◌<◌, List, subst, sym}
use Rattle.std.specs.Prelude.{All}
use Rattle.pt_base.specs.declared.slot.Edge.{Edge}
use Rattle.pt_base.specs.declared.slot.Slot.{Slot}
use Rattle.pt_core.specs.CodeTree.{view_monitor}
use Rattle.auditing.proofs.AuditLemmas.{marks_are}
use Rattle.auditing.proofs.verdicts.label_marks.Goals as goal

pub propagate-requires-clause-seeds : goal.propagate-requires-clause-seeds
propagate-requires-clause-seeds g c = subst (λ (ss : List Slot). All (λ (s : Slot). s.0 < c.args.nodes.now.count) ss) (sym c.as_slice.ensures) c.requires.seeds

pub propagate-requires-clause-froms : goal.propagate-requires-clause-froms
propagate-requires-clause-froms g c = subst (λ (es : List Edge). All (λ (e : Edge). e.from.0 < c.args.nodes.now.count) es) (sym c.as_slice-2.ensures) c.in_ok-edges.ensures.froms

pub propagate-requires-clause-tos : goal.propagate-requires-clause-tos
propagate-requires-clause-tos g c = subst (λ (es : List Edge). All (λ (e : Edge). e.to.0 < c.args.nodes.now.count) es) (sym c.as_slice-2.ensures) c.in_ok-edges.ensures.tos

pub returns : goal.returns
returns g c =
    marks_are (view_monitor c.args.p.now) c.as_slice.result.now c.as_slice-2.result.now c.args.nodes.now.count c.in_ok-marks.marks
    (c.as_slice.ensures ∙ c.requires.nodes.seeds) (c.as_slice-2.ensures ∙ c.in_ok-edges.ensures.edges) c.requires.nodes.count c.in_ok-marks.ensures
