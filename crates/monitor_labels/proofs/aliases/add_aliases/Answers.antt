use Rattle.std.proofs.Common.{◌∙◌, ap, sym}
use Rattle.pt_base.proofs.Results.{on_ok_implies}
use Rattle.pt_tree.specs.declared.signature.Signature.{Signature}
use Rattle.pt_core.specs.Calls.{signature_in}
use Rattle.pt_core.specs.WellFormed.{monitor_program}
use Rattle.monitor_labels.specs.Arrows.{bound_globals, pointer_parameters}
use Rattle.monitor_labels.specs.Scopes.{function_of, program_of}
use Rattle.monitor_labels.proofs.EdgeLemmas.{aliases_added}
use Rattle.monitor_labels.proofs.aliases.add_aliases.Goals as goal

pub returns : goal.returns
returns c =
    on_ok_implies c.add_joined.result _ _
    (λ h. aliases_added (program_of c.args.scope.now) (pointer_parameters (function_of c.args.scope.now)) (bound_globals (program_of c.args.scope.now) (function_of c.args.scope.now).id)
    (signature_in (monitor_program (program_of c.args.scope.now)) (function_of c.args.scope.now).id).privileged
    c.new-slots.result.items c.add_pointer_parameters.new.slots.items c.deref.result.now c.args.edges.now.items c.add_joined.new.edges.items
    (ap (λ (x : Signature). x.privileged) (sym c.in_ok-signature.ensures) ∙ c.if-not-signature.false) c.new-slots.ensures.items c.in_ok-add_pointer_parameters.ensures (c.deref.ensures.value ∙ c.in_ok-add_bound_globals.ensures) h)
    c.add_joined.ensures
