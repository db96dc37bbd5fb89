use Rattle.std.proofs.Common.{◌∙◌, ℕ, [], List, ap, false, subst}
use Rattle.pt_base.specs.declared.ids.FnId.{FnId}
use Rattle.pt_tree.specs.declared.signature.Signature.{Signature}
use Rattle.pt_core.specs.CodeTree.{numbered, view_program}
use Rattle.pt_core.specs.Steps.{at_rest, started}
use Rattle.core_machine.specs.Machines.{Shown}
use Rattle.slave_interp.specs.Beginning.{main_among}
use Rattle.slave_interp.proofs.BeginLemmas.{machine_sound}
use Rattle.slave_interp.proofs.beginning.begun.Goals as goal

pub new-requires : goal.new-requires
new-requires c = machine_sound (view_program c.args.code.now) c.requires

pub returns : goal.returns
returns c =
    let p = view_program c.args.code.now in
    let made : Shown p c.in_ok-machine.machine (at_rest p c.args.budget) = subst (λ (b : ℕ). Shown p c.in_ok-machine.machine (at_rest p b)) c.from.ensures c.in_ok-machine.ensures.shown in
    subst (λ (f : ℕ). Shown p c.enter.new.self (started p false f 1 [] (at_rest p c.args.budget)))
    (c.main_of.ensures ∙ ap (λ (ss : List (FnId × Signature)). main_among (numbered ss)) c.as_slice.ensures)
    (c.in_ok-enter.ensures p false (at_rest p c.args.budget) made)
