use Rattle.std.proofs.Common.{◌∙◌, subst, sym}
use Rattle.std.specs.List.Sorted.{IsNonDecreasingBy}
use Rattle.typed_tree.specs.TypedView.{view_typed}
use Rattle.explaining.specs.declared.homes.Home.{Home}
use Rattle.explaining.proofs.HomeLemmas.{names_ascend}
use Rattle.explaining.proofs.TurnLemmas.{blocks_are}
use Rattle.explaining.proofs.flow_blocks.flow_fault_blocks.Goals as goal

pub invariant_of-parts : goal.invariant_of-parts
invariant_of-parts c = record {
  rises = subst (λ homes. IsNonDecreasingBy (λ (h : Home). h.at) homes) (sym c.as_slice-homes.ensures.value) (names_ascend c.in_ok-list.list.items c.in_ok-list.ensures.sorted);
}

pub returns : goal.returns
returns c =
    blocks_are c.args.name.now c.args.program.now _ (view_typed c.args.t.now) _ _ c.in_ok-list.list.items c.in_ok-text.text.items c.args.faults.now
    c.in_ok-lines.ensures (c.as_slice-slots.ensures ∙ c.in_ok-all.ensures) c.as_slice-homes.ensures.value c.in_ok-list.ensures c.requires c.in_ok-text.ensures
