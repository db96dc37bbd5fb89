use Rattle.std.proofs.Common.{map, ap}
use Rattle.std.proofs.lemmas.List.{drop_all}
use Rattle.pt_base.proofs.Places.{drop_step_at}
use Rattle.typed_tree.specs.StatementTree.{section_trees, view_section}
use Rattle.lowering.proofs.SwitchLemmas.{cases_step, cases_end}
use Rattle.lowering.proofs.switches.choose_sections.Goals as goal

pub loop-m-preserved : goal.loop-m-preserved
loop-m-preserved c =
    let split = ap (λ xs. section_trees (map view_section xs)) (drop_step_at c.args.sections.now c.loop-m.m c.index-sections-m.result c.loop-m-test.true c.index-sections-m.is) in
    cases_step _ _ _ _ _ _ _ _ _ _ _ _ split c.in_ok-choose_section.ensures c.loop-m.invariant

pub returns : goal.returns
returns c =
    cases_end _ _ _ _ _ _ _ (ap (λ xs. section_trees (map view_section xs)) (drop_all c.loop-m.m c.args.sections.now c.loop-m-test.false)) c.loop-m.invariant
