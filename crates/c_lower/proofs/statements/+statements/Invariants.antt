use Rattle.std.proofs.Common.{◌+◌, ◌*◌, max, map, drop}
use Rattle.typed_tree.specs.declared.statement.TypedBody.{size-TypedBody}
use Rattle.typed_tree.specs.StatementTree as tree
use Rattle.lowering.specs.Names.{code_in}
use Rattle.lowering.specs.Onwards.{view_onward}
use Rattle.lowering.specs.Output.{output_of, next}
use Rattle.lowering.specs.Statements.{all_in, sections_in}
use Rattle.c_lower.proofs.LoopLemmas.{Leads}
use Rattle.c_lower.proofs.statements.+statements.Given as goal

abbrev pub decreases-statement : goal.decreases-statement
decreases-statement l = 8 * goal.size-statement l + 2

abbrev pub decreases-statement_apart : goal.decreases-statement_apart
decreases-statement_apart l = 8 * goal.size-statement_apart l + 3

abbrev pub decreases-statements : goal.decreases-statements
decreases-statements l = 8 * goal.size-statements l + 4

abbrev pub decreases-choose_alone : goal.decreases-choose_alone
decreases-choose_alone l = 8 * goal.size-choose_alone l + 4

abbrev pub decreases-do_while : goal.decreases-do_while
decreases-do_while l = 8 * goal.size-do_while l + 3

abbrev pub decreases-loop_step : goal.decreases-loop_step
decreases-loop_step l = 8 * goal.size-loop_step l + 3

abbrev pub decreases-for_step : goal.decreases-for_step
decreases-for_step l = 8 * goal.size-for_step l + 4

abbrev pub decreases-loop_while : goal.decreases-loop_while
decreases-loop_while l = 8 * goal.size-loop_while l + 3

abbrev pub decreases-for_test : goal.decreases-for_test
decreases-for_test l = 8 * goal.size-for_test l + 4

abbrev pub decreases-section_at : goal.decreases-section_at
decreases-section_at l = 8 * goal.size-section_at l + 5

abbrev pub decreases-sections : goal.decreases-sections
decreases-sections l = 8 * goal.size-sections l + 6

abbrev pub decreases-switch : goal.decreases-switch
decreases-switch l = 8 * goal.size-switch l + 7

abbrev pub decreases-choose : goal.decreases-choose
decreases-choose l = 8 * max (size-TypedBody l.yes.now) (size-TypedBody l.no.now) + 4

-- what is made so far, and then the other statements, are all
abbrev pub invariant-statements-loop-body : goal.invariant-statements-loop-body
invariant-statements-loop-body l =
    Leads (output_of l.lowering) (all_in (code_in l.names) (tree.body_trees (map tree.view_body (drop l.body-index l.all))) (view_onward l.mode) (next (output_of l.lowering)))
    (output_of l.fn.lowering) (all_in (code_in l.names) (tree.body_trees (map tree.view_body l.fn.all)) (view_onward l.mode) (next (output_of l.fn.lowering)))

abbrev pub invariant-sections-loop-m : goal.invariant-sections-loop-m
invariant-sections-loop-m l =
    Leads (output_of l.lowering) (sections_in (code_in l.names) l.choosing.span (tree.section_trees (map tree.view_section (drop l.m l.all))) (view_onward l.mode) l.choosing.value.0 l.m (next (output_of l.lowering)))
    (output_of l.fn.lowering) (sections_in (code_in l.names) l.choosing.span (tree.section_trees (map tree.view_section l.fn.all)) (view_onward l.mode) l.choosing.value.0 0 (next (output_of l.fn.lowering)))
