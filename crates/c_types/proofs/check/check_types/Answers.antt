-- The parts of a program without a fault are well formed together.
use Rattle.std.proofs.Common.{◌<◌, ◌≤◌, ◌^◌, ◌*◌, ◌∙◌, map, sym, subst, arith}
use Rattle.std.specs.Prelude.{IsTrue}
use Rattle.pt_tree.specs.Nodes as parsed
use Rattle.pt_tree.specs.ProgramTree.{view_item}
use Rattle.typed_tree.specs.Nodes as typed
use Rattle.typed_tree.specs.TypedTree.{TypedTree}
use Rattle.typed_tree.specs.WellFormed.{is_well_formed}
use Rattle.check_programs.specs.Programs.{checked_program}
use Rattle.type_law.proofs.SizesProgram.{typed_trees_are_small}
use Rattle.type_law.proofs.ProgramsAreWellFormed.{programs_are_well_formed}
use Rattle.c_types.proofs.check.check_types.Goals as goal

pub new-requires : goal.new-requires
new-requires c =
    let is = c.in_ok-parts.ensures in
    subst (λ (t : TypedTree). IsTrue (is_well_formed t)) (sym is.1)
    (programs_are_well_formed (map view_item c.args.program.now.items.items) c.args.program.now.few c.args.program.now.sound is.0)

pub returns-clause-small : goal.returns-clause-small
returns-clause-small c =
    let few : parsed.nodes_of (map view_item c.args.program.now.items.items) < 2 ^ 22 = c.args.program.now.few in
    let thrice : typed.nodes_of (checked_program (map view_item c.args.program.now.items.items)).tree ≤ 3 * parsed.nodes_of (map view_item c.args.program.now.items.items) = typed_trees_are_small (map view_item c.args.program.now.items.items) in
    let small : typed.nodes_of (checked_program (map view_item c.args.program.now.items.items)).tree < 2 ^ 24 = omega arith in
    subst (λ (t : TypedTree). typed.nodes_of t < 2 ^ 24) (sym (c.new.ensures ∙ c.in_ok-parts.ensures.1)) small
