-- The body of a function without a fault.
use Rattle.std.proofs.Common.{◌≡◌, ◌≤◌, ℕ, ◌+◌, sym, ap, subst, false, List, ◌++◌, length, length-append, arith}
use Rattle.pt_tree.specs.StatementTree.{stmt_trees}
use Rattle.typed_tree.specs.ExpressionTree.{ExprTree}
use Rattle.typed_tree.specs.Parts.{all_parts, all_variables}
use Rattle.typed_tree.specs.StatementTree.{body_trees}
use Rattle.typed_tree.specs.WellFormedStatement.{Scope}
use Rattle.check_statements.specs.declared.context.Context.{Context}
use Rattle.check_statements.specs.Statements.{checked_all}
use Rattle.type_law.specs.StatementsLaws.{BlocksAreKept, BodiesAreSound}
use Rattle.type_law.proofs.StatementsNumbering.{StandAt, stand, consecutive}
use Rattle.type_law.proofs.StatementWalks.{all_go}
use Rattle.type_law.proofs.StatementsRising.{rising, all_rise}
use Rattle.type_law.proofs.StatementsGiven.{Laws, Ready, Returns}
use Rattle.type_law.proofs.StatementLemmas.{statements_sound}

pub blocks_kept : BlocksAreKept
blocks_kept ty st items =
    let g = all_go (record { result = ty; in_loop = false; in_switch = false }) st (stmt_trees items) in
    record { file = g.file; functions = g.functions; globals = g.globals; new = g.new; variables = g.variables }

pub bodies_sound : Laws → BodiesAreSound
bodies_sound laws n all before after result ty st items agrees good is has all_are first given none =
    let c : Context = record { result = ty; in_loop = false; in_switch = false } in
    let sc : Scope = record { names = n; exprs = all; result = result } in
    let b = checked_all c st (stmt_trees items) in
    let parts = all_parts (body_trees b.bodies) in
    let g = all_go c st (stmt_trees items) in
    let here = subst (λ (xs : List ExprTree). StandAt xs (length before) b.trees) (sym all_are) (stand before b.trees after) in
    let there = subst (λ (k : ℕ). StandAt all k b.trees) first here in
    let ready : Ready sc st b.state b.trees = record { agrees = agrees; variables = has; stand = there } in
    let returns : Returns sc ty = record { good = good; is = is } in
    let k = statements_sound laws sc c st (stmt_trees items) returns ready given none in
    let whole : length all ≡ length (before ++ b.trees ++ after) = ap length all_are in
    let halves = length-append (before ++ b.trees) after in
    let rest = length-append before b.trees in
    let many : length parts ≡ length b.trees = g.many in
    let within : st.next + length parts ≤ length all = omega (arith, whole, halves, rest, many, first) in
    record {
      sound = k.1;
      numbered = consecutive st.next parts (length all) g.numbers within;
      rising = rising (length st.env.variables) (all_variables (body_trees b.bodies)) (length b.state.env.variables) (all_rise c st (stmt_trees items));
      structs = k.0.structs;
      file = g.file;
      functions = g.functions;
      globals = g.globals;
      new = k.0.new;
      variables = k.0.variables;
      sized = k.0.sized;
    }
