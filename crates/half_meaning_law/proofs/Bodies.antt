-- The bodies of a half's functions.
use Rattle.std.proofs.Common.{sym, subst, Bool, false, Some}
use Rattle.std.specs.Prelude.{IsTrue, ◌&&◌}
use Rattle.std.specs.List.{list_all}
use Rattle.pt_base.proofs.Booleans.{both_hold_first, both_hold_second, true_not_false}
use Rattle.pt_base.proofs.Members.{all_hold_at}
use Rattle.pt_tree.specs.declared.signature.Signature.{Signature}
use Rattle.typed_tree.specs.WellFormed.{structs_sound}
use Rattle.pt_core.specs.CodeTree.{FunctionTree, ProgramTree}
use Rattle.pt_core.specs.WellFormed.{are_in_order, global_fits, are_small, signature_fits, callee_fits, callees, is_sound, function_fits, function_by, scope_of}
use Rattle.pt_core.specs.WellFormedStatement.{stmts_fit}
use Rattle.half_meaning_law.specs.Statements.{BodiesKeepTheirMeaning}
use Rattle.half_meaning_law.proofs.StatementLaw.{blocks}

-- the functions of a sound program fit
functions_fit : (monitor : Bool) (program : ProgramTree) → IsTrue (is_sound monitor program) → IsTrue (list_all (function_fits monitor program) program.functions)
functions_fit monitor program h =
    let listed = are_in_order program && structs_sound program.structs 0 program.structs in
    let objects = list_all (global_fits program.structs) program.globals && are_small program.globals in
    let signatures = list_all (λ s. signature_fits program.structs s.1) program.signatures in
    let functions = list_all (function_fits monitor program) program.functions in
    let called = list_all (callee_fits monitor program) (callees program) in
    both_hold_second signatures functions (both_hold_first (signatures && functions) called (both_hold_second objects ((signatures && functions) && called) (both_hold_second listed (objects && ((signatures && functions) && called)) h)))

-- and so do their statements
body_fits : (monitor : Bool) (program : ProgramTree) (f : FunctionTree) (signature : Signature) → IsTrue (function_by monitor program f (Some signature)) → IsTrue (stmts_fit (scope_of monitor program f signature) false f.body)
body_fits monitor program f signature h = both_hold_second _ (stmts_fit (scope_of monitor program f signature) false f.body) (both_hold_second _ _ h)

pub bodies : BodiesKeepTheirMeaning
bodies monitor program n f signature s c st sound there named fits context calls known functions result said =
    blocks s program.signatures (scope_of monitor program f signature) false c st f.body fits known functions
    (record { context = sym context; result = result; in_loop = λ e. true_not_false (sym e); calls = calls })
    (body_fits monitor program f signature (subst (λ z. IsTrue (function_by monitor program f z)) named (all_hold_at (function_fits monitor program) program.functions n f (functions_fit monitor program sound) there))) said
