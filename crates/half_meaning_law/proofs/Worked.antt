-- A scene with two variables and a global whose number isn't its place, to which the laws apply.
use Rattle.std.proofs.Common.{◌≡◌, ◌<◌, ◌+◌, ℕ, zero, suc, refl, arith, sym, subst, Bool, true, false, if◌then◌else◌, Some, None, List, [], ◌∷◌}
use Rattle.std.specs.Prelude.{nat_eq}
use Rattle.std.specs.Fmt.{digits}
use Rattle.std.specs.Map.{lookup}
use Rattle.pt_base.specs.declared.int_type.IntType.TheVariants as i
use Rattle.pt_base.proofs.Booleans.{true_not_false}
use Rattle.pt_base.proofs.Numbers.{nat_eq_same}
use Rattle.pt_int.specs.declared.operator.BinOp.TheVariants.{Add}
use Rattle.pt_tree.specs.declared.signature.Elem.TheVariants as el
use Rattle.runs.specs.State.{spent}
use Rattle.typed_tree.specs.declared.types.VarTy.{VarTy}
use Rattle.typed_tree.specs.declared.types.VarTy.TheVariants as v
use Rattle.check_expressions.specs.declared.meaning.Meaning.TheVariants.{Global, Local}
use Rattle.check_expressions.specs.declared.meaning.Variable.{Variable}
use Rattle.check_expressions.specs.Environment.{Env}
use Rattle.check_expressions.specs.Expressions.{judge}
use Rattle.pt_core.specs.CodeTree.{ExprTree, local, global, deref, place, read, binary}
use Rattle.half_trees.specs.Names.{nowhere, local_name, global_name}
use Rattle.half_trees.specs.Expressions.{expression_tree}
use Rattle.half_meaning_law.specs.Relations.{Scene}
use Rattle.half_meaning_law.specs.Known.{type_as, object_as, local_id, global_id, Known, VariableKnown, GlobalKnown}
use Rattle.half_meaning_law.specs.Expressions.{SceneFits, ExpressionMeans}
use Rattle.half_meaning_law.proofs.ExpressionLaw.{expressions}
use Rattle.pt_tree.specs.declared.signature.Signature.{Signature}
use Rattle.pt_tree.specs.StatementTree.{stmt_trees}
use Rattle.type_rules.specs.declared.types.Type.TheVariants.{Void}
use Rattle.check_statements.specs.declared.context.Context.{Context}
use Rattle.check_statements.specs.Statements.{checked_all}
use Rattle.pt_core.specs.CodeTree.{StmtTrees, no_stmts, stmt_and, assign, repeat, break_out}
use Rattle.pt_core.specs.Statements.{do_all}
use Rattle.pt_core.specs.WellFormedStatement.{Scope}
use Rattle.half_trees.specs.Statements.{statements_trees}
use Rattle.half_meaning_law.specs.Relations.{frame_of}
use Rattle.half_meaning_law.specs.Known.{FunctionsKnown}
use Rattle.half_meaning_law.specs.Statements.{Judging, StatementsMean}
use Rattle.half_meaning_law.proofs.StatementLaw.{blocks}

abbrev int : VarTy
int = v.Int i.Int

abbrev to_int : VarTy
to_int = v.Pointer (el.Int i.Int) false

abbrev scene : Scene
scene = record {
  context = record { structs = []; globals = (4, int) ∷ []; variables = int ∷ to_int ∷ [] };
  globals = int ∷ [];
  global_number = λ k. k + 4;
  function_number = λ k. k;
  frames = λ depth. int ∷ to_int ∷ [];
  frame = record { depth = 1; privileged = false };
  calls = λ frame s f vs st. spent st;
  core_calls = λ frame s f xs st. spent st;
}

abbrev variable : List ℕ → VarTy → Variable
variable name u = record { name = name; span = nowhere; ty = type_as u; fixed = false; marked = false; unpriv = false }

abbrev names : Env
names = record {
  file = (global_name 4, Global (global_id 0)) ∷ [];
  functions = [];
  globals = object_as int ∷ [];
  scopes = ((local_name 0, Local (local_id 0)) ∷ (local_name 1, Local (local_id 1)) ∷ []) ∷ [];
  variables = variable (local_name 0) int ∷ variable (local_name 1) to_int ∷ [];
}

scene_fits : SceneFits scene
scene_fits = record { numbers = λ j k h. omega (arith, h); own = refl; structs = refl }

variables_known : (n : ℕ) → n < 2 → VariableKnown scene names n
unfolding digits
variables_known zero near = record { named = refl; object = refl }
variables_known (suc zero) near = record { named = refl; object = refl }
variables_known (suc (suc n)) near = absurd (none n near)
  where
    none : (n : ℕ) → suc (suc n) < 2 → ⊥
    none n near = omega (arith, near)

globals_known : (g : ℕ) (u : VarTy) → lookup (nat_eq g) scene.context.globals ≡ Some u → GlobalKnown scene names g u
unfolding digits
globals_known g u h = go (nat_eq g 4) refl h
  where
    go : (z : Bool) → nat_eq g 4 ≡ z → (if z then Some int else None) ≡ Some u → GlobalKnown scene names g u
    go true is there = subst (λ k. GlobalKnown scene names k u) (sym (nat_eq_same g 4 is)) (subst (λ k. GlobalKnown scene names 4 k) (some there) (record { place = 0; number = refl; named = refl; object = refl; typed = refl; plain = refl }))
      where
        some : Some int ≡ Some u → int ≡ u
        some e = cc
    go false is there = cc

none_below : (k : ℕ) → k < 0 → ⊥
none_below k near = omega (arith, near)

names_known : Known scene names []
names_known = record {
  variables = variables_known;
  globals = globals_known;
  fields = λ n k near. absurd (none_below k near);
  no_const = λ n. refl;
}

-- g_4 + *v_1
sum : ExprTree
sum = binary Add i.Int (read (place (global 4) [])) (read (place (deref (read (place (local 1) [])) nowhere) [])) nowhere

sum_means : ExpressionMeans scene [] sum (judge names [] (expression_tree scene.context sum))
unfolding sum
sum_means = expressions scene names [] sum scene_fits names_known refl refl

-- ---- while (1) { v_0 = g_4 + *v_1; break; }

abbrev scope : Scope
scope = record { context = scene.context; result = None; called = λ f. None }

abbrev within : Context
within = record { result = Void; in_loop = false; in_switch = false }

judging : Judging scene scope false within
judging = record { context = refl; result = refl; in_loop = λ e. true_not_false (sym e); calls = λ span span' f signature vs xs st st' e. none e }
  where
    none : {X : Type 0} {signature : Signature} → None ≡ Some signature → X
    none e = cc

no_functions : FunctionsKnown scene [] (λ f. None) names
no_functions f signature e other = none e
  where
    none : {X : Type 0} → None ≡ Some signature → X
    none e = cc

abbrev loop : StmtTrees
loop = stmt_and (repeat (stmt_and (assign (place (local 0) []) sum) (stmt_and break_out no_stmts)) nowhere) no_stmts

loop_means : StatementsMean scene (record { env = names; structs = []; next = 0 }) (checked_all within (record { env = names; structs = []; next = 0 }) (stmt_trees (statements_trees [] scene.context loop))) (do_all loop (frame_of scene) scene.core_calls)
unfolding sum
loop_means = blocks scene [] scope false within (record { env = names; structs = []; next = 0 }) loop scene_fits names_known no_functions judging refl refl
