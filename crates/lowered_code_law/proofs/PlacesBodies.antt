-- The code of a function, without its places, is the code of the function without places.
use Rattle.std.proofs.Common.{◌≡◌, ◌∙◌, refl, ap, sym, Bool, true, false, Option, Some, None, List, [], ◌∷◌, ◌++◌, length, map, option_map, if◌then◌else◌}
use Rattle.std.specs.Prelude.{pos}
use Rattle.std.proofs.lemmas.List.{length-map, map-append}
use Rattle.pt_base.specs.declared.int_type.IntType.TheVariants as int
use Rattle.pt_base.specs.declared.span.Span.{Span}
use Rattle.pt_tree.specs.declared.signature.Signature.{Signature}
use Rattle.typed_tree.specs.declared.types.VarTy.{VarTy}
use Rattle.typed_tree.specs.declared.variable.TypedGlobal.{TypedGlobal}
use Rattle.typed_tree.specs.declared.variable.Var.{Var}
use Rattle.typed_tree.specs.ExpressionTree.{ExprTree, typed}
use Rattle.typed_tree.specs.StatementTree.{BodyTree, block}
use Rattle.typed_tree.specs.TypedTree.{FunctionTree, TypedTree}
use Rattle.typed_tree.specs.WellFormedExpression.{is_main}
use Rattle.pt_core.specs.CodeTree.{constant, give_back, stmt_trees}
use Rattle.source_meaning.specs.Functions.{brace_of}
use Rattle.lowering.specs.Lowered.{Temp}
use Rattle.lowering.specs.Functions.{code_of, lowered_body, main_end, span_of, variable_of}
use Rattle.lowering.specs.Statements.{nowhere as in_no_loop, statement_in}
use Rattle.lowered_code_law.specs.PlacesBareTrees.{bare, bare_body, bare_function, bare_global, bare_program, bare_var, nowhere}
use Rattle.lowered_code_law.specs.PlacesBareCode.{bare_stmt}
use Rattle.lowered_code_law.specs.PlacesLaws.{PlacesAloneFollowPlaces}
use Rattle.lowered_code_law.proofs.PlacesForms.{bare_effects, bare_temp, stmts_bare, trees_bare}
use Rattle.lowered_code_law.proofs.PlacesStatements.{statement_bare}

types_same : (vars : List Var) → map (λ (x : Var). x.ty) vars ≡ map (λ (x : Var). x.ty) (map bare_var vars)
types_same [] = refl
types_same (x ∷ xs) = ap (λ (types : List VarTy). x.ty ∷ types) (types_same xs)

globals_same : (gs : List TypedGlobal) → map (λ (g : TypedGlobal). g.var.ty) gs ≡ map (λ (g : TypedGlobal). g.var.ty) (map bare_global gs)
globals_same [] = refl
globals_same (g ∷ gs) = ap (λ (types : List VarTy). g.var.ty ∷ types) (globals_same gs)

body_bare : (t : TypedTree) (f : FunctionTree) (body : BodyTree) → bare_effects (lowered_body t f body) ≡ lowered_body (bare_program t) (bare_function f) (bare_body body)
body_bare t f body =
    let count = sym (length-map f.vars bare_var) in
    statement_bare body (code_of t f) in_no_loop (length f.vars)
    ∙ (λ i. statement_in (record {
      scope = record { structs = t.structs; globals = globals_same t.globals i; variables = types_same f.vars i };
      exprs = map bare t.exprs;
    }) (bare_body body) in_no_loop (count i))

held_bare : (o : Option ExprTree) → option_map (λ (at : Span). nowhere) (option_map span_of o) ≡ option_map span_of (option_map bare o)
held_bare None = refl
held_bare (Some (typed s ty form)) = refl

variables_bare : (xs : List Temp) → map bare_var (map variable_of xs) ≡ map variable_of (map bare_temp xs)
variables_bare [] = refl
variables_bare (x ∷ xs) = λ i. record { name = []; span = nowhere; ty = x.ty; marked = false; unpriv = false; holds = held_bare x.holds i } ∷ variables_bare xs i

end_bare : (s : Signature) → map bare_stmt (main_end s) ≡ main_end s
end_bare s = go (is_main s)
  where
    go : (b : Bool) → map bare_stmt (if b then give_back (Some (constant int.Int (pos 0))) ∷ [] else []) ≡ (if b then give_back (Some (constant int.Int (pos 0))) ∷ [] else [])
    go true = refl
    go false = refl

brace_bare : (body : BodyTree) → nowhere ≡ brace_of (bare_body body)
brace_bare (block s ys) = refl
brace_bare body = refl

pub places_alone : PlacesAloneFollowPlaces
places_alone t n f body =
    let code = lowered_body t f body in
    let same = body_bare t f body in
    let vars = map-append bare_var f.vars (map variable_of code.temps) ∙ (λ i. map bare_var f.vars ++ variables_bare code.temps i) in
    let stmts = stmts_bare code.stmts (main_end f.signature) ∙ (λ i. map bare_stmt code.stmts ++ end_bare f.signature i) in
    let body_is = trees_bare (code.stmts ++ main_end f.signature) ∙ ap stmt_trees stmts in
    (λ i. record { id = n; params = length f.signature.params; vars = vars i; body = body_is i; end = brace_bare body i })
    ∙ (λ i. record {
      id = n;
      params = length f.signature.params;
      vars = map bare_var f.vars ++ map variable_of (same i).temps;
      body = stmt_trees ((same i).stmts ++ main_end f.signature);
      end = brace_of (bare_body body);
    })
