-- A function that is the same in two programs has the same code in both.
use Rattle.std.proofs.Common.{◌≡◌, ◌∙◌, refl, ap, sym, subst, ℕ, Option, List, ◌++◌, length, map, option_map}
use Rattle.std.specs.Prelude.{Contains, slice_get, unwrap_or}
use Rattle.std.proofs.lemmas.Option.{slice_get-map, unwrap_or-slice_get}
use Rattle.pt_base.specs.declared.ids.FnId.{FnId}
use Rattle.pt_base.specs.declared.ids.GlobalId.{GlobalId}
use Rattle.pt_base.specs.declared.int_type.IntType.TheVariants as int
use Rattle.typed_tree.specs.declared.ids.ExprId.{ExprId}
use Rattle.typed_tree.specs.declared.part.Part.{Part}
use Rattle.typed_tree.specs.declared.part.Role.TheVariants.{Value}
use Rattle.typed_tree.specs.declared.types.VarTy.{VarTy}
use Rattle.typed_tree.specs.declared.types.VarTy.TheVariants.{Int}
use Rattle.typed_tree.specs.declared.variable.TypedGlobal.{TypedGlobal}
use Rattle.typed_tree.specs.declared.variable.Var.{Var}
use Rattle.typed_tree.specs.Parts.{parts_of}
use Rattle.typed_tree.specs.StatementTree.{BodyTree, block}
use Rattle.typed_tree.specs.TypedTree.{TypedTree}
use Rattle.pt_core.specs.CodeTree.{stmt_trees}
use Rattle.pt_core.specs.Types.{type_at}
use Rattle.source_meaning.specs.Functions.{brace_of}
use Rattle.usages.specs.Usages.{UsageTree, parts_usages, usages_in}
use Rattle.reach.specs.Contexts.{expr_globals, globals_in}
use Rattle.reach.proofs.ListLemmas.{contains_flat}
use Rattle.lowering.specs.Functions.{lowered_body, main_end, variable_of}
use Rattle.lowering.specs.Statements.{nowhere, statement_in}
use Rattle.lowered_code_law.specs.LocalityLaws.{LoweringSeesOneBody, global_type}
use Rattle.lowered_code_law.specs.LocalityRenumbered.{renumbered}
use Rattle.lowered_code_law.specs.LocalitySameFunctions.{IsSameFunction}
use Rattle.lowered_code_law.proofs.LocalityAgreeing.{Agree, Scopes}
use Rattle.lowered_code_law.proofs.LocalityOutermost.{AllAlike, Both, all_alike}
use Rattle.lowered_code_law.proofs.LocalityParts.{parts_are}
use Rattle.lowered_code_law.proofs.LocalityStatements.{statement_same}

abbrev types_of : List TypedGlobal → List VarTy
types_of gs = map (λ (g : TypedGlobal). g.var.ty) gs

abbrev var_types : List Var → List VarTy
var_types vars = map (λ (x : Var). x.ty) vars

-- the scopes of a function in two programs
abbrev scopes_of : (t u : TypedTree) (f : FnId) → IsSameFunction t u f → Scopes
scopes_of t u f s = record { structs = t.structs; variables = var_types s.here.vars; globals = types_of t.globals; others = types_of u.globals }

abbrev both_of : (t u : TypedTree) (f : FnId) → IsSameFunction t u f → Both
both_of t u f s = record { scopes = scopes_of t u f s; exprs = t.exprs; others = u.exprs; number = s.same.number }

-- ---- globals

type_found : (gs : List TypedGlobal) (k : ℕ) → type_at (types_of gs) k ≡ unwrap_or (option_map (λ (g : TypedGlobal). g.var.ty) (slice_get gs k)) (Int int.Int)
type_found gs k = sym (unwrap_or-slice_get (types_of gs) k (Int int.Int)) ∙ ap (λ (o : Option VarTy). unwrap_or o (Int int.Int)) (slice_get-map (λ (g : TypedGlobal). g.var.ty) gs k)

type_same : (t u : TypedTree) (g : GlobalId) → global_type t g ≡ global_type u g → type_at (types_of t.globals) g.0 ≡ type_at (types_of u.globals) g.0
type_same t u g e = type_found t.globals g.0 ∙ ap (λ (o : Option VarTy). unwrap_or o (Int int.Int)) e ∙ sym (type_found u.globals g.0)

-- ---- bodies

evaluated_agree : (t u : TypedTree) (f : FnId) (s : IsSameFunction t u f) → ((g : GlobalId) → Contains (globals_in t f) g → global_type t g ≡ global_type u g) → Agree (scopes_of t u f s) (usages_in t f)
evaluated_agree t u f s h x c g named = type_same t u g (h g (contains_flat (λ (y : UsageTree). expr_globals y.value) (usages_in t f) x g c named))

parts_agree : (t u : TypedTree) (f : FnId) (s : IsSameFunction t u f) → Agree (scopes_of t u f s) (usages_in t f) → Agree (scopes_of t u f s) (parts_usages t.exprs Value 0 (parts_of s.body))
unfolding usages_in
parts_agree t u f s h = subst (λ (ps : List Part). Agree (scopes_of t u f s) (parts_usages t.exprs Value 0 ps)) (parts_are t f s.here s.body s.stands_here s.body_here) h

brace_same : (x : BodyTree) (r : ExprId → ExprId) → brace_of x ≡ brace_of (renumbered r x)
brace_same (block s ys) r = refl
brace_same x r = refl

-- the statements and temporaries of the body
body_same : (t u : TypedTree) (f : FnId) (s : IsSameFunction t u f) → t.structs ≡ u.structs → AllAlike (both_of t u f s) (parts_of s.body) → lowered_body t s.here s.body ≡ lowered_body u s.there s.other
body_same t u f s structs alike =
    statement_same s.body (both_of t u f s) nowhere (length s.here.vars) alike
    ∙ (λ i. statement_in (record {
      scope = record { structs = structs i; globals = types_of u.globals; variables = var_types (s.vars i) };
      exprs = u.exprs;
    }) (sym s.same.statements i) nowhere (length (s.vars i)))

pub lowering_sees : LoweringSeesOneBody
lowering_sees t u f s structs types =
    let agree = parts_agree t u f s (evaluated_agree t u f s types) in
    let code : lowered_body t s.here s.body ≡ lowered_body u s.there s.other = body_same t u f s structs (all_alike (parts_of s.body) (both_of t u f s) Value 0 s.same.expressions agree) in
    let brace : brace_of s.body ≡ brace_of s.other = brace_same s.body s.same.number ∙ ap brace_of (sym s.same.statements) in
    λ i. record {
      id = f.0;
      params = length (s.signature i).params;
      vars = s.vars i ++ map variable_of (code i).temps;
      body = stmt_trees ((code i).stmts ++ main_end (s.signature i));
      end = brace i;
    }
