-- Small programs, on which the definitions are tried by computing.
use Rattle.std.proofs.Common.{◌≡◌, ℕ, pos, refl, Bool, true, false, Option, Some, None, List, [], ◌∷◌, codes, map}
use Rattle.pt_base.specs.declared.int_type.IntType.{IntType}
use Rattle.pt_base.specs.declared.int_type.IntType.TheVariants as i
use Rattle.pt_base.specs.declared.span.Span.{Span}
use Rattle.pt_tree.specs.declared.signature.Elem.TheVariants as el
use Rattle.pt_tree.specs.declared.signature.Param.{Param}
use Rattle.pt_tree.specs.declared.signature.ParamKind.TheVariants as p
use Rattle.typed_tree.specs.declared.types.VarTy.{VarTy}
use Rattle.typed_tree.specs.declared.types.VarTy.TheVariants as ty
use Rattle.typed_tree.specs.declared.types.StructInfo.{StructInfo}
use Rattle.typed_tree.specs.declared.variable.Var.{Var}
use Rattle.typed_tree.specs.ExpressionTree as t
use Rattle.typed_tree.specs.ExpressionTree.{ExprTree, PlaceTree, typed, place, no_steps, step_and, expr_trees}
use Rattle.typed_tree.specs.StatementTree.{BodyTree, block, evaluate, give_back, body_trees}
use Rattle.typed_tree.specs.TypedTree.{FunctionTree, TypedTree}
use Rattle.sides.specs.declared.slots.Owner.TheVariants.{Variable, Global, Result}
use Rattle.usages.specs.declared.usage.How.TheVariants as h
use Rattle.sides.specs.Carried.{carried, scope_of}
use Rattle.reach.specs.Contexts.{callees_in, globals_in, InSlave, main}
use Rattle.sides.specs.Leaves.{leaves_of}
use Rattle.sides.specs.Objects.{function_starts, result_start}
use Rattle.sides.specs.Seeds.{sealed_in}
use Rattle.sides.specs.Slots.{slots_of}
use Rattle.usages.specs.Usages.{usages_in}

-- ---- short ways to write trees

abbrev pub span : ℕ → ℕ → Span
span from to = record { from = from; to = to }

abbrev pub int : VarTy
int = ty.Int i.Int

abbrev pub var : VarTy → Bool → Var
var ty marked = record { name = []; span = span 0 0; ty = ty; marked = marked; unpriv = false; holds = None }

abbrev pub local : ℕ → PlaceTree
local x = place (t.local (record { 0 = x })) no_steps

abbrev pub value : Span → ℕ → ExprTree
value s x = typed s (Some int) (t.read (local x))

abbrev pub number : ℕ → ExprTree
number n = typed (span 0 0) (Some int) (t.constant (pos n))

abbrev pub assign : PlaceTree → ExprTree → ExprTree
assign p a = typed (span 0 0) (Some int) (t.assign p a)

abbrev pub call : Span → Option VarTy → ℕ → List ExprTree → ExprTree
call s ty g es = typed s ty (t.call (record { 0 = g }) (expr_trees es))

abbrev pub takes : Bool → Param
takes marked = record { kind = p.Int i.Int; marked = marked; declassify = false }

abbrev pub function : List ℕ → Option IntType → List Param → Bool → Bool → List Var → Option BodyTree → FunctionTree
function name result params privileged declassify vars body = record {
  signature = record { name = name; result = result; params = params; host = false; privileged = privileged; declassify = declassify };
  name = span 0 0;
  vars = vars;
  body = body;
}

abbrev pub host : List ℕ → Option IntType → List Param → Bool → Bool → FunctionTree
host name result params privileged declassify = record {
  signature = record { name = name; result = result; params = params; host = true; privileged = privileged; declassify = declassify };
  name = span 0 0;
  vars = map (λ x. var int x.marked) params;
  body = None;
}

abbrev pub does : ℕ → BodyTree
does k = evaluate (span 0 0) (record { 0 = k })

abbrev pub returns : ℕ → BodyTree
returns k = give_back (span 0 0) (Some (record { 0 = k }))

abbrev pub body : List BodyTree → Option BodyTree
body bs = Some (block (span 0 0) (body_trees bs))

-- ---- priv int load(int n); priv declassify int sign(priv int k, int n); void put(int v);
-- int main(void) { int k; int s; k = load(7); s = sign(k, 5); put(s); return 0; }

abbrev pub signer : TypedTree
signer = record {
  structs = [];
  globals = [];
  functions = host (codes "load") (Some i.Int) (takes false ∷ []) true false ∷ host (codes "sign") (Some i.Int) (takes true ∷ takes false ∷ []) true true ∷ host (codes "put") None (takes false ∷ []) false false
      ∷ function (codes "main") (Some i.Int) [] false false (var int false ∷ var int false ∷ []) (body (does 0 ∷ does 1 ∷ does 2 ∷ returns 3 ∷ [])) ∷ [];
  exprs = assign (local 0) (call (span 1 2) (Some int) 0 (number 7 ∷ [])) ∷ assign (local 1) (call (span 3 4) (Some int) 1 (value (span 5 6) 0 ∷ number 5 ∷ []))
      ∷ call (span 7 8) None 2 (value (span 9 10) 1 ∷ []) ∷ number 0 ∷ [];
}

-- the hosts' four parameters, k and s, and four results
signer_starts : function_starts signer ≡ 0 ∷ 1 ∷ 3 ∷ 4 ∷ []
unfolding leaves_of
signer_starts = refl

signer_results : result_start signer ≡ 6
unfolding leaves_of
signer_results = refl

signer_hows : map (λ u. u.how) (usages_in signer (record { 0 = 3 })) ≡ h.Passed (record { 0 = 0 }) 0 ∷ h.Kept ∷ h.Kept ∷ h.Passed (record { 0 = 1 }) 0 ∷ h.Passed (record { 0 = 1 }) 1 ∷ h.Kept ∷ h.Kept ∷ h.Passed (record { 0 = 2 }) 0 ∷ h.Kept ∷ h.Returned ∷ []
unfolding usages_in
signer_hows = refl

signer_calls : callees_in signer (record { 0 = 3 }) ≡ record { 0 = 0 } ∷ record { 0 = 1 } ∷ record { 0 = 2 } ∷ []
unfolding usages_in
signer_calls = refl

signer_carries : map (λ u. carried (scope_of signer 3) u.value) (usages_in signer (record { 0 = 3 })) ≡ [] ∷ (6 ∷ []) ∷ (4 ∷ []) ∷ (4 ∷ []) ∷ [] ∷ (7 ∷ []) ∷ (5 ∷ []) ∷ (5 ∷ []) ∷ (8 ∷ []) ∷ [] ∷ []
unfolding usages_in leaves_of
signer_carries = refl

signer_seals_nothing : sealed_in signer (record { 0 = 3 }) ≡ []
unfolding usages_in leaves_of
signer_seals_nothing = refl

signer_main : InSlave signer (record { 0 = 3 })
signer_main = main (record { 0 = 3 }) refl

-- ---- struct In { int a; priv int b; }; struct Out { int c; struct In i[3]; };
-- priv void fill(declassify struct In *p); struct Out g;
-- int main(void) { struct Out x; fill(1 ? &x.i[0] : &g.i[1]); return x.i[2].b; }

abbrev inner : StructInfo
inner = record { name = codes "In"; fields = record { name = codes "a"; ty = int; marked = false } ∷ record { name = codes "b"; ty = int; marked = true } ∷ [] }

abbrev outer : StructInfo
outer = record { name = codes "Out"; fields = record { name = codes "c"; ty = int; marked = false } ∷ record { name = codes "i"; ty = ty.Array (el.Struct 0) 3; marked = false } ∷ [] }

abbrev to_inner : VarTy
to_inner = ty.Pointer (el.Struct 0) false

abbrev first_item : t.RootTree → ExprTree
first_item root = typed (span 0 0) (Some to_inner) (t.address (place root (step_and (t.field 1) (step_and (t.item (number 0) (span 0 0)) no_steps))))

abbrev fills : TypedTree
fills = record {
  structs = inner ∷ outer ∷ [];
  globals = record { var = var (ty.Struct 1) false; fixed = false; declassify = false; cells = [] } ∷ [];
  functions = function (codes "fill") None (record { kind = p.Ptr (el.Struct 0) false; marked = false; declassify = true } ∷ []) true false (var to_inner false ∷ []) (body [])
      ∷ function (codes "main") (Some i.Int) [] false false (var (ty.Struct 1) false ∷ []) (body (does 0 ∷ returns 1 ∷ [])) ∷ [];
  exprs = call (span 1 2) None 0 (typed (span 3 4) (Some to_inner) (t.choice (number 1) (first_item (t.local (record { 0 = 0 }))) (first_item (t.global (record { 0 = 0 })))) ∷ [])
      ∷ typed (span 5 6) (Some int) (t.read (place (t.local (record { 0 = 0 })) (step_and (t.field 1) (step_and (t.item (number 2) (span 0 0)) (step_and (t.field 1) no_steps))))) ∷ [];
}

-- g has three slots, the parameter two, x three, and then come two results
fills_slots : map (λ s. s.path) (slots_of fills) ≡ (0 ∷ []) ∷ (1 ∷ 0 ∷ []) ∷ (1 ∷ 1 ∷ []) ∷ (0 ∷ []) ∷ (1 ∷ []) ∷ (0 ∷ []) ∷ (1 ∷ 0 ∷ []) ∷ (1 ∷ 1 ∷ []) ∷ [] ∷ [] ∷ []
unfolding slots_of leaves_of
fills_slots = refl

fills_marks : map (λ s. s.marked) (slots_of fills) ≡ false ∷ false ∷ true ∷ false ∷ true ∷ false ∷ false ∷ true ∷ false ∷ false ∷ []
unfolding slots_of leaves_of
fills_marks = refl

fills_owners : map (λ s. s.owner) (slots_of fills) ≡ Global (record { 0 = 0 }) ∷ Global (record { 0 = 0 }) ∷ Global (record { 0 = 0 }) ∷ Variable (record { 0 = 0 }) (record { 0 = 0 }) ∷ Variable (record { 0 = 0 }) (record { 0 = 0 })
    ∷ Variable (record { 0 = 1 }) (record { 0 = 0 }) ∷ Variable (record { 0 = 1 }) (record { 0 = 0 }) ∷ Variable (record { 0 = 1 }) (record { 0 = 0 }) ∷ Result (record { 0 = 0 }) ∷ Result (record { 0 = 1 }) ∷ []
unfolding slots_of leaves_of
fills_owners = refl

-- the marked leaf comes back secret in both, though the parameter is declassified
fills_sealed : sealed_in fills (record { 0 = 1 }) ≡ 7 ∷ 2 ∷ []
unfolding usages_in slots_of leaves_of
fills_sealed = refl

fills_names : globals_in fills (record { 0 = 1 }) ≡ record { 0 = 0 } ∷ []
unfolding usages_in
fills_names = refl
