-- Small programs, on which the definitions are tried by computing. What each shows was found by hand first;
-- the spans are those of the text that stands above it.
use Rattle.std.proofs.Common.{◌≡◌, ℕ, refl, Bool, true, false, Some, None, List, [], ◌∷◌, codes, get_or}
use Rattle.std.specs.List.{flat_map}
use Rattle.pt_base.specs.declared.ids.FnId.{FnId}
use Rattle.pt_base.specs.declared.int_type.IntType.TheVariants as i
use Rattle.pt_int.specs.declared.operator.BinOp.TheVariants as o
use Rattle.pt_tree.specs.declared.signature.Elem.TheVariants as el
use Rattle.pt_tree.specs.declared.signature.Param.{Param}
use Rattle.pt_tree.specs.declared.signature.ParamKind.TheVariants as k
use Rattle.sides.proofs.Worked.{span, int, local, number, assign, call, takes, function, host, does, returns, body}
use Rattle.sides.specs.Leaves.{leaves_of}
use Rattle.usages.specs.Usages.{usages_in}
use Rattle.typed_tree.specs.declared.link.LinkStep.TheVariants as l
use Rattle.typed_tree.specs.declared.types.StructInfo.{StructInfo}
use Rattle.typed_tree.specs.declared.types.VarTy.{VarTy}
use Rattle.typed_tree.specs.declared.types.VarTy.TheVariants as ty
use Rattle.typed_tree.specs.declared.variable.Var.{Var}
use Rattle.typed_tree.specs.ExpressionTree as t
use Rattle.typed_tree.specs.ExpressionTree.{ExprTree, typed, place, no_steps, step_and}
use Rattle.typed_tree.specs.StatementTree.{BodyTree, choose, no_else}
use Rattle.typed_tree.specs.TypedTree.{TypedTree}
use Rattle.flow_edges.proofs.Worked.{address, behind, edge, field, named, plain, set, struct}
use Rattle.flow_edges.specs.Edges.{edges_in}
use Rattle.flow_rules.specs.declared.rule.Rule.TheVariants.{OperationOnPriv, PrivToHost, PrivIntoUnpriv, SharedGlobal, UnmarkedOut, HostInMonitor, PrivToPlainParam, PrivStatus, PrivMain}
use Rattle.flow_rules.specs.Findings.{finding, findings_of}
use Rattle.flow_rules.specs.Secrets.{Flows}

-- ---- short ways to write programs

abbrev pub fn : ℕ → FnId
fn f = record { 0 = f }

-- a variable whose name stands here
abbrev at : VarTy → ℕ → ℕ → Bool → Var
at of start end unpriv = record { name = []; span = span start end; ty = of; marked = false; unpriv = unpriv; holds = None }

abbrev in_place : VarTy → Var
in_place of = at of 0 0 false

abbrev points : Bool → Param
points declassify = record { kind = k.Ptr (el.Int i.Int) false; marked = false; declassify = declassify }

-- the slots that are true here are privileged
abbrev pub flows : TypedTree → List FnId → List FnId → List Bool → Flows
flows tree slave monitor secret = record { tree = tree; slave = slave; monitor = monitor; is_priv = λ n. get_or secret n false }

-- ---- __attribute__((priv)) int load(int n);
-- __attribute__((priv, declassify)) int sign(__attribute__((priv)) int k, int n);
-- void put(int v);
-- They take 136 bytes; then comes `int main(void) { `. Their parameters are the slots 0 to 3.

abbrev with_main : List Var → List BodyTree → List ExprTree → TypedTree
with_main vars statements exprs = record {
  structs = [];
  globals = [];
  functions = host (codes "load") (Some i.Int) (takes false ∷ []) true false ∷ host (codes "sign") (Some i.Int) (takes true ∷ takes false ∷ []) true true
      ∷ host (codes "put") None (takes false ∷ []) false false
      ∷ function (codes "main") (Some i.Int) [] false false vars (body statements) ∷ [];
  exprs = exprs;
}

abbrev load : ℕ → ℕ → ExprTree
load start end = call (span start end) (Some int) 0 (number 7 ∷ [])

-- ---- int k; k = load(7); if (k) put(1); return 0;
-- k 4; the result of load 5

abbrev condition : TypedTree
condition = with_main (at int 157 158 false ∷ []) (does 0 ∷ choose (span 173 187) (record { 0 = 1 }) (does 2) no_else ∷ returns 3 ∷ [])
    (assign (local 0) (load 164 171) ∷ named int 177 178 0 ∷ call (span 180 186) None 2 (number 1 ∷ []) ∷ number 0 ∷ [])

condition_edges : edges_in condition (fn 3) ≡ edge 164 171 5 4 ∷ []
unfolding edges_in usages_in leaves_of
condition_edges = refl

condition_faults : findings_of (flows condition (fn 3 ∷ []) [] (false ∷ false ∷ false ∷ false ∷ true ∷ true ∷ []))
    ≡ finding OperationOnPriv (span 177 178) (4 ∷ []) ∷ []
unfolding findings_of usages_in leaves_of
condition_faults = refl

-- ---- put(load(7)); return 0;
-- the result of load 4

abbrev shown : TypedTree
shown = with_main [] (does 0 ∷ returns 1 ∷ []) (call (span 153 165) None 2 (load 157 164 ∷ []) ∷ number 0 ∷ [])

shown_edges : edges_in shown (fn 3) ≡ []
unfolding edges_in usages_in leaves_of
shown_edges = refl

shown_faults : findings_of (flows shown (fn 3 ∷ []) [] (false ∷ false ∷ false ∷ false ∷ true ∷ [])) ≡ finding PrivToHost (span 157 164) (4 ∷ []) ∷ []
unfolding findings_of usages_in leaves_of
shown_faults = refl

-- ---- __attribute__((unpriv)) int u; u = load(7); return 0;
-- u 4; the result of load 5

abbrev unpriv : TypedTree
unpriv = with_main (at int 181 182 true ∷ []) (does 0 ∷ returns 1 ∷ []) (assign (local 0) (load 188 195) ∷ number 0 ∷ [])

unpriv_edges : edges_in unpriv (fn 3) ≡ edge 188 195 5 4 ∷ []
unfolding edges_in usages_in leaves_of
unpriv_edges = refl

unpriv_faults : findings_of (flows unpriv (fn 3 ∷ []) [] (false ∷ false ∷ false ∷ false ∷ true ∷ true ∷ []))
    ≡ finding PrivIntoUnpriv (span 181 182) (4 ∷ []) ∷ []
unfolding findings_of usages_in leaves_of
unpriv_faults = refl

-- ---- long w; w = load(7); return 0;
-- w 4; the result of load 5

abbrev widened : TypedTree
widened = with_main (at (ty.Int i.Long) 158 159 false ∷ []) (does 0 ∷ returns 1 ∷ [])
    (set (ty.Int i.Long) (local 0) (typed (span 165 172) (Some (ty.Int i.Long)) (t.convert (load 165 172))) ∷ number 0 ∷ [])

widened_edges : edges_in widened (fn 3) ≡ []
unfolding edges_in usages_in leaves_of
widened_edges = refl

widened_faults : findings_of (flows widened (fn 3 ∷ []) [] (false ∷ false ∷ false ∷ false ∷ false ∷ true ∷ []))
    ≡ finding OperationOnPriv (span 165 172) (5 ∷ []) ∷ []
unfolding findings_of usages_in leaves_of
widened_faults = refl

-- ---- __attribute__((priv)) void f(int *p) { *p = 1; } int main(void) { int a; f(&a); return 0; }
-- p 0, a 1

abbrev unmarked : TypedTree
unmarked = record {
  structs = [];
  globals = [];
  functions = function (codes "f") None (points false ∷ []) true false (at plain 34 35 false ∷ []) (body (does 0 ∷ []))
      ∷ function (codes "main") (Some i.Int) [] false false (in_place int ∷ []) (body (does 1 ∷ returns 2 ∷ [])) ∷ [];
  exprs = assign (behind (named plain 40 41 0)) (number 1) ∷ call (span 0 0) None 0 (address plain 0 0 0 ∷ []) ∷ number 0 ∷ [];
}

unmarked_faults : findings_of (flows unmarked (fn 1 ∷ []) (fn 0 ∷ []) []) ≡ finding UnmarkedOut (span 34 35) [] ∷ []
unfolding findings_of usages_in leaves_of
unmarked_faults = refl

-- ---- __attribute__((priv)) int load(int n); void get(int *p) { *p = load(1); }
-- int main(void) { int a; get(&a); return a; }
-- n 0, p 1, a 2; the results of load 3, of get 4, of main 5

abbrev pub status : TypedTree
status = record {
  structs = [];
  globals = [];
  functions = host (codes "load") (Some i.Int) (takes false ∷ []) true false
      ∷ function (codes "get") None (points false ∷ []) false false (in_place plain ∷ []) (body (does 0 ∷ []))
      ∷ function (codes "main") (Some i.Int) [] false false (in_place int ∷ []) (body (does 1 ∷ returns 2 ∷ [])) ∷ [];
  exprs = assign (behind (named plain 59 60 0)) (call (span 63 70) (Some int) 0 (number 1 ∷ []))
      ∷ call (span 98 105) None 1 (address plain 102 104 0 ∷ []) ∷ named int 114 115 0 ∷ [];
}

-- a secret comes to a by the first and the third
status_edges : flat_map (edges_in status) (fn 1 ∷ fn 2 ∷ []) ≡ edge 63 70 3 1 ∷ edge 102 104 2 1 ∷ edge 102 104 1 2 ∷ edge 114 115 2 5 ∷ []
unfolding edges_in usages_in leaves_of
status_edges = refl

pub status_faults : findings_of (flows status (fn 1 ∷ fn 2 ∷ []) [] (false ∷ true ∷ true ∷ true ∷ false ∷ true ∷ []))
    ≡ finding PrivStatus (span 114 115) (2 ∷ []) ∷ []
unfolding findings_of usages_in leaves_of
status_faults = refl

-- ---- int g; void put(int v); priv void note(void) { g = 1; put(2); } priv int main(void) { g = 2; return 0; }

abbrev shared : TypedTree
shared = record {
  structs = [];
  globals = record { var = at int 4 5 false; fixed = false; declassify = false; cells = [] } ∷ [];
  functions = host (codes "put") None (takes false ∷ []) false false ∷ function (codes "note") None [] true false [] (body (does 0 ∷ does 1 ∷ []))
      ∷ function (codes "main") (Some i.Int) [] true false [] (body (does 2 ∷ returns 3 ∷ [])) ∷ [];
  exprs = assign (place (t.global (record { 0 = 0 })) no_steps) (number 1) ∷ call (span 60 66) None 0 (number 2 ∷ [])
      ∷ assign (place (t.global (record { 0 = 0 })) no_steps) (number 2) ∷ number 0 ∷ [];
}

shared_faults : findings_of (flows shared (fn 2 ∷ []) (fn 1 ∷ fn 2 ∷ []) [])
    ≡ finding HostInMonitor (span 60 66) [] ∷ finding SharedGlobal (span 4 5) [] ∷ finding PrivMain (span 0 0) [] ∷ []
unfolding findings_of usages_in leaves_of
shared_faults = refl

-- ---- struct S { int n; priv int key; };
-- priv void show(declassify int *p); priv void seal(declassify struct S *s), with bodies;
-- int main(void) { struct S s; show(&s.key); seal(&s); s.key += 1; return 0; }
-- p 0, s 1 and 2, main's s 3 and 4: its key is privileged, which only seal expects

abbrev keyed : StructInfo
keyed = struct (field int false ∷ field int true ∷ [])

abbrev to_keyed : VarTy
to_keyed = ty.Pointer (el.Struct 0) false

abbrev keys : TypedTree
keys = record {
  structs = keyed ∷ [];
  globals = [];
  functions = function (codes "show") None (points true ∷ []) true false (in_place plain ∷ []) (body [])
      ∷ function (codes "seal") None (record { kind = k.Ptr (el.Struct 0) false; marked = false; declassify = true } ∷ []) true false (in_place to_keyed ∷ []) (body [])
      ∷ function (codes "main") (Some i.Int) [] false false (in_place (ty.Struct 0) ∷ []) (body (does 0 ∷ does 1 ∷ does 2 ∷ returns 3 ∷ [])) ∷ [];
  exprs = call (span 10 22) None 0 (typed (span 15 21) (Some plain) (t.address (place (t.local (record { 0 = 0 })) (step_and (t.field 1) no_steps))) ∷ [])
      ∷ call (span 30 38) None 1 (address to_keyed 35 37 0 ∷ [])
      ∷ typed (span 40 50) (Some int) (t.compound (place (t.local (record { 0 = 0 })) (step_and (t.field 1) no_steps)) (span 40 45) (l.Arithmetic o.Add i.Int) (number 1))
      ∷ number 0 ∷ [];
}

keys_faults : findings_of (flows keys (fn 2 ∷ []) (fn 0 ∷ fn 1 ∷ []) (false ∷ false ∷ false ∷ false ∷ true ∷ []))
    ≡ finding PrivToPlainParam (span 15 21) (4 ∷ []) ∷ finding OperationOnPriv (span 40 45) (4 ∷ []) ∷ []
unfolding findings_of usages_in leaves_of
keys_faults = refl
