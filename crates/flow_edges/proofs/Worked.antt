-- Small programs, on which the definitions are tried by computing. The edges were found by hand first.
use Rattle.std.proofs.Common.{◌≡◌, ℕ, refl, Bool, true, false, Some, None, List, [], ◌∷◌, codes}
use Rattle.pt_base.specs.declared.int_type.IntType.TheVariants as i
use Rattle.pt_base.specs.declared.slot.Edge.{Edge}
use Rattle.pt_tree.specs.declared.signature.Elem.TheVariants as el
use Rattle.pt_tree.specs.declared.signature.Param.{Param}
use Rattle.pt_tree.specs.declared.signature.ParamKind.TheVariants as p
use Rattle.sides.proofs.Worked.{span, int, var, local, number, assign, call, takes, function, host, does, returns, body}
use Rattle.sides.specs.Leaves.{leaves_of}
use Rattle.usages.specs.Usages.{usages_in}
use Rattle.typed_tree.specs.declared.statement.TypedDeclarator.{TypedDeclarator}
use Rattle.typed_tree.specs.declared.statement.TypedForInit.TheVariants as f
use Rattle.typed_tree.specs.declared.statement.TypedInit.{TypedInit}
use Rattle.typed_tree.specs.declared.statement.TypedInit.TheVariants as n
use Rattle.typed_tree.specs.declared.types.Field.{Field}
use Rattle.typed_tree.specs.declared.types.StructInfo.{StructInfo}
use Rattle.typed_tree.specs.declared.types.VarTy.{VarTy}
use Rattle.typed_tree.specs.declared.types.VarTy.TheVariants as ty
use Rattle.typed_tree.specs.ExpressionTree as t
use Rattle.typed_tree.specs.ExpressionTree.{ExprTree, PlaceTree, typed, place, no_steps}
use Rattle.typed_tree.specs.StatementTree.{BodyTree, declare, for_each}
use Rattle.typed_tree.specs.TypedTree.{TypedTree}
use Rattle.flow_edges.specs.Edges.{edges_in}
use Rattle.flow_edges.specs.Moves.{edge_between}

-- ---- short ways to write trees

abbrev pub edge : ℕ → ℕ → ℕ → ℕ → Edge
edge start end a b = edge_between (span start end) a b

abbrev pub plain : VarTy
plain = ty.Pointer (el.Int i.Int) false

-- a variable, by its type, its place in the text and its number
abbrev pub named : VarTy → ℕ → ℕ → ℕ → ExprTree
named of start end x = typed (span start end) (Some of) (t.read (local x))

abbrev pub address : VarTy → ℕ → ℕ → ℕ → ExprTree
address of start end x = typed (span start end) (Some of) (t.address (local x))

abbrev pub choice : VarTy → ℕ → ℕ → ExprTree → ExprTree → ExprTree → ExprTree
choice of start end a b c = typed (span start end) (Some of) (t.choice a b c)

abbrev pub set : VarTy → PlaceTree → ExprTree → ExprTree
set of p a = typed (span 0 0) (Some of) (t.assign p a)

abbrev pub behind : ExprTree → PlaceTree
behind a = place (t.deref a (span 0 0)) no_steps

abbrev pub points : Bool → Bool → Bool → Param
points fixed marked declassify = record { kind = p.Ptr (el.Int i.Int) fixed; marked = marked; declassify = declassify }

abbrev pub field : VarTy → Bool → Field
field ty marked = record { name = []; ty = ty; marked = marked }

abbrev pub struct : List Field → StructInfo
struct fields = record { name = []; fields = fields }

abbrev pub begins : ℕ → TypedInit → TypedDeclarator
begins x init = record { var = record { 0 = x }; init = init }

abbrev pub declares : List TypedDeclarator → BodyTree
declares ds = declare (record { span = span 0 0; declarators = ds })

-- ---- priv int load(int n); int same(int x) { return x; }
-- int main(void) { int k; k = load(7); k = same(k); return k; }
-- n 0, x 1, k 2; the results of load 3, of same 4, of main 5

abbrev passes : TypedTree
passes = record {
  structs = [];
  globals = [];
  functions = host (codes "load") (Some i.Int) (takes false ∷ []) true false
      ∷ function (codes "same") (Some i.Int) (takes false ∷ []) false false (var int false ∷ []) (body (returns 0 ∷ []))
      ∷ function (codes "main") (Some i.Int) [] false false (var int false ∷ []) (body (does 1 ∷ does 2 ∷ returns 3 ∷ [])) ∷ [];
  exprs = named int 50 51 1 ∷ assign (local 0) (call (span 80 87) (Some int) 0 (number 7 ∷ []))
      ∷ assign (local 0) (call (span 93 100) (Some int) 1 (named int 98 99 0 ∷ [])) ∷ named int 109 110 0 ∷ [];
}

passes_load : edges_in passes (record { 0 = 0 }) ≡ []
unfolding edges_in usages_in
passes_load = refl

passes_main : edges_in passes (record { 0 = 2 }) ≡ edge 80 87 3 2 ∷ edge 98 99 2 1 ∷ edge 93 100 4 2 ∷ edge 109 110 2 5 ∷ []
unfolding edges_in usages_in leaves_of
passes_main = refl

-- ---- int main(void) { int a; int b; int c; int k; int *p; int *q;
-- p = &a; q = &b; *(c ? p : q) = k; *(c ? p : p) = c ? k : k; return 0; }
-- a 0, b 1, c 2, k 3, p 4, q 5; the result 6

abbrev follows : TypedTree
follows = record {
  structs = [];
  globals = [];
  functions = function (codes "main") (Some i.Int) [] false false
      (var int false ∷ var int false ∷ var int false ∷ var int false ∷ var plain false ∷ var plain false ∷ [])
      (body (does 0 ∷ does 1 ∷ does 2 ∷ does 3 ∷ returns 4 ∷ [])) ∷ [];
  exprs = set plain (local 4) (address plain 10 12 0) ∷ set plain (local 5) (address plain 20 22 1)
      ∷ assign (behind (choice plain 30 39 (named int 31 32 2) (named plain 33 34 4) (named plain 35 36 5))) (named int 40 41 3)
      ∷ assign (behind (choice plain 50 59 (named int 51 52 2) (named plain 53 54 4) (named plain 55 56 4)))
      (choice int 60 69 (named int 61 62 2) (named int 63 64 3) (named int 65 66 3))
      ∷ number 0 ∷ [];
}

follows_main : edges_in follows (record { 0 = 0 })
    ≡ edge 10 12 0 4 ∷ edge 10 12 4 0 ∷ edge 20 22 1 5 ∷ edge 20 22 5 1 ∷ edge 40 41 3 4 ∷ edge 40 41 3 5 ∷ edge 60 69 3 4 ∷ []
unfolding edges_in usages_in leaves_of
follows_main = refl

-- ---- struct In { int a; int b; }; struct S { int x; struct In i[2]; };
-- int main(void) { struct S s; struct S t; struct S *p; s = t; p = 1 ? &s : &t; return 0; }
-- s 0 to 2, t 3 to 5, p 6 to 8; the result 9

abbrev pairs : StructInfo
pairs = struct (field int false ∷ field int false ∷ [])

abbrev holder : StructInfo
holder = struct (field int false ∷ field (ty.Array (el.Struct 0) 2) false ∷ [])

abbrev to_holder : VarTy
to_holder = ty.Pointer (el.Struct 1) false

abbrev copies : TypedTree
copies = record {
  structs = pairs ∷ holder ∷ [];
  globals = [];
  functions = function (codes "main") (Some i.Int) [] false false
      (var (ty.Struct 1) false ∷ var (ty.Struct 1) false ∷ var to_holder false ∷ []) (body (does 0 ∷ does 1 ∷ returns 2 ∷ [])) ∷ [];
  exprs = set (ty.Struct 1) (local 0) (named (ty.Struct 1) 10 11 1)
      ∷ set to_holder (local 2) (choice to_holder 20 29 (number 1) (address to_holder 22 24 0) (address to_holder 26 28 1)) ∷ number 0 ∷ [];
}

copies_main : edges_in copies (record { 0 = 0 }) ≡ edge 10 11 3 0 ∷ edge 10 11 4 1 ∷ edge 10 11 5 2
    ∷ edge 20 29 0 6 ∷ edge 20 29 6 0 ∷ edge 20 29 3 6 ∷ edge 20 29 6 3
    ∷ edge 20 29 1 7 ∷ edge 20 29 7 1 ∷ edge 20 29 4 7 ∷ edge 20 29 7 4
    ∷ edge 20 29 2 8 ∷ edge 20 29 8 2 ∷ edge 20 29 5 8 ∷ edge 20 29 8 5 ∷ []
unfolding edges_in usages_in leaves_of
copies_main = refl

-- ---- int main(void) { int a; int b; int c; for (;; a = b) b = c; return 0; }

abbrev steps : TypedTree
steps = record {
  structs = [];
  globals = [];
  functions = function (codes "main") (Some i.Int) [] false false (var int false ∷ var int false ∷ var int false ∷ [])
      (body (for_each (span 0 0) f.Nothing None (Some (record { 0 = 0 })) (does 1) ∷ returns 2 ∷ [])) ∷ [];
  exprs = assign (local 0) (named int 10 11 1) ∷ assign (local 1) (named int 20 21 2) ∷ number 0 ∷ [];
}

steps_main : edges_in steps (record { 0 = 0 }) ≡ edge 10 11 1 0 ∷ edge 20 21 2 1 ∷ []
unfolding edges_in usages_in leaves_of
steps_main = refl

-- ---- int mix(priv int x, int y); void sink(priv int x); int main(void) { int k; k = mix(k, k); sink(k); return 0; }
-- x 0, y 1, x 2, k 3; the results of mix 4, of sink 5, of main 6

abbrev mixing : TypedTree
mixing = record {
  structs = [];
  globals = [];
  functions = host (codes "mix") (Some i.Int) (takes true ∷ takes false ∷ []) false false ∷ host (codes "sink") None (takes true ∷ []) false false
      ∷ function (codes "main") (Some i.Int) [] false false (var int false ∷ []) (body (does 0 ∷ does 1 ∷ returns 2 ∷ [])) ∷ [];
  exprs = assign (local 0) (call (span 10 19) (Some int) 0 (named int 14 15 0 ∷ named int 17 18 0 ∷ []))
      ∷ call (span 20 27) None 1 (named int 25 26 0 ∷ []) ∷ number 0 ∷ [];
}

mixing_main : edges_in mixing (record { 0 = 2 }) ≡ edge 14 15 3 4 ∷ edge 10 19 4 3 ∷ []
unfolding edges_in usages_in leaves_of
mixing_main = refl

-- ---- struct In { int a; int b; }; struct S { int x; struct In i[2]; };
-- int main(void) { int k; struct S s = {k, 1, k, k}; struct S u = s; int *p = {&k}; int a[2] = {1, k}; return 0; }
-- k 0, s 1 to 3, u 4 to 6, p 7, a 8; the result 9

abbrev lists : TypedTree
lists = record {
  structs = pairs ∷ holder ∷ [];
  globals = [];
  functions = function (codes "main") (Some i.Int) [] false false
      (var int false ∷ var (ty.Struct 1) false ∷ var (ty.Struct 1) false ∷ var plain false ∷ var (ty.Array (el.Int i.Int) 2) false ∷ [])
      (body (declares (begins 0 n.Nothing ∷ [])
      ∷ declares (begins 1 (n.Items (span 0 0) (record { 0 = 0 } ∷ record { 0 = 1 } ∷ record { 0 = 2 } ∷ record { 0 = 3 } ∷ [])) ∷ [])
      ∷ declares (begins 2 (n.Value (record { 0 = 4 })) ∷ []) ∷ declares (begins 3 (n.Items (span 0 0) (record { 0 = 5 } ∷ [])) ∷ [])
      ∷ declares (begins 4 (n.Items (span 0 0) (record { 0 = 6 } ∷ record { 0 = 7 } ∷ [])) ∷ []) ∷ returns 8 ∷ [])) ∷ [];
  exprs = named int 10 11 0 ∷ number 1 ∷ named int 14 15 0 ∷ named int 16 17 0
      ∷ named (ty.Struct 1) 20 21 1 ∷ address plain 30 32 0 ∷ number 1 ∷ named int 40 41 0 ∷ number 0 ∷ [];
}

lists_main : edges_in lists (record { 0 = 0 }) ≡ edge 10 11 0 1 ∷ edge 14 15 0 3 ∷ edge 16 17 0 2
    ∷ edge 20 21 1 4 ∷ edge 20 21 2 5 ∷ edge 20 21 3 6 ∷ edge 30 32 0 7 ∷ edge 30 32 7 0 ∷ edge 40 41 0 8 ∷ []
unfolding edges_in usages_in leaves_of
lists_main = refl

-- ---- void one(int *p) { *p = 1; } priv void get(int *p) { *p = 1; } int same(int x) { return x; }
-- int main(void) { int a; int b; one(&a); get(&a); return same(a = b); }
-- p 0, p 1, x 2, a 3, b 4; the results of one 5, of get 6, of same 7, of main 8

abbrev hands : TypedTree
hands = record {
  structs = [];
  globals = [];
  functions = function (codes "one") None (points false false false ∷ []) false false (var plain false ∷ []) (body (does 0 ∷ []))
      ∷ function (codes "get") None (points false false false ∷ []) true false (var plain false ∷ []) (body (does 1 ∷ []))
      ∷ function (codes "same") (Some i.Int) (takes false ∷ []) false false (var int false ∷ []) (body (returns 2 ∷ []))
      ∷ function (codes "main") (Some i.Int) [] false false (var int false ∷ var int false ∷ []) (body (does 3 ∷ does 4 ∷ returns 5 ∷ [])) ∷ [];
  exprs = assign (behind (named plain 1 2 0)) (number 1) ∷ assign (behind (named plain 3 4 0)) (number 1) ∷ named int 5 6 0
      ∷ call (span 10 17) None 0 (address plain 14 16 0 ∷ []) ∷ call (span 20 27) None 1 (address plain 24 26 0 ∷ [])
      ∷ call (span 30 41) (Some int) 2 (typed (span 35 40) (Some int) (t.assign (local 0) (named int 39 40 1)) ∷ []) ∷ [];
}

hands_main : edges_in hands (record { 0 = 3 }) ≡ edge 14 16 3 0 ∷ edge 14 16 0 3 ∷ edge 39 40 4 3 ∷ edge 35 40 3 2 ∷ edge 30 41 7 8 ∷ []
unfolding edges_in usages_in leaves_of
hands_main = refl
