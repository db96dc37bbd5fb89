-- Small programs, on which the definitions are tried by computing. Nodes, edges and verdicts were found by hand first.
use Rattle.std.proofs.Common.{◌≡◌, ◌<◌, ℕ, zero, suc, pos, refl, arith, subst, sym, Bool, true, false, Option, Some, None, List, [], ◌∷◌, length, codes, nat_eq, ⊎_elim}
use Rattle.std.specs.Prelude.{◌||◌, Contains, IsTrue}
use Rattle.pt_base.specs.declared.int_type.IntType.{IntType}
use Rattle.pt_base.specs.declared.int_type.IntType.TheVariants as i
use Rattle.pt_base.specs.declared.slot.Edge.{Edge}
use Rattle.pt_base.specs.declared.slot.Slot.{Slot}
use Rattle.pt_base.specs.declared.span.Span.{Span}
use Rattle.pt_base.proofs.Booleans.{true_and_false}
use Rattle.pt_base.proofs.Members.{contains_cases, contains_first, contains_nothing}
use Rattle.pt_int.specs.declared.operator.BinOp.TheVariants.{Add, Mul, Lt, Eq}
use Rattle.pt_tree.specs.declared.signature.Elem.TheVariants as e
use Rattle.pt_tree.specs.declared.signature.Param.{Param}
use Rattle.pt_tree.specs.declared.signature.ParamKind.TheVariants as k
use Rattle.pt_tree.specs.declared.signature.Signature.{Signature}
use Rattle.typed_tree.specs.declared.types.StructInfo.{StructInfo}
use Rattle.typed_tree.specs.declared.types.VarTy.{VarTy}
use Rattle.typed_tree.specs.declared.types.VarTy.TheVariants as ty
use Rattle.typed_tree.specs.declared.variable.Var.{Var}
use Rattle.typed_tree.specs.Cells as cells
use Rattle.propagation.specs.Paths.{IsPriv, Leads, from_of, to_of}
use Rattle.pt_core.specs.CodeTree.{local, deref, PlaceTree, place, ExprTree, constant, read, binary, decay, move, expr_trees, StmtTree, clear, assign, call, choose, repeat, break_out, give_back, stmt_trees, FunctionTree, MonitorTree}
use Rattle.pt_core.specs.declared.monitor.Entry.{Entry}
use Rattle.pt_core.specs.WellFormed.{is_well_formed_monitor}
use Rattle.monitor_labels.specs.Nodes.{of_result}
use Rattle.monitor_labels.specs.Seeds.{seeds_of}
use Rattle.monitor_labels.specs.Counting.{slot}
use Rattle.monitor_labels.specs.Labels.{all_label_edges, edge_between, label_edges}
use Rattle.monitor_labels.specs.Secrecy.{IsSecret, audited}

-- ---- short ways to write programs

abbrev at : Span
at = record { from = 0; to = 0 }

abbrev int : VarTy
int = ty.Int i.Int

abbrev to_int : VarTy
to_int = ty.Pointer (e.Int i.Int) false

abbrev var : VarTy → Bool → Var
var t marked = record { name = []; span = at; ty = t; marked = marked; unpriv = false; holds = None }

abbrev takes : Bool → Param
takes marked = record { kind = k.Int i.Int; marked = marked; declassify = false }

abbrev points : Param
points = record { kind = k.Ptr (e.Int i.Int) false; marked = false; declassify = false }

abbrev signature : Option IntType → List Param → Bool → Bool → Signature
signature result params privileged declassify = record { name = codes "f"; result = result; params = params; host = false; privileged = privileged; declassify = declassify }

abbrev function : ℕ → ℕ → List Var → List StmtTree → FunctionTree
function n own vars body = record { id = n; params = own; vars = vars; body = stmt_trees body; end = at }

abbrev entry : ℕ → Entry
entry f = record { function = record { 0 = f }; shared = [] }

abbrev variable : ℕ → PlaceTree
variable v = place (local v) []

abbrev value : ℕ → ExprTree
value v = read (variable v)

abbrev number : ℕ → ExprTree
number n = constant i.Int (pos n)

abbrev edge : ℕ → ℕ → Edge
edge a b = edge_between (slot a) (slot b)

-- ---- what is closed under edges has all that paths lead to

abbrev IsClosed : (ℕ → Bool) → List Edge → Type 0
IsClosed set [] = Unit {0}
IsClosed set (x ∷ xs) = (IsTrue (set x.from.0) → IsTrue (set x.to.0)) × IsClosed set xs

abbrev AreIn : (ℕ → Bool) → List Slot → Type 0
AreIn set [] = Unit {0}
AreIn set (s ∷ ss) = IsTrue (set s.0) × AreIn set ss

follows_at : (set : ℕ → Bool) (edges : List Edge) (n : ℕ) → IsClosed set edges → n < length edges → IsTrue (set (from_of edges n).0) → IsTrue (set (to_of edges n).0)
follows_at set [] n closed lt h = absurd (omega arith)
follows_at set (x ∷ xs) zero closed lt h = closed.0 h
follows_at set (x ∷ xs) (suc n) closed lt h = follows_at set xs n closed.1 (omega arith) h

stays_in : (set : ℕ → Bool) (edges : List Edge) → IsClosed set edges → (path : List ℕ) (a b : Slot) → Leads edges path a b → IsTrue (set a.0) → IsTrue (set b.0)
stays_in set edges closed [] a b h has = subst (λ (x : Slot). IsTrue (set x.0)) h has
stays_in set edges closed (n ∷ path) a b h has =
    stays_in set edges closed path (to_of edges n) b h.2 (follows_at set edges n closed h.0 (subst (λ (x : Slot). IsTrue (set x.0)) (sym h.1) has))

seed_in : (set : ℕ → Bool) (seeds : List Slot) (s : Slot) → AreIn set seeds → Contains seeds s → IsTrue (set s.0)
seed_in set [] s all h = absurd (contains_nothing s h)
seed_in set (x ∷ xs) s all h = ⊎_elim (λ is. subst (λ (y : Slot). IsTrue (set y.0)) is all.0) (λ later. seed_in set xs s all.1 later) (contains_cases x xs s h)

-- what isn't in such a set that has the seeds isn't secret
open_by : (set : ℕ → Bool) (seeds : List Slot) (edges : List Edge) (s : ℕ) → AreIn set seeds → IsClosed set edges → set s ≡ false → ¬ IsPriv seeds edges (slot s)
open_by set seeds edges s all closed out priv =
    true_and_false (set s) (stays_in set edges closed priv.1 priv.0 (slot s) priv.3 (seed_in set seeds priv.0 all priv.2)) out

-- ---- priv declassify int age(priv int k, int n) { int t; t = k; return n + 1; }
-- k 0, n 1, t 2; what it gives 3, what it does 4

abbrev age : MonitorTree
age = record {
  structs = [];
  signatures = (0, signature (Some i.Int) (takes true ∷ takes false ∷ []) true true) ∷ [];
  functions = function 0 2 (var int true ∷ var int false ∷ var int false ∷ [])
      (clear 2 ∷ assign (variable 2) (value 0) ∷ give_back (Some (binary Add i.Int (value 1) (number 1) at)) ∷ []) ∷ [];
  globals = [];
  entries = entry 0 ∷ [];
}

age_is_sound : is_well_formed_monitor age ≡ true
unfolding is_well_formed_monitor cells.leaves_of
age_is_sound = refl

age_seeds : seeds_of age ≡ slot 0 ∷ []
age_seeds = refl

abbrev age_edges : List Edge
age_edges = edge 4 2 ∷ edge 0 2 ∷ edge 2 2 ∷ edge 4 2 ∷ edge 1 3 ∷ edge 4 3 ∷ []

age_has : all_label_edges age ≡ age_edges
unfolding label_edges
age_has = refl

age_is_audited : audited age ≡ 0 ∷ []
age_is_audited = refl

abbrev in_age : ℕ → Bool
in_age n = nat_eq n 0 || nat_eq n 2

age_is_independent : ¬ IsSecret age (of_result 0)
age_is_independent secret =
    open_by in_age (slot 0 ∷ []) age_edges 3 (refl, tt {0})
    ((λ h. refl), ((λ h. refl), ((λ h. refl), ((λ h. refl), ((λ h. h), ((λ h. h), tt {0}))))))
    refl (subst (λ es. IsPriv (slot 0 ∷ []) es (slot 3)) age_has secret)

-- ---- priv declassify int len(priv int k) { int n; n = 0; while (n < 9) { if (n == k) break; n = n + 1; } return n; }
-- k 0, n 1; what it gives 2, what it does 3

abbrev len : MonitorTree
len = record {
  structs = [];
  signatures = (0, signature (Some i.Int) (takes true ∷ []) true true) ∷ [];
  functions = function 0 1 (var int true ∷ var int false ∷ [])
      (clear 1 ∷ assign (variable 1) (number 0)
      ∷ repeat (stmt_trees (choose (binary Lt i.Int (value 1) (number 9) at) (stmt_trees []) (stmt_trees (break_out ∷ []))
      ∷ choose (binary Eq i.Int (value 1) (value 0) at) (stmt_trees (break_out ∷ [])) (stmt_trees [])
      ∷ assign (variable 1) (binary Add i.Int (value 1) (number 1) at) ∷ [])) at
      ∷ give_back (Some (value 1)) ∷ []) ∷ [];
  globals = [];
  entries = entry 0 ∷ [];
}

len_is_sound : is_well_formed_monitor len ≡ true
unfolding is_well_formed_monitor cells.leaves_of
len_is_sound = refl

abbrev len_edges : List Edge
len_edges = edge 3 1 ∷ edge 1 1 ∷ edge 3 1 ∷ edge 1 3 ∷ edge 0 3 ∷ edge 1 3 ∷ edge 1 1 ∷ edge 1 1 ∷ edge 3 1 ∷ edge 1 2 ∷ edge 3 2 ∷ []

len_has : all_label_edges len ≡ len_edges
unfolding label_edges
len_has = refl

-- from k to what is done, and from there to what it gives
len_is_dependent : IsSecret len (of_result 0)
len_is_dependent = subst (λ es. IsPriv (slot 0 ∷ []) es (slot 2)) (sym len_has)
    (slot 0, 4 ∷ 10 ∷ [], contains_first (slot 0) [], (omega arith, refl, (omega arith, refl, refl)))

-- ---- int twice(int x) { return x * 2; } priv int seal(int x) { return twice(x); }
-- priv declassify int show(priv int k) { return twice(k); }
-- twice's x 0, seal's x 1 and what the call gives 2, show's k 3 and what the call gives 4; results 5 to 7, what is done 8 to 10

abbrev show : MonitorTree
show = record {
  structs = [];
  signatures = (1, signature (Some i.Int) (takes false ∷ []) false false) ∷ (2, signature (Some i.Int) (takes false ∷ []) true false) ∷ (4, signature (Some i.Int) (takes true ∷ []) true true) ∷ [];
  functions = function 1 1 (var int false ∷ []) (give_back (Some (binary Mul i.Int (value 0) (number 2) at)) ∷ [])
      ∷ function 2 1 (var int false ∷ var int false ∷ []) (call 1 (expr_trees (value 0 ∷ [])) (Some 1) at ∷ give_back (Some (value 1)) ∷ [])
      ∷ function 4 1 (var int true ∷ var int false ∷ []) (call 1 (expr_trees (value 0 ∷ [])) (Some 1) at ∷ give_back (Some (value 1)) ∷ []) ∷ [];
  globals = [];
  entries = entry 2 ∷ entry 4 ∷ [];
}

show_is_sound : is_well_formed_monitor show ≡ true
unfolding is_well_formed_monitor cells.leaves_of
show_is_sound = refl

show_seeds : seeds_of show ≡ slot 3 ∷ []
show_seeds = refl

abbrev show_edges : List Edge
show_edges =
    edge 0 5 ∷ edge 8 5
    ∷ edge 1 0 ∷ edge 9 8 ∷ edge 5 2 ∷ edge 9 2 ∷ edge 2 6 ∷ edge 9 6
    ∷ edge 3 0 ∷ edge 10 8 ∷ edge 5 4 ∷ edge 10 4 ∷ edge 4 7 ∷ edge 10 7 ∷ []

show_has : all_label_edges show ≡ show_edges
unfolding label_edges
show_has = refl

show_is_audited : audited show ≡ 4 ∷ []
show_is_audited = refl

-- through twice
show_is_dependent : IsSecret show (of_result 4)
show_is_dependent = subst (λ es. IsPriv (slot 3 ∷ []) es (slot 7)) (sym show_has)
    (slot 3, 8 ∷ 0 ∷ 10 ∷ 12 ∷ [], contains_first (slot 3) [], (omega arith, refl, (omega arith, refl, (omega arith, refl, (omega arith, refl, refl)))))

-- ---- void put2(int *p, int v) { *p = v; }
-- priv declassify int first(priv int k, int n) { int a[3]; int i; i = n; put2(&a[i], k); return i; }
-- put2's p 0 and v 1; first's k 2, n 3, a 4, i 5; the result of first 6; what is done 7 and 8

abbrev first : MonitorTree
first = record {
  structs = [];
  signatures = (0, signature None (points ∷ takes false ∷ []) false false) ∷ (2, signature (Some i.Int) (takes true ∷ takes false ∷ []) true true) ∷ [];
  functions = function 0 2 (var to_int false ∷ var int false ∷ []) (assign (place (deref (value 0) at) []) (value 1) ∷ [])
      ∷ function 2 2 (var int true ∷ var int false ∷ var (ty.Array (e.Int i.Int) 3) false ∷ var int false ∷ [])
      (clear 2 ∷ clear 3 ∷ assign (variable 3) (value 1)
      ∷ call 0 (expr_trees (move (decay (variable 2)) (value 3) false at ∷ value 0 ∷ [])) None at ∷ give_back (Some (value 3)) ∷ []) ∷ [];
  globals = [];
  entries = entry 2 ∷ [];
}

first_is_sound : is_well_formed_monitor first ≡ true
unfolding is_well_formed_monitor cells.leaves_of
first_is_sound = refl

-- i goes to p, and p back to a alone
abbrev first_edges : List Edge
first_edges =
    edge 1 0 ∷ edge 0 0 ∷ edge 7 0
    ∷ edge 8 4 ∷ edge 8 5 ∷ edge 3 5 ∷ edge 5 5 ∷ edge 8 5
    ∷ edge 5 0 ∷ edge 4 0 ∷ edge 0 4 ∷ edge 2 1 ∷ edge 8 7 ∷ edge 5 6 ∷ edge 8 6 ∷ []

first_has : all_label_edges first ≡ first_edges
unfolding label_edges
first_has = refl

abbrev in_first : ℕ → Bool
in_first n = (nat_eq n 0 || nat_eq n 1) || (nat_eq n 2 || nat_eq n 4)

first_is_independent : ¬ IsSecret first (of_result 2)
first_is_independent secret =
    open_by in_first (slot 2 ∷ []) first_edges 6 (refl, tt {0})
    ((λ h. refl), ((λ h. refl), ((λ h. refl), ((λ h. refl), ((λ h. h), ((λ h. h), ((λ h. h), ((λ h. h), ((λ h. refl), ((λ h. refl), ((λ h. refl), ((λ h. refl), ((λ h. h), ((λ h. h), ((λ h. h), tt {0})))))))))))))))
    refl (subst (λ es. IsPriv (slot 2 ∷ []) es (slot 6)) first_has secret)

-- ---- struct s { int open; priv int key; };
-- priv declassify int f(const int *p) { return *p; } and then the same of a struct s: return p->open;

abbrev keyed : StructInfo
keyed = record {
  name = [];
  fields = record { name = []; ty = int; marked = false } ∷ record { name = []; ty = int; marked = true } ∷ [];
}

abbrev reading : Param → VarTy → List ℕ → MonitorTree
reading param of path = record {
  structs = keyed ∷ [];
  signatures = (0, signature (Some i.Int) (param ∷ []) true true) ∷ [];
  functions = function 0 1 (var of false ∷ []) (give_back (Some (read (place (deref (value 0) at) path))) ∷ []) ∷ [];
  globals = [];
  entries = entry 0 ∷ [];
}

abbrev of_struct : Param
of_struct = record { kind = k.Ptr (e.Struct 0) true; marked = false; declassify = false }

abbrev of_int : Param
of_int = record { kind = k.Ptr (e.Int i.Int) true; marked = false; declassify = false }

reads_open : is_well_formed_monitor (reading of_int (ty.Pointer (e.Int i.Int) true) []) ≡ true
unfolding is_well_formed_monitor cells.leaves_of
reads_open = refl

no_seed : seeds_of (reading of_int (ty.Pointer (e.Int i.Int) true) []) ≡ []
no_seed = refl

reads_of_struct : is_well_formed_monitor (reading of_struct (ty.Pointer (e.Struct 0) true) (0 ∷ [])) ≡ true
unfolding is_well_formed_monitor cells.leaves_of
reads_of_struct = refl

one_seed : seeds_of (reading of_struct (ty.Pointer (e.Struct 0) true) (0 ∷ [])) ≡ slot 0 ∷ []
one_seed = refl

struct_is_dependent : IsSecret (reading of_struct (ty.Pointer (e.Struct 0) true) (0 ∷ [])) (of_result 0)
unfolding label_edges
struct_is_dependent = (slot 0, 0 ∷ [], contains_first (slot 0) [], (omega arith, refl, refl))
