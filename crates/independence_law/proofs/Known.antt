-- What is known of a program whose secrets are decided, and of each of its functions.
use Rattle.std.proofs.Common.{◌≡◌, ◌∙◌, ℕ, ℤ, nat_eq, refl, ap, sym, subst, Bool, true, false, Option, Some, None, if◌then◌else◌, List, [], ◌∷◌, ◌++◌, length}
use Rattle.std.specs.Prelude.{IsTrue, ◌&&◌, ◌||◌, is_some, unwrap_or}
use Rattle.std.specs.List.{find, flat_map, list_all}
use Rattle.std.specs.Map.{lookup}
use Rattle.pt_base.specs.declared.int_type.IntType.TheVariants as i
use Rattle.pt_base.proofs.Booleans.{both_hold, both_hold_first, both_hold_second, false_not_true}
use Rattle.pt_base.proofs.Numbers.{nat_eq_same}
use Rattle.pt_base.proofs.Options.{some_same}
use Rattle.pt_tree.specs.declared.host_model.HostModel.{HostModel}
use Rattle.pt_tree.specs.declared.host_model.HostModel.TheVariants.{Table}
use Rattle.pt_tree.specs.declared.row.Row.{Row}
use Rattle.pt_tree.specs.declared.signature.Signature.{Signature}
use Rattle.typed_tree.specs.declared.types.VarTy.{VarTy}
use Rattle.typed_tree.specs.declared.types.VarTy.TheVariants.{Int}
use Rattle.typed_tree.specs.TypeTests.{pointee_of}
use Rattle.typed_tree.specs.WellFormed.{is_plain_type, is_small, cells_fit}
use Rattle.typed_tree.specs.Cells.{leaves_of}
use Rattle.runs.specs.State.{Hosts}
use Rattle.pt_core.specs.CodeTree.{FunctionTree, MonitorTree, ProgramTree}
use Rattle.pt_core.specs.Types.{Context, global_type}
use Rattle.pt_core.specs.Statements.{Frame, State}
use Rattle.pt_core.specs.Calls.{context_in, function_in, no_function, no_signature, signature_in}
use Rattle.pt_core.specs.WellFormed.{callee_by, callee_fits, function_at, global_fits, monitor_program, scope_of, signature_at}
use Rattle.pt_core.specs.WellFormedStatement.{Scope, callees_of, stmts_fit}
use Rattle.core_soundness_law.proofs.Programs.{FunctionFacts, GlobalOf, ProgramFacts, global_of}
use Rattle.monitor_labels.specs.Nodes.{Node, of_result}
use Rattle.monitor_labels.specs.Arrows.{function_arrows}
use Rattle.independence_law.specs.Bodies.{calls_no_plain_host, is_mixed_host, is_no_plain_host}
use Rattle.independence_law.proofs.Follows.{Follows}
use Rattle.independence_law.proofs.Values.{Sees, plain_kind}
use Rattle.independence_law.proofs.Worlds.{World, PointersLead}

-- ---- names

-- a function under this number
abbrev pub renumbered : FunctionTree → ℕ → FunctionTree
renumbered g n = record { id = n; params = g.params; vars = g.vars; body = g.body; end = g.end }

abbrev pub function_of : ProgramTree → ℕ → FunctionTree
function_of p f = renumbered (function_in p f) f

-- how its statements are tested
abbrev pub scope_in : ProgramTree → ℕ → Scope
scope_in p f = scope_of true p (function_in p f) (signature_in p f)

-- how it runs
abbrev pub frame_of : ProgramTree → ℕ → ℕ → Bool → Frame
frame_of p f depth privileged = record { context = context_in p f; depth = depth; privileged = privileged }

-- ---- programs

pub record IsTable (model : HostModel) : Type 0 where
  pub rows : List Row
  pub other : ℤ
  pub is : model ≡ Table rows other

-- secrets are decided: they follow arrows; and tables stand for mixed hosts
pub record Knows (p : MonitorTree) (s : Node → Bool) (mixed : Hosts) : Type 0 where
  pub facts : ProgramFacts true (monitor_program p)
  pub plain : IsTrue (calls_no_plain_host (monitor_program p))
  pub follows : (f : ℕ) → IsTrue (is_some (function_at (monitor_program p) f)) → Follows s (function_arrows p (function_of (monitor_program p) f))
  pub hosts : (f : ℕ) → (signature_in (monitor_program p) f).host ≡ true → (signature_in (monitor_program p) f).privileged ≡ true → IsTrue (is_some (signature_in (monitor_program p) f).result) → s (of_result f) ≡ true
  pub tables : (f : ℕ) → IsTrue (is_mixed_host (signature_in (monitor_program p) f)) → IsTable (mixed f)

-- the tables stand there
abbrev pub HostsAre : ProgramTree → Hosts → Hosts → Type 0
HostsAre p mixed hosts = (f : ℕ) → IsTrue (is_mixed_host (signature_in p f)) → hosts f ≡ mixed f

-- a state in which a function of this depth is active
pub record Stands (p : ProgramTree) (w : World) (depth : ℕ) (mixed : Hosts) (st : State) : Type 0 where
  pub pointers : PointersLead p w depth st.memory
  pub hosts : HostsAre p mixed st.hosts

-- ---- lists

pub all_first : (test : ℕ → Bool) (xs ys : List ℕ) → IsTrue (list_all test (xs ++ ys)) → IsTrue (list_all test xs)
all_first test [] ys h = refl
all_first test (x ∷ xs) ys h = both_hold (test x) (list_all test xs) (both_hold_first (test x) (list_all test (xs ++ ys)) h) (all_first test xs ys (both_hold_second (test x) (list_all test (xs ++ ys)) h))

pub all_second : (test : ℕ → Bool) (xs ys : List ℕ) → IsTrue (list_all test (xs ++ ys)) → IsTrue (list_all test ys)
all_second test [] ys h = h
all_second test (x ∷ xs) ys h = all_second test xs ys (both_hold_second (test x) (list_all test (xs ++ ys)) h)

-- ---- a function that is there

found_number : (f : ℕ) (fs : List FunctionTree) (g : FunctionTree) → find (λ x. nat_eq f x.id) fs ≡ Some g → f ≡ g.id
found_number f [] g is = cc
found_number f (x ∷ xs) g is = go (λ e. found_number f xs g e) (nat_eq f x.id) refl is
  where
    go : (find (λ (y : FunctionTree). nat_eq f y.id) xs ≡ Some g → f ≡ g.id) → (b : Bool) → nat_eq f x.id ≡ b → (if b then Some x else find (λ (y : FunctionTree). nat_eq f y.id) xs) ≡ Some g → f ≡ g.id
    go more true t e = nat_eq_same f x.id t ∙ ap (λ (z : FunctionTree). z.id) (some_same x g e)
    go more false t e = more e

-- it has its number
pub is_named : (p : ProgramTree) (f : ℕ) → IsTrue (is_some (function_at p f)) → function_in p f ≡ function_of p f
is_named p f there = go (function_at p f) refl there
  where
    go : (o : Option FunctionTree) → function_at p f ≡ o → IsTrue (is_some o) → function_in p f ≡ function_of p f
    go None e h = false_not_true h
    go (Some g) e h =
        let tree : function_in p f ≡ g = ap (λ o. unwrap_or o no_function) e in
        let named : (function_in p f).id ≡ f = ap (λ (z : FunctionTree). z.id) tree ∙ sym (found_number f p.functions g e) in
        ap (λ n. renumbered (function_in p f) n) named

-- what holds of all that the functions call holds of what one calls
called_by : (test : ℕ → Bool) (f : ℕ) (fs : List FunctionTree) (g : FunctionTree) → find (λ x. nat_eq f x.id) fs ≡ Some g → IsTrue (list_all test (flat_map (λ x. callees_of x.body) fs)) → IsTrue (list_all test (callees_of g.body))
called_by test f [] g is h = cc
called_by test f (x ∷ xs) g is h =
    go (λ e. called_by test f xs g e (all_second test (callees_of x.body) (flat_map (λ (y : FunctionTree). callees_of y.body) xs) h)) (nat_eq f x.id) is
  where
    go : (find (λ (y : FunctionTree). nat_eq f y.id) xs ≡ Some g → IsTrue (list_all test (callees_of g.body))) → (b : Bool) → (if b then Some x else find (λ (y : FunctionTree). nat_eq f y.id) xs) ≡ Some g → IsTrue (list_all test (callees_of g.body))
    go more true e = subst (λ (z : FunctionTree). IsTrue (list_all test (callees_of z.body))) (some_same x g e) (all_first test (callees_of x.body) (flat_map (λ (y : FunctionTree). callees_of y.body) xs) h)
    go more false e = more e

-- what code calls: functions that are there, and no plain host
pub record AreCalled (p : ProgramTree) (names : List ℕ) : Type 0 where
  pub fit : IsTrue (list_all (callee_fits true p) names)
  pub plain : IsTrue (list_all (is_no_plain_host p) names)

pub called_first : (p : ProgramTree) (xs ys : List ℕ) → AreCalled p (xs ++ ys) → AreCalled p xs
called_first p xs ys called = record { fit = all_first (callee_fits true p) xs ys called.fit; plain = all_first (is_no_plain_host p) xs ys called.plain }

pub called_second : (p : ProgramTree) (xs ys : List ℕ) → AreCalled p (xs ++ ys) → AreCalled p ys
called_second p xs ys called = record { fit = all_second (callee_fits true p) xs ys called.fit; plain = all_second (is_no_plain_host p) xs ys called.plain }

-- ---- its body

pub body_called : (p : MonitorTree) (s : Node → Bool) (mixed : Hosts) (f : ℕ) → Knows p s mixed → FunctionFacts true (monitor_program p) f → AreCalled (monitor_program p) (callees_of (function_in (monitor_program p) f).body)
body_called p s mixed f knows function = record {
  fit = subst (λ (g : FunctionTree). IsTrue (list_all (callee_fits true (monitor_program p)) (callees_of g.body))) (sym function.tree_is) (called_by (callee_fits true (monitor_program p)) f p.functions function.tree function.found knows.facts.calls);
  plain = subst (λ (g : FunctionTree). IsTrue (list_all (is_no_plain_host (monitor_program p)) (callees_of g.body))) (sym function.tree_is) (called_by (is_no_plain_host (monitor_program p)) f p.functions function.tree function.found knows.plain);
}

pub body_fits : (p : ProgramTree) (f : ℕ) → FunctionFacts true p f → IsTrue (stmts_fit (scope_in p f) false (function_in p f).body)
body_fits p f function =
    subst (λ (g : FunctionTree). IsTrue (stmts_fit (scope_of true p g (signature_in p f)) false g.body)) (sym function.tree_is)
    (subst (λ (x : Signature). IsTrue (stmts_fit (scope_of true p function.tree x) false function.tree.body)) (sym function.signature_is) function.body)

-- a global is no pointer
known_global : (c : Context) (g : ℕ) → IsTrue (is_some (lookup (nat_eq g) c.globals)) → lookup (nat_eq g) c.globals ≡ Some (global_type c g)
known_global c g h = go (lookup (nat_eq g) c.globals) h
  where
    go : (o : Option VarTy) → IsTrue (is_some o) → o ≡ Some (unwrap_or o (Int i.Int))
    go None h = false_not_true h
    go (Some ty) h = refl

pub global_kind : (p : ProgramTree) (f g : ℕ) → ProgramFacts true p → IsTrue (is_some (lookup (nat_eq g) (context_in p f).globals)) → pointee_of (Some (global_type (context_in p f) g)) ≡ None
global_kind p f g facts h =
    let ty : VarTy = global_type (context_in p f) g in
    let of : GlobalOf (global_fits p.structs) ty = global_of (global_fits p.structs) g p.globals ty (known_global (context_in p f) g h) facts.globals in
    let type : VarTy = of.of.var.ty in
    let fits = both_hold_first (is_plain_type (length p.structs) type && is_small p.structs type) (cells_fit (leaves_of p.structs type) of.of.cells) of.fits in
    ap (λ u. pointee_of (Some u)) (sym of.typed) ∙ plain_kind (length p.structs) type (both_hold_first (is_plain_type (length p.structs) type) (is_small p.structs type) fits)

pub sees : (p : MonitorTree) (w : World) (f depth : ℕ) (mixed : Hosts) (st : State) → Knows p w.secret mixed → w.who depth ≡ f → Stands (monitor_program p) w depth mixed st → Sees (monitor_program p) w f depth st.memory
sees p w f depth mixed st knows here stands = record {
  here = here;
  structs = knows.facts.structs;
  globals = λ g h. global_kind (monitor_program p) f g knows.facts h;
  pointers = stands.pointers;
}

-- ---- callees

abbrev host_in : Signature → Bool
host_in x = x.host

-- a host, or a function that is there
pub callee_there : (p : ProgramTree) (g : ℕ) → IsTrue (callee_fits true p g) → (signature_in p g).host ≡ false → IsTrue (is_some (function_at p g))
callee_there p g h no_host = go (signature_at p g) refl h
  where
    rest : (b c : Bool) → IsTrue ((false || (c && false)) || b) → IsTrue b
    rest b true h = h
    rest b false h = h

    go : (o : Option Signature) → signature_at p g ≡ o → IsTrue (callee_by true p g o) → IsTrue (is_some (function_at p g))
    go None e h = false_not_true h
    go (Some x) e h =
        let host : x.host ≡ false = ap (λ o. host_in (unwrap_or o no_signature)) (sym e) ∙ no_host in
        rest (is_some (function_at p g)) x.privileged (subst (λ b. IsTrue ((b || (x.privileged && false)) || is_some (function_at p g))) host h)
