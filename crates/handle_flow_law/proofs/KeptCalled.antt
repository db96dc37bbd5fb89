-- The classes of what the slave's code calls, and its code that is fine in them; what the slave's gate does with calls.
use Rattle.std.proofs.Common.{◌≡◌, ◌∙◌, ℕ, zero, suc, ◌+◌, refl, ap, sym, subst, inl, inr, ◌⊎◌, Bool, true, false, Option, None, Some, List, [], ◌∷◌, ◌++◌, length, cond, if◌then◌else◌}
use Rattle.std.specs.Prelude.{IsTrue, ◌&&◌, ◌||◌, not, codes, slice_get, nat_eq, nat_le, is_none, is_some, option_map, unwrap_or}
use Rattle.std.specs.Option.{option_map_or}
use Rattle.std.specs.List.{AllByRecursion, Contains, find, list_all, list_any}
use Rattle.std.specs.Map.{lookup}
use Rattle.std.proofs.lemmas.List.Elements.{Contains-append_left, Contains-append_right}
use Rattle.std.proofs.lemmas.Slice.Eq.{bytes_eq-Decides}
use Rattle.std.proofs.lemmas.Bool.{and_left as no_and, and_right as and_no}
use Rattle.pt_base.specs.declared.ids.FnId.{FnId}
use Rattle.pt_base.proofs.Booleans.{both_hold, both_hold_first, both_hold_second, false_not_true}
use Rattle.pt_base.proofs.Members.{all_true_at, contains_first, contains_nothing, each_implies}
use Rattle.pt_base.proofs.Numbers.{nat_eq_same}
use Rattle.pt_tree.specs.declared.signature.Param.{Param}
use Rattle.pt_tree.specs.declared.signature.Signature.{Signature}
use Rattle.typed_tree.specs.StatementTree.{BodyTree}
use Rattle.typed_tree.specs.TypedTree.{TypedTree, FunctionTree, signatures_of}
use Rattle.typed_tree.specs.Lookup.{HasName}
use Rattle.typed_tree.specs.WellFormedStatement.{is_sound}
use Rattle.typed_tree.specs.WellFormed.{is_well_formed, is_block, scope_in as scope_of, function_sound, body_sound, variable_sound, params_lead, is_start, is_int_result}
use Rattle.typed_tree.specs.WellFormedExpression.{is_main}
use Rattle.typed_tree.proofs.WellFormedLemmas.{Facts}
use Rattle.typed_tree.proofs.NameLemmas.{named_is}
use Rattle.host_models.specs.Mixed.{is_mixed}
use Rattle.block_memory.specs.declared.cell.Cell.{Cell}
use Rattle.block_memory.specs.declared.cell.Cell.TheVariants as cell
use Rattle.reach.specs.Contexts.{main}
use Rattle.sides.specs.Objects.{result_start}
use Rattle.flow_rules.specs.declared.accepted.Accepted.{Accepted}
use Rattle.flow_rules.specs.Faults.{IsAccepted}
use Rattle.pt_core.specs.CodeTree as core
use Rattle.pt_core.specs.CodeTree.{StmtTree, clear, check, assign, copy, call, choose, repeat, break_out, continue_on, give_back, StmtTrees, no_stmts, stmt_and, ProgramTree}
use Rattle.pt_core.specs.Calls.{function_in, no_function, signature_in, no_signature}
use Rattle.pt_core.specs.Steps.{Active, enters, here, away}
use Rattle.pt_core.specs.WellFormedStatement.{callees_in, callees_of}
use Rattle.lowering.specs.Functions.{core_program, functions_from, signatures_from}
use Rattle.lowered_code_law.proofs.NamesBodies.{lowered_names}
use Rattle.lowered_code_law.proofs.FormsPrograms.{signature_of_function}
use Rattle.splitter.specs.Halves.{asked, halves_of, is_among}
use Rattle.splitter.proofs.SetLemmas.{among_has}
use Rattle.split_law.proofs.Accepted.{accepted_shares_nothing}
use Rattle.split_law.proofs.Chosen.{chosen_lookup, each_chosen}
use Rattle.split_law.proofs.LoweredCode.{all_hold, all_signatures, body_there}
use Rattle.split_law.proofs.Parts.{Holds}
use Rattle.split_law.proofs.Slaves.{signed, keeps}
use Rattle.handle_classes.specs.Classes.{Class, World, Scope, scope_in, integer_class}
use Rattle.handle_classes.specs.Judgment.{Flows, AreFineArguments, TakesResult, IsFineStatement, AreFineStatements, IsFineProgram}
use Rattle.handle_classes.specs.Invariant.{Fits, AllFit}
use Rattle.handle_classes.specs.Computes.{is_sealed, has_handle, has_unmarked}
use Rattle.handle_classes.specs.Laws.{FitsGate, EntersFit}
use Rattle.handle_classes.proofs.WorkedRun.{flows_same}
use Rattle.handle_classes_law.specs.SlavesLaws.{slave_half, marks_of, is_own, IsSlaveWorld}
use Rattle.handle_classes_law.specs.SlavesMarked.{slave_world, host_class, entry_class, variable_class, param_class, param_in}
use Rattle.pair_meaning.specs.SlaveRun.{is_handle, goes_with_handles, way_by, slave_gate}
use Rattle.handle_flow_law.specs.KeptLaws.{is_marked}

-- ---- what has a signature in the slave's program

abbrev pub has_signature : TypedTree → Accepted → ℕ → Bool
has_signature t a = signed t (halves_of a.sides)

-- of what has none, no handle is asked for
abbrev pub called_world : (ℕ → Bool) → World → World
called_world has w = record w { param = λ f n. if has f then w.param f n else integer_class false }

pub signature_here : (t : TypedTree) (a : Accepted) (f : ℕ) (x : FunctionTree) → has_signature t a f ≡ true → slice_get t.functions f ≡ Some x → signature_in (slave_half t a) f ≡ x.signature
signature_here t a f x has is =
    ap (λ o. unwrap_or o no_signature) (chosen_lookup (has_signature t a) f (signatures_from 0 (signatures_of t)) (λ _. has) ∙ signature_of_function t f x is)

-- a signature of the slave's program is that of a function
pub record IsCalled (t : TypedTree) (a : Accepted) (f : ℕ) (s : Signature) : Type 0 where
  pub function : FunctionTree
  pub is : slice_get t.functions f ≡ Some function
  pub same : function.signature ≡ s
  pub has : has_signature t a f ≡ true

looked_up : {V : Type 0} (P : ℕ → V → Type 0) (f : ℕ) (xs : List (ℕ × V)) (s : V) → AllByRecursion (λ (x : ℕ × V). P x.0 x.1) xs → lookup (nat_eq f) xs ≡ Some s → P f s
looked_up P f [] s h e = cc
looked_up {V} P f (x ∷ xs) s h e = go (nat_eq f x.0) refl (λ k. looked_up P f xs s h.1 k) e
  where
    same : (y z : V) → Some y ≡ Some z → y ≡ z
    same y z k = cc

    go : (c : Bool) → nat_eq f x.0 ≡ c → (lookup (nat_eq f) xs ≡ Some s → P f s) → cond c (Some x.1) (lookup (nat_eq f) xs) ≡ Some s → P f s
    go true is later k = subst (λ z. P f z) (same x.1 s k) (subst (λ n. P n x.1) (sym (nat_eq_same f x.0 is)) h.0)
    go false is later k = later k

pub all_called : (t : TypedTree) (a : Accepted) → AllByRecursion (λ (x : ℕ × Signature). IsCalled t a x.0 x.1) (slave_half t a).signatures
all_called t a =
    each_chosen (λ (x : ℕ × Signature). IsCalled t a x.0 x.1) (λ (x : ℕ × Signature). has_signature t a x.0) (signatures_from 0 (signatures_of t))
    (all_signatures (λ (x : ℕ × Signature). has_signature t a x.0 ≡ true → IsCalled t a x.0 x.1) t (λ k f is has. record { function = f; is = is; same = refl; has = has }))

pub called_or_not : (t : TypedTree) (a : Accepted) (f : ℕ) → (signature_in (slave_half t a) f ≡ no_signature) ⊎ IsCalled t a f (signature_in (slave_half t a) f)
called_or_not t a f = go (lookup (nat_eq f) (slave_half t a).signatures) refl
  where
    go : (o : Option Signature) → lookup (nat_eq f) (slave_half t a).signatures ≡ o → (unwrap_or o no_signature ≡ no_signature) ⊎ IsCalled t a f (unwrap_or o no_signature)
    go None is = inl refl
    go (Some s) is = inr (looked_up (λ n z. IsCalled t a n z) f (slave_half t a).signatures s (all_called t a) is)

-- ---- code in these classes

abbrev AllHas : (ℕ → Bool) → List ℕ → Type 0
AllHas has ns = (n : ℕ) → Contains ns n → has n ≡ true

has_first : (has : ℕ → Bool) (ms ns : List ℕ) → AllHas has (ms ++ ns) → AllHas has ms
has_first has ms ns h n c = h n (Contains-append_left ms ns n c)

has_rest : (has : ℕ → Bool) (ms ns : List ℕ) → AllHas has (ms ++ ns) → AllHas has ns
has_rest has ms ns h n c = h n (Contains-append_right ms ns n c)

mutual
  stmt_called : (x : StmtTree) (has : ℕ → Bool) (w : World) (s : Scope) (f : ℕ) → AllHas has (callees_in x) → IsFineStatement w s f x → IsFineStatement (called_world has w) s f x
  stmt_called (clear v) has w s f h k = tt
  stmt_called (check p) has w s f h k = k
  stmt_called (assign p e) has w s f h k = k
  stmt_called (copy p q) has w s f h k = k
  stmt_called (call g args v span) has w s f h k =
      (subst (λ (c : Bool). AreFineArguments s args (λ n. if c then w.param g n else integer_class false)) (sym (h g (contains_first g []))) k.0, taken v k.1)
    where
      taken : (v : Option ℕ) → TakesResult w s g v → TakesResult (called_world has w) s g v
      taken None k = tt
      taken (Some v) k = k
  stmt_called (choose e xs ys) has w s f h k = (k.0, k.1, stmts_called xs has w s f (has_first has (callees_of xs) (callees_of ys) h) k.2, stmts_called ys has w s f (has_rest has (callees_of xs) (callees_of ys) h) k.3)
  stmt_called (repeat xs span) has w s f h k = stmts_called xs has w s f h k
  stmt_called break_out has w s f h k = tt
  stmt_called continue_on has w s f h k = tt
  stmt_called (give_back None) has w s f h k = tt
  stmt_called (give_back (Some e)) has w s f h k = k

  stmts_called : (xs : StmtTrees) (has : ℕ → Bool) (w : World) (s : Scope) (f : ℕ) → AllHas has (callees_of xs) → AreFineStatements w s f xs → AreFineStatements (called_world has w) s f xs
  stmts_called no_stmts has w s f h k = tt
  stmts_called (stmt_and x rest) has w s f h k = (stmt_called x has w s f (has_first has (callees_in x) (callees_of rest) h) k.0, stmts_called rest has w s f (has_rest has (callees_in x) (callees_of rest) h) k.1)

-- what is found in a list is one of it
pub found_in : {A : Type 0} (P : A → Type 0) (test : A → Bool) (xs : List A) (x : A) → AllByRecursion P xs → find test xs ≡ Some x → P x
found_in P test [] x h e = cc
found_in {A} P test (y ∷ ys) x h e = go (test y) (λ k. found_in P test ys x h.1 k) e
  where
    same : (y x : A) → Some y ≡ Some x → y ≡ x
    same y x e = cc

    go : (c : Bool) → (find test ys ≡ Some x → P x) → cond c (Some y) (find test ys) ≡ Some x → P x
    go true later k = subst P (same y x k) h.0
    go false later k = later k

-- what the slave's functions call has a signature there
callees_have : (t : TypedTree) (a : Accepted) → Facts t → IsAccepted t a → (f : ℕ) → AllHas (has_signature t a) (callees_of (function_in (slave_half t a) f).body)
callees_have t a facts accepted f = go (find (λ (c : core.FunctionTree). nat_eq f c.id) (slave_half t a).functions) refl
  where
    all : AllByRecursion (λ (c : core.FunctionTree). AllHas (has_signature t a) (callees_of c.body)) (slave_half t a).functions
    all =
        let h = halves_of a.sides in
        let are = (accepted_shares_nothing t a accepted).0 in
        each_chosen (λ (c : core.FunctionTree). AllHas (has_signature t a) (callees_of c.body)) (λ (c : core.FunctionTree). is_among h.slave c.id) (functions_from t 0 t.functions)
        (each_implies (λ (c : core.FunctionTree). is_among h.slave c.id ≡ true → Holds false (core_program t) (signed t h) (is_among h.slave) (is_among h.owned) c) (λ (c : core.FunctionTree). is_among h.slave c.id ≡ true → AllHas (has_signature t a) (callees_of c.body))
        (λ c k among. (k among).called) (functions_from t 0 t.functions) (all_hold lowered_names false t (signed t h) (is_among h.slave) (is_among h.owned) facts.functions (keeps t h are)))

    go : (o : Option core.FunctionTree) → find (λ (c : core.FunctionTree). nat_eq f c.id) (slave_half t a).functions ≡ o → AllHas (has_signature t a) (callees_of (unwrap_or o no_function).body)
    go None is = λ n c. absurd (contains_nothing n c)
    go (Some c) is = found_in (λ (c : core.FunctionTree). AllHas (has_signature t a) (callees_of c.body)) (λ (c : core.FunctionTree). nat_eq f c.id) (slave_half t a).functions c all is

pub called_fine : (t : TypedTree) (a : Accepted) (w : World) → Facts t → IsAccepted t a → IsFineProgram (slave_half t a) w → IsFineProgram (slave_half t a) (called_world (has_signature t a) w)
called_fine t a w facts accepted fine = record {
  code = λ f. stmts_called (function_in (slave_half t a) f).body (has_signature t a) w (scope_in (slave_half t a) w f) f (callees_have t a facts accepted f) (fine.code f);
  variables = fine.variables;
  objects = fine.objects;
  globals = fine.globals;
}

-- ---- ways

pub record Enters (s : Signature) : Type 0 where
  pub free : s.privileged ≡ false
  pub own : s.host ≡ false

pub record Here (s : Signature) (args : List Cell) : Type 0 where
  pub free : s.privileged ≡ false
  pub host : s.host ≡ true
  pub plain : goes_with_handles s args ≡ false

pub record Mixes (s : Signature) (args : List Cell) : Type 0 where
  pub free : s.privileged ≡ false
  pub host : s.host ≡ true
  pub secret : goes_with_handles s args ≡ true

way_enters : (s : Signature) (args : List Cell) → way_by s args ≡ enters → Enters s
way_enters s args h = go s.privileged s.host (goes_with_handles s args) refl refl h
  where
    go : (p o m : Bool) → s.privileged ≡ p → s.host ≡ o → (if p then away else (if o then (if m then away else here) else enters)) ≡ enters → Enters s
    go true o m e f k = cc
    go false true true e f k = cc
    go false true false e f k = cc
    go false false m e f k = record { free = e; own = f }

way_here : (s : Signature) (args : List Cell) → way_by s args ≡ here → Here s args
way_here s args h = go s.privileged s.host (goes_with_handles s args) refl refl refl h
  where
    go : (p o m : Bool) → s.privileged ≡ p → s.host ≡ o → goes_with_handles s args ≡ m → (if p then away else (if o then (if m then away else here) else enters)) ≡ here → Here s args
    go true o m e f g k = cc
    go false true true e f g k = cc
    go false true false e f g k = record { free = e; host = f; plain = g }
    go false false m e f g k = cc

pub way_away : (s : Signature) (args : List Cell) → way_by s args ≡ away → (s.privileged ≡ true) ⊎ Mixes s args
way_away s args h = go s.privileged s.host (goes_with_handles s args) refl refl refl h
  where
    go : (p o m : Bool) → s.privileged ≡ p → s.host ≡ o → goes_with_handles s args ≡ m → (if p then away else (if o then (if m then away else here) else enters)) ≡ away → (s.privileged ≡ true) ⊎ Mixes s args
    go true o m e f g k = inl e
    go false true true e f g k = inr (record { free = e; host = f; secret = g })
    go false true false e f g k = cc
    go false false m e f g k = cc

-- what goes away is called by a function of the slave
pub away_called : (t : TypedTree) (a : Accepted) (f : ℕ) (args : List Cell) → way_by (signature_in (slave_half t a) f) args ≡ away → IsCalled t a f (signature_in (slave_half t a) f)
away_called t a f args h = go (called_or_not t a f)
  where
    nothing : way_by no_signature args ≡ away → IsCalled t a f (signature_in (slave_half t a) f)
    nothing k = cc

    go : (signature_in (slave_half t a) f ≡ no_signature) ⊎ IsCalled t a f (signature_in (slave_half t a) f) → IsCalled t a f (signature_in (slave_half t a) f)
    go (inl none) = nothing (subst (λ s. way_by s args ≡ away) none h)
    go (inr c) = c

-- ---- functions and hosts

sound_here : (t : TypedTree) (f : ℕ) (x : FunctionTree) → Facts t → slice_get t.functions f ≡ Some x → function_sound t x ≡ true
sound_here t f x facts is = all_true_at (function_sound t) t.functions f x facts.functions is

pub host_body : (t : TypedTree) (f : ℕ) (x : FunctionTree) → Facts t → slice_get t.functions f ≡ Some x → x.signature.host ≡ true → is_some x.body ≡ false
host_body t f x facts is host = go x.body (both_hold_second (list_all (variable_sound t.structs) x.vars) (body_sound t x x.body)
    (both_hold_second (nat_le (length x.signature.params) 8 && params_lead x.signature.params x.vars) (list_all (variable_sound t.structs) x.vars && body_sound t x x.body) (sound_here t f x facts is)))
  where
    go : (o : Option BodyTree) → body_sound t x o ≡ true → is_some o ≡ false
    go None s = refl
    go (Some b) s = false_not_true (sym (ap not host) ∙ both_hold_first (not x.signature.host) (is_block b && is_sound (scope_of t x) false false b) s)

pub own_there : (t : TypedTree) (f : ℕ) (x : FunctionTree) → slice_get t.functions f ≡ Some x → is_own t f ≡ (is_some x.body && not x.signature.privileged)
own_there t f x is = ap (λ o. option_map_or (λ (z : FunctionTree). is_some z.body && not z.signature.privileged) o false) is

-- ---- the gate

pub enters_fit : (t : TypedTree) (a : Accepted) (w : World) → Facts t → IsSlaveWorld t (slave_half t a) w → EntersFit (called_world (has_signature t a) w) (slave_gate (slave_half t a))
enters_fit t a w facts world g f args h n = go (called_or_not t a f)
  where
    way : Enters (signature_in (slave_half t a) f)
    way = way_enters (signature_in (slave_half t a) f) args h

    go : (signature_in (slave_half t a) f ≡ no_signature) ⊎ IsCalled t a f (signature_in (slave_half t a) f) → Flows (if has_signature t a f then w.param f n else integer_class false) (w.variable f n)
    go (inl none) = false_not_true (sym way.own ∙ ap (λ (s : Signature). s.host) none)
    go (inr c) =
        let body = body_there t c.function (sound_here t f c.function facts c.is) (ap (λ (s : Signature). s.host) c.same ∙ way.own) in
        let own : is_own t f ≡ true = own_there t f c.function c.is ∙ both_hold (is_some c.function.body) (not c.function.signature.privileged) (ap is_some body.1) (ap not (ap (λ (s : Signature). s.privileged) c.same ∙ way.free)) in
        subst (λ (b : Bool). Flows (if b then w.param f n else integer_class false) (w.variable f n)) (sym c.has) (subst (λ (k : Class). Flows k (w.variable f n)) (sym (world.enters f n own)) (flows_same (w.variable f n)))

handle_none : (args : List Cell) → list_any is_handle args ≡ false → has_handle args ≡ false
handle_none [] h = refl
handle_none (cell.Int v ∷ args) h = handle_none args h
handle_none (cell.Ptr p ∷ args) h = handle_none args h
handle_none (cell.Sealed k ∷ args) h = false_not_true (sym h)

-- no marked parameter
none_marked : (ps : List Param) (n : ℕ) (q : Param) → list_any (λ (p : Param). p.marked) ps ≡ false → slice_get ps n ≡ Some q → q.marked ≡ false
none_marked [] n q h is = cc
none_marked (p ∷ ps) zero q h is = subst (λ (z : Param). z.marked ≡ false) (same p q is) (first p.marked (list_any (λ (p : Param). p.marked) ps) h)
  where
    same : (p q : Param) → Some p ≡ Some q → p ≡ q
    same p q e = cc

    first : (c d : Bool) → (c || d) ≡ false → c ≡ false
    first false d e = refl
    first true d e = false_not_true (sym e)
none_marked (p ∷ ps) (suc n) q h is = none_marked ps n q (rest p.marked (list_any (λ (p : Param). p.marked) ps) h) is
  where
    rest : (c d : Bool) → (c || d) ≡ false → d ≡ false
    rest false d e = e
    rest true d e = false_not_true (sym e)

-- a host that isn't mixed takes no handle
plain_host : (t : TypedTree) (m : ℕ → Bool) (f : ℕ) (x : FunctionTree) → Facts t → slice_get t.functions f ≡ Some x → x.signature.host ≡ true → x.signature.privileged ≡ false → is_mixed x.signature ≡ false → (n : ℕ) → (param_class m t f n).may 0 ≡ false
plain_host t m f x facts is host free mixed n =
    subst (λ o. (option_map_or (λ y. param_in m t f y n) o (integer_class false)).may 0 ≡ false) (sym is)
    (subst (λ (c : Bool). (if c then variable_class m t f n else option_map_or (λ p. if x.signature.privileged then entry_class t f n p else host_class m t f x n p) (slice_get x.signature.params n) (integer_class false)).may 0 ≡ false)
    (sym (no_and (is_some x.body) (not x.signature.privileged) (host_body t f x facts is host)))
    (subst (λ (c : Bool). (option_map_or (λ p. if c then entry_class t f n p else host_class m t f x n p) (slice_get x.signature.params n) (integer_class false)).may 0 ≡ false) (sym free) (by (slice_get x.signature.params n) refl)))
  where
    none : list_any (λ (p : Param). p.marked) x.signature.params ≡ false
    none = subst (λ (c : Bool). (not c && list_any (λ (p : Param). p.marked) x.signature.params) ≡ false) free mixed

    by : (o : Option Param) → slice_get x.signature.params n ≡ o → (option_map_or (λ p. host_class m t f x n p) o (integer_class false)).may 0 ≡ false
    by None e = refl
    by (Some q) e = no_and q.marked (is_none x.signature.result || m (result_start t + f)) (none_marked x.signature.params n q none e)

pub fits_gate : (t : TypedTree) (a : Accepted) → Facts t → FitsGate (called_world (has_signature t a) (slave_world (marks_of t a) t)) (slave_gate (slave_half t a))
fits_gate t a facts = record { run_here = λ g f args h. go f args (way_here (signature_in (slave_half t a) f) args h) (has_signature t a f) refl }
  where
    by : (f : ℕ) (args : List Cell) → Here (signature_in (slave_half t a) f) args → has_signature t a f ≡ true → (o : Option FunctionTree) → slice_get t.functions f ≡ o →
        (has_handle args ≡ false) ⊎ ((n : ℕ) → (param_class (marks_of t a) t f n).may 0 ≡ false)
    by f args k has None is = inr (λ n. subst (λ o. (option_map_or (λ y. param_in (marks_of t a) t f y n) o (integer_class false)).may 0 ≡ false) (sym is) refl)
    by f args k has (Some x) is = mixed (is_mixed x.signature) refl
      where
        same : signature_in (slave_half t a) f ≡ x.signature
        same = signature_here t a f x has is

        mixed : (c : Bool) → is_mixed x.signature ≡ c → (has_handle args ≡ false) ⊎ ((n : ℕ) → (param_class (marks_of t a) t f n).may 0 ≡ false)
        mixed true e = inl (handle_none args (subst (λ (c : Bool). (c && list_any is_handle args) ≡ false) e (subst (λ (s : Signature). goes_with_handles s args ≡ false) same k.plain)))
        mixed false e = inr (plain_host t (marks_of t a) f x facts is (subst (λ (s : Signature). s.host ≡ true) same k.host) (subst (λ (s : Signature). s.privileged ≡ false) same k.free) e)

    go : (f : ℕ) (args : List Cell) → Here (signature_in (slave_half t a) f) args → (has : Bool) → has_signature t a f ≡ has →
        (has_handle args ≡ false) ⊎ ((n : ℕ) → (if has_signature t a f then param_class (marks_of t a) t f n else integer_class false).may 0 ≡ false)
    go f args k false is = inr (λ n. subst (λ (c : Bool). (if c then param_class (marks_of t a) t f n else integer_class false).may 0 ≡ false) (sym is) refl)
    go f args k true is =
        subst (λ (c : Bool). (has_handle args ≡ false) ⊎ ((n : ℕ) → (if c then param_class (marks_of t a) t f n else integer_class false).may 0 ≡ false)) (sym is) (by f args k is (slice_get t.functions f) refl)

-- ---- what is asked for is marked

-- where a handle stands only for what is marked
pub unmarked_none : (w : World) (active : List Active) (into : ℕ → Class) (marked : ℕ → Bool) (vs : List Cell) → AllFit w active into vs → ((n : ℕ) → (into n).pointer ≡ false → (into n).may 0 ≡ true → marked n ≡ true) → has_unmarked marked vs ≡ false
unmarked_none w active into marked [] fit h = refl
unmarked_none w active into marked (v ∷ vs) fit h =
    or_none (is_sealed v && not (marked 0)) (has_unmarked (λ n. marked (suc n)) vs) (one v fit.0) (unmarked_none w active (λ n. into (suc n)) (λ n. marked (suc n)) vs fit.1 (λ n. h (suc n)))
  where
    or_none : (c d : Bool) → c ≡ false → d ≡ false → (c || d) ≡ false
    or_none false d e k = k
    or_none true d e k = false_not_true (sym e)

    one : (v : Cell) → Fits w active (into 0) v → (is_sealed v && not (marked 0)) ≡ false
    one (cell.Int n) f = refl
    one (cell.Ptr p) f = refl
    one (cell.Sealed k) f = ap not (h 0 f.0 f.1)

pub asks_marked : (t : TypedTree) (a : Accepted) → Facts t → IsSlaveWorld t (slave_half t a) (slave_world (marks_of t a) t) → (active : List Active) (f : ℕ) (vs : List Cell) → way_by (signature_in (slave_half t a) f) vs ≡ away →
    AllFit (called_world (has_signature t a) (slave_world (marks_of t a) t)) active (λ n. if has_signature t a f then param_class (marks_of t a) t f n else integer_class false) vs → has_unmarked (is_marked (slave_half t a) f) vs ≡ false
asks_marked t a facts world active f vs way fit =
    let c = away_called t a f vs way in
    let w = slave_world (marks_of t a) t in
    unmarked_none (called_world (has_signature t a) w) active (param_class (marks_of t a) t f) (is_marked (slave_half t a) f) vs
    (subst (λ (b : Bool). AllFit (called_world (has_signature t a) w) active (λ n. if b then param_class (marks_of t a) t f n else integer_class false) vs) c.has fit)
    (λ n pointer may. subst (λ (s : Signature). option_map_or (λ (p : Param). p.marked) (slice_get s.params n) false ≡ true) c.same
    (subst (λ o. option_map_or (λ (z : FunctionTree). option_map_or (λ (p : Param). p.marked) (slice_get z.signature.params n) false) o false ≡ true) c.is (world.asks f n (not_own c) pointer may)))
  where
    not_own : IsCalled t a f (signature_in (slave_half t a) f) → is_own t f ≡ false
    not_own c = go (way_away (signature_in (slave_half t a) f) vs way)
      where
        go : ((signature_in (slave_half t a) f).privileged ≡ true) ⊎ Mixes (signature_in (slave_half t a) f) vs → is_own t f ≡ false
        go (inl p) = own_there t f c.function c.is ∙ and_no (is_some c.function.body) (not c.function.signature.privileged) (ap not (ap (λ (s : Signature). s.privileged) c.same ∙ p))
        go (inr k) = own_there t f c.function c.is ∙ no_and (is_some c.function.body) (not c.function.signature.privileged) (host_body t f c.function facts c.is (ap (λ (s : Signature). s.host) c.same ∙ k.host))

-- ---- main

-- it has the name
main_named : (t : TypedTree) (k : ℕ) (z : FunctionTree) → slice_get t.functions k ≡ Some z → is_main z.signature ≡ true → HasName t (record { 0 = k }) (codes "main")
main_named t k z is m = ap (λ (o : Option FunctionTree). option_map (λ (s : Signature). s.name) (option_map (λ (z : FunctionTree). z.signature) o)) is ∙ ap Some ((bytes_eq-Decides z.signature.name (codes "main")).0 m)

-- two functions of one name are one
main_is_one : (t : TypedTree) (f g : ℕ) (x y : FunctionTree) → IsTrue (is_well_formed t) → slice_get t.functions f ≡ Some x → slice_get t.functions g ≡ Some y → is_main x.signature ≡ true → is_main y.signature ≡ true → Some x ≡ Some y
main_is_one t f g x y sound first second mx my =
    let one = (named_is t (codes "main") (record { 0 = f }) sound).1 (main_named t f x first mx) in
    let two = (named_is t (codes "main") (record { 0 = g }) sound).1 (main_named t g y second my) in
    sym first ∙ ap (slice_get t.functions) (same f g (sym one ∙ two)) ∙ second
  where
    number : Option FnId → ℕ
    number None = 0
    number (Some n) = n.0

    same : (f g : ℕ) → ◌≡◌ {A = Option FnId} (Some (record { 0 = f })) (Some (record { 0 = g })) → f ≡ g
    same f g e = ap number e

-- the slave has it
pub has_main : (t : TypedTree) (a : Accepted) (f : ℕ) (x : FunctionTree) → IsAccepted t a → slice_get t.functions f ≡ Some x → is_main x.signature ≡ true → has_signature t a f ≡ true
has_main t a f x accepted is m =
    let h = halves_of a.sides in
    among_has (asked h (functions_from t 0 t.functions) ++ h.slave) f
    (Contains-append_right (asked h (functions_from t 0 t.functions)) h.slave f (((accepted_shares_nothing t a accepted).0.slave f).1 (main (record { 0 = f }) (main_named t f x is m))))

-- there is a start
pub record Starts (t : TypedTree) : Type 0 where
  pub number : ℕ
  pub function : FunctionTree
  pub is : slice_get t.functions number ≡ Some function
  pub start : is_start function ≡ true

pub start_of : (t : TypedTree) → Facts t → Starts t
start_of t facts = let s = among t.functions facts.start in record { number = s.0; function = s.1; is = s.2; start = s.3 }
  where
    among : (fs : List FunctionTree) → list_any is_start fs ≡ true → (n : ℕ) × (f : FunctionTree) × (slice_get fs n ≡ Some f) × (is_start f ≡ true)
    among [] h = false_not_true h
    among (f ∷ fs) h = go (is_start f) refl (λ k. among fs k) h
      where
        go : (c : Bool) → is_start f ≡ c → (list_any is_start fs ≡ true → (n : ℕ) × (x : FunctionTree) × (slice_get fs n ≡ Some x) × (is_start x ≡ true)) → (c || list_any is_start fs) ≡ true →
            (n : ℕ) × (x : FunctionTree) × (slice_get (f ∷ fs) n ≡ Some x) × (is_start x ≡ true)
        go true is later k = (0, f, refl, is)
        go false is later k = let r = later k in (suc r.0, r.1, r.2, r.3)

-- a host isn't main
pub host_not_main : (t : TypedTree) (f : ℕ) (x : FunctionTree) → IsTrue (is_well_formed t) → Facts t → slice_get t.functions f ≡ Some x → is_some x.body ≡ false → is_main x.signature ≡ false
host_not_main t f x sound facts is none = go (is_main x.signature) refl
  where
    go : (c : Bool) → is_main x.signature ≡ c → is_main x.signature ≡ false
    go false e = e
    go true e =
        let s = start_of t facts in
        let starts = both_hold_first (is_main s.function.signature) (is_some s.function.body && (is_int_result s.function.signature.result && nat_eq (length s.function.signature.params) 0)) s.start in
        let body = both_hold_first (is_some s.function.body) (is_int_result s.function.signature.result && nat_eq (length s.function.signature.params) 0)
        (both_hold_second (is_main s.function.signature) (is_some s.function.body && (is_int_result s.function.signature.result && nat_eq (length s.function.signature.params) 0)) s.start) in
        let one = main_is_one t f s.number x s.function sound is s.is e starts in
        false_not_true (sym none ∙ ap body_some one ∙ body)
      where
        body_some : Option FunctionTree → Bool
        body_some None = false
        body_some (Some z) = is_some z.body
