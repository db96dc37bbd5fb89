-- A step keeps that the machine fits.
use Rattle.std.proofs.Common.{◌≡◌, ◌∙◌, ◌≤◌, ◌<◌, ℕ, suc, ◌+◌, ℤ, nat_eq, refl, ap, sym, subst, arith, Bool, true, false, Option, Some, None, Result, Ok, Err, IfOk, List, [], ◌∷◌, length, map, if◌then◌else◌}
use Rattle.std.specs.Prelude.{IsTrue, ◌&&◌, ◌||◌, not, take, is_some, is_none, nat_lt, nat_le, option_map, unwrap_or}
use Rattle.std.proofs.lemmas.Bool.Decides.{nat_tests}
use Rattle.pt_base.specs.declared.int_type.IntType.{IntType}
use Rattle.pt_base.specs.declared.span.Span.{Span}
use Rattle.pt_base.specs.declared.trap.Trap.TheVariants.{Depth}
use Rattle.pt_base.proofs.Booleans.{both_hold, both_hold_first, both_hold_second, false_not_true}
use Rattle.pt_base.proofs.Places.{take_length}
use Rattle.pt_tree.specs.declared.signature.Param.{Param}
use Rattle.pt_tree.specs.declared.signature.Signature.{Signature}
use Rattle.typed_tree.specs.declared.types.VarTy.{VarTy}
use Rattle.typed_tree.specs.declared.types.VarTy.TheVariants.{Int, Struct, Array, Pointer}
use Rattle.typed_tree.specs.TypeTests.{both_int, integer_of, is_scalar}
use Rattle.typed_tree.specs.WellFormedExpression.{param_type, is_main}
use Rattle.runs.specs.Run.{deepest}
use Rattle.block_memory.specs.declared.cell.Cell.{Cell}
use Rattle.block_memory.specs.Blocks.{Blocks, without_frames}
use Rattle.pt_core.specs.CodeTree.{FunctionTree, ExprTree, ExprTrees, no_exprs, expr_and, StmtTree, clear, check, assign, copy, call, choose, repeat, break_out, continue_on, give_back, StmtTrees, no_stmts, stmt_and, ProgramTree}
use Rattle.pt_core.specs.Types.{Context, type_of, place_type}
use Rattle.pt_core.specs.Values.{Stop, holds_in, number_in, value_of, values_of, location_of}
use Rattle.pt_core.specs.Statements.{assigned, copied, kept as with_result, returned_value}
use Rattle.pt_core.specs.Calls.{signature_in, function_in, context_in, no_signature, number_cell, entered}
use Rattle.pt_core.specs.Steps.{Work, run, head, Active, Machine, Gate, Way, enters, here, away, Step, moved, asked, trapped, spent, answers, settled, past_loop, at_head, working, with_blocks, with_turn, turned, on_value, returned, at_end, is_active, just_entered, begins, enters_at, made, made_here, awaiting, goes_away, by_way, act, works, stepped}
use Rattle.pt_core.specs.WellFormed.{signature_at, function_at, with_own, called_signature, counts_fit}
use Rattle.pt_core.specs.WellFormedExpression.{stands_for, expr_fits}
use Rattle.pt_core.specs.WellFormedStatement.{value_fits, arguments_fit, call_fits, result_fits, return_fits, stmt_fits, stmts_fit}
use Rattle.core_soundness_law.specs.Kept.{Kept}
use Rattle.core_soundness_law.specs.Fits.{IntegerFits, ValueFits, MemoryFits, scope_in, is_looped, work_fits, StandsOn, TakesResult, AllFit, AwaitedFits, Fits}
use Rattle.core_soundness_law.specs.Laws.{LocationFits}
use Rattle.core_soundness_law.specs.Outside.{ArgumentsFit, GivenFits, own_params}
use Rattle.core_soundness_law.specs.StepLaws.{NumberFits, GateFits, params_of, StepFits, StepKeeps}
use Rattle.typed_tree.proofs.SameTypes.{equal_ints}
use Rattle.core_soundness_law.proofs.Objects.{Setting}
use Rattle.core_soundness_law.proofs.Programs.{ProgramFacts, facts_of, FunctionFacts, function_facts}
use Rattle.core_soundness_law.proofs.Settings.{setting}
use Rattle.core_soundness_law.proofs.Values.{bound, values, places}
use Rattle.core_soundness_law.proofs.Stores.{stands, assigned_fits, copied_fits, cleared_fits, kept_fits}
use Rattle.core_soundness_law.proofs.Frames.{AreBelow, left_fits}
use Rattle.core_soundness_law.proofs.Starting.{entered_memory, entered_active}

-- ---- the scene of a step

record Scene (kept : Kept) (monitor : Bool) (program : ProgramTree) (m : Machine) (a : Active) (rest : List Active) : Type 0 where
  facts : ProgramFacts monitor program
  memory : MemoryFits kept program (a ∷ rest) m.blocks
  all : AllFit monitor program (a ∷ rest)
  free : m.awaits ≡ None
  fits : Fits kept monitor program m

own_setting : (kept : Kept) (monitor : Bool) (program : ProgramTree) (m : Machine) (a : Active) (rest : List Active) → Scene kept monitor program m a rest → Setting kept (context_in program a.function) a.depth m.blocks
own_setting kept monitor program m a rest s = setting kept monitor program a rest m.blocks s.facts (function_facts monitor program s.facts a.function s.all.0.known) s.memory

stands_working : (program : ProgramTree) (a : Active) (work : List Work) (rest : List Active) → StandsOn program a rest → StandsOn program (record a { work = work }) rest
stands_working program a work [] h = h
stands_working program a work (b ∷ rest) h = h

all_working : (monitor : Bool) (program : ProgramTree) (a : Active) (rest : List Active) (work : List Work) → AllFit monitor program (a ∷ rest) → IsTrue (work_fits (scope_in monitor program a.function) work) → AllFit monitor program (record a { work = work } ∷ rest)
all_working monitor program a rest work all w = (record { known = all.0.known; deep = all.0.deep; shallow = all.0.shallow; work = w }, stands_working program a work rest all.1, all.2)

memory_working : (kept : Kept) (program : ProgramTree) (a : Active) (rest : List Active) (work : List Work) (blocks : Blocks) → MemoryFits kept program (a ∷ rest) blocks → MemoryFits kept program (record a { work = work } ∷ rest) blocks
memory_working kept program a rest work blocks mem = record { locals = mem.locals; globals = mem.globals; global_cells = mem.global_cells; received_cells = mem.received_cells; beyond = mem.beyond }

-- the innermost function goes on with this work over these blocks
working_fits : (kept : Kept) (monitor : Bool) (program : ProgramTree) (m : Machine) (a : Active) (rest : List Active) → Scene kept monitor program m a rest → (work : List Work) (blocks : Blocks) → IsTrue (work_fits (scope_in monitor program a.function) work) →
    MemoryFits kept program (a ∷ rest) blocks → Fits kept monitor program (with_blocks blocks (working m a rest work))
working_fits kept monitor program m a rest s work blocks w mem = record {
  memory = memory_working kept program a rest work blocks mem;
  active = all_working monitor program a rest work s.all w;
  awaited = subst (λ o. AwaitedFits program (record a { work = work } ∷ rest) o) (sym s.free) (tt {0});
}

-- ---- answers

value_or_trap : {A G : Type 0} (kept : Kept) (monitor : Bool) (program : ProgramTree) (a : Active) (rest : List Active) (m : Machine) (g : G) (P : A → Type 0) (r : Result A Stop) (next : A → Step G) → Fits kept monitor program m → IfOk r P →
    ((x : A) → P x → StepFits kept monitor program (a ∷ rest) (next x)) → StepFits kept monitor program (a ∷ rest) (on_value r m g next)
value_or_trap kept monitor program a rest m g P (Ok x) next fits h k = k x h
value_or_trap kept monitor program a rest m g P (Err stop) next fits h k = record { machine = fits; answer = tt {0} }

turn_or_spent : {G : Type 0} (kept : Kept) (monitor : Bool) (program : ProgramTree) (a : Active) (rest : List Active) (m : Machine) (g : G) (next : Machine → Step G) → Fits kept monitor program m → StepFits kept monitor program (a ∷ rest) (next (with_turn m)) →
    StepFits kept monitor program (a ∷ rest) (turned m g next)
turn_or_spent {G} kept monitor program a rest m g next fits k = go (nat_lt m.turns m.budget)
  where
    go : (b : Bool) → StepFits kept monitor program (a ∷ rest) (if b then next (with_turn m) else answers spent m g)
    go true = k
    go false = record { machine = fits; answer = tt {0} }

-- ---- work

pub settled_fits : (monitor : Bool) (program : ProgramTree) (f : ℕ) (work : List Work) → IsTrue (work_fits (scope_in monitor program f) work) → IsTrue (work_fits (scope_in monitor program f) (settled work))
settled_fits monitor program f [] h = h
settled_fits monitor program f (run no_stmts ∷ work) h = settled_fits monitor program f work h
settled_fits monitor program f (run (stmt_and s rest) ∷ work) h = h
settled_fits monitor program f (head body ∷ work) h = h

past_fits : (monitor : Bool) (program : ProgramTree) (f : ℕ) (work : List Work) → IsTrue (work_fits (scope_in monitor program f) work) → IsTrue (work_fits (scope_in monitor program f) (past_loop work))
past_fits monitor program f [] h = h
past_fits monitor program f (run stmts ∷ work) h = past_fits monitor program f work (both_hold_second (stmts_fit (scope_in monitor program f) (is_looped work) stmts) (work_fits (scope_in monitor program f) work) h)
past_fits monitor program f (head body ∷ work) h = both_hold_second (stmts_fit (scope_in monitor program f) true body) (work_fits (scope_in monitor program f) work) h

head_fits : (monitor : Bool) (program : ProgramTree) (f : ℕ) (work : List Work) → IsTrue (work_fits (scope_in monitor program f) work) → IsTrue (work_fits (scope_in monitor program f) (at_head work))
head_fits monitor program f [] h = h
head_fits monitor program f (run stmts ∷ work) h = head_fits monitor program f work (both_hold_second (stmts_fit (scope_in monitor program f) (is_looped work) stmts) (work_fits (scope_in monitor program f) work) h)
head_fits monitor program f (head body ∷ work) h = h

begins_fits : {G : Type 0} (kept : Kept) (monitor : Bool) (program : ProgramTree) (m : Machine) (g : G) (a : Active) (rest : List Active) → Scene kept monitor program m a rest → (body : StmtTrees) (work : List Work) →
    IsTrue (stmts_fit (scope_in monitor program a.function) true body) → IsTrue (work_fits (scope_in monitor program a.function) work) → StepFits kept monitor program (a ∷ rest) (begins m g a rest body work)
begins_fits {G} kept monitor program m g a rest s body work b w =
    let inner : IsTrue (work_fits (scope_in monitor program a.function) (head body ∷ work)) = both_hold (stmts_fit (scope_in monitor program a.function) true body) (work_fits (scope_in monitor program a.function) work) b w in
    let all : IsTrue (work_fits (scope_in monitor program a.function) (run body ∷ head body ∷ work)) = both_hold (stmts_fit (scope_in monitor program a.function) true body) (work_fits (scope_in monitor program a.function) (head body ∷ work)) b inner in
    let on : Fits kept monitor program (with_blocks m.blocks (working m a rest (run body ∷ head body ∷ work))) = working_fits kept monitor program m a rest s (run body ∷ head body ∷ work) m.blocks all s.memory in
    turn_or_spent kept monitor program a rest m g (λ m1. answers moved (working m1 a rest (run body ∷ head body ∷ work)) g) s.fits (record { machine = record { memory = on.memory; active = on.active; awaited = on.awaited }; answer = tt {0} })

-- ---- returns

below_more : (d e : ℕ) (active : List Active) → d ≤ e → AreBelow d active → AreBelow e active
below_more d e [] h b = b
below_more d e (a ∷ rest) h b = (further a.depth d e b.0 h, below_more d e rest h b.1)
  where
    further : (n d e : ℕ) → n < d → d ≤ e → n < e
    further n d e h k = omega (arith, h, k)

stands_below : (monitor : Bool) (program : ProgramTree) (a : Active) (rest : List Active) → StandsOn program a rest → AllFit monitor program rest → AreBelow a.depth rest
stands_below monitor program a [] h all = tt {0}
stands_below monitor program a (b ∷ rest) h all = (next a.depth b.depth h.0, below_more b.depth a.depth rest (most a.depth b.depth h.0) (stands_below monitor program b rest all.1 all.2))
  where
    next : (d e : ℕ) → d ≡ suc e → e < d
    next d e h = omega (arith, h)

    most : (d e : ℕ) → d ≡ suc e → e ≤ d
    most d e h = omega (arith, h)

returned_fits : {G : Type 0} (kept : Kept) (monitor : Bool) (program : ProgramTree) (m : Machine) (g : G) (a : Active) (rest : List Active) (v : Option Cell) → Scene kept monitor program m a rest → GivenFits kept (signature_in program a.function).result v →
    StepFits kept monitor program (a ∷ rest) (returned m g a rest v)
returned_fits {G} kept monitor program m g a [] v s given = record {
  machine = record {
    memory = left_fits kept program a [] m.blocks (tt {0}) s.memory;
    active = tt {0};
    awaited = subst (λ o. AwaitedFits program [] o) (sym s.free) (tt {0});
  };
  answer = given;
}
returned_fits {G} kept monitor program m g a (caller ∷ rest) v s given =
    let left : MemoryFits kept program (caller ∷ rest) (without_frames m.blocks a.depth) = left_fits kept program a (caller ∷ rest) m.blocks (stands_below monitor program a (caller ∷ rest) s.all.1 s.all.2) s.memory in
    let seen = setting kept monitor program caller rest (without_frames m.blocks a.depth) s.facts (function_facts monitor program s.facts caller.function s.all.2.0.known) left in
    record {
      machine = record {
        memory = kept_fits kept program caller rest (without_frames m.blocks a.depth) seen left (signature_in program a.function).result a.result v s.all.1.1 given;
        active = s.all.2;
        awaited = subst (λ o. AwaitedFits program (caller ∷ rest) o) (sym s.free) (tt {0});
      };
      answer = tt {0};
    }

returned_value_fits : (kept : Kept) (monitor : Bool) (program : ProgramTree) (m : Machine) (a : Active) (rest : List Active) → Scene kept monitor program m a rest → (e : Option ExprTree) → IsTrue (return_fits (scope_in monitor program a.function) e) →
    IfOk (returned_value (context_in program a.function) a.depth e m.blocks) (GivenFits kept (signature_in program a.function).result)
returned_value_fits kept monitor program m a rest s None h = go (signature_in program a.function).result h
  where
    go : (r : Option IntType) → IsTrue (is_none r) → GivenFits kept r None
    go None h = tt {0}
    go (Some t) h = false_not_true h
returned_value_fits kept monitor program m a rest s (Some e) h =
    let c : Context = context_in program a.function in
    let both : IsTrue (both_int (integer_of (Some (type_of c e))) (signature_in program a.function).result) = both_hold_second (expr_fits c e) (both_int (integer_of (Some (type_of c e))) (signature_in program a.function).result) h in
    bound (ValueFits kept program.structs m.blocks a.depth (type_of c e)) (GivenFits kept (signature_in program a.function).result) (value_of c a.depth e m.blocks) _
    (values kept c a.depth m.blocks (own_setting kept monitor program m a rest s) e (both_hold_first (expr_fits c e) (both_int (integer_of (Some (type_of c e))) (signature_in program a.function).result) h))
    (λ v f. go (type_of c e) (signature_in program a.function).result v both f)
  where
    go : (ty : VarTy) (r : Option IntType) (v : Cell) → IsTrue (both_int (integer_of (Some ty)) r) → ValueFits kept program.structs m.blocks a.depth ty v → GivenFits kept r (Some v)
    go (Int t) None v h f = false_not_true h
    go (Int t) (Some u) v h f = subst (λ x. IntegerFits kept x v) (equal_ints t u h) f
    go (Struct n) r v h f = elim f [ ]
    go (Array elem count) r v h f = elim f [ ]
    go (Pointer elem fixed) r v h f = false_not_true h

at_end_fits : {G : Type 0} (kept : Kept) (monitor : Bool) (program : ProgramTree) (m : Machine) (g : G) (a : Active) (rest : List Active) (span : Span) → Scene kept monitor program m a rest → (r : Option IntType) → (signature_in program a.function).result ≡ r →
    StepFits kept monitor program (a ∷ rest) (at_end r span m g a rest)
at_end_fits {G} kept monitor program m g a rest span s None is = returned_fits kept monitor program m g a rest None s (subst (λ r. GivenFits kept r None) (sym is) (tt {0}))
at_end_fits {G} kept monitor program m g a rest span s (Some t) is = record { machine = s.fits; answer = tt {0} }

-- ---- calls

pub values_fit_params : (kept : Kept) (c : Context) (depth : ℕ) (blocks : Blocks) → Setting kept c depth blocks → (ps : List Param) (args : ExprTrees) → IsTrue (arguments_fit c ps args) → IfOk (values_of c depth args blocks) (ArgumentsFit kept c.structs blocks depth ps)
values_fit_params kept c depth blocks s [] no_exprs h = tt {0}
values_fit_params kept c depth blocks s [] (expr_and a rest) h = false_not_true h
values_fit_params kept c depth blocks s (p ∷ ps) no_exprs h = false_not_true h
values_fit_params kept c depth blocks s (p ∷ ps) (expr_and a rest) h =
    let here : IsTrue (value_fits c (param_type p.kind) a) = both_hold_first (value_fits c (param_type p.kind) a) (arguments_fit c ps rest) h in
    bound (ValueFits kept c.structs blocks depth (type_of c a)) (ArgumentsFit kept c.structs blocks depth (p ∷ ps)) (value_of c depth a blocks) _ (values kept c depth blocks s a (both_hold_first (expr_fits c a) (stands_for (type_of c a) (param_type p.kind)) here))
    (λ v f. bound (ArgumentsFit kept c.structs blocks depth ps) (ArgumentsFit kept c.structs blocks depth (p ∷ ps)) (values_of c depth rest blocks) _ (values_fit_params kept c depth blocks s ps rest (both_hold_second (value_fits c (param_type p.kind) a) (arguments_fit c ps rest) h))
    (λ vs fs. (stands kept c.structs blocks depth (type_of c a) (param_type p.kind) v (both_hold_second (expr_fits c a) (stands_for (type_of c a) (param_type p.kind)) here) f, fs)))

abbrev result_in : Signature → Option IntType
result_in s = s.result

-- a call's result is that of the signature
with_own_result : (monitor : Bool) (o : Option FunctionTree) (s : Signature) → (with_own monitor o s).result ≡ s.result
with_own_result monitor None s = refl
with_own_result monitor (Some g) s = go (monitor && not s.host)
  where
    go : (b : Bool) → (if b then record s { params = take g.params s.params } else s).result ≡ s.result
    go true = refl
    go false = refl

called_result : (monitor : Bool) (program : ProgramTree) (f : ℕ) (s : Signature) → called_signature monitor program f ≡ Some s → (signature_in program f).result ≡ s.result
called_result monitor program f s is = go (signature_at program f) is
  where
    same : (x y : Signature) → Some x ≡ Some y → x ≡ y
    same x y e = cc

    go : (o : Option Signature) → option_map (with_own monitor (function_at program f)) o ≡ Some s → (unwrap_or o no_signature).result ≡ s.result
    go None e = cc
    go (Some t) e = sym (with_own_result monitor (function_at program f) t) ∙ ap result_in (same (with_own monitor (function_at program f) t) s e)

abbrev params_in : Signature → List Param
params_in s = s.params

pub own_called : (monitor : Bool) (program : ProgramTree) (f : ℕ) (s : Signature) → FunctionFacts monitor program f → called_signature monitor program f ≡ Some s → s.params ≡ own_params program f
own_called monitor program f s facts is =
    sym (ap params_in (same (with_own monitor (Some facts.tree) facts.signature) s (sym (ap (λ o. option_map (with_own monitor o) (signature_at program f)) facts.found ∙ ap (λ o. option_map (with_own monitor (Some facts.tree)) o) facts.signed) ∙ is)))
    ∙ cut monitor facts.signature.host facts.no_host facts.counts
    ∙ ap (λ (g : FunctionTree). take g.params facts.signature.params) (sym facts.tree_is) ∙ ap (λ (t : Signature). take (function_in program f).params t.params) (sym facts.signature_is)
  where
    same : (x y : Signature) → Some x ≡ Some y → x ≡ y
    same x y e = cc

    equal : (m n : ℕ) → IsTrue (nat_eq m n) → m ≡ n
    equal m n h = grind (arith, nat_tests)

    cut : (monitor host : Bool) → IsTrue (not host) → IsTrue (counts_fit monitor facts.tree.params (length facts.signature.params)) →
        (if monitor && not host then record facts.signature { params = take facts.tree.params facts.signature.params } else facts.signature).params ≡ take facts.tree.params facts.signature.params
    cut true false h k = refl
    cut true true h k = false_not_true h
    cut false host h k = sym (take_length facts.tree.params facts.signature.params (equal facts.tree.params (length facts.signature.params) k))

number_given : (kept : Kept) (r : Option IntType) (v : Option ℤ) → NumberFits r v → GivenFits kept r (number_cell v)
number_given kept None None h = h
number_given kept None (Some v) h = h
number_given kept (Some t) None h = h
number_given kept (Some t) (Some v) h = h

-- a call of this function with arguments of these parameters, whose result goes there
record Called (kept : Kept) (monitor : Bool) (program : ProgramTree) (m : Machine) (a : Active) (f : ℕ) (args : List Cell) (result : Option ℕ) : Type 0 where
  signature : Signature
  is : called_signature monitor program f ≡ Some signature
  given : ArgumentsFit kept program.structs m.blocks a.depth signature.params args
  takes : TakesResult program a f result

enters_fits : {G : Type 0} (kept : Kept) (monitor : Bool) (program : ProgramTree) (gate : Gate G) (m : Machine) (g : G) (a : Active) (rest : List Active) (work : List Work) (span : Span) (f : ℕ) (args : List Cell) (result : Option ℕ) → Scene kept monitor program m a rest →
    IsTrue (work_fits (scope_in monitor program a.function) work) → Called kept monitor program m a f args result → IsTrue (is_some (function_at program f)) → StepFits kept monitor program (a ∷ rest) (enters_at program gate (working m a rest work) g span f args result (a.depth + 1))
enters_fits {G} kept monitor program gate m g a rest work span f args result s w called known = go (nat_le (a.depth + 1) deepest) refl
  where
    on : Fits kept monitor program (working m a rest work)
    on = let h : Fits kept monitor program (with_blocks m.blocks (working m a rest work)) = working_fits kept monitor program m a rest s work m.blocks w s.memory in record { memory = h.memory; active = h.active; awaited = h.awaited }

    privileged : Bool
    privileged = is_active (record a { work = work } ∷ rest) || (signature_in program f).privileged

    new : Active
    new = just_entered program privileged f (a.depth + 1) result

    facts : FunctionFacts monitor program f
    facts = function_facts monitor program s.facts f known

    one : (d : ℕ) → 1 ≤ d + 1
    one d = omega arith

    less : (d : ℕ) → d < d + 1
    less d = omega arith

    most : (d : ℕ) → d ≤ d + 1
    most d = omega arith

    next : (d : ℕ) → d + 1 ≡ suc d
    next d = omega arith

    low : (d : ℕ) → nat_le d deepest ≡ true → d ≤ deepest
    low d h = grind (arith, nat_tests)

    below : AreBelow (a.depth + 1) (record a { work = work } ∷ rest)
    below = (less a.depth, below_more a.depth (a.depth + 1) rest (most a.depth) (stands_below monitor program a rest s.all.1 s.all.2))

    entry : Machine → Step G
    entry m1 = answers moved (record m1 {
      active = just_entered program (is_active (record a { work = work } ∷ rest) || (signature_in program f).privileged) f (a.depth + 1) result ∷ m1.active;
      blocks = entered program f (a.depth + 1) args m1.blocks;
    }) (gate.noted (is_active (record a { work = work } ∷ rest)) f args g)

    go : (b : Bool) → nat_le (a.depth + 1) deepest ≡ b → StepFits kept monitor program (a ∷ rest) (if b then turned (working m a rest work) g entry else answers (trapped Depth span) (working m a rest work) g)
    go false e = record { machine = on; answer = tt {0} }
    go true e = turn_or_spent kept monitor program a rest (working m a rest work) g entry on (record {
      machine = record {
        memory = entered_memory kept monitor program new (record a { work = work } ∷ rest) m.blocks a.depth args facts below (memory_working kept program a rest work m.blocks s.memory) (less a.depth)
            (subst (λ ps. ArgumentsFit kept program.structs m.blocks a.depth ps args) (own_called monitor program f called.signature facts called.is) called.given);
        active = (entered_active monitor program privileged f (a.depth + 1) result facts known (one a.depth) (low (a.depth + 1) e), (next a.depth, called.takes), all_working monitor program a rest work s.all w);
        awaited = subst (λ o. AwaitedFits program (new ∷ record a { work = work } ∷ rest) o) (sym s.free) (tt {0});
      };
      answer = tt {0};
    })

made_fits : {G : Type 0} (kept : Kept) (monitor : Bool) (program : ProgramTree) (gate : Gate G) (m : Machine) (g : G) (a : Active) (rest : List Active) (work : List Work) (f : ℕ) (args : List Cell) (result : Option ℕ) → Scene kept monitor program m a rest →
    IsTrue (work_fits (scope_in monitor program a.function) work) → Called kept monitor program m a f args result →
    NumberFits (signature_in program f).result (gate.answer f (map number_in args) (gate.noted (is_active (record a { work = work } ∷ rest)) f args g)).0 → StepFits kept monitor program (a ∷ rest) (made_here program gate (working m a rest work) g f args result a.depth)
made_fits {G} kept monitor program gate m g a rest work f args result s w called number =
    let reply : Option ℤ × G = gate.answer f (map number_in args) (gate.noted (is_active (record a { work = work } ∷ rest)) f args g) in
    let stays : Fits kept monitor program (with_blocks m.blocks (working m a rest work)) = working_fits kept monitor program m a rest s work m.blocks w s.memory in
    let memory : MemoryFits kept program (a ∷ rest) (with_result a.depth result (number_cell reply.0) m.blocks) =
    kept_fits kept program a rest m.blocks (own_setting kept monitor program m a rest s) s.memory (signature_in program f).result result (number_cell reply.0) called.takes (number_given kept (signature_in program f).result reply.0 number) in
    let on : Fits kept monitor program (with_blocks (with_result a.depth result (number_cell reply.0) m.blocks) (working m a rest work)) = working_fits kept monitor program m a rest s work (with_result a.depth result (number_cell reply.0) m.blocks) w memory in
    turn_or_spent kept monitor program a rest (working m a rest work) g (λ m1. made m1 a.depth result (gate.answer f (map number_in args) (gate.noted (is_active (record a { work = work } ∷ rest)) f args g)))
    (record { memory = stays.memory; active = stays.active; awaited = stays.awaited })
    (record { machine = record { memory = on.memory; active = on.active; awaited = on.awaited }; answer = tt {0} })

away_fits : {G : Type 0} (kept : Kept) (monitor : Bool) (program : ProgramTree) (m : Machine) (g : G) (a : Active) (rest : List Active) (work : List Work) (span : Span) (f : ℕ) (args : List Cell) (result : Option ℕ) → Scene kept monitor program m a rest →
    IsTrue (work_fits (scope_in monitor program a.function) work) → Called kept monitor program m a f args result → StepFits kept monitor program (a ∷ rest) (goes_away program (working m a rest work) g span f args result (a.depth + 1))
away_fits {G} kept monitor program m g a rest work span f args result s w called = go (signature_in program f).host (nat_le (a.depth + 1) deepest)
  where
    stays : Fits kept monitor program (with_blocks m.blocks (working m a rest work))
    stays = working_fits kept monitor program m a rest s work m.blocks w s.memory

    asks : (depth : ℕ) → StepFits kept monitor program (a ∷ rest) (answers (asked f args depth) (awaiting f result (working m a rest work)) g)
    asks depth = record {
      machine = record { memory = stays.memory; active = stays.active; awaited = called.takes };
      answer = subst (λ o. ArgumentsFit kept program.structs m.blocks a.depth (params_of o) args) (sym called.is) called.given;
    }

    go : (host low : Bool) → StepFits kept monitor program (a ∷ rest) (if host then answers (asked f args 0) (awaiting f result (working m a rest work)) g
        else (if low then answers (asked f args (a.depth + 1)) (awaiting f result (working m a rest work)) g else answers (trapped Depth span) (working m a rest work) g))
    go true low = asks 0
    go false true = asks (a.depth + 1)
    go false false = record { machine = record { memory = stays.memory; active = stays.active; awaited = stays.awaited }; answer = tt {0} }

way_fits : {G : Type 0} (kept : Kept) (monitor : Bool) (program : ProgramTree) (gate : Gate G) (m : Machine) (g : G) (a : Active) (rest : List Active) (work : List Work) (span : Span) (f : ℕ) (args : List Cell) (result : Option ℕ) → Scene kept monitor program m a rest → GateFits program gate g →
    IsTrue (work_fits (scope_in monitor program a.function) work) → Called kept monitor program m a f args result → (way : Way) → gate.way g f args ≡ way → StepFits kept monitor program (a ∷ rest) (by_way program gate (working m a rest work) g span f args result a.depth way)
way_fits {G} kept monitor program gate m g a rest work span f args result s ok w called enters e = enters_fits kept monitor program gate m g a rest work span f args result s w called (ok.entered f args e)
way_fits {G} kept monitor program gate m g a rest work span f args result s ok w called here e = made_fits kept monitor program gate m g a rest work f args result s w called (ok.answered (is_active (record a { work = work } ∷ rest)) f args e)
way_fits {G} kept monitor program gate m g a rest work span f args result s ok w called away e = away_fits kept monitor program m g a rest work span f args result s w called

call_keeps : {G : Type 0} (kept : Kept) (monitor : Bool) (program : ProgramTree) (gate : Gate G) (m : Machine) (g : G) (a : Active) (rest : List Active) (work : List Work) (span : Span) (f : ℕ) (args : ExprTrees) (result : Option ℕ) → Scene kept monitor program m a rest → GateFits program gate g →
    IsTrue (work_fits (scope_in monitor program a.function) work) → (o : Option Signature) → called_signature monitor program f ≡ o → IsTrue (call_fits (context_in program a.function) o args result) → StepFits kept monitor program (a ∷ rest) (act program gate m g a rest work (call f args result span))
call_keeps {G} kept monitor program gate m g a rest work span f args result s ok w None is h = false_not_true h
call_keeps {G} kept monitor program gate m g a rest work span f args result s ok w (Some t) is h =
    let c : Context = context_in program a.function in
    let both : IsTrue (arguments_fit c t.params args && result_fits c t.result result) = both_hold_second (not (is_main t)) (arguments_fit c t.params args && result_fits c t.result result) h in
    let takes : TakesResult program a f result = subst (λ r. IsTrue (result_fits c r result)) (sym (called_result monitor program f t is)) (both_hold_second (arguments_fit c t.params args) (result_fits c t.result result) both) in
    value_or_trap kept monitor program a rest m g (ArgumentsFit kept program.structs m.blocks a.depth t.params) (values_of c a.depth args m.blocks)
    (λ vs. by_way program gate (working m a rest work) g span f vs result a.depth (gate.way g f vs)) s.fits
    (values_fit_params kept c a.depth m.blocks (own_setting kept monitor program m a rest s) t.params args (both_hold_first (arguments_fit c t.params args) (result_fits c t.result result) both))
    (λ vs fits. way_fits kept monitor program gate m g a rest work span f vs result s ok w (record { signature = t; is = is; given = fits; takes = takes }) (gate.way g f vs) refl)

-- ---- statements

choice_fits : (monitor : Bool) (program : ProgramTree) (f : ℕ) (looped : Bool) (b : Bool) (xs ys : StmtTrees) → IsTrue (stmts_fit (scope_in monitor program f) looped xs) → IsTrue (stmts_fit (scope_in monitor program f) looped ys) →
    IsTrue (stmts_fit (scope_in monitor program f) looped (if b then xs else ys))
choice_fits monitor program f looped true xs ys h k = h
choice_fits monitor program f looped false xs ys h k = k

act_fits : {G : Type 0} (kept : Kept) (monitor : Bool) (program : ProgramTree) (gate : Gate G) (m : Machine) (g : G) (a : Active) (rest : List Active) → Scene kept monitor program m a rest → GateFits program gate g → (work : List Work) → IsTrue (work_fits (scope_in monitor program a.function) work) →
    (t : StmtTree) → IsTrue (stmt_fits (scope_in monitor program a.function) (is_looped work) t) → StepFits kept monitor program (a ∷ rest) (act program gate m g a rest work t)
act_fits {G} kept monitor program gate m g a rest s ok work w (clear v) h =
    record { machine = working_fits kept monitor program m a rest s work _ w (cleared_fits kept program a rest m.blocks (own_setting kept monitor program m a rest s) s.memory v h); answer = tt {0} }
act_fits {G} kept monitor program gate m g a rest s ok work w (check p) h =
    let on : Fits kept monitor program (with_blocks m.blocks (working m a rest work)) = working_fits kept monitor program m a rest s work m.blocks w s.memory in
    value_or_trap kept monitor program a rest m g (LocationFits (context_in program a.function) m.blocks a.depth (place_type (context_in program a.function) p)) (location_of (context_in program a.function) a.depth p m.blocks)
    (λ at. answers moved (working m a rest work) g) s.fits (places kept (context_in program a.function) a.depth m.blocks (own_setting kept monitor program m a rest s) p h)
    (λ at _. record { machine = record { memory = on.memory; active = on.active; awaited = on.awaited }; answer = tt {0} })
act_fits {G} kept monitor program gate m g a rest s ok work w (assign p e) h =
    value_or_trap kept monitor program a rest m g (MemoryFits kept program (a ∷ rest)) (assigned (context_in program a.function) a.depth p e m.blocks) (λ blocks. answers moved (with_blocks blocks (working m a rest work)) g) s.fits
    (assigned_fits kept program a rest m.blocks (own_setting kept monitor program m a rest s) s.memory p e h) (λ blocks mem. record { machine = working_fits kept monitor program m a rest s work blocks w mem; answer = tt {0} })
act_fits {G} kept monitor program gate m g a rest s ok work w (copy p q) h =
    value_or_trap kept monitor program a rest m g (MemoryFits kept program (a ∷ rest)) (copied (context_in program a.function) a.depth p q m.blocks) (λ blocks. answers moved (with_blocks blocks (working m a rest work)) g) s.fits
    (copied_fits kept program a rest m.blocks (own_setting kept monitor program m a rest s) s.memory p q h) (λ blocks mem. record { machine = working_fits kept monitor program m a rest s work blocks w mem; answer = tt {0} })
act_fits {G} kept monitor program gate m g a rest s ok work w (call f args result span) h = call_keeps kept monitor program gate m g a rest work span f args result s ok w (called_signature monitor program f) refl h
act_fits {G} kept monitor program gate m g a rest s ok work w (choose e xs ys) h =
    let k = scope_in monitor program a.function in
    let c : Context = context_in program a.function in
    let cond : IsTrue (expr_fits c e && is_scalar (Some (type_of c e))) = both_hold_first (expr_fits c e && is_scalar (Some (type_of c e))) (stmts_fit k (is_looped work) xs && stmts_fit k (is_looped work) ys) h in
    let arms : IsTrue (stmts_fit k (is_looped work) xs && stmts_fit k (is_looped work) ys) = both_hold_second (expr_fits c e && is_scalar (Some (type_of c e))) (stmts_fit k (is_looped work) xs && stmts_fit k (is_looped work) ys) h in
    value_or_trap kept monitor program a rest m g (ValueFits kept program.structs m.blocks a.depth (type_of c e)) (value_of c a.depth e m.blocks) (λ v. answers moved (working m a rest (run (if holds_in v then xs else ys) ∷ work)) g) s.fits
    (values kept c a.depth m.blocks (own_setting kept monitor program m a rest s) e (both_hold_first (expr_fits c e) (is_scalar (Some (type_of c e))) cond))
    (λ v _. let on : Fits kept monitor program (with_blocks m.blocks (working m a rest (run (if holds_in v then xs else ys) ∷ work))) = working_fits kept monitor program m a rest s (run (if holds_in v then xs else ys) ∷ work) m.blocks
    (both_hold (stmts_fit k (is_looped work) (if holds_in v then xs else ys)) (work_fits k work)
    (choice_fits monitor program a.function (is_looped work) (holds_in v) xs ys (both_hold_first (stmts_fit k (is_looped work) xs) (stmts_fit k (is_looped work) ys) arms) (both_hold_second (stmts_fit k (is_looped work) xs) (stmts_fit k (is_looped work) ys) arms)) w) s.memory in
    record { machine = record { memory = on.memory; active = on.active; awaited = on.awaited }; answer = tt {0} })
act_fits {G} kept monitor program gate m g a rest s ok work w (repeat body span) h = begins_fits kept monitor program m g a rest s body work h w
act_fits {G} kept monitor program gate m g a rest s ok work w break_out h =
    let on : Fits kept monitor program (with_blocks m.blocks (working m a rest (past_loop work))) = working_fits kept monitor program m a rest s (past_loop work) m.blocks (past_fits monitor program a.function work w) s.memory in
    record { machine = record { memory = on.memory; active = on.active; awaited = on.awaited }; answer = tt {0} }
act_fits {G} kept monitor program gate m g a rest s ok work w continue_on h =
    let on : Fits kept monitor program (with_blocks m.blocks (working m a rest (at_head work))) = working_fits kept monitor program m a rest s (at_head work) m.blocks (head_fits monitor program a.function work w) s.memory in
    record { machine = record { memory = on.memory; active = on.active; awaited = on.awaited }; answer = tt {0} }
act_fits {G} kept monitor program gate m g a rest s ok work w (give_back e) h =
    value_or_trap kept monitor program a rest m g (GivenFits kept (signature_in program a.function).result) (returned_value (context_in program a.function) a.depth e m.blocks) (λ v. returned m g a rest v) s.fits
    (returned_value_fits kept monitor program m a rest s e h) (λ v given. returned_fits kept monitor program m g a rest v s given)

works_fits : {G : Type 0} (kept : Kept) (monitor : Bool) (program : ProgramTree) (gate : Gate G) (m : Machine) (g : G) (a : Active) (rest : List Active) → Scene kept monitor program m a rest → GateFits program gate g → (work : List Work) → IsTrue (work_fits (scope_in monitor program a.function) work) →
    StepFits kept monitor program (a ∷ rest) (works program gate m g a rest work)
works_fits {G} kept monitor program gate m g a rest s ok [] h = at_end_fits kept monitor program m g a rest (function_in program a.function).end s (signature_in program a.function).result refl
works_fits {G} kept monitor program gate m g a rest s ok (run no_stmts ∷ work) h =
    let on : Fits kept monitor program (with_blocks m.blocks (working m a rest work)) = working_fits kept monitor program m a rest s work m.blocks h s.memory in
    record { machine = record { memory = on.memory; active = on.active; awaited = on.awaited }; answer = tt {0} }
works_fits {G} kept monitor program gate m g a rest s ok (run (stmt_and t more) ∷ work) h =
    let k = scope_in monitor program a.function in
    let both : IsTrue (stmt_fits k (is_looped work) t && stmts_fit k (is_looped work) more) = both_hold_first (stmt_fits k (is_looped work) t && stmts_fit k (is_looped work) more) (work_fits k work) h in
    act_fits kept monitor program gate m g a rest s ok (run more ∷ work)
    (both_hold (stmts_fit k (is_looped work) more) (work_fits k work) (both_hold_second (stmt_fits k (is_looped work) t) (stmts_fit k (is_looped work) more) both) (both_hold_second (stmt_fits k (is_looped work) t && stmts_fit k (is_looped work) more) (work_fits k work) h))
    t (both_hold_first (stmt_fits k (is_looped work) t) (stmts_fit k (is_looped work) more) both)
works_fits {G} kept monitor program gate m g a rest s ok (head body ∷ work) h =
    begins_fits kept monitor program m g a rest s body work (both_hold_first (stmts_fit (scope_in monitor program a.function) true body) (work_fits (scope_in monitor program a.function) work) h)
    (both_hold_second (stmts_fit (scope_in monitor program a.function) true body) (work_fits (scope_in monitor program a.function) work) h)

pub step_keeps : {G : Type 0} → StepKeeps G
step_keeps {G} kept monitor program gate m g sound ok fits free = go m.active refl
  where
    go : (active : List Active) → m.active ≡ active → StepFits kept monitor program active (stepped program gate m g active)
    go [] e = record { machine = fits; answer = tt {0} }
    go (a ∷ rest) e =
        let all : AllFit monitor program (a ∷ rest) = subst (λ active. AllFit monitor program active) e fits.active in
        works_fits kept monitor program gate m g a rest
        (record { facts = facts_of monitor program sound; memory = subst (λ active. MemoryFits kept program active m.blocks) e fits.memory; all = all; free = free; fits = fits }) ok (settled a.work) (settled_fits monitor program a.function a.work all.0.work)
