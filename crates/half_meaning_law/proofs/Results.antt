-- What calls come to, and where their results go.
use Rattle.std.proofs.Common.{◌≡◌, ◌∙◌, ℕ, pos, refl, ap, sym, subst, arith, true, false, not, Option, Some, None, List, [], ◌∷◌, length, map}
use Rattle.std.specs.Prelude.{IsTrue, nat_lt, slice_get, unwrap_or, option_map}
use Rattle.pt_base.specs.declared.int_type.IntType.{IntType}
use Rattle.pt_base.specs.declared.span.Span.{Span}
use Rattle.pt_base.proofs.Booleans.{both_hold, both_hold_first, both_hold_second, true_not_false}
use Rattle.runs.specs.State.{gives, ◌>>=◌}
use Rattle.pt_tree.specs.declared.signature.Elem.{Elem}
use Rattle.pt_tree.specs.declared.signature.Signature.{Signature}
use Rattle.pt_tree.specs.StatementTree as e
use Rattle.type_rules.specs.declared.types.Type.TheVariants as ty
use Rattle.type_rules.specs.Types.{is_bad}
use Rattle.type_rules.specs.Conversions.{fit_rule, is_wrong}
use Rattle.typed_tree.specs.declared.types.VarTy.{VarTy}
use Rattle.typed_tree.specs.declared.types.VarTy.TheVariants as v
use Rattle.typed_tree.specs.ExpressionTree as t
use Rattle.typed_tree.specs.ExpressionTree.{typed, expr_trees}
use Rattle.typed_tree.specs.TypeTests.{same_types}
use Rattle.typed_tree.specs.WellFormedExpression.{param_type, is_main, ty_of}
use Rattle.check_expressions.specs.Environment.{Env}
use Rattle.check_expressions.specs.Expressions.{Arguments, judge, judge_arguments}
use Rattle.check_expressions.specs.Conversions.{as_type, to_int}
use Rattle.check_expressions.specs.Operands.{Known, plain, value_of, value_tree, read_tree, span_of, place_of, var_type}
use Rattle.check_expressions.specs.Postfixes.{called}
use Rattle.check_statements.specs.declared.context.Context as k
use Rattle.check_statements.specs.Outermost as o
use Rattle.check_statements.specs.Statements.{checked_all}
use Rattle.block_memory.specs.declared.cell.Cell as core
use Rattle.block_memory.specs.declared.cell.Cell.TheVariants.{Int}
use Rattle.block_memory.specs.declared.cell.BlockName.TheVariants.{Local}
use Rattle.block_memory.specs.Blocks.{Blocks}
use Rattle.source_meaning.specs.Memory.{local, number, write}
use Rattle.source_meaning.specs.State.{State, Outcome}
use Rattle.source_meaning.specs.Values as mv
use Rattle.source_meaning.specs.Values.{holds}
use Rattle.source_meaning.specs.Expressions as x
use Rattle.source_meaning.specs.Statements as m
use Rattle.pt_core.specs.CodeTree.{ExprTrees, place, local as local_root, call}
use Rattle.pt_core.specs.Types.{type_at}
use Rattle.pt_core.specs.Values as w
use Rattle.pt_core.specs.Values.{Stop, ◌>>?◌, written}
use Rattle.pt_core.specs.Statements as c
use Rattle.pt_core.specs.Statements.{does, evaluated, with_blocks, kept_in, kept}
use Rattle.pt_core.specs.WellFormedStatement.{arguments_fit, result_fits}
use Rattle.half_trees.specs.Names.{nowhere}
use Rattle.half_trees.specs.Expressions as h
use Rattle.half_trees.specs.Statements as hs
use Rattle.half_meaning_law.specs.Relations.{Scene, context_of, frame_of, Alike, Same}
use Rattle.half_meaning_law.specs.CForms.{are_passed}
use Rattle.half_meaning_law.specs.Known.{type_as, result_as, function_id, FunctionKnown, Known as AllKnown}
use Rattle.half_meaning_law.specs.Expressions.{Evaluates, IsPlace, SamePlaces, place_asked, IsFine, SceneFits}
use Rattle.half_meaning_law.specs.Statements.{GoesOn, SameRuns, AreArguments, GivesResult, CallsAlike, StatementsMean}
use Rattle.half_meaning_law.proofs.Memories.{alike_written}
use Rattle.typed_tree.proofs.SameTypes.{equal_types}
use Rattle.half_meaning_law.proofs.Types.{to_int_same}
use Rattle.half_meaning_law.proofs.Chains.{var_type_as}
use Rattle.half_meaning_law.proofs.PlaceLaw.{PlaceHeld}
use Rattle.half_meaning_law.proofs.ExpressionLaw.{place_held}
use Rattle.half_meaning_law.proofs.Runs.{same_bind, same_evaluated, bind_assoc}
use Rattle.half_meaning_law.proofs.Steps.{evaluate_means}
use Rattle.half_meaning_law.proofs.Stores.{Target}
use Rattle.half_meaning_law.proofs.Assigns.{assign_judged, target_of}
use Rattle.half_meaning_law.proofs.Calls.{ArgumentsMean, arguments_held, typed_call, CallJudged, call_judged}
use Rattle.half_meaning_law.proofs.Clears.{same_given, local_is}

-- calls with the same arguments, in the text's numbers and in the normal form's
calls_same : (s : Scene) (names : List (ℕ × Signature)) (called : ℕ → Option Signature) (env : Env) (f : ℕ) (signature : Signature) (known : FunctionKnown s names env f signature) (sp : Span) (vs : List mv.Value) (xs : List core.Cell) (st : State) (st' : c.State) →
    CallsAlike s called → called f ≡ Some signature → IsTrue (not (is_main signature)) → AreArguments s signature.params vs xs → Alike s st st' →
    Same s (GivesResult s signature.result) (s.calls s.frame nowhere known.place vs st) (s.core_calls (frame_of s) sp f xs st')
calls_same s names called env f signature known sp vs xs st st' calls is other args al =
    subst (λ z. Same s (GivesResult s signature.result) (s.calls s.frame nowhere known.place vs st) (s.core_calls (frame_of s) sp z xs st')) known.number
    (calls nowhere sp known.place signature vs xs st st' (ap called known.number ∙ is) other args al)

-- a call whose result is left
dropped_runs : (s : Scene) (names : List (ℕ × Signature)) (called : ℕ → Option Signature) (env : Env) (f : ℕ) (signature : Signature) (known : FunctionKnown s names env f signature) (sp : Span) (es : ExprTrees) (trees : List t.ExprTree) →
    CallsAlike s called → called f ≡ Some signature → IsTrue (not (is_main signature)) → ((st : State) (st' : c.State) → Alike s st st' → Evaluates (AreArguments s signature.params) st (x.values_of (expr_trees trees) (context_of s) st) (w.values_of s.context s.frame.depth es st'.memory)) →
    SameRuns s (λ st. x.value_of (typed_call known.callable (function_id known.place) trees) (context_of s) st >>= λ g. gives m.goes_on) (does (call f es None sp) (frame_of s) s.core_calls)
dropped_runs s names called env f signature known sp es trees calls is other args st st' al =
    subst (λ z. Same s (GoesOn s) z (does (call f es None sp) (frame_of s) s.core_calls st')) (sym (bind_assoc (x.values_of (expr_trees trees) (context_of s) st) (s.calls s.frame nowhere known.place) (λ g. gives m.goes_on)))
    (same_evaluated s (AreArguments s signature.params) (GoesOn s) st st' (x.values_of (expr_trees trees) (context_of s) st) (w.values_of s.context s.frame.depth es st'.memory) (λ vs st1. s.calls s.frame nowhere known.place vs st1 >>= λ g. gives m.goes_on)
    (λ xs st1. s.core_calls (frame_of s) sp f xs st1 >>= kept_in (frame_of s) None) al (args st st' al)
    (λ vs xs are. same_bind s (GivesResult s signature.result) (GoesOn s) (s.calls s.frame nowhere known.place vs st) (s.core_calls (frame_of s) sp f xs st') (λ g. gives m.goes_on) (kept_in (frame_of s) None)
    (calls_same s names called env f signature known sp vs xs st st' calls is other are al) (λ g st1 q st1' r. record { alike = r.alike; same = tt })))

-- ---- a result that is kept

kept_is : (depth n : ℕ) (q : Option core.Cell) (blocks : Blocks) → kept depth (Some n) q blocks ≡ written blocks (Local depth n) 0 (unwrap_or q (Int (pos 0)))
kept_is depth n None blocks = refl
kept_is depth n (Some z) blocks = refl

kept_alike : (s : Scene) (n : ℕ) (to : IntType) (at : mv.Location) (g : mv.Value) (st : State) (q : Option core.Cell) (st' : c.State) → SceneFits s → IsPlace s (v.Int to) at (record { block = Local s.frame.depth n; cell = 0; ty = type_at s.context.variables n }) →
    GivesResult s (Some to) g st q st' → Alike s (record st { memory = x.stored_in st.memory at g }) (with_blocks (kept s.frame.depth (Some n) q st'.memory) st')
kept_alike s n to at g st q st' fits here r =
    subst (λ z. Alike s (record st { memory = x.stored_in st.memory at z }) (with_blocks (kept s.frame.depth (Some n) q st'.memory) st')) (sym r.same.1)
    (subst (λ z. Alike s (record st { memory = write st.memory at.block at.cell (number r.same.0) }) (with_blocks z st')) (sym (kept_is s.frame.depth n q st'.memory))
    (subst (λ z. Alike s (record st { memory = write st.memory at.block at.cell (number r.same.0) }) (with_blocks (written st'.memory (Local s.frame.depth n) 0 z) st')) (sym r.same.2)
    (subst (λ z. Alike s (record st { memory = write st.memory z at.cell (number r.same.0) }) (with_blocks (written st'.memory (Local s.frame.depth n) 0 (Int r.same.0)) st')) (sym (local_is s s.frame.depth n at.block here.block))
    (subst (λ z. Alike s (record st { memory = write st.memory (local s.frame.depth n) z (number r.same.0) }) (with_blocks (written st'.memory (Local s.frame.depth n) 0 (Int r.same.0)) st')) here.cell
    (alike_written s st st' (local s.frame.depth n) 0 (number r.same.0) fits.numbers r.alike tt)))))

kept_runs : (s : Scene) (names : List (ℕ × Signature)) (called : ℕ → Option Signature) (env : Env) (f : ℕ) (signature : Signature) (known : FunctionKnown s names env f signature) (sp : Span) (es : ExprTrees) (trees : List t.ExprTree) (n : ℕ) (to : IntType) (y : t.PlaceTree) (o : Option VarTy) →
    SceneFits s → CallsAlike s called → called f ≡ Some signature → IsTrue (not (is_main signature)) → signature.result ≡ Some to → ((st : State) (st' : c.State) → Alike s st st' → Evaluates (AreArguments s signature.params) st (x.values_of (expr_trees trees) (context_of s) st) (w.values_of s.context s.frame.depth es st'.memory)) →
    SamePlaces s (v.Int to) y (place_asked s (place (local_root n) [])) →
    SameRuns s (λ st. x.value_of (typed nowhere o (t.assign y (typed_call known.callable (function_id known.place) trees))) (context_of s) st >>= λ g. gives m.goes_on) (does (call f es (Some n) sp) (frame_of s) s.core_calls)
kept_runs s names called env f signature known sp es trees n to y o fits calls is other result args places st st' al =
    subst (λ z. Same s (GoesOn s) z run') (sym (bind_assoc (x.location_of y (context_of s) st) (λ at st1. whole st1 >>= x.store at) (λ g. gives m.goes_on)))
    (same_given s (IsPlace s (v.Int to)) (GoesOn s) st (x.location_of y (context_of s) st) (record { block = Local s.frame.depth n; cell = 0; ty = type_at s.context.variables n }) (λ at st1. (whole st1 >>= x.store at) >>= λ g. gives m.goes_on) run' (places st st' al)
    (λ at here.
    subst (λ z. Same s (GoesOn s) z run') (sym (bind_assoc (whole st) (x.store at) (λ g. gives m.goes_on) ∙ bind_assoc (x.values_of (expr_trees trees) (context_of s) st) (s.calls s.frame nowhere known.place) (λ g st1. x.store at g st1 >>= λ k. gives m.goes_on)))
    (same_evaluated s (AreArguments s signature.params) (GoesOn s) st st' (x.values_of (expr_trees trees) (context_of s) st) (w.values_of s.context s.frame.depth es st'.memory) (λ vs st1. s.calls s.frame nowhere known.place vs st1 >>= λ g st2. x.store at g st2 >>= λ k. gives m.goes_on)
    (λ xs st1. s.core_calls (frame_of s) sp f xs st1 >>= kept_in (frame_of s) (Some n)) al (args st st' al)
    (λ vs xs are. same_bind s (GivesResult s signature.result) (GoesOn s) (s.calls s.frame nowhere known.place vs st) (s.core_calls (frame_of s) sp f xs st') (λ g st2. x.store at g st2 >>= λ k. gives m.goes_on) (kept_in (frame_of s) (Some n))
    (calls_same s names called env f signature known sp vs xs st st' calls is other are al) (λ g st1 q st1' r. record { alike = kept_alike s n to at g st1 q st1' fits here (subst (λ z. GivesResult s z g st1 q st1') result r); same = tt })))))
  where
    run' : c.Outcome c.Flow
    run' = does (call f es (Some n) sp) (frame_of s) s.core_calls st'

    whole : State → Outcome mv.Value
    whole st1 = x.values_of (expr_trees trees) (context_of s) st1 >>= s.calls s.frame nowhere known.place

-- ---- whole statements

-- a result goes to a variable of its type
result_types : (r : Option IntType) (u : VarTy) → IsTrue (same_types (option_map v.Int r) (Some u)) → (to : IntType) × (r ≡ Some to) × (u ≡ v.Int to)
result_types None u h = true_not_false (sym h)
result_types (Some to) u h = (to, refl, sym (equal_types (v.Int to) u h))

call_fit : (to : IntType) (tree : t.ExprTree) (z : Known) → z ≡ plain (ty.Int to) tree → (is_bad z.ty ≡ false) × (is_wrong (fit_rule (ty.Int to) (value_of z)) ≡ false)
unfolding fit_rule value_of
call_fit to tree z is = (ap (λ (q : Known). is_bad q.ty) is, ap (λ (q : Known). is_wrong (fit_rule (ty.Int to) (value_of q))) is)

call_value : (to : IntType) (tree : t.ExprTree) (z : Known) (at : Span) → z ≡ plain (ty.Int to) tree → ty_of tree ≡ Some (v.Int to) → as_type (ty.Int to) (value_of z).null (value_tree at z) ≡ tree
unfolding value_of value_tree read_tree as_type
call_value to tree z at is typed_as = ap (λ (q : Known). to_int to (value_tree at q)) is ∙ to_int_same to tree typed_as

int_whole : (u : VarTy) (to : IntType) → u ≡ v.Int to → (el : Elem) (n : ℕ) → u ≡ v.Array el n → ⊥
int_whole u to is el n e = clash (sym is ∙ e)
  where
    clash : v.Int to ≡ v.Array el n → ⊥
    clash h = cc

pub call_means : (s : Scene) (names : List (ℕ × Signature)) (called : ℕ → Option Signature) (w : k.Context) (st : o.State) (f : ℕ) (signature : Signature) (es : ExprTrees) (result : Option ℕ) (sp : Span) → SceneFits s → AllKnown s st.env st.structs → (known : FunctionKnown s names st.env f signature) →
    CallsAlike s called → called f ≡ Some signature → IsTrue (not (is_main signature)) → IsTrue (arguments_fit s.context signature.params es) → IsTrue (are_passed s.context signature.params es) → IsTrue (result_fits s.context signature.result result) →
    StatementsMean s st (checked_all w st (e.stmt_trees (hs.evaluated (hs.received result (hs.call_tree names s.context f es)) ∷ []))) (does (call f es result sp) (frame_of s) s.core_calls)
unfolding span_of value_tree read_tree
call_means s names called w st f signature es None sp fits all known calls is other ok passed into =
    evaluate_means s w st (hs.call_tree names s.context f es) (does (call f es None sp) (frame_of s) s.core_calls) judged.fine
    (subst (λ (z : Known). SameRuns s (λ st1. x.value_of (value_tree nowhere z) (context_of s) st1 >>= λ g. gives m.goes_on) (does (call f es None sp) (frame_of s) s.core_calls)) (sym judged.operand)
    (dropped_runs s names called st.env f signature known sp es a.trees calls is other args.same))
  where
    a : Arguments
    a = judge_arguments st.env st.structs (map (λ p. type_as (param_type p.kind)) signature.params) 0 (h.argument_trees s.context es)

    args : ArgumentsMean s st.structs signature.params es a
    args = arguments_held s st.env st.structs (map (λ p. type_as (param_type p.kind)) signature.params) 0 signature.params es fits all (λ j. ap (λ z. slice_get (map (λ p. type_as (param_type p.kind)) signature.params) z) (omega arith)) ok passed

    judged : CallJudged st.structs known.callable.result (typed_call known.callable (function_id known.place) a.trees) (judge st.env st.structs (hs.call_tree names s.context f es))
    judged = call_judged s names st.env st.structs f signature es known args
call_means s names called w st f signature es (Some n) sp fits all known calls is other ok passed into =
    evaluate_means s w st (hs.stored (hs.variable n) (hs.call_tree names s.context f es)) (does (call f es (Some n) sp) (frame_of s) s.core_calls) stored.0
    (subst (λ z. SameRuns s (λ st1. x.value_of z (context_of s) st1 >>= λ g. gives m.goes_on) (does (call f es (Some n) sp) (frame_of s) s.core_calls)) (sym (stored.1 nowhere ∙ ap (λ z. typed nowhere (var_type (ty.Int r.0)) (t.assign (place_of (judge st.env st.structs (hs.variable n)).operand.tree) z)) (call_value r.0 tree (judge st.env st.structs (hs.call_tree names s.context f es)).operand nowhere operand typed_as)))
    (kept_runs s names called st.env f signature known sp es a.trees n r.0 (place_of (judge st.env st.structs (hs.variable n)).operand.tree) (var_type (ty.Int r.0)) fits calls is other r.1 args.same (subst (λ z. SamePlaces s z (place_of (judge st.env st.structs (hs.variable n)).operand.tree) (place_asked s (place (local_root n) []))) r.2 held.means.object.same)))
  where
    a : Arguments
    a = judge_arguments st.env st.structs (map (λ p. type_as (param_type p.kind)) signature.params) 0 (h.argument_trees s.context es)

    args : ArgumentsMean s st.structs signature.params es a
    args = arguments_held s st.env st.structs (map (λ p. type_as (param_type p.kind)) signature.params) 0 signature.params es fits all (λ j. ap (λ z. slice_get (map (λ p. type_as (param_type p.kind)) signature.params) z) (omega arith)) ok passed

    judged : CallJudged st.structs known.callable.result (typed_call known.callable (function_id known.place) a.trees) (judge st.env st.structs (hs.call_tree names s.context f es))
    judged = call_judged s names st.env st.structs f signature es known args

    r : (to : IntType) × (signature.result ≡ Some to) × (type_at s.context.variables n ≡ v.Int to)
    r = result_types signature.result (type_at s.context.variables n) (both_hold_second (nat_lt n (length s.context.variables)) _ into)

    tree : t.ExprTree
    tree = typed_call known.callable (function_id known.place) a.trees

    is_int : known.callable.result ≡ ty.Int r.0
    is_int = known.result ∙ ap result_as r.1

    operand : (judge st.env st.structs (hs.call_tree names s.context f es)).operand ≡ plain (ty.Int r.0) tree
    operand = judged.operand ∙ ap (λ z. plain z tree) is_int

    typed_as : ty_of tree ≡ Some (v.Int r.0)
    typed_as = ap var_type is_int ∙ var_type_as (v.Int r.0)

    held : PlaceHeld s st.env st.structs (place (local_root n) []) (hs.variable n)
    held = place_held s st.env st.structs (place (local_root n) []) fits all (both_hold (nat_lt n (length s.context.variables)) true (both_hold_first (nat_lt n (length s.context.variables)) _ into) refl) refl

    stored : IsFine st.structs (judge st.env st.structs (hs.stored (hs.variable n) (hs.call_tree names s.context f es))) × ((at : Span) → value_tree at (judge st.env st.structs (hs.stored (hs.variable n) (hs.call_tree names s.context f es))).operand ≡
        typed nowhere (var_type (ty.Int r.0)) (t.assign (place_of (judge st.env st.structs (hs.variable n)).operand.tree) (as_type (ty.Int r.0) (value_of (judge st.env st.structs (hs.call_tree names s.context f es)).operand).null (value_tree nowhere (judge st.env st.structs (hs.call_tree names s.context f es)).operand))))
    stored = assign_judged s st.env st.structs (v.Int r.0) (hs.variable n) (hs.call_tree names s.context f es) held.means.fine
        (subst (λ z. Target s st.structs z (judge st.env st.structs (hs.variable n)).operand) r.2 (target_of s st.env st.structs (place (local_root n) []) (hs.variable n) all refl (int_whole (type_at s.context.variables n) r.0 r.2) held)) judged.fine (call_fit r.0 tree _ operand).0 (call_fit r.0 tree _ operand).1
