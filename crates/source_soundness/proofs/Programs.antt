-- Calls give results of their callees' types, and programs begin fitting.
use Rattle.std.proofs.Common.{◌≡◌, ◌∙◌, ℕ, zero, suc, ◌+◌, ℤ, refl, ap, sym, subst, arith, Bool, true, false, Option, Some, None, List, [], ◌∷◌, if◌then◌else◌, map, nat_eq}
use Rattle.std.specs.Prelude.{◌&&◌, not, slice_get, option_map, unwrap_or, nat_le, length}
use Rattle.std.specs.List.{list_all}
use Rattle.std.proofs.lemmas.Bool.Decides.{nat_tests}
use Rattle.pt_base.specs.declared.int_type.IntType.{IntType}
use Rattle.pt_base.specs.declared.span.Span.{Span}
use Rattle.pt_base.specs.declared.trap.Trap.TheVariants as trap
use Rattle.pt_base.proofs.Booleans.{both_hold_first, both_hold_second, false_not_true}
use Rattle.pt_base.proofs.Members.{all_true_at}
use Rattle.pt_base.proofs.Places.{get_map}
use Rattle.pt_tree.specs.declared.signature.Signature.{Signature}
use Rattle.runs.specs.State.{gives, trapped, spent, ◌>>=◌, noted, guarded_event, answer_of}
use Rattle.typed_tree.specs.declared.types.VarTy.{VarTy}
use Rattle.typed_tree.specs.declared.types.VarTy.TheVariants.{Int}
use Rattle.typed_tree.specs.declared.variable.TypedGlobal.{TypedGlobal}
use Rattle.typed_tree.specs.Sizes.{sizes_of}
use Rattle.typed_tree.specs.StatementTree.{BodyTree}
use Rattle.typed_tree.specs.TypedTree.{TypedTree, FunctionTree, signatures_of}
use Rattle.typed_tree.specs.WellFormed.{params_lead, variable_sound, is_integer_param, names_in, scope_in, body_sound, function_sound, is_block}
use Rattle.typed_tree.specs.WellFormedExpression.{Names}
use Rattle.typed_tree.specs.WellFormedStatement.{is_sound}
use Rattle.source_meaning.specs.Memory.{local, global, number, Memory, put, with_frame, nothing_live}
use Rattle.source_meaning.specs.State.{State, Outcome}
use Rattle.source_meaning.specs.Values.{Value, frame_cells, numbers_of}
use Rattle.source_meaning.specs.Expressions.{Frame, Calls, sizes}
use Rattle.source_meaning.specs.Statements.{Code, Flow, goes_on, broke, continues, returned, statement}
use Rattle.source_meaning.specs.Functions.{no_function, function_or_none, body_or_none, result_value, answered, host_call, opened, brace_of, at_brace, returned_from, frame_in, entered, function_call, calls_within}
use Rattle.source_meaning.specs.WholeRun.{with_globals}
use Rattle.source_soundness.specs.Worlds.{World, AreNumbers, CellsFit, Fits, ValueFits}
use Rattle.source_soundness.specs.Laws.{Keeps, ArgumentsFit, CallsFit, FlowFits, CodeFits, IsWorldOf, main_world, CallsKeepTypes, ProgramsBeginFitting}
use Rattle.source_soundness.proofs.Memories.{numbers_fit}
use Rattle.source_soundness.proofs.StatementSoundness.{turn_keeps, statement_keeps}
use Rattle.source_soundness.proofs.CallSoundness.{deeper, leads, entered_fits, left_fits}
use Rattle.source_soundness.proofs.ProgramFacts.{Facts, facts, fields_are_plain, globals_are_plain}

-- a part in one world, and then one that ends in another
keeps_across : {A B : Type 0} (w w' : World) (Q : A → Type 0) (R : B → Type 0) (o : Outcome A) (next : A → State → Outcome B) → Keeps w' Q o → ((a : A) (st : State) → Q a → Fits w' st.memory → Keeps w R (next a st)) → Keeps w R (o >>= next)
keeps_across w w' Q R (gives a st) next h k = k a st h.0 h.1
keeps_across w w' Q R (trapped trap s st) next h k = tt
keeps_across w w' Q R (spent st) next h k = tt

-- ---- hosts

result_value_fits : (w : World) (result : Option IntType) (r : Option ℤ) → ValueFits w (option_map Int result) (result_value r)
result_value_fits w None r = tt
result_value_fits w (Some t) None = tt
result_value_fits w (Some t) (Some n) = tt

host_keeps : (program : TypedTree) (w : World) (frame : Frame) (f : ℕ) (vs : List Value) (st : State) (result : Option IntType) → Fits w st.memory → Keeps w (ValueFits w (option_map Int result)) (host_call program frame f vs st)
host_keeps program w frame f vs st result m =
    turn_keeps w (ValueFits w (option_map Int result)) st.left st
    (λ st1. answered f (answer_of f (numbers_of vs) st1) (noted (guarded_event frame.privileged (function_or_none program f).signature f (numbers_of vs)) st1)) m
    (λ st1 m1. (result_value_fits w result (answer_of f (numbers_of vs) st1).result, m1))

-- ---- functions

-- the code of a function, and what its call comes to, by its entry
abbrev pub code_of : TypedTree → FunctionTree → Frame → Calls → Code
code_of program g frame calls = record {
  context = record {
    structs = program.structs;
    globals = map (λ x. x.var.ty) program.globals;
    variables = map (λ x. x.ty) g.vars;
    frame = frame;
    calls = calls;
  };
  exprs = program.exprs;
}

abbrev pub entered_as : TypedTree → Calls → Frame → FunctionTree → List Value → State → Outcome Value
entered_as program calls frame g vs st =
    let code = code_of program g (frame_in frame g.signature) calls in
    statement (body_or_none g.body) code (opened code vs st) >>= returned_from g.signature.result (brace_of (body_or_none g.body)) (frame.depth + 1)

result_same : (w w' : World) (result : Option IntType) (x : Value) → ValueFits w' (option_map Int result) x → ValueFits w (option_map Int result) x
result_same w w' None x h = tt
result_same w w' (Some t) x h = h

left_keeps : (w : World) (types : List VarTy) (result : Option IntType) (s : Span) (depth : ℕ) (flow : Flow) (st : State) → depth ≡ suc w.depth → FlowFits (deeper w types) result flow → Fits (deeper w types) st.memory → Keeps w (ValueFits w (option_map Int result)) (returned_from result s depth flow st)
left_keeps w types result s depth flow st e q m = subst (λ d. Keeps w (ValueFits w (option_map Int result)) (returned_from result s d flow st)) (sym e) (go result flow q)
  where
    brace : (o : Option IntType) → Keeps w (ValueFits w (option_map Int o)) (at_brace o s (suc w.depth) st)
    brace None = (tt, left_fits w st.memory types m)
    brace (Some t) = tt

    go : (o : Option IntType) (flow : Flow) → FlowFits (deeper w types) o flow → Keeps w (ValueFits w (option_map Int o)) (returned_from o s (suc w.depth) flow st)
    go o goes_on q = brace o
    go o broke q = brace o
    go o continues q = brace o
    go o (returned x) q = (result_same w (deeper w types) o x q, left_fits w st.memory types m)

-- what is kept of a function that has a body
pub record Bodied (program : TypedTree) (g : FunctionTree) : Type 0 where
  pub body : BodyTree
  pub is : g.body ≡ Some body
  pub sound : is_sound (scope_in program g) false false body ≡ true

pub bodied : (program : TypedTree) (g : FunctionTree) → function_sound program g ≡ true → g.signature.host ≡ false → Bodied program g
bodied program g h no_host = go g.body refl (both_hold_second (list_all (variable_sound program.structs) g.vars) (body_sound program g g.body) (both_hold_second (nat_le (length g.signature.params) 8 && params_lead g.signature.params g.vars) (list_all (variable_sound program.structs) g.vars && body_sound program g g.body) h))
  where
    go : (o : Option BodyTree) → g.body ≡ o → body_sound program g o ≡ true → Bodied program g
    go None e h = false_not_true (sym no_host ∙ both_hold_first g.signature.host (list_all is_integer_param g.signature.params && nat_eq (length g.vars) (length g.signature.params)) h)
    go (Some body) e h = record { body = body; is = e; sound = both_hold_second (is_block body) (is_sound (scope_in program g) false false body) (both_hold_second (not g.signature.host) (is_block body && is_sound (scope_in program g) false false body) h) }

abbrev pub types_of : FunctionTree → List VarTy
types_of g = map (λ x. x.ty) g.vars

pub deeper_is : (w : World) (frame : Frame) → frame.depth ≡ w.depth → frame.depth + 1 ≡ suc w.depth
deeper_is w frame at = ap (λ d. d + 1) at ∙ omega arith

-- the code of a function fits the world one deeper
pub code_fits : (program : TypedTree) (w : World) (frame : Frame) (g : FunctionTree) (calls : Calls) → Facts program → IsWorldOf program w → frame.depth ≡ w.depth →
    CallsFit (deeper w (types_of g)) (names_in program g) (frame_in frame g.signature) calls → CodeFits (deeper w (types_of g)) (scope_in program g) (code_of program g (frame_in frame g.signature) calls)
code_fits program w frame g calls k world at calls_fit = record {
  context = record {
    structs = refl;
    plain = fields_are_plain program.structs k.structs;
    plain_globals = λ j ty is. globals_are_plain program.structs program.globals j ty k.globals is;
    globals = refl;
    variables = refl;
    known = world;
    own = own_is (nat_eq (suc w.depth) (suc w.depth)) (grind (arith, nat_tests));
    at_depth = deeper_is w frame at;
    active = omega arith;
    calls = calls_fit;
  };
  exprs = refl;
}
  where
    own_is : (b : Bool) → b ≡ true → (if b then types_of g else w.frames (suc w.depth)) ≡ types_of g
    own_is true e = refl
    own_is false e = cc

pub body_is : (o : Option BodyTree) (body : BodyTree) → o ≡ Some body → body_or_none o ≡ body
body_is o body h = ap body_or_none h

entered_keeps : (program : TypedTree) (w : World) (frame : Frame) (g : FunctionTree) (calls : Calls) (vs : List Value) (st : State) → Facts program → IsWorldOf program w → frame.depth ≡ w.depth → function_sound program g ≡ true → g.signature.host ≡ false →
    CallsFit (deeper w (types_of g)) (names_in program g) (frame_in frame g.signature) calls → ArgumentsFit w g.signature.params vs → Fits w st.memory → Keeps w (ValueFits w (option_map Int g.signature.result)) (entered_as program calls frame g vs st)
entered_keeps program w frame g calls vs st k world at sound no_host calls_fit args m =
    let has = bodied program g sound no_host in
    let lead = both_hold_second (nat_le (length g.signature.params) 8) (params_lead g.signature.params g.vars) (both_hold_first (nat_le (length g.signature.params) 8 && params_lead g.signature.params g.vars) (list_all (variable_sound program.structs) g.vars && body_sound program g g.body) sound) in
    let depth_is = deeper_is w frame at in
    let begins = entered_fits w st.memory (sizes (code_of program g (frame_in frame g.signature) calls).context) (types_of g) g.signature.params vs (leads g.signature.params g.vars lead) args m in
    keeps_across w (deeper w (types_of g)) (FlowFits (deeper w (types_of g)) g.signature.result) (ValueFits w (option_map Int g.signature.result))
    (statement (body_or_none g.body) (code_of program g (frame_in frame g.signature) calls) (opened (code_of program g (frame_in frame g.signature) calls) vs st)) (returned_from g.signature.result (brace_of (body_or_none g.body)) (frame.depth + 1))
    (subst (λ z. Keeps (deeper w (types_of g)) (FlowFits (deeper w (types_of g)) g.signature.result) (statement z (code_of program g (frame_in frame g.signature) calls) (opened (code_of program g (frame_in frame g.signature) calls) vs st))) (sym (body_is g.body has.body has.is))
    (statement_keeps has.body (deeper w (types_of g)) (scope_in program g) (code_of program g (frame_in frame g.signature) calls) false false (opened (code_of program g (frame_in frame g.signature) calls) vs st)
    (code_fits program w frame g calls k world at calls_fit) has.sound
    (subst (λ d. Fits (deeper w (types_of g)) (with_frame st.memory d (frame_cells (sizes (code_of program g (frame_in frame g.signature) calls).context) (types_of g) vs))) (sym depth_is) begins)))
    (λ flow st1 q m1. left_keeps w (types_of g) g.signature.result (brace_of (body_or_none g.body)) (frame.depth + 1) flow st1 depth_is q m1)

-- ---- calls

pub function_is : (program : TypedTree) (f : ℕ) (o : Option FunctionTree) → slice_get program.functions f ≡ o → function_or_none program f ≡ unwrap_or o no_function
function_is program f o h = ap (λ z. unwrap_or z no_function) h

-- the function whose signature a number names
pub record Named (program : TypedTree) (f : ℕ) (signature : Signature) : Type 0 where
  pub entry : FunctionTree
  pub is : slice_get program.functions f ≡ Some entry
  pub has : entry.signature ≡ signature

pub named : (program : TypedTree) (f : ℕ) (signature : Signature) → slice_get (signatures_of program) f ≡ Some signature → Named program f signature
named program f signature h = go (slice_get program.functions f) refl (sym (get_map (λ (g : FunctionTree). g.signature) program.functions f) ∙ h)
  where
    go : (o : Option FunctionTree) → slice_get program.functions f ≡ o → option_map (λ (g : FunctionTree). g.signature) o ≡ Some signature → Named program f signature
    go None e h = cc
    go (Some g) e h = record { entry = g; is = e; has = same h }
      where
        same : Some g.signature ≡ Some signature → g.signature ≡ signature
        same h = cc

-- calls of a function, with what calls do one deeper
function_keeps : (program : TypedTree) (w : World) (frame : Frame) (f : ℕ) (calls : Calls) (vs : List Value) (st : State) (g : FunctionTree) → Facts program → IsWorldOf program w → frame.depth ≡ w.depth → slice_get program.functions f ≡ Some g → g.signature.host ≡ false →
    CallsFit (deeper w (types_of g)) (names_in program g) (frame_in frame g.signature) calls → ArgumentsFit w g.signature.params vs → Fits w st.memory → Keeps w (ValueFits w (option_map Int g.signature.result)) (function_call program calls frame f vs st)
function_keeps program w frame f calls vs st g k world at is no_host calls_fit args m =
    turn_keeps w (ValueFits w (option_map Int g.signature.result)) st.left st (λ st1. entered program calls frame f vs (noted (guarded_event frame.privileged (function_or_none program f).signature f (numbers_of vs)) st1)) m
    (λ st1 m1. subst (λ z. Keeps w (ValueFits w (option_map Int g.signature.result)) (entered_as program calls frame z vs (noted (guarded_event frame.privileged (function_or_none program f).signature f (numbers_of vs)) st1))) (sym (function_is program f (Some g) is))
    (entered_keeps program w frame g calls vs (noted (guarded_event frame.privileged (function_or_none program f).signature f (numbers_of vs)) st1) k world at (all_true_at (function_sound program) program.functions f g k.functions is) no_host calls_fit args m1))

-- a host's call is made, and any other entered
by_host : (program : TypedTree) (w : World) (frame : Frame) (f : ℕ) (vs : List Value) (st : State) (g : FunctionTree) (signature : Signature) (deep : ℕ) (s : Span) → slice_get program.functions f ≡ Some g → g.signature ≡ signature → Fits w st.memory →
    (g.signature.host ≡ false → Keeps w (ValueFits w (option_map Int g.signature.result)) (function_call program (calls_within program deep) frame f vs st)) →
    Keeps w (ValueFits w (option_map Int signature.result)) (calls_within program (suc deep) frame s f vs st)
by_host program w frame f vs st g signature deep s is has m called =
    subst (λ z. Keeps w (ValueFits w (option_map Int z.result)) (calls_within program (suc deep) frame s f vs st)) has
    (subst (λ z. Keeps w (ValueFits w (option_map Int g.signature.result)) (if z.signature.host then host_call program frame f vs st else function_call program (calls_within program deep) frame f vs st)) (sym (function_is program f (Some g) is))
    (go g.signature.host refl))
  where
    go : (b : Bool) → g.signature.host ≡ b → Keeps w (ValueFits w (option_map Int g.signature.result)) (if b then host_call program frame f vs st else function_call program (calls_within program deep) frame f vs st)
    go true e = host_keeps program w frame f vs st g.signature.result m
    go false e = called e

pub calls_keep : (deep : ℕ) (program : TypedTree) (n : Names) (w : World) (frame : Frame) → Facts program → IsWorldOf program w → frame.depth ≡ w.depth → n.signatures ≡ signatures_of program → CallsFit w n frame (calls_within program deep)
calls_keep zero program n w frame k world at sigs s f vs st signature is args m =
    let there = named program f signature (sym (ap (λ xs. slice_get xs f) sigs) ∙ is) in
    go (function_or_none program f).signature.host
  where
    go : (b : Bool) → Keeps w (ValueFits w (option_map Int signature.result)) (if b then host_call program frame f vs st else trapped trap.Depth s st)
    go true = host_keeps program w frame f vs st signature.result m
    go false = tt
calls_keep (suc deep) program n w frame k world at sigs s f vs st signature is args m =
    let there = named program f signature (sym (ap (λ xs. slice_get xs f) sigs) ∙ is) in
    by_host program w frame f vs st there.entry signature deep s there.is there.has m
    (λ no_host. function_keeps program w frame f (calls_within program deep) vs st there.entry k world at there.is no_host
    (calls_keep deep program (names_in program there.entry) (deeper w (types_of there.entry)) (frame_in frame there.entry.signature) k world (deeper_is w frame at) refl)
    (subst (λ z. ArgumentsFit w z.params vs) (sym there.has) args) m)

-- ---- where a program begins

global_cells : (cells : List ℤ) → AreNumbers (map number cells)
global_cells [] = tt
global_cells (x ∷ xs) = (tt, global_cells xs)

-- all globals hold numbers
abbrev GlobalsHoldNumbers : Memory → Type 0
GlobalsHoldNumbers m = (g : ℕ) → AreNumbers (m (global g))

pub with_globals_holds : (globals : List TypedGlobal) (m : Memory) (k : ℕ) → GlobalsHoldNumbers m → GlobalsHoldNumbers (with_globals m k globals)
with_globals_holds [] m k h = h
with_globals_holds (x ∷ xs) m k h = with_globals_holds xs (put m (global k) (map number x.cells)) (k + 1) (λ g. go g (nat_eq g k))
  where
    go : (g : ℕ) (b : Bool) → AreNumbers (if b then map number x.cells else m (global g))
    go g true = global_cells x.cells
    go g false = h g

-- the world of the globals alone
abbrev pub outer_world : TypedTree → World
outer_world program = record { globals = map (λ x. x.var.ty) program.globals; frames = λ d. []; depth = 0 }

pub outer_fits : (program : TypedTree) (m : Memory) → Facts program → GlobalsHoldNumbers m → Fits (outer_world program) m
outer_fits program m k h (global g) ty is = numbers_fit (outer_world program) 0 ty (m (global g)) (globals_are_plain program.structs program.globals g ty k.globals is) (h g)
outer_fits program m k h (local d x) ty is = none_live (nat_le 1 d) (nat_le d 0) is
  where
    none_live : (a b : Bool) → (if a && b then None else None) ≡ Some ty → CellsFit (outer_world program) d ty (m (local d x))
    none_live true true h = cc
    none_live true false h = cc
    none_live false b h = cc

begun_fits : (program : TypedTree) (g : FunctionTree) → Facts program → g.signature.params ≡ [] → Fits (main_world program g) (with_frame (with_globals nothing_live 0 program.globals) 1 (frame_cells (sizes_of program.structs) (types_of g) []))
begun_fits program g k no_params =
    entered_fits (outer_world program) (with_globals nothing_live 0 program.globals) (sizes_of program.structs) (types_of g) [] [] tt tt (outer_fits program (with_globals nothing_live 0 program.globals) k (with_globals_holds program.globals nothing_live 0 (λ j. tt)))

pub programs_begin : ProgramsBeginFitting
programs_begin program f hosts input turns g h is no_params =
    subst (λ (z : FunctionTree). Fits (main_world program g) (with_frame (with_globals nothing_live 0 program.globals) 1 (frame_cells (sizes_of program.structs) (types_of z) []))) (sym (function_is program f.0 (Some g) is)) (begun_fits program g (facts program h) no_params)

pub calls_keep_types : CallsKeepTypes
calls_keep_types program n w frame deep h world at sigs = calls_keep deep program n w frame (facts program h) world at sigs
