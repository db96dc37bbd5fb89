-- Calls keep sizes, in a world one deeper and back, and programs begin sized.
use Rattle.std.proofs.Common.{◌≡◌, ◌∙◌, ◌≤◌, ◌<◌, ℕ, zero, suc, ◌+◌, pos, ℤ, refl, ap, sym, subst, arith, Bool, true, false, Option, Some, None, List, [], ◌∷◌, length, if◌then◌else◌, map, nat_eq, nat_le}
use Rattle.std.specs.Prelude.{◌&&◌, slice_get, slice_index_or, get_or, length, is_none}
use Rattle.std.specs.List.{list_all}
use Rattle.std.proofs.lemmas.List.{length-map}
use Rattle.std.proofs.lemmas.Bool.Decides.{nat_tests}
use Rattle.pt_base.specs.declared.int_type.IntType.{IntType}
use Rattle.pt_base.specs.declared.span.Span.{Span}
use Rattle.pt_base.specs.declared.trap.Trap.TheVariants as trap
use Rattle.pt_int.specs.Conversion.{is_in_range}
use Rattle.pt_tree.specs.declared.signature.Elem.{Elem}
use Rattle.pt_tree.specs.declared.signature.Param.{Param}
use Rattle.pt_tree.specs.declared.signature.ParamKind.{ParamKind}
use Rattle.pt_tree.specs.declared.signature.ParamKind.TheVariants as k
use Rattle.pt_tree.specs.declared.signature.Signature.{Signature}
use Rattle.runs.specs.State.{gives, trapped, spent, ◌>>=◌, take_turn, noted, guarded_event, answer_of}
use Rattle.typed_tree.specs.declared.types.VarTy.{VarTy}
use Rattle.typed_tree.specs.declared.types.VarTy.TheVariants.{Pointer}
use Rattle.typed_tree.specs.declared.types.StructInfo.{StructInfo}
use Rattle.typed_tree.specs.declared.variable.TypedGlobal.{TypedGlobal}
use Rattle.typed_tree.specs.Cells.{leaves_of}
use Rattle.typed_tree.specs.Sizes.{cells_by, sizes_of}
use Rattle.typed_tree.specs.TypedTree.{TypedTree, FunctionTree, signatures_of}
use Rattle.typed_tree.specs.WellFormed.{params_lead, variable_sound, is_plain_type, is_small, cells_fit, global_sound, names_in, scope_in, body_sound, function_sound}
use Rattle.typed_tree.specs.WellFormedExpression.{Names, param_type}
use Rattle.source_meaning.specs.Memory.{Block, local, global, Cell, number, null, pointer, Memory, put, read, with_frame, nothing_live}
use Rattle.source_meaning.specs.State.{State, Outcome}
use Rattle.source_meaning.specs.Values.{Value, cell_of, frame_cells, numbers_of}
use Rattle.source_meaning.specs.Expressions.{Frame, Calls}
use Rattle.source_meaning.specs.Statements.{Flow, goes_on, broke, continues, returned, statement}
use Rattle.source_meaning.specs.Functions.{function_or_none, body_or_none, host_call, answered, opened, brace_of, at_brace, returned_from, frame_in, entered, function_call, calls_within, without_locals}
use Rattle.source_meaning.specs.WholeRun.{with_globals}
use Rattle.source_meaning.proofs.SizeLemmas.{sizes}
use Rattle.source_soundness.specs.Worlds.{World, type_in, depth_of, IsScoped, Fits, ValueFits}
use Rattle.source_soundness.specs.Laws.{ArgumentsFit, CallsFit, IsWorldOf, main_world}
use Rattle.source_soundness.specs.Sizes.{object_cells, PointsWithin, Sized, KeepsSizes, ValueSized, ArgumentsSized, CallsKeepSizes, DeepCallsKeepSizes, ProgramsBeginSized}
use Rattle.source_soundness.proofs.Memories.{type_is}
use Rattle.source_soundness.proofs.Operators.{scoped_of_pointer}
use Rattle.source_soundness.proofs.CallSoundness.{deeper, still_live, newly_live, live_depth, Leads, leads, entered_fits}
use Rattle.source_soundness.proofs.ProgramFacts.{Facts, facts, globals_are_plain}
use Rattle.source_soundness.proofs.Programs.{code_of, entered_as, types_of, bodied, deeper_is, code_fits, body_is, function_is, named, calls_keep, outer_world, outer_fits, with_globals_holds}
use Rattle.source_soundness.proofs.Layouts.{plain_cells}
use Rattle.source_soundness.proofs.SizedObjects.{within_of_pointer}
use Rattle.source_soundness.proofs.StatementSizes.{Good, Steady, cleared_length, cleared_points, statement_good}
use Rattle.pt_base.proofs.Booleans.{both_hold_first as left, both_hold_second, false_not_true}
use Rattle.pt_base.proofs.Members.{all_true_at}
use Rattle.pt_base.proofs.Numbers.{nat_eq_same}

-- ---- worlds one deeper

points_deeper : (w : World) (types : List VarTy) (ss : List ℕ) (elem : Elem) (d : ℕ) (c : Cell) → d ≤ w.depth → IsScoped w d c → PointsWithin w ss elem c → PointsWithin (deeper w types) ss elem c
points_deeper w types ss elem d (number v) le s h = tt
points_deeper w types ss elem d null le s h = tt
points_deeper w types ss elem d (pointer block base count index) le s h = let low = s.3 in λ ty is. h ty (sym (still_live w types block (omega (arith, low, le))) ∙ is)

points_back : (w : World) (types : List VarTy) (ss : List ℕ) (elem : Elem) (c : Cell) → PointsWithin (deeper w types) ss elem c → PointsWithin w ss elem c
points_back w types ss elem (number v) h = tt
points_back w types ss elem null h = tt
points_back w types ss elem (pointer block base count index) h = λ ty is. h ty (still_live w types block (live_depth w block ty is) ∙ is)

-- what a pointer variable holds
held_scoped : (w : World) (m : Memory) (b : Block) (elem : Elem) (fixed : Bool) → Fits w m → type_in w b ≡ Some (Pointer elem fixed) → IsScoped w (depth_of b) (read m b 0)
held_scoped w m b elem fixed h is = let held = h b (Pointer elem fixed) is in subst (λ x. IsScoped w (depth_of b) x) (sym (ap (λ xs. slice_index_or xs 0 (number (pos 0))) held.1)) held.2

held_deeper : (w : World) (types : List VarTy) (ss : List ℕ) (m : Memory) (b : Block) (elem : Elem) (fixed : Bool) → Fits w m → Sized w ss m → type_in w b ≡ Some (Pointer elem fixed) → PointsWithin (deeper w types) ss elem (read m b 0)
held_deeper w types ss m b elem fixed h z is = points_deeper w types ss elem (depth_of b) (read m b 0) (live_depth w b (Pointer elem fixed) is) (held_scoped w m b elem fixed h is) (z.pointers b elem fixed is)

-- ---- a frame with its variables

param_size : (ss : List ℕ) (kind : ParamKind) (c : Cell) → length (c ∷ []) ≡ object_cells ss (param_type kind)
param_size ss (k.Int t) c = refl
param_size ss (k.Ptr elem fixed) c = refl

frame_length : (ss : List ℕ) (w : World) (types : List VarTy) (ps : List Param) (vs : List Value) (x : ℕ) (ty : VarTy) → Leads ps types → ArgumentsFit w ps vs → slice_get types x ≡ Some ty → length (get_or (frame_cells ss types vs) x []) ≡ object_cells ss ty
frame_length ss w [] ps vs x ty lead args is = cc
frame_length ss w (t ∷ types) [] [] zero ty lead args is = cleared_length ss t ∙ ap (object_cells ss) (type_is t ty is)
frame_length ss w (t ∷ types) [] [] (suc x) ty lead args is = frame_length ss w types [] [] x ty tt tt is
frame_length ss w (t ∷ types) [] (v ∷ vs) x ty lead args is = absurd args
frame_length ss w (t ∷ types) (p ∷ ps) [] x ty lead args is = absurd args
frame_length ss w (t ∷ types) (p ∷ ps) (v ∷ vs) zero ty lead args is = param_size ss p.kind (cell_of v) ∙ ap (object_cells ss) (lead.0 ∙ type_is t ty is)
frame_length ss w (t ∷ types) (p ∷ ps) (v ∷ vs) (suc x) ty lead args is = frame_length ss w types ps vs x ty lead.1 args.1 is

argument_points : (w : World) (all : List VarTy) (ss : List ℕ) (kind : ParamKind) (v : Value) (elem : Elem) (fixed : Bool) → param_type kind ≡ Pointer elem fixed → ValueFits w (Some (param_type kind)) v → ValueSized w ss (Some (param_type kind)) v → PointsWithin (deeper w all) ss elem (cell_of v)
argument_points w all ss (k.Int t) v elem fixed is fit size = cc
argument_points w all ss (k.Ptr a g) v elem fixed is fit size =
    subst (λ x. PointsWithin (deeper w all) ss x (cell_of v)) (same a g elem fixed is) (points_deeper w all ss a w.depth (cell_of v) (omega arith) (scoped_of_pointer w a g v fit) (within_of_pointer w ss a g v size))
  where
    same : (a : Elem) (g : Bool) (b : Elem) (h : Bool) → Pointer a g ≡ Pointer b h → a ≡ b
    same a g b h e = cc

frame_points : (w : World) (all : List VarTy) (ss : List ℕ) (types : List VarTy) (ps : List Param) (vs : List Value) (x : ℕ) (elem : Elem) (fixed : Bool) → Leads ps types → ArgumentsFit w ps vs → ArgumentsSized w ss ps vs → slice_get types x ≡ Some (Pointer elem fixed) →
    PointsWithin (deeper w all) ss elem (slice_index_or (get_or (frame_cells ss types vs) x []) 0 (number (pos 0)))
frame_points w all ss [] ps vs x elem fixed lead args size is = cc
frame_points w all ss (t ∷ types) [] [] zero elem fixed lead args size is = cleared_points (deeper w all) ss elem t
frame_points w all ss (t ∷ types) [] [] (suc x) elem fixed lead args size is = frame_points w all ss types [] [] x elem fixed tt tt tt is
frame_points w all ss (t ∷ types) [] (v ∷ vs) x elem fixed lead args size is = absurd args
frame_points w all ss (t ∷ types) (p ∷ ps) [] x elem fixed lead args size is = absurd args
frame_points w all ss (t ∷ types) (p ∷ ps) (v ∷ vs) zero elem fixed lead args size is = argument_points w all ss p.kind v elem fixed (lead.0 ∙ type_is t (Pointer elem fixed) is) args.0 size.0
frame_points w all ss (t ∷ types) (p ∷ ps) (v ∷ vs) (suc x) elem fixed lead args size is = frame_points w all ss types ps vs x elem fixed lead.1 args.1 size.1 is

below : (d n : ℕ) → d ≤ suc n → nat_eq d (suc n) ≡ false → d ≤ n
below d n le e = grind (arith, nat_tests)

-- a function is entered
pub entered_sized : (w : World) (m : Memory) (ss : List ℕ) (types : List VarTy) (ps : List Param) (vs : List Value) → Leads ps types → ArgumentsFit w ps vs → ArgumentsSized w ss ps vs → Fits w m → Sized w ss m → Sized (deeper w types) ss (with_frame m (suc w.depth) (frame_cells ss types vs))
entered_sized w m ss types ps vs lead args size h z = record { cells = cells_at; pointers = points_at }
  where
    own : (d x : ℕ) (ty : VarTy) → type_in (deeper w types) (local d x) ≡ Some ty → d ≡ suc w.depth → slice_get types x ≡ Some ty
    own d x ty is e = sym (newly_live w types x) ∙ sym (ap (λ y. type_in (deeper w types) (local y x)) e) ∙ is

    old : (d x : ℕ) (ty : VarTy) → type_in (deeper w types) (local d x) ≡ Some ty → nat_eq d (suc w.depth) ≡ false → type_in w (local d x) ≡ Some ty
    old d x ty is e = sym (still_live w types (local d x) (below d w.depth (live_depth (deeper w types) (local d x) ty is) e)) ∙ is

    cells_at : (b : Block) (ty : VarTy) → type_in (deeper w types) b ≡ Some ty → length (with_frame m (suc w.depth) (frame_cells ss types vs) b) ≡ object_cells ss ty
    cells_at (global g) ty is = z.cells (global g) ty is
    cells_at (local d x) ty is = go (nat_eq d (suc w.depth)) refl
      where
        go : (b : Bool) → nat_eq d (suc w.depth) ≡ b → length (if b then get_or (frame_cells ss types vs) x [] else m (local d x)) ≡ object_cells ss ty
        go true e = frame_length ss w types ps vs x ty lead args (own d x ty is (nat_eq_same d (suc w.depth) e))
        go false e = z.cells (local d x) ty (old d x ty is e)

    points_at : (b : Block) (elem : Elem) (fixed : Bool) → type_in (deeper w types) b ≡ Some (Pointer elem fixed) → PointsWithin (deeper w types) ss elem (read (with_frame m (suc w.depth) (frame_cells ss types vs)) b 0)
    points_at (global g) elem fixed is = held_deeper w types ss m (global g) elem fixed h z is
    points_at (local d x) elem fixed is = go (nat_eq d (suc w.depth)) refl
      where
        go : (b : Bool) → nat_eq d (suc w.depth) ≡ b → PointsWithin (deeper w types) ss elem (slice_index_or (if b then get_or (frame_cells ss types vs) x [] else m (local d x)) 0 (number (pos 0)))
        go true e = frame_points w types ss types ps vs x elem fixed lead args size (own d x (Pointer elem fixed) is (nat_eq_same d (suc w.depth) e))
        go false e = held_deeper w types ss m (local d x) elem fixed h z (old d x (Pointer elem fixed) is e)

-- a function is left
not_own : (w : World) (d x : ℕ) (ty : VarTy) → type_in w (local d x) ≡ Some ty → nat_eq d (suc w.depth) ≡ true → ⊥
not_own w d x ty is e = apart d w.depth (live_depth w (local d x) ty is) (nat_eq_same d (suc w.depth) e)
  where
    apart : (d n : ℕ) → d ≤ n → d ≡ suc n → ⊥
    apart d n le e = omega (arith, le, e)

pub left_sized : (w : World) (ss : List ℕ) (m : Memory) (types : List VarTy) → Sized (deeper w types) ss m → Sized w ss (without_locals m (suc w.depth))
left_sized w ss m types z = record { cells = cells_at; pointers = points_at }
  where
    cells_at : (b : Block) (ty : VarTy) → type_in w b ≡ Some ty → length (without_locals m (suc w.depth) b) ≡ object_cells ss ty
    cells_at (global g) ty is = z.cells (global g) ty is
    cells_at (local d x) ty is = go (nat_eq d (suc w.depth)) refl
      where
        go : (b : Bool) → nat_eq d (suc w.depth) ≡ b → length (if b then [] else m (local d x)) ≡ object_cells ss ty
        go true e = absurd (not_own w d x ty is e)
        go false e = z.cells (local d x) ty (still_live w types (local d x) (live_depth w (local d x) ty is) ∙ is)

    points_at : (b : Block) (elem : Elem) (fixed : Bool) → type_in w b ≡ Some (Pointer elem fixed) → PointsWithin w ss elem (read (without_locals m (suc w.depth)) b 0)
    points_at (global g) elem fixed is = points_back w types ss elem (read m (global g) 0) (z.pointers (global g) elem fixed is)
    points_at (local d x) elem fixed is = go (nat_eq d (suc w.depth)) refl
      where
        go : (b : Bool) → nat_eq d (suc w.depth) ≡ b → PointsWithin w ss elem (slice_index_or (if b then [] else m (local d x)) 0 (number (pos 0)))
        go true e = tt
        go false e = points_back w types ss elem (read m (local d x) 0) (z.pointers (local d x) elem fixed (still_live w types (local d x) (live_depth w (local d x) (Pointer elem fixed) is) ∙ is))

-- ---- parts of a run

-- what a call keeps
abbrev CallSizes : World → List ℕ → Outcome Value → Type 0
CallSizes w ss o = KeepsSizes w ss (λ v. Unit {0}) o

-- a part in one world, and then one that ends in another
sizes_across : {A : Type 0} (w w' : World) (ss : List ℕ) (o : Outcome A) (next : A → State → Outcome Value) → Steady w' ss o → ((a : A) (st : State) → Good w' ss st.memory → CallSizes w ss (next a st)) → CallSizes w ss (o >>= next)
sizes_across w w' ss (gives a st) next h k = k a st h
sizes_across w w' ss (trapped trap s st) next h k = tt
sizes_across w w' ss (spent st) next h k = tt

turn_sizes : (w : World) (ss : List ℕ) (left : ℕ) (st : State) (next : State → Outcome Value) → Good w ss st.memory → ((st1 : State) → Good w ss st1.memory → CallSizes w ss (next st1)) → CallSizes w ss (take_turn left st next)
turn_sizes w ss zero st next m k = tt
turn_sizes w ss (suc left) st next m k = k (record st { left = left }) m

host_sizes : (program : TypedTree) (w : World) (ss : List ℕ) (frame : Frame) (f : ℕ) (vs : List Value) (st : State) → Good w ss st.memory → CallSizes w ss (host_call program frame f vs st)
host_sizes program w ss frame f vs st m =
    turn_sizes w ss st.left st (λ st1. answered f (answer_of f (numbers_of vs) st1) (noted (guarded_event frame.privileged (function_or_none program f).signature f (numbers_of vs)) st1)) m
    (λ st1 m1. (tt, m1.1))

left_sizes : (w : World) (ss : List ℕ) (types : List VarTy) (result : Option IntType) (s : Span) (depth : ℕ) (flow : Flow) (st : State) → depth ≡ suc w.depth → Sized (deeper w types) ss st.memory → CallSizes w ss (returned_from result s depth flow st)
left_sizes w ss types result s depth flow st e z = subst (λ d. CallSizes w ss (returned_from result s d flow st)) (sym e) (go result flow)
  where
    brace : (o : Option IntType) → CallSizes w ss (at_brace o s (suc w.depth) st)
    brace None = (tt, left_sized w ss st.memory types z)
    brace (Some t) = tt

    go : (o : Option IntType) (flow : Flow) → CallSizes w ss (returned_from o s (suc w.depth) flow st)
    go o goes_on = brace o
    go o broke = brace o
    go o continues = brace o
    go o (returned x) = (tt, left_sized w ss st.memory types z)

-- ---- functions

entered_sizes : (program : TypedTree) (w : World) (frame : Frame) (g : FunctionTree) (calls : Calls) (vs : List Value) (st : State) → Facts program → IsWorldOf program w → frame.depth ≡ w.depth → function_sound program g ≡ true → g.signature.host ≡ false →
    CallsFit (deeper w (types_of g)) (names_in program g) (frame_in frame g.signature) calls → CallsKeepSizes (deeper w (types_of g)) (names_in program g) (sizes_of program.structs) (frame_in frame g.signature) calls →
    ArgumentsFit w g.signature.params vs → ArgumentsSized w (sizes_of program.structs) g.signature.params vs → Good w (sizes_of program.structs) st.memory → CallSizes w (sizes_of program.structs) (entered_as program calls frame g vs st)
entered_sizes program w frame g calls vs st facts world at sound no_host calls_fit calls_size args size m =
    let has = bodied program g sound no_host in
    let lead = leads g.signature.params g.vars (both_hold_second (nat_le (length g.signature.params) 8) (params_lead g.signature.params g.vars) (left (nat_le (length g.signature.params) 8 && params_lead g.signature.params g.vars) (list_all (variable_sound program.structs) g.vars && body_sound program g g.body) sound)) in
    let depth_is = deeper_is w frame at in
    let begins : Good (deeper w (types_of g)) (sizes_of program.structs) (with_frame st.memory (suc w.depth) (frame_cells (sizes_of program.structs) (types_of g) vs)) = (
      entered_fits w st.memory (sizes_of program.structs) (types_of g) g.signature.params vs lead args m.0,
      entered_sized w st.memory (sizes_of program.structs) (types_of g) g.signature.params vs lead args size m.0 m.1,
    ) in
    sizes_across w (deeper w (types_of g)) (sizes_of program.structs)
    (statement (body_or_none g.body) (code_of program g (frame_in frame g.signature) calls) (opened (code_of program g (frame_in frame g.signature) calls) vs st)) (returned_from g.signature.result (brace_of (body_or_none g.body)) (frame.depth + 1))
    (subst (λ y. Steady (deeper w (types_of g)) (sizes_of program.structs) (statement y (code_of program g (frame_in frame g.signature) calls) (opened (code_of program g (frame_in frame g.signature) calls) vs st))) (sym (body_is g.body has.body has.is))
    (statement_good has.body (deeper w (types_of g)) (scope_in program g) (code_of program g (frame_in frame g.signature) calls) false false (opened (code_of program g (frame_in frame g.signature) calls) vs st)
    (record { fits = code_fits program w frame g calls facts world at calls_fit; sound = facts.structs; calls = calls_size }) has.sound
    (subst (λ d. Good (deeper w (types_of g)) (sizes_of program.structs) (with_frame st.memory d (frame_cells (sizes_of program.structs) (types_of g) vs))) (sym depth_is) begins)))
    (λ flow st1 m1. left_sizes w (sizes_of program.structs) (types_of g) g.signature.result (brace_of (body_or_none g.body)) (frame.depth + 1) flow st1 depth_is m1.1)

function_sizes : (program : TypedTree) (w : World) (frame : Frame) (f : ℕ) (calls : Calls) (vs : List Value) (st : State) (g : FunctionTree) → Facts program → IsWorldOf program w → frame.depth ≡ w.depth → slice_get program.functions f ≡ Some g → g.signature.host ≡ false →
    CallsFit (deeper w (types_of g)) (names_in program g) (frame_in frame g.signature) calls → CallsKeepSizes (deeper w (types_of g)) (names_in program g) (sizes_of program.structs) (frame_in frame g.signature) calls →
    ArgumentsFit w g.signature.params vs → ArgumentsSized w (sizes_of program.structs) g.signature.params vs → Good w (sizes_of program.structs) st.memory → CallSizes w (sizes_of program.structs) (function_call program calls frame f vs st)
function_sizes program w frame f calls vs st g facts world at is no_host calls_fit calls_size args size m =
    turn_sizes w (sizes_of program.structs) st.left st (λ st1. entered program calls frame f vs (noted (guarded_event frame.privileged (function_or_none program f).signature f (numbers_of vs)) st1)) m
    (λ st1 m1. subst (λ y. CallSizes w (sizes_of program.structs) (entered_as program calls frame y vs (noted (guarded_event frame.privileged (function_or_none program f).signature f (numbers_of vs)) st1))) (sym (function_is program f (Some g) is))
    (entered_sizes program w frame g calls vs (noted (guarded_event frame.privileged (function_or_none program f).signature f (numbers_of vs)) st1) facts world at (all_true_at (function_sound program) program.functions f g facts.functions is) no_host calls_fit calls_size args size m1))

-- a host's call is made, and any other entered
by_host : (program : TypedTree) (w : World) (ss : List ℕ) (frame : Frame) (f : ℕ) (vs : List Value) (st : State) (g : FunctionTree) (deep : ℕ) (s : Span) → slice_get program.functions f ≡ Some g → Good w ss st.memory →
    (g.signature.host ≡ false → CallSizes w ss (function_call program (calls_within program deep) frame f vs st)) → CallSizes w ss (calls_within program (suc deep) frame s f vs st)
by_host program w ss frame f vs st g deep s is m called =
    subst (λ y. CallSizes w ss (if y.signature.host then host_call program frame f vs st else function_call program (calls_within program deep) frame f vs st)) (sym (function_is program f (Some g) is)) (go g.signature.host refl)
  where
    go : (b : Bool) → g.signature.host ≡ b → CallSizes w ss (if b then host_call program frame f vs st else function_call program (calls_within program deep) frame f vs st)
    go true e = host_sizes program w ss frame f vs st m
    go false e = called e

calls_sized : (deep : ℕ) (program : TypedTree) (n : Names) (w : World) (frame : Frame) → Facts program → IsWorldOf program w → frame.depth ≡ w.depth → n.signatures ≡ signatures_of program → CallsKeepSizes w n (sizes_of program.structs) frame (calls_within program deep)
calls_sized zero program n w frame facts world at sigs s f vs st signature is args size m z = go (function_or_none program f).signature.host
  where
    go : (b : Bool) → CallSizes w (sizes_of program.structs) (if b then host_call program frame f vs st else trapped trap.Depth s st)
    go true = host_sizes program w (sizes_of program.structs) frame f vs st (m, z)
    go false = tt
calls_sized (suc deep) program n w frame facts world at sigs s f vs st signature is args size m z =
    let there = named program f signature (sym (ap (λ xs. slice_get xs f) sigs) ∙ is) in
    by_host program w (sizes_of program.structs) frame f vs st there.entry deep s there.is (m, z)
    (λ no_host. function_sizes program w frame f (calls_within program deep) vs st there.entry facts world at there.is no_host
    (calls_keep deep program (names_in program there.entry) (deeper w (types_of there.entry)) (frame_in frame there.entry.signature) facts world (deeper_is w frame at) refl)
    (calls_sized deep program (names_in program there.entry) (deeper w (types_of there.entry)) (frame_in frame there.entry.signature) facts world (deeper_is w frame at) refl)
    (subst (λ (y : Signature). ArgumentsFit w y.params vs) (sym there.has) args) (subst (λ (y : Signature). ArgumentsSized w (sizes_of program.structs) y.params vs) (sym there.has) size) (m, z))

pub calls_keep_sizes : DeepCallsKeepSizes
calls_keep_sizes program n w frame deep h world at sigs = calls_sized deep program n w frame (facts program h) world at sigs

-- ---- where a program begins

cells_length : (ts : List IntType) (vs : List ℤ) → cells_fit ts vs ≡ true → length vs ≡ length ts
cells_length [] [] h = refl
cells_length [] (v ∷ vs) h = false_not_true h
cells_length (t ∷ ts) [] h = false_not_true h
cells_length (t ∷ ts) (v ∷ vs) h = ap suc (cells_length ts vs (both_hold_second (is_in_range t v) (cells_fit ts vs) h))

-- what lies below the globals that are laid out stays
earlier_stay : (xs : List TypedGlobal) (m : Memory) (k j : ℕ) → j < k → with_globals m k xs (global j) ≡ m (global j)
earlier_stay [] m k j h = refl
earlier_stay (x ∷ xs) m k j h = earlier_stay xs (put m (global k) (map number x.cells)) (k + 1) j (omega (arith, h)) ∙ go (nat_eq j k) (other j k h)
  where
    other : (j k : ℕ) → j < k → nat_eq j k ≡ false
    other j k h = grind (arith, nat_tests)

    go : (b : Bool) → b ≡ false → (if b then map number x.cells else m (global j)) ≡ m (global j)
    go false e = refl
    go true e = cc

laid_out : (xs : List TypedGlobal) (m : Memory) (k i j : ℕ) (x : TypedGlobal) → j ≡ k + i → slice_get xs i ≡ Some x → with_globals m k xs (global j) ≡ map number x.cells
laid_out [] m k i j x e is = cc
laid_out (y ∷ xs) m k zero j x e is = earlier_stay xs (put m (global k) (map number y.cells)) (k + 1) j (omega (arith, e)) ∙ go (nat_eq j k) (same_is j k (omega (arith, e))) ∙ ap (λ (z : TypedGlobal). map number z.cells) (same is)
  where
    same : Some y ≡ Some x → y ≡ x
    same h = cc

    same_is : (j k : ℕ) → j ≡ k → nat_eq j k ≡ true
    same_is j k e = grind (arith, nat_tests)

    go : (b : Bool) → b ≡ true → (if b then map number y.cells else m (global j)) ≡ map number y.cells
    go true e = refl
    go false e = cc
laid_out (y ∷ xs) m k (suc i) j x e is = laid_out xs (put m (global k) (map number y.cells)) (k + 1) i j x (omega (arith, e)) is

-- a global's cells are as many as its type has
global_size : (structs : List StructInfo) (x : TypedGlobal) → global_sound structs x ≡ true → length (map number x.cells) ≡ cells_by (sizes_of structs) x.var.ty
unfolding leaves_of
global_size structs x h =
    let fit = both_hold_second (is_none x.var.holds) (cells_fit (leaves_of structs x.var.ty) x.cells) (both_hold_second (is_plain_type (length structs) x.var.ty && is_small structs x.var.ty) (is_none x.var.holds && cells_fit (leaves_of structs x.var.ty) x.cells) h) in
    length-map x.cells number ∙ cells_length (leaves_of structs x.var.ty) x.cells fit ∙ sym (sizes structs x.var.ty)

entry_type : (xs : List TypedGlobal) (g : ℕ) (ty : VarTy) → slice_get (map (λ (x : TypedGlobal). x.var.ty) xs) g ≡ Some ty → (x : TypedGlobal) × (slice_get xs g ≡ Some x) × (x.var.ty ≡ ty)
entry_type [] g ty is = cc
entry_type (x ∷ xs) zero ty is = (x, refl, type_is x.var.ty ty is)
entry_type (x ∷ xs) (suc g) ty is = entry_type xs g ty is

outer_sized : (program : TypedTree) → Facts program → Sized (outer_world program) (sizes_of program.structs) (with_globals nothing_live 0 program.globals)
outer_sized program facts = record { cells = cells_at; pointers = points_at }
  where
    from_none : (g : ℕ) → g ≡ 0 + g
    from_none g = omega arith

    none_live : {X : Type 0} (ty : VarTy) (a b : Bool) → (if a && b then None else None) ≡ Some ty → X
    none_live ty true true h = cc
    none_live ty true false h = cc
    none_live ty false b h = cc

    cells_at : (b : Block) (ty : VarTy) → type_in (outer_world program) b ≡ Some ty → length (with_globals nothing_live 0 program.globals b) ≡ object_cells (sizes_of program.structs) ty
    cells_at (global g) ty is =
        let entry = entry_type program.globals g ty is in
        ap length (laid_out program.globals nothing_live 0 g g entry.0 (from_none g) entry.1) ∙ global_size program.structs entry.0 (all_true_at (global_sound program.structs) program.globals g entry.0 facts.globals entry.1)
        ∙ ap (cells_by (sizes_of program.structs)) entry.2 ∙ sym (plain_cells (sizes_of program.structs) ty (globals_are_plain program.structs program.globals g ty facts.globals is))
    cells_at (local d x) ty is = none_live ty (nat_le 1 d) (nat_le d 0) is

    points_at : (b : Block) (elem : Elem) (fixed : Bool) → type_in (outer_world program) b ≡ Some (Pointer elem fixed) → PointsWithin (outer_world program) (sizes_of program.structs) elem (read (with_globals nothing_live 0 program.globals) b 0)
    points_at (global g) elem fixed is = false_not_true (sym (globals_are_plain program.structs program.globals g (Pointer elem fixed) facts.globals is))
    points_at (local d x) elem fixed is = none_live (Pointer elem fixed) (nat_le 1 d) (nat_le d 0) is

begun_sized : (program : TypedTree) (g : FunctionTree) → Facts program → Sized (main_world program g) (sizes_of program.structs) (with_frame (with_globals nothing_live 0 program.globals) 1 (frame_cells (sizes_of program.structs) (types_of g) []))
begun_sized program g facts =
    entered_sized (outer_world program) (with_globals nothing_live 0 program.globals) (sizes_of program.structs) (types_of g) [] [] tt tt tt
    (outer_fits program (with_globals nothing_live 0 program.globals) facts (with_globals_holds program.globals nothing_live 0 (λ j. tt))) (outer_sized program facts)

pub programs_begin_sized : ProgramsBeginSized
programs_begin_sized program f hosts input turns g h is no_params =
    subst (λ (y : FunctionTree). Sized (main_world program g) (sizes_of program.structs) (with_frame (with_globals nothing_live 0 program.globals) 1 (frame_cells (sizes_of program.structs) (types_of y) []))) (sym (function_is program f.0 (Some g) is)) (begun_sized program g (facts program h))
