-- Calls of functions come to the same, however deep they may go.
use Rattle.std.proofs.Common.{◌≡◌, ◌∙◌, ◌≤◌, ◌<◌, ◌^◌, ◌⊎◌, ℕ, zero, suc, ◌+◌, pos, nat_eq, nat_lt, nat_le, refl, ap, sym, subst, inl, inr, arith, Bool, true, false, not, Option, Some, None, List, [], ◌∷◌, ◌++◌, map, length, if◌then◌else◌}
use Rattle.std.specs.Prelude.{IsTrue, ◌&&◌, ◌||◌, slice_get, sum_by, unwrap_or}
use Rattle.std.specs.List.{fold, list_all, list_any}
use Rattle.std.proofs.lemmas.Bool.Decides.{nat_tests}
use Rattle.pt_base.specs.declared.int_type.IntType.{IntType}
use Rattle.pt_base.specs.declared.span.Span.{Span}
use Rattle.pt_base.specs.declared.trap.Trap.TheVariants.{Depth, NoReturn}
use Rattle.pt_base.proofs.Booleans.{both_hold_first as left, both_hold_second}
use Rattle.pt_base.proofs.Lists.{append_nil}
use Rattle.pt_base.proofs.Numbers.{as_plus_one}
use Rattle.pt_tree.specs.declared.signature.Signature.{Signature}
use Rattle.runs.specs.State.{gives, trapped, spent, ◌>>=◌, take_turn, noted, guarded_event}
use Rattle.typed_tree.specs.declared.types.VarTy.{VarTy}
use Rattle.typed_tree.specs.declared.types.StructInfo.{StructInfo}
use Rattle.typed_tree.specs.declared.variable.Var.{Var}
use Rattle.typed_tree.specs.StatementTree.{BodyTree}
use Rattle.typed_tree.specs.TypedTree.{TypedTree, FunctionTree, signatures_of}
use Rattle.typed_tree.specs.Sizes.{sizes_of}
use Rattle.typed_tree.specs.Nodes.{nodes_of, function_nodes, option_nodes, body_nodes, expr_nodes}
use Rattle.typed_tree.specs.WellFormed.{is_well_formed, function_sound, params_lead, variable_sound, body_sound, names_in, scope_in, structs_sound, global_sound, globals_small, names_sound, name_of, is_start, numbers_sound}
use Rattle.typed_tree.specs.WellFormedExpression.{is_main}
use Rattle.typed_tree.specs.WellFormedStatement.{is_sound}
use Rattle.block_memory.specs.declared.cell.Cell as core
use Rattle.block_memory.specs.declared.cell.BlockName.TheVariants.{Local}
use Rattle.block_memory.specs.Block as b
use Rattle.block_memory.specs.Blocks as bs
use Rattle.block_memory.specs.Blocks.{Blocks, without_frames}
use Rattle.source_meaning.specs.Memory.{with_frame}
use Rattle.source_meaning.specs.State.{State, Outcome}
use Rattle.source_meaning.specs.Values as v
use Rattle.source_meaning.specs.Values.{Value, frame_cells, numbers_of}
use Rattle.source_meaning.specs.Expressions.{Frame, Calls}
use Rattle.source_meaning.specs.Statements as m
use Rattle.source_meaning.specs.Statements.{statement}
use Rattle.source_meaning.specs.Functions as f
use Rattle.source_meaning.specs.Functions.{function_or_none, body_or_none, opened, brace_of, frame_in, without_locals}
use Rattle.source_soundness.specs.Worlds.{World, Fits}
use Rattle.source_soundness.specs.Sizes.{Sized, ArgumentsSized}
use Rattle.source_soundness.specs.Laws.{ContextFits, ArgumentsFit}
use Rattle.source_soundness.proofs.CallSoundness.{deeper, Leads, leads, entered_fits, left_fits}
use Rattle.source_soundness.proofs.CallSizes.{entered_sized, left_sized, calls_keep_sizes}
use Rattle.source_soundness.proofs.ProgramFacts.{Facts, facts}
use Rattle.source_soundness.proofs.Programs.{code_of, entered_as, types_of, bodied, deeper_is, code_fits, body_is, function_is, named, calls_keep}
use Rattle.pt_core.specs.CodeTree as t
use Rattle.pt_core.specs.CodeTree.{StmtTree, stmt_trees, ProgramTree}
use Rattle.pt_core.specs.Types.{shape_of}
use Rattle.pt_core.specs.Values.{number_in}
use Rattle.pt_core.specs.Statements as c
use Rattle.pt_core.specs.Statements.{with_blocks, do_all}
use Rattle.pt_core.specs.Calls as cc_
use Rattle.pt_core.specs.Calls.{signature_in, function_in, with_arguments}
use Rattle.lowering.specs.Lowered.{Temp}
use Rattle.lowering.specs.Functions.{lowered_body, core_of, core_program, main_end}
use Rattle.c_lower_law.proofs.Relations.{Scene, world_of, context_of, frame_of, sizes_in, SameObjects, HasRoom, Kept, Alike, Same, After, all}
use Rattle.c_lower_law.proofs.Expressions.{run_all, SameResult, SameCells, CallsAlike, SceneFits, Gives}
use Rattle.c_lower_law.proofs.Statements.{but_flag, GivesFlow, SameFlow, StatementsAgree, scene_in}
use Rattle.lowering.specs.Statements.{nowhere}
use Rattle.c_lower_law.proofs.CorePrograms.{signature_is, global_is, function_found, all_types, own_types, has_temps, no_end}
use Rattle.c_lower_law.proofs.Entering.{AreScalar, argument_cells, entering, entering_apart, entering_room, entering_objects, leaving_apart, leaving_objects}
use Rattle.c_lower_law.proofs.Flows.{alike_left}
use Rattle.c_lower_law.proofs.HostCalls.{turn_same, noted_alike, numbers_same, host_as, core_host_as, host_alike}

-- ---- the scene of a called function

abbrev pub temps_of : TypedTree → FunctionTree → BodyTree → List Temp
temps_of program g body = (lowered_body program g body).temps

-- the temporaries of a program have one cell each
abbrev pub Scalars : TypedTree → Type 0
Scalars program = (n : ℕ) (g : FunctionTree) (body : BodyTree) → slice_get program.functions n ≡ Some g → g.body ≡ Some body → AreScalar (temps_of program g body)

abbrev pub inner_frames : (ℕ → List VarTy) → ℕ → List VarTy → ℕ → List VarTy
inner_frames frames depth types d = if nat_eq d (suc depth) then types else frames d

abbrev pub inner : TypedTree → FunctionTree → BodyTree → (ℕ → List VarTy) → Frame → ℕ → Scene
inner program g body frames frame deep = scene_in program g.vars (inner_frames frames frame.depth (types_of g)) (frame_in frame g.signature) (all_types g.vars (temps_of program g body)) deep

-- the world of the caller
abbrev pub caller : TypedTree → (ℕ → List VarTy) → Frame → World
caller program frames frame = record { globals = map (λ g. g.var.ty) program.globals; frames = frames; depth = frame.depth }

same_world : (program : TypedTree) (g : FunctionTree) (body : BodyTree) (frames : ℕ → List VarTy) (frame : Frame) (deep : ℕ) → deeper (caller program frames frame) (types_of g) ≡ world_of (inner program g body frames frame deep)
same_world program g body frames frame deep = ap (λ d. record { globals = map (λ y. y.var.ty) program.globals; frames = inner_frames frames frame.depth (types_of g); depth = d }) (as_plus_one frame.depth)

pub inner_fits : (program : TypedTree) (g : FunctionTree) (body : BodyTree) (frames : ℕ → List VarTy) (frame : Frame) (deep : ℕ) → IsTrue (is_well_formed program) → CallsAlike (inner program g body frames frame deep) → SceneFits (inner program g body frames frame deep)
inner_fits program g body frames frame deep h calls =
    let w = caller program frames frame in
    let k = facts program h in
    record {
      fits = subst (λ z. ContextFits z (names_in program g) (context_of (inner program g body frames frame deep))) (same_world program g body frames frame deep)
          (code_fits program w frame g (f.calls_within program deep) k refl refl (calls_keep deep program (names_in program g) (deeper w (types_of g)) (frame_in frame g.signature) k refl (deeper_is w frame refl) refl)).context;
      structs = k.structs;
      sized = calls_keep_sizes program (names_in program g) (world_of (inner program g body frames frame deep)) (frame_in frame g.signature) deep h refl refl refl;
      globals = λ j ty is. global_is program j ty is;
      variables = λ x ty is. own_types g.vars (temps_of program g body) x ty is;
      calls = calls;
    }

-- ---- a body isn't too large

abbrev summed : ℕ → List FunctionTree → ℕ
summed acc xs = fold (λ a x. a + function_nodes x) acc xs

sum_more : (xs : List FunctionTree) (acc : ℕ) → acc ≤ summed acc xs
sum_more [] acc = omega arith
sum_more (x ∷ xs) acc = more acc (function_nodes x) (summed (acc + function_nodes x) xs) (sum_more xs (acc + function_nodes x))
  where
    more : (a b c : ℕ) → a + b ≤ c → a ≤ c
    more a b c h = omega (arith, h)

sum_from : (xs : List FunctionTree) (n : ℕ) (g : FunctionTree) (acc : ℕ) → slice_get xs n ≡ Some g → function_nodes g ≤ summed acc xs
sum_from [] n g acc is = cc
sum_from (x ∷ xs) zero g acc is = more acc (function_nodes g) (summed (acc + function_nodes x) xs) (subst (λ (z : FunctionTree). acc + function_nodes z ≤ summed (acc + function_nodes x) xs) (same is) (sum_more xs (acc + function_nodes x)))
  where
    same : Some x ≡ Some g → x ≡ g
    same e = cc

    more : (a b c : ℕ) → a + b ≤ c → b ≤ c
    more a b c h = omega (arith, h)
sum_from (x ∷ xs) (suc n) g acc is = sum_from xs n g (acc + function_nodes x) is

sum_at : (xs : List FunctionTree) (n : ℕ) (g : FunctionTree) → slice_get xs n ≡ Some g → function_nodes g ≤ sum_by function_nodes xs
sum_at xs n g is = sum_from xs n g 0 is

few_nodes : (program : TypedTree) → IsTrue (is_well_formed program) → nat_lt (nodes_of program) (2 ^ 28) ≡ true
unfolding is_well_formed
few_nodes p h =
    both_hold_second (list_all (numbers_sound p) p.functions) (nat_lt (nodes_of p) (2 ^ 28))
    (both_hold_second (list_all (function_sound p) p.functions && (names_sound (map name_of p.functions) && list_any is_start p.functions)) (list_all (numbers_sound p) p.functions && nat_lt (nodes_of p) (2 ^ 28))
    (both_hold_second (structs_sound p.structs 0 p.structs && (list_all (global_sound p.structs) p.globals && globals_small p.globals)) ((list_all (function_sound p) p.functions && (names_sound (map name_of p.functions) && list_any is_start p.functions)) && (list_all (numbers_sound p) p.functions && nat_lt (nodes_of p) (2 ^ 28))) h))

counted : (program : TypedTree) → sum_by function_nodes program.functions ≤ nodes_of program
counted p = within (sum_by (λ (s : StructInfo). 1 + length s.fields) p.structs) (length p.globals) (sum_by function_nodes p.functions) (sum_by expr_nodes p.exprs)
  where
    within : (a b c d : ℕ) → c ≤ a + (b + (c + d))
    within a b c d = omega arith

pub small_body : (program : TypedTree) (n : ℕ) (g : FunctionTree) (body : BodyTree) → IsTrue (is_well_formed program) → slice_get program.functions n ≡ Some g → g.body ≡ Some body → body_nodes body ≤ 2 ^ 28
small_body program n g body h is has =
    let most = less (nodes_of program) (2 ^ 28) (few_nodes program h) in
    let some = sum_at program.functions n g is in
    fewer (nodes_of program) (2 ^ 28) (function_nodes g) (length g.vars) (body_nodes body) (sum_by function_nodes program.functions) most some (ap (λ o. 1 + (length g.vars + option_nodes o)) has) (counted program)
  where
    less : (a b : ℕ) → nat_lt a b ≡ true → a < b
    less a b h = grind (arith, nat_tests)

    fewer : (a most x vars body all : ℕ) → a < most → x ≤ all → x ≡ 1 + (vars + body) → all ≤ a → body ≤ most
    fewer a most x vars body all h i j k = omega (arith, h, i, j, k)

-- ---- leaving

abbrev entered_blocks : TypedTree → FunctionTree → BodyTree → Frame → List Value → Blocks → Blocks
entered_blocks program g body frame vs blocks = entering program.structs g.vars (temps_of program g body) (frame.depth + 1) vs blocks

-- the blocks of the functions that called this one are as they were
back : (program : TypedTree) (g : FunctionTree) (body : BodyTree) (frames : ℕ → List VarTy) (frame : Frame) (deep : ℕ) (vs : List Value) (K : ℕ → Type 0) (before after : Blocks) (d k : ℕ) → Kept (inner program g body frames frame deep) K (entered_blocks program g body frame vs before) after → d ≤ frame.depth → length (frames d) ≤ k →
    without_frames after (frame.depth + 1) (Local d k) ≡ before (Local d k)
back program g body frames frame deep vs K before after d k kept le far =
    leaving_apart after (frame.depth + 1) d k (omega (arith, le))
    ∙ kept d k (subst (λ xs. length xs ≤ k) (sym (ap (λ t. if t then types_of g else frames d) (older d frame.depth le))) far) (inl (omega (arith, le)))
    ∙ entering_apart program.structs g.vars (temps_of program g body) (frame.depth + 1) vs before d k (older_still d frame.depth le)
  where
    older : (d n : ℕ) → d ≤ n → nat_eq d (suc n) ≡ false
    older d n le = grind (arith, nat_tests)

    older_still : (d n : ℕ) → d ≤ n → nat_eq d (n + 1) ≡ false
    older_still d n le = grind (arith, nat_tests)

left_after : (program : TypedTree) (vars : List Var) (core_variables : List VarTy) (deep0 : ℕ) (g : FunctionTree) (body : BodyTree) (frames : ℕ → List VarTy) (frame : Frame) (deep : ℕ) (vs : List Value) (K : ℕ → Type 0) (st0 : State) (st0' : c.State) (st : State) (st' : c.State) → frames frame.depth ≡ map (λ (x : Var). x.ty) vars →
    Alike (scene_in program vars frames frame core_variables deep0) st0 st0' → After (inner program g body frames frame deep) K (entered_blocks program g body frame vs st0'.memory) st st' →
    After (scene_in program vars frames frame core_variables deep0) all st0'.memory (f.left_at (frame.depth + 1) st) (cc_.left_at (frame.depth + 1) st')
left_after program vars core_variables deep0 g body frames frame deep vs K st0 st0' st st' own al q =
    let w = caller program frames frame in
    let same = sym (same_world program g body frames frame deep) in
    record {
      alike = record {
        objects = subst (λ d. SameObjects w (without_locals st.memory d) (without_frames st'.memory d)) (as_plus_one frame.depth) (leaving_objects w st.memory st'.memory (types_of g) (subst (λ z. SameObjects z st.memory st'.memory) same q.alike.objects));
        room = λ k far near. let room = al.room k far near in
            (room.0, ap (λ (z : b.Block). z.cells) (back program g body frames frame deep vs K st0'.memory st'.memory frame.depth k q.kept (omega arith) (subst (λ n. n ≤ k) (sym (ap length own ∙ counted vars)) far)) ∙ room.1);
        fits = subst (λ d. Fits w (without_locals st.memory d)) (as_plus_one frame.depth) (left_fits w st.memory (types_of g) (subst (λ z. Fits z st.memory) same q.alike.fits));
        sized = subst (λ d. Sized w (sizes_of program.structs) (without_locals st.memory d)) (as_plus_one frame.depth) (left_sized w (sizes_of program.structs) st.memory (types_of g) (subst (λ z. Sized z (sizes_of program.structs) st.memory) same q.alike.sized));
        hosts = q.alike.hosts;
        input = q.alike.input;
        seen = record { events = q.alike.seen.events; left = q.alike.seen.left };
      };
      kept = λ d k far own. back program g body frames frame deep vs K st0'.memory st'.memory d k q.kept (no_deeper d k own) far;
    }
  where
    counted : (xs : List Var) → length (map (λ (x : Var). x.ty) xs) ≡ length xs
    counted [] = refl
    counted (x ∷ xs) = ap suc (counted xs)

    no_deeper : (d k : ℕ) → (d < frame.depth) ⊎ ((d ≡ frame.depth) × all k) → d ≤ frame.depth
    no_deeper d k (inl h) = omega (arith, h)
    no_deeper d k (inr h) = let e = h.0 in omega (arith, e)

-- both are left alike
leave : (program : TypedTree) (vars : List Var) (core_variables : List VarTy) (deep0 : ℕ) (g : FunctionTree) (body : BodyTree) (frames : ℕ → List VarTy) (frame : Frame) (deep : ℕ) (vs : List Value) (span : Span) (result : Option IntType) (n : ℕ) (st0 : State) (st0' : c.State) (o : Outcome m.Flow) (o' : c.Outcome c.Flow) → frames frame.depth ≡ map (λ (x : Var). x.ty) vars →
    Alike (scene_in program vars frames frame core_variables deep0) st0 st0' → Same (GivesFlow (inner program g body frames frame deep) result nowhere n (entered_blocks program g body frame vs st0'.memory)) o o' →
    Same (Gives (scene_in program vars frames frame core_variables deep0) all st0'.memory (SameResult result)) (o >>= f.returned_from result span (frame.depth + 1)) (o' >>= cc_.returned_from result span (frame.depth + 1))
leave program vars core_variables deep0 g body frames frame deep vs span result n st0 st0' (gives flow st) (gives flow' st') own al q =
    let after = left_after program vars core_variables deep0 g body frames frame deep vs (but_flag nowhere n) st0 st0' st st' own al q.after in
    go flow flow' q.same after
  where
    s : Scene
    s = scene_in program vars frames frame core_variables deep0

    brace : (r : Option IntType) → After s all st0'.memory (f.left_at (frame.depth + 1) st) (cc_.left_at (frame.depth + 1) st') → Same (Gives s all st0'.memory (SameResult r)) (f.at_brace r span (frame.depth + 1) st) (cc_.at_end r span (frame.depth + 1) st')
    brace None after = record { after = after; facts = tt }
    brace (Some t) after = (refl, refl, record { events = q.after.alike.seen.events; left = q.after.alike.seen.left })

    go : (flow : m.Flow) (flow' : c.Flow) → SameFlow flow flow' (inner program g body frames frame deep) result nowhere n st'.memory → After s all st0'.memory (f.left_at (frame.depth + 1) st) (cc_.left_at (frame.depth + 1) st') →
        Same (Gives s all st0'.memory (SameResult result)) (f.returned_from result span (frame.depth + 1) flow st) (cc_.returned_from result span (frame.depth + 1) flow' st')
    go m.goes_on c.goes_on same after = brace result after
    go m.goes_on c.broke same after = absurd same
    go m.goes_on c.continues same after = absurd same
    go m.goes_on (c.returned x) same after = absurd same
    go m.broke c.goes_on same after = absurd same
    go m.broke c.broke same after = brace result after
    go m.broke c.continues same after = absurd same
    go m.broke (c.returned x) same after = absurd same
    go m.continues flow' same after = absurd same
    go (m.returned v) c.goes_on same after = absurd same
    go (m.returned v) c.broke same after = absurd same
    go (m.returned v) c.continues same after = absurd same
    go (m.returned v) (c.returned x) same after = record { after = after; facts = same }
leave program vars core_variables deep0 g body frames frame deep vs span result n st0 st0' (gives flow st) (trapped trap span1 st') own al q = absurd q
leave program vars core_variables deep0 g body frames frame deep vs span result n st0 st0' (gives flow st) (spent st') own al q = absurd q
leave program vars core_variables deep0 g body frames frame deep vs span result n st0 st0' (trapped trap span1 st) (gives flow st') own al q = absurd q
leave program vars core_variables deep0 g body frames frame deep vs span result n st0 st0' (trapped trap span1 st) (trapped trap1 span2 st') own al q = q
leave program vars core_variables deep0 g body frames frame deep vs span result n st0 st0' (trapped trap span1 st) (spent st') own al q = absurd q
leave program vars core_variables deep0 g body frames frame deep vs span result n st0 st0' (spent st) (gives flow st') own al q = absurd q
leave program vars core_variables deep0 g body frames frame deep vs span result n st0 st0' (spent st) (trapped trap span1 st') own al q = absurd q
leave program vars core_variables deep0 g body frames frame deep vs span result n st0 st0' (spent st) (spent st') own al q = q

-- ---- entering

abbrev pub core_frame_in : ProgramTree → c.Frame → t.FunctionTree → Signature → c.Frame
core_frame_in program frame entry signature = record {
  context = record { structs = program.structs; globals = map (λ g. (g.id, g.var.ty)) program.globals; variables = map (λ x. x.ty) entry.vars };
  depth = frame.depth + 1;
  privileged = frame.privileged || signature.privileged;
}

abbrev pub core_entered_as : ProgramTree → c.Calls → c.Frame → t.FunctionTree → Signature → List core.Cell → c.State → c.Outcome (Option core.Cell)
core_entered_as program calls frame entry signature args st =
    do_all entry.body (core_frame_in program frame entry signature) calls (with_blocks (with_arguments (bs.with_frame st.memory (frame.depth + 1) (map (λ x. shape_of program.structs x.ty) entry.vars)) (frame.depth + 1) 0 args) st)
    >>= cc_.returned_from signature.result entry.end (frame.depth + 1)

abbrev pub core_call_as : ProgramTree → c.Calls → c.Frame → ℕ → t.FunctionTree → Signature → List core.Cell → c.State → c.Outcome (Option core.Cell)
core_call_as program calls frame n entry signature args st = take_turn st.left st (λ st1. core_entered_as program calls frame entry signature args (noted (guarded_event frame.privileged signature n (map number_in args)) st1))

abbrev pub opened_in : TypedTree → FunctionTree → Frame → ℕ → List Value → State → State
opened_in program g frame deep vs st = opened (code_of program g (frame_in frame g.signature) (f.calls_within program deep)) vs st

-- the states in which a function's body begins
pub entered_alike : (program : TypedTree) (vars : List Var) (core_variables : List VarTy) (deep0 : ℕ) (g : FunctionTree) (body : BodyTree) (frames : ℕ → List VarTy) (frame : Frame) (deep : ℕ) (vs : List Value) (st : State) (st' : c.State) → AreScalar (temps_of program g body) → Leads g.signature.params (types_of g) →
    ArgumentsFit (caller program frames frame) g.signature.params vs → ArgumentsSized (caller program frames frame) (sizes_of program.structs) g.signature.params vs → Alike (scene_in program vars frames frame core_variables deep0) st st' →
    Alike (inner program g body frames frame deep) (opened_in program g frame deep vs st) (with_blocks (entered_blocks program g body frame vs st'.memory) st')
entered_alike program vars core_variables deep0 g body frames frame deep vs st st' scalar lead args size al =
    let w = caller program frames frame in
    let ss = sizes_of program.structs in
    record {
      objects = subst (λ d. SameObjects (record { globals = map (λ y. y.var.ty) program.globals; frames = inner_frames frames frame.depth (types_of g); depth = d }) (with_frame st.memory d (frame_cells ss (types_of g) vs)) (entering program.structs g.vars (temps_of program g body) d vs st'.memory)) (as_plus_one frame.depth)
          (entering_objects w st.memory st'.memory program.structs g.vars (temps_of program g body) g.signature.params vs lead args al.objects);
      room = λ k far near. entering_room w program.structs g.vars (temps_of program g body) (frame.depth + 1) g.signature.params vs st'.memory k lead args scalar far near;
      fits = subst (λ d. Fits (record { globals = map (λ y. y.var.ty) program.globals; frames = inner_frames frames frame.depth (types_of g); depth = d }) (with_frame st.memory d (frame_cells ss (types_of g) vs))) (as_plus_one frame.depth) (entered_fits w st.memory ss (types_of g) g.signature.params vs lead args al.fits);
      sized = subst (λ d. Sized (record { globals = map (λ y. y.var.ty) program.globals; frames = inner_frames frames frame.depth (types_of g); depth = d }) ss (with_frame st.memory d (frame_cells ss (types_of g) vs))) (as_plus_one frame.depth) (entered_sized w st.memory ss (types_of g) g.signature.params vs lead args size al.fits al.sized);
      hosts = al.hosts;
      input = al.input;
      seen = record { events = al.seen.events; left = al.seen.left };
    }

-- the body of a called function, and its return
pub function_runs : (program : TypedTree) (vars : List Var) (core_variables : List VarTy) (deep0 : ℕ) (n : ℕ) (g : FunctionTree) (body : BodyTree) (frames : ℕ → List VarTy) (frame : Frame) (deep : ℕ) (vs : List Value) (st : State) (st' : c.State) → StatementsAgree → Scalars program → IsTrue (is_well_formed program) → frames frame.depth ≡ map (λ (x : Var). x.ty) vars →
    slice_get program.functions n ≡ Some g → g.body ≡ Some body → IsTrue (is_sound (scope_in program g) false false body) → IsTrue (not (is_main g.signature)) → Leads g.signature.params (types_of g) →
    ArgumentsFit (caller program frames frame) g.signature.params vs → ArgumentsSized (caller program frames frame) (sizes_of program.structs) g.signature.params vs → CallsAlike (inner program g body frames frame deep) → Alike (scene_in program vars frames frame core_variables deep0) st st' →
    Same (Gives (scene_in program vars frames frame core_variables deep0) all st'.memory (SameResult g.signature.result)) (entered_as program (f.calls_within program deep) frame g vs st)
    (core_entered_as (core_program program) (cc_.calls_within (core_program program) deep) (frame_of (scene_in program vars frames frame core_variables deep0)) (core_of program n g body) g.signature (argument_cells vs) st')
function_runs program vars core_variables deep0 n g body frames frame deep vs st st' agree scalar h own there has sound not_main lead args size calls al =
    let s = scene_in program vars frames frame core_variables deep0 in
    let i = inner program g body frames frame deep in
    let begins = with_blocks (entered_blocks program g body frame vs st'.memory) st' in
    let fits = inner_fits program g body frames frame deep h calls in
    let r = agree i program.exprs g.signature.result body false false nowhere (length g.vars) (opened_in program g frame deep vs st) begins fits sound (small_body program n g body h there has) tt (omega arith) (has_temps g.vars (temps_of program g body)) tt (entered_alike program vars core_variables deep0 g body frames frame deep vs st st' (scalar n g body there has) lead args size al) in
    subst (λ y. Same (Gives s all st'.memory (SameResult g.signature.result)) (statement y (code_of program g (frame_in frame g.signature) (f.calls_within program deep)) (opened_in program g frame deep vs st) >>= f.returned_from g.signature.result (brace_of y) (frame.depth + 1))
    (core_entered_as (core_program program) (cc_.calls_within (core_program program) deep) (frame_of s) (core_of program n g body) g.signature (argument_cells vs) st')) (sym (body_is g.body body has))
    (subst (λ stmts. Same (Gives s all st'.memory (SameResult g.signature.result)) (statement body (code_of program g (frame_in frame g.signature) (f.calls_within program deep)) (opened_in program g frame deep vs st) >>= f.returned_from g.signature.result (brace_of body) (frame.depth + 1))
    (run_all i stmts begins >>= cc_.returned_from g.signature.result (brace_of body) (frame.depth + 1))) (sym (ap (λ e. (lowered_body program g body).stmts ++ e) (no_end g.signature not_main) ∙ append_nil (lowered_body program g body).stmts))
    (leave program vars core_variables deep0 g body frames frame deep vs (brace_of body) g.signature.result (length g.vars) st st' (statement body (code_of program g (frame_in frame g.signature) (f.calls_within program deep)) (opened_in program g frame deep vs st)) (run_all i (lowered_body program g body).stmts begins) own al r))

-- a call of a function
pub function_alike : (program : TypedTree) (vars : List Var) (core_variables : List VarTy) (deep0 : ℕ) (n : ℕ) (g : FunctionTree) (body : BodyTree) (frames : ℕ → List VarTy) (frame : Frame) (deep : ℕ) (vs : List Value) (st : State) (st' : c.State) → StatementsAgree → Scalars program → IsTrue (is_well_formed program) → frames frame.depth ≡ map (λ (x : Var). x.ty) vars →
    slice_get program.functions n ≡ Some g → g.body ≡ Some body → IsTrue (is_sound (scope_in program g) false false body) → IsTrue (not (is_main g.signature)) → Leads g.signature.params (types_of g) →
    ArgumentsFit (caller program frames frame) g.signature.params vs → ArgumentsSized (caller program frames frame) (sizes_of program.structs) g.signature.params vs → CallsAlike (inner program g body frames frame deep) → Alike (scene_in program vars frames frame core_variables deep0) st st' →
    Same (Gives (scene_in program vars frames frame core_variables deep0) all st'.memory (SameResult g.signature.result))
    (take_turn st.left st (λ st1. entered_as program (f.calls_within program deep) frame g vs (noted (guarded_event frame.privileged g.signature n (numbers_of vs)) st1)))
    (core_call_as (core_program program) (cc_.calls_within (core_program program) deep) (frame_of (scene_in program vars frames frame core_variables deep0)) n (core_of program n g body) g.signature (argument_cells vs) st')
function_alike program vars core_variables deep0 n g body frames frame deep vs st st' agree scalar h own there has sound not_main lead args size calls al =
    let s = scene_in program vars frames frame core_variables deep0 in
    turn_same s (Gives s all st'.memory (SameResult g.signature.result)) st st' (λ st1. entered_as program (f.calls_within program deep) frame g vs (noted (guarded_event frame.privileged g.signature n (numbers_of vs)) st1))
    (λ st1. core_entered_as (core_program program) (cc_.calls_within (core_program program) deep) (frame_of s) (core_of program n g body) g.signature (argument_cells vs) (noted (guarded_event frame.privileged g.signature n (map number_in (argument_cells vs))) st1)) al
    (λ left. subst (λ numbers. Same (Gives s all st'.memory (SameResult g.signature.result)) (entered_as program (f.calls_within program deep) frame g vs (noted (guarded_event frame.privileged g.signature n (numbers_of vs)) (record st { left = left })))
    (core_entered_as (core_program program) (cc_.calls_within (core_program program) deep) (frame_of s) (core_of program n g body) g.signature (argument_cells vs) (noted (guarded_event frame.privileged g.signature n numbers) (record st' { left = left })))) (sym (numbers_same vs))
    (function_runs program vars core_variables deep0 n g body frames frame deep vs (noted (guarded_event frame.privileged g.signature n (numbers_of vs)) (record st { left = left })) (noted (guarded_event frame.privileged g.signature n (numbers_of vs)) (record st' { left = left })) agree scalar h own there has sound not_main lead args size calls
    (noted_alike s (record st { left = left }) (record st' { left = left }) (guarded_event frame.privileged g.signature n (numbers_of vs)) (alike_left s st st' left al))))
