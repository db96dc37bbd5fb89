-- The run of a whole program comes to the same.
use Rattle.std.proofs.Common.{◌≡◌, ◌∙◌, ◌≤◌, ℕ, zero, suc, ◌+◌, ◌-◌, pos, ℤ, nat_eq, nat_le, refl, ap, sym, subst, arith, Bool, true, false, not, Option, Some, None, List, [], ◌∷◌, ◌++◌, map, length, codes, if◌then◌else◌}
use Rattle.std.specs.Prelude.{IsTrue, ◌&&◌, ◌||◌, is_some, slice_get, option_map, unwrap_or}
use Rattle.std.specs.List.{list_any, list_all, find}
use Rattle.std.specs.Str.{bytes_eq}
use Rattle.std.proofs.lemmas.Slice.Eq.{bytes_eq-Decides}
use Rattle.std.proofs.lemmas.Bool.Decides.{nat_tests}
use Rattle.pt_base.specs.declared.end.End.{End}
use Rattle.pt_base.specs.declared.end.End.TheVariants.{Exit, Trapped, Spent}
use Rattle.pt_base.specs.declared.int_type.IntType.{IntType}
use Rattle.pt_base.specs.declared.int_type.IntType.TheVariants as i
use Rattle.pt_base.specs.declared.span.Span.{Span}
use Rattle.pt_base.proofs.Booleans.{both_hold_first as left, both_hold_second, false_not_true}
use Rattle.pt_base.proofs.Members.{all_true_at}
use Rattle.pt_int.specs.Conversion.{conv}
use Rattle.pt_tree.specs.declared.signature.Signature.{Signature}
use Rattle.pt_tree.specs.declared.signature.Param.{Param}
use Rattle.runs.specs.Run.{Run, deepest}
use Rattle.runs.specs.State.{Event, Hosts, gives, trapped, spent, ◌>>=◌}
use Rattle.typed_tree.specs.declared.types.VarTy.{VarTy}
use Rattle.typed_tree.specs.declared.types.StructInfo.{StructInfo}
use Rattle.typed_tree.specs.declared.variable.TypedGlobal.{TypedGlobal}
use Rattle.typed_tree.specs.StatementTree.{BodyTree}
use Rattle.typed_tree.specs.TypedTree.{TypedTree, FunctionTree, signatures_of}
use Rattle.typed_tree.specs.Lookup.{named_from, function_named}
use Rattle.typed_tree.specs.Cells.{leaves_of}
use Rattle.typed_tree.specs.Sizes.{sizes_of}
use Rattle.typed_tree.specs.WellFormed.{is_well_formed, function_sound, params_lead, variable_sound, body_sound, is_block, names_in, scope_in, is_start, is_int_result}
use Rattle.typed_tree.specs.WellFormedExpression.{is_main}
use Rattle.typed_tree.specs.WellFormedStatement.{is_sound}
use Rattle.typed_tree.specs.TypeTests.{same_int}
use Rattle.typed_tree.proofs.WellFormedLemmas.{facts_of}
use Rattle.typed_tree.proofs.NameLemmas.{named_is}
use Rattle.block_memory.specs.declared.cell.Cell as core
use Rattle.block_memory.specs.declared.cell.Cell.TheVariants as cell
use Rattle.block_memory.specs.declared.cell.BlockName.TheVariants.{Global}
use Rattle.block_memory.specs.Blocks as bs
use Rattle.block_memory.specs.Blocks.{Blocks, no_blocks}
use Rattle.source_meaning.specs.Memory.{Block, local, global, Cell, number, null, pointer, Memory, with_frame, nothing_live, put}
use Rattle.source_meaning.specs.State.{State, Outcome}
use Rattle.source_meaning.specs.Values as v
use Rattle.source_meaning.specs.Values.{Value, holds, frame_cells, number_of}
use Rattle.source_meaning.specs.Statements as m
use Rattle.source_meaning.specs.Statements.{statement}
use Rattle.source_meaning.specs.Functions as f
use Rattle.source_meaning.specs.Functions.{function_or_none, body_or_none, opened, brace_of}
use Rattle.source_meaning.specs.WholeRun as w
use Rattle.source_meaning.specs.WholeRun.{main_frame, main_code, whole_run}
use Rattle.source_soundness.specs.Worlds.{World, Fits}
use Rattle.source_soundness.specs.Sizes.{Sized}
use Rattle.source_soundness.specs.Laws.{main_world}
use Rattle.typed_tree.proofs.SameTypes.{equal_ints}
use Rattle.source_soundness.proofs.CallSoundness.{deeper, Leads}
use Rattle.source_soundness.proofs.CallSizes.{calls_keep_sizes, programs_begin_sized}
use Rattle.source_soundness.proofs.ProgramFacts.{facts, fields_are_plain, globals_are_plain}
use Rattle.source_soundness.proofs.Programs.{code_of, types_of, Bodied, bodied, body_is, function_is, calls_keep, outer_world, programs_begin}
use Rattle.pt_core.specs.CodeTree as t
use Rattle.pt_core.specs.CodeTree.{StmtTree, constant, give_back, stmt_trees, ProgramTree}
use Rattle.pt_core.specs.Types.{shape_of}
use Rattle.pt_core.specs.Values as cv
use Rattle.pt_core.specs.Statements as c
use Rattle.pt_core.specs.Statements.{with_blocks, after_flow, do_all}
use Rattle.pt_core.specs.Calls as calls
use Rattle.pt_core.specs.Calls.{signature_in, function_in, with_arguments}
use Rattle.pt_core.specs.CoreRun as r
use Rattle.pt_core.specs.CoreRun.{main_in, status_of, core_run}
use Rattle.lowering.specs.Statements.{nowhere}
use Rattle.lowering.specs.Functions.{lowered_body, core_of, core_program, main_end, signatures_from, globals_from}
use Rattle.c_lower_law.proofs.Relations.{core_cell, Scene, world_of, frame_of, SameObjects, Alike, Same}
use Rattle.c_lower_law.proofs.Expressions.{run_all, SameResult, SceneFits}
use Rattle.c_lower_law.proofs.Statements.{but_flag, GivesFlow, SameFlow, StatementsAgree, scene_in}
use Rattle.c_lower_law.specs.Statements.{LoweringKeepsTheRun}
use Rattle.c_lower_law.proofs.Runs.{run_append}
use Rattle.c_lower_law.proofs.CorePrograms.{signature_is, global_is, function_found, all_types, own_types, has_temps}
use Rattle.c_lower_law.proofs.Memories.{objects_put}
use Rattle.c_lower_law.proofs.Operators.{number_same}
use Rattle.c_lower_law.proofs.NoBreaks.{Breaks, statement_breaks}
use Rattle.c_lower_law.proofs.Entering.{AreScalar, entering, entering_room, entering_objects}
use Rattle.c_lower_law.proofs.CallLaws.{Scalars, temps_of, small_body}
use Rattle.c_lower_law.proofs.DeepCalls.{calls_alike}

-- ---- main

pub record Main (program : TypedTree) : Type 0 where
  pub number : ℕ
  pub entry : FunctionTree
  pub is : slice_get program.functions number ≡ Some entry
  pub start : is_start entry ≡ true

abbrev Started : List FunctionTree → Type 0
Started xs = (n : ℕ) × (g : FunctionTree) × (slice_get xs n ≡ Some g) × (is_start g ≡ true)

start_next : (x : FunctionTree) (xs : List FunctionTree) → Started xs → Started (x ∷ xs)
start_next x xs p = (suc p.0, p.1, p.2, p.3)

start_of : (x : FunctionTree) (xs : List FunctionTree) (b : Bool) → is_start x ≡ b → (b || list_any is_start xs) ≡ true → (list_any is_start xs ≡ true → Started xs) → Started (x ∷ xs)
start_of x xs true e h rest = (zero, x, refl, e)
start_of x xs false e h rest = start_next x xs (rest h)

start_at : (xs : List FunctionTree) → list_any is_start xs ≡ true → Started xs
start_at [] h = false_not_true h
start_at (x ∷ xs) h = start_of x xs (is_start x) refl h (start_at xs)

pub main_of : (program : TypedTree) → IsTrue (is_well_formed program) → Main program
main_of program h = let p = start_at program.functions (facts_of program h).start in record { number = p.0; entry = p.1; is = p.2; start = p.3 }

main_named : (program : TypedTree) → IsTrue (is_well_formed program) → (n : ℕ) (g : FunctionTree) → slice_get program.functions n ≡ Some g → is_main g.signature ≡ true → function_named program (codes "main") ≡ Some (record { 0 = n })
main_named program h n g is main = (named_is program (codes "main") (record { 0 = n }) h).1 (ap (λ o. option_map (λ s. s.name) (option_map (λ (y : FunctionTree). y.signature) o)) is ∙ ap Some ((bytes_eq-Decides g.signature.name (codes "main")).0 main))

pub core_named : (xs : List FunctionTree) (k : ℕ) → option_map (λ s. s.0) (find (λ s. bytes_eq s.1.name (codes "main")) (signatures_from k (map (λ (y : FunctionTree). y.signature) xs))) ≡ option_map (λ o. o.0) (named_from k xs (codes "main"))
core_named [] k = refl
core_named (x ∷ xs) k = go (bytes_eq x.signature.name (codes "main")) (core_named xs (suc k))
  where
    go : (b : Bool) → option_map (λ s. s.0) (find (λ s. bytes_eq s.1.name (codes "main")) (signatures_from (suc k) (map (λ (y : FunctionTree). y.signature) xs))) ≡ option_map (λ o. o.0) (named_from (suc k) xs (codes "main")) →
        option_map (λ s. s.0) (if b then Some (k, x.signature) else find (λ s. bytes_eq s.1.name (codes "main")) (signatures_from (suc k) (map (λ (y : FunctionTree). y.signature) xs))) ≡ option_map (λ o. o.0) (if b then Some (record { 0 = k }) else named_from (suc k) xs (codes "main"))
    go true h = refl
    go false h = h

pub core_main : (program : TypedTree) (n : ℕ) → function_named program (codes "main") ≡ Some (record { 0 = n }) → main_in (core_program program) ≡ n
core_main program n is = ap (λ o. unwrap_or o 0) (core_named program.functions 0 ∙ ap (λ o. option_map (λ z. z.0) o) is)

-- ---- globals

numbers_cells : (xs : List ℤ) → map cell.Int xs ≡ map core_cell (map number xs)
numbers_cells [] = refl
numbers_cells (x ∷ xs) = ap (λ ys. cell.Int x ∷ ys) (numbers_cells xs)

globals_same : (xs : List TypedGlobal) (a : World) (structs : List StructInfo) (m : Memory) (blocks : Blocks) (k n : ℕ) → n ≡ k → SameObjects a m blocks → SameObjects a (w.with_globals m k xs) (r.with_globals structs blocks (globals_from n xs))
globals_same [] a structs m blocks k n e same = same
globals_same (x ∷ xs) a structs m blocks k n e same =
    globals_same xs a structs (put m (global k) (map number x.cells)) (bs.put blocks (Global n) (record { types = leaves_of structs x.var.ty; cells = map cell.Int x.cells })) (k + 1) (suc n) (omega (arith, e))
    (subst (λ j. SameObjects a (put m (global k) (map number x.cells)) (bs.put blocks (Global j) (record { types = leaves_of structs x.var.ty; cells = map cell.Int x.cells }))) (sym e)
    (objects_put a m blocks (global k) (map number x.cells) (record { types = leaves_of structs x.var.ty; cells = map cell.Int x.cells }) same (numbers_cells x.cells)))

-- ---- the scene of main

abbrev pub main_scene : TypedTree → FunctionTree → BodyTree → ℕ → Scene
main_scene program g body deep = scene_in program g.vars (λ d. if nat_eq d 1 then types_of g else []) main_frame (all_types g.vars (temps_of program g body)) deep

main_fits : (program : TypedTree) (g : FunctionTree) (body : BodyTree) (deep : ℕ) → StatementsAgree → Scalars program → IsTrue (is_well_formed program) → SceneFits (main_scene program g body deep)
main_fits program g body deep agree scalar h =
    let k = facts program h in
    record {
      fits = record {
        structs = refl;
        plain = fields_are_plain program.structs k.structs;
        plain_globals = λ j ty is. globals_are_plain program.structs program.globals j ty k.globals is;
        globals = refl;
        variables = refl;
        known = refl;
        own = refl;
        at_depth = refl;
        active = omega arith;
        calls = calls_keep deep program (names_in program g) (main_world program g) main_frame k refl refl refl;
      };
      structs = k.structs;
      sized = calls_keep_sizes program (names_in program g) (main_world program g) main_frame deep h refl refl refl;
      globals = λ j ty is. global_is program j ty is;
      variables = λ x ty is. own_types g.vars (temps_of program g body) x ty is;
      calls = calls_alike deep program g.vars (λ d. if nat_eq d 1 then types_of g else []) main_frame (all_types g.vars (temps_of program g body)) agree scalar h refl;
    }

abbrev source_begins : TypedTree → FunctionTree → ℕ → Hosts → List ℕ → ℕ → State
source_begins program g deep hosts input turns = opened (code_of program g main_frame (f.calls_within program deep)) [] (w.begun program hosts input turns)

abbrev core_begins : TypedTree → FunctionTree → BodyTree → Hosts → List ℕ → ℕ → c.State
core_begins program g body hosts input turns =
    let st = r.begun (core_program program) hosts input turns in
    with_blocks (entering program.structs g.vars (temps_of program g body) 1 [] st.memory) st

main_alike : (program : TypedTree) (n : ℕ) (g : FunctionTree) (body : BodyTree) (deep : ℕ) (hosts : Hosts) (input : List ℕ) (turns : ℕ) → AreScalar (temps_of program g body) → IsTrue (is_well_formed program) → slice_get program.functions n ≡ Some g → g.signature.params ≡ [] →
    Alike (main_scene program g body deep) (source_begins program g deep hosts input turns) (core_begins program g body hosts input turns)
main_alike program n g body deep hosts input turns scalar h is no_params =
    record {
      objects = entering_objects (outer_world program) (w.with_globals nothing_live 0 program.globals) (r.with_globals program.structs no_blocks (globals_from 0 program.globals)) program.structs g.vars (temps_of program g body) [] [] tt tt
          (globals_same program.globals (outer_world program) program.structs nothing_live no_blocks 0 0 refl (λ b ty live. nowhere_live b));
      room = λ k far near. entering_room (outer_world program) program.structs g.vars (temps_of program g body) 1 [] [] (r.with_globals program.structs no_blocks (globals_from 0 program.globals)) k tt tt scalar far near;
      fits = subst (λ (z : FunctionTree). Fits (main_world program g) (with_frame (w.with_globals nothing_live 0 program.globals) 1 (frame_cells (sizes_of program.structs) (types_of z) []))) (function_is program n (Some g) is)
          (programs_begin program (record { 0 = n }) hosts input turns g h is no_params);
      sized = subst (λ (z : FunctionTree). Sized (main_world program g) (sizes_of program.structs) (with_frame (w.with_globals nothing_live 0 program.globals) 1 (frame_cells (sizes_of program.structs) (types_of z) []))) (function_is program n (Some g) is)
          (programs_begin_sized program (record { 0 = n }) hosts input turns g h is no_params);
      hosts = refl;
      input = refl;
      seen = record { events = refl; left = refl };
    }
  where
    nowhere_live : (b : Block) → [] ≡ map core_cell (nothing_live b)
    nowhere_live b = refl

-- ---- ends

abbrev run_with : List Event → End → ℕ → Run
run_with e d n = record { events = e; end = d; turns = n }

same_runs : (e e' : List Event) (d d' : End) (n n' turns : ℕ) → e' ≡ e → d' ≡ d → n' ≡ n → run_with e' d' (turns - n') ≡ run_with e d (turns - n)
same_runs e e' d d' n n' turns p q o = ap (λ z. run_with z d' (turns - n')) p ∙ ap (λ z. run_with e z (turns - n')) q ∙ ap (λ z. run_with e d (turns - z)) o

zero_is : conv i.Int (pos 0) ≡ pos 0
unfolding conv
zero_is = refl

status_same : (x : Option core.Cell) (y : Cell) → unwrap_or x (cell.Int (pos 0)) ≡ core_cell y → status_of x ≡ conv i.Int (v.number_in y)
status_same None y e = sym zero_is ∙ ap (λ z. conv i.Int (cv.number_in z)) e ∙ ap (conv i.Int) (number_same y)
status_same (Some x) y e = ap (λ z. conv i.Int (cv.number_in z)) e ∙ ap (conv i.Int) (number_same y)

abbrev zero_given : List StmtTree
zero_given = give_back (Some (constant i.Int (pos 0))) ∷ []

ends_same : (s : Scene) (result : IntType) (n turns : ℕ) (before : Blocks) (span : Span) (o : Outcome m.Flow) (o' : c.Outcome c.Flow) → Breaks false o → Same (GivesFlow s (Some result) nowhere n before) o o' →
    r.run_of turns ((o' >>= after_flow (run_all s zero_given)) >>= calls.returned_from (Some result) span 1) ≡ w.run_of turns o
ends_same s result n turns before span (gives flow st) (gives flow' st') b q = go flow flow' b q.same
  where
    go : (flow : m.Flow) (flow' : c.Flow) → Breaks false (gives flow st) → SameFlow flow flow' s (Some result) nowhere n st'.memory →
        r.run_of turns ((gives flow' st' >>= after_flow (run_all s zero_given)) >>= calls.returned_from (Some result) span 1) ≡ w.run_of turns (gives flow st)
    go m.goes_on c.goes_on b same = same_runs st.events st'.events (Exit (pos 0)) (Exit (conv i.Int (pos 0))) st.left st'.left turns q.after.alike.seen.events (ap Exit zero_is) q.after.alike.seen.left
    go m.goes_on c.broke b same = absurd same
    go m.goes_on c.continues b same = absurd same
    go m.goes_on (c.returned x) b same = absurd same
    go m.broke flow' b same = false_not_true b
    go m.continues flow' b same = absurd same
    go (m.returned v) c.goes_on b same = absurd same
    go (m.returned v) c.broke b same = absurd same
    go (m.returned v) c.continues b same = absurd same
    go (m.returned v) (c.returned x) b same =
        same_runs st.events st'.events (Exit (conv i.Int (number_of v))) (Exit (status_of x)) st.left st'.left turns q.after.alike.seen.events (ap Exit (status_same x same.0 same.3 ∙ ap (λ z. conv i.Int (number_of z)) (sym same.1))) q.after.alike.seen.left
ends_same s result n turns before span (gives flow st) (trapped trap span1 st') b q = absurd q
ends_same s result n turns before span (gives flow st) (spent st') b q = absurd q
ends_same s result n turns before span (trapped trap span1 st) (gives flow' st') b q = absurd q
ends_same s result n turns before span (trapped trap span1 st) (trapped trap1 span2 st') b q =
    same_runs st.events st'.events (Trapped trap span1) (Trapped trap1 span2) st.left st'.left turns q.2.events (ap (λ z. Trapped z span2) q.0 ∙ ap (λ z. Trapped trap z) q.1) q.2.left
ends_same s result n turns before span (trapped trap span1 st) (spent st') b q = absurd q
ends_same s result n turns before span (spent st) (gives flow' st') b q = absurd q
ends_same s result n turns before span (spent st) (trapped trap span1 st') b q = absurd q
ends_same s result n turns before span (spent st) (spent st') b q = same_runs st.events st'.events Spent Spent st.left st'.left turns q.events refl q.left

-- ---- the whole run

-- what is kept of a function that may be main
int_given : (o : Option IntType) → is_int_result o ≡ true → o ≡ Some i.Int
int_given None h = false_not_true h
int_given (Some u) h = ap Some (equal_ints u i.Int h)

pub none_given : (ps : List Param) → nat_eq (length ps) 0 ≡ true → ps ≡ []
none_given [] h = refl
none_given (p ∷ ps) h = false_not_true (sym (more (length ps)) ∙ h)
  where
    more : (n : ℕ) → nat_eq (suc n) 0 ≡ false
    more n = grind (arith, nat_tests)

body_given : (program : TypedTree) (g : FunctionTree) (o : Option BodyTree) → g.body ≡ o → is_some o ≡ true → body_sound program g o ≡ true → Bodied program g
body_given program g None e some h = false_not_true some
body_given program g (Some body) e some h = record { body = body; is = e; sound = both_hold_second (is_block body) (is_sound (scope_in program g) false false body) (both_hold_second (not g.signature.host) (is_block body && is_sound (scope_in program g) false false body) h) }

end_of_main : (s : Signature) → is_main s ≡ true → main_end s ≡ zero_given
end_of_main s h = ap (λ b. if b then zero_given else []) h

abbrev core_main_at : TypedTree → ℕ → Hosts → List ℕ → ℕ → ℕ → Run
core_main_at program deep hosts input turns k =
    r.run_of turns (calls.body_run (core_program program) (calls.calls_within (core_program program) deep) (record { context = calls.context_in (core_program program) k; depth = 1; privileged = false }) k [] (r.begun (core_program program) hosts input turns))

abbrev core_main_as : TypedTree → ℕ → Hosts → List ℕ → ℕ → t.FunctionTree → Signature → Run
core_main_as program deep hosts input turns entry signature =
    let st = r.begun (core_program program) hosts input turns in
    r.run_of turns (do_all entry.body (record { context = record { structs = program.structs; globals = map (λ g. (g.id, g.var.ty)) (core_program program).globals; variables = map (λ x. x.ty) entry.vars }; depth = 1; privileged = false }) (calls.calls_within (core_program program) deep)
    (with_blocks (with_arguments (bs.with_frame st.memory 1 (map (λ x. shape_of program.structs x.ty) entry.vars)) 1 0 []) st) >>= calls.returned_from signature.result entry.end 1)

abbrev source_main_as : TypedTree → ℕ → Hosts → List ℕ → ℕ → FunctionTree → Run
source_main_as program deep hosts input turns g = w.run_of turns (statement (body_or_none g.body) (code_of program g main_frame (f.calls_within program deep)) (source_begins program g deep hosts input turns))

main_runs : (program : TypedTree) (n : ℕ) (g : FunctionTree) (deep : ℕ) (hosts : Hosts) (input : List ℕ) (turns : ℕ) → StatementsAgree → Scalars program → IsTrue (is_well_formed program) → slice_get program.functions n ≡ Some g → (has : Bodied program g) → is_main g.signature ≡ true → g.signature.result ≡ Some i.Int → g.signature.params ≡ [] →
    core_main_as program deep hosts input turns (core_of program n g has.body) g.signature ≡ source_main_as program deep hosts input turns g
main_runs program n g deep hosts input turns agree scalar h is has main int no_params =
    let s = main_scene program g has.body deep in
    let begins = core_begins program g has.body hosts input turns in
    let code = code_of program g main_frame (f.calls_within program deep) in
    let stmts = (lowered_body program g has.body).stmts in
    let same = agree s program.exprs g.signature.result has.body false false nowhere (length g.vars) (source_begins program g deep hosts input turns) begins (main_fits program g has.body deep agree scalar h) has.sound (small_body program n g has.body h is has.is) tt (omega arith) (has_temps g.vars (temps_of program g has.body)) tt
    (main_alike program n g has.body deep hosts input turns (scalar n g has.body is has.is) h is no_params) in
    ap (λ e. r.run_of turns (run_all s (stmts ++ e) begins >>= calls.returned_from g.signature.result (brace_of has.body) 1)) (end_of_main g.signature main)
    ∙ ap (λ o. r.run_of turns (o >>= calls.returned_from g.signature.result (brace_of has.body) 1)) (run_append s stmts zero_given begins)
    ∙ ap (λ z. r.run_of turns ((run_all s stmts begins >>= after_flow (run_all s zero_given)) >>= calls.returned_from z (brace_of has.body) 1)) int
    ∙ ends_same s i.Int (length g.vars) turns begins.memory (brace_of has.body) (statement has.body code (source_begins program g deep hosts input turns)) (run_all s stmts begins)
    (statement_breaks has.body (scope_in program g) false false code (source_begins program g deep hosts input turns) has.sound)
    (subst (λ z. Same (GivesFlow s z nowhere (length g.vars) begins.memory) (statement has.body code (source_begins program g deep hosts input turns)) (run_all s stmts begins)) int same)
    ∙ ap (λ b. w.run_of turns (statement b code (source_begins program g deep hosts input turns))) (sym (body_is g.body has.body has.is))

pub run_kept : StatementsAgree → ((program : TypedTree) → IsTrue (is_well_formed program) → Scalars program) → LoweringKeepsTheRun
run_kept agree scalar program hosts input turns h =
    let main = main_of program h in
    let n = main.number in
    let g = main.entry in
    let second = both_hold_second (is_main g.signature) (is_some g.body && (is_int_result g.signature.result && nat_eq (length g.signature.params) 0)) main.start in
    let third = both_hold_second (is_some g.body) (is_int_result g.signature.result && nat_eq (length g.signature.params) 0) second in
    let is_named = left (is_main g.signature) (is_some g.body && (is_int_result g.signature.result && nat_eq (length g.signature.params) 0)) main.start in
    let named = main_named program h n g main.is is_named in
    let sound = all_true_at (function_sound program) program.functions n g (facts program h).functions main.is in
    let has = body_given program g g.body refl (left (is_some g.body) (is_int_result g.signature.result && nat_eq (length g.signature.params) 0) second)
    (both_hold_second (list_all (variable_sound program.structs) g.vars) (body_sound program g g.body) (both_hold_second (nat_le (length g.signature.params) 8 && params_lead g.signature.params g.vars) (list_all (variable_sound program.structs) g.vars && body_sound program g g.body) sound)) in
    ap (core_main_at program (deepest - 1) hosts input turns) (core_main program n named)
    ∙ ap (λ e. core_main_as program (deepest - 1) hosts input turns e (signature_in (core_program program) n)) (function_found program n g has.body main.is has.is)
    ∙ ap (core_main_as program (deepest - 1) hosts input turns (core_of program n g has.body)) (signature_is program n g main.is)
    ∙ main_runs program n g (deepest - 1) hosts input turns agree (scalar program h) h main.is has is_named (int_given g.signature.result (left (is_int_result g.signature.result) (nat_eq (length g.signature.params) 0) third)) (none_given g.signature.params (both_hold_second (is_int_result g.signature.result) (nat_eq (length g.signature.params) 0) third))
    ∙ sym (ap (λ o. w.run_of turns (w.main_run program o (w.begun program hosts input turns))) named ∙ ap (source_main_as program (deepest - 1) hosts input turns) (function_is program n (Some g) main.is))
