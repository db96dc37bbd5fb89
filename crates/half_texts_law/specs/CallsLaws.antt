-- What is proved of calls in both halves' texts.
use Rattle.std.specs.Prelude.{◌≡◌, ℕ, List, [], Bool, Some, IsTrue}
use Rattle.pt_tree.specs.declared.signature.Signature.{Signature}
use Rattle.typed_tree.specs.declared.types.VarTy.{VarTy}
use Rattle.typed_tree.specs.TypedTree.{TypedTree}
use Rattle.block_memory.specs.declared.cell.Cell.{Cell}
use Rattle.source_meaning.specs.State.{State}
use Rattle.source_meaning.specs.Values.{Value}
use Rattle.source_meaning.specs.Expressions as m
use Rattle.source_meaning.specs.Functions.{function_call, calls_within}
use Rattle.pt_core.specs.CodeTree.{FunctionTree, ProgramTree}
use Rattle.pt_core.specs.Statements as c
use Rattle.pt_core.specs.Statements.{do_all}
use Rattle.pt_core.specs.Calls.{no_function, function_call as core_call, calls_within as core_within}
use Rattle.pt_core.specs.WellFormed.{is_sound, signature_at, function_at, with_own, called_signature}
use Rattle.half_meaning_law.specs.Relations.{Scene, frame_of, Alike, Same}
use Rattle.half_meaning_law.specs.Statements.{AreArguments, GivesResult, CallsAlike, StatementsMean}
use Rattle.half_names_law.specs.Declarable.{Declarable, prototypes_take_no_pointers}
use Rattle.half_names_law.specs.Standing.{Marks, own_marks, whole_marks, statements_at, scene_of, all_said}
use Rattle.half_names_law.specs.Laws.{judged_tree, statements_checked}
use Rattle.half_texts_law.specs.Calls.{text_calls, half_calls, IsActive, scene_within, OutsideAlike, prototypes_are_hosts}

-- ---- with any functions without a body

-- calls that may go this deep come to the same
abbrev pub CallsAgree : Marks → Bool → ProgramTree → Type 0
CallsAgree marks monitor p = (outside : m.Calls) (outside' : c.Calls) → OutsideAlike monitor p outside outside' → (depth n : ℕ) (f : FunctionTree) (frames : ℕ → List VarTy) (frame : m.Frame) → IsActive p n f frames frame.depth →
    CallsAlike (scene_within marks monitor p f frames frame outside outside' depth) (called_signature monitor p)

-- and so do the statements of each function with these calls
abbrev pub FunctionsAgree : Marks → Bool → ProgramTree → Type 0
FunctionsAgree marks monitor p = (outside : m.Calls) (outside' : c.Calls) → OutsideAlike monitor p outside outside' → (depth n : ℕ) (f : FunctionTree) (s : Signature) (frames : ℕ → List VarTy) (frame : m.Frame) → IsActive p n f frames frame.depth → signature_at p f.id ≡ Some s →
    StatementsMean (scene_within marks monitor p f frames frame outside outside' depth) (statements_at marks monitor p n f) (statements_checked p f s (statements_at marks monitor p n f))
    (do_all f.body (frame_of (scene_within marks monitor p f frames frame outside outside' depth)) (half_calls p outside' depth))

-- with each function counted as one that has a body, and as the half's own items say where no function that is only
-- declared takes a pointer
abbrev pub InBothMarks : (Marks → Bool → ProgramTree → Type 0) → Type 0
InBothMarks P = (monitor : Bool) (p : ProgramTree) → IsTrue (is_sound monitor p) → Declarable p → IsTrue (all_said monitor p) →
    P (whole_marks monitor p) monitor p × (IsTrue (prototypes_take_no_pointers p) → P (own_marks monitor p) monitor p)

abbrev pub HalfCallsAgree : Type 0
HalfCallsAgree = InBothMarks CallsAgree

abbrev pub HalfFunctionsAgree : Type 0
HalfFunctionsAgree = InBothMarks FunctionsAgree

-- ---- where nothing is active

-- no function is active, and no local is live
abbrev pub start_scene : ProgramTree → m.Frame → m.Calls → c.Calls → Scene
start_scene p frame calls core_calls = scene_of p no_function (λ d. []) frame calls core_calls

-- a function with a body that is entered there, main too, comes to the same in both
abbrev pub StartsAlike : Bool → ProgramTree → TypedTree → m.Calls → c.Calls → Type 0
StartsAlike monitor p t calls core_calls = (g : ℕ) (frame : m.Frame) (f : FunctionTree) (s : Signature) (vs : List Value) (xs : List Cell) (st : State) (st' : c.State) → (let start = start_scene p frame calls core_calls in
    function_at p (start.function_number g) ≡ Some f → signature_at p (start.function_number g) ≡ Some s → AreArguments start (with_own monitor (Some f) s).params vs xs → Alike start st st' →
    Same start (GivesResult start s.result) (function_call t calls frame g vs st) (core_call p core_calls (frame_of start) (start.function_number g) xs st'))

abbrev pub StartsAgree : Marks → Bool → ProgramTree → Type 0
StartsAgree marks monitor p = (outside : m.Calls) (outside' : c.Calls) → OutsideAlike monitor p outside outside' → (depth : ℕ) →
    StartsAlike monitor p (judged_tree marks monitor p) (text_calls (judged_tree marks monitor p) outside depth) (half_calls p outside' depth)

abbrev pub HalfStartsAgree : Type 0
HalfStartsAgree = InBothMarks StartsAgree

-- ---- with hosts alone

-- the calls of the source's meaning, over the half's own tree, and those of the normal form's
abbrev pub scene_of_hosts : Bool → ProgramTree → FunctionTree → (ℕ → List VarTy) → m.Frame → ℕ → Scene
scene_of_hosts monitor p f frames frame depth = scene_of p f frames frame (calls_within (judged_tree (own_marks monitor p) monitor p) depth) (core_within p depth)

abbrev pub HalfHostsAgree : Type 0
HalfHostsAgree = (monitor : Bool) (p : ProgramTree) → IsTrue (is_sound monitor p) → Declarable p → IsTrue (all_said monitor p) → IsTrue (prototypes_are_hosts p) →
    (depth n : ℕ) (f : FunctionTree) (frames : ℕ → List VarTy) (frame : m.Frame) → IsActive p n f frames frame.depth → CallsAlike (scene_of_hosts monitor p f frames frame depth) (called_signature monitor p)

-- and functions that are entered where nothing is active
abbrev pub HalfHostStartsAgree : Type 0
HalfHostStartsAgree = (monitor : Bool) (p : ProgramTree) → IsTrue (is_sound monitor p) → Declarable p → IsTrue (all_said monitor p) → IsTrue (prototypes_are_hosts p) →
    (depth : ℕ) → StartsAlike monitor p (judged_tree (own_marks monitor p) monitor p) (calls_within (judged_tree (own_marks monitor p) monitor p) depth) (core_within p depth)
