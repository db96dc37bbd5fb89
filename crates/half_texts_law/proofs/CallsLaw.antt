-- The laws of calls and of functions.
use Rattle.std.proofs.Common.{◌≡◌, ◌∙◌, ℕ, zero, suc, refl, ap, sym, subst, Bool, true, Some, List, [], if◌then◌else◌}
use Rattle.std.specs.Prelude.{is_some, slice_get}
use Rattle.pt_base.proofs.Members.{all_true_at}
use Rattle.pt_tree.specs.declared.signature.Signature.{Signature}
use Rattle.runs.specs.State.{◌>>=◌, take_turn, noted, guarded_event}
use Rattle.typed_tree.specs.declared.types.StructInfo.{StructInfo}
use Rattle.typed_tree.specs.TypedTree.{TypedTree}
use Rattle.source_meaning.specs.Memory.{with_frame}
use Rattle.source_meaning.specs.State.{State}
use Rattle.source_meaning.specs.Values.{Value, numbers_of, frame_cells}
use Rattle.source_meaning.specs.Expressions as m
use Rattle.source_meaning.specs.Functions.{function_or_none, function_call, entered, code_at, body_at, brace_of, frame_in, returned_from}
use Rattle.pt_core.specs.CodeTree.{FunctionTree, ProgramTree}
use Rattle.pt_core.specs.WellFormed.{is_sound, called_signature, signature_at, function_fits}
use Rattle.pt_core.specs.Calls.{no_function, function_call as core_call}
use Rattle.half_meaning_law.specs.Relations.{frame_of, Same}
use Rattle.half_meaning_law.specs.Statements.{GivesResult, BodiesKeepTheirMeaning, CallsAlike}
use Rattle.half_names_law.specs.Declarable.{Declarable}
use Rattle.half_names_law.specs.Standing.{Marks, own_marks, whole_marks, scene_of, all_said}
use Rattle.half_names_law.specs.Laws.{judged_tree, BodyStands, MeaningKept}
use Rattle.half_names_law.proofs.Premises.{MarksSay}
use Rattle.half_names_law.proofs.Halves.{soundness, signature_there}
use Rattle.half_names_law.proofs.Law.{functions_differ, meanings}
use Rattle.half_names_law.proofs.Marks.{whole_say, own_say}
use Rattle.half_names_law.proofs.Trees.{bodies_stand}
use Rattle.half_texts_law.specs.Calls.{text_calls, half_calls}
use Rattle.half_texts_law.specs.CallsLaws.{start_scene, CallsAgree, FunctionsAgree, StartsAgree, HalfCallsAgree, HalfFunctionsAgree, HalfStartsAgree}
use Rattle.half_texts_law.proofs.CallsStructs.{SameTypes, same_types, statement_same}
use Rattle.half_texts_law.proofs.CallsDepths.{number_of, calls_alike, entered_alike_from}
use Rattle.half_texts_law.proofs.CallsEntries.{at_number, tree, text_is}

-- ---- with structs of the same types

abbrev with_types : TypedTree → List StructInfo → TypedTree
with_types t b = record t { structs = b }

entered_same : (t : TypedTree) (b : List StructInfo) (h : SameTypes t.structs b) (calls : m.Calls) (frame : m.Frame) (g : ℕ) (vs : List Value) (st : State) → entered t calls frame g vs st ≡ entered (with_types t b) calls frame g vs st
entered_same t b h calls frame g vs st =
    let function = function_or_none t g in
    let inner = frame_in frame function.signature in
    let code = code_at t g inner calls in
    λ i. statement_same (body_at t g) code b h i (record st { memory = with_frame st.memory inner.depth (frame_cells (h.sizes_are i) code.context.variables vs) }) >>= returned_from function.signature.result (brace_of (body_at t g)) inner.depth

call_same : (t : TypedTree) (b : List StructInfo) (h : SameTypes t.structs b) (calls calls' : m.Calls) → calls ≡ calls' → function_call t calls ≡ function_call (with_types t b) calls'
call_same t b h calls calls' same =
    ap (function_call t) same
    ∙ (λ i frame g vs st. take_turn st.left st (λ st1. entered_same t b h calls' frame g vs (noted (guarded_event frame.privileged (function_or_none t g).signature g (numbers_of vs)) st1) i))

pub calls_same : (t : TypedTree) (b : List StructInfo) (h : SameTypes t.structs b) (outside : m.Calls) (depth : ℕ) → text_calls t outside depth ≡ text_calls (with_types t b) outside depth
calls_same t b h outside zero = refl
calls_same t b h outside (suc d) =
    let inner = call_same t b h (text_calls t outside d) (text_calls (with_types t b) outside d) (calls_same t b h outside d) in
    λ i frame s g vs st. if is_some (function_or_none t g).body then inner i frame g vs st else outside frame s g vs st

-- ---- with these marks

module _ (bodies : BodiesKeepTheirMeaning) (marks : Marks) (monitor : Bool) (p : ProgramTree) (h : is_sound monitor p ≡ true) (d : Declarable p) (said_all : all_said monitor p ≡ true) (say : MarksSay marks p)
    (same : (name : List ℕ) → (marks name).params ≡ (own_marks monitor p name).params)
    (stand : (n : ℕ) (f : FunctionTree) (s : Signature) → slice_get p.functions n ≡ Some f → signature_at p f.id ≡ Some s → BodyStands marks monitor p n f s)
    (means : (n : ℕ) (f : FunctionTree) (s : Signature) → slice_get p.functions n ≡ Some f → signature_at p f.id ≡ Some s → MeaningKept marks monitor p n f s) where
  pub types_same : (n : ℕ) (f : FunctionTree) → slice_get p.functions n ≡ Some f → SameTypes (judged_tree marks monitor p).structs p.structs
  types_same n f there =
      let signature = signature_there monitor p f (all_true_at (function_fits monitor p) p.functions n f (soundness monitor p h).functions there) in
      same_types (judged_tree marks monitor p).structs p.structs (stand n f signature.0 there signature.1).structs

  pub calls : CallsAgree marks monitor p
  calls outside outside' others depth n f frames frame active =
      subst (λ k. CallsAlike (scene_of p f frames frame k (half_calls p outside' depth)) (called_signature monitor p)) (sym (calls_same (judged_tree marks monitor p) p.structs (types_same n f active.there) outside depth))
      (calls_alike marks monitor p (tree bodies marks monitor p h d said_all say same stand means) (text_is bodies marks monitor p h d said_all say same stand means) depth outside outside' n f frames frame others active)

  pub functions : FunctionsAgree marks monitor p
  functions outside outside' others depth n f s frames frame active named =
      means n f s active.there named frames frame (text_calls (judged_tree marks monitor p) outside depth) (half_calls p outside' depth) active.own (calls outside outside' others depth n f frames frame active)

  pub starts : StartsAgree marks monitor p
  starts outside outside' others depth g frame f s vs xs st st' found named args al =
      let typed = judged_tree marks monitor p in
      let at = at_number p (number_of p g) f found in
      let types = types_same at.0 f at.1 in
      let text = text_is bodies marks monitor p h d said_all say same stand means in
      let known = text.bodies g f s named found in
      let start = start_scene p frame (text_calls typed outside depth) (half_calls p outside' depth) in
      subst (λ k. Same start (GivesResult start s.result) (k frame g vs st) (core_call p (half_calls p outside' depth) (frame_of start) (number_of p g) xs st'))
      (sym (call_same typed p.structs types (text_calls typed outside depth) (text_calls (with_types typed p.structs) outside depth) (calls_same typed p.structs types outside depth)))
      (entered_alike_from marks monitor p (tree bodies marks monitor p h d said_all say same stand means) text depth no_function f s (λ e. []) frame outside outside' (text_calls typed outside depth) (half_calls p outside' depth) g known.0 vs xs st st' others found named known.2
      (text.places g s named) (λ e less. refl) args al)

-- ---- with both marks

pub half_calls_agree : BodiesKeepTheirMeaning → HalfCallsAgree
half_calls_agree bodies monitor p h d said_all =
    let sound = soundness monitor p h in
    let apart = functions_differ monitor p h d in (
      calls bodies (whole_marks monitor p) monitor p h d said_all (whole_say monitor p sound apart) (λ name. refl) (λ n f s there named. (bodies_stand bodies monitor p n f s h d said_all there named).0) (λ n f s there named. (meanings bodies monitor p n f s h d said_all there named).0),
      λ plain. calls bodies (own_marks monitor p) monitor p h d said_all (own_say monitor p sound apart plain) (λ name. refl) (λ n f s there named. (bodies_stand bodies monitor p n f s h d said_all there named).1 plain) (λ n f s there named. (meanings bodies monitor p n f s h d said_all there named).1 plain),
    )

pub half_functions_agree : BodiesKeepTheirMeaning → HalfFunctionsAgree
half_functions_agree bodies monitor p h d said_all =
    let sound = soundness monitor p h in
    let apart = functions_differ monitor p h d in (
      functions bodies (whole_marks monitor p) monitor p h d said_all (whole_say monitor p sound apart) (λ name. refl) (λ n f s there named. (bodies_stand bodies monitor p n f s h d said_all there named).0) (λ n f s there named. (meanings bodies monitor p n f s h d said_all there named).0),
      λ plain. functions bodies (own_marks monitor p) monitor p h d said_all (own_say monitor p sound apart plain) (λ name. refl) (λ n f s there named. (bodies_stand bodies monitor p n f s h d said_all there named).1 plain) (λ n f s there named. (meanings bodies monitor p n f s h d said_all there named).1 plain),
    )

pub half_starts_agree : BodiesKeepTheirMeaning → HalfStartsAgree
half_starts_agree bodies monitor p h d said_all =
    let sound = soundness monitor p h in
    let apart = functions_differ monitor p h d in (
      starts bodies (whole_marks monitor p) monitor p h d said_all (whole_say monitor p sound apart) (λ name. refl) (λ n f s there named. (bodies_stand bodies monitor p n f s h d said_all there named).0) (λ n f s there named. (meanings bodies monitor p n f s h d said_all there named).0),
      λ plain. starts bodies (own_marks monitor p) monitor p h d said_all (own_say monitor p sound apart plain) (λ name. refl) (λ n f s there named. (bodies_stand bodies monitor p n f s h d said_all there named).1 plain) (λ n f s there named. (meanings bodies monitor p n f s h d said_all there named).1 plain),
    )
