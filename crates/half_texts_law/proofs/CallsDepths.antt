-- Calls come to the same, however deep they go.
use Rattle.std.proofs.Common.{◌≡◌, ◌∙◌, ◌≤◌, ℕ, zero, suc, ◌+◌, ℤ, refl, ap, sym, subst, arith, Bool, true, false, Option, Some, None, List, [], ◌∷◌, ◌++◌, map, length, drop, if◌then◌else◌}
use Rattle.std.specs.Prelude.{◌||◌, is_some, slice_get, unwrap_or}
use Rattle.pt_base.specs.declared.span.Span.{Span}
use Rattle.pt_base.specs.declared.int_type.IntType.{IntType}
use Rattle.pt_base.specs.declared.trap.Trap.TheVariants.{Depth}
use Rattle.pt_tree.specs.declared.signature.Param.{Param}
use Rattle.pt_tree.specs.declared.signature.Signature.{Signature}
use Rattle.pt_tree.specs.PlainNumbers.{plain_numbers}
use Rattle.runs.specs.State.{trapped, ◌>>=◌, noted, guarded_event}
use Rattle.typed_tree.specs.declared.types.VarTy.{VarTy}
use Rattle.typed_tree.specs.StatementTree.{BodyTree, block, body_trees}
use Rattle.typed_tree.specs.TypedTree as trees
use Rattle.typed_tree.specs.TypedTree.{TypedTree}
use Rattle.block_memory.specs.declared.cell.Cell as core
use Rattle.source_meaning.specs.State.{State, Outcome}
use Rattle.source_meaning.specs.Values.{Value, numbers_of}
use Rattle.source_meaning.specs.Expressions as m
use Rattle.source_meaning.specs.Statements as ms
use Rattle.source_meaning.specs.Statements.{statement, all_of}
use Rattle.source_meaning.specs.Functions as mf
use Rattle.source_meaning.specs.Functions.{function_or_none, function_call, entered, opened, body_or_none, brace_of, frame_in}
use Rattle.pt_core.specs.Values as cv
use Rattle.pt_core.specs.CodeTree.{FunctionTree, ProgramTree}
use Rattle.pt_core.specs.Statements as c
use Rattle.pt_core.specs.Statements.{do_all, with_blocks}
use Rattle.pt_core.specs.Calls as cc_
use Rattle.pt_core.specs.WellFormed.{function_at, signature_at, called_signature, with_own, scope_of, context_of}
use Rattle.pt_core.specs.WellFormedStatement.{stmts_fit}
use Rattle.half_trees.specs.Names.{nowhere}
use Rattle.half_meaning_law.specs.Relations.{Scene, frame_of, core_event, Alike, Same}
use Rattle.half_meaning_law.specs.Statements.{AreArguments, GoesOn, GivesResult, CallsAlike, ListedFrom, code_of}
use Rattle.half_meaning_law.proofs.Loops.{alike_left}
use Rattle.half_names_law.specs.Standing.{Marks, statements_at, number_in, scene_of}
use Rattle.half_names_law.specs.Laws.{statements_checked, MeaningKept}
use Rattle.half_names_law.proofs.Locals.{declaration_trees}
use Rattle.half_names_law.proofs.Known.{called_from}
use Rattle.half_names_law.proofs.Trees.{own_result}
use Rattle.half_texts_law.specs.Calls.{text_calls, half_calls, FramesEnd, IsActive, OutsideAlike}
use Rattle.half_texts_law.proofs.CallsFrames.{Leads, types_in, entering}
use Rattle.half_texts_law.proofs.CallsEntering.{as_many}
use Rattle.half_texts_law.proofs.CallsReturns.{all_fit}
use Rattle.half_texts_law.proofs.CallsLocals.{declared_again, opened_clear}
use Rattle.half_texts_law.proofs.CallsScenes.{alike_in, arguments_in, results_in, turn_alike, noted_alike, guarded_same, numbers_same, frames_in, inner_of, ends_in, own_in, entered_alike, returns_alike}

-- the number in the half of the function at this place of the text
abbrev pub number_of : ProgramTree → ℕ → ℕ
number_of p g = number_in 0 (map (λ x. x.0) p.signatures) g

-- ---- what is known of the text

-- what the tree has at the place of a signature
pub record EntryStands (monitor : Bool) (p : ProgramTree) (t : TypedTree) (k : ℕ) (f : ℕ) (s : Signature) : Type 0 where
  pub entry : trees.FunctionTree
  pub there : slice_get t.functions k ≡ Some entry
  pub privileged : entry.signature.privileged ≡ s.privileged
  pub plain : (numbers : List ℤ) → length numbers ≡ length (with_own monitor (function_at p f) s).params → plain_numbers entry.signature.params numbers ≡ plain_numbers s.params numbers
  pub body : is_some entry.body ≡ is_some (function_at p f)

-- what it has of a function with a body
pub record BodyIs (marks : Marks) (monitor : Bool) (p : ProgramTree) (t : TypedTree) (k n : ℕ) (f : FunctionTree) (s : Signature) : Type 0 where
  pub there : slice_get p.functions n ≡ Some f
  pub entry : trees.FunctionTree
  pub entry_there : slice_get t.functions k ≡ Some entry
  pub privileged : entry.signature.privileged ≡ s.privileged
  pub result : entry.signature.result ≡ s.result
  pub vars : map (λ x. x.ty) entry.vars ≡ types_in f.vars
  pub body : entry.body ≡ Some (block nowhere (body_trees (declaration_trees f.params (drop f.params f.vars) ++ (statements_checked p f s (statements_at marks monitor p n f)).bodies)))
  pub exprs : ListedFrom t.exprs (statements_at marks monitor p n f).next (statements_checked p f s (statements_at marks monitor p n f)).trees
  pub found : function_at p f.id ≡ Some f
  pub fits : stmts_fit (scope_of monitor p f s) false f.body ≡ true
  pub leads : Leads (with_own monitor (Some f) s).params (types_in f.vars)
  pub params : length (with_own monitor (Some f) s).params ≡ f.params
  pub enough : f.params + length (drop f.params f.vars) ≤ length (types_in f.vars)
  pub means : MeaningKept marks monitor p n f s

-- all that is known of the text
pub record TextIs (marks : Marks) (monitor : Bool) (p : ProgramTree) (t : TypedTree) : Type 0 where
  pub structs : t.structs ≡ p.structs
  pub globals : map (λ g. g.var.ty) t.globals ≡ map (λ g. g.var.ty) p.globals
  -- where a function's number stands, and there its signature
  pub places : (g : ℕ) (s : Signature) → signature_at p (number_of p g) ≡ Some s → EntryStands monitor p t g (number_of p g) s
  pub bodies : (g : ℕ) (f : FunctionTree) (s : Signature) → signature_at p (number_of p g) ≡ Some s → function_at p (number_of p g) ≡ Some f → (n : ℕ) × (number_of p g ≡ f.id) × BodyIs marks monitor p t g n f s

-- ---- both calls, by cases on whether there is a body

text_inside : TypedTree → m.Calls → ℕ → m.Calls
text_inside t outside zero frame at g vs st = trapped Depth at st
text_inside t outside (suc deeper) frame at g vs st = function_call t (text_calls t outside deeper) frame g vs st

half_inside : ProgramTree → c.Calls → ℕ → c.Calls
half_inside p outside zero frame at f xs st = trapped Depth at st
half_inside p outside (suc deeper) frame at f xs st = cc_.function_call p (half_calls p outside deeper) frame f xs st

text_is : (t : TypedTree) (outside : m.Calls) (depth : ℕ) (frame : m.Frame) (at : Span) (g : ℕ) (vs : List Value) (st : State) → text_calls t outside depth frame at g vs st ≡ (if is_some (function_or_none t g).body then text_inside t outside depth frame at g vs st else outside frame at g vs st)
unfolding text_inside
text_is t outside zero frame at g vs st = refl
text_is t outside (suc deeper) frame at g vs st = refl

half_is : (p : ProgramTree) (outside : c.Calls) (depth : ℕ) (frame : c.Frame) (at : Span) (f : ℕ) (xs : List core.Cell) (st : c.State) → half_calls p outside depth frame at f xs st ≡ (if is_some (function_at p f) then half_inside p outside depth frame at f xs st else outside frame at f xs st)
unfolding half_inside
half_is p outside zero frame at f xs st = refl
half_is p outside (suc deeper) frame at f xs st = refl

-- ---- what is seen of a call

numbers_counted : (us : List Value) → length (numbers_of us) ≡ length us
numbers_counted [] = refl
numbers_counted (u ∷ us) = ap suc (numbers_counted us)

-- the same is seen of a call in both
pub shown : (monitor : Bool) (p : ProgramTree) (t : TypedTree) (g : ℕ) (s : Signature) (f : FunctionTree) (frames : ℕ → List VarTy) (frame : m.Frame) (a : m.Calls) (a' : c.Calls) (vs : List Value) (xs : List core.Cell) (ps : List Param) → EntryStands monitor p t g (number_of p g) s → signature_at p (number_of p g) ≡ Some s →
    AreArguments (scene_of p f frames frame a a') ps vs xs → length vs ≡ length (with_own monitor (function_at p (number_of p g)) s).params →
    guarded_event frame.privileged (cc_.signature_in p (number_of p g)) (number_of p g) (map cv.number_in xs) ≡ map (core_event (scene_of p f frames frame a a')) (guarded_event frame.privileged (function_or_none t g).signature g (numbers_of vs))
shown monitor p t g s f frames frame a a' vs xs ps stands named args long =
    ap (λ o. guarded_event frame.privileged (unwrap_or o cc_.no_signature) (number_of p g) (map cv.number_in xs)) named
    ∙ guarded_same (scene_of p f frames frame a a') frame.privileged stands.entry.signature s g (numbers_of vs) (map cv.number_in xs) stands.privileged (numbers_same (scene_of p f frames frame a a') ps vs xs args)
    (stands.plain (numbers_of vs) (numbers_counted vs ∙ long))
    ∙ ap (λ o. map (core_event (scene_of p f frames frame a a')) (guarded_event frame.privileged (unwrap_or o mf.no_function).signature g (numbers_of vs))) (sym stands.there)

-- ---- the body of a function

-- a function is entered: its variables get their cells, its body runs, and it returns
abbrev text_run : ms.Code → BodyTree → Option IntType → List Value → State → Outcome Value
text_run code body result vs st = statement body code (opened code vs st) >>= mf.returned_from result (brace_of body) code.context.frame.depth

abbrev entered_as : TypedTree → m.Calls → m.Frame → trees.FunctionTree → List Value → State → Outcome Value
entered_as t calls frame g vs st =
    text_run (record { context = record { structs = t.structs; globals = map (λ x. x.var.ty) t.globals; variables = map (λ x. x.ty) g.vars; frame = frame_in frame g.signature; calls = calls }; exprs = t.exprs }) (body_or_none g.body) g.signature.result vs st

abbrev half_run : ProgramTree → c.Calls → c.Frame → FunctionTree → Signature → List core.Cell → c.State → c.Outcome (Option core.Cell)
half_run p calls frame h s xs st =
    do_all h.body frame calls (with_blocks (entering p.structs h.vars frame.depth xs st.memory) st) >>= cc_.returned_from s.result h.end frame.depth

abbrev half_frame : ProgramTree → c.Frame → FunctionTree → Signature → c.Frame
half_frame p frame h s = record { context = context_of p h.vars; depth = frame.depth + 1; privileged = frame.privileged || s.privileged }

-- the text of a function's body, where its variables' declarations come first
abbrev text_body : Marks → Bool → ProgramTree → ℕ → FunctionTree → Signature → BodyTree
text_body marks monitor p n f s = block nowhere (body_trees (declaration_trees f.params (drop f.params f.vars) ++ (statements_checked p f s (statements_at marks monitor p n f)).bodies))

module _ (marks : Marks) (monitor : Bool) (p : ProgramTree) (t : TypedTree) (text : TextIs marks monitor p t) where
  -- what is entered is the function's own text, in the scene of the function
  text_entered : (f h : FunctionTree) (s : Signature) (frames : ℕ → List VarTy) (frame : m.Frame) (calls : m.Calls) (calls' : c.Calls) (g n : ℕ) (vs : List Value) (st : State) → BodyIs marks monitor p t g n h s →
      entered t calls frame g vs st ≡ text_run (code_of (inner_of p h frames frame s.privileged calls calls') t.exprs) (text_body marks monitor p n h s) s.result vs st
  text_entered f h s frames frame calls calls' g n vs st is =
      ap (λ o. entered_as t calls frame (unwrap_or o mf.no_function) vs st) is.entry_there
      ∙ (λ i. text_run (record {
        context = record { structs = text.structs i; globals = text.globals i; variables = is.vars i; frame = record { depth = frame.depth + 1; privileged = frame.privileged || is.privileged i }; calls = calls };
        exprs = t.exprs;
      }) (body_or_none (is.body i)) (is.result i) vs st)

  half_entered : (h : FunctionTree) (s : Signature) (frame : c.Frame) (calls' : c.Calls) (g : ℕ) (xs : List core.Cell) (st : c.State) → function_at p (number_of p g) ≡ Some h → signature_at p (number_of p g) ≡ Some s →
      cc_.body_run p calls' (cc_.inner_frame p frame (number_of p g)) (number_of p g) xs st ≡ half_run p calls' (half_frame p frame h s) h s xs st
  half_entered h s frame calls' g xs st found named =
      λ i. half_run p calls' (half_frame p frame (unwrap_or (found i) cc_.no_function) (unwrap_or (named i) cc_.no_signature)) (unwrap_or (found i) cc_.no_function) (unwrap_or (named i) cc_.no_signature) xs st

  -- the body of a called function, from its entry to its return
  body_alike : (f h : FunctionTree) (s : Signature) (frames : ℕ → List VarTy) (frame : m.Frame) (a calls : m.Calls) (a' calls' : c.Calls) (g n : ℕ) (vs : List Value) (xs : List core.Cell) (st : State) (st' : c.State) → BodyIs marks monitor p t g n h s → FramesEnd frames frame.depth →
      CallsAlike (inner_of p h frames frame s.privileged calls calls') (called_signature monitor p) → AreArguments (scene_of p f frames frame a a') (with_own monitor (Some h) s).params vs xs → Alike (scene_of p f frames frame a a') st st' →
      Same (scene_of p f frames frame a a') (GivesResult (scene_of p f frames frame a a') s.result)
      (text_run (code_of (inner_of p h frames frame s.privileged calls calls') t.exprs) (text_body marks monitor p n h s) s.result vs st)
      (half_run p calls' (frame_of (inner_of p h frames frame s.privileged calls calls')) h s xs st')
  body_alike f h s frames frame a calls a' calls' g n vs xs st st' is ends within args al =
      let i = inner_of p h frames frame s.privileged calls calls' in
      let code = code_of i t.exprs in
      let begins = opened code vs st in
      let begins' = with_blocks (entering p.structs h.vars (frame.depth + 1) xs st'.memory) st' in
      let statements = statements_checked p h s (statements_at marks monitor p n h) in
      let many = as_many (scene_of p f frames frame a a') (with_own monitor (Some h) s).params vs xs args in
      let alike = entered_alike p f h frames frame s.privileged a calls a' calls' t.exprs (with_own monitor (Some h) s).params vs xs st st' ends is.leads args al in
      let mean = is.means (frames_in frames frame.depth (types_in h.vars)) (record { depth = frame.depth + 1; privileged = frame.privileged || s.privileged }) calls calls' (own_in frames frame.depth (types_in h.vars)) within in
      let runs = mean.same t.exprs is.exprs begins begins' alike in
      let again = declared_again h.params (drop h.params h.vars) statements.bodies code begins (opened_clear code begins st.memory vs h.params (drop h.params h.vars) refl (few (many.0 ∙ is.params)) is.enough) in
      returns_alike p f h frames frame s.privileged a calls a' calls' s.result (brace_of (text_body marks monitor p n h s)) h.end (statement (text_body marks monitor p n h s) code begins) (do_all h.body (frame_of i) calls' begins') ends
      (all_fit h.body (scope_of monitor p h s) false (frame_of i) calls' begins' is.fits)
      (subst (λ o. Same i (GoesOn i) o (do_all h.body (frame_of i) calls' begins')) (sym again) runs)
    where
      few : {k : ℕ} → length vs ≡ k → length vs ≤ k
      few e = omega (arith, e)

  -- ---- a call

  inside_alike : (depth : ℕ) (f h : FunctionTree) (s : Signature) (frames : ℕ → List VarTy) (frame : m.Frame) (outside : m.Calls) (outside' : c.Calls) (a : m.Calls) (a' : c.Calls) (at at' : Span) (g n : ℕ) (vs : List Value) (xs : List core.Cell) (st : State) (st' : c.State) →
      ((d : ℕ) → depth ≡ suc d → CallsAlike (inner_of p h frames frame s.privileged (text_calls t outside d) (half_calls p outside' d)) (called_signature monitor p)) →
      function_at p (number_of p g) ≡ Some h → signature_at p (number_of p g) ≡ Some s → BodyIs marks monitor p t g n h s → EntryStands monitor p t g (number_of p g) s → FramesEnd frames frame.depth →
      AreArguments (scene_of p f frames frame a a') (with_own monitor (Some h) s).params vs xs → Alike (scene_of p f frames frame a a') st st' →
      Same (scene_of p f frames frame a a') (GivesResult (scene_of p f frames frame a a') s.result) (text_inside t outside depth frame at g vs st) (half_inside p outside' depth (frame_of (scene_of p f frames frame a a')) at' (number_of p g) xs st')
  unfolding text_inside half_inside
  inside_alike zero f h s frames frame outside outside' a a' at at' g n vs xs st st' within found named is stands ends args al = (refl, al.seen)
  inside_alike (suc d) f h s frames frame outside outside' a a' at at' g n vs xs st st' within found named is stands ends args al =
      let r = scene_of p f frames frame a a' in
      let calls = text_calls t outside d in
      let calls' = half_calls p outside' d in
      let text_events = guarded_event frame.privileged (function_or_none t g).signature g (numbers_of vs) in
      let half_events = guarded_event frame.privileged (cc_.signature_in p (number_of p g)) (number_of p g) (map cv.number_in xs) in
      turn_alike r (GivesResult r s.result) st st' (λ st1. entered t calls frame g vs (noted text_events st1)) (λ st1. cc_.body_run p calls' (cc_.inner_frame p (frame_of r) (number_of p g)) (number_of p g) xs (noted half_events st1)) al
      (λ left.
      let now = noted text_events (record st { left = left }) in
      let now' = noted half_events (record st' { left = left }) in
      subst (λ o. Same r (GivesResult r s.result) o (cc_.body_run p calls' (cc_.inner_frame p (frame_of r) (number_of p g)) (number_of p g) xs now')) (sym (text_entered f h s frames frame calls calls' g n vs now is))
      (subst (λ o. Same r (GivesResult r s.result) (text_run (code_of (inner_of p h frames frame s.privileged calls calls') t.exprs) (text_body marks monitor p n h s) s.result vs now) o) (sym (half_entered h s (frame_of r) calls' g xs now' found named))
      (body_alike f h s frames frame a calls a' calls' g n vs xs now now' is ends (within d refl) args
      (noted_alike r (record st { left = left }) (record st' { left = left }) text_events half_events
      (shown monitor p t g s f frames frame a a' vs xs (with_own monitor (Some h) s).params stands named args (many.0 ∙ ap (λ o. length (with_own monitor o s).params) (sym found))) (alike_left r st st' left al)))))
    where
      many : (length vs ≡ length (with_own monitor (Some h) s).params) × (length xs ≡ length (with_own monitor (Some h) s).params)
      many = as_many (scene_of p f frames frame a a') (with_own monitor (Some h) s).params vs xs args

  -- calls of every function, with what is known of calls that go less deep
  one_call : (depth : ℕ) (outside : m.Calls) (outside' : c.Calls) (n : ℕ) (f : FunctionTree) (frames : ℕ → List VarTy) (frame : m.Frame) → OutsideAlike monitor p outside outside' → IsActive p n f frames frame.depth →
      ((d k : ℕ) (h : FunctionTree) (frames' : ℕ → List VarTy) (frame' : m.Frame) → depth ≡ suc d → IsActive p k h frames' frame'.depth → CallsAlike (scene_of p h frames' frame' (text_calls t outside d) (half_calls p outside' d)) (called_signature monitor p)) →
      CallsAlike (scene_of p f frames frame (text_calls t outside depth) (half_calls p outside' depth)) (called_signature monitor p)
  one_call depth outside outside' n f frames frame others active within at at' g signature vs xs st st' named not_main args al =
      subst (λ o. Same r (GivesResult r signature.result) o (half_calls p outside' depth (frame_of r) at' (number_of p g) xs st')) (sym (text_is t outside depth frame at g vs st))
      (subst (λ o. Same r (GivesResult r signature.result) (if is_some (function_or_none t g).body then text_inside t outside depth frame at g vs st else outside frame at g vs st) o) (sym (half_is p outside' depth (frame_of r) at' (number_of p g) xs st'))
      (subst (λ b. Same r (GivesResult r signature.result) (if b then text_inside t outside depth frame at g vs st else outside frame at g vs st) (if is_some (function_at p (number_of p g)) then half_inside p outside' depth (frame_of r) at' (number_of p g) xs st' else outside' (frame_of r) at' (number_of p g) xs st'))
      (sym (ap (λ (z : trees.FunctionTree). is_some z.body) entry_is ∙ stands.body)) (go (function_at p (number_of p g)) refl)))
    where
      r : Scene
      r = scene_of p f frames frame (text_calls t outside depth) (half_calls p outside' depth)

      from : (s : Signature) × (signature_at p (number_of p g) ≡ Some s) × (with_own monitor (function_at p (number_of p g)) s ≡ signature)
      from = called_from monitor p (number_of p g) signature named

      stands : EntryStands monitor p t g (number_of p g) from.0
      stands = text.places g from.0 from.1

      entry_is : function_or_none t g ≡ stands.entry
      entry_is = ap (λ o. unwrap_or o mf.no_function) stands.there

      with_body : (h : FunctionTree) → function_at p (number_of p g) ≡ Some h → Same r (GivesResult r signature.result) (text_inside t outside depth frame at g vs st) (half_inside p outside' depth (frame_of r) at' (number_of p g) xs st')
      with_body h e =
          let s = from.0 in
          let own : with_own monitor (Some h) s ≡ signature = ap (λ o. with_own monitor o s) (sym e) ∙ from.2 in
          let known = text.bodies g h s from.1 e in
          let is = known.2 in
          subst (λ z. Same r (GivesResult r z) (text_inside t outside depth frame at g vs st) (half_inside p outside' depth (frame_of r) at' (number_of p g) xs st')) (sym (own_result monitor h s) ∙ ap (λ (z : Signature). z.result) own)
          (inside_alike depth f h s frames frame outside outside' (text_calls t outside depth) (half_calls p outside' depth) at at' g known.0 vs xs st st'
          (λ d q. within d known.0 h (frames_in frames frame.depth (types_in h.vars)) (record { depth = frame.depth + 1; privileged = frame.privileged || s.privileged }) q
          (record { there = is.there; own = own_in frames frame.depth (types_in h.vars); ends = ends_in frames frame.depth (types_in h.vars) active.ends }))
          e from.1 is stands active.ends (subst (λ (z : Signature). AreArguments r z.params vs xs) (sym own) args) al)

      without : function_at p (number_of p g) ≡ None → Same r (GivesResult r signature.result) (outside frame at g vs st) (outside' (frame_of r) at' (number_of p g) xs st')
      without e =
          results_in p f frames frame outside (text_calls t outside depth) outside' (half_calls p outside' depth) signature.result (outside frame at g vs st) (outside' (frame_of r) at' (number_of p g) xs st')
          (others n f frames frame active at at' g signature vs xs st st' (ap (λ o. if is_some o then None else called_signature monitor p (number_of p g)) e ∙ named) not_main
          (arguments_in p f frames frame (text_calls t outside depth) outside (half_calls p outside' depth) outside' signature.params vs xs args)
          (alike_in p f frames frame (text_calls t outside depth) outside (half_calls p outside' depth) outside' st st' al))

      go : (o : Option FunctionTree) → function_at p (number_of p g) ≡ o →
          Same r (GivesResult r signature.result) (if is_some o then text_inside t outside depth frame at g vs st else outside frame at g vs st) (if is_some o then half_inside p outside' depth (frame_of r) at' (number_of p g) xs st' else outside' (frame_of r) at' (number_of p g) xs st')
      go None e = without e
      go (Some h) e = with_body h e

  pub calls_alike : (depth : ℕ) (outside : m.Calls) (outside' : c.Calls) (n : ℕ) (f : FunctionTree) (frames : ℕ → List VarTy) (frame : m.Frame) → OutsideAlike monitor p outside outside' → IsActive p n f frames frame.depth →
      CallsAlike (scene_of p f frames frame (text_calls t outside depth) (half_calls p outside' depth)) (called_signature monitor p)
  calls_alike zero outside outside' n f frames frame others active = one_call zero outside outside' n f frames frame others active (λ d k h frames' frame' q a. absurd (never d q))
    where
      never : (d : ℕ) → zero ≡ suc d → ⊥
      never d q = omega (arith, q)
  calls_alike (suc d) outside outside' n f frames frame others active =
      one_call (suc d) outside outside' n f frames frame others active
      (λ e k h frames' frame' q a. subst (λ z. CallsAlike (scene_of p h frames' frame' (text_calls t outside z) (half_calls p outside' z)) (called_signature monitor p)) (less e q) (calls_alike d outside outside' k h frames' frame' others a))
    where
      less : (e : ℕ) → suc d ≡ suc e → d ≡ e
      less e q = omega (arith, q)

  -- a function that is entered from wherever these frames are
  pub entered_alike_from : (depth : ℕ) (f h : FunctionTree) (s : Signature) (frames : ℕ → List VarTy) (frame : m.Frame) (outside : m.Calls) (outside' : c.Calls) (a : m.Calls) (a' : c.Calls) (g n : ℕ) (vs : List Value) (xs : List core.Cell) (st : State) (st' : c.State) → OutsideAlike monitor p outside outside' →
      function_at p (number_of p g) ≡ Some h → signature_at p (number_of p g) ≡ Some s → BodyIs marks monitor p t g n h s → EntryStands monitor p t g (number_of p g) s → FramesEnd frames frame.depth →
      AreArguments (scene_of p f frames frame a a') (with_own monitor (Some h) s).params vs xs → Alike (scene_of p f frames frame a a') st st' →
      Same (scene_of p f frames frame a a') (GivesResult (scene_of p f frames frame a a') s.result) (function_call t (text_calls t outside depth) frame g vs st) (cc_.function_call p (half_calls p outside' depth) (frame_of (scene_of p f frames frame a a')) (number_of p g) xs st')
  unfolding text_inside half_inside
  entered_alike_from depth f h s frames frame outside outside' a a' g n vs xs st st' others found named is stands ends args al =
      inside_alike (suc depth) f h s frames frame outside outside' a a' nowhere nowhere g n vs xs st st'
      (λ e q. subst (λ z. CallsAlike (inner_of p h frames frame s.privileged (text_calls t outside z) (half_calls p outside' z)) (called_signature monitor p)) (less e q)
      (calls_alike depth outside outside' n h (frames_in frames frame.depth (types_in h.vars)) (record { depth = frame.depth + 1; privileged = frame.privileged || s.privileged }) others
      (record { there = is.there; own = own_in frames frame.depth (types_in h.vars); ends = ends_in frames frame.depth (types_in h.vars) ends })))
      found named is stands ends args al
    where
      less : (e : ℕ) → suc depth ≡ suc e → depth ≡ e
      less e q = omega (arith, q)
