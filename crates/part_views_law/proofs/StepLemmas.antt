-- What is seen of steps.
use Rattle.std.proofs.Common.{◌≡◌, ◌∙◌, ◌+◌, ◌<◌, ◌≤◌, ℕ, suc, List, [], ◌∷◌, map, refl, sym, ap, subst, arith, Bool, true, false, nat_lt, nat_le, ◌&&◌, ◌||◌, inl, inr, if◌then◌else◌, Option, Some, None, Result, Ok, Err, IfOk}
use Rattle.std.specs.Prelude.{ℤ, IsTrue, is_some, not}
use Rattle.std.specs.Option.{option_map}
use Rattle.std.proofs.lemmas.Bool.{or_parts, ltb-true, ltb-false}
use Rattle.pt_base.specs.declared.int_type.IntType.{IntType}
use Rattle.pt_base.specs.declared.span.Span.{Span}
use Rattle.pt_base.specs.declared.trap.Trap.TheVariants.{Depth}
use Rattle.pt_base.proofs.Booleans.{both_hold_first, both_hold_second, false_not_true}
use Rattle.pt_tree.specs.declared.signature.Param.{Param}
use Rattle.pt_tree.specs.declared.signature.Signature.{Signature}
use Rattle.typed_tree.specs.TypeTests.{same_type}
use Rattle.typed_tree.specs.WellFormedExpression.{is_main, param_type}
use Rattle.typed_tree.specs.TypeTests.{both_int, integer_of, is_scalar}
use Rattle.typed_tree.specs.declared.variable.Var.{Var}
use Rattle.runs.specs.Run.{deepest}
use Rattle.block_memory.specs.declared.cell.Cell.{Cell}
use Rattle.block_memory.specs.Blocks.{Blocks, with_frame, without_frames}
use Rattle.pt_core.specs.CodeTree.{ExprTree, ExprTrees, no_exprs, expr_and, FunctionTree, ProgramTree, StmtTree, clear, check, assign, copy, call, choose, repeat, break_out, continue_on, give_back, StmtTrees, no_stmts, stmt_and}
use Rattle.pt_core.specs.Types.{Context, place_type, shape_of, type_of}
use Rattle.pt_core.specs.Values.{Stop, location_of, number_in, value_of, values_of}
use Rattle.pt_core.specs.Statements.{assigned, cleared, copied, kept, returned_value}
use Rattle.pt_core.specs.Calls.{context_in, entered, function_in, number_cell, signature_in, with_arguments}
use Rattle.pt_core.specs.Steps.{Active, Gate, Machine, Step, Way, Work, act, answers, asked, at_end, away, awaiting, begins, by_way, enters, enters_at, goes_away, head, here, just_entered, made, made_here, moved, on_value, returned, run, spent, trapped, turned, with_blocks, with_turn, working, works}
use Rattle.pt_core.specs.WellFormed.{called_signature, function_at, signature_at, with_own}
use Rattle.pt_core.specs.WellFormedExpression.{expr_fits, place_fits, stands_for}
use Rattle.pt_core.specs.WellFormedStatement.{Scope, arguments_fit, call_fits, is_compound, result_fits, return_fits, stmt_fits, stmts_fit, value_fits}
use Rattle.core_soundness_law.specs.Fits.{is_looped, scope_in, work_fits}
use Rattle.handle_classes.specs.Computes.{computes, computes_call, computes_return, computes_status, computes_work, has_handle, if_given, is_handle, meet_any, meets, meets_at}
use Rattle.part_views_law.specs.Machines.{Below, joined, seated, seen_machine}
use Rattle.part_views_law.specs.Views.{View, seen, seen_cell}
use Rattle.part_views_law.proofs.Memories.{arguments_seen, frame_seen, freed_seen, kept_seen}
use Rattle.part_views_law.specs.StepsLaws.{StepSeen}
use Rattle.part_views_law.specs.StepsParts.{AllAbove, GatesAgree, HasSignature, IsPart, IsViewed}
use Rattle.part_views_law.proofs.StepsCells.{Known, IsPlain, OwnCell, OwnPlace, also_known, holds_seen, numbers_seen, plain_known, seen_place, with_ok}
use Rattle.part_views_law.proofs.StepsValues.{Always, Reads, exprs_fit, in_whole, place_known, value_known, values_known}
use Rattle.part_views_law.proofs.StepsStatements.{assigned_known, cleared_seen, copied_known, return_expr_fits, return_meets, returned_known}

-- ---- what doesn't change, and the machine's own at the innermost function

pub record Env {H G : Type 0} (Alike : H → G → Type 0) : Type 0 where
  pub whole : ProgramTree
  pub part : ProgramTree
  pub outer : Gate H
  pub inner : Gate G
  pub v : View
  pub base : ℕ
  pub monitor : Bool
  pub below : Below
  pub turns : ℕ
  pub n : ℕ
  pub viewed : IsViewed v base monitor part whole
  pub gates : GatesAgree v part monitor inner outer Alike

pub record Scene {H G : Type 0} (Alike : H → G → Type 0) (w : Env Alike) (x : Machine) (h : H) (g : G) (a : Active) (rest : List Active) : Type 0 where
  pub known : IsTrue (is_some (function_at w.part a.function))
  pub above : w.base < a.depth
  pub same : a.privileged ≡ w.monitor
  pub others : AllAbove w.base w.monitor rest
  pub reads : Reads w.v (context_in w.part a.function) (context_in w.whole a.function).globals a.depth x.blocks
  pub entered : (f : ℕ) (args : List Cell) → HasSignature w.part f → w.inner.way g f args ≡ enters → IsTrue (is_some (function_at w.part f))
  pub left : w.n ≤ x.budget + w.turns
  pub alike : Alike h g

abbrev at_seen : {H G : Type 0} (Alike : H → G → Type 0) (w : Env Alike) → Machine → Machine
at_seen Alike w x = seen_machine w.v w.below w.turns w.n x

abbrev pub Seen : {H G : Type 0} (Alike : H → G → Type 0) (w : Env Alike) → H → Step H → Step G → Type 0
Seen Alike w h big small = StepSeen Alike w.v w.below w.turns w.n h big small

-- what a function of the part names in the whole
pub context_same : (whole part : ProgramTree) → IsPart part whole → (f : ℕ) → IsTrue (is_some (function_at part f)) → context_in whole f ≡ in_whole (context_in whole f).globals (context_in part f)
context_same whole part parts f known =
    let same = parts.functions f known in
    λ i. record { structs = parts.structs i; globals = (context_in whole f).globals; variables = map (λ (y : Var). y.ty) (same i).vars }

-- so it is with what holds in that context
in_context : {H G : Type 0} (Alike : H → G → Type 0) (w : Env Alike) (f : ℕ) → IsTrue (is_some (function_at w.part f)) → (P : Context → Type 0) → P (in_whole (context_in w.whole f).globals (context_in w.part f)) → P (context_in w.whole f)
in_context {H} {G} Alike w f known P holds = subst P (sym (context_same w.whole w.part w.viewed.parts f known)) holds

-- ---- parts of steps

-- both have moved, to a machine and what is seen of it
moves : {H G : Type 0} (Alike : H → G → Type 0) (w : Env Alike) (h h' : H) (g' : G) (big small : Machine) → big ≡ at_seen Alike w small → Alike h' g' → Seen Alike w h (answers moved big h') (answers moved small g')
moves {H} {G} Alike w h h' g' big small e alike = λ _. inl (record { answer = refl; machine = e; gate = alike })

value_then : {H G A : Type 0} (Alike : H → G → Type 0) (w : Env Alike) (f : A → A) (P : A → Type 0) (big small : Result A Stop) (x : Machine) (h : H) (g : G) (next' : A → Step H) (next : A → Step G) → Alike h g → Known f P big small →
    ((a : A) → P a → Seen Alike w h (next' (f a)) (next a)) → Seen Alike w h (on_value big (at_seen Alike w x) h next') (on_value small x g next)
value_then {H} {G} {A} Alike w f P big small x h g next' next alike k goes_on =
    subst (λ r. Seen Alike w h (on_value r (at_seen Alike w x) h next') (on_value small x g next)) (sym k.sight) (go small k.own)
  where
    go : (r : Result A Stop) → IfOk r P → Seen Alike w h (on_value (with_ok f r) (at_seen Alike w x) h next') (on_value r x g next)
    go (Ok a) p = goes_on a p
    go (Err stop) p = λ _. inl (record { answer = refl; machine = refl; gate = alike })

turn_seen : {H G : Type 0} (Alike : H → G → Type 0) (w : Env Alike) (m : Machine) (h : H) (g : G) (next' : Machine → Step H) (next : Machine → Step G) → w.n ≤ m.budget + w.turns → Alike h g → (next (with_turn m)).machine.turns ≡ suc m.turns →
    Seen Alike w h (next' (at_seen Alike w (with_turn m))) (next (with_turn m)) →
    Seen Alike w h (turned (at_seen Alike w m) h next') (turned m g next)
turn_seen {H} {G} Alike w m h g next' next left alike taken goes_on = go (nat_lt m.turns m.budget) refl (nat_lt (m.turns + w.turns) w.n) refl
  where
    same : with_turn (at_seen Alike w m) ≡ at_seen Alike w (with_turn m)
    same = ap (λ (t : ℕ). record (at_seen Alike w m) { turns = t }) (let e : suc (m.turns + w.turns) ≡ suc m.turns + w.turns = omega arith in e)

    go : (t : Bool) → nat_lt m.turns m.budget ≡ t → (u : Bool) → nat_lt (m.turns + w.turns) w.n ≡ u →
        Seen Alike w h (if u then next' (with_turn (at_seen Alike w m)) else answers spent (at_seen Alike w m) h) (if t then next (with_turn m) else answers spent m g)
    go true e true e' = subst (λ m1. Seen Alike w h (next' m1) (next (with_turn m))) (sym same) goes_on
    go true e false e' = λ _. inr (record { answer = refl; gate = refl; over = let le : w.n ≤ m.turns + w.turns = ltb-false (m.turns + w.turns) w.n e' in let now : (next (with_turn m)).machine.turns ≡ suc m.turns = taken in omega arith })
    go false e true e' =
        let more : m.turns + w.turns < w.n = ltb-true (m.turns + w.turns) w.n e' in
        let less : m.budget ≤ m.turns = ltb-false m.turns m.budget e in
        absurd (omega arith)
    go false e false e' = λ _. inl (record { answer = refl; machine = refl; gate = alike })

-- the round of a loop begins
begins_seen : {H G : Type 0} (Alike : H → G → Type 0) (w : Env Alike) (x : Machine) (h : H) (g : G) (a : Active) (rest : List Active) (body : StmtTrees) (work : List Work) → Scene Alike w x h g a rest →
    Seen Alike w h (begins (at_seen Alike w x) h (seated w.below rest a) (joined w.below rest) body work) (begins x g a rest body work)
begins_seen {H} {G} Alike w x h g a rest body work s =
    turn_seen Alike w x h g
    (λ m1. answers moved (working m1 (seated w.below rest a) (joined w.below rest) (run body ∷ head body ∷ work)) h)
    (λ m1. answers moved (working m1 a rest (run body ∷ head body ∷ work)) g)
    s.left s.alike refl
    (moves Alike w h h g (working (at_seen Alike w (with_turn x)) (seated w.below rest a) (joined w.below rest) (run body ∷ head body ∷ work)) (working (with_turn x) a rest (run body ∷ head body ∷ work)) refl s.alike)

-- ---- returns

returned_seen : {H G : Type 0} (Alike : H → G → Type 0) (w : Env Alike) (x : Machine) (h : H) (g : G) (a : Active) (rest : List Active) (o : Option Cell) → Scene Alike w x h g a rest →
    Seen Alike w h (returned (at_seen Alike w x) h (seated w.below rest a) (joined w.below rest) (option_map (seen_cell w.v) o)) (returned x g a rest o)
returned_seen {H} {G} Alike w x h g a [] o s = λ own. absurd own
returned_seen {H} {G} Alike w x h g a (caller ∷ rest) o s =
    moves Alike w h h g
    (record (at_seen Alike w x) { active = seated w.below rest caller ∷ joined w.below rest; blocks = kept caller.depth a.result (option_map (seen_cell w.v) o) (without_frames (seen w.v x.blocks) a.depth) })
    (record x { active = caller ∷ rest; blocks = kept caller.depth a.result o (without_frames x.blocks a.depth) })
    (ap (λ (blocks : Blocks). record (at_seen Alike w x) { active = seated w.below rest caller ∷ joined w.below rest; blocks = blocks })
    (ap (λ (blocks : Blocks). kept caller.depth a.result (option_map (seen_cell w.v) o) blocks) (freed_seen w.v w.base w.part w.viewed.view x.blocks a.depth s.above)
    ∙ kept_seen w.v w.base w.part w.viewed.view (without_frames x.blocks a.depth) caller.depth a.result o s.others.0)) s.alike

-- at the end of its code
end_seen : {H G : Type 0} (Alike : H → G → Type 0) (w : Env Alike) (x : Machine) (h : H) (g : G) (a : Active) (rest : List Active) → Scene Alike w x h g a rest →
    Seen Alike w h (at_end (signature_in w.whole a.function).result (function_in w.whole a.function).end (at_seen Alike w x) h (seated w.below rest a) (joined w.below rest))
    (at_end (signature_in w.part a.function).result (function_in w.part a.function).end x g a rest)
end_seen {H} {G} Alike w x h g a rest s =
    subst (λ (j : Option IntType). Seen Alike w h (at_end j (function_in w.whole a.function).end (at_seen Alike w x) h (seated w.below rest a) (joined w.below rest)) (at_end (signature_in w.part a.function).result (function_in w.part a.function).end x g a rest)) (sym (w.viewed.parts.signatures a.function s.known).result)
    (subst (λ (j : FunctionTree). Seen Alike w h (at_end (signature_in w.part a.function).result j.end (at_seen Alike w x) h (seated w.below rest a) (joined w.below rest)) (at_end (signature_in w.part a.function).result (function_in w.part a.function).end x g a rest)) (sym (w.viewed.parts.functions a.function s.known))
    (go (signature_in w.part a.function).result))
  where
    go : (t : Option IntType) → Seen Alike w h (at_end t (function_in w.part a.function).end (at_seen Alike w x) h (seated w.below rest a) (joined w.below rest)) (at_end t (function_in w.part a.function).end x g a rest)
    go None = returned_seen Alike w x h g a rest None s
    go (Some t) = λ _. inl (record { answer = refl; machine = refl; gate = s.alike })

-- ---- calls

entered_seen : {H G : Type 0} (Alike : H → G → Type 0) (w : Env Alike) (f depth : ℕ) (args : List Cell) (blocks : Blocks) → IsTrue (is_some (function_at w.part f)) → w.base < depth →
    entered w.whole f depth (map (seen_cell w.v) args) (seen w.v blocks) ≡ seen w.v (entered w.part f depth args blocks)
entered_seen {H} {G} Alike w f depth args blocks known above =
    let same = w.viewed.parts.functions f known in
    (λ i. with_arguments (with_frame (seen w.v blocks) depth (map (λ (y : Var). shape_of (w.viewed.parts.structs i) y.ty) (same i).vars)) depth 0 (map (seen_cell w.v) args))
    ∙ ap (λ (bs : Blocks). with_arguments bs depth 0 (map (seen_cell w.v) args)) (frame_seen w.v w.base w.part w.viewed.view blocks depth (map (λ (y : Var). shape_of w.part.structs y.ty) (function_in w.part f).vars) above)
    ∙ arguments_seen w.v w.base w.part w.viewed.view (with_frame blocks depth (map (λ (y : Var). shape_of w.part.structs y.ty) (function_in w.part f).vars)) depth 0 args above

-- a machine in which a function was just entered
abbrev with_entered : ProgramTree → Bool → ℕ → ℕ → List Cell → Option ℕ → Machine → Machine
with_entered program privileged f depth args result m = record m { active = just_entered program (privileged || (signature_in program f).privileged) f depth result ∷ m.active; blocks = entered program f depth args m.blocks }

enters_seen : {H G : Type 0} (Alike : H → G → Type 0) (w : Env Alike) (x : Machine) (h : H) (g : G) (a : Active) (rest : List Active) (work : List Work) (f : ℕ) (args : List Cell) (result : Option ℕ) (span : Span) → Scene Alike w x h g a rest →
    IsTrue (is_some (function_at w.part f)) → Alike (w.outer.noted w.monitor f (map (seen_cell w.v) args) h) (w.inner.noted w.monitor f args g) →
    Seen Alike w h (enters_at w.whole w.outer (working (at_seen Alike w x) (seated w.below rest a) (joined w.below rest) work) h span f (map (seen_cell w.v) args) result (a.depth + 1)) (enters_at w.part w.inner (working x a rest work) g span f args result (a.depth + 1))
enters_seen {H} {G} Alike w x h g a rest work f args result span s known alike = go (nat_le (a.depth + 1) deepest)
  where
    same : function_in w.whole f ≡ function_in w.part f
    same = w.viewed.parts.functions f known

    signed : (signature_in w.whole f).privileged ≡ (signature_in w.part f).privileged
    signed = (w.viewed.parts.signatures f known).privileged

    blocks : entered w.whole f (a.depth + 1) (map (seen_cell w.v) args) (seen w.v x.blocks) ≡ seen w.v (entered w.part f (a.depth + 1) args x.blocks)
    blocks = entered_seen Alike w f (a.depth + 1) args x.blocks known (let above : w.base < a.depth = s.above in omega arith)

    go : (t : Bool) → Seen Alike w h
        (if t then turned (working (at_seen Alike w x) (seated w.below rest a) (joined w.below rest) work) h (λ m1. answers moved (with_entered w.whole a.privileged f (a.depth + 1) (map (seen_cell w.v) args) result m1) (w.outer.noted a.privileged f (map (seen_cell w.v) args) h)) else answers (trapped Depth span) (working (at_seen Alike w x) (seated w.below rest a) (joined w.below rest) work) h)
        (if t then turned (working x a rest work) g (λ m1. answers moved (with_entered w.part a.privileged f (a.depth + 1) args result m1) (w.inner.noted a.privileged f args g)) else answers (trapped Depth span) (working x a rest work) g)
    go true =
        turn_seen Alike w (working x a rest work) h g
        (λ m1. answers moved (with_entered w.whole a.privileged f (a.depth + 1) (map (seen_cell w.v) args) result m1) (w.outer.noted a.privileged f (map (seen_cell w.v) args) h))
        (λ m1. answers moved (with_entered w.part a.privileged f (a.depth + 1) args result m1) (w.inner.noted a.privileged f args g))
        s.left s.alike refl
        (moves Alike w h (w.outer.noted a.privileged f (map (seen_cell w.v) args) h) (w.inner.noted a.privileged f args g)
        (with_entered w.whole a.privileged f (a.depth + 1) (map (seen_cell w.v) args) result (at_seen Alike w (with_turn (working x a rest work))))
        (with_entered w.part a.privileged f (a.depth + 1) args result (with_turn (working x a rest work)))
        (λ i. record {
          active = record { function = f; depth = a.depth + 1; privileged = a.privileged || signed i; result = result; work = run (same i).body ∷ [] } ∷ seated w.below rest (record a { work = work }) ∷ joined w.below rest;
          blocks = blocks i;
          turns = suc x.turns + w.turns;
          budget = w.n;
          awaits = None;
        })
        (subst (λ p. Alike (w.outer.noted p f (map (seen_cell w.v) args) h) (w.inner.noted p f args g)) (sym s.same) alike))
    go false = λ _. inl (record { answer = refl; machine = refl; gate = s.alike })

number_cell_seen : (v : View) (o : Option ℤ) → number_cell o ≡ option_map (seen_cell v) (number_cell o)
number_cell_seen v None = refl
number_cell_seen v (Some k) = refl

-- hosts that answer alike
abbrev AnswersAlike : {H G : Type 0} (Alike : H → G → Type 0) (w : Env Alike) → H → G → Bool → ℕ → List Cell → Type 0
AnswersAlike {H} {G} Alike w h g p f args =
    ((w.outer.answer f (map number_in args) (w.outer.noted p f (map (seen_cell w.v) args) h)).0 ≡ (w.inner.answer f (map number_in args) (w.inner.noted p f args g)).0)
    × Alike (w.outer.answer f (map number_in args) (w.outer.noted p f (map (seen_cell w.v) args) h)).1 (w.inner.answer f (map number_in args) (w.inner.noted p f args g)).1

made_with : {H G : Type 0} (Alike : H → G → Type 0) (w : Env Alike) (h : H) (m : Machine) (depth : ℕ) (result : Option ℕ) (big : Option ℤ × H) (small : Option ℤ × G) → w.base < depth → big.0 ≡ small.0 → Alike big.1 small.1 →
    Seen Alike w h (made (at_seen Alike w m) depth result big) (made m depth result small)
made_with {H} {G} Alike w h m depth result big small above reply alike =
    moves Alike w h big.1 small.1
    (record (at_seen Alike w m) { blocks = kept depth result (number_cell big.0) (seen w.v m.blocks) }) (record m { blocks = kept depth result (number_cell small.0) m.blocks })
    (ap (λ (blocks : Blocks). record (at_seen Alike w m) { blocks = blocks })
    (ap (λ (o : Option Cell). kept depth result o (seen w.v m.blocks)) (ap number_cell reply ∙ number_cell_seen w.v small.0)
    ∙ kept_seen w.v w.base w.part w.viewed.view m.blocks depth result (number_cell small.0) above)) alike

made_seen : {H G : Type 0} (Alike : H → G → Type 0) (w : Env Alike) (x : Machine) (h : H) (g : G) (a : Active) (rest : List Active) (work : List Work) (f : ℕ) (args : List Cell) (result : Option ℕ) → Scene Alike w x h g a rest →
    AnswersAlike Alike w h g w.monitor f args → has_handle args ≡ false →
    Seen Alike w h (made_here w.whole w.outer (working (at_seen Alike w x) (seated w.below rest a) (joined w.below rest) work) h f (map (seen_cell w.v) args) result a.depth) (made_here w.part w.inner (working x a rest work) g f args result a.depth)
made_seen {H} {G} Alike w x h g a rest work f args result s alike plain =
    turn_seen Alike w (working x a rest work) h g
    (λ m1. made m1 a.depth result (w.outer.answer f (map number_in (map (seen_cell w.v) args)) (w.outer.noted a.privileged f (map (seen_cell w.v) args) h)))
    (λ m1. made m1 a.depth result (w.inner.answer f (map number_in args) (w.inner.noted a.privileged f args g)))
    s.left s.alike refl
    (subst (λ ks. Seen Alike w h (made (at_seen Alike w (with_turn (working x a rest work))) a.depth result (w.outer.answer f ks (w.outer.noted a.privileged f (map (seen_cell w.v) args) h)))
    (made (with_turn (working x a rest work)) a.depth result (w.inner.answer f (map number_in args) (w.inner.noted a.privileged f args g))))
    (sym (numbers_seen w.v args plain))
    (made_with Alike w h (with_turn (working x a rest work)) a.depth result (w.outer.answer f (map number_in args) (w.outer.noted a.privileged f (map (seen_cell w.v) args) h)) (w.inner.answer f (map number_in args) (w.inner.noted a.privileged f args g)) s.above same.0 same.1))
  where
    same : AnswersAlike Alike w h g a.privileged f args
    same = subst (λ p. AnswersAlike Alike w h g p f args) (sym s.same) alike

-- what goes away is too deep here and there
away_seen : {H G : Type 0} (Alike : H → G → Type 0) (w : Env Alike) (x : Machine) (h : H) (g : G) (a : Active) (rest : List Active) (work : List Work) (f : ℕ) (args : List Cell) (result : Option ℕ) (span : Span) → Scene Alike w x h g a rest → HasSignature w.part f → w.inner.way g f args ≡ away →
    Seen Alike w h (by_way w.whole w.outer (working (at_seen Alike w x) (seated w.below rest a) (joined w.below rest) work) h span f (map (seen_cell w.v) args) result a.depth (w.outer.way h f (map (seen_cell w.v) args)))
    (goes_away w.part (working x a rest work) g span f args result (a.depth + 1))
away_seen {H} {G} Alike w x h g a rest work f args result span s signed e = go (signature_in w.part f).host refl
  where
    deep : (t : Bool) → Seen Alike w h
        (if t then turned (working (at_seen Alike w x) (seated w.below rest a) (joined w.below rest) work) h (λ m1. answers moved (with_entered w.whole a.privileged f (a.depth + 1) (map (seen_cell w.v) args) result m1) (w.outer.noted a.privileged f (map (seen_cell w.v) args) h)) else answers (trapped Depth span) (working (at_seen Alike w x) (seated w.below rest a) (joined w.below rest) work) h)
        (if t then answers (asked f args (a.depth + 1)) (awaiting f result (working x a rest work)) g else answers (trapped Depth span) (working x a rest work) g)
    deep true = λ own. absurd own
    deep false = λ _. inl (record { answer = refl; machine = refl; gate = s.alike })

    go : (t : Bool) → (signature_in w.part f).host ≡ t →
        Seen Alike w h (by_way w.whole w.outer (working (at_seen Alike w x) (seated w.below rest a) (joined w.below rest) work) h span f (map (seen_cell w.v) args) result a.depth (w.outer.way h f (map (seen_cell w.v) args)))
        (if t then answers (asked f args 0) (awaiting f result (working x a rest work)) g else (if nat_le (a.depth + 1) deepest then answers (asked f args (a.depth + 1)) (awaiting f result (working x a rest work)) g else answers (trapped Depth span) (working x a rest work) g))
    go true host = λ own. absurd own
    go false host =
        subst (λ way. Seen Alike w h (by_way w.whole w.outer (working (at_seen Alike w x) (seated w.below rest a) (joined w.below rest) work) h span f (map (seen_cell w.v) args) result a.depth way)
        (if nat_le (a.depth + 1) deepest then answers (asked f args (a.depth + 1)) (awaiting f result (working x a rest work)) g else answers (trapped Depth span) (working x a rest work) g))
        (sym (w.gates.gone h g f args s.alike signed e host)) (deep (nat_le (a.depth + 1) deepest))

way_seen : {H G : Type 0} (Alike : H → G → Type 0) (w : Env Alike) (marked : ℕ → Bool) (x : Machine) (h : H) (g : G) (a : Active) (rest : List Active) (work : List Work) (f : ℕ) (args : List Cell) (result : Option ℕ) (span : Span) → Scene Alike w x h g a rest →
    HasSignature w.part f → computes_call marked args (w.inner.way g f args) ≡ false → (way : Way) → w.inner.way g f args ≡ way →
    Seen Alike w h (by_way w.whole w.outer (working (at_seen Alike w x) (seated w.below rest a) (joined w.below rest) work) h span f (map (seen_cell w.v) args) result a.depth (w.outer.way h f (map (seen_cell w.v) args))) (by_way w.part w.inner (working x a rest work) g span f args result a.depth way)
way_seen {H} {G} Alike w marked x h g a rest work f args result span s signed plain enters e =
    let goes = w.gates.entered h g f args s.alike signed e in
    subst (λ way. Seen Alike w h (by_way w.whole w.outer (working (at_seen Alike w x) (seated w.below rest a) (joined w.below rest) work) h span f (map (seen_cell w.v) args) result a.depth way) (by_way w.part w.inner (working x a rest work) g span f args result a.depth enters)) (sym goes.0)
    (enters_seen Alike w x h g a rest work f args result span s (s.entered f args signed e) goes.2)
way_seen {H} {G} Alike w marked x h g a rest work f args result span s signed plain here e =
    let free : has_handle args ≡ false = subst (λ way. computes_call marked args way ≡ false) e plain in
    let goes = w.gates.made h g f args s.alike signed e free in
    subst (λ way. Seen Alike w h (by_way w.whole w.outer (working (at_seen Alike w x) (seated w.below rest a) (joined w.below rest) work) h span f (map (seen_cell w.v) args) result a.depth way) (by_way w.part w.inner (working x a rest work) g span f args result a.depth here)) (sym goes.0)
    (made_seen Alike w x h g a rest work f args result s (goes.1, goes.2) free)
way_seen {H} {G} Alike w marked x h g a rest work f args result span s signed plain away e = away_seen Alike w x h g a rest work f args result span s signed e

-- ---- what statements that fit have of expressions that fit

arguments_are : (c : Context) (params : List Param) (args : ExprTrees) → IsTrue (arguments_fit c params args) → IsTrue (exprs_fit c args)
arguments_are c [] no_exprs h = refl
arguments_are c [] (expr_and e rest) h = false_not_true h
arguments_are c (p ∷ params) no_exprs h = false_not_true h
arguments_are c (p ∷ params) (expr_and e rest) h = both (expr_fits c e) (exprs_fit c rest)
    (both_hold_first (expr_fits c e) (stands_for (type_of c e) (param_type p.kind)) (both_hold_first (value_fits c (param_type p.kind) e) (arguments_fit c params rest) h))
    (arguments_are c params rest (both_hold_second (value_fits c (param_type p.kind) e) (arguments_fit c params rest) h))
  where
    both : (a b : Bool) → IsTrue a → IsTrue b → IsTrue (a && b)
    both true b h k = k
    both false b h k = false_not_true h

pub call_args : (c : Context) (o : Option Signature) (args : ExprTrees) (result : Option ℕ) → IsTrue (call_fits c o args result) → IsTrue (exprs_fit c args)
call_args c None args result h = false_not_true h
call_args c (Some s) args result h =
    arguments_are c s.params args (both_hold_first (arguments_fit c s.params args) (result_fits c s.result result) (both_hold_second (not (is_main s)) (arguments_fit c s.params args && result_fits c s.result result) h))

pub call_signed : (monitor : Bool) (part : ProgramTree) (c : Context) (f : ℕ) (args : ExprTrees) (result : Option ℕ) → IsTrue (call_fits c (called_signature monitor part f) args result) → HasSignature part f
call_signed monitor part c f args result h = go (signature_at part f) h
  where
    go : (o : Option Signature) → IsTrue (call_fits c (option_map (with_own monitor (function_at part f)) o) args result) → IsTrue (is_some o)
    go None h = false_not_true h
    go (Some s) h = refl

pub return_args : (k : Scope) (e : Option ExprTree) → IsTrue (return_fits k e) → IsTrue (return_expr_fits k.context e)
return_args k None h = refl
return_args k (Some a) h = both_hold_first (expr_fits k.context a) (both_int (integer_of (Some (type_of k.context a))) k.result) h

pub return_plain : (c : Context) (depth : ℕ) (e : Option ExprTree) (rest : List Active) (blocks : Blocks) → computes_return c depth e rest blocks ≡ false → return_meets c depth e blocks ≡ false
return_plain c depth None rest blocks h = refl
return_plain c depth (Some e) rest blocks h = (or_parts (meets c depth e blocks) (computes_status rest (value_of c depth e blocks)) h).0

call_plain : (test : List Cell → Bool) (r : Result (List Cell) Stop) → if_given r test ≡ false → IfOk r (λ vs. test vs ≡ false)
call_plain test (Ok vs) h = h
call_plain test (Err stop) h = tt {0}

-- ---- statements

act_seen : {H G : Type 0} (Alike : H → G → Type 0) (w : Env Alike) (marked : ℕ → ℕ → Bool) (x : Machine) (h : H) (g : G) (a : Active) (rest : List Active) (work : List Work) (looped : Bool) → Scene Alike w x h g a rest →
    (t : StmtTree) → IsTrue (stmt_fits (scope_in w.monitor w.part a.function) looped t) → computes marked w.inner g (context_in w.part a.function) a.depth rest t x.blocks ≡ false →
    Seen Alike w h (act w.whole w.outer (at_seen Alike w x) h (seated w.below rest a) (joined w.below rest) work t) (act w.part w.inner x g a rest work t)
act_seen {H} {G} Alike w marked x h g a rest work looped s (clear k) fits none =
    moves Alike w h h g
    (with_blocks (cleared (context_in w.whole a.function) a.depth k (seen w.v x.blocks)) (working (at_seen Alike w x) (seated w.below rest a) (joined w.below rest) work))
    (with_blocks (cleared (context_in w.part a.function) a.depth k x.blocks) (working x a rest work))
    (ap (λ (blocks : Blocks). with_blocks blocks (working (at_seen Alike w x) (seated w.below rest a) (joined w.below rest) work))
    (in_context Alike w a.function s.known (λ c. cleared c a.depth k (seen w.v x.blocks) ≡ seen w.v (cleared (context_in w.part a.function) a.depth k x.blocks))
    (cleared_seen w.v w.base w.part w.viewed.view (context_in w.part a.function) (context_in w.whole a.function).globals a.depth k x.blocks s.above))) s.alike
act_seen {H} {G} Alike w marked x h g a rest work looped s (check p) fits none =
    let small = context_in w.part a.function in
    value_then Alike w (seen_place w.v) (OwnPlace w.v) (location_of (context_in w.whole a.function) a.depth p (seen w.v x.blocks)) (location_of small a.depth p x.blocks) x h g _ _ s.alike
    (in_context Alike w a.function s.known (λ c. Known (seen_place w.v) (OwnPlace w.v) (location_of c a.depth p (seen w.v x.blocks)) (location_of small a.depth p x.blocks))
    (place_known w.v small (context_in w.whole a.function).globals a.depth x.blocks s.reads p fits none))
    (λ at _. moves Alike w h h g _ _ refl s.alike)
act_seen {H} {G} Alike w marked x h g a rest work looped s (assign p e) fits none =
    let small = context_in w.part a.function in
    let both = or_parts (meets_at small a.depth p x.blocks) (meets small a.depth e x.blocks) none in
    let place_is : IsTrue (place_fits small p) = both_hold_first (place_fits small p) (is_scalar (Some (place_type small p)) && value_fits small (place_type small p) e) fits in
    let value_is : IsTrue (value_fits small (place_type small p) e) = both_hold_second (is_scalar (Some (place_type small p))) (value_fits small (place_type small p) e) (both_hold_second (place_fits small p) (is_scalar (Some (place_type small p)) && value_fits small (place_type small p) e) fits) in
    value_then Alike w (seen w.v) Always (assigned (context_in w.whole a.function) a.depth p e (seen w.v x.blocks)) (assigned small a.depth p e x.blocks) x h g _ _ s.alike
    (in_context Alike w a.function s.known (λ c. Known (seen w.v) Always (assigned c a.depth p e (seen w.v x.blocks)) (assigned small a.depth p e x.blocks))
    (assigned_known w.v w.base w.part w.viewed.view small (context_in w.whole a.function).globals a.depth x.blocks s.reads p e place_is (both_hold_first (expr_fits small e) (stands_for (type_of small e) (place_type small p)) value_is) both.0 both.1))
    (λ blocks _. moves Alike w h h g _ _ refl s.alike)
act_seen {H} {G} Alike w marked x h g a rest work looped s (copy to from) fits none =
    let small = context_in w.part a.function in
    let both = or_parts (meets_at small a.depth to x.blocks) (meets_at small a.depth from x.blocks) none in
    let places : IsTrue (place_fits small to && place_fits small from) = both_hold_first (place_fits small to && place_fits small from) (is_compound (place_type small to) && same_type (place_type small to) (place_type small from)) fits in
    value_then Alike w (seen w.v) Always (copied (context_in w.whole a.function) a.depth to from (seen w.v x.blocks)) (copied small a.depth to from x.blocks) x h g _ _ s.alike
    (in_context Alike w a.function s.known (λ c. Known (seen w.v) Always (copied c a.depth to from (seen w.v x.blocks)) (copied small a.depth to from x.blocks))
    (copied_known w.v w.base w.part w.viewed.view small (context_in w.whole a.function).globals a.depth x.blocks s.reads to from (both_hold_first (place_fits small to) (place_fits small from) places) (both_hold_second (place_fits small to) (place_fits small from) places) both.0 both.1))
    (λ blocks _. moves Alike w h h g _ _ refl s.alike)
act_seen {H} {G} Alike w marked x h g a rest work looped s (call f args result span) fits none =
    let small = context_in w.part a.function in
    let both = or_parts (meet_any small a.depth args x.blocks) (if_given (values_of small a.depth args x.blocks) (λ vs. computes_call (marked f) vs (w.inner.way g f vs))) none in
    value_then Alike w (map (seen_cell w.v)) (λ vs. Always vs × (computes_call (marked f) vs (w.inner.way g f vs) ≡ false)) (values_of (context_in w.whole a.function) a.depth args (seen w.v x.blocks)) (values_of small a.depth args x.blocks) x h g _ _ s.alike
    (also_known (map (seen_cell w.v)) Always (λ vs. computes_call (marked f) vs (w.inner.way g f vs) ≡ false) (values_of (context_in w.whole a.function) a.depth args (seen w.v x.blocks)) (values_of small a.depth args x.blocks)
    (in_context Alike w a.function s.known (λ c. Known (map (seen_cell w.v)) Always (values_of c a.depth args (seen w.v x.blocks)) (values_of small a.depth args x.blocks))
    (values_known w.v small (context_in w.whole a.function).globals a.depth x.blocks s.reads args (call_args small ((scope_in w.monitor w.part a.function).called f) args result fits) both.0))
    (call_plain (λ vs. computes_call (marked f) vs (w.inner.way g f vs)) (values_of small a.depth args x.blocks) both.1))
    (λ vs p. way_seen Alike w (marked f) x h g a rest work f vs result span s (call_signed w.monitor w.part small f args result fits) p.1 (w.inner.way g f vs) refl)
act_seen {H} {G} Alike w marked x h g a rest work looped s (choose e first second) fits none =
    let small = context_in w.part a.function in
    let both = or_parts (meets small a.depth e x.blocks) (is_handle (value_of small a.depth e x.blocks)) none in
    let value_is : IsTrue (expr_fits small e) = both_hold_first (expr_fits small e) (is_scalar (Some (type_of small e))) (both_hold_first (expr_fits small e && is_scalar (Some (type_of small e))) (stmts_fit (scope_in w.monitor w.part a.function) looped first && stmts_fit (scope_in w.monitor w.part a.function) looped second) fits) in
    value_then Alike w (seen_cell w.v) (λ c. OwnCell w.v c × IsPlain c) (value_of (context_in w.whole a.function) a.depth e (seen w.v x.blocks)) (value_of small a.depth e x.blocks) x h g _ _ s.alike
    (in_context Alike w a.function s.known (λ c. Known (seen_cell w.v) (λ d. OwnCell w.v d × IsPlain d) (value_of c a.depth e (seen w.v x.blocks)) (value_of small a.depth e x.blocks))
    (plain_known w.v (value_of (in_whole (context_in w.whole a.function).globals small) a.depth e (seen w.v x.blocks)) (value_of small a.depth e x.blocks)
    (value_known w.v small (context_in w.whole a.function).globals a.depth x.blocks s.reads e value_is both.0) both.1))
    (λ c p. moves Alike w h h g _ _ (ap (λ (t : Bool). working (at_seen Alike w x) (seated w.below rest a) (joined w.below rest) (run (if t then first else second) ∷ work)) (holds_seen w.v c p.1)) s.alike)
act_seen {H} {G} Alike w marked x h g a rest work looped s (repeat body span) fits none = begins_seen Alike w x h g a rest body work s
act_seen {H} {G} Alike w marked x h g a rest work looped s break_out fits none = moves Alike w h h g _ _ refl s.alike
act_seen {H} {G} Alike w marked x h g a rest work looped s continue_on fits none = moves Alike w h h g _ _ refl s.alike
act_seen {H} {G} Alike w marked x h g a rest work looped s (give_back e) fits none =
    let small = context_in w.part a.function in
    value_then Alike w (option_map (seen_cell w.v)) Always (returned_value (context_in w.whole a.function) a.depth e (seen w.v x.blocks)) (returned_value small a.depth e x.blocks) x h g _ _ s.alike
    (in_context Alike w a.function s.known (λ c. Known (option_map (seen_cell w.v)) Always (returned_value c a.depth e (seen w.v x.blocks)) (returned_value small a.depth e x.blocks))
    (returned_known w.v small (context_in w.whole a.function).globals a.depth x.blocks s.reads e (return_args (scope_in w.monitor w.part a.function) e fits) (return_plain small a.depth e rest x.blocks none)))
    (λ o _. returned_seen Alike w x h g a rest o s)

pub works_seen : {H G : Type 0} (Alike : H → G → Type 0) (w : Env Alike) (marked : ℕ → ℕ → Bool) (x : Machine) (h : H) (g : G) (a : Active) (rest : List Active) → Scene Alike w x h g a rest →
    (work : List Work) → IsTrue (work_fits (scope_in w.monitor w.part a.function) work) → computes_work marked w.inner g (context_in w.part a.function) a.depth rest work x.blocks ≡ false →
    Seen Alike w h (works w.whole w.outer (at_seen Alike w x) h (seated w.below rest a) (joined w.below rest) work) (works w.part w.inner x g a rest work)
works_seen {H} {G} Alike w marked x h g a rest s [] fits none = end_seen Alike w x h g a rest s
works_seen {H} {G} Alike w marked x h g a rest s (run no_stmts ∷ work) fits none = moves Alike w h h g _ _ refl s.alike
works_seen {H} {G} Alike w marked x h g a rest s (run (stmt_and t more) ∷ work) fits none =
    let scope : Scope = scope_in w.monitor w.part a.function in
    act_seen Alike w marked x h g a rest (run more ∷ work) (is_looped work) s t
    (both_hold_first (stmt_fits scope (is_looped work) t) (stmts_fit scope (is_looped work) more) (both_hold_first (stmts_fit scope (is_looped work) (stmt_and t more)) (work_fits scope work) fits)) none
works_seen {H} {G} Alike w marked x h g a rest s (head body ∷ work) fits none = begins_seen Alike w x h g a rest body work s
