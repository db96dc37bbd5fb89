-- What the whole does where a part asks, or its outermost function returns.
use Rattle.std.proofs.Common.{◌≡◌, ◌+◌, ℕ, List, [], ◌∷◌, map, refl, sym, subst, Bool, true, false, nat_lt, nat_le, ◌||◌, if◌then◌else◌, Option, Some, None, Result, Ok, Err}
use Rattle.std.specs.Prelude.{IsTrue, is_some}
use Rattle.std.specs.Option.{option_map}
use Rattle.std.proofs.lemmas.Bool.{or_parts}
use Rattle.pt_base.specs.declared.int_type.IntType.{IntType}
use Rattle.pt_base.specs.declared.span.Span.{Span}
use Rattle.pt_base.specs.declared.trap.Trap.TheVariants.{Depth}
use Rattle.pt_base.proofs.Booleans.{both_hold_first}
use Rattle.runs.specs.Run.{deepest}
use Rattle.block_memory.specs.declared.cell.Cell.{Cell}
use Rattle.pt_core.specs.CodeTree.{ProgramTree, StmtTree, clear, check, assign, copy, call, choose, repeat, break_out, continue_on, give_back, no_stmts, stmt_and}
use Rattle.pt_core.specs.Values.{Stop, location_of, number_in, value_of, values_of}
use Rattle.pt_core.specs.Statements.{assigned, copied, returned_value}
use Rattle.pt_core.specs.Calls.{context_in, entered, function_in, signature_in}
use Rattle.pt_core.specs.Steps.{Active, Gate, Machine, Step, Way, Work, act, answers, asked, at_end, away, awaiting, by_way, enters, head, here, just_entered, made, moved, on_value, returned, run, settled, spent, stepped, trapped, turned, with_turn, working, works}
use Rattle.pt_core.specs.WellFormedStatement.{Scope, stmt_fits, stmts_fit}
use Rattle.pt_core.specs.WellFormed.{function_at}
use Rattle.core_soundness_law.specs.Fits.{AllFit, MemoryFits, is_looped, scope_in, work_fits}
use Rattle.core_soundness_law.specs.Kept.{by_store}
use Rattle.core_soundness_law.proofs.Steps.{settled_fits}
use Rattle.handle_classes.specs.Computes.{computes, computes_call, computes_in, computes_work, if_given, meet_any}
use Rattle.part_views_law.specs.Machines.{Below, joined, seated, seen_machine}
use Rattle.part_views_law.specs.Views.{View, seen, seen_cell}
use Rattle.part_views_law.specs.StepsOutward.{Outward, PartsLead}
use Rattle.part_views_law.specs.StepsParts.{AllAbove, IsViewed}
use Rattle.part_views_law.proofs.StepsCells.{Known, with_ok}
use Rattle.part_views_law.proofs.StepsValues.{Always, Reads, values_known}
use Rattle.part_views_law.proofs.StepsStatements.{returned_known}
use Rattle.part_views_law.proofs.StepsRuns.{reads}
use Rattle.part_views_law.proofs.StepLemmas.{call_args, context_same, return_args, return_plain}

-- what doesn't change
record Base (H G : Type 0) : Type 0 where
  whole : ProgramTree
  part : ProgramTree
  outer : Gate H
  inner : Gate G
  v : View
  base : ℕ
  monitor : Bool
  below : Below
  turns : ℕ
  n : ℕ
  viewed : IsViewed v base monitor part whole

abbrev Out : {H G : Type 0} (w : Base H G) → Machine → H → Step H → Step G → Type 0
Out w x h big small = Outward w.whole w.outer w.v w.below w.turns w.n h big x small.machine small.answer

abbrev at_seen : {H G : Type 0} (w : Base H G) → Machine → Machine
at_seen w x = seen_machine w.v w.below w.turns w.n x

-- what a step gives that only moves
moves_out : {H G A : Type 0} (w : Base H G) (x : Machine) (h : H) (big : Step H) (r : Result A Stop) (m : Machine) (g : G) (next : A → Machine) → Out w x h big (on_value r m g (λ a. answers moved (next a) g))
moves_out w x h big (Ok a) m g next = tt {0}
moves_out w x h big (Err stop) m g next = tt {0}

turned_out : {H G : Type 0} (w : Base H G) (x : Machine) (h : H) (big : Step H) (m : Machine) (g : G) (next : Machine → Machine) (after : Machine → G) → Out w x h big (turned m g (λ m1. answers moved (next m1) (after m1)))
turned_out {H} {G} w x h big m g next after = go (nat_lt m.turns m.budget)
  where
    go : (t : Bool) → Out w x h big (if t then answers moved (next (with_turn m)) (after (with_turn m)) else answers spent m g)
    go true = tt {0}
    go false = tt {0}

value_out : {H G A : Type 0} (w : Base H G) (f : A → A) (P : A → Type 0) (big small : Result A Stop) (x : Machine) (h : H) (g : G) (next' : A → Step H) (next : A → Step G) → Known f P big small →
    ((a : A) → Out w x h (next' (f a)) (next a)) → Out w x h (on_value big (at_seen w x) h next') (on_value small x g next)
value_out {H} {G} {A} w f P big small x h g next' next k goes_on =
    subst (λ r. Out w x h (on_value r (at_seen w x) h next') (on_value small x g next)) (sym k.sight) (go small)
  where
    go : (r : Result A Stop) → Out w x h (on_value (with_ok f r) (at_seen w x) h next') (on_value r x g next)
    go (Ok a) = goes_on a
    go (Err stop) = tt {0}

returned_out : {H G : Type 0} (w : Base H G) (x : Machine) (h : H) (g : G) (a : Active) (rest : List Active) (o : Option Cell) → x.active ≡ a ∷ rest →
    Out w x h (returned (at_seen w x) h (seated w.below rest a) (joined w.below rest) (option_map (seen_cell w.v) o)) (returned x g a rest o)
returned_out w x h g a [] o is = record { last = a; active = is; left = refl; returns = refl }
returned_out w x h g a (caller ∷ rest) o is = tt {0}

end_out : {H G : Type 0} (w : Base H G) (x : Machine) (h : H) (g : G) (a : Active) (rest : List Active) → x.active ≡ a ∷ rest → IsTrue (is_some (function_at w.part a.function)) →
    Out w x h (at_end (signature_in w.whole a.function).result (function_in w.whole a.function).end (at_seen w x) h (seated w.below rest a) (joined w.below rest))
    (at_end (signature_in w.part a.function).result (function_in w.part a.function).end x g a rest)
end_out {H} {G} w x h g a rest is known =
    subst (λ (j : Option IntType). Out w x h (at_end j (function_in w.whole a.function).end (at_seen w x) h (seated w.below rest a) (joined w.below rest)) (at_end (signature_in w.part a.function).result (function_in w.part a.function).end x g a rest)) (sym (w.viewed.parts.signatures a.function known).result)
    (go (signature_in w.part a.function).result)
  where
    go : (t : Option IntType) → Out w x h (at_end t (function_in w.whole a.function).end (at_seen w x) h (seated w.below rest a) (joined w.below rest)) (at_end t (function_in w.part a.function).end x g a rest)
    go None = returned_out w x h g a rest None is
    go (Some t) = tt {0}

way_out : {H G : Type 0} (w : Base H G) (x : Machine) (h : H) (g : G) (a : Active) (rest : List Active) (work : List Work) (f : ℕ) (args : List Cell) (result : Option ℕ) (span : Span) (way : Way) →
    Out w x h (by_way w.whole w.outer (working (at_seen w x) (seated w.below rest a) (joined w.below rest) work) h span f (map (seen_cell w.v) args) result a.depth (w.outer.way h f (map (seen_cell w.v) args))) (by_way w.part w.inner (working x a rest work) g span f args result a.depth way)
way_out {H} {G} w x h g a rest work f args result span enters = go (nat_le (a.depth + 1) deepest)
  where
    big : Step H
    big = by_way w.whole w.outer (working (at_seen w x) (seated w.below rest a) (joined w.below rest) work) h span f (map (seen_cell w.v) args) result a.depth (w.outer.way h f (map (seen_cell w.v) args))

    go : (t : Bool) → Out w x h big (if t then turned (working x a rest work) g (λ m1. answers moved (record m1 { active = just_entered w.part (a.privileged || (signature_in w.part f).privileged) f (a.depth + 1) result ∷ m1.active; blocks = entered w.part f (a.depth + 1) args m1.blocks }) (w.inner.noted a.privileged f args g)) else answers (trapped Depth span) (working x a rest work) g)
    go true = turned_out w x h big (working x a rest work) g (λ m1. record m1 { active = just_entered w.part (a.privileged || (signature_in w.part f).privileged) f (a.depth + 1) result ∷ m1.active; blocks = entered w.part f (a.depth + 1) args m1.blocks }) (λ m1. w.inner.noted a.privileged f args g)
    go false = tt {0}
way_out {H} {G} w x h g a rest work f args result span here = go (nat_lt x.turns x.budget)
  where
    big : Step H
    big = by_way w.whole w.outer (working (at_seen w x) (seated w.below rest a) (joined w.below rest) work) h span f (map (seen_cell w.v) args) result a.depth (w.outer.way h f (map (seen_cell w.v) args))

    go : (t : Bool) → Out w x h big (if t then made (with_turn (working x a rest work)) a.depth result (w.inner.answer f (map number_in args) (w.inner.noted a.privileged f args g)) else answers spent (working x a rest work) g)
    go true = tt {0}
    go false = tt {0}
way_out {H} {G} w x h g a rest work f args result span away = go (signature_in w.part f).host
  where
    big : Step H
    big = by_way w.whole w.outer (working (at_seen w x) (seated w.below rest a) (joined w.below rest) work) h span f (map (seen_cell w.v) args) result a.depth (w.outer.way h f (map (seen_cell w.v) args))

    asks : (depth : ℕ) → Out w x h big (answers (asked f args depth) (awaiting f result (working x a rest work)) g)
    asks depth = record { caller = record a { work = work }; rest = rest; result = result; span = span; active = refl; awaits = refl; makes = refl }

    deep : (t : Bool) → Out w x h big (if t then answers (asked f args (a.depth + 1)) (awaiting f result (working x a rest work)) g else answers (trapped Depth span) (working x a rest work) g)
    deep true = asks (a.depth + 1)
    deep false = tt {0}

    go : (t : Bool) → Out w x h big (if t then answers (asked f args 0) (awaiting f result (working x a rest work)) g else (if nat_le (a.depth + 1) deepest then answers (asked f args (a.depth + 1)) (awaiting f result (working x a rest work)) g else answers (trapped Depth span) (working x a rest work) g))
    go true = asks 0
    go false = deep (nat_le (a.depth + 1) deepest)

act_out : {H G : Type 0} (w : Base H G) (marked : ℕ → ℕ → Bool) (x : Machine) (h : H) (g : G) (a : Active) (rest : List Active) (work : List Work) (looped : Bool) → x.active ≡ a ∷ rest → IsTrue (is_some (function_at w.part a.function)) →
    Reads w.v (context_in w.part a.function) (context_in w.whole a.function).globals a.depth x.blocks →
    (t : StmtTree) → IsTrue (stmt_fits (scope_in w.monitor w.part a.function) looped t) → computes marked w.inner g (context_in w.part a.function) a.depth rest t x.blocks ≡ false →
    Out w x h (act w.whole w.outer (at_seen w x) h (seated w.below rest a) (joined w.below rest) work t) (act w.part w.inner x g a rest work t)
act_out {H} {G} w marked x h g a rest work looped is known r (clear k) fits none = tt {0}
act_out {H} {G} w marked x h g a rest work looped is known r (check p) fits none = moves_out w x h _ (location_of (context_in w.part a.function) a.depth p x.blocks) x g _
act_out {H} {G} w marked x h g a rest work looped is known r (assign p e) fits none = moves_out w x h _ (assigned (context_in w.part a.function) a.depth p e x.blocks) x g _
act_out {H} {G} w marked x h g a rest work looped is known r (copy to from) fits none = moves_out w x h _ (copied (context_in w.part a.function) a.depth to from x.blocks) x g _
act_out {H} {G} w marked x h g a rest work looped is known r (call f args result span) fits none =
    let small = context_in w.part a.function in
    let both = or_parts (meet_any small a.depth args x.blocks) (if_given (values_of small a.depth args x.blocks) (λ vs. computes_call (marked f) vs (w.inner.way g f vs))) none in
    value_out w (map (seen_cell w.v)) Always (values_of (context_in w.whole a.function) a.depth args (seen w.v x.blocks)) (values_of small a.depth args x.blocks) x h g _ _
    (subst (λ c. Known (map (seen_cell w.v)) Always (values_of c a.depth args (seen w.v x.blocks)) (values_of small a.depth args x.blocks)) (sym (context_same w.whole w.part w.viewed.parts a.function known))
    (values_known w.v small (context_in w.whole a.function).globals a.depth x.blocks r args (call_args small ((scope_in w.monitor w.part a.function).called f) args result fits) both.0))
    (λ vs. way_out w x h g a rest work f vs result span (w.inner.way g f vs))
act_out {H} {G} w marked x h g a rest work looped is known r (choose e first second) fits none = moves_out w x h _ (value_of (context_in w.part a.function) a.depth e x.blocks) x g _
act_out {H} {G} w marked x h g a rest work looped is known r (repeat body span) fits none = turned_out w x h _ x g (λ m1. working m1 a rest (run body ∷ head body ∷ work)) (λ m1. g)
act_out {H} {G} w marked x h g a rest work looped is known r break_out fits none = tt {0}
act_out {H} {G} w marked x h g a rest work looped is known r continue_on fits none = tt {0}
act_out {H} {G} w marked x h g a rest work looped is known r (give_back e) fits none =
    let small = context_in w.part a.function in
    value_out w (option_map (seen_cell w.v)) Always (returned_value (context_in w.whole a.function) a.depth e (seen w.v x.blocks)) (returned_value small a.depth e x.blocks) x h g _ _
    (subst (λ c. Known (option_map (seen_cell w.v)) Always (returned_value c a.depth e (seen w.v x.blocks)) (returned_value small a.depth e x.blocks)) (sym (context_same w.whole w.part w.viewed.parts a.function known))
    (returned_known w.v small (context_in w.whole a.function).globals a.depth x.blocks r e (return_args (scope_in w.monitor w.part a.function) e fits) (return_plain small a.depth e rest x.blocks none)))
    (λ o. returned_out w x h g a rest o is)

works_out : {H G : Type 0} (w : Base H G) (marked : ℕ → ℕ → Bool) (x : Machine) (h : H) (g : G) (a : Active) (rest : List Active) → x.active ≡ a ∷ rest → IsTrue (is_some (function_at w.part a.function)) →
    Reads w.v (context_in w.part a.function) (context_in w.whole a.function).globals a.depth x.blocks →
    (work : List Work) → IsTrue (work_fits (scope_in w.monitor w.part a.function) work) → computes_work marked w.inner g (context_in w.part a.function) a.depth rest work x.blocks ≡ false →
    Out w x h (works w.whole w.outer (at_seen w x) h (seated w.below rest a) (joined w.below rest) work) (works w.part w.inner x g a rest work)
works_out {H} {G} w marked x h g a rest is known r [] fits none = end_out w x h g a rest is known
works_out {H} {G} w marked x h g a rest is known r (run no_stmts ∷ work) fits none = tt {0}
works_out {H} {G} w marked x h g a rest is known r (run (stmt_and t more) ∷ work) fits none =
    let scope : Scope = scope_in w.monitor w.part a.function in
    act_out w marked x h g a rest (run more ∷ work) (is_looped work) is known r t
    (both_hold_first (stmt_fits scope (is_looped work) t) (stmts_fit scope (is_looped work) more) (both_hold_first (stmts_fit scope (is_looped work) (stmt_and t more)) (work_fits scope work) fits)) none
works_out {H} {G} w marked x h g a rest is known r (head body ∷ work) fits none = turned_out w x h _ x g (λ m1. working m1 a rest (run body ∷ head body ∷ work)) (λ m1. g)

pub parts_lead : {H G : Type 0} → PartsLead H G
parts_lead {H} {G} marked whole part outer inner v base monitor below turns n x h g viewed stands plain = go x.active refl stands.fits.memory stands.fits.active stands.above plain
  where
    w : Base H G
    w = record { whole = whole; part = part; outer = outer; inner = inner; v = v; base = base; monitor = monitor; below = below; turns = turns; n = n; viewed = viewed }

    go : (active : List Active) → x.active ≡ active → MemoryFits (by_store v.store) part active x.blocks → AllFit monitor part active → AllAbove base monitor active → computes_in marked part inner g active x.blocks ≡ false →
        Out w x h (stepped whole outer (seen_machine v below turns n x) h (joined below active)) (stepped part inner x g active)
    go [] is mem fit above none = tt {0}
    go (a ∷ rest) is mem fit above none =
        works_out w marked x h g a rest is fit.0.known (reads whole part v base monitor a rest x.blocks viewed mem fit above stands.received) (settled a.work) (settled_fits monitor part a.function a.work fit.0.work) none
