-- A machine of a part that is shown in the whole's stays so.
use Rattle.std.proofs.Common.{◌≡◌, ◌∙◌, ◌+◌, ◌<◌, ◌≤◌, ℕ, List, [], ◌∷◌, map, length, refl, sym, ap, subst, arith, Bool, true, false, nat_lt, nat_le, ◌||◌, if◌then◌else◌, Option, Some, None, Result, Ok, Err}
use Rattle.pt_base.specs.declared.int_type.IntType.{IntType}
use Rattle.pt_base.specs.declared.span.Span.{Span}
use Rattle.pt_base.specs.declared.trap.Trap.TheVariants.{Depth}
use Rattle.runs.specs.Run.{deepest}
use Rattle.block_memory.specs.declared.cell.Cell.{Cell}
use Rattle.pt_core.specs.CodeTree.{ProgramTree, StmtTree, clear, check, assign, copy, call, choose, repeat, break_out, continue_on, give_back, StmtTrees, no_stmts, stmt_and}
use Rattle.pt_core.specs.Values.{Stop, location_of, number_in, value_of, values_of}
use Rattle.pt_core.specs.Statements.{assigned, copied, returned_value}
use Rattle.pt_core.specs.Calls.{context_in, entered, function_in, signature_in}
use Rattle.pt_core.specs.Steps.{Active, Gate, Machine, Step, Way, Work, act, answers, asked, at_end, away, awaiting, begins, by_way, enters, head, here, just_entered, made, moved, on_value, returned, run, settled, spent, step, stepped, trapped, turned, with_turn, working, works}
use Rattle.core_soundness_law.specs.Kept.{by_store}
use Rattle.core_soundness_law.proofs.Shapes.{received_stay}
use Rattle.part_views_law.specs.Views.{View}
use Rattle.part_views_law.specs.StepsLaws.{After, PartsStand, StaysShown}
use Rattle.part_views_law.specs.StepsParts.{AllAbove, CallsFit, GatesAgree, IsViewed, ShowAlike, Stands}
use Rattle.part_views_law.proofs.StepsCalled.{called_step_keeps, narrowed, narrowed_way, not_enters, step_same}

-- its functions are as deep as they have to be, it has the same budget, and where it has moved it awaits nothing
abbrev Goes : {G : Type 0} → ℕ → Bool → ℕ → Step G → Type 0
Goes {G} base monitor budget s = AllAbove base monitor s.machine.active × (s.machine.budget ≡ budget) × After (λ (m : Machine) (g : G). m.awaits ≡ None) s.answer s.machine s.gate

value_goes : {G A : Type 0} (base : ℕ) (monitor : Bool) (budget : ℕ) (r : Result A Stop) (m : Machine) (g : G) (next : A → Step G) → AllAbove base monitor m.active → m.budget ≡ budget → ((a : A) → Goes base monitor budget (next a)) → Goes base monitor budget (on_value r m g next)
value_goes base monitor budget (Ok a) m g next before same on = on a
value_goes base monitor budget (Err stop) m g next before same on = (before, same, tt {0})

turn_goes : {G : Type 0} (base : ℕ) (monitor : Bool) (budget : ℕ) (m : Machine) (g : G) (next : Machine → Step G) → AllAbove base monitor m.active → m.budget ≡ budget → Goes base monitor budget (next (with_turn m)) → Goes base monitor budget (turned m g next)
turn_goes {G} base monitor budget m g next before same on = go (nat_lt m.turns m.budget)
  where
    go : (t : Bool) → Goes base monitor budget (if t then next (with_turn m) else answers spent m g)
    go true = on
    go false = (before, same, tt {0})

returned_goes : {G : Type 0} (base : ℕ) (monitor : Bool) (x : Machine) (g : G) (a : Active) (rest : List Active) (o : Option Cell) → AllAbove base monitor (a ∷ rest) → x.awaits ≡ None → Goes base monitor x.budget (returned x g a rest o)
returned_goes base monitor x g a [] o above free = (tt {0}, refl, tt {0})
returned_goes base monitor x g a (caller ∷ rest) o above free = (above.2, refl, free)

end_goes : {G : Type 0} (base : ℕ) (monitor : Bool) (t : Option IntType) (span : Span) (x : Machine) (g : G) (a : Active) (rest : List Active) → AllAbove base monitor x.active → AllAbove base monitor (a ∷ rest) → x.awaits ≡ None → Goes base monitor x.budget (at_end t span x g a rest)
end_goes base monitor None span x g a rest before above free = returned_goes base monitor x g a rest None above free
end_goes base monitor (Some t) span x g a rest before above free = (before, refl, tt {0})

begins_goes : {G : Type 0} (base : ℕ) (monitor : Bool) (x : Machine) (g : G) (a : Active) (rest : List Active) (body : StmtTrees) (work : List Work) → AllAbove base monitor x.active → AllAbove base monitor (a ∷ rest) → x.awaits ≡ None → Goes base monitor x.budget (begins x g a rest body work)
begins_goes base monitor x g a rest body work before above free = turn_goes base monitor x.budget x g (λ m1. answers moved (working m1 a rest (run body ∷ head body ∷ work)) g) before refl (above, refl, free)

way_goes : {G : Type 0} (base : ℕ) (monitor : Bool) (part : ProgramTree) (inner : Gate G) (x : Machine) (g : G) (a : Active) (rest : List Active) (work : List Work) (f : ℕ) (args : List Cell) (result : Option ℕ) (span : Span) → AllAbove base monitor (a ∷ rest) → x.awaits ≡ None →
    (inner.way g f args ≡ enters → (monitor || (signature_in part f).privileged) ≡ monitor) → (way : Way) → inner.way g f args ≡ way →
    Goes base monitor x.budget (by_way part inner (working x a rest work) g span f args result a.depth way)
way_goes {G} base monitor part inner x g a rest work f args result span above free same enters e = go (nat_le (a.depth + 1) deepest)
  where
    go : (t : Bool) → Goes base monitor x.budget (if t then turned (working x a rest work) g (λ m1. answers moved (record m1 { active = just_entered part (a.privileged || (signature_in part f).privileged) f (a.depth + 1) result ∷ m1.active; blocks = entered part f (a.depth + 1) args m1.blocks }) (inner.noted a.privileged f args g)) else answers (trapped Depth span) (working x a rest work) g)
    go true =
        turn_goes base monitor x.budget (working x a rest work) g
        (λ m1. answers moved (record m1 { active = just_entered part (a.privileged || (signature_in part f).privileged) f (a.depth + 1) result ∷ m1.active; blocks = entered part f (a.depth + 1) args m1.blocks }) (inner.noted a.privileged f args g))
        above refl
        ((let low : base < a.depth = above.0 in omega arith, ap (λ p. p || (signature_in part f).privileged) above.1 ∙ same e, above), refl, free)
    go false = (above, refl, tt {0})
way_goes {G} base monitor part inner x g a rest work f args result span above free same here e =
    turn_goes base monitor x.budget (working x a rest work) g
    (λ m1. made m1 a.depth result (inner.answer f (map number_in args) (inner.noted a.privileged f args g))) above refl (above, refl, free)
way_goes {G} base monitor part inner x g a rest work f args result span above free same away e = go (signature_in part f).host
  where
    deep : (t : Bool) → Goes base monitor x.budget (if t then answers (asked f args (a.depth + 1)) (awaiting f result (working x a rest work)) g else answers (trapped Depth span) (working x a rest work) g)
    deep true = (above, refl, tt {0})
    deep false = (above, refl, tt {0})

    go : (t : Bool) → Goes base monitor x.budget (if t then answers (asked f args 0) (awaiting f result (working x a rest work)) g else (if nat_le (a.depth + 1) deepest then answers (asked f args (a.depth + 1)) (awaiting f result (working x a rest work)) g else answers (trapped Depth span) (working x a rest work) g))
    go true = (above, refl, tt {0})
    go false = deep (nat_le (a.depth + 1) deepest)

-- what is entered leaves the part's privilege
abbrev KeepsPrivilege : {G : Type 0} → Bool → ProgramTree → Gate G → G → Type 0
KeepsPrivilege {G} monitor part inner g = (f : ℕ) (args : List Cell) → inner.way g f args ≡ enters → (monitor || (signature_in part f).privileged) ≡ monitor

act_goes : {G : Type 0} (base : ℕ) (monitor : Bool) (part : ProgramTree) (inner : Gate G) (x : Machine) (g : G) (a : Active) (rest : List Active) (work : List Work) → AllAbove base monitor x.active → AllAbove base monitor (a ∷ rest) → x.awaits ≡ None → KeepsPrivilege monitor part inner g → (t : StmtTree) →
    Goes base monitor x.budget (act part inner x g a rest work t)
act_goes base monitor part inner x g a rest work before above free same (clear k) = (above, refl, free)
act_goes base monitor part inner x g a rest work before above free same (check p) =
    value_goes base monitor x.budget (location_of (context_in part a.function) a.depth p x.blocks) x g _ before refl (λ at. (above, refl, free))
act_goes base monitor part inner x g a rest work before above free same (assign p e) =
    value_goes base monitor x.budget (assigned (context_in part a.function) a.depth p e x.blocks) x g _ before refl (λ blocks. (above, refl, free))
act_goes base monitor part inner x g a rest work before above free same (copy to from) =
    value_goes base monitor x.budget (copied (context_in part a.function) a.depth to from x.blocks) x g _ before refl (λ blocks. (above, refl, free))
act_goes base monitor part inner x g a rest work before above free same (call f args result span) =
    value_goes base monitor x.budget (values_of (context_in part a.function) a.depth args x.blocks) x g _ before refl
    (λ vs. way_goes base monitor part inner x g a rest work f vs result span above free (same f vs) (inner.way g f vs) refl)
act_goes base monitor part inner x g a rest work before above free same (choose e first second) =
    value_goes base monitor x.budget (value_of (context_in part a.function) a.depth e x.blocks) x g _ before refl (λ c. (above, refl, free))
act_goes base monitor part inner x g a rest work before above free same (repeat body span) = begins_goes base monitor x g a rest body work before above free
act_goes base monitor part inner x g a rest work before above free same break_out = (above, refl, free)
act_goes base monitor part inner x g a rest work before above free same continue_on = (above, refl, free)
act_goes base monitor part inner x g a rest work before above free same (give_back e) =
    value_goes base monitor x.budget (returned_value (context_in part a.function) a.depth e x.blocks) x g _ before refl (λ o. returned_goes base monitor x g a rest o above free)

works_goes : {G : Type 0} (base : ℕ) (monitor : Bool) (part : ProgramTree) (inner : Gate G) (x : Machine) (g : G) (a : Active) (rest : List Active) → AllAbove base monitor x.active → AllAbove base monitor (a ∷ rest) → x.awaits ≡ None → KeepsPrivilege monitor part inner g → (work : List Work) →
    Goes base monitor x.budget (works part inner x g a rest work)
works_goes base monitor part inner x g a rest before above free same [] = end_goes base monitor (signature_in part a.function).result (function_in part a.function).end x g a rest before above free
works_goes base monitor part inner x g a rest before above free same (run no_stmts ∷ work) = (above, refl, free)
works_goes base monitor part inner x g a rest before above free same (run (stmt_and t more) ∷ work) = act_goes base monitor part inner x g a rest (run more ∷ work) before above free same t
works_goes base monitor part inner x g a rest before above free same (head body ∷ work) = begins_goes base monitor x g a rest body work before above free

stepped_goes : {G : Type 0} (base : ℕ) (monitor : Bool) (part : ProgramTree) (inner : Gate G) (x : Machine) (g : G) → AllAbove base monitor x.active → x.awaits ≡ None → KeepsPrivilege monitor part inner g → (active : List Active) → AllAbove base monitor active → Goes base monitor x.budget (stepped part inner x g active)
stepped_goes base monitor part inner x g before free same [] above = (before, refl, tt {0})
stepped_goes base monitor part inner x g before free same (a ∷ rest) above = works_goes base monitor part inner x g a rest before above free same (settled a.work)

-- ---- the law

-- with any relation of the gates' states
pub own_stands : {H G : Type 0} (Alike : H → G → Type 0) (whole part : ProgramTree) (outer : Gate H) (inner : Gate G) (v : View) (base : ℕ) (monitor : Bool) (turns n : ℕ) (x : Machine) (h : H) (g : G) →
    IsViewed v base monitor part whole → GatesAgree v part monitor inner outer Alike → CallsFit part inner g → Stands v base monitor turns n part x → x.awaits ≡ None → Alike h g → StaysShown v base monitor turns n part (step part inner x g)
own_stands {H} {G} Alike whole part outer inner v base monitor turns n x h g viewed gates fits stands free alike = record {
  stands = record {
    fits = (called_step_keeps (by_store v.store) monitor part inner x g viewed.sound fits stands.fits free).machine;
    received = λ k some. stands.received k (subst (λ (ts : List IntType). 1 ≤ length ts) (received_stay part inner x g k).types some);
    above = goes.0;
    left = subst (λ b. n ≤ b + turns) (sym goes.1) stands.left;
  };
  awaits = goes.2;
}
  where
    keeps : KeepsPrivilege monitor part (narrowed part inner) g
    keeps f args e = let signed = narrowed_way part inner g f args enters not_enters e in (gates.entered h g f args alike signed.0 signed.1).1

    goes : Goes base monitor x.budget (step part inner x g)
    goes = subst (λ (s : Step G). Goes base monitor x.budget s) (sym (step_same monitor part inner x g stands.fits.active))
        (stepped_goes base monitor part (narrowed part inner) x g stands.above free keeps x.active stands.above)

pub parts_stand : {H G K : Type 0} → PartsStand H G K
parts_stand {H} {G} {K} told heard whole part outer inner v base monitor turns n x h g viewed gates fits stands free alike =
    own_stands (ShowAlike told heard) whole part outer inner v base monitor turns n x h g viewed gates fits stands free alike
