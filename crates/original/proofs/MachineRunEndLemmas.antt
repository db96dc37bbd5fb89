-- Each step of a whole run goes on or is its end, and a program has a main.
use Rattle.std.proofs.Common.{◌≡◌, ◌∙◌, ◌+◌, ◌-◌, ◌<◌, ◌≤◌, ℕ, suc, nat_eq, refl, sym, ap, subst, arith, Bool, true, false, List, [], ◌∷◌, Some, IsSome, codes, if◌then◌else◌}
use Rattle.std.specs.Prelude.{◌&&◌, ◌||◌, IsTrue, is_some, length, nat_lt}
use Rattle.std.specs.List.{list_any}
use Rattle.std.specs.Str.{bytes_eq}
use Rattle.std.proofs.lemmas.Bool.{ltb-true, ltb-false}
use Rattle.runs.specs.Run.{Run}
use Rattle.runs.specs.State as r
use Rattle.typed_tree.specs.Lookup.{function_named, named_from}
use Rattle.typed_tree.specs.TypedTree.{FunctionTree, TypedTree}
use Rattle.typed_tree.specs.WellFormed.{is_int_result, is_start, is_well_formed}
use Rattle.typed_tree.proofs.WellFormedLemmas.{facts_of}
use Rattle.pt_core.specs.CodeTree.{ProgramTree}
use Rattle.pt_core.specs.CoreRun.{core_run}
use Rattle.pt_core.specs.Steps.{Machine, Answer, moved, asked, ended, trapped, spent, idle, Step, answers}
use Rattle.core_steps_law.specs.Laws.{StepsAreTheRun}
use Rattle.core_steps_law.specs.Silent.{SilentRunsAgree}
use Rattle.core_steps_law.specs.WholeRun.{Outside, whole_gate, begun_machine, begun_outside, further, steps_run, after_steps, run_seen}
use Rattle.core_steps_law.proofs.Leads.{none_yet}
use Rattle.core_steps_law.proofs.Sums.{steps_add}
use Rattle.core_steps_law.specs.GatesWritten.{Written, bytes_after}
use Rattle.core_steps_law.proofs.GatesWrittenBytes.{bytes_run}
use Rattle.original.specs.MachineRunRunTold.{IsOfARun}

-- ---- what a step answers

-- what is seen of a run stays as it is
stays : (run : Run) (answer : Answer) (m : Machine) (g : Outside) (next : Machine → Outside → Step Outside) → run_seen (answers answer m g) ≡ Some run → further (answers answer m g) next ≡ answers answer m g
stays run moved m g next h = none_yet run h
stays run (asked f args depth) m g next h = refl
stays run (ended v) m g next h = refl
stays run (trapped trap span) m g next h = refl
stays run spent m g next h = refl
stays run idle m g next h = refl

-- an end is seen
of_seen : (run : Run) (answer : Answer) (m : Machine) (g : Outside) → run_seen (answers answer m g) ≡ Some run → IsOfARun answer
of_seen run moved m g h = tt
of_seen run (asked f args depth) m g h = none_yet run h
of_seen run (ended v) m g h = tt
of_seen run (trapped trap span) m g h = tt
of_seen run spent m g h = tt
of_seen run idle m g h = none_yet run h

of_a_run : StepsAreTheRun → (program : ProgramTree) (hosts : r.Hosts) (input : List ℕ) (turns n : ℕ) → IsOfARun (after_steps program hosts input turns n).answer
of_a_run runs program hosts input turns n = by_order (nat_lt n first.0) refl
  where
    first : (i : ℕ) × (run_seen (after_steps program hosts input turns i) ≡ Some (core_run program hosts input turns)) × ((k : ℕ) → k < i → (after_steps program hosts input turns k).answer ≡ moved)
    first = runs program hosts input turns

    by_order : (b : Bool) → nat_lt n first.0 ≡ b → IsOfARun (after_steps program hosts input turns n).answer
    by_order true e = subst IsOfARun (sym (first.2 n (ltb-true n first.0 e))) tt
    by_order false e =
        let s : Step Outside = after_steps program hosts input turns first.0 in
        let less : first.0 ≤ n = ltb-false n first.0 e in
        let sum : n ≡ first.0 + (n - first.0) = omega arith in
        let more : after_steps program hosts input turns n ≡ s =
        ap (λ k. after_steps program hosts input turns k) sum
        ∙ steps_add Outside program (whole_gate program) first.0 (n - first.0) (begun_machine program turns) (begun_outside hosts input)
        ∙ stays (core_run program hosts input turns) s.answer s.machine s.gate (steps_run program (whole_gate program) (n - first.0)) first.1 in
        subst (λ (x : Step Outside). IsOfARun x.answer) (sym more) (of_seen (core_run program hosts input turns) s.answer s.machine s.gate first.1)

-- the same under the gate that keeps the bytes
pub bytes_of_a_run : StepsAreTheRun → SilentRunsAgree → (program : ProgramTree) (hosts : r.Hosts) (input : List ℕ) (turns n : ℕ) → IsOfARun (bytes_after program hosts input turns n).answer
bytes_of_a_run runs silent program hosts input turns n =
    subst IsOfARun (sym (ap (λ (s : Step Written). s.answer) (bytes_run silent program hosts input turns n))) (of_a_run runs program hosts input turns n)

-- ---- main

main_from : (fs : List FunctionTree) (k : ℕ) → list_any is_start fs ≡ true → IsSome (named_from k fs (codes "main"))
main_from [] k h = absurd (clash h)
  where
    clash : false ≡ true → ⊥
    clash e = cc
main_from (f ∷ fs) k h = go (bytes_eq f.signature.name (codes "main")) refl (main_from fs (suc k))
  where
    go : (b : Bool) → bytes_eq f.signature.name (codes "main") ≡ b → (list_any is_start fs ≡ true → IsSome (named_from (suc k) fs (codes "main"))) → IsSome (if b then Some (record { 0 = k }) else named_from (suc k) fs (codes "main"))
    go true e rest = refl
    go false e rest = rest (subst (λ (b : Bool). ((b && (is_some f.body && (is_int_result f.signature.result && nat_eq (length f.signature.params) 0))) || list_any is_start fs) ≡ true) e h)

pub main_is_there : (t : TypedTree) → IsTrue (is_well_formed t) → IsSome (function_named t (codes "main"))
main_is_there t h = main_from t.functions 0 (facts_of t h).start
