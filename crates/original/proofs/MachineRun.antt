-- The machine under the gate of a table's hosts comes to the program's run.
use Rattle.std.proofs.Common.{◌≡◌, ◌∙◌, ◌+◌, ◌≤◌, ◌<◌, ◌≢◌, ◌⊎◌, ℕ, refl, ap, sym, subst, arith, true, false, Bool, List, [], Some, None, codes, length}
use Rattle.std.proofs.lemmas.List.{length-map}
use Rattle.std.specs.Prelude.{IsTrue}
use Rattle.pt_base.specs.declared.end.End.{End}
use Rattle.runs.specs.Run.{Run, written}
use Rattle.typed_tree.specs.Lookup.{function_named}
use Rattle.typed_tree.specs.TypedTree.{TypedTree}
use Rattle.typed_tree.specs.WellFormed.{is_well_formed}
use Rattle.host_table.specs.Hosts.{Hosts}
use Rattle.host_table.specs.RunHosts.{models_of}
use Rattle.source_meaning.specs.WholeRun.{whole_run}
use Rattle.pt_core.specs.CodeTree.{ProgramTree}
use Rattle.pt_core.specs.CoreRun.{core_run}
use Rattle.pt_core.specs.Steps as s
use Rattle.pt_core.specs.Steps.{Step}
use Rattle.core_steps_law.specs.Laws.{StepsAreTheRun}
use Rattle.core_steps_law.specs.Silent.{SilentRunsAgree}
use Rattle.core_steps_law.specs.WholeRun.{begun_machine, end_of, steps_run}
use Rattle.core_machine.specs.declared.machine.Machine.{Machine}
use Rattle.core_machine.specs.declared.stepped.Stepped.{Stepped}
use Rattle.core_machine.specs.Gates.{gate_of}
use Rattle.core_machine.specs.Machines.{Follows, Shown}
use Rattle.core_machine.specs.States.{answer_of}
use Rattle.core_machine.specs.Stops.{MovesOn}
use Rattle.lowering.specs.Functions.{core_program}
use Rattle.c_lower_law.specs.Statements.{LoweringKeepsTheRun}
use Rattle.c_lower_law.proofs.MainRuns.{core_main}
use Rattle.core_steps_law.specs.GatesLaws.{BytesAreTheRuns, HasRun}
use Rattle.core_steps_law.specs.GatesShown.{step_shown}
use Rattle.core_steps_law.specs.GatesWritten.{Written, bytes_after, bytes_gate}
use Rattle.core_steps_law.proofs.GatesAgreement.{gates_agree}
use Rattle.original.specs.MachineRunHeard.{Heard}
use Rattle.original.specs.MachineRunHostGates.{AreOf, heard_answer, heard_of, heard_way, marks_of, told_of}
use Rattle.original.specs.MachineRunRunTold.{IsOfARun}
use Rattle.original.proofs.MachineRunEndLemmas.{bytes_of_a_run}
use Rattle.original.proofs.MachineRunGateLemmas.{heard_shows, told_first}

-- what is told of a run, in parts
pub record Told (run : Run) (bytes : List ℕ) (end : End) (turns : ℕ) : Type 0 where
  pub bytes_are : bytes ≡ written run.events
  pub end_is : end ≡ run.end
  pub turns_are : turns ≡ run.turns

abbrev first_heard : TypedTree → Hosts → Heard
first_heard t hosts = heard_of hosts [] (marks_of t)

-- so many steps of the whole run under the gate of the hosts
abbrev after : TypedTree → Hosts → ℕ → ℕ → Step Heard
after t hosts turns n = steps_run (core_program t) (gate_of heard_way heard_answer) n (begun_machine (core_program t) turns) (first_heard t hosts)

few : (t : TypedTree) (hosts : Hosts) → AreOf t hosts → (f : ℕ) → length (marks_of t) ≤ f → hosts.models f ≡ None
few t hosts none f le = none f (let same = length-map t.functions (λ g. g.signature.host) in omega (arith, le, same))

-- they show as those under the gate of the bytes
bytes_seen : (t : TypedTree) (hosts : Hosts) (turns : ℕ) → AreOf t hosts → (n : ℕ) → bytes_after (core_program t) (models_of hosts.models) hosts.input turns n ≡ step_shown told_of (after t hosts turns n)
bytes_seen t hosts turns none n =
    ap (λ (w : Written). steps_run (core_program t) (bytes_gate (core_program t)) n (begun_machine (core_program t) turns) w) (sym (told_first hosts (marks_of t) (few t hosts none)))
    ∙ gates_agree told_of (λ h. h.is_host) (marks_of t) (gate_of heard_way heard_answer) (bytes_gate (core_program t)) (heard_shows t) (core_program t) n (begun_machine (core_program t) turns) (first_heard t hosts) refl

-- an end that so many steps come to is the run's
ended : LoweringKeepsTheRun → BytesAreTheRuns → (t : TypedTree) (hosts : Hosts) (turns : ℕ) → AreOf t hosts → IsTrue (is_well_formed t) → (n : ℕ) (end : End) → end_of (after t hosts turns n).answer ≡ Some end →
    Told (whole_run t (models_of hosts.models) hosts.input turns) (after t hosts turns n).gate.bytes end (after t hosts turns n).machine.turns
ended lowers tells t hosts turns none sound n end is =
    let program : ProgramTree = core_program t in
    let x : Step Written = bytes_after program (models_of hosts.models) hosts.input turns n in
    let same : x ≡ step_shown told_of (after t hosts turns n) = bytes_seen t hosts turns none n in
    let has : HasRun program (models_of hosts.models) hosts.input turns x end = tells program (models_of hosts.models) hosts.input turns n end (ap (λ (y : Step Written). end_of y.answer) same ∙ is) in
    let run : core_run program (models_of hosts.models) hosts.input turns ≡ whole_run t (models_of hosts.models) hosts.input turns = lowers t (models_of hosts.models) hosts.input turns sound in
    record {
      bytes_are = ap (λ (y : Step Written). y.gate.bytes) (sym same) ∙ has.bytes ∙ ap (λ (z : Run). written z.events) run;
      end_is = has.end_is ∙ ap (λ (z : Run). z.end) run;
      turns_are = ap (λ (y : Step Written). y.machine.turns) (sym same) ∙ has.turns_are ∙ ap (λ (z : Run). z.turns) run;
    }

-- ---- a machine that was made, entered and run

-- it has made so many steps of the whole run
pub record Made (t : TypedTree) (hosts : Hosts) (turns : ℕ) (answer : Stepped) (x : Machine) (g : Heard) : Type 0 where
  pub many : ℕ
  pub follows : Follows (core_program t) answer x g (after t hosts turns many)

pub made_steps : (t : TypedTree) (hosts : Hosts) (turns main : ℕ) → function_named t (codes "main") ≡ Some (record { 0 = main }) →
    (code : ProgramTree) → code ≡ core_program t → (x0 x1 x2 : Machine) → Shown code x0 (s.at_rest code turns) →
    ((program : ProgramTree) (privileged : Bool) (m : s.Machine) → Shown program x0 m → Shown program x1 (s.started program privileged main 1 [] m)) →
    (g0 g1 : Heard) → g0 ≡ heard_of hosts [] (marks_of t) → (answer : Stepped) (most left : ℕ) (stops : Heard → Bool) →
    ((program : ProgramTree) (m : s.Machine) → Shown program x1 m →
    (n : ℕ) × (n + left ≡ most) × ((k : ℕ) → k < n → MovesOn stops (steps_run program (gate_of heard_way heard_answer) k m g0)) × (0 < left → (answer_of answer ≢ s.moved) ⊎ (stops g1 ≡ true)) × Follows program answer x2 g1 (steps_run program (gate_of heard_way heard_answer) n m g0)) →
    Made t hosts turns answer x2 g1
made_steps t hosts turns main named code lowered x0 x1 x2 made entered g0 g1 begins answer most left stops runs =
    let rests : Shown (core_program t) x0 (s.at_rest (core_program t) turns) = subst (λ (p : ProgramTree). Shown p x0 (s.at_rest p turns)) lowered made in
    let starts : Shown (core_program t) x1 (begun_machine (core_program t) turns) =
    subst (λ (f : ℕ). Shown (core_program t) x1 (s.started (core_program t) false f 1 [] (s.at_rest (core_program t) turns))) (sym (core_main t main named)) (entered (core_program t) false (s.at_rest (core_program t) turns) rests) in
    let ran' = runs (core_program t) (begun_machine (core_program t) turns) starts in
    record {
      many = ran'.0;
      follows = subst (λ (g : Heard). Follows (core_program t) answer x2 g1 (steps_run (core_program t) (gate_of heard_way heard_answer) ran'.0 (begun_machine (core_program t) turns) g)) begins ran'.4;
    }

-- it goes on, or it has come to its end
pub of_a_run : StepsAreTheRun → SilentRunsAgree → (t : TypedTree) (hosts : Hosts) (turns : ℕ) → AreOf t hosts → (answer : Stepped) (x : Machine) (g : Heard) → Made t hosts turns answer x g → IsOfARun (answer_of answer)
of_a_run runs silent t hosts turns none answer x g made =
    subst IsOfARun (ap (λ (y : Step Written). y.answer) (bytes_seen t hosts turns none made.many) ∙ sym made.follows.answer)
    (bytes_of_a_run runs silent (core_program t) (models_of hosts.models) hosts.input turns made.many)

-- its end is that of the whole run, with the bytes and the turns
pub ran : LoweringKeepsTheRun → BytesAreTheRuns → (t : TypedTree) (hosts : Hosts) (turns : ℕ) → AreOf t hosts → IsTrue (is_well_formed t) → (answer : Stepped) (x : Machine) (g : Heard) → Made t hosts turns answer x g →
    (end : End) → end_of (answer_of answer) ≡ Some end → (k : ℕ) → ((program : ProgramTree) (m : s.Machine) → Shown program x m → k ≡ m.turns) →
    (bytes : List ℕ) → bytes ≡ g.bytes → Told (whole_run t (models_of hosts.models) hosts.input turns) bytes end k
ran lowers tells t hosts turns none sound answer x g made end ends k counts bytes wrote =
    let to : Step Heard = after t hosts turns made.many in
    let told = ended lowers tells t hosts turns none sound made.many end (ap end_of (sym made.follows.answer) ∙ ends) in
    record {
      bytes_are = wrote ∙ ap (λ (h : Heard). h.bytes) made.follows.gate ∙ told.bytes_are;
      end_is = told.end_is;
      turns_are = counts (core_program t) to.machine made.follows.shown ∙ told.turns_are;
    }
