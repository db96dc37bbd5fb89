-- Any number of steps.
use Rattle.std.proofs.Common.{◌≡◌, ◌∙◌, ℕ, zero, suc, ◌+◌, ◌-◌, ◌*◌, ◌≤◌, ◌<◌, List, Some, None, true, false, refl, sym, ap, subst, arith}
use Rattle.pt_base.proofs.Booleans.{false_not_true}
use Rattle.pt_base.proofs.Numbers.{at_most_self}
use Rattle.pt_core.specs.CodeTree.{ProgramTree}
use Rattle.runs.specs.Run.{Run}
use Rattle.pt_core.specs.CoreRun.{core_run}
use Rattle.pt_core.specs.Steps.{Active, Machine, Gate, Answer, moved, asked, ended, trapped, spent, idle, Step, answers, step}
use Rattle.core_steps_law.specs.WholeRun.{Outside, whole_gate, begun_machine, begun_outside, further, steps_run, run_seen}
use Rattle.core_steps_law.proofs.WholeSteps.{steps_are_the_run}
use Rattle.core_steps_law.specs.MachinesRoom.{steps_left, breadth, room_by, room}
use Rattle.core_steps_law.specs.MachinesBounded.{goes, IsUsed, IsLeft, GoesOn, StepsAreBounded, RunsAreBounded, longest_run, RunsAreSeen}
use Rattle.core_steps_law.proofs.MachinesBodies.{one_stop}
use Rattle.core_steps_law.proofs.MachinesRooms.{steps_use_room}

-- ---- what is told between steps

-- only these three count
abbrev part_room : ℕ → List Active → ℕ → ℕ → ℕ
part_room wide active turns budget = (budget - turns) * (wide + 1) + steps_left active

pub left_used : (program : ProgramTree) (wide n : ℕ) (m m' : Machine) → IsLeft m m' → IsUsed program wide n m → IsUsed program wide n m'
left_used program wide n m m' same used =
    let e : room_by wide m' ≡ room_by wide m =
    ap (λ active. part_room wide active m'.turns m'.budget) same.active ∙ ap (λ turns. part_room wide m.active turns m'.budget) same.turns ∙ ap (λ budget. part_room wide m.active m.turns budget) same.budget in
    record {
      less = subst (λ k. k < n) (sym e) used.less;
      fits = subst (λ active. breadth program active ≤ wide) (sym same.active) used.fits;
    }

bounded_by : {G : Type 0} (program : ProgramTree) (wide : ℕ) (n : ℕ) (gates : ℕ → Gate G) (states : ℕ → G) (machines : ℕ → Machine) → breadth program (machines 0).active ≤ wide →
    ((k : ℕ) → k < n → GoesOn program (gates k) (states k) (machines k) (machines (suc k))) → n ≤ room_by wide (machines 0)
bounded_by program wide zero gates states machines fits each = omega arith
bounded_by program wide (suc n) gates states machines fits each =
    let first = each 0 (omega arith) in
    let used : IsUsed program wide (room_by wide (machines 0)) (machines 1) =
    left_used program wide (room_by wide (machines 0)) _ (machines 1) first.left (steps_use_room program (gates 0) (machines 0) (states 0) wide fits first.going) in
    let less : room_by wide (machines 1) < room_by wide (machines 0) = used.less in
    let more : n ≤ room_by wide (machines 1) =
    bounded_by program wide n (λ k. gates (suc k)) (λ k. states (suc k)) (λ k. machines (suc k)) used.fits (λ k lower. each (suc k) (omega arith)) in
    omega arith

pub steps_are_bounded : {G : Type 0} → StepsAreBounded G
steps_are_bounded program gates states machines n each = bounded_by program (breadth program (machines 0).active) n gates states machines (at_most_self (breadth program (machines 0).active)) each

-- ---- runs

moved_goes : (a : Answer) → a ≡ moved → goes a ≡ true
moved_goes a e = ap goes e

not_moved : {A : Type 0} (a : Answer) → goes a ≡ false → a ≡ moved → A
not_moved a f e = false_not_true (sym f ∙ ap goes e)

-- a step that moved, and then a run that did
moved_by : {G : Type 0} (program : ProgramTree) (gate : Gate G) (wide n k : ℕ) (answer : Answer) (m : Machine) (g : G) → (goes answer ≡ true → IsUsed program wide k m) →
    ((g1 : G) → breadth program m.active ≤ wide → (steps_run program gate n m g1).answer ≡ moved → n ≤ room_by wide m) →
    (further (answers answer m g) (steps_run program gate n)).answer ≡ moved → suc n ≤ k
moved_by program gate wide n k moved m g used more h =
    let u = used refl in
    let less : room_by wide m < k = u.less in
    let le : n ≤ room_by wide m = more g u.fits h in
    omega arith
moved_by program gate wide n k (asked f args depth) m g used more h = not_moved (asked f args depth) (differs (asked f args depth) h) h
  where
    differs : (a : Answer) → asked f args depth ≡ moved → goes a ≡ false
    differs a e = cc
moved_by program gate wide n k (ended v) m g used more h = not_moved (ended v) refl h
moved_by program gate wide n k (trapped trap span) m g used more h = not_moved (trapped trap span) refl h
moved_by program gate wide n k spent m g used more h = not_moved spent refl h
moved_by program gate wide n k idle m g used more h = not_moved idle refl h

run_bounded : {G : Type 0} (program : ProgramTree) (gate : Gate G) (wide n : ℕ) (m : Machine) (g : G) → breadth program m.active ≤ wide → (steps_run program gate n m g).answer ≡ moved → n ≤ room_by wide m
run_bounded program gate wide zero m g fits h = omega arith
run_bounded {G} program gate wide (suc n) m g fits h =
    let x : Step G = step program gate m g in
    moved_by program gate wide n (room_by wide m) x.answer x.machine x.gate (steps_use_room program gate m g wide fits)
    (λ g1 fits1 h1. run_bounded program gate wide n x.machine g1 fits1 h1) h

over : (n k : ℕ) → n ≤ k → k < n → ⊥
over n k h i = absurd (omega arith)

pub runs_are_bounded : {G : Type 0} → RunsAreBounded G
runs_are_bounded program gate m g n less h = over n (room program m) (run_bounded program gate (breadth program m.active) n m g (at_most_self (breadth program m.active)) h) less

-- ---- whole runs

seen_stops : (s : Step Outside) (run : Run) → run_seen s ≡ Some run → s.answer ≡ moved → ⊥
seen_stops s run h e = none (sym (ap (λ a. run_seen (answers a s.machine s.gate)) e) ∙ h)
  where
    none : None ≡ Some run → ⊥
    none e = cc

pub runs_are_seen : RunsAreSeen
runs_are_seen program hosts input turns =
    let first = steps_are_the_run program hosts input turns in
    let m : Machine = begun_machine program turns in
    let g : Outside = begun_outside hosts input in
    let n : ℕ = longest_run program turns in
    let stopped = seen_stops (steps_run program (whole_gate program) first.0 m g) (core_run program hosts input turns) first.1 in
    ap run_seen (one_stop program (whole_gate program) m g n first.0 (runs_are_bounded program (whole_gate program) m g n (less_more (room program m))) stopped) ∙ first.1
  where
    less_more : (k : ℕ) → k < suc k
    less_more k = omega arith
