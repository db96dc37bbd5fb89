-- A step of a late pair.
use Rattle.std.proofs.Common.{◌≡◌, ◌∙◌, inl, inr, ◌+◌, ◌<◌, ◌≤◌, ℕ, suc, refl, ap, sym, subst, arith, List, [], ◌∷◌, Option, Some, None, Bool, true, false}
use Rattle.std.specs.Prelude.{nat_le, if◌then◌else◌}
use Rattle.pt_base.specs.declared.end.End.{End}
use Rattle.pt_base.proofs.Numbers.{at_most_trans}
use Rattle.pt_base.proofs.Options.{none_not_some, some_same}
use Rattle.block_memory.specs.declared.cell.Cell.{Cell}
use Rattle.wire.specs.declared.message.Message.{Message}
use Rattle.wire.specs.declared.message.Message.TheVariants as message
use Rattle.pt_core.specs.CoreRun.{status_of}
use Rattle.pt_core.specs.Steps.{Active, Answer, Machine, Step, asked, ended, idle, moved, spent, step, trapped}
use Rattle.core_steps_law.specs.Laws.{TakesATurn}
use Rattle.core_steps_law.proofs.TurnBounds.{steps_take_a_turn}
use Rattle.core_steps_law.specs.GatesShown.{step_shown}
use Rattle.core_soundness_law.specs.Called.{GoesBy, HasOutermost, KeepsAccount, SameOutermost}
use Rattle.core_soundness_law.proofs.CalledAccounts.{steps_keep_account}
use Rattle.pair_protocol.specs.Pair.{Both, both_in, both_step, heard, run}
use Rattle.pair_protocol.specs.Sides.{Moved}
use Rattle.pair_meaning.specs.Monitors.{Monitor}
use Rattle.pair_meaning.specs.Pair.{the_sides}
use Rattle.pair_meaning.specs.Rules.{PeerRule, early_rule, needs}
use Rattle.pair_meaning.specs.SlaveRun.{Doing, Heard, Slave, after_step, awaits_reply, call_of, calls_or_parks, goes, heard_by, machine_step, mode_by, must_wait, parks, posts, says_call, stepped}
use Rattle.slave_soundness_law.specs.Sound.{IsSound}
use Rattle.pair_invariant_law.specs.Live.{IsKept, IsLate, IsSetting, Setting}
use Rattle.pair_invariant_law.specs.SlaveGatesGathering.{Gathered, gathering_gate, heard_in}
use Rattle.pair_invariant_law.specs.SlaveGatesLaws.{Wrote}
use Rattle.pair_invariant_law.proofs.SlaveGatesGathering.{gathering_steps_alike, slaves_write_once}
use Rattle.pair_laws.specs.PairStepsSteps.{LateKeeps}
use Rattle.pair_laws.proofs.PairStepsProper.{Proper, steps_are_proper}
use Rattle.pair_laws.proofs.PairStepsServing.{emit_goes, kept_late, turns_go}

-- ---- a function stays active

outermost : (a : Active) (rest : List Active) → (f : ℕ) × HasOutermost f (a ∷ rest)
outermost a [] = (a.function, refl)
outermost a (b ∷ rest) = outermost b rest

abbrev pub HasActive : List Active → Type 0
HasActive active = (a : Active) × (rest : List Active) × (active ≡ a ∷ rest)

has_active : (f : ℕ) (active : List Active) → HasOutermost f active → HasActive active
has_active f [] h = absurd h
has_active f (a ∷ rest) h = (a, rest, refl)

pub stays_active : (before after : List Active) → HasActive before → SameOutermost before after → HasActive after
stays_active before after (a, rest, is) same =
    let first = outermost a rest in
    has_active first.0 after (same first.0 (subst (λ active. HasOutermost first.0 active) (sym is) first.1))

-- ---- a slave's step, by the gate that gathers

-- nothing was heard in it yet
abbrev pub begun : Slave → Gathered
begun x = record { heard = heard_by x; bytes = [] }

abbrev pub heard_at : Slave → Monitor → List ℕ → Step Heard → Both Slave Monitor End PeerRule
heard_at x m written s = heard the_sides (after_step (stepped x s) s.answer s.gate.wrote).slave (after_step (stepped x s) s.answer s.gate.wrote).said m written

-- the pair's step, where the slave goes on
pub step_is : (x : Slave) (m : Monitor) (written : List ℕ) (s : Step Heard) → x.doing ≡ goes → machine_step x ≡ s → both_step the_sides (run x m written) ≡ heard_at x m written s
step_is x m written s going e = ap (λ (d : Doing). both_in the_sides (mode_by d) x m written) going ∙ ap (heard_at x m written) e

-- a write has taken a turn
pub wrote_turn : (x : Machine) (s : Step Gathered) (bytes : List ℕ) → Wrote x s → s.gate.heard.wrote ≡ Some bytes → (s.gate.bytes ≡ bytes) × (s.machine.turns ≡ suc x.turns)
wrote_turn x s bytes (inl (none, empty)) e = none_not_some bytes (sym none ∙ e)
wrote_turn x s bytes (inr (more, h)) e = (h.gathered ∙ some_same more bytes (sym h.wrote ∙ e), h.turn)

-- ---- the step

module _ (w : Setting) (Own : Slave → Type 0) (x : Slave) (m : Monitor) (written : List ℕ) (setting : IsSetting w Own) (late : IsLate w Own x m written) where
  abbrev y : Step Gathered
  y = step x.program (gathering_gate x.program) x.machine (begun x)

  abbrev x1 : Slave
  x1 = stepped x (step_shown heard_in y)

  abbrev Kept : Moved Slave Message → Type 0
  Kept z = IsKept w Own (heard the_sides z.slave z.said m written)

  shown : machine_step x ≡ step_shown heard_in y
  shown = (gathering_steps_alike x.program x.machine (begun x)).steps

  turns : TakesATurn x.machine.turns x.machine.budget y
  turns = steps_take_a_turn Gathered x.program (gathering_gate x.program) x.machine (begun x)

  account : KeepsAccount x.machine.active x.machine y
  account = steps_keep_account x.program (gathering_gate x.program) x.machine (begun x)

  wrote : Wrote x.machine y
  wrote = slaves_write_once x.program x.machine (begun x) refl refl

  proper : Proper y.answer
  proper =
      let plain = setting.kept.plain x late.own in
      steps_are_proper plain.0 x.program (gathering_gate x.program) x.machine (begun x) late.active.0 late.active.1 late.active.2
      ((gathering_steps_alike x.program x.machine (begun x)).computes plain.0 ∙ plain.1)

  last_before : m.last ≤ y.machine.turns
  last_before = at_most_trans m.last x.machine.turns y.machine.turns late.last turns.none_back

  still_over : (n a b t more : ℕ) → n < a + t → a ≤ b → b ≤ more → n < more + t
  still_over n a b t more h k l = omega (arith, h, k, l)

  -- so many turns and more are too many
  over : (more : ℕ) → y.machine.turns ≤ more → m.budget < more + m.turns
  over more h = subst (λ n. n < more + m.turns) (sym late.budget) (still_over w.budget x.machine.turns y.machine.turns m.turns more late.over turns.none_back h)

  same_turns : (n : ℕ) → n ≤ n
  same_turns n = omega arith

  -- what is said with the turns of the step, or more
  said_late : (s : Slave) (z : Message) → early_rule m.last z ≡ None → y.machine.turns ≤ needs z → IsKept w Own (heard the_sides s (Some z) m written)
  said_late s z early h = kept_late w Own s m z written early (over (needs z) h) late.expected_is

  parks_late : Kept (parks x1)
  parks_late =
      let sound : IsSound x = setting.kept.sound x late.own in
      said_late (parks x1).slave (message.Park (y.machine.budget + 1)) (turns_go m.last (y.machine.budget + 1) (parked m.last x.machine.turns x.machine.budget y.machine.budget late.last sound.turns turns.same_budget))
      (grown y.machine.turns x.machine.budget y.machine.budget (turns.within sound.turns) turns.same_budget)
    where
      parked : (last t b c : ℕ) → last ≤ t → t ≤ b → c ≡ b → last ≤ c + 1
      parked last t b c h k e = omega (arith, h, k, e)

      grown : (t b c : ℕ) → t ≤ b → c ≡ b → t ≤ c + 1
      grown t b c h e = omega (arith, h, e)

  one_turn : (t : ℕ) → t ≤ t + 1
  one_turn t = omega arith

  -- a call, whatever it wants
  call_late : (s : Slave) (f : ℕ) (args : List Cell) (depth : ℕ) (wants : Bool) → IsKept w Own (heard the_sides s (Some (call_of x1 f args depth wants)) m written)
  call_late s f args depth wants = said_late s (call_of x1 f args depth wants) (turns_go m.last y.machine.turns last_before) (one_turn y.machine.turns)

  either : (b : Bool) (u v : Moved Slave Message) → Kept u → Kept v → Kept (if b then u else v)
  either true u v h k = h
  either false u v h k = k

  asks_late : (f : ℕ) (args : List Cell) (depth : ℕ) → Kept (calls_or_parks x1 f args depth)
  asks_late f args depth =
      either (nat_le x1.machine.budget (x1.machine.turns + x1.calls)) (parks x1) (says_call x1 f args depth) parks_late
      (either (must_wait x1 f args) (awaits_reply x1 f args depth) (posts x1 f args depth)
      (call_late (awaits_reply x1 f args depth).slave f args depth true) (call_late (posts x1 f args depth).slave f args depth false))

  goes_late : y.answer ≡ moved → Own x1 → IsLate w Own x1 m written
  goes_late e own = record {
    own = own;
    program = late.program;
    doing = late.doing;
    active = stays_active x.machine.active y.machine.active late.active (subst (λ a. GoesBy x.machine.active x.machine a y.machine) e account.goes).1;
    slave_budget = turns.same_budget ∙ late.slave_budget;
    budget = late.budget;
    last = last_before;
    over = still_over w.budget x.machine.turns y.machine.turns m.turns y.machine.turns late.over turns.none_back (same_turns y.machine.turns);
    expected_is = late.expected_is;
  }

  writes_late : (bytes : List ℕ) (s : Slave) → y.gate.heard.wrote ≡ Some bytes → IsKept w Own (heard the_sides s (Some (message.Emit y.machine.turns bytes)) m written)
  writes_late bytes s e =
      said_late s (message.Emit y.machine.turns bytes) (emit_goes m.last y.machine.turns bytes (risen m.last x.machine.turns y.machine.turns late.last (wrote_turn x.machine y bytes wrote e).1)) (same_turns y.machine.turns)
    where
      risen : (last before after : ℕ) → last ≤ before → after ≡ suc before → last < after
      risen last before after h e = omega (arith, h, e)

  by_answer : (a : Answer) → y.answer ≡ a → (o : Option (List ℕ)) → y.gate.heard.wrote ≡ o → Own (after_step x1 a o).slave → Kept (after_step x1 a o)
  by_answer moved e None none own = inr (goes_late e own)
  by_answer moved e (Some bytes) some own = writes_late bytes x1 some
  by_answer (asked f args depth) e o is own = asks_late f args depth
  by_answer (ended v) e o is own = said_late (after_step x1 (ended v) o).slave (message.Exit y.machine.turns (status_of v)) (turns_go m.last y.machine.turns last_before) (same_turns y.machine.turns)
  by_answer (trapped trap span) e o is own = said_late (after_step x1 (trapped trap span) o).slave (message.Trap y.machine.turns trap span) (turns_go m.last y.machine.turns last_before) (same_turns y.machine.turns)
  by_answer spent e o is own = parks_late
  by_answer idle e o is own = absurd (subst Proper e proper)

  late_step : IsKept w Own (both_step the_sides (run x m written))
  late_step =
      subst (IsKept w Own) (sym (step_is x m written (step_shown heard_in y) late.doing shown))
      (by_answer y.answer refl y.gate.heard.wrote refl
      (subst (λ (s : Step Heard). Own (after_step (stepped x s) s.answer s.gate.wrote).slave) shown (setting.kept.steps x late.own late.doing)))

pub late_keeps : (Own : Slave → Type 0) → LateKeeps Own
late_keeps Own w x m written setting late = late_step w Own x m written setting late
