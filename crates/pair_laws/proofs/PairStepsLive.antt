-- A step of a live pair whose slave asks for nothing.
use Rattle.std.proofs.Common.{◌≡◌, ◌∙◌, ◌⊎◌, inl, inr, ◌+◌, ◌<◌, ◌≤◌, ℕ, suc, refl, ap, sym, subst, arith, List, [], ◌++◌, append-nil, Option, Some, None, Bool, false}
use Rattle.pt_base.specs.declared.end.End.{End}
use Rattle.pt_base.specs.declared.end.End.TheVariants.{Exit, Spent, Trapped}
use Rattle.pt_base.specs.declared.span.Span.{Span}
use Rattle.pt_base.specs.declared.trap.Trap.{Trap}
use Rattle.pt_base.proofs.Numbers.{at_most_trans}
use Rattle.pt_base.proofs.Options.{none_not_some}
use Rattle.block_memory.specs.declared.cell.Cell.{Cell}
use Rattle.wire.specs.declared.message.Message.{Message}
use Rattle.wire.specs.declared.message.Message.TheVariants as message
use Rattle.wire.specs.declared.message.ReplyBody.{ReplyBody}
use Rattle.policy.specs.Answers.{answers_of}
use Rattle.policy.specs.Verdicts.{Standing}
use Rattle.pt_core.specs.CoreRun.{status_of}
use Rattle.pt_core.specs.Steps.{Answer, Gate, Machine, Step, answers, asked, ended, idle, moved, spent, step, trapped}
use Rattle.pt_core.specs.WellFormed.{monitor_program}
use Rattle.core_steps_law.specs.Laws.{TakesATurn}
use Rattle.core_steps_law.specs.WholeRun.{begun_machine, end_of, further, steps_run}
use Rattle.core_steps_law.proofs.Sums.{steps_add}
use Rattle.core_steps_law.proofs.TurnBounds.{steps_take_a_turn}
use Rattle.core_steps_law.specs.GatesShown.{step_shown}
use Rattle.core_steps_law.specs.MachinesJudged.{Judgement, Judging, begun_judging, judged_end, judging_gate}
use Rattle.core_steps_law.proofs.MachinesJudging.{runs_are_judged}
use Rattle.handle_classes.specs.Computes.{computes_next}
use Rattle.core_soundness_law.specs.Called.{GoesBy, KeepsAccount}
use Rattle.core_soundness_law.proofs.CalledAccounts.{steps_keep_account}
use Rattle.part_views_law.specs.Machines.{nobody, seen_machine}
use Rattle.part_views_law.specs.Views.{View, slave_view}
use Rattle.part_views_law.proofs.Instances.{slaves_are_viewed}
use Rattle.part_views_law.specs.StepsLaws.{IsOwn, IsSpent, Sees, StaysShown}
use Rattle.part_views_law.specs.StepsOutward.{EndSeen, Outward}
use Rattle.part_views_law.specs.StepsParts.{CallsFit, GatesAgree, IsViewed}
use Rattle.part_views_law.proofs.StepsOutward.{parts_lead}
use Rattle.part_views_law.proofs.StepsRuns.{own_step}
use Rattle.part_views_law.proofs.StepsStanding.{own_stands}
use Rattle.pair_protocol.specs.Pair.{answered, both_step, heard, run}
use Rattle.pair_protocol.specs.Sides.{Moved, Served, ends, goes_on}
use Rattle.pair_meaning.specs.Monitors.{Monitor}
use Rattle.pair_meaning.specs.Pair.{the_sides}
use Rattle.pair_meaning.specs.Rules.{PeerRule, early_rule}
use Rattle.pair_meaning.specs.Serving.{serve}
use Rattle.pair_meaning.specs.SlaveRun.{Heard, Slave, after_step, heard_by, machine_step, parks, slave_gate, stepped}
use Rattle.pair_invariant_law.specs.Hosts.{AllHostsFit}
use Rattle.pair_invariant_law.specs.Live.{IsKept, IsLate, IsLive, IsSetting, Setting, expected_of, whole_after}
use Rattle.pair_invariant_law.specs.SlaveGatesGathering.{AreAlike, Gathered, Meanwhile, gathering_gate, heard_in, judgement_at}
use Rattle.pair_invariant_law.specs.SlaveGatesLaws.{Wrote}
use Rattle.pair_invariant_law.proofs.SlaveGatesAgreeing.{slave_gates_agree}
use Rattle.pair_invariant_law.proofs.SlaveGatesFitting.{gathering_fits}
use Rattle.pair_invariant_law.proofs.SlaveGatesGathering.{gathering_steps_alike, one_run, slaves_write_once}
use Rattle.pair_invariant_law.proofs.SlaveGatesHosts.{hosts_go_on_fitting}
use Rattle.pair_laws.specs.PairStepsSteps.{IsNoCall, StepsKeep}
use Rattle.pair_laws.proofs.PairStepsLate.{begun, stays_active, step_is, wrote_turn}
use Rattle.pair_laws.proofs.PairStepsProper.{Proper, status_seen, steps_are_proper}
use Rattle.pair_laws.proofs.PairStepsServing.{emit_goes, expect, kept_end, kept_late, ruled, turns_go}

module _ (w : Setting) (Own : Slave → Type 0) (x : Slave) (m : Monitor) (written : List ℕ) (setting : IsSetting w Own) (live : IsLive w Own x m written) where
  abbrev v : View
  v = slave_view w.slave m.store m.globals

  abbrev outer : Gate (Judging Standing)
  outer = judging_gate (answers_of w.policy) w.whole

  abbrev inner : Gate Gathered
  inner = gathering_gate w.slave

  abbrev k : Meanwhile
  k = record { input = w.input; slave_input = x.input; monitor_hosts = m.hosts; written = written; state = m.policy; calls = m.calls }

  abbrev Alike : Judging Standing → Gathered → Type 0
  Alike = AreAlike w.slave (monitor_program w.monitor) k

  -- the judgement, with these bytes
  abbrev judged_so : List ℕ → Judgement Standing
  judged_so bytes = record { bytes = bytes; state = m.policy; calls = m.calls; refused = None }

  -- the slave's step, and the whole's from what is seen of the slave's machine
  abbrev y : Step Gathered
  y = step w.slave (gathering_gate w.slave) x.machine (begun x)

  abbrev seen : Machine
  seen = seen_machine (slave_view w.slave m.store m.globals) nobody m.turns w.budget x.machine

  abbrev big : Step (Judging Standing)
  big = step w.whole (judging_gate (answers_of w.policy) w.whole) (seen_machine (slave_view w.slave m.store m.globals) nobody m.turns w.budget x.machine) live.gate

  -- ---- what holds before the step

  alike : AreAlike w.slave (monitor_program w.monitor) k live.gate (begun x)
  alike = record {
    judgement = live.judgement ∙ ap judged_so (sym (append-nil written));
    input = live.input;
    slave_input = refl;
    hosts = live.hosts;
  }

  viewed : IsViewed (slave_view w.slave m.store m.globals) 0 false w.slave w.whole
  viewed = record { sound = setting.halves.slave_sound; parts = setting.halves.slave_part; view = slaves_are_viewed w.slave 0 m.store m.globals; ranged = live.theirs.ranged }

  agree : GatesAgree (slave_view w.slave m.store m.globals) w.slave false (gathering_gate w.slave) (judging_gate (answers_of w.policy) w.whole) (AreAlike w.slave (monitor_program w.monitor) k)
  agree = slave_gates_agree w.policy w.whole w.slave w.monitor m.store m.globals k setting.halves

  whole_fits : AllHostsFit w.slave live.gate.hosts
  whole_fits = subst (λ (s : Step (Judging Standing)). AllHostsFit w.slave s.gate.hosts) live.came (hosts_go_on_fitting w w.slave live.steps setting.bytes setting.slave_hosts).0

  fit : CallsFit w.slave (gathering_gate w.slave) (begun x)
  fit = gathering_fits w.whole w.slave w.monitor live.gate.hosts w.input m.hosts (begun x) setting.halves live.hosts whole_fits (setting.kept.sound x live.beside.own).input

  abbrev marked : ℕ → ℕ → Bool
  marked = (setting.kept.plain x live.beside.own).0

  plain : computes_next (setting.kept.plain x live.beside.own).0 w.slave (gathering_gate w.slave) x.machine (begun x) ≡ false
  plain =
      (gathering_steps_alike w.slave x.machine (begun x)).computes (setting.kept.plain x live.beside.own).0
      ∙ subst (λ p. computes_next (setting.kept.plain x live.beside.own).0 p (slave_gate p) x.machine (heard_by x) ≡ false) live.beside.program (setting.kept.plain x live.beside.own).1

  -- ---- the step

  shown : machine_step x ≡ step_shown heard_in y
  shown = ap (λ p. step p (slave_gate p) x.machine (heard_by x)) live.beside.program ∙ (gathering_steps_alike w.slave x.machine (begun x)).steps

  sees : IsOwn y.answer → Sees Alike v nobody m.turns w.budget big y ⊎ IsSpent m.turns w.budget live.gate big y
  sees =
      own_step (AreAlike w.slave (monitor_program w.monitor) k)
      (record { whole = w.whole; part = w.slave; outer = outer; inner = inner; v = v; base = 0; monitor = false; below = nobody; turns = m.turns; n = w.budget; viewed = viewed; gates = agree })
      marked x.machine live.gate (begun x) fit live.beside.stands alike x.machine.active live.beside.stands.fits.memory live.beside.stands.fits.active live.beside.stands.above plain

  stays : StaysShown (slave_view w.slave m.store m.globals) 0 false m.turns w.budget w.slave y
  stays = own_stands (AreAlike w.slave (monitor_program w.monitor) k) w.whole w.slave outer inner v 0 false m.turns w.budget x.machine live.gate (begun x) viewed agree fit live.beside.stands live.beside.free alike

  lead : Outward w.whole outer v nobody m.turns w.budget live.gate big x.machine y.machine y.answer
  lead = parts_lead marked w.whole w.slave outer inner v 0 false nobody m.turns w.budget x.machine live.gate (begun x) viewed live.beside.stands plain

  turns : TakesATurn x.machine.turns x.machine.budget y
  turns = steps_take_a_turn Gathered w.slave inner x.machine (begun x)

  whole_turns : TakesATurn (x.machine.turns + m.turns) w.budget big
  whole_turns = steps_take_a_turn (Judging Standing) w.whole outer seen live.gate

  account : KeepsAccount x.machine.active x.machine y
  account = steps_keep_account w.slave inner x.machine (begun x)

  wrote : Wrote x.machine y
  wrote = slaves_write_once w.slave x.machine (begun x) refl refl

  proper : Proper y.answer
  proper = steps_are_proper marked w.slave inner x.machine (begun x) live.beside.active.0 live.beside.active.1 live.beside.active.2 plain

  came : whole_after w (live.steps + 1) ≡ big
  came =
      steps_add (Judging Standing) w.whole outer live.steps 1 (begun_machine w.whole w.budget) (begun_judging (answers_of w.policy) w.hosts w.input)
      ∙ ap (λ (s : Step (Judging Standing)). further s (steps_run w.whole outer 1)) live.came
      ∙ one_run w.whole outer seen live.gate

  -- ---- what is expected, where the whole has ended

  expected_at : (end : End) → end_of big.answer ≡ Some end → big.gate.judgement ≡ judged_so written → expected_of w ≡ expect written end
  expected_at end has judgement =
      let judged = (runs_are_judged (answers_of w.policy) w.whole w.hosts w.input w.budget).ends (live.steps + 1) end (ap (λ (s : Step (Judging Standing)). end_of s.answer) came ∙ has) in
      sym judged.judgement_is
      ∙ ap (λ (s : Step (Judging Standing)). judged_end s.gate.judgement end) came
      ∙ ap (λ (j : Judgement Standing). judged_end j end) judgement

  -- where nothing was written, the judgement is as before
  quiet_judged : Sees Alike v nobody m.turns w.budget big y → y.gate.bytes ≡ [] → big.gate.judgement ≡ judged_so written
  quiet_judged s empty = s.gate.judgement ∙ ap (judgement_at k) empty ∙ ap judged_so (append-nil written)

  spent_expected : IsSpent m.turns w.budget live.gate big y → expected_of w ≡ expect written Spent
  spent_expected s = expected_at Spent (ap end_of s.answer) (ap (λ (h : Judging Standing). h.judgement) s.gate ∙ live.judgement)

  -- what doesn't move has written nothing
  quiet : (a : Answer) → y.answer ≡ a → (a ≡ moved → ⊥) → y.gate.bytes ≡ []
  quiet a e still = go wrote
    where
      go : Wrote x.machine y → y.gate.bytes ≡ []
      go (inl (none, empty)) = empty
      go (inr (more, h)) = absurd (still (sym e ∙ h.moves))

  -- ---- turns

  last_before : m.last ≤ y.machine.turns
  last_before = at_most_trans m.last x.machine.turns y.machine.turns live.beside.last turns.none_back

  same_budget : m.budget ≡ w.budget
  same_budget = live.theirs.budget

  -- what the whole takes are both sides' turns
  within : Sees Alike v nobody m.turns w.budget big y → y.machine.turns + m.turns ≤ w.budget
  within s = subst (λ (z : Machine). z.turns ≤ w.budget) s.machine (whole_turns.within live.turns)

  room : y.machine.turns + m.turns ≤ w.budget → y.machine.turns + m.turns ≤ m.budget
  room h = subst (λ n. y.machine.turns + m.turns ≤ n) (sym same_budget) h

  over : w.budget < y.machine.turns + m.turns → m.budget < y.machine.turns + m.turns
  over h = subst (λ n. n < y.machine.turns + m.turns) (sym same_budget) h

  -- ---- the slave behind it

  abbrev x1 : Slave
  x1 = stepped x (step_shown heard_in y)

  abbrev Kept : Moved Slave Message → Type 0
  Kept z = IsKept w Own (heard the_sides z.slave z.said m written)

  -- both have moved: the pair is live, with a monitor that heard of so many turns, and with what was written now
  goes_live : (last : ℕ) (now : List ℕ) → y.answer ≡ moved → Own x1 → Sees Alike v nobody m.turns w.budget big y → last ≤ y.machine.turns → written ++ y.gate.bytes ≡ now → IsLive w Own x1 (record m { last = last }) now
  goes_live last now e own s fine bytes = record {
    theirs = record { program = live.theirs.program; memory = live.theirs.memory; received = live.theirs.received; ranged = live.theirs.ranged; input = live.theirs.input; budget = live.theirs.budget; hosts_fit = live.theirs.hosts_fit };
    beside = record {
      own = own;
      program = live.beside.program;
      doing = live.beside.doing;
      active = stays_active x.machine.active y.machine.active live.beside.active goes.1;
      free = goes.0 ∙ live.beside.free;
      stands = stays.stands;
      given = live.beside.given;
      budget = turns.same_budget ∙ live.beside.budget;
      calls = live.beside.calls;
      last = fine;
    };
    steps = live.steps + 1;
    gate = big.gate;
    came = came ∙ ap (λ (a : Answer). answers a big.machine big.gate) (s.answer ∙ e) ∙ ap (λ (z : Machine). answers moved z big.gate) s.machine;
    judgement = s.gate.judgement ∙ ap judged_so bytes;
    input = s.gate.input;
    hosts = s.gate.hosts;
    turns = within s;
  }
    where
      goes : GoesBy x.machine.active x.machine moved y.machine
      goes = subst (λ a. GoesBy x.machine.active x.machine a y.machine) e account.goes

  -- the whole's budget is spent, and the slave goes on
  goes_late : y.answer ≡ moved → Own x1 → IsSpent m.turns w.budget live.gate big y → IsLate w Own x1 m written
  goes_late e own s = record {
    own = own;
    program = live.beside.program;
    doing = live.beside.doing;
    active = stays_active x.machine.active y.machine.active live.beside.active (subst (λ a. GoesBy x.machine.active x.machine a y.machine) e account.goes).1;
    slave_budget = turns.same_budget ∙ live.beside.budget;
    budget = live.theirs.budget;
    last = last_before;
    over = s.over;
    expected_is = spent_expected s;
  }

  -- ---- it moved, and wrote nothing

  silent_step : y.answer ≡ moved → y.gate.heard.wrote ≡ None → Own x1 → Sees Alike v nobody m.turns w.budget big y ⊎ IsSpent m.turns w.budget live.gate big y → IsLive w Own x1 m written ⊎ IsLate w Own x1 m written
  silent_step e none own (inl s) = inl (goes_live m.last written e own s last_before (ap (λ bytes. written ++ bytes) (unwritten wrote) ∙ append-nil written))
    where
      unwritten : Wrote x.machine y → y.gate.bytes ≡ []
      unwritten (inl (_, empty)) = empty
      unwritten (inr (more, h)) = none_not_some more (sym none ∙ h.wrote)
  silent_step e none own (inr s) = inr (goes_late e own s)

  -- ---- it moved, and wrote

  same_turns : (n : ℕ) → n ≤ n
  same_turns n = omega arith

  written_step : (bytes : List ℕ) → y.answer ≡ moved → y.gate.heard.wrote ≡ Some bytes → Own x1 → Sees Alike v nobody m.turns w.budget big y ⊎ IsSpent m.turns w.budget live.gate big y →
      IsKept w Own (heard the_sides x1 (Some (message.Emit y.machine.turns bytes)) m written)
  written_step bytes e some own both = go both
    where
      both_are : (y.gate.bytes ≡ bytes) × (y.machine.turns ≡ suc x.machine.turns)
      both_are = wrote_turn x.machine y bytes wrote some

      risen : (last before after : ℕ) → last ≤ before → after ≡ suc before → last < after
      risen last before after h e = omega (arith, h, e)

      early : early_rule m.last (message.Emit y.machine.turns bytes) ≡ None
      early = emit_goes m.last y.machine.turns bytes (risen m.last x.machine.turns y.machine.turns live.beside.last both_are.1)

      served : Sees Alike v nobody m.turns w.budget big y → serve m (message.Emit y.machine.turns bytes) ≡ goes_on (record m { last = y.machine.turns }) None bytes
      served s = ruled m (message.Emit y.machine.turns bytes) early (room (within s))

      go : Sees Alike v nobody m.turns w.budget big y ⊎ IsSpent m.turns w.budget live.gate big y → IsKept w Own (heard the_sides x1 (Some (message.Emit y.machine.turns bytes)) m written)
      go (inl s) =
          subst (λ (r : Served Monitor ReplyBody End PeerRule). IsKept w Own (answered the_sides x1 written r)) (sym (served s))
          (inl (goes_live y.machine.turns (written ++ bytes) e own s (same_turns y.machine.turns) (ap (λ more. written ++ more) both_are.0)))
      go (inr s) = kept_late w Own x1 m (message.Emit y.machine.turns bytes) written early (over s.over) (spent_expected s)

  -- ---- it ended

  ended_step : (o : Option Cell) (z : Slave) → y.answer ≡ ended o → IsKept w Own (heard the_sides z (Some (message.Exit y.machine.turns (status_of o))) m written)
  ended_step o z e = kept_end w Own z m (message.Exit y.machine.turns (status_of o)) written (Exit (status_of o)) served
      (expected_at (Exit (status_of o)) (ap (λ (s : Step (Judging Standing)). end_of s.answer) end.returns ∙ ap (λ n. Some (Exit n)) (status_seen v o (subst Proper e proper)))
      (ap (λ (s : Step (Judging Standing)). s.gate.judgement) end.returns ∙ live.judgement))
    where
      end : EndSeen v nobody m.turns w.budget live.gate big x.machine y.machine o
      end = subst (λ a. Outward w.whole outer v nobody m.turns w.budget live.gate big x.machine y.machine a) e lead

      left : y.machine.turns ≡ x.machine.turns
      left = ap (λ (z : Machine). z.turns) end.left

      served : serve m (message.Exit y.machine.turns (status_of o)) ≡ ends [] (Exit (status_of o))
      served = ruled m (message.Exit y.machine.turns (status_of o)) (turns_go m.last y.machine.turns last_before) (room (subst (λ n. n + m.turns ≤ w.budget) (sym left) live.turns))

  -- ---- it trapped, or its own budget is spent

  moved_trapped : (trap : Trap) (span : Span) → trapped trap span ≡ moved → ⊥
  moved_trapped trap span e = cc

  moved_spent : spent ≡ moved → ⊥
  moved_spent e = cc

  trapped_step : (trap : Trap) (span : Span) (z : Slave) → y.answer ≡ trapped trap span → Sees Alike v nobody m.turns w.budget big y ⊎ IsSpent m.turns w.budget live.gate big y →
      IsKept w Own (heard the_sides z (Some (message.Trap y.machine.turns trap span)) m written)
  trapped_step trap span z e (inl s) =
      kept_end w Own z m (message.Trap y.machine.turns trap span) written (Trapped trap span)
      (ruled m (message.Trap y.machine.turns trap span) (turns_go m.last y.machine.turns last_before) (room (within s)))
      (expected_at (Trapped trap span) (ap end_of (s.answer ∙ e)) (quiet_judged s (quiet (trapped trap span) e (moved_trapped trap span))))
  trapped_step trap span z e (inr s) =
      kept_late w Own z m (message.Trap y.machine.turns trap span) written (turns_go m.last y.machine.turns last_before) (over s.over) (spent_expected s)

  spent_step : (z : Slave) → y.answer ≡ spent → Sees Alike v nobody m.turns w.budget big y ⊎ IsSpent m.turns w.budget live.gate big y → IsKept w Own (heard the_sides z (Some (message.Park (y.machine.budget + 1))) m written)
  spent_step z e both =
      kept_late w Own z m (message.Park (y.machine.budget + 1)) written (turns_go m.last (y.machine.budget + 1) (parked m.last x.machine.turns m.turns w.budget x.machine.budget y.machine.budget live.beside.last live.turns live.beside.budget turns.same_budget))
      (beyond m.budget w.budget x.machine.budget y.machine.budget m.turns same_budget live.beside.budget turns.same_budget) (expected both)
    where
      parked : (last t u n b c : ℕ) → last ≤ t → t + u ≤ n → b ≡ n → c ≡ b → last ≤ c + 1
      parked last t u n b c h room e f = omega (arith, h, room, e, f)

      beyond : (a n b c u : ℕ) → a ≡ n → b ≡ n → c ≡ b → a < (c + 1) + u
      beyond a n b c u e f g = omega (arith, e, f, g)

      expected : Sees Alike v nobody m.turns w.budget big y ⊎ IsSpent m.turns w.budget live.gate big y → expected_of w ≡ expect written Spent
      expected (inl s) = expected_at Spent (ap end_of (s.answer ∙ e)) (quiet_judged s (quiet spent e moved_spent))
      expected (inr s) = spent_expected s

  -- ---- the step

  by_answer : (a : Answer) → y.answer ≡ a → IsNoCall a → (o : Option (List ℕ)) → y.gate.heard.wrote ≡ o → Own (after_step x1 a o).slave → Kept (after_step x1 a o)
  by_answer moved e calm None none own = silent_step e none own (sees (subst IsOwn (sym e) (tt {0})))
  by_answer moved e calm (Some bytes) some own = written_step bytes e some own (sees (subst IsOwn (sym e) (tt {0})))
  by_answer (asked f args depth) e calm o is own = absurd calm
  by_answer (ended v1) e calm o is own = ended_step v1 (after_step x1 (ended v1) o).slave e
  by_answer (trapped trap span) e calm o is own = trapped_step trap span (after_step x1 (trapped trap span) o).slave e (sees (subst IsOwn (sym e) (tt {0})))
  by_answer spent e calm o is own = spent_step (parks x1).slave e (sees (subst IsOwn (sym e) (tt {0})))
  by_answer idle e calm o is own = absurd (subst Proper e proper)

  live_step : IsNoCall (machine_step x).answer → IsKept w Own (both_step the_sides (run x m written))
  live_step calm =
      subst (IsKept w Own) (sym (step_is x m written (step_shown heard_in y) live.beside.doing shown))
      (by_answer y.answer refl (subst (λ (s : Step Heard). IsNoCall s.answer) shown calm) y.gate.heard.wrote refl
      (subst (λ (s : Step Heard). Own (after_step (stepped x s) s.answer s.gate.wrote).slave) shown (setting.kept.steps x live.beside.own live.beside.doing)))

pub steps_keep : (Own : Slave → Type 0) → StepsKeep Own
steps_keep Own w x m written setting live calm = live_step w Own x m written setting live calm
