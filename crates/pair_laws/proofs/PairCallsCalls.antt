-- What a slave asks for keeps the pair.
use Rattle.std.proofs.Common.{◌≡◌, ◌∙◌, ◌⊎◌, inl, inr, ℕ, suc, ◌+◌, ◌≤◌, ◌<◌, nat_lt, ap, sym, refl, subst, arith, List, [], ◌++◌, append-nil, length, Bool, true, false, Option, Some, None, if◌then◌else◌}
use Rattle.std.specs.Prelude.{nat_le}
use Rattle.std.proofs.lemmas.Bool.{or_parts}
use Rattle.std.proofs.lemmas.Bool.Decides.{nat_tests}
use Rattle.std.proofs.lemmas.List.{length-map}
use Rattle.monitor_soundness_law.proofs.ServingBlocks.{brought_is}
use Rattle.pt_base.specs.declared.end.End.{End}
use Rattle.pt_base.specs.declared.end.End.TheVariants.{Spent, Trapped}
use Rattle.pt_base.proofs.Numbers.{nat_le_at_most, nat_lt_below, nat_lt_false, nat_lt_true}
use Rattle.runs.specs.Run.{written as bytes_of}
use Rattle.runs.specs.State as r
use Rattle.runs.specs.State.{Hosts, gives}
use Rattle.policy.specs.Answers.{answers_of}
use Rattle.policy.specs.Verdicts.{Standing}
use Rattle.block_memory.specs.declared.cell.Cell.{Cell}
use Rattle.wire.specs.declared.message.Message.{Message}
use Rattle.wire.specs.declared.message.Message.TheVariants as message
use Rattle.wire.specs.declared.message.ReplyBody.{ReplyBody}
use Rattle.pt_core.specs.CodeTree.{ProgramTree}
use Rattle.pt_core.specs.Statements.{State, Outcome}
use Rattle.pt_core.specs.Steps as p
use Rattle.pt_core.specs.Steps.{Answer, Step, asked}
use Rattle.pt_core.specs.WellFormed.{monitor_program}
use Rattle.core_steps_law.specs.WholeRun.{end_of}
use Rattle.core_steps_law.specs.MachinesJudged.{Judgement, Judging, judged_end}
use Rattle.core_steps_law.proofs.MachinesJudging.{refused_runs_are_expected, runs_are_judged}
use Rattle.marshalling.specs.HonestCalls as honest_calls
use Rattle.marshalling.specs.Replies.{has_plain, packed_results, result_places}
use Rattle.marshalling.specs.Taking.{after_posting, after_reply, call_places, is_reply}
use Rattle.marshalling_law.proofs.PostingLemmas.{posting_takes}
use Rattle.part_views_law.proofs.CrossingsEnding.{calls_end}
use Rattle.pair_protocol.specs.Sides.{Moved, Served, goes_on}
use Rattle.pair_protocol.specs.Sides as side
use Rattle.pair_protocol.specs.Pair.{Both, answered, both_in, both_step, heard, run}
use Rattle.pair_meaning.specs.Monitors.{Monitor, low}
use Rattle.pair_meaning.specs.Pair.{the_sides}
use Rattle.pair_meaning.specs.Rules.{Admitted, PeerRule, Verdict, bad_turns, broken_if, makes, rules, unless_broken}
use Rattle.pair_meaning.specs.Rules as rule
use Rattle.pair_meaning.specs.Serving.{acted, global_part, is_spent, left_for, reply_with, serve, served_by, work_of}
use Rattle.pair_meaning.specs.SlaveRun.{Doing, Slave, after_step, awaits_reply, calls_or_parks, is_over, is_reply_to, machine_step, mode_by, must_wait, parks, posts, says_call, slave_step, stepped, take, with_reply, with_taken}
use Rattle.pair_invariant_law.specs.Laws.{CallsKeep}
use Rattle.pair_invariant_law.specs.Live.{IsKept, IsLive, IsSetting, Setting, expected_of, whole_after}
use Rattle.pair_laws.specs.ServedBodiesLaws.{Ends, IsNoted, IsSpent, IsTheWholes, IsWhole, number_of}
use Rattle.pair_laws.specs.ServedBodiesScene.{IsScene, Scene, admitted, noted, sent_body, signature, turns_left}
use Rattle.pair_laws.proofs.ServedBodiesCalled.{calls_are_noted, calls_are_spent}
use Rattle.pair_laws.proofs.ServedBodiesServed.{served_calls_are_the_wholes}
use Rattle.pair_laws.proofs.ServedBodiesWork.{sent}
use Rattle.pair_invariant_law.specs.MonitorGatesLaws.{Told}
use Rattle.pair_laws.specs.AdmittedCallsLaws.{IsAllowed, IsDenied, call_said, holds_number}
use Rattle.pair_laws.proofs.AdmittedCallsJudged.{honest_calls_are_judged}
use Rattle.pair_laws.proofs.PairCallsGoing.{back, live_again, next_monitor, next_slave, ok}
use Rattle.pair_laws.proofs.PairCallsScenes.{after_call, at_call, budget_same, depth_is, honest, scene, setting_of}

-- ---- tests on turns

not_less : (a b : ℕ) → b ≤ a → nat_lt a b ≡ false
not_less a b h = grind (arith, nat_tests, h)

-- a message whose turns are fine, for which both have none left
spent_by : (m : Monitor) (x : Message) → rule.early_rule m.last x ≡ None → is_spent m x ≡ true → serve m x ≡ side.ends [] Spent
spent_by m x early spent =
    ap (acted m x (left_for m x))
    (ap (λ (o : Option PeerRule). unless_broken o (if is_spent m x then rule.ends Spent else rules (low m) x)) early ∙ ap (λ (b : Bool). if b then rule.ends Spent else rules (low m) x) spent)

early_fine : (last turns : ℕ) → last ≤ turns → broken_if (nat_lt turns last) bad_turns ≡ None
early_fine last turns h = ap (λ (b : Bool). broken_if b bad_turns) (not_less turns last h)

module _ (whole : ProgramTree) (policy : Standing) (hosts : Hosts) (Own : Slave → Type 0) (x : Slave) (m : Monitor) (written : List ℕ)
    (setting : IsSetting (setting_of whole policy hosts x m) Own) (live : IsLive (setting_of whole policy hosts x m) Own x m written)
    (f : ℕ) (args : List Cell) (depth : ℕ) (is : (machine_step x).answer ≡ asked f args depth) where
  abbrev w : Setting
  w = setting_of whole policy hosts x m

  abbrev s : Scene
  s = scene whole policy hosts Own x m written setting live f args depth is

  abbrev asker : Slave
  asker = stepped x (machine_step x)

  fine : IsScene s
  fine = ok whole policy hosts Own x m written setting live f args depth is

  -- ---- ends

  -- where the whole's run has come to an end with nothing refused
  ends_so : (k : ℕ) (answer : Answer) (end : End) (bytes : List ℕ) → (whole_after w k).answer ≡ answer → end_of answer ≡ Some end → (whole_after w k).gate.judgement.refused ≡ None → (whole_after w k).gate.judgement.bytes ≡ bytes →
      expected_of w ≡ record { bytes = bytes; end = end }
  ends_so k answer end bytes at its unrefused wrote =
      sym ((runs_are_judged (answers_of policy) whole hosts m.input m.budget).ends k end (ap end_of at ∙ its)).judgement_is
      ∙ (λ i. judged_end (record { bytes = wrote i; state = (whole_after w k).gate.judgement.state; calls = (whole_after w k).gate.judgement.calls; refused = unrefused i }) end)

  written_now : live.gate.judgement.bytes ≡ written
  written_now = ap (λ (j : Judgement Standing). j.bytes) live.judgement

  -- nothing more is written
  same_bytes : (end : End) → expected_of w ≡ record { bytes = written; end = end } → expected_of w ≡ record { bytes = written ++ []; end = end }
  same_bytes end e = e ∙ ap (λ (bytes : List ℕ). record { bytes = bytes; end = end }) (sym (append-nil written))

  -- there is no turn for the call
  spent_expected : m.budget ≤ s.machine.turns + m.turns → expected_of w ≡ record { bytes = written ++ []; end = Spent }
  spent_expected over =
      let at : IsSpent s = calls_are_spent s fine over in
      let call_is = at_call whole policy hosts Own x m written setting live f args depth is in
      same_bytes Spent (ends_so (live.steps + 1) p.spent Spent written
      (ap (λ (y : Step (Judging Standing)). y.answer) call_is ∙ at.answer) refl
      (ap (λ (y : Step (Judging Standing)). y.gate.judgement.refused) call_is ∙ ap (λ (h : Judging Standing). h.judgement.refused) at.gate ∙ ap (λ (j : Judgement Standing). j.refused) live.judgement)
      (ap (λ (y : Step (Judging Standing)). y.gate.judgement.bytes) call_is ∙ ap (λ (h : Judging Standing). h.judgement.bytes) at.gate ∙ written_now))

  abbrev Kept : Slave → Served Monitor ReplyBody End PeerRule → Type 0
  Kept slave served = IsKept w Own (answered the_sides slave written served)

  -- ---- the call is judged

  abbrev msg : Message
  msg = call_said s depth

  module _ (in_budget : (s.machine.turns + 1) + m.turns ≤ m.budget) where
    denied : (slave : Slave) → IsDenied s depth → Kept slave (serve m msg)
    denied slave denial =
        subst (λ (served : Served Monitor ReplyBody End PeerRule). Kept slave served) (sym (ap (acted m msg (left_for m msg)) denial.verdict))
        (same_bytes denial.refusal
        (refused_runs_are_expected (answers_of policy) whole hosts m.input m.budget (live.steps + 1) denial.refusal (ap (λ (j : Judgement Standing). j.refused) judged ∙ denial.refused)
        ∙ ap (λ (bytes : List ℕ). record { bytes = bytes; end = denial.refusal }) (ap (λ (j : Judgement Standing). j.bytes) judged ∙ denial.bytes ∙ written_now)))
      where
        noted_so : IsNoted s
        noted_so = calls_are_noted s denial.refusal fine in_budget denial.refused

        judged : (whole_after w (live.steps + 1)).gate.judgement ≡ (noted s).judgement
        judged = ap (λ (y : Step (Judging Standing)). y.gate.judgement) (at_call whole policy hosts Own x m written setting live f args depth is) ∙ noted_so.judgement

    -- ---- and made

    module _ (admitted_so : IsAllowed s depth) where
      abbrev call : Admitted
      call = admitted s depth (holds_number s) admitted_so.policy admitted_so.calls

      whole_work : IsTheWholes s (work_of m call (turns_left s))
      whole_work =
          served_calls_are_the_wholes s depth (holds_number s) admitted_so.policy admitted_so.calls fine in_budget (ap (λ (j : Judgement Standing). j.refused) admitted_so.judgement)
          (depth_is whole policy hosts Own x m written setting live f args depth is)

      served_is : serve m msg ≡ served_by m msg call (turns_left s) (work_of m call (turns_left s))
      served_is = ap (acted m msg (left_for m msg)) admitted_so.verdict

      -- the work ends the run
      run_ends : (slave : Slave) (answer : Answer) (end : End) (st : State) → end_of answer ≡ Some end → Ends s answer st → expected_of w ≡ record { bytes = written ++ bytes_of st.events; end = end }
      run_ends slave answer end st its done =
          let now = after_call whole policy hosts Own x m written setting live f args depth is done.steps in
          ends_so (live.steps + suc done.steps) answer end (written ++ bytes_of st.events) (ap (λ (y : Step (Judging Standing)). y.answer) now ∙ done.came) its
          (ap (λ (y : Step (Judging Standing)). y.gate.judgement.refused) now ∙ ap (λ (t : Told Standing). t.judging.judgement.refused) done.told ∙ ap (λ (j : Judgement Standing). j.refused) admitted_so.judgement)
          (ap (λ (y : Step (Judging Standing)). y.gate.judgement.bytes) now ∙ ap (λ (t : Told Standing). t.judging.judgement.bytes) done.told
          ∙ ap (λ (bytes : List ℕ). bytes ++ bytes_of st.events) (ap (λ (j : Judgement Standing). j.bytes) admitted_so.judgement ∙ written_now))

      -- or gives a result, with which the slave goes on
      by_outcome : (slave : Slave) → ((v : Option Cell) (st : State) → IsWhole s v st → Kept slave (served_by m msg call (turns_left s) (gives v st))) → (o : Outcome (Option Cell)) → IsTheWholes s o → Kept slave (served_by m msg call (turns_left s) o)
      by_outcome slave further (gives v st) work = further v st work
      by_outcome slave further (r.trapped trap span st) done = run_ends slave (p.trapped trap span) (Trapped trap span) st refl done
      by_outcome slave further (r.spent st) done = run_ends slave p.spent Spent st refl done

      kept_served : (slave : Slave) → ((v : Option Cell) (st : State) → IsWhole s v st → Kept slave (served_by m msg call (turns_left s) (gives v st))) → Kept slave (serve m msg)
      kept_served slave further = subst (λ (served : Served Monitor ReplyBody End PeerRule). Kept slave served) (sym served_is) (by_outcome slave further (work_of m call (turns_left s)) whole_work)

      -- ---- with the reply, or without

      module _ (v : Option Cell) (st : State) (work : IsWhole s v st) where
        abbrev on : Slave
        on = next_slave whole policy hosts Own x m written setting live f args depth is admitted_so.policy admitted_so.calls v st in_budget admitted_so.judgement work

        abbrev on_monitor : Monitor
        on_monitor = next_monitor whole policy hosts Own x m written setting live f args depth is admitted_so.policy admitted_so.calls v st in_budget admitted_so.judgement work

        abbrev waiting : Slave
        waiting = (awaits_reply asker f args depth).slave

        abbrev posting : Slave
        posting = (posts asker f args depth).slave

        abbrev reply : ReplyBody
        reply = reply_with m call (number_of v) st

        alive : Own on → IsLive w Own on on_monitor (written ++ bytes_of st.events)
        alive own = live_again whole policy hosts Own x m written setting live f args depth is admitted_so.policy admitted_so.calls v st in_budget admitted_so.judgement work own

        same_structs : m.program.structs ≡ x.program.structs
        same_structs = sym fine.halves.monitor_part.structs ∙ fine.halves.slave_part.structs

        as_many : length x.given ≡ length m.store
        as_many = ap length live.beside.given ∙ length-map m.store (λ entry. entry.0)

        reply_is : reply ≡ honest_calls.answered m.store x.program.structs (signature s) s.machine.blocks args st.memory (number_of v)
        reply_is = λ i. packed_results (length m.store) (same_structs i) (signature s) (sent_body s) (brought_is st.memory i) (number_of v)

        fits_call : is_reply_to waiting f args reply ≡ true
        fits_call =
            (λ i. is_reply (as_many i) s.machine.blocks x.program.structs (signature s) args (reply_is i))
            ∙ (calls_end x.program (monitor_program m.program) s.caller.depth m.store x.program.structs (signature s) s.machine.blocks m.globals args st.memory (global_part st.memory) (number_of v) (sent s fine) work.work).0

        taken_is : take reply waiting ≡ on
        taken_is =
            ap (λ (b : Bool). if b then with_reply waiting f args reply else record waiting { doing = is_over }) fits_call
            ∙ (λ i. with_taken waiting f args (after_reply (as_many i) s.machine.blocks x.program.structs (signature s) args (reply_is i)))

        kept_waiting : holds_number s ≡ true → Own waiting → Kept waiting (served_by m msg call (turns_left s) (gives v st))
        kept_waiting holds own =
            subst (λ (b : Bool). Kept waiting (goes_on on_monitor (if b then Some reply else None) (bytes_of st.events))) (sym holds)
            (inl (subst (λ (z : Slave). IsLive w Own z on_monitor (written ++ bytes_of st.events)) (sym taken_is) (alive (subst Own taken_is (setting.kept.takes waiting reply own)))))

        posted_is : holds_number s ≡ false → posting ≡ on
        posted_is holds =
            let none = or_parts (has_plain (result_places (signature s) (signature s).result)) (has_plain (call_places s.machine.blocks x.program.structs (signature s).params args)) holds in
            let same : after_posting (length x.given) s.machine.blocks x.program.structs (signature s) args ≡ back whole policy hosts Own x m written setting live f args depth is admitted_so.policy admitted_so.calls v st in_budget admitted_so.judgement work =
            ap (λ n. after_posting n s.machine.blocks x.program.structs (signature s) args) as_many
            ∙ sym (posting_takes (length m.store) x.program.structs (signature s) s.machine.blocks args st.memory (number_of v) (sent s fine).whole none.0 none.1 work.work.numbers work.work.result) in
            (λ i. record (with_taken asker f args (same i)) { calls = x.calls + 1 })

        kept_posting : holds_number s ≡ false → Own posting → Kept posting (served_by m msg call (turns_left s) (gives v st))
        kept_posting holds own =
            subst (λ (b : Bool). Kept posting (goes_on on_monitor (if b then Some reply else None) (bytes_of st.events))) (sym holds)
            (inl (subst (λ (z : Slave). IsLive w Own z on_monitor (written ++ bytes_of st.events)) (sym (posted_is holds)) (alive (subst Own (posted_is holds) own))))

    made_by : (slave : Slave) → ((admitted_so : IsAllowed s depth) (v : Option Cell) (st : State) → IsWhole s v st → Kept slave (served_by m msg (call admitted_so) (turns_left s) (gives v st))) → IsAllowed s depth ⊎ IsDenied s depth → Kept slave (serve m msg)
    made_by slave further (inl admitted_so) = kept_served admitted_so slave (further admitted_so)
    made_by slave further (inr denial) = denied slave denial

    judged_call : IsAllowed s depth ⊎ IsDenied s depth
    judged_call = honest_calls_are_judged s depth fine (honest whole policy hosts Own x m written setting live f args depth is) in_budget

  -- ---- the message

  room : (t m n : ℕ) → n < (t + 1) + m → n ≤ t + m
  room t m n h = omega (arith, h)

  -- both have no turn left for it, or it is judged
  by_turns : (slave : Slave) → (((s.machine.turns + 1) + m.turns ≤ m.budget) → Kept slave (serve m msg)) → (b : Bool) → is_spent m msg ≡ b → Kept slave (serve m msg)
  by_turns slave further true e =
      subst (λ (served : Served Monitor ReplyBody End PeerRule). Kept slave served) (sym (spent_by m msg (early_fine m.last s.machine.turns (honest whole policy hosts Own x m written setting live f args depth is).last) e))
      (spent_expected (room s.machine.turns m.turns m.budget (nat_lt_below m.budget ((s.machine.turns + 1) + m.turns) e)))
  by_turns slave further false e = further (nat_lt_false m.budget ((s.machine.turns + 1) + m.turns) e)

  kept_wait : holds_number s ≡ true → Own (awaits_reply asker f args depth).slave → Kept (awaits_reply asker f args depth).slave (serve m msg)
  kept_wait holds own =
      by_turns (awaits_reply asker f args depth).slave (λ in_budget. made_by in_budget (awaits_reply asker f args depth).slave (λ admitted_so v st work. kept_waiting in_budget admitted_so v st work holds own) (judged_call in_budget)) (is_spent m msg) refl

  kept_post : holds_number s ≡ false → Own (posts asker f args depth).slave → Kept (posts asker f args depth).slave (serve m msg)
  kept_post holds own =
      by_turns (posts asker f args depth).slave (λ in_budget. made_by in_budget (posts asker f args depth).slave (λ admitted_so v st work. kept_posting in_budget admitted_so v st work holds own) (judged_call in_budget)) (is_spent m msg) refl

  abbrev call_with : Bool → Message
  call_with wants = message.Call s.machine.turns f depth wants (sent_body s)

  abbrev hears : Moved Slave Message → Both Slave Monitor End PeerRule
  hears said = heard the_sides said.slave said.said m written

  by_want : (b : Bool) → must_wait asker f args ≡ b → Own (if b then awaits_reply asker f args depth else posts asker f args depth).slave → IsKept w Own (hears (if b then awaits_reply asker f args depth else posts asker f args depth))
  by_want true e own = subst (λ (b : Bool). Kept (awaits_reply asker f args depth).slave (serve m (call_with b))) e (kept_wait e own)
  by_want false e own = subst (λ (b : Bool). Kept (posts asker f args depth).slave (serve m (call_with b))) e (kept_post e own)

  -- ---- a slave that parks

  late_park : (l t c n b : ℕ) → l ≤ t → t + c ≤ n → b ≡ n → l ≤ b + 1
  late_park l t c n b h k e = omega (arith, h, k, e)

  over_park : (b n c : ℕ) → b ≡ n → n < (b + 1) + c
  over_park b n c e = omega (arith, e)

  no_turn : (b n t c k : ℕ) → b ≡ n → b ≤ t + c → c ≤ k → n ≤ t + k
  no_turn b n t c k e h i = omega (arith, e, h, i)

  abbrev park : Message
  park = message.Park (s.machine.budget + 1)

  parked : nat_le s.machine.budget (s.machine.turns + x.calls) ≡ true → IsKept w Own (hears (parks asker))
  parked e =
      let same = budget_same whole policy hosts Own x m written setting live f args depth is in
      subst (λ (served : Served Monitor ReplyBody End PeerRule). Kept (parks asker).slave served)
      (sym (spent_by m park (early_fine m.last (s.machine.budget + 1) (late_park m.last x.machine.turns m.turns m.budget s.machine.budget live.beside.last live.turns same))
      (nat_lt_true m.budget ((s.machine.budget + 1) + m.turns) (over_park s.machine.budget m.budget m.turns same))))
      (spent_expected (no_turn s.machine.budget m.budget s.machine.turns x.calls m.turns same (nat_le_at_most s.machine.budget (s.machine.turns + x.calls) e) live.beside.calls))

  by_budget : (b : Bool) → nat_le s.machine.budget (s.machine.turns + x.calls) ≡ b → Own (if b then parks asker else says_call asker f args depth).slave → IsKept w Own (hears (if b then parks asker else says_call asker f args depth))
  by_budget true e own = parked e
  by_budget false e own = by_want (must_wait asker f args) refl own

  -- ---- the step of both

  step_is : slave_step x ≡ calls_or_parks asker f args depth
  step_is = ap (λ (a : Answer). after_step asker a (machine_step x).gate.wrote) is

  pub call_kept : IsKept w Own (both_step the_sides (run x m written))
  call_kept =
      subst (λ (b : Both Slave Monitor End PeerRule). IsKept w Own b)
      (sym (ap (λ (d : Doing). both_in the_sides (mode_by d) x m written) live.beside.doing ∙ ap hears step_is))
      (by_budget (nat_le s.machine.budget (s.machine.turns + x.calls)) refl (subst (λ (said : Moved Slave Message). Own said.slave) step_is (setting.kept.steps x live.beside.own live.beside.doing)))

-- ---- any setting

pub calls_keep : (Own : Slave → Type 0) → CallsKeep Own
calls_keep Own w x m written f args depth setting live is =
    subst (λ (v : Setting). IsKept v Own (both_step the_sides (run x m written))) (sym same)
    (call_kept w.whole w.policy w.hosts Own x m written (subst (λ (v : Setting). IsSetting v Own) same setting) (subst (λ (v : Setting). IsLive v Own x m written) same live) f args depth is)
  where
    same : w ≡ setting_of w.whole w.policy w.hosts x m
    same = λ i. record {
      whole = w.whole;
      slave = sym live.beside.program i;
      monitor = sym live.theirs.program i;
      policy = w.policy;
      hosts = w.hosts;
      input = sym live.theirs.input i;
      budget = sym live.theirs.budget i;
    }
