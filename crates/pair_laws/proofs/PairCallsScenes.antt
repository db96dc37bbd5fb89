-- Where the slave of a live pair asks for a call, what its scene is.
use Rattle.std.proofs.Common.{◌≡◌, ◌∙◌, ◌⊎◌, inl, inr, ℕ, suc, ◌+◌, ◌≤◌, nat_eq, ap, sym, refl, subst, arith, List, ◌∷◌, length, Bool, true, false, Option, Some, if◌then◌else◌}
use Rattle.std.specs.Prelude.{IsTrue, ◌&&◌, ◌||◌, is_some, nat_le, unwrap_or}
use Rattle.std.specs.List.{list_all, list_any}
use Rattle.std.proofs.lemmas.Bool.Decides.{nat_tests}
use Rattle.std.proofs.lemmas.Bool.{and_from}
use Rattle.pt_base.proofs.Booleans.{and_parts, both_hold_first, both_hold_second}
use Rattle.pt_tree.specs.HostStep.{host_step}
use Rattle.pt_tree.specs.declared.signature.Param.{Param}
use Rattle.pt_tree.specs.declared.signature.Signature.{Signature}
use Rattle.runs.specs.Run.{deepest}
use Rattle.runs.specs.State.{Hosts}
use Rattle.host_models.specs.Fitting as model
use Rattle.host_models.specs.Mixed.{is_mixed}
use Rattle.policy.specs.Answers.{answers_of}
use Rattle.policy.specs.Verdicts.{Standing}
use Rattle.block_memory.specs.declared.cell.Cell.{Cell}
use Rattle.wire.specs.Limits.{most_in_a_block}
use Rattle.pt_core.specs.CodeTree.{ProgramTree}
use Rattle.pt_core.specs.Calls.{no_signature, signature_in}
use Rattle.pt_core.specs.Steps.{Active, Answer, Gate, Step, away, enters, here, asked, step}
use Rattle.pt_core.specs.WellFormed.{is_sound, monitor_program, param_fits, signature_at, signature_fits}
use Rattle.core_steps_law.specs.WholeRun.{begun_machine, further, steps_run}
use Rattle.core_steps_law.proofs.Sums.{steps_add}
use Rattle.core_steps_law.proofs.TurnBounds.{steps_take_a_turn}
use Rattle.core_steps_law.specs.MachinesJudged.{Judging, begun_judging, judging_gate}
use Rattle.core_soundness_law.specs.Kept.{by_store}
use Rattle.core_soundness_law.specs.Fits.{AllFit}
use Rattle.core_soundness_law.specs.Outside.{ArgumentsFit}
use Rattle.core_soundness_law.specs.StepLaws.{AnswerFits, StepFits, called_params}
use Rattle.core_soundness_law.proofs.Programs.{facts_of}
use Rattle.core_soundness_law.proofs.Shapes.{received_stay}
use Rattle.core_soundness_law.specs.Called.{GoOnWith, GoesBy, HasAsked, KeepsAccount}
use Rattle.core_soundness_law.proofs.CalledAccounts.{steps_keep_account}
use Rattle.core_soundness_law.proofs.CalledKeeping.{steps_keep_called}
use Rattle.part_views_law.specs.Machines.{nobody, seen_machine}
use Rattle.part_views_law.specs.Views.{View, slave_view}
use Rattle.part_views_law.proofs.Instances.{slaves_are_viewed}
use Rattle.marshalling_law.specs.CallsPackable.{AreSmall}
use Rattle.marshalling_law.specs.CallsSending.{AreParameters}
use Rattle.marshalling_law.proofs.CallsPackable.{all_are_given, block_small, found_signature}
use Rattle.part_views_law.specs.StepsOutward.{AskSeen, Outward}
use Rattle.part_views_law.specs.StepsParts.{AllAbove, HasSignature, IsViewed, Stands}
use Rattle.part_views_law.proofs.StepsInstances.{slaves_stand}
use Rattle.part_views_law.proofs.StepsOutward.{parts_lead}
use Rattle.pair_meaning.specs.Monitors.{Monitor}
use Rattle.pair_meaning.specs.SlaveRun.{Heard, Slave, goes_with_handles, heard_by, is_handle, machine_step, slave_gate, stepped, way_by}
use Rattle.slave_soundness_law.specs.Laws.{IsReady}
use Rattle.slave_soundness_law.specs.Sound.{IsBare, IsDoing, IsFree, IsSound}
use Rattle.slave_soundness_law.proofs.Hosts.{fits_calls}
use Rattle.slave_soundness_law.proofs.Stepping.{calls_are_ready}
use Rattle.pair_invariant_law.specs.MonitorGatesLaws.{HaveModels, is_host_of}
use Rattle.pair_invariant_law.specs.Halves.{is_asked_for, is_own_host}
use Rattle.pair_invariant_law.specs.Hosts.{AllHostsFit}
use Rattle.pair_invariant_law.specs.Live.{IsLive, IsSetting, Setting, whole_after}
use Rattle.pair_invariant_law.proofs.SlaveGatesHosts.{hosts_go_on_fitting}
use Rattle.pair_laws.specs.ServedBodiesScene.{IsScene, Scene, called, called_and}
use Rattle.pair_laws.proofs.ServedBodiesRuns.{no_further}
use Rattle.pair_laws.specs.AdmittedCallsLaws.{IsHonest}
use Rattle.pair_laws.proofs.PairCallsAsked.{Asks, IsAsked, bare_asks_none, steps_ask}

-- ---- what goes away is asked for

away_by : (p h w mixed any : Bool) → w ≡ (mixed && any) → (if p then away else (if h then (if w then away else here) else enters)) ≡ away → (p || (h && mixed)) ≡ true
away_by true h w mixed any e is = refl
away_by false true true mixed any e is = (and_parts mixed any (sym e)).0
away_by false true false mixed any e is = cc
away_by false false w mixed any e is = cc

away_asks : (s : Signature) (args : List Cell) → way_by s args ≡ away → is_asked_for s ≡ true
away_asks s args is = away_by s.privileged s.host (goes_with_handles s args) (is_mixed s) (list_any is_handle args) refl is

-- a function that is asked for is privileged
function_guarded : (s : Signature) → is_asked_for s ≡ true → s.host ≡ false → s.privileged ≡ true
function_guarded s is plain = go s.privileged s.host is plain
  where
    go : (p h : Bool) → (p || (h && is_mixed s)) ≡ true → h ≡ false → p ≡ true
    go true h e f = refl
    go false true e f = cc
    go false false e f = cc

-- ---- signatures

parameters : (p : ProgramTree) (f : ℕ) (s : Signature) → IsTrue (is_sound false p) → signature_at p f ≡ Some s → AreParameters p.structs (signature_in p f).params
parameters p f s sound is =
    subst (λ (sig : Signature). AreParameters p.structs sig.params) (sym (ap (λ (o : Option Signature). unwrap_or o no_signature) is))
    (both_hold_second (nat_le (length s.params) 8) (list_all (param_fits (length p.structs)) s.params)
    (both_hold_first (nat_le (length s.params) 8 && list_all (param_fits (length p.structs)) s.params) _ (found_signature (signature_fits p.structs) f p.signatures s is (facts_of false p sound).signatures)))

-- ---- depths

same_head : (a b : Active) (as' bs : List Active) → a ∷ as' ≡ b ∷ bs → a ≡ b
same_head a b as' bs e = cc

low_depth : (d depth : ℕ) → 1 ≤ d → depth ≡ d + 1 → depth ≤ deepest → (nat_le 2 depth && nat_le depth deepest) ≡ true
low_depth d depth h e k = and_from (nat_le 2 depth) (nat_le depth deepest) (grind (arith, nat_tests, h, e)) (grind (arith, nat_tests, k))

first_depth : (depth : ℕ) → depth ≡ 0 → nat_eq depth 0 ≡ true
first_depth depth e = grind (arith, nat_tests, e)

-- the hosts that both may call
abbrev pub shared_hosts : ProgramTree → ProgramTree → ℕ → Bool
shared_hosts slave monitor f = (is_some (signature_at slave f) && is_own_host (signature_in slave f)) && is_host_of monitor f

-- the setting, whose halves are these
abbrev pub setting_of : ProgramTree → Standing → Hosts → Slave → Monitor → Setting
setting_of whole policy hosts x m = record { whole = whole; slave = x.program; monitor = m.program; policy = policy; hosts = hosts; input = m.input; budget = m.budget }

module _ (whole : ProgramTree) (policy : Standing) (hosts : Hosts) (Own : Slave → Type 0) (x : Slave) (m : Monitor) (written : List ℕ)
    (setting : IsSetting (setting_of whole policy hosts x m) Own) (live : IsLive (setting_of whole policy hosts x m) Own x m written)
    (f : ℕ) (args : List Cell) (depth : ℕ) (is : (machine_step x).answer ≡ asked f args depth) where
  abbrev pub y : Step Heard
  y = machine_step x

  abbrev now_view : View
  now_view = slave_view x.program m.store m.globals

  abbrev whole_gate : Gate (Judging Standing)
  whole_gate = judging_gate (answers_of policy) whole

  -- ---- the slave's step

  pub sound : IsSound x
  sound = setting.kept.sound x live.beside.own

  free : IsFree x
  free = go (subst (λ d. IsDoing x d) live.beside.doing sound.doing)
    where
      go : IsFree x ⊎ IsBare x.machine → IsFree x
      go (inl running) = running
      go (inr bare) = absurd (bare_asks_none x.program (slave_gate x.program) x.machine (heard_by x) bare.started f args depth bare.active bare.work is)

  viewed : IsViewed now_view 0 false x.program whole
  viewed = record { sound = setting.halves.slave_sound; parts = setting.halves.slave_part; view = slaves_are_viewed x.program 0 m.store m.globals; ranged = live.theirs.ranged }

  pub asks : AskSeen whole whole_gate now_view nobody m.turns m.budget live.gate (step whole whole_gate (seen_machine now_view nobody m.turns m.budget x.machine) live.gate) y.machine f args
  asks =
      subst (λ (a : Answer). Outward whole whole_gate now_view nobody m.turns m.budget live.gate (step whole whole_gate (seen_machine now_view nobody m.turns m.budget x.machine) live.gate) x.machine y.machine a) is
      (parts_lead (setting.kept.plain x live.beside.own).0 whole x.program whole_gate (slave_gate x.program) now_view 0 false nobody m.turns m.budget x.machine live.gate (heard_by x) viewed live.beside.stands (setting.kept.plain x live.beside.own).1)

  fits : StepFits (by_store m.store) false x.program x.machine.active y
  fits =
      steps_keep_called (by_store m.store) false x.program (slave_gate x.program) x.machine (heard_by x) sound.program (fits_calls x sound.program free.running.hosts sound.input) free.running.own
      live.beside.stands.fits live.beside.free

  account : KeepsAccount x.machine.active x.machine y
  account = steps_keep_account x.program (slave_gate x.program) x.machine (heard_by x)

  has : HasAsked x.machine.active y.machine f
  has = subst (λ a. GoesBy x.machine.active x.machine a y.machine) is account.goes

  abbrev before : Active
  before = live.beside.active.0

  abbrev others : List Active
  others = live.beside.active.1

  goes_on : GoOnWith (before ∷ others) y.machine.active
  goes_on = subst (λ active. GoOnWith active y.machine.active) live.beside.active.2 has.goes_on

  pub asked_by : IsAsked x.program (slave_gate x.program) (heard_by x) before.depth f args depth y.gate
  asked_by = subst (λ (a : Answer). Asks x.program (slave_gate x.program) (heard_by x) before.depth a y.gate) is (steps_ask x.program (slave_gate x.program) x.machine (heard_by x) before others live.beside.active.2)

  same_caller : asks.caller ≡ record before { work = goes_on.0 }
  same_caller = same_head asks.caller (record before { work = goes_on.0 }) asks.rest others (sym asks.active ∙ goes_on.1)

  same_depth : asks.caller.depth ≡ before.depth
  same_depth = ap (λ (a : Active). a.depth) same_caller

  above : AllAbove 0 false y.machine.active
  above = subst (λ active. AllAbove 0 false active) (sym goes_on.1) (same_above (subst (λ active. AllAbove 0 false active) live.beside.active.2 live.beside.stands.above))
    where
      same_above : AllAbove 0 false (before ∷ others) → AllAbove 0 false (record before { work = goes_on.0 } ∷ others)
      same_above h = h

  pub budget_same : y.machine.budget ≡ m.budget
  budget_same = account.budget ∙ live.beside.budget

  stands : Stands now_view 0 false m.turns m.budget x.program y.machine
  stands =
      (slaves_stand whole x.program m.store m.globals m.turns m.budget y.machine setting.halves.slave_part setting.halves.slave_sound live.theirs.ranged fits.machine above
      (enough y.machine.budget m.budget m.turns budget_same)).1
    where
      enough : (a b c : ℕ) → a ≡ b → b ≤ a + c
      enough a b c e = omega (arith, e)

  -- ---- what is asked

  ready : IsReady (stepped x (machine_step x)) f args depth
  ready = calls_are_ready x f args depth sound live.beside.doing is

  signed : HasSignature x.program f
  signed = ap is_some ready.signed.1

  for_it : is_asked_for (signature_in x.program f) ≡ true
  for_it = away_asks (signature_in x.program f) args asked_by.way

  whole_signed : signature_in whole f ≡ signature_in x.program f
  whole_signed = setting.halves.slave_signatures f signed

  its : HasSignature (monitor_program m.program) f
  its = setting.halves.signed f signed for_it

  given : ArgumentsFit (by_store m.store) x.program.structs y.machine.blocks asks.caller.depth (signature_in x.program f).params args
  given =
      subst (λ n. ArgumentsFit (by_store m.store) x.program.structs y.machine.blocks n (signature_in x.program f).params args) (sym same_depth)
      (subst (λ (ps : List Param). ArgumentsFit (by_store m.store) x.program.structs y.machine.blocks before.depth ps args) (all_are_given x.program f) answered)
    where
      answered : ArgumentsFit (by_store m.store) x.program.structs y.machine.blocks before.depth (called_params false x.program f) args
      answered =
          subst (λ (a : Answer). AnswerFits (by_store m.store) false x.program (before ∷ others) y.machine.blocks a) is
          (subst (λ active. AnswerFits (by_store m.store) false x.program active y.machine.blocks y.answer) live.beside.active.2 fits.answer)

  small : AreSmall y.machine.blocks
  small n = subst (λ ts. length ts ≤ most_in_a_block) (sym (received_stay x.program (slave_gate x.program) x.machine (heard_by x) n).types) (free.running.small n)

  models : HaveModels (monitor_program m.program) m.hosts
  models g known =
      let parts = and_parts (is_some (signature_at (monitor_program m.program) g)) (signature_in (monitor_program m.program) g).host known in
      subst (λ now. IsTrue (model.fits now (signature_in (monitor_program m.program) g))) (sym (live.hosts.monitor_has g parts.0 parts.1)) (fitting g parts.0 parts.1)
    where
      fitting : AllHostsFit (monitor_program m.program) live.gate.hosts
      fitting =
          subst (λ (s : Step (Judging Standing)). AllHostsFit (monitor_program m.program) s.gate.hosts) live.came
          (hosts_go_on_fitting (setting_of whole policy hosts x m) (monitor_program m.program) live.steps setting.bytes setting.monitor_hosts).0

  abbrev pub scene : Scene
  scene = record {
    policy = policy;
    whole = whole;
    budget = m.budget;
    slave = x.program;
    machine = y.machine;
    caller = asks.caller;
    rest = asks.rest;
    function = f;
    args = args;
    result = asks.result;
    span = asks.span;
    monitor = m;
    gate = live.gate;
    fixed = shared_hosts x.program (monitor_program m.program);
  }

  pub scene_ok : IsScene scene
  scene_ok = record {
    halves = record {
      slave_sound = setting.halves.slave_sound;
      monitor_sound = setting.halves.monitor_sound;
      slave_part = setting.halves.slave_part;
      monitor_part = setting.halves.monitor_part;
      apart = setting.halves.apart;
      memory = live.theirs.memory;
    };
    stands = stands;
    asks = record {
      active = asks.active;
      params = parameters x.program f ready.signed.0 setting.halves.slave_sound ready.signed.1;
      given = given;
      marked = setting.kept.marked x f args depth live.beside.own live.beside.doing is;
      small = block_small (by_store m.store) false x.program (facts_of false x.program setting.halves.slave_sound) y.machine.active y.machine.blocks fits.machine.memory small;
    };
    packable = ready.packable;
    awaits = asks.awaits;
    shallow = λ plain_one. subst (λ n. n + 1 ≤ deepest) (sym same_depth) (asked_by.deeper plain_one).1;
    ranged = live.theirs.ranged;
    globals_alone = live.theirs.received;
    signed = setting.halves.monitor_signatures;
    known = its;
    same = sym (setting.halves.monitor_signatures f its) ∙ whole_signed;
    functions = setting.halves.monitor_own;
    own = λ plain_one. setting.halves.params f signed for_it plain_one;
    guarded = λ plain_one. function_guarded (signature_in x.program f) for_it plain_one;
    said = setting.said;
    models = models;
    bytes = setting.bytes;
    hosts = λ g known. let parts = and_parts (is_some (signature_at (monitor_program m.program) g)) (signature_in (monitor_program m.program) g).host known in live.hosts.monitor_has g parts.0 parts.1;
    input = sym live.input;
    fixed_alone = λ g both. (and_parts (is_some (signature_at x.program g) && is_own_host (signature_in x.program g)) (is_host_of (monitor_program m.program) g) both).1;
    lasting = λ g both known numbers.
        let parts = and_parts (is_some (signature_at x.program g) && is_own_host (signature_in x.program g)) (is_host_of (monitor_program m.program) g) both in
        let own_parts = and_parts (is_some (signature_at x.program g)) (is_own_host (signature_in x.program g)) parts.0 in
        let its_parts = and_parts (is_some (signature_at (monitor_program m.program) g)) (signature_in (monitor_program m.program) g).host known in
        subst (λ (input : List ℕ). (host_step input (live.gate.hosts g) numbers).next ≡ live.gate.hosts g) (sym live.input) (live.hosts.stays g own_parts.0 own_parts.1 its_parts.0 numbers);
  }

  -- ---- what is honest of it

  pub turns_on : x.machine.turns ≤ y.machine.turns
  turns_on = (steps_take_a_turn Heard x.program (slave_gate x.program) x.machine (heard_by x)).none_back

  deep : 1 ≤ before.depth
  deep = (subst (λ active. AllFit false x.program active) live.beside.active.2 live.beside.stands.fits.active).0.deep

  depth_fine : (b : Bool) → (signature_in x.program f).host ≡ b → (if b then nat_eq depth 0 else nat_le 2 depth && nat_le depth deepest) ≡ true
  depth_fine true host = first_depth depth (asked_by.host host)
  depth_fine false plain_one =
      let called_at = asked_by.deeper plain_one in
      low_depth before.depth depth deep called_at.0 (subst (λ n. n ≤ deepest) (sym called_at.0) called_at.1)

  pub honest : IsHonest scene depth
  honest = record {
    last = later m.last x.machine.turns y.machine.turns live.beside.last turns_on;
    budget = refl;
    entry = setting.halves.entries f signed for_it;
    depth_is = depth_fine (signature_in x.program f).host refl;
    state = ap (λ j. j.state) live.judgement;
    calls = ap (λ j. j.calls) live.judgement;
    unrefused = ap (λ j. j.refused) live.judgement;
  }
    where
      later : (a b c : ℕ) → a ≤ b → b ≤ c → a ≤ c
      later a b c h k = omega (arith, h, k)

  pub depth_is : (signature_in x.program f).host ≡ false → depth ≡ asks.caller.depth + 1
  depth_is plain_one = (asked_by.deeper plain_one).0 ∙ ap (λ n. n + 1) (sym same_depth)

  -- ---- the whole's step

  -- behind the whole's steps so far, the call and so many steps more
  pub after_call : (k : ℕ) → whole_after (setting_of whole policy hosts x m) (live.steps + suc k) ≡ called_and scene k
  after_call k =
      steps_add (Judging Standing) whole whole_gate live.steps (suc k) (begun_machine whole m.budget) (begun_judging (answers_of policy) hosts m.input)
      ∙ ap (λ (s : Step (Judging Standing)). further s (steps_run whole whole_gate (suc k))) live.came
      ∙ ap (λ (s : Step (Judging Standing)). further s (steps_run whole whole_gate k)) asks.makes

  pub at_call : whole_after (setting_of whole policy hosts x m) (live.steps + 1) ≡ called scene
  at_call = after_call 0 ∙ no_further whole whole_gate (called scene)
