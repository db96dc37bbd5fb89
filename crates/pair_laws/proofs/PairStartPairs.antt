-- The pair of an accepted program begins live.
use Rattle.std.proofs.Common.{◌<◌, ◌≤◌, ◌+◌, ℕ, refl, ap, arith, true, false, not, None, List, []}
use Rattle.std.specs.Prelude.{All, IsTrue}
use Rattle.pt_base.proofs.Numbers.{zero_at_most}
use Rattle.runs.specs.State.{Hosts}
use Rattle.host_table.specs.Hosts as table
use Rattle.host_table.specs.RunHosts.{models_of}
use Rattle.typed_tree.specs.TypedTree.{TypedTree}
use Rattle.flow_rules.specs.declared.accepted.Accepted.{Accepted}
use Rattle.policy.specs.Answers.{answers_of}
use Rattle.policy.specs.Verdicts.{Standing}
use Rattle.lowering.specs.Functions.{core_program}
use Rattle.lowered_code_law.specs.NamesLaws.{LoweredNames}
use Rattle.core_soundness_law.specs.Kept.{none}
use Rattle.core_soundness_law.proofs.Resting.{rest_fits, received_stay}
use Rattle.block_memory.specs.Blocks.{no_blocks}
use Rattle.pt_core.specs.CoreRun.{main_in}
use Rattle.pt_core.specs.Steps.{Machine, answers, just_entered, moved}
use Rattle.core_steps_law.specs.WholeRun.{begun_machine}
use Rattle.core_steps_law.specs.MachinesJudged.{begun_judging}
use Rattle.split_law.specs.Laws.{AcceptedShareNothing, MonitorsAreWellFormed, SlavesAreWellFormed}
use Rattle.half_names_law.specs.SaidNulls.{nulls_stand}
use Rattle.half_texts_law.specs.DeclarationsSaid.{MonitorsAreSaid}
use Rattle.part_views_law.proofs.StepsInstances.{slaves_stand}
use Rattle.pair_meaning.specs.SlaveRun.{Slave}
use Rattle.pair_invariant_law.specs.Live.{IsBeside, IsLive, IsSetting, IsTheirs}
use Rattle.pair_invariant_law.specs.Slaves.{AreKept}
use Rattle.pair_invariant_law.specs.AcceptedLaws.{monitor_half}
use Rattle.pair_invariant_law.proofs.AcceptedHalves.{IsKnown, are_halves, halves, kept_monitor, kept_slave, known_of, owned, signed_monitor, signed_slave, the_monitor, the_slave}
use Rattle.pair_laws.specs.PairStartLaws.{IsAcceptedWith}
use Rattle.pair_laws.specs.PairStartOwn.{HostsAre, with_hosts}
use Rattle.pair_laws.specs.PairStartStart.{monitor_at, setting_of, slave_at}
use Rattle.pair_laws.proofs.PairStartBegun.{begun_fits, begun_seen, beside_of}
use Rattle.pair_laws.proofs.PairStartHosts.{HaveModels, agree_at_start, models_fit, own_fit, part_fits}

as_many : (n : ℕ) → n ≤ n + 0
as_many n = omega arith

theirs : (t : TypedTree) (a : Accepted) → IsKnown t a → (policy : Standing) (hosts : table.Hosts) (input : List ℕ) (budget : ℕ) (own : Hosts) → HaveModels t (models_of hosts.models) → HostsAre (monitor_half t a) own (models_of hosts.models) →
    IsTheirs (setting_of t a policy hosts input budget) (with_hosts own (monitor_at t a policy hosts input budget))
theirs t a known policy hosts input budget own have are = record {
  program = refl;
  memory = (rest_fits none true (the_monitor t a) budget known.monitor_sound).memory;
  ranged = λ k d lt. absurd (omega (arith, lt));
  input = refl;
  budget = refl;
  hosts_fit = own_fit t a known (models_of hosts.models) own have are;
  received = received_stay t.structs (the_monitor t a).globals no_blocks;
}

beside : (Own : Slave → Type 0) (t : TypedTree) (a : Accepted) → IsKnown t a → (policy : Standing) (hosts : table.Hosts) (input : List ℕ) (budget : ℕ) (own : Hosts) → Own (slave_at t a hosts input budget) →
    IsBeside (setting_of t a policy hosts input budget) Own (slave_at t a hosts input budget) (with_hosts own (monitor_at t a policy hosts input budget))
beside Own t a known policy hosts input budget own first = record {
  own = first;
  program = refl;
  doing = refl;
  active = (just_entered (the_slave t a) false (main_in (the_slave t a)) 1 None, [], refl);
  free = refl;
  stands = (slaves_stand (core_program t) (the_slave t a) [] (beside_of t a) 0 budget (begun_machine (the_slave t a) budget) (are_halves t a known).slave_part known.slave_sound (λ k d lt. absurd (omega (arith, lt)))
      (begun_fits t a known budget) (omega arith, refl, tt) (as_many budget)).1;
  given = refl;
  budget = refl;
  calls = zero_at_most 0;
  last = zero_at_most 0;
}

live : (Own : Slave → Type 0) (t : TypedTree) (a : Accepted) → IsKnown t a → (policy : Standing) (hosts : table.Hosts) (input : List ℕ) (budget : ℕ) (own : Hosts) → HaveModels t (models_of hosts.models) → HostsAre (monitor_half t a) own (models_of hosts.models) →
    Own (slave_at t a hosts input budget) → IsLive (setting_of t a policy hosts input budget) Own (slave_at t a hosts input budget) (with_hosts own (monitor_at t a policy hosts input budget)) []
live Own t a known policy hosts input budget own have are first = record {
  theirs = theirs t a known policy hosts input budget own have are;
  beside = beside Own t a known policy hosts input budget own first;
  steps = 0;
  gate = begun_judging (answers_of policy) (models_of hosts.models) input;
  came = ap (λ (m : Machine). answers moved m (begun_judging (answers_of policy) (models_of hosts.models) input)) (begun_seen t a known budget);
  judgement = refl;
  input = refl;
  hosts = agree_at_start t a known hosts input budget own have are;
  turns = zero_at_most budget;
}

-- ---- all that is asked

-- Among any slaves that are kept, if the first is one of them.
pub pairs_begin : AcceptedShareNothing → SlavesAreWellFormed → MonitorsAreWellFormed → LoweredNames → MonitorsAreSaid → (Own : Slave → Type 0) (t : TypedTree) (a : Accepted) (policy : Standing) (hosts : table.Hosts) (input : List ℕ) (budget : ℕ) (own : Hosts) →
    IsAcceptedWith t a hosts → HostsAre (monitor_half t a) own (models_of hosts.models) → IsTrue (nulls_stand t) → All (λ b. b < 256) input → budget < 4_294_967_296 → AreKept Own → Own (slave_at t a hosts input budget) →
    IsSetting (setting_of t a policy hosts input budget) Own × IsLive (setting_of t a policy hosts input budget) Own (slave_at t a hosts input budget) (with_hosts own (monitor_at t a policy hosts input budget)) []
pairs_begin shares slaves monitors names said Own t a policy hosts input budget own ready are nulls bytes small kept first =
    let known = known_of shares slaves monitors names t a ready.well_formed ready.accepted in
    let have = models_fit t hosts ready.has_hosts in
    let apart = shares t a ready.accepted in (
      record {
        halves = are_halves t a known;
        kept = kept;
        small = small;
        bytes = bytes;
        slave_hosts = part_fits t (signed_slave t a) (kept_slave a) (owned a) (models_of hosts.models) have;
        monitor_hosts = part_fits t (signed_monitor t a) (kept_monitor a) (λ n. not (owned a n)) (models_of hosts.models) have;
        said = said t (halves a) ready.well_formed nulls apart.0 apart.1;
      },
      live Own t a known policy hosts input budget own have are first,
    )
