-- The pair of an accepted program begins in the invariant, and so comes to what is expected of its normal form, whose run is its own.
use Rattle.std.proofs.Common.{◌≡◌, ◌<◌, ◌^◌, ℕ, List, ap, subst}
use Rattle.std.specs.Prelude.{All, IsTrue}
use Rattle.std.specs.List.{list_any}
use Rattle.pt_base.proofs.Lists.{bytes_if}
use Rattle.pt_tree.specs.ProgramTree.{ItemTree}
use Rattle.runs.specs.Run.{Expected, expected}
use Rattle.runs.specs.State.{Hosts}
use Rattle.host_table.specs.Hosts as table
use Rattle.host_table.specs.RunHosts.{models_of}
use Rattle.policy.specs.Answers.{answers_of}
use Rattle.policy.specs.Verdicts.{Standing}
use Rattle.typed_tree.specs.TypedTree.{TypedTree}
use Rattle.typed_tree.specs.WellFormed.{is_well_formed}
use Rattle.check_programs.specs.Programs.{checked_program}
use Rattle.type_law.specs.ProgramsLaws.{ProgramsAreWellFormed}
use Rattle.c_lower_law.specs.Statements.{LoweringKeepsTheRun}
use Rattle.flow_rules.specs.declared.accepted.Accepted.{Accepted}
use Rattle.half_names_law.specs.SaidLaws.{CheckedProgramsPlaceNulls}
use Rattle.half_names_law.specs.SaidNulls.{nulls_stand}
use Rattle.pt_core.specs.CodeTree.{BootTree}
use Rattle.pair_meaning.specs.Monitors.{Monitor}
use Rattle.pair_meaning.specs.Start.{reads_input}
use Rattle.pair_invariant_law.specs.Laws.{CallsKeep}
use Rattle.pair_invariant_law.specs.Live.{Setting, expected_of as setting_expected}
use Rattle.pair_invariant_law.specs.Slaves.{Stays}
use Rattle.pair_laws.specs.PairStepsEnds.{Begins, HonestPeersAreExpected, ThePairEnds, ThePairIsExpected}
use Rattle.pair_laws.specs.KeptSlavesLaws.{AcceptedSlavesStay}
use Rattle.pair_laws.specs.PairStartLaws.{AcceptedPairsBegin, BootsAreWellFormed, IsAcceptedWith}
use Rattle.pair_laws.specs.PairStartLaws.{monitor_half}
use Rattle.pair_laws.specs.PairStartOwn.{HostsAre, with_hosts}
use Rattle.pair_laws.specs.PairStartStart.{boot_at, monitor_at, setting_of, slave_at}
use Rattle.pair_laws.specs.AcceptedPairsLaws.{AcceptedPairsAreExpected, DoesWhatIsExpected, MayRun, expected_of}

-- ---- any pair that begins

does : CallsKeep Stays → ThePairEnds Stays → ThePairIsExpected Stays → HonestPeersAreExpected Stays → (w : Setting) (b : BootTree) (m : Monitor) → Begins Stays w b m → DoesWhatIsExpected (setting_expected w) b m
does calls ends expects honest w b m begins =
    let pair = expects calls w b m begins in
    record { ends = ends calls w b m begins; runs = pair.runs; comes = pair.comes; links = pair.links; honest = honest calls w b m begins }

-- ---- the pair of a program

-- what is expected of the setting's whole is what is expected of the program
pub same_expected : LoweringKeepsTheRun → (t : TypedTree) (a : Accepted) (policy : Standing) (hosts : table.Hosts) (input : List ℕ) (turns : ℕ) → IsTrue (is_well_formed t) →
    setting_expected (setting_of t a policy hosts input turns) ≡ expected_of t policy hosts input turns
same_expected lowers t a policy hosts input turns well = ap (expected (answers_of policy)) (lowers t (models_of hosts.models) input turns well)

stays : BootsAreWellFormed → AcceptedSlavesStay → (t : TypedTree) (a : Accepted) (hosts : table.Hosts) (input : List ℕ) (turns : ℕ) → IsAcceptedWith t a hosts → All (λ b. b < 256) input → turns < 2 ^ 32 →
    Stays (slave_at t a hosts input turns)
stays boots slaves t a hosts input turns ready bytes small =
    let b = boot_at t a hosts input turns in
    let reads = list_any (λ h. reads_input h.1) b.hosts in
    slaves t a b.hosts b.input b.turns ready.well_formed ready.accepted (boots t a hosts input turns ready) (bytes_if reads input bytes) small

-- it begins in the invariant
pub pairs_begin : ProgramsAreWellFormed → CheckedProgramsPlaceNulls → BootsAreWellFormed → AcceptedSlavesStay → AcceptedPairsBegin → (items : List ItemTree) (a : Accepted) (policy : Standing) (hosts : table.Hosts) (input : List ℕ) (turns : ℕ) (own : Hosts) →
    MayRun items a hosts input turns → HostsAre (monitor_half (checked_program items).tree a) own (models_of hosts.models) →
    Begins Stays (setting_of (checked_program items).tree a policy hosts input turns) (boot_at (checked_program items).tree a hosts input turns) (with_hosts own (monitor_at (checked_program items).tree a policy hosts input turns))
pairs_begin programs nulls boots slaves begin items a policy hosts input turns own may are =
    let t = (checked_program items).tree in
    let ready : IsAcceptedWith t a hosts = record { well_formed = programs items may.few may.sound may.checked; accepted = may.accepted; has_hosts = may.table } in
    begin t a policy hosts input turns own ready are (nulls items) may.bytes may.small (stays boots slaves t a hosts input turns ready may.bytes may.small)

pub pairs_are_expected : ProgramsAreWellFormed → CheckedProgramsPlaceNulls → BootsAreWellFormed → AcceptedSlavesStay → AcceptedPairsBegin → CallsKeep Stays → ThePairEnds Stays → ThePairIsExpected Stays → HonestPeersAreExpected Stays →
    LoweringKeepsTheRun → AcceptedPairsAreExpected
pairs_are_expected programs nulls boots slaves begin calls ends expects honest lowers items a policy hosts input turns own may are =
    let t = (checked_program items).tree in
    let b = boot_at t a hosts input turns in
    let m = with_hosts own (monitor_at t a policy hosts input turns) in
    subst (λ e. DoesWhatIsExpected e b m) (same_expected lowers t a policy hosts input turns (programs items may.few may.sound may.checked))
    (does calls ends expects honest (setting_of t a policy hosts input turns) b m (pairs_begin programs nulls boots slaves begin items a policy hosts input turns own may are))
