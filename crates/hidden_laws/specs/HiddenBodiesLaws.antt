-- What a peer sees of whole runs of two programs that differ in what is privileged.
use Rattle.std.specs.Prelude.{◌≡◌, ℕ}
use Rattle.runs.specs.State.{Hosts}
use Rattle.pt_core.specs.CodeTree.{BootTree}
use Rattle.pair_meaning.specs.Monitors.{Monitor}
use Rattle.pair_texts.specs.Start.{Texts}
use Rattle.low_views_law.specs.ToldBootsSameForSlave.{AreSameForSlave, IsSameForSlave}
use Rattle.hidden_laws.specs.HiddenRunsLaws.{BothBegin, RunsGoAlike, with_hosts}

-- Two programs that are the same for the slave, with tables and inputs that are so, and policies with the same rules, go alike. So the
-- bodies of privileged functions, what these alone call, the monitor's globals and the privileged hosts may be different.
abbrev pub PrivilegedBodiesAreHidden : Type 0
PrivilegedBodiesAreHidden = (t t' : Texts) (turns : ℕ) (b b' : BootTree) (m m' : Monitor) (own own' : Hosts) (begin : BothBegin t t' turns b b' m m' own own') →
    IsSameForSlave begin.one.started.tree begin.other.started.tree →
    AreSameForSlave begin.one.started.tree begin.one.started.hosts begin.other.started.hosts t.input t'.input →
    begin.one.started.rules ≡ begin.other.started.rules → RunsGoAlike b b' (with_hosts own m) (with_hosts own' m')
