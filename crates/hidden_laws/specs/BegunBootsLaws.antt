-- What the slave of faultless texts starts from depends on nothing that is privileged.
use Rattle.std.specs.Prelude.{◌≡◌, ℕ}
use Rattle.pt_core.specs.CodeTree.{BootTree}
use Rattle.pair_meaning.specs.Monitors.{Monitor}
use Rattle.pair_texts.specs.Start.{HaveBegun, Texts}
use Rattle.lowered_code_law.specs.PlacesBareTrees.{bare_program}
use Rattle.low_views_law.specs.ToldBootsBareBoots.{bare_boot}
use Rattle.low_views_law.specs.ToldBootsSameForSlave.{AreSameForSlave, IsSameForSlave}

-- Pairs begin of both, and their tables and inputs are the same for the slave of the first.
pub record Begin (s r : Texts) (turns : ℕ) (boot other : BootTree) (first second : Monitor) : Type 0 where
  pub here : HaveBegun s turns boot first
  pub there : HaveBegun r turns other second
  pub outside : AreSameForSlave here.started.tree here.started.hosts there.started.hosts s.input r.input

-- Where both have one program, the boots are the same.
abbrev pub BegunBootsTellOwnHostsAlone : Type 0
BegunBootsTellOwnHostsAlone = (s r : Texts) (turns : ℕ) (boot other : BootTree) (first second : Monitor) → Begin s r turns boot other first second → s.program ≡ r.program → boot ≡ other

-- Where the programs are the same for the slave too, so are the boots.
abbrev pub BegunBootsTellNothingPrivileged : Type 0
BegunBootsTellNothingPrivileged = (s r : Texts) (turns : ℕ) (boot other : BootTree) (first second : Monitor) (b : Begin s r turns boot other first second) →
    IsSameForSlave b.here.started.tree b.there.started.tree → boot ≡ other

-- Where they are so but for places of the text, so are the boots.
abbrev pub BegunBootsTellOnlyPlaces : Type 0
BegunBootsTellOnlyPlaces = (s r : Texts) (turns : ℕ) (boot other : BootTree) (first second : Monitor) (b : Begin s r turns boot other first second) →
    IsSameForSlave (bare_program b.here.started.tree) (bare_program b.there.started.tree) → bare_boot boot ≡ bare_boot other
