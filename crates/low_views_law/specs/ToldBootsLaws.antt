-- What the slave starts from depends on nothing that is privileged.
use Rattle.std.specs.Prelude.{◌≡◌, ℕ, List, IsTrue}
use Rattle.host_table.specs.Hosts as table
use Rattle.host_table.specs.RunHosts.{models_of}
use Rattle.typed_tree.specs.TypedTree.{TypedTree}
use Rattle.typed_tree.specs.WellFormed.{is_well_formed}
use Rattle.flow_rules.specs.declared.accepted.Accepted.{Accepted}
use Rattle.flow_rules.specs.Faults.{IsAccepted}
use Rattle.pt_core.specs.CodeTree.{BootTree}
use Rattle.lowering.specs.Functions.{functions_from}
use Rattle.splitter.specs.Halves.{halves_of, slave_of}
use Rattle.pair_meaning.specs.Start.{boot_of}
use Rattle.lowered_code_law.specs.PlacesBareTrees.{bare_program}
use Rattle.low_views_law.specs.ToldBootsBareBoots.{bare_boot}
use Rattle.low_views_law.specs.ToldBootsSameForSlave.{AreSameForSlave, IsSameForSlave}

-- what the slave of an accepted program starts from
abbrev pub boot_at : TypedTree → Accepted → table.Hosts → List ℕ → ℕ → BootTree
boot_at t a hosts input budget = boot_of (slave_of t (halves_of a.sides) (functions_from t 0 t.functions)) (models_of hosts.models) input budget

-- Of a program that breaks no rule, hosts and inputs that are the same for its slave give the same boot.
abbrev pub BootsTellOwnHostsAlone : Type 0
BootsTellOwnHostsAlone = (t : TypedTree) (a : Accepted) (hosts others : table.Hosts) (input other : List ℕ) (budget : ℕ) →
    IsAccepted t a → AreSameForSlave t hosts others input other → boot_at t a hosts input budget ≡ boot_at t a others other budget

-- Two well-formed programs that break no rule, and that are the same for the slave, with hosts and inputs that are the same for it, give
-- it the same boot.
abbrev pub BootsTellNothingPrivileged : Type 0
BootsTellNothingPrivileged = (t u : TypedTree) (a b : Accepted) (hosts others : table.Hosts) (input other : List ℕ) (budget : ℕ) →
    IsTrue (is_well_formed t) → IsTrue (is_well_formed u) → IsAccepted t a → IsAccepted u b → IsSameForSlave t u → AreSameForSlave t hosts others input other →
    boot_at t a hosts input budget ≡ boot_at u b others other budget

-- A well-formed program is the same as itself for its slave.
abbrev pub ProgramsAreTheSameAsThemselves : Type 0
ProgramsAreTheSameAsThemselves = (t : TypedTree) → IsTrue (is_well_formed t) → IsSameForSlave t t

-- Where they are the same for the slave but for places of the text, so are the boots.
abbrev pub BootsTellOnlyPlaces : Type 0
BootsTellOnlyPlaces = (t u : TypedTree) (a b : Accepted) (hosts others : table.Hosts) (input other : List ℕ) (budget : ℕ) →
    IsTrue (is_well_formed t) → IsTrue (is_well_formed u) → IsAccepted t a → IsAccepted u b → IsSameForSlave (bare_program t) (bare_program u) → AreSameForSlave t hosts others input other →
    bare_boot (boot_at t a hosts input budget) ≡ bare_boot (boot_at u b others other budget)
