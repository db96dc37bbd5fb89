-- What texts come to by a command.
use Rattle.std.specs.Prelude.{◌≡◌, List, map, take}
use Rattle.stages.specs.Climb.{IsRefused, Refusal, Stage, Texts, lex, parse, types, host, policy, flow, input}
use Rattle.stages.specs.FlowFaults.{without_way}

-- What texts come to by a command: the refusal, or its result.
pub data Climb (A : Type 0) : Type 0 where
  refused : Refusal → Climb A
  came : A → Climb A

-- by one that climbs these stages, and whose results are these
abbrev pub ComesTo : {A : Type 0} → List Stage → (Texts → A → Type 0) → Texts → Climb A → Type 0
ComesTo ss is t (refused r) = IsRefused ss t r
ComesTo ss is t (came x) = is t x

-- a refusal without the ways that faults of flows show
abbrev pub without_ways : Refusal → Refusal
without_ways (lex fault) = lex fault
without_ways (parse fault) = parse fault
without_ways (types faults) = types faults
without_ways (host tree faults) = host tree faults
without_ways (policy fault) = policy fault
without_ways (flow tree faults) = flow tree (map without_way faults)
without_ways input = input

-- both are one, but for the ways that faults of flows show
abbrev pub AreAlike : {A : Type 0} → Climb A → Climb A → Type 0
AreAlike (refused r) (refused s) = without_ways r ≡ without_ways s
AreAlike (refused r) (came y) = ⊥
AreAlike (came x) (refused s) = ⊥
AreAlike (came x) (came y) = x ≡ y

-- of each text these are the first bytes, one more than it may have; the program is taken in the same way
pub record AreCut (whole cut : Texts) : Type 0 where
  pub program : cut.program ≡ take 1048577 whole.program
  pub host : cut.host ≡ take 1048577 whole.host
  pub policy : cut.policy ≡ take 1048577 whole.policy
  pub input : cut.input ≡ take 1048577 whole.input
  pub way : cut.way ≡ whole.way
