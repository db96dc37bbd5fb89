-- What texts come to when both halves of their program run, within a budget of turns.
use Rattle.std.specs.Prelude.{◌≡◌, ◌≤◌, ℕ, List, length}
use Rattle.pt_base.specs.declared.end.End.{End}
use Rattle.runs.specs.Run.{Expected}
use Rattle.typed_tree.specs.TypedTree.{TypedTree}
use Rattle.host_table.specs.Hosts.{Hosts}
use Rattle.policy.specs.declared.rule.Rule.{Rule}
use Rattle.policy.specs.Verdicts.{start}
use Rattle.flow_rules.specs.declared.accepted.Accepted.{Accepted}
use Rattle.flow_rules.specs.Faults.{IsAccepted}
use Rattle.stages.specs.Climb.{of_pair}
use Rattle.stages.specs.Commands.{AreAlike, AreCut, Climb, ComesTo}
use Rattle.stages.specs.GivenHosts.{most}
use Rattle.pair_laws.specs.BegunPairsLaws.{expected_of}
use Rattle.pair_texts.specs.Start.{AreRead, Texts, names_of}

-- No stage of these texts has a fault, and this is expected of their program, which has this typed tree: what it writes itself, with the
-- table's hosts, the input and so many turns, and how it ends, up to the first guarded call that the policy denies.
pub record IsExpected (t : Texts) (turns : ℕ) (tree : TypedTree) (e : Expected) : Type 0 where
  pub hosts : Hosts
  pub rules : List Rule
  pub accepted : Accepted
  pub read : AreRead t tree hosts rules
  pub is : IsAccepted tree accepted
  pub short : length t.input ≤ most
  pub expected_is : e ≡ expected_of tree (start rules) hosts t.input turns

-- The bytes that are written, the name of each function of the program, by its number, and the end.
pub record Ran : Type 0 where
  pub bytes : List ℕ
  pub names : List (List ℕ)
  pub end : End

-- these bytes and this end, of the program of this tree
abbrev pub ran_of : TypedTree → Expected → Ran
ran_of tree e = record { bytes = e.bytes; names = names_of tree; end = e.end }

-- no stage has a fault, and this is what is expected of the program
abbrev pub IsPairRun : ℕ → Texts → Ran → Type 0
IsPairRun turns t r = (tree : TypedTree) × (e : Expected) × IsExpected t turns tree e × (r.bytes ≡ e.bytes) × (r.names ≡ names_of tree) × (r.end ≡ e.end)

-- ---- laws

-- texts come to one outcome at most, but for the ways, of which one is chosen where there are several
abbrev pub OutcomeIsOne : Type 0
OutcomeIsOne = (t : Texts) (turns : ℕ) (a b : Climb Ran) → ComesTo of_pair (IsPairRun turns) t a → ComesTo of_pair (IsPairRun turns) t b → AreAlike a b

-- what the first bytes of texts come to, of each one more than it may have, the whole texts come to
abbrev pub CutsAreEnough : Type 0
CutsAreEnough = (whole cut : Texts) (turns : ℕ) (o : Climb Ran) → AreCut whole cut → ComesTo of_pair (IsPairRun turns) cut o → ComesTo of_pair (IsPairRun turns) whole o
