-- What holds of explanations of pairs.
use Rattle.std.specs.Prelude.{◌≡◌, ◌≤◌, ℕ, List, [], ◌∷◌, length, ⊤}
use Rattle.pt_tree.specs.declared.signature.Signature.{Signature}
use Rattle.typed_tree.specs.TypedTree.{TypedTree}
use Rattle.policy.specs.declared.error.PolicyFault.{PolicyFault}
use Rattle.policy.specs.PolicyFault.{IsFirstFault}
use Rattle.source_places.specs.Places.{line_at}
use Rattle.stages.specs.Climb.{HasPassed, IsRefused, Refusal, Stage, Texts, flows, hosts, inputs, of_pair, rules}
use Rattle.stages.specs.Commands.{AreCut, Climb, ComesTo}
use Rattle.stages.specs.GivenHosts.{most}
use Rattle.pair_explaining.specs.PairExplains.{IsPairHeld, of_files}
use Rattle.pair_explaining.specs.PairNames.{Names}
use Rattle.pair_explaining.specs.RefusalBlocks.{AreBlocks, IsTold}

-- what explains the first bytes of texts, one more than each may have, explains the whole texts, by whatever command they are refused
abbrev pub FirstBytesAreEnough : Type 0
FirstBytesAreEnough = (ss : List Stage) (names : Names) (whole cut : Texts) (r : Refusal) (report : List ℕ) → AreCut whole cut → IsRefused ss cut r →
    AreBlocks names cut r report → IsRefused ss whole r × AreBlocks names whole r report

-- what the first bytes come to, the whole texts come to
abbrev pub FirstBytesHold : Type 0
FirstBytesHold =
    (name : List ℕ) (whole cut : Texts) (o : Climb (List ℕ)) → AreCut whole cut → ComesTo of_files (IsPairHeld name) cut o → ComesTo of_files (IsPairHeld name) whole o

-- the same texts with this input
abbrev pub with_input : Texts → List ℕ → Texts
with_input t xs = record { program = t.program; host = t.host; policy = t.policy; input = xs; way = t.way }

-- what is explained of texts, `local` may report of them, whatever the input is
abbrev pub ExplainedIsReported : Type 0
ExplainedIsReported = (t : Texts) (xs : List ℕ) (r : Refusal) → IsRefused of_files t r → IsRefused of_pair (with_input t xs) r

-- where nothing is found the texts pass all stages of a pair, with every input that isn't too long
abbrev pub HeldPasses : Type 0
HeldPasses = (name : List ℕ) (t : Texts) (lines xs : List ℕ) → IsPairHeld name t lines → length xs ≤ most → (tree : TypedTree) × HasPassed of_pair (with_input t xs) tree

-- the line that is shown of a policy is the one that has the fault
abbrev pub FaultyLineIsShown : Type 0
FaultyLineIsShown = (signatures : List Signature) (text : List ℕ) (fault : PolicyFault) (x : IsFirstFault signatures text fault) → line_at text fault.line ≡ x.line

-- none of these stages looks at the input
abbrev pub LeavesInput : List Stage → Type 0
LeavesInput [] = ⊤
LeavesInput (hosts ∷ ss) = LeavesInput ss
LeavesInput (rules ∷ ss) = LeavesInput ss
LeavesInput (flows ∷ ss) = LeavesInput ss
LeavesInput (inputs ∷ ss) = ⊥

-- blocks tell of each refusal of a command that climbs such stages
abbrev pub RefusalsAreTold : Type 0
RefusalsAreTold = (ss : List Stage) (t : Texts) (r : Refusal) → LeavesInput ss → IsRefused ss t r → IsTold r
