-- What texts come to: where they stop, or what `check`, `split` and `orig` make of them.
use Rattle.std.specs.Prelude.{◌<◌, ◌^◌, ◌⊎◌, ℕ, List, [], ◌∷◌, Contains, length, IsTrue}
use Rattle.typed_tree.specs.TypedTree.{TypedTree}
use Rattle.typed_tree.specs.WellFormed.{is_well_formed}
use Rattle.front_end.specs.Reading.{HasTypedTree}
use Rattle.sides.specs.Slots.{slots_of}
use Rattle.flow_law.specs.SlotsLaws.{HasFewSlots}
use Rattle.flow_rules.specs.declared.accepted.Accepted.{Accepted}
use Rattle.flow_rules.specs.declared.fault.FlowFault.{FlowFault}
use Rattle.flow_rules.specs.Faults.{IsAccepted}
use Rattle.stages.specs.Climb.{HasPassed, IsRefused, Refusal, Stage, Texts, flows, hosts, inputs}
use Rattle.stages.specs.Commands.{Climb, ComesTo}
use Rattle.stages.specs.FlowFaults.{HasFlowFaults}
use Rattle.flow_check.specs.Checked.{IsChecked}
use Rattle.program_split.specs.Split.{HalfTexts, IsSplit}
use Rattle.original.specs.Original.{IsOriginal, Ran}

-- the program is accepted, or its flows have faults
abbrev pub IsJudged : TypedTree → Type 0
IsJudged t = ((a : Accepted) × IsAccepted t a) ⊎ ((faults : List FlowFault) × HasFlowFaults t faults)

-- each well formed program of at most 2^25 slots is judged
abbrev pub ProgramsAreJudged : Type 0
ProgramsAreJudged = (t : TypedTree) → IsTrue (is_well_formed t) → HasFewSlots t → IsJudged t

-- the text is a program of more than 2^25 slots
abbrev pub HasTooManySlots : List ℕ → Type 0
HasTooManySlots text = (tree : TypedTree) × HasTypedTree text tree × (2 ^ 25 < length (slots_of tree))

-- ---- all climbs

-- a command refuses texts, or they pass its stages, but for programs of too many slots
abbrev pub ClimbsEnd : Type 0
ClimbsEnd = (ss : List Stage) (t : Texts) → ((r : Refusal) × IsRefused ss t r) ⊎ (((tree : TypedTree) × HasPassed ss t tree) ⊎ HasTooManySlots t.program)

-- one that doesn't ask for flows refuses all texts that don't pass
abbrev pub ClimbsEndWithoutFlows : Type 0
ClimbsEndWithoutFlows = (ss : List Stage) (t : Texts) → (Contains ss flows → ⊥) → ((r : Refusal) × IsRefused ss t r) ⊎ ((tree : TypedTree) × HasPassed ss t tree)

-- one that asks for flows first doesn't refuse a program of too many slots, and that doesn't pass
abbrev pub TooManySlotsStopNothing : Type 0
TooManySlotsStopNothing = (ss : List Stage) (t : Texts) → HasTooManySlots t.program →
    ((r : Refusal) → IsRefused (flows ∷ ss) t r → ⊥) × ((tree : TypedTree) → HasPassed (flows ∷ ss) t tree → ⊥)

-- ---- commands

-- each text comes to an outcome of a check, but for programs of too many slots
abbrev pub ChecksComeToAnOutcome : Type 0
ChecksComeToAnOutcome = (t : Texts) → ((o : Climb (List ℕ)) × ComesTo (flows ∷ []) IsChecked t o) ⊎ HasTooManySlots t.program

-- each text comes to an outcome of a split, but for the same
abbrev pub SplitsComeToAnOutcome : Type 0
SplitsComeToAnOutcome = (t : Texts) → ((o : Climb HalfTexts) × ComesTo (flows ∷ []) IsSplit t o) ⊎ HasTooManySlots t.program

-- those come to none
abbrev pub TooManySlotsHaveNoOutcome : Type 0
TooManySlotsHaveNoOutcome = (t : Texts) → HasTooManySlots t.program →
    ((o : Climb (List ℕ)) → ComesTo (flows ∷ []) IsChecked t o → ⊥) × ((o : Climb HalfTexts) → ComesTo (flows ∷ []) IsSplit t o → ⊥)

-- texts come to an outcome of the original within so many turns
abbrev pub RunsComeToAnOutcome : Type 0
RunsComeToAnOutcome = (t : Texts) (turns : ℕ) → (o : Climb Ran) × ComesTo (hosts ∷ inputs ∷ []) (IsOriginal turns) t o
