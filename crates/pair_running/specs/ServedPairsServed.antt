-- What texts with several inputs come to when both halves of each pair run, all over one monitor's program, within a budget of turns each.
use Rattle.std.specs.Prelude.{◌≤◌, ℕ, List, [], ◌∷◌, length, ⊤}
use Rattle.pt_base.specs.declared.end.End.{End}
use Rattle.runs.specs.Run.{Expected}
use Rattle.typed_tree.specs.TypedTree.{TypedTree}
use Rattle.stages.specs.Commands.{AreAlike, Climb, came, refused}
use Rattle.pair_texts.specs.Several.{AreCutInputs, AreCutShared, IsOneRefused, SharedTexts, with_input}
use Rattle.pair_running.specs.LocalPairLocal.{IsExpected, IsPairRun, Ran}

-- What a session writes, and how it ends.
pub record Session : Type 0 where
  pub bytes : List ℕ
  pub end : End

-- All sessions, in the order of their inputs, and the name of each function of the program, by its number.
pub record Served : Type 0 where
  pub sessions : List Session
  pub names : List (List ℕ)

abbrev pub ran_by : List (List ℕ) → Session → Ran
ran_by names x = record { bytes = x.bytes; names = names; end = x.end }

-- with each input the run of both halves comes to what its session writes, and ends so
abbrev pub AreRan : SharedTexts → ℕ → List (List ℕ) → List (List ℕ) → List Session → Type 0
AreRan t turns names [] [] = ⊤
AreRan t turns names [] (x ∷ xs) = ⊥
AreRan t turns names (input ∷ inputs) [] = ⊥
AreRan t turns names (input ∷ inputs) (x ∷ xs) = IsPairRun turns (with_input t input) (ran_by names x) × AreRan t turns names inputs xs

pub record IsServed (t : SharedTexts) (inputs : List (List ℕ)) (turns : ℕ) (v : Served) : Type 0 where
  pub some : 1 ≤ length inputs
  pub ran : AreRan t turns v.names inputs v.sessions

-- the refusal of one of the pairs, or all sessions
abbrev pub ComesTo : SharedTexts → List (List ℕ) → ℕ → Climb Served → Type 0
ComesTo t inputs turns (refused r) = IsOneRefused t inputs r
ComesTo t inputs turns (came v) = IsServed t inputs turns v

-- ---- what is expected

abbrev pub session_of : Expected → Session
session_of e = record { bytes = e.bytes; end = e.end }

-- no stage has a fault, and with each input this is expected of the program of this tree
abbrev pub AreExpected : SharedTexts → ℕ → TypedTree → List (List ℕ) → List Expected → Type 0
AreExpected t turns tree [] [] = ⊤
AreExpected t turns tree [] (e ∷ es) = ⊥
AreExpected t turns tree (input ∷ inputs) [] = ⊥
AreExpected t turns tree (input ∷ inputs) (e ∷ es) = IsExpected (with_input t input) turns tree e × AreExpected t turns tree inputs es

-- ---- laws

-- texts come to one outcome at most, but for the ways, of which one is chosen where there are several
abbrev pub OutcomeIsOne : Type 0
OutcomeIsOne = (t : SharedTexts) (inputs : List (List ℕ)) (turns : ℕ) (a b : Climb Served) → ComesTo t inputs turns a → ComesTo t inputs turns b → AreAlike a b

-- what the first bytes of texts come to, of each one more than it may have, the whole texts come to
abbrev pub CutsAreEnough : Type 0
CutsAreEnough = (whole cut : SharedTexts) (inputs firsts : List (List ℕ)) (turns : ℕ) (o : Climb Served) → AreCutShared whole cut → AreCutInputs inputs firsts → ComesTo cut firsts turns o → ComesTo whole inputs turns o
