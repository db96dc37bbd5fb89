-- What a generated program comes to as a pair.
use Rattle.std.specs.Prelude.{◌≡◌, ℕ, List, [], length}
use Rattle.pt_base.specs.declared.end.End.{End}
use Rattle.runs.specs.Run.{Expected}
use Rattle.typed_tree.specs.TypedTree.{TypedTree}
use Rattle.program_gen.specs.Functions.{functions_of}
use Rattle.program_gen.specs.Policies.{policy_of}
use Rattle.program_gen.specs.Programs.{hosts, program_of}
use Rattle.stages.specs.Climb.{as_written, of_pair}
use Rattle.stages.specs.Commands.{AreAlike, Climb, ComesTo, came}
use Rattle.pair_texts.specs.Start.{Texts}
use Rattle.pair_running.specs.LocalPairLocal.{IsExpected, IsPairRun, Ran, ran_of}
use Rattle.pair_running.specs.GeneratedPairTelling.{line_of, told_of}

-- the turns of the run
abbrev pub turns : ℕ
turns = 1000000

-- how many messages may wait
abbrev pub window : ℕ
window = 16

-- the texts that a seed gives, with no input
abbrev pub texts_of : ℕ → ℕ → Texts
texts_of seed count = record {
  program = program_of (functions_of seed count);
  host = hosts;
  policy = policy_of (functions_of seed count);
  input = [];
  way = as_written;
}

-- what is told of these bytes and this end
abbrev pub told : ℕ → ℕ → List ℕ → End → List ℕ
told seed count bytes end = told_of (line_of seed count (length (program_of (functions_of seed count))) (length bytes)) end

-- a run of the texts with what is told of it in place of what is written
abbrev pub telling : ℕ → ℕ → Ran → Ran
telling seed count r = record { bytes = told seed count r.bytes r.end; names = r.names; end = r.end }

-- it is the run of these texts, told
abbrev pub IsGenerated : ℕ → ℕ → Texts → Ran → Type 0
IsGenerated seed count t r = (run : Ran) × IsPairRun turns t run × (r ≡ telling seed count run)

-- ---- laws

-- the program comes to one outcome at most, but for the ways that faults of flows show
abbrev pub OutcomeIsOne : Type 0
OutcomeIsOne = (seed count : ℕ) (a b : Climb Ran) → ComesTo of_pair (IsGenerated seed count) (texts_of seed count) a → ComesTo of_pair (IsGenerated seed count) (texts_of seed count) b → AreAlike a b

-- where no stage of the texts has a fault, what is told is what is expected of them
abbrev pub GeneratedRunsAreTold : Type 0
GeneratedRunsAreTold = (seed count : ℕ) (tree : TypedTree) (e : Expected) (o : Climb Ran) → IsExpected (texts_of seed count) turns tree e
    → ComesTo of_pair (IsGenerated seed count) (texts_of seed count) o → o ≡ came (telling seed count (ran_of tree e))
