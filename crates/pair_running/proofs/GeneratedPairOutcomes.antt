-- What the run of the generated texts tells.
use Rattle.std.proofs.Common.{◌≡◌, ◌∙◌, ℕ, List, [], Option, Err, length, ap, subst}
use Rattle.pt_base.specs.declared.chooser.Who as base
use Rattle.pt_base.specs.declared.end.End.{End}
use Rattle.program_gen.specs.Functions.{functions_of}
use Rattle.program_gen.specs.Policies.{policy_of}
use Rattle.program_gen.specs.Programs.{hosts, program_of}
use Rattle.stages.specs.Climb.{as_written, of_pair}
use Rattle.stages.specs.Seen.{IsStop}
use Rattle.stages.specs.declared.refusal.Stop.{Stop}
use Rattle.stages.specs.declared.refusal.Stop.TheVariants.{Refused, Memory}
use Rattle.pair_texts.specs.Start.{Texts}
use Rattle.pair_running.specs.LocalPairLocal.{IsPairRun, Ran}
use Rattle.pair_running.specs.LocalPairOutcomeSeen as local
use Rattle.pair_running.specs.LocalPairWhole.{HasWhole}
use Rattle.pair_running.specs.GeneratedPairGenerated.{IsGenerated, texts_of, told, turns, window}
use Rattle.pair_running.specs.GeneratedPairOutcomeSeen.{IsWholeRun}
use Rattle.pair_running.specs.GeneratedPairTelling.{line_of, told_of}

pub texts_are : (seed count : ℕ) (program host policy : List ℕ) → program ≡ program_of (functions_of seed count) → host ≡ hosts → policy ≡ policy_of (functions_of seed count)
    → record { program = program; host = host; policy = policy; input = []; way = as_written } ≡ texts_of seed count
texts_are seed count program host policy p h q = λ i. record { program = p i; host = h i; policy = q i; input = []; way = as_written }

-- ---- where the texts are refused

pub stop_told : (t : Texts) (seed count : ℕ) (stop : Stop) → t ≡ texts_of seed count → IsStop of_pair t stop → IsStop of_pair (texts_of seed count) stop
stop_told t seed count stop is stops = subst (λ (z : Texts). IsStop of_pair z stop) is stops

pub none_taken : (t : Texts) (seed count : ℕ) (before after : Option (ℕ → base.Who)) (stop : Stop) → t ≡ texts_of seed count → local.IsWholeRun t turns window before after (Err stop) → IsWholeRun seed count before after (Err stop)
none_taken t seed count before after (Refused refusal) same none = none
none_taken t seed count before after Memory same none = none

-- ---- where they ran

-- the line of a run, with the lengths of the program and of the bytes
told_is : (seed count : ℕ) (program bytes written line : List ℕ) (end : End) → program ≡ program_of (functions_of seed count) → bytes ≡ written
    → line ≡ told_of (line_of seed count (length program) (length bytes)) end → line ≡ told seed count written end
told_is seed count program bytes written line end program_is bytes_are is =
    is ∙ ap (λ (z : List ℕ). told_of (line_of seed count (length z) (length bytes)) end) program_is
    ∙ ap (λ (z : List ℕ). told_of (line_of seed count (length (program_of (functions_of seed count))) (length z)) end) bytes_are

-- t are the texts, and run is what they came to
pub run_told : (t : Texts) (seed count : ℕ) (run : Ran) (program bytes line : List ℕ) → t ≡ texts_of seed count → program ≡ program_of (functions_of seed count) → bytes ≡ run.bytes
    → line ≡ told_of (line_of seed count (length program) (length bytes)) run.end → IsPairRun turns t run → IsGenerated seed count (texts_of seed count) (record { bytes = line; names = run.names; end = run.end })
run_told t seed count run program bytes line is program_is bytes_are line_is comes =
    let same : line ≡ told seed count run.bytes run.end = told_is seed count program bytes run.bytes line run.end program_is bytes_are line_is in (
      run,
      subst (λ (z : Texts). IsPairRun turns z run) is comes,
      λ i. record { bytes = same i; names = run.names; end = run.end },
    )

pub whole_told : (t : Texts) (seed count : ℕ) (program bytes written line : List ℕ) (end : End) (before after : Option (ℕ → base.Who)) → t ≡ texts_of seed count
    → program ≡ program_of (functions_of seed count) → bytes ≡ written → line ≡ told_of (line_of seed count (length program) (length bytes)) end → HasWhole t turns window before after written
    → (all : List ℕ) × HasWhole (texts_of seed count) turns window before after all × (line ≡ told seed count all end)
whole_told t seed count program bytes written line end before after is program_is bytes_are line_is has =
    (written, subst (λ (z : Texts). HasWhole z turns window before after written) is has, told_is seed count program bytes written line end program_is bytes_are line_is)
