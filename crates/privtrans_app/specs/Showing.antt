-- How a chooser is asked for what a command shows.
use Rattle.std.specs.Prelude.{◌≡◌, ℕ, List, [], Option, Result, Ok, Err, IfOk, map, ⊤}
use Rattle.std.specs.declared.alloc.AllocError.{AllocError}
use Rattle.front_end.specs.FaultLinesSeen.{Seen, faulty}
use Rattle.pt_base.specs.declared.chooser.Who.{Who}
use Rattle.pt_base.specs.declared.end.End.{End}
use Rattle.stages.specs.declared.refusal.Stop.{Stop}
use Rattle.stages.specs.declared.refusal.Stop.TheVariants as stop
use Rattle.stages.specs.declared.refusal.Stop.TheVariants.{Refused}
use Rattle.stages.specs.Climb.{Texts}
use Rattle.stages.specs.Seen.{view_refusal}
use Rattle.refusal_lines.specs.Ends as ends
use Rattle.refusal_lines.specs.Lines.{lines_of}
use Rattle.pair_explaining.specs.PairNames.{Names}
use Rattle.pair_explaining.specs.RefusalBlocks.{AreBlocks, IsTold}
use Rattle.pair_running.specs.declared.local_pair.ran.Ran.{Ran}
use Rattle.pair_meaning.specs.LinkChoosing.{AreTaken}
use Rattle.pair_running.specs.LocalPairWhole.{HasWhole}
use Rattle.pair_running.specs.GeneratedPairGenerated as made
use Rattle.pair_running.specs.ServedPairsServed.{Session}
use Rattle.pair_running.specs.ServedPairsTurns.{HaveTurns, view_served}
use Rattle.pair_running.specs.declared.served_pairs.served.Served.{Served}
use Rattle.pair_texts.specs.Several.{SharedTexts}
use Rattle.privtrans_app.specs.EndingSeen.{report_status}
use Rattle.privtrans_app.specs.Gives.{inputs_of, pair_of, shared_of}
use Rattle.privtrans_app.specs.Interleaving.{IsOfNoRun, IsOfRun}
use Rattle.privtrans_app.specs.Sessions.{served_seen, texts_from}
use Rattle.privtrans_app.specs.Words.{Command, help, version, check, explain, outline, picture, explain_pair, orig, local, run, split, slave, gen, serve, audit}
use Rattle.privtrans_app.specs.declared.showing.Shown.{Shown}

-- this is seen of what stages stop so: the lines of the refusal
abbrev pub IsStopShown : Stop → Seen → Type 0
IsStopShown (Refused refusal) s = s ≡ faulty (lines_of (view_refusal refusal))
IsStopShown stop.Memory s = ⊥

-- the same, told by blocks
abbrev pub IsStopExplained : Names → Texts → Stop → Seen → Type 0
IsStopExplained names t (Refused refusal) s = (report : List ℕ) × AreBlocks names t (view_refusal refusal) report × (s ≡ faulty report)
IsStopExplained names t stop.Memory s = ⊥

-- blocks tell of what stops so
abbrev pub MayBeExplained : Stop → Type 0
MayBeExplained (Refused refusal) = IsTold (view_refusal refusal)
MayBeExplained stop.Memory = ⊤

-- this is seen of what a pair came to
abbrev pub IsPairShown : Result Ran Stop → Seen → Type 0
IsPairShown (Ok r) s = s ≡ ends.ran r.written.items r.names r.end
IsPairShown (Err stop) s = IsStopShown stop s

-- What is shown with this status of both halves of a program: `whole` says that they ran to their end under the answers that were taken.
-- Where nothing ran, none was taken. `before` is what the chooser told of its answers to come before, and `after` behind.
pub record Turned (whole : Type 0) (before after : Option (ℕ → Who)) (status : ℕ) : Type 0 where
  pub ran : IsOfRun status → whole
  pub idle : IsOfNoRun status → AreTaken [] before after

-- these bytes are what is told of a whole run of a generated program
abbrev pub TellsTurns : ℕ → ℕ → Option (ℕ → Who) → Option (ℕ → Who) → List ℕ → Type 0
TellsTurns seed count before after bytes =
    (written : List ℕ) × (end : End) × HasWhole (made.texts_of seed count) made.turns made.window before after written × (bytes ≡ made.told seed count written end)

-- these bytes are what is told of sessions that came to their ends by whole turns
abbrev pub TellsSessions : SharedTexts → List (List ℕ) → ℕ → Option (ℕ → Who) → Option (ℕ → Who) → List ℕ → Type 0
TellsSessions t inputs turns before after bytes = (xs : List Session) × HaveTurns t inputs turns before after (map (λ x. x.bytes) xs) × (bytes ≡ texts_from 0 xs)

-- this is seen of what several pairs came to
abbrev pub IsServeShown : Result Served Stop → Seen → Type 0
IsServeShown (Ok v) s = s ≡ served_seen (view_served v)
IsServeShown (Err stop) s = IsStopShown stop s

-- The chooser was asked for what a command shows of these texts: by the runs of both halves alone. `same` says that it is as it was.
abbrev pub HasAsked : Type 0 → Command → List (List ℕ) → Option (ℕ → Who) → Option (ℕ → Who) → Result Shown AllocError → Type 0
HasAsked same help texts before after r = same
HasAsked same version texts before after r = same
HasAsked same (check program) texts before after r = same
HasAsked same (explain program) texts before after r = same
HasAsked same (outline program) texts before after r = same
HasAsked same (picture program) texts before after r = same
HasAsked same (explain_pair program host policy) texts before after r = same
HasAsked same (orig program host input turns) texts before after r = same
HasAsked same (local program host policy input turns window) texts before after r =
    IfOk r (λ s. Turned (HasWhole (pair_of texts) turns window before after s.out.items) before after (report_status s.report))
HasAsked same (run program host policy input turns) texts before after r = same
HasAsked same (split program to_slave to_monitor) texts before after r = same
HasAsked same slave texts before after r = same
HasAsked same (gen seed count) texts before after r = IfOk r (λ s. Turned (TellsTurns seed count before after s.out.items) before after (report_status s.report))
HasAsked same (serve program host policy turns inputs) texts before after r =
    IfOk r (λ s. Turned (TellsSessions (shared_of texts) (inputs_of texts) turns before after s.out.items) before after (report_status s.report))
HasAsked same (audit program) texts before after r = same
