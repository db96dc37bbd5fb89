-- What a command shows of what its texts come to.
use Rattle.std.proofs.Common.{◌≡◌, ◌∙◌, ℕ, List, Option, Result, Ok, Err, IfOk, MatchResult, refl, sym, ap, subst, inl, inr}
use Rattle.std.specs.declared.alloc.AllocError.{AllocError}
use Rattle.pt_base.specs.declared.chooser.Who.{Who}
use Rattle.pt_base.specs.declared.end.End.{End}
use Rattle.pt_base.specs.declared.end.End.TheVariants as ends
use Rattle.front_end.specs.FaultLinesSeen.{Seen, faulty}
use Rattle.stages.specs.Climb.{Stage, Texts, of_pair}
use Rattle.stages.specs.Seen.{IsStop, view_refusal}
use Rattle.stages.specs.declared.refusal.Stop.{Stop}
use Rattle.stages.specs.declared.refusal.Stop.TheVariants as stop
use Rattle.stages.specs.declared.refusal.Stop.TheVariants.{Refused}
use Rattle.refusal_lines.specs.Ends as ended
use Rattle.refusal_lines.specs.Ends.{end_status}
use Rattle.refusal_lines.specs.Lines.{lines_of}
use Rattle.pair_explaining.specs.Laws.{LeavesInput, RefusalsAreTold}
use Rattle.pair_explaining.specs.PairNames.{Names}
use Rattle.pair_explaining.specs.RefusalBlocks.{AreBlocks}
use Rattle.pair_running.specs.GeneratedPairGenerated as made
use Rattle.pair_running.specs.GeneratedPairOutcomeSeen as made_views
use Rattle.pair_running.specs.LocalPairLocal.{IsPairRun}
use Rattle.pair_running.specs.LocalPairOutcomeSeen.{IsWholeRun, view_ran}
use Rattle.pair_running.specs.LocalPairWhole.{HasWhole}
use Rattle.pair_running.specs.declared.local_pair.ran.Ran.{Ran}
use Rattle.privtrans_app.specs.EndingSeen.{report_status, shown_seen}
use Rattle.privtrans_app.specs.Gives.{IsRefusedBy, Shows, by_lines, ran_both}
use Rattle.privtrans_app.specs.Interleaving.{IsOfNoRun}
use Rattle.privtrans_app.specs.Showing.{IsPairShown, IsStopExplained, IsStopShown, MayBeExplained, TellsTurns, Turned}
use Rattle.privtrans_app.specs.declared.showing.Shown.{Shown}
use Rattle.privtrans_app.proofs.Statuses.{done, other}

-- ---- refusals

-- what stops a climb, told by lines
pub stop_shown : (ss : List Stage) (t : Texts) (e : Stop) (s : Seen) → IsStop ss t e → IsStopShown e s → IsRefusedBy ss by_lines t s
stop_shown ss t (Refused refusal) s stops is = (view_refusal refusal, lines_of (view_refusal refusal), stops, refl, is)
stop_shown ss t stop.Memory s stops is = absurd is

-- the same, told by blocks
pub stop_explained : (ss : List Stage) (names : Names) (t : Texts) (e : Stop) (s : Seen) → IsStop ss t e → IsStopExplained names t e s → IsRefusedBy ss (AreBlocks names t) t s
stop_explained ss names t (Refused refusal) s stops (report, blocks, is) = (view_refusal refusal, report, stops, blocks, is)
stop_explained ss names t stop.Memory s stops is = absurd is

-- blocks tell of what stops a climb that leaves the input alone
pub may_explain : RefusalsAreTold → (ss : List Stage) (t : Texts) (e : Stop) → LeavesInput ss → IsStop ss t e → MayBeExplained e
may_explain law ss t (Refused refusal) leaves stops = law ss t (view_refusal refusal) leaves stops
may_explain law ss t stop.Memory leaves stops = tt

-- the result of a command that came to one, and why one stopped
pub came_so : {A : Type 0} (P : A → Type 0) (Q : Stop → Type 0) (r : Result A Stop) (x : A) → MatchResult r P Q → r ≡ Ok x → P x
came_so {A} P Q r x comes is = subst (λ (y : Result A Stop). MatchResult y P Q) is comes

pub stopped_so : {A : Type 0} (P : A → Type 0) (Q : Stop → Type 0) (r : Result A Stop) (e : Stop) → MatchResult r P Q → r ≡ Err e → Q e
stopped_so {A} P Q r e comes is = subst (λ (y : Result A Stop). MatchResult y P Q) is comes

-- ---- pairs

-- an end of a run isn't that of a call that runs nothing
busy : (end : End) → IsOfNoRun (end_status end) → ⊥
busy (ends.Exit status) idle = done 0 0 refl refl idle
busy (ends.Trapped trap span) idle = done 6 6 refl refl idle
busy ends.Spent idle = done 8 8 refl refl idle
busy (ends.Refused call f state) idle = done 7 7 refl refl idle

abbrev pub status_so : (s : Shown) (x : Seen) → shown_seen s ≡ x → report_status s.report ≡ x.status
status_so s x is = ap (λ (y : Seen). y.status) is

abbrev pub out_so : (s : Shown) (x : Seen) → shown_seen s ≡ x → s.out.items ≡ x.out
out_so s x is = ap (λ (y : Seen). y.out) is

-- what both halves came to
pub pair_given : (t : Texts) (turns : ℕ) (r : Result Ran Stop) (s : Seen) → MatchResult r (λ x. IsPairRun turns t (view_ran x)) (IsStop of_pair t) → IsPairShown r s → Shows of_pair by_lines (IsPairRun turns) ran_both t s
pair_given t turns (Ok x) s comes is = inr (view_ran x, comes, is)
pair_given t turns (Err e) s comes is = inl (stop_shown of_pair t e s comes is)

pub pair_turned : (t : Texts) (turns window : ℕ) (before after : Option (ℕ → Who)) (r : Result Ran Stop) (s : Shown) → IsWholeRun t turns window before after r → IsPairShown r (shown_seen s)
    → Turned (HasWhole t turns window before after s.out.items) before after (report_status s.report)
pair_turned t turns window before after (Ok x) s whole is = record {
  ran = λ ran. subst (λ (bytes : List ℕ). HasWhole t turns window before after bytes) (sym (out_so s (ended.ran x.written.items x.names x.end) is)) whole;
  idle = λ idle. absurd (busy x.end (subst IsOfNoRun (status_so s (ended.ran x.written.items x.names x.end) is) idle));
}
pair_turned t turns window before after (Err (Refused refusal)) s taken is = record {
  ran = λ ran. absurd (other (report_status s.report) 5 (status_so s (faulty (lines_of (view_refusal refusal))) is) refl ran);
  idle = λ idle. taken;
}
pair_turned t turns window before after (Err stop.Memory) s taken is = absurd is

pub made_given : (seed count : ℕ) (r : Result Ran Stop) (s : Seen) → MatchResult r (λ x. made.IsGenerated seed count (made.texts_of seed count) (view_ran x)) (IsStop of_pair (made.texts_of seed count))
    → IsPairShown r s → Shows of_pair by_lines (made.IsGenerated seed count) ran_both (made.texts_of seed count) s
made_given seed count (Ok x) s comes is = inr (view_ran x, comes, is)
made_given seed count (Err e) s comes is = inl (stop_shown of_pair (made.texts_of seed count) e s comes is)

pub made_turned : (seed count : ℕ) (before after : Option (ℕ → Who)) (r : Result Ran Stop) (s : Shown) → made_views.IsWholeRun seed count before after r → IsPairShown r (shown_seen s)
    → Turned (TellsTurns seed count before after s.out.items) before after (report_status s.report)
made_turned seed count before after (Ok x) s whole is = record {
  ran = λ ran. (whole.0, x.end, whole.1, out_so s (ended.ran x.written.items x.names x.end) is ∙ whole.2);
  idle = λ idle. absurd (busy x.end (subst IsOfNoRun (status_so s (ended.ran x.written.items x.names x.end) is) idle));
}
made_turned seed count before after (Err (Refused refusal)) s taken is = record {
  ran = λ ran. absurd (other (report_status s.report) 5 (status_so s (faulty (lines_of (view_refusal refusal))) is) refl ran);
  idle = λ idle. taken;
}
made_turned seed count before after (Err stop.Memory) s taken is = absurd is

-- ---- what stages stop

pub refused_shows : {A : Type 0} (ss : List Stage) (is : Texts → A → Type 0) (show : A → Seen) (t : Texts) (e : Stop) (r : Result Shown AllocError) → IsStop ss t e → IfOk r (λ s. IsStopShown e (shown_seen s))
    → IfOk r (λ s. Shows ss by_lines is show t (shown_seen s))
refused_shows ss is show t e (Ok s) stops shown = inl (stop_shown ss t e (shown_seen s) stops shown)
refused_shows ss is show t e (Err wants) stops shown = tt

pub explained_shows : {A : Type 0} (ss : List Stage) (names : Names) (is : Texts → A → Type 0) (show : A → Seen) (t : Texts) (e : Stop) (r : Result Shown AllocError) → IsStop ss t e
    → IfOk r (λ s. IsStopExplained names t e (shown_seen s)) → IfOk r (λ s. Shows ss (AreBlocks names t) is show t (shown_seen s))
explained_shows ss names is show t e (Ok s) stops shown = inl (stop_explained ss names t e (shown_seen s) stops shown)
explained_shows ss names is show t e (Err wants) stops shown = tt

-- what a pair came to, of an answer that may want memory
pub pair_shows : (t : Texts) (turns : ℕ) (r : Result Ran Stop) (x : Result Shown AllocError) → MatchResult r (λ y. IsPairRun turns t (view_ran y)) (IsStop of_pair t) → IfOk x (λ s. IsPairShown r (shown_seen s))
    → IfOk x (λ s. Shows of_pair by_lines (IsPairRun turns) ran_both t (shown_seen s))
pair_shows t turns r (Ok s) comes is = pair_given t turns r (shown_seen s) comes is
pair_shows t turns r (Err wants) comes is = tt

pub pair_turns : (t : Texts) (turns window : ℕ) (before after : Option (ℕ → Who)) (r : Result Ran Stop) (x : Result Shown AllocError) → IsWholeRun t turns window before after r
    → IfOk x (λ s. IsPairShown r (shown_seen s)) → IfOk x (λ s. Turned (HasWhole t turns window before after s.out.items) before after (report_status s.report))
pair_turns t turns window before after r (Ok s) whole is = pair_turned t turns window before after r s whole is
pair_turns t turns window before after r (Err wants) whole is = tt

pub made_shows : (seed count : ℕ) (r : Result Ran Stop) (x : Result Shown AllocError) → MatchResult r (λ y. made.IsGenerated seed count (made.texts_of seed count) (view_ran y)) (IsStop of_pair (made.texts_of seed count))
    → IfOk x (λ s. IsPairShown r (shown_seen s)) → IfOk x (λ s. Shows of_pair by_lines (made.IsGenerated seed count) ran_both (made.texts_of seed count) (shown_seen s))
made_shows seed count r (Ok s) comes is = made_given seed count r (shown_seen s) comes is
made_shows seed count r (Err wants) comes is = tt

pub made_turns : (seed count : ℕ) (before after : Option (ℕ → Who)) (r : Result Ran Stop) (x : Result Shown AllocError) → made_views.IsWholeRun seed count before after r
    → IfOk x (λ s. IsPairShown r (shown_seen s)) → IfOk x (λ s. Turned (TellsTurns seed count before after s.out.items) before after (report_status s.report))
made_turns seed count before after r (Ok s) whole is = made_turned seed count before after r s whole is
made_turns seed count before after r (Err wants) whole is = tt
