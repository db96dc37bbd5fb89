-- What texts come to by a command.
use Rattle.std.proofs.Common.{◌≡◌, ◌⊎◌, ℕ, List, [], ◌∷◌, refl, inl, inr}
use Rattle.std.specs.List.{Contains, flat_map}
use Rattle.std.proofs.lemmas.List.Elements.{All-cons, All-contains, All-nil}
use Rattle.host_table.specs.RunHosts.{models_of}
use Rattle.runs.specs.Run.{written}
use Rattle.source_meaning.specs.WholeRun.{whole_run}
use Rattle.typed_tree.specs.TypedTree.{TypedTree}
use Rattle.program_halves.specs.ProgramHalves.{monitor_half, slave_half}
use Rattle.split_text.specs.Texts.{slave_text, monitor_text}
use Rattle.stages.specs.Climb.{HasPassed, IsRefused, Refusal, Stage, Texts, flows, hosts, inputs}
use Rattle.stages.specs.Commands.{Climb, ComesTo, came, refused}
use Rattle.flow_check.specs.Checked.{IsChecked}
use Rattle.flow_check.specs.SlotLines.{slot_line}
use Rattle.program_split.specs.Split.{HalfTexts, IsSplit}
use Rattle.original.specs.Original.{IsOriginal, Ran}
use Rattle.texts_have_outcomes_law.specs.Laws.{ChecksComeToAnOutcome, HasTooManySlots, RunsComeToAnOutcome, SplitsComeToAnOutcome}
use Rattle.texts_have_outcomes_law.proofs.Climbs.{climbs_end, climbs_end_without}
use Rattle.texts_have_outcomes_law.proofs.ShownSlots.{slots_shown}

-- ---- any command whose passed texts come to something

comes_by : {A : Type 0} (ss : List Stage) (is : Texts → A → Type 0) (t : Texts) → ((tree : TypedTree) → HasPassed ss t tree → (x : A) × is t x)
    → ((r : Refusal) × IsRefused ss t r) ⊎ ((tree : TypedTree) × HasPassed ss t tree) → (o : Climb A) × ComesTo ss is t o
comes_by ss is t gives (inl (r, stops)) = (refused r, stops)
comes_by ss is t gives (inr (tree, passed)) = let x = gives tree passed in (came x.0, x.1)

pub comes : {A : Type 0} (ss : List Stage) (is : Texts → A → Type 0) (t : Texts) → ((tree : TypedTree) → HasPassed ss t tree → (x : A) × is t x)
    → ((r : Refusal) × IsRefused ss t r) ⊎ (((tree : TypedTree) × HasPassed ss t tree) ⊎ HasTooManySlots t.program) → ((o : Climb A) × ComesTo ss is t o) ⊎ HasTooManySlots t.program
comes ss is t gives (inl x) = inl (comes_by ss is t gives (inl x))
comes ss is t gives (inr (inl x)) = inl (comes_by ss is t gives (inr x))
comes ss is t gives (inr (inr many)) = inr many

-- ---- checks

pub check_shows : (t : Texts) (tree : TypedTree) → HasPassed (flows ∷ []) t tree → (lines : List ℕ) × IsChecked t lines
check_shows t tree (has, ((a, is), done)) =
    let shown = slots_shown tree a is in
    (flat_map (slot_line tree) shown.0, (tree, has, record { accepted = a; is = is; slots = shown.0; shown = shown.1; lines_are = refl }))

pub checks_come : ChecksComeToAnOutcome
checks_come t = comes (flows ∷ []) IsChecked t (check_shows t) (climbs_end (flows ∷ []) t)

-- ---- splits

pub split_gives : (t : Texts) (tree : TypedTree) → HasPassed (flows ∷ []) t tree → (h : HalfTexts) × IsSplit t h
split_gives t tree (has, ((a, is), done)) = (
  record { slave = slave_text (slave_half tree a); monitor = monitor_text (monitor_half tree a) },
  (tree, has, record { accepted = a; is = is; slave_is = refl; monitor_is = refl }),
)

pub splits_come : SplitsComeToAnOutcome
splits_come t = comes (flows ∷ []) IsSplit t (split_gives t) (climbs_end (flows ∷ []) t)

-- ---- runs

run_gives : (t : Texts) (turns : ℕ) (tree : TypedTree) → HasPassed (hosts ∷ inputs ∷ []) t tree → (r : Ran) × IsOriginal turns t r
run_gives t turns tree (has, ((given, gives), (short, done))) =
    let run = whole_run tree (models_of given.models) t.input turns in (
      record { bytes = written run.events; end = run.end },
      (run, record { tree = tree; hosts = given; read = record { program = has; table = gives }; short = short; is = refl }, refl, refl),
    )

abbrev IsOther : Stage → Type 0
IsOther s = s ≡ flows → ⊥

not_hosts : IsOther hosts
not_hosts e = cc

not_inputs : IsOther inputs
not_inputs e = cc

-- neither of the stages of a run is that of flows
no_flows : Contains (hosts ∷ inputs ∷ []) flows → ⊥
no_flows there = All-contains IsOther (hosts ∷ inputs ∷ []) flows (All-cons IsOther hosts (inputs ∷ []) not_hosts (All-cons IsOther inputs [] not_inputs (All-nil IsOther))) there refl

pub runs_come : RunsComeToAnOutcome
runs_come t turns = comes_by (hosts ∷ inputs ∷ []) (IsOriginal turns) t (run_gives t turns) (climbs_end_without (hosts ∷ inputs ∷ []) t no_flows)
