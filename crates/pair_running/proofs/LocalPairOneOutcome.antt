-- Texts come to one outcome at most, but for the ways that their faults show.
use Rattle.std.proofs.Common.{◌≡◌, ◌∙◌, ℕ, sym, ap}
use Rattle.runs.specs.Run.{Expected}
use Rattle.typed_tree.specs.TypedTree.{TypedTree}
use Rattle.policy.specs.Verdicts.{start}
use Rattle.stages.specs.Climb.{HasPassed, of_pair}
use Rattle.stages.proofs.Commands.{one_climb}
use Rattle.pair_laws.specs.BegunPairsLaws.{expected_of}
use Rattle.pair_texts.specs.Start.{Texts, names_of}
use Rattle.pair_texts.proofs.OneOutcome.{AreOne, read_is_one}
use Rattle.pair_running.specs.LocalPairLocal.{IsExpected, IsPairRun, OutcomeIsOne, Ran}

-- what is expected is one, of one tree
record IsOne (tree tree' : TypedTree) (e e' : Expected) : Type 0 where
  trees : tree ≡ tree'
  expected : e ≡ e'

expected_is_one : (t : Texts) (turns : ℕ) (tree tree' : TypedTree) (e e' : Expected) → IsExpected t turns tree e → IsExpected t turns tree' e' → IsOne tree tree' e e'
expected_is_one t turns tree tree' e e' x y =
    let one : AreOne tree tree' x.hosts y.hosts x.rules y.rules = read_is_one t tree tree' x.hosts y.hosts x.rules y.rules x.read y.read in
    record { trees = one.trees; expected = x.expected_is ∙ (λ i. expected_of (one.trees i) (start (one.policies i)) (one.tables i) t.input turns) ∙ sym y.expected_is }

pub run_is_one : (turns : ℕ) (t : Texts) (a b : Ran) → IsPairRun turns t a → IsPairRun turns t b → a ≡ b
run_is_one turns t a b x y =
    let one : IsOne x.0 y.0 x.1 y.1 = expected_is_one t turns x.0 y.0 x.1 y.1 x.2 y.2 in
    let bytes : a.bytes ≡ b.bytes = x.3 ∙ ap (λ (e : Expected). e.bytes) one.expected ∙ sym y.3 in
    let names : a.names ≡ b.names = x.4 ∙ ap names_of one.trees ∙ sym y.4 in
    let ends : a.end ≡ b.end = x.5 ∙ ap (λ (e : Expected). e.end) one.expected ∙ sym y.5 in
    λ i. record { bytes = bytes i; names = names i; end = ends i }

-- what runs has passed
pub run_has_passed : (turns : ℕ) (t : Texts) (r : Ran) → IsPairRun turns t r → (tree : TypedTree) × HasPassed of_pair t tree
run_has_passed turns t r is =
    let x = is.2 in
    (is.0, (x.read.program, ((x.hosts, x.read.table), ((x.rules, x.read.policy), ((x.accepted, x.is), (x.short, tt {0}))))))

pub outcome_is_one : OutcomeIsOne
outcome_is_one t turns a b x y = one_climb of_pair (IsPairRun turns) (run_has_passed turns) (run_is_one turns) t a b x y
