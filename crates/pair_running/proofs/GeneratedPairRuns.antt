-- What is told of runs that are one.
use Rattle.std.proofs.Common.{◌≡◌, ◌∙◌, ℕ, refl, sym, ap}
use Rattle.typed_tree.specs.TypedTree.{TypedTree}
use Rattle.stages.specs.Climb.{HasPassed, of_pair}
use Rattle.stages.specs.Commands.{AreAlike, Climb, came, refused}
use Rattle.stages.proofs.Commands.{one_climb}
use Rattle.pair_texts.specs.Start.{Texts}
use Rattle.pair_running.specs.LocalPairLocal.{Ran, ran_of}
use Rattle.pair_running.specs.GeneratedPairGenerated.{GeneratedRunsAreTold, IsGenerated, OutcomeIsOne, telling, texts_of, turns}
use Rattle.pair_running.proofs.LocalPairOneOutcome.{run_has_passed, run_is_one}

told_is_one : (seed count : ℕ) (t : Texts) (x y : Ran) → IsGenerated seed count t x → IsGenerated seed count t y → x ≡ y
told_is_one seed count t x y a b = a.2 ∙ ap (telling seed count) (run_is_one turns t a.0 b.0 a.1 b.1) ∙ sym b.2

told_has_passed : (seed count : ℕ) (t : Texts) (x : Ran) → IsGenerated seed count t x → (tree : TypedTree) × HasPassed of_pair t tree
told_has_passed seed count t x is = run_has_passed turns t is.0 is.1

pub told_once : OutcomeIsOne
told_once seed count a b x y = one_climb of_pair (IsGenerated seed count) (told_has_passed seed count) (told_is_one seed count) (texts_of seed count) a b x y

-- what is alike to a run is that run
run_is : (o : Climb Ran) (r : Ran) → AreAlike o (came r) → o ≡ came r
run_is (refused refusal) r alike = absurd alike
run_is (came x) r alike = ap (λ (z : Ran). came z) alike

pub runs_told : GeneratedRunsAreTold
runs_told seed count tree e o x comes =
    run_is o (telling seed count (ran_of tree e))
    (told_once seed count o (came (telling seed count (ran_of tree e))) comes (ran_of tree e, (tree, e, x, refl, refl, refl), refl))
