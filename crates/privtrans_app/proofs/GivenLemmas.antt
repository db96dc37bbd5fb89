-- What is expected of a pair is what is seen.
use Rattle.std.proofs.Common.{◌≡◌, ◌∙◌, ◌≤◌, ℕ, List, [], ◌∷◌, length, map, refl, ap, inl, inr}
use Rattle.runs.specs.Run.{Expected}
use Rattle.typed_tree.specs.TypedTree.{TypedTree}
use Rattle.front_end.specs.FaultLinesSeen.{Seen}
use Rattle.stages.specs.Climb.{Texts, of_pair}
use Rattle.stages.specs.Commands.{came, refused}
use Rattle.stages.proofs.OneRefusal.{passed_unrefused}
use Rattle.pair_running.specs.LocalPairLocal.{IsExpected, IsPairRun, ran_of}
use Rattle.pair_running.specs.GeneratedPairGenerated as made
use Rattle.pair_running.specs.ServedPairsServed.{AreExpected, AreRan, session_of}
use Rattle.pair_running.proofs.LocalPairOneOutcome.{run_has_passed, run_is_one}
use Rattle.pair_running.proofs.ServedPairsOneOutcome as sessions
use Rattle.pair_texts.specs.Several.{SharedTexts}
use Rattle.pair_texts.specs.Start.{names_of}
use Rattle.privtrans_app.specs.Gives.{Shows, by_lines, generated_of, ran_both, shown_of}
use Rattle.privtrans_app.specs.Sessions.{ServesAll, served_of, served_seen}

-- this is seen of the run of both halves of these texts
abbrev pub IsPairSeen : Texts → ℕ → Seen → Type 0
IsPairSeen t turns s = Shows of_pair by_lines (IsPairRun turns) ran_both t s

-- this is seen of the run of a generated program
abbrev pub IsMadeSeen : ℕ → ℕ → Seen → Type 0
IsMadeSeen seed count s = Shows of_pair by_lines (made.IsGenerated seed count) ran_both (made.texts_of seed count) s

module _ (t : Texts) (turns : ℕ) (tree : TypedTree) (e : Expected) (is : IsExpected t turns tree e) where
  runs : IsPairRun turns t (ran_of tree e)
  runs = (tree, e, is, refl, refl, refl)

  pub expected_seen : (s : Seen) → IsPairSeen t turns s → s ≡ shown_of tree e
  expected_seen s (inl (r, report, stops, lines, shown)) = let h = run_has_passed turns t (ran_of tree e) runs in absurd (passed_unrefused of_pair t h.0 r h.1 stops)
  expected_seen s (inr (r, run, shown)) = shown ∙ ap ran_both (run_is_one turns t r (ran_of tree e) run runs)

pub generated_seen : (seed count : ℕ) (tree : TypedTree) (e : Expected) (s : Seen) → IsExpected (made.texts_of seed count) made.turns tree e → IsMadeSeen seed count s → s ≡ generated_of seed count tree e
generated_seen seed count tree e s is (inl (r, report, stops, lines, shown)) =
    let h = run_has_passed made.turns (made.texts_of seed count) (ran_of tree e) (tree, e, is, refl, refl, refl) in
    absurd (passed_unrefused of_pair (made.texts_of seed count) h.0 r h.1 stops)
generated_seen seed count tree e s is (inr (r, (run, is_run, same), shown)) =
    shown ∙ ap ran_both (same ∙ ap (made.telling seed count) (run_is_one made.turns (made.texts_of seed count) run (ran_of tree e) is_run (tree, e, is, refl, refl, refl)))

-- ---- sessions

expected_ran : (t : SharedTexts) (turns : ℕ) (tree : TypedTree) (all : List (List ℕ)) (es : List Expected) → AreExpected t turns tree all es → AreRan t turns (names_of tree) all (map session_of es)
expected_ran t turns tree [] [] x = x
expected_ran t turns tree [] (e ∷ es) x = absurd x
expected_ran t turns tree (bytes ∷ all) [] x = absurd x
expected_ran t turns tree (bytes ∷ all) (e ∷ es) x = ((tree, e, x.0, refl, refl, refl), expected_ran t turns tree all es x.1)

-- of at least one input, what is expected is seen
pub sessions_seen : (t : SharedTexts) (turns : ℕ) (tree : TypedTree) (all : List (List ℕ)) (es : List Expected) (s : Seen) → 1 ≤ length all → AreExpected t turns tree all es → ServesAll t all turns s → s ≡ served_of tree es
sessions_seen t turns tree all es s some x (inl (r, stops, shown)) =
    absurd (sessions.outcome_is_one t all turns (refused r) (came (record { sessions = map session_of es; names = names_of tree })) stops (record { some = some; ran = expected_ran t turns tree all es x }))
sessions_seen t turns tree all es s some x (inr (v, it, seen)) =
    seen ∙ ap served_seen (sessions.served_is_one t all turns v (record { sessions = map session_of es; names = names_of tree }) it (record { some = some; ran = expected_ran t turns tree all es x }))
