-- Texts with several inputs come to one outcome at most, but for the ways that their faults show.
use Rattle.std.proofs.Common.{◌≡◌, ◌≤◌, ℕ, zero, suc, List, [], ◌∷◌, Some, length, refl, ap, subst, arith}
use Rattle.std.specs.Prelude.{slice_get}
use Rattle.stages.specs.Climb.{Refusal, of_pair}
use Rattle.stages.specs.Commands.{came, refused}
use Rattle.stages.proofs.OneRefusal.{passed_unrefused}
use Rattle.pair_texts.specs.Several.{IsOneRefused, SharedTexts, with_input}
use Rattle.pair_texts.proofs.SharedLemmas.{one_refused}
use Rattle.pair_running.specs.LocalPairLocal.{IsPairRun, Ran}
use Rattle.pair_running.specs.ServedPairsServed.{AreRan, IsServed, OutcomeIsOne, Served, Session, ran_by}
use Rattle.pair_running.proofs.LocalPairOneOutcome.{run_has_passed, run_is_one}

-- ---- a refusal isn't served

ran_at : (t : SharedTexts) (turns : ℕ) (names inputs : List (List ℕ)) (xs : List Session) (place : ℕ) (input : List ℕ) → AreRan t turns names inputs xs → slice_get inputs place ≡ Some input
    → (r : Ran) × IsPairRun turns (with_input t input) r
ran_at t turns names [] xs place input ran at = cc
ran_at t turns names (i ∷ is) [] place input ran at = absurd ran
ran_at t turns names (i ∷ is) (x ∷ xs) zero input ran at = (ran_by names x, subst (λ (bytes : List ℕ). IsPairRun turns (with_input t bytes) (ran_by names x)) (same i input at) ran.0)
  where
    same : (a b : List ℕ) → Some a ≡ Some b → a ≡ b
    same a b e = cc
ran_at t turns names (i ∷ is) (x ∷ xs) (suc place) input ran at = ran_at t turns names is xs place input ran.1 at

not_both : (t : SharedTexts) (inputs : List (List ℕ)) (turns : ℕ) (r : Refusal) (v : Served) → IsOneRefused t inputs r → IsServed t inputs turns v → ⊥
not_both t inputs turns r v (place, input, at, stops) served =
    let run = ran_at t turns v.names inputs v.sessions place input served.ran at in
    let passed = run_has_passed turns (with_input t input) run.0 run.1 in
    passed_unrefused of_pair (with_input t input) passed.0 r passed.1 stops

-- ---- sessions are one

session_is : (names names' : List (List ℕ)) (x y : Session) → ran_by names x ≡ ran_by names' y → x ≡ y
session_is names names' x y same = λ k. record { bytes = (same k).bytes; end = (same k).end }

sessions_are : (t : SharedTexts) (turns : ℕ) (names names' inputs : List (List ℕ)) (xs ys : List Session) → AreRan t turns names inputs xs → AreRan t turns names' inputs ys → xs ≡ ys
sessions_are t turns names names' [] [] [] a b = refl
sessions_are t turns names names' [] [] (y ∷ ys) a b = absurd b
sessions_are t turns names names' [] (x ∷ xs) ys a b = absurd a
sessions_are t turns names names' (i ∷ is) [] ys a b = absurd a
sessions_are t turns names names' (i ∷ is) (x ∷ xs) [] a b = absurd b
sessions_are t turns names names' (i ∷ is) (x ∷ xs) (y ∷ ys) a b =
    let first = session_is names names' x y (run_is_one turns (with_input t i) (ran_by names x) (ran_by names' y) a.0 b.0) in
    let others = sessions_are t turns names names' is xs ys a.1 b.1 in
    λ k. first k ∷ others k

names_are : (t : SharedTexts) (turns : ℕ) (names names' inputs : List (List ℕ)) (xs ys : List Session) → 1 ≤ length inputs → AreRan t turns names inputs xs → AreRan t turns names' inputs ys → names ≡ names'
names_are t turns names names' [] xs ys some a b = absurd (omega (arith, some))
names_are t turns names names' (i ∷ is) [] ys some a b = absurd a
names_are t turns names names' (i ∷ is) (x ∷ xs) [] some a b = absurd b
names_are t turns names names' (i ∷ is) (x ∷ xs) (y ∷ ys) some a b =
    ap (λ (r : Ran). r.names) (run_is_one turns (with_input t i) (ran_by names x) (ran_by names' y) a.0 b.0)

pub served_is_one : (t : SharedTexts) (inputs : List (List ℕ)) (turns : ℕ) (v w : Served) → IsServed t inputs turns v → IsServed t inputs turns w → v ≡ w
served_is_one t inputs turns v w a b =
    let sessions = sessions_are t turns v.names w.names inputs v.sessions w.sessions a.ran b.ran in
    let names = names_are t turns v.names w.names inputs v.sessions w.sessions a.some a.ran b.ran in
    λ k. record { sessions = sessions k; names = names k }

pub outcome_is_one : OutcomeIsOne
outcome_is_one t inputs turns (refused r) (refused s) a b = one_refused t inputs r s a b
outcome_is_one t inputs turns (refused r) (came w) a b = not_both t inputs turns r w a b
outcome_is_one t inputs turns (came v) (refused s) a b = not_both t inputs turns s v b a
outcome_is_one t inputs turns (came v) (came w) a b = served_is_one t inputs turns v w a b
