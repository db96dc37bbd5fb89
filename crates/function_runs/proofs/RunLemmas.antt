-- Runs of neighbours that have each place once.
use Rattle.std.proofs.Common.{◌≡◌, ◌∙◌, ◌+◌, ◌-◌, ℕ, refl, sym, ap, arith, List, [], ◌∷◌, ◌++◌, take, drop, All, append_assoc, append-nil}
use Rattle.std.proofs.Math.Seq.{take-add}
use Rattle.std.proofs.lemmas.List.Elements.{All-take, All-drop}
use Rattle.function_runs.specs.declared.neighbours.Run.{Run}
use Rattle.function_runs.specs.Runs.{covered, part}

covered-append : {X : Type 0} (xs : List X) (js ks : List Run) → covered xs (js ++ ks) ≡ covered xs js ++ covered xs ks
covered-append xs [] ks = refl
covered-append xs (j ∷ js) ks = ap (λ ys. part xs j ++ ys) (covered-append xs js ks) ∙ sym (append_assoc (part xs j) (covered xs js) (covered xs ks))

-- one run more has more of the places
pub covered-more : {X : Type 0} (xs : List X) (js : List Run) (from n : ℕ) → covered xs js ≡ take from xs → covered xs (js ++ record { from = from; to = from + n } ∷ []) ≡ take (from + n) xs
covered-more xs js from n h =
    let e : from + n - from ≡ n = omega arith in
    covered-append xs js (record { from = from; to = from + n } ∷ [])
    ∙ ap (λ ys. covered xs js ++ ys) (append-nil (part xs (record { from = from; to = from + n })))
    ∙ ap (λ ys. ys ++ take (from + n - from) (drop from xs)) h
    ∙ ap (λ k. take from xs ++ take k (drop from xs)) e
    ∙ sym (take-add from n xs)

pub part_all : {X : Type 0} (P : X → Type 0) (xs : List X) (run : Run) → All P xs → All P (part xs run)
part_all P xs run all = All-take P (run.to - run.from) (drop run.from xs) (All-drop P run.from xs all)
