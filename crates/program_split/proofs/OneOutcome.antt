-- Texts come to one outcome at most, but for the ways that their faults show.
use Rattle.std.proofs.Common.{◌≡◌, ◌∙◌, [], ◌∷◌, ap, sym, subst}
use Rattle.typed_tree.specs.TypedTree.{TypedTree}
use Rattle.lowering.specs.Functions.{functions_from}
use Rattle.splitter.specs.Halves.{Halves, halves_of, slave_of, monitor_of}
use Rattle.split_text.specs.Texts.{slave_text, monitor_text}
use Rattle.program_halves.proofs.OneHalves.{same_halves}
use Rattle.stages.specs.Climb.{HasPassed, Texts, flows}
use Rattle.stages.proofs.Commands.{one_climb}
use Rattle.stages.proofs.OneRefusal.{tree_is_one}
use Rattle.program_split.specs.Split.{HalfTexts, HasHalves, IsSplit}
use Rattle.program_split.specs.Laws.{OutcomeIsOne}

same_texts : (t : TypedTree) (x y : HalfTexts) → HasHalves t x.slave x.monitor → HasHalves t y.slave y.monitor → x ≡ y
same_texts t x y a b =
    let same : halves_of a.accepted.sides ≡ halves_of b.accepted.sides = same_halves t a.accepted.sides b.accepted.sides a.is.sides b.is.sides in
    let slaves : x.slave ≡ y.slave = a.slave_is ∙ ap (λ (h : Halves). slave_text (slave_of t h (functions_from t 0 t.functions))) same ∙ sym b.slave_is in
    let monitors : x.monitor ≡ y.monitor = a.monitor_is ∙ ap (λ (h : Halves). monitor_text (monitor_of t h (functions_from t 0 t.functions))) same ∙ sym b.monitor_is in
    λ i. record { slave = slaves i; monitor = monitors i }

pub split_is_one : (t : Texts) (x y : HalfTexts) → IsSplit t x → IsSplit t y → x ≡ y
split_is_one t x y is is' =
    let trees : is'.0 ≡ is.0 = tree_is_one t.program is'.0 is.0 is'.1 is.1 in
    same_texts is.0 x y is.2 (subst (λ (z : TypedTree). HasHalves z y.slave y.monitor) trees is'.2)

-- what is split has passed
pub split_has_passed : (t : Texts) (x : HalfTexts) → IsSplit t x → (tree : TypedTree) × HasPassed (flows ∷ []) t tree
split_has_passed t x is = (is.0, (is.1, ((is.2.accepted, is.2.is), tt {0})))

pub outcome_is_one : OutcomeIsOne
outcome_is_one = one_climb (flows ∷ []) IsSplit split_has_passed split_is_one
