-- A text comes to one outcome at most, but for the ways that its faults show, and to what its first bytes come to.
use Rattle.std.proofs.Common.{◌≡◌, ◌∙◌, ℕ, refl, ap, sym, subst, List, [], ◌∷◌, Less}
use Rattle.std.specs.List.{flat_map}
use Rattle.std.proofs.lemmas.List.{map-id}
use Rattle.std.proofs.lemmas.Map.Keys.{Less-from_sorted}
use Rattle.sides.proofs.OneList.{one_list}
use Rattle.sides.specs.declared.halves.Sides.{Sides}
use Rattle.sides.specs.Placed.{AreSides}
use Rattle.typed_tree.specs.TypedTree.{TypedTree}
use Rattle.flow_rules.proofs.OneJudgement.{same_priv}
use Rattle.stages.specs.Climb.{HasPassed, Texts, flows}
use Rattle.stages.specs.Commands.{AreCut}
use Rattle.stages.proofs.Commands.{one_climb, whole_climb}
use Rattle.stages.proofs.Cuts.{tree_whole}
use Rattle.stages.proofs.OneFaults.{less_once}
use Rattle.stages.proofs.OneRefusal.{tree_is_one}
use Rattle.flow_check.specs.Checked.{HasSlotLines, IsChecked}
use Rattle.flow_check.specs.Laws.{FirstBytesAreEnough, OutcomeIsOne}
use Rattle.flow_check.specs.Shown.{AreShown, IsShown, shown_cmp}
use Rattle.flow_check.specs.SlotLines.{slot_line}
use Rattle.flow_check.proofs.ShownLemmas.{shown_total}

-- ---- lines of slots

shown_there : (t : TypedTree) (s s' : Sides) → AreSides t s → AreSides t s' → (n : ℕ) → IsShown t s n → IsShown t s' n
shown_there t s s' are are' n shown = record { within = shown.within; slaves = shown.slaves; privileged = same_priv t s s' are are' n shown.privileged }

same_slots : (t : TypedTree) (s s' : Sides) (xs ys : List ℕ) → AreSides t s → AreSides t s' → AreShown t s xs → AreShown t s' ys → xs ≡ ys
same_slots t s s' xs ys are are' a b =
    sym (map-id xs)
    ∙ one_list (λ (n : ℕ). n) (λ m n. shown_cmp t m n ≡ Less) (less_once (shown_cmp t) (shown_total t)) xs ys
    (λ i j d lt within. Less-from_sorted (shown_cmp t) xs i j d a.sorted lt within) (λ i j d lt within. Less-from_sorted (shown_cmp t) ys i j d b.sorted lt within)
    (λ n h. (n, (b.same n).1 (shown_there t s s' are are' n ((a.same n).0 h)), refl)) (λ n h. (n, (a.same n).1 (shown_there t s' s are' are n ((b.same n).0 h)), refl))
    ∙ map-id ys

same_lines : (t : TypedTree) (lines lines' : List ℕ) → HasSlotLines t lines → HasSlotLines t lines' → lines ≡ lines'
same_lines t lines lines' a b =
    a.lines_are ∙ ap (flat_map (slot_line t)) (same_slots t a.accepted.sides b.accepted.sides a.slots b.slots a.is.sides b.is.sides a.shown b.shown) ∙ sym b.lines_are

-- ---- texts

pub checked_passed : (t : Texts) (lines : List ℕ) → IsChecked t lines → (tree : TypedTree) × HasPassed (flows ∷ []) t tree
checked_passed t lines is = (is.0, (is.1, ((is.2.accepted, is.2.is), tt)))

one_checked : (t : Texts) (lines lines' : List ℕ) → IsChecked t lines → IsChecked t lines' → lines ≡ lines'
one_checked t lines lines' a b =
    same_lines a.0 lines lines' a.2 (subst (λ (tree : TypedTree). HasSlotLines tree lines') (tree_is_one t.program b.0 a.0 b.1 a.1) b.2)

pub outcome_is_one : OutcomeIsOne
outcome_is_one = one_climb (flows ∷ []) IsChecked checked_passed one_checked

checked_whole : (whole cut : Texts) (lines : List ℕ) → AreCut whole cut → IsChecked cut lines → IsChecked whole lines
checked_whole whole cut lines are is = (is.0, tree_whole whole.program cut.program is.0 are.program is.1, is.2)

pub cut_whole : FirstBytesAreEnough
cut_whole = whole_climb (flows ∷ []) IsChecked checked_whole
