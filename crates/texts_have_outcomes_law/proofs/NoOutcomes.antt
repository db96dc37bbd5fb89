-- A program of too many slots comes to no outcome: it has no sides.
use Rattle.std.proofs.Common.{◌≡◌, ◌<◌, ◌≤◌, ◌^◌, ℕ, List, [], ◌∷◌, length, subst, arith, inl, inr}
use Rattle.typed_tree.specs.TypedTree.{TypedTree}
use Rattle.front_end.specs.Reading.{HasTypedTree, Reading, typed_tree, lex_fault, parse_fault, type_faults_of, ComesTo as ReadsAs}
use Rattle.front_end.proofs.OneReading.{reading_is_one}
use Rattle.sides.specs.declared.halves.Sides.{Sides}
use Rattle.sides.specs.Placed.{AreSides}
use Rattle.sides.specs.Slots.{slots_of}
use Rattle.flow_law.proofs.SlotsAllSides.{sides_few}
use Rattle.stages.specs.Climb.{HasPassed, IsRefused, IsUnread, Refusal, Stage, StopsAt, Texts, flow, flows, host, input, lex, parse, policy, types}
use Rattle.stages.specs.Commands.{Climb, ComesTo, came, refused}
use Rattle.flow_check.specs.Checked.{IsChecked}
use Rattle.program_split.specs.Split.{HalfTexts, IsSplit}
use Rattle.texts_have_outcomes_law.specs.Laws.{HasTooManySlots, TooManySlotsHaveNoOutcome, TooManySlotsStopNothing}

module _ (text : List ℕ) (many : HasTooManySlots text) where
  pub no_sides : (tree : TypedTree) → HasTypedTree text tree → (s : Sides) → AreSides tree s → ⊥
  no_sides tree has s are =
      let same : typed_tree tree ≡ typed_tree many.0 = reading_is_one text (typed_tree tree) (typed_tree many.0) has many.1 in
      let one : tree ≡ many.0 = cc in
      let few : length (slots_of many.0) ≤ 2 ^ 25 = subst (λ (x : TypedTree). length (slots_of x) ≤ 2 ^ 25) one (sides_few tree s are) in
      let more : 2 ^ 25 < length (slots_of many.0) = many.2 in
      omega (arith, few, more)

  only_tree : (r : Reading) → ReadsAs text r → typed_tree many.0 ≡ r
  only_tree r is = reading_is_one text (typed_tree many.0) r many.1 is

  pub is_read : (r : Refusal) → IsUnread text r → ⊥
  is_read (lex fault) is = let same : typed_tree many.0 ≡ lex_fault fault = only_tree (lex_fault fault) is in cc
  is_read (parse fault) is = let same : typed_tree many.0 ≡ parse_fault fault = only_tree (parse_fault fault) is in cc
  is_read (types faults) is = let same : typed_tree many.0 ≡ type_faults_of faults = only_tree (type_faults_of faults) is in cc
  is_read (host tree faults) is = absurd is
  is_read (policy fault) is = absurd is
  is_read (flow tree faults) is = absurd is
  is_read input is = absurd is

module _ (ss : List Stage) (t : Texts) (many : HasTooManySlots t.program) where
  no_stop : (tree : TypedTree) (r : Refusal) → HasTypedTree t.program tree → StopsAt (flows ∷ ss) t tree r → ⊥
  no_stop tree r has (inl fails) = no_sides t.program many tree has fails.1.sides fails.1.placed
  no_stop tree r has (inr (passes, stops)) = no_sides t.program many tree has passes.0.sides passes.1.sides

  pub not_refused : (r : Refusal) → IsRefused (flows ∷ ss) t r → ⊥
  not_refused r (inl unread) = is_read t.program many r unread
  not_refused r (inr (tree, has, stops)) = no_stop tree r has stops

  pub not_passed : (tree : TypedTree) → HasPassed (flows ∷ ss) t tree → ⊥
  not_passed tree (has, ((accepted, is), rest)) = no_sides t.program many tree has accepted.sides is.sides

pub nothing_stops : TooManySlotsStopNothing
nothing_stops ss t many = (not_refused ss t many, not_passed ss t many)

no_check : (t : Texts) → HasTooManySlots t.program → (o : Climb (List ℕ)) → ComesTo (flows ∷ []) IsChecked t o → ⊥
no_check t many (refused r) is = not_refused [] t many r is
no_check t many (came lines) is = no_sides t.program many is.0 is.1 is.2.accepted.sides is.2.is.sides

no_split : (t : Texts) → HasTooManySlots t.program → (o : Climb HalfTexts) → ComesTo (flows ∷ []) IsSplit t o → ⊥
no_split t many (refused r) is = not_refused [] t many r is
no_split t many (came texts) is = no_sides t.program many is.0 is.1 is.2.accepted.sides is.2.is.sides

pub none_come : TooManySlotsHaveNoOutcome
none_come t many = (no_check t many, no_split t many)
