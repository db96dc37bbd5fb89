-- What texts come to by a command is one, and is what their first bytes come to.
use Rattle.std.proofs.Common.{◌≡◌, List}
use Rattle.typed_tree.specs.TypedTree.{TypedTree}
use Rattle.stages.specs.Climb.{HasPassed, Stage, Texts}
use Rattle.stages.specs.Commands.{AreAlike, AreCut, Climb, ComesTo, came, refused}
use Rattle.stages.proofs.Cuts.{first_bytes}
use Rattle.stages.proofs.OneRefusal.{one_refusal, passed_unrefused}

-- where results are of texts that pass, and are one
pub one_climb : {A : Type 0} (ss : List Stage) (is : Texts → A → Type 0)
    → ((t : Texts) (x : A) → is t x → (tree : TypedTree) × HasPassed ss t tree) → ((t : Texts) (x y : A) → is t x → is t y → x ≡ y)
    → (t : Texts) (a b : Climb A) → ComesTo ss is t a → ComesTo ss is t b → AreAlike a b
one_climb ss is passed one t (refused r) (refused s) p q = one_refusal ss t r s p q
one_climb ss is passed one t (refused r) (came y) p q = let h = passed t y q in passed_unrefused ss t h.0 r h.1 p
one_climb ss is passed one t (came x) (refused s) p q = let h = passed t x p in passed_unrefused ss t h.0 s h.1 q
one_climb ss is passed one t (came x) (came y) p q = one t x y p q

-- where results of first bytes are those of the whole
pub whole_climb : {A : Type 0} (ss : List Stage) (is : Texts → A → Type 0) → ((whole cut : Texts) (x : A) → AreCut whole cut → is cut x → is whole x)
    → (whole cut : Texts) (o : Climb A) → AreCut whole cut → ComesTo ss is cut o → ComesTo ss is whole o
whole_climb ss is results whole cut (refused r) are p = (first_bytes ss whole cut are).0 r p
whole_climb ss is results whole cut (came x) are p = results whole cut x are p
