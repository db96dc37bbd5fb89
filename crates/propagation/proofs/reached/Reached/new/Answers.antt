use Rattle.std.proofs.Common.{rules}
use Rattle.propagation.proofs.MarkLemmas.{new_sound, none_marked}
use Rattle.propagation.proofs.reached.Reached.new.Goals as goal

pub invariant_of-result-clause-agreed : goal.invariant_of-result-clause-agreed
invariant_of-result-clause-agreed c = none_marked c.args.slots _ _ (c.in_ok-places.ensures.items_if_clones_equal (λ y k. search rules)) (c.in_ok-marked.ensures.items_if_clones_equal (λ y k. search rules))

pub returns-clause-sound : goal.returns-clause-sound
returns-clause-sound c = λ seeds edges. new_sound seeds edges c.args.slots _ _ (c.in_ok-places.ensures.items_if_clones_equal (λ y k. search rules)) c.in_ok-order.ensures.items
