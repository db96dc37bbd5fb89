-- Whatever the order of turns, and whatever an honest peer gives, it is as expected.
use Rattle.std.proofs.Common.{◌≡◌, ◌∙◌, ℕ, refl, ap, sym, List}
use Rattle.pt_base.specs.declared.end.End.{End}
use Rattle.wire.specs.declared.message.Message.{Message}
use Rattle.wire.specs.declared.message.ReplyBody.{ReplyBody}
use Rattle.pair_protocol.specs.OrderLaws.{OrdersAgree}
use Rattle.pair_protocol.proofs.OrderLinkFacts.{links_are_whole}
use Rattle.pair_protocol.proofs.OrderTheorems as theorem
use Rattle.pair_protocol.proofs.OrderTheorems.{every_order_ends}
use Rattle.pair_meaning.specs.Monitors.{Monitor}
use Rattle.pair_meaning.specs.Pair.{the_sides}
use Rattle.pair_meaning.specs.Rules.{PeerRule}
use Rattle.pair_meaning.specs.SlaveRun.{Slave, longest, slave_of}
use Rattle.pair_meaning.proofs.Fair.{the_sides_are_fair}
use Rattle.pair_meaning.proofs.Stops.{slaves_stop}
use Rattle.pair_invariant_law.specs.Live.{expected_of}
use Rattle.pair_laws.specs.PairStepsEnds.{HonestPeersAreExpected, IsExpectedOf, ThePairIsExpected}
use Rattle.pair_laws.proofs.PairStepsPair.{the_pair_ends}
use Rattle.pair_laws.proofs.PairStepsServing.{expect}

pub the_pair_is_expected : (Own : Slave → Type 0) → ThePairIsExpected Own
the_pair_is_expected Own calls w b m begins = record {
  runs = λ window answers bytes end whole. is_expected bytes end (agree.alike window answers bytes end whole);
  comes = λ window answers some many. agree.reached (longest b) (slaves_stop b).bound window answers some many;
  links = λ window answers given end left stop leads.
      is_expected _ end (agree.alike window answers _ end (links_are_whole Slave Monitor Message ReplyBody End PeerRule the_sides (slave_of b) m window answers given end left stop leads));
}
  where
    agree : OrdersAgree the_sides (slave_of b) m (expected_of w).bytes (expected_of w).end
    agree =
        let ends = the_pair_ends Own calls w b m begins in
        every_order_ends Slave Monitor Message ReplyBody End PeerRule the_sides (slave_of b) m the_sides_are_fair refl ends.0 (expected_of w).bytes (expected_of w).end ends.1

    is_expected : (bytes : List ℕ) (end : End) → (bytes ≡ (expected_of w).bytes) × (end ≡ (expected_of w).end) → IsExpectedOf w bytes end
    is_expected bytes end same = ap (λ more. expect more (expected_of w).end) (sym same.0) ∙ ap (expect bytes) (sym same.1)

pub honest_peers_are_expected : (Own : Slave → Type 0) → HonestPeersAreExpected Own
honest_peers_are_expected Own calls w b m begins given at_end honest =
    let ends = the_pair_ends Own calls w b m begins in
    theorem.honest_peers_are_expected Slave Monitor Message ReplyBody End PeerRule the_sides (slave_of b) m the_sides_are_fair refl ends.0 (expected_of w).bytes (expected_of w).end ends.1
    (longest b) (slaves_stop b).bound given at_end honest
