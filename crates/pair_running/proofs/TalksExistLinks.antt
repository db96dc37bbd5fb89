-- Each pair that begins has an honest link.
use Rattle.std.proofs.Common.{◌≡◌, ◌∙◌, ℕ, List, [], ◌++◌, refl, sym, ap, subst, append-nil}
use Rattle.pt_base.specs.Talk.{Event}
use Rattle.boot_fields.specs.Limits.{Spells}
use Rattle.pt_core.specs.CodeTree.{BootTree}
use Rattle.pair_meaning.specs.Monitors.{Monitor}
use Rattle.pair_meaning.specs.Peer.{is_form, says}
use Rattle.pair_runner.specs.Sending.{boot_talk, given_in, sent_in}
use Rattle.stages.specs.Commands.{came}
use Rattle.pair_texts.specs.Laws.{OutcomeIsOne}
use Rattle.pair_texts.specs.Start.{AreStarted, Begun, Texts}
use Rattle.pair_running.specs.TalksExistLaws.{BegunPairsHaveTalks}
use Rattle.pair_running.specs.TalksExistLinks.{BegunPairsHaveHonestLinks}
use Rattle.pair_running.specs.TalksExistPlanned.{is_honest, planned}

one_spelling : (b : BootTree) (x y : List ℕ) → Spells b x → Spells b y → x ≡ y
unfolding Spells
one_spelling b x y h k = h.1 ∙ sym k.1

one_boot : OutcomeIsOne → (t : Texts) (turns : ℕ) (boot other : BootTree) (monitor rival : Monitor) → AreStarted t turns boot monitor → AreStarted t turns other rival → boot ≡ other
one_boot one t turns boot other monitor rival is is' =
    ap (λ (b : Begun). b.boot) (one t turns (came (record { boot = boot; monitor = monitor })) (came (record { boot = other; monitor = rival })) is is')

pub honest_links : BegunPairsHaveTalks → OutcomeIsOne → BegunPairsHaveHonestLinks
honest_links talks one t turns boot monitor b own bytes input small are spells =
    let has = talks t turns boot monitor b own bytes input small are spells (λ place. 0) in
    let whole : List Event = boot_talk bytes ++ has.talk in
    record {
      talk = has.talk;
      served = has.served;
      after = record { sent = sent_in whole; given = given_in whole; left = [] };
      honest = record {
        none_sent = refl;
        none_given = refl;
        is_honest = λ other rival spelling started spelled.
            let same = one_boot one t turns boot other monitor rival b.started started in
            subst (λ (x : BootTree). is_honest (planned whole) (says x) (is_form spelling x)) same
            (subst (λ (l : List ℕ). is_honest (planned whole) (says boot) (is_form l boot)) (one_spelling boot bytes spelling spells (subst (λ (x : BootTree). Spells x spelling) (sym same) spelled)) has.honest);
      };
      came = record { left = sym (append-nil whole); sent = refl; given = refl };
      serves = has.serves;
      stops = has.stops;
      writes = has.writes;
    }
