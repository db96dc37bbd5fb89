use Rattle.std.proofs.Common.{refl}
use Rattle.pair_running.proofs.ServedPairsHearing.{heard_end, heard_reply, may_hear_reply, never_bad}
use Rattle.pair_running.proofs.served_pairs.turning.hear.Goals as goal

pub answer-requires : goal.answer-requires
answer-requires c =
    let so = c.requires.3 in
    (c.requires.0, so.slave, may_hear_reply c.args.talk.now c.requires.0 c.requires.1 c.requires.2 c.args.handled c.in-GoesOn.reply c.in-GoesOn.is so)

pub returns-in_ok-answer-in-GoesOn : goal.returns-in_ok-answer-in-GoesOn
returns-in_ok-answer-in-GoesOn c = λ to written v so.
    heard_reply c.args.talk.now _ to written v c.args.handled c.in-GoesOn.reply c.in-GoesOn.is so refl refl refl (c.in_ok-answer-in-GoesOn.ensures to so.slave)

pub returns-in-Ended : goal.returns-in-Ended
returns-in-Ended c = λ to written v so. heard_end c.args.talk.now _ to written v c.args.handled c.in-Ended.end c.in-Ended.is so refl refl refl

pub unreachable-requires : goal.unreachable-requires
unreachable-requires c = never_bad c.args.talk.now c.requires.0 c.requires.1 c.requires.2 c.args.handled c.in-Bad.field-0 c.in-Bad.is c.requires.3
