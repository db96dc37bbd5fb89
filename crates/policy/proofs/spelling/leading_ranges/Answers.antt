use Rattle.policy.specs.Lines.{words_of}
use Rattle.policy.specs.Reading.{ranges_of}
use Rattle.policy.proofs.RangesLemmas.{ranges_more}
use Rattle.policy.proofs.spelling.leading_ranges.Goals as goal

pub loop-range-preserved : goal.loop-range-preserved
loop-range-preserved c =
    let more =
    ranges_more (ranges_of (words_of c.args.line.now)) (words_of c.loop-range.rest.now) (words_of c.in-Some.others.now) c.in-Some.range c.loop-range.ranges.items c.push.new.self.items
    c.in-Some.ensures.range c.in_ok-push.ensures.items c.loop-range.invariant.ranges c.loop-range.invariant.others in
    record { ranges = more.0; others = more.1 }
