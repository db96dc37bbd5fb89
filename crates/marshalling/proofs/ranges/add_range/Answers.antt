use Rattle.std.proofs.Common.{subst}
use Rattle.marshalling.specs.Ranges.{IsRange}
use Rattle.marshalling.proofs.RangeLemmas.{among_some}
use Rattle.marshalling.proofs.ranges.add_range.Goals as goal

pub returns-in_ok-push : goal.returns-in_ok-push
returns-in_ok-push c = λ crossing is k i.
    let here = subst (λ o. IsRange o crossing) c.in-Some.is is in
    among_some c.args.ranges.now.items _ c.in-Some.range crossing k i c.in_ok-push.ensures.items (here k i)
