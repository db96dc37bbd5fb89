use Rattle.std.proofs.Common.{drop, get_or, length}
use Rattle.std.specs.List.{list_all}
use Rattle.pt_base.proofs.Booleans.{and_true_second}
use Rattle.marshalling.specs.Crossings.{crossing_by, is_secret}
use Rattle.marshalling.specs.Leaves.{is_pointee, name_earlier}
use Rattle.marshalling.proofs.Lists.{all_at, self_read}
use Rattle.marshalling.proofs.RangeLemmas.{no_arg, no_param, ranges_end, ranges_more, same_crossings}
use Rattle.marshalling.proofs.ranges.ranges_of.Goals as goal

pub returns-then-i-args : goal.returns-then-i-args
returns-then-i-args c =
    same_crossings _ _ (λ k n. ranges_end c.args.structs.now (drop c.loop-i.i c.args.params.now) c.args.args.now c.loop-i.i
    c.loop-i.ranges.items k n _ c.if-i-args.true (c.loop-i.invariant k n))

pub range_of-requires-clause-known : goal.range_of-requires-clause-known
range_of-requires-clause-known c =
    all_at (λ p. is_pointee (length c.args.structs.now) p.kind) c.args.params.now c.loop-i.i (get_or c.args.params.now c.loop-i.i no_param)
    (and_true_second (name_earlier 0 c.args.structs.now) (list_all (λ p. is_pointee (length c.args.structs.now) p.kind) c.args.params.now) c.requires)
    c.loop-i-test.true
    (self_read c.args.params.now c.loop-i.i no_param c.loop-i-test.true)

pub loop-i-preserved : goal.loop-i-preserved
loop-i-preserved c = λ k n.
    let p = get_or c.args.params.now c.loop-i.i no_param in
    let a = get_or c.args.args.now c.loop-i.i no_arg in
    ranges_more c.args.structs.now c.args.params.now c.args.args.now c.loop-i.i p a c.loop-i.ranges.items _ k n _ c.loop-i-test.true c.if-i-args.false
    (self_read c.args.params.now c.loop-i.i no_param c.loop-i-test.true) (self_read c.args.args.now c.loop-i.i no_arg c.if-i-args.false)
    (c.in_ok-add_range.ensures (crossing_by c.args.structs.now (is_secret p) p.kind a) c.in_ok-range.ensures k n) (c.loop-i.invariant k n)
