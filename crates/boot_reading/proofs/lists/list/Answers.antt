use Rattle.std.proofs.Common.{map}
use Rattle.std.proofs.lemmas.Result.{err_from_is_err_and}
use Rattle.boot_fields.specs.Reading.{list_at}
use Rattle.boot_reading.proofs.Loop.{starts, no_length, goes_on_by, ends, is_done}
use Rattle.boot_reading.proofs.lists.list.Goals as goal

pub returns-in_err-count : goal.returns-in_err-count
returns-in_err-count g c =
    let p = err_from_is_err_and c.from_residual.result c.from_residual.ensures.1 in
    rw (p.1, p.2) (no_length g.T.Part.part c.args.bytes.now c.in_err-count.field-0.0 c.in_err-count.ensures)

pub loop-init : goal.loop-init
loop-init g c = rw c.new-items.ensures.items (starts g.T.Part.part c.args.bytes.now c.in_ok-count.front.now c.in_ok-count.count c.in_ok-count.ensures)

pub returns-in_err-item : goal.returns-in_err-item
returns-in_err-item g c =
    let p = err_from_is_err_and c.from_residual-in_err-item.result c.from_residual-in_err-item.ensures.1 in
    rw (p.1, p.2) (ends g.T.Part.part c.in_err-item.field-0.0 (map g.T.Part.seen c.loop.items.items) c.in_ok-count.count c.loop.counter c.loop.rest.now (list_at g.T.Part.part c.args.bytes.now) c.loop-test.true c.in_err-item.ensures c.loop.invariant)

pub loop-preserved : goal.loop-preserved
loop-preserved g c =
    goes_on_by g.T.Part.seen g.T.Part.part c.loop.items.items c.push.new.self.items c.in_ok-count.count c.loop.counter c.loop.rest.now c.in_ok-item.item c.in_ok-item.after.now (list_at g.T.Part.part c.args.bytes.now) c.loop-test.true c.in_ok-item.ensures c.in_ok-push.ensures.items c.loop.invariant

pub returns : goal.returns
returns g c = is_done g.T.Part.part (map g.T.Part.seen c.loop.items.items) c.in_ok-count.count c.loop.counter c.loop.rest.now (list_at g.T.Part.part c.args.bytes.now) c.loop-test.false c.loop.invariant
