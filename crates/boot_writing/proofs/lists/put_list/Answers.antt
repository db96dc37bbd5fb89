use Rattle.std.proofs.Common.{map}
use Rattle.boot_writing.proofs.TreeLists.{putting_by}
use Rattle.boot_writing.proofs.lists.put_list.Goals as goal

pub loop-item-preserved : goal.loop-item-preserved
loop-item-preserved g c =
    putting_by g.T.Spelled.seen g.T.Spelled.spelling g.T.Spelled.Fits (map g.T.Spelled.seen c.args.items.now) c.args.items.now c.loop-item.item-index c.item-item.result _ c.loop-item.out.items c.put.new.out.items c.loop-item-test.true c.item-item.is c.loop-item.invariant c.in_ok-put.ensures.bytes c.in_ok-put.ensures.fits
