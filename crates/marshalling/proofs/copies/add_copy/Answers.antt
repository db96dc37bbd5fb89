use Rattle.machine_memory.specs.Memory.{blocks_of}
use Rattle.marshalling.specs.Returns.{is_ranged}
use Rattle.marshalling.proofs.CopyLemmas.{copied_left, copied_took}
use Rattle.marshalling.proofs.copies.add_copy.Goals as goal

pub returns-then-not-has_range : goal.returns-then-not-has_range
returns-then-not-has_range c =
    copied_left (is_ranged c.args.ranges.now) (blocks_of c.args.memory.now) c.args.number c.args.name c.args.blocks.now.items c.has_range.result
    c.has_range.ensures c.if-not-has_range.true

pub returns : goal.returns
returns c =
    copied_took (is_ranged c.args.ranges.now) (blocks_of c.args.memory.now) c.args.number c.args.name c.in_ok-block.block c.args.blocks.now.items _
    c.has_range.result c.has_range.ensures c.if-not-has_range.false c.in_ok-block.ensures c.in_ok-push.ensures.items
