use Rattle.std.proofs.Common.{◌∙◌, [], ap, append-nil, map, sym}
use Rattle.machine_memory.specs.Memory.{blocks_of}
use Rattle.marshalling.specs.Ranges.{crossing_among}
use Rattle.marshalling.specs.Replies.{places_of}
use Rattle.marshalling.specs.Taking.{are_sent}
use Rattle.marshalling.proofs.WalkLemmas.{at_end}
use Rattle.marshalling.proofs.reply_shape.cells_fit.Goals as goal

pub returns-in-Some : goal.returns-in-Some
returns-in-Some c =
    let places = places_of (crossing_among c.args.ranges.now) 0 (map (λ name. (blocks_of c.args.memory.now name).types) c.args.names.now) in
    sym (at_end c.in-Some.walk.next c.args.cells.now c.in-Some.walk.at) ∙ sym (c.in-Some.ensures [])
    ∙ ap (λ ps. are_sent c.args.handle ps c.args.cells.now) (append-nil places)

pub returns-in-None : goal.returns-in-None
returns-in-None c =
    let places = places_of (crossing_among c.args.ranges.now) 0 (map (λ name. (blocks_of c.args.memory.now name).types) c.args.names.now) in
    sym (c.in-None.ensures []) ∙ ap (λ ps. are_sent c.args.handle ps c.args.cells.now) (append-nil places)
