use Rattle.std.proofs.Common.{◌+◌, length, arith}
use Rattle.pt_base.specs.Pieces.{given, left}
use Rattle.pt_base.proofs.PieceLemmas.{piece_at-is, given-more, left-end, next-left, left-more, whole-kept}
use Rattle.pt_base.proofs.pieces.Pieces.next.Goals as goal

pub returns-then-at-len-clause-piece : goal.returns-then-at-len-clause-piece
returns-then-at-len-clause-piece c = grind (arith, left-end)

pub returns-then-at-len-clause-left : goal.returns-then-at-len-clause-left
returns-then-at-len-clause-left c = grind (arith, left-end)

pub returns-then-at-len-clause-end : goal.returns-then-at-len-clause-end
returns-then-at-len-clause-end c = λ none. grind (arith, left-end)

pub part_of-part-requires : goal.part_of-part-requires
part_of-part-requires c = grind (arith, piece_at-is)

pub returns-clause-given : goal.returns-clause-given
returns-clause-given c = grind (arith, piece_at-is, given-more)

pub returns-clause-piece : goal.returns-clause-piece
returns-clause-piece c = grind (arith, piece_at-is, next-left)

pub returns-clause-left : goal.returns-clause-left
returns-clause-left c = grind (arith, piece_at-is, left-more)

pub returns-clause-end : goal.returns-clause-end
returns-clause-end c = λ none. grind (arith, piece_at-is)

pub returns-clause-whole : goal.returns-clause-whole
returns-clause-whole c =
    let pieces = c.args.self.now.pieces.items in
    let at = c.next_place-at.result.0 in
    let from = c.next_place-at.result.1 + length c.part_of-part.result.now in
    whole-kept (given pieces c.args.self.now.at c.args.self.now.from) (given pieces at from) c.in_ok-bytes.bytes.items
    (left pieces c.args.self.now.at c.args.self.now.from) (left pieces at from) (length c.in_ok-bytes.bytes.items)
    (grind (arith, piece_at-is, given-more)) (grind (arith, piece_at-is, next-left)) (grind (arith, piece_at-is, left-more))
