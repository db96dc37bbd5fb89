use Rattle.std.proofs.Common.{◌≡◌, ◌∙◌, ◌+◌, ap, arith, get_or, unwrap_or}
use Rattle.std.proofs.lemmas.List.{get_or_default}
use Rattle.block_memory.proofs.FramesLemmas.{frame_past, place_none, place_some}
use Rattle.block_memory.proofs.PiecesLemmas.{length-pieces, start-le}
use Rattle.block_memory.proofs.frames.place.Goals as goal

pub returns-then-depth-starts : goal.returns-then-depth-starts
returns-then-depth-starts c = λ blocks same.
    frame_past _ c.args.depth c.args.var (omega (arith, c.if-depth-starts.true, length-pieces c.args.starts.now blocks))

pub overflow_add-at : goal.overflow_add-at
overflow_add-at c =
    let within = (start-le c.args.starts.now 0 c.args.count c.args.depth c.requires.starts).1 in
    let from = get_or_default c.args.starts.now c.args.depth c.args.count 0 c.if-depth-starts.false in
    omega (arith, within, from)

pub returns-then-at-end : goal.returns-then-at-end
returns-then-at-end c = λ blocks same.
    let end : c.unwrap_or-end.result ≡ get_or c.args.starts.now (c.args.depth + 1) c.args.count =
    c.unwrap_or-end.ensures ∙ ap (λ o. unwrap_or o c.args.count) c.copied.ensures ∙ c.get.ensures.lookup.4 (omega arith) c.args.count
    in
    place_some _ blocks c.args.count c.args.depth c.args.var _ c.requires.starts same c.if-depth-starts.false end c.if-at-end.true

pub returns-else-at-end : goal.returns-else-at-end
returns-else-at-end c = λ blocks same.
    let end : c.unwrap_or-end.result ≡ get_or c.args.starts.now (c.args.depth + 1) c.args.count =
    c.unwrap_or-end.ensures ∙ ap (λ o. unwrap_or o c.args.count) c.copied.ensures ∙ c.get.ensures.lookup.4 (omega arith) c.args.count
    in
    place_none _ blocks c.args.count c.args.depth c.args.var _ c.requires.starts same c.if-depth-starts.false end c.if-at-end.false
