use Rattle.std.proofs.Common.{rules, FitsSigned, get_or, pos, ap, ◌∙◌, ◌++◌, ◌∷◌, []}
use Rattle.std.proofs.lemmas.Int.{to_z-of_z}
use Rattle.std.specs.Int.{w128}
use Rattle.host_table.proofs.SpacedLemmas.{low-take}
use Rattle.host_table.proofs.writing.append_low_bytes.Goals as goal

pub loop-arg-preserved : goal.loop-arg-preserved
loop-arg-preserved c =
    let fits : FitsSigned w128 (get_or c.args.args.now c.loop-arg.arg-index (pos 0)) = search rules in
    low-take _ _ _ c.args.args.now c.loop-arg.arg-index _ c.loop-arg-test.true (simp to_z-of_z) c.loop-arg.invariant
    (c.in_ok-push.ensures.items ∙ ap (λ b. c.loop-arg.out.items ++ b ∷ []) c.low_byte.ensures)
