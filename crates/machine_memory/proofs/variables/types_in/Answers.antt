use Rattle.std.proofs.Common.{◌≡◌, ◌∙◌, ap, arith, get_or, map, sym}
use Rattle.std.proofs.lemmas.List.{get_or_default}
use Rattle.block_memory.specs.Block.{fresh, no_block}
use Rattle.machine_memory.specs.Layouts.{FrameLayout, no_layout}
use Rattle.machine_memory.specs.Frames.{layout_in}
use Rattle.machine_memory.proofs.VariableLemmas.{types-frame}
use Rattle.machine_memory.proofs.variables.types_in.Goals as goal

pub returns-then-number-layouts : goal.returns-then-number-layouts
returns-then-number-layouts c =
    let at : layout_in c.args.layouts.now c.args.frame.now.layout ≡ c.index-layouts-number.result =
    ap (layout_in c.args.layouts.now) (sym c.layout-number.ensures) ∙ get_or_default c.args.layouts.now c.layout-number.result no_layout c.index-layouts-number.result (omega arith) ∙ sym c.index-layouts-number.is
    in
    c.types.ensures
    ∙ ap (λ (l : FrameLayout). (get_or (map fresh l.shapes) c.args.var no_block).types) (sym at)
    ∙ types-frame (layout_in c.args.layouts.now c.args.frame.now.layout) c.args.frame.now c.args.var c.requires
