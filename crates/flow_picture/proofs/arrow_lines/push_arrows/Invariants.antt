use Rattle.std.proofs.Common.{◌≡◌, ◌++◌, drop}
use Rattle.std.specs.List.{flat_map}
use Rattle.flow_picture.specs.PictureText.{arrow_line}
use Rattle.flow_picture.proofs.arrow_lines.push_arrows.Given as goal

abbrev pub invariant-loop-arrow : goal.invariant-loop-arrow
invariant-loop-arrow l = l.text.items ++ flat_map (arrow_line l.ways) (drop l.arrow-index l.arrows) ≡ l.fn.text.items ++ flat_map (arrow_line l.fn.ways) l.fn.arrows
