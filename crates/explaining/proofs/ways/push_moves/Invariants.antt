use Rattle.std.proofs.Common.{◌≡◌, ◌++◌, drop}
use Rattle.source_places.specs.LinesSeen.{text_of}
use Rattle.explaining.specs.FlowBlocks.{moves_text}
use Rattle.explaining.proofs.ways.push_moves.Given as goal

abbrev pub invariant-loop-span : goal.invariant-loop-span
invariant-loop-span l = l.text.items ++ moves_text l.name (text_of l.lines) (drop l.span-index l.spans) ≡ l.fn.text.items ++ moves_text l.name (text_of l.lines) l.fn.spans
