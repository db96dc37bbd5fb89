use Rattle.std.proofs.Common.{◌≡◌, ◌++◌, drop, map}
use Rattle.pt_core.specs.CodeTree.{view_global}
use Rattle.outlining.specs.OutlineTexts.{globals_text}
use Rattle.outlining.proofs.lines.push_globals.Given as goal

abbrev pub invariant-loop-global : goal.invariant-loop-global
invariant-loop-global l = l.text.items ++ globals_text (map view_global (drop l.global-index l.globals)) ≡ l.fn.text.items ++ globals_text (map view_global l.fn.globals)
