use Rattle.std.proofs.Common.{drop}
use Rattle.wire.specs.Spelling.{argument_bytes}
use Rattle.wire.specs.Limits.{FitsArgument}
use Rattle.wire.proofs.Put.{Putting}
use Rattle.wire.proofs.writing.put_arguments.Given as goal

abbrev pub invariant-loop-argument : goal.invariant-loop-argument
invariant-loop-argument l = Putting argument_bytes FitsArgument l.fn.args (drop l.argument-index l.args) l.fn.out.items l.out.items
