use Rattle.std.proofs.Common.{◌≡◌, drop}
use Rattle.marshalling.specs.Shape.{fit_all}
use Rattle.marshalling.proofs.shape.arguments_fit.Given as goal

abbrev pub invariant-loop-i : goal.invariant-loop-i
invariant-loop-i l = fit_all l.structs l.blocks (drop l.i l.params) (drop l.i l.args) ≡ fit_all l.structs l.blocks l.params l.args
