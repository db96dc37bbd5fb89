use Rattle.std.proofs.Common.{◌≡◌, ◌≤◌, drop, vec_len}
use Rattle.marshalling.specs.Packing.{names_from, names_of}
use Rattle.marshalling.proofs.packing.target_names.Given as goal

abbrev pub invariant-loop-cell : goal.invariant-loop-cell
invariant-loop-cell l = record { names : names_from l.names.items (drop l.cell-index l.args) ≡ names_of l.args; few : vec_len l.names ≤ l.cell-index }
