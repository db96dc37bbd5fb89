use Rattle.std.proofs.Common.{◌≡◌, drop, Some}
use Rattle.std.specs.List.{flat_map}
use Rattle.sides.specs.Outs.{Remembers, behind_start, behind_out}
use Rattle.reach.specs.Tables.{set_all}
use Rattle.sides.proofs.outs.add_sealed.Given as goal

abbrev pub invariant-loop-start : goal.invariant-loop-start
invariant-loop-start l = record {
  table : set_all l.table (flat_map (behind_start l.slots l.out) (drop l.start-index l.starts)) ≡ set_all l.fn.table (behind_out l.fn.slots (Some l.fn.out) l.fn.starts);
  seen : Remembers l.slots l.table l.seen.keys;
}
