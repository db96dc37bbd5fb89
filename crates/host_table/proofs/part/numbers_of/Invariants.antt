use Rattle.std.proofs.Common.{◌≡◌, ℕ, take, nat_cmp}
use Rattle.std.specs.BTreeSet.{contains}
use Rattle.host_table.specs.Hosts.{is_listed}
use Rattle.host_table.proofs.part.numbers_of.Given as goal

abbrev pub invariant-loop-f : goal.invariant-loop-f
invariant-loop-f l = (n : ℕ) → contains nat_cmp l.numbers n ≡ is_listed (take l.f-index l.fns) n
