use Rattle.std.proofs.Common.{◌≡◌, ℕ, take, nat_cmp}
use Rattle.std.specs.BTreeSet.{contains}
use Rattle.std.specs.List.{filter}
use Rattle.pt_tree.specs.declared.host_model.HostModel.{HostModel}
use Rattle.host_table.proofs.part.listed_models.Given as goal

abbrev pub invariant-loop-number : goal.invariant-loop-number
invariant-loop-number l = l.part.items ≡ filter (λ (m : ℕ × HostModel). contains nat_cmp l.listed m.0) (take l.number-index l.models)
