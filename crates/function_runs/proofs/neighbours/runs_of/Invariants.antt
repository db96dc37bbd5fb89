use Rattle.std.proofs.Common.{◌≡◌, ◌≤◌, ◌*◌, List, All, length, min, take, vec_len}
use Rattle.pt_base.specs.declared.ids.FnId.{FnId}
use Rattle.function_runs.specs.Runs.{IsSingle, IsWithin, covered}
use Rattle.function_runs.proofs.neighbours.runs_of.Given as goal

-- the runs so far have the places below `from`
abbrev pub invariant-loop-k : goal.invariant-loop-k
invariant-loop-k l = record {
  far : l.from ≡ min l.count (l.k * l.size);
  few : vec_len l.runs ≤ l.k;
  within : All (IsWithin l.count) l.runs.items;
  single : l.count ≤ 8 → All IsSingle l.runs.items;
  covers : (fs : List FnId) → length fs ≡ l.count → covered fs l.runs.items ≡ take l.from fs;
}
