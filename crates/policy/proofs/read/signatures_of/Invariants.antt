use Rattle.std.proofs.Common.{◌≡◌, ◌++◌, drop, map, vec_len}
use Rattle.policy.proofs.read.signatures_of.Given as goal

-- the signatures so far, and those of the rest
abbrev pub invariant-loop-function : goal.invariant-loop-function
invariant-loop-function l = record {
  count : vec_len l.all ≡ l.function-index;
  all : map (λ f. f.signature) l.t.functions.items ≡ map (λ s. s.now) l.all.items ++ map (λ f. f.signature) (drop l.function-index l.t.functions.items);
}
