use Rattle.std.proofs.Common.{◌≡◌, ℕ, arith, eqb, length, subst}
use Rattle.pair_protocol.specs.Pair.{is_empty}
use Rattle.memory_link.proofs.Lefts.{none_is}
use Rattle.memory_link.proofs.rest.Rest.is_none.Goals as goal

pub returns : goal.returns
returns c =
    let same : length c.self.inside.bytes.items ≡ c.len.result = grind arith in
    subst (λ (n : ℕ). eqb c.self.inside.given n ≡ is_empty c.args.self.now) same (none_is c.self.inside.given c.self.inside.bytes.items c.args.self.now c.self.invariant c.self.view_is)
