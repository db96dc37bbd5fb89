use Rattle.std.proofs.Common.{◌∙◌, ◌<◌, ap, arith, false, FitsSigned, length, rules, set, w64, ℤ}
use Rattle.std.proofs.lemmas.Int.{to_z-of_z}
use Rattle.machine_memory.specs.Held.{held_cells}
use Rattle.machine_memory.proofs.HeldLemmas.{among, read_put}
use Rattle.machine_memory.proofs.held.HeldBlock.put_signed.Goals as goal

pub index_mut-requires : goal.index_mut-requires
index_mut-requires c =
    let all = among c.self.inside.types.items c.self.inside.opened false c.self.inside.signed_count c.args.at c.self.invariant.signed c.if-at-self.true in
    let within : c.args.at < length c.self.inside.words.items = omega (arith, all.2, c.self.invariant.held.words_count) in
    search rules

pub returns-then-at-self : goal.returns-then-at-self
returns-then-at-self c =
    let fits : FitsSigned w64 c.args.w = c.ranges.w in
    let all = among c.self.inside.types.items c.self.inside.opened false c.self.inside.signed_count c.args.at c.self.invariant.signed c.if-at-self.true in
    let within : c.args.at < length c.self.inside.words.items = omega (arith, all.2, c.self.invariant.held.words_count) in
    ap (λ (w : ℤ). record { types = c.self.inside.types.items; cells = held_cells c.self.inside.types.items (set c.self.inside.words.items c.args.at w) c.self.inside.opened c.self.inside.cells }) (to_z-of_z w64 c.args.w fits)
    ∙ read_put _ _ _ _ _ c.args.at false c.args.w c.self.view_is c.self.invariant.held all.0 (all.1 c.args.at) within
