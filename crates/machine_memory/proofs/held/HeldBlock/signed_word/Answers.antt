use Rattle.std.proofs.Common.{◌<◌, arith, false, FitsSigned, length, rules, slice_get, Some, subst, sym, w64, ℤ}
use Rattle.std.proofs.lemmas.Int.{to_z-of_z}
use Rattle.machine_memory.specs.Words.{IsWordOf}
use Rattle.machine_memory.proofs.HeldLemmas.{among, read_word}
use Rattle.machine_memory.proofs.held.HeldBlock.signed_word.Goals as goal

pub index-requires : goal.index-requires
index-requires c =
    let all = among c.self.inside.types.items c.self.inside.opened false c.self.inside.signed_count c.args.at c.self.invariant.signed c.if-at-self.true in
    let within : c.args.at < length c.self.inside.words.items = omega (arith, all.2, c.self.invariant.held.words_count) in
    search rules

pub returns-then-at-self : goal.returns-then-at-self
returns-then-at-self c =
    let w : ℤ = c.index.result.now in
    let fits : FitsSigned w64 w = search rules in
    let all = among c.self.inside.types.items c.self.inside.opened false c.self.inside.signed_count c.args.at c.self.invariant.signed c.if-at-self.true in
    let within : c.args.at < length c.self.inside.words.items = omega (arith, all.2, c.self.invariant.held.words_count) in
    subst (λ (x : ℤ). IsWordOf (Some false) (slice_get c.args.self.now.cells c.args.at) x) (sym (to_z-of_z w64 w fits))
    (read_word _ _ _ _ _ c.args.at false w c.self.view_is c.self.invariant.held all.0 (all.1 c.args.at) within c.index.ensures)
