use Rattle.std.proofs.Common.{◌<◌, arith, Bool, FitsSigned, length, None, rules, slice_get, subst, sym, w64, ℤ}
use Rattle.std.proofs.lemmas.Int.{to_z-of_z}
use Rattle.machine_memory.specs.Words.{IsWordOf}
use Rattle.machine_memory.proofs.HeldLemmas.{among, read_word}
use Rattle.machine_memory.proofs.held.HeldBlock.alike_word.Goals as goal

pub index-requires : goal.index-requires
index-requires c =
    let alike = c.self.invariant.alike in
    let all = among c.self.inside.types.items c.self.inside.opened alike.0 c.self.inside.alike_count c.args.at alike.1 c.if-at-self.true in
    let within : c.args.at < length c.self.inside.words.items = omega (arith, all.2, c.self.invariant.held.words_count) in
    search rules

pub returns-then-at-self : goal.returns-then-at-self
returns-then-at-self c =
    let w : ℤ = c.index.result.now in
    let fits : FitsSigned w64 w = search rules in
    let alike = c.self.invariant.alike in
    let wide : Bool = alike.0 in
    let all = among c.self.inside.types.items c.self.inside.opened wide c.self.inside.alike_count c.args.at alike.1 c.if-at-self.true in
    let within : c.args.at < length c.self.inside.words.items = omega (arith, all.2, c.self.invariant.held.words_count) in
    subst (λ (x : ℤ). IsWordOf None (slice_get c.args.self.now.cells c.args.at) x) (sym (to_z-of_z w64 w fits))
    (wide, read_word _ _ _ _ _ c.args.at wide w c.self.view_is c.self.invariant.held all.0 (all.1 c.args.at) within c.index.ensures)
