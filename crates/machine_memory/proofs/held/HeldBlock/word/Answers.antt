use Rattle.std.proofs.Common.{◌∙◌, ap, arith, FitsSigned, rules, List, Some, subst, sym, w64, ℤ}
use Rattle.std.proofs.lemmas.Int.{to_z-of_z}
use Rattle.pt_base.specs.declared.int_type.IntType.{IntType}
use Rattle.block_memory.specs.declared.cell.Cell.TheVariants.{Int}
use Rattle.word_arithmetic.specs.Words.{number_of}
use Rattle.machine_memory.specs.Held.{IsRead}
use Rattle.machine_memory.proofs.HeldLemmas.{read_word}
use Rattle.machine_memory.proofs.held.HeldBlock.word.Goals as goal

pub returns-then-is_read : goal.returns-then-is_read
returns-then-is_read c =
    let w : ℤ = c.index.result.now in
    let fits : FitsSigned w64 w = search rules in
    read_word _ _ _ _ _ c.args.at c.args.wide w c.self.view_is c.self.invariant.held c.if-is_read.ensures.0 (subst (λ (ts : List IntType). IsRead ts c.args.at c.args.wide) c.deref.ensures.value c.if-is_read.ensures.1) (omega (arith, c.self.inside.words.ok.0)) c.index.ensures
    ∙ ap (λ (x : ℤ). Some (Int (number_of c.args.wide x))) (sym (to_z-of_z w64 w fits))
