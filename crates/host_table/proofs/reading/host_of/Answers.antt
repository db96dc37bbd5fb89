use Rattle.std.proofs.Common.{arith, sym, ◌∙◌, ◌≡◌, true≢false, false, length, nat_lt}
use Rattle.std.proofs.lemmas.Bool.Decides.{nat_tests}
use Rattle.host_table.proofs.FoundLemmas.{read_answer, no_answer}
use Rattle.host_table.proofs.TextLemmas.{reading_of-none, reading_of-some}
use Rattle.host_table.proofs.reading.host_of.Goals as goal

pub returns-in-Ok : goal.returns-in-Ok
returns-in-Ok c =
    let short : nat_lt 1048576 (length c.args.text.now) ≡ false = grind (arith, nat_tests) in
    read_answer _ _ _ _ short (reading_of-some _ _ c.in-Ok.ensures.ok) c.host_by.ensures

pub returns-in-Err-2 : goal.returns-in-Err-2
returns-in-Err-2 c =
    let short : nat_lt 1048576 (length c.args.text.now) ≡ false = grind (arith, nat_tests) in
    no_answer _ _ _ short (sym (reading_of-none _ (c.in-Err.ensures.err (λ memory. true≢false (sym (c.is_memory.ensures.1 memory) ∙ c.if-is_memory.false))))) c.alone-in-Err-2.ensures
