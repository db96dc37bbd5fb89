use Rattle.std.proofs.Common.{◌∙◌, sym}
use Rattle.pair_texts.proofs.InputLemmas.{is_given, is_none}
use Rattle.pair_texts.proofs.models.input_for.Goals as goal

pub returns-in_ok-from_slice : goal.returns-in_ok-from_slice
returns-in_ok-from_slice c =
    c.new.ensures ∙ c.in_ok-from_slice.ensures.items ∙ is_given c.args.models.now c.args.input.now (sym c.one_reads_input.ensures ∙ c.if-one_reads_input.true)

pub returns-else-one_reads_input : goal.returns-else-one_reads_input
returns-else-one_reads_input c =
    c.new-else-one_reads_input-2.ensures ∙ c.new-else-one_reads_input.ensures.items ∙ is_none c.args.models.now c.args.input.now (sym c.one_reads_input.ensures ∙ c.if-one_reads_input.false)
