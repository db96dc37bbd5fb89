use Rattle.std.proofs.Common.{◌∙◌, sym}
use Rattle.slave_interp.proofs.BeginLemmas.{main_here, main_next, main_past}
use Rattle.slave_interp.proofs.beginning.main_of.Goals as goal

pub returns-then-is_main : goal.returns-then-is_main
returns-then-is_main c =
    main_here c.args.signatures.now c.loop-entry.entry-index c.entry-item.result c.loop-entry-test.true c.entry-item.is (sym c.is_main.ensures ∙ c.if-is_main.true) ∙ c.loop-entry.invariant

pub loop-entry-preserved : goal.loop-entry-preserved
loop-entry-preserved c =
    main_next c.args.signatures.now c.loop-entry.entry-index c.entry-item.result c.loop-entry-test.true c.entry-item.is (sym c.is_main.ensures ∙ c.if-is_main.false) ∙ c.loop-entry.invariant

pub returns : goal.returns
returns c = main_past c.args.signatures.now c.loop-entry.entry-index c.loop-entry-test.false ∙ c.loop-entry.invariant
