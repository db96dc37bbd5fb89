use Rattle.std.proofs.Common.{List, refl, subst}
use Rattle.block_memory.specs.declared.cell.Cell.{Cell}
use Rattle.pair_meaning.specs.SlaveRun.{posted}
use Rattle.slave_interp.specs.declared.doing.Doing.TheVariants.{Waits}
use Rattle.slave_interp.specs.Engines.{IsPacked, Runs}
use Rattle.slave_interp.proofs.MovedLemmas.{posts_moved, waits_moved}
use Rattle.slave_interp.proofs.engine.Engine.say_call.Goals as goal

pub returns-then-wants : goal.returns-then-wants
returns-then-wants c y runs still =
    waits_moved c.args.self.now y c.args.callee.0 c.args.args.items c.turns.result c.args.depth c.in_ok-body.field-0 (Waits c.args.callee c.args.args) runs (c.turns.ensures y.program y.machine runs.shown)
    (subst (λ (xs : List Cell). IsPacked c.in_ok-body.field-0 y c.args.callee.0 xs) c.as_slice.ensures.value (c.in_ok-body.ensures y runs)) c.if-wants.true refl

pub returns : goal.returns
returns c y runs still =
    posts_moved c.post.new.self y c.args.callee.0 c.args.args.items c.turns.result c.args.depth c.in_ok-body.field-0
    (subst (λ (xs : List Cell). Runs c.post.new.self (posted y c.args.callee.0 xs)) c.as_slice-2.ensures.value (c.in_ok-post.ensures.posted y runs)) (c.turns.ensures y.program y.machine runs.shown)
    (subst (λ (xs : List Cell). IsPacked c.in_ok-body.field-0 y c.args.callee.0 xs) c.as_slice.ensures.value (c.in_ok-body.ensures y runs)) c.if-wants.false
