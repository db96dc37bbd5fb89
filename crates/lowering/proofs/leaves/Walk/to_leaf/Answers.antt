use Rattle.std.proofs.Common.{◌∙◌, sym}
use Rattle.lowering.specs.Names.{scope_of}
use Rattle.lowering.proofs.WaysLemmas.{comes, moves_on, nothing_left}
use Rattle.lowering.proofs.leaves.Walk.to_leaf.Goals as goal

pub loop-self-preserved : goal.loop-self-preserved
loop-self-preserved c = c.loop-self.invariant ∙ (moves_on _ _ _ _ c.if-found.false c.in_ok-found.ensures).same

pub loop-self-smaller : goal.loop-self-smaller
loop-self-smaller c = (moves_on _ _ _ _ c.if-found.false c.in_ok-found.ensures).less

pub returns-then-found : goal.returns-then-found
returns-then-found c = comes _ c.in_ok-found.found _ _ _ c.loop-self.invariant c.if-found.true c.in_ok-found.ensures

pub returns : goal.returns
returns c = nothing_left (scope_of c.args.names.now).structs c.args.self.now c.loop-self.self c.loop-self.invariant (sym c.goes_on.ensures ∙ c.loop-self-test.false)
