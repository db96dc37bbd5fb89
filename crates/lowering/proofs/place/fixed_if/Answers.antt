use Rattle.lowering.proofs.place.fixed_if.Goals as goal

pub returns-then-is_fixed : goal.returns-then-is_fixed
returns-then-is_fixed c = λ o low h. rw c.if-is_fixed.true (c.fixed.ensures o low h)

pub returns-else-is_fixed : goal.returns-else-is_fixed
returns-else-is_fixed c = λ o low h. rw c.if-is_fixed.false h
