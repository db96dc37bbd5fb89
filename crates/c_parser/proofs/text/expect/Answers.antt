use Rattle.std.proofs.Common.{sym, ◌∙◌, slice_get}
use Rattle.c_parser.proofs.Steps.{shifted, mismatched, same_kind, other_kind}
use Rattle.c_parser.proofs.text.expect.Goals as goal

pub returns-then-stands-clause-expects : goal.returns-then-stands-clause-expects
returns-then-stands-clause-expects c = λ depth. shifted _ _ _ _ _ (same_kind c.args.kind (slice_get c.args.tokens.now c.args.at) c.requires.fixed (sym c.stands.ensures.kind ∙ c.if-stands.true))

pub returns-else-stands-clause-expects : goal.returns-else-stands-clause-expects
returns-else-stands-clause-expects c = λ depth. mismatched _ _ _ _ (other_kind c.args.kind (slice_get c.args.tokens.now c.args.at) (sym c.stands.ensures.kind ∙ c.if-stands.false))
