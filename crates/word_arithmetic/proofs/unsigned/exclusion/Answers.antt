use Rattle.std.proofs.lemmas.Nat.{xor_lt}
use Rattle.pt_base.specs.IntTypes.{width_of}
use Rattle.word_arithmetic.proofs.unsigned.exclusion.Goals as goal

pub of_low_bits-requires : goal.of_low_bits-requires
of_low_bits-requires c = xor_lt (width_of c.args.t) _ _ c.bits.ensures.range c.bits-2.ensures.range
