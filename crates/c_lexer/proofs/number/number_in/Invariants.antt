use Rattle.std.proofs.Common.{◌≡◌, ◌<◌, ◌^◌, take}
use Rattle.c_lexer.specs.Bytes.{number_in}
use Rattle.c_lexer.proofs.number.number_in.Given as goal

abbrev pub invariant-loop-digit : goal.invariant-loop-digit
invariant-loop-digit l = record {
  fits : l.number < 2 ^ 64;
  spelled : l.number ≡ number_in l.base (take l.digit-index l.digits);
}
