use Rattle.std.proofs.Common.{◌≡◌, ◌<◌, ◌^◌, take}
use Rattle.policy.specs.Numbers.{decimal_value}
use Rattle.policy.proofs.decimal.value.Given as goal

abbrev pub invariant-loop-digit : goal.invariant-loop-digit
invariant-loop-digit l = record {
  fits : l.number < 2 ^ 64;
  spelled : l.number ≡ decimal_value (take l.digit-index l.digits);
}
