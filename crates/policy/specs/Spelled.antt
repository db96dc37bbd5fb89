-- What a rule's line says.
use Rattle.std.specs.Prelude.{ℕ, List, Option}
use Rattle.policy.specs.declared.argument.ArgRange.{ArgRange}

-- in the state `from` calls of the function of this name are allowed, whose arguments are in these
-- ranges, and at most so often; then the state is `to`
pub record SpelledRule : Type 0 where
  pub from : List ℕ
  pub function : List ℕ
  pub ranges : List ArgRange
  pub most : Option ℕ
  pub to : List ℕ
