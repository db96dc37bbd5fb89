-- The numbers under which a hub's refusals are known.
use Rattle.std.specs.Prelude.{ℕ, Option, Some, None}
use Rattle.sessions.specs.declared.error.HubError.{HubError}
use Rattle.sessions.specs.declared.error.HubError.TheVariants.{Full, NotOpen, Memory}

abbrev pub error_number : HubError → Option ℕ
error_number Full = Some 1
error_number NotOpen = Some 2
error_number Memory = None
