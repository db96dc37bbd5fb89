-- What handling a message comes to.
use Rattle.std.specs.Prelude.{◌≡◌, ℕ, List, ◌++◌, Option, None}
use Rattle.pt_base.specs.declared.end.End.{End}
use Rattle.wire.specs.declared.message.Message.{Message}
use Rattle.wire.specs.declared.message.ReplyBody.{ReplyBody}
use Rattle.pair_protocol.specs.Sides.{Served, goes_on, ends, bad}
use Rattle.pair_meaning.specs.Monitors.{Monitor}
use Rattle.pair_meaning.specs.Rules.{PeerRule, Verdict, breaks, makes, turns_of, writes}
use Rattle.pair_meaning.specs.Rules as rule
use Rattle.pair_meaning.specs.Serving.{served_by, work_of}
use Rattle.serving_rules.specs.RuleNames.{rule_of}
use Rattle.monitor_interp.specs.declared.handled.Handled.{Handled}
use Rattle.monitor_interp.specs.declared.handled.Handled.TheVariants.{GoesOn, Ended, Bad}

-- ---- one of three

abbrev pub Goes : Option ReplyBody → Handled → Type 0
Goes reply (GoesOn told) = told ≡ reply
Goes reply (Ended at) = ⊥
Goes reply (Bad broken) = ⊥

abbrev pub Ends : End → Handled → Type 0
Ends end (GoesOn told) = ⊥
Ends end (Ended at) = at ≡ end
Ends end (Bad broken) = ⊥

abbrev pub Breaks : PeerRule → Handled → Type 0
Breaks rule (GoesOn told) = ⊥
Breaks rule (Ended at) = ⊥
Breaks rule (Bad broken) = rule_of broken ≡ rule

-- ---- a message

-- It goes on as the next monitor, with the reply; it ends; or it breaks a rule and stays this monitor. The bytes are appended.
abbrev pub Handles : (Monitor → Type 0) → Monitor → Served Monitor ReplyBody End PeerRule → Handled → List ℕ → List ℕ → Type 0
Handles Is m (goes_on next reply bytes) h old new = Goes reply h × Is next × (new ≡ old ++ bytes)
Handles Is m (ends bytes end) h old new = Ends end h × (new ≡ old ++ bytes)
Handles Is m (bad rule) h old new = Breaks rule h × Is m × (new ≡ old)

-- the message breaks a rule, or is an end of its own or by the policy
abbrev pub ChangesNothing : Verdict → Type 0
ChangesNothing (breaks rule) = Unit {0}
ChangesNothing (rule.ends end) = Unit {0}
ChangesNothing (writes bytes) = ⊥
ChangesNothing (makes call) = ⊥

-- ---- by its verdict

-- what is served breaks no rule
abbrev pub Serves : (Monitor → Type 0) → Served Monitor ReplyBody End PeerRule → Handled → List ℕ → List ℕ → Type 0
Serves Is (goes_on next reply bytes) h old new = Goes reply h × Is next × (new ≡ old ++ bytes)
Serves Is (ends bytes end) h old new = Ends end h × (new ≡ old ++ bytes)
Serves Is (bad rule) h old new = ⊥

abbrev pub Acts : (Monitor → Type 0) → Monitor → Message → ℕ → Verdict → Handled → List ℕ → List ℕ → Type 0
Acts Is m x left (breaks rule) h old new = Breaks rule h × Is m × (new ≡ old)
Acts Is m x left (rule.ends end) h old new = Ends end h × Is m × (new ≡ old)
Acts Is m x left (writes bytes) h old new = Goes None h × Is (record m { last = turns_of x }) × (new ≡ old ++ bytes)
Acts Is m x left (makes call) h old new = Serves Is (served_by m x call left (work_of m call left)) h old new
