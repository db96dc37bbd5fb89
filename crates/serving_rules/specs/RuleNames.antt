-- A rule as code names it.
use Rattle.pair_meaning.specs.Rules as r
use Rattle.serving_rules.specs.declared.peer_rule.PeerRule.{PeerRule}
use Rattle.serving_rules.specs.declared.peer_rule.PeerRule.TheVariants.{BadFrame, TooLong, BadTurns, NoEntry, BadShape, BadHandle, WrongType, BadDepth, EarlyPark, PostedPlain}

abbrev pub rule_of : PeerRule → r.PeerRule
rule_of BadFrame = r.bad_frame
rule_of TooLong = r.too_long
rule_of BadTurns = r.bad_turns
rule_of NoEntry = r.no_entry
rule_of BadShape = r.bad_shape
rule_of BadHandle = r.bad_handle
rule_of WrongType = r.wrong_type
rule_of BadDepth = r.bad_depth
rule_of EarlyPark = r.early_park
rule_of PostedPlain = r.posted_plain
