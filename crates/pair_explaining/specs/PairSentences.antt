-- What is said of each kind of fault of a host table and of a policy.
use Rattle.std.specs.Prelude.{ℕ, List, ◌++◌, Option, Some, None, codes, if◌then◌else◌, nat_eq}
use Rattle.pt_base.specs.declared.ids.FnId.{FnId}
use Rattle.host_table.specs.declared.fault.HostFault.{HostFault}
use Rattle.host_table.specs.declared.fault.HostFault.TheVariants.{NotJson, Shape, Missing, Range, WrongParams, TwoInputs, TooLong}
use Rattle.policy.specs.declared.error.PolicyFaultKind.{PolicyFaultKind}
use Rattle.policy.specs.declared.error.PolicyFaultKind.TheVariants as kind

-- ---- host tables

-- of a table that is no object, or of the entry of the host of this name
abbrev pub shape_sentence : Option FnId → List ℕ → List ℕ
shape_sentence None name = codes "this is JSON, and no object with an entry for each host"
shape_sentence (Some f) name = codes "the entry of `" ++ name ++ codes "` isn't shaped as one of the kinds table, feed, input, bytes and line"

-- of the whole table, or of the entry of the host of this name
abbrev pub host_sentence : HostFault → List ℕ → List ℕ
host_sentence NotJson name = codes "this can't be read as JSON in UTF-8"
host_sentence (Shape function) name = shape_sentence function name
host_sentence (Missing f) name = codes "the host table has no entry for `" ++ name ++ codes "`"
host_sentence (Range f) name = codes "a number in the entry of `" ++ name ++ codes "` doesn't fit its type"
host_sentence (WrongParams f) name = codes "the entry of `" ++ name ++ codes "` doesn't fit its parameters, their marks or its result"
host_sentence (TwoInputs f) name = codes "the entry of `" ++ name ++ codes "` is a second one of the kind input"
host_sentence TooLong name = codes "the table has more than 1048576 bytes"

-- ---- policies

-- of too many rules at a line, or of too many bytes
abbrev pub long_sentence : ℕ → List ℕ
long_sentence line = if nat_eq line 0 then codes "the policy has more than 1048576 bytes" else codes "a policy has at most 4096 rules"

-- of the fault of this kind at this line
abbrev pub policy_sentence : PolicyFaultKind → ℕ → List ℕ
policy_sentence kind.Syntax line = codes "this is no rule: from STATE allow FUNCTION [argI in LOW..HIGH]* [at most COUNT] to STATE"
policy_sentence kind.UnknownFunction line = codes "no function or host marked priv has the name behind allow"
policy_sentence kind.UnseenArg line = codes "a range is for an argument that isn't there, is a pointer or is marked priv"
policy_sentence kind.TooLong line = long_sentence line
