-- The numbers and names of the rules.
use Rattle.std.specs.Prelude.{ℕ, List, codes}
use Rattle.flow_rules.specs.declared.rule.Rule.{Rule}
use Rattle.flow_rules.specs.declared.rule.Rule.TheVariants.{OperationOnPriv, PrivToHost, PrivIntoUnpriv, SharedGlobal, UnmarkedOut, HostInMonitor, PrivToPlainParam, PrivStatus, PrivMain}

abbrev pub rule_number : Rule → ℕ
rule_number OperationOnPriv = 1
rule_number PrivToHost = 2
rule_number PrivIntoUnpriv = 3
rule_number SharedGlobal = 4
rule_number UnmarkedOut = 5
rule_number HostInMonitor = 6
rule_number PrivToPlainParam = 7
rule_number PrivStatus = 8
rule_number PrivMain = 9

abbrev pub rule_name : Rule → List ℕ
rule_name OperationOnPriv = codes "OperationOnPriv"
rule_name PrivToHost = codes "PrivToHost"
rule_name PrivIntoUnpriv = codes "PrivIntoUnpriv"
rule_name SharedGlobal = codes "SharedGlobal"
rule_name UnmarkedOut = codes "UnmarkedOut"
rule_name HostInMonitor = codes "HostInMonitor"
rule_name PrivToPlainParam = codes "PrivToPlainParam"
rule_name PrivStatus = codes "PrivStatus"
rule_name PrivMain = codes "PrivMain"
