-- The errors of the front end and of policies as stops.
use Rattle.front_end.specs.declared.error.FrontError.{FrontError}
use Rattle.front_end.specs.declared.error.FrontError.TheVariants as front
use Rattle.policy.specs.declared.error.PolicyError.{PolicyError}
use Rattle.policy.specs.declared.error.PolicyError.TheVariants as rules
use Rattle.stages.specs.declared.refusal.Refusal.TheVariants.{Lex, Parse, Types, Policy}
use Rattle.stages.specs.declared.refusal.Stop.{Stop}
use Rattle.stages.specs.declared.refusal.Stop.TheVariants.{Refused, Memory}

abbrev pub front_stop : FrontError → Stop
front_stop (front.Lex fault) = Refused (Lex fault)
front_stop (front.Parse fault) = Refused (Parse fault)
front_stop (front.Types faults) = Refused (Types faults)
front_stop front.Memory = Memory

abbrev pub policy_stop : PolicyError → Stop
policy_stop (rules.Fault fault) = Refused (Policy fault)
policy_stop rules.Memory = Memory
