-- The lines that report why texts aren't taken further.
use Rattle.std.specs.Prelude.{ℕ, List, ◌++◌, codes}
use Rattle.front_end.specs.FaultLines.{lex_line, parse_line, type_lines}
use Rattle.policy.specs.declared.error.PolicyFault.{PolicyFault}
use Rattle.policy.specs.ReportLines.{report_line}
use Rattle.stages.specs.Climb.{Refusal, lex, parse, types, host, policy, flow, input}
use Rattle.refusal_lines.specs.FlowLines.{flow_lines}
use Rattle.refusal_lines.specs.HostLines.{host_lines, input_line}

-- the first fault of a policy
abbrev pub policy_line : PolicyFault → List ℕ
policy_line fault = report_line fault ++ codes "\n"

-- the lines that report a refusal
abbrev pub lines_of : Refusal → List ℕ
lines_of (lex fault) = lex_line fault
lines_of (parse fault) = parse_line fault
lines_of (types faults) = type_lines faults
lines_of (host tree faults) = host_lines tree faults
lines_of (policy fault) = policy_line fault
lines_of (flow tree faults) = flow_lines faults
lines_of input = input_line
