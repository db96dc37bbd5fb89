-- What the judging functions answer: a judgment's value, what was made behind it, and its faults at the end.
use Rattle.std.specs.Prelude.{◌≡◌, List, ◌++◌, map, Result, OnOk, Vec}
use Rattle.std.specs.declared.alloc.AllocError.{AllocError}
use Rattle.std.specs.declared.alloc.Global.{Global}
use Rattle.pt_base.specs.Gives.{GivesWith}
use Rattle.type_rules.specs.declared.types.Type.{«Type»}
use Rattle.typed_tree.specs.declared.statement.TypedBody.{TypedBody}
use Rattle.typed_tree.specs.StatementTree.{view_body}
use Rattle.check_declarations.specs.declared.fault.TypeFault.{TypeFault}
use Rattle.check_declarations.specs.declared.findings.Findings.{Findings}
use Rattle.check_declarations.specs.Gives as findings
use Rattle.check_expressions.specs.declared.meaning.Callable.{Callable}
use Rattle.check_expressions.specs.declared.names.Names.{Names}
use Rattle.check_expressions.specs.EnvOf.{env_of}
use Rattle.check_statements.specs.declared.walk.Walk.{Walk}
use Rattle.check_statements.specs.Gives as statements
use Rattle.check_statements.specs.Statements.{CheckedAll}
use Rattle.check_programs.specs.declared.progress.Progress as code
use Rattle.check_programs.specs.Functions.{Checked, Head, Judged}
use Rattle.check_programs.specs.Parameters.{Declared}
use Rattle.check_programs.specs.Progress.{Progress}
use Rattle.check_programs.specs.ProgressOf.{progress_of}

-- this was made, and these faults were added
pub record Reaches (before after : code.Progress) (progress : Progress) (faults : List TypeFault) : Type 0 where
  pub progress_is : progress_of after ≡ progress
  pub faults_are : after.walk.findings.faults.items ≡ before.walk.findings.faults.items ++ faults

abbrev pub GivesChecked : Result (Unit {0}) AllocError → code.Progress → code.Progress → Checked → Type 0
GivesChecked r before after c = OnOk r (Reaches before after c.progress c.faults)

-- what stands before a function's name
abbrev pub GivesJudged : Result «Type» AllocError → Findings → Findings → Judged → Type 0
GivesJudged r before after j = GivesWith (λ ty. ty) r j.ty (findings.Reaches before after j.structs j.faults)

-- parameters, with the names behind them
abbrev pub GivesDeclared : Result (Unit {0}) AllocError → Names → Findings → Findings → Declared → Type 0
GivesDeclared r names before after d = OnOk r ((env_of names ≡ d.env) × findings.Reaches before after d.structs d.faults)

-- a declaration of a function, with the names behind it
abbrev pub GivesHead : Result Callable AllocError → Names → Findings → Findings → Head → Type 0
GivesHead r names before after h = GivesWith (λ c. c) r h.callable ((env_of names ≡ h.env) × findings.Reaches before after h.structs h.faults)

-- the outermost block of a function
abbrev pub GivesBlock : Result (Vec TypedBody Global) AllocError → statements.Progress → statements.Progress → CheckedAll → Type 0
GivesBlock r before after c = GivesWith (λ bodies. map view_body bodies.items) r c.bodies (statements.Reaches before after c.state c.trees c.faults)
