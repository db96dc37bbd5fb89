-- What the walks over specifiers answer: what is judged, the structs behind it, and its faults.
use Rattle.std.specs.Prelude.{◌≡◌, List, [], ◌∷◌, ◌++◌, Result, Vec}
use Rattle.std.specs.declared.alloc.AllocError.{AllocError}
use Rattle.std.specs.declared.alloc.Global.{Global}
use Rattle.pt_base.specs.Gives.{GivesWith}
use Rattle.type_rules.specs.declared.types.Type.{«Type»}
use Rattle.check_declarations.specs.declared.fault.TypeFault.{TypeFault}
use Rattle.check_declarations.specs.declared.findings.Findings.{Findings}
use Rattle.check_declarations.specs.declared.specifiers.Specified.{Specified}
use Rattle.check_declarations.specs.Specifiers.{Judged, Naming, Body}
use Rattle.check_declarations.specs.Structs.{Structs, Fields}

-- these structs are declared, and these faults were added at the end
pub record Reaches (before after : Findings) (structs : Structs) (faults : List TypeFault) : Type 0 where
  pub structs_are : after.structs ≡ structs
  pub faults_are : after.faults.items ≡ before.faults.items ++ faults

abbrev pub GivesJudged : Result Specified AllocError → Findings → Findings → Judged → Type 0
GivesJudged r before after j = GivesWith (λ given. given) r j.given (Reaches before after j.structs j.faults)

abbrev pub GivesNaming : Result (Vec «Type» Global) AllocError → Findings → Findings → Naming → Type 0
GivesNaming r before after n = GivesWith (λ types. types.items) r n.types (Reaches before after n.structs n.faults)

-- of one specifier, which names one type
abbrev pub GivesNamed : Result «Type» AllocError → Findings → Findings → Naming → Type 0
GivesNamed r before after n = GivesWith (λ ty. ty ∷ []) r n.types (Reaches before after n.structs n.faults)

abbrev pub GivesBody : Result Fields AllocError → Findings → Findings → Body → Type 0
GivesBody r before after b = GivesWith (λ fields. fields) r b.fields (Reaches before after b.structs b.faults)
