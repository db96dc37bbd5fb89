-- Steps of the walks over handles.
use Rattle.std.proofs.Common.{◌≡◌, ◌≤◌, ◌∙◌, sym, ap, refl, ℕ, List, [], ◌∷◌, length, drop, Option, None, Err}
use Rattle.std.proofs.lemmas.List.{drop_all}
use Rattle.pt_tree.specs.declared.signature.Param.{Param}
use Rattle.wire.specs.declared.cell.Arg.{Arg}
use Rattle.marshalling.specs.declared.fault.BadCall.{BadCall}
use Rattle.marshalling.specs.declared.fault.BadCall.TheVariants.{Shape, BadHandle, WrongType, Memory}
use Rattle.marshalling.specs.Handles.{Answers, Entries, arguments_fault}

-- a fault that is handed on is the answer
pub answers_fault : (fault : BadCall) → Answers (Err fault) (Err fault)
answers_fault Shape = refl
answers_fault (BadHandle handle) = refl
answers_fault (WrongType handle) = refl
answers_fault Memory = tt {0}

-- where the arguments are at their end there is no fault
none_left : (store : Entries) (params : List Param) → arguments_fault store params [] ≡ None
none_left store [] = refl
none_left store (p ∷ params) = refl

pub faults_end : (store : Entries) (params : List Param) (args : List Arg) (i : ℕ) (whole : Option BadCall) → length args ≤ i
    → arguments_fault store params (drop i args) ≡ whole → None ≡ whole
faults_end store params args i whole past so_far = sym (none_left store params) ∙ ap (arguments_fault store params) (sym (drop_all i args past))
    ∙ so_far
