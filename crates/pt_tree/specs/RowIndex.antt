-- Results by arguments.
use Rattle.std.specs.Prelude.{◌≡◌, ℤ, List, Vec}
use Rattle.std.specs.Cmp.Lexicographic.{slice_cmp}
use Rattle.std.specs.Map.{lookup}
use Rattle.std.specs.Ordering.{int_cmp, is_eq}
use Rattle.std.specs.declared.alloc.Global.{Global}
use Rattle.pt_tree.specs.HostStep.{first_result}
use Rattle.pt_tree.specs.declared.row.Row.{Row}

-- the entries give for each list of arguments the result of the first row with it
abbrev pub IsIndexOf : List (Vec ℤ Global × ℤ) → List Row → Type 0
IsIndexOf entries rows =
    (args : List ℤ) → lookup (λ key. is_eq (slice_cmp int_cmp args key.items)) entries ≡ first_result rows args
