-- Laws of whole runs.
use Rattle.std.specs.Prelude.{◌≡◌, ◌≢◌, ◌<◌, ◌≤◌, ℕ, List, ◌++◌}
use Rattle.pt_base.specs.declared.end.End.TheVariants.{Spent}
use Rattle.runs.specs.State.{Hosts, Event}
use Rattle.typed_tree.specs.TypedTree.{TypedTree}
use Rattle.typed_tree.specs.declared.types.StructInfo.{StructInfo}
use Rattle.typed_tree.specs.declared.types.VarTy.{VarTy}
use Rattle.typed_tree.specs.Cells.{cells_of}
use Rattle.typed_tree.specs.Sizes.{cells_by, sizes_of}
use Rattle.source_meaning.specs.WholeRun.{whole_run}

-- ---- budgets

-- A run that ended before its budget was spent doesn't change with a budget that covers the turns it
-- used, and with any smaller one the program's run ends Spent.
abbrev pub EndedRunsStay : Type 0
EndedRunsStay = (program : TypedTree) (hosts : Hosts) (input : List ℕ) (n : ℕ) →
    (whole_run program hosts input n).end ≢ Spent →
    ((m : ℕ) → (whole_run program hosts input n).turns ≤ m → whole_run program hosts input m ≡ whole_run program hosts input n) ×
    ((m : ℕ) → m < (whole_run program hosts input n).turns → (whole_run program hosts input m).end ≡ Spent)

-- a run uses no more turns than its budget has, and a run that ends Spent uses them all
abbrev pub SpentRunsUseAll : Type 0
SpentRunsUseAll = (program : TypedTree) (hosts : Hosts) (input : List ℕ) (n : ℕ) →
    ((whole_run program hosts input n).turns ≤ n) ×
    ((whole_run program hosts input n).end ≡ Spent → (whole_run program hosts input n).turns ≡ n)

-- with fewer turns the same is seen, as far as they go
abbrev pub FewerTurnsShowLess : Type 0
FewerTurnsShowLess = (program : TypedTree) (hosts : Hosts) (input : List ℕ) (m n : ℕ) → m ≤ n →
    (rest : List Event) × ((whole_run program hosts input n).events ≡ (whole_run program hosts input m).events ++ rest)

-- ---- sizes

-- The sizes by which objects are laid out are the numbers of their integer leaves.
abbrev pub SizesAreLeaves : Type 0
SizesAreLeaves = (structs : List StructInfo) (ty : VarTy) → cells_by (sizes_of structs) ty ≡ cells_of structs ty
