-- A table of what is known of each function, and how it grows item by item.
use Rattle.std.specs.Prelude.{◌≡◌, ℕ, List, [], ◌∷◌, ◌++◌, ◌+◌, false, Vec, unwrap_or, slice_get, slice_set, if◌then◌else◌}
use Rattle.std.specs.Map.{lookup}
use Rattle.std.specs.Option.{option_map_or}
use Rattle.std.specs.Str.{bytes_eq}
use Rattle.std.specs.declared.alloc.Global.{Global}
use Rattle.pt_tree.specs.ProgramTree.{FunctionTree, ItemTree, declares, function}
use Rattle.check_declarations.specs.declared.marks.Marks.{Marks}
use Rattle.check_programs.specs.declared.function_marks.FunctionMarks.{FunctionMarks}
use Rattle.check_programs.specs.Unions.{both, undeclared, with_declaration}

-- what is known of each function, by name
abbrev pub Known : Type 0
Known = List ℕ → FunctionMarks

-- as the entries of a table say it; of a function without an entry nothing is declared
abbrev pub marks_in : List (Vec ℕ Global × FunctionMarks) → Known
marks_in entries name = unwrap_or (lookup (λ k. bytes_eq name k.items) entries) undeclared

-- the same for all names but one
abbrev pub KeepsOthers : List ℕ → Known → Known → Type 0
KeepsOthers name before after = (other : List ℕ) → bytes_eq name other ≡ false → after other ≡ before other

-- one function is marked so
abbrev pub with_marks : Known → List ℕ → FunctionMarks → Known
with_marks known name marks other = if bytes_eq name other then marks else known other

-- a further declaration
abbrev pub with_function : Known → FunctionTree → Known
with_function known f name = if bytes_eq f.declarator.name.bytes name then with_declaration (known name) f else known name

abbrev pub with_item : Known → ItemTree → Known
with_item known (declares d) = known
with_item known (function f) = with_function known f

abbrev pub with_items : Known → List ItemTree → Known
with_items known [] = known
with_items known (item ∷ items) = with_items (with_item known item) items

-- nothing is declared
abbrev pub nothing_known : Known
nothing_known name = undeclared

-- marks added at a position, or behind the last one
abbrev pub with_marks_at : List Marks → ℕ → Marks → List Marks
with_marks_at ms k own = option_map_or (λ m. slice_set ms k (both m own)) (slice_get ms k) (ms ++ own ∷ [])

-- from position k on
abbrev pub with_marks_from : List Marks → ℕ → List Marks → List Marks
with_marks_from ms k [] = ms
with_marks_from ms k (own ∷ owns) = with_marks_from (with_marks_at ms k own) (k + 1) owns
