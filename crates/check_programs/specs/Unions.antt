-- What all declarations of a function say of it together.
use Rattle.std.specs.Prelude.{ℕ, List, [], ◌∷◌, false, ◌||◌, is_some, map, fold, slice_get, unwrap_or, if◌then◌else◌}
use Rattle.std.specs.Str.{bytes_eq}
use Rattle.pt_tree.specs.SpecifierTree.{SpecTrees}
use Rattle.pt_tree.specs.ProgramTree.{ParamTree, FunctionTree, ItemTree, declares, function}
use Rattle.check_declarations.specs.declared.marks.Marks.{Marks}
use Rattle.check_declarations.specs.Marks.{marks_of}
use Rattle.check_declarations.specs.Specifiers.{attributes}
use Rattle.check_programs.specs.declared.function_marks.FunctionMarks.{FunctionMarks}

-- the declarations and definitions of the function of this name, in order
abbrev pub declarations_of : List ItemTree → List ℕ → List FunctionTree
declarations_of [] name = []
declarations_of (declares d ∷ items) name = declarations_of items name
declarations_of (function f ∷ items) name =
    if bytes_eq f.declarator.name.bytes name then f ∷ declarations_of items name else declarations_of items name

-- the marks among specifiers
abbrev pub own_marks : SpecTrees → Marks
own_marks specs = marks_of (attributes specs)

abbrev pub no_marks : Marks
no_marks = record { marked = false; unpriv = false; declassify = false }

abbrev pub both : Marks → Marks → Marks
both a b = record { marked = a.marked || b.marked; unpriv = a.unpriv || b.unpriv; declassify = a.declassify || b.declassify }

-- position by position
abbrev pub union : List Marks → List Marks → List Marks
union [] bs = bs
union (a ∷ ms) [] = a ∷ ms
union (a ∷ ms) (b ∷ bs) = both a b ∷ union ms bs

-- the marks at a position
abbrev pub marks_at : List Marks → ℕ → Marks
marks_at ms k = unwrap_or (slice_get ms k) no_marks

-- nothing is declared
abbrev pub undeclared : FunctionMarks
undeclared = record { privileged = false; declassify = false; defined = false; params = [] }

abbrev pub params_marks : List ParamTree → List Marks
params_marks ps = map (λ p. own_marks p.specs) ps

-- what one more declaration adds
abbrev pub with_declaration : FunctionMarks → FunctionTree → FunctionMarks
with_declaration m f = record {
  privileged = m.privileged || (own_marks f.specs).marked;
  declassify = m.declassify || (own_marks f.specs).declassify;
  defined = m.defined || is_some f.body;
  params = union m.params (params_marks f.params);
}

-- the union over these declarations
abbrev pub all_marks : List FunctionTree → FunctionMarks
all_marks declarations = fold with_declaration undeclared declarations

-- what a program says of the function of this name
abbrev pub function_marks : List ItemTree → List ℕ → FunctionMarks
function_marks items name = all_marks (declarations_of items name)
