-- What holds of declarations without a fault.
use Rattle.std.specs.Prelude.{◌≡◌, ℕ, [], ◌++◌, Bool, false, IsTrue, length, map, nat_le}
use Rattle.pt_base.specs.declared.span.Span.{Span}
use Rattle.pt_tree.specs.SpecifierTree.{SpecTrees}
use Rattle.pt_tree.specs.declared.specifier.Suffix.{Suffix}
use Rattle.type_rules.specs.declared.types.Type.{«Type»}
use Rattle.type_rules.specs.declared.types.Type.TheVariants as ty
use Rattle.typed_tree.specs.Cells as typed
use Rattle.typed_tree.specs.WellFormed.{structs_sound}
use Rattle.check_declarations.specs.declared.objects.ObjectKind.{ObjectKind}
use Rattle.check_declarations.specs.declared.specifiers.Specified.{Specified}
use Rattle.check_declarations.specs.Cells.{cells_of}
use Rattle.check_declarations.specs.Objects.{object_faults, object_type, size_faults, result_faults, result_type}
use Rattle.check_declarations.specs.Specifiers.{Judged, specified}
use Rattle.check_declarations.specs.Structs.{Structs}
use Rattle.check_expressions.specs.StructInfos.{object_type_of, infos_of}
use Rattle.check_statements.specs.Leaves.{leaves_of}
use Rattle.type_law.specs.DeclarationsTypes.{is_base, is_object, is_plain, is_result}
use Rattle.type_law.specs.DeclarationsSound.{SoundStructs}

-- specifiers behind these structs: they declare structs at file scope alone, the table stays sound, and
-- the base is a good type
pub record SoundJudged (at_file : Bool) (structs : Structs) (j : Judged) : Type 0 where
  pub more : Structs
  pub grown : j.structs ≡ structs ++ more
  pub none : at_file ≡ false → j.structs ≡ structs
  pub sound : SoundStructs j.structs
  pub base : IsTrue (is_base (length j.structs) j.given.base)

abbrev pub SpecifiersAreSound : Type 0
SpecifiersAreSound = (at_file : Bool) (structs : Structs) (specs : SpecTrees) → SoundStructs structs →
    (specified at_file structs specs).faults ≡ [] → SoundJudged at_file structs (specified at_file structs specs)

-- what a declarator makes of a good base
abbrev pub ObjectsAreSound : Type 0
ObjectsAreSound = (kind : ObjectKind) (structs : ℕ) (given : Specified) (pointer : Bool) (suffix : Suffix) (at : Span) →
    IsTrue (is_base structs given.base) → object_faults kind given pointer suffix at ≡ [] →
    IsTrue (is_object kind structs (object_type kind given pointer suffix))

abbrev pub ResultsAreSound : Type 0
ResultsAreSound = (structs : ℕ) (given : Specified) (pointer : Bool) (suffix : Suffix) (at : Span) →
    IsTrue (is_base structs given.base) → result_faults given pointer suffix at ≡ [] →
    IsTrue (is_result (result_type given pointer suffix))

-- the typed tree counts the cells of an object that isn't too large alike, whatever structs come later
abbrev pub SizesAreSound : Type 0
SizesAreSound = (structs more : Structs) (t : «Type») (at : Span) → SoundStructs (structs ++ more) →
    IsTrue (is_plain (length structs) t) → size_faults structs t at ≡ [] →
    (typed.cells_of (infos_of (structs ++ more)) (object_type_of t) ≡ cells_of structs t) ×
    IsTrue (nat_le (typed.cells_of (infos_of (structs ++ more)) (object_type_of t)) 65_536)

-- and it has the same integers, in order
abbrev pub LeavesAreSound : Type 0
LeavesAreSound = (structs more : Structs) (t : «Type») (at : Span) → SoundStructs (structs ++ more) →
    IsTrue (is_plain (length structs) t) → size_faults structs t at ≡ [] →
    leaves_of structs t ≡ map ty.Int (typed.leaves_of (infos_of (structs ++ more)) (object_type_of t))

-- a sound table makes a well formed list of structs
abbrev pub StructsAreWellFormed : Type 0
StructsAreWellFormed = (structs : Structs) → SoundStructs structs →
    IsTrue (structs_sound (infos_of structs) 0 (infos_of structs))
