-- The specifiers in a half are plain, and there is always one.
use Rattle.std.proofs.Common.{◌≡◌, ◌++◌, Bool, true, false, List, [], ◌∷◌, Option, Some, None, refl}
use Rattle.std.specs.Prelude.{◌&&◌}
use Rattle.std.specs.List.{list_all}
use Rattle.std.proofs.lemmas.Bool.{and_parts}
use Rattle.pt_base.specs.declared.int_type.IntType.{IntType}
use Rattle.pt_base.specs.declared.int_type.IntType.TheVariants as i
use Rattle.pt_base.proofs.Members.{all_true_append}
use Rattle.pt_tree.specs.declared.signature.Elem.{Elem}
use Rattle.pt_tree.specs.declared.signature.Elem.TheVariants as e
use Rattle.pt_tree.specs.declared.signature.Signature.{Signature}
use Rattle.pt_tree.specs.SpecifierTree.{SpecTree, spec_trees}
use Rattle.typed_tree.specs.declared.types.StructInfo.{StructInfo}
use Rattle.typed_tree.specs.declared.types.VarTy.{VarTy}
use Rattle.typed_tree.specs.TypeTests.{points_to_const}
use Rattle.pt_core.specs.Types.{element_of}
use Rattle.c_lexer.specs.Spelling.{keyword_of}
use Rattle.c_printer.specs.Plain.{spec_plain, each_spec_plain, specs_plain}
use Rattle.half_trees.specs.Declarations.{int_specs, elem_specs, result_specs, mark_specs, const_specs, object_specs, function_specs}
use Rattle.half_trees.specs.Functions.{head_specs}
use Rattle.half_trees_law.proofs.Tests.{both}
use Rattle.half_trees_law.proofs.Names.{struct_is_name}

each_plain : (ss : List SpecTree) → list_all spec_plain ss ≡ true → each_spec_plain (spec_trees ss) ≡ true
each_plain [] h = refl
each_plain (s ∷ ss) h = let parts = and_parts (spec_plain s) (list_all spec_plain ss) h in both parts.0 (each_plain ss parts.1)

-- all plain, and at least one
abbrev are_some : List SpecTree → Bool
are_some [] = false
are_some (s ∷ ss) = spec_plain s && list_all spec_plain ss

all_of_some : (ss : List SpecTree) → are_some ss ≡ true → list_all spec_plain ss ≡ true
all_of_some [] h = refl
all_of_some (s ∷ ss) h = h

trees_plain : (ss : List SpecTree) → are_some ss ≡ true → specs_plain (spec_trees ss) ≡ true
trees_plain [] h = h
trees_plain (s ∷ ss) h = let parts = and_parts (spec_plain s) (list_all spec_plain ss) h in both parts.0 (each_plain ss parts.1)

behind : (xs ys : List SpecTree) → list_all spec_plain xs ≡ true → are_some ys ≡ true → are_some (xs ++ ys) ≡ true
behind [] ys h k = k
behind (x ∷ xs) ys h k = let parts = and_parts (spec_plain x) (list_all spec_plain xs) h in both parts.0 (all_true_append spec_plain xs ys parts.1 (all_of_some ys k))

pub marks_plain : (priv unpriv declassify : Bool) → list_all spec_plain (mark_specs priv unpriv declassify) ≡ true
unfolding keyword_of
marks_plain true true true = refl
marks_plain true true false = refl
marks_plain true false true = refl
marks_plain true false false = refl
marks_plain false true true = refl
marks_plain false true false = refl
marks_plain false false true = refl
marks_plain false false false = refl

ints_some : (t : IntType) → are_some (int_specs t) ≡ true
ints_some i.Char = refl
ints_some i.SChar = refl
ints_some i.UChar = refl
ints_some i.Short = refl
ints_some i.UShort = refl
ints_some i.Int = refl
ints_some i.UInt = refl
ints_some i.Long = refl
ints_some i.ULong = refl

elem_some : (structs : List StructInfo) (elem : Elem) → are_some (elem_specs structs elem) ≡ true
elem_some structs (e.Int t) = ints_some t
elem_some structs (e.Struct n) = both (both (struct_is_name structs n) refl) refl

const_plain : (fixed : Bool) → list_all spec_plain (const_specs fixed) ≡ true
const_plain true = refl
const_plain false = refl

result_some : (o : Option IntType) → are_some (result_specs o) ≡ true
result_some None = refl
result_some (Some t) = ints_some t

pub int_specs_plain : (t : IntType) → specs_plain (spec_trees (int_specs t)) ≡ true
int_specs_plain t = trees_plain (int_specs t) (ints_some t)

pub object_specs_plain : (structs : List StructInfo) (marks : List SpecTree) (ty : VarTy) → list_all spec_plain marks ≡ true → specs_plain (spec_trees (marks ++ object_specs structs ty)) ≡ true
object_specs_plain structs marks ty h =
    trees_plain (marks ++ object_specs structs ty)
    (behind marks (object_specs structs ty) h (behind (const_specs (points_to_const (Some ty))) (elem_specs structs (element_of ty)) (const_plain (points_to_const (Some ty))) (elem_some structs (element_of ty))))

function_some : (s : Signature) → are_some (function_specs s) ≡ true
function_some s = behind (mark_specs s.privileged false s.declassify) (result_specs s.result) (marks_plain s.privileged false s.declassify) (result_some s.result)

pub function_specs_plain : (s : Signature) → specs_plain (spec_trees (function_specs s)) ≡ true
function_specs_plain s = trees_plain (function_specs s) (function_some s)

pub head_specs_plain : (o : Option Signature) → specs_plain (spec_trees (head_specs o)) ≡ true
head_specs_plain None = trees_plain (result_specs None) (result_some None)
head_specs_plain (Some s) = function_specs_plain s
