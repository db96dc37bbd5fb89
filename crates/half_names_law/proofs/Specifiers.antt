-- What the specifiers in a half's text say.
use Rattle.std.proofs.Common.{◌≡◌, ◌++◌, ◌∙◌, sym, ap, refl, ℕ, Bool, true, false, List, [], map, codes, Option, Some, None, is_none}
use Rattle.std.specs.Prelude.{not}
use Rattle.std.specs.Option.{option_map_or}
use Rattle.std.specs.List.{list_any}
use Rattle.pt_base.specs.declared.int_type.IntType.{IntType}
use Rattle.pt_base.specs.declared.int_type.IntType.TheVariants as i
use Rattle.pt_base.specs.declared.span.Span.{Span}
use Rattle.pt_base.proofs.Lists.{append_nil}
use Rattle.pt_tree.specs.declared.signature.Elem.{Elem}
use Rattle.pt_tree.specs.declared.signature.Elem.TheVariants as e
use Rattle.pt_tree.specs.declared.signature.Signature.{Signature}
use Rattle.pt_tree.specs.declared.word.Word.{Word}
use Rattle.pt_tree.specs.SpecifierTree.{SpecTree, SpecTrees, attribute, spec_and, spec_trees}
use Rattle.type_rules.specs.declared.types.Type.{«Type»}
use Rattle.type_rules.specs.declared.types.Type.TheVariants as ty
use Rattle.typed_tree.specs.declared.types.StructInfo.{StructInfo}
use Rattle.typed_tree.specs.declared.types.VarTy.{VarTy}
use Rattle.typed_tree.specs.TypeTests.{points_to_const}
use Rattle.pt_core.specs.Types.{element_of}
use Rattle.check_declarations.specs.declared.marks.Attribute.{Attribute}
use Rattle.check_declarations.specs.declared.fault.TypeFault.{TypeFault}
use Rattle.check_declarations.specs.declared.marks.Carrier.{Carrier}
use Rattle.check_declarations.specs.declared.fault.FaultKind.TheVariants.{UnknownName, OutOfProfile, BadAttribute}
use Rattle.check_declarations.specs.declared.marks.Mark.TheVariants.{Priv, Unpriv, Declassify}
use Rattle.check_declarations.specs.Faults.{fault_if}
use Rattle.check_declarations.specs.Marks.{attribute_of, marks_of, mark_faults, may_stand}
use Rattle.check_declarations.specs.NameTables.{number_of}
use Rattle.check_declarations.specs.Specifiers.{Judged, first_of, specified, named_by_all, keywords, attributes, base_of, has_storage_room}
use Rattle.check_declarations.specs.Structs.{Structs}
use Rattle.check_declarations.specs.Words.{same_words, are_one_of, named, is_const_word, is_extern_word}
use Rattle.half_trees.specs.Names.{nowhere, struct_name}
use Rattle.half_trees.specs.Declarations.{int_specs, elem_specs, result_specs, mark, mark_specs, const_specs, object_specs, function_specs}
use Rattle.half_meaning_law.specs.Known.{result_as}

-- ---- the type words

-- a list of specifiers that says this, and declares nothing
abbrev pub says : Structs → «Type» → Bool → List Attribute → Judged
says structs base fixed attributes = record {
  structs = structs;
  given = record { first = nowhere; base = base; fixed = fixed; external = false; attributes = attributes };
  faults = [];
}

abbrev pub elem_type : Elem → «Type»
elem_type (e.Int t) = ty.Int t
elem_type (e.Struct n) = ty.Struct n

-- the struct that the element is, if it is one, is known under its name
abbrev pub IsNamed : Structs → List StructInfo → Elem → Type 0
IsNamed structs infos (e.Int t) = Unit {0}
IsNamed structs infos (e.Struct n) = number_of structs (struct_name infos n) ≡ Some n

int_says : (at_file fixed : Bool) (structs : Structs) (t : IntType) → specified at_file structs (spec_trees (const_specs fixed ++ int_specs t)) ≡ says structs (ty.Int t) fixed []
unfolding same_words are_one_of
int_says true true structs i.Char = refl
int_says true true structs i.SChar = refl
int_says true true structs i.UChar = refl
int_says true true structs i.Short = refl
int_says true true structs i.UShort = refl
int_says true true structs i.Int = refl
int_says true true structs i.UInt = refl
int_says true true structs i.Long = refl
int_says true true structs i.ULong = refl
int_says true false structs i.Char = refl
int_says true false structs i.SChar = refl
int_says true false structs i.UChar = refl
int_says true false structs i.Short = refl
int_says true false structs i.UShort = refl
int_says true false structs i.Int = refl
int_says true false structs i.UInt = refl
int_says true false structs i.Long = refl
int_says true false structs i.ULong = refl
int_says false true structs i.Char = refl
int_says false true structs i.SChar = refl
int_says false true structs i.UChar = refl
int_says false true structs i.Short = refl
int_says false true structs i.UShort = refl
int_says false true structs i.Int = refl
int_says false true structs i.UInt = refl
int_says false true structs i.Long = refl
int_says false true structs i.ULong = refl
int_says false false structs i.Char = refl
int_says false false structs i.SChar = refl
int_says false false structs i.UChar = refl
int_says false false structs i.Short = refl
int_says false false structs i.UShort = refl
int_says false false structs i.Int = refl
int_says false false structs i.UInt = refl
int_says false false structs i.Long = refl
int_says false false structs i.ULong = refl

void_says : (structs : Structs) → specified true structs (spec_trees (result_specs None)) ≡ says structs ty.Void false []
unfolding same_words are_one_of
void_says structs = refl

-- what a struct's name says, by its number
abbrev struct_by : Bool → Structs → Option ℕ → Judged
struct_by fixed structs o = record {
  structs = structs;
  given = record { first = nowhere; base = option_map_or ty.Struct o ty.Bad; fixed = fixed; external = false; attributes = [] };
  faults = (fault_if (is_none o) UnknownName nowhere ++ []) ++ [];
}

struct_says : (at_file fixed : Bool) (structs : Structs) (infos : List StructInfo) (n : ℕ) → number_of structs (struct_name infos n) ≡ Some n
    → specified at_file structs (spec_trees (const_specs fixed ++ elem_specs infos (e.Struct n))) ≡ says structs (ty.Struct n) fixed []
unfolding same_words
struct_says true true structs infos n h = ap (struct_by true structs) h
struct_says true false structs infos n h = ap (struct_by false structs) h
struct_says false true structs infos n h = ap (struct_by true structs) h
struct_says false false structs infos n h = ap (struct_by false structs) h

pub elem_says : (at_file fixed : Bool) (structs : Structs) (infos : List StructInfo) (elem : Elem) → IsNamed structs infos elem → specified at_file structs (spec_trees (const_specs fixed ++ elem_specs infos elem)) ≡ says structs (elem_type elem) fixed []
elem_says at_file fixed structs infos (e.Int t) h = int_says at_file fixed structs t
elem_says at_file fixed structs infos (e.Struct n) h = struct_says at_file fixed structs infos n h

-- ---- with marks before them

abbrev with_attributes : List Attribute → Judged → Judged
with_attributes more j = record {
  structs = j.structs;
  given = record { first = j.given.first; base = j.given.base; fixed = j.given.fixed; external = j.given.external; attributes = more ++ j.given.attributes };
  faults = j.faults;
}

-- the same, by where the first specifier stands
abbrev by_first : Bool → Structs → List Word → SpecTrees → Span → Judged
by_first at_file structs names specs first =
    let n = named_by_all at_file first structs specs in
    let words = keywords specs in
    record {
      structs = n.structs;
      given = record {
        first = first;
        base = base_of (has_storage_room at_file words) (named words n.types);
        fixed = list_any is_const_word words;
        external = list_any is_extern_word words;
        attributes = map attribute_of names ++ attributes specs;
      };
      faults = n.faults ++ (fault_if (not (has_storage_room at_file words)) OutOfProfile first ++ fault_if (is_none (named words n.types)) OutOfProfile first);
    }

attribute_says : (at_file : Bool) (structs : Structs) (names : List Word) (specs : SpecTrees) → first_of specs ≡ nowhere
    → specified at_file structs (spec_and (attribute nowhere names) specs) ≡ with_attributes (map attribute_of names) (specified at_file structs specs)
attribute_says at_file structs names specs h = sym (ap (by_first at_file structs names specs) h)

-- the words of an attribute with these marks
abbrev pub mark_words : Bool → Bool → Bool → List Word
mark_words priv unpriv declassify = mark priv (codes "priv") ++ (mark unpriv (codes "unpriv") ++ mark declassify (codes "declassify"))

abbrev pub marks_list : Bool → Bool → Bool → List Attribute
marks_list priv unpriv declassify = map attribute_of (mark_words priv unpriv declassify)

marked_says : (at_file : Bool) (structs : Structs) (a b c : Bool) (xs : List SpecTree) → first_of (spec_trees xs) ≡ nowhere
    → specified at_file structs (spec_trees (mark_specs a b c ++ xs)) ≡ with_attributes (marks_list a b c) (specified at_file structs (spec_trees xs))
marked_says at_file structs true true true xs h = attribute_says at_file structs (mark_words true true true) (spec_trees xs) h
marked_says at_file structs true true false xs h = attribute_says at_file structs (mark_words true true false) (spec_trees xs) h
marked_says at_file structs true false true xs h = attribute_says at_file structs (mark_words true false true) (spec_trees xs) h
marked_says at_file structs true false false xs h = attribute_says at_file structs (mark_words true false false) (spec_trees xs) h
marked_says at_file structs false true true xs h = attribute_says at_file structs (mark_words false true true) (spec_trees xs) h
marked_says at_file structs false true false xs h = attribute_says at_file structs (mark_words false true false) (spec_trees xs) h
marked_says at_file structs false false true xs h = attribute_says at_file structs (mark_words false false true) (spec_trees xs) h
marked_says at_file structs false false false xs h = refl

-- ---- objects and results

int_first : (t : IntType) → first_of (spec_trees (int_specs t)) ≡ nowhere
int_first i.Char = refl
int_first i.SChar = refl
int_first i.UChar = refl
int_first i.Short = refl
int_first i.UShort = refl
int_first i.Int = refl
int_first i.UInt = refl
int_first i.Long = refl
int_first i.ULong = refl

elem_first : (fixed : Bool) (infos : List StructInfo) (elem : Elem) → first_of (spec_trees (const_specs fixed ++ elem_specs infos elem)) ≡ nowhere
elem_first true infos elem = refl
elem_first false infos (e.Int t) = int_first t
elem_first false infos (e.Struct n) = refl

result_first : (o : Option IntType) → first_of (spec_trees (result_specs o)) ≡ nowhere
result_first None = refl
result_first (Some t) = int_first t

with_says : (structs : Structs) (base : «Type») (fixed : Bool) (more : List Attribute) (j : Judged) → j ≡ says structs base fixed [] → with_attributes more j ≡ says structs base fixed more
with_says structs base fixed attributes j h = ap (with_attributes attributes) h ∙ ap (says structs base fixed) (append_nil attributes)

-- the specifiers of an object of this type
pub object_says : (at_file : Bool) (structs : Structs) (infos : List StructInfo) (a b c : Bool) (u : VarTy) → IsNamed structs infos (element_of u)
    → specified at_file structs (spec_trees (mark_specs a b c ++ object_specs infos u)) ≡ says structs (elem_type (element_of u)) (points_to_const (Some u)) (marks_list a b c)
object_says at_file structs infos a b c u h =
    marked_says at_file structs a b c (object_specs infos u) (elem_first (points_to_const (Some u)) infos (element_of u))
    ∙ with_says structs (elem_type (element_of u)) (points_to_const (Some u)) (marks_list a b c) (specified at_file structs (spec_trees (object_specs infos u)))
    (elem_says at_file (points_to_const (Some u)) structs infos (element_of u) h)

result_says : (structs : Structs) (o : Option IntType) → specified true structs (spec_trees (result_specs o)) ≡ says structs (result_as o) false []
result_says structs None = void_says structs
result_says structs (Some t) = int_says true false structs t

-- the specifiers of a function
pub function_says : (structs : Structs) (s : Signature) → specified true structs (spec_trees (function_specs s)) ≡ says structs (result_as s.result) false (marks_list s.privileged false s.declassify)
function_says structs s =
    marked_says true structs s.privileged false s.declassify (result_specs s.result) (result_first s.result)
    ∙ with_says structs (result_as s.result) false (marks_list s.privileged false s.declassify) (specified true structs (spec_trees (result_specs s.result))) (result_says structs s.result)

-- ---- marks

pub marks_are : (a b c : Bool) → marks_of (marks_list a b c) ≡ record { marked = a; unpriv = b; declassify = c }
marks_are true true true = refl
marks_are true true false = refl
marks_are true false true = refl
marks_are true false false = refl
marks_are false true true = refl
marks_are false true false = refl
marks_are false false true = refl
marks_are false false false = refl

one_stands : (x : Bool) (rest : List TypeFault) → x ≡ true → rest ≡ [] → fault_if (not x) BadAttribute nowhere ++ rest ≡ []
one_stands true rest h k = k
one_stands false rest h k = cc

-- each mark may stand there
pub marks_stand : (at : Carrier) (a b c : Bool) → (a ≡ true → may_stand at a Priv ≡ true) → (b ≡ true → may_stand at a Unpriv ≡ true) → (c ≡ true → may_stand at a Declassify ≡ true) → mark_faults at (marks_list a b c) ≡ []
marks_stand at true true true p q r = one_stands (may_stand at true Priv) _ (p refl) (one_stands (may_stand at true Unpriv) _ (q refl) (one_stands (may_stand at true Declassify) _ (r refl) refl))
marks_stand at true true false p q r = one_stands (may_stand at true Priv) _ (p refl) (one_stands (may_stand at true Unpriv) _ (q refl) refl)
marks_stand at true false true p q r = one_stands (may_stand at true Priv) _ (p refl) (one_stands (may_stand at true Declassify) _ (r refl) refl)
marks_stand at true false false p q r = one_stands (may_stand at true Priv) _ (p refl) refl
marks_stand at false true true p q r = one_stands (may_stand at false Unpriv) _ (q refl) (one_stands (may_stand at false Declassify) _ (r refl) refl)
marks_stand at false true false p q r = one_stands (may_stand at false Unpriv) _ (q refl) refl
marks_stand at false false true p q r = one_stands (may_stand at false Declassify) _ (r refl) refl
marks_stand at false false false p q r = refl
