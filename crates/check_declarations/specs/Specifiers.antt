-- What a list of specifiers says, and the structs that it declares (C99 6.7.1 to 6.7.3).
use Rattle.std.specs.Prelude.{List, [], ◌∷◌, ◌++◌, Bool, true, false, not, ◌||◌, Option, Some, None, option_to_list, is_none, unwrap_or, length, map, count_by, nat_eq, nat_le, if◌then◌else◌}
use Rattle.std.specs.List.{list_any}
use Rattle.pt_base.specs.declared.span.Span.{Span}
use Rattle.pt_tree.specs.declared.word.Word.{Word}
use Rattle.pt_tree.specs.declared.specifier.SpecWord.{SpecWord}
use Rattle.pt_tree.specs.declared.specifier.FieldDecl.{FieldDecl}
use Rattle.pt_tree.specs.SpecifierTree.{SpecTree, SpecTrees, FieldTree, FieldTrees, attribute, keyword, structure, no_specs, spec_and, field, no_fields, field_and, view_field, field_trees}
use Rattle.type_rules.specs.declared.types.Type.{«Type»}
use Rattle.type_rules.specs.declared.types.Type.TheVariants as ty
use Rattle.check_declarations.specs.declared.fault.TypeFault.{TypeFault}
use Rattle.check_declarations.specs.declared.fault.FaultKind.TheVariants.{UnknownName, Redeclared, OutOfProfile}
use Rattle.check_declarations.specs.declared.marks.Attribute.{Attribute}
use Rattle.check_declarations.specs.declared.marks.Carrier.TheVariants as carrier
use Rattle.check_declarations.specs.declared.specifiers.Specified.{Specified}
use Rattle.check_declarations.specs.Faults.{fault_if}
use Rattle.check_declarations.specs.NameTables.{is_new}
use Rattle.check_declarations.specs.Structs.{Fields, Structs, struct_type, with_struct}
use Rattle.check_declarations.specs.Words.{named, is_const_word, is_extern_word, is_storage_word, storage_limit}
use Rattle.check_declarations.specs.Marks.{attribute_of, mark_faults}
use Rattle.check_declarations.specs.Fields.{declared}

-- ---- the parts of a list

abbrev pub span_of : SpecTree → Span
span_of (attribute s names) = s
span_of (keyword s w) = s
span_of (structure s tag body) = s

-- where the first specifier stands; each list of a parsed program has one
abbrev pub first_of : SpecTrees → Span
first_of no_specs = record { from = 0; to = 0 }
first_of (spec_and s rest) = span_of s

abbrev pub keyword_of : SpecTree → Option SpecWord
keyword_of (attribute s names) = None
keyword_of (keyword s w) = Some w
keyword_of (structure s tag body) = None

abbrev pub keywords : SpecTrees → List SpecWord
keywords no_specs = []
keywords (spec_and s rest) = option_to_list (keyword_of s) ++ keywords rest

-- the names in an attribute
abbrev pub names_of : SpecTree → List Word
names_of (attribute s names) = names
names_of (keyword s w) = []
names_of (structure s tag body) = []

abbrev pub attributes : SpecTrees → List Attribute
attributes no_specs = []
attributes (spec_and s rest) = map attribute_of (names_of s) ++ attributes rest

-- ---- the struct specifiers: they name types, and those with a body declare structs

-- the structs declared so far, the type that each struct specifier names, and the faults
pub record Naming : Type 0 where
  pub structs : Structs
  pub types : List «Type»
  pub faults : List TypeFault

-- the same of a struct's body, which names no types but has fields
pub record Body : Type 0 where
  pub structs : Structs
  pub fields : Fields
  pub faults : List TypeFault

-- a struct specifier without a body names the struct of its tag
abbrev pub referred : Structs → Word → Naming
referred structs tag = record {
  structs = structs;
  types = struct_type structs tag.bytes ∷ [];
  faults = fault_if (is_new structs tag.bytes) UnknownName tag.span;
}

-- a struct specifier with a body, at its closing brace: of two structs of one tag the first stays.
-- Bodies stand at file scope; another is judged all the same, but names no type. One that declares no
-- field is left out too (C99 6.7.2.1p7)
unfoldable pub defined : Bool → Span → Word → Structs → Fields → Naming
defined at_file first tag structs fields =
    let after = with_struct structs tag.bytes fields in
    record {
      structs = after;
      types = (if at_file then struct_type after tag.bytes else ty.Bad) ∷ [];
      faults =
          fault_if (not (is_new structs tag.bytes)) Redeclared tag.span
          ++ fault_if (not at_file || nat_eq (length fields) 0) OutOfProfile first;
    }

-- the same, with the faults of the body before it
abbrev pub defined_by : Bool → Span → Word → Body → Naming
defined_by at_file first tag body =
    let n = defined at_file first tag body.structs body.fields in
    record { structs = n.structs; types = n.types; faults = body.faults ++ n.faults }

-- ---- the whole list

-- the structs after a list of specifiers, what the list says, and its faults
pub record Judged : Type 0 where
  pub structs : Structs
  pub given : Specified
  pub faults : List TypeFault

-- no more storage words than may stand there
abbrev pub has_storage_room : Bool → List SpecWord → Bool
has_storage_room at_file words = nat_le (count_by is_storage_word words) (storage_limit at_file)

-- the type that is named, if there is one and no storage word too many
abbrev pub base_of : Bool → Option «Type» → «Type»
base_of has_room named = if has_room then unwrap_or named ty.Bad else ty.Bad

abbrev pub given_by : Bool → SpecTrees → List «Type» → Specified
given_by at_file specs types =
    let words = keywords specs in
    record {
      first = first_of specs;
      base = base_of (has_storage_room at_file words) (named words types);
      fixed = list_any is_const_word words;
      external = list_any is_extern_word words;
      attributes = attributes specs;
    }

-- a combination of words that this profile doesn't have
abbrev pub word_faults : Bool → SpecTrees → List «Type» → List TypeFault
word_faults at_file specs types =
    fault_if (not (has_storage_room at_file (keywords specs))) OutOfProfile (first_of specs)
    ++ fault_if (is_none (named (keywords specs) types)) OutOfProfile (first_of specs)

abbrev pub judged : Bool → SpecTrees → Naming → Judged
judged at_file specs n = record {
  structs = n.structs;
  given = given_by at_file specs n.types;
  faults = n.faults ++ word_faults at_file specs n.types;
}

-- the declarations of a struct's body
abbrev pub view_body : List FieldDecl → FieldTrees
view_body body = field_trees (map view_field body)

abbrev pub has_fields : FieldTrees → Bool
has_fields no_fields = false
has_fields (field_and f rest) = true

abbrev mutual
  -- what one specifier names
  pub named_by : Bool → Span → Structs → SpecTree → Naming
  named_by at_file first structs (attribute s names) = record { structs = structs; types = []; faults = [] }
  named_by at_file first structs (keyword s w) = record { structs = structs; types = []; faults = [] }
  named_by at_file first structs (structure s tag fs) =
      if has_fields fs then defined_by at_file first tag (body_of structs [] fs) else referred structs tag

  pub named_by_all : Bool → Span → Structs → SpecTrees → Naming
  named_by_all at_file first structs no_specs = record { structs = structs; types = []; faults = [] }
  named_by_all at_file first structs (spec_and s specs) =
      let one = named_by at_file first structs s in
      let rest = named_by_all at_file first one.structs specs in
      record { structs = rest.structs; types = one.types ++ rest.types; faults = one.faults ++ rest.faults }

  -- a struct's fields after one more declaration, whose specifiers don't stand at file scope
  pub with_field : Structs → Fields → FieldTree → Body
  with_field structs fields (field s specs declarators) =
      let j = judged false specs (named_by_all false (first_of specs) structs specs) in
      let d = declared j.structs j.given fields declarators in
      record { structs = j.structs; fields = d.fields; faults = j.faults ++ mark_faults carrier.Field j.given.attributes ++ d.faults }

  pub body_of : Structs → Fields → FieldTrees → Body
  body_of structs fields no_fields = record { structs = structs; fields = fields; faults = [] }
  body_of structs fields (field_and f fs) =
      let one = with_field structs fields f in
      let rest = body_of one.structs one.fields fs in
      record { structs = rest.structs; fields = rest.fields; faults = one.faults ++ rest.faults }

-- what the struct specifiers of a list name
abbrev pub named_types : Bool → Structs → SpecTrees → Naming
named_types at_file structs specs = named_by_all at_file (first_of specs) structs specs

abbrev pub specified : Bool → Structs → SpecTrees → Judged
specified at_file structs specs = judged at_file specs (named_types at_file structs specs)

-- what a struct specifier names, with its body or without
abbrev pub named_struct : Bool → Span → Structs → Word → List FieldDecl → Naming
named_struct at_file first structs tag body = named_by at_file first structs (structure first tag (view_body body))
