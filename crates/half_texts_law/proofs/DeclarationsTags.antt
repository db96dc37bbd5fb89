-- Tables name each of their entries apart, whatever the faults are.
use Rattle.std.proofs.Common.{◌≡◌, ◌∙◌, sym, ap, subst, refl, ℕ, zero, suc, Bool, true, false, List, [], ◌∷◌, ◌++◌, map, arith, ◌+◌, cond, if◌then◌else◌, not, length, Option, Some, None}
use Rattle.std.specs.Prelude.{IsTrue, ◌&&◌, ◌||◌, slice_get, nat_eq}
use Rattle.std.specs.List.{list_all, list_any}
use Rattle.std.specs.Str.{bytes_eq}
use Rattle.pt_base.specs.declared.span.Span.{Span}
use Rattle.pt_base.proofs.Booleans.{both_hold, both_hold_first, both_hold_second, from_not_true}
use Rattle.pt_tree.specs.declared.specifier.Declarator.{Declarator}
use Rattle.pt_tree.specs.declared.word.Word.{Word}
use Rattle.pt_tree.specs.SpecifierTree.{SpecTree, SpecTrees, FieldTree, FieldTrees, attribute, keyword, structure, no_specs, spec_and, field, no_fields, field_and}
use Rattle.typed_tree.specs.declared.types.StructInfo.{StructInfo}
use Rattle.typed_tree.specs.WellFormed.{are_distinct}
use Rattle.check_declarations.specs.declared.specifiers.Specified.{Specified}
use Rattle.check_declarations.specs.declared.structs.FieldEntry.{FieldEntry}
use Rattle.check_declarations.specs.declared.structs.StructEntry.{StructEntry}
use Rattle.check_declarations.specs.Fields.{declared, field_of}
use Rattle.check_declarations.specs.NameTables.{Named, is_new, with_name}
use Rattle.check_declarations.specs.Specifiers.{Naming, Body, Judged, defined, has_fields, named_by, named_by_all, with_field, body_of, judged, specified, first_of, view_body}
use Rattle.check_declarations.specs.Structs.{Fields, Structs, struct_of, with_struct}
use Rattle.check_expressions.specs.StructInfos.{field_info, struct_info, infos_of}
use Rattle.type_law.proofs.ProgramsTableLemmas.{sought, none_where_new}
use Rattle.half_texts_law.proofs.DeclarationsNames.{name_other}

abbrev pub names_in : {X : Type 0} → Named X → List (List ℕ)
names_in table = map (λ e. e.0) table

abbrev pub Apart : {X : Type 0} → Named X → Type 0
Apart table = IsTrue (are_distinct (names_in table))

-- ---- one name more

module _ {X : Type 0} where
  pushed_none : (a b : List ℕ) (table : Named X) (x : X) → list_any (bytes_eq a) (names_in table) ≡ false → bytes_eq a b ≡ false → list_any (bytes_eq a) (names_in (table ++ (b, x) ∷ [])) ≡ false
  pushed_none a b [] x h i = ap (λ c. c || false) i
  pushed_none a b (e ∷ table) x h i = go (λ j. pushed_none a b table x j i) (bytes_eq a e.0) h
    where
      go : (list_any (bytes_eq a) (names_in table) ≡ false → list_any (bytes_eq a) (names_in (table ++ (b, x) ∷ [])) ≡ false) → (c : Bool)
          → (c || list_any (bytes_eq a) (names_in table)) ≡ false → (c || list_any (bytes_eq a) (names_in (table ++ (b, x) ∷ []))) ≡ false
      go again true h = cc
      go again false h = again h

  pushed_apart : (table : Named X) (b : List ℕ) (x : X) → sought table b ≡ None → Apart table → Apart (table ++ (b, x) ∷ [])
  pushed_apart [] b x new h = refl
  pushed_apart (e ∷ table) b x new h = go (λ n. pushed_apart table b x n (both_hold_second (not (list_any (bytes_eq e.0) (names_in table))) (are_distinct (names_in table)) h)) (bytes_eq b e.0) refl new
    where
      go : (sought table b ≡ None → Apart (table ++ (b, x) ∷ [])) → (c : Bool) → bytes_eq b e.0 ≡ c → (if c then Some e.1 else sought table b) ≡ None → Apart (e ∷ (table ++ (b, x) ∷ []))
      go again true i n = cc
      go again false i n =
          both_hold (not (list_any (bytes_eq e.0) (names_in (table ++ (b, x) ∷ [])))) (are_distinct (names_in (table ++ (b, x) ∷ [])))
          (ap not (pushed_none e.0 b table x (from_not_true (list_any (bytes_eq e.0) (names_in table)) (both_hold_first (not (list_any (bytes_eq e.0) (names_in table))) (are_distinct (names_in table)) h)) (name_other b e.0 i)))
          (again n)

  pub with_apart : (table : Named X) (b : List ℕ) (x : X) → Apart table → Apart (with_name table b x)
  with_apart table b x h = go (is_new table b) refl
    where
      go : (c : Bool) → is_new table b ≡ c → Apart (if c then table ++ (b, x) ∷ [] else table)
      go true e = pushed_apart table b x (none_where_new table b e) h
      go false e = h

-- ---- structs and their fields

abbrev fields_apart : List ℕ × StructEntry → Bool
fields_apart s = are_distinct (names_in s.1.fields)

pub record Structured (structs : Structs) : Type 0 where
  pub tags : Apart structs
  pub fields : IsTrue (list_all fields_apart structs)

pushed_all : (structs : Structs) (s : List ℕ × StructEntry) → IsTrue (list_all fields_apart structs) → IsTrue (fields_apart s) → IsTrue (list_all fields_apart (structs ++ s ∷ []))
pushed_all [] s h i = both_hold (fields_apart s) true i refl
pushed_all (e ∷ structs) s h i = both_hold (fields_apart e) (list_all fields_apart (structs ++ s ∷ [])) (both_hold_first (fields_apart e) (list_all fields_apart structs) h) (pushed_all structs s (both_hold_second (fields_apart e) (list_all fields_apart structs) h) i)

struct_more : (structs : Structs) (tag : List ℕ) (fields : Fields) → Structured structs → Apart fields → Structured (with_struct structs tag fields)
struct_more structs tag fields s h = record { tags = with_apart structs tag (struct_of structs fields) s.tags; fields = go (is_new structs tag) }
  where
    go : (c : Bool) → IsTrue (list_all fields_apart (if c then structs ++ (tag, struct_of structs fields) ∷ [] else structs))
    go true = pushed_all structs (tag, struct_of structs fields) s.fields h
    go false = s.fields

declared_apart : (structs : Structs) (given : Specified) (fields : Fields) (ds : List Declarator) → Apart fields → Apart (declared structs given fields ds).fields
declared_apart structs given fields [] h = h
declared_apart structs given fields (d ∷ ds) h = declared_apart structs given (with_name fields d.name.bytes (field_of given d)) ds (with_apart fields d.name.bytes (field_of given d) h)

defined_apart : (at_file : Bool) (first : Span) (tag : Word) (structs : Structs) (fields : Fields) → Structured structs → Apart fields → Structured (defined at_file first tag structs fields).structs
unfolding defined
defined_apart at_file first tag structs fields s h = struct_more structs tag.bytes fields s h

mutual
  named_apart : (at_file : Bool) (first : Span) (structs : Structs) (s : SpecTree) → Structured structs → Structured (named_by at_file first structs s).structs
  named_apart at_file first structs (attribute p names) h = h
  named_apart at_file first structs (keyword p w) h = h
  named_apart at_file first structs (structure p tag no_fields) h = h
  named_apart at_file first structs (structure p tag (field_and f fs)) h =
      let body = body_apart structs [] (field_and f fs) h refl in
      defined_apart at_file first tag (body_of structs [] (field_and f fs)).structs (body_of structs [] (field_and f fs)).fields body.0 body.1

  all_apart : (at_file : Bool) (first : Span) (structs : Structs) (specs : SpecTrees) → Structured structs → Structured (named_by_all at_file first structs specs).structs
  all_apart at_file first structs no_specs h = h
  all_apart at_file first structs (spec_and s specs) h = all_apart at_file first (named_by at_file first structs s).structs specs (named_apart at_file first structs s h)

  field_apart : (structs : Structs) (fields : Fields) (f : FieldTree) → Structured structs → Apart fields → Structured (with_field structs fields f).structs × Apart (with_field structs fields f).fields
  field_apart structs fields (field p specs ds) h i =
      let j = judged false specs (named_by_all false (first_of specs) structs specs) in
      (all_apart false (first_of specs) structs specs h, declared_apart j.structs j.given fields ds i)

  body_apart : (structs : Structs) (fields : Fields) (fs : FieldTrees) → Structured structs → Apart fields → Structured (body_of structs fields fs).structs × Apart (body_of structs fields fs).fields
  body_apart structs fields no_fields h i = (h, i)
  body_apart structs fields (field_and f fs) h i =
      let one = field_apart structs fields f h i in
      body_apart (with_field structs fields f).structs (with_field structs fields f).fields fs one.0 one.1

pub specified_apart : (at_file : Bool) (structs : Structs) (specs : SpecTrees) → Structured structs → Structured (specified at_file structs specs).structs
specified_apart at_file structs specs h = all_apart at_file (first_of specs) structs specs h

-- ---- in the typed tree

tags_of : (structs : Structs) → map (λ s. s.name) (infos_of structs) ≡ names_in structs
tags_of [] = refl
tags_of (s ∷ structs) = ap (λ ns. s.0 ∷ ns) (tags_of structs)

fields_of : (fields : Fields) → map (λ f. f.name) (map field_info fields) ≡ names_in fields
fields_of [] = refl
fields_of (f ∷ fields) = ap (λ ns. f.0 ∷ ns) (fields_of fields)

pub tags_apart : (structs : Structs) → Structured structs → IsTrue (are_distinct (map (λ s. s.name) (infos_of structs)))
tags_apart structs s = subst (λ ns. IsTrue (are_distinct ns)) (sym (tags_of structs)) s.tags

pub all_fields_apart : (structs : Structs) → IsTrue (list_all fields_apart structs) → IsTrue (list_all (λ s. are_distinct (map (λ f. f.name) s.fields)) (infos_of structs))
all_fields_apart [] h = refl
all_fields_apart (s ∷ structs) h =
    both_hold (are_distinct (map (λ f. f.name) (map field_info s.1.fields))) (list_all (λ s. are_distinct (map (λ f. f.name) s.fields)) (infos_of structs))
    (subst (λ ns. IsTrue (are_distinct ns)) (sym (fields_of s.1.fields)) (both_hold_first (fields_apart s) (list_all fields_apart structs) h))
    (all_fields_apart structs (both_hold_second (fields_apart s) (list_all fields_apart structs) h))
