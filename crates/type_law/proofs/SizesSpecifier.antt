-- Specifiers declare at most as many structs and fields as they have nodes.
use Rattle.std.proofs.Common.{◌≡◌, ◌≤◌, ◌+◌, ◌++◌, ℕ, Bool, true, false, List, [], ◌∷◌, length, arith}
use Rattle.std.specs.Prelude.{if◌then◌else◌}
use Rattle.std.proofs.lemmas.List.{length-append}
use Rattle.pt_base.specs.declared.span.Span.{Span}
use Rattle.pt_tree.specs.declared.word.Word.{Word}
use Rattle.pt_tree.specs.declared.specifier.Declarator.{Declarator}
use Rattle.pt_tree.specs.SpecifierTree.{SpecTree, SpecTrees, FieldTree, FieldTrees, attribute, keyword, structure, no_specs, spec_and, field, no_fields, field_and}
use Rattle.pt_tree.specs.Nodes as parsed
use Rattle.check_declarations.specs.declared.specifiers.Specified.{Specified}
use Rattle.check_declarations.specs.declared.structs.StructEntry.{StructEntry}
use Rattle.check_declarations.specs.NameTables.{Named, is_new, with_name}
use Rattle.check_declarations.specs.Structs.{Fields, Structs, struct_of}
use Rattle.check_declarations.specs.Fields.{field_of, declared}
use Rattle.check_declarations.specs.Specifiers.{defined, first_of, judged, named_by, named_by_all, with_field, body_of, specified}

-- the structs with their fields
abbrev pub struct_nodes : Structs → ℕ
struct_nodes [] = 0
struct_nodes (s ∷ ss) = (1 + length s.1.fields) + struct_nodes ss

struct_nodes_push : (ss : Structs) (s : List ℕ × StructEntry) → struct_nodes (ss ++ s ∷ []) ≡ struct_nodes ss + (1 + length s.1.fields)
struct_nodes_push [] s = omega arith
struct_nodes_push (x ∷ ss) s = let rest = struct_nodes_push ss s in omega (arith, rest)

-- a name adds at most one entry
longer_by_name : {X : Type 0} (table : Named X) (name : List ℕ) (x : X) → length (with_name table name x) ≤ 1 + length table
longer_by_name table name x = go (is_new table name)
  where
    more : length (table ++ (name, x) ∷ []) ≡ length table + 1
    more = length-append table ((name, x) ∷ [])

    go : (b : Bool) → length (if b then table ++ (name, x) ∷ [] else table) ≤ 1 + length table
    go true = omega (arith, more)
    go false = omega arith

struct_added : (structs : Structs) (tag : List ℕ) (s : StructEntry) → struct_nodes (with_name structs tag s) ≤ (1 + length s.fields) + struct_nodes structs
struct_added structs tag s = go (is_new structs tag)
  where
    more : struct_nodes (structs ++ (tag, s) ∷ []) ≡ struct_nodes structs + (1 + length s.fields)
    more = struct_nodes_push structs (tag, s)

    go : (b : Bool) → struct_nodes (if b then structs ++ (tag, s) ∷ [] else structs) ≤ (1 + length s.fields) + struct_nodes structs
    go true = omega (arith, more)
    go false = omega arith

-- declarators add at most one field each
fields_added : (structs : Structs) (given : Specified) (fields : Fields) (ds : List Declarator) → length (declared structs given fields ds).fields ≤ parsed.declarators_nodes ds + length fields
fields_added structs given fields [] = omega arith
fields_added structs given fields (d ∷ ds) =
    let one = longer_by_name fields d.name.bytes (field_of given d) in
    let rest = fields_added structs given (with_name fields d.name.bytes (field_of given d)) ds in
    omega (arith, one, rest)

defined_small : (at_file : Bool) (first : Span) (tag : Word) (structs : Structs) (fields : Fields) → struct_nodes (defined at_file first tag structs fields).structs ≤ (1 + length fields) + struct_nodes structs
unfolding defined
defined_small at_file first tag structs fields = struct_added structs tag.bytes (struct_of structs fields)

sum_of_body : (before after fields nodes all : ℕ) → after + fields ≤ nodes + (before + 0) → all ≤ (1 + fields) + after → all ≤ (2 + nodes) + before
sum_of_body before after fields nodes all h k = omega arith

mutual
  one_small : (at_file : Bool) (first : Span) (structs : Structs) (s : SpecTree) → struct_nodes (named_by at_file first structs s).structs ≤ parsed.spec_nodes s + struct_nodes structs
  one_small at_file first structs (attribute s names) = omega arith
  one_small at_file first structs (keyword s w) = omega arith
  one_small at_file first structs (structure s tag no_fields) = omega arith
  one_small at_file first structs (structure s tag (field_and f fs)) =
      let body = bodies_small structs [] (field_and f fs) in
      let own = defined_small at_file first tag (body_of structs [] (field_and f fs)).structs (body_of structs [] (field_and f fs)).fields in
      sum_of_body (struct_nodes structs) (struct_nodes (body_of structs [] (field_and f fs)).structs) (length (body_of structs [] (field_and f fs)).fields) (parsed.fields_nodes (field_and f fs)) _ body own

  all_small : (at_file : Bool) (first : Span) (structs : Structs) (ss : SpecTrees) → struct_nodes (named_by_all at_file first structs ss).structs ≤ parsed.specs_nodes ss + struct_nodes structs
  all_small at_file first structs no_specs = omega arith
  all_small at_file first structs (spec_and s ss) =
      let one = one_small at_file first structs s in
      let rest = all_small at_file first (named_by at_file first structs s).structs ss in
      omega (arith, one, rest)

  body_small : (structs : Structs) (fields : Fields) (f : FieldTree)
      → struct_nodes (with_field structs fields f).structs + length (with_field structs fields f).fields ≤ parsed.field_nodes f + (struct_nodes structs + length fields)
  body_small structs fields (field s specs ds) =
      let types = all_small false (first_of specs) structs specs in
      let own = fields_added (named_by_all false (first_of specs) structs specs).structs (judged false specs (named_by_all false (first_of specs) structs specs)).given fields ds in
      omega (arith, types, own)

  bodies_small : (structs : Structs) (fields : Fields) (fs : FieldTrees)
      → struct_nodes (body_of structs fields fs).structs + length (body_of structs fields fs).fields ≤ parsed.fields_nodes fs + (struct_nodes structs + length fields)
  bodies_small structs fields no_fields = omega arith
  bodies_small structs fields (field_and f fs) =
      let one = body_small structs fields f in
      let rest = bodies_small (with_field structs fields f).structs (with_field structs fields f).fields fs in
      omega (arith, one, rest)

-- behind specifiers there are at most so many structs and fields more
pub specified_small : (at_file : Bool) (structs : Structs) (specs : SpecTrees) → struct_nodes (specified at_file structs specs).structs ≤ parsed.specs_nodes specs + struct_nodes structs
specified_small at_file structs specs = all_small at_file (first_of specs) structs specs
