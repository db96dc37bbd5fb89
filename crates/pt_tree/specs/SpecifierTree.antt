-- Specifiers without where their parts lie in memory.
use Rattle.std.specs.Prelude.{List, [], ◌∷◌, map}
use Rattle.pt_base.specs.declared.span.Span.{Span}
use Rattle.pt_tree.specs.declared.word.Word.{Word}
use Rattle.pt_tree.specs.declared.specifier.SpecWord.{SpecWord}
use Rattle.pt_tree.specs.declared.specifier.Declarator.{Declarator}
use Rattle.pt_tree.specs.declared.specifier.FieldDecl.{FieldDecl}
use Rattle.pt_tree.specs.declared.specifier.Spec.{Spec, Row_of-Spec, end_of-Spec, more_of-Spec, Row_of-FieldDecl, end_of-FieldDecl, more_of-FieldDecl}
use Rattle.pt_tree.specs.declared.specifier.Spec.TheVariants.{Attribute, Keyword, Struct'}

mutual
  pub data SpecTree : Type 0 where
    attribute : Span → List Word → SpecTree
    keyword : Span → SpecWord → SpecTree
    structure : Span → Word → FieldTrees → SpecTree

  pub data SpecTrees : Type 0 where
    no_specs : SpecTrees
    spec_and : SpecTree → SpecTrees → SpecTrees

  pub data FieldTree : Type 0 where
    field : Span → SpecTrees → List Declarator → FieldTree

  pub data FieldTrees : Type 0 where
    no_fields : FieldTrees
    field_and : FieldTree → FieldTrees → FieldTrees

abbrev mutual
  pub view_spec : Spec → SpecTree
  view_spec (Attribute s names) = attribute s names.items
  view_spec (Keyword s w) = keyword s w
  view_spec (Struct' s name shape row) = structure s name (view_field_row row)

  pub view_spec_row : {n : _} → Row_of-Spec n → SpecTrees
  view_spec_row end_of-Spec = no_specs
  view_spec_row (more_of-Spec s rest) = spec_and (view_spec s) (view_spec_row rest)

  pub view_field_row : {n : _} → Row_of-FieldDecl n → FieldTrees
  view_field_row end_of-FieldDecl = no_fields
  view_field_row (more_of-FieldDecl s shape row declarators rest) = field_and (field s (view_spec_row row) declarators.items) (view_field_row rest)

abbrev pub spec_trees : List SpecTree → SpecTrees
spec_trees [] = no_specs
spec_trees (s ∷ ss) = spec_and s (spec_trees ss)

abbrev pub field_trees : List FieldTree → FieldTrees
field_trees [] = no_fields
field_trees (f ∷ fs) = field_and f (field_trees fs)

abbrev pub view_specs : List Spec → SpecTrees
view_specs specs = spec_trees (map view_spec specs)

abbrev pub view_field : FieldDecl → FieldTree
view_field f = field f.span (view_specs f.specs.items) f.declarators.items
