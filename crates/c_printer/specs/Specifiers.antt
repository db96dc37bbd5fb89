-- The words of specifiers and declarators.
use Rattle.std.specs.Prelude.{ℕ, List, [], ◌∷◌, ◌++◌, Bool, true, false}
use Rattle.c_lexer.specs.declared.token.TokenKind.TheVariants as k
use Rattle.pt_tree.specs.declared.word.Word.{Word}
use Rattle.pt_tree.specs.declared.specifier.Declarator.{Declarator}
use Rattle.pt_tree.specs.declared.specifier.Suffix.{Suffix}
use Rattle.pt_tree.specs.declared.specifier.Suffix.TheVariants.{Plain, Open, Sized}
use Rattle.pt_tree.specs.SpecifierTree.{SpecTree, attribute, keyword, structure, SpecTrees, no_specs, spec_and, FieldTree, field, FieldTrees, no_fields, field_and}
use Rattle.c_printer.specs.Pieces.{Gap, tight, spaced, line, Piece, fixed, named, number}
use Rattle.c_printer.specs.Kinds.{keyword_kind}

abbrev pub more_names : List Word → List Piece
more_names [] = []
more_names (w ∷ ws) = fixed tight k.Comma ∷ named spaced w.bytes ∷ more_names ws

abbrev pub names : List Word → List Piece
names [] = []
names (w ∷ ws) = named tight w.bytes ∷ more_names ws

abbrev pub suffix_words : Suffix → List Piece
suffix_words Plain = []
suffix_words Open = fixed tight k.OpenBracket ∷ fixed tight k.CloseBracket ∷ []
suffix_words (Sized c) = fixed tight k.OpenBracket ∷ number tight c.value c.ty ∷ fixed tight k.CloseBracket ∷ []

-- a star stands before the name that it belongs to
abbrev pub starred : Bool → List ℕ → List Piece
starred true name = fixed spaced k.Star ∷ named tight name ∷ []
starred false name = named spaced name ∷ []

abbrev pub declarator_words : Declarator → List Piece
declarator_words d = starred d.pointer d.name.bytes ++ suffix_words d.suffix

abbrev pub more_declarators : List Declarator → List Piece
more_declarators [] = []
more_declarators (d ∷ ds) = fixed tight k.Comma ∷ (declarator_words d ++ more_declarators ds)

abbrev pub declarators : List Declarator → List Piece
declarators [] = []
declarators (d ∷ ds) = declarator_words d ++ more_declarators ds

abbrev pub attribute_words : List Word → Gap → List Piece
attribute_words ws gap = fixed gap k.Attribute ∷ fixed tight k.OpenParen ∷ fixed tight k.OpenParen ∷ (names ws ++ (fixed tight k.CloseParen ∷ fixed tight k.CloseParen ∷ []))

abbrev mutual
  pub spec_words : SpecTree → Gap → List Piece
  spec_words (attribute at ws) gap = attribute_words ws gap
  spec_words (keyword at w) gap = fixed gap (keyword_kind w) ∷ []
  spec_words (structure at tag fields) gap = fixed gap k.Struct ∷ named spaced tag.bytes ∷ struct_body fields

  -- each field has a line
  pub struct_body : FieldTrees → List Piece
  struct_body no_fields = []
  struct_body (field_and f rest) = fixed spaced k.OpenBrace ∷ (field_words f ++ (more_fields rest ++ (fixed (line 0) k.CloseBrace ∷ [])))

  pub more_fields : FieldTrees → List Piece
  more_fields no_fields = []
  more_fields (field_and f rest) = field_words f ++ more_fields rest

  pub field_words : FieldTree → List Piece
  field_words (field at specs ds) = specifiers specs (line 1) ++ (declarators ds ++ (fixed tight k.Semicolon ∷ []))

  pub specifiers : SpecTrees → Gap → List Piece
  specifiers no_specs gap = []
  specifiers (spec_and s rest) gap = spec_words s gap ++ specifiers rest spaced

-- a struct with its body, where it has one
abbrev pub structure_words : List ℕ → FieldTrees → Gap → List Piece
structure_words tag fields gap = fixed gap k.Struct ∷ named spaced tag ∷ struct_body fields
