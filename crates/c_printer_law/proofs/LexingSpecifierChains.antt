-- The words of plain specifiers and declarators may stand as they do.
use Rattle.std.proofs.Common.{◌≡◌, ℕ, Bool, true, false, List, [], ◌∷◌, ◌++◌, refl}
use Rattle.std.specs.List.{list_all}
use Rattle.std.proofs.lemmas.Bool.{and_parts}
use Rattle.c_lexer.specs.declared.token.TokenKind.TheVariants as k
use Rattle.pt_tree.specs.declared.word.Word.{Word}
use Rattle.pt_tree.specs.declared.specifier.SpecWord.{SpecWord}
use Rattle.pt_tree.specs.declared.specifier.SpecWord.TheVariants as w
use Rattle.pt_tree.specs.declared.specifier.Declarator.{Declarator}
use Rattle.pt_tree.specs.declared.specifier.Suffix.{Suffix}
use Rattle.pt_tree.specs.declared.specifier.Suffix.TheVariants.{Plain, Open, Sized}
use Rattle.pt_tree.specs.SpecifierTree.{SpecTree, attribute, keyword, structure, SpecTrees, no_specs, spec_and, FieldTree, field, FieldTrees, no_fields, field_and}
use Rattle.c_printer.specs.Pieces.{Gap, tight, spaced, line, Piece, fixed, named}
use Rattle.c_printer.specs.Kinds.{keyword_kind}
use Rattle.c_printer.specs.Specifiers.{more_names, names, suffix_words, starred, declarator_words, more_declarators, declarators, spec_words, struct_body, more_fields, field_words, specifiers}
use Rattle.c_printer.specs.Plain.{is_name, word_plain, words_plain, suffix_plain, declarator_plain, declarators_plain, spec_plain, each_spec_plain, specs_plain, field_plain, fields_plain}
use Rattle.c_printer_law.proofs.LexingNeighbours.{IsFixed, mark, Stands, gapped, alone, behind, word}
use Rattle.c_printer_law.proofs.LexingNeighbours as n
use Rattle.c_printer_law.proofs.LexingLayouts.{Chain}
use Rattle.c_printer_law.proofs.LexingChains.{Free, free_behind, free_both, has_room, in_room}

more_names_free : (ws : List Word) → list_all word_plain ws ≡ true → Free (more_names ws)
more_names_free [] plain p = tt
more_names_free (w ∷ ws) plain p =
    let parts = and_parts (word_plain w) (list_all word_plain ws) plain in
    (alone refl, mark refl, (gapped refl, parts.0, more_names_free ws parts.1 (named spaced w.bytes)))

names_chain : (p : Piece) (ws : List Word) → n.is_closed p ≡ true → words_plain ws ≡ true → Chain p (names ws)
names_chain p [] closed plain = tt
names_chain p (w ∷ ws) closed plain =
    let parts = and_parts (word_plain w) (list_all word_plain ws) plain in
    (behind closed, parts.0, more_names_free ws parts.1 (named tight w.bytes))

pub suffix_free : (s : Suffix) → suffix_plain s ≡ true → Free (suffix_words s)
suffix_free Plain plain p = tt
suffix_free Open plain p = (alone refl, mark refl, (alone refl, mark refl, tt))
suffix_free (Sized c) plain p = (alone refl, mark refl, (behind refl, plain, (alone refl, mark refl, tt)))

pub starred_free : (pointer : Bool) (name : List ℕ) → is_name name ≡ true → Free (starred pointer name)
starred_free true name plain p = (gapped refl, mark refl, (word refl refl, plain, tt))
starred_free false name plain p = (gapped refl, plain, tt)

pub declarator_free : (d : Declarator) → declarator_plain d ≡ true → Free (declarator_words d)
declarator_free d plain =
    let parts = and_parts (word_plain d.name) (suffix_plain d.suffix) plain in
    free_both (starred d.pointer d.name.bytes) (suffix_words d.suffix) (starred_free d.pointer d.name.bytes parts.0) (suffix_free d.suffix parts.1)

more_declarators_free : (ds : List Declarator) → list_all declarator_plain ds ≡ true → Free (more_declarators ds)
more_declarators_free [] plain p = tt
more_declarators_free (d ∷ ds) plain p =
    let parts = and_parts (declarator_plain d) (list_all declarator_plain ds) plain in
    (alone refl, mark refl, free_both (declarator_words d) (more_declarators ds) (declarator_free d parts.0) (more_declarators_free ds parts.1) (fixed tight k.Comma))

declarators_free : (ds : List Declarator) → declarators_plain ds ≡ true → Free (declarators ds)
declarators_free [] plain p = tt
declarators_free (d ∷ ds) plain p =
    let parts = and_parts (declarator_plain d) (list_all declarator_plain ds) plain in
    free_both (declarator_words d) (more_declarators ds) (declarator_free d parts.0) (more_declarators_free ds parts.1) p

keyword_is : (word : SpecWord) → IsFixed (keyword_kind word)
keyword_is w.Extern = n.keyword refl refl
keyword_is w.Static = n.keyword refl refl
keyword_is w.Const = n.keyword refl refl
keyword_is w.Void = n.keyword refl refl
keyword_is w.Char = n.keyword refl refl
keyword_is w.Short = n.keyword refl refl
keyword_is w.Int = n.keyword refl refl
keyword_is w.Long = n.keyword refl refl
keyword_is w.Signed = n.keyword refl refl
keyword_is w.Unsigned = n.keyword refl refl

-- one mark with nothing before it
pub closing : (p : Piece) → Chain p (fixed tight k.CloseParen ∷ [])
closing p = (alone refl, mark refl, tt)

pub semicolon : (p : Piece) → Chain p (fixed tight k.Semicolon ∷ [])
semicolon p = (alone refl, mark refl, tt)

mutual
  spec_chain : (s : SpecTree) (p : Piece) (gap : Gap) → has_room p gap ≡ true → spec_plain s ≡ true → Chain p (spec_words s gap)
  spec_chain (attribute at ws) p gap room plain = (
    in_room p (fixed gap k.Attribute) room,
    n.keyword refl refl,
    (
      alone refl,
      mark refl,
      (
        alone refl,
        mark refl,
        free_behind (fixed tight k.OpenParen) (names ws) (fixed tight k.CloseParen ∷ fixed tight k.CloseParen ∷ []) (names_chain (fixed tight k.OpenParen) ws refl plain)
            (λ q. (alone refl, mark refl, (alone refl, mark refl, tt))),
      ),
    ),
  )
  spec_chain (keyword at w) p gap room plain = (in_room p (fixed gap (keyword_kind w)) room, keyword_is w, tt)
  spec_chain (structure at tag fs) p gap room plain =
      let parts = and_parts (word_plain tag) (fields_plain fs) plain in
      (in_room p (fixed gap k.Struct) room, n.keyword refl refl, (gapped refl, parts.0, struct_free fs parts.1 (named spaced tag.bytes)))

  struct_free : (fs : FieldTrees) → fields_plain fs ≡ true → Free (struct_body fs)
  struct_free no_fields plain p = tt
  struct_free (field_and f rest) plain p =
      let parts = and_parts (field_plain f) (fields_plain rest) plain in (
        gapped refl,
        mark refl,
        free_both (field_words f) (more_fields rest ++ (fixed (line 0) k.CloseBrace ∷ [])) (field_free f parts.0)
            (free_both (more_fields rest) (fixed (line 0) k.CloseBrace ∷ []) (fields_free rest parts.1) (λ q. (gapped refl, mark refl, tt))) (fixed spaced k.OpenBrace),
      )

  fields_free : (fs : FieldTrees) → fields_plain fs ≡ true → Free (more_fields fs)
  fields_free no_fields plain p = tt
  fields_free (field_and f rest) plain p =
      let parts = and_parts (field_plain f) (fields_plain rest) plain in
      free_both (field_words f) (more_fields rest) (field_free f parts.0) (fields_free rest parts.1) p

  field_free : (f : FieldTree) → field_plain f ≡ true → Free (field_words f)
  field_free (field at ss ds) plain p =
      let parts = and_parts (specs_plain ss) (declarators_plain ds) plain in
      free_behind p (specifiers ss (line 1)) (declarators ds ++ (fixed tight k.Semicolon ∷ [])) (specs_chain ss p (line 1) refl parts.0)
      (free_both (declarators ds) (fixed tight k.Semicolon ∷ []) (declarators_free ds parts.1) semicolon)

  pub specs_chain : (ss : SpecTrees) (p : Piece) (gap : Gap) → has_room p gap ≡ true → specs_plain ss ≡ true → Chain p (specifiers ss gap)
  specs_chain no_specs p gap room plain = tt
  specs_chain (spec_and s rest) p gap room plain =
      let parts = and_parts (spec_plain s) (each_spec_plain rest) plain in
      free_behind p (spec_words s gap) (specifiers rest spaced) (spec_chain s p gap room parts.0) (more_specs_free rest parts.1)

  more_specs_free : (ss : SpecTrees) → each_spec_plain ss ≡ true → Free (specifiers ss spaced)
  more_specs_free no_specs plain p = tt
  more_specs_free (spec_and s rest) plain p =
      let parts = and_parts (spec_plain s) (each_spec_plain rest) plain in
      free_behind p (spec_words s spaced) (specifiers rest spaced) (spec_chain s p spaced refl parts.0) (more_specs_free rest parts.1)
