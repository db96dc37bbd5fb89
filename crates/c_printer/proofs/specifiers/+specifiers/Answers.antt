-- A struct, as the list of its fields.
use Rattle.std.proofs.Common.{[], ◌∷◌, ◌∙◌, ap, sym, map, arith}
use Rattle.std.proofs.lemmas.List.{length-map}
use Rattle.std.specs.Prelude.{codes}
use Rattle.pt_tree.proofs.ListsInTrees.{view_structure}
use Rattle.pt_tree.specs.SpecifierTree.{view_spec, view_field, field_trees}
use Rattle.c_printer.specs.Gaps.{view_gap}
use Rattle.c_printer.specs.Specifiers as words
use Rattle.c_printer.proofs.Laying.{lay_both, laid_to, laid_as, body_words}
use Rattle.c_lexer.specs.declared.token.TokenKind.TheVariants as k
use Rattle.c_printer.specs.Pieces.{line, fixed}
use Rattle.c_printer.specs.Sheets.{laid, lay}
use Rattle.c_printer.proofs.specifiers.+specifiers.Goals as goal

pub specifier-returns-in-Struct : goal.specifier-returns-in-Struct
specifier-returns-in-Struct t c =
    let gap = view_gap c.args.gap in
    let tag = c.in-Struct.tag in
    laid_as _ _ _ _ _ c.structure.ensures
    (ap (λ fs. words.structure_words tag.bytes (field_trees (map view_field fs)) gap) c.deref-in-Struct.ensures.value
    ∙ sym (ap (λ s. words.spec_words s gap) (ap view_spec c.in-Struct.is ∙ view_structure c.in-Struct.field-0 tag c.in-Struct.fields)))

pub struct_body-returns-in_ok-each_field-in-len1-up : goal.struct_body-returns-in_ok-each_field-in-len1-up
struct_body-returns-in_ok-each_field-in-len1-up t c =
    let fs = map view_field c.args.fields.now in
    let written = c.in_ok-each_field-in-len1-up.ensures ∙ ap (lay (words.more_fields (field_trees fs))) c.in_ok-word-in-len1-up.ensures in
    laid_to _ _ _ _ c.word-in-len1-up.ensures
    (ap (laid (line 0) (codes "}")) written ∙ sym (lay_both (words.more_fields (field_trees fs)) (fixed (line 0) k.CloseBrace ∷ []) _)
    ∙ ap (λ ps. lay ps c.args.sheet.now) (body_words fs (omega (arith, length-map c.args.fields.now view_field))))
