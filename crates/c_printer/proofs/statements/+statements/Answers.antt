-- Blocks and switches, as the lists of their parts.
use Rattle.std.proofs.Common.{◌∷◌, ◌++◌, ◌∙◌, ap, sym, map}
use Rattle.c_lexer.specs.declared.token.TokenKind.TheVariants as k
use Rattle.pt_tree.proofs.ListsInTrees.{view_block_stmt, view_switch}
use Rattle.pt_tree.specs.ExpressionTree.{view_expr}
use Rattle.pt_tree.specs.StatementTree.{StmtTree, view_stmt, view_section, stmt_trees, section_trees}
use Rattle.c_printer.specs.Gaps.{view_gap}
use Rattle.c_printer.specs.Pieces.{fixed}
use Rattle.c_printer.specs.Statements as words
use Rattle.c_printer.proofs.Laying.{laid_as, laid_behind}
use Rattle.c_printer.proofs.statements.+statements.Goals as goal

pub statement-returns-in-Block : goal.statement-returns-in-Block
statement-returns-in-Block t c =
    let gap = view_gap c.args.gap in
    let level = c.args.level in
    laid_as _ _ _ _ _ c.block.ensures
    (ap (λ ss. words.block_words (stmt_trees (map view_stmt ss)) level gap) c.deref.ensures.value
    ∙ sym (ap (λ (s : StmtTree). words.statement s level gap) (ap view_stmt c.in-Block.is ∙ view_block_stmt c.in-Block.inner)))

pub statement-returns-in_ok-headed-in-Switch : goal.statement-returns-in_ok-headed-in-Switch
statement-returns-in_ok-headed-in-Switch t c =
    let gap = view_gap c.args.gap in
    let level = c.args.level in
    let on = view_expr c.in-Switch.on in
    laid_behind _ _ _ _ (fixed gap k.Switch ∷ words.condition on) _ _ c.sections.ensures c.in_ok-headed-in-Switch.ensures
    (ap (λ ps. fixed gap k.Switch ∷ (words.condition on ++ words.switch_words (section_trees (map view_section ps)) level)) c.deref-in-Switch.ensures.value
    ∙ sym (ap (λ (s : StmtTree). words.statement s level gap) (ap view_stmt c.in-Switch.is ∙ view_switch c.in-Switch.field-0 c.in-Switch.on c.in-Switch.parts)))
