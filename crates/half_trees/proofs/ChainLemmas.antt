-- Chains and postfixes that are made longer.
use Rattle.std.proofs.Common.{◌≡◌, List, [], ◌∷◌, ◌++◌, Bool, true, false, refl, sym, ap, ◌∙◌, map, if◌then◌else◌}
use Rattle.pt_base.specs.declared.span.Span.{Span}
use Rattle.pt_tree.specs.declared.expression.Link.{Link}
use Rattle.pt_tree.specs.declared.expression.Postfix.{Postfix}
use Rattle.pt_tree.specs.declared.operator.BinaryOp.{BinaryOp}
use Rattle.pt_tree.specs.ExpressionTree as c
use Rattle.pt_tree.specs.ExpressionTree.{ExprTree, LinkTrees, link_and, chain, view_expr, view_link, link_trees, postfix_and, postfix_trees, view_postfix}
use Rattle.half_trees.specs.Names.{nowhere}
use Rattle.half_trees.specs.Expressions.{with_link, one_link, are_alike, chain_of, goes_on, linked, with_postfixes}

pub link_more : (ls : List Link) (l : Link) → link_trees (map view_link (ls ++ l ∷ [])) ≡ with_link (link_trees (map view_link ls)) (view_link l)
link_more [] l = refl
link_more (k ∷ ls) l = ap (link_and (view_link k)) (link_more ls l)

pub postfixes_more : (ps more : List Postfix) → postfix_trees (map view_postfix (ps ++ more)) ≡ with_postfixes (postfix_trees (map view_postfix ps)) (map view_postfix more)
postfixes_more [] more = refl
postfixes_more (p ∷ ps) more = ap (postfix_and (view_postfix p)) (postfixes_more ps more)

abbrev either : BinaryOp → ExprTree → LinkTrees → Span → ExprTree → Bool → ExprTree
either op x ls s b alike = if alike then chain nowhere x (with_link ls (one_link op b)) else chain_of op (chain s x ls) b

pub linked_alike : (op : BinaryOp) (a : ExprTree) (s : Span) (x : ExprTree) (ls : LinkTrees) (b : ExprTree) → a ≡ chain s x ls → are_alike ls op ≡ true → chain nowhere x (with_link ls (one_link op b)) ≡ linked op a b
linked_alike op a s x ls b is alike = sym (ap (λ t. linked op t b) is ∙ ap (either op x ls s b) alike)

pub linked_apart : (op : BinaryOp) (a : ExprTree) (s : Span) (x : ExprTree) (ls : LinkTrees) (b : ExprTree) → a ≡ chain s x ls → are_alike ls op ≡ false → chain_of op (chain s x ls) b ≡ linked op a b
linked_apart op a s x ls b is apart = sym (ap (λ t. linked op t b) is ∙ ap (either op x ls s b) apart)

-- an operator that begins a chain
pub begun : (op : BinaryOp) (a b : ExprTree) → goes_on op a ≡ false → chain_of op a b ≡ linked op a b
begun op (c.chain s x ls) b apart = linked_apart op (chain s x ls) s x ls b refl apart
begun op (c.name w) b h = refl
begun op (c.constant n) b h = refl
begun op (c.prefix s q a) b h = refl
begun op (c.cast s specs pointer a) b h = refl
begun op (c.postfix s a ps) b h = refl
begun op (c.choice s x y z) b h = refl
begun op (c.assign s q x y) b h = refl
