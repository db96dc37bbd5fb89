-- The words of plain expressions may stand as they do.
use Rattle.std.proofs.Common.{◌≡◌, ℕ, ◌+◌, Bool, true, false, cond, nat_le, List, [], ◌∷◌, ◌++◌, refl, sym, subst, ⊎_elim}
use Rattle.std.specs.Prelude.{Option, Some, None, ◌&&◌, ◌||◌, ◌==◌}
use Rattle.std.proofs.lemmas.Bool.{and_parts, or_cases, or_right, cond_both}
use Rattle.c_lexer.specs.Bytes.{is_word_byte}
use Rattle.c_lexer.specs.declared.token.TokenKind.TheVariants as k
use Rattle.pt_tree.specs.declared.operator.BinaryOp.{BinaryOp}
use Rattle.pt_tree.specs.declared.operator.BinaryOp.TheVariants.{LogicalOr, LogicalAnd, BitOr, BitXor, BitAnd, Equal, NotEqual, Less, Greater, LessEqual, GreaterEqual, ShiftLeft, ShiftRight, Add, Subtract, Multiply, Divide, Remainder}
use Rattle.pt_tree.specs.declared.operator.PrefixOp.{PrefixOp}
use Rattle.pt_tree.specs.declared.operator.PrefixOp.TheVariants as p
use Rattle.pt_tree.specs.ExpressionTree.{ExprTree, name, constant, prefix, cast, postfix, chain, choice, assign, ExprTrees, no_exprs, expr_and, LinkTree, link, LinkTrees, no_links, link_and, PostfixTree, index, call, dot, arrow, increment, decrement, PostfixTrees, no_postfixes, postfix_and}
use Rattle.c_printer.specs.Pieces.{Gap, tight, spaced, Piece, fixed, named, number}
use Rattle.c_printer.specs.Kinds.{operator_kind, prefix_kind, assignment_kind, binding, chain_binding, tightness}
use Rattle.c_printer.specs.Specifiers.{specifiers}
use Rattle.c_printer.specs.Expressions.{in_parentheses, operand, behind_prefix, cast_star, expression, links, link_words, postfixes, postfix_words, expressions, more_expressions}
use Rattle.c_printer.specs.Plain.{specs_plain, assigns, has_postfixes, has_links, expr_plain, exprs_plain, links_plain, link_plain, postfixes_plain, postfix_plain}
use Rattle.c_printer_law.proofs.LexingNeighbours.{IsFixed, mark, Stands, gapped, alone, behind, word, access, is_closed, is_named, is_punctuator, is_operator, has_gap}
use Rattle.c_printer_law.proofs.LexingNeighbours as n
use Rattle.c_printer_law.proofs.LexingLayouts.{Chain}
use Rattle.c_printer_law.proofs.LexingChains.{Free, free_behind, free_both, last_behind, has_room, in_room}
use Rattle.c_printer_law.proofs.LexingSpecifierChains.{closing, specs_chain}

operator_is : (op : BinaryOp) → IsFixed (operator_kind op)
operator_is LogicalOr = mark refl
operator_is LogicalAnd = mark refl
operator_is BitOr = mark refl
operator_is BitXor = mark refl
operator_is BitAnd = mark refl
operator_is Equal = mark refl
operator_is NotEqual = mark refl
operator_is Less = mark refl
operator_is Greater = mark refl
operator_is LessEqual = mark refl
operator_is GreaterEqual = mark refl
operator_is ShiftLeft = mark refl
operator_is ShiftRight = mark refl
operator_is Add = mark refl
operator_is Subtract = mark refl
operator_is Multiply = mark refl
operator_is Divide = mark refl
operator_is Remainder = mark refl

assignment_is : (op : Option BinaryOp) → IsFixed (assignment_kind op)
assignment_is None = mark refl
assignment_is (Some BitOr) = mark refl
assignment_is (Some BitXor) = mark refl
assignment_is (Some BitAnd) = mark refl
assignment_is (Some ShiftLeft) = mark refl
assignment_is (Some ShiftRight) = mark refl
assignment_is (Some Add) = mark refl
assignment_is (Some Subtract) = mark refl
assignment_is (Some Multiply) = mark refl
assignment_is (Some Divide) = mark refl
assignment_is (Some Remainder) = mark refl
assignment_is (Some op) = mark refl

prefix_is : (op : PrefixOp) (gap : Gap) → IsFixed (prefix_kind op) × (is_punctuator (fixed gap (prefix_kind op)) ≡ true) × (is_operator (fixed gap (prefix_kind op)) ≡ true)
prefix_is p.AddressOf gap = (mark refl, refl, refl)
prefix_is p.Dereference gap = (mark refl, refl, refl)
prefix_is p.Plus gap = (mark refl, refl, refl)
prefix_is p.Minus gap = (mark refl, refl, refl)
prefix_is p.Complement gap = (mark refl, refl, refl)
prefix_is p.Not gap = (mark refl, refl, refl)
prefix_is p.Increment gap = (mark refl, refl, refl)
prefix_is p.Decrement gap = (mark refl, refl, refl)

-- a chain with links binds less tightly than what stands before an operand
loose : (op : BinaryOp) → nat_le 12 (binding op) ≡ false
loose LogicalOr = refl
loose LogicalAnd = refl
loose BitOr = refl
loose BitXor = refl
loose BitAnd = refl
loose Equal = refl
loose NotEqual = refl
loose Less = refl
loose Greater = refl
loose LessEqual = refl
loose GreaterEqual = refl
loose ShiftLeft = refl
loose ShiftRight = refl
loose Add = refl
loose Subtract = refl
loose Multiply = refl
loose Divide = refl
loose Remainder = refl

looser : (op : BinaryOp) → nat_le 14 (binding op) ≡ false
looser LogicalOr = refl
looser LogicalAnd = refl
looser BitOr = refl
looser BitXor = refl
looser BitAnd = refl
looser Equal = refl
looser NotEqual = refl
looser Less = refl
looser Greater = refl
looser LessEqual = refl
looser GreaterEqual = refl
looser ShiftLeft = refl
looser ShiftRight = refl
looser Add = refl
looser Subtract = refl
looser Multiply = refl
looser Divide = refl
looser Remainder = refl

-- words that may stand wherever there is room for them
abbrev Roomy : (Gap → List Piece) → Type 0
Roomy words = (p : Piece) (gap : Gap) → has_room p gap ≡ true → Chain p (words gap)

-- in parentheses, words may stand anywhere
parentheses_free : (words : Gap → List Piece) (gap : Gap) → Roomy words → Free (in_parentheses words gap)
parentheses_free words gap roomy p =
    (alone refl, mark refl, free_behind (fixed gap k.OpenParen) (words tight) (fixed tight k.CloseParen ∷ []) (roomy (fixed gap k.OpenParen) tight refl) closing)

operand_roomy : (least : ℕ) (e : ExprTree) (words : Gap → List Piece) → Roomy words → Roomy (operand least e words)
operand_roomy least e words roomy p gap room =
    cond_both (nat_le least (tightness e)) (words gap) (in_parentheses words gap) (Chain p) (λ _. roomy p gap room) (λ _. parentheses_free words gap roomy p)

-- words in parentheses, and what may stand behind these
enclosed : (t : Bool) → t ≡ false → (words : Gap → List Piece) (gap : Gap) (ys : List Piece) → Roomy words → ((q : Piece) → is_closed q ≡ true → Chain q ys) → Free (cond t (words gap) (in_parentheses words gap) ++ ys)
enclosed true e words gap ys roomy more p = absurd (cc)
enclosed false e words gap ys roomy more p =
    last_behind p (fixed gap k.OpenParen ∷ words tight) (fixed tight k.CloseParen) ys (parentheses_free words gap roomy p) (more (fixed tight k.CloseParen) refl)

-- behind it stands what an operand is followed by: parentheses, brackets, a point or an arrow, `++` or `--`
abbrev may_access : Piece → Bool
may_access p = is_named p || is_closed p

accesses : (p q : Piece) → may_access p ≡ true → is_word_byte (n.first_byte q) ≡ false → Stands p q
accesses p q h no_word = ⊎_elim (λ (name : is_named p ≡ true). access name no_word) (λ (closed : is_closed p ≡ true). behind closed) (or_cases (is_named p) (is_closed p) h)

closed_may : (q : Piece) → is_closed q ≡ true → may_access q ≡ true
closed_may q h = or_right (is_named q) (is_closed q) h

postfixed : (a : ExprTree) (ys : List Piece) → expr_plain a ≡ true → Roomy (expression a) → ((q : Piece) → may_access q ≡ true → Chain q ys)
    → Roomy (λ gap. operand 14 a (expression a) gap ++ ys)
postfixed (name w) ys plain roomy more p gap room = (in_room p (named gap w.bytes) room, plain, more (named gap w.bytes) refl)
postfixed (chain at a no_links) ys plain roomy more p gap room = absurd (let parts = and_parts (expr_plain a) false plain in cc)
postfixed (chain at a (link_and (link over op b) rest)) ys plain roomy more p gap room =
    enclosed (nat_le 14 (binding op)) (looser op) (expression (chain at a (link_and (link over op b) rest))) gap ys roomy (λ q h. more q (closed_may q h)) p
postfixed a ys plain roomy more p gap room = enclosed false refl (expression a) gap ys roomy (λ q h. more q (closed_may q h)) p

-- words in parentheses that may stand behind one word may stand behind any
first_of_enclosed : (t : Bool) → t ≡ false → (words : Gap → List Piece) (ys : List Piece) (p : Piece)
    → Chain (fixed tight k.OpenParen) (cond t (words tight) (in_parentheses words tight) ++ ys) → Chain p (cond t (words tight) (in_parentheses words tight) ++ ys)
first_of_enclosed true e words ys p h = absurd (cc)
first_of_enclosed false e words ys p h = (alone refl, h.1, h.2)

-- the operand behind an operator that stands before it
prefixed : (op : PrefixOp) (gap : Gap) (a : ExprTree) → expr_plain a ≡ true → Roomy (expression a) → Chain (fixed gap (prefix_kind op)) (operand 12 a (expression a) (behind_prefix a))
prefixed op gap (name w) plain roomy = (word (prefix_is op gap).1 refl, plain, tt)
prefixed op gap (constant c) plain roomy = (n.constant (prefix_is op gap).2 refl, plain, tt)
prefixed op gap (prefix at p a) plain roomy = roomy (fixed gap (prefix_kind op)) spaced refl
prefixed op gap (cast at ss pointer a) plain roomy = let c = roomy (fixed tight k.OpenParen) tight refl in (alone refl, c.1, c.2)
prefixed op gap (postfix at (name w) ps) plain roomy = let c = roomy (fixed tight k.OpenParen) tight refl in (word (prefix_is op gap).1 refl, c.1, c.2)
prefixed op gap (postfix at (chain over a no_links) ps) plain roomy = absurd (let parts = and_parts (expr_plain (chain over a no_links)) (has_postfixes ps && postfixes_plain ps) plain in let none = and_parts (expr_plain a) false parts.0 in cc)
prefixed op gap (postfix at (chain over a (link_and (link there o b) rest)) ps) plain roomy =
    let inner = expression (chain over a (link_and (link there o b) rest)) in
    first_of_enclosed (nat_le 14 (binding o)) (looser o) inner (postfixes ps) (fixed gap (prefix_kind op)) (roomy (fixed tight k.OpenParen) tight refl)
prefixed op gap (postfix at a ps) plain roomy = let c = roomy (fixed tight k.OpenParen) tight refl in (alone refl, c.1, c.2)
prefixed op gap (chain at a no_links) plain roomy = absurd (let parts = and_parts (expr_plain a) false plain in cc)
prefixed op gap (chain at a (link_and (link over o b) rest)) plain roomy =
    let words = expression (chain at a (link_and (link over o b) rest)) in
    subst (λ t. Chain (fixed gap (prefix_kind op)) (cond t (words tight) (in_parentheses words tight))) (sym (loose o)) (parentheses_free words tight roomy (fixed gap (prefix_kind op)))
prefixed op gap (choice at a b c) plain roomy = parentheses_free (expression (choice at a b c)) tight roomy (fixed gap (prefix_kind op))
prefixed op gap (assign at o a b) plain roomy = parentheses_free (expression (assign at o a b)) tight roomy (fixed gap (prefix_kind op))

cast_star_free : (pointer : Bool) → Free (cast_star pointer)
cast_star_free true p = (gapped refl, mark refl, tt)
cast_star_free false p = tt

mutual
  pub expr_roomy : (e : ExprTree) → expr_plain e ≡ true → Roomy (expression e)
  expr_roomy (name w) plain p gap room = (in_room p (named gap w.bytes) room, plain, tt)
  expr_roomy (constant c) plain p gap room = (in_room p (number gap c.value c.ty) room, plain, tt)
  expr_roomy (prefix at op a) plain p gap room =
      (in_room p (fixed gap (prefix_kind op)) room, (prefix_is op gap).0, prefixed op gap a plain (expr_roomy a plain))
  expr_roomy (cast at ss pointer a) plain p gap room =
      let parts = and_parts (specs_plain ss) (expr_plain a) plain in
      let behind_specs = fixed tight k.CloseParen ∷ operand 12 a (expression a) tight in (
        in_room p (fixed gap k.OpenParen) room,
        mark refl,
        free_behind (fixed gap k.OpenParen) (specifiers ss tight) (cast_star pointer ++ behind_specs) (specs_chain ss (fixed gap k.OpenParen) tight refl parts.0)
            (free_both (cast_star pointer) behind_specs (cast_star_free pointer)
            (λ q. (alone refl, mark refl, operand_roomy 12 a (expression a) (expr_roomy a parts.1) (fixed tight k.CloseParen) tight refl))),
      )
  expr_roomy (postfix at a ps) plain p gap room =
      let parts = and_parts (expr_plain a) (has_postfixes ps && postfixes_plain ps) plain in
      let more = and_parts (has_postfixes ps) (postfixes_plain ps) parts.1 in
      postfixed a (postfixes ps) parts.0 (expr_roomy a parts.0) (postfixes_chain ps more.1) p gap room
  expr_roomy (chain at a ls) plain p gap room =
      let parts = and_parts (expr_plain a) (has_links ls && links_plain (chain_binding ls) ls) plain in
      let more = and_parts (has_links ls) (links_plain (chain_binding ls) ls) parts.1 in
      free_behind p (operand (chain_binding ls + 1) a (expression a) gap) (links ls) (operand_roomy (chain_binding ls + 1) a (expression a) (expr_roomy a parts.0) p gap room)
      (links_free ls (chain_binding ls) more.1)
  expr_roomy (choice at a b c) plain p gap room =
      let parts = and_parts (expr_plain a) (expr_plain b && expr_plain c) plain in
      let more = and_parts (expr_plain b) (expr_plain c) parts.1 in
      let last = fixed spaced k.Colon ∷ operand 1 c (expression c) spaced in
      free_behind p (operand 2 a (expression a) gap) (fixed spaced k.Question ∷ (expression b spaced ++ last)) (operand_roomy 2 a (expression a) (expr_roomy a parts.0) p gap room)
      (λ q. (
        gapped refl,
        mark refl,
        free_behind (fixed spaced k.Question) (expression b spaced) last (expr_roomy b more.0 (fixed spaced k.Question) spaced refl)
            (λ r. (gapped refl, mark refl, operand_roomy 1 c (expression c) (expr_roomy c more.1) (fixed spaced k.Colon) spaced refl)),
      ))
  expr_roomy (assign at op a b) plain p gap room =
      let parts = and_parts (assigns op) (expr_plain a && expr_plain b) plain in
      let more = and_parts (expr_plain a) (expr_plain b) parts.1 in
      free_behind p (operand 1 a (expression a) gap) (fixed spaced (assignment_kind op) ∷ expression b spaced) (operand_roomy 1 a (expression a) (expr_roomy a more.0) p gap room)
      (λ q. (gapped refl, assignment_is op, expr_roomy b more.1 (fixed spaced (assignment_kind op)) spaced refl))

  links_free : (ls : LinkTrees) (tightness : ℕ) → links_plain tightness ls ≡ true → Free (links ls)
  links_free no_links tightness plain p = tt
  links_free (link_and l rest) tightness plain p =
      let parts = and_parts (link_plain tightness l) (links_plain tightness rest) plain in
      free_both (link_words l) (links rest) (link_free l tightness parts.0) (links_free rest tightness parts.1) p

  link_free : (l : LinkTree) (tightness : ℕ) → link_plain tightness l ≡ true → Free (link_words l)
  link_free (link at op b) tightness plain p =
      let parts = and_parts (binding op == tightness) (expr_plain b) plain in
      (gapped refl, operator_is op, operand_roomy (binding op + 1) b (expression b) (expr_roomy b parts.1) (fixed spaced (operator_kind op)) spaced refl)

  postfixes_chain : (ps : PostfixTrees) → postfixes_plain ps ≡ true → (q : Piece) → may_access q ≡ true → Chain q (postfixes ps)
  postfixes_chain no_postfixes plain q may = tt
  postfixes_chain (postfix_and l rest) plain q may =
      let parts = and_parts (postfix_plain l) (postfixes_plain rest) plain in
      postfix_chain l (postfixes rest) parts.0 q may (postfixes_chain rest parts.1)

  postfix_chain : (l : PostfixTree) (ys : List Piece) → postfix_plain l ≡ true → (q : Piece) → may_access q ≡ true → ((r : Piece) → may_access r ≡ true → Chain r ys) → Chain q (postfix_words l ++ ys)
  postfix_chain (index at e) ys plain q may more =
      last_behind q (fixed tight k.OpenBracket ∷ expression e tight) (fixed tight k.CloseBracket) ys
      (alone refl, mark refl, free_behind (fixed tight k.OpenBracket) (expression e tight) (fixed tight k.CloseBracket ∷ []) (expr_roomy e plain (fixed tight k.OpenBracket) tight refl) (λ r. (alone refl, mark refl, tt)))
      (more (fixed tight k.CloseBracket) refl)
  postfix_chain (call at given) ys plain q may more =
      last_behind q (fixed tight k.OpenParen ∷ expressions given) (fixed tight k.CloseParen) ys
      (alone refl, mark refl, free_behind (fixed tight k.OpenParen) (expressions given) (fixed tight k.CloseParen ∷ []) (exprs_chain given plain (fixed tight k.OpenParen) refl) closing)
      (more (fixed tight k.CloseParen) refl)
  postfix_chain (dot at w) ys plain q may more = (accesses q (fixed tight k.Dot) may refl, mark refl, (word refl refl, plain, more (named tight w.bytes) refl))
  postfix_chain (arrow at w) ys plain q may more = (accesses q (fixed tight k.Arrow) may refl, mark refl, (word refl refl, plain, more (named tight w.bytes) refl))
  postfix_chain (increment at) ys plain q may more = (accesses q (fixed tight k.PlusPlus) may refl, mark refl, more (fixed tight k.PlusPlus) refl)
  postfix_chain (decrement at) ys plain q may more = (accesses q (fixed tight k.MinusMinus) may refl, mark refl, more (fixed tight k.MinusMinus) refl)

  pub exprs_chain : (es : ExprTrees) → exprs_plain es ≡ true → (p : Piece) → is_closed p ≡ true → Chain p (expressions es)
  exprs_chain no_exprs plain p closed = tt
  exprs_chain (expr_and e rest) plain p closed =
      let parts = and_parts (expr_plain e) (exprs_plain rest) plain in
      free_behind p (expression e tight) (more_expressions rest) (expr_roomy e parts.0 p tight closed) (more_exprs_free rest parts.1)

  more_exprs_free : (es : ExprTrees) → exprs_plain es ≡ true → Free (more_expressions es)
  more_exprs_free no_exprs plain p = tt
  more_exprs_free (expr_and e rest) plain p =
      let parts = and_parts (expr_plain e) (exprs_plain rest) plain in
      (alone refl, mark refl, free_behind (fixed tight k.Comma) (expression e spaced) (more_expressions rest) (expr_roomy e parts.0 (fixed tight k.Comma) spaced refl) (more_exprs_free rest parts.1))
