-- The words of plain statements, functions and other items may stand as they do.
use Rattle.std.proofs.Common.{◌≡◌, ℕ, ◌+◌, Bool, true, false, List, [], ◌∷◌, ◌++◌, refl, sym, subst}
use Rattle.std.specs.Prelude.{Option, Some, None, ◌&&◌}
use Rattle.std.specs.List.{list_all, flat_map}
use Rattle.std.proofs.lemmas.Bool.{and_parts, or_left, cond-true}
use Rattle.c_lexer.specs.declared.token.TokenKind.TheVariants as k
use Rattle.pt_tree.specs.declared.word.Word.{Word}
use Rattle.pt_tree.specs.ExpressionTree.{ExprTree}
use Rattle.pt_tree.specs.StatementTree.{InitTree, no_init, single, braces, InitDeclaratorTree, DeclarationTree, StmtTree, declare, block, nothing, evaluate, choose, while_true, do_while, for_each, give_back, stop_loop, next_turn, switch, ElseTree, no_else, otherwise, StmtTrees, no_stmts, stmt_and, stmt_trees, BlockTree}
use Rattle.pt_tree.specs.ProgramTree.{ParamTree, FunctionTree, ItemTree, declares, function}
use Rattle.c_printer.specs.Pieces.{Gap, tight, spaced, line, Piece, fixed}
use Rattle.c_printer.specs.Specifiers.{specifiers, declarator_words, suffix_words}
use Rattle.c_printer.specs.Expressions.{expression, expressions}
use Rattle.c_printer.specs.Statements.{deeper, initialiser, init_declarator, more_init_declarators, init_declarators, declaration, maybe, condition, is_block, branch, statement, else_part, statements}
use Rattle.c_printer.specs.Items.{param_name, param_words, more_params, params_words, body_words, function_gap, function_words, item_words}
use Rattle.c_printer.specs.Plain.{suffix_plain, declarator_plain, specs_plain, expr_plain, exprs_plain, maybe_plain, has_exprs, init_plain, init_declarator_plain, declaration_plain, stmt_plain, else_plain, stmts_plain, name_plain, param_plain, body_plain, function_plain, item_plain}
use Rattle.c_printer_law.proofs.LexingNeighbours.{mark, gapped, alone, has_gap, is_closed}
use Rattle.c_printer_law.proofs.LexingNeighbours as n
use Rattle.c_printer_law.proofs.LexingLayouts.{Chain}
use Rattle.c_printer_law.proofs.LexingChains.{Free, free_behind, free_both, has_room}
use Rattle.c_printer_law.proofs.LexingSpecifierChains.{closing, semicolon, specs_chain, declarator_free, suffix_free, starred_free}
use Rattle.c_printer_law.proofs.LexingExpressionChains.{expr_roomy, exprs_chain}

-- behind a gap there is room
room_of : (p : Piece) (gap : Gap) → has_gap gap ≡ true → has_room p gap ≡ true
room_of p gap h = or_left (has_gap gap) (is_closed p) h

expr_free : (e : ExprTree) (gap : Gap) → has_gap gap ≡ true → expr_plain e ≡ true → Free (expression e gap)
expr_free e gap h plain p = expr_roomy e plain p gap (room_of p gap h)

initialiser_free : (i : InitTree) → init_plain i ≡ true → Free (initialiser i)
initialiser_free no_init plain p = tt
initialiser_free (single e) plain p = (gapped refl, mark refl, expr_free e spaced refl plain (fixed spaced k.Equal))
initialiser_free (braces at items) plain p =
    let parts = and_parts (has_exprs items) (exprs_plain items) plain in (
      gapped refl,
      mark refl,
      (
        gapped refl,
        mark refl,
        free_behind (fixed spaced k.OpenBrace) (expressions items) (fixed tight k.CloseBrace ∷ []) (exprs_chain items parts.1 (fixed spaced k.OpenBrace) refl) (λ q. (alone refl, mark refl, tt)),
      ),
    )

init_declarator_free : (d : InitDeclaratorTree) → init_declarator_plain d ≡ true → Free (init_declarator d)
init_declarator_free d plain =
    let parts = and_parts (declarator_plain d.declarator) (init_plain d.init) plain in
    free_both (declarator_words d.declarator) (initialiser d.init) (declarator_free d.declarator parts.0) (initialiser_free d.init parts.1)

more_init_declarators_free : (ds : List InitDeclaratorTree) → list_all init_declarator_plain ds ≡ true → Free (more_init_declarators ds)
more_init_declarators_free [] plain p = tt
more_init_declarators_free (d ∷ ds) plain p =
    let parts = and_parts (init_declarator_plain d) (list_all init_declarator_plain ds) plain in
    (alone refl, mark refl, free_both (init_declarator d) (more_init_declarators ds) (init_declarator_free d parts.0) (more_init_declarators_free ds parts.1) (fixed tight k.Comma))

init_declarators_free : (ds : List InitDeclaratorTree) → list_all init_declarator_plain ds ≡ true → Free (init_declarators ds)
init_declarators_free [] plain p = tt
init_declarators_free (d ∷ ds) plain p =
    let parts = and_parts (init_declarator_plain d) (list_all init_declarator_plain ds) plain in
    free_both (init_declarator d) (more_init_declarators ds) (init_declarator_free d parts.0) (more_init_declarators_free ds parts.1) p

declaration_free : (d : DeclarationTree) (gap : Gap) → has_gap gap ≡ true → declaration_plain d ≡ true → Free (declaration d gap)
declaration_free d gap h plain p =
    let parts = and_parts (specs_plain d.specs) (list_all init_declarator_plain d.declarators) plain in
    free_behind p (specifiers d.specs gap) (init_declarators d.declarators ++ (fixed tight k.Semicolon ∷ [])) (specs_chain d.specs p gap (room_of p gap h) parts.0)
    (free_both (init_declarators d.declarators) (fixed tight k.Semicolon ∷ []) (init_declarators_free d.declarators parts.1) semicolon)

maybe_free : (e : Option ExprTree) → maybe_plain e ≡ true → Free (maybe e spaced)
maybe_free None plain p = tt
maybe_free (Some e) plain p = expr_free e spaced refl plain p

condition_free : (e : ExprTree) → expr_plain e ≡ true → Free (condition e)
condition_free e plain p =
    (gapped refl, mark refl, free_behind (fixed spaced k.OpenParen) (expression e tight) (fixed tight k.CloseParen ∷ []) (expr_roomy e plain (fixed spaced k.OpenParen) tight refl) closing)

branch_free : (a : StmtTree) (words : ℕ → Gap → List Piece) (level : ℕ) → is_block a ≡ true → Free (words level spaced) → Free (branch a words level)
branch_free a words level h free =
    subst Free (sym (cond-true (is_block a) (words level spaced) (words (deeper level) (line (deeper level))) h)) free

mutual
  stmt_free : (s : StmtTree) (level : ℕ) (gap : Gap) → has_gap gap ≡ true → stmt_plain s ≡ true → Free (statement s level gap)
  stmt_free (declare d) level gap h plain p = declaration_free d gap h plain p
  stmt_free (block at items) level gap h plain p =
      (gapped h, mark refl, free_both (statements items (deeper level)) (fixed (line level) k.CloseBrace ∷ []) (stmts_free items (deeper level) plain) (λ q. (gapped refl, mark refl, tt)) (fixed gap k.OpenBrace))
  stmt_free (nothing at) level gap h plain p = (gapped h, mark refl, tt)
  stmt_free (evaluate at e) level gap h plain p = free_both (expression e gap) (fixed tight k.Semicolon ∷ []) (expr_free e gap h plain) semicolon p
  stmt_free (choose at e a b) level gap h plain p =
      let parts = and_parts (expr_plain e) (is_block a && (stmt_plain a && else_plain b)) plain in
      let more = and_parts (is_block a) (stmt_plain a && else_plain b) parts.1 in
      let last = and_parts (stmt_plain a) (else_plain b) more.1 in (
        gapped h,
        n.keyword refl refl,
        free_both (condition e) (branch a (statement a) level ++ else_part b level) (condition_free e parts.0)
            (free_both (branch a (statement a) level) (else_part b level) (branch_free a (statement a) level more.0 (stmt_free a level spaced refl last.0)) (else_free b level last.1)) (fixed gap k.If),
      )
  stmt_free (while_true at e a) level gap h plain p =
      let parts = and_parts (expr_plain e) (is_block a && stmt_plain a) plain in
      let more = and_parts (is_block a) (stmt_plain a) parts.1 in (
        gapped h,
        n.keyword refl refl,
        free_both (condition e) (branch a (statement a) level) (condition_free e parts.0)
            (branch_free a (statement a) level more.0 (stmt_free a level spaced refl more.1)) (fixed gap k.While),
      )
  stmt_free (do_while at a e) level gap h plain p = absurd (cc)
  stmt_free (for_each at i b c a) level gap h plain p = absurd (cc)
  stmt_free (give_back at e) level gap h plain p =
      (gapped h, n.keyword refl refl, free_both (maybe e spaced) (fixed tight k.Semicolon ∷ []) (maybe_free e plain) semicolon (fixed gap k.Return))
  stmt_free (stop_loop at) level gap h plain p = (gapped h, n.keyword refl refl, semicolon (fixed gap k.Break))
  stmt_free (next_turn at) level gap h plain p = (gapped h, n.keyword refl refl, semicolon (fixed gap k.Continue))
  stmt_free (switch at e parts) level gap h plain p = absurd (cc)

  else_free : (b : ElseTree) (level : ℕ) → else_plain b ≡ true → Free (else_part b level)
  else_free no_else level plain p = tt
  else_free (otherwise a) level plain p =
      let parts = and_parts (is_block a) (stmt_plain a) plain in
      (gapped refl, n.keyword refl refl, branch_free a (statement a) level parts.0 (stmt_free a level spaced refl parts.1) (fixed spaced k.Else))

  stmts_free : (ss : StmtTrees) (level : ℕ) → stmts_plain ss ≡ true → Free (statements ss level)
  stmts_free no_stmts level plain p = tt
  stmts_free (stmt_and s rest) level plain p =
      let parts = and_parts (stmt_plain s) (stmts_plain rest) plain in
      free_both (statement s level (line level)) (statements rest level) (stmt_free s level (line level) refl parts.0) (stmts_free rest level parts.1) p

items_plain_of : (ss : List StmtTree) → list_all stmt_plain ss ≡ true → stmts_plain (stmt_trees ss) ≡ true
items_plain_of [] h = refl
items_plain_of (s ∷ ss) h =
    let parts = and_parts (stmt_plain s) (list_all stmt_plain ss) h in
    rw (parts.0, items_plain_of ss parts.1) refl

param_name_free : (pointer : Bool) (name : Option Word) → name_plain name ≡ true → Free (param_name pointer name)
param_name_free pointer (Some w) plain = starred_free pointer w.bytes plain
param_name_free true None plain = λ p. (gapped refl, mark refl, tt)
param_name_free false None plain = λ p. tt

param_chain : (q : ParamTree) (p : Piece) (gap : Gap) → has_room p gap ≡ true → param_plain q ≡ true → Chain p (param_words q gap)
param_chain q p gap room plain =
    let parts = and_parts (specs_plain q.specs) (name_plain q.name && suffix_plain q.suffix) plain in
    let more = and_parts (name_plain q.name) (suffix_plain q.suffix) parts.1 in
    free_behind p (specifiers q.specs gap) (param_name q.pointer q.name ++ suffix_words q.suffix) (specs_chain q.specs p gap room parts.0)
    (free_both (param_name q.pointer q.name) (suffix_words q.suffix) (param_name_free q.pointer q.name more.0) (suffix_free q.suffix more.1))

more_params_free : (ps : List ParamTree) → list_all param_plain ps ≡ true → Free (more_params ps)
more_params_free [] plain p = tt
more_params_free (q ∷ ps) plain p =
    let parts = and_parts (param_plain q) (list_all param_plain ps) plain in
    (alone refl, mark refl, free_behind (fixed tight k.Comma) (param_words q spaced) (more_params ps) (param_chain q (fixed tight k.Comma) spaced refl parts.0) (more_params_free ps parts.1))

params_chain : (ps : List ParamTree) (p : Piece) → is_closed p ≡ true → list_all param_plain ps ≡ true → Chain p (params_words ps)
params_chain [] p closed plain = tt
params_chain (q ∷ ps) p closed plain =
    let parts = and_parts (param_plain q) (list_all param_plain ps) plain in
    free_behind p (param_words q tight) (more_params ps) (param_chain q p tight closed parts.0) (more_params_free ps parts.1)

body_free : (b : Option BlockTree) → body_plain b ≡ true → Free (body_words b)
body_free None plain p = semicolon p
body_free (Some b) plain p = (
  gapped refl,
  mark refl,
  free_both (statements (stmt_trees b.items) 1) (fixed (line 0) k.CloseBrace ∷ []) (stmts_free (stmt_trees b.items) 1 (items_plain_of b.items plain))
      (λ q. (gapped refl, mark refl, tt)) (fixed spaced k.OpenBrace),
)

function_has_gap : (b : Option BlockTree) → has_gap (function_gap b) ≡ true
function_has_gap None = refl
function_has_gap (Some b) = refl

function_free : (f : FunctionTree) → function_plain f ≡ true → Free (function_words f)
function_free f plain p =
    let parts = and_parts (specs_plain f.specs) (declarator_plain f.declarator && (list_all param_plain f.params && body_plain f.body)) plain in
    let more = and_parts (declarator_plain f.declarator) (list_all param_plain f.params && body_plain f.body) parts.1 in
    let last = and_parts (list_all param_plain f.params) (body_plain f.body) more.1 in
    let gap = function_gap f.body in
    let behind_params = fixed tight k.CloseParen ∷ body_words f.body in
    let behind_name = fixed tight k.OpenParen ∷ (params_words f.params ++ behind_params) in
    free_behind p (specifiers f.specs gap) (declarator_words f.declarator ++ behind_name) (specs_chain f.specs p gap (room_of p gap (function_has_gap f.body)) parts.0)
    (free_both (declarator_words f.declarator) behind_name (declarator_free f.declarator more.0)
    (λ q. (
      alone refl,
      mark refl,
      free_behind (fixed tight k.OpenParen) (params_words f.params) behind_params (params_chain f.params (fixed tight k.OpenParen) refl last.0)
          (λ r. (alone refl, mark refl, body_free f.body last.1 (fixed tight k.CloseParen))),
    )))

item_free : (i : ItemTree) → item_plain i ≡ true → Free (item_words i)
item_free (declares d) plain p = declaration_free d (line 0) refl plain p
item_free (function f) plain p = function_free f plain p

pub items_free : (items : List ItemTree) → list_all item_plain items ≡ true → Free (flat_map item_words items)
items_free [] plain p = tt
items_free (i ∷ items) plain p =
    let parts = and_parts (item_plain i) (list_all item_plain items) plain in
    free_both (item_words i) (flat_map item_words items) (item_free i parts.0) (items_free items parts.1) p
