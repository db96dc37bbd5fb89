-- The words of declarations and statements. A statement stands so many levels in; the gap is what stands
-- before its first word.
use Rattle.std.specs.Prelude.{ℕ, ◌+◌, min, List, [], ◌∷◌, ◌++◌, Bool, true, false, if◌then◌else◌, Option, Some, None}
use Rattle.c_lexer.specs.declared.token.TokenKind.TheVariants as k
use Rattle.pt_tree.specs.ExpressionTree.{ExprTree}
use Rattle.pt_tree.specs.StatementTree.{InitTree, no_init, single, braces, InitDeclaratorTree, DeclarationTree, LabelTree, case_label, default_label, ForInitTree, for_declare, for_nothing, for_expr, StmtTree, declare, block, nothing, evaluate, choose, while_true, do_while, for_each, give_back, stop_loop, next_turn, switch, ElseTree, no_else, otherwise, StmtTrees, no_stmts, stmt_and, SectionTree, section, SectionTrees, no_sections, section_and}
use Rattle.c_printer.specs.Pieces.{Gap, tight, spaced, line, Piece, fixed}
use Rattle.c_printer.specs.Specifiers.{specifiers, declarator_words}
use Rattle.c_printer.specs.Expressions.{expression, expressions}

-- one level further in. From 20 levels on all look alike
abbrev pub deeper : ℕ → ℕ
deeper level = min (level + 1) 20

abbrev pub initialiser : InitTree → List Piece
initialiser no_init = []
initialiser (single e) = fixed spaced k.Equal ∷ expression e spaced
initialiser (braces at items) = fixed spaced k.Equal ∷ fixed spaced k.OpenBrace ∷ (expressions items ++ (fixed tight k.CloseBrace ∷ []))

abbrev pub init_declarator : InitDeclaratorTree → List Piece
init_declarator d = declarator_words d.declarator ++ initialiser d.init

abbrev pub more_init_declarators : List InitDeclaratorTree → List Piece
more_init_declarators [] = []
more_init_declarators (d ∷ ds) = fixed tight k.Comma ∷ (init_declarator d ++ more_init_declarators ds)

abbrev pub init_declarators : List InitDeclaratorTree → List Piece
init_declarators [] = []
init_declarators (d ∷ ds) = init_declarator d ++ more_init_declarators ds

abbrev pub declaration : DeclarationTree → Gap → List Piece
declaration d gap = specifiers d.specs gap ++ (init_declarators d.declarators ++ (fixed tight k.Semicolon ∷ []))

-- an expression that may be left out
abbrev pub maybe : Option ExprTree → Gap → List Piece
maybe None gap = []
maybe (Some e) gap = expression e gap

abbrev pub condition : ExprTree → List Piece
condition e = fixed spaced k.OpenParen ∷ (expression e tight ++ (fixed tight k.CloseParen ∷ []))

abbrev pub for_init : ForInitTree → List Piece
for_init (for_declare d) = declaration d tight
for_init for_nothing = fixed tight k.Semicolon ∷ []
for_init (for_expr e) = expression e tight ++ (fixed tight k.Semicolon ∷ [])

abbrev pub label_words : LabelTree → ℕ → List Piece
label_words (case_label at e) level = fixed (line level) k.Case ∷ (expression e spaced ++ (fixed tight k.Colon ∷ []))
label_words (default_label at) level = fixed (line level) k.Default ∷ fixed tight k.Colon ∷ []

abbrev pub is_block : StmtTree → Bool
is_block (block at items) = true
is_block s = false

-- what hangs on a condition: a block stands on the condition's line, anything else on its own
abbrev pub branch : StmtTree → (ℕ → Gap → List Piece) → ℕ → List Piece
branch s words level = if is_block s then words level spaced else words (deeper level) (line (deeper level))

abbrev mutual
  pub statement : StmtTree → ℕ → Gap → List Piece
  statement (declare d) level gap = declaration d gap
  statement (block at items) level gap = fixed gap k.OpenBrace ∷ (statements items (deeper level) ++ (fixed (line level) k.CloseBrace ∷ []))
  statement (nothing at) level gap = fixed gap k.Semicolon ∷ []
  statement (evaluate at e) level gap = expression e gap ++ (fixed tight k.Semicolon ∷ [])
  statement (choose at e a b) level gap = fixed gap k.If ∷ (condition e ++ (branch a (statement a) level ++ else_part b level))
  statement (while_true at e a) level gap = fixed gap k.While ∷ (condition e ++ branch a (statement a) level)
  statement (do_while at a e) level gap = fixed gap k.Do ∷ (branch a (statement a) level ++ (fixed spaced k.While ∷ (condition e ++ (fixed tight k.Semicolon ∷ []))))
  statement (for_each at i b c a) level gap = fixed gap k.For ∷ fixed spaced k.OpenParen ∷ (for_init i ++ (maybe b spaced ++ (fixed tight k.Semicolon ∷ (maybe c spaced ++ (fixed tight k.CloseParen ∷ branch a (statement a) level)))))
  statement (give_back at e) level gap = fixed gap k.Return ∷ (maybe e spaced ++ (fixed tight k.Semicolon ∷ []))
  statement (stop_loop at) level gap = fixed gap k.Break ∷ fixed tight k.Semicolon ∷ []
  statement (next_turn at) level gap = fixed gap k.Continue ∷ fixed tight k.Semicolon ∷ []
  statement (switch at e sections) level gap = fixed gap k.Switch ∷ (condition e ++ (fixed spaced k.OpenBrace ∷ (section_list sections level ++ (fixed (line level) k.CloseBrace ∷ []))))

  pub else_part : ElseTree → ℕ → List Piece
  else_part no_else level = []
  else_part (otherwise a) level = fixed spaced k.Else ∷ branch a (statement a) level

  -- each on a line
  pub statements : StmtTrees → ℕ → List Piece
  statements no_stmts level = []
  statements (stmt_and s rest) level = statement s level (line level) ++ statements rest level

  pub section_list : SectionTrees → ℕ → List Piece
  section_list no_sections level = []
  section_list (section_and s rest) level = section_words s level ++ section_list rest level

  pub section_words : SectionTree → ℕ → List Piece
  section_words (section at label items) level = label_words label level ++ statements items (deeper level)

-- the parts of a statement that have words of their own
abbrev pub block_words : StmtTrees → ℕ → Gap → List Piece
block_words items level gap = fixed gap k.OpenBrace ∷ (statements items (deeper level) ++ (fixed (line level) k.CloseBrace ∷ []))

abbrev pub switch_words : SectionTrees → ℕ → List Piece
switch_words parts level = fixed spaced k.OpenBrace ∷ (section_list parts level ++ (fixed (line level) k.CloseBrace ∷ []))

abbrev pub for_words : ForInitTree → Option ExprTree → Option ExprTree → Gap → List Piece
for_words i b c gap = fixed gap k.For ∷ fixed spaced k.OpenParen ∷ (for_init i ++ (maybe b spaced ++ (fixed tight k.Semicolon ∷ (maybe c spaced ++ (fixed tight k.CloseParen ∷ [])))))
