-- The words of statements and blocks read back.
use Rattle.std.proofs.Common.{◌≡◌, ℕ, ◌+◌, List, [], ◌∷◌, ◌++◌, true, ◌&&◌, Option, None, Some, refl, ap}
use Rattle.pt_base.specs.declared.span.Span.{Span}
use Rattle.pt_base.proofs.Booleans.{and_parts, false_true_absurd}
use Rattle.c_lexer.specs.declared.token.Token.{Token}
use Rattle.c_lexer.specs.declared.token.TokenKind.TheVariants as k
use Rattle.c_grammar.specs.declared.symbol.Symbol.TheVariants as s
use Rattle.c_grammar.specs.Part.{stmt, stmts, block, otherwise}
use Rattle.c_grammar.specs.Machine.{stretch}
use Rattle.pt_tree.specs.ExpressionTree.{ExprTree}
use Rattle.pt_tree.specs.StatementTree as t
use Rattle.pt_tree.specs.StatementTree.{DeclarationTree, StmtTree, declare, nothing, evaluate, choose, while_true, do_while, for_each, give_back, stop_loop, next_turn, switch, ElseTree, no_else, StmtTrees, no_stmts, stmt_and, stmt_trees, BlockTree}
use Rattle.c_printer.specs.Pieces.{Gap, tight, spaced, line, Piece, fixed}
use Rattle.c_printer.specs.Expressions.{expression}
use Rattle.c_printer.specs.Statements.{deeper, condition, maybe, is_block, branch, statement, else_part, statements, declaration as declaration_words}
use Rattle.c_printer.specs.Plain.{expr_plain, maybe_plain, declaration_plain, stmt_plain, else_plain, stmts_plain}
use Rattle.c_printer.specs.Unplaced as u
use Rattle.c_printer_law.proofs.Classes.{only, starts, ends, begins_spec, begins_stmt, begins_item, after_item}
use Rattle.c_printer_law.proofs.Operands.{ReadExpr, whole}
use Rattle.c_printer_law.proofs.Expressions.{expr_read}
use Rattle.c_printer_law.proofs.Initialisers.{declaration_read}
use Rattle.c_printer_law.proofs.Steps.{Has, Is, Stands, first, behind, over, split, Gives, Grows, grows_none, grows_more, enters, enters_by, takes_it, builds_on, kind_here, has_here, has_at, weaker, settled, counted_from}

-- a statement, alone and as an item of a block
pub record ReadStmt (tokens : List Token) (x : StmtTree) (at next : ℕ) : Type 0 where
  pub begins : Has tokens at begins_item
  pub gives : Gives tokens s.Item at next stmt u.stmt (u.stmt x)

abbrev GivesStmt : List Token → ℕ → ℕ → StmtTree → Type 0
GivesStmt tokens at next x = Gives tokens s.Statement at next stmt u.stmt x

as_item : {tokens : List Token} {x : StmtTree} {at next : ℕ} → Has tokens at begins_stmt → GivesStmt tokens at next (u.stmt x) → ReadStmt tokens x at next
as_item begin g = record {
  begins = weaker begins_stmt begins_item refl begin;
  gives = record { tree = g.tree; alike = g.alike; from = λ {rest} {parts} {o} c. enters_by begins_stmt 64 refl begin (counted_from g c) };
}

-- the items of a block
pub record MoreStmts (tokens : List Token) (items : StmtTrees) (at next : ℕ) : Type 0 where
  pub begins : Has tokens at after_item
  pub grows : Grows tokens s.Items at next stmts (λ l. u.stmts (stmt_trees l)) (u.stmts items)

pub record ReadableStmts (tokens : List Token) (items : StmtTrees) : Type 0 where
  pub from : (level at next : ℕ) → Stands tokens at (statements items level) next → Has tokens next (only k.CloseBrace) → MoreStmts tokens items at next

-- a block in braces
abbrev pub block_words : StmtTrees → ℕ → ℕ → Gap → List Piece
block_words items level outer gap = fixed gap k.OpenBrace ∷ (statements items level ++ (fixed (line outer) k.CloseBrace ∷ []))

pub block_given : {tokens : List Token} {items : StmtTrees} (r : ReadableStmts tokens items) (level outer : ℕ) (gap : Gap) (at next : ℕ) → Stands tokens at (block_words items level outer gap) next → Gives tokens s.Block at next block (λ x. u.stmts (stmt_trees x.items)) (u.stmts items)
block_given {tokens = tokens} {items = items} r level outer gap at next h =
    let one = split (statements items level) (fixed (line outer) k.CloseBrace ∷ []) (behind h) in
    let more = r.from level (at + 1) one.mid one.left (has_here (only k.CloseBrace) (first one.right) refl) in
    record {
      tree = record { span = stretch tokens at next; items = more.grows.new };
      alike = more.grows.alike;
      from = λ {rest} {parts} {o} c. enters 60 (kind_here (first h)) refl (takes_it (first h) refl (builds_on (more.grows.from [] (takes_it (first one.right) refl (settled (over (behind one.right)) (builds_on c))))));
    }

block_stmt : {tokens : List Token} {items : StmtTrees} (r : ReadableStmts tokens items) (here : Span) (level outer : ℕ) (gap : Gap) (at next : ℕ) → Stands tokens at (block_words items level outer gap) next → Has tokens at begins_stmt × GivesStmt tokens at next (u.stmt (t.block here items))
block_stmt r here level outer gap at next h =
    let x = block_given r level outer gap at next h in (
      has_here begins_stmt (first h) refl,
      record {
        tree = t.block x.tree.span (stmt_trees x.tree.items);
        alike = ap (λ l. t.block u.nowhere l) x.alike;
        from = λ {rest} {parts} {o} c. enters 68 (kind_here (first h)) refl (x.from (builds_on c));
      },
    )

-- what hangs on a condition
pub record ReadableBranch (tokens : List Token) (x : StmtTree) : Type 0 where
  pub from : (level at next : ℕ) → Stands tokens at (branch x (statement x) level) next → Has tokens at begins_stmt × GivesStmt tokens at next (u.stmt x)

-- an expression in parentheses
record ReadCondition (tokens : List Token) (e : ExprTree) (at next : ℕ) : Type 0 where
  mid : ℕ
  left : Is tokens at (fixed spaced k.OpenParen)
  inner : ReadExpr tokens 0 e (at + 1) mid
  right : Is tokens mid (fixed tight k.CloseParen)
  past : mid + 1 ≡ next

condition_read : (tokens : List Token) (e : ExprTree) (at next : ℕ) → expr_plain e ≡ true → Stands tokens at (condition e) next → ReadCondition tokens e at next
condition_read tokens e at next plain h =
    let one = split (expression e tight) (fixed tight k.CloseParen ∷ []) (behind h) in
    record {
      mid = one.mid;
      left = first h;
      inner = whole (expr_read tokens e plain) tight (at + 1) one.mid one.left (has_here (ends 0) (first one.right) refl);
      right = first one.right;
      past = over (behind one.right);
    }

nothing_given : (tokens : List Token) (here : Span) (gap : Gap) (at next : ℕ) → Stands tokens at (fixed gap k.Semicolon ∷ []) next → GivesStmt tokens at next (u.stmt (nothing here))
nothing_given tokens here gap at next h = record { tree = nothing (stretch tokens at next); alike = refl; from = λ {rest} {parts} {o} c. enters 69 (kind_here (first h)) refl (takes_it (first h) refl (settled (over (behind h)) (builds_on c))) }

break_given : (tokens : List Token) (here : Span) (gap : Gap) (at next : ℕ) → Stands tokens at (fixed gap k.Break ∷ fixed tight k.Semicolon ∷ []) next → GivesStmt tokens at next (u.stmt (stop_loop here))
break_given tokens here gap at next h = record { tree = stop_loop (stretch tokens at next); alike = refl; from = λ {rest} {parts} {o} c. enters 76 (kind_here (first h)) refl (takes_it (first h) refl (takes_it (first (behind h)) refl (settled (over (behind (behind h))) (builds_on c)))) }

continue_given : (tokens : List Token) (here : Span) (gap : Gap) (at next : ℕ) → Stands tokens at (fixed gap k.Continue ∷ fixed tight k.Semicolon ∷ []) next → GivesStmt tokens at next (u.stmt (next_turn here))
continue_given tokens here gap at next h = record { tree = next_turn (stretch tokens at next); alike = refl; from = λ {rest} {parts} {o} c. enters 77 (kind_here (first h)) refl (takes_it (first h) refl (takes_it (first (behind h)) refl (settled (over (behind (behind h))) (builds_on c)))) }

evaluate_given : (tokens : List Token) (here : Span) (e : ExprTree) (gap : Gap) (at next : ℕ) → expr_plain e ≡ true → Stands tokens at (expression e gap ++ (fixed tight k.Semicolon ∷ [])) next → Has tokens at begins_stmt × GivesStmt tokens at next (u.stmt (evaluate here e))
evaluate_given tokens here e gap at next plain h =
    let one = split (expression e gap) (fixed tight k.Semicolon ∷ []) h in
    let x = whole (expr_read tokens e plain) gap at one.mid one.left (has_here (ends 0) (first one.right) refl) in (
      weaker starts begins_stmt refl x.begins,
      record {
        tree = evaluate (stretch tokens at next) x.gives.tree;
        alike = ap (λ d. evaluate u.nowhere d) x.gives.alike;
        from = λ {rest} {parts} {o} c. enters_by starts 70 refl x.begins (counted_from x.gives (takes_it (first one.right) refl (settled (over (behind one.right)) (builds_on c))));
      },
    )

return_given : (tokens : List Token) (here : Span) (e : Option ExprTree) (gap : Gap) (at next : ℕ) → maybe_plain e ≡ true → Stands tokens at (fixed gap k.Return ∷ (maybe e spaced ++ (fixed tight k.Semicolon ∷ []))) next → GivesStmt tokens at next (u.stmt (give_back here e))
return_given tokens here None gap at next plain h =
    let end = first (behind h) in
    record {
      tree = give_back (stretch tokens at next) None;
      alike = refl;
      from = λ {rest} {parts} {o} c. enters 75 (kind_here (first h)) refl (takes_it (first h) refl (enters 86 (kind_here end) refl (builds_on (takes_it end refl (settled (over (behind (behind h))) (builds_on c))))));
    }
return_given tokens here (Some e) gap at next plain h =
    let one = split (expression e spaced) (fixed tight k.Semicolon ∷ []) (behind h) in
    let x = whole (expr_read tokens e plain) spaced (at + 1) one.mid one.left (has_here (ends 0) (first one.right) refl) in
    record {
      tree = give_back (stretch tokens at next) (Some x.gives.tree);
      alike = ap (λ d. give_back u.nowhere (Some d)) x.gives.alike;
      from = λ {rest} {parts} {o} c. enters 75 (kind_here (first h)) refl (takes_it (first h) refl (enters_by starts 85 refl x.begins (counted_from x.gives (builds_on (takes_it (first one.right) refl (settled (over (behind one.right)) (builds_on c)))))));
    }

while_given : (tokens : List Token) (here : Span) (e : ExprTree) (a : StmtTree) (level : ℕ) (gap : Gap) (at next : ℕ) → expr_plain e ≡ true → ReadableBranch tokens a → Stands tokens at (fixed gap k.While ∷ (condition e ++ branch a (statement a) level)) next → GivesStmt tokens at next (u.stmt (while_true here e a))
while_given tokens here e a level gap at next plain r h =
    let one = split (condition e) (branch a (statement a) level) (behind h) in
    let test = condition_read tokens e (at + 1) one.mid plain one.left in
    let body = (r.from level one.mid next one.right).1 in
    record {
      tree = while_true (stretch tokens at next) test.inner.gives.tree body.tree;
      alike = while_is (u.expr test.inner.gives.tree) (u.expr e) (u.stmt body.tree) (u.stmt a) test.inner.gives.alike body.alike;
      from = λ {rest} {parts} {o} c. enters 72 (kind_here (first h)) refl (takes_it (first h) refl (takes_it test.left refl (counted_from test.inner.gives (takes_it test.right refl (settled test.past (counted_from body (builds_on c)))))));
    }
  where
    while_is : (d e : ExprTree) (x y : StmtTree) → d ≡ e → x ≡ y → while_true u.nowhere d x ≡ while_true u.nowhere e y
    while_is d e x y i j = cc

-- the branch that is taken otherwise, if there is one
record ReadElse (tokens : List Token) (x : ElseTree) (at next : ℕ) : Type 0 where
  gives : Gives tokens s.ElsePart at next otherwise u.else_tree (u.else_tree x)

record ReadableElse (tokens : List Token) (x : ElseTree) : Type 0 where
  from : (level at next : ℕ) → Stands tokens at (else_part x level) next → Has tokens next after_item → ReadElse tokens x at next

no_else_readable : (tokens : List Token) → ReadableElse tokens no_else
no_else_readable tokens = record {
  from = λ level at next h end. record { gives = record { tree = no_else; alike = refl; from = λ {rest} {parts} {o} c. enters_by after_item 79 refl (has_at (over h) end) (builds_on (settled (over h) c)) } };
}

else_readable : (tokens : List Token) (a : StmtTree) → ReadableBranch tokens a → ReadableElse tokens (t.otherwise a)
else_readable tokens a r = record {
  from = λ level at next h end.
      let body = (r.from level (at + 1) next (behind h)).1 in
      record {
        gives = record {
          tree = t.otherwise body.tree;
          alike = ap (λ x. t.otherwise x) body.alike;
          from = λ {rest} {parts} {o} c. enters 78 (kind_here (first h)) refl (takes_it (first h) refl (counted_from body (builds_on c)));
        };
      };
}

choose_given : (tokens : List Token) (here : Span) (e : ExprTree) (a : StmtTree) (b : ElseTree) (level : ℕ) (gap : Gap) (at next : ℕ) → expr_plain e ≡ true → ReadableBranch tokens a → ReadableElse tokens b → Stands tokens at (fixed gap k.If ∷ (condition e ++ (branch a (statement a) level ++ else_part b level))) next → Has tokens next after_item → GivesStmt tokens at next (u.stmt (choose here e a b))
choose_given tokens here e a b level gap at next plain ra rb h end =
    let one = split (condition e) (branch a (statement a) level ++ else_part b level) (behind h) in
    let two = split (branch a (statement a) level) (else_part b level) one.right in
    let test = condition_read tokens e (at + 1) one.mid plain one.left in
    let body = (ra.from level one.mid two.mid two.left).1 in
    let other = (rb.from level two.mid next two.right end).gives in
    record {
      tree = choose (stretch tokens at next) test.inner.gives.tree body.tree other.tree;
      alike = choose_is (u.expr test.inner.gives.tree) (u.expr e) (u.stmt body.tree) (u.stmt a) (u.else_tree other.tree) (u.else_tree b) test.inner.gives.alike body.alike other.alike;
      from = λ {rest} {parts} {o} c. enters 71 (kind_here (first h)) refl (takes_it (first h) refl (takes_it test.left refl (counted_from test.inner.gives (takes_it test.right refl (settled test.past (counted_from body (other.from (builds_on c))))))));
    }
  where
    choose_is : (d e : ExprTree) (x y : StmtTree) (v w : ElseTree) → d ≡ e → x ≡ y → v ≡ w → choose u.nowhere d x v ≡ choose u.nowhere e y w
    choose_is d e x y v w i j l = cc

declare_read : (tokens : List Token) (d : DeclarationTree) (gap : Gap) (at next : ℕ) → declaration_plain d ≡ true → Stands tokens at (declaration_words d gap) next → ReadStmt tokens (declare d) at next
declare_read tokens d gap at next plain h =
    let x = declaration_read tokens d gap at next plain h in
    record {
      begins = weaker begins_spec begins_item refl x.begins;
      gives = record { tree = declare x.inside.tree; alike = ap (λ d. declare d) x.inside.alike; from = λ {rest} {parts} {o} c. enters_by begins_spec 63 refl x.begins (x.inside.from (builds_on c)) };
    }

record ReadableStmt (tokens : List Token) (x : StmtTree) : Type 0 where
  from : (level : ℕ) (gap : Gap) (at next : ℕ) → Stands tokens at (statement x level gap) next → Has tokens next after_item → ReadStmt tokens x at next

no_more_stmts : (tokens : List Token) → ReadableStmts tokens no_stmts
no_more_stmts tokens = record { from = λ level at next h end. record { begins = has_at (over h) (weaker (only k.CloseBrace) after_item refl end); grows = grows_none (only k.CloseBrace) 62 refl refl (over h) end refl } }

one_more_stmt : (tokens : List Token) (x : StmtTree) (items : StmtTrees) → ReadableStmt tokens x → ReadableStmts tokens items → ReadableStmts tokens (stmt_and x items)
one_more_stmt tokens x items r rs = record {
  from = λ level at next h end.
      let one = split (statement x level (line level)) (statements items level) h in
      let more = rs.from level one.mid next one.right end in
      let head = r.from level (line level) at one.mid one.left more.begins in
      record {
        begins = weaker begins_item after_item refl head.begins;
        grows = grows_more head.gives.tree more.grows (λ before rest parts o c. enters_by begins_item 61 refl head.begins (head.gives.from (builds_on c))) (stmts_are (u.stmt head.gives.tree) (u.stmt x) (u.stmts (stmt_trees more.grows.new)) (u.stmts items) head.gives.alike more.grows.alike);
      };
}
  where
    stmts_are : (a b : StmtTree) (l m : StmtTrees) → a ≡ b → l ≡ m → stmt_and a l ≡ stmt_and b m
    stmts_are a b l m i j = cc

mutual
  stmt_read : (tokens : List Token) (x : StmtTree) → stmt_plain x ≡ true → ReadableStmt tokens x
  stmt_read tokens (declare d) plain = record { from = λ level gap at next h end. declare_read tokens d gap at next plain h }
  stmt_read tokens (t.block here items) plain = let r = stmts_read tokens items plain in record { from = λ level gap at next h end. let x = block_stmt r here (deeper level) level gap at next h in as_item x.0 x.1 }
  stmt_read tokens (nothing here) plain = record { from = λ level gap at next h end. as_item (has_here begins_stmt (first h) refl) (nothing_given tokens here gap at next h) }
  stmt_read tokens (evaluate here e) plain = record { from = λ level gap at next h end. let x = evaluate_given tokens here e gap at next plain h in as_item x.0 x.1 }
  stmt_read tokens (choose here e a b) plain =
      let one = and_parts (expr_plain e) (is_block a && (stmt_plain a && else_plain b)) plain in
      let two = and_parts (is_block a) (stmt_plain a && else_plain b) one.1 in
      let three = and_parts (stmt_plain a) (else_plain b) two.1 in
      let ra = branch_read tokens a two.0 three.0 in
      let rb = else_read tokens b three.1 in
      record { from = λ level gap at next h end. as_item (has_here begins_stmt (first h) refl) (choose_given tokens here e a b level gap at next one.0 ra rb h end) }
  stmt_read tokens (while_true here e a) plain =
      let one = and_parts (expr_plain e) (is_block a && stmt_plain a) plain in
      let two = and_parts (is_block a) (stmt_plain a) one.1 in
      let ra = branch_read tokens a two.0 two.1 in
      record { from = λ level gap at next h end. as_item (has_here begins_stmt (first h) refl) (while_given tokens here e a level gap at next one.0 ra h) }
  stmt_read tokens (do_while here a e) plain = absurd (false_true_absurd plain)
  stmt_read tokens (for_each here i b c a) plain = absurd (false_true_absurd plain)
  stmt_read tokens (give_back here e) plain = record { from = λ level gap at next h end. as_item (has_here begins_stmt (first h) refl) (return_given tokens here e gap at next plain h) }
  stmt_read tokens (stop_loop here) plain = record { from = λ level gap at next h end. as_item (has_here begins_stmt (first h) refl) (break_given tokens here gap at next h) }
  stmt_read tokens (next_turn here) plain = record { from = λ level gap at next h end. as_item (has_here begins_stmt (first h) refl) (continue_given tokens here gap at next h) }
  stmt_read tokens (switch here e ss) plain = absurd (false_true_absurd plain)

  branch_read : (tokens : List Token) (x : StmtTree) → is_block x ≡ true → stmt_plain x ≡ true → ReadableBranch tokens x
  branch_read tokens (t.block here items) is plain = let r = stmts_read tokens items plain in record { from = λ level at next h. block_stmt r here (deeper level) level spaced at next h }
  branch_read tokens x is plain = absurd (false_true_absurd is)

  else_read : (tokens : List Token) (x : ElseTree) → else_plain x ≡ true → ReadableElse tokens x
  else_read tokens no_else plain = no_else_readable tokens
  else_read tokens (t.otherwise a) plain = let both = and_parts (is_block a) (stmt_plain a) plain in else_readable tokens a (branch_read tokens a both.0 both.1)

  pub stmts_read : (tokens : List Token) (items : StmtTrees) → stmts_plain items ≡ true → ReadableStmts tokens items
  stmts_read tokens no_stmts plain = no_more_stmts tokens
  stmts_read tokens (stmt_and x rest) plain = let both = and_parts (stmt_plain x) (stmts_plain rest) plain in one_more_stmt tokens x rest (stmt_read tokens x both.0) (stmts_read tokens rest both.1)
