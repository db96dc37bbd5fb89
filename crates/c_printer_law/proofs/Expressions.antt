-- The words of each plain expression read back.
use Rattle.std.proofs.Common.{◌≡◌, ℕ, ◌+◌, List, [], ◌∷◌, ◌++◌, Bool, true, false, ◌&&◌, ◌==◌, if◌then◌else◌, nat_le, ◌≤◌, refl, sym, ap, subst, arith}
use Rattle.pt_base.specs.declared.span.Span.{Span}
use Rattle.pt_base.proofs.Booleans.{and_parts, false_true_absurd}
use Rattle.pt_base.proofs.Numbers.{nat_le_at_most}
use Rattle.c_lexer.specs.declared.token.Token.{Token}
use Rattle.c_lexer.specs.declared.token.TokenKind.TheVariants as k
use Rattle.c_grammar.specs.declared.symbol.Symbol.TheVariants as s
use Rattle.c_grammar.specs.Builds.{postfixed}
use Rattle.c_grammar.specs.Part.{Part, exprs, postfixes}
use Rattle.c_grammar.specs.Machine.{Entry, gives, Outcome, stretch}
use Rattle.pt_tree.specs.declared.word.Word.{Word}
use Rattle.pt_tree.specs.ExpressionTree.{ExprTree, name, constant, prefix, cast, postfix, chain, choice, assign, ExprTrees, no_exprs, expr_and, expr_trees, LinkTree, link, LinkTrees, no_links, link_and, PostfixTree, index, call, dot, arrow, increment, decrement, PostfixTrees, no_postfixes, postfix_and, postfix_trees}
use Rattle.c_printer.specs.Pieces.{Gap, tight, spaced, fixed}
use Rattle.c_printer.specs.Kinds.{binding, chain_binding, tightness}
use Rattle.c_printer.specs.Expressions.{expression, in_parentheses, links, link_words, postfixes as postfixes_words, postfix_words, expressions, more_expressions}
use Rattle.c_printer.specs.Plain.{expr_plain, exprs_plain, links_plain, link_plain, postfixes_plain, postfix_plain, has_postfixes, has_links, specs_plain, assigns}
use Rattle.c_printer.specs.Unplaced as u
use Rattle.c_printer_law.proofs.Classes.{only, starts, ends}
use Rattle.c_printer_law.proofs.Levels.{IsLevel, level_of, GivesExpr}
use Rattle.c_printer_law.proofs.Operands.{Readable, GrowsPostfixes, whole, own_level, no_more_postfixes, name_readable, constant_readable, name_with, group_with, postfixed_is}
use Rattle.c_printer_law.proofs.Forms.{prefix_readable, cast_readable}
use Rattle.c_printer_law.proofs.Operators.{binds_less, MoreLinks, no_more_links, link_read, chain_readable, choice_readable, assign_readable}
use Rattle.c_printer_law.proofs.Steps.{Comes, Has, Is, Stands, first, behind, over, split, Gives, Grows, grows_none, grows_more, enters, enters_by, takes_it, takes_name, builds_on, kind_here, has_here, has_at, weaker, ends_later, settled, moved, counted_from}

-- one postfix is added to those on top
record AddsPostfix (tokens : List Token) (x : PostfixTree) (at next : ℕ) : Type 0 where
  tree : PostfixTree
  alike : u.postfix_tree tree ≡ u.postfix_tree x
  step : (before : List PostfixTree) (rest : List Entry) (parts : List Part) (o : Outcome) → Comes tokens (gives s.Postfixes ∷ rest) next (postfixes (before ++ tree ∷ []) ∷ parts) o → Comes tokens (gives s.Postfixes ∷ rest) at (postfixes before ∷ parts) o

-- arguments of a call, and those behind the first
record ReadArguments (tokens : List Token) (es : ExprTrees) (at next : ℕ) : Type 0 where
  gives : Gives tokens s.Arguments at next exprs (λ l. u.exprs (expr_trees l)) (u.exprs es)

record MoreArguments (tokens : List Token) (es : ExprTrees) (at next : ℕ) : Type 0 where
  begins : Has tokens at (ends 0)
  grows : Grows tokens s.MoreArguments at next exprs (λ l. u.exprs (expr_trees l)) (u.exprs es)

index_added : (tokens : List Token) (here : Span) (e : ExprTree) (at next : ℕ) → Readable tokens e → Stands tokens at (postfix_words (index here e)) next → AddsPostfix tokens (index here e) at next
index_added tokens here e at next r h =
    let both = split (expression e tight) (fixed tight k.CloseBracket ∷ []) (behind h) in
    let x = whole r tight (at + 1) both.mid both.left (has_here (ends 0) (first both.right) refl) in
    record {
      tree = index (stretch tokens at (both.mid + 1)) x.gives.tree;
      alike = ap (λ d. index u.nowhere d) x.gives.alike;
      step = λ before rest parts o c. enters 100 (kind_here (first h)) refl (takes_it (first h) refl (counted_from x.gives (takes_it (first both.right) refl (builds_on (settled (over (behind both.right)) c)))));
    }

call_added : (tokens : List Token) (here : Span) (es : ExprTrees) (at next : ℕ) → ((at next : ℕ) → Stands tokens at (expressions es) next → Has tokens next (only k.CloseParen) → ReadArguments tokens es at next) → Stands tokens at (postfix_words (call here es)) next → AddsPostfix tokens (call here es) at next
call_added tokens here es at next read h =
    let both = split (expressions es) (fixed tight k.CloseParen ∷ []) (behind h) in
    let x = read (at + 1) both.mid both.left (has_here (only k.CloseParen) (first both.right) refl) in
    record {
      tree = call (stretch tokens at (both.mid + 1)) (expr_trees x.gives.tree);
      alike = ap (λ d. call u.nowhere d) x.gives.alike;
      step = λ before rest parts o c. enters 101 (kind_here (first h)) refl (takes_it (first h) refl (x.gives.from (takes_it (first both.right) refl (builds_on (settled (over (behind both.right)) c)))));
    }

dot_added : (tokens : List Token) (here : Span) (w : Word) (at next : ℕ) → Stands tokens at (postfix_words (dot here w)) next → AddsPostfix tokens (dot here w) at next
dot_added tokens here w at next h = record {
  tree = dot (stretch tokens at (at + 1 + 1)) (record { span = (first (behind h)).token.span; bytes = w.bytes });
  alike = refl;
  step = λ before rest parts o c. enters 102 (kind_here (first h)) refl (takes_it (first h) refl (takes_name (first (behind h)) (builds_on (settled (over (behind (behind h))) c))));
}

arrow_added : (tokens : List Token) (here : Span) (w : Word) (at next : ℕ) → Stands tokens at (postfix_words (arrow here w)) next → AddsPostfix tokens (arrow here w) at next
arrow_added tokens here w at next h = record {
  tree = arrow (stretch tokens at (at + 1 + 1)) (record { span = (first (behind h)).token.span; bytes = w.bytes });
  alike = refl;
  step = λ before rest parts o c. enters 103 (kind_here (first h)) refl (takes_it (first h) refl (takes_name (first (behind h)) (builds_on (settled (over (behind (behind h))) c))));
}

increment_added : (tokens : List Token) (here : Span) (at next : ℕ) → Stands tokens at (postfix_words (increment here)) next → AddsPostfix tokens (increment here) at next
increment_added tokens here at next h = record {
  tree = increment (stretch tokens at (at + 1));
  alike = refl;
  step = λ before rest parts o c. enters 104 (kind_here (first h)) refl (takes_it (first h) refl (builds_on (settled (over (behind h)) c)));
}

decrement_added : (tokens : List Token) (here : Span) (at next : ℕ) → Stands tokens at (postfix_words (decrement here)) next → AddsPostfix tokens (decrement here) at next
decrement_added tokens here at next h = record {
  tree = decrement (stretch tokens at (at + 1));
  alike = refl;
  step = λ before rest parts o c. enters 105 (kind_here (first h)) refl (takes_it (first h) refl (builds_on (settled (over (behind h)) c)));
}

postfix_grows : (tokens : List Token) (x : PostfixTree) (rest : PostfixTrees) (at mid next : ℕ) → AddsPostfix tokens x at mid → GrowsPostfixes tokens mid next (u.postfixes rest) → GrowsPostfixes tokens at next (u.postfixes (postfix_and x rest))
postfix_grows tokens x rest at mid next one more = grows_more one.tree more one.step (both_are (u.postfix_tree one.tree) (u.postfix_tree x) (u.postfixes (postfix_trees more.new)) (u.postfixes rest) one.alike more.alike)
  where
    both_are : (a b : PostfixTree) (l m : PostfixTrees) → a ≡ b → l ≡ m → postfix_and a l ≡ postfix_and b m
    both_are a b l m i j = cc

-- an operand in parentheses with postfixes, or a name with postfixes
grouped_postfix : (tokens : List Token) (here : Span) (a : ExprTree) (ps : PostfixTrees) (gap : Gap) (at next : ℕ) → has_postfixes ps ≡ true → Readable tokens a → ((at : ℕ) → Stands tokens at (postfixes_words ps) next → GrowsPostfixes tokens at next (u.postfixes ps)) → Stands tokens at (in_parentheses (expression a) gap ++ postfixes_words ps) next → Has tokens at starts × GivesExpr tokens s.Unary at next (u.expr (postfix here a ps))
grouped_postfix tokens here a ps gap at next some r read h =
    let one = split (in_parentheses (expression a) gap) (postfixes_words ps) h in
    let two = split (expression a tight) (fixed tight k.CloseParen ∷ []) (behind one.left) in
    let inner = whole r tight (at + 1) two.mid two.left (has_here (ends 0) (first two.right) refl) in
    let more = read (two.mid + 1) (moved (over (behind two.right)) one.right) in (
      has_here starts (first one.left) refl,
      record {
        tree = postfixed (stretch tokens at next) inner.gives.tree more.new;
        alike = postfixed_is more.new ps inner.gives.tree a _ here some more.alike inner.gives.alike;
        from = λ {rest} {parts} {o} c. group_with (first one.left) inner (first two.right) more c;
      },
    )

named_postfix : (tokens : List Token) (here : Span) (w : Word) (ps : PostfixTrees) (gap : Gap) (at next : ℕ) → has_postfixes ps ≡ true → ((at : ℕ) → Stands tokens at (postfixes_words ps) next → GrowsPostfixes tokens at next (u.postfixes ps)) → Stands tokens at (expression (name w) gap ++ postfixes_words ps) next → Has tokens at starts × GivesExpr tokens s.Unary at next (u.expr (postfix here (name w) ps))
named_postfix tokens here w ps gap at next some read h =
    let more = read (at + 1) (behind h) in (
      has_here starts (first h) refl,
      record {
        tree = postfixed (stretch tokens at next) (name (record { span = (first h).token.span; bytes = w.bytes })) more.new;
        alike = postfixed_is more.new ps (name (record { span = (first h).token.span; bytes = w.bytes })) (name w) _ here some more.alike refl;
        from = λ {rest} {parts} {o} c. name_with w (first h) more c;
      },
    )

-- only names bind so tightly
bare_name : (a : ExprTree) → expr_plain a ≡ true → nat_le 14 (tightness a) ≡ true → (w : Word) × (a ≡ name w)
bare_name (name w) plain h = (w, refl)
bare_name (chain here a no_links) plain h = absurd (false_true_absurd (and_parts false true (and_parts (expr_plain a) (false && true) plain).1).0)
bare_name (chain here a (link_and (link there op e) rest)) plain h = absurd (too_tight (nat_le_at_most 14 (binding op) h) (binds_less op))
  where
    too_tight : 14 ≤ binding op → binding op ≤ 11 → ⊥
    too_tight x y = omega arith
bare_name a plain h = absurd (false_true_absurd h)

named_readable : (tokens : List Token) (here : Span) (w : Word) (ps : PostfixTrees) → has_postfixes ps ≡ true → ((at next : ℕ) → Stands tokens at (postfixes_words ps) next → Has tokens next (ends 12) → GrowsPostfixes tokens at next (u.postfixes ps)) → Readable tokens (postfix here (name w) ps)
named_readable tokens here w ps some read = record {
  from = λ least gap at next le test h end.
      let x = named_postfix tokens here w ps gap at next some (λ at h. read at next h (ends_later least 12 le end)) h in
      own_level 12 least le (omega arith) x.0 end x.1;
}

grouped_readable : (tokens : List Token) (here : Span) (a : ExprTree) (ps : PostfixTrees) → has_postfixes ps ≡ true → nat_le 14 (tightness a) ≡ false → Readable tokens a → ((at next : ℕ) → Stands tokens at (postfixes_words ps) next → Has tokens next (ends 12) → GrowsPostfixes tokens at next (u.postfixes ps)) → Readable tokens (postfix here a ps)
grouped_readable tokens here a ps some loose r read = record {
  from = λ least gap at next le test h end.
      let words = subst (λ b. Stands tokens at ((if b then expression a gap else in_parentheses (expression a) gap) ++ postfixes_words ps) next) loose h in
      let x = grouped_postfix tokens here a ps gap at next some r (λ at h. read at next h (ends_later least 12 le end)) words in
      own_level 12 least le (omega arith) x.0 end x.1;
}

postfix_readable : (tokens : List Token) (here : Span) (a : ExprTree) (ps : PostfixTrees) → has_postfixes ps ≡ true → expr_plain a ≡ true → Readable tokens a → ((at next : ℕ) → Stands tokens at (postfixes_words ps) next → Has tokens next (ends 12) → GrowsPostfixes tokens at next (u.postfixes ps)) → Readable tokens (postfix here a ps)
postfix_readable tokens here a ps some plain r read = go (nat_le 14 (tightness a)) refl
  where
    go : (b : Bool) → nat_le 14 (tightness a) ≡ b → Readable tokens (postfix here a ps)
    go true is = let bare = bare_name a plain is in subst (λ x. Readable tokens (postfix here x ps)) (sym bare.1) (named_readable tokens here bare.0 ps some read)
    go false is = grouped_readable tokens here a ps some is r read

chain_case : (tokens : List Token) (here : Span) (a : ExprTree) (ls : LinkTrees) → has_links ls ≡ true → Readable tokens a → ((at next : ℕ) → IsLevel (chain_binding ls) → Stands tokens at (links ls) next → Has tokens next (ends (chain_binding ls)) → MoreLinks tokens (chain_binding ls) ls at next) → Readable tokens (chain here a ls)
chain_case tokens here a no_links some r read = absurd (false_true_absurd some)
chain_case tokens here a (link_and (link there op e) rest) some r read = chain_readable tokens here there a op e rest r (λ at next h end. read at next (level_of op) h end)

-- a link reads back in front of more links
record ReadableLink (tokens : List Token) (n : ℕ) (l : LinkTree) : Type 0 where
  from : (rest : LinkTrees) (at mid next : ℕ) → Stands tokens at (link_words l) mid → MoreLinks tokens n rest mid next → MoreLinks tokens n (link_and l rest) at next

no_more_arguments : (tokens : List Token) (at next : ℕ) → at ≡ next → Has tokens next (only k.CloseParen) → MoreArguments tokens no_exprs at next
no_more_arguments tokens at next e end = record { begins = has_at e (weaker (only k.CloseParen) (ends 0) refl end); grows = grows_none (only k.CloseParen) 110 refl refl e end refl }

-- a list of expressions is what its parts are
pub exprs_are : (a b : ExprTree) (l m : ExprTrees) → a ≡ b → l ≡ m → expr_and a l ≡ expr_and b m
exprs_are a b l m i j = cc

one_more_argument : (tokens : List Token) (e : ExprTree) (rest : ExprTrees) (at mid next : ℕ) → Readable tokens e → Is tokens at (fixed tight k.Comma) → Stands tokens (at + 1) (expression e spaced) mid → MoreArguments tokens rest mid next → MoreArguments tokens (expr_and e rest) at next
one_more_argument tokens e rest at mid next r comma h more =
    let x = whole r spaced (at + 1) mid h more.begins in
    record {
      begins = has_here (ends 0) comma refl;
      grows = grows_more x.gives.tree more.grows (λ before rest parts o c. enters 109 (kind_here comma) refl (takes_it comma refl (counted_from x.gives (builds_on c)))) (exprs_are (u.expr x.gives.tree) (u.expr e) (u.exprs (expr_trees more.grows.new)) (u.exprs rest) x.gives.alike more.grows.alike);
    }

no_arguments : (tokens : List Token) (at next : ℕ) → at ≡ next → Has tokens next (only k.CloseParen) → ReadArguments tokens no_exprs at next
no_arguments tokens at next e end = record { gives = record { tree = []; alike = refl; from = λ {rest} {parts} {o} c. enters_by (only k.CloseParen) 108 refl (has_at e end) (builds_on (settled e c)) } }

some_arguments : (tokens : List Token) (e : ExprTree) (rest : ExprTrees) (at mid next : ℕ) → Readable tokens e → Stands tokens at (expression e tight) mid → MoreArguments tokens rest mid next → ReadArguments tokens (expr_and e rest) at next
some_arguments tokens e rest at mid next r h more =
    let x = whole r tight at mid h more.begins in
    record {
      gives = record {
        tree = x.gives.tree ∷ more.grows.new;
        alike = exprs_are (u.expr x.gives.tree) (u.expr e) (u.exprs (expr_trees more.grows.new)) (u.exprs rest) x.gives.alike more.grows.alike;
        from = λ {rest} {parts} {o} c. enters_by starts 107 refl x.begins (counted_from x.gives (builds_on (more.grows.from (x.gives.tree ∷ []) c)));
      };
    }

mutual
  pub expr_read : (tokens : List Token) (e : ExprTree) → expr_plain e ≡ true → Readable tokens e
  expr_read tokens (name w) plain = name_readable tokens w
  expr_read tokens (constant c) plain = constant_readable tokens c
  expr_read tokens (prefix here op a) plain = prefix_readable tokens here op a (expr_read tokens a plain)
  expr_read tokens (cast here ss pointer a) plain = let both = and_parts (specs_plain ss) (expr_plain a) plain in cast_readable tokens here ss pointer a both.0 (expr_read tokens a both.1)
  expr_read tokens (postfix here a ps) plain =
      let both = and_parts (expr_plain a) (has_postfixes ps && postfixes_plain ps) plain in
      let two = and_parts (has_postfixes ps) (postfixes_plain ps) both.1 in
      postfix_readable tokens here a ps two.0 both.0 (expr_read tokens a both.0) (λ at next h end. postfixes_read tokens ps at next two.1 h end)
  expr_read tokens (chain here a ls) plain =
      let both = and_parts (expr_plain a) (has_links ls && links_plain (chain_binding ls) ls) plain in
      let two = and_parts (has_links ls) (links_plain (chain_binding ls) ls) both.1 in
      chain_case tokens here a ls two.0 (expr_read tokens a both.0) (λ at next level h end. links_read tokens ls (chain_binding ls) at next level two.1 h end)
  expr_read tokens (choice here a b c) plain =
      let both = and_parts (expr_plain a) (expr_plain b && expr_plain c) plain in
      let two = and_parts (expr_plain b) (expr_plain c) both.1 in
      choice_readable tokens here a b c (expr_read tokens a both.0) (expr_read tokens b two.0) (expr_read tokens c two.1)
  expr_read tokens (assign here op a b) plain =
      let both = and_parts (assigns op) (expr_plain a && expr_plain b) plain in
      let two = and_parts (expr_plain a) (expr_plain b) both.1 in
      assign_readable tokens here op a b both.0 (expr_read tokens a two.0) (expr_read tokens b two.1)

  links_read : (tokens : List Token) (ls : LinkTrees) (n at next : ℕ) → IsLevel n → links_plain n ls ≡ true → Stands tokens at (links ls) next → Has tokens next (ends n) → MoreLinks tokens n ls at next
  links_read tokens no_links n at next level plain h end = no_more_links tokens n at next level (over h) end
  links_read tokens (link_and l rest) n at next level plain h end =
      let both = and_parts (link_plain n l) (links_plain n rest) plain in
      let one = split (link_words l) (links rest) h in
      (link_tree_read tokens l n both.0).from rest at one.mid next one.left (links_read tokens rest n one.mid next level both.1 one.right end)

  link_tree_read : (tokens : List Token) (l : LinkTree) (n : ℕ) → link_plain n l ≡ true → ReadableLink tokens n l
  link_tree_read tokens (link here op e) n plain =
      let both = and_parts (binding op == n) (expr_plain e) plain in
      let r = expr_read tokens e both.1 in
      record { from = λ rest at mid next h more. link_read tokens here op e rest n at mid next both.0 r h more }

  postfixes_read : (tokens : List Token) (ps : PostfixTrees) (at next : ℕ) → postfixes_plain ps ≡ true → Stands tokens at (postfixes_words ps) next → Has tokens next (ends 12) → GrowsPostfixes tokens at next (u.postfixes ps)
  postfixes_read tokens no_postfixes at next plain h end = no_more_postfixes tokens at next (over h) end
  postfixes_read tokens (postfix_and x rest) at next plain h end =
      let both = and_parts (postfix_plain x) (postfixes_plain rest) plain in
      let one = split (postfix_words x) (postfixes_words rest) h in
      postfix_grows tokens x rest at one.mid next (postfix_read tokens x at one.mid both.0 one.left) (postfixes_read tokens rest one.mid next both.1 one.right end)

  postfix_read : (tokens : List Token) (x : PostfixTree) (at next : ℕ) → postfix_plain x ≡ true → Stands tokens at (postfix_words x) next → AddsPostfix tokens x at next
  postfix_read tokens (index here e) at next plain h = index_added tokens here e at next (expr_read tokens e plain) h
  postfix_read tokens (call here es) at next plain h = call_added tokens here es at next (λ at next h end. exprs_read tokens es at next plain h end) h
  postfix_read tokens (dot here w) at next plain h = dot_added tokens here w at next h
  postfix_read tokens (arrow here w) at next plain h = arrow_added tokens here w at next h
  postfix_read tokens (increment here) at next plain h = increment_added tokens here at next h
  postfix_read tokens (decrement here) at next plain h = decrement_added tokens here at next h

  exprs_read : (tokens : List Token) (es : ExprTrees) (at next : ℕ) → exprs_plain es ≡ true → Stands tokens at (expressions es) next → Has tokens next (only k.CloseParen) → ReadArguments tokens es at next
  exprs_read tokens no_exprs at next plain h end = no_arguments tokens at next (over h) end
  exprs_read tokens (expr_and e rest) at next plain h end =
      let both = and_parts (expr_plain e) (exprs_plain rest) plain in
      let one = split (expression e tight) (more_expressions rest) h in
      some_arguments tokens e rest at one.mid next (expr_read tokens e both.0) one.left (more_exprs_read tokens rest one.mid next both.1 one.right end)

  more_exprs_read : (tokens : List Token) (es : ExprTrees) (at next : ℕ) → exprs_plain es ≡ true → Stands tokens at (more_expressions es) next → Has tokens next (only k.CloseParen) → MoreArguments tokens es at next
  more_exprs_read tokens no_exprs at next plain h end = no_more_arguments tokens at next (over h) end
  more_exprs_read tokens (expr_and e rest) at next plain h end =
      let both = and_parts (expr_plain e) (exprs_plain rest) plain in
      let one = split (expression e spaced) (more_expressions rest) (behind h) in
      one_more_argument tokens e rest at one.mid next (expr_read tokens e both.0) (first h) one.left (more_exprs_read tokens rest one.mid next both.1 one.right end)
