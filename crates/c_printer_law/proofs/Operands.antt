-- Names, constants and what stands in parentheses read back, with what stands behind them.
use Rattle.std.proofs.Common.{◌≡◌, ℕ, ◌+◌, ◌≤◌, List, [], ◌∷◌, Bool, true, false, nat_le, if◌then◌else◌, refl, arith, rules}
use Rattle.std.proofs.lemmas.Bool.Decides.{nat_tests}
use Rattle.pt_base.specs.declared.span.Span.{Span}
use Rattle.c_lexer.specs.declared.token.Token.{Token}
use Rattle.c_lexer.specs.declared.token.TokenKind.TheVariants as k
use Rattle.c_grammar.specs.declared.symbol.Symbol.TheVariants as s
use Rattle.c_grammar.specs.Builds.{postfixed}
use Rattle.c_grammar.specs.Part.{Part, expr, postfixes}
use Rattle.c_grammar.specs.Machine.{Entry, gives, Outcome, stretch}
use Rattle.pt_tree.specs.declared.word.Word.{Word}
use Rattle.pt_tree.specs.declared.word.Constant.{Constant}
use Rattle.pt_tree.specs.ExpressionTree.{ExprTree, name, constant, postfix, PostfixTree, PostfixTrees, no_postfixes, postfix_and, postfix_trees}
use Rattle.c_printer.specs.Pieces.{Gap, tight, fixed, named, number}
use Rattle.c_printer.specs.Kinds.{tightness}
use Rattle.c_printer.specs.Expressions.{expression, operand, in_parentheses}
use Rattle.c_printer.specs.Plain.{has_postfixes}
use Rattle.c_printer.specs.Unplaced as u
use Rattle.c_printer_law.proofs.Classes.{starts, ends}
use Rattle.c_printer_law.proofs.Levels.{symbol_at, GivesExpr, loosened}
use Rattle.c_printer_law.proofs.Steps.{Comes, Has, Is, Stands, first, behind, over, split, Grows, grows_none, enters, enters_by, takes_it, takes_name, takes_number, builds_on, kind_here, has_here, has_at, ends_later, settled, counted_from}

-- an expression is read at a level
pub record ReadExpr (tokens : List Token) (least : ℕ) (e : ExprTree) (at next : ℕ) : Type 0 where
  pub begins : Has tokens at starts
  pub gives : GivesExpr tokens (symbol_at least) at next (u.expr e)

-- it is read at each level where its words stand without parentheses
pub record Readable (tokens : List Token) (e : ExprTree) : Type 0 where
  pub from : (least : ℕ) (gap : Gap) (at next : ℕ) → least ≤ 12 → nat_le least (tightness e) ≡ true → Stands tokens at (expression e gap) next → Has tokens next (ends least) → ReadExpr tokens least e at next

pub from_zero : (n : ℕ) → nat_le 0 n ≡ true
from_zero n = let x : 0 ≤ n = omega arith in search (rules, nat_tests)

-- as a whole expression
pub whole : {tokens : List Token} {e : ExprTree} (r : Readable tokens e) (gap : Gap) (at next : ℕ) → Stands tokens at (expression e gap) next → Has tokens next (ends 0) → ReadExpr tokens 0 e at next
whole {e = e} r gap at next h end = r.from 0 gap at next (omega arith) (from_zero (tightness e)) h end

-- what is read at its own level
pub own_level : {tokens : List Token} {e : ExprTree} {at next : ℕ} (own least : ℕ) → least ≤ own → own ≤ 12 → Has tokens at starts → Has tokens next (ends least) → GivesExpr tokens (symbol_at own) at next (u.expr e) → ReadExpr tokens least e at next
own_level own least le most begin end g = record { begins = begin; gives = loosened own least le most begin end g }

-- postfixes behind an operand
abbrev pub GrowsPostfixes : List Token → ℕ → ℕ → PostfixTrees → Type 0
GrowsPostfixes tokens at next ps = Grows tokens s.Postfixes at next postfixes (λ l. u.postfixes (postfix_trees l)) ps

pub no_more_postfixes : (tokens : List Token) (at next : ℕ) → at ≡ next → Has tokens next (ends 12) → GrowsPostfixes tokens at next no_postfixes
no_more_postfixes tokens at next e end = grows_none (ends 12) 106 refl refl e end refl

pub name_with : {tokens : List Token} {gap : Gap} {at next : ℕ} {ps : PostfixTrees} {rest : List Entry} {parts : List Part} {o : Outcome} (w : Word) (i : Is tokens at (named gap w.bytes)) (g : GrowsPostfixes tokens (at + 1) next ps) → Comes tokens rest next (expr (postfixed (stretch tokens at next) (name (record { span = i.token.span; bytes = w.bytes })) g.new) ∷ parts) o → Comes tokens (gives s.Unary ∷ rest) at parts o
name_with w i g c = enters 97 (kind_here i) refl (enters 111 (kind_here i) refl (takes_name i (builds_on (builds_on (g.from [] (builds_on c))))))

pub group_with : {tokens : List Token} {gap : Gap} {e : ExprTree} {at next mid : ℕ} {ps : PostfixTrees} {rest : List Entry} {parts : List Part} {o : Outcome} → Is tokens at (fixed gap k.OpenParen) → (inner : ReadExpr tokens 0 e (at + 1) mid) → Is tokens mid (fixed tight k.CloseParen) → (g : GrowsPostfixes tokens (mid + 1) next ps) → Comes tokens rest next (expr (postfixed (stretch tokens at next) inner.gives.tree g.new) ∷ parts) o → Comes tokens (gives s.Unary ∷ rest) at parts o
group_with i inner j g c = enters 93 (kind_here i) refl (takes_it i refl (enters_by starts 99 refl inner.begins (counted_from inner.gives (takes_it j refl (builds_on (g.from [] (builds_on (builds_on c))))))))

postfixed_none : (ps : List PostfixTree) (a e : ExprTree) (here : Span) → u.postfixes (postfix_trees ps) ≡ no_postfixes → u.expr a ≡ u.expr e → u.expr (postfixed here a ps) ≡ u.expr e
postfixed_none [] a e here none same = same
postfixed_none (q ∷ qs) a e here none same = cc

name_given : (tokens : List Token) (gap : Gap) (w : Word) (at next : ℕ) → Stands tokens at (named gap w.bytes ∷ []) next → Has tokens next (ends 12) → GivesExpr tokens s.Unary at next (u.expr (name w))
name_given tokens gap w at next h end =
    let none = no_more_postfixes tokens (at + 1) next (over (behind h)) end in
    record {
      tree = postfixed (stretch tokens at next) (name (record { span = (first h).token.span; bytes = w.bytes })) none.new;
      alike = postfixed_none none.new _ (name w) _ none.alike refl;
      from = λ {rest} {parts} {o} c. name_with w (first h) none c;
    }

pub name_readable : (tokens : List Token) (w : Word) → Readable tokens (name w)
name_readable tokens w = record { from = λ least gap at next le tight h end. own_level 12 least le (omega arith) (has_here starts (first h) refl) end (name_given tokens gap w at next h (ends_later least 12 le end)) }

constant_given : (tokens : List Token) (gap : Gap) (x : Constant) (at next : ℕ) → Stands tokens at (number gap x.value x.ty ∷ []) next → Has tokens next (ends 12) → GivesExpr tokens s.Unary at next (u.expr (constant x))
constant_given tokens gap x at next h end = record {
  tree = constant (record { span = (first h).token.span; value = x.value; ty = x.ty });
  alike = refl;
  from = λ {rest} {parts} {o} c. enters 97 (kind_here (first h)) refl (enters 112 (kind_here (first h)) refl (takes_number (first h) (builds_on (builds_on (enters_by (ends 12) 106 refl (has_at (over (behind h)) end) (builds_on (settled (over (behind h)) c)))))));
}

pub constant_readable : (tokens : List Token) (x : Constant) → Readable tokens (constant x)
constant_readable tokens x = record { from = λ least gap at next le tight h end. own_level 12 least le (omega arith) (has_here starts (first h) refl) end (constant_given tokens gap x at next h (ends_later least 12 le end)) }

-- in parentheses
group_given : (tokens : List Token) (gap : Gap) (e : ExprTree) (at next : ℕ) → Readable tokens e → Stands tokens at (in_parentheses (expression e) gap) next → Has tokens next (ends 12) → GivesExpr tokens s.Unary at next (u.expr e)
group_given tokens gap e at next r h end =
    let both = split (expression e tight) (fixed tight k.CloseParen ∷ []) (behind h) in
    let inner = whole r tight (at + 1) both.mid both.left (has_here (ends 0) (first both.right) refl) in
    let none = no_more_postfixes tokens (both.mid + 1) next (over (behind both.right)) end in
    record {
      tree = postfixed (stretch tokens at next) inner.gives.tree none.new;
      alike = postfixed_none none.new _ e _ none.alike inner.gives.alike;
      from = λ {rest} {parts} {o} c. group_with (first h) inner (first both.right) none c;
    }

pub operand_read : {tokens : List Token} {e : ExprTree} (r : Readable tokens e) (least : ℕ) (gap : Gap) (at next : ℕ) → least ≤ 12 → Stands tokens at (operand least e (expression e) gap) next → Has tokens next (ends least) → ReadExpr tokens least e at next
operand_read {tokens = tokens} {e = e} r least gap at next le h end = go (nat_le least (tightness e)) refl h
  where
    go : (b : Bool) → nat_le least (tightness e) ≡ b → Stands tokens at (if b then expression e gap else in_parentheses (expression e) gap) next → ReadExpr tokens least e at next
    go true is h = r.from least gap at next le is h end
    go false is h = own_level 12 least le (omega arith) (has_here starts (first h) refl) end (group_given tokens gap e at next r h (ends_later least 12 le end))

pub postfixed_is : (ps : List PostfixTree) (of : PostfixTrees) (a e : ExprTree) (here there : Span) → has_postfixes of ≡ true → u.postfixes (postfix_trees ps) ≡ u.postfixes of → u.expr a ≡ u.expr e → u.expr (postfixed here a ps) ≡ u.expr (postfix there e of)
postfixed_is ps no_postfixes a e here there some alike same = cc
postfixed_is [] (postfix_and p rest) a e here there some alike same = cc
postfixed_is (q ∷ qs) (postfix_and p rest) a e here there some alike same = cc
