-- Chains, choices and assignments read back where their operands do.
use Rattle.std.proofs.Common.{◌≡◌, ℕ, suc, ◌+◌, ◌≤◌, List, [], ◌∷◌, ◌++◌, true, false, Option, None, Some, ◌==◌, refl, subst, arith, rules}
use Rattle.std.proofs.lemmas.Bool.Decides.{nat_tests}
use Rattle.pt_base.specs.declared.span.Span.{Span}
use Rattle.pt_base.proofs.Numbers.{nat_le_at_most, plus_one}
use Rattle.c_lexer.specs.declared.token.Token.{Token}
use Rattle.c_lexer.specs.declared.token.TokenKind.TheVariants as k
use Rattle.c_grammar.specs.declared.symbol.Symbol.TheVariants as s
use Rattle.c_grammar.specs.Builds.{chained, add_link, assigning}
use Rattle.c_grammar.specs.Table.{row_of}
use Rattle.c_grammar.specs.Part.{links}
use Rattle.c_grammar.specs.Machine.{takes, gives, builds, wanted, stretch}
use Rattle.pt_tree.specs.declared.operator.BinaryOp.{BinaryOp}
use Rattle.pt_tree.specs.declared.operator.BinaryOp.TheVariants as b
use Rattle.pt_tree.specs.ExpressionTree.{ExprTree, choice, assign, chain, LinkTree, LinkTrees, link, no_links, link_and, link_trees}
use Rattle.c_printer.specs.Pieces.{Gap, spaced, fixed}
use Rattle.c_printer.specs.Kinds.{operator_kind, assignment_kind, binding}
use Rattle.c_printer.specs.Expressions.{expression, operand, links as links_words, link_words}
use Rattle.c_printer.specs.Plain.{assigns}
use Rattle.c_printer.specs.Unplaced as u
use Rattle.c_printer_law.proofs.Classes.{starts, ends}
use Rattle.c_printer_law.proofs.Levels.{symbol_at, tail_at, rule_at, end_at, link_rule, IsLevel, level_of}
use Rattle.c_printer_law.proofs.Operands.{ReadExpr, Readable, whole, own_level, operand_read}
use Rattle.c_printer_law.proofs.Steps.{Has, Stands, first, behind, split, Grows, grows_none, grows_more, enters, enters_by, takes_it, builds_on, kind_here, has_here, has_at, ends_later, counted_from, is_fixed, wants_as}

-- what the table says of an operator, by the level that it has
record IsLink (op : BinaryOp) (n : ℕ) : Type 0 where
  row : row_of (tail_at n) (operator_kind op) ≡ Some (link_rule op)
  wants : (at : ℕ) → wanted at (link_rule op) ≡ takes (operator_kind op) ∷ gives (symbol_at (suc n)) ∷ builds at (add_link op) ∷ gives (tail_at n) ∷ []
  plain : is_fixed (operator_kind op) ≡ true
  goes_on : ends (suc n) (operator_kind op) ≡ true

own_link : (op : BinaryOp) → IsLink op (binding op)
own_link b.LogicalOr = record { row = refl; wants = λ at. refl; plain = refl; goes_on = refl }
own_link op = record { row = refl; wants = λ at. refl; plain = refl; goes_on = refl }

-- it is no tighter than operands are
pub binds_less : (op : BinaryOp) → binding op ≤ 11
binds_less b.LogicalOr = omega arith
binds_less op = omega arith

-- more links of this level
pub record MoreLinks (tokens : List Token) (n : ℕ) (ls : LinkTrees) (at next : ℕ) : Type 0 where
  pub begins : Has tokens at (ends (suc n))
  pub grows : Grows tokens (tail_at n) at next links (λ l. u.links (link_trees l)) (u.links ls)

pub no_more_links : (tokens : List Token) (n at next : ℕ) → IsLevel n → at ≡ next → Has tokens next (ends n) → MoreLinks tokens n no_links at next
no_more_links tokens n at next level e end = record {
  begins = has_at e (ends_later n (suc n) (omega arith) end);
  grows = grows_none (ends n) (end_at n) level.ends_so (level.no_more at) e end refl;
}

-- an operand that binds more tightly than the operators of a level
tighter_read : {tokens : List Token} {e : ExprTree} (r : Readable tokens e) (n : ℕ) (gap : Gap) (at next : ℕ) → n ≤ 11 → Stands tokens at (operand (n + 1) e (expression e) gap) next → Has tokens next (ends (suc n)) → ReadExpr tokens (suc n) e at next
tighter_read {tokens = tokens} {e = e} r n gap at next le h end = operand_read r (suc n) gap at next (omega arith) (subst (λ m. Stands tokens at (operand m e (expression e) gap) next) (plus_one n) h) end

pub link_read : (tokens : List Token) (here : Span) (op : BinaryOp) (e : ExprTree) (rest : LinkTrees) (n at mid next : ℕ) → (binding op == n) ≡ true → Readable tokens e → Stands tokens at (link_words (link here op e)) mid → MoreLinks tokens n rest mid next → MoreLinks tokens n (link_and (link here op e) rest) at next
link_read tokens here op e rest n at mid next same r h more =
    let is : binding op ≡ n = search (rules, nat_tests) in
    let rule = subst (IsLink op) is (own_link op) in
    let most : n ≤ 11 = subst (λ m. m ≤ 11) is (binds_less op) in
    let words = subst (λ m. Stands tokens (at + 1) (operand (m + 1) e (expression e) spaced) mid) is (behind h) in
    let x = tighter_read r n spaced (at + 1) mid most words more.begins in
    record {
      begins = has_here (ends (suc n)) (first h) rule.goes_on;
      grows = grows_more (link (stretch tokens at mid) op x.gives.tree) more.grows (λ before rest parts o c. enters (link_rule op) (kind_here (first h)) rule.row (wants_as at (link_rule op) rest (rule.wants at) (takes_it (first h) rule.plain (x.gives.from (builds_on c))))) (link_is (u.expr x.gives.tree) (u.expr e) (u.links (link_trees more.grows.new)) (u.links rest) x.gives.alike more.grows.alike);
    }
  where
    link_is : (a d : ExprTree) (l m : LinkTrees) → a ≡ d → l ≡ m → link_and (link u.nowhere op a) l ≡ link_and (link u.nowhere op d) m
    link_is a d l m i j = cc

chained_is : (here there : Span) (ls : List LinkTree) (a e : ExprTree) (l : LinkTree) (rest : LinkTrees) → u.links (link_trees ls) ≡ u.links (link_and l rest) → u.expr a ≡ u.expr e → u.expr (chained here a ls) ≡ u.expr (chain there e (link_and l rest))
chained_is here there [] a e l rest h same = cc
chained_is here there (m ∷ ms) a e l rest h same = cc

-- a chain of one level, from its first operand and its links
pub chain_readable : (tokens : List Token) (here there : Span) (a : ExprTree) (op : BinaryOp) (e : ExprTree) (rest : LinkTrees) → Readable tokens a → ((at next : ℕ) → Stands tokens at (links_words (link_and (link there op e) rest)) next → Has tokens next (ends (binding op)) → MoreLinks tokens (binding op) (link_and (link there op e) rest) at next) → Readable tokens (chain here a (link_and (link there op e) rest))
chain_readable tokens here there a op e rest r more_read = record {
  from = λ least gap at next le test h end.
      let one = split (operand (binding op + 1) a (expression a) gap) (links_words (link_and (link there op e) rest)) h in
      let loose = nat_le_at_most least (binding op) test in
      let more = more_read one.mid next one.right (ends_later least (binding op) loose end) in
      let x = tighter_read r (binding op) gap at one.mid (binds_less op) one.left more.begins in
      let level = level_of op in
      own_level (binding op) least loose (most op) x.begins end (record {
        tree = chained (stretch tokens at next) x.gives.tree more.grows.new;
        alike = chained_is (stretch tokens at next) here more.grows.new x.gives.tree a (link there op e) rest more.grows.alike x.gives.alike;
        from = λ {rest = back} {parts} {o} c. enters_by starts (rule_at (binding op)) level.enters x.begins (wants_as at (rule_at (binding op)) back (level.wants at) (x.gives.from (builds_on (more.grows.from [] (builds_on c)))));
      });
}
  where
    most : (op : BinaryOp) → binding op ≤ 12
    most op = let x = binds_less op in omega arith

-- choices
pub choice_readable : (tokens : List Token) (here : Span) (a b c : ExprTree) → Readable tokens a → Readable tokens b → Readable tokens c → Readable tokens (choice here a b c)
choice_readable tokens here a b c ra rb rc = record {
  from = λ least gap at next le test h end.
      let one = split (operand 2 a (expression a) gap) (fixed spaced k.Question ∷ (expression b spaced ++ (fixed spaced k.Colon ∷ operand 1 c (expression c) spaced))) h in
      let two = split (expression b spaced) (fixed spaced k.Colon ∷ operand 1 c (expression c) spaced) (behind one.right) in
      let loose = nat_le_at_most least 1 test in
      let x = operand_read ra 2 gap at one.mid (omega arith) one.left (has_here (ends 2) (first one.right) refl) in
      let y = whole rb spaced (one.mid + 1) two.mid two.left (has_here (ends 0) (first two.right) refl) in
      let z = operand_read rc 1 spaced (two.mid + 1) next (omega arith) (behind two.right) (ends_later least 1 loose end) in
      own_level 1 least loose (omega arith) x.begins end (record {
        tree = choice (stretch tokens at next) x.gives.tree y.gives.tree z.gives.tree;
        alike = choice_is (u.expr x.gives.tree) (u.expr a) (u.expr y.gives.tree) (u.expr b) (u.expr z.gives.tree) (u.expr c) x.gives.alike y.gives.alike z.gives.alike;
        from = λ {rest} {parts} {o} d. enters_by starts 90 refl x.begins (x.gives.from (enters 91 (kind_here (first one.right)) refl (takes_it (first one.right) refl (counted_from y.gives (takes_it (first two.right) refl (counted_from z.gives (builds_on (builds_on d))))))));
      });
}
  where
    choice_is : (d e f g i j : ExprTree) → d ≡ e → f ≡ g → i ≡ j → choice u.nowhere d f i ≡ choice u.nowhere e g j
    choice_is d e f g i j p q r = cc

-- assignments
record IsAssignment (op : Option BinaryOp) : Type 0 where
  rule : ℕ
  tail : row_of s.AssignTail (assignment_kind op) ≡ Some 88
  row : row_of s.AssignOp (assignment_kind op) ≡ Some rule
  wants : (at : ℕ) → wanted at rule ≡ takes (assignment_kind op) ∷ builds at (assigning op) ∷ []
  plain : is_fixed (assignment_kind op) ≡ true
  goes_on : ends 1 (assignment_kind op) ≡ true

assignment_of : (op : Option BinaryOp) → assigns op ≡ true → IsAssignment op
assignment_of None h = record { rule = 114; tail = refl; row = refl; wants = λ at. refl; plain = refl; goes_on = refl }
assignment_of (Some b.Multiply) h = record { rule = 115; tail = refl; row = refl; wants = λ at. refl; plain = refl; goes_on = refl }
assignment_of (Some b.Divide) h = record { rule = 116; tail = refl; row = refl; wants = λ at. refl; plain = refl; goes_on = refl }
assignment_of (Some b.Remainder) h = record { rule = 117; tail = refl; row = refl; wants = λ at. refl; plain = refl; goes_on = refl }
assignment_of (Some b.Add) h = record { rule = 118; tail = refl; row = refl; wants = λ at. refl; plain = refl; goes_on = refl }
assignment_of (Some b.Subtract) h = record { rule = 119; tail = refl; row = refl; wants = λ at. refl; plain = refl; goes_on = refl }
assignment_of (Some b.ShiftLeft) h = record { rule = 120; tail = refl; row = refl; wants = λ at. refl; plain = refl; goes_on = refl }
assignment_of (Some b.ShiftRight) h = record { rule = 121; tail = refl; row = refl; wants = λ at. refl; plain = refl; goes_on = refl }
assignment_of (Some b.BitAnd) h = record { rule = 122; tail = refl; row = refl; wants = λ at. refl; plain = refl; goes_on = refl }
assignment_of (Some b.BitXor) h = record { rule = 123; tail = refl; row = refl; wants = λ at. refl; plain = refl; goes_on = refl }
assignment_of (Some b.BitOr) h = record { rule = 124; tail = refl; row = refl; wants = λ at. refl; plain = refl; goes_on = refl }
assignment_of (Some op) h = absurd (impossible h)
  where
    impossible : false ≡ true → ⊥
    impossible e = cc

pub assign_readable : (tokens : List Token) (here : Span) (op : Option BinaryOp) (a b : ExprTree) → assigns op ≡ true → Readable tokens a → Readable tokens b → Readable tokens (assign here op a b)
assign_readable tokens here op a b can ra rb = record {
  from = λ least gap at next le test h end.
      let one = split (operand 1 a (expression a) gap) (fixed spaced (assignment_kind op) ∷ expression b spaced) h in
      let loose = nat_le_at_most least 0 test in
      let rule = assignment_of op can in
      let x = operand_read ra 1 gap at one.mid (omega arith) one.left (has_here (ends 1) (first one.right) rule.goes_on) in
      let y = whole rb spaced (one.mid + 1) next (behind one.right) (ends_later least 0 loose end) in
      own_level 0 least loose (omega arith) x.begins end (record {
        tree = assign (stretch tokens at next) op x.gives.tree y.gives.tree;
        alike = assign_is (u.expr x.gives.tree) (u.expr a) (u.expr y.gives.tree) (u.expr b) x.gives.alike y.gives.alike;
        from = λ {rest} {parts} {o} c. enters_by starts 87 refl x.begins (x.gives.from (enters 88 (kind_here (first one.right)) rule.tail (enters rule.rule (kind_here (first one.right)) rule.row (wants_as one.mid rule.rule _ (rule.wants one.mid) (takes_it (first one.right) rule.plain (builds_on (counted_from y.gives (builds_on (builds_on c)))))))));
      });
}
  where
    assign_is : (d e f g : ExprTree) → d ≡ e → f ≡ g → assign u.nowhere op d f ≡ assign u.nowhere op e g
    assign_is d e f g i j = cc
