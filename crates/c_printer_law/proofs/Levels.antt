-- An expression that is read at one level is read at each looser one, if what follows goes on at none of them.
use Rattle.std.proofs.Common.{◌≡◌, ℕ, zero, suc, ◌+◌, ◌-◌, ◌≤◌, List, [], ◌∷◌, ◌++◌, true, Some, get_or, refl, sym, subst, arith}
use Rattle.c_lexer.specs.declared.token.Token.{Token}
use Rattle.c_grammar.specs.declared.symbol.Symbol.{Symbol}
use Rattle.c_grammar.specs.declared.symbol.Symbol.TheVariants as s
use Rattle.c_grammar.specs.Part.{expr, links}
use Rattle.c_grammar.specs.Table.{row_of}
use Rattle.c_grammar.specs.Builds.{no_links, add_link, chain_of}
use Rattle.c_grammar.specs.Machine.{takes, gives, builds, wanted}
use Rattle.pt_tree.specs.declared.operator.BinaryOp.{BinaryOp}
use Rattle.pt_tree.specs.declared.operator.BinaryOp.TheVariants as b
use Rattle.pt_tree.specs.ExpressionTree.{ExprTree}
use Rattle.c_printer.specs.Kinds.{operator_kind, binding}
use Rattle.c_printer.specs.Unplaced as u
use Rattle.c_printer_law.proofs.AllKinds.{leads}
use Rattle.c_printer_law.proofs.Classes.{starts, ends}
use Rattle.c_printer_law.proofs.Steps.{Comes, Has, Gives, enters_by, ends_later, builds_on}

-- the symbols of expressions, by how tightly they bind
abbrev pub symbol_at : ℕ → Symbol
symbol_at n = get_or (s.Expr ∷ s.Cond ∷ s.LogicalOr ∷ s.LogicalAnd ∷ s.BitOr ∷ s.BitXor ∷ s.BitAnd ∷ s.Equality ∷ s.Relational ∷ s.Shift ∷ s.Additive ∷ s.Multiplicative ∷ []) n s.Unary

abbrev pub tail_at : ℕ → Symbol
tail_at n = get_or (s.AssignTail ∷ s.CondTail ∷ s.LogicalOrTail ∷ s.LogicalAndTail ∷ s.BitOrTail ∷ s.BitXorTail ∷ s.BitAndTail ∷ s.EqualityTail ∷ s.RelationalTail ∷ s.ShiftTail ∷ s.AdditiveTail ∷ []) n s.MultiplicativeTail

-- the rules of the levels, and those by which their tails end
abbrev pub rule_at : ℕ → ℕ
rule_at n = get_or (87 ∷ 90 ∷ 131 ∷ 134 ∷ 137 ∷ 140 ∷ 143 ∷ 146 ∷ 150 ∷ 156 ∷ 160 ∷ []) n 164

abbrev pub end_at : ℕ → ℕ
end_at n = get_or (89 ∷ 92 ∷ 133 ∷ 136 ∷ 139 ∷ 142 ∷ 145 ∷ 149 ∷ 155 ∷ 159 ∷ 163 ∷ []) n 168

-- the rule of a link
abbrev pub link_rule : BinaryOp → ℕ
link_rule b.LogicalOr = 132
link_rule b.LogicalAnd = 135
link_rule b.BitOr = 138
link_rule b.BitXor = 141
link_rule b.BitAnd = 144
link_rule b.Equal = 147
link_rule b.NotEqual = 148
link_rule b.Less = 151
link_rule b.Greater = 152
link_rule b.LessEqual = 153
link_rule b.GreaterEqual = 154
link_rule b.ShiftLeft = 157
link_rule b.ShiftRight = 158
link_rule b.Add = 161
link_rule b.Subtract = 162
link_rule b.Multiply = 165
link_rule b.Divide = 166
link_rule b.Remainder = 167

-- what the table says of a level of operators between operands
pub record IsLevel (n : ℕ) : Type 0 where
  pub enters : leads starts (symbol_at n) (rule_at n) ≡ true
  pub wants : (at : ℕ) → wanted at (rule_at n) ≡ gives (symbol_at (suc n)) ∷ builds at no_links ∷ gives (tail_at n) ∷ builds at chain_of ∷ []
  pub ends_so : leads (ends n) (tail_at n) (end_at n) ≡ true
  pub no_more : (at : ℕ) → wanted at (end_at n) ≡ []

pub level_of : (op : BinaryOp) → IsLevel (binding op)
level_of b.LogicalOr = record { enters = refl; wants = λ at. refl; ends_so = refl; no_more = λ at. refl }
level_of op = record { enters = refl; wants = λ at. refl; ends_so = refl; no_more = λ at. refl }

-- and of an operator
pub record IsOperator (op : BinaryOp) : Type 0 where
  pub row : row_of (tail_at (binding op)) (operator_kind op) ≡ Some (link_rule op)
  pub wants : (at : ℕ) → wanted at (link_rule op) ≡ takes (operator_kind op) ∷ gives (symbol_at (suc (binding op))) ∷ builds at (add_link op) ∷ gives (tail_at (binding op)) ∷ []

pub operator_of : (op : BinaryOp) → IsOperator op
operator_of b.LogicalOr = record { row = refl; wants = λ at. refl }
operator_of op = record { row = refl; wants = λ at. refl }

-- an expression of this level
abbrev pub GivesExpr : List Token → Symbol → ℕ → ℕ → ExprTree → Type 0
GivesExpr tokens x at next e = Gives tokens x at next expr u.expr e

chain_passes : {tokens : List Token} {at next : ℕ} {e : ExprTree} (n : ℕ) → IsLevel n → Has tokens at starts → Has tokens next (ends n) → GivesExpr tokens (symbol_at (suc n)) at next e → GivesExpr tokens (symbol_at n) at next e
chain_passes {tokens = tokens} {at = at} {next = next} n level begin end g = record {
  tree = g.tree;
  alike = g.alike;
  from = λ {rest} {parts} {o} c.
      let after = subst (λ es. Comes tokens (es ++ (builds at chain_of ∷ rest)) next (links [] ∷ expr g.tree ∷ parts) o) (sym (level.no_more next)) (builds_on c) in
      enters_by starts (rule_at n) level.enters begin (subst (λ es. Comes tokens (es ++ rest) at parts o) (sym (level.wants at)) (g.from (builds_on (enters_by (ends n) (end_at n) level.ends_so end after))));
}

passes : {tokens : List Token} {at next : ℕ} {e : ExprTree} (n : ℕ) → n ≤ 11 → Has tokens at starts → Has tokens next (ends n) → GivesExpr tokens (symbol_at (suc n)) at next e → GivesExpr tokens (symbol_at n) at next e
passes zero le begin end g = record { tree = g.tree; alike = g.alike; from = λ c. enters_by starts 87 refl begin (g.from (enters_by (ends 0) 89 refl end (builds_on (builds_on c)))) }
passes (suc zero) le begin end g = record { tree = g.tree; alike = g.alike; from = λ c. enters_by starts 90 refl begin (g.from (enters_by (ends 1) 92 refl end (builds_on (builds_on c)))) }
passes (suc (suc zero)) le begin end g = chain_passes 2 (level_of b.LogicalOr) begin end g
passes (suc (suc (suc zero))) le begin end g = chain_passes 3 (level_of b.LogicalAnd) begin end g
passes (suc (suc (suc (suc zero)))) le begin end g = chain_passes 4 (level_of b.BitOr) begin end g
passes (suc (suc (suc (suc (suc zero))))) le begin end g = chain_passes 5 (level_of b.BitXor) begin end g
passes (suc (suc (suc (suc (suc (suc zero)))))) le begin end g = chain_passes 6 (level_of b.BitAnd) begin end g
passes (suc (suc (suc (suc (suc (suc (suc zero))))))) le begin end g = chain_passes 7 (level_of b.Equal) begin end g
passes (suc (suc (suc (suc (suc (suc (suc (suc zero)))))))) le begin end g = chain_passes 8 (level_of b.Less) begin end g
passes (suc (suc (suc (suc (suc (suc (suc (suc (suc zero))))))))) le begin end g = chain_passes 9 (level_of b.ShiftLeft) begin end g
passes (suc (suc (suc (suc (suc (suc (suc (suc (suc (suc zero)))))))))) le begin end g = chain_passes 10 (level_of b.Add) begin end g
passes (suc (suc (suc (suc (suc (suc (suc (suc (suc (suc (suc zero))))))))))) le begin end g = chain_passes 11 (level_of b.Multiply) begin end g
passes (suc (suc (suc (suc (suc (suc (suc (suc (suc (suc (suc (suc n)))))))))))) le begin end g = absurd (omega arith)

lifts : {tokens : List Token} {at next : ℕ} {e : ExprTree} (up least : ℕ) → up + least ≤ 12 → Has tokens at starts → Has tokens next (ends least) → GivesExpr tokens (symbol_at (up + least)) at next e → GivesExpr tokens (symbol_at least) at next e
lifts {tokens = tokens} {at = at} {next = next} {e = e} zero least le begin end g = subst (λ n. GivesExpr tokens (symbol_at n) at next e) (omega arith) g
lifts {tokens = tokens} {at = at} {next = next} {e = e} (suc up) least le begin end g =
    let same : suc up + least ≡ up + suc least = omega arith in
    passes least (omega arith) begin end (lifts up (suc least) (omega arith) begin (ends_later least (suc least) (omega arith) end) (subst (λ n. GivesExpr tokens (symbol_at n) at next e) same g))

-- what is read at its own level is read at a looser one
pub loosened : {tokens : List Token} {at next : ℕ} {e : ExprTree} (own least : ℕ) → least ≤ own → own ≤ 12 → Has tokens at starts → Has tokens next (ends least) → GivesExpr tokens (symbol_at own) at next e → GivesExpr tokens (symbol_at least) at next e
loosened {tokens = tokens} {at = at} {next = next} {e = e} own least le most begin end g =
    let same : own ≡ own - least + least = omega arith in
    lifts (own - least) least (omega arith) begin end (subst (λ n. GivesExpr tokens (symbol_at n) at next e) same g)
