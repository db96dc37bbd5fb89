-- The levels' rules are those of the grammar.
use Rattle.std.proofs.Common.{ℕ, List, sym, subst, inl, inr}
use Rattle.c_lexer.specs.declared.token.Token.{Token}
use Rattle.c_grammar.specs.declared.symbol.Symbol.TheVariants as s
use Rattle.c_grammar.specs.Table.{alternatives_of}
use Rattle.c_parser.specs.declared.operators.Level.{Level}
use Rattle.c_parser.specs.declared.operators.Level.TheVariants as l
use Rattle.c_parser.specs.Levels.{tail_of, operator_at, EntersLink}
use Rattle.c_parser.specs.Parses.{Enters, IsOneOf}

pub link_rule : (tokens : List Token) (level : Level) (at n : ℕ) → IsOneOf n (alternatives_of (tail_of level)) → Enters tokens (tail_of level) at n → EntersLink tokens level at (operator_at n)
link_rule tokens l.LogicalOr at n (inl e) r = let f = subst (Enters tokens s.LogicalOrTail at) e r in subst (λ m. EntersLink tokens l.LogicalOr at (operator_at m)) (sym e) (record { from = f.from })
link_rule tokens l.LogicalOr at n (inr (inl e)) r = let f = subst (Enters tokens s.LogicalOrTail at) e r in subst (λ m. EntersLink tokens l.LogicalOr at (operator_at m)) (sym e) (record { from = f.from })
link_rule tokens l.LogicalOr at n (inr (inr e)) r = absurd e
link_rule tokens l.LogicalAnd at n (inl e) r = let f = subst (Enters tokens s.LogicalAndTail at) e r in subst (λ m. EntersLink tokens l.LogicalAnd at (operator_at m)) (sym e) (record { from = f.from })
link_rule tokens l.LogicalAnd at n (inr (inl e)) r = let f = subst (Enters tokens s.LogicalAndTail at) e r in subst (λ m. EntersLink tokens l.LogicalAnd at (operator_at m)) (sym e) (record { from = f.from })
link_rule tokens l.LogicalAnd at n (inr (inr e)) r = absurd e
link_rule tokens l.BitOr at n (inl e) r = let f = subst (Enters tokens s.BitOrTail at) e r in subst (λ m. EntersLink tokens l.BitOr at (operator_at m)) (sym e) (record { from = f.from })
link_rule tokens l.BitOr at n (inr (inl e)) r = let f = subst (Enters tokens s.BitOrTail at) e r in subst (λ m. EntersLink tokens l.BitOr at (operator_at m)) (sym e) (record { from = f.from })
link_rule tokens l.BitOr at n (inr (inr e)) r = absurd e
link_rule tokens l.BitXor at n (inl e) r = let f = subst (Enters tokens s.BitXorTail at) e r in subst (λ m. EntersLink tokens l.BitXor at (operator_at m)) (sym e) (record { from = f.from })
link_rule tokens l.BitXor at n (inr (inl e)) r = let f = subst (Enters tokens s.BitXorTail at) e r in subst (λ m. EntersLink tokens l.BitXor at (operator_at m)) (sym e) (record { from = f.from })
link_rule tokens l.BitXor at n (inr (inr e)) r = absurd e
link_rule tokens l.BitAnd at n (inl e) r = let f = subst (Enters tokens s.BitAndTail at) e r in subst (λ m. EntersLink tokens l.BitAnd at (operator_at m)) (sym e) (record { from = f.from })
link_rule tokens l.BitAnd at n (inr (inl e)) r = let f = subst (Enters tokens s.BitAndTail at) e r in subst (λ m. EntersLink tokens l.BitAnd at (operator_at m)) (sym e) (record { from = f.from })
link_rule tokens l.BitAnd at n (inr (inr e)) r = absurd e
link_rule tokens l.Equality at n (inl e) r = let f = subst (Enters tokens s.EqualityTail at) e r in subst (λ m. EntersLink tokens l.Equality at (operator_at m)) (sym e) (record { from = f.from })
link_rule tokens l.Equality at n (inr (inl e)) r = let f = subst (Enters tokens s.EqualityTail at) e r in subst (λ m. EntersLink tokens l.Equality at (operator_at m)) (sym e) (record { from = f.from })
link_rule tokens l.Equality at n (inr (inr (inl e))) r = let f = subst (Enters tokens s.EqualityTail at) e r in subst (λ m. EntersLink tokens l.Equality at (operator_at m)) (sym e) (record { from = f.from })
link_rule tokens l.Equality at n (inr (inr (inr e))) r = absurd e
link_rule tokens l.Relational at n (inl e) r = let f = subst (Enters tokens s.RelationalTail at) e r in subst (λ m. EntersLink tokens l.Relational at (operator_at m)) (sym e) (record { from = f.from })
link_rule tokens l.Relational at n (inr (inl e)) r = let f = subst (Enters tokens s.RelationalTail at) e r in subst (λ m. EntersLink tokens l.Relational at (operator_at m)) (sym e) (record { from = f.from })
link_rule tokens l.Relational at n (inr (inr (inl e))) r = let f = subst (Enters tokens s.RelationalTail at) e r in subst (λ m. EntersLink tokens l.Relational at (operator_at m)) (sym e) (record { from = f.from })
link_rule tokens l.Relational at n (inr (inr (inr (inl e)))) r = let f = subst (Enters tokens s.RelationalTail at) e r in subst (λ m. EntersLink tokens l.Relational at (operator_at m)) (sym e) (record { from = f.from })
link_rule tokens l.Relational at n (inr (inr (inr (inr (inl e))))) r = let f = subst (Enters tokens s.RelationalTail at) e r in subst (λ m. EntersLink tokens l.Relational at (operator_at m)) (sym e) (record { from = f.from })
link_rule tokens l.Relational at n (inr (inr (inr (inr (inr e))))) r = absurd e
link_rule tokens l.Shift at n (inl e) r = let f = subst (Enters tokens s.ShiftTail at) e r in subst (λ m. EntersLink tokens l.Shift at (operator_at m)) (sym e) (record { from = f.from })
link_rule tokens l.Shift at n (inr (inl e)) r = let f = subst (Enters tokens s.ShiftTail at) e r in subst (λ m. EntersLink tokens l.Shift at (operator_at m)) (sym e) (record { from = f.from })
link_rule tokens l.Shift at n (inr (inr (inl e))) r = let f = subst (Enters tokens s.ShiftTail at) e r in subst (λ m. EntersLink tokens l.Shift at (operator_at m)) (sym e) (record { from = f.from })
link_rule tokens l.Shift at n (inr (inr (inr e))) r = absurd e
link_rule tokens l.Additive at n (inl e) r = let f = subst (Enters tokens s.AdditiveTail at) e r in subst (λ m. EntersLink tokens l.Additive at (operator_at m)) (sym e) (record { from = f.from })
link_rule tokens l.Additive at n (inr (inl e)) r = let f = subst (Enters tokens s.AdditiveTail at) e r in subst (λ m. EntersLink tokens l.Additive at (operator_at m)) (sym e) (record { from = f.from })
link_rule tokens l.Additive at n (inr (inr (inl e))) r = let f = subst (Enters tokens s.AdditiveTail at) e r in subst (λ m. EntersLink tokens l.Additive at (operator_at m)) (sym e) (record { from = f.from })
link_rule tokens l.Additive at n (inr (inr (inr e))) r = absurd e
link_rule tokens l.Multiplicative at n (inl e) r = let f = subst (Enters tokens s.MultiplicativeTail at) e r in subst (λ m. EntersLink tokens l.Multiplicative at (operator_at m)) (sym e) (record { from = f.from })
link_rule tokens l.Multiplicative at n (inr (inl e)) r = let f = subst (Enters tokens s.MultiplicativeTail at) e r in subst (λ m. EntersLink tokens l.Multiplicative at (operator_at m)) (sym e) (record { from = f.from })
link_rule tokens l.Multiplicative at n (inr (inr (inl e))) r = let f = subst (Enters tokens s.MultiplicativeTail at) e r in subst (λ m. EntersLink tokens l.Multiplicative at (operator_at m)) (sym e) (record { from = f.from })
link_rule tokens l.Multiplicative at n (inr (inr (inr (inl e)))) r = let f = subst (Enters tokens s.MultiplicativeTail at) e r in subst (λ m. EntersLink tokens l.Multiplicative at (operator_at m)) (sym e) (record { from = f.from })
link_rule tokens l.Multiplicative at n (inr (inr (inr (inr e)))) r = absurd e
