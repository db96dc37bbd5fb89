-- Each form of expression reads back where its parts do.
use Rattle.std.proofs.Common.{◌≡◌, ℕ, ◌+◌, List, [], ◌∷◌, ◌++◌, Bool, true, false, Some, refl, ap, arith}
use Rattle.pt_base.specs.declared.span.Span.{Span}
use Rattle.c_lexer.specs.declared.token.Token.{Token}
use Rattle.c_lexer.specs.declared.token.TokenKind.TheVariants as k
use Rattle.c_grammar.specs.declared.symbol.Symbol.TheVariants as s
use Rattle.c_grammar.specs.Builds.{operator}
use Rattle.c_grammar.specs.Table.{row_of}
use Rattle.c_grammar.specs.Part as pt
use Rattle.c_grammar.specs.Part.{Part, expr, postfixes, links}
use Rattle.c_grammar.specs.Machine.{takes, builds, wanted, stretch}
use Rattle.pt_tree.specs.declared.operator.PrefixOp.{PrefixOp}
use Rattle.pt_tree.specs.declared.operator.PrefixOp.TheVariants as p
use Rattle.pt_tree.specs.SpecifierTree.{SpecTrees, spec_trees}
use Rattle.pt_tree.specs.ExpressionTree.{ExprTree, prefix, cast}
use Rattle.c_printer.specs.Pieces.{Gap, tight, fixed}
use Rattle.c_printer.specs.Kinds.{prefix_kind}
use Rattle.c_printer.specs.Specifiers.{specifiers}
use Rattle.c_printer.specs.Expressions.{expression, operand, behind_prefix, cast_star}
use Rattle.c_printer.specs.Plain.{specs_plain}
use Rattle.c_printer.specs.Unplaced as u
use Rattle.c_printer_law.proofs.Classes.{only, starts, begins_spec, ends_specs}
use Rattle.c_printer_law.proofs.Levels.{GivesExpr}
use Rattle.c_printer_law.proofs.Operands.{ReadExpr, Readable, own_level, operand_read}
use Rattle.c_printer_law.proofs.Specifiers.{specs_read}
use Rattle.c_printer_law.proofs.Steps.{Has, Is, Stands, first, behind, over, split, Gives, enters, enters_by, takes_it, builds_on, kind_here, has_here, has_at, weaker, ends_later, settled, counted_from, is_fixed, wants_as}

-- operators before an operand
prefix_given : (tokens : List Token) (op : PrefixOp) (r : ℕ) (gap : Gap) (a : ExprTree) (at next : ℕ) → row_of s.Unary (prefix_kind op) ≡ Some 94 → row_of s.UnaryOp (prefix_kind op) ≡ Some r → ((n : ℕ) → wanted n r ≡ takes (prefix_kind op) ∷ builds n (operator op) ∷ []) → is_fixed (prefix_kind op) ≡ true → Is tokens at (fixed gap (prefix_kind op)) → ReadExpr tokens 12 a (at + 1) next → GivesExpr tokens s.Unary at next (prefix u.nowhere op (u.expr a))
prefix_given tokens op r gap a at next row op_row wants plain i x = record {
  tree = prefix (stretch tokens at next) op x.gives.tree;
  alike = ap (λ e. prefix u.nowhere op e) x.gives.alike;
  from = λ {rest} {parts} {o} c. enters 94 (kind_here i) row (enters r (kind_here i) op_row (wants_as at r _ (wants at) (takes_it i plain (builds_on (counted_from x.gives (builds_on c))))));
}

prefix_unary : (tokens : List Token) (op : PrefixOp) (gap : Gap) (a : ExprTree) (at next : ℕ) → Is tokens at (fixed gap (prefix_kind op)) → ReadExpr tokens 12 a (at + 1) next → GivesExpr tokens s.Unary at next (prefix u.nowhere op (u.expr a))
prefix_unary tokens p.AddressOf gap a at next i x = prefix_given tokens p.AddressOf 125 gap a at next refl refl (λ n. refl) refl i x
prefix_unary tokens p.Dereference gap a at next i x = prefix_given tokens p.Dereference 126 gap a at next refl refl (λ n. refl) refl i x
prefix_unary tokens p.Plus gap a at next i x = prefix_given tokens p.Plus 127 gap a at next refl refl (λ n. refl) refl i x
prefix_unary tokens p.Minus gap a at next i x = prefix_given tokens p.Minus 128 gap a at next refl refl (λ n. refl) refl i x
prefix_unary tokens p.Complement gap a at next i x = prefix_given tokens p.Complement 129 gap a at next refl refl (λ n. refl) refl i x
prefix_unary tokens p.Not gap a at next i x = prefix_given tokens p.Not 130 gap a at next refl refl (λ n. refl) refl i x
prefix_unary tokens p.Increment gap a at next i x = record {
  tree = prefix (stretch tokens at next) p.Increment x.gives.tree;
  alike = ap (λ e. prefix u.nowhere p.Increment e) x.gives.alike;
  from = λ {rest} {parts} {o} c. enters 95 (kind_here i) refl (takes_it i refl (counted_from x.gives (builds_on c)));
}
prefix_unary tokens p.Decrement gap a at next i x = record {
  tree = prefix (stretch tokens at next) p.Decrement x.gives.tree;
  alike = ap (λ e. prefix u.nowhere p.Decrement e) x.gives.alike;
  from = λ {rest} {parts} {o} c. enters 96 (kind_here i) refl (takes_it i refl (counted_from x.gives (builds_on c)));
}

prefix_starts : (op : PrefixOp) → starts (prefix_kind op) ≡ true
prefix_starts p.AddressOf = refl
prefix_starts op = refl

pub prefix_readable : (tokens : List Token) (here : Span) (op : PrefixOp) (a : ExprTree) → Readable tokens a → Readable tokens (prefix here op a)
prefix_readable tokens here op a r = record {
  from = λ least gap at next le test h end.
      let x = operand_read r 12 (behind_prefix a) (at + 1) next (omega arith) (behind h) (ends_later least 12 le end) in
      own_level 12 least le (omega arith) (has_here starts (first h) (prefix_starts op)) end (prefix_unary tokens op gap a at next (first h) x);
}

-- casts
star_given : (tokens : List Token) (pointer : Bool) (at next : ℕ) → Stands tokens at (cast_star pointer) next → Has tokens next (only k.CloseParen) → Has tokens at ends_specs × Gives tokens s.Star at next pt.pointer (λ x. x) pointer
star_given tokens true at next h end = (has_here ends_specs (first h) refl, record { tree = true; alike = refl; from = λ {rest} {parts} {o} c. enters 37 (kind_here (first h)) refl (takes_it (first h) refl (builds_on (settled (over (behind h)) c))) })
star_given tokens false at next h end = (has_at (over h) (weaker (only k.CloseParen) ends_specs refl end), record { tree = false; alike = refl; from = λ {rest} {parts} {o} c. enters_by (only k.CloseParen) 38 refl (has_at (over h) end) (builds_on (settled (over h) c)) })

pub cast_readable : (tokens : List Token) (here : Span) (ss : SpecTrees) (pointer : Bool) (a : ExprTree) → specs_plain ss ≡ true → Readable tokens a → Readable tokens (cast here ss pointer a)
cast_readable tokens here ss pointer a plain r = record {
  from = λ least gap at next le test h end.
      let one = split (specifiers ss tight) (cast_star pointer ++ (fixed tight k.CloseParen ∷ operand 12 a (expression a) tight)) (behind h) in
      let two = split (cast_star pointer) (fixed tight k.CloseParen ∷ operand 12 a (expression a) tight) one.right in
      let star = star_given tokens pointer one.mid two.mid two.left (has_here (only k.CloseParen) (first two.right) refl) in
      let of = specs_read tokens ss tight (at + 1) one.mid plain one.left star.0 in
      let x = operand_read r 12 tight (two.mid + 1) next (omega arith) (behind two.right) (ends_later least 12 le end) in
      own_level 12 least le (omega arith) (has_here starts (first h) refl) end (record {
        tree = cast (stretch tokens at next) (spec_trees of.gives.tree) star.1.tree x.gives.tree;
        alike = cast_is (spec_trees of.gives.tree) ss star.1.tree pointer x.gives.tree a of.gives.alike star.1.alike x.gives.alike;
        from = λ {rest} {parts} {o} c. enters 93 (kind_here (first h)) refl (takes_it (first h) refl (enters_by begins_spec 98 refl of.begins (of.gives.from (star.1.from (takes_it (first two.right) refl (counted_from x.gives (builds_on (builds_on c))))))));
      });
}
  where
    cast_is : (l m : SpecTrees) (x y : Bool) (e f : ExprTree) → u.specs l ≡ u.specs m → x ≡ y → u.expr e ≡ u.expr f → cast u.nowhere (u.specs l) x (u.expr e) ≡ cast u.nowhere (u.specs m) y (u.expr f)
    cast_is l m x y e f h i j = cc
