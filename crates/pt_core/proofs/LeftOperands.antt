-- One more left operand at the end of a chain, and one less.
use Rattle.std.proofs.Common.{◌≡◌, ℕ, List, [], ◌∷◌, ◌++◌, ◌≤◌, Some, refl, ap, ◌∙◌, sym, Bor}
use Rattle.pt_core.specs.declared.expression.Expr.{Expr, size-Expr}
use Rattle.pt_core.specs.CodeTree.{ExprTree, view_expr}
use Rattle.pt_core.specs.LeftOperand.{left_of, Leads}

-- what stands behind a reference
abbrev pub seen : Bor Expr → ExprTree
seen e = view_expr e.now

-- each is no deeper than this
abbrev pub AreWithin : ℕ → List (Bor Expr) → Type 0
AreWithin n [] = Unit {0}
AreWithin n (e ∷ rest) = (size-Expr e.now ≤ n) × AreWithin n rest

pub leads_push : (whole : ExprTree) (xs : List ExprTree) (a b : ExprTree) → Leads whole xs a → left_of a ≡ Some b → Leads whole (xs ++ a ∷ []) b
leads_push whole [] a b h is = (sym h, (b, (is, refl)))
leads_push whole (x ∷ xs) a b h is = (h.0, (h.1.0, (h.1.1.0, leads_push h.1.0 xs a b h.1.1.1 is)))

pub leads_pop : (whole : ExprTree) (xs : List ExprTree) (a b : ExprTree) → Leads whole (xs ++ a ∷ []) b → (left_of a ≡ Some b) × Leads whole xs a
leads_pop whole [] a b h = (h.1.1.0 ∙ ap Some h.1.1.1, sym h.0)
leads_pop whole (x ∷ xs) a b h = let r = leads_pop h.1.0 xs a b h.1.1.1 in (r.0, (h.0, (h.1.0, (h.1.1.0, r.1))))

pub within_push : (n : ℕ) (xs : List (Bor Expr)) (e : Bor Expr) → AreWithin n xs → size-Expr e.now ≤ n → AreWithin n (xs ++ e ∷ [])
within_push n [] e h le = (le, tt {0})
within_push n (x ∷ xs) e h le = (h.0, within_push n xs e h.1 le)

pub within_pop : (n : ℕ) (xs : List (Bor Expr)) (e : Bor Expr) → AreWithin n (xs ++ e ∷ []) → (size-Expr e.now ≤ n) × AreWithin n xs
within_pop n [] e h = (h.0, tt {0})
within_pop n (x ∷ xs) e h = let r = within_pop n xs e h.1 in (r.0, (h.0, r.1))
