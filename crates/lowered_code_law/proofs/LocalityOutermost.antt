-- The outermost expressions of a body, and those with their new numbers, are lowered alike.
use Rattle.std.proofs.Common.{◌≡◌, ◌∙◌, sym, ap, ℕ, zero, suc, Option, List, [], ◌∷◌, ◌++◌}
use Rattle.std.specs.Prelude.{Contains, get_or, slice_get, unwrap_or}
use Rattle.std.proofs.lemmas.Option.{unwrap_or-slice_get}
use Rattle.pt_base.proofs.Members.{contains_first, contains_later}
use Rattle.typed_tree.specs.declared.ids.ExprId.{ExprId}
use Rattle.typed_tree.specs.declared.part.Part.{Part}
use Rattle.typed_tree.specs.declared.part.Role.{Role}
use Rattle.typed_tree.specs.ExpressionTree.{ExprTree}
use Rattle.source_meaning.specs.Expressions.{type_of}
use Rattle.source_meaning.specs.Statements.{no_expr}
use Rattle.usages.specs.declared.usage.How.{How}
use Rattle.usages.specs.Usages.{evaluated, how_of, item_number, part_usages, parts_usages}
use Rattle.lowering.specs.Expressions.{effects_in, object_in, value_in}
use Rattle.lowering.specs.Statements.{Code, outermost}
use Rattle.lowered_code_law.proofs.LocalityAgreeing.{Scopes, here, there, Agree, former, latter, nothing_named}
use Rattle.lowered_code_law.proofs.LocalityExpressions.{effects_same, object_same, value_same}

-- Two scopes, the outermost expressions of two programs, and the number that each has in the second.
pub record Both : Type 0 where
  pub scopes : Scopes
  pub exprs : List ExprTree
  pub others : List ExprTree
  pub number : ExprId → ExprId

abbrev pub first : Both → Code
first w = record { scope = here w.scopes; exprs = w.exprs }

abbrev pub second : Both → Code
second w = record { scope = there w.scopes; exprs = w.others }

-- an outermost expression, and what has its new number
pub record Alike (w : Both) (e : ExprId) : Type 0 where
  pub ty : type_of (outermost (first w) e) ≡ type_of (outermost (second w) (w.number e))
  pub value : (n : ℕ) → value_in (here w.scopes) (outermost (first w) e) n ≡ value_in (there w.scopes) (outermost (second w) (w.number e)) n
  pub effects : (n : ℕ) → effects_in (here w.scopes) (outermost (first w) e) n ≡ effects_in (there w.scopes) (outermost (second w) (w.number e)) n
  pub object : (n : ℕ) → object_in (here w.scopes) (outermost (first w) e) n ≡ object_in (there w.scopes) (outermost (second w) (w.number e)) n

abbrev pub AllAlike : Both → List Part → Type 0
AllAlike w [] = Unit {0}
AllAlike w (p ∷ ps) = Alike w p.expr × AllAlike w ps

pub first_parts : (w : Both) (ps qs : List Part) → AllAlike w (ps ++ qs) → AllAlike w ps
first_parts w [] qs h = tt
first_parts w (p ∷ ps) qs h = (h.0, first_parts w ps qs h.1)

pub rest_parts : (w : Both) (ps qs : List Part) → AllAlike w (ps ++ qs) → AllAlike w qs
rest_parts w [] qs h = h
rest_parts w (p ∷ ps) qs h = rest_parts w ps qs h.1

-- where there is no expression, that stands for it which names nothing
found_agrees : (exprs : List ExprTree) (w : Scopes) (how : How) (k : ℕ) → Agree w (part_usages how (slice_get exprs k)) → Agree w (evaluated how (get_or exprs k no_expr))
found_agrees [] w how k h = nothing_named w how
found_agrees (a ∷ rest) w how zero h = h
found_agrees (a ∷ rest) w how (suc k) h = found_agrees rest w how k h

found_same : (xs ys : List ExprTree) (j k : ℕ) → slice_get ys k ≡ slice_get xs j → get_or xs j no_expr ≡ get_or ys k no_expr
found_same xs ys j k e = sym (unwrap_or-slice_get xs j no_expr) ∙ ap (λ (o : Option ExprTree). unwrap_or o no_expr) (sym e) ∙ unwrap_or-slice_get ys k no_expr

alike : (w : Both) (how : How) (e : ExprId) → slice_get w.others (w.number e).0 ≡ slice_get w.exprs e.0 → Agree w.scopes (part_usages how (slice_get w.exprs e.0)) → Alike w e
alike w how e same h =
    let agrees = found_agrees w.exprs w.scopes how e.0 h in
    let found = found_same w.exprs w.others e.0 (w.number e).0 same in
    record {
      ty = ap type_of found;
      value = λ n. value_same (outermost (first w) e) w.scopes how n agrees ∙ ap (λ (a : ExprTree). value_in (there w.scopes) a n) found;
      effects = λ n. effects_same (outermost (first w) e) w.scopes how n agrees ∙ ap (λ (a : ExprTree). effects_in (there w.scopes) a n) found;
      object = λ n. object_same (outermost (first w) e) w.scopes how n agrees ∙ ap (λ (a : ExprTree). object_in (there w.scopes) a n) found;
    }

pub all_alike : (ps : List Part) (w : Both) (before : Role) (k : ℕ) → ((p : Part) → Contains ps p → slice_get w.others (w.number p.expr).0 ≡ slice_get w.exprs p.expr.0) → Agree w.scopes (parts_usages w.exprs before k ps) → AllAlike w ps
all_alike [] w before k same h = tt
all_alike (p ∷ ps) w before k same h =
    let m = item_number before k p.role in
    let own = part_usages (how_of p.role m) (slice_get w.exprs p.expr.0) in
    let rest = parts_usages w.exprs p.role m ps in
    (alike w (how_of p.role m) p.expr (same p (contains_first p ps)) (former w.scopes own rest h), all_alike ps w p.role m (λ q c. same q (contains_later p ps q c)) (latter w.scopes own rest h))
