-- An expression by the parts before and behind its first operand, and a chain of them one inside the other.
use Rattle.std.proofs.Common.{◌≡◌, ℕ, List, [], ◌∷◌, ◌++◌, Option, Some, None, refl, sym, ap, ◌∙◌, append_assoc}
use Rattle.std.specs.Prelude.{IfSome}
use Rattle.std.proofs.lemmas.List.{append-nil}
use Rattle.wire.specs.Spelling.{four_bytes, type_byte}
use Rattle.pt_core.specs.CodeTree.{PlaceTree, place, local, global, deref, ExprTree, constant, read, unary, binary, convert, null, address, decay, move, compare, difference}
use Rattle.pt_core.specs.LeftOperand.{left_of, pointer_in}
use Rattle.boot_fields.specs.Spelling.{list_bytes, span_bytes, expr_bytes, place_bytes}
use Rattle.boot_fields.specs.Limits.{FitsExpr, FitsPlace}
use Rattle.boot_writing.specs.LeftParts.{place_head, place_tail, FitsPlaceHead, FitsPlaceTail, left_bytes, head_bytes, tail_bytes, FitsHead, FitsTail}

-- ---- by parts

pub place_by_parts : (p : PlaceTree) → place_bytes p ≡ place_head p ++ (left_bytes (pointer_in p) ++ place_tail p)
place_by_parts (place (local v) path) = refl
place_by_parts (place (global g) path) = refl
place_by_parts (place (deref a s) path) = ap (λ x. 2 ∷ x) (append_assoc (expr_bytes a) (span_bytes s) (list_bytes four_bytes path))

pub place_fits_by_parts : (p : PlaceTree) → FitsPlaceHead p → IfSome (pointer_in p) FitsExpr → FitsPlaceTail p → FitsPlace p
place_fits_by_parts (place (local v) path) head left tail = (head, tail)
place_fits_by_parts (place (global g) path) head left tail = (head, tail)
place_fits_by_parts (place (deref a s) path) head left tail = ((left, tail.0), tail.1)

pub expr_by_parts : (e : ExprTree) → expr_bytes e ≡ head_bytes e ++ (left_bytes (left_of e) ++ tail_bytes e)
expr_by_parts (constant t v) = sym (append-nil _)
expr_by_parts (read p) = ap (λ x. 1 ∷ x) (place_by_parts p)
expr_by_parts (unary op t a s) = refl
expr_by_parts (binary op t a b s) = refl
expr_by_parts (convert t a) = ap (λ x. 4 ∷ type_byte t ∷ x) (sym (append-nil (expr_bytes a)))
expr_by_parts (null item) = sym (append-nil _)
expr_by_parts (address p) = ap (λ x. 6 ∷ x) (place_by_parts p)
expr_by_parts (decay p) = ap (λ x. 7 ∷ x) (place_by_parts p)
expr_by_parts (move a b back s) = refl
expr_by_parts (compare op a b s) = refl
expr_by_parts (difference a b s) = refl

pub expr_fits_by_parts : (e : ExprTree) → FitsHead e → IfSome (left_of e) FitsExpr → FitsTail e → FitsExpr e
expr_fits_by_parts (constant t v) head left tail = head
expr_fits_by_parts (read p) head left tail = place_fits_by_parts p head left tail
expr_fits_by_parts (unary op t a s) head left tail = (left, tail)
expr_fits_by_parts (binary op t a b s) head left tail = (left, tail)
expr_fits_by_parts (convert t a) head left tail = left
expr_fits_by_parts (null item) head left tail = head
expr_fits_by_parts (address p) head left tail = place_fits_by_parts p head left tail
expr_fits_by_parts (decay p) head left tail = place_fits_by_parts p head left tail
expr_fits_by_parts (move a b back s) head left tail = (left, tail)
expr_fits_by_parts (compare op a b s) head left tail = (left, tail)
expr_fits_by_parts (difference a b s) head left tail = (left, tail)

-- ---- what is still to be written of a chain, the outermost expression first in the list

abbrev pub pending : List ExprTree → List ℕ
pending [] = []
pending (e ∷ rest) = pending rest ++ tail_bytes e

abbrev pub FitTails : List ExprTree → Type 0
FitTails [] = Unit {0}
FitTails (e ∷ rest) = FitsTail e × FitTails rest

pending_push : (xs : List ExprTree) (e : ExprTree) → pending (xs ++ e ∷ []) ≡ tail_bytes e ++ pending xs
pending_push [] e = sym (append-nil (tail_bytes e))
pending_push (x ∷ xs) e = ap (λ y. y ++ tail_bytes x) (pending_push xs e) ∙ append_assoc (tail_bytes e) (pending xs) (tail_bytes x)

tails_push : (xs : List ExprTree) (e : ExprTree) → FitsTail e → FitTails xs → FitTails (xs ++ e ∷ [])
tails_push [] e fits h = (fits, tt {0})
tails_push (x ∷ xs) e fits h = (h.0, tails_push xs e fits h.1)

tails_pop : (xs : List ExprTree) (e : ExprTree) → FitTails (xs ++ e ∷ []) → FitsTail e × FitTails xs
tails_pop [] e h = (h.0, tt {0})
tails_pop (x ∷ xs) e h = let r = tails_pop xs e h.1 in (r.0, (h.0, r.1))

-- on the way down: at this expression, below these
pub record Down (xs : List ExprTree) (whole at : ExprTree) (before now : List ℕ) : Type 0 where
  pub bytes : now ++ (expr_bytes at ++ pending xs) ≡ before ++ expr_bytes whole
  pub fits : FitsExpr at → FitTails xs → FitsExpr whole

-- on the way up
pub record Up (xs : List ExprTree) (whole : ExprTree) (before now : List ℕ) : Type 0 where
  pub bytes : now ++ pending xs ≡ before ++ expr_bytes whole
  pub fits : FitTails xs → FitsExpr whole

pub down_starts : (whole : ExprTree) (before : List ℕ) → Down [] whole whole before before
down_starts whole before = record { bytes = ap (λ x. before ++ x) (append-nil (expr_bytes whole)); fits = λ h t. h }

left_is : (o : Option ExprTree) (a : ExprTree) → o ≡ Some a → left_bytes o ≡ expr_bytes a
left_is o a h = ap left_bytes h

regroup : (now head left tail rest : List ℕ) → (now ++ head) ++ (left ++ (tail ++ rest)) ≡ now ++ ((head ++ (left ++ tail)) ++ rest)
regroup now head left tail rest = simp append_assoc

pub goes_down : (xs : List ExprTree) (whole e a : ExprTree) (before now after : List ℕ) → left_of e ≡ Some a → after ≡ now ++ head_bytes e → FitsHead e → Down xs whole e before now
    → Down (xs ++ e ∷ []) whole a before after
goes_down xs whole e a before now after is added head so_far =
    let parts : expr_bytes e ≡ head_bytes e ++ (expr_bytes a ++ tail_bytes e) = expr_by_parts e ∙ ap (λ x. head_bytes e ++ (x ++ tail_bytes e)) (left_is (left_of e) a is) in
    record {
      bytes =
          ap (λ x. x ++ (expr_bytes a ++ pending (xs ++ e ∷ []))) added
          ∙ ap (λ x. (now ++ head_bytes e) ++ (expr_bytes a ++ x)) (pending_push xs e)
          ∙ regroup now (head_bytes e) (expr_bytes a) (tail_bytes e) (pending xs)
          ∙ ap (λ x. now ++ (x ++ pending xs)) (sym parts)
          ∙ so_far.bytes;
      fits = λ h tails. let r = tails_pop xs e tails in so_far.fits (expr_fits_by_parts e head (rw is h) r.0) r.1;
    }

-- the innermost expression, which has no first operand
pub turns : (xs : List ExprTree) (whole e : ExprTree) (before now mid after : List ℕ) → left_of e ≡ None → mid ≡ now ++ head_bytes e → after ≡ mid ++ tail_bytes e → FitsHead e → FitsTail e
    → Down xs whole e before now → Up xs whole before after
turns xs whole e before now mid after is added added' head tail so_far =
    let parts : expr_bytes e ≡ head_bytes e ++ tail_bytes e = expr_by_parts e ∙ ap (λ x. head_bytes e ++ (x ++ tail_bytes e)) (ap left_bytes is) in
    record {
      bytes =
          ap (λ x. x ++ pending xs) (added' ∙ ap (λ x. x ++ tail_bytes e) added)
          ∙ ap (λ x. x ++ pending xs) (append_assoc now (head_bytes e) (tail_bytes e))
          ∙ append_assoc now (head_bytes e ++ tail_bytes e) (pending xs)
          ∙ ap (λ x. now ++ (x ++ pending xs)) (sym parts)
          ∙ so_far.bytes;
      fits = λ tails. so_far.fits (expr_fits_by_parts e head (rw is tt) tail) tails;
    }

pub goes_up : (xs : List ExprTree) (whole e : ExprTree) (before now after : List ℕ) → after ≡ now ++ tail_bytes e → FitsTail e → Up (xs ++ e ∷ []) whole before now → Up xs whole before after
goes_up xs whole e before now after added tail so_far = record {
  bytes =
      ap (λ x. x ++ pending xs) added
      ∙ append_assoc now (tail_bytes e) (pending xs)
      ∙ ap (λ x. now ++ x) (sym (pending_push xs e))
      ∙ so_far.bytes;
  fits = λ tails. so_far.fits (tails_push xs e tail tails);
}

pub is_up : (whole : ExprTree) (before now : List ℕ) → Up [] whole before now → (now ≡ before ++ expr_bytes whole) × FitsExpr whole
is_up whole before now h = (sym (append-nil now) ∙ h.bytes, h.fits (tt {0}))
