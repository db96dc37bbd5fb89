-- How a place in the pieces moves.
use Rattle.std.proofs.Common.{◌≡◌, ◌<◌, ◌≤◌, ◌+◌, ℕ, suc, zero, List, [], ◌∷◌, ◌++◌, length, Vec, refl, sym, ◌∙◌, ap, get_or, take, drop, append_assoc, length-drop, add-one, arith}
use Rattle.std.proofs.lemmas.List.{take_all, drop_all, drop-drop, take-append-drop}
use Rattle.std.proofs.Math.Seq.{take-add}
use Rattle.std.specs.declared.alloc.Global.{Global}
use Rattle.pt_base.specs.Pieces.{given, left, before, filled_pieces, next_piece, without, joined, piece_at}

pub append-nil : (xs : List ℕ) → xs ++ [] ≡ xs
append-nil [] = refl
append-nil (x ∷ xs) = ap (λ ys. x ∷ ys) (append-nil xs)

pub given-start : (pieces : List (Vec ℕ Global)) → given pieces 0 0 ≡ []
given-start [] = refl
given-start (piece ∷ pieces) = refl

pub piece_at-is : (pieces : List (Vec ℕ Global)) (i : ℕ) (piece : Vec ℕ Global) → i < length pieces → piece ≡ get_or pieces i piece → piece_at pieces i ≡ piece.items
piece_at-is [] i piece lt is = absurd (omega arith)
piece_at-is (p ∷ pieces) zero piece lt is = ap (λ v. v.items) (sym is)
piece_at-is (p ∷ pieces) (suc i) piece lt is = piece_at-is pieces i piece (omega arith) is

step : (pieces : List (Vec ℕ Global)) (at from : ℕ) → at < length pieces → length (piece_at pieces at) ≤ from → given pieces (suc at) 0 ≡ given pieces at from
step [] at from lt le = absurd (omega arith)
step (piece ∷ pieces) zero from lt le =
    ap (λ xs. piece.items ++ xs) (given-start pieces) ∙ append-nil piece.items ∙ sym (take_all from piece.items le)
step (piece ∷ pieces) (suc at) from lt le = ap (λ xs. piece.items ++ xs) (step pieces at from (omega arith) le)

-- a piece that is used up is left behind
pub given-next : (pieces : List (Vec ℕ Global)) (at from : ℕ) → at < length pieces → length (piece_at pieces at) ≤ from → given pieces (at + 1) 0 ≡ given pieces at from
given-next pieces at from lt le = rw add-one (step pieces at from lt le)

-- a part of a piece is given
pub given-more : (pieces : List (Vec ℕ Global)) (at from n : ℕ) → at < length pieces → given pieces at (from + n) ≡ given pieces at from ++ take n (drop from (piece_at pieces at))
given-more [] at from n lt = absurd (omega arith)
given-more (piece ∷ pieces) zero from n lt = take-add from n piece.items
given-more (piece ∷ pieces) (suc at) from n lt =
    rw (append_assoc) (ap (λ xs. piece.items ++ xs) (given-more pieces at from n (omega arith)))

pub left-start : (pieces : List (Vec ℕ Global)) → left pieces 0 0 ≡ filled_pieces pieces
left-start [] = refl
left-start (piece ∷ pieces) = refl

left-step : (pieces : List (Vec ℕ Global)) (at from : ℕ) → at < length pieces → length (piece_at pieces at) ≤ from → left pieces (suc at) 0 ≡ left pieces at from
left-step [] at from lt le = absurd (omega arith)
left-step (piece ∷ pieces) zero from lt le =
    left-start pieces ∙ sym (ap (λ xs. before xs (filled_pieces pieces)) (drop_all from piece.items le))
left-step (piece ∷ pieces) (suc at) from lt le = left-step pieces at from (omega arith) le

-- a piece that is used up leaves the others
pub left-next : (pieces : List (Vec ℕ Global)) (at from : ℕ) → at < length pieces → length (piece_at pieces at) ≤ from → left pieces (at + 1) 0 ≡ left pieces at from
left-next pieces at from lt le = rw add-one (left-step pieces at from lt le)

-- past the last piece nothing is left
pub left-end : (pieces : List (Vec ℕ Global)) (at from : ℕ) → length pieces ≤ at → left pieces at from ≡ []
left-end [] at from le = refl
left-end (piece ∷ pieces) zero from le = absurd (omega arith)
left-end (piece ∷ pieces) (suc at) from le = left-end pieces at from (omega arith)

next_piece-before : (xs : List ℕ) (pieces : List (List ℕ)) → 0 < length xs → next_piece (before xs pieces) ≡ xs
next_piece-before [] pieces lt = absurd (omega arith)
next_piece-before (x ∷ xs) pieces lt = refl

without-before : (n : ℕ) (xs : List ℕ) (pieces : List (List ℕ)) → 0 < length xs → without n (before xs pieces) ≡ before (drop n xs) pieces
without-before n [] pieces lt = absurd (omega arith)
without-before n (x ∷ xs) pieces lt = refl

joined-before : (xs : List ℕ) (pieces : List (List ℕ)) → joined (before xs pieces) ≡ xs ++ joined pieces
joined-before [] pieces = refl
joined-before (x ∷ xs) pieces = refl

-- within a piece, the rest of it comes next
pub next-left : (pieces : List (Vec ℕ Global)) (at from : ℕ) → from < length (piece_at pieces at) → next_piece (left pieces at from) ≡ drop from (piece_at pieces at)
next-left [] at from lt = absurd (omega arith)
next-left (piece ∷ pieces) zero from lt = next_piece-before (drop from piece.items) (filled_pieces pieces) (omega (arith, length-drop {A = ℕ}))
next-left (piece ∷ pieces) (suc at) from lt = next-left pieces at from lt

-- a part of a piece is given, and the rest of it is left
pub left-more : (pieces : List (Vec ℕ Global)) (at from n : ℕ) → from < length (piece_at pieces at) → left pieces at (from + n) ≡ without n (left pieces at from)
left-more [] at from n lt = absurd (omega arith)
left-more (piece ∷ pieces) zero from n lt =
    sym (without-before n (drop from piece.items) (filled_pieces pieces) (omega (arith, length-drop {A = ℕ}))
    ∙ ap (λ xs. before xs (filled_pieces pieces)) (drop-drop n from piece.items))
left-more (piece ∷ pieces) (suc at) from n lt = left-more pieces at from n lt

-- what is given of the next piece, and what is left then, is what was left
pub joined-without : (n : ℕ) (pieces : List (List ℕ)) → take n (next_piece pieces) ++ joined (without n pieces) ≡ joined pieces
joined-without n [] = append-nil (take n []) ∙ take_all n [] (omega arith)
joined-without n (piece ∷ pieces) =
    ap (λ xs. take n piece ++ xs) (joined-before (drop n piece) pieces)
    ∙ sym (append_assoc (take n piece) (drop n piece) (joined pieces))
    ∙ ap (λ xs. xs ++ joined pieces) (take-append-drop n piece)

-- what was given and what is left are the same bytes in all
pub whole-kept : (old new part : List ℕ) (first after : List (List ℕ)) (n : ℕ) → new ≡ old ++ part → part ≡ take n (next_piece first) → after ≡ without n first → new ++ joined after ≡ old ++ joined first
whole-kept old new part first after n is front rest =
    rw (is, front, rest) (append_assoc old (take n (next_piece first)) (joined (without n first)) ∙ ap (λ xs. old ++ xs) (joined-without n first))

-- at the end what was given is all
pub nothing-left : (old part : List ℕ) (pieces : List (List ℕ)) → part ≡ [] → pieces ≡ [] → old ++ part ≡ old ++ joined pieces
nothing-left old part pieces none end = rw (none, end) refl
