-- Words one behind the other, put together.
use Rattle.std.proofs.Common.{◌≡◌, Bool, true, List, [], ◌∷◌, ◌++◌, ⊎_elim}
use Rattle.std.specs.Prelude.{◌||◌}
use Rattle.std.proofs.lemmas.Bool.{or_cases}
use Rattle.c_printer.specs.Pieces.{Gap, Piece, gap_of}
use Rattle.c_printer_law.proofs.LexingNeighbours.{has_gap, is_closed, Stands, gapped, behind}
use Rattle.c_printer_law.proofs.LexingLayouts.{Chain}

-- words that may stand behind any
abbrev pub Free : List Piece → Type 0
Free ps = (p : Piece) → Chain p ps

pub free_behind : (p : Piece) (xs ys : List Piece) → Chain p xs → Free ys → Chain p (xs ++ ys)
free_behind p [] ys chain free = free p
free_behind p (x ∷ xs) ys chain free = (chain.0, chain.1, free_behind x xs ys chain.2 free)

pub free_both : (xs ys : List Piece) → Free xs → Free ys → Free (xs ++ ys)
free_both xs ys some more p = free_behind p xs ys (some p) more

-- behind words with a known last one
pub last_behind : (p : Piece) (xs : List Piece) (q : Piece) (ys : List Piece) → Chain p (xs ++ (q ∷ [])) → Chain q ys → Chain p ((xs ++ (q ∷ [])) ++ ys)
last_behind p [] q ys chain more = (chain.0, chain.1, more)
last_behind p (x ∷ xs) q ys chain more = (chain.0, chain.1, last_behind x xs q ys chain.2 more)

-- a word may stand there that nothing is known of
abbrev pub has_room : Piece → Gap → Bool
has_room p gap = has_gap gap || is_closed p

pub in_room : (p q : Piece) → has_room p (gap_of q) ≡ true → Stands p q
in_room p q h = ⊎_elim (λ (gap : has_gap (gap_of q) ≡ true). gapped gap) (λ (closed : is_closed p ≡ true). behind closed) (or_cases (has_gap (gap_of q)) (is_closed p) h)
