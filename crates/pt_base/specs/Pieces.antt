-- Pieces that are given one after the other.
use Rattle.std.specs.Prelude.{ℕ, ◌≤◌, List, [], ◌∷◌, ◌++◌, take, drop, length, Vec, zero, suc}
use Rattle.std.specs.declared.alloc.Global.{Global}

-- the first pieces whole, and then the front of the next
abbrev pub given : List (Vec ℕ Global) → ℕ → ℕ → List ℕ
given [] at from = []
given (piece ∷ pieces) zero from = take from piece.items
given (piece ∷ pieces) (suc at) from = piece.items ++ given pieces at from

-- a piece, if it isn't empty, before others
abbrev pub before : List ℕ → List (List ℕ) → List (List ℕ)
before [] pieces = pieces
before (x ∷ xs) pieces = (x ∷ xs) ∷ pieces

-- the pieces that aren't empty
abbrev pub filled_pieces : List (Vec ℕ Global) → List (List ℕ)
filled_pieces [] = []
filled_pieces (piece ∷ pieces) = before piece.items (filled_pieces pieces)

-- the pieces that are still to come, past what was given, empty ones aside
abbrev pub left : List (Vec ℕ Global) → ℕ → ℕ → List (List ℕ)
left [] at from = []
left (piece ∷ pieces) zero from = before (drop from piece.items) (filled_pieces pieces)
left (piece ∷ pieces) (suc at) from = left pieces at from

-- the piece that comes next, none at the end
abbrev pub next_piece : List (List ℕ) → List ℕ
next_piece [] = []
next_piece (piece ∷ pieces) = piece

-- what is left when so many bytes of the next piece were given
abbrev pub without : ℕ → List (List ℕ) → List (List ℕ)
without n [] = []
without n (piece ∷ pieces) = before (drop n piece) pieces

-- all bytes of the pieces
abbrev pub joined : List (List ℕ) → List ℕ
joined [] = []
joined (piece ∷ pieces) = piece ++ joined pieces

-- the place is within the script
abbrev pub Stands : List (Vec ℕ Global) → ℕ → ℕ → Type 0
Stands pieces at from = at ≤ length pieces

-- the bytes of a piece
abbrev pub piece_at : List (Vec ℕ Global) → ℕ → List ℕ
piece_at [] at = []
piece_at (piece ∷ pieces) zero = piece.items
piece_at (piece ∷ pieces) (suc at) = piece_at pieces at
