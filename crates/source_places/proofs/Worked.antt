-- Lines and columns, tried by computing.
use Rattle.std.proofs.Common.{◌≡◌, refl, List, [], ◌∷◌, ℕ, codes, map}
use Rattle.std.specs.Fmt.{digits}
use Rattle.source_places.specs.declared.place.Place.{Place}
use Rattle.source_places.specs.Excerpts.{excerpt, quoted}
use Rattle.source_places.specs.Heads.{head}
use Rattle.source_places.specs.Places.{line_at, place_at}
use Rattle.source_places.specs.Shown.{shown_bytes}

abbrev at : ℕ → ℕ → Place
at line column = record { line = line; column = column }

-- ---- two lines, the second without a line feed

abbrev two : List ℕ
two = codes "int a;\n  a = 1;"

two_places : map (place_at two) (0 ∷ 5 ∷ 6 ∷ 7 ∷ 9 ∷ 15 ∷ 16 ∷ []) ≡ at 1 1 ∷ at 1 6 ∷ at 1 7 ∷ at 2 1 ∷ at 2 3 ∷ at 2 9 ∷ at 2 9 ∷ []
two_places = refl

two_lines : map (line_at two) (0 ∷ 1 ∷ 2 ∷ 3 ∷ []) ≡ codes "int a;" ∷ codes "int a;" ∷ codes "  a = 1;" ∷ [] ∷ []
two_lines = refl

-- ---- line feeds alone

abbrev feeds : List ℕ
feeds = codes "\n\n"

feeds_places : map (place_at feeds) (0 ∷ 1 ∷ 2 ∷ 3 ∷ []) ≡ at 1 1 ∷ at 2 1 ∷ at 3 1 ∷ at 3 1 ∷ []
feeds_places = refl

feeds_lines : map (line_at feeds) (1 ∷ 2 ∷ 3 ∷ 4 ∷ []) ≡ [] ∷ [] ∷ [] ∷ [] ∷ []
feeds_lines = refl

-- ---- nothing

empty_places : map (place_at []) (0 ∷ 1 ∷ []) ≡ at 1 1 ∷ at 1 1 ∷ []
empty_places = refl

empty_lines : map (line_at []) (1 ∷ 2 ∷ []) ≡ [] ∷ [] ∷ []
empty_lines = refl

-- ---- one line, which ends in a carriage return

abbrev one : List ℕ
one = codes "\tab\r\n"

one_places : map (place_at one) (0 ∷ 3 ∷ 4 ∷ 5 ∷ []) ≡ at 1 1 ∷ at 1 4 ∷ at 1 5 ∷ at 2 1 ∷ []
one_places = refl

one_shown : map (λ n. shown_bytes (line_at one n)) (1 ∷ 2 ∷ []) ≡ codes "\tab?" ∷ [] ∷ []
one_shown = refl

-- ---- lines as they are shown, with marks and quotes

two_excerpts : map (λ at. excerpt two at 5) (0 ∷ 9 ∷ 16 ∷ []) ≡ codes "int a;\n^~~~~\n" ∷ codes "  a = 1;\n  ^~~~~\n" ∷ codes "  a = 1;\n        ^\n" ∷ []
two_excerpts = refl

two_quotes : map (λ at. quoted two at 5) (0 ∷ 9 ∷ 13 ∷ []) ≡ codes "`int a`" ∷ codes "`a = 1`" ∷ codes "`1;...`" ∷ []
two_quotes = refl

one_excerpt : excerpt one 1 2 ≡ codes "\tab?\n\t^~\n"
one_excerpt = refl

two_head : head (codes "f\n.c") two 9 ≡ codes "f?.c:2:3: "
unfolding digits
two_head = refl
