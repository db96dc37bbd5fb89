-- The line of a place as it is shown, with a mark under it.
use Rattle.std.specs.Prelude.{ℕ, List, [], ◌++◌, Bool, if◌then◌else◌, ◌&&◌, ◌-◌, codes, drop, leb, length, ltb, map, min, nat_eq, take}
use Rattle.source_places.specs.Places.{line_at, place_at}
use Rattle.source_places.specs.Shown.{shown_bytes}

-- ---- long lines

-- how many of a line's first bytes aren't shown, if so many stand before the place: of a line of more than 200
-- bytes only 200 are shown, of which 80 stand before the place where it has so many
abbrev pub left_out : List ℕ → ℕ → ℕ
left_out line before = if leb (length line) 200 then 0 else before - 80

-- the bytes of a line that are shown, if so many are left out
abbrev pub part_of : List ℕ → ℕ → List ℕ
part_of line out = take 200 (drop out line)

-- what stands for bytes that aren't shown
abbrev pub dots_if : Bool → List ℕ
dots_if cut = if cut then codes "..." else []

-- bytes stand behind those
abbrev pub goes_on : List ℕ → ℕ → Bool
goes_on line out = ltb 200 (length line) && ltb out (length line - 200)

abbrev pub shown_line : List ℕ → ℕ → List ℕ
shown_line line out = dots_if (ltb 0 out) ++ shown_bytes (part_of line out) ++ dots_if (goes_on line out) ++ codes "\n"

-- ---- the mark

-- what stands under a byte: a tab under a tab
abbrev pub under : ℕ → ℕ → ℕ
under mark b = if nat_eq b 9 then 9 else mark

-- a blank under what stands for bytes that aren't shown
abbrev pub indent_if : Bool → List ℕ
indent_if cut = if cut then codes "   " else []

-- under the part of a line that is shown: `^` behind so many of its bytes, and `~` under the others of so many
abbrev pub marks_under : List ℕ → ℕ → ℕ → List ℕ
marks_under part before width = map (under 32) (take before part) ++ codes "^" ++ map (under 126) (take (width - 1) (drop 1 (drop before part))) ++ codes "\n"

abbrev pub marked_line : List ℕ → ℕ → ℕ → ℕ → List ℕ
marked_line line out before width = indent_if (ltb 0 out) ++ marks_under (part_of line out) (before - out) width

-- a line, with a mark under so many bytes of it that stand behind so many others
abbrev pub excerpt_of : List ℕ → ℕ → ℕ → List ℕ
excerpt_of line before width = shown_line line (left_out line before) ++ marked_line line (left_out line before) before width

-- the line of an offset, with a mark under so many bytes from there on
abbrev pub excerpt : List ℕ → ℕ → ℕ → List ℕ
excerpt text at width = excerpt_of (line_at text (place_at text at).line) ((place_at text at).column - 1) width

-- the line of this number, counted from 1, with a mark under all its bytes
abbrev pub line_excerpt : List ℕ → ℕ → List ℕ
line_excerpt text line = excerpt_of (line_at text line) 0 (length (line_at text line))

-- ---- quotes

-- so many bytes of a line behind so many others, but at most 40, between backquotes
abbrev pub quoted_of : List ℕ → ℕ → ℕ → List ℕ
quoted_of line before width =
    let bytes = take (min 40 width) (drop before line) in
    codes "`" ++ shown_bytes bytes ++ dots_if (ltb (length bytes) width) ++ codes "`"

-- so many bytes from an offset on, as far as its line goes
abbrev pub quoted : List ℕ → ℕ → ℕ → List ℕ
quoted text at width = quoted_of (line_at text (place_at text at).line) ((place_at text at).column - 1) width
