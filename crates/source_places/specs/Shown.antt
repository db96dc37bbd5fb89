-- Bytes as they are shown.
use Rattle.std.specs.Prelude.{ℕ, List, if◌then◌else◌, ◌&&◌, ◌||◌, leb, nat_eq, map}

-- a tab, a space or a sign of ASCII; every other byte is shown as `?`
abbrev pub shown_byte : ℕ → ℕ
shown_byte b = if nat_eq b 9 || (leb 32 b && leb b 126) then b else 63

abbrev pub shown_bytes : List ℕ → List ℕ
shown_bytes bytes = map shown_byte bytes
