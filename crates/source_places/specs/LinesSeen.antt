-- What contracts see of the lines of a text.
use Rattle.std.specs.Prelude.{ℕ, List}
use Rattle.source_places.specs.declared.lines.Lines.{Lines}

-- the text of which they are the lines
abbrev pub text_of : Lines → List ℕ
text_of lines = lines.text.now
