-- What is told of a run.
use Rattle.std.specs.Prelude.{ℕ, List, [], ◌++◌, codes}
use Rattle.std.specs.Fmt.{decimal}
use Rattle.pt_base.specs.declared.end.End.{End}
use Rattle.pt_base.specs.declared.end.End.TheVariants.{Exit, Trapped, Spent, Refused}

-- what the program was made from, the length of its text, and that of the output
abbrev pub line_of : ℕ → ℕ → ℕ → ℕ → List ℕ
line_of seed count program output =
    codes "gen " ++ decimal seed ++ codes " " ++ decimal count ++ codes " program " ++ decimal program ++ codes " output " ++ decimal output ++ codes "\n"

-- the line, where main returned
abbrev pub told_of : List ℕ → End → List ℕ
told_of line (Exit status) = line
told_of line (Trapped trap span) = []
told_of line Spent = []
told_of line (Refused call function state) = []
