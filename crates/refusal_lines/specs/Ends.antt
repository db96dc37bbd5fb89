-- The line that reports the end of a run, its status, and what is seen of the run. Functions are told by their names.
use Rattle.std.specs.Prelude.{ℕ, List, [], ◌++◌, codes, slice_get, unwrap_or}
use Rattle.std.specs.Fmt.{decimal, signed_decimal}
use Rattle.pt_base.specs.declared.end.End.{End}
use Rattle.pt_base.specs.declared.end.End.TheVariants.{Exit, Trapped, Spent, Refused}
use Rattle.pt_base.specs.Traps.{trap_name}
use Rattle.front_end.specs.FaultLines.{place_text}
use Rattle.front_end.specs.FaultLinesSeen.{Seen}

-- the name of a function; none where there is no such function
abbrev pub name_among : List (List ℕ) → ℕ → List ℕ
name_among names f = unwrap_or (slice_get names f) []

-- the line that reports an end
abbrev pub end_line : List (List ℕ) → End → List ℕ
end_line names (Exit status) = codes "exit " ++ signed_decimal status ++ codes "\n"
end_line names (Trapped trap span) = codes "trap " ++ trap_name trap ++ codes " " ++ place_text span ++ codes "\n"
end_line names Spent = codes "spent\n"
end_line names (Refused call f state) = codes "refused " ++ decimal call ++ codes " " ++ name_among names f.0 ++ codes " " ++ state ++ codes "\n"

abbrev pub end_status : End → ℕ
end_status (Exit status) = 0
end_status (Trapped trap span) = 6
end_status Spent = 8
end_status (Refused call f state) = 7

-- what is seen of a run with these bytes and this end
abbrev pub ran : List ℕ → List (List ℕ) → End → Seen
ran bytes names end = record { out = bytes; report = end_line names end; status = end_status end }
