-- What is told of several sessions.
use Rattle.std.specs.Prelude.{◌≡◌, ◌⊎◌, ℕ, suc, List, [], ◌∷◌, ◌++◌, codes, length, map}
use Rattle.std.specs.Fmt.{decimal}
use Rattle.runs.specs.Run.{Expected}
use Rattle.typed_tree.specs.TypedTree.{TypedTree}
use Rattle.front_end.specs.FaultLinesSeen.{Seen, faulty}
use Rattle.stages.specs.Climb.{Refusal}
use Rattle.refusal_lines.specs.Ends.{end_line}
use Rattle.refusal_lines.specs.Lines.{lines_of}
use Rattle.pair_texts.specs.Several.{IsOneRefused, SharedTexts}
use Rattle.pair_texts.specs.Start.{names_of}
use Rattle.pair_running.specs.ServedPairsServed.{IsServed, Served, Session, session_of}

-- the line of a session with its number and its length, and its bytes
abbrev pub session_text : ℕ → Session → List ℕ
session_text i x = codes "session " ++ decimal i ++ codes " " ++ decimal (length x.bytes) ++ codes "\n" ++ x.bytes

-- the line that reports how it ended
abbrev pub session_line : List (List ℕ) → ℕ → Session → List ℕ
session_line names i x = codes "session " ++ decimal i ++ codes " " ++ end_line names x.end

abbrev pub texts_from : ℕ → List Session → List ℕ
texts_from i [] = []
texts_from i (x ∷ xs) = session_text i x ++ texts_from (suc i) xs

abbrev pub lines_from : List (List ℕ) → ℕ → List Session → List ℕ
lines_from names i [] = []
lines_from names i (x ∷ xs) = session_line names i x ++ lines_from names (suc i) xs

abbrev pub served_seen : Served → Seen
served_seen v = record { out = texts_from 0 v.sessions; report = lines_from v.names 0 v.sessions; status = 0 }

-- of what is expected with each input of the program of this tree
abbrev pub served_of : TypedTree → List Expected → Seen
served_of tree es = served_seen (record { sessions = map session_of es; names = names_of tree })

-- one of the pairs is refused, and a line for each fault is reported
abbrev pub IsServeRefused : SharedTexts → List (List ℕ) → Seen → Type 0
IsServeRefused t inputs s = (r : Refusal) × IsOneRefused t inputs r × (s ≡ faulty (lines_of r))

-- or all sessions come to their ends, and that is shown so
abbrev pub ServesAll : SharedTexts → List (List ℕ) → ℕ → Seen → Type 0
ServesAll t inputs turns s = IsServeRefused t inputs s ⊎ ((v : Served) × IsServed t inputs turns v × (s ≡ served_seen v))
