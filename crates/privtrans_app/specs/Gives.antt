-- What is seen of a command by what its files hold: out's bytes, the report and the status, whole.
use Rattle.std.specs.Prelude.{◌≡◌, ◌⊎◌, ℕ, List, [], ◌∷◌, codes, drop, slice_get, unwrap_or}
use Rattle.runs.specs.Run.{Expected}
use Rattle.typed_tree.specs.TypedTree.{TypedTree}
use Rattle.front_end.specs.FaultLinesSeen.{Seen, faulty}
use Rattle.flow_rules.specs.declared.fault.FlowFault.{FlowFault}
use Rattle.stages.specs.Climb.{IsRefused, Refusal, Stage, Texts, alone, as_written, flows, hosts, inputs, rules, of_pair}
use Rattle.refusal_lines.specs.Ends.{ran}
use Rattle.refusal_lines.specs.FlowLines.{flow_lines}
use Rattle.refusal_lines.specs.Lines.{lines_of}
use Rattle.flow_check.specs.Checked.{IsChecked}
use Rattle.explaining.specs.Explains.{IsHeld}
use Rattle.outlining.specs.Outlines.{IsOutline}
use Rattle.auditing.specs.Audits.{IsAudit}
use Rattle.flow_picture.specs.Pictures.{IsPictured, Picture}
use Rattle.pair_explaining.specs.PairExplains.{IsPairHeld}
use Rattle.pair_explaining.specs.PairNames.{Names}
use Rattle.pair_explaining.specs.RefusalBlocks.{AreBlocks}
use Rattle.original.specs.Original as original
use Rattle.original.specs.Original.{IsOriginal, original_texts}
use Rattle.pair_texts.specs.Several.{SharedTexts}
use Rattle.pair_texts.specs.Start.{names_of}
use Rattle.pair_running.specs.LocalPairLocal as pairs
use Rattle.pair_running.specs.LocalPairLocal.{IsPairRun}
use Rattle.pair_running.specs.GeneratedPairGenerated as made
use Rattle.program_split.specs.Split.{HalfTexts, IsSplit}
use Rattle.privtrans_app.specs.Help.{help_text, version_text}
use Rattle.privtrans_app.specs.Sessions.{ServesAll}
use Rattle.privtrans_app.specs.Words.{Command, help, version, check, explain, outline, picture, explain_pair, orig, local, run, split, slave, gen, serve, audit}

-- ---- the texts of a command

-- the text of the file with this number, from 0; none behind the last
abbrev pub text_at : List (List ℕ) → ℕ → List ℕ
text_at texts n = unwrap_or (slice_get texts n) []

-- a program's text alone
abbrev pub program_in : List (List ℕ) → Texts
program_in texts = alone (text_at texts 0)

-- a program's text, its host table, its policy and its input; there is none where they are three
abbrev pub pair_of : List (List ℕ) → Texts
pair_of texts = record { program = text_at texts 0; host = text_at texts 1; policy = text_at texts 2; input = text_at texts 3; way = as_written }

-- a program's text, its host table and its policy
abbrev pub files_in : List (List ℕ) → Texts
files_in texts = record { program = text_at texts 0; host = text_at texts 1; policy = text_at texts 2; input = []; way = as_written }

-- the texts that several pairs share, and the inputs behind them, of which there is one at least
abbrev pub shared_of : List (List ℕ) → SharedTexts
shared_of texts = record { program = text_at texts 0; host = text_at texts 1; policy = text_at texts 2 }

abbrev pub inputs_of : List (List ℕ) → List (List ℕ)
inputs_of texts = text_at texts 3 ∷ drop 4 texts

-- a program's text, its host table and its input
abbrev pub original_of : List (List ℕ) → Texts
original_of texts = original_texts (text_at texts 0) (text_at texts 1) (text_at texts 2)

-- ---- what is seen of what they come to

-- these bytes are written, and nothing is reported
abbrev pub unreported : List ℕ → Seen
unreported bytes = record { out = bytes; report = []; status = 0 }

-- no stage has a fault, and these bytes tell of the program
abbrev pub accepted : List ℕ → Seen
accepted bytes = record { out = bytes; report = codes "accepted\n"; status = 0 }

-- no stage has a fault, and these lines tell of the results that are given openly
abbrev pub audited : List ℕ → Seen
audited lines = record { out = lines; report = codes "audited\n"; status = 0 }

-- the picture of a program, with the lines of the faults that it shows
abbrev pub drawn_with : List ℕ → List FlowFault → Seen
drawn_with bytes [] = accepted bytes
drawn_with bytes (f ∷ fs) = record { out = bytes; report = flow_lines (f ∷ fs); status = 5 }

abbrev pub drawn : Picture → Seen
drawn p = drawn_with p.picture p.faults

-- the run of a program as it was written, which no policy ends
abbrev pub ran_alone : original.Ran → Seen
ran_alone r = ran r.bytes [] r.end

-- the run of both halves
abbrev pub ran_both : pairs.Ran → Seen
ran_both r = ran r.bytes r.names r.end

-- both halves are in their files
abbrev pub halved : HalfTexts → Seen
halved h = record { out = []; report = codes "split\n"; status = 0 }

-- of what is expected of the program of this tree
abbrev pub shown_of : TypedTree → Expected → Seen
shown_of tree e = ran e.bytes (names_of tree) e.end

-- of what is expected of the generated program of this tree
abbrev pub generated_of : ℕ → ℕ → TypedTree → Expected → Seen
generated_of seed count tree e = ran (made.told seed count e.bytes e.end) (names_of tree) e.end

-- ---- what a command gives

-- a command that climbs these stages refuses the texts, and its report tells why
abbrev pub IsRefusedBy : List Stage → (Refusal → List ℕ → Type 0) → Texts → Seen → Type 0
IsRefusedBy ss tells t s = (r : Refusal) × (report : List ℕ) × IsRefused ss t r × tells r report × (s ≡ faulty report)

-- It refuses them so, or they come to a result, and that is shown so.
abbrev pub Shows : {A : Type 0} → List Stage → (Refusal → List ℕ → Type 0) → (Texts → A → Type 0) → (A → Seen) → Texts → Seen → Type 0
Shows {A} ss tells is show t s = IsRefusedBy ss tells t s ⊎ ((x : A) × is t x × (s ≡ show x))

-- a refusal is told by a line for each fault
abbrev pub by_lines : Refusal → List ℕ → Type 0
by_lines r report = report ≡ lines_of r

-- the name of a program's file, as it is told
abbrev pub one_name : List ℕ → Names
one_name program = record { program = program; host = []; policy = [] }

-- the names of a pair's files
abbrev pub three_names : List ℕ → List ℕ → List ℕ → Names
three_names program host policy = record { program = program; host = host; policy = policy }

-- This is seen of a command whose files hold these texts. Of a run in two processes it is said where a stage has faults alone, since else
-- it depends on the other process; and so all does of a slave.
abbrev pub Gives : Command → List (List ℕ) → Seen → Type 0
Gives help texts s = s ≡ unreported help_text
Gives version texts s = s ≡ unreported version_text
Gives (check program) texts s = Shows (flows ∷ []) by_lines IsChecked accepted (program_in texts) s
Gives (explain program) texts s = Shows (flows ∷ []) (AreBlocks (one_name program) (program_in texts)) (IsHeld program) accepted (program_in texts) s
Gives (outline program) texts s = Shows (flows ∷ []) by_lines IsOutline accepted (program_in texts) s
Gives (picture program) texts s = Shows [] by_lines IsPictured drawn (program_in texts) s
Gives (explain_pair program host policy) texts s =
    Shows (hosts ∷ rules ∷ flows ∷ []) (AreBlocks (three_names program host policy) (files_in texts)) (IsPairHeld program) accepted (files_in texts) s
Gives (orig program host input turns) texts s = Shows (hosts ∷ inputs ∷ []) by_lines (IsOriginal turns) ran_alone (original_of texts) s
Gives (local program host policy input turns window) texts s = Shows of_pair by_lines (IsPairRun turns) ran_both (pair_of texts) s
Gives (run program host policy input turns) texts s = IsRefusedBy of_pair by_lines (pair_of texts) s
Gives (split program to_slave to_monitor) texts s = Shows (flows ∷ []) by_lines IsSplit halved (program_in texts) s
Gives slave texts s = ⊥
Gives (gen seed count) texts s = Shows of_pair by_lines (made.IsGenerated seed count) ran_both (made.texts_of seed count) s
Gives (serve program host policy turns all) texts s = ServesAll (shared_of texts) (inputs_of texts) turns s
Gives (audit program) texts s = Shows (flows ∷ []) by_lines IsAudit audited (program_in texts) s
