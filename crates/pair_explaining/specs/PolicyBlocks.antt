-- The block that explains the fault of a policy: a sentence, the line that has it with a mark under all its bytes,
-- and the line that `local` reports. An empty line ends it.
use Rattle.std.specs.Prelude.{ℕ, List, [], ◌++◌, codes, if◌then◌else◌, nat_eq}
use Rattle.policy.specs.declared.error.PolicyFault.{PolicyFault}
use Rattle.refusal_lines.specs.Lines.{policy_line}
use Rattle.source_places.specs.declared.place.Place.{Place}
use Rattle.source_places.specs.Excerpts.{line_excerpt}
use Rattle.source_places.specs.Heads.{head_of}
use Rattle.pair_explaining.specs.PairSentences.{policy_sentence}

-- where a fault is told: where its line begins, or the text where that is too long, which has line 0
abbrev pub policy_place : ℕ → Place
policy_place line = record { line = (if nat_eq line 0 then 1 else line); column = 1 }

-- of a text that is too long no line is shown
abbrev pub policy_excerpt : List ℕ → ℕ → List ℕ
policy_excerpt text line = if nat_eq line 0 then [] else line_excerpt text line

-- what is said of the fault, with its line
abbrev pub policy_text : List ℕ → List ℕ → PolicyFault → List ℕ
policy_text name text f = head_of name (policy_place f.line) ++ policy_sentence f.kind f.line ++ codes "\n" ++ policy_excerpt text f.line

abbrev pub policy_block : List ℕ → List ℕ → PolicyFault → List ℕ
policy_block name text f = policy_text name text f ++ policy_line f ++ codes "\n"
