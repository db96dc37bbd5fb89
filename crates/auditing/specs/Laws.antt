-- What holds of all audits.
use Rattle.std.specs.Prelude.{◌≡◌, ℕ, suc, List, [], ◌∷◌, Bool, ◌&&◌, if◌then◌else◌, is_some}
use Rattle.typed_tree.specs.TypedTree.{FunctionTree, TypedTree}
use Rattle.flow_rules.specs.declared.accepted.Accepted.{Accepted}
use Rattle.flow_rules.specs.Faults.{IsAccepted}
use Rattle.monitor_labels.specs.Secrecy.{audited, is_audited}
use Rattle.program_halves.specs.ProgramHalves.{monitor_half}
use Rattle.stages.specs.Climb.{HasPassed, Texts, flows}
use Rattle.stages.specs.Commands.{AreAlike, AreCut, Climb, ComesTo}
use Rattle.auditing.specs.Audits.{IsAudit}

-- texts come to one outcome at most, but for the ways, of which one is chosen where there are several
abbrev pub AuditsAreOne : Type 0
AuditsAreOne = (t : Texts) (a b : Climb (List ℕ)) → ComesTo (flows ∷ []) IsAudit t a → ComesTo (flows ∷ []) IsAudit t b → AreAlike a b

-- what the first bytes of texts come to, one more than each may have, the whole texts come to
abbrev pub FirstBytesAreEnough : Type 0
FirstBytesAreEnough = (whole cut : Texts) (o : Climb (List ℕ)) → AreCut whole cut → ComesTo (flows ∷ []) IsAudit cut o → ComesTo (flows ∷ []) IsAudit whole o

-- texts in which no stage has a fault have an audit
abbrev pub AcceptedTextsHaveAudits : Type 0
AcceptedTextsHaveAudits = (t : Texts) (tree : TypedTree) → HasPassed (flows ∷ []) t tree → (out : List ℕ) × IsAudit t out

-- ---- which functions are named

-- a function that has a body, is marked `priv` and `declassify`, and gives a number
abbrev pub gives_openly : FunctionTree → Bool
gives_openly f = is_some f.body && is_audited f.signature

-- the numbers of those among functions of which the first has the number n
abbrev pub open_from : ℕ → List FunctionTree → List ℕ
open_from n [] = []
open_from n (f ∷ fs) = if gives_openly f then n ∷ open_from (suc n) fs else open_from (suc n) fs

-- an audit has a line for each such function of the program, in the order of their numbers, and for no other
abbrev pub AuditsNameAll : Type 0
AuditsNameAll = (t : TypedTree) (a : Accepted) → IsAccepted t a → audited (monitor_half t a) ≡ open_from 0 t.functions
