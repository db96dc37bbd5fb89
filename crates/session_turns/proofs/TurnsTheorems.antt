-- The laws.
use Rattle.std.proofs.Common.{map}
use Rattle.session_turns.specs.Turns.{begun, over}
use Rattle.session_turns.specs.TurnsLaws.{WholeTurnsAreAlone, WholeTurnsAgree, WholeTurnsEndOnce}
use Rattle.session_turns.proofs.Laters.{turns_are_steps, later_come, come_once}
use Rattle.session_turns.proofs.Cuts.{end_once}

pub whole_turns_are_alone : (S M X R E Q : Type 0) → WholeTurnsAreAlone S M X R E Q
whole_turns_are_alone S M X R E Q g starts answers ends h =
    later_come g starts ends (turns_are_steps S M X R E Q g h.turns answers (map begun starts) (map over ends) h.lead)

pub whole_turns_agree : (S M X R E Q : Type 0) → WholeTurnsAgree S M X R E Q
whole_turns_agree S M X R E Q g starts answers others ends other_ends h k =
    come_once g starts ends other_ends (whole_turns_are_alone S M X R E Q g starts answers ends h) (whole_turns_are_alone S M X R E Q g starts others other_ends k)

pub whole_turns_end_once : (S M X R E Q : Type 0) → WholeTurnsEndOnce S M X R E Q
whole_turns_end_once S M X R E Q g starts answers more ends other_ends h k = end_once g h.turns k.turns answers more (map begun starts) ends other_ends h.lead k.lead
