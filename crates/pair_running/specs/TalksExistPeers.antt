-- A peer that gives what its slave says.
use Rattle.std.specs.Prelude.{◌≡◌, ℕ, suc, List, [], ◌∷◌, ◌++◌, length, take, drop}
use Rattle.pt_base.specs.Talk.{Event, gave, took}
use Rattle.pt_core.specs.CodeTree.{BootTree}
use Rattle.pair_meaning.specs.Peer.{says}

-- What goes over a link to a peer that was sent and gave these bytes before. Where it is asked for more it gives the next bytes of what
-- the boot's slave says to all that was sent so far, up to one more than `sizes` says of the place in its stream; none are left where it
-- gives none. It is sent anything.
abbrev pub GivesWhatIsSaid : (ℕ → ℕ) → BootTree → List ℕ → List ℕ → List Event → Type 0
GivesWhatIsSaid sizes b sent given [] = Unit {0}
GivesWhatIsSaid sizes b sent given (took bytes ∷ talk) = GivesWhatIsSaid sizes b (sent ++ bytes) given talk
GivesWhatIsSaid sizes b sent given (gave piece ∷ talk) =
    (piece ≡ take (suc (sizes (length given))) (drop (length given) (says b sent))) × GivesWhatIsSaid sizes b sent (given ++ piece) talk
