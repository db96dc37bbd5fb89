-- Links one behind the other.
use Rattle.std.proofs.Common.{ℕ, List, [], Option}
use Rattle.pt_base.specs.Talk.{Event}
use Rattle.pair_runner.specs.Sending.{Talks, Parts}
use Rattle.pair_runner.proofs.Moving.{Law, parts_behind, parts_none, talks_more}
use Rattle.std.proofs.KnownBytes.{Keeps-refl}
use Rattle.slave_runner.proofs.TalkLemmas.{Joins, JoinsParts}

pub joins : {L : Type 0} (came : L → List Event → L → Type 0) (sent given : L → Option (List ℕ)) → Law came → (a b c : L) → Joins (Talks came sent given a b) (Talks came sent given b c) (Talks came sent given a c)
joins came sent given further a b c talk more p q = talks_more came sent given further a b c talk more p q

pub joins_parts : {L : Type 0} (came : L → List Event → L → Type 0) (sent given : L → Option (List ℕ)) (a b c : L) → JoinsParts (Talks came sent given a b) (Parts sent given b c) (Parts sent given a c)
joins_parts came sent given a b c talk g s more p q = parts_behind came sent given a b c talk g s more p q

-- nothing is done
pub idle : {L : Type 0} (sent given : L → Option (List ℕ)) (a : L) (s : List ℕ) → Parts sent given a a [] s
idle sent given a s = parts_none sent given a a s (Keeps-refl (sent a)) (Keeps-refl (given a))
