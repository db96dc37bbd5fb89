-- Texts of which only the first bytes were read, one more than a text may have, come to what the whole texts come to.
use Rattle.std.proofs.Common.{ℕ, Bool, List, Option, Result, Ok, Err, inl, inr}
use Rattle.pt_base.specs.declared.end.End.{End}
use Rattle.pt_base.specs.Talk.{Event}
use Rattle.pair_runner.specs.declared.fault.RunFault.{RunFault}
use Rattle.pair_runner.specs.declared.fault.RunFault.TheVariants.{LinkFailed, SinkFailed, BadPeer, PeerEnded, Memory}
use Rattle.stages.specs.Climb.{IsRefused, Refusal, of_pair}
use Rattle.stages.specs.Commands.{AreCut}
use Rattle.stages.specs.Seen.{view_refusal}
use Rattle.stages.proofs.Cuts.{first_bytes}
use Rattle.pair_texts.specs.Start.{Texts}
use Rattle.pair_texts.proofs.Cuts.{started_whole}
use Rattle.pair_running.proofs.LocalPairCuts.{run_whole}
use Rattle.pair_running.specs.declared.spawned_pair.outcome.Outcome.{Outcome}
use Rattle.pair_running.specs.declared.spawned_pair.outcome.Outcome.TheVariants.{Refused, Ran}
use Rattle.pair_running.specs.SpawnedPairLaws.{CutsAreEnough}
use Rattle.pair_running.specs.SpawnedPairOutcomeSeen.{IsExpectedOver, IsHonestFor, IsServed}
use Rattle.pair_running.specs.SpawnedPairSupervised.{IsSupervised}

refusal_whole : (whole cut : Texts) (r : Refusal) → AreCut whole cut → IsRefused of_pair cut r → IsRefused of_pair whole r
refusal_whole whole cut r is x = (first_bytes of_pair whole cut is).0 r x

abbrev supervised_whole : (moves : List Event → List ℕ → Type 0) (breaks : List ℕ → List ℕ → List ℕ → Type 0) (whole cut : Texts) (turns : ℕ) (result : Result End RunFault) → AreCut whole cut → IsSupervised moves breaks cut turns result → IsSupervised moves breaks whole turns result
supervised_whole moves breaks whole cut turns result is x = record {
  boot = x.boot;
  monitor = x.monitor;
  started = started_whole whole cut turns x.boot x.monitor is x.started;
  bytes = x.bytes;
  spelled = x.spelled;
  outcome = x.outcome;
}

pub served_whole : (untouched : Type 0) (moves : List Event → List ℕ → Type 0) (breaks : List ℕ → List ℕ → List ℕ → Type 0) (whole cut : Texts) (turns : ℕ) (result : Result Outcome RunFault) → AreCut whole cut → IsServed untouched moves breaks cut turns result → IsServed untouched moves breaks whole turns result
served_whole untouched moves breaks whole cut turns (Ok (Refused refusal)) is x = (refusal_whole whole cut (view_refusal refusal) is x.0, x.1)
served_whole untouched moves breaks whole cut turns (Ok (Ran end names)) is x = (supervised_whole moves breaks whole cut turns (Ok end) is x.0, x.1)
served_whole untouched moves breaks whole cut turns (Err LinkFailed) is x = supervised_whole moves breaks whole cut turns (Err LinkFailed) is x
served_whole untouched moves breaks whole cut turns (Err SinkFailed) is x = supervised_whole moves breaks whole cut turns (Err SinkFailed) is x
served_whole untouched moves breaks whole cut turns (Err (BadPeer rule offset)) is x = supervised_whole moves breaks whole cut turns (Err (BadPeer rule offset)) is x
served_whole untouched moves breaks whole cut turns (Err PeerEnded) is x = supervised_whole moves breaks whole cut turns (Err PeerEnded) is x
served_whole untouched moves breaks whole cut turns (Err Memory) is (inl x) = inl x
served_whole untouched moves breaks whole cut turns (Err Memory) is (inr x) = inr (supervised_whole moves breaks whole cut turns (Err Memory) is x)

pub honest_cut : {S : Type 0} (honest : S → (List ℕ → List ℕ) → (List ℕ → Bool) → Type 0) (sent given : S → Option (List ℕ)) (whole cut : Texts) (turns : ℕ) (spawner : S) → AreCut whole cut →
    IsHonestFor honest sent given whole turns spawner → IsHonestFor honest sent given cut turns spawner
honest_cut honest sent given whole cut turns spawner is x = record {
  none_sent = x.none_sent;
  none_given = x.none_given;
  is_honest = λ boot monitor bytes started spelled. x.is_honest boot monitor bytes (started_whole whole cut turns boot monitor is started) spelled;
}

pub expected_whole : (writes : List ℕ → Type 0) (whole cut : Texts) (turns : ℕ) (result : Result Outcome RunFault) → AreCut whole cut → IsExpectedOver writes cut turns result → IsExpectedOver writes whole turns result
expected_whole writes whole cut turns (Ok (Refused refusal)) is x = refusal_whole whole cut (view_refusal refusal) is x
expected_whole writes whole cut turns (Ok (Ran end names)) is x = (x.0, run_whole turns whole cut (record { bytes = x.0; names = names; end = end }) is x.1, x.2)
expected_whole writes whole cut turns (Err LinkFailed) is x = x
expected_whole writes whole cut turns (Err SinkFailed) is x = x
expected_whole writes whole cut turns (Err (BadPeer rule offset)) is x = x
expected_whole writes whole cut turns (Err PeerEnded) is x = x
expected_whole writes whole cut turns (Err Memory) is x = x

pub cuts_are_enough : {S K : Type 0} (starts : S → S → Type 0) (came : S → List Event → S → Type 0) (honest : S → (List ℕ → List ℕ) → (List ℕ → Bool) → Type 0) (sent given : S → Option (List ℕ)) (taken : K → Option (List ℕ)) → CutsAreEnough starts came honest sent given taken
cuts_are_enough starts came honest sent given taken = record {
  served = λ whole cut turns spawner spawner' sink sink' result is x. served_whole _ _ _ whole cut turns result is x;
  expected = λ whole cut turns spawner sink sink' result is x for_it. expected_whole _ whole cut turns result is (x (honest_cut honest sent given whole cut turns spawner is for_it));
}
