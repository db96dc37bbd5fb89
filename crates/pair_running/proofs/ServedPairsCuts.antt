-- Texts of which only the first bytes were read, one more than a text may have, come to what the whole texts come to.
use Rattle.std.proofs.Common.{◌≡◌, ◌≤◌, ◌∙◌, ◌+◌, ℕ, suc, List, [], ◌∷◌, Option, length, map, take, refl, ap, subst}
use Rattle.pt_base.specs.declared.chooser.Who.{Who}
use Rattle.pair_meaning.specs.Monitors.{Monitor}
use Rattle.pair_meaning.specs.SlaveRun.{Slave}
use Rattle.stages.specs.Commands.{came, refused}
use Rattle.pair_texts.specs.Several.{AreCutInputs, AreCutShared, SharedTexts, with_input}
use Rattle.pair_texts.proofs.Cuts.{started_whole}
use Rattle.pair_texts.proofs.SharedLemmas.{cut_of, refused_whole}
use Rattle.pair_running.specs.ServedPairsServed.{AreRan, CutsAreEnough, IsServed, Served, Session, ran_by}
use Rattle.pair_running.specs.ServedPairsTurns.{AreStartedEach, HaveTurns}
use Rattle.pair_running.proofs.LocalPairCuts.{run_whole}

abbrev firsts : List (List ℕ) → List (List ℕ)
firsts inputs = map (take 1048577) inputs

ran_whole : (whole cut : SharedTexts) (turns : ℕ) (names inputs : List (List ℕ)) (xs : List Session) → AreCutShared whole cut → AreRan cut turns names (firsts inputs) xs → AreRan whole turns names inputs xs
ran_whole whole cut turns names [] [] are ran = ran
ran_whole whole cut turns names [] (x ∷ xs) are ran = absurd ran
ran_whole whole cut turns names (i ∷ is) [] are ran = absurd ran
ran_whole whole cut turns names (i ∷ is) (x ∷ xs) are ran = (
  run_whole turns (with_input whole i) (with_input cut (take 1048577 i)) (ran_by names x) (cut_of whole cut i (take 1048577 i) are refl) ran.0,
  ran_whole whole cut turns names is xs are ran.1,
)

as_many : (inputs : List (List ℕ)) → length (firsts inputs) ≡ length inputs
as_many [] = refl
as_many (i ∷ is) = ap suc (as_many is)

pub served_whole : (whole cut : SharedTexts) (inputs some : List (List ℕ)) (turns : ℕ) (v : Served) → AreCutShared whole cut → AreCutInputs inputs some → IsServed cut some turns v → IsServed whole inputs turns v
served_whole whole cut inputs some turns v are is x = record {
  some = subst (λ n. 1 ≤ n) (ap length is ∙ as_many inputs) x.some;
  ran = ran_whole whole cut turns v.names inputs v.sessions are (subst (λ (all : List (List ℕ)). AreRan cut turns v.names all v.sessions) is x.ran);
}

pub cut_whole : CutsAreEnough
cut_whole whole cut inputs some turns (refused r) are is x = refused_whole whole cut inputs some r are is x
cut_whole whole cut inputs some turns (came v) are is x = served_whole whole cut inputs some turns v are is x

-- ---- whole turns

started_each : (whole cut : SharedTexts) (turns : ℕ) (inputs : List (List ℕ)) (starts : List (Slave × Monitor)) → AreCutShared whole cut → AreStartedEach cut turns (firsts inputs) starts → AreStartedEach whole turns inputs starts
started_each whole cut turns [] [] are x = x
started_each whole cut turns [] (s ∷ ss) are x = absurd x
started_each whole cut turns (i ∷ is) [] are x = absurd x
started_each whole cut turns (i ∷ is) (s ∷ ss) are ((boot, monitor, starts, slave_is, monitor_is), rest) = (
  (boot, monitor, started_whole (with_input whole i) (with_input cut (take 1048577 i)) turns boot monitor (cut_of whole cut i (take 1048577 i) are refl) starts, slave_is, monitor_is),
  started_each whole cut turns is ss are rest,
)

-- whole turns of these first bytes are some of the whole texts
pub cut_turns : (whole cut : SharedTexts) (inputs some : List (List ℕ)) (turns : ℕ) (told told' : Option (ℕ → Who)) (bytes : List (List ℕ)) → AreCutShared whole cut → AreCutInputs inputs some
    → HaveTurns cut some turns told told' bytes → HaveTurns whole inputs turns told told' bytes
cut_turns whole cut inputs some turns told told' bytes are is x = record {
  starts = x.starts;
  started = started_each whole cut turns inputs x.starts are (subst (λ (all : List (List ℕ)). AreStartedEach cut turns all x.starts) is x.started);
  answers = x.answers;
  taken = x.taken;
  ends = x.ends;
  whole = x.whole;
  bytes_are = x.bytes_are;
}
