-- The pair is kept, and where it has caught up it shows the whole.
use Rattle.std.proofs.Common.{◌≡◌, ◌∙◌, inl, inr, ℕ, ℤ, zero, suc, refl, ap, subst, List, [], length}
use Rattle.std.proofs.lemmas.List.{length-map}
use Rattle.pt_base.specs.declared.end.End.{End}
use Rattle.pt_base.specs.declared.int_type.IntType.{IntType}
use Rattle.runs.specs.Run.{Expected}
use Rattle.policy.specs.Verdicts.{Standing}
use Rattle.check_programs.specs.Programs.{checked_program}
use Rattle.type_law.specs.ProgramsLaws.{ProgramsAreWellFormed}
use Rattle.c_lower_law.specs.Statements.{LoweringKeepsTheRun}
use Rattle.half_names_law.specs.SaidLaws.{CheckedProgramsPlaceNulls}
use Rattle.wire.specs.declared.message.Message.{Message}
use Rattle.pt_core.specs.CodeTree.{BootTree}
use Rattle.pt_core.specs.Steps.{Step}
use Rattle.core_steps_law.specs.MachinesJudged.{Judging}
use Rattle.part_views_law.specs.Views.{has_global}
use Rattle.pair_protocol.specs.Pair.{Both, Going, Pair, Who, both_from, both_step, caught_up, done, goes, run, wrong}
use Rattle.pair_protocol.proofs.OrderTheorems.{Keeps, every_order_keeps}
use Rattle.pair_meaning.specs.Monitors.{Monitor}
use Rattle.pair_meaning.specs.Pair.{pair_steps, the_sides}
use Rattle.pair_meaning.specs.Rules.{PeerRule}
use Rattle.pair_meaning.specs.SlaveRun.{Slave, slave_of}
use Rattle.pair_meaning.proofs.Fair.{the_sides_are_fair}
use Rattle.pair_invariant_law.specs.Laws.{CallsKeep}
use Rattle.pair_invariant_law.specs.Live.{IsKept, IsLive, IsSetting, Setting, expected_of as setting_expected, whole_after}
use Rattle.pair_invariant_law.specs.Slaves.{Stays}
use Rattle.pair_laws.specs.PairStepsEnds.{Begins}
use Rattle.pair_laws.specs.PairStepsSteps.{ThePairKeeps}
use Rattle.pair_laws.specs.KeptSlavesLaws.{AcceptedSlavesStay}
use Rattle.pair_laws.specs.PairStartLaws.{AcceptedPairsBegin, BootsAreWellFormed}
use Rattle.pair_laws.specs.PairStartOwn.{with_hosts}
use Rattle.pair_laws.specs.PairStartStart.{boot_at, monitor_at, setting_of}
use Rattle.pair_laws.proofs.AcceptedPairsExpected.{pairs_begin, same_expected}
use Rattle.pair_laws.specs.RevealedMemoryLaws.{AreTheWhole, PairsRevealTheWhole, ShowTheWhole, slave_owns, whole_at}
use Rattle.pair_laws.proofs.RevealedMemoryMemories.{memory_shown}

-- ---- what is kept shows the whole

live_shows : (w : Setting) (Own : Slave → Type 0) (x : Slave) (m : Monitor) (written : List ℕ) (live : IsLive w Own x m written) → AreTheWhole (has_global w.slave) (whole_after w live.steps) x m written
live_shows w Own x m written live = record {
  goes_on = ap (λ (s : Step (Judging Standing)). s.answer) live.came;
  handles = ap length live.beside.given ∙ length-map m.store (λ (entry : IntType × ℤ). entry.0);
  memory = ap (λ (s : Step (Judging Standing)). s.machine.blocks) live.came ∙ memory_shown w.slave x m;
  turns = ap (λ (s : Step (Judging Standing)). s.machine.turns) live.came;
  judgement = ap (λ (s : Step (Judging Standing)). s.gate.judgement) live.came ∙ live.judgement;
}

kept_shows : (w : Setting) (Own : Slave → Type 0) (b : Both Slave Monitor End PeerRule) → IsKept w Own b → ShowTheWhole (has_global w.slave) (whole_after w) w.budget (setting_expected w) b
kept_shows w Own (run x m written) (inl live) = inl (live.steps, live_shows w Own x m written live)
kept_shows w Own (run x m written) (inr late) = inr (record { over = late.over; expected_is = late.expected_is })
kept_shows w Own (done bytes end) kept = kept
kept_shows w Own (wrong bytes rule) kept = kept

-- ---- every order of turns

module _ (Own : Slave → Type 0) (keeps : ThePairKeeps Own) (calls : CallsKeep Own) (w : Setting) where
  kept_from : IsSetting w Own → (k : ℕ) (b : Both Slave Monitor End PeerRule) → IsKept w Own b → IsKept w Own (both_from the_sides k b)
  kept_from setting zero b kept = kept
  kept_from setting (suc k) b kept = kept_from setting k (both_step the_sides b) (keeps calls w b setting kept)

  pub caught_up_shows : (b : BootTree) (m : Monitor) → Begins Own w b m → (window : ℕ) (answers : List Who) (p : Going Slave Monitor Message) → pair_steps b m window answers ≡ goes p →
      ShowTheWhole (has_global w.slave) (whole_after w) w.budget (setting_expected w) (caught_up the_sides p)
  caught_up_shows b m (setting, live) window answers p e =
      kept_shows w Own (caught_up the_sides p)
      (subst (λ (q : Pair Slave Monitor Message End PeerRule). Keeps the_sides (IsKept w Own) q) e
      (every_order_keeps the_sides (slave_of b) m the_sides_are_fair refl (IsKept w Own) (λ k. kept_from setting k (run (slave_of b) m []) (inl live)) window answers))

-- ---- the pair of a program

pub pairs_reveal : ProgramsAreWellFormed → CheckedProgramsPlaceNulls → BootsAreWellFormed → AcceptedSlavesStay → AcceptedPairsBegin → CallsKeep Stays → ThePairKeeps Stays → LoweringKeepsTheRun → PairsRevealTheWhole
pairs_reveal programs nulls boots slaves begin calls keeps lowers items a policy hosts input turns own may are window answers p e =
    let t = (checked_program items).tree in
    let w = setting_of t a policy hosts input turns in
    let b = boot_at t a hosts input turns in
    let m = with_hosts own (monitor_at t a policy hosts input turns) in
    subst (λ (x : Expected). ShowTheWhole (slave_owns t a) (whole_at t policy hosts input turns) turns x (caught_up the_sides p)) (same_expected lowers t a policy hosts input turns (programs items may.few may.sound may.checked))
    (caught_up_shows Stays keeps calls w b m (pairs_begin programs nulls boots slaves begin items a policy hosts input turns own may are) window answers p e)
