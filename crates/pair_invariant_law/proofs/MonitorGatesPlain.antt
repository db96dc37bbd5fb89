-- No step of a monitor's machine computes with a handle.
use Rattle.std.proofs.Common.{◌≡◌, ◌∙◌, ◌<◌, zero, suc, refl, subst, map, true}
use Rattle.std.specs.Prelude.{IsTrue, All}
use Rattle.monitor_soundness_law.proofs.Bodies.{way_enters, way_here}
use Rattle.pt_core.specs.CodeTree.{ProgramTree}
use Rattle.pt_core.specs.Values.{number_in}
use Rattle.pt_core.specs.Calls.{signature_in}
use Rattle.pt_core.specs.Steps.{Answer, moved, asked, ended, trapped, spent, idle, step}
use Rattle.pt_core.specs.WellFormed.{is_sound}
use Rattle.core_steps_law.specs.GatesWritten.{Written, bytes_gate}
use Rattle.core_soundness_law.specs.Kept.{none}
use Rattle.core_soundness_law.specs.StepLaws.{StepFits}
use Rattle.core_soundness_law.specs.Called.{GoesBy}
use Rattle.core_soundness_law.specs.CalledKeeping.{FitsCalls}
use Rattle.core_soundness_law.proofs.CalledAccounts.{steps_keep_account}
use Rattle.core_soundness_law.proofs.CalledGates.{gate_keeps}
use Rattle.core_soundness_law.proofs.CalledKeeping.{steps_keep_called}
use Rattle.core_soundness_law.proofs.CalledSteps.{steps_call_own}
use Rattle.part_views_law.specs.StepsLaws.{After}
use Rattle.part_views_law.specs.StepsRuns.{AllPlain}
use Rattle.pair_invariant_law.specs.MonitorGatesLaws.{BodiesArePlain, HasFunctions, HaveModels}
use Rattle.pair_invariant_law.proofs.MonitorGatesModels.{bodies_calls_fit, called_signed, next_models}
use Rattle.pair_invariant_law.proofs.MonitorGatesNumbers.{none_by_fits, plain_next}

pub bytes_fit : (program : ProgramTree) (g : Written) → IsTrue (is_sound true program) → HasFunctions program → HaveModels program g.hosts → All (λ b. b < 256) g.input → FitsCalls program (bytes_gate program) g
bytes_fit program g sound functions models bytes = record {
  entered = λ f args own e. functions f (called_signed program f sound own) (way_enters (signature_in program f).host e);
  made = λ f args own e. way_here (signature_in program f).host e;
  answered = λ privileged f args own e. (bodies_calls_fit program g functions models bytes).answered privileged f args (called_signed program f sound own) e;
}

abbrev Kept : ProgramTree → Written → Type 0
Kept program g = HaveModels program g.hosts × All (λ b. b < 256) g.input

pub bodies_are_plain : BodiesArePlain
bodies_are_plain marked monitor zero m g sound functions models bytes fits own free = tt {0}
bodies_are_plain marked monitor (suc k) m g sound functions models bytes fits own free = (
  bodies_calls_fit monitor g functions models bytes,
  plain_next marked (bytes_gate monitor) g monitor m (none_by_fits monitor m.active m.blocks fits.memory),
  after (step monitor (bytes_gate monitor) m g).answer
      (λ e. bodies_are_plain marked monitor k (step monitor (bytes_gate monitor) m g).machine (step monitor (bytes_gate monitor) m g).gate sound functions hosts.0 hosts.1 next.machine
      (steps_call_own monitor (bytes_gate monitor) m g own).left
      ((subst (λ a. GoesBy m.active m a (step monitor (bytes_gate monitor) m g).machine) e (steps_keep_account monitor (bytes_gate monitor) m g).goes).0 ∙ free)) refl,
)
  where
    next : StepFits none true monitor m.active (step monitor (bytes_gate monitor) m g)
    next = steps_keep_called none true monitor (bytes_gate monitor) m g sound (bytes_fit monitor g sound functions models bytes) own fits free

    hosts : Kept monitor (step monitor (bytes_gate monitor) m g).gate
    hosts = gate_keeps monitor (bytes_gate monitor) g (Kept monitor) (models, bytes) (λ active f args. (models, bytes)) (λ active f args called e. (next_models monitor g f (map number_in args) models bytes, bytes)) m own

    after : (a : Answer) → ((step monitor (bytes_gate monitor) m g).answer ≡ moved → AllPlain marked monitor (bytes_gate monitor) k (step monitor (bytes_gate monitor) m g).machine (step monitor (bytes_gate monitor) m g).gate) → (step monitor (bytes_gate monitor) m g).answer ≡ a →
        After (AllPlain marked monitor (bytes_gate monitor) k) a (step monitor (bytes_gate monitor) m g).machine (step monitor (bytes_gate monitor) m g).gate
    after moved rest e = rest e
    after (asked f args depth) rest e = tt {0}
    after (ended v) rest e = tt {0}
    after (trapped trap span) rest e = tt {0}
    after spent rest e = tt {0}
    after idle rest e = tt {0}
