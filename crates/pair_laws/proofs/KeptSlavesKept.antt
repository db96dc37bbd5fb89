-- Slaves that are reached are kept: each step and each reply reaches another, and of all of them the laws hold.
use Rattle.std.proofs.Common.{◌≡◌, ℕ, zero, suc, ◌+◌, refl, ap, subst, false, List, [], ◌∷◌, ◌++◌}
use Rattle.std.specs.Prelude.{IsTrue}
use Rattle.pt_base.specs.declared.end.End.{End}
use Rattle.pt_tree.specs.declared.host_model.HostModel.{HostModel}
use Rattle.typed_tree.specs.TypedTree.{TypedTree}
use Rattle.typed_tree.specs.WellFormed.{is_well_formed}
use Rattle.flow_rules.specs.declared.accepted.Accepted.{Accepted}
use Rattle.flow_rules.specs.Faults.{IsAccepted}
use Rattle.block_memory.specs.declared.cell.Cell.{Cell}
use Rattle.wire.specs.declared.message.Message.{Message}
use Rattle.wire.specs.declared.message.ReplyBody.{ReplyBody}
use Rattle.pt_core.specs.CodeTree.{BootTree}
use Rattle.pair_protocol.specs.SlaveRun as run
use Rattle.pair_protocol.specs.SlaveRun.{listed}
use Rattle.pair_protocol.specs.OrderLaws.{CallsAreCounted}
use Rattle.pair_protocol.proofs.OrderTheorems.{slaves_are_counted}
use Rattle.pair_meaning.specs.Monitors.{Monitor}
use Rattle.pair_meaning.specs.Rules.{PeerRule}
use Rattle.pair_meaning.specs.SlaveRun.{Slave, slave_of, Doing, goes, waits_for, is_over, mode_by, slave_step, take, taken_by}
use Rattle.pair_meaning.specs.Pair.{the_sides}
use Rattle.pair_meaning.proofs.Fair.{the_sides_are_fair}
use Rattle.handle_classes_law.proofs.SlavesPrograms.{slave_classes}
use Rattle.handle_flow_law.specs.KeptLaws.{boot_of, computes, is_marked}
use Rattle.handle_flow_law.proofs.KeptRuns.{never_met}
use Rattle.slave_soundness_law.specs.Sound.{IsSound}
use Rattle.slave_soundness_law.proofs.Beginning.{slaves_begin_sound}
use Rattle.slave_soundness_law.proofs.Stepping.{slaves_stay_sound}
use Rattle.slave_soundness_law.proofs.Taking.{takers_stay_sound}
use Rattle.handle_flow_law.specs.AskedLaws.{AsksUnderMarks}
use Rattle.handle_flow_law.proofs.AskedAsking.{asks_stand}
use Rattle.pair_invariant_law.proofs.Staying.{kept_stay}
use Rattle.pair_laws.specs.KeptSlavesLaws.{Reached, ReachedSlavesAreKept, AcceptedSlavesStay}

-- ---- they are sound

ready_sound : (x : Slave) (replies : List ReplyBody) → IsSound x → IsSound (run.ready the_sides x replies).slave
ready_sound x replies sound = go x.doing replies
  where
    go : (d : Doing) (rs : List ReplyBody) → IsSound (run.ready_in the_sides (mode_by d) x rs).slave
    go goes rs = sound
    go is_over rs = sound
    go (waits_for f args) [] = sound
    go (waits_for f args) (r ∷ rs) = takers_stay_sound x r sound

runs_sound : (n : ℕ) (x : Slave) (replies : List ReplyBody) → IsSound x → IsSound (run.slave_at the_sides n x replies).slave
runs_sound zero x replies sound = ready_sound x replies sound
runs_sound (suc n) x replies sound = go y.slave.doing refl (λ h. runs_sound n (slave_step y.slave).slave y.left h)
  where
    y : run.Ready Slave ReplyBody
    y = run.ready the_sides x replies

    go : (d : Doing) → y.slave.doing ≡ d → (IsSound (slave_step y.slave).slave → IsSound (run.slave_at the_sides n (slave_step y.slave).slave y.left).slave) → IsSound (run.moved_on the_sides (mode_by d) y (run.slave_at the_sides n (slave_step y.slave).slave y.left)).slave
    go goes is later = later (slaves_stay_sound y.slave (ready_sound x replies sound) is)
    go (waits_for f args) is later = ready_sound x replies sound
    go is_over is later = ready_sound x replies sound

-- ---- they are reached

counted : (b : BootTree) → CallsAreCounted the_sides (slave_of b)
counted b = slaves_are_counted Slave Monitor Message ReplyBody End PeerRule the_sides (slave_of b) the_sides_are_fair

steps_reach : (b : BootTree) (x : Slave) → Reached b x → x.doing ≡ goes → Reached b (slave_step x).slave
steps_reach b x r is = (r.0, r.1 + 1, r.2 ++ listed (slave_step x).said, (counted b).steps r.1 r.0 x r.2 r.3 (ap mode_by is))

takes_reach : (b : BootTree) (x : Slave) (reply : ReplyBody) → Reached b x → Reached b (take reply x)
takes_reach b x reply r = go x.doing refl
  where
    go : (d : Doing) → x.doing ≡ d → Reached b (taken_by x d reply)
    go goes is = r
    go is_over is = r
    go (waits_for f args) is = subst (λ d. Reached b (taken_by x d reply)) is (r.0 ++ reply ∷ [], r.1, r.2, (counted b).takes reply r.1 r.0 x r.2 r.3 (ap mode_by is))

-- ---- the laws hold of them

sound_there : (b : BootTree) (x : Slave) → IsSound (slave_of b) → Reached b x → IsSound x
sound_there b x begins r = subst (λ at. IsSound at.slave) r.3 (runs_sound r.1 (slave_of b) r.0 begins)

plain_there : (t : TypedTree) (a : Accepted) (hosts : List (ℕ × HostModel)) (input : List ℕ) (turns : ℕ) (x : Slave) → IsTrue (is_well_formed t) → IsAccepted t a → Reached (boot_of t a hosts input turns) x → computes x ≡ false
plain_there t a hosts input turns x sound accepted r = subst (λ at. computes at.slave ≡ false) r.3 (never_met slave_classes t a hosts input turns r.0 r.1 sound accepted)

marked_there : (t : TypedTree) (a : Accepted) (hosts : List (ℕ × HostModel)) (input : List ℕ) (turns : ℕ) (x : Slave) (f : ℕ) (args : List Cell) (depth : ℕ) → IsTrue (is_well_formed t) → IsAccepted t a → Reached (boot_of t a hosts input turns) x → AsksUnderMarks x f args depth
marked_there t a hosts input turns x f args depth sound accepted r = subst (λ at. AsksUnderMarks at.slave f args depth) r.3 (asks_stand slave_classes t a hosts input turns r.0 r.1 f args depth sound accepted)

pub reached_slaves_are_kept : ReachedSlavesAreKept
reached_slaves_are_kept t a hosts input turns sound accepted stands bytes few = (
  record {
    steps = steps_reach (boot_of t a hosts input turns);
    takes = takes_reach (boot_of t a hosts input turns);
    sound = λ x r. sound_there (boot_of t a hosts input turns) x (slaves_begin_sound (boot_of t a hosts input turns) stands bytes few) r;
    plain = λ x r. (is_marked x.program, plain_there t a hosts input turns x sound accepted r);
    marked = λ x f args depth r. marked_there t a hosts input turns x f args depth sound accepted r;
  },
  ([], 0, [], (counted (boot_of t a hosts input turns)).starts),
)

pub accepted_slaves_stay : AcceptedSlavesStay
accepted_slaves_stay t a hosts input turns sound accepted stands bytes few =
    let all = reached_slaves_are_kept t a hosts input turns sound accepted stands bytes few in
    kept_stay (Reached (boot_of t a hosts input turns)) all.0 (slave_of (boot_of t a hosts input turns)) all.1
