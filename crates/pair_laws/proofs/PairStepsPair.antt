-- Every step keeps the pair, and it comes to what is expected.
use Rattle.std.proofs.Common.{◌≡◌, ◌∙◌, ◌⊎◌, inl, inr, ℕ, zero, suc, refl, ap, sym, subst, List, [], ◌∷◌, ◌++◌, Option, Some, None, Bool, true, false}
use Rattle.pt_base.specs.declared.end.End.{End}
use Rattle.runs.specs.Run.{Expected}
use Rattle.wire.specs.declared.message.Message.{Message}
use Rattle.wire.specs.declared.message.ReplyBody.{ReplyBody}
use Rattle.pt_core.specs.Steps.{Answer, asked, ended, idle, moved, spent, trapped}
use Rattle.pair_protocol.specs.Pair.{Both, answered, both_from, both_in, both_step, done, heard, run, wrong}
use Rattle.pair_protocol.specs.Sides.{HasReply, IsReply, Served, asks, bad, ends, goes_on, going, of_bool, waiting, waits}
use Rattle.pair_protocol.specs.SlaveRun.{At, Ready, having, moved_on, ready, ready_in, slave_at}
use Rattle.pair_protocol.proofs.OrderSlaveFacts.{taken_first}
use Rattle.pair_protocol.proofs.OrderWalks.{one_waits}
use Rattle.pair_meaning.specs.Monitors.{Monitor}
use Rattle.pair_meaning.specs.Pair.{both, the_sides, wants_reply}
use Rattle.pair_meaning.specs.Rules.{PeerRule}
use Rattle.pair_meaning.specs.Serving.{serve}
use Rattle.pair_meaning.specs.SlaveRun.{Slave, longest, machine_step, mode_by, mode_of, slave_of, slave_step, take}
use Rattle.pair_meaning.proofs.Fair.{the_sides_are_fair}
use Rattle.pair_meaning.proofs.Stops.{slaves_stop}
use Rattle.pair_invariant_law.specs.Laws.{CallsKeep}
use Rattle.pair_invariant_law.specs.Live.{IsKept, IsLive, IsSetting, Setting, expected_of}
use Rattle.pair_laws.specs.PairStepsEnds.{ThePairEnds}
use Rattle.pair_laws.specs.PairStepsSteps.{IsNoCall, ThePairKeeps}
use Rattle.pair_laws.proofs.PairStepsLate.{late_keeps}
use Rattle.pair_laws.proofs.PairStepsLive.{steps_keep}

-- ---- every step

live_keeps : (Own : Slave → Type 0) → CallsKeep Own → (w : Setting) (x : Slave) (m : Monitor) (written : List ℕ) → IsSetting w Own → IsLive w Own x m written → IsKept w Own (both_step the_sides (run x m written))
live_keeps Own calls w x m written setting live = go (machine_step x).answer refl
  where
    go : (a : Answer) → (machine_step x).answer ≡ a → IsKept w Own (both_step the_sides (run x m written))
    go moved e = steps_keep Own w x m written setting live (subst IsNoCall (sym e) (tt {0}))
    go (asked f args depth) e = calls w x m written f args depth setting live e
    go (ended v) e = steps_keep Own w x m written setting live (subst IsNoCall (sym e) (tt {0}))
    go (trapped trap span) e = steps_keep Own w x m written setting live (subst IsNoCall (sym e) (tt {0}))
    go spent e = steps_keep Own w x m written setting live (subst IsNoCall (sym e) (tt {0}))
    go idle e = steps_keep Own w x m written setting live (subst IsNoCall (sym e) (tt {0}))

pub the_pair_keeps : (Own : Slave → Type 0) → ThePairKeeps Own
the_pair_keeps Own calls w (run x m written) setting (inl live) = live_keeps Own calls w x m written setting live
the_pair_keeps Own calls w (run x m written) setting (inr late) = late_keeps Own w x m written setting late
the_pair_keeps Own calls w (done bytes end) setting kept = kept
the_pair_keeps Own calls w (wrong bytes rule) setting kept = absurd kept

-- ---- it goes on only as long as the slave does

module _ (w : Setting) (Own : Slave → Type 0) (setting : IsSetting w Own) (calls : CallsKeep Own) where
  -- the pair comes to what is expected
  abbrev Comes : Both Slave Monitor End PeerRule → Type 0
  Comes b = (j : ℕ) × (both_from the_sides j b ≡ done (expected_of w).bytes (expected_of w).end)

  -- with some replies the slave still goes on after so many steps
  abbrev GoesOn : ℕ → Slave → Type 0
  GoesOn k x = (replies : List ReplyBody) × (mode_of (slave_at the_sides k x replies).slave ≡ going)

  abbrev Either : ℕ → Type 0
  Either k = (x : Slave) (m : Monitor) (written : List ℕ) → IsKept w Own (run x m written) → Comes (run x m written) ⊎ GoesOn k x

  wants_taken : (b : Bool) (r : ReplyBody) (x : Slave) → waiting (mode_of x) ≡ of_bool b → IsReply b (Some r) → mode_of x ≡ waits
  wants_taken true r x e h = one_waits (mode_of x) e
  wants_taken false r x e h = absurd h

  by_served : (k : ℕ) → Either k → (x : Slave) (z : Message) (written : List ℕ) → waiting (mode_of x) ≡ of_bool (wants_reply z) → (r : Served Monitor ReplyBody End PeerRule) → HasReply (wants_reply z) r → IsKept w Own (answered the_sides x written r) →
      Comes (answered the_sides x written r) ⊎ GoesOn k x
  by_served k each x z written fair (goes_on m None bytes) has kept = each x m (written ++ bytes) kept
  by_served k each x z written fair (goes_on m (Some r) bytes) has kept = go (each (take r x) m (written ++ bytes) kept)
    where
      go : Comes (run (take r x) m (written ++ bytes)) ⊎ GoesOn k (take r x) → Comes (run (take r x) m (written ++ bytes)) ⊎ GoesOn k x
      go (inl c) = inl c
      go (inr (replies, e)) = inr (r ∷ replies, ap (λ (a : At Slave Message ReplyBody). mode_of a.slave) (taken_first the_sides the_sides_are_fair k x r replies (wants_taken (wants_reply z) r x fair has)) ∙ e)
  by_served k each x z written fair (ends bytes end) has kept = inl (0, ap (λ (q : Expected). done q.bytes q.end) (sym kept))
  by_served k each x z written fair (bad rule) has kept = absurd kept

  by_said : (k : ℕ) → Either k → (x : Slave) (said : Option Message) (m : Monitor) (written : List ℕ) → waiting (mode_of x) ≡ asks wants_reply said → IsKept w Own (heard the_sides x said m written) → Comes (heard the_sides x said m written) ⊎ GoesOn k x
  by_said k each x None m written fair kept = each x m written kept
  by_said k each x (Some z) m written fair kept = by_served k each x z written fair (serve m z) (the_sides_are_fair.serves m z) kept

  goes_of : (x : Slave) (m : Monitor) (written : List ℕ) → IsKept w Own (run x m written) → mode_of x ≡ going
  goes_of x m written (inl live) = ap mode_by live.beside.doing
  goes_of x m written (inr late) = ap mode_by late.doing

  ready_is : (x : Slave) (replies : List ReplyBody) → mode_of x ≡ going → ready the_sides x replies ≡ having x replies
  ready_is x replies e = ap (λ mode. ready_in the_sides mode x replies) e

  -- one step more
  longer : (k : ℕ) (x : Slave) (replies : List ReplyBody) → mode_of x ≡ going → (slave_at the_sides (suc k) x replies).slave ≡ (slave_at the_sides k (slave_step x).slave replies).slave
  longer k x replies e =
      ap (λ (c : Ready Slave ReplyBody). (moved_on the_sides (mode_of c.slave) c (slave_at the_sides k (slave_step c.slave).slave c.left)).slave) (ready_is x replies e)
      ∙ ap (λ mode. (moved_on the_sides mode (having x replies) (slave_at the_sides k (slave_step x).slave replies)).slave) e

  either : (k : ℕ) → Either k
  either zero x m written kept =
      let going_on = goes_of x m written kept in
      inr ([], ap (λ (c : Ready Slave ReplyBody). mode_of c.slave) (ready_is x [] going_on) ∙ going_on)
  either (suc k) x m written kept = go (by_said k (either k) (slave_step x).slave (slave_step x).said m written (the_sides_are_fair.steps x going_on) (subst (IsKept w Own) stepped (the_pair_keeps Own calls w (run x m written) setting kept)))
    where
      going_on : mode_of x ≡ going
      going_on = goes_of x m written kept

      stepped : both_step the_sides (run x m written) ≡ heard the_sides (slave_step x).slave (slave_step x).said m written
      stepped = ap (λ mode. both_in the_sides mode x m written) going_on

      go : Comes (heard the_sides (slave_step x).slave (slave_step x).said m written) ⊎ GoesOn k (slave_step x).slave → Comes (run x m written) ⊎ GoesOn (suc k) x
      go (inl (j, e)) = inl (suc j, ap (both_from the_sides j) stepped ∙ e)
      go (inr (replies, e)) = inr (replies, ap mode_of (longer k x replies going_on) ∙ e)

pub the_pair_ends : (Own : Slave → Type 0) → ThePairEnds Own
the_pair_ends Own calls w b m (setting, live) = go (either w Own setting calls (longest b) (slave_of b) m [] (inl live))
  where
    go : Comes w Own setting calls (run (slave_of b) m []) ⊎ GoesOn w Own setting calls (longest b) (slave_of b) → (k : ℕ) × (both b m k ≡ done (expected_of w).bytes (expected_of w).end)
    go (inl c) = c
    go (inr (replies, e)) = absurd ((slaves_stop b).stops replies e)
