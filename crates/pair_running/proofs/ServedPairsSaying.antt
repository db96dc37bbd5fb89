-- What a sound slave says keeps the counts of the format.
use Rattle.std.proofs.Common.{◌≡◌, ◌∙◌, ℕ, zero, suc, Bool, true, false, List, [], ◌∷◌, Option, Some, None, ◌+◌, nat_le, refl, sym, ap, subst}
use Rattle.std.specs.List.{AllByRecursion}
use Rattle.block_memory.specs.declared.cell.Cell.{Cell}
use Rattle.wire.specs.Limits.{KeepsCounts}
use Rattle.wire.specs.declared.message.Message.{Message}
use Rattle.pt_core.specs.Calls.{signature_in}
use Rattle.pt_core.specs.Steps.{Answer, moved, asked, ended, trapped, spent, idle}
use Rattle.marshalling.specs.Laws.{BodiesKeepCounts}
use Rattle.pair_protocol.specs.Sides.{AreFair, Mode, going, waits, over}
use Rattle.pair_protocol.specs.SlaveRun.{At, Ready, came, having, listed, moved_on, ready_in, slave_at, with_said}
use Rattle.pair_meaning.specs.Pair.{the_sides}
use Rattle.pair_meaning.specs.SlaveRun.{Doing, Slave, after_step, calls_or_parks, goes, is_over, machine_step, mode_by, mode_of, moves_with, must_wait, slave_step, stepped, waits_for}
use Rattle.wire.specs.declared.message.ReplyBody.{ReplyBody}
use Rattle.slave_soundness_law.specs.Laws.{CallsAreReady, IsReady, SlavesStaySound}
use Rattle.slave_soundness_law.specs.Sound.{IsSound}
use Rattle.slave_interp.specs.declared.slave.Slave.{Slave as code_slave}
use Rattle.slave_interp.specs.Slaves.{HasRun}
use Rattle.session_turns.proofs.Onward.{says_waits}
use Rattle.pair_running.specs.ServedPairsTurns.{HasSaid}

-- what is said keeps its counts
abbrev Keeps : Option Message → Type 0
Keeps None = Unit {0}
Keeps (Some m) = KeepsCounts m

module _ (ready : CallsAreReady) (bodies : BodiesKeepCounts) (stay : SlavesStaySound) where
  -- ---- one step

  call_keeps : (x y : Slave) (f : ℕ) (args : List Cell) (depth : ℕ) (none_left awaited : Bool) → IsReady y f args depth
      → nat_le y.machine.budget (y.machine.turns + y.calls) ≡ none_left → must_wait y f args ≡ awaited → Keeps (calls_or_parks y f args depth).said
  call_keeps x y f args depth true awaited is parking waiting = rw parking (tt {0})
  call_keeps x y f args depth false true is parking waiting =
      rw (parking, waiting) (bodies y.machine.blocks (signature_in y.program f).params args is.packable.few is.packable.whole is.packable.some)
  call_keeps x y f args depth false false is parking waiting =
      rw (parking, waiting) (bodies y.machine.blocks (signature_in y.program f).params args is.packable.few is.packable.whole is.packable.some)

  wrote_keeps : (x : Slave) (wrote : Option (List ℕ)) → Keeps (moves_with x wrote).said
  wrote_keeps x None = tt {0}
  wrote_keeps x (Some bytes) = tt {0}

  answer_keeps : (x : Slave) (a : Answer) (wrote : Option (List ℕ)) → IsSound x → x.doing ≡ goes → (machine_step x).answer ≡ a → Keeps (after_step (stepped x (machine_step x)) a wrote).said
  answer_keeps x moved wrote sound does is = wrote_keeps (stepped x (machine_step x)) wrote
  answer_keeps x (asked f args depth) wrote sound does is = let y = stepped x (machine_step x) in
      call_keeps x y f args depth (nat_le y.machine.budget (y.machine.turns + y.calls)) (must_wait y f args) (ready x f args depth sound does is) refl refl
  answer_keeps x (ended v) wrote sound does is = tt {0}
  answer_keeps x (trapped trap span) wrote sound does is = tt {0}
  answer_keeps x spent wrote sound does is = tt {0}
  answer_keeps x idle wrote sound does is = tt {0}

  step_keeps : (x : Slave) → IsSound x → x.doing ≡ goes → Keeps (slave_step x).said
  step_keeps x sound does = answer_keeps x (machine_step x).answer (machine_step x).gate.wrote sound does refl

  -- ---- several steps

  abbrev AllKeep : List Message → Type 0
  AllKeep ms = AllByRecursion KeepsCounts ms

  with_keeps : (o : Option Message) (ms : List Message) → Keeps o → AllKeep ms → AllKeep (with_said o ms)
  with_keeps None ms keeps all = all
  with_keeps (Some m) ms keeps all = (keeps, all)

  waits_not : waits ≡ going → ⊥
  waits_not e = cc

  over_not : over ≡ going → ⊥
  over_not e = cc

  going_goes : (x : Slave) (d : Doing) → x.doing ≡ d → mode_of x ≡ going → x.doing ≡ goes
  going_goes x goes is mode = is
  going_goes x (waits_for f args) is mode = absurd (waits_not (sym (ap mode_by is) ∙ mode))
  going_goes x is_over is mode = absurd (over_not (sym (ap mode_by is) ∙ mode))

  ready_by : (mode : Mode) (x : Slave) → ready_in the_sides mode x [] ≡ having x []
  ready_by going x = refl
  ready_by waits x = refl
  ready_by over x = refl

  abbrev behind : ℕ → Ready Slave ReplyBody → At Slave Message ReplyBody
  behind k r = moved_on the_sides (mode_of r.slave) r (slave_at the_sides k (slave_step r.slave).slave r.left)

  moved_keeps : (mode : Mode) (x : Slave) (rest : At Slave Message ReplyBody) → (mode ≡ going → Keeps (slave_step x).said × AllKeep rest.said) → AllKeep (moved_on the_sides mode (having x []) rest).said
  moved_keeps going x rest has = let both = has refl in with_keeps (slave_step x).said rest.said both.0 both.1
  moved_keeps waits x rest has = tt {0}
  moved_keeps over x rest has = tt {0}

  pub all_keep : (k : ℕ) (x : Slave) → IsSound x → AllKeep (slave_at the_sides k x []).said
  all_keep zero x sound = tt {0}
  all_keep (suc k) x sound =
      subst (λ (r : Ready Slave ReplyBody). AllKeep (behind k r).said) (sym (ready_by (mode_of x) x))
      (moved_keeps (mode_of x) x (slave_at the_sides k (slave_step x).slave [])
      (λ mode. let does = going_goes x x.doing refl mode in (step_keeps x sound does, all_keep k (slave_step x).slave (stay x sound does))))

  -- the one message that it said
  pub said_keeps : (k : ℕ) (x : Slave) (m : Message) (at : At Slave Message ReplyBody) → IsSound x → slave_at the_sides k x [] ≡ at → at.said ≡ m ∷ [] → KeepsCounts m
  said_keeps k x m at sound is said = (subst AllKeep (ap (λ (a : At Slave Message ReplyBody). a.said) is ∙ said) (all_keep k x sound)).0

-- ---- the message that the code has

pub has_said : CallsAreReady → BodiesKeepCounts → SlavesStaySound → AreFair the_sides → (x : Slave) (made most : ℕ) (said : Option Message) (message : Message) (e : code_slave) → IsSound x → said ≡ Some message → HasRun made most x said e → HasSaid x message e
has_said ready bodies stay fair x made most said message e sound is ran =
    let there : slave_at the_sides made x [] ≡ came ran.to (message ∷ []) [] made = ran.came_to ∙ ap (λ (o : Option Message). came {R = ReplyBody} ran.to (listed o) [] made) is in
    record {
      steps = made;
      to = ran.to;
      there = ran.there;
      came_to = there;
      quiet = ran.quiet;
      counts = said_keeps ready bodies stay made x message (came ran.to (message ∷ []) [] made) sound there refl;
      waits = says_waits the_sides fair made x ran.to message (there, ran.quiet);
    }
