-- What a reply leaves of a slave.
use Rattle.std.proofs.Common.{◌≡◌, ◌∙◌, ◌≤◌, ◌<◌, ◌⊎◌, inl, inr, ℕ, suc, ◌+◌, ◌*◌, refl, ap, sym, subst, arith, List, [], ◌∷◌, ◌++◌, Option, Some, None, Bool, true, false, length, map}
use Rattle.std.specs.Prelude.{IsTrue, pos, if◌then◌else◌}
use Rattle.std.proofs.lemmas.List.{length-append}
use Rattle.pt_base.specs.declared.int_type.IntType.{IntType}
use Rattle.pt_tree.specs.declared.signature.Signature.{Signature}
use Rattle.block_memory.specs.declared.cell.Cell.{Cell}
use Rattle.block_memory.specs.declared.cell.BlockName.TheVariants.{Received}
use Rattle.block_memory.specs.Blocks.{Blocks}
use Rattle.wire.specs.declared.message.ReplyBody.{ReplyBody}
use Rattle.wire.specs.Limits.{most_in_a_block}
use Rattle.marshalling.specs.declared.crossing.Crossing.{Crossing}
use Rattle.marshalling.specs.declared.crossing.Crossing.TheVariants.{Stays, Plain, Sealed}
use Rattle.marshalling.specs.Packing.{names_of}
use Rattle.marshalling.specs.Replies.{Place, kept_by, next_after, next_by}
use Rattle.marshalling.specs.Taking.{Taken, after_reply, are_whole, call_places}
use Rattle.marshalling_law.proofs.TakenReplyLemmas.{replies_are_taken}
use Rattle.marshalling_law.proofs.RepliesFew.{replies_give_few}
use Rattle.marshalling_law.specs.TakingLaws.{AllStand, GivenStand, IsTakenWell, Stands}
use Rattle.marshalling_law.proofs.TakingLemmas.{taken_replies_fit}
use Rattle.pt_core.specs.CodeTree.{ProgramTree}
use Rattle.pt_core.specs.Calls.{signature_in}
use Rattle.pt_core.specs.Statements.{kept}
use Rattle.pt_core.specs.Steps.{Active, Awaited, Machine, resumed, resumed_in, with_blocks}
use Rattle.pt_core.specs.WellFormed.{is_sound}
use Rattle.core_soundness_law.specs.Kept.{any}
use Rattle.core_soundness_law.specs.Fits.{Fits}
use Rattle.core_soundness_law.proofs.Outside.{resumed_fits}
use Rattle.marshalling_law.specs.CallsPackable.{AreSmall, IsPackable}
use Rattle.pair_meaning.specs.LowView.{types_kept}
use Rattle.pair_meaning.specs.Monitors.{types_in}
use Rattle.pair_meaning.specs.SlaveRun.{Slave, Doing, goes, waits_for, is_over, is_reply_to, places_of_call, results_of, take, taken_by, types_given, with_reply, with_taken}
use Rattle.slave_soundness_law.specs.Laws.{TakersStaySound}
use Rattle.slave_soundness_law.specs.Sound.{IsRunning, IsFree, IsWaiting, IsDoing, IsSound, most_given}

-- ---- every handle may stand for every number

all_stand : (handle : ℕ) (places : List Place) → AllStand any handle places
all_stand handle [] = tt {0}
all_stand handle (p ∷ places) = (one p.way p.ty, all_stand (next_by p.way handle) places)
  where
    one : (way : Crossing) (t : IntType) → Stands any way t handle
    one Stays t = tt {0}
    one Plain t = tt {0}
    one Sealed t = refl

-- ---- how many handles there are

one_more : (way : Crossing) (t : IntType) (h : ℕ) → next_by way h ≡ h + length (types_in (kept_by way t (pos 0)))
one_more Stays t h = omega arith
one_more Plain t h = omega arith
one_more Sealed t h = omega arith

pub next_counts : (h : ℕ) (places : List Place) → next_after h places ≡ h + length (types_kept places)
next_counts h [] = omega arith
next_counts h (p ∷ places) =
    next_counts (next_by p.way h) places ∙ ap (λ n. n + length (types_kept places)) (one_more p.way p.ty h)
    ∙ behind h (length (types_in (kept_by p.way p.ty (pos 0)))) (length (types_kept places)) ∙ ap (λ n. h + n) (sym (length-append (types_in (kept_by p.way p.ty (pos 0))) (types_kept places)))
  where
    behind : (a b c : ℕ) → (a + b) + c ≡ a + (b + c)
    behind a b c = omega arith

-- the handles that a reply gives are few
pub given_few : (x : Slave) (f : ℕ) (args : List Cell) (reply : ReplyBody) → is_reply_to x f args reply ≡ true → IsPackable x.program.structs (signature_in x.program f).params x.machine.blocks args →
    length (x.given ++ types_given x f args) ≤ length x.given + most_given
given_few x f args reply is packable =
    let s : Signature = signature_in x.program f in
    let results : List Place = results_of x f in
    let places : List Place = places_of_call x f args in
    let few : (after_reply (length x.given) x.machine.blocks x.program.structs s args reply).next ≤ length x.given + most_given =
    replies_give_few (length x.given) x.machine.blocks x.program.structs s args reply packable.whole (within (length (names_of args)) (length args) packable.named packable.few) in
    let next = (replies_are_taken (length x.given) x.program.structs s x.machine.blocks args reply packable.whole is).next in
    let first : next_after (length x.given) results ≡ length x.given + length (types_kept results) = next_counts (length x.given) results in
    let second : next_after (next_after (length x.given) results) places ≡ next_after (length x.given) results + length (types_kept places) = next_counts (next_after (length x.given) results) places in
    let all : length (x.given ++ types_given x f args) ≡ length x.given + length (types_given x f args) = length-append x.given (types_given x f args) in
    let both : length (types_given x f args) ≡ length (types_kept results) + length (types_kept places) = length-append (types_kept results) (types_kept places) in
    omega (arith, few, next, first, second, all, both)
  where
    within : (a b : ℕ) → a ≤ b → b ≤ 8 → a ≤ 8
    within a b h k = omega (arith, h, k)

-- ---- its machine

-- a result goes to a local
received_stay : (v : Option Cell) (o : Option Awaited) (active : List Active) (blocks : Blocks) (n : ℕ) → (resumed_in v o active blocks (Received n)) ≡ blocks (Received n)
received_stay v None active blocks n = refl
received_stay v (Some awaited) [] blocks n = refl
received_stay v (Some awaited) (a ∷ rest) blocks n = go awaited.result v
  where
    go : (result : Option ℕ) (v : Option Cell) → (kept a.depth result v blocks) (Received n) ≡ blocks (Received n)
    go None None = refl
    go None (Some c) = refl
    go (Some var) None = refl
    go (Some var) (Some c) = refl

pub taken_free : (x : Slave) (f : ℕ) (args : List Cell) (result : Option ℕ) (taken : Taken) → IsTrue (is_sound false x.program) → IsRunning x → x.machine.awaits ≡ Some (record { callee = f; result = result }) →
    IsTakenWell any false x.program (signature_in x.program f) x.machine taken → IsFree (with_taken x f args taken)
taken_free x f args result taken sound running awaits well = record {
  running = record {
    machine = resumed_fits any false x.program (with_blocks taken.blocks x.machine) (record { callee = f; result = result }) taken.result sound well.fits awaits well.result;
    own = running.own;
    small = λ n. subst (λ (b : _). length b.types ≤ most_in_a_block) (sym (received_stay taken.result x.machine.awaits x.machine.active taken.blocks n))
        (subst (λ ts. length ts ≤ most_in_a_block) (sym (well.shape (Received n)).types) (running.small n));
    hosts = running.hosts;
  };
  free = refl;
}

pub reply_well : (x : Slave) (f : ℕ) (args : List Cell) (reply : ReplyBody) → IsRunning x → is_reply_to x f args reply ≡ true →
    IsTakenWell any false x.program (signature_in x.program f) x.machine (after_reply (length x.given) x.machine.blocks x.program.structs (signature_in x.program f) args reply)
reply_well x f args reply running is =
    taken_replies_fit any false x.program x.machine (length x.given) x.program.structs (signature_in x.program f) args reply running.machine is
    (record { result = all_stand (length x.given) (results_of x f); cells = all_stand (next_after (length x.given) (results_of x f)) (places_of_call x f args) })

-- ---- a reply

pub takers_stay_sound : TakersStaySound
takers_stay_sound x reply sound = go x.doing refl
  where
    few : (a b c : ℕ) → a ≤ b → b ≤ c → a ≤ c
    few a b c h k = omega (arith, h, k)

    over : IsSound (record x { doing = is_over })
    over = record { program = sound.program; input = sound.input; budget = sound.budget; turns = sound.turns; calls = sound.calls; given = sound.given; doing = tt {0} }

    taken : (f : ℕ) (args : List Cell) → IsWaiting x f args → is_reply_to x f args reply ≡ true → IsSound (with_reply x f args reply)
    taken f args waiting is = record {
      program = sound.program;
      input = sound.input;
      budget = sound.budget;
      turns = sound.turns;
      calls = sound.calls;
      given = few (length (x.given ++ types_given x f args)) (length x.given + most_given) (x.calls * most_given) (given_few x f args reply is waiting.packable) waiting.room;
      doing = inl (taken_free x f args waiting.result _ sound.program waiting.running waiting.awaits (reply_well x f args reply waiting.running is));
    }

    by_form : (f : ℕ) (args : List Cell) → IsWaiting x f args → (b : Bool) → is_reply_to x f args reply ≡ b → IsSound (if b then with_reply x f args reply else record x { doing = is_over })
    by_form f args waiting true e = taken f args waiting e
    by_form f args waiting false e = over

    go : (d : Doing) → x.doing ≡ d → IsSound (taken_by x d reply)
    go goes e = sound
    go (waits_for f args) e = by_form f args (subst (λ d. IsDoing x d) e sound.doing) (is_reply_to x f args reply) refl
    go is_over e = sound
