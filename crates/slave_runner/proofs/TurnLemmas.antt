-- The turns that are taken are few.
use Rattle.std.proofs.Common.{◌≡◌, ◌≢◌, ◌≤◌, ◌<◌, ◌^◌, ℕ, ◌+◌, List, [], ◌∷◌, ◌++◌, Option, Some, None, Ok, length, refl, ap, subst, ◌∙◌, arith}
use Rattle.std.specs.List.{AllByRecursion}
use Rattle.std.proofs.lemmas.List.{length-append}
use Rattle.pt_base.specs.Talk.{Event}
use Rattle.wire.specs.declared.message.Message.{Message}
use Rattle.wire.specs.declared.message.ReplyBody.{ReplyBody}
use Rattle.wire.specs.Limits.{KeepsLimits}
use Rattle.wire.specs.Spelling.{four_bytes, payload, spelling}
use Rattle.wire.specs.Steps.{Takes}
use Rattle.wire.specs.View.{ReaderView, fresh}
use Rattle.wire.proofs.Sizes.{length-four_bytes}
use Rattle.pt_core.specs.CodeTree.{BootTree}
use Rattle.pair_protocol.specs.Sides.{going, waits}
use Rattle.pair_protocol.specs.SlaveRun as slave_run
use Rattle.pair_protocol.specs.SlaveRun.{came, listed}
use Rattle.pair_protocol.proofs.OrderSlaveFacts.{one_reply}
use Rattle.pair_meaning.specs.Pair.{said, the_sides}
use Rattle.pair_meaning.specs.SlaveRun.{Slave, mode_of, slave_of, take}
use Rattle.pair_meaning.proofs.Fair.{the_sides_are_fair}
use Rattle.marshalling_law.specs.CallsSpelled.{HasSpelling}
use Rattle.slave_soundness_law.proofs.MessagesSaying.{spoken_messages_are_spelled}
use Rattle.slave_runner.specs.Comes.{IsBoot}
use Rattle.slave_runner.specs.Fronts.{Fed}
use Rattle.slave_runner.specs.Saying.{WentOn}
use Rattle.slave_runner.specs.Taking.{Taken}
use Rattle.slave_runner.specs.Turns.{IsShort, Reads, Runs, Speaks}
use Rattle.slave_runner.proofs.RunLemmas.{more_steps}
use Rattle.slave_runner.proofs.SizeLemmas.{few_steps}
use Rattle.slave_runner.proofs.WorkLemmas.{begins_there, few, made_by, said_first}

-- ---- bytes

some_bytes : (piece : List ℕ) → piece ≢ [] → 1 ≤ length piece
some_bytes [] some = absurd (some refl)
some_bytes (b ∷ piece) some = omega arith

spelled_bytes : (m : Message) → 1 ≤ length (spelling m)
spelled_bytes m = omega (arith, length-append (four_bytes (length (payload m))) (payload m), length-four_bytes (length (payload m)))

pub reads_none : Reads 0 fresh
reads_none = record { few = omega arith; short = omega arith }

pub reads_fed : (talks : List Event → Type 0) (v v' : ReaderView) (n : ℕ) → Fed talks v v' → IsShort v' → Reads n v → Reads (n + 1) v'
reads_fed talks v v' n (piece, some, fits, is, moved) short r =
    let at : v'.offset ≡ v.offset = ap (λ (w : ReaderView). w.offset) is in
    let size : length v'.unread ≡ length (v.unread ++ piece) = ap (λ (w : ReaderView). length w.unread) is in
    let so_far : n ≤ v.offset + (v.offset + length v.unread) = r.few in
    record { few = omega (arith, length-append v.unread piece, some_bytes piece some); short = short }

pub reads_taken : (v v' : ReaderView) (m : Message) (place n : ℕ) → Takes v (m, place) v' → Reads n v → Reads (n + 1) v'
reads_taken v v' m place n t r =
    let at : v'.offset ≡ v.offset + length (spelling m) = t.offset in
    let size : length v.unread ≡ length (spelling m ++ v'.unread) = ap length t.begins.are in
    let so_far : n ≤ v.offset + (v.offset + length v.unread) = r.few in
    let short : v.offset + length v.unread < 2 ^ 63 = r.short in
    record { few = omega (arith, length-append (spelling m) v'.unread, spelled_bytes m); short = omega (arith, length-append (spelling m) v'.unread) }

pub few_reads : (n : ℕ) (v : ReaderView) → Reads n v → n + 1 < 2 ^ 64
few_reads n v r =
    let so_far : n ≤ v.offset + (v.offset + length v.unread) = r.few in
    let short : v.offset + length v.unread < 2 ^ 63 = r.short in
    omega arith

-- ---- steps

pub runs_begin : (is : Slave → Type 0) (b : BootTree) (bytes : List ℕ) (v : ReaderView) → IsBoot bytes b → length bytes < 2 ^ 64 → is (slave_of b) → v.fault ≡ None → IsShort v → Runs 0 is v
runs_begin is b bytes v boot short there sound fits = record {
  bytes = bytes;
  boot = b;
  is_boot = boot;
  few_steps = few_steps b bytes boot.spelled short;
  slave = slave_of b;
  there = there;
  steps = 0;
  replies = [];
  messages = [];
  came_to = begins_there b;
  sound = sound;
  heard = 0;
  reads = record { few = omega arith; short = fits };
  few_turns = omega arith;
}

pub runs_on : (talks : List Event → Type 0) (is next : Slave → Type 0) (v : ReaderView) (n : ℕ) (before after : List ℕ) (r : Runs n is v) → mode_of r.slave ≡ going → WentOn talks next r.slave before after → Runs (n + 1) next v
runs_on talks is next v n before after r m w = record {
  bytes = r.bytes;
  boot = r.boot;
  is_boot = r.is_boot;
  few_steps = r.few_steps;
  slave = w.to;
  there = w.there;
  steps = r.steps + w.made;
  replies = r.replies;
  messages = r.messages ++ listed w.said;
  came_to = more_steps the_sides w.made r.steps (slave_of r.boot) r.replies r.slave w.to r.messages (listed w.said) r.came_to (made_by w.made r.slave w.to w.said w.came_to);
  sound = r.sound;
  heard = r.heard;
  reads = r.reads;
  few_turns = let so_far : n ≤ r.steps + r.heard = r.few_turns in let some : 1 ≤ w.made = w.some m in omega arith;
}

pub runs_hear : (talks : List Event → Type 0) (is : Slave → Type 0) (v v' : ReaderView) (n : ℕ) → Fed talks v v' → IsShort v' → Runs n is v → Runs (n + 1) is v'
runs_hear talks is v v' n (piece, some, fits, now, moved) short r = record {
  bytes = r.bytes;
  boot = r.boot;
  is_boot = r.is_boot;
  few_steps = r.few_steps;
  slave = r.slave;
  there = r.there;
  steps = r.steps;
  replies = r.replies;
  messages = r.messages;
  came_to = r.came_to;
  sound = ap (λ (w : ReaderView). w.fault) now ∙ r.sound;
  heard = r.heard + 1;
  reads = reads_fed talks v v' r.heard (piece, some, fits, now, moved) short r.reads;
  few_turns = let so_far : n ≤ r.steps + r.heard = r.few_turns in omega arith;
}

pub runs_take : {T : Type 0} (is next : Slave → Type 0) (v v' : ReaderView) (m : Message) (place n : ℕ) (reply : Option ReplyBody) (done : T) → Takes v (m, place) v' → (r : Runs n is v) → mode_of r.slave ≡ waits → Taken r.slave reply place next (Ok done) →
    Runs (n + 1) next v'
runs_take is next v v' m place n None done t r w h = absurd h
runs_take is next v v' m place n (Some reply) done t r w (may, there) = record {
  bytes = r.bytes;
  boot = r.boot;
  is_boot = r.is_boot;
  few_steps = r.few_steps;
  slave = take reply r.slave;
  there = there;
  steps = r.steps;
  replies = r.replies ++ reply ∷ [];
  messages = r.messages;
  came_to = one_reply the_sides the_sides_are_fair reply r.steps (slave_of r.boot) r.replies r.slave r.messages r.came_to w;
  sound = t.stays_sound;
  heard = r.heard + 1;
  reads = reads_taken v v' m place r.heard t r.reads;
  few_turns = let so_far : n ≤ r.steps + r.heard = r.few_turns in omega arith;
}

pub few_runs : (n : ℕ) (is : Slave → Type 0) (v : ReaderView) → Runs n is v → n < 2 ^ 101
few_runs n is v r =
    let so_far : n ≤ r.steps + r.heard = r.few_turns in
    let steps = few r.boot r.replies r.steps r.slave r.messages r.came_to in
    let short = r.few_steps in
    let heard = few_reads r.heard v r.reads in
    omega (arith, steps, short, heard)

-- ---- what is said

pub runs_speak : (n : ℕ) (is : Slave → Type 0) (v : ReaderView) → Runs n is v → Speaks is
runs_speak n is v r = record {
  bytes = r.bytes;
  boot = r.boot;
  is_boot = r.is_boot;
  slave = r.slave;
  there = r.there;
  steps = r.steps;
  replies = r.replies;
  messages = r.messages;
  came_to = r.came_to;
}

is_spelled : (front : List Message) (m : Message) (rest all : List Message) → AllByRecursion HasSpelling all → all ≡ (front ++ m ∷ []) ++ rest → HasSpelling m
is_spelled [] m rest all h e = (subst (λ (l : List Message). AllByRecursion HasSpelling l) e h).0
is_spelled (x ∷ front) m rest all h e = is_spelled front m rest ((front ++ m ∷ []) ++ rest) (subst (λ (l : List Message). AllByRecursion HasSpelling l) e h).1 refl

-- what it says next has a spelling
pub speaks_within : (is : Slave → Type 0) (p : Speaks is) (made : ℕ) (to : Slave) (m : Message) → slave_run.slave_at the_sides made p.slave [] ≡ came to (m ∷ []) [] made → KeepsLimits m
speaks_within is p made to m e =
    let far = more_steps the_sides made p.steps (slave_of p.boot) p.replies p.slave to p.messages (m ∷ []) p.came_to (made_by made p.slave to (Some m) e) in
    let first = said_first p.boot p.replies (p.steps + made) to (p.messages ++ m ∷ []) far in
    (is_spelled p.messages m first.0 (said p.boot p.replies) (spoken_messages_are_spelled p.boot p.bytes p.is_boot.spelled p.is_boot.well_formed p.replies) first.1).1.keeps
