-- How many bytes a talk has brought.
use Rattle.std.proofs.Common.{◌≡◌, ◌∙◌, ◌<◌, ◌≤◌, ℕ, ◌+◌, ◌*◌, List, [], ◌++◌, length, Option, inl, inr, ap, arith, append-nil, length-append}
use Rattle.pt_base.specs.Talk.{Event}
use Rattle.wire.specs.declared.message.Message.{Message}
use Rattle.wire.specs.declared.message.ReplyBody.{ReplyBody}
use Rattle.wire.specs.Frames.{Begins, IsUnfinished}
use Rattle.wire.specs.Spelling.{four_bytes, payload, spelling}
use Rattle.wire.proofs.Sizes.{length-four_bytes}
use Rattle.pair_protocol.specs.Sides as sides
use Rattle.pair_meaning.specs.Monitors.{Monitor}
use Rattle.pair_meaning.specs.Serving.{serve}
use Rattle.pair_runner.specs.Bounds.{longest_frame, most_at_once, most_received}
use Rattle.pair_runner.specs.Sending.{given_in}
use Rattle.pair_runner.proofs.Counting.{passes, progress, taken}

-- So many frames were served, each for a turn, and the bytes that aren't served yet are few.
pub record Received (m now : Monitor) (talk : List Event) (bytes : List ℕ) : Type 0 where
  pub frames : ℕ
  pub turns : frames ≤ taken now
  pub few : frames ≤ m.budget
  pub same : now.budget ≡ m.budget
  pub all : length (given_in talk) ≤ frames * longest_frame + length bytes
  pub short : length bytes ≤ longest_frame + most_at_once

pub none_received : (m : Monitor) → Received m m [] []
none_received m = record { frames = 0; turns = omega arith; few = omega arith; same = λ i. m.budget; all = omega arith; short = omega arith }

-- less than a frame is there
unfinished_short : (bytes : List ℕ) → IsUnfinished bytes → length bytes < longest_frame
unfinished_short bytes (inl few) = omega (arith, few)
unfinished_short bytes (inr inside) =
    let long : length bytes ≡ length (four_bytes inside.size ++ inside.part) = ap length inside.are in
    let in_range = inside.in_range in
    let short = inside.short in
    omega (arith, long, in_range, short, length-append (four_bytes inside.size) inside.part, length-four_bytes inside.size)

-- room for a piece
pub piece_short : (bytes piece : List ℕ) → IsUnfinished bytes → length piece ≤ most_at_once → length (bytes ++ piece) ≤ longest_frame + most_at_once
piece_short bytes piece cut small = omega (arith, unfinished_short bytes cut, small, length-append bytes piece)

pub nothing_short : (m now : Monitor) (talk : List Event) (bytes : List ℕ) → Received m now talk bytes → length (bytes ++ []) ≤ longest_frame + most_at_once
nothing_short m now talk bytes r =
    let short = r.short in
    omega (arith, short, ap length (append-nil bytes))

pub received_piece : (m now : Monitor) (talk next : List Event) (bytes piece : List ℕ) → Received m now talk bytes → IsUnfinished bytes → length piece ≤ most_at_once →
    length (given_in next) ≡ length (given_in talk) + length piece → Received m now next (bytes ++ piece)
received_piece m now talk next bytes piece r cut small long =
    let all = r.all in
    record {
      frames = r.frames;
      turns = r.turns;
      few = r.few;
      same = r.same;
      all = omega (arith, all, long, length-append bytes piece);
      short = piece_short bytes piece cut small;
    }

-- a message's frame is no longer than the longest
frame_short : (x : Message) (bytes left : List ℕ) → Begins x bytes left → length bytes ≤ longest_frame + length left
frame_short x bytes left b =
    let long : length bytes ≡ length (spelling x ++ left) = ap length b.are in
    let within = b.spelled.keeps.payload in
    omega (arith, long, within, length-append (spelling x) left, length-append (four_bytes (length (payload x))) (payload x), length-four_bytes (length (payload x)))

left_short : (x : Message) (bytes left : List ℕ) → Begins x bytes left → length left ≤ length bytes
left_short x bytes left b =
    let long : length bytes ≡ length (spelling x ++ left) = ap length b.are in
    omega (arith, long, length-append (spelling x) left)

pub received_frame : (m now after : Monitor) (talk next : List Event) (bytes left out : List ℕ) (x : Message) (reply : Option ReplyBody) → Received m now talk bytes → Begins x bytes left → serve now x ≡ sides.goes_on after reply out →
    length (given_in next) ≡ length (given_in talk) → Received m after next left
received_frame m now after talk next bytes left out x reply r b e long =
    let p = progress now x after reply out (passes now x after reply out e) in
    let before = p.before in
    let more = p.more in
    let turns = r.turns in
    let same = r.same in
    let all = r.all in
    let short = r.short in
    record {
      frames = r.frames + 1;
      turns = omega (arith, turns, more);
      few = omega (arith, turns, before, same);
      same = p.same ∙ r.same;
      all = omega (arith, all, long, frame_short x bytes left b);
      short = omega (arith, short, left_short x bytes left b);
    }

-- all of them, with what was still given and isn't served
pub received_whole : (m now : Monitor) (talk : List Event) (bytes given piece : List ℕ) → Received m now talk bytes → length given ≡ length (given_in talk) + length piece → length (bytes ++ piece) ≤ longest_frame + most_at_once →
    length given ≤ most_received m.budget
received_whole m now talk bytes given piece r long short =
    let few = r.few in
    let all = r.all in
    omega (arith, few, all, long, short, length-append bytes piece)
