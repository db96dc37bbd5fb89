-- The talk so far.
use Rattle.std.proofs.Common.{◌≡◌, ◌≢◌, ◌<◌, ◌≤◌, ◌^◌, ℕ, ◌+◌, List, [], ◌∷◌, ◌++◌, length, IfSome, Option, refl, sym, ap, subst, ◌∙◌, append_assoc, append-nil, length-append}
use Rattle.std.proofs.lemmas.Grind.{flat_map-append}
use Rattle.std.proofs.lemmas.List.Elements.{All-append, All-nil}
use Rattle.pt_base.specs.Talk.{Event, gave}
use Rattle.wire.specs.declared.message.Message.{Message}
use Rattle.wire.specs.declared.message.ReplyBody.{ReplyBody}
use Rattle.wire.specs.Frames.{IsUnfinished, Begins, Ending, IsStream}
use Rattle.wire.specs.Limits.{IsBytes}
use Rattle.wire.specs.Spelling.{spelling}
use Rattle.wire.proofs.StreamLaws.{one_stream}
use Rattle.wire.proofs.RunLaws.{begins_more}
use Rattle.pair_protocol.specs.Sides as sides
use Rattle.pair_protocol.specs.SlaveRun.{listed}
use Rattle.pair_meaning.specs.Monitors.{Monitor}
use Rattle.pair_meaning.specs.Serving.{serve}
use Rattle.pair_meaning.specs.Streams.{Stopped, Talk, serve_frames}
use Rattle.pair_runner.specs.Sending.{IsSpelled, given_in, sent_in, sent_of, reply_frame, reply_frames}
use Rattle.pair_runner.specs.Serves.{before, Serves, asks, goes_on}
use Rattle.pair_runner.specs.Bounds.{longest_frame, most_at_once}
use Rattle.pair_runner.specs.Outcomes.{Stops, BreaksOff}
use Rattle.pair_runner.proofs.Frames.{first_is, goes_first, talks_are_frames, talks_reply}
use Rattle.pair_runner.proofs.Moving.{given_append, given_reply, sent_append, sent_reply}
use Rattle.pair_runner.proofs.Received.{Received, none_received, nothing_short, received_frame, received_piece, received_whole}

-- the talk that led from the first monitor to this one, and what it begins
pub record SoFar (moves : List Event → List ℕ → Type 0) (m now : Monitor) (at : ℕ) (bytes : List ℕ) : Type 0 where
  pub talk : List Event
  pub written : List ℕ
  pub replies : List ReplyBody
  pub moved : moves talk written
  pub given : IsBytes (given_in talk)
  pub replied : sent_in talk ≡ reply_frames replies
  pub received : Received m now talk bytes
  pub serves : (more : List Event) (t : Talk) → Serves now at bytes more t → Serves m 0 [] (talk ++ more) (before written replies t)
  pub frames : (later : List ℕ) (frames : List (Message × ℕ)) (ending : Ending) → IsStream 0 (given_in talk ++ later) frames ending →
      (more : List (Message × ℕ)) × IsStream at (bytes ++ later) more ending × (serve_frames m frames ending ≡ before written replies (serve_frames now more ending))

pub begins : (moves : List Event → List ℕ → Type 0) (m : Monitor) → moves [] [] → SoFar moves m m 0 []
begins moves m none = record {
  talk = [];
  written = [];
  replies = [];
  moved = none;
  given = All-nil (λ b. b < 2 ^ 8);
  replied = refl;
  received = none_received m;
  serves = λ more t s. s;
  frames = λ later frames ending s. (frames, s, refl);
}

-- the same with what comes behind
abbrev pub Then : (List Event → List ℕ → Type 0) → (List Event → List ℕ → Type 0) → List Event → List ℕ → Type 0
Then moves moves' more bytes = (talk : List Event) (written : List ℕ) → moves talk written → moves' (talk ++ more) (written ++ bytes)

pub given_gave : (talk : List Event) (piece : List ℕ) → given_in (talk ++ gave piece ∷ []) ≡ given_in talk ++ piece
given_gave talk piece = given_append talk (gave piece ∷ []) ∙ ap (λ l. given_in talk ++ l) (append-nil piece)

pub hears : (moves moves' : List Event → List ℕ → Type 0) (m now : Monitor) (at : ℕ) (bytes piece : List ℕ) → SoFar moves m now at bytes →
    IsUnfinished bytes → piece ≢ [] → IsBytes piece → length piece ≤ most_at_once → Then moves moves' (gave piece ∷ []) [] → SoFar moves' m now at (bytes ++ piece)
hears moves moves' m now at bytes piece so cut some fits small step = record {
  talk = so.talk ++ gave piece ∷ [];
  written = so.written;
  replies = so.replies;
  moved = subst (moves' (so.talk ++ gave piece ∷ [])) (append-nil so.written) (step so.talk so.written so.moved);
  given = subst IsBytes (sym (given_gave so.talk piece)) (All-append (λ b. b < 2 ^ 8) (given_in so.talk) piece so.given fits);
  replied = sent_append so.talk (gave piece ∷ []) ∙ append-nil (sent_in so.talk) ∙ so.replied;
  received = received_piece m now so.talk (so.talk ++ gave piece ∷ []) bytes piece so.received cut small (ap length (given_gave so.talk piece) ∙ length-append (given_in so.talk) piece);
  serves = λ more t s. subst (λ (l : List Event). Serves m 0 [] l (before so.written so.replies t)) (sym (append_assoc so.talk (gave piece ∷ []) more)) (so.serves (gave piece ∷ more) t (asks cut some s));
  frames = λ later frames ending s.
      let found = so.frames (piece ++ later) frames ending (subst (λ l. IsStream 0 l frames ending) (ap (λ l. l ++ later) (given_gave so.talk piece) ∙ append_assoc (given_in so.talk) piece later) s) in
      (found.0, subst (λ l. IsStream at l found.0 ending) (sym (append_assoc bytes piece later)) found.1, found.2);
}

before_twice : (written out : List ℕ) (replies more : List ReplyBody) (t : Talk) → before (written ++ out) (replies ++ more) t ≡ before written replies (before out more t)
before_twice written out replies more t = λ i. record { bytes = append_assoc written out t.bytes i; replies = append_assoc replies more t.replies i; stopped = t.stopped }

given_sent : (talk : List Event) (reply : Option ReplyBody) → given_in (talk ++ sent_of reply) ≡ given_in talk
given_sent talk reply =
    ap (λ l. given_in (talk ++ l)) (sym (append-nil (sent_of reply))) ∙ given_append talk (sent_of reply ++ []) ∙ ap (λ l. given_in talk ++ l) (given_reply reply []) ∙ append-nil (given_in talk)

sent_sent : (talk : List Event) (reply : Option ReplyBody) → sent_in (talk ++ sent_of reply) ≡ sent_in talk ++ reply_frames (listed reply)
sent_sent talk reply =
    ap (λ l. sent_in (talk ++ l)) (sym (append-nil (sent_of reply))) ∙ sent_append talk (sent_of reply ++ [])
    ∙ ap (λ l. sent_in talk ++ l) (sent_reply reply [] ∙ append-nil (reply_frames (listed reply)))

pub serves_one : (moves moves' : List Event → List ℕ → Type 0) (m now next : Monitor) (at : ℕ) (bytes left out : List ℕ) (x : Message) (reply : Option ReplyBody) → SoFar moves m now at bytes →
    Begins x bytes left → serve now x ≡ sides.goes_on next reply out → IfSome reply IsSpelled → Then moves moves' (sent_of reply) out → SoFar moves' m next (at + length (spelling x)) left
serves_one moves moves' m now next at bytes left out x reply so b e spelled step = record {
  talk = so.talk ++ sent_of reply;
  written = so.written ++ out;
  replies = so.replies ++ listed reply;
  moved = step so.talk so.written so.moved;
  given = subst IsBytes (sym (given_sent so.talk reply)) so.given;
  received = received_frame m now next so.talk (so.talk ++ sent_of reply) bytes left out x reply so.received b e (ap length (given_sent so.talk reply));
  replied = sent_sent so.talk reply ∙ ap (λ l. l ++ reply_frames (listed reply)) so.replied ∙ sym (flat_map-append reply_frame so.replies (listed reply));
  serves = λ more t s.
      subst (λ (l : List Event). Serves m 0 [] l (before (so.written ++ out) (so.replies ++ listed reply) t)) (sym (append_assoc so.talk (sent_of reply) more))
      (subst (Serves m 0 [] (so.talk ++ (sent_of reply ++ more))) (sym (before_twice so.written out so.replies (listed reply) t))
      (so.serves (sent_of reply ++ more) (before out (listed reply) t) (goes_on b e spelled s)));
  frames = λ later frames ending s.
      let found = so.frames later frames ending (subst (λ l. IsStream 0 (l ++ later) frames ending) (given_sent so.talk reply) s) in
      let first = first_is x at (bytes ++ later) (left ++ later) found.0 ending (begins_more x bytes left later b) found.1 in (
        first.0,
        first.2,
        found.2 ∙ ap (before so.written so.replies) (ap (λ f. serve_frames now f ending) first.1 ∙ goes_first now next x at first.0 ending reply out e)
            ∙ sym (before_twice so.written out so.replies (listed reply) (serve_frames next first.0 ending)),
      );
}

-- ---- where it stops

-- nothing more was given
given_last : (talk last : List Event) → given_in last ≡ [] → length (given_in (talk ++ last)) ≡ length (given_in talk) + 0
given_last talk last none = ap length (given_append talk last) ∙ length-append (given_in talk) (given_in last) ∙ ap (λ (l : List ℕ). length (given_in talk) + length l) none

pub stops_at : (moves moves' : List Event → List ℕ → Type 0) (m now : Monitor) (at : ℕ) (bytes : List ℕ) (last : List Event) (t : Talk) (stopped : Stopped) → SoFar moves m now at bytes →
    Serves now at bytes last t → Then moves moves' last t.bytes → IsBytes (given_in last) → given_in last ≡ [] → t.stopped ≡ stopped → Stops moves' m stopped
stops_at moves moves' m now at bytes last t stopped so s step fits none is =
    let whole = so.serves last t s in
    let stream = one_stream (given_in (so.talk ++ last)) (subst IsBytes (sym (given_append so.talk last)) (All-append (λ b. b < 2 ^ 8) (given_in so.talk) (given_in last) so.given fits)) in
    record {
      talk = so.talk ++ last;
      served = before so.written so.replies t;
      moved = step so.talk so.written so.moved;
      serves = whole;
      replied = talks_reply m 0 [] (so.talk ++ last) (before so.written so.replies t) whole;
      few = received_whole m now so.talk bytes (given_in (so.talk ++ last)) [] so.received (given_last so.talk last none) (nothing_short m now so.talk bytes so.received);
      frames = stream.messages;
      ending = stream.ending;
      stream = stream.are;
      whole = talks_are_frames m 0 [] (so.talk ++ last) (before so.written so.replies t) stream.messages stream.ending whole stream.are;
      stop = is;
    }

-- what the rest comes to begins with these replies and bytes
pub record BeginsWith (sent out : List ℕ) (t : Talk) : Type 0 where
  pub more_sent : List ℕ
  pub more_out : List ℕ
  pub sends : reply_frames t.replies ≡ sent ++ more_sent
  pub writes : t.bytes ≡ out ++ more_out

pub begins_with_nothing : (t : Talk) → BeginsWith [] [] t
begins_with_nothing t = record { more_sent = reply_frames t.replies; more_out = t.bytes; sends = refl; writes = refl }

-- it broke off, having been given a piece, and sent and written a part of these
abbrev pub ThenBreaks : (List Event → List ℕ → Type 0) → (List ℕ → List ℕ → List ℕ → Type 0) → List ℕ → List ℕ → List ℕ → Type 0
ThenBreaks moves breaks piece sent out = (talk : List Event) (written more others : List ℕ) → moves talk written → breaks (given_in talk ++ piece) (sent_in talk ++ (sent ++ more)) (written ++ (out ++ others))

pub breaks_off : (moves : List Event → List ℕ → Type 0) (breaks : List ℕ → List ℕ → List ℕ → Type 0) (m now : Monitor) (at : ℕ) (bytes piece sent out : List ℕ) → SoFar moves m now at bytes → IsBytes piece → length (bytes ++ piece) ≤ longest_frame + most_at_once →
    ThenBreaks moves breaks piece sent out → ((more : List (Message × ℕ)) (ending : Ending) → IsStream at (bytes ++ piece) more ending → BeginsWith sent out (serve_frames now more ending)) → BreaksOff breaks m
breaks_off moves breaks m now at bytes piece sent out so fits short step front =
    let stream = one_stream (given_in so.talk ++ piece) (All-append (λ b. b < 2 ^ 8) (given_in so.talk) piece so.given fits) in
    let found = so.frames piece stream.messages stream.ending stream.are in
    let t = serve_frames now found.0 stream.ending in
    let begun = front found.0 stream.ending found.1 in
    let sent_is : sent_in so.talk ++ (sent ++ begun.more_sent) ≡ reply_frames (before so.written so.replies t).replies
    = ap (λ l. sent_in so.talk ++ l) (sym begun.sends) ∙ ap (λ l. l ++ reply_frames t.replies) so.replied ∙ sym (flat_map-append reply_frame so.replies t.replies) in
    let out_is : so.written ++ (out ++ begun.more_out) ≡ (before so.written so.replies t).bytes = ap (λ l. so.written ++ l) (sym begun.writes) in
    record {
      given = given_in so.talk ++ piece;
      few = received_whole m now so.talk bytes (given_in so.talk ++ piece) piece so.received (length-append (given_in so.talk) piece) short;
      frames = stream.messages;
      ending = stream.ending;
      stream = stream.are;
      broke = subst (λ (w : Talk). breaks (given_in so.talk ++ piece) (reply_frames w.replies) w.bytes) (sym found.2)
          (subst (λ l. breaks (given_in so.talk ++ piece) l (so.written ++ t.bytes)) sent_is
          (subst (λ l. breaks (given_in so.talk ++ piece) (sent_in so.talk ++ (sent ++ begun.more_sent)) l) out_is
          (step so.talk so.written begun.more_sent begun.more_out so.moved)));
    }
