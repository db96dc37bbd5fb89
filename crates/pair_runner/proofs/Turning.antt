-- What a turn makes of the talk so far, and how it ends.
use Rattle.std.proofs.Common.{◌≡◌, ◌<◌, ◌≤◌, ◌+◌, ◌^◌, ℕ, List, [], ◌∷◌, ◌++◌, length, Option, Some, None, Result, Ok, Err, refl, sym, ap, subst, ◌∙◌, append-nil, inl, inr}
use Rattle.std.proofs.lemmas.List.Elements.{All-nil}
use Rattle.pt_base.specs.declared.end.End.{End}
use Rattle.pt_base.specs.Talk.{Event, gave}
use Rattle.wire.specs.declared.message.Message.{Message}
use Rattle.wire.specs.declared.message.ReplyBody.{ReplyBody}
use Rattle.wire.specs.Frames.{IsUnfinished, Begins, Ending, IsStream}
use Rattle.wire.specs.Limits.{IsBytes}
use Rattle.wire.specs.Steps.{Takes}
use Rattle.wire.specs.View.{ReaderView}
use Rattle.pair_protocol.specs.Sides as sides
use Rattle.pair_protocol.specs.Sides.{Served}
use Rattle.pair_protocol.specs.SlaveRun.{listed}
use Rattle.pair_meaning.specs.Monitors.{Monitor}
use Rattle.pair_meaning.specs.Rules.{PeerRule, bad_frame, too_long}
use Rattle.pair_meaning.specs.Serving.{serve}
use Rattle.pair_meaning.specs.Streams.{Talk, still_open, at_end, at_rule, serve_frames}
use Rattle.pair_runner.specs.declared.fault.RunFault.{RunFault}
use Rattle.pair_runner.specs.declared.fault.RunFault.TheVariants.{LinkFailed, SinkFailed, BadPeer, PeerEnded, Memory}
use Rattle.pair_runner.specs.Sending.{given_in, sent_in, sent_of, reply_frames}
use Rattle.pair_runner.specs.Serves as run
use Rattle.pair_runner.specs.Serves.{stops, before, Serves, is_bad, is_too_long, hears_the_end}
use Rattle.pair_runner.specs.Bounds.{longest_frame, most_at_once}
use Rattle.pair_runner.specs.Outcomes.{Stops, BreaksOff, IsOutcome}
use Rattle.pair_runner.specs.Turns.{Stuck, Refused, Answered, Unfed, Turned}
use Rattle.pair_runner.proofs.Frames.{first_is, goes_first, ends_first}
use Rattle.pair_runner.proofs.Received.{nothing_short, piece_short}
use Rattle.pair_runner.proofs.SoFar.{SoFar, BeginsWith, begins_with_nothing, hears, serves_one, stops_at, breaks_off}
use Rattle.std.proofs.lemmas.Grind.{flat_map-append}
use Rattle.wire.proofs.RunLaws.{begins_more}

-- one talk behind the other
abbrev pub Joins : (List Event → List ℕ → Type 0) → (List Event → List ℕ → Type 0) → (List Event → List ℕ → Type 0) → Type 0
Joins moves next both = (talk : List Event) (bytes : List ℕ) (more : List Event) (others : List ℕ) → moves talk bytes → next more others → both (talk ++ more) (bytes ++ others)

abbrev pub JoinsBroken : (List Event → List ℕ → Type 0) → (List ℕ → List ℕ → List ℕ → Type 0) → (List ℕ → List ℕ → List ℕ → Type 0) → Type 0
JoinsBroken moves breaks both = (talk : List Event) (bytes given sent out more others : List ℕ) → moves talk bytes → breaks given sent out → both (given_in talk ++ given) (sent_in talk ++ (sent ++ more)) (bytes ++ (out ++ others))

-- where a loop is: the monitor that it has now, and the talk so far
pub record Now (moves : List Event → List ℕ → Type 0) (is : Monitor → Type 0) (m : Monitor) (view : ReaderView) : Type 0 where
  pub now : Monitor
  pub is_now : is now
  pub sound : view.fault ≡ None
  pub so : SoFar moves m now view.offset view.unread

pub no_bytes : IsBytes []
no_bytes = All-nil (λ b. b < 2 ^ 8)

ok_err : {A : Type 0} {T E : Type 0} (t : T) (e : E) → Ok t ≡ Err e → A
ok_err t e h = cc

abbrev SameResult : {T E : Type 0} → Result T E → Result T E → Type 0
SameResult x y = x ≡ y

err_is : {T E : Type 0} (e f : E) → SameResult {T = T} (Err e) (Err f) → e ≡ f
err_is e f h = cc

-- ---- the loop goes on

answered_on : (moves next both : List Event → List ℕ → Type 0) (breaks : List ℕ → List ℕ → List ℕ → Type 0) (is is' : Monitor → Type 0) (m : Monitor) (view view' : ReaderView) (x : Message) (place : ℕ) →
    Joins moves next both → (n : Now moves is m view) → Takes view (x, place) view' → (served : Served Monitor ReplyBody End PeerRule) → serve n.now x ≡ served → Answered next breaks is' place served (Ok None) → Now both is' m view'
answered_on moves next both breaks is is' m view view' x place joins n takes (sides.goes_on m' reply out) e (is_next, spelled, moved) = record {
  now = m';
  is_now = is_next;
  sound = takes.stays_sound;
  so = subst (λ at. SoFar both m m' at view'.unread) (sym takes.offset)
      (serves_one moves both m n.now m' view.offset view.unread view'.unread out x reply n.so takes.begins e spelled (λ talk bytes before. joins talk bytes (sent_of reply) out before moved));
}
answered_on moves next both breaks is is' m view view' x place joins n takes (sides.ends out end) e h = absurd h
answered_on moves next both breaks is is' m view view' x place joins n takes (sides.bad rule) e h = absurd h

pub turned_on : (moves next both : List Event → List ℕ → Type 0) (breaks : List ℕ → List ℕ → List ℕ → Type 0) (is is' : Monitor → Type 0) (m : Monitor) (view view' : ReaderView) →
    Joins moves next both → (n : Now moves is m view) → Turned next breaks is' n.now view view' (Ok None) → Now both is' m view'
turned_on moves next both breaks is is' m view view' joins n (inl s) =
    answered_on moves next both breaks is is' m view view' s.message s.place joins n s.takes (serve n.now s.message) refl s.answered
turned_on moves next both breaks is is' m view view' joins n (inr (inl (cut, is_same, (piece, some, fits, small, after, moved)))) =
    subst (Now both is' m) (sym after) (record {
      now = n.now;
      is_now = is_same;
      sound = n.sound;
      so = hears moves both m n.now view.offset view.unread piece n.so cut some fits small (λ talk bytes before. joins talk bytes (gave piece ∷ []) [] before moved);
    })
turned_on moves next both breaks is is' m view view' joins n (inr (inr (inl (e, bad, moved)))) = ok_err _ _ e
turned_on moves next both breaks is is' m view view' joins n (inr (inr (inr (inl (e, bad, moved))))) = ok_err _ _ e
turned_on moves next both breaks is is' m view view' joins n (inr (inr (inr (inr (e, broke))))) = ok_err _ _ e

-- ---- the run's end

answered_end : (moves next both : List Event → List ℕ → Type 0) (breaks : List ℕ → List ℕ → List ℕ → Type 0) (is is' : Monitor → Type 0) (m : Monitor) (view view' : ReaderView) (x : Message) (place : ℕ) (e : End) →
    Joins moves next both → (n : Now moves is m view) → Takes view (x, place) view' → (served : Served Monitor ReplyBody End PeerRule) → serve n.now x ≡ served → Answered next breaks is' place served (Ok (Some e)) → Stops both m (at_end e)
answered_end moves next both breaks is is' m view view' x place e joins n takes (sides.goes_on m' reply out) is_so h = absurd h
answered_end moves next both breaks is is' m view view' x place e joins n takes (sides.ends out end) is_so (same, moved) =
    stops_at moves both m n.now view.offset view.unread [] (stops out (at_end end)) (at_end e) n.so (run.ends takes.begins is_so) (λ talk bytes before. joins talk bytes [] out before moved) no_bytes refl (ap at_end (sym same))
answered_end moves next both breaks is is' m view view' x place e joins n takes (sides.bad rule) is_so h = absurd h

pub turned_end : (moves next both : List Event → List ℕ → Type 0) (breaks : List ℕ → List ℕ → List ℕ → Type 0) (is is' : Monitor → Type 0) (m : Monitor) (view view' : ReaderView) (e : End) →
    Joins moves next both → (n : Now moves is m view) → Turned next breaks is' n.now view view' (Ok (Some e)) → Stops both m (at_end e)
turned_end moves next both breaks is is' m view view' e joins n (inl s) =
    answered_end moves next both breaks is is' m view view' s.message s.place e joins n s.takes (serve n.now s.message) refl s.answered
turned_end moves next both breaks is is' m view view' e joins n (inr (inl (cut, is_same, heard))) = absurd heard
turned_end moves next both breaks is is' m view view' e joins n (inr (inr (inl (no', bad, moved)))) = ok_err _ _ no'
turned_end moves next both breaks is is' m view view' e joins n (inr (inr (inr (inl (no', bad, moved))))) = ok_err _ _ no'
turned_end moves next both breaks is is' m view view' e joins n (inr (inr (inr (inr (no', broke))))) = ok_err _ _ no'

-- ---- it breaks off

-- no more than a frame and a piece is there
abbrev pub HasRoom : ReaderView → List ℕ → Type 0
HasRoom view piece = length (view.unread ++ piece) ≤ longest_frame + most_at_once

pub room_for_none : (moves : List Event → List ℕ → Type 0) (is : Monitor → Type 0) (m : Monitor) (view : ReaderView) → (n : Now moves is m view) → HasRoom view []
room_for_none moves is m view n = nothing_short m n.now n.so.talk view.unread n.so.received

-- the monitor broke off at what it has to write and send for a message
pub broke_at : (moves : List Event → List ℕ → Type 0) (breaks all : List ℕ → List ℕ → List ℕ → Type 0) (is : Monitor → Type 0) (m : Monitor) (view : ReaderView) (piece sent out : List ℕ) →
    JoinsBroken moves breaks all → (n : Now moves is m view) → IsBytes piece → HasRoom view piece → breaks piece sent out →
    ((more : List (Message × ℕ)) (ending : Ending) → IsStream view.offset (view.unread ++ piece) more ending → BeginsWith sent out (serve_frames n.now more ending)) → BreaksOff all m
broke_at moves breaks all is m view piece sent out joins n fits short broke front =
    breaks_off moves all m n.now view.offset view.unread piece sent out n.so fits short (λ talk written more others before. joins talk written piece sent out more others before broke) front

pub broke_idle : (moves : List Event → List ℕ → Type 0) (breaks all : List ℕ → List ℕ → List ℕ → Type 0) (is : Monitor → Type 0) (m : Monitor) (view : ReaderView) (piece : List ℕ) →
    JoinsBroken moves breaks all → (n : Now moves is m view) → IsBytes piece → HasRoom view piece → breaks piece [] [] → BreaksOff all m
broke_idle moves breaks all is m view piece joins n fits short broke =
    broke_at moves breaks all is m view piece [] [] joins n fits short broke (λ more ending s. begins_with_nothing (serve_frames n.now more ending))

stuck_is : (moves : List Event → List ℕ → Type 0) (all : List ℕ → List ℕ → List ℕ → Type 0) (m : Monitor) (P : Type 0) (e : RunFault) → (P → BreaksOff all m) → Stuck e P → IsOutcome moves all m (Err e)
stuck_is moves all m P LinkFailed f h = f h
stuck_is moves all m P SinkFailed f h = f h
stuck_is moves all m P (BadPeer number offset) f h = absurd h
stuck_is moves all m P PeerEnded f h = absurd h
stuck_is moves all m P Memory f h = f h

-- what serving the frames comes to begins with what the first of them brings
goes_begins : (m next : Monitor) (x : Message) (at : ℕ) (bytes left out : List ℕ) (reply : Option ReplyBody) → Begins x bytes left → serve m x ≡ sides.goes_on next reply out →
    (more : List (Message × ℕ)) (ending : Ending) → IsStream at (bytes ++ []) more ending → BeginsWith (reply_frames (listed reply)) out (serve_frames m more ending)
goes_begins m next x at bytes left out reply b e more ending s =
    let first = first_is x at (bytes ++ []) (left ++ []) more ending (begins_more x bytes left [] b) s in
    let t = serve_frames next first.0 ending in
    let is : serve_frames m more ending ≡ before out (listed reply) t = ap (λ f. serve_frames m f ending) first.1 ∙ goes_first m next x at first.0 ending reply out e in
    record {
      more_sent = reply_frames t.replies;
      more_out = t.bytes;
      sends = ap (λ (w : Talk). reply_frames w.replies) is ∙ flat_map-append _ (listed reply) t.replies;
      writes = ap (λ (w : Talk). w.bytes) is;
    }

ends_begins : (m : Monitor) (x : Message) (at : ℕ) (bytes left out : List ℕ) (end : End) → Begins x bytes left → serve m x ≡ sides.ends out end →
    (more : List (Message × ℕ)) (ending : Ending) → IsStream at (bytes ++ []) more ending → BeginsWith [] out (serve_frames m more ending)
ends_begins m x at bytes left out end b e more ending s =
    let first = first_is x at (bytes ++ []) (left ++ []) more ending (begins_more x bytes left [] b) s in
    let is : serve_frames m more ending ≡ stops out (at_end end) = ap (λ f. serve_frames m f ending) first.1 ∙ ends_first m x at first.0 ending out end e in
    record {
      more_sent = [];
      more_out = [];
      sends = ap (λ (w : Talk). reply_frames w.replies) is;
      writes = ap (λ (w : Talk). w.bytes) is ∙ sym (append-nil out);
    }

refused_is : (moves next both : List Event → List ℕ → Type 0) (breaks all : List ℕ → List ℕ → List ℕ → Type 0) (is : Monitor → Type 0) (m : Monitor) (view view' : ReaderView) (x : Message) (place : ℕ) (rule : PeerRule) (e : RunFault) →
    Joins moves next both → JoinsBroken moves breaks all → (n : Now moves is m view) → Takes view (x, place) view' → serve n.now x ≡ sides.bad rule → Refused next breaks place rule e → IsOutcome both all m (Err e)
refused_is moves next both breaks all is m view view' x place rule LinkFailed joins broken n takes is_so h = absurd h
refused_is moves next both breaks all is m view view' x place rule SinkFailed joins broken n takes is_so h = absurd h
refused_is moves next both breaks all is m view view' x place rule (BadPeer number offset) joins broken n takes is_so (named, there, moved) = (
  rule,
  named,
  stops_at moves both m n.now view.offset view.unread [] (stops [] (at_rule rule view.offset)) (at_rule rule offset) n.so (run.breaks takes.begins is_so) (λ talk bytes before. joins talk bytes [] [] before moved) no_bytes refl
      (ap (at_rule rule) (sym takes.place ∙ sym there)),
)
refused_is moves next both breaks all is m view view' x place rule PeerEnded joins broken n takes is_so h = absurd h
refused_is moves next both breaks all is m view view' x place rule Memory joins broken n takes is_so h = broke_idle moves breaks all is m view [] broken n no_bytes (room_for_none moves is m view n) h

answered_err : (moves next both : List Event → List ℕ → Type 0) (breaks all : List ℕ → List ℕ → List ℕ → Type 0) (is is' : Monitor → Type 0) (m : Monitor) (view view' : ReaderView) (x : Message) (place : ℕ) (e : RunFault) →
    Joins moves next both → JoinsBroken moves breaks all → (n : Now moves is m view) → Takes view (x, place) view' → (served : Served Monitor ReplyBody End PeerRule) → serve n.now x ≡ served → Answered next breaks is' place served (Err e) →
    IsOutcome both all m (Err e)
answered_err moves next both breaks all is is' m view view' x place e joins broken n takes (sides.goes_on m' reply out) is_so h =
    stuck_is both all m (breaks [] (reply_frames (listed reply)) out) e
    (λ broke. broke_at moves breaks all is m view [] (reply_frames (listed reply)) out broken n no_bytes (room_for_none moves is m view n) broke (goes_begins n.now m' x view.offset view.unread view'.unread out reply takes.begins is_so)) h
answered_err moves next both breaks all is is' m view view' x place e joins broken n takes (sides.ends out end) is_so h =
    stuck_is both all m (breaks [] [] out) e
    (λ broke. broke_at moves breaks all is m view [] [] out broken n no_bytes (room_for_none moves is m view n) broke (ends_begins n.now x view.offset view.unread view'.unread out end takes.begins is_so)) h
answered_err moves next both breaks all is is' m view view' x place e joins broken n takes (sides.bad rule) is_so h =
    refused_is moves next both breaks all is m view view' x place rule e joins broken n takes is_so h

unfed_is : (moves next both : List Event → List ℕ → Type 0) (breaks all : List ℕ → List ℕ → List ℕ → Type 0) (is : Monitor → Type 0) (m : Monitor) (view : ReaderView) (e : RunFault) →
    Joins moves next both → JoinsBroken moves breaks all → (n : Now moves is m view) → IsUnfinished view.unread → Unfed next breaks e → IsOutcome both all m (Err e)
unfed_is moves next both breaks all is m view LinkFailed joins broken n cut h = broke_idle moves breaks all is m view [] broken n no_bytes (room_for_none moves is m view n) h
unfed_is moves next both breaks all is m view SinkFailed joins broken n cut h = absurd h
unfed_is moves next both breaks all is m view (BadPeer number offset) joins broken n cut h = absurd h
unfed_is moves next both breaks all is m view PeerEnded joins broken n cut h =
    stops_at moves both m n.now view.offset view.unread (gave [] ∷ []) (stops [] still_open) still_open n.so (hears_the_end cut) (λ talk bytes before. joins talk bytes (gave [] ∷ []) [] before h) no_bytes refl refl
unfed_is moves next both breaks all is m view Memory joins broken n cut (piece, fits, small, broke) =
    broke_idle moves breaks all is m view piece broken n fits (piece_short view.unread piece cut small) broke

-- a fault of the front is the rule's
faulty_is : (moves next both : List Event → List ℕ → Type 0) (all : List ℕ → List ℕ → List ℕ → Type 0) (is : Monitor → Type 0) (m : Monitor) (view : ReaderView) (rule : PeerRule) →
    Joins moves next both → (n : Now moves is m view) → Serves n.now view.offset view.unread [] (stops [] (at_rule rule view.offset)) → next [] [] → Stops both m (at_rule rule view.offset)
faulty_is moves next both all is m view rule joins n s moved =
    stops_at moves both m n.now view.offset view.unread [] (stops [] (at_rule rule view.offset)) (at_rule rule view.offset) n.so s (λ talk bytes before. joins talk bytes [] [] before moved) no_bytes refl refl

pub turned_err : (moves next both : List Event → List ℕ → Type 0) (breaks all : List ℕ → List ℕ → List ℕ → Type 0) (is is' : Monitor → Type 0) (m : Monitor) (view view' : ReaderView) (e : RunFault) →
    Joins moves next both → JoinsBroken moves breaks all → (n : Now moves is m view) → Turned next breaks is' n.now view view' (Err e) → IsOutcome both all m (Err e)
turned_err moves next both breaks all is is' m view view' e joins broken n (inl s) =
    answered_err moves next both breaks all is is' m view view' s.message s.place e joins broken n s.takes (serve n.now s.message) refl s.answered
turned_err moves next both breaks all is is' m view view' e joins broken n (inr (inl (cut, is_same, unfed))) = unfed_is moves next both breaks all is m view e joins broken n cut unfed
turned_err moves next both breaks all is is' m view view' e joins broken n (inr (inr (inl (is_so, bad, moved)))) =
    subst (λ (f : RunFault). IsOutcome both all m (Err f)) (sym (err_is {T = Option End} e (BadPeer 1 view.offset) is_so)) (bad_frame, refl, faulty_is moves next both all is m view bad_frame joins n (is_bad bad) moved)
turned_err moves next both breaks all is is' m view view' e joins broken n (inr (inr (inr (inl (is_so, long, moved))))) =
    subst (λ (f : RunFault). IsOutcome both all m (Err f)) (sym (err_is {T = Option End} e (BadPeer 2 view.offset) is_so)) (too_long, refl, faulty_is moves next both all is m view too_long joins n (is_too_long long) moved)
turned_err moves next both breaks all is is' m view view' e joins broken n (inr (inr (inr (inr (is_so, broke))))) =
    subst (λ (f : RunFault). IsOutcome both all m (Err f)) (sym (err_is {T = Option End} e Memory is_so)) (broke_idle moves breaks all is m view [] broken n no_bytes (room_for_none moves is m view n) broke)
