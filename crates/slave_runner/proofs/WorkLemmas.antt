-- The slave runs.
use Rattle.std.proofs.Common.{◌≡◌, ◌≤◌, ℕ, ◌+◌, List, [], ◌∷◌, ◌++◌, Bool, true, false, Option, Some, None, Ok, Err, refl, sym, ap, subst, ◌∙◌, append_assoc, append-nil, inl, inr}
use Rattle.std.proofs.lemmas.List.Elements.{All-append}
use Rattle.std.proofs.lemmas.Grind.{flat_map-append}
use Rattle.std.specs.Prelude.{◌<◌, ◌^◌, if◌then◌else◌}
use Rattle.pt_base.specs.Talk.{Event, gave}
use Rattle.wire.specs.declared.message.Message.{Message}
use Rattle.wire.specs.declared.message.ReplyBody.{ReplyBody}
use Rattle.wire.specs.Frames.{IsUnfinished, BeginsBad, BeginsTooLong, Ending, open_end, bad_frame_at, too_long_at, IsStream}
use Rattle.wire.specs.Limits.{IsBytes}
use Rattle.wire.specs.Spelling.{spelling}
use Rattle.wire.specs.Steps.{Takes}
use Rattle.wire.specs.View.{ReaderView}
use Rattle.wire.proofs.StreamLaws.{one_stream}
use Rattle.pt_core.specs.CodeTree.{BootTree}
use Rattle.pair_protocol.specs.Sides.{Mode, going, waits, over}
use Rattle.pair_protocol.specs.SlaveRun as run
use Rattle.pair_protocol.specs.SlaveRun.{At, Ready, came, listed}
use Rattle.pair_protocol.proofs.OrderSlaveFacts.{one_reply, ready_none, said_grows}
use Rattle.pair_meaning.specs.Pair.{said, slave_at, the_sides}
use Rattle.pair_meaning.specs.Peer.{is_awaited}
use Rattle.pair_meaning.specs.SlaveRun.{Slave, longest, may_take, mode_of, slave_of, take}
use Rattle.pair_meaning.proofs.Fair.{the_sides_are_fair}
use Rattle.pair_meaning.proofs.Stops.{slaves_stop}
use Rattle.pair_runner.specs.Sending.{given_in, sent_in}
use Rattle.pair_runner.proofs.SoFar.{given_gave}
use Rattle.pair_runner.proofs.Turning.{no_bytes}
use Rattle.slave_runner.specs.declared.fault.WorkFault.{WorkFault}
use Rattle.slave_runner.specs.declared.fault.WorkFault.TheVariants.{LinkFailed, BadPeer, PeerEnded, Memory}
use Rattle.slave_runner.specs.Comes.{IsBoot, IsOpen, ComesBy, spellings}
use Rattle.slave_runner.specs.Faults.{Stuck}
use Rattle.slave_runner.specs.Fronts.{Fed, IsFront, Unfed}
use Rattle.slave_runner.specs.Outcomes as outcome
use Rattle.slave_runner.specs.Outcomes.{BreaksOff, IsRefused}
use Rattle.slave_runner.specs.Reading.{Pieces, whole, read_pieces}
use Rattle.slave_runner.specs.Replies.{Heard, behind_boot, hear_replies, hear_reply, heard, is_wait, is_waiting, reply_of, slave_with}
use Rattle.slave_runner.specs.Rules.{Stopped, has_ended, still_open, at_rule, too_long, bad_reply}
use Rattle.slave_runner.specs.Saying.{BrokeOff, WentOn, sending}
use Rattle.slave_runner.specs.SoFar.{Whole, Working, WorksOn}
use Rattle.slave_runner.specs.Taking.{Taken}
use Rattle.slave_runner.proofs.BootLemmas.{no_frames, takes_frames}
use Rattle.slave_runner.proofs.RunLemmas.{Makes, few_made, more_steps, rests_at}
use Rattle.slave_runner.proofs.TalkLemmas.{Joins, JoinsParts, sent_gave, given_sending, sent_sending, talked_gave, talked_sent}

-- ---- the slave's steps

pub begins_there : (b : BootTree) → slave_at b [] 0 ≡ came (slave_of b) [] [] 0
begins_there b = ap (λ (c : Ready Slave ReplyBody). came c.slave [] c.left 0) (ready_none the_sides (slave_of b))

pub none_made : (x : Slave) → run.slave_at the_sides 0 x [] ≡ came x [] [] 0
none_made x = ap (λ (c : Ready Slave ReplyBody). came c.slave [] c.left 0) (ready_none the_sides x)

pub few : (b : BootTree) (replies : List ReplyBody) (steps : ℕ) (x : Slave) (messages : List Message) → slave_at b replies steps ≡ came x messages [] steps → steps ≤ longest b
few b replies steps x messages e = few_made the_sides (longest b) steps (slave_of b) replies x messages (slaves_stop b).bound e

-- what it said is a first part of what it says
pub said_first : (b : BootTree) (replies : List ReplyBody) (steps : ℕ) (x : Slave) (messages : List Message) → slave_at b replies steps ≡ came x messages [] steps → (rest : List Message) × (said b replies ≡ messages ++ rest)
said_first b replies steps x messages e =
    let first = said_grows the_sides steps (longest b) (slave_of b) replies (few b replies steps x messages e) in
    (first.0, first.1 ∙ ap (λ (a : At Slave Message ReplyBody). a.said ++ first.0) e)

not_going : (m : Mode) → m ≡ waits → m ≡ going → ⊥
not_going m e f = waits_going (sym e ∙ f)
  where
    waits_going : waits ≡ going → ⊥
    waits_going h = cc

over_not_going : (m : Mode) → m ≡ over → m ≡ going → ⊥
over_not_going m e f = over_going (sym e ∙ f)
  where
    over_going : over ≡ going → ⊥
    over_going h = cc

-- where it goes no further it is the slave with these replies, and has said all
rests_there : (b : BootTree) (replies : List ReplyBody) (steps : ℕ) (x : Slave) (messages : List Message) → slave_at b replies steps ≡ came x messages [] steps → (mode_of x ≡ going → ⊥) → slave_at b replies (longest b) ≡ came x messages [] steps
rests_there b replies steps x messages e stopped = rests_at the_sides (longest b) steps (slave_of b) replies x messages (few b replies steps x messages e) e stopped

-- ---- a boot's slave begins

pub work_begins : (talks : List Event → Type 0) (bytes : List ℕ) (v : ReaderView) (b : BootTree) → Whole talks bytes v → IsBoot bytes b → Working talks b (slave_of b) [] v
work_begins talks bytes v b so is = record {
  talk = so.talk;
  so = so.so;
  sound = so.sound;
  bytes = bytes;
  boot = is;
  steps = 0;
  replies = [];
  messages = [];
  came_to = begins_there b;
  sends = append-nil (sent_in so.talk) ∙ so.silent;
  follow = λ later frames ending s. let found = so.follow later frames ending s in (found.0, found.0, found.1, found.2, refl);
}

-- ---- it goes on

pub made_by : (made : ℕ) (x to : Slave) (o : Option Message) → run.slave_at the_sides made x [] ≡ came to (listed o) [] made → Makes made to (listed o) (run.slave_at the_sides made x [])
made_by made x to o e = record { slave_is = ap (λ (a : At Slave Message ReplyBody). a.slave) e; said_is = ap (λ (a : At Slave Message ReplyBody). a.said) e; made_is = ap (λ (a : At Slave Message ReplyBody). a.made) e }

-- it said this, which waits
works_said : (talks : List Event → Type 0) (b : BootTree) (x to : Slave) (waiting : List ℕ) (v : ReaderView) (made : ℕ) (o : Option Message) → Working talks b x waiting v → run.slave_at the_sides made x [] ≡ came to (listed o) [] made →
    Working talks b to (waiting ++ spellings (listed o)) v
works_said talks b x to waiting v made o so e = record {
  talk = so.talk;
  so = so.so;
  sound = so.sound;
  bytes = so.bytes;
  boot = so.boot;
  steps = so.steps + made;
  replies = so.replies;
  messages = so.messages ++ listed o;
  came_to = more_steps the_sides made so.steps (slave_of b) so.replies x to so.messages (listed o) so.came_to (made_by made x to o e);
  sends = sym (append_assoc (sent_in so.talk) waiting (spellings (listed o))) ∙ ap (λ l. l ++ spellings (listed o)) so.sends ∙ sym (flat_map-append spelling so.messages (listed o));
  follow = so.follow;
}

-- the first of what waits is sent
works_sent : (talks next both : List Event → Type 0) (b : BootTree) (x : Slave) (waiting bytes after : List ℕ) (v : ReaderView) → Joins talks next both → Working talks b x waiting v → next (sending bytes) → bytes ++ after ≡ waiting → Working both b x after v
works_sent talks next both b x waiting bytes after v joins so moved is = record {
  talk = so.talk ++ sending bytes;
  so = talked_sent talks next both so.talk bytes joins so.so moved;
  sound = so.sound;
  bytes = so.bytes;
  boot = so.boot;
  steps = so.steps;
  replies = so.replies;
  messages = so.messages;
  came_to = so.came_to;
  sends = ap (λ l. l ++ after) (sent_sending so.talk bytes) ∙ append_assoc (sent_in so.talk) bytes after ∙ ap (λ l. sent_in so.talk ++ l) is ∙ so.sends;
  follow = λ later frames ending s. so.follow later frames ending (subst (λ l. IsStream 0 (l ++ later) frames ending) (given_sending so.talk bytes) s);
}

pub works_on : (talks next both : List Event → Type 0) (is : Slave → Type 0) (b : BootTree) (x : Slave) (waiting after : List ℕ) (v : ReaderView) → Joins talks next both → Working talks b x waiting v → WentOn next is x waiting after → WorksOn both is b after v
works_on talks next both is b x waiting after v joins so w = (
  w.to,
  w.there,
  works_sent talks next both b w.to (waiting ++ spellings (listed w.said)) w.gathered.bytes after v joins (works_said talks b x w.to waiting v w.made w.said so w.came_to) w.gathered.talked w.gathered.waits,
)

-- all that waits is sent
pub works_all : (talks next both : List Event → Type 0) (b : BootTree) (x : Slave) (waiting after : List ℕ) (v : ReaderView) → Joins talks next both → Working talks b x waiting v → next (sending waiting) → after ≡ [] → Working both b x after v
works_all talks next both b x waiting after v joins so moved none = works_sent talks next both b x waiting waiting after v joins so moved (ap (λ l. waiting ++ l) none ∙ append-nil waiting)

-- ---- where it stops

comes_run : (ending : Ending) (p : Pieces) (bytes : List ℕ) (behind : List (Message × ℕ)) (b : BootTree) (replies : List ReplyBody) (sent : List ℕ) (why : Stopped) → p ≡ whole bytes behind → IsBoot bytes b →
    hear_replies b [] behind ending ≡ heard replies why → sent ≡ spellings (said b replies) → ComesBy ending p sent why
comes_run ending p bytes behind b replies sent why e is h says =
    subst (λ q. ComesBy ending q sent why) (sym e) (inr (
      b,
      is,
      record {
        says = says ∙ ap (λ (w : Heard). spellings (said b w.replies)) (sym h);
        stop = ap (λ (w : Heard). w.stopped) (sym h);
      },
    ))

abbrev Front : BootTree → List ReplyBody → ReaderView → Stopped → Type 0
Front b replies v why = (more : List (Message × ℕ)) (ending : Ending) → IsStream v.offset (v.unread ++ []) more ending → hear_replies b replies more ending ≡ heard replies why

-- all that is said was sent
all_sent : (talks : List Event → Type 0) (b : BootTree) (x : Slave) (v : ReaderView) (so : Working talks b x [] v) → (mode_of x ≡ going → ⊥) → sent_in so.talk ≡ spellings (said b so.replies)
all_sent talks b x v so stopped =
    sym (append-nil (sent_in so.talk)) ∙ so.sends ∙ ap (λ (a : At Slave Message ReplyBody). spellings a.said) (sym (rests_there b so.replies so.steps x so.messages so.came_to stopped))

works_stops : (talks : List Event → Type 0) (b : BootTree) (x : Slave) (v : ReaderView) (why : Stopped) (so : Working talks b x [] v) → (mode_of x ≡ going → ⊥) → Front b so.replies v why → (both : List Event → Type 0) → ((talk : List Event) → talks talk → both talk) →
    outcome.Stops both why
works_stops talks b x v why so stopped front both to =
    let stream = one_stream (given_in so.talk) so.so.given in
    let found = so.follow [] stream.messages stream.ending (subst (λ l. IsStream 0 l stream.messages stream.ending) (sym (append-nil (given_in so.talk))) stream.are) in
    record {
      talk = so.talk;
      talked = to so.talk so.so.talked;
      turns = so.so.turns;
      frames = stream.messages;
      ending = stream.ending;
      stream = stream.are;
      comes = comes_run stream.ending (read_pieces [] stream.messages stream.ending) so.bytes found.1 b so.replies (sent_in so.talk) why found.3 so.boot (found.4 ∙ front found.0 stream.ending found.2) (all_sent talks b x v so stopped);
    }

-- the slave with these replies is this one
with_is : (talks : List Event → Type 0) (b : BootTree) (x : Slave) (waiting : List ℕ) (v : ReaderView) (so : Working talks b x waiting v) → (mode_of x ≡ going → ⊥) → slave_with b so.replies ≡ x
with_is talks b x waiting v so stopped = ap (λ (a : At Slave Message ReplyBody). a.slave) (rests_there b so.replies so.steps x so.messages so.came_to stopped)

waits_with : (talks : List Event → Type 0) (b : BootTree) (x : Slave) (waiting : List ℕ) (v : ReaderView) (so : Working talks b x waiting v) → mode_of x ≡ waits → is_waiting (slave_with b so.replies) ≡ true
waits_with talks b x waiting v so m = ap is_waiting (with_is talks b x waiting v so (not_going (mode_of x) m)) ∙ ap is_wait m

ends_with : (talks : List Event → Type 0) (b : BootTree) (x : Slave) (waiting : List ℕ) (v : ReaderView) (so : Working talks b x waiting v) → mode_of x ≡ over → is_waiting (slave_with b so.replies) ≡ false
ends_with talks b x waiting v so m = ap is_waiting (with_is talks b x waiting v so (over_not_going (mode_of x) m)) ∙ ap is_wait m

-- ---- what stands at the front

hears_none : (b : BootTree) (replies : List ReplyBody) (ending : Ending) → is_waiting (slave_with b replies) ≡ true → hear_replies b replies [] ending ≡ heard replies (behind_boot ending)
hears_none b replies ending w = ap (λ t. heard replies (if t then behind_boot ending else has_ended)) w

front_stops : (b : BootTree) (replies : List ReplyBody) (v : ReaderView) (last : Ending) → is_waiting (slave_with b replies) ≡ true → Rattle.wire.specs.Frames.Stops last v.offset v.unread → Front b replies v (behind_boot last)
front_stops b replies v last w s more ending stream =
    let none = no_frames v.offset v.unread more ending last s stream in
    ap (λ l. hear_replies b replies l ending) none.0 ∙ hears_none b replies ending w ∙ ap (λ e. heard replies (behind_boot e)) none.1

hears_first : (b : BootTree) (replies : List ReplyBody) (m : Message) (at : ℕ) (others : List (Message × ℕ)) (ending : Ending) (reply : Option ReplyBody) → is_waiting (slave_with b replies) ≡ true → reply_of m ≡ reply →
    hear_replies b replies ((m, at) ∷ others) ending ≡ hear_reply b replies at reply (λ more. hear_replies b more others ending)
hears_first b replies m at others ending reply w e =
    ap (λ t. if t then hear_reply b replies at (reply_of m) (λ more. hear_replies b more others ending) else heard replies has_ended) w
    ∙ ap (λ (o : Option ReplyBody). hear_reply b replies at o (λ more. hear_replies b more others ending)) e

front_no_reply : (b : BootTree) (replies : List ReplyBody) (v v' : ReaderView) (m : Message) (place : ℕ) → is_waiting (slave_with b replies) ≡ true → Takes v (m, place) v' → reply_of m ≡ None → Front b replies v (at_rule bad_reply place)
front_no_reply b replies v v' m place w t none more ending s =
    let first = takes_frames v v' m place [] more ending t s in
    ap (λ l. hear_replies b replies l ending) first.1 ∙ hears_first b replies m v.offset first.0 ending None w none ∙ ap (λ at. heard replies (at_rule bad_reply at)) (sym t.place)

front_unawaited : (b : BootTree) (replies : List ReplyBody) (v v' : ReaderView) (m : Message) (place : ℕ) (reply : ReplyBody) → is_waiting (slave_with b replies) ≡ true → Takes v (m, place) v' → reply_of m ≡ Some reply → is_awaited (slave_with b replies) reply ≡ false →
    Front b replies v (at_rule bad_reply place)
front_unawaited b replies v v' m place reply w t is no' more ending s =
    let first = takes_frames v v' m place [] more ending t s in
    ap (λ l. hear_replies b replies l ending) first.1 ∙ hears_first b replies m v.offset first.0 ending (Some reply) w is
    ∙ ap (λ a. if a then hear_replies b (replies ++ reply ∷ []) first.0 ending else heard replies (at_rule bad_reply v.offset)) no'
    ∙ ap (λ at. heard replies (at_rule bad_reply at)) (sym t.place)

front_over : (b : BootTree) (replies : List ReplyBody) (v : ReaderView) → is_waiting (slave_with b replies) ≡ false → Front b replies v has_ended
front_over b replies v w [] ending s = ap (λ t. heard replies (if t then behind_boot ending else has_ended)) w
front_over b replies v w (x ∷ more) ending s = ap (λ t. if t then hear_reply b replies x.1 (reply_of x.0) (λ rs. hear_replies b rs more ending) else heard replies has_ended) w

-- ---- bytes come

works_open : (talks : List Event → Type 0) (b : BootTree) (x : Slave) (v : ReaderView) (so : Working talks b x [] v) → mode_of x ≡ waits → IsUnfinished v.unread → IsOpen (given_in so.talk) (sent_in so.talk)
works_open talks b x v so m cut =
    let stream = one_stream (given_in so.talk) so.so.given in
    let found = so.follow [] stream.messages stream.ending (subst (λ l. IsStream 0 l stream.messages stream.ending) (sym (append-nil (given_in so.talk))) stream.are) in
    record {
      frames = stream.messages;
      ending = stream.ending;
      stream = stream.are;
      comes = comes_run stream.ending (read_pieces [] stream.messages stream.ending) so.bytes found.1 b so.replies (sent_in so.talk) still_open found.3 so.boot
          (found.4 ∙ front_stops b so.replies v open_end (waits_with talks b x [] v so m) cut found.0 stream.ending found.2) (all_sent talks b x v so (not_going (mode_of x) m));
    }

pub works_hears : (talks next both : List Event → Type 0) (b : BootTree) (x : Slave) (v v' : ReaderView) → Joins talks next both → Working talks b x [] v → mode_of x ≡ waits → IsUnfinished v.unread → Fed next v v' → Working both b x [] v'
works_hears talks next both b x v v' joins so m cut (piece, some, fits, is, moved) = record {
  talk = so.talk ++ gave piece ∷ [];
  so = talked_gave talks next both so.talk piece joins so.so (works_open talks b x v so m cut) some fits moved;
  sound = ap (λ (w : ReaderView). w.fault) is ∙ so.sound;
  bytes = so.bytes;
  boot = so.boot;
  steps = so.steps;
  replies = so.replies;
  messages = so.messages;
  came_to = so.came_to;
  sends = ap (λ l. l ++ []) (sent_gave so.talk piece) ∙ so.sends;
  follow = λ later frames ending s.
      let found = so.follow (piece ++ later) frames ending (subst (λ l. IsStream 0 l frames ending) (ap (λ l. l ++ later) (given_gave so.talk piece) ∙ append_assoc (given_in so.talk) piece later) s) in
      (found.0, found.1, subst (λ (w : ReaderView). IsStream w.offset (w.unread ++ later) found.0 ending) (sym is) (subst (λ l. IsStream v.offset l found.0 ending) (sym (append_assoc v.unread piece later)) found.2), found.3, found.4);
}

-- ---- a reply is taken

works_takes : (talks : List Event → Type 0) (b : BootTree) (x : Slave) (v v' : ReaderView) (m : Message) (place : ℕ) (reply : ReplyBody) → Working talks b x [] v → mode_of x ≡ waits → Takes v (m, place) v' → reply_of m ≡ Some reply → may_take x x.doing reply ≡ true →
    Working talks b (take reply x) [] v'
works_takes talks b x v v' m place reply so w t is may = record {
  talk = so.talk;
  so = so.so;
  sound = t.stays_sound;
  bytes = so.bytes;
  boot = so.boot;
  steps = so.steps;
  replies = so.replies ++ reply ∷ [];
  messages = so.messages;
  came_to = one_reply the_sides the_sides_are_fair reply so.steps (slave_of b) so.replies x so.messages so.came_to w;
  sends = so.sends;
  follow = λ later frames ending s.
      let found = so.follow later frames ending s in
      let first = takes_frames v v' m place later found.0 ending t found.2 in (
        first.0,
        found.1,
        first.2,
        found.3,
        found.4 ∙ ap (λ l. hear_replies b so.replies l ending) first.1 ∙ hears_first b so.replies m v.offset first.0 ending (Some reply) (waits_with talks b x [] v so w) is
            ∙ ap (λ a. if a then hear_replies b (so.replies ++ reply ∷ []) first.0 ending else heard so.replies (at_rule bad_reply v.offset))
            (ap (λ y. is_awaited y reply) (with_is talks b x [] v so (not_going (mode_of x) w)) ∙ may),
      );
}

pub taken_works : {T : Type 0} (talks : List Event → Type 0) (is : Slave → Type 0) (b : BootTree) (x : Slave) (v v' : ReaderView) (m : Message) (place : ℕ) (reply : Option ReplyBody) (done : T) → Working talks b x [] v → mode_of x ≡ waits →
    Takes v (m, place) v' → reply_of m ≡ reply → Taken x reply place is (Ok done) → WorksOn talks is b [] v'
taken_works talks is b x v v' m place None done so w t e h = absurd h
taken_works talks is b x v v' m place (Some reply) done so w t e (may, there) = (take reply x, there, works_takes talks b x v v' m place reply so w t e may)

-- ---- it breaks off

-- the replies that are taken come first
abbrev BeginsWith : List ReplyBody → Heard → Type 0
BeginsWith replies h = (later : List ReplyBody) × (h.replies ≡ replies ++ later)

no_more : (replies : List ReplyBody) (why : Stopped) → BeginsWith replies (heard replies why)
no_more replies why = ([], sym (append-nil replies))

one_more : (replies : List ReplyBody) (reply : ReplyBody) (h : Heard) (why : Stopped) → BeginsWith (replies ++ reply ∷ []) h → (a : Bool) → BeginsWith replies (if a then h else heard replies why)
one_more replies reply h why (later, is) true = (reply ∷ later, is ∙ append_assoc replies (reply ∷ []) later)
one_more replies reply h why more false = no_more replies why

hears_one : (b : BootTree) (replies : List ReplyBody) (place : ℕ) (o : Option ReplyBody) (more : List ReplyBody → Heard) → ((rs : List ReplyBody) → BeginsWith rs (more rs)) → (w : Bool) → BeginsWith replies (if w then hear_reply b replies place o more else heard replies has_ended)
hears_one b replies place o more others false = no_more replies has_ended
hears_one b replies place None more others true = no_more replies (at_rule bad_reply place)
hears_one b replies place (Some reply) more others true =
    one_more replies reply (more (replies ++ reply ∷ [])) (at_rule bad_reply place) (others (replies ++ reply ∷ [])) (is_awaited (slave_with b replies) reply)

hears_more : (b : BootTree) (replies : List ReplyBody) (frames : List (Message × ℕ)) (ending : Ending) → BeginsWith replies (hear_replies b replies frames ending)
hears_more b replies [] ending = no_more replies (if is_waiting (slave_with b replies) then behind_boot ending else has_ended)
hears_more b replies (f ∷ frames) ending =
    hears_one b replies f.1 (reply_of f.0) (λ rs. hear_replies b rs frames ending) (λ rs. hears_more b rs frames ending) (is_waiting (slave_with b replies))

part_behind : (sent waiting messages rest : List ℕ) → sent ++ waiting ≡ messages → sent ++ (waiting ++ rest) ≡ messages ++ rest
part_behind sent waiting messages rest e = sym (append_assoc sent waiting rest) ∙ ap (λ l. l ++ rest) e

pub works_breaks : (talks : List Event → Type 0) (next all : List ℕ → List ℕ → Type 0) (b : BootTree) (x : Slave) (waiting : List ℕ) (v : ReaderView) (piece : List ℕ) → JoinsParts talks next all → Working talks b x waiting v → IsBytes piece → next piece waiting → BreaksOff all
works_breaks talks next all b x waiting v piece joins so fits broke =
    let stream = one_stream (given_in so.talk ++ piece) (All-append (λ c. c < 2 ^ 8) (given_in so.talk) piece so.so.given fits) in
    let found = so.follow piece stream.messages stream.ending stream.are in
    let first = said_first b so.replies so.steps x so.messages so.came_to in
    let later = hears_more b so.replies found.0 stream.ending in
    record {
      given = given_in so.talk ++ piece;
      frames = stream.messages;
      ending = stream.ending;
      stream = stream.are;
      broke = inr (record {
        bytes = so.bytes;
        behind = found.1;
        pieces = found.3;
        boot = b;
        is_boot = so.boot;
        replies = so.replies;
        later = later.0;
        read = ap (λ (w : Heard). w.replies) found.4 ∙ later.1;
        sent = subst (all (given_in so.talk ++ piece))
            (part_behind (sent_in so.talk) waiting (spellings so.messages) (spellings first.0) so.sends ∙ sym (flat_map-append spelling so.messages first.0) ∙ ap spellings (sym first.1))
            (joins so.talk piece waiting (spellings first.0) so.so.talked broke);
      });
    }

-- ---- refusals

abbrev Same : (List Event → Type 0) → Type 0
Same talks = (talk : List Event) → talks talk → talks talk

same : (talks : List Event → Type 0) → Same talks
same talks talk t = t

-- the reader's
pub works_refused : (talks : List Event → Type 0) (next all : List ℕ → List ℕ → Type 0) (b : BootTree) (x : Slave) (v v' : ReaderView) (e : WorkFault) → JoinsParts talks next all → next [] [] → Working talks b x [] v → mode_of x ≡ waits → IsFront v (Err e) v' →
    IsRefused talks all e
works_refused talks next all b x v v' LinkFailed joins idle so m f = absurd f
works_refused talks next all b x v v' (BadPeer number place) joins idle so m (named, there, long) = (
  too_long,
  named,
  subst (λ at. outcome.Stops talks (at_rule too_long at)) (sym there)
      (works_stops talks b x v (at_rule too_long v.offset) so (not_going (mode_of x) m) (front_stops b so.replies v (too_long_at v.offset) (waits_with talks b x [] v so m) (refl, long)) talks (same talks)),
)
works_refused talks next all b x v v' PeerEnded joins idle so m f = absurd f
works_refused talks next all b x v v' Memory joins idle so m f = works_breaks talks next all b x [] v [] joins so no_bytes idle

-- the link's
pub works_unfed : (talks next both : List Event → Type 0) (parts all : List ℕ → List ℕ → Type 0) (b : BootTree) (x : Slave) (v : ReaderView) (e : WorkFault) → Joins talks next both → JoinsParts talks parts all → Working talks b x [] v → mode_of x ≡ waits →
    IsUnfinished v.unread → Unfed next parts e → IsRefused both all e
works_unfed talks next both parts all b x v LinkFailed joins broken so m cut h = works_breaks talks parts all b x [] v [] broken so no_bytes h
works_unfed talks next both parts all b x v (BadPeer number place) joins broken so m cut h = absurd h
works_unfed talks next both parts all b x v PeerEnded joins broken so m cut h =
    works_stops talks b x v still_open so (not_going (mode_of x) m) (front_stops b so.replies v open_end (waits_with talks b x [] v so m) cut) (outcome.then_the_end both) (λ talk t. joins talk (gave [] ∷ []) t h)
works_unfed talks next both parts all b x v Memory joins broken so m cut (piece, fits, h) = works_breaks talks parts all b x [] v piece broken so fits h

-- a frame that spells no message
pub works_bad : (talks : List Event → Type 0) (all : List ℕ → List ℕ → Type 0) (b : BootTree) (x : Slave) (v : ReaderView) (place : ℕ) → Working talks b x [] v → mode_of x ≡ waits → BeginsBad v.unread → place ≡ v.offset → IsRefused talks all (BadPeer 12 place)
works_bad talks all b x v place so m bad there = (
  bad_reply,
  refl,
  subst (λ at. outcome.Stops talks (at_rule bad_reply at)) (sym there)
      (works_stops talks b x v (at_rule bad_reply v.offset) so (not_going (mode_of x) m) (front_stops b so.replies v (bad_frame_at v.offset) (waits_with talks b x [] v so m) (refl, bad)) talks (same talks)),
)

-- a message
pub taken_refused : (T : Type 0) (talks : List Event → Type 0) (next all : List ℕ → List ℕ → Type 0) (is : Slave → Type 0) (b : BootTree) (x : Slave) (v v' : ReaderView) (m : Message) (place : ℕ) (reply : Option ReplyBody) (e : WorkFault) → JoinsParts talks next all → next [] [] →
    Working talks b x [] v → mode_of x ≡ waits → Takes v (m, place) v' → reply_of m ≡ reply → Taken {T = T} x reply place is (Err e) → IsRefused talks all e
taken_refused T talks next all is b x v v' m place None e joins idle so w t r h =
    subst (IsRefused talks all) (sym h) (bad_reply, refl, works_stops talks b x v (at_rule bad_reply place) so (not_going (mode_of x) w) (front_no_reply b so.replies v v' m place (waits_with talks b x [] v so w) t r) talks (same talks))
taken_refused T talks next all is b x v v' m place (Some reply) e joins idle so w t r (inl memory) = subst (IsRefused talks all) (sym memory) (works_breaks talks next all b x [] v [] joins so no_bytes idle)
taken_refused T talks next all is b x v v' m place (Some reply) e joins idle so w t r (inr (bad, never)) =
    subst (IsRefused talks all) (sym bad) (
      bad_reply,
      refl,
      works_stops talks b x v (at_rule bad_reply place) so (not_going (mode_of x) w)
          (front_unawaited b so.replies v v' m place reply (waits_with talks b x [] v so w) t r (ap (λ y. is_awaited y reply) (with_is talks b x [] v so (not_going (mode_of x) w)) ∙ never)) talks (same talks),
    )

stuck_is : (talks : List Event → Type 0) (all : List ℕ → List ℕ → Type 0) (P : Type 0) (e : WorkFault) → (P → BreaksOff all) → Stuck e P → IsRefused talks all e
stuck_is talks all P LinkFailed f h = f h
stuck_is talks all P (BadPeer number place) f h = absurd h
stuck_is talks all P PeerEnded f h = absurd h
stuck_is talks all P Memory f h = f h

-- where what waits is sent
pub works_unsent : (talks both : List Event → Type 0) (next all : List ℕ → List ℕ → Type 0) (b : BootTree) (x : Slave) (waiting : List ℕ) (v : ReaderView) (e : WorkFault) → JoinsParts talks next all → Working talks b x waiting v → Stuck e (next [] waiting) → IsRefused both all e
works_unsent talks both next all b x waiting v e joins so h = stuck_is both all (next [] waiting) e (λ broke. works_breaks talks next all b x waiting v [] joins so no_bytes broke) h

-- where the slave goes on
pub works_broke : (talks both : List Event → Type 0) (next all : List ℕ → List ℕ → Type 0) (b : BootTree) (x : Slave) (waiting : List ℕ) (v : ReaderView) (e : WorkFault) → JoinsParts talks next all → Working talks b x waiting v → Stuck e (BrokeOff (next []) x waiting) →
    IsRefused both all e
works_broke talks both next all b x waiting v e joins so h =
    stuck_is both all (BrokeOff (next []) x waiting) e
    (λ w. works_breaks talks next all b w.to (waiting ++ spellings (listed w.said)) v [] joins (works_said talks b x w.to waiting v w.made w.said so w.came_to) no_bytes w.sent) h

-- ---- the end

pub works_over : (talks : List Event → Type 0) (b : BootTree) (x : Slave) (v : ReaderView) → Working talks b x [] v → mode_of x ≡ over → outcome.Stops talks has_ended
works_over talks b x v so m = works_stops talks b x v has_ended so (over_not_going (mode_of x) m) (front_over b so.replies v (ends_with talks b x [] v so m)) talks (same talks)
