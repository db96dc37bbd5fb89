-- The boot is read.
use Rattle.std.proofs.Common.{◌≡◌, ◌==◌, ℕ, List, [], ◌∷◌, ◌++◌, length, Bool, true, Option, Some, None, Ok, Err, refl, sym, ap, subst, ◌∙◌, append_assoc, append-nil, arith, inl}
use Rattle.std.proofs.lemmas.Bool.{eqb-true}
use Rattle.std.proofs.lemmas.List.Elements.{All-append}
use Rattle.std.specs.Prelude.{◌<◌, ◌^◌}
use Rattle.pt_base.specs.Talk.{Event, gave}
use Rattle.wire.specs.declared.message.Message.{Message}
use Rattle.wire.specs.Frames.{IsUnfinished, BeginsBad, BeginsTooLong, Ending, open_end, bad_frame_at, too_long_at, Stops, IsStream}
use Rattle.wire.specs.Limits.{IsBytes}
use Rattle.wire.specs.Steps.{Takes}
use Rattle.wire.specs.View.{ReaderView, fresh}
use Rattle.wire.proofs.StreamLaws.{one_stream, streams_once}
use Rattle.wire.proofs.RunLaws.{begins_more}
use Rattle.pair_runner.specs.Sending.{given_in, sent_in}
use Rattle.pair_runner.proofs.Frames.{first_is}
use Rattle.pair_runner.proofs.SoFar.{given_gave}
use Rattle.pair_runner.proofs.Turning.{no_bytes}
use Rattle.slave_runner.specs.declared.fault.WorkFault.{WorkFault}
use Rattle.slave_runner.specs.declared.fault.WorkFault.TheVariants.{LinkFailed, BadPeer, PeerEnded, Memory}
use Rattle.boots.specs.declared.fault.BootError.{BootError}
use Rattle.boots.specs.declared.fault.BootError.TheVariants as boot
use Rattle.boot_rules.specs.Answers.{IsGoodBootOf}
use Rattle.slave_runner.specs.Faults.{of_boot}
use Rattle.slave_runner.specs.Comes.{IsNoBoot, IsOpen, ComesBy}
use Rattle.slave_runner.specs.Fronts.{Fed, IsFront, Unfed, Pieced}
use Rattle.slave_runner.specs.Outcomes as outcome
use Rattle.slave_runner.specs.Outcomes.{BreaksOff, IsRefused}
use Rattle.slave_runner.specs.Reading.{Pieces, whole, stops, before_boot, piece_in, read_piece, read_pieces}
use Rattle.slave_runner.specs.Rules.{Stopped, still_open, at_rule, too_long, bad_boot}
use Rattle.slave_runner.specs.SoFar.{Talked, Follow, Begun, Whole, Read}
use Rattle.slave_runner.proofs.TalkLemmas.{Joins, JoinsParts, sent_gave, talked_none, talked_gave}

-- ---- frames at the front

-- the frames of what the reader has, where none of them is whole
pub no_frames : (at : ℕ) (bytes : List ℕ) (more : List (Message × ℕ)) (ending last : Ending) → Stops last at bytes → IsStream at (bytes ++ []) more ending → (more ≡ []) × (ending ≡ last)
no_frames at bytes more ending last s stream = streams_once more [] ending last at bytes (subst (λ l. IsStream at l more ending) (append-nil bytes) stream) s

-- the same where the first is taken
pub takes_frames : (v v' : ReaderView) (m : Message) (place : ℕ) (later : List ℕ) (more : List (Message × ℕ)) (ending : Ending) → Takes v (m, place) v' → IsStream v.offset (v.unread ++ later) more ending →
    (others : List (Message × ℕ)) × (more ≡ (m, v.offset) ∷ others) × IsStream v'.offset (v'.unread ++ later) others ending
takes_frames v v' m place later more ending t s =
    let first = first_is m v.offset (v.unread ++ later) (v'.unread ++ later) more ending (begins_more m v.unread v'.unread later t.begins) s in
    (first.0, first.1, subst (λ at. IsStream at (v'.unread ++ later) first.0 ending) (sym t.offset) first.2)

-- ---- pieces

pub begun_none : (talks : List Event → Type 0) → talks [] → Begun talks [] fresh
begun_none talks none = record {
  talk = [];
  so = talked_none talks none;
  sound = refl;
  silent = refl;
  follow = λ later frames ending s. (frames, s, refl);
}

-- what was given stops so, where the rest does
comes_stopped : (ending : Ending) (p : Pieces) (why : Stopped) (sent : List ℕ) → p ≡ stops why → sent ≡ [] → ComesBy ending p sent why
comes_stopped ending p why sent e silent = subst (λ q. ComesBy ending q sent why) (sym e) (silent, refl)

abbrev Front : List ℕ → ReaderView → Stopped → Type 0
Front bytes v why = (more : List (Message × ℕ)) (ending : Ending) → IsStream v.offset (v.unread ++ []) more ending → read_pieces bytes more ending ≡ stops why

begun_stops : (talks : List Event → Type 0) (bytes : List ℕ) (v : ReaderView) (why : Stopped) → Begun talks bytes v → Front bytes v why → (both : List Event → Type 0) → ((talk : List Event) → talks talk → both talk) → outcome.Stops both why
begun_stops talks bytes v why so front both to =
    let stream = one_stream (given_in so.talk) so.so.given in
    let found = so.follow [] stream.messages stream.ending (subst (λ l. IsStream 0 l stream.messages stream.ending) (sym (append-nil (given_in so.talk))) stream.are) in
    record {
      talk = so.talk;
      talked = to so.talk so.so.talked;
      turns = so.so.turns;
      frames = stream.messages;
      ending = stream.ending;
      stream = stream.are;
      comes = comes_stopped stream.ending (read_pieces [] stream.messages stream.ending) why (sent_in so.talk) (found.2 ∙ front found.0 stream.ending found.1) so.silent;
    }

front_open : (bytes : List ℕ) (v : ReaderView) → IsUnfinished v.unread → Front bytes v still_open
front_open bytes v cut more ending s =
    let none = no_frames v.offset v.unread more ending open_end cut s in
    ap (λ l. read_pieces bytes l ending) none.0 ∙ ap (λ e. stops (before_boot e)) none.1

front_long : (bytes : List ℕ) (v : ReaderView) → BeginsTooLong v.unread → Front bytes v (at_rule too_long v.offset)
front_long bytes v long more ending s =
    let none = no_frames v.offset v.unread more ending (too_long_at v.offset) (refl, long) s in
    ap (λ l. read_pieces bytes l ending) none.0 ∙ ap (λ e. stops (before_boot e)) none.1

front_bad : (bytes : List ℕ) (v : ReaderView) → BeginsBad v.unread → Front bytes v (at_rule bad_boot 0)
front_bad bytes v bad more ending s =
    let none = no_frames v.offset v.unread more ending (bad_frame_at v.offset) (refl, bad) s in
    ap (λ l. read_pieces bytes l ending) none.0 ∙ ap (λ e. stops (before_boot e)) none.1

-- the first frame is read
read_first : (bytes : List ℕ) (m : Message) (at : ℕ) (others : List (Message × ℕ)) (ending : Ending) (piece : Option (List ℕ)) → piece_in m ≡ piece →
    read_pieces bytes ((m, at) ∷ others) ending ≡ read_piece bytes piece others (λ more. read_pieces more others ending)
read_first bytes m at others ending piece e = ap (λ p. read_piece bytes p others (λ more. read_pieces more others ending)) e

front_other : (bytes : List ℕ) (v v' : ReaderView) (m : Message) (place : ℕ) → Takes v (m, place) v' → piece_in m ≡ None → Front bytes v (at_rule bad_boot 0)
front_other bytes v v' m place t none more ending s =
    let first = takes_frames v v' m place [] more ending t s in
    ap (λ l. read_pieces bytes l ending) first.1 ∙ read_first bytes m v.offset first.0 ending None none

-- ---- bytes come

begun_open : (talks : List Event → Type 0) (bytes : List ℕ) (v : ReaderView) (so : Begun talks bytes v) → IsUnfinished v.unread → IsOpen (given_in so.talk) (sent_in so.talk)
begun_open talks bytes v so cut =
    let stream = one_stream (given_in so.talk) so.so.given in
    let found = so.follow [] stream.messages stream.ending (subst (λ l. IsStream 0 l stream.messages stream.ending) (sym (append-nil (given_in so.talk))) stream.are) in
    record {
      frames = stream.messages;
      ending = stream.ending;
      stream = stream.are;
      comes = comes_stopped stream.ending (read_pieces [] stream.messages stream.ending) still_open (sent_in so.talk) (found.2 ∙ front_open bytes v cut found.0 stream.ending found.1) so.silent;
    }

-- what follows behind a piece more
pub follow_fed : {A : Type 0} (talk : List Event) (piece : List ℕ) (v v' : ReaderView) (all left : List (Message × ℕ) → Ending → A) → v' ≡ record v { unread = v.unread ++ piece } → Follow talk v all left →
    Follow (talk ++ gave piece ∷ []) v' all left
follow_fed talk piece v v' all left is f later frames ending s =
    let found = f (piece ++ later) frames ending (subst (λ l. IsStream 0 l frames ending) (ap (λ l. l ++ later) (given_gave talk piece) ∙ append_assoc (given_in talk) piece later) s) in
    (found.0, subst (λ (w : ReaderView). IsStream w.offset (w.unread ++ later) found.0 ending) (sym is) (subst (λ l. IsStream v.offset l found.0 ending) (sym (append_assoc v.unread piece later)) found.1), found.2)

pub begun_hears : (talks next both : List Event → Type 0) (bytes : List ℕ) (v v' : ReaderView) → Joins talks next both → Begun talks bytes v → IsUnfinished v.unread → Fed next v v' → Begun both bytes v'
begun_hears talks next both bytes v v' joins so cut (piece, some, fits, is, moved) = record {
  talk = so.talk ++ gave piece ∷ [];
  so = talked_gave talks next both so.talk piece joins so.so (begun_open talks bytes v so cut) some fits moved;
  sound = ap (λ (w : ReaderView). w.fault) is ∙ so.sound;
  silent = sent_gave so.talk piece ∙ so.silent;
  follow = follow_fed so.talk piece v v' (read_pieces []) (read_pieces bytes) is so.follow;
}

-- ---- a frame is read

pub begun_adds : (talks : List Event → Type 0) (bytes : List ℕ) (v v' : ReaderView) (m : Message) (place b : ℕ) (piece : List ℕ) → Begun talks bytes v → Takes v (m, place) v' → piece_in m ≡ Some (b ∷ piece) →
    Begun talks (bytes ++ b ∷ piece) v'
begun_adds talks bytes v v' m place b piece so t is = record {
  talk = so.talk;
  so = so.so;
  sound = t.stays_sound;
  silent = so.silent;
  follow = λ later frames ending s.
      let found = so.follow later frames ending s in
      let first = takes_frames v v' m place later found.0 ending t found.1 in
      (first.0, first.2, found.2 ∙ ap (λ l. read_pieces bytes l ending) first.1 ∙ read_first bytes m v.offset first.0 ending (Some (b ∷ piece)) is);
}

pub begun_ends : (talks : List Event → Type 0) (bytes : List ℕ) (v v' : ReaderView) (m : Message) (place : ℕ) → Begun talks bytes v → Takes v (m, place) v' → piece_in m ≡ Some [] → Whole talks bytes v'
begun_ends talks bytes v v' m place so t is = record {
  talk = so.talk;
  so = so.so;
  sound = t.stays_sound;
  silent = so.silent;
  follow = λ later frames ending s.
      let found = so.follow later frames ending s in
      let first = takes_frames v v' m place later found.0 ending t found.1 in
      (first.0, first.2, found.2 ∙ ap (λ l. read_pieces bytes l ending) first.1 ∙ read_first bytes m v.offset first.0 ending (Some []) is);
}

-- ---- it breaks off

unsaid : (sent : List ℕ) → sent ≡ [] → sent ++ ([] ++ []) ≡ []
unsaid sent e = ap (λ l. l ++ []) e

broke_silent : (talks : List Event → Type 0) (next all : List ℕ → List ℕ → Type 0) (talk : List Event) (piece : List ℕ) → JoinsParts talks next all → Talked talks talk → sent_in talk ≡ [] → IsBytes piece → next piece [] → BreaksOff all
broke_silent talks next all talk piece joins so silent fits broke =
    let stream = one_stream (given_in talk ++ piece) (All-append (λ b. b < 2 ^ 8) (given_in talk) piece so.given fits) in
    record {
      given = given_in talk ++ piece;
      frames = stream.messages;
      ending = stream.ending;
      stream = stream.are;
      broke = inl (subst (all (given_in talk ++ piece)) (unsaid (sent_in talk) silent) (joins talk piece [] [] so.talked broke));
    }

pub begun_breaks : (talks : List Event → Type 0) (next all : List ℕ → List ℕ → Type 0) (bytes : List ℕ) (v : ReaderView) (piece : List ℕ) → JoinsParts talks next all → Begun talks bytes v → IsBytes piece → next piece [] → BreaksOff all
begun_breaks talks next all bytes v piece joins so fits broke = broke_silent talks next all so.talk piece joins so.so so.silent fits broke

pub whole_breaks : (talks : List Event → Type 0) (next all : List ℕ → List ℕ → Type 0) (bytes : List ℕ) (v : ReaderView) → JoinsParts talks next all → Whole talks bytes v → next [] [] → BreaksOff all
whole_breaks talks next all bytes v joins so broke = broke_silent talks next all so.talk [] joins so.so so.silent no_bytes broke

-- ---- refusals

abbrev Same : (List Event → Type 0) → Type 0
Same talks = (talk : List Event) → talks talk → talks talk

same : (talks : List Event → Type 0) → Same talks
same talks talk t = t

-- the reader's
pub begun_refused : (talks : List Event → Type 0) (next all : List ℕ → List ℕ → Type 0) (bytes : List ℕ) (v v' : ReaderView) (e : WorkFault) → JoinsParts talks next all → next [] [] → Begun talks bytes v → IsFront v (Err e) v' → IsRefused talks all e
begun_refused talks next all bytes v v' LinkFailed joins idle so f = absurd f
begun_refused talks next all bytes v v' (BadPeer number place) joins idle so (named, there, long) =
    (too_long, named, subst (λ at. outcome.Stops talks (at_rule too_long at)) (sym there) (begun_stops talks bytes v (at_rule too_long v.offset) so (front_long bytes v long) talks (same talks)))
begun_refused talks next all bytes v v' PeerEnded joins idle so f = absurd f
begun_refused talks next all bytes v v' Memory joins idle so f = begun_breaks talks next all bytes v [] joins so no_bytes idle

-- the link's
pub begun_unfed : (talks next both : List Event → Type 0) (parts all : List ℕ → List ℕ → Type 0) (bytes : List ℕ) (v : ReaderView) (e : WorkFault) → Joins talks next both → JoinsParts talks parts all → Begun talks bytes v → IsUnfinished v.unread →
    Unfed next parts e → IsRefused both all e
begun_unfed talks next both parts all bytes v LinkFailed joins broken so cut h = begun_breaks talks parts all bytes v [] broken so no_bytes h
begun_unfed talks next both parts all bytes v (BadPeer number place) joins broken so cut h = absurd h
begun_unfed talks next both parts all bytes v PeerEnded joins broken so cut h =
    begun_stops talks bytes v still_open so (front_open bytes v cut) (outcome.then_the_end both) (λ talk t. joins talk (gave [] ∷ []) t h)
begun_unfed talks next both parts all bytes v Memory joins broken so cut (piece, fits, h) = begun_breaks talks parts all bytes v piece broken so fits h

-- a frame that spells no message
pub begun_bad : (talks : List Event → Type 0) (all : List ℕ → List ℕ → Type 0) (bytes : List ℕ) (v : ReaderView) → Begun talks bytes v → BeginsBad v.unread → IsRefused talks all (BadPeer 11 0)
begun_bad talks all bytes v so bad = (bad_boot, refl, begun_stops talks bytes v (at_rule bad_boot 0) so (front_bad bytes v bad) talks (same talks))

begun_other : (talks : List Event → Type 0) (all : List ℕ → List ℕ → Type 0) (bytes : List ℕ) (v v' : ReaderView) (m : Message) (place : ℕ) → Begun talks bytes v → Takes v (m, place) v' → piece_in m ≡ None → IsRefused talks all (BadPeer 11 0)
begun_other talks all bytes v v' m place so t none = (bad_boot, refl, begun_stops talks bytes v (at_rule bad_boot 0) so (front_other bytes v v' m place t none) talks (same talks))

-- a message
pub pieced_read : (talks : List Event → Type 0) (bytes after : List ℕ) (v v' : ReaderView) (m : Message) (place : ℕ) (piece : Option (List ℕ)) (done : Bool) → Begun talks bytes v → Takes v (m, place) v' → piece_in m ≡ piece →
    Pieced piece bytes after (Ok done) → Read done talks after v'
pieced_read talks bytes after v v' m place None done so t is h = absurd h
pieced_read talks bytes after v v' m place (Some []) done so t is (all, same_bytes) =
    subst (λ d. Read d talks after v') (sym all) (subst (λ l. Whole talks l v') (sym same_bytes) (begun_ends talks bytes v v' m place so t is))
pieced_read talks bytes after v v' m place (Some (b ∷ piece)) done so t is (more, longer) =
    subst (λ d. Read d talks after v') (sym more) (subst (λ l. Begun talks l v') (sym longer) (begun_adds talks bytes v v' m place b piece so t is))

pub pieced_refused : (talks : List Event → Type 0) (next all : List ℕ → List ℕ → Type 0) (bytes after : List ℕ) (v v' : ReaderView) (m : Message) (place : ℕ) (piece : Option (List ℕ)) (e : WorkFault) → JoinsParts talks next all → next [] [] →
    Begun talks bytes v → Takes v (m, place) v' → piece_in m ≡ piece → Pieced piece bytes after (Err e) → IsRefused talks all e
pieced_refused talks next all bytes after v v' m place None e joins idle so t is h = subst (IsRefused talks all) (sym h) (begun_other talks all bytes v v' m place so t is)
pieced_refused talks next all bytes after v v' m place (Some []) e joins idle so t is h = absurd h
pieced_refused talks next all bytes after v v' m place (Some (b ∷ piece)) e joins idle so t is h = subst (IsRefused talks all) (sym h) (begun_breaks talks next all bytes v [] joins so no_bytes idle)

-- ---- the boot is whole

comes_bare : (ending : Ending) (p : Pieces) (bytes : List ℕ) (behind : List (Message × ℕ)) (sent : List ℕ) → p ≡ whole bytes behind → IsNoBoot bytes → sent ≡ [] → ComesBy ending p sent (at_rule bad_boot 0)
comes_bare ending p bytes behind sent e none silent = subst (λ q. ComesBy ending q sent (at_rule bad_boot 0)) (sym e) (inl (none, silent, refl))

pub whole_bad : (talks : List Event → Type 0) (all : List ℕ → List ℕ → Type 0) (bytes : List ℕ) (v : ReaderView) → Whole talks bytes v → IsNoBoot bytes → IsRefused talks all (BadPeer 11 0)
whole_bad talks all bytes v so none =
    let stream = one_stream (given_in so.talk) so.so.given in
    let found = so.follow [] stream.messages stream.ending (subst (λ l. IsStream 0 l stream.messages stream.ending) (sym (append-nil (given_in so.talk))) stream.are) in (
      bad_boot,
      refl,
      record {
        talk = so.talk;
        talked = so.so.talked;
        turns = so.so.turns;
        frames = stream.messages;
        ending = stream.ending;
        stream = stream.are;
        comes = comes_bare stream.ending (read_pieces [] stream.messages stream.ending) bytes found.0 (sent_in so.talk) found.2 none so.silent;
      },
    )

pub boot_refused : (talks : List Event → Type 0) (next all : List ℕ → List ℕ → Type 0) (bytes : List ℕ) (v : ReaderView) (f : BootError) → JoinsParts talks next all → next [] [] → Whole talks bytes v → IsGoodBootOf bytes (Err f) → IsRefused talks all (of_boot f)
boot_refused talks next all bytes v boot.BadBoot joins idle so none = whole_bad talks all bytes v so none
boot_refused talks next all bytes v boot.Memory joins idle so none = whole_breaks talks next all bytes v joins so idle

-- ---- what adding a piece comes to

pub empty_so : (b : Bool) (p : List ℕ) → b ≡ (length p == 0) → b ≡ true → p ≡ []
empty_so b [] e t = refl
empty_so b (x ∷ p) e t = let none : length (x ∷ p) ≡ 0 = eqb-true (length (x ∷ p)) 0 (sym e ∙ t) in absurd (omega (arith, none))

pub pieced_empty : (b : Bool) (p old : List ℕ) → b ≡ (length p == 0) → b ≡ true → Pieced (Some p) old old (Ok true)
pieced_empty b p old e t = subst (λ (l : List ℕ). Pieced (Some l) old old (Ok true)) (sym (empty_so b p e t)) (refl, refl)
