-- Each list of bytes is one stream of messages.
use Rattle.std.proofs.Common.{◌≡◌, ℕ, zero, suc, ◌+◌, ◌<◌, ◌≤◌, List, [], ◌∷◌, ◌++◌, length, take, drop, Option, Some, None, ◌⊎◌, refl, sym, ap, subst, ◌∙◌, arith, inl, inr}
use Rattle.std.specs.Int.{w32}
use Rattle.std.proofs.lemmas.Bool.{cases_lt}
use Rattle.std.proofs.lemmas.List.{append-nil, length-append}
use Rattle.wire.specs.declared.message.Message.{Message}
use Rattle.wire.specs.Spelling.{four_bytes, payload, spelling}
use Rattle.wire.specs.Limits.{longest_payload, IsBytes, Spells}
use Rattle.wire.specs.Frames.{IsUnfinished, HoldsFrame, BeginsTooLong, Begins, Ending, open_end, bad_frame_at, too_long_at, Stops, IsStream}
use Rattle.wire.specs.Reading.{Field, number_at, payload_of}
use Rattle.wire.specs.Laws.{OneSpelling, OneStream}
use Rattle.wire.proofs.Bytes.{AreBytes, AreBytes-right, AreBytes-from}
use Rattle.wire.proofs.Front.{unfinished, too_long, framed, framed_by, found_too_long, found_cut, found_bad, found_message, unfinished_is, too_long_is, frame_is, message_is, bad_is_no_message, number_none_short}
use Rattle.wire.proofs.Sizes.{length-four_bytes}

-- ---- spellings

pub one_spelling : (m : Message) → OneSpelling m
one_spelling m = record {
  some = λ fits keeps. (spelling m, record { fits = fits; keeps = keeps; are = refl });
  only = λ a b s t. s.are ∙ sym t.are;
  none = λ a s. (s.fits, s.keeps);
}

begins_whole : (m : Message) (bytes more : List ℕ) → Spells m bytes → Begins m (bytes ++ more) more
begins_whole m bytes more s = record { spelled = record { fits = s.fits; keeps = s.keeps; are = refl }; are = ap (λ x. x ++ more) s.are }

-- two messages at one front
pub same_message : (m k : Message) (bytes x y : List ℕ) → Begins m bytes x → Begins k bytes y → (m ≡ k) × (x ≡ y)
same_message m k bytes x y b d =
    let both : framed m x ≡ framed k y = sym (message_is m bytes x b) ∙ message_is k bytes y d in
    (cc, cc)

pub one_reading : (m k : Message) (bytes : List ℕ) → Spells m bytes → Spells k bytes → m ≡ k
one_reading m k bytes s t = (same_message m k (bytes ++ []) [] [] (begins_whole m bytes [] s) (begins_whole k bytes [] t)).0

pub none_begins_another : (m k : Message) (bytes more : List ℕ) → Spells m bytes → Spells k (bytes ++ more) → more ≡ []
none_begins_another m k bytes more s t =
    let whole : Begins k (bytes ++ more) [] = subst (λ x. Begins k x []) (append-nil (bytes ++ more)) (begins_whole k (bytes ++ more) [] t) in
    (same_message m k (bytes ++ more) more [] (begins_whole m bytes more s) whole).1

-- ---- where there is no message

framed_by_not_unfinished : (r : Option Message) (rest : List ℕ) → framed_by r rest ≡ unfinished → ⊥
unfolding framed_by
framed_by_not_unfinished None rest e = cc
framed_by_not_unfinished (Some m) rest e = cc

framed_by_not_too_long : (r : Option Message) (rest : List ℕ) → framed_by r rest ≡ too_long → ⊥
unfolding framed_by
framed_by_not_too_long None rest e = cc
framed_by_not_too_long (Some m) rest e = cc

pub frame_not_unfinished : (bytes : List ℕ) → HoldsFrame bytes → IsUnfinished bytes → ⊥
frame_not_unfinished bytes h u = framed_by_not_unfinished (payload_of h.body) h.rest (sym (frame_is bytes h) ∙ unfinished_is bytes u)

pub frame_not_too_long : (bytes : List ℕ) → HoldsFrame bytes → BeginsTooLong bytes → ⊥
frame_not_too_long bytes h l = framed_by_not_too_long (payload_of h.body) h.rest (sym (frame_is bytes h) ∙ too_long_is bytes l)

pub too_long_not_unfinished : (bytes : List ℕ) → BeginsTooLong bytes → IsUnfinished bytes → ⊥
too_long_not_unfinished bytes l u = let e : too_long ≡ unfinished = sym (too_long_is bytes l) ∙ unfinished_is bytes u in cc

pub stops_no_message : (ending : Ending) (at : ℕ) (bytes : List ℕ) (m : Message) (rest : List ℕ) → Stops ending at bytes → Begins m bytes rest → ⊥
stops_no_message open_end at bytes m rest s b = let e : framed m rest ≡ unfinished = sym (message_is m bytes rest b) ∙ unfinished_is bytes s in cc
stops_no_message (bad_frame_at place) at bytes m rest s b = bad_is_no_message m bytes rest b s.1
stops_no_message (too_long_at place) at bytes m rest s b = let e : framed m rest ≡ too_long = sym (message_is m bytes rest b) ∙ too_long_is bytes s.1 in cc

pub stops_once : (one two : Ending) (at : ℕ) (bytes : List ℕ) → Stops one at bytes → Stops two at bytes → one ≡ two
stops_once open_end open_end at bytes s t = refl
stops_once open_end (bad_frame_at p) at bytes s t = absurd (frame_not_unfinished bytes t.1.frame s)
stops_once open_end (too_long_at p) at bytes s t = absurd (too_long_not_unfinished bytes t.1 s)
stops_once (bad_frame_at p) open_end at bytes s t = absurd (frame_not_unfinished bytes s.1.frame t)
stops_once (bad_frame_at p) (bad_frame_at q) at bytes s t = ap bad_frame_at (s.0 ∙ sym t.0)
stops_once (bad_frame_at p) (too_long_at q) at bytes s t = absurd (frame_not_too_long bytes s.1.frame t.1)
stops_once (too_long_at p) open_end at bytes s t = absurd (too_long_not_unfinished bytes s.1 t)
stops_once (too_long_at p) (bad_frame_at q) at bytes s t = absurd (frame_not_too_long bytes t.1.frame s.1)
stops_once (too_long_at p) (too_long_at q) at bytes s t = ap too_long_at (s.0 ∙ sym t.0)

-- ---- one stream

pub streams_once : (ms ks : List (Message × ℕ)) (one two : Ending) (at : ℕ) (bytes : List ℕ) → IsStream at bytes ms one → IsStream at bytes ks two → (ms ≡ ks) × (one ≡ two)
streams_once [] [] one two at bytes s t = (refl, stops_once one two at bytes s t)
streams_once [] (k ∷ ks) one two at bytes s t = absurd (stops_no_message one at bytes k.0 t.0 s t.1)
streams_once (m ∷ ms) [] one two at bytes s t = absurd (stops_no_message two at bytes m.0 s.0 t s.1)
streams_once (m ∷ ms) (k ∷ ks) one two at bytes s t =
    let same = same_message m.0 k.0 bytes s.0 t.0 s.1 t.1 in
    let moved : IsStream (at + length (spelling m.0)) s.0 ks two =
    subst (λ (x : Message). IsStream (at + length (spelling x)) s.0 ks two) (sym same.0) (subst (λ rest. IsStream (at + length (spelling k.0)) rest ks two) (sym same.1) t.3) in
    let more = streams_once ms ks one two (at + length (spelling m.0)) s.0 s.3 moved in
    let place : m.1 ≡ k.1 = s.2 ∙ sym t.2 in
    ((λ i. (same.0 i, place i) ∷ more.0 i), more.1)

-- what stands at the front
abbrev Front : List ℕ → Type 0
Front bytes = ((ending : ℕ → Ending) × ((at : ℕ) → Stops (ending at) at bytes)) ⊎ ((m : Message) × (rest : List ℕ) × Begins m bytes rest)

whole_front : (bytes : List ℕ) (size : ℕ) (tail : List ℕ) (read : Option Message) → AreBytes bytes → number_at w32 bytes ≡ Some (size, tail) → size ≤ longest_payload → size ≤ length tail
    → payload_of (take size tail) ≡ read → Front bytes
whole_front bytes size tail None fits at le inside is = inl (bad_frame_at, λ place. (refl, found_bad bytes size tail fits at le inside is))
whole_front bytes size tail (Some m) fits at le inside is = inr (m, drop (4 + size) bytes, (found_message bytes size tail m fits at le inside is).begins)

front_of : (bytes : List ℕ) → AreBytes bytes → Front bytes
front_of bytes fits = go (number_at w32 bytes) refl
  where
    go : (r : Field ℕ) → number_at w32 bytes ≡ r → Front bytes
    go None e = inl (λ at. open_end, λ at. inl (number_none_short bytes e))
    go (Some (size, tail)) e =
        elim (cases_lt longest_payload size) [
          | inl over ↦ inl (too_long_at, λ at. (refl, found_too_long bytes size tail fits e over))
          | inr le ↦ elim (cases_lt (length tail) size) [
            | inl cut ↦ inl (λ at. open_end, λ at. found_cut bytes size tail fits e le cut)
            | inr inside ↦ whole_front bytes size tail (payload_of (take size tail)) fits e le inside refl
          ]
        ]

-- a spelling has bytes
spelling_has_bytes : (m : Message) → 0 < length (spelling m)
spelling_has_bytes m = omega (arith, length-append (four_bytes (length (payload m))) (payload m), length-four_bytes (length (payload m)))

stream_of : (fuel at : ℕ) (bytes : List ℕ) → length bytes ≤ fuel → AreBytes bytes → (ms : List (Message × ℕ)) × (ending : Ending) × IsStream at bytes ms ending
stream_of zero at bytes le fits =
    ([], open_end, inl (omega arith))
stream_of (suc fuel) at bytes le fits =
    elim (front_of bytes fits) [
      | inl stop ↦ ([], stop.0 at, stop.1 at)
      | inr found ↦
          let m = found.0 in
          let rest = found.1 in
          let b = found.2 in
          let shorter : length rest ≤ fuel = omega (arith, spelling_has_bytes m, ap length b.are, length-append (spelling m) rest) in
          let more = stream_of fuel (at + length (spelling m)) rest shorter (AreBytes-right (spelling m) rest (subst AreBytes b.are fits)) in
          ((m, at) ∷ more.0, more.1, (rest, b, refl, more.2))
    ]

pub one_stream : (bytes : List ℕ) → IsBytes bytes → OneStream bytes
one_stream bytes fits =
    let found = stream_of (length bytes) 0 bytes (omega arith) (AreBytes-from bytes fits) in
    record {
      messages = found.0;
      ending = found.1;
      are = found.2;
      only = λ others other s. streams_once others found.0 other found.1 0 bytes s found.2;
    }
