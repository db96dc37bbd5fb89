-- What bytes begin with, as frames are cut off them.
use Rattle.std.proofs.Common.{◌≡◌, ◌<◌, ◌≤◌, ◌-◌, inl, inr, ℕ, List, ◌++◌, length, take, drop, Bool, true, false, ltb, Option, Some, None, refl, sym, ap, subst, ◌∙◌, append_assoc, arith, length-append, length-drop}
use Rattle.std.specs.Prelude.{◌||◌, if◌then◌else◌, nat_lt, option_map}
use Rattle.std.specs.Int.{w32, from_be_bytes}
use Rattle.std.proofs.lemmas.Bool.{lt-ltb, le-ltb, ltb-false}
use Rattle.std.proofs.lemmas.List.{take_at, drop_at}
use Rattle.pt_base.proofs.Booleans.{or_with_true}
use Rattle.wire.specs.declared.message.Message.{Message}
use Rattle.wire.specs.Frames.{IsUnfinished, HoldsFrame, BeginsBad, BeginsTooLong, Begins}
use Rattle.wire.specs.Limits.{longest_payload}
use Rattle.wire.specs.Reading.{number_at, payload_of}
use Rattle.wire.specs.Spelling.{four_bytes, payload}
use Rattle.wire.proofs.Bytes.{AreBytes, AreBytes-take}
use Rattle.wire.proofs.Fields.{field32, guard_fails, some_is}
use Rattle.wire.proofs.PayloadLaws.{payload_again, payload_takes}
use Rattle.wire.proofs.Front.{number_in_front, short_none}
use Rattle.pair_meaning.specs.Peer.{frame_at, framed, framed_by}

some_none : {A B : Type 0} (x : B) → Some x ≡ None → A
some_none x e = cc

-- ---- by the number

abbrev framed_if : Bool → Bool → ℕ → List ℕ → Option (Message × List ℕ)
framed_if long cut size tail = if long || cut then None else option_map (λ m. (m, drop size tail)) (payload_of (take size tail))

too_long_none : (size : ℕ) (tail : List ℕ) → longest_payload < size → framed size tail ≡ None
too_long_none size tail lt = ap (λ (b : Bool). framed_if b (nat_lt (length tail) size) size tail) (lt-ltb longest_payload size lt)

cut_none : (size : ℕ) (tail : List ℕ) → length tail < size → framed size tail ≡ None
cut_none size tail lt =
    ap (λ (b : Bool). framed_if (nat_lt longest_payload size) b size tail) (lt-ltb (length tail) size lt)
    ∙ ap (λ (b : Bool). if b then None else option_map (λ m. (m, drop size tail)) (payload_of (take size tail))) (or_with_true (nat_lt longest_payload size))

whole_framed : (size : ℕ) (tail : List ℕ) → size ≤ longest_payload → size ≤ length tail → framed size tail ≡ option_map (λ m. (m, drop size tail)) (payload_of (take size tail))
whole_framed size tail le inside =
    ap (λ (b : Bool). framed_if b (nat_lt (length tail) size) size tail) (le-ltb longest_payload size le)
    ∙ ap (λ (b : Bool). framed_if false b size tail) (le-ltb (length tail) size inside)

abbrev with_rest : List ℕ → Option Message → Option (Message × List ℕ)
with_rest rest o = option_map (λ m. (m, rest)) o

frame_framed : (bytes : List ℕ) (h : HoldsFrame bytes) → frame_at bytes ≡ with_rest h.rest (payload_of h.body)
frame_framed bytes h =
    let le : length h.body ≤ longest_payload = h.in_range in
    let at = number_in_front bytes (length h.body) (h.body ++ h.rest) (omega arith) h.are in
    let inside : length h.body ≤ length (h.body ++ h.rest) = omega (arith, length-append h.body h.rest) in
    ap framed_by at ∙ whole_framed (length h.body) (h.body ++ h.rest) le inside
    ∙ ap (λ (rest : List ℕ). with_rest rest (payload_of (take (length h.body) (h.body ++ h.rest)))) (drop_at h.body h.rest (length h.body) refl)
    ∙ ap (λ (body : List ℕ). with_rest h.rest (payload_of body)) (take_at h.body h.rest (length h.body) refl)

-- ---- what is said of bytes

abbrev message_frame : (m : Message) (bytes rest : List ℕ) → Begins m bytes rest → HoldsFrame bytes
message_frame m bytes rest b =
    record { body = payload m; rest = rest; are = b.are ∙ append_assoc (four_bytes (length (payload m))) (payload m) rest; in_range = b.spelled.keeps.payload }

pub message_front : (m : Message) (bytes rest : List ℕ) → Begins m bytes rest → frame_at bytes ≡ Some (m, rest)
message_front m bytes rest b = frame_framed bytes (message_frame m bytes rest b) ∙ ap (with_rest rest) (payload_again m b.spelled.fits b.spelled.keeps)

pub unfinished_front : (bytes : List ℕ) → IsUnfinished bytes → frame_at bytes ≡ None
unfinished_front bytes (inl lt) = ap framed_by (short_none bytes lt)
unfinished_front bytes (inr e) =
    let le : e.size ≤ longest_payload = e.in_range in
    ap framed_by (number_in_front bytes e.size e.part (omega arith) e.are) ∙ cut_none e.size e.part e.short

pub too_long_front : (bytes : List ℕ) → BeginsTooLong bytes → frame_at bytes ≡ None
too_long_front bytes b = ap framed_by (number_in_front bytes b.size b.rest b.fits b.are) ∙ too_long_none b.size b.rest b.over

pub bad_front : (bytes : List ℕ) → AreBytes bytes → BeginsBad bytes → frame_at bytes ≡ None
bad_front bytes are b = frame_framed bytes b.frame ∙ ap (with_rest b.frame.rest) (no_payload (payload_of b.frame.body) refl)
  where
    le : length b.frame.body ≤ longest_payload
    le = b.frame.in_range

    body_bytes : AreBytes b.frame.body
    body_bytes =
        let t = field32.takes bytes (length b.frame.body, b.frame.body ++ b.frame.rest) are (number_in_front bytes (length b.frame.body) (b.frame.body ++ b.frame.rest) (omega (arith, le)) b.frame.are) in
        subst AreBytes (take_at b.frame.body b.frame.rest (length b.frame.body) refl) (AreBytes-take (length b.frame.body) (b.frame.body ++ b.frame.rest) t.0.rest_fits)

    no_payload : (o : Option Message) → payload_of b.frame.body ≡ o → o ≡ None
    no_payload None e = refl
    no_payload (Some m) e =
        let taken = payload_takes b.frame.body m body_bytes e in
        absurd (b.no_message m (record {
          fits = taken.fits;
          keeps = record { counts = taken.counts; payload = subst (λ x. length x ≤ longest_payload) taken.parts le };
          are = ap (λ x. four_bytes (length x) ++ x) taken.parts;
        }))

-- ---- a frame has a byte at least

abbrev unless : Bool → Option (Message × List ℕ) → Option (Message × List ℕ)
unless b o = if b then None else o

framed_rest : (size : ℕ) (tail : List ℕ) (m : Message) (rest : List ℕ) → framed size tail ≡ Some (m, rest) → rest ≡ drop size tail
framed_rest size tail m rest e = by_tests (nat_lt longest_payload size || nat_lt (length tail) size) (payload_of (take size tail)) e
  where
    by_tests : (b : Bool) (o : Option Message) → unless b (with_rest (drop size tail) o) ≡ Some (m, rest) → rest ≡ drop size tail
    by_tests true o e = some_none (m, rest) (sym e)
    by_tests false None e = some_none (m, rest) (sym e)
    by_tests false (Some k) e = sym (ap (λ (x : Message × List ℕ). x.1) (some_is (k, drop size tail) (m, rest) e))

pub shorter : (bytes : List ℕ) (m : Message) (rest : List ℕ) → frame_at bytes ≡ Some (m, rest) → length rest < length bytes
shorter bytes m rest e = by_number (number_at w32 bytes) refl
  where
    fewer : (size a b c : ℕ) → a ≡ b - size → b ≡ c - 4 → 4 ≤ c → a < c
    fewer size a b c h k l = omega (arith, h, k, l)

    by_number : (o : Option (ℕ × List ℕ)) → number_at w32 bytes ≡ o → length rest < length bytes
    by_number None at = some_none (m, rest) (sym (sym (ap framed_by at) ∙ e))
    by_number (Some (size, tail)) at =
        let g = guard_fails (ltb (length bytes) 4) (Some (from_be_bytes w32 (take 4 bytes), drop 4 bytes)) (size, tail) at in
        let long : 4 ≤ length bytes = ltb-false _ _ g.0 in
        let tail_is : tail ≡ drop 4 bytes = sym (ap (λ (x : ℕ × List ℕ). x.1) (some_is (from_be_bytes w32 (take 4 bytes), drop 4 bytes) (size, tail) g.1)) in
        let rest_is : rest ≡ drop size tail = framed_rest size tail m rest (sym (ap framed_by at) ∙ e) in
        fewer size (length rest) (length tail) (length bytes) (ap length rest_is ∙ length-drop size tail) (ap length tail_is ∙ length-drop 4 bytes) long
