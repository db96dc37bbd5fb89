-- What bytes begin with, by the number in their first four and what stands behind it.
use Rattle.std.proofs.Common.{◌≡◌, ℕ, ◌+◌, ◌<◌, ◌≤◌, ◌^◌, cond, ltb, List, ◌++◌, length, take, drop, Option, Some, None, refl, sym, ap, subst, ◌∙◌, append_assoc, arith, inl, inr}
use Rattle.std.specs.Int.{w32, from_be_bytes}
use Rattle.std.proofs.lemmas.Bool.{lt-ltb, le-ltb, ltb-false, cases_lt}
use Rattle.std.proofs.lemmas.List.{length-take, take-append-drop, drop-drop, take_at, drop_at, length-append, length-drop}
use Rattle.wire.specs.declared.message.Message.{Message}
use Rattle.wire.specs.declared.fault.ReadError.{ReadError}
use Rattle.wire.specs.declared.fault.ReadError.TheVariants as errors
use Rattle.wire.specs.Spelling.{four_bytes, payload, spelling}
use Rattle.wire.specs.Limits.{longest_payload, KeepsLimits, Spells}
use Rattle.wire.specs.Frames.{IsUnfinished, HoldsFrame, BeginsBad, BeginsTooLong, Begins}
use Rattle.wire.specs.Fronts.{IsFramed}
use Rattle.wire.specs.Reading.{Fails, Field, number_at, payload_of}
use Rattle.wire.proofs.Bytes.{AreBytes, AreBytes-take}
use Rattle.wire.proofs.Fields.{guard_fails, some_is, field32}
use Rattle.wire.proofs.Sizes.{length-four_bytes}
use Rattle.wire.proofs.PayloadLaws.{payload_takes, payload_again}

-- ---- the front as a value

-- what the bytes begin with
pub data Beginning : Type 0 where
  unfinished : Beginning
  too_long : Beginning
  bad_frame : Beginning
  framed : Message → List ℕ → Beginning

unfoldable pub framed_by : Option Message → List ℕ → Beginning
framed_by None rest = bad_frame
framed_by (Some m) rest = framed m rest

behind_length : Field ℕ → Beginning
behind_length None = unfinished
behind_length (Some (size, tail)) =
    cond (ltb longest_payload size) too_long (cond (ltb (length tail) size) unfinished (framed_by (payload_of (take size tail)) (drop size tail)))

pub beginning_of : List ℕ → Beginning
beginning_of bytes = behind_length (number_at w32 bytes)

-- ---- by the number in front

pub begins_none : (bytes : List ℕ) → number_at w32 bytes ≡ None → beginning_of bytes ≡ unfinished
unfolding beginning_of behind_length
begins_none bytes read = ap behind_length read

pub begins_long : (bytes : List ℕ) (size : ℕ) (tail : List ℕ) → number_at w32 bytes ≡ Some (size, tail) → longest_payload < size → beginning_of bytes ≡ too_long
unfolding beginning_of behind_length
begins_long bytes size tail read lt = ap behind_length read ∙ rw (lt-ltb longest_payload size lt) refl

pub begins_cut : (bytes : List ℕ) (size : ℕ) (tail : List ℕ) → number_at w32 bytes ≡ Some (size, tail) → size ≤ longest_payload → length tail < size → beginning_of bytes ≡ unfinished
unfolding beginning_of behind_length
begins_cut bytes size tail read le lt = ap behind_length read ∙ rw (le-ltb longest_payload size le, lt-ltb (length tail) size lt) refl

pub begins_whole : (bytes : List ℕ) (size : ℕ) (tail : List ℕ) (read : Option Message) → number_at w32 bytes ≡ Some (size, tail) → size ≤ longest_payload → size ≤ length tail
    → payload_of (take size tail) ≡ read → beginning_of bytes ≡ framed_by read (drop size tail)
unfolding beginning_of behind_length
begins_whole bytes size tail read at le inside is =
    ap behind_length at ∙ rw (le-ltb longest_payload size le, le-ltb (length tail) size inside) (ap (λ r. framed_by r (drop size tail)) is)

-- ---- what is said of bytes is what they begin with

pub short_none : (bytes : List ℕ) → length bytes < 4 → number_at w32 bytes ≡ None
short_none bytes lt = rw (lt-ltb (length bytes) 4 lt) refl

pub number_in_front : (bytes : List ℕ) (n : ℕ) (tail : List ℕ) → n < 2 ^ 32 → bytes ≡ four_bytes n ++ tail → number_at w32 bytes ≡ Some (n, tail)
number_in_front bytes n tail lt are = ap (number_at w32) are ∙ field32.again n tail lt

pub unfinished_is : (bytes : List ℕ) → IsUnfinished bytes → beginning_of bytes ≡ unfinished
unfinished_is bytes (inl lt) = begins_none bytes (short_none bytes lt)
unfinished_is bytes (inr e) =
    let le : e.size ≤ longest_payload = e.in_range in
    begins_cut bytes e.size e.part (number_in_front bytes e.size e.part (omega arith) e.are) le e.short

pub too_long_is : (bytes : List ℕ) → BeginsTooLong bytes → beginning_of bytes ≡ too_long
too_long_is bytes b = begins_long bytes b.size b.rest (number_in_front bytes b.size b.rest b.fits b.are) b.over

pub frame_is : (bytes : List ℕ) (h : HoldsFrame bytes) → beginning_of bytes ≡ framed_by (payload_of h.body) h.rest
frame_is bytes h =
    let le : length h.body ≤ longest_payload = h.in_range in
    let at = number_in_front bytes (length h.body) (h.body ++ h.rest) (omega arith) h.are in
    let front : take (length h.body) (h.body ++ h.rest) ≡ h.body = take_at h.body h.rest (length h.body) refl in
    let inside : length h.body ≤ length (h.body ++ h.rest) = omega (arith, length-append h.body h.rest) in
    begins_whole bytes (length h.body) (h.body ++ h.rest) (payload_of h.body) at le inside (ap payload_of front)
    ∙ ap (framed_by (payload_of h.body)) (drop_at h.body h.rest (length h.body) refl)

pub frame_of : (m : Message) (bytes rest : List ℕ) → KeepsLimits m → bytes ≡ spelling m ++ rest → HoldsFrame bytes
frame_of m bytes rest keeps are = record { body = payload m; rest = rest; are = are ∙ append_assoc (four_bytes (length (payload m))) (payload m) rest; in_range = keeps.payload }

pub message_is : (m : Message) (bytes rest : List ℕ) → Begins m bytes rest → beginning_of bytes ≡ framed m rest
unfolding framed_by frame_of
message_is m bytes rest b =
    frame_is bytes (frame_of m bytes rest b.spelled.keeps b.are) ∙ ap (λ r. framed_by r rest) (payload_again m b.spelled.fits b.spelled.keeps)

-- ---- a frame has one payload

pub same_payload : (m : Message) (body : List ℕ) → length body ≤ longest_payload → Spells m (four_bytes (length body) ++ body) → payload m ≡ body
same_payload m body le s =
    let keeps : length (payload m) ≤ longest_payload = s.keeps.payload in
    let one = field32.again (length (payload m)) (payload m) (omega arith) in
    let two = field32.again (length body) body (omega arith) in
    let both : Some (length (payload m), payload m) ≡ Some (length body, body) = sym one ∙ ap (number_at w32) (sym s.are) ∙ two in
    ap (λ (x : ℕ × List ℕ). x.1) (some_is (length (payload m), payload m) (length body, body) both)

-- a frame of a message is no other message's and no frame that spells none
pub bad_is_no_message : (m : Message) (bytes rest : List ℕ) → Begins m bytes rest → BeginsBad bytes → ⊥
bad_is_no_message m bytes rest b bad =
    let h = bad.frame in
    let body : List ℕ = h.body in
    let keeps : length (payload m) ≤ longest_payload = b.spelled.keeps.payload in
    let le : length body ≤ longest_payload = h.in_range in
    let one = number_in_front bytes (length (payload m)) (payload m ++ rest) (omega arith) (b.are ∙ append_assoc (four_bytes (length (payload m))) (payload m) rest) in
    let two = number_in_front bytes (length body) (body ++ h.rest) (omega arith) h.are in
    let both = some_is (length (payload m), payload m ++ rest) (length body, body ++ h.rest) (sym one ∙ two) in
    let size : length (payload m) ≡ length body = ap (λ (x : ℕ × List ℕ). x.0) both in
    let tail : payload m ++ rest ≡ body ++ h.rest = ap (λ (x : ℕ × List ℕ). x.1) both in
    let same : payload m ≡ body = sym (take_at (payload m) rest (length body) size) ∙ ap (take (length body)) tail ∙ take_at body h.rest (length body) refl in
    bad.no_message m (record { fits = b.spelled.fits; keeps = b.spelled.keeps; are = ap (λ x. four_bytes (length x) ++ x) (sym same) })

pub number_none_short : (bytes : List ℕ) → number_at w32 bytes ≡ None → length bytes < 4
number_none_short bytes none =
    elim (cases_lt (length bytes) 4) [
      | inl lt ↦ lt
      | inr le ↦
          let some : number_at w32 bytes ≡ Some (from_be_bytes w32 (take 4 bytes), drop 4 bytes) = rw (le-ltb (length bytes) 4 le) refl in
          let no : None ≡ Some (from_be_bytes w32 (take 4 bytes), drop 4 bytes) = sym none ∙ some in
          absurd cc
    ]

-- ---- as the code finds it

behind_four : (bytes : List ℕ) (size : ℕ) (tail : List ℕ) → number_at w32 bytes ≡ Some (size, tail) → (4 ≤ length bytes) × (tail ≡ drop 4 bytes)
behind_four bytes size tail read =
    let g = guard_fails (ltb (length bytes) 4) (Some (from_be_bytes w32 (take 4 bytes), drop 4 bytes)) (size, tail) read in
    (ltb-false _ _ g.0, sym (ap (λ (x : ℕ × List ℕ). x.1) (some_is (from_be_bytes w32 (take 4 bytes), drop 4 bytes) (size, tail) g.1)))

pub found_too_long : (bytes : List ℕ) (size : ℕ) (tail : List ℕ) → AreBytes bytes → number_at w32 bytes ≡ Some (size, tail) → longest_payload < size → BeginsTooLong bytes
found_too_long bytes size tail fits at over =
    let t = field32.takes bytes (size, tail) fits at in
    record { size = size; rest = tail; are = t.0.parts; fits = t.1; over = over }

pub found_cut : (bytes : List ℕ) (size : ℕ) (tail : List ℕ) → AreBytes bytes → number_at w32 bytes ≡ Some (size, tail) → size ≤ longest_payload → length tail < size → IsUnfinished bytes
found_cut bytes size tail fits at le cut =
    let t = field32.takes bytes (size, tail) fits at in
    inr (record { size = size; part = tail; are = t.0.parts; in_range = le; short = cut })

pub found_frame : (bytes : List ℕ) (size : ℕ) (tail : List ℕ) → AreBytes bytes → number_at w32 bytes ≡ Some (size, tail) → size ≤ longest_payload → size ≤ length tail → HoldsFrame bytes
found_frame bytes size tail fits at le inside =
    let t = field32.takes bytes (size, tail) fits at in
    let len : length (take size tail) ≡ size = omega (arith, length-take size tail) in
    record {
      body = take size tail;
      rest = drop size tail;
      are = t.0.parts ∙ ap (λ x. four_bytes size ++ x) (sym (take-append-drop size tail)) ∙ ap (λ n. four_bytes n ++ (take size tail ++ drop size tail)) (sym len);
      in_range = omega arith;
    }

pub found_bad : (bytes : List ℕ) (size : ℕ) (tail : List ℕ) → AreBytes bytes → number_at w32 bytes ≡ Some (size, tail) → size ≤ longest_payload → size ≤ length tail
    → payload_of (take size tail) ≡ None → BeginsBad bytes
unfolding found_frame
found_bad bytes size tail fits at le inside none =
    let frame = found_frame bytes size tail fits at le inside in
    let short : length (take size tail) ≤ longest_payload = frame.in_range in
    record {
      frame = frame;
      no_message = λ m s.
          let again : payload_of (take size tail) ≡ Some m = ap payload_of (sym (same_payload m (take size tail) short s)) ∙ payload_again m s.fits s.keeps in
          let no : None ≡ Some m = sym none ∙ again in
          cc;
    }

pub found_fault : (bytes : List ℕ) (size : ℕ) (tail : List ℕ) (e : ReadError) → AreBytes bytes → number_at w32 bytes ≡ Some (size, tail) → size ≤ longest_payload → size ≤ length tail
    → e ≡ errors.Bad → Fails e (payload_of (take size tail)) → BeginsBad bytes
found_fault bytes size tail e fits at le inside is fails =
    let bad = subst (λ e. Fails e (payload_of (take size tail))) is fails in
    found_bad bytes size tail fits at le inside bad

pub found_message : (bytes : List ℕ) (size : ℕ) (tail : List ℕ) (m : Message) → AreBytes bytes → number_at w32 bytes ≡ Some (size, tail) → size ≤ longest_payload → size ≤ length tail
    → payload_of (take size tail) ≡ Some m → IsFramed m (4 + size) bytes
unfolding found_frame
found_message bytes size tail m fits at le inside some =
    let t = field32.takes bytes (size, tail) fits at in
    let taken = payload_takes (take size tail) m (AreBytes-take size tail t.0.rest_fits) some in
    let frame = found_frame bytes size tail fits at le inside in
    let short : length (take size tail) ≤ longest_payload = frame.in_range in
    let keeps : KeepsLimits m = record { counts = taken.counts; payload = subst (λ x. length x ≤ longest_payload) taken.parts short } in
    let four = behind_four bytes size tail at in
    let rest : drop size tail ≡ drop (4 + size) bytes = ap (drop size) four.1 ∙ drop-drop size 4 bytes in
    let whole : bytes ≡ spelling m ++ drop size tail =
    frame.are ∙ ap (λ x. four_bytes (length x) ++ (x ++ drop size tail)) taken.parts ∙ sym (append_assoc (four_bytes (length (payload m))) (payload m) (drop size tail)) in
    record {
      begins = record { spelled = record { fits = taken.fits; keeps = keeps; are = refl }; are = subst (λ rest. bytes ≡ spelling m ++ rest) rest whole };
      whole = omega (arith, length-append (four_bytes (length (payload m))) (payload m), length-four_bytes (length (payload m)), ap length taken.parts, length-take size tail);
      inside = omega (arith, four.0, ap length four.1, length-drop 4 bytes);
    }
