-- A part that is read is the part that was written, and what was written is read again unless it goes
-- too deep: for numbers, lists, options, and parts made of others.
use Rattle.std.proofs.Common.{◌≡◌, ℕ, zero, suc, ◌^◌, ◌<◌, ◌≤◌, Bool, true, false, cond, ltb, List, [], ◌∷◌, ◌++◌, length, take, drop, Option, Some, None, ◌⊎◌, inl, inr, refl, sym, ap, subst, ◌∙◌, append_assoc, arith}
use Rattle.std.specs.Prelude.{IfSome, FitsSigned, Result, Ok, Err, slice_get}
use Rattle.std.specs.Int.{w128}
use Rattle.std.specs.List.{flat_map, AllByRecursion}
use Rattle.std.proofs.lemmas.Bool.{ltb-false, le-ltb}
use Rattle.std.proofs.lemmas.List.{take_at, drop_at, take-append-drop, length-append, length-take}
use Rattle.wire.specs.Spelling.{four_bytes, eight_bytes, sixteen_signed_bytes, truth_byte}
use Rattle.wire.proofs.Bytes.{AreBytes, AreBytes-drop, AreBytes-take, AreBytes-rest, IsBytes-from}
use Rattle.wire.proofs.Fields.{Takes, Takes-then, Takes-tag, field32, field64, field_signed128}
use Rattle.wire.proofs.Fields.{IsField}
use Rattle.boot_fields.specs.declared.fault.ReadError.{ReadError}
use Rattle.boot_fields.specs.declared.fault.ReadError.TheVariants.{Bad, Memory}
use Rattle.boot_fields.specs.Spelling.{list_bytes, text_bytes, option_bytes, numbered_bytes}
use Rattle.boot_fields.specs.Limits.{Fits32, FitsList, FitsText, FitsNumbered}
use Rattle.boot_fields.specs.Reading.{◌>>=◌, Reading, mapped, both, as_in_messages, byte_at, number32_at, number64_at, signed128_at, truth_at, text_at, many, list_at, option_at, as_part, one_of, numbered_at}

abbrev pub ok : {A : Type 0} → A → Result A ReadError
ok x = Ok x

pub ok_is : {A : Type 0} (x y : A) → ok x ≡ ok y → x ≡ y
ok_is x y e = cc

abbrev some : {A : Type 0} → A → Option A
some x = Some x

pub some_is : {A : Type 0} (x y : A) → some x ≡ some y → x ≡ y
some_is x y e = cc

abbrev pub failed : {A : Type 0} → ReadError → Result A ReadError
failed e = Err e

-- the value of a step that gave one
pub bind_ok : {A B : Type 0} (r : Result A ReadError) (f : A → Result B ReadError) (y : B) → (r >>= f) ≡ Ok y → (x : A) × (r ≡ Ok x) × (f x ≡ Ok y)
bind_ok (Ok x) f y e = (x, refl, e)
bind_ok (Err fault) f y e = absurd cc

-- what was written is read again, unless it goes too deep
abbrev pub Again : {A : Type 0} → (A → Type 0) → A → List ℕ → Reading A → Type 0
Again Short x rest reading = (reading ≡ Ok (x, rest)) ⊎ ((reading ≡ Err Memory) × (Short x → ⊥))

-- how parts of a kind are written and read: which of them can be written, and which aren't too deep
pub record IsPart {A : Type 0} (Fits Short : A → Type 0) (bytes_of : A → List ℕ) (part : List ℕ → Reading A) : Type 0 where
  pub takes : (bytes : List ℕ) (found : A × List ℕ) → AreBytes bytes → part bytes ≡ Ok found → Takes bytes (bytes_of found.0) found.1 × Fits found.0
  pub again : (x : A) (rest : List ℕ) → Fits x → Again Short x rest (part (bytes_of x ++ rest))

-- never too deep
abbrev pub Flat : {A : Type 0} → A → Type 0
Flat x = Unit {0}

abbrev pub Same : {A : Type 0} → A → Type 0
Same x = Unit {0}

-- one step further
pub again_bind : {A B : Type 0} (Short : A → Type 0) (Short' : B → Type 0) (x : A) (mid : List ℕ) (y : B) (rest : List ℕ) (r : Reading A) (f : A × List ℕ → Reading B)
    → Again Short x mid r → (Short' y → Short x) → Again Short' y rest (f (x, mid)) → Again Short' y rest (r >>= f)
again_bind {A} {B} Short Short' x mid y rest r f (inl e) up further = subst (λ (z : Reading A). Again Short' y rest (z >>= f)) (sym e) further
again_bind {A} {B} Short Short' x mid y rest r f (inr e) up further = inr (ap (λ (z : Reading A). z >>= f) e.0, λ h. e.1 (up h))

-- ---- the same parts, said otherwise

pub part_fits : {A : Type 0} {Fits Fits' Short Short' : A → Type 0} {bytes_of : A → List ℕ} {part : List ℕ → Reading A}
    → ((x : A) → Fits x → Fits' x) → ((x : A) → Fits' x → Fits x) → ((x : A) → Short' x → Short x) → IsPart Fits Short bytes_of part → IsPart Fits' Short' bytes_of part
part_fits {A} {Fits} {Fits'} {Short} {Short'} {bytes_of} {part} into from short p = record {
  takes = λ bytes found fits e. let t = p.takes bytes found fits e in (t.0, into found.0 t.1);
  again = λ x rest fits. elim (p.again x rest (from x fits)) [
    | inl e ↦ inl e
    | inr e ↦ inr (e.0, λ h. e.1 (short x h))
  ];
}

pub part_bytes : {A : Type 0} {Fits Short : A → Type 0} {bytes_of bytes_of' : A → List ℕ} {part : List ℕ → Reading A}
    → ((x : A) → bytes_of x ≡ bytes_of' x) → IsPart Fits Short bytes_of part → IsPart Fits Short bytes_of' part
part_bytes {A} {Fits} {Short} {bytes_of} {bytes_of'} {part} same p = record {
  takes = λ bytes found fits e. let t = p.takes bytes found fits e in (subst (λ text. Takes bytes text found.1) (same found.0) t.0, t.1);
  again = λ x rest fits. subst (λ (text : List ℕ). Again Short x rest (part (text ++ rest))) (same x) (p.again x rest fits);
}

-- ---- a part and the one behind it

both_again : {A B : Type 0} {Fits Short : A → Type 0} {bytes_of : A → List ℕ} {first : List ℕ → Reading A} {Fits' Short' : B → Type 0} {bytes_of' : B → List ℕ} {second : List ℕ → Reading B}
    → IsPart Fits Short bytes_of first → IsPart Fits' Short' bytes_of' second
    → (x : A) (y : B) (rest : List ℕ) → Fits x → Fits' y → Again (λ (p : A × B). Short p.0 × Short' p.1) (x, y) rest (both first second ((bytes_of x ++ bytes_of' y) ++ rest))
both_again {A} {B} {Fits} {Short} {bytes_of} {first} {Fits'} {Short'} {bytes_of'} {second} p q x y rest fits fits' =
    let made : A × B = (x, y) in
    let finish : B × List ℕ → Reading (A × B) = λ z. Ok ((x, z.0), z.1) in
    subst (λ bytes. Again (λ (p : A × B). Short p.0 × Short' p.1) made rest (both first second bytes)) (sym (append_assoc (bytes_of x) (bytes_of' y) rest))
    (again_bind Short (λ (p : A × B). Short p.0 × Short' p.1) x (bytes_of' y ++ rest) made rest (first (bytes_of x ++ (bytes_of' y ++ rest))) (λ z. second z.1 >>= λ w. Ok ((z.0, w.0), w.1)) (p.again x (bytes_of' y ++ rest) fits) (λ h. h.0)
    (again_bind Short' (λ (p : A × B). Short p.0 × Short' p.1) y rest made rest (second (bytes_of' y ++ rest)) finish (q.again y rest fits') (λ h. h.1) (inl refl)))

pub both_part : {A B : Type 0} {Fits Short : A → Type 0} {bytes_of : A → List ℕ} {first : List ℕ → Reading A} {Fits' Short' : B → Type 0} {bytes_of' : B → List ℕ} {second : List ℕ → Reading B}
    → IsPart Fits Short bytes_of first → IsPart Fits' Short' bytes_of' second
    → IsPart (λ (p : A × B). Fits p.0 × Fits' p.1) (λ (p : A × B). Short p.0 × Short' p.1) (λ (p : A × B). bytes_of p.0 ++ bytes_of' p.1) (both first second)
both_part {A} {B} {Fits} {Short} {bytes_of} {first} {Fits'} {Short'} {bytes_of'} {second} p q = record {
  takes = λ bytes found fits e.
      let a = bind_ok (first bytes) (λ x. second x.1 >>= λ y. Ok ((x.0, y.0), y.1)) found e in
      let b = bind_ok (second a.0.1) (λ y. Ok ((a.0.0, y.0), y.1)) found a.2 in
      let t = p.takes bytes a.0 fits a.1 in
      let u = q.takes a.0.1 b.0 t.0.rest_fits b.1 in
      let made : (A × B) × List ℕ = ((a.0.0, b.0.0), b.0.1) in
      subst (λ (x : (A × B) × List ℕ). Takes bytes (bytes_of x.0.0 ++ bytes_of' x.0.1) x.1 × (Fits x.0.0 × Fits' x.0.1)) (ok_is made found b.2)
      (Takes-then bytes (bytes_of a.0.0) a.0.1 (bytes_of' b.0.0) b.0.1 t.0 u.0, (t.1, u.1));
  again = λ x rest fits. both_again p q x.0 x.1 rest fits.0 fits.1;
}

-- ---- a part that is made into another, one to one

pub mapped_part : {A B : Type 0} {Fits Short : A → Type 0} {bytes_of : A → List ℕ} {part : List ℕ → Reading A} (made : A → B) (unmade : B → A) → ((x : A) → unmade (made x) ≡ x) → ((y : B) → made (unmade y) ≡ y)
    → IsPart Fits Short bytes_of part → IsPart (λ y. Fits (unmade y)) (λ y. Short (unmade y)) (λ y. bytes_of (unmade y)) (mapped made part)
mapped_part {A} {B} {Fits} {Short} {bytes_of} {part} made unmade there back p = record {
  takes = λ bytes found fits e.
      let a = bind_ok (part bytes) (λ x. Ok (made x.0, x.1)) found e in
      let t = p.takes bytes a.0 fits a.1 in
      let same = sym (there a.0.0) in
      let result : B × List ℕ = (made a.0.0, a.0.1) in
      subst (λ (y : B × List ℕ). Takes bytes (bytes_of (unmade y.0)) y.1 × Fits (unmade y.0)) (ok_is result found a.2)
      (subst (λ (x : A). Takes bytes (bytes_of x) a.0.1 × Fits x) same t);
  again = λ y rest fits.
      again_bind Short (λ z. Short (unmade z)) (unmade y) rest y rest (part (bytes_of (unmade y) ++ rest)) (λ x. Ok (made x.0, x.1)) (p.again (unmade y) rest fits) (λ h. h) (inl (ap (λ (z : B). ok (z, rest)) (back y)));
}

-- ---- a part behind the tag of a variant

pub variant_takes : {A B : Type 0} {Fits Short : A → Type 0} {bytes_of : A → List ℕ} {part : List ℕ → Reading A} → IsPart Fits Short bytes_of part
    → (made : A → B) (tag : ℕ) (text : B → List ℕ) (Fits' : B → Type 0) → ((x : A) → tag ∷ bytes_of x ≡ text (made x)) → ((x : A) → Fits x → Fits' (made x))
    → (bytes : List ℕ) (found : B × List ℕ) → AreBytes (tag ∷ bytes) → mapped made part bytes ≡ Ok found → Takes (tag ∷ bytes) (text found.0) found.1 × Fits' found.0
variant_takes {A} {B} {Fits} {Short} {bytes_of} {part} p made tag text Fits' same into bytes found fits e =
    let a = bind_ok (part bytes) (λ x. Ok (made x.0, x.1)) found e in
    let t = p.takes bytes a.0 (AreBytes-rest tag bytes fits) a.1 in
    let result : B × List ℕ = (made a.0.0, a.0.1) in
    let front : Takes (tag ∷ bytes) (text (made a.0.0)) a.0.1 = subst (λ x. Takes (tag ∷ bytes) x a.0.1) (same a.0.0) (Takes-tag tag _ _ _ t.0) in
    subst (λ (y : B × List ℕ). Takes (tag ∷ bytes) (text y.0) y.1 × Fits' y.0) (ok_is result found a.2) (front, into a.0.0 t.1)

pub variant_again : {A B : Type 0} {Fits Short : A → Type 0} {bytes_of : A → List ℕ} {part : List ℕ → Reading A} → IsPart Fits Short bytes_of part
    → (made : A → B) (Short' : B → Type 0) (x : A) (rest : List ℕ) → Fits x → (Short' (made x) → Short x) → Again Short' (made x) rest (mapped made part (bytes_of x ++ rest))
variant_again {A} {B} {Fits} {Short} {bytes_of} {part} p made Short' x rest fits up =
    again_bind Short Short' x rest (made x) rest (part (bytes_of x ++ rest)) (λ z. Ok (made z.0, z.1)) (p.again x rest fits) up (inl refl)

-- a variant without fields
pub bare_takes : {B : Type 0} (made : B) (tag : ℕ) (text : B → List ℕ) (Fits' : B → Type 0) → tag ∷ [] ≡ text made → Fits' made
    → (bytes : List ℕ) (found : B × List ℕ) → AreBytes (tag ∷ bytes) → ok (made, bytes) ≡ Ok found → Takes (tag ∷ bytes) (text found.0) found.1 × Fits' found.0
bare_takes {B} made tag text Fits' same into bytes found fits e =
    let result : B × List ℕ = (made, bytes) in
    let front : Takes (tag ∷ bytes) (text made) bytes = subst (λ x. Takes (tag ∷ bytes) x bytes) same (record { parts = refl; rest_fits = AreBytes-rest tag bytes fits }) in
    subst (λ (y : B × List ℕ). Takes (tag ∷ bytes) (text y.0) y.1 × Fits' y.0) (ok_is result found e) (front, into)

-- ---- numbers

from_messages : {A : Type 0} (r : Option (A × List ℕ)) (found : A × List ℕ) → as_in_messages r ≡ Ok found → r ≡ Some found
from_messages None found e = absurd cc
from_messages (Some x) found e = ap (λ y. Some y) (ok_is x found e)

message_part : {A : Type 0} {Fits : A → Type 0} {bytes_of : A → List ℕ} {field : List ℕ → Option (A × List ℕ)} → IsField Fits bytes_of field → IsPart Fits Flat bytes_of (λ bytes. as_in_messages (field bytes))
message_part {A} {Fits} {bytes_of} {field} p = record {
  takes = λ bytes found fits e. p.takes bytes found fits (from_messages (field bytes) found e);
  again = λ x rest fits. inl (ap (λ (r : Option (A × List ℕ)). as_in_messages r) (p.again x rest fits));
}

pub number32_part : IsPart Fits32 Flat four_bytes number32_at
unfolding number32_at
number32_part = message_part field32

pub number64_part : IsPart (λ n. n < 2 ^ 64) Flat eight_bytes number64_at
unfolding number64_at
number64_part = message_part field64

pub signed128_part : IsPart (FitsSigned w128) Flat sixteen_signed_bytes signed128_at
unfolding signed128_at
signed128_part = message_part field_signed128

byte_takes : (bytes : List ℕ) (found : ℕ × List ℕ) → AreBytes bytes → byte_at bytes ≡ Ok found → Takes bytes (found.0 ∷ []) found.1 × (found.0 < 2 ^ 8)
unfolding byte_at
byte_takes [] found fits e = absurd cc
byte_takes (b ∷ bytes) found fits e =
    subst (λ (x : ℕ × List ℕ). Takes (b ∷ bytes) (x.0 ∷ []) x.1 × (x.0 < 2 ^ 8)) (ok_is (b, bytes) found e)
    (record { parts = refl; rest_fits = AreBytes-rest b bytes fits }, fits 0)

byte_again : (b : ℕ) (rest : List ℕ) → b < 2 ^ 8 → Again Flat b rest (byte_at ((b ∷ []) ++ rest))
unfolding byte_at
byte_again b rest h = inl refl

pub byte_part : IsPart (λ b. b < 2 ^ 8) Flat (λ b. b ∷ []) byte_at
byte_part = record { takes = byte_takes; again = byte_again }

truth_takes : (bytes : List ℕ) (found : Bool × List ℕ) → AreBytes bytes → truth_at bytes ≡ Ok found → Takes bytes (truth_byte found.0 ∷ []) found.1 × Unit {0}
unfolding truth_at
truth_takes [] found fits e = absurd cc
truth_takes (zero ∷ bytes) found fits e = bare_takes false 0 (λ b. truth_byte b ∷ []) Same refl tt bytes found fits e
truth_takes (suc zero ∷ bytes) found fits e = bare_takes true 1 (λ b. truth_byte b ∷ []) Same refl tt bytes found fits e
truth_takes (suc (suc b) ∷ bytes) found fits e = absurd cc

truth_again : (b : Bool) (rest : List ℕ) → Unit {0} → Again Flat b rest (truth_at ((truth_byte b ∷ []) ++ rest))
unfolding truth_at
truth_again false rest h = inl refl
truth_again true rest h = inl refl

pub truth_part : IsPart Same Flat (λ b. truth_byte b ∷ []) truth_at
truth_part = record { takes = truth_takes; again = truth_again }

-- ---- byte strings

guard_fails : {A : Type 0} (b : Bool) (r : Result A ReadError) (y : A) → cond b (failed Bad) r ≡ Ok y → (b ≡ false) × (r ≡ Ok y)
guard_fails true r y e = absurd cc
guard_fails false r y e = (refl, e)

text_takes : (bytes : List ℕ) (found : List ℕ × List ℕ) → AreBytes bytes → text_at bytes ≡ Ok found → Takes bytes (text_bytes found.0) found.1 × FitsText found.0
unfolding text_at
text_takes bytes found fits e =
    let a = bind_ok (number64_at bytes) (λ n. cond (ltb (length n.1) n.0) (failed Bad) (Ok (take n.0 n.1, drop n.0 n.1))) found e in
    let n = a.0.0 in
    let tail = a.0.1 in
    let g = guard_fails (ltb (length tail) n) (Ok (take n tail, drop n tail)) found a.2 in
    let t = number64_part.takes bytes a.0 fits a.1 in
    let long : n ≤ length tail = ltb-false _ _ g.0 in
    let len : length (take n tail) ≡ n = omega (arith, length-take n tail) in
    let text : Takes tail (take n tail) (drop n tail) = record { parts = sym (take-append-drop n tail); rest_fits = AreBytes-drop n tail t.0.rest_fits } in
    let whole : Takes bytes (eight_bytes n ++ take n tail) (drop n tail) = Takes-then bytes (eight_bytes n) tail (take n tail) (drop n tail) t.0 text in
    let below : length (take n tail) < 2 ^ 64 = subst (λ k. k < 2 ^ 64) (sym len) t.1 in
    let result : List ℕ × List ℕ = (take n tail, drop n tail) in
    subst (λ (x : List ℕ × List ℕ). Takes bytes (text_bytes x.0) x.1 × FitsText x.0) (ok_is result found g.1)
    (subst (λ k. Takes bytes (eight_bytes k ++ take n tail) (drop n tail)) (sym len) whole, (below, IsBytes-from (take n tail) (AreBytes-take n tail t.0.rest_fits)))

text_again : (text rest : List ℕ) → FitsText text → Again Flat text rest (text_at (text_bytes text ++ rest))
unfolding text_at
text_again text rest fits =
    let long : ltb (length (text ++ rest)) (length text) ≡ false = le-ltb _ _ (omega (arith, length-append text rest)) in
    let inner : Again (Flat {A = List ℕ}) text rest (cond (ltb (length (text ++ rest)) (length text)) (failed Bad) (Ok (take (length text) (text ++ rest), drop (length text) (text ++ rest)))) =
    inl (rw (long, take_at text rest (length text) refl, drop_at text rest (length text) refl) refl) in
    subst (λ bytes. Again (Flat {A = List ℕ}) text rest (text_at bytes)) (sym (append_assoc (eight_bytes (length text)) text rest))
    (again_bind (Flat {A = ℕ}) (Flat {A = List ℕ}) (length text) (text ++ rest) text rest (number64_at (eight_bytes (length text) ++ (text ++ rest))) (λ n. cond (ltb (length n.1) n.0) (failed Bad) (Ok (take n.0 n.1, drop n.0 n.1)))
    (number64_part.again (length text) (text ++ rest) fits.0) (λ h. h) inner)

pub text_part : IsPart FitsText Flat text_bytes text_at
text_part = record { takes = text_takes; again = text_again }

-- ---- lists

many_takes : {A : Type 0} {Fits Short : A → Type 0} {bytes_of : A → List ℕ} {part : List ℕ → Reading A} → IsPart Fits Short bytes_of part
    → (n : ℕ) (bytes : List ℕ) (found : List A × List ℕ) → AreBytes bytes → many part n bytes ≡ Ok found
    → Takes bytes (flat_map bytes_of found.0) found.1 × (length found.0 ≡ n) × AllByRecursion Fits found.0
unfolding many
many_takes {A} {Fits} {Short} {bytes_of} {part} p zero bytes found fits e =
    subst (λ (x : List A × List ℕ). Takes bytes (flat_map bytes_of x.0) x.1 × (length x.0 ≡ 0) × AllByRecursion Fits x.0) (ok_is ([], bytes) found e) (record { parts = refl; rest_fits = fits }, refl, tt)
many_takes {A} {Fits} {Short} {bytes_of} {part} p (suc n) bytes found fits e =
    let a = bind_ok (part bytes) (λ first. many part n first.1 >>= λ others. Ok (first.0 ∷ others.0, others.1)) found e in
    let b = bind_ok (many part n a.0.1) (λ others. Ok (a.0.0 ∷ others.0, others.1)) found a.2 in
    let first = p.takes bytes a.0 fits a.1 in
    let others = many_takes p n a.0.1 b.0 first.0.rest_fits b.1 in
    let whole = Takes-then bytes (bytes_of a.0.0) a.0.1 (flat_map bytes_of b.0.0) b.0.1 first.0 others.0 in
    let made : List A × List ℕ = (a.0.0 ∷ b.0.0, b.0.1) in
    subst (λ (x : List A × List ℕ). Takes bytes (flat_map bytes_of x.0) x.1 × (length x.0 ≡ suc n) × AllByRecursion Fits x.0) (ok_is made found b.2) (whole, ap suc others.1, (first.1, others.2))

many_again : {A : Type 0} {Fits Short : A → Type 0} {bytes_of : A → List ℕ} {part : List ℕ → Reading A} → IsPart Fits Short bytes_of part
    → (xs : List A) (rest : List ℕ) → AllByRecursion Fits xs → Again (AllByRecursion Short) xs rest (many part (length xs) (flat_map bytes_of xs ++ rest))
unfolding many
many_again p [] rest fits = inl refl
many_again {A} {Fits} {Short} {bytes_of} {part} p (x ∷ xs) rest fits =
    let all : List A = x ∷ xs in
    let tail = flat_map bytes_of xs ++ rest in
    subst (λ bytes. Again (AllByRecursion Short) all rest (many part (suc (length xs)) bytes)) (sym (append_assoc (bytes_of x) (flat_map bytes_of xs) rest))
    (again_bind Short (AllByRecursion Short) x tail all rest (part (bytes_of x ++ tail)) (λ first. many part (length xs) first.1 >>= λ others. Ok (first.0 ∷ others.0, others.1)) (p.again x tail fits.0) (λ h. h.0)
    (again_bind (AllByRecursion Short) (AllByRecursion Short) xs rest all rest (many part (length xs) tail) (λ others. Ok (x ∷ others.0, others.1)) (many_again p xs rest fits.1) (λ h. h.1) (inl refl)))

pub list_part : {A : Type 0} {Fits Short : A → Type 0} {bytes_of : A → List ℕ} {part : List ℕ → Reading A} → IsPart Fits Short bytes_of part
    → IsPart (FitsList Fits) (AllByRecursion Short) (list_bytes bytes_of) (list_at part)
unfolding list_at
list_part {A} {Fits} {Short} {bytes_of} {part} p = record {
  takes = λ bytes found fits e.
      let a = bind_ok (number64_at bytes) (λ n. many part n.0 n.1) found e in
      let t = number64_part.takes bytes a.0 fits a.1 in
      let items = many_takes p a.0.0 a.0.1 found t.0.rest_fits a.2 in
      let whole = Takes-then bytes (eight_bytes a.0.0) a.0.1 (flat_map bytes_of found.0) found.1 t.0 items.0 in
      (subst (λ n. Takes bytes (eight_bytes n ++ flat_map bytes_of found.0) found.1) (sym items.1) whole, (subst (λ n. n < 2 ^ 64) (sym items.1) t.1, items.2));
  again = λ xs rest fits.
      subst (λ bytes. Again (AllByRecursion Short) xs rest (number64_at bytes >>= λ n. many part n.0 n.1)) (sym (append_assoc (eight_bytes (length xs)) (flat_map bytes_of xs) rest))
      (again_bind (Flat {A = ℕ}) (AllByRecursion Short) (length xs) (flat_map bytes_of xs ++ rest) xs rest (number64_at (eight_bytes (length xs) ++ (flat_map bytes_of xs ++ rest))) (λ n. many part n.0 n.1)
      (number64_part.again (length xs) (flat_map bytes_of xs ++ rest) fits.0) (λ h. tt {0}) (many_again p xs rest fits.1));
}

pub all_flat : {A : Type 0} (xs : List A) → AllByRecursion (Flat {A = A}) xs
all_flat [] = tt
all_flat (x ∷ xs) = (tt, all_flat xs)

-- a list of parts that are never too deep
pub flat_list : {A : Type 0} {Fits : A → Type 0} {bytes_of : A → List ℕ} {part : List ℕ → Reading A} → IsPart Fits Flat bytes_of part → IsPart (FitsList Fits) Flat (list_bytes bytes_of) (list_at part)
flat_list p = part_fits (λ x h. h) (λ x h. h) (λ x h. all_flat x) (list_part p)

-- ---- options

-- it isn't too deep, if there is one
abbrev pub ShortOption : {A : Type 0} → (A → Type 0) → Option A → Type 0
ShortOption Short o = IfSome o Short

option_takes : {A : Type 0} {Fits Short : A → Type 0} {bytes_of : A → List ℕ} {part : List ℕ → Reading A} → IsPart Fits Short bytes_of part
    → (bytes : List ℕ) (found : Option A × List ℕ) → AreBytes bytes → option_at part bytes ≡ Ok found → Takes bytes (option_bytes bytes_of found.0) found.1 × IfSome found.0 Fits
unfolding option_at
option_takes p [] found fits e = absurd cc
option_takes {A} {Fits} {Short} {bytes_of} {part} p (zero ∷ bytes) found fits e = bare_takes None 0 (option_bytes bytes_of) (λ o. IfSome o Fits) refl tt bytes found fits e
option_takes {A} {Fits} {Short} {bytes_of} {part} p (suc zero ∷ bytes) found fits e = variant_takes p (λ x. Some x) 1 (option_bytes bytes_of) (λ o. IfSome o Fits) (λ x. refl) (λ x h. h) bytes found fits e
option_takes p (suc (suc b) ∷ bytes) found fits e = absurd cc

option_again : {A : Type 0} {Fits Short : A → Type 0} {bytes_of : A → List ℕ} {part : List ℕ → Reading A} → IsPart Fits Short bytes_of part
    → (o : Option A) (rest : List ℕ) → IfSome o Fits → Again (ShortOption Short) o rest (option_at part (option_bytes bytes_of o ++ rest))
unfolding option_at
option_again p None rest fits = inl refl
option_again {A} {Fits} {Short} {bytes_of} {part} p (Some x) rest fits = variant_again p (λ x. Some x) (ShortOption Short) x rest fits (λ h. h)

pub option_part : {A : Type 0} {Fits Short : A → Type 0} {bytes_of : A → List ℕ} {part : List ℕ → Reading A} → IsPart Fits Short bytes_of part
    → IsPart (λ o. IfSome o Fits) (ShortOption Short) (option_bytes bytes_of) (option_at part)
option_part p = record { takes = option_takes p; again = option_again p }

flat_option_short : {A : Type 0} (o : Option A) → ShortOption (Flat {A = A}) o
flat_option_short None = tt
flat_option_short (Some x) = tt

pub flat_option : {A : Type 0} {Fits : A → Type 0} {bytes_of : A → List ℕ} {part : List ℕ → Reading A} → IsPart Fits Flat bytes_of part
    → IsPart (λ o. IfSome o Fits) Flat (option_bytes bytes_of) (option_at part)
flat_option p = part_fits (λ x h. h) (λ x h. h) (λ x h. flat_option_short x) (option_part p)

-- ---- one of a list, by its place

named_takes : {A : Type 0} (r : Option A) (rest : List ℕ) (found : A × List ℕ) → as_part r rest ≡ Ok found → (r ≡ Some found.0) × (rest ≡ found.1)
named_takes None rest found e = absurd cc
named_takes (Some x) rest found e =
    let same = ok_is (x, rest) found e in
    (ap (λ y. Some y.0) same, ap (λ y. y.1) same)

one_takes : {A : Type 0} (values : List A) (place : A → ℕ) → ((n : ℕ) (x : A) → slice_get values n ≡ Some x → place x ≡ n)
    → (bytes : List ℕ) (found : A × List ℕ) → AreBytes bytes → one_of values bytes ≡ Ok found → Takes bytes (place found.0 ∷ []) found.1 × Unit {0}
one_takes values place is [] found fits e = absurd cc
one_takes values place is (b ∷ bytes) found fits e =
    let t = named_takes (slice_get values b) bytes found e in
    let same : b ∷ bytes ≡ place found.0 ∷ found.1 = ap (λ n. n ∷ bytes) (sym (is b found.0 t.0)) ∙ ap (λ rest. place found.0 ∷ rest) t.1 in
    (record { parts = same; rest_fits = subst AreBytes t.1 (AreBytes-rest b bytes fits) }, tt)

pub one_of_part : {A : Type 0} (values : List A) (place : A → ℕ) → ((n : ℕ) (x : A) → slice_get values n ≡ Some x → place x ≡ n) → ((x : A) → slice_get values (place x) ≡ Some x)
    → IsPart Same Flat (λ x. place x ∷ []) (one_of values)
one_of_part values place is again = record {
  takes = one_takes values place is;
  again = λ x rest h. inl (ap (λ r. as_part r rest) (again x));
}

-- ---- what stands behind its number

pub numbered_part : {A : Type 0} {Fits : A → Type 0} {bytes_of : A → List ℕ} {part : List ℕ → Reading A} → IsPart Fits Flat bytes_of part → IsPart (FitsNumbered Fits) Flat (numbered_bytes bytes_of) (numbered_at part)
unfolding numbered_at
numbered_part p = part_fits (λ x h. h) (λ x h. h) (λ x h. (tt, tt)) (both_part number32_part p)
