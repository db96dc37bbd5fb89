-- A field that is read is the field that was written, and what was written is read again.
use Rattle.std.proofs.Common.{◌≡◌, ℕ, zero, suc, ℤ, ◌+◌, ◌-◌, ◌^◌, ◌<◌, ◌≤◌, Bool, true, false, cond, ltb, eqb, ◌≢◌, pos, negsuc, List, [], ◌∷◌, ◌++◌, length, take, drop, Option, Some, None, refl, sym, ap, subst, ◌∙◌, append_assoc, arith}
use Rattle.std.specs.Prelude.{IfSome, FitsSigned, slice_get}
use Rattle.std.specs.Int.{Width, w32, w64, w128, byte_len, from_be_bytes, to_be_bytes, cast_signed, cast_unsigned}
use Rattle.std.proofs.lemmas.Bool.{ltb-false, le-ltb, eqb-false}
use Rattle.std.proofs.lemmas.List.{take_at, drop_at, take-append-drop, length-append, length-take}
use Rattle.std.proofs.lemmas.Int.{to_z-of_z, of_z-to_z}
use Rattle.std.proofs.Math.Facts.{sfits_to_z}
use mir.Val.{bits}
use Rattle.pt_base.specs.declared.int_type.IntType.{IntType}
use Rattle.pt_base.specs.declared.int_type.IntType.TheVariants as ty
use Rattle.pt_base.specs.declared.trap.Trap.{Trap}
use Rattle.pt_base.specs.declared.trap.Trap.TheVariants as trap
use Rattle.wire.specs.declared.cell.Arg.{Arg}
use Rattle.wire.specs.declared.cell.Arg.TheVariants as argument
use Rattle.wire.specs.declared.cell.WireCell.{WireCell}
use Rattle.wire.specs.declared.cell.WireCell.TheVariants as cell
use Rattle.wire.specs.Spelling.{four_bytes, eight_bytes, four_signed_bytes, sixteen_signed_bytes, truth_byte, type_byte, kind_byte, cell_bytes, argument_bytes, typed_cell_bytes, result_bytes}
use Rattle.wire.specs.Limits.{FitsCell, FitsArgument, FitsTypedCell}
use Rattle.wire.specs.Reading.{◌>>=◌, Field, byte_at, number_at, signed_at, truth_at, kinds, type_of, kind_of, cell_at, pointer_at, argument_at, typed_cell_at, result_at}
use Rattle.wire.proofs.Bytes.{AreBytes, AreBytes-drop, AreBytes-take, AreBytes-rest, IsWide, wide32, wide64, wide128}

-- the value of a step that gave one
pub bind_some : {A B : Type 0} (r : Option A) (f : A → Option B) (y : B) → (r >>= f) ≡ Some y → (x : A) × (r ≡ Some x) × (f x ≡ Some y)
bind_some (Some x) f y e = (x, refl, e)
bind_some None f y e = absurd cc

-- a test that was passed
pub guard_some : {A : Type 0} (b : Bool) (r : Option A) (y : A) → cond b r None ≡ Some y → (b ≡ true) × (r ≡ Some y)
guard_some true r y e = (refl, e)
guard_some false r y e = absurd cc

abbrev some : {A : Type 0} → A → Option A
some x = Some x

pub some_is : {A : Type 0} (x y : A) → some x ≡ some y → x ≡ y
some_is x y e = cc

-- what a reader took from the front
pub record Takes (bytes text rest : List ℕ) : Type 0 where
  pub parts : bytes ≡ text ++ rest
  pub rest_fits : AreBytes rest

pub Takes-then : (a x b y c : List ℕ) → Takes a x b → Takes b y c → Takes a (x ++ y) c
Takes-then a x b y c p q = record { parts = p.parts ∙ ap (λ t. x ++ t) q.parts ∙ sym (append_assoc x y c); rest_fits = q.rest_fits }

pub Takes-tag : (tag : ℕ) (a x b : List ℕ) → Takes a x b → Takes (tag ∷ a) (tag ∷ x) b
Takes-tag tag a x b p = record { parts = ap (λ t. tag ∷ t) p.parts; rest_fits = p.rest_fits }

-- a kind of field: which values it has, how they are spelled and how they are read
pub record IsField {A : Type 0} (Fits : A → Type 0) (spelled : A → List ℕ) (read : List ℕ → Field A) : Type 0 where
  pub takes : (bytes : List ℕ) (found : A × List ℕ) → AreBytes bytes → read bytes ≡ Some found → Takes bytes (spelled found.0) found.1 × Fits found.0
  pub again : (x : A) (rest : List ℕ) → Fits x → read (spelled x ++ rest) ≡ Some (x, rest)

-- ---- numbers

byte_takes : (bytes : List ℕ) (found : ℕ × List ℕ) → AreBytes bytes → byte_at bytes ≡ Some found → Takes bytes (found.0 ∷ []) found.1 × (found.0 < 2 ^ 8)
unfolding byte_at
byte_takes [] found fits e = absurd cc
byte_takes (b ∷ bytes) found fits e =
    subst (λ (x : ℕ × List ℕ). Takes (b ∷ bytes) (x.0 ∷ []) x.1 × (x.0 < 2 ^ 8)) (some_is (b, bytes) found e)
    (record { parts = refl; rest_fits = AreBytes-rest b bytes fits }, fits 0)

byte_again : (b : ℕ) (rest : List ℕ) → b < 2 ^ 8 → byte_at ((b ∷ []) ++ rest) ≡ Some (b, rest)
unfolding byte_at
byte_again b rest h = refl

pub byte_field : IsField (λ b. b < 2 ^ 8) (λ b. b ∷ []) byte_at
byte_field = record { takes = byte_takes; again = byte_again }

pub guard_fails : {A : Type 0} (b : Bool) (r : Option A) (y : A) → cond b None r ≡ Some y → (b ≡ false) × (r ≡ Some y)
guard_fails true r y e = absurd cc
guard_fails false r y e = (refl, e)

number_takes : (w : Width) (limit : ℕ) (wide : IsWide w limit) (bytes : List ℕ) (found : ℕ × List ℕ) → AreBytes bytes → number_at w bytes ≡ Some found
    → Takes bytes (to_be_bytes w found.0) found.1 × (found.0 < limit)
number_takes w limit wide bytes found fits e =
    let size = byte_len w in
    let g = guard_fails (ltb (length bytes) size) (Some (from_be_bytes w (take size bytes), drop size bytes)) found e in
    let long : size ≤ length bytes = ltb-false _ _ g.0 in
    let len : length (take size bytes) ≡ size = omega (arith, length-take size bytes) in
    let front = AreBytes-take size bytes fits in
    subst (λ (x : ℕ × List ℕ). Takes bytes (to_be_bytes w x.0) x.1 × (x.0 < limit)) (some_is (from_be_bytes w (take size bytes), drop size bytes) found g.1)
    (record { parts = rw (wide.back (take size bytes) len front) (sym (take-append-drop size bytes)); rest_fits = AreBytes-drop size bytes fits }, wide.below (take size bytes) len front)

number_again : (w : Width) (limit : ℕ) (wide : IsWide w limit) (n : ℕ) (rest : List ℕ) → n < limit → number_at w (to_be_bytes w n ++ rest) ≡ Some (n, rest)
number_again w limit wide n rest lt =
    let len = wide.len n in
    let long : ltb (length (to_be_bytes w n ++ rest)) (byte_len w) ≡ false = le-ltb _ _ (omega (arith, length-append (to_be_bytes w n) rest)) in
    rw (long, take_at (to_be_bytes w n) rest (byte_len w) len, drop_at (to_be_bytes w n) rest (byte_len w) len, wide.again n lt) refl

pub number_field : (w : Width) (limit : ℕ) → IsWide w limit → IsField (λ n. n < limit) (to_be_bytes w) (number_at w)
number_field w limit wide = record { takes = number_takes w limit wide; again = number_again w limit wide }

pub field32 : IsField (λ n. n < 2 ^ 32) four_bytes (number_at w32)
unfolding four_bytes
field32 = number_field w32 (2 ^ 32) wide32

pub field64 : IsField (λ n. n < 2 ^ 64) eight_bytes (number_at w64)
unfolding eight_bytes
field64 = number_field w64 (2 ^ 64) wide64

-- ---- signed numbers

-- a width whose signed numbers are those of its bytes
record IsSigned (w : Width) : Type 0 where
  below : (z : ℤ) → FitsSigned w z → cast_unsigned w z < 2 ^ bits w
  fits : (n : ℕ) → n < 2 ^ bits w → FitsSigned w (cast_signed w n)

below32 : (z : ℤ) → FitsSigned w32 z → cast_unsigned w32 z < 2 ^ 32
below32 (pos n) h = omega (arith, h.sfits)
below32 (negsuc n) h = omega (arith, h.sfits)

below128 : (z : ℤ) → FitsSigned w128 z → cast_unsigned w128 z < 2 ^ 128
below128 (pos n) h = omega (arith, h.sfits)
below128 (negsuc n) h = omega (arith, h.sfits)

signed32 : IsSigned w32
signed32 = record { below = below32; fits = λ n lt. sfits_to_z {w = w32} {n = n} (record { fits = lt }) }

signed128 : IsSigned w128
signed128 = record { below = below128; fits = λ n lt. sfits_to_z {w = w128} {n = n} (record { fits = lt }) }

signed_takes : (w : Width) → IsWide w (2 ^ bits w) → IsSigned w → (bytes : List ℕ) (found : ℤ × List ℕ) → AreBytes bytes → signed_at w bytes ≡ Some found
    → Takes bytes (to_be_bytes w (cast_unsigned w found.0)) found.1 × FitsSigned w found.0
unfolding signed_at
signed_takes w wide signed bytes found fits e =
    let b = bind_some (number_at w bytes) (λ n. Some (cast_signed w n.0, n.1)) found e in
    let t = number_takes w (2 ^ bits w) wide bytes b.0 fits b.1 in
    let front : to_be_bytes w (cast_unsigned w (cast_signed w b.0.0)) ≡ to_be_bytes w b.0.0 = ap (to_be_bytes w) (of_z-to_z w b.0.0 t.1) in
    subst (λ (x : ℤ × List ℕ). Takes bytes (to_be_bytes w (cast_unsigned w x.0)) x.1 × FitsSigned w x.0) (some_is (cast_signed w b.0.0, b.0.1) found b.2)
    (subst (λ text. Takes bytes text b.0.1) (sym front) t.0, signed.fits b.0.0 t.1)

signed_again : (w : Width) → IsWide w (2 ^ bits w) → IsSigned w → (z : ℤ) (rest : List ℕ) → FitsSigned w z → signed_at w (to_be_bytes w (cast_unsigned w z) ++ rest) ≡ Some (z, rest)
unfolding signed_at
signed_again w wide signed z rest fits =
    ap (λ r. r >>= λ n. Some (cast_signed w n.0, n.1)) (number_again w (2 ^ bits w) wide (cast_unsigned w z) rest (signed.below z fits))
    ∙ ap (λ x. Some (x, rest)) (to_z-of_z w z fits)

pub field_signed32 : IsField (FitsSigned w32) four_signed_bytes (signed_at w32)
unfolding four_signed_bytes
field_signed32 = record { takes = signed_takes w32 wide32 signed32; again = signed_again w32 wide32 signed32 }

pub field_signed128 : IsField (FitsSigned w128) sixteen_signed_bytes (signed_at w128)
unfolding sixteen_signed_bytes
field_signed128 = record { takes = signed_takes w128 wide128 signed128; again = signed_again w128 wide128 signed128 }

-- ---- a truth value, a type, a kind

truth_takes : (bytes : List ℕ) (found : Bool × List ℕ) → AreBytes bytes → truth_at bytes ≡ Some found → Takes bytes (truth_byte found.0 ∷ []) found.1 × Unit {0}
unfolding truth_at
truth_takes [] found fits e = absurd cc
truth_takes (zero ∷ bytes) found fits e =
    subst (λ (x : Bool × List ℕ). Takes (0 ∷ bytes) (truth_byte x.0 ∷ []) x.1 × Unit {0}) (some_is (false, bytes) found e) (record { parts = refl; rest_fits = AreBytes-rest 0 bytes fits }, tt)
truth_takes (suc zero ∷ bytes) found fits e =
    subst (λ (x : Bool × List ℕ). Takes (1 ∷ bytes) (truth_byte x.0 ∷ []) x.1 × Unit {0}) (some_is (true, bytes) found e) (record { parts = refl; rest_fits = AreBytes-rest 1 bytes fits }, tt)
truth_takes (suc (suc b) ∷ bytes) found fits e = absurd cc

truth_again : (b : Bool) (rest : List ℕ) → Unit {0} → truth_at ((truth_byte b ∷ []) ++ rest) ≡ Some (b, rest)
unfolding truth_at
truth_again false rest h = refl
truth_again true rest h = refl

pub truth_field : IsField (λ _. Unit {0}) (λ b. truth_byte b ∷ []) truth_at
truth_field = record { takes = truth_takes; again = truth_again }

pub type_is : (n : ℕ) (t : IntType) → type_of n ≡ Some t → type_byte t ≡ n
unfolding type_of
type_is zero t e = ap type_byte (sym (some_is ty.Char t e))
type_is (suc zero) t e = ap type_byte (sym (some_is ty.SChar t e))
type_is (suc (suc zero)) t e = ap type_byte (sym (some_is ty.UChar t e))
type_is (suc (suc (suc zero))) t e = ap type_byte (sym (some_is ty.Short t e))
type_is (suc (suc (suc (suc zero)))) t e = ap type_byte (sym (some_is ty.UShort t e))
type_is (suc (suc (suc (suc (suc zero))))) t e = ap type_byte (sym (some_is ty.Int t e))
type_is (suc (suc (suc (suc (suc (suc zero)))))) t e = ap type_byte (sym (some_is ty.UInt t e))
type_is (suc (suc (suc (suc (suc (suc (suc zero))))))) t e = ap type_byte (sym (some_is ty.Long t e))
type_is (suc (suc (suc (suc (suc (suc (suc (suc zero)))))))) t e = ap type_byte (sym (some_is ty.ULong t e))
type_is (suc (suc (suc (suc (suc (suc (suc (suc (suc n))))))))) t e = absurd cc

pub type_again : (t : IntType) → type_of (type_byte t) ≡ Some t
unfolding type_of
type_again ty.Char = refl
type_again ty.SChar = refl
type_again ty.UChar = refl
type_again ty.Short = refl
type_again ty.UShort = refl
type_again ty.Int = refl
type_again ty.UInt = refl
type_again ty.Long = refl
type_again ty.ULong = refl

kind_place : (n : ℕ) (t : Trap) → slice_get kinds n ≡ Some t → kind_byte t ≡ n + 1
kind_place zero t e = ap kind_byte (sym (some_is trap.Overflow t e))
kind_place (suc zero) t e = ap kind_byte (sym (some_is trap.DivZero t e))
kind_place (suc (suc zero)) t e = ap kind_byte (sym (some_is trap.Shift t e))
kind_place (suc (suc (suc zero))) t e = ap kind_byte (sym (some_is trap.Bounds t e))
kind_place (suc (suc (suc (suc zero)))) t e = ap kind_byte (sym (some_is trap.Null t e))
kind_place (suc (suc (suc (suc (suc zero))))) t e = ap kind_byte (sym (some_is trap.PtrRange t e))
kind_place (suc (suc (suc (suc (suc (suc zero)))))) t e = ap kind_byte (sym (some_is trap.PtrCompare t e))
kind_place (suc (suc (suc (suc (suc (suc (suc zero))))))) t e = ap kind_byte (sym (some_is trap.Depth t e))
kind_place (suc (suc (suc (suc (suc (suc (suc (suc zero)))))))) t e = ap kind_byte (sym (some_is trap.NoReturn t e))
kind_place (suc (suc (suc (suc (suc (suc (suc (suc (suc n))))))))) t e = absurd cc

pub kind_is : (n : ℕ) (t : Trap) → kind_of n ≡ Some t → kind_byte t ≡ n
unfolding kind_of
kind_is n t e =
    let g = guard_fails (eqb n 0) (slice_get kinds (n - 1)) t e in
    let some : n ≢ 0 = eqb-false n 0 g.0 in
    let place = kind_place (n - 1) t g.1 in
    omega (arith, place)

pub kind_again : (t : Trap) → kind_of (kind_byte t) ≡ Some t
unfolding kind_of
kind_again trap.Overflow = refl
kind_again trap.DivZero = refl
kind_again trap.Shift = refl
kind_again trap.Bounds = refl
kind_again trap.Null = refl
kind_again trap.PtrRange = refl
kind_again trap.PtrCompare = refl
kind_again trap.Depth = refl
kind_again trap.NoReturn = refl

-- ---- cells

cell_takes : (bytes : List ℕ) (found : WireCell × List ℕ) → AreBytes bytes → cell_at bytes ≡ Some found → Takes bytes (cell_bytes found.0) found.1 × FitsCell found.0
unfolding cell_at
cell_takes [] found fits e = absurd cc
cell_takes (zero ∷ bytes) found fits e =
    let b = bind_some (signed_at w128 bytes) (λ n. Some (cell.Number n.0, n.1)) found e in
    let t = field_signed128.takes bytes b.0 (AreBytes-rest 0 bytes fits) b.1 in
    subst (λ (x : WireCell × List ℕ). Takes (0 ∷ bytes) (cell_bytes x.0) x.1 × FitsCell x.0) (some_is (cell.Number b.0.0, b.0.1) found b.2) (Takes-tag 0 _ _ _ t.0, t.1)
cell_takes (suc zero ∷ bytes) found fits e =
    let b = bind_some (number_at w64 bytes) (λ handle. Some (cell.Sealed handle.0, handle.1)) found e in
    let t = field64.takes bytes b.0 (AreBytes-rest 1 bytes fits) b.1 in
    subst (λ (x : WireCell × List ℕ). Takes (1 ∷ bytes) (cell_bytes x.0) x.1 × FitsCell x.0) (some_is (cell.Sealed b.0.0, b.0.1) found b.2) (Takes-tag 1 _ _ _ t.0, t.1)
cell_takes (suc (suc b) ∷ bytes) found fits e = absurd cc

cell_again : (c : WireCell) (rest : List ℕ) → FitsCell c → cell_at (cell_bytes c ++ rest) ≡ Some (c, rest)
unfolding cell_at
cell_again (cell.Number n) rest fits = ap (λ r. r >>= λ n. Some (cell.Number n.0, n.1)) (field_signed128.again n rest fits)
cell_again (cell.Sealed handle) rest fits = ap (λ r. r >>= λ h. Some (cell.Sealed h.0, h.1)) (field64.again handle rest fits)

pub cell_field : IsField FitsCell cell_bytes cell_at
cell_field = record { takes = cell_takes; again = cell_again }

pub typed_cell_takes : (bytes : List ℕ) (found : (IntType × WireCell) × List ℕ) → AreBytes bytes → typed_cell_at bytes ≡ Some found → Takes bytes (typed_cell_bytes found.0) found.1 × FitsTypedCell found.0
unfolding typed_cell_at
typed_cell_takes bytes found fits e =
    let a = bind_some (byte_at bytes) (λ b. type_of b.0 >>= λ t. cell_at b.1 >>= λ x. Some ((t, x.0), x.1)) found e in
    let b = bind_some (type_of a.0.0) (λ t. cell_at a.0.1 >>= λ x. Some ((t, x.0), x.1)) found a.2 in
    let d = bind_some (cell_at a.0.1) (λ x. Some ((b.0, x.0), x.1)) found b.2 in
    let t0 = byte_field.takes bytes a.0 fits a.1 in
    let t1 = cell_field.takes a.0.1 d.0 t0.0.rest_fits d.1 in
    let both = Takes-then bytes (a.0.0 ∷ []) a.0.1 (cell_bytes d.0.0) d.0.1 t0.0 t1.0 in
    let same : a.0.0 ∷ cell_bytes d.0.0 ≡ type_byte b.0 ∷ cell_bytes d.0.0 = ap (λ k. k ∷ cell_bytes d.0.0) (sym (type_is a.0.0 b.0 b.1)) in
    let made : (IntType × WireCell) × List ℕ = ((b.0, d.0.0), d.0.1) in
    subst (λ (x : (IntType × WireCell) × List ℕ). Takes bytes (typed_cell_bytes x.0) x.1 × FitsTypedCell x.0) (some_is made found d.2)
    (subst (λ text. Takes bytes text d.0.1) same both, t1.1)

typed_cell_again : (typed : IntType × WireCell) (rest : List ℕ) → FitsTypedCell typed → typed_cell_at (typed_cell_bytes typed ++ rest) ≡ Some (typed, rest)
unfolding typed_cell_at byte_at
typed_cell_again typed rest fits = rw (type_again typed.0, cell_field.again typed.1 rest fits) refl

pub typed_cell_field : IsField FitsTypedCell typed_cell_bytes typed_cell_at
typed_cell_field = record { takes = typed_cell_takes; again = typed_cell_again }

-- ---- arguments

pointer_takes : (bytes : List ℕ) (found : Arg × List ℕ) → AreBytes bytes → pointer_at bytes ≡ Some found → Takes (3 ∷ bytes) (argument_bytes found.0) found.1 × FitsArgument found.0
unfolding pointer_at
pointer_takes bytes found fits e =
    let a = bind_some (byte_at bytes) (λ block. number_at w32 block.1 >>= λ base. number_at w32 base.1 >>= λ count. number_at w32 count.1 >>= λ index. Some (argument.At block.0 base.0 count.0 index.0, index.1)) found e in
    let b = bind_some (number_at w32 a.0.1) (λ base. number_at w32 base.1 >>= λ count. number_at w32 count.1 >>= λ index. Some (argument.At a.0.0 base.0 count.0 index.0, index.1)) found a.2 in
    let d = bind_some (number_at w32 b.0.1) (λ count. number_at w32 count.1 >>= λ index. Some (argument.At a.0.0 b.0.0 count.0 index.0, index.1)) found b.2 in
    let f = bind_some (number_at w32 d.0.1) (λ index. Some (argument.At a.0.0 b.0.0 d.0.0 index.0, index.1)) found d.2 in
    let t0 = byte_field.takes bytes a.0 fits a.1 in
    let t1 = field32.takes a.0.1 b.0 t0.0.rest_fits b.1 in
    let t2 = field32.takes b.0.1 d.0 t1.0.rest_fits d.1 in
    let t3 = field32.takes d.0.1 f.0 t2.0.rest_fits f.1 in
    let e23 = Takes-then b.0.1 (four_bytes d.0.0) d.0.1 (four_bytes f.0.0) f.0.1 t2.0 t3.0 in
    let e13 = Takes-then a.0.1 (four_bytes b.0.0) b.0.1 (four_bytes d.0.0 ++ four_bytes f.0.0) f.0.1 t1.0 e23 in
    let e03 = Takes-then bytes (a.0.0 ∷ []) a.0.1 (four_bytes b.0.0 ++ (four_bytes d.0.0 ++ four_bytes f.0.0)) f.0.1 t0.0 e13 in
    let made : Arg × List ℕ = (argument.At a.0.0 b.0.0 d.0.0 f.0.0, f.0.1) in
    subst (λ (x : Arg × List ℕ). Takes (3 ∷ bytes) (argument_bytes x.0) x.1 × FitsArgument x.0) (some_is made found f.2)
    (Takes-tag 3 _ _ _ e03, (t0.1, t1.1, t2.1, t3.1))

pointer_again : (block base count index : ℕ) (rest : List ℕ) → FitsArgument (argument.At block base count index)
    → pointer_at (block ∷ (four_bytes base ++ (four_bytes count ++ four_bytes index)) ++ rest) ≡ Some (argument.At block base count index, rest)
unfolding pointer_at byte_at
pointer_again block base count index rest fits =
    let regrouped : (four_bytes base ++ (four_bytes count ++ four_bytes index)) ++ rest ≡ four_bytes base ++ (four_bytes count ++ (four_bytes index ++ rest)) =
    append_assoc (four_bytes base) (four_bytes count ++ four_bytes index) rest ∙ ap (λ x. four_bytes base ++ x) (append_assoc (four_bytes count) (four_bytes index) rest) in
    ap (λ x. pointer_at (block ∷ x)) regrouped
    ∙ rw (field32.again base (four_bytes count ++ (four_bytes index ++ rest)) fits.1, field32.again count (four_bytes index ++ rest) fits.2, field32.again index rest fits.3) refl

argument_takes : (bytes : List ℕ) (found : Arg × List ℕ) → AreBytes bytes → argument_at bytes ≡ Some found → Takes bytes (argument_bytes found.0) found.1 × FitsArgument found.0
unfolding argument_at
argument_takes [] found fits e = absurd cc
argument_takes (zero ∷ bytes) found fits e =
    let b = bind_some (signed_at w128 bytes) (λ n. Some (argument.Number n.0, n.1)) found e in
    let t = field_signed128.takes bytes b.0 (AreBytes-rest 0 bytes fits) b.1 in
    subst (λ (x : Arg × List ℕ). Takes (0 ∷ bytes) (argument_bytes x.0) x.1 × FitsArgument x.0) (some_is (argument.Number b.0.0, b.0.1) found b.2) (Takes-tag 0 _ _ _ t.0, t.1)
argument_takes (suc zero ∷ bytes) found fits e =
    let b = bind_some (number_at w64 bytes) (λ handle. Some (argument.Sealed handle.0, handle.1)) found e in
    let t = field64.takes bytes b.0 (AreBytes-rest 1 bytes fits) b.1 in
    subst (λ (x : Arg × List ℕ). Takes (1 ∷ bytes) (argument_bytes x.0) x.1 × FitsArgument x.0) (some_is (argument.Sealed b.0.0, b.0.1) found b.2) (Takes-tag 1 _ _ _ t.0, t.1)
argument_takes (suc (suc zero) ∷ bytes) found fits e =
    subst (λ (x : Arg × List ℕ). Takes (2 ∷ bytes) (argument_bytes x.0) x.1 × FitsArgument x.0) (some_is (argument.Null, bytes) found e) (record { parts = refl; rest_fits = AreBytes-rest 2 bytes fits }, tt)
argument_takes (suc (suc (suc zero)) ∷ bytes) found fits e = pointer_takes bytes found (AreBytes-rest 3 bytes fits) e
argument_takes (suc (suc (suc (suc b))) ∷ bytes) found fits e = absurd cc

argument_again : (a : Arg) (rest : List ℕ) → FitsArgument a → argument_at (argument_bytes a ++ rest) ≡ Some (a, rest)
unfolding argument_at
argument_again (argument.Number n) rest fits = ap (λ r. r >>= λ n. Some (argument.Number n.0, n.1)) (field_signed128.again n rest fits)
argument_again (argument.Sealed handle) rest fits = ap (λ r. r >>= λ h. Some (argument.Sealed h.0, h.1)) (field64.again handle rest fits)
argument_again argument.Null rest fits = refl
argument_again (argument.At block base count index) rest fits = pointer_again block base count index rest fits

pub argument_field : IsField FitsArgument argument_bytes argument_at
argument_field = record { takes = argument_takes; again = argument_again }

-- ---- the result of a call

result_takes : (bytes : List ℕ) (found : Option WireCell × List ℕ) → AreBytes bytes → result_at bytes ≡ Some found → Takes bytes (result_bytes found.0) found.1 × IfSome found.0 FitsCell
unfolding result_at
result_takes [] found fits e = absurd cc
result_takes (zero ∷ bytes) found fits e =
    subst (λ (x : Option WireCell × List ℕ). Takes (0 ∷ bytes) (result_bytes x.0) x.1 × IfSome x.0 FitsCell) (some_is (None, bytes) found e) (record { parts = refl; rest_fits = AreBytes-rest 0 bytes fits }, tt)
result_takes (suc zero ∷ bytes) found fits e =
    let b = bind_some (cell_at bytes) (λ x. Some (Some x.0, x.1)) found e in
    let t = cell_field.takes bytes b.0 (AreBytes-rest 1 bytes fits) b.1 in
    subst (λ (x : Option WireCell × List ℕ). Takes (1 ∷ bytes) (result_bytes x.0) x.1 × IfSome x.0 FitsCell) (some_is (Some b.0.0, b.0.1) found b.2) (Takes-tag 1 _ _ _ t.0, t.1)
result_takes (suc (suc b) ∷ bytes) found fits e = absurd cc

result_again : (o : Option WireCell) (rest : List ℕ) → IfSome o FitsCell → result_at (result_bytes o ++ rest) ≡ Some (o, rest)
unfolding result_at
result_again None rest fits = refl
result_again (Some c) rest fits = ap (λ r. r >>= λ x. Some (Some x.0, x.1)) (cell_field.again c rest fits)

pub result_field : IsField (λ o. IfSome o FitsCell) result_bytes result_at
result_field = record { takes = result_takes; again = result_again }
