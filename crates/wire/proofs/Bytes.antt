-- Lists of bytes, and numbers of 16 bytes.
use Rattle.std.proofs.Common.{◌≡◌, ℕ, zero, suc, ◌+◌, ◌*◌, ◌/◌, ◌%◌, ◌^◌, ◌<◌, ◌≤◌, List, [], ◌∷◌, ◌++◌, length, get_or, take, drop, refl, sym, ap, subst, ◌∙◌, arith, inl, inr}
use Rattle.std.specs.Int.{Width, w32, w64, w128, byte_len, from_be_bytes, to_be_bytes, bytes_high_first, byte_at}
use Rattle.std.proofs.lemmas.Bool.{cases_lt}
use Rattle.std.proofs.lemmas.List.{length-take, get_or-drop, get_or-take, get_or_past, get_or_default, get_or-append-add}
use Rattle.std.proofs.lemmas.Nat.{be_bytes_4, be_bytes_8, from_be_bytes-to_be_bytes_4, from_be_bytes-to_be_bytes_8, div-mul-add, mod-mul-add}
use Rattle.std.proofs.Common.{lit<}
use Rattle.std.proofs.Math.Nat.{pow-succ', div-one, mul-le-mul_right, mod-eq_of_lt}
use Rattle.std.proofs.Math.Arith.{mod-mul}
use Rattle.wire.specs.Limits.{IsBytes}

-- every place of the list has a byte
abbrev pub AreBytes : List ℕ → Type 0
AreBytes bytes = (i : ℕ) → get_or bytes i 0 < 256

pub AreBytes-drop : (n : ℕ) (bytes : List ℕ) → AreBytes bytes → AreBytes (drop n bytes)
AreBytes-drop n bytes h i = rw get_or-drop (h (n + i))

pub AreBytes-take : (n : ℕ) (bytes : List ℕ) → AreBytes bytes → AreBytes (take n bytes)
AreBytes-take n bytes h i =
    elim (cases_lt i n) [
      | inl lt ↦ rw (get_or-take n bytes i 0 lt) (h i)
      | inr le ↦ rw (get_or_past (take n bytes) i 0 (omega (arith, length-take n bytes))) (omega arith)
    ]

pub AreBytes-right : (a b : List ℕ) → AreBytes (a ++ b) → AreBytes b
AreBytes-right a b h i = rw (← get_or-append-add a b i 0) (h (length a + i))

pub AreBytes-rest : (b : ℕ) (bytes : List ℕ) → AreBytes (b ∷ bytes) → AreBytes bytes
AreBytes-rest b bytes h i = h (suc i)

pub AreBytes-from : (bytes : List ℕ) → IsBytes bytes → AreBytes bytes
AreBytes-from bytes h i =
    elim (cases_lt i (length bytes)) [
      | inl lt ↦ h i 0 lt
      | inr le ↦ rw (get_or_past bytes i 0 le) (omega arith)
    ]

pub IsBytes-from : (bytes : List ℕ) → AreBytes bytes → IsBytes bytes
IsBytes-from bytes h k d lt = rw (get_or_default bytes k d 0 lt) (h k)

-- ---- numbers of any length

-- what the bytes are worth, the highest first
abbrev pub worth : List ℕ → ℕ
worth [] = 0
worth (b ∷ bytes) = b * 256 ^ length bytes + worth bytes

worth_below : (bytes : List ℕ) → AreBytes bytes → worth bytes < 256 ^ length bytes
worth_below [] h = lit< tt
worth_below (b ∷ bytes) h =
    let rest : worth bytes < 256 ^ length bytes = worth_below bytes (AreBytes-rest b bytes h) in
    let here : b ≤ 255 = omega (arith, h 0) in
    let most : b * 256 ^ length bytes ≤ 255 * 256 ^ length bytes = mul-le-mul_right (256 ^ length bytes) here in
    rw pow-succ' (omega arith)

power_above : (k : ℕ) → 0 < 256 ^ k
power_above zero = lit< tt
power_above (suc k) = let h : 0 < 256 ^ k = power_above k in rw pow-succ' (omega arith)

-- byte k, also where it is the lowest
byte_is : (k n : ℕ) → byte_at k n ≡ n / 256 ^ k % 256
byte_is zero n = ap (λ m. m % 256) (sym (div-one n))
byte_is (suc k) n = refl

length-bytes_high_first : (k n : ℕ) → length (bytes_high_first k n) ≡ k
length-bytes_high_first zero n = refl
length-bytes_high_first (suc k) n = ap suc (length-bytes_high_first k n)

pub worth-bytes_high_first : (k n : ℕ) → worth (bytes_high_first k n) ≡ n % 256 ^ k
worth-bytes_high_first zero n = omega arith
worth-bytes_high_first (suc k) n =
    ap (λ m. m * 256 ^ length (bytes_high_first k n) + worth (bytes_high_first k n)) (byte_is k n)
    ∙ ap (λ m. n / 256 ^ k % 256 * 256 ^ m + worth (bytes_high_first k n)) (length-bytes_high_first k n)
    ∙ ap (λ m. n / 256 ^ k % 256 * 256 ^ k + m) (worth-bytes_high_first k n)
    ∙ sym (mod-mul n {m = 256} {c = 256 ^ k} (lit< tt) (power_above k))
    ∙ ap (λ m. n % m) (sym (pow-succ' 256 k))

-- the bytes of a number that ends in these bytes
bytes_back : (bytes : List ℕ) (high : ℕ) → AreBytes bytes → bytes_high_first (length bytes) (high * 256 ^ length bytes + worth bytes) ≡ bytes
bytes_back [] high h = refl
bytes_back (b ∷ bytes) high h =
    let size = length bytes in
    let rest = AreBytes-rest b bytes h in
    let below : worth bytes < 256 ^ size = worth_below bytes rest in
    let turned : high * 256 ^ suc size + (b * 256 ^ size + worth bytes) ≡ (high * 256 + b) * 256 ^ size + worth bytes =
    ap (λ p. high * p + (b * 256 ^ size + worth bytes)) (pow-succ' 256 size) ∙ omega arith in
    let first : byte_at size (high * 256 ^ suc size + (b * 256 ^ size + worth bytes)) ≡ b =
    byte_is size (high * 256 ^ suc size + (b * 256 ^ size + worth bytes)) ∙ ap (λ n. n / 256 ^ size % 256) turned
    ∙ ap (λ n. n % 256) (div-mul-add (high * 256 + b) (256 ^ size) (worth bytes) below) ∙ mod-mul-add high 256 b (h 0) in
    let others : bytes_high_first size (high * 256 ^ suc size + (b * 256 ^ size + worth bytes)) ≡ bytes =
    ap (bytes_high_first size) turned ∙ bytes_back bytes (high * 256 + b) rest in
    λ i. first i ∷ others i

-- ---- 16 bytes

worth_16 : (a b c d e f g h i j k l m n o p : ℕ)
    → from_be_bytes w128 (a ∷ b ∷ c ∷ d ∷ e ∷ f ∷ g ∷ h ∷ i ∷ j ∷ k ∷ l ∷ m ∷ n ∷ o ∷ p ∷ [])
    ≡ worth (a ∷ b ∷ c ∷ d ∷ e ∷ f ∷ g ∷ h ∷ i ∷ j ∷ k ∷ l ∷ m ∷ n ∷ o ∷ p ∷ [])
worth_16 a b c d e f g h i j k l m n o p = omega arith

from_be_bytes_16 : (bytes : List ℕ) → length bytes ≡ 16 → from_be_bytes w128 bytes ≡ worth bytes
from_be_bytes_16 [] s = absurd (omega arith)
from_be_bytes_16 (a ∷ []) s = absurd (omega arith)
from_be_bytes_16 (a ∷ b ∷ []) s = absurd (omega arith)
from_be_bytes_16 (a ∷ b ∷ c ∷ []) s = absurd (omega arith)
from_be_bytes_16 (a ∷ b ∷ c ∷ d ∷ []) s = absurd (omega arith)
from_be_bytes_16 (a ∷ b ∷ c ∷ d ∷ e ∷ []) s = absurd (omega arith)
from_be_bytes_16 (a ∷ b ∷ c ∷ d ∷ e ∷ f ∷ []) s = absurd (omega arith)
from_be_bytes_16 (a ∷ b ∷ c ∷ d ∷ e ∷ f ∷ g ∷ []) s = absurd (omega arith)
from_be_bytes_16 (a ∷ b ∷ c ∷ d ∷ e ∷ f ∷ g ∷ h ∷ []) s = absurd (omega arith)
from_be_bytes_16 (a ∷ b ∷ c ∷ d ∷ e ∷ f ∷ g ∷ h ∷ i ∷ []) s = absurd (omega arith)
from_be_bytes_16 (a ∷ b ∷ c ∷ d ∷ e ∷ f ∷ g ∷ h ∷ i ∷ j ∷ []) s = absurd (omega arith)
from_be_bytes_16 (a ∷ b ∷ c ∷ d ∷ e ∷ f ∷ g ∷ h ∷ i ∷ j ∷ k ∷ []) s = absurd (omega arith)
from_be_bytes_16 (a ∷ b ∷ c ∷ d ∷ e ∷ f ∷ g ∷ h ∷ i ∷ j ∷ k ∷ l ∷ []) s = absurd (omega arith)
from_be_bytes_16 (a ∷ b ∷ c ∷ d ∷ e ∷ f ∷ g ∷ h ∷ i ∷ j ∷ k ∷ l ∷ m ∷ []) s = absurd (omega arith)
from_be_bytes_16 (a ∷ b ∷ c ∷ d ∷ e ∷ f ∷ g ∷ h ∷ i ∷ j ∷ k ∷ l ∷ m ∷ n ∷ []) s = absurd (omega arith)
from_be_bytes_16 (a ∷ b ∷ c ∷ d ∷ e ∷ f ∷ g ∷ h ∷ i ∷ j ∷ k ∷ l ∷ m ∷ n ∷ o ∷ []) s = absurd (omega arith)
from_be_bytes_16 (a ∷ b ∷ c ∷ d ∷ e ∷ f ∷ g ∷ h ∷ i ∷ j ∷ k ∷ l ∷ m ∷ n ∷ o ∷ p ∷ []) s = worth_16 a b c d e f g h i j k l m n o p
from_be_bytes_16 (a ∷ b ∷ c ∷ d ∷ e ∷ f ∷ g ∷ h ∷ i ∷ j ∷ k ∷ l ∷ m ∷ n ∷ o ∷ p ∷ q ∷ bytes) s = absurd (omega arith)

-- ---- numbers of a width

pub record IsWide (w : Width) (limit : ℕ) : Type 0 where
  pub len : (n : ℕ) → length (to_be_bytes w n) ≡ byte_len w
  pub back : (bytes : List ℕ) → length bytes ≡ byte_len w → AreBytes bytes → to_be_bytes w (from_be_bytes w bytes) ≡ bytes
  pub again : (n : ℕ) → n < limit → from_be_bytes w (to_be_bytes w n) ≡ n
  pub below : (bytes : List ℕ) → length bytes ≡ byte_len w → AreBytes bytes → from_be_bytes w bytes < limit

pub wide32 : IsWide w32 (2 ^ 32)
wide32 = record {
  len = λ n. refl;
  back = λ bytes len fits. be_bytes_4 bytes _ len fits refl;
  again = λ n lt. from_be_bytes-to_be_bytes_4 n lt;
  below = λ bytes len fits. omega (arith, fits 0, fits 1, fits 2, fits 3);
}

pub wide64 : IsWide w64 (2 ^ 64)
wide64 = record {
  len = λ n. refl;
  back = λ bytes len fits. be_bytes_8 bytes _ len fits refl;
  again = λ n lt. from_be_bytes-to_be_bytes_8 n lt;
  below = λ bytes len fits. omega (arith, fits 0, fits 1, fits 2, fits 3, fits 4, fits 5, fits 6, fits 7);
}

back_16 : (bytes : List ℕ) → length bytes ≡ 16 → AreBytes bytes → bytes_high_first 16 (worth bytes) ≡ bytes
back_16 bytes len fits =
    let plain : 0 * 256 ^ length bytes + worth bytes ≡ worth bytes = omega arith in
    let back : bytes_high_first (length bytes) (worth bytes) ≡ bytes = ap (bytes_high_first (length bytes)) (sym plain) ∙ bytes_back bytes 0 fits in
    subst (λ size. bytes_high_first size (worth bytes) ≡ bytes) len back

below_16 : (bytes : List ℕ) → length bytes ≡ 16 → AreBytes bytes → worth bytes < 2 ^ 128
below_16 bytes len fits = subst (λ size. worth bytes < 256 ^ size) len (worth_below bytes fits)

pub wide128 : IsWide w128 (2 ^ 128)
wide128 = record {
  len = λ n. refl;
  back = λ bytes len fits. ap (to_be_bytes w128) (from_be_bytes_16 bytes len) ∙ back_16 bytes len fits;
  again = λ n lt. from_be_bytes_16 (to_be_bytes w128 n) refl ∙ worth-bytes_high_first 16 n ∙ mod-eq_of_lt lt;
  below = λ bytes len fits. rw (from_be_bytes_16 bytes len) (below_16 bytes len fits);
}
