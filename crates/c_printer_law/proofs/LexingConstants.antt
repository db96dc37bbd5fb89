-- A decimal constant of a value and a type reads as that constant.
use Rattle.std.proofs.Common.{◌≡◌, ℕ, ◌+◌, ◌-◌, ◌*◌, ◌%◌, ◌^◌, ◌<◌, ◌≤◌, Bool, true, false, nat_eq, List, [], ◌∷◌, ◌++◌, length, take, drop, get_or, refl, ap, sym, ◌∙◌, arith, ⊎_elim, length-append}
use Rattle.std.specs.Prelude.{Some, ◌&&◌, ℤ, pos, negsuc, int_le}
use Rattle.std.specs.List.{list_all, prefix_len}
use Rattle.std.specs.Char.{is_ascii_digit, is_digit, digit_value}
use Rattle.std.specs.Fmt.{decimal, signed_decimal}
use Rattle.std.proofs.lemmas.Fmt.{decimal_by_steps, decimal_digit, first_decimal}
use Rattle.std.proofs.lemmas.Bool.{and_parts, and_from, cases_lt}
use Rattle.std.proofs.lemmas.List.{take_at, drop_at, take_all}
use Rattle.std.proofs.lemmas.List.Sums.{fold-append}
use Rattle.pt_base.specs.IntTypes.{high_of}
use Rattle.pt_base.specs.declared.int_type.IntType.{IntType}
use Rattle.pt_base.specs.declared.int_type.IntType.TheVariants.{Int, UInt, Long, ULong}
use Rattle.pt_base.proofs.Members.{all_true_numbers_append}
use Rattle.c_lexer.specs.Bytes.{number_in}
use Rattle.c_lexer.specs.Numbers.{suffix_of, types_of, type_for, constant_in, constant_of}
use Rattle.c_lexer.specs.declared.number.Suffix.{Suffix}
use Rattle.c_lexer.specs.declared.number.Suffix.TheVariants as suffix
use Rattle.c_lexer.specs.declared.token.TokenValue.TheVariants.{Constant}
use Rattle.c_lexer.proofs.NumberLemmas.{constant_is}
use Rattle.c_printer.specs.Pieces.{suffix_for}
use Rattle.c_printer.specs.Plain.{is_constant_type}
use Rattle.c_printer_law.proofs.LexingStarts.{is_number_byte, run_stops}

-- digits that spell the number
pub record Spells (n : ℕ) (ds : List ℕ) : Type 0 where
  pub digits : list_all is_ascii_digit ds ≡ true
  pub value : number_in 10 ds ≡ n
  pub some : 0 < length ds

digit_is : (d : ℕ) → d < 10 → (is_ascii_digit (48 + d) ≡ true) × (digit_value (48 + d) ≡ d)
digit_is d low = (grind arith, grind arith)

all_more : (p : ℕ → Bool) (xs : List ℕ) (y : ℕ) → list_all p xs ≡ true → p y ≡ true → list_all p (xs ++ (y ∷ [])) ≡ true
all_more p [] y all last = grind (arith, last)
all_more p (x ∷ xs) y all last =
    let parts = and_parts (p x) (list_all p xs) all in
    and_from (p x) (list_all p (xs ++ (y ∷ []))) parts.0 (all_more p xs y parts.1 last)

pub spelled : (n : ℕ) → n < 2 ^ 64 → Spells n (decimal n)
spelled n small = decimal_by_steps Spells
    (λ n low. let d = digit_is n low in record { digits = grind (arith, d.0); value = (let none : 0 + digit_value (48 + n) ≡ digit_value (48 + n) = omega arith in none ∙ d.1); some = omega arith })
    (λ n ds ten front. let d = digit_is (n % 10) (omega arith) in
    let more : number_in 10 (ds ++ ((48 + n % 10) ∷ [])) ≡ number_in 10 ds * 10 + digit_value (48 + n % 10)
    = fold-append (λ n d. n * 10 + digit_value d) 0 ds ((48 + n % 10) ∷ []) in
    let value = front.value in
    record {
      digits = all_more is_ascii_digit ds (48 + n % 10) front.digits d.0;
      value = more ∙ ap (λ m. m * 10 + digit_value (48 + n % 10)) value ∙ (let last = d.1 in omega (arith, last));
      some = let size = length-append ds ((48 + n % 10) ∷ []) in omega (arith, size);
    })
    n small

-- the suffix of a type: what it is to the lexer
record Suffixed (n : ℕ) (t : IntType) (s : Suffix) : Type 0 where
  is : suffix_of (suffix_for t) ≡ Some s
  stops : is_digit (get_or (suffix_for t) 0 0) 10 ≡ false
  type : type_for n (types_of 10 s) ≡ Some t
  letters : list_all is_number_byte (suffix_for t) ≡ true

suffixed : (n : ℕ) (t : IntType) → is_constant_type t ≡ true → int_le (pos n) (high_of t) ≡ true → (s : Suffix) × Suffixed n t s
suffixed n Int is fits = (suffix.Plain, record { is = refl; stops = refl; type = grind (arith, fits); letters = refl })
suffixed n UInt is fits = (suffix.Unsigned, record { is = refl; stops = refl; type = grind (arith, fits); letters = refl })
suffixed n Long is fits = (suffix.Long, record { is = refl; stops = refl; type = grind (arith, fits); letters = refl })
suffixed n ULong is fits = (suffix.UnsignedLong, record { is = refl; stops = refl; type = grind (arith, fits); letters = refl })
suffixed n t is fits = absurd (cc)

-- zero has the one digit 0, and so is octal
zero_reads : (t : IntType) → is_constant_type t ≡ true → constant_of (48 ∷ suffix_for t) ≡ Some (Constant (pos 0) t)
unfolding constant_of
zero_reads Int is = refl
zero_reads UInt is = refl
zero_reads Long is = refl
zero_reads ULong is = refl
zero_reads t is = absurd (cc)

digit_in_ten : (b : ℕ) → is_ascii_digit b ≡ true → is_digit b 10 ≡ true
digit_in_ten b h = grind (arith, h)

all_pass : (p q : ℕ → Bool) (xs : List ℕ) → ((x : ℕ) → p x ≡ true → q x ≡ true) → list_all p xs ≡ true → list_all q xs ≡ true
all_pass p q [] h all = refl
all_pass p q (x ∷ xs) h all =
    let parts = and_parts (p x) (list_all p xs) all in
    and_from (q x) (list_all q xs) (h x parts.0) (all_pass p q xs h parts.1)

-- digits and a suffix
in_ten : (n : ℕ) (ds : List ℕ) (t : IntType) (s : Suffix) → Spells n ds → Suffixed n t s → constant_in 10 (ds ++ suffix_for t) ≡ Some (Constant (pos n) t)
in_ten n ds t s spells suffixed =
    let bs = ds ++ suffix_for t in
    let is_ten : ℕ → Bool = λ b. is_digit b 10 in
    let count : prefix_len is_ten bs ≡ length ds = run_stops is_ten ds (suffix_for t) (all_pass is_ascii_digit is_ten ds digit_in_ten spells.digits) suffixed.stops in
    let front : take (length ds) bs ≡ ds = take_at ds (suffix_for t) (length ds) refl in
    let behind : drop (length ds) bs ≡ suffix_for t = drop_at ds (suffix_for t) (length ds) refl in
    let size = length-append ds (suffix_for t) in
    let whole : take (length bs - length ds) (drop (length ds) bs) ≡ suffix_for t
    = ap (take (length bs - length ds)) behind ∙ take_all (length bs - length ds) (suffix_for t) (omega (arith, size)) in
    let value : number_in 10 (take (length ds) bs) ≡ n = ap (number_in 10) front ∙ spells.value in
    constant_is 10 bs (length ds) s (Some t) (sym count) spells.some (ap suffix_of whole ∙ suffixed.is) (ap (λ v. type_for v (types_of 10 s)) value ∙ suffixed.type)
    ∙ ap (λ v. Some (Constant (pos v) t)) value

first_is : (ds rest : List ℕ) → 0 < length ds → get_or (ds ++ rest) 0 0 ≡ get_or ds 0 0
first_is [] rest some = absurd (omega arith)
first_is (d ∷ ds) rest some = refl

ten_reads : (w : List ℕ) → (nat_eq (get_or w 0 0) 48 ≡ false) → constant_of w ≡ constant_in 10 w
unfolding constant_of
ten_reads w h = rw h refl

-- the word of a constant reads as the constant
pub record IsConstant (n : ℕ) (t : IntType) (w : List ℕ) : Type 0 where
  pub reads : constant_of w ≡ Some (Constant (pos n) t)
  pub begins : is_ascii_digit (get_or w 0 0) ≡ true
  pub bytes : list_all is_number_byte w ≡ true

digits_are : (b : ℕ) → is_ascii_digit b ≡ true → is_number_byte b ≡ true
digits_are b h = grind (arith, h)

first_digit : (ds : List ℕ) → 0 < length ds → list_all is_ascii_digit ds ≡ true → is_ascii_digit (get_or ds 0 0) ≡ true
first_digit [] some all = absurd (omega arith)
first_digit (d ∷ ds) some all = (and_parts (is_ascii_digit d) (list_all is_ascii_digit ds) all).0

small_high : (n : ℕ) (t : IntType) → is_constant_type t ≡ true → int_le (pos n) (high_of t) ≡ true → n < 2 ^ 64
small_high n Int is fits = grind (arith, fits)
small_high n UInt is fits = grind (arith, fits)
small_high n Long is fits = grind (arith, fits)
small_high n ULong is fits = grind (arith, fits)
small_high n t is fits = absurd (cc)

reads_by : (n : ℕ) (t : IntType) → is_constant_type t ≡ true → (s : Suffix) → Suffixed n t s → n < 2 ^ 64 → constant_of (decimal n ++ suffix_for t) ≡ Some (Constant (pos n) t)
reads_by n t is s suffixed small = ⊎_elim
    (λ (some : 0 < n).
    let first = first_decimal n some small in
    let spells = spelled n small in
    let same = first_is (decimal n) (suffix_for t) spells.some in
    ten_reads (decimal n ++ suffix_for t) (grind (arith, first, same)) ∙ in_ten n (decimal n) t s spells suffixed)
    (λ (low : n ≤ 0).
    let none : n ≡ 0 = omega arith in
    let digits : decimal 0 ≡ 48 ∷ [] = decimal_digit 0 (omega arith) in
    ap (λ m. constant_of (decimal m ++ suffix_for t)) none ∙ ap (λ ds. constant_of (ds ++ suffix_for t)) digits ∙ zero_reads t is ∙ ap (λ m. Some (Constant (pos m) t)) (sym none))
    (cases_lt 0 n)

natural_reads : (n : ℕ) (t : IntType) → is_constant_type t ≡ true → int_le (pos n) (high_of t) ≡ true → IsConstant n t (decimal n ++ suffix_for t)
natural_reads n t is fits =
    let small = small_high n t is fits in
    let s = suffixed n t is fits in
    let spells = spelled n small in
    record {
      reads = reads_by n t is s.0 s.1 small;
      begins = ap is_ascii_digit (first_is (decimal n) (suffix_for t) spells.some) ∙ first_digit (decimal n) spells.some spells.digits;
      bytes = all_true_numbers_append is_number_byte (decimal n) (suffix_for t) (all_pass is_ascii_digit is_number_byte (decimal n) digits_are spells.digits) (let letters = s.1.letters in letters);
    }

-- a constant that a text can have
abbrev pub is_constant : ℤ → IntType → Bool
is_constant v t = is_constant_type t && (int_le (pos 0) v && int_le v (high_of t))

pub constant_reads : (v : ℤ) (t : IntType) → is_constant v t ≡ true → (n : ℕ) × (v ≡ pos n) × IsConstant n t (signed_decimal v ++ suffix_for t)
constant_reads (pos n) t h =
    let parts = and_parts (is_constant_type t) (int_le (pos 0) (pos n) && int_le (pos n) (high_of t)) h in
    (n, refl, natural_reads n t parts.0 (and_parts (int_le (pos 0) (pos n)) (int_le (pos n) (high_of t)) parts.1).1)
constant_reads (negsuc n) t h =
    let parts = and_parts (is_constant_type t) (int_le (pos 0) (negsuc n) && int_le (negsuc n) (high_of t)) h in
    absurd (cc)
