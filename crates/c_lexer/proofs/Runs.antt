-- No word of its class that begins at a place is longer than the run of bytes of the class, and the run is such a word.
use Rattle.std.proofs.Common.{◌≡◌, ℕ, ◌+◌, ◌≤◌, zero, suc, Bool, true, false, cond, nat_eq, List, [], ◌∷◌, length, take, get_or, refl, sym, subst, ⊎_elim, arith}
use Rattle.std.specs.Prelude.{IsTrue}
use Rattle.std.specs.List.{list_all, prefix_len}
use Rattle.std.specs.Char.{is_ascii_digit}
use Rattle.c_lexer.specs.Bytes.{is_nondigit, is_word_byte}
use Rattle.c_lexer.specs.Numbers.{is_number, begins_number, goes_on, continues}
use Rattle.c_lexer.specs.Lexemes.{is_identifier}
use Rattle.c_lexer.specs.Next.{run_after, number_run}
use Rattle.c_lexer.proofs.Firsts.{nondigit_is_word, digit_is_word, begins_by}

-- elements from the front that all pass are no more than those that pass from the front
pub all_within_run : (p : ℕ → Bool) (bs : List ℕ) (m : ℕ) → m ≤ length bs → list_all p (take m bs) ≡ true → m ≤ prefix_len p bs
all_within_run p bs zero within all = omega arith
all_within_run p [] (suc m) within all = omega arith
all_within_run p (b ∷ bs) (suc m) within all =
    let passes : p b ≡ true = grind (arith, all) in
    let rest : m ≤ prefix_len p bs = all_within_run p bs m (omega arith) (grind (arith, all)) in
    rw passes (omega (arith, rest))

-- what holds of the list with one more element from the front
take_one_more : (Q : List ℕ → Type 0) (n b : ℕ) (bs : List ℕ) → Q (b ∷ take n bs) → Q (take (1 + n) (b ∷ bs))
take_one_more Q n b bs h = let e : suc n ≡ 1 + n = omega arith in subst (λ k. Q (take k (b ∷ bs))) e h

run_passes_at : (p : ℕ → Bool) (b : ℕ) (bs : List ℕ) (r : Bool) → p b ≡ r → list_all p (take (prefix_len p bs) bs) ≡ true
    → list_all p (take (cond r (1 + prefix_len p bs) 0) (b ∷ bs)) ≡ true
run_passes_at p b bs true e rest = take_one_more (λ xs. list_all p xs ≡ true) (prefix_len p bs) b bs (grind (arith, e, rest))
run_passes_at p b bs false e rest = refl

pub run_passes : (p : ℕ → Bool) (bs : List ℕ) → list_all p (take (prefix_len p bs) bs) ≡ true
run_passes p [] = refl
run_passes p (b ∷ bs) = run_passes_at p b bs (p b) refl (run_passes p bs)

pub word_within_run : (bs : List ℕ) (m : ℕ) → m ≤ length bs → IsTrue (is_identifier (take m bs)) → m ≤ prefix_len is_word_byte bs
word_within_run bs zero within word = omega arith
word_within_run [] (suc m) within word = omega arith
word_within_run (b ∷ bs) (suc m) within word =
    let first : is_nondigit b ≡ true = grind (arith, word) in
    let rest : list_all is_word_byte (take m bs) ≡ true = grind (arith, word) in
    all_within_run is_word_byte (b ∷ bs) (suc m) within (grind (arith, nondigit_is_word b first, rest))

pub run_is_word : (bs : List ℕ) → is_nondigit (get_or bs 0 0) ≡ true → IsTrue (is_identifier (take (prefix_len is_word_byte bs) bs))
run_is_word [] first = absurd (cc)
run_is_word (b ∷ bs) first =
    rw (nondigit_is_word b first) (take_one_more (λ xs. IsTrue (is_identifier xs)) (prefix_len is_word_byte bs) b bs (grind (arith, first, run_passes is_word_byte bs)))

pub goes_within_run : (before : ℕ) (bs : List ℕ) (m : ℕ) → m ≤ length bs → goes_on before (take m bs) ≡ true → m ≤ run_after before bs
goes_within_run before bs zero within on = omega arith
goes_within_run before [] (suc m) within on = omega arith
goes_within_run before (b ∷ bs) (suc m) within on =
    let passes : continues before b ≡ true = grind (arith, on) in
    let rest : m ≤ run_after b bs = goes_within_run b bs m (omega arith) (grind (arith, on)) in
    rw passes (omega (arith, rest))

run_goes_on_at : (before b : ℕ) (bs : List ℕ) (r : Bool) → continues before b ≡ r → goes_on b (take (run_after b bs) bs) ≡ true
    → goes_on before (take (cond r (1 + run_after b bs) 0) (b ∷ bs)) ≡ true
run_goes_on_at before b bs true e rest = take_one_more (λ xs. goes_on before xs ≡ true) (run_after b bs) b bs (grind (arith, e, rest))
run_goes_on_at before b bs false e rest = refl

pub run_goes_on : (before : ℕ) (bs : List ℕ) → goes_on before (take (run_after before bs) bs) ≡ true
run_goes_on before [] = refl
run_goes_on before (b ∷ bs) = run_goes_on_at before b bs (continues before b) refl (run_goes_on b bs)

pub run_after_within : (before : ℕ) (bs : List ℕ) → run_after before bs ≤ length bs
run_after_within before [] = omega arith
run_after_within before (b ∷ bs) = grind (arith, run_after_within b bs)

pub number_within_run : (bs : List ℕ) (m : ℕ) → m ≤ length bs → IsTrue (is_number (take m bs)) → m ≤ number_run bs
number_within_run bs zero within number = omega arith
number_within_run [] (suc m) within number = omega arith
number_within_run (b ∷ bs) (suc m) within number =
    let rest : m ≤ run_after b bs = goes_within_run b bs m (omega arith) (grind (arith, number)) in
    omega (arith, rest)

-- a point and a digit are in the run
point_begins : (bs : List ℕ) → is_ascii_digit (get_or bs 0 0) ≡ true → is_ascii_digit (get_or (take (run_after 46 bs) bs) 0 0) ≡ true
point_begins [] digit = absurd (cc)
point_begins (d ∷ bs) digit =
    let on : continues 46 d ≡ true = grind (arith, digit_is_word d digit) in
    rw on (take_one_more (λ xs. is_ascii_digit (get_or xs 0 0) ≡ true) (run_after d bs) d bs digit)

run_begins : (b : ℕ) (bs : List ℕ) → begins_number (b ∷ bs) ≡ true → begins_number (b ∷ take (run_after b bs) bs) ≡ true
run_begins b bs begins = ⊎_elim
    (λ (digit : is_ascii_digit b ≡ true). grind (arith, digit))
    (λ (p : (b ≡ 46) × (is_ascii_digit (get_or bs 0 0) ≡ true)).
    let still : is_ascii_digit (get_or (take (run_after b bs) bs) 0 0) ≡ true
    = subst (λ v. is_ascii_digit (get_or (take (run_after v bs) bs) 0 0) ≡ true) (sym p.0) (point_begins bs p.1) in
    let point : nat_eq b 46 ≡ true = grind (arith, p.0) in
    grind (arith, point, still))
    (begins_by b bs begins)

pub run_is_number : (bs : List ℕ) → begins_number bs ≡ true → IsTrue (is_number (take (number_run bs) bs))
run_is_number [] begins = absurd (cc)
run_is_number (b ∷ bs) begins =
    take_one_more (λ xs. IsTrue (is_number xs)) (run_after b bs) b bs (grind (arith, run_begins b bs begins, run_goes_on b bs))

pub number_run_within : (bs : List ℕ) → begins_number bs ≡ true → number_run bs ≤ length bs
number_run_within [] begins = absurd (cc)
number_run_within (b ∷ bs) begins = omega (arith, run_after_within b bs)
