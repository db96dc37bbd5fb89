-- A character constant ends at the first quote that can close it.
use Rattle.std.proofs.Common.{◌≡◌, ℕ, ◌+◌, ◌-◌, ◌≤◌, ◌<◌, suc, Bool, true, false, cond, nat_eq, nat_le, List, [], ◌∷◌, ◌++◌, length, take, drop, get_or, refl, ap, sym, ◌∙◌, subst, inl, inr, ⊎_elim, arith, length-append, length-drop, length-take-le, take-append-drop, append_assoc}
use Rattle.std.specs.Prelude.{Option, Some, None, not, ◌&&◌, ◌⊎◌}
use Rattle.std.specs.List.{list_all, position, position_or_len}
use Rattle.std.specs.Char.{is_digit}
use Rattle.std.specs.Option.{option_map}
use Rattle.std.proofs.lemmas.List.{take_more, take_all}
use Rattle.c_lexer.specs.Characters.{plain_byte, simple_escape, byte_in, escaped_byte, byte_of, character_of}
use Rattle.c_lexer.specs.Next.{first_close, character_run}
use Rattle.c_lexer.proofs.CommentLemmas.{mapped}
use Rattle.pt_base.proofs.Booleans.{and_parts}
use Rattle.pt_base.proofs.Numbers.{nat_eq_same}

-- what an `if` gives, by its branch
taken : (t : Bool) (x : Option ℕ) (v : ℕ) → cond t x None ≡ Some v → (t ≡ true) × (x ≡ Some v)
taken true x v h = (refl, h)
taken false x v h = absurd (cc)

either : (t : Bool) (x y : Option ℕ) (v : ℕ) → cond t x y ≡ Some v → ((t ≡ true) × (x ≡ Some v)) ⊎ ((t ≡ false) × (y ≡ Some v))
either true x y v h = inl (refl, h)
either false x y v h = inr (refl, h)

abbrev is_quote : ℕ → Bool
is_quote b = nat_eq b 39

abbrev is_no_quote : ℕ → Bool
is_no_quote b = not (is_quote b)

digit_is_no_quote : (base b : ℕ) → base ≤ 16 → is_digit b base ≡ true → is_no_quote b ≡ true
digit_is_no_quote base b low digit = grind (arith, digit)

digits_have_no_quote : (base : ℕ) (bs : List ℕ) → base ≤ 16 → list_all (λ b. is_digit b base) bs ≡ true → list_all is_no_quote bs ≡ true
digits_have_no_quote base [] low all = refl
digits_have_no_quote base (b ∷ bs) low all =
    let here : is_no_quote b ≡ true = digit_is_no_quote base b low (grind (arith, all)) in
    grind (arith, here, digits_have_no_quote base bs low (grind (arith, all)))

digits_of_byte : (base : ℕ) (bs : List ℕ) (v : ℕ) → byte_in base bs ≡ Some v → list_all (λ b. is_digit b base) bs ≡ true
digits_of_byte base bs v h = grind (arith, h)

-- behind the byte that a backslash precedes there is no quote
none_of_no_bytes : (cs : List ℕ) → nat_eq (length cs) 0 ≡ true → list_all is_no_quote cs ≡ true
none_of_no_bytes [] h = refl
none_of_no_bytes (c ∷ cs) h = absurd (grind (arith, h))

octal_has_no_quote : (c : ℕ) (cs : List ℕ) (v : ℕ) → byte_in 8 (c ∷ cs) ≡ Some v → list_all is_no_quote cs ≡ true
octal_has_no_quote c cs v h =
    let all = digits_have_no_quote 8 (c ∷ cs) (omega arith) (digits_of_byte 8 (c ∷ cs) v h) in grind (arith, all)

no_hex_no_quote : (c : ℕ) (cs : List ℕ) (v : ℕ) (t : Bool)
    → cond t (cond (nat_le (length cs) 2) (byte_in 8 (c ∷ cs)) None) (cond (nat_eq (length cs) 0) (simple_escape c) None) ≡ Some v
    → list_all is_no_quote cs ≡ true
no_hex_no_quote c cs v true h = octal_has_no_quote c cs v (taken (nat_le (length cs) 2) (byte_in 8 (c ∷ cs)) v h).1
no_hex_no_quote c cs v false h = none_of_no_bytes cs (taken (nat_eq (length cs) 0) (simple_escape c) v h).0

abbrev behind_no_hex : ℕ → List ℕ → Option ℕ
behind_no_hex c cs = cond (is_digit c 8) (cond (nat_le (length cs) 2) (byte_in 8 (c ∷ cs)) None) (cond (nat_eq (length cs) 0) (simple_escape c) None)

escape_has_no_quote : (c : ℕ) (cs : List ℕ) (v : ℕ) → escaped_byte (c ∷ cs) ≡ Some v → list_all is_no_quote cs ≡ true
escape_has_no_quote c cs v h = ⊎_elim
    (λ (w : (nat_eq c 120 ≡ true) × (byte_in 16 cs ≡ Some v)). digits_have_no_quote 16 cs (omega arith) (digits_of_byte 16 cs v w.1))
    (λ (w : (nat_eq c 120 ≡ false) × (behind_no_hex c cs ≡ Some v)). no_hex_no_quote c cs v (is_digit c 8) w.1)
    (either (nat_eq c 120) (byte_in 16 cs) (behind_no_hex c cs) v h)

-- the first quote is the one behind bytes that are none
quote_behind : (cs after : List ℕ) → list_all is_no_quote cs ≡ true → position_or_len is_quote (cs ++ (39 ∷ after)) ≡ length cs
quote_behind [] after h = refl
quote_behind (c ∷ cs) after h = grind (arith, h, quote_behind cs after (grind (arith, h)))

position_behind : (cs after : List ℕ) → list_all is_no_quote cs ≡ true → position is_quote (cs ++ (39 ∷ after)) ≡ Some (length cs)
position_behind cs after h =
    let at = quote_behind cs after h in
    let long : length cs < length (cs ++ (39 ∷ after)) = omega (arith, length-append cs (39 ∷ after)) in
    grind (arith, at, long)

run_at : (start n : ℕ) (bs : List ℕ) → first_close bs ≡ start → position is_quote (drop start bs) ≡ Some n → character_run bs ≡ Some (start + n + 1)
run_at start n bs e at =
    let P : ℕ → Type 0 = λ s. option_map (λ k. s + k + 1) (position is_quote (drop s bs)) ≡ Some (start + n + 1) in
    subst P (sym e) (ap (option_map (λ k. start + k + 1)) at)

plain_is_no_backslash : (c v : ℕ) → plain_byte c ≡ Some v → nat_eq c 92 ≡ false
plain_is_no_backslash c v h = grind (arith, h)

-- the run ends behind the quote that follows what spells a byte
run_of_body : (body after : List ℕ) (v : ℕ) → byte_of body ≡ Some v → character_run (39 ∷ (body ++ (39 ∷ after))) ≡ Some (length body + 2)
run_of_body [] after v h = absurd (cc)
run_of_body (c ∷ []) after v h =
    run_at 2 0 (39 ∷ (c ∷ (39 ∷ after))) (ap (λ t. cond t 3 2) (plain_is_no_backslash c v h)) (position_behind [] after refl)
run_of_body (b ∷ c ∷ cs) after v h =
    let escape = taken (nat_eq b 92) (escaped_byte (c ∷ cs)) v h in
    let size : 3 + length cs + 1 ≡ suc (suc (length cs)) + 2 = omega arith in
    run_at 3 (length cs) (39 ∷ (b ∷ (c ∷ (cs ++ (39 ∷ after))))) (ap (λ t. cond t 3 2) escape.0) (position_behind cs after (escape_has_no_quote c cs v escape.1))
    ∙ ap Some size

-- a character constant is a quote, what spells its byte, and a quote
last_split : (xs : List ℕ) → get_or xs (length xs - 1) 0 ≡ 39 → xs ≡ take (length xs - 1) xs ++ (39 ∷ [])
last_split [] h = absurd (cc)
last_split (x ∷ xs) h =
    let e : suc (length xs) - 1 ≡ length xs = omega arith in
    let last : get_or (x ∷ xs) (length xs) 0 ≡ 39 = ap (λ i. get_or (x ∷ xs) i 0) (sym e) ∙ h in
    let more : take (length xs + 1) (x ∷ xs) ≡ take (length xs) (x ∷ xs) ++ (get_or (x ∷ xs) (length xs) 0 ∷ []) = take_more (x ∷ xs) (length xs) 0 (omega arith) in
    let all : take (length xs + 1) (x ∷ xs) ≡ x ∷ xs = take_all (length xs + 1) (x ∷ xs) (omega arith) in
    sym all ∙ more ∙ ap (λ l. take (length xs) (x ∷ xs) ++ (l ∷ [])) last ∙ ap (λ i. take i (x ∷ xs) ++ (39 ∷ [])) (sym e)

record Body (w : List ℕ) (v : ℕ) : Type 0 where
  body : List ℕ
  is : w ≡ 39 ∷ (body ++ (39 ∷ []))
  spells : byte_of body ≡ Some v

body_of : (w : List ℕ) (v : ℕ) → character_of w ≡ Some v → Body w v
unfolding character_of
body_of [] v h = absurd (cc)
body_of (b ∷ bs) v h =
    let quoted = taken (nat_eq b 39 && nat_eq (get_or bs (length bs - 1) 0) 39) (byte_of (take (length bs - 1) bs)) v h in
    let quotes = and_parts (nat_eq b 39) (nat_eq (get_or bs (length bs - 1) 0) 39) quoted.0 in
    let first = nat_eq_same b 39 quotes.0 in
    let last = nat_eq_same (get_or bs (length bs - 1) 0) 39 quotes.1 in
    record {
      body = take (length bs - 1) bs;
      is = ap (λ x. x ∷ bs) first ∙ ap (λ xs. 39 ∷ xs) (last_split bs last);
      spells = quoted.1;
    }

pub character_is_run : (bs : List ℕ) (m v : ℕ) → m ≤ length bs → character_of (take m bs) ≡ Some v → character_run bs ≡ Some m
character_is_run bs m v within h =
    let found = body_of (take m bs) v h in
    let whole : bs ≡ 39 ∷ (found.body ++ (39 ∷ drop m bs)) = sym (take-append-drop m bs) ∙ ap (λ xs. xs ++ drop m bs) found.is ∙ ap (λ xs. 39 ∷ xs) (append_assoc found.body (39 ∷ []) (drop m bs)) in
    let size : length (take m bs) ≡ length found.body + 2 = ap length found.is ∙ simp length-append (omega arith) in
    let long : length found.body + 2 ≡ m = omega (arith, size, length-take-le m bs within) in
    ap character_run whole ∙ run_of_body found.body (drop m bs) v found.spells ∙ ap Some long

position_within : (p : ℕ → Bool) (xs : List ℕ) (i : ℕ) → position p xs ≡ Some i → i < length xs
position_within p xs i h = grind (arith, h)

pub character_run_within : (bs : List ℕ) (n : ℕ) → character_run bs ≡ Some n → n ≤ length bs
character_run_within bs n h =
    let quote = mapped (λ k. first_close bs + k + 1) (position is_quote (drop (first_close bs) bs)) n h in
    let within = position_within is_quote (drop (first_close bs) bs) quote.0 quote.1 in
    omega (arith, within, length-drop (first_close bs) bs, quote.2)
