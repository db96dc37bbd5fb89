-- The rule that words spell, word by word, as the code finds it.
use Rattle.std.specs.Prelude.{ℕ, ℤ, pos, neg_ℤ, ◌+◌, ◌-◌, ◌^◌, ◌&&◌, ◌==◌, nat_lt, if◌then◌else◌, List, [], ◌∷◌, length, take, drop, slice_index, Option, Some, None, codes}
use Rattle.std.specs.Option.{option_map, option_map_or, option_and_then}
use Rattle.std.specs.List.{position_or_len}
use Rattle.std.specs.Int.{is_in_range}
use Rattle.std.specs.Str.{bytes_eq}
use Rattle.policy.specs.Numbers.{decimal_value, are_digits}
use Rattle.policy.specs.Rules.{is_state}
use Rattle.policy.specs.Spelled.{SpelledRule}
use Rattle.policy.specs.declared.argument.ArgRange.{ArgRange}

-- the words behind this one, if they begin with it
abbrev pub after_word : List ℕ → List (List ℕ) → Option (List (List ℕ))
after_word word [] = None
after_word word (w ∷ ws) = if bytes_eq w word then Some ws else None

-- the first word and those behind it
abbrev pub first_word : List (List ℕ) → Option (List ℕ × List (List ℕ))
first_word [] = None
first_word (w ∷ ws) = Some (w, ws)

-- the same, where the word is a state
abbrev pub first_state : List (List ℕ) → Option (List ℕ × List (List ℕ))
first_state [] = None
first_state (w ∷ ws) = if is_state w then Some (w, ws) else None

-- the number of digits, if it is below the limit
abbrev pub digits_below : ℕ → List ℕ → Option ℕ
digits_below limit word = if are_digits word && nat_lt (decimal_value word) limit then Some (decimal_value word) else None

abbrev pub negative : ℕ → ℤ
negative n = neg_ℤ (pos n)

abbrev pub bound_of : List ℕ → Option ℤ
bound_of [] = None
bound_of (b ∷ bs) =
    if b == 45 then option_map negative (digits_below (2 ^ 63 + 1) bs) else option_map pos (digits_below (2 ^ 64) (b ∷ bs))

abbrev pub pair_of : Option ℤ → Option ℤ → Option (ℤ × ℤ)
pair_of low high = option_and_then (λ l. option_map (λ h. (l, h)) high) low

-- the bounds before and behind the first `.` and the one that follows it
abbrev pub bounds_of : List ℕ → Option (ℤ × ℤ)
bounds_of word =
    let dot = position_or_len (λ b. b == 46) word in
    if (slice_index word dot == 46) && (slice_index word (dot + 1) == 46)
    then pair_of (bound_of (take dot word)) (bound_of (drop (dot + 2) word)) else None

abbrev pub parameter_of : List ℕ → Option ℕ
parameter_of word =
    if ((length word == 4) && bytes_eq (take 3 word) (codes "arg")) && is_in_range 49 56 (slice_index word 3)
    then Some (slice_index word 3 - 49) else None

abbrev pub range_with : ℕ → ℤ × ℤ → ArgRange
range_with place bounds = record { parameter = place; low = bounds.0; high = bounds.1 }

-- the range that three words spell
abbrev pub range_of : List ℕ → List ℕ → List ℕ → Option ArgRange
range_of a b c =
    if bytes_eq b (codes "in") then option_and_then (λ place. option_map (range_with place) (bounds_of c)) (parameter_of a) else None

abbrev pub first_range : List (List ℕ) → Option (ArgRange × List (List ℕ))
first_range [] = None
first_range (a ∷ []) = None
first_range (a ∷ b ∷ []) = None
first_range (a ∷ b ∷ c ∷ ws) = option_map (λ r. (r, ws)) (range_of a b c)

abbrev pub onto_ranges : ArgRange → List ArgRange × List (List ℕ) → List ArgRange × List (List ℕ)
onto_ranges r p = (r ∷ p.0, p.1)

-- the ranges from the front on, and the words behind them
abbrev pub ranges_of : List (List ℕ) → List ArgRange × List (List ℕ)
ranges_of [] = ([], [])
ranges_of (a ∷ []) = ([], a ∷ [])
ranges_of (a ∷ b ∷ []) = ([], a ∷ b ∷ [])
ranges_of (a ∷ b ∷ c ∷ ws) = option_map_or (λ r. onto_ranges r (ranges_of ws)) (range_of a b c) ([], a ∷ b ∷ c ∷ ws)

-- the count behind `at most`, and the words behind it
abbrev pub count_from : List (List ℕ) → Option (ℕ × List (List ℕ))
count_from [] = None
count_from (w ∷ ws) = option_map (λ n. (n, ws)) (digits_below (2 ^ 32) w)

abbrev pub limit_from : List (List ℕ) → Option (Option ℕ × List (List ℕ))
limit_from ws = option_map_or (λ rest. option_map (λ p. (Some p.0, p.1)) (option_and_then count_from (after_word (codes "most") rest))) (after_word (codes "at") ws) (Some (None, ws))

-- the word, if it is the only one
abbrev pub alone : List ℕ × List (List ℕ) → Option (List ℕ)
alone p = if length p.1 == 0 then Some p.0 else None

abbrev pub target_of : List (List ℕ) → Option (List ℕ)
target_of ws = option_and_then alone (option_and_then first_state (after_word (codes "to") ws))

-- the limit and the next state, which end a rule
abbrev pub ending_of : List (List ℕ) → Option (Option ℕ × List ℕ)
ending_of ws = option_and_then (λ p. option_map (λ to. (p.0, to)) (target_of p.1)) (limit_from ws)

-- the state, the function and the words behind them, which begin a rule
pub record Beginning : Type 0 where
  pub from : List ℕ
  pub function : List ℕ
  pub rest : List (List ℕ)

abbrev pub beginning_of : List (List ℕ) → Option Beginning
beginning_of ws =
    option_and_then (λ p. option_map (λ q. record { from = p.0; function = q.0; rest = q.1 })
    (option_and_then first_word (after_word (codes "allow") p.1)))
    (option_and_then first_state (after_word (codes "from") ws))

abbrev pub rule_with : Beginning → List ArgRange × List (List ℕ) → Option SpelledRule
rule_with b p = option_map (λ e. record { from = b.from; function = b.function; ranges = p.0; most = e.0; to = e.1 }) (ending_of p.1)

unfoldable pub rule_of : List (List ℕ) → Option SpelledRule
rule_of ws = option_and_then (λ b. rule_with b (ranges_of b.rest)) (beginning_of ws)
