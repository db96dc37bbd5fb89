-- Words spell a rule exactly where the reading finds it.
use Rattle.std.proofs.Common.{◌≡◌, ◌∙◌, ◌+◌, ◌-◌, ◌^◌, ◌<◌, ◌≤◌, ℕ, suc, true, ◌&&◌, ◌==◌, nat_le, List, [], ◌∷◌, ◌++◌, length, Option, Some, None, refl, ap, ap₂, sym, subst, arith, codes, bytes_eq}
use Rattle.std.specs.Option.{option_map, option_map_or, option_and_then}
use Rattle.std.specs.Int.{is_in_range}
use Rattle.std.proofs.lemmas.Bool.{eqb-true}
use Rattle.std.proofs.lemmas.Bool.Decides.{nat_tests}
use Rattle.pt_base.proofs.Booleans.{and_parts, if_true}
use Rattle.policy.specs.Numbers.{IsCount}
use Rattle.policy.specs.Spelled.{SpelledRule}
use Rattle.policy.specs.Rules.{is_state, IsParameter, AreBounds, AreRanges, none, more, IsLimit, without, at_most, IsRule}
use Rattle.policy.specs.Reading.{after_word, first_word, first_state, digits_below, parameter_of, range_with, range_of, onto_ranges, ranges_of, count_from, limit_from, alone, target_of, ending_of, Beginning, beginning_of, bounds_of, rule_with, rule_of}
use Rattle.policy.specs.declared.argument.ArgRange.{ArgRange}
use Rattle.policy.proofs.OptionLemmas.{if_some, map_some, then_some, bytes_same, bytes_equal}
use Rattle.policy.proofs.DecimalLaws.{count_is, count_gives}
use Rattle.policy.proofs.BoundLaws.{bounds_are, bounds_give}

-- parameters

parameter_is : (word : List ℕ) (i : ℕ) → parameter_of word ≡ Some i → IsParameter word i
parameter_is [] i e = cc
parameter_is (a ∷ []) i e = cc
parameter_is (a ∷ b ∷ []) i e = cc
parameter_is (a ∷ b ∷ c ∷ []) i e = cc
parameter_is (a ∷ b ∷ c ∷ d ∷ []) i e =
    let found = if_some (bytes_eq (a ∷ b ∷ c ∷ []) (codes "arg") && is_in_range 49 56 d) (Some (d - 49)) i e in
    let tests = and_parts (bytes_eq (a ∷ b ∷ c ∷ []) (codes "arg")) (is_in_range 49 56 d) found.0 in
    let range = and_parts (nat_le 49 d) (nat_le d 56) tests.1 in
    let is : i ≡ d - 49 = cc found.1 in
    let low : 49 ≤ d = grind (arith, nat_tests, range.0) in
    let high : d ≤ 56 = grind (arith, nat_tests, range.1) in
    let same : d ≡ 49 + i = omega arith in
    record { spelled = ap₂ (λ w x. w ++ x ∷ []) (bytes_equal (a ∷ b ∷ c ∷ []) (codes "arg") tests.0) same; small = omega arith }
parameter_is (a ∷ b ∷ c ∷ d ∷ f ∷ word) i e =
    let found = if_some (((length (a ∷ b ∷ c ∷ d ∷ f ∷ word) == 4) && bytes_eq (a ∷ b ∷ c ∷ []) (codes "arg")) && is_in_range 49 56 d) (Some (d - 49)) i e in
    let tests = and_parts ((length (a ∷ b ∷ c ∷ d ∷ f ∷ word) == 4) && bytes_eq (a ∷ b ∷ c ∷ []) (codes "arg")) (is_in_range 49 56 d) found.0 in
    let long = and_parts (length (a ∷ b ∷ c ∷ d ∷ f ∷ word) == 4) (bytes_eq (a ∷ b ∷ c ∷ []) (codes "arg")) tests.0 in
    let four : length (a ∷ b ∷ c ∷ d ∷ f ∷ word) ≡ 4 = eqb-true (length (a ∷ b ∷ c ∷ d ∷ f ∷ word)) 4 long.0 in
    absurd (omega arith)

parameter_gives : (word : List ℕ) (i : ℕ) → IsParameter word i → parameter_of word ≡ Some i
parameter_gives word i is = ap parameter_of is.spelled ∙ within i is.small
  where
    within : (i : ℕ) → i < 8 → parameter_of (codes "arg" ++ (49 + i) ∷ []) ≡ Some i
    within i small =
        let test : is_in_range 49 56 (49 + i) ≡ true = grind (arith, nat_tests) in
        let same : 49 + i - 49 ≡ i = omega arith in
        if_true (is_in_range 49 56 (49 + i)) (Some (49 + i - 49)) None test ∙ ap Some same

-- ranges

pub record Range (a b c : List ℕ) (r : ArgRange) : Type 0 where
  pub parameter : IsParameter a r.parameter
  pub is_in : b ≡ codes "in"
  pub bounds : AreBounds c r.low r.high

range_is : (a b c : List ℕ) (r : ArgRange) → range_of a b c ≡ Some r → Range a b c r
range_is a b c r e =
    let found = if_some (bytes_eq b (codes "in")) (option_and_then (λ place. option_map (range_with place) (bounds_of c)) (parameter_of a)) r e in
    let place = then_some (λ place. option_map (range_with place) (bounds_of c)) (parameter_of a) r found.1 in
    let pair = map_some (range_with place.0) (bounds_of c) r place.2 in
    subst (λ (q : ArgRange). Range a b c q) (sym pair.2) record {
      parameter = parameter_is a place.0 place.1;
      is_in = bytes_equal b (codes "in") found.0;
      bounds = bounds_are c pair.0 pair.1;
    }

range_gives : (a c : List ℕ) (r : ArgRange) → IsParameter a r.parameter → AreBounds c r.low r.high → range_of a (codes "in") c ≡ Some r
range_gives a c r parameter bounds =
    ap₂ (λ p q. option_and_then (λ place. option_map (range_with place) q) p) (parameter_gives a r.parameter parameter) (bounds_give c r.low r.high bounds)

pub record Ranges (ws : List (List ℕ)) (p : List ArgRange × List (List ℕ)) : Type 0 where
  pub words : List (List ℕ)
  pub cut : ws ≡ words ++ p.1
  pub are : AreRanges words p.0

no_ranges : (ws : List (List ℕ)) → Ranges ws ([], ws)
no_ranges ws = record { words = []; cut = refl; are = none }

one_range : (a b c : List ℕ) (ws : List (List ℕ)) (r : ArgRange) (p : List ArgRange × List (List ℕ)) → Range a b c r → Ranges ws p → Ranges (a ∷ b ∷ c ∷ ws) (onto_ranges r p)
one_range a b c ws r p is rest = record {
  words = a ∷ codes "in" ∷ c ∷ rest.words;
  cut = ap₂ (λ x xs. a ∷ x ∷ c ∷ xs) is.is_in rest.cut;
  are = more a c rest.words r p.0 is.parameter is.bounds rest.are;
}

pub ranges_are : (ws : List (List ℕ)) → Ranges ws (ranges_of ws)
ranges_are [] = no_ranges []
ranges_are (a ∷ []) = no_ranges (a ∷ [])
ranges_are (a ∷ b ∷ []) = no_ranges (a ∷ b ∷ [])
ranges_are (a ∷ b ∷ c ∷ ws) = go (range_of a b c) refl (ranges_are ws)
  where
    go : (o : Option ArgRange) → range_of a b c ≡ o → Ranges ws (ranges_of ws) → Ranges (a ∷ b ∷ c ∷ ws) (option_map_or (λ r. onto_ranges r (ranges_of ws)) o ([], a ∷ b ∷ c ∷ ws))
    go None is rest = no_ranges (a ∷ b ∷ c ∷ ws)
    go (Some r) is rest = one_range a b c ws r (ranges_of ws) (range_is a b c r is) rest

pub ranges_give : (words : List (List ℕ)) (ranges : List ArgRange) (rest : List (List ℕ)) → AreRanges words ranges → ranges_of rest ≡ ([], rest) → ranges_of (words ++ rest) ≡ (ranges, rest)
ranges_give words ranges rest none last = last
ranges_give words ranges rest (more a c ws r rs parameter bounds are) last =
    ap (λ o. option_map_or (λ q. onto_ranges q (ranges_of (ws ++ rest))) o ([], a ∷ codes "in" ∷ c ∷ (ws ++ rest))) (range_gives a c r parameter bounds)
    ∙ ap (onto_ranges r) (ranges_give ws rs rest are last)

-- the end of a rule

after_is : (word : List ℕ) (ws rest : List (List ℕ)) → after_word word ws ≡ Some rest → ws ≡ word ∷ rest
after_is word [] rest e = cc
after_is word (w ∷ ws) rest e =
    let found = if_some (bytes_eq w word) (Some ws) rest e in
    let same : ws ≡ rest = cc found.1 in
    ap₂ (λ x xs. x ∷ xs) (bytes_equal w word found.0) same

after_gives : (word : List ℕ) (rest : List (List ℕ)) → after_word word (word ∷ rest) ≡ Some rest
after_gives word rest = if_true (bytes_eq word word) (Some rest) None (bytes_same word)

pub record State (ws : List (List ℕ)) (p : List ℕ × List (List ℕ)) : Type 0 where
  pub cut : ws ≡ p.0 ∷ p.1
  pub state : is_state p.0 ≡ true

state_is : (ws : List (List ℕ)) (p : List ℕ × List (List ℕ)) → first_state ws ≡ Some p → State ws p
state_is [] p e = cc
state_is (w ∷ ws) p e =
    let found = if_some (is_state w) (Some (w, ws)) p e in
    let same : ◌≡◌ {A = List ℕ × List (List ℕ)} (w, ws) p = cc found.1 in
    record { cut = ap (λ q. q.0 ∷ q.1) same; state = ap (λ q. is_state q.0) (sym same) ∙ found.0 }

state_gives : (w : List ℕ) (ws : List (List ℕ)) → is_state w ≡ true → first_state (w ∷ ws) ≡ Some (w, ws)
state_gives w ws e = if_true (is_state w) (Some (w, ws)) None e

nothing : (ws : List (List ℕ)) → (length ws == 0) ≡ true → ws ≡ []
nothing [] e = refl
nothing (w ∷ ws) e = let none : suc (length ws) ≡ 0 = eqb-true (suc (length ws)) 0 e in absurd (omega arith)

pub record Target (ws : List (List ℕ)) (to : List ℕ) : Type 0 where
  pub cut : ws ≡ codes "to" ∷ to ∷ []
  pub state : is_state to ≡ true

target_is : (ws : List (List ℕ)) (to : List ℕ) → target_of ws ≡ Some to → Target ws to
target_is ws to e =
    let p = then_some alone (option_and_then first_state (after_word (codes "to") ws)) to e in
    let rest = then_some first_state (after_word (codes "to") ws) p.0 p.1 in
    let s = state_is rest.0 p.0 rest.2 in
    let last = if_some (length p.0.1 == 0) (Some p.0.0) to p.2 in
    let same : p.0.0 ≡ to = cc last.1 in
    record {
      cut = after_is (codes "to") ws rest.0 rest.1 ∙ ap (λ xs. codes "to" ∷ xs) s.cut ∙ ap₂ (λ x xs. codes "to" ∷ x ∷ xs) same (nothing p.0.1 last.0);
      state = ap is_state (sym same) ∙ s.state;
    }

target_gives : (to : List ℕ) → is_state to ≡ true → target_of (codes "to" ∷ to ∷ []) ≡ Some to
target_gives to e = ap (option_and_then alone) (state_gives to [] e)

pub record Limit (ws : List (List ℕ)) (p : Option ℕ × List (List ℕ)) : Type 0 where
  pub words : List (List ℕ)
  pub cut : ws ≡ words ++ p.1
  pub is : IsLimit words p.0

pub record Count (ws : List (List ℕ)) (p : ℕ × List (List ℕ)) : Type 0 where
  pub word : List ℕ
  pub cut : ws ≡ word ∷ p.1
  pub is : IsCount word p.0

count_from_is : (ws : List (List ℕ)) (p : ℕ × List (List ℕ)) → count_from ws ≡ Some p → Count ws p
count_from_is [] p e = cc
count_from_is (w ∷ ws) p e =
    let n = map_some (λ n. (n, ws)) (digits_below (2 ^ 32) w) p e in
    subst (λ (q : ℕ × List (List ℕ)). Count (w ∷ ws) q) (sym n.2) record { word = w; cut = refl; is = count_is w n.0 n.1 }

limit_is : (ws : List (List ℕ)) (p : Option ℕ × List (List ℕ)) → limit_from ws ≡ Some p → Limit ws p
limit_is ws p e = go (after_word (codes "at") ws) refl e
  where
    go : (o : Option (List (List ℕ))) → after_word (codes "at") ws ≡ o
        → option_map_or (λ rest. option_map (λ q. (Some q.0, q.1)) (option_and_then count_from (after_word (codes "most") rest))) o (Some (None, ws)) ≡ Some p → Limit ws p
    go None is given =
        let same : ◌≡◌ {A = Option ℕ × List (List ℕ)} (None, ws) p = cc given in
        subst (λ (q : Option ℕ × List (List ℕ)). Limit ws q) same record { words = []; cut = refl; is = without }
    go (Some rest) is given =
        let q = map_some (λ q. (Some q.0, q.1)) (option_and_then count_from (after_word (codes "most") rest)) p given in
        let behind = then_some count_from (after_word (codes "most") rest) q.0 q.1 in
        let n = count_from_is behind.0 q.0 behind.2 in
        subst (λ (x : Option ℕ × List (List ℕ)). Limit ws x) (sym q.2) record {
          words = codes "at" ∷ codes "most" ∷ n.word ∷ [];
          cut = after_is (codes "at") ws rest is ∙ ap (λ xs. codes "at" ∷ xs) (after_is (codes "most") rest behind.0 behind.1 ∙ ap (λ xs. codes "most" ∷ xs) n.cut);
          is = at_most n.word q.0.0 n.is;
        }

ending_gives : (limit : List (List ℕ)) (most : Option ℕ) (to : List ℕ) → IsLimit limit most → is_state to ≡ true → ending_of (limit ++ codes "to" ∷ to ∷ []) ≡ Some (most, to)
ending_gives limit most to without e = ap (option_map (λ t. (None, t))) (target_gives to e)
ending_gives limit most to (at_most word n is) e =
    ap (λ (o : Option ℕ). option_and_then with_target (option_map with_count (option_map (λ (k : ℕ). behind_count k) o))) (count_gives word n is)
    ∙ ap (option_map (λ t. (Some n, t))) (target_gives to e)
  where
    with_target : Option ℕ × List (List ℕ) → Option (Option ℕ × List ℕ)
    with_target p = option_map (λ t. (p.0, t)) (target_of p.1)

    with_count : ℕ × List (List ℕ) → Option ℕ × List (List ℕ)
    with_count q = (Some q.0, q.1)

    behind_count : ℕ → ℕ × List (List ℕ)
    behind_count k = (k, codes "to" ∷ to ∷ [])

last_ranges : (limit : List (List ℕ)) (most : Option ℕ) (to : List ℕ) → IsLimit limit most → ranges_of (limit ++ codes "to" ∷ to ∷ []) ≡ ([], limit ++ codes "to" ∷ to ∷ [])
last_ranges limit most to without = refl
last_ranges limit most to (at_most word n is) = refl

-- whole rules

pub record Ending (ws : List (List ℕ)) (p : Option ℕ × List ℕ) : Type 0 where
  pub words : List (List ℕ)
  pub cut : ws ≡ words ++ codes "to" ∷ p.1 ∷ []
  pub limit : IsLimit words p.0
  pub state : is_state p.1 ≡ true

ending_is : (ws : List (List ℕ)) (p : Option ℕ × List ℕ) → ending_of ws ≡ Some p → Ending ws p
ending_is ws p e =
    let q = then_some (λ (q : Option ℕ × List (List ℕ)). option_map (λ (t : List ℕ). (q.0, t)) (target_of q.1)) (limit_from ws) p e in
    let to = map_some (λ (t : List ℕ). (q.0.0, t)) (target_of q.0.1) p q.2 in
    let l = limit_is ws q.0 q.1 in
    let t = target_is q.0.1 to.0 to.1 in
    subst (λ (x : Option ℕ × List ℕ). Ending ws x) (sym to.2) record {
      words = l.words;
      cut = l.cut ∙ ap (λ xs. l.words ++ xs) t.cut;
      limit = l.is;
      state = t.state;
    }

pub record Begins (ws : List (List ℕ)) (b : Beginning) : Type 0 where
  pub cut : ws ≡ codes "from" ∷ b.from ∷ codes "allow" ∷ b.function ∷ b.rest
  pub state : is_state b.from ≡ true

first_is : (ws : List (List ℕ)) (p : List ℕ × List (List ℕ)) → first_word ws ≡ Some p → ws ≡ p.0 ∷ p.1
first_is [] p e = cc
first_is (w ∷ ws) p e =
    let same : ◌≡◌ {A = List ℕ × List (List ℕ)} (w, ws) p = cc in
    ap (λ q. q.0 ∷ q.1) same

begins_with : List ℕ × List (List ℕ) → List ℕ × List (List ℕ) → Beginning
begins_with p q = record { from = p.0; function = q.0; rest = q.1 }

begins_behind : List ℕ × List (List ℕ) → Option Beginning
begins_behind p = option_map (begins_with p) (option_and_then first_word (after_word (codes "allow") p.1))

beginning_is : (ws : List (List ℕ)) (b : Beginning) → beginning_of ws ≡ Some b → Begins ws b
unfolding begins_behind begins_with
beginning_is ws b e =
    let p = then_some begins_behind (option_and_then first_state (after_word (codes "from") ws)) b e in
    let rest = then_some first_state (after_word (codes "from") ws) p.0 p.1 in
    let s = state_is rest.0 p.0 rest.2 in
    let q = map_some (begins_with p.0) (option_and_then first_word (after_word (codes "allow") p.0.1)) b p.2 in
    let behind = then_some first_word (after_word (codes "allow") p.0.1) q.0 q.1 in
    subst (λ (x : Beginning). Begins ws x) (sym q.2) record {
      cut =
          after_is (codes "from") ws rest.0 rest.1
          ∙ ap (λ xs. codes "from" ∷ xs) (s.cut ∙ ap (λ xs. p.0.0 ∷ xs) (after_is (codes "allow") p.0.1 behind.0 behind.1 ∙ ap (λ xs. codes "allow" ∷ xs) (first_is behind.0 q.0 behind.2)));
      state = s.state;
    }

beginning_gives : (from function : List ℕ) (rest : List (List ℕ)) → is_state from ≡ true
    → beginning_of (codes "from" ∷ from ∷ codes "allow" ∷ function ∷ rest) ≡ Some (record { from = from; function = function; rest = rest })
unfolding begins_behind begins_with
beginning_gives from function rest e = ap (option_and_then begins_behind) (state_gives from (codes "allow" ∷ function ∷ rest) e)

rule_from : Beginning → Option SpelledRule
rule_from b = rule_with b (ranges_of b.rest)

spelled_with : Beginning → List ArgRange → Option ℕ × List ℕ → SpelledRule
spelled_with b ranges e = record { from = b.from; function = b.function; ranges = ranges; most = e.0; to = e.1 }

-- the reading finds a rule that the words spell
pub rule_is : (ws : List (List ℕ)) (rule : SpelledRule) → rule_of ws ≡ Some rule → IsRule ws rule
unfolding rule_of rule_from spelled_with
rule_is ws rule e =
    let b = then_some rule_from (beginning_of ws) rule e in
    let begins = beginning_is ws b.0 b.1 in
    let ranges : Ranges b.0.rest (ranges_of b.0.rest) = ranges_are b.0.rest in
    let end = map_some (spelled_with b.0 (ranges_of b.0.rest).0) (ending_of (ranges_of b.0.rest).1) rule b.2 in
    let ends = ending_is (ranges_of b.0.rest).1 end.0 end.1 in
    subst (λ (r : SpelledRule). IsRule ws r) (sym end.2) record {
      arguments = ranges.words;
      limit = ends.words;
      spelled = begins.cut ∙ ap (λ xs. codes "from" ∷ b.0.from ∷ codes "allow" ∷ b.0.function ∷ xs) (ranges.cut ∙ ap (λ xs. ranges.words ++ xs) ends.cut);
      from_state = begins.state;
      ranges = ranges.are;
      most = ends.limit;
      to_state = ends.state;
    }

-- the reading finds each rule that words spell
pub rule_gives : (ws : List (List ℕ)) (rule : SpelledRule) → IsRule ws rule → rule_of ws ≡ Some rule
unfolding rule_of rule_from spelled_with
rule_gives ws rule is =
    let rest : List (List ℕ) = is.arguments ++ (is.limit ++ codes "to" ∷ rule.to ∷ []) in
    let b : Beginning = record { from = rule.from; function = rule.function; rest = rest } in
    ap rule_of is.spelled
    ∙ ap (option_and_then rule_from) (beginning_gives rule.from rule.function rest is.from_state)
    ∙ ap (rule_with b) (ranges_give is.arguments rule.ranges (is.limit ++ codes "to" ∷ rule.to ∷ []) is.ranges (last_ranges is.limit rule.most rule.to is.most))
    ∙ ap (option_map (spelled_with b rule.ranges)) (ending_gives is.limit rule.most rule.to is.most is.to_state)
