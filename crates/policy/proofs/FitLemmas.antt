-- The first rule that fits is found by its state and function.
use Rattle.std.proofs.Common.{◌≡◌, ◌∙◌, ◌+◌, ◌-◌, ◌<◌, ◌≤◌, ℕ, ℤ, zero, suc, Bool, true, false, ◌&&◌, nat_eq, if◌then◌else◌, List, [], ◌∷◌, length, drop, get_or, slice_get, slice_index, Option, Some, None, refl, ap, ap₂, sym, subst, arith, drop-cons, add-one, drop-drop, get_or-drop, unwrap_or, bytes_eq, length-drop}
use Rattle.std.specs.List.{position_from, list_all}
use Rattle.std.proofs.lemmas.Bool.{eqb-true, and_from}
use Rattle.pt_base.specs.declared.ids.FnId.{FnId}
use Rattle.pt_base.proofs.Booleans.{and_parts, if_false, if_true}
use Rattle.pt_base.proofs.Numbers.{nat_eq_self}
use Rattle.policy.specs.Places.{first_in, state_number, is_keyed, steps_from}
use Rattle.policy.specs.Verdicts.{is_within, is_left, is_of, fits, first_fit_from}
use Rattle.policy.specs.declared.rule.Rule.{Rule}
use Rattle.policy.specs.declared.step.Step.{Step}
use Rattle.policy.proofs.OptionLemmas.{bytes_same, bytes_equal}

-- the rest of what it takes to fit
abbrev pub may_use : List ℤ → Rule → ℕ → Bool
may_use plain rule uses = list_all (is_within plain) rule.ranges && is_left rule.most uses

-- a rule of a key, that may be used
abbrev pub keyed_fits : (Rule → Bool) → List ℤ → Rule → ℕ → Bool
keyed_fits key plain rule uses = key rule && may_use plain rule uses

-- where the search goes on
pub record GoesOn (key : Rule → Bool) (plain : List ℤ) (low : ℕ) (rules : List Rule) (uses : List ℕ) (k : ℕ) : Type 0 where
  pub past : ℕ
  pub place : k ≡ low + past
  pub within : past < length rules
  pub keyed : (d : Rule) → key (get_or rules past d) ≡ true
  pub same : first_fit_from (keyed_fits key plain) low rules uses ≡ first_fit_from (keyed_fits key plain) k (drop past rules) (drop past uses)

unfoldable pub SkipsTo : (Rule → Bool) → List ℤ → ℕ → List Rule → List ℕ → Option ℕ → Type 0
SkipsTo key plain low rules uses None = first_fit_from (keyed_fits key plain) low rules uses ≡ None
SkipsTo key plain low rules uses (Some k) = GoesOn key plain low rules uses k

skip_one : (key : Rule → Bool) (plain : List ℤ) (low : ℕ) (rule : Rule) (rules : List Rule) (n : ℕ) (uses : List ℕ) (o : Option ℕ) → key rule ≡ false
    → SkipsTo key plain (low + 1) rules uses o → SkipsTo key plain low (rule ∷ rules) (n ∷ uses) o
unfolding SkipsTo
skip_one key plain low rule rules n uses None other skips =
    ap (λ b. if b && may_use plain rule n then Some low else first_fit_from (keyed_fits key plain) (low + 1) rules uses) other ∙ skips
skip_one key plain low rule rules n uses (Some k) other skips = record {
  past = suc skips.past;
  place = let place : k ≡ low + 1 + skips.past = skips.place in omega arith;
  within = let within : skips.past < length rules = skips.within in omega arith;
  keyed = skips.keyed;
  same = ap (λ b. if b && may_use plain rule n then Some low else first_fit_from (keyed_fits key plain) (low + 1) rules uses) other ∙ skips.same;
}

-- the rules before the first of the key don't fit
pub skips : (key : Rule → Bool) (plain : List ℤ) (low : ℕ) (rules : List Rule) (uses : List ℕ) → length uses ≡ length rules → SkipsTo key plain low rules uses (position_from key low rules)
unfolding SkipsTo
skips key plain low [] uses same = refl
skips key plain low (rule ∷ rules) [] same = absurd (omega arith)
skips key plain low (rule ∷ rules) (n ∷ uses) same = go (key rule) refl (skips key plain (low + 1) rules uses (omega arith))
  where
    go : (b : Bool) → key rule ≡ b → SkipsTo key plain (low + 1) rules uses (position_from key (low + 1) rules)
        → SkipsTo key plain low (rule ∷ rules) (n ∷ uses) (if b then Some low else position_from key (low + 1) rules)
    go true is rest = record { past = 0; place = omega arith; within = omega arith; keyed = λ d. is; same = refl }
    go false is rest = skip_one key plain low rule rules n uses (position_from key (low + 1) rules) is rest

-- what is left to look at
abbrev pub left_to : (Rule → Bool) → List ℤ → List Rule → List ℕ → Option ℕ → Option ℕ
left_to key plain rules uses None = None
left_to key plain rules uses (Some k) = first_fit_from (keyed_fits key plain) k (drop k rules) (drop k uses)

-- the next rule of the key, from a place on, has what is left
pub record Ahead (key : Rule → Bool) (plain : List ℤ) (rules : List Rule) (uses : List ℕ) (next : Option ℕ) : Type 0 where
  pub within : (k : ℕ) → next ≡ Some k → k < length rules
  pub keyed : (k : ℕ) (d : Rule) → next ≡ Some k → key (get_or rules k d) ≡ true
  pub fit : first_fit_from (keyed_fits key plain) 0 rules uses ≡ left_to key plain rules uses next

pub record Onward (key : Rule → Bool) (plain : List ℤ) (rules : List Rule) (uses : List ℕ) (low : ℕ) (next : Option ℕ) : Type 0 where
  pub ahead : Ahead key plain rules uses next
  pub later : (k : ℕ) → next ≡ Some k → low ≤ k

some_is : (j k : ℕ) → ◌≡◌ {A = Option ℕ} (Some j) (Some k) → j ≡ k
some_is j k e = cc

drop_on : {X : Type 0} (xs : List X) (low past j : ℕ) → j ≡ low + past → drop past (drop low xs) ≡ drop j xs
drop_on xs low past j is = drop-drop past low xs ∙ ap (λ i. drop i xs) (sym is)

onward : (key : Rule → Bool) (plain : List ℤ) (rules : List Rule) (uses : List ℕ) (low : ℕ) (o : Option ℕ)
    → first_fit_from (keyed_fits key plain) 0 rules uses ≡ first_fit_from (keyed_fits key plain) low (drop low rules) (drop low uses)
    → SkipsTo key plain low (drop low rules) (drop low uses) o → Onward key plain rules uses low o
unfolding SkipsTo
onward key plain rules uses low None fit skip = record {
  ahead = record { within = λ k e. cc; keyed = λ k d e. cc; fit = fit ∙ skip };
  later = λ k e. cc;
}
onward key plain rules uses low (Some j) fit skip =
    let place : j ≡ low + skip.past = skip.place in
    let within : skip.past < length (drop low rules) = skip.within in
    let inside : low + skip.past < length rules = omega (arith, length-drop low rules) in
    record {
      ahead = record {
        within = λ k e. let is : j ≡ k = some_is j k e in omega arith;
        keyed = λ k d e. let is : low + skip.past ≡ k = sym place ∙ some_is j k e in subst (λ i. key (get_or rules i d) ≡ true) is (ap key (sym (get_or-drop low rules skip.past d)) ∙ skip.keyed d);
        fit = fit ∙ skip.same ∙ ap₂ (first_fit_from (keyed_fits key plain) j) (drop_on rules low skip.past j place) (drop_on uses low skip.past j place);
      };
      later = λ k e. let is : j ≡ k = some_is j k e in omega arith;
    }

-- at the start
pub ahead_start : (key : Rule → Bool) (plain : List ℤ) (rules : List Rule) (uses : List ℕ) (next : Option ℕ) → length uses ≡ length rules → next ≡ position_from key 0 rules → Ahead key plain rules uses next
ahead_start key plain rules uses next same is =
    subst (λ (o : Option ℕ). Ahead key plain rules uses o) (sym is) (onward key plain rules uses 0 (position_from key 0 rules) refl (skips key plain 0 rules uses same)).ahead

lengths : (rules : List Rule) (uses : List ℕ) (k : ℕ) → length uses ≡ length rules → length (drop k uses) ≡ length (drop k rules)
lengths rules uses k same = omega (arith, length-drop k rules, length-drop k uses)

-- past a rule that may not be used
pub ahead_next : (key : Rule → Bool) (plain : List ℤ) (rules : List Rule) (uses : List ℕ) (k : ℕ) (rule : Rule) (following : Option ℕ) → length uses ≡ length rules
    → Ahead key plain rules uses (Some k) → rule ≡ get_or rules k rule → may_use plain rule (slice_index uses k) ≡ false
    → following ≡ position_from key (k + 1) (drop (k + 1) rules) → Onward key plain rules uses (k + 1) following
ahead_next key plain rules uses k rule following same ahead read unused is =
    let inside : k < length rules = ahead.within k refl in
    let used : k < length uses = omega arith in
    let fit : first_fit_from (keyed_fits key plain) 0 rules uses ≡ first_fit_from (keyed_fits key plain) (k + 1) (drop (k + 1) rules) (drop (k + 1) uses)
    = ahead.fit
    ∙ ap₂ (first_fit_from (keyed_fits key plain) k) (drop-cons rules k rule inside ∙ ap₂ (λ r i. r ∷ drop i rules) (sym read) (sym (add-one k))) (drop-cons uses k 0 used ∙ ap (λ i. slice_index uses k ∷ drop i uses) (sym (add-one k)))
    ∙ if_false (key rule && may_use plain rule (slice_index uses k)) (Some k) (first_fit_from (keyed_fits key plain) (k + 1) (drop (k + 1) rules) (drop (k + 1) uses)) (unfit (key rule) (may_use plain rule (slice_index uses k)) unused)
    in
    subst (λ (o : Option ℕ). Onward key plain rules uses (k + 1) o) (sym is)
    (onward key plain rules uses (k + 1) (position_from key (k + 1) (drop (k + 1) rules)) fit (skips key plain (k + 1) (drop (k + 1) rules) (drop (k + 1) uses) (lengths rules uses (k + 1) same)))
  where
    unfit : (a b : Bool) → b ≡ false → (a && b) ≡ false
    unfit true b e = e
    unfit false b e = refl

-- at a rule that may be used
pub ahead_found : (key : Rule → Bool) (plain : List ℤ) (rules : List Rule) (uses : List ℕ) (k : ℕ) (rule : Rule) → length uses ≡ length rules
    → Ahead key plain rules uses (Some k) → rule ≡ get_or rules k rule → may_use plain rule (slice_index uses k) ≡ true
    → first_fit_from (keyed_fits key plain) 0 rules uses ≡ Some k
ahead_found key plain rules uses k rule same ahead read free =
    let inside : k < length rules = ahead.within k refl in
    let used : k < length uses = omega arith in
    let keyed : key rule ≡ true = ap key read ∙ ahead.keyed k rule refl in
    ahead.fit
    ∙ ap₂ (first_fit_from (keyed_fits key plain) k) (drop-cons rules k rule inside ∙ ap (λ r. r ∷ drop (suc k) rules) (sym read)) (drop-cons uses k 0 used)
    ∙ if_true (key rule && may_use plain rule (slice_index uses k)) (Some k) (first_fit_from (keyed_fits key plain) (k + 1) (drop (suc k) rules) (drop (suc k) uses)) (and_from (key rule) (may_use plain rule (slice_index uses k)) keyed free)

-- the steps of an index

pub record Leads (all rules : List Rule) (from k : ℕ) (step : Step) : Type 0 where
  pub target : (d : Rule) → step.to ≡ state_number all (get_or rules k d).to
  pub following : (d : Rule) → step.following ≡ position_from (is_keyed all (state_number all (get_or rules k d).from) (get_or rules k d).function.0) (from + k + 1) (drop (suc k) rules)

pub step_at : (all rules : List Rule) (from k : ℕ) (step : Step) → slice_get (steps_from all from rules) k ≡ Some step → Leads all rules from k step
step_at all [] from k step e = cc
step_at all (rule ∷ rules) from zero step e =
    let is : record { to = state_number all rule.to; following = position_from (is_keyed all (state_number all rule.from) rule.function.0) (from + 1) rules } ≡ step = cc in
    let same : from + 1 ≡ from + 0 + 1 = omega arith in
    record {
      target = λ d. ap (λ (s : Step). s.to) (sym is);
      following = λ d. ap (λ (s : Step). s.following) (sym is) ∙ ap (λ i. position_from (is_keyed all (state_number all rule.from) rule.function.0) i rules) same;
    }
step_at all (rule ∷ rules) from (suc k) step e =
    let rest = step_at all rules (from + 1) k step e in
    let same : from + 1 + k + 1 ≡ from + suc k + 1 = omega arith in
    record {
      target = rest.target;
      following = λ d. rest.following d ∙ ap (λ i. position_from (is_keyed all (state_number all (get_or rules k d).from) (get_or rules k d).function.0) i (drop (suc k) rules)) same;
    }

pub steps_long : (all rules : List Rule) (from : ℕ) → length (steps_from all from rules) ≡ length rules
steps_long all [] from = refl
steps_long all (rule ∷ rules) from = ap suc (steps_long all rules (from + 1))

key_is : (number g h f : ℕ) → (nat_eq number h && nat_eq g f) ≡ true → (number ≡ h) × (g ≡ f)
key_is number g h f e = let t = and_parts (nat_eq number h) (nat_eq g f) e in (eqb-true number h t.0, eqb-true g f t.1)

-- the step of a rule of the key leads to the next one of the key
pub key_step : (rules : List Rule) (k state f : ℕ) (step : Step) (d : Rule) → slice_get (steps_from rules 0 rules) k ≡ Some step → is_keyed rules state f (get_or rules k d) ≡ true
    → step.following ≡ position_from (is_keyed rules state f) (k + 1) (drop (k + 1) rules)
key_step rules k state f step d at keyed =
    let leads = step_at rules rules 0 k step at in
    let key = key_is (state_number rules (get_or rules k d).from) (get_or rules k d).function.0 state f keyed in
    let same : 0 + k + 1 ≡ k + 1 = omega arith in
    leads.following d
    ∙ ap₂ (λ h g. position_from (is_keyed rules h g) (0 + k + 1) (drop (suc k) rules)) key.0 key.1
    ∙ ap₂ (λ i j. position_from (is_keyed rules state f) i (drop j rules)) same (sym (add-one k))

-- numbers of states tell names apart

pub record FoundIn (state : List ℕ) (rules : List Rule) (i p : ℕ) : Type 0 where
  pub past : ℕ
  pub place : p ≡ i + past
  pub within : past < length rules
  pub named : (d : Rule) → (get_or rules past d).from ≡ state

found_in : (state : List ℕ) (rules : List Rule) (i p : ℕ) → position_from (λ r. bytes_eq r.from state) i rules ≡ Some p → FoundIn state rules i p
found_in state [] i p e = cc
found_in state (r ∷ rules) i p e = go (bytes_eq r.from state) refl (found_in state rules (i + 1) p) e
  where
    go : (b : Bool) → bytes_eq r.from state ≡ b → (position_from (λ q. bytes_eq q.from state) (i + 1) rules ≡ Some p → FoundIn state rules (i + 1) p)
        → (if b then Some i else position_from (λ q. bytes_eq q.from state) (i + 1) rules) ≡ Some p → FoundIn state (r ∷ rules) i p
    go true is others here = let same : i ≡ p = some_is i p here in record { past = 0; place = omega arith; within = omega arith; named = λ d. bytes_equal r.from state is }
    go false is others there =
        let rest = others there in
        let place : p ≡ i + 1 + rest.past = rest.place in
        let within : rest.past < length rules = rest.within in
        record { past = suc rest.past; place = omega arith; within = omega arith; named = rest.named }

-- a state in which a rule begins has a first rule
has_first : (state : List ℕ) (rules : List Rule) (i k : ℕ) (d : Rule) → k < length rules → (get_or rules k d).from ≡ state → (p : ℕ) × (position_from (λ r. bytes_eq r.from state) i rules ≡ Some p)
has_first state [] i k d within is = absurd (omega arith)
has_first state (r ∷ rules) i zero d within is =
    (i, if_true (bytes_eq r.from state) (Some i) (position_from (λ q. bytes_eq q.from state) (i + 1) rules) (ap (λ w. bytes_eq w state) is ∙ bytes_same state))
has_first state (r ∷ rules) i (suc k) d within is = go (bytes_eq r.from state) (has_first state rules (i + 1) k d (omega arith) is)
  where
    go : (b : Bool) → (p : ℕ) × (position_from (λ q. bytes_eq q.from state) (i + 1) rules ≡ Some p)
        → (p : ℕ) × ((if b then Some i else position_from (λ q. bytes_eq q.from state) (i + 1) rules) ≡ Some p)
    go true rest = (i, refl)
    go false rest = rest

same_first : (rules : List Rule) (from state : List ℕ) (p q : ℕ) → first_in rules from ≡ Some p → first_in rules state ≡ Some q → p ≡ q → from ≡ state
same_first rules from state p q a b same =
    let x = found_in from rules 0 p a in
    let y = found_in state rules 0 q b in
    let px : p ≡ 0 + x.past = x.place in
    let qy : q ≡ 0 + y.past = y.place in
    let past : x.past ≡ y.past = omega arith in
    let d : Rule = record { from = []; function = record { 0 = 0 }; ranges = []; most = None; to = [] } in
    sym (x.named d) ∙ ap (λ i. (get_or rules i d).from) past ∙ y.named d

same_number : (rules : List Rule) (from state : List ℕ) (p : ℕ) → first_in rules from ≡ Some p → state_number rules from ≡ state_number rules state → from ≡ state
same_number rules from state p a same = go (first_in rules state) refl
  where
    number : state_number rules from ≡ p
    number = ap (λ o. unwrap_or o (length rules)) a

    go : (o : Option ℕ) → first_in rules state ≡ o → from ≡ state
    go None none =
        let x = found_in from rules 0 p a in
        let within : x.past < length rules = x.within in
        let place : p ≡ 0 + x.past = x.place in
        let end : p ≡ length rules = sym number ∙ same ∙ ap (λ o. unwrap_or o (length rules)) none in
        absurd (omega arith)
    go (Some q) some = same_first rules from state p q a some (sym number ∙ same ∙ ap (λ o. unwrap_or o (length rules)) some)

-- of a rule's state, the numbers are equal exactly where the names are
number_tells : (rules : List Rule) (from state : List ℕ) (p : ℕ) → first_in rules from ≡ Some p → nat_eq (state_number rules from) (state_number rules state) ≡ bytes_eq from state
number_tells rules from state p a = go (bytes_eq from state) refl
  where
    go : (b : Bool) → bytes_eq from state ≡ b → nat_eq (state_number rules from) (state_number rules state) ≡ b
    go true is = ap (λ s. nat_eq (state_number rules from) (state_number rules s)) (sym (bytes_equal from state is)) ∙ nat_eq_self (state_number rules from)
    go false isnt = differ (nat_eq (state_number rules from) (state_number rules state)) refl
      where
        differ : (b : Bool) → nat_eq (state_number rules from) (state_number rules state) ≡ b → b ≡ false
        differ false e = refl
        differ true e =
            let same : from ≡ state = same_number rules from state p a (eqb-true (state_number rules from) (state_number rules state) e) in
            let yes' : bytes_eq from state ≡ true = ap (λ w. bytes_eq w state) same ∙ bytes_same state in
            sym yes' ∙ isnt

-- two tests that agree at each rule find the same
fit_agree : (test other : Rule → ℕ → Bool) (k : ℕ) (rules : List Rule) (uses : List ℕ) → ((j n : ℕ) (d : Rule) → j < length rules → test (get_or rules j d) n ≡ other (get_or rules j d) n)
    → first_fit_from test k rules uses ≡ first_fit_from other k rules uses
fit_agree test other k [] uses agree = refl
fit_agree test other k (rule ∷ rules) [] agree = refl
fit_agree test other k (rule ∷ rules) (n ∷ uses) agree =
    ap₂ (λ b o. if b then Some k else o) (agree 0 n rule (omega arith)) (fit_agree test other (k + 1) rules uses (λ j m d within. agree (suc j) m d (omega arith)))

-- by numbers and by names the same rule is found
pub fit_by_name : (rules : List Rule) (uses : List ℕ) (state : ℕ) (f : FnId) (plain : List ℤ) (name : List ℕ) → state ≡ state_number rules name
    → first_fit_from (keyed_fits (is_keyed rules state f.0) plain) 0 rules uses ≡ first_fit_from (fits name f plain) 0 rules uses
fit_by_name rules uses state f plain name is =
    fit_agree (keyed_fits (is_keyed rules state f.0) plain) (fits name f plain) 0 rules uses
    (λ j n d within.
    let rule : Rule = get_or rules j d in
    let first = has_first rule.from rules 0 j d within refl in
    ap (λ h. (nat_eq (state_number rules rule.from) h && nat_eq rule.function.0 f.0) && may_use plain rule n) is
    ∙ ap (λ b. (b && nat_eq rule.function.0 f.0) && may_use plain rule n) (number_tells rules rule.from name first.0 first.1))

-- the rule that was found may be used
pub fit_is_left : (state : List ℕ) (f : FnId) (plain : List ℤ) (low k : ℕ) (rules : List Rule) (uses : List ℕ) → first_fit_from (fits state f plain) low rules uses ≡ Some k
    → (past : ℕ) × (k ≡ low + past) × ((d : Rule) → is_left (get_or rules past d).most (slice_index uses past) ≡ true)
fit_is_left state f plain low k [] uses e = cc
fit_is_left state f plain low k (rule ∷ rules) [] e = cc
fit_is_left state f plain low k (rule ∷ rules) (n ∷ uses) e = go (fits state f plain rule n) refl (fit_is_left state f plain (low + 1) k rules uses) e
  where
    go : (b : Bool) → fits state f plain rule n ≡ b
        → (first_fit_from (fits state f plain) (low + 1) rules uses ≡ Some k → (past : ℕ) × (k ≡ low + 1 + past) × ((d : Rule) → is_left (get_or rules past d).most (slice_index uses past) ≡ true))
        → (if b then Some low else first_fit_from (fits state f plain) (low + 1) rules uses) ≡ Some k
        → (past : ℕ) × (k ≡ low + past) × ((d : Rule) → is_left (get_or (rule ∷ rules) past d).most (slice_index (n ∷ uses) past) ≡ true)
    go true is others here =
        let same : low ≡ k = some_is low k here in
        let rest = and_parts (is_of state f rule) (may_use plain rule n) is in
        (0, (omega arith), λ d. (and_parts (list_all (is_within plain) rule.ranges) (is_left rule.most n) rest.1).1)
    go false is others there =
        let rest = others there in
        let place : k ≡ low + 1 + rest.0 = rest.1 in
        (suc rest.0, (omega arith), rest.2)

-- how far the search has to go
unfoldable pub left_in : List Rule → Option ℕ → ℕ
left_in rules None = 0
left_in rules (Some k) = length rules - k

pub left_less : (rules : List Rule) (k : ℕ) (next : Option ℕ) → k < length rules → ((j : ℕ) → next ≡ Some j → k + 1 ≤ j) → left_in rules next < left_in rules (Some k)
unfolding left_in
left_less rules k None within later = omega arith
left_less rules k (Some j) within later = let after : k + 1 ≤ j = later j refl in omega arith
