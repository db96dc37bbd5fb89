-- Models by the numbers of their functions.
use Rattle.std.proofs.Common.{◌≡◌, ◌<◌, ◌≤◌, ℕ, zero, suc, List, [], ◌∷◌, length, get_or, set, slice_get, cond, if◌then◌else◌, ◌||◌, Bool, true, false, true≢false, Option, Some, None, refl, sym, ap, subst, ◌∙◌, arith, nat_eq, nat_cmp, Less, Equal, Greater}
use Rattle.std.proofs.lemmas.Cmp.{nat_cmp_total, nat_eq_equiv, ranked}
use Rattle.std.proofs.lemmas.List.{get_or-map, length-map}
use Rattle.std.proofs.lemmas.List.Sorted.{IsNonDecreasingBy-from_default, IsPermutation-map, Contains-permutation, IsPermutation-sym}
use Rattle.std.proofs.lemmas.Map.Entries.{lookup_from_place, lookup_at_gap, lookup-filter-keys}
use Rattle.std.proofs.lemmas.Map.Keys.{IsDistinct-IsPermutation, IsStrictlyIncreasing-from_distinct, sorted_from_strictly_increasing, below_from_sorted, IsDistinct-from_sorted}
use Rattle.std.proofs.lemmas.Map.Views.{Contains-from_lookup, lookup-from_Contains, exact_unsigned_eq}
use Rattle.std.proofs.lemmas.Option.{slice_get-get_or, get_or_from_slice_get, none-some, slice_get_within, same_Some}
use Rattle.std.specs.List.{IsDistinct, AllByRecursion, HoldsAt, filter}
use Rattle.std.specs.List.Sorted.{IsPermutation, IsNonDecreasing, IsNonDecreasingBy, IsStrictlySortedBy, IsPartitionPoint}
use Rattle.std.specs.Map.{keys_of, lookup}
use Rattle.std.specs.Ordering.{ordering_index}
use Rattle.pt_base.proofs.Orders.{cmp_index_rises, cmp_turned, nat_eq_is_cmp}
use Rattle.pt_tree.specs.declared.host_model.HostModel.{HostModel}
use Rattle.pt_tree.specs.declared.host_model.HostModel.TheVariants.{Bytes}
use Rattle.host_table.specs.Hosts.{Hosts, models_by, IsPlaceOf}

abbrev pub Models : Type 0
Models = List (ℕ × HostModel)

-- hosts are the same where each number has the same model
pub same_hosts : (a b : Hosts) → ((f : ℕ) → a.models f ≡ b.models f) → a.input ≡ b.input → a ≡ b
same_hosts a b models input = λ i. record { models = λ f. models f i; input = input i }

-- ---- numbers that rise

abbrev any_model : ℕ × HostModel
any_model = (0, Bytes)

number_at : (models : Models) (i : ℕ) → i < length models → get_or (keys_of models) i 0 ≡ (get_or models i any_model).0
number_at models i within = get_or-map (λ (m : ℕ × HostModel). m.0) models i any_model 0 within

pub sorted_numbers : (models : Models) → IsNonDecreasingBy (λ m. m.0) models → IsDistinct nat_eq (keys_of models) → IsStrictlySortedBy nat_cmp (keys_of models)
sorted_numbers models rises differ =
    let long : length (keys_of models) ≡ length models = length-map models (λ m. m.0) in
    let rising : IsNonDecreasing (keys_of models) =
    IsNonDecreasingBy-from_default (λ x. x) (keys_of models) 0 (λ i j le within.
    let at_j : get_or (keys_of models) j 0 ≡ (get_or models j any_model).0 = number_at models j (omega arith) in
    let at_i : get_or (keys_of models) i 0 ≡ (get_or models i any_model).0 = number_at models i (omega arith) in
    let up : (get_or models i any_model).0 ≤ (get_or models j any_model).0 = rises i j any_model le (omega arith) in
    rw (at_i, at_j) up) in
    sorted_from_strictly_increasing (keys_of models) (IsStrictlyIncreasing-from_distinct (keys_of models) rising differ)

pub distinct_numbers-permutation : (xs ys : Models) → IsPermutation xs ys → IsDistinct nat_eq (keys_of xs) → IsDistinct nat_eq (keys_of ys)
distinct_numbers-permutation xs ys moved = IsDistinct-IsPermutation nat_eq nat_eq_equiv.symm (keys_of xs) (keys_of ys) (IsPermutation-map (λ (m : ℕ × HostModel). m.0) xs ys moved)

-- the order of the models doesn't matter
pub models_by-permutation : (xs ys : Models) → IsPermutation xs ys → IsDistinct nat_eq (keys_of xs) → (f : ℕ) → models_by ys f ≡ models_by xs f
models_by-permutation xs ys moved differ f = by_xs (models_by xs f) refl
  where
    there : (model : HostModel) → models_by xs f ≡ Some model → models_by ys f ≡ Some model
    there model is = lookup-from_Contains nat_eq_equiv f model ys (distinct_numbers-permutation xs ys moved differ) (Contains-permutation xs ys (f, model) moved (Contains-from_lookup exact_unsigned_eq f model xs is))

    back : (model : HostModel) → models_by ys f ≡ Some model → models_by xs f ≡ Some model
    back model is = lookup-from_Contains nat_eq_equiv f model xs differ (Contains-permutation ys xs (f, model) (IsPermutation-sym xs ys moved) (Contains-from_lookup exact_unsigned_eq f model ys is))

    nowhere : (o : Option HostModel) → models_by ys f ≡ o → ((model : HostModel) → models_by ys f ≡ Some model → models_by xs f ≡ Some model) → models_by xs f ≡ None → models_by ys f ≡ None
    nowhere None is other none = is
    nowhere (Some model) is other none = absurd (none-some model (sym none ∙ other model is))

    by_xs' : (o : Option HostModel) → models_by xs f ≡ o → ((model : HostModel) → models_by xs f ≡ Some model → models_by ys f ≡ Some model) → (models_by xs f ≡ None → models_by ys f ≡ None) → models_by ys f ≡ models_by xs f
    by_xs' None is some none = none is ∙ sym is
    by_xs' (Some model) is some none = some model is ∙ sym is

    by_xs : (o : Option HostModel) → models_by xs f ≡ o → models_by ys f ≡ models_by xs f
    by_xs o is = by_xs' o is there (nowhere (models_by ys f) refl back)

-- ---- a search among numbers in order

pub distinct_from_sorted : (models : Models) → IsStrictlySortedBy nat_cmp (keys_of models) → IsDistinct nat_eq (keys_of models)
distinct_from_sorted models sorted = subst (λ (eq : ℕ → ℕ → Bool). IsDistinct eq (keys_of models)) (λ i f k. sym (nat_eq_is_cmp f k) i) (IsDistinct-from_sorted nat_cmp (keys_of models) sorted)

numbers_rise : (models : Models) → IsStrictlySortedBy nat_cmp (keys_of models) → (i j : ℕ) → i ≤ j → j < length models → (get_or models i any_model).0 ≤ (get_or models j any_model).0
numbers_rise models sorted i j le within =
    let long : length (keys_of models) ≡ length models = length-map models (λ m. m.0) in
    let at_j : get_or (keys_of models) j 0 ≡ (get_or models j any_model).0 = number_at models j within in
    let at_i : get_or (keys_of models) i 0 ≡ (get_or models i any_model).0 = number_at models i (omega arith) in
    let apart : i < j → get_or (keys_of models) i 0 < get_or (keys_of models) j 0 = λ lt. below_from_sorted (keys_of models) i j 0 sorted lt (omega arith) in
    let same : i ≡ j → (get_or models i any_model).0 ≡ (get_or models j any_model).0 = λ e. ap (λ n. (get_or models n any_model).0) e in
    grind arith

-- the comparisons with a number rise along the models, as a binary search asks
rises_to : (models : Models) (f : ℕ) → IsStrictlySortedBy nat_cmp (keys_of models) → IsNonDecreasingBy (λ (m : ℕ × HostModel). ordering_index (nat_cmp m.0 f)) models
rises_to models f sorted =
    IsNonDecreasingBy-from_default (λ (m : ℕ × HostModel). ordering_index (nat_cmp m.0 f)) models any_model
    (λ i j le within. cmp_index_rises (get_or models i any_model).0 (get_or models j any_model).0 f (numbers_rise models sorted i j le within))

-- the search ends at the number
pub found_place : (models : Models) (f i : ℕ) → i < length models → HoldsAt (λ (m : ℕ × HostModel). nat_cmp m.0 f ≡ Equal) models i → IsPlaceOf models f i
found_place models f i within equal = record {
  model = (get_or models i any_model).1;
  stands = slice_get-get_or models i any_model within ∙ ap (λ n. Some (n, (get_or models i any_model).1)) (ranked (get_or models i any_model).0 f Equal (sym (equal any_model)));
}

-- or at the gap for it
pub no_place : (models : Models) (f i : ℕ) → IsStrictlySortedBy nat_cmp (keys_of models)
    → (IsNonDecreasingBy (λ (m : ℕ × HostModel). ordering_index (nat_cmp m.0 f)) models → IsPartitionPoint (λ (m : ℕ × HostModel). nat_cmp m.0 f ≡ Less) (λ (m : ℕ × HostModel). nat_cmp m.0 f ≡ Greater) models i)
    → i ≤ length models → lookup (nat_eq f) models ≡ None
no_place models f i sorted parted within =
    let halves = parted (rises_to models f sorted) in
    ap (λ test. lookup test models) (λ j k. nat_eq_is_cmp f k j)
    ∙ lookup_at_gap nat_cmp_total f models i sorted
    (λ j e lt stands. cmp_turned e.0 f Less (ap (λ (m : ℕ × HostModel). nat_cmp m.0 f) (sym (get_or_from_slice_get models j e any_model stands)) ∙ halves.0 j any_model (omega arith) lt))
    (λ e stands. cmp_turned e.0 f Greater (ap (λ (m : ℕ × HostModel). nat_cmp m.0 f) (sym (get_or_from_slice_get models i e any_model stands)) ∙ halves.1 i any_model (omega arith) (slice_get_within models i e stands)))

-- what stands at a host's place is its model
pub place_model : (models : Models) (f i : ℕ) → IsStrictlySortedBy nat_cmp (keys_of models) → (place : IsPlaceOf models f i) → lookup (nat_eq f) models ≡ Some place.model
place_model models f i sorted place = lookup_from_place nat_eq_equiv models i f place.model (distinct_from_sorted models sorted) place.stands

pub place_read : (models : Models) (f i : ℕ) (place : IsPlaceOf models f i) (m : ℕ × HostModel) → m ≡ get_or models i m → m ≡ (f, place.model)
place_read models f i place m read = read ∙ get_or_from_slice_get models i (f, place.model) m place.stands

pub place_within : (models : Models) (f i : ℕ) → IsPlaceOf models f i → i < length models
place_within models f i place = slice_get_within models i (f, place.model) place.stands

-- ---- some of the models

pub distinct_numbers-filter : (p : ℕ → Bool) (models : Models) → IsDistinct nat_eq (keys_of models) → IsDistinct nat_eq (keys_of (filter (λ (m : ℕ × HostModel). p m.0) models))
unfolding IsDistinct
distinct_numbers-filter p [] differ = tt
distinct_numbers-filter p (m ∷ models) differ = go (p m.0) (distinct_numbers-filter p models differ.1) (others models differ.0)
  where
    others : (ms : Models) → AllByRecursion (λ y. nat_eq m.0 y ≡ false) (keys_of ms) → AllByRecursion (λ y. nat_eq m.0 y ≡ false) (keys_of (filter (λ (e : ℕ × HostModel). p e.0) ms))
    others [] all = tt {0}
    others (e ∷ ms) all = one (p e.0) all.0 (others ms all.1)
      where
        one : (b : Bool) → nat_eq m.0 e.0 ≡ false → AllByRecursion (λ y. nat_eq m.0 y ≡ false) (keys_of (filter (λ (n : ℕ × HostModel). p n.0) ms))
            → AllByRecursion (λ y. nat_eq m.0 y ≡ false) (keys_of (cond b (e ∷ filter (λ (n : ℕ × HostModel). p n.0) ms) (filter (λ (n : ℕ × HostModel). p n.0) ms)))
        one true here rest = (here, rest)
        one false here rest = rest

    go : (b : Bool) → IsDistinct nat_eq (keys_of (filter (λ (e : ℕ × HostModel). p e.0) models)) → AllByRecursion (λ y. nat_eq m.0 y ≡ false) (keys_of (filter (λ (e : ℕ × HostModel). p e.0) models))
        → IsDistinct nat_eq (keys_of (cond b (m ∷ filter (λ (e : ℕ × HostModel). p e.0) models) (filter (λ (e : ℕ × HostModel). p e.0) models)))
    go true rest all = (all, rest)
    go false rest all = rest

pub models_by-filter : (p : ℕ → Bool) (models : Models) (f : ℕ) → models_by (filter (λ (m : ℕ × HostModel). p m.0) models) f ≡ cond (p f) (models_by models f) None
models_by-filter p models f = lookup-filter-keys (nat_eq f) p (p f) (λ k same. ap p (sym (exact_unsigned_eq f k same))) models

-- one number more is listed
pub listed_more : (new old same before more : Bool) → new ≡ cond same true old → same ≡ more → old ≡ before → new ≡ before || more
listed_more new true same before more is one kept = rw (is, one, ← kept) (all_true more)
  where
    all_true : (b : Bool) → cond b true true ≡ true
    all_true true = refl
    all_true false = refl
listed_more new false same before more is one kept = rw (is, one, ← kept) (as_it_is more)
  where
    as_it_is : (b : Bool) → cond b true false ≡ b
    as_it_is true = refl
    as_it_is false = refl

-- ---- another model at a host's place

pub numbers-set : (models : Models) (i : ℕ) (m : ℕ × HostModel) (new : HostModel) → m ≡ get_or models i m → keys_of (set models i (m.0, new)) ≡ keys_of models
numbers-set [] i m new read = refl
numbers-set (e ∷ models) zero m new read = ap (λ (x : ℕ × HostModel). x.0 ∷ keys_of models) read
numbers-set (e ∷ models) (suc i) m new read = ap (λ numbers. e.0 ∷ numbers) (numbers-set models i m new read)

all_at : (P : ℕ → Type 0) (models : Models) (i : ℕ) (m : ℕ × HostModel) → AllByRecursion P (keys_of models) → slice_get models i ≡ Some m → P m.0
all_at P [] i m all stands = absurd (nothing i stands)
  where
    nothing : (n : ℕ) → slice_get (let none : Models = [] in none) n ≡ Some m → ⊥
    nothing zero e = cc
    nothing (suc n) e = cc
all_at P (e ∷ models) zero m all stands = subst (λ (x : ℕ × HostModel). P x.0) (same_Some e m stands) all.0
all_at P (e ∷ models) (suc i) m all stands = all_at P models i m all.1 stands

here_set : (f g : ℕ) (old new : HostModel) (rest : Option HostModel) (ahead back : Bool) → ahead ≡ back → cond back (Some new) rest ≡ (if ahead then Some new else cond back (Some old) rest)
here_set f g old new rest true true e = refl
here_set f g old new rest true false e = absurd (true≢false e)
here_set f g old new rest false true e = absurd (true≢false (sym e))
here_set f g old new rest false false e = refl

later_set : (own here : Bool) (other new : HostModel) (old after : Option HostModel) → (own ≡ true → here ≡ true → ⊥) → after ≡ (if own then Some new else old)
    → cond here (Some other) after ≡ (if own then Some new else cond here (Some other) old)
later_set true true other new old after apart is = absurd (apart refl refl)
later_set true false other new old after apart is = is
later_set false true other new old after apart is = refl
later_set false false other new old after apart is = is

pub models_by-set : (models : Models) (f i : ℕ) (old new : HostModel) (g : ℕ) → IsDistinct nat_eq (keys_of models) → slice_get models i ≡ Some (f, old)
    → models_by (set models i (f, new)) g ≡ (if nat_eq f g then Some new else models_by models g)
unfolding IsDistinct
models_by-set [] f i old new g differ stands = absurd (nothing i stands)
  where
    nothing : (n : ℕ) → slice_get (let none : Models = [] in none) n ≡ Some (f, old) → ⊥
    nothing zero e = cc
    nothing (suc n) e = cc
models_by-set (e ∷ models) f zero old new g differ stands =
    let same : e ≡ (f, old) = same_Some e (f, old) stands in
    here_set f g old new (models_by models g) (nat_eq f g) (nat_eq g f) (nat_eq_equiv.symm f g)
    ∙ ap (λ (x : ℕ × HostModel). if nat_eq f g then Some new else cond (nat_eq g x.0) (Some x.1) (models_by models g)) (sym same)
models_by-set (e ∷ models) f (suc i) old new g differ stands =
    later_set (nat_eq f g) (nat_eq g e.0) e.1 new (models_by models g) (models_by (set models i (f, new)) g)
    (λ own here. true≢false (sym (ap (nat_eq e.0) (exact_unsigned_eq f g own) ∙ nat_eq_equiv.symm e.0 g ∙ here) ∙ all_at (λ q. nat_eq e.0 q ≡ false) models i (f, old) differ.0 stands))
    (models_by-set models f i old new g differ.1 stands)
