-- What was added to a set already isn't added again.
use Rattle.std.proofs.Common.{◌≡◌, ◌∙◌, ◌<◌, ℕ, zero, suc, refl, ap, sym, subst, arith, ◌⊎◌, inl, inr, Bool, true, false, List, [], ◌∷◌, ◌++◌, length, get_or, nat_eq}
use Rattle.std.specs.Prelude.{◌&&◌, not, if◌then◌else◌}
use Rattle.std.specs.List.{Contains, list_any}
use Rattle.std.proofs.Math.ListN.{set}
use Rattle.std.proofs.lemmas.Bool.Decides.{nat_tests}
use Rattle.std.proofs.lemmas.List.Elements.{Contains-append_cases}
use Rattle.pt_base.proofs.Members.{contains_cases, contains_first, contains_later, contains_nothing}
use Rattle.indexmap.specs.IndexSet.{insert_key}
use Rattle.indexmap.proofs.CallerLemmas.{Contains-list_any}
use Rattle.sides.specs.contracts.outs.SealedPartialEq.TheImpl as sealed_eq
use Rattle.sides.specs.declared.outs.Out.{Out}
use Rattle.sides.specs.declared.outs.Sealed.{Sealed}
use Rattle.sides.specs.declared.slots.SlotInfo.{SlotInfo}
use Rattle.sides.specs.Outs.{IsNoted, Remembers, behind_start, out_of}
use Rattle.reach.specs.Tables.{set_all}
use Rattle.reach.proofs.TableLemmas.{set_all_keeps, set_all_has}
use Rattle.reach.proofs.WalkLemmas.{long_all}

-- the numbers are in the set, or past its end
abbrev AllIn : List Bool → List ℕ → Type 0
AllIn table ks = (k : ℕ) → Contains ks k → k < length table → get_or table k false ≡ true

set_same : (table : List Bool) (k : ℕ) → (k < length table → get_or table k false ≡ true) → set table k true ≡ table
set_same [] k h = refl
set_same (b ∷ bs) zero h = ap (λ x. x ∷ bs) (sym (h (omega arith)))
set_same (b ∷ bs) (suc k) h = ap (λ xs. b ∷ xs) (set_same bs k (λ lt. h (omega arith)))

all_same : (table : List Bool) (ks : List ℕ) → AllIn table ks → set_all table ks ≡ table
all_same table [] h = refl
all_same table (k ∷ ks) h =
    let e = set_same table k (h k (contains_first k ks)) in
    ap (λ t. set_all t ks) e ∙ all_same table ks (λ j i lt. h j (contains_later k ks j i) lt)

all_in : (table : List Bool) (ks : List ℕ) → set_all table ks ≡ table → AllIn table ks
all_in table ks e k i lt = ap (λ t. get_or t k false) (sym e) ∙ set_all_has table ks k lt i

-- what is in the set stays in it
stays_in : (table : List Bool) (js ks : List ℕ) → set_all table ks ≡ table → set_all (set_all table js) ks ≡ set_all table js
stays_in table js ks e =
    all_same (set_all table js) ks (λ k i lt. let long = long_all table js in set_all_keeps table js k (all_in table ks e k i (omega (arith, long, lt))))

twice : (table : List Bool) (ks : List ℕ) → set_all (set_all table ks) ks ≡ set_all table ks
twice table ks = all_same (set_all table ks) ks (λ k i lt. let long = long_all table ks in set_all_has table ks k (omega (arith, long, lt)) i)

-- ---- what is remembered

sealed_same : (a b : Sealed) → sealed_eq.ghosts.eq a b ≡ true → a ≡ b
sealed_same a b h = grind (arith, nat_tests)

pub noted : (before after : List Sealed) (x : Sealed) (b : Bool) → after ≡ insert_key sealed_eq.ghosts.eq before x → b ≡ not (list_any (sealed_eq.ghosts.eq x) before) → IsNoted b before after x
noted before after x b added is = go (list_any (sealed_eq.ghosts.eq x) before) refl b added is
  where
    go : (there : Bool) → list_any (sealed_eq.ghosts.eq x) before ≡ there → (b : Bool) → after ≡ (if there then before else before ++ x ∷ []) → b ≡ not there → IsNoted b before after x
    go true e true added is = cc
    go true e false added is = (added, Contains-list_any sealed_eq.ghosts.eq sealed_same before x e)
    go false e true added is = added
    go false e false added is = cc

-- what was added before
pub added_before : (slots : List SlotInfo) (out : Out) (x : Sealed) (table : List Bool) (before after : List Sealed) (b : Bool) → b ≡ false → out_of x ≡ out → Remembers slots table before → IsNoted b before after x →
    (table ≡ set_all table (behind_start slots out x.start)) × Remembers slots table after
added_before slots out x table before after b is same h was =
    let noted : (after ≡ before) × Contains before x = subst (λ (c : Bool). IsNoted c before after x) is was in
    (sym (ap (λ o. set_all table (behind_start slots o x.start)) (sym same) ∙ h x noted.1), subst (Remembers slots table) (sym noted.0) h)

-- after one more start
pub remembers_on : (slots : List SlotInfo) (out : Out) (x : Sealed) (table table' : List Bool) (before after : List Sealed) (b : Bool) → b ≡ true → out_of x ≡ out → Remembers slots table before → IsNoted b before after x → table' ≡ set_all table (behind_start slots out x.start) →
    Remembers slots table' after
remembers_on slots out x table table' before after b is same h was added =
    subst (Remembers slots table') (sym (subst (λ (c : Bool). IsNoted c before after x) is was)) (subst (λ (t : List Bool). Remembers slots t (before ++ x ∷ [])) (sym added) all)
  where
    one : (y : Sealed) → Contains (x ∷ []) y → set_all (set_all table (behind_start slots out x.start)) (behind_start slots (out_of y) y.start) ≡ set_all table (behind_start slots out x.start)
    one y c = here (contains_cases x [] y c)
      where
        here : (x ≡ y) ⊎ Contains [] y → set_all (set_all table (behind_start slots out x.start)) (behind_start slots (out_of y) y.start) ≡ set_all table (behind_start slots out x.start)
        here (inl e) =
            ap (λ (z : Sealed). set_all (set_all table (behind_start slots out x.start)) (behind_start slots (out_of z) z.start)) (sym e)
            ∙ ap (λ o. set_all (set_all table (behind_start slots out x.start)) (behind_start slots o x.start)) same
            ∙ twice table (behind_start slots out x.start)
        here (inr c) = absurd (contains_nothing y c)

    all : Remembers slots (set_all table (behind_start slots out x.start)) (before ++ x ∷ [])
    all y c = go (Contains-append_cases before (x ∷ []) y c)
      where
        go : Contains before y ⊎ Contains (x ∷ []) y → set_all (set_all table (behind_start slots out x.start)) (behind_start slots (out_of y) y.start) ≡ set_all table (behind_start slots out x.start)
        go (inl c) = stays_in table (behind_start slots out x.start) (behind_start slots (out_of y) y.start) (h y c)
        go (inr c) = one y c

-- at the beginning
pub remembers_nothing : (slots : List SlotInfo) (table : List Bool) (seen : List Sealed) → seen ≡ [] → Remembers slots table seen
remembers_nothing slots table seen none = λ x c. absurd (contains_nothing x (subst (λ (xs : List Sealed). Contains xs x) none c))
