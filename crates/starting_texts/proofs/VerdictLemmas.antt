-- The policy allows each call of its functions, and no call changes it.
use Rattle.std.proofs.Common.{◌≡◌, ◌∙◌, ◌<◌, ◌+◌, ℕ, ℤ, zero, suc, Bool, true, false, cond, ◌&&◌, nat_eq, List, [], ◌∷◌, length, replicate, get_or, slice_get, Option, Some, None, option_map, codes, refl, ap, arith, eq-eqb}
use Rattle.std.specs.Option.{option_map_or}
use Rattle.std.proofs.lemmas.List.{set-get_or}
use Rattle.std.proofs.lemmas.Option.{slice_get-map}
use Rattle.pt_base.specs.declared.ids.FnId.{FnId}
use Rattle.policy.specs.Laws.{standing_after}
use Rattle.policy.specs.Verdicts.{Standing, fits, first_fit_from, verdict_on, used, after, start}
use Rattle.policy.specs.declared.verdict.Verdict.{Verdict}
use Rattle.policy.specs.declared.verdict.Verdict.TheVariants.{Allow, Deny}
use Rattle.starting_texts.specs.Laws.{PoliciesAllow, PoliciesStay}
use Rattle.starting_texts.specs.Policies.{start_rule, start_rules}

-- ---- the policy stays as it is

abbrev at_start : List FnId → Standing
at_start fs = start (start_rules fs)

abbrev with_uses : List FnId → List ℕ → Standing
with_uses fs uses = record { rules = start_rules fs; state = codes "start"; uses = uses }

-- a rule leads back, and counts nothing
used_stays : (g : FnId) (gs : List FnId) (k : ℕ) (o : Option FnId) → used (at_start (g ∷ gs)) k (option_map start_rule o) ≡ at_start (g ∷ gs)
used_stays g gs k None = refl
used_stays g gs k (Some f) =
    ap (with_uses (g ∷ gs))
    (set-get_or (replicate (length (start_rules (g ∷ gs))) 0) k 0)

stays : (fs : List FnId) (v : Verdict) → after (at_start fs) v ≡ at_start fs
stays fs Deny = refl
stays [] (Allow k) = refl
stays (g ∷ gs) (Allow k) = ap (used (at_start (g ∷ gs)) k) (slice_get-map start_rule (g ∷ gs) k) ∙ used_stays g gs k (slice_get (g ∷ gs) k)

pub policies_stay : PoliciesStay
policies_stay fs [] = refl
policies_stay fs (call ∷ calls) =
    ap (λ (s : Standing). standing_after s calls) (stays fs (verdict_on (at_start fs) call.function call.plain)) ∙ policies_stay fs calls

-- ---- each call is allowed

-- the rule that fits first, where the rules are counted from j
abbrev fit_from : FnId → List ℤ → ℕ → List FnId → Option ℕ
fit_from f plain j gs = first_fit_from (fits (codes "start") f plain) j (start_rules gs) (replicate (length (start_rules gs)) 0)

abbrev Fits : Option ℕ → Type 0
Fits o = (n : ℕ) × (o ≡ Some n)

fit_found : (f : FnId) (plain : List ℤ) (j k : ℕ) (gs : List FnId) → k < length gs → get_or gs k f ≡ f → Fits (fit_from f plain j gs)
fit_found f plain j k [] within same = absurd (omega arith)
fit_found f plain j zero (g ∷ gs) within same =
    (j, ap (λ b. cond (b && true) (Some j) (fit_from f plain (j + 1) gs)) (eq-eqb g.0 f.0 (ap (λ (x : FnId). x.0) same)))
fit_found f plain j (suc k) (g ∷ gs) within same = go (nat_eq g.0 f.0) (fit_found f plain (j + 1) k gs (omega arith) same)
  where
    go : (b : Bool) → Fits (fit_from f plain (j + 1) gs) → Fits (cond (b && true) (Some j) (fit_from f plain (j + 1) gs))
    go true rest = (j, refl)
    go false rest = rest

fits_first : (fs : List FnId) (f : FnId) (plain : List ℤ) (k : ℕ) → k < length fs → get_or fs k f ≡ f → (n : ℕ) × (verdict_on (at_start fs) f plain ≡ Allow n)
fits_first [] f plain k within same = absurd (omega arith)
fits_first (g ∷ gs) f plain k within same =
    let found = fit_found f plain 0 k (g ∷ gs) within same in
    (found.0, ap (λ (o : Option ℕ). option_map_or Allow o Deny) found.1)

pub policies_allow_lem : PoliciesAllow
policies_allow_lem fs before f plain stands =
    let allowed = fits_first fs f plain stands.0 stands.1 stands.2 in
    (allowed.0, ap (λ (s : Standing). verdict_on s f plain) (policies_stay fs before) ∙ allowed.1)
