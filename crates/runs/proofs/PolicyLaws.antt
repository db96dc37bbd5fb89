-- What is expected under a policy, event by event.
use Rattle.std.proofs.Common.{◌⊎◌, inl, inr, Option, Some, None, ◌≡◌, ℕ, ◌+◌, List, [], ◌∷◌, ◌++◌, ℤ, sym, ◌∙◌, ap, refl, subst, arith}
use Rattle.std.proofs.lemmas.List.{append_assoc, append-nil}
use Rattle.pt_base.specs.declared.end.End.{End}
use Rattle.pt_base.specs.declared.end.End.TheVariants.{Refused}
use Rattle.runs.specs.State.{Event, out, guarded}
use Rattle.runs.specs.Run.{written, Answers, after_bytes, decided, expected_from}
use Rattle.runs.specs.Laws.{Allows, call_count, Denies, AllowedRunsStay, DeniedRunsStop, RunsAreAllowedOrDenied}

-- events that the policy allows add their bytes, and it goes on from the state that it came to
allowed_first : {S : Type 0} (policy : Answers S) (s t : S) (calls : ℕ) (before after : List Event) (end : End) → Allows policy s before t →
    expected_from policy s calls (before ++ after) end ≡ after_bytes (written before) (expected_from policy t (calls + call_count before) after end)
allowed_first policy s t calls [] after end h =
    let count : calls + 0 ≡ calls = omega arith in
    ap (λ u. expected_from policy u calls after end) h ∙ ap (λ n. expected_from policy t n after end) (sym count)
allowed_first policy s t calls (out bytes ∷ before) after end h =
    ap (after_bytes bytes) (allowed_first policy s t calls before after end h) ∙
    ap (λ bs. record { bytes = bs; end = (expected_from policy t (calls + call_count before) after end).end }) (sym (append_assoc bytes (written before) (expected_from policy t (calls + call_count before) after end).bytes))
allowed_first policy s t calls (guarded f vs ∷ before) after end h =
    let count : calls + 1 + call_count before ≡ calls + (call_count before + 1) = omega arith in
    ap (λ o. decided policy s (calls + 1) f o (λ s'. expected_from policy s' (calls + 1) (before ++ after) end)) h.1 ∙
    allowed_first policy h.0 t (calls + 1) before after end h.2 ∙
    ap (λ n. after_bytes (written before) (expected_from policy t n after end)) count

pub allowed : (S : Type 0) → AllowedRunsStay S
allowed S policy run all =
    ap (λ es. expected_from policy policy.first 0 es run.end) (sym (append-nil run.events)) ∙
    allowed_first policy policy.first all.0 0 run.events [] run.end all.1 ∙
    ap (λ bs. record { bytes = bs; end = run.end }) (append-nil (written run.events))

pub denied : (S : Type 0) → DeniedRunsStop S
denied S policy run d =
    let count : 0 + call_count d.before + 1 ≡ call_count d.before + 1 = omega arith in
    ap (λ es. expected_from policy policy.first 0 es run.end) d.split ∙
    allowed_first policy policy.first d.state 0 d.before (guarded d.function d.values ∷ d.after) run.end d.allowed ∙
    ap (λ o. after_bytes (written d.before) (decided policy d.state (0 + call_count d.before + 1) d.function o (λ s'. expected_from policy s' (0 + call_count d.before + 1) d.after run.end))) d.denied ∙
    ap (λ bs. record { bytes = bs; end = Refused (0 + call_count d.before + 1) (record { 0 = d.function }) (policy.name d.state) }) (append-nil (written d.before)) ∙
    ap (λ n. record { bytes = written d.before; end = Refused n (record { 0 = d.function }) (policy.name d.state) }) count

-- ---- one or the other

either_from : {S : Type 0} (policy : Answers S) (s : S) (events : List Event) → ((t : S) × Allows policy s events t) ⊎ Denies policy s events
either_from policy s [] = inl (s, refl)
either_from policy s (out bytes ∷ events) = elim (either_from policy s events) [
  | inl a ↦ inl (a.0, a.1)
  | inr d ↦ inr (record { before = out bytes ∷ d.before; function = d.function; values = d.values; after = d.after; split = ap (λ es. out bytes ∷ es) d.split; state = d.state; allowed = d.allowed; denied = d.denied })
]
either_from {S} policy s (guarded f vs ∷ events) = go (policy.next s f vs) refl (λ s'. either_from policy s' events)
  where
    go : (o : Option S) → policy.next s f vs ≡ o → ((s' : S) → ((t : S) × Allows policy s' events t) ⊎ Denies policy s' events) → ((t : S) × Allows policy s (guarded f vs ∷ events) t) ⊎ Denies policy s (guarded f vs ∷ events)
    go None e rest = inr (record { before = []; function = f; values = vs; after = events; split = refl; state = s; allowed = refl; denied = e })
    go (Some s') e rest = elim (rest s') [
      | inl a ↦ inl (a.0, (s', e, a.1))
      | inr d ↦ inr (record { before = guarded f vs ∷ d.before; function = d.function; values = d.values; after = d.after; split = ap (λ es. guarded f vs ∷ es) d.split; state = d.state; allowed = (s', e, d.allowed); denied = d.denied })
    ]

-- events that go on with a denied call aren't allowed
never_both : {S : Type 0} (policy : Answers S) (s t u : S) (before after : List Event) (f : ℕ) (vs : List ℤ) → Allows policy s (before ++ guarded f vs ∷ after) t → Allows policy s before u → policy.next u f vs ≡ None → ⊥
never_both policy s t u [] after f vs all some deny =
    let here : policy.next s f vs ≡ None = ap (λ x. policy.next x f vs) some ∙ deny in
    let there : policy.next s f vs ≡ Some all.0 = all.1 in
    cc
never_both policy s t u (out bytes ∷ before) after f vs all some deny = never_both policy s t u before after f vs all some deny
never_both policy s t u (guarded g ws ∷ before) after f vs all some deny =
    let one : policy.next s g ws ≡ Some all.0 = all.1 in
    let two : policy.next s g ws ≡ Some some.0 = some.1 in
    let same : some.0 ≡ all.0 = cc in
    never_both policy all.0 t u before after f vs all.2 (subst (λ x. Allows policy x before u) same some.2) deny

pub either : (S : Type 0) → RunsAreAllowedOrDenied S
either S policy run = (
  either_from policy policy.first run.events,
  λ all d. never_both policy policy.first all.0 d.state d.before d.after d.function d.values (subst (λ es. Allows policy policy.first es all.0) d.split all.1) d.allowed d.denied,
)
