-- The laws: a session is alone, whatever the others say.
use Rattle.std.proofs.Common.{◌≡◌, ◌<◌, ◌≤◌, ℕ, suc, List, [], ◌∷◌, ◌++◌, Bool, true, false, cond, nat_eq, if◌then◌else◌, Option, Some, None, refl, sym, ◌∙◌, ap, ap₂, subst, arith}
use Rattle.wire.specs.declared.message.Message.{Message}
use Rattle.pt_base.proofs.Booleans.{if_false, if_same}
use Rattle.pt_base.proofs.Lists.{append_grouped}
use Rattle.pt_base.proofs.Numbers.{at_most_self, nat_eq_same}
use Rattle.pair_meaning.specs.Monitors.{Monitor}
use Rattle.pair_meaning.specs.Serving.{serve}
use Rattle.sessions.specs.Hubs.{Hub, is_full, monitor_at, begun_with, with_opened, IsKept}
use Rattle.sessions.specs.Alone.{HubCall, opens, handles, closes, Told, not_open, told_to, left_by, left_behind, told_own, left_own, alone, left_alone, is_own, own_calls, after_call, after_calls, told_in, told_to_session}
use Rattle.sessions.specs.HubLaws.{HubsAreKept, SessionsAreAlone, OthersDontCount, shut_out, HostileSessionsAreShutOut, SessionsAreAloneFromTheirOpening}
use Rattle.sessions.proofs.HubCalls.{call_kept, calls_kept, call_made, calls_made, left_by_call, left_others, handled_same, unopened_none, opened_own, begun_alike}

pub hubs_are_kept : HubsAreKept
hubs_are_kept h kept calls = calls_kept h kept calls

-- ---- alone

told_handled : (h : Hub) (s t : ℕ) (x : Message) (b : Bool) → nat_eq s t ≡ b → (if b then told_to (monitor_at h t) x ∷ [] else []) ≡ (if b then told_to (monitor_at h s) x ∷ [] else [])
told_handled h s t x true is = ap (λ n. told_to (monitor_at h n) x ∷ []) (sym (nat_eq_same s t is))
told_handled h s t x false is = refl

told_once : (h : Hub) (c : HubCall) (s : ℕ) → told_in s h c ≡ told_own s (monitor_at h s) c
told_once h (opens input) s = refl
told_once h (handles t x) s = told_handled h s t x (nat_eq s t) refl
told_once h (closes t) s = refl

still_below : (h : Hub) (c : HubCall) (s : ℕ) → s < h.opened → s < (after_call c h).opened
still_below h c s below = let made = call_made h c in let more = made.more in omega (arith, below, more)

told_alone : (h : Hub) → IsKept h → (calls : List HubCall) (s : ℕ) → s < h.opened → told_to_session s h calls ≡ alone s (monitor_at h s) calls
told_alone h kept [] s below = refl
told_alone h kept (c ∷ calls) s below =
    ap₂ (λ a b. a ++ b) (told_once h c s)
    (told_alone (after_call c h) (call_kept h kept c) calls s (still_below h c s below) ∙ ap (λ o. alone s o calls) (left_by_call h kept c s below))

left_same_alone : (h : Hub) → IsKept h → (calls : List HubCall) (s : ℕ) → s < h.opened → monitor_at (after_calls calls h) s ≡ left_alone s (monitor_at h s) calls
left_same_alone h kept [] s below = refl
left_same_alone h kept (c ∷ calls) s below =
    left_same_alone (after_call c h) (call_kept h kept c) calls s (still_below h c s below) ∙ ap (λ o. left_alone s o calls) (left_by_call h kept c s below)

pub sessions_are_alone : SessionsAreAlone
sessions_are_alone h kept calls s below = record { told = told_alone h kept calls s below; left = left_same_alone h kept calls s below }

-- ---- what isn't its own doesn't count

not_own_call : (s : ℕ) (o : Option Monitor) (c : HubCall) → is_own s c ≡ false → (told_own s o c ≡ []) × (left_own s o c ≡ o)
not_own_call s o (opens input) is = (refl, refl)
not_own_call s o (handles t x) is = (if_false (nat_eq s t) (told_to o x ∷ []) [] is, if_false (nat_eq s t) (left_behind o x) o is)
not_own_call s o (closes t) is = (refl, if_false (nat_eq s t) None o is)

own_alone_in : (s : ℕ) (o : Option Monitor) (c : HubCall) (calls own : List HubCall) → ((o : Option Monitor) → alone s o calls ≡ alone s o own) → (b : Bool) → is_own s c ≡ b → alone s o (c ∷ calls) ≡ alone s o (cond b (c ∷ own) own)
own_alone_in s o c calls own rest true is = ap (λ l. told_own s o c ++ l) (rest (left_own s o c))
own_alone_in s o c calls own rest false is =
    let none = not_own_call s o c is in
    ap₂ (λ a b. a ++ alone s b calls) none.0 none.1 ∙ rest o

own_alone : (s : ℕ) (calls : List HubCall) (o : Option Monitor) → alone s o calls ≡ alone s o (own_calls s calls)
own_alone s [] o = refl
own_alone s (c ∷ calls) o = own_alone_in s o c calls (own_calls s calls) (own_alone s calls) (is_own s c) refl

own_left_in : (s : ℕ) (o : Option Monitor) (c : HubCall) (calls own : List HubCall) → ((o : Option Monitor) → left_alone s o calls ≡ left_alone s o own) → (b : Bool) → is_own s c ≡ b → left_alone s o (c ∷ calls) ≡ left_alone s o (cond b (c ∷ own) own)
own_left_in s o c calls own rest true is = rest (left_own s o c)
own_left_in s o c calls own rest false is =
    let none = not_own_call s o c is in
    ap (λ b. left_alone s b calls) none.1 ∙ rest o

own_left : (s : ℕ) (calls : List HubCall) (o : Option Monitor) → left_alone s o calls ≡ left_alone s o (own_calls s calls)
own_left s [] o = refl
own_left s (c ∷ calls) o = own_left_in s o c calls (own_calls s calls) (own_left s calls) (is_own s c) refl

pub others_dont_count : OthersDontCount
others_dont_count h kept calls others s below same =
    let o = monitor_at h s in
    record {
      told = told_alone h kept calls s below ∙ own_alone s calls o ∙ ap (alone s o) same ∙ sym (own_alone s others o) ∙ sym (told_alone h kept others s below);
      left = left_same_alone h kept calls s below ∙ own_left s calls o ∙ ap (left_alone s o) same ∙ sym (own_left s others o) ∙ sym (left_same_alone h kept others s below);
    }

-- ---- shut out

none_left : (s : ℕ) (c : HubCall) → left_own s None c ≡ None
none_left s (opens input) = refl
none_left s (handles t x) = if_same (nat_eq s t) None None refl
none_left s (closes t) = if_same (nat_eq s t) None None refl

shut_in : (s : ℕ) (b : Bool) (rest out : List Told) → rest ≡ out → (if b then not_open ∷ [] else []) ++ rest ≡ (if b then not_open ∷ out else out)
shut_in s true rest out same = ap (λ l. not_open ∷ l) same
shut_in s false rest out same = same

shut_call : (s : ℕ) (c : HubCall) (calls : List HubCall) (rest : List Told) → rest ≡ shut_out s calls → told_own s None c ++ rest ≡ shut_out s (c ∷ calls)
shut_call s (opens input) calls rest same = same
shut_call s (handles t x) calls rest same = shut_in s (nat_eq s t) rest (shut_out s calls) same
shut_call s (closes t) calls rest same = same

none_alone : (s : ℕ) (calls : List HubCall) → alone s None calls ≡ shut_out s calls
none_alone s [] = refl
none_alone s (c ∷ calls) = shut_call s c calls (alone s (left_own s None c) calls) (ap (λ o. alone s o calls) (none_left s c) ∙ none_alone s calls)

closed_told : (h : Hub) → IsKept h → (s : ℕ) → s < h.opened → (x : Message) (m : Monitor) → monitor_at h s ≡ Some m → left_by (serve m x) ≡ None → (calls : List HubCall) →
    told_to_session s (after_call (handles s x) h) calls ≡ shut_out s calls
closed_told h kept s below x m is over calls =
    told_alone (after_call (handles s x) h) (call_kept h kept (handles s x)) calls s (still_below h (handles s x) s below)
    ∙ ap (λ o. alone s o calls) (handled_same h s x kept ∙ ap (λ o. left_behind o x) is ∙ over) ∙ none_alone s calls

pub hostile_sessions_are_shut_out : HostileSessionsAreShutOut
hostile_sessions_are_shut_out h kept s below x = record { closed = λ m is over calls. closed_told h kept s below x m is over calls; others = left_others h s (left_behind (monitor_at h s) x) }

-- ---- from the opening on

told_unopened : (h : Hub) → IsKept h → (s : ℕ) (calls : List HubCall) → (after_calls calls h).opened ≤ s → told_to_session s h calls ≡ shut_out s calls
told_unopened h kept s [] past = refl
told_unopened h kept s (c ∷ calls) past =
    let one = call_made h c in
    let rest = calls_made (after_call c h) calls in
    let more = one.more in
    let others = rest.more in
    let most : (after_calls calls (after_call c h)).opened ≤ s = past in
    ap (λ l. l ++ told_to_session s (after_call c h) calls) (told_once h c s ∙ ap (λ o. told_own s o c) (unopened_none h s kept (omega (arith, most, more, others))))
    ∙ shut_call s c calls (told_to_session s (after_call c h) calls) (told_unopened (after_call c h) (call_kept h kept c) s calls past)

told_append : (s : ℕ) (h : Hub) (calls more : List HubCall) → told_to_session s h (calls ++ more) ≡ told_to_session s h calls ++ told_to_session s (after_calls calls h) more
told_append s h [] more = refl
told_append s h (c ∷ calls) more =
    ap (λ l. told_in s h c ++ l) (told_append s (after_call c h) calls more)
    ∙ sym (append_grouped (told_in s h c) (told_to_session s (after_call c h) calls) (told_to_session s (after_calls calls (after_call c h)) more))

below_next : (n : ℕ) → n < suc n
below_next n = omega arith

told_opened : (h : Hub) → IsKept h → (input : List ℕ) (behind : List HubCall) → is_full h ≡ false → told_to_session h.opened h (opens input ∷ behind) ≡ alone h.opened (Some (begun_with h input)) behind
told_opened h kept input behind full =
    let opens_it : after_call (opens input) h ≡ with_opened input h = ap (λ b. if b then h else with_opened input h) full in
    let kept' : IsKept (with_opened input h) = subst IsKept opens_it (call_kept h kept (opens input)) in
    ap (λ next. told_to_session h.opened next behind) opens_it
    ∙ told_alone (with_opened input h) kept' behind h.opened (below_next h.opened)
    ∙ ap (λ o. alone h.opened o behind) (opened_own h input kept)

pub sessions_are_alone_from_their_opening : SessionsAreAloneFromTheirOpening
sessions_are_alone_from_their_opening h kept before behind input full =
    let at = after_calls before h in
    let s = at.opened in
    told_append s h before (opens input ∷ behind)
    ∙ ap₂ (λ a b. a ++ b) (told_unopened h kept s before (at_most_self s)) (told_opened at (calls_kept h kept before) input behind full)
    ∙ ap (λ m. shut_out s before ++ alone s (Some m) behind) (begun_alike h at input (calls_made h before))
