-- What calls make of a hub.
use Rattle.std.proofs.Common.{◌≡◌, ◌<◌, ◌≤◌, ℕ, suc, List, [], ◌∷◌, length, Bool, true, false, nat_le, nat_eq, if◌then◌else◌, Option, Some, None, refl, sym, ◌∙◌, subst, arith}
use Rattle.std.proofs.lemmas.Bool.Decides.{nat_tests}
use Rattle.wire.specs.declared.message.Message.{Message}
use Rattle.pt_base.proofs.Booleans.{true_not_false}
use Rattle.pt_base.proofs.Lists.{length_pushed}
use Rattle.pt_base.proofs.Numbers.{at_most_self, nat_eq_same, nat_eq_true}
use Rattle.pair_meaning.specs.Monitors.{Monitor}
use Rattle.pair_meaning.specs.Serving.{serve}
use Rattle.sessions.specs.declared.hub.TheConstants.{MOST_OPEN}
use Rattle.sessions.specs.Hubs.{Hub, is_full, monitor_at, begun_with, with_opened, left_with, IsKept, OthersStay}
use Rattle.sessions.specs.Alone.{HubCall, opens, handles, closes, left_by, left_behind, left_own, after_call, after_calls}
use Rattle.sessions.proofs.Numbered.{not_past, rise_set, rise_remove, rise_push, length_set, length_remove, set_same, set_other, remove_same, remove_other, push_other, push_own}

-- ---- what is kept

pub left_kept : (h : Hub) (s : ℕ) (o : Option Monitor) → IsKept h → IsKept (left_with s o h)
left_kept h s None kept =
    let few = kept.few in
    let less = length_remove (nat_eq s) h.seats in
    record { rising = rise_remove (nat_eq s) 0 h.opened h.seats kept.rising; few = omega (arith, few, less) }
left_kept h s (Some m) kept =
    let few = kept.few in
    let same = length_set (nat_eq s) h.seats m in
    record { rising = rise_set (nat_eq s) 0 h.opened h.seats m kept.rising; few = omega (arith, few, same) }

room : (n : ℕ) → nat_le MOST_OPEN n ≡ false → n < MOST_OPEN
room n e = grind (arith, nat_tests, e)

pub opened_kept : (h : Hub) (input : List ℕ) → IsKept h → is_full h ≡ false → IsKept (with_opened input h)
opened_kept h input kept full =
    let few = room (length h.seats) full in
    let long = length_pushed h.seats (h.opened, begun_with h input) in
    record { rising = rise_push 0 h.opened h.seats (begun_with h input) kept.rising (omega arith); few = omega (arith, few, long) }

opens_kept : (h : Hub) (input : List ℕ) → IsKept h → (b : Bool) → is_full h ≡ b → IsKept (if b then h else with_opened input h)
opens_kept h input kept true is = kept
opens_kept h input kept false is = opened_kept h input kept is

pub call_kept : (h : Hub) → IsKept h → (c : HubCall) → IsKept (after_call c h)
call_kept h kept (opens input) = opens_kept h input kept (is_full h) refl
call_kept h kept (handles s x) = left_kept h s (left_behind (monitor_at h s) x) kept
call_kept h kept (closes s) = left_kept h s None kept

pub calls_kept : (h : Hub) → IsKept h → (calls : List HubCall) → IsKept (after_calls calls h)
calls_kept h kept [] = kept
calls_kept h kept (c ∷ calls) = calls_kept (after_call c h) (call_kept h kept c) calls

-- ---- what it was made with, and how many were opened

pub record IsMadeAlike (h next : Hub) : Type 0 where
  pub program : next.program ≡ h.program
  pub hosts : next.hosts ≡ h.hosts
  pub policy : next.policy ≡ h.policy
  pub budget : next.budget ≡ h.budget
  pub more : h.opened ≤ next.opened

pub left_made : (h : Hub) (s : ℕ) (o : Option Monitor) → IsMadeAlike h (left_with s o h)
left_made h s None = record { program = refl; hosts = refl; policy = refl; budget = refl; more = at_most_self h.opened }
left_made h s (Some m) = record { program = refl; hosts = refl; policy = refl; budget = refl; more = at_most_self h.opened }

most_next : (n : ℕ) → n ≤ suc n
most_next n = omega arith

opens_made : (h : Hub) (input : List ℕ) (b : Bool) → IsMadeAlike h (if b then h else with_opened input h)
opens_made h input true = record { program = refl; hosts = refl; policy = refl; budget = refl; more = at_most_self h.opened }
opens_made h input false = record { program = refl; hosts = refl; policy = refl; budget = refl; more = most_next h.opened }

pub call_made : (h : Hub) (c : HubCall) → IsMadeAlike h (after_call c h)
call_made h (opens input) = opens_made h input (is_full h)
call_made h (handles s x) = left_made h s (left_behind (monitor_at h s) x)
call_made h (closes s) = left_made h s None

pub calls_made : (h : Hub) (calls : List HubCall) → IsMadeAlike h (after_calls calls h)
calls_made h [] = record { program = refl; hosts = refl; policy = refl; budget = refl; more = at_most_self h.opened }
calls_made h (c ∷ calls) =
    let one = call_made h c in
    let rest = calls_made (after_call c h) calls in
    let first = one.more in
    let others = rest.more in
    record { program = rest.program ∙ one.program; hosts = rest.hosts ∙ one.hosts; policy = rest.policy ∙ one.policy; budget = rest.budget ∙ one.budget; more = omega (arith, first, others) }

-- ---- the monitor of a session behind a call

pub left_same : (h : Hub) (s : ℕ) (m : Monitor) (o : Option Monitor) → IsKept h → monitor_at h s ≡ Some m → monitor_at (left_with s o h) s ≡ o
left_same h s m None kept is = remove_same 0 h.opened s h.seats kept.rising
left_same h s m (Some next) kept is = set_same s h.seats m next is

pub left_other : (h : Hub) (s t : ℕ) (o : Option Monitor) → (t ≡ s → ⊥) → monitor_at (left_with s o h) t ≡ monitor_at h t
left_other h s t None apart = remove_other s t h.seats apart
left_other h s t (Some m) apart = set_other s t h.seats m apart

-- where it is closed, it stays so
left_in : (h : Hub) (s : ℕ) (x : Message) (o : Option Monitor) → IsKept h → monitor_at h s ≡ o → monitor_at (left_with s (left_behind o x) h) s ≡ left_behind o x
left_in h s x None kept is = remove_same 0 h.opened s h.seats kept.rising
left_in h s x (Some m) kept is = left_same h s m (left_by (serve m x)) kept is

pub handled_same : (h : Hub) (s : ℕ) (x : Message) → IsKept h → monitor_at (after_call (handles s x) h) s ≡ left_behind (monitor_at h s) x
handled_same h s x kept = left_in h s x (monitor_at h s) kept refl

pub closed_same : (h : Hub) (s : ℕ) → IsKept h → monitor_at (after_call (closes s) h) s ≡ None
closed_same h s kept = remove_same 0 h.opened s h.seats kept.rising

below_apart : (s n : ℕ) → s < n → s ≡ n → ⊥
below_apart s n below same = omega (arith, below, same)

opens_other : (h : Hub) (input : List ℕ) (s : ℕ) (b : Bool) → s < h.opened → monitor_at (if b then h else with_opened input h) s ≡ monitor_at h s
opens_other h input s true below = refl
opens_other h input s false below = push_other s h.opened h.seats (begun_with h input) (below_apart s h.opened below)

not_own : (s t : ℕ) → nat_eq s t ≡ false → s ≡ t → ⊥
not_own s t is same = true_not_false (sym (nat_eq_true s t same) ∙ is)

handles_left : (h : Hub) (s t : ℕ) (x : Message) → IsKept h → (b : Bool) → nat_eq s t ≡ b → monitor_at (after_call (handles t x) h) s ≡ (if b then left_behind (monitor_at h s) x else monitor_at h s)
handles_left h s t x kept true is = subst (λ n. monitor_at (after_call (handles n x) h) s ≡ left_behind (monitor_at h s) x) (nat_eq_same s t is) (handled_same h s x kept)
handles_left h s t x kept false is = left_other h t s (left_behind (monitor_at h t) x) (not_own s t is)

closes_left : (h : Hub) (s t : ℕ) → IsKept h → (b : Bool) → nat_eq s t ≡ b → monitor_at (after_call (closes t) h) s ≡ (if b then None else monitor_at h s)
closes_left h s t kept true is = subst (λ n. monitor_at (after_call (closes n) h) s ≡ None) (nat_eq_same s t is) (closed_same h s kept)
closes_left h s t kept false is = left_other h t s None (not_own s t is)

-- behind a call an opened session has what it would have alone
pub left_by_call : (h : Hub) → IsKept h → (c : HubCall) (s : ℕ) → s < h.opened → monitor_at (after_call c h) s ≡ left_own s (monitor_at h s) c
left_by_call h kept (opens input) s below = opens_other h input s (is_full h) below
left_by_call h kept (handles t x) s below = handles_left h s t x kept (nat_eq s t) refl
left_by_call h kept (closes t) s below = closes_left h s t kept (nat_eq s t) refl

-- ---- others

pub left_others : (h : Hub) (s : ℕ) (o : Option Monitor) → OthersStay s h (left_with s o h)
left_others h s o =
    let made = left_made h s o in
    record { program = made.program; hosts = made.hosts; policy = made.policy; budget = made.budget; others = λ t apart. left_other h s t o apart }

pub opened_others : (h : Hub) (input : List ℕ) → OthersStay h.opened h (with_opened input h)
opened_others h input = record { program = refl; hosts = refl; policy = refl; budget = refl; others = λ t apart. push_other t h.opened h.seats (begun_with h input) apart }

-- a number that wasn't given is of no session
pub unopened_none : (h : Hub) (s : ℕ) → IsKept h → h.opened ≤ s → monitor_at h s ≡ None
unopened_none h s kept past = not_past 0 h.opened h.seats s kept.rising past

pub opened_own : (h : Hub) (input : List ℕ) → IsKept h → monitor_at (with_opened input h) h.opened ≡ Some (begun_with h input)
opened_own h input kept = push_own 0 h.opened h.seats (begun_with h input) kept.rising

pub begun_alike : (h next : Hub) (input : List ℕ) → IsMadeAlike h next → begun_with next input ≡ begun_with h input
begun_alike h next input made = λ i. begun_with (record h { program = made.program i; hosts = made.hosts i; policy = made.policy i; budget = made.budget i }) input
