-- Laws of what is expected of runs under a policy.
use Rattle.std.specs.Prelude.{◌≡◌, ◌⊎◌, ℕ, ◌+◌, ℤ, List, [], ◌∷◌, ◌++◌, Some, None}
use Rattle.pt_base.specs.declared.end.End.TheVariants.{Refused}
use Rattle.runs.specs.State.{Event, out, guarded}
use Rattle.runs.specs.Run.{Run, written, Answers, expected}

-- from state s on the policy allows each guarded call of these events in turn, and comes to state t
abbrev pub Allows : {S : Type 0} → Answers S → S → List Event → S → Type 0
Allows policy s [] t = s ≡ t
Allows policy s (out bytes ∷ events) t = Allows policy s events t
Allows {S} policy s (guarded f vs ∷ events) t = (s' : S) × (policy.next s f vs ≡ Some s') × Allows policy s' events t

-- from its first state on the policy allows all guarded calls of these events
abbrev pub AllowsAll : {S : Type 0} → Answers S → List Event → Type 0
AllowsAll {S} policy events = (t : S) × Allows policy policy.first events t

-- how many guarded calls these events have
abbrev pub call_count : List Event → ℕ
call_count [] = 0
call_count (out bytes ∷ events) = call_count events
call_count (guarded f vs ∷ events) = call_count events + 1

-- Where the policy allows every guarded call, the bytes of all out events and the run's own end are
-- expected.
abbrev pub AllowedRunsStay : Type 0 → Type 0
AllowedRunsStay S = (policy : Answers S) (run : Run) → AllowsAll policy run.events →
    expected policy run ≡ record { bytes = written run.events; end = run.end }

-- These events have a call that the policy denies: from state s on it allows those before, and in the
-- state that it came to it denies this one.
pub record Denies {S : Type 0} (policy : Answers S) (s : S) (events : List Event) : Type 0 where
  pub before : List Event
  pub function : ℕ
  pub values : List ℤ
  pub after : List Event
  pub split : events ≡ before ++ guarded function values ∷ after
  pub state : S
  pub allowed : Allows policy s before state
  pub denied : policy.next state function values ≡ None

-- Where the policy denies a call, the bytes written before it are expected, and its refusal: its
-- number from 1, the called function, and which state the policy was in.
abbrev pub DeniedRunsStop : Type 0 → Type 0
DeniedRunsStop S = (policy : Answers S) (run : Run) (d : Denies policy policy.first run.events) →
    expected policy run ≡ record { bytes = written d.before; end = Refused (call_count d.before + 1) (record { 0 = d.function }) (policy.name d.state) }

-- every run is the one or the other, and none is both
abbrev pub RunsAreAllowedOrDenied : Type 0 → Type 0
RunsAreAllowedOrDenied S = (policy : Answers S) (run : Run) →
    (AllowsAll policy run.events ⊎ Denies policy policy.first run.events) ×
    (AllowsAll policy run.events → Denies policy policy.first run.events → ⊥)
