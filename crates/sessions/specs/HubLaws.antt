-- A session is as if it were alone, whatever the others say.
use Rattle.std.specs.Prelude.{◌≡◌, ◌<◌, ◌++◌, ℕ, List, [], ◌∷◌, false, nat_eq, if◌then◌else◌, Some, None}
use Rattle.wire.specs.declared.message.Message.{Message}
use Rattle.pair_meaning.specs.Monitors.{Monitor}
use Rattle.pair_meaning.specs.Serving.{serve}
use Rattle.sessions.specs.Hubs.{Hub, is_full, monitor_at, begun_with, IsKept, OthersStay}
use Rattle.sessions.specs.Alone.{HubCall, opens, handles, closes, Told, not_open, left_by, alone, left_alone, own_calls, after_call, after_calls, told_to_session}

-- Calls keep what a hub keeps.
abbrev pub HubsAreKept : Type 0
HubsAreKept = (h : Hub) → IsKept h → (calls : List HubCall) → IsKept (after_calls calls h)

-- ---- for a session that was opened

-- what it is told, and the monitor that it has in the end, are what its own messages come to alone
pub record IsAlone (h : Hub) (calls : List HubCall) (s : ℕ) : Type 0 where
  pub told : told_to_session s h calls ≡ alone s (monitor_at h s) calls
  pub left : monitor_at (after_calls calls h) s ≡ left_alone s (monitor_at h s) calls

abbrev pub SessionsAreAlone : Type 0
SessionsAreAlone = (h : Hub) → IsKept h → (calls : List HubCall) (s : ℕ) → s < h.opened → IsAlone h calls s

-- of what is called in two ways, both have the same for it
pub record IsAlike (h : Hub) (calls others : List HubCall) (s : ℕ) : Type 0 where
  pub told : told_to_session s h calls ≡ told_to_session s h others
  pub left : monitor_at (after_calls calls h) s ≡ monitor_at (after_calls others h) s

-- All that isn't its own may be anything: other sessions may be opened, may say whatever they like, may break rules, end and be closed.
abbrev pub OthersDontCount : Type 0
OthersDontCount = (h : Hub) → IsKept h → (calls others : List HubCall) (s : ℕ) → s < h.opened → own_calls s calls ≡ own_calls s others → IsAlike h calls others s

-- ---- a session that isn't open

-- what its messages among these calls are told
abbrev pub shut_out : ℕ → List HubCall → List Told
shut_out s [] = []
shut_out s (opens input ∷ calls) = shut_out s calls
shut_out s (handles t x ∷ calls) = if nat_eq s t then not_open ∷ shut_out s calls else shut_out s calls
shut_out s (closes t ∷ calls) = shut_out s calls

-- A message at which a session ends or breaks a rule shuts it out for good, and no message of it changes another session.
pub record IsShutOut (h : Hub) (s : ℕ) (x : Message) : Type 0 where
  pub closed : (m : Monitor) → monitor_at h s ≡ Some m → left_by (serve m x) ≡ None → (calls : List HubCall) → told_to_session s (after_call (handles s x) h) calls ≡ shut_out s calls
  pub others : OthersStay s h (after_call (handles s x) h)

abbrev pub HostileSessionsAreShutOut : Type 0
HostileSessionsAreShutOut = (h : Hub) → IsKept h → (s : ℕ) → s < h.opened → (x : Message) → IsShutOut h s x

-- ---- from its opening on

-- Whatever was called before, a session that is opened begins with its input and what the hub was made with, and is alone from there on.
-- Before, its number was given to nobody.
abbrev pub SessionsAreAloneFromTheirOpening : Type 0
SessionsAreAloneFromTheirOpening = (h : Hub) → IsKept h → (before behind : List HubCall) (input : List ℕ) → is_full (after_calls before h) ≡ false →
    let s = (after_calls before h).opened in told_to_session s h (before ++ opens input ∷ behind) ≡ shut_out s before ++ alone s (Some (begun_with h input)) behind
