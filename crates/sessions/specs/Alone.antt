-- What a session comes to alone, and what a hub makes of calls.
use Rattle.std.specs.Prelude.{◌++◌, ℕ, List, [], ◌∷◌, Bool, false, nat_eq, Option, Some, None, filter, if◌then◌else◌}
use Rattle.pt_base.specs.declared.end.End.{End}
use Rattle.wire.specs.declared.message.Message.{Message}
use Rattle.wire.specs.declared.message.ReplyBody.{ReplyBody}
use Rattle.pair_protocol.specs.Sides.{Served, goes_on, ends, bad}
use Rattle.pair_meaning.specs.Monitors.{Monitor}
use Rattle.pair_meaning.specs.Rules.{PeerRule}
use Rattle.pair_meaning.specs.Serving.{serve}
use Rattle.sessions.specs.Hubs.{Hub, is_full, monitor_at, left_with, with_opened}

-- a call of a hub in which memory isn't wanting
pub data HubCall : Type 0 where
  opens : List ℕ → HubCall
  handles : ℕ → Message → HubCall
  closes : ℕ → HubCall

-- ---- what a message of a session comes to

-- what is answered, and the bytes that are written
pub data Told : Type 0 where
  not_open : Told
  goes : Option ReplyBody → List ℕ → Told
  ended : List ℕ → End → Told
  broke : PeerRule → Told

abbrev pub told_by : Served Monitor ReplyBody End PeerRule → Told
told_by (goes_on m reply bytes) = goes reply bytes
told_by (ends bytes end) = ended bytes end
told_by (bad rule) = broke rule

-- a session that ends or breaks a rule has no monitor from then on
abbrev pub left_by : Served Monitor ReplyBody End PeerRule → Option Monitor
left_by (goes_on m reply bytes) = Some m
left_by (ends bytes end) = None
left_by (bad rule) = None

-- the same of a session that may be closed
abbrev pub told_to : Option Monitor → Message → Told
told_to None x = not_open
told_to (Some m) x = told_by (serve m x)

abbrev pub left_behind : Option Monitor → Message → Option Monitor
left_behind None x = None
left_behind (Some m) x = left_by (serve m x)

-- ---- a session alone

-- what one call is to it where it has this monitor, or is closed: what it is told, and what it has behind the call
abbrev pub told_own : ℕ → Option Monitor → HubCall → List Told
told_own s o (opens input) = []
told_own s o (handles t x) = if nat_eq s t then told_to o x ∷ [] else []
told_own s o (closes t) = []

abbrev pub left_own : ℕ → Option Monitor → HubCall → Option Monitor
left_own s o (opens input) = o
left_own s o (handles t x) = if nat_eq s t then left_behind o x else o
left_own s o (closes t) = if nat_eq s t then None else o

-- what its own messages among these calls come to, up to its close
abbrev pub alone : ℕ → Option Monitor → List HubCall → List Told
alone s o [] = []
alone s o (c ∷ calls) = told_own s o c ++ alone s (left_own s o c) calls

-- the monitor that it has behind them
abbrev pub left_alone : ℕ → Option Monitor → List HubCall → Option Monitor
left_alone s o [] = o
left_alone s o (c ∷ calls) = left_alone s (left_own s o c) calls

-- its own messages, and its own closing
abbrev pub is_own : ℕ → HubCall → Bool
is_own s (opens input) = false
is_own s (handles t x) = nat_eq s t
is_own s (closes t) = nat_eq s t

abbrev pub own_calls : ℕ → List HubCall → List HubCall
own_calls s calls = filter (is_own s) calls

-- ---- the hub

abbrev pub after_call : HubCall → Hub → Hub
after_call (opens input) h = if is_full h then h else with_opened input h
after_call (handles s x) h = left_with s (left_behind (monitor_at h s) x) h
after_call (closes s) h = left_with s None h

abbrev pub after_calls : List HubCall → Hub → Hub
after_calls [] h = h
after_calls (c ∷ calls) h = after_calls calls (after_call c h)

abbrev pub told_in : ℕ → Hub → HubCall → List Told
told_in s h (opens input) = []
told_in s h (handles t x) = if nat_eq s t then told_to (monitor_at h t) x ∷ [] else []
told_in s h (closes t) = []

-- what is answered and written to the messages of this session among these calls
abbrev pub told_to_session : ℕ → Hub → List HubCall → List Told
told_to_session s h [] = []
told_to_session s h (c ∷ calls) = told_in s h c ++ told_to_session s (after_call c h) calls
