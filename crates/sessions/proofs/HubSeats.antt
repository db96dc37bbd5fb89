-- The hub that the code is, behind each of its calls.
use Rattle.std.proofs.Common.{◌≡◌, ◌+◌, ◌<◌, ℕ, List, [], ◌∷◌, ◌++◌, length, slice_get, true, false, nat_le, nat_eq, Vec, Global, Option, Some, None, refl, sym, ◌∙◌, ap, subst}
use Rattle.std.specs.Map.{lookup}
use Rattle.std.specs.Prelude.{MatchOption}
use Rattle.pt_base.proofs.Numbers.{plus_one}
use Rattle.pt_base.proofs.Places.{get_below_length}
use Rattle.wire.specs.declared.message.Message.{Message}
use Rattle.host_table.specs.Hosts.{Hosts, hosts_of}
use Rattle.host_table.specs.RunHosts.{models_of}
use Rattle.host_table.specs.declared.host.Host.{Host}
use Rattle.policy.specs.Verdicts.{Standing}
use Rattle.pt_core.specs.CodeTree.{view_monitor}
use Rattle.pair_meaning.specs.Monitors.{Monitor}
use Rattle.pair_meaning.specs.Serving.{serve}
use Rattle.pair_meaning.specs.Start.{monitor_start}
use Rattle.monitor_interp.specs.Gates.{hosts_for}
use Rattle.monitor_interp.specs.Monitors.{IsSeat}
use Rattle.monitor_interp.specs.declared.handled.Handled.{Handled}
use Rattle.monitor_interp.specs.declared.seat.Seat.{Seat}
use Rattle.sessions.specs.declared.hub.TheConstants.{MOST_OPEN}
use Rattle.sessions.specs.declared.hub.Hub as code
use Rattle.sessions.specs.Hubs.{Hub, is_full, monitor_at, begun_with, with_opened, left_with, Rise, IsKept, OthersStay}
use Rattle.sessions.specs.Alone.{handles, closes, told_by, told_to, left_by, left_behind, after_call}
use Rattle.sessions.specs.IsHub.{AreSeats, IsHub, Tells}
use Rattle.sessions.specs.Places.{StandsAt, left_at, is_over}
use Rattle.sessions.proofs.Numbered.{lookup_at, set_at, remove_at, remove_none}
use Rattle.sessions.proofs.HubCalls.{left_kept, opened_kept, left_others, handled_same}
use Rattle.sessions.proofs.SeatPlaces.{seats_length, seats_rise, no_seat, seat_at, seats_push, over_left}

-- ---- a session's place

pub rising : (x : code.Hub) → ((h : Hub) × IsHub x h) → (end : ℕ) × Rise 0 end x.seats.items
rising x at = (at.0.opened, seats_rise x.program 0 at.0.opened x.seats.items at.0.seats at.1.seats at.1.kept.rising)

-- the monitor of a session that stands at a place
pub record Sits (h : Hub) (s place : ℕ) : Type 0 where
  pub monitor : Monitor
  pub there : slice_get h.seats place ≡ Some (s, monitor)
  pub found : monitor_at h s ≡ Some monitor

pub sits_at : (x : code.Hub) (h : Hub) (s place : ℕ) → IsHub x h → StandsAt x.seats.items s place → Sits h s place
sits_at x h s place is at =
    let m = seat_at x.program x.seats.items h.seats place s at.seat is.seats at.stands in
    record { monitor = m.0; there = m.1; found = lookup_at 0 h.opened h.seats place s m.0 is.kept.rising m.1 }

-- a session without a place isn't open
pub sits_nowhere : (x : code.Hub) (h : Hub) (s : ℕ) → IsHub x h → lookup (nat_eq s) x.seats.items ≡ None → monitor_at h s ≡ None
sits_nowhere x h s is none = no_seat x.program s x.seats.items h.seats is.seats none

-- the search ended nowhere
pub nowhere_by : (x : code.Hub) (h : Hub) (s : ℕ) (o : Option ℕ) → IsHub x h → o ≡ None → MatchOption o (lookup (nat_eq s) x.seats.items ≡ None) (StandsAt x.seats.items s) → monitor_at h s ≡ None
nowhere_by x h s o is none found = sits_nowhere x h s is (subst (λ (o : Option ℕ). MatchOption o (lookup (nat_eq s) x.seats.items ≡ None) (StandsAt x.seats.items s)) none found)

-- a place is one of the list
pub stands_within : (xs : List (ℕ × Seat)) (s place : ℕ) → StandsAt xs s place → place < length xs
stands_within xs s place at = get_below_length xs place (s, at.seat) at.stands

place_left : (h : Hub) (s place : ℕ) (m : Monitor) (o : Option Monitor) → IsKept h → slice_get h.seats place ≡ Some (s, m) → left_at place s o h.seats ≡ (left_with s o h).seats
place_left h s place m None kept there = remove_at 0 h.opened h.seats place s m kept.rising there
place_left h s place m (Some next) kept there = set_at 0 h.opened h.seats place s m next kept.rising there

-- ---- other seats

seated : (x : code.Hub) (seats : Vec (ℕ × Seat) Global) (h : Hub) (s : ℕ) (o : Option Monitor) → IsHub x h → AreSeats x.program seats.items (left_with s o h).seats → IsHub (record x { seats = seats }) (left_with s o h)
seated x seats h s None is all =
    record { program = is.program; hosts = is.hosts; policy = is.policy; budget = is.budget; opened = is.opened; seats = all; kept = left_kept h s None is.kept; well_formed = is.well_formed; serve = is.serve }
seated x seats h s (Some m) is all =
    record { program = is.program; hosts = is.hosts; policy = is.policy; budget = is.budget; opened = is.opened; seats = all; kept = left_kept h s (Some m) is.kept; well_formed = is.well_formed; serve = is.serve }

pub left_hub : (x : code.Hub) (seats : Vec (ℕ × Seat) Global) (h : Hub) (s place : ℕ) (m : Monitor) (o : Option Monitor) → IsHub x h → slice_get h.seats place ≡ Some (s, m) → AreSeats x.program seats.items (left_at place s o h.seats) →
    IsHub (record x { seats = seats }) (left_with s o h)
left_hub x seats h s place m o is there all = seated x seats h s o is (subst (λ ms. AreSeats x.program seats.items ms) (place_left h s place m o is.kept there) all)

-- ---- a message

pub handled_tells : (h : Hub) (s place : ℕ) (message : Message) (r : Handled) (old new : List ℕ) → (at : Sits h s place) → Tells (told_by (serve at.monitor message)) r old new → Tells (told_to (monitor_at h s) message) r old new
handled_tells h s place message r old new at told = subst (λ o. Tells (told_to o message) r old new) (sym at.found) told

pub handled_hub : (x : code.Hub) (seats : Vec (ℕ × Seat) Global) (h : Hub) (s place : ℕ) (message : Message) → IsHub x h → (at : Sits h s place) → AreSeats x.program seats.items (left_at place s (left_by (serve at.monitor message)) h.seats) →
    IsHub (record x { seats = seats }) (after_call (handles s message) h)
handled_hub x seats h s place message is at all =
    subst (λ o. IsHub (record x { seats = seats }) (left_with s (left_behind o message) h)) (sym at.found) (left_hub x seats h s place at.monitor (left_by (serve at.monitor message)) is at.there all)

pub handled_over : (h : Hub) (s place : ℕ) (message : Message) (r : Handled) (old new : List ℕ) → IsKept h → (at : Sits h s place) → Tells (told_by (serve at.monitor message)) r old new → is_over r ≡ true →
    monitor_at (after_call (handles s message) h) s ≡ None
handled_over h s place message r old new kept at told over = handled_same h s message kept ∙ ap (λ o. left_behind o message) at.found ∙ over_left (serve at.monitor message) r old new told over

pub handled_others : (h : Hub) (s : ℕ) (message : Message) → OthersStay s h (after_call (handles s message) h)
handled_others h s message = left_others h s (left_behind (monitor_at h s) message)

-- ---- a close

pub closed_hub : (x : code.Hub) (seats : Vec (ℕ × Seat) Global) (h : Hub) (s place : ℕ) → IsHub x h → (at : Sits h s place) → AreSeats x.program seats.items (left_at place s None h.seats) →
    IsHub (record x { seats = seats }) (after_call (closes s) h)
closed_hub x seats h s place is at all = left_hub x seats h s place at.monitor None is at.there all

pub closed_others : (h : Hub) (s : ℕ) → OthersStay s h (after_call (closes s) h)
closed_others h s = left_others h s None

-- what isn't open is closed already
pub closed_already : (x : code.Hub) (h : Hub) (s : ℕ) → IsHub x h → monitor_at h s ≡ None → IsHub x (after_call (closes s) h)
closed_already x h s is none = subst (IsHub x) (λ i. record h { seats = sym (remove_none s h.seats none) i }) is

-- ---- an opening

abbrev pub TwoHosts : Host → Host → List ℕ → Type 0
TwoHosts host old input = hosts_of host ≡ record (hosts_of old) { input = input }

pub begun_seat : (x : code.Hub) (h : Hub) (input : List ℕ) (host : Host) (policy : Standing) (seat : Seat) → IsHub x h → TwoHosts host x.host input → policy ≡ x.policy →
    IsSeat x.program seat (monitor_start (view_monitor x.program) (hosts_for (view_monitor x.program) (models_of (hosts_of host).models)) (hosts_of host).input policy x.budget) → IsSeat x.program seat (begun_with h input)
begun_seat x h input host policy seat is hosts same sits =
    let models : hosts_for (view_monitor x.program) (models_of (hosts_of host).models) ≡ h.hosts =
    ap (λ (k : Hosts). hosts_for (view_monitor x.program) (models_of k.models)) hosts ∙ ap (λ p. hosts_for p (models_of (hosts_of x.host).models)) is.program ∙ is.hosts in
    let read : (hosts_of host).input ≡ input = ap (λ (k : Hosts). k.input) hosts in
    let rules : policy ≡ h.policy = same ∙ is.policy in
    subst (IsSeat x.program seat) (λ i. monitor_start (is.program i) (models i) (read i) (rules i) (is.budget i)) sits

-- as many are open as the list has
pub full_as : (x : code.Hub) (h : Hub) (n : ℕ) → IsHub x h → n ≡ length x.seats.items → nat_le MOST_OPEN n ≡ is_full h
full_as x h n is long = ap (nat_le MOST_OPEN) (long ∙ seats_length x.program x.seats.items h.seats is.seats)

-- nothing is pushed
pub same_hub : (x : code.Hub) (seats : Vec (ℕ × Seat) Global) (h : Hub) → IsHub x h → seats.items ≡ x.seats.items → IsHub (record x { seats = seats }) h
same_hub x seats h is same = record {
  program = is.program;
  hosts = is.hosts;
  policy = is.policy;
  budget = is.budget;
  opened = is.opened;
  seats = subst (λ xs. AreSeats x.program xs h.seats) (sym same) is.seats;
  kept = is.kept;
  well_formed = is.well_formed;
  serve = is.serve;
}

pub same_others : (h : Hub) (s : ℕ) → OthersStay s h h
same_others h s = record { program = refl; hosts = refl; policy = refl; budget = refl; others = λ t apart. refl }

pub opened_hub : (x : code.Hub) (seats : Vec (ℕ × Seat) Global) (next : ℕ) (h : Hub) (input : List ℕ) (seat : Seat) → IsHub x h → is_full h ≡ false → next ≡ x.opened + 1 → seats.items ≡ x.seats.items ++ (x.opened, seat) ∷ [] →
    IsSeat x.program seat (begun_with h input) → IsHub (record x { seats = seats; opened = next }) (with_opened input h)
opened_hub x seats next h input seat is full more all sits =
    record {
      program = is.program;
      hosts = is.hosts;
      policy = is.policy;
      budget = is.budget;
      opened = more ∙ ap (λ n. n + 1) is.opened ∙ plus_one h.opened;
      seats = subst (λ xs. AreSeats x.program xs (with_opened input h).seats) (sym all) (seats_push x.program x.seats.items h.seats x.opened h.opened seat (begun_with h input) is.seats is.opened sits);
      kept = opened_kept h input is.kept full;
      well_formed = is.well_formed;
      serve = is.serve;
    }
