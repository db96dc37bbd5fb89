-- Seats and the monitors that they are, place by place.
use Rattle.std.proofs.Common.{◌≡◌, ◌<◌, ℕ, zero, suc, List, [], ◌∷◌, ◌++◌, length, get_or, slice_get, slice_set, remove, Bool, true, false, cond, nat_eq, if◌then◌else◌, Some, None, refl, sym, ◌∙◌, ap, subst, arith}
use Rattle.std.specs.Map.{lookup}
use Rattle.pt_base.specs.declared.end.End.{End}
use Rattle.pt_base.proofs.Booleans.{cond_false, false_not_true}
use Rattle.pt_base.proofs.Lists.{append_nil}
use Rattle.pt_base.proofs.Options.{none_not_some, some_not_none, some_same}
use Rattle.wire.specs.declared.message.ReplyBody.{ReplyBody}
use Rattle.pt_core.specs.declared.monitor.MonitorProgram.{MonitorProgram}
use Rattle.pair_protocol.specs.Sides.{Served, goes_on, ends, bad}
use Rattle.pair_meaning.specs.Monitors.{Monitor}
use Rattle.pair_meaning.specs.Rules.{PeerRule}
use Rattle.monitor_interp.specs.Handling.{Handles}
use Rattle.monitor_interp.specs.Monitors.{IsSeat}
use Rattle.monitor_interp.specs.declared.handled.Handled.{Handled}
use Rattle.monitor_interp.specs.declared.handled.Handled.TheVariants.{GoesOn, Ended, Bad}
use Rattle.monitor_interp.specs.declared.seat.Seat.{Seat}
use Rattle.sessions.specs.Hubs.{Rise}
use Rattle.sessions.specs.Alone.{told_by, left_by}
use Rattle.sessions.specs.IsHub.{AreSeats, Tells}
use Rattle.sessions.specs.Places.{left_at, is_over}

abbrev pub Seats : Type 0
Seats = List (ℕ × Seat)

abbrev pub Monitors : Type 0
Monitors = List (ℕ × Monitor)

-- ---- as many, under the same numbers

pub seats_length : (p : MonitorProgram) (xs : Seats) (ms : Monitors) → AreSeats p xs ms → length xs ≡ length ms
seats_length p [] [] all = refl
seats_length p [] (m ∷ ms) all = absurd all
seats_length p (x ∷ xs) [] all = absurd all
seats_length p (x ∷ xs) (m ∷ ms) all = ap (λ n. suc n) (seats_length p xs ms all.2)

pub seats_rise : (p : MonitorProgram) (least end : ℕ) (xs : Seats) (ms : Monitors) → AreSeats p xs ms → Rise least end ms → Rise least end xs
seats_rise p least end [] [] all rise = tt {0}
seats_rise p least end [] (m ∷ ms) all rise = absurd all
seats_rise p least end (x ∷ xs) [] all rise = absurd all
seats_rise p least end (x ∷ xs) (m ∷ ms) all rise =
    let same = all.0 in
    let here = rise.0 in
    let below = rise.1 in
    (omega (arith, same, here), omega (arith, same, below), subst (λ n. Rise (suc n) end xs) (sym same) (seats_rise p (suc m.0) end xs ms all.2 rise.2))

no_seat_in : (b : Bool) (s : ℕ) (x : ℕ × Seat) (m : ℕ × Monitor) (xs : Seats) (ms : Monitors) → nat_eq s x.0 ≡ b → x.0 ≡ m.0 → (lookup (nat_eq s) xs ≡ None → lookup (nat_eq s) ms ≡ None) →
    cond b (Some x.1) (lookup (nat_eq s) xs) ≡ None → cond (nat_eq s m.0) (Some m.1) (lookup (nat_eq s) ms) ≡ None
no_seat_in true s x m xs ms is same rest none = some_not_none x.1 none
no_seat_in false s x m xs ms is same rest none = cond_false (nat_eq s m.0) (Some m.1) (lookup (nat_eq s) ms) (ap (nat_eq s) (sym same) ∙ is) ∙ rest none

-- where no seat has this number, no monitor has it
pub no_seat : (p : MonitorProgram) (s : ℕ) (xs : Seats) (ms : Monitors) → AreSeats p xs ms → lookup (nat_eq s) xs ≡ None → lookup (nat_eq s) ms ≡ None
no_seat p s [] [] all none = refl
no_seat p s [] (m ∷ ms) all none = absurd all
no_seat p s (x ∷ xs) [] all none = absurd all
no_seat p s (x ∷ xs) (m ∷ ms) all none = no_seat_in (nat_eq s x.0) s x m xs ms refl all.0 (no_seat p s xs ms all.2) none

-- ---- at a place

-- the monitor of a seat
pub seat_at : (p : MonitorProgram) (xs : Seats) (ms : Monitors) (i s : ℕ) (x : Seat) → AreSeats p xs ms → slice_get xs i ≡ Some (s, x) → (m : Monitor) × (slice_get ms i ≡ Some (s, m))
seat_at p [] [] i s x all is = none_not_some (s, x) is
seat_at p [] (m ∷ ms) i s x all is = absurd all
seat_at p (y ∷ xs) [] i s x all is = absurd all
seat_at p (y ∷ xs) (m ∷ ms) zero s x all is = (m.1, ap (λ n. Some (n, m.1)) (sym all.0 ∙ ap (λ (e : ℕ × Seat). e.0) (some_same y (s, x) is)))
seat_at p (y ∷ xs) (m ∷ ms) (suc i) s x all is = seat_at p xs ms i s x all.2 is

-- what is read at a place is the seat of the monitor there
pub read_seat : (p : MonitorProgram) (xs : Seats) (ms : Monitors) (i s : ℕ) (m : Monitor) (x : ℕ × Seat) → AreSeats p xs ms → slice_get ms i ≡ Some (s, m) → x ≡ get_or xs i x → (x.0 ≡ s) × IsSeat p x.1 m
read_seat p [] [] i s m x all is read = none_not_some (s, m) is
read_seat p [] (n ∷ ms) i s m x all is read = absurd all
read_seat p (y ∷ xs) [] i s m x all is read = absurd all
read_seat p (y ∷ xs) (n ∷ ms) zero s m x all is read =
    let same : n ≡ (s, m) = some_same n (s, m) is in (
      ap (λ (e : ℕ × Seat). e.0) read ∙ all.0 ∙ ap (λ (e : ℕ × Monitor). e.0) same,
      subst (λ (e : ℕ × Seat). IsSeat p e.1 m) (sym read) (subst (λ (e : ℕ × Monitor). IsSeat p y.1 e.1) same all.1),
    )
read_seat p (y ∷ xs) (n ∷ ms) (suc i) s m x all is read = read_seat p xs ms i s m x all.2 is read

-- what is read at a place is a monitor's seat
pub some_seat : (p : MonitorProgram) (xs : Seats) (ms : Monitors) (i : ℕ) (x : ℕ × Seat) → AreSeats p xs ms → i < length xs → x ≡ get_or xs i x → (m : Monitor) × IsSeat p x.1 m
some_seat p [] ms i x all below read = absurd (omega (arith, below))
some_seat p (y ∷ xs) [] i x all below read = absurd all
some_seat p (y ∷ xs) (m ∷ ms) zero x all below read = (m.1, subst (λ (e : ℕ × Seat). IsSeat p e.1 m.1) (sym read) all.1)
some_seat p (y ∷ xs) (m ∷ ms) (suc i) x all below read = some_seat p xs ms i x all.2 (omega (arith, below)) read

pub seats_set : (p : MonitorProgram) (xs : Seats) (ms : Monitors) (i s : ℕ) (m next : Monitor) (x : ℕ × Seat) (seat : Seat) → AreSeats p xs ms → slice_get ms i ≡ Some (s, m) → x ≡ get_or xs i x → IsSeat p seat next →
    AreSeats p (slice_set xs i (x.0, seat)) (slice_set ms i (s, next))
seats_set p [] [] i s m next x seat all is read sits = none_not_some (s, m) is
seats_set p [] (n ∷ ms) i s m next x seat all is read sits = absurd all
seats_set p (y ∷ xs) [] i s m next x seat all is read sits = absurd all
seats_set p (y ∷ xs) (n ∷ ms) zero s m next x seat all is read sits = ((read_seat p (y ∷ xs) (n ∷ ms) 0 s m x all is read).0, sits, all.2)
seats_set p (y ∷ xs) (n ∷ ms) (suc i) s m next x seat all is read sits = (all.0, all.1, seats_set p xs ms i s m next x seat all.2 is read sits)

pub seats_remove : (p : MonitorProgram) (xs : Seats) (ms : Monitors) (i : ℕ) → AreSeats p xs ms → AreSeats p (remove xs i) (remove ms i)
seats_remove p [] [] zero all = tt {0}
seats_remove p [] [] (suc i) all = tt {0}
seats_remove p [] (m ∷ ms) i all = absurd all
seats_remove p (x ∷ xs) [] i all = absurd all
seats_remove p (x ∷ xs) (m ∷ ms) zero all = all.2
seats_remove p (x ∷ xs) (m ∷ ms) (suc i) all = (all.0, all.1, seats_remove p xs ms i all.2)

remove_set : (xs : Seats) (i : ℕ) (x : ℕ × Seat) → remove (slice_set xs i x) i ≡ remove xs i
remove_set [] zero x = refl
remove_set [] (suc i) x = refl
remove_set (y ∷ xs) zero x = refl
remove_set (y ∷ xs) (suc i) x = ap (λ (zs : Seats). y ∷ zs) (remove_set xs i x)

-- without the one at this place they are the others, whatever stands there
pub others_stay : (p : MonitorProgram) (xs : Seats) (ms : Monitors) (i : ℕ) (x : ℕ × Seat) → AreSeats p xs ms → AreSeats p (remove (slice_set xs i x) i) (remove ms i)
others_stay p xs ms i x all = subst (λ zs. AreSeats p zs (remove ms i)) (sym (remove_set xs i x)) (seats_remove p xs ms i all)

pub seats_push : (p : MonitorProgram) (xs : Seats) (ms : Monitors) (s t : ℕ) (seat : Seat) (m : Monitor) → AreSeats p xs ms → s ≡ t → IsSeat p seat m → AreSeats p (xs ++ (s, seat) ∷ []) (ms ++ (t, m) ∷ [])
seats_push p [] [] s t seat m all same sits = (same, sits, tt {0})
seats_push p [] (n ∷ ms) s t seat m all same sits = absurd all
seats_push p (x ∷ xs) [] s t seat m all same sits = absurd all
seats_push p (x ∷ xs) (n ∷ ms) s t seat m all same sits = (all.0, all.1, seats_push p xs ms s t seat m all.2 same sits)

-- ---- a message

-- what was written into a list of its own is appended
pub handles_as : (Is Other : Monitor → Type 0) (m : Monitor) (served : Served Monitor ReplyBody End PeerRule) (r : Handled) (old made new : List ℕ) → ((n : Monitor) → Is n → Other n) →
    Handles Is m served r [] made → new ≡ old ++ made → Handles Other m served r old new
handles_as Is Other m (goes_on next reply bytes) r old made new turn h all = (h.0, turn next h.1, all ∙ ap (λ l. old ++ l) h.2)
handles_as Is Other m (ends bytes end) r old made new turn h all = (h.0, all ∙ ap (λ l. old ++ l) h.1)
handles_as Is Other m (bad rule) r old made new turn h all = (h.0, turn m h.1, all ∙ ap (λ l. old ++ l) h.2 ∙ append_nil old)

-- where it is over it is closed, else it has its next monitor
pub closed_over : (p : MonitorProgram) (ms : Monitors) (place s : ℕ) (m : Monitor) (served : Served Monitor ReplyBody End PeerRule) (r : Handled) (xs zs : Seats) (old new : List ℕ) →
    Handles (λ next. AreSeats p xs (slice_set ms place (s, next))) m served r old new → AreSeats p (remove xs place) (remove ms place) → zs ≡ (if is_over r then remove xs place else xs) →
    Tells (told_by served) r old new × AreSeats p zs (left_at place s (left_by served) ms)
closed_over p ms place s m (goes_on next reply bytes) (GoesOn told) xs zs old new h others is = ((h.0, h.2), subst (λ l. AreSeats p l (slice_set ms place (s, next))) (sym is) h.1)
closed_over p ms place s m (goes_on next reply bytes) (Ended at) xs zs old new h others is = absurd h.0
closed_over p ms place s m (goes_on next reply bytes) (Bad broken) xs zs old new h others is = absurd h.0
closed_over p ms place s m (ends bytes end) (GoesOn told) xs zs old new h others is = absurd h.0
closed_over p ms place s m (ends bytes end) (Ended at) xs zs old new h others is = ((h.0, h.1), subst (λ l. AreSeats p l (remove ms place)) (sym is) others)
closed_over p ms place s m (ends bytes end) (Bad broken) xs zs old new h others is = absurd h.0
closed_over p ms place s m (bad rule) (GoesOn told) xs zs old new h others is = absurd h.0
closed_over p ms place s m (bad rule) (Ended at) xs zs old new h others is = absurd h.0
closed_over p ms place s m (bad rule) (Bad broken) xs zs old new h others is = ((h.0, h.2), subst (λ l. AreSeats p l (remove ms place)) (sym is) others)

-- what is over leaves no monitor
pub over_left : (served : Served Monitor ReplyBody End PeerRule) (r : Handled) (old new : List ℕ) → Tells (told_by served) r old new → is_over r ≡ true → left_by served ≡ None
over_left (goes_on next reply bytes) (GoesOn told) old new h over = false_not_true over
over_left (goes_on next reply bytes) (Ended at) old new h over = absurd h.0
over_left (goes_on next reply bytes) (Bad broken) old new h over = absurd h.0
over_left (ends bytes end) r old new h over = refl
over_left (bad rule) r old new h over = refl
