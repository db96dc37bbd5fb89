-- Handles that a reply gives have numbers of 64 bits.
use Rattle.std.proofs.Common.{◌≡◌, ◌≤◌, ◌<◌, inl, ℕ, suc, ◌+◌, ◌*◌, ◌^◌, refl, subst, arith, List, [], ◌∷◌, ◌++◌, Option, Some, Bool, true, false, length, if◌then◌else◌}
use Rattle.std.specs.Prelude.{IsTrue, nat_lt}
use Rattle.std.proofs.lemmas.Bool.Decides.{nat_tests}
use Rattle.std.proofs.lemmas.List.{length-append}
use Rattle.pt_base.specs.declared.int_type.IntType.{IntType}
use Rattle.block_memory.specs.declared.cell.Cell.{Cell}
use Rattle.wire.specs.declared.message.ReplyBody.{ReplyBody}
use Rattle.marshalling.specs.declared.crossing.Crossing.{Crossing}
use Rattle.marshalling.specs.declared.crossing.Crossing.TheVariants.{Stays, Plain, Sealed}
use Rattle.marshalling.specs.Replies.{Place, next_after, next_by}
use Rattle.marshalling.specs.Taking.{Taken, after_reply}
use Rattle.marshalling.proofs.TakingLemmas.{places_grow}
use Rattle.marshalling_law.specs.TakingLaws.{AllStand, GivenStand, IsTakenWell, Stands}
use Rattle.marshalling_law.proofs.TakingLemmas.{taken_replies_fit}
use Rattle.pt_core.specs.Calls.{signature_in}
use Rattle.pt_core.specs.Steps.{with_blocks}
use Rattle.pt_core.specs.WellFormed.{is_sound}
use Rattle.core_soundness_law.specs.Fits.{Fits}
use Rattle.core_soundness_law.proofs.Outside.{resumed_fits}
use Rattle.marshalling_law.specs.CallsPackable.{IsPackable}
use Rattle.pair_meaning.specs.LowView.{types_kept}
use Rattle.pair_meaning.specs.SlaveRun.{Slave, Doing, goes, waits_for, is_over, is_reply_to, places_of_call, results_of, taken_by, types_given, with_reply, with_taken}
use Rattle.slave_soundness_law.specs.Sound.{IsDoing, IsSound, IsWaiting, most_given}
use Rattle.slave_soundness_law.proofs.Taking.{given_few, next_counts, takers_stay_sound}
use Rattle.slave_soundness_law.specs.MessagesFormat.{HandlesFit, IsInFormat, numbered}
use Rattle.slave_soundness_law.specs.MessagesLaws.{TakersStayInFormat}

-- ---- the handles of a reply

one_stands : (way : Crossing) (t : IntType) (h n : ℕ) → next_by way h ≤ n → n ≤ 2 ^ 64 → Stands numbered way t h
one_stands Stays t h n less most = tt {0}
one_stands Plain t h n less most = tt {0}
one_stands Sealed t h n less most = low h (2 ^ 64) (below h n less most)
  where
    below : (h n : ℕ) → suc h ≤ n → n ≤ 2 ^ 64 → h < 2 ^ 64
    below h n less most = omega (arith, less, most)

    low : (a b : ℕ) → a < b → nat_lt a b ≡ true
    low a b less = grind (arith, nat_tests)

stand_below : (h : ℕ) (places : List Place) → next_after h places ≤ 2 ^ 64 → AllStand numbered h places
stand_below h [] most = tt {0}
stand_below h (p ∷ places) most = (one_stands p.way p.ty h (next_after (next_by p.way h) places) (places_grow (next_by p.way h) places) most, stand_below (next_by p.way h) places most)

pub given_stand : (x : Slave) (f : ℕ) (args : List Cell) (reply : ReplyBody) → is_reply_to x f args reply ≡ true → IsPackable x.program.structs (signature_in x.program f).params x.machine.blocks args → length x.given + most_given ≤ 2 ^ 63 →
    GivenStand numbered (length x.given) x.machine.blocks x.program.structs (signature_in x.program f) args
given_stand x f args reply is packable room =
    let results : List Place = results_of x f in
    let places : List Place = places_of_call x f args in
    let few : length (x.given ++ types_given x f args) ≤ length x.given + most_given = given_few x f args reply is packable in
    let first : next_after (length x.given) results ≡ length x.given + length (types_kept results) = next_counts (length x.given) results in
    let second : next_after (next_after (length x.given) results) places ≡ next_after (length x.given) results + length (types_kept places) = next_counts (next_after (length x.given) results) places in
    let all : length (x.given ++ types_given x f args) ≡ length x.given + length (types_given x f args) = length-append x.given (types_given x f args) in
    let both : length (types_given x f args) ≡ length (types_kept results) + length (types_kept places) = length-append (types_kept results) (types_kept places) in
    record {
      result = stand_below (length x.given) results (omega (arith, few, first, all, both, room));
      cells = stand_below (next_after (length x.given) results) places (omega (arith, few, first, second, all, both, room));
    }

-- ---- its machine

pub taken_numbered : (x : Slave) (f : ℕ) (args : List Cell) (result : Option ℕ) (taken : Taken) → IsTrue (is_sound false x.program) → x.machine.awaits ≡ Some (record { callee = f; result = result }) →
    IsTakenWell numbered false x.program (signature_in x.program f) x.machine taken → Fits numbered false x.program (with_taken x f args taken).machine
taken_numbered x f args result taken sound awaits well = resumed_fits numbered false x.program (with_blocks taken.blocks x.machine) (record { callee = f; result = result }) taken.result sound well.fits awaits well.result

pub reply_well : (x : Slave) (f : ℕ) (args : List Cell) (reply : ReplyBody) → Fits numbered false x.program x.machine → is_reply_to x f args reply ≡ true → IsPackable x.program.structs (signature_in x.program f).params x.machine.blocks args →
    length x.given + most_given ≤ 2 ^ 63 → IsTakenWell numbered false x.program (signature_in x.program f) x.machine (after_reply (length x.given) x.machine.blocks x.program.structs (signature_in x.program f) args reply)
reply_well x f args reply fits is packable room = taken_replies_fit numbered false x.program x.machine (length x.given) x.program.structs (signature_in x.program f) args reply fits is (given_stand x f args reply is packable room)

-- ---- a reply

pub takers_stay_in_format : TakersStayInFormat
takers_stay_in_format x reply h = go x.doing refl (takers_stay_sound x reply h.sound)
  where
    enough : (g c b : ℕ) → g + most_given ≤ c * most_given → c ≤ b → b < 2 ^ 32 → g + most_given ≤ 2 ^ 63
    enough g c b room few most = omega (arith, room, few, most)

    taken : (f : ℕ) (args : List Cell) → IsWaiting x f args → Fits numbered false x.program x.machine → is_reply_to x f args reply ≡ true → Fits numbered false x.program (with_reply x f args reply).machine
    taken f args waiting fits is =
        taken_numbered x f args waiting.result _ h.sound.program waiting.awaits
        (reply_well x f args reply fits is waiting.packable (enough (length x.given) x.calls x.machine.budget waiting.room h.sound.calls h.sound.budget))

    by_form : (f : ℕ) (args : List Cell) → IsWaiting x f args → Fits numbered false x.program x.machine → (b : Bool) → is_reply_to x f args reply ≡ b → IsSound (if b then with_reply x f args reply else record x { doing = is_over }) →
        IsInFormat (if b then with_reply x f args reply else record x { doing = is_over })
    by_form f args waiting fits true is sound = record { sound = sound; code = h.code; left = h.left; hosts = h.hosts; handles = inl (taken f args waiting fits is) }
    by_form f args waiting fits false is sound = record { sound = sound; code = h.code; left = h.left; hosts = h.hosts; handles = tt {0} }

    go : (d : Doing) → x.doing ≡ d → IsSound (taken_by x x.doing reply) → IsInFormat (taken_by x d reply)
    go goes e sound = h
    go (waits_for f args) e sound =
        by_form f args (subst (λ d. IsDoing x d) e h.sound.doing) (subst (λ d. HandlesFit x.program x.machine d) e h.handles) (is_reply_to x f args reply) refl
        (subst (λ d. IsSound (taken_by x d reply)) e sound)
    go is_over e sound = h
