-- Each reply that a slave waits for has a spelling.
use Rattle.std.proofs.Common.{◌≡◌, ◌≤◌, ◌<◌, ℕ, suc, ◌+◌, ◌*◌, ◌^◌, refl, subst, arith, List, [], ◌∷◌, ◌++◌, Option, Some, None, true, length, map, if◌then◌else◌, length-append}
use Rattle.std.specs.Prelude.{IfSome, ◌&&◌, nat_eq, nat_le, nat_lt, option_to_list}
use Rattle.std.specs.List.{AllByRecursion, list_all}
use Rattle.std.proofs.lemmas.Bool.Decides.{nat_tests}
use Rattle.pt_base.specs.declared.int_type.IntType.{IntType}
use Rattle.pt_base.specs.declared.int_type.IntType.TheVariants as i
use Rattle.pt_base.proofs.Booleans.{and_true_first, and_true_second, false_not_true}
use Rattle.block_memory.specs.declared.cell.BlockName.{BlockName}
use Rattle.block_memory.specs.declared.cell.Cell.{Cell}
use Rattle.block_memory.specs.Blocks.{Blocks}
use Rattle.wire.specs.declared.cell.WireCell.{WireCell}
use Rattle.wire.specs.declared.cell.WireCell.TheVariants as wire
use Rattle.wire.specs.declared.message.Message.TheVariants as message
use Rattle.wire.specs.declared.message.ReplyBody.{ReplyBody}
use Rattle.wire.specs.Limits.{FitsCell}
use Rattle.wire.proofs.Sizes.{counts_suffice}
use Rattle.marshalling.specs.declared.crossing.Crossing.{Crossing}
use Rattle.marshalling.specs.declared.crossing.Crossing.TheVariants.{Stays, Plain, Sealed}
use Rattle.marshalling.specs.Packing.{names_of}
use Rattle.marshalling.specs.Replies.{Place, next_after, next_by, places_from, places_of}
use Rattle.marshalling.specs.Taking.{are_sent, call_crossing, comes_back, is_sent_by, is_whole}
use Rattle.marshalling.proofs.ReplyLemmas.{length-places_from}
use Rattle.marshalling_law.specs.TakingLaws.{AllStand, Stands}
use Rattle.pt_core.specs.CodeTree.{BootTree}
use Rattle.pt_core.specs.Calls.{signature_in}
use Rattle.marshalling_law.specs.CallsPackable.{IsPackable}
use Rattle.marshalling_law.proofs.CallsServed.{range_of}
use Rattle.marshalling_law.proofs.CallsSpelled.{in_word}
use Rattle.pair_meaning.specs.Pair.{slave_at}
use Rattle.pair_meaning.specs.Peer.{are_awaited, is_awaited}
use Rattle.pair_meaning.specs.SlaveRun.{Slave, Doing, goes, waits_for, is_over, is_reply_to, longest, may_take, places_of_call, results_of}
use Rattle.slave_soundness_law.specs.Sound.{IsDoing, IsWaiting, most_given}
use Rattle.slave_soundness_law.specs.MessagesFormat.{IsInFormat, numbered}
use Rattle.slave_soundness_law.specs.MessagesLaws.{ReachedSlavesAreInFormat}
use Rattle.slave_soundness_law.proofs.MessagesTaking.{given_stand}
use Rattle.pair_runner.specs.Sending.{IsSpelled}
use Rattle.pair_running.specs.TalksExistLaws.{AwaitedRepliesAreSpelled}

-- ---- cells

below : (a b n : ℕ) → nat_eq a b ≡ true → nat_lt b n ≡ true → a < n
below a b n h k = grind (arith, nat_tests)

cell_fits : (way : Crossing) (t : IntType) (handle : ℕ) (c : WireCell) → is_sent_by way t handle c ≡ true → Stands numbered way t handle → FitsCell c
cell_fits Stays t handle c e s = false_not_true e
cell_fits Plain t handle (wire.Number v) e s = in_word t v (range_of t v e)
cell_fits Plain t handle (wire.Sealed given) e s = false_not_true e
cell_fits Sealed t handle (wire.Number v) e s = false_not_true e
cell_fits Sealed t handle (wire.Sealed given) e s = below given handle (2 ^ 64) e s

-- their numbers are those of the fields, and they are at most so many
record AreFine (cells : List WireCell) (most : ℕ) : Type 0 where
  fit : AllByRecursion FitsCell cells
  few : length cells ≤ most

cells_fine : (places : List Place) (handle : ℕ) (cells : List WireCell) → are_sent handle places cells ≡ true → AllStand numbered handle places → AreFine cells (length places)
cells_fine [] handle [] e s = record { fit = tt {0}; few = omega arith }
cells_fine [] handle (c ∷ cells) e s = false_not_true e
cells_fine (p ∷ places) handle [] e s = record { fit = tt {0}; few = omega arith }
cells_fine (p ∷ places) handle (c ∷ cells) e s = go (λ handle cells e s. cells_fine places handle cells e s) p.way e s
  where
    with_one : FitsCell c → AreFine cells (length places) → AreFine (c ∷ cells) (suc (length places))
    with_one fits all = let few = all.few in record { fit = (fits, all.fit); few = omega (arith, few) }

    go : ((handle : ℕ) (cells : List WireCell) → are_sent handle places cells ≡ true → AllStand numbered handle places → AreFine cells (length places)) →
        (way : Crossing) → (if comes_back way then is_sent_by way p.ty handle c && are_sent (next_by way handle) places cells else are_sent handle places (c ∷ cells)) ≡ true →
        Stands numbered way p.ty handle × AllStand numbered (next_by way handle) places → AreFine (c ∷ cells) (suc (length places))
    go more Stays e s = let all = more handle (c ∷ cells) e s.1 in let few = all.few in record { fit = all.fit; few = omega (arith, few) }
    go more Plain e s =
        let here = is_sent_by Plain p.ty handle c in
        let rest = are_sent handle places cells in
        with_one (cell_fits Plain p.ty handle c (and_true_first here rest e) s.0) (more handle cells (and_true_second here rest e) s.1)
    go more Sealed e s =
        let here = is_sent_by Sealed p.ty handle c in
        let rest = are_sent (suc handle) places cells in
        with_one (cell_fits Sealed p.ty handle c (and_true_first here rest e) s.0) (more (suc handle) cells (and_true_second here rest e) s.1)

-- ---- how many places there are

small : (a b : ℕ) → (nat_eq a b && nat_le b 65_536) ≡ true → a ≤ 65_536
small a b h = both (and_true_first (nat_eq a b) (nat_le b 65_536) h) (and_true_second (nat_eq a b) (nat_le b 65_536) h)
  where
    both : nat_eq a b ≡ true → nat_le b 65_536 ≡ true → a ≤ 65_536
    both h k = grind (arith, nat_tests)

few_places : (crossing : ℕ → ℕ → Crossing) (blocks : Blocks) (k : ℕ) (names : List BlockName) → list_all (λ name. is_whole (blocks name)) names ≡ true →
    length (places_of crossing k (map (λ name. (blocks name).types) names)) ≤ length names * 65_536
few_places crossing blocks k [] h = omega arith
few_places crossing blocks k (n ∷ names) h =
    let whole = is_whole (blocks n) in
    let others = list_all (λ name. is_whole (blocks name)) names in
    let here : length (blocks n).types ≤ 65_536 = small (length (blocks n).types) (length (blocks n).cells) (and_true_first whole others h) in
    let same : length (places_from crossing k 0 (blocks n).types) ≡ length (blocks n).types = length-places_from crossing k 0 (blocks n).types in
    let rest = few_places crossing blocks (suc k) names (and_true_second whole others h) in
    omega (arith, here, same, rest, length-append (places_from crossing k 0 (blocks n).types) (places_of crossing (suc k) (map (λ name. (blocks name).types) names)))

-- ---- a reply

result_fits : (o : Option WireCell) → AllByRecursion FitsCell (option_to_list o) → IfSome o FitsCell
result_fits None h = tt {0}
result_fits (Some c) h = h.0

reply_spelled : (x : Slave) (f : ℕ) (args : List Cell) (reply : ReplyBody) → is_reply_to x f args reply ≡ true → IsPackable x.program.structs (signature_in x.program f).params x.machine.blocks args →
    length x.given + most_given ≤ 2 ^ 63 → IsSpelled reply
reply_spelled x f args reply is packable room =
    let stand = given_stand x f args reply is packable room in
    let results : List Place = results_of x f in
    let places : List Place = places_of_call x f args in
    let next : ℕ = next_after (length x.given) results in
    let one = are_sent (length x.given) results (option_to_list reply.result) in
    let other = are_sent next places reply.cells in
    let result = cells_fine results (length x.given) (option_to_list reply.result) (and_true_first one other is) stand.result in
    let cells = cells_fine places next reply.cells (and_true_second one other is) stand.cells in
    let few : length reply.cells ≤ length places = cells.few in
    let all : length places ≤ length (names_of args) * 65_536 =
    few_places (call_crossing x.program.structs (signature_in x.program f).params args) x.machine.blocks 0 (names_of args) packable.whole in
    let named : length (names_of args) ≤ length args = packable.named in
    let short : length args ≤ 8 = packable.few in
    record {
      fits = record { result = result_fits reply.result result.fit; cells = cells.fit };
      keeps = counts_suffice (message.Reply reply) (tt {0}) (omega (arith, few, all, named, short));
      are = refl;
    }

slave_awaits : (x : Slave) (reply : ReplyBody) → IsInFormat x → is_awaited x reply ≡ true → IsSpelled reply
slave_awaits x reply h is = go x.doing refl is
  where
    enough : (g c b : ℕ) → g + most_given ≤ c * most_given → c ≤ b → b < 2 ^ 32 → g + most_given ≤ 2 ^ 63
    enough g c b room few most = omega (arith, room, few, most)

    go : (d : Doing) → x.doing ≡ d → may_take x d reply ≡ true → IsSpelled reply
    go goes e is = false_not_true is
    go (waits_for f args) e is =
        let waiting : IsWaiting x f args = subst (λ d. IsDoing x d) e h.sound.doing in
        reply_spelled x f args reply is waiting.packable (enough (length x.given) x.calls x.machine.budget waiting.room h.sound.calls h.sound.budget)
    go is_over e is = false_not_true is

-- ---- all of them

all_spelled : (b : BootTree) → ((replies : List ReplyBody) → IsInFormat (slave_at b replies (longest b)).slave) → (before replies : List ReplyBody) → are_awaited b before replies ≡ true → AllByRecursion IsSpelled replies
all_spelled b reached before [] is = tt {0}
all_spelled b reached before (reply ∷ replies) is =
    let x : Slave = (slave_at b before (longest b)).slave in
    let here = is_awaited x reply in
    let rest = are_awaited b (before ++ reply ∷ []) replies in
    (slave_awaits x reply (reached before) (and_true_first here rest is), all_spelled b reached (before ++ reply ∷ []) replies (and_true_second here rest is))

pub awaited_replies : ReachedSlavesAreInFormat → AwaitedRepliesAreSpelled
awaited_replies reached b bytes spells well replies is = all_spelled b (λ replies. reached b bytes spells well replies (longest b)) [] replies is
