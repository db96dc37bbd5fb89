-- Where a call ends.
use Rattle.std.proofs.Common.{◌≡◌, ◌∙◌, ℕ, ap, sym, refl, subst, zero-add, List, map, length, Bool, true, false, Option, Some, None, if◌then◌else◌}
use Rattle.std.specs.Prelude.{ℤ, slice_get}
use Rattle.std.specs.Option.{option_map}
use Rattle.std.proofs.lemmas.Bool.{lt-ltb}
use Rattle.pt_tree.specs.declared.signature.Signature.{Signature}
use Rattle.typed_tree.specs.declared.types.StructInfo.{StructInfo}
use Rattle.block_memory.specs.declared.cell.Cell.{Cell}
use Rattle.block_memory.specs.declared.cell.Cell.TheVariants as cell
use Rattle.block_memory.specs.declared.cell.BlockName.{BlockName}
use Rattle.block_memory.specs.declared.cell.BlockName.TheVariants.{Local, Global, Received}
use Rattle.block_memory.specs.Block.{Block}
use Rattle.block_memory.specs.Blocks.{Blocks}
use Rattle.pt_core.specs.CodeTree.{ProgramTree}
use Rattle.marshalling.specs.Handles.{Entries}
use Rattle.marshalling.specs.HonestCalls.{IsAnswered, IsSameWork, IsServed, grown, returned, revealed_block, revealed_blocks}
use Rattle.marshalling.specs.Packing.{is_among, names_of, number_of}
use Rattle.marshalling.specs.Replies.{AreServed, HoldNumbers}
use Rattle.marshalling.specs.Taking.{Taken, call_crossing, comes_back}
use Rattle.marshalling.proofs.NameLemmas.{number_below}
use Rattle.marshalling_law.proofs.HonestLemmas.{calls_are_transparent, honest_calls_return, block_same}
use Rattle.marshalling_law.proofs.PostingLemmas.{packed_types, posting_takes}
use Rattle.part_views_law.specs.Views.{View, has_global, is_own, lying, seen, seen_block, seen_cell, slave_of, slave_view}
use Rattle.part_views_law.proofs.Memories.{never_both}
use Rattle.part_views_law.specs.CrossingsCalls.{IsEnded, IsSent, IsWorked, Meet, body_view, whole_memory}
use Rattle.part_views_law.specs.CrossingsLaws.{CallsEnd, PostedCallsEnd}
use Rattle.part_views_law.proofs.CrossingsMeeting.{views_meet}
use Rattle.part_views_law.proofs.CrossingsCells.{numbers_seen, held_seen, served_at_name, shows}
use Rattle.part_views_law.proofs.CrossingsBeginning.{types_named, cells_named, slave_has, slave_shows}

-- what the body would have left in the slave's own memory, with values for handles
abbrev worked_on : Entries → List BlockName → Blocks → Blocks → Blocks
worked_on store names x z name = if is_among names name then record { types = (x name).types; cells = (z (Received (number_of names name))).cells } else revealed_block store (x name)

work_done : (t : Bool) (a b : Block) → t ≡ true → (if t then a else b) ≡ a
work_done true a b h = refl
work_done false a b h = cc

work_left : (t : Bool) (a b : Block) → t ≡ false → (if t then a else b) ≡ b
work_left true a b h = cc
work_left false a b h = refl

worked_there : (store : Entries) (names : List BlockName) (x z : Blocks) (name : BlockName) → is_among names name ≡ true → worked_on store names x z name ≡ record { types = (x name).types; cells = (z (Received (number_of names name))).cells }
worked_there store names x z name among = work_done (is_among names name) (record { types = (x name).types; cells = (z (Received (number_of names name))).cells }) (revealed_block store (x name)) among

worked_beside : (store : Entries) (names : List BlockName) (x z : Blocks) (name : BlockName) → is_among names name ≡ false → worked_on store names x z name ≡ revealed_block store (x name)
worked_beside store names x z name among = work_left (is_among names name) (record { types = (x name).types; cells = (z (Received (number_of names name))).cells }) (revealed_block store (x name)) among

same_work : (monitor : ProgramTree) (base : ℕ) (store : Entries) (structs : List StructInfo) (sig : Signature) (x m : Blocks) (args : List Cell) (z after : Blocks) (value : Option ℤ) →
    IsWorked monitor base store structs sig x m args z after value →
    IsSameWork (call_crossing structs sig.params args) (names_of args) (revealed_blocks store x) z (worked_on store (names_of args) x z)
same_work monitor base store structs sig x m args z after value work = record {
  same = λ name among. ap (λ (b : Block). b.cells) (sym (worked_there store (names_of args) x z name among));
  stays = λ name i among h.
      ap (λ (b : Block). slice_get b.cells i) (worked_there store (names_of args) x z name among)
      ∙ work.stays (number_of (names_of args) name) i (number_below (names_of args) name among) (ap comes_back h)
      ∙ ap (λ (cells : List Cell). slice_get cells i) (cells_named store x args name among);
  beside = λ name among. ap (λ (b : Block). b.cells) (worked_beside store (names_of args) x z name among);
  types = λ name. types name (is_among (names_of args) name);
}
  where
    types : (name : BlockName) (t : Bool) → (if t then record { types = (x name).types; cells = (z (Received (number_of (names_of args) name))).cells } else revealed_block store (x name)).types ≡ (x name).types
    types name true = refl
    types name false = refl

-- the call was served
serve : (slave monitor : ProgramTree) (base : ℕ) (store : Entries) (structs : List StructInfo) (sig : Signature) (x m : Blocks) (args : List Cell) (z after : Blocks) (value : Option ℤ) →
    IsSent slave monitor base store structs sig.params x m args → IsWorked monitor base store structs sig x m args z after value → IsServed store structs sig x args z value
serve slave monitor base store structs sig x m args z after value sent work = record {
  sendable = sent.sendable;
  whole = sent.whole;
  integers = sent.integers;
  known = sent.known;
  numbers = work.numbers;
  result = work.result;
}

-- what is packed is none of the body's own
not_packed : (monitor : ProgramTree) (base : ℕ) (names : List BlockName) (name : BlockName) → ((n : BlockName) → is_among names n ≡ true → is_own monitor base n ≡ false) → is_own monitor base name ≡ true → is_among names name ≡ false
not_packed monitor base names name outside own = go (is_among names name) refl
  where
    go : (t : Bool) → is_among names name ≡ t → t ≡ false
    go true e = never_both (is_own monitor base name) own (outside name e)
    go false e = refl

ended_meet : (slave monitor : ProgramTree) (base : ℕ) (store : Entries) (structs : List StructInfo) (sig : Signature) (x m : Blocks) (args : List Cell) (z after : Blocks) (value : Option ℤ) →
    IsSent slave monitor base store structs sig.params x m args → IsWorked monitor base store structs sig x m args z after value →
    (new : Entries) (left : Blocks) → revealed_blocks new left ≡ worked_on store (names_of args) x z → ((name : BlockName) → is_among (names_of args) name ≡ false → left name ≡ x name) →
    Meet slave monitor base (names_of args) new left after z (whole_memory slave store m x)
ended_meet slave monitor base store structs sig x m args z after value sent work new left reveals beside = record {
  apart = sent.apart;
  globals = λ g h. ap (λ (cells : List Cell). record { types = (z (Global g)).types; cells = cells }) (numbers_seen v (z (Global g)).cells (work.alone g h)) ∙ sym (work.left g);
  received = received;
  locals = λ depth k above. (beside (Local depth k) (not_packed monitor base names (Local depth k) sent.outside (lt-ltb base depth above)) ∙ sent.free depth k above, work.free depth k above);
  beside = λ name own among. stayed name own among;
}
  where
    names : List BlockName
    names = names_of args

    v : View
    v = body_view slave monitor base store x m args

    shown : (name : BlockName) → revealed_block new (left name) ≡ worked_on store (names_of args) x z name
    shown name = ap (λ (b : Blocks). b name) reveals

    served : AreServed z 0 (map (λ n. (x n).types) (names_of args))
    served = subst (AreServed z 0) (packed_types x (names_of args) sent.whole) work.numbers

    held_there : (name : BlockName) → is_among (names_of args) name ≡ true → HoldNumbers (x name).types (z (Received (number_of (names_of args) name))).cells
    held_there name among = subst (λ k. HoldNumbers (x name).types (z (Received k)).cells) (zero-add (number_of (names_of args) name)) (served_at_name z x 0 (names_of args) name served among)

    received : (name : BlockName) → is_among (names_of args) name ≡ true → is_own monitor base name ≡ false →
        seen_block v (z (Received (number_of (names_of args) name))) ≡ seen (slave_view slave new after) left name
    received name among own =
        block_same (seen_block v (z (Received (number_of (names_of args) name)))) (record { types = (x name).types; cells = (z (Received (number_of (names_of args) name))).cells })
        (work.types (number_of (names_of args) name) (number_below (names_of args) name among) ∙ types_named sig.params x args name sent.whole among)
        (held_seen v (x name).types (z (Received (number_of (names_of args) name))).cells (held_there name among))
        ∙ sym (worked_there store (names_of args) x z name among)
        ∙ sym (shown name)
        ∙ sym (slave_shows slave new after left name (slave_has slave (names_of args) name sent.there among))

    -- a block of the slave's that wasn't sent is as it was
    kept_there : (name : BlockName) → is_among (names_of args) name ≡ false → slave_of slave name ≡ Some name → seen (slave_view slave store m) x name ≡ seen (slave_view slave new after) left name
    kept_there name among has =
        slave_shows slave store m x name has ∙ sym (worked_beside store (names_of args) x z name among) ∙ sym (shown name) ∙ sym (slave_shows slave new after left name has)

    global_there : (g : ℕ) (t : Bool) → has_global slave g ≡ t → has_global monitor g ≡ false → is_among (names_of args) (Global g) ≡ false → seen (slave_view slave store m) x (Global g) ≡ seen (slave_view slave new after) left (Global g)
    global_there g true has own among = kept_there (Global g) among (ap (λ (t : Bool). if t then Some (Global g) else None) has)
    global_there g false has own among =
        let none = ap (λ (t : Bool). if t then Some (Global g) else None) has in
        ap (λ o. lying (slave_view slave store m) x (Global g) o) none ∙ sym (work.left g ∙ work.others g own) ∙ sym (ap (λ o. lying (slave_view slave new after) left (Global g) o) none)

    stayed : (name : BlockName) → is_own monitor base name ≡ false → is_among (names_of args) name ≡ false → seen (slave_view slave store m) x name ≡ seen (slave_view slave new after) left name
    stayed (Local d k) own among = kept_there (Local d k) among refl
    stayed (Global g) own among = global_there g (has_global slave g) refl own among
    stayed (Received n) own among = kept_there (Received n) among refl

pub calls_end : CallsEnd
calls_end slave monitor base store structs sig x m args z after value sent work = (
  answer.fits,
  record {
    next = answer.next;
    known = answer.known;
    result = value_seen value ∙ sym (ap (λ (f : Cell → Cell). option_map f (returned store structs sig x args z value).result) (shows slave (grown store structs sig x args z value) after) ∙ answer.result);
    meet = meet;
    memory = views_meet slave monitor base (names_of args) (grown store structs sig x args z value) (returned store structs sig x args z value).blocks after z (whole_memory slave store m x) meet;
  },
)
  where
    answer : IsAnswered store structs sig x args z value
    answer = honest_calls_return store structs sig x args z value (serve slave monitor base store structs sig x m args z after value sent work)

    meet : Meet slave monitor base (names_of args) (grown store structs sig x args z value) (returned store structs sig x args z value).blocks after z (whole_memory slave store m x)
    meet = ended_meet slave monitor base store structs sig x m args z after value sent work (grown store structs sig x args z value) (returned store structs sig x args z value).blocks
        (calls_are_transparent store structs sig x args z (worked_on store (names_of args) x z) value (serve slave monitor base store structs sig x m args z after value sent work) (same_work monitor base store structs sig x m args z after value work))
        answer.beside

    value_seen : (o : Option ℤ) → option_map (seen_cell (body_view slave monitor base store x m args)) (option_map cell.Int o) ≡ option_map cell.Int o
    value_seen None = refl
    value_seen (Some n) = refl

pub posted_calls_end : PostedCallsEnd
posted_calls_end slave monitor base store structs sig x m args z after value sent work result places =
    subst (λ (taken : Taken). IsEnded slave monitor base store (grown store structs sig x args z value) x m args z after value taken)
    (posting_takes (length store) structs sig x args z value sent.whole result places work.numbers work.result)
    (calls_end slave monitor base store structs sig x m args z after value sent work).1
