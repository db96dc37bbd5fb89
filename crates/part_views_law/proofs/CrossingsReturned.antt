-- What a slave has after a call fits by the new store.
use Rattle.std.proofs.Common.{◌≡◌, ◌∙◌, append_assoc, ℕ, zero, suc, ap, sym, refl, subst, arith, List, [], ◌∷◌, ◌++◌, map, length, Bool, true, false, Option, Some, None}
use Rattle.std.specs.Prelude.{ℤ, IsTrue, ◌||◌, not, option_to_list, slice_get}
use Rattle.std.proofs.lemmas.List.{append-nil, length-map}
use Rattle.pt_base.specs.declared.int_type.IntType.{IntType}
use Rattle.pt_base.specs.IntTypes.{InRange}
use Rattle.pt_int.specs.Conversion.{is_in_range}
use Rattle.pt_tree.specs.declared.signature.Signature.{Signature}
use Rattle.typed_tree.specs.declared.types.StructInfo.{StructInfo}
use Rattle.typed_tree.specs.declared.types.VarTy.{VarTy}
use Rattle.typed_tree.specs.declared.types.VarTy.TheVariants.{Int, Struct, Array, Pointer}
use Rattle.block_memory.specs.declared.cell.Cell.{Cell}
use Rattle.block_memory.specs.declared.cell.Cell.TheVariants as cell
use Rattle.block_memory.specs.declared.cell.BlockName.{BlockName}
use Rattle.block_memory.specs.declared.cell.BlockName.TheVariants.{Local, Global, Received}
use Rattle.block_memory.specs.Block.{Block}
use Rattle.block_memory.specs.Blocks.{Blocks, is_same_name}
use Rattle.block_memory.proofs.BlocksLemmas.{is_same_name-self, same_name}
use Rattle.core_soundness_law.specs.Fits.{IntegerFits, IntegersFit, LocalFits, variables_at}
use Rattle.core_soundness_law.specs.Kept.{Kept, by_store, is_stored}
use Rattle.core_soundness_law.specs.Outside.{GivenFits}
use Rattle.core_soundness_law.proofs.Memory.{pointer_stays, emptied}
use Rattle.core_soundness_law.proofs.Numbers.{in_range}
use Rattle.typed_tree.specs.TypeTests.{same_int}
use Rattle.typed_tree.proofs.SameTypes.{int_self}
use Rattle.marshalling.specs.declared.crossing.Crossing.{Crossing}
use Rattle.marshalling.specs.Crossings.{sealed_if}
use Rattle.marshalling.specs.Handles.{Entries}
use Rattle.marshalling.specs.HonestCalls.{AreLeft, IsAnswered, grown, left_cell, left_cells, returned}
use Rattle.marshalling.specs.Packing.{is_among, names_of, packed}
use Rattle.marshalling.specs.Replies.{AreServed, HoldNumbers, HoldsNumber, IsResult, Place, kept, kept_by, next_after, next_by, number_in, places_from, places_of, received, result_places, sent, sent_by, types_in}
use Rattle.marshalling.specs.Taking.{call_crossing, is_whole, result_by, taken_result}
use Rattle.marshalling.proofs.TakingLemmas.{whole_count}
use Rattle.part_views_law.proofs.CrossingsBeginning.{of_name}
use Rattle.marshalling_law.proofs.HonestLemmas.{honest_calls_return}
use Rattle.marshalling_law.proofs.PostingLemmas.{packed_types}
use Rattle.marshalling_law.proofs.RevealLemmas.{store_on}
use Rattle.marshalling.proofs.ReplyLemmas.{holds_length, kept-append, length-kept, length-kept_by, length-places_from, result_count}
use Rattle.part_views_law.specs.CrossingsFits.{ReturnedFits}

-- ---- more is kept

more_kept : (store more : Entries) (t : IntType) (h : ℕ) → IsTrue (is_stored t (slice_get store h)) → IsTrue (is_stored t (slice_get (store ++ more) h))
more_kept [] more t h k = absurd cc
more_kept (entry ∷ store) more t zero k = k
more_kept (entry ∷ store) more t (suc h) k = more_kept store more t h k

integer_more : (store more : Entries) (t : IntType) (c : Cell) → IntegerFits (by_store store) t c → IntegerFits (by_store (store ++ more)) t c
integer_more store more t (cell.Int v) f = f
integer_more store more t (cell.Ptr p) f = elim f [ ]
integer_more store more t (cell.Sealed h) f = more_kept store more t h f

integers_more : (store more : Entries) (types : List IntType) (cells : List Cell) → IntegersFit (by_store store) types cells → IntegersFit (by_store (store ++ more)) types cells
integers_more store more [] [] f = tt {0}
integers_more store more [] (c ∷ cells) f = elim f [ ]
integers_more store more (t ∷ types) [] f = elim f [ ]
integers_more store more (t ∷ types) (c ∷ cells) f = (integer_more store more t c f.0, integers_more store more types cells f.1)

-- ---- one block

kept_at : (pre rest : Entries) (t : IntType) (v : ℤ) → same_int t t ≡ true → is_stored t (slice_get (pre ++ (t, v) ∷ rest) (length pre)) ≡ true
kept_at [] rest t v self = self
kept_at (entry ∷ pre) rest t v self = kept_at pre rest t v self

sealed_here : (new pre rest : Entries) (handle : ℕ) (t : IntType) (v : ℤ) → new ≡ pre ++ (t, v) ∷ rest → length pre ≡ handle → IsTrue (is_stored t (slice_get new handle))
sealed_here new pre rest handle t v is here =
    ap (λ h. is_stored t (slice_get new h)) (sym here) ∙ ap (λ (s : Entries). is_stored t (slice_get s (length pre))) is ∙ kept_at pre rest t v (int_self t)

one_left : (p : Place) (new pre rest post : Entries) (handle : ℕ) (c : Cell) (v : ℤ) → new ≡ pre ++ ((kept_by p.way p.ty v ++ rest) ++ post) → length pre ≡ handle →
    IntegerFits (by_store new) p.ty c → IsTrue (is_in_range p.ty v) → (new ≡ pre ++ (p.ty, v) ∷ (rest ++ post) → IsTrue (is_stored p.ty (slice_get new handle))) → IntegerFits (by_store new) p.ty (left_cell p.way handle c v)
one_left p new pre rest post handle c v is here f r sealed = grind (arith, is, here, f, r, sealed)

abbrev InRanges : List IntType → List ℤ → Type 0
InRanges [] vs = Unit {0}
InRanges (t ∷ types) [] = ⊥
InRanges (t ∷ types) (v ∷ vs) = InRange t v × InRanges types vs

held_ranges : (types : List IntType) (cells : List Cell) → HoldNumbers types cells → InRanges types (map number_in cells)
held_ranges [] cells h = tt {0}
held_ranges (t ∷ types) [] h = elim h [ ]
held_ranges (t ∷ types) (c ∷ cells) h = (one t c h.0, held_ranges types cells h.1)
  where
    one : (t : IntType) (c : Cell) → HoldsNumber t c → InRange t (number_in c)
    one t (cell.Int v) h = h
    one t (cell.Ptr p) h = elim h [ ]
    one t (cell.Sealed s) h = elim h [ ]

cells_left : (crossing : ℕ → ℕ → Crossing) (new pre post : Entries) (k i handle : ℕ) (types : List IntType) (cells : List Cell) (vs : List ℤ) →
    new ≡ pre ++ (kept (places_from crossing k i types) vs ++ post) → length pre ≡ handle → IntegersFit (by_store new) types cells → InRanges types vs →
    IntegersFit (by_store new) types (left_cells (crossing k) i handle cells vs)
cells_left crossing new pre post k i handle [] [] vs is here f r = tt {0}
cells_left crossing new pre post k i handle [] (c ∷ cells) vs is here f r = elim f [ ]
cells_left crossing new pre post k i handle (t ∷ types) [] vs is here f r = elim f [ ]
cells_left crossing new pre post k i handle (t ∷ types) (c ∷ cells) [] is here f r = elim r [ ]
cells_left crossing new pre post k i handle (t ∷ types) (c ∷ cells) (v ∷ vs) is here f r = (
  one_left (record { way = crossing k i; ty = t }) new pre (kept (places_from crossing k (suc i) types) vs) post handle c v is here f.0 (in_range t v r.0)
      (λ e. sealed_here new pre (kept (places_from crossing k (suc i) types) vs ++ post) handle t v e here),
  cells_left crossing new (pre ++ kept_by (crossing k i) t v) post k (suc i) (next_by (crossing k i) handle) types cells vs
      (store_on new pre (kept_by (crossing k i) t v) (kept (places_from crossing k (suc i) types) vs) post is) (length-kept_by (crossing k i) t v pre ∙ ap (next_by (crossing k i)) here) f.1 r.1,
)

-- ---- all blocks

blocks_left : (crossing : ℕ → ℕ → Crossing) (new pre post : Entries) (x z after : Blocks) (k handle : ℕ) (names : List BlockName) (name : BlockName) →
    AreLeft crossing k names handle x z after → new ≡ pre ++ (kept (places_of crossing k (map (λ n. (x n).types) names)) (received z k (map (λ n. (x n).types) names)) ++ post) → length pre ≡ handle →
    AreServed z k (map (λ n. (x n).types) names) → ((n : BlockName) → is_among names n ≡ true → IntegersFit (by_store new) (x n).types (x n).cells) → is_among names name ≡ true →
    IntegersFit (by_store new) (x name).types (after name).cells
blocks_left crossing new pre post x z after k handle [] name left is here serves fits among = absurd cc
blocks_left crossing new pre post x z after k handle (n ∷ names) name left is here serves fits among =
    go (is_same_name n name) refl among
    (blocks_left crossing new (pre ++ first_kept) post x z after (suc k) (next_after handle (places_from crossing k 0 (x n).types)) names name left.1
    (store_on new pre first_kept rest_kept post parts) (length-kept (places_from crossing k 0 (x n).types) vs pre many ∙ ap (λ m. next_after m (places_from crossing k 0 (x n).types)) here) serves.2 (λ b h. fits b (or_right (is_same_name n b) (is_among names b) h)))
  where
    vs : List ℤ
    vs = map number_in (z (Received k)).cells

    first_kept : Entries
    first_kept = kept (places_from crossing k 0 (x n).types) (map number_in (z (Received k)).cells)

    rest_kept : Entries
    rest_kept = kept (places_of crossing (suc k) (map (λ b. (x b).types) names)) (received z (suc k) (map (λ b. (x b).types) names))

    many : length (places_from crossing k 0 (x n).types) ≡ length (map number_in (z (Received k)).cells)
    many = length-places_from crossing k 0 (x n).types ∙ holds_length (x n).types (z (Received k)).cells serves.1 ∙ sym (length-map (z (Received k)).cells number_in)

    parts : new ≡ pre ++ ((first_kept ++ rest_kept) ++ post)
    parts = is ∙ ap (λ xs. pre ++ (xs ++ post)) (kept-append (places_from crossing k 0 (x n).types) (places_of crossing (suc k) (map (λ b. (x b).types) names)) vs (received z (suc k) (map (λ b. (x b).types) names)) many)

    or_right : (a b : Bool) → b ≡ true → (a || b) ≡ true
    or_right true b h = refl
    or_right false b h = h

    or_left : (a b : Bool) → a ≡ true → (a || b) ≡ true
    or_left true b h = refl
    or_left false b h = cc

    here_fits : is_same_name n name ≡ true → IntegersFit (by_store new) (x n).types (after n).cells
    here_fits e = subst (λ cs. IntegersFit (by_store new) (x n).types cs) (sym left.0)
        (cells_left crossing new pre (rest_kept ++ post) k 0 handle (x n).types (x n).cells vs (parts ∙ ap (λ xs. pre ++ xs) (append_assoc first_kept rest_kept post)) here
        (fits n (or_left (is_same_name n n) (is_among names n) (is_same_name-self n))) (held_ranges (x n).types (z (Received k)).cells serves.1))

    go : (t : Bool) → is_same_name n name ≡ t → (t || is_among names name) ≡ true → (is_among names name ≡ true → IntegersFit (by_store new) (x name).types (after name).cells) → IntegersFit (by_store new) (x name).types (after name).cells
    go true e h rest = subst (λ b. IntegersFit (by_store new) (x b).types (after b).cells) (same_name n name e) (here_fits e)
    go false e h rest = rest h

-- ---- the result

given_fits : (sig : Signature) (t : Option IntType) (value : Option ℤ) (store more : Entries) → IsResult t value →
    GivenFits (by_store (store ++ (kept (result_places sig t) (option_to_list value) ++ more))) t (taken_result (result_places sig t) (length store) (slice_get (sent (length store) (result_places sig t) (option_to_list value)) 0))
given_fits sig None None store more h = tt {0}
given_fits sig None (Some v) store more h = elim h [ ]
given_fits sig (Some t) None store more h = elim h [ ]
given_fits sig (Some t) (Some v) store more h = go (not sig.declassify)
  where
    go : (secret : Bool) → GivenFits (by_store (store ++ ((kept_by (sealed_if secret) t v ++ []) ++ more))) (Some t) (result_by (sealed_if secret) (length store) (slice_get (sent_by (sealed_if secret) (length store) v ++ []) 0))
    go true = kept_at store more t v (int_self t)
    go false = in_range t v h

-- ---- the memory

-- a whole block has integers
local_whole : (kept : Kept) (structs : List StructInfo) (x : Blocks) (depth : ℕ) (o : Option VarTy) (b : Block) → LocalFits kept structs x depth o b → length b.types ≡ length b.cells → IntegersFit kept b.types b.cells
local_whole kept structs x depth None b f same = subst (λ (c : Block). IntegersFit kept c.types c.cells) (sym f) (tt {0})
local_whole kept structs x depth (Some (Int t)) b f same = f.cells
local_whole kept structs x depth (Some (Struct n)) b f same = f.cells
local_whole kept structs x depth (Some (Array elem count)) b f same = f.cells
local_whole kept structs x depth (Some (Pointer elem fixed)) b f same = let none : length b.types ≡ 0 = ap length f.none in let one : length b.cells ≡ 1 = ap length f.cells in absurd (omega (arith, none, one, same))

-- a local that wasn't sent, among blocks of the same types
local_more : (store more : Entries) (structs : List StructInfo) (x after : Blocks) (depth : ℕ) (o : Option VarTy) (b : Block) → ((name : BlockName) → (x name).types ≡ (after name).types) →
    LocalFits (by_store store) structs x depth o b → LocalFits (by_store (store ++ more)) structs after depth o b
local_more store more structs x after depth None b same f = f
local_more store more structs x after depth (Some (Int t)) b same f = record { types_are = f.types_are; cells = integers_more store more b.types b.cells f.cells }
local_more store more structs x after depth (Some (Struct n)) b same f = record { types_are = f.types_are; cells = integers_more store more b.types b.cells f.cells }
local_more store more structs x after depth (Some (Array elem count)) b same f = record { types_are = f.types_are; cells = integers_more store more b.types b.cells f.cells }
local_more store more structs x after depth (Some (Pointer elem fixed)) b same f =
    record { none = f.none; held = f.held; cells = f.cells; fits = pointer_stays structs x after depth elem f.held (λ name near. same name) f.fits }

-- a local that was sent
local_back : (kept new : Kept) (structs : List StructInfo) (x after : Blocks) (depth : ℕ) (o : Option VarTy) (b c : Block) → c.types ≡ b.types → length b.types ≡ length b.cells →
    LocalFits kept structs x depth o b → IntegersFit new c.types c.cells → LocalFits new structs after depth o c
local_back kept new structs x after depth None b c types same f g = emptied new c (types ∙ ap (λ (d : Block). d.types) f) g
local_back kept new structs x after depth (Some (Int t)) b c types same f g = record { types_are = types ∙ f.types_are; cells = g }
local_back kept new structs x after depth (Some (Struct n)) b c types same f g = record { types_are = types ∙ f.types_are; cells = g }
local_back kept new structs x after depth (Some (Array elem count)) b c types same f g = record { types_are = types ∙ f.types_are; cells = g }
local_back kept new structs x after depth (Some (Pointer elem fixed)) b c types same f g = let none : length b.types ≡ 0 = ap length f.none in let one : length b.cells ≡ 1 = ap length f.cells in absurd (omega (arith, none, one, same))

pub returned_fits : ReturnedFits
returned_fits slave active store structs sig x args z value mem s = (
  record {
    locals = λ d v. local d v (is_among (names_of args) (Local d v)) refl;
    globals = λ g ty is. answer.types (Global g) ∙ mem.globals g ty is;
    global_cells = λ g. block (Global g) (mem.global_cells g) (is_among (names_of args) (Global g)) refl;
    received_cells = λ n. block (Received n) (mem.received_cells n) (is_among (names_of args) (Received n)) refl;
    beyond = λ g none. emptied (by_store new) (after (Global g)) (answer.types (Global g) ∙ ap (λ (b : Block). b.types) (mem.beyond g none)) (block (Global g) (mem.global_cells g) (is_among (names_of args) (Global g)) refl);
  },
  given_fits sig sig.result value store (kept (places_of (call_crossing structs sig.params args) 0 (types_in (packed x sig.params args))) (received z 0 (types_in (packed x sig.params args)))) s.result,
)
  where
    answer : IsAnswered store structs sig x args z value
    answer = honest_calls_return store structs sig x args z value s

    new : Entries
    new = grown store structs sig x args z value

    after : Blocks
    after = (returned store structs sig x args z value).blocks

    first_kept : Entries
    first_kept = kept (result_places sig sig.result) (option_to_list value)

    rest_kept : List (List IntType) → Entries
    rest_kept tss = kept (places_of (call_crossing structs sig.params args) 0 tss) (received z 0 tss)

    same_types : types_in (packed x sig.params args) ≡ map (λ n. (x n).types) (names_of args)
    same_types = packed_types x (names_of args) s.whole

    parts : new ≡ (store ++ first_kept) ++ (rest_kept (map (λ n. (x n).types) (names_of args)) ++ [])
    parts = ap (λ (tss : List (List IntType)). store ++ (first_kept ++ rest_kept tss)) same_types
        ∙ sym (append_assoc store first_kept (rest_kept (map (λ n. (x n).types) (names_of args))))
        ∙ ap (λ (es : Entries). (store ++ first_kept) ++ es) (sym (append-nil (rest_kept (map (λ n. (x n).types) (names_of args)))))

    served : AreServed z 0 (map (λ n. (x n).types) (names_of args))
    served = subst (AreServed z 0) same_types s.numbers

    count : (name : BlockName) → is_among (names_of args) name ≡ true → length (x name).types ≡ length (x name).cells
    count name among = whole_count (x name) (of_name (λ n. is_whole (x n)) (names_of args) name s.whole among)

    named : (name : BlockName) → is_among (names_of args) name ≡ true → IntegersFit (by_store store) (x name).types (x name).cells
    named (Local d v) among = local_whole (by_store store) slave.structs x d (slice_get (variables_at slave active d) v) (x (Local d v)) (mem.locals d v) (count (Local d v) among)
    named (Global g) among = mem.global_cells g
    named (Received n) among = mem.received_cells n

    back : (name : BlockName) → is_among (names_of args) name ≡ true → IntegersFit (by_store new) (after name).types (after name).cells
    back name among = subst (λ ts. IntegersFit (by_store new) ts (after name).cells) (sym (answer.types name))
        (blocks_left (call_crossing structs sig.params args) new (store ++ first_kept) [] x z after 0 (next_after (length store) (result_places sig sig.result)) (names_of args) name answer.cells parts
        (length-kept (result_places sig sig.result) (option_to_list value) store (result_count sig sig.result value s.result)) served
        (λ n h. integers_more store (first_kept ++ rest_kept (types_in (packed x sig.params args))) (x n).types (x n).cells (named n h)) among)

    block : (name : BlockName) → IntegersFit (by_store store) (x name).types (x name).cells → (t : Bool) → is_among (names_of args) name ≡ t → IntegersFit (by_store new) (after name).types (after name).cells
    block name f true among = back name among
    block name f false among = subst (λ (b : Block). IntegersFit (by_store new) b.types b.cells) (sym (answer.beside name among))
        (integers_more store (first_kept ++ rest_kept (types_in (packed x sig.params args))) (x name).types (x name).cells f)

    local : (d v : ℕ) (t : Bool) → is_among (names_of args) (Local d v) ≡ t → LocalFits (by_store new) slave.structs after d (slice_get (variables_at slave active d) v) (after (Local d v))
    local d v true among = local_back (by_store store) (by_store new) slave.structs x after d (slice_get (variables_at slave active d) v) (x (Local d v)) (after (Local d v)) (answer.types (Local d v)) (count (Local d v) among) (mem.locals d v) (back (Local d v) among)
    local d v false among = subst (λ (b : Block). LocalFits (by_store new) slave.structs after d (slice_get (variables_at slave active d) v) b) (sym (answer.beside (Local d v) among))
        (local_more store (first_kept ++ rest_kept (types_in (packed x sig.params args))) slave.structs x after d (slice_get (variables_at slave active d) v) (x (Local d v)) (λ name. sym (answer.types name)) (mem.locals d v))
