-- An honest call returns, and leaves what its callee would have left in the caller's own memory.
use Rattle.std.proofs.Common.{◌≡◌, ◌+◌, ◌∙◌, zero-add, append_assoc, sym, ap, refl, ℕ, ℤ, pos, suc, Bool, true, false, List, [], ◌∷◌, ◌++◌, length, map, arith, subst, Option, Some, None, Ok, if◌then◌else◌}
use Rattle.std.specs.Prelude.{not, option_to_list, slice_get}
use Rattle.std.specs.List.{list_all, zip}
use Rattle.std.specs.Option.{option_map}
use Rattle.std.proofs.lemmas.List.{append-nil, length-map}
use Rattle.std.proofs.lemmas.Bool.{and_from}
use Rattle.pt_base.specs.declared.int_type.IntType.{IntType}
use Rattle.pt_base.proofs.Booleans.{and_true_first, and_true_second}
use Rattle.pt_tree.specs.declared.signature.Param.{Param}
use Rattle.pt_tree.specs.declared.signature.ParamKind.{ParamKind}
use Rattle.pt_tree.specs.declared.signature.ParamKind.TheVariants as kind
use Rattle.pt_tree.specs.declared.signature.Signature.{Signature}
use Rattle.typed_tree.specs.declared.types.StructInfo.{StructInfo}
use Rattle.block_memory.specs.declared.cell.BlockName.{BlockName}
use Rattle.block_memory.specs.declared.cell.BlockName.TheVariants.{Received}
use Rattle.block_memory.specs.declared.cell.Cell.{Cell}
use Rattle.block_memory.specs.declared.cell.Cell.TheVariants as cell
use Rattle.block_memory.specs.declared.cell.Pointer.TheVariants.{Null, At}
use Rattle.block_memory.specs.Block.{Block}
use Rattle.block_memory.specs.Blocks.{Blocks}
use Rattle.wire.specs.declared.cell.Arg.TheVariants as argument
use Rattle.wire.specs.declared.message.ReplyBody.{ReplyBody}
use Rattle.marshalling.specs.declared.crossing.Crossing.{Crossing}
use Rattle.marshalling.specs.declared.crossing.Crossing.TheVariants.{Stays, Plain, Sealed}
use Rattle.marshalling.specs.declared.inputs.Inputs.{Inputs}
use Rattle.marshalling.specs.Crossings.{sealed_if}
use Rattle.marshalling.specs.Handles.{Entries, stored, unpacked_argument, unpacked_cell, unpacking}
use Rattle.marshalling.specs.HonestCalls.{AreKnown, AreLeft, CallsAreTransparent, HonestCallsReturn, IsSameWork, IsServed, for_callee, is_integer, is_known, renamed, returned, revealed, revealed_block, revealed_blocks}
use Rattle.marshalling.specs.Packing.{is_among, names_of, number_of, packed, packed_argument, packed_arguments, packed_block, packed_typed}
use Rattle.marshalling.specs.Replies.{AreServed, HoldNumbers, HoldsNumber, IsResult, kept, kept_by, next_after, number_in, places_of, received, reply_of, result_places, sent, sent_by, types_in}
use Rattle.marshalling.specs.Sendable.{holds, is_sendable, sends_all, sends_kind}
use Rattle.marshalling.specs.Taking.{Part, after_reply, are_whole, call_crossing, is_reply, is_whole, result_by, taken_blocks, taken_result}
use Rattle.marshalling_law.proofs.BlockTakingLemmas.{TookAll, blocks_took, types_by}
use Rattle.marshalling_law.proofs.FittingLemmas.{cells_fit, result_fits}
use Rattle.marshalling.proofs.NameLemmas.{block_at, from_distinct}
use Rattle.marshalling_law.proofs.PostingLemmas.{packed_types, places_served}
use Rattle.marshalling.proofs.ReplyLemmas.{holds_length, length-kept, result_count}
use Rattle.marshalling_law.proofs.RevealLemmas.{Shown, blocks_shown, cell_shown, chosen, ints_of, known_more, merged, reveal_more}
use Rattle.marshalling_law.proofs.SendableLemmas.{never_refused}
use Rattle.marshalling.proofs.TakingLemmas.{whole_count}

-- ---- what the callee gets

abbrev inputs_of : List Cell → List (List Cell) → Inputs
inputs_of args blocks = record { args = args; blocks = blocks }

argument_opened : (store : Entries) (structs : List StructInfo) (blocks : Blocks) (names : List BlockName) (p : Param) (k : ParamKind) (c : Cell)
    → sends_kind store structs blocks p.marked k c ≡ true
    → unpacked_argument store (packed_argument names p c) ≡ renamed names (revealed store c)
argument_opened store structs blocks names p (kind.Int t) (cell.Int v) h = refl
argument_opened store structs blocks names p (kind.Int t) (cell.Ptr Null) h = cc
argument_opened store structs blocks names p (kind.Int t) (cell.Ptr (At block base count index)) h = cc
argument_opened store structs blocks names p (kind.Int t) (cell.Sealed handle) h = go p.marked h
  where
    go : (marked : Bool) → sends_kind store structs blocks marked (kind.Int t) (cell.Sealed handle) ≡ true
        → unpacked_argument store (if marked then argument.Sealed handle else argument.Number (pos 0)) ≡ cell.Int (stored store handle)
    go true h = refl
    go false h = cc
argument_opened store structs blocks names p (kind.Ptr elem fixed) (cell.Int v) h = cc
argument_opened store structs blocks names p (kind.Ptr elem fixed) (cell.Ptr Null) h = refl
argument_opened store structs blocks names p (kind.Ptr elem fixed) (cell.Ptr (At block base count index)) h = refl
argument_opened store structs blocks names p (kind.Ptr elem fixed) (cell.Sealed handle) h = cc

arguments_opened : (store : Entries) (structs : List StructInfo) (blocks : Blocks) (names : List BlockName) (params : List Param) (args : List Cell)
    → sends_all store structs blocks params args ≡ true
    → map (unpacked_argument store) (packed_arguments names params args) ≡ map (renamed names) (map (revealed store) args)
arguments_opened store structs blocks names [] [] h = refl
arguments_opened store structs blocks names [] (c ∷ args) h = cc
arguments_opened store structs blocks names (p ∷ params) [] h = cc
arguments_opened store structs blocks names (p ∷ params) (c ∷ args) h =
    let here = and_true_first (sends_kind store structs blocks p.marked p.kind c) (sends_all store structs blocks params args) h in
    let rest = and_true_second (sends_kind store structs blocks p.marked p.kind c) (sends_all store structs blocks params args) h in
    ap (λ x. x ∷ map (unpacked_argument store) (packed_arguments names params args))
    (argument_opened store structs blocks names p p.kind c here)
    ∙ ap (λ xs. renamed names (revealed store c) ∷ xs) (arguments_opened store structs blocks names params args rest)

cell_opened : (store : Entries) (t : IntType) (c : Cell) → is_integer c ≡ true → unpacked_cell store (packed_typed (t, c)) ≡ revealed store c
cell_opened store t (cell.Int v) h = refl
cell_opened store t (cell.Ptr p) h = cc
cell_opened store t (cell.Sealed handle) h = refl

cells_opened : (store : Entries) (types : List IntType) (cells : List Cell) → length types ≡ length cells → list_all is_integer cells ≡ true
    → map (unpacked_cell store) (map packed_typed (zip types cells)) ≡ map (revealed store) cells
cells_opened store [] [] same h = refl
cells_opened store [] (c ∷ cells) same h = absurd (omega arith)
cells_opened store (t ∷ types) [] same h = absurd (omega arith)
cells_opened store (t ∷ types) (c ∷ cells) same h =
    ap (λ x. x ∷ map (unpacked_cell store) (map packed_typed (zip types cells)))
    (cell_opened store t c (and_true_first (is_integer c) (list_all is_integer cells) h))
    ∙ ap (λ xs. revealed store c ∷ xs) (cells_opened store types cells (omega arith) (and_true_second (is_integer c) (list_all is_integer cells) h))

blocks_opened : (store : Entries) (blocks : Blocks) (names : List BlockName) → list_all (λ name. is_whole (blocks name)) names ≡ true
    → list_all (λ name. list_all is_integer (blocks name).cells) names ≡ true
    → map (map (unpacked_cell store)) (map (λ name. packed_block (blocks name)) names) ≡ map (λ name. map (revealed store) (blocks name).cells) names
blocks_opened store blocks [] whole h = refl
blocks_opened store blocks (n ∷ names) whole h =
    let count = whole_count (blocks n) (and_true_first (is_whole (blocks n)) (list_all (λ name. is_whole (blocks name)) names) whole) in
    let all = and_true_second (is_whole (blocks n)) (list_all (λ name. is_whole (blocks name)) names) whole in
    let here = and_true_first (list_all is_integer (blocks n).cells) (list_all (λ name. list_all is_integer (blocks name).cells) names) h in
    let rest = and_true_second (list_all is_integer (blocks n).cells) (list_all (λ name. list_all is_integer (blocks name).cells) names) h in
    ap (λ x. x ∷ map (map (unpacked_cell store)) (map (λ name. packed_block (blocks name)) names))
    (cells_opened store (blocks n).types (blocks n).cells count here)
    ∙ ap (λ xs. map (revealed store) (blocks n).cells ∷ xs) (blocks_opened store blocks names all rest)

pub call_opened : (store : Entries) (structs : List StructInfo) (params : List Param) (blocks : Blocks) (args : List Cell)
    → is_sendable store structs params blocks args ≡ true → are_whole blocks args ≡ true
    → list_all (λ name. list_all is_integer (blocks name).cells) (names_of args) ≡ true
    → unpacking store structs params (packed blocks params args) ≡ Ok (for_callee store blocks args)
call_opened store structs params blocks args sendable whole integers =
    let names = names_of args in
    let sends = and_true_first (sends_all store structs blocks params args)
    (list_all (λ name. list_all (holds store) (packed_block (blocks name))) names) sendable in
    never_refused store structs params blocks args sendable
    ∙ ap (λ xs. Ok (inputs_of xs (map (map (unpacked_cell store)) (map (λ name. packed_block (blocks name)) names))))
    (arguments_opened store structs blocks names params args sends)
    ∙ ap (λ xs. Ok (inputs_of (map (renamed names) (map (revealed store) args)) xs)) (blocks_opened store blocks names whole integers)

-- ---- the result

result_shown : (sig : Signature) (t : Option IntType) (value : Option ℤ) (store more : Entries) → IsResult t value
    → option_map (revealed (store ++ (kept (result_places sig t) (option_to_list value) ++ more)))
    (taken_result (result_places sig t) (length store) (slice_get (sent (length store) (result_places sig t) (option_to_list value)) 0))
    ≡ option_map cell.Int value
result_shown sig None None store more h = refl
result_shown sig None (Some v) store more h = absurd h
result_shown sig (Some t) None store more h = absurd h
result_shown sig (Some t) (Some v) store more h = go (not sig.declassify)
  where
    go : (secret : Bool)
        → option_map (revealed (store ++ ((kept_by (sealed_if secret) t v ++ []) ++ more)))
        (result_by (sealed_if secret) (length store) (slice_get (sent_by (sealed_if secret) (length store) v ++ []) 0))
        ≡ Some (cell.Int v)
    go true = ap Some (cell_shown Sealed (store ++ ((kept_by Sealed t v ++ []) ++ more)) store [] more (length store) (cell.Int v) v t refl refl)
    go false = refl

-- ---- the reply, and what it leaves

abbrev reply_by : Entries → List StructInfo → Signature → List Cell → Blocks → Option ℤ → List (List IntType) → ReplyBody
reply_by store structs sig args served value types =
    reply_of (length store) (result_places sig sig.result) (option_to_list value) (places_of (call_crossing structs sig.params args) 0 types)
    (received served 0 types)

abbrev kept_of : List StructInfo → Signature → List Cell → Blocks → Option ℤ → List (List IntType) → Entries
kept_of structs sig args served value types =
    kept (result_places sig sig.result) (option_to_list value) ++ kept (places_of (call_crossing structs sig.params args) 0 types) (received served 0 types)

-- what holds of the reply by these types
record Told (store : Entries) (structs : List StructInfo) (sig : Signature) (blocks : Blocks) (args : List Cell) (served : Blocks)
    (value : Option ℤ) (types : List (List IntType)) : Type 0 where
  fits : is_reply (length store) blocks structs sig args (reply_by store structs sig args served value types) ≡ true
  next : (after_reply (length store) blocks structs sig args (reply_by store structs sig args served value types)).next
      ≡ length (store ++ kept_of structs sig args served value types)
  result : option_map (revealed (store ++ kept_of structs sig args served value types))
      (after_reply (length store) blocks structs sig args (reply_by store structs sig args served value types)).result ≡ option_map cell.Int value
  cells : AreLeft (call_crossing structs sig.params args) 0 (names_of args) (next_after (length store) (result_places sig sig.result)) blocks served
      (after_reply (length store) blocks structs sig args (reply_by store structs sig args served value types)).blocks
  types_are : (name : BlockName)
      → ((after_reply (length store) blocks structs sig args (reply_by store structs sig args served value types)).blocks name).types
      ≡ (blocks name).types
  beside : (name : BlockName) → is_among (names_of args) name ≡ false
      → (after_reply (length store) blocks structs sig args (reply_by store structs sig args served value types)).blocks name ≡ blocks name
  shown : (name : BlockName) → is_among (names_of args) name ≡ true
      → Shown (call_crossing structs sig.params args) (store ++ kept_of structs sig args served value types) blocks served
      (after_reply (length store) blocks structs sig args (reply_by store structs sig args served value types)).blocks name
      (number_of (names_of args) name)

told : (store : Entries) (structs : List StructInfo) (sig : Signature) (blocks : Blocks) (args : List Cell) (served : Blocks) (value : Option ℤ)
    → are_whole blocks args ≡ true → AreKnown store blocks → AreServed served 0 (types_by blocks (names_of args)) → IsResult sig.result value
    → Told store structs sig blocks args served value (types_by blocks (names_of args))
told store structs sig blocks args served value whole known serves right =
    let names = names_of args in
    let types = types_by blocks names in
    let crossing = call_crossing structs sig.params args in
    let results = result_places sig sig.result in
    let vs = option_to_list value in
    let places = places_of crossing 0 types in
    let numbers = received served 0 types in
    let behind = next_after (length store) results in
    let cells = sent behind places numbers in
    let first_kept = kept results vs in
    let rest_kept = kept places numbers in
    let start : Part = record { sent = cells; next = behind; blocks = blocks } in
    let took : TookAll crossing served 0 names [] start (taken_blocks crossing 0 names start) =
    blocks_took crossing served 0 names [] start (from_distinct [] args refl) whole serves (sym (append-nil cells)) in
    let first_long : length (store ++ first_kept) ≡ behind = length-kept results vs store (result_count sig sig.result value right) in
    let many : length places ≡ length numbers = places_served crossing served 0 types serves in
    let all_long : length (store ++ (first_kept ++ rest_kept)) ≡ next_after behind places =
    ap length (sym (append_assoc store first_kept rest_kept)) ∙ length-kept places numbers (store ++ first_kept) many
    ∙ ap (λ n. next_after n places) first_long in
    let split : store ++ (first_kept ++ rest_kept) ≡ (store ++ first_kept) ++ (rest_kept ++ []) =
    sym (append_assoc store first_kept rest_kept) ∙ ap (λ xs. (store ++ first_kept) ++ xs) (sym (append-nil rest_kept)) in
    record {
      fits = and_from _ _ (result_fits sig sig.result value (length store) right) (cells_fit crossing served behind types serves);
      next = took.handle ∙ sym all_long;
      result = result_shown sig sig.result value store rest_kept right;
      cells = took.cells;
      types_are = took.types;
      beside = took.beside;
      shown = λ name among.
          subst (Shown crossing (store ++ (first_kept ++ rest_kept)) blocks served (taken_blocks crossing 0 names start).blocks name)
          (zero-add (number_of names name))
          (blocks_shown crossing (store ++ (first_kept ++ rest_kept)) (store ++ first_kept) [] blocks served
          (taken_blocks crossing 0 names start).blocks 0 behind names name took.cells split first_long whole serves
          (λ n. known_more store (first_kept ++ rest_kept) (blocks n).cells (known n)) among);
    }

-- the same by the types of the body
told_served : (store : Entries) (structs : List StructInfo) (sig : Signature) (blocks : Blocks) (args : List Cell) (served : Blocks) (value : Option ℤ)
    → IsServed store structs sig blocks args served value
    → Told store structs sig blocks args served value (types_in (packed blocks sig.params args))
told_served store structs sig blocks args served value s =
    let same : types_in (packed blocks sig.params args) ≡ types_by blocks (names_of args) = packed_types blocks (names_of args) s.whole in
    subst (Told store structs sig blocks args served value) (sym same)
    (told store structs sig blocks args served value s.whole s.known (subst (AreServed served 0) same s.numbers) s.result)

known_after : (store more : Entries) (blocks after : Blocks) (names : List BlockName) → AreKnown store blocks
    → ((name : BlockName) → is_among names name ≡ false → after name ≡ blocks name)
    → ((name : BlockName) → is_among names name ≡ true → list_all (is_known (store ++ more)) (after name).cells ≡ true)
    → AreKnown (store ++ more) after
known_after store more blocks after names known beside among = λ name. go name (is_among names name) refl
  where
    go : (name : BlockName) (b : Bool) → is_among names name ≡ b → list_all (is_known (store ++ more)) (after name).cells ≡ true
    go name true e = among name e
    go name false e = ap (λ (b : Block). list_all (is_known (store ++ more)) b.cells) (beside name e) ∙ known_more store more (blocks name).cells
        (known name)

pub honest_calls_return : HonestCallsReturn
honest_calls_return store structs sig blocks args served value s =
    let t = told_served store structs sig blocks args served value s in
    record {
      opened = call_opened store structs sig.params blocks args s.sendable s.whole s.integers;
      numbered = λ name among. block_at (λ n. (revealed_block store (blocks n)).cells) (names_of args) name among;
      fits = t.fits;
      next = t.next;
      result = t.result;
      cells = t.cells;
      types = t.types_are;
      beside = t.beside;
      known = known_after store (kept_of structs sig args served value (types_in (packed blocks sig.params args))) blocks
          (returned store structs sig blocks args served value).blocks (names_of args) s.known t.beside (λ name among. (t.shown name among).known);
    }

-- ---- the call made in the caller's own memory

-- numbers in cells are the cells
numbers_back : (types : List IntType) (cells : List Cell) → HoldNumbers types cells → ints_of (map number_in cells) ≡ cells
numbers_back [] [] h = refl
numbers_back [] (c ∷ cells) h = absurd h
numbers_back (t ∷ types) [] h = absurd h
numbers_back (t ∷ types) (c ∷ cells) h =
    ap (λ x. x ∷ ints_of (map number_in cells)) (one t c h.0) ∙ ap (λ xs. c ∷ xs) (numbers_back types cells h.1)
  where
    one : (t : IntType) (c : Cell) → HoldsNumber t c → cell.Int (number_in c) ≡ c
    one t (cell.Int v) h = refl
    one t (cell.Ptr p) h = absurd h
    one t (cell.Sealed handle) h = absurd h

-- where all else is equal, what comes back is all
merged_is : (way : ℕ → Crossing) (i : ℕ) (xs ys : List Cell) → length xs ≡ length ys
    → ((j m : ℕ) → m ≡ i + j → way m ≡ Stays → slice_get ys j ≡ slice_get xs j) → merged way i xs ys ≡ ys
merged_is way i [] [] same h = refl
merged_is way i [] (y ∷ ys) same h = absurd (omega arith)
merged_is way i (x ∷ xs) [] same h = absurd (omega arith)
merged_is way i (x ∷ xs) (y ∷ ys) same h =
    ap (λ z. z ∷ merged way (suc i) xs ys) (one (way i) x y (λ s. h 0 i (omega arith) s))
    ∙ ap (λ zs. y ∷ zs) (merged_is way (suc i) xs ys (omega arith) (λ j m at s. h (suc j) m (omega (arith, at)) s))
  where
    one : (w : Crossing) (x y : Cell) → (w ≡ Stays → Some y ≡ Some x) → chosen w x y ≡ y
    one Stays x y h = let same = h refl in cc
    one Plain x y h = refl
    one Sealed x y h = refl

pub block_same : (a b : Block) → a.types ≡ b.types → a.cells ≡ b.cells → a ≡ b
block_same a b p q = λ i. record { types = p i; cells = q i }

-- a block that was sent
sent_back : (crossing : ℕ → ℕ → Crossing) (store more : Entries) (names : List BlockName) (blocks served after ends : Blocks) (name : BlockName)
    → AreKnown store blocks → Shown crossing (store ++ more) blocks served after name (number_of names name)
    → IsSameWork crossing names (revealed_blocks store blocks) served ends → is_among names name ≡ true
    → map (revealed (store ++ more)) (after name).cells ≡ (ends name).cells
sent_back crossing store more names blocks served after ends name known shown work among =
    let m = number_of names name in
    let start = map (revealed store) (blocks name).cells in
    let numbers = (served (Received m)).cells in
    let long : length start ≡ length (ends name).cells =
    length-map (blocks name).cells (revealed store) ∙ sym shown.whole ∙ holds_length (blocks name).types numbers shown.numbers
    ∙ ap length (work.same name among) in
    shown.reveals
    ∙ ap (λ xs. merged (crossing m) 0 xs (ints_of (map number_in numbers))) (reveal_more store more (blocks name).cells (known name))
    ∙ ap (merged (crossing m) 0 start) (numbers_back (blocks name).types numbers shown.numbers ∙ work.same name among)
    ∙ merged_is (crossing m) 0 start (ends name).cells long
    (λ j n at s. let same : n ≡ j = omega (arith, at) in work.stays name j among (ap (crossing m) (sym same) ∙ s))

whole_memory : (crossing : ℕ → ℕ → Crossing) (store more : Entries) (names : List BlockName) (blocks served after ends : Blocks)
    → AreKnown store blocks → ((name : BlockName) → (after name).types ≡ (blocks name).types)
    → ((name : BlockName) → is_among names name ≡ false → after name ≡ blocks name)
    → ((name : BlockName) → is_among names name ≡ true → Shown crossing (store ++ more) blocks served after name (number_of names name))
    → IsSameWork crossing names (revealed_blocks store blocks) served ends
    → revealed_blocks (store ++ more) after ≡ ends
whole_memory crossing store more names blocks served after ends known types beside shown work =
    λ i name. block_same (revealed_block (store ++ more) (after name)) (ends name) (types name ∙ sym (work.types name))
    (go name (is_among names name) refl) i
  where
    go : (name : BlockName) (b : Bool) → is_among names name ≡ b → map (revealed (store ++ more)) (after name).cells ≡ (ends name).cells
    go name true e = sent_back crossing store more names blocks served after ends name known (shown name e) work e
    go name false e =
        ap (λ (b : Block). map (revealed (store ++ more)) b.cells) (beside name e) ∙ reveal_more store more (blocks name).cells (known name)
        ∙ sym (work.beside name e)

pub calls_are_transparent : CallsAreTransparent
calls_are_transparent store structs sig blocks args served ends value s work =
    let t = told_served store structs sig blocks args served value s in
    let names = names_of args in
    let crossing = call_crossing structs sig.params args in
    let more = kept_of structs sig args served value (types_in (packed blocks sig.params args)) in
    let after : Blocks = (returned store structs sig blocks args served value).blocks in
    whole_memory crossing store more names blocks served after ends s.known t.types_are t.beside t.shown work
