-- What may be sent is never refused.
use Rattle.std.proofs.Common.{◌≡◌, ◌<◌, ◌+◌, ◌∙◌, add-zero, zero-add, refl, ap, sym, ℕ, ℤ, pos, suc, Bool, true, false, List, [], ◌∷◌, length, map, get_or, arith, if◌then◌else◌, Option, Some, None, Ok, Err}
use Rattle.std.specs.Prelude.{◌&&◌, ◌||◌, nat_le, nat_lt, slice_get, slice_index_or}
use Rattle.std.specs.List.{list_all, list_any}
use Rattle.std.proofs.lemmas.Bool.Decides.{nat_tests}
use Rattle.std.proofs.lemmas.List.{length-map}
use Rattle.std.proofs.lemmas.Bool.{and_from, or_left, or_right}
use Rattle.pt_base.specs.declared.int_type.IntType.{IntType}
use Rattle.pt_base.proofs.Booleans.{and_true_first, and_true_second}
use Rattle.pt_tree.specs.declared.signature.Elem.{Elem}
use Rattle.pt_tree.specs.declared.signature.Param.{Param}
use Rattle.pt_tree.specs.declared.signature.ParamKind.{ParamKind}
use Rattle.pt_tree.specs.declared.signature.ParamKind.TheVariants as kind
use Rattle.typed_tree.specs.declared.types.StructInfo.{StructInfo}
use Rattle.block_memory.specs.declared.cell.BlockName.{BlockName}
use Rattle.block_memory.specs.declared.cell.BlockName.TheVariants.{Local}
use Rattle.block_memory.specs.declared.cell.Cell.{Cell}
use Rattle.block_memory.specs.declared.cell.Cell.TheVariants.{Int, Ptr, Sealed}
use Rattle.block_memory.specs.declared.cell.Pointer.TheVariants.{Null, At}
use Rattle.block_memory.specs.Blocks.{Blocks}
use Rattle.block_memory.proofs.BlocksLemmas.{same_name}
use Rattle.wire.specs.declared.cell.Arg.{Arg}
use Rattle.wire.specs.declared.cell.Arg.TheVariants as argument
use Rattle.wire.specs.declared.cell.WireCell.{WireCell}
use Rattle.wire.specs.declared.cell.WireCell.TheVariants as wire
use Rattle.marshalling.specs.declared.fault.BadCall.{BadCall}
use Rattle.marshalling.specs.declared.fault.BadCall.TheVariants.{Shape, WrongType}
use Rattle.marshalling.specs.declared.inputs.Inputs.{Inputs}
use Rattle.marshalling.specs.declared.leaf.Leaf.{Leaf}
use Rattle.marshalling.specs.Handles.{Entries, argument_fault, arguments_fault, block_fault, blocks_fault, cell_fault, entry_fault, handle_fault, inputs_unless, or_else, unpacked, wire_fault}
use Rattle.marshalling.specs.Laws.{NeverRefused}
use Rattle.marshalling.specs.Leaves.{leaves_of}
use Rattle.marshalling.specs.Packing.{names_of, number_of, packed, packed_argument, packed_arguments, packed_block}
use Rattle.marshalling.specs.Sendable.{holds, holds_wire, is_kept, sends_all, sends_integer, sends_kind, sends_pointer}
use Rattle.marshalling.specs.Shape.{are_named, fit_all, fits_block, fits_integer, fits_kind, fits_pointer, is_number_of, is_shaped, is_typed, points_into}
use Rattle.marshalling.proofs.NameLemmas.{all_targets, block_at, from_distinct, from_new, get_among, has_target, number_at, number_below, points_to}

abbrev Cells : Type 0
Cells = List (IntType × WireCell)

-- ---- arguments fit

-- a handle goes where the parameter is marked
handle_fits : (store : Entries) (marked : Bool) (t : IntType) (handle : ℕ) → sends_integer store marked t (Sealed handle) ≡ true
    → fits_integer marked t (if marked then argument.Sealed handle else argument.Number (pos 0)) ≡ true
handle_fits store true t handle h = refl
handle_fits store false t handle h = cc

pointer_fits : (names : List BlockName) (blocks : Blocks) (marked : Bool) (leaves : List Leaf) (block : BlockName) (base count index : ℕ)
    → has_target names (Ptr (At block base count index)) ≡ true
    → sends_pointer blocks marked leaves (Ptr (At block base count index)) ≡ true
    → fits_pointer (map (λ name. packed_block (blocks name)) names) marked leaves (argument.At (number_of names block) base count index) ≡ true
pointer_fits names blocks marked leaves block base count index among h =
    let counts = and_true_first (nat_le 1 count && nat_le index count) (fits_block marked leaves base count (packed_block (blocks block))) h in
    let range = and_true_second (nat_le 1 count && nat_le index count) (fits_block marked leaves base count (packed_block (blocks block))) h in
    let sent = map (λ name. packed_block (blocks name)) names in
    let below = number_below names block among in
    let many : length sent ≡ length names = length-map names _ in
    let there : nat_lt (number_of names block) (length sent) ≡ true = grind (arith, nat_tests, below, many) in
    let cells : slice_index_or sent (number_of names block) [] ≡ packed_block (blocks block) = block_at
    (λ name. packed_block (blocks name)) names block among in
    and_from (nat_lt (number_of names block) (length sent))
    ((nat_le 1 count && nat_le index count) && fits_block marked leaves base count (slice_index_or sent (number_of names block) [])) there
    (and_from (nat_le 1 count && nat_le index count) (fits_block marked leaves base count (slice_index_or sent (number_of names block) [])) counts
    (ap (fits_block marked leaves base count) cells ∙ range))

one_fits : (store : Entries) (structs : List StructInfo) (blocks : Blocks) (names : List BlockName) (p : Param) (k : ParamKind) (c : Cell)
    → has_target names c ≡ true
    → sends_kind store structs blocks p.marked k c ≡ true
    → fits_kind structs (map (λ name. packed_block (blocks name)) names) p.marked k (packed_argument names p c) ≡ true
one_fits store structs blocks names p (kind.Int t) (Int v) among h = h
one_fits store structs blocks names p (kind.Int t) (Ptr Null) among h = cc
one_fits store structs blocks names p (kind.Int t) (Ptr (At block base count index)) among h = cc
one_fits store structs blocks names p (kind.Int t) (Sealed handle) among h = handle_fits store p.marked t handle h
one_fits store structs blocks names p (kind.Ptr elem fixed) (Int v) among h = cc
one_fits store structs blocks names p (kind.Ptr elem fixed) (Ptr Null) among h = refl
one_fits store structs blocks names p (kind.Ptr elem fixed) (Ptr (At block base count index)) among h =
    pointer_fits names blocks p.marked (leaves_of structs elem) block base count index among h
one_fits store structs blocks names p (kind.Ptr elem fixed) (Sealed handle) among h = cc

all_fit : (store : Entries) (structs : List StructInfo) (blocks : Blocks) (names : List BlockName) (params : List Param) (args : List Cell)
    → list_all (has_target names) args ≡ true
    → sends_all store structs blocks params args ≡ true
    → fit_all structs (map (λ name. packed_block (blocks name)) names) params (packed_arguments names params args) ≡ true
all_fit store structs blocks names [] [] among h = refl
all_fit store structs blocks names [] (c ∷ args) among h = cc
all_fit store structs blocks names (p ∷ params) [] among h = cc
all_fit store structs blocks names (p ∷ params) (c ∷ args) among h =
    let sent = map (λ name. packed_block (blocks name)) names in
    and_from (fits_kind structs sent p.marked p.kind (packed_argument names p c)) (fit_all structs sent params (packed_arguments names params args))
    (one_fits store structs blocks names p p.kind c (and_true_first (has_target names c) (list_all (has_target names) args) among)
    (and_true_first (sends_kind store structs blocks p.marked p.kind c) (sends_all store structs blocks params args) h))
    (all_fit store structs blocks names params args (and_true_second (has_target names c) (list_all (has_target names) args) among)
    (and_true_second (sends_kind store structs blocks p.marked p.kind c) (sends_all store structs blocks params args) h))

-- ---- blocks are named

into_here : (names : List BlockName) (p : Param) (c : Cell) (x : BlockName) (k : ℕ) → number_of names x ≡ k → points_to x c ≡ true
    → points_into k (packed_argument names p c) ≡ true
into_here names p (Int v) x k at h = cc
into_here names p (Ptr Null) x k at h = cc
into_here names p (Ptr (At block base count index)) x k at h =
    let same : number_of names block ≡ k = ap (number_of names) (same_name block x h) ∙ at in
    grind (arith, nat_tests, same)
into_here names p (Sealed handle) x k at h = cc

-- one of two holds here, where the first leads to the first and the second to the second
or_maps : (a b c d : Bool) → (a ≡ true → c ≡ true) → (b ≡ true → d ≡ true) → (a || b) ≡ true → (c || d) ≡ true
or_maps true b c d f g h = or_left c d (f refl)
or_maps false b c d f g h = or_right c d (g h)

any_into : (store : Entries) (structs : List StructInfo) (blocks : Blocks) (names : List BlockName) (params : List Param) (args : List Cell)
    (x : BlockName) (k : ℕ) → number_of names x ≡ k
    → sends_all store structs blocks params args ≡ true → list_any (points_to x) args ≡ true
    → list_any (points_into k) (packed_arguments names params args) ≡ true
any_into store structs blocks names params [] x k at h g = cc
any_into store structs blocks names [] (c ∷ args) x k at h g = cc
any_into store structs blocks names (p ∷ params) (c ∷ args) x k at h g =
    let rest = and_true_second (sends_kind store structs blocks p.marked p.kind c) (sends_all store structs blocks params args) h in
    or_maps (points_to x c) (list_any (points_to x) args) (points_into k (packed_argument names p c))
    (list_any (points_into k) (packed_arguments names params args))
    (into_here names p c x k at) (any_into store structs blocks names params args x k at rest) g

-- an argument points into each block
each_named : (sent : List Arg) (blocks : Blocks) (names : List BlockName) (k : ℕ)
    → ((j : ℕ) → j < length names → list_any (points_into (j + k)) sent ≡ true)
    → are_named sent k (map (λ name. packed_block (blocks name)) names) ≡ true
each_named sent blocks [] k h = refl
each_named sent blocks (n ∷ names) k h =
    let here : list_any (points_into k) sent ≡ true = rw (← zero-add k) (h 0 (omega arith)) in
    and_from (list_any (points_into k) sent) (are_named sent (suc k) (map (λ name. packed_block (blocks name)) names)) here
    (each_named sent blocks names (suc k) (λ j lt. let same : suc j + k ≡ j + suc k = omega arith in rw (← same) (h (suc j) (omega arith))))

no_name : BlockName
no_name = Local 0 0

all_named : (store : Entries) (structs : List StructInfo) (blocks : Blocks) (params : List Param) (args : List Cell)
    → sends_all store structs blocks params args ≡ true
    → are_named (packed_arguments (names_of args) params args) 0 (map (λ name. packed_block (blocks name)) (names_of args)) ≡ true
all_named store structs blocks params args h =
    each_named (packed_arguments (names_of args) params args) blocks (names_of args) 0 (λ j lt.
    let x = get_or (names_of args) j no_name in
    let at : number_of (names_of args) x ≡ j + 0 = number_at (names_of args) j no_name (from_distinct [] args refl) lt ∙ sym (add-zero j) in
    any_into store structs blocks (names_of args) params args x (j + 0) at h (from_new [] args x (get_among (names_of args) j no_name lt)))

-- ---- numbers are of their types

wire_typed : (store : Entries) (t : IntType) (w : WireCell) → holds_wire store t w ≡ true → is_number_of t w ≡ true
wire_typed store t (wire.Number v) h = h
wire_typed store t (wire.Sealed handle) h = refl

cells_typed : (store : Entries) (cells : Cells) → list_all (holds store) cells ≡ true → list_all is_typed cells ≡ true
cells_typed store [] h = refl
cells_typed store (c ∷ cells) h =
    and_from (is_typed c) (list_all is_typed cells) (wire_typed store c.0 c.1 (and_true_first (holds store c) (list_all (holds store) cells) h))
    (cells_typed store cells (and_true_second (holds store c) (list_all (holds store) cells) h))

blocks_typed : (store : Entries) (blocks : Blocks) (names : List BlockName)
    → list_all (λ name. list_all (holds store) (packed_block (blocks name))) names ≡ true
    → list_all (list_all is_typed) (map (λ name. packed_block (blocks name)) names) ≡ true
blocks_typed store blocks [] h = refl
blocks_typed store blocks (n ∷ names) h =
    let here = and_true_first (list_all (holds store) (packed_block (blocks n)))
    (list_all (λ name. list_all (holds store) (packed_block (blocks name))) names) h in
    let rest = and_true_second (list_all (holds store) (packed_block (blocks n)))
    (list_all (λ name. list_all (holds store) (packed_block (blocks name))) names) h in
    and_from (list_all is_typed (packed_block (blocks n))) (list_all (list_all is_typed) (map (λ name. packed_block (blocks name)) names))
    (cells_typed store (packed_block (blocks n)) here)
    (blocks_typed store blocks names rest)

-- ---- no handle is faulty

kept_sound : (t : IntType) (handle : ℕ) (o : Option (IntType × ℤ)) → is_kept t o ≡ true → entry_fault t handle o ≡ None
kept_sound t handle None h = cc
kept_sound t handle (Some entry) h = ap (λ b. if b then None else Some (WrongType handle)) h

wire_sound : (store : Entries) (t : IntType) (w : WireCell) → holds_wire store t w ≡ true → wire_fault store t w ≡ None
wire_sound store t (wire.Number v) h = refl
wire_sound store t (wire.Sealed handle) h = kept_sound t handle (slice_get store handle) h

neither_fault : (a b : Option BadCall) → a ≡ None → b ≡ None → or_else a b ≡ None
neither_fault a b h k = ap (λ x. or_else x b) h ∙ k

cells_sound : (store : Entries) (cells : Cells) → list_all (holds store) cells ≡ true → block_fault store cells ≡ None
cells_sound store [] h = refl
cells_sound store (c ∷ cells) h =
    neither_fault (cell_fault store c) (block_fault store cells) (wire_sound store c.0 c.1 (and_true_first (holds store c) (list_all (holds store) cells) h))
    (cells_sound store cells (and_true_second (holds store c) (list_all (holds store) cells) h))

blocks_sound : (store : Entries) (blocks : Blocks) (names : List BlockName)
    → list_all (λ name. list_all (holds store) (packed_block (blocks name))) names ≡ true
    → blocks_fault store (map (λ name. packed_block (blocks name)) names) ≡ None
blocks_sound store blocks [] h = refl
blocks_sound store blocks (n ∷ names) h =
    let here = and_true_first (list_all (holds store) (packed_block (blocks n)))
    (list_all (λ name. list_all (holds store) (packed_block (blocks name))) names) h in
    let rest = and_true_second (list_all (holds store) (packed_block (blocks n)))
    (list_all (λ name. list_all (holds store) (packed_block (blocks name))) names) h in
    neither_fault (block_fault store (packed_block (blocks n))) (blocks_fault store (map (λ name. packed_block (blocks name)) names))
    (cells_sound store (packed_block (blocks n)) here)
    (blocks_sound store blocks names rest)

handle_sound : (store : Entries) (marked : Bool) (t : IntType) (handle : ℕ) → sends_integer store marked t (Sealed handle) ≡ true
    → argument_fault store (kind.Int t) (if marked then argument.Sealed handle else argument.Number (pos 0)) ≡ None
handle_sound store true t handle h = kept_sound t handle (slice_get store handle) h
handle_sound store false t handle h = cc

one_sound : (store : Entries) (structs : List StructInfo) (blocks : Blocks) (names : List BlockName) (p : Param) (k : ParamKind) (c : Cell)
    → sends_kind store structs blocks p.marked k c ≡ true
    → argument_fault store k (packed_argument names p c) ≡ None
one_sound store structs blocks names p (kind.Int t) (Int v) h = refl
one_sound store structs blocks names p (kind.Int t) (Ptr Null) h = cc
one_sound store structs blocks names p (kind.Int t) (Ptr (At block base count index)) h = cc
one_sound store structs blocks names p (kind.Int t) (Sealed handle) h = handle_sound store p.marked t handle h
one_sound store structs blocks names p (kind.Ptr elem fixed) c h = pointer_sound elem fixed (packed_argument names p c)
  where
    pointer_sound : (elem : Elem) (fixed : Bool) (a : Arg) → argument_fault store (kind.Ptr elem fixed) a ≡ None
    pointer_sound elem fixed a = refl

arguments_sound : (store : Entries) (structs : List StructInfo) (blocks : Blocks) (names : List BlockName) (params : List Param)
    (args : List Cell) → sends_all store structs blocks params args ≡ true
    → arguments_fault store params (packed_arguments names params args) ≡ None
arguments_sound store structs blocks names [] args h = refl
arguments_sound store structs blocks names (p ∷ params) [] h = cc
arguments_sound store structs blocks names (p ∷ params) (c ∷ args) h =
    neither_fault (argument_fault store p.kind (packed_argument names p c)) (arguments_fault store params (packed_arguments names params args))
    (one_sound store structs blocks names p p.kind c
    (and_true_first (sends_kind store structs blocks p.marked p.kind c) (sends_all store structs blocks params args) h))
    (arguments_sound store structs blocks names params args
    (and_true_second (sends_kind store structs blocks p.marked p.kind c) (sends_all store structs blocks params args) h))

-- ---- the law

pub served : (shaped : Bool) (fault : Option BadCall) (inputs : Inputs) → shaped ≡ true → fault ≡ None
    → (if shaped then inputs_unless fault inputs else Err Shape) ≡ Ok inputs
served shaped fault inputs h k = ap (λ b. if b then inputs_unless fault inputs else Err Shape) h ∙ ap (λ f. inputs_unless f inputs) k

pub never_refused : NeverRefused
never_refused store structs params blocks args h =
    let names = names_of args in
    let sent = packed_arguments names params args in
    let cells = map (λ name. packed_block (blocks name)) names in
    let all = and_true_first (sends_all store structs blocks params args) (list_all (λ name. list_all (holds store) (packed_block (blocks name))) names) h in
    let held = and_true_second (sends_all store structs blocks params args) (list_all (λ name. list_all (holds store) (packed_block (blocks name))) names) h in
    let shaped : is_shaped structs params (packed blocks params args) ≡ true =
    and_from (fit_all structs cells params sent) (are_named sent 0 cells && list_all (list_all is_typed) cells)
    (all_fit store structs blocks names params args (all_targets [] args) all)
    (and_from (are_named sent 0 cells) (list_all (list_all is_typed) cells) (all_named store structs blocks params args all)
    (blocks_typed store blocks names held)) in
    let sound : handle_fault store params (packed blocks params args) ≡ None =
    neither_fault (arguments_fault store params sent) (blocks_fault store cells) (arguments_sound store structs blocks names params args all)
    (blocks_sound store blocks names held) in
    served (is_shaped structs params (packed blocks params args)) (handle_fault store params (packed blocks params args))
    (unpacked store (packed blocks params args)) shaped sound
