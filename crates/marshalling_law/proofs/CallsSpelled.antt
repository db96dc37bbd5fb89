-- All that a slave says has a spelling.
use Rattle.std.proofs.Common.{◌≡◌, ◌+◌, ◌<◌, ◌≤◌, ◌^◌, ℕ, suc, ℤ, pos, refl, arith, List, [], ◌∷◌, map, length, Bool, true, false, Option, Some, None, if◌then◌else◌}
use Rattle.std.specs.Prelude.{FitsSigned, IsTrue, ◌||◌}
use Rattle.std.specs.Int.{w32, w128}
use Rattle.std.specs.List.{AllByRecursion, list_all, zip}
use Rattle.std.proofs.lemmas.Int.{ints}
use Rattle.pt_base.specs.IntTypes.{InRange}
use Rattle.pt_base.specs.declared.int_type.IntType.{IntType}
use Rattle.pt_base.specs.declared.int_type.IntType.TheVariants as i
use Rattle.pt_base.proofs.Booleans.{both_hold_first, both_hold_second}
use Rattle.pt_int.specs.Conversion.{conv, is_in_range}
use Rattle.pt_int.proofs.Conversions.{conv-in_range}
use Rattle.pt_int.proofs.Ranges.{around_zero}
use Rattle.pt_tree.specs.declared.signature.Param.{Param}
use Rattle.pt_tree.specs.declared.signature.ParamKind.{ParamKind}
use Rattle.pt_tree.specs.declared.signature.ParamKind.TheVariants as kind
use Rattle.typed_tree.specs.declared.types.StructInfo.{StructInfo}
use Rattle.typed_tree.specs.WellFormed.{is_variable_type, structs_sound}
use Rattle.typed_tree.specs.WellFormedExpression.{param_type}
use Rattle.block_memory.specs.declared.cell.BlockName.{BlockName}
use Rattle.block_memory.specs.declared.cell.Cell.{Cell}
use Rattle.block_memory.specs.declared.cell.Cell.TheVariants as cell
use Rattle.block_memory.specs.declared.cell.Pointer.TheVariants.{Null, At}
use Rattle.block_memory.specs.Blocks.{Blocks, is_same_name}
use Rattle.block_memory.proofs.BlocksLemmas.{is_same_name-self}
use Rattle.pt_core.specs.CoreRun.{status_of}
use Rattle.pt_core.specs.Values.{number_in}
use Rattle.core_soundness_law.specs.Kept.{Kept}
use Rattle.core_soundness_law.specs.Fits.{IntegerFits, IntegersFit, ValueFits}
use Rattle.core_soundness_law.specs.Outside.{ArgumentsFit}
use Rattle.core_soundness_law.specs.StepLaws.{called_params}
use Rattle.core_soundness_law.proofs.Programs.{ProgramFacts, facts_of}
use Rattle.core_soundness_law.proofs.Numbers.{range_of}
use Rattle.wire.specs.Laws.{IsShort}
use Rattle.wire.specs.Limits.{FitsArgument, FitsBlock, FitsCall, FitsTypedCell, FitsTypes, KeepsCounts}
use Rattle.wire.specs.declared.cell.Arg.TheVariants as argument
use Rattle.wire.specs.declared.message.Message.{Message}
use Rattle.wire.specs.declared.message.Message.TheVariants as message
use Rattle.wire.proofs.Sizes.{counts_suffice}
use Rattle.wire.proofs.StreamLaws.{one_spelling}
use Rattle.marshalling.specs.Packing.{is_among, names_of, number_of, packed, packed_argument, packed_arguments, packed_block, packed_typed}
use Rattle.marshalling.proofs.CountLemmas.{counts_kept}
use Rattle.marshalling_law.specs.CallsPackable.{IsPackable}
use Rattle.marshalling_law.specs.CallsSending.{AreParameters}
use Rattle.marshalling_law.specs.CallsSpelled.{AreNumbered, CallsAreSpelled, ExitsAreSpelled, HasSpelling, ParksAreSpelled, TrapsAreSpelled}
use Rattle.marshalling_law.proofs.CallsPackable.{AreFew, block_small, called_few, calls_are_packable}
use Rattle.marshalling_law.proofs.CallsTargets.{IsTarget, base_within, block_integers, target_among}

-- ---- numbers

pub in_word : (t : IntType) (v : ℤ) → InRange t v → FitsSigned w128 v
in_word i.Char v p = grind (arith, ints)
in_word i.SChar v p = grind (arith, ints)
in_word i.UChar v p = grind (arith, ints)
in_word i.Short v p = grind (arith, ints)
in_word i.UShort v p = grind (arith, ints)
in_word i.Int v p = grind (arith, ints)
in_word i.UInt v p = grind (arith, ints)
in_word i.Long v p = grind (arith, ints)
in_word i.ULong v p = grind (arith, ints)

a_number : (t : IntType) (v : ℤ) → IsTrue (is_in_range t v) → FitsSigned w128 v
a_number t v h = in_word t v (range_of t v h)

no_number : FitsSigned w128 (pos 0)
no_number = in_word i.Int (pos 0) (around_zero i.Int)

-- ---- arguments

number_value : (kept : Kept) (structs : List StructInfo) (x : Blocks) (depth : ℕ) (of : ParamKind) (v : ℤ) → ValueFits kept structs x depth (param_type of) (cell.Int v) → FitsSigned w128 v
number_value kept structs x depth (kind.Int t) v f = a_number t v f
number_value kept structs x depth (kind.Ptr elem fixed) v f = elim f [ ]

handle_value : (kept : Kept) (structs : List StructInfo) (x : Blocks) (depth : ℕ) (of : ParamKind) (h : ℕ) → AreNumbered kept → ValueFits kept structs x depth (param_type of) (cell.Sealed h) → h < 2 ^ 64
handle_value kept structs x depth (kind.Int t) h numbered f = numbered t h f
handle_value kept structs x depth (kind.Ptr elem fixed) h numbered f = elim f [ ]

-- a pointer's numbers have 32 bits
record IsNarrow (base count index : ℕ) : Type 0 where
  base_is : base < 2 ^ 32
  count_is : count < 2 ^ 32
  index_is : index < 2 ^ 32

pointer_value : (kept : Kept) (structs : List StructInfo) (x : Blocks) (depth : ℕ) (of : ParamKind) (block : BlockName) (base count index : ℕ) → IsTrue (structs_sound structs 0 structs) → IsTrue (is_variable_type (length structs) (param_type of)) →
    length (x block).types ≤ 65_536 → ValueFits kept structs x depth (param_type of) (cell.Ptr (At block base count index)) → IsNarrow base count index
pointer_value kept structs x depth (kind.Int t) block base count index sound ok small f = elim f [ ]
pointer_value kept structs x depth (kind.Ptr elem fixed) block base count index sound ok small f = record {
  base_is = first base (length (x block).types) (base_within structs x depth elem fixed block base count index sound ok f) small;
  count_is = f.few;
  index_is = last index count f.within f.few;
}
  where
    first : (a b : ℕ) → a + 1 ≤ b → b ≤ 65_536 → a < 2 ^ 32
    first a b h k = omega (arith, h, k)

    last : (a b : ℕ) → a ≤ b → b < 2 ^ 32 → a < 2 ^ 32
    last a b h k = omega (arith, h, k)

number_most : (names : List BlockName) (name : BlockName) → number_of names name ≤ length names
number_most [] name = omega arith
number_most (n ∷ names) name = go (is_same_name n name) (number_most names name)
  where
    go : (b : Bool) → number_of names name ≤ length names → (if b then 0 else suc (number_of names name)) ≤ length (n ∷ names)
    go true h = omega arith
    go false h = omega (arith, h)

one_argument : (kept : Kept) (structs : List StructInfo) (x : Blocks) (depth : ℕ) (names : List BlockName) (p : Param) (c : Cell) → AreNumbered kept → IsTrue (structs_sound structs 0 structs) → IsTrue (is_variable_type (length structs) (param_type p.kind)) →
    length names ≤ 8 → ((name : BlockName) → length (x name).types ≤ 65_536) → ValueFits kept structs x depth (param_type p.kind) c → FitsArgument (packed_argument names p c)
one_argument kept structs x depth names p (cell.Int v) numbered sound ok few small f = number_value kept structs x depth p.kind v f
one_argument kept structs x depth names p (cell.Ptr Null) numbered sound ok few small f = tt {0}
one_argument kept structs x depth names p (cell.Ptr (At block base count index)) numbered sound ok few small f =
    let narrow : IsNarrow base count index = pointer_value kept structs x depth p.kind block base count index sound ok (small block) f in
    (byte (number_of names block) (length names) (number_most names block) few, narrow.base_is, narrow.count_is, narrow.index_is)
  where
    byte : (a b : ℕ) → a ≤ b → b ≤ 8 → a < 2 ^ 8
    byte a b h k = omega (arith, h, k)
one_argument kept structs x depth names p (cell.Sealed h) numbered sound ok few small f = go p.marked
  where
    go : (b : Bool) → FitsArgument (if b then argument.Sealed h else argument.Number (pos 0))
    go true = handle_value kept structs x depth p.kind h numbered f
    go false = no_number

all_arguments : (kept : Kept) (structs : List StructInfo) (x : Blocks) (depth : ℕ) (names : List BlockName) (params : List Param) (args : List Cell) → AreNumbered kept → IsTrue (structs_sound structs 0 structs) → AreParameters structs params →
    length names ≤ 8 → ((name : BlockName) → length (x name).types ≤ 65_536) → ArgumentsFit kept structs x depth params args → AllByRecursion FitsArgument (packed_arguments names params args)
all_arguments kept structs x depth names [] [] numbered sound ok few small f = tt
all_arguments kept structs x depth names [] (c ∷ args) numbered sound ok few small f = elim f [ ]
all_arguments kept structs x depth names (p ∷ params) [] numbered sound ok few small f = elim f [ ]
all_arguments kept structs x depth names (p ∷ params) (c ∷ args) numbered sound ok few small f = (
  one_argument kept structs x depth names p c numbered sound (both_hold_first (is_variable_type (length structs) (param_type p.kind)) (list_all (λ (q : Param). is_variable_type (length structs) (param_type q.kind)) params) ok) few small f.0,
  all_arguments kept structs x depth names params args numbered sound (both_hold_second (is_variable_type (length structs) (param_type p.kind)) (list_all (λ (q : Param). is_variable_type (length structs) (param_type q.kind)) params) ok) few small f.1,
)

-- ---- blocks

one_block : (kept : Kept) (types : List IntType) (cells : List Cell) → AreNumbered kept → IntegersFit kept types cells → AllByRecursion FitsTypedCell (map packed_typed (zip types cells))
one_block kept [] [] numbered f = tt
one_block kept [] (c ∷ cells) numbered f = elim f [ ]
one_block kept (t ∷ types) [] numbered f = elim f [ ]
one_block kept (t ∷ types) (c ∷ cells) numbered f = (one t c f.0, one_block kept types cells numbered f.1)
  where
    one : (t : IntType) (c : Cell) → IntegerFits kept t c → FitsTypedCell (packed_typed (t, c))
    one t (cell.Int v) f = a_number t v f
    one t (cell.Ptr p) f = elim f [ ]
    one t (cell.Sealed h) f = numbered t h f

all_blocks : (x : Blocks) (names : List BlockName) → ((name : BlockName) → is_among names name ≡ true → FitsBlock (packed_block (x name))) → AllByRecursion FitsBlock (map (λ name. packed_block (x name)) names)
all_blocks x [] h = tt
all_blocks x (n ∷ names) h = (h n (or_left (is_same_name n n) (is_among names n) (is_same_name-self n)), all_blocks x names (λ name among. h name (or_right (is_same_name n name) (is_among names name) among)))
  where
    or_left : (a b : Bool) → a ≡ true → (a || b) ≡ true
    or_left true b h = refl
    or_left false b h = cc

    or_right : (a b : Bool) → b ≡ true → (a || b) ≡ true
    or_right true b h = refl
    or_right false b h = h

-- ---- messages

pub spelled : (m : Message) → FitsTypes m → KeepsCounts m → IsShort m → HasSpelling m
spelled m fits counts short = (one_spelling m).some fits (counts_suffice m counts short)

pub calls_are_spelled : CallsAreSpelled
calls_are_spelled kept monitor program a rest x turns f depth wants args sound mem received numbered given turns_fit f_fits depth_fits =
    spelled (message.Call turns f depth wants (packed x (called_params monitor program f) args)) (turns_fit, f_fits, depth_fits, call_fits)
    (counts_kept x (called_params monitor program f) args asked.few asked.whole asked.some) (tt {0})
  where
    facts : ProgramFacts monitor program
    facts = facts_of monitor program sound

    asked : IsPackable program.structs (called_params monitor program f) x args
    asked = calls_are_packable kept monitor program a rest x f args sound mem received given

    params : AreFew program.structs (called_params monitor program f)
    params = called_few monitor program facts f

    few_names : length (names_of args) ≤ 8
    few_names = let few = asked.few in let named = asked.named in omega (arith, few, named)

    target : (name : BlockName) → is_among (names_of args) name ≡ true → IsTarget x a.depth name
    target name among = target_among kept program.structs x a.depth name (called_params monitor program f) args facts.structs params.are given among

    call_fits : FitsCall (packed x (called_params monitor program f) args)
    call_fits = record {
      args = all_arguments kept program.structs x a.depth (names_of args) (called_params monitor program f) args numbered facts.structs params.are few_names (block_small kept monitor program facts (a ∷ rest) x mem received) given;
      blocks = all_blocks x (names_of args) (λ name among. one_block kept (x name).types (x name).cells numbered (block_integers kept program (a ∷ rest) x mem name (target name among).some));
    }

pub exits_are_spelled : ExitsAreSpelled
exits_are_spelled turns v h = spelled (message.Exit turns (status_of v)) (h, status v) (tt {0}) (tt {0})
  where
    narrow : (v : ℤ) → InRange i.Int v → FitsSigned w32 v
    narrow v p = grind (arith, ints)

    status : (v : Option Cell) → FitsSigned w32 (status_of v)
    status None = narrow (pos 0) (around_zero i.Int)
    status (Some c) = narrow (conv i.Int (number_in c)) (conv-in_range i.Int (number_in c))

pub traps_are_spelled : TrapsAreSpelled
traps_are_spelled turns kind span h from to = spelled (message.Trap turns kind span) (h, from, to) (tt {0}) (tt {0})

pub parks_are_spelled : ParksAreSpelled
parks_are_spelled turns h = spelled (message.Park turns) h (tt {0}) (tt {0})
