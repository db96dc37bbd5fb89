-- What the policy sees of a call is what the whole's event has of it.
use Rattle.std.proofs.Common.{◌≡◌, refl, List, [], ◌∷◌, map, Bool, true, false}
use Rattle.std.specs.Prelude.{not, if◌then◌else◌, slice_get}
use Rattle.pt_base.proofs.Booleans.{and_true_first, and_true_second}
use Rattle.pt_tree.specs.declared.signature.Param.{Param}
use Rattle.pt_tree.specs.declared.signature.ParamKind.{ParamKind}
use Rattle.pt_tree.specs.declared.signature.ParamKind.TheVariants as kind
use Rattle.pt_tree.specs.PlainNumbers.{is_plain, plain_numbers}
use Rattle.typed_tree.specs.declared.types.StructInfo.{StructInfo}
use Rattle.block_memory.specs.declared.cell.BlockName.{BlockName}
use Rattle.block_memory.specs.declared.cell.Cell.{Cell}
use Rattle.block_memory.specs.declared.cell.Cell.TheVariants as cell
use Rattle.block_memory.specs.Blocks.{Blocks}
use Rattle.pt_core.specs.Values.{number_in}
use Rattle.marshalling.specs.Handles.{Entries}
use Rattle.marshalling.specs.Packing.{packed_argument, packed_arguments}
use Rattle.marshalling.specs.Sendable.{is_kept, sends_all, sends_kind}
use Rattle.part_views_law.specs.Views.{View, seen_cell}
use Rattle.pair_meaning.specs.Rules.{number_in_argument}

-- an argument for a plain integer parameter
one_same : (store : Entries) (structs : List StructInfo) (blocks : Blocks) (names : List BlockName) (v : View) (p : Param) (of : ParamKind) (c : Cell) → sends_kind store structs blocks p.marked of c ≡ true → is_plain of p.marked ≡ true →
    number_in_argument (packed_argument names p c) ≡ number_in (seen_cell v c)
one_same store structs blocks names v p (kind.Int t) (cell.Int n) sends plain = refl
one_same store structs blocks names v p (kind.Int t) (cell.Ptr q) sends plain = cc
one_same store structs blocks names v p (kind.Int t) (cell.Sealed h) sends plain = differ p.marked (and_true_first p.marked (is_kept t (slice_get store h)) sends) plain
  where
    differ : {A : Type 0} (b : Bool) → b ≡ true → not b ≡ true → A
    differ true e f = cc
    differ false e f = cc
one_same store structs blocks names v p (kind.Ptr elem fixed) c sends plain = cc

pub plain_same : (store : Entries) (structs : List StructInfo) (blocks : Blocks) (names : List BlockName) (v : View) (params : List Param) (args : List Cell) → sends_all store structs blocks params args ≡ true →
    plain_numbers params (map number_in_argument (packed_arguments names params args)) ≡ plain_numbers params (map number_in (map (seen_cell v) args))
plain_same store structs blocks names v [] args sends = refl
plain_same store structs blocks names v (p ∷ params) [] sends = refl
plain_same store structs blocks names v (p ∷ params) (c ∷ args) sends =
    go (is_plain p.kind p.marked) refl
    (plain_same store structs blocks names v params args (and_true_second (sends_kind store structs blocks p.marked p.kind c) (sends_all store structs blocks params args) sends))
  where
    go : (b : Bool) → is_plain p.kind p.marked ≡ b → plain_numbers params (map number_in_argument (packed_arguments names params args)) ≡ plain_numbers params (map number_in (map (seen_cell v) args)) →
        (if b then number_in_argument (packed_argument names p c) ∷ plain_numbers params (map number_in_argument (packed_arguments names params args)) else plain_numbers params (map number_in_argument (packed_arguments names params args)))
        ≡ (if b then number_in (seen_cell v c) ∷ plain_numbers params (map number_in (map (seen_cell v) args)) else plain_numbers params (map number_in (map (seen_cell v) args)))
    go true e rest = λ i. one_same store structs blocks names v p p.kind c (and_true_first (sends_kind store structs blocks p.marked p.kind c) (sends_all store structs blocks params args) sends) e i ∷ rest i
    go false e rest = rest
