-- What is said of an entry: what crosses at each of its parameters, and what it gives. How cells and results cross
-- is said in crates/marshalling/specs.
use Rattle.std.specs.Prelude.{ℕ, List, [], ◌∷◌, ◌++◌, Bool, Option, None, Some, codes, if◌then◌else◌}
use Rattle.std.specs.List.{flat_map, list_any}
use Rattle.pt_base.specs.declared.int_type.IntType.{IntType}
use Rattle.pt_tree.specs.declared.signature.Elem.{Elem}
use Rattle.pt_tree.specs.declared.signature.Param.{Param}
use Rattle.pt_tree.specs.declared.signature.ParamKind.{ParamKind}
use Rattle.pt_tree.specs.declared.signature.ParamKind.TheVariants as kind
use Rattle.pt_tree.specs.declared.signature.Signature.{Signature}
use Rattle.typed_tree.specs.declared.types.StructInfo.{StructInfo}
use Rattle.marshalling.specs.declared.crossing.Crossing.{Crossing}
use Rattle.marshalling.specs.declared.crossing.Crossing.TheVariants.{Stays, Plain, Sealed}
use Rattle.marshalling.specs.Crossings.{is_secret, result_crossing}
use Rattle.marshalling.specs.Leaves.{leaves_of}

-- a field marked `priv` leads to some cell of the element
abbrev pub has_marked_field : List StructInfo → Elem → Bool
has_marked_field structs elem = list_any (λ leaf. leaf.marked) (leaves_of structs elem)

-- ---- parameters

-- which cells that a pointer reaches may go as handles: all, by its mark, or those under marked fields, if there are any
abbrev pub sent_words : Bool → Bool → List ℕ
sent_words marked fields = if marked then codes " with handles" else if fields then codes " with handles in marked fields" else []

-- which of them come back as handles; all others do as numbers
abbrev pub back_words : Bool → Bool → List ℕ
back_words secret fields =
    if secret then codes " and back as handles"
    else if fields then codes " and back as numbers with handles in marked fields"
    else codes " and back as numbers"

-- through a pointer to const nothing comes back
abbrev pub back_text : Bool → Bool → Bool → List ℕ
back_text fixed secret fields = if fixed then [] else back_words secret fields

abbrev pub number_words : Bool → List ℕ
number_words marked = if marked then codes "number or handle" else codes "number"

-- of a pointer, to elements with a marked field or without one
abbrev pub block_text : Param → Bool → Bool → List ℕ
block_text p fixed fields = codes "block" ++ sent_words p.marked fields ++ back_text fixed (is_secret p) fields

-- of a parameter that takes this, where `marked` says which elements have a marked field
abbrev pub kind_text : (Elem → Bool) → Param → ParamKind → List ℕ
kind_text marked p (kind.Int t) = number_words p.marked
kind_text marked p (kind.Ptr elem fixed) = block_text p fixed (marked elem)

abbrev pub param_text : (Elem → Bool) → Param → List ℕ
param_text marked p = kind_text marked p p.kind

-- behind a comma
abbrev pub next_param : (Elem → Bool) → Param → List ℕ
next_param marked p = codes ", " ++ param_text marked p

abbrev pub more_params : (Elem → Bool) → List Param → List ℕ
more_params marked params = flat_map (next_param marked) params

abbrev pub params_text : (Elem → Bool) → List Param → List ℕ
params_text marked [] = []
params_text marked (p ∷ params) = param_text marked p ++ more_params marked params

-- ---- results

-- by how it comes back
abbrev pub result_words : Crossing → List ℕ
result_words Stays = codes " gives nothing"
result_words Plain = codes " gives a number"
result_words Sealed = codes " gives a handle"

abbrev pub result_text : Signature → Option IntType → List ℕ
result_text s None = codes " gives nothing"
result_text s (Some t) = result_words (result_crossing s)

-- ---- entries

abbrev pub called_text : (Elem → Bool) → Signature → List ℕ
called_text marked s = s.name ++ codes "(" ++ params_text marked s.params ++ codes ")"

-- `  entry NAME(WHAT, WHAT) gives WHAT`
abbrev pub entry_line : (Elem → Bool) → Signature → List ℕ
entry_line marked s = codes "  entry " ++ called_text marked s ++ result_text s s.result ++ codes "\n"
