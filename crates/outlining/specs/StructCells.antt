-- Which structs have cells, and which of them cells under marked fields, as code finds it struct by struct.
use Rattle.std.specs.Prelude.{ℕ, List, [], ◌∷◌, ◌++◌, Bool, true, false, ◌&&◌, ◌||◌, if◌then◌else◌, get_or, nat_eq}
use Rattle.pt_tree.specs.declared.signature.Elem.{Elem}
use Rattle.pt_tree.specs.declared.signature.Elem.TheVariants as e
use Rattle.typed_tree.specs.declared.types.Field.{Field}
use Rattle.typed_tree.specs.declared.types.StructInfo.{StructInfo}
use Rattle.typed_tree.specs.declared.types.VarTy.{VarTy}
use Rattle.typed_tree.specs.declared.types.VarTy.TheVariants.{Int, Struct, Array, Pointer}
use Rattle.outlining.specs.declared.struct_cells.Cells.{Cells}

abbrev pub no_cells : Cells
no_cells = record { some = false; marked = false }

abbrev pub one_cell : Cells
one_cell = record { some = true; marked = false }

-- those of two objects together
abbrev pub both : Cells → Cells → Cells
both a b = record { some = a.some || b.some; marked = a.marked || b.marked }

-- those of an object under a field with this mark
abbrev pub under_mark : Bool → Cells → Cells
under_mark marked c = record { some = c.some; marked = (marked && c.some) || c.marked }

-- those of an element, by those of each struct
abbrev pub elem_cells : List Cells → Elem → Cells
elem_cells known (e.Int t) = one_cell
elem_cells known (e.Struct n) = get_or known n no_cells

-- those of so many elements
abbrev pub array_cells : ℕ → Cells → Cells
array_cells count c = if nat_eq count 0 then no_cells else c

abbrev pub object_cells : List Cells → VarTy → Cells
object_cells known (Int t) = one_cell
object_cells known (Struct n) = get_or known n no_cells
object_cells known (Array elem count) = array_cells count (elem_cells known elem)
object_cells known (Pointer elem fixed) = no_cells

abbrev pub field_cells : List Cells → Field → Cells
field_cells known f = under_mark f.marked (object_cells known f.ty)

-- those of fields, behind these
abbrev pub fields_after : List Cells → Cells → List Field → Cells
fields_after known all [] = all
fields_after known all (f ∷ fields) = fields_after known (both all (field_cells known f)) fields

abbrev pub fields_cells : List Cells → List Field → Cells
fields_cells known fields = fields_after known no_cells fields

-- those of each struct, behind those of the structs before, which its fields name
abbrev pub cells_after : List Cells → List StructInfo → List Cells
cells_after known [] = known
cells_after known (s ∷ rest) = cells_after (known ++ fields_cells known s.fields ∷ []) rest

abbrev pub cells_of : List StructInfo → List Cells
cells_of structs = cells_after [] structs

-- the element has a cell under a marked field, by those of each struct
abbrev pub is_marked_in : List Cells → Elem → Bool
is_marked_in known elem = (elem_cells known elem).marked
