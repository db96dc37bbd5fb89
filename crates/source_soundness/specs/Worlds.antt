-- Which objects are live, and what their cells hold: numbers, but for pointer variables, which are null or
-- point to a live object that isn't one, of their own depth or a lesser one.
use Rattle.std.specs.Prelude.{◌≡◌, ◌≤◌, ℕ, true, false, ◌&&◌, List, [], ◌∷◌, Option, Some, None, if◌then◌else◌, nat_le, slice_get}
use Rattle.typed_tree.specs.declared.types.VarTy.{VarTy}
use Rattle.typed_tree.specs.declared.types.VarTy.TheVariants.{Int, Struct, Array, Pointer}
use Rattle.source_meaning.specs.Memory.{Block, local, global, Cell, number, null, pointer, Memory}
use Rattle.source_meaning.specs.Values.{Value, holds, whole, nothing, Location}
pub use Rattle.source_meaning.specs.Memory.{depth_of}
pub use Rattle.typed_tree.specs.TypeTests.{is_pointer}

-- The types of the globals, and of the variables of the function that is active at each depth from 1 to this
-- one.
pub record World : Type 0 where
  pub globals : List VarTy
  pub frames : ℕ → List VarTy
  pub depth : ℕ

-- the type of a live object
abbrev pub type_in : World → Block → Option VarTy
type_in w (local d x) = if nat_le 1 d && nat_le d w.depth then slice_get (w.frames d) x else None
type_in w (global g) = slice_get w.globals g

abbrev pub IsNumber : Cell → Type 0
IsNumber (number v) = Unit {0}
IsNumber null = ⊥
IsNumber (pointer block base count index) = ⊥

-- null, or a pointer to a live object that is no pointer variable, of at most this depth
abbrev pub IsScoped : World → ℕ → Cell → Type 0
IsScoped w d (number v) = ⊥
IsScoped w d null = Unit {0}
IsScoped w d (pointer block base count index) = (ty : VarTy) × (type_in w block ≡ Some ty) × (is_pointer ty ≡ false) × (depth_of block ≤ d)

abbrev pub AreNumbers : List Cell → Type 0
AreNumbers [] = Unit {0}
AreNumbers (c ∷ cs) = IsNumber c × AreNumbers cs

-- the cells of an object of this type that was made at this depth
abbrev pub CellsFit : World → ℕ → VarTy → List Cell → Type 0
CellsFit w d (Int t) cells = AreNumbers cells
CellsFit w d (Struct n) cells = AreNumbers cells
CellsFit w d (Array elem count) cells = AreNumbers cells
CellsFit w d (Pointer elem fixed) cells = (c : Cell) × (cells ≡ c ∷ []) × IsScoped w d c

abbrev pub Fits : World → Memory → Type 0
Fits w memory = (b : Block) (ty : VarTy) → type_in w b ≡ Some ty → CellsFit w (depth_of b) ty (memory b)

-- a number
abbrev pub IsInteger : Value → Type 0
IsInteger (holds c) = IsNumber c
IsInteger (whole cells) = ⊥
IsInteger nothing = ⊥

-- a value of this type, None being void
abbrev pub ValueFits : World → Option VarTy → Value → Type 0
ValueFits w None v = Unit {0}
ValueFits w (Some (Int t)) v = IsInteger v
ValueFits w (Some (Struct n)) v = (cells : List Cell) × (v ≡ whole cells) × AreNumbers cells
ValueFits w (Some (Array elem count)) v = ⊥
ValueFits w (Some (Pointer elem fixed)) v = (c : Cell) × (v ≡ holds c) × IsScoped w w.depth c

-- an object of this type in a live one of that type: a pointer variable itself, or a part of what is none
abbrev pub PartFits : ℕ → VarTy → VarTy → Type 0
PartFits cell (Pointer elem fixed) ty = (cell ≡ 0) × (ty ≡ Pointer elem fixed)
PartFits cell (Int t) ty = is_pointer ty ≡ false
PartFits cell (Struct n) ty = is_pointer ty ≡ false
PartFits cell (Array elem count) ty = is_pointer ty ≡ false

pub record LocationFits (w : World) (ty : Option VarTy) (at : Location) : Type 0 where
  pub has : ty ≡ Some at.ty
  pub in_ : VarTy
  pub live : type_in w at.block ≡ Some in_
  pub shallow : depth_of at.block ≤ w.depth
  pub part : PartFits at.cell in_ at.ty
  -- a pointer variable is one of the function that runs
  pub own : is_pointer at.ty ≡ true → depth_of at.block ≡ w.depth
