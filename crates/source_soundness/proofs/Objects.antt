-- Reading and writing objects.
use Rattle.std.proofs.Common.{◌≡◌, ◌∙◌, ◌≤◌, ℕ, pos, refl, ap, sym, subst, arith, true, false, Some, List, [], ◌∷◌}
use Rattle.std.specs.Prelude.{IsTrue, slice_set, slice_index_or, drop}
use Rattle.pt_base.proofs.Booleans.{false_not_true}
use Rattle.typed_tree.specs.declared.types.VarTy.{VarTy}
use Rattle.typed_tree.specs.declared.types.VarTy.TheVariants.{Int, Struct, Array, Pointer}
use Rattle.typed_tree.specs.Sizes.{cells_by}
use Rattle.typed_tree.specs.TypeTests.{is_value}
use Rattle.source_meaning.specs.Memory.{Block, Cell, number, null, pointer, Memory}
use Rattle.source_meaning.specs.State.{State}
use Rattle.source_meaning.specs.Values.{Value, holds, whole, nothing, Location}
use Rattle.source_meaning.specs.Expressions.{Context, sizes, loaded, cells_at, stored_in}
use Rattle.source_soundness.specs.Worlds.{World, type_in, depth_of, is_pointer, IsScoped, CellsFit, Fits, ValueFits, PartFits, LocationFits}
use Rattle.source_soundness.proofs.Memories.{numbers_get, numbers_take, numbers_drop, numbers_in, put_fits, number_written, numbers_written, type_is}

-- a part that is no pointer lies in an object that is none
pub plain_part : (cell : ℕ) (in_ ty : VarTy) → PartFits cell in_ ty → is_pointer ty ≡ false → is_pointer in_ ≡ false
plain_part cell (Int t) ty part p = refl
plain_part cell (Struct n) ty part p = refl
plain_part cell (Array elem count) ty part p = refl
plain_part cell (Pointer elem fixed) ty part p = false_not_true (sym p ∙ ap is_pointer part.1)

-- a pointer is a variable itself
pub record PointerPart (cell : ℕ) (in_ ty : VarTy) : Type 0 where
  pub first : cell ≡ 0
  pub whole_is : in_ ≡ ty

pub pointer_part : (cell : ℕ) (in_ ty : VarTy) → PartFits cell in_ ty → is_pointer ty ≡ true → PointerPart cell in_ ty
pointer_part cell (Int t) ty part p = false_not_true (sym part ∙ p)
pointer_part cell (Struct n) ty part p = false_not_true (sym part ∙ p)
pointer_part cell (Array elem count) ty part p = false_not_true (sym part ∙ p)
pointer_part cell (Pointer elem fixed) ty part p = record { first = part.0; whole_is = sym part.1 }

pub scoped_up : (w : World) (d e : ℕ) (c : Cell) → d ≤ e → IsScoped w d c → IsScoped w e c
scoped_up w d e (number v) le h = h
scoped_up w d e null le h = h
scoped_up w d e (pointer block base count index) le h = let low = h.3 in (h.0, h.1, h.2, omega arith)

-- what a pointer variable holds
pub held_pointer : (w : World) (m : Memory) (b : Block) (at : ℕ) (ty : VarTy) (in_ : VarTy) → Fits w m → type_in w b ≡ Some in_ → PointerPart at in_ ty → is_pointer ty ≡ true →
    (c : Cell) × (m b ≡ c ∷ []) × IsScoped w (depth_of b) c
held_pointer w m b at (Pointer elem fixed) in_ h live part p = h b (Pointer elem fixed) (live ∙ ap Some part.whole_is)
held_pointer w m b at (Int t) in_ h live part p = cc
held_pointer w m b at (Struct n) in_ h live part p = cc
held_pointer w m b at (Array elem count) in_ h live part p = cc

first_of : (cells : List Cell) (k : ℕ) (c : Cell) → cells ≡ c ∷ [] → k ≡ 0 → slice_index_or cells k (number (pos 0)) ≡ c
first_of cells k c h e = ap (λ i. slice_index_or cells i (number (pos 0))) e ∙ ap (λ xs. slice_index_or xs 0 (number (pos 0))) h

set_first : (cells : List Cell) (k : ℕ) (c d : Cell) → cells ≡ c ∷ [] → k ≡ 0 → slice_set cells k d ≡ d ∷ []
set_first cells k c d h e = ap (λ i. slice_set cells i d) e ∙ ap (λ xs. slice_set xs 0 d) h

-- what an object holds is of its type
loaded_as : (w : World) (c : Context) (at : Location) (st : State) (in_ ty : VarTy) → Fits w st.memory → type_in w at.block ≡ Some in_ → depth_of at.block ≤ w.depth → PartFits at.cell in_ ty → IsTrue (is_value (Some ty)) → ValueFits w (Some ty) (loaded c at ty st)
loaded_as w c at st in_ (Int t) h live low part v =
    numbers_get (st.memory at.block) at.cell (numbers_in w (depth_of at.block) in_ (st.memory at.block) (plain_part at.cell in_ (Int t) part refl) (h at.block in_ live))
loaded_as w c at st in_ (Struct n) h live low part v = (
  cells_at st at (cells_by (sizes c) (Struct n)),
  refl,
  numbers_take (cells_by (sizes c) (Struct n)) (drop at.cell (st.memory at.block))
      (numbers_drop at.cell (st.memory at.block) (numbers_in w (depth_of at.block) in_ (st.memory at.block) (plain_part at.cell in_ (Struct n) part refl) (h at.block in_ live))),
)
loaded_as w c at st in_ (Array elem count) h live low part v = false_not_true v
loaded_as w c at st in_ (Pointer elem fixed) h live low part v =
    let p = pointer_part at.cell in_ (Pointer elem fixed) part refl in
    let held = held_pointer w st.memory at.block at.cell (Pointer elem fixed) in_ h live p refl in
    (held.0, ap holds (first_of (st.memory at.block) at.cell held.0 held.1 p.first), scoped_up w (depth_of at.block) w.depth held.0 low held.2)

pub loaded_fits : (w : World) (c : Context) (at : Location) (st : State) (ty : VarTy) → LocationFits w (Some ty) at → IsTrue (is_value (Some ty)) → Fits w st.memory → ValueFits w (Some ty) (loaded c at at.ty st)
loaded_fits w c at st ty l v h =
    let same = type_is ty at.ty l.has in
    subst (λ t. ValueFits w (Some t) (loaded c at at.ty st)) (sym same) (loaded_as w c at st l.in_ at.ty h l.live l.shallow l.part (subst (λ t. IsTrue (is_value (Some t))) same v))

-- what is stored is of the object's type
stored_as : (w : World) (m : Memory) (at : Location) (v : Value) (in_ ty : VarTy) → Fits w m → type_in w at.block ≡ Some in_ → PartFits at.cell in_ ty → (is_pointer ty ≡ true → depth_of at.block ≡ w.depth) → ValueFits w (Some ty) v → Fits w (stored_in m at v)
stored_as w m at (holds c) in_ (Int t) h live part own fit = number_written w m at.block at.cell c in_ h live (plain_part at.cell in_ (Int t) part refl) fit
stored_as w m at (whole cells) in_ (Int t) h live part own fit = absurd fit
stored_as w m at nothing in_ (Int t) h live part own fit = absurd fit
stored_as w m at v in_ (Struct n) h live part own fit =
    subst (λ x. Fits w (stored_in m at x)) (sym fit.1) (numbers_written w m at.block at.cell fit.0 in_ h live (plain_part at.cell in_ (Struct n) part refl) fit.2)
stored_as w m at v in_ (Array elem count) h live part own fit = absurd fit
stored_as w m at v in_ (Pointer elem fixed) h live part own fit =
    let p = pointer_part at.cell in_ (Pointer elem fixed) part refl in
    let held = held_pointer w m at.block at.cell (Pointer elem fixed) in_ h live p refl in
    subst (λ x. Fits w (stored_in m at x)) (sym fit.1)
    (put_fits w m at.block (slice_set (m at.block) at.cell fit.0) h
    (λ ty is. subst (λ t. CellsFit w (depth_of at.block) t (slice_set (m at.block) at.cell fit.0)) (type_is (Pointer elem fixed) ty (sym (live ∙ ap Some p.whole_is) ∙ is))
    (fit.0, set_first (m at.block) at.cell held.0 fit.0 held.1 p.first, subst (λ d. IsScoped w d fit.0) (sym (own refl)) fit.2)))

pub stored_fits : (w : World) (m : Memory) (at : Location) (v : Value) (ty : VarTy) → LocationFits w (Some ty) at → ValueFits w (Some ty) v → Fits w m → Fits w (stored_in m at v)
stored_fits w m at v ty l fit h =
    stored_as w m at v l.in_ at.ty h l.live l.part l.own (subst (λ t. ValueFits w (Some t) v) (type_is ty at.ty l.has) fit)
