-- Values and places, by induction: a pointer to no const points to what may be written, and what isn't const may be.
use Rattle.std.proofs.Common.{◌≡◌, ◌∙◌, ℕ, ◌+◌, refl, ap, sym, subst, Bool, true, false, Some, IfOk, List, [], ◌∷◌}
use Rattle.std.specs.Prelude.{IsTrue, ◌&&◌, slice_get, nat_eq, is_some}
use Rattle.std.specs.Map.{lookup}
use Rattle.pt_base.specs.declared.int_type.IntType.TheVariants as i
use Rattle.pt_base.specs.declared.span.Span.{Span}
use Rattle.pt_base.proofs.Booleans.{both_hold_first, both_hold_second, false_not_true, true_and_false}
use Rattle.pt_int.specs.Operator.{unary_type, binary_type}
use Rattle.pt_tree.specs.declared.signature.Elem.{Elem}
use Rattle.pt_tree.specs.declared.signature.Param.{Param}
use Rattle.typed_tree.specs.declared.types.VarTy.{VarTy}
use Rattle.typed_tree.specs.declared.types.VarTy.TheVariants.{Int, Struct, Array, Pointer}
use Rattle.typed_tree.specs.declared.link.LinkStep.TheVariants.{Move}
use Rattle.typed_tree.specs.Cells.{cells_of}
use Rattle.typed_tree.specs.TypeTests.{is_scalar, item_of, pointee_of, points_to_const}
use Rattle.typed_tree.specs.TypeTests as t
use Rattle.typed_tree.specs.TypeRules.{stepped}
use Rattle.typed_tree.specs.WellFormedExpression.{param_type}
use Rattle.block_memory.specs.declared.cell.Cell.{Cell}
use Rattle.block_memory.specs.declared.cell.Cell.TheVariants as cell
use Rattle.block_memory.specs.declared.cell.Pointer.TheVariants as pointer
use Rattle.block_memory.specs.declared.cell.BlockName.TheVariants.{Local, Global}
use Rattle.block_memory.specs.Blocks.{Blocks}
use Rattle.pt_core.specs.CodeTree.{RootTree, local, global, deref, PlaceTree, place, ExprTree, constant, read, unary, binary, convert, null, address, decay, move, compare, difference, ExprTrees, no_exprs, expr_and, ProgramTree}
use Rattle.pt_core.specs.Types.{Context, type_of, place_type, root_type, pointee_type, element_of}
use Rattle.runs.specs.Pointers.{directed}
use Rattle.pt_core.specs.Values.{number_in, Location, pointee, cell_in, value_of, values_of, location_of, root_location}
use Rattle.pt_core.specs.Calls.{context_in}
use Rattle.pt_core.specs.Steps.{Active}
use Rattle.pt_core.specs.WellFormedExpression.{is_path, is_addressed, stands_for, expr_fits, place_fits, root_fits}
use Rattle.pt_core.specs.WellFormedStatement.{value_fits, arguments_fit}
use Rattle.core_soundness_law.specs.Kept.{Kept}
use Rattle.core_soundness_law.specs.Fits.{variables_at}
use Rattle.core_soundness_law.specs.Laws.{LocationFits}
use Rattle.core_soundness_law.proofs.Objects.{Setting}
use Rattle.core_soundness_law.proofs.Values.{bound, places, roots}
use Rattle.core_soundness_law.proofs.Settings.{same_depth}
use Rattle.half_meaning_law.specs.CForms.{is_null, stands, points_const, is_const, is_const_root, with_const, c_type, keeps_const, is_stored, are_passed}
use Rattle.lent_blocks_law.specs.Lent.{Writable, AreWritable, Owns, PointsToWritable, ValueIsLent, AreLent, PointersAreLent}
use Rattle.lent_blocks_law.proofs.Ranges.{always, weaken, both, or_cases, path_lent, pointee_lent, pointer_lent, address_lent, decay_lent, moved_lent, lent_on}

-- what a function of this depth sees
pub record Sees (w : Writable) (c : Context) (depth : ℕ) (blocks : Blocks) : Type 0 where
  pub locals : (d v i : ℕ) → w (Local d v) i ≡ true
  pub globals : (g i : ℕ) → IsTrue (is_some (lookup (nat_eq g) c.globals)) → w (Global g) i ≡ true
  pub pointers : (v : ℕ) (elem : Elem) → slice_get c.variables v ≡ Some (Pointer elem false) →
      PointsToWritable w c.structs elem (cell_in blocks (record { block = Local depth v; cell = 0; ty = Pointer elem false }))

pub sees : (w : Writable) (program : ProgramTree) (a : Active) (rest : List Active) (blocks : Blocks) → Owns w program → PointersAreLent w program (a ∷ rest) blocks → Sees w (context_in program a.function) a.depth blocks
sees w program a rest blocks owns lent = record {
  locals = owns.locals;
  globals = owns.globals;
  pointers = λ v elem is. lent a.depth v elem (ap (λ tys. slice_get tys v) (same_depth a.depth (context_in program a.function).variables (variables_at program rest a.depth)) ∙ is);
}

read_lent : (w : Writable) (c : Context) (depth : ℕ) (blocks : Blocks) → Sees w c depth blocks → (ty : VarTy) (at : Location) → LocationFits c blocks depth ty at →
    ValueIsLent w c.structs (with_const (points_to_const (Some ty)) ty) (cell_in blocks at)
read_lent w c depth blocks s (Int t) at fits = tt {0}
read_lent w c depth blocks s (Struct n) at fits = tt {0}
read_lent w c depth blocks s (Array elem count) at fits = tt {0}
read_lent w c depth blocks s (Pointer elem true) at fits = tt {0}
read_lent w c depth blocks s (Pointer elem false) at fits =
    subst (λ b. PointsToWritable w c.structs elem (cell_in blocks (record { block = b; cell = at.cell; ty = at.ty }))) (sym fits.lies.2)
    (subst (λ n. PointsToWritable w c.structs elem (cell_in blocks (record { block = Local depth fits.lies.0; cell = n; ty = at.ty }))) (sym fits.lies.3)
    (s.pointers fits.lies.0 elem fits.lies.1))

-- an object that isn't const may be written
abbrev pub Lies : Writable → Context → Bool → VarTy → Location → Type 0
Lies w c fixed ty at = fixed ≡ false → AreWritable w at.block at.cell (cells_of c.structs ty)

-- behind a pointer
behind : (w : Writable) (c : Context) (span : Span) (ty : VarTy) (v : Cell) (fixed : Bool) → IsTrue (is_some (pointee_of (Some ty))) → ValueIsLent w c.structs (with_const fixed ty) v → IfOk (pointee c span ty v) (Lies w c fixed (pointee_type ty))
behind w c span ty v true h lent = always (Lies w c true (pointee_type ty)) (pointee c span ty v) (λ at no. true_and_false true refl no)
behind w c span ty v false h lent =
    weaken (λ at. AreWritable w at.block at.cell (cells_of c.structs (pointee_type ty))) (Lies w c false (pointee_type ty)) (pointee c span ty v) (λ at all no. all) (pointee_lent w c span ty v h lent)

mutual
  pub values_lent : {kept : Kept} (w : Writable) (c : Context) (depth : ℕ) (blocks : Blocks) → Setting kept c depth blocks → Sees w c depth blocks → (e : ExprTree) → IsTrue (expr_fits c e) → IfOk (value_of c depth e blocks) (ValueIsLent w c.structs (c_type c e))
  values_lent w c depth blocks f s (constant t v) h = tt {0}
  values_lent w c depth blocks f s (read p) h =
      bound (LocationFits c blocks depth (place_type c p)) (ValueIsLent w c.structs (c_type c (read p))) (location_of c depth p blocks) _
      (places _ c depth blocks f p (both_hold_first (place_fits c p) (is_scalar (Some (place_type c p))) h))
      (λ at fits. read_lent w c depth blocks s (place_type c p) at fits)
  values_lent w c depth blocks f s (unary op t a span) h = always (ValueIsLent w c.structs (Int (unary_type op t))) (value_of c depth (unary op t a span) blocks) (λ x. tt {0})
  values_lent w c depth blocks f s (binary op t a b span) h = always (ValueIsLent w c.structs (Int (binary_type op t))) (value_of c depth (binary op t a b span) blocks) (λ x. tt {0})
  values_lent w c depth blocks f s (convert to a) h = always (ValueIsLent w c.structs (Int to)) (value_of c depth (convert to a) blocks) (λ x. tt {0})
  values_lent w c depth blocks f s (null elem) h = tt {0}
  values_lent w c depth blocks f s (address p) h =
      let rest : IsTrue (is_addressed p && is_some (t.element_of (Some (place_type c p)))) = both_hold_second (place_fits c p) (is_addressed p && is_some (t.element_of (Some (place_type c p)))) h in
      bound (Lies w c (is_const c p) (place_type c p)) (ValueIsLent w c.structs (c_type c (address p))) (location_of c depth p blocks) _
      (places_lent w c depth blocks f s p (both_hold_first (place_fits c p) (is_addressed p && is_some (t.element_of (Some (place_type c p)))) h))
      (λ at lent. pointer_lent w c.structs (element_of (place_type c p)) (is_const c p) (cell.Ptr (pointer.At at.block at.cell 1 0))
      (λ no. address_lent w c.structs (place_type c p) at (both_hold_second (is_addressed p) (is_some (t.element_of (Some (place_type c p)))) rest) (lent no)))
  values_lent w c depth blocks f s (decay p) h =
      let lies : IsTrue (place_fits c p) = both_hold_first (place_fits c p) (is_some (item_of (Some (place_type c p)))) h in
      bound (λ at. LocationFits c blocks depth (place_type c p) at × Lies w c (is_const c p) (place_type c p) at) (ValueIsLent w c.structs (c_type c (decay p))) (location_of c depth p blocks) _
      (both (LocationFits c blocks depth (place_type c p)) (Lies w c (is_const c p) (place_type c p)) (location_of c depth p blocks) (places _ c depth blocks f p lies) (places_lent w c depth blocks f s p lies))
      (λ at fits. pointer_lent w c.structs (element_of (place_type c p)) (is_const c p) _
      (λ no. decay_lent w c.structs (place_type c p) at (both_hold_second (place_fits c p) (is_some (item_of (Some (place_type c p)))) h) fits.0.typed (fits.1 no)))
  values_lent w c depth blocks f s (move a b back span) h =
      let sides : IsTrue (expr_fits c a && expr_fits c b) = both_hold_first (expr_fits c a && expr_fits c b) (is_some (stepped (Some (type_of c a)) (Move back) (Some (type_of c b)))) h in
      bound (ValueIsLent w c.structs (c_type c a)) (ValueIsLent w c.structs (c_type c a)) (value_of c depth a blocks) _ (values_lent w c depth blocks f s a (both_hold_first (expr_fits c a) (expr_fits c b) sides))
      (λ v lent. bound (λ x. Unit {0}) (ValueIsLent w c.structs (c_type c a)) (value_of c depth b blocks) _ (always (λ x. Unit {0}) (value_of c depth b blocks) (λ x. tt {0}))
      (λ x _. moved_lent w c.structs span (directed back (number_in x)) (c_type c a) v lent))
  values_lent w c depth blocks f s (compare op a b span) h = always (ValueIsLent w c.structs (Int i.Int)) (value_of c depth (compare op a b span) blocks) (λ x. tt {0})
  values_lent w c depth blocks f s (difference a b span) h = always (ValueIsLent w c.structs (Int i.Long)) (value_of c depth (difference a b span) blocks) (λ x. tt {0})

  pub places_lent : {kept : Kept} (w : Writable) (c : Context) (depth : ℕ) (blocks : Blocks) → Setting kept c depth blocks → Sees w c depth blocks → (p : PlaceTree) → IsTrue (place_fits c p) → IfOk (location_of c depth p blocks) (Lies w c (is_const c p) (place_type c p))
  places_lent w c depth blocks f s (place root path) h =
      let first : IsTrue (root_fits c root) = both_hold_first (root_fits c root) (is_path c.structs (root_type c root) path) h in
      bound (λ at. LocationFits c blocks depth (root_type c root) at × Lies w c (is_const_root c root) (root_type c root) at) (Lies w c (is_const c (place root path)) (place_type c (place root path))) (root_location c depth root blocks) _
      (both (LocationFits c blocks depth (root_type c root)) (Lies w c (is_const_root c root) (root_type c root)) (root_location c depth root blocks) (roots _ c depth blocks f root first) (roots_lent w c depth blocks f s root first))
      (λ at fits no. path_lent w c f.sound path (root_type c root) at (both_hold_second (root_fits c root) (is_path c.structs (root_type c root) path) h) fits.0.typed (fits.1 no))

  pub roots_lent : {kept : Kept} (w : Writable) (c : Context) (depth : ℕ) (blocks : Blocks) → Setting kept c depth blocks → Sees w c depth blocks → (r : RootTree) → IsTrue (root_fits c r) → IfOk (root_location c depth r blocks) (Lies w c (is_const_root c r) (root_type c r))
  roots_lent w c depth blocks f s (local v) h = λ no i less. s.locals depth v (0 + i)
  roots_lent w c depth blocks f s (global g) h = λ no i less. s.globals g (0 + i) h
  roots_lent w c depth blocks f s (deref a span) h =
      bound (ValueIsLent w c.structs (c_type c a)) (Lies w c (points_const c a) (root_type c (deref a span))) (value_of c depth a blocks) _
      (values_lent w c depth blocks f s a (both_hold_first (expr_fits c a) (is_some (pointee_of (Some (type_of c a)))) h))
      (λ v lent. behind w c span (type_of c a) v (points_const c a) (both_hold_second (expr_fits c a) (is_some (pointee_of (Some (type_of c a)))) h) lent)

-- ---- what is stored and passed

-- null keeps const too
null_keeps : (c : Context) (ty : VarTy) (a : ExprTree) → IsTrue (is_null a) → IsTrue (keeps_const (c_type c a) ty)
null_keeps c (Int t) (null elem) h = refl
null_keeps c (Struct n) (null elem) h = refl
null_keeps c (Array item count) (null elem) h = refl
null_keeps c (Pointer item fixed) (null elem) h = refl
null_keeps c ty (constant t v) h = false_not_true h
null_keeps c ty (read p) h = false_not_true h
null_keeps c ty (unary op t a s) h = false_not_true h
null_keeps c ty (binary op t a b s) h = false_not_true h
null_keeps c ty (convert to a) h = false_not_true h
null_keeps c ty (address p) h = false_not_true h
null_keeps c ty (decay p) h = false_not_true h
null_keeps c ty (move a b back s) h = false_not_true h
null_keeps c ty (compare op a b s) h = false_not_true h
null_keeps c ty (difference a b s) h = false_not_true h

-- what may be stored in an object of this type is lent as one
pub stored_value : {kept : Kept} (w : Writable) (c : Context) (depth : ℕ) (blocks : Blocks) → Setting kept c depth blocks → Sees w c depth blocks → (ty : VarTy) (a : ExprTree) → IsTrue (value_fits c ty a) → IsTrue (is_stored c ty a) →
    IfOk (value_of c depth a blocks) (ValueIsLent w c.structs ty)
stored_value w c depth blocks f s ty a h said =
    let keeps : IsTrue (keeps_const (c_type c a) ty) = or_cases (is_null a) (stands a && keeps_const (c_type c a) ty) said (λ n. null_keeps c ty a n) (λ k. both_hold_second (stands a) (keeps_const (c_type c a) ty) k) in
    weaken (ValueIsLent w c.structs (c_type c a)) (ValueIsLent w c.structs ty) (value_of c depth a blocks)
    (λ v lent. lent_on w c.structs (points_const c a) (type_of c a) ty v (both_hold_second (expr_fits c a) (stands_for (type_of c a) ty) h) keeps lent)
    (values_lent w c depth blocks f s a (both_hold_first (expr_fits c a) (stands_for (type_of c a) ty) h))

pub passed_lent : {kept : Kept} (w : Writable) (c : Context) (depth : ℕ) (blocks : Blocks) → Setting kept c depth blocks → Sees w c depth blocks → (ps : List Param) (args : ExprTrees) → IsTrue (arguments_fit c ps args) → IsTrue (are_passed c ps args) →
    IfOk (values_of c depth args blocks) (AreLent w c.structs ps)
passed_lent w c depth blocks f s [] no_exprs h said = tt {0}
passed_lent w c depth blocks f s [] (expr_and a rest) h said = false_not_true h
passed_lent w c depth blocks f s (p ∷ ps) no_exprs h said = false_not_true h
passed_lent w c depth blocks f s (p ∷ ps) (expr_and a rest) h said =
    bound (ValueIsLent w c.structs (param_type p.kind)) (AreLent w c.structs (p ∷ ps)) (value_of c depth a blocks) _
    (stored_value w c depth blocks f s (param_type p.kind) a (both_hold_first (value_fits c (param_type p.kind) a) (arguments_fit c ps rest) h) (both_hold_first (is_stored c (param_type p.kind) a) (are_passed c ps rest) said))
    (λ v lent. bound (AreLent w c.structs ps) (AreLent w c.structs (p ∷ ps)) (values_of c depth rest blocks) _
    (passed_lent w c depth blocks f s ps rest (both_hold_second (value_fits c (param_type p.kind) a) (arguments_fit c ps rest) h) (both_hold_second (is_stored c (param_type p.kind) a) (are_passed c ps rest) said))
    (λ vs all. (lent, all)))
