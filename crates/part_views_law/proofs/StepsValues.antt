-- What is seen of the values of expressions and of places.
use Rattle.std.proofs.Common.{◌≡◌, ◌∙◌, ℕ, pos, List, [], ◌∷◌, map, get_or, refl, sym, ap, subst, Bool, true, false, nat_eq, ◌&&◌, ◌||◌, Some, Result, Ok, Err, IfOk}
use Rattle.std.specs.Prelude.{ℤ, IsTrue, is_some, not}
use Rattle.std.specs.Map.{lookup}
use Rattle.std.proofs.lemmas.Bool.{or_parts}
use Rattle.pt_base.specs.declared.span.Span.{Span}
use Rattle.pt_base.proofs.Booleans.{both_hold_first, both_hold_second as and_right}
use Rattle.pt_int.specs.Conversion.{conv}
use Rattle.pt_int.specs.Operator.{binary_of, unary_of}
use Rattle.typed_tree.specs.declared.types.VarTy.{VarTy}
use Rattle.typed_tree.specs.declared.types.VarTy.TheVariants.{Int, Struct, Array, Pointer}
use Rattle.typed_tree.specs.declared.link.LinkStep.TheVariants.{Move, Difference, Compare}
use Rattle.typed_tree.specs.TypeTests.{integer_of, is_scalar, item_of, pointee_of}
use Rattle.typed_tree.specs.TypeTests as t
use Rattle.typed_tree.specs.TypeRules.{stepped}
use Rattle.handle_store.specs.Stored.{AreInRange}
use Rattle.runs.specs.Pointers.{compared, difference as difference_in, directed, moved}
use Rattle.block_memory.specs.declared.cell.Cell.{Cell}
use Rattle.block_memory.specs.declared.cell.Cell.TheVariants as cell
use Rattle.block_memory.specs.declared.cell.BlockName.TheVariants.{Local, Global}
use Rattle.block_memory.specs.Blocks.{Blocks, is_same_name}
use Rattle.pt_core.specs.CodeTree.{RootTree, local, global, deref, PlaceTree, place, ExprTree, constant, read, unary, binary, convert, null, address, decay, move, compare, difference, ExprTrees, no_exprs, expr_and}
use Rattle.pt_core.specs.Types.{Context, element_of, global_type, path_type, place_type, pointee_cells, pointee_type, root_type, type_at, type_of}
use Rattle.pt_core.specs.Values.{Location, Stop, along, at_span, cell_in, converted, field_at, is_type, location_of, number_in, pointed, pointee, right_operand, root_location, target_of, unary_operand, value_of, values_of}
use Rattle.pt_core.specs.WellFormedExpression.{expr_fits, is_addressed, is_path, place_fits, root_fits, takes_one, takes_two}
use Rattle.core_soundness_law.specs.Fits.{ValueFits}
use Rattle.core_soundness_law.specs.Kept.{by_store}
use Rattle.core_soundness_law.proofs.Objects.{Setting}
use Rattle.core_soundness_law.proofs.Values.{values}
use Rattle.handle_classes.specs.Computes.{is_handle, is_sealed, meet_any, meets, meets_at, meets_root}
use Rattle.part_views_law.specs.Views.{View, seen, seen_cell}
use Rattle.part_views_law.proofs.Memories.{block_seen, got_seen}
use Rattle.part_views_law.proofs.StepsCells.{Known, MemoryOwn, OwnCell, OwnPlace, IsPlain, also_known, compared_seen, converted_known, decayed_known, difference_seen, moved_known, number_seen, numbers_known, operand_seen, plain_known, pointee_known, right_seen, seen_place, tests_known, then_known}

-- what code names in the whole, beside the globals as the part's context
abbrev pub in_whole : List (ℕ × VarTy) → Context → Context
in_whole globals c = record { structs = c.structs; globals = globals; variables = c.variables }

-- What a function of the part sees: its variables and the globals that it names lie under their own names, and both programs
-- have the same types for these; a pointer's block lies somewhere.
pub record Reads (v : View) (c : Context) (globals : List (ℕ × VarTy)) (depth : ℕ) (blocks : Blocks) : Type 0 where
  pub locals : (k : ℕ) → (v.at (Local depth k) ≡ Local depth k) × (v.of (Local depth k) ≡ Some (Local depth k))
  pub named : (g : ℕ) → IsTrue (is_some (lookup (nat_eq g) c.globals)) → (v.at (Global g) ≡ Global g) × (v.of (Global g) ≡ Some (Global g))
  pub typed : (g : ℕ) → IsTrue (is_some (lookup (nat_eq g) c.globals)) → global_type (in_whole globals c) g ≡ global_type c g
  pub held : MemoryOwn v blocks
  pub setting : Setting (by_store v.store) c depth blocks
  pub ranged : AreInRange v.store

-- ---- types

abbrev pub SameTypes : Context → List (ℕ × VarTy) → Type 0
SameTypes c globals = (g : ℕ) → IsTrue (is_some (lookup (nat_eq g) c.globals)) → global_type (in_whole globals c) g ≡ global_type c g

mutual
  pub type_same : (c : Context) (globals : List (ℕ × VarTy)) → SameTypes c globals → (e : ExprTree) → IsTrue (expr_fits c e) → type_of (in_whole globals c) e ≡ type_of c e
  type_same c globals same (constant t n) h = refl
  type_same c globals same (read p) h = place_same c globals same p (both_hold_first (place_fits c p) (is_scalar (Some (place_type c p))) h)
  type_same c globals same (unary op t a s) h = refl
  type_same c globals same (binary op t a b s) h = refl
  type_same c globals same (convert to a) h = refl
  type_same c globals same (null elem) h = refl
  type_same c globals same (address p) h = ap (λ u. Pointer (element_of u) false) (place_same c globals same p (both_hold_first (place_fits c p) (is_addressed p && is_some (t.element_of (Some (place_type c p)))) h))
  type_same c globals same (decay p) h = ap (λ u. Pointer (element_of u) false) (place_same c globals same p (both_hold_first (place_fits c p) (is_some (item_of (Some (place_type c p)))) h))
  type_same c globals same (move a b back s) h =
      type_same c globals same a (both_hold_first (expr_fits c a) (expr_fits c b) (both_hold_first (expr_fits c a && expr_fits c b) (is_some (stepped (Some (type_of c a)) (Move back) (Some (type_of c b)))) h))
  type_same c globals same (compare op a b s) h = refl
  type_same c globals same (difference a b s) h = refl

  pub place_same : (c : Context) (globals : List (ℕ × VarTy)) → SameTypes c globals → (p : PlaceTree) → IsTrue (place_fits c p) → place_type (in_whole globals c) p ≡ place_type c p
  place_same c globals same (place root path) h = ap (λ u. path_type c.structs u path) (root_same c globals same root (both_hold_first (root_fits c root) (is_path c.structs (root_type c root) path) h))

  pub root_same : (c : Context) (globals : List (ℕ × VarTy)) → SameTypes c globals → (r : RootTree) → IsTrue (root_fits c r) → root_type (in_whole globals c) r ≡ root_type c r
  root_same c globals same (local k) h = refl
  root_same c globals same (global g) h = same g h
  root_same c globals same (deref a s) h = ap pointee_type (type_same c globals same a (both_hold_first (expr_fits c a) (is_some (pointee_of (Some (type_of c a)))) h))

-- ---- along a path

along_whole : (c : Context) (globals : List (ℕ × VarTy)) (path : List ℕ) (at : Location) → along (in_whole globals c) path at ≡ along c path at
along_whole c globals [] at = refl
along_whole c globals (k ∷ path) at = along_whole c globals path (field_at c k at)

along_seen : (v : View) (c : Context) (path : List ℕ) (at : Location) → along c path (seen_place v at) ≡ seen_place v (along c path at)
along_seen v c [] at = refl
along_seen v c (k ∷ path) at = along_seen v c path (field_at c k at)

along_own : (v : View) (c : Context) (path : List ℕ) (at : Location) → OwnPlace v at → OwnPlace v (along c path at)
along_own v c [] at own = own
along_own v c (k ∷ path) at own = along_own v c path (field_at c k at) own

-- ---- what is read

pub cell_seen : (v : View) (blocks : Blocks) (at : Location) → OwnPlace v at → cell_in (seen v blocks) (seen_place v at) ≡ seen_cell v (cell_in blocks at)
cell_seen v blocks at lies = ap (λ b. get_or b.cells at.cell (cell.Int (pos 0))) (block_seen v blocks at.block lies) ∙ got_seen v (blocks at.block).cells at.cell

cells_same : (c : Context) (globals : List (ℕ × VarTy)) (ty : VarTy) → pointee_cells (in_whole globals c) ty ≡ pointee_cells c ty
cells_same c globals (Int t) = refl
cells_same c globals (Struct n) = refl
cells_same c globals (Array elem count) = refl
cells_same c globals (Pointer elem fixed) = refl

pointee_same : (c : Context) (globals : List (ℕ × VarTy)) (s : Span) (ty : VarTy) (d : Cell) → pointee (in_whole globals c) s ty d ≡ pointee c s ty d
pointee_same c globals s (Int t) d = refl
pointee_same c globals s (Struct n) d = refl
pointee_same c globals s (Array elem count) d = refl
pointee_same c globals s (Pointer elem fixed) d = refl

-- ---- expressions

convertible : (b : Bool) (r : Result Cell Stop) → (b && is_handle r) ≡ false → IfOk r (λ d. (b && is_sealed d) ≡ false)
convertible b (Ok d) h = h
convertible b (Err stop) h = tt {0}

-- a pointer moved by this amount
abbrev moving : Span → Bool → ℤ → Cell → Result Cell Stop
moving s back n d = pointed (at_span s (moved (directed back n) (target_of d)))

mutual
  pub value_known : (v : View) (c : Context) (globals : List (ℕ × VarTy)) (depth : ℕ) (blocks : Blocks) → Reads v c globals depth blocks → (e : ExprTree) → IsTrue (expr_fits c e) → meets c depth e blocks ≡ false →
      Known (seen_cell v) (OwnCell v) (value_of (in_whole globals c) depth e (seen v blocks)) (value_of c depth e blocks)
  value_known v c globals depth blocks r (constant t n) fits h = record { sight = refl; own = tt {0} }
  value_known v c globals depth blocks r (read p) fits h =
      then_known (seen_place v) (seen_cell v) (OwnPlace v) (OwnCell v) (location_of (in_whole globals c) depth p (seen v blocks)) (location_of c depth p blocks) _ _
      (place_known v c globals depth blocks r p (both_hold_first (place_fits c p) (is_scalar (Some (place_type c p))) fits) h)
      (λ at own. record { sight = ap Ok (cell_seen v blocks at own); own = r.held at.block at.cell })
  value_known v c globals depth blocks r (unary op t a s) fits h =
      let parts = or_parts (meets c depth a blocks) (is_handle (value_of c depth a blocks)) h in
      then_known (seen_cell v) (seen_cell v) (λ d. OwnCell v d × IsPlain d) (OwnCell v) (value_of (in_whole globals c) depth a (seen v blocks)) (value_of c depth a blocks) _ _
      (plain_known v (value_of (in_whole globals c) depth a (seen v blocks)) (value_of c depth a blocks)
      (value_known v c globals depth blocks r a (both_hold_first (expr_fits c a) (takes_one op t (type_of c a)) fits) parts.0) parts.1)
      (λ d own. numbers_known v (at_span s (unary_of op t (unary_operand op t d))) (at_span s (unary_of op t (unary_operand op t (seen_cell v d))))
      (ap (λ n. at_span s (unary_of op t n)) (operand_seen op t (seen_cell v d) d (number_seen v d own.1))))
  value_known v c globals depth blocks r (binary op t a b s) fits h =
      let both : IsTrue (expr_fits c a && expr_fits c b) = both_hold_first (expr_fits c a && expr_fits c b) (takes_two op t (type_of c a) (type_of c b)) fits in
      let sides = or_parts (meets c depth a blocks || is_handle (value_of c depth a blocks)) (meets c depth b blocks || is_handle (value_of c depth b blocks)) h in
      let left = or_parts (meets c depth a blocks) (is_handle (value_of c depth a blocks)) sides.0 in
      let right = or_parts (meets c depth b blocks) (is_handle (value_of c depth b blocks)) sides.1 in
      then_known (seen_cell v) (seen_cell v) (λ d. OwnCell v d × IsPlain d) (OwnCell v) (value_of (in_whole globals c) depth a (seen v blocks)) (value_of c depth a blocks) _ _
      (plain_known v (value_of (in_whole globals c) depth a (seen v blocks)) (value_of c depth a blocks) (value_known v c globals depth blocks r a (both_hold_first (expr_fits c a) (expr_fits c b) both) left.0) left.1)
      (λ d own.
      then_known (seen_cell v) (seen_cell v) (λ d'. OwnCell v d' × IsPlain d') (OwnCell v) (value_of (in_whole globals c) depth b (seen v blocks)) (value_of c depth b blocks) _ _
      (plain_known v (value_of (in_whole globals c) depth b (seen v blocks)) (value_of c depth b blocks) (value_known v c globals depth blocks r b (and_right (expr_fits c a) (expr_fits c b) both) right.0) right.1)
      (λ d' own'. numbers_known v (at_span s (binary_of op t (conv t (number_in d)) (right_operand op t d'))) (at_span s (binary_of op t (conv t (number_in (seen_cell v d))) (right_operand op t (seen_cell v d'))))
      (λ i. at_span s (binary_of op t (conv t (number_seen v d own.1 i)) (right_seen op t (seen_cell v d') d' (number_seen v d' own'.1) i)))))
  value_known v c globals depth blocks r (convert to a) fits h =
      let inner : IsTrue (expr_fits c a) = both_hold_first (expr_fits c a) (is_some (integer_of (Some (type_of c a)))) fits in
      let parts = or_parts (meets c depth a blocks) (not (is_type (type_of c a) to) && is_handle (value_of c depth a blocks)) h in
      then_known (seen_cell v) (seen_cell v) (λ d. (OwnCell v d × ValueFits (by_store v.store) c.structs blocks depth (type_of c a) d) × ((not (is_type (type_of c a) to) && is_sealed d) ≡ false)) (OwnCell v)
      (value_of (in_whole globals c) depth a (seen v blocks)) (value_of c depth a blocks) _ _
      (also_known (seen_cell v) (λ d. OwnCell v d × ValueFits (by_store v.store) c.structs blocks depth (type_of c a) d) (λ d. (not (is_type (type_of c a) to) && is_sealed d) ≡ false) (value_of (in_whole globals c) depth a (seen v blocks)) (value_of c depth a blocks)
      (also_known (seen_cell v) (OwnCell v) (ValueFits (by_store v.store) c.structs blocks depth (type_of c a)) (value_of (in_whole globals c) depth a (seen v blocks)) (value_of c depth a blocks)
      (value_known v c globals depth blocks r a inner parts.0) (values (by_store v.store) c depth blocks r.setting a inner))
      (convertible (not (is_type (type_of c a) to)) (value_of c depth a blocks) parts.1))
      (λ d own. subst (λ u. Known (seen_cell v) (OwnCell v) (Ok (converted (is_type u to) to (seen_cell v d))) (Ok (converted (is_type (type_of c a) to) to d))) (sym (type_same c globals r.typed a inner))
      (converted_known v c.structs blocks depth (type_of c a) to d r.ranged own.0.1 own.1))
  value_known v c globals depth blocks r (null elem) fits h = record { sight = refl; own = tt {0} }
  value_known v c globals depth blocks r (address p) fits h =
      then_known (seen_place v) (seen_cell v) (OwnPlace v) (OwnCell v) (location_of (in_whole globals c) depth p (seen v blocks)) (location_of c depth p blocks) _ _
      (place_known v c globals depth blocks r p (both_hold_first (place_fits c p) (is_addressed p && is_some (t.element_of (Some (place_type c p)))) fits) h)
      (λ at own. record { sight = refl; own = own })
  value_known v c globals depth blocks r (decay p) fits h =
      then_known (seen_place v) (seen_cell v) (OwnPlace v) (OwnCell v) (location_of (in_whole globals c) depth p (seen v blocks)) (location_of c depth p blocks) _ _
      (place_known v c globals depth blocks r p (both_hold_first (place_fits c p) (is_some (item_of (Some (place_type c p)))) fits) h)
      (λ at own. decayed_known v at at.ty own)
  value_known v c globals depth blocks r (move a b back s) fits h =
      let both : IsTrue (expr_fits c a && expr_fits c b) = both_hold_first (expr_fits c a && expr_fits c b) (is_some (stepped (Some (type_of c a)) (Move back) (Some (type_of c b)))) fits in
      let sides = or_parts (meets c depth a blocks || is_handle (value_of c depth a blocks)) (meets c depth b blocks || is_handle (value_of c depth b blocks)) h in
      let left = or_parts (meets c depth a blocks) (is_handle (value_of c depth a blocks)) sides.0 in
      let right = or_parts (meets c depth b blocks) (is_handle (value_of c depth b blocks)) sides.1 in
      then_known (seen_cell v) (seen_cell v) (OwnCell v) (OwnCell v) (value_of (in_whole globals c) depth a (seen v blocks)) (value_of c depth a blocks) _ _
      (value_known v c globals depth blocks r a (both_hold_first (expr_fits c a) (expr_fits c b) both) left.0)
      (λ d own.
      then_known (seen_cell v) (seen_cell v) (λ d'. OwnCell v d' × IsPlain d') (OwnCell v) (value_of (in_whole globals c) depth b (seen v blocks)) (value_of c depth b blocks) _ _
      (plain_known v (value_of (in_whole globals c) depth b (seen v blocks)) (value_of c depth b blocks) (value_known v c globals depth blocks r b (and_right (expr_fits c a) (expr_fits c b) both) right.0) right.1)
      (λ d' own'. subst (λ n. Known (seen_cell v) (OwnCell v) (moving s back n (seen_cell v d)) (moving s back (number_in d') d)) (sym (number_seen v d' own'.1)) (moved_known v s (directed back (number_in d')) d own)))
  value_known v c globals depth blocks r (compare op a b s) fits h =
      let both : IsTrue (expr_fits c a && expr_fits c b) = both_hold_first (expr_fits c a && expr_fits c b) (is_some (stepped (Some (type_of c a)) (Compare op) (Some (type_of c b)))) fits in
      let sides = or_parts (meets c depth a blocks || is_handle (value_of c depth a blocks)) (meets c depth b blocks || is_handle (value_of c depth b blocks)) h in
      let left = or_parts (meets c depth a blocks) (is_handle (value_of c depth a blocks)) sides.0 in
      let right = or_parts (meets c depth b blocks) (is_handle (value_of c depth b blocks)) sides.1 in
      let inner : IsTrue (expr_fits c a) = both_hold_first (expr_fits c a) (expr_fits c b) both in
      then_known (seen_cell v) (seen_cell v) (OwnCell v) (OwnCell v) (value_of (in_whole globals c) depth a (seen v blocks)) (value_of c depth a blocks) _ _
      (value_known v c globals depth blocks r a inner left.0)
      (λ d own.
      then_known (seen_cell v) (seen_cell v) (OwnCell v) (OwnCell v) (value_of (in_whole globals c) depth b (seen v blocks)) (value_of c depth b blocks) _ _
      (value_known v c globals depth blocks r b (and_right (expr_fits c a) (expr_fits c b) both) right.0)
      (λ d' own'. tests_known v (at_span s (compared is_same_name op (pointee_cells c (type_of c a)) (target_of d) (target_of d')))
      (at_span s (compared is_same_name op (pointee_cells (in_whole globals c) (type_of (in_whole globals c) a)) (target_of (seen_cell v d)) (target_of (seen_cell v d'))))
      (ap (λ size. at_span s (compared is_same_name op size (target_of (seen_cell v d)) (target_of (seen_cell v d')))) (cells_same c globals (type_of (in_whole globals c) a) ∙ ap (pointee_cells c) (type_same c globals r.typed a inner))
      ∙ ap (λ q. at_span s q) (compared_seen v op (pointee_cells c (type_of c a)) d d' own own'))))
  value_known v c globals depth blocks r (difference a b s) fits h =
      let both : IsTrue (expr_fits c a && expr_fits c b) = both_hold_first (expr_fits c a && expr_fits c b) (is_some (stepped (Some (type_of c a)) Difference (Some (type_of c b)))) fits in
      let sides = or_parts (meets c depth a blocks || is_handle (value_of c depth a blocks)) (meets c depth b blocks || is_handle (value_of c depth b blocks)) h in
      let left = or_parts (meets c depth a blocks) (is_handle (value_of c depth a blocks)) sides.0 in
      let right = or_parts (meets c depth b blocks) (is_handle (value_of c depth b blocks)) sides.1 in
      then_known (seen_cell v) (seen_cell v) (OwnCell v) (OwnCell v) (value_of (in_whole globals c) depth a (seen v blocks)) (value_of c depth a blocks) _ _
      (value_known v c globals depth blocks r a (both_hold_first (expr_fits c a) (expr_fits c b) both) left.0)
      (λ d own.
      then_known (seen_cell v) (seen_cell v) (OwnCell v) (OwnCell v) (value_of (in_whole globals c) depth b (seen v blocks)) (value_of c depth b blocks) _ _
      (value_known v c globals depth blocks r b (and_right (expr_fits c a) (expr_fits c b) both) right.0)
      (λ d' own'. numbers_known v (at_span s (difference_in is_same_name (target_of d) (target_of d'))) (at_span s (difference_in is_same_name (target_of (seen_cell v d)) (target_of (seen_cell v d'))))
      (ap (λ q. at_span s q) (difference_seen v d d' own own'))))

  pub place_known : (v : View) (c : Context) (globals : List (ℕ × VarTy)) (depth : ℕ) (blocks : Blocks) → Reads v c globals depth blocks → (p : PlaceTree) → IsTrue (place_fits c p) → meets_at c depth p blocks ≡ false →
      Known (seen_place v) (OwnPlace v) (location_of (in_whole globals c) depth p (seen v blocks)) (location_of c depth p blocks)
  place_known v c globals depth blocks r (place root path) fits h =
      then_known (seen_place v) (seen_place v) (OwnPlace v) (OwnPlace v) (root_location (in_whole globals c) depth root (seen v blocks)) (root_location c depth root blocks) _ _
      (root_known v c globals depth blocks r root (both_hold_first (root_fits c root) (is_path c.structs (root_type c root) path) fits) h)
      (λ at own. record { sight = ap Ok (along_whole c globals path (seen_place v at) ∙ along_seen v c path at); own = along_own v c path at own })

  pub root_known : (v : View) (c : Context) (globals : List (ℕ × VarTy)) (depth : ℕ) (blocks : Blocks) → Reads v c globals depth blocks → (root : RootTree) → IsTrue (root_fits c root) → meets_root c depth root blocks ≡ false →
      Known (seen_place v) (OwnPlace v) (root_location (in_whole globals c) depth root (seen v blocks)) (root_location c depth root blocks)
  root_known v c globals depth blocks r (local k) fits h =
      let own = r.locals k in
      record { sight = ap (λ b. Ok (record { block = b; cell = 0; ty = type_at c.variables k })) (sym own.0); own = ap v.of own.0 ∙ own.1 }
  root_known v c globals depth blocks r (global g) fits h =
      let own = r.named g fits in
      let typed = r.typed g fits in
      record { sight = λ i. Ok (record { block = sym own.0 i; cell = 0; ty = typed i }); own = ap v.of own.0 ∙ own.1 }
  root_known v c globals depth blocks r (deref a s) fits h =
      let inner : IsTrue (expr_fits c a) = both_hold_first (expr_fits c a) (is_some (pointee_of (Some (type_of c a)))) fits in
      let parts = or_parts (meets c depth a blocks) (is_handle (value_of c depth a blocks)) h in
      then_known (seen_cell v) (seen_place v) (OwnCell v) (OwnPlace v) (value_of (in_whole globals c) depth a (seen v blocks)) (value_of c depth a blocks) _ _
      (value_known v c globals depth blocks r a inner parts.0)
      (λ d own. subst (λ q. Known (seen_place v) (OwnPlace v) q (pointee c s (type_of c a) d)) (sym (pointee_same c globals s (type_of (in_whole globals c) a) (seen_cell v d) ∙ ap (λ u. pointee c s u (seen_cell v d)) (type_same c globals r.typed a inner)))
      (pointee_known v c s (type_of c a) d (and_right (expr_fits c a) (is_some (pointee_of (Some (type_of c a)))) fits) own))

abbrev pub Always : {A : Type 0} → A → Type 0
Always a = Unit {0}

-- each expression is well formed
abbrev pub exprs_fit : Context → ExprTrees → Bool
exprs_fit c no_exprs = true
exprs_fit c (expr_and e rest) = expr_fits c e && exprs_fit c rest

pub values_known : (v : View) (c : Context) (globals : List (ℕ × VarTy)) (depth : ℕ) (blocks : Blocks) → Reads v c globals depth blocks → (es : ExprTrees) → IsTrue (exprs_fit c es) → meet_any c depth es blocks ≡ false →
    Known (map (seen_cell v)) Always (values_of (in_whole globals c) depth es (seen v blocks)) (values_of c depth es blocks)
values_known v c globals depth blocks r no_exprs fits h = record { sight = refl; own = tt {0} }
values_known v c globals depth blocks r (expr_and e rest) fits h =
    let parts = or_parts (meets c depth e blocks) (meet_any c depth rest blocks) h in
    then_known (seen_cell v) (map (seen_cell v)) (OwnCell v) Always (value_of (in_whole globals c) depth e (seen v blocks)) (value_of c depth e blocks) _ _
    (value_known v c globals depth blocks r e (both_hold_first (expr_fits c e) (exprs_fit c rest) fits) parts.0)
    (λ d own.
    then_known (map (seen_cell v)) (map (seen_cell v)) Always Always (values_of (in_whole globals c) depth rest (seen v blocks)) (values_of c depth rest blocks) _ _
    (values_known v c globals depth blocks r rest (and_right (expr_fits c e) (exprs_fit c rest) fits) parts.1) (λ ds own'. record { sight = refl; own = tt {0} }))
