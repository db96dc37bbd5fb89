-- Values and places of expressions that fit, by induction.
use Rattle.std.proofs.Common.{◌≡◌, ℕ, refl, subst, Option, Some, None, Result, Ok, Err, IfOk, length}
use Rattle.std.specs.Prelude.{IsTrue, ◌&&◌, slice_get, nat_lt, nat_eq, is_some, unwrap_or}
use Rattle.std.specs.Map.{lookup}
use Rattle.std.proofs.lemmas.Option.{slice_get-get_or}
use Rattle.pt_base.specs.declared.int_type.IntType.TheVariants as i
use Rattle.pt_base.proofs.Booleans.{both_hold_first, both_hold_second, false_not_true}
use Rattle.pt_base.proofs.Numbers.{below_holds}
use Rattle.pt_int.specs.Operator.{unary_type}
use Rattle.pt_tree.specs.declared.signature.Elem.TheVariants as e
use Rattle.typed_tree.specs.declared.types.VarTy.{VarTy}
use Rattle.typed_tree.specs.declared.types.VarTy.TheVariants.{Int, Struct, Array, Pointer}
use Rattle.typed_tree.specs.declared.link.LinkStep.TheVariants.{Move, Difference, Compare}
use Rattle.typed_tree.specs.TypeTests.{same_type, type_of_elem, is_scalar, item_of, pointee_of, integer_of}
use Rattle.typed_tree.specs.TypeTests as t
use Rattle.typed_tree.specs.TypeRules.{stepped, unary_fits as operator_fits}
use Rattle.block_memory.specs.Blocks.{Blocks}
use Rattle.pt_core.specs.CodeTree.{RootTree, local, global, deref, PlaceTree, place, ExprTree, constant, read, unary, binary, convert, null, address, decay, move, compare, difference}
use Rattle.pt_core.specs.Types.{Context, type_at, global_type, type_of, place_type, root_type, pointee_type}
use Rattle.runs.specs.Pointers.{directed}
use Rattle.pt_core.specs.Values.{Stop, ◌>>?◌, number_in, value_of, location_of, root_location}
use Rattle.pt_core.specs.WellFormedExpression.{is_path, takes_one, takes_two, is_addressed, expr_fits, place_fits, root_fits}
use Rattle.core_soundness_law.specs.Kept.{Kept}
use Rattle.core_soundness_law.specs.Fits.{IntegerFits, ValueFits}
use Rattle.core_soundness_law.specs.Laws.{LocationFits}
use Rattle.typed_tree.proofs.SameTypes.{equal_types}
use Rattle.core_soundness_law.proofs.Leaves.{IsCounted}
use Rattle.core_soundness_law.proofs.Objects.{Setting, local_fits, global_fits, path_fits, path_counted, pointee_fits, read_fits, address_fits, decay_fits, moved_fits}
use Rattle.core_soundness_law.proofs.Numbers.{unary_fits, binary_fits, converted_fits, told_fits, difference_fits}

-- one evaluation after another
pub bound : {A B : Type 0} (P : A → Type 0) (Q : B → Type 0) (r : Result A Stop) (next : A → Result B Stop) → IfOk r P → ((x : A) → P x → IfOk (next x) Q) → IfOk (r >>? next) Q
bound P Q (Ok x) next f k = k x f
bound P Q (Err stop) next f k = tt {0}

-- ---- roots

known_global : (c : Context) (g : ℕ) → IsTrue (is_some (lookup (nat_eq g) c.globals)) → lookup (nat_eq g) c.globals ≡ Some (global_type c g)
known_global c g h = go (lookup (nat_eq g) c.globals) h
  where
    go : (o : Option VarTy) → IsTrue (is_some o) → o ≡ Some (unwrap_or o (Int i.Int))
    go None h = false_not_true h
    go (Some ty) h = refl

pub known_variable : (c : Context) (v : ℕ) → IsTrue (nat_lt v (length c.variables)) → slice_get c.variables v ≡ Some (type_at c.variables v)
known_variable c v h = slice_get-get_or c.variables v (Int i.Int) (below_holds v (length c.variables) h)

element_counted : (ty : VarTy) → IsTrue (is_some (pointee_of (Some ty))) → IsCounted (pointee_type ty)
element_counted (Int t) h = false_not_true h
element_counted (Struct n) h = false_not_true h
element_counted (Array elem count) h = false_not_true h
element_counted (Pointer (e.Int t) fixed) h = tt {0}
element_counted (Pointer (e.Struct n) fixed) h = tt {0}

root_counted : (kept : Kept) (c : Context) (depth : ℕ) (blocks : Blocks) → Setting kept c depth blocks → (r : RootTree) → IsTrue (root_fits c r) → IsCounted (root_type c r)
root_counted kept c depth blocks s (local v) h = (s.variables v (type_at c.variables v) (known_variable c v h)).1
root_counted kept c depth blocks s (global g) h = (s.globals g (global_type c g) (known_global c g h)).2
root_counted kept c depth blocks s (deref a span) h = element_counted (type_of c a) (both_hold_second (expr_fits c a) (is_some (pointee_of (Some (type_of c a)))) h)

place_counted : (kept : Kept) (c : Context) (depth : ℕ) (blocks : Blocks) → Setting kept c depth blocks → (p : PlaceTree) → IsTrue (place_fits c p) → IsCounted (place_type c p)
place_counted kept c depth blocks s (place root path) h =
    path_counted c.structs s.sound path (root_type c root) (both_hold_second (root_fits c root) (is_path c.structs (root_type c root) path) h)
    (root_counted kept c depth blocks s root (both_hold_first (root_fits c root) (is_path c.structs (root_type c root) path) h))

-- ---- the walk

mutual
  pub values : (kept : Kept) (c : Context) (depth : ℕ) (blocks : Blocks) → Setting kept c depth blocks → (e : ExprTree) → IsTrue (expr_fits c e) → IfOk (value_of c depth e blocks) (ValueFits kept c.structs blocks depth (type_of c e))
  values kept c depth blocks s (constant t v) h = h
  values kept c depth blocks s (read p) h =
      bound (LocationFits c blocks depth (place_type c p)) (ValueFits kept c.structs blocks depth (place_type c p)) (location_of c depth p blocks) _
      (places kept c depth blocks s p (both_hold_first (place_fits c p) (is_scalar (Some (place_type c p))) h))
      (λ at fits. read_fits kept c depth blocks s (place_type c p) at (both_hold_second (place_fits c p) (is_scalar (Some (place_type c p))) h) fits)
  values kept c depth blocks s (unary op t a span) h =
      let takes : IsTrue (takes_one op t (type_of c a)) = both_hold_second (expr_fits c a) (takes_one op t (type_of c a)) h in
      let same : type_of c a ≡ Int t = equal_types (type_of c a) (Int t) (both_hold_first (same_type (type_of c a) (Int t)) (operator_fits op (Some (Int t)) (Some (Int (unary_type op t)))) takes) in
      bound (ValueFits kept c.structs blocks depth (type_of c a)) (IntegerFits kept (unary_type op t)) (value_of c depth a blocks) _
      (values kept c depth blocks s a (both_hold_first (expr_fits c a) (takes_one op t (type_of c a)) h))
      (λ v fits. unary_fits kept op t span v (subst (λ u. ValueFits kept c.structs blocks depth u v) same fits))
  values kept c depth blocks s (binary op t a b span) h =
      let both : IsTrue (expr_fits c a && expr_fits c b) = both_hold_first (expr_fits c a && expr_fits c b) (takes_two op t (type_of c a) (type_of c b)) h in
      bound (ValueFits kept c.structs blocks depth (type_of c a)) (IntegerFits kept _) (value_of c depth a blocks) _ (values kept c depth blocks s a (both_hold_first (expr_fits c a) (expr_fits c b) both))
      (λ v _. bound (ValueFits kept c.structs blocks depth (type_of c b)) (IntegerFits kept _) (value_of c depth b blocks) _ (values kept c depth blocks s b (both_hold_second (expr_fits c a) (expr_fits c b) both))
      (λ w _. binary_fits kept op t span v w))
  values kept c depth blocks s (convert to a) h =
      bound (ValueFits kept c.structs blocks depth (type_of c a)) (IntegerFits kept to) (value_of c depth a blocks) _
      (values kept c depth blocks s a (both_hold_first (expr_fits c a) (is_some (integer_of (Some (type_of c a)))) h))
      (λ v fits. converted_fits kept c.structs blocks depth (type_of c a) to v fits)
  values kept c depth blocks s (null elem) h = tt {0}
  values kept c depth blocks s (address p) h =
      let rest : IsTrue (is_addressed p && is_some (t.element_of (Some (place_type c p)))) = both_hold_second (place_fits c p) (is_addressed p && is_some (t.element_of (Some (place_type c p)))) h in
      bound (LocationFits c blocks depth (place_type c p)) (ValueFits kept c.structs blocks depth (type_of c (address p))) (location_of c depth p blocks) _
      (places kept c depth blocks s p (both_hold_first (place_fits c p) (is_addressed p && is_some (t.element_of (Some (place_type c p)))) h))
      (λ at fits. address_fits kept c blocks depth (place_type c p) at (both_hold_second (is_addressed p) (is_some (t.element_of (Some (place_type c p)))) rest) fits)
  values kept c depth blocks s (decay p) h =
      let lies : IsTrue (place_fits c p) = both_hold_first (place_fits c p) (is_some (item_of (Some (place_type c p)))) h in
      bound (LocationFits c blocks depth (place_type c p)) (ValueFits kept c.structs blocks depth (type_of c (decay p))) (location_of c depth p blocks) _ (places kept c depth blocks s p lies)
      (λ at fits. decay_fits kept c blocks depth (place_type c p) at (both_hold_second (place_fits c p) (is_some (item_of (Some (place_type c p)))) h) (place_counted kept c depth blocks s p lies) fits)
  values kept c depth blocks s (move a b back span) h =
      let both : IsTrue (expr_fits c a && expr_fits c b) = both_hold_first (expr_fits c a && expr_fits c b) (is_some (stepped (Some (type_of c a)) (Move back) (Some (type_of c b)))) h in
      bound (ValueFits kept c.structs blocks depth (type_of c a)) (ValueFits kept c.structs blocks depth (type_of c a)) (value_of c depth a blocks) _ (values kept c depth blocks s a (both_hold_first (expr_fits c a) (expr_fits c b) both))
      (λ v fits. bound (ValueFits kept c.structs blocks depth (type_of c b)) (ValueFits kept c.structs blocks depth (type_of c a)) (value_of c depth b blocks) _ (values kept c depth blocks s b (both_hold_second (expr_fits c a) (expr_fits c b) both))
      (λ w _. moved_fits kept c.structs blocks depth span (directed back (number_in w)) (type_of c a) v fits))
  values kept c depth blocks s (compare op a b span) h =
      let both : IsTrue (expr_fits c a && expr_fits c b) = both_hold_first (expr_fits c a && expr_fits c b) (is_some (stepped (Some (type_of c a)) (Compare op) (Some (type_of c b)))) h in
      bound (ValueFits kept c.structs blocks depth (type_of c a)) (IntegerFits kept i.Int) (value_of c depth a blocks) _ (values kept c depth blocks s a (both_hold_first (expr_fits c a) (expr_fits c b) both))
      (λ v _. bound (ValueFits kept c.structs blocks depth (type_of c b)) (IntegerFits kept i.Int) (value_of c depth b blocks) _ (values kept c depth blocks s b (both_hold_second (expr_fits c a) (expr_fits c b) both))
      (λ w _. told_fits kept span _))
  values kept c depth blocks s (difference a b span) h =
      let both : IsTrue (expr_fits c a && expr_fits c b) = both_hold_first (expr_fits c a && expr_fits c b) (is_some (stepped (Some (type_of c a)) Difference (Some (type_of c b)))) h in
      bound (ValueFits kept c.structs blocks depth (type_of c a)) (IntegerFits kept i.Long) (value_of c depth a blocks) _ (values kept c depth blocks s a (both_hold_first (expr_fits c a) (expr_fits c b) both))
      (λ v first. bound (ValueFits kept c.structs blocks depth (type_of c b)) (IntegerFits kept i.Long) (value_of c depth b blocks) _ (values kept c depth blocks s b (both_hold_second (expr_fits c a) (expr_fits c b) both))
      (λ w second. difference_fits kept c.structs blocks depth span (type_of c a) (type_of c b) v w first second))

  pub places : (kept : Kept) (c : Context) (depth : ℕ) (blocks : Blocks) → Setting kept c depth blocks → (p : PlaceTree) → IsTrue (place_fits c p) → IfOk (location_of c depth p blocks) (LocationFits c blocks depth (place_type c p))
  places kept c depth blocks s (place root path) h =
      bound (LocationFits c blocks depth (root_type c root)) (LocationFits c blocks depth (place_type c (place root path))) (root_location c depth root blocks) _
      (roots kept c depth blocks s root (both_hold_first (root_fits c root) (is_path c.structs (root_type c root) path) h))
      (λ at fits. path_fits kept c depth blocks s path (root_type c root) at (both_hold_second (root_fits c root) (is_path c.structs (root_type c root) path) h) fits)

  pub roots : (kept : Kept) (c : Context) (depth : ℕ) (blocks : Blocks) → Setting kept c depth blocks → (r : RootTree) → IsTrue (root_fits c r) → IfOk (root_location c depth r blocks) (LocationFits c blocks depth (root_type c r))
  roots kept c depth blocks s (local v) h = local_fits kept c depth blocks s v (type_at c.variables v) (known_variable c v h)
  roots kept c depth blocks s (global g) h = global_fits kept c depth blocks s g (global_type c g) (known_global c g h)
  roots kept c depth blocks s (deref a span) h =
      bound (ValueFits kept c.structs blocks depth (type_of c a)) (LocationFits c blocks depth (pointee_type (type_of c a))) (value_of c depth a blocks) _
      (values kept c depth blocks s a (both_hold_first (expr_fits c a) (is_some (pointee_of (Some (type_of c a)))) h))
      (λ v fits. pointee_fits kept c blocks depth span (type_of c a) v (both_hold_second (expr_fits c a) (is_some (pointee_of (Some (type_of c a)))) h) fits)
