-- Each edge of a well formed program joins two of its slots: what an expression carries is within the program, and so is
-- where its value goes.
use Rattle.std.proofs.Common.{◌≡◌, ◌≤◌, ◌<◌, ℕ, zero, suc, ◌+◌, refl, sym, subst, arith, Bool, true, false, Option, None, Some, List, [], ◌∷◌, ◌++◌, length, map, if◌then◌else◌}
use Rattle.std.specs.Prelude.{◌&&◌, get_or, nat_le, nat_lt, option_and_then, option_map, slice_get, All}
use Rattle.std.specs.List.{AllByRecursion, flat_map, list_all, range_with_len}
use Rattle.std.proofs.lemmas.Bool.Decides.{nat_tests}
use Rattle.std.proofs.lemmas.List.Elements.{All-cons, All-nil}
use Rattle.pt_base.specs.declared.ids.FnId.{FnId}
use Rattle.pt_base.specs.declared.ids.VarId.{VarId}
use Rattle.pt_base.specs.declared.int_type.IntType.{IntType}
use Rattle.pt_base.specs.declared.slot.Edge.{Edge}
use Rattle.pt_base.proofs.Booleans.{both_hold_first, both_hold_second, false_not_true}
use Rattle.pt_base.proofs.Places.{get_below_length}
use Rattle.pt_tree.specs.declared.signature.Elem.{Elem}
use Rattle.pt_tree.specs.declared.signature.Elem.TheVariants as e
use Rattle.typed_tree.specs.declared.ids.ExprId.{ExprId}
use Rattle.typed_tree.specs.declared.part.Part.{Part}
use Rattle.typed_tree.specs.declared.part.Role.{Role}
use Rattle.typed_tree.specs.declared.part.Role.TheVariants as r
use Rattle.typed_tree.specs.declared.statement.TypedDeclarator.{TypedDeclarator}
use Rattle.typed_tree.specs.declared.statement.TypedForInit.{TypedForInit}
use Rattle.typed_tree.specs.declared.statement.TypedForInit.TheVariants as begin
use Rattle.typed_tree.specs.declared.statement.TypedInit.{TypedInit}
use Rattle.typed_tree.specs.declared.statement.TypedInit.TheVariants as init
use Rattle.typed_tree.specs.declared.types.Field.{Field}
use Rattle.typed_tree.specs.declared.types.StructInfo.{StructInfo}
use Rattle.typed_tree.specs.declared.types.VarTy.{VarTy}
use Rattle.typed_tree.specs.declared.types.VarTy.TheVariants.{Int, Struct, Array, Pointer}
use Rattle.typed_tree.specs.declared.variable.Var.{Var}
use Rattle.typed_tree.specs.Cells.{leaves_of}
use Rattle.typed_tree.specs.ExpressionTree as src
use Rattle.typed_tree.specs.ExpressionTree.{typed, FormTree}
use Rattle.typed_tree.specs.Parts.{part_of, optional_part, init_parts, declarator_parts, declaration_parts, for_init_parts, parts_of, else_parts, all_parts, section_parts, function_parts}
use Rattle.typed_tree.specs.Sizes.{fields_of}
use Rattle.typed_tree.specs.StatementTree as b
use Rattle.typed_tree.specs.StatementTree.{BodyTree, ElseTree, BodyTrees, SectionTrees, no_else, otherwise, no_bodies, body_and, section, no_sections, section_and}
use Rattle.typed_tree.specs.TypedTree.{TypedTree, FunctionTree}
use Rattle.typed_tree.specs.TypeTests.{both_int, integer_of, is_scalar, is_value, same_types, type_of_elem}
use Rattle.typed_tree.specs.WellFormed.{field_sound, is_plain_type, is_small, is_variable_type, struct_sound, structs_sound}
use Rattle.typed_tree.specs.WellFormedExpression.{form_fits, is_elem, is_typed, ty_of}
use Rattle.typed_tree.specs.WellFormedStatement as s
use Rattle.typed_tree.specs.WellFormedStatement.{any_type, declaration_fits, declarator_fits, expr_fits, found_fits, init_fits, item_types, items_fit, labels_fit, labels_of, option_fits, promotes_to}
use Rattle.typed_tree.proofs.SameTypes.{equal_options}
use Rattle.typed_tree.proofs.WellFormedLemmas.{Facts, facts_of}
use Rattle.usages.specs.declared.usage.How.{How}
use Rattle.usages.specs.Usages.{UsageTree, used, evaluated, form_usages, how_of, item_number, part_usages, parts_usages, usages_in}
use Rattle.sides.specs.Carried.{carried, place_slots, scope_of}
use Rattle.sides.specs.Leaves.{leaf_count}
use Rattle.flow_edges.specs.Edges.{assigned_edges, begun_slots, edges_in, form_edges, moved_to, target_slots, usage_edges}
use Rattle.flow_edges.specs.Items.{items_of}
use Rattle.flow_edges.specs.Moves.{Move, edge_between, edges_between, edges_from, leaf_edges, move_edges}
use Rattle.flow_rules.specs.declared.accepted.Accepted.{Accepted}
use Rattle.lowered_code_law.proofs.FormsPlaces.{variable_known}
use Rattle.lowered_code_law.proofs.FormsPrograms.{sound_at}
use Rattle.lowered_code_law.proofs.FormsRules.{assign_rules}
use Rattle.lowered_code_law.proofs.FormsStatements.{tests}
use Rattle.handle_classes_law.proofs.ObjectsItems.{all_leaves, array_leaves, fields_sound, items_below, struct_leaves}
use Rattle.handle_classes_law.specs.SlavesLaws.{EdgesJoinSlots, JoinsSlots}
use Rattle.handle_classes_law.proofs.SlavesBench.{Bench, seen, Fits}
use Rattle.handle_classes_law.proofs.SlavesGround.{outer_slots}
use Rattle.handle_classes_law.proofs.SlavesInitialisers.{begins_free, returned_free}
use Rattle.handle_classes_law.proofs.SlavesKnown.{bench, inner_targets, leaf_low, once_room, outer_targets, top_of}
use Rattle.handle_classes_law.proofs.SlavesPrograms.{bench_fits, bench_rooms}
use Rattle.handle_classes_law.proofs.SlavesSlots.{result_within}
use Rattle.handle_classes_law.proofs.SlavesWithin.{AllRoom, IsRight, NoArgument, Rooms, carried_room, count, form_right, int_leaf, kept_free, operated_free, place_room}

-- ---- edges

abbrev Joins : ℕ → List Edge → Type 0
Joins top [] = Unit {0}
Joins top (x ∷ xs) = (x.from.0 < top) × (x.to.0 < top) × Joins top xs

joins_both : (top : ℕ) (xs ys : List Edge) → Joins top xs → Joins top ys → Joins top (xs ++ ys)
joins_both top [] ys h k = k
joins_both top (x ∷ xs) ys h k = (h.0, h.1, joins_both top xs ys h.2 k)

between_joins : (v : Move) (top x y : ℕ) → x < top → y < top → Joins top (edges_between v x y)
between_joins v top x y low less = (low, less, go v.back)
  where
    go : (c : Bool) → Joins top (if c then edge_between v.span y x ∷ [] else [])
    go true = (less, low, tt)
    go false = tt

from_joins : (v : Move) (top k j x : ℕ) (ys : List ℕ) → j < k → x + j < top → AllRoom top k ys → Joins top (flat_map (λ y. edges_between v (x + j) (y + j)) ys)
from_joins v top k j x [] less low h = tt
from_joins v top k j x (y ∷ ys) less low h =
    joins_both top (edges_between v (x + j) (y + j)) (flat_map (λ z. edges_between v (x + j) (z + j)) ys) (between_joins v top (x + j) (y + j) low (leaf_low y k j top less h.0)) (from_joins v top k j x ys less low h.1)

leaf_joins : (v : Move) (top k j : ℕ) (xs : List ℕ) → j < k → AllRoom top k xs → AllRoom top k v.to → Joins top (flat_map (edges_from v j) xs)
leaf_joins v top k j [] less h to = tt
leaf_joins v top k j (x ∷ xs) less h to =
    joins_both top (edges_from v j x) (flat_map (edges_from v j) xs) (from_joins v top k j x v.to less (leaf_low x k j top less h.0) to) (leaf_joins v top k j xs less h.1 to)

range_joins : (top : ℕ) (make : ℕ → List Edge) (start n : ℕ) → ((j : ℕ) → j < start + n → Joins top (make j)) → Joins top (flat_map make (range_with_len start n))
range_joins top make start zero h = tt
range_joins top make start (suc n) h =
    joins_both top (make start) (flat_map make (range_with_len (start + 1) n)) (h start (omega arith)) (range_joins top make (start + 1) n (λ j less. h j (omega (arith, less))))

-- a value that moves from within to within
move_joins : (w : Bench) (top : ℕ) (a : src.ExprTree) (ys : List ℕ) → AllRoom top (count w (ty_of a)) (carried (seen w) a) → AllRoom top (count w (ty_of a)) ys → Joins top (move_edges (moved_to (seen w) a ys))
move_joins w top a ys from to =
    let v = moved_to (seen w) a ys in
    range_joins top (leaf_edges v) 0 v.leaves (λ j less. leaf_joins v top (count w (ty_of a)) j v.from (omega (arith, less)) (once_room top (count w (ty_of a)) (carried (seen w) a) from) (once_room top (count w (ty_of a)) ys to))

-- ---- what is evaluated

module _ (t : TypedTree) (a : Accepted) (n : ℕ) (f : FunctionTree) (facts : Facts t) (g : Fits (bench t a n f [])) (rooms : Rooms (top_of t) (bench t a n f [])) where
  abbrev own : Bench
  own = bench t a n f []

  abbrev top : ℕ
  top = top_of t

  assigned_joins : (form : FormTree) (ty : Option VarTy) → form_fits own.w.names form ty ≡ true → Joins top (assigned_edges (scope_of t n) form)
  assigned_joins (src.assign p x) ty h =
      let o = assign_rules own.w.names p x ty h in
      move_joins own top x (place_slots (seen own) p) (carried_room x own top g rooms o.right)
      (subst (λ z. AllRoom top (count own z) (place_slots (seen own) p)) (sym o.same) (place_room p own top o.type g rooms o.fits o.place))
  assigned_joins (src.constant v) ty h = tt
  assigned_joins src.null ty h = tt
  assigned_joins (src.read p) ty h = tt
  assigned_joins (src.decay p) ty h = tt
  assigned_joins (src.address p) ty h = tt
  assigned_joins (src.unary op x) ty h = tt
  assigned_joins (src.convert x) ty h = tt
  assigned_joins (src.discard x) ty h = tt
  assigned_joins (src.chain x ls) ty h = tt
  assigned_joins (src.logical op x os) ty h = tt
  assigned_joins (src.choice x c d) ty h = tt
  assigned_joins (src.compound p at op x) ty h = tt
  assigned_joins (src.step p at back postfix) ty h = tt
  assigned_joins (src.call c arguments) ty h = tt

  form_joins : (x : src.ExprTree) → is_typed own.w.names x ≡ true → Joins top (form_edges (scope_of t n) x)
  form_joins (typed at ty form) h = assigned_joins form ty h

  abbrev UsagesJoin : List UsageTree → Type 0
  UsagesJoin us = AllByRecursion (λ u. Joins top (usage_edges t n u)) us

  usages_both : (us vs : List UsageTree) → UsagesJoin us → UsagesJoin vs → UsagesJoin (us ++ vs)
  usages_both [] vs h k = k
  usages_both (u ∷ us) vs h k = (h.0, usages_both us vs h.1 k)

  usage_joins : (u : UsageTree) → is_typed own.w.names u.value ≡ true → AllRoom top (count own (ty_of u.value)) (target_slots t n u.how (ty_of u.value)) → Joins top (usage_edges t n u)
  usage_joins u h targets =
      joins_both top (form_edges (scope_of t n) u.value) (move_edges (moved_to (scope_of t n) u.value (target_slots t n u.how (ty_of u.value)))) (form_joins u.value h)
      (move_joins own top u.value (target_slots t n u.how (ty_of u.value)) (carried_room u.value own top g rooms h) targets)

  inner_joins : (us : List UsageTree) → AllByRecursion (IsRight own.w.names) us → UsagesJoin us
  inner_joins [] right = tt
  inner_joins (u ∷ us) right = (usage_joins u right.0.typed (inner_targets u.how t n f (ty_of u.value) facts right.0.inner right.0.passes), inner_joins us right.1)

  -- an outermost expression, where there is room for what it moves to
  outer_joins : (x : src.ExprTree) (how : How) → NoArgument how → is_typed own.w.names x ≡ true → AllRoom top (count own (ty_of x)) (outer_slots own how (ty_of x)) → UsagesJoin (evaluated how x)
  outer_joins (typed at ty form) how free h room =
      let x = typed at ty form in
      usages_both (form_usages ty form) (used how x ∷ []) (inner_joins (form_usages ty form) (form_right form ty own.w.names h)) (usage_joins (used how x) h (outer_targets how t a n f [] ty free room), tt)

  -- ---- the parts of a body

  -- an outermost expression is typed, and there is room for its value where it goes
  abbrev Fitting : Part → Type 0
  Fitting p = (x : src.ExprTree) → slice_get t.exprs p.expr.0 ≡ Some x → (is_typed own.w.names x ≡ true) × ((k : ℕ) → AllRoom top (count own (ty_of x)) (outer_slots own (how_of p.role k) (ty_of x)))

  abbrev AllFit : List Part → Type 0
  AllFit ps = AllByRecursion Fitting ps

  fit_both : (ps qs : List Part) → AllFit ps → AllFit qs → AllFit (ps ++ qs)
  fit_both [] qs h k = k
  fit_both (p ∷ ps) qs h k = (h.0, fit_both ps qs h.1 k)

  no_argument : (role : Role) (k : ℕ) → NoArgument (how_of role k)
  no_argument r.Value k = kept_free
  no_argument r.Condition k = operated_free
  no_argument (r.Init v) k = begins_free v k
  no_argument r.Returned k = returned_free

  parts_join : (ps : List Part) → AllFit ps → (before : Role) (number : ℕ) → UsagesJoin (parts_usages t.exprs before number ps)
  parts_join [] h before number = tt
  parts_join (p ∷ ps) h before number =
      usages_both (part_usages (how_of p.role (item_number before number p.role)) (slice_get t.exprs p.expr.0)) (parts_usages t.exprs p.role (item_number before number p.role) ps)
      (part (item_number before number p.role) (slice_get t.exprs p.expr.0) refl) (parts_join ps h.1 p.role (item_number before number p.role))
    where
      part : (k : ℕ) (o : Option src.ExprTree) → slice_get t.exprs p.expr.0 ≡ o → UsagesJoin (part_usages (how_of p.role k) o)
      part k None is = tt
      part k (Some x) is = outer_joins x (how_of p.role k) (no_argument p.role k) (h.0 x is).0 ((h.0 x is).1 k)

  abbrev c : s.Scope
  c = tests own.w t.exprs

  -- where there is room for each type that passes the test
  fitting : (test : Option VarTy → Bool) (role : Role) (x : ExprId) → expr_fits c test x ≡ true → ((ty : Option VarTy) (k : ℕ) → test ty ≡ true → AllRoom top (count own ty) (outer_slots own (how_of role k) ty)) → Fitting (part_of role x)
  fitting test role x h room = λ y is. ((both y is).0, λ k. room (ty_of y) k (both y is).1)
    where
      both : (y : src.ExprTree) → slice_get t.exprs x.0 ≡ Some y → (is_typed own.w.names y ≡ true) × (test (ty_of y) ≡ true)
      both y is =
          let k : found_fits own.w.names test (Some y) ≡ true = subst (λ o. found_fits own.w.names test o ≡ true) is h in
          (both_hold_first (is_typed own.w.names y) (test (ty_of y)) k, both_hold_second (is_typed own.w.names y) (test (ty_of y)) k)

  value_fits : (x : ExprId) → expr_fits c any_type x ≡ true → Fitting (part_of r.Value x)
  value_fits x h = fitting any_type r.Value x h (λ ty k fits. tt)

  condition_fits : (test : Option VarTy → Bool) (x : ExprId) → expr_fits c test x ≡ true → Fitting (part_of r.Condition x)
  condition_fits test x h = fitting test r.Condition x h (λ ty k fits. tt)

  -- ---- what is returned

  no_integer : {X : Type 0} (o : Option IntType) → both_int None o ≡ true → X
  no_integer None h = false_not_true h
  no_integer (Some i) h = false_not_true h

  returned_room : own.results + own.function < top → (ty : Option VarTy) (o : Option IntType) → both_int (integer_of ty) o ≡ true → own.results + own.function + count own ty ≤ top
  returned_room low (Some (Int i)) o h = let one = int_leaf t.structs i in omega (arith, one, low)
  returned_room low (Some (Struct m)) o h = no_integer o h
  returned_room low (Some (Array elem m)) o h = no_integer o h
  returned_room low (Some (Pointer elem m)) o h = no_integer o h
  returned_room low None o h = no_integer o h

  -- ---- initialisers

  one_item : (x k : ℕ) → get_or (x ∷ []) k x ≡ x
  one_item x zero = refl
  one_item x (suc k) = refl

  item_low : (bound : ℕ) (xs : List ℕ) (k d : ℕ) → list_all (λ x. nat_lt x bound) xs ≡ true → d < bound → get_or xs k d < bound
  item_low bound [] k d h low = low
  item_low bound (x ∷ xs) zero d h low = let one = both_hold_first (nat_lt x bound) (list_all (λ y. nat_lt y bound) xs) h in grind (arith, nat_tests, one)
  item_low bound (x ∷ xs) (suc k) d h low = item_low bound xs k d (both_hold_second (nat_lt x bound) (list_all (λ y. nat_lt y bound) xs) h) low

  -- an object of a plain type has a leaf
  plain_leaf : (structs : List StructInfo) (m : ℕ) → ((k : ℕ) → k < m → 1 ≤ leaf_count structs (Struct k)) → (ty : VarTy) → is_plain_type m ty ≡ true → 1 ≤ leaf_count structs ty
  plain_leaf structs m below (Int i) is = let one = int_leaf structs i in omega (arith, one)
  plain_leaf structs m below (Struct k) is = below k (grind (arith, nat_tests, is))
  plain_leaf structs m below (Array elem many) is = let same = array_leaves structs elem many in let one = element elem (both_hold_first (is_elem m (Some elem)) (nat_le 1 many) is) in omega (arith, same, one)
    where
      element : (elem : Elem) → is_elem m (Some elem) ≡ true → 1 ≤ leaf_count structs (type_of_elem elem)
      element (e.Int i) k = let one = int_leaf structs i in omega (arith, one)
      element (e.Struct k) h = below k (grind (arith, nat_tests, h))
  plain_leaf structs m below (Pointer elem fixed) is = false_not_true is

  has_fields : (all : List StructInfo) (earlier : ℕ) (xs : List StructInfo) (k : ℕ) → structs_sound all earlier xs ≡ true → k < length xs → 1 ≤ length (get_or xs k (record { name = []; fields = [] })).fields
  has_fields all earlier [] k h less = absurd (omega (arith, less))
  has_fields all earlier (x ∷ xs) zero h less =
      let one = both_hold_first (nat_le 1 (length x.fields)) (list_all (field_sound all earlier) x.fields) (both_hold_first (struct_sound all earlier x) (structs_sound all (suc earlier) xs) h) in grind (arith, nat_tests, one)
  has_fields all earlier (x ∷ xs) (suc k) h less = has_fields all (suc earlier) xs k (both_hold_second (struct_sound all earlier x) (structs_sound all (suc earlier) xs) h) (omega (arith, less))

  fields_leaf : (structs : List StructInfo) (m : ℕ) → ((k : ℕ) → k < m → 1 ≤ leaf_count structs (Struct k)) → (fs : List Field) → 1 ≤ length fs → list_all (field_sound structs m) fs ≡ true → 1 ≤ all_leaves structs fs
  fields_leaf structs m below [] some h = absurd (omega (arith, some))
  fields_leaf structs m below (x ∷ fs) some h =
      let one = plain_leaf structs m below x.ty (both_hold_first (is_plain_type m x.ty) (is_small structs x.ty) (both_hold_first (field_sound structs m x) (list_all (field_sound structs m) fs) h)) in omega (arith, one)

  struct_leaf : (structs : List StructInfo) → structs_sound structs 0 structs ≡ true → (m : ℕ) → m ≤ length structs → (k : ℕ) → k < m → 1 ≤ leaf_count structs (Struct k)
  struct_leaf structs sound zero small k less = absurd (omega (arith, less))
  struct_leaf structs sound (suc m) small k less =
      let in_list : k < length structs = omega (arith, less, small) in
      subst (λ z. 1 ≤ z) (sym (struct_leaves structs k sound in_list))
      (fields_leaf structs k (λ j low. struct_leaf structs sound m (omega (arith, small)) j (omega (arith, less, low))) (fields_of structs k) (has_fields structs 0 structs k sound in_list) (fields_sound structs k sound))

  object_leaf : (ty : VarTy) → is_plain_type (length t.structs) ty ≡ true → 1 ≤ leaf_count t.structs ty
  object_leaf ty plain = plain_leaf t.structs (length t.structs) (struct_leaf t.structs g.agrees.structs (length t.structs) (omega arith)) ty plain

  -- a value of the variable's own type
  whole_room : (v : VarId) (start : ℕ) (ty : VarTy) (k : ℕ) → slice_get own.variables v.0 ≡ Some (record { ty = ty; start = start }) → start + leaf_count t.structs ty ≤ top → is_value (Some ty) ≡ true →
      AllRoom top (leaf_count t.structs ty) (begun_slots (seen own) (slice_get own.variables v.0) k (Some ty))
  whole_room v start ty k is low value = subst (λ o. AllRoom top (leaf_count t.structs ty) (begun_slots (seen own) o k (Some ty))) (sym is) (go ty low value)
    where
      go : (ty : VarTy) → start + leaf_count t.structs ty ≤ top → is_value (Some ty) ≡ true → AllRoom top (leaf_count t.structs ty) (begun_slots (seen own) (Some (record { ty = ty; start = start })) k (Some ty))
      go (Int i) low value = (subst (λ z. z + leaf_count t.structs (Int i) ≤ top) (sym (one_item start k)) low, tt)
      go (Pointer elem fixed) low value = (subst (λ z. z + leaf_count t.structs (Pointer elem fixed) ≤ top) (sym (one_item start k)) low, tt)
      go (Struct m) low value = (low, tt)
      go (Array elem many) low value = false_not_true value

  -- what an item of each of these types initialises
  abbrev ItemRooms : VarId → List VarTy → Type 0
  ItemRooms v tys = AllByRecursion (λ ty. (k : ℕ) → AllRoom top (leaf_count t.structs ty) (begun_slots (seen own) (slice_get own.variables v.0) k (Some ty))) tys

  integer_rooms : (v : VarId) (start : ℕ) (ty : VarTy) → slice_get own.variables v.0 ≡ Some (record { ty = ty; start = start }) → start + leaf_count t.structs ty ≤ top → is_plain_type (length t.structs) ty ≡ true → (us : List IntType) → ItemRooms v (map Int us)
  integer_rooms v start ty is low plain [] = tt
  integer_rooms v start ty is low plain (u ∷ us) = (one, integer_rooms v start ty is low plain us)
    where
      one : (k : ℕ) → AllRoom top (leaf_count t.structs (Int u)) (begun_slots (seen own) (slice_get own.variables v.0) k (Some (Int u)))
      one k =
          let leaf = int_leaf t.structs u in
          let some = object_leaf ty plain in
          let less = item_low (start + leaf_count t.structs ty) (items_of t.structs (record { ty = ty; start = start })) k start (items_below t.structs ty start g.agrees.structs plain) (omega (arith, some)) in
          subst (λ o. AllRoom top (leaf_count t.structs (Int u)) (begun_slots (seen own) o k (Some (Int u)))) (sym is) (omega (arith, leaf, less, low), tt)

  item_rooms : (v : VarId) (start : ℕ) (ty : VarTy) → slice_get own.variables v.0 ≡ Some (record { ty = ty; start = start }) → start + leaf_count t.structs ty ≤ top → is_variable_type (length t.structs) ty ≡ true → ItemRooms v (item_types t.structs ty)
  item_rooms v start (Int i) is low known = integer_rooms v start (Int i) is low refl (leaves_of t.structs (Int i))
  item_rooms v start (Struct m) is low known = integer_rooms v start (Struct m) is low known (leaves_of t.structs (Struct m))
  item_rooms v start (Array elem many) is low known = integer_rooms v start (Array elem many) is low known (leaves_of t.structs (Array elem many))
  item_rooms v start (Pointer elem fixed) is low known = ((λ k. whole_room v start (Pointer elem fixed) k is low refl), tt)

  items_fit_all : (v : VarId) (es : List ExprId) (tys : List VarTy) → items_fit c tys es ≡ true → ItemRooms v tys → AllFit (map (part_of (r.Init v)) es)
  items_fit_all v [] tys h all = tt
  items_fit_all v (x ∷ es) [] h all = false_not_true h
  items_fit_all v (x ∷ es) (ty ∷ tys) h all = (
    fitting (same_types (Some ty)) (r.Init v) x (both_hold_first (expr_fits c (same_types (Some ty)) x) (items_fit c tys es) h)
        (λ o k fits. subst (λ z. AllRoom top (count own z) (begun_slots (seen own) (slice_get own.variables v.0) k z)) (equal_options (Some ty) o fits) (all.0 k)),
    items_fit_all v es tys (both_hold_second (expr_fits c (same_types (Some ty)) x) (items_fit c tys es) h) all.1,
  )

  init_fit : (v : VarId) (d : TypedInit) → init_fits c (option_map (λ (x : Var). x.ty) (slice_get own.w.names.vars v.0)) d ≡ true → AllFit (init_parts v d)
  init_fit v d h = go (option_map (λ (x : Var). x.ty) (slice_get own.w.names.vars v.0)) refl d h
    where
      go : (o : Option VarTy) → option_map (λ (x : Var). x.ty) (slice_get own.w.names.vars v.0) ≡ o → (d : TypedInit) → init_fits c o d ≡ true → AllFit (init_parts v d)
      go None is d h = false_not_true h
      go (Some ty) is init.Nothing h = tt
      go (Some ty) is (init.Value x) h =
          let o = g.locals v.0 ty is in
          let value = both_hold_first (is_value (Some ty)) (expr_fits c (same_types (Some ty)) x) h in (
            fitting (same_types (Some ty)) (r.Init v) x (both_hold_second (is_value (Some ty)) (expr_fits c (same_types (Some ty)) x) h)
                (λ z k fits. subst (λ y. AllRoom top (count own y) (begun_slots (seen own) (slice_get own.variables v.0) k y)) (equal_options (Some ty) z fits) (whole_room v o.start ty k o.object (rooms.locals v.0 o.start ty o.object) value)),
            tt,
          )
      go (Some ty) is (init.Items at es) h =
          let o = g.locals v.0 ty is in
          let known = both_hold_first (is_variable_type (length t.structs) ty) (is_small t.structs ty) (variable_known t.structs own.w.names.vars v.0 ty g.agrees.vars is) in
          items_fit_all v es (item_types t.structs ty) h (item_rooms v o.start ty o.object (rooms.locals v.0 o.start ty o.object) known)

  declared_fit : (ds : List TypedDeclarator) → declaration_fits c ds ≡ true → AllFit (declaration_parts ds)
  declared_fit [] h = tt
  declared_fit (d ∷ ds) h =
      fit_both (declarator_parts d) (declaration_parts ds) (init_fit d.var d.init (both_hold_first (declarator_fits c d) (declaration_fits c ds) h)) (declared_fit ds (both_hold_second (declarator_fits c d) (declaration_fits c ds) h))

  begun_fit : (d : TypedForInit) → s.for_init_fits c d ≡ true → AllFit (for_init_parts d)
  begun_fit begin.Nothing h = tt
  begun_fit (begin.Declare d) h = declared_fit d.declarators h
  begun_fit (begin.Evaluate x) h = (value_fits x h, tt)

  tested_fit : (o : Option ExprId) → option_fits c is_scalar o ≡ true → AllFit (optional_part r.Condition o)
  tested_fit None h = tt
  tested_fit (Some x) h = (condition_fits is_scalar x h, tt)

  stepped_fit : (o : Option ExprId) → option_fits c any_type o ≡ true → AllFit (optional_part r.Value o)
  stepped_fit None h = tt
  stepped_fit (Some x) h = (value_fits x h, tt)

  -- ---- statements

  module _ (low : own.results + own.function < top) where
    returned_fit : (o : Option ExprId) → s.return_fits c o ≡ true → AllFit (optional_part r.Returned o)
    returned_fit None h = tt
    returned_fit (Some x) h = (fitting (λ ty. both_int (integer_of ty) c.result) r.Returned x h (λ ty k fits. (returned_room low ty c.result fits, tt)), tt)

    mutual
      body_fit : (y : BodyTree) (out again : Bool) → s.is_sound c out again y ≡ true → AllFit (parts_of y)
      body_fit (b.block at ys) out again h = all_fit ys out again h
      body_fit (b.nothing at) out again h = tt
      body_fit (b.evaluate at x) out again h = (value_fits x h, tt)
      body_fit (b.declare d) out again h = declared_fit d.declarators h
      body_fit (b.choose at x y o) out again h =
          let rest = both_hold_second (expr_fits c is_scalar x) (s.is_sound c out again y && s.else_sound c out again o) h in (
            condition_fits is_scalar x (both_hold_first (expr_fits c is_scalar x) (s.is_sound c out again y && s.else_sound c out again o) h),
            fit_both (parts_of y) (else_parts o) (body_fit y out again (both_hold_first (s.is_sound c out again y) (s.else_sound c out again o) rest)) (else_fit o out again (both_hold_second (s.is_sound c out again y) (s.else_sound c out again o) rest)),
          )
      body_fit (b.while_true at x y) out again h =
          (condition_fits is_scalar x (both_hold_first (expr_fits c is_scalar x) (s.is_sound c true true y) h), body_fit y true true (both_hold_second (expr_fits c is_scalar x) (s.is_sound c true true y) h))
      body_fit (b.do_while at y x) out again h =
          fit_both (parts_of y) (part_of r.Condition x ∷ []) (body_fit y true true (both_hold_first (s.is_sound c true true y) (expr_fits c is_scalar x) h)) (condition_fits is_scalar x (both_hold_second (s.is_sound c true true y) (expr_fits c is_scalar x) h), tt)
      body_fit (b.for_each at d test step y) out again h =
          let second = both_hold_second (s.for_init_fits c d) (option_fits c is_scalar test && (option_fits c any_type step && s.is_sound c true true y)) h in
          let third = both_hold_second (option_fits c is_scalar test) (option_fits c any_type step && s.is_sound c true true y) second in
          let tests_ = optional_part r.Condition test in
          let steps = optional_part r.Value step in
          fit_both (for_init_parts d) (tests_ ++ (steps ++ parts_of y)) (begun_fit d (both_hold_first (s.for_init_fits c d) (option_fits c is_scalar test && (option_fits c any_type step && s.is_sound c true true y)) h))
          (fit_both tests_ (steps ++ parts_of y) (tested_fit test (both_hold_first (option_fits c is_scalar test) (option_fits c any_type step && s.is_sound c true true y) second))
          (fit_both steps (parts_of y) (stepped_fit step (both_hold_first (option_fits c any_type step) (s.is_sound c true true y) third)) (body_fit y true true (both_hold_second (option_fits c any_type step) (s.is_sound c true true y) third))))
      body_fit (b.give_back at o) out again h = returned_fit o h
      body_fit (b.stop_loop at) out again h = tt
      body_fit (b.next_turn at) out again h = tt
      body_fit (b.switch at x i ss) out again h =
          let rest = both_hold_second (expr_fits c (promotes_to i) x) (labels_fit i (labels_of ss) && s.sections_sound c again ss) h in
          (condition_fits (promotes_to i) x (both_hold_first (expr_fits c (promotes_to i) x) (labels_fit i (labels_of ss) && s.sections_sound c again ss) h), sections_fit ss again (both_hold_second (labels_fit i (labels_of ss)) (s.sections_sound c again ss) rest))

      else_fit : (o : ElseTree) (out again : Bool) → s.else_sound c out again o ≡ true → AllFit (else_parts o)
      else_fit no_else out again h = tt
      else_fit (otherwise y) out again h = body_fit y out again h

      all_fit : (ys : BodyTrees) (out again : Bool) → s.all_sound c out again ys ≡ true → AllFit (all_parts ys)
      all_fit no_bodies out again h = tt
      all_fit (body_and y rest) out again h =
          fit_both (parts_of y) (all_parts rest) (body_fit y out again (both_hold_first (s.is_sound c out again y) (s.all_sound c out again rest) h)) (all_fit rest out again (both_hold_second (s.is_sound c out again y) (s.all_sound c out again rest) h))

      sections_fit : (ss : SectionTrees) (again : Bool) → s.sections_sound c again ss ≡ true → AllFit (section_parts ss)
      sections_fit no_sections again h = tt
      sections_fit (section_and (section at label ys) rest) again h =
          fit_both (all_parts ys) (section_parts rest) (all_fit ys true again (both_hold_first (s.all_sound c true again ys) (s.sections_sound c again rest) h)) (sections_fit rest again (both_hold_second (s.all_sound c true again ys) (s.sections_sound c again rest) h))

-- ---- functions

usages_joined : (t : TypedTree) (n : ℕ) (us : List UsageTree) → AllByRecursion (λ u. Joins (top_of t) (usage_edges t n u)) us → Joins (top_of t) (flat_map (usage_edges t n) us)
usages_joined t n [] h = tt
usages_joined t n (u ∷ us) h = joins_both (top_of t) (usage_edges t n u) (flat_map (usage_edges t n) us) h.0 (usages_joined t n us h.1)

function_usages : (t : TypedTree) (a : Accepted) (f : FnId) → Facts t → AllByRecursion (λ u. Joins (top_of t) (usage_edges t f.0 u)) (usages_in t f)
unfolding usages_in
function_usages t a f facts = go (slice_get t.functions f.0) refl
  where
    body : (x : FunctionTree) → slice_get t.functions f.0 ≡ Some x → (o : Option BodyTree) → x.body ≡ o → AllByRecursion (λ u. Joins (top_of t) (usage_edges t f.0 u)) (parts_usages t.exprs r.Value 0 (function_parts o))
    body x here None is = tt
    body x here (Some y) is =
        let g = bench_fits t a f.0 x y [] facts here is in
        let rooms = bench_rooms t a f.0 x [] in
        parts_join t a f.0 x facts g rooms (parts_of y) (body_fit t a f.0 x facts g rooms (result_within t f.0 (get_below_length t.functions f.0 x here)) y false false (sound_at t f.0 x y facts here is).body) r.Value 0

    go : (o : Option FunctionTree) → slice_get t.functions f.0 ≡ o → AllByRecursion (λ u. Joins (top_of t) (usage_edges t f.0 u)) (parts_usages t.exprs r.Value 0 (function_parts (option_and_then (λ (x : FunctionTree). x.body) o)))
    go None is = tt
    go (Some x) is = body x is x.body refl

function_joins : (t : TypedTree) (a : Accepted) (f : FnId) → Facts t → Joins (top_of t) (edges_in t f)
unfolding edges_in
function_joins t a f facts = usages_joined t f.0 (usages_in t f) (function_usages t a f facts)

functions_join : (t : TypedTree) (a : Accepted) (fs : List FnId) → Facts t → Joins (top_of t) (flat_map (edges_in t) fs)
functions_join t a [] facts = tt
functions_join t a (f ∷ fs) facts = joins_both (top_of t) (edges_in t f) (flat_map (edges_in t) fs) (function_joins t a f facts) (functions_join t a fs facts)

all_join : (t : TypedTree) (es : List Edge) → Joins (top_of t) es → All (JoinsSlots t) es
all_join t [] h = All-nil (JoinsSlots t)
all_join t (x ∷ es) h = All-cons (JoinsSlots t) x es (h.0, h.1) (all_join t es h.2)

pub edges_join : EdgesJoinSlots
edges_join t sides sound = all_join t (flat_map (edges_in t) sides.slave) (functions_join t (record { sides = sides; marks = [] }) sides.slave (facts_of t sound))
