-- Initialisers: a value or the items of a brace list may go where the variable begins.
use Rattle.std.proofs.Common.{◌≡◌, ◌∙◌, ◌≤◌, ◌<◌, ℕ, ◌+◌, refl, ap, sym, subst, arith, Bool, true, false, Option, None, Some, List, [], ◌∷◌, ◌++◌, length, map, if◌then◌else◌}
use Rattle.std.specs.Prelude.{get_or, nat_lt, option_map, slice_get}
use Rattle.std.proofs.lemmas.Bool.Decides.{nat_tests}
use Rattle.std.specs.List.{AllByRecursion, list_all}
use Rattle.std.proofs.lemmas.Option.{get_or_from_slice_get}
use Rattle.flow_edges.specs.Edges.{begun_slots}
use Rattle.flow_edges.specs.Items.{items_of}
use Rattle.handle_classes.specs.Classes.{class_of, place_class}
use Rattle.handle_classes.specs.Judgment.{Copies}
use Rattle.lowered_code_law.proofs.FormsExpressions.{value_lowers}
use Rattle.lowered_code_law.proofs.FormsLeaves.{PlacesFit, leaves_fit}
use Rattle.lowered_code_law.proofs.FormsPlaces.{variable_fits, variable_known}
use Rattle.lowered_code_law.proofs.FormsRules.{no_struct, type_is, value_scalar}
use Rattle.lowered_code_law.proofs.FormsSettings.{context, source}
use Rattle.lowered_code_law.proofs.FormsStatements.{code, found, tests}
use Rattle.lowering.specs.Expressions.{copied, given, is_struct, object_in, place_effects, value_in}
use Rattle.lowering.specs.Leaves.{leaf_places}
use Rattle.lowering.specs.Lowered.{past}
use Rattle.lowering.specs.Statements.{begun, declared, initialised, items_in, outermost, value_stored, variable_place}
use Rattle.handle_classes_law.proofs.ObjectsItems.{items_below}
use Rattle.pt_base.specs.declared.ids.VarId.{VarId}
use Rattle.pt_base.specs.declared.int_type.IntType.{IntType}
use Rattle.pt_base.specs.declared.int_type.IntType.TheVariants as i
use Rattle.pt_base.proofs.Booleans.{both_hold_first, both_hold_second, false_not_true}
use Rattle.pt_base.proofs.Lists.{append_grouped, length_pushed_number}
use Rattle.pt_base.proofs.Places.{get_map}
use Rattle.pt_core.specs.CodeTree.{PlaceTree, assign, clear, copy, local, place}
use Rattle.pt_core.specs.Types.{place_type, type_at}
use Rattle.sides.specs.Carried.{carried}
use Rattle.sides.specs.Leaves.{leaf_count}
use Rattle.usages.specs.Usages.{UsageTree, evaluated}
use Rattle.sides.specs.declared.objects.Object.{Object}
use Rattle.usages.specs.declared.usage.How.TheVariants.{Begins, Returned}
use Rattle.typed_tree.proofs.SameTypes.{equal_options}
use Rattle.typed_tree.specs.Cells.{leaves_of}
use Rattle.typed_tree.specs.ExpressionTree.{typed}
use Rattle.typed_tree.specs.ExpressionTree as src
use Rattle.typed_tree.specs.Sizes.{cells_by, sizes_of}
use Rattle.typed_tree.specs.TypeTests.{is_scalar, is_value, same_types}
use Rattle.typed_tree.specs.WellFormed.{is_small, is_variable_type, structs_sound}
use Rattle.typed_tree.specs.WellFormedExpression.{is_typed, ty_of}
use Rattle.typed_tree.specs.WellFormedExpression as f
use Rattle.typed_tree.specs.WellFormedStatement.{declaration_fits, declarator_fits, for_init_fits, init_fits, item_types, items_fit}
use Rattle.typed_tree.specs.WellFormedStatement as s
use Rattle.typed_tree.specs.declared.ids.ExprId.{ExprId}
use Rattle.typed_tree.specs.declared.statement.TypedDeclarator.{TypedDeclarator}
use Rattle.typed_tree.specs.declared.statement.TypedForInit.{TypedForInit}
use Rattle.typed_tree.specs.declared.statement.TypedForInit.TheVariants as begin
use Rattle.typed_tree.specs.declared.statement.TypedInit.{TypedInit}
use Rattle.typed_tree.specs.declared.statement.TypedInit.TheVariants as init
use Rattle.typed_tree.specs.declared.types.StructInfo.{StructInfo}
use Rattle.typed_tree.specs.declared.types.VarTy.{VarTy}
use Rattle.typed_tree.specs.declared.types.VarTy.TheVariants.{Array, Int, Pointer, Struct}
use Rattle.typed_tree.specs.declared.variable.Var.{Var}
use Rattle.handle_classes_law.proofs.SlavesBench.{AreFine, Bench, LoweredIs, judged, seen}
use Rattle.handle_classes_law.proofs.SlavesClasses.{PlaceClass}
use Rattle.handle_classes_law.proofs.SlavesEdges.{Moves}
use Rattle.handle_classes_law.proofs.SlavesExpressions.{object_is, value_is}
use Rattle.handle_classes_law.proofs.SlavesForms.{local_is}
use Rattle.handle_classes_law.proofs.SlavesGround.{Ground, Has, all_at, dropped_fine, followed_fine, one_more, outer_slots}
use Rattle.handle_classes_law.proofs.SlavesLeaves.{PlacesAre, leaves_are}
use Rattle.handle_classes_law.proofs.SlavesMoves.{struct_copies, value_goes}
use Rattle.handle_classes_law.proofs.SlavesOutermost.{BegunUsed, DeclaredUsed, InitUsed, ItemsUsed}
use Rattle.handle_classes_law.proofs.SlavesQuiet.{Quiet, quiet_here}
use Rattle.handle_classes_law.proofs.SlavesWithin.{AllRoom, NoArgument, count, int_leaf}

-- ---- initialisers

pub begins_free : (v : VarId) (k : ℕ) → NoArgument (Begins v k)
begins_free v k g m h = cc

pub returned_free : NoArgument Returned
returned_free g k h = cc

-- where a value goes that isn't a struct
pub begun_scalar : (structs : List StructInfo) (ty : VarTy) (start k : ℕ) (x : Object) → is_scalar (Some ty) ≡ true → (if f.is_struct (Some ty) then start else get_or (items_of structs x) k start) ≡ get_or (items_of structs x) k start
begun_scalar structs (Int t) start k x h = refl
begun_scalar structs (Pointer elem fixed) start k x h = refl
begun_scalar structs (Struct n) start k x h = false_not_true h
begun_scalar structs (Array elem count) start k x h = false_not_true h

-- a variable of an integer's or a pointer's type is its only item
pub only_item : (structs : List StructInfo) (ty : VarTy) (start : ℕ) → is_scalar (Some ty) ≡ true → get_or (items_of structs (record { ty = ty; start = start })) 0 start ≡ start
only_item structs (Int t) start h = refl
only_item structs (Pointer elem fixed) start h = refl
only_item structs (Struct n) start h = false_not_true h
only_item structs (Array elem count) start h = false_not_true h

pub struct_of : (ty : VarTy) → is_struct (Some ty) ≡ true → (m : ℕ) × (ty ≡ Struct m)
struct_of (Struct m) h = (m, refl)
struct_of (Int t) h = false_not_true h
struct_of (Array elem count) h = false_not_true h
struct_of (Pointer elem fixed) h = false_not_true h

pub begins_moves : (b : Bench) (v : VarId) (k : ℕ) (a : src.ExprTree) → Quiet b (evaluated (Begins v k) a) → Moves b a (begun_slots (seen b) (slice_get b.variables v.0) k (ty_of a))
begins_moves b v k (typed p ty form) h = (quiet_here b (Begins v k) p ty form h).begins v k refl

-- items of these types at these slots are within
abbrev pub ItemsRoom : Bench → ℕ → List VarTy → List ℕ → Type 0
ItemsRoom b top [] slots = Unit {0}
ItemsRoom b top (ty ∷ tys) [] = Unit {0}
ItemsRoom b top (ty ∷ tys) (x ∷ xs) = (x + leaf_count b.w.names.structs ty ≤ top) × ItemsRoom b top tys xs

pub integers_room : (b : Bench) (bound top : ℕ) (us : List IntType) (xs : List ℕ) → bound ≤ top → list_all (λ x. nat_lt x bound) xs ≡ true → ItemsRoom b top (map Int us) xs
integers_room b bound top [] xs less h = tt
integers_room b bound top (u ∷ us) [] less h = tt
integers_room b bound top (u ∷ us) (x ∷ xs) less h =
    (one x (leaf_count b.w.names.structs (Int u)) (both_hold_first (nat_lt x bound) (list_all (λ y. nat_lt y bound) xs) h) (int_leaf b.w.names.structs u), integers_room b bound top us xs less (both_hold_second (nat_lt x bound) (list_all (λ y. nat_lt y bound) xs) h))
  where
    one : (x l : ℕ) → nat_lt x bound ≡ true → l ≡ 1 → x + l ≤ top
    one x l low is = let k : x < bound = grind (arith, nat_tests, low) in omega (arith, k, less, is)

-- those of a variable
pub items_room : (b : Bench) (top start : ℕ) (ty : VarTy) → structs_sound b.w.names.structs 0 b.w.names.structs ≡ true → is_variable_type (length b.w.names.structs) ty ≡ true → start + leaf_count b.w.names.structs ty ≤ top →
    ItemsRoom b top (item_types b.w.names.structs ty) (items_of b.w.names.structs (record { ty = ty; start = start }))
items_room b top start (Int t) sound known low = integers_room b (start + leaf_count b.w.names.structs (Int t)) top (leaves_of b.w.names.structs (Int t)) (items_of b.w.names.structs (record { ty = Int t; start = start })) low (items_below b.w.names.structs (Int t) start sound refl)
items_room b top start (Struct m) sound known low = integers_room b (start + leaf_count b.w.names.structs (Struct m)) top (leaves_of b.w.names.structs (Struct m)) (items_of b.w.names.structs (record { ty = Struct m; start = start })) low (items_below b.w.names.structs (Struct m) start sound known)
items_room b top start (Array elem n) sound known low = integers_room b (start + leaf_count b.w.names.structs (Array elem n)) top (leaves_of b.w.names.structs (Array elem n)) (items_of b.w.names.structs (record { ty = Array elem n; start = start })) low (items_below b.w.names.structs (Array elem n) start sound known)
items_room b top start (Pointer elem fixed) sound known low = (low, tt)

-- the slot behind those before
pub behind : (before : List ℕ) (slot : ℕ) (slots : List ℕ) (d : ℕ) → get_or (before ++ slot ∷ slots) (length before) d ≡ slot
behind [] slot slots d = refl
behind (x ∷ xs) slot slots d = behind xs slot slots d

-- an expression that initialises at this slot: it is quiet, and the marks are closed under its move
pub record Begun (b : Bench) (v : VarId) (k slot : ℕ) (a : src.ExprTree) : Type 0 where
  pub quiet : Quiet b (evaluated (Begins v k) a)
  pub moves : Moves b a (slot ∷ [])

pub begun_at : (b : Bench) (Q : UsageTree → Type 0) (v : VarId) (k slot : ℕ) (x : Object) (ty : VarTy) (a : src.ExprTree) → (c : Ground b Q) → slice_get b.variables v.0 ≡ Some x → is_typed b.w.names a ≡ true → ty_of a ≡ Some ty →
    (if f.is_struct (Some ty) then x.start else get_or (items_of b.w.names.structs x) k x.start) ≡ slot → slot + leaf_count b.w.names.structs ty ≤ c.top → AllByRecursion Q (evaluated (Begins v k) a) → Begun b v k slot a
begun_at b Q v k slot x ty a c is h own at low all =
    let there : outer_slots b (Begins v k) (ty_of a) ≡ slot ∷ [] = ap (λ o. begun_slots (seen b) (slice_get b.variables v.0) k o) own ∙ ap (λ o. begun_slots (seen b) o k (Some ty)) is ∙ ap (λ z. z ∷ []) at in
    let quiet = c.quiet a (Begins v k) (begins_free v k) h all (subst (λ xs. AllRoom c.top (count b (ty_of a)) xs) (sym there) (subst (λ o. slot + count b o ≤ c.top) (sym own) low, tt)) in
    record { quiet = quiet; moves = subst (λ xs. Moves b a xs) there (begins_moves b v k a quiet) }

pub struct_begun : (b : Bench) (Q : UsageTree → Type 0) (v : VarId) (m n : ℕ) (a : src.ExprTree) → Ground b Q → option_map (λ (y : Var). y.ty) (slice_get b.w.names.vars v.0) ≡ Some (Struct m) → is_typed b.w.names a ≡ true → ty_of a ≡ Some (Struct m) →
    AllByRecursion Q (evaluated (Begins v 0) a) → Has b n (object_in (source b.w.names) a n).temps → AreFine b ((object_in (source b.w.names) a n).stmts ++ copy (place (local v.0) []) (object_in (source b.w.names) a n).place ∷ [])
struct_begun b Q v m n a c is h own all has =
    let g = c.fits in
    let o = g.locals v.0 (Struct m) is in
    let of = object_in (source b.w.names) a n in
    let begun = begun_at b Q v 0 o.start (record { ty = Struct m; start = o.start }) (Struct m) a c o.object h own refl (c.rooms.locals v.0 o.start (Struct m) o.object) all in
    let from = object_is a (Begins v 0) b n (Struct m) g h own refl begun.quiet has.0 has.1 in
    let to = local_is b v.0 (Struct m) o in
    let known = variable_known b.w.names.structs b.w.names.vars v.0 (Struct m) g.agrees.vars is in
    let here : place_type (context b.w) (place (local v.0) []) ≡ Struct m = get_or_from_slice_get b.w.variables v.0 (Struct m) (Int i.Int) (g.agrees.variables v.0 (Struct m) is) in
    let copies = struct_copies b a m (o.start ∷ []) (place_class (judged b) (place (local v.0) [])) (place_class (judged b) of.place) g.agrees.structs
    (both_hold_first (is_variable_type (length b.w.names.structs) (Struct m)) (is_small b.w.names.structs (Struct m)) known) own begun.moves to.is from.class.is in
    one_more b of.stmts (copy (place (local v.0) []) of.place) from.stmts
    (to.fine, from.class.fine, subst (λ z. Copies (place_class (judged b) (place (local v.0) [])) (place_class (judged b) of.place) (cells_by (sizes_of b.w.names.structs) z)) (sym here) copies)

-- a value goes to a place that begins at this slot
pub item_goes : (b : Bench) (Q : UsageTree → Type 0) (v : VarId) (k slot n : ℕ) (ty : VarTy) (a : src.ExprTree) (p : PlaceTree) → Ground b Q → is_scalar (Some ty) ≡ true → PlaceClass b.marks (judged b) ty (slot ∷ []) p → is_typed b.w.names a ≡ true → ty_of a ≡ Some ty →
    Begun b v k slot a → Has b n (value_in (source b.w.names) a n).temps → AreFine b ((value_in (source b.w.names) a n).stmts ++ assign p (value_in (source b.w.names) a n).value ∷ [])
item_goes b Q v k slot n ty a p c scalar to h own begun has =
    let y = value_in (source b.w.names) a n in
    let plain = no_struct (ty_of a) (subst (λ z. is_scalar z ≡ true) (sym own) scalar) in
    let one : LoweredIs b ty (carried (seen b) a) y = subst (λ z. LoweredIs b z (carried (seen b) a) y) (type_is a ty own) (value_is a (Begins v k) b n c.fits h plain begun.quiet has.0 has.1) in
    let known : is_variable_type (length b.w.names.structs) ty ≡ true = subst (λ z. is_variable_type (length b.w.names.structs) z ≡ true) (type_is a ty own) (value_lowers a b.w false n c.fits.agrees h plain has.0).known in
    one_more b y.stmts (assign p y.value) one.stmts
    (to.fine, one.value.fine, value_goes b a ty (slot ∷ []) (class_of (judged b) y.value) (place_class (judged b) p) c.fits.agrees.structs known scalar own (λ q. (slot, refl)) begun.moves one.value.is to.is)

pub value_begun : (b : Bench) (Q : UsageTree → Type 0) (exprs : List src.ExprTree) (v : VarId) (ty : VarTy) (a : src.ExprTree) (n : ℕ) → Ground b Q → option_map (λ (y : Var). y.ty) (slice_get b.w.names.vars v.0) ≡ Some ty → is_value (Some ty) ≡ true → is_typed b.w.names a ≡ true → ty_of a ≡ Some ty →
    AllByRecursion Q (evaluated (Begins v 0) a) → Has b n (value_stored (code b.w exprs) v.0 a n).temps → AreFine b (value_stored (code b.w exprs) v.0 a n).stmts
value_begun b Q exprs v ty a n c is value h own all has = go (is_struct (Some (type_at (source b.w.names).variables v.0))) refl has
  where
    same : type_at (source b.w.names).variables v.0 ≡ ty
    same = get_or_from_slice_get (map (λ (y : Var). y.ty) b.w.names.vars) v.0 ty (Int i.Int) (get_map (λ (y : Var). y.ty) b.w.names.vars v.0 ∙ is)

    part : is_scalar (Some ty) ≡ true → Has b n (value_in (source b.w.names) a n).temps → AreFine b ((value_in (source b.w.names) a n).stmts ++ assign (place (local v.0) []) (value_in (source b.w.names) a n).value ∷ [])
    part scalar st =
        let o = c.fits.locals v.0 ty is in
        let begun = begun_at b Q v 0 o.start (record { ty = ty; start = o.start }) ty a c o.object h own
        (begun_scalar b.w.names.structs ty o.start 0 (record { ty = ty; start = o.start }) scalar ∙ only_item b.w.names.structs ty o.start scalar) (c.rooms.locals v.0 o.start ty o.object) all in
        item_goes b Q v 0 o.start n ty a (place (local v.0) []) c scalar (local_is b v.0 ty o) h own begun st

    go : (d : Bool) → is_struct (Some (type_at (source b.w.names).variables v.0)) ≡ d →
        Has b n (if d then place_effects (copied (variable_place (code b.w exprs) v.0) (object_in (source b.w.names) a n)) else place_effects (given (variable_place (code b.w exprs) v.0) (value_in (source b.w.names) a n))).temps →
        AreFine b (if d then place_effects (copied (variable_place (code b.w exprs) v.0) (object_in (source b.w.names) a n)) else place_effects (given (variable_place (code b.w exprs) v.0) (value_in (source b.w.names) a n))).stmts
    go true e st = let m = struct_of ty (subst (λ z. is_struct (Some z) ≡ true) same e) in struct_begun b Q v m.0 n a c (is ∙ ap Some m.1) h (own ∙ ap Some m.1) all st
    go false e st = part (value_scalar ty value (subst (λ z. is_struct (Some z) ≡ false) same e)) st

-- items of a brace list, from number k on: the slots of those before are listed first
pub items_fine : (b : Bench) (Q : UsageTree → Type 0) (exprs : List src.ExprTree) (v : VarId) (x : Object) (before : List ℕ) (ps : List PlaceTree) (tys : List VarTy) (slots : List ℕ) (es : List ExprId) (n : ℕ) → (c : Ground b Q) → slice_get b.variables v.0 ≡ Some x → items_of b.w.names.structs x ≡ before ++ slots →
    PlacesFit (context b.w) ps tys → PlacesAre b ps tys slots → ItemsRoom b c.top tys slots → items_fit (tests b.w exprs) tys es ≡ true → ItemsUsed Q exprs v (length before) es → Has b n (items_in (code b.w exprs) ps es n).temps → AreFine b (items_in (code b.w exprs) ps es n).stmts
items_fine b Q exprs v x before [] tys slots [] n c is all fit at low h u has = tt
items_fine b Q exprs v x before (p ∷ ps) tys slots [] n c is all fit at low h u has = tt
items_fine b Q exprs v x before [] [] slots (e ∷ es) n c is all fit at low h u has = false_not_true h
items_fine b Q exprs v x before [] (ty ∷ tys) slots (e ∷ es) n c is all fit at low h u has = false_not_true fit
items_fine b Q exprs v x before (p ∷ ps) [] slots (e ∷ es) n c is all fit at low h u has = false_not_true fit
items_fine b Q exprs v x before (p ∷ ps) (ty ∷ tys) [] (e ∷ es) n c is all fit at low h u has = false_not_true at
items_fine b Q exprs v x before (p ∷ ps) (ty ∷ tys) (slot ∷ slots) (e ∷ es) n c is all fit at low h u has =
    let a = outermost (code b.w exprs) e in
    let y = value_in (source b.w.names) a n in
    let here = both_hold_first (s.expr_fits (tests b.w exprs) (same_types (Some ty)) e) (items_fit (tests b.w exprs) tys es) h in
    let f = found b.w.names exprs (same_types (Some ty)) e.0 here in
    let own : ty_of a ≡ Some ty = sym (equal_options (Some ty) (ty_of a) f.1) in
    let begun = begun_at b Q v (length before) slot x ty a c is f.0 own
    (begun_scalar b.w.names.structs ty x.start (length before) x fit.2 ∙ ap (λ z. get_or z (length before) x.start) all ∙ behind before slot slots x.start) low.0 (all_at b Q exprs (same_types (Some ty)) (Begins v (length before)) e here u.0) in
    followed_fine b n (record { stmts = y.stmts ++ assign p y.value ∷ []; temps = y.temps }) (items_in (code b.w exprs) ps es (past n y.temps))
    (λ st. item_goes b Q v (length before) slot n ty a p c fit.2 at.0 f.0 own begun st)
    (λ st. items_fine b Q exprs v x (before ++ slot ∷ []) ps tys slots es (past n y.temps) c is (all ∙ sym (append_grouped before (slot ∷ []) slots)) fit.3 at.1 low.1
    (both_hold_second (s.expr_fits (tests b.w exprs) (same_types (Some ty)) e) (items_fit (tests b.w exprs) tys es) h) (subst (λ k. ItemsUsed Q exprs v k es) (sym (length_pushed_number before slot)) u.1) st) has

pub initialised_fine : (b : Bench) (Q : UsageTree → Type 0) (exprs : List src.ExprTree) (d : TypedInit) (v : VarId) (ty : VarTy) (n : ℕ) → Ground b Q → option_map (λ (y : Var). y.ty) (slice_get b.w.names.vars v.0) ≡ Some ty → init_fits (tests b.w exprs) (Some ty) d ≡ true → InitUsed Q exprs v d →
    Has b n (initialised (code b.w exprs) d v.0 n).temps → AreFine b (initialised (code b.w exprs) d v.0 n).stmts
initialised_fine b Q exprs init.Nothing v ty n c is h u has = tt
initialised_fine b Q exprs (init.Value e) v ty n c is h u has =
    let own = both_hold_second (is_value (Some ty)) (s.expr_fits (tests b.w exprs) (same_types (Some ty)) e) h in
    let f = found b.w.names exprs (same_types (Some ty)) e.0 own in
    value_begun b Q exprs v ty (outermost (code b.w exprs) e) n c is (both_hold_first (is_value (Some ty)) (s.expr_fits (tests b.w exprs) (same_types (Some ty)) e) h) f.0 (sym (equal_options (Some ty) (ty_of (outermost (code b.w exprs) e)) f.1))
    (all_at b Q exprs (same_types (Some ty)) (Begins v 0) e own u) has
initialised_fine b Q exprs (init.Items at es) v ty n c is h u has =
    let g = c.fits in
    let same : type_at (source b.w.names).variables v.0 ≡ ty = get_or_from_slice_get (map (λ (y : Var). y.ty) b.w.names.vars) v.0 ty (Int i.Int) (get_map (λ (y : Var). y.ty) b.w.names.vars v.0 ∙ is) in
    let known = variable_known b.w.names.structs b.w.names.vars v.0 ty g.agrees.vars is in
    let stands = both_hold_first (is_variable_type (length b.w.names.structs) ty) (is_small b.w.names.structs ty) known in
    let small = both_hold_second (is_variable_type (length b.w.names.structs) ty) (is_small b.w.names.structs ty) known in
    let here : place_type (context b.w) (place (local v.0) []) ≡ ty = get_or_from_slice_get b.w.variables v.0 ty (Int i.Int) (g.agrees.variables v.0 ty is) in
    let places = leaves_fit (context b.w) at ty (place (local v.0) []) g.agrees.structs stands small (variable_fits b.w v.0 ty g.agrees is) here in
    let o = g.locals v.0 ty is in
    let slots = leaves_are b at ty o.start (place (local v.0) []) g.agrees.structs stands small (variable_fits b.w v.0 ty g.agrees is) here (local_is b v.0 ty o) in
    subst (λ z. Has b n (items_in (code b.w exprs) (leaf_places b.w.names.structs z at (place (local v.0) [])) es n).temps → AreFine b (items_in (code b.w exprs) (leaf_places b.w.names.structs z at (place (local v.0) [])) es n).stmts) (sym same)
    (λ st. items_fine b Q exprs v (record { ty = ty; start = o.start }) [] (leaf_places b.w.names.structs ty at (place (local v.0) [])) (item_types b.w.names.structs ty) (items_of b.w.names.structs (record { ty = ty; start = o.start })) es n c o.object refl places slots
    (items_room b c.top o.start ty g.agrees.structs stands (c.rooms.locals v.0 o.start ty o.object)) h u st) has

pub declared_one : (b : Bench) (Q : UsageTree → Type 0) (exprs : List src.ExprTree) (d : TypedDeclarator) (n : ℕ) → Ground b Q → declarator_fits (tests b.w exprs) d ≡ true → InitUsed Q exprs d.var d.init → Has b n (initialised (code b.w exprs) d.init d.var.0 n).temps →
    AreFine b (clear d.var.0 ∷ (initialised (code b.w exprs) d.init d.var.0 n).stmts)
declared_one b Q exprs d n c h u has = go (option_map (λ (y : Var). y.ty) (slice_get b.w.names.vars d.var.0)) refl h
  where
    go : (o : Option VarTy) → option_map (λ (y : Var). y.ty) (slice_get b.w.names.vars d.var.0) ≡ o → init_fits (tests b.w exprs) o d.init ≡ true → AreFine b (clear d.var.0 ∷ (initialised (code b.w exprs) d.init d.var.0 n).stmts)
    go None is k = false_not_true k
    go (Some ty) is k = (tt, initialised_fine b Q exprs d.init d.var ty n c is k u has)

pub declared_fine : (b : Bench) (Q : UsageTree → Type 0) (exprs : List src.ExprTree) (ds : List TypedDeclarator) (n : ℕ) → Ground b Q → declaration_fits (tests b.w exprs) ds ≡ true → DeclaredUsed Q exprs ds → Has b n (declared (code b.w exprs) ds n).temps → AreFine b (declared (code b.w exprs) ds n).stmts
declared_fine b Q exprs [] n c h u has = tt
declared_fine b Q exprs (d ∷ ds) n c h u has =
    let own = initialised (code b.w exprs) d.init d.var.0 n in
    followed_fine b n (record { stmts = clear d.var.0 ∷ own.stmts; temps = own.temps }) (declared (code b.w exprs) ds (past n own.temps))
    (λ st. declared_one b Q exprs d n c (both_hold_first (declarator_fits (tests b.w exprs) d) (list_all (declarator_fits (tests b.w exprs)) ds) h) u.0 st)
    (λ st. declared_fine b Q exprs ds (past n own.temps) c (both_hold_second (declarator_fits (tests b.w exprs) d) (list_all (declarator_fits (tests b.w exprs)) ds) h) u.1 st) has

pub begun_fine : (b : Bench) (Q : UsageTree → Type 0) (exprs : List src.ExprTree) (d : TypedForInit) (n : ℕ) → Ground b Q → for_init_fits (tests b.w exprs) d ≡ true → BegunUsed Q exprs d → Has b n (begun (code b.w exprs) d n).temps → AreFine b (begun (code b.w exprs) d n).stmts
begun_fine b Q exprs begin.Nothing n c h u has = tt
begun_fine b Q exprs (begin.Declare d) n c h u has = declared_fine b Q exprs d.declarators n c h u has
begun_fine b Q exprs (begin.Evaluate e) n c h u has = dropped_fine b Q exprs e n c h u has
