-- Initialisers without a fault fit the variable.
use Rattle.std.proofs.Common.{◌≡◌, ℕ, suc, ◌+◌, refl, sym, ap, ◌∙◌, subst, Bool, true, false, List, [], ◌∷◌, ◌++◌, map, length, Option, Some, None, arith}
use Rattle.std.specs.Prelude.{⊤, IsTrue, ◌&&◌, is_some, not, slice_get}
use Rattle.pt_base.specs.declared.int_type.IntType.{IntType}
use Rattle.pt_base.specs.declared.span.Span.{Span}
use Rattle.pt_base.specs.declared.ids.VarId.{VarId}
use Rattle.pt_base.proofs.Booleans.{both_hold, both_hold_first, both_hold_second}
use Rattle.pt_base.proofs.Lists.{append_nil_first, append_nil_second}
use Rattle.pt_tree.specs.ExpressionTree as e
use Rattle.pt_tree.specs.StatementTree.{InitTree, no_init, single, braces}
use Rattle.pt_tree.specs.Facts.{expr_sound, exprs_sound, init_sound}
use Rattle.type_rules.specs.declared.types.Type.{«Type»}
use Rattle.type_rules.specs.declared.types.Type.TheVariants.{Bad, Void, Int, Struct, Array, Pointer}
use Rattle.type_rules.specs.Types.{is_bad}
use Rattle.typed_tree.specs.declared.part.Role.TheVariants as role
use Rattle.typed_tree.specs.declared.types.VarTy.{VarTy}
use Rattle.typed_tree.specs.declared.types.VarTy.TheVariants as v
use Rattle.typed_tree.specs.declared.types.StructInfo.{StructInfo}
use Rattle.typed_tree.specs.Cells as typed
use Rattle.typed_tree.specs.Parts.{part_of}
use Rattle.typed_tree.specs.TypeTests.{same_types, is_value}
use Rattle.typed_tree.specs.WellFormedStatement.{Scope, expr_fits, item_types, items_fit, init_fits}
use Rattle.check_declarations.specs.declared.fault.FaultKind.TheVariants.{WrongType}
use Rattle.check_declarations.specs.Faults.{fault_if}
use Rattle.check_declarations.specs.Objects.{size_faults}
use Rattle.check_declarations.specs.Structs.{Structs}
use Rattle.check_expressions.specs.Operands.{var_type, span_of}
use Rattle.check_expressions.specs.StructInfos.{object_type_of}
use Rattle.check_statements.specs.Leaves.{leaves_of}
use Rattle.check_statements.specs.Initialisers.{Listing, item, items, initialised}
use Rattle.check_statements.specs.Outermost.{State, evaluated, fitted}
use Rattle.type_law.specs.DeclarationsTypes.{is_variable}
use Rattle.type_law.specs.ExpressionsAgreement.{Agrees}
use Rattle.type_law.proofs.StatementsNumbering.{goes_one}
use Rattle.type_law.proofs.StatementsGiven.{Laws, Ready, Keeps, keeps_nowhere, keeps_on, ready_second}
use Rattle.type_law.proofs.StatementsOutermost.{fitted_sound, takes_same}

-- ---- leaves

-- the types of leaves, each as a good type and as the typed tree has it
abbrev AreAlike : ℕ → List «Type» → List VarTy → Type 0
AreAlike structs [] [] = ⊤
AreAlike structs [] (t ∷ ts) = ⊥
AreAlike structs (ty ∷ tys) [] = ⊥
AreAlike structs (ty ∷ tys) (t ∷ ts) = IsTrue (is_variable structs ty) × (object_type_of ty ≡ t) × AreAlike structs tys ts

integers_alike : (structs : ℕ) (ts : List IntType) → AreAlike structs (map Int ts) (map v.Int ts)
unfolding var_type
integers_alike structs [] = tt
integers_alike structs (t ∷ ts) = (refl, refl, integers_alike structs ts)

-- the leaves of an object that isn't too large are the items that the typed tree asks for
leaves_alike : (laws : Laws) (sc : Scope) (st : State) (ty : «Type») (at : Span) → Agrees st.env st.structs sc.names → IsTrue (is_variable (length st.structs) ty) → size_faults st.structs ty at ≡ [] → AreAlike (length st.structs) (leaves_of st.structs ty) (item_types sc.names.structs (object_type_of ty))
unfolding var_type
leaves_alike laws sc st Bad at a good small = cc
leaves_alike laws sc st Void at a good small = cc
leaves_alike laws sc st (Int t) at a good small =
    let ints = typed.leaves_of sc.names.structs (v.Int t) in
    let is = laws.leaves st.structs a.more (Int t) at a.sound good small in
    let same : leaves_of st.structs (Int t) ≡ map Int ints = subst (λ (infos : List StructInfo). leaves_of st.structs (Int t) ≡ map Int (typed.leaves_of infos (v.Int t))) (sym a.structs_are) is in
    subst (λ (tys : List «Type»). AreAlike (length st.structs) tys (map v.Int ints)) (sym same) (integers_alike (length st.structs) ints)
leaves_alike laws sc st (Struct n) at a good small =
    let ints = typed.leaves_of sc.names.structs (v.Struct n) in
    let is = laws.leaves st.structs a.more (Struct n) at a.sound good small in
    let same : leaves_of st.structs (Struct n) ≡ map Int ints = subst (λ (infos : List StructInfo). leaves_of st.structs (Struct n) ≡ map Int (typed.leaves_of infos (v.Struct n))) (sym a.structs_are) is in
    subst (λ (tys : List «Type»). AreAlike (length st.structs) tys (map v.Int ints)) (sym same) (integers_alike (length st.structs) ints)
leaves_alike laws sc st (Array e count) at a good small =
    let ints = typed.leaves_of sc.names.structs (v.Array e count) in
    let is = laws.leaves st.structs a.more (Array e count) at a.sound good small in
    let same : leaves_of st.structs (Array e count) ≡ map Int ints = subst (λ (infos : List StructInfo). leaves_of st.structs (Array e count) ≡ map Int (typed.leaves_of infos (v.Array e count))) (sym a.structs_are) is in
    subst (λ (tys : List «Type»). AreAlike (length st.structs) tys (map v.Int ints)) (sym same) (integers_alike (length st.structs) ints)
leaves_alike laws sc st (Pointer e fixed) at a good small = (good, refl, tt)

-- ---- items

-- an item of this leaf, and those behind it
abbrev step : State → List «Type» → ℕ → e.ExprTree → e.ExprTrees → Option «Type» → Listing
step st leaves k a es leaf =
    let p = item st leaf true a in
    let rest = items p.state leaves (true && is_some leaf) (k + 1) es in
    record { state = rest.state; ids = p.id ∷ rest.ids; trees = p.tree ∷ rest.trees; faults = p.faults ++ rest.faults }

abbrev IsSoundListing : Scope → State → List VarTy → Listing → Type 0
IsSoundListing sc st ts l = Ready sc st l.state l.trees → l.faults ≡ [] → Keeps sc.names st l.state × IsTrue (items_fit sc ts l.ids)

items_sound : (laws : Laws) (sc : Scope) (st : State) (leaves left : List «Type») (ts : List VarTy) (k : ℕ) (v : VarId) (es : e.ExprTrees) → ((j : ℕ) → slice_get leaves (k + j) ≡ slice_get left j) → AreAlike (length st.structs) left ts → IsTrue (exprs_sound es) → IsSoundListing sc st ts (items st leaves true k es)
items_sound laws sc st leaves left [] k x e.no_exprs at alike sound = λ r none. (keeps_nowhere sc.names st r.agrees, refl)
items_sound laws sc st leaves left (t ∷ ts) k x e.no_exprs at alike sound = λ r none. (keeps_nowhere sc.names st r.agrees, refl)
items_sound laws sc st leaves [] [] k x (e.expr_and a es) at alike sound =
    let past : slice_get leaves k ≡ None = ap (slice_get leaves) (omega arith) ∙ at 0 in
    let p = evaluated st a in
    let rest = items p.state leaves false (k + 1) es in
    subst (λ (leaf : Option «Type»). IsSoundListing sc st [] (step st leaves k a es leaf)) (sym past)
    (λ r none. let excess : fault_if true WrongType (span_of a) ≡ [] = append_nil_second p.faults (fault_if true WrongType (span_of a)) (append_nil_first (p.faults ++ fault_if true WrongType (span_of a)) rest.faults none) in cc)
items_sound laws sc st leaves [] (t ∷ ts) k x (e.expr_and a es) at alike sound = absurd alike
items_sound laws sc st leaves (ty ∷ left) [] k x (e.expr_and a es) at alike sound = absurd alike
items_sound laws sc st leaves (ty ∷ left) (t ∷ ts) k x (e.expr_and a es) at alike sound =
    let here : slice_get leaves k ≡ Some ty = ap (slice_get leaves) (omega arith) ∙ at 0 in
    let p = fitted st ty a in
    let rest = items p.state leaves true (k + 1) es in
    let later : (j : ℕ) → slice_get leaves (k + 1 + j) ≡ slice_get left j = λ j. ap (slice_get leaves) (omega arith) ∙ at (suc j) in
    subst (λ (leaf : Option «Type»). IsSoundListing sc st (t ∷ ts) (step st leaves k a es leaf)) (sym here)
    (λ r none.
    let first = fitted_sound laws sc st ty a r.agrees r.stand.0 (both_hold_first (expr_sound a) (exprs_sound es) sound) alike.0 (append_nil_first p.faults rest.faults none) in
    let fits = subst (λ (u : VarTy). IsTrue (expr_fits sc (same_types (Some u)) p.id)) alike.1 (takes_same sc (length st.structs) ty p.id alike.0 first.1) in
    let others = subst (λ (s : Structs). AreAlike (length s) left ts) (sym first.0.structs) alike.2 in
    let ready = ready_second sc st p.state rest.state (p.tree ∷ []) rest.trees (part_of (role.Init x) p.id ∷ []) (goes_one st _ _ _) first.0 r in
    let second = items_sound laws sc p.state leaves left ts (k + 1) x es later others (both_hold_second (expr_sound a) (exprs_sound es) sound) ready (append_nil_second p.faults rest.faults none) in
    (keeps_on sc.names st p.state rest.state first.0 second.0, both_hold (expr_fits sc (same_types (Some t)) p.id) (items_fit sc ts rest.ids) fits second.1))

-- ---- initialisers

not_bad : (structs : ℕ) (ty : «Type») → IsTrue (is_variable structs ty) → not (is_bad ty) ≡ true
not_bad structs Bad h = cc
not_bad structs Void h = cc
not_bad structs (Int t) h = refl
not_bad structs (Struct n) h = refl
not_bad structs (Array e count) h = refl
not_bad structs (Pointer e fixed) h = refl

pub initialised_sound : (laws : Laws) (sc : Scope) (st : State) (ty : «Type») (at : Span) (x : VarId) (init : InitTree) → Ready sc st (initialised st ty init).state (initialised st ty init).trees → IsTrue (is_variable (length st.structs) ty) → size_faults st.structs ty at ≡ [] → IsTrue (init_sound init) → (initialised st ty init).faults ≡ [] → Keeps sc.names st (initialised st ty init).state × IsTrue (init_fits sc (Some (object_type_of ty)) (initialised st ty init).init)
initialised_sound laws sc st ty at x no_init r good small sound none = (keeps_nowhere sc.names st r.agrees, refl)
initialised_sound laws sc st ty at x (single a) r good small sound none =
    let p = fitted_sound laws sc st ty a r.agrees r.stand.0 sound good none in
    let id = (fitted st ty a).id in
    (p.0, both_hold (is_value (Some (object_type_of ty))) (expr_fits sc (same_types (Some (object_type_of ty))) id) p.1.value (takes_same sc (length st.structs) ty id good p.1))
initialised_sound laws sc st ty at x (braces s es) r good small sound none =
    let leaves = leaves_of st.structs ty in
    let ts = item_types sc.names.structs (object_type_of ty) in
    let alike = leaves_alike laws sc st ty at r.agrees good small in
    let counted : (j : ℕ) → slice_get leaves (0 + j) ≡ slice_get leaves j = λ j. ap (slice_get leaves) (omega arith) in
    let all = items_sound laws sc st leaves leaves ts 0 x es counted alike sound in
    subst (λ (b : Bool). IsSoundListing sc st ts (items st leaves b 0 es)) (sym (not_bad (length st.structs) ty good)) all r none
