-- What is stored leads as what it is stored in, and changes secrets alone where whether it is stored is secret.
use Rattle.std.proofs.Common.{◌≡◌, ◌∙◌, ◌≤◌, ℕ, zero, suc, pos, refl, ap, sym, subst, arith, Bool, true, false, not, Option, Some, None, IfOk, List, [], ◌∷◌, ◌++◌, append_assoc, length, map}
use Rattle.std.specs.Prelude.{IsTrue, MatchOption, ◌&&◌, ◌||◌, drop, is_some, nat_lt, slice_get, take}
use Rattle.std.specs.Option.{option_map_or}
use Rattle.pt_base.proofs.Booleans.{both_hold_first, both_hold_second, false_not_true}
use Rattle.pt_base.proofs.Numbers.{at_most_self}
use Rattle.pt_base.proofs.Options.{some_same}
use Rattle.pt_tree.specs.declared.signature.Elem.{Elem}
use Rattle.typed_tree.specs.declared.types.VarTy.{VarTy}
use Rattle.typed_tree.specs.declared.types.VarTy.TheVariants.{Int, Struct, Array, Pointer}
use Rattle.typed_tree.specs.declared.types.StructInfo.{StructInfo}
use Rattle.typed_tree.specs.declared.variable.Var.{Var}
use Rattle.typed_tree.specs.Sizes.{cells_by, sizes_of}
use Rattle.typed_tree.specs.TypeTests.{is_scalar, pointee_of, same_elem, same_type}
use Rattle.typed_tree.specs.WellFormed.{structs_sound}
use Rattle.typed_tree.proofs.SameTypes.{equal_elems, equal_types}
use Rattle.block_memory.specs.declared.cell.Cell.{Cell}
use Rattle.block_memory.specs.declared.cell.Cell.TheVariants as cell
use Rattle.block_memory.specs.declared.cell.Pointer.TheVariants as pointer
use Rattle.block_memory.specs.declared.cell.BlockName.{BlockName}
use Rattle.block_memory.specs.declared.cell.BlockName.TheVariants.{Local}
use Rattle.block_memory.specs.Blocks.{Blocks}
use Rattle.pt_core.specs.CodeTree.{FunctionTree, local, global, deref, PlaceTree, place, ExprTree, ProgramTree}
use Rattle.pt_core.specs.Types.{Context, field_type, path_type, place_type, pointee_type, root_type, type_at, type_of}
use Rattle.pt_core.specs.Values.{Location, cells_at, value_of, location_of}
use Rattle.pt_core.specs.Statements.{assigned, copied, kept}
use Rattle.pt_core.specs.Calls.{context_in, function_in}
use Rattle.pt_core.specs.WellFormedExpression.{is_field, is_path, expr_fits, place_fits, root_fits, stands_for}
use Rattle.pt_core.specs.WellFormedStatement.{is_compound, value_fits}
use Rattle.core_soundness_law.specs.Fits.{depth_of}
use Rattle.core_soundness_law.proofs.Values.{bound, known_variable}
use Rattle.monitor_labels.specs.Nodes.{Node, of_variable, of_control}
use Rattle.monitor_labels.specs.Arrows.{arrows_back, arrows_to, assigned_arrows, copied_arrows, is_pointer, is_pointer_place, place_reads, place_start, reads, start_of}
use Rattle.independence_law.specs.Bodies.{is_pointing}
use Rattle.independence_law.proofs.Slices.{AllHold, got_there, part_holds}
use Rattle.independence_law.proofs.Worlds.{World, AreAlike, CellLeads, Leads, PointersLead, ValueLeads, hides, type_in}
use Rattle.independence_law.proofs.Follows.{Follows, as_secret, back_secret, follows_first, follows_second, goes_to, last_secret, reads_first, secret_at, start_read}
use Rattle.independence_law.proofs.Values.{ObjectLeads, Sees, element_kind, farther, field_kind, none_is, places_lead, values_lead}
use Rattle.independence_law.proofs.Changes.{all_written_hidden, all_written_leads, written_hidden, written_leads}
use Rattle.independence_law.proofs.Known.{function_of}

-- ---- kinds of types

-- what may stand for a pointer is one to the same
pub stands_kind : (a b : VarTy) → IsTrue (stands_for a b) → pointee_of (Some a) ≡ pointee_of (Some b)
stands_kind (Int t) b h = ap (λ u. pointee_of (Some u)) (equal_types (Int t) b h)
stands_kind (Struct n) b h = ap (λ u. pointee_of (Some u)) (equal_types (Struct n) b h)
stands_kind (Array elem count) b h = ap (λ u. pointee_of (Some u)) (equal_types (Array elem count) b h)
stands_kind (Pointer x fixed) (Int t) h = false_not_true h
stands_kind (Pointer x fixed) (Struct n) h = false_not_true h
stands_kind (Pointer x fixed) (Array elem count) h = false_not_true h
stands_kind (Pointer x f) (Pointer y g) h = ap Some (equal_elems x y (both_hold_first (same_elem x y) (not f || g) h))

compound_kind : (ty : VarTy) → IsTrue (is_compound ty) → pointee_of (Some ty) ≡ None
compound_kind (Int t) h = false_not_true h
compound_kind (Struct n) h = refl
compound_kind (Array elem count) h = refl
compound_kind (Pointer elem fixed) h = false_not_true h

-- ---- a pointer is stored in a whole variable

-- the end of a path with a field is none
path_kind : (structs : List StructInfo) (ty : VarTy) (k : ℕ) (ks : List ℕ) → IsTrue (structs_sound structs 0 structs) → IsTrue (is_path structs ty (k ∷ ks)) → pointee_of (Some (path_type structs ty (k ∷ ks))) ≡ None
path_kind structs (Int t) k ks sound h = false_not_true h
path_kind structs (Array elem count) k ks sound h = false_not_true h
path_kind structs (Pointer elem fixed) k ks sound h = false_not_true h
path_kind structs (Struct n) k [] sound h = field_kind structs n k sound (both_hold_first (is_field structs (Struct n) k) true h)
path_kind structs (Struct n) k (j ∷ ks) sound h = path_kind structs (field_type structs (Struct n) k) j ks sound (both_hold_second (is_field structs (Struct n) k) (is_path structs (field_type structs (Struct n) k) (j ∷ ks)) h)

pointee_kind : (ty : VarTy) → IsTrue (is_some (pointee_of (Some ty))) → pointee_of (Some (pointee_type ty)) ≡ None
pointee_kind (Int t) h = false_not_true h
pointee_kind (Struct n) h = false_not_true h
pointee_kind (Array elem count) h = false_not_true h
pointee_kind (Pointer elem fixed) h = element_kind elem

pub pointer_variable : (xs : List Var) (v : ℕ) (ty : VarTy) (elem : Elem) → slice_get (map (λ x. x.ty) xs) v ≡ Some ty → pointee_of (Some ty) ≡ Some elem → option_map_or is_pointer (slice_get xs v) false ≡ true
pointer_variable [] v ty elem at kind = cc
pointer_variable (x ∷ xs) zero ty elem at kind = ap is_some (ap (λ u. pointee_of (Some u)) (some_same x.ty ty at) ∙ kind)
pointer_variable (x ∷ xs) (suc v) ty elem at kind = pointer_variable xs v ty elem at kind

pub pointer_place : (p : ProgramTree) (w : World) (f depth : ℕ) (blocks : Blocks) → Sees p w f depth blocks → (q : PlaceTree) (elem : Elem) → IsTrue (place_fits (context_in p f) q) → pointee_of (Some (place_type (context_in p f) q)) ≡ Some elem → is_pointer_place (function_of p f) q ≡ true
pointer_place p w f depth blocks s (place (local v) []) elem h kind =
    pointer_variable (function_in p f).vars v (type_at (context_in p f).variables v) elem (known_variable (context_in p f) v (both_hold_first (nat_lt v (length (context_in p f).variables)) true h)) kind
pointer_place p w f depth blocks s (place (global g) []) elem h kind = none_is elem (sym (s.globals g (both_hold_first (root_fits (context_in p f) (global g)) true h)) ∙ kind)
pointer_place p w f depth blocks s (place (deref a span) []) elem h kind = none_is elem (sym (pointee_kind (type_of (context_in p f) a) (both_hold_second (expr_fits (context_in p f) a) (is_some (pointee_of (Some (type_of (context_in p f) a)))) (both_hold_first (root_fits (context_in p f) (deref a span)) true h))) ∙ kind)
pointer_place p w f depth blocks s (place (local v) (k ∷ ks)) elem h kind = none_is elem (sym (path_kind p.structs (root_type (context_in p f) (local v)) k ks s.structs (both_hold_second (root_fits (context_in p f) (local v)) (is_path p.structs (root_type (context_in p f) (local v)) (k ∷ ks)) h)) ∙ kind)
pointer_place p w f depth blocks s (place (global g) (k ∷ ks)) elem h kind = none_is elem (sym (path_kind p.structs (root_type (context_in p f) (global g)) k ks s.structs (both_hold_second (root_fits (context_in p f) (global g)) (is_path p.structs (root_type (context_in p f) (global g)) (k ∷ ks)) h)) ∙ kind)
pointer_place p w f depth blocks s (place (deref a span) (k ∷ ks)) elem h kind = none_is elem (sym (path_kind p.structs (root_type (context_in p f) (deref a span)) k ks s.structs (both_hold_second (root_fits (context_in p f) (deref a span)) (is_path p.structs (root_type (context_in p f) (deref a span)) (k ∷ ks)) h)) ∙ kind)

-- ---- cells that are no pointers

pub plain_leads : (p : ProgramTree) (w : World) (name : BlockName) (v : Cell) → is_pointing v ≡ false → CellLeads p w name v
plain_leads p w name (cell.Int v) h = tt {0}
plain_leads p w name (cell.Ptr pointer.Null) h = tt {0}
plain_leads p w name (cell.Ptr (pointer.At block base count index)) h = cc
plain_leads p w name (cell.Sealed v) h = tt {0}

-- a cell of an object that is no pointer may lie anywhere
object_plain : (p : ProgramTree) (w : World) (from name : BlockName) (v : Cell) → pointee_of (type_in p w from) ≡ None → CellLeads p w from v → CellLeads p w name v
object_plain p w from name (cell.Int v) none held = tt {0}
object_plain p w from name (cell.Ptr pointer.Null) none held = tt {0}
object_plain p w from name (cell.Sealed v) none held = tt {0}
object_plain p w from name (cell.Ptr (pointer.At block base count index)) none held = none_is held.elem (sym none ∙ held.typed)

-- a value that is no pointer's
pub value_plain : (p : ProgramTree) (w : World) (depth : ℕ) (kind : Option Elem) (start : Option Node) (v : Cell) → kind ≡ None → ValueLeads p w depth kind start v → is_pointing v ≡ false
value_plain p w depth kind start (cell.Int v) none leads = refl
value_plain p w depth kind start (cell.Ptr pointer.Null) none leads = refl
value_plain p w depth kind start (cell.Sealed v) none leads = refl
value_plain p w depth kind start (cell.Ptr (pointer.At block base count index)) none leads = none_is leads.elem (sym none ∙ leads.typed)

-- ---- an assignment

-- whether statements are done goes to what they write
pub control_to : (w : World) (f : ℕ) (t : Node) (ns : List Node) → Follows w.secret (arrows_to (Some t) (ns ++ of_control f ∷ [])) → w.secret (of_control f) ≡ true → w.secret t ≡ true
control_to w f t ns follows secret = last_secret w.secret t (of_control f) ns follows secret

-- a pointer that is held at a depth is held at an equal one
nearer : (p : ProgramTree) (w : World) (depth near : ℕ) (s t : Bool) (elem : Elem) (block : BlockName) (base count : ℕ) → depth ≡ near → s ≡ t → Leads p w depth s elem block base count → Leads p w near t elem block base count
nearer p w depth near s t elem block base count le same leads = farther p w depth near s t elem block base count (let e : depth ≤ near = omega (arith, le) in e) same leads

-- what a change of the blocks keeps
pub record Changed (p : ProgramTree) (w : World) (f depth : ℕ) (before after : Blocks) : Type 0 where
  pub leads : PointersLead p w depth after
  pub kept : w.secret (of_control f) ≡ true → AreAlike w depth before after

-- the value leads as the object that it is stored in
stored : (p : ProgramTree) (w : World) (f depth : ℕ) (blocks : Blocks) → Sees p w f depth blocks → (q : PlaceTree) (a : ExprTree) (at : Location) (v : Cell) → IsTrue (place_fits (context_in p f) q) → IsTrue (stands_for (type_of (context_in p f) a) (place_type (context_in p f) q)) →
    Follows w.secret (assigned_arrows (function_of p f) q a) → ObjectLeads p w depth (place_type (context_in p f) q) (place_start f q) at → ValueLeads p w depth (pointee_of (Some (type_of (context_in p f) a))) (start_of f a) v → CellLeads p w at.block v
stored p w f depth blocks s q a at (cell.Int v) lies stands follows object leads = tt {0}
stored p w f depth blocks s q a at (cell.Ptr pointer.Null) lies stands follows object leads = tt {0}
stored p w f depth blocks s q a at (cell.Sealed v) lies stands follows object leads = tt {0}
stored p w f depth blocks s q a at (cell.Ptr (pointer.At block base count index)) lies stands follows object leads =
    let c : Context = context_in p f in
    let fn : FunctionTree = function_of p f in
    let kind : pointee_of (Some (place_type c q)) ≡ Some leads.elem = sym (stands_kind (type_of c a) (place_type c q) stands) ∙ leads.typed in
    let whole : is_pointer_place fn q ≡ true = pointer_place p w f depth blocks s q leads.elem lies kind in
    let from : List Node = reads f a ++ (place_reads f q ++ of_control f ∷ []) in
    let forth : Follows w.secret (arrows_to (Some object.node) from) = goes_to w.secret object.node from (place_start f q) object.starts
    (follows_first w.secret (arrows_to (place_start f q) from) (arrows_back (is_pointer_place fn q) (place_start f q) (start_of f a)) follows) in
    let back : Follows w.secret (arrows_back (is_pointer_place fn q) (place_start f q) (start_of f a)) = follows_second w.secret (arrows_to (place_start f q) from) (arrows_back (is_pointer_place fn q) (place_start f q) (start_of f a)) follows in
    let same : w.secret leads.node ≡ w.secret object.node = as_secret (w.secret leads.node) (w.secret object.node)
    (λ secret. secret_at w.secret object.node from leads.node forth (reads_first (reads f a) (place_reads f q ++ of_control f ∷ []) leads.node (start_read f a leads.node leads.starts)) secret)
    (λ secret. back_secret w.secret (is_pointer_place fn q) object.node leads.node (place_start f q) (start_of f a) whole object.starts leads.starts back secret) in
    record {
      elem = leads.elem;
      typed = object.kind ∙ kind;
      leads = nearer p w depth (depth_of at.block) (w.secret leads.node) (hides w at.block) leads.elem block base count (sym (object.own leads.elem kind)) (same ∙ sym object.secret) leads.leads;
    }

pub assigned_leads : (p : ProgramTree) (w : World) (f depth : ℕ) (blocks : Blocks) → Sees p w f depth blocks → (q : PlaceTree) (a : ExprTree) →
    IsTrue (place_fits (context_in p f) q && (is_scalar (Some (place_type (context_in p f) q)) && value_fits (context_in p f) (place_type (context_in p f) q) a)) →
    Follows w.secret (assigned_arrows (function_of p f) q a) → IfOk (assigned (context_in p f) depth q a blocks) (Changed p w f depth blocks)
assigned_leads p w f depth blocks s q a h follows =
    let c : Context = context_in p f in
    let ty : VarTy = place_type c q in
    let lies : IsTrue (place_fits c q) = both_hold_first (place_fits c q) (is_scalar (Some ty) && value_fits c ty a) h in
    let value : IsTrue (value_fits c ty a) = both_hold_second (is_scalar (Some ty)) (value_fits c ty a) (both_hold_second (place_fits c q) (is_scalar (Some ty) && value_fits c ty a) h) in
    bound (ObjectLeads p w depth ty (place_start f q)) (Changed p w f depth blocks) (location_of c depth q blocks) _ (places_lead p w f depth blocks s q lies)
    (λ at object. bound (ValueLeads p w depth (pointee_of (Some (type_of c a))) (start_of f a)) (Changed p w f depth blocks) (value_of c depth a blocks) _
    (values_lead p w f depth blocks s a (both_hold_first (expr_fits c a) (stands_for (type_of c a) ty) value))
    (λ v leads. record {
      leads = written_leads p w depth blocks at.block at.cell v object.near s.pointers (stored p w f depth blocks s q a at v lies (both_hold_second (expr_fits c a) (stands_for (type_of c a) ty) value) follows object leads);
      kept = λ secret. written_hidden w depth blocks at.block at.cell v
          (object.secret ∙ control_to w f object.node (reads f a ++ place_reads f q)
          (subst (λ ns. Follows w.secret (arrows_to (Some object.node) ns)) (sym (append_assoc (reads f a) (place_reads f q) (of_control f ∷ [])))
          (goes_to w.secret object.node (reads f a ++ (place_reads f q ++ of_control f ∷ [])) (place_start f q) object.starts
          (follows_first w.secret (arrows_to (place_start f q) (reads f a ++ (place_reads f q ++ of_control f ∷ []))) (arrows_back (is_pointer_place (function_of p f) q) (place_start f q) (start_of f a)) follows))) secret);
    }))

-- ---- a copy

cells_plain : (p : ProgramTree) (w : World) (depth : ℕ) (blocks : Blocks) (from to : BlockName) (at count : ℕ) → PointersLead p w depth blocks → depth_of from ≤ depth → pointee_of (type_in p w from) ≡ None → AllHold (CellLeads p w to) (take count (drop at (blocks from).cells))
cells_plain p w depth blocks from to at count all near none =
    part_holds (CellLeads p w to) (blocks from).cells at count
    (λ i x there. object_plain p w from to x none (subst (CellLeads p w from) (got_there (blocks from).cells i x (cell.Int (pos 0)) there) (all from i near)))

pub copied_leads : (p : ProgramTree) (w : World) (f depth : ℕ) (blocks : Blocks) → Sees p w f depth blocks → (to of : PlaceTree) →
    IsTrue ((place_fits (context_in p f) to && place_fits (context_in p f) of) && (is_compound (place_type (context_in p f) to) && same_type (place_type (context_in p f) to) (place_type (context_in p f) of))) →
    Follows w.secret (copied_arrows (function_of p f) to of) → IfOk (copied (context_in p f) depth to of blocks) (Changed p w f depth blocks)
copied_leads p w f depth blocks s to of h follows =
    let c : Context = context_in p f in
    let a : Bool = place_fits c to in
    let b : Bool = place_fits c of in
    let x : Bool = is_compound (place_type c to) in
    let y : Bool = same_type (place_type c to) (place_type c of) in
    let places : IsTrue (a && b) = both_hold_first (a && b) (x && y) h in
    let types : IsTrue (x && y) = both_hold_second (a && b) (x && y) h in
    let none : pointee_of (Some (place_type c of)) ≡ None = ap (λ u. pointee_of (Some u)) (sym (equal_types (place_type c to) (place_type c of) (both_hold_second x y types))) ∙ compound_kind (place_type c to) (both_hold_first x y types) in
    bound (ObjectLeads p w depth (place_type c to) (place_start f to)) (Changed p w f depth blocks) (location_of c depth to blocks) _ (places_lead p w f depth blocks s to (both_hold_first a b places))
    (λ at object. bound (ObjectLeads p w depth (place_type c of) (place_start f of)) (Changed p w f depth blocks) (location_of c depth of blocks) _ (places_lead p w f depth blocks s of (both_hold_second a b places))
    (λ from source. record {
      leads = all_written_leads p w depth blocks at.block at.cell (cells_at blocks from (cells_by (sizes_of c.structs) at.ty)) object.near s.pointers
          (cells_plain p w depth blocks from.block at.block from.cell (cells_by (sizes_of c.structs) at.ty) s.pointers source.near (source.kind ∙ none));
      kept = λ secret. all_written_hidden w depth blocks at.block at.cell (cells_at blocks from (cells_by (sizes_of c.structs) at.ty))
          (object.secret ∙ control_to w f object.node (place_reads f of ++ place_reads f to)
          (subst (λ ns. Follows w.secret (arrows_to (Some object.node) ns)) (sym (append_assoc (place_reads f of) (place_reads f to) (of_control f ∷ [])))
          (goes_to w.secret object.node (place_reads f of ++ (place_reads f to ++ of_control f ∷ [])) (place_start f to) object.starts follows)) secret);
    }))

-- ---- a result

pub kept_leads : (p : ProgramTree) (w : World) (depth : ℕ) (to : Option ℕ) (v : Option Cell) (blocks : Blocks) → PointersLead p w depth blocks → MatchOption v (Unit {0}) (λ c. is_pointing c ≡ false) → PointersLead p w depth (kept depth to v blocks)
kept_leads p w depth None v blocks all plain = all
kept_leads p w depth (Some x) None blocks all plain = written_leads p w depth blocks (Local depth x) 0 (cell.Int (pos 0)) (at_most_self depth) all (tt {0})
kept_leads p w depth (Some x) (Some c) blocks all plain = written_leads p w depth blocks (Local depth x) 0 c (at_most_self depth) all (plain_leads p w (Local depth x) c plain)

pub kept_hidden : (w : World) (f depth : ℕ) (to : Option ℕ) (v : Option Cell) (blocks : Blocks) → w.who depth ≡ f → ((x : ℕ) → to ≡ Some x → w.secret (of_variable f x) ≡ true) → AreAlike w depth blocks (kept depth to v blocks)
kept_hidden w f depth None v blocks here secret = λ name i near open_. refl
kept_hidden w f depth (Some x) None blocks here secret = written_hidden w depth blocks (Local depth x) 0 (cell.Int (pos 0)) (ap (λ g. w.secret (of_variable g x)) here ∙ secret x refl)
kept_hidden w f depth (Some x) (Some c) blocks here secret = written_hidden w depth blocks (Local depth x) 0 c (ap (λ g. w.secret (of_variable g x)) here ∙ secret x refl)
