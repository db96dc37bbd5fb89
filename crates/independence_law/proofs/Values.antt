-- Where the pointers lead that expressions give, and where objects lie, in one run.
use Rattle.std.proofs.Common.{◌≡◌, ◌∙◌, ◌≤◌, ◌<◌, ℕ, ◌+◌, ◌*◌, ℤ, pos, negsuc, ◌+ℤ◌, refl, ap, sym, subst, arith, Bool, true, false, Option, Some, None, Result, Ok, Err, IfOk, if◌then◌else◌, List, [], ◌∷◌, length}
use Rattle.std.specs.Prelude.{IsTrue, ◌&&◌, is_some, nat_eq, nat_le, nat_lt, slice_get}
use Rattle.std.specs.List.{list_all}
use Rattle.std.specs.Map.{lookup}
use Rattle.std.proofs.lemmas.Bool.{ltb-true}
use Rattle.source_meaning.proofs.SizeLemmas.{repeated_size}
use Rattle.pt_base.specs.declared.int_type.IntType.{IntType}
use Rattle.pt_base.specs.declared.span.Span.{Span}
use Rattle.pt_base.specs.declared.trap.Trap.{Trap}
use Rattle.pt_base.specs.declared.trap.Trap.TheVariants.{Bounds}
use Rattle.pt_base.proofs.Booleans.{both_hold, both_hold_first, both_hold_second, false_not_true}
use Rattle.pt_base.proofs.Numbers.{at_most_self, zero_at_most}
use Rattle.pt_tree.specs.declared.signature.Elem.{Elem}
use Rattle.pt_tree.specs.declared.signature.Elem.TheVariants as e
use Rattle.typed_tree.specs.declared.types.VarTy.{VarTy}
use Rattle.typed_tree.specs.declared.types.VarTy.TheVariants.{Int, Struct, Array, Pointer}
use Rattle.typed_tree.specs.declared.types.StructInfo.{StructInfo}
use Rattle.typed_tree.specs.declared.link.LinkStep.TheVariants.{Move}
use Rattle.typed_tree.specs.Cells.{cells_of, leaves_of, repeated}
use Rattle.typed_tree.specs.Sizes.{elem_cells, sizes_of}
use Rattle.typed_tree.specs.TypeTests.{is_scalar, item_of, pointee_of, type_of_elem}
use Rattle.typed_tree.specs.TypeTests as t
use Rattle.typed_tree.specs.TypeRules.{stepped}
use Rattle.typed_tree.specs.WellFormed.{field_sound, is_plain_type, is_small, structs_sound}
use Rattle.runs.specs.Pointers.{Target, at_index, cell_at as place_at, directed, moved, up_to}
use Rattle.block_memory.specs.declared.cell.Cell.{Cell}
use Rattle.block_memory.specs.declared.cell.Cell.TheVariants as cell
use Rattle.block_memory.specs.declared.cell.Pointer.TheVariants as pointer
use Rattle.block_memory.specs.declared.cell.BlockName.{BlockName}
use Rattle.block_memory.specs.Blocks.{Blocks}
use Rattle.pt_core.specs.CodeTree.{RootTree, local, global, deref, PlaceTree, place, ExprTree, constant, read, unary, binary, convert, null, address, decay, move, compare, difference, ProgramTree}
use Rattle.pt_core.specs.Types.{Context, element_of, field_type, global_type, path_type, place_type, pointee_type, root_type, type_of}
use Rattle.pt_core.specs.Values.{Stop, ◌>>?◌, at_span, numbered, pointed, told, target_of, number_in, converted, Location, field_at, along, offset_in, pointee, decayed, cell_in, value_of, location_of, root_location}
use Rattle.pt_core.specs.Calls.{context_in}
use Rattle.pt_core.specs.WellFormedExpression.{is_field, is_path, is_addressed, expr_fits, place_fits, root_fits}
use Rattle.core_soundness_law.specs.Fits.{depth_of}
use Rattle.core_soundness_law.proofs.Integers.{element_lies}
use Rattle.core_soundness_law.proofs.Leaves.{FieldOf, all_at, field_of, sound_at}
use Rattle.core_soundness_law.proofs.Objects.{element_size}
use Rattle.core_soundness_law.proofs.Values.{bound, known_variable}
use Rattle.lent_blocks_law.specs.Lent.{AreWritable, PointsToWritable}
use Rattle.lent_blocks_law.proofs.Ranges.{always, inner_writable, lies_length, path_lent, address_lent, decay_lent}
use Rattle.monitor_labels.specs.Nodes.{Node, of_variable, of_global}
use Rattle.monitor_labels.specs.Arrows.{place_start, root_start, start_of}
use Rattle.independence_law.proofs.Worlds.{World, hides, reached_in, type_in, Leads, ValuePoints, ValueLeads, CellLeads, PointersLead}

-- ---- what a function sees

pub record Sees (p : ProgramTree) (w : World) (f depth : ℕ) (blocks : Blocks) : Type 0 where
  pub here : w.who depth ≡ f
  pub structs : IsTrue (structs_sound p.structs 0 p.structs)
  pub globals : (g : ℕ) → IsTrue (is_some (lookup (nat_eq g) (context_in p f).globals)) → pointee_of (Some (global_type (context_in p f) g)) ≡ None
  pub pointers : PointersLead p w depth blocks

-- an object of this type, which starts from there
pub record ObjectLeads (p : ProgramTree) (w : World) (depth : ℕ) (ty : VarTy) (start : Option Node) (at : Location) : Type 0 where
  pub typed : at.ty ≡ ty
  pub near : depth_of at.block ≤ depth
  pub node : Node
  pub starts : start ≡ Some node
  pub secret : hides w at.block ≡ w.secret node
  pub reached : AreWritable (reached_in w) at.block at.cell (cells_of p.structs ty)
  pub kind : pointee_of (type_in p w at.block) ≡ pointee_of (Some ty)
  -- a pointer lies in a variable of this very depth
  pub own : (elem : Elem) → pointee_of (Some ty) ≡ Some elem → depth_of at.block ≡ depth

-- ---- pointers that are read

-- held further up, it is held here
pub farther : (p : ProgramTree) (w : World) (near depth : ℕ) (s t : Bool) (elem : Elem) (block : BlockName) (base count : ℕ) → near ≤ depth → s ≡ t → Leads p w near s elem block base count → Leads p w depth t elem block base count
farther p w near depth s t elem block base count le same leads =
    let first : depth_of block ≤ near = leads.near in
    record { object = leads.object; near = omega (arith, first, le); reached = leads.reached; alike = leads.alike ∙ same }

value_of_cell : (p : ProgramTree) (w : World) (depth : ℕ) (ty : VarTy) (start : Option Node) (at : Location) (v : Cell) → ObjectLeads p w depth ty start at → CellLeads p w at.block v → ValueLeads p w depth (pointee_of (Some ty)) start v
value_of_cell p w depth ty start at (cell.Int v) object held = tt {0}
value_of_cell p w depth ty start at (cell.Ptr pointer.Null) object held = tt {0}
value_of_cell p w depth ty start at (cell.Sealed h) object held = tt {0}
value_of_cell p w depth ty start at (cell.Ptr (pointer.At block base count index)) object held = record {
  elem = held.elem;
  node = object.node;
  typed = sym object.kind ∙ held.typed;
  starts = object.starts;
  leads = farther p w (depth_of at.block) depth (hides w at.block) (w.secret object.node) held.elem block base count object.near object.secret held.leads;
}

-- ---- numbers

numbers_lead : (p : ProgramTree) (w : World) (depth : ℕ) (kind : Option Elem) (start : Option Node) (r : Result ℤ Stop) → IfOk (numbered r) (ValueLeads p w depth kind start)
numbers_lead p w depth kind start (Ok v) = tt {0}
numbers_lead p w depth kind start (Err stop) = tt {0}

truths_lead : (p : ProgramTree) (w : World) (depth : ℕ) (kind : Option Elem) (start : Option Node) (r : Result Bool Stop) → IfOk (told r) (ValueLeads p w depth kind start)
truths_lead p w depth kind start (Ok b) = tt {0}
truths_lead p w depth kind start (Err stop) = tt {0}

converted_leads : (p : ProgramTree) (w : World) (depth : ℕ) (kind : Option Elem) (start : Option Node) (same : Bool) (to : IntType) (v : Cell) → ValueLeads p w depth kind start (converted same to v)
converted_leads p w depth kind start same to (cell.Int v) = tt {0}
converted_leads p w depth kind start same to (cell.Ptr q) = tt {0}
converted_leads p w depth kind start true to (cell.Sealed h) = tt {0}
converted_leads p w depth kind start false to (cell.Sealed h) = tt {0}

-- ---- along a path of fields

pub plain_kind : (n : ℕ) (ty : VarTy) → IsTrue (is_plain_type n ty) → pointee_of (Some ty) ≡ None
plain_kind n (Int t) h = refl
plain_kind n (Struct m) h = refl
plain_kind n (Array elem count) h = refl
plain_kind n (Pointer elem fixed) h = false_not_true h

-- a field is no pointer
pub field_kind : (structs : List StructInfo) (n k : ℕ) → IsTrue (structs_sound structs 0 structs) → IsTrue (is_field structs (Struct n) k) → pointee_of (Some (field_type structs (Struct n) k)) ≡ None
field_kind structs n k sound h =
    let of : FieldOf structs n k = field_of structs n k h in
    let fits : IsTrue (field_sound structs n of.field) = all_at (field_sound structs n) of.struct_.fields k of.field of.is_field
    (both_hold_second (nat_le 1 (length of.struct_.fields)) (list_all (field_sound structs n) of.struct_.fields) (sound_at structs n of.struct_ sound of.is_struct)) in
    ap (λ u. pointee_of (Some u)) of.typed ∙ plain_kind n of.field.ty (both_hold_first (is_plain_type n of.field.ty) (is_small structs of.field.ty) fits)

pub none_is : {A : Type 0} (elem : Elem) → None ≡ Some elem → A
none_is elem h = cc

path_leads : (p : ProgramTree) (w : World) (depth : ℕ) (c : Context) (start : Option Node) → c.structs ≡ p.structs → IsTrue (structs_sound c.structs 0 c.structs) → (path : List ℕ) (ty : VarTy) (at : Location) → IsTrue (is_path c.structs ty path) →
    ObjectLeads p w depth ty start at → ObjectLeads p w depth (path_type c.structs ty path) start (along c path at)
path_leads p w depth c start same sound [] ty at h object = object
path_leads p w depth c start same sound (k ∷ ks) (Int t) at h object = false_not_true h
path_leads p w depth c start same sound (k ∷ ks) (Array elem count) at h object = false_not_true h
path_leads p w depth c start same sound (k ∷ ks) (Pointer elem fixed) at h object = false_not_true h
path_leads p w depth c start same sound (k ∷ ks) (Struct n) at h object =
    let field : VarTy = field_type c.structs (Struct n) k in
    let first : IsTrue (is_field c.structs (Struct n) k) = both_hold_first (is_field c.structs (Struct n) k) (is_path c.structs field ks) h in
    path_leads p w depth c start same sound ks field (field_at c k at) (both_hold_second (is_field c.structs (Struct n) k) (is_path c.structs field ks) h)
    (record {
      typed = ap (λ u. field_type c.structs u k) object.typed;
      near = object.near;
      node = object.node;
      starts = object.starts;
      secret = object.secret;
      reached = subst (λ structs. AreWritable (reached_in w) at.block (at.cell + offset_in c.structs at.ty k) (cells_of structs field)) same
          (path_lent (reached_in w) c sound (k ∷ []) (Struct n) at (both_hold (is_field c.structs (Struct n) k) true first refl) object.typed
          (subst (λ structs. AreWritable (reached_in w) at.block at.cell (cells_of structs (Struct n))) (sym same) object.reached));
      kind = object.kind ∙ sym (field_kind c.structs n k sound first);
      own = λ elem is. none_is elem (sym (field_kind c.structs n k sound first) ∙ is);
    })

-- ---- behind a pointer

element_within : (count index : ℕ) (ts : List IntType) → index < count → index * length ts + length ts ≤ count * length ts
element_within count index ts less =
    let lies = lies_length (repeated count ts) (index * length ts) ts (element_lies count index ts less) in let all = repeated_size count ts in omega (arith, lies, all)

pub element_kind : (elem : Elem) → pointee_of (Some (type_of_elem elem)) ≡ None
element_kind (e.Int t) = refl
element_kind (e.Struct n) = refl

abbrev if_within : Bool → BlockName → ℕ → Result (BlockName × ℕ) Trap
if_within b block n = if b then Ok (block, n) else Err Bounds

reached_leads : (p : ProgramTree) (w : World) (depth : ℕ) (elem : Elem) (start : Option Node) (s : Span) (block : BlockName) (base count index : ℕ) → ValuePoints p w depth (Some elem) start block base count → (b : Bool) → nat_lt index count ≡ b →
    IfOk (at_span s (if_within b block (place_at (elem_cells (sizes_of p.structs) elem) base index)) >>? λ at. Ok (record { block = at.0; cell = at.1; ty = type_of_elem elem })) (ObjectLeads p w depth (type_of_elem elem) start)
reached_leads p w depth elem start s block base count index points false less = tt {0}
reached_leads p w depth elem start s block base count index points true less = record {
  typed = refl;
  near = points.leads.near;
  node = points.node;
  starts = points.starts;
  secret = points.leads.alike;
  reached = subst (λ k. AreWritable (reached_in w) block (base + index * k) (cells_of p.structs (type_of_elem elem))) (sym (element_size p.structs elem))
      (inner_writable (reached_in w) block base (count * cells_of p.structs (type_of_elem elem)) (index * cells_of p.structs (type_of_elem elem)) (cells_of p.structs (type_of_elem elem))
      (element_within count index (leaves_of p.structs (type_of_elem elem)) (ltb-true index count less))
      (subst (λ x. AreWritable (reached_in w) block base (count * cells_of p.structs (type_of_elem x))) (sym (same elem points.elem points.typed)) points.leads.reached));
  kind = points.leads.object ∙ sym (element_kind elem);
  own = λ other is. none_is other (sym (element_kind elem) ∙ is);
}
  where
    same : (x y : Elem) → Some x ≡ Some y → x ≡ y
    same x y h = cc

pointee_leads : (p : ProgramTree) (w : World) (depth : ℕ) (c : Context) (start : Option Node) (s : Span) (ty : VarTy) (v : Cell) → c.structs ≡ p.structs → IsTrue (is_some (pointee_of (Some ty))) → ValueLeads p w depth (pointee_of (Some ty)) start v →
    IfOk (pointee c s ty v) (ObjectLeads p w depth (pointee_type ty) start)
pointee_leads p w depth c start s (Int t) v same h leads = false_not_true h
pointee_leads p w depth c start s (Struct n) v same h leads = false_not_true h
pointee_leads p w depth c start s (Array elem count) v same h leads = false_not_true h
pointee_leads p w depth c start s (Pointer elem fixed) (cell.Int v) same h leads = tt {0}
pointee_leads p w depth c start s (Pointer elem fixed) (cell.Sealed v) same h leads = tt {0}
pointee_leads p w depth c start s (Pointer elem fixed) (cell.Ptr pointer.Null) same h leads = tt {0}
pointee_leads p w depth c start s (Pointer elem fixed) (cell.Ptr (pointer.At block base count index)) same h leads =
    subst (λ structs. IfOk (at_span s (if_within (nat_lt index count) block (place_at (elem_cells (sizes_of structs) elem) base index)) >>? λ at. Ok (record { block = at.0; cell = at.1; ty = type_of_elem elem })) (ObjectLeads p w depth (type_of_elem elem) start))
    (sym same) (reached_leads p w depth elem start s block base count index leads (nat_lt index count) refl)

-- ---- pointers that are made

address_kind : (ty : VarTy) → IsTrue (is_some (t.element_of (Some ty))) → pointee_of (Some ty) ≡ None
address_kind (Int t) h = refl
address_kind (Struct n) h = refl
address_kind (Array elem count) h = false_not_true h
address_kind (Pointer elem fixed) h = false_not_true h

address_leads : (p : ProgramTree) (w : World) (depth : ℕ) (ty : VarTy) (start : Option Node) (at : Location) → IsTrue (is_some (t.element_of (Some ty))) → ObjectLeads p w depth ty start at →
    ValuePoints p w depth (Some (element_of ty)) start at.block at.cell 1
address_leads p w depth ty start at h object = record {
  elem = element_of ty;
  node = object.node;
  typed = refl;
  starts = object.starts;
  leads = record { object = object.kind ∙ address_kind ty h; near = object.near; reached = address_lent (reached_in w) p.structs ty at h object.reached; alike = object.secret };
}

decay_leads : (p : ProgramTree) (w : World) (depth : ℕ) (ty : VarTy) (start : Option Node) (at : Location) → IsTrue (is_some (item_of (Some ty))) → ObjectLeads p w depth ty start at →
    ValueLeads p w depth (Some (element_of ty)) start (decayed at at.ty)
decay_leads p w depth (Int t) start at h object = false_not_true h
decay_leads p w depth (Struct n) start at h object = false_not_true h
decay_leads p w depth (Pointer elem fixed) start at h object = false_not_true h
decay_leads p w depth (Array elem count) start at h object =
    subst (λ u. ValueLeads p w depth (Some elem) start (decayed at u)) (sym object.typed) (record {
      elem = elem;
      node = object.node;
      typed = refl;
      starts = object.starts;
      leads = record {
        object = object.kind;
        near = object.near;
        reached = subst (λ u. PointsToWritable (reached_in w) p.structs elem (decayed at u)) object.typed (decay_lent (reached_in w) p.structs (Array elem count) at h object.typed object.reached);
        alike = object.secret;
      };
    })

moved_leads : (p : ProgramTree) (w : World) (depth : ℕ) (kind : Option Elem) (start : Option Node) (s : Span) (amount : ℤ) (v : Cell) → ValueLeads p w depth kind start v → IfOk (pointed (at_span s (moved amount (target_of v)))) (ValueLeads p w depth kind start)
moved_leads p w depth kind start s amount (cell.Int v) leads = tt {0}
moved_leads p w depth kind start s amount (cell.Sealed v) leads = tt {0}
moved_leads p w depth kind start s amount (cell.Ptr pointer.Null) leads = tt {0}
moved_leads p w depth kind start s amount (cell.Ptr (pointer.At block base count index)) leads = go (pos index +ℤ amount)
  where
    target : Target BlockName
    target = record { block = block; base = base; count = count; index = index }

    at_test : (n : ℕ) (b : Bool) → IfOk (pointed (at_span s (at_index target (if b then Some n else None)))) (ValueLeads p w depth kind start)
    at_test n false = tt {0}
    at_test n true = leads

    go : (z : ℤ) → IfOk (pointed (at_span s (at_index target (up_to count z)))) (ValueLeads p w depth kind start)
    go (pos n) = at_test n (nat_le n count)
    go (negsuc n) = tt {0}

-- ---- the walk

abbrev Nothing : {A : Type 0} → A → Type 0
Nothing x = Unit {0}

mutual
  pub values_lead : (p : ProgramTree) (w : World) (f depth : ℕ) (blocks : Blocks) → Sees p w f depth blocks → (e : ExprTree) → IsTrue (expr_fits (context_in p f) e) →
      IfOk (value_of (context_in p f) depth e blocks) (ValueLeads p w depth (pointee_of (Some (type_of (context_in p f) e))) (start_of f e))
  values_lead p w f depth blocks s (constant t v) h = tt {0}
  values_lead p w f depth blocks s (read q) h =
      bound (ObjectLeads p w depth (place_type (context_in p f) q) (place_start f q)) (ValueLeads p w depth (pointee_of (Some (place_type (context_in p f) q))) (place_start f q)) (location_of (context_in p f) depth q blocks) _
      (places_lead p w f depth blocks s q (both_hold_first (place_fits (context_in p f) q) (is_scalar (Some (place_type (context_in p f) q))) h))
      (λ at object. value_of_cell p w depth (place_type (context_in p f) q) (place_start f q) at (cell_in blocks at) object (s.pointers at.block at.cell object.near))
  values_lead p w f depth blocks s (unary op t a span) h =
      bound Nothing (ValueLeads p w depth None None) (value_of (context_in p f) depth a blocks) _ (always Nothing (value_of (context_in p f) depth a blocks) (λ x. tt {0})) (λ v _. numbers_lead p w depth None None _)
  values_lead p w f depth blocks s (binary op t a b span) h =
      bound Nothing (ValueLeads p w depth None None) (value_of (context_in p f) depth a blocks) _ (always Nothing (value_of (context_in p f) depth a blocks) (λ x. tt {0}))
      (λ v _. bound Nothing (ValueLeads p w depth None None) (value_of (context_in p f) depth b blocks) _ (always Nothing (value_of (context_in p f) depth b blocks) (λ x. tt {0})) (λ x _. numbers_lead p w depth None None _))
  values_lead p w f depth blocks s (convert to a) h =
      bound Nothing (ValueLeads p w depth None None) (value_of (context_in p f) depth a blocks) _ (always Nothing (value_of (context_in p f) depth a blocks) (λ x. tt {0})) (λ v _. converted_leads p w depth None None _ to v)
  values_lead p w f depth blocks s (null elem) h = tt {0}
  values_lead p w f depth blocks s (address q) h =
      let c : Context = context_in p f in
      let rest : IsTrue (is_addressed q && is_some (t.element_of (Some (place_type c q)))) = both_hold_second (place_fits c q) (is_addressed q && is_some (t.element_of (Some (place_type c q)))) h in
      bound (ObjectLeads p w depth (place_type c q) (place_start f q)) (ValueLeads p w depth (Some (element_of (place_type c q))) (place_start f q)) (location_of c depth q blocks) _
      (places_lead p w f depth blocks s q (both_hold_first (place_fits c q) (is_addressed q && is_some (t.element_of (Some (place_type c q)))) h))
      (λ at object. address_leads p w depth (place_type c q) (place_start f q) at (both_hold_second (is_addressed q) (is_some (t.element_of (Some (place_type c q)))) rest) object)
  values_lead p w f depth blocks s (decay q) h =
      let c : Context = context_in p f in
      bound (ObjectLeads p w depth (place_type c q) (place_start f q)) (ValueLeads p w depth (Some (element_of (place_type c q))) (place_start f q)) (location_of c depth q blocks) _
      (places_lead p w f depth blocks s q (both_hold_first (place_fits c q) (is_some (item_of (Some (place_type c q)))) h))
      (λ at object. decay_leads p w depth (place_type c q) (place_start f q) at (both_hold_second (place_fits c q) (is_some (item_of (Some (place_type c q)))) h) object)
  values_lead p w f depth blocks s (move a b back span) h =
      let c : Context = context_in p f in
      let sides : IsTrue (expr_fits c a && expr_fits c b) = both_hold_first (expr_fits c a && expr_fits c b) (is_some (stepped (Some (type_of c a)) (Move back) (Some (type_of c b)))) h in
      bound (ValueLeads p w depth (pointee_of (Some (type_of c a))) (start_of f a)) (ValueLeads p w depth (pointee_of (Some (type_of c a))) (start_of f a)) (value_of c depth a blocks) _
      (values_lead p w f depth blocks s a (both_hold_first (expr_fits c a) (expr_fits c b) sides))
      (λ v leads. bound Nothing (ValueLeads p w depth (pointee_of (Some (type_of c a))) (start_of f a)) (value_of c depth b blocks) _ (always Nothing (value_of c depth b blocks) (λ x. tt {0}))
      (λ x _. moved_leads p w depth (pointee_of (Some (type_of c a))) (start_of f a) span (directed back (number_in x)) v leads))
  values_lead p w f depth blocks s (compare op a b span) h =
      bound Nothing (ValueLeads p w depth None None) (value_of (context_in p f) depth a blocks) _ (always Nothing (value_of (context_in p f) depth a blocks) (λ x. tt {0}))
      (λ v _. bound Nothing (ValueLeads p w depth None None) (value_of (context_in p f) depth b blocks) _ (always Nothing (value_of (context_in p f) depth b blocks) (λ x. tt {0})) (λ x _. truths_lead p w depth None None _))
  values_lead p w f depth blocks s (difference a b span) h =
      bound Nothing (ValueLeads p w depth None None) (value_of (context_in p f) depth a blocks) _ (always Nothing (value_of (context_in p f) depth a blocks) (λ x. tt {0}))
      (λ v _. bound Nothing (ValueLeads p w depth None None) (value_of (context_in p f) depth b blocks) _ (always Nothing (value_of (context_in p f) depth b blocks) (λ x. tt {0})) (λ x _. numbers_lead p w depth None None _))

  pub places_lead : (p : ProgramTree) (w : World) (f depth : ℕ) (blocks : Blocks) → Sees p w f depth blocks → (q : PlaceTree) → IsTrue (place_fits (context_in p f) q) →
      IfOk (location_of (context_in p f) depth q blocks) (ObjectLeads p w depth (place_type (context_in p f) q) (place_start f q))
  places_lead p w f depth blocks s (place root path) h =
      let c : Context = context_in p f in
      bound (ObjectLeads p w depth (root_type c root) (root_start f root)) (ObjectLeads p w depth (place_type c (place root path)) (root_start f root)) (root_location c depth root blocks) _
      (roots_lead p w f depth blocks s root (both_hold_first (root_fits c root) (is_path c.structs (root_type c root) path) h))
      (λ at object. path_leads p w depth c (root_start f root) refl s.structs path (root_type c root) at (both_hold_second (root_fits c root) (is_path c.structs (root_type c root) path) h) object)

  pub roots_lead : (p : ProgramTree) (w : World) (f depth : ℕ) (blocks : Blocks) → Sees p w f depth blocks → (r : RootTree) → IsTrue (root_fits (context_in p f) r) →
      IfOk (root_location (context_in p f) depth r blocks) (ObjectLeads p w depth (root_type (context_in p f) r) (root_start f r))
  roots_lead p w f depth blocks s (local v) h = record {
    typed = refl;
    near = at_most_self depth;
    node = of_variable f v;
    starts = refl;
    secret = ap (λ g. w.secret (of_variable g v)) s.here;
    reached = λ i less. refl;
    kind = ap (λ g. pointee_of (slice_get (context_in p g).variables v)) s.here ∙ ap pointee_of (known_variable (context_in p f) v h);
    own = λ elem is. refl;
  }
  roots_lead p w f depth blocks s (global g) h = record {
    typed = refl;
    near = zero_at_most depth;
    node = of_global g;
    starts = refl;
    secret = refl;
    reached = λ i less. refl;
    kind = sym (s.globals g h);
    own = λ elem is. none_is elem (sym (s.globals g h) ∙ is);
  }
  roots_lead p w f depth blocks s (deref a span) h =
      let c : Context = context_in p f in
      bound (ValueLeads p w depth (pointee_of (Some (type_of c a))) (start_of f a)) (ObjectLeads p w depth (pointee_type (type_of c a)) (start_of f a)) (value_of c depth a blocks) _
      (values_lead p w f depth blocks s a (both_hold_first (expr_fits c a) (is_some (pointee_of (Some (type_of c a)))) h))
      (λ v leads. pointee_leads p w depth c (start_of f a) span (type_of c a) v refl (both_hold_second (expr_fits c a) (is_some (pointee_of (Some (type_of c a)))) h) leads)
