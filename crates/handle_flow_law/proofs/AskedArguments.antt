-- The arguments of a call that goes away have their handles under marks, where they are of the classes of an accepted
-- program's parameters.
use Rattle.std.proofs.Common.{◌≡◌, ◌∙◌, ◌<◌, ℕ, ◌+◌, ◌*◌, refl, ap, sym, subst, arith, Bool, true, false, Some, List, length, if◌then◌else◌, get_or}
use Rattle.std.specs.Prelude.{pos, ◌&&◌, ◌||◌, drop, slice_get}
use Rattle.std.specs.Option.{option_map_or}
use Rattle.pt_tree.specs.declared.signature.Elem.{Elem}
use Rattle.pt_tree.specs.declared.signature.Param.{Param}
use Rattle.pt_tree.specs.declared.signature.ParamKind.{ParamKind}
use Rattle.pt_tree.specs.declared.signature.ParamKind.TheVariants as kind
use Rattle.pt_tree.specs.declared.signature.Signature.{Signature}
use Rattle.typed_tree.specs.declared.types.VarTy.{VarTy}
use Rattle.typed_tree.specs.Sizes.{sizes_of, elem_cells, cells_by}
use Rattle.typed_tree.specs.TypeTests.{type_of_elem}
use Rattle.typed_tree.specs.TypedTree.{TypedTree}
use Rattle.typed_tree.specs.WellFormedExpression.{is_elem, param_type}
use Rattle.typed_tree.proofs.WellFormedLemmas.{Facts}
use Rattle.block_memory.specs.declared.cell.Cell.{Cell}
use Rattle.block_memory.specs.declared.cell.Cell.TheVariants as cell
use Rattle.block_memory.specs.declared.cell.Pointer.TheVariants.{Null, At}
use Rattle.block_memory.specs.declared.cell.BlockName.{BlockName}
use Rattle.runs.specs.Pointers.{cell_at}
use Rattle.sides.specs.Leaves as sides
use Rattle.flow_rules.specs.declared.accepted.Accepted.{Accepted}
use Rattle.pt_core.specs.Types.{pointee_type}
use Rattle.pt_core.specs.Calls.{signature_in}
use Rattle.pt_core.specs.Steps.{Machine}
use Rattle.marshalling.specs.Leaves.{range_leaves}
use Rattle.marshalling_law.specs.CallsSending.{may_hold, range_marks, StandsFor, HandlesStand}
use Rattle.handle_classes.specs.Classes.{Class, integer_class, pointed_to}
use Rattle.handle_classes.specs.Invariant.{Fits, MayLie, cell_of, Fine}
use Rattle.handle_classes.proofs.Outside.{cells_behind_fit}
use Rattle.handle_classes_law.specs.ObjectsCells.{is_pointer, leaf_under}
use Rattle.handle_classes_law.specs.SlavesLaws.{slave_half, marks_of, IsSlaveWorld}
use Rattle.handle_classes_law.specs.SlavesMarked.{slave_world, entry_class, param_class}
use Rattle.handle_classes_law.proofs.SlavesClasses.{elem_size}
use Rattle.handle_flow_law.specs.KeptLaws.{is_marked}
use Rattle.handle_flow_law.proofs.KeptCalled.{asks_marked, away_called, has_signature}
use Rattle.handle_flow_law.proofs.KeptMarks.{cells_are_marked, range_cell}
use Rattle.handle_flow_law.proofs.KeptTaking.{Asked, entry_at, fit_at, known_elem, pointer_free, pointer_leaves}
use Rattle.handle_flow_law.proofs.KeptRuns.{world_of}
use Rattle.handle_flow_law.proofs.AskedStanding.{all_allowed, all_stand, cell_behind, handle_marked, marked_leaf}

-- ---- behind a pointer

-- an element of what a parameter of this type points to may hold a handle in this cell
abbrev may_below : TypedTree → ℕ → VarTy → Bool
may_below t q ty = is_pointer ty && (get_or (sides.leaves_of t.structs ty) (leaf_under t.structs (pointee_type ty) q) sides.whole).marked

-- a pointer that is passed to what went away, with the class of its parameter
record Passed (t : TypedTree) (a : Accepted) (m : Machine) (f n : ℕ) (p : Param) (elem : Elem) (block : BlockName) (base count index : ℕ) : Type 0 where
  entry : param_class (marks_of t a) t f n ≡ entry_class t f n p
  points : (param_class (marks_of t a) t f n).pointer ≡ true
  size : (param_class (marks_of t a) t f n).size ≡ elem_cells (sizes_of t.structs) elem
  fits : Fits (world_of t a) m.active (param_class (marks_of t a) t f n) (cell.Ptr (At block base count index))
  known : is_elem (length t.structs) (Some elem) ≡ true

passed : (t : TypedTree) (a : Accepted) (m : Machine) (f n : ℕ) (args : List Cell) (p : Param) (elem : Elem) (fixed : Bool) (block : BlockName) (base count index : ℕ) → Facts t → Asked t a m f args →
    slice_get (signature_in (slave_half t a) f).params n ≡ Some p → p.kind ≡ kind.Ptr elem fixed → slice_get args n ≡ Some (cell.Ptr (At block base count index)) → Passed t a m f n p elem block base count index
passed t a m f n args p elem fixed block base count index facts asked at points is =
    let c = away_called t a f args asked.way in
    let own : slice_get c.function.signature.params n ≡ Some p = subst (λ (z : Signature). slice_get z.params n ≡ Some p) (sym c.same) at in
    let entry : param_class (marks_of t a) t f n ≡ entry_class t f n p = entry_at t (marks_of t a) f n c.function p c.is (pointer_free t a f n args p elem fixed facts c asked.way own points) own in
    record {
      entry = entry;
      points = ap (λ (z : Class). z.pointer) entry ∙ ap (λ (z : ParamKind). is_pointer (param_type z)) points;
      size = ap (λ (z : Class). z.size) entry ∙ ap (λ (z : ParamKind). cells_by (sizes_of t.structs) (pointee_type (param_type z))) points ∙ elem_size t.structs elem;
      fits = subst (λ (b : Bool). Fits (world_of t a) m.active (if b then param_class (marks_of t a) t f n else integer_class false) (cell.Ptr (At block base count index))) c.has
          (fit_at (world_of t a) m.active (λ k. if has_signature t a f then param_class (marks_of t a) t f k else integer_class false) args n (cell.Ptr (At block base count index)) asked.fits is);
      known = known_elem t f n c.function p elem fixed facts c.is own points;
    }

-- where a handle lies behind it, the parameter is marked or the field
cell_stands : (t : TypedTree) (a : Accepted) (m : Machine) (f n : ℕ) (p : Param) (elem : Elem) (fixed : Bool) (block : BlockName) (base count index r handle : ℕ) (under : Bool) → Facts t → Fine (slave_half t a) (world_of t a) m →
    Passed t a m f n p elem block base count index → p.kind ≡ kind.Ptr elem fixed → slice_get (range_marks t.structs elem count) r ≡ Some under → slice_get (drop base (m.blocks block).cells) r ≡ Some (cell.Sealed handle) → (p.marked || under) ≡ true
cell_stands t a m f n p elem fixed block base count index r handle under facts fine x points mark lies =
    let class = param_class (marks_of t a) t f n in
    let leaf = marked_leaf (range_leaves t.structs elem count) r under mark in
    let g = range_cell t.structs elem count r leaf.0 facts.structs x.known leaf.1 in
    let inside : g.1 < class.size = subst (λ z. g.1 < z) (sym x.size) g.3 in
    let there : cell_at class.size base g.0 + g.1 ≡ base + r = ap (λ z. cell_at z base g.0 + g.1) x.size ∙ place base r (g.0 * elem_cells (sizes_of t.structs) elem) g.1 g.4 in
    let found : cell_of m.blocks block (cell_at class.size base g.0 + g.1) ≡ cell.Sealed handle = ap (cell_of m.blocks block) there ∙ cell_behind (m.blocks block).cells base r (cell.Sealed handle) (cell.Int (pos 0)) lies in
    let may : MayLie (pointed_to class) g.1 (cell.Sealed handle) =
    subst (λ z. MayLie (pointed_to class) g.1 z) found ((cells_behind_fit (slave_half t a) (world_of t a) m class block base count index g.0 g.1 fine x.fits x.points g.2 inside).lies) in
    ap (λ c. p.marked || c) (sym leaf.2 ∙ cells_are_marked t.structs elem g.1 leaf.0 facts.structs x.known g.5 ∙ ap (λ z. (get_or z (leaf_under t.structs (type_of_elem elem) g.1) sides.whole).marked) (sym (pointer_leaves t.structs elem fixed)))
    ∙ ap (λ (z : ParamKind). p.marked || may_below t g.1 (param_type z)) (sym points)
    ∙ ap (λ (z : Class). z.may g.1) (sym x.entry)
    ∙ may.1
  where
    place : (base r turn q : ℕ) → r ≡ turn + q → base + turn + q ≡ base + r
    place base r turn q h = omega (arith, h)

-- ---- arguments

-- a handle stands for a marked parameter
integer_stands : (t : TypedTree) (a : Accepted) (m : Machine) (f n : ℕ) (args : List Cell) (p : Param) (v : Cell) → Facts t → IsSlaveWorld t (slave_half t a) (slave_world (marks_of t a) t) → Asked t a m f args →
    slice_get (signature_in (slave_half t a) f).params n ≡ Some p → slice_get args n ≡ Some v → may_hold p.marked v ≡ true
integer_stands t a m f n args p (cell.Int z) facts world asked at is = refl
integer_stands t a m f n args p (cell.Ptr z) facts world asked at is = refl
integer_stands t a m f n args p (cell.Sealed handle) facts world asked at is =
    sym (ap (λ o. option_map_or (λ (q : Param). q.marked) o false) at) ∙ handle_marked (is_marked (slave_half t a) f) args n handle (asks_marked t a facts world m.active f args asked.way asked.fits) is

argument_stands : (t : TypedTree) (a : Accepted) (m : Machine) (f n : ℕ) (args : List Cell) (p : Param) (v : Cell) → Facts t → IsSlaveWorld t (slave_half t a) (slave_world (marks_of t a) t) → Asked t a m f args → Fine (slave_half t a) (world_of t a) m →
    slice_get (signature_in (slave_half t a) f).params n ≡ Some p → slice_get args n ≡ Some v → StandsFor t.structs m.blocks p.marked p.kind v
argument_stands t a m f n args p v facts world asked fine at is = go p.kind refl v is
  where
    go : (k : ParamKind) → p.kind ≡ k → (u : Cell) → slice_get args n ≡ Some u → StandsFor t.structs m.blocks p.marked k u
    go (kind.Int ty) e u h = integer_stands t a m f n args p u facts world asked at h
    go (kind.Ptr elem fixed) e (cell.Int z) h = tt
    go (kind.Ptr elem fixed) e (cell.Sealed handle) h = tt
    go (kind.Ptr elem fixed) e (cell.Ptr Null) h = tt
    go (kind.Ptr elem fixed) e (cell.Ptr (At block base count index)) h =
        let x = passed t a m f n args p elem fixed block base count index facts asked at e h in
        all_allowed p.marked (range_marks t.structs elem count) (drop base (m.blocks block).cells) (λ r under handle mark lies. cell_stands t a m f n p elem fixed block base count index r handle under facts fine x e mark lies)

pub arguments_stand : (t : TypedTree) (a : Accepted) (m : Machine) (f : ℕ) (args : List Cell) → Facts t → IsSlaveWorld t (slave_half t a) (slave_world (marks_of t a) t) → Asked t a m f args → Fine (slave_half t a) (world_of t a) m →
    HandlesStand t.structs m.blocks (signature_in (slave_half t a) f).params args
arguments_stand t a m f args facts world asked fine =
    all_stand t.structs m.blocks (signature_in (slave_half t a) f).params args (λ n p v at is. argument_stands t a m f n args p v facts world asked fine at is)
