-- Where all that is read is the same in two memories, so are values and the places of objects, traps among them.
use Rattle.std.proofs.Common.{◌≡◌, ◌∙◌, ℕ, pos, refl, ap, sym, subst, arith, true, Option, Some, Result, Ok, Err, IfOk, length}
use Rattle.std.specs.Prelude.{IsTrue, ◌&&◌, is_some}
use Rattle.pt_base.proofs.Booleans.{both_hold_first, both_hold_second, false_not_true}
use Rattle.pt_base.proofs.Numbers.{plus_zero}
use Rattle.typed_tree.specs.declared.types.VarTy.{VarTy}
use Rattle.typed_tree.specs.declared.types.VarTy.TheVariants.{Int, Struct, Array, Pointer}
use Rattle.typed_tree.specs.declared.link.LinkStep.TheVariants.{Move, Difference, Compare}
use Rattle.typed_tree.specs.Cells.{cells_of}
use Rattle.typed_tree.specs.TypeTests.{integer_of, is_scalar, item_of, pointee_of}
use Rattle.typed_tree.specs.TypeTests as t
use Rattle.typed_tree.specs.TypeRules.{stepped}
use Rattle.typed_tree.proofs.LeavesLemmas.{leaves_of_int}
use Rattle.block_memory.specs.declared.cell.Cell.TheVariants as cell
use Rattle.block_memory.specs.declared.cell.BlockName.{BlockName}
use Rattle.block_memory.specs.declared.cell.BlockName.TheVariants.{Local, Global, Received}
use Rattle.block_memory.specs.Blocks.{Blocks}
use Rattle.pt_core.specs.CodeTree.{RootTree, local, global, deref, PlaceTree, place, ExprTree, constant, read, unary, binary, convert, null, address, decay, move, compare, difference, ProgramTree}
use Rattle.pt_core.specs.Types.{Context, place_type, root_type, type_of}
use Rattle.pt_core.specs.Values.{Stop, ◌>>?◌, Location, cell_in, value_of, location_of, root_location}
use Rattle.pt_core.specs.Calls.{context_in}
use Rattle.pt_core.specs.WellFormedExpression.{is_path, is_addressed, expr_fits, place_fits, root_fits, takes_one, takes_two}
use Rattle.monitor_labels.specs.Nodes.{Node}
use Rattle.monitor_labels.specs.Arrows.{place_reads, place_start, reads, root_reads}
use Rattle.independence_law.proofs.Slices.{same_got}
use Rattle.independence_law.proofs.Worlds.{World, AreAlike, open_by, reached_in, type_in}
use Rattle.independence_law.proofs.Values.{ObjectLeads, Sees, places_lead}
use Rattle.independence_law.proofs.Follows.{AreOpen, open_at, open_first, open_second, place_start_read}

-- ---- where a value lies

-- a pointer's variable is no received block
variable_reached : (p : ProgramTree) (w : World) (name : BlockName) (i : ℕ) → IsTrue (is_some (pointee_of (type_in p w name))) → reached_in w name i ≡ true
variable_reached p w (Local depth v) i h = refl
variable_reached p w (Global g) i h = false_not_true h
variable_reached p w (Received k) i h = false_not_true h

pub scalar_reached : (p : ProgramTree) (w : World) (depth : ℕ) (ty : VarTy) (start : Option Node) (at : Location) → IsTrue (is_scalar (Some ty)) → ObjectLeads p w depth ty start at → reached_in w at.block at.cell ≡ true
scalar_reached p w depth (Struct n) start at h object = false_not_true h
scalar_reached p w depth (Array elem count) start at h object = false_not_true h
scalar_reached p w depth (Pointer elem fixed) start at h object = variable_reached p w at.block at.cell (subst (λ o. IsTrue (is_some o)) (sym object.kind) refl)
scalar_reached p w depth (Int t) start at h object =
    let one : cells_of p.structs (Int t) ≡ 1 = ap length (leaves_of_int p.structs t) in
    subst (λ n. reached_in w at.block n ≡ true) (plus_zero at.cell) (object.reached 0 (omega (arith, one)))

-- ---- one evaluation after another

pub same_next : {A B : Type 0} (r r' : Result A Stop) (next next' : A → Result B Stop) → r ≡ r' → ((x : A) → next x ≡ next' x) → (r >>? next) ≡ (r' >>? next')
same_next (Ok x) r' next next' same each = each x ∙ ap (λ q. q >>? next') same
same_next (Err stop) r' next next' same each = ap (λ q. q >>? next') same

-- the result is the same where it is so of each that may come
same_read : {A B : Type 0} (P : A → Type 0) (r r' : Result A Stop) (next next' : A → Result B Stop) → IfOk r P → r ≡ r' → ((x : A) → P x → next x ≡ next' x) → (r >>? next) ≡ (r' >>? next')
same_read P (Ok x) r' next next' h same each = each x h ∙ ap (λ q. q >>? next') same
same_read P (Err stop) r' next next' h same each = ap (λ q. q >>? next') same

mutual
  pub values_alike : (p : ProgramTree) (w : World) (f depth : ℕ) (a b : Blocks) → Sees p w f depth a → AreAlike w depth a b → (e : ExprTree) → IsTrue (expr_fits (context_in p f) e) → AreOpen w.secret (reads f e) →
      value_of (context_in p f) depth e a ≡ value_of (context_in p f) depth e b
  values_alike p w f depth a b s same (constant t v) h open_ = refl
  values_alike p w f depth a b s same (read q) h open_ =
      let c : Context = context_in p f in
      let lies : IsTrue (place_fits c q) = both_hold_first (place_fits c q) (is_scalar (Some (place_type c q))) h in
      same_read (ObjectLeads p w depth (place_type c q) (place_start f q)) (location_of c depth q a) (location_of c depth q b) (λ at. Ok (cell_in a at)) (λ at. Ok (cell_in b at))
      (places_lead p w f depth a s q lies) (places_alike p w f depth a b s same q lies open_)
      (λ at object. ap Ok (same_got (a at.block).cells (b at.block).cells at.cell (cell.Int (pos 0))
      (same at.block at.cell object.near (open_by w at.block at.cell
      (object.secret ∙ open_at w.secret (place_reads f q) object.node open_ (place_start_read f q object.node object.starts))
      (scalar_reached p w depth (place_type c q) (place_start f q) at (both_hold_second (place_fits c q) (is_scalar (Some (place_type c q))) h) object)))))
  values_alike p w f depth a b s same (unary op t x span) h open_ =
      let c : Context = context_in p f in
      same_next (value_of c depth x a) (value_of c depth x b) _ _ (values_alike p w f depth a b s same x (both_hold_first (expr_fits c x) (takes_one op t (type_of c x)) h) open_) (λ v. refl)
  values_alike p w f depth a b s same (binary op t x y span) h open_ =
      let c : Context = context_in p f in
      let sides : IsTrue (expr_fits c x && expr_fits c y) = both_hold_first (expr_fits c x && expr_fits c y) (takes_two op t (type_of c x) (type_of c y)) h in
      same_next (value_of c depth x a) (value_of c depth x b) _ _ (values_alike p w f depth a b s same x (both_hold_first (expr_fits c x) (expr_fits c y) sides) (open_second w.secret (reads f y) (reads f x) open_))
      (λ v. same_next (value_of c depth y a) (value_of c depth y b) _ _ (values_alike p w f depth a b s same y (both_hold_second (expr_fits c x) (expr_fits c y) sides) (open_first w.secret (reads f y) (reads f x) open_)) (λ u. refl))
  values_alike p w f depth a b s same (convert to x) h open_ =
      let c : Context = context_in p f in
      same_next (value_of c depth x a) (value_of c depth x b) _ _ (values_alike p w f depth a b s same x (both_hold_first (expr_fits c x) (is_some (integer_of (Some (type_of c x)))) h) open_) (λ v. refl)
  values_alike p w f depth a b s same (null elem) h open_ = refl
  values_alike p w f depth a b s same (address q) h open_ =
      let c : Context = context_in p f in
      same_next (location_of c depth q a) (location_of c depth q b) _ _ (places_alike p w f depth a b s same q (both_hold_first (place_fits c q) (is_addressed q && is_some (t.element_of (Some (place_type c q)))) h) open_) (λ at. refl)
  values_alike p w f depth a b s same (decay q) h open_ =
      let c : Context = context_in p f in
      same_next (location_of c depth q a) (location_of c depth q b) _ _ (places_alike p w f depth a b s same q (both_hold_first (place_fits c q) (is_some (item_of (Some (place_type c q)))) h) open_) (λ at. refl)
  values_alike p w f depth a b s same (move x y back span) h open_ =
      let c : Context = context_in p f in
      let sides : IsTrue (expr_fits c x && expr_fits c y) = both_hold_first (expr_fits c x && expr_fits c y) (is_some (stepped (Some (type_of c x)) (Move back) (Some (type_of c y)))) h in
      same_next (value_of c depth x a) (value_of c depth x b) _ _ (values_alike p w f depth a b s same x (both_hold_first (expr_fits c x) (expr_fits c y) sides) (open_second w.secret (reads f y) (reads f x) open_))
      (λ v. same_next (value_of c depth y a) (value_of c depth y b) _ _ (values_alike p w f depth a b s same y (both_hold_second (expr_fits c x) (expr_fits c y) sides) (open_first w.secret (reads f y) (reads f x) open_)) (λ u. refl))
  values_alike p w f depth a b s same (compare op x y span) h open_ =
      let c : Context = context_in p f in
      let sides : IsTrue (expr_fits c x && expr_fits c y) = both_hold_first (expr_fits c x && expr_fits c y) (is_some (stepped (Some (type_of c x)) (Compare op) (Some (type_of c y)))) h in
      same_next (value_of c depth x a) (value_of c depth x b) _ _ (values_alike p w f depth a b s same x (both_hold_first (expr_fits c x) (expr_fits c y) sides) (open_second w.secret (reads f y) (reads f x) open_))
      (λ v. same_next (value_of c depth y a) (value_of c depth y b) _ _ (values_alike p w f depth a b s same y (both_hold_second (expr_fits c x) (expr_fits c y) sides) (open_first w.secret (reads f y) (reads f x) open_)) (λ u. refl))
  values_alike p w f depth a b s same (difference x y span) h open_ =
      let c : Context = context_in p f in
      let sides : IsTrue (expr_fits c x && expr_fits c y) = both_hold_first (expr_fits c x && expr_fits c y) (is_some (stepped (Some (type_of c x)) Difference (Some (type_of c y)))) h in
      same_next (value_of c depth x a) (value_of c depth x b) _ _ (values_alike p w f depth a b s same x (both_hold_first (expr_fits c x) (expr_fits c y) sides) (open_second w.secret (reads f y) (reads f x) open_))
      (λ v. same_next (value_of c depth y a) (value_of c depth y b) _ _ (values_alike p w f depth a b s same y (both_hold_second (expr_fits c x) (expr_fits c y) sides) (open_first w.secret (reads f y) (reads f x) open_)) (λ u. refl))

  pub places_alike : (p : ProgramTree) (w : World) (f depth : ℕ) (a b : Blocks) → Sees p w f depth a → AreAlike w depth a b → (q : PlaceTree) → IsTrue (place_fits (context_in p f) q) → AreOpen w.secret (place_reads f q) →
      location_of (context_in p f) depth q a ≡ location_of (context_in p f) depth q b
  places_alike p w f depth a b s same (place root path) h open_ =
      let c : Context = context_in p f in
      same_next (root_location c depth root a) (root_location c depth root b) _ _ (roots_alike p w f depth a b s same root (both_hold_first (root_fits c root) (is_path c.structs (root_type c root) path) h) open_) (λ at. refl)

  pub roots_alike : (p : ProgramTree) (w : World) (f depth : ℕ) (a b : Blocks) → Sees p w f depth a → AreAlike w depth a b → (r : RootTree) → IsTrue (root_fits (context_in p f) r) → AreOpen w.secret (root_reads f r) →
      root_location (context_in p f) depth r a ≡ root_location (context_in p f) depth r b
  roots_alike p w f depth a b s same (local v) h open_ = refl
  roots_alike p w f depth a b s same (global g) h open_ = refl
  roots_alike p w f depth a b s same (deref x span) h open_ =
      let c : Context = context_in p f in
      same_next (value_of c depth x a) (value_of c depth x b) _ _ (values_alike p w f depth a b s same x (both_hold_first (expr_fits c x) (is_some (pointee_of (Some (type_of c x)))) h) open_) (λ v. refl)
