-- What arms of the code come to, whose parts stand behind references.
use Rattle.std.proofs.Common.{◌≡◌, ℕ, Bool, true, false, not, ◌||◌, List, [], ◌∷◌, Option, Some, pos, sym, ap, ◌∙◌, subst}
use Rattle.std.proofs.lemmas.Result.{IfOk-weaker}
use Rattle.std.specs.Prelude.{Result, IfOk, OnOk}
use Rattle.std.specs.declared.alloc.AllocError.{AllocError}
use Rattle.pt_base.specs.declared.int_type.IntType.TheVariants as i
use Rattle.pt_base.specs.declared.span.Span.{Span}
use Rattle.pt_int.specs.declared.operator.UnOp.{UnOp}
use Rattle.typed_tree.specs.declared.types.VarTy.{VarTy}
use Rattle.typed_tree.specs.declared.link.LinkStep.{LinkStep}
use Rattle.typed_tree.specs.declared.link.LogicalOp.{LogicalOp}
use Rattle.typed_tree.specs.ExpressionTree as tree
use Rattle.typed_tree.specs.ExpressionTree.{typed, link, LinkTrees, OperandTrees, step_trees}
use Rattle.pt_core.specs.declared.expression.Expr.{Expr}
use Rattle.pt_core.specs.CodeTree as core
use Rattle.pt_core.specs.CodeTree.{ExprTree, constant, read, view_expr}
use Rattle.source_meaning.specs.Expressions.{type_or_int, type_of}
use Rattle.lowering.specs.declared.place.FoundPlace.{FoundPlace}
use Rattle.lowering.specs.declared.temporary.Temporary.{Temporary}
use Rattle.lowering.specs.Lowered.{Temp, Effects, Lowered, LoweredPlace, pure, past, temp, hold, holding, held_if}
use Rattle.lowering.specs.Purity.{takes_left_first, is_pure}
use Rattle.lowering.specs.Operators.{prefixed, converted, stepped}
use Rattle.lowering.specs.Expressions.{Scope, is_struct, started, valued, behind, field_in, decayed, decayed_type, element_place, fixed_if, copied, given, compounded, counted, value_in, form_in, effects_in, object_in, form_object, place_in, root_in, links_in, operands_in}
use Rattle.lowering.specs.ExpressionParts.{assignment_in, held_in, link_in, step_in}
use Rattle.lowering.specs.Functions.{span_of}
use Rattle.lowering.specs.Output.{Output, next, temporary_of, added, more, Found, found, view_found, Gives, Finds, Does}
use Rattle.lowering.proofs.OutputLemmas.{next_after, nothing_made, both, then_held}
use Rattle.lowering.proofs.FormLemmas.{whole_is, read_is, decay_is, address_is, copied_to, given_to, compounded_to, linked_is}

pub chain_is : (c : Scope) (r : Result Expr AllocError) (o o1 o2 : Output) (a a' : tree.ExprTree) (links links' : LinkTrees) (keeper : Temporary) (ty : VarTy) (s : Span) (v : ExprTree) →
    Gives o (value_in c a' (next o)) o1 v → a' ≡ a → keeper ≡ record { ty = ty; holds = Some (span_of a) } → ty ≡ type_of a → links' ≡ links →
    ((whole : tree.ExprTree) (far : Lowered) (s : Span) → Gives o far o1 v → keeper.holds ≡ Some (span_of whole) → IfOk r (λ z. Gives o (links_in c links' whole [] s keeper.ty far (next o)) o2 (view_expr z))) →
    IfOk r (λ z. Gives o (links_in c links a [] s (type_of a) (value_in c a (next o)) (next o)) o2 (view_expr z))
chain_is c r o o1 o2 a a' links links' keeper ty s v g ea ek et el go =
    let g1 : Gives o (value_in c a (next o)) o1 v = subst (λ x. Gives o (value_in c x (next o)) o1 v) ea g in
    subst (λ x. IfOk r (λ z. Gives o (links_in c x a [] s (type_of a) (value_in c a (next o)) (next o)) o2 (view_expr z))) el
    (subst (λ x. IfOk r (λ z. Gives o (links_in c links' a [] s x (value_in c a (next o)) (next o)) o2 (view_expr z))) (ap (λ (k : Temporary). k.ty) ek ∙ et)
    (go a (value_in c a (next o)) s g1 (ap (λ (k : Temporary). k.holds) ek)))

pub logical_is : (c : Scope) (o o1 o2 o3 : Output) (op : LogicalOp) (a a' whole : tree.ExprTree) (others others' : OperandTrees) (ty : VarTy) (s : Span) (k : ℕ) (v : ExprTree) →
    Gives o (value_in c a' (next o)) o1 v → a' ≡ a → ty ≡ type_of a → others' ≡ others → span_of whole ≡ s →
    ((low : Lowered) → Gives o low o1 v → k ≡ past (next o) low.temps) →
    ((low : Lowered) → Gives o low o1 v → span_of whole ≡ s → Does o (started whole (past (next o) low.temps) ty s low) o2) →
    ((far : Effects) → Does o far o2 → Does o (operands_in c others' op k far (next o)) o3) →
    Gives o (valued (operands_in c others op (past (next o) (value_in c a (next o)).temps) (started whole (past (next o) (value_in c a (next o)).temps) (type_of a) s (value_in c a (next o))) (next o)) (temp (past (next o) (value_in c a (next o)).temps))) o3 (temp k)
logical_is c o o1 o2 o3 op a a' whole others others' ty s k v g ea et eo es number start go =
    let g1 : Gives o (value_in c a (next o)) o1 v = subst (λ x. Gives o (value_in c x (next o)) o1 v) ea g in
    let low = value_in c a (next o) in
    let n : k ≡ past (next o) low.temps = number low g1 in
    let begun : Does o (started whole (past (next o) low.temps) (type_of a) s low) o2 = subst (λ x. Does o (started whole (past (next o) low.temps) x s low) o2) et (start low g1 es) in
    whole_is o o3 (λ j. operands_in c others op j (started whole (past (next o) low.temps) (type_of a) s low) (next o)) k (past (next o) low.temps) n
    (subst (λ x. Does o (operands_in c x op k (started whole (past (next o) low.temps) (type_of a) s low) (next o)) o3) eo (go _ begun))

-- ---- values

pub pure_is : (o : Output) (v w : ExprTree) → w ≡ v → Gives o (pure v) o w
pure_is o v w h = record { made = nothing_made o; is = h }

pub mapped_is : (r : Result Expr AllocError) (o o1 : Output) (low : Lowered) (v : ExprTree) (f : ExprTree → ExprTree) → Gives o low o1 v → IfOk r (λ z. view_expr z ≡ f v) → IfOk r (λ z. Gives o (record { stmts = low.stmts; value = f low.value; temps = low.temps }) o1 (view_expr z))
mapped_is r o o1 low v f g go =
    IfOk-weaker r (λ z. view_expr z ≡ f v) (λ z. Gives o (record { stmts = low.stmts; value = f low.value; temps = low.temps }) o1 (view_expr z)) (λ z h. record { made = g.made; is = h ∙ ap f g.is }) go

pub unary_is : (c : Scope) (r : Result Expr AllocError) (o o1 : Output) (op : UnOp) (a a' : tree.ExprTree) (ty : VarTy) (s : Span) (tyo : Option VarTy) (v : ExprTree) →
    Gives o (value_in c a' (next o)) o1 v → a' ≡ a → ty ≡ type_of a → IfOk r (λ z. view_expr z ≡ prefixed op ty v s) → IfOk r (λ z. Gives o (form_in c (tree.unary op a) s tyo (next o)) o1 (view_expr z))
unary_is c r o o1 op a a' ty s tyo v g ea et go =
    mapped_is r o o1 (value_in c a (next o)) v (λ x. prefixed op (type_of a) x s) (subst (λ x. Gives o (value_in c x (next o)) o1 v) ea g) (subst (λ x. IfOk r (λ z. view_expr z ≡ prefixed op x v s)) et go)

pub convert_is : (c : Scope) (r : Result Expr AllocError) (o o1 : Output) (a a' : tree.ExprTree) (s : Span) (tyo : Option VarTy) (ty : VarTy) (v : ExprTree) →
    Gives o (value_in c a' (next o)) o1 v → a' ≡ a → ty ≡ type_or_int tyo → IfOk r (λ z. view_expr z ≡ converted ty v) → IfOk r (λ z. Gives o (form_in c (tree.convert a) s tyo (next o)) o1 (view_expr z))
convert_is c r o o1 a a' s tyo ty v g ea et go =
    mapped_is r o o1 (value_in c a (next o)) v (λ x. converted (type_or_int tyo) x) (subst (λ x. Gives o (value_in c x (next o)) o1 v) ea g) (subst (λ x. IfOk r (λ z. view_expr z ≡ converted x v)) et go)

pub discard_is : (c : Scope) (o o1 : Output) (a a' : tree.ExprTree) (s : Span) (tyo : Option VarTy) (v : ExprTree) → Does o (effects_in c a' (next o)) o1 → a' ≡ a → v ≡ constant i.Int (pos 0) → Gives o (form_in c (tree.discard a) s tyo (next o)) o1 v
discard_is c o o1 a a' s tyo v d ea h = record { made = subst (λ x. o1 ≡ more o (effects_in c x (next o)).stmts (effects_in c x (next o)).temps) ea d.made; is = h }

pub compound_is : (c : Scope) (o o1 o2 o3 : Output) (p : tree.PlaceTree) (at : Span) (step : LinkStep) (a a' a'' : tree.ExprTree) (s : Span) (tyo : Option VarTy) (f g : Found) (w v : ExprTree) (b : Bool) →
    Finds o (fixed_if b (next o) (place_in c p (next o))) o1 f → b ≡ (true || not (is_pure a')) → a' ≡ a → Gives o1 (value_in c a'' (next o1)) o2 w → a'' ≡ a →
    ((to : LoweredPlace) (v : Lowered) → Finds o to o1 f → Gives o1 v o2 w → Finds o (compounded s step to v) o3 g) → v ≡ read g.place →
    Gives o (form_in c (tree.compound p at step a) s tyo (next o)) o3 v
compound_is c o o1 o2 o3 p at step a a' a'' s tyo f g w v b h eb ea k ea2 go ev =
    let to = fixed_if true (next o) (place_in c p (next o)) in
    let h1 : Finds o to o1 f = subst (λ x. Finds o (fixed_if x (next o) (place_in c p (next o))) o1 f) eb h in
    let k1 : Gives o1 (value_in c a (next o1)) o2 w = subst (λ x. Gives o1 (value_in c x (next o1)) o2 w) ea2 k in
    let r = read_is o o3 (compounded s step to (value_in c a (past (next o) to.temps))) g (compounded_to c o o1 o3 s step to f g a h1 (go to (value_in c a (next o1)) h1 k1)) in
    record { made = r.made; is = ev ∙ r.is }

pub compound_dropped : (c : Scope) (o o1 o2 o3 : Output) (p : tree.PlaceTree) (at : Span) (step : LinkStep) (a a' a'' : tree.ExprTree) (s : Span) (tyo : Option VarTy) (f g : Found) (w : ExprTree) (b : Bool) →
    Finds o (fixed_if b (next o) (place_in c p (next o))) o1 f → b ≡ (false || not (is_pure a')) → a' ≡ a → Gives o1 (value_in c a'' (next o1)) o2 w → a'' ≡ a →
    ((to : LoweredPlace) (v : Lowered) → Finds o to o1 f → Gives o1 v o2 w → Finds o (compounded s step to v) o3 g) →
    Does o (effects_in c (typed s tyo (tree.compound p at step a)) (next o)) o3
compound_dropped c o o1 o2 o3 p at step a a' a'' s tyo f g w b h eb ea k ea2 go =
    let to = fixed_if (not (is_pure a)) (next o) (place_in c p (next o)) in
    let h1 : Finds o to o1 f = subst (λ x. Finds o (fixed_if x (next o) (place_in c p (next o))) o1 f) (eb ∙ ap (λ x. not (is_pure x)) ea) h in
    let k1 : Gives o1 (value_in c a (next o1)) o2 w = subst (λ x. Gives o1 (value_in c x (next o1)) o2 w) ea2 k in
    let r = compounded_to c o o1 o3 s step to f g a h1 (go to (value_in c a (next o1)) h1 k1) in
    record { made = r.made }

-- an assignment of an object, and of a value
pub copied_in : (c : Scope) (r : Result FoundPlace AllocError) (o o1 o2 o3 : Output) (p : tree.PlaceTree) (a : tree.ExprTree) (used b whole : Bool) (f g : Found) →
    Finds o (fixed_if b (next o) (place_in c p (next o))) o1 f → b ≡ (used || not (is_pure a)) → whole ≡ true → Finds o1 (object_in c a (next o1)) o2 g →
    ((to from : LoweredPlace) → Finds o to o1 f → Finds o1 from o2 g → IfOk r (λ z. Finds o (copied to from) o3 (view_found z))) → IfOk r (λ z. Finds o (assignment_in c used p a whole (next o)) o3 (view_found z))
copied_in c r o o1 o2 o3 p a used b whole f g h eb ew k go =
    let to = fixed_if (used || not (is_pure a)) (next o) (place_in c p (next o)) in
    let h1 : Finds o to o1 f = subst (λ x. Finds o (fixed_if x (next o) (place_in c p (next o))) o1 f) eb h in
    copied_to c r o o1 o3 to f a whole h1 ew (go to (object_in c a (next o1)) h1 k)

pub given_in : (c : Scope) (r : Result FoundPlace AllocError) (o o1 o2 o3 : Output) (p : tree.PlaceTree) (a : tree.ExprTree) (used b whole : Bool) (f : Found) (w : ExprTree) →
    Finds o (fixed_if b (next o) (place_in c p (next o))) o1 f → b ≡ (used || not (is_pure a)) → whole ≡ false → Gives o1 (value_in c a (next o1)) o2 w →
    ((to : LoweredPlace) (v : Lowered) → Finds o to o1 f → Gives o1 v o2 w → IfOk r (λ z. Finds o (given to v) o3 (view_found z))) → IfOk r (λ z. Finds o (assignment_in c used p a whole (next o)) o3 (view_found z))
given_in c r o o1 o2 o3 p a used b whole f w h eb ew k go =
    let to = fixed_if (used || not (is_pure a)) (next o) (place_in c p (next o)) in
    let h1 : Finds o to o1 f = subst (λ x. Finds o (fixed_if x (next o) (place_in c p (next o))) o1 f) eb h in
    given_to c r o o1 o3 to f a whole h1 ew (go to (value_in c a (next o1)) h1 k)

-- an assignment, behind references
pub assign_is : (c : Scope) (o o1 : Output) (p : tree.PlaceTree) (a a' : tree.ExprTree) (whole : Bool) (s : Span) (tyo : Option VarTy) (f : Found) (v : ExprTree) → Finds o (assignment_in c true p a' whole (next o)) o1 f → a' ≡ a → whole ≡ is_struct tyo → v ≡ read f.place → Gives o (form_in c (tree.assign p a) s tyo (next o)) o1 v
assign_is c o o1 p a a' whole s tyo f v h ea ew ev =
    let h1 : Finds o (assignment_in c true p a (is_struct tyo) (next o)) o1 f = subst (λ b. Finds o (assignment_in c true p a b (next o)) o1 f) ew (subst (λ x. Finds o (assignment_in c true p x whole (next o)) o1 f) ea h) in
    let r = read_is o o1 (assignment_in c true p a (is_struct tyo) (next o)) f h1 in
    record { made = r.made; is = ev ∙ r.is }

pub assign_dropped : (c : Scope) (o o1 : Output) (p : tree.PlaceTree) (a a' : tree.ExprTree) (whole : Bool) (s : Span) (tyo : Option VarTy) (f : Found) → Finds o (assignment_in c false p a' whole (next o)) o1 f → a' ≡ a → whole ≡ is_struct tyo → Does o (effects_in c (typed s tyo (tree.assign p a)) (next o)) o1
assign_dropped c o o1 p a a' whole s tyo f h ea ew =
    let h1 : Finds o (assignment_in c false p a (is_struct tyo) (next o)) o1 f = subst (λ b. Finds o (assignment_in c false p a b (next o)) o1 f) ew (subst (λ x. Finds o (assignment_in c false p x whole (next o)) o1 f) ea h) in
    record { made = h1.made }

pub assign_object : (c : Scope) (r : Result FoundPlace AllocError) (o o1 : Output) (p : tree.PlaceTree) (a a' : tree.ExprTree) (whole : Bool) (s : Span) (tyo : Option VarTy) → a' ≡ a → whole ≡ is_struct tyo → IfOk r (λ f. Finds o (assignment_in c true p a' whole (next o)) o1 (view_found f)) → IfOk r (λ f. Finds o (form_object c (tree.assign p a) s tyo (next o)) o1 (view_found f))
assign_object c r o o1 p a a' whole s tyo ea ew go =
    subst (λ b. IfOk r (λ f. Finds o (assignment_in c true p a b (next o)) o1 (view_found f))) ew (subst (λ x. IfOk r (λ f. Finds o (assignment_in c true p x whole (next o)) o1 (view_found f))) ea go)

-- `++` and `--` whose value is dropped
pub counted_dropped : (c : Scope) (o o1 : Output) (p : tree.PlaceTree) (at : Span) (back postfix : Bool) (s : Span) (tyo : Option VarTy) (g : Found) → Finds o (counted s back (place_in c p (next o))) o1 g → Does o (effects_in c (typed s tyo (tree.step p at back postfix)) (next o)) o1
counted_dropped c o o1 p at back postfix s tyo g h = record { made = h.made }

-- ---- places

pub read_of : (c : Scope) (o o1 : Output) (p : tree.PlaceTree) (s : Span) (tyo : Option VarTy) (f : Found) (v : ExprTree) → Finds o (place_in c p (next o)) o1 f → v ≡ read f.place → Gives o (form_in c (tree.read p) s tyo (next o)) o1 v
read_of c o o1 p s tyo f v h ev = let r = read_is o o1 (place_in c p (next o)) f h in record { made = r.made; is = ev ∙ r.is }

pub decay_of : (c : Scope) (o o1 : Output) (p : tree.PlaceTree) (s : Span) (tyo : Option VarTy) (f : Found) (v : ExprTree) → Finds o (place_in c p (next o)) o1 f → v ≡ core.decay f.place → Gives o (form_in c (tree.decay p) s tyo (next o)) o1 v
decay_of c o o1 p s tyo f v h ev = let r = decay_is o o1 (place_in c p (next o)) f h in record { made = r.made; is = ev ∙ r.is }

pub address_of : (c : Scope) (o o1 : Output) (p : tree.PlaceTree) (s : Span) (tyo : Option VarTy) (f : Found) (v : ExprTree) → Finds o (place_in c p (next o)) o1 f → v ≡ core.address f.place → Gives o (form_in c (tree.address p) s tyo (next o)) o1 v
address_of c o o1 p s tyo f v h ev = let r = address_is o o1 (place_in c p (next o)) f h in record { made = r.made; is = ev ∙ r.is }

-- what a pointer points to
pub behind_is : (c : Scope) (r : Result FoundPlace AllocError) (o o1 : Output) (s : Span) (a a' a'' : tree.ExprTree) (v : ExprTree) → Gives o (value_in c a' (next o)) o1 v → a' ≡ a → a'' ≡ a →
    ((low : Lowered) → v ≡ low.value → IfOk r (λ p. view_found p ≡ found (behind s a'' low))) → IfOk r (λ p. Finds o (root_in c (tree.deref a s) (next o)) o1 (view_found p))
behind_is c r o o1 s a a' a'' v g ea eb go =
    let low = value_in c a (next o) in
    let g1 : Gives o low o1 v = subst (λ x. Gives o (value_in c x (next o)) o1 v) ea g in
    IfOk-weaker r (λ p. view_found p ≡ found (behind s a low)) (λ p. Finds o (behind s a low) o1 (view_found p)) (λ p h. record { made = g1.made; is = h })
    (subst (λ x. IfOk r (λ p. view_found p ≡ found (behind s x low))) eb (go low g1.is))

-- a variable, a global or no object: nothing is made
pub standing_is : (o : Output) (low : LoweredPlace) (f : Found) → low.stmts ≡ [] → low.temps ≡ [] → f ≡ found low → Finds o low o f
standing_is o low f es et h = record { made = nothing_made o ∙ ap (λ z. more o z []) (sym es) ∙ ap (λ z. more o low.stmts z) (sym et); is = h }

-- a field of an object
pub field_step : (c : Scope) (r : Result FoundPlace AllocError) (o o1 : Output) (k : ℕ) (low : LoweredPlace) (f : Found) → Finds o low o1 f → (f ≡ found low → IfOk r (λ p. view_found p ≡ found (field_in c k low))) → IfOk r (λ p. Finds o (field_in c k low) o1 (view_found p))
field_step c r o o1 k low f h go = IfOk-weaker r (λ p. view_found p ≡ found (field_in c k low)) (λ p. Finds o (field_in c k low) o1 (view_found p)) (λ p e. record { made = h.made; is = e }) (go h.is)

-- an element of an array
pub element_is : (r : Result FoundPlace AllocError) (o o1 o2 : Output) (s : Span) (first e : tree.ExprTree) (ty : VarTy) (b v : Lowered) (x y : ExprTree) → Gives o b o1 x → Gives o1 v o2 y →
    ((first e : tree.ExprTree) (b v : Lowered) → x ≡ b.value → y ≡ v.value → IfOk r (λ p. view_found p ≡ found (element_place s first e ty b v))) → IfOk r (λ p. Finds o (element_place s first e ty b v) o2 (view_found p))
element_is r o o1 o2 s first e ty b v x y g h go =
    IfOk-weaker r (λ p. view_found p ≡ found (element_place s first e ty b v)) (λ p. Finds o (element_place s first e ty b v) o2 (view_found p))
    (λ p k. record { made = both o o1 o2 b.stmts v.stmts b.temps v.temps g.made h.made; is = k }) (go first e b v g.is h.is)

pub item_is : (c : Scope) (r : Result FoundPlace AllocError) (o o0 o1 o2 : Output) (s : Span) (e : tree.ExprTree) (root : tree.RootTree) (before : List tree.StepTree) (low : LoweredPlace) (f : Found) (held : Bool) (ty : VarTy) (x y first : ExprTree) (t : Temporary) →
    Finds o low o0 f → held ≡ not (is_pure e) → ty ≡ decayed_type f.fixed f.ty → t ≡ record { ty = ty; holds = Some s } → first ≡ core.decay f.place →
    ((z : Temp) (far : Lowered) → Gives o far o0 first → temporary_of z ≡ t → Gives o (held_if held (next o) z far) o1 x) →
    Gives o1 (value_in c e (next o1)) o2 y →
    ((first e : tree.ExprTree) (b v : Lowered) → x ≡ b.value → y ≡ v.value → IfOk r (λ p. view_found p ≡ found (element_place s first e ty b v))) →
    IfOk r (λ p. Finds o (step_in c (tree.item e s) root before low (next o)) o2 (view_found p))
item_is c r o o0 o1 o2 s e root before low f held ty x y first t h eh ety et ef keep g go =
    let whole = decayed s (tree.place root (step_trees before)) low in
    let ty' = decayed_type low.fixed low.ty in
    let ty_is : ty ≡ ty' = ety ∙ ap (λ (k : Found). decayed_type k.fixed k.ty) h.is in
    let far : Lowered = record { stmts = low.stmts; value = core.decay low.place; temps = low.temps } in
    let start : Gives o far o0 first = record { made = h.made; is = ef ∙ ap (λ (k : Found). core.decay k.place) h.is } in
    let base = held_if (not (is_pure e)) (next o) (holding ty' whole) far in
    let kept : Gives o base o1 x = subst (λ b. Gives o (held_if b (next o) (holding ty' whole) far) o1 x) eh (keep (holding ty' whole) far start (ap (λ z. record { ty = z; holds = Some s }) (sym ty_is) ∙ sym et)) in
    let g1 : Gives o1 (value_in c e (past (next o) base.temps)) o2 y = subst (λ j. Gives o1 (value_in c e j) o2 y) (next_after o o1 base.stmts base.temps kept.made) g in
    element_is r o o1 o2 s whole e ty' base (value_in c e (past (next o) base.temps)) x y kept g1 (λ first e b v. subst (λ z. x ≡ b.value → y ≡ v.value → IfOk r (λ p. view_found p ≡ found (element_place s first e z b v))) ty_is (go first e b v))

-- ---- calls

pub flip : (b p : Bool) → p ≡ not b → b ≡ not p
flip true p h = sym (ap not h)
flip false p h = sym (ap not h)

-- ---- values that are dropped

pub unary_dropped : {U : Type 0} (c : Scope) (r : Result U AllocError) (o o1 : Output) (form : tree.FormTree) (op : UnOp) (a : tree.ExprTree) (s : Span) (tyo : Option VarTy) → form ≡ tree.unary op a → OnOk r (Does o (held_in c (typed s tyo form) (next o)) o1) → OnOk r (Does o (effects_in c (typed s tyo form) (next o)) o1)
unary_dropped c r o o1 form op a s tyo e = subst (λ f. OnOk r (Does o (held_in c (typed s tyo f) (next o)) o1) → OnOk r (Does o (effects_in c (typed s tyo f) (next o)) o1)) (sym e) (λ h. h)

pub chain_dropped : {U : Type 0} (c : Scope) (r : Result U AllocError) (o o1 : Output) (form : tree.FormTree) (a : tree.ExprTree) (links : LinkTrees) (s : Span) (tyo : Option VarTy) → form ≡ tree.chain a links → OnOk r (Does o (held_in c (typed s tyo form) (next o)) o1) → OnOk r (Does o (effects_in c (typed s tyo form) (next o)) o1)
chain_dropped c r o o1 form a links s tyo e = subst (λ f. OnOk r (Does o (held_in c (typed s tyo f) (next o)) o1) → OnOk r (Does o (effects_in c (typed s tyo f) (next o)) o1)) (sym e) (λ h. h)

pub logical_dropped : (c : Scope) (o o1 : Output) (form : tree.FormTree) (op : LogicalOp) (a : tree.ExprTree) (others : OperandTrees) (s : Span) (tyo : Option VarTy) (v : ExprTree) → form ≡ tree.logical op a others → Gives o (value_in c (typed s tyo form) (next o)) o1 v → Does o (effects_in c (typed s tyo form) (next o)) o1
logical_dropped c o o1 form op a others s tyo v e =
    subst (λ f. Gives o (value_in c (typed s tyo f) (next o)) o1 v → Does o (effects_in c (typed s tyo f) (next o)) o1) (sym e) (λ g. record { made = g.made })

-- a value is held and dropped
pub held_dropped : (c : Scope) (o o1 o2 : Output) (e : tree.ExprTree) (ty : VarTy) (x : Temporary) (v : ExprTree) → Gives o (value_in c e (next o)) o1 v → ty ≡ type_of e → x ≡ record { ty = ty; holds = Some (span_of e) } → o2 ≡ added o1 (hold (next o1) v ∷ []) (x ∷ []) → Does o (held_in c e (next o)) o2
held_dropped c o o1 o2 e ty x v g et ex e2 = record {
  made = then_held o o1 o2 _ _ (holding (type_of e) e) x v _ g.made (ap (λ z. record { ty = z; holds = Some (span_of e) }) (sym et) ∙ sym ex) g.is e2;
}

-- ---- parts of arms

pub link_is : (c : Scope) (r : Result Expr AllocError) (o o0 o1 o2 : Output) (at : Span) (to : VarTy) (step : LinkStep) (e whole : tree.ExprTree) (keeper : Temporary) (far : Lowered) (b : Bool) (v u w : ExprTree) →
    Gives o far o0 v → keeper.holds ≡ Some (span_of whole) → b ≡ (not (takes_left_first step) || not (is_pure e)) →
    ((z : Temp) (low : Lowered) → Gives o low o0 v → temporary_of z ≡ keeper → Gives o (held_if b (next o) z low) o1 u) → Gives o1 (value_in c e (next o1)) o2 w → IfOk r (λ z. view_expr z ≡ stepped keeper.ty step u w at) →
    IfOk r (λ z. Gives o (link_in c (link at to step e) whole keeper.ty far (next o)) o2 (view_expr z))
link_is c r o o0 o1 o2 at to step e whole keeper far b v u w g eh eb keep g2 go =
    let x : Temp = holding keeper.ty whole in
    let kept : Gives o (held_if (not (takes_left_first step) || not (is_pure e)) (next o) x far) o1 u =
    subst (λ z. Gives o (held_if z (next o) x far) o1 u) eb (keep x far g (ap (λ z. record { ty = keeper.ty; holds = z }) (sym eh))) in
    linked_is c r o o1 o2 at to keeper.ty step e (held_if (not (takes_left_first step) || not (is_pure e)) (next o) x far) u w kept g2 go
