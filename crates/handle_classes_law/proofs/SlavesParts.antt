-- Values, conditions and choices, each by what is known of its parts.
use Rattle.std.proofs.Common.{◌≡◌, ◌∙◌, ℕ, ◌+◌, refl, ap, sym, subst, arith, Bool, true, false, Option, None, Some, List, [], ◌∷◌, ◌++◌, length, length-append, if◌then◌else◌}
use Rattle.std.specs.Prelude.{is_none, not, ◌||◌}
use Rattle.handle_classes.specs.Classes.{class_of}
use Rattle.handle_classes.specs.Judgment.{IsFine, IsFineStatement}
use Rattle.lowered_code_law.proofs.FormsParts.{held_stand}
use Rattle.lowered_code_law.proofs.FormsSameTypes.{stands_int}
use Rattle.lowered_code_law.proofs.FormsSettings.{Stand, context}
use Rattle.lowered_code_law.proofs.FormsStanding.{stand_first, stand_rest}
use Rattle.lowered_code_law.proofs.FormsSteps.{step_operands, unary_operand}
use Rattle.lowering.specs.Expressions.{arm, chain_so_far, checked, chosen, linked, started, valued, where_open, with_operand}
use Rattle.lowering.specs.Lowered.{Effects, Lowered, LoweredPlace, Temp, held, held_if, hold, holding, int, past, temp}
use Rattle.lowering.specs.Operators.{converted, truth_of}
use Rattle.pt_base.specs.declared.span.Span.{Span}
use Rattle.pt_base.proofs.Booleans.{both_hold_first, false_not_true}
use Rattle.pt_core.specs.CodeTree.{StmtTree, check, choose, stmt_trees}
use Rattle.pt_core.specs.Types as core
use Rattle.pt_core.specs.WellFormedExpression.{stands_for}
use Rattle.pt_int.specs.declared.operator.UnOp.{UnOp}
use Rattle.sides.specs.Carried.{carried, linked_slots, links_slots}
use Rattle.usages.specs.Usages.{converted as conversion, evaluated, form_usages, keeps_value, used}
use Rattle.usages.specs.declared.usage.How.{How}
use Rattle.usages.specs.declared.usage.How.TheVariants.{Kept, Operated}
use Rattle.source_meaning.specs.Expressions.{type_of, type_or_int}
use Rattle.typed_tree.proofs.SameTypes.{equal_elems}
use Rattle.typed_tree.specs.ExpressionTree.{LinkTree, link, link_trees, typed}
use Rattle.typed_tree.specs.ExpressionTree as src
use Rattle.typed_tree.specs.TypeRules.{converts, promoted_value, unary_fits}
use Rattle.typed_tree.specs.TypeRules as r
use Rattle.typed_tree.specs.TypeTests.{integer_of, is_scalar, same_elem}
use Rattle.typed_tree.specs.WellFormedExpression.{constant_fits, ty_of}
use Rattle.typed_tree.specs.declared.link.LinkStep.{LinkStep}
use Rattle.typed_tree.specs.declared.link.LogicalOp.{LogicalOp}
use Rattle.typed_tree.specs.declared.link.LogicalOp.TheVariants.{And, Or}
use Rattle.typed_tree.specs.declared.types.VarTy.{VarTy}
use Rattle.typed_tree.specs.declared.types.VarTy.TheVariants.{Array, Int, Pointer, Struct}
use Rattle.handle_classes_law.proofs.SlavesBench.{AreFine, Bench, Held, Keeps, LoweredIs, PlainIf, ValueIs, at_slots, fine_both, fine_trees, held_first, held_if_is, held_is, held_rest, hold_is, holding_keeps, is_int, judged, plain_by, seen, temp_is, truth_is}
use Rattle.handle_classes_law.proofs.SlavesClasses.{IsBy}
use Rattle.handle_classes_law.proofs.SlavesForms.{arm_is, convert_is, into_first, into_second, step_is}
use Rattle.handle_classes_law.proofs.SlavesQuiet.{Quiet, quiet_rest}
use Rattle.handle_classes_law.proofs.SlavesRoots.{PlaceIs}
use Rattle.handle_classes_law.specs.SlavesMarked.{kept_class}

-- ---- chains

pub so_far_slots : (b : Bench) (first : src.ExprTree) (before : List LinkTree) (s : Span) (ty : VarTy) → carried (seen b) (chain_so_far first before s ty) ≡ links_slots (seen b) (carried (seen b) first) (link_trees before)
so_far_slots b first [] s ty = refl
so_far_slots b first (l ∷ ls) s ty = refl

pub so_far_type : (first : src.ExprTree) (before : List LinkTree) (l : LinkTree) (s : Span) (ty : VarTy) → type_of (chain_so_far first (before ++ l ∷ []) s ty) ≡ ty
so_far_type first [] l s ty = refl
so_far_type first (x ∷ xs) l s ty = refl

pub links_more : (b : Bench) (xs : List ℕ) (before : List LinkTree) (s : Span) (t : VarTy) (step : LinkStep) (a : src.ExprTree) → links_slots (seen b) xs (link_trees (before ++ link s t step a ∷ [])) ≡ linked_slots (links_slots (seen b) xs (link_trees before)) step (carried (seen b) a)
links_more b xs [] s t step a = refl
links_more b xs (link s2 t2 step2 a2 ∷ ls) s t step a = links_more b (linked_slots xs step2 (carried (seen b) a2)) ls s t step a

pub constant_int : (t : Option VarTy) (v : _) → constant_fits v (integer_of t) ≡ true → is_int (type_or_int t) ≡ true
constant_int None v h = false_not_true h
constant_int (Some (Int t)) v h = refl
constant_int (Some (Struct n)) v h = false_not_true h
constant_int (Some (Array elem n)) v h = false_not_true h
constant_int (Some (Pointer elem g)) v h = false_not_true h

-- a step behind what is held first
pub linked_is : (b : Bench) (n : ℕ) (step : LinkStep) (so_far to : VarTy) (o : Option VarTy) (xs ys : List ℕ) (waits : Bool) (x : Temp) (far v : Lowered) (at : Span) → r.stepped (Some so_far) step o ≡ Some to → PlainIf b so_far xs → PlainIf b (type_or_int o) ys → is_scalar (Some so_far) ≡ true → Keeps b so_far xs x →
    (Stand b.w.variables n far.temps → Held b n far.temps → LoweredIs b so_far xs far) → (Stand b.w.variables (past n (held_if waits n x far).temps) v.temps → Held b (past n (held_if waits n x far).temps) v.temps → LoweredIs b (type_or_int o) ys v) →
    Stand b.w.variables n (linked so_far step at (held_if waits n x far) v).temps → Held b n (linked so_far step at (held_if waits n x far) v).temps → LoweredIs b to (linked_slots xs step ys) (linked so_far step at (held_if waits n x far) v)
linked_is b n step so_far to o xs ys waits x far v at is px py scalar keeps i j stand held =
    let ready = held_if waits n x far in
    let st = stand_first b.w.variables n ready.temps v.temps stand in
    let one = held_if_is waits b so_far xs n x far scalar keeps (λ hl. i (held_stand waits b.w.variables n x far st) hl) (held_first b n ready.temps v.temps held) in
    let two = j (stand_rest b.w.variables n ready.temps v.temps stand) (held_rest b n ready.temps v.temps held) in
    record { stmts = fine_both b ready.stmts v.stmts one.stmts two.stmts; value = (step_is b step so_far to o xs ys ready.value v.value at is px py one.value two.value).value }

pub unary_scalar : (op : UnOp) (o ty : Option VarTy) → unary_fits op o ty ≡ true → is_scalar o ≡ true
unary_scalar op o ty h = (unary_operand op o ty h).0

-- where an operator looks at it
pub plain_when : (b : Bench) (how : How) (a : src.ExprTree) → is_scalar (ty_of a) ≡ true → Quiet b (evaluated how a) → how ≡ Operated → PlainIf b (type_of a) (carried (seen b) a)
plain_when b how (typed s t form) scalar h is = (quiet_rest b (form_usages t form) (used how (typed s t form) ∷ []) h).0.operated is scalar

pub convert_form : (b : Bench) (o ty : Option VarTy) (slots : List ℕ) (v : Lowered) → converts o ty ≡ true → (conversion o ty ≡ Operated → PlainIf b (type_or_int o) slots) → stands_for (core.type_of (context b.w) v.value) (type_or_int o) ≡ true → LoweredIs b (type_or_int o) slots v →
    LoweredIs b (type_or_int ty) (if keeps_value o ty then slots else []) (record v { value = converted (type_or_int ty) v.value })
convert_form b (Some (Int x)) (Some (Int y)) slots v rule plain stands h = record { stmts = h.stmts; value = convert_is b x y slots v.value (stands_int (core.type_of (context b.w) v.value) x stands) (λ no. plain (ap (λ z. if z then Kept else Operated) no)) h.value }
convert_form b (Some (Pointer x c)) (Some (Pointer y d)) slots v rule plain stands h = record { stmts = h.stmts; value = record { fine = h.value.fine; is = subst (λ z. IsBy (class_of (judged b) v.value) (at_slots b (Pointer z d) slots)) (equal_elems x y (both_hold_first (same_elem x y) (not c || d) rule)) h.value.is } }
convert_form b None ty slots v rule plain stands h = false_not_true rule
convert_form b (Some (Struct m)) ty slots v rule plain stands h = false_not_true rule
convert_form b (Some (Array elem m)) ty slots v rule plain stands h = false_not_true rule
convert_form b (Some (Int x)) None slots v rule plain stands h = false_not_true rule
convert_form b (Some (Int x)) (Some (Struct m)) slots v rule plain stands h = false_not_true rule
convert_form b (Some (Int x)) (Some (Array elem m)) slots v rule plain stands h = false_not_true rule
convert_form b (Some (Int x)) (Some (Pointer elem m)) slots v rule plain stands h = false_not_true rule
convert_form b (Some (Pointer x c)) None slots v rule plain stands h = false_not_true rule
convert_form b (Some (Pointer x c)) (Some (Int m)) slots v rule plain stands h = false_not_true rule
convert_form b (Some (Pointer x c)) (Some (Struct m)) slots v rule plain stands h = false_not_true rule
convert_form b (Some (Pointer x c)) (Some (Array elem m)) slots v rule plain stands h = false_not_true rule

-- a condition is no handle
pub condition_is : (b : Bench) (ty : VarTy) (slots : List ℕ) (v : Lowered) → PlainIf b ty slots → ValueIs b ty slots v.value → (class_of (judged b) v.value).pointer ≡ false → (class_of (judged b) v.value).may 0 ≡ false
condition_is b ty slots v plain h p = (plain_by (class_of (judged b) v.value) (at_slots b ty slots) h.is (sym h.is.kind ∙ p) (plain (sym h.is.kind ∙ p))).number

-- the temporaries of a choice
pub choice_is : (b : Bench) (n : ℕ) (ta ty : VarTy) (xa xs ys : List ℕ) (x : Temp) (test first second : Lowered) → is_scalar (Some ty) ≡ true → Keeps b ty (xs ++ ys) x → PlainIf b ta xa →
    (Stand b.w.variables n test.temps → Held b n test.temps → LoweredIs b ta xa test) → (Stand b.w.variables (past n test.temps + 1) first.temps → Held b (past n test.temps + 1) first.temps → LoweredIs b ty xs first) →
    (Stand b.w.variables (past (past n test.temps + 1) first.temps) second.temps → Held b (past (past n test.temps + 1) first.temps) second.temps → LoweredIs b ty ys second) →
    Stand b.w.variables n (chosen test (x ∷ []) (arm (past n test.temps) first) first.temps (arm (past n test.temps) second) second.temps).temps → Held b n (chosen test (x ∷ []) (arm (past n test.temps) first) first.temps (arm (past n test.temps) second) second.temps).temps →
    LoweredIs b ty (xs ++ ys) (valued (chosen test (x ∷ []) (arm (past n test.temps) first) first.temps (arm (past n test.temps) second) second.temps) (temp (past n test.temps)))
choice_is b n ta ty xa xs ys x test first second scalar keeps plain ia ic id stand held =
    let long : length (test.temps ++ x ∷ []) ≡ length test.temps + 1 = length-append test.temps (x ∷ []) in
    let longer : length (test.temps ++ x ∷ [] ++ first.temps) ≡ length (test.temps ++ x ∷ []) + length first.temps = length-append (test.temps ++ x ∷ []) first.temps in
    let e1 : n + length (test.temps ++ x ∷ []) ≡ n + length test.temps + 1 = omega (arith, long) in
    let e2 : n + length (test.temps ++ x ∷ [] ++ first.temps) ≡ n + length test.temps + 1 + length first.temps = omega (arith, long, longer) in
    let s1 = stand_first b.w.variables n (test.temps ++ x ∷ [] ++ first.temps) second.temps stand in
    let h1 = held_first b n (test.temps ++ x ∷ [] ++ first.temps) second.temps held in
    let s2 = stand_first b.w.variables n (test.temps ++ x ∷ []) first.temps s1 in
    let h2 = held_first b n (test.temps ++ x ∷ []) first.temps h1 in
    let here : b.world.variable b.function (past n test.temps) ≡ kept_class (at_slots b ty (xs ++ ys)) = (held_rest b n test.temps (x ∷ []) h2).0 ∙ keeps.class in
    let one = ia (stand_first b.w.variables n test.temps (x ∷ []) s2) (held_first b n test.temps (x ∷ []) h2) in
    let two = ic (subst (λ m. Stand b.w.variables m first.temps) e1 (stand_rest b.w.variables n (test.temps ++ x ∷ []) first.temps s1)) (subst (λ m. Held b m first.temps) e1 (held_rest b n (test.temps ++ x ∷ []) first.temps h1)) in
    let three = id (subst (λ m. Stand b.w.variables m second.temps) e2 (stand_rest b.w.variables n (test.temps ++ x ∷ [] ++ first.temps) second.temps stand)) (subst (λ m. Held b m second.temps) e2 (held_rest b n (test.temps ++ x ∷ [] ++ first.temps) second.temps held)) in
    record {
      stmts = fine_both b test.stmts (choose test.value (stmt_trees (arm (past n test.temps) first)) (stmt_trees (arm (past n test.temps) second)) ∷ []) one.stmts
          ((one.value.fine, condition_is b ta xa test plain one.value, fine_trees b (arm (past n test.temps) first) (arm_is b ty xs (xs ++ ys) (past n test.temps) first scalar here (into_first b ty xs ys) two), fine_trees b (arm (past n test.temps) second) (arm_is b ty ys (xs ++ ys) (past n test.temps) second scalar here (into_second b ty xs ys) three)), tt);
      value = temp_is b ty (xs ++ ys) (past n test.temps) scalar here;
    }

-- ---- `&&` and `||`

-- the truth so far is in temporary k
pub record TruthIs (b : Bench) (k : ℕ) (d : Effects) : Type 0 where
  pub stmts : AreFine b d.stmts
  pub here : b.world.variable b.function k ≡ kept_class (at_slots b int [])

pub started_is : (b : Bench) (n : ℕ) (ta : VarTy) (xa : List ℕ) (whole : src.ExprTree) (s : Span) (v : Lowered) → is_scalar (Some ta) ≡ true → PlainIf b ta xa → Keeps b int [] (holding int whole) → (Stand b.w.variables n v.temps → Held b n v.temps → LoweredIs b ta xa v) →
    Stand b.w.variables n (started whole (past n v.temps) ta s v).temps → Held b n (started whole (past n v.temps) ta s v).temps → TruthIs b (past n v.temps) (started whole (past n v.temps) ta s v)
started_is b n ta xa whole s v scalar plain keeps h stand held =
    let one = h (stand_first b.w.variables n v.temps (holding int whole ∷ []) stand) (held_first b n v.temps (holding int whole ∷ []) held) in
    let here = (held_rest b n v.temps (holding int whole ∷ []) held).0 ∙ keeps.class in
    record { stmts = fine_both b v.stmts (hold (past n v.temps) (truth_of ta v.value s) ∷ []) one.stmts (hold_is b int [] (past n v.temps) (truth_of ta v.value s) refl here (truth_is b ta xa v.value s scalar plain one.value), tt); here = here }

pub operand_is : (b : Bench) (n k : ℕ) (op : LogicalOp) (ta : VarTy) (xa : List ℕ) (s : Span) (far : Effects) (v : Lowered) → is_scalar (Some ta) ≡ true → PlainIf b ta xa → (Stand b.w.variables n far.temps → Held b n far.temps → TruthIs b k far) → (Stand b.w.variables (past n far.temps) v.temps → Held b (past n far.temps) v.temps → LoweredIs b ta xa v) →
    Stand b.w.variables n (with_operand op k ta s far v).temps → Held b n (with_operand op k ta s far v).temps → TruthIs b k (with_operand op k ta s far v)
operand_is b n k op ta xa s far v scalar plain i h stand held =
    let so_far = i (stand_first b.w.variables n far.temps v.temps stand) (held_first b n far.temps v.temps held) in
    let one = h (stand_rest b.w.variables n far.temps v.temps stand) (held_rest b n far.temps v.temps held) in
    let inner = fine_both b v.stmts (hold k (truth_of ta v.value s) ∷ []) one.stmts (hold_is b int [] k (truth_of ta v.value s) refl so_far.here (truth_is b ta xa v.value s scalar plain one.value), tt) in
    let there = temp_is b int [] k refl so_far.here in
    let free = condition_is b int [] (record { stmts = []; value = temp k; temps = [] }) (λ p. refl) there in
    record { stmts = fine_both b far.stmts (where_open op k (v.stmts ++ hold k (truth_of ta v.value s) ∷ []) ∷ []) so_far.stmts (open_is op (v.stmts ++ hold k (truth_of ta v.value s) ∷ []) there.fine free inner, tt); here = so_far.here }
  where
    open_is : (op : LogicalOp) (xs : List StmtTree) → IsFine (judged b) (temp k) → ((class_of (judged b) (temp k)).pointer ≡ false → (class_of (judged b) (temp k)).may 0 ≡ false) → AreFine b xs → IsFineStatement b.world (judged b) b.function (where_open op k xs)
    open_is And xs fine free h = (fine, free, fine_trees b xs h, tt)
    open_is Or xs fine free h = (fine, free, tt, fine_trees b xs h)

-- ---- values that are dropped

-- void as an integer
pub none_int : (o : Option VarTy) → is_none o ≡ true → is_int (type_or_int o) ≡ true
none_int None h = refl
none_int (Some ty) h = false_not_true h

-- the right side of a compound assignment is an integer or a pointer
pub operand_scalar : (step : LinkStep) (z : VarTy) (o : Option VarTy) → converts (r.stepped (promoted_value (Some z)) step o) (Some z) ≡ true → is_scalar o ≡ true
operand_scalar step z o h = go (r.stepped (promoted_value (Some z)) step o) refl h
  where
    go : (q : Option VarTy) → r.stepped (promoted_value (Some z)) step o ≡ q → converts q (Some z) ≡ true → is_scalar o ≡ true
    go None is k = false_not_true k
    go (Some m) is k = let two = step_operands step (promoted_value (Some z)) o m is in subst (λ y. is_scalar y ≡ true) (sym two.by) two.right_scalar

-- the object is found
pub checked_is : (b : Bench) (ty : VarTy) (slots : List ℕ) (p : LoweredPlace) → PlaceIs b ty slots p → AreFine b (checked p).stmts
checked_is b ty slots p h = fine_both b p.stmts (check p.place ∷ []) h.stmts (h.class.fine, tt)

pub held_drops : (b : Bench) (n : ℕ) (o : Option VarTy) (slots : List ℕ) (whole : src.ExprTree) (v : Lowered) → is_scalar o ≡ true → type_of whole ≡ type_or_int o → carried (seen b) whole ≡ slots → (Stand b.w.variables n v.temps → Held b n v.temps → LoweredIs b (type_or_int o) slots v) →
    Stand b.w.variables n (held n (holding (type_or_int o) whole) v).temps → Held b n (held n (holding (type_or_int o) whole) v).temps → AreFine b (held n (holding (type_or_int o) whole) v).stmts
held_drops b n None slots whole v scalar type from h stand keeps = false_not_true scalar
held_drops b n (Some ty) slots whole v scalar type from h stand keeps =
    (held_is b ty slots n (holding ty whole) v scalar (holding_keeps b ty ty slots whole type from) (λ hl. h (stand_first b.w.variables n v.temps (holding ty whole ∷ []) stand) hl) keeps).stmts

nothing_more : (xs : List Temp) → xs ++ [] ≡ xs
nothing_more [] = refl
nothing_more (y ∷ ys) = ap (λ zs. y ∷ zs) (nothing_more ys)

-- a choice whose value is dropped
pub choice_drops : (b : Bench) (n : ℕ) (ta : VarTy) (xa : List ℕ) (test : Lowered) (first second : Effects) → PlainIf b ta xa → (Stand b.w.variables n test.temps → Held b n test.temps → LoweredIs b ta xa test) →
    (Stand b.w.variables (past n test.temps) first.temps → Held b (past n test.temps) first.temps → AreFine b first.stmts) →
    (Stand b.w.variables (past (past n test.temps) first.temps) second.temps → Held b (past (past n test.temps) first.temps) second.temps → AreFine b second.stmts) →
    Stand b.w.variables n (chosen test [] first.stmts first.temps second.stmts second.temps).temps → Held b n (chosen test [] first.stmts first.temps second.stmts second.temps).temps →
    AreFine b (chosen test [] first.stmts first.temps second.stmts second.temps).stmts
choice_drops b n ta xa test first second plain h i j stand keeps =
    let long : length (test.temps ++ first.temps) ≡ length test.temps + length first.temps = length-append test.temps first.temps in
    let e : n + length (test.temps ++ first.temps) ≡ n + length test.temps + length first.temps = omega (arith, long) in
    let st = subst (λ z. Stand b.w.variables n (z ++ first.temps ++ second.temps)) (nothing_more test.temps) stand in
    let hl = subst (λ z. Held b n (z ++ first.temps ++ second.temps)) (nothing_more test.temps) keeps in
    let st1 = stand_first b.w.variables n (test.temps ++ first.temps) second.temps st in
    let hl1 = held_first b n (test.temps ++ first.temps) second.temps hl in
    let one = h (stand_first b.w.variables n test.temps first.temps st1) (held_first b n test.temps first.temps hl1) in
    let yes_is = i (stand_rest b.w.variables n test.temps first.temps st1) (held_rest b n test.temps first.temps hl1) in
    let no_is = j (subst (λ m. Stand b.w.variables m second.temps) e (stand_rest b.w.variables n (test.temps ++ first.temps) second.temps st)) (subst (λ m. Held b m second.temps) e (held_rest b n (test.temps ++ first.temps) second.temps hl)) in
    fine_both b test.stmts (choose test.value (stmt_trees first.stmts) (stmt_trees second.stmts) ∷ []) one.stmts
    ((one.value.fine, condition_is b ta xa test plain one.value, fine_trees b first.stmts yes_is, fine_trees b second.stmts no_is), tt)
