-- What the forms of an expression come to, after their parts.
use Rattle.std.proofs.Common.{◌≡◌, ℕ, ◌+◌, Bool, true, false, List, [], ◌∷◌, ◌++◌, Option, refl, sym, ap, ◌∙◌, subst}
use Rattle.std.proofs.lemmas.List.{append-nil}
use Rattle.std.proofs.lemmas.Result.{IfOk-weaker}
use Rattle.std.specs.Prelude.{Result, IfOk, OnOk}
use Rattle.std.specs.declared.alloc.AllocError.{AllocError}
use Rattle.pt_base.specs.declared.span.Span.{Span}
use Rattle.typed_tree.specs.declared.types.VarTy.{VarTy}
use Rattle.typed_tree.specs.declared.link.LinkStep.{LinkStep}
use Rattle.typed_tree.specs.declared.link.LogicalOp.{LogicalOp}
use Rattle.typed_tree.specs.ExpressionTree as tree
use Rattle.typed_tree.specs.ExpressionTree.{typed, FormTree, LinkTree, link, LinkTrees, link_and, OperandTree, operand, OperandTrees, PlaceTree, RootTree, StepTree, StepTrees, step_and}
use Rattle.pt_core.specs.declared.expression.Expr.{Expr}
use Rattle.pt_core.specs.CodeTree as core
use Rattle.pt_core.specs.CodeTree.{ExprTree, StmtTree, read, choose, view_expr, expr_trees, stmt_trees}
use Rattle.lowering.specs.declared.temporary.Temporary.{Temporary}
use Rattle.lowering.specs.declared.place.FoundPlace.{FoundPlace}
use Rattle.lowering.specs.Lowered.{Temp, Effects, Lowered, LoweredPlace, past, temp, hold}
use Rattle.lowering.specs.Operators.{truth_of, stepped}
use Rattle.lowering.specs.Expressions.{Scope, checked, value_at, assigned, copied, given, compounded, linked, where_open, with_operand, arm, chosen, valued, value_in, form_in, effects_in, object_in, place_in}
use Rattle.lowering.specs.ExpressionParts.{arm_in, count_at}
use Rattle.lowering.specs.Output.{Output, next, temporary_of, added, more, opened, closed, Found, view_found, Gives, Finds, Does, Collects}
use Rattle.lowering.proofs.OutputLemmas.{next_after, same_stmt, both, then_stmts, then_temps, apart, next_opened}
use Rattle.lowering.proofs.PieceLemmas.{chosen_is, then_claimed, next_claimed}

-- ---- values

pub read_is : (o o1 : Output) (low : LoweredPlace) (f : Found) → Finds o low o1 f → Gives o (value_at low) o1 (read f.place)
read_is o o1 low f h = record { made = h.made; is = ap (λ (g : Found). read g.place) h.is }

pub decay_is : (o o1 : Output) (low : LoweredPlace) (f : Found) → Finds o low o1 f → Gives o (record { stmts = low.stmts; value = core.decay low.place; temps = low.temps }) o1 (core.decay f.place)
decay_is o o1 low f h = record { made = h.made; is = ap (λ (g : Found). core.decay g.place) h.is }

pub address_is : (o o1 : Output) (low : LoweredPlace) (f : Found) → Finds o low o1 f → Gives o (record { stmts = low.stmts; value = core.address low.place; temps = low.temps }) o1 (core.address f.place)
address_is o o1 low f h = record { made = h.made; is = ap (λ (g : Found). core.address g.place) h.is }

-- a place is found, and that is all
pub checked_is : (o o1 o2 : Output) (low : LoweredPlace) (f : Found) → Finds o low o1 f → o2 ≡ added o1 (core.check f.place ∷ []) [] → Does o (checked low) o2
checked_is o o1 o2 low f h e = record {
  made = then_stmts o o1 o2 low.stmts (core.check low.place ∷ []) low.temps h.made (e ∙ ap (λ (g : Found). added o1 (core.check g.place ∷ []) []) h.is);
}

-- an operator on a value
pub changed_is : (o o1 : Output) (low : Lowered) (v w : ExprTree) (f : ExprTree → ExprTree) → Gives o low o1 v → w ≡ f v → Gives o (record low { value = f low.value }) o1 w
changed_is o o1 low v w f g e = record { made = g.made; is = e ∙ ap f g.is }

-- the temporary has its number
pub whole_is : (o o1 : Output) (low : ℕ → Effects) (k n : ℕ) → k ≡ n → Does o (low k) o1 → Gives o (valued (low n) (temp n)) o1 (temp k)
whole_is o o1 low k n e d = record { made = subst (λ j. o1 ≡ more o (low j).stmts (low j).temps) e d.made; is = ap temp e }

-- `?:`; the temporary k is claimed behind the condition
pub choice_is : (c : Scope) (o o1 o2 o3 o4 o5 : Output) (test : Lowered) (v : ExprTree) (k : ℕ) (x : Temp) (t : Temporary) (a b : tree.ExprTree) (us vs : List StmtTree) →
    Gives o test o1 v → temporary_of x ≡ t → k ≡ next o1 → o2 ≡ added o1 [] (t ∷ []) → Collects o2 (arm_in c k a (next o2)) o3 us → Collects o3 (arm_in c k b (next o3)) o4 vs → o5 ≡ added o4 (choose v (stmt_trees us) (stmt_trees vs) ∷ []) [] →
    Gives o
    (valued (chosen test (x ∷ []) (arm (past (next o) test.temps) (value_in c a (past (next o) test.temps + 1))) (value_in c a (past (next o) test.temps + 1)).temps
    (arm (past (next o) test.temps) (value_in c b (past (past (next o) test.temps + 1) (value_in c a (past (next o) test.temps + 1)).temps)))
    (value_in c b (past (past (next o) test.temps + 1) (value_in c a (past (next o) test.temps + 1)).temps)).temps) (temp (past (next o) test.temps)))
    o5 (temp k)
choice_is c o o1 o2 o3 o4 o5 test v k x t a b us vs g et ek e2 f s e5 =
    let n : k ≡ past (next o) test.temps = ek ∙ next_after o o1 test.stmts test.temps g.made in
    let m = past (next o) test.temps in
    let e2' = then_claimed o o1 o2 test.stmts test.temps x t g.made et e2 in
    let n2 : next o2 ≡ m + 1 = next_claimed o o2 test.stmts test.temps x e2' in
    let f1 : Collects o2 (arm_in c m a (m + 1)) o3 us = subst (λ j. Collects o2 (arm_in c j a (m + 1)) o3 us) n (subst (λ j. Collects o2 (arm_in c k a j) o3 us) n2 f) in
    let n3 : next o3 ≡ past (m + 1) (value_in c a (m + 1)).temps = next_after o2 o3 [] _ f1.made ∙ ap (λ j. past j (value_in c a (m + 1)).temps) n2 in
    let s1 : Collects o3 (arm_in c m b (past (m + 1) (value_in c a (m + 1)).temps)) o4 vs = subst (λ j. Collects o3 (arm_in c j b (past (m + 1) (value_in c a (m + 1)).temps)) o4 vs) n (subst (λ j. Collects o3 (arm_in c k b j) o4 vs) n3 s) in
    record {
      made = chosen_is o o2 o3 o4 o5 test.stmts (test.temps ++ x ∷ []) v test.value _ _ us vs e2' g.is f1 s1 e5;
      is = ap temp n;
    }

-- `?:` whose value is dropped
pub choice_dropped : (c : Scope) (o o1 o3 o4 o5 : Output) (test : Lowered) (v : ExprTree) (a b : tree.ExprTree) (us vs : List StmtTree) (st : StmtTree) →
    Gives o test o1 v → Collects o1 (effects_in c a (next o1)) o3 us → Collects o3 (effects_in c b (next o3)) o4 vs → st ≡ choose v (stmt_trees us) (stmt_trees vs) → o5 ≡ added o4 (st ∷ []) [] →
    Does o
    (chosen test [] (effects_in c a (past (next o) test.temps)).stmts (effects_in c a (past (next o) test.temps)).temps
    (effects_in c b (past (past (next o) test.temps) (effects_in c a (past (next o) test.temps)).temps)).stmts
    (effects_in c b (past (past (next o) test.temps) (effects_in c a (past (next o) test.temps)).temps)).temps)
    o5
choice_dropped c o o1 o3 o4 o5 test v a b us vs st g f s es e5 =
    let m = past (next o) test.temps in
    let n : next o1 ≡ m = next_after o o1 test.stmts test.temps g.made in
    let f1 : Collects o1 (effects_in c a m) o3 us = subst (λ j. Collects o1 (effects_in c a j) o3 us) n f in
    let n3 : next o3 ≡ past m (effects_in c a m).temps = next_after o1 o3 [] _ f1.made ∙ ap (λ j. past j (effects_in c a m).temps) n in
    let s1 : Collects o3 (effects_in c b (past m (effects_in c a m).temps)) o4 vs = subst (λ j. Collects o3 (effects_in c b j) o4 vs) n3 s in
    record {
      made = chosen_is o o1 o3 o4 o5 test.stmts (test.temps ++ []) v test.value _ _ us vs (g.made ∙ ap (λ z. more o test.stmts z) (sym (append-nil test.temps))) g.is f1 s1 (same_stmt o4 o5 st _ es e5);
    }

-- ---- assignments

pub copied_to : (c : Scope) (r : Result FoundPlace AllocError) (o o1 o3 : Output) (to : LoweredPlace) (f : Found) (a : tree.ExprTree) (whole : Bool) → Finds o to o1 f → whole ≡ true → IfOk r (λ p. Finds o (copied to (object_in c a (next o1))) o3 (view_found p)) →
    IfOk r (λ p. Finds o (assigned whole to (object_in c a (past (next o) to.temps)) (value_in c a (past (next o) to.temps))) o3 (view_found p))
copied_to c r o o1 o3 to f a whole h ew go =
    subst (λ b. IfOk r (λ p. Finds o (assigned b to (object_in c a (past (next o) to.temps)) (value_in c a (past (next o) to.temps))) o3 (view_found p))) (sym ew)
    (subst (λ j. IfOk r (λ p. Finds o (copied to (object_in c a j)) o3 (view_found p))) (next_after o o1 to.stmts to.temps h.made) go)

pub given_to : (c : Scope) (r : Result FoundPlace AllocError) (o o1 o3 : Output) (to : LoweredPlace) (f : Found) (a : tree.ExprTree) (whole : Bool) → Finds o to o1 f → whole ≡ false → IfOk r (λ p. Finds o (given to (value_in c a (next o1))) o3 (view_found p)) →
    IfOk r (λ p. Finds o (assigned whole to (object_in c a (past (next o) to.temps)) (value_in c a (past (next o) to.temps))) o3 (view_found p))
given_to c r o o1 o3 to f a whole h ew go =
    subst (λ b. IfOk r (λ p. Finds o (assigned b to (object_in c a (past (next o) to.temps)) (value_in c a (past (next o) to.temps))) o3 (view_found p))) (sym ew)
    (subst (λ j. IfOk r (λ p. Finds o (given to (value_in c a j)) o3 (view_found p))) (next_after o o1 to.stmts to.temps h.made) go)

pub compounded_to : (c : Scope) (o o1 o3 : Output) (s : Span) (step : LinkStep) (to : LoweredPlace) (f g : Found) (a : tree.ExprTree) → Finds o to o1 f → Finds o (compounded s step to (value_in c a (next o1))) o3 g →
    Finds o (compounded s step to (value_in c a (past (next o) to.temps))) o3 g
compounded_to c o o1 o3 s step to f g a h k = subst (λ j. Finds o (compounded s step to (value_in c a j)) o3 g) (next_after o o1 to.stmts to.temps h.made) k

pub count_is : (c : Scope) (p : PlaceTree) (at : Span) (back postfix : Bool) (s : Span) (ty : Option VarTy) (n : ℕ) → count_at s p at back postfix (place_in c p n) n ≡ form_in c (tree.step p at back postfix) s ty n
count_is c p at back true s ty n = refl
count_is c p at back false s ty n = refl

-- ---- chains

pub linked_is : (c : Scope) (r : Result Expr AllocError) (o o1 o2 : Output) (at : Span) (to ty : VarTy) (step : LinkStep) (e : tree.ExprTree) (ready : Lowered) (v w : ExprTree) → Gives o ready o1 v → Gives o1 (value_in c e (next o1)) o2 w → IfOk r (λ z. view_expr z ≡ stepped ty step v w at) →
    IfOk r (λ z. Gives o (linked ty step at ready (value_in c e (past (next o) ready.temps))) o2 (view_expr z))
linked_is c r o o1 o2 at to ty step e ready v w g h go =
    let h1 : Gives o1 (value_in c e (past (next o) ready.temps)) o2 w = subst (λ j. Gives o1 (value_in c e j) o2 w) (next_after o o1 ready.stmts ready.temps g.made) h in
    IfOk-weaker r (λ z. view_expr z ≡ stepped ty step v w at) (λ z. Gives o (linked ty step at ready (value_in c e (past (next o) ready.temps))) o2 (view_expr z))
    (λ z k. record {
      made = both o o1 o2 ready.stmts _ ready.temps _ g.made h1.made;
      is = k ∙ ap (λ x. stepped ty step x w at) g.is ∙ ap (λ x. stepped ty step ready.value x at) h1.is;
    }) go

-- ---- `&&` and `||`

pub operand_is : (o o1 o2 o3 o4 o5 : Output) (op : LogicalOp) (k : ℕ) (s : Span) (ty : VarTy) (far : Effects) (low : Lowered) (outer inner : List StmtTree) (v truth : ExprTree) (st : StmtTree) →
    Does o far o1 → outer ≡ o1.stmts → Gives (opened o1) low o2 v → truth ≡ truth_of ty v s → o3 ≡ added o2 (hold k truth ∷ []) [] → inner ≡ o3.stmts → o4 ≡ closed o3 outer → st ≡ where_open op k inner → o5 ≡ added o4 (st ∷ []) [] →
    Does o (with_operand op k ty s far low) o5
operand_is o o1 o2 o3 o4 o5 op k s ty far low outer inner v truth st d eo g et e3 ei e4 es e5 =
    let m : o3 ≡ more (opened o1) (low.stmts ++ hold k (truth_of ty low.value s) ∷ []) low.temps =
    then_stmts (opened o1) o2 o3 low.stmts (hold k (truth_of ty low.value s) ∷ []) low.temps g.made (e3 ∙ ap (λ z. added o2 (hold k z ∷ []) []) (et ∙ ap (λ z. truth_of ty z s) g.is)) in
    let a = apart o1 (opened o1) o3 o4 outer inner (low.stmts ++ hold k (truth_of ty low.value s) ∷ []) low.temps eo refl m ei e4 in
    record {
      made = then_stmts o o4 o5 far.stmts (where_open op k (low.stmts ++ hold k (truth_of ty low.value s) ∷ []) ∷ []) (far.temps ++ low.temps)
          (then_temps o o1 o4 far.stmts far.temps low.temps d.made a.made)
          (same_stmt o4 o5 st _ (es ∙ ap (λ z. where_open op k z) a.are) e5);
    }

-- the value of an operand, whose first number is behind what was made before
pub operand_begun : (c : Scope) (o o1 ob o2 : Output) (e : tree.ExprTree) (far : Effects) (v : ExprTree) → Does o far o1 → ob ≡ opened o1 → Gives ob (value_in c e (next ob)) o2 v → Gives (opened o1) (value_in c e (past (next o) far.temps)) o2 v
operand_begun c o o1 ob o2 e far v d eb g =
    let n : next ob ≡ past (next o) far.temps = next_opened o1 ob eb ∙ next_after o o1 far.stmts far.temps d.made in
    subst (λ z. Gives z (value_in c e (past (next o) far.temps)) o2 v) eb (subst (λ j. Gives ob (value_in c e j) o2 v) n g)

pub operand_typed : {U : Type 0} (r : Result U AllocError) (o o2 : Output) (op : LogicalOp) (k : ℕ) (ty ty' : VarTy) (s : Span) (far : Effects) (low : Lowered) → ty ≡ ty' → OnOk r (Does o (with_operand op k ty s far low) o2) → OnOk r (Does o (with_operand op k ty' s far low) o2)
operand_typed r o o2 op k ty ty' s far low e h = subst (λ z. OnOk r (Does o (with_operand op k z s far low) o2)) e h

-- an arm of `?:`
pub arm_is : (c : Scope) (o ob o2 o3 o4 : Output) (k : ℕ) (e : tree.ExprTree) (outer inner : List StmtTree) (v : ExprTree) →
    outer ≡ o.stmts → ob ≡ opened o → Gives ob (value_in c e (next ob)) o2 v → o3 ≡ added o2 (hold k v ∷ []) [] → inner ≡ o3.stmts → o4 ≡ closed o3 outer → Collects o (arm_in c k e (next o)) o4 inner
arm_is c o ob o2 o3 o4 k e outer inner v eo eb g e3 ei e4 =
    let g1 : Gives ob (value_in c e (next o)) o2 v = subst (λ j. Gives ob (value_in c e j) o2 v) (next_opened o ob eb) g in
    let low = value_in c e (next o) in
    apart o ob o3 o4 outer inner (arm k low) low.temps eo eb (then_stmts ob o2 o3 low.stmts (hold k low.value ∷ []) low.temps g1.made (e3 ∙ ap (λ z. added o2 (hold k z ∷ []) []) g1.is)) ei e4

-- what an expression does, in a list of its own
pub apart_is : (c : Scope) (o ob o3 o4 : Output) (e : tree.ExprTree) (outer inner : List StmtTree) → outer ≡ o.stmts → ob ≡ opened o → Does ob (effects_in c e (next ob)) o3 → inner ≡ o3.stmts → o4 ≡ closed o3 outer → Collects o (effects_in c e (next o)) o4 inner
apart_is c o ob o3 o4 e outer inner eo eb d ei e4 =
    apart o ob o3 o4 outer inner (effects_in c e (next o)).stmts (effects_in c e (next o)).temps eo eb (subst (λ j. o3 ≡ more ob (effects_in c e j).stmts (effects_in c e j).temps) (next_opened o ob eb) d.made) ei e4
