-- Calls: arguments may go to their parameters, and results to what holds them.
use Rattle.std.proofs.Common.{◌≡◌, ◌∙◌, ℕ, suc, ◌+◌, refl, ap, sym, subst, arith, true, false, Option, None, Some, List, [], ◌∷◌}
use Rattle.std.specs.Prelude.{◌||◌}
use Rattle.std.specs.Option.{option_map}
use Rattle.handle_classes.specs.Classes.{Class, Scope, class_of, integer_class, number_class}
use Rattle.handle_classes.specs.Judgment.{AreFineArguments, Flows}
use Rattle.lowered_code_law.proofs.FormsSettings.{Stand}
use Rattle.lowered_code_law.proofs.FormsStanding.{stand_first, stand_rest}
use Rattle.lowered_code_law.proofs.FormsSteps.{one_type}
use Rattle.lowering.specs.Expressions.{argued, call_effects, called}
use Rattle.lowering.specs.Lowered.{Arguments, Lowered, holding, past}
use Rattle.pt_base.specs.declared.int_type.IntType.{IntType}
use Rattle.pt_base.specs.declared.int_type.IntType.TheVariants as i
use Rattle.pt_base.specs.declared.span.Span.{Span}
use Rattle.pt_base.proofs.Booleans.{false_not_true}
use Rattle.pt_core.specs.CodeTree.{ExprTrees, call, expr_and, expr_trees, no_exprs}
use Rattle.sides.specs.Carried.{carried}
use Rattle.source_meaning.specs.Expressions.{type_of, type_or_int}
use Rattle.typed_tree.specs.ExpressionTree as src
use Rattle.typed_tree.specs.TypeTests.{is_scalar}
use Rattle.typed_tree.specs.declared.types.VarTy.{VarTy}
use Rattle.typed_tree.specs.declared.types.VarTy.TheVariants.{Int}
use Rattle.handle_classes_law.proofs.SlavesBench.{AreFine, Bench, Fits, Held, LoweredIs, at_slots, fine_both, held_first, held_rest, holding_keeps, judged, number_by, seen, temp_is}
use Rattle.handle_classes_law.proofs.SlavesClasses.{IsBy}
use Rattle.handle_classes_law.specs.SlavesMarked.{kept_class}

-- ---- arguments

-- what is evaluated for the arguments of a call from the k-th on
pub record ArgumentsAre (b : Bench) (into : ℕ → Class) (a : Arguments) : Type 0 where
  pub stmts : AreFine b a.stmts
  pub values : AreFineArguments (judged b) (expr_trees a.values) into

same_parameters : (s : Scope) (es : ExprTrees) (f g : ℕ → Class) → ((n : ℕ) → f n ≡ g n) → AreFineArguments s es f → AreFineArguments s es g
same_parameters s no_exprs f g same h = tt
same_parameters s (expr_and e rest) f g same h = (h.0, subst (λ z. Flows (class_of s e) z) (same 0) h.1, same_parameters s rest (λ n. f (suc n)) (λ n. g (suc n)) (λ n. same (suc n)) h.2)

pub argued_is : (b : Bench) (n k g : ℕ) (ty : VarTy) (slots : List ℕ) (v : Lowered) (rest : Arguments) → ((c : Class) → IsBy c (at_slots b ty slots) → Flows c (b.world.param g k)) →
    (Stand b.w.variables n v.temps → Held b n v.temps → LoweredIs b ty slots v) → (Stand b.w.variables (past n v.temps) rest.temps → Held b (past n v.temps) rest.temps → ArgumentsAre b (λ j. b.world.param g (suc k + j)) rest) →
    Stand b.w.variables n (argued v rest).temps → Held b n (argued v rest).temps → ArgumentsAre b (λ j. b.world.param g (k + j)) (argued v rest)
argued_is b n k g ty slots v rest passes h i stand held =
    let one = h (stand_first b.w.variables n v.temps rest.temps stand) (held_first b n v.temps rest.temps held) in
    let more = i (stand_rest b.w.variables n v.temps rest.temps stand) (held_rest b n v.temps rest.temps held) in
    record {
      stmts = fine_both b v.stmts rest.stmts one.stmts more.stmts;
      values = (
        one.value.fine,
        subst (λ j. Flows (class_of (judged b) v.value) (b.world.param g j)) (first k) (passes (class_of (judged b) v.value) one.value.is),
        same_parameters (judged b) (expr_trees rest.values) (λ j. b.world.param g (suc k + j)) (λ j. b.world.param g (k + suc j)) (λ j. ap (λ m. b.world.param g m) (next k j)) more.values,
      );
    }
  where
    first : (k : ℕ) → k ≡ k + 0
    first k = omega arith

    next : (k j : ℕ) → suc k + j ≡ k + suc j
    next k j = omega arith

-- from the first on
pub all_parameters : (b : Bench) (g : ℕ) (a : Arguments) → ArgumentsAre b (λ j. b.world.param g (0 + j)) a → AreFineArguments (judged b) (expr_trees a.values) (b.world.param g)
all_parameters b g a h = same_parameters (judged b) (expr_trees a.values) (λ j. b.world.param g (0 + j)) (b.world.param g) (λ j. ap (λ m. b.world.param g m) (none j)) h.values
  where
    none : (j : ℕ) → 0 + j ≡ j
    none j = omega arith

-- ---- results

-- an integer that may be a handle where the result's slot is marked
result_flows : (b : Bench) (g : ℕ) (t : IntType) (c : Class) → Fits b → c ≡ kept_class (at_slots b (Int t) ((b.results + g) ∷ [])) → Flows (integer_class (b.world.result g)) c
result_flows b g t c fits is = subst (λ z. Flows (integer_class (b.world.result g)) z) (sym is) (record {
  kind = refl;
  first = λ p m. marked (b.results + g) (fits.results g m);
  size = λ p. false_not_true p;
  may = λ p n less m. false_not_true p;
  must = λ p n less m. false_not_true p;
})
  where
    marked : (s : ℕ) → b.marks s ≡ true → (b.marks (s + 0) || false) ≡ true
    marked s m = ap (λ z. z || false) (ap b.marks (plain s) ∙ m)
      where
        plain : (s : ℕ) → s + 0 ≡ s
        plain s = omega arith

-- a call whose result is dropped
pub call_drops : (b : Bench) (n g : ℕ) (s : Span) (a : Arguments) → (Stand b.w.variables n a.temps → Held b n a.temps → ArgumentsAre b (λ j. b.world.param g (0 + j)) a) →
    Stand b.w.variables n (call_effects g s None [] a).temps → Held b n (call_effects g s None [] a).temps → AreFine b (call_effects g s None [] a).stmts
call_drops b n g s a h stand held =
    let given = h (stand_first b.w.variables n a.temps [] stand) (held_first b n a.temps [] held) in
    fine_both b a.stmts (call g (expr_trees a.values) None s ∷ []) given.stmts ((all_parameters b g a given, tt), tt)

-- what a call gives is an integer
pub result_type : (o : Option IntType) (ty : VarTy) → Some ty ≡ option_map Int o → (t : IntType) × (ty ≡ Int t)
result_type None ty h = cc
result_type (Some t) ty h = (t, one_type ty (Int t) h)

pub called_is : (b : Bench) (n g : ℕ) (s : Span) (whole : src.ExprTree) (t : Option VarTy) (result : Option IntType) (a : Arguments) → Fits b → t ≡ option_map Int result → type_of whole ≡ type_or_int t → carried (seen b) whole ≡ (b.results + g) ∷ [] →
    (Stand b.w.variables n a.temps → Held b n a.temps → ArgumentsAre b (λ j. b.world.param g (0 + j)) a) →
    Stand b.w.variables n (called g s t whole n a).temps → Held b n (called g s t whole n a).temps → LoweredIs b (type_or_int t) ((b.results + g) ∷ []) (called g s t whole n a)
called_is b n g s whole None result a fits is type from h stand held = record {
  stmts = call_drops b n g s a h stand held;
  value = record { fine = tt; is = number_by b (Int i.Int) ((b.results + g) ∷ []) number_class refl refl refl refl };
}
called_is b n g s whole (Some ty) result a fits is type from h stand held =
    let r = result_type result ty is in
    let x = holding ty whole in
    let k = past n a.temps in
    let given = h (stand_first b.w.variables n a.temps (x ∷ []) stand) (held_first b n a.temps (x ∷ []) held) in
    let keeps = holding_keeps b ty ty ((b.results + g) ∷ []) whole type from in
    let here = (held_rest b n a.temps (x ∷ []) held).0 ∙ keeps.class in
    let taken = result_flows b g r.0 (b.world.variable b.function k) fits (here ∙ ap (λ z. kept_class (at_slots b z ((b.results + g) ∷ []))) r.1) in
    record {
      stmts = fine_both b a.stmts (call g (expr_trees a.values) (Some k) s ∷ []) given.stmts ((all_parameters b g a given, taken), tt);
      value = temp_is b ty ((b.results + g) ∷ []) k (subst (λ z. is_scalar (Some z) ≡ true) (sym r.1) refl) here;
    }
