-- What statements are judged with: temporaries where they stand, and outermost expressions.
use Rattle.std.proofs.Common.{◌≡◌, ◌∙◌, ◌<◌, ℕ, pos, ◌+◌, refl, sym, subst, Bool, true, Option, None, Some, List, [], ◌∷◌, ◌++◌}
use Rattle.std.specs.Prelude.{slice_get}
use Rattle.std.specs.List.{AllByRecursion}
use Rattle.std.proofs.lemmas.Option.{get_or_from_slice_get}
use Rattle.flow_edges.specs.Edges.{begun_slots}
use Rattle.handle_classes.specs.Classes.{class_of}
use Rattle.handle_classes.specs.Judgment.{IsFine, IsFineStatement, IsPlain}
use Rattle.lowered_code_law.proofs.FormsRules.{no_struct}
use Rattle.lowered_code_law.proofs.FormsSettings.{Stand, source}
use Rattle.lowered_code_law.proofs.FormsStanding.{stand_first, stand_rest}
use Rattle.lowered_code_law.proofs.FormsStatements.{code, found, tests}
use Rattle.lowering.specs.Expressions.{effects_in, value_in}
use Rattle.lowering.specs.Lowered.{Effects, Temp, followed, hold, int, past, temp}
use Rattle.lowering.specs.Statements.{number, outermost}
use Rattle.pt_base.specs.declared.int_type.IntType.TheVariants as i
use Rattle.pt_base.proofs.Booleans.{false_not_true}
use Rattle.pt_base.proofs.Lists.{append_grouped}
use Rattle.pt_core.specs.CodeTree.{ExprTree, StmtTree, choose, stmt_trees}
use Rattle.sides.specs.Carried.{carried}
use Rattle.usages.specs.Usages.{UsageTree, evaluated}
use Rattle.usages.specs.declared.usage.How.{How}
use Rattle.usages.specs.declared.usage.How.TheVariants.{Begins, Kept, Operated, Passed, Returned}
use Rattle.source_meaning.specs.Expressions.{type_of}
use Rattle.source_meaning.specs.Statements.{no_expr}
use Rattle.typed_tree.specs.ExpressionTree.{typed}
use Rattle.typed_tree.specs.ExpressionTree as src
use Rattle.typed_tree.specs.TypeTests.{is_scalar}
use Rattle.typed_tree.specs.WellFormedExpression.{is_typed, ty_of}
use Rattle.typed_tree.specs.WellFormedStatement.{any_type}
use Rattle.typed_tree.specs.WellFormedStatement as s
use Rattle.typed_tree.specs.declared.ids.ExprId.{ExprId}
use Rattle.typed_tree.specs.declared.types.VarTy.{VarTy}
use Rattle.handle_classes_law.proofs.SlavesBench.{AreFine, Bench, Fits, Held, LoweredIs, PlainIf, ValueIs, at_slots, constant_is, fine_both, fine_trees, held_first, held_rest, hold_is, is_int, judged, plain_by, plain_value, seen, temp_is}
use Rattle.handle_classes_law.proofs.SlavesExpressions.{effects_are, value_is}
use Rattle.handle_classes_law.proofs.SlavesOutermost.{UsedAt}
use Rattle.handle_classes_law.proofs.SlavesQuiet.{Quiet, plain_here}
use Rattle.handle_classes_law.proofs.SlavesWithin.{AllRoom, NoArgument, Rooms, count, kept_free, operated_free}
use Rattle.handle_classes_law.specs.SlavesMarked.{kept_class}

-- ---- what statements are judged with

-- the slots to which the value of an outermost expression moves
abbrev pub outer_slots : Bench → How → Option VarTy → List ℕ
outer_slots b Kept ty = []
outer_slots b Operated ty = []
outer_slots b (Passed g k) ty = []
outer_slots b (Begins v k) ty = begun_slots (seen b) (slice_get b.variables v.0) k ty
outer_slots b Returned ty = (b.results + b.function) ∷ []

-- Slots are below a number, and an outermost expression is quiet
-- where Q holds of what it evaluates, and its value moves to slots of the program.
pub record Ground (b : Bench) (Q : UsageTree → Type 0) : Type 0 where
  pub fits : Fits b
  pub top : ℕ
  pub rooms : Rooms top b
  pub own : b.results + b.function < top
  pub quiet : (a : src.ExprTree) (how : How) → NoArgument how → is_typed b.w.names a ≡ true → AllByRecursion Q (evaluated how a) → AllRoom top (count b (ty_of a)) (outer_slots b how (ty_of a)) → Quiet b (evaluated how a)

-- ---- temporaries

-- they stand among the variables, with their classes
abbrev pub Has : Bench → ℕ → List Temp → Type 0
Has b n ts = Stand b.w.variables n ts × Held b n ts

pub has_first : (b : Bench) (n : ℕ) (xs ys : List Temp) → Has b n (xs ++ ys) → Has b n xs
has_first b n xs ys h = (stand_first b.w.variables n xs ys h.0, held_first b n xs ys h.1)

pub has_rest : (b : Bench) (n : ℕ) (xs ys : List Temp) → Has b n (xs ++ ys) → Has b (past n xs) ys
has_rest b n xs ys h = (stand_rest b.w.variables n xs ys h.0, held_rest b n xs ys h.1)

pub has_three : (b : Bench) (n : ℕ) (xs ys zs : List Temp) → Has b n (xs ++ ys ++ zs) → Has b n (xs ++ (ys ++ zs))
has_three b n xs ys zs h = subst (λ ts. Has b n ts) (append_grouped xs ys zs) h

-- a temporary that counts is of the class of a number of its type
abbrev pub Counts : Bench → VarTy → ℕ → Type 0
Counts b ty k = b.world.variable b.function k ≡ kept_class (at_slots b ty [])

pub number_held : (b : Bench) (k m : ℕ) → Counts b int k → IsFineStatement b.world (judged b) b.function (hold k (number m))
number_held b k m here = hold_is b int [] k (number m) refl here (constant_is b int i.Int (pos m) refl)

-- a test of numbers
pub plain_test : (b : Bench) (ty : VarTy) (k : ℕ) → is_scalar (Some ty) ≡ true → is_int ty ≡ true → Counts b ty k → IsFine (judged b) (temp k) × IsPlain (class_of (judged b) (temp k))
plain_test b ty k scalar number here = let v = temp_is b ty [] k scalar here in (v.fine, plain_value b ty [] (temp k) number (λ p. refl) v)

-- ---- one after the other

pub one_more : (b : Bench) (xs : List StmtTree) (x : StmtTree) → AreFine b xs → IsFineStatement b.world (judged b) b.function x → AreFine b (xs ++ x ∷ [])
one_more b xs x h k = fine_both b xs (x ∷ []) h (k, tt)

pub followed_fine : (b : Bench) (n : ℕ) (a d : Effects) → (Has b n a.temps → AreFine b a.stmts) → (Has b (past n a.temps) d.temps → AreFine b d.stmts) → Has b n (followed a d).temps → AreFine b (followed a d).stmts
followed_fine b n a d h k has = fine_both b a.stmts d.stmts (h (has_first b n a.temps d.temps has)) (k (has_rest b n a.temps d.temps has))

-- ---- outermost expressions

-- what holds of it
pub all_at : (b : Bench) (Q : UsageTree → Type 0) (exprs : List src.ExprTree) (test : Option VarTy → Bool) (how : How) (e : ExprId) → s.expr_fits (tests b.w exprs) test e ≡ true → UsedAt Q exprs how e → AllByRecursion Q (evaluated how (outermost (code b.w exprs) e))
all_at b Q exprs test how e h u = go (slice_get exprs e.0) refl h
  where
    go : (o : Option src.ExprTree) → slice_get exprs e.0 ≡ o → s.found_fits b.w.names test o ≡ true → AllByRecursion Q (evaluated how (outermost (code b.w exprs) e))
    go None is k = false_not_true k
    go (Some a) is k = subst (λ z. AllByRecursion Q (evaluated how z)) (sym (get_or_from_slice_get exprs e.0 a no_expr is)) (u a is)

pub dropped_fine : (b : Bench) (Q : UsageTree → Type 0) (exprs : List src.ExprTree) (e : ExprId) (n : ℕ) → Ground b Q → s.expr_fits (tests b.w exprs) any_type e ≡ true → UsedAt Q exprs Kept e → Has b n (effects_in (source b.w.names) (outermost (code b.w exprs) e) n).temps →
    AreFine b (effects_in (source b.w.names) (outermost (code b.w exprs) e) n).stmts
dropped_fine b Q exprs e n c h u has =
    let a = outermost (code b.w exprs) e in
    let typed = (found b.w.names exprs any_type e.0 h).0 in
    effects_are a Kept b n c.fits typed (c.quiet a Kept kept_free typed (all_at b Q exprs any_type Kept e h u) tt) has.0 has.1

-- a condition
pub condition_quiet : (b : Bench) (Q : UsageTree → Type 0) (exprs : List src.ExprTree) (test : Option VarTy → Bool) (e : ExprId) → Ground b Q → s.expr_fits (tests b.w exprs) test e ≡ true → UsedAt Q exprs Operated e → Quiet b (evaluated Operated (outermost (code b.w exprs) e))
condition_quiet b Q exprs test e c h u = c.quiet (outermost (code b.w exprs) e) Operated operated_free (found b.w.names exprs test e.0 h).0 (all_at b Q exprs test Operated e h u) tt

pub condition_fine : (b : Bench) (Q : UsageTree → Type 0) (exprs : List src.ExprTree) (e : ExprId) (n : ℕ) → Ground b Q → s.expr_fits (tests b.w exprs) is_scalar e ≡ true → UsedAt Q exprs Operated e → Has b n (value_in (source b.w.names) (outermost (code b.w exprs) e) n).temps →
    LoweredIs b (type_of (outermost (code b.w exprs) e)) (carried (seen b) (outermost (code b.w exprs) e)) (value_in (source b.w.names) (outermost (code b.w exprs) e) n)
condition_fine b Q exprs e n c h u has =
    let a = outermost (code b.w exprs) e in
    let f = found b.w.names exprs is_scalar e.0 h in
    value_is a Operated b n c.fits f.0 (no_struct (ty_of a) f.1) (condition_quiet b Q exprs is_scalar e c h u) has.0 has.1

-- it is no handle
pub condition_plain : (b : Bench) (Q : UsageTree → Type 0) (exprs : List src.ExprTree) (e : ExprId) → Ground b Q → s.expr_fits (tests b.w exprs) is_scalar e ≡ true → UsedAt Q exprs Operated e → PlainIf b (type_of (outermost (code b.w exprs) e)) (carried (seen b) (outermost (code b.w exprs) e))
condition_plain b Q exprs e c h u = plain_here b (outermost (code b.w exprs) e) (found b.w.names exprs is_scalar e.0 h).1 (condition_quiet b Q exprs is_scalar e c h u)

pub choose_fine : (b : Bench) (ty : VarTy) (slots : List ℕ) (v : ExprTree) (xs ys : List StmtTree) → PlainIf b ty slots → ValueIs b ty slots v → AreFine b xs → AreFine b ys → IsFineStatement b.world (judged b) b.function (choose v (stmt_trees xs) (stmt_trees ys))
choose_fine b ty slots v xs ys plain h k l =
    (h.fine, (λ p. (plain_by (class_of (judged b) v) (at_slots b ty slots) h.is (sym h.is.kind ∙ p) (plain (sym h.is.kind ∙ p))).number), fine_trees b xs k, fine_trees b ys l)
