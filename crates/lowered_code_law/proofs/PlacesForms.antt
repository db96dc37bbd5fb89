-- What is lowered from parts, without its places, is what is lowered from the parts without theirs.
use Rattle.std.proofs.Common.{◌≡◌, ◌∙◌, ap, refl, sym, ℕ, ◌+◌, Bool, true, false, Option, Some, None, List, [], ◌∷◌, ◌++◌, map, option_map, if◌then◌else◌}
use Rattle.std.specs.Prelude.{◌||◌, ◌&&◌, not}
use Rattle.std.proofs.lemmas.List.{length-map, map-append}
use Rattle.pt_base.specs.declared.int_type.IntType.{IntType}
use Rattle.pt_base.specs.declared.span.Span.{Span}
use Rattle.pt_base.specs.IntTypes.{promoted}
use Rattle.pt_int.specs.declared.operator.UnOp.{UnOp}
use Rattle.pt_int.specs.declared.operator.UnOp.TheVariants.{Not}
use Rattle.typed_tree.specs.declared.types.VarTy.{VarTy}
use Rattle.typed_tree.specs.declared.types.VarTy.TheVariants.{Int, Struct, Array, Pointer}
use Rattle.typed_tree.specs.declared.link.LinkStep.{LinkStep}
use Rattle.typed_tree.specs.declared.link.LinkStep.TheVariants.{Arithmetic, Shift, Move, MoveBy, Difference, Compare}
use Rattle.typed_tree.specs.declared.link.LogicalOp.{LogicalOp}
use Rattle.typed_tree.specs.declared.link.LogicalOp.TheVariants.{And, Or}
use Rattle.typed_tree.specs.ExpressionTree as src
use Rattle.typed_tree.specs.ExpressionTree.{typed, LinkTree, link, link_and, link_trees, step_and, step_trees, StepTree}
use Rattle.typed_tree.specs.TypeTests.{points_to_const, same_int}
use Rattle.pt_core.specs.CodeTree.{local, global, deref, PlaceTree, place, ExprTree, binary, convert, read, StmtTree, StmtTrees, check, assign, copy, call, choose, expr_and, expr_trees, no_stmts, stmt_and, stmt_trees}
use Rattle.pt_core.specs.Types.{field_type, pointee_type}
use Rattle.source_meaning.specs.Expressions.{type_of}
use Rattle.lowering.specs.Lowered.{Temp, Effects, Lowered, LoweredPlace, Arguments, pure, past, temp, hold, held, held_if, holding, int}
use Rattle.lowering.specs.Operators.{as_int, converted, prefixed, truth_of, promoted_of, shift_of, stepped, stored, unit_step, unit_of}
use Rattle.lowering.specs.Purity.{takes_left_first, is_pure, is_pure_form, are_pure, are_pure_links, are_pure_steps, is_pure_place, is_pure_root}
use Rattle.lowering.specs.Expressions.{Scope, place_with_field, behind, chain_so_far, field_in, element_place, fixed_root, fixed_through, fixed_if, checked, left_place, linked, started, valued, where_open, with_operand, arm, chosen, copied, given, assigned, compounded, counted, counted_after, argued, call_effects, called}
use Rattle.lowered_code_law.specs.PlacesBareTrees.{bare, bare_all, bare_form, bare_links, bare_place, bare_root, bare_steps, nowhere}
use Rattle.lowered_code_law.specs.PlacesBareCode.{bare_stmt, bare_stmts, bare_target, bare_value, bare_values}

-- ---- what is lowered, without places

abbrev pub bare_temp : Temp → Temp
bare_temp x = record { ty = x.ty; holds = option_map bare x.holds }

abbrev pub bare_effects : Effects → Effects
bare_effects d = record { stmts = map bare_stmt d.stmts; temps = map bare_temp d.temps }

abbrev pub bare_lowered : Lowered → Lowered
bare_lowered v = record { stmts = map bare_stmt v.stmts; value = bare_value v.value; temps = map bare_temp v.temps }

abbrev pub bare_found : LoweredPlace → LoweredPlace
bare_found p = record { stmts = map bare_stmt p.stmts; place = bare_target p.place; ty = p.ty; fixed = p.fixed; through = option_map bare_temp p.through; temps = map bare_temp p.temps }

abbrev pub bare_arguments : Arguments → Arguments
bare_arguments a = record { stmts = map bare_stmt a.stmts; values = map bare_value a.values; temps = map bare_temp a.temps }

abbrev pub bare_link : LinkTree → LinkTree
bare_link (link at ty op a) = link nowhere ty op (bare a)

abbrev pub bare_step : StepTree → StepTree
bare_step (src.field k) = src.field k
bare_step (src.item a at) = src.item (bare a) nowhere

-- ---- lists

pub stmts_bare : (xs ys : List StmtTree) → map bare_stmt (xs ++ ys) ≡ map bare_stmt xs ++ map bare_stmt ys
stmts_bare xs ys = map-append bare_stmt xs ys

pub temps_bare : (xs ys : List Temp) → map bare_temp (xs ++ ys) ≡ map bare_temp xs ++ map bare_temp ys
temps_bare xs ys = map-append bare_temp xs ys

-- two lists, and one behind them
two_bare : (xs ys : List StmtTree) (z : StmtTree) → map bare_stmt (xs ++ ys ++ z ∷ []) ≡ map bare_stmt xs ++ map bare_stmt ys ++ bare_stmt z ∷ []
two_bare xs ys z = stmts_bare (xs ++ ys) (z ∷ []) ∙ (λ i. stmts_bare xs ys i ++ bare_stmt z ∷ [])

pub three_temps : (xs ys zs : List Temp) → map bare_temp (xs ++ ys ++ zs) ≡ map bare_temp xs ++ map bare_temp ys ++ map bare_temp zs
three_temps xs ys zs = temps_bare (xs ++ ys) zs ∙ (λ i. temps_bare xs ys i ++ map bare_temp zs)

four_temps : (ws xs ys zs : List Temp) → map bare_temp (ws ++ xs ++ ys ++ zs) ≡ map bare_temp ws ++ map bare_temp xs ++ map bare_temp ys ++ map bare_temp zs
four_temps ws xs ys zs = temps_bare (ws ++ xs ++ ys) zs ∙ (λ i. three_temps ws xs ys i ++ map bare_temp zs)

pub trees_bare : (xs : List StmtTree) → bare_stmts (stmt_trees xs) ≡ stmt_trees (map bare_stmt xs)
trees_bare [] = refl
trees_bare (x ∷ xs) = ap (stmt_and (bare_stmt x)) (trees_bare xs)

values_bare : (xs : List ExprTree) → bare_values (expr_trees xs) ≡ expr_trees (map bare_value xs)
values_bare [] = refl
values_bare (x ∷ xs) = ap (expr_and (bare_value x)) (values_bare xs)

-- as many temporaries are taken
pub past_bare : (n : ℕ) (xs : List Temp) → past n xs ≡ past n (map bare_temp xs)
past_bare n xs = ap (λ (k : ℕ). n + k) (sym (length-map xs bare_temp))

-- ---- types and purity

pub type_bare : (a : src.ExprTree) → type_of a ≡ type_of (bare a)
type_bare (typed s ty form) = refl

mutual
  pub pure_bare : (a : src.ExprTree) → is_pure a ≡ is_pure (bare a)
  pure_bare (typed s ty form) = form_pure form

  form_pure : (form : src.FormTree) → is_pure_form form ≡ is_pure_form (bare_form form)
  form_pure (src.read p) = place_pure p
  form_pure (src.decay p) = place_pure p
  form_pure (src.address p) = place_pure p
  form_pure (src.unary op a) = pure_bare a
  form_pure (src.convert a) = pure_bare a
  form_pure (src.chain a ls) = λ i. pure_bare a i && links_pure ls i
  form_pure form = refl

  links_pure : (ls : src.LinkTrees) → are_pure_links ls ≡ are_pure_links (bare_links ls)
  links_pure src.no_links = refl
  links_pure (link_and (link s ty op a) rest) = λ i. (takes_left_first op && pure_bare a i) && links_pure rest i

  place_pure : (p : src.PlaceTree) → is_pure_place p ≡ is_pure_place (bare_place p)
  place_pure (src.place root steps) = λ i. root_pure root i && steps_pure steps i

  root_pure : (root : src.RootTree) → is_pure_root root ≡ is_pure_root (bare_root root)
  root_pure (src.local v) = refl
  root_pure (src.global g) = refl
  root_pure (src.deref a s) = pure_bare a
  root_pure (src.assigned a) = refl

  steps_pure : (steps : src.StepTrees) → are_pure_steps steps ≡ are_pure_steps (bare_steps steps)
  steps_pure src.no_steps = refl
  steps_pure (step_and (src.field k) rest) = steps_pure rest
  steps_pure (step_and (src.item a s) rest) = λ i. pure_bare a i && steps_pure rest i

pub all_pure_bare : (all : src.ExprTrees) → are_pure all ≡ are_pure (bare_all all)
all_pure_bare src.no_exprs = refl
all_pure_bare (src.expr_and a rest) = λ i. pure_bare a i && all_pure_bare rest i

-- ---- values

pub as_int_bare : (ty : VarTy) (to : IntType) (a : ExprTree) → bare_value (as_int ty to a) ≡ as_int ty to (bare_value a)
as_int_bare (Int t) to a = go (same_int t to)
  where
    go : (b : Bool) → bare_value (if b then a else convert to a) ≡ (if b then bare_value a else convert to (bare_value a))
    go true = refl
    go false = refl
as_int_bare (Struct n) to a = refl
as_int_bare (Array elem count) to a = refl
as_int_bare (Pointer elem fixed) to a = refl

pub converted_bare : (ty : VarTy) (a : ExprTree) → bare_value (converted ty a) ≡ converted ty (bare_value a)
converted_bare (Int to) a = refl
converted_bare ty a = refl

pub prefixed_bare : (op : UnOp) (ty : VarTy) (a : ExprTree) (s : Span) → bare_value (prefixed op ty a s) ≡ prefixed op ty (bare_value a) nowhere
prefixed_bare op (Int t) a s = refl
prefixed_bare Not (Pointer elem fixed) a s = refl
prefixed_bare op ty a s = refl

truth_bare : (ty : VarTy) (a : ExprTree) (s : Span) → bare_value (truth_of ty a s) ≡ truth_of ty (bare_value a) nowhere
truth_bare (Int t) a s = refl
truth_bare (Pointer elem fixed) a s = refl
truth_bare ty a s = refl

stepped_bare : (ty : VarTy) (step : LinkStep) (a b : ExprTree) (s : Span) → bare_value (stepped ty step a b s) ≡ stepped ty step (bare_value a) (bare_value b) nowhere
stepped_bare ty (Arithmetic op t) a b s = ap (λ (x : ExprTree). binary op t x (bare_value b) nowhere) (as_int_bare ty t a)
stepped_bare ty (Shift to_left) a b s = ap (λ (x : ExprTree). binary (shift_of to_left) (promoted_of ty) x (bare_value b) nowhere) (as_int_bare ty (promoted_of ty) a)
stepped_bare ty (Move back) a b s = refl
stepped_bare ty MoveBy a b s = refl
stepped_bare ty Difference a b s = refl
stepped_bare ty (Compare op) a b s = refl

stored_bare : (ty : VarTy) (step : LinkStep) (a : ExprTree) → bare_value (stored ty step a) ≡ stored ty step (bare_value a)
stored_bare (Int to) (Arithmetic op t) a = as_int_bare (Int t) to a
stored_bare (Int to) (Shift to_left) a = as_int_bare (Int (promoted to)) to a
stored_bare ty step a = refl

unit_bare : (ty : VarTy) → bare_value (unit_of ty) ≡ unit_of ty
unit_bare (Int t) = refl
unit_bare ty = refl

-- ---- values that are held

pub held_bare : (n : ℕ) (x : Temp) (v : Lowered) → bare_lowered (held n x v) ≡ held n (bare_temp x) (bare_lowered v)
held_bare n x v =
    let stmts = stmts_bare v.stmts (hold (past n v.temps) v.value ∷ []) ∙ (λ i. map bare_stmt v.stmts ++ hold (past_bare n v.temps i) (bare_value v.value) ∷ []) in
    λ i. record { stmts = stmts i; value = temp (past_bare n v.temps i); temps = temps_bare v.temps (x ∷ []) i }

pub held_if_bare : (b : Bool) (n : ℕ) (x : Temp) (v : Lowered) → bare_lowered (held_if b n x v) ≡ held_if b n (bare_temp x) (bare_lowered v)
held_if_bare true n x v = held_bare n x v
held_if_bare false n x v = refl

-- ---- places

pub behind_bare : (s : Span) (e : src.ExprTree) (v : Lowered) → bare_found (behind s e v) ≡ behind nowhere (bare e) (bare_lowered v)
behind_bare s e v = λ i. record {
  stmts = map bare_stmt v.stmts;
  place = place (deref (bare_value v.value) nowhere) [];
  ty = pointee_type (type_bare e i);
  fixed = points_to_const (Some (type_bare e i));
  through = Some (holding (type_bare e i) (bare e));
  temps = map bare_temp v.temps;
}

pub with_field_bare : (p : PlaceTree) (k : ℕ) → bare_target (place_with_field p k) ≡ place_with_field (bare_target p) k
with_field_bare (place root path) k = refl

pub field_bare : (c : Scope) (k : ℕ) (p : LoweredPlace) → bare_found (field_in c k p) ≡ field_in c k (bare_found p)
field_bare c k p = λ i. record (bare_found p) { place = with_field_bare p.place k i; ty = field_type c.structs p.ty k }

pub element_bare : (s : Span) (first index : src.ExprTree) (ty : VarTy) (base v : Lowered) → bare_found (element_place s first index ty base v) ≡ element_place nowhere (bare first) (bare index) ty (bare_lowered base) (bare_lowered v)
element_bare s first index ty base v =
    λ i. record (element_place nowhere (bare first) (bare index) ty (bare_lowered base) (bare_lowered v)) { stmts = stmts_bare base.stmts v.stmts i; temps = temps_bare base.temps v.temps i }

fixed_root_bare : (n : ℕ) (x : Temp) (p : LoweredPlace) (at : PlaceTree) → bare_found (fixed_root n x p at) ≡ fixed_root n (bare_temp x) (bare_found p) (bare_target at)
fixed_root_bare n x p (place (deref pointer s) path) =
    let k = past n p.temps in
    let stmts = stmts_bare p.stmts (hold k pointer ∷ check (place (deref (temp k) s) path) ∷ [])
    ∙ (λ i. map bare_stmt p.stmts ++ (hold (past_bare n p.temps i) (bare_value pointer) ∷ check (place (deref (temp (past_bare n p.temps i)) nowhere) path) ∷ [])) in
    λ i. record (bare_found p) { stmts = stmts i; place = place (deref (temp (past_bare n p.temps i)) nowhere) path; temps = temps_bare p.temps (x ∷ []) i }
fixed_root_bare n x p (place (local v) path) = refl
fixed_root_bare n x p (place (global g) path) = refl

fixed_through_bare : (n : ℕ) (o : Option Temp) (p : LoweredPlace) → bare_found (fixed_through n o p) ≡ fixed_through n (option_map bare_temp o) (bare_found p)
fixed_through_bare n None p = refl
fixed_through_bare n (Some x) p = fixed_root_bare n x p p.place

pub fixed_if_bare : (b : Bool) (n : ℕ) (p : LoweredPlace) → bare_found (fixed_if b n p) ≡ fixed_if b n (bare_found p)
fixed_if_bare true n p = fixed_through_bare n p.through p
fixed_if_bare false n p = refl

pub left_bare : (used : Bool) (a : src.ExprTree) (n : ℕ) (p : LoweredPlace) → bare_found (left_place used a n p) ≡ left_place used (bare a) n (bare_found p)
left_bare used a n p = fixed_if_bare (used || not (is_pure a)) n p ∙ (λ i. fixed_if (used || not (pure_bare a i)) n (bare_found p))

pub checked_bare : (p : LoweredPlace) → bare_effects (checked p) ≡ checked (bare_found p)
checked_bare p = λ i. record { stmts = stmts_bare p.stmts (check p.place ∷ []) i; temps = map bare_temp p.temps }

-- ---- chains

link_trees_bare : (ls : List LinkTree) → bare_links (link_trees ls) ≡ link_trees (map bare_link ls)
link_trees_bare [] = refl
link_trees_bare (link at ty op a ∷ ls) = ap (link_and (link nowhere ty op (bare a))) (link_trees_bare ls)

pub chain_bare : (first : src.ExprTree) (before : List LinkTree) (s : Span) (ty : VarTy) → bare (chain_so_far first before s ty) ≡ chain_so_far (bare first) (map bare_link before) nowhere ty
chain_bare first [] s ty = refl
chain_bare first (l ∷ ls) s ty = ap (λ (all : src.LinkTrees). typed nowhere (Some ty) (src.chain (bare first) all)) (link_trees_bare (l ∷ ls))

pub step_trees_bare : (steps : List StepTree) → bare_steps (step_trees steps) ≡ step_trees (map bare_step steps)
step_trees_bare [] = refl
step_trees_bare (src.field k ∷ rest) = ap (step_and (src.field k)) (step_trees_bare rest)
step_trees_bare (src.item a at ∷ rest) = ap (step_and (src.item (bare a) nowhere)) (step_trees_bare rest)

pub linked_bare : (ty : VarTy) (step : LinkStep) (s : Span) (far v : Lowered) → bare_lowered (linked ty step s far v) ≡ linked ty step nowhere (bare_lowered far) (bare_lowered v)
linked_bare ty step s far v = λ i. record { stmts = stmts_bare far.stmts v.stmts i; value = stepped_bare ty step far.value v.value s i; temps = temps_bare far.temps v.temps i }

-- ---- `&&`, `||` and `?:`

-- statements, and a truth that is held behind them
truth_held : (k : ℕ) (ty : VarTy) (s : Span) (v : Lowered) → map bare_stmt (v.stmts ++ hold k (truth_of ty v.value s) ∷ []) ≡ map bare_stmt v.stmts ++ hold k (truth_of ty (bare_value v.value) nowhere) ∷ []
truth_held k ty s v = stmts_bare v.stmts (hold k (truth_of ty v.value s) ∷ []) ∙ (λ i. map bare_stmt v.stmts ++ hold k (truth_bare ty v.value s i) ∷ [])

pub started_bare : (whole : src.ExprTree) (k : ℕ) (ty : VarTy) (s : Span) (v : Lowered) → bare_effects (started whole k ty s v) ≡ started (bare whole) k ty nowhere (bare_lowered v)
started_bare whole k ty s v = λ i. record { stmts = truth_held k ty s v i; temps = temps_bare v.temps (holding int whole ∷ []) i }

open_bare : (op : LogicalOp) (k : ℕ) (xs : List StmtTree) → bare_stmt (where_open op k xs) ≡ where_open op k (map bare_stmt xs)
open_bare And k xs = ap (λ (z : StmtTrees). choose (temp k) z no_stmts) (trees_bare xs)
open_bare Or k xs = ap (λ (z : StmtTrees). choose (temp k) no_stmts z) (trees_bare xs)

pub operand_bare : (op : LogicalOp) (k : ℕ) (ty : VarTy) (s : Span) (far : Effects) (v : Lowered) → bare_effects (with_operand op k ty s far v) ≡ with_operand op k ty nowhere (bare_effects far) (bare_lowered v)
operand_bare op k ty s far v =
    let inner = v.stmts ++ hold k (truth_of ty v.value s) ∷ [] in
    let branch = open_bare op k inner ∙ ap (where_open op k) (truth_held k ty s v) in
    let stmts = stmts_bare far.stmts (where_open op k inner ∷ []) ∙ (λ i. map bare_stmt far.stmts ++ branch i ∷ []) in
    λ i. record { stmts = stmts i; temps = temps_bare far.temps v.temps i }

pub arm_bare : (k : ℕ) (v : Lowered) → map bare_stmt (arm k v) ≡ arm k (bare_lowered v)
arm_bare k v = stmts_bare v.stmts (hold k v.value ∷ [])

pub chosen_bare : (test : Lowered) (own : List Temp) (xs : List StmtTree) (first : List Temp) (ys : List StmtTree) (second : List Temp) →
    bare_effects (chosen test own xs first ys second) ≡ chosen (bare_lowered test) (map bare_temp own) (map bare_stmt xs) (map bare_temp first) (map bare_stmt ys) (map bare_temp second)
chosen_bare test own xs first ys second =
    let stmts = stmts_bare test.stmts (choose test.value (stmt_trees xs) (stmt_trees ys) ∷ []) ∙ (λ i. map bare_stmt test.stmts ++ choose (bare_value test.value) (trees_bare xs i) (trees_bare ys i) ∷ []) in
    λ i. record { stmts = stmts i; temps = four_temps test.temps own first second i }

-- ---- assignments

pub copied_bare : (to other : LoweredPlace) → bare_found (copied to other) ≡ copied (bare_found to) (bare_found other)
copied_bare to other = λ i. record (bare_found to) { stmts = two_bare to.stmts other.stmts (copy to.place other.place) i; temps = temps_bare to.temps other.temps i }

pub given_bare : (to : LoweredPlace) (v : Lowered) → bare_found (given to v) ≡ given (bare_found to) (bare_lowered v)
given_bare to v = λ i. record (bare_found to) { stmts = two_bare to.stmts v.stmts (assign to.place v.value) i; temps = temps_bare to.temps v.temps i }

pub assigned_bare : (b : Bool) (to other : LoweredPlace) (v : Lowered) → bare_found (assigned b to other v) ≡ assigned b (bare_found to) (bare_found other) (bare_lowered v)
assigned_bare true to other v = copied_bare to other
assigned_bare false to other v = given_bare to v

pub compounded_bare : (s : Span) (step : LinkStep) (to : LoweredPlace) (v : Lowered) → bare_found (compounded s step to v) ≡ compounded nowhere step (bare_found to) (bare_lowered v)
compounded_bare s step to v =
    let sum = stepped to.ty step (read to.place) v.value s in
    let kept = stored_bare to.ty step sum ∙ ap (stored to.ty step) (stepped_bare to.ty step (read to.place) v.value s) in
    let stmts = two_bare to.stmts v.stmts (assign to.place (stored to.ty step sum)) ∙ (λ i. map bare_stmt to.stmts ++ map bare_stmt v.stmts ++ assign (bare_target to.place) (kept i) ∷ []) in
    λ i. record (bare_found to) { stmts = stmts i; temps = temps_bare to.temps v.temps i }

pub counted_bare : (s : Span) (back : Bool) (to : LoweredPlace) → bare_found (counted s back to) ≡ counted nowhere back (bare_found to)
counted_bare s back to = compounded_bare s (unit_step to.ty back) to (pure (unit_of to.ty)) ∙ (λ i. compounded nowhere (unit_step to.ty back) (bare_found to) (pure (unit_bare to.ty i)))

pub counted_after_bare : (s : Span) (back : Bool) (k : ℕ) (x : Temp) (to : LoweredPlace) → bare_lowered (counted_after s back k x to) ≡ counted_after nowhere back k (bare_temp x) (bare_found to)
counted_after_bare s back k x to =
    let old : LoweredPlace = record to { stmts = to.stmts ++ hold k (read to.place) ∷ []; temps = to.temps ++ x ∷ [] } in
    let same = counted_bare s back old
    ∙ (λ i. counted nowhere back (record (bare_found to) { stmts = stmts_bare to.stmts (hold k (read to.place) ∷ []) i; temps = temps_bare to.temps (x ∷ []) i })) in
    λ i. record { stmts = (same i).stmts; value = temp k; temps = (same i).temps }

-- ---- calls

pub argued_bare : (v : Lowered) (rest : Arguments) → bare_arguments (argued v rest) ≡ argued (bare_lowered v) (bare_arguments rest)
argued_bare v rest = λ i. record { stmts = stmts_bare v.stmts rest.stmts i; values = bare_value v.value ∷ map bare_value rest.values; temps = temps_bare v.temps rest.temps i }

pub call_bare : (f : ℕ) (s : Span) (result : Option ℕ) (own : List Temp) (a : Arguments) → bare_effects (call_effects f s result own a) ≡ call_effects f nowhere result (map bare_temp own) (bare_arguments a)
call_bare f s result own a =
    let stmts = stmts_bare a.stmts (call f (expr_trees a.values) result s ∷ []) ∙ (λ i. map bare_stmt a.stmts ++ call f (values_bare a.values i) result nowhere ∷ []) in
    λ i. record { stmts = stmts i; temps = temps_bare a.temps own i }

pub called_bare : (f : ℕ) (s : Span) (ty : Option VarTy) (e : src.ExprTree) (n : ℕ) (a : Arguments) → bare_lowered (called f s ty e n a) ≡ called f nowhere ty (bare e) n (bare_arguments a)
called_bare f s None e n a = λ i. valued (call_bare f s None [] a i) (bare_value (called f s None e n a).value)
called_bare f s (Some ty) e n a =
    let effects = call_bare f s (Some (past n a.temps)) (holding ty e ∷ []) a ∙ (λ i. call_effects f nowhere (Some (past_bare n a.temps i)) (holding ty (bare e) ∷ []) (bare_arguments a)) in
    λ i. valued (effects i) (temp (past_bare n a.temps i))
