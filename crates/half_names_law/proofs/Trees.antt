-- The typed tree that the judgments make of a half has the half's functions at their places.
use Rattle.std.proofs.Common.{◌≡◌, ◌++◌, ◌∙◌, ◌<◌, ◌+◌, sym, ap, refl, subst, ℕ, zero, suc, Bool, true, false, List, [], ◌∷◌, length, map, take, drop, Option, Some, None, arith, length-append}
use Rattle.std.specs.Prelude.{◌&&◌, not, slice_get, slice_set, get_or, nat_le, if◌then◌else◌}
use Rattle.std.specs.Option.{option_map_or}
use Rattle.std.proofs.lemmas.List.{append_assoc, map-append, take-append-drop}
use Rattle.pt_base.specs.declared.int_type.IntType.{IntType}
use Rattle.pt_base.proofs.Booleans.{and_parts}
use Rattle.pt_base.proofs.Places.{get_mapped}
use Rattle.pt_tree.specs.declared.signature.Param.{Param}
use Rattle.pt_tree.specs.declared.signature.ParamKind.{ParamKind}
use Rattle.pt_tree.specs.declared.signature.ParamKind.TheVariants as k
use Rattle.pt_tree.specs.declared.signature.Signature.{Signature}
use Rattle.typed_tree.specs.declared.types.Field.{Field}
use Rattle.typed_tree.specs.declared.types.StructInfo.{StructInfo}
use Rattle.typed_tree.specs.declared.variable.Var.{Var}
use Rattle.typed_tree.specs.ExpressionTree.{ExprTree}
use Rattle.typed_tree.specs.StatementTree.{BodyTree, block, body_trees}
use Rattle.typed_tree.specs.TypedTree as t
use Rattle.typed_tree.specs.WellFormed.{are_rising}
use Rattle.typed_tree.specs.WellFormedExpression.{param_type}
use Rattle.check_declarations.specs.declared.marks.Marks as m
use Rattle.check_declarations.specs.Structs.{Structs}
use Rattle.check_expressions.specs.declared.meaning.Variable.{Variable}
use Rattle.check_expressions.specs.StructInfos.{object_type_of, field_info, infos_of}
use Rattle.check_programs.specs.Functions as fn
use Rattle.check_programs.specs.Functions.{with_parts, with_body, kind_of, params_of, signature_of}
use Rattle.check_programs.specs.Programs.{checked_items, tree_of}
use Rattle.check_programs.specs.Progress.{at_start, result_type_of}
use Rattle.source_meaning.specs.Statements.{no_expr}
use Rattle.pt_core.specs.CodeTree.{FunctionTree, ProgramTree}
use Rattle.pt_core.specs.WellFormed.{is_sound, signature_at, with_own}
use Rattle.half_trees.specs.Names.{nowhere}
use Rattle.half_trees.specs.Functions.{function_item}
use Rattle.half_trees.specs.Halves.{half_tree}
use Rattle.half_meaning_law.specs.Known.{type_as, result_as}
use Rattle.half_meaning_law.specs.Statements.{BodiesKeepTheirMeaning, ListedFrom}
use Rattle.half_names_law.specs.Declarable.{Declarable}
use Rattle.half_names_law.specs.Standing.{Marks, own_marks, whole_marks, before, locals_at, all_said}
use Rattle.half_names_law.specs.Laws.{statements_checked, judged_tree, field_types, BodyStands, HalfBodiesStand}
use Rattle.half_names_law.proofs.Tables.{listed}
use Rattle.half_names_law.proofs.Objects.{object_type_is}
use Rattle.half_names_law.proofs.Numbers.{lookup_place, number_at, once_there}
use Rattle.half_names_law.proofs.Structs.{entry_of}
use Rattle.half_names_law.proofs.Integers.{SameFields, same_fields}
use Rattle.half_names_law.proofs.Prototypes.{Rest, at, marked_param}
use Rattle.half_names_law.proofs.Locals.{declaration_trees}
use Rattle.half_names_law.proofs.Walk.{items_joined}
use Rattle.half_names_law.proofs.Names.{own, text_name, half_env}
use Rattle.half_names_law.proofs.Premises.{MarksSay}
use Rattle.half_names_law.proofs.Bodies.{FunctionFits, HalfFits}
use Rattle.half_names_law.proofs.Functions.{Fresh, NotAmong, types_of, same_first, with_function, variables_at, checked_statements, function_added, functions_added, still_fresh}
use Rattle.half_names_law.proofs.Halves.{soundness, half_structs, half_fits, function_fit, functions_fit}
use Rattle.half_names_law.proofs.Marks.{whole_say, own_say}
use Rattle.half_names_law.proofs.Law.{declared_half, passes_before, locals_there, functions_differ}

-- ---- lists

pub split_at : {A : Type 0} (n : ℕ) (xs : List A) (x : A) → slice_get xs n ≡ Some x → drop n xs ≡ x ∷ drop (suc n) xs
split_at n [] x h = cc
split_at zero (y ∷ ys) x h = ap (λ z. z ∷ ys) (same h)
  where
    same : Some y ≡ Some x → y ≡ x
    same e = cc
split_at (suc n) (y ∷ ys) x h = split_at n ys x h

take_there : {A : Type 0} (n j : ℕ) (xs : List A) (x : A) → slice_get (take n xs) j ≡ Some x → (slice_get xs j ≡ Some x) × (j < n)
take_there zero j xs x h = cc
take_there (suc n) j [] x h = cc
take_there (suc n) zero (y ∷ ys) x h = (h, omega arith)
take_there (suc n) (suc j) (y ∷ ys) x h = let again = take_there n j ys x h in let low = again.1 in (again.0, omega (arith, low))

drop_there : {A : Type 0} (n j : ℕ) (xs : List A) (x : A) → slice_get (drop n xs) j ≡ Some x → slice_get xs (n + j) ≡ Some x
drop_there zero j xs x h = ap (slice_get xs) (omega arith) ∙ h
drop_there (suc n) j [] x h = cc
drop_there (suc n) j (y ∷ ys) x h = let same : suc n + j ≡ suc (n + j) = omega arith in ap (slice_get (y ∷ ys)) same ∙ drop_there n j ys x h

set_same : (fs : List t.FunctionTree) (k : ℕ) (f x : t.FunctionTree) → slice_get fs k ≡ Some f → slice_get (slice_set fs k x) k ≡ Some x
set_same [] k f x h = cc
set_same (g ∷ gs) zero f x h = refl
set_same (g ∷ gs) (suc k) f x h = set_same gs k f x h

got_at : (xs : List ExprTree) (y : ExprTree) (ys : List ExprTree) → get_or (xs ++ y ∷ ys) (length xs) no_expr ≡ y
got_at [] y ys = refl
got_at (x ∷ xs) y ys = got_at xs y ys

listed_from : (all xs ys zs : List ExprTree) (n : ℕ) → all ≡ xs ++ (ys ++ zs) → n ≡ length xs → ListedFrom all n ys
listed_from all xs [] zs n is at = tt {0}
listed_from all xs (y ∷ ys) zs n is at = (
  (λ i. get_or (is i) (at i) no_expr) ∙ got_at xs y (ys ++ zs),
  listed_from all (xs ++ y ∷ []) ys zs (n + 1) (is ∙ sym (append_assoc xs (y ∷ []) (ys ++ zs))) (one_more xs at),
)
  where
    one_more : (xs : List ExprTree) → n ≡ length xs → n + 1 ≡ length (xs ++ y ∷ [])
    one_more xs h = let long = length-append xs (y ∷ []) in omega (arith, h, long)

-- ---- what an entry says

pub kind_is : (x : ParamKind) → kind_of (type_as (param_type x)) ≡ x
kind_is (k.Int t) = refl
kind_is (k.Ptr el fixed) = refl

kinds_are : (ms : List m.Marks) (n : ℕ) (ps : List Param) → map (λ x. x.kind) (params_of ms n (map (λ q. type_as q.ty) (map marked_param ps))) ≡ map (λ x. x.kind) ps
kinds_are ms n [] = refl
kinds_are ms n (p ∷ ps) = λ i. kind_is p.kind i ∷ kinds_are ms (n + 1) ps i

result_is : (o : Option IntType) → result_type_of (result_as o) ≡ o
result_is None = refl
result_is (Some t) = refl

pub own_result : (monitor : Bool) (f : FunctionTree) (s : Signature) → (with_own monitor (Some f) s).result ≡ s.result
own_result monitor f s = go (monitor && not s.host)
  where
    go : (b : Bool) → (if b then record s { params = take f.params s.params } else s).result ≡ s.result
    go true = refl
    go false = refl

var_types : (ys : List Variable) (xs : List Var) → map (λ v. v.ty) ys ≡ map (λ x. type_as x.ty) xs → map (λ x. x.ty) (map fn.var_of ys) ≡ map (λ x. x.ty) xs
var_types ys xs h = fused ys ∙ ap (map object_type_of) h ∙ back xs
  where
    fused : (ys : List Variable) → map (λ x. x.ty) (map fn.var_of ys) ≡ map object_type_of (map (λ v. v.ty) ys)
    fused [] = refl
    fused (y ∷ ys) = ap (λ ts. object_type_of y.ty ∷ ts) (fused ys)

    back : (xs : List Var) → map object_type_of (map (λ x. type_as x.ty) xs) ≡ map (λ x. x.ty) xs
    back [] = refl
    back (x ∷ xs) = λ i. object_type_is x.ty i ∷ back xs i

-- ---- the structs

types_in : (all : List Field) (n : ℕ) (fs : List Field) → map (λ f. f.ty) (map field_info (listed (entry_of all) n fs)) ≡ map (λ f. f.ty) fs
types_in all n [] = refl
types_in all n (f ∷ fs) = λ i. object_type_is f.ty i ∷ types_in all (suc n) fs i

structs_same : (xs : Structs) (ss : List StructInfo) → SameFields xs ss → field_types (infos_of xs) ≡ field_types ss
structs_same [] [] h = refl
structs_same [] (s ∷ ss) h = absurd h
structs_same (x ∷ xs) [] h = absurd h
structs_same (x ∷ xs) (s ∷ ss) h = λ i. (ap (λ fs. map (λ (f : Field). f.ty) (map field_info fs)) h.0 ∙ types_in s.fields 0 s.fields) i ∷ structs_same xs ss h.1 i

-- ---- other functions have other places

pub other_before : (p : ProgramTree) (n k : ℕ) (f : FunctionTree) (s : Signature) → are_rising 0 (map (λ g. g.id) p.functions) ≡ true → slice_get p.functions n ≡ Some f → slice_get p.signatures k ≡ Some (f.id, s) → NotAmong p (take n p.functions) k
other_before p n k f s rise there place j g t at named =
    let before = take_there n j p.functions g at in
    let low = before.1 in
    let same : g.id ≡ f.id = same_first (g.id, t) (f.id, s) (sym named ∙ place) in
    let equal = once_there 0 (map (λ x. x.id) p.functions) j n f.id rise (get_mapped (λ x. x.id) p.functions j g before.0 ∙ ap Some same) (get_mapped (λ x. x.id) p.functions n f there) in omega (arith, low, equal)

other_behind : (p : ProgramTree) (n k : ℕ) (f : FunctionTree) (s : Signature) → are_rising 0 (map (λ g. g.id) p.functions) ≡ true → slice_get p.functions n ≡ Some f → slice_get p.signatures k ≡ Some (f.id, s) → NotAmong p (drop (suc n) p.functions) k
other_behind p n k f s rise there place j g t at named =
    let behind = drop_there (suc n) j p.functions g at in
    let same : g.id ≡ f.id = same_first (g.id, t) (f.id, s) (sym named ∙ place) in
    let equal = once_there 0 (map (λ x. x.id) p.functions) (suc n + j) n f.id rise (get_mapped (λ x. x.id) p.functions (suc n + j) g behind ∙ ap Some same) (get_mapped (λ x. x.id) p.functions n f there) in omega (arith, equal)

rising_behind : (n first : ℕ) (fs : List FunctionTree) → are_rising first (map (λ g. g.id) fs) ≡ true → (m : ℕ) × (are_rising m (map (λ g. g.id) (drop n fs)) ≡ true)
rising_behind zero first fs h = (first, h)
rising_behind (suc n) first [] h = (first, h)
rising_behind (suc n) first (f ∷ fs) h = rising_behind n (suc f.id) fs (and_parts (nat_le first f.id) (are_rising (suc f.id) (map (λ g. g.id) fs)) h).1

-- ---- the walk behind a function

-- where the whole walk ends, and what it keeps of this function
pub record Ends (marks : Marks) (monitor : Bool) (p : ProgramTree) (n : ℕ) (f : FunctionTree) (s : Signature) (k : ℕ) (r : Rest) : Type 0 where
  pub last : Rest
  pub is : (checked_items marks at_start (half_tree monitor p)).progress ≡ at (half_env monitor p) (half_structs p) last
  pub kept : slice_get last.functions k ≡ slice_get (with_function marks monitor p (half_structs p) r f s k).functions k
  pub globals : last.globals ≡ r.globals
  pub more : List ExprTree
  pub grown : last.exprs ≡ (with_function marks monitor p (half_structs p) r f s k).exprs ++ more

-- the walk over all functions, in three parts
walk_parts : (bodies : BodiesKeepTheirMeaning) (marks : Marks) (monitor : Bool) (p : ProgramTree) (n : ℕ) (f : FunctionTree) (s : Signature) (k : ℕ) (start r : Rest) → HalfFits monitor p (half_structs p) → FunctionFits marks monitor p (half_structs p) f s
    → slice_get p.functions n ≡ Some f → slice_get p.signatures k ≡ Some (f.id, s) → Fresh p r (f ∷ drop (suc n) p.functions)
    → (checked_items marks (at (half_env monitor p) (half_structs p) start) (map (function_item p) (take n p.functions))).progress ≡ at (half_env monitor p) (half_structs p) r
    → (checked_items marks (at (half_env monitor p) (half_structs p) start) (map (function_item p) p.functions)).progress
    ≡ (checked_items marks (at (half_env monitor p) (half_structs p) (with_function marks monitor p (half_structs p) r f s k)) (map (function_item p) (drop (suc n) p.functions))).progress
walk_parts bodies marks monitor p n f s k start r half fits there place fresh first =
    let st = at (half_env monitor p) (half_structs p) start in
    let later = drop (suc n) p.functions in
    let whole : p.functions ≡ take n p.functions ++ f ∷ later = sym (take-append-drop n p.functions) ∙ ap (λ fs. take n p.functions ++ fs) (split_at n p.functions f there) in
    ap (λ fs. (checked_items marks st (map (function_item p) fs)).progress) whole
    ∙ ap (λ items. (checked_items marks st items).progress) (map-append (function_item p) (take n p.functions) (f ∷ later))
    ∙ ap (λ c. c.progress) (items_joined marks (map (function_item p) (take n p.functions)) (map (function_item p) (f ∷ later)) st)
    ∙ ap (λ now. (checked_items marks now (map (function_item p) (f ∷ later))).progress) first
    ∙ ap (λ c. (checked_items marks c.progress (map (function_item p) later)).progress) (function_added bodies marks monitor p (half_structs p) r n f s k half fits there place (fresh 0 f k s refl place))

pub ends : (bodies : BodiesKeepTheirMeaning) (marks : Marks) (monitor : Bool) (p : ProgramTree) (n : ℕ) (f : FunctionTree) (s : Signature) (k : ℕ) (r : Rest) (h : is_sound monitor p ≡ true) (d : Declarable p) → all_said monitor p ≡ true → (say : MarksSay marks p) → FunctionFits marks monitor p (half_structs p) f s
    → slice_get p.functions n ≡ Some f → slice_get p.signatures k ≡ Some (f.id, s) → Fresh p r (drop n p.functions)
    → (before marks monitor p n).progress ≡ at (half_env monitor p) (half_structs p) r → Ends marks monitor p n f s k r
ends bodies marks monitor p n f s k r h d said say fits there place fresh first =
    let sound = soundness monitor p h in
    let half = half_fits monitor p h d in
    let declared = declared_half marks monitor p h d say in
    let later = drop (suc n) p.functions in
    let split = split_at n p.functions f there in
    let fresh' = subst (Fresh p r) split fresh in
    let rise = rising_behind n 0 p.functions sound.order.1 in
    let rise' : are_rising rise.0 (map (λ g. g.id) (f ∷ later)) ≡ true = subst (λ fs. are_rising rise.0 (map (λ g. g.id) fs) ≡ true) split rise.1 in
    let rest = functions_added bodies marks monitor p (half_structs p) (with_function marks monitor p (half_structs p) r f s k) (suc f.id) (suc n) later [] half (functions_fit marks monitor p h d said say)
    (λ j g e. drop_there (suc n) j p.functions g (sym (ap (λ fs. slice_get fs j) (nothing_more later)) ∙ e))
    (subst (λ fs. are_rising (suc f.id) (map (λ g. g.id) fs) ≡ true) (sym (nothing_more later)) (and_parts (nat_le rise.0 f.id) (are_rising (suc f.id) (map (λ g. g.id) later)) rise').1)
    (subst (Fresh p (with_function marks monitor p (half_structs p) r f s k)) (sym (nothing_more later)) (still_fresh marks monitor p (half_structs p) r f later s k rise.0 rise' place fresh')) in
    record {
      last = rest.rest;
      is =
          ap (λ c. c.progress) (declared.walk (map (function_item p) p.functions))
          ∙ walk_parts bodies marks monitor p n f s k declared.rest r half fits there place fresh' (sym (ap (λ c. c.progress) (declared.walk (map (function_item p) (take n p.functions)))) ∙ first)
          ∙ rest.is;
      kept = rest.holds.kept k (other_behind p n k f s sound.order.1 there place);
      globals = rest.holds.globals;
      more = rest.holds.more;
      grown = rest.holds.grown;
    }
  where
    nothing_more : {A : Type 0} (xs : List A) → xs ++ [] ≡ xs
    nothing_more [] = refl
    nothing_more (x ∷ xs) = ap (λ ys. x ∷ ys) (nothing_more xs)

-- ---- the function in the tree

pub entry_with : (fs : List t.FunctionTree) (k : ℕ) (g : t.FunctionTree) (vars : List Var) (b : BodyTree) → slice_get fs k ≡ Some g → slice_get (with_body fs k nowhere vars b) k ≡ Some (with_parts g nowhere vars b)
entry_with fs k g vars b there = ap (λ o. slice_get (option_map_or (λ f. slice_set fs k (with_parts f nowhere vars b)) o fs) k) there ∙ set_same fs k g (with_parts g nowhere vars b) there

body_stands : (bodies : BodiesKeepTheirMeaning) (marks : Marks) (monitor : Bool) (p : ProgramTree) (n : ℕ) (f : FunctionTree) (s : Signature) → is_sound monitor p ≡ true → Declarable p → all_said monitor p ≡ true → MarksSay marks p
    → slice_get p.functions n ≡ Some f → signature_at p f.id ≡ Some s → BodyStands marks monitor p n f s
body_stands bodies marks monitor p n f s h d said say there named =
    let sound = soundness monitor p h in
    let half = half_fits monitor p h d in
    let fits = function_fit marks monitor p n f s h d said say there named in
    let place = lookup_place p.signatures f.id s named in
    let k = place.place in
    let passes = passes_before bodies marks monitor p n h d said say in
    let r = passes.rest in
    let end = ends bodies marks monitor p n f s k r h d said say fits there place.there passes.holds.fresh passes.is in
    let declared = declared_half marks monitor p h d say in
    let entry = declared.entries k (f.id, s) place.there in
    let locals = ap (λ st. locals_at marks st p f) passes.is ∙ locals_there marks monitor p f s r k half fits place.there in
    let all = checked_statements marks monitor p (half_structs p) (length r.exprs) f s in
    let vars = map fn.var_of (variables_at marks f s) in
    let b = block nowhere (body_trees (declaration_trees f.params (drop f.params f.vars) ++ all.bodies)) in
    record {
      structs = ap (λ st. field_types (tree_of st).structs) end.is ∙ structs_same (half_structs p) p.structs (same_fields (half_structs p) p.structs half.table.long (λ j x e. (half.table.entries j x e).fields));
      globals = ap (λ st. map (λ g. g.var.ty) (tree_of st).globals) end.is ∙ ap (map (λ g. g.var.ty)) (end.globals ∙ passes.holds.globals) ∙ declared.globals;
      cells = ap (λ st. map (λ g. g.cells) (tree_of st).globals) end.is ∙ ap (map (λ g. g.cells)) (end.globals ∙ passes.holds.globals) ∙ declared.cells;
      place = k;
      number = number_at 0 (map (λ x. x.0) p.signatures) k f.id (get_mapped (λ x. x.0) p.signatures k (f.id, s) place.there);
      entry = with_parts entry.entry nowhere vars b;
      there = ap (λ st. slice_get (tree_of st).functions k) end.is ∙ end.kept ∙ entry_with r.functions k entry.entry vars b (passes.holds.kept k (other_before p n k f s sound.order.1 there place.there) ∙ entry.there);
      result = ap (λ g. g.result) entry.signature ∙ result_is (own monitor p (f.id, s)).result ∙ ap (λ o. (with_own monitor o s).result) fits.found ∙ own_result monitor f s;
      params = ap (λ g. map (λ x. x.kind) g.params) entry.signature ∙ kinds_are (marks (text_name (f.id, s))).params 0 (own monitor p (f.id, s)).params ∙ ap (λ o. map (λ x. x.kind) (with_own monitor o s).params) fits.found;
      vars = var_types (variables_at marks f s) f.vars (types_of (marks (text_name (f.id, s))) f);
      body = ap (λ l. Some (block nowhere (body_trees (l.bodies ++ (statements_checked p f s l.state).bodies)))) (sym locals);
      exprs = subst (λ l. ListedFrom (judged_tree marks monitor p).exprs l.state.next (statements_checked p f s l.state).trees) (sym locals)
          (listed_from (judged_tree marks monitor p).exprs r.exprs all.trees end.more (length r.exprs) (ap (λ st. (tree_of st).exprs) end.is ∙ end.grown ∙ append_assoc r.exprs all.trees end.more) refl);
    }

pub bodies_stand : BodiesKeepTheirMeaning → HalfBodiesStand
bodies_stand bodies monitor p n f s h d said there named =
    let sound = soundness monitor p h in
    let apart = functions_differ monitor p h d in (
      body_stands bodies (whole_marks monitor p) monitor p n f s h d said (whole_say monitor p sound apart) there named,
      λ plain. body_stands bodies (own_marks monitor p) monitor p n f s h d said (own_say monitor p sound apart plain) there named,
    )
