-- The slots of an object are those from its start on.
use Rattle.std.proofs.Common.{◌≡◌, ◌∙◌, ◌<◌, ℕ, zero, suc, ◌+◌, refl, ap, sym, subst, arith, Some, List, [], ◌∷◌, ◌++◌, length, length-append, map, append_assoc, get_or}
use Rattle.std.specs.Prelude.{slice_get}
use Rattle.std.proofs.lemmas.List.{length-map}
use Rattle.typed_tree.specs.declared.types.VarTy.{VarTy}
use Rattle.typed_tree.specs.declared.types.StructInfo.{StructInfo}
use Rattle.typed_tree.specs.declared.variable.Var.{Var}
use Rattle.typed_tree.specs.declared.variable.TypedGlobal.{TypedGlobal}
use Rattle.typed_tree.specs.TypedTree.{FunctionTree, TypedTree}
use Rattle.sides.specs.declared.objects.Object.{Object}
use Rattle.sides.specs.declared.slots.Owner.{Owner}
use Rattle.sides.specs.declared.slots.Owner.TheVariants.{Variable, Global, Result}
use Rattle.sides.specs.declared.slots.SlotInfo.{SlotInfo}
use Rattle.sides.specs.Laws.{StandAt, ObjectsStand}
use Rattle.sides.specs.Layouts.{functions_objects}
use Rattle.sides.specs.Leaves.{Leaf, whole, leaves_of, leaf_count}
use Rattle.sides.specs.Objects.{types_count, objects_from, variable_types, functions_count, global_types}
use Rattle.sides.specs.Slots.{slot_of, globals_slots, variables_slots, functions_slots, results_slots, slots_of, no_slot}
use Rattle.sides.proofs.LayoutLemmas.{globals_long, variables_long, functions_long, variables_at}

-- ---- places in joined lists

at_right : (xs ys : List SlotInfo) (n j : ℕ) → n ≡ length xs → get_or (xs ++ ys) (n + j) no_slot ≡ get_or ys j no_slot
at_right [] ys n j e = ap (λ i. get_or ys i no_slot) (let k : n + j ≡ j = omega (arith, e) in k)
at_right (x ∷ xs) ys zero j e = absurd (omega (arith, e))
at_right (x ∷ xs) ys (suc n) j e =
    let k : suc n + j ≡ suc (n + j) = omega arith in
    ap (λ i. get_or (x ∷ (xs ++ ys)) i no_slot) k ∙ at_right xs ys n j (omega (arith, e))

at_left : (xs ys : List SlotInfo) (j : ℕ) → j < length xs → get_or (xs ++ ys) j no_slot ≡ get_or xs j no_slot
at_left [] ys j lt = absurd (omega arith)
at_left (x ∷ xs) ys zero lt = refl
at_left (x ∷ xs) ys (suc j) lt = at_left xs ys j (omega (arith, lt))

at_leaf : (owner : Owner) (ls : List Leaf) (j : ℕ) → j < length ls → get_or (map (slot_of owner) ls) j no_slot ≡ slot_of owner (get_or ls j whole)
at_leaf owner [] j lt = absurd (omega arith)
at_leaf owner (l ∷ ls) zero lt = refl
at_leaf owner (l ∷ ls) (suc j) lt = at_leaf owner ls j (omega (arith, lt))

regroup : (before xs ys after : List SlotInfo) → before ++ ((xs ++ ys) ++ after) ≡ (before ++ xs) ++ (ys ++ after)
regroup before xs ys after = ap (λ zs. before ++ zs) (append_assoc xs ys after) ∙ sym (append_assoc before xs (ys ++ after))

-- ---- objects one behind the other

-- the slots of objects of these types, of which the first has the number k
abbrev row : List StructInfo → (ℕ → Owner) → ℕ → List VarTy → List SlotInfo
row structs own k [] = []
row structs own k (ty ∷ tys) = map (slot_of (own k)) (leaves_of structs ty) ++ row structs own (suc k) tys

globals_row : (structs : List StructInfo) (k : ℕ) (gs : List TypedGlobal) → globals_slots structs k gs ≡ row structs (λ n. Global (record { 0 = n })) k (map (λ g. g.var.ty) gs)
globals_row structs k [] = refl
globals_row structs k (g ∷ gs) = ap (λ xs. map (slot_of (Global (record { 0 = k }))) (leaves_of structs g.var.ty) ++ xs) (globals_row structs (suc k) gs)

variables_row : (structs : List StructInfo) (f k : ℕ) (xs : List Var) → variables_slots structs f k xs ≡ row structs (λ n. Variable (record { 0 = f }) (record { 0 = n })) k (map (λ x. x.ty) xs)
variables_row structs f k [] = refl
variables_row structs f k (x ∷ xs) = ap (λ ys. map (slot_of (Variable (record { 0 = f }) (record { 0 = k }))) (leaves_of structs x.ty) ++ ys) (variables_row structs f (suc k) xs)

first_stands : (structs : List StructInfo) (owner : Owner) (ty : VarTy) (start : ℕ) (before rest after : List SlotInfo) → start ≡ length before →
    StandAt (before ++ ((map (slot_of owner) (leaves_of structs ty) ++ rest) ++ after)) owner (leaves_of structs ty) start
first_stands structs owner ty start before rest after e j lt =
    let long = length-map (leaves_of structs ty) (slot_of owner) in
    let more = length-append (map (slot_of owner) (leaves_of structs ty)) rest in
    at_right before ((map (slot_of owner) (leaves_of structs ty) ++ rest) ++ after) start j e
    ∙ at_left (map (slot_of owner) (leaves_of structs ty) ++ rest) after j (omega (arith, long, more, lt))
    ∙ at_left (map (slot_of owner) (leaves_of structs ty)) rest j (omega (arith, long, lt))
    ∙ at_leaf owner (leaves_of structs ty) j lt

row_stands : (structs : List StructInfo) (own : ℕ → Owner) (k start : ℕ) (tys : List VarTy) (v : ℕ) (x : Object) (before after : List SlotInfo) → start ≡ length before → slice_get (objects_from (leaf_count structs) start tys) v ≡ Some x →
    StandAt (before ++ (row structs own k tys ++ after)) (own (k + v)) (leaves_of structs x.ty) x.start
row_stands structs own k start [] v x before after e h = cc
row_stands structs own k start (ty ∷ tys) zero x before after e h =
    let is : record { ty = ty; start = start } ≡ x = cc in
    let n : k + 0 ≡ k = omega arith in
    subst (λ (z : Object). StandAt (before ++ (row structs own k (ty ∷ tys) ++ after)) (own (k + 0)) (leaves_of structs z.ty) z.start) is
    (subst (λ (i : ℕ). StandAt (before ++ (row structs own k (ty ∷ tys) ++ after)) (own i) (leaves_of structs ty) start) (sym n) (first_stands structs (own k) ty start before (row structs own (suc k) tys) after e))
row_stands structs own k start (ty ∷ tys) (suc v) x before after e h =
    let long = length-map (leaves_of structs ty) (slot_of (own k)) in
    let more = length-append before (map (slot_of (own k)) (leaves_of structs ty)) in
    let n : suc k + v ≡ k + suc v = omega arith in
    subst (λ (ss : List SlotInfo). StandAt ss (own (k + suc v)) (leaves_of structs x.ty) x.start) (sym (regroup before (map (slot_of (own k)) (leaves_of structs ty)) (row structs own (suc k) tys) after))
    (subst (λ (i : ℕ). StandAt ((before ++ map (slot_of (own k)) (leaves_of structs ty)) ++ (row structs own (suc k) tys ++ after)) (own i) (leaves_of structs x.ty) x.start) n
    (row_stands structs own (suc k) (start + leaf_count structs ty) tys v x (before ++ map (slot_of (own k)) (leaves_of structs ty)) after (omega (arith, e, long, more)) h))

function_stands : (structs : List StructInfo) (k start : ℕ) (fs : List FunctionTree) (f v : ℕ) (x : Object) (before after : List SlotInfo) → start ≡ length before →
    slice_get (get_or (functions_objects (leaf_count structs) start fs) f []) v ≡ Some x →
    StandAt (before ++ (functions_slots structs k fs ++ after)) (Variable (record { 0 = k + f }) (record { 0 = v })) (leaves_of structs x.ty) x.start
function_stands structs k start [] f v x before after e h = cc
function_stands structs k start (g ∷ gs) zero v x before after e h =
    let n : k + 0 ≡ k = omega arith in
    let i0 : 0 + v ≡ v = omega arith in
    subst (λ (ss : List SlotInfo). StandAt ss (Variable (record { 0 = k + 0 }) (record { 0 = v })) (leaves_of structs x.ty) x.start)
    (ap (λ zs. before ++ zs) (ap (λ ys. ys ++ (functions_slots structs (suc k) gs ++ after)) (sym (variables_row structs k 0 g.vars)) ∙ sym (append_assoc (variables_slots structs k 0 g.vars) (functions_slots structs (suc k) gs) after)))
    (subst (λ (i : ℕ). StandAt (before ++ (row structs (λ m. Variable (record { 0 = k }) (record { 0 = m })) 0 (variable_types g) ++ (functions_slots structs (suc k) gs ++ after))) (Variable (record { 0 = i }) (record { 0 = v })) (leaves_of structs x.ty) x.start) (sym n)
    (subst (λ (i : ℕ). StandAt (before ++ (row structs (λ m. Variable (record { 0 = k }) (record { 0 = m })) 0 (variable_types g) ++ (functions_slots structs (suc k) gs ++ after))) (Variable (record { 0 = k }) (record { 0 = i })) (leaves_of structs x.ty) x.start) i0
    (row_stands structs (λ m. Variable (record { 0 = k }) (record { 0 = m })) 0 start (variable_types g) v x before (functions_slots structs (suc k) gs ++ after) e h)))
function_stands structs k start (g ∷ gs) (suc f) v x before after e h =
    let long = variables_long structs k 0 g.vars in
    let more = length-append before (variables_slots structs k 0 g.vars) in
    let n : suc k + f ≡ k + suc f = omega arith in
    subst (λ (ss : List SlotInfo). StandAt ss (Variable (record { 0 = k + suc f }) (record { 0 = v })) (leaves_of structs x.ty) x.start) (sym (regroup before (variables_slots structs k 0 g.vars) (functions_slots structs (suc k) gs) after))
    (subst (λ (i : ℕ). StandAt ((before ++ variables_slots structs k 0 g.vars) ++ (functions_slots structs (suc k) gs ++ after)) (Variable (record { 0 = i }) (record { 0 = v })) (leaves_of structs x.ty) x.start) n
    (function_stands structs (suc k) (start + types_count (leaf_count structs) (variable_types g)) gs f v x (before ++ variables_slots structs k 0 g.vars) after (omega (arith, e, long, more)) h))

result_stands : (k : ℕ) (fs : List FunctionTree) (f : ℕ) → f < length fs → get_or (results_slots k fs) f no_slot ≡ slot_of (Result (record { 0 = k + f })) whole
result_stands k [] f lt = absurd (omega arith)
result_stands k (g ∷ gs) zero lt = ap (λ i. slot_of (Result (record { 0 = i })) whole) (let n : k ≡ k + 0 = omega arith in n)
result_stands k (g ∷ gs) (suc f) lt = result_stands (suc k) gs f (omega (arith, lt)) ∙ ap (λ i. slot_of (Result (record { 0 = i })) whole) (let n : suc k + f ≡ k + suc f = omega arith in n)

-- ---- the slots of a program

pub objects_stand : (t : TypedTree) → ObjectsStand t
unfolding slots_of
objects_stand t = record {
  globals = λ g x h.
      let n : 0 + g ≡ g = omega arith in
      subst (λ (i : ℕ). StandAt (globals_slots t.structs 0 t.globals ++ (functions_slots t.structs 0 t.functions ++ results_slots 0 t.functions)) (Global (record { 0 = i })) (leaves_of t.structs x.ty) x.start) n
      (subst (λ (xs : List SlotInfo). StandAt (xs ++ (functions_slots t.structs 0 t.functions ++ results_slots 0 t.functions)) (Global (record { 0 = 0 + g })) (leaves_of t.structs x.ty) x.start) (sym (globals_row t.structs 0 t.globals))
      (row_stands t.structs (λ m. Global (record { 0 = m })) 0 0 (global_types t) g x [] (functions_slots t.structs 0 t.functions ++ results_slots 0 t.functions) refl h));
  variables = λ f v x h.
      let n : 0 + f ≡ f = omega arith in
      subst (λ (i : ℕ). StandAt (globals_slots t.structs 0 t.globals ++ (functions_slots t.structs 0 t.functions ++ results_slots 0 t.functions)) (Variable (record { 0 = i }) (record { 0 = v })) (leaves_of t.structs x.ty) x.start) n
      (function_stands t.structs 0 (types_count (leaf_count t.structs) (global_types t)) t.functions f v x (globals_slots t.structs 0 t.globals) (results_slots 0 t.functions) (sym (globals_long t.structs 0 t.globals))
      (ap (λ os. slice_get os v) (variables_at t f) ∙ h));
  results = λ f lt.
      let n : (types_count (leaf_count t.structs) (global_types t) + functions_count (leaf_count t.structs) t.functions) + f ≡ types_count (leaf_count t.structs) (global_types t) + (functions_count (leaf_count t.structs) t.functions + f) = omega arith in
      let m : 0 + f ≡ f = omega arith in
      ap (λ i. get_or (globals_slots t.structs 0 t.globals ++ (functions_slots t.structs 0 t.functions ++ results_slots 0 t.functions)) i no_slot) n
      ∙ at_right (globals_slots t.structs 0 t.globals) (functions_slots t.structs 0 t.functions ++ results_slots 0 t.functions) (types_count (leaf_count t.structs) (global_types t)) (functions_count (leaf_count t.structs) t.functions + f) (sym (globals_long t.structs 0 t.globals))
      ∙ at_right (functions_slots t.structs 0 t.functions) (results_slots 0 t.functions) (functions_count (leaf_count t.structs) t.functions) f (sym (functions_long t.structs 0 t.functions))
      ∙ result_stands 0 t.functions f lt
      ∙ ap (λ i. slot_of (Result (record { 0 = i })) whole) m;
}
