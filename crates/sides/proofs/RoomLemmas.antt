-- Slots, counted before they are made.
use Rattle.std.proofs.Common.{◌≡◌, ◌∙◌, ◌≤◌, ◌^◌, ℕ, suc, ◌+◌, ap, sym, subst, arith, List, [], ◌∷◌, ◌++◌, length, length-append, map, refl}
use Rattle.typed_tree.specs.declared.types.VarTy.{VarTy}
use Rattle.typed_tree.specs.TypedTree.{FunctionTree, TypedTree}
use Rattle.sides.specs.declared.slots.SlotInfo.{SlotInfo}
use Rattle.sides.specs.Leaves.{leaf_count}
use Rattle.sides.specs.Objects.{functions_count, global_types, result_start, slot_count, types_count, variable_types}
use Rattle.sides.specs.Slots.{functions_slots, globals_slots, results_slots, slots_of}
use Rattle.sides.proofs.LayoutLemmas.{functions_long, globals_long}

-- one more object
pub count_on : (count : VarTy → ℕ) (tys rest : List VarTy) (ty : VarTy) (n n' own total : ℕ) → tys ≡ ty ∷ rest → own ≡ count ty → n' ≡ n + own → n + types_count count tys ≡ total → n' + types_count count rest ≡ total
count_on count tys rest ty n n' own total split is more e =
    let here : n + types_count count tys ≡ n + (count ty + types_count count rest) = ap (λ xs. n + types_count count xs) split in
    omega (arith, here, is, more, e)

-- the variables of one more function
pub function_count_on : (count : VarTy → ℕ) (fs rest : List FunctionTree) (f : FunctionTree) (n n' own total : ℕ) → fs ≡ f ∷ rest → own ≡ types_count count (variable_types f) → n' ≡ n + own → n + functions_count count fs ≡ total → n' + functions_count count rest ≡ total
function_count_on count fs rest f n n' own total split is more e =
    let here : n + functions_count count fs ≡ n + (types_count count (variable_types f) + functions_count count rest) = ap (λ xs. n + functions_count count xs) split in
    omega (arith, here, is, more, e)

pub results_long : (k : ℕ) (fs : List FunctionTree) → length (results_slots k fs) ≡ length fs
results_long k [] = refl
results_long k (f ∷ fs) = ap suc (results_long (suc k) fs)

-- there are as many as were counted
pub slots_long : (t : TypedTree) → length (slots_of t) ≡ slot_count t
unfolding slots_of
slots_long t =
    let all = length-append (globals_slots t.structs 0 t.globals) (functions_slots t.structs 0 t.functions ++ results_slots 0 t.functions) in
    let others = length-append (functions_slots t.structs 0 t.functions) (results_slots 0 t.functions) in
    let globals = globals_long t.structs 0 t.globals in
    let functions = functions_long t.structs 0 t.functions in
    let results = results_long 0 t.functions in
    omega (arith, all, others, globals, functions, results)

pub slots_few : (t : TypedTree) (slots : List SlotInfo) → slots ≡ slots_of t → slot_count t ≤ 2 ^ 25 → length slots ≤ 2 ^ 25
slots_few t slots are few = let long : length slots ≡ slot_count t = ap length are ∙ slots_long t in subst (λ n. n ≤ 2 ^ 25) (sym long) few
