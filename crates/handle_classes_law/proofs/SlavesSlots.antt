-- The objects of a program, and that their slots are among the program's.
use Rattle.std.proofs.Common.{◌≡◌, ◌≤◌, ◌<◌, ℕ, zero, suc, ◌+◌, refl, ap, subst, arith, Option, None, Some, List, [], ◌∷◌, ◌++◌, length, length-append, map}
use Rattle.std.specs.Prelude.{slice_get, get_or, option_map}
use Rattle.std.specs.Option.{option_map_or}
use Rattle.pt_tree.specs.declared.signature.Signature.{Signature}
use Rattle.typed_tree.specs.declared.types.VarTy.{VarTy}
use Rattle.typed_tree.specs.TypedTree.{TypedTree, FunctionTree, signatures_of}
use Rattle.sides.specs.declared.objects.Object.{Object}
use Rattle.sides.specs.Leaves.{leaf_count}
use Rattle.sides.specs.Objects.{types_count, objects_from, variable_types, global_types, function_starts_from, functions_count, global_objects, function_starts, result_start, variable_objects}
use Rattle.sides.specs.Slots.{globals_slots, functions_slots, results_slots, slots_of}
use Rattle.sides.proofs.LayoutLemmas.{globals_long, functions_long}
use Rattle.sides.proofs.RoomLemmas.{results_long}

-- ---- objects one after the other

-- there is one of each type
pub object_found : (count : VarTy → ℕ) (start : ℕ) (tys : List VarTy) (n : ℕ) (ty : VarTy) → slice_get tys n ≡ Some ty → (s : ℕ) × (slice_get (objects_from count start tys) n ≡ Some (record { ty = ty; start = s }))
object_found count start [] n ty h = cc
object_found count start (t ∷ ts) zero ty h = (start, ap (λ z. Some (record { ty = z; start = start })) (same t ty h))
  where
    same : (a c : VarTy) → Some a ≡ Some c → a ≡ c
    same a c h = cc
object_found count start (t ∷ ts) (suc n) ty h = object_found count (start + count t) ts n ty h

-- and no other
pub object_type : (count : VarTy → ℕ) (start : ℕ) (tys : List VarTy) (n : ℕ) (x : Object) → slice_get (objects_from count start tys) n ≡ Some x → slice_get tys n ≡ Some x.ty
object_type count start [] n x h = cc
object_type count start (t ∷ ts) zero x h = ap (option_map (λ (z : Object). z.ty)) h
object_type count start (t ∷ ts) (suc n) x h = object_type count (start + count t) ts n x h

object_within : (count : VarTy → ℕ) (start : ℕ) (tys : List VarTy) (n : ℕ) (x : Object) → slice_get (objects_from count start tys) n ≡ Some x → x.start + count x.ty ≤ start + types_count count tys
object_within count start [] n x h = cc
object_within count start (t ∷ ts) zero x h = subst (λ (z : Object). z.start + count z.ty ≤ start + (count t + types_count count ts)) (same (record { ty = t; start = start }) x h) (first start (count t) (types_count count ts))
  where
    same : (a c : Object) → Some a ≡ Some c → a ≡ c
    same a c h = cc

    first : (s a b : ℕ) → s + a ≤ s + (a + b)
    first s a b = omega arith
object_within count start (t ∷ ts) (suc n) x h = let rest = object_within count (start + count t) ts n x h in omega (arith, rest)

function_within : (count : VarTy → ℕ) (start : ℕ) (fs : List FunctionTree) (n : ℕ) (f : FunctionTree) → slice_get fs n ≡ Some f → get_or (function_starts_from count start fs) n 0 + types_count count (variable_types f) ≤ start + functions_count count fs
function_within count start [] n f h = cc
function_within count start (g ∷ gs) zero f h = subst (λ (z : FunctionTree). start + types_count count (variable_types z) ≤ start + (types_count count (variable_types g) + functions_count count gs)) (same g f h) (first start (types_count count (variable_types g)) (functions_count count gs))
  where
    same : (a c : FunctionTree) → Some a ≡ Some c → a ≡ c
    same a c h = cc

    first : (s a b : ℕ) → s + a ≤ s + (a + b)
    first s a b = omega arith
function_within count start (g ∷ gs) (suc n) f h = let rest = function_within count (start + types_count count (variable_types g)) gs n f h in omega (arith, rest)

-- ---- the program's slots

pub slots_long : (t : TypedTree) → length (slots_of t) ≡ types_count (leaf_count t.structs) (global_types t) + (functions_count (leaf_count t.structs) t.functions + length t.functions)
unfolding slots_of
slots_long t =
    let a = globals_long t.structs 0 t.globals in
    let c = functions_long t.structs 0 t.functions in
    let d = results_long 0 t.functions in
    let e = length-append (functions_slots t.structs 0 t.functions) (results_slots 0 t.functions) in
    let f = length-append (globals_slots t.structs 0 t.globals) (functions_slots t.structs 0 t.functions ++ results_slots 0 t.functions) in
    omega (arith, a, c, d, e, f)

pub global_within : (t : TypedTree) (g : ℕ) (x : Object) → slice_get (global_objects t) g ≡ Some x → x.start + leaf_count t.structs x.ty ≤ length (slots_of t)
global_within t g x h =
    let a = object_within (leaf_count t.structs) 0 (global_types t) g x h in
    let b = slots_long t in
    omega (arith, a, b)

pub variable_within : (t : TypedTree) (f v : ℕ) (x : Object) → slice_get (variable_objects t f) v ≡ Some x → x.start + leaf_count t.structs x.ty ≤ length (slots_of t)
variable_within t f v x h = go (slice_get t.functions f) refl h
  where
    go : (o : Option FunctionTree) → slice_get t.functions f ≡ o → slice_get (objects_from (leaf_count t.structs) (get_or (function_starts t) f 0) (option_map_or variable_types o [])) v ≡ Some x → x.start + leaf_count t.structs x.ty ≤ length (slots_of t)
    go None is k = cc
    go (Some g) is k =
        let a = object_within (leaf_count t.structs) (get_or (function_starts t) f 0) (variable_types g) v x k in
        let b = function_within (leaf_count t.structs) (types_count (leaf_count t.structs) (global_types t)) t.functions f g is in
        let c = slots_long t in
        omega (arith, a, b, c)

pub result_within : (t : TypedTree) (f : ℕ) → f < length t.functions → result_start t + f < length (slots_of t)
result_within t f less = let a = slots_long t in omega (arith, a, less)

-- a function's number is that of its signature
pub signed : (t : TypedTree) (f : ℕ) (s : Signature) → slice_get (signatures_of t) f ≡ Some s → f < length t.functions
signed t f s h = go t.functions f h
  where
    go : (fs : List FunctionTree) (n : ℕ) → slice_get (map (λ (f : FunctionTree). f.signature) fs) n ≡ Some s → n < length fs
    go [] n h = cc
    go (g ∷ gs) zero h = omega arith
    go (g ∷ gs) (suc n) h = let rest = go gs n h in omega (arith, rest)
