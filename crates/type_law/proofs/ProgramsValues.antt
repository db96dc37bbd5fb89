-- What a global starts with, where its initialiser has no fault: numbers in the ranges of its integers.
use Rattle.std.proofs.Common.{◌≡◌, ◌+◌, ◌-◌, ◌++◌, ◌∙◌, sym, ap, subst, refl, ℕ, suc, ℤ, pos, Bool, true, false, List, [], ◌∷◌, length, arith, map, take, Option, Some, None}
use Rattle.std.specs.Prelude.{IsTrue, ◌&&◌, not, is_some, slice_get, replicate}
use Rattle.pt_base.specs.declared.int_type.IntType.{IntType}
use Rattle.pt_base.proofs.Booleans.{both_hold, both_hold_first, both_hold_second}
use Rattle.pt_base.proofs.Lists.{append_nil_first, append_nil_second, length_pushed}
use Rattle.pt_int.specs.Conversion.{conv, is_in_range}
use Rattle.pt_tree.specs.ExpressionTree as e
use Rattle.pt_tree.specs.StatementTree.{InitTree, no_init, single, braces}
use Rattle.type_rules.specs.declared.types.Type.{«Type»}
use Rattle.type_rules.specs.declared.types.Type.TheVariants.{Bad, Void, Int, Struct, Array, Pointer}
use Rattle.type_rules.specs.Types.{is_bad}
use Rattle.typed_tree.specs.WellFormed.{cells_fit}
use Rattle.check_declarations.specs.declared.fault.FaultKind.TheVariants.{WrongType, OutOfProfile}
use Rattle.check_declarations.specs.Faults.{fault_at, fault_if}
use Rattle.check_declarations.specs.Structs.{Structs}
use Rattle.check_expressions.specs.Environment.{Env}
use Rattle.check_expressions.specs.Expressions.{judge}
use Rattle.check_expressions.specs.Operands.{span_of}
use Rattle.check_statements.specs.declared.constants.Number.{Number}
use Rattle.check_statements.specs.Constants.{number_of}
use Rattle.check_statements.specs.Leaves.{leaves_of}
use Rattle.check_statements.specs.GlobalInitialisers.{GlobalInit, stored_in, misfit, item_of, excess_faults, global_items, global_initialised}
use Rattle.check_programs.specs.Globals.{padded}
use Rattle.type_law.proofs.DeclarationsFaultLemmas.{no_fault}
use Rattle.type_law.proofs.StatementsGlobalStarts.{zeros_fit}
use Rattle.type_law.proofs.StatementsLabels.{converted_in_range}

-- ---- numbers in range

-- the values are in the ranges of the first leaves
abbrev pub fits_front : List IntType → List ℤ → Bool
fits_front [] vs = true
fits_front (x ∷ ts) [] = true
fits_front (x ∷ ts) (v ∷ vs) = is_in_range x v && fits_front ts vs

front_none : (ts : List IntType) → IsTrue (fits_front ts [])
front_none [] = refl
front_none (x ∷ ts) = refl

pub padded_fits : (ts : List IntType) (vs : List ℤ) → IsTrue (fits_front ts vs) → IsTrue (cells_fit ts (padded (length ts) vs))
padded_fits [] vs h = let none : 0 - length vs ≡ 0 = omega arith in subst (λ n. IsTrue (cells_fit [] (replicate n (pos 0)))) (sym none) refl
padded_fits (x ∷ ts) [] h = let all : suc (length ts) - 0 ≡ suc (length ts) = omega arith in subst (λ n. IsTrue (cells_fit (x ∷ ts) (replicate n (pos 0)))) (sym all) (zeros_fit (x ∷ ts))
padded_fits (x ∷ ts) (v ∷ vs) h =
    let less : suc (length ts) - suc (length vs) ≡ length ts - length vs = omega arith in
    let rest = padded_fits ts vs (both_hold_second (is_in_range x v) (fits_front ts vs) h) in
    both_hold (is_in_range x v) (cells_fit ts (take (length ts) vs ++ replicate (suc (length ts) - suc (length vs)) (pos 0))) (both_hold_first (is_in_range x v) (fits_front ts vs) h)
    (subst (λ n. IsTrue (cells_fit ts (take (length ts) vs ++ replicate n (pos 0)))) (sym less) rest)

-- ---- initialisers

pub record SoundInit (structs : Structs) (ts : List IntType) (g : GlobalInit) : Type 0 where
  pub same : g.structs ≡ structs
  pub fits : IsTrue (fits_front ts g.values)

get_next : (done ts : List IntType) (x : IntType) → slice_get (map Int (done ++ x ∷ ts)) (length done) ≡ Some (Int x)
get_next [] ts x = refl
get_next (y ∷ done) ts x = get_next done ts x

get_none : (done : List IntType) → slice_get (map Int (done ++ [])) (length done) ≡ None
get_none [] = refl
get_none (y ∷ done) = get_none done

-- an item, and those behind it
abbrev items_of : Env → Structs → List «Type» → Option «Type» → ℕ → e.ExprTree → Option Number → e.ExprTrees → GlobalInit
items_of env structs leaves leaf n a o es =
    let one = item_of env structs leaf a o in
    let rest = global_items env one.structs leaves (true && is_some leaf) (n + 1) es in
    record { structs = rest.structs; values = one.values ++ rest.values; faults = one.faults ++ excess_faults true leaf a ++ rest.faults }

module _ (env : Env) (structs : Structs) (leaves : List «Type») where
  no_more : (leaf : Option «Type») (n : ℕ) (a : e.ExprTree) (o : Option Number) (es : e.ExprTrees) → leaf ≡ None → (items_of env structs leaves leaf n a o es).faults ≡ [] → ⊥
  no_more (Some x) n a o es is none = cc
  no_more None n a o es is none =
      let one = item_of env structs None a o in
      let rest = global_items env one.structs leaves (true && false) (n + 1) es in
      let wrong = no_fault (true && not false) WrongType (span_of a) (append_nil_second one.faults (excess_faults true None a) (append_nil_first (one.faults ++ excess_faults true None a) rest.faults none)) in
      cc

  one_more : (x : IntType) (ts : List IntType) (n : ℕ) (a : e.ExprTree) (o : Option Number) (es : e.ExprTrees)
      → ((global_items env structs leaves true (n + 1) es).faults ≡ [] → SoundInit structs ts (global_items env structs leaves true (n + 1) es))
      → (items_of env structs leaves (Some (Int x)) n a o es).faults ≡ [] → SoundInit structs (x ∷ ts) (items_of env structs leaves (Some (Int x)) n a o es)
  one_more x ts n a (Some m) es again none =
      let rest = global_items env structs leaves true (n + 1) es in
      let sound = again (append_nil_second (fault_if (misfit (Some (Int x)) m) WrongType (span_of a) ++ excess_faults true (Some (Int x)) a) rest.faults none) in
      record { same = sound.same; fits = both_hold (is_in_range x (conv x m.value)) (fits_front ts rest.values) (converted_in_range x m.value) sound.fits }
  one_more x ts n a None es again none =
      let j = judge env structs a in
      let rest = global_items env j.structs leaves true (n + 1) es in
      let wrong = append_nil_second j.faults (fault_at OutOfProfile (span_of a) ∷ []) (append_nil_first (j.faults ++ fault_at OutOfProfile (span_of a) ∷ []) (excess_faults true (Some (Int x)) a) (append_nil_first ((j.faults ++ fault_at OutOfProfile (span_of a) ∷ []) ++ excess_faults true (Some (Int x)) a) rest.faults none)) in
      cc

  longer : (done : List IntType) (x : IntType) (ts : List IntType) → done ++ x ∷ ts ≡ (done ++ x ∷ []) ++ ts
  longer [] x ts = refl
  longer (y ∷ done) x ts = ap (λ l. y ∷ l) (longer done x ts)

  one_longer : (done : List IntType) (x : IntType) (n : ℕ) → n ≡ length done → n + 1 ≡ length (done ++ x ∷ [])
  one_longer done x n h = let l = length_pushed done x in omega (arith, l, h)

  items_sound : (done ts : List IntType) (n : ℕ) (es : e.ExprTrees) → leaves ≡ map Int (done ++ ts) → n ≡ length done → (global_items env structs leaves true n es).faults ≡ [] → SoundInit structs ts (global_items env structs leaves true n es)
  items_sound done ts n e.no_exprs are at none = record { same = refl; fits = front_none ts }
  items_sound done [] n (e.expr_and a es) are at none =
      let leaf : slice_get leaves n ≡ None = ap (λ l. slice_get l n) are ∙ ap (slice_get (map Int (done ++ []))) at ∙ get_none done in
      absurd (no_more (slice_get leaves n) n a (number_of a) es leaf none)
  items_sound done (x ∷ ts) n (e.expr_and a es) are at none =
      let leaf : slice_get leaves n ≡ Some (Int x) = ap (λ l. slice_get l n) are ∙ ap (slice_get (map Int (done ++ x ∷ ts))) at ∙ get_next done ts x in
      let again = items_sound (done ++ x ∷ []) ts (n + 1) es (are ∙ ap (map Int) (longer done x ts)) (one_longer done x n at) in
      subst (λ o. (items_of env structs leaves o n a (number_of a) es).faults ≡ [] → SoundInit structs (x ∷ ts) (items_of env structs leaves o n a (number_of a) es)) (sym leaf)
      (one_more x ts n a (number_of a) es again) none

-- a number as the whole object
stored_fits : (structs : Structs) (ty : «Type») (v : ℤ) (ts : List IntType) → leaves_of structs ty ≡ map Int ts → IsTrue (fits_front ts (stored_in ty v))
stored_fits structs Bad v ts h = front_none ts
stored_fits structs Void v ts h = front_none ts
stored_fits structs (Int x) v [] h = refl
stored_fits structs (Int x) v (y ∷ ts) h =
    let same : x ≡ y = cc in
    both_hold (is_in_range y (conv x v)) (fits_front ts []) (subst (λ z. IsTrue (is_in_range z (conv x v))) same (converted_in_range x v)) (front_none ts)
stored_fits structs (Struct n) v ts h = front_none ts
stored_fits structs (Array d n) v ts h = front_none ts
stored_fits structs (Pointer d f) v ts h = front_none ts

single_sound : (env : Env) (structs : Structs) (ty : «Type») (a : e.ExprTree) (o : Option Number) (ts : List IntType) → leaves_of structs ty ≡ map Int ts → (item_of env structs (Some ty) a o).faults ≡ [] → SoundInit structs ts (item_of env structs (Some ty) a o)
single_sound env structs ty a (Some m) ts h none = record { same = refl; fits = stored_fits structs ty m.value ts h }
single_sound env structs ty a None ts h none = let wrong = append_nil_second (judge env structs a).faults (fault_at OutOfProfile (span_of a) ∷ []) none in cc

pub init_sound : (env : Env) (structs : Structs) (ty : «Type») (init : InitTree) (ts : List IntType) → leaves_of structs ty ≡ map Int ts → is_bad ty ≡ false → (global_initialised env structs ty init).faults ≡ [] → SoundInit structs ts (global_initialised env structs ty init)
init_sound env structs ty no_init ts h fine none = record { same = refl; fits = front_none ts }
init_sound env structs ty (single a) ts h fine none = single_sound env structs ty a (number_of a) ts h none
init_sound env structs ty (braces s es) ts h fine none =
    subst (λ b. (global_items env structs (leaves_of structs ty) b 0 es).faults ≡ [] → SoundInit structs ts (global_items env structs (leaves_of structs ty) b 0 es)) (sym (ap not fine))
    (items_sound env structs (leaves_of structs ty) [] ts 0 es h refl) none
