-- What a global starts with, where its initialiser has no fault: one number for each of its integers.
use Rattle.std.proofs.Common.{◌≡◌, ℕ, suc, ◌+◌, ◌-◌, ℤ, pos, refl, sym, ap, ◌∙◌, subst, Bool, true, false, List, [], ◌∷◌, ◌++◌, map, length, take, replicate, Option, Some, None, arith}
use Rattle.std.specs.Prelude.{⊤, IsTrue, ◌&&◌, is_some, not, slice_get}
use Rattle.std.proofs.lemmas.Int.{ints}
use Rattle.pt_base.specs.declared.int_type.IntType.{IntType}
use Rattle.pt_base.proofs.Booleans.{both_hold}
use Rattle.pt_base.proofs.Lists.{append_nil_first, append_nil_second}
use Rattle.pt_int.specs.Conversion.{is_in_range}
use Rattle.pt_int.proofs.Ranges.{around_zero}
use Rattle.pt_tree.specs.ExpressionTree as e
use Rattle.pt_tree.specs.StatementTree.{InitTree, no_init, single, braces}
use Rattle.type_rules.specs.declared.types.Type.{«Type»}
use Rattle.type_rules.specs.declared.types.Type.TheVariants.{Bad, Void, Int, Struct, Array, Pointer}
use Rattle.type_rules.specs.Conversions.{fit_rule}
use Rattle.type_rules.specs.Types.{is_bad}
use Rattle.typed_tree.specs.declared.types.StructInfo.{StructInfo}
use Rattle.typed_tree.specs.Cells as typed
use Rattle.typed_tree.specs.WellFormed.{cells_fit}
use Rattle.check_declarations.specs.declared.fault.FaultKind.TheVariants.{WrongType, OutOfProfile}
use Rattle.check_declarations.specs.Faults.{fault_at, fault_if}
use Rattle.check_declarations.specs.Structs.{Structs}
use Rattle.check_expressions.specs.Environment.{Env}
use Rattle.check_expressions.specs.Expressions.{judge}
use Rattle.check_expressions.specs.Operands.{var_type, span_of}
use Rattle.check_expressions.specs.StructInfos.{object_type_of, infos_of}
use Rattle.check_statements.specs.declared.constants.Number.{Number}
use Rattle.check_statements.specs.Constants.{number_of}
use Rattle.check_statements.specs.GlobalInitialisers.{GlobalInit, item_of, misfit, excess_faults, global_items, global_initialised}
use Rattle.check_statements.specs.Leaves.{leaves_of}
use Rattle.type_law.specs.DeclarationsLaws.{LeavesAreSound}
use Rattle.type_law.specs.DeclarationsTypes.{is_plain}
use Rattle.type_law.specs.StatementsLaws.{StartsAreSound}
use Rattle.type_law.proofs.StatementsLabels.{converted_in_range}

-- ---- numbers in the range of integer types

-- these numbers are in the ranges of the first types
abbrev Starts : List IntType → List ℤ → Type 0
Starts [] [] = ⊤
Starts [] (v ∷ vs) = ⊥
Starts (t ∷ ts) [] = ⊤
Starts (t ∷ ts) (v ∷ vs) = IsTrue (is_in_range t v) × Starts ts vs

zero_in_range : (t : IntType) → IsTrue (is_in_range t (pos 0))
zero_in_range t = let z = around_zero t in grind (arith, ints, z.0, z.1)

pub zeros_fit : (ts : List IntType) → IsTrue (cells_fit ts (replicate (length ts) (pos 0)))
zeros_fit [] = refl
zeros_fit (t ∷ ts) = both_hold (is_in_range t (pos 0)) (cells_fit ts (replicate (length ts) (pos 0))) (zero_in_range t) (zeros_fit ts)

cells_padded : (ts : List IntType) (vs : List ℤ) → Starts ts vs → IsTrue (cells_fit ts (take (length ts) vs ++ replicate (length ts - length vs) (pos 0)))
cells_padded [] [] h = refl
cells_padded [] (v ∷ vs) h = absurd h
cells_padded (t ∷ ts) [] h =
    let all : length (t ∷ ts) - 0 ≡ length (t ∷ ts) = omega arith in
    subst (λ (k : ℕ). IsTrue (cells_fit (t ∷ ts) (replicate k (pos 0)))) (sym all) (zeros_fit (t ∷ ts))
cells_padded (t ∷ ts) (v ∷ vs) h =
    let rest : length (t ∷ ts) - length (v ∷ vs) ≡ length ts - length vs = omega arith in
    subst (λ (k : ℕ). IsTrue (cells_fit (t ∷ ts) (v ∷ (take (length ts) vs ++ replicate k (pos 0))))) (sym rest)
    (both_hold (is_in_range t v) (cells_fit ts (take (length ts) vs ++ replicate (length ts - length vs) (pos 0))) h.0 (cells_padded ts vs h.1))

-- ---- items

-- the structs stay, and the values are in range
record Good (structs : Structs) (ts : List IntType) (g : GlobalInit) : Type 0 where
  same : g.structs ≡ structs
  starts : Starts ts g.values

-- an item for this leaf, which is a number or none, and those behind it
abbrev step : Env → Structs → List «Type» → ℕ → e.ExprTree → e.ExprTrees → Option «Type» → Option Number → GlobalInit
step env structs leaves k a es leaf o =
    let one = item_of env structs leaf a o in
    let rest = global_items env one.structs leaves (true && is_some leaf) (k + 1) es in
    record { structs = rest.structs; values = one.values ++ rest.values; faults = one.faults ++ excess_faults true leaf a ++ rest.faults }

abbrev IsGood : Structs → List IntType → GlobalInit → Type 0
IsGood structs ts g = g.faults ≡ [] → Good structs ts g

no_number : (env : Env) (structs : Structs) (leaves : List «Type») (ts : List IntType) (k : ℕ) (a : e.ExprTree) (es : e.ExprTrees) (leaf : Option «Type») → IsGood structs ts (step env structs leaves k a es leaf None)
no_number env structs leaves ts k a es leaf none =
    let j = judge env structs a in
    let own = j.faults ++ fault_at OutOfProfile (span_of a) ∷ [] in
    let excess = excess_faults true leaf a in
    let rest = global_items env j.structs leaves (true && is_some leaf) (k + 1) es in
    let no : fault_at OutOfProfile (span_of a) ∷ [] ≡ [] = append_nil_second j.faults (fault_at OutOfProfile (span_of a) ∷ []) (append_nil_first own excess (append_nil_first (own ++ excess) rest.faults none)) in
    cc

items_start : (env : Env) (structs : Structs) (leaves : List «Type») (ts : List IntType) (k : ℕ) (es : e.ExprTrees) → ((j : ℕ) → slice_get leaves (k + j) ≡ slice_get (map Int ts) j) → IsGood structs ts (global_items env structs leaves true k es)
items_start env structs leaves [] k e.no_exprs leads = λ none. record { same = refl; starts = tt }
items_start env structs leaves (t ∷ ts) k e.no_exprs leads = λ none. record { same = refl; starts = tt }
items_start env structs leaves [] k (e.expr_and a es) leads =
    let past : slice_get leaves k ≡ None = ap (slice_get leaves) (omega arith) ∙ leads 0 in
    subst (λ (leaf : Option «Type»). IsGood structs [] (step env structs leaves k a es leaf (number_of a))) (sym past) (go (number_of a))
  where
    go : (o : Option Number) → IsGood structs [] (step env structs leaves k a es None o)
    go None = no_number env structs leaves [] k a es None
    go (Some n) = λ none.
        let excess : excess_faults true None a ≡ [] = append_nil_first (excess_faults true None a) (global_items env structs leaves false (k + 1) es).faults none in
        cc
items_start env structs leaves (t ∷ ts) k (e.expr_and a es) leads =
    let here : slice_get leaves k ≡ Some (Int t) = ap (slice_get leaves) (omega arith) ∙ leads 0 in
    let later : (j : ℕ) → slice_get leaves (k + 1 + j) ≡ slice_get (map Int ts) j = λ j. ap (slice_get leaves) (omega arith) ∙ leads (suc j) in
    subst (λ (leaf : Option «Type»). IsGood structs (t ∷ ts) (step env structs leaves k a es leaf (number_of a))) (sym here) (go (number_of a) (items_start env structs leaves ts (k + 1) es later))
  where
    go : (o : Option Number) → IsGood structs ts (global_items env structs leaves true (k + 1) es) → IsGood structs (t ∷ ts) (step env structs leaves k a es (Some (Int t)) o)
    go None rest = no_number env structs leaves (t ∷ ts) k a es (Some (Int t))
    go (Some n) rest = λ none.
        let own = fault_if (misfit (Some (Int t)) n) WrongType (span_of a) in
        let good = rest (append_nil_second (own ++ []) (global_items env structs leaves true (k + 1) es).faults none) in
        record { same = good.same; starts = (converted_in_range t n.value, good.starts) }

-- ---- initialisers

single_start : (env : Env) (structs : Structs) (infos : List StructInfo) (ty : «Type») (a : e.ExprTree) (o : Option Number) → IsTrue (is_plain (length structs) ty) → IsGood structs (typed.leaves_of infos (object_type_of ty)) (item_of env structs (Some ty) a o)
unfolding var_type fit_rule typed.leaves_of
single_start env structs infos ty a None plain none = let no : fault_at OutOfProfile (span_of a) ∷ [] ≡ [] = append_nil_second (judge env structs a).faults (fault_at OutOfProfile (span_of a) ∷ []) none in cc
single_start env structs infos Bad a (Some n) plain none = cc
single_start env structs infos Void a (Some n) plain none = cc
single_start env structs infos (Int t) a (Some n) plain none = record { same = refl; starts = (converted_in_range t n.value, tt) }
single_start env structs infos (Struct m) a (Some n) plain none = cc
single_start env structs infos (Array e count) a (Some n) plain none = cc
single_start env structs infos (Pointer e fixed) a (Some n) plain none = cc

not_bad : (structs : ℕ) (ty : «Type») → IsTrue (is_plain structs ty) → not (is_bad ty) ≡ true
not_bad structs Bad h = cc
not_bad structs Void h = cc
not_bad structs (Int t) h = refl
not_bad structs (Struct n) h = refl
not_bad structs (Array e count) h = refl
not_bad structs (Pointer e fixed) h = cc

nothing_starts : (ts : List IntType) → Starts ts []
nothing_starts [] = tt
nothing_starts (t ∷ ts) = tt

pub starts_sound : LeavesAreSound → StartsAreSound
starts_sound leaves env structs more ty init p sound plain small none =
    let ts = typed.leaves_of (infos_of (structs ++ more)) (object_type_of ty) in
    let good = go init none in
    record { structs_are = good.same; cells = cells_padded ts (global_initialised env structs ty init).values good.starts }
  where
    go : (i : InitTree) → IsGood structs (typed.leaves_of (infos_of (structs ++ more)) (object_type_of ty)) (global_initialised env structs ty i)
    go no_init none = record { same = refl; starts = nothing_starts _ }
    go (single a) none = single_start env structs (infos_of (structs ++ more)) ty a (number_of a) plain none
    go (braces s es) none =
        let ts = typed.leaves_of (infos_of (structs ++ more)) (object_type_of ty) in
        let is : leaves_of structs ty ≡ map Int ts = leaves structs more ty p sound plain small in
        let lead : (j : ℕ) → slice_get (leaves_of structs ty) (0 + j) ≡ slice_get (map Int ts) j = λ j. ap (slice_get (leaves_of structs ty)) (omega arith) ∙ ap (λ (xs : List «Type»). slice_get xs j) is in
        subst (λ (b : Bool). IsGood structs ts (global_items env structs (leaves_of structs ty) b 0 es)) (sym (not_bad (length structs) ty plain))
        (items_start env structs (leaves_of structs ty) ts 0 es lead) none
