-- Normal forms, one more and all together.
use Rattle.std.proofs.Common.{◌≡◌, ◌∙◌, ℕ, suc, ◌<◌, refl, sym, ap, ap₂, List, [], ◌∷◌, ◌++◌, length, map, get_or, Result, Vec, Option, Some, None, IfOk}
use Rattle.std.specs.Prelude.{is_some}
use Rattle.std.specs.List.{flat_map}
use Rattle.std.specs.declared.alloc.Global.{Global}
use Rattle.std.specs.declared.alloc.AllocError.{AllocError}
use Rattle.std.proofs.lemmas.List.{map_push, map-append}
use Rattle.pt_base.specs.declared.ids.FnId.{FnId}
use Rattle.typed_tree.specs.Lookup.{function_at}
use Rattle.typed_tree.specs.StatementTree.{BodyTree}
use Rattle.typed_tree.specs.TypedTree.{FunctionTree, TypedTree}
use Rattle.pt_core.specs.CodeTree.{view_function}
use Rattle.pt_core.specs.declared.function.CoreFn.{CoreFn}
use Rattle.lowering.specs.Functions.{code_if, core_of, functions_from}
use Rattle.function_runs.specs.declared.neighbours.Run.{Run}
use Rattle.function_runs.specs.Defined.{HasBody, defined, defined_from, if_defined}
use Rattle.lowering_threads.specs.Codes.{code_at, code_of_found}
use Rattle.function_runs.specs.Parts.{joined}
use Rattle.function_runs.specs.Runs.{AreRuns, part}
use Rattle.function_runs.proofs.DefinedLemmas.{StandFrom, all_stand, stand_first, stand_rest}
use Rattle.function_runs.proofs.JoinLemmas.{joined-gives}

-- ---- the normal forms of those that have bodies, one behind the other, are the program's

code_more : (t : TypedTree) (n : ℕ) (f : FunctionTree) (fs : List FunctionTree) (b : Option BodyTree) → function_at t (record { 0 = n }) ≡ Some f → f.body ≡ b → flat_map (code_at t) (defined_from (suc n) fs) ≡ functions_from t (suc n) fs →
    flat_map (code_at t) (if_defined (is_some b) (record { 0 = n }) ++ defined_from (suc n) fs) ≡ code_if t n f b ++ functions_from t (suc n) fs
code_more t n f fs None at is rest = rest
code_more t n f fs (Some body) at is rest = ap₂ (λ xs ys. xs ++ ys) (ap (code_of_found t n) at ∙ ap (code_if t n f) is) rest

code_from : (t : TypedTree) (n : ℕ) (fs : List FunctionTree) → StandFrom t n fs → flat_map (code_at t) (defined_from n fs) ≡ functions_from t n fs
code_from t n [] at = refl
code_from t n (f ∷ fs) at = code_more t n f fs f.body (stand_first t n f fs at) refl (code_from t (suc n) fs (stand_rest t n f fs at))

code_of_all : (t : TypedTree) → flat_map (code_at t) (defined t) ≡ functions_from t 0 t.functions
code_of_all t = code_from t 0 t.functions (all_stand t)

-- ---- as code makes them

pub code_added : (t : TypedTree) (f : FnId) (code code' : List CoreFn) (c : CoreFn) → HasBody t f → ((g : FunctionTree) (b : BodyTree) → function_at t f ≡ Some g → g.body ≡ Some b → view_function c ≡ core_of t f.0 g b) → code' ≡ code ++ c ∷ [] → map view_function code' ≡ map view_function code ++ code_at t f
code_added t f code code' c (g, b, at, is) lowered added =
    ap (map view_function) added
    ∙ map_push view_function code c
    ∙ ap (λ x. map view_function code ++ x ∷ []) (lowered g b at is)
    ∙ ap (λ xs. map view_function code ++ xs) (sym (ap (code_of_found t f.0) at ∙ ap (code_if t f.0 g) is))

pub all_code : (t : TypedTree) (fs : List FnId) (runs : List Run) (parts : List (Result (Vec CoreFn Global) AllocError)) (all : List CoreFn) → fs ≡ defined t → AreRuns (length fs) runs → length parts ≡ length runs →
    ((i : ℕ) (d : Result (Vec CoreFn Global) AllocError) (e : Run) → i < length runs → IfOk (get_or parts i d) (λ w. map view_function w.items ≡ flat_map (code_at t) (part fs (get_or runs i e)))) →
    joined parts ≡ Some all → map view_function all ≡ functions_from t 0 t.functions
all_code t fs runs parts all these are long each came =
    joined-gives (map view_function) refl (map-append view_function) (code_at t) fs runs parts all long each came
    ∙ ap (flat_map (code_at t)) (are fs refl)
    ∙ ap (flat_map (code_at t)) these
    ∙ code_of_all t
