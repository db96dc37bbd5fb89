-- The declarations of a function's variables, where it begins: they clear what is clear.
use Rattle.std.proofs.Common.{◌≡◌, ◌∙◌, ◌≤◌, ◌<◌, ℕ, zero, suc, ◌+◌, refl, ap, sym, arith, Bool, true, false, List, [], ◌∷◌, ◌++◌, length, if◌then◌else◌}
use Rattle.std.specs.Prelude.{get_or}
use Rattle.pt_base.proofs.Numbers.{nat_eq_true}
use Rattle.typed_tree.specs.declared.types.VarTy.{VarTy}
use Rattle.typed_tree.specs.declared.variable.Var.{Var}
use Rattle.typed_tree.specs.StatementTree.{BodyTree, body_trees}
use Rattle.source_meaning.specs.Memory.{Block, local, same_block, Cell, Memory, put, with_frame}
use Rattle.source_meaning.specs.State.{State}
use Rattle.source_meaning.specs.Values.{Value, cleared, frame_cells}
use Rattle.source_meaning.specs.Expressions.{sizes, type_at}
use Rattle.source_meaning.specs.Statements.{Code, cleared_at, all_of}
use Rattle.half_meaning_law.proofs.Memories.{block_same}
use Rattle.half_names_law.proofs.Locals.{declaration_trees}

-- a block is put that is there
put_same : (m : Memory) (b : Block) (cells : List Cell) → m b ≡ cells → put m b cells ≡ m
put_same m b cells h = λ i o. each o i
  where
    each : (o : Block) → put m b cells o ≡ m o
    each o = go (same_block o b) refl
      where
        go : (t : Bool) → same_block o b ≡ t → (if t then cells else m o) ≡ m o
        go true e = sym h ∙ ap m (sym (block_same o b e))
        go false e = refl

-- these variables of the active function are as at their declarations
abbrev pub AreClear : Code → State → ℕ → List Var → Type 0
AreClear code st n [] = Unit {0}
AreClear code st n (x ∷ xs) = (st.memory (local code.context.frame.depth n) ≡ cleared (sizes code.context) (type_at code.context.variables n)) × AreClear code st (suc n) xs

clear_again : (code : Code) (st : State) (n : ℕ) → st.memory (local code.context.frame.depth n) ≡ cleared (sizes code.context) (type_at code.context.variables n) → cleared_at code n st ≡ st
clear_again code st n h = λ i. record st { memory = put_same st.memory (local code.context.frame.depth n) (cleared (sizes code.context) (type_at code.context.variables n)) h i }

-- their declarations change nothing
pub declared_again : (n : ℕ) (xs : List Var) (rest : List BodyTree) (code : Code) (st : State) → AreClear code st n xs → all_of (body_trees (declaration_trees n xs ++ rest)) code st ≡ all_of (body_trees rest) code st
declared_again n [] rest code st h = refl
declared_again n (x ∷ xs) rest code st h = ap (λ z. all_of (body_trees (declaration_trees (suc n) xs ++ rest)) code z) (clear_again code st n h.0) ∙ declared_again (suc n) xs rest code st h.1

-- behind the arguments all variables are clear
behind_arguments : (ss : List ℕ) (types : List VarTy) (vs : List Value) (n : ℕ) → length vs ≤ n → n < length types → get_or (frame_cells ss types vs) n [] ≡ cleared ss (type_at types n)
behind_arguments ss [] vs n far low = absurd (omega (arith, low))
behind_arguments ss (t ∷ types) [] zero far low = refl
behind_arguments ss (t ∷ types) [] (suc n) far low = behind_arguments ss types [] n (omega arith) (omega (arith, low))
behind_arguments ss (t ∷ types) (v ∷ vs) zero far low = absurd (omega (arith, far))
behind_arguments ss (t ∷ types) (v ∷ vs) (suc n) far low = behind_arguments ss types vs n (omega (arith, far)) (omega (arith, low))

pub opened_clear : (code : Code) (st : State) (m : Memory) (vs : List Value) (n : ℕ) (xs : List Var) → st.memory ≡ with_frame m code.context.frame.depth (frame_cells (sizes code.context) code.context.variables vs) → length vs ≤ n → n + length xs ≤ length code.context.variables → AreClear code st n xs
opened_clear code st m vs n [] same far low = tt {0}
opened_clear code st m vs n (x ∷ xs) same far low = (
  ap (λ k. k (local code.context.frame.depth n)) same
      ∙ (λ i. if nat_eq_true code.context.frame.depth code.context.frame.depth refl i then get_or (frame_cells (sizes code.context) code.context.variables vs) n [] else m (local code.context.frame.depth n))
      ∙ behind_arguments (sizes code.context) code.context.variables vs n far (omega (arith, low)),
  opened_clear code st m vs (suc n) xs same (omega (arith, far)) (omega (arith, low)),
)
