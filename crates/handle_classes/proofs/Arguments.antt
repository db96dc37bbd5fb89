-- The arguments of a call are of the classes of its parameters, and nothing within them computes with a
-- handle.
use Rattle.std.proofs.Common.{◌≡◌, ℕ, suc, refl, false, List, ◌∷◌, Result, Ok, Err}
use Rattle.std.proofs.lemmas.Bool.{or_from}
use Rattle.block_memory.specs.declared.cell.Cell.{Cell}
use Rattle.block_memory.specs.Blocks.{Blocks}
use Rattle.pt_core.specs.CodeTree.{ExprTrees, no_exprs, expr_and, ProgramTree}
use Rattle.pt_core.specs.Values.{Stop, ◌>>?◌, value_of, values_of}
use Rattle.pt_core.specs.Calls.{context_in}
use Rattle.pt_core.specs.Steps.{Active}
use Rattle.handle_classes.specs.Classes.{Class, World, scope_in, class_of}
use Rattle.handle_classes.specs.Judgment.{Flows, AreFineArguments}
use Rattle.handle_classes.specs.Invariant.{AllFit}
use Rattle.handle_classes.specs.Computes.{meet_any}
use Rattle.handle_classes.specs.Laws.{FitsIf, ValueFits}
use Rattle.handle_classes.proofs.Values.{Here, values}
use Rattle.handle_classes.proofs.Memory.{flows_fit}

abbrev pub AllFitIf : World → List Active → (ℕ → Class) → Result (List Cell) Stop → Type 0
AllFitIf w active into (Ok vs) = AllFit w active into vs
AllFitIf w active into (Err stop) = Unit {0}

both_fit : (w : World) (active : List Active) (c : Class) (into : ℕ → Class) (r : Result Cell Stop) (rs : Result (List Cell) Stop) →
    Flows c (into 0) → FitsIf w active c r → AllFitIf w active (λ n. into (suc n)) rs →
    AllFitIf w active into (r >>? λ v. rs >>? λ vs. Ok (v ∷ vs))
both_fit w active c into (Err stop) rs flows f h = tt {0}
both_fit w active c into (Ok v) (Err stop) flows f h = tt {0}
both_fit w active c into (Ok v) (Ok vs) flows f h = (flows_fit w active c (into 0) v flows f, h)

pub record ArgumentsFit (program : ProgramTree) (w : World) (a : Active) (rest : List Active) (blocks : Blocks) (into : ℕ → Class) (args : ExprTrees)
    : Type 0 where
  pub fit : AllFitIf w (a ∷ rest) into (values_of (context_in program a.function) a.depth args blocks)
  pub unmet : meet_any (context_in program a.function) a.depth args blocks ≡ false

pub arguments : (program : ProgramTree) (w : World) (a : Active) (rest : List Active) (blocks : Blocks) → Here program w a rest blocks →
    (args : ExprTrees) (into : ℕ → Class) → AreFineArguments (scope_in program w a.function) args into →
    ArgumentsFit program w a rest blocks into args
arguments program w a rest blocks at no_exprs into fine = record { fit = tt {0}; unmet = refl }
arguments program w a rest blocks at (expr_and e more) into fine =
    let first : ValueFits program w a rest blocks e = values program w a rest blocks at e fine.0 in
    let others : ArgumentsFit program w a rest blocks (λ n. into (suc n)) more = arguments program w a rest blocks at more (λ n. into (suc n))
    fine.2 in
    record {
      fit = both_fit w (a ∷ rest) (class_of (scope_in program w a.function) e) into (value_of (context_in program a.function) a.depth e blocks)
          (values_of (context_in program a.function) a.depth more blocks) fine.1 first.fits others.fit;
      unmet = or_from _ _ first.unmet others.unmet;
    }
