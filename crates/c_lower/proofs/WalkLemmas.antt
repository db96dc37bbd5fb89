-- Walks over links, operands, arguments and steps, one behind the other.
use Rattle.std.proofs.Common.{◌≡◌, ℕ, Bool, not, List, [], ◌∷◌, ◌++◌, Some, refl, sym, ap, ◌∙◌, subst, append_assoc}
use Rattle.std.proofs.lemmas.List.{append-nil}
use Rattle.pt_base.specs.declared.span.Span.{Span}
use Rattle.typed_tree.specs.declared.types.VarTy.{VarTy}
use Rattle.typed_tree.specs.declared.link.LinkStep.{LinkStep}
use Rattle.typed_tree.specs.declared.link.LogicalOp.{LogicalOp}
use Rattle.typed_tree.specs.ExpressionTree as tree
use Rattle.typed_tree.specs.ExpressionTree.{LinkTree, link, LinkTrees, link_and, no_links, OperandTree, operand, OperandTrees, operand_and, no_operands, ExprTrees, expr_and, no_exprs, RootTree, StepTree, StepTrees, step_and, no_steps}
use Rattle.pt_core.specs.CodeTree.{ExprTree}
use Rattle.lowering.specs.declared.temporary.Temporary.{Temporary}
use Rattle.lowering.specs.Lowered.{Effects, Lowered, LoweredPlace, Arguments, past}
use Rattle.lowering.specs.Purity.{are_pure}
use Rattle.lowering.specs.Expressions.{Scope, chain_so_far, links_in, operands_in, arguments_in, steps_in}
use Rattle.lowering.specs.ExpressionParts.{link_in, operand_in, argument_in, step_in}
use Rattle.lowering.specs.Functions.{span_of}
use Rattle.lowering.specs.Output.{Output, next, more, Found, Gives, GivesAll, Finds, Does}
use Rattle.lowering.proofs.OutputLemmas.{next_after, nothing_made, both}

-- ---- the links of a chain

pub record LinksSoFar (c : Scope) (rest all : LinkTrees) (whole : tree.ExprTree) (s : Span) (ty : VarTy) (start : Lowered) (o now : Output) (v : ExprTree) (keeper : Temporary) : Type 0 where
  pub before : List LinkTree
  pub at : Span
  pub far : Lowered
  pub ends : links_in c rest whole before at keeper.ty far (next o) ≡ links_in c all whole [] s ty start (next o)
  pub holds : keeper.holds ≡ Some (span_of (chain_so_far whole before at keeper.ty))
  pub gives : Gives o far now v

pub links_begin : (c : Scope) (all : LinkTrees) (whole : tree.ExprTree) (s : Span) (start : Lowered) (o now : Output) (v : ExprTree) (keeper : Temporary) → Gives o start now v → keeper.holds ≡ Some (span_of whole) → LinksSoFar c all all whole s keeper.ty start o now v keeper
links_begin c all whole s start o now v keeper g h = record { before = []; at = s; far = start; ends = refl; holds = h; gives = g }

spans : (whole : tree.ExprTree) (before : List LinkTree) (x : LinkTree) (s : Span) (ty : VarTy) → span_of (chain_so_far whole (before ++ x ∷ []) s ty) ≡ s
spans whole [] x s ty = refl
spans whole (b ∷ bs) x s ty = refl

pub links_step : (c : Scope) (rest rest' all : LinkTrees) (whole : tree.ExprTree) (s : Span) (ty : VarTy) (start : Lowered) (o now now' : Output) (v v' : ExprTree) (keeper : Temporary) (at : Span) (to : VarTy) (step : LinkStep) (e : tree.ExprTree) →
    rest ≡ link_and (link at to step e) rest' → (sf : LinksSoFar c rest all whole s ty start o now v keeper) → Gives o (link_in c (link at to step e) (chain_so_far whole sf.before sf.at keeper.ty) keeper.ty sf.far (next o)) now' v' →
    LinksSoFar c rest' all whole s ty start o now' v' (record { ty = to; holds = Some at })
links_step c rest rest' all whole s ty start o now now' v v' keeper at to step e split sf g = record {
  before = sf.before ++ link at to step e ∷ [];
  at = at;
  far = link_in c (link at to step e) (chain_so_far whole sf.before sf.at keeper.ty) keeper.ty sf.far (next o);
  ends = ap (λ x. links_in c x whole sf.before sf.at keeper.ty sf.far (next o)) (sym split) ∙ sf.ends;
  holds = ap Some (sym (spans whole sf.before (link at to step e) at to));
  gives = g;
}

pub links_end : (c : Scope) (rest all : LinkTrees) (whole : tree.ExprTree) (s : Span) (ty : VarTy) (start : Lowered) (o now : Output) (v : ExprTree) (keeper : Temporary) → rest ≡ no_links → LinksSoFar c rest all whole s ty start o now v keeper → Gives o (links_in c all whole [] s ty start (next o)) now v
links_end c rest all whole s ty start o now v keeper e sf =
    subst (λ z. Gives o z now v) (ap (λ x. links_in c x whole sf.before sf.at keeper.ty sf.far (next o)) (sym e) ∙ sf.ends) sf.gives

-- ---- the operands of `&&` and `||`

pub record OperandsSoFar (c : Scope) (rest all : OperandTrees) (op : LogicalOp) (k : ℕ) (start : Effects) (o now : Output) : Type 0 where
  pub far : Effects
  pub ends : operands_in c rest op k far (next o) ≡ operands_in c all op k start (next o)
  pub does : Does o far now

pub operands_begin : (c : Scope) (all : OperandTrees) (op : LogicalOp) (k : ℕ) (start : Effects) (o now : Output) → Does o start now → OperandsSoFar c all all op k start o now
operands_begin c all op k start o now d = record { far = start; ends = refl; does = d }

pub operands_step : (c : Scope) (rest rest' all : OperandTrees) (op : LogicalOp) (k : ℕ) (start : Effects) (o now now' : Output) (s : Span) (e : tree.ExprTree) →
    rest ≡ operand_and (operand s e) rest' → (sf : OperandsSoFar c rest all op k start o now) → Does o (operand_in c (operand s e) op k sf.far (next o)) now' → OperandsSoFar c rest' all op k start o now'
operands_step c rest rest' all op k start o now now' s e split sf d = record {
  far = operand_in c (operand s e) op k sf.far (next o);
  ends = ap (λ x. operands_in c x op k sf.far (next o)) (sym split) ∙ sf.ends;
  does = d;
}

pub operands_end : (c : Scope) (rest all : OperandTrees) (op : LogicalOp) (k : ℕ) (start : Effects) (o now : Output) → rest ≡ no_operands → OperandsSoFar c rest all op k start o now → Does o (operands_in c all op k start (next o)) now
operands_end c rest all op k start o now e sf = subst (λ z. Does o z now) (ap (λ x. operands_in c x op k sf.far (next o)) (sym e) ∙ sf.ends) sf.does

-- ---- the steps of a place

pub record StepsSoFar (c : Scope) (rest all : StepTrees) (root : RootTree) (start : LoweredPlace) (o now : Output) (f : Found) : Type 0 where
  pub before : List StepTree
  pub far : LoweredPlace
  pub ends : steps_in c rest root before far (next o) ≡ steps_in c all root [] start (next o)
  pub finds : Finds o far now f

pub steps_begin : (c : Scope) (all : StepTrees) (root : RootTree) (start : LoweredPlace) (o now : Output) (f : Found) → Finds o start now f → StepsSoFar c all all root start o now f
steps_begin c all root start o now f h = record { before = []; far = start; ends = refl; finds = h }

one_step : (c : Scope) (x : StepTree) (rest : StepTrees) (root : RootTree) (before : List StepTree) (far : LoweredPlace) (n : ℕ) → steps_in c rest root (before ++ x ∷ []) (step_in c x root before far n) n ≡ steps_in c (step_and x rest) root before far n
one_step c (tree.field k) rest root before far n = refl
one_step c (tree.item e s) rest root before far n = refl

pub steps_step : (c : Scope) (rest rest' all : StepTrees) (root : RootTree) (start : LoweredPlace) (o now now' : Output) (f g : Found) (x : StepTree) →
    rest ≡ step_and x rest' → (sf : StepsSoFar c rest all root start o now f) → Finds o (step_in c x root sf.before sf.far (next o)) now' g → StepsSoFar c rest' all root start o now' g
steps_step c rest rest' all root start o now now' f g x split sf h = record {
  before = sf.before ++ x ∷ [];
  far = step_in c x root sf.before sf.far (next o);
  ends = one_step c x rest' root sf.before sf.far (next o) ∙ ap (λ y. steps_in c y root sf.before sf.far (next o)) (sym split) ∙ sf.ends;
  finds = h;
}

pub steps_end : (c : Scope) (rest all : StepTrees) (root : RootTree) (start : LoweredPlace) (o now : Output) (f : Found) → rest ≡ no_steps → StepsSoFar c rest all root start o now f → Finds o (steps_in c all root [] start (next o)) now f
steps_end c rest all root start o now f e sf = subst (λ z. Finds o z now f) (ap (λ y. steps_in c y root sf.before sf.far (next o)) (sym e) ∙ sf.ends) sf.finds

-- ---- arguments: those so far, and what the others will make

pub record ArgumentsSoFar (rest all : Arguments) (o now : Output) (values : List ExprTree) : Type 0 where
  pub made : more now rest.stmts rest.temps ≡ more o all.stmts all.temps
  pub are : values ++ rest.values ≡ all.values

pub arguments_step : (c : Scope) (e : tree.ExprTree) (rest' rest : ExprTrees) (all : Arguments) (b : Bool) (o now now' : Output) (values values' : List ExprTree) (v : ExprTree) →
    rest ≡ expr_and e rest' → b ≡ not (are_pure rest') → ArgumentsSoFar (arguments_in c rest (next now)) all o now values → Gives now (argument_in c b e (next now)) now' v → values' ≡ values ++ v ∷ [] →
    ArgumentsSoFar (arguments_in c rest' (next now')) all o now' values'
arguments_step c e rest' rest all b o now now' values values' v split eb sf g pushed =
    let low = argument_in c (not (are_pure rest')) e (next now) in
    let g1 : Gives now low now' v = subst (λ z. Gives now (argument_in c z e (next now)) now' v) eb g in
    let sf1 : ArgumentsSoFar (arguments_in c (expr_and e rest') (next now)) all o now values = subst (λ z. ArgumentsSoFar (arguments_in c z (next now)) all o now values) split sf in
    let n : next now' ≡ past (next now) low.temps = next_after now now' low.stmts low.temps g1.made in
    let r = arguments_in c rest' (past (next now) low.temps) in
    subst (λ j. ArgumentsSoFar (arguments_in c rest' j) all o now' values') (sym n)
    (record {
      made = both now now' (more now' r.stmts r.temps) low.stmts r.stmts low.temps r.temps g1.made refl ∙ sf1.made;
      are = ap (λ z. z ++ r.values) pushed ∙ append_assoc values (v ∷ []) r.values ∙ ap (λ z. values ++ z ∷ r.values) g1.is ∙ sf1.are;
    })

pub arguments_end : (c : Scope) (rest : ExprTrees) (all : Arguments) (o now : Output) (values : List ExprTree) → rest ≡ no_exprs → ArgumentsSoFar (arguments_in c rest (next now)) all o now values → GivesAll o all now values
arguments_end c rest all o now values e sf =
    let sf1 : ArgumentsSoFar (arguments_in c no_exprs (next now)) all o now values = subst (λ z. ArgumentsSoFar (arguments_in c z (next now)) all o now values) e sf in
    record { made = nothing_made now ∙ sf1.made; are = sym (append-nil values) ∙ sf1.are }
