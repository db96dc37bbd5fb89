-- Which temporaries a lowering takes, and where it takes no statement.
use Rattle.std.proofs.Common.{◌≡◌, ℕ, suc, ◌+◌, refl, sym, subst, arith, Bool, true, false, not, Option, Some, None, List, [], ◌∷◌, ◌++◌, length}
use Rattle.std.specs.Prelude.{IsTrue, ◌&&◌, ◌||◌}
use Rattle.pt_base.specs.declared.span.Span.{Span}
use Rattle.pt_base.proofs.Booleans.{both_hold_first, both_hold_second}
use Rattle.pt_base.proofs.Lists.{append_nils}
use Rattle.typed_tree.specs.declared.types.VarTy.{VarTy}
use Rattle.typed_tree.specs.declared.link.LinkStep.{LinkStep}
use Rattle.typed_tree.specs.declared.link.LogicalOp.{LogicalOp}
use Rattle.typed_tree.specs.ExpressionTree as t
use Rattle.typed_tree.specs.ExpressionTree.{ExprTree, typed, FormTree, ExprTrees, no_exprs, expr_and, LinkTree, LinkTrees, no_links, link_and, link, OperandTrees, no_operands, operand_and, operand, PlaceTree, place, RootTree, StepTree, StepTrees, no_steps, step_and, step_trees}
use Rattle.source_meaning.specs.Expressions.{type_of}
use Rattle.pt_core.specs.CodeTree.{StmtTree, decay}
use Rattle.lowering.specs.Lowered.{Temp, Effects, Lowered, LoweredPlace, past, holding, held_if}
use Rattle.lowering.specs.Purity.{takes_left_first, is_pure, is_pure_form, are_pure_links, is_pure_place, is_pure_root, are_pure_steps, are_pure}
use Rattle.lowering.specs.Expressions.{Scope, value_in, form_in, links_in, operands_in, arguments_in, place_in, root_in, steps_in, chain_so_far, linked, with_operand, decayed, decayed_type, element_place, field_in}
use Rattle.c_lower_law.proofs.Relations.{HasTemps}
use Rattle.c_lower_law.proofs.Held.{temps_first}

-- ---- temporaries that were taken before

pub held_first : (variables : List VarTy) (n : ℕ) (b : Bool) (x : Temp) (far : Lowered) → HasTemps variables n (held_if b n x far).temps → HasTemps variables n far.temps
held_first variables n true x far h = temps_first variables n far.temps (x ∷ []) h
held_first variables n false x far h = h

-- whether the value so far of a chain is held, and how
abbrev pub link_ready : ExprTree → List LinkTree → Span → VarTy → LinkStep → ExprTree → Lowered → ℕ → Lowered
link_ready first before s ty step e far n = held_if (not (takes_left_first step) || not (is_pure e)) n (holding ty (chain_so_far first before s ty)) far

abbrev pub link_next : Scope → ExprTree → List LinkTree → Span → VarTy → Span → LinkStep → ExprTree → Lowered → ℕ → Lowered
link_next c first before s ty at step e far n =
    let ready = link_ready first before s ty step e far n in linked ty step at ready (value_in c e (past n ready.temps))

pub links_first : (links : LinkTrees) (c : Scope) (variables : List VarTy) (first : ExprTree) (before : List LinkTree) (s : Span) (ty : VarTy) (far : Lowered) (n : ℕ) → HasTemps variables n (links_in c links first before s ty far n).temps → HasTemps variables n far.temps
links_first no_links c variables first before s ty far n h = h
links_first (link_and (link at to step e) rest) c variables first before s ty far n h =
    held_first variables n (not (takes_left_first step) || not (is_pure e)) (holding ty (chain_so_far first before s ty)) far
    (temps_first variables n (link_ready first before s ty step e far n).temps (value_in c e (past n (link_ready first before s ty step e far n).temps)).temps
    (links_first rest c variables first (before ++ link at to step e ∷ []) at to (link_next c first before s ty at step e far n) n h))

pub operands_first : (operands : OperandTrees) (c : Scope) (variables : List VarTy) (op : LogicalOp) (k : ℕ) (far : Effects) (n : ℕ) → HasTemps variables n (operands_in c operands op k far n).temps → HasTemps variables n far.temps
operands_first no_operands c variables op k far n h = h
operands_first (operand_and (operand s e) rest) c variables op k far n h =
    temps_first variables n far.temps (value_in c e (past n far.temps)).temps
    (operands_first rest c variables op k (with_operand op k (type_of e) s far (value_in c e (past n far.temps))) n h)

-- the decayed array before an index, held or not
abbrev pub item_base : Span → RootTree → List StepTree → LoweredPlace → ExprTree → ℕ → Lowered
item_base s root before far e n =
    held_if (not (is_pure e)) n (holding (decayed_type far.fixed far.ty) (decayed s (t.place root (step_trees before)) far)) (record { stmts = far.stmts; value = decay far.place; temps = far.temps })

abbrev pub item_next : Scope → Span → RootTree → List StepTree → LoweredPlace → ExprTree → ℕ → LoweredPlace
item_next c s root before far e n =
    let base = item_base s root before far e n in element_place s (decayed s (t.place root (step_trees before)) far) e (decayed_type far.fixed far.ty) base (value_in c e (past n base.temps))

pub steps_first : (steps : StepTrees) (c : Scope) (variables : List VarTy) (root : RootTree) (before : List StepTree) (far : LoweredPlace) (n : ℕ) → HasTemps variables n (steps_in c steps root before far n).temps → HasTemps variables n far.temps
steps_first no_steps c variables root before far n h = h
steps_first (step_and (t.field k) rest) c variables root before far n h = steps_first rest c variables root (before ++ t.field k ∷ []) (field_in c k far) n h
steps_first (step_and (t.item e s) rest) c variables root before far n h =
    held_first variables n (not (is_pure e)) (holding (decayed_type far.fixed far.ty) (decayed s (t.place root (step_trees before)) far)) (record { stmts = far.stmts; value = decay far.place; temps = far.temps })
    (temps_first variables n (item_base s root before far e n).temps (value_in c e (past n (item_base s root before far e n).temps)).temps
    (steps_first rest c variables root (before ++ t.item e s ∷ []) (item_next c s root before far e n) n h))

-- ---- where nothing is run

-- no statement and no temporary
pub record Nothing (stmts : List StmtTree) (temps : List Temp) : Type 0 where
  pub stmts_none : stmts ≡ []
  pub temps_none : temps ≡ []

held_none : (b : Bool) (n : ℕ) (x : Temp) (far : Lowered) → b ≡ false → Nothing far.stmts far.temps → Nothing (held_if b n x far).stmts (held_if b n x far).temps
held_none true n x far e h = cc
held_none false n x far e h = h

not_so : (b : Bool) → b ≡ true → not b ≡ false
not_so true h = refl
not_so false h = cc

neither : (a b : Bool) → a ≡ true → b ≡ true → (not a || not b) ≡ false
neither true true h k = refl
neither true false h k = cc
neither false b h k = cc

both_none : (xs ys : List StmtTree) (zs ws : List Temp) → Nothing xs zs → Nothing ys ws → Nothing (xs ++ ys) (zs ++ ws)
both_none xs ys zs ws h k = record { stmts_none = append_nils xs ys h.stmts_none k.stmts_none; temps_none = append_nils zs ws h.temps_none k.temps_none }

mutual
  pub pure_value : (e : ExprTree) (c : Scope) (n : ℕ) → is_pure e ≡ true → Nothing (value_in c e n).stmts (value_in c e n).temps
  pure_value (typed s ty form) c n h = pure_form form s ty c n h

  pure_form : (form : FormTree) (s : Span) (ty : Option VarTy) (c : Scope) (n : ℕ) → is_pure_form form ≡ true → Nothing (form_in c form s ty n).stmts (form_in c form s ty n).temps
  pure_form (t.constant v) s ty c n h = record { stmts_none = refl; temps_none = refl }
  pure_form t.null s ty c n h = record { stmts_none = refl; temps_none = refl }
  pure_form (t.read p) s ty c n h = pure_place p c n h
  pure_form (t.decay p) s ty c n h = pure_place p c n h
  pure_form (t.address p) s ty c n h = pure_place p c n h
  pure_form (t.unary op a) s ty c n h = pure_value a c n h
  pure_form (t.convert a) s ty c n h = pure_value a c n h
  pure_form (t.discard a) s ty c n h = cc
  pure_form (t.chain a links) s ty c n h = pure_links links c a [] s (type_of a) (value_in c a n) n (both_hold_second (is_pure a) (are_pure_links links) h) (pure_value a c n (both_hold_first (is_pure a) (are_pure_links links) h))
  pure_form (t.logical op a others) s ty c n h = cc
  pure_form (t.choice a b d) s ty c n h = cc
  pure_form (t.assign p a) s ty c n h = cc
  pure_form (t.compound p at step a) s ty c n h = cc
  pure_form (t.step p at back postfix) s ty c n h = cc
  pure_form (t.call f arguments) s ty c n h = cc

  pure_links : (links : LinkTrees) (c : Scope) (first : ExprTree) (before : List LinkTree) (s : Span) (ty : VarTy) (far : Lowered) (n : ℕ) → are_pure_links links ≡ true → Nothing far.stmts far.temps →
      Nothing (links_in c links first before s ty far n).stmts (links_in c links first before s ty far n).temps
  pure_links no_links c first before s ty far n h k = k
  pure_links (link_and (link at to step e) rest) c first before s ty far n h k =
      let this = both_hold_first (takes_left_first step && is_pure e) (are_pure_links rest) h in
      pure_links rest c first (before ++ link at to step e ∷ []) at to (link_next c first before s ty at step e far n) n (both_hold_second (takes_left_first step && is_pure e) (are_pure_links rest) h)
      (both_none (link_ready first before s ty step e far n).stmts (value_in c e (past n (link_ready first before s ty step e far n).temps)).stmts (link_ready first before s ty step e far n).temps (value_in c e (past n (link_ready first before s ty step e far n).temps)).temps
      (held_none (not (takes_left_first step) || not (is_pure e)) n (holding ty (chain_so_far first before s ty)) far (neither (takes_left_first step) (is_pure e) (both_hold_first (takes_left_first step) (is_pure e) this) (both_hold_second (takes_left_first step) (is_pure e) this)) k)
      (pure_value e c (past n (link_ready first before s ty step e far n).temps) (both_hold_second (takes_left_first step) (is_pure e) this)))

  pure_place : (p : PlaceTree) (c : Scope) (n : ℕ) → is_pure_place p ≡ true → Nothing (place_in c p n).stmts (place_in c p n).temps
  pure_place (place root steps) c n h = pure_steps steps c root [] (root_in c root n) n (both_hold_second (is_pure_root root) (are_pure_steps steps) h) (pure_root root c n (both_hold_first (is_pure_root root) (are_pure_steps steps) h))

  pure_root : (root : RootTree) (c : Scope) (n : ℕ) → is_pure_root root ≡ true → Nothing (root_in c root n).stmts (root_in c root n).temps
  pure_root (t.local v) c n h = record { stmts_none = refl; temps_none = refl }
  pure_root (t.global g) c n h = record { stmts_none = refl; temps_none = refl }
  pure_root (t.deref e s) c n h = pure_value e c n h
  pure_root (t.assigned e) c n h = cc

  pure_steps : (steps : StepTrees) (c : Scope) (root : RootTree) (before : List StepTree) (far : LoweredPlace) (n : ℕ) → are_pure_steps steps ≡ true → Nothing far.stmts far.temps → Nothing (steps_in c steps root before far n).stmts (steps_in c steps root before far n).temps
  pure_steps no_steps c root before far n h k = k
  pure_steps (step_and (t.field j) rest) c root before far n h k = pure_steps rest c root (before ++ t.field j ∷ []) (field_in c j far) n h k
  pure_steps (step_and (t.item e s) rest) c root before far n h k =
      pure_steps rest c root (before ++ t.item e s ∷ []) (item_next c s root before far e n) n (both_hold_second (is_pure e) (are_pure_steps rest) h)
      (both_none (item_base s root before far e n).stmts (value_in c e (past n (item_base s root before far e n).temps)).stmts (item_base s root before far e n).temps (value_in c e (past n (item_base s root before far e n).temps)).temps
      (held_none (not (is_pure e)) n (holding (decayed_type far.fixed far.ty) (decayed s (t.place root (step_trees before)) far)) (record { stmts = far.stmts; value = decay far.place; temps = far.temps }) (not_so (is_pure e) (both_hold_first (is_pure e) (are_pure_steps rest) h)) k)
      (pure_value e c (past n (item_base s root before far e n).temps) (both_hold_first (is_pure e) (are_pure_steps rest) h)))

pub pure_arguments : (es : ExprTrees) (c : Scope) (n : ℕ) → are_pure es ≡ true → (arguments_in c es n).stmts ≡ []
pure_arguments no_exprs c n h = refl
pure_arguments (expr_and e rest) c n h =
    append_nils (held_if (not (are_pure rest)) n (holding (type_of e) e) (value_in c e n)).stmts (arguments_in c rest (past n (held_if (not (are_pure rest)) n (holding (type_of e) e) (value_in c e n)).temps)).stmts
    (held_none (not (are_pure rest)) n (holding (type_of e) e) (value_in c e n) (not_so (are_pure rest) (both_hold_second (is_pure e) (are_pure rest) h)) (pure_value e c n (both_hold_first (is_pure e) (are_pure rest) h))).stmts_none
    (pure_arguments rest c (past n (held_if (not (are_pure rest)) n (holding (type_of e) e) (value_in c e n)).temps) (both_hold_second (is_pure e) (are_pure rest) h))
