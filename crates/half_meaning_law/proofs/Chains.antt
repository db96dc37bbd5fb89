-- Chains of operators: what is so far, and one link more.
use Rattle.std.proofs.Common.{◌≡◌, ◌∙◌, refl, ap, sym, subst, Bool, true, false, Some, List, [], ◌∷◌, ◌++◌, Result, suc, length, arith}
use Rattle.pt_base.specs.declared.span.Span.{Span}
use Rattle.pt_base.proofs.Booleans.{true_not_false}
use Rattle.pt_base.proofs.Numbers.{nat_eq_other}
use Rattle.runs.specs.State as r
use Rattle.runs.specs.State.{gives, trapped, spent, ◌>>=◌}
use Rattle.pt_tree.specs.declared.operator.BinaryOp.{BinaryOp}
use Rattle.type_rules.specs.declared.types.Type.{«Type»}
use Rattle.type_rules.specs.declared.types.Type.TheVariants as ty
use Rattle.type_rules.specs.declared.types.Value.{Value}
use Rattle.type_rules.specs.declared.operators.Rule.{Rule}
use Rattle.type_rules.specs.Operators.{rule_type}
use Rattle.typed_tree.specs.declared.types.VarTy.{VarTy}
use Rattle.typed_tree.specs.declared.types.VarTy.TheVariants as v
use Rattle.typed_tree.specs.declared.link.LinkStep.{LinkStep}
use Rattle.typed_tree.specs.ExpressionTree as t
use Rattle.typed_tree.specs.ExpressionTree.{typed, link, link_trees}
use Rattle.typed_tree.specs.WellFormedExpression.{ty_of}
use Rattle.check_declarations.specs.Structs.{Structs}
use Rattle.check_expressions.specs.Expressions.{Judged}
use Rattle.check_expressions.specs.Links.{SoFar, begun, linked, link_rule, link_type, rule_faults, step_of, integer_op, converted_by, first_by, has_none}
use Rattle.check_expressions.specs.Operands.{var_type, value_of, value_tree}
use Rattle.type_rules.specs.Types.{value_type}
use Rattle.block_memory.specs.declared.cell.Cell as core
use Rattle.block_memory.specs.Blocks.{Blocks}
use Rattle.source_meaning.specs.State.{State, Outcome}
use Rattle.source_meaning.specs.Values as m
use Rattle.source_meaning.specs.Values.{cell_of, stepped}
use Rattle.source_meaning.specs.Expressions as x
use Rattle.pt_core.specs.CodeTree.{ExprTree}
use Rattle.pt_core.specs.Types.{type_of}
use Rattle.pt_core.specs.Values.{Stop, ◌>>?◌}
use Rattle.pt_core.specs.Statements as c
use Rattle.half_meaning_law.specs.Relations.{Scene, context_of, is_pointer, Alike, reach_of}
use Rattle.half_meaning_law.specs.CForms.{c_type}
use Rattle.half_meaning_law.specs.Known.{type_as}
use Rattle.half_meaning_law.specs.Expressions.{Evaluates, IsValue, SameValues, asked, ExpressionMeans}
use Rattle.half_meaning_law.proofs.Operators.{ev_bind, Told, value_told}

-- ---- runs of chains

pub bind_gives : {M A : Type 0} (o : r.Outcome M A) → (o >>= λ a st. gives a st) ≡ o
bind_gives (gives a st) = refl
bind_gives (trapped trap span st) = refl
bind_gives (spent st) = refl

-- the type of what links give
abbrev pub last_type : VarTy → List t.LinkTree → VarTy
last_type ty [] = ty
last_type ty (l ∷ ls) = last_type (x.link_type l) ls

bind_split : {M A B D : Type 0} (o : r.Outcome M A) (f : A → r.State M → r.Outcome M D) (g : A → r.State M → r.Outcome M B) (k : B → r.State M → r.Outcome M D) →
    ((a : A) (st : r.State M) → f a st ≡ (g a st >>= k)) → (o >>= f) ≡ ((o >>= g) >>= k)
bind_split (gives a st) f g k same = same a st
bind_split (trapped trap span st) f g k same = refl
bind_split (spent st) f g k same = refl

pub links_more : (ls : List t.LinkTree) (l : t.LinkTree) (ty : VarTy) (v : m.Value) (c : x.Context) (st : State) →
    x.links_value (link_trees (ls ++ l ∷ [])) ty v c st ≡ (x.links_value (link_trees ls) ty v c st >>= λ w. x.link_value l (last_type ty ls) w c)
links_more [] l ty v c st = bind_gives (x.link_value l ty v c st)
links_more (k ∷ ks) l ty v c st =
    bind_split (x.link_value k ty v c st) (λ w. x.links_value (link_trees (ks ++ l ∷ [])) (x.link_type k) w c) (λ w. x.links_value (link_trees ks) (x.link_type k) w c)
    (λ w. x.link_value l (last_type (x.link_type k) ks) w c) (λ w st1. links_more ks l (x.link_type k) w c st1)

last_more : (ls : List t.LinkTree) (l : t.LinkTree) (ty : VarTy) → last_type ty (ls ++ l ∷ []) ≡ x.link_type l
last_more [] l ty = refl
last_more (k ∷ ks) l ty = last_more ks l (x.link_type k)

-- the value of a chain so far
abbrev pub chain_run : Scene → SoFar → State → Outcome m.Value
chain_run s far st = x.value_of far.first (context_of s) st >>= λ v. x.links_value (link_trees far.links) (x.type_of far.first) v (context_of s)

-- ---- types of trees

pub type_of_typed : (a : t.ExprTree) (ty : VarTy) → ty_of a ≡ Some ty → x.type_of a ≡ ty
type_of_typed (typed s u f) ty h = ap x.type_or_int h

pub var_type_as : (u : VarTy) → var_type (type_as u) ≡ Some u
unfolding var_type
var_type_as (v.Int t) = refl
var_type_as (v.Struct n) = refl
var_type_as (v.Array elem count) = refl
var_type_as (v.Pointer elem fixed) = refl

pub link_type_as : (u : VarTy) → link_type (type_as u) ≡ u
unfolding link_type var_type
link_type_as (v.Int t) = refl
link_type_as (v.Struct n) = refl
link_type_as (v.Array elem count) = refl
link_type_as (v.Pointer elem fixed) = refl

-- the type of a value is that of a value
pub value_whole : (t : «Type») (fixed : Bool) → value_type (value_type t fixed) false ≡ value_type t fixed
value_whole ty.Bad fixed = refl
value_whole ty.Void fixed = refl
value_whole (ty.Int t) fixed = refl
value_whole (ty.Struct n) fixed = refl
value_whole (ty.Array elem count) fixed = refl
value_whole (ty.Pointer elem f) fixed = refl

-- ---- what is so far

-- a chain so far is the normal form's expression
pub record FarHolds (s : Scene) (a : ExprTree) (far : SoFar) : Type 0 where
  pub typed : far.value.ty ≡ type_as (c_type s.context a)
  pub plain : is_pointer (type_of s.context a) ≡ true → far.value.null ≡ false
  pub whole : value_type far.value.ty false ≡ far.value.ty
  pub last : last_type (x.type_of far.first) far.links ≡ c_type s.context a
  pub tree : has_none far.links ≡ true → ty_of far.first ≡ Some (c_type s.context a)
  pub same : (st : State) (st' : c.State) → Alike s st st' → Evaluates (IsValue s (type_of s.context a)) st (chain_run s far st) (asked s a st'.memory)

pub begun_holds : (s : Scene) (structs : Structs) (a : ExprTree) (j : Judged) (at : Span) → ExpressionMeans s structs a j → FarHolds s a (begun at j.operand)
unfolding begun value_of
begun_holds s structs a j at h = record {
  typed = h.typed;
  plain = h.plain;
  whole = value_whole j.operand.ty j.operand.fixed;
  last = type_of_typed (value_tree at j.operand) (c_type s.context a) (h.tree at);
  tree = λ none. h.tree at;
  same = λ st st' al. subst (λ o. Evaluates (IsValue s (type_of s.context a)) st o (asked s a st'.memory)) (sym (bind_gives (x.value_of (value_tree at j.operand) (context_of s) st))) (h.same at st st' al);
}

-- what the normal form makes of two cells
abbrev pub Combines : Type 0
Combines = core.Cell → core.Cell → Result core.Cell Stop

-- the links give the value of `a`, and one more with the operand `b` that of `d`
run_link : (s : Scene) (a b d : ExprTree) (first : t.ExprTree) (links : List t.LinkTree) (sp : Span) (to : VarTy) (step : LinkStep) (y : t.ExprTree) (combine : Combines) →
    ((st : State) (st' : c.State) → Alike s st st' → Evaluates (IsValue s (type_of s.context a)) st (x.value_of first (context_of s) st >>= λ v. x.links_value (link_trees links) (x.type_of first) v (context_of s)) (asked s a st'.memory)) →
    SameValues s (type_of s.context b) y (asked s b) →
    ((blocks : Blocks) → asked s d blocks ≡ (asked s a blocks >>? λ p. asked s b blocks >>? λ q. combine p q)) →
    ((v : m.Value) (p : core.Cell) (w : m.Value) (q : core.Cell) → IsValue s (type_of s.context a) v p → IsValue s (type_of s.context b) w q →
    Told s (reach_of s (type_of s.context d)) (stepped (x.sizes (context_of s)) (last_type (x.type_of first) links) step (cell_of v) (cell_of w)) (combine p q)) →
    (st : State) (st' : c.State) → Alike s st st' →
    Evaluates (IsValue s (type_of s.context d)) st (x.value_of first (context_of s) st >>= λ v. x.links_value (link_trees (links ++ link sp to step y ∷ [])) (x.type_of first) v (context_of s)) (asked s d st'.memory)
run_link s a b d first links sp to step y combine so_far right core_is steps st st' al =
    subst (λ z. Evaluates (IsValue s (type_of s.context d)) st (x.value_of first (context_of s) st >>= λ v. x.links_value (link_trees (links ++ link sp to step y ∷ [])) (x.type_of first) v (context_of s)) z) (sym (core_is st'.memory))
    (subst (λ o. Evaluates (IsValue s (type_of s.context d)) st o (asked s a st'.memory >>? λ p. asked s b st'.memory >>? λ q. combine p q))
    (sym (bind_split (x.value_of first (context_of s) st) (λ v. x.links_value (link_trees (links ++ link sp to step y ∷ [])) (x.type_of first) v (context_of s)) (λ v. x.links_value (link_trees links) (x.type_of first) v (context_of s))
    (λ w. x.link_value (link sp to step y) (last_type (x.type_of first) links) w (context_of s)) (λ v st1. links_more links (link sp to step y) (x.type_of first) v (context_of s) st1)))
    (ev_bind (IsValue s (type_of s.context a)) (IsValue s (type_of s.context d)) st (x.value_of first (context_of s) st >>= λ v. x.links_value (link_trees links) (x.type_of first) v (context_of s)) (asked s a st'.memory)
    (λ w. x.link_value (link sp to step y) (last_type (x.type_of first) links) w (context_of s)) (λ p. asked s b st'.memory >>? λ q. combine p q) (so_far st st' al)
    (λ v p is. ev_bind (IsValue s (type_of s.context b)) (IsValue s (type_of s.context d)) st (x.value_of y (context_of s) st) (asked s b st'.memory)
    (λ w. x.cell_or_trap sp (stepped (x.sizes (context_of s)) (last_type (x.type_of first) links) step (cell_of v) (cell_of w))) (λ q. combine p q) (right st st' al)
    (λ w q is'. value_told s (type_of s.context d) sp st (stepped (x.sizes (context_of s)) (last_type (x.type_of first) links) step (cell_of v) (cell_of w)) (combine p q) (steps v p w q is is')))))

-- no links, and one more
pub some_links : (links : List t.LinkTree) (l : t.LinkTree) → has_none (links ++ l ∷ []) ≡ false
unfolding has_none
some_links [] l = refl
some_links (k ∷ ks) l = nat_eq_other (suc (length (ks ++ l ∷ []))) 0 (λ h. omega (arith, h))

-- what is needed of a link with the operand `b` behind a chain that is `a`, to be `d`
pub record LinkHolds (s : Scene) (a b d : ExprTree) (op : BinaryOp) (far : SoFar) (w : Value) (y : t.ExprTree) : Type 0 where
  pub rule : Rule
  pub is : link_rule false op far.value w ≡ rule
  pub fine : (left right : Span) → rule_faults rule left right ≡ []
  pub typed : rule_type rule far.value w ≡ type_as (c_type s.context d)
  pub whole : value_type (type_as (c_type s.context d)) false ≡ type_as (c_type s.context d)
  -- the chain so far, its first operand converted
  pub first_now : t.ExprTree
  pub first : first_by (has_none far.links) rule far.value w far.first ≡ first_now
  pub left : VarTy
  pub last : last_type (x.type_of first_now) far.links ≡ left
  pub so_far : (st : State) (st' : c.State) → Alike s st st' →
      Evaluates (IsValue s (type_of s.context a)) st (x.value_of first_now (context_of s) st >>= λ v. x.links_value (link_trees far.links) (x.type_of first_now) v (context_of s)) (asked s a st'.memory)
  pub right : SameValues s (type_of s.context b) (converted_by rule w far.value y) (asked s b)
  pub combine : Combines
  pub asks : (blocks : Blocks) → asked s d blocks ≡ (asked s a blocks >>? λ p. asked s b blocks >>? λ q. combine p q)
  pub steps : (v : m.Value) (p : core.Cell) (u : m.Value) (q : core.Cell) → IsValue s (type_of s.context a) v p → IsValue s (type_of s.context b) u q →
      Told s (reach_of s (type_of s.context d)) (stepped (x.sizes (context_of s)) left (step_of (integer_op op) rule) (cell_of v) (cell_of u)) (combine p q)

pub link_held : (s : Scene) (a b d : ExprTree) (op : BinaryOp) (far : SoFar) (w : Value) (y : t.ExprTree) (sp : Span) → LinkHolds s a b d op far w y → FarHolds s d (linked (link_rule false op far.value w) op sp far w y)
unfolding linked
link_held s a b d op far w y sp l =
    subst (λ z. FarHolds s d (linked z op sp far w y)) (sym l.is) (record {
      typed = l.typed;
      plain = λ p. refl;
      whole = ap (λ z. value_type z false) l.typed ∙ l.whole ∙ sym l.typed;
      last = last_more far.links new (x.type_of (first_by (has_none far.links) l.rule far.value w far.first)) ∙ ap link_type l.typed ∙ link_type_as (c_type s.context d);
      tree = λ none. true_not_false (sym none ∙ some_links far.links new);
      same = subst (λ z. (st : State) (st' : c.State) → Alike s st st' → Evaluates (IsValue s (type_of s.context d)) st (x.value_of z (context_of s) st >>= λ v. x.links_value (link_trees (far.links ++ new ∷ [])) (x.type_of z) v (context_of s)) (asked s d st'.memory)) (sym l.first)
          (run_link s a b d l.first_now far.links sp (link_type (rule_type l.rule far.value w)) (step_of (integer_op op) l.rule) (converted_by l.rule w far.value y) l.combine l.so_far l.right l.asks
          (λ v p u q is is'. subst (λ z. Told s (reach_of s (type_of s.context d)) (stepped (x.sizes (context_of s)) z (step_of (integer_op op) l.rule) (cell_of v) (cell_of u)) (l.combine p q)) (sym l.last) (l.steps v p u q is is')));
    })
  where
    new : t.LinkTree
    new = link sp (link_type (rule_type l.rule far.value w)) (step_of (integer_op op) l.rule) (converted_by l.rule w far.value y)
