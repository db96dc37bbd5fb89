-- What the type judgments make of chains of operators: one side of a comparison may be null.
use Rattle.std.proofs.Common.{◌≡◌, refl, ap, sym, subst, List, [], ◌∷◌, ◌++◌, Bool, true, false, Option, Some, None, map, is_some, if◌then◌else◌, arith}
use Rattle.std.specs.Prelude.{◌&&◌, ◌||◌, not}
use Rattle.std.proofs.lemmas.Bool.Decides.{nat_tests}
use Rattle.pt_base.specs.declared.span.Span.{Span}
use Rattle.pt_base.proofs.Booleans.{both_hold, both_hold_first, both_hold_second, false_not_true}
use Rattle.pt_int.specs.declared.operator.BinOp.{BinOp}
use Rattle.pt_tree.specs.declared.operator.BinaryOp.{BinaryOp}
use Rattle.pt_tree.specs.declared.operator.BinaryOp.TheVariants.{LogicalOr, LogicalAnd}
use Rattle.type_rules.specs.declared.types.Type.{«Type»}
use Rattle.type_rules.specs.declared.types.Value.{Value}
use Rattle.type_rules.specs.declared.operators.Rule.{Rule}
use Rattle.type_rules.specs.declared.operators.Rule.TheVariants as rule
use Rattle.type_rules.specs.Types.{is_integer, is_bad}
use Rattle.type_rules.specs.Operators.{judged, takes, binary_rule, rule_type}
use Rattle.typed_tree.specs.declared.link.LogicalOp.{LogicalOp}
use Rattle.typed_tree.specs.declared.types.VarTy.{VarTy}
use Rattle.typed_tree.specs.ExpressionTree.{ExprTree, LinkTree, link, no_links, link_and, link_trees, operand_trees}
use Rattle.check_expressions.specs.Conversions.{as_type}
use Rattle.check_expressions.specs.Links.{SoFar, integer_op, logical_of, step_of, converted_by, link_rule, begun, link_type, has_none, first_by, linked, operand_of, links_tree, chained}
use Rattle.check_declarations.specs.declared.fault.FaultKind.TheVariants.{WrongType}
use Rattle.check_declarations.specs.Faults.{fault_at}
use Rattle.check_expressions.specs.Operands.{Known, Made, var_type, value_tree, plain, fine, refused}
use Rattle.half_names_law.specs.SaidNulls.{is_null, is_compared, stands, links_stand, operands_stand, is_placed}
use Rattle.half_names_law.proofs.SaidConversions.{not_null, placed_of, integer_stands, as_type_placed, is_pointers, converted_stands, KnownStands, faulty_stands, plain_stands, value_stands, value_null}

-- ---- one link

-- an operand that isn't null, behind what isn't
beside : (b o p : Bool) → o ≡ true → (if b then o || (not false && p) else not false && o) ≡ true
beside true true p h = refl
beside true false p h = false_not_true h
beside false o p h = h

-- an operand that is compared with what isn't null
compared : (o p : Bool) → (p || o) ≡ true → (o || (not false && p)) ≡ true
compared true p h = refl
compared false true h = refl
compared false false h = false_not_true h

-- an operand that isn't null, compared with what may be
compared_first : (nul o p : Bool) → o ≡ true → (o || (not nul && p)) ≡ true
compared_first nul true p h = refl
compared_first nul false p h = false_not_true h

-- a step behind what isn't null
link_stands : (r : Rule) (op : BinOp) (s : Span) (ty : VarTy) (own other : Value) (x : ExprTree) → stands x ≡ true → links_stand false (link_and (link s ty (step_of op r) (converted_by r own other x)) no_links) ≡ true
unfolding step_of converted_by
link_stands rule.ComparePointers op s ty own other x h = both_hold ((stands y) || (not false && is_null y)) true (compared (stands y) (is_null y) (go own.null)) refl
  where
    y : ExprTree
    y = if own.null then as_type other.ty true x else x

    go : (b : Bool) → is_placed (if b then as_type other.ty true x else x) ≡ true
    go true = as_type_placed other.ty true x h
    go false = placed_of x h
link_stands r op s ty own other x h = plain r refl h
  where
    plain : (r : Rule) → is_pointers r ≡ false → stands x ≡ true → links_stand false (link_and (link s ty (step_of op r) (converted_by r own other x)) no_links) ≡ true
    plain r p h = both_hold (if is_compared (step_of op r) then stands (converted_by r own other x) || (not false && is_null (converted_by r own other x)) else not false && stands (converted_by r own other x)) true
        (beside (is_compared (step_of op r)) (stands (converted_by r own other x)) (is_null (converted_by r own other x)) (converted_stands r own other x p h)) refl

-- a link more
links_more : (nul : Bool) (ls : List LinkTree) (l : LinkTree) → links_stand nul (link_trees ls) ≡ true → links_stand false (link_trees (l ∷ [])) ≡ true → links_stand nul (link_trees (ls ++ l ∷ [])) ≡ true
links_more true [] l h k = false_not_true h
links_more false [] l h k = k
links_more nul (link s ty op a ∷ rest) l h k =
    both_hold (if is_compared op then stands a || (not nul && is_null a) else not nul && stands a) (links_stand false (link_trees (rest ++ l ∷ [])))
    (both_hold_first (if is_compared op then stands a || (not nul && is_null a) else not nul && stands a) (links_stand false (link_trees rest)) h)
    (links_more false rest l (both_hold_second (if is_compared op then stands a || (not nul && is_null a) else not nul && stands a) (links_stand false (link_trees rest)) h) k)

operands_more : (ls : List LinkTree) (l : LinkTree) → operands_stand (operand_trees (map operand_of ls)) ≡ true → operands_stand (operand_trees (map operand_of (l ∷ []))) ≡ true → operands_stand (operand_trees (map operand_of (ls ++ l ∷ []))) ≡ true
unfolding operand_of
operands_more [] l h k = k
operands_more (link s ty op a ∷ rest) l h k = both_hold (stands a) (operands_stand (operand_trees (map operand_of (rest ++ l ∷ [])))) (both_hold_first (stands a) (operands_stand (operand_trees (map operand_of rest))) h) (operands_more rest l (both_hold_second (stands a) (operands_stand (operand_trees (map operand_of rest))) h) k)

-- ---- the first link

record Pair (op : BinOp) (s : Span) (ty : VarTy) (r : Rule) (v w : Value) (first x : ExprTree) : Type 0 where
  start : is_placed (converted_by r v w first) ≡ true
  next : links_stand (is_null (converted_by r v w first)) (link_and (link s ty (step_of op r) (converted_by r w v x)) no_links) ≡ true

-- two pointers, or one and a null constant, which is an integer
pair_pointers : (op : BinOp) (s : Span) (ty : VarTy) (t u : «Type») (b d : Bool) (first x : ExprTree) → (b ≡ true → is_integer t ≡ true) → (d ≡ true → is_integer u ≡ true) → stands first ≡ true → stands x ≡ true →
    Pair op s ty rule.ComparePointers (record { ty = t; null = b }) (record { ty = u; null = d }) first x
unfolding step_of converted_by
pair_pointers op s ty t u true true first x i j h k =
    let y = as_type t true x in
    let nul = is_null (as_type u true first) in
    record { start = as_type_placed u true first h; next = both_hold (stands y || (not nul && is_null y)) true (compared_first nul (stands y) (is_null y) (integer_stands t true x (i refl) k)) refl }
pair_pointers op s ty t u true false first x i j h k =
    let nul = is_null (as_type u true first) in
    record { start = as_type_placed u true first h; next = both_hold (stands x || (not nul && is_null x)) true (compared_first nul (stands x) (is_null x) k) refl }
pair_pointers op s ty t u false true first x i j h k =
    let y = as_type t true x in
    record {
      start = placed_of first h;
      next = both_hold (stands y || (not (is_null first) && is_null y)) true (subst (λ z. (stands y || (not z && is_null y)) ≡ true) (sym (not_null first h)) (compared (stands y) (is_null y) (as_type_placed t true x k))) refl;
    }
pair_pointers op s ty t u false false first x i j h k = record { start = placed_of first h; next = both_hold (stands x || (not (is_null first) && is_null x)) true (compared_first (is_null first) (stands x) (is_null x) k) refl }

pair_plain : (r : Rule) (op : BinOp) (s : Span) (ty : VarTy) (v w : Value) (first x : ExprTree) → is_pointers r ≡ false → stands first ≡ true → stands x ≡ true → Pair op s ty r v w first x
pair_plain r op s ty v w first x p h k =
    let a = converted_by r v w first in
    let y = converted_by r w v x in
    let step = step_of op r in
    let stand = converted_stands r v w first p h in
    record {
      start = placed_of a stand;
      next = subst (λ z. links_stand z (link_and (link s ty step y) no_links) ≡ true) (sym (not_null a stand))
          (both_hold (if is_compared step then stands y || (not false && is_null y) else not false && stands y) true (beside (is_compared step) (stands y) (is_null y) (converted_stands r w v x p k)) refl);
    }

pair_stands : (r : Rule) (op : BinOp) (s : Span) (ty : VarTy) (v w : Value) (first x : ExprTree) → (v.null ≡ true → is_integer v.ty ≡ true) → (w.null ≡ true → is_integer w.ty ≡ true) → stands first ≡ true → stands x ≡ true → Pair op s ty r v w first x
pair_stands rule.ComparePointers op s ty v w first x i j h k = pair_pointers op s ty v.ty w.ty v.null w.null first x i j h k
pair_stands r op s ty v w first x i j h k = pair_plain r op s ty v w first x refl h k

-- ---- chains so far

-- of values
pub record Going (far : SoFar) : Type 0 where
  pub start : is_placed far.first ≡ true
  pub links : links_stand (is_null far.first) (link_trees far.links) ≡ true
  pub null : far.value.null ≡ true → is_integer far.value.ty ≡ true

-- of truth values
pub record Truths (far : SoFar) : Type 0 where
  pub start : stands far.first ≡ true
  pub operands : operands_stand (operand_trees (map operand_of far.links)) ≡ true

abbrev pub Under : Bool → SoFar → Type 0
Under true far = Truths far
Under false far = Going far

pub begun_stands : (is_logical : Bool) (at : Span) (k : Known) → KnownStands k → Under is_logical (begun at k)
unfolding begun
begun_stands true at k h = record { start = value_stands at k h; operands = refl }
begun_stands false at k h = record { start = placed_of (value_tree at k) (value_stands at k h); links = ap not (not_null (value_tree at k) (value_stands at k h)); null = value_null k h }

some_links : (l : LinkTree) (ls : List LinkTree) → has_none (l ∷ ls) ≡ false
unfolding has_none
some_links l ls = grind (arith, nat_tests)

-- the first operand alone isn't null
alone : (p o : Bool) → (p || o) ≡ true → not p ≡ true → o ≡ true
alone true o h k = false_not_true k
alone false o h k = h

going_on : (r : Rule) (op : BinaryOp) (sp at : Span) (v w : Value) (first x : ExprTree) (ls : List LinkTree) → Going (record { value = v; span = at; first = first; links = ls }) → (w.null ≡ true → is_integer w.ty ≡ true) → stands x ≡ true → Going (linked r op sp (record { value = v; span = at; first = first; links = ls }) w x)
unfolding linked first_by has_none
going_on r op sp at v w first x [] h j k =
    let pair = pair_stands r (integer_op op) sp (link_type (rule_type r v w)) v w first x h.null j (alone (is_null first) (stands first) h.start h.links) k in
    record { start = pair.start; links = pair.next; null = λ e. false_not_true e }
going_on r op sp at v w first x (l ∷ ls) h j k =
    let new = link sp (link_type (rule_type r v w)) (step_of (integer_op op) r) (converted_by r w v x) in
    let same : first_by (has_none (l ∷ ls)) r v w first ≡ first = ap (λ b. first_by b r v w first) (some_links l ls) in
    record {
      start = subst (λ z. is_placed z ≡ true) (sym same) h.start;
      links = subst (λ z. links_stand (is_null z) (link_trees ((l ∷ ls) ++ new ∷ [])) ≡ true) (sym same)
          (links_more (is_null first) (l ∷ ls) new h.links (link_stands r (integer_op op) sp (link_type (rule_type r v w)) w v x k));
      null = λ e. false_not_true e;
    }

-- ---- `&&` and `||`

-- the rule converts nothing
abbrev converts_nothing : Rule → Bool
converts_nothing rule.Unknown = true
converts_nothing (rule.Wrong left right) = true
converts_nothing rule.Logical = true
converts_nothing _ = false

unconverted : (r : Rule) (own other : Value) (x : ExprTree) → converts_nothing r ≡ true → converted_by r own other x ≡ x
unfolding converted_by
unconverted rule.Unknown own other x h = refl
unconverted (rule.Wrong left right) own other x h = refl
unconverted rule.Logical own other x h = refl
unconverted (rule.Arithmetic t) own other x h = false_not_true h
unconverted (rule.Comparison t) own other x h = false_not_true h
unconverted (rule.Shift t) own other x h = false_not_true h
unconverted rule.Move own other x h = false_not_true h
unconverted rule.MoveBy own other x h = false_not_true h
unconverted rule.Difference own other x h = false_not_true h
unconverted rule.ComparePointers own other x h = false_not_true h

judged_nothing : (bad left right : Bool) → converts_nothing (judged bad left right rule.Logical) ≡ true
judged_nothing true left right = refl
judged_nothing false true true = refl
judged_nothing false true false = refl
judged_nothing false false right = refl

logical_rule : (op : BinaryOp) (v w : Value) → converts_nothing (link_rule true op v w) ≡ true
unfolding link_rule logical_of binary_rule
logical_rule LogicalOr v w = judged_nothing (is_bad v.ty || is_bad w.ty) (takes LogicalOr v.ty) (takes LogicalOr w.ty)
logical_rule LogicalAnd v w = judged_nothing (is_bad v.ty || is_bad w.ty) (takes LogicalAnd v.ty) (takes LogicalAnd w.ty)
logical_rule op v w = refl

first_same : (b : Bool) (r : Rule) (v w : Value) (x : ExprTree) → converts_nothing r ≡ true → first_by b r v w x ≡ x
unfolding first_by
first_same true r v w x h = unconverted r v w x h
first_same false r v w x h = refl

truths_on : (r : Rule) (op : BinaryOp) (sp : Span) (far : SoFar) (w : Value) (x : ExprTree) → converts_nothing r ≡ true → Truths far → stands x ≡ true → Truths (linked r op sp far w x)
unfolding linked operand_of
truths_on r op sp far w x n h k =
    let y = converted_by r w far.value x in
    let new = link sp (link_type (rule_type r far.value w)) (step_of (integer_op op) r) y in
    record {
      start = subst (λ z. stands z ≡ true) (sym (first_same (has_none far.links) r far.value w far.first n)) h.start;
      operands = operands_more far.links new h.operands (both_hold (stands y) true (subst (λ z. stands z ≡ true) (sym (unconverted r w far.value x n)) k) refl);
    }

-- ---- any link, and whole chains

pub linked_stands : (is_logical : Bool) (op : BinaryOp) (sp : Span) (far : SoFar) (w : Value) (x : ExprTree) → Under is_logical far → (w.null ≡ true → is_integer w.ty ≡ true) → stands x ≡ true → Under is_logical (linked (link_rule is_logical op far.value w) op sp far w x)
linked_stands true op sp far w x h j k = truths_on (link_rule true op far.value w) op sp far w x (logical_rule op far.value w) h k
linked_stands false op sp far w x h j k = going_on (link_rule false op far.value w) op sp far.span far.value w far.first x far.links h j k

chain_tree : (s : Span) (far : SoFar) → Going far → stands (links_tree None s (var_type far.value.ty) far.first far.links) ≡ true
unfolding links_tree
chain_tree s far h = both_hold (is_placed far.first) (links_stand (is_null far.first) (link_trees far.links)) h.start h.links

truth_tree : (op : LogicalOp) (s : Span) (far : SoFar) → Truths far → stands (links_tree (Some op) s (var_type far.value.ty) far.first far.links) ≡ true
unfolding links_tree
truth_tree op s far h = both_hold (stands far.first) (operands_stand (operand_trees (map operand_of far.links))) h.start h.operands

either : (b : Bool) (m n : Made) → KnownStands m.operand → KnownStands n.operand → KnownStands (if b then m else n).operand
either true m n h k = h
either false m n h k = k

pub chained_stands : (o : Option LogicalOp) (s : Span) (far : SoFar) → Under (is_some o) far → KnownStands (chained o s far).operand
unfolding chained
chained_stands None s far h = either (has_none far.links) (refused (fault_at WrongType s ∷ [])) (fine (plain far.value.ty (links_tree None s (var_type far.value.ty) far.first far.links))) faulty_stands (plain_stands far.value.ty (links_tree None s (var_type far.value.ty) far.first far.links) (chain_tree s far h))
chained_stands (Some op) s far h = either (has_none far.links) (refused (fault_at WrongType s ∷ [])) (fine (plain far.value.ty (links_tree (Some op) s (var_type far.value.ty) far.first far.links))) faulty_stands (plain_stands far.value.ty (links_tree (Some op) s (var_type far.value.ty) far.first far.links) (truth_tree op s far h))
