-- Operators before an operand, casts and constants.
use Rattle.std.proofs.Common.{◌≡◌, ◌∙◌, ℕ, ℤ, pos, negsuc, refl, ap, sym, subst, false, Option, Some, [], ◌++◌, Ok, None}
use Rattle.std.specs.Prelude.{IsTrue, is_some}
use Rattle.pt_base.specs.declared.int_type.IntType.{IntType}
use Rattle.pt_base.specs.declared.int_type.IntType.TheVariants as i
use Rattle.pt_base.specs.declared.span.Span.{Span}
use Rattle.pt_base.specs.IntTypes.{InRange}
use Rattle.pt_base.proofs.Booleans.{both_hold_first, both_hold_second, true_not_false}
use Rattle.pt_int.specs.declared.operator.UnOp.{UnOp}
use Rattle.pt_int.specs.declared.operator.UnOp.TheVariants.{Minus, Plus, Flip, Not}
use Rattle.pt_int.specs.Conversion.{conv, is_in_range}
use Rattle.pt_int.specs.Operator.{unary_of, unary_type}
use Rattle.pt_int.proofs.Conversions.{conv-same}
use Rattle.runs.specs.State.{gives, trapped, spent}
use Rattle.pt_tree.specs.declared.operator.PrefixOp.TheVariants as p
use Rattle.pt_tree.specs.SpecifierTree.{spec_trees}
use Rattle.pt_tree.specs.ExpressionTree as e
use Rattle.type_rules.specs.declared.types.Type.TheVariants as ty
use Rattle.type_rules.specs.declared.types.Value.{Value}
use Rattle.type_rules.specs.Operators.{promoted_rule, not_rule}
use Rattle.type_rules.specs.Conversions.{cast_rule}
use Rattle.typed_tree.specs.declared.types.VarTy.{VarTy}
use Rattle.typed_tree.specs.declared.types.VarTy.TheVariants as v
use Rattle.typed_tree.specs.ExpressionTree as t
use Rattle.typed_tree.specs.ExpressionTree.{typed}
use Rattle.typed_tree.specs.TypeTests.{integer_of, same_type, same_int}
use Rattle.typed_tree.specs.TypeRules.{unary_fits, is_promoted}
use Rattle.typed_tree.specs.WellFormedExpression.{ty_of}
use Rattle.check_declarations.specs.Structs.{Structs}
use Rattle.check_declarations.specs.Words.{are_one_of, same_words}
use Rattle.check_expressions.specs.Environment.{Env}
use Rattle.check_expressions.specs.Expressions.{Judged, CastBase, over, judge, cast_specified, literal}
use Rattle.check_expressions.specs.Conversions.{as_type, to_int}
use Rattle.check_expressions.specs.Operands.{Known, Made, fine, plain, value_of, value_tree, read_tree, span_of, var_type}
use Rattle.check_expressions.specs.Prefixes.{prefixed, computed, computed_by, unary_rule_of, unary_operand, cast_to, cast_by, cast_target}
use Rattle.block_memory.specs.declared.cell.Cell as core
use Rattle.block_memory.specs.declared.cell.Cell.TheVariants.{Int as int_cell}
use Rattle.runs.specs.Pointers.{if_ok}
use Rattle.source_meaning.specs.Memory.{Cell, number, null, pointer}
use Rattle.source_meaning.specs.State.{State, Outcome}
use Rattle.source_meaning.specs.Values as m
use Rattle.source_meaning.specs.Values.{holds, cell_of, unary_cell}
use Rattle.source_meaning.specs.Expressions as x
use Rattle.pt_core.specs.CodeTree.{ExprTree, constant, unary, convert}
use Rattle.pt_core.specs.Types.{type_of}
use Rattle.pt_core.specs.Values as w
use Rattle.pt_core.specs.Values.{Stop, ◌>>?◌, at_span, numbered, is_type}
use Rattle.pt_core.specs.WellFormedExpression.{takes_one}
use Rattle.half_trees.specs.Names.{nowhere}
use Rattle.half_trees.specs.Declarations.{int_specs}
use Rattle.half_trees.specs.Expressions as h
use Rattle.half_meaning_law.specs.Relations.{Scene, context_of, core_cell, CellFits, reach_of}
use Rattle.half_meaning_law.specs.CForms.{points_const, with_const, c_type}
use Rattle.half_meaning_law.specs.Known.{type_as}
use Rattle.half_meaning_law.specs.Expressions.{Evaluates, IsValue, SameValues, asked, IsFine, ExpressionMeans}
use Rattle.half_meaning_law.proofs.Chains.{type_of_typed}
use Rattle.half_meaning_law.proofs.Constants.{in_range, flipped_int, flipped_long, unsigned_int, unsigned_long, narrow_char, narrow_schar, narrow_uchar, narrow_short, narrow_ushort}
use Rattle.half_meaning_law.proofs.Operators.{ev_bind, Told, value_told, unary_told, converted_same, converted_fits}
use Rattle.typed_tree.proofs.SameTypes.{equal_types}
use Rattle.half_meaning_law.proofs.Types.{promoted_is, to_int_same}
use Rattle.half_meaning_law.proofs.Judged.{no_faults, Held}

-- ---- integers

-- the type of an integer in C
pub c_integer : (s : Scene) (a : ExprTree) (t : IntType) → type_of s.context a ≡ v.Int t → c_type s.context a ≡ v.Int t
c_integer s a t is = ap (with_const (points_const s.context a)) is

pub judged_integer : (s : Scene) (structs : Structs) (a : ExprTree) (j : Judged) (t : IntType) → ExpressionMeans s structs a j → type_of s.context a ≡ v.Int t → (value_of j.operand).ty ≡ ty.Int t
judged_integer s structs a j t h is = h.typed ∙ ap type_as (c_integer s a t is)

pub integer_tree : (s : Scene) (structs : Structs) (a : ExprTree) (j : Judged) (t : IntType) (at : Span) → ExpressionMeans s structs a j → type_of s.context a ≡ v.Int t → ty_of (value_tree at j.operand) ≡ Some (v.Int t)
integer_tree s structs a j t at h is = h.tree at ∙ ap Some (c_integer s a t is)

-- ---- + - ~ !

-- what the judgment makes of an integer operand
computed_is : (op : UnOp) (to : IntType) (sp at : Span) (k : Known) (y : t.ExprTree) → (value_of k).ty ≡ ty.Int to → value_tree at k ≡ y → ty_of y ≡ Some (v.Int to) → IsTrue (unary_fits op (Some (v.Int to)) (Some (v.Int (unary_type op to)))) →
    computed op sp at k ≡ fine (plain (ty.Int (unary_type op to)) (typed sp (Some (v.Int (unary_type op to))) (t.unary op y)))
unfolding computed computed_by unary_rule_of unary_operand promoted_rule not_rule var_type as_type
computed_is Not to sp at k y is tree typed_as ok =
    ap (λ z. computed_by (unary_rule_of Not z) Not sp at (value_tree at k)) is ∙ ap (λ z. fine (plain (ty.Int i.Int) (typed sp (Some (v.Int i.Int)) (t.unary Not z)))) tree
computed_is Minus to sp at k y is tree typed_as ok =
    ap (λ z. computed_by (unary_rule_of Minus z) Minus sp at (value_tree at k)) is
    ∙ ap (λ z. fine (plain (ty.Int z) (typed sp (Some (v.Int z)) (t.unary Minus (to_int z (value_tree at k)))))) (promoted_is to (both_hold_second (same_int to to) (is_promoted to) ok))
    ∙ ap (λ z. fine (plain (ty.Int to) (typed sp (Some (v.Int to)) (t.unary Minus z)))) (ap (to_int to) tree ∙ to_int_same to y typed_as)
computed_is Plus to sp at k y is tree typed_as ok =
    ap (λ z. computed_by (unary_rule_of Plus z) Plus sp at (value_tree at k)) is
    ∙ ap (λ z. fine (plain (ty.Int z) (typed sp (Some (v.Int z)) (t.unary Plus (to_int z (value_tree at k)))))) (promoted_is to (both_hold_second (same_int to to) (is_promoted to) ok))
    ∙ ap (λ z. fine (plain (ty.Int to) (typed sp (Some (v.Int to)) (t.unary Plus z)))) (ap (to_int to) tree ∙ to_int_same to y typed_as)
computed_is Flip to sp at k y is tree typed_as ok =
    ap (λ z. computed_by (unary_rule_of Flip z) Flip sp at (value_tree at k)) is
    ∙ ap (λ z. fine (plain (ty.Int z) (typed sp (Some (v.Int z)) (t.unary Flip (to_int z (value_tree at k)))))) (promoted_is to (both_hold_second (same_int to to) (is_promoted to) ok))
    ∙ ap (λ z. fine (plain (ty.Int to) (typed sp (Some (v.Int to)) (t.unary Flip z)))) (ap (to_int to) tree ∙ to_int_same to y typed_as)

prefix_is : (op : UnOp) (structs : Structs) (sp at : Span) (k : Known) → prefixed structs (h.prefix_of op) sp at k ≡ computed op sp at k
unfolding prefixed
prefix_is Minus structs sp at k = refl
prefix_is Plus structs sp at k = refl
prefix_is Flip structs sp at k = refl
prefix_is Not structs sp at k = refl

unary_same : (s : Scene) (a : ExprTree) (op : UnOp) (to : IntType) (y : t.ExprTree) (at sp : Span) (o : Option VarTy) → type_of s.context a ≡ v.Int to → x.type_of y ≡ v.Int to → SameValues s (type_of s.context a) y (asked s a) →
    SameValues s (v.Int (unary_type op to)) (typed at o (t.unary op y)) (asked s (unary op to a sp))
unary_same s a op to y at sp o is is' same st st' al =
    ev_bind (IsValue s (type_of s.context a)) (IsValue s (v.Int (unary_type op to))) st (x.value_of y (context_of s) st) (asked s a st'.memory) (λ u. x.cell_or_trap at (unary_cell op (x.type_of y) (cell_of u)))
    (λ u. numbered (at_span sp (unary_of op to (w.unary_operand op to u)))) (same st st' al)
    (λ u q h. value_told s (v.Int (unary_type op to)) at st (unary_cell op (x.type_of y) (cell_of u)) (numbered (at_span sp (unary_of op to (w.unary_operand op to q))))
    (subst (λ z. Told s None (unary_cell op (x.type_of y) (cell_of z)) (numbered (at_span sp (unary_of op to (w.unary_operand op to q))))) (sym h.is)
    (subst (λ z. Told s None (unary_cell op (x.type_of y) h.cell) (numbered (at_span sp (unary_of op to (w.unary_operand op to z))))) (sym h.same)
    (subst (λ z. Told s None (unary_cell op z h.cell) (numbered (at_span sp (unary_of op to (w.unary_operand op to (core_cell s h.cell)))))) (sym is')
    (unary_told s sp op to h.cell (subst (λ z. CellFits s (reach_of s z) h.cell) is h.fits))))))

pub unary_held : (s : Scene) (env : Env) (structs : Structs) (op : UnOp) (to : IntType) (a : ExprTree) (sp : Span) (tree : e.ExprTree) → IsTrue (takes_one op to (type_of s.context a)) → Held s env structs a tree →
    Held s env structs (unary op to a sp) (e.prefix nowhere (h.prefix_of op) tree)
unfolding judge value_of value_tree read_tree var_type
unary_held s env structs op to a sp tree ok held = record {
  means = subst (λ (z : Made). ExpressionMeans s structs (unary op to a sp) (over j.faults j.structs z))
      (sym (prefix_is op j.structs nowhere (span_of tree) j.operand ∙ computed_is op to nowhere (span_of tree) j.operand y (judged_integer s structs a j to held.means is) refl (integer_tree s structs a j to (span_of tree) held.means is) fits)) (record {
        fine = record { faults = no_faults j.faults [] held.means.fine.faults refl; structs_stay = held.means.fine.structs_stay };
        typed = refl;
        tree = λ at. refl;
        plain = λ p. refl;
        same = λ at. unary_same s a op to y nowhere sp (Some (v.Int (unary_type op to))) is (type_of_typed y (v.Int to) (integer_tree s structs a j to (span_of tree) held.means is)) (held.means.same (span_of tree));
      });
  chain = tt;
  shape = tt;
}
  where
    j : Judged
    j = judge env structs tree

    y : t.ExprTree
    y = value_tree (span_of tree) j.operand

    is : type_of s.context a ≡ v.Int to
    is = equal_types (type_of s.context a) (v.Int to) (both_hold_first (same_type (type_of s.context a) (v.Int to)) (unary_fits op (Some (v.Int to)) (Some (v.Int (unary_type op to)))) ok)

    fits : IsTrue (unary_fits op (Some (v.Int to)) (Some (v.Int (unary_type op to))))
    fits = both_hold_second (same_type (type_of s.context a) (v.Int to)) (unary_fits op (Some (v.Int to)) (Some (v.Int (unary_type op to)))) ok

-- ---- casts

-- the words of an integer type name it
specs_are : (to : IntType) (structs : Structs) → cast_specified structs (spec_trees (int_specs to)) ≡ record { base = ty.Int to; structs = structs; faults = [] }
unfolding cast_specified are_one_of same_words
specs_are i.Char structs = refl
specs_are i.SChar structs = refl
specs_are i.UChar structs = refl
specs_are i.Short structs = refl
specs_are i.UShort structs = refl
specs_are i.Int structs = refl
specs_are i.UInt structs = refl
specs_are i.Long structs = refl
specs_are i.ULong structs = refl

-- a cast of an integer
cast_is : (to u : IntType) (sp at : Span) (k : Known) → (value_of k).ty ≡ ty.Int u → cast_to false (ty.Int to) sp at k ≡ fine (plain (ty.Int to) (typed sp (Some (v.Int to)) (t.convert (value_tree at k))))
unfolding cast_to cast_by cast_rule cast_target
cast_is to u sp at k is = go (value_of k) is
  where
    go : (val : Value) → val.ty ≡ ty.Int u → cast_by (cast_rule (ty.Int to) val) sp at (value_tree at k) ≡ fine (plain (ty.Int to) (typed sp (Some (v.Int to)) (t.convert (value_tree at k))))
    go val is = ap (λ z. cast_by (cast_rule (ty.Int to) (record { ty = z; null = val.null })) sp at (value_tree at k)) is

convert_same : (s : Scene) (a : ExprTree) (to u : IntType) (y : t.ExprTree) (at : Span) → type_of s.context a ≡ v.Int u → SameValues s (type_of s.context a) y (asked s a) → SameValues s (v.Int to) (typed at (Some (v.Int to)) (t.convert y)) (asked s (convert to a))
convert_same s a to u y at is same st st' al =
    ev_bind (IsValue s (type_of s.context a)) (IsValue s (v.Int to)) st (x.value_of y (context_of s) st) (asked s a st'.memory) (λ g. gives (m.converted (v.Int to) g)) (λ q. Ok (w.converted (is_type (type_of s.context a) to) to q)) (same st st' al)
    (λ g q h. (
      refl,
      record {
        cell = m.converted_cell (v.Int to) h.cell;
        is = ap (m.converted (v.Int to)) h.is;
        same = ap (w.converted (is_type (type_of s.context a) to) to) h.same ∙ converted_same s (is_type (type_of s.context a) to) to h.cell (subst (λ z. CellFits s (reach_of s z) h.cell) is h.fits);
        fits = converted_fits s to h.cell (subst (λ z. CellFits s (reach_of s z) h.cell) is h.fits);
      },
    ))

pub integer_type : (u : VarTy) → IsTrue (is_some (integer_of (Some u))) → (t : IntType) × (u ≡ v.Int t)
integer_type (v.Int t) h = (t, refl)
integer_type (v.Struct n) h = true_not_false (sym h)
integer_type (v.Array elem count) h = true_not_false (sym h)
integer_type (v.Pointer elem g) h = true_not_false (sym h)

-- a cast of what is judged to be an integer, whose meaning is given
cast_judged : (s : Scene) (env : Env) (structs : Structs) (to u : IntType) (d : ExprTree) (tree : e.ExprTree) → type_of s.context d ≡ v.Int to → c_type s.context d ≡ v.Int to → IsFine structs (judge env structs tree) → (value_of (judge env structs tree).operand).ty ≡ ty.Int u →
    ((at : Span) → SameValues s (v.Int to) (typed nowhere (Some (v.Int to)) (t.convert (value_tree at (judge env structs tree).operand))) (asked s d)) → Held s env structs d (h.cast_to to tree)
unfolding judge value_of value_tree read_tree var_type
cast_judged s env structs to u d tree is cis fine_one val same = record {
  means = subst (λ (z : CastBase). ExpressionMeans s structs d (made z)) (sym (specs_are to structs))
      (subst (λ (z : Made). ExpressionMeans s structs d (over j.faults j.structs z)) (sym (cast_is to u nowhere (span_of tree) j.operand val)) (record {
        fine = record { faults = no_faults j.faults [] fine_one.faults refl; structs_stay = fine_one.structs_stay };
        typed = ap type_as (sym cis);
        tree = λ at. ap Some (sym cis);
        plain = λ p. refl;
        same = λ at. subst (λ z. SameValues s z (typed nowhere (Some (v.Int to)) (t.convert (value_tree (span_of tree) j.operand))) (asked s d)) (sym is) (same (span_of tree));
      }));
  chain = tt;
  shape = tt;
}
  where
    j : Judged
    j = judge env structs tree

    made : CastBase → Judged
    made b =
        let q = judge env b.structs tree in
        over (b.faults ++ q.faults) q.structs (cast_to false b.base nowhere (span_of tree) q.operand)

pub convert_held : (s : Scene) (env : Env) (structs : Structs) (to : IntType) (a : ExprTree) (tree : e.ExprTree) → IsTrue (is_some (integer_of (Some (type_of s.context a)))) → Held s env structs a tree → Held s env structs (convert to a) (h.cast_to to tree)
convert_held s env structs to a tree ok held =
    let n = integer_type (type_of s.context a) ok in
    cast_judged s env structs to n.0 (convert to a) tree refl refl held.means.fine (judged_integer s structs a (judge env structs tree) n.0 held.means n.1)
    (λ at. convert_same s a to n.0 (value_tree at (judge env structs tree).operand) nowhere n.1 (held.means.same at))

-- ---- constants

pub number_held : (s : Scene) (env : Env) (structs : Structs) (to : IntType) (n : ℕ) → Held s env structs (constant to (pos n)) (h.number to n)
unfolding judge literal value_of value_tree read_tree
number_held s env structs to n = record {
  means = record {
    fine = record { faults = refl; structs_stay = refl };
    typed = refl;
    tree = λ at. refl;
    plain = λ p. true_not_false (sym p);
    same = λ at st st' al. (refl, record { cell = number (pos n); is = refl; same = refl; fits = tt });
  };
  chain = tt;
  shape = tt;
}

-- `~n`
flip_held : (s : Scene) (env : Env) (structs : Structs) (to : IntType) (n : ℕ) → IsTrue (unary_fits Flip (Some (v.Int to)) (Some (v.Int to))) → unary_of Flip to (conv to (pos n)) ≡ Ok (negsuc n) →
    Held s env structs (constant to (negsuc n)) (e.prefix nowhere p.Complement (h.number to n))
unfolding judge literal value_of value_tree read_tree var_type span_of
flip_held s env structs to n ok is = record {
  means = subst (λ (z : Made). ExpressionMeans s structs (constant to (negsuc n)) (over [] structs z))
      (sym (prefix_is Flip structs nowhere nowhere k ∙ computed_is Flip to nowhere nowhere k (typed nowhere (Some (v.Int to)) (t.constant (pos n))) refl refl refl ok)) (record {
        fine = record { faults = refl; structs_stay = refl };
        typed = refl;
        tree = λ at. refl;
        plain = λ p. true_not_false (sym p);
        same = λ at st st' al. subst (λ z. Evaluates (IsValue s (v.Int to)) st (x.cell_or_trap nowhere (if_ok z number) st) (Ok (int_cell (negsuc n)))) (sym is) (refl, record { cell = number (negsuc n); is = refl; same = refl; fits = tt });
      });
  chain = tt;
  shape = tt;
}
  where
    k : Known
    k = literal (record { span = nowhere; value = pos n; ty = to })

wide_int : (s : Scene) (env : Env) (structs : Structs) (n : ℤ) → InRange i.Int n → Held s env structs (constant i.Int n) (h.wide_constant i.Int n)
wide_int s env structs (pos n) r = number_held s env structs i.Int n
wide_int s env structs (negsuc n) r = flip_held s env structs i.Int n refl (flipped_int n r)

wide_uint : (s : Scene) (env : Env) (structs : Structs) (n : ℤ) → InRange i.UInt n → Held s env structs (constant i.UInt n) (h.wide_constant i.UInt n)
wide_uint s env structs (pos n) r = number_held s env structs i.UInt n
wide_uint s env structs (negsuc n) r = unsigned_int n r

wide_long : (s : Scene) (env : Env) (structs : Structs) (n : ℤ) → InRange i.Long n → Held s env structs (constant i.Long n) (h.wide_constant i.Long n)
wide_long s env structs (pos n) r = number_held s env structs i.Long n
wide_long s env structs (negsuc n) r = flip_held s env structs i.Long n refl (flipped_long n r)

wide_ulong : (s : Scene) (env : Env) (structs : Structs) (n : ℤ) → InRange i.ULong n → Held s env structs (constant i.ULong n) (h.wide_constant i.ULong n)
wide_ulong s env structs (pos n) r = number_held s env structs i.ULong n
wide_ulong s env structs (negsuc n) r = unsigned_long n r

-- a type narrower than int
narrow_held : (s : Scene) (env : Env) (structs : Structs) (to : IntType) (n : ℤ) → InRange i.Int n → InRange to n → Held s env structs (constant to n) (h.cast_to to (h.wide_constant i.Int n))
narrow_held s env structs to n wide narrow =
    cast_judged s env structs to i.Int (constant to n) (h.wide_constant i.Int n) refl refl inner.means.fine inner.means.typed
    (λ at st st' al. ev_bind IsIt (IsValue s (v.Int to)) st (x.value_of (value_tree at (judge env structs (h.wide_constant i.Int n)).operand) (context_of s) st) (Ok (int_cell n)) (λ g. gives (m.converted (v.Int to) g)) (λ q. Ok q)
    (it_is (x.value_of (value_tree at (judge env structs (h.wide_constant i.Int n)).operand) (context_of s) st) st (inner.means.same at st st' al))
    (λ g q h. (
      refl,
      record {
        cell = number n;
        is = ap (m.converted (v.Int to)) h.0 ∙ ap (λ z. holds (number z)) (conv-same to n narrow);
        same = h.1;
        fits = tt;
      },
    )))
  where
    IsIt : m.Value → core.Cell → Type 0
    IsIt g q = (g ≡ holds (number n)) × (q ≡ int_cell n)

    back : (c : Cell) → int_cell n ≡ core_cell s c → c ≡ number n
    back (number k) h = cc
    back null h = cc
    back (pointer b base count index) h = cc

    it_is : (o : Outcome m.Value) (st : State) → Evaluates (IsValue s (v.Int i.Int)) st o (Ok (int_cell n)) → Evaluates IsIt st o (Ok (int_cell n))
    it_is (gives g st1) st h = (h.0, (h.1.is ∙ ap holds (back h.1.cell h.1.same), refl))
    it_is (trapped trap sp st1) st h = absurd h
    it_is (spent st1) st h = absurd h

    inner : Held s env structs (constant i.Int n) (h.wide_constant i.Int n)
    inner = wide_int s env structs n wide

pub constant_held : (s : Scene) (env : Env) (structs : Structs) (to : IntType) (n : ℤ) → IsTrue (is_in_range to n) → Held s env structs (constant to n) (h.constant_tree to n)
constant_held s env structs i.Char n ok = let r = in_range i.Char n ok in narrow_held s env structs i.Char n (narrow_char n r) r
constant_held s env structs i.SChar n ok = let r = in_range i.SChar n ok in narrow_held s env structs i.SChar n (narrow_schar n r) r
constant_held s env structs i.UChar n ok = let r = in_range i.UChar n ok in narrow_held s env structs i.UChar n (narrow_uchar n r) r
constant_held s env structs i.Short n ok = let r = in_range i.Short n ok in narrow_held s env structs i.Short n (narrow_short n r) r
constant_held s env structs i.UShort n ok = let r = in_range i.UShort n ok in narrow_held s env structs i.UShort n (narrow_ushort n r) r
constant_held s env structs i.Int n ok = wide_int s env structs n (in_range i.Int n ok)
constant_held s env structs i.UInt n ok = wide_uint s env structs n (in_range i.UInt n ok)
constant_held s env structs i.Long n ok = wide_long s env structs n (in_range i.Long n ok)
constant_held s env structs i.ULong n ok = wide_ulong s env structs n (in_range i.ULong n ok)
