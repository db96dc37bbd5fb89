-- The labels of a switch without a fault are distinct, and their values in range.
use Rattle.std.proofs.Common.{◌≡◌, ℤ, refl, sym, ap, subst, Bool, true, false, List, [], ◌∷◌, ◌++◌, Option, Some, None, arith}
use Rattle.std.specs.Prelude.{IsTrue, ◌&&◌, ◌||◌, not, if◌then◌else◌}
use Rattle.std.specs.Cmp.{int_eq_equiv}
use Rattle.std.specs.List.{list_all, list_any}
use Rattle.std.specs.Ordering.{int_eq}
use Rattle.std.proofs.lemmas.Int.{ints}
use Rattle.std.proofs.lemmas.List.Folds.{list_any-append}
use Rattle.pt_base.specs.declared.int_type.IntType.{IntType}
use Rattle.pt_base.specs.declared.span.Span.{Span}
use Rattle.pt_base.specs.IntTypes.{InRange}
use Rattle.pt_base.proofs.Booleans.{both_hold, both_hold_first, both_hold_second}
use Rattle.pt_base.proofs.Lists.{append_nil_second}
use Rattle.pt_int.specs.Conversion.{conv, is_in_range}
use Rattle.pt_int.proofs.Conversions.{conv-in_range}
use Rattle.pt_tree.specs.ExpressionTree as e
use Rattle.pt_tree.specs.StatementTree.{LabelTree, case_label, default_label}
use Rattle.typed_tree.specs.declared.statement.TypedLabel.{TypedLabel}
use Rattle.typed_tree.specs.declared.statement.TypedLabel.TheVariants.{Case, Default}
use Rattle.typed_tree.specs.WellFormedStatement.{same_label, label_fits}
use Rattle.check_declarations.specs.declared.fault.FaultKind.TheVariants.{Redeclared, OutOfProfile}
use Rattle.check_declarations.specs.Faults.{fault_at}
use Rattle.check_declarations.specs.Structs.{Structs}
use Rattle.check_expressions.specs.Environment.{Env}
use Rattle.check_expressions.specs.Expressions.{judge}
use Rattle.check_expressions.specs.Operands.{span_of}
use Rattle.check_statements.specs.declared.constants.Number.{Number}
use Rattle.check_statements.specs.declared.switches.Kind.{Kind}
use Rattle.check_statements.specs.Constants.{number_of}
use Rattle.check_statements.specs.Labels.{Seen, is_seen, case_by, case_of, labelled, default_word}
use Rattle.type_law.proofs.DeclarationsFaultLemmas.{no_fault}

-- the label is none of those that were seen
abbrev pub is_fresh : Seen → TypedLabel → Bool
is_fresh seen (Case s v) = not (is_seen seen.cases v)
is_fresh seen (Default s) = not seen.has_default

-- a label: what is fresh behind it was fresh before it, and is another label
pub record SoundLabel (t : IntType) (structs' structs : Structs) (seen' seen : Seen) (l : TypedLabel) : Type 0 where
  pub structs_are : structs' ≡ structs
  pub fits : IsTrue (label_fits t l)
  pub fresh : IsTrue (is_fresh seen l)
  pub other : (m : TypedLabel) → IsTrue (is_fresh seen' m) → IsTrue (not (same_label l m))
  pub before : (m : TypedLabel) → IsTrue (is_fresh seen' m) → IsTrue (is_fresh seen m)

pub converted_in_range : (t : IntType) (v : ℤ) → IsTrue (is_in_range t (conv t v))
converted_in_range t v = go (conv t v) (conv-in_range t v)
  where
    go : (w : ℤ) → InRange t w → is_in_range t w ≡ true
    go w p = grind (arith, ints)

is_not : (b : Bool) → b ≡ false → IsTrue (not b)
is_not b h = ap not h

neither : (a b : Bool) → IsTrue (not (a || b)) → IsTrue (not a) × IsTrue (not b)
neither true b h = cc
neither false b h = (refl, h)

-- a value that isn't among those with one more
another : (cases : List ℤ) (v w : ℤ) → IsTrue (not (is_seen (cases ++ v ∷ []) w)) → IsTrue (not (is_seen cases w)) × IsTrue (not (int_eq v w))
another cases v w h =
    let parts = neither (list_any (int_eq w) cases) (list_any (int_eq w) (v ∷ [])) (subst (λ (b : Bool). IsTrue (not b)) (list_any-append (int_eq w) cases (v ∷ [])) h) in
    let last = neither (int_eq w v) false parts.1 in
    (parts.0, subst (λ (b : Bool). IsTrue (not b)) (int_eq_equiv.symm w v) last.0)

second_false : (a b : Bool) → IsTrue a → (a && b) ≡ false → b ≡ false
second_false true b h k = k
second_false false b h k = cc

nor : (a b : Bool) → IsTrue (not a) → IsTrue (not b) → IsTrue (not (a || b))
nor true b h k = h
nor false b h k = k

-- ---- one label

other_case : (cases : List ℤ) (has_default : Bool) (s : Span) (v : ℤ) (m : TypedLabel) → IsTrue (is_fresh (record { cases = cases ++ v ∷ []; has_default = has_default }) m) → IsTrue (not (same_label (Case s v) m))
other_case cases d s v (Case p w) h = (another cases v w h).1
other_case cases d s v (Default p) h = refl

before_case : (cases : List ℤ) (has_default : Bool) (v : ℤ) (m : TypedLabel) → IsTrue (is_fresh (record { cases = cases ++ v ∷ []; has_default = has_default }) m) → IsTrue (is_fresh (record { cases = cases; has_default = has_default }) m)
before_case cases d v (Case p w) h = (another cases v w h).0
before_case cases d v (Default p) h = h

new_case : (t : IntType) (structs : Structs) (seen : Seen) (s : Span) (v : ℤ) → IsTrue (is_in_range t v) → is_seen seen.cases v ≡ false → SoundLabel t structs structs (record { cases = seen.cases ++ v ∷ []; has_default = seen.has_default }) seen (Case s v)
new_case t structs seen s v within unseen = record {
  structs_are = refl;
  fits = within;
  fresh = is_not (is_seen seen.cases v) unseen;
  other = other_case seen.cases seen.has_default s v;
  before = before_case seen.cases seen.has_default v;
}

kept_cases : (compared seen : Bool) (xs ys : List ℤ) → IsTrue compared → seen ≡ false → (if compared then (if seen then xs else ys) else xs) ≡ ys
kept_cases true false xs ys h k = refl
kept_cases true true xs ys h k = cc
kept_cases false seen xs ys h k = cc

case_sound : (kind : Kind) (structs : Structs) (seen : Seen) (s p : Span) (v : ℤ) → IsTrue (is_in_range kind.ty v) → IsTrue kind.compared → (case_of kind structs seen s p v).faults ≡ [] → SoundLabel kind.ty structs structs (case_of kind structs seen s p v).seen seen (Case s v)
case_sound kind structs seen s p v within compared none =
    let unseen = second_false kind.compared (is_seen seen.cases v) compared (no_fault (kind.compared && is_seen seen.cases v) Redeclared p none) in
    let is = kept_cases kind.compared (is_seen seen.cases v) seen.cases (seen.cases ++ v ∷ []) compared unseen in
    subst (λ (cases : List ℤ). SoundLabel kind.ty structs structs (record { cases = cases; has_default = seen.has_default }) seen (Case s v)) (sym is) (new_case kind.ty structs seen s v within unseen)

case_by_sound : (env : Env) (kind : Kind) (structs : Structs) (seen : Seen) (s : Span) (a : e.ExprTree) (o : Option Number) → IsTrue kind.compared → (case_by env kind structs seen s a o).faults ≡ [] → SoundLabel kind.ty (case_by env kind structs seen s a o).structs structs (case_by env kind structs seen s a o).seen seen (case_by env kind structs seen s a o).label
case_by_sound env kind structs seen s a (Some n) compared none = case_sound kind structs seen s (span_of a) (conv kind.ty n.value) (converted_in_range kind.ty n.value) compared none
case_by_sound env kind structs seen s a None compared none =
    let no : fault_at OutOfProfile (span_of a) ∷ [] ≡ [] = append_nil_second (judge env structs a).faults (fault_at OutOfProfile (span_of a) ∷ []) none in
    cc

other_default : (cases : List ℤ) (s : Span) (m : TypedLabel) → IsTrue (is_fresh (record { cases = cases; has_default = true }) m) → IsTrue (not (same_label (Default s) m))
other_default cases s (Case p w) h = refl
other_default cases s (Default p) h = h

before_default : (seen : Seen) (m : TypedLabel) → IsTrue (is_fresh (record { cases = seen.cases; has_default = true }) m) → IsTrue (is_fresh seen m)
before_default seen (Case p w) h = h
before_default seen (Default p) h = cc

pub labelled_sound : (env : Env) (kind : Kind) (structs : Structs) (seen : Seen) (label : LabelTree) → IsTrue kind.compared → (labelled env kind structs seen label).faults ≡ [] → SoundLabel kind.ty (labelled env kind structs seen label).structs structs (labelled env kind structs seen label).seen seen (labelled env kind structs seen label).label
labelled_sound env kind structs seen (case_label s a) compared none = case_by_sound env kind structs seen s a (number_of a) compared none
labelled_sound env kind structs seen (default_label s) compared none = record {
  structs_are = refl;
  fits = refl;
  fresh = is_not seen.has_default (no_fault seen.has_default Redeclared (default_word s) none);
  other = other_default seen.cases s;
  before = before_default seen;
}

-- ---- the labels behind it

pub fresh_labels : (seen' seen : Seen) (l : TypedLabel) → ((m : TypedLabel) → IsTrue (is_fresh seen' m) → IsTrue (not (same_label l m))) → ((m : TypedLabel) → IsTrue (is_fresh seen' m) → IsTrue (is_fresh seen m)) → (ls : List TypedLabel) → IsTrue (list_all (is_fresh seen') ls) → IsTrue (not (list_any (same_label l) ls)) × IsTrue (list_all (is_fresh seen) ls)
fresh_labels seen' seen l other before [] h = (refl, refl)
fresh_labels seen' seen l other before (m ∷ ls) h =
    let here = both_hold_first (is_fresh seen' m) (list_all (is_fresh seen') ls) h in
    let rest = fresh_labels seen' seen l other before ls (both_hold_second (is_fresh seen' m) (list_all (is_fresh seen') ls) h) in
    (nor (same_label l m) (list_any (same_label l) ls) (other m here) rest.0, both_hold (is_fresh seen m) (list_all (is_fresh seen) ls) (before m here) rest.1)
