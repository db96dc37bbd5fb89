-- The laws of conversions.
use Rattle.std.proofs.Common.{◌≡◌, ◌≢◌, ◌∙◌, ◌&&◌, ◌||◌, not, nat_eq, Bool, true, false, if◌then◌else◌, IsTrue, refl, ap, sym, subst}
use Rattle.std.proofs.lemmas.Bool.{or_from}
use Rattle.pt_base.specs.IntTypes.{usual}
use Rattle.pt_base.proofs.Booleans.{and_parts, from_not_false, or_false_first, or_false_second, or_not_first, or_not_second, or_not_self}
use Rattle.pt_tree.specs.declared.operator.BinaryOp.{BinaryOp}
use Rattle.pt_tree.specs.declared.signature.Elem.{Elem}
use Rattle.type_rules.specs.declared.types.Type.{«Type»}
use Rattle.type_rules.specs.declared.types.Type.TheVariants.{Bad, Void, Int, Struct, Array, Pointer}
use Rattle.type_rules.specs.declared.types.Value.{Value}
use Rattle.type_rules.specs.declared.operators.Rule.{Rule}
use Rattle.type_rules.specs.declared.operators.Rule.TheVariants.{Unknown}
use Rattle.type_rules.specs.declared.conversions.Fit.{Fit}
use Rattle.type_rules.specs.declared.conversions.Fit.TheVariants as fit
use Rattle.type_rules.specs.declared.conversions.ChoiceRule.{ChoiceRule}
use Rattle.type_rules.specs.declared.conversions.ChoiceRule.TheVariants as choice
use Rattle.type_rules.specs.Conversions.{choice_rule, compound_rule, fit_rule, is_wrong, joined, taken}
use Rattle.type_rules.specs.Operators.{at_right, binary_rule, rule_type}
use Rattle.type_rules.specs.Laws.{Answers, ArmsFitTheirChoice, CompoundsFit, IntegersFitIntegers, OperatorsAnswer, PointersFitPointers, fits, is_given, is_unknown}
use Rattle.type_rules.specs.Types.{is_bad, is_integer, is_same_elem}
use Rattle.type_rules.proofs.OperatorLemmas.{binary_answers, index_answers}
use Rattle.type_rules.proofs.TypeLemmas.{is_same_elem-self, same_elem}

pub integers : IntegersFitIntegers
unfolding fit_rule
integers t v = fitted v.ty
  where
    fitted : (s : «Type») → fits (if is_bad (Int t) || is_bad s then fit.Unknown else taken (Int t) s v.null) ≡ is_integer s
    fitted Bad = refl
    fitted (Int s) = refl
    fitted s = refl

kept : (fixed fixed' : Bool) → (fixed || not fixed') ≡ true → IsTrue fixed' → IsTrue fixed
kept true fixed' h t = search
kept false true h t = cc
kept false false h t = t

keeps : (fixed fixed' : Bool) → (IsTrue fixed' → IsTrue fixed) → (fixed || not fixed') ≡ true
keeps true fixed' h = refl
keeps false true h = search
keeps false false h = refl

abbrev pointed : Bool → Fit
pointed b = if b then fit.Points else fit.Wrong

pub points : PointersFitPointers
unfolding fit_rule
points e e' fixed fixed' null = (stored (is_same_elem e e' && (fixed || not fixed')) refl, stores)
  where
    stored : (b : Bool) → (is_same_elem e e' && (fixed || not fixed')) ≡ b → pointed b ≡ fit.Points → (e ≡ e') × (IsTrue fixed' → IsTrue fixed)
    stored true h p = let parts = and_parts (is_same_elem e e') (fixed || not fixed') h in (same_elem e e' parts.0, kept fixed fixed' parts.1)
    stored false h p = cc

    stores : (e ≡ e') × (IsTrue fixed' → IsTrue fixed) → pointed (is_same_elem e e' && (fixed || not fixed')) ≡ fit.Points
    stores (same, const) =
        ap (λ x. pointed (is_same_elem e x && (fixed || not fixed'))) (sym same) ∙
        ap (λ b. pointed (b && (fixed || not fixed'))) (is_same_elem-self e) ∙
        ap pointed (keeps fixed fixed' const)

-- both operands fit the type t
abbrev Fits : «Type» → «Type» → Bool → «Type» → Bool → Type 0
Fits t a m b n = (fits (fit_rule t (record { ty = a; null = m })) ≡ true) × (fits (fit_rule t (record { ty = b; null = n })) ≡ true)

given : ChoiceRule → «Type»
given (choice.Gives t) = t
given rule = Bad

same_given : (s t : «Type») → choice.Gives s ≡ choice.Gives t → s ≡ t
unfolding given
same_given s t h = ap given h

abbrev chosen : «Type» → Bool → «Type» → Bool → ChoiceRule
chosen a m b n = if is_bad a || is_bad b then choice.Unknown else joined a m b n

fits_pointed : (same const : Bool) → same ≡ true → const ≡ true → fits (pointed (same && const)) ≡ true
fits_pointed same const h k = ap (λ b. fits (pointed (b && const))) h ∙ ap (λ b. fits (pointed b)) k

fits_itself : (e : Elem) (f null : Bool) → fits (fit_rule (Pointer e f) (record { ty = Pointer e f; null = null })) ≡ true
unfolding fit_rule
fits_itself e f null = fits_pointed (is_same_elem e e) (f || not f) (is_same_elem-self e) (or_not_self f)

pub arms : ArmsFitTheirChoice
unfolding fit_rule choice_rule
arms v w t e some = arm v.ty v.null w.ty w.null t e some
  where
    arm : (a : «Type») (m : Bool) (b : «Type») (n : Bool) (t : «Type») → chosen a m b n ≡ choice.Gives t → t ≢ Void → Fits t a m b n
    arm (Int a) m (Int b) n t h some = subst (λ t. Fits t (Int a) m (Int b) n) (same_given (Int (usual a b)) t h) (refl, refl)
    arm (Pointer e f) m (Pointer e' f') n t h some = either (is_same_elem e e') refl h
      where
        either : (s : Bool) → is_same_elem e e' ≡ s → (if s then choice.Gives (Pointer e (f || f')) else choice.Wrong) ≡ choice.Gives t → Fits t (Pointer e f) m (Pointer e' f') n
        either true same g = subst (λ t. Fits t (Pointer e f) m (Pointer e' f') n) (same_given (Pointer e (f || f')) t g) (
          fits_pointed (is_same_elem e e) ((f || f') || not f) (is_same_elem-self e) (or_not_first f f'),
          fits_pointed (is_same_elem e e') ((f || f') || not f') same (or_not_second f f'),
        )
        either false same g = cc
    arm (Pointer e f) m (Int b) true t h some = subst (λ t. Fits t (Pointer e f) m (Int b) true) (same_given (Pointer e f) t h) (fits_itself e f m, refl)
    arm (Pointer e f) m (Int b) false t h some = cc
    arm (Int a) true (Pointer e f) n t h some = subst (λ t. Fits t (Int a) true (Pointer e f) n) (same_given (Pointer e f) t h) (refl, fits_itself e f n)
    arm (Int a) false (Pointer e f) n t h some = cc
    arm Void m Void n t h some = absurd (some (sym (same_given Void t h)))
    arm Bad m Bad n t h some = cc
    arm (Struct a) m (Struct b) n t h some = cc
    arm (Array e k) m (Array e' k') n t h some = cc
    arm a m b n t h some = cc

-- what isn't Bad fits or is wrong
pointed_fits : (b : Bool) → fits (pointed b) ≡ not (is_wrong (pointed b))
pointed_fits true = refl
pointed_fits false = refl

null_fits : (b : Bool) → fits (if b then fit.Null else fit.Wrong) ≡ not (is_wrong (if b then fit.Null else fit.Wrong))
null_fits true = refl
null_fits false = refl

copy_fits : (b : Bool) → fits (if b then fit.Copies else fit.Wrong) ≡ not (is_wrong (if b then fit.Copies else fit.Wrong))
copy_fits true = refl
copy_fits false = refl

taken_fits : (t s : «Type») (null : Bool) → fits (taken t s null) ≡ not (is_wrong (taken t s null))
taken_fits (Int t) (Int s) null = refl
taken_fits (Pointer e f) (Pointer e' f') null = pointed_fits (is_same_elem e e' && (f || not f'))
taken_fits (Pointer e f) (Int s) null = null_fits null
taken_fits (Struct m) (Struct n) null = copy_fits (nat_eq m n)
taken_fits t s null = refl

wrong_not_bad : (bad : Bool) (f : Fit) → is_wrong (if bad then fit.Unknown else f) ≡ true → bad ≡ false
wrong_not_bad true f h = cc
wrong_not_bad false f h = refl

right_fits : (bad : Bool) (f : Fit) → fits f ≡ not (is_wrong f) → bad ≡ false → is_wrong (if bad then fit.Unknown else f) ≡ false → fits (if bad then fit.Unknown else f) ≡ true
right_fits true f h e w = cc
right_fits false f h e w = h ∙ ap not w

given_known : (rule : Rule) → is_given rule ≡ true → is_unknown rule ≡ false
given_known Unknown h = cc
given_known rule h = refl

-- the object of a compound assignment as its left operand, and the result that is stored
abbrev object : «Type» → Value
object t = record { ty = t; null = false }

abbrev outcome : BinaryOp → «Type» → Value → Value
outcome op t w = record { ty = rule_type (binary_rule op (object t) w) (object t) w; null = false }

compound_answers : (op : BinaryOp) (t : «Type») (w : Value) → Answers (compound_rule op t w) (object t) w
unfolding compound_rule fit_rule
compound_answers op t w = go (is_wrong (fit_rule t (outcome op t w))) refl
  where
    computed : Answers (binary_rule op (object t) w) (object t) w
    computed = binary_answers op (object t) w

    go : (b : Bool) → is_wrong (fit_rule t (outcome op t w)) ≡ b → Answers (if b then at_right else binary_rule op (object t) w) (object t) w
    go false e = computed
    go true e =
        let bad = or_false_second (is_bad t) (is_bad (outcome op t w).ty) (wrong_not_bad _ (taken t (outcome op t w).ty false) e) in
        let known = given_known (binary_rule op (object t) w) (from_not_false _ (sym computed.bad ∙ bad)) in
        record { silent = sym known ∙ computed.silent; named = refl; typed = refl; bad = refl }

pub compounds : CompoundsFit
unfolding compound_rule fit_rule
compounds op t w = go (is_wrong (fit_rule t (outcome op t w))) refl
  where
    computed : Answers (binary_rule op (object t) w) (object t) w
    computed = binary_answers op (object t) w

    go : (b : Bool) → is_wrong (fit_rule t (outcome op t w)) ≡ b → is_given (if b then at_right else binary_rule op (object t) w) ≡ true →
        ((if b then at_right else binary_rule op (object t) w) ≡ binary_rule op (object t) w) × (fits (fit_rule t (outcome op t w)) ≡ true)
    go true e given = cc
    go false e given =
        let target = or_false_first (is_bad t) (is_bad w.ty) (sym computed.silent ∙ given_known (binary_rule op (object t) w) given) in
        let computes = computed.bad ∙ ap not given in
        (refl, right_fits _ (taken t (outcome op t w).ty false) (taken_fits t (outcome op t w).ty false) (or_from _ _ target computes) e)

pub operators : OperatorsAnswer
operators = record { binary = binary_answers; index = index_answers; compound = compound_answers }
