-- Where the rules of conversions are silent.
use Rattle.std.proofs.Common.{◌≡◌, ◌≢◌, ◌∙◌, ◌&&◌, ◌||◌, ◌↔◌, not, nat_eq, Bool, true, false, if◌then◌else◌, refl}
use Rattle.type_rules.specs.declared.types.Type.{«Type»}
use Rattle.type_rules.specs.declared.types.Type.TheVariants.{Bad, Void, Int, Struct, Array, Pointer}
use Rattle.type_rules.specs.declared.conversions.Fit.{Fit}
use Rattle.type_rules.specs.declared.conversions.Fit.TheVariants as fit
use Rattle.type_rules.specs.declared.conversions.ChoiceRule.TheVariants as choice
use Rattle.type_rules.specs.declared.conversions.ConditionRule.TheVariants as condition
use Rattle.type_rules.specs.declared.conversions.CastRule.TheVariants as cast
use Rattle.type_rules.specs.Conversions.{cast_rule, choice_rule, condition_rule, converted, fit_rule, joined, taken}
use Rattle.type_rules.specs.Laws.{ConversionsAnswer}
use Rattle.type_rules.specs.Types.{is_bad, is_same_elem, is_scalar}

-- a rule is silent exactly at Bad if it is never so elsewhere
silent : {R : Type 0} (unknown rule : R) (bad : Bool) → (bad ≡ false → rule ≢ unknown) → ((if bad then unknown else rule) ≡ unknown) ↔ (bad ≡ true)
silent unknown rule true k = ((λ h. refl), (λ h. refl))
silent unknown rule false k = ((λ h. absurd (k refl h)), (λ h. cc))

fit_if : (b : Bool) (f : Fit) → f ≢ fit.Unknown → (if b then f else fit.Wrong) ≢ fit.Unknown
fit_if true f k h = k h
fit_if false f k h = cc

taken_known : (t s : «Type») (null : Bool) → taken t s null ≢ fit.Unknown
taken_known (Int t) (Int s) null h = cc
taken_known (Pointer e f) (Pointer e' f') null h = fit_if (is_same_elem e e' && (f || not f')) fit.Points (λ k. cc) h
taken_known (Pointer e f) (Int s) null h = fit_if null fit.Null (λ k. cc) h
taken_known (Struct m) (Struct n) null h = fit_if (nat_eq m n) fit.Copies (λ k. cc) h
taken_known t s null h = cc

choice_if : (b : Bool) (t : «Type») → (if b then choice.Gives t else choice.Wrong) ≢ choice.Unknown
choice_if true t h = cc
choice_if false t h = cc

joined_known : (a : «Type») (m : Bool) (b : «Type») (n : Bool) → joined a m b n ≢ choice.Unknown
joined_known (Int a) m (Int b) n h = cc
joined_known (Pointer e f) m (Pointer e' f') n h = choice_if (is_same_elem e e') (Pointer e (f || f')) h
joined_known (Pointer e f) m (Int b) n h = choice_if n (Pointer e f) h
joined_known (Int a) m (Pointer e f) n h = choice_if m (Pointer e f) h
joined_known Void m Void n h = cc
joined_known (Struct a) m (Struct b) n h = cc
joined_known a m b n h = cc

tested_known : (b : Bool) → (if b then condition.Good else condition.Wrong) ≢ condition.Unknown
tested_known true h = cc
tested_known false h = cc

converted_known : (t s : «Type») → converted t s ≢ cast.Unknown
converted_known Void s h = cc
converted_known (Pointer e f) s h = cc
converted_known (Int t) (Int s) h = cc
converted_known t s h = cc

gives_if : (b : Bool) (s t : «Type») → s ≢ Bad → (if b then choice.Gives s else choice.Wrong) ≡ choice.Gives t → t ≢ Bad
gives_if true s t k h z = let same : s ≡ t = cc in absurd (k (same ∙ z))
gives_if false s t k h z = cc

chosen_typed : (a : «Type») (m : Bool) (b : «Type») (n : Bool) (t : «Type») → (if is_bad a || is_bad b then choice.Unknown else joined a m b n) ≡ choice.Gives t → t ≢ Bad
chosen_typed (Int a) m (Int b) n t h z = cc
chosen_typed (Pointer e f) m (Pointer e' f') n t h z = gives_if (is_same_elem e e') (Pointer e (f || f')) t (λ k. cc) h z
chosen_typed (Pointer e f) m (Int b) n t h z = gives_if n (Pointer e f) t (λ k. cc) h z
chosen_typed (Int a) m (Pointer e f) n t h z = gives_if m (Pointer e f) t (λ k. cc) h z
chosen_typed Void m Void n t h z = cc
chosen_typed (Struct a) m (Struct b) n t h z = cc
chosen_typed Bad m Bad n t h z = cc
chosen_typed (Array e k) m (Array e' k') n t h z = cc
chosen_typed a m b n t h z = cc

pub conversions : ConversionsAnswer
unfolding fit_rule choice_rule condition_rule cast_rule
conversions = record {
  stored = λ t v. silent fit.Unknown (taken t v.ty v.null) (is_bad t || is_bad v.ty) (λ b. taken_known t v.ty v.null);
  chosen = λ v w. silent choice.Unknown (joined v.ty v.null w.ty w.null) (is_bad v.ty || is_bad w.ty) (λ b. joined_known v.ty v.null w.ty w.null);
  tested = λ v. silent condition.Unknown (if is_scalar v.ty then condition.Good else condition.Wrong) (is_bad v.ty) (λ b. tested_known (is_scalar v.ty));
  converted = λ t v. silent cast.Unknown (converted t v.ty) (is_bad t || is_bad v.ty) (λ b. converted_known t v.ty);
  typed = λ v w. chosen_typed v.ty v.null w.ty w.null;
}
