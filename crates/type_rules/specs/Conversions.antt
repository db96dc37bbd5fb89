-- The conversions: what an object takes, the arms of a choice, conditions and casts.
use Rattle.std.specs.Prelude.{Bool, true, false, ◌&&◌, ◌||◌, not, nat_eq, if◌then◌else◌}
use Rattle.pt_base.specs.IntTypes.{usual}
use Rattle.pt_tree.specs.declared.operator.BinaryOp.{BinaryOp}
use Rattle.type_rules.specs.declared.types.Type.{«Type»}
use Rattle.type_rules.specs.declared.types.Type.TheVariants.{Void, Int, Struct, Pointer}
use Rattle.type_rules.specs.declared.types.Value.{Value}
use Rattle.type_rules.specs.declared.operators.Rule.{Rule}
use Rattle.type_rules.specs.declared.conversions.Fit.{Fit}
use Rattle.type_rules.specs.declared.conversions.Fit.TheVariants as fit
use Rattle.type_rules.specs.declared.conversions.ChoiceRule.{ChoiceRule}
use Rattle.type_rules.specs.declared.conversions.ChoiceRule.TheVariants as choice
use Rattle.type_rules.specs.declared.conversions.ConditionRule.{ConditionRule}
use Rattle.type_rules.specs.declared.conversions.ConditionRule.TheVariants as condition
use Rattle.type_rules.specs.declared.conversions.CastRule.{CastRule}
use Rattle.type_rules.specs.declared.conversions.CastRule.TheVariants as cast
use Rattle.type_rules.specs.Operators.{binary_rule, rule_type, at_right}
use Rattle.type_rules.specs.Types.{is_same_elem, is_bad, is_scalar}

-- what is stored in an object of the first type: an integer in an integer, a pointer where the pointee is the
-- same and no const is dropped, a null constant in a pointer, a struct in one of its own type (C99 6.5.16.1)
abbrev pub taken : «Type» → «Type» → Bool → Fit
taken (Int t) (Int s) null = fit.Converts t
taken (Pointer e fixed) (Pointer e' fixed') null = if is_same_elem e e' && (fixed || not fixed') then fit.Points else fit.Wrong
taken (Pointer e fixed) (Int s) null = if null then fit.Null else fit.Wrong
taken (Struct m) (Struct n) null = if nat_eq m n then fit.Copies else fit.Wrong
taken t s null = fit.Wrong

-- a value as what is assigned to an object of this type, passed to such a parameter or returned as such a result
unfoldable pub fit_rule : «Type» → Value → Fit
fit_rule t v = if is_bad t || is_bad v.ty then fit.Unknown else taken t v.ty v.null

-- the value doesn't fit
abbrev pub is_wrong : Fit → Bool
is_wrong fit.Wrong = true
is_wrong f = false

-- v op= w with an object of the type t as v, typed as the object = v op w (C99 6.5.16.2): the result has to fit
unfoldable pub compound_rule : BinaryOp → «Type» → Value → Rule
compound_rule op t w =
    let v : Value = record { ty = t; null = false } in
    let rule = binary_rule op v w in
    if is_wrong (fit_rule t (record { ty = rule_type rule v w; null = false })) then at_right else rule

-- two arms: of pointers to one pointee, which is const where it is in one of them, of a pointer and a null
-- constant, of two integers, of two voids (C99 6.5.15); two structs are a form of their own
abbrev pub joined : «Type» → Bool → «Type» → Bool → ChoiceRule
joined (Int a) null (Int b) null' = choice.Gives (Int (usual a b))
joined (Pointer e fixed) null (Pointer e' fixed') null' = if is_same_elem e e' then choice.Gives (Pointer e (fixed || fixed')) else choice.Wrong
joined (Pointer e fixed) null (Int b) null' = if null' then choice.Gives (Pointer e fixed) else choice.Wrong
joined (Int a) null (Pointer e fixed) null' = if null then choice.Gives (Pointer e fixed) else choice.Wrong
joined Void null Void null' = choice.Gives Void
joined (Struct m) null (Struct n) null' = choice.Structs
joined a null b null' = choice.Wrong

-- the arms v and w of ?:
unfoldable pub choice_rule : Value → Value → ChoiceRule
choice_rule v w = if is_bad v.ty || is_bad w.ty then choice.Unknown else joined v.ty v.null w.ty w.null

-- v where a truth value is wanted: an integer or a pointer (C99 6.8.4.1p1, 6.8.5p2, 6.5.15p2)
unfoldable pub condition_rule : Value → ConditionRule
condition_rule v = if is_bad v.ty then condition.Unknown else if is_scalar v.ty then condition.Good else condition.Wrong

-- from integer to integer type, from anything to void; to no pointer in this profile (C99 6.5.4)
abbrev pub converted : «Type» → «Type» → CastRule
converted Void s = cast.Discards
converted (Pointer e fixed) s = cast.OutOfProfile
converted (Int t) (Int s) = cast.Converts t
converted t s = cast.Wrong

-- v under a cast to t
unfoldable pub cast_rule : «Type» → Value → CastRule
cast_rule t v = if is_bad t || is_bad v.ty then cast.Unknown else converted t v.ty
