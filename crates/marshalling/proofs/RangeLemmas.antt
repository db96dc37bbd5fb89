-- Ranges say together what the arguments say.
use Rattle.std.proofs.Common.{◌≡◌, ◌<◌, ◌≤◌, ◌+◌, ◌-◌, ◌++◌, ◌∙◌, append_assoc, pos, sym, ap, refl, ℕ, false, List, [], ◌∷◌, length, drop, get_or}
use Rattle.std.proofs.lemmas.List.{drop_all}
use Rattle.pt_base.specs.declared.int_type.IntType.TheVariants as i
use Rattle.pt_tree.specs.declared.signature.Param.{Param}
use Rattle.pt_tree.specs.declared.signature.ParamKind.TheVariants as kind
use Rattle.typed_tree.specs.declared.types.StructInfo.{StructInfo}
use Rattle.typed_tree.specs.Cells.{repeated}
use Rattle.wire.specs.declared.cell.Arg.{Arg}
use Rattle.wire.specs.declared.cell.Arg.TheVariants as argument
use Rattle.marshalling.specs.declared.crossing.Crossing.{Crossing}
use Rattle.marshalling.specs.declared.crossing.Crossing.TheVariants.{Stays, Plain, Sealed}
use Rattle.marshalling.specs.declared.leaf.Leaf.{Leaf}
use Rattle.marshalling.specs.declared.range.Range.{Range}
use Rattle.marshalling.specs.Crossings.{crossing_by, crossing_of, is_secret, stronger}
use Rattle.marshalling.specs.Ranges.{crossing_among, crossing_in}
use Rattle.marshalling.proofs.Lists.{at_drop, at_drops}
use Rattle.marshalling.proofs.ShapeLemmas.{repeated_more}

-- ---- the stronger of several

pub stronger_assoc : (a b c : Crossing) → stronger (stronger a b) c ≡ stronger a (stronger b c)
stronger_assoc Sealed b c = refl
stronger_assoc Plain Sealed c = refl
stronger_assoc Plain Plain Sealed = refl
stronger_assoc Plain Plain Plain = refl
stronger_assoc Plain Plain Stays = refl
stronger_assoc Plain Stays Sealed = refl
stronger_assoc Plain Stays Plain = refl
stronger_assoc Plain Stays Stays = refl
stronger_assoc Stays b c = refl

pub stronger_stays : (a : Crossing) → stronger a Stays ≡ a
stronger_stays Sealed = refl
stronger_stays Plain = refl
stronger_stays Stays = refl

-- functions that agree everywhere are equal
pub same_crossings : (f g : ℕ → ℕ → Crossing) → ((k n : ℕ) → f k n ≡ g k n) → f ≡ g
same_crossings f g h = λ i k n. h k n i

-- ---- one range more

pub among_more : (ranges : List Range) (r : Range) (k n : ℕ)
    → crossing_among (ranges ++ r ∷ []) k n ≡ stronger (crossing_among ranges k n) (crossing_in r k n)
among_more [] r k n = stronger_stays (crossing_in r k n)
among_more (s ∷ ranges) r k n =
    ap (stronger (crossing_in s k n)) (among_more ranges r k n)
    ∙ sym (stronger_assoc (crossing_in s k n) (crossing_among ranges k n) (crossing_in r k n))

-- no range
pub among_none : (ranges : List Range) (crossing : ℕ → ℕ → Crossing) (k n : ℕ) → Stays ≡ crossing k n
    → crossing_among ranges k n ≡ stronger (crossing_among ranges k n) (crossing k n)
among_none ranges crossing k n h = sym (stronger_stays (crossing_among ranges k n)) ∙ ap (stronger (crossing_among ranges k n)) h

pub among_some : (ranges more : List Range) (r : Range) (crossing : ℕ → ℕ → Crossing) (k n : ℕ) → more ≡ ranges ++ r ∷ []
    → crossing_in r k n ≡ crossing k n
    → crossing_among more k n ≡ stronger (crossing_among ranges k n) (crossing k n)
among_some ranges more r crossing k n is h =
    ap (λ rs. crossing_among rs k n) is ∙ among_more ranges r k n ∙ ap (stronger (crossing_among ranges k n)) h

-- ---- the walk over arguments

pub ranges_more : (structs : List StructInfo) (params : List Param) (args : List Arg) (i : ℕ) (p : Param) (a : Arg) (before after : List Range)
    (k n : ℕ) (whole : Crossing)
    → i < length params → i < length args → p ≡ get_or params i p → a ≡ get_or args i a
    → crossing_among after k n ≡ stronger (crossing_among before k n) (crossing_by structs (is_secret p) p.kind a k n)
    → stronger (crossing_among before k n) (crossing_of structs (drop i params) (drop i args) k n) ≡ whole
    → stronger (crossing_among after k n) (crossing_of structs (drop (i + 1) params) (drop (i + 1) args) k n) ≡ whole
ranges_more structs params args i p a before after k n whole lp la ep ea is so_far =
    let rest = crossing_of structs (drop (i + 1) params) (drop (i + 1) args) k n in
    ap (λ x. stronger x rest) is ∙ stronger_assoc (crossing_among before k n) (crossing_by structs (is_secret p) p.kind a k n) rest
    ∙ ap (stronger (crossing_among before k n)) (sym (at_drops (λ ps as'. crossing_of structs ps as' k n) params args i p a lp la ep ea)) ∙ so_far

-- no argument is left
none_left : (structs : List StructInfo) (params : List Param) (k n : ℕ) → crossing_of structs params [] k n ≡ Stays
none_left structs [] k n = refl
none_left structs (p ∷ params) k n = refl

pub ranges_end : (structs : List StructInfo) (params : List Param) (args : List Arg) (i : ℕ) (ranges : List Range) (k n : ℕ) (whole : Crossing)
    → length args ≤ i
    → stronger (crossing_among ranges k n) (crossing_of structs params (drop i args) k n) ≡ whole → crossing_among ranges k n ≡ whole
ranges_end structs params args i ranges k n whole past so_far =
    sym (stronger_stays (crossing_among ranges k n))
    ∙ ap (stronger (crossing_among ranges k n))
    (sym (none_left structs params k n) ∙ ap (λ as'. crossing_of structs params as' k n) (sym (drop_all i args past))) ∙ so_far

pub ranges_done : (structs : List StructInfo) (params : List Param) (args : List Arg) (i : ℕ) (ranges : List Range) (k n : ℕ) (whole : Crossing)
    → length params ≤ i
    → stronger (crossing_among ranges k n) (crossing_of structs (drop i params) args k n) ≡ whole → crossing_among ranges k n ≡ whole
ranges_done structs params args i ranges k n whole past so_far =
    sym (stronger_stays (crossing_among ranges k n))
    ∙ ap (λ ps. stronger (crossing_among ranges k n) (crossing_of structs ps args k n)) (sym (drop_all i params past)) ∙ so_far

-- ---- the walk over ranges

pub crossing_more : (ranges : List Range) (i : ℕ) (r : Range) (k n : ℕ) (before after whole : Crossing) → i < length ranges → r ≡ get_or ranges i r
    → after ≡ stronger before (crossing_in r k n) → stronger before (crossing_among (drop i ranges) k n) ≡ whole
    → stronger after (crossing_among (drop (i + 1) ranges) k n) ≡ whole
crossing_more ranges i r k n before after whole lt e is so_far =
    let rest = crossing_among (drop (i + 1) ranges) k n in
    ap (λ x. stronger x rest) is ∙ stronger_assoc before (crossing_in r k n) rest
    ∙ ap (stronger before) (sym (at_drop (λ rs. crossing_among rs k n) ranges i r lt e)) ∙ so_far

-- ---- the leaves of a range

pub repeat_more : (element : List Leaf) (count i : ℕ) (before after chunk whole : List Leaf) → i < count → after ≡ before ++ chunk → chunk ≡ element
    → before ++ repeated (count - i) element ≡ whole → after ++ repeated (count - (i + 1)) element ≡ whole
repeat_more element count i before after chunk whole lt is same so_far =
    ap (λ xs. xs ++ repeated (count - (i + 1)) element) (is ∙ ap (λ xs. before ++ xs) same)
    ∙ append_assoc before element (repeated (count - (i + 1)) element) ∙ ap (λ xs. before ++ xs) (sym (repeated_more element count i lt)) ∙ so_far

-- ---- what is read where nothing is

abbrev pub no_param : Param
no_param = record { kind = kind.Int i.Char; marked = false; declassify = false }

abbrev pub no_arg : Arg
no_arg = argument.Number (pos 0)
