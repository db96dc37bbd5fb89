-- What all declarations of a function mark together, where each of them may.
use Rattle.std.proofs.Common.{◌≡◌, ◌∙◌, sym, ap, subst, refl, ℕ, zero, suc, Bool, true, false, List, [], ◌∷◌, ◌++◌, map, fold, not, length, Option, Some, None, inl, inr, if◌then◌else◌}
use Rattle.std.specs.Prelude.{IsTrue, ◌&&◌, ◌||◌, slice_get, unwrap_or, is_none, is_some}
use Rattle.std.specs.List.{list_all, list_any}
use Rattle.pt_base.proofs.Booleans.{both_hold_first, or_true_cases}
use Rattle.pt_tree.specs.declared.signature.Param.{Param}
use Rattle.pt_tree.specs.declared.specifier.SpecWord.{SpecWord}
use Rattle.pt_tree.specs.declared.specifier.SpecWord.TheVariants as word
use Rattle.pt_tree.specs.ProgramTree.{ParamTree, FunctionTree}
use Rattle.pt_tree.specs.SpecifierTree.{SpecTree, SpecTrees, attribute, keyword, structure, no_specs, spec_and}
use Rattle.check_declarations.specs.declared.marks.Marks.{Marks}
use Rattle.check_declarations.specs.Objects.{is_array_form}
use Rattle.check_programs.specs.declared.function_marks.FunctionMarks.{FunctionMarks}
use Rattle.check_programs.specs.Parameters.{are_void_alone, is_void_param, parameters_of}
use Rattle.check_programs.specs.Unions.{own_marks, no_marks, both, union, marks_at, undeclared, params_marks, with_declaration}
use Rattle.half_names_law.specs.Declarable.{is_mutable}

-- what a parameter of these marks has to be
pub record May (privileged : Bool) (mutable : Type 0) (m : Marks) : Type 0 where
  pub declassify : m.declassify ≡ true → (privileged ≡ true) × mutable
  pub unpriv : m.unpriv ≡ true → privileged ≡ false

abbrev pub MutableAt : List Param → ℕ → Type 0
MutableAt params j = (q : Param) → slice_get params j ≡ Some q → is_mutable q.kind ≡ true

-- a declaration of a function with these parameters
pub record Good (privileged : Bool) (params : List Param) (d : FunctionTree) : Type 0 where
  pub own : (own_marks d.specs).declassify ≡ true → privileged ≡ true
  pub params_may : (j : ℕ) (m : Marks) → slice_get (params_marks d.params) j ≡ Some m → May privileged (MutableAt params j) m

abbrev pub Goods : Bool → List Param → List FunctionTree → Type 0
Goods privileged params [] = Unit {0}
Goods privileged params (d ∷ ds) = Good privileged params d × Goods privileged params ds

-- what they say together
pub record Fine (privileged : Bool) (params : List Param) (m : FunctionMarks) : Type 0 where
  pub own : m.declassify ≡ true → privileged ≡ true
  pub params_may : (j : ℕ) → May privileged (MutableAt params j) (marks_at m.params j)

may_nothing : (privileged : Bool) (mutable : Type 0) → May privileged mutable no_marks
may_nothing privileged mutable = record { declassify = λ h. cc; unpriv = λ h. cc }

may_both : (privileged : Bool) (mutable : Type 0) (a b : Marks) → May privileged mutable a → May privileged mutable b → May privileged mutable (both a b)
may_both privileged mutable a b x y = record {
  declassify = λ h. elim (or_true_cases a.declassify b.declassify h) [ inl i ↦ x.declassify i | inr i ↦ y.declassify i ];
  unpriv = λ h. elim (or_true_cases a.unpriv b.unpriv h) [ inl i ↦ x.unpriv i | inr i ↦ y.unpriv i ];
}

may_union : (privileged : Bool) (mutable : Type 0) (as' bs : List Marks) (j : ℕ) → May privileged mutable (marks_at as' j) → ((m : Marks) → slice_get bs j ≡ Some m → May privileged mutable m) → May privileged mutable (marks_at (union as' bs) j)
may_union privileged mutable [] bs j x y = go (slice_get bs j) refl
  where
    go : (o : Option Marks) → slice_get bs j ≡ o → May privileged mutable (unwrap_or o no_marks)
    go None e = may_nothing privileged mutable
    go (Some m) e = y m e
may_union privileged mutable (a ∷ as') [] j x y = x
may_union privileged mutable (a ∷ as') (b ∷ bs) zero x y = may_both privileged mutable a b x (y b refl)
may_union privileged mutable (a ∷ as') (b ∷ bs) (suc j) x y = may_union privileged mutable as' bs j x y

fine_more : (privileged : Bool) (params : List Param) (m : FunctionMarks) (d : FunctionTree) → Fine privileged params m → Good privileged params d → Fine privileged params (with_declaration m d)
fine_more privileged params m d f g = record {
  own = λ h. elim (or_true_cases m.declassify (own_marks d.specs).declassify h) [ inl i ↦ f.own i | inr i ↦ g.own i ];
  params_may = λ j. may_union privileged (MutableAt params j) m.params (params_marks d.params) j (f.params_may j) (g.params_may j);
}

pub fine_all : (privileged : Bool) (params : List Param) (m : FunctionMarks) (ds : List FunctionTree) → Fine privileged params m → Goods privileged params ds → Fine privileged params (fold with_declaration m ds)
fine_all privileged params m [] f g = f
fine_all privileged params m (d ∷ ds) f g = fine_all privileged params (with_declaration m d) ds (fine_more privileged params m d f g.0) g.1

pub fine_none : (privileged : Bool) (params : List Param) → Fine privileged params undeclared
fine_none privileged params = record { own = λ h. cc; params_may = λ j. may_nothing privileged (MutableAt params j) }

-- ---- `(void)`

no_attributes : (specs : SpecTrees) → are_void_alone specs ≡ true → own_marks specs ≡ no_marks
no_attributes no_specs h = cc
no_attributes (spec_and (attribute s names) no_specs) h = cc
no_attributes (spec_and (keyword s w) no_specs) h = refl
no_attributes (spec_and (structure s tag body) no_specs) h = cc
no_attributes (spec_and s (spec_and x specs)) h = cc

-- what holds of the parameters that are judged holds of all that are written
pub written_may : (privileged : Bool) (mutable : ℕ → Type 0) (ps : List ParamTree) → ((j : ℕ) (m : Marks) → slice_get (params_marks (parameters_of ps)) j ≡ Some m → May privileged (mutable j) m)
    → (j : ℕ) (m : Marks) → slice_get (params_marks ps) j ≡ Some m → May privileged (mutable j) m
written_may privileged mutable [] h j m i = h j m i
written_may privileged mutable (p ∷ []) h j m i = go (is_void_param p) refl h j m i
  where
    go : (b : Bool) → is_void_param p ≡ b → ((j : ℕ) (m : Marks) → slice_get (params_marks (if b then [] else p ∷ [])) j ≡ Some m → May privileged (mutable j) m)
        → (j : ℕ) (m : Marks) → slice_get (params_marks (p ∷ [])) j ≡ Some m → May privileged (mutable j) m
    go false e h j m i = h j m i
    go true e h zero m i =
        let one : own_marks p.specs ≡ m = cc in
        let none : own_marks p.specs ≡ no_marks = no_attributes p.specs (both_hold_first (are_void_alone p.specs) (not (p.pointer || is_array_form p.suffix) && is_none p.name) e) in
        subst (λ z. May privileged (mutable 0) z) (sym none ∙ one) (may_nothing privileged (mutable 0))
    go true e h (suc j) m i = cc
written_may privileged mutable (p ∷ q ∷ ps) h j m i = h j m i
