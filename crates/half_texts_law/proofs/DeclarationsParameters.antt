-- The parameters of a declaration without a fault have the types and the marks that their attributes call for.
use Rattle.std.proofs.Common.{◌≡◌, ◌≤◌, ◌+◌, ◌++◌, ◌∙◌, sym, ap, subst, refl, ℕ, zero, suc, Bool, true, false, List, [], ◌∷◌, length, arith, map, not, if◌then◌else◌, Option, Some, None, inl, inr}
use Rattle.std.specs.Prelude.{IsTrue, ◌&&◌, ◌||◌, nat_eq, slice_get, is_some}
use Rattle.std.specs.List.{list_all}
use Rattle.std.proofs.lemmas.Bool.{or_parts}
use Rattle.pt_base.proofs.Lists.{append_nil_first, append_nil_second, length_pushed}
use Rattle.pt_base.proofs.Members.{all_hold_at}
use Rattle.pt_base.proofs.Places.{get_kept, get_mapped, get_pushed as get_last}
use Rattle.pt_tree.specs.declared.specifier.Suffix.{Suffix}
use Rattle.pt_tree.specs.declared.specifier.Suffix.TheVariants.{Plain, Open, Sized}
use Rattle.pt_tree.specs.ProgramTree.{ParamTree}
use Rattle.type_rules.specs.declared.types.Type.{«Type»}
use Rattle.type_rules.specs.declared.types.Type.TheVariants as ty
use Rattle.check_declarations.specs.declared.fault.FaultKind.TheVariants.{Redeclared, OutOfProfile}
use Rattle.check_declarations.specs.declared.marks.Marks.{Marks}
use Rattle.check_declarations.specs.declared.objects.ObjectKind.TheVariants as kind
use Rattle.check_declarations.specs.declared.specifiers.Specified.{Specified}
use Rattle.check_declarations.specs.Faults.{fault_if}
use Rattle.check_declarations.specs.Marks.{marks_of, mark_faults}
use Rattle.check_declarations.specs.Objects.{object_faults, object_type, shaped, pointer_to, is_array_form, is_wrong_base, is_wrong_form, is_mutable_pointer}
use Rattle.check_declarations.specs.Specifiers.{specified, attributes}
use Rattle.check_declarations.specs.Structs.{Structs}
use Rattle.check_expressions.specs.declared.meaning.Variable.{Variable}
use Rattle.check_expressions.specs.Environment.{Env}
use Rattle.type_law.specs.DeclarationsTypes.{is_parameter}
use Rattle.type_law.proofs.DeclarationsFaultLemmas.{no_fault}
use Rattle.check_programs.specs.declared.function_marks.FunctionMarks.{FunctionMarks}
use Rattle.check_programs.specs.Parameters.{is_host_pointer, is_refused, lacks_name, place_of, param_type, param_variable, param_carrier, param_faults, attribute_faults, is_repeated, with_param, Declared, declared_one, declared_all}
use Rattle.check_programs.specs.Unions.{own_marks, marks_at, params_marks}
use Rattle.type_law.proofs.ProgramsListLemmas.{get_pushed}
use Rattle.half_texts_law.proofs.DeclarationsStands.{parameter_declassified, parameter_unprivileged}
use Rattle.half_texts_law.proofs.DeclarationsUnions.{May}

-- a pointer to what isn't const
abbrev pub is_mutable_type : «Type» → Bool
is_mutable_type (ty.Pointer e fixed) = not fixed
is_mutable_type t = false

abbrev pub MutableVariable : List Variable → ℕ → Type 0
MutableVariable variables k = (v : Variable) → slice_get variables k ≡ Some v → is_mutable_type v.ty ≡ true

-- ---- one parameter

pointer_mutable : (n : ℕ) (base : «Type») → IsTrue (is_parameter n (pointer_to base false)) → is_mutable_type (pointer_to base false) ≡ true
pointer_mutable n ty.Bad h = cc
pointer_mutable n ty.Void h = cc
pointer_mutable n (ty.Int t) h = refl
pointer_mutable n (ty.Struct k) h = refl
pointer_mutable n (ty.Array e count) h = cc
pointer_mutable n (ty.Pointer e fixed) h = cc

shaped_mutable : (n : ℕ) (base : «Type») (fixed pointer : Bool) (suffix : Suffix) → ((pointer || is_array_form suffix) && not fixed) ≡ true → IsTrue (is_parameter n (shaped true base fixed pointer suffix)) → is_mutable_type (shaped true base fixed pointer suffix) ≡ true
shaped_mutable n base true true suffix h i = cc
shaped_mutable n base false true suffix h i = pointer_mutable n base i
shaped_mutable n base fixed false Plain h i = cc
shaped_mutable n base true false Open h i = cc
shaped_mutable n base false false Open h i = pointer_mutable n base i
shaped_mutable n base true false (Sized c) h i = cc
shaped_mutable n base false false (Sized c) h i = pointer_mutable n base i

mutable : (n : ℕ) (given : Specified) (pointer : Bool) (suffix : Suffix) → is_mutable_pointer given pointer suffix ≡ true → IsTrue (is_parameter n (object_type kind.Parameter given pointer suffix))
    → is_mutable_type (object_type kind.Parameter given pointer suffix) ≡ true
mutable n given pointer suffix h i = go (is_wrong_base kind.Parameter given || is_wrong_form kind.Parameter given.base pointer suffix) i
  where
    go : (b : Bool) → IsTrue (is_parameter n (if b then ty.Bad else shaped true given.base given.fixed pointer suffix)) → is_mutable_type (if b then ty.Bad else shaped true given.base given.fixed pointer suffix) ≡ true
    go true i = cc
    go false i = shaped_mutable n given.base given.fixed pointer suffix h i

pub more_variables : (env : Env) (b : Bool) (v : Variable) → (with_param env b v).variables ≡ env.variables ++ v ∷ []
more_variables env true v = refl
more_variables env false v = refl

one_may : (own : FunctionMarks) (defines : Bool) (n k : ℕ) (p : ParamTree) (given : Specified) (repeated : Bool) → given.attributes ≡ attributes p.specs → param_faults own defines k p given repeated ≡ []
    → IsTrue (is_parameter n (param_variable own defines k p given).ty) → May own.privileged (is_mutable_type (param_variable own defines k p given).ty ≡ true) (own_marks p.specs)
one_may own defines n k p given repeated same none good =
    let f1 = object_faults kind.Parameter given p.pointer p.suffix (place_of p given) in
    let f2 = fault_if (is_refused own k p) OutOfProfile (place_of p given) in
    let f3 = fault_if (lacks_name defines p) OutOfProfile given.first in
    let f4 = fault_if repeated Redeclared (place_of p given) in
    let n5 = append_nil_second (f1 ++ f2 ++ f3 ++ f4) (attribute_faults own p given) none in
    let n4 = append_nil_first (f1 ++ f2 ++ f3 ++ f4) (attribute_faults own p given) none in
    let n3 = append_nil_first (f1 ++ f2 ++ f3) f4 n4 in
    let n2 = append_nil_first (f1 ++ f2) f3 n3 in
    let taken : is_refused own k p ≡ false = no_fault (is_refused own k p) OutOfProfile (place_of p given) (append_nil_second f1 f2 n2) in
    let named : lacks_name defines p ≡ false = no_fault (lacks_name defines p) OutOfProfile given.first (append_nil_second (f1 ++ f2) f3 n3) in
    let host : is_host_pointer own p ≡ false = (or_parts (nat_eq k 8) (is_host_pointer own p) taken).1 in
    let is : param_type own defines k p given ≡ object_type kind.Parameter given p.pointer p.suffix =
    ap (λ b. if b || lacks_name defines p then ty.Bad else object_type kind.Parameter given p.pointer p.suffix) taken
    ∙ ap (λ b. if b then ty.Bad else object_type kind.Parameter given p.pointer p.suffix) named in
    let marks : mark_faults (param_carrier own p given) given.attributes ≡ [] = ap (λ b. if b then [] else mark_faults (param_carrier own p given) given.attributes) (sym host) ∙ n5 in
    let right : IsTrue (is_parameter n (object_type kind.Parameter given p.pointer p.suffix)) = subst (λ x. IsTrue (is_parameter n x)) is good in
    subst (λ as'. May own.privileged (is_mutable_type (param_variable own defines k p given).ty ≡ true) (marks_of as')) same (record {
      declassify = λ h.
          let both = parameter_declassified own.privileged (not own.defined) (is_mutable_pointer given p.pointer p.suffix) given.attributes marks h in
          (both.0, ap is_mutable_type is ∙ mutable n given p.pointer p.suffix both.1 right);
      unpriv = λ h. parameter_unprivileged own.privileged (not own.defined) (is_mutable_pointer given p.pointer p.suffix) given.attributes marks h;
    })

-- ---- all parameters

pub params_kept : (own : FunctionMarks) (defines : Bool) (env : Env) (structs : Structs) (ps : List ParamTree) (k : ℕ) (v : Variable) → slice_get env.variables k ≡ Some v → slice_get (declared_all own defines env structs ps).env.variables k ≡ Some v
params_kept own defines env structs [] k v h = h
params_kept own defines env structs (p ∷ ps) k v h =
    let one = declared_one own defines env structs p in
    let x = param_variable own defines (length env.variables) p (specified false structs p.specs).given in
    params_kept own defines one.env one.structs ps k v (ap (λ xs. slice_get xs k) (more_variables env (is_some p.name) x) ∙ get_kept env.variables (x ∷ []) k v h)

pub params_may : (own : FunctionMarks) (defines : Bool) (n : ℕ) (env : Env) (structs : Structs) (ps : List ParamTree) → (declared_all own defines env structs ps).faults ≡ []
    → IsTrue (list_all (is_parameter n) (map (λ x. x.ty) (declared_all own defines env structs ps).env.variables))
    → (j : ℕ) (m : Marks) → slice_get (params_marks ps) j ≡ Some m → May own.privileged (MutableVariable (declared_all own defines env structs ps).env.variables (length env.variables + j)) m
params_may own defines n env structs [] none good j m h = cc
params_may own defines n env structs (p ∷ ps) none good zero m h =
    let one = declared_one own defines env structs p in
    let rest = declared_all own defines one.env one.structs ps in
    let j = specified false structs p.specs in
    let k = length env.variables in
    let x : Variable = param_variable own defines k p j.given in
    let repeated = is_repeated env (is_some p.name) x in
    let none_one = append_nil_second j.faults (param_faults own defines k p j.given repeated) (append_nil_first one.faults rest.faults none) in
    let there : slice_get rest.env.variables k ≡ Some x = params_kept own defines one.env one.structs ps k x (ap (λ xs. slice_get xs k) (more_variables env (is_some p.name) x) ∙ get_last env.variables x) in
    let fits : IsTrue (is_parameter n x.ty) = all_hold_at (is_parameter n) (map (λ x. x.ty) rest.env.variables) k x.ty good (get_mapped (λ (x : Variable). x.ty) rest.env.variables k x there) in
    let may = one_may own defines n k p j.given repeated refl none_one fits in
    let is : own_marks p.specs ≡ m = cc in
    let zero_on : k + 0 ≡ k = omega arith in
    subst (λ z. May own.privileged (MutableVariable rest.env.variables (k + 0)) z) is (record {
      declassify = λ i.
          let both = may.declassify i in
          (both.0, λ v at. let same : x ≡ v = one_value there (ap (slice_get rest.env.variables) (sym zero_on) ∙ at) in subst (λ (z : Variable). is_mutable_type z.ty ≡ true) same both.1);
      unpriv = may.unpriv;
    })
  where
    one_value : {X : Type 0} {x y : X} {o : Option X} → o ≡ Some x → o ≡ Some y → x ≡ y
    one_value h i = cc
params_may own defines n env structs (p ∷ ps) none good (suc j) m h =
    let one = declared_one own defines env structs p in
    let rest = declared_all own defines one.env one.structs ps in
    let x : Variable = param_variable own defines (length env.variables) p (specified false structs p.specs).given in
    let longer : length one.env.variables ≡ suc (length env.variables) = ap length (more_variables env (is_some p.name) x) ∙ length_pushed env.variables x in
    let number : length one.env.variables + j ≡ length env.variables + suc j = omega (arith, longer) in
    subst (λ i. May own.privileged (MutableVariable rest.env.variables i) m) number (params_may own defines n one.env one.structs ps (append_nil_second one.faults rest.faults none) good j m h)

-- each variable has the mark of its place
abbrev pub PlacedUnpriv : FunctionMarks → List Variable → Type 0
PlacedUnpriv own variables = (j : ℕ) (x : Variable) → slice_get variables j ≡ Some x → x.unpriv ≡ (marks_at own.params j).unpriv

pub params_unpriv : (own : FunctionMarks) (defines : Bool) (env : Env) (structs : Structs) (ps : List ParamTree) → PlacedUnpriv own env.variables → PlacedUnpriv own (declared_all own defines env structs ps).env.variables
params_unpriv own defines env structs [] h = h
params_unpriv own defines env structs (p ∷ ps) h =
    let one = declared_one own defines env structs p in
    let x : Variable = param_variable own defines (length env.variables) p (specified false structs p.specs).given in
    params_unpriv own defines one.env one.structs ps (subst (λ xs. PlacedUnpriv own xs) (sym (more_variables env (is_some p.name) x)) (λ j y i. elim (get_pushed env.variables x j y i) [
      | inl old ↦ h j y old
      | inr last ↦ ap (λ (z : Variable). z.unpriv) last.is ∙ ap (λ k. (marks_at own.params k).unpriv) (sym last.at)
    ]))
