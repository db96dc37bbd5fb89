-- What the parameters in a half's text declare: variables under their names, of the types that are written.
use Rattle.std.proofs.Common.{◌≡◌, ◌++◌, ◌∙◌, ◌<◌, ◌≤◌, ◌+◌, sym, ap, refl, subst, ℕ, zero, suc, Bool, true, false, List, [], ◌∷◌, length, Some, arith}
use Rattle.std.specs.Prelude.{not, ◌&&◌, ◌||◌, nat_eq, slice_get, if◌then◌else◌}
use Rattle.std.proofs.lemmas.Bool.Decides.{nat_tests}
use Rattle.std.proofs.lemmas.List.{append_assoc, length-append}
use Rattle.pt_base.proofs.Booleans.{and_with_false}
use Rattle.pt_tree.specs.declared.specifier.Suffix.TheVariants.{Plain}
use Rattle.pt_tree.specs.SpecifierTree.{spec_trees}
use Rattle.pt_tree.specs.ProgramTree.{ParamTree}
use Rattle.type_rules.specs.declared.types.Type.{«Type»}
use Rattle.type_rules.specs.declared.types.Type.TheVariants as ty
use Rattle.typed_tree.specs.declared.types.StructInfo.{StructInfo}
use Rattle.typed_tree.specs.declared.types.VarTy.{VarTy}
use Rattle.typed_tree.specs.TypeTests.{points_to_const}
use Rattle.check_declarations.specs.declared.fault.FaultKind.TheVariants.{Redeclared, OutOfProfile}
use Rattle.check_declarations.specs.declared.fault.TypeFault.{TypeFault}
use Rattle.check_declarations.specs.declared.marks.Attribute.{Attribute}
use Rattle.check_declarations.specs.declared.marks.Carrier.{Carrier}
use Rattle.check_declarations.specs.declared.marks.Carrier.TheVariants as carrier
use Rattle.check_declarations.specs.declared.marks.Mark.TheVariants.{Unpriv, Declassify}
use Rattle.check_declarations.specs.declared.objects.ObjectKind.TheVariants as kind
use Rattle.check_declarations.specs.Faults.{fault_if}
use Rattle.check_declarations.specs.Marks.{mark_faults, may_stand}
use Rattle.check_declarations.specs.NameTables.{is_new}
use Rattle.check_declarations.specs.Objects.{object_faults, object_type, is_fixed}
use Rattle.check_declarations.specs.Specifiers as spec
use Rattle.check_declarations.specs.Structs.{Structs}
use Rattle.check_expressions.specs.declared.meaning.Meaning.{Meaning}
use Rattle.check_expressions.specs.declared.meaning.Meaning.TheVariants.{Local}
use Rattle.check_expressions.specs.declared.meaning.Variable.{Variable}
use Rattle.check_expressions.specs.Environment.{Env, Scope}
use Rattle.check_programs.specs.declared.function_marks.FunctionMarks.{FunctionMarks}
use Rattle.check_programs.specs.Parameters.{are_void_alone, parameters_of, Declared, declared_one, declared_all, param_variable, param_faults, is_repeated, with_param}
use Rattle.check_programs.specs.Unions.{marks_at}
use Rattle.half_trees.specs.Names.{nowhere, local_name}
use Rattle.half_trees.specs.Declarations.{is_pointer, mark_specs, object_specs, parameter, parameters_or_void}
use Rattle.half_meaning_law.specs.Known.{type_as, local_id}
use Rattle.half_names_law.proofs.Tables.{Differ, listed, listed_more, listed_back, listed_length, is_new_where}
use Rattle.half_names_law.proofs.Specifiers.{marks_list, object_says, marks_stand}
use Rattle.half_names_law.proofs.Objects.{may_be, Fits, Declares, declares, given_as, plain_parameter}

-- ---- variables of a half

-- a variable of this type with these marks
pub record Marked : Type 0 where
  pub ty : VarTy
  pub marked : Bool
  pub unpriv : Bool
  pub declassify : Bool

abbrev pub parameter_of : List StructInfo → ℕ → Marked → ParamTree
parameter_of infos k q = parameter infos (mark_specs q.marked q.unpriv q.declassify) q.ty (local_name k)

-- a parameter as the judgments have it
abbrev pub parameter_as : FunctionMarks → ℕ → Marked → Variable
parameter_as m k q = record { name = local_name k; span = nowhere; ty = type_as q.ty; fixed = false; marked = (marks_at m.params k).marked; unpriv = (marks_at m.params k).unpriv }

abbrev pub local_entry : {A : Type 0} → ℕ → A → List ℕ × Meaning
local_entry k q = (local_name k, Local (local_id k))

-- in the scope of these variables
abbrev pub scoped : Env → Scope → List Variable → Env
scoped env names variables = record env { scopes = names ∷ []; variables = variables }

-- where marks stand before a parameter of this type
abbrev pub carrier_at : FunctionMarks → VarTy → Carrier
carrier_at m u = carrier.Parameter m.privileged (not m.defined) ((is_pointer u || false) && not (points_to_const (Some u)))

pub record ParameterFits (m : FunctionMarks) (structs : Structs) (infos : List StructInfo) (q : Marked) : Type 0 where
  pub fits : Fits structs infos q.ty
  pub may : may_be kind.Parameter q.ty ≡ true
  pub hosts : (not m.defined && (is_pointer q.ty || false)) ≡ false
  pub unpriv : q.unpriv ≡ true → may_stand (carrier_at m q.ty) q.marked Unpriv ≡ true
  pub declassify : q.declassify ≡ true → may_stand (carrier_at m q.ty) q.marked Declassify ≡ true

abbrev pub ParametersFit : FunctionMarks → Structs → List StructInfo → List Marked → Type 0
ParametersFit m structs infos [] = Unit {0}
ParametersFit m structs infos (q ∷ qs) = ParameterFits m structs infos q × ParametersFit m structs infos qs

-- ---- one parameter

-- its declaration, by what its specifiers say
abbrev by_specs : FunctionMarks → Bool → Env → List StructInfo → ℕ → Marked → spec.Judged → Declared
by_specs m defines env infos k q j =
    let p = parameter_of infos k q in
    let v = param_variable m defines (length env.variables) p j.given in
    record {
      env = with_param env true v;
      structs = j.structs;
      faults = j.faults ++ param_faults m defines (length env.variables) p j.given (is_repeated env true v);
    }

-- by its parts
abbrev by_parts : FunctionMarks → Env → Structs → Scope → List Variable → ℕ → ℕ → Bool → Bool → Bool → «Type» → Bool → Bool → List TypeFault → List TypeFault → Declared
by_parts m env structs names variables k count ninth host nameless t x new of mf = record {
  env = record env {
    scopes = (if new then names ++ (local_name k, Local (record { 0 = count })) ∷ [] else names) ∷ [];
    variables = variables ++ record { name = local_name k; span = nowhere; ty = if (ninth || host) || nameless then ty.Bad else t; fixed = x; marked = (marks_at m.params count).marked; unpriv = (marks_at m.params count).unpriv } ∷ [];
  };
  structs = structs;
  faults = [] ++ (of ++ fault_if (ninth || host) OutOfProfile nowhere ++ fault_if nameless OutOfProfile nowhere ++ fault_if (true && not new) Redeclared nowhere ++ (if host then [] else mf));
}

-- a parameter, which is no array, is what it stands for
pub record DeclaresPlain (u : VarTy) (marks : List Attribute) : Type 0 where
  pub fine : object_faults kind.Parameter (given_as u marks) (is_pointer u) Plain nowhere ≡ []
  pub typed : object_type kind.Parameter (given_as u marks) (is_pointer u) Plain ≡ type_as u
  pub changes : is_fixed kind.Parameter (given_as u marks) (is_pointer u) Plain ≡ false

declares_plain : (u : VarTy) (marks : List Attribute) → may_be kind.Parameter u ≡ true → Declares kind.Parameter u (given_as u marks) → DeclaresPlain u marks
declares_plain u attributes may d =
    let plain = plain_parameter u may in
    record {
      fine = subst (λ s. object_faults kind.Parameter (given_as u attributes) (is_pointer u) s nowhere ≡ []) plain d.fine;
      typed = subst (λ s. object_type kind.Parameter (given_as u attributes) (is_pointer u) s ≡ type_as u) plain d.typed;
      changes = subst (λ s. is_fixed kind.Parameter (given_as u attributes) (is_pointer u) s ≡ false) plain d.changes;
    }

pub parameter_added : (m : FunctionMarks) (defines : Bool) (env : Env) (structs : Structs) (infos : List StructInfo) (names : Scope) (variables : List Variable) (k : ℕ) (q : Marked) → ParameterFits m structs infos q
    → length variables ≡ k → k < 8 → is_new names (local_name k) ≡ true
    → declared_one m defines (scoped env names variables) structs (parameter_of infos k q)
    ≡ record { env = scoped env (names ++ local_entry k q ∷ []) (variables ++ parameter_as m k q ∷ []); structs = structs; faults = [] }
parameter_added m defines env structs infos names variables k q fits long near new =
    let attributes = marks_list q.marked q.unpriv q.declassify in
    let d = declares_plain q.ty attributes fits.may (declares kind.Parameter q.ty attributes fits.may fits.fits.dense) in
    ap (by_specs m defines (scoped env names variables) infos k q) (object_says false structs infos q.marked q.unpriv q.declassify q.ty fits.fits.named)
    ∙ (λ i. by_parts m env structs names variables k (long i) (nat_eq (length variables) 8) (not m.defined && (is_pointer q.ty || false)) (defines && false)
    (object_type kind.Parameter (given_as q.ty attributes) (is_pointer q.ty) Plain) (is_fixed kind.Parameter (given_as q.ty attributes) (is_pointer q.ty) Plain)
    (is_new names (local_name k)) (object_faults kind.Parameter (given_as q.ty attributes) (is_pointer q.ty) Plain nowhere) (mark_faults (carrier_at m q.ty) attributes))
    ∙ (λ i. by_parts m env structs names variables k k (ninth (length variables) long i) (fits.hosts i) (and_with_false defines i) (d.typed i) (d.changes i) (new i) (d.fine i)
    (marks_stand (carrier_at m q.ty) q.marked q.unpriv q.declassify (λ e. refl) fits.unpriv fits.declassify i))
  where
    ninth : (n : ℕ) → n ≡ k → nat_eq n 8 ≡ false
    ninth n e = grind (arith, nat_tests, e, near)

-- ---- all of them

-- the names and the variables of these
abbrev pub names_of : List Marked → Scope
names_of qs = listed local_entry 0 qs

abbrev pub variables_of : FunctionMarks → List Marked → List Variable
variables_of m qs = listed (parameter_as m) 0 qs

abbrev pub parameters_by : List StructInfo → ℕ → List Marked → List ParamTree
parameters_by infos k qs = listed (parameter_of infos) k qs

pub local_new : {A : Type 0} (done : List A) (k n : ℕ) → k ≡ length done → k < n → Differ local_name n → is_new (listed local_entry 0 done) (local_name k) ≡ true
local_new done k n at low differ =
    is_new_where (listed local_entry 0 done) (local_name k)
    (λ j x there same. let back = listed_back local_entry 0 j done x there in
    let near = got_below done j back.0 back.1 in
    let equal = differ k j low (omega (arith, near, low, at)) (same ∙ ap (λ z. z.0) back.2 ∙ ap local_name (none_before j)) in omega (arith, near, at, equal))
  where
    none_before : (j : ℕ) → 0 + j ≡ j
    none_before j = omega arith

    got_below : {A : Type 0} (xs : List A) (j : ℕ) (y : A) → slice_get xs j ≡ Some y → j < length xs
    got_below [] j y h = cc
    got_below (x ∷ xs) zero y h = omega arith
    got_below (x ∷ xs) (suc j) y h = let again = got_below xs j y h in omega (arith, again)

abbrev more : FunctionMarks → Bool → List ParamTree → Declared → Declared
more m defines ps one =
    let rest = declared_all m defines one.env one.structs ps in
    record { env = rest.env; structs = rest.structs; faults = one.faults ++ rest.faults }

pub parameters_added : (m : FunctionMarks) (defines : Bool) (env : Env) (structs : Structs) (infos : List StructInfo) (done qs : List Marked) (k : ℕ) → ParametersFit m structs infos qs
    → k ≡ length done → k + length qs ≤ 8 → Differ local_name 8
    → declared_all m defines (scoped env (names_of done) (variables_of m done)) structs (parameters_by infos k qs)
    ≡ record { env = scoped env (names_of (done ++ qs)) (variables_of m (done ++ qs)); structs = structs; faults = [] }
parameters_added m defines env structs infos done [] k fit at few differ = ap (λ qs. record { env = scoped env (names_of qs) (variables_of m qs); structs = structs; faults = [] }) (sym (nothing_more done))
  where
    nothing_more : {A : Type 0} (xs : List A) → xs ++ [] ≡ xs
    nothing_more [] = refl
    nothing_more (x ∷ xs) = ap (λ ys. x ∷ ys) (nothing_more xs)
parameters_added m defines env structs infos done (q ∷ qs) k fit at few differ =
    let near : k < 8 = omega (arith, few) in
    let long : length (variables_of m done) ≡ k = listed_length (parameter_as m) 0 done ∙ sym at in
    ap (more m defines (parameters_by infos (suc k) qs)) (parameter_added m defines env structs infos (names_of done) (variables_of m done) k q fit.0 long near (local_new done k 8 at near differ))
    ∙ (λ i. declared_all m defines (scoped env (sym (listed_more local_entry 0 k done (q ∷ []) (omega (arith, at))) i) (sym (listed_more (parameter_as m) 0 k done (q ∷ []) (omega (arith, at))) i)) structs (parameters_by infos (suc k) qs))
    ∙ parameters_added m defines env structs infos (done ++ q ∷ []) qs (suc k) fit.1 (longer done k at) (omega (arith, few)) differ
    ∙ ap (λ rs. record { env = scoped env (names_of rs) (variables_of m rs); structs = structs; faults = [] }) (append_assoc done (q ∷ []) qs)
  where
    longer : (xs : List Marked) (n : ℕ) → n ≡ length xs → suc n ≡ length (xs ++ q ∷ [])
    longer xs n h = let two = length-append xs (q ∷ []) in omega (arith, h, two)

-- `void` stands for none, and a parameter with a name for itself
pub parameters_are : (infos : List StructInfo) (k : ℕ) (qs : List Marked) → parameters_of (parameters_or_void (parameters_by infos k qs)) ≡ parameters_by infos k qs
parameters_are infos k [] = refl
parameters_are infos k (q ∷ []) = ap (λ b. if b then [] else parameter_of infos k q ∷ []) (go (are_void_alone (spec_trees (mark_specs q.marked q.unpriv q.declassify ++ object_specs infos q.ty))) (not (is_pointer q.ty || false)))
  where
    go : (a b : Bool) → (a && (b && false)) ≡ false
    go true true = refl
    go true false = refl
    go false b = refl
parameters_are infos k (q ∷ r ∷ qs) = refl
