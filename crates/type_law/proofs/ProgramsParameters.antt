-- The parameters of a function whose declarator has no fault.
use Rattle.std.proofs.Common.{◌≡◌, ◌≤◌, ◌++◌, ◌∙◌, sym, ap, subst, refl, ℕ, suc, Bool, true, false, List, [], ◌∷◌, length, arith, map, not, if◌then◌else◌, Some, inl, inr}
use Rattle.std.specs.Prelude.{IsTrue, ◌&&◌, ◌||◌, nat_lt, nat_eq, slice_get, is_some}
use Rattle.std.specs.List.{list_all}
use Rattle.std.proofs.lemmas.Bool.Decides.{nat_tests}
use Rattle.std.proofs.lemmas.Bool.{or_parts}
use Rattle.pt_base.proofs.Booleans.{both_hold}
use Rattle.pt_base.proofs.Lists.{append_nil_first, append_nil_second, length_pushed, map_append}
use Rattle.pt_base.proofs.Members.{all_hold_append}
use Rattle.pt_tree.specs.declared.specifier.Suffix.{Suffix}
use Rattle.pt_tree.specs.declared.specifier.Suffix.TheVariants.{Plain, Open, Sized}
use Rattle.pt_tree.specs.ProgramTree.{ParamTree}
use Rattle.type_rules.specs.declared.types.Type.{«Type»}
use Rattle.type_rules.specs.declared.types.Type.TheVariants as ty
use Rattle.type_rules.specs.Types.{is_integer}
use Rattle.check_declarations.specs.declared.fault.FaultKind.TheVariants.{Redeclared, OutOfProfile}
use Rattle.check_declarations.specs.declared.objects.ObjectKind.TheVariants as kind
use Rattle.check_declarations.specs.declared.specifiers.Specified.{Specified}
use Rattle.check_declarations.specs.Faults.{fault_if}
use Rattle.check_declarations.specs.NameTables.{is_new, with_name}
use Rattle.check_declarations.specs.Objects.{object_faults, object_type, is_array_form, is_wrong_base, is_wrong_form}
use Rattle.check_declarations.specs.Specifiers.{specified}
use Rattle.check_declarations.specs.Structs.{Structs}
use Rattle.check_expressions.specs.declared.meaning.Meaning.{Meaning}
use Rattle.check_expressions.specs.declared.meaning.Meaning.TheVariants.{Function, Global, Local}
use Rattle.check_expressions.specs.declared.meaning.Variable.{Variable}
use Rattle.check_expressions.specs.Environment.{Env, Scope, bind_inner}
use Rattle.type_law.specs.DeclarationsTypes.{is_base, is_parameter}
use Rattle.type_law.specs.DeclarationsSound.{SoundStructs}
use Rattle.type_law.specs.DeclarationsLaws.{SpecifiersAreSound, ObjectsAreSound}
use Rattle.check_programs.specs.declared.function_marks.FunctionMarks.{FunctionMarks}
use Rattle.check_programs.specs.Unions.{marks_at}
use Rattle.check_programs.specs.Parameters.{is_pointer_form, is_host_pointer, is_refused, lacks_name, place_of, param_type, param_variable, param_faults, attribute_faults, is_repeated, with_param, Declared, declared_one, declared_all}
use Rattle.type_law.proofs.ProgramsListLemmas.{all_weaker, get_pushed}
use Rattle.type_law.proofs.ProgramsSound.{is_local_meaning, is_local_entry}
use Rattle.type_law.proofs.DeclarationsFaultLemmas.{no_fault}

-- the parameters so far, in a scope that is open
pub record SoundParams (marks : FunctionMarks) (base : Env) (structs : ℕ) (env : Env) : Type 0 where
  pub file : env.file ≡ base.file
  pub functions : env.functions ≡ base.functions
  pub globals : env.globals ≡ base.globals
  pub scope : Scope
  pub scopes : env.scopes ≡ scope ∷ []
  pub locals : IsTrue (list_all (is_local_entry (length env.variables)) scope)
  pub types : IsTrue (list_all (is_parameter structs) (map (λ x. x.ty) env.variables))
  pub marked : (j : ℕ) (x : Variable) → slice_get env.variables j ≡ Some x → x.marked ≡ (marks_at marks.params j).marked
  pub few : length env.variables ≤ 8
  pub integers : marks.defined ≡ false → IsTrue (list_all is_integer (map (λ x. x.ty) env.variables))

local_more : (m n : ℕ) → m ≤ n → (e : List ℕ × Meaning) → IsTrue (is_local_entry m e) → IsTrue (is_local_entry n e)
local_more m n h (name, Function f) i = i
local_more m n h (name, Global g) i = i
local_more m n h (name, Local x) i = grind (arith, nat_tests)

-- a name more, or none
named_all : (p : List ℕ × Meaning → Bool) (scope : Scope) (name : List ℕ) (m : Meaning) → IsTrue (list_all p scope) → IsTrue (p (name, m)) → IsTrue (list_all p (with_name scope name m))
named_all p scope name m h i = go (is_new scope name)
  where
    go : (b : Bool) → IsTrue (list_all p (if b then scope ++ (name, m) ∷ [] else scope))
    go true = all_hold_append p scope ((name, m) ∷ []) h (both_hold (p (name, m)) true i refl)
    go false = h

-- a variable more, which has the marks of its position
marked_more : (marks : FunctionMarks) (xs : List Variable) (v : Variable) → ((j : ℕ) (x : Variable) → slice_get xs j ≡ Some x → x.marked ≡ (marks_at marks.params j).marked)
    → v.marked ≡ (marks_at marks.params (length xs)).marked → (j : ℕ) (x : Variable) → slice_get (xs ++ v ∷ []) j ≡ Some x → x.marked ≡ (marks_at marks.params j).marked
marked_more marks xs v before here j x h = elim (get_pushed xs v j x h) [
  | inl old ↦ before j x old
  | inr last ↦ ap (λ (y : Variable). y.marked) last.is ∙ here ∙ ap (λ k. (marks_at marks.params k).marked) (sym last.at)
]

-- ---- one parameter

integer_form : (n : ℕ) (base : «Type») (b : Bool) → IsTrue (is_base n base) → IsTrue (is_parameter n (if b then ty.Bad else base)) → IsTrue (is_integer (if b then ty.Bad else base))
integer_form n base true h i = cc
integer_form n ty.Bad false h i = cc
integer_form n ty.Void false h i = cc
integer_form n (ty.Int t) false h i = refl
integer_form n (ty.Struct k) false h i = cc
integer_form n (ty.Array e count) false h i = cc
integer_form n (ty.Pointer e fixed) false h i = cc

integer_param : (n : ℕ) (given : Specified) (pointer : Bool) (suffix : Suffix) → IsTrue (is_base n given.base) → (pointer || is_array_form suffix) ≡ false
    → IsTrue (is_parameter n (object_type kind.Parameter given pointer suffix)) → IsTrue (is_integer (object_type kind.Parameter given pointer suffix))
integer_param n given true suffix base plain h = cc
integer_param n given false Plain base plain h = integer_form n given.base (is_wrong_base kind.Parameter given || is_wrong_form kind.Parameter given.base false Plain) base h
integer_param n given false Open base plain h = cc
integer_param n given false (Sized c) base plain h = cc

pub one_param : ObjectsAreSound → (marks : FunctionMarks) (base : Env) (defines : Bool) (structs : ℕ) (env : Env) (p : ParamTree) (given : Specified) (repeated : Bool) → SoundParams marks base structs env
    → IsTrue (is_base structs given.base) → param_faults marks defines (length env.variables) p given repeated ≡ []
    → SoundParams marks base structs (with_param env (is_some p.name) (param_variable marks defines (length env.variables) p given))
one_param objects marks base defines structs env p given repeated s good none =
    let k = length env.variables in
    let v : Variable = param_variable marks defines k p given in
    let f1 = object_faults kind.Parameter given p.pointer p.suffix (place_of p given) in
    let f2 = fault_if (is_refused marks k p) OutOfProfile (place_of p given) in
    let f3 = fault_if (lacks_name defines p) OutOfProfile given.first in
    let f4 = fault_if repeated Redeclared (place_of p given) in
    let n4 = append_nil_first (f1 ++ f2 ++ f3 ++ f4) (attribute_faults marks p given) none in
    let n3 = append_nil_first (f1 ++ f2 ++ f3) f4 n4 in
    let n2 = append_nil_first (f1 ++ f2) f3 n3 in
    let fits = append_nil_first f1 f2 n2 in
    let taken : is_refused marks k p ≡ false = no_fault (is_refused marks k p) OutOfProfile (place_of p given) (append_nil_second f1 f2 n2) in
    let named : lacks_name defines p ≡ false = no_fault (lacks_name defines p) OutOfProfile given.first (append_nil_second (f1 ++ f2) f3 n3) in
    let both = or_parts (nat_eq k 8) (is_host_pointer marks p) taken in
    let sound = objects kind.Parameter structs given p.pointer p.suffix (place_of p given) good fits in
    let is : param_type marks defines k p given ≡ object_type kind.Parameter given p.pointer p.suffix =
    ap (λ b. if b || lacks_name defines p then ty.Bad else object_type kind.Parameter given p.pointer p.suffix) taken
    ∙ ap (λ b. if b then ty.Bad else object_type kind.Parameter given p.pointer p.suffix) named in
    let right : IsTrue (is_parameter structs v.ty) = ap (is_parameter structs) is ∙ sound in
    let types : IsTrue (list_all (is_parameter structs) (map (λ x. x.ty) (env.variables ++ v ∷ []))) =
    subst (λ xs. IsTrue (list_all (is_parameter structs) xs)) (sym (map_append (λ (x : Variable). x.ty) env.variables (v ∷ [])))
    (all_hold_append (is_parameter structs) (map (λ x. x.ty) env.variables) (v.ty ∷ []) s.types (both_hold (is_parameter structs v.ty) true right refl)) in
    let integers : marks.defined ≡ false → IsTrue (list_all is_integer (map (λ x. x.ty) (env.variables ++ v ∷ []))) =
    λ host.
    let form : is_pointer_form p ≡ false = ap (λ d. not d && is_pointer_form p) (sym host) ∙ both.1 in
    let whole : IsTrue (is_integer v.ty) = ap is_integer is ∙ integer_param structs given p.pointer p.suffix good form sound in
    subst (λ xs. IsTrue (list_all is_integer xs)) (sym (map_append (λ (x : Variable). x.ty) env.variables (v ∷ [])))
    (all_hold_append is_integer (map (λ x. x.ty) env.variables) (v.ty ∷ []) (s.integers host) (both_hold (is_integer v.ty) true whole refl)) in
    let marked = marked_more marks env.variables v s.marked refl in
    let longer = length_pushed env.variables v in
    let few : length (env.variables ++ v ∷ []) ≤ 8 = at_most k (length (env.variables ++ v ∷ [])) longer s.few both.0 in
    let kept : IsTrue (list_all (is_local_entry (length (env.variables ++ v ∷ []))) s.scope) =
    all_weaker (is_local_entry k) (is_local_entry (length (env.variables ++ v ∷ []))) (local_more k (length (env.variables ++ v ∷ [])) (omega (arith, longer))) s.scope s.locals in
    let here : IsTrue (is_local_meaning (length (env.variables ++ v ∷ [])) (Local (record { 0 = k }))) = below k (length (env.variables ++ v ∷ [])) longer in
    go (is_some p.name) v types marked integers few kept here
  where
    at_most : (k n : ℕ) → n ≡ suc k → k ≤ 8 → nat_eq k 8 ≡ false → n ≤ 8
    at_most k n h i j = grind (arith, nat_tests)

    below : (k n : ℕ) → n ≡ suc k → IsTrue (nat_lt k n)
    below k n h = grind (arith, nat_tests)

    go : (b : Bool) (v : Variable) → IsTrue (list_all (is_parameter structs) (map (λ x. x.ty) (env.variables ++ v ∷ [])))
        → ((j : ℕ) (x : Variable) → slice_get (env.variables ++ v ∷ []) j ≡ Some x → x.marked ≡ (marks_at marks.params j).marked)
        → (marks.defined ≡ false → IsTrue (list_all is_integer (map (λ x. x.ty) (env.variables ++ v ∷ []))))
        → length (env.variables ++ v ∷ []) ≤ 8 → IsTrue (list_all (is_local_entry (length (env.variables ++ v ∷ []))) s.scope)
        → IsTrue (is_local_meaning (length (env.variables ++ v ∷ [])) (Local (record { 0 = length env.variables })))
        → SoundParams marks base structs (with_param env b v)
    go true v types marked integers few kept here = record {
      file = s.file;
      functions = s.functions;
      globals = s.globals;
      scope = with_name s.scope v.name (Local (record { 0 = length env.variables }));
      scopes = ap (λ ss. bind_inner ss v.name (Local (record { 0 = length env.variables }))) s.scopes;
      locals = named_all (is_local_entry (length (env.variables ++ v ∷ []))) s.scope v.name (Local (record { 0 = length env.variables })) kept here;
      types = types;
      marked = marked;
      few = few;
      integers = integers;
    }
    go false v types marked integers few kept here = record {
      file = s.file;
      functions = s.functions;
      globals = s.globals;
      scope = s.scope;
      scopes = s.scopes;
      locals = kept;
      types = types;
      marked = marked;
      few = few;
      integers = integers;
    }

-- ---- all parameters

pub record SoundDeclared (marks : FunctionMarks) (base : Env) (structs : Structs) (d : Declared) : Type 0 where
  pub same : d.structs ≡ structs
  pub params : SoundParams marks base (length structs) d.env

pub all_params : SpecifiersAreSound → ObjectsAreSound → (marks : FunctionMarks) (base : Env) (defines : Bool) (env : Env) (structs : Structs) (ps : List ParamTree) → SoundStructs structs
    → SoundParams marks base (length structs) env → (declared_all marks defines env structs ps).faults ≡ [] → SoundDeclared marks base structs (declared_all marks defines env structs ps)
all_params specifiers objects marks base defines env structs [] sound s none = record { same = refl; params = s }
all_params specifiers objects marks base defines env structs (p ∷ ps) sound s none =
    let one = declared_one marks defines env structs p in
    let rest = declared_all marks defines one.env one.structs ps in
    let none_one = append_nil_first one.faults rest.faults none in
    let none_rest = append_nil_second one.faults rest.faults none in
    let j = specified false structs p.specs in
    let own = param_faults marks defines (length env.variables) p j.given (is_repeated env (is_some p.name) (param_variable marks defines (length env.variables) p j.given)) in
    let judged = specifiers false structs p.specs sound (append_nil_first j.faults own none_one) in
    let same : one.structs ≡ structs = judged.none refl in
    let base_good : IsTrue (is_base (length structs) j.given.base) = subst (λ x. IsTrue (is_base (length x) j.given.base)) same judged.base in
    let next = one_param objects marks base defines (length structs) env p j.given (is_repeated env (is_some p.name) (param_variable marks defines (length env.variables) p j.given)) s base_good (append_nil_second j.faults own none_one) in
    let next' : SoundParams marks base (length one.structs) one.env = subst (λ x. SoundParams marks base (length x) one.env) (sym same) next in
    let all = all_params specifiers objects marks base defines one.env one.structs ps judged.sound next' none_rest in
    record {
      same = all.same ∙ same;
      params = subst (λ x. SoundParams marks base (length x) rest.env) same all.params;
    }
