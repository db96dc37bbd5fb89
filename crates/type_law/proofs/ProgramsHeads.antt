-- A function's declarator without a fault.
use Rattle.std.proofs.Common.{◌≡◌, ◌++◌, ◌∙◌, sym, ap, subst, refl, ℕ, true, [], ◌∷◌, length, arith, map}
use Rattle.std.specs.Prelude.{IsTrue, slice_get, is_some}
use Rattle.std.specs.List.{list_all}
use Rattle.pt_base.proofs.Lists.{append_nil_first, append_nil_second}
use Rattle.pt_tree.specs.ProgramTree as parsed
use Rattle.type_rules.specs.Types.{is_integer}
use Rattle.check_declarations.specs.declared.marks.Carrier.TheVariants as carrier
use Rattle.check_declarations.specs.Marks.{mark_faults}
use Rattle.check_declarations.specs.Objects.{result_faults}
use Rattle.check_declarations.specs.Specifiers.{specified}
use Rattle.check_declarations.specs.Structs.{Structs}
use Rattle.check_expressions.specs.Environment.{opened}
use Rattle.type_law.specs.DeclarationsTypes.{is_parameter, is_result}
use Rattle.type_law.specs.DeclarationsSound.{SoundStructs}
use Rattle.type_law.specs.DeclarationsLaws.{SpecifiersAreSound, ObjectsAreSound, ResultsAreSound}
use Rattle.check_programs.specs.declared.function_marks.FunctionMarks.{FunctionMarks}
use Rattle.check_programs.specs.Parameters.{parameters_of}
use Rattle.check_programs.specs.Functions.{Head, head_of, result_of, params_of_function}
use Rattle.check_programs.specs.Progress.{Progress}
use Rattle.type_law.proofs.ProgramsParameters.{SoundParams, all_params}

pub record SoundHead (marks : FunctionMarks) (st : Progress) (f : parsed.FunctionTree) (h : Head) : Type 0 where
  pub more : Structs
  pub grown : h.structs ≡ st.structs ++ more
  pub sound : SoundStructs h.structs
  pub result : IsTrue (is_result h.callable.result)
  pub name : h.callable.name ≡ f.declarator.name.bytes
  pub types : h.callable.params ≡ map (λ x. x.ty) h.env.variables
  pub params : SoundParams marks st.env (length h.structs) h.env

-- a scope without parameters
no_params : (marks : FunctionMarks) (st : Progress) (structs : ℕ) → st.env.scopes ≡ [] → st.env.variables ≡ [] → SoundParams marks st.env structs (opened st.env)
no_params marks st structs scopes variables = record {
  file = refl;
  functions = refl;
  globals = refl;
  scope = [];
  scopes = ap (λ ss. [] ∷ ss) scopes;
  locals = refl;
  types = ap (λ xs. list_all (is_parameter structs) (map (λ x. x.ty) xs)) variables;
  marked = λ j x h. let none = ap (λ xs. slice_get xs j) variables in cc;
  few = let none = ap length variables in omega (arith, none);
  integers = λ h. ap (λ xs. list_all is_integer (map (λ x. x.ty) xs)) variables;
}

pub sound_head : SpecifiersAreSound → ObjectsAreSound → ResultsAreSound → (marks : FunctionMarks) (st : Progress) (f : parsed.FunctionTree) → SoundStructs st.structs
    → st.env.scopes ≡ [] → st.env.variables ≡ [] → (head_of marks st.env st.structs f).faults ≡ [] → SoundHead marks st f (head_of marks st.env st.structs f)
unfolding head_of
sound_head specifiers objects results marks st f sound scopes variables none =
    let d = f.declarator in
    let r = result_of marks.privileged st.structs f in
    let ps = params_of_function marks st.env r.structs f in
    let j = specified true st.structs f.specs in
    let wrong = result_faults j.given d.pointer d.suffix d.name.span in
    let marked = mark_faults (carrier.Function marks.privileged) j.given.attributes in
    let none_r = append_nil_first r.faults ps.faults none in
    let none_j = append_nil_first (j.faults ++ wrong) marked none_r in
    let judged = specifiers true st.structs f.specs sound (append_nil_first j.faults wrong none_j) in
    let result = results (length j.structs) j.given d.pointer d.suffix d.name.span judged.base (append_nil_second j.faults wrong none_j) in
    let all = all_params specifiers objects marks st.env (is_some f.body) (opened st.env) j.structs (parameters_of f.params) judged.sound (no_params marks st (length j.structs) scopes variables) (append_nil_second r.faults ps.faults none) in
    record {
      more = judged.more;
      grown = all.same ∙ judged.grown;
      sound = subst (λ s. SoundStructs s) (sym all.same) judged.sound;
      result = result;
      name = refl;
      types = refl;
      params = subst (λ s. SoundParams marks st.env (length s) ps.env) (sym all.same) all.params;
    }
