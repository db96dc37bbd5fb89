-- The parameters of functions (C99 6.7.5.3).
use Rattle.std.specs.Prelude.{ℕ, List, [], ◌∷◌, ◌++◌, Bool, true, false, not, ◌&&◌, ◌||◌, Option, Some, None, is_none, is_some, length, nat_eq, if◌then◌else◌}
use Rattle.std.specs.Option.{option_map_or}
use Rattle.pt_base.specs.declared.span.Span.{Span}
use Rattle.pt_tree.specs.declared.word.Word.{Word}
use Rattle.pt_tree.specs.declared.specifier.SpecWord.{SpecWord}
use Rattle.pt_tree.specs.declared.specifier.SpecWord.TheVariants as word
use Rattle.pt_tree.specs.SpecifierTree.{SpecTree, SpecTrees, attribute, keyword, structure, no_specs, spec_and}
use Rattle.pt_tree.specs.ProgramTree.{ParamTree}
use Rattle.type_rules.specs.declared.types.Type.{«Type»}
use Rattle.type_rules.specs.declared.types.Type.TheVariants as ty
use Rattle.check_declarations.specs.declared.fault.FaultKind.TheVariants.{Redeclared, OutOfProfile}
use Rattle.check_declarations.specs.declared.fault.TypeFault.{TypeFault}
use Rattle.check_declarations.specs.declared.marks.Carrier.{Carrier}
use Rattle.check_declarations.specs.declared.marks.Carrier.TheVariants.{Parameter}
use Rattle.check_declarations.specs.declared.objects.ObjectKind.TheVariants as kind
use Rattle.check_declarations.specs.declared.specifiers.Specified.{Specified}
use Rattle.check_declarations.specs.Faults.{fault_if}
use Rattle.check_declarations.specs.Marks.{mark_faults}
use Rattle.check_declarations.specs.Objects.{object_faults, object_type, is_fixed, is_array_form, is_mutable_pointer}
use Rattle.check_declarations.specs.Specifiers.{specified}
use Rattle.check_declarations.specs.Structs.{Structs}
use Rattle.check_expressions.specs.declared.meaning.Variable.{Variable}
use Rattle.check_expressions.specs.Environment.{Env, with_variable, with_unnamed, is_new_inside}
use Rattle.check_programs.specs.declared.function_marks.FunctionMarks.{FunctionMarks}
use Rattle.check_programs.specs.Unions.{marks_at}

-- ---- no parameters

abbrev pub is_void_word : SpecWord → Bool
is_void_word word.Void = true
is_void_word w = false

abbrev pub is_void_spec : SpecTree → Bool
is_void_spec (attribute s names) = false
is_void_spec (keyword s w) = is_void_word w
is_void_spec (structure s tag body) = false

-- the one specifier `void`
abbrev pub are_void_alone : SpecTrees → Bool
are_void_alone no_specs = false
are_void_alone (spec_and s no_specs) = is_void_spec s
are_void_alone (spec_and s (spec_and t specs)) = false

-- nothing but `void`
abbrev pub is_void_param : ParamTree → Bool
is_void_param p = are_void_alone p.specs && (not (p.pointer || is_array_form p.suffix) && is_none p.name)

-- `(void)` stands for no parameters
abbrev pub parameters_of : List ParamTree → List ParamTree
parameters_of [] = []
parameters_of (p ∷ []) = if is_void_param p then [] else p ∷ []
parameters_of (p ∷ q ∷ ps) = p ∷ q ∷ ps

-- ---- one parameter

-- a pointer as it is written
abbrev pub is_pointer_form : ParamTree → Bool
is_pointer_form p = p.pointer || is_array_form p.suffix

-- a pointer parameter of a host, which is declared and never defined
abbrev pub is_host_pointer : FunctionMarks → ParamTree → Bool
is_host_pointer marks p = not marks.defined && is_pointer_form p

-- functions have at most eight parameters, and hosts integer ones alone; the ninth is the fault
abbrev pub is_refused : FunctionMarks → ℕ → ParamTree → Bool
is_refused marks k p = nat_eq k 8 || is_host_pointer marks p

-- a definition names its parameters (C99 6.9.1p5)
abbrev pub lacks_name : Bool → ParamTree → Bool
lacks_name defines p = defines && is_none p.name

-- the name, or else the first specifier
abbrev pub place_of : ParamTree → Specified → Span
place_of p given = option_map_or (λ w. w.span) p.name given.first

abbrev pub bytes_of : Option Word → List ℕ
bytes_of None = []
bytes_of (Some w) = w.bytes

-- parameter number k; Bad where the parameter is outside of the profile
abbrev pub param_type : FunctionMarks → Bool → ℕ → ParamTree → Specified → «Type»
param_type marks defines k p given =
    if is_refused marks k p || lacks_name defines p then ty.Bad
    else object_type kind.Parameter given p.pointer p.suffix

-- its marks are those that all declarations of the function give its position
abbrev pub param_variable : FunctionMarks → Bool → ℕ → ParamTree → Specified → Variable
param_variable marks defines k p given = record {
  name = bytes_of p.name;
  span = place_of p given;
  ty = param_type marks defines k p given;
  fixed = is_fixed kind.Parameter given p.pointer p.suffix;
  marked = (marks_at marks.params k).marked;
  unpriv = (marks_at marks.params k).unpriv;
}

abbrev pub param_carrier : FunctionMarks → ParamTree → Specified → Carrier
param_carrier marks p given = Parameter marks.privileged (not marks.defined) (is_mutable_pointer given p.pointer p.suffix)

-- a host's pointer is one fault, whatever its attributes are
abbrev pub attribute_faults : FunctionMarks → ParamTree → Specified → List TypeFault
attribute_faults marks p given = if is_host_pointer marks p then [] else mark_faults (param_carrier marks p given) given.attributes

-- it has a name, which the scope has already
abbrev pub is_repeated : Env → Bool → Variable → Bool
is_repeated env is_named v = is_named && not (is_new_inside env.scopes v.name)

abbrev pub param_faults : FunctionMarks → Bool → ℕ → ParamTree → Specified → Bool → List TypeFault
param_faults marks defines k p given repeated =
    object_faults kind.Parameter given p.pointer p.suffix (place_of p given)
    ++ fault_if (is_refused marks k p) OutOfProfile (place_of p given)
    ++ fault_if (lacks_name defines p) OutOfProfile given.first
    ++ fault_if repeated Redeclared (place_of p given)
    ++ attribute_faults marks p given

-- a variable that the scope names, where it has a name
abbrev pub with_param : Env → Bool → Variable → Env
with_param env is_named v = if is_named then with_variable env v else with_unnamed env v

-- ---- all parameters, in order: they are the first variables of the function's outermost scope

pub record Declared : Type 0 where
  pub env : Env
  pub structs : Structs
  pub faults : List TypeFault

-- its number is that of the variable
abbrev pub declared_one : FunctionMarks → Bool → Env → Structs → ParamTree → Declared
declared_one marks defines env structs p =
    let k = length env.variables in
    let j = specified false structs p.specs in
    let v = param_variable marks defines k p j.given in
    record {
      env = with_param env (is_some p.name) v;
      structs = j.structs;
      faults = j.faults ++ param_faults marks defines k p j.given (is_repeated env (is_some p.name) v);
    }

abbrev pub declared_all : FunctionMarks → Bool → Env → Structs → List ParamTree → Declared
declared_all marks defines env structs [] = record { env = env; structs = structs; faults = [] }
declared_all marks defines env structs (p ∷ ps) =
    let one = declared_one marks defines env structs p in
    let rest = declared_all marks defines one.env one.structs ps in
    record { env = rest.env; structs = rest.structs; faults = one.faults ++ rest.faults }
