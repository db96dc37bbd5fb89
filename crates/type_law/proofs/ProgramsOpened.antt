-- A function that is declared, whose scope is open.
use Rattle.std.proofs.Common.{◌≡◌, ◌≤◌, ◌+◌, ◌++◌, ◌∙◌, sym, ap, subst, refl, ℕ, suc, Bool, true, false, List, [], ◌∷◌, length, arith, map, Option, Some, None, not, if◌then◌else◌, inl, inr}
use Rattle.std.specs.Prelude.{IsTrue, ◌&&◌, ◌||◌, nat_lt, nat_le, nat_eq, slice_get, is_some}
use Rattle.std.specs.Option.{option_map_or}
use Rattle.std.specs.List.{list_all}
use Rattle.std.specs.Str.{bytes_eq}
use Rattle.std.proofs.lemmas.Bool.Decides.{nat_tests}
use Rattle.pt_base.specs.declared.ids.FnId.{FnId}
use Rattle.pt_base.specs.declared.span.Span.{Span}
use Rattle.pt_base.specs.Names.{is_short}
use Rattle.pt_base.proofs.Booleans.{both_hold as and_both, both_hold_first, both_hold_second}
use Rattle.pt_base.proofs.Lists.{append_nil, bytes_eq_same, bytes_eq_self, length_append, length_map, length_pushed, map_append}
use Rattle.pt_base.proofs.Members.{all_hold_append}
use Rattle.pt_base.proofs.Places.{get_below_length, get_kept, get_mapped, get_pushed as get_last, get_there}
use Rattle.pt_tree.specs.declared.signature.Param.{Param}
use Rattle.pt_tree.specs.ProgramTree.{ItemTree}
use Rattle.type_rules.specs.Types.{is_integer}
use Rattle.typed_tree.specs.declared.types.StructInfo.{StructInfo}
use Rattle.typed_tree.specs.TypedTree.{FunctionTree, TypedTree}
use Rattle.typed_tree.specs.WellFormed.{variable_sound, is_variable_type, is_small, params_lead, is_integer_param}
use Rattle.check_declarations.specs.NameTables.{number_of}
use Rattle.check_expressions.specs.declared.meaning.Callable.{Callable}
use Rattle.check_expressions.specs.declared.meaning.Meaning.{Meaning}
use Rattle.check_expressions.specs.declared.meaning.Meaning.TheVariants.{Function, Global, Local}
use Rattle.check_expressions.specs.declared.meaning.Variable.{Variable}
use Rattle.check_expressions.specs.Environment.{Scope, find_in, meaning_at}
use Rattle.check_expressions.specs.Operands.{var_type}
use Rattle.check_expressions.specs.StructInfos.{object_type_of, struct_info}
use Rattle.type_law.specs.DeclarationsTypes.{is_parameter, is_result}
use Rattle.type_law.specs.ExpressionsAgreement.{HasCallable}
use Rattle.check_programs.specs.declared.function_marks.FunctionMarks.{FunctionMarks}
use Rattle.check_programs.specs.Functions.{agree, all_agree, differ, has_body, has_other_types, clashes, var_of, entry_of, declared_as}
use Rattle.check_programs.specs.Unions.{marks_at}
use Rattle.check_programs.specs.Progress.{Progress}
use Rattle.type_law.proofs.ProgramsListLemmas.{all_weaker, get_pushed, IsLast}
use Rattle.type_law.proofs.ProgramsTableLemmas.{sought, value_of, found, new_where_none, sought_pushed, sought_kept, pushed}
use Rattle.type_law.proofs.ProgramsTypeLemmas.{result_fine, agree_same, all_agree_same, result_given, params_taken, params_many, params_marked, params_lead_vars, integers_taken, parameter_small}
use Rattle.type_law.proofs.DeclarationsGoodTypes.{parameter_variable}
use Rattle.type_law.proofs.StatementsTypeLemmas.{variable_type}
use Rattle.type_law.proofs.ProgramsSound.{signatures, Extends, Grows, defines, SoundEntry, entry_kept, is_file_meaning, is_file_entry, Known, SoundTables, callable_kept, extends_back}
use Rattle.type_law.proofs.ProgramsParameters.{SoundParams}

meaning_same : (file : Scope) (o : Option ℕ) → meaning_at file o ≡ value_of file o
meaning_same file None = refl
meaning_same file (Some k) = refl

-- what a name means in the file
pub find_is : (file : Scope) (n : List ℕ) → find_in file n ≡ sought file n
find_is file n = meaning_same file (number_of file n) ∙ found file n

pub some_same : {X : Type 0} (x y : X) (o : Option X) → o ≡ Some x → o ≡ Some y → x ≡ y
some_same x y o e f = cc

-- ---- parameters as variables

pub params_sound : (structs : List StructInfo) (n : ℕ) (xs : List Variable) → n ≤ length structs → IsTrue (list_all (is_parameter n) (map (λ x. x.ty) xs)) → IsTrue (list_all (variable_sound structs) (map var_of xs))
params_sound structs n [] h i = refl
params_sound structs n (x ∷ xs) h i =
    let good = both_hold_first (is_parameter n x.ty) (list_all (is_parameter n) (map (λ x. x.ty) xs)) i in
    let type = variable_type n (length structs) x.ty h (parameter_variable n x.ty good) in
    let small = parameter_small structs n x.ty good in
    let all = params_sound structs n xs h (both_hold_second (is_parameter n x.ty) (list_all (is_parameter n) (map (λ x. x.ty) xs)) i) in
    and_both (variable_sound structs (var_of x)) (list_all (variable_sound structs) (map var_of xs))
    (and_both (is_variable_type (length structs) (object_type_of x.ty)) (is_small structs (object_type_of x.ty) && true) type (and_both (is_small structs (object_type_of x.ty)) true small refl)) all

-- a tree that extends a program has all its structs
pub structs_many : (st : Progress) (t : TypedTree) → Extends st t → length st.structs ≤ length t.structs
structs_many st t e =
    let same = ap length e.structs in
    let mapped = length_map struct_info (st.structs ++ e.more) in
    let long = length_append st.structs e.more in
    omega (arith, same, mapped, long)

-- ---- a function whose scope is open

pub record Opened (marks : List ℕ → FunctionMarks) (rest : List ItemTree) (own : FunctionMarks) (defining : Bool) (st : Progress) (c : Callable) (k : ℕ) : Type 0 where
  pub tables : SoundTables marks rest st
  pub params : SoundParams own st.env (length st.structs) st.env
  pub types : c.params ≡ map (λ x. x.ty) st.env.variables
  pub called : HasCallable (length st.structs) c (slice_get (signatures st.functions) k)
  pub entry : FunctionTree
  pub is : slice_get st.functions k ≡ Some entry
  pub fresh : defining ≡ true → is_some entry.body ≡ false

-- ---- a function that was declared before

module _ (marks : List ℕ → FunctionMarks) (rest : List ItemTree) (own : FunctionMarks) (defining : Bool) (st : Progress) (c : Callable) where
  pub old_opened : (k : FnId) → SoundTables marks rest st → SoundParams own st.env (length st.structs) st.env → IsTrue (is_result c.result) → c.params ≡ map (λ x. x.ty) st.env.variables
      → sought st.env.file c.name ≡ Some (Function k) → clashes st c defining (Some (Function k)) ≡ false → Opened marks rest own defining st c k.0
  old_opened k t params result types is fine =
      let there = t.known c.name k is in
      let within = get_below_length st.functions k.0 there.entry there.is in
      let one = get_there st.env.functions k.0 (omega (arith, within, t.numbers)) in
      let g : Callable = one.0 in
      let at : slice_get st.env.functions k.0 ≡ Some g = one.1 in
      let has = t.callables k.0 g at in
      let parts = neither (has_other_types st.env k c) (defining && has_body st.functions k) fine in
      let agrees : differ g c ≡ false = sym (ap (λ o. option_map_or (λ h. differ h c) o false) at) ∙ parts.0 in
      let both : (agree g.result c.result && all_agree g.params c.params) ≡ true = not_not (agree g.result c.result && all_agree g.params c.params) agrees in
      let good : IsTrue (list_all (is_parameter (length st.structs)) c.params) = ap (list_all (is_parameter (length st.structs))) types ∙ params.types in
      let same_result : g.result ≡ c.result = agree_same g.result c.result (result_fine g.result has.result) (result_fine c.result result) (both_hold_first (agree g.result c.result) (all_agree g.params c.params) both) in
      let same_params : g.params ≡ c.params = all_agree_same (length st.structs) g.params c.params has.params good (both_hold_second (agree g.result c.result) (all_agree g.params c.params) both) in
      let signature : there.entry.signature ≡ has.signature = some_same there.entry.signature has.signature (slice_get (signatures st.functions) k.0) (get_mapped (λ (f : FunctionTree). f.signature) st.functions k.0 there.entry there.is) has.is in
      record {
        tables = t;
        params = params;
        types = types;
        called = record {
          signature = has.signature;
          is = has.is;
          name = sym (ap (λ s. s.name) signature) ∙ there.name;
          result = result;
          gives = has.gives ∙ ap var_type same_result;
          params = good;
          takes = has.takes ∙ ap (map var_type) same_params;
        };
        entry = there.entry;
        is = there.is;
        fresh = λ h. bodiless k there.entry there.is h parts.1;
      }
    where
      neither : (a b : Bool) → (a || b) ≡ false → (a ≡ false) × (b ≡ false)
      neither true b h = cc
      neither false b h = (refl, h)

      not_not : (b : Bool) → not b ≡ false → b ≡ true
      not_not true h = refl
      not_not false h = cc

      bodiless : (k : FnId) (e : FunctionTree) → slice_get st.functions k.0 ≡ Some e → defining ≡ true → (defining && has_body st.functions k) ≡ false → is_some e.body ≡ false
      bodiless k e is h none =
          sym (ap (λ o. option_map_or (λ g. is_some g.body) o false) is) ∙ (ap (λ d. d && has_body st.functions k) (sym h) ∙ none)

-- ---- a new function

-- a program with a function more
abbrev pub with_entry : Progress → Callable → FunctionTree → Progress
with_entry st c e = record {
  env = record {
    file = st.env.file ++ (c.name, Function (record { 0 = length st.env.functions })) ∷ [];
    functions = st.env.functions ++ c ∷ [];
    globals = st.env.globals;
    scopes = st.env.scopes;
    variables = st.env.variables;
  };
  structs = st.structs;
  functions = st.functions ++ e ∷ [];
  globals = st.globals;
  cells = st.cells;
  exprs = st.exprs;
  has_main = st.has_main;
}

file_more : (m n k l : ℕ) → m ≤ n → k ≤ l → (e : List ℕ × Meaning) → IsTrue (is_file_entry m k e) → IsTrue (is_file_entry n l e)
file_more m n k l h i (name, Function f) j = grind (arith, nat_tests)
file_more m n k l h i (name, Global g) j = grind (arith, nat_tests)
file_more m n k l h i (name, Local x) j = j

pub files_more : (m n k l : ℕ) → m ≤ n → k ≤ l → (file : Scope) → IsTrue (list_all (is_file_entry m k) file) → IsTrue (list_all (is_file_entry n l) file)
files_more m n k l h i file j = all_weaker (is_file_entry m k) (is_file_entry n l) (file_more m n k l h i) file j

grown_by : (st : Progress) (c : Callable) (e : FunctionTree) → Grows st (with_entry st c e)
grown_by st c e = record {
  more = [];
  structs = sym (append_nil st.structs);
  functions = λ k s h. ap (λ ss. slice_get ss k) (map_append (λ (f : FunctionTree). f.signature) st.functions (e ∷ [])) ∙ get_kept (signatures st.functions) (e.signature ∷ []) k s h;
  globals = λ k g h. h;
  new = [];
  exprs = sym (append_nil st.exprs);
}

module _ (marks : List ℕ → FunctionMarks) (rest : List ItemTree) (st : Progress) (c : Callable) (e : FunctionTree) (t : SoundTables marks rest st) (new : sought st.env.file c.name ≡ None) (same : e.signature.name ≡ c.name) where
  abbrev after : Progress
  after = with_entry st c e

  numbered : length st.env.functions ≡ length st.functions
  numbered = t.numbers

  entry_named : (k : ℕ) (f : FunctionTree) → slice_get (st.functions ++ e ∷ []) k ≡ Some f → sought (st.env.file ++ (c.name, Function (record { 0 = length st.env.functions })) ∷ []) f.signature.name ≡ Some (Function (record { 0 = k }))
  entry_named k f h = elim (get_pushed st.functions e k f h) [ inl i ↦ sought_kept st.env.file f.signature.name c.name (Function (record { 0 = length st.env.functions })) (Function (record { 0 = k })) (t.named k f i) | inr i ↦ last k f i ]
    where
      last : (k : ℕ) (f : FunctionTree) → IsLast st.functions e k f → sought (st.env.file ++ (c.name, Function (record { 0 = length st.env.functions })) ∷ []) f.signature.name ≡ Some (Function (record { 0 = k }))
      last k f i =
          let name : f.signature.name ≡ c.name = ap (λ (g : FunctionTree). g.signature.name) i.is ∙ same in
          let number : length st.env.functions ≡ k = t.numbers ∙ sym i.at in
          ap (sought (st.env.file ++ (c.name, Function (record { 0 = length st.env.functions })) ∷ [])) name
          ∙ sought_pushed st.env.file c.name c.name (Function (record { 0 = length st.env.functions })) new
          ∙ ap (λ b. if b then Some (Function (record { 0 = length st.env.functions })) else None) (bytes_eq_self c.name)
          ∙ ap (λ n. Some (Function (record { 0 = n }))) number

  entry_known : (n : List ℕ) (k : FnId) → sought (st.env.file ++ (c.name, Function (record { 0 = length st.env.functions })) ∷ []) n ≡ Some (Function k) → Known (st.functions ++ e ∷ []) n k.0
  entry_known n k h = go (sought st.env.file n) refl
    where
      here : (b : Bool) → bytes_eq n c.name ≡ b → (if b then Some (Function (record { 0 = length st.env.functions })) else None) ≡ Some (Function k) → Known (st.functions ++ e ∷ []) n k.0
      here true is i =
          let number : length st.env.functions ≡ k.0 = cc in
          record {
            entry = e;
            is = ap (slice_get (st.functions ++ e ∷ [])) (sym number ∙ t.numbers) ∙ get_last st.functions e;
            name = same ∙ sym (bytes_eq_same n c.name is);
          }
      here false is i = cc

      go : (o : Option Meaning) → sought st.env.file n ≡ o → Known (st.functions ++ e ∷ []) n k.0
      go None is = here (bytes_eq n c.name) refl (sym (sought_pushed st.env.file n c.name (Function (record { 0 = length st.env.functions })) is) ∙ h)
      go (Some m) is =
          let kept = sought_kept st.env.file n c.name (Function (record { 0 = length st.env.functions })) m is in
          let one : m ≡ Function k = some_same m (Function k) _ kept h in
          let known = t.known n k (is ∙ ap Some one) in
          record { entry = known.entry; is = get_kept st.functions (e ∷ []) k.0 known.entry known.is; name = known.name }

  entry_unknown : (n : List ℕ) → sought (st.env.file ++ (c.name, Function (record { 0 = length st.env.functions })) ∷ []) n ≡ None → (marks n).defined ≡ defines rest n
  entry_unknown n h = go (sought st.env.file n) refl
    where
      go : (o : Option Meaning) → sought st.env.file n ≡ o → (marks n).defined ≡ defines rest n
      go None is = t.unknown n is
      go (Some m) is = let kept = sought_kept st.env.file n c.name (Function (record { 0 = length st.env.functions })) m is in cc

  entry_callables : HasCallable (length st.structs) c (Some e.signature) → (k : ℕ) (d : Callable) → slice_get (st.env.functions ++ c ∷ []) k ≡ Some d → HasCallable (length st.structs) d (slice_get (signatures (st.functions ++ e ∷ [])) k)
  entry_callables has k d h = elim (get_pushed st.env.functions c k d h) [
    | inl i ↦ callable_kept (length st.structs) (length st.structs) d (slice_get (signatures st.functions) k) (slice_get (signatures (st.functions ++ e ∷ [])) k) (omega arith) (λ s j. (grown_by st c e).functions k s j) (t.callables k d i)
    | inr i ↦ last k d i has
  ]
    where
      last : (k : ℕ) (d : Callable) → IsLast st.env.functions c k d → HasCallable (length st.structs) c (Some e.signature) → HasCallable (length st.structs) d (slice_get (signatures (st.functions ++ e ∷ [])) k)
      last k d i has =
          let there : slice_get (signatures (st.functions ++ e ∷ [])) k ≡ Some e.signature =
          get_mapped (λ (f : FunctionTree). f.signature) (st.functions ++ e ∷ []) k e (ap (slice_get (st.functions ++ e ∷ [])) (i.at ∙ t.numbers) ∙ get_last st.functions e) in
          subst (λ z. HasCallable (length st.structs) z (slice_get (signatures (st.functions ++ e ∷ [])) k)) (sym i.is)
          (callable_kept (length st.structs) (length st.structs) c (Some e.signature) (slice_get (signatures (st.functions ++ e ∷ [])) k) (omega arith) (λ s j. there ∙ j) has)

  entry_tables : HasCallable (length st.structs) c (Some e.signature) → SoundEntry marks rest after e → SoundTables marks rest after
  entry_tables has sound =
      let many = length_pushed st.functions e in
      let many' = length_pushed st.env.functions c in
      record {
        structs = t.structs;
        file =
            all_hold_append (is_file_entry (length (st.functions ++ e ∷ [])) (length st.globals)) st.env.file ((c.name, Function (record { 0 = length st.env.functions })) ∷ [])
            (files_more (length st.functions) (length (st.functions ++ e ∷ [])) (length st.globals) (length st.globals) (omega (arith, many)) (omega arith) st.env.file t.file)
            (and_both (is_file_meaning (length (st.functions ++ e ∷ [])) (length st.globals) (Function (record { 0 = length st.env.functions }))) true (last_below (length st.env.functions) (length (st.functions ++ e ∷ [])) (omega (arith, many, numbered))) refl);
        numbers = omega (arith, many, many', numbered);
        global_numbers = t.global_numbers;
        callables = entry_callables has;
        objects = t.objects;
        named = entry_named;
        known = entry_known;
        entries = λ k f h. elim (get_pushed st.functions e k f h) [
          | inl i ↦ entry_kept marks rest rest st after f (grown_by st c e) refl (t.entries k f i)
          | inr i ↦ subst (λ z. SoundEntry marks rest after z) (sym i.is) sound
        ];
        unknown = entry_unknown;
        globals = λ k g h x z. t.globals k g h x (extends_back st after x (grown_by st c e) z);
        cells = t.cells;
        limit = t.limit;
      }
    where
      last_below : (m n : ℕ) → suc m ≡ n → IsTrue (nat_lt m n)
      last_below m n h = grind (arith, nat_tests)

-- ---- a new function's own entry

module _ (marks : List ℕ → FunctionMarks) (rest : List ItemTree) (own : FunctionMarks) (defining : Bool) (st : Progress) (c : Callable) (at : Span) (t : SoundTables marks rest st) (params : SoundParams own st.env (length st.structs) st.env)
    (result : IsTrue (is_result c.result)) (types : c.params ≡ map (λ x. x.ty) st.env.variables) (own_is : marks c.name ≡ own) (short : IsTrue (is_short c.name)) (new : sought st.env.file c.name ≡ None) where
  abbrev first : FunctionTree
  first = entry_of own c st.env.variables at

  good : IsTrue (list_all (is_parameter (length st.structs)) c.params)
  good = ap (list_all (is_parameter (length st.structs))) types ∙ params.types

  new_called : HasCallable (length st.structs) c (Some first.signature)
  new_called = record {
    signature = first.signature;
    is = refl;
    name = refl;
    result = result;
    gives = result_given c.result result;
    params = good;
    takes = params_taken own.params 0 (length st.structs) c.params good;
  }

  count : length first.signature.params ≡ length st.env.variables
  count = params_many own.params 0 c.params ∙ ap length types ∙ length_map (λ (x : Variable). x.ty) st.env.variables

  host_holds : first.signature.host ≡ true → IsTrue (list_all is_integer_param first.signature.params) × IsTrue (nat_eq (length first.vars) (length first.signature.params))
  host_holds h =
      let integers : IsTrue (list_all is_integer c.params) = ap (list_all is_integer) types ∙ params.integers (not_true own.defined h) in
      let vars = length_map var_of st.env.variables in
      let number = count in
      (integers_taken own.params 0 c.params integers, equal (length first.vars) (length first.signature.params) (vars ∙ sym number))
    where
      not_true : (b : Bool) → not b ≡ true → b ≡ false
      not_true true h = cc
      not_true false h = refl

      equal : (m n : ℕ) → m ≡ n → IsTrue (nat_eq m n)
      equal m n h = grind (arith, nat_tests)

  first_marked : (j : ℕ) (p : Param) → slice_get first.signature.params j ≡ Some p → p.marked ≡ (marks_at own.params j).marked
  first_marked j p h = params_marked own.params 0 c.params j p h ∙ ap (λ i. (marks_at own.params i).marked) (let e : 0 + j ≡ j = omega arith in e)

  first_lead : IsTrue (params_lead first.signature.params first.vars)
  first_lead =
      subst (λ xs. IsTrue (params_lead first.signature.params (map var_of xs))) (append_nil st.env.variables)
      (params_lead_vars (length st.structs) first.signature.params st.env.variables [] params.types (params_taken own.params 0 (length st.structs) c.params good ∙ ap (map var_type) types)
      (λ j p x h i. first_marked j p h ∙ sym (params.marked j x i)))

  first_sound : SoundEntry marks rest (with_entry st c first) first
  first_sound = record {
    few = at_most (length first.signature.params) (length st.env.variables) count params.few;
    lead = first_lead;
    short = short;
    marked = λ j p h. first_marked j p h ∙ ap (λ m. (marks_at m.params j).marked) (sym own_is);
    host = ap (λ m. not m.defined) (sym own_is);
    defined = t.unknown c.name new;
    vars = λ x z. params_sound x.structs (length st.structs) st.env.variables (structs_many (with_entry st c first) x z) params.types;
    body = λ x z. host_holds;
  }
    where
      at_most : (m n : ℕ) → m ≡ n → n ≤ 8 → IsTrue (nat_le m 8)
      at_most m n h i = grind (arith, nat_tests)

  pub new_opened : Opened marks rest own defining (declared_as own st c at None) c (length st.env.functions)
  new_opened =
      subst (λ file. Opened marks rest own defining (record (with_entry st c first) { env = record (with_entry st c first).env { file = file } }) c (length st.env.functions))
      (sym (pushed st.env.file c.name (Function (record { 0 = length st.env.functions })) (new_where_none st.env.file c.name new)))
      opened
    where
      opened : Opened marks rest own defining (with_entry st c first) c (length st.env.functions)
      opened = record {
        tables = entry_tables marks rest st c first t new refl new_called first_sound;
        params = record {
          file = refl;
          functions = refl;
          globals = refl;
          scope = params.scope;
          scopes = params.scopes;
          locals = params.locals;
          types = params.types;
          marked = params.marked;
          few = params.few;
          integers = params.integers;
        };
        types = types;
        called =
            callable_kept (length st.structs) (length st.structs) c (Some first.signature) (slice_get (signatures (st.functions ++ first ∷ [])) (length st.env.functions)) (omega arith)
            (λ s j. get_mapped (λ (f : FunctionTree). f.signature) (st.functions ++ first ∷ []) (length st.env.functions) first (there) ∙ j) new_called;
        entry = first;
        is = there;
        fresh = λ h. refl;
      }
        where
          there : slice_get (st.functions ++ first ∷ []) (length st.env.functions) ≡ Some first
          there = ap (slice_get (st.functions ++ first ∷ [])) t.numbers ∙ get_last st.functions first
