-- A function that gets a body without a fault.
use Rattle.std.proofs.Common.{◌≡◌, ◌++◌, ◌∙◌, sym, ap, subst, refl, ℕ, zero, suc, Bool, true, false, List, [], ◌∷◌, length, arith, map, Option, Some, None, inl, inr, slice_set}
use Rattle.std.specs.Prelude.{IsTrue, ◌&&◌, ◌||◌, slice_get, option_map, is_some, nat_eq, codes, ◌⊎◌}
use Rattle.std.specs.Option.{option_map_or}
use Rattle.std.specs.List.{All, list_all}
use Rattle.std.specs.Str.{bytes_eq}
use Rattle.std.proofs.lemmas.List.Elements.{All-nil, All-cons}
use Rattle.pt_base.specs.declared.ids.FnId.{FnId}
use Rattle.pt_base.specs.declared.int_type.IntType.{IntType}
use Rattle.pt_base.specs.declared.int_type.IntType.TheVariants as int
use Rattle.pt_base.proofs.Booleans.{both_hold, both_hold_first, both_hold_second}
use Rattle.pt_base.proofs.Lists.{append_nil, bytes_eq_same, bytes_eq_self, length_map, map_append}
use Rattle.pt_base.proofs.Members.{all_hold_append, all_hold_at}
use Rattle.pt_base.proofs.Places.{get_kept, get_mapped}
use Rattle.pt_tree.specs.declared.signature.Param.{Param}
use Rattle.pt_tree.specs.Facts.{stmt_list_sound, stmt_sound, stmts_sound}
use Rattle.pt_tree.specs.ProgramTree.{ItemTree, function}
use Rattle.pt_tree.specs.ProgramTree as parsed
use Rattle.pt_tree.specs.StatementTree.{StmtTree, BlockTree, stmt_trees}
use Rattle.type_rules.specs.declared.types.Type.{«Type»}
use Rattle.type_rules.specs.declared.types.Type.TheVariants.{Bad, Void, Int, Struct, Array, Pointer}
use Rattle.type_rules.proofs.TypeLemmas.{same_int}
use Rattle.typed_tree.specs.declared.variable.TypedGlobal.{TypedGlobal}
use Rattle.typed_tree.specs.declared.types.StructInfo.{StructInfo}
use Rattle.typed_tree.specs.declared.types.VarTy.TheVariants as v
use Rattle.typed_tree.specs.ExpressionTree.{ExprTree}
use Rattle.typed_tree.specs.Parts.{all_variables}
use Rattle.typed_tree.specs.StatementTree.{block, body_trees}
use Rattle.typed_tree.specs.TypedTree.{FunctionTree, TypedTree, signatures_of}
use Rattle.typed_tree.specs.WellFormed.{names_in, variable_sound, params_lead, are_rising, is_int_result}
use Rattle.typed_tree.specs.WellFormed.{is_start as typed_start}
use Rattle.typed_tree.specs.WellFormedExpression.{is_main}
use Rattle.check_expressions.specs.declared.meaning.Callable.{Callable}
use Rattle.check_expressions.specs.declared.meaning.Meaning.{Meaning}
use Rattle.check_expressions.specs.declared.meaning.Meaning.TheVariants.{Function, Global, Local}
use Rattle.check_expressions.specs.declared.meaning.Object.{Object}
use Rattle.check_expressions.specs.declared.meaning.Variable.{Variable}
use Rattle.check_expressions.specs.Environment.{Env, Scope}
use Rattle.check_expressions.specs.Operands.{var_type}
use Rattle.check_expressions.specs.StructInfos.{infos_of}
use Rattle.check_statements.specs.Outermost.{State}
use Rattle.check_statements.specs.Statements.{CheckedAll, checked_block}
use Rattle.check_declarations.specs.Structs.{Structs}
use Rattle.type_law.specs.DeclarationsTypes.{is_parameter}
use Rattle.type_law.specs.DeclarationsSound.{SoundStructs}
use Rattle.type_law.specs.ExpressionsAgreement.{taken, HasType, HasCallable, is_entry, AreEntries, Agrees}
use Rattle.type_law.specs.StatementsLaws.{is_sound_variable, SoundBody, Kept, BlocksAreKept, BodiesAreSound}
use Rattle.check_programs.specs.declared.function_marks.FunctionMarks.{FunctionMarks}
use Rattle.check_programs.specs.Functions.{var_of, with_parts, with_body, behind_body, is_int, is_start}
use Rattle.check_programs.specs.Unions.{marks_at}
use Rattle.check_programs.specs.Progress.{Progress}
use Rattle.type_law.proofs.ProgramsListLemmas.{all_weaker, all_pass, get_set, get_set_same, get_after_set, length_set}
use Rattle.type_law.proofs.ProgramsTableLemmas.{sought}
use Rattle.type_law.proofs.ProgramsTypeLemmas.{params_lead_vars}
use Rattle.type_law.proofs.DeclarationsGoodTypes.{parameter_variable}
use Rattle.type_law.proofs.StatementsTypeLemmas.{has_object_type}
use Rattle.type_law.proofs.ProgramsSound.{signatures, Extends, Grows, defines, SoundEntry, entry_kept, is_file_entry, is_local_entry, HasObject, Known, SoundTables, HasStart, callable_kept, extends_back}
use Rattle.type_law.proofs.ProgramsOpened.{Opened, params_sound, structs_many, some_same}

pub constants_sound : (items : List StmtTree) → IsTrue (stmt_list_sound items) → IsTrue (stmts_sound (stmt_trees items))
constants_sound [] h = refl
constants_sound (s ∷ ss) h = both_hold (stmt_sound s) (stmts_sound (stmt_trees ss)) (both_hold_first (stmt_sound s) (stmt_list_sound ss) h) (constants_sound ss (both_hold_second (stmt_sound s) (stmt_list_sound ss) h))

-- ---- names agree

file_entry : (m n : ℕ) (env : Env) → length env.functions ≡ m → length env.globals ≡ n → (e : List ℕ × Meaning) → IsTrue (is_file_entry m n e) → IsTrue (is_entry env e.1)
file_entry m n env f g (name, Function k) h = subst (λ x. IsTrue (is_file_entry x n (name, Function k))) (sym f) h
file_entry m n env f g (name, Global k) h = subst (λ x. IsTrue (is_file_entry m x (name, Global k))) (sym g) h
file_entry m n env f g (name, Local k) h = cc

local_entry : (env : Env) (e : List ℕ × Meaning) → IsTrue (is_local_entry (length env.variables) e) → IsTrue (is_entry env e.1)
local_entry env (name, Function k) h = cc
local_entry env (name, Global k) h = cc
local_entry env (name, Local k) h = h

global_type : (n : ℕ) (o : Object) (xs ys : List TypedGlobal) (k : ℕ) → ((g : TypedGlobal) → slice_get xs k ≡ Some g → slice_get ys k ≡ Some g) → HasObject n o (slice_get xs k) → HasType n o.ty (option_map (λ g. g.var.ty) (slice_get ys k))
global_type n o xs ys k h x = (x.good, ap (option_map (λ (g : TypedGlobal). g.var.ty)) (h x.global x.is) ∙ x.has)

pub agrees : (marks : List ℕ → FunctionMarks) (rest : List ItemTree) (own : FunctionMarks) (defining : Bool) (st : Progress) (c : Callable) (k : ℕ) → Opened marks rest own defining st c k
    → (t : TypedTree) → Extends st t → (f : FunctionTree) (new : List Variable) → f.vars ≡ map var_of (st.env.variables ++ new) → Agrees st.env st.structs (names_in t f)
agrees marks rest own defining st c k o t x f new vars =
    let s = o.tables in
    record {
      more = x.more;
      sound = x.sound;
      structs_are = x.structs;
      functions = λ j d h. callable_kept (length st.structs) (length st.structs) d (slice_get (signatures st.functions) j) (slice_get (signatures_of t) j) (omega arith) (λ g i. x.functions j g i) (s.callables j d h);
      globals = λ j z h. global_type (length st.structs) z st.globals t.globals j (λ g i. x.globals j g i) (s.objects j z h);
      fixed = λ j z h. let g = s.objects j z h in ap (option_map (λ y. y.fixed)) (x.globals j g.global g.is) ∙ ap Some g.fixed;
      variables = variables;
      file = all_pass (λ (e : List ℕ × Meaning). is_entry st.env e.1) st.env.file (all_weaker (is_file_entry (length st.functions) (length st.globals)) (λ (e : List ℕ × Meaning). is_entry st.env e.1) (file_entry (length st.functions) (length st.globals) st.env s.numbers s.global_numbers) st.env.file s.file);
      scopes = subst (λ ss. All (AreEntries st.env) ss) (sym o.params.scopes) (All-cons (AreEntries st.env) o.params.scope [] locals (All-nil (AreEntries st.env)));
    }
  where
    locals : AreEntries st.env o.params.scope
    locals = all_pass (λ (e : List ℕ × Meaning). is_entry st.env e.1) o.params.scope (all_weaker (is_local_entry (length st.env.variables)) (λ (e : List ℕ × Meaning). is_entry st.env e.1) (local_entry st.env) o.params.scope o.params.locals)

    variables : (j : ℕ) (y : Variable) → slice_get st.env.variables j ≡ Some y → HasType (length st.structs) y.ty (option_map (λ z. z.ty) (slice_get f.vars j))
    variables j y h =
        let good = parameter_variable (length st.structs) y.ty (all_hold_at (is_parameter (length st.structs)) (map (λ (z : Variable). z.ty) st.env.variables) j y.ty o.params.types (get_mapped (λ (z : Variable). z.ty) st.env.variables j y h)) in
        let there : slice_get f.vars j ≡ Some (var_of y) = ap (λ vs. slice_get vs j) vars ∙ get_mapped var_of (st.env.variables ++ new) j y (get_kept st.env.variables new j y h) in
        (good, ap (option_map (λ z. z.ty)) there ∙ sym (has_object_type (length st.structs) y.ty good))

-- ---- the entry gets the body

-- the number that a meaning has
abbrev number_of : Meaning → ℕ
number_of (Function x) = x.0
number_of (Global x) = x.0
number_of (Local x) = x.0

pub signatures_set : (fs : List FunctionTree) (k : ℕ) (e e' : FunctionTree) → slice_get fs k ≡ Some e → e'.signature ≡ e.signature → signatures (slice_set fs k e') ≡ signatures fs
signatures_set [] k e e' h i = refl
signatures_set (f ∷ fs) zero e e' h i = let one : f ≡ e = cc in ap (λ s. s ∷ signatures fs) (i ∙ ap (λ (g : FunctionTree). g.signature) (sym one))
signatures_set (f ∷ fs) (suc k) e e' h i = ap (λ ss. f.signature ∷ ss) (signatures_set fs k e e' h i)

new_sound : (structs : List StructInfo) (xs : List Variable) → IsTrue (list_all (is_sound_variable structs) xs) → IsTrue (list_all (variable_sound structs) (map var_of xs))
new_sound structs [] h = refl
new_sound structs (x ∷ xs) h =
    both_hold (variable_sound structs (var_of x)) (list_all (variable_sound structs) (map var_of xs)) (one _ _ (both_hold_first (is_sound_variable structs x) (list_all (is_sound_variable structs) xs) h))
    (new_sound structs xs (both_hold_second (is_sound_variable structs x) (list_all (is_sound_variable structs) xs) h))
  where
    one : (a b : Bool) → IsTrue (a && b) → IsTrue (a && (b && true))
    one true true h = refl
    one true false h = h
    one false b h = h

-- main gives an int
int_result : (r : Option IntType) (x : «Type») → option_map v.Int r ≡ var_type x → is_int x ≡ true → IsTrue (is_int_result r)
unfolding var_type
int_result None Bad e h = cc
int_result None Void e h = cc
int_result None (Int t) e h = cc
int_result None (Struct n) e h = cc
int_result None (Array d n) e h = cc
int_result None (Pointer d n) e h = cc
int_result (Some r) Bad e h = cc
int_result (Some r) Void e h = cc
int_result (Some r) (Int t) e h = let one : r ≡ t = cc in subst (λ z. IsTrue (is_int_result (Some z))) (sym (same_int t int.Int h) ∙ sym one) refl
int_result (Some r) (Struct n) e h = cc
int_result (Some r) (Array d n) e h = cc
int_result (Some r) (Pointer d n) e h = cc

abbrev start_of : FunctionTree → Bool
start_of e = typed_start e

other_defines : (f : parsed.FunctionTree) (rest : List ItemTree) (n : List ℕ) → bytes_eq f.declarator.name.bytes n ≡ false → defines (function f ∷ rest) n ≡ defines rest n
other_defines f rest n h = ap (λ b. (b && is_some f.body) || defines rest n) h

module _ (bodies : BodiesAreSound) (keep : BlocksAreKept) (marks : List ℕ → FunctionMarks) (f : parsed.FunctionTree) (rest : List ItemTree) (own : FunctionMarks) (st : Progress) (c : Callable) (k : ℕ) (b : BlockTree)
    (o : Opened marks (function f ∷ rest) own (is_some f.body) st c k) (name : c.name ≡ f.declarator.name.bytes) (own_is : marks c.name ≡ own) (body_is : f.body ≡ Some b) (constants : IsTrue (stmt_list_sound b.items))
    (none : (checked_block c.result (record { env = st.env; structs = st.structs; next = length st.exprs }) b.items).faults ≡ []) where
  abbrev start : State
  start = record { env = st.env; structs = st.structs; next = length st.exprs }

  abbrev all : CheckedAll
  all = checked_block c.result start b.items

  abbrev given : FunctionTree
  given = with_parts o.entry f.declarator.name.span (map var_of all.state.env.variables) (block b.span (body_trees all.bodies))

  -- behind the body
  abbrev pub after : Progress
  after = record {
    env = record { file = st.env.file; functions = st.env.functions; globals = st.env.globals; scopes = []; variables = [] };
    structs = st.structs;
    functions = slice_set st.functions k given;
    globals = st.globals;
    cells = st.cells;
    exprs = st.exprs ++ all.trees;
    has_main = st.has_main;
  }

  kept : Kept start all
  kept = keep c.result start b.items

  same_signatures : signatures (slice_set st.functions k given) ≡ signatures st.functions
  same_signatures = signatures_set st.functions k o.entry given o.is refl

  grows : Grows st after
  grows = record {
    more = [];
    structs = sym (append_nil st.structs);
    functions = λ j s h. ap (λ ss. slice_get ss j) same_signatures ∙ h;
    globals = λ j g h. h;
    new = all.trees;
    exprs = refl;
  }

  entry_signature : o.entry.signature ≡ o.called.signature
  entry_signature = some_same o.entry.signature o.called.signature (slice_get (signatures st.functions) k) (get_mapped (λ (g : FunctionTree). g.signature) st.functions k o.entry o.is) o.called.is

  -- the body's statements in a tree that has its expressions
  at : (t : TypedTree) → Extends st t → (more : List ExprTree) → t.exprs ≡ (st.exprs ++ all.trees) ++ more → SoundBody (names_in t given) t.exprs o.entry.signature.result start all
  at t x more exprs =
      bodies (names_in t given) t.exprs st.exprs more o.entry.signature.result c.result start b.items
      (agrees marks (function f ∷ rest) own (is_some f.body) st c k o t x given kept.new (ap (map var_of) kept.variables))
      o.called.result (ap (λ s. option_map v.Int s.result) entry_signature ∙ o.called.gives)
      (λ j y h. ap (option_map (λ z. z.ty)) (get_mapped var_of all.state.env.variables j y h))
      exprs refl (constants_sound b.items constants) none

  -- in the tree that ends here
  pub here : SoundBody (names_in (record { structs = infos_of st.structs; globals = st.globals; functions = st.functions; exprs = st.exprs ++ all.trees }) given) (st.exprs ++ all.trees) o.entry.signature.result start all
  here = at (record { structs = infos_of st.structs; globals = st.globals; functions = st.functions; exprs = st.exprs ++ all.trees }) (record {
    more = [];
    sound = subst (λ s. SoundStructs s) (sym (append_nil st.structs)) o.tables.structs;
    structs = ap infos_of (sym (append_nil st.structs));
    functions = λ j s h. h;
    globals = λ j g h. h;
    after = all.trees;
    exprs = refl;
  }) [] (sym (append_nil (st.exprs ++ all.trees)))

  body_at : (t : TypedTree) (x : Extends after t) → SoundBody (names_in t given) t.exprs o.entry.signature.result start all
  body_at t x = at t (extends_back st after t grows x) x.after x.exprs

  vars_at : (t : TypedTree) → Extends after t → IsTrue (list_all (variable_sound t.structs) given.vars)
  vars_at t x =
      let sound = body_at t x in
      subst (λ xs. IsTrue (list_all (variable_sound t.structs) (map var_of xs))) (sym sound.variables)
      (subst (λ ys. IsTrue (list_all (variable_sound t.structs) ys)) (sym (map_append var_of st.env.variables sound.new))
      (all_hold_append (variable_sound t.structs) (map var_of st.env.variables) (map var_of sound.new)
      (params_sound t.structs (length st.structs) st.env.variables (structs_many after t x) o.params.types) (new_sound t.structs sound.new sound.sized)))

  entry_sound : SoundEntry marks (function f ∷ rest) st o.entry
  entry_sound = o.tables.entries k o.entry o.is

  entry_name : o.entry.signature.name ≡ f.declarator.name.bytes
  entry_name = ap (λ s. s.name) entry_signature ∙ o.called.name ∙ name

  is_defined : (marks given.signature.name).defined ≡ true
  is_defined =
      entry_sound.defined
      ∙ ap (λ d. d || defines (function f ∷ rest) o.entry.signature.name) (o.fresh (ap is_some body_is))
      ∙ ap (λ d. (d && is_some f.body) || defines rest o.entry.signature.name) (ap (bytes_eq f.declarator.name.bytes) entry_name ∙ bytes_eq_self f.declarator.name.bytes)
      ∙ ap (λ d. is_some d || defines rest o.entry.signature.name) body_is

  given_sound : SoundEntry marks rest after given
  given_sound = record {
    few = entry_sound.few;
    lead =
        subst (λ xs. IsTrue (params_lead o.entry.signature.params (map var_of xs))) (sym kept.variables)
        (params_lead_vars (length st.structs) o.entry.signature.params st.env.variables kept.new o.params.types takes (λ j p x h i. entry_marked j p h ∙ sym (o.params.marked j x i)));
    short = entry_sound.short;
    marked = entry_sound.marked;
    host = entry_sound.host;
    defined = is_defined;
    vars = vars_at;
    body = λ t x. let sound = body_at t x in (sound.sound, sound.numbered, subst (λ n. IsTrue (are_rising n (all_variables (body_trees all.bodies)))) (sym count) sound.rising);
  }
    where
      takes : map taken o.entry.signature.params ≡ map var_type (map (λ x. x.ty) st.env.variables)
      takes = ap (λ s. map taken s.params) entry_signature ∙ o.called.takes ∙ ap (map var_type) o.types

      -- as many parameters as variables
      count : length o.entry.signature.params ≡ length st.env.variables
      count = sym (length_map taken o.entry.signature.params) ∙ ap length takes ∙ length_map var_type (map (λ x. x.ty) st.env.variables) ∙ length_map (λ (x : Variable). x.ty) st.env.variables

      entry_marked : (j : ℕ) (p : Param) → slice_get o.entry.signature.params j ≡ Some p → p.marked ≡ (marks_at own.params j).marked
      entry_marked j p h =
          let own_marks : marks o.entry.signature.name ≡ own = ap (λ s. marks s.name) entry_signature ∙ ap marks o.called.name ∙ own_is in
          entry_sound.marked j p h ∙ ap (λ m. (marks_at m.params j).marked) own_marks

  -- a function of another number has another name
  other_name : (j : ℕ) (g : FunctionTree) → (j ≡ k → ⊥) → slice_get st.functions j ≡ Some g → bytes_eq f.declarator.name.bytes g.signature.name ≡ false
  other_name j g apart is = go (bytes_eq f.declarator.name.bytes g.signature.name) refl
    where
      go : (d : Bool) → bytes_eq f.declarator.name.bytes g.signature.name ≡ d → d ≡ false
      go false e = refl
      go true e =
          let same : o.entry.signature.name ≡ g.signature.name = entry_name ∙ bytes_eq_same f.declarator.name.bytes g.signature.name e in
          let one = o.tables.named k o.entry o.is in
          let two = o.tables.named j g is in
          let both : Function (record { 0 = j }) ≡ Function (record { 0 = k }) = some_same (Function (record { 0 = j })) (Function (record { 0 = k })) (sought st.env.file o.entry.signature.name) (ap (sought st.env.file) same ∙ two) one in
          let number : j ≡ k = ap number_of both in
          absurd (apart number)

  set_entries : (j : ℕ) (g : FunctionTree) → slice_get (slice_set st.functions k given) j ≡ Some g → SoundEntry marks rest after g
  set_entries j g h = elim (get_set st.functions k j given g h) [
    | inl i ↦ entry_kept marks (function f ∷ rest) rest st after g grows (other_defines f rest g.signature.name (other_name j g i.apart i.is)) (o.tables.entries j g i.is)
    | inr i ↦ subst (λ z. SoundEntry marks rest after z) (sym i.is) given_sound
  ]

  set_named : (j : ℕ) (g : FunctionTree) → slice_get (slice_set st.functions k given) j ≡ Some g → sought st.env.file g.signature.name ≡ Some (Function (record { 0 = j }))
  set_named j g h = elim (get_set st.functions k j given g h) [
    | inl i ↦ o.tables.named j g i.is
    | inr i ↦ ap (λ (z : FunctionTree). sought st.env.file z.signature.name) i.is ∙ o.tables.named k o.entry o.is ∙ ap (λ n. Some (Function (record { 0 = n }))) (sym i.at)
  ]

  set_known : (n : List ℕ) (j : FnId) → sought st.env.file n ≡ Some (Function j) → Known (slice_set st.functions k given) n j.0
  set_known n j h =
      let known = o.tables.known n j h in
      elim (get_after_set st.functions k j.0 o.entry given known.entry o.is known.is) [
        | inl i ↦ record { entry = known.entry; is = i; name = known.name }
        | inr i ↦ record {
          entry = given;
          is = ap (slice_get (slice_set st.functions k given)) i.at ∙ get_set_same st.functions k o.entry given o.is;
          name = ap (λ (z : FunctionTree). z.signature.name) (sym i.is) ∙ known.name;
        }
      ]

  set_unknown : (n : List ℕ) → sought st.env.file n ≡ None → (marks n).defined ≡ defines rest n
  set_unknown n h = o.tables.unknown n h ∙ other_defines f rest n (go (bytes_eq f.declarator.name.bytes n) refl)
    where
      go : (d : Bool) → bytes_eq f.declarator.name.bytes n ≡ d → d ≡ false
      go false e = refl
      go true e =
          let same : o.entry.signature.name ≡ n = entry_name ∙ bytes_eq_same f.declarator.name.bytes n e in
          let one = o.tables.named k o.entry o.is in
          let two : sought st.env.file o.entry.signature.name ≡ None = ap (sought st.env.file) same ∙ h in
          cc

  -- all tables behind the body
  pub set_tables : SoundTables marks rest after
  set_tables = record {
    structs = o.tables.structs;
    file = subst (λ n. IsTrue (list_all (is_file_entry n (length st.globals)) st.env.file)) (sym (length_set st.functions k given)) o.tables.file;
    numbers = o.tables.numbers ∙ sym (length_set st.functions k given);
    global_numbers = o.tables.global_numbers;
    callables = λ j d h. subst (λ ss. HasCallable (length st.structs) d (slice_get ss j)) (sym same_signatures) (o.tables.callables j d h);
    objects = o.tables.objects;
    named = set_named;
    known = set_known;
    entries = set_entries;
    unknown = set_unknown;
    globals = λ j g h t x. o.tables.globals j g h t (extends_back st after t grows x);
    cells = o.tables.cells;
    limit = o.tables.limit;
  }

  abbrev made : Scope → List Callable → List Object → Structs → List FunctionTree → Progress
  made file callables objects structs functions = record {
    env = record { file = file; functions = callables; globals = objects; scopes = []; variables = [] };
    structs = structs;
    functions = functions;
    globals = st.globals;
    cells = st.cells;
    exprs = st.exprs ++ all.trees;
    has_main = st.has_main;
  }

  with_body_is : with_body st.functions k f.declarator.name.span given.vars (block b.span (body_trees all.bodies)) ≡ slice_set st.functions k given
  with_body_is = ap (λ x. option_map_or (λ e. slice_set st.functions k (with_parts e f.declarator.name.span given.vars (block b.span (body_trees all.bodies)))) x st.functions) o.is

  behind_is : behind_body st k f.declarator.name.span b.span all ≡ after
  behind_is =
      ap (λ x. made x all.state.env.functions all.state.env.globals all.state.structs (with_body st.functions k f.declarator.name.span given.vars (block b.span (body_trees all.bodies)))) here.file
      ∙ ap (λ x. made st.env.file x all.state.env.globals all.state.structs (with_body st.functions k f.declarator.name.span given.vars (block b.span (body_trees all.bodies)))) here.functions
      ∙ ap (λ x. made st.env.file st.env.functions x all.state.structs (with_body st.functions k f.declarator.name.span given.vars (block b.span (body_trees all.bodies)))) here.globals
      ∙ ap (λ x. made st.env.file st.env.functions st.env.globals x (with_body st.functions k f.declarator.name.span given.vars (block b.span (body_trees all.bodies)))) here.structs
      ∙ ap (made st.env.file st.env.functions st.env.globals st.structs) with_body_is

  -- the program can begin with the function, if its declarator says so
  starting : is_start c true ≡ true → HasStart (slice_set st.functions k given)
  starting h = record {
    number = k;
    entry = given;
    is = get_set_same st.functions k o.entry given o.is;
    start =
        both_hold (is_main given.signature) (true && (is_int_result given.signature.result && nat_eq (length given.signature.params) 0))
        (ap (λ n. bytes_eq n (codes "main")) (ap (λ s. s.name) entry_signature ∙ o.called.name) ∙ both_hold_first (bytes_eq c.name (codes "main")) (is_int c.result && nat_eq (length c.params) 0) h)
        (both_hold (is_int_result given.signature.result) (nat_eq (length given.signature.params) 0)
        (int_result given.signature.result c.result (ap (λ s. option_map v.Int s.result) entry_signature ∙ o.called.gives) (both_hold_first (is_int c.result) (nat_eq (length c.params) 0) rest_of))
        (ap (λ n. nat_eq n 0) many ∙ both_hold_second (is_int c.result) (nat_eq (length c.params) 0) rest_of));
  }
    where
      rest_of : IsTrue (is_int c.result && nat_eq (length c.params) 0)
      rest_of = both_hold_second (bytes_eq c.name (codes "main")) (is_int c.result && nat_eq (length c.params) 0) h

      many : length given.signature.params ≡ length c.params
      many =
          ap (λ s. length s.params) entry_signature
          ∙ sym (length_map taken o.called.signature.params) ∙ ap length o.called.takes ∙ length_map var_type c.params

  still : HasStart st.functions → HasStart (slice_set st.functions k given)
  still s = elim (get_after_set st.functions k s.number o.entry given s.entry o.is s.is) [
    | inl i ↦ record { number = s.number; entry = s.entry; is = i; start = s.start }
    | inr i ↦ record {
      number = k;
      entry = given;
      is = get_set_same st.functions k o.entry given o.is;
      start = begun (is_main o.entry.signature) (is_some o.entry.body) (is_int_result o.entry.signature.result && nat_eq (length o.entry.signature.params) 0) (ap start_of (sym i.is) ∙ s.start);
    }
  ]
    where
      begun : (p q r : Bool) → IsTrue (p && (q && r)) → IsTrue (p && (true && r))
      begun true true r h = h
      begun true false r h = cc
      begun false q r h = h

  -- what the program is behind the body
  pub behind : SoundTables marks rest (behind_body st k f.declarator.name.span b.span all)
  behind = subst (λ z. SoundTables marks rest z) (sym behind_is) set_tables

  pub behind_start : (is_start c true ≡ true) ⊎ HasStart st.functions → HasStart (behind_body st k f.declarator.name.span b.span all).functions
  behind_start h = subst (λ z. HasStart z) (sym with_body_is) (elim h [ inl i ↦ starting i | inr i ↦ still i ])
