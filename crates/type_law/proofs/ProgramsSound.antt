-- What holds of a program's items that were judged without a fault.
use Rattle.std.proofs.Common.{◌≡◌, ◌≤◌, ◌++◌, ◌∙◌, sym, ap, subst, ℕ, Bool, true, false, List, [], ◌∷◌, length, arith, map, Option, Some, None}
use Rattle.std.specs.Prelude.{IsTrue, ◌&&◌, ◌||◌, not, nat_lt, nat_le, nat_eq, slice_get, is_some, sum_by}
use Rattle.std.specs.List.{list_all}
use Rattle.std.specs.Str.{bytes_eq}
use Rattle.pt_base.specs.declared.ids.FnId.{FnId}
use Rattle.pt_base.specs.Names.{is_short}
use Rattle.pt_base.proofs.Lists.{append_grouped, append_nil, length_append}
use Rattle.pt_tree.specs.declared.signature.Param.{Param}
use Rattle.pt_tree.specs.declared.signature.Signature.{Signature}
use Rattle.pt_tree.specs.ProgramTree.{ItemTree, declares, function}
use Rattle.typed_tree.specs.declared.variable.TypedGlobal.{TypedGlobal}
use Rattle.typed_tree.specs.ExpressionTree.{ExprTree}
use Rattle.typed_tree.specs.StatementTree.{BodyTree}
use Rattle.typed_tree.specs.Parts.{parts_of, variables_of}
use Rattle.typed_tree.specs.TypedTree.{FunctionTree, TypedTree, signatures_of}
use Rattle.typed_tree.specs.WellFormedStatement.{is_sound}
use Rattle.typed_tree.specs.WellFormed.{params_lead, variable_sound, is_integer_param, is_block, scope_in, are_consecutive, are_rising, global_sound, is_start}
use Rattle.check_declarations.specs.NameTables.{Named}
use Rattle.check_declarations.specs.Structs.{Structs}
use Rattle.check_expressions.specs.declared.meaning.Callable.{Callable}
use Rattle.check_expressions.specs.declared.meaning.Object.{Object}
use Rattle.check_expressions.specs.declared.meaning.Variable.{Variable}
use Rattle.check_expressions.specs.declared.meaning.Meaning.{Meaning}
use Rattle.check_expressions.specs.declared.meaning.Meaning.TheVariants.{Function, Global, Local}
use Rattle.check_expressions.specs.Operands.{var_type}
use Rattle.check_expressions.specs.StructInfos.{infos_of}
use Rattle.type_law.specs.DeclarationsTypes.{is_variable, is_parameter}
use Rattle.type_law.specs.DeclarationsSound.{SoundStructs}
use Rattle.type_law.specs.ExpressionsAgreement.{HasCallable}
use Rattle.check_programs.specs.declared.function_marks.FunctionMarks.{FunctionMarks}
use Rattle.check_programs.specs.Progress.{Progress}
use Rattle.check_programs.specs.Unions.{marks_at}
use Rattle.check_programs.specs.Globals.{globals_limit}
use Rattle.type_law.proofs.ProgramsListLemmas.{all_weaker}
use Rattle.type_law.proofs.DeclarationsGoodTypes.{variable_more, parameter_more}
use Rattle.type_law.proofs.ProgramsTableLemmas.{sought}

-- ---- a tree that has what was made so far

abbrev pub signatures : List FunctionTree → List Signature
signatures fs = map (λ f. f.signature) fs

pub record Extends (st : Progress) (t : TypedTree) : Type 0 where
  pub more : Structs
  pub sound : SoundStructs (st.structs ++ more)
  pub structs : t.structs ≡ infos_of (st.structs ++ more)
  pub functions : (k : ℕ) (s : Signature) → slice_get (signatures st.functions) k ≡ Some s → slice_get (signatures_of t) k ≡ Some s
  pub globals : (k : ℕ) (g : TypedGlobal) → slice_get st.globals k ≡ Some g → slice_get t.globals k ≡ Some g
  pub after : List ExprTree
  pub exprs : t.exprs ≡ st.exprs ++ after

pub record Grows (a b : Progress) : Type 0 where
  pub more : Structs
  pub structs : b.structs ≡ a.structs ++ more
  pub functions : (k : ℕ) (s : Signature) → slice_get (signatures a.functions) k ≡ Some s → slice_get (signatures b.functions) k ≡ Some s
  pub globals : (k : ℕ) (g : TypedGlobal) → slice_get a.globals k ≡ Some g → slice_get b.globals k ≡ Some g
  pub new : List ExprTree
  pub exprs : b.exprs ≡ a.exprs ++ new

pub extends_back : (a b : Progress) (t : TypedTree) → Grows a b → Extends b t → Extends a t
extends_back a b t g e =
    let same : b.structs ++ e.more ≡ a.structs ++ (g.more ++ e.more) = ap (λ s. s ++ e.more) g.structs ∙ append_grouped a.structs g.more e.more in
    record {
      more = g.more ++ e.more;
      sound = subst (λ s. SoundStructs s) same e.sound;
      structs = e.structs ∙ ap infos_of same;
      functions = λ k s h. e.functions k s (g.functions k s h);
      globals = λ k x h. e.globals k x (g.globals k x h);
      after = g.new ++ e.after;
      exprs = e.exprs ∙ ap (λ xs. xs ++ e.after) g.exprs ∙ append_grouped a.exprs g.new e.after;
    }

-- ---- functions

-- one of the items defines the function of this name
abbrev pub defines : List ItemTree → List ℕ → Bool
defines [] n = false
defines (declares d ∷ items) n = defines items n
defines (function f ∷ items) n = (bytes_eq f.declarator.name.bytes n && is_some f.body) || defines items n

-- the body, or what holds of a host
abbrev pub BodyHolds : TypedTree → FunctionTree → Option BodyTree → Type 0
BodyHolds t f None = f.signature.host ≡ true → IsTrue (list_all is_integer_param f.signature.params) × IsTrue (nat_eq (length f.vars) (length f.signature.params))
BodyHolds t f (Some b) =
    IsTrue (is_block b && is_sound (scope_in t f) false false b)
    × IsTrue (are_consecutive (parts_of b) (length t.exprs))
    × IsTrue (are_rising (length f.signature.params) (variables_of b))

-- a function, where these items come after it
pub record SoundEntry (marks : List ℕ → FunctionMarks) (rest : List ItemTree) (st : Progress) (f : FunctionTree) : Type 0 where
  pub few : IsTrue (nat_le (length f.signature.params) 8)
  pub lead : IsTrue (params_lead f.signature.params f.vars)
  pub short : IsTrue (is_short f.signature.name)
  -- the marks of a parameter are those of all declarations
  pub marked : (j : ℕ) (p : Param) → slice_get f.signature.params j ≡ Some p → p.marked ≡ (marks_at (marks f.signature.name).params j).marked
  pub host : f.signature.host ≡ not (marks f.signature.name).defined
  pub defined : (marks f.signature.name).defined ≡ (is_some f.body || defines rest f.signature.name)
  pub vars : (t : TypedTree) → Extends st t → IsTrue (list_all (variable_sound t.structs) f.vars)
  pub body : (t : TypedTree) → Extends st t → BodyHolds t f f.body

pub entry_kept : (marks : List ℕ → FunctionMarks) (rest rest' : List ItemTree) (a b : Progress) (f : FunctionTree) → Grows a b
    → defines rest f.signature.name ≡ defines rest' f.signature.name → SoundEntry marks rest a f → SoundEntry marks rest' b f
entry_kept marks rest rest' a b f g same e = record {
  few = e.few;
  lead = e.lead;
  short = e.short;
  marked = e.marked;
  host = e.host;
  defined = e.defined ∙ ap (λ d. is_some f.body || d) same;
  vars = λ t x. e.vars t (extends_back a b t g x);
  body = λ t x. e.body t (extends_back a b t g x);
}

-- ---- names

-- what the file's names mean, with so many functions and globals
abbrev pub is_file_meaning : ℕ → ℕ → Meaning → Bool
is_file_meaning functions globals (Function f) = nat_lt f.0 functions
is_file_meaning functions globals (Global g) = nat_lt g.0 globals
is_file_meaning functions globals (Local x) = false

abbrev pub is_file_entry : ℕ → ℕ → List ℕ × Meaning → Bool
is_file_entry functions globals e = is_file_meaning functions globals e.1

-- what the names of parameters mean, with so many variables
abbrev pub is_local_meaning : ℕ → Meaning → Bool
is_local_meaning variables (Function f) = false
is_local_meaning variables (Global g) = false
is_local_meaning variables (Local x) = nat_lt x.0 variables

abbrev pub is_local_entry : ℕ → List ℕ × Meaning → Bool
is_local_entry variables e = is_local_meaning variables e.1

-- the entry is that of the object
pub record HasObject (structs : ℕ) (o : Object) (entry : Option TypedGlobal) : Type 0 where
  pub global : TypedGlobal
  pub is : entry ≡ Some global
  pub good : IsTrue (is_variable structs o.ty)
  pub has : Some global.var.ty ≡ var_type o.ty
  pub fixed : global.fixed ≡ o.fixed

-- the function of this number has this name
pub record Known (functions : List FunctionTree) (n : List ℕ) (k : ℕ) : Type 0 where
  pub entry : FunctionTree
  pub is : slice_get functions k ≡ Some entry
  pub name : entry.signature.name ≡ n

-- ---- all tables, where these items are left

pub record SoundTables (marks : List ℕ → FunctionMarks) (rest : List ItemTree) (st : Progress) : Type 0 where
  pub structs : SoundStructs st.structs
  pub file : IsTrue (list_all (is_file_entry (length st.functions) (length st.globals)) st.env.file)
  pub numbers : length st.env.functions ≡ length st.functions
  pub global_numbers : length st.env.globals ≡ length st.globals
  pub callables : (k : ℕ) (c : Callable) → slice_get st.env.functions k ≡ Some c → HasCallable (length st.structs) c (slice_get (signatures st.functions) k)
  pub objects : (k : ℕ) (o : Object) → slice_get st.env.globals k ≡ Some o → HasObject (length st.structs) o (slice_get st.globals k)
  pub named : (k : ℕ) (f : FunctionTree) → slice_get st.functions k ≡ Some f → sought st.env.file f.signature.name ≡ Some (Function (record { 0 = k }))
  pub known : (n : List ℕ) (k : FnId) → sought st.env.file n ≡ Some (Function k) → Known st.functions n k.0
  pub entries : (k : ℕ) (f : FunctionTree) → slice_get st.functions k ≡ Some f → SoundEntry marks rest st f
  pub unknown : (n : List ℕ) → sought st.env.file n ≡ None → (marks n).defined ≡ defines rest n
  pub globals : (k : ℕ) (g : TypedGlobal) → slice_get st.globals k ≡ Some g → (t : TypedTree) → Extends st t → IsTrue (global_sound t.structs g)
  pub cells : sum_by (λ g. length g.cells) st.globals ≡ st.cells
  pub limit : st.cells ≤ globals_limit

-- a function with which a program begins
pub record HasStart (functions : List FunctionTree) : Type 0 where
  pub number : ℕ
  pub entry : FunctionTree
  pub is : slice_get functions number ≡ Some entry
  pub start : IsTrue (is_start entry)

-- between items no function's scope is open
pub record SoundProgress (marks : List ℕ → FunctionMarks) (rest : List ItemTree) (st : Progress) : Type 0 where
  pub tables : SoundTables marks rest st
  pub scopes : st.env.scopes ≡ []
  pub variables : st.env.variables ≡ []
  pub start : st.has_main ≡ true → HasStart st.functions

-- ---- the same behind a declarator, where a function's scope may be open

-- a program's progress with these scopes, variables and structs
abbrev pub moved : Progress → List (Named Meaning) → List Variable → Structs → Bool → Progress
moved st scopes variables structs has_main = record {
  env = record { file = st.env.file; functions = st.env.functions; globals = st.env.globals; scopes = scopes; variables = variables };
  structs = structs;
  functions = st.functions;
  globals = st.globals;
  cells = st.cells;
  exprs = st.exprs;
  has_main = has_main;
}

pub more_structs : (a b more : Structs) → b ≡ a ++ more → length a ≤ length b
more_structs a b more h = let long = length_append a more in let same = ap length h in omega (arith, long, same)

pub callable_kept : (m n : ℕ) (c : Callable) (o o' : Option Signature) → m ≤ n → ((s : Signature) → o ≡ Some s → o' ≡ Some s) → HasCallable m c o → HasCallable n c o'
callable_kept m n c o o' h f k = record {
  signature = k.signature;
  is = f k.signature k.is;
  name = k.name;
  result = k.result;
  gives = k.gives;
  params = all_weaker (is_parameter m) (is_parameter n) (λ t. parameter_more m n t h) c.params k.params;
  takes = k.takes;
}

pub object_kept : (m n : ℕ) (o : Object) (x x' : Option TypedGlobal) → m ≤ n → ((g : TypedGlobal) → x ≡ Some g → x' ≡ Some g) → HasObject m o x → HasObject n o x'
object_kept m n o x x' h f k = record { global = k.global; is = f k.global k.is; good = variable_more m n o.ty h k.good; has = k.has; fixed = k.fixed }

pub tables_moved : (marks : List ℕ → FunctionMarks) (rest rest' : List ItemTree) (st : Progress) (scopes : List (Named Meaning)) (variables : List Variable) (structs more : Structs) (has_main : Bool)
    → structs ≡ st.structs ++ more → SoundStructs structs → ((n : List ℕ) → defines rest n ≡ defines rest' n)
    → SoundTables marks rest st → SoundTables marks rest' (moved st scopes variables structs has_main)
tables_moved marks rest rest' st scopes variables structs more has_main grown sound same t =
    let after : Progress = moved st scopes variables structs has_main in
    let many : length st.structs ≤ length structs = more_structs st.structs structs more grown in
    let grows : Grows st after = record { more = more; structs = grown; functions = λ k s h. h; globals = λ k g h. h; new = []; exprs = sym (append_nil st.exprs) } in
    record {
      structs = sound;
      file = t.file;
      numbers = t.numbers;
      global_numbers = t.global_numbers;
      callables = λ k c h. callable_kept (length st.structs) (length structs) c (slice_get (signatures st.functions) k) (slice_get (signatures st.functions) k) many (λ s i. i) (t.callables k c h);
      objects = λ k o h. object_kept (length st.structs) (length structs) o (slice_get st.globals k) (slice_get st.globals k) many (λ g i. i) (t.objects k o h);
      named = t.named;
      known = t.known;
      entries = λ k f h. entry_kept marks rest rest' st after f grows (same f.signature.name) (t.entries k f h);
      unknown = λ n h. t.unknown n h ∙ same n;
      globals = λ k g h x e. t.globals k g h x (extends_back st after x grows e);
      cells = t.cells;
      limit = t.limit;
    }
