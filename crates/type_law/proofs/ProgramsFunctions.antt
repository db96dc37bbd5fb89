-- A function's declaration or definition without a fault.
use Rattle.std.proofs.Common.{◌≡◌, ◌++◌, ◌∙◌, sym, ap, subst, refl, ℕ, Bool, true, false, List, [], ◌∷◌, length, map, Option, Some, None, inl, inr}
use Rattle.std.specs.Prelude.{IsTrue, ◌&&◌, ◌||◌, ◌⊎◌, is_some, codes, nat_eq}
use Rattle.std.specs.Str.{bytes_eq}
use Rattle.pt_base.specs.declared.span.Span.{Span}
use Rattle.pt_base.specs.Names.{is_short}
use Rattle.pt_base.proofs.Booleans.{or_true_cases}
use Rattle.pt_base.proofs.Lists.{append_nil, append_nil_first, append_nil_second}
use Rattle.pt_base.proofs.Places.{get_kept}
use Rattle.pt_tree.specs.Facts.{body_sound}
use Rattle.pt_tree.specs.ProgramTree.{ItemTree, function}
use Rattle.pt_tree.specs.ProgramTree as parsed
use Rattle.pt_tree.specs.StatementTree.{BlockTree}
use Rattle.typed_tree.specs.TypedTree.{FunctionTree}
use Rattle.check_declarations.specs.declared.fault.FaultKind.TheVariants.{Redeclared, TooLarge}
use Rattle.check_declarations.specs.declared.fault.TypeFault.{TypeFault}
use Rattle.check_declarations.specs.Faults.{fault_if}
use Rattle.check_expressions.specs.declared.meaning.Callable.{Callable}
use Rattle.check_expressions.specs.declared.meaning.Meaning.{Meaning}
use Rattle.check_expressions.specs.declared.meaning.Meaning.TheVariants.{Function, Global, Local}
use Rattle.check_expressions.specs.declared.meaning.Object.{Object}
use Rattle.check_expressions.specs.Environment.{Env, Scope, find_in}
use Rattle.type_law.specs.DeclarationsTypes.{is_result}
use Rattle.type_law.specs.DeclarationsLaws.{SpecifiersAreSound, ObjectsAreSound, ResultsAreSound}
use Rattle.type_law.specs.StatementsLaws.{BlocksAreKept, BodiesAreSound}
use Rattle.check_programs.specs.declared.function_marks.FunctionMarks.{FunctionMarks}
use Rattle.check_programs.specs.Blocks.{block_in}
use Rattle.check_programs.specs.Functions.{Head, head_of, clashes, function_in, number_in, declared_as, is_int, is_start, are_too_large, with_definition, completed, checked_function}
use Rattle.check_programs.specs.Progress.{Progress}
use Rattle.type_law.proofs.ProgramsTableLemmas.{sought}
use Rattle.type_law.proofs.ProgramsSound.{defines, SoundTables, SoundProgress, HasStart, tables_moved}
use Rattle.type_law.proofs.ProgramsParameters.{SoundParams}
use Rattle.type_law.proofs.ProgramsHeads.{sound_head}
use Rattle.type_law.proofs.ProgramsOpened.{Opened, old_opened, new_opened, find_is}
use Rattle.type_law.proofs.ProgramsBodies.{behind, behind_start}
use Rattle.type_law.proofs.DeclarationsFaultLemmas.{no_fault}

-- a function that is declared, and with which the program begins if it did before
record Stage (marks : List ℕ → FunctionMarks) (rest : List ItemTree) (own : FunctionMarks) (defining : Bool) (before st : Progress) (c : Callable) (k : ℕ) : Type 0 where
  pub opened : Opened marks rest own defining st c k
  pub start : HasStart before.functions → HasStart st.functions
  pub same : st.has_main ≡ before.has_main

module _ (bodies : BodiesAreSound) (keep : BlocksAreKept) (marks : List ℕ → FunctionMarks) (f : parsed.FunctionTree) (rest : List ItemTree) (own : FunctionMarks) (st : Progress) (c : Callable)
    (t : SoundTables marks (function f ∷ rest) st) (params : SoundParams own st.env (length st.structs) st.env) (result : IsTrue (is_result c.result)) (types : c.params ≡ map (λ x. x.ty) st.env.variables)
    (name : c.name ≡ f.declarator.name.bytes) (own_is : marks c.name ≡ own) (short : IsTrue (is_short c.name)) (constants : IsTrue (body_sound f.body))
    (starts : st.has_main ≡ true → (is_start c (is_some f.body) ≡ true) ⊎ HasStart st.functions) where
  abbrev at : Span
  at = f.declarator.name.span

  kept_start : (e : FunctionTree) → HasStart st.functions → HasStart (st.functions ++ e ∷ [])
  kept_start e s = record { number = s.number; entry = s.entry; is = get_kept st.functions (e ∷ []) s.number s.entry s.is; start = s.start }

  stage : (o : Option Meaning) → sought st.env.file c.name ≡ o → clashes st c (is_some f.body) o ≡ false
      → Stage marks (function f ∷ rest) own (is_some f.body) st (declared_as own st c at (function_in o)) c (number_in st (function_in o))
  stage None is fine = record {
    opened = new_opened marks (function f ∷ rest) own (is_some f.body) st c at t params result types own_is short is;
    start = kept_start _;
    same = refl;
  }
  stage (Some (Function k)) is fine = record {
    opened = old_opened marks (function f ∷ rest) own (is_some f.body) st c k t params result types is fine;
    start = λ s. s;
    same = refl;
  }
  stage (Some (Global g)) is fine = cc
  stage (Some (Local v)) is fine = cc

  -- a prototype defines nothing
  same_defines : f.body ≡ None → (n : List ℕ) → defines (function f ∷ rest) n ≡ defines rest n
  same_defines h n = ap (λ (b : Option BlockTree). (bytes_eq f.declarator.name.bytes n && is_some b) || defines rest n) h ∙ go (bytes_eq f.declarator.name.bytes n)
    where
      go : (b : Bool) → ((b && false) || defines rest n) ≡ defines rest n
      go true = refl
      go false = refl

  no_start : is_start c false ≡ true → ⊥
  no_start h = go (bytes_eq c.name (codes "main")) h
    where
      go : (b : Bool) → (b && (false && (is_int c.result && nat_eq (length c.params) 0))) ≡ true → ⊥
      go true h = cc
      go false h = cc

  -- behind the declarator
  ended : (st' : Progress) (k : ℕ) → Stage marks (function f ∷ rest) own (is_some f.body) st st' c k → (b : Option BlockTree) → f.body ≡ b → (with_definition st' k c.result at b).faults ≡ []
      → SoundProgress marks rest (with_definition st' k c.result at b).progress
  unfolding block_in
  ended st' k s None is none = record {
    tables = tables_moved marks (function f ∷ rest) rest st' [] [] st'.structs [] st'.has_main (sym (append_nil st'.structs)) s.opened.tables.structs (same_defines is) s.opened.tables;
    scopes = refl;
    variables = refl;
    start = λ h. go (starts (sym s.same ∙ h));
  }
    where
      go : (is_start c (is_some f.body) ≡ true) ⊎ HasStart st.functions → HasStart st'.functions
      go (inl i) = absurd (no_start (ap (λ (b : Option BlockTree). is_start c (is_some b)) (sym is) ∙ i))
      go (inr i) = s.start i
  ended st' k s (Some b) is none =
      let all = block_in c.result st'.env st'.structs (length st'.exprs) b.items in
      let fine = append_nil_first all.faults (fault_if (are_too_large all.state.structs all.state.env.variables) TooLarge at) none in
      let sound : IsTrue (body_sound (Some b)) = subst (λ x. IsTrue (body_sound x)) is constants in
      record {
        tables = behind bodies keep marks f rest own st' c k b s.opened name own_is is sound fine;
        scopes = refl;
        variables = refl;
        start = λ h. behind_start bodies keep marks f rest own st' c k b s.opened name own_is is sound fine (go (starts (sym s.same ∙ h)));
      }
    where
      go : (is_start c (is_some f.body) ≡ true) ⊎ HasStart st.functions → (is_start c true ≡ true) ⊎ HasStart st'.functions
      go (inl i) = inl (ap (λ (x : Option BlockTree). is_start c (is_some x)) (sym is) ∙ i)
      go (inr i) = inr (s.start i)

  by_meaning : (o : Option Meaning) → sought st.env.file c.name ≡ o
      → (fault_if (clashes st c (is_some f.body) o) Redeclared at ++ (with_definition (declared_as own st c at (function_in o)) (number_in st (function_in o)) c.result at f.body).faults) ≡ []
      → SoundProgress marks rest (with_definition (declared_as own st c at (function_in o)) (number_in st (function_in o)) c.result at f.body).progress
  by_meaning o is none =
      let own_faults = fault_if (clashes st c (is_some f.body) o) Redeclared at in
      let others = (with_definition (declared_as own st c at (function_in o)) (number_in st (function_in o)) c.result at f.body).faults in
      ended (declared_as own st c at (function_in o)) (number_in st (function_in o))
      (stage o is (no_fault (clashes st c (is_some f.body) o) Redeclared at (append_nil_first own_faults others none))) f.body refl (append_nil_second own_faults others none)

  pub completed_sound : (completed own st c f).faults ≡ [] → SoundProgress marks rest (completed own st c f).progress
  unfolding completed
  completed_sound none = by_meaning (find_in st.env.file c.name) (sym (find_is st.env.file c.name)) none

-- the names of the file are those before the parameters
abbrev env_with : Env → Scope → List Callable → List Object → Env
env_with e file callables objects = record { file = file; functions = callables; globals = objects; scopes = e.scopes; variables = e.variables }

env_is : (e : Env) (file : Scope) (callables : List Callable) (objects : List Object) → e.file ≡ file → e.functions ≡ callables → e.globals ≡ objects → env_with e file callables objects ≡ e
env_is e file callables objects f g h =
    ap (λ x. env_with e x callables objects) (sym f)
    ∙ ap (λ x. env_with e e.file x objects) (sym g)
    ∙ ap (λ x. env_with e e.file e.functions x) (sym h)

abbrev behind_head : Progress → Head → Bool → Env → Progress
behind_head st h begins env = record { env = env; structs = h.structs; functions = st.functions; globals = st.globals; cells = st.cells; exprs = st.exprs; has_main = begins }

pub rebased : (own : FunctionMarks) (base : Env) (n : ℕ) (env : Env) → SoundParams own base n env → SoundParams own env n env
rebased own base n env p = record { file = refl; functions = refl; globals = refl; scope = p.scope; scopes = p.scopes; locals = p.locals; types = p.types; marked = p.marked; few = p.few; integers = p.integers }

pub function_step : SpecifiersAreSound → ObjectsAreSound → ResultsAreSound → BodiesAreSound → BlocksAreKept → (marks : List ℕ → FunctionMarks) (f : parsed.FunctionTree) (rest : List ItemTree) (st : Progress)
    → SoundProgress marks (function f ∷ rest) st → IsTrue (is_short f.declarator.name.bytes) → IsTrue (body_sound f.body) → (checked_function (marks f.declarator.name.bytes) st f).faults ≡ []
    → SoundProgress marks rest (checked_function (marks f.declarator.name.bytes) st f).progress
function_step specifiers objects results bodies keep marks f rest st s short constants none =
    let own = marks f.declarator.name.bytes in
    let h : Head = head_of own st.env st.structs f in
    let begins : Bool = is_start h.callable (is_some f.body) || st.has_main in
    let after : Progress = behind_head st h begins h.env in
    let last : List TypeFault = (completed own after h.callable f).faults in
    let head = sound_head specifiers objects results own st f s.tables.structs s.scopes s.variables (append_nil_first h.faults last none) in
    let tables : SoundTables marks (function f ∷ rest) after =
    subst (λ env. SoundTables marks (function f ∷ rest) (behind_head st h begins env)) (env_is h.env st.env.file st.env.functions st.env.globals head.params.file head.params.functions head.params.globals)
    (tables_moved marks (function f ∷ rest) (function f ∷ rest) st h.env.scopes h.env.variables h.structs head.more begins head.grown head.sound (λ n. refl) s.tables) in
    completed_sound bodies keep marks f rest own after h.callable tables (rebased own st.env (length h.structs) h.env head.params) head.result head.types head.name (ap marks head.name) (subst (λ n. IsTrue (is_short n)) (sym head.name) short) constants
    (λ i. elim (or_true_cases (is_start h.callable (is_some f.body)) st.has_main i) [ inl e ↦ inl e | inr e ↦ inr (s.start e) ]) (append_nil_second h.faults last none)
