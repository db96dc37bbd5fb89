-- A function's declaration without a fault: what it marks may be marked, and its entry has the marks of all
-- declarations.
use Rattle.std.proofs.Common.{◌≡◌, ◌≤◌, ◌<◌, ◌+◌, ◌++◌, ◌∙◌, sym, ap, subst, refl, ℕ, zero, suc, Bool, true, false, List, [], ◌∷◌, length, arith, map, not, if◌then◌else◌, Option, Some, None, inl, inr, slice_set}
use Rattle.std.specs.Prelude.{IsTrue, ◌&&◌, ◌||◌, nat_eq, slice_get, is_some}
use Rattle.std.specs.Option.{option_map_or}
use Rattle.std.specs.List.{list_all}
use Rattle.pt_base.specs.declared.span.Span.{Span}
use Rattle.pt_base.specs.Names.{is_short}
use Rattle.pt_base.proofs.Lists.{append_nil_first, append_nil_second, length_map, map_append}
use Rattle.pt_base.proofs.Places.{get_kept, get_mapped, get_there}
use Rattle.pt_tree.specs.declared.signature.Param.{Param}
use Rattle.pt_tree.specs.declared.signature.ParamKind.{ParamKind}
use Rattle.pt_tree.specs.declared.signature.ParamKind.TheVariants as k
use Rattle.pt_tree.specs.declared.signature.Signature.{Signature}
use Rattle.pt_tree.specs.Facts.{body_sound}
use Rattle.pt_tree.specs.ProgramTree.{ItemTree, ParamTree, function}
use Rattle.pt_tree.specs.ProgramTree as parsed
use Rattle.pt_tree.specs.StatementTree.{BlockTree}
use Rattle.type_rules.specs.declared.types.Type.{«Type»}
use Rattle.type_rules.specs.declared.types.Type.TheVariants as ty
use Rattle.typed_tree.specs.declared.variable.TypedGlobal.{TypedGlobal}
use Rattle.typed_tree.specs.declared.variable.Var.{Var}
use Rattle.typed_tree.specs.StatementTree.{BodyTree, block, body_trees}
use Rattle.typed_tree.specs.TypedTree.{FunctionTree}
use Rattle.check_declarations.specs.declared.fault.FaultKind.TheVariants.{Redeclared, TooLarge}
use Rattle.check_declarations.specs.declared.fault.TypeFault.{TypeFault}
use Rattle.check_declarations.specs.declared.marks.Carrier.TheVariants as carrier
use Rattle.check_declarations.specs.declared.marks.Marks.{Marks}
use Rattle.check_declarations.specs.Faults.{fault_if}
use Rattle.check_declarations.specs.Marks.{marks_of, mark_faults}
use Rattle.check_declarations.specs.Objects.{result_faults}
use Rattle.check_declarations.specs.Specifiers.{specified}
use Rattle.check_declarations.specs.Structs.{Structs}
use Rattle.check_expressions.specs.declared.meaning.Callable.{Callable}
use Rattle.check_expressions.specs.declared.meaning.Meaning.{Meaning}
use Rattle.check_expressions.specs.declared.meaning.Meaning.TheVariants.{Function, Global, Local}
use Rattle.check_expressions.specs.declared.meaning.Object.{Object}
use Rattle.check_expressions.specs.declared.meaning.Variable.{Variable}
use Rattle.check_expressions.specs.Environment.{Env, Scope, find_in, opened}
use Rattle.check_expressions.specs.Operands.{var_type}
use Rattle.type_law.specs.DeclarationsTypes.{is_parameter, is_result}
use Rattle.type_law.specs.DeclarationsLaws.{SpecifiersAreSound, ObjectsAreSound, ResultsAreSound}
use Rattle.type_law.proofs.DeclarationsFaultLemmas.{no_fault}
use Rattle.type_law.specs.ExpressionsAgreement.{taken, HasCallable}
use Rattle.type_law.specs.StatementsLaws.{BlocksAreKept, BodiesAreSound}
use Rattle.check_programs.specs.declared.function_marks.FunctionMarks.{FunctionMarks}
use Rattle.check_programs.specs.Blocks.{block_in}
use Rattle.check_programs.specs.Functions.{Head, head_of, result_of, params_of_function, params_of, signature_of, entry_of, var_of, kind_of, clashes, function_in, number_in, declared_as, is_start, are_too_large, with_parts, with_body, with_definition, completed, checked_function}
use Rattle.check_programs.specs.Parameters.{parameters_of, declared_one, declared_all}
use Rattle.check_programs.specs.Progress.{Progress}
use Rattle.check_programs.specs.Unions.{own_marks, marks_at, params_marks}
use Rattle.type_law.proofs.ProgramsListLemmas.{get_pushed, get_unmapped, get_set}
use Rattle.type_law.proofs.ProgramsTableLemmas.{sought}
use Rattle.type_law.proofs.ProgramsSound.{signatures, SoundTables, SoundProgress, tables_moved}
use Rattle.type_law.proofs.ProgramsParameters.{SoundParams}
use Rattle.type_law.proofs.ProgramsHeads.{SoundHead, sound_head}
use Rattle.type_law.proofs.ProgramsOpened.{Opened, old_opened, new_opened, find_is, some_same}
use Rattle.type_law.proofs.ProgramsBodies.{signatures_set, here}
use Rattle.type_law.proofs.ProgramsFunctions.{rebased}
use Rattle.half_names_law.specs.Declarable.{is_mutable}
use Rattle.half_texts_law.proofs.DeclarationsStands.{function_declassified}
use Rattle.half_texts_law.proofs.DeclarationsTags.{Structured, specified_apart}
use Rattle.half_texts_law.proofs.DeclarationsUnions.{May, MutableAt, Good, written_may}
use Rattle.half_texts_law.proofs.DeclarationsParameters.{is_mutable_type, MutableVariable, params_may, PlacedUnpriv, params_unpriv}

-- the entry of a function has the marks that all declarations give it
pub record EntryMarked (marks : List ℕ → FunctionMarks) (e : FunctionTree) : Type 0 where
  pub privileged : e.signature.privileged ≡ (marks e.signature.name).privileged
  pub declassify : e.signature.declassify ≡ (marks e.signature.name).declassify
  pub params_declassify : (j : ℕ) (q : Param) → slice_get e.signature.params j ≡ Some q → q.declassify ≡ (marks_at (marks e.signature.name).params j).declassify
  pub params_unpriv : (j : ℕ) (x : Var) → j < length e.signature.params → slice_get e.vars j ≡ Some x → x.unpriv ≡ (marks_at (marks e.signature.name).params j).unpriv

abbrev pub EntriesMarked : (List ℕ → FunctionMarks) → List FunctionTree → Type 0
EntriesMarked marks fs = (k : ℕ) (e : FunctionTree) → slice_get fs k ≡ Some e → EntryMarked marks e

-- a declaration of the function of this name, whose entry is among these
pub record DeclaredIn (marks : List ℕ → FunctionMarks) (fs : List FunctionTree) (name : List ℕ) (d : parsed.FunctionTree) : Type 0 where
  pub number : ℕ
  pub signature : Signature
  pub there : slice_get (signatures fs) number ≡ Some signature
  pub named : signature.name ≡ name
  pub good : Good (marks name).privileged signature.params d

pub record Stepped (marks : List ℕ → FunctionMarks) (st st' : Progress) (f : parsed.FunctionTree) : Type 0 where
  pub structs : Structured st.structs → Structured st'.structs
  pub kept : (k : ℕ) (s : Signature) → slice_get (signatures st.functions) k ≡ Some s → slice_get (signatures st'.functions) k ≡ Some s
  pub entries : EntriesMarked marks st.functions → EntriesMarked marks st'.functions
  pub globals : st'.globals ≡ st.globals
  pub is : DeclaredIn marks st'.functions f.declarator.name.bytes f

-- ---- the declarator

pub params_structured : (own : FunctionMarks) (defines : Bool) (env : Env) (structs : Structs) (ps : List ParamTree) → Structured structs → Structured (declared_all own defines env structs ps).structs
params_structured own defines env structs [] h = h
params_structured own defines env structs (p ∷ ps) h = let one = declared_one own defines env structs p in params_structured own defines one.env one.structs ps (specified_apart false structs p.specs h)

pub record HeadMarked (own : FunctionMarks) (st : Progress) (f : parsed.FunctionTree) (h : Head) : Type 0 where
  pub structs : Structured st.structs → Structured h.structs
  pub unpriv : PlacedUnpriv own h.env.variables
  pub declassify : (own_marks f.specs).declassify ≡ true → own.privileged ≡ true
  pub params_are : (j : ℕ) (m : Marks) → slice_get (params_marks (parameters_of f.params)) j ≡ Some m → May own.privileged (MutableVariable h.env.variables j) m

head_marked : (own : FunctionMarks) (st : Progress) (f : parsed.FunctionTree) (n : ℕ) → st.env.variables ≡ [] → (head_of own st.env st.structs f).faults ≡ []
    → IsTrue (list_all (is_parameter n) (map (λ x. x.ty) (head_of own st.env st.structs f).env.variables)) → HeadMarked own st f (head_of own st.env st.structs f)
unfolding head_of
head_marked own st f n variables none types =
    let d = f.declarator in
    let r = result_of own.privileged st.structs f in
    let ps = params_of_function own st.env r.structs f in
    let j = specified true st.structs f.specs in
    let wrong = result_faults j.given d.pointer d.suffix d.name.span in
    let marked = mark_faults (carrier.Function own.privileged) j.given.attributes in
    let none_r = append_nil_first r.faults ps.faults none in
    let none_marks = append_nil_second (j.faults ++ wrong) marked none_r in
    let none_ps = append_nil_second r.faults ps.faults none in
    record {
      structs = λ h. params_structured own (is_some f.body) (opened st.env) j.structs (parameters_of f.params) (specified_apart true st.structs f.specs h);
      unpriv = params_unpriv own (is_some f.body) (opened st.env) j.structs (parameters_of f.params) (λ i x h. let none = ap (λ xs. slice_get xs i) variables in cc);
      declassify = function_declassified own.privileged j.given.attributes none_marks;
      params_are = λ i m h.
          let at : length st.env.variables + i ≡ i = let e = ap length variables in omega (arith, e) in
          subst (λ k. May own.privileged (MutableVariable ps.env.variables k) m) at (params_may own (is_some f.body) n (opened st.env) j.structs (parameters_of f.params) none_ps types i m h);
    }

-- ---- a function whose scope is open

taken_mutable : (q : Param) (x : «Type») → taken q ≡ var_type x → is_mutable_type x ≡ true → is_mutable q.kind ≡ true
unfolding var_type
taken_mutable q ty.Bad e h = cc
taken_mutable q ty.Void e h = cc
taken_mutable q (ty.Int t) e h = cc
taken_mutable q (ty.Struct n) e h = cc
taken_mutable q (ty.Array d n) e h = cc
taken_mutable q (ty.Pointer d fixed) e h = go q.kind (e) h
  where
    go : (kind : ParamKind) → taken (record q { kind = kind }) ≡ var_type (ty.Pointer d fixed) → not fixed ≡ true → is_mutable kind ≡ true
    go (k.Int t) e h = cc
    go (k.Ptr c const) e h = let same : const ≡ fixed = cc in ap not same ∙ h

params_mutable : (params : List Param) (types : List «Type») (variables : List Variable) → map taken params ≡ map var_type types → types ≡ map (λ x. x.ty) variables → (j : ℕ) → MutableVariable variables j → MutableAt params j
params_mutable params types variables takes are j h q at =
    let there : slice_get (map var_type types) j ≡ Some (taken q) = ap (λ xs. slice_get xs j) (sym takes) ∙ get_mapped taken params j q at in
    let one = get_unmapped var_type types j (taken q) there in
    let two = get_unmapped (λ (x : Variable). x.ty) variables j one.0 (ap (λ xs. slice_get xs j) (sym are) ∙ one.1) in
    taken_mutable q one.0 one.2 (ap is_mutable_type two.2 ∙ h two.0 two.1)

good_declaration : (own : FunctionMarks) (st : Progress) (f : parsed.FunctionTree) (h : Head) (params : List Param) (types : List «Type») → HeadMarked own st f h → map taken params ≡ map var_type types → types ≡ map (λ x. x.ty) h.env.variables → Good own.privileged params f
good_declaration own st f h params types m takes are = record {
  own = m.declassify;
  params_may = written_may own.privileged (MutableAt params) f.params (λ j z i.
      let may = m.params_are j z i in
      record { declassify = λ d. let both = may.declassify d in (both.0, params_mutable params types h.env.variables takes are j both.1); unpriv = may.unpriv });
}

params_declassified : (ms : List Marks) (n : ℕ) (xs : List «Type») (j : ℕ) (q : Param) → slice_get (params_of ms n xs) j ≡ Some q → q.declassify ≡ (marks_at ms (n + j)).declassify
params_declassified ms n [] j q h = cc
params_declassified ms n (x ∷ xs) zero q h = let one : (record { kind = kind_of x; marked = (marks_at ms n).marked; declassify = (marks_at ms n).declassify }) ≡ q = cc in ap (λ (z : Param). z.declassify) (sym one) ∙ ap (λ i. (marks_at ms i).declassify) (let e : n ≡ n + 0 = omega arith in e)
params_declassified ms n (x ∷ xs) (suc j) q h = params_declassified ms (n + 1) xs j q h ∙ ap (λ i. (marks_at ms i).declassify) (let e : (n + 1) + j ≡ n + suc j = omega arith in e)

-- the first of a function's variables are its parameters
first_unpriv : (own : FunctionMarks) (variables new : List Variable) → PlacedUnpriv own variables → (j : ℕ) (x : Var) → j < length variables → slice_get (map var_of (variables ++ new)) j ≡ Some x → x.unpriv ≡ (marks_at own.params j).unpriv
first_unpriv own variables new placed j x less h =
    let one = get_there variables j less in
    let there = get_mapped var_of (variables ++ new) j one.0 (get_kept variables new j one.0 one.1) in
    let same : var_of one.0 ≡ x = some_same (var_of one.0) x (slice_get (map var_of (variables ++ new)) j) there h in
    ap (λ (z : Var). z.unpriv) (sym same) ∙ placed j one.0 one.1

-- ---- the function is known

-- behind the declarator
pub record Stage (marks : List ℕ → FunctionMarks) (rest : List ItemTree) (own : FunctionMarks) (defining : Bool) (before st : Progress) (c : Callable) (k : ℕ) : Type 0 where
  pub opened : Opened marks rest own defining st c k
  pub kept : (j : ℕ) (s : Signature) → slice_get (signatures before.functions) j ≡ Some s → slice_get (signatures st.functions) j ≡ Some s
  pub entries : EntriesMarked marks before.functions → EntriesMarked marks st.functions
  pub structs : st.structs ≡ before.structs
  pub globals : st.globals ≡ before.globals
  pub variables : st.env.variables ≡ before.env.variables

module _ (bodies : BodiesAreSound) (keep : BlocksAreKept) (marks : List ℕ → FunctionMarks) (f : parsed.FunctionTree) (rest : List ItemTree) (own : FunctionMarks) (st : Progress) (c : Callable)
    (t : SoundTables marks (function f ∷ rest) st) (params : SoundParams own st.env (length st.structs) st.env) (result : IsTrue (is_result c.result)) (types : c.params ≡ map (λ x. x.ty) st.env.variables)
    (name : c.name ≡ f.declarator.name.bytes) (own_is : marks c.name ≡ own) (short : IsTrue (is_short c.name)) (constants : IsTrue (body_sound f.body)) (placed : PlacedUnpriv own st.env.variables) where
  abbrev at : Span
  at = f.declarator.name.span

  first : FunctionTree
  first = entry_of own c st.env.variables at

  first_marked : EntryMarked marks (entry_of own c st.env.variables at)
  first_marked = record {
    privileged = ap (λ m. m.privileged) (sym own_is);
    declassify = ap (λ m. m.declassify) (sym own_is);
    params_declassify = λ j q h. params_declassified own.params 0 c.params j q h ∙ ap (λ i. (marks_at own.params i).declassify) (let e : 0 + j ≡ j = omega arith in e) ∙ ap (λ m. (marks_at m.params j).declassify) (sym own_is);
    params_unpriv = λ j x less h.
        let one = get_unmapped var_of st.env.variables j x h in
        ap (λ (z : Var). z.unpriv) one.2 ∙ placed j one.0 one.1 ∙ ap (λ m. (marks_at m.params j).unpriv) (sym own_is);
  }

  stage : (o : Option Meaning) → sought st.env.file c.name ≡ o → clashes st c (is_some f.body) o ≡ false
      → Stage marks (function f ∷ rest) own (is_some f.body) st (declared_as own st c at (function_in o)) c (number_in st (function_in o))
  stage None is fine = record {
    opened = new_opened marks (function f ∷ rest) own (is_some f.body) st c at t params result types own_is short is;
    kept = λ j s h. ap (λ ss. slice_get ss j) (map_append (λ (g : FunctionTree). g.signature) st.functions (entry_of own c st.env.variables at ∷ [])) ∙ get_kept (signatures st.functions) ((entry_of own c st.env.variables at).signature ∷ []) j s h;
    entries = λ before j e h. elim (get_pushed st.functions (entry_of own c st.env.variables at) j e h) [ inl i ↦ before j e i | inr i ↦ subst (λ z. EntryMarked marks z) (sym i.is) first_marked ];
    structs = refl;
    globals = refl;
    variables = refl;
  }
  stage (Some (Function k)) is fine = record {
    opened = old_opened marks (function f ∷ rest) own (is_some f.body) st c k t params result types is fine;
    kept = λ j s h. h;
    entries = λ before. before;
    structs = refl;
    globals = refl;
    variables = refl;
  }
  stage (Some (Global g)) is fine = cc
  stage (Some (Local v)) is fine = cc

  -- behind the whole item
  pub record Ended (after : Progress) (k : ℕ) : Type 0 where
    pub kept : (j : ℕ) (s : Signature) → slice_get (signatures st.functions) j ≡ Some s → slice_get (signatures after.functions) j ≡ Some s
    pub entries : EntriesMarked marks st.functions → EntriesMarked marks after.functions
    pub structs : after.structs ≡ st.structs
    pub globals : after.globals ≡ st.globals
    pub signature : Signature
    pub there : slice_get (signatures after.functions) k ≡ Some signature
    pub named : signature.name ≡ c.name
    pub takes : map taken signature.params ≡ map var_type c.params

  ended : (st' : Progress) (k : ℕ) → Stage marks (function f ∷ rest) own (is_some f.body) st st' c k → (b : Option BlockTree) → f.body ≡ b → (with_definition st' k c.result at b).faults ≡ []
      → Ended (with_definition st' k c.result at b).progress k
  unfolding block_in
  ended st' k s None is none = record {
    kept = s.kept;
    entries = s.entries;
    structs = s.structs;
    globals = s.globals;
    signature = s.opened.called.signature;
    there = s.opened.called.is;
    named = s.opened.called.name;
    takes = s.opened.called.takes;
  }
  ended st' k s (Some b) is none =
      let all = block_in c.result st'.env st'.structs (length st'.exprs) b.items in
      let fine = append_nil_first all.faults (fault_if (are_too_large all.state.structs all.state.env.variables) TooLarge at) none in
      let sound : IsTrue (body_sound (Some b)) = subst (λ x. IsTrue (body_sound x)) is constants in
      let o = s.opened in
      let body = here bodies keep marks f rest own st' c k b o name own_is is sound fine in
      let kept = keep c.result (record { env = st'.env; structs = st'.structs; next = length st'.exprs }) b.items in
      let vars : List Var = map var_of all.state.env.variables in
      let given : FunctionTree = with_parts o.entry at vars (block b.span (body_trees all.bodies)) in
      let set : with_body st'.functions k at vars (block b.span (body_trees all.bodies)) ≡ slice_set st'.functions k given =
      ap (λ x. option_map_or (λ e. slice_set st'.functions k (with_parts e at vars (block b.span (body_trees all.bodies)))) x st'.functions) o.is in
      let same : signatures (with_body st'.functions k at vars (block b.span (body_trees all.bodies))) ≡ signatures st'.functions =
      ap signatures set ∙ signatures_set st'.functions k o.entry given o.is refl in
      let entry_signature : o.entry.signature ≡ o.called.signature =
      some_same o.entry.signature o.called.signature (slice_get (signatures st'.functions) k) (get_mapped (λ (g : FunctionTree). g.signature) st'.functions k o.entry o.is) o.called.is in
      let own_marks' : marks o.entry.signature.name ≡ own = ap (λ s. marks s.name) entry_signature ∙ ap marks o.called.name ∙ own_is in
      let count : length o.entry.signature.params ≡ length st'.env.variables =
      sym (length_map taken o.entry.signature.params) ∙ ap length (ap (λ s. map taken s.params) entry_signature ∙ o.called.takes ∙ ap (map var_type) o.types)
      ∙ length_map var_type (map (λ x. x.ty) st'.env.variables) ∙ length_map (λ (x : Variable). x.ty) st'.env.variables in
      let placed' : PlacedUnpriv own st'.env.variables = subst (λ xs. PlacedUnpriv own xs) (sym s.variables) placed in
      let given_marked : EntryMarked marks o.entry → EntryMarked marks given = λ e. record {
        privileged = e.privileged;
        declassify = e.declassify;
        params_declassify = e.params_declassify;
        params_unpriv = λ j x less h.
            first_unpriv own st'.env.variables kept.new placed' j x (let i : j < length o.entry.signature.params = less in omega (arith, i, count)) (ap (λ xs. slice_get (map var_of xs) j) (sym kept.variables) ∙ h)
            ∙ ap (λ m. (marks_at m.params j).unpriv) (sym own_marks');
      } in
      record {
        kept = λ j x h. ap (λ ss. slice_get ss j) same ∙ s.kept j x h;
        entries = λ before j e h.
            let now = s.entries before in
            elim (get_set st'.functions k j given e (ap (λ fs. slice_get fs j) (sym set) ∙ h)) [ inl i ↦ now j e i.is | inr i ↦ subst (λ z. EntryMarked marks z) (sym i.is) (given_marked (now k o.entry o.is)) ];
        structs = body.structs ∙ s.structs;
        globals = s.globals;
        signature = o.called.signature;
        there = ap (λ ss. slice_get ss k) same ∙ o.called.is;
        named = o.called.name;
        takes = o.called.takes;
      }

  by_meaning : (o : Option Meaning) → sought st.env.file c.name ≡ o
      → (fault_if (clashes st c (is_some f.body) o) Redeclared at ++ (with_definition (declared_as own st c at (function_in o)) (number_in st (function_in o)) c.result at f.body).faults) ≡ []
      → (k : ℕ) × Ended (with_definition (declared_as own st c at (function_in o)) (number_in st (function_in o)) c.result at f.body).progress k
  by_meaning o is none =
      let own_faults = fault_if (clashes st c (is_some f.body) o) Redeclared at in
      let others = (with_definition (declared_as own st c at (function_in o)) (number_in st (function_in o)) c.result at f.body).faults in (
        number_in st (function_in o),
        ended (declared_as own st c at (function_in o)) (number_in st (function_in o))
            (stage o is (no_fault (clashes st c (is_some f.body) o) Redeclared at (append_nil_first own_faults others none))) f.body refl (append_nil_second own_faults others none),
      )

  pub completed_ends : (completed own st c f).faults ≡ [] → (k : ℕ) × Ended (completed own st c f).progress k
  unfolding completed
  completed_ends none = by_meaning (find_in st.env.file c.name) (sym (find_is st.env.file c.name)) none

-- ---- the whole item

-- the names of the file are those before the parameters
abbrev env_with : Env → Scope → List Callable → List Object → Env
env_with e file callables objects = record { file = file; functions = callables; globals = objects; scopes = e.scopes; variables = e.variables }

env_is : (e : Env) (file : Scope) (callables : List Callable) (objects : List Object) → e.file ≡ file → e.functions ≡ callables → e.globals ≡ objects → env_with e file callables objects ≡ e
env_is e file callables objects f g h =
    ap (λ x. env_with e x callables objects) (sym f)
    ∙ ap (λ x. env_with e e.file x objects) (sym g)
    ∙ ap (λ x. env_with e e.file e.functions x) (sym h)

abbrev behind_head : Progress → Head → Bool → Env → Progress
behind_head st h begins env = record { env = env; structs = h.structs; functions = st.functions; globals = st.globals; cells = st.cells; exprs = st.exprs; has_main = begins }

pub function_stepped : SpecifiersAreSound → ObjectsAreSound → ResultsAreSound → BodiesAreSound → BlocksAreKept → (marks : List ℕ → FunctionMarks) (f : parsed.FunctionTree) (rest : List ItemTree) (st : Progress)
    → SoundProgress marks (function f ∷ rest) st → IsTrue (is_short f.declarator.name.bytes) → IsTrue (body_sound f.body) → (checked_function (marks f.declarator.name.bytes) st f).faults ≡ []
    → Stepped marks st (checked_function (marks f.declarator.name.bytes) st f).progress f
function_stepped specifiers objects results bodies keep marks f rest st s short constants none =
    let own = marks f.declarator.name.bytes in
    let h : Head = head_of own st.env st.structs f in
    let begins : Bool = is_start h.callable (is_some f.body) || st.has_main in
    let after : Progress = behind_head st h begins h.env in
    let last : List TypeFault = (completed own after h.callable f).faults in
    let none_head = append_nil_first h.faults last none in
    let head = sound_head specifiers objects results own st f s.tables.structs s.scopes s.variables none_head in
    let marked = head_marked own st f (length h.structs) s.variables none_head head.params.types in
    let tables : SoundTables marks (function f ∷ rest) after =
    subst (λ env. SoundTables marks (function f ∷ rest) (behind_head st h begins env)) (env_is h.env st.env.file st.env.functions st.env.globals head.params.file head.params.functions head.params.globals)
    (tables_moved marks (function f ∷ rest) (function f ∷ rest) st h.env.scopes h.env.variables h.structs head.more begins head.grown head.sound (λ n. refl) s.tables) in
    let end = completed_ends bodies keep marks f rest own after h.callable tables (rebased own st.env (length h.structs) h.env head.params) head.result head.types head.name (ap marks head.name) (subst (λ n. IsTrue (is_short n)) (sym head.name) short) constants marked.unpriv (append_nil_second h.faults last none) in
    record {
      structs = λ i. subst (λ x. Structured x) (sym end.1.structs) (marked.structs i);
      kept = end.1.kept;
      entries = end.1.entries;
      globals = end.1.globals;
      is = record {
        number = end.0;
        signature = end.1.signature;
        there = end.1.there;
        named = end.1.named ∙ head.name;
        good = good_declaration own st f h end.1.signature.params h.callable.params marked end.1.takes head.types;
      };
    }
