-- The items of a program without a fault: its tree has the marks that its declarations give, where they may stand.
use Rattle.std.proofs.Common.{◌≡◌, ◌++◌, ◌∙◌, sym, ap, subst, refl, ℕ, zero, suc, Bool, true, false, List, [], ◌∷◌, length, arith, map, fold, not, if◌then◌else◌, Option, Some, None, inl, inr, take, cond}
use Rattle.std.specs.Prelude.{IsTrue, ◌&&◌, ◌||◌, slice_get, ◌<◌, ◌+◌}
use Rattle.std.specs.List.{list_all, list_any}
use Rattle.std.specs.Str.{bytes_eq}
use Rattle.std.proofs.lemmas.Bool.{and_from}
use Rattle.pt_base.proofs.Booleans.{both_hold, both_hold_first, both_hold_second}
use Rattle.pt_base.proofs.Lists.{append_nil_first, append_nil_second, bytes_eq_same}
use Rattle.pt_base.proofs.Members.{all_hold_append}
use Rattle.pt_tree.specs.declared.signature.Param.{Param}
use Rattle.pt_tree.specs.declared.signature.Signature.{Signature}
use Rattle.pt_tree.specs.Facts.{specs_sound, word_sound, suffix_sound, declarator_sound, params_sound, body_sound, item_sound, items_sound}
use Rattle.pt_tree.specs.ProgramTree.{ItemTree, declares, function}
use Rattle.pt_tree.specs.ProgramTree as parsed
use Rattle.pt_tree.specs.StatementTree.{InitDeclaratorTree, DeclarationTree}
use Rattle.typed_tree.specs.declared.variable.TypedGlobal.{TypedGlobal}
use Rattle.typed_tree.specs.declared.variable.Var.{Var}
use Rattle.typed_tree.specs.TypedTree.{FunctionTree}
use Rattle.check_declarations.specs.declared.fault.TypeFault.{TypeFault}
use Rattle.check_declarations.specs.declared.specifiers.Specified.{Specified}
use Rattle.check_declarations.specs.Marks.{marks_of, mark_faults}
use Rattle.check_declarations.specs.Specifiers.{specified}
use Rattle.check_declarations.specs.Structs.{Structs}
use Rattle.type_law.specs.DeclarationsTypes.{is_base}
use Rattle.type_law.specs.DeclarationsLaws.{SpecifiersAreSound, ObjectsAreSound, SizesAreSound, LeavesAreSound}
use Rattle.check_expressions.specs.declared.meaning.Meaning.{Meaning}
use Rattle.check_expressions.specs.declared.meaning.Meaning.TheVariants.{Function, Global, Local}
use Rattle.check_expressions.specs.StructInfos.{infos_of}
use Rattle.check_programs.specs.declared.function_marks.FunctionMarks.{FunctionMarks}
use Rattle.check_programs.specs.Functions.{Checked}
use Rattle.check_programs.specs.Globals.{declared_one, declared_all, global_carrier, checked_declaration}
use Rattle.check_programs.specs.Programs.{checked_item, checked_items, function_name, tree_of, nowhere, main_faults, checked_program, type_faults}
use Rattle.check_programs.specs.Progress.{Progress, at_start}
use Rattle.check_programs.specs.Unions.{declarations_of, undeclared, function_marks, marks_at, with_declaration}
use Rattle.type_law.proofs.ProgramsListLemmas.{all_of, get_unmapped}
use Rattle.type_law.proofs.ProgramsOpened.{some_same}
use Rattle.type_law.proofs.ProgramsTableLemmas.{sought}
use Rattle.type_law.proofs.ProgramsSound.{signatures, SoundProgress, SoundTables, tables_moved}
use Rattle.type_law.proofs.ProgramsGlobals.{all_globals}
use Rattle.type_law.proofs.ProgramLemmas.{Laws, item_step, begun}
use Rattle.half_names_law.specs.Declarable.{is_mutable, param_marked, signature_marked, variable_marked}
use Rattle.half_texts_law.specs.DeclarationsTrees.{parameters_plain, Marked}
use Rattle.half_texts_law.proofs.DeclarationsStands.{global_marked}
use Rattle.half_texts_law.proofs.DeclarationsTags.{Structured, specified_apart, tags_apart, all_fields_apart}
use Rattle.half_texts_law.proofs.DeclarationsUnions.{May, MutableAt, Good, Goods, Fine, fine_all, fine_none}
use Rattle.half_texts_law.proofs.DeclarationsFunctions.{EntryMarked, EntriesMarked, DeclaredIn, Stepped, function_stepped}

abbrev global_fine : TypedGlobal → Bool
global_fine g = variable_marked g.var

-- what is kept of the items so far
pub record Walked (marks : List ℕ → FunctionMarks) (st : Progress) : Type 0 where
  pub structs : Structured st.structs
  pub entries : EntriesMarked marks st.functions
  pub globals : IsTrue (list_all global_fine st.globals)

-- ---- declarations

globals_fine : (given : Specified) (st : Progress) (ds : List InitDeclaratorTree) → IsTrue (not ((marks_of given.attributes).marked && (marks_of given.attributes).unpriv))
    → IsTrue (list_all global_fine st.globals) → IsTrue (list_all global_fine (declared_all given st ds).progress.globals)
globals_fine given st [] fine h = h
globals_fine given st (d ∷ ds) fine h =
    globals_fine given (declared_one given st d).progress ds fine (all_hold_append global_fine st.globals _ h (both_hold (not ((marks_of given.attributes).marked && (marks_of given.attributes).unpriv)) true fine refl))

-- ---- one item

-- each function's declarations are those of an entry
abbrev pub DeclaredAll : (List ℕ → FunctionMarks) → List FunctionTree → List ℕ → List parsed.FunctionTree → Type 0
DeclaredAll marks fs name [] = Unit {0}
DeclaredAll marks fs name (d ∷ ds) = DeclaredIn marks fs name d × DeclaredAll marks fs name ds

pub record Progressed (marks : List ℕ → FunctionMarks) (items : List ItemTree) (st st' : Progress) : Type 0 where
  pub walked : Walked marks st → Walked marks st'
  pub kept : (k : ℕ) (s : Signature) → slice_get (signatures st.functions) k ≡ Some s → slice_get (signatures st'.functions) k ≡ Some s
  pub declared : (name : List ℕ) → DeclaredAll marks st'.functions name (declarations_of items name)

declared_kept : (marks : List ℕ → FunctionMarks) (fs gs : List FunctionTree) (name : List ℕ) (ds : List parsed.FunctionTree) → ((k : ℕ) (s : Signature) → slice_get (signatures fs) k ≡ Some s → slice_get (signatures gs) k ≡ Some s) → DeclaredAll marks fs name ds → DeclaredAll marks gs name ds
declared_kept marks fs gs name [] kept h = h
declared_kept marks fs gs name (d ∷ ds) kept h =
    let one = h.0 in
    (record { number = one.number; signature = one.signature; there = kept one.number one.signature one.there; named = one.named; good = one.good }, declared_kept marks fs gs name ds kept h.1)

declaration_walked : Laws → (marks : List ℕ → FunctionMarks) (d : DeclarationTree) (rest : List ItemTree) (st : Progress) → SoundProgress marks (declares d ∷ rest) st → (checked_declaration st d).faults ≡ []
    → Progressed marks (declares d ∷ []) st (checked_declaration st d).progress
declaration_walked laws marks d rest st s none =
    let j = specified true st.structs d.specs in
    let own = mark_faults (global_carrier d.declarators) j.given.attributes in
    let all : Checked = declared_all j.given (record st { structs = j.structs }) d.declarators in
    let none_two = append_nil_first (j.faults ++ own) all.faults none in
    let judged = laws.specifiers true st.structs d.specs s.tables.structs (append_nil_first j.faults own none_two) in
    let tables = tables_moved marks (declares d ∷ rest) rest st st.env.scopes st.env.variables j.structs judged.more st.has_main judged.grown judged.sound (λ n. refl) s.tables in
    let step = all_globals laws.objects laws.sizes laws.leaves marks rest j.given (record st { structs = j.structs }) d.declarators tables judged.base (append_nil_second (j.faults ++ own) all.faults none) in
    record {
      walked = λ w. record {
        structs = subst (λ x. Structured x) (sym step.structs) (specified_apart true st.structs d.specs w.structs);
        entries = subst (λ fs. EntriesMarked marks fs) (sym step.functions) w.entries;
        globals = globals_of j.given d.declarators (append_nil_second j.faults own none_two) w.globals;
      };
      kept = λ k x h. ap (λ fs. slice_get (signatures fs) k) step.functions ∙ h;
      declared = λ name. tt {0};
    }
  where
    globals_of : (given : Specified) (ds : List InitDeclaratorTree) → mark_faults (global_carrier ds) given.attributes ≡ [] → IsTrue (list_all global_fine st.globals)
        → IsTrue (list_all global_fine (declared_all given (record st { structs = (specified true st.structs d.specs).structs }) ds).progress.globals)
    globals_of given [] h i = i
    globals_of given (x ∷ xs) h i = globals_fine given (record st { structs = (specified true st.structs d.specs).structs }) (x ∷ xs) (global_marked given.attributes h) i

function_walked : Laws → (marks : List ℕ → FunctionMarks) (f : parsed.FunctionTree) (rest : List ItemTree) (st : Progress) → SoundProgress marks (function f ∷ rest) st → IsTrue (item_sound (function f))
    → (checked_item (marks (function_name (function f))) st (function f)).faults ≡ [] → Progressed marks (function f ∷ []) st (checked_item (marks (function_name (function f))) st (function f)).progress
function_walked laws marks f rest st s constants none =
    let outer = both_hold_first (specs_sound f.specs && declarator_sound f.declarator) (params_sound f.params && body_sound f.body) constants in
    let inner = both_hold_second (specs_sound f.specs && declarator_sound f.declarator) (params_sound f.params && body_sound f.body) constants in
    let short = both_hold_first (word_sound f.declarator.name) (suffix_sound f.declarator.suffix) (both_hold_second (specs_sound f.specs) (declarator_sound f.declarator) outer) in
    let step = function_stepped laws.specifiers laws.objects laws.results laws.bodies laws.kept marks f rest st s short (both_hold_second (params_sound f.params) (body_sound f.body) inner) none in
    record {
      walked = λ w. record { structs = step.structs w.structs; entries = step.entries w.entries; globals = subst (λ gs. IsTrue (list_all global_fine gs)) (sym step.globals) w.globals };
      kept = step.kept;
      declared = λ name. go name (bytes_eq f.declarator.name.bytes name) refl step.is;
    }
  where
    go : (name : List ℕ) (b : Bool) → bytes_eq f.declarator.name.bytes name ≡ b → DeclaredIn marks (checked_item (marks (function_name (function f))) st (function f)).progress.functions f.declarator.name.bytes f
        → DeclaredAll marks (checked_item (marks (function_name (function f))) st (function f)).progress.functions name (if b then f ∷ [] else [])
    go name true e is = (subst (λ n. DeclaredIn marks (checked_item (marks (function_name (function f))) st (function f)).progress.functions n f) (bytes_eq_same f.declarator.name.bytes name e) is, tt {0})
    go name false e is = tt {0}

item_walked : Laws → (marks : List ℕ → FunctionMarks) (item : ItemTree) (rest : List ItemTree) (st : Progress) → SoundProgress marks (item ∷ rest) st → IsTrue (item_sound item)
    → (checked_item (marks (function_name item)) st item).faults ≡ [] → Progressed marks (item ∷ []) st (checked_item (marks (function_name item)) st item).progress
item_walked laws marks (declares d) rest st s constants none = declaration_walked laws marks d rest st s none
item_walked laws marks (function f) rest st s constants none = function_walked laws marks f rest st s constants none

-- ---- all items

first_and_rest : (marks : List ℕ → FunctionMarks) (fs : List FunctionTree) (name : List ℕ) (item : ItemTree) (items : List ItemTree) → DeclaredAll marks fs name (declarations_of (item ∷ []) name) → DeclaredAll marks fs name (declarations_of items name)
    → DeclaredAll marks fs name (declarations_of (item ∷ items) name)
first_and_rest marks fs name (declares d) items h i = i
first_and_rest marks fs name (function f) items h i = go (bytes_eq f.declarator.name.bytes name) h
  where
    go : (b : Bool) → DeclaredAll marks fs name (if b then f ∷ [] else []) → DeclaredAll marks fs name (if b then f ∷ declarations_of items name else declarations_of items name)
    go true h = (h.0, i)
    go false h = i

-- the walk, and that its end is sound
record Through (marks : List ℕ → FunctionMarks) (items : List ItemTree) (st st' : Progress) : Type 0 where
  progressed : Progressed marks items st st'
  sound : SoundProgress marks [] st'

all_through : Laws → (marks : List ℕ → FunctionMarks) (items : List ItemTree) (st : Progress) → SoundProgress marks items st → IsTrue (items_sound items)
    → (checked_items marks st items).faults ≡ [] → Through marks items st (checked_items marks st items).progress
all_through laws marks [] st s constants none = record { progressed = record { walked = λ w. w; kept = λ k x h. h; declared = λ name. tt {0} }; sound = s }
all_through laws marks (item ∷ items) st s constants none =
    let one : Checked = checked_item (marks (function_name item)) st item in
    let more : Checked = checked_items marks one.progress items in
    let sound = both_hold_first (item_sound item) (items_sound items) constants in
    let none_one = append_nil_first one.faults more.faults none in
    let step = item_walked laws marks item items st s sound none_one in
    let next = item_step laws marks item items st s sound none_one in
    let rest = all_through laws marks items one.progress next (both_hold_second (item_sound item) (items_sound items) constants) (append_nil_second one.faults more.faults none) in
    record {
      progressed = record {
        walked = λ w. rest.progressed.walked (step.walked w);
        kept = λ k x h. rest.progressed.kept k x (step.kept k x h);
        declared = λ name. first_and_rest marks more.progress.functions name item items
            (declared_kept marks one.progress.functions more.progress.functions name (declarations_of (item ∷ []) name) rest.progressed.kept (step.declared name))
            (rest.progressed.declared name);
      };
      sound = rest.sound;
    }

-- ---- the tree

-- the number that a meaning has
abbrev number_of : Meaning → ℕ
number_of (Function x) = x.0
number_of (Global x) = x.0
number_of (Local x) = x.0

-- all declarations of an entry's name are the entry's
entry_goods : (marks : List ℕ → FunctionMarks) (st : Progress) → SoundProgress marks [] st → (k : ℕ) (e : FunctionTree) → slice_get st.functions k ≡ Some e → (ds : List parsed.FunctionTree)
    → DeclaredAll marks st.functions e.signature.name ds → Goods (marks e.signature.name).privileged e.signature.params ds
entry_goods marks st s k e is [] h = tt {0}
entry_goods marks st s k e is (d ∷ ds) h =
    let one = h.0 in
    let other = get_unmapped (λ (f : FunctionTree). f.signature) st.functions one.number one.signature one.there in
    let name : other.0.signature.name ≡ e.signature.name = ap (λ z. z.name) (sym other.2) ∙ one.named in
    let here = s.tables.named k e is in
    let there = s.tables.named one.number other.0 other.1 in
    let both : Function (record { 0 = one.number }) ≡ Function (record { 0 = k }) = some_same (Function (record { 0 = one.number })) (Function (record { 0 = k })) (sought st.env.file e.signature.name) (ap (sought st.env.file) (sym name) ∙ there) here in
    let number : one.number ≡ k = ap number_of both in
    let entry : other.0 ≡ e = some_same other.0 e (slice_get st.functions k) (ap (slice_get st.functions) (sym number) ∙ other.1) is in
    let signature : one.signature ≡ e.signature = other.2 ∙ ap (λ (f : FunctionTree). f.signature) entry in
    (subst (λ z. Good (marks e.signature.name).privileged z.params d) signature one.good, entry_goods marks st s k e is ds h.1)

implied : (a b : Bool) → (a ≡ true → b ≡ true) → (not a || b) ≡ true
implied true b h = h refl
implied false b h = refl

excluded : (a b : Bool) → (b ≡ true → a ≡ false) → (not a || not b) ≡ true
excluded false b h = refl
excluded true false h = refl
excluded true true h = sym (h refl)

signature_fine : (marks : List ℕ → FunctionMarks) (e : FunctionTree) → EntryMarked marks e → Fine (marks e.signature.name).privileged e.signature.params (marks e.signature.name) → IsTrue (signature_marked e.signature)
signature_fine marks e m f =
    both_hold (not e.signature.declassify || e.signature.privileged) (list_all (param_marked e.signature) e.signature.params)
    (implied e.signature.declassify e.signature.privileged (λ h. m.privileged ∙ f.own (sym m.declassify ∙ h)))
    (all_of (param_marked e.signature) e.signature.params (λ j q is.
    implied q.declassify (e.signature.privileged && is_mutable q.kind) (λ h.
    let may = (f.params_may j).declassify (sym (m.params_declassify j q is) ∙ h) in
    and_from e.signature.privileged (is_mutable q.kind) (m.privileged ∙ may.0) (may.1 q is))))

-- one of the first is such
taken_any : {X : Type 0} (q : X → Bool) (n : ℕ) (xs : List X) → list_any q (take n xs) ≡ true → (j : ℕ) × (x : X) × (j < n) × (slice_get xs j ≡ Some x) × (q x ≡ true)
taken_any q zero xs h = cc
taken_any q (suc n) [] h = cc
taken_any {X} q (suc n) (x ∷ xs) h = go (taken_any q n xs) (q x) refl h
  where
    go : (list_any q (take n xs) ≡ true → (j : ℕ) × (y : X) × (j < n) × (slice_get xs j ≡ Some y) × (q y ≡ true)) → (b : Bool) → q x ≡ b → (b || list_any q (take n xs)) ≡ true → (j : ℕ) × (y : X) × (j < suc n) × (slice_get (x ∷ xs) j ≡ Some y) × (q y ≡ true)
    go more true e h = (0, x, omega arith, refl, e)
    go more false e h =
        let again = more h in
        let less : again.0 < n = again.2 in
        (suc again.0, again.1, omega (arith, less), again.3, again.4)

parameters_fine : (marks : List ℕ → FunctionMarks) (e : FunctionTree) → EntryMarked marks e → Fine (marks e.signature.name).privileged e.signature.params (marks e.signature.name) → IsTrue (parameters_plain e)
parameters_fine marks e m f = excluded e.signature.privileged (list_any (λ x. x.unpriv) (take (length e.signature.params) e.vars)) (λ h.
    let one = taken_any (λ (x : Var). x.unpriv) (length e.signature.params) e.vars h in
    m.privileged ∙ (f.params_may one.0).unpriv (sym (m.params_unpriv one.0 one.1 one.2 one.3) ∙ one.4))

pub trees_marked : Laws → (items : List ItemTree) → IsTrue (items_sound items) → type_faults items ≡ [] → Marked (checked_program items).tree
trees_marked laws items constants none =
    let marks : List ℕ → FunctionMarks = function_marks items in
    let c : Checked = checked_items marks at_start items in
    let st : Progress = c.progress in
    let through = all_through laws marks items at_start (begun items) constants (append_nil_first c.faults (main_faults st.has_main) none) in
    let walked = through.progressed.walked (record { structs = record { tags = refl; fields = refl }; entries = λ k e h. cc; globals = refl }) in
    let fine : (k : ℕ) (e : FunctionTree) → slice_get st.functions k ≡ Some e → Fine (marks e.signature.name).privileged e.signature.params (marks e.signature.name) =
    λ k e is. fine_all (marks e.signature.name).privileged e.signature.params undeclared (declarations_of items e.signature.name) (fine_none (marks e.signature.name).privileged e.signature.params)
    (entry_goods marks st through.sound k e is (declarations_of items e.signature.name) (through.progressed.declared e.signature.name)) in
    record {
      tags = tags_apart st.structs walked.structs;
      fields = all_fields_apart st.structs walked.structs.fields;
      signatures = all_of (λ e. signature_marked e.signature) st.functions (λ k e is. signature_fine marks e (walked.entries k e is) (fine k e is));
      globals = walked.globals;
      parameters = all_of parameters_plain st.functions (λ k e is. parameters_fine marks e (walked.entries k e is) (fine k e is));
    }
