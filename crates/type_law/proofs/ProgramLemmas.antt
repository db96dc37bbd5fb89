-- A program without a fault, by its items in order.
use Rattle.std.proofs.Common.{◌≡◌, ◌≤◌, ◌<◌, ◌*◌, ◌^◌, ◌+◌, ◌∙◌, sym, ap, subst, refl, ℕ, suc, Bool, true, false, List, [], ◌∷◌, length, arith, map, fold, Option, Some, None, not, if◌then◌else◌}
use Rattle.std.specs.Prelude.{IsTrue, ◌&&◌, ◌||◌, nat_lt, nat_le, nat_eq, slice_get, sum_by, is_some}
use Rattle.std.specs.List.{list_all, list_any}
use Rattle.std.specs.Str.{bytes_eq}
use Rattle.std.proofs.lemmas.Bool.Decides.{nat_tests}
use Rattle.pt_base.specs.Names.{is_short}
use Rattle.pt_base.proofs.Booleans.{both_hold, both_hold_first, both_hold_second}
use Rattle.pt_base.proofs.Lists.{append_nil, append_nil_first, append_nil_second, bytes_eq_same}
use Rattle.pt_tree.specs.Facts.{specs_sound, word_sound, suffix_sound, declarator_sound, params_sound, body_sound, item_sound, items_sound}
use Rattle.pt_tree.specs.Nodes as parsed
use Rattle.pt_tree.specs.ProgramTree.{ItemTree, declares, function}
use Rattle.typed_tree.specs.declared.variable.TypedGlobal.{TypedGlobal}
use Rattle.typed_tree.specs.Nodes as typed
use Rattle.typed_tree.specs.Parts.{parts_of, variables_of}
use Rattle.typed_tree.specs.StatementTree.{BodyTree}
use Rattle.typed_tree.specs.TypedTree as tree
use Rattle.typed_tree.specs.TypedTree.{TypedTree}
use Rattle.typed_tree.specs.WellFormed.{structs_sound, global_sound, globals_small, variable_sound, params_lead, is_integer_param, is_block, scope_in, body_sound as typed_body, function_sound, name_of, are_distinct, names_sound, are_consecutive, are_rising, is_start, numbers_sound, is_well_formed}
use Rattle.typed_tree.specs.WellFormedStatement.{is_sound}
use Rattle.check_declarations.specs.declared.fault.FaultKind.TheVariants.{NoMain}
use Rattle.check_expressions.specs.declared.meaning.Meaning.{Meaning}
use Rattle.check_expressions.specs.declared.meaning.Meaning.TheVariants.{Function, Global, Local}
use Rattle.check_expressions.specs.StructInfos.{infos_of}
use Rattle.type_law.specs.DeclarationsSound.{SoundStructs}
use Rattle.type_law.specs.DeclarationsLaws.{SpecifiersAreSound, ObjectsAreSound, ResultsAreSound, SizesAreSound, LeavesAreSound, StructsAreWellFormed}
use Rattle.type_law.specs.StatementsLaws.{BlocksAreKept, BodiesAreSound}
use Rattle.check_programs.specs.declared.function_marks.FunctionMarks.{FunctionMarks}
use Rattle.check_programs.specs.Functions.{Checked}
use Rattle.check_programs.specs.Progress.{Progress, at_start}
use Rattle.check_programs.specs.Programs.{checked_item, checked_items, function_name, tree_of, nowhere, main_faults}
use Rattle.check_programs.specs.Unions.{declarations_of, undeclared, with_declaration, function_marks}
use Rattle.type_law.specs.SizesLaws.{TypedTreesAreSmall}
use Rattle.type_law.specs.ProgramsLaws.{ProgramsAreWellFormed}
use Rattle.type_law.proofs.ProgramsListLemmas.{all_of, any_of}
use Rattle.type_law.proofs.ProgramsTableLemmas.{sought}
use Rattle.type_law.proofs.ProgramsSound.{Extends, defines, BodyHolds, SoundEntry, SoundTables, SoundProgress}
use Rattle.type_law.proofs.ProgramsOpened.{some_same}
use Rattle.type_law.proofs.ProgramsFunctions.{function_step}
use Rattle.type_law.proofs.ProgramsGlobals.{declaration_step}
use Rattle.type_law.proofs.DeclarationsFaultLemmas.{no_fault}

-- the laws of the parts
pub record Laws : Type 0 where
  pub specifiers : SpecifiersAreSound
  pub objects : ObjectsAreSound
  pub results : ResultsAreSound
  pub sizes : SizesAreSound
  pub leaves : LeavesAreSound
  pub structs : StructsAreWellFormed
  pub bodies : BodiesAreSound
  pub kept : BlocksAreKept
  pub small : TypedTreesAreSmall

-- ---- marks say what is defined

marks_defined : (items : List ItemTree) (m : FunctionMarks) (n : List ℕ) → (fold with_declaration m (declarations_of items n)).defined ≡ (m.defined || defines items n)
marks_defined [] m n = last m.defined
  where
    last : (b : Bool) → b ≡ (b || false)
    last true = refl
    last false = refl
marks_defined (declares d ∷ items) m n = marks_defined items m n
marks_defined (function f ∷ items) m n = go (bytes_eq f.declarator.name.bytes n) (marks_defined items (with_declaration m f) n) (marks_defined items m n)
  where
    again : (a b c : Bool) → ((a || b) || c) ≡ (a || (b || c))
    again true b c = refl
    again false b c = refl

    go : (b : Bool) → (fold with_declaration (with_declaration m f) (declarations_of items n)).defined ≡ ((m.defined || is_some f.body) || defines items n)
        → (fold with_declaration m (declarations_of items n)).defined ≡ (m.defined || defines items n)
        → (fold with_declaration m (if b then f ∷ declarations_of items n else declarations_of items n)).defined ≡ (m.defined || ((b && is_some f.body) || defines items n))
    go true with_it without = with_it ∙ again m.defined (is_some f.body) (defines items n)
    go false with_it without = without

-- ---- the walk

pub begun : (items : List ItemTree) → SoundProgress (function_marks items) items at_start
begun items = record {
  tables = record {
    structs = tt;
    file = refl;
    numbers = refl;
    global_numbers = refl;
    callables = λ k c h. cc;
    objects = λ k o h. cc;
    named = λ k f h. cc;
    known = λ n k h. cc;
    entries = λ k f h. cc;
    unknown = λ n h. marks_defined items undeclared n;
    globals = λ k g h t x. cc;
    cells = refl;
    limit = omega arith;
  };
  scopes = refl;
  variables = refl;
  start = λ h. cc;
}

pub item_step : Laws → (marks : List ℕ → FunctionMarks) (item : ItemTree) (rest : List ItemTree) (st : Progress) → SoundProgress marks (item ∷ rest) st → IsTrue (item_sound item)
    → (checked_item (marks (function_name item)) st item).faults ≡ [] → SoundProgress marks rest (checked_item (marks (function_name item)) st item).progress
item_step laws marks (declares d) rest st s constants none = declaration_step laws.specifiers laws.objects laws.sizes laws.leaves marks rest st d s none
item_step laws marks (function f) rest st s constants none =
    let outer = both_hold_first (specs_sound f.specs && declarator_sound f.declarator) (params_sound f.params && body_sound f.body) constants in
    let inner = both_hold_second (specs_sound f.specs && declarator_sound f.declarator) (params_sound f.params && body_sound f.body) constants in
    let short = both_hold_first (word_sound f.declarator.name) (suffix_sound f.declarator.suffix) (both_hold_second (specs_sound f.specs) (declarator_sound f.declarator) outer) in
    function_step laws.specifiers laws.objects laws.results laws.bodies laws.kept marks f rest st s short (both_hold_second (params_sound f.params) (body_sound f.body) inner) none

all_steps : Laws → (marks : List ℕ → FunctionMarks) (items : List ItemTree) (st : Progress) → SoundProgress marks items st → IsTrue (items_sound items)
    → (checked_items marks st items).faults ≡ [] → SoundProgress marks [] (checked_items marks st items).progress
all_steps laws marks [] st s constants none = s
all_steps laws marks (item ∷ items) st s constants none =
    let one : Checked = checked_item (marks (function_name item)) st item in
    let more : Checked = checked_items marks one.progress items in
    let next = item_step laws marks item items st s (both_hold_first (item_sound item) (items_sound items) constants) (append_nil_first one.faults more.faults none) in
    all_steps laws marks items one.progress next (both_hold_second (item_sound item) (items_sound items) constants) (append_nil_second one.faults more.faults none)

-- ---- the whole tree

whole : (marks : List ℕ → FunctionMarks) (st : Progress) → SoundTables marks [] st → Extends st (tree_of st)
whole marks st t = record {
  more = [];
  sound = subst (λ s. SoundStructs s) (sym (append_nil st.structs)) t.structs;
  structs = ap infos_of (sym (append_nil st.structs));
  functions = λ k s h. h;
  globals = λ k g h. h;
  after = [];
  exprs = sym (append_nil st.exprs);
}

entry_whole : (marks : List ℕ → FunctionMarks) (st : Progress) → SoundTables marks [] st → (f : tree.FunctionTree) → SoundEntry marks [] st f → IsTrue (function_sound (tree_of st) f)
entry_whole marks st t f e =
    both_hold (nat_le (length f.signature.params) 8 && params_lead f.signature.params f.vars) (list_all (variable_sound (infos_of st.structs)) f.vars && typed_body (tree_of st) f f.body)
    (both_hold (nat_le (length f.signature.params) 8) (params_lead f.signature.params f.vars) e.few e.lead)
    (both_hold (list_all (variable_sound (infos_of st.structs)) f.vars) (typed_body (tree_of st) f f.body) (e.vars (tree_of st) (whole marks st t))
    (go f.body e.defined (e.body (tree_of st) (whole marks st t))))
  where
    hosted : (d : Bool) → d ≡ (false || false) → not d ≡ true
    hosted true h = cc
    hosted false h = refl

    bodied : (d : Bool) → d ≡ (true || false) → not (not d) ≡ true
    bodied true h = refl
    bodied false h = cc

    go : (b : Option BodyTree) → (marks f.signature.name).defined ≡ (is_some b || false) → BodyHolds (tree_of st) f b → IsTrue (typed_body (tree_of st) f b)
    go None d h =
        let host : f.signature.host ≡ true = e.host ∙ hosted (marks f.signature.name).defined d in
        let both = h host in
        both_hold f.signature.host (list_all is_integer_param f.signature.params && nat_eq (length f.vars) (length f.signature.params)) host
        (both_hold (list_all is_integer_param f.signature.params) (nat_eq (length f.vars) (length f.signature.params)) both.0 both.1)
    go (Some b) d h =
        both_hold (not f.signature.host) (is_block b && is_sound (scope_in (tree_of st) f) false false b) (ap not e.host ∙ bodied (marks f.signature.name).defined d) h.0

entry_numbered : (marks : List ℕ → FunctionMarks) (st : Progress) → SoundTables marks [] st → (f : tree.FunctionTree) → SoundEntry marks [] st f → IsTrue (numbers_sound (tree_of st) f)
entry_numbered marks st t f e = go f.body (e.body (tree_of st) (whole marks st t))
  where
    go : (b : Option BodyTree) → BodyHolds (tree_of st) f b → IsTrue (numbers_sound (tree_of st) (record f { body = b }))
    go None h = refl
    go (Some b) h = both_hold (are_consecutive (parts_of b) (length st.exprs)) (are_rising (length f.signature.params) (variables_of b)) h.1 h.2

-- a name that a table has at one number isn't that of a function of a later one
lone : (look : List ℕ → Option ℕ) (name : List ℕ) (n : ℕ) → look name ≡ Some n → (fs : List tree.FunctionTree) (m : ℕ) → n < m
    → ((k : ℕ) (f : tree.FunctionTree) → slice_get fs k ≡ Some f → look f.signature.name ≡ Some (m + k)) → IsTrue (not (list_any (bytes_eq name) (map name_of fs)))
lone look name n at [] m h i = refl
lone look name n at (f ∷ fs) m h i = go (bytes_eq name f.signature.name) refl (lone look name n at fs (suc m) (omega arith) (λ k g j. i (suc k) g j ∙ ap Some (omega arith)))
  where
    go : (b : Bool) → bytes_eq name f.signature.name ≡ b → IsTrue (not (list_any (bytes_eq name) (map name_of fs))) → IsTrue (not (b || list_any (bytes_eq name) (map name_of fs)))
    go true e rest =
        let same : n ≡ m + 0 = some_same n (m + 0) (look name) at (ap look (bytes_eq_same name f.signature.name e) ∙ i 0 f refl) in
        absurd (omega arith)
    go false e rest = rest

-- each name is that of one function
names_apart : (look : List ℕ → Option ℕ) (n : ℕ) (fs : List tree.FunctionTree) → ((k : ℕ) (f : tree.FunctionTree) → slice_get fs k ≡ Some f → look f.signature.name ≡ Some (n + k)) → IsTrue (are_distinct (map name_of fs))
names_apart look n [] h = refl
names_apart look n (f ∷ fs) h =
    let at : look f.signature.name ≡ Some n = h 0 f refl ∙ ap Some (omega arith) in
    let rest : (k : ℕ) (g : tree.FunctionTree) → slice_get fs k ≡ Some g → look g.signature.name ≡ Some (suc n + k) = λ k g i. h (suc k) g i ∙ ap Some (omega arith) in
    both_hold (not (list_any (bytes_eq f.signature.name) (map name_of fs))) (are_distinct (map name_of fs))
    (lone look f.signature.name n at fs (suc n) (omega arith) rest) (names_apart look (suc n) fs rest)

-- each name is short
names_short : (fs : List tree.FunctionTree) → ((k : ℕ) (f : tree.FunctionTree) → slice_get fs k ≡ Some f → IsTrue (is_short (name_of f))) → IsTrue (list_all is_short (map name_of fs))
names_short [] h = refl
names_short (f ∷ fs) h = both_hold (is_short (name_of f)) (list_all is_short (map name_of fs)) (h 0 f refl) (names_short fs (λ k g i. h (suc k) g i))

-- the number of a function
abbrev number_in : Option Meaning → Option ℕ
number_in None = None
number_in (Some (Function f)) = Some f.0
number_in (Some (Global g)) = None
number_in (Some (Local x)) = None

pub programs_well_formed : Laws → ProgramsAreWellFormed
unfolding is_well_formed
programs_well_formed laws items few constants none =
    let marks : List ℕ → FunctionMarks = function_marks items in
    let c : Checked = checked_items marks at_start items in
    let st : Progress = c.progress in
    let s = all_steps laws marks items at_start (begun items) constants (append_nil_first c.faults (main_faults st.has_main) none) in
    let t = s.tables in
    let w = whole marks st t in
    let infos = infos_of st.structs in
    let program : TypedTree = tree_of st in
    let main : st.has_main ≡ true = not_not st.has_main (no_fault (not st.has_main) NoMain nowhere (append_nil_second c.faults (main_faults st.has_main) none)) in
    let begin = s.start main in
    let structs : IsTrue (structs_sound infos 0 infos) = laws.structs st.structs t.structs in
    let globals : IsTrue (list_all (global_sound infos) st.globals) = all_of (global_sound infos) st.globals (λ k g h. t.globals k g h program w) in
    let small : IsTrue (globals_small st.globals) = below (sum_by (λ (g : TypedGlobal). length g.cells) st.globals) st.cells t.cells t.limit in
    let functions : IsTrue (list_all (function_sound program) st.functions) = all_of (function_sound program) st.functions (λ k f h. entry_whole marks st t f (t.entries k f h)) in
    let apart : IsTrue (are_distinct (map name_of st.functions)) = names_apart (λ n. number_in (sought st.env.file n)) 0 st.functions (λ k f h. ap number_in (t.named k f h) ∙ ap Some (omega arith)) in
    let short : IsTrue (list_all is_short (map name_of st.functions)) = names_short st.functions (λ k f h. (t.entries k f h).short) in
    let names : IsTrue (names_sound (map name_of st.functions)) = both_hold (are_distinct (map name_of st.functions)) (list_all is_short (map name_of st.functions)) apart short in
    let start : IsTrue (list_any is_start st.functions) = any_of is_start st.functions begin.number begin.entry begin.is begin.start in
    let numbered : IsTrue (list_all (numbers_sound program) st.functions) = all_of (numbers_sound program) st.functions (λ k f h. entry_numbered marks st t f (t.entries k f h)) in
    let size = laws.small items in
    let light : IsTrue (nat_lt (typed.nodes_of program) (2 ^ 28)) = fewer (typed.nodes_of program) (parsed.nodes_of items) size few in
    both_hold (structs_sound infos 0 infos && (list_all (global_sound infos) st.globals && globals_small st.globals))
    ((list_all (function_sound program) st.functions && (names_sound (map name_of st.functions) && list_any is_start st.functions)) && (list_all (numbers_sound program) st.functions && nat_lt (typed.nodes_of program) (2 ^ 28)))
    (both_hold (structs_sound infos 0 infos) (list_all (global_sound infos) st.globals && globals_small st.globals) structs (both_hold (list_all (global_sound infos) st.globals) (globals_small st.globals) globals small))
    (both_hold (list_all (function_sound program) st.functions && (names_sound (map name_of st.functions) && list_any is_start st.functions)) (list_all (numbers_sound program) st.functions && nat_lt (typed.nodes_of program) (2 ^ 28))
    (both_hold (list_all (function_sound program) st.functions) (names_sound (map name_of st.functions) && list_any is_start st.functions) functions (both_hold (names_sound (map name_of st.functions)) (list_any is_start st.functions) names start))
    (both_hold (list_all (numbers_sound program) st.functions) (nat_lt (typed.nodes_of program) (2 ^ 28)) numbered light))
  where
    not_not : (b : Bool) → not b ≡ false → b ≡ true
    not_not true h = refl
    not_not false h = cc

    below : (m n : ℕ) → m ≡ n → n ≤ 1048576 → IsTrue (nat_le m 1048576)
    below m n h i = grind (arith, nat_tests)

    fewer : (m n : ℕ) → m ≤ 3 * n → n < 2 ^ 22 → IsTrue (nat_lt m (2 ^ 28))
    fewer m n h i = let k : m < 2 ^ 28 = omega arith in grind (arith, nat_tests)
