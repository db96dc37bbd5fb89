-- The functions of a checked program have the names of its items.
use Rattle.std.proofs.Common.{◌≡◌, ◌∙◌, ℕ, zero, suc, true, ◌&&◌, List, [], ◌∷◌, map, slice_get, slice_set, is_some, Option, Some, None, refl, sym, ap}
use Rattle.std.specs.List.{list_all}
use Rattle.std.specs.Option.{option_map_or}
use Rattle.std.proofs.lemmas.Bool.{and_parts, and_from}
use Rattle.std.proofs.lemmas.List.{map-append}
use Rattle.std.proofs.lemmas.List.Folds.{list_all-append}
use Rattle.std.proofs.lemmas.Option.{none-some, same_Some}
use Rattle.pt_base.specs.declared.ids.FnId.{FnId}
use Rattle.pt_base.specs.declared.span.Span.{Span}
use Rattle.pt_tree.specs.ProgramTree as parsed
use Rattle.pt_tree.specs.ProgramTree.{ItemTree, declares, function}
use Rattle.pt_tree.specs.StatementTree.{BlockTree, DeclarationTree, InitDeclaratorTree}
use Rattle.type_rules.specs.declared.types.Type.{«Type»}
use Rattle.typed_tree.specs.StatementTree.{BodyTree}
use Rattle.typed_tree.specs.TypedTree.{FunctionTree}
use Rattle.typed_tree.specs.WellFormed.{name_of}
use Rattle.typed_tree.specs.declared.variable.Var.{Var}
use Rattle.c_lexer.specs.Lexemes.{is_identifier}
use Rattle.check_declarations.specs.Specifiers.{specified}
use Rattle.check_declarations.specs.declared.specifiers.Specified.{Specified}
use Rattle.check_expressions.specs.declared.meaning.Callable.{Callable}
use Rattle.check_programs.specs.Functions.{Head, head_of, entry_of, declared_as, declared, earlier, number_in, with_parts, with_body, with_definition, with_head, with_start, completed, checked_function}
use Rattle.check_programs.specs.Globals.{declared_one, declared_all, checked_declaration}
use Rattle.check_programs.specs.Programs.{checked_item, checked_items, function_name}
use Rattle.check_programs.specs.Progress.{Progress}
use Rattle.check_programs.specs.declared.function_marks.FunctionMarks.{FunctionMarks}
use Rattle.plain_names_law.proofs.PartNames.{item_named}

-- the names of these are identifiers
abbrev pub AreNamed : List FunctionTree → Type 0
AreNamed fs = list_all is_identifier (map name_of fs) ≡ true

-- ---- what a definition does to the functions

-- another function of the same name takes its place
same_names : (fs : List FunctionTree) (k : ℕ) (f g : FunctionTree) → slice_get fs k ≡ Some f → name_of g ≡ name_of f → map name_of (slice_set fs k g) ≡ map name_of fs
same_names [] zero f g at same = absurd (none-some f at)
same_names [] (suc k) f g at same = absurd (none-some f at)
same_names (h ∷ fs) zero f g at same = ap (λ (n : List ℕ). n ∷ map name_of fs) (same ∙ sym (ap name_of (same_Some h f at)))
same_names (h ∷ fs) (suc k) f g at same = ap (λ (ns : List (List ℕ)). name_of h ∷ ns) (same_names fs k f g at same)

body_names : (fs : List FunctionTree) (k : ℕ) (at : Span) (vars : List Var) (body : BodyTree) → map name_of (with_body fs k at vars body) ≡ map name_of fs
body_names fs k at vars body = go (slice_get fs k) refl
  where
    go : (o : Option FunctionTree) → slice_get fs k ≡ o → map name_of (option_map_or (λ f. slice_set fs k (with_parts f at vars body)) o fs) ≡ map name_of fs
    go None stands = refl
    go (Some f) stands = same_names fs k f (with_parts f at vars body) stands refl

body_named : (fs : List FunctionTree) (k : ℕ) (at : Span) (vars : List Var) (body : BodyTree) → AreNamed fs → AreNamed (with_body fs k at vars body)
body_named fs k at vars body all = ap (list_all is_identifier) (body_names fs k at vars body) ∙ all

-- ---- functions

entry_named : (marks : FunctionMarks) (st : Progress) (c : Callable) (at : Span) (o : Option FnId) → is_identifier c.name ≡ true → AreNamed st.functions → AreNamed (declared_as marks st c at o).functions
entry_named marks st c at None here all =
    let entry : FunctionTree = entry_of marks c st.env.variables at in
    ap (list_all is_identifier) (map-append name_of st.functions (entry ∷ []))
    ∙ list_all-append is_identifier (map name_of st.functions) (c.name ∷ [])
    ∙ and_from (list_all is_identifier (map name_of st.functions)) (is_identifier c.name && true) all (and_from (is_identifier c.name) true here refl)
entry_named marks st c at (Some k) here all = all

defined_named : (st : Progress) (k : ℕ) (result : «Type») (at : Span) (b : Option BlockTree) → AreNamed st.functions → AreNamed (with_definition st k result at b).progress.functions
defined_named st k result at None all = all
defined_named st k result at (Some b) all = body_named st.functions k at _ _ all

completed_named : (marks : FunctionMarks) (st : Progress) (c : Callable) (f : parsed.FunctionTree) → is_identifier c.name ≡ true → AreNamed st.functions → AreNamed (completed marks st c f).progress.functions
unfolding completed
completed_named marks st c f here all =
    let at : Span = f.declarator.name.span in
    defined_named (declared marks st c at) (number_in st (earlier st c)) c.result at f.body (entry_named marks st c at (earlier st c) here all)

function_named : (marks : FunctionMarks) (st : Progress) (f : parsed.FunctionTree) → is_identifier f.declarator.name.bytes ≡ true → AreNamed st.functions → AreNamed (checked_function marks st f).progress.functions
unfolding head_of
function_named marks st f here all =
    let h : Head = head_of marks st.env st.structs f in
    completed_named marks (with_start (with_head st h) h.callable (is_some f.body)) h.callable f here all

-- ---- globals

declared_same : (given : Specified) (st : Progress) (ds : List InitDeclaratorTree) → (declared_all given st ds).progress.functions ≡ st.functions
declared_same given st [] = refl
declared_same given st (d ∷ ds) = declared_same given (declared_one given st d).progress ds

declaration_same : (st : Progress) (d : DeclarationTree) → (checked_declaration st d).progress.functions ≡ st.functions
declaration_same st d =
    let j = specified true st.structs d.specs in
    declared_same j.given (record st { structs = j.structs }) d.declarators

-- ---- items

item_step : (marks : FunctionMarks) (st : Progress) (i : ItemTree) → item_named i ≡ true → AreNamed st.functions → AreNamed (checked_item marks st i).progress.functions
item_step marks st (declares d) here all = ap (λ (fs : List FunctionTree). list_all is_identifier (map name_of fs)) (declaration_same st d) ∙ all
item_step marks st (function f) here all = function_named marks st f here all

pub items_named : (marks : List ℕ → FunctionMarks) (st : Progress) (items : List ItemTree) → list_all item_named items ≡ true → AreNamed st.functions → AreNamed (checked_items marks st items).progress.functions
items_named marks st [] here all = all
items_named marks st (i ∷ items) here all =
    let both = and_parts (item_named i) (list_all item_named items) here in
    items_named marks (checked_item (marks (function_name i)) st i).progress items both.1 (item_step (marks (function_name i)) st i both.0 all)
