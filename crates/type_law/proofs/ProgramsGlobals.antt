-- Declarations at file scope without a fault.
use Rattle.std.proofs.Common.{◌≡◌, ◌≤◌, ◌+◌, ◌++◌, ◌∙◌, sym, ap, subst, refl, ℕ, suc, ℤ, pos, Bool, true, false, List, [], ◌∷◌, length, arith, take, ◌-◌, Option, Some, None, inl, inr, not, if◌then◌else◌}
use Rattle.std.specs.Prelude.{IsTrue, ◌&&◌, nat_lt, nat_le, slice_get, sum_by, replicate}
use Rattle.std.specs.Str.{bytes_eq}
use Rattle.std.proofs.lemmas.Bool.Decides.{nat_tests}
use Rattle.std.proofs.lemmas.List.{length-take, length-replicate}
use Rattle.std.proofs.lemmas.List.Sums.{sum_by-append}
use Rattle.pt_base.specs.declared.ids.FnId.{FnId}
use Rattle.pt_base.proofs.Booleans.{both_hold, from_not_false}
use Rattle.pt_base.proofs.Lists.{append_nil, append_nil_first, append_nil_second, length_append, length_map, length_pushed}
use Rattle.pt_base.proofs.Members.{all_hold_append}
use Rattle.pt_base.proofs.Places.{get_kept, get_pushed as get_last}
use Rattle.pt_tree.specs.ProgramTree.{ItemTree, declares}
use Rattle.pt_tree.specs.StatementTree.{InitDeclaratorTree, DeclarationTree}
use Rattle.type_rules.specs.declared.types.Type.{«Type»}
use Rattle.typed_tree.specs.declared.types.StructInfo.{StructInfo}
use Rattle.typed_tree.specs.declared.variable.TypedGlobal.{TypedGlobal}
use Rattle.typed_tree.specs.Cells as typed
use Rattle.typed_tree.specs.TypedTree.{TypedTree}
use Rattle.typed_tree.specs.WellFormed.{is_plain_type, is_small, cells_fit, global_sound}
use Rattle.check_declarations.specs.declared.fault.FaultKind.TheVariants.{Redeclared, TooLarge}
use Rattle.check_declarations.specs.declared.objects.ObjectKind.TheVariants as kind
use Rattle.check_declarations.specs.declared.specifiers.Specified.{Specified}
use Rattle.check_declarations.specs.Cells.{cells_of}
use Rattle.check_declarations.specs.Faults.{fault_if}
use Rattle.check_declarations.specs.Marks.{mark_faults}
use Rattle.check_declarations.specs.NameTables.{is_new}
use Rattle.check_declarations.specs.Objects.{object_faults, size_faults}
use Rattle.check_declarations.specs.Specifiers.{specified}
use Rattle.check_declarations.specs.Structs.{Structs}
use Rattle.check_expressions.specs.declared.meaning.Meaning.{Meaning}
use Rattle.check_expressions.specs.declared.meaning.Meaning.TheVariants.{Function, Global}
use Rattle.check_expressions.specs.declared.meaning.Object.{Object}
use Rattle.check_expressions.specs.Environment.{Env, with_global}
use Rattle.check_expressions.specs.StructInfos.{object_type_of, infos_of, struct_info}
use Rattle.check_statements.specs.GlobalInitialisers.{GlobalInit, global_initialised}
use Rattle.type_law.specs.DeclarationsTypes.{is_base, is_plain}
use Rattle.type_law.specs.DeclarationsSound.{SoundStructs}
use Rattle.type_law.specs.DeclarationsLaws.{SpecifiersAreSound, ObjectsAreSound, SizesAreSound, LeavesAreSound}
use Rattle.check_programs.specs.declared.function_marks.FunctionMarks.{FunctionMarks}
use Rattle.check_programs.specs.Globals.{globals_limit, global_type, object_of, cells_with, brings_over, padded, start_cells, typed_global, declared_one, declared_all, global_carrier, checked_declaration}
use Rattle.check_programs.specs.Progress.{Progress}
use Rattle.type_law.proofs.ProgramsListLemmas.{get_pushed, IsLast}
use Rattle.type_law.proofs.ProgramsTableLemmas.{sought, none_where_new, sought_pushed, sought_kept, pushed}
use Rattle.type_law.proofs.ProgramsTypeLemmas.{plain_fine}
use Rattle.type_law.proofs.DeclarationsGoodTypes.{plain_more, plain_variable}
use Rattle.type_law.proofs.DeclarationsTypedLeaves.{typed_plain}
use Rattle.type_law.proofs.StatementsTypeLemmas.{has_object_type}
use Rattle.type_law.proofs.ProgramsSound.{Extends, Grows, defines, entry_kept, is_file_meaning, is_file_entry, HasObject, Known, SoundTables, SoundProgress, HasStart, object_kept, extends_back, tables_moved}
use Rattle.type_law.proofs.ProgramsOpened.{some_same, files_more}
use Rattle.type_law.proofs.ProgramsValues.{init_sound, padded_fits}
use Rattle.type_law.proofs.DeclarationsFaultLemmas.{no_fault}

-- ---- cells

-- where no limit is passed, all cells are counted
pub record Counted (total count : ℕ) (values : List ℤ) : Type 0 where
  pub cells : cells_with total count ≡ total + count
  pub limit : total + count ≤ globals_limit
  pub start : start_cells total count values ≡ padded count values

counted_cells : (total count : ℕ) (values : List ℤ) → total ≤ globals_limit → brings_over total count ≡ false → Counted total count values
counted_cells total count values h over =
    let below : (total + count) ≤ 1048576 = few total count h over in
    let cells : cells_with total count ≡ total + count = omega (arith, below) in
    let within : nat_le (cells_with total count) globals_limit ≡ true = fits (cells_with total count) (total + count) cells below in
    record { cells = cells; limit = below; start = ap (λ b. if b then padded count values else []) within }
  where
    few : (total count : ℕ) → total ≤ 1048576 → brings_over total count ≡ false → total + count ≤ 1048576
    few total count h over = grind (arith, nat_tests)

    fits : (m n : ℕ) → m ≡ n → n ≤ 1048576 → nat_le m 1048576 ≡ true
    fits m n h i = grind (arith, nat_tests)

padded_many : (count : ℕ) (values : List ℤ) → length (padded count values) ≡ count
padded_many count values =
    let both = length_append (take count values) (replicate (count - length values) (pos 0)) in
    let taken = length-take count values in
    let zeros = length-replicate (count - length values) (pos 0) in
    omega (arith, both, taken, zeros)

-- ---- one more global

module _ (marks : List ℕ → FunctionMarks) (rest : List ItemTree) (st : Progress) (name : List ℕ) (o : Object) (g : TypedGlobal) (total : ℕ)
    (t : SoundTables marks rest st) (new : sought st.env.file name ≡ None) (has : HasObject (length st.structs) o (Some g)) (cells : total ≡ st.cells + length g.cells) (limit : total ≤ globals_limit) where
  abbrev named_global : Meaning
  named_global = Global (record { 0 = length st.env.globals })

  abbrev pub with_one : Progress
  with_one = record {
    env = record {
      file = st.env.file ++ (name, named_global) ∷ [];
      functions = st.env.functions;
      globals = st.env.globals ++ o ∷ [];
      scopes = st.env.scopes;
      variables = st.env.variables;
    };
    structs = st.structs;
    functions = st.functions;
    globals = st.globals ++ g ∷ [];
    cells = total;
    exprs = st.exprs;
    has_main = st.has_main;
  }

  grows : Grows st with_one
  grows = record {
    more = [];
    structs = sym (append_nil st.structs);
    functions = λ k s h. h;
    globals = λ k x h. get_kept st.globals (g ∷ []) k x h;
    new = [];
    exprs = sym (append_nil st.exprs);
  }

  still_known : (n : List ℕ) (k : FnId) → sought (st.env.file ++ (name, named_global) ∷ []) n ≡ Some (Function k) → Known st.functions n k.0
  still_known n k h = go (sought st.env.file n) refl
    where
      other : (b : Bool) → (if b then Some named_global else None) ≡ Some (Function k) → ⊥
      other true i = cc
      other false i = cc

      go : (m : Option Meaning) → sought st.env.file n ≡ m → Known st.functions n k.0
      go None is = absurd (other (bytes_eq n name) (sym (sought_pushed st.env.file n name named_global is) ∙ h))
      go (Some m) is =
          let one : m ≡ Function k = some_same m (Function k) (sought (st.env.file ++ (name, named_global) ∷ []) n) (sought_kept st.env.file n name named_global m is) h in
          t.known n k (is ∙ ap Some one)

  still_unknown : (n : List ℕ) → sought (st.env.file ++ (name, named_global) ∷ []) n ≡ None → (marks n).defined ≡ defines rest n
  still_unknown n h = go (sought st.env.file n) refl
    where
      go : (m : Option Meaning) → sought st.env.file n ≡ m → (marks n).defined ≡ defines rest n
      go None is = t.unknown n is
      go (Some m) is = let kept = sought_kept st.env.file n name named_global m is in cc

  one_objects : (k : ℕ) (x : Object) → slice_get (st.env.globals ++ o ∷ []) k ≡ Some x → HasObject (length st.structs) x (slice_get (st.globals ++ g ∷ []) k)
  one_objects k x h = elim (get_pushed st.env.globals o k x h) [
    | inl i ↦ object_kept (length st.structs) (length st.structs) x (slice_get st.globals k) (slice_get (st.globals ++ g ∷ []) k) (omega arith) (λ y j. get_kept st.globals (g ∷ []) k y j) (t.objects k x i)
    | inr i ↦ last k x i
  ]
    where
      last : (k : ℕ) (x : Object) → IsLast st.env.globals o k x → HasObject (length st.structs) x (slice_get (st.globals ++ g ∷ []) k)
      last k x i =
          let there : slice_get (st.globals ++ g ∷ []) k ≡ Some g = ap (slice_get (st.globals ++ g ∷ [])) (i.at ∙ t.global_numbers) ∙ get_last st.globals g in
          subst (λ z. HasObject (length st.structs) z (slice_get (st.globals ++ g ∷ []) k)) (sym i.is)
          (object_kept (length st.structs) (length st.structs) o (Some g) (slice_get (st.globals ++ g ∷ []) k) (omega arith) (λ y j. there ∙ j) has)

  pub one_tables : ((x : TypedTree) → Extends with_one x → IsTrue (global_sound x.structs g)) → SoundTables marks rest with_one
  one_tables sound =
      let many = length_pushed st.globals g in
      let many' = length_pushed st.env.globals o in
      let numbered : length st.env.globals ≡ length st.globals = t.global_numbers in
      let sums = sum_by-append (λ (x : TypedGlobal). length x.cells) st.globals (g ∷ []) in
      let before : sum_by (λ (x : TypedGlobal). length x.cells) st.globals ≡ st.cells = t.cells in
      record {
        structs = t.structs;
        file =
            all_hold_append (is_file_entry (length st.functions) (length (st.globals ++ g ∷ []))) st.env.file ((name, named_global) ∷ [])
            (files_more (length st.functions) (length st.functions) (length st.globals) (length (st.globals ++ g ∷ [])) (omega arith) (omega (arith, many)) st.env.file t.file)
            (both_hold (is_file_meaning (length st.functions) (length (st.globals ++ g ∷ [])) named_global) true (last_below (length st.env.globals) (length (st.globals ++ g ∷ [])) (omega (arith, many, numbered))) refl);
        numbers = t.numbers;
        global_numbers = omega (arith, many, many', numbered);
        callables = t.callables;
        objects = one_objects;
        named = λ k f h. sought_kept st.env.file f.signature.name name named_global (Function (record { 0 = k })) (t.named k f h);
        known = still_known;
        entries = λ k f h. entry_kept marks rest rest st with_one f grows refl (t.entries k f h);
        unknown = still_unknown;
        globals = λ k x h y z. elim (get_pushed st.globals g k x h) [
          | inl i ↦ t.globals k x i y (extends_back st with_one y grows z)
          | inr i ↦ subst (λ w. IsTrue (global_sound y.structs w)) (sym i.is) (sound y z)
        ];
        cells = omega (arith, sums, before, cells);
        limit = limit;
      }
    where
      last_below : (m n : ℕ) → suc m ≡ n → IsTrue (nat_lt m n)
      last_below m n h = grind (arith, nat_tests)

-- ---- a declarator

pub record SoundStep (marks : List ℕ → FunctionMarks) (rest : List ItemTree) (st after : Progress) : Type 0 where
  pub tables : SoundTables marks rest after
  pub structs : after.structs ≡ st.structs
  pub scopes : after.env.scopes ≡ st.env.scopes
  pub variables : after.env.variables ≡ st.env.variables
  pub functions : after.functions ≡ st.functions
  pub has_main : after.has_main ≡ st.has_main

pub one_global : ObjectsAreSound → SizesAreSound → LeavesAreSound → (marks : List ℕ → FunctionMarks) (rest : List ItemTree) (given : Specified) (st : Progress) (i : InitDeclaratorTree)
    → SoundTables marks rest st → IsTrue (is_base (length st.structs) given.base) → (declared_one given st i).faults ≡ [] → SoundStep marks rest st (declared_one given st i).progress
one_global objects sizes leaves marks rest given st i t base none =
    let d = i.declarator in
    let ty : «Type» = global_type given d in
    let count = cells_of st.structs ty in
    let known : Env = with_global st.env d.name.bytes (object_of given d) in
    let init : GlobalInit = global_initialised known st.structs ty i.init in
    let f1 = object_faults kind.Global given d.pointer d.suffix d.name.span in
    let f2 = size_faults st.structs ty d.name.span in
    let f3 = fault_if (not (is_new st.env.file d.name.bytes)) Redeclared d.name.span in
    let f4 = fault_if (brings_over st.cells count) TooLarge d.name.span in
    let none_own = append_nil_first (f1 ++ f2 ++ f3 ++ f4) init.faults none in
    let none_init = append_nil_second (f1 ++ f2 ++ f3 ++ f4) init.faults none in
    let n3 = append_nil_first (f1 ++ f2 ++ f3) f4 none_own in
    let n2 = append_nil_first (f1 ++ f2) f3 n3 in
    let plain : IsTrue (is_plain (length st.structs) ty) = objects kind.Global (length st.structs) given d.pointer d.suffix d.name.span base (append_nil_first f1 f2 n2) in
    let small = append_nil_second f1 f2 n2 in
    let new : is_new st.env.file d.name.bytes ≡ true = from_not_false (is_new st.env.file d.name.bytes) (no_fault (not (is_new st.env.file d.name.bytes)) Redeclared d.name.span (append_nil_second (f1 ++ f2) f3 n3)) in
    let over : brings_over st.cells count ≡ false = no_fault (brings_over st.cells count) TooLarge d.name.span (append_nil_second (f1 ++ f2 ++ f3) f4 none_own) in
    let counted = counted_cells st.cells count init.values t.limit over in
    let g : TypedGlobal = typed_global given d (start_cells st.cells count init.values) in
    let many : length g.cells ≡ count = ap length counted.start ∙ padded_many count init.values in
    let limit : cells_with st.cells count ≤ globals_limit = let a = counted.cells in let b = counted.limit in omega (arith, a, b) in
    let cells : cells_with st.cells count ≡ st.cells + length g.cells = let a = counted.cells in omega (arith, a, many) in
    let has : HasObject (length st.structs) (object_of given d) (Some g) = record { global = g; is = refl; good = plain_variable (length st.structs) ty plain; has = sym (has_object_type (length st.structs) ty (plain_variable (length st.structs) ty plain)); fixed = refl } in
    let first = leaves st.structs [] ty d.name.span (subst (λ s. SoundStructs s) (sym (append_nil st.structs)) t.structs) plain small in
    let same = (init_sound known st.structs ty i.init (typed.leaves_of (infos_of (st.structs ++ [])) (object_type_of ty)) first (plain_fine (length st.structs) ty plain) none_init).same in
    let tables = one_tables marks rest st d.name.bytes (object_of given d) g (cells_with st.cells count) t (none_where_new st.env.file d.name.bytes new) has cells limit
    (λ x z. subst (λ s. IsTrue (global_sound s g)) (sym z.structs) (holds z.more z.sound counted.start plain small none_init)) in
    record {
      tables =
          subst (λ s. SoundTables marks rest (record (declared_one given st i).progress { structs = s })) (sym same)
          (subst (λ file. SoundTables marks rest (record (declared_one given st i).progress { structs = st.structs; env = record known { file = file } })) (sym (pushed st.env.file d.name.bytes (Global (record { 0 = length st.env.globals })) new)) tables);
      structs = same;
      scopes = refl;
      variables = refl;
      functions = refl;
      has_main = refl;
    }
  where
    holds : (more : Structs) → SoundStructs (st.structs ++ more)
        → start_cells st.cells (cells_of st.structs (global_type given i.declarator)) (global_initialised (with_global st.env i.declarator.name.bytes (object_of given i.declarator)) st.structs (global_type given i.declarator) i.init).values
        ≡ padded (cells_of st.structs (global_type given i.declarator)) (global_initialised (with_global st.env i.declarator.name.bytes (object_of given i.declarator)) st.structs (global_type given i.declarator) i.init).values
        → IsTrue (is_plain (length st.structs) (global_type given i.declarator)) → size_faults st.structs (global_type given i.declarator) i.declarator.name.span ≡ []
        → (global_initialised (with_global st.env i.declarator.name.bytes (object_of given i.declarator)) st.structs (global_type given i.declarator) i.init).faults ≡ []
        → IsTrue (global_sound (infos_of (st.structs ++ more)) (typed_global given i.declarator (start_cells st.cells (cells_of st.structs (global_type given i.declarator)) (global_initialised (with_global st.env i.declarator.name.bytes (object_of given i.declarator)) st.structs (global_type given i.declarator) i.init).values)))
    holds more sound start plain small none_init =
        let ty : «Type» = global_type given i.declarator in
        let known : Env = with_global st.env i.declarator.name.bytes (object_of given i.declarator) in
        let init : GlobalInit = global_initialised known st.structs ty i.init in
        let all : List StructInfo = infos_of (st.structs ++ more) in
        let ts = typed.leaves_of all (object_type_of ty) in
        let size = sizes st.structs more ty i.declarator.name.span sound plain small in
        let fits = (init_sound known st.structs ty i.init ts (leaves st.structs more ty i.declarator.name.span sound plain small) (plain_fine (length st.structs) ty plain) none_init).fits in
        let long = length_append st.structs more in
        let mapped = length_map struct_info (st.structs ++ more) in
        let structs : length st.structs ≤ length all = omega (arith, long, mapped) in
        let filled : IsTrue (cells_fit ts (start_cells st.cells (cells_of st.structs ty) init.values)) =
        subst (λ cs. IsTrue (cells_fit ts cs)) (sym start) (subst (λ n. IsTrue (cells_fit ts (padded n init.values))) size.0 (padded_fits ts init.values fits)) in
        both_hold (is_plain_type (length all) (object_type_of ty) && is_small all (object_type_of ty)) (true && cells_fit ts (start_cells st.cells (cells_of st.structs ty) init.values))
        (both_hold (is_plain_type (length all) (object_type_of ty)) (is_small all (object_type_of ty)) (typed_plain (length all) ty (plain_more (length st.structs) (length all) ty structs plain)) size.1)
        filled

-- ---- all declarators, and declarations

pub all_globals : ObjectsAreSound → SizesAreSound → LeavesAreSound → (marks : List ℕ → FunctionMarks) (rest : List ItemTree) (given : Specified) (st : Progress) (ds : List InitDeclaratorTree)
    → SoundTables marks rest st → IsTrue (is_base (length st.structs) given.base) → (declared_all given st ds).faults ≡ [] → SoundStep marks rest st (declared_all given st ds).progress
all_globals objects sizes leaves marks rest given st [] t base none = record { tables = t; structs = refl; scopes = refl; variables = refl; functions = refl; has_main = refl }
all_globals objects sizes leaves marks rest given st (d ∷ ds) t base none =
    let one = declared_one given st d in
    let more = declared_all given one.progress ds in
    let s = one_global objects sizes leaves marks rest given st d t base (append_nil_first one.faults more.faults none) in
    let r = all_globals objects sizes leaves marks rest given one.progress ds s.tables (subst (λ z. IsTrue (is_base (length z) given.base)) (sym s.structs) base) (append_nil_second one.faults more.faults none) in
    record {
      tables = r.tables;
      structs = r.structs ∙ s.structs;
      scopes = r.scopes ∙ s.scopes;
      variables = r.variables ∙ s.variables;
      functions = r.functions ∙ s.functions;
      has_main = r.has_main ∙ s.has_main;
    }

pub declaration_step : SpecifiersAreSound → ObjectsAreSound → SizesAreSound → LeavesAreSound → (marks : List ℕ → FunctionMarks) (rest : List ItemTree) (st : Progress) (d : DeclarationTree)
    → SoundProgress marks (declares d ∷ rest) st → (checked_declaration st d).faults ≡ [] → SoundProgress marks rest (checked_declaration st d).progress
declaration_step specifiers objects sizes leaves marks rest st d s none =
    let j = specified true st.structs d.specs in
    let marked = mark_faults (global_carrier d.declarators) j.given.attributes in
    let all = declared_all j.given (record st { structs = j.structs }) d.declarators in
    let own = append_nil_first (j.faults ++ marked) all.faults none in
    let judged = specifiers true st.structs d.specs s.tables.structs (append_nil_first j.faults marked own) in
    let tables = tables_moved marks (declares d ∷ rest) rest st st.env.scopes st.env.variables j.structs judged.more st.has_main judged.grown judged.sound (λ n. refl) s.tables in
    let step = all_globals objects sizes leaves marks rest j.given (record st { structs = j.structs }) d.declarators tables judged.base (append_nil_second (j.faults ++ marked) all.faults none) in
    record {
      tables = step.tables;
      scopes = step.scopes ∙ s.scopes;
      variables = step.variables ∙ s.variables;
      start = λ h. subst (λ z. HasStart z) (sym step.functions) (s.start (sym step.has_main ∙ h));
    }
