-- The walk over what a half declares outside of functions with bodies: it adds these names and no fault.
use Rattle.std.proofs.Common.{◌≡◌, ◌++◌, ◌∙◌, ◌≤◌, ◌+◌, sym, ap, refl, subst, ℕ, zero, suc, Bool, true, false, List, [], ◌∷◌, length, map, Some, None, arith}
use Rattle.std.specs.Prelude.{is_some, slice_get, sum_by}
use Rattle.std.proofs.lemmas.List.{append_assoc, length-append, map-append}
use Rattle.std.proofs.lemmas.List.Sums.{sum_by-cons}
use Rattle.pt_base.proofs.Lists.{length_map}
use Rattle.pt_base.proofs.Places.{each_pushed, get_before, get_below_length, get_pushed, get_seam}
use Rattle.pt_tree.specs.declared.signature.Signature.{Signature}
use Rattle.pt_tree.specs.ProgramTree as parsed
use Rattle.pt_tree.specs.ProgramTree.{ItemTree}
use Rattle.typed_tree.specs.declared.types.StructInfo.{StructInfo}
use Rattle.typed_tree.specs.declared.variable.TypedGlobal.{TypedGlobal}
use Rattle.typed_tree.specs.TypedTree.{FunctionTree}
use Rattle.check_declarations.specs.Cells.{counted, cells_of}
use Rattle.check_declarations.specs.Structs.{Structs}
use Rattle.check_expressions.specs.declared.meaning.Callable.{Callable}
use Rattle.check_expressions.specs.Environment.{Env}
use Rattle.check_programs.specs.Functions.{Checked, has_body, signature_of}
use Rattle.check_programs.specs.Programs.{checked_item, checked_items, function_name}
use Rattle.check_programs.specs.Progress.{Progress}
use Rattle.pt_core.specs.CodeTree.{GlobalTree, ProgramTree}
use Rattle.pt_core.specs.WellFormed.{function_at}
use Rattle.half_trees.specs.Names.{local_name, global_name}
use Rattle.half_trees.specs.Declarations.{global_item}
use Rattle.half_trees.specs.Halves.{prototype_of}
use Rattle.half_meaning_law.specs.Known.{type_as, function_id}
use Rattle.half_names_law.specs.Standing.{Marks}
use Rattle.half_names_law.proofs.Tables.{Differ, listed_more}
use Rattle.half_names_law.proofs.Parameters.{ParametersFit}
use Rattle.half_names_law.proofs.Heads.{declaration_by, file_env}
use Rattle.half_names_law.proofs.Prototypes.{Rest, at, marked_param, prototype_as, with_prototype, prototype_added}
use Rattle.half_names_law.proofs.Globals.{GlobalFits, with_global_tree, global_added}
use Rattle.half_names_law.proofs.Table.{then_rest}
use Rattle.half_names_law.proofs.Names.{own, text_name, callable_in, function_entry, global_entry, global_object, functions_file, globals_file, FunctionsApart, GlobalsApart, function_new, global_new}
use Rattle.half_names_law.proofs.Known.{own_name}

-- ---- where the walk gets to

abbrev then_all : Checked → Checked → Checked
then_all one rest = record { progress = rest.progress; faults = one.faults ++ rest.faults }

-- without a fault, with these names and structs, and what else holds
pub record Reaches (c : Checked) (env : Env) (structs : Structs) (P : Rest → Type 0) : Type 0 where
  pub rest : Rest
  pub is : c ≡ record { progress = at env structs rest; faults = [] }
  pub holds : P rest

pub items_joined : (marks : Marks) (xs ys : List ItemTree) (st : Progress) → checked_items marks st (xs ++ ys) ≡ then_rest marks ys (checked_items marks st xs)
items_joined marks [] ys st = refl
items_joined marks (x ∷ xs) ys st =
    ap (then_all (checked_item (marks (function_name x)) st x)) (items_joined marks xs ys (checked_item (marks (function_name x)) st x).progress)
    ∙ (λ i. record {
      progress = (checked_items marks (checked_items marks (checked_item (marks (function_name x)) st x).progress xs).progress ys).progress;
      faults = sym (append_assoc (checked_item (marks (function_name x)) st x).faults (checked_items marks (checked_item (marks (function_name x)) st x).progress xs).faults (checked_items marks (checked_items marks (checked_item (marks (function_name x)) st x).progress xs).progress ys).faults) i;
    })

-- one list of items after the other
pub reaches_both : (marks : Marks) (start env env' : Env) (structs structs' structs'' : Structs) (r : Rest) (P Q : Rest → Type 0) (xs ys : List ItemTree) → Reaches (checked_items marks (at start structs r) xs) env structs' P
    → ((r' : Rest) → P r' → Reaches (checked_items marks (at env structs' r') ys) env' structs'' Q) → Reaches (checked_items marks (at start structs r) (xs ++ ys)) env' structs'' Q
reaches_both marks start env env' structs structs' structs'' r P Q xs ys first then_on =
    let more = then_on first.rest first.holds in
    record {
      rest = more.rest;
      is = items_joined marks xs ys (at start structs r) ∙ ap (then_rest marks ys) first.is ∙ more.is;
      holds = more.holds;
    }

-- ---- prototypes

-- what a prototype's declaration asks for, where the program says this of functions
pub record SignatureFits (marks : Marks) (monitor : Bool) (p : ProgramTree) (structs : Structs) (s : ℕ × Signature) : Type 0 where
  pub declassify : (own monitor p s).declassify ≡ true → (marks (text_name s)).privileged ≡ true
  pub parameters : ParametersFit (marks (text_name s)) structs p.structs (map marked_param (own monitor p s).params)
  pub few : length (map marked_param (own monitor p s).params) ≤ 8

abbrev pub SignaturesFit : Marks → Bool → ProgramTree → Structs → List (ℕ × Signature) → Type 0
SignaturesFit marks monitor p structs [] = Unit {0}
SignaturesFit marks monitor p structs (s ∷ ss) = SignatureFits marks monitor p structs s × SignaturesFit marks monitor p structs ss

-- a function stands at its place, as its prototype has it
pub record Entry (marks : Marks) (monitor : Bool) (p : ProgramTree) (fs : List FunctionTree) (k : ℕ) (s : ℕ × Signature) : Type 0 where
  pub entry : FunctionTree
  pub there : slice_get fs k ≡ Some entry
  pub signature : entry.signature ≡ signature_of (marks (text_name s)) (callable_in monitor p s)

-- the functions so far have no bodies yet, and there are no globals
pub record Declared (marks : Marks) (monitor : Bool) (p : ProgramTree) (done : List (ℕ × Signature)) (r : Rest) : Type 0 where
  pub bodiless : (k : ℕ) → has_body r.functions (function_id k) ≡ false
  pub none : r.cells ≡ 0
  pub no_globals : r.globals ≡ []
  pub long : length r.functions ≡ length done
  pub entries : (k : ℕ) (s : ℕ × Signature) → slice_get done k ≡ Some s → Entry marks monitor p r.functions k s

one_more_entry : (marks : Marks) (monitor : Bool) (p : ProgramTree) (done : List (ℕ × Signature)) (s : ℕ × Signature) (fs : List FunctionTree) (e : FunctionTree) → length fs ≡ length done → e.signature ≡ signature_of (marks (text_name s)) (callable_in monitor p s)
    → ((k : ℕ) (a : ℕ × Signature) → slice_get done k ≡ Some a → Entry marks monitor p fs k a) → (k : ℕ) (a : ℕ × Signature) → slice_get (done ++ s ∷ []) k ≡ Some a → Entry marks monitor p (fs ++ e ∷ []) k a
one_more_entry marks monitor p done s fs e long is entries =
    each_pushed (Entry marks monitor p (fs ++ e ∷ [])) done s
    (λ k a at. let old = entries k a at in let low = get_below_length done k a at in record { entry = old.entry; there = get_before fs (e ∷ []) k (omega (arith, low, long)) ∙ old.there; signature = old.signature })
    (record { entry = e; there = ap (slice_get (fs ++ e ∷ [])) (sym long) ∙ get_pushed fs e; signature = is })

item_is : (monitor : Bool) (p : ProgramTree) (s : ℕ × Signature) → prototype_of monitor p s ≡ parsed.function (declaration_by p.structs (text_name s) (own monitor p s) (map marked_param (own monitor p s).params) None)
item_is monitor p s =
    prototype_as p.structs s.0 (own monitor p s)
    ∙ ap (λ name. parsed.function (declaration_by p.structs name (own monitor p s) (map marked_param (own monitor p s).params) None)) (own_name monitor (function_at p s.0) s.1 s.0)

still_bodiless : (fs : List FunctionTree) (f : FunctionTree) → f.body ≡ None → ((k : ℕ) → has_body fs (function_id k) ≡ false) → (k : ℕ) → has_body (fs ++ f ∷ []) (function_id k) ≡ false
still_bodiless [] f none before zero = ap is_some none
still_bodiless [] f none before (suc k) = refl
still_bodiless (g ∷ fs) f none before zero = before 0
still_bodiless (g ∷ fs) f none before (suc k) = still_bodiless fs f none (λ j. before (suc j)) k

one_prototype : (marks : Marks) (monitor : Bool) (p : ProgramTree) (structs : Structs) (r : Rest) (done : List (ℕ × Signature)) (s : ℕ × Signature) → SignatureFits marks monitor p structs s → Differ local_name 8
    → ((j : ℕ) (a : ℕ × Signature) → slice_get done j ≡ Some a → text_name s ≡ text_name a → ⊥)
    → checked_item (marks (function_name (prototype_of monitor p s))) (at (file_env (functions_file done) (map (callable_in monitor p) done) []) structs r) (prototype_of monitor p s)
    ≡ record { progress = at (file_env (functions_file (done ++ s ∷ [])) (map (callable_in monitor p) (done ++ s ∷ [])) []) structs (with_prototype r (marks (text_name s)) (callable_in monitor p s) (map marked_param (own monitor p s).params)); faults = [] }
one_prototype marks monitor p structs r done s fits differ new =
    ap (λ item. checked_item (marks (function_name item)) (at (file_env (functions_file done) (map (callable_in monitor p) done) []) structs r) item) (item_is monitor p s)
    ∙ prototype_added (marks (text_name s)) (functions_file done) (map (callable_in monitor p) done) [] structs r p.structs (text_name s) (own monitor p s) (map marked_param (own monitor p s).params)
    fits.declassify fits.parameters fits.few differ (function_new done (text_name s) new)
    ∙ (λ i. record {
      progress = at (file_env (file_grown i) (sym (map-append (callable_in monitor p) done (s ∷ [])) i) []) structs (with_prototype r (marks (text_name s)) (callable_in monitor p s) (map marked_param (own monitor p s).params));
      faults = [];
    })
  where
    count : length (map (callable_in monitor p) done) ≡ length done
    count = length_map (callable_in monitor p) done

    file_grown : functions_file done ++ function_entry (length (map (callable_in monitor p) done)) s ∷ [] ≡ functions_file (done ++ s ∷ [])
    file_grown = ap (λ n. functions_file done ++ function_entry n s ∷ []) count ∙ sym (listed_more function_entry 0 (length done) done (s ∷ []) (omega arith))

pub prototypes_added : (marks : Marks) (monitor : Bool) (p : ProgramTree) (structs : Structs) (all done ss : List (ℕ × Signature)) (r : Rest) → done ++ ss ≡ all → FunctionsApart all → SignaturesFit marks monitor p structs ss → Differ local_name 8 → Declared marks monitor p done r
    → Reaches (checked_items marks (at (file_env (functions_file done) (map (callable_in monitor p) done) []) structs r) (map (prototype_of monitor p) ss)) (file_env (functions_file all) (map (callable_in monitor p) all) []) structs (Declared marks monitor p all)
prototypes_added marks monitor p structs all done [] r whole apart fit differ before = record {
  rest = r;
  is = λ i. record { progress = at (file_env (functions_file (there i)) (map (callable_in monitor p) (there i)) []) structs r; faults = [] };
  holds = subst (λ xs. Declared marks monitor p xs r) there before;
}
  where
    nothing_more : {A : Type 0} (xs : List A) → xs ++ [] ≡ xs
    nothing_more [] = refl
    nothing_more (x ∷ xs) = ap (λ ys. x ∷ ys) (nothing_more xs)

    there : done ≡ all
    there = sym (nothing_more done) ∙ whole
prototypes_added marks monitor p structs all done (s ∷ ss) r whole apart fit differ before =
    let again = prototypes_added marks monitor p structs all (done ++ s ∷ []) ss
    (with_prototype r (marks (text_name s)) (callable_in monitor p s) (map marked_param (own monitor p s).params)) (append_assoc done (s ∷ []) ss ∙ whole) apart fit.1 differ
    (record {
      bodiless = still_bodiless r.functions _ refl before.bodiless;
      none = before.none;
      no_globals = before.no_globals;
      long = longer r.functions done _ s before.long;
      entries = one_more_entry marks monitor p done s r.functions _ before.long refl before.entries;
    }) in
    record {
      rest = again.rest;
      is = ap (then_rest marks (map (prototype_of monitor p) ss)) (one_prototype marks monitor p structs r done s fit.0 differ (new_name whole apart)) ∙ again.is;
      holds = again.holds;
    }
  where
    longer : {A B : Type 0} (xs : List A) (ys : List B) (x : A) (y : B) → length xs ≡ length ys → length (xs ++ x ∷ []) ≡ length (ys ++ y ∷ [])
    longer xs ys x y h = let left = length-append xs (x ∷ []) in let right = length-append ys (y ∷ []) in omega (arith, h, left, right)

    new_name : done ++ s ∷ ss ≡ all → FunctionsApart all → (j : ℕ) (a : ℕ × Signature) → slice_get done j ≡ Some a → text_name s ≡ text_name a → ⊥
    new_name whole apart j a here same =
        let low = get_below_length done j a here in
        let at_j : slice_get all j ≡ Some a = ap (λ xs. slice_get xs j) (sym whole) ∙ get_before done (s ∷ ss) j low ∙ here in
        let at_s : slice_get all (length done) ≡ Some s = ap (λ xs. slice_get xs (length done)) (sym whole) ∙ get_seam done s ss in
        let equal = apart (length done) j s a at_s at_j same in omega (arith, low, equal)

-- ---- globals

abbrev pub GlobalFitsIn : Structs → List StructInfo → GlobalTree → Type 0
GlobalFitsIn structs infos g = GlobalFits structs infos g.var.ty g.var.marked g.var.unpriv g.cells × (cells_of structs (type_as g.var.ty) ≤ length g.cells)

abbrev pub GlobalsFit : Structs → List StructInfo → List GlobalTree → Type 0
GlobalsFit structs infos [] = Unit {0}
GlobalsFit structs infos (g ∷ gs) = GlobalFitsIn structs infos g × GlobalsFit structs infos gs

-- the cells of these globals
abbrev pub cells_together : List GlobalTree → ℕ
cells_together gs = sum_by (λ g. length g.cells) gs

-- the functions stay, and the globals have these types and start with these cells
pub record Filled (fs : List FunctionTree) (gs : List GlobalTree) (r : Rest) : Type 0 where
  pub same : r.functions ≡ fs
  pub types : map (λ g. g.var.ty) r.globals ≡ map (λ g. g.var.ty) gs
  pub cells : map (λ g. g.cells) r.globals ≡ map (λ g. g.cells) gs

pub globals_added : (marks : Marks) (p : ProgramTree) (fs : List (ℕ × Signature)) (callables : List Callable) (structs : Structs) (all done gs : List GlobalTree) (trees : List FunctionTree) (r : Rest) → done ++ gs ≡ all → GlobalsApart all → GlobalsFit structs p.structs gs
    → r.cells + cells_together gs ≤ 1048576 → Filled trees done r
    → Reaches (checked_items marks (at (file_env (functions_file fs ++ globals_file done) callables (map global_object done)) structs r) (map (global_item p.structs) gs)) (file_env (functions_file fs ++ globals_file all) callables (map global_object all)) structs (Filled trees all)
globals_added marks p fs callables structs all done [] trees r whole apart fit few same = record {
  rest = r;
  is = λ i. record { progress = at (file_env (functions_file fs ++ globals_file (there i)) callables (map global_object (there i))) structs r; faults = [] };
  holds = subst (λ xs. Filled trees xs r) there same;
}
  where
    nothing_more : {A : Type 0} (xs : List A) → xs ++ [] ≡ xs
    nothing_more [] = refl
    nothing_more (x ∷ xs) = ap (λ ys. x ∷ ys) (nothing_more xs)

    there : done ≡ all
    there = sym (nothing_more done) ∙ whole
globals_added marks p fs callables structs all done (g ∷ gs) trees r whole apart fit few same =
    let sums = sum_by-cons (λ (x : GlobalTree). length x.cells) g gs in
    let own = fit.0.1 in
    let one = global_added (functions_file fs ++ globals_file done) callables (map global_object done) structs r p.structs g.id g.var.ty g.var.marked g.var.unpriv g.cells fit.0.0
    (global_new fs done g.id (new_name whole apart)) (omega (arith, few, sums, own)) in
    let less = counted_less (r.cells + cells_of structs (type_as g.var.ty)) in
    let again = globals_added marks p fs callables structs all (done ++ g ∷ []) gs trees (with_global_tree r one.0 (cells_of structs (type_as g.var.ty))) (append_assoc done (g ∷ []) gs ∙ whole) apart fit.1
    (omega (arith, few, sums, own, less))
    (record { same = same.same; types = map-append (λ (x : TypedGlobal). x.var.ty) r.globals (one.0 ∷ []) ∙ (λ i. same.types i ++ one.2 i ∷ []) ∙ sym (map-append (λ (x : GlobalTree). x.var.ty) done (g ∷ [])); cells = map-append (λ (x : TypedGlobal). x.cells) r.globals (one.0 ∷ []) ∙ (λ i. same.cells i ++ one.3 i ∷ []) ∙ sym (map-append (λ (x : GlobalTree). x.cells) done (g ∷ [])) }) in
    record {
      rest = again.rest;
      is =
          ap (then_rest marks (map (global_item p.structs) gs))
          (one.1 ∙ (λ i. record {
            progress = at (file_env (file_grown i) callables (sym (map-append global_object done (g ∷ [])) i)) structs (with_global_tree r one.0 (cells_of structs (type_as g.var.ty)));
            faults = [];
          }))
          ∙ again.is;
      holds = again.holds;
    }
  where
    counted_less : (n : ℕ) → counted n ≤ n
    counted_less n = omega arith

    count : length (map global_object done) ≡ length done
    count = length_map global_object done

    file_grown : (functions_file fs ++ globals_file done) ++ global_entry (length (map global_object done)) g ∷ [] ≡ functions_file fs ++ globals_file (done ++ g ∷ [])
    file_grown =
        ap (λ n. (functions_file fs ++ globals_file done) ++ global_entry n g ∷ []) count
        ∙ append_assoc (functions_file fs) (globals_file done) (global_entry (length done) g ∷ [])
        ∙ ap (λ gs. functions_file fs ++ gs) (sym (listed_more global_entry 0 (length done) done (g ∷ []) (omega arith)))

    new_name : done ++ g ∷ gs ≡ all → GlobalsApart all → (j : ℕ) (a : GlobalTree) → slice_get done j ≡ Some a → global_name g.id ≡ global_name a.id → ⊥
    new_name whole apart j a here same =
        let low = get_below_length done j a here in
        let at_j : slice_get all j ≡ Some a = ap (λ xs. slice_get xs j) (sym whole) ∙ get_before done (g ∷ gs) j low ∙ here in
        let at_g : slice_get all (length done) ≡ Some g = ap (λ xs. slice_get xs (length done)) (sym whole) ∙ get_seam done g gs in
        let equal = apart (length done) j g a at_g at_j same in omega (arith, low, equal)
