-- What a sound half has whose text can declare it: its types, parameters and variables fit.
use Rattle.std.proofs.Common.{◌≡◌, ◌∙◌, ◌≤◌, sym, ap, refl, subst, ℕ, zero, suc, Bool, true, false, List, [], ◌∷◌, length, map, take, drop, Option, Some, None, arith}
use Rattle.std.specs.Prelude.{◌&&◌, ◌||◌, nat_le, not, is_some, slice_get, get_or, sum_by, if◌then◌else◌}
use Rattle.std.specs.List.{list_all, list_any}
use Rattle.std.proofs.lemmas.Bool.Decides.{nat_tests}
use Rattle.std.proofs.lemmas.List.Sums.{sum_by-cons}
use Rattle.std.proofs.lemmas.Option.{slice_get-get_or}
use Rattle.pt_base.proofs.Booleans.{and_parts, and_with_false}
use Rattle.pt_base.proofs.Members.{all_true_at as all_there}
use Rattle.pt_tree.specs.declared.signature.Param.{Param}
use Rattle.pt_tree.specs.declared.signature.ParamKind.{ParamKind}
use Rattle.pt_tree.specs.declared.signature.ParamKind.TheVariants as k
use Rattle.pt_tree.specs.declared.signature.Signature.{Signature}
use Rattle.pt_tree.specs.declared.signature.Elem.{Elem}
use Rattle.typed_tree.specs.declared.types.StructInfo.{StructInfo}
use Rattle.typed_tree.specs.declared.types.VarTy.{VarTy}
use Rattle.typed_tree.specs.declared.types.VarTy.TheVariants.{Int, Struct, Array, Pointer}
use Rattle.typed_tree.specs.declared.variable.Var.{Var}
use Rattle.typed_tree.specs.Cells.{leaves_of}
use Rattle.typed_tree.specs.Sizes.{fields_of}
use Rattle.typed_tree.specs.TypeTests.{same_type, same_bool}
use Rattle.typed_tree.specs.WellFormed.{are_distinct, is_plain_type, is_variable_type, is_small, structs_sound, params_lead, cells_fit}
use Rattle.typed_tree.specs.WellFormedExpression.{is_elem, param_type}
use Rattle.check_declarations.specs.declared.objects.ObjectKind.TheVariants as kind
use Rattle.check_declarations.specs.Cells.{cells_of}
use Rattle.check_declarations.specs.Structs.{Structs}
use Rattle.check_programs.specs.declared.function_marks.FunctionMarks.{FunctionMarks}
use Rattle.pt_core.specs.CodeTree.{GlobalTree, FunctionTree, ProgramTree}
use Rattle.pt_core.specs.WellFormed.{global_fits, variable_fits, param_fits, signature_fits, function_at, with_own}
use Rattle.half_trees.specs.Names.{struct_name, field_by}
use Rattle.half_trees.specs.Declarations.{is_pointer}
use Rattle.half_meaning_law.specs.Known.{type_as}
use Rattle.typed_tree.proofs.SameTypes.{equal_types}
use Rattle.half_names_law.specs.Declarable.{field_names, struct_names, is_mutable, is_pointer_kind, takes_no_pointer, param_marked, signature_marked, variable_marked, variable_cells, global_marked}
use Rattle.half_names_law.specs.Standing.{Marks}
use Rattle.half_names_law.proofs.Tables.{Differ, differ_from}
use Rattle.half_names_law.proofs.Objects.{Fits, may_be}
use Rattle.half_names_law.proofs.Sizes.{object_few}
use Rattle.half_names_law.proofs.Table.{IsTable, NamesDiffer, plain_fits, plain_is_none, named_elem}
use Rattle.half_names_law.proofs.Parameters.{ParameterFits, ParametersFit}
use Rattle.half_names_law.proofs.Prototypes.{marked_param}
use Rattle.half_names_law.proofs.Locals.{LocalsFit, only_unmarked}
use Rattle.half_names_law.proofs.Integers.{cells_same, numbers_there, cells_there, cells_exact}
use Rattle.half_names_law.proofs.Walk.{SignatureFits, GlobalsFit}
use Rattle.half_names_law.proofs.Names.{text_name}
use Rattle.half_names_law.proofs.Parts.{marked_var}

-- ---- names

pub names_differ : (infos : List StructInfo) → are_distinct (struct_names infos) ≡ true → list_all (λ s. are_distinct (field_names s)) infos ≡ true → NamesDiffer infos
names_differ infos structs fields = record {
  structs = differ_from (struct_name infos) (length infos) structs;
  fields = λ n low. differ_from (field_by (fields_of infos n)) (length (fields_of infos n))
      (all_there (λ s. are_distinct (field_names s)) infos n (get_or infos n (record { name = []; fields = [] })) fields (slice_get-get_or infos n (record { name = []; fields = [] }) low));
}

-- ---- types of variables

-- the table is that of all the half's structs
pub record Whole (structs : Structs) (infos : List StructInfo) : Type 0 where
  pub sound : structs_sound infos 0 infos ≡ true
  pub table : IsTable structs infos (length infos)
  pub differ : Differ (struct_name infos) (length infos)

pointer_fits : (structs : Structs) (infos : List StructInfo) (el : Elem) (fixed : Bool) → Whole structs infos → is_elem (length infos) (Some el) ≡ true → Fits structs infos (Pointer el fixed)
pointer_fits structs infos el fixed whole h = record { named = named_elem structs infos (length infos) el whole.table whole.differ h; dense = refl; small = omega arith }

pub variable_fit : (structs : Structs) (infos : List StructInfo) (u : VarTy) → Whole structs infos → is_variable_type (length infos) u ≡ true → is_small infos u ≡ true → Fits structs infos u
variable_fit structs infos (Int t) whole h small = plain_fits structs infos (length infos) (Int t) whole.sound (omega arith) whole.table whole.differ h small
variable_fit structs infos (Struct n) whole h small = plain_fits structs infos (length infos) (Struct n) whole.sound (omega arith) whole.table whole.differ h small
variable_fit structs infos (Array el count) whole h small = plain_fits structs infos (length infos) (Array el count) whole.sound (omega arith) whole.table whole.differ h small
variable_fit structs infos (Pointer el fixed) whole h small = pointer_fits structs infos el fixed whole h

cells_less : (structs : Structs) (infos : List StructInfo) (u : VarTy) → Whole structs infos → is_variable_type (length infos) u ≡ true → cells_of structs (type_as u) ≤ variable_cells infos u
cells_less structs infos (Int t) whole h = omega arith
cells_less structs infos (Struct n) whole h = object_few structs infos (length infos) (Struct n) whole.table.cells h
cells_less structs infos (Array el count) whole h = object_few structs infos (length infos) (Array el count) whole.table.cells h
cells_less structs infos (Pointer el fixed) whole h = omega arith

pub frame_less : (structs : Structs) (infos : List StructInfo) (xs : List Var) → Whole structs infos → list_all (variable_fits infos) xs ≡ true
    → sum_by (λ x. cells_of structs (type_as x.ty)) xs ≤ sum_by (λ x. variable_cells infos x.ty) xs
frame_less structs infos [] whole h = omega arith
frame_less structs infos (x ∷ xs) whole h =
    let parts = and_parts (variable_fits infos x) (list_all (variable_fits infos) xs) h in
    let own = and_parts (is_variable_type (length infos) x.ty) (is_small infos x.ty) parts.0 in
    let one = cells_less structs infos x.ty whole own.0 in
    let rest = frame_less structs infos xs whole parts.1 in
    let left = sum_by-cons (λ (y : Var). cells_of structs (type_as y.ty)) x xs in
    let right = sum_by-cons (λ (y : Var). variable_cells infos y.ty) x xs in
    omega (arith, one, rest, left, right)

-- ---- tests of two

pub implied : (a b : Bool) → (not a || b) ≡ true → a ≡ true → b ≡ true
implied true b h e = h
implied false b h e = cc

not_both : (a b : Bool) → not (a && b) ≡ true → b ≡ true → not a ≡ true
not_both true b h e = sym (ap not e) ∙ h
not_both false b h e = refl

-- ---- parameters of prototypes

param_fit : (m : FunctionMarks) (structs : Structs) (infos : List StructInfo) (s : Signature) (kind : ParamKind) (marked declassify : Bool) → Whole structs infos → m.privileged ≡ s.privileged → (is_pointer_kind kind ≡ true → m.defined ≡ true)
    → is_variable_type (length infos) (param_type kind) ≡ true → (not declassify || (s.privileged && is_mutable kind)) ≡ true
    → ParameterFits m structs infos (record { ty = param_type kind; marked = marked; unpriv = false; declassify = declassify })
param_fit m structs infos s (k.Int t) marked declassify whole same defined h stands = record {
  fits = record { named = tt {0}; dense = refl; small = omega arith };
  may = refl;
  hosts = and_with_false (not m.defined);
  unpriv = λ e. cc;
  declassify = λ e. absurd (never (and_parts s.privileged false (implied declassify (s.privileged && false) stands e)).1);
}
  where
    never : false ≡ true → ⊥
    never e = cc
param_fit m structs infos s (k.Ptr el fixed) marked declassify whole same defined h stands = record {
  fits = pointer_fits structs infos el fixed whole h;
  may = refl;
  hosts = ap (λ d. not d && true) (defined refl);
  unpriv = λ e. cc;
  declassify = λ e.
      let parts = and_parts s.privileged (not fixed) (implied declassify (s.privileged && not fixed) stands e) in
      (λ i. same i && (not (not (defined refl i)) && (true && not fixed))) ∙ (λ i. parts.0 i && (true && parts.1 i));
}

pub params_fit : (m : FunctionMarks) (structs : Structs) (infos : List StructInfo) (s : Signature) (ps : List Param) → Whole structs infos → m.privileged ≡ s.privileged → (list_all (λ x. not (is_pointer_kind x.kind)) ps ≡ false → m.defined ≡ true)
    → list_all (param_fits (length infos)) ps ≡ true → list_all (param_marked s) ps ≡ true → ParametersFit m structs infos (map marked_param ps)
params_fit m structs infos s [] whole same defined h stands = tt {0}
params_fit m structs infos s (x ∷ ps) whole same defined h stands =
    let parts = and_parts (param_fits (length infos) x) (list_all (param_fits (length infos)) ps) h in
    let marks = and_parts (param_marked s x) (list_all (param_marked s) ps) stands in (
      param_fit m structs infos s x.kind x.marked x.declassify whole same (λ e. defined (λ i. not (e i) && list_all (λ y. not (is_pointer_kind y.kind)) ps)) parts.0 marks.0,
      params_fit m structs infos s ps whole same (λ e. defined ((λ i. not (is_pointer_kind x.kind) && e i) ∙ and_with_false (not (is_pointer_kind x.kind)))) parts.1 marks.1,
    )

pub first_fit : (m : FunctionMarks) (structs : Structs) (infos : List StructInfo) (n : ℕ) (ps : List Param) → ParametersFit m structs infos (map marked_param ps) → ParametersFit m structs infos (map marked_param (take n ps))
first_fit m structs infos zero ps fit = tt {0}
first_fit m structs infos (suc n) [] fit = tt {0}
first_fit m structs infos (suc n) (x ∷ ps) fit = (fit.0, first_fit m structs infos n ps fit.1)

own_fit : (m : FunctionMarks) (structs : Structs) (infos : List StructInfo) (monitor : Bool) (o : Option FunctionTree) (s : Signature) → ParametersFit m structs infos (map marked_param s.params) → ParametersFit m structs infos (map marked_param (with_own monitor o s).params)
own_fit m structs infos monitor None s fit = fit
own_fit m structs infos monitor (Some f) s fit = go (monitor && not s.host)
  where
    go : (b : Bool) → ParametersFit m structs infos (map marked_param (if b then record s { params = take f.params s.params } else s).params)
    go true = first_fit m structs infos f.params s.params fit
    go false = fit

own_few : (monitor : Bool) (o : Option FunctionTree) (s : Signature) → length s.params ≤ 8 → length (map marked_param (with_own monitor o s).params) ≤ 8
own_few monitor None s few = let same = mapped s.params in omega (arith, same, few)
  where
    mapped : (ps : List Param) → length (map marked_param ps) ≡ length ps
    mapped [] = refl
    mapped (p ∷ ps) = ap suc (mapped ps)
own_few monitor (Some f) s few = go (monitor && not s.host)
  where
    mapped : (ps : List Param) → length (map marked_param ps) ≡ length ps
    mapped [] = refl
    mapped (p ∷ ps) = ap suc (mapped ps)

    less : (n : ℕ) (ps : List Param) → length (map marked_param (take n ps)) ≤ length ps
    less zero ps = omega arith
    less (suc n) [] = omega arith
    less (suc n) (p ∷ ps) = let again = less n ps in omega (arith, again)

    go : (b : Bool) → length (map marked_param (if b then record s { params = take f.params s.params } else s).params) ≤ 8
    go true = let fewer = less f.params s.params in omega (arith, fewer, few)
    go false = let same = mapped s.params in omega (arith, same, few)

own_declassify : (monitor : Bool) (o : Option FunctionTree) (s : Signature) → (with_own monitor o s).declassify ≡ s.declassify
own_declassify monitor None s = refl
own_declassify monitor (Some f) s = go (monitor && not s.host)
  where
    go : (b : Bool) → (if b then record s { params = take f.params s.params } else s).declassify ≡ s.declassify
    go true = refl
    go false = refl

-- ---- prototypes

-- what the program says of the functions of a half
pub record MarksSay (marks : Marks) (p : ProgramTree) : Type 0 where
  pub privileged : (n : ℕ) (s : ℕ × Signature) → slice_get p.signatures n ≡ Some s → (marks (text_name s)).privileged ≡ s.1.privileged
  pub bodies : (n : ℕ) (s : ℕ × Signature) → slice_get p.signatures n ≡ Some s → is_some (function_at p s.0) ≡ true → (marks (text_name s)).defined ≡ true
  pub pointers : (n : ℕ) (s : ℕ × Signature) → slice_get p.signatures n ≡ Some s → takes_no_pointer s.1 ≡ false → (marks (text_name s)).defined ≡ true

pub signature_fit : (marks : Marks) (monitor : Bool) (p : ProgramTree) (structs : Structs) (n : ℕ) (s : ℕ × Signature) → Whole structs p.structs → MarksSay marks p → slice_get p.signatures n ≡ Some s
    → signature_fits p.structs s.1 ≡ true → signature_marked s.1 ≡ true → SignatureFits marks monitor p structs s
signature_fit marks monitor p structs n s whole say there fits stands =
    let first = and_parts (nat_le (length s.1.params) 8 && list_all (param_fits (length p.structs)) s.1.params) _ fits in
    let own_parts = and_parts (nat_le (length s.1.params) 8) (list_all (param_fits (length p.structs)) s.1.params) first.0 in
    let marked = and_parts (not s.1.declassify || s.1.privileged) (list_all (param_marked s.1) s.1.params) stands in
    let same = say.privileged n s there in
    record {
      declassify = λ e. same ∙ implied s.1.declassify s.1.privileged marked.0 (sym (own_declassify monitor (function_at p s.0) s.1) ∙ e);
      parameters = own_fit (marks (text_name s)) structs p.structs monitor (function_at p s.0) s.1 (params_fit (marks (text_name s)) structs p.structs s.1 s.1.params whole same (say.pointers n s there) own_parts.1 marked.1);
      few = own_few monitor (function_at p s.0) s.1 (at_most (length s.1.params) own_parts.0);
    }
  where
    at_most : (k : ℕ) → nat_le k 8 ≡ true → k ≤ 8
    at_most k h = grind (arith, nat_tests, h)

-- ---- globals

pub globals_fit : (p : ProgramTree) (structs : Structs) (gs : List GlobalTree) → Whole structs p.structs → list_all (global_fits p.structs) gs ≡ true → list_all global_marked gs ≡ true → GlobalsFit structs p.structs gs
globals_fit p structs [] whole fits stands = tt {0}
globals_fit p structs (g ∷ gs) whole fits stands =
    let parts = and_parts (global_fits p.structs g) (list_all (global_fits p.structs) gs) fits in
    let marks = and_parts (global_marked g) (list_all global_marked gs) stands in
    let own_parts = and_parts (is_plain_type (length p.structs) g.var.ty && is_small p.structs g.var.ty) (cells_fit (leaves_of p.structs g.var.ty) g.cells) parts.0 in
    let typed = and_parts (is_plain_type (length p.structs) g.var.ty) (is_small p.structs g.var.ty) own_parts.0 in
    let fit = plain_fits structs p.structs (length p.structs) g.var.ty whole.sound (omega arith) whole.table whole.differ typed.0 typed.1 in
    let less = object_few structs p.structs (length p.structs) g.var.ty whole.table.cells typed.0 in
    let long = cells_exact (leaves_of p.structs g.var.ty) g.cells own_parts.1 in (
      (
        record {
          fits = fit;
          plain = plain_is_none (length p.structs) g.var.ty typed.0;
          unmarked = not_both g.var.marked g.var.unpriv marks.0;
          cells_there = cells_there structs p.structs g.var.ty g.cells whole.table fit typed.0 own_parts.1;
          numbers = numbers_there structs p.structs g.var.ty g.cells whole.table fit typed.0 own_parts.1;
          exact = cells_same structs p.structs g.var.ty g.cells whole.table fit typed.0 own_parts.1;
        },
        omega (arith, less, long),
      ),
      globals_fit p structs gs whole parts.1 marks.1,
    )

-- ---- variables of functions

pub locals_fit : (structs : Structs) (infos : List StructInfo) (xs : List Var) → Whole structs infos → list_all (variable_fits infos) xs ≡ true → LocalsFit structs infos xs
locals_fit structs infos [] whole fits = tt {0}
locals_fit structs infos (x ∷ xs) whole fits =
    let parts = and_parts (variable_fits infos x) (list_all (variable_fits infos) xs) fits in
    let typed = and_parts (is_variable_type (length infos) x.ty) (is_small infos x.ty) parts.0 in
    (record { fits = variable_fit structs infos x.ty whole typed.0 typed.1 }, locals_fit structs infos xs whole parts.1)

param_may : (x : ParamKind) → may_be kind.Parameter (param_type x) ≡ true
param_may (k.Int t) = refl
param_may (k.Ptr el fixed) = refl

-- a parameter of a definition
definition_param : (m : FunctionMarks) (structs : Structs) (infos : List StructInfo) (s : Signature) (y : Param) (x : Var) → Whole structs infos → m.privileged ≡ s.privileged → m.defined ≡ true → param_type y.kind ≡ x.ty
    → variable_fits infos x ≡ true → (not s.privileged || not x.unpriv) ≡ true → ParameterFits m structs infos (marked_var x)
definition_param m structs infos s y x whole same defined is fits plain =
    let typed = and_parts (is_variable_type (length infos) x.ty) (is_small infos x.ty) fits in
    record {
      fits = variable_fit structs infos x.ty whole typed.0 typed.1;
      may = subst (λ u. may_be kind.Parameter u ≡ true) is (param_may y.kind);
      hosts = (λ i. not (defined i) && (is_pointer x.ty || false));
      unpriv = λ e.
          let unmarked = only_unmarked x.unpriv x.marked e in
          let other = not_private s.privileged x.unpriv plain (first_so x.unpriv (not x.marked) e) in
          (λ i. not (x.marked || ((same ∙ other) i || not (defined i)))) ∙ (λ i. not (not_true x.marked unmarked i || false));
      declassify = λ e. cc;
    }
  where
    first_so : (a b : Bool) → (a && b) ≡ true → a ≡ true
    first_so true b h = refl
    first_so false b h = cc

    not_private : (a b : Bool) → (not a || not b) ≡ true → b ≡ true → a ≡ false
    not_private true true h e = cc
    not_private true false h e = cc
    not_private false b h e = refl

    not_true : (a : Bool) → not a ≡ true → a ≡ false
    not_true true h = cc
    not_true false h = refl

pub definition_params : (m : FunctionMarks) (structs : Structs) (infos : List StructInfo) (s : Signature) (ps : List Param) (n : ℕ) (xs : List Var) → length ps ≡ n → Whole structs infos → m.privileged ≡ s.privileged → m.defined ≡ true
    → params_lead ps xs ≡ true → list_all (variable_fits infos) xs ≡ true → (not s.privileged || not (list_any (λ x. x.unpriv) (take n xs))) ≡ true → ParametersFit m structs infos (map marked_var (take n xs))
definition_params m structs infos s ps zero xs long whole same defined lead fits plain = tt {0}
definition_params m structs infos s [] (suc n) xs long whole same defined lead fits plain = absurd (omega (arith, long))
definition_params m structs infos s (y ∷ ps) (suc n) [] long whole same defined lead fits plain = tt {0}
definition_params m structs infos s (y ∷ ps) (suc n) (x ∷ xs) long whole same defined lead fits plain =
    let leads = and_parts (same_type (param_type y.kind) x.ty && same_bool y.marked x.marked) (params_lead ps xs) lead in
    let is = equal_types (param_type y.kind) x.ty (and_parts (same_type (param_type y.kind) x.ty) (same_bool y.marked x.marked) leads.0).0 in
    let parts = and_parts (variable_fits infos x) (list_all (variable_fits infos) xs) fits in (
      definition_param m structs infos s y x whole same defined is parts.0 (first_plain s.privileged x.unpriv (list_any (λ z. z.unpriv) (take n xs)) plain),
      definition_params m structs infos s ps n xs (omega (arith, long)) whole same defined leads.1 parts.1 (rest_plain s.privileged x.unpriv (list_any (λ z. z.unpriv) (take n xs)) plain),
    )
  where
    first_plain : (a b c : Bool) → (not a || not (b || c)) ≡ true → (not a || not b) ≡ true
    first_plain true true c h = h
    first_plain true false c h = refl
    first_plain false b c h = refl

    rest_plain : (a b c : Bool) → (not a || not (b || c)) ≡ true → (not a || not c) ≡ true
    rest_plain true true c h = cc
    rest_plain true false c h = h
    rest_plain false b c h = refl

pub dropped_all : (q : Var → Bool) (n : ℕ) (xs : List Var) → list_all q xs ≡ true → list_all q (drop n xs) ≡ true
dropped_all q zero xs h = h
dropped_all q (suc n) [] h = refl
dropped_all q (suc n) (x ∷ xs) h = dropped_all q n xs (and_parts (q x) (list_all q xs) h).1
