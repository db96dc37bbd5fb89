-- What the declarations of a function's variables in a half's text add, behind its parameters.
use Rattle.std.proofs.Common.{◌≡◌, ◌^◌, ◌++◌, ◌∙◌, ◌≤◌, ◌+◌, sym, ap, refl, ℕ, suc, Bool, true, false, List, [], ◌∷◌, length, arith}
use Rattle.std.specs.Prelude.{not, ◌&&◌, if◌then◌else◌}
use Rattle.std.proofs.lemmas.List.{append_assoc, length-append}
use Rattle.pt_tree.specs.StatementTree as s
use Rattle.pt_tree.specs.StatementTree.{DeclarationTree, StmtTree, no_init, stmt_trees}
use Rattle.type_rules.specs.declared.types.Type.{«Type»}
use Rattle.typed_tree.specs.declared.types.StructInfo.{StructInfo}
use Rattle.typed_tree.specs.declared.types.VarTy.{VarTy}
use Rattle.typed_tree.specs.declared.types.VarTy.TheVariants.{Int, Struct, Array, Pointer}
use Rattle.typed_tree.specs.declared.variable.Var.{Var}
use Rattle.typed_tree.specs.declared.statement.TypedInit.TheVariants as i
use Rattle.typed_tree.specs.StatementTree as t
use Rattle.typed_tree.specs.StatementTree.{BodyTree}
use Rattle.check_declarations.specs.declared.fault.FaultKind.TheVariants.{Redeclared}
use Rattle.check_declarations.specs.declared.fault.TypeFault.{TypeFault}
use Rattle.check_declarations.specs.declared.marks.Carrier.TheVariants as carrier
use Rattle.check_declarations.specs.declared.marks.Marks.{Marks}
use Rattle.check_declarations.specs.declared.objects.ObjectKind.TheVariants as kind
use Rattle.check_declarations.specs.Faults.{fault_if}
use Rattle.check_declarations.specs.Marks.{mark_faults}
use Rattle.check_declarations.specs.NameTables.{is_new}
use Rattle.check_declarations.specs.Objects.{object_type}
use Rattle.check_declarations.specs.Specifiers as spec
use Rattle.check_declarations.specs.Structs.{Structs}
use Rattle.check_expressions.specs.declared.meaning.Meaning.TheVariants.{Local}
use Rattle.check_expressions.specs.declared.meaning.Variable.{Variable}
use Rattle.check_expressions.specs.Environment.{Env, Scope}
use Rattle.check_statements.specs.declared.context.Context as k
use Rattle.check_statements.specs.Declarations.{Declaring, declared_all, carrier_of}
use Rattle.check_statements.specs.Outermost.{State}
use Rattle.check_statements.specs.Statements.{Checked, CheckedAll, checked, checked_all}
use Rattle.half_trees.specs.Names.{nowhere, local_name}
use Rattle.half_trees.specs.Declarations.{is_pointer, suffix_of, object}
use Rattle.half_trees.specs.Functions.{is_only_unpriv, variable_marks, locals_from}
use Rattle.half_meaning_law.specs.Known.{type_as}
use Rattle.half_names_law.proofs.Tables.{Differ, listed, listed_more}
use Rattle.half_names_law.proofs.Specifiers.{marks_list, object_says, marks_are, marks_stand}
use Rattle.half_names_law.proofs.Objects.{may_be, Fits, declares, given_as, sized}
use Rattle.half_names_law.proofs.Parameters.{local_entry, local_new, scoped}

pub only_unmarked : (a b : Bool) → (a && not b) ≡ true → not b ≡ true
only_unmarked true b h = h
only_unmarked false b h = cc

-- a variable as the judgments have it
abbrev pub local_as : ℕ → Var → Variable
local_as k x = record { name = local_name k; span = nowhere; ty = type_as x.ty; fixed = false; marked = x.marked; unpriv = is_only_unpriv x }

pub record LocalFits (structs : Structs) (infos : List StructInfo) (x : Var) : Type 0 where
  pub fits : Fits structs infos x.ty

abbrev pub LocalsFit : Structs → List StructInfo → List Var → Type 0
LocalsFit structs infos [] = Unit {0}
LocalsFit structs infos (x ∷ xs) = LocalFits structs infos x × LocalsFit structs infos xs

abbrev pub local_tree : List StructInfo → ℕ → Var → DeclarationTree
local_tree infos k x = object infos (variable_marks x) x.ty (local_name k) no_init

abbrev by_specs : State → DeclarationTree → spec.Judged → Declaring
by_specs st d j =
    let all = declared_all j.given (record { env = st.env; structs = j.structs; next = st.next }) d.declarators in
    record { state = all.state; declaration = record { span = d.span; declarators = all.declarators }; trees = all.trees; faults = j.faults ++ mark_faults (carrier_of d.declarators) j.given.attributes ++ all.faults }

-- the tree of a declaration of this variable
abbrev pub declaration_tree : ℕ → BodyTree
declaration_tree n = t.declare (record { span = nowhere; declarators = record { var = record { 0 = n }; init = i.Nothing } ∷ [] })

abbrev by_declaring : Declaring → Checked
by_declaring x = record { state = x.state; tree = t.declare x.declaration; trees = x.trees; faults = x.faults }

abbrev by_parts : Env → Scope → List Variable → Structs → ℕ → ℕ → ℕ → «Type» → Bool → Marks → Bool → List TypeFault → List TypeFault → List TypeFault → Checked
by_parts env names variables structs next n count t x ms new of sf mf = record {
  state = record {
    env = scoped env (if new then names ++ (local_name n, Local (record { 0 = count })) ∷ [] else names)
        (variables ++ record { name = local_name n; span = nowhere; ty = t; fixed = x; marked = ms.marked; unpriv = ms.unpriv } ∷ []);
    structs = structs;
    next = next;
  };
  tree = declaration_tree count;
  trees = [];
  faults = [] ++ mf ++ (((of ++ sf ++ fault_if (not new) Redeclared nowhere) ++ []) ++ []);
}

local_may : (u : VarTy) → may_be kind.Local u ≡ true
local_may (Int t) = refl
local_may (Struct n) = refl
local_may (Array elem count) = refl
local_may (Pointer elem fixed) = refl

pub local_added : (c : k.Context) (env : Env) (names : Scope) (variables : List Variable) (structs : Structs) (infos : List StructInfo) (next n : ℕ) (x : Var) → LocalFits structs infos x → length variables ≡ n → is_new names (local_name n) ≡ true
    → checked c (record { env = scoped env names variables; structs = structs; next = next }) (s.declare (local_tree infos n x))
    ≡ record {
      state = record { env = scoped env (names ++ local_entry n x ∷ []) (variables ++ local_as n x ∷ []); structs = structs; next = next };
      tree = declaration_tree n;
      trees = [];
      faults = [];
    }
local_added c env names variables structs infos next n x fits long new =
    let attributes = marks_list x.marked (is_only_unpriv x) false in
    let d = declares kind.Local x.ty attributes (local_may x.ty) fits.fits.dense in
    ap (λ j. by_declaring (by_specs (record { env = scoped env names variables; structs = structs; next = next }) (local_tree infos n x) j)) (object_says false structs infos x.marked (is_only_unpriv x) false x.ty fits.fits.named)
    ∙ (λ i. by_parts env names variables structs next n (long i) (d.typed i) (d.changes i) (marks_are x.marked (is_only_unpriv x) false i) (new i) (d.fine i)
    (sized structs (object_type kind.Local (given_as x.ty attributes) (is_pointer x.ty) (suffix_of x.ty)) x.ty d.typed fits.fits.small i)
    (marks_stand carrier.Object x.marked (is_only_unpriv x) false (λ e. refl) (only_unmarked x.unpriv x.marked) (λ e. cc) i))

-- ---- all of them

-- the trees of the declarations of so many variables from this one on
abbrev pub declaration_trees : ℕ → List Var → List BodyTree
declaration_trees n xs = listed (λ m x. declaration_tree m) n xs

abbrev more : k.Context → s.StmtTrees → Checked → CheckedAll
more c ss one =
    let rest = checked_all c one.state ss in
    record { state = rest.state; bodies = one.tree ∷ rest.bodies; trees = one.trees ++ rest.trees; faults = one.faults ++ rest.faults }

abbrev before : ℕ → CheckedAll → CheckedAll
before m rest = record { state = rest.state; bodies = declaration_tree m ∷ rest.bodies; trees = rest.trees; faults = rest.faults }

-- behind the variables so far, which are as many as these
pub locals_added : (c : k.Context) (env : Env) (done : List Var) (variables : List Variable) (structs : Structs) (infos : List StructInfo) (next n : ℕ) (xs : List Var) → LocalsFit structs infos xs
    → length variables ≡ n → n ≡ length done → n + length xs ≤ 2 ^ 64 → Differ local_name (2 ^ 64)
    → checked_all c (record { env = scoped env (listed local_entry 0 done) variables; structs = structs; next = next }) (stmt_trees (locals_from infos n xs))
    ≡ record {
      state = record { env = scoped env (listed local_entry 0 (done ++ xs)) (variables ++ listed local_as n xs); structs = structs; next = next };
      bodies = declaration_trees n xs;
      trees = [];
      faults = [];
    }
locals_added c env done variables structs infos next n [] fit long at few differ =
    λ i. record {
      state = record { env = scoped env (listed local_entry 0 (sym (nothing_more done) i)) (sym (nothing_more variables) i); structs = structs; next = next };
      bodies = [];
      trees = [];
      faults = [];
    }
  where
    nothing_more : {A : Type 0} (xs : List A) → xs ++ [] ≡ xs
    nothing_more [] = refl
    nothing_more (x ∷ xs) = ap (λ ys. x ∷ ys) (nothing_more xs)
locals_added c env done variables structs infos next n (x ∷ xs) fit long at few differ =
    ap (more c (stmt_trees (locals_from infos (suc n) xs))) (local_added c env (listed local_entry 0 done) variables structs infos next n x fit.0 long (local_new done n (2 ^ 64) at (omega (arith, few)) differ))
    ∙ ap (λ names. before n (checked_all c (record { env = scoped env names (variables ++ local_as n x ∷ []); structs = structs; next = next }) (stmt_trees (locals_from infos (suc n) xs))))
    (sym (listed_more local_entry 0 n done (x ∷ []) (omega (arith, at))))
    ∙ ap (before n) (locals_added c env (done ++ x ∷ []) (variables ++ local_as n x ∷ []) structs infos next (suc n) xs fit.1 (one_more variables (local_as n x) n long) (sym (one_more done x n (sym at))) (omega (arith, few)) differ)
    ∙ (λ i. record {
      state = record { env = scoped env (listed local_entry 0 (append_assoc done (x ∷ []) xs i)) (append_assoc variables (local_as n x ∷ []) (listed local_as (suc n) xs) i); structs = structs; next = next };
      bodies = declaration_trees n (x ∷ xs);
      trees = [];
      faults = [];
    })
  where
    one_more : {A : Type 0} (ys : List A) (y : A) (m : ℕ) → length ys ≡ m → length (ys ++ y ∷ []) ≡ suc m
    one_more ys y m h = let two = length-append ys (y ∷ []) in omega (arith, h, two)
