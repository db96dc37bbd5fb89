-- The judgment tried: two programs that pass a handle on meet it, and programs that compute with one don't.
use Rattle.std.proofs.Common.{◌≡◌, ◌<◌, ◌≤◌, ◌+◌, ◌∙◌, ℕ, pos, refl, sym, subst, arith, Bool, true, false, ◌&&◌, List, [], ◌∷◌, Option, Some, None, codes, if◌then◌else◌, nat_eq}
use Rattle.std.specs.Prelude.{unwrap_or}
use Rattle.std.proofs.lemmas.Bool.{eqb-true}
use Rattle.pt_base.specs.declared.span.Span.{Span}
use Rattle.pt_base.specs.declared.int_type.IntType.{IntType}
use Rattle.pt_base.specs.declared.int_type.IntType.TheVariants as i
use Rattle.pt_base.proofs.Booleans.{never_true_and_false}
use Rattle.pt_int.specs.declared.operator.BinOp.TheVariants.{Add}
use Rattle.pt_tree.specs.declared.signature.Elem.TheVariants as e
use Rattle.pt_tree.specs.declared.signature.Param.{Param}
use Rattle.pt_tree.specs.declared.signature.ParamKind.{ParamKind}
use Rattle.pt_tree.specs.declared.signature.ParamKind.TheVariants as k
use Rattle.pt_tree.specs.declared.signature.Signature.{Signature}
use Rattle.typed_tree.specs.declared.types.VarTy.{VarTy}
use Rattle.typed_tree.specs.declared.types.VarTy.TheVariants as ty
use Rattle.typed_tree.specs.declared.types.StructInfo.{StructInfo}
use Rattle.typed_tree.specs.declared.variable.Var.{Var}
use Rattle.typed_tree.specs.Cells as cells
use Rattle.pt_core.specs.CodeTree.{local, deref, PlaceTree, place, ExprTree, constant, read, binary, address, no_exprs, expr_and, StmtTree, assign, call, choose, give_back, no_stmts, stmt_trees, FunctionTree, ProgramTree}
use Rattle.pt_core.specs.Calls.{no_function, function_in}
use Rattle.pt_core.specs.WellFormed.{is_well_formed}
use Rattle.handle_classes.specs.Classes.{Class, World, scope_in, integer_class}
use Rattle.handle_classes.specs.Judgment.{Flows, Goes, AreFineStatements, IsFineProgram}

-- ---- parts

abbrev anywhere : Span
anywhere = record { from = 0; to = 0 }

abbrev of_type : Bool → VarTy → Var
of_type marked t = record { name = []; span = anywhere; ty = t; marked = marked; unpriv = false; holds = None }

abbrev int : VarTy
int = ty.Int i.Int

abbrev taking : ParamKind → Bool → Param
taking kind marked = record { kind = kind; marked = marked; declassify = false }

abbrev signature : List ℕ → Option IntType → List Param → Bool → Bool → Signature
signature name result params host privileged = record {
  name = name;
  result = result;
  params = params;
  host = host;
  privileged = privileged;
  declassify = false;
}

-- priv int load(void); int sign(priv int key); void print(int n);
abbrev load : Signature
load = signature (codes "load") (Some i.Int) [] true true

abbrev sign : Signature
sign = signature (codes "sign") (Some i.Int) (taking (k.Int i.Int) true ∷ []) true true

abbrev print : Signature
print = signature (codes "print") None (taking (k.Int i.Int) false ∷ []) true false

abbrev main_signature : Signature
main_signature = signature (codes "main") (Some i.Int) [] false false

abbrev function_of : ℕ → ℕ → List Var → List StmtTree → FunctionTree
function_of n own vars body = record { id = n; params = own; vars = vars; body = stmt_trees body; end = anywhere }

abbrev var : ℕ → PlaceTree
var v = place (local v) []

abbrev value : ℕ → ExprTree
value v = read (var v)

abbrev number : ℕ → ExprTree
number n = constant i.Int (pos n)

-- integers, or a pointer to such, of which these cells are handles
abbrev class_by : Bool → ℕ → (ℕ → Bool) → Class
class_by pointer size marked = record { pointer = pointer; size = size; may = marked; must = marked }

abbrev integer : Bool → Class
integer marked = class_by false 1 (λ n. marked)

integers_flow : (v k : Class) → v.pointer ≡ false → k.pointer ≡ false → (v.may 0 ≡ true → k.may 0 ≡ true) → Flows v k
integers_flow v k p q first = record {
  kind = p ∙ sym q;
  first = λ h. first;
  size = λ h. let no : true ≡ false = sym h ∙ q in cc;
  may = λ h. let no : true ≡ false = sym h ∙ q in cc;
  must = λ h. let no : true ≡ false = sym h ∙ q in cc;
}

integer_goes : (v k : Class) → v.pointer ≡ false → k.pointer ≡ false → 0 < k.size → (v.may 0 ≡ true → k.must 0 ≡ true) → Goes v k
integer_goes v k p q room sealed = record {
  kind = p ∙ sym q;
  room = λ h. room;
  sealed = λ h. sealed;
  flows = λ h. let no : true ≡ false = sym h ∙ q in cc;
}

one_cell : 0 < 1
one_cell = omega arith

-- ---- a handle is passed on

-- int main() { int key = load(); int s = sign(key); print(s + 1); return 0; }
abbrev signer_main : FunctionTree
signer_main = function_of 3 0 (of_type true int ∷ of_type false int ∷ [])
    (call 0 no_exprs (Some 0) anywhere ∷ call 1 (expr_and (value 0) no_exprs) (Some 1) anywhere
    ∷ call 2 (expr_and (binary Add i.Int (value 1) (number 1) anywhere) no_exprs) None anywhere ∷ give_back (Some (number 0)) ∷ [])

abbrev signer : ProgramTree
signer = record {
  structs = [];
  signatures = (0, load) ∷ (1, sign) ∷ (2, print) ∷ (3, main_signature) ∷ [];
  functions = signer_main ∷ [];
  globals = [];
}

signer_is_a_program : is_well_formed signer ≡ true
unfolding is_well_formed cells.leaves_of
signer_is_a_program = refl

-- the key, the parameter of `sign` and the result of `load` may be handles
abbrev signer_world : World
signer_world = record {
  variable = λ f v. integer (nat_eq v 0);
  global = λ g. integer false;
  received = λ n. integer false;
  param = λ f n. integer (nat_eq f 1);
  result = λ f. nat_eq f 0;
}

signer_main_fine : AreFineStatements signer_world (scope_in signer signer_world 3) 3 signer_main.body
signer_main_fine = (
  (tt {0}, integers_flow _ _ refl refl (λ h. refl)),
  (
    ((((tt {0}, tt {0}), λ h. one_cell), integers_flow _ _ refl refl (λ h. refl), tt {0}), integers_flow _ _ refl refl (λ h. cc)),
    (
      (
        (
          (((tt {0}, tt {0}), λ h. one_cell), tt {0}, record { integer = refl; number = refl }, record { integer = refl; number = refl }),
          integers_flow _ _ refl refl (λ h. cc),
          tt {0},
        ),
        tt {0},
      ),
      (
        (tt {0}, integers_flow _ _ refl refl (λ h. cc)),
        tt {0},
      ),
    ),
  ),
)

-- what holds of the body of the one function holds of each function's
signer_fine : IsFineProgram signer signer_world
signer_fine = record { code = code; variables = λ f v n p h. h; objects = λ g. refl; globals = λ g n h. h }
  where
    code : (f : ℕ) → AreFineStatements signer_world (scope_in signer signer_world f) f (function_in signer f).body
    code f = go (nat_eq f 3) refl
      where
        go : (b : Bool) → nat_eq f 3 ≡ b → AreFineStatements signer_world (scope_in signer signer_world f) f
            (unwrap_or (if b then Some signer_main else None) no_function).body
        go true e = subst (λ n. AreFineStatements signer_world (scope_in signer signer_world n) n signer_main.body) (sym (eqb-true f 3 e))
            signer_main_fine
        go false e = tt {0}

-- ---- a handle in a field, behind a pointer

-- struct pair { int id; priv int key; };
abbrev pair : StructInfo
pair = record {
  name = codes "pair";
  fields = record { name = codes "id"; ty = int; marked = false } ∷ record { name = codes "key"; ty = int; marked = true } ∷ [];
}

abbrev key_of : PlaceTree
key_of = place (deref (value 0) anywhere) (1 ∷ [])

-- int use(struct pair *p) { return sign(p->key); }
abbrev use_code : FunctionTree
use_code = function_of 2 1 (of_type false (ty.Pointer (e.Struct 0) false) ∷ of_type false int ∷ [])
    (call 1 (expr_and (read key_of) no_exprs) (Some 1) anywhere ∷ give_back (Some (value 1)) ∷ [])

-- int main() { struct pair p; p.key = load(); p.id = 7; return use(&p); }
abbrev pair_main : FunctionTree
pair_main = function_of 3 0 (of_type false (ty.Struct 0) ∷ of_type true int ∷ of_type false int ∷ [])
    (call 0 no_exprs (Some 1) anywhere ∷ assign (place (local 0) (1 ∷ [])) (value 1) ∷ assign (place (local 0) (0 ∷ [])) (number 7)
    ∷ call 2 (expr_and (address (var 0)) no_exprs) (Some 2) anywhere ∷ give_back (Some (value 2)) ∷ [])

abbrev use_signature : Signature
use_signature = signature (codes "use") (Some i.Int) (taking (k.Ptr (e.Struct 0) false) false ∷ []) false false

abbrev pub paired : ProgramTree
paired = record {
  structs = pair ∷ [];
  signatures = (0, load) ∷ (1, sign) ∷ (2, use_signature) ∷ (3, main_signature) ∷ [];
  functions = use_code ∷ pair_main ∷ [];
  globals = [];
}

pairs_are_a_program : is_well_formed paired ≡ true
unfolding is_well_formed cells.leaves_of
pairs_are_a_program = refl

-- the second cell of the pair, in main and behind the pointer, and main's temporary
abbrev pair_marks : ℕ → ℕ → ℕ → Bool
pair_marks f v n = if nat_eq v 0 then nat_eq n 1 else (nat_eq f 3 && nat_eq v 1)

abbrev pub pair_variable : ℕ → ℕ → Class
pair_variable f v = class_by (nat_eq f 2 && nat_eq v 0) (if nat_eq v 0 then 2 else 1) (pair_marks f v)

abbrev pub pair_param : ℕ → ℕ → Class
pair_param f n = if nat_eq f 2 then pair_variable 2 n else integer (nat_eq f 1)

abbrev pub pair_world : World
pair_world = record {
  variable = pair_variable;
  global = λ g. integer false;
  received = λ n. integer false;
  param = pair_param;
  result = λ f. nat_eq f 0;
}

within_pair : 1 + 0 + 1 ≤ 2
within_pair = omega arith

first_in_pair : 0 + 0 + 1 ≤ 2
first_in_pair = omega arith

two_cells : 0 < 2
two_cells = omega arith

whole_pair : 2 ≤ 2
whole_pair = omega arith

use_fine : AreFineStatements pair_world (scope_in paired pair_world 2) 2 use_code.body
use_fine = (
  (
    ((((((tt {0}, tt {0}), λ h. two_cells), refl, refl), (refl, within_pair)), λ h. one_cell), integers_flow _ _ refl refl (λ h. refl), tt {0}),
    integers_flow _ _ refl refl (λ h. cc),
  ),
  (
    (((tt {0}, tt {0}), λ h. one_cell), integers_flow _ _ refl refl (λ h. cc)),
    tt {0},
  ),
)

pair_main_fine : AreFineStatements pair_world (scope_in paired pair_world 3) 3 pair_main.body
pair_main_fine = (
  (tt {0}, integers_flow _ _ refl refl (λ h. refl)),
  (
    ((tt {0}, (refl, within_pair)), ((tt {0}, tt {0}), λ h. one_cell), integer_goes _ _ refl refl one_cell (λ h. refl)),
    (
      ((tt {0}, (refl, first_in_pair)), tt {0}, integer_goes _ _ refl refl one_cell (λ h. cc)),
      (
        (
          (
            ((tt {0}, tt {0}), refl, whole_pair),
            record {
              kind = refl;
              first = λ h p. p;
              size = λ h. refl;
              may = λ h n less m. m;
              must = λ h n less m. m;
            },
            tt {0},
          ),
          integers_flow _ _ refl refl (λ h. cc),
        ),
        (
          (((tt {0}, tt {0}), λ h. one_cell), integers_flow _ _ refl refl (λ h. cc)),
          tt {0},
        ),
      ),
    ),
  ),
)

pub paired_fine : IsFineProgram paired pair_world
paired_fine = record { code = code; variables = λ f v n p h. h; objects = λ g. refl; globals = λ g n h. h }
  where
    code : (f : ℕ) → AreFineStatements pair_world (scope_in paired pair_world f) f (function_in paired f).body
    code f = go (nat_eq f 2) (nat_eq f 3) refl refl
      where
        go : (b c : Bool) → nat_eq f 2 ≡ b → nat_eq f 3 ≡ c →
            AreFineStatements pair_world (scope_in paired pair_world f) f
            (unwrap_or (if b then Some use_code else (if c then Some pair_main else None)) no_function).body
        go true c e d = subst (λ n. AreFineStatements pair_world (scope_in paired pair_world n) n use_code.body) (sym (eqb-true f 2 e)) use_fine
        go false true e d = subst (λ n. AreFineStatements pair_world (scope_in paired pair_world n) n pair_main.body) (sym (eqb-true f 3 d))
            pair_main_fine
        go false false e d = tt {0}

-- ---- a handle is computed with

-- with this body of main, and one variable for the handle and one for a number
abbrev with_body : List StmtTree → ProgramTree
with_body body = record signer {
  functions = function_of 3 0 (of_type true int ∷ of_type false int ∷ []) (call 0 no_exprs (Some 0) anywhere ∷ body) ∷ [];
}

-- whatever may be a handle beside what `load` gives, the program isn't fine
abbrev IsNeverFine : List StmtTree → Type 0
IsNeverFine body = (w : World) → w.result 0 ≡ true → (w.param 2 0).may 0 ≡ false → IsFineProgram (with_body body) w → ⊥

-- s = key + 1;
abbrev adding : List StmtTree
adding = assign (var 1) (binary Add i.Int (value 0) (number 1) anywhere) ∷ []

-- print(key);
abbrev printing : List StmtTree
printing = call 2 (expr_and (value 0) no_exprs) None anywhere ∷ []

-- if (key) ;
abbrev branching : List StmtTree
branching = choose (value 0) no_stmts no_stmts ∷ []

adding_is_a_program : is_well_formed (with_body adding) ≡ true
unfolding is_well_formed cells.leaves_of
adding_is_a_program = refl

printing_is_a_program : is_well_formed (with_body printing) ≡ true
unfolding is_well_formed cells.leaves_of
printing_is_a_program = refl

branching_is_a_program : is_well_formed (with_body branching) ≡ true
unfolding is_well_formed cells.leaves_of
branching_is_a_program = refl

-- what `load` gave lies in the first variable
first_variable : (w : World) → w.result 0 ≡ true → Flows (integer_class (w.result 0)) (w.variable 3 0) → (w.variable 3 0).may 0 ≡ true
first_variable w h flows = flows.first (sym flows.kind) h

adding_is_never_fine : IsNeverFine adding
adding_is_never_fine w h plain fine = never_true_and_false ((w.variable 3 0).may 0) (first_variable w h (fine.code 3).0.1) (fine.code 3).1.0.1.2.number

printing_is_never_fine : IsNeverFine printing
printing_is_never_fine w h plain fine = passed (fine.code 3).0.1 (fine.code 3).1.0.0.1
  where
    passed : Flows (integer_class (w.result 0)) (w.variable 3 0) → Flows (w.variable 3 0) (w.param 2 0) → ⊥
    passed given to = never_true_and_false ((w.param 2 0).may 0) (to.first (sym to.kind ∙ sym given.kind) (first_variable w h given)) plain

branching_is_never_fine : IsNeverFine branching
branching_is_never_fine w h plain fine = chosen (fine.code 3).0.1 (fine.code 3).1.0.1
  where
    chosen : Flows (integer_class (w.result 0)) (w.variable 3 0) → ((w.variable 3 0).pointer ≡ false → (w.variable 3 0).may 0 ≡ false) → ⊥
    chosen given none = never_true_and_false ((w.variable 3 0).may 0) (first_variable w h given) (none (sym given.kind))
