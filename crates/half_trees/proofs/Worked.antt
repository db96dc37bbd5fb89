-- The C tree of a small slave's program, and what it takes to clear a struct, as the definitions give them.
use Rattle.std.proofs.Common.{◌≡◌, ℕ, ℤ, pos, negsuc, Bool, true, false, List, [], ◌∷◌, ◌++◌, Option, Some, None, refl, codes, map}
use Rattle.std.specs.Fmt.{decimal}
use Rattle.pt_base.specs.declared.int_type.IntType.{IntType}
use Rattle.pt_base.specs.declared.int_type.IntType.TheVariants as i
use Rattle.pt_int.specs.declared.operator.BinOp.TheVariants.{Add, Sub, Mul}
use Rattle.pt_tree.specs.declared.operator.BinaryOp.TheVariants as o
use Rattle.pt_tree.specs.declared.operator.PrefixOp.TheVariants as p
use Rattle.pt_tree.specs.declared.signature.Elem.TheVariants as e
use Rattle.pt_tree.specs.declared.signature.Param.{Param}
use Rattle.pt_tree.specs.declared.signature.ParamKind.TheVariants as k
use Rattle.pt_tree.specs.declared.signature.Signature.{Signature}
use Rattle.pt_tree.specs.declared.specifier.Declarator.{Declarator}
use Rattle.pt_tree.specs.declared.specifier.SpecWord.TheVariants as w
use Rattle.pt_tree.specs.declared.specifier.Suffix.TheVariants.{Plain}
use Rattle.pt_tree.specs.SpecifierTree.{SpecTree, SpecTrees, attribute, keyword, spec_trees}
use Rattle.pt_tree.specs.ExpressionTree as c
use Rattle.pt_tree.specs.ExpressionTree.{PostfixTree, dot, arrow, index}
use Rattle.pt_tree.specs.StatementTree as t
use Rattle.pt_tree.specs.ProgramTree.{ParamTree, ItemTree, function}
use Rattle.typed_tree.specs.declared.types.VarTy.{VarTy}
use Rattle.typed_tree.specs.declared.types.VarTy.TheVariants as ty
use Rattle.typed_tree.specs.declared.types.Field.{Field}
use Rattle.typed_tree.specs.declared.types.StructInfo.{StructInfo}
use Rattle.typed_tree.specs.declared.variable.Var.{Var}
use Rattle.pt_core.specs.CodeTree.{local, global, deref, PlaceTree, place, ExprTree, constant, read, binary, decay, address, move, expr_trees, clear, call, give_back, stmt_trees, SlaveTree}
use Rattle.pt_core.specs.Types.{Context}
use Rattle.half_trees.specs.Names.{nowhere, word, local_name, global_name}
use Rattle.half_trees.specs.Expressions.{expression_tree}
use Rattle.half_trees.specs.Statements.{statement_trees}
use Rattle.half_trees.specs.Halves.{slave_tree}
use Rattle.half_trees.specs.Leaves.{leaves_of}

-- ---- the slave's half of a signer

abbrev param : Bool → Param
param marked = record { kind = k.Int i.Int; marked = marked; declassify = false }

abbrev signature : List ℕ → Option IntType → List Param → Bool → Bool → Bool → Signature
signature name result params host privileged declassify = record { name = name; result = result; params = params; host = host; privileged = privileged; declassify = declassify }

abbrev number_var : List ℕ → Bool → Var
number_var name marked = record { name = name; span = nowhere; ty = ty.Int i.Int; marked = marked; unpriv = false; holds = None }

abbrev int : ℤ → ExprTree
int v = constant i.Int v

abbrev value : ℕ → ExprTree
value v = read (place (local v) [])

-- int main(void) { int k; int s; k = load(7); s = sign(k, 5); put(s); return 0; }
abbrev signer : SlaveTree
signer = record {
  structs = [];
  signatures =
      (0, signature (codes "load") (Some i.Int) (param false ∷ []) true true false)
      ∷ (1, signature (codes "sign") (Some i.Int) (param true ∷ param false ∷ []) false true true)
      ∷ (2, signature (codes "put") None (param false ∷ []) true false false)
      ∷ (3, signature (codes "main") (Some i.Int) [] false false false) ∷ [];
  functions = record {
    id = 3;
    params = 0;
    vars = number_var (codes "k") true ∷ number_var (codes "s") false ∷ [];
    body = stmt_trees (
        clear 0 ∷ clear 1
        ∷ call 0 (expr_trees (int (pos 7) ∷ [])) (Some 0) nowhere
        ∷ call 1 (expr_trees (value 0 ∷ int (pos 5) ∷ [])) (Some 1) nowhere
        ∷ call 2 (expr_trees (value 1 ∷ [])) None nowhere
        ∷ give_back (Some (int (pos 0))) ∷ []);
    end = nowhere;
  } ∷ [];
  globals = [];
  hosts = 2 ∷ [];
}

abbrev ints : SpecTree
ints = keyword nowhere w.Int

abbrev voids : SpecTree
voids = keyword nowhere w.Void

abbrev marked_by : List (List ℕ) → SpecTree
marked_by names = attribute nowhere (map word names)

abbrev declared : List ℕ → Declarator
declared name = record { span = nowhere; pointer = false; name = word name; suffix = Plain }

abbrev takes : List SpecTree → List ℕ → ParamTree
takes specs name = record { span = nowhere; specs = spec_trees specs; pointer = false; name = Some (word name); suffix = Plain }

abbrev takes_nothing : ParamTree
takes_nothing = record { span = nowhere; specs = spec_trees (voids ∷ []); pointer = false; name = None; suffix = Plain }

abbrev prototype : List SpecTree → List ℕ → List ParamTree → ItemTree
prototype specs name params = function (record { span = nowhere; specs = spec_trees specs; declarator = declared name; params = params; body = None })

abbrev number : ℕ → c.ExprTree
number n = c.constant (record { span = nowhere; value = pos n; ty = i.Int })

abbrev named : List ℕ → c.ExprTree
named bytes = c.name (word bytes)

abbrev calls : List ℕ → List c.ExprTree → c.ExprTree
calls f arguments = c.postfix nowhere (named f) (c.postfix_trees (c.call nowhere (c.expr_trees arguments) ∷ []))

abbrev sets : c.ExprTree → c.ExprTree → t.StmtTree
sets to a = t.evaluate nowhere (c.assign nowhere None to a)

abbrev declares : List SpecTree → List ℕ → t.StmtTree
declares specs name = t.declare (record { span = nowhere; specs = spec_trees specs; declarators = record { declarator = declared name; init = t.no_init } ∷ [] })

signer_is : slave_tree signer ≡
    prototype (marked_by (codes "priv" ∷ []) ∷ ints ∷ []) (codes "f_load") (takes (ints ∷ []) (local_name 0) ∷ [])
    ∷ prototype (marked_by (codes "priv" ∷ codes "declassify" ∷ []) ∷ ints ∷ []) (codes "f_sign")
    (takes (marked_by (codes "priv" ∷ []) ∷ ints ∷ []) (local_name 0) ∷ takes (ints ∷ []) (local_name 1) ∷ [])
    ∷ prototype (voids ∷ []) (codes "f_put") (takes (ints ∷ []) (local_name 0) ∷ [])
    ∷ prototype (ints ∷ []) (codes "main") (takes_nothing ∷ [])
    ∷ function (record {
      span = nowhere;
      specs = spec_trees (ints ∷ []);
      declarator = declared (codes "main");
      params = takes_nothing ∷ [];
      body = Some (record {
        span = nowhere;
        items =
            declares (marked_by (codes "priv" ∷ []) ∷ ints ∷ []) (local_name 0)
            ∷ declares (ints ∷ []) (local_name 1)
            ∷ sets (named (local_name 0)) (number 0)
            ∷ sets (named (local_name 1)) (number 0)
            ∷ sets (named (local_name 0)) (calls (codes "f_load") (number 7 ∷ []))
            ∷ sets (named (local_name 1)) (calls (codes "f_sign") (named (local_name 0) ∷ number 5 ∷ []))
            ∷ t.evaluate nowhere (calls (codes "f_put") (named (local_name 1) ∷ []))
            ∷ t.give_back nowhere (Some (number 0)) ∷ [];
      });
    })
    ∷ []
unfolding slave_tree leaves_of
signer_is = refl

-- ---- a struct that is cleared, and places in it

abbrev field_of : List ℕ → VarTy → Field
field_of name t = record { name = name; ty = t; marked = false }

-- struct pair { int a; char b[2]; }; struct box { struct pair p; struct pair more[2]; long 9!; };
abbrev structs : List StructInfo
structs =
    record { name = codes "pair"; fields = field_of (codes "a") (ty.Int i.Int) ∷ field_of (codes "b") (ty.Array (e.Int i.Char) 2) ∷ [] }
    ∷ record { name = codes "box"; fields = field_of (codes "p") (ty.Struct 0) ∷ field_of (codes "more") (ty.Array (e.Struct 0) 2) ∷ field_of (codes "9!") (ty.Int i.Long) ∷ [] }
    ∷ []

abbrev context : Context
context = record { structs = structs; globals = (4, ty.Struct 1) ∷ []; variables = ty.Struct 1 ∷ ty.Pointer (e.Struct 1) false ∷ [] }

abbrev at : List PostfixTree → t.StmtTree
at ps = sets (c.postfix nowhere (named (local_name 0)) (c.postfix_trees ps)) (number 0)

abbrev field : List ℕ → PostfixTree
field name = dot nowhere (word name)

abbrev nth : ℕ → PostfixTree
nth n = index nowhere (number n)

box_is_cleared : statement_trees [] context (clear 0) ≡
    at (field (codes "m_p") ∷ field (codes "m_a") ∷ [])
    ∷ at (field (codes "m_p") ∷ field (codes "m_b") ∷ nth 0 ∷ [])
    ∷ at (field (codes "m_p") ∷ field (codes "m_b") ∷ nth 1 ∷ [])
    ∷ at (field (codes "m_more") ∷ nth 0 ∷ field (codes "m_a") ∷ [])
    ∷ at (field (codes "m_more") ∷ nth 0 ∷ field (codes "m_b") ∷ nth 0 ∷ [])
    ∷ at (field (codes "m_more") ∷ nth 0 ∷ field (codes "m_b") ∷ nth 1 ∷ [])
    ∷ at (field (codes "m_more") ∷ nth 1 ∷ field (codes "m_a") ∷ [])
    ∷ at (field (codes "m_more") ∷ nth 1 ∷ field (codes "m_b") ∷ nth 0 ∷ [])
    ∷ at (field (codes "m_more") ∷ nth 1 ∷ field (codes "m_b") ∷ nth 1 ∷ [])
    ∷ at (field (codes "m_" ++ decimal 2) ∷ []) ∷ []
unfolding leaves_of
box_is_cleared = refl

pointer_is_cleared : statement_trees [] context (clear 1) ≡ sets (named (local_name 1)) (number 0) ∷ []
pointer_is_cleared = refl

-- what the pointer v_1 points to, with these fields
abbrev through : List ℕ → PlaceTree
through path = place (deref (value 1) nowhere) path

arrow_is : expression_tree context (read (through (0 ∷ 0 ∷ []))) ≡
    c.postfix nowhere (named (local_name 1)) (c.postfix_trees (arrow nowhere (word (codes "m_p")) ∷ field (codes "m_a") ∷ []))
arrow_is = refl

-- g_4.m_more as a pointer, and the field m_a of what it points to
longer_is : expression_tree context (read (place (deref (decay (place (global 4) (1 ∷ []))) nowhere) (0 ∷ []))) ≡
    c.postfix nowhere (named (global_name 4)) (c.postfix_trees (field (codes "m_more") ∷ arrow nowhere (word (codes "m_a")) ∷ []))
longer_is = refl

-- ---- chains and constants

chain_is : expression_tree context (binary Sub i.Int (binary Add i.Int (int (pos 1)) (binary Mul i.Int (int (pos 2)) (int (pos 3)) nowhere) nowhere) (int (negsuc 4)) nowhere) ≡
    c.chain nowhere (number 1) (c.link_trees (
    c.link nowhere o.Add (c.chain nowhere (number 2) (c.link_trees (c.link nowhere o.Multiply (number 3) ∷ [])))
    ∷ c.link nowhere o.Subtract (c.prefix nowhere p.Complement (number 4)) ∷ []))
chain_is = refl

char_is : expression_tree context (constant i.Char (negsuc 1)) ≡ c.cast nowhere (spec_trees (keyword nowhere w.Char ∷ [])) false (c.prefix nowhere p.Complement (number 1))
char_is = refl
