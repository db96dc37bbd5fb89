-- A boot whose spelling was reckoned by hand.
use Rattle.std.proofs.Common.{◌≡◌, ℕ, List, [], ◌∷◌, ◌++◌, None, Some, true, false, refl}
use Rattle.std.specs.Prelude.{pos, negsuc}
use Rattle.pt_base.specs.declared.span.Span.{Span}
use Rattle.pt_base.specs.declared.int_type.IntType.TheVariants as int
use Rattle.pt_int.specs.declared.operator.BinOp.TheVariants as binary_op
use Rattle.pt_int.specs.declared.operator.UnOp.TheVariants as unary_op
use Rattle.pt_tree.specs.declared.signature.Elem.TheVariants as elem
use Rattle.pt_tree.specs.declared.signature.ParamKind.TheVariants as param
use Rattle.pt_tree.specs.declared.host_model.HostModel.TheVariants as model
use Rattle.typed_tree.specs.declared.types.VarTy.TheVariants as ty
use Rattle.wire.specs.Spelling.{four_bytes, eight_bytes, sixteen_signed_bytes}
use Rattle.pt_core.specs.CodeTree.{local, global, deref, place, constant, read, unary, binary, convert, null, address, decay, move, compare, no_exprs, expr_and, StmtTree, assign, call, choose, repeat, break_out, continue_on, give_back, no_stmts, stmt_and, stmt_trees, BootTree}
use Rattle.boot_fields.specs.Spelling.{spelled}

abbrev span : ℕ → ℕ → Span
span a b = record { from = a; to = b }

-- what the one function does: it assigns, calls the host, goes round a loop once and returns
abbrev body : List StmtTree
body =
    assign (place (local 0) []) (binary binary_op.Add int.Int (constant int.Int (negsuc 1)) (unary unary_op.Not int.Int (read (place (global 0) (1 ∷ []))) (span 1 2)) (span 3 4))
    ∷ call 7 (expr_and (read (place (deref (move (null (elem.Int int.Char)) (convert int.Long (read (place (local 1) []))) true (span 5 6)) (span 7 8)) [])) no_exprs) (Some 0) (span 9 10)
    ∷ repeat (stmt_and (choose (compare binary_op.Ne (address (place (local 0) [])) (decay (place (global 0) [])) (span 11 12)) (stmt_and break_out no_stmts) (stmt_and continue_on no_stmts)) no_stmts) (span 13 14)
    ∷ give_back None
    ∷ []

-- a program of one struct, one function and one global, with one host
abbrev boot : BootTree
boot = record {
  structs = record { name = 83 ∷ []; fields = record { name = 102 ∷ []; ty = ty.Array (elem.Int int.UChar) 258; marked = true } ∷ [] } ∷ [];
  signatures =
      (0, record { name = 109 ∷ 97 ∷ 105 ∷ 110 ∷ []; result = Some int.Int; params = []; host = false; privileged = false; declassify = false })
      ∷ (
        7,
        record {
          name = 103 ∷ [];
          result = None;
          params = record { kind = param.Ptr (elem.Struct 0) true; marked = false; declassify = true } ∷ [];
          host = true;
          privileged = true;
          declassify = false;
        },
      )
      ∷ [];
  functions =
      record {
        id = 0;
        params = 1;
        vars =
            record { name = 120 ∷ []; span = span 15 16; ty = ty.Int int.Int; marked = false; unpriv = true; holds = None }
            ∷ record { name = []; span = span 17 18; ty = ty.Pointer (elem.Struct 0) false; marked = true; unpriv = false; holds = Some (span 19 20) }
            ∷ [];
        body = stmt_trees body;
        end = span 21 65536;
      }
      ∷ [];
  globals = record { id = 0; var = record { name = 103 ∷ []; span = span 22 23; ty = ty.Struct 0; marked = false; unpriv = false; holds = None }; cells = pos 5 ∷ [] } ∷ [];
  hosts =
      (7, model.Table (record { args = pos 1 ∷ []; result = negsuc 0 } ∷ []) (pos 2))
      ∷ (8, model.Feed (pos 3 ∷ []) (pos 4) 6)
      ∷ (9, model.Input 0)
      ∷ (10, model.Bytes)
      ∷ (11, model.Line (112 ∷ []))
      ∷ [];
  input = 255 ∷ [];
  turns = 1000;
}

-- small numbers of 4, 8 and 16 bytes
abbrev number4 : ℕ → List ℕ
number4 n = 0 ∷ 0 ∷ 0 ∷ n ∷ []

abbrev number8 : ℕ → List ℕ
number8 n = 0 ∷ 0 ∷ 0 ∷ 0 ∷ number4 n

abbrev number16 : ℕ → List ℕ
number16 n = 0 ∷ 0 ∷ 0 ∷ 0 ∷ 0 ∷ 0 ∷ 0 ∷ 0 ∷ number8 n

abbrev minus_one : List ℕ
minus_one = 255 ∷ 255 ∷ 255 ∷ 255 ∷ 255 ∷ 255 ∷ 255 ∷ 255 ∷ 255 ∷ 255 ∷ 255 ∷ 255 ∷ 255 ∷ 255 ∷ 255 ∷ 255 ∷ []

abbrev minus_two : List ℕ
minus_two = 255 ∷ 255 ∷ 255 ∷ 255 ∷ 255 ∷ 255 ∷ 255 ∷ 255 ∷ 255 ∷ 255 ∷ 255 ∷ 255 ∷ 255 ∷ 255 ∷ 255 ∷ 254 ∷ []

-- one struct S with one marked field f, an array of 258 unsigned char
abbrev structs : List ℕ
structs =
    number8 1 ++ (number8 1 ++ (83 ∷ number8 1 ++ (number8 1 ++ (102 ∷ 2 ∷ 0 ∷ 2 ∷ 0 ∷ 0 ∷ 1 ∷ 2 ∷ 1 ∷ []))))

-- main, and the privileged host g of a const struct
abbrev signatures : List ℕ
signatures =
    number8 2 ++ (number4 0 ++ (number8 4 ++ (109 ∷ 97 ∷ 105 ∷ 110 ∷ 1 ∷ 5 ∷ number8 0 ++ (0 ∷ 0 ∷ 0 ∷
    number4 7 ++ (number8 1 ++ (103 ∷ 0 ∷ number8 1 ++ (1 ∷ 1 ∷ number4 0 ++ (1 ∷ 0 ∷ 1 ∷ 1 ∷ 1 ∷ 0 ∷ []))))))))

-- one function, with two variables
abbrev variables : List ℕ
variables =
    number8 1 ++ (number4 0 ++ (1 ∷ number8 2 ++ (number8 1 ++ (120 ∷ number4 15 ++ (number4 16 ++ (0 ∷ 5 ∷ 0 ∷
    1 ∷ 0 ∷ number8 0 ++ (number4 17 ++ (number4 18 ++ (3 ∷ 1 ∷ number4 0 ++ (0 ∷ 1 ∷ 0 ∷ 1 ∷ number4 19 ++ (
    number4 20)))))))))))

-- four statements, the first an assignment of -2 + !g.1
abbrev assignment : List ℕ
assignment =
    number8 4 ++ (2 ∷ 0 ∷ number4 0 ++ (number8 0 ++ (3 ∷ 3 ∷ 5 ∷ 0 ∷ 5 ∷ minus_two ++ (2 ∷ 3 ∷ 5 ∷ 1 ∷ 1 ∷
    number4 0 ++ (number8 1 ++ (number4 1 ++ (number4 1 ++ (number4 2 ++ (number4 3 ++ (number4 4))))))))))

-- a call with what a moved null pointer points to
abbrev a_call : List ℕ
a_call =
    4 ∷ number4 7 ++ (number8 1 ++ (1 ∷ 2 ∷ 8 ∷ 5 ∷ 0 ∷ 0 ∷ 4 ∷ 7 ∷ 1 ∷ 0 ∷ number4 1 ++ (number8 0 ++ (1 ∷
    number4 5 ++ (number4 6 ++ (number4 7 ++ (number4 8 ++ (number8 0 ++ (1 ∷ number4 0 ++ (number4 9 ++ (
    number4 10)))))))))))

-- a loop with a choice of break and continue
abbrev a_loop : List ℕ
a_loop =
    6 ∷ number8 1 ++ (5 ∷ 9 ∷ 12 ∷ 6 ∷ 0 ∷ number4 0 ++ (number8 0 ++ (7 ∷ 1 ∷ number4 0 ++ (number8 0 ++ (
    number4 11 ++ (number4 12 ++ (number8 1 ++ (7 ∷ number8 1 ++ (8 ∷ number4 13 ++ (number4 14))))))))))

-- the return and the end of the function
abbrev last : List ℕ
last =
    9 ∷ 0 ∷ number4 21 ++ (0 ∷ 1 ∷ 0 ∷ 0 ∷ [])

-- one global of the struct, which starts with 5
abbrev globals : List ℕ
globals =
    number8 1 ++ (number4 0 ++ (number8 1 ++ (103 ∷ number4 22 ++ (number4 23 ++ (1 ∷ number4 0 ++ (0 ∷ 0 ∷ 0 ∷
    number8 1 ++ (number16 5)))))))

-- a model of each kind
abbrev hosts : List ℕ
hosts =
    number8 5 ++ (number4 7 ++ (0 ∷ number8 1 ++ (number8 1 ++ (number16 1 ++ (minus_one ++ (number16 2 ++ (
    number4 8 ++ (1 ∷ number8 1 ++ (number16 3 ++ (number16 4 ++ (number8 6 ++ (number4 9 ++ (2 ∷ number8 0 ++ (
    number4 10 ++ (3 ∷ number4 11 ++ (4 ∷ number8 1 ++ (112 ∷ [])))))))))))))))))

-- the input and the turns
abbrev others : List ℕ
others =
    number8 1 ++ (255 ∷ 0 ∷ 0 ∷ 3 ∷ 232 ∷ [])

boot_is_spelled : spelled boot ≡ structs ++ (signatures ++ (variables ++ (assignment ++ (a_call ++ (a_loop ++ (last ++ (globals ++ (hosts ++ others))))))))
unfolding four_bytes eight_bytes sixteen_signed_bytes
boot_is_spelled = refl
