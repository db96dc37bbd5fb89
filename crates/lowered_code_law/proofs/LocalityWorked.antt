-- Two programs that differ in a privileged body alone, which stands before main: one has an expression more.
use Rattle.std.proofs.Common.{◌≡◌, refl, subst, ℕ, ◌+◌, false, true, ◌⊎◌, inl, inr, Some, [], ◌∷◌}
use Rattle.std.specs.Prelude.{Contains, codes, pos, slice_get}
use Rattle.pt_base.specs.declared.int_type.IntType.TheVariants as int
use Rattle.pt_base.proofs.Members.{contains_cases, contains_nothing}
use Rattle.typed_tree.specs.declared.part.Part.{Part}
use Rattle.typed_tree.specs.declared.part.Role.TheVariants.{Returned}
use Rattle.typed_tree.specs.declared.types.VarTy.TheVariants.{Int}
use Rattle.typed_tree.specs.ExpressionTree.{ExprTree, constant, typed}
use Rattle.typed_tree.specs.Parts.{part_of}
use Rattle.typed_tree.specs.StatementTree.{BodyTree, block, body_and, evaluate, give_back, no_bodies}
use Rattle.typed_tree.specs.TypedTree.{FunctionTree, TypedTree}
use Rattle.lowering.specs.Functions.{core_of}
use Rattle.lowered_code_law.specs.LocalitySameFunctions.{IsSameFunction}

abbrev one : ExprTree
one = typed (record { from = 10; to = 11 }) (Some (Int int.Int)) (constant (pos 1))

abbrev result : ExprTree
result = typed (record { from = 40; to = 41 }) (Some (Int int.Int)) (constant (pos 0))

abbrev hidden : BodyTree → FunctionTree
hidden body = record { signature = record { name = codes "f"; result = Some int.Int; params = []; host = false; privileged = true; declassify = false }; name = record { from = 1; to = 2 }; vars = []; body = Some body }

-- main returns the expression of this number
abbrev main_body : ℕ → BodyTree
main_body n = block (record { from = 30; to = 44 }) (body_and (give_back (record { from = 32; to = 42 }) (Some (record { 0 = n }))) no_bodies)

abbrev main : ℕ → FunctionTree
main n = record { signature = record { name = codes "main"; result = Some int.Int; params = []; host = false; privileged = false; declassify = false }; name = record { from = 20; to = 24 }; vars = []; body = Some (main_body n) }

abbrev short : TypedTree
short = record {
  structs = [];
  globals = [];
  functions = hidden (block (record { from = 5; to = 18 }) (body_and (evaluate (record { from = 10; to = 12 }) (record { 0 = 0 })) no_bodies)) ∷ main 1 ∷ [];
  exprs = one ∷ result ∷ [];
}

abbrev long : TypedTree
long = record {
  structs = [];
  globals = [];
  functions = hidden (block (record { from = 5; to = 18 }) (body_and (evaluate (record { from = 10; to = 12 }) (record { 0 = 0 })) (body_and (evaluate (record { from = 14; to = 16 }) (record { 0 = 1 })) no_bodies))) ∷ main 2 ∷ [];
  exprs = one ∷ one ∷ result ∷ [];
}

same_main : IsSameFunction short long (record { 0 = 1 })
same_main = record {
  here = main 1;
  there = main 2;
  body = main_body 1;
  other = main_body 2;
  stands_here = refl;
  stands_there = refl;
  body_here = refl;
  body_there = refl;
  signature = refl;
  vars = refl;
  same = record { number = λ e. record { 0 = e.0 + 1 }; statements = refl; expressions = λ p c. go p (contains_cases (part_of Returned (record { 0 = 1 })) [] p c) };
}
  where
    go : (p : Part) → (part_of Returned (record { 0 = 1 }) ≡ p) ⊎ Contains [] p → slice_get long.exprs (p.expr.0 + 1) ≡ slice_get short.exprs p.expr.0
    go p (inl e) = subst (λ (q : Part). slice_get long.exprs (q.expr.0 + 1) ≡ slice_get short.exprs q.expr.0) e refl
    go p (inr i) = absurd (contains_nothing p i)

-- its code is the same in both
same_code : core_of short 1 (main 1) (main_body 1) ≡ core_of long 1 (main 2) (main_body 2)
same_code = refl
