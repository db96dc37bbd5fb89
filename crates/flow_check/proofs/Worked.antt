-- The lines of slots, tried by computing.
use Rattle.std.proofs.Common.{◌≡◌, ℕ, refl, false, Some, None, List, [], ◌∷◌, codes, map}
use Rattle.std.specs.Fmt.{digits}
use Rattle.pt_base.specs.declared.int_type.IntType.TheVariants as i
use Rattle.pt_base.specs.declared.span.Span.{Span}
use Rattle.pt_tree.specs.declared.signature.Elem.TheVariants as el
use Rattle.sides.proofs.Worked.{span, int, function, body}
use Rattle.sides.specs.Leaves.{leaves_of}
use Rattle.sides.specs.Slots.{slot_at, slots_of}
use Rattle.typed_tree.specs.declared.types.Field.{Field}
use Rattle.typed_tree.specs.declared.types.VarTy.{VarTy}
use Rattle.typed_tree.specs.declared.types.VarTy.TheVariants as ty
use Rattle.typed_tree.specs.declared.variable.Var.{Var}
use Rattle.typed_tree.specs.TypedTree.{TypedTree}
use Rattle.flow_check.specs.Shown.{name_at}
use Rattle.flow_check.specs.SlotLines.{slot_line}

abbrev field : List ℕ → VarTy → Field
field name of = record { name = name; ty = of; marked = false }

abbrev var : List ℕ → VarTy → Span → Var
var name of at = record { name = name; span = at; ty = of; marked = false; unpriv = false; holds = None }

-- ---- struct in { int a; int key; }; struct out { int n; struct in both[2]; }; int g;
-- int main(void) { struct out *p; int k; return 0; }
-- g is the slot 0, p's are 1 to 3, k is 4, and what main returns 5

abbrev names : TypedTree
names = record {
  structs = record { name = codes "in"; fields = field (codes "a") int ∷ field (codes "key") int ∷ [] }
      ∷ record { name = codes "out"; fields = field (codes "n") int ∷ field (codes "both") (ty.Array (el.Struct 0) 2) ∷ [] } ∷ [];
  globals = record { var = var (codes "g") int (span 83 84); fixed = false; declassify = false; cells = [] } ∷ [];
  functions = function (codes "main") (Some i.Int) [] false false (var (codes "p") (ty.Pointer (el.Struct 1) false) (span 116 117) ∷ var (codes "k") int (span 123 124) ∷ []) (body []) ∷ [];
  exprs = [];
}

names_lines : map (slot_line names) (0 ∷ 1 ∷ 2 ∷ 3 ∷ 4 ∷ 5 ∷ [])
    ≡ codes "priv g 83..84\n" ∷ codes "priv p.n 116..117\n" ∷ codes "priv p.both.a 116..117\n" ∷ codes "priv p.both.key 116..117\n" ∷ codes "priv k 123..124\n" ∷ [] ∷ []
unfolding slots_of leaves_of digits
names_lines = refl

names_places : map (λ n. name_at names (slot_at names n).owner) (0 ∷ 1 ∷ 3 ∷ 4 ∷ 5 ∷ []) ≡ 83 ∷ 116 ∷ 116 ∷ 123 ∷ 0 ∷ []
unfolding slots_of leaves_of
names_places = refl
