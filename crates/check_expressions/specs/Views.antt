-- What is known of an expression, without where the parts of its tree lie in memory.
use Rattle.std.specs.Prelude.{map}
use Rattle.typed_tree.specs.ExpressionTree.{view_expr, view_root, view_step}
use Rattle.check_expressions.specs.declared.operand.Operand.{Operand}
use Rattle.check_expressions.specs.declared.operand.Elaborated.{Elaborated}
use Rattle.check_expressions.specs.declared.operand.Elaborated.TheVariants.{Value, Place, Pointed, Moved, Item}
use Rattle.check_expressions.specs.declared.operand.Placed as p
use Rattle.check_expressions.specs.declared.links.SoFar as f
use Rattle.typed_tree.specs.ExpressionTree.{view_link}
use Rattle.check_expressions.specs.Choices.{Placed}
use Rattle.check_expressions.specs.Links.{SoFar}
use Rattle.check_expressions.specs.Operands.{Elaboration, value, object, pointed, moved, element, Known}

unfoldable pub elaboration : Elaborated → Elaboration
elaboration (Value x) = value (view_expr x)
elaboration (Place p) = object (view_root p.root) (map view_step p.steps.items)
elaboration (Pointed x s) = pointed (view_expr x) s
elaboration (Moved x) = moved (view_expr x)
elaboration (Item p at i s) = element (view_root p.root) (map view_step p.steps.items) at (view_expr i) s

abbrev pub known : Operand → Known
known o = record { ty = o.ty; fixed = o.fixed; designates = o.designates; null = o.null; tree = elaboration o.tree }

-- an operand with where it stands
abbrev pub placed : p.Placed → Placed
placed p = record { span = p.span; known = known p.operand }

-- all of a chain so far
abbrev pub so_far : f.SoFar → SoFar
so_far f = record { value = f.value; span = f.span; first = view_expr f.first; links = map view_link f.links.items }
