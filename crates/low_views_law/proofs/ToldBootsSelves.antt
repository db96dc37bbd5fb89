-- A well-formed program is the same as itself for its slave.
use Rattle.std.proofs.Common.{◌≡◌, refl, ap, true, false, Option, None, Some, List, [], ◌∷◌, map, option_map}
use Rattle.std.specs.Prelude.{IsTrue, is_some}
use Rattle.std.specs.Option.{option_map_or}
use Rattle.pt_base.specs.declared.ids.FnId.{FnId}
use Rattle.pt_base.proofs.Booleans.{both_hold_first, false_not_true}
use Rattle.typed_tree.specs.declared.ids.ExprId.{ExprId}
use Rattle.typed_tree.specs.declared.statement.TypedInit.{TypedInit}
use Rattle.typed_tree.specs.declared.statement.TypedInit.TheVariants as init
use Rattle.typed_tree.specs.declared.statement.TypedDeclarator.{TypedDeclarator}
use Rattle.typed_tree.specs.declared.statement.TypedForInit.{TypedForInit}
use Rattle.typed_tree.specs.declared.statement.TypedForInit.TheVariants as begin
use Rattle.typed_tree.specs.Lookup.{function_at}
use Rattle.typed_tree.specs.StatementTree as b
use Rattle.typed_tree.specs.StatementTree.{BodyTree, ElseTree, no_else, otherwise, BodyTrees, no_bodies, body_and, section, SectionTrees, no_sections, section_and}
use Rattle.typed_tree.specs.TypedTree.{FunctionTree, TypedTree}
use Rattle.typed_tree.specs.WellFormed.{is_well_formed}
use Rattle.reach.specs.Contexts.{InSlave, is_plain, main, slave_calls}
use Rattle.lowered_code_law.specs.LocalityRenumbered.{all_by, declarator_by, else_by, for_init_by, init_by, renumbered, sections_by}
use Rattle.lowered_code_law.specs.LocalitySameFunctions.{IsSameFunction}
use Rattle.low_views_law.specs.ToldBootsLaws.{ProgramsAreTheSameAsThemselves}
use Rattle.low_views_law.proofs.ToldBootsReached.{main_has_body}

-- ---- bodies with the numbers that they have

option_self : (o : Option ExprId) → o ≡ option_map (λ (e : ExprId). e) o
option_self None = refl
option_self (Some e) = refl

items_self : (es : List ExprId) → es ≡ map (λ (e : ExprId). e) es
items_self [] = refl
items_self (e ∷ es) = ap (λ (rest : List ExprId). e ∷ rest) (items_self es)

init_self : (d : TypedInit) → d ≡ init_by (λ (e : ExprId). e) d
init_self init.Nothing = refl
init_self (init.Value e) = refl
init_self (init.Items s es) = ap (init.Items s) (items_self es)

declared_self : (ds : List TypedDeclarator) → ds ≡ map (declarator_by (λ (e : ExprId). e)) ds
declared_self [] = refl
declared_self (d ∷ ds) = λ i. record { var = d.var; init = init_self d.init i } ∷ declared_self ds i

begun_self : (d : TypedForInit) → d ≡ for_init_by (λ (e : ExprId). e) d
begun_self begin.Nothing = refl
begun_self (begin.Declare d) = λ i. begin.Declare (record { span = d.span; declarators = declared_self d.declarators i })
begun_self (begin.Evaluate e) = refl

mutual
  body_self : (x : BodyTree) → x ≡ renumbered (λ (e : ExprId). e) x
  body_self (b.block s ys) = ap (b.block s) (all_self ys)
  body_self (b.nothing s) = refl
  body_self (b.evaluate s e) = refl
  body_self (b.declare d) = λ i. b.declare (record { span = d.span; declarators = declared_self d.declarators i })
  body_self (b.choose s e y o) = λ i. b.choose s e (body_self y i) (else_self o i)
  body_self (b.while_true s e y) = ap (b.while_true s e) (body_self y)
  body_self (b.do_while s y e) = λ i. b.do_while s (body_self y i) e
  body_self (b.for_each s d o step y) = λ i. b.for_each s (begun_self d i) (option_self o i) (option_self step i) (body_self y i)
  body_self (b.give_back s o) = ap (b.give_back s) (option_self o)
  body_self (b.stop_loop s) = refl
  body_self (b.next_turn s) = refl
  body_self (b.switch s e ty ss) = ap (b.switch s e ty) (sections_self ss)

  else_self : (o : ElseTree) → o ≡ else_by (λ (e : ExprId). e) o
  else_self no_else = refl
  else_self (otherwise y) = ap otherwise (body_self y)

  all_self : (ys : BodyTrees) → ys ≡ all_by (λ (e : ExprId). e) ys
  all_self no_bodies = refl
  all_self (body_and y rest) = λ i. body_and (body_self y i) (all_self rest i)

  sections_self : (ss : SectionTrees) → ss ≡ sections_by (λ (e : ExprId). e) ss
  sections_self no_sections = refl
  sections_self (section_and (section at label ys) rest) = λ i. section_and (section at label (all_self ys i)) (sections_self rest i)

-- ---- functions

function_self : (t : TypedTree) (f : FnId) (g : FunctionTree) (body : BodyTree) → function_at t f ≡ Some g → g.body ≡ Some body → IsSameFunction t t f
function_self t f g body is has = record {
  here = g;
  there = g;
  body = body;
  other = body;
  stands_here = is;
  stands_there = is;
  body_here = has;
  body_there = has;
  signature = refl;
  vars = refl;
  same = record { number = λ e. e; statements = body_self body; expressions = λ p c. refl };
}

-- a function that has a body
with_body : (t : TypedTree) (f : FnId) (g : FunctionTree) → function_at t f ≡ Some g → is_some g.body ≡ true → IsSameFunction t t f
with_body t f g is has = go g.body refl has
  where
    go : (o : Option BodyTree) → g.body ≡ o → is_some o ≡ true → IsSameFunction t t f
    go None e h = false_not_true h
    go (Some body) e h = function_self t f g body is e

plain_self : (t : TypedTree) (f : FnId) (o : Option FunctionTree) → function_at t f ≡ o → option_map_or is_plain o false ≡ true → IsSameFunction t t f
plain_self t f None is h = false_not_true h
plain_self t f (Some g) is h = with_body t f g is (both_hold_first (is_some g.body) _ h)

slave_self : (t : TypedTree) → IsTrue (is_well_formed t) → (f : FnId) → InSlave t f → IsSameFunction t t f
slave_self t well f (main g h) = let m = main_has_body t well g h in with_body t g m.0 m.1 m.2
slave_self t well f (slave_calls h g r c e) = plain_self t g (function_at t g) refl e

pub programs_selves : ProgramsAreTheSameAsThemselves
programs_selves t well = record {
  structs = refl;
  functions = slave_self t well;
  signatures = λ f g r c. refl;
  globals = λ f g r c. refl;
}
