-- The parts of a body with other numbers are its parts with these numbers, so what it evaluates is the same.
use Rattle.std.proofs.Common.{◌≡◌, ◌∙◌, refl, ap, sym, ℕ, Option, Some, None, List, [], ◌∷◌, ◌++◌, map, option_map}
use Rattle.std.specs.Prelude.{Contains, option_and_then, slice_get}
use Rattle.std.proofs.lemmas.List.{map-append}
use Rattle.pt_base.specs.declared.ids.FnId.{FnId}
use Rattle.pt_base.specs.declared.ids.VarId.{VarId}
use Rattle.pt_base.proofs.Members.{contains_first, contains_later}
use Rattle.typed_tree.specs.declared.ids.ExprId.{ExprId}
use Rattle.typed_tree.specs.declared.part.Part.{Part}
use Rattle.typed_tree.specs.declared.part.Role.{Role}
use Rattle.typed_tree.specs.declared.part.Role.TheVariants.{Value, Condition, Init, Returned}
use Rattle.typed_tree.specs.declared.statement.TypedInit.{TypedInit}
use Rattle.typed_tree.specs.declared.statement.TypedInit.TheVariants as init
use Rattle.typed_tree.specs.declared.statement.TypedDeclarator.{TypedDeclarator}
use Rattle.typed_tree.specs.declared.statement.TypedForInit.{TypedForInit}
use Rattle.typed_tree.specs.declared.statement.TypedForInit.TheVariants as begin
use Rattle.typed_tree.specs.ExpressionTree.{ExprTree}
use Rattle.typed_tree.specs.Lookup.{function_at, parts_in}
use Rattle.typed_tree.specs.Parts.{part_of, optional_part, init_parts, declarator_parts, declaration_parts, for_init_parts, parts_of, else_parts, all_parts, section_parts, function_parts}
use Rattle.typed_tree.specs.StatementTree as b
use Rattle.typed_tree.specs.StatementTree.{BodyTree, ElseTree, no_else, otherwise, BodyTrees, no_bodies, body_and, section, SectionTrees, no_sections, section_and}
use Rattle.typed_tree.specs.TypedTree.{FunctionTree, TypedTree}
use Rattle.usages.specs.Usages.{how_of, item_number, part_usages, parts_usages, usages_in}
use Rattle.lowered_code_law.specs.LocalityRenumbered.{all_by, declarator_by, else_by, for_init_by, init_by, renumbered, sections_by}
use Rattle.lowered_code_law.specs.LocalitySameFunctions.{IsSameBody, IsSameFunction}

-- the part, with the new number of its expression
abbrev part_by : (ExprId → ExprId) → Part → Part
part_by r p = part_of p.role (r p.expr)

-- ---- parts

optional_by : (o : Option ExprId) (r : ExprId → ExprId) (role : Role) → optional_part role (option_map r o) ≡ map (part_by r) (optional_part role o)
optional_by None r role = refl
optional_by (Some e) r role = refl

items_by : (es : List ExprId) (r : ExprId → ExprId) (v : VarId) → map (part_of (Init v)) (map r es) ≡ map (part_by r) (map (part_of (Init v)) es)
items_by [] r v = refl
items_by (e ∷ es) r v = ap (λ (ps : List Part). part_of (Init v) (r e) ∷ ps) (items_by es r v)

init_parts_by : (d : TypedInit) (r : ExprId → ExprId) (v : VarId) → init_parts v (init_by r d) ≡ map (part_by r) (init_parts v d)
init_parts_by init.Nothing r v = refl
init_parts_by (init.Value e) r v = refl
init_parts_by (init.Items s es) r v = items_by es r v

-- the parts of both, one behind the other
both_by : (r : ExprId → ExprId) (ps qs xs ys : List Part) → xs ≡ map (part_by r) ps → ys ≡ map (part_by r) qs → xs ++ ys ≡ map (part_by r) (ps ++ qs)
both_by r ps qs xs ys e f = (λ i. e i ++ f i) ∙ sym (map-append (part_by r) ps qs)

declaration_parts_by : (ds : List TypedDeclarator) (r : ExprId → ExprId) → declaration_parts (map (declarator_by r) ds) ≡ map (part_by r) (declaration_parts ds)
declaration_parts_by [] r = refl
declaration_parts_by (d ∷ ds) r = both_by r (declarator_parts d) (declaration_parts ds) (init_parts d.var (init_by r d.init)) (declaration_parts (map (declarator_by r) ds)) (init_parts_by d.init r d.var) (declaration_parts_by ds r)

for_init_parts_by : (d : TypedForInit) (r : ExprId → ExprId) → for_init_parts (for_init_by r d) ≡ map (part_by r) (for_init_parts d)
for_init_parts_by begin.Nothing r = refl
for_init_parts_by (begin.Declare d) r = declaration_parts_by d.declarators r
for_init_parts_by (begin.Evaluate e) r = refl

mutual
  parts_by : (x : BodyTree) (r : ExprId → ExprId) → parts_of (renumbered r x) ≡ map (part_by r) (parts_of x)
  parts_by (b.block s ys) r = all_parts_by ys r
  parts_by (b.nothing s) r = refl
  parts_by (b.evaluate s e) r = refl
  parts_by (b.declare d) r = declaration_parts_by d.declarators r
  parts_by (b.choose s e y o) r =
      ap (λ (ps : List Part). part_of Condition (r e) ∷ ps) (both_by r (parts_of y) (else_parts o) (parts_of (renumbered r y)) (else_parts (else_by r o)) (parts_by y r) (else_parts_by o r))
  parts_by (b.while_true s e y) r = ap (λ (ps : List Part). part_of Condition (r e) ∷ ps) (parts_by y r)
  parts_by (b.do_while s y e) r = both_by r (parts_of y) (part_of Condition e ∷ []) (parts_of (renumbered r y)) (part_of Condition (r e) ∷ []) (parts_by y r) refl
  parts_by (b.for_each s d o step y) r =
      let last = optional_part Value (option_map r step) ++ parts_of (renumbered r y) in
      both_by r (for_init_parts d) (optional_part Condition o ++ (optional_part Value step ++ parts_of y)) (for_init_parts (for_init_by r d)) (optional_part Condition (option_map r o) ++ last) (for_init_parts_by d r)
      (both_by r (optional_part Condition o) (optional_part Value step ++ parts_of y) (optional_part Condition (option_map r o)) last (optional_by o r Condition)
      (both_by r (optional_part Value step) (parts_of y) (optional_part Value (option_map r step)) (parts_of (renumbered r y)) (optional_by step r Value) (parts_by y r)))
  parts_by (b.give_back s o) r = optional_by o r Returned
  parts_by (b.stop_loop s) r = refl
  parts_by (b.next_turn s) r = refl
  parts_by (b.switch s e ty ss) r = ap (λ (ps : List Part). part_of Condition (r e) ∷ ps) (section_parts_by ss r)

  else_parts_by : (o : ElseTree) (r : ExprId → ExprId) → else_parts (else_by r o) ≡ map (part_by r) (else_parts o)
  else_parts_by no_else r = refl
  else_parts_by (otherwise y) r = parts_by y r

  all_parts_by : (ys : BodyTrees) (r : ExprId → ExprId) → all_parts (all_by r ys) ≡ map (part_by r) (all_parts ys)
  all_parts_by no_bodies r = refl
  all_parts_by (body_and y rest) r = both_by r (parts_of y) (all_parts rest) (parts_of (renumbered r y)) (all_parts (all_by r rest)) (parts_by y r) (all_parts_by rest r)

  section_parts_by : (ss : SectionTrees) (r : ExprId → ExprId) → section_parts (sections_by r ss) ≡ map (part_by r) (section_parts ss)
  section_parts_by no_sections r = refl
  section_parts_by (section_and (section at label ys) rest) r = both_by r (all_parts ys) (section_parts rest) (all_parts (all_by r ys)) (section_parts (sections_by r rest)) (all_parts_by ys r) (section_parts_by rest r)

-- ---- usages

-- the parts of the function of this number are those of its body
pub parts_are : (t : TypedTree) (f : FnId) (g : FunctionTree) (body : BodyTree) → function_at t f ≡ Some g → g.body ≡ Some body → parts_in t f ≡ parts_of body
parts_are t f g body found is = ap (λ (o : Option FunctionTree). function_parts (option_and_then (λ (x : FunctionTree). x.body) o)) found ∙ ap function_parts is

usages_by : (ps : List Part) (xs ys : List ExprTree) (r : ExprId → ExprId) (before : Role) (k : ℕ) → ((p : Part) → Contains ps p → slice_get ys (r p.expr).0 ≡ slice_get xs p.expr.0) → parts_usages ys before k (map (part_by r) ps) ≡ parts_usages xs before k ps
usages_by [] xs ys r before k same = refl
usages_by (p ∷ ps) xs ys r before k same =
    let m = item_number before k p.role in
    λ i. part_usages (how_of p.role m) (same p (contains_first p ps) i) ++ usages_by ps xs ys r p.role m (λ q c. same q (contains_later p ps q c)) i

-- what two bodies evaluate that are the same
body_usages : (xs ys : List ExprTree) (body other : BodyTree) → IsSameBody xs ys body other → parts_usages ys Value 0 (parts_of other) ≡ parts_usages xs Value 0 (parts_of body)
body_usages xs ys body other same =
    ap (λ (x : BodyTree). parts_usages ys Value 0 (parts_of x)) same.statements
    ∙ ap (parts_usages ys Value 0) (parts_by body same.number)
    ∙ usages_by (parts_of body) xs ys same.number Value 0 same.expressions

-- a function that is the same in two programs evaluates the same in both
pub same_usages : (t u : TypedTree) (f : FnId) → IsSameFunction t u f → usages_in t f ≡ usages_in u f
unfolding usages_in
same_usages t u f s =
    ap (parts_usages t.exprs Value 0) (parts_are t f s.here s.body s.stands_here s.body_here)
    ∙ sym (body_usages t.exprs u.exprs s.body s.other s.same)
    ∙ sym (ap (parts_usages u.exprs Value 0) (parts_are u f s.there s.other s.stands_there s.body_there))
