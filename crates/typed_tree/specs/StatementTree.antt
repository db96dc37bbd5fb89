-- Statements without where their parts lie in memory.
use Rattle.std.specs.Prelude.{List, [], ◌∷◌, Option, map}
use Rattle.pt_base.specs.declared.span.Span.{Span}
use Rattle.pt_base.specs.declared.int_type.IntType.{IntType}
use Rattle.typed_tree.specs.declared.ids.ExprId.{ExprId}
use Rattle.typed_tree.specs.declared.statement.TypedLabel.{TypedLabel}
use Rattle.typed_tree.specs.declared.statement.TypedForInit.{TypedForInit}
use Rattle.typed_tree.specs.declared.statement.TypedDeclaration.{TypedDeclaration}
use Rattle.typed_tree.specs.declared.statement.TypedSection.{TypedSection}
use Rattle.typed_tree.specs.declared.statement.TypedBody.{TypedBody, Held-TypedBody-If-3, None', Some', Row_of-TypedBody, end_of-TypedBody, more_of-TypedBody, Row_of-TypedSection, end_of-TypedSection, more_of-TypedSection}
use Rattle.typed_tree.specs.declared.statement.TypedBody.TheVariants as s

mutual
  pub data BodyTree : Type 0 where
    block : Span → BodyTrees → BodyTree
    nothing : Span → BodyTree
    evaluate : Span → ExprId → BodyTree
    declare : TypedDeclaration → BodyTree
    choose : Span → ExprId → BodyTree → ElseTree → BodyTree
    while_true : Span → ExprId → BodyTree → BodyTree
    do_while : Span → BodyTree → ExprId → BodyTree
    for_each : Span → TypedForInit → Option ExprId → Option ExprId → BodyTree → BodyTree
    give_back : Span → Option ExprId → BodyTree
    stop_loop : Span → BodyTree
    next_turn : Span → BodyTree
    switch : Span → ExprId → IntType → SectionTrees → BodyTree

  pub data ElseTree : Type 0 where
    no_else : ElseTree
    otherwise : BodyTree → ElseTree

  pub data BodyTrees : Type 0 where
    no_bodies : BodyTrees
    body_and : BodyTree → BodyTrees → BodyTrees

  pub data SectionTree : Type 0 where
    section : Span → TypedLabel → BodyTrees → SectionTree

  pub data SectionTrees : Type 0 where
    no_sections : SectionTrees
    section_and : SectionTree → SectionTrees → SectionTrees

abbrev mutual
  pub view_body : TypedBody → BodyTree
  view_body (s.Block' s shape row) = block s (view_body_row row)
  view_body (s.Empty s) = nothing s
  view_body (s.Evaluate s e) = evaluate s e
  view_body (s.Declare d) = declare d
  view_body (s.If' s e p a o) = choose s e (view_body a) (view_else o)
  view_body (s.While' s e p a) = while_true s e (view_body a)
  view_body (s.Do' s p a e) = do_while s (view_body a) e
  view_body (s.For' s i t u p a) = for_each s i t u (view_body a)
  view_body (s.Return s e) = give_back s e
  view_body (s.Break s) = stop_loop s
  view_body (s.Continue s) = next_turn s
  view_body (s.Switch' s e t shape row) = switch s e t (view_section_row row)

  pub view_else : Held-TypedBody-If-3 → ElseTree
  view_else None' = no_else
  view_else (Some' p a) = otherwise (view_body a)

  pub view_body_row : {n : _} → Row_of-TypedBody n → BodyTrees
  view_body_row end_of-TypedBody = no_bodies
  view_body_row (more_of-TypedBody s rest) = body_and (view_body s) (view_body_row rest)

  pub view_section_row : {n : _} → Row_of-TypedSection n → SectionTrees
  view_section_row end_of-TypedSection = no_sections
  view_section_row (more_of-TypedSection s l shape row rest) = section_and (section s l (view_body_row row)) (view_section_row rest)

abbrev pub body_trees : List BodyTree → BodyTrees
body_trees [] = no_bodies
body_trees (s ∷ ss) = body_and s (body_trees ss)

abbrev pub section_trees : List SectionTree → SectionTrees
section_trees [] = no_sections
section_trees (s ∷ ss) = section_and s (section_trees ss)

abbrev pub view_section : TypedSection → SectionTree
view_section s = section s.span s.label (body_trees (map view_body s.statements.items))
