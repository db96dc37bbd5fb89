-- Whatever the faults, statements number their outermost expressions in the order of their parts.
use Rattle.std.proofs.Common.{[], ◌∷◌, ◌++◌}
use Rattle.pt_tree.specs.StatementTree as s
use Rattle.typed_tree.specs.declared.part.Role.TheVariants as role
use Rattle.typed_tree.specs.Parts.{part_of, optional_part, for_init_parts, parts_of, else_parts, all_parts, section_parts}
use Rattle.typed_tree.specs.StatementTree.{body_trees, section_trees}
use Rattle.check_statements.specs.declared.context.Context.{Context}
use Rattle.check_statements.specs.declared.switches.Kind.{Kind}
use Rattle.check_statements.specs.Labels.{Seen, none_seen, labelled}
use Rattle.check_statements.specs.Outermost.{State, tested, maybe_evaluated, maybe_tested}
use Rattle.check_statements.specs.Statements.{checked, checked_else, checked_all, checked_sections, for_begun, switched, inside, outside, looping, switching, with_structs}
use Rattle.type_law.proofs.StatementsNumbering.{Goes, goes_nowhere, goes_on, goes_one, goes_inside, goes_outside, goes_with}
use Rattle.type_law.proofs.StatementsWalks.{declared_goes, begun_goes, maybe_tested_goes, maybe_evaluated_goes, given_back_goes}

mutual
  pub goes : (c : Context) (st : State) (x : s.StmtTree) → Goes st (checked c st x).state (checked c st x).trees (parts_of (checked c st x).tree)
  goes c st (s.declare d) = declared_goes st d
  goes c st (s.block p xs) =
      let all = checked_all c (inside st) xs in
      goes_inside st (outside all.state) all.trees (all_parts (body_trees all.bodies))
      (goes_outside (inside st) all.state all.trees (all_parts (body_trees all.bodies)) (all_go c (inside st) xs))
  goes c st (s.nothing p) = goes_nowhere st
  goes c st (s.evaluate p a) = goes_one st _ _ _
  goes c st (s.choose at a x o) =
      let p = tested st a in
      let q = checked c p.state x in
      let r = checked_else c q.state o in
      goes_on st p.state r.state (p.tree ∷ []) (q.trees ++ r.trees) (part_of role.Condition p.id ∷ []) (parts_of q.tree ++ else_parts r.tree) (goes_one st _ _ _)
      (goes_on p.state q.state r.state q.trees r.trees (parts_of q.tree) (else_parts r.tree) (goes c p.state x) (else_goes c q.state o))
  goes c st (s.while_true at a x) =
      let p = tested st a in
      let q = checked (looping c) p.state x in
      goes_on st p.state q.state (p.tree ∷ []) q.trees (part_of role.Condition p.id ∷ []) (parts_of q.tree) (goes_one st _ _ _) (goes (looping c) p.state x)
  goes c st (s.do_while at x a) =
      let q = checked (looping c) st x in
      let p = tested q.state a in
      goes_on st q.state p.state q.trees (p.tree ∷ []) (parts_of q.tree) (part_of role.Condition p.id ∷ []) (goes (looping c) st x) (goes_one q.state _ _ _)
  goes c st (s.for_each at i a u x) =
      let b = for_begun (inside st) i in
      let p = maybe_tested b.state a in
      let q = maybe_evaluated p.state u in
      let r = checked (looping c) q.state x in
      let body = goes (looping c) q.state x in
      let update = goes_on p.state q.state r.state q.trees r.trees (optional_part role.Value q.id) (parts_of r.tree) (maybe_evaluated_goes p.state u) body in
      let test = goes_on b.state p.state r.state p.trees (q.trees ++ r.trees) (optional_part role.Condition p.id) (optional_part role.Value q.id ++ parts_of r.tree) (maybe_tested_goes b.state a) update in
      let trees = b.trees ++ (p.trees ++ (q.trees ++ r.trees)) in
      let parts = for_init_parts b.init ++ (optional_part role.Condition p.id ++ (optional_part role.Value q.id ++ parts_of r.tree)) in
      let whole = goes_on (inside st) b.state r.state b.trees (p.trees ++ (q.trees ++ r.trees)) (for_init_parts b.init) (optional_part role.Condition p.id ++ (optional_part role.Value q.id ++ parts_of r.tree)) (begun_goes (inside st) i) test in
      goes_inside st (outside r.state) trees parts (goes_outside (inside st) r.state trees parts whole)
  goes c st (s.give_back at a) = given_back_goes st c.result at a
  goes c st (s.stop_loop at) = goes_nowhere st
  goes c st (s.next_turn at) = goes_nowhere st
  goes c st (s.switch at a xs) =
      let p = switched st a in
      let q = checked_sections (switching c) p.kind none_seen p.state xs in
      goes_on st p.state q.state (p.tree ∷ []) q.trees (part_of role.Condition p.id ∷ []) (section_parts (section_trees q.sections)) (goes_one st _ _ _)
      (sections_go (switching c) p.kind none_seen p.state xs)

  pub else_goes : (c : Context) (st : State) (x : s.ElseTree) → Goes st (checked_else c st x).state (checked_else c st x).trees (else_parts (checked_else c st x).tree)
  else_goes c st s.no_else = goes_nowhere st
  else_goes c st (s.otherwise x) = goes c st x

  pub all_go : (c : Context) (st : State) (xs : s.StmtTrees) → Goes st (checked_all c st xs).state (checked_all c st xs).trees (all_parts (body_trees (checked_all c st xs).bodies))
  all_go c st s.no_stmts = goes_nowhere st
  all_go c st (s.stmt_and x xs) =
      let one = checked c st x in
      let rest = checked_all c one.state xs in
      goes_on st one.state rest.state one.trees rest.trees (parts_of one.tree) (all_parts (body_trees rest.bodies)) (goes c st x) (all_go c one.state xs)

  pub sections_go : (c : Context) (kind : Kind) (seen : Seen) (st : State) (xs : s.SectionTrees) → Goes st (checked_sections c kind seen st xs).state (checked_sections c kind seen st xs).trees (section_parts (section_trees (checked_sections c kind seen st xs).sections))
  sections_go c kind seen st s.no_sections = goes_nowhere st
  sections_go c kind seen st (s.section_and (s.section at label xs) rest) =
      let l = labelled st.env kind st.structs seen label in
      let one = checked_all c (with_structs st l.structs) xs in
      let others = checked_sections c kind l.seen one.state rest in
      goes_on st one.state others.state one.trees others.trees (all_parts (body_trees one.bodies)) (section_parts (section_trees others.sections))
      (goes_with st one.state l.structs one.trees (all_parts (body_trees one.bodies)) (all_go c (with_structs st l.structs) xs))
      (sections_go c kind l.seen one.state rest)
