-- Statements without a fault are well formed.
use Rattle.std.proofs.Common.{◌≡◌, refl, sym, ◌∙◌, subst, Bool, true, false, [], ◌∷◌, ◌++◌}
use Rattle.std.specs.Prelude.{IsTrue, ◌&&◌, ◌||◌, not}
use Rattle.std.specs.List.{list_all, list_any}
use Rattle.pt_base.proofs.Booleans.{both_hold, both_hold_first, both_hold_second, or_with_true}
use Rattle.pt_base.proofs.Lists.{append_nil_first, append_nil_second}
use Rattle.pt_tree.specs.StatementTree as s
use Rattle.pt_tree.specs.Facts.{expr_sound, option_sound, for_init_sound, label_sound, stmt_sound, else_sound as other_sound, stmts_sound, sections_sound as parts_sound}
use Rattle.typed_tree.specs.declared.part.Role.TheVariants as role
use Rattle.typed_tree.specs.Parts.{part_of, optional_part, for_init_parts, parts_of, else_parts, all_parts, section_parts}
use Rattle.typed_tree.specs.StatementTree.{body_trees, section_trees}
use Rattle.typed_tree.specs.TypeTests.{is_scalar}
use Rattle.typed_tree.specs.WellFormedStatement.{Scope, any_type, expr_fits, option_fits, for_init_fits, promotes_to, is_sound, else_sound, all_sound, sections_sound, labels_of, labels_fit, label_fits, labels_distinct, same_label}
use Rattle.check_declarations.specs.declared.fault.FaultKind.TheVariants.{OutOfProfile}
use Rattle.check_declarations.specs.Structs.{Structs}
use Rattle.check_statements.specs.declared.context.Context.{Context}
use Rattle.check_statements.specs.declared.switches.Kind.{Kind}
use Rattle.check_statements.specs.Labels.{Seen, none_seen, labelled}
use Rattle.check_statements.specs.Outermost.{State, tested, maybe_evaluated, maybe_tested}
use Rattle.check_statements.specs.Statements.{CheckedSections, checked, checked_else, checked_all, checked_sections, for_begun, switched, inside, looping, switching, with_structs}
use Rattle.type_law.specs.ExpressionsAgreement.{Agrees}
use Rattle.type_law.proofs.StatementsNumbering.{goes_on, goes_one, goes_with}
use Rattle.type_law.proofs.StatementsWalks.{begun_goes, maybe_tested_goes, maybe_evaluated_goes}
use Rattle.type_law.proofs.StatementWalks.{goes, else_goes, all_go, sections_go}
use Rattle.type_law.proofs.StatementsGiven.{Laws, Returns, Ready, Keeps, keeps_nowhere, keeps_on, keeps_scope, ready_scope, ready_first, ready_second}
use Rattle.type_law.proofs.StatementsOutermost.{evaluated_sound, tested_sound, maybe_evaluated_sound, maybe_tested_sound, given_back_sound, switched_sound}
use Rattle.type_law.proofs.StatementsDeclarations.{declared_sound, begun_sound}
use Rattle.type_law.proofs.StatementsLabels.{is_fresh, labelled_sound, fresh_labels}
use Rattle.type_law.proofs.DeclarationsFaultLemmas.{no_fault}

is_true : (b : Bool) → not b ≡ false → IsTrue b
is_true true h = refl
is_true false h = cc

-- a break may stand here
abbrev is_left : Context → Bool
is_left c = c.in_loop || c.in_switch

-- the sections of a switch, whose labels are none of those that were seen
pub record SoundSections (sc : Scope) (again : Bool) (kind : Kind) (seen : Seen) (st : State) (q : CheckedSections) : Type 0 where
  pub keeps : Keeps sc.names st q.state
  pub sound : IsTrue (sections_sound sc again (section_trees q.sections))
  pub fit : IsTrue (list_all (label_fits kind.ty) (labels_of (section_trees q.sections)))
  pub distinct : IsTrue (labels_distinct (labels_of (section_trees q.sections)))
  pub fresh : IsTrue (list_all (is_fresh seen) (labels_of (section_trees q.sections)))

mutual
  pub sound : (laws : Laws) (sc : Scope) (c : Context) (st : State) (x : s.StmtTree) → Returns sc c.result → Ready sc st (checked c st x).state (checked c st x).trees → IsTrue (stmt_sound x) → (checked c st x).faults ≡ [] → Keeps sc.names st (checked c st x).state × IsTrue (is_sound sc (is_left c) c.in_loop (checked c st x).tree)
  sound laws sc c st (s.declare d) returns r given none = declared_sound laws sc st d r given none
  sound laws sc c st (s.block p xs) returns r given none =
      let all = checked_all c (inside st) xs in
      let k = statements_sound laws sc c (inside st) xs returns (ready_scope sc st all.state all.trees r) given none in
      (keeps_scope sc.names st all.state k.0, k.1)
  sound laws sc c st (s.nothing p) returns r given none = (keeps_nowhere sc.names st r.agrees, refl)
  sound laws sc c st (s.evaluate p a) returns r given none = evaluated_sound laws sc st a r.agrees r.stand.0 given none
  sound laws sc c st (s.choose at a x o) returns r given none =
      let p = tested st a in
      let q = checked c p.state x in
      let e = checked_else c q.state o in
      let parts = stmt_sound x && other_sound o in
      let none_parts = append_nil_second p.faults (q.faults ++ e.faults) none in
      let first = tested_sound laws sc st a r.agrees r.stand.0 (both_hold_first (expr_sound a) parts given) (append_nil_first p.faults (q.faults ++ e.faults) none) in
      let after_test = ready_second sc st p.state e.state (p.tree ∷ []) (q.trees ++ e.trees) (part_of role.Condition p.id ∷ []) (goes_one st _ _ _) first.0 r in
      let ready_yes = ready_first sc p.state q.state e.state q.trees e.trees (else_parts e.tree) (else_goes c q.state o) after_test in
      let given_parts = both_hold_second (expr_sound a) parts given in
      let second = sound laws sc c p.state x returns ready_yes (both_hold_first (stmt_sound x) (other_sound o) given_parts) (append_nil_first q.faults e.faults none_parts) in
      let ready_no = ready_second sc p.state q.state e.state q.trees e.trees (parts_of q.tree) (goes c p.state x) second.0 after_test in
      let third = otherwise_sound laws sc c q.state o returns ready_no (both_hold_second (stmt_sound x) (other_sound o) given_parts) (append_nil_second q.faults e.faults none_parts) in
      let yes_sound = is_sound sc (is_left c) c.in_loop q.tree in
      let no_sound = else_sound sc (is_left c) c.in_loop e.tree in (
        keeps_on sc.names st p.state e.state first.0 (keeps_on sc.names p.state q.state e.state second.0 third.0),
        both_hold (expr_fits sc is_scalar p.id) (yes_sound && no_sound) first.1 (both_hold yes_sound no_sound second.1 third.1),
      )
  sound laws sc c st (s.while_true at a x) returns r given none =
      let p = tested st a in
      let q = checked (looping c) p.state x in
      let first = tested_sound laws sc st a r.agrees r.stand.0 (both_hold_first (expr_sound a) (stmt_sound x) given) (append_nil_first p.faults q.faults none) in
      let after_test = ready_second sc st p.state q.state (p.tree ∷ []) q.trees (part_of role.Condition p.id ∷ []) (goes_one st _ _ _) first.0 r in
      let second = sound laws sc (looping c) p.state x returns after_test (both_hold_second (expr_sound a) (stmt_sound x) given) (append_nil_second p.faults q.faults none) in
      (keeps_on sc.names st p.state q.state first.0 second.0, both_hold (expr_fits sc is_scalar p.id) (is_sound sc true true q.tree) first.1 second.1)
  sound laws sc c st (s.do_while at x a) returns r given none =
      let q = checked (looping c) st x in
      let p = tested q.state a in
      let ready_body = ready_first sc st q.state p.state q.trees (p.tree ∷ []) (part_of role.Condition p.id ∷ []) (goes_one q.state _ _ _) r in
      let first = sound laws sc (looping c) st x returns ready_body (both_hold_first (stmt_sound x) (expr_sound a) given) (append_nil_first q.faults p.faults none) in
      let ready_test = ready_second sc st q.state p.state q.trees (p.tree ∷ []) (parts_of q.tree) (goes (looping c) st x) first.0 r in
      let second = tested_sound laws sc q.state a ready_test.agrees ready_test.stand.0 (both_hold_second (stmt_sound x) (expr_sound a) given) (append_nil_second q.faults p.faults none) in
      (keeps_on sc.names st q.state p.state first.0 second.0, both_hold (is_sound sc true true q.tree) (expr_fits sc is_scalar p.id) first.1 second.1)
  sound laws sc c st (s.for_each at i a u x) returns r given none =
      let b = for_begun (inside st) i in
      let p = maybe_tested b.state a in
      let q = maybe_evaluated p.state u in
      let d = checked (looping c) q.state x in
      let body_goes = goes (looping c) q.state x in
      let update_goes = goes_on p.state q.state d.state q.trees d.trees (optional_part role.Value q.id) (parts_of d.tree) (maybe_evaluated_goes p.state u) body_goes in
      let test_goes = goes_on b.state p.state d.state p.trees (q.trees ++ d.trees) (optional_part role.Condition p.id) (optional_part role.Value q.id ++ parts_of d.tree) (maybe_tested_goes b.state a) update_goes in
      let given_parts = both_hold_second (for_init_sound i) (option_sound a && (option_sound u && stmt_sound x)) given in
      let given_rest = both_hold_second (option_sound a) (option_sound u && stmt_sound x) given_parts in
      let none_parts = append_nil_second b.faults (p.faults ++ (q.faults ++ d.faults)) none in
      let none_rest = append_nil_second p.faults (q.faults ++ d.faults) none_parts in
      let within = ready_scope sc st d.state (b.trees ++ (p.trees ++ (q.trees ++ d.trees))) r in
      let first = begun_sound laws sc (inside st) i (ready_first sc (inside st) b.state d.state b.trees (p.trees ++ (q.trees ++ d.trees)) (optional_part role.Condition p.id ++ (optional_part role.Value q.id ++ parts_of d.tree)) test_goes within)
      (both_hold_first (for_init_sound i) (option_sound a && (option_sound u && stmt_sound x)) given) (append_nil_first b.faults (p.faults ++ (q.faults ++ d.faults)) none) in
      let after_begin = ready_second sc (inside st) b.state d.state b.trees (p.trees ++ (q.trees ++ d.trees)) (for_init_parts b.init) (begun_goes (inside st) i) first.0 within in
      let second = maybe_tested_sound laws sc b.state a (ready_first sc b.state p.state d.state p.trees (q.trees ++ d.trees) (optional_part role.Value q.id ++ parts_of d.tree) update_goes after_begin)
      (both_hold_first (option_sound a) (option_sound u && stmt_sound x) given_parts) (append_nil_first p.faults (q.faults ++ d.faults) none_parts) in
      let after_test = ready_second sc b.state p.state d.state p.trees (q.trees ++ d.trees) (optional_part role.Condition p.id) (maybe_tested_goes b.state a) second.0 after_begin in
      let third = maybe_evaluated_sound laws sc p.state u (ready_first sc p.state q.state d.state q.trees d.trees (parts_of d.tree) body_goes after_test)
      (both_hold_first (option_sound u) (stmt_sound x) given_rest) (append_nil_first q.faults d.faults none_rest) in
      let after_update = ready_second sc p.state q.state d.state q.trees d.trees (optional_part role.Value q.id) (maybe_evaluated_goes p.state u) third.0 after_test in
      let fourth = sound laws sc (looping c) q.state x returns after_update (both_hold_second (option_sound u) (stmt_sound x) given_rest) (append_nil_second q.faults d.faults none_rest) in
      let keeps = keeps_on sc.names (inside st) b.state d.state first.0 (keeps_on sc.names b.state p.state d.state second.0 (keeps_on sc.names p.state q.state d.state third.0 fourth.0)) in
      let body_sound = is_sound sc true true d.tree in
      let update_fits = option_fits sc any_type q.id in
      let test_fits = option_fits sc is_scalar p.id in
      (keeps_scope sc.names st d.state keeps, both_hold (for_init_fits sc b.init) (test_fits && (update_fits && body_sound)) first.1 (both_hold test_fits (update_fits && body_sound) second.1 (both_hold update_fits body_sound third.1 fourth.1)))
  sound laws sc c st (s.give_back at a) returns r given none = given_back_sound laws sc st c.result at a returns r given none
  sound laws sc c st (s.stop_loop at) returns r given none = (keeps_nowhere sc.names st r.agrees, is_true (is_left c) (no_fault (not (is_left c)) OutOfProfile at none))
  sound laws sc c st (s.next_turn at) returns r given none = (keeps_nowhere sc.names st r.agrees, is_true c.in_loop (no_fault (not c.in_loop) OutOfProfile at none))
  sound laws sc c st (s.switch at a xs) returns r given none =
      let p = switched st a in
      let q = checked_sections (switching c) p.kind none_seen p.state xs in
      let first = switched_sound laws sc st a r.agrees r.stand.0 (both_hold_first (expr_sound a) (parts_sound xs) given) (append_nil_first p.faults q.faults none) in
      let after_test = ready_second sc st p.state q.state (p.tree ∷ []) q.trees (part_of role.Condition p.id ∷ []) (goes_one st _ _ _) first.keeps r in
      let second = parts_are_sound laws sc (switching c) p.kind none_seen p.state xs returns (or_with_true c.in_loop) first.compared after_test (both_hold_second (expr_sound a) (parts_sound xs) given) (append_nil_second p.faults q.faults none) in
      let labels = labels_of (section_trees q.sections) in
      let all = sections_sound sc c.in_loop (section_trees q.sections) in (
        keeps_on sc.names st p.state q.state first.keeps second.keeps,
        both_hold (expr_fits sc (promotes_to p.kind.ty) p.id) (labels_fit p.kind.ty labels && all) first.fits
            (both_hold (labels_fit p.kind.ty labels) all (both_hold (list_all (label_fits p.kind.ty) labels) (labels_distinct labels) second.fit second.distinct) second.sound),
      )

  otherwise_sound : (laws : Laws) (sc : Scope) (c : Context) (st : State) (x : s.ElseTree) → Returns sc c.result → Ready sc st (checked_else c st x).state (checked_else c st x).trees → IsTrue (other_sound x) → (checked_else c st x).faults ≡ [] → Keeps sc.names st (checked_else c st x).state × IsTrue (else_sound sc (is_left c) c.in_loop (checked_else c st x).tree)
  otherwise_sound laws sc c st s.no_else returns r given none = (keeps_nowhere sc.names st r.agrees, refl)
  otherwise_sound laws sc c st (s.otherwise x) returns r given none = sound laws sc c st x returns r given none

  pub statements_sound : (laws : Laws) (sc : Scope) (c : Context) (st : State) (xs : s.StmtTrees) → Returns sc c.result → Ready sc st (checked_all c st xs).state (checked_all c st xs).trees → IsTrue (stmts_sound xs) → (checked_all c st xs).faults ≡ [] → Keeps sc.names st (checked_all c st xs).state × IsTrue (all_sound sc (is_left c) c.in_loop (body_trees (checked_all c st xs).bodies))
  statements_sound laws sc c st s.no_stmts returns r given none = (keeps_nowhere sc.names st r.agrees, refl)
  statements_sound laws sc c st (s.stmt_and x xs) returns r given none =
      let one = checked c st x in
      let rest = checked_all c one.state xs in
      let ready_here = ready_first sc st one.state rest.state one.trees rest.trees (all_parts (body_trees rest.bodies)) (all_go c one.state xs) r in
      let first = sound laws sc c st x returns ready_here (both_hold_first (stmt_sound x) (stmts_sound xs) given) (append_nil_first one.faults rest.faults none) in
      let ready_rest = ready_second sc st one.state rest.state one.trees rest.trees (parts_of one.tree) (goes c st x) first.0 r in
      let second = statements_sound laws sc c one.state xs returns ready_rest (both_hold_second (stmt_sound x) (stmts_sound xs) given) (append_nil_second one.faults rest.faults none) in (
        keeps_on sc.names st one.state rest.state first.0 second.0,
        both_hold (is_sound sc (is_left c) c.in_loop one.tree) (all_sound sc (is_left c) c.in_loop (body_trees rest.bodies)) first.1 second.1,
      )

  parts_are_sound : (laws : Laws) (sc : Scope) (c : Context) (kind : Kind) (seen : Seen) (st : State) (xs : s.SectionTrees) → Returns sc c.result → is_left c ≡ true → IsTrue kind.compared → Ready sc st (checked_sections c kind seen st xs).state (checked_sections c kind seen st xs).trees → IsTrue (parts_sound xs) → (checked_sections c kind seen st xs).faults ≡ [] → SoundSections sc c.in_loop kind seen st (checked_sections c kind seen st xs)
  parts_are_sound laws sc c kind seen st s.no_sections returns out compared r given none = record { keeps = keeps_nowhere sc.names st r.agrees; sound = refl; fit = refl; distinct = refl; fresh = refl }
  parts_are_sound laws sc c kind seen st (s.section_and (s.section at label xs) rest) returns out compared r given none =
      let l = labelled st.env kind st.structs seen label in
      let before = with_structs st l.structs in
      let one = checked_all c before xs in
      let others = checked_sections c kind l.seen one.state rest in
      let none_here = append_nil_first (l.faults ++ one.faults) others.faults none in
      let given_here = both_hold_first (label_sound label && stmts_sound xs) (parts_sound rest) given in
      let named = labelled_sound st.env kind st.structs seen label compared (append_nil_first l.faults one.faults none_here) in
      let walk = goes_with st one.state l.structs one.trees (all_parts (body_trees one.bodies)) (all_go c before xs) in
      let ready_here = ready_first sc st one.state others.state one.trees others.trees (section_parts (section_trees others.sections)) (sections_go c kind l.seen one.state rest) r in
      let ready_body : Ready sc before one.state one.trees = record { agrees = subst (λ (y : Structs). Agrees st.env y sc.names) (sym named.structs_are) ready_here.agrees; variables = ready_here.variables; stand = ready_here.stand } in
      let k = statements_sound laws sc c before xs returns ready_body (both_hold_second (label_sound label) (stmts_sound xs) given_here) (append_nil_second l.faults one.faults none_here) in
      let first : Keeps sc.names st one.state = record { agrees = k.0.agrees; structs = k.0.structs ∙ named.structs_are; new = k.0.new; variables = k.0.variables; sized = k.0.sized } in
      let ready_rest = ready_second sc st one.state others.state one.trees others.trees (all_parts (body_trees one.bodies)) walk first r in
      let second = parts_are_sound laws sc c kind l.seen one.state rest returns out compared ready_rest (both_hold_second (label_sound label && stmts_sound xs) (parts_sound rest) given) (append_nil_second (l.faults ++ one.faults) others.faults none) in
      let labels = labels_of (section_trees others.sections) in
      let apart = fresh_labels l.seen seen l.label named.other named.before labels second.fresh in
      let body = subst (λ (b : Bool). IsTrue (all_sound sc b c.in_loop (body_trees one.bodies))) out k.1 in
      record {
        keeps = keeps_on sc.names st one.state others.state first second.keeps;
        sound = both_hold (all_sound sc true c.in_loop (body_trees one.bodies)) (sections_sound sc c.in_loop (section_trees others.sections)) body second.sound;
        fit = both_hold (label_fits kind.ty l.label) (list_all (label_fits kind.ty) labels) named.fits second.fit;
        distinct = both_hold (not (list_any (same_label l.label) labels)) (labels_distinct labels) apart.0 second.distinct;
        fresh = both_hold (is_fresh seen l.label) (list_all (is_fresh seen) labels) named.fresh apart.1;
      }
