-- Whatever the faults, the declarators of statements name the variables that they add, in the order of
-- their numbers.
use Rattle.std.proofs.Common.{◌≡◌, ◌≤◌, ℕ, suc, ap, refl, List, [], ◌∷◌, ◌++◌, false, Option, Some, None, length, length-append, arith}
use Rattle.std.specs.Prelude.{IsTrue, nat_le}
use Rattle.std.proofs.lemmas.Bool.Decides.{nat_tests}
use Rattle.pt_tree.specs.ExpressionTree as e
use Rattle.pt_tree.specs.StatementTree as s
use Rattle.pt_tree.specs.StatementTree.{InitDeclaratorTree, DeclarationTree, ForInitTree}
use Rattle.type_rules.specs.declared.types.Type.{«Type»}
use Rattle.pt_base.specs.declared.span.Span.{Span}
use Rattle.pt_base.proofs.Booleans.{both_hold}
use Rattle.typed_tree.specs.Parts.{declarator_variables, for_init_variables, variables_of, else_variables, all_variables, section_variables}
use Rattle.typed_tree.specs.StatementTree.{body_trees, section_trees}
use Rattle.typed_tree.specs.WellFormed.{are_rising}
use Rattle.check_declarations.specs.declared.specifiers.Specified.{Specified}
use Rattle.check_declarations.specs.Specifiers.{specified}
use Rattle.check_expressions.specs.declared.meaning.Variable.{Variable}
use Rattle.check_statements.specs.declared.context.Context.{Context}
use Rattle.check_statements.specs.declared.switches.Kind.{Kind}
use Rattle.check_statements.specs.Labels.{Seen, none_seen, labelled}
use Rattle.check_statements.specs.Declarations.{variable_of, declared_one, declared_all, declared}
use Rattle.check_statements.specs.Outermost.{State, tested, maybe_evaluated, maybe_tested}
use Rattle.check_statements.specs.Statements.{checked, checked_else, checked_all, checked_sections, for_begun, given_back, switched, inside, looping, switching, with_structs}
use Rattle.type_law.proofs.StatementsWalks.{initialiser_goes}

-- ---- numbers

-- they rise strictly from the first on, all below the last
abbrev pub IsFrom : ℕ → List ℕ → ℕ → Type 0
IsFrom first [] last = first ≤ last
IsFrom first (n ∷ ns) last = (first ≤ n) × IsFrom (suc n) ns last

lower : (a b : ℕ) (ns : List ℕ) (last : ℕ) → a ≤ b → IsFrom b ns last → IsFrom a ns last
lower a b [] last h k = omega (arith, h, k)
lower a b (n ∷ ns) last h k = let here = k.0 in (omega (arith, h, here), k.1)

joined : (a b c : ℕ) (ns ms : List ℕ) → IsFrom a ns b → IsFrom b ms c → IsFrom a (ns ++ ms) c
joined a b c [] ms h k = lower a b ms c h k
joined a b c (n ∷ ns) ms h k = (h.0, joined (suc n) b c ns ms h.1 k)

pub rising : (first : ℕ) (ns : List ℕ) (last : ℕ) → IsFrom first ns last → IsTrue (are_rising first ns)
rising first [] last h = refl
rising first (n ∷ ns) last h =
    let here = h.0 in
    both_hold (nat_le first n) (are_rising (suc n) ns) (grind (arith, nat_tests, here)) (rising (suc n) ns last h.1)

-- from one state to another the variables with these numbers came, and maybe others
abbrev Rises : State → State → List ℕ → Type 0
Rises st st' ns = IsFrom (length st.env.variables) ns (length st'.env.variables)

rises_on : (st st1 st2 : State) (ns ms : List ℕ) → Rises st st1 ns → Rises st1 st2 ms → Rises st st2 (ns ++ ms)
rises_on st st1 st2 ns ms h k = joined (length st.env.variables) (length st1.env.variables) (length st2.env.variables) ns ms h k

stays : (st : State) → Rises st st []
stays st = omega arith

-- ---- declarations

declared_one_rises : (given : Specified) (st : State) (d : InitDeclaratorTree) → Rises st (declared_one given st d).state ((declared_one given st d).declarator.var.0 ∷ [])
declared_one_rises given st d =
    let g = initialiser_goes given st d in
    let x : Variable = variable_of given d.declarator in
    let grown : length (declared_one given st d).state.env.variables ≡ length ((st.env.variables ++ x ∷ []) ++ g.new) = ap length g.variables in
    let first = length-append (st.env.variables ++ x ∷ []) g.new in
    let second = length-append st.env.variables (x ∷ []) in
    (omega arith, omega (arith, grown, first, second))

declared_all_rise : (given : Specified) (st : State) (ds : List InitDeclaratorTree) → Rises st (declared_all given st ds).state (declarator_variables (declared_all given st ds).declarators)
declared_all_rise given st [] = stays st
declared_all_rise given st (d ∷ ds) =
    let one = declared_one given st d in
    let rest = declared_all given one.state ds in
    rises_on st one.state rest.state (one.declarator.var.0 ∷ []) (declarator_variables rest.declarators) (declared_one_rises given st d) (declared_all_rise given one.state ds)

declared_rises : (st : State) (d : DeclarationTree) → Rises st (declared st d).state (declarator_variables (declared st d).declaration.declarators)
declared_rises st d =
    let j = specified false st.structs d.specs in
    declared_all_rise j.given (with_structs st j.structs) d.declarators

begun_rises : (st : State) (i : ForInitTree) → Rises st (for_begun st i).state (for_init_variables (for_begun st i).init)
begun_rises st (s.for_declare d) = declared_rises st d
begun_rises st s.for_nothing = stays st
begun_rises st (s.for_expr a) = stays st

tested_stays : (st : State) (a : Option e.ExprTree) → Rises st (maybe_tested st a).state []
tested_stays st None = stays st
tested_stays st (Some a) = stays st

evaluated_stays : (st : State) (a : Option e.ExprTree) → Rises st (maybe_evaluated st a).state []
evaluated_stays st None = stays st
evaluated_stays st (Some a) = stays st

given_back_stays : (st : State) (ty : «Type») (at : Span) (a : Option e.ExprTree) → Rises st (given_back st ty at a).state []
given_back_stays st ty at None = stays st
given_back_stays st ty at (Some a) = stays st

-- ---- statements

mutual
  rises : (c : Context) (st : State) (x : s.StmtTree) → Rises st (checked c st x).state (variables_of (checked c st x).tree)
  rises c st (s.declare d) = declared_rises st d
  rises c st (s.block p xs) = all_rise c (inside st) xs
  rises c st (s.nothing p) = stays st
  rises c st (s.evaluate p a) = stays st
  rises c st (s.choose at a x o) =
      let p = tested st a in
      let q = checked c p.state x in
      let r = checked_else c q.state o in
      rises_on st q.state r.state (variables_of q.tree) (else_variables r.tree) (rises c p.state x) (else_rises c q.state o)
  rises c st (s.while_true at a x) = rises (looping c) (tested st a).state x
  rises c st (s.do_while at x a) = rises (looping c) st x
  rises c st (s.for_each at i a u x) =
      let b = for_begun (inside st) i in
      let p = maybe_tested b.state a in
      let q = maybe_evaluated p.state u in
      let r = checked (looping c) q.state x in
      rises_on (inside st) b.state r.state (for_init_variables b.init) (variables_of r.tree) (begun_rises (inside st) i)
      (rises_on b.state p.state r.state [] (variables_of r.tree) (tested_stays b.state a)
      (rises_on p.state q.state r.state [] (variables_of r.tree) (evaluated_stays p.state u) (rises (looping c) q.state x)))
  rises c st (s.give_back at a) = given_back_stays st c.result at a
  rises c st (s.stop_loop at) = stays st
  rises c st (s.next_turn at) = stays st
  rises c st (s.switch at a xs) = let p = switched st a in sections_rise (switching c) p.kind none_seen p.state xs

  else_rises : (c : Context) (st : State) (x : s.ElseTree) → Rises st (checked_else c st x).state (else_variables (checked_else c st x).tree)
  else_rises c st s.no_else = stays st
  else_rises c st (s.otherwise x) = rises c st x

  pub all_rise : (c : Context) (st : State) (xs : s.StmtTrees) → Rises st (checked_all c st xs).state (all_variables (body_trees (checked_all c st xs).bodies))
  all_rise c st s.no_stmts = stays st
  all_rise c st (s.stmt_and x xs) =
      let one = checked c st x in
      let rest = checked_all c one.state xs in
      rises_on st one.state rest.state (variables_of one.tree) (all_variables (body_trees rest.bodies)) (rises c st x) (all_rise c one.state xs)

  sections_rise : (c : Context) (kind : Kind) (seen : Seen) (st : State) (xs : s.SectionTrees) → Rises st (checked_sections c kind seen st xs).state (section_variables (section_trees (checked_sections c kind seen st xs).sections))
  sections_rise c kind seen st s.no_sections = stays st
  sections_rise c kind seen st (s.section_and (s.section at label xs) rest) =
      let l = labelled st.env kind st.structs seen label in
      let one = checked_all c (with_structs st l.structs) xs in
      let others = checked_sections c kind l.seen one.state rest in
      rises_on st one.state others.state (all_variables (body_trees one.bodies)) (section_variables (section_trees others.sections))
      (all_rise c (with_structs st l.structs) xs) (sections_rise c kind l.seen one.state rest)
