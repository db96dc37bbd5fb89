-- The judgments of statements (C99 6.8): the typed tree of each, its outermost expressions, and its faults.
use Rattle.std.specs.Prelude.{List, [], ◌∷◌, ◌++◌, Bool, true, false, not, ◌||◌, Option, Some, None}
use Rattle.pt_base.specs.declared.span.Span.{Span}
use Rattle.pt_tree.specs.ExpressionTree as e
use Rattle.pt_tree.specs.StatementTree as s
use Rattle.type_rules.specs.declared.types.Type.{«Type»}
use Rattle.type_rules.specs.declared.types.Type.TheVariants.{Bad, Void, Int, Struct, Array, Pointer}
use Rattle.typed_tree.specs.declared.ids.ExprId.{ExprId}
use Rattle.typed_tree.specs.declared.statement.TypedForInit.{TypedForInit}
use Rattle.typed_tree.specs.declared.statement.TypedForInit.TheVariants as f
use Rattle.typed_tree.specs.ExpressionTree.{ExprTree}
use Rattle.typed_tree.specs.StatementTree as t
use Rattle.check_declarations.specs.declared.fault.FaultKind.TheVariants.{WrongType, OutOfProfile}
use Rattle.check_declarations.specs.declared.fault.TypeFault.{TypeFault}
use Rattle.check_declarations.specs.Faults.{fault_if}
use Rattle.check_declarations.specs.Structs.{Structs}
use Rattle.check_expressions.specs.Environment.{opened, closed}
use Rattle.check_expressions.specs.Expressions.{judge}
use Rattle.check_expressions.specs.Operands.{value_of, span_of}
use Rattle.check_statements.specs.declared.context.Context.{Context}
use Rattle.check_statements.specs.declared.switches.Kind.{Kind}
use Rattle.check_statements.specs.Outermost.{State, Maybe, evaluated, tested, fitted, present, maybe_evaluated, maybe_tested, as_value}
use Rattle.check_statements.specs.Declarations.{declared}
use Rattle.check_statements.specs.Labels.{kind_of, is_no_integer, Seen, none_seen, labelled}

-- ---- where a statement stands

abbrev pub looping : Context → Context
looping c = record { result = c.result; in_loop = true; in_switch = c.in_switch }

abbrev pub switching : Context → Context
switching c = record { result = c.result; in_loop = c.in_loop; in_switch = true }

abbrev pub inside : State → State
inside st = record { env = opened st.env; structs = st.structs; next = st.next }

abbrev pub outside : State → State
outside st = record { env = closed st.env; structs = st.structs; next = st.next }

-- the labels of a switch change nothing but the structs
abbrev pub with_structs : State → Structs → State
with_structs st structs = record { env = st.env; structs = structs; next = st.next }

-- ---- what is known of statements

-- a statement: the state behind it, its typed tree, its outermost expressions in text order, and the faults
pub record Checked : Type 0 where
  pub state : State
  pub tree : t.BodyTree
  pub trees : List ExprTree
  pub faults : List TypeFault

pub record CheckedElse : Type 0 where
  pub state : State
  pub tree : t.ElseTree
  pub trees : List ExprTree
  pub faults : List TypeFault

-- the statements of a block
pub record CheckedAll : Type 0 where
  pub state : State
  pub bodies : List t.BodyTree
  pub trees : List ExprTree
  pub faults : List TypeFault

-- a section of a switch, with the labels behind its own
pub record CheckedSection : Type 0 where
  pub state : State
  pub seen : Seen
  pub section : t.SectionTree
  pub trees : List ExprTree
  pub faults : List TypeFault

-- the sections of a switch
pub record CheckedSections : Type 0 where
  pub state : State
  pub sections : List t.SectionTree
  pub trees : List ExprTree
  pub faults : List TypeFault

-- ---- the parts of statements

-- what stands first in the parentheses of a for
pub record Begun : Type 0 where
  pub state : State
  pub init : TypedForInit
  pub trees : List ExprTree
  pub faults : List TypeFault

abbrev pub for_begun : State → s.ForInitTree → Begun
for_begun st (s.for_declare d) = let x = declared st d in record { state = x.state; init = f.Declare x.declaration; trees = x.trees; faults = x.faults }
for_begun st s.for_nothing = record { state = st; init = f.Nothing; trees = []; faults = [] }
for_begun st (s.for_expr a) = let p = evaluated st a in record { state = p.state; init = f.Evaluate p.id; trees = p.tree ∷ []; faults = p.faults }

-- a function with a result gives one back; a result of type Bad asks for nothing (C99 6.8.6.4p1)
abbrev pub wants_value : «Type» → Bool
wants_value Bad = false
wants_value Void = false
wants_value (Int t) = true
wants_value (Struct n) = true
wants_value (Array e count) = true
wants_value (Pointer e fixed) = true

-- what a function of this result type gives back; a void one takes no value
abbrev pub given_back : State → «Type» → Span → Option e.ExprTree → Maybe
given_back st result s None = record { state = st; id = None; trees = []; faults = fault_if (wants_value result) WrongType s }
given_back st result s (Some a) = present (fitted st result a)

-- the controlling expression of a switch, and what its cases are compared as
pub record Chosen : Type 0 where
  pub state : State
  pub id : ExprId
  pub kind : Kind
  pub tree : ExprTree
  pub faults : List TypeFault

abbrev pub switched : State → e.ExprTree → Chosen
switched st a =
    let j = judge st.env st.structs a in
    let p = as_value st a j in
    record {
      state = p.state;
      id = p.id;
      kind = kind_of (value_of j.operand).ty;
      tree = p.tree;
      faults = p.faults ++ fault_if (is_no_integer (value_of j.operand).ty) WrongType (span_of a);
    }

-- ---- statements

-- the scope of a block ends with it
abbrev pub left : CheckedAll → CheckedAll
left all = record { state = outside all.state; bodies = all.bodies; trees = all.trees; faults = all.faults }

-- a statement that has no parts
abbrev pub simple : State → t.BodyTree → List TypeFault → Checked
simple st tree faults = record { state = st; tree = tree; trees = []; faults = faults }

abbrev mutual
  pub checked : Context → State → s.StmtTree → Checked
  checked c st (s.declare d) = let x = declared st d in record { state = x.state; tree = t.declare x.declaration; trees = x.trees; faults = x.faults }
  checked c st (s.block s ss) =
      let all = left (checked_all c (inside st) ss) in
      record { state = all.state; tree = t.block s (t.body_trees all.bodies); trees = all.trees; faults = all.faults }
  checked c st (s.nothing s) = simple st (t.nothing s) []
  checked c st (s.evaluate s a) =
      let p = evaluated st a in
      record { state = p.state; tree = t.evaluate s p.id; trees = p.tree ∷ []; faults = p.faults }
  checked c st (s.choose s a x o) =
      let p = tested st a in
      let q = checked c p.state x in
      let r = checked_else c q.state o in
      record { state = r.state; tree = t.choose s p.id q.tree r.tree; trees = p.tree ∷ (q.trees ++ r.trees); faults = p.faults ++ (q.faults ++ r.faults) }
  checked c st (s.while_true s a x) =
      let p = tested st a in
      let q = checked (looping c) p.state x in
      record { state = q.state; tree = t.while_true s p.id q.tree; trees = p.tree ∷ q.trees; faults = p.faults ++ q.faults }
  checked c st (s.do_while s x a) =
      let q = checked (looping c) st x in
      let p = tested q.state a in
      record { state = p.state; tree = t.do_while s q.tree p.id; trees = q.trees ++ p.tree ∷ []; faults = q.faults ++ p.faults }
  checked c st (s.for_each s i a u x) =
      let b = for_begun (inside st) i in
      let p = maybe_tested b.state a in
      let q = maybe_evaluated p.state u in
      let r = checked (looping c) q.state x in
      record { state = outside r.state; tree = t.for_each s b.init p.id q.id r.tree; trees = b.trees ++ (p.trees ++ (q.trees ++ r.trees)); faults = b.faults ++ (p.faults ++ (q.faults ++ r.faults)) }
  checked c st (s.give_back s a) =
      let p = given_back st c.result s a in
      record { state = p.state; tree = t.give_back s p.id; trees = p.trees; faults = p.faults }
  checked c st (s.stop_loop s) = simple st (t.stop_loop s) (fault_if (not (c.in_loop || c.in_switch)) OutOfProfile s)
  checked c st (s.next_turn s) = simple st (t.next_turn s) (fault_if (not c.in_loop) OutOfProfile s)
  checked c st (s.switch s a ss) =
      let p = switched st a in
      let q = checked_sections (switching c) p.kind none_seen p.state ss in
      record { state = q.state; tree = t.switch s p.id p.kind.ty (t.section_trees q.sections); trees = p.tree ∷ q.trees; faults = p.faults ++ q.faults }

  pub checked_else : Context → State → s.ElseTree → CheckedElse
  checked_else c st s.no_else = record { state = st; tree = t.no_else; trees = []; faults = [] }
  checked_else c st (s.otherwise x) = let q = checked c st x in record { state = q.state; tree = t.otherwise q.tree; trees = q.trees; faults = q.faults }

  pub checked_all : Context → State → s.StmtTrees → CheckedAll
  checked_all c st s.no_stmts = record { state = st; bodies = []; trees = []; faults = [] }
  checked_all c st (s.stmt_and x xs) =
      let one = checked c st x in
      let rest = checked_all c one.state xs in
      record { state = rest.state; bodies = one.tree ∷ rest.bodies; trees = one.trees ++ rest.trees; faults = one.faults ++ rest.faults }

  pub checked_sections : Context → Kind → Seen → State → s.SectionTrees → CheckedSections
  checked_sections c kind seen st s.no_sections = record { state = st; sections = []; trees = []; faults = [] }
  checked_sections c kind seen st (s.section_and x xs) =
      let one = checked_section c kind seen st x in
      let rest = checked_sections c kind one.seen one.state xs in
      record { state = rest.state; sections = one.section ∷ rest.sections; trees = one.trees ++ rest.trees; faults = one.faults ++ rest.faults }

  pub checked_section : Context → Kind → Seen → State → s.SectionTree → CheckedSection
  checked_section c kind seen st (s.section s label xs) =
      let l = labelled st.env kind st.structs seen label in
      let all = checked_all c (with_structs st l.structs) xs in
      record { state = all.state; seen = l.seen; section = t.section s l.label (t.body_trees all.bodies); trees = all.trees; faults = l.faults ++ all.faults }

-- a block's statements, in a scope of their own
abbrev pub checked_inner : Context → State → s.StmtTrees → CheckedAll
checked_inner c st xs = left (checked_all c (inside st) xs)

-- The outermost block of a function with this result type, whose parameters' scope is open: its items
-- share that scope.
abbrev pub checked_block : «Type» → State → List s.StmtTree → CheckedAll
checked_block result st items = checked_all (record { result = result; in_loop = false; in_switch = false }) st (s.stmt_trees items)
