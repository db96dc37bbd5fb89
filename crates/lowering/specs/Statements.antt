-- The lowering of statements: one equation for each form.
use Rattle.std.specs.Prelude.{ℕ, ◌+◌, pos, Bool, List, [], ◌∷◌, ◌++◌, Option, Some, None, if◌then◌else◌, get_or, unwrap_or}
use Rattle.pt_base.specs.declared.int_type.IntType.{IntType}
use Rattle.pt_base.specs.declared.int_type.IntType.TheVariants as i
use Rattle.pt_base.specs.declared.span.Span.{Span}
use Rattle.pt_int.specs.declared.operator.BinOp.TheVariants.{Le, Eq}
use Rattle.typed_tree.specs.declared.ids.ExprId.{ExprId}
use Rattle.typed_tree.specs.declared.types.VarTy.{VarTy}
use Rattle.typed_tree.specs.declared.types.VarTy.TheVariants.{Int}
use Rattle.typed_tree.specs.declared.statement.TypedLabel.{TypedLabel}
use Rattle.typed_tree.specs.declared.statement.TypedLabel.TheVariants.{Case, Default}
use Rattle.typed_tree.specs.declared.statement.TypedInit.{TypedInit}
use Rattle.typed_tree.specs.declared.statement.TypedInit.TheVariants as n
use Rattle.typed_tree.specs.declared.statement.TypedDeclarator.{TypedDeclarator}
use Rattle.typed_tree.specs.declared.statement.TypedForInit.{TypedForInit}
use Rattle.typed_tree.specs.declared.statement.TypedForInit.TheVariants as f
use Rattle.typed_tree.specs.ExpressionTree as t
use Rattle.typed_tree.specs.StatementTree as b
use Rattle.typed_tree.specs.StatementTree.{BodyTree, ElseTree, no_else, otherwise, BodyTrees, no_bodies, body_and, SectionTree, section, SectionTrees, no_sections, section_and}
use Rattle.pt_core.specs.CodeTree.{local, PlaceTree, place, ExprTree, constant, binary, StmtTree, clear, assign, copy, choose, repeat, break_out, continue_on, give_back, stmt_trees}
use Rattle.pt_core.specs.Types.{type_at}
use Rattle.source_meaning.specs.Expressions.{type_of}
use Rattle.source_meaning.specs.Statements.{no_expr, section_with, is_default, count_of}
use Rattle.lowering.specs.Lowered.{Temp, Effects, Lowered, LoweredPlace, nothing, past, temp, hold, counting, int, followed}
use Rattle.lowering.specs.Operators.{as_int}
use Rattle.lowering.specs.Expressions.{Scope, is_struct, value_in, effects_in, object_in, named_place, copied, given, place_effects}
use Rattle.lowering.specs.Leaves.{leaf_places}

-- What statements are lowered with: what their expressions name, and the outermost expressions of the
-- program.
pub record Code : Type 0 where
  pub scope : Scope
  pub exprs : List t.ExprTree

abbrev pub outermost : Code → ExprId → t.ExprTree
outermost c e = get_or c.exprs e.0 no_expr

-- what `continue` does: it stands in no loop; it goes on to the head; or in a switch it leaves that, with a
-- flag for what comes behind
pub data Onward : Type 0 where
  nowhere : Onward
  to_head : Onward
  past_flag : ℕ → Onward

abbrev pub number : ℕ → ExprTree
number k = constant i.Int (pos k)

abbrev pub onwards : Onward → List StmtTree
onwards nowhere = []
onwards to_head = continue_on ∷ []
onwards (past_flag k) = hold k (number 1) ∷ break_out ∷ []

-- in a switch that has this flag
abbrev pub inside : Onward → ℕ → Onward
inside nowhere k = nowhere
inside to_head k = past_flag k
inside (past_flag j) k = past_flag k

-- where the flag is set
abbrev pub behind_switch : Onward → ℕ → List StmtTree
behind_switch nowhere k = []
behind_switch to_head k = choose (temp k) (stmt_trees (onwards to_head)) (stmt_trees []) ∷ []
behind_switch (past_flag j) k = choose (temp k) (stmt_trees (onwards (past_flag j))) (stmt_trees []) ∷ []

abbrev pub stmts_of : List StmtTree → Effects
stmts_of stmts = record { stmts = stmts; temps = [] }

-- ---- declarations (C99 6.7)

abbrev pub variable : Code → ℕ → PlaceTree
variable c x = place (local x) []

abbrev pub variable_place : Code → ℕ → LoweredPlace
variable_place c x = named_place (t.local (record { 0 = x })) (type_at c.scope.variables x) (variable c x)

-- the items of a brace list, each evaluated and stored before the next
abbrev pub items_in : Code → List PlaceTree → List ExprId → ℕ → Effects
items_in c places [] n = nothing
items_in c [] (e ∷ es) n = nothing
items_in c (p ∷ places) (e ∷ es) n =
    let v = value_in c.scope (outermost c e) n in
    followed (record { stmts = v.stmts ++ assign p v.value ∷ []; temps = v.temps }) (items_in c places es (past n v.temps))

abbrev pub value_stored : Code → ℕ → t.ExprTree → ℕ → Effects
value_stored c x e n =
    if is_struct (Some (type_at c.scope.variables x)) then place_effects (copied (variable_place c x) (object_in c.scope e n))
    else place_effects (given (variable_place c x) (value_in c.scope e n))

abbrev pub initialised : Code → TypedInit → ℕ → ℕ → Effects
initialised c n.Nothing x k = nothing
initialised c (n.Value e) x k = value_stored c x (outermost c e) k
initialised c (n.Items s es) x k = items_in c (leaf_places c.scope.structs (type_at c.scope.variables x) s (variable c x)) es k

abbrev pub declared : Code → List TypedDeclarator → ℕ → Effects
declared c [] n = nothing
declared c (d ∷ ds) n =
    let init = initialised c d.init d.var.0 n in
    followed (record { stmts = clear d.var.0 ∷ init.stmts; temps = init.temps }) (declared c ds (past n init.temps))

-- ---- loops (C99 6.8.5)

-- where the condition fails the loop is left
abbrev pub tested_by : Lowered → Effects
tested_by v = record { stmts = v.stmts ++ choose v.value (stmt_trees []) (stmt_trees (break_out ∷ [])) ∷ []; temps = v.temps }

abbrev pub tested : Code → Option ExprId → ℕ → Effects
tested c None n = nothing
tested c (Some e) n = tested_by (value_in c.scope (outermost c e) n)

abbrev pub stepped : Code → Option ExprId → ℕ → Effects
stepped c None n = nothing
stepped c (Some e) n = effects_in c.scope (outermost c e) n

-- a loop of this body
abbrev pub looped : Span → Effects → Effects
looped s body = record { stmts = repeat (stmt_trees body.stmts) s ∷ []; temps = body.temps }

-- these statements on the way back to the head alone: temporary k tells the first turn
abbrev pub on_the_way_back : ℕ → Effects → Effects
on_the_way_back k back = record { stmts = choose (temp k) (stmt_trees (hold k (number 0) ∷ [])) (stmt_trees back.stmts) ∷ []; temps = back.temps }

-- a loop whose temporary k tells the first turn
abbrev pub first_told : ℕ → Effects → Effects
first_told k loop = record { stmts = hold k (number 1) ∷ loop.stmts; temps = counting int ∷ loop.temps }

-- ---- switches (C99 6.8.4.2)

-- a case: where the value in temporary k is equal, the section has this number
abbrev pub case_of : Span → IntType → ℕ → ℕ → TypedLabel → List StmtTree
case_of s ty k m (Case at v) = choose (binary Eq ty (temp k) (constant ty v) s) (stmt_trees (hold (k + 1) (number m) ∷ [])) (stmt_trees []) ∷ []
case_of s ty k m (Default at) = []

abbrev pub cases_from : Span → IntType → ℕ → ℕ → SectionTrees → List StmtTree
cases_from s ty k m no_sections = []
cases_from s ty k m (section_and (section at label stmts) rest) = case_of s ty k m label ++ cases_from s ty k (m + 1) rest

-- the section of `default`, else the number behind all
abbrev pub otherwise_of : SectionTrees → ℕ
otherwise_of sections = unwrap_or (section_with is_default sections) (count_of sections)

-- a section, which is run where the chosen one is it or one before it
abbrev pub section_by : Span → ℕ → ℕ → Effects → Effects
section_by s k m body = record { stmts = choose (binary Le i.Int (temp (k + 1)) (number m) s) (stmt_trees body.stmts) (stmt_trees []) ∷ []; temps = body.temps }

abbrev pub switch_temps : IntType → List Temp
switch_temps ty = counting (Int ty) ∷ counting int ∷ counting int ∷ []

-- the value, the chosen section and the flag are in the temporaries from k on
abbrev pub switched : Span → IntType → VarTy → ℕ → Onward → SectionTrees → Lowered → Effects → Effects
switched s ty from k mode sections v body = record {
  stmts = v.stmts
      ++ hold k (as_int from ty v.value) ∷ hold (k + 1) (number (otherwise_of sections)) ∷ cases_from s ty k 0 sections
      ++ hold (k + 2) (number 0) ∷ repeat (stmt_trees (body.stmts ++ break_out ∷ [])) s ∷ behind_switch mode (k + 2);
  temps = v.temps ++ switch_temps ty ++ body.temps;
}

-- ---- statements

abbrev pub chosen : Lowered → Effects → Effects → Effects
chosen v a b = record { stmts = v.stmts ++ choose v.value (stmt_trees a.stmts) (stmt_trees b.stmts) ∷ []; temps = v.temps ++ a.temps ++ b.temps }

abbrev pub returned : Lowered → Effects
returned v = record { stmts = v.stmts ++ give_back (Some v.value) ∷ []; temps = v.temps }

abbrev pub begun : Code → TypedForInit → ℕ → Effects
begun c f.Nothing n = nothing
begun c (f.Declare d) n = declared c d.declarators n
begun c (f.Evaluate e) n = effects_in c.scope (outermost c e) n

abbrev mutual
  pub statement_in : Code → BodyTree → Onward → ℕ → Effects
  statement_in c (b.block s statements) mode n = all_in c statements mode n
  statement_in c (b.nothing s) mode n = nothing
  statement_in c (b.evaluate s e) mode n = effects_in c.scope (outermost c e) n
  statement_in c (b.declare d) mode n = declared c d.declarators n
  statement_in c (b.choose s e x y) mode n =
      let v = value_in c.scope (outermost c e) n in
      let first = statement_in c x mode (past n v.temps) in
      chosen v first (otherwise_in c y mode (past (past n v.temps) first.temps))
  statement_in c (b.while_true s e x) mode n =
      let test = tested c (Some e) n in
      looped s (followed test (statement_in c x to_head (past n test.temps)))
  statement_in c (b.do_while s x e) mode n =
      let test = tested c (Some e) (n + 1) in
      first_told n (looped s (followed (on_the_way_back n test) (statement_in c x to_head (past (n + 1) test.temps))))
  statement_in c (b.for_each s begin test None x) mode n =
      let first = begun c begin n in
      let k = past n first.temps in
      let t = tested c test k in
      followed first (looped s (followed t (statement_in c x to_head (past k t.temps))))
  statement_in c (b.for_each s begin test (Some step) x) mode n =
      let first = begun c begin n in
      let k = past n first.temps in
      let back = stepped c (Some step) (k + 1) in
      let t = tested c test (past (k + 1) back.temps) in
      let body = statement_in c x to_head (past (past (k + 1) back.temps) t.temps) in
      followed first (first_told k (looped s (followed (on_the_way_back k back) (followed t body))))
  statement_in c (b.give_back s None) mode n = stmts_of (give_back None ∷ [])
  statement_in c (b.give_back s (Some e)) mode n = returned (value_in c.scope (outermost c e) n)
  statement_in c (b.stop_loop s) mode n = stmts_of (break_out ∷ [])
  statement_in c (b.next_turn s) mode n = stmts_of (onwards mode)
  statement_in c (b.switch s e ty sections) mode n =
      let v = value_in c.scope (outermost c e) n in
      let k = past n v.temps in
      switched s ty (type_of (outermost c e)) k mode sections v (sections_in c s sections (inside mode (k + 2)) k 0 (k + 3))

  pub otherwise_in : Code → ElseTree → Onward → ℕ → Effects
  otherwise_in c no_else mode n = nothing
  otherwise_in c (otherwise x) mode n = statement_in c x mode n

  pub all_in : Code → BodyTrees → Onward → ℕ → Effects
  all_in c no_bodies mode n = nothing
  all_in c (body_and x rest) mode n =
      let first = statement_in c x mode n in
      followed first (all_in c rest mode (past n first.temps))

  -- the sections of a switch from number m on, whose temporaries begin with k
  pub sections_in : Code → Span → SectionTrees → Onward → ℕ → ℕ → ℕ → Effects
  sections_in c s no_sections mode k m n = nothing
  sections_in c s (section_and (section at label statements) rest) mode k m n =
      let body = section_by s k m (all_in c statements mode n) in
      followed body (sections_in c s rest mode k (m + 1) (past n body.temps))
