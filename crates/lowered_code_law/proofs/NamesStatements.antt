-- Statements, lowered, name no more than their expressions do: by induction on the tree.
use Rattle.std.proofs.Common.{ℕ, ◌+◌, Bool, true, false, Option, Some, None, List, [], ◌∷◌, ◌++◌, map, if◌then◌else◌}
use Rattle.std.specs.Prelude.{slice_get}
use Rattle.pt_base.specs.declared.ids.VarId.{VarId}
use Rattle.pt_base.specs.declared.int_type.IntType.{IntType}
use Rattle.pt_base.specs.declared.span.Span.{Span}
use Rattle.typed_tree.specs.declared.ids.ExprId.{ExprId}
use Rattle.typed_tree.specs.declared.part.Part.{Part}
use Rattle.typed_tree.specs.declared.part.Role.TheVariants.{Value, Condition, Init}
use Rattle.typed_tree.specs.declared.types.VarTy.{VarTy}
use Rattle.typed_tree.specs.declared.statement.TypedLabel.{TypedLabel}
use Rattle.typed_tree.specs.declared.statement.TypedLabel.TheVariants.{Case, Default}
use Rattle.typed_tree.specs.declared.statement.TypedInit.{TypedInit}
use Rattle.typed_tree.specs.declared.statement.TypedInit.TheVariants as init
use Rattle.typed_tree.specs.declared.statement.TypedDeclarator.{TypedDeclarator}
use Rattle.typed_tree.specs.declared.statement.TypedForInit.{TypedForInit}
use Rattle.typed_tree.specs.declared.statement.TypedForInit.TheVariants as begin
use Rattle.typed_tree.specs.ExpressionTree as src
use Rattle.typed_tree.specs.StatementTree as b
use Rattle.typed_tree.specs.StatementTree.{BodyTree, ElseTree, no_else, otherwise, BodyTrees, no_bodies, body_and, section, SectionTrees, no_sections, section_and}
use Rattle.typed_tree.specs.Parts.{part_of, optional_part, init_parts, declarator_parts, declaration_parts, for_init_parts, parts_of, else_parts, all_parts, section_parts}
use Rattle.pt_core.specs.CodeTree.{PlaceTree, clear, assign, choose, repeat, break_out, give_back, stmt_trees}
use Rattle.pt_core.specs.Types.{type_at}
use Rattle.source_meaning.specs.Expressions.{type_of}
use Rattle.lowering.specs.Lowered.{Effects, Lowered, past, hold, followed}
use Rattle.lowering.specs.Operators.{as_int}
use Rattle.lowering.specs.Expressions.{is_struct, value_in, effects_in, object_in, copied, given, place_effects}
use Rattle.lowering.specs.Leaves.{Step, to_field, to_element, Ways, ways_of, stepped_to, at_end_of, leaf_places}
use Rattle.lowering.specs.Statements.{Code, outermost, Onward, nowhere, to_head, past_flag, number, onwards, inside, behind_switch, variable, variable_place, items_in, value_stored, initialised, declared, tested, stepped, looped, on_the_way_back, first_told, case_of, cases_from, otherwise_of, section_by, switched, begun, statement_in, otherwise_in, all_in, sections_in}
use Rattle.lowered_code_law.proofs.NamesNaming.{Allowed, ExprNames, FoundNames, PartsName, PlaceWithin, AreWithin, PlacesWithin, EffectsWithin, LoweredWithin}
use Rattle.lowered_code_law.proofs.NamesUsages.{outermost_names}
use Rattle.lowered_code_law.proofs.NamesForms.{as_int_within, both_within, copied_within, followed_within, given_within, one_more, trees_within, with_field_within}
use Rattle.lowered_code_law.proofs.NamesExpressions.{effects_within, object_within, value_within}

-- ---- parts

first_parts : (w : Allowed) (exprs : List src.ExprTree) (ps qs : List Part) → PartsName w exprs (ps ++ qs) → PartsName w exprs ps
first_parts w exprs [] qs h = tt
first_parts w exprs (p ∷ ps) qs h = (h.0, first_parts w exprs ps qs h.1)

rest_parts : (w : Allowed) (exprs : List src.ExprTree) (ps qs : List Part) → PartsName w exprs (ps ++ qs) → PartsName w exprs qs
rest_parts w exprs [] qs h = h
rest_parts w exprs (p ∷ ps) qs h = rest_parts w exprs ps qs h.1

-- the value of an outermost expression, and what it does
found_value : (w : Allowed) (c : Code) (e : ExprId) (n : ℕ) → FoundNames w (slice_get c.exprs e.0) → LoweredWithin w (value_in c.scope (outermost c e) n)
found_value w c e n h = value_within (outermost c e) w c.scope n (outermost_names c.exprs w e.0 h)

found_effects : (w : Allowed) (c : Code) (e : ExprId) (n : ℕ) → FoundNames w (slice_get c.exprs e.0) → EffectsWithin w (effects_in c.scope (outermost c e) n)
found_effects w c e n h = effects_within (outermost c e) w c.scope n (outermost_names c.exprs w e.0 h)

-- ---- declarations

step_within : (w : Allowed) (s : Span) (p : PlaceTree) (step : Step) → PlaceWithin w p → PlaceWithin w (stepped_to s p step)
step_within w s p (to_field k) h = with_field_within w p k h
step_within w s p (to_element k) h = (h, tt)

end_within : (w : Allowed) (s : Span) (way : List Step) (p : PlaceTree) → PlaceWithin w p → PlaceWithin w (at_end_of s way p)
end_within w s [] p h = h
end_within w s (step ∷ steps) p h = end_within w s steps (stepped_to s p step) (step_within w s p step h)

ends_within : (w : Allowed) (s : Span) (p : PlaceTree) (ways : Ways) → PlaceWithin w p → PlacesWithin w (map (λ way. at_end_of s way p) ways)
ends_within w s p [] h = tt
ends_within w s p (way ∷ ways) h = (end_within w s way p h, ends_within w s p ways h)

items_within : (es : List ExprId) (w : Allowed) (c : Code) (x : VarId) (ps : List PlaceTree) (n : ℕ) → PlacesWithin w ps → PartsName w c.exprs (map (part_of (Init x)) es) → EffectsWithin w (items_in c ps es n)
items_within [] w c x [] n h k = tt
items_within [] w c x (p ∷ ps) n h k = tt
items_within (e ∷ es) w c x [] n h k = tt
items_within (e ∷ es) w c x (p ∷ ps) n h k =
    let v = value_in c.scope (outermost c e) n in
    let value = found_value w c e n k.0 in
    followed_within w (record { stmts = v.stmts ++ assign p v.value ∷ []; temps = v.temps }) (items_in c ps es (past n v.temps))
    (one_more w v.stmts (assign p v.value) value.0 (h.0, value.1)) (items_within es w c x ps (past n v.temps) h.1 k.1)

value_stored_within : (w : Allowed) (c : Code) (x : ℕ) (a : src.ExprTree) (n : ℕ) → ExprNames w a → EffectsWithin w (value_stored c x a n)
value_stored_within w c x a n h = go (is_struct (Some (type_at c.scope.variables x)))
  where
    go : (d : Bool) → EffectsWithin w (if d then place_effects (copied (variable_place c x) (object_in c.scope a n)) else place_effects (given (variable_place c x) (value_in c.scope a n)))
    go true = (copied_within w (variable_place c x) (object_in c.scope a n) (tt, tt) (object_within a w c.scope n h)).0
    go false = (given_within w (variable_place c x) (value_in c.scope a n) (tt, tt) (value_within a w c.scope n h)).0

initialised_within : (d : TypedInit) (w : Allowed) (c : Code) (x : VarId) (n : ℕ) → PartsName w c.exprs (init_parts x d) → EffectsWithin w (initialised c d x.0 n)
initialised_within init.Nothing w c x n h = tt
initialised_within (init.Value e) w c x n h = value_stored_within w c x.0 (outermost c e) n (outermost_names c.exprs w e.0 h.0)
initialised_within (init.Items s es) w c x n h =
    let ty = type_at c.scope.variables x.0 in
    items_within es w c x (leaf_places c.scope.structs ty s (variable c x.0)) n (ends_within w s (variable c x.0) (ways_of c.scope.structs ty) tt) h

declared_within : (ds : List TypedDeclarator) (w : Allowed) (c : Code) (n : ℕ) → PartsName w c.exprs (declaration_parts ds) → EffectsWithin w (declared c ds n)
declared_within [] w c n h = tt
declared_within (d ∷ ds) w c n h =
    let own = initialised c d.init d.var.0 n in
    followed_within w (record { stmts = clear d.var.0 ∷ own.stmts; temps = own.temps }) (declared c ds (past n own.temps))
    (tt, initialised_within d.init w c d.var n (first_parts w c.exprs (declarator_parts d) (declaration_parts ds) h))
    (declared_within ds w c (past n own.temps) (rest_parts w c.exprs (declarator_parts d) (declaration_parts ds) h))

begun_within : (d : TypedForInit) (w : Allowed) (c : Code) (n : ℕ) → PartsName w c.exprs (for_init_parts d) → EffectsWithin w (begun c d n)
begun_within begin.Nothing w c n h = tt
begun_within (begin.Declare d) w c n h = declared_within d.declarators w c n h
begun_within (begin.Evaluate e) w c n h = found_effects w c e n h.0

-- ---- loops

tested_within : (o : Option ExprId) (w : Allowed) (c : Code) (n : ℕ) → PartsName w c.exprs (optional_part Condition o) → EffectsWithin w (tested c o n)
tested_within None w c n h = tt
tested_within (Some e) w c n h =
    let v = value_in c.scope (outermost c e) n in
    let value = found_value w c e n h.0 in
    one_more w v.stmts (choose v.value (stmt_trees []) (stmt_trees (break_out ∷ []))) value.0 (value.1, tt, (tt, tt))

looped_within : (w : Allowed) (s : Span) (body : Effects) → EffectsWithin w body → EffectsWithin w (looped s body)
looped_within w s body h = (trees_within w body.stmts h, tt)

way_back_within : (w : Allowed) (k : ℕ) (back : Effects) → EffectsWithin w back → EffectsWithin w (on_the_way_back k back)
way_back_within w k back h = ((tt, ((tt, tt), tt), trees_within w back.stmts h), tt)

first_told_within : (w : Allowed) (k : ℕ) (loop : Effects) → EffectsWithin w loop → EffectsWithin w (first_told k loop)
first_told_within w k loop h = ((tt, tt), h)

-- ---- switches

onwards_within : (mode : Onward) (w : Allowed) → AreWithin w (onwards mode)
onwards_within nowhere w = tt
onwards_within to_head w = (tt, tt)
onwards_within (past_flag k) w = ((tt, tt), (tt, tt))

behind_within : (mode : Onward) (w : Allowed) (k : ℕ) → AreWithin w (behind_switch mode k)
behind_within nowhere w k = tt
behind_within to_head w k = ((tt, trees_within w (onwards to_head) (onwards_within to_head w), tt), tt)
behind_within (past_flag j) w k = ((tt, trees_within w (onwards (past_flag j)) (onwards_within (past_flag j) w), tt), tt)

case_within : (label : TypedLabel) (w : Allowed) (s : Span) (ty : IntType) (k m : ℕ) → AreWithin w (case_of s ty k m label)
case_within (Case at v) w s ty k m = (((tt, tt), ((tt, tt), tt), tt), tt)
case_within (Default at) w s ty k m = tt

cases_within : (ss : SectionTrees) (w : Allowed) (s : Span) (ty : IntType) (k m : ℕ) → AreWithin w (cases_from s ty k m ss)
cases_within no_sections w s ty k m = tt
cases_within (section_and (section at label ys) rest) w s ty k m = both_within w (case_of s ty k m label) (cases_from s ty k (m + 1) rest) (case_within label w s ty k m) (cases_within rest w s ty k (m + 1))

section_within : (w : Allowed) (s : Span) (k m : ℕ) (body : Effects) → EffectsWithin w body → EffectsWithin w (section_by s k m body)
section_within w s k m body h = (((tt, tt), trees_within w body.stmts h, tt), tt)

switched_within : (w : Allowed) (s : Span) (ty : IntType) (from : VarTy) (k : ℕ) (mode : Onward) (ss : SectionTrees) (v : Lowered) (body : Effects) → LoweredWithin w v → EffectsWithin w body → EffectsWithin w (switched s ty from k mode ss v body)
switched_within w s ty from k mode ss v body h j =
    let start = hold k (as_int from ty v.value) ∷ hold (k + 1) (number (otherwise_of ss)) ∷ cases_from s ty k 0 ss in
    let loop = repeat (stmt_trees (body.stmts ++ break_out ∷ [])) s in
    both_within w (v.stmts ++ start) (hold (k + 2) (number 0) ∷ loop ∷ behind_switch mode (k + 2))
    (both_within w v.stmts start h.0 ((tt, as_int_within w from ty v.value h.1), ((tt, tt), cases_within ss w s ty k 0)))
    ((tt, tt), (trees_within w (body.stmts ++ break_out ∷ []) (one_more w body.stmts break_out j tt), behind_within mode w (k + 2)))

-- ---- by induction

mutual
  pub statement_within : (y : BodyTree) (w : Allowed) (c : Code) (mode : Onward) (n : ℕ) → PartsName w c.exprs (parts_of y) → EffectsWithin w (statement_in c y mode n)
  statement_within (b.block s ys) w c mode n h = all_within ys w c mode n h
  statement_within (b.nothing s) w c mode n h = tt
  statement_within (b.evaluate s e) w c mode n h = found_effects w c e n h.0
  statement_within (b.declare d) w c mode n h = declared_within d.declarators w c n h
  statement_within (b.choose s e y o) w c mode n h =
      let v = value_in c.scope (outermost c e) n in
      let k = past n v.temps in
      let first = statement_in c y mode k in
      let second = otherwise_in c o mode (past k first.temps) in
      let value = found_value w c e n h.0 in
      let yes = statement_within y w c mode k (first_parts w c.exprs (parts_of y) (else_parts o) h.1) in
      let no = else_within o w c mode (past k first.temps) (rest_parts w c.exprs (parts_of y) (else_parts o) h.1) in
      one_more w v.stmts (choose v.value (stmt_trees first.stmts) (stmt_trees second.stmts)) value.0 (value.1, trees_within w first.stmts yes, trees_within w second.stmts no)
  statement_within (b.while_true s e y) w c mode n h =
      let test = tested c (Some e) n in
      let body = statement_in c y to_head (past n test.temps) in
      looped_within w s (followed test body) (followed_within w test body (tested_within (Some e) w c n (h.0, tt)) (statement_within y w c to_head (past n test.temps) h.1))
  statement_within (b.do_while s y e) w c mode n h =
      let test = tested c (Some e) (n + 1) in
      let body = statement_in c y to_head (past (n + 1) test.temps) in
      let turn = followed (on_the_way_back n test) body in
      first_told_within w n (looped s turn) (looped_within w s turn (followed_within w (on_the_way_back n test) body
      (way_back_within w n test (tested_within (Some e) w c (n + 1) (rest_parts w c.exprs (parts_of y) (part_of Condition e ∷ []) h)))
      (statement_within y w c to_head (past (n + 1) test.temps) (first_parts w c.exprs (parts_of y) (part_of Condition e ∷ []) h))))
  statement_within (b.for_each s d o None y) w c mode n h =
      let first = begun c d n in
      let k = past n first.temps in
      let test = tested c o k in
      let body = statement_in c y to_head (past k test.temps) in
      let rest = rest_parts w c.exprs (for_init_parts d) (optional_part Condition o ++ parts_of y) h in
      followed_within w first (looped s (followed test body)) (begun_within d w c n (first_parts w c.exprs (for_init_parts d) (optional_part Condition o ++ parts_of y) h))
      (looped_within w s (followed test body) (followed_within w test body (tested_within o w c k (first_parts w c.exprs (optional_part Condition o) (parts_of y) rest))
      (statement_within y w c to_head (past k test.temps) (rest_parts w c.exprs (optional_part Condition o) (parts_of y) rest))))
  statement_within (b.for_each s d o (Some e) y) w c mode n h =
      let first = begun c d n in
      let k = past n first.temps in
      let back = stepped c (Some e) (k + 1) in
      let j = past (k + 1) back.temps in
      let test = tested c o j in
      let body = statement_in c y to_head (past j test.temps) in
      let turn = followed (on_the_way_back k back) (followed test body) in
      let last = part_of Value e ∷ parts_of y in
      let rest = rest_parts w c.exprs (for_init_parts d) (optional_part Condition o ++ last) h in
      let behind = rest_parts w c.exprs (optional_part Condition o) last rest in
      followed_within w first (first_told k (looped s turn)) (begun_within d w c n (first_parts w c.exprs (for_init_parts d) (optional_part Condition o ++ last) h))
      (first_told_within w k (looped s turn) (looped_within w s turn (followed_within w (on_the_way_back k back) (followed test body) (way_back_within w k back (found_effects w c e (k + 1) behind.0))
      (followed_within w test body (tested_within o w c j (first_parts w c.exprs (optional_part Condition o) last rest)) (statement_within y w c to_head (past j test.temps) behind.1)))))
  statement_within (b.give_back s None) w c mode n h = (tt, tt)
  statement_within (b.give_back s (Some e)) w c mode n h =
      let v = value_in c.scope (outermost c e) n in
      let value = found_value w c e n h.0 in
      one_more w v.stmts (give_back (Some v.value)) value.0 value.1
  statement_within (b.stop_loop s) w c mode n h = (tt, tt)
  statement_within (b.next_turn s) w c mode n h = onwards_within mode w
  statement_within (b.switch s e ty ss) w c mode n h =
      let v = value_in c.scope (outermost c e) n in
      let k = past n v.temps in
      switched_within w s ty (type_of (outermost c e)) k mode ss v (sections_in c s ss (inside mode (k + 2)) k 0 (k + 3)) (found_value w c e n h.0) (sections_within ss w c s (inside mode (k + 2)) k 0 (k + 3) h.1)

  else_within : (o : ElseTree) (w : Allowed) (c : Code) (mode : Onward) (n : ℕ) → PartsName w c.exprs (else_parts o) → EffectsWithin w (otherwise_in c o mode n)
  else_within no_else w c mode n h = tt
  else_within (otherwise y) w c mode n h = statement_within y w c mode n h

  all_within : (ys : BodyTrees) (w : Allowed) (c : Code) (mode : Onward) (n : ℕ) → PartsName w c.exprs (all_parts ys) → EffectsWithin w (all_in c ys mode n)
  all_within no_bodies w c mode n h = tt
  all_within (body_and y rest) w c mode n h =
      let first = statement_in c y mode n in
      followed_within w first (all_in c rest mode (past n first.temps)) (statement_within y w c mode n (first_parts w c.exprs (parts_of y) (all_parts rest) h)) (all_within rest w c mode (past n first.temps) (rest_parts w c.exprs (parts_of y) (all_parts rest) h))

  sections_within : (ss : SectionTrees) (w : Allowed) (c : Code) (s : Span) (mode : Onward) (k m n : ℕ) → PartsName w c.exprs (section_parts ss) → EffectsWithin w (sections_in c s ss mode k m n)
  sections_within no_sections w c s mode k m n h = tt
  sections_within (section_and (section at label ys) rest) w c s mode k m n h =
      let inner = all_in c ys mode n in
      followed_within w (section_by s k m inner) (sections_in c s rest mode k (m + 1) (past n inner.temps))
      (section_within w s k m inner (all_within ys w c mode n (first_parts w c.exprs (all_parts ys) (section_parts rest) h)))
      (sections_within rest w c s mode k (m + 1) (past n inner.temps) (rest_parts w c.exprs (all_parts ys) (section_parts rest) h))
