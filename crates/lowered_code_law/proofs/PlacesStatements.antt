-- Statements, lowered, without their places are what is lowered without places: by induction on the tree.
use Rattle.std.proofs.Common.{◌≡◌, ◌∙◌, refl, ap, ℕ, zero, suc, ◌+◌, Bool, true, false, Option, Some, None, List, [], ◌∷◌, ◌++◌, map, option_map, if◌then◌else◌}
use Rattle.std.specs.Prelude.{get_or, unwrap_or}
use Rattle.pt_base.specs.declared.int_type.IntType.{IntType}
use Rattle.pt_base.specs.declared.int_type.IntType.TheVariants as int
use Rattle.pt_base.specs.declared.span.Span.{Span}
use Rattle.typed_tree.specs.declared.ids.ExprId.{ExprId}
use Rattle.typed_tree.specs.declared.types.VarTy.{VarTy}
use Rattle.typed_tree.specs.declared.statement.TypedLabel.{TypedLabel}
use Rattle.typed_tree.specs.declared.statement.TypedLabel.TheVariants.{Case, Default}
use Rattle.typed_tree.specs.declared.statement.TypedInit.{TypedInit}
use Rattle.typed_tree.specs.declared.statement.TypedInit.TheVariants as init
use Rattle.typed_tree.specs.declared.statement.TypedDeclarator.{TypedDeclarator}
use Rattle.typed_tree.specs.declared.statement.TypedForInit.{TypedForInit}
use Rattle.typed_tree.specs.declared.statement.TypedForInit.TheVariants as begin
use Rattle.typed_tree.specs.ExpressionTree as src
use Rattle.typed_tree.specs.StatementTree as b
use Rattle.typed_tree.specs.StatementTree.{BodyTree, ElseTree, no_else, otherwise, BodyTrees, no_bodies, body_and, section, SectionTrees, no_sections, section_and}
use Rattle.pt_int.specs.declared.operator.BinOp.TheVariants.{Le}
use Rattle.pt_core.specs.CodeTree.{PlaceTree, assign, binary, break_out, choose, clear, give_back, repeat, stmt_trees}
use Rattle.pt_core.specs.Types.{type_at}
use Rattle.source_meaning.specs.Expressions.{type_of}
use Rattle.source_meaning.specs.Statements.{count_of, is_default, no_expr, section_with}
use Rattle.lowering.specs.Lowered.{Effects, Lowered, followed, hold, past, temp}
use Rattle.lowering.specs.Operators.{as_int}
use Rattle.lowering.specs.Expressions.{copied, effects_in, given, is_struct, object_in, place_effects, value_in}
use Rattle.lowering.specs.Leaves.{Step, to_element, to_field, Ways, at_end_of, leaf_places, stepped_to, ways_of}
use Rattle.lowering.specs.Statements.{Code, Onward, nowhere as in_no_loop, to_head, past_flag, onwards, outermost, number, inside, behind_switch, variable, variable_place, items_in, value_stored, initialised, declared, tested_by, tested, looped, on_the_way_back, first_told, case_of, cases_from, otherwise_of, section_by, switch_temps, switched, chosen, returned, begun, statement_in, otherwise_in, all_in, sections_in}
use Rattle.lowered_code_law.specs.PlacesBareTrees.{bare, bare_bodies, bare_body, bare_declarator, bare_else, bare_for_init, bare_init, bare_label, bare_sections, nowhere}
use Rattle.lowered_code_law.specs.PlacesBareCode.{bare_stmt, bare_target, bare_value}
use Rattle.lowered_code_law.proofs.PlacesForms.{as_int_bare, bare_effects, bare_found, bare_lowered, bare_temp, copied_bare, given_bare, past_bare, stmts_bare, temps_bare, three_temps, trees_bare, type_bare, with_field_bare}
use Rattle.lowered_code_law.proofs.PlacesExpressions.{effects_bare, object_bare, value_bare}

-- the same scope, with expressions without places
abbrev pub bare_scope : Code → Code
bare_scope c = record { scope = c.scope; exprs = map bare c.exprs }

outermost_bare : (exprs : List src.ExprTree) (k : ℕ) → bare (get_or exprs k no_expr) ≡ get_or (map bare exprs) k no_expr
outermost_bare [] k = refl
outermost_bare (a ∷ rest) zero = refl
outermost_bare (a ∷ rest) (suc k) = outermost_bare rest k

found_value : (c : Code) (e : ExprId) (n : ℕ) → bare_lowered (value_in c.scope (outermost c e) n) ≡ value_in c.scope (outermost (bare_scope c) e) n
found_value c e n = value_bare (outermost c e) c.scope n ∙ ap (λ (a : src.ExprTree). value_in c.scope a n) (outermost_bare c.exprs e.0)

found_effects : (c : Code) (e : ExprId) (n : ℕ) → bare_effects (effects_in c.scope (outermost c e) n) ≡ effects_in c.scope (outermost (bare_scope c) e) n
found_effects c e n = effects_bare (outermost c e) c.scope n ∙ ap (λ (a : src.ExprTree). effects_in c.scope a n) (outermost_bare c.exprs e.0)

found_object : (c : Code) (e : ExprId) (n : ℕ) → bare_found (object_in c.scope (outermost c e) n) ≡ object_in c.scope (outermost (bare_scope c) e) n
found_object c e n = object_bare (outermost c e) c.scope n ∙ ap (λ (a : src.ExprTree). object_in c.scope a n) (outermost_bare c.exprs e.0)

found_type : (c : Code) (e : ExprId) → type_of (outermost c e) ≡ type_of (outermost (bare_scope c) e)
found_type c e = type_bare (outermost c e) ∙ ap type_of (outermost_bare c.exprs e.0)

-- the number behind temporaries, of which those without places are known
behind : (n : ℕ) (d x : Effects) → bare_effects d ≡ x → past n d.temps ≡ past n x.temps
behind n d x e = past_bare n d.temps ∙ ap (λ (y : Effects). past n y.temps) e

followed_bare : (a b : Effects) → bare_effects (followed a b) ≡ followed (bare_effects a) (bare_effects b)
followed_bare a b = λ i. record { stmts = stmts_bare a.stmts b.stmts i; temps = temps_bare a.temps b.temps i }

-- ---- declarations

way_bare : (s : Span) (way : List Step) (p : PlaceTree) → bare_target (at_end_of s way p) ≡ at_end_of nowhere way (bare_target p)
way_bare s [] p = refl
way_bare s (to_field k ∷ steps) p = way_bare s steps (stepped_to s p (to_field k)) ∙ ap (at_end_of nowhere steps) (with_field_bare p k)
way_bare s (to_element k ∷ steps) p = way_bare s steps (stepped_to s p (to_element k))

ways_bare : (s : Span) (ways : Ways) (p : PlaceTree) → map bare_target (map (λ way. at_end_of s way p) ways) ≡ map (λ way. at_end_of nowhere way (bare_target p)) ways
ways_bare s [] p = refl
ways_bare s (way ∷ ways) p = λ i. way_bare s way p i ∷ ways_bare s ways p i

item_bare : (p : PlaceTree) (v : Lowered) → bare_effects (record { stmts = v.stmts ++ assign p v.value ∷ []; temps = v.temps }) ≡ record { stmts = (bare_lowered v).stmts ++ assign (bare_target p) (bare_lowered v).value ∷ []; temps = (bare_lowered v).temps }
item_bare p v = λ i. record { stmts = stmts_bare v.stmts (assign p v.value ∷ []) i; temps = map bare_temp v.temps }

items_bare : (es : List ExprId) (c : Code) (ps : List PlaceTree) (n : ℕ) → bare_effects (items_in c ps es n) ≡ items_in (bare_scope c) (map bare_target ps) es n
items_bare [] c ps n = refl
items_bare (e ∷ es) c [] n = refl
items_bare (e ∷ es) c (p ∷ ps) n =
    let v = value_in c.scope (outermost c e) n in
    let value = found_value c e n in
    let rest = items_bare es c ps (past n v.temps) ∙ ap (λ (k : ℕ). items_in (bare_scope c) (map bare_target ps) es k) (past_bare n v.temps ∙ ap (λ (y : Lowered). past n y.temps) value) in
    let first = item_bare p v ∙ (λ i. record { stmts = (value i).stmts ++ assign (bare_target p) (value i).value ∷ []; temps = (value i).temps }) in
    followed_bare (record { stmts = v.stmts ++ assign p v.value ∷ []; temps = v.temps }) (items_in c ps es (past n v.temps)) ∙ (λ i. followed (first i) (rest i))

stored_bare : (c : Code) (x : ℕ) (e : ExprId) (n : ℕ) → bare_effects (value_stored c x (outermost c e) n) ≡ value_stored (bare_scope c) x (outermost (bare_scope c) e) n
stored_bare c x e n = go (is_struct (Some (type_at c.scope.variables x)))
  where
    go : (d : Bool) → bare_effects (if d then place_effects (copied (variable_place c x) (object_in c.scope (outermost c e) n)) else place_effects (given (variable_place c x) (value_in c.scope (outermost c e) n)))
        ≡ (if d then place_effects (copied (variable_place c x) (object_in c.scope (outermost (bare_scope c) e) n)) else place_effects (given (variable_place c x) (value_in c.scope (outermost (bare_scope c) e) n)))
    go true = ap place_effects (copied_bare (variable_place c x) (object_in c.scope (outermost c e) n) ∙ ap (copied (variable_place c x)) (found_object c e n))
    go false = ap place_effects (given_bare (variable_place c x) (value_in c.scope (outermost c e) n) ∙ ap (given (variable_place c x)) (found_value c e n))

initialised_bare : (d : TypedInit) (c : Code) (x n : ℕ) → bare_effects (initialised c d x n) ≡ initialised (bare_scope c) (bare_init d) x n
initialised_bare init.Nothing c x n = refl
initialised_bare (init.Value e) c x n = stored_bare c x e n
initialised_bare (init.Items s es) c x n =
    let ty = type_at c.scope.variables x in
    items_bare es c (leaf_places c.scope.structs ty s (variable c x)) n ∙ ap (λ (ps : List PlaceTree). items_in (bare_scope c) ps es n) (ways_bare s (ways_of c.scope.structs ty) (variable c x))

declared_bare : (ds : List TypedDeclarator) (c : Code) (n : ℕ) → bare_effects (declared c ds n) ≡ declared (bare_scope c) (map bare_declarator ds) n
declared_bare [] c n = refl
declared_bare (d ∷ ds) c n =
    let own = initialised c d.init d.var.0 n in
    let same = initialised_bare d.init c d.var.0 n in
    let rest = declared_bare ds c (past n own.temps) ∙ ap (declared (bare_scope c) (map bare_declarator ds)) (behind n own (initialised (bare_scope c) (bare_init d.init) d.var.0 n) same) in
    followed_bare (record { stmts = clear d.var.0 ∷ own.stmts; temps = own.temps }) (declared c ds (past n own.temps))
    ∙ (λ i. followed (record { stmts = clear d.var.0 ∷ (same i).stmts; temps = (same i).temps }) (rest i))

begun_bare : (d : TypedForInit) (c : Code) (n : ℕ) → bare_effects (begun c d n) ≡ begun (bare_scope c) (bare_for_init d) n
begun_bare begin.Nothing c n = refl
begun_bare (begin.Declare d) c n = declared_bare d.declarators c n
begun_bare (begin.Evaluate e) c n = found_effects c e n

-- ---- loops

tested_by_bare : (v : Lowered) → bare_effects (tested_by v) ≡ tested_by (bare_lowered v)
tested_by_bare v = λ i. record { stmts = stmts_bare v.stmts (choose v.value (stmt_trees []) (stmt_trees (break_out ∷ [])) ∷ []) i; temps = map bare_temp v.temps }

tested_bare : (o : Option ExprId) (c : Code) (n : ℕ) → bare_effects (tested c o n) ≡ tested (bare_scope c) o n
tested_bare None c n = refl
tested_bare (Some e) c n = tested_by_bare (value_in c.scope (outermost c e) n) ∙ ap tested_by (found_value c e n)

looped_bare : (s : Span) (body : Effects) → bare_effects (looped s body) ≡ looped nowhere (bare_effects body)
looped_bare s body = λ i. record { stmts = repeat (trees_bare body.stmts i) nowhere ∷ []; temps = map bare_temp body.temps }

way_back_bare : (k : ℕ) (back : Effects) → bare_effects (on_the_way_back k back) ≡ on_the_way_back k (bare_effects back)
way_back_bare k back = λ i. record { stmts = choose (temp k) (stmt_trees (hold k (number 0) ∷ [])) (trees_bare back.stmts i) ∷ []; temps = map bare_temp back.temps }

-- ---- switches

onwards_bare : (mode : Onward) → map bare_stmt (onwards mode) ≡ onwards mode
onwards_bare in_no_loop = refl
onwards_bare to_head = refl
onwards_bare (past_flag k) = refl

behind_switch_bare : (mode : Onward) (k : ℕ) → map bare_stmt (behind_switch mode k) ≡ behind_switch mode k
behind_switch_bare in_no_loop k = refl
behind_switch_bare to_head k = refl
behind_switch_bare (past_flag j) k = refl

case_bare : (label : TypedLabel) (s : Span) (ty : IntType) (k m : ℕ) → map bare_stmt (case_of s ty k m label) ≡ case_of nowhere ty k m (bare_label label)
case_bare (Case at v) s ty k m = refl
case_bare (Default at) s ty k m = refl

cases_bare : (ss : SectionTrees) (s : Span) (ty : IntType) (k m : ℕ) → map bare_stmt (cases_from s ty k m ss) ≡ cases_from nowhere ty k m (bare_sections ss)
cases_bare no_sections s ty k m = refl
cases_bare (section_and (section at label ys) rest) s ty k m = stmts_bare (case_of s ty k m label) (cases_from s ty k (m + 1) rest) ∙ (λ i. case_bare label s ty k m i ++ cases_bare rest s ty k (m + 1) i)

label_same : (label : TypedLabel) → is_default label ≡ is_default (bare_label label)
label_same (Case at v) = refl
label_same (Default at) = refl

default_same : (ss : SectionTrees) → section_with is_default ss ≡ section_with is_default (bare_sections ss)
default_same no_sections = refl
default_same (section_and (section at label ys) rest) = λ i. if label_same label i then Some 0 else option_map suc (default_same rest i)

count_same : (ss : SectionTrees) → count_of ss ≡ count_of (bare_sections ss)
count_same no_sections = refl
count_same (section_and (section at label ys) rest) = ap suc (count_same rest)

section_bare : (s : Span) (k m : ℕ) (body : Effects) → bare_effects (section_by s k m body) ≡ section_by nowhere k m (bare_effects body)
section_bare s k m body = λ i. record { stmts = choose (binary Le int.Int (temp (k + 1)) (number m) nowhere) (trees_bare body.stmts i) (stmt_trees []) ∷ []; temps = map bare_temp body.temps }

switched_bare : (s : Span) (ty : IntType) (from : VarTy) (k : ℕ) (mode : Onward) (ss : SectionTrees) (v : Lowered) (body : Effects) →
    bare_effects (switched s ty from k mode ss v body) ≡ switched nowhere ty from k mode (bare_sections ss) (bare_lowered v) (bare_effects body)
switched_bare s ty from k mode ss v body =
    let start = hold k (as_int from ty v.value) ∷ hold (k + 1) (number (otherwise_of ss)) ∷ cases_from s ty k 0 ss in
    let loop = hold (k + 2) (number 0) ∷ repeat (stmt_trees (body.stmts ++ break_out ∷ [])) s ∷ behind_switch mode (k + 2) in
    let inner = trees_bare (body.stmts ++ break_out ∷ []) ∙ ap stmt_trees (stmts_bare body.stmts (break_out ∷ [])) in
    let parts = stmts_bare (v.stmts ++ start) loop ∙ (λ i. stmts_bare v.stmts start i ++ map bare_stmt loop) in
    let stmts = parts ∙ (λ i. map bare_stmt v.stmts
    ++ hold k (as_int_bare from ty v.value i) ∷ hold (k + 1) (number (unwrap_or (default_same ss i) (count_same ss i))) ∷ cases_bare ss s ty k 0 i
    ++ hold (k + 2) (number 0) ∷ repeat (inner i) nowhere ∷ behind_switch_bare mode (k + 2) i) in
    λ i. record { stmts = stmts i; temps = three_temps v.temps (switch_temps ty) body.temps i }

-- ---- statements

chosen_bare : (v : Lowered) (a b : Effects) → bare_effects (chosen v a b) ≡ chosen (bare_lowered v) (bare_effects a) (bare_effects b)
chosen_bare v a b =
    let stmts = stmts_bare v.stmts (choose v.value (stmt_trees a.stmts) (stmt_trees b.stmts) ∷ []) ∙ (λ i. map bare_stmt v.stmts ++ choose (bare_value v.value) (trees_bare a.stmts i) (trees_bare b.stmts i) ∷ []) in
    λ i. record { stmts = stmts i; temps = three_temps v.temps a.temps b.temps i }

returned_bare : (v : Lowered) → bare_effects (returned v) ≡ returned (bare_lowered v)
returned_bare v = λ i. record { stmts = stmts_bare v.stmts (give_back (Some v.value) ∷ []) i; temps = map bare_temp v.temps }

-- a loop of a test and a body
turn_bare : (s : Span) (test body x y : Effects) → bare_effects test ≡ x → bare_effects body ≡ y → bare_effects (looped s (followed test body)) ≡ looped nowhere (followed x y)
turn_bare s test body x y e f = looped_bare s (followed test body) ∙ ap (looped nowhere) (followed_bare test body ∙ (λ i. followed (e i) (f i)))

mutual
  pub statement_bare : (x : BodyTree) (c : Code) (mode : Onward) (n : ℕ) → bare_effects (statement_in c x mode n) ≡ statement_in (bare_scope c) (bare_body x) mode n
  statement_bare (b.block s ys) c mode n = all_bare ys c mode n
  statement_bare (b.nothing s) c mode n = refl
  statement_bare (b.evaluate s e) c mode n = found_effects c e n
  statement_bare (b.declare d) c mode n = declared_bare d.declarators c n
  statement_bare (b.choose s e y o) c mode n =
      let v = value_in c.scope (outermost c e) n in
      let value = found_value c e n in
      let m = past n v.temps in
      let number = past_bare n v.temps ∙ ap (λ (z : Lowered). past n z.temps) value in
      let one = statement_in c y mode m in
      let first = statement_bare y c mode m ∙ ap (statement_in (bare_scope c) (bare_body y) mode) number in
      let next = past_bare m one.temps ∙ (λ i. past (number i) (first i).temps) in
      let second = else_bare o c mode (past m one.temps) ∙ ap (otherwise_in (bare_scope c) (bare_else o) mode) next in
      chosen_bare v one (otherwise_in c o mode (past m one.temps)) ∙ (λ i. chosen (value i) (first i) (second i))
  statement_bare (b.while_true s e y) c mode n =
      let test = tested c (Some e) n in
      let first = tested_bare (Some e) c n in
      let number = behind n test (tested (bare_scope c) (Some e) n) first in
      let body = statement_bare y c to_head (past n test.temps) ∙ ap (statement_in (bare_scope c) (bare_body y) to_head) number in
      turn_bare s test (statement_in c y to_head (past n test.temps)) (tested (bare_scope c) (Some e) n) (statement_in (bare_scope c) (bare_body y) to_head (past n (tested (bare_scope c) (Some e) n).temps)) first body
  statement_bare (b.do_while s y e) c mode n =
      let test = tested c (Some e) (n + 1) in
      let other = tested (bare_scope c) (Some e) (n + 1) in
      let first = tested_bare (Some e) c (n + 1) in
      let number = behind (n + 1) test other first in
      let body = statement_bare y c to_head (past (n + 1) test.temps) ∙ ap (statement_in (bare_scope c) (bare_body y) to_head) number in
      ap (first_told n)
      (turn_bare s (on_the_way_back n test) (statement_in c y to_head (past (n + 1) test.temps)) (on_the_way_back n other) (statement_in (bare_scope c) (bare_body y) to_head (past (n + 1) other.temps))
      (way_back_bare n test ∙ ap (on_the_way_back n) first) body)
  statement_bare (b.for_each s d o None y) c mode n =
      let one = begun c d n in
      let start = begun_bare d c n in
      let k = past n one.temps in
      let other = begun (bare_scope c) (bare_for_init d) n in
      let number = behind n one other start in
      let test = tested c o k in
      let first = tested_bare o c k ∙ ap (tested (bare_scope c) o) number in
      let next = past_bare k test.temps ∙ (λ i. past (number i) (first i).temps) in
      let body = statement_bare y c to_head (past k test.temps) ∙ ap (statement_in (bare_scope c) (bare_body y) to_head) next in
      let there = tested (bare_scope c) o (past n other.temps) in
      let loop = turn_bare s test (statement_in c y to_head (past k test.temps)) there (statement_in (bare_scope c) (bare_body y) to_head (past (past n other.temps) there.temps)) first body in
      followed_bare one (looped s (followed test (statement_in c y to_head (past k test.temps)))) ∙ (λ i. followed (start i) (loop i))
  statement_bare (b.for_each s d o (Some e) y) c mode n =
      let one = begun c d n in
      let start = begun_bare d c n in
      let k = past n one.temps in
      let number = behind n one (begun (bare_scope c) (bare_for_init d) n) start in
      let back = effects_in c.scope (outermost c e) (k + 1) in
      let step = found_effects c e (k + 1) ∙ (λ i. effects_in c.scope (outermost (bare_scope c) e) (number i + 1)) in
      let j = past (k + 1) back.temps in
      let next = past_bare (k + 1) back.temps ∙ (λ i. past (number i + 1) (step i).temps) in
      let test = tested c o j in
      let first = tested_bare o c j ∙ ap (tested (bare_scope c) o) next in
      let last = past_bare j test.temps ∙ (λ i. past (next i) (first i).temps) in
      let inner = statement_in c y to_head (past j test.temps) in
      let body = statement_bare y c to_head (past j test.temps) ∙ ap (statement_in (bare_scope c) (bare_body y) to_head) last in
      let loop = looped_bare s (followed (on_the_way_back k back) (followed test inner))
      ∙ ap (looped nowhere) (followed_bare (on_the_way_back k back) (followed test inner) ∙ (λ i. followed (way_back_bare k back i) (followed_bare test inner i))) in
      let whole = ap (first_told k) loop ∙ (λ i. first_told (number i) (looped nowhere (followed (on_the_way_back (number i) (step i)) (followed (first i) (body i))))) in
      followed_bare one (first_told k (looped s (followed (on_the_way_back k back) (followed test inner)))) ∙ (λ i. followed (start i) (whole i))
  statement_bare (b.give_back s None) c mode n = refl
  statement_bare (b.give_back s (Some e)) c mode n = returned_bare (value_in c.scope (outermost c e) n) ∙ ap returned (found_value c e n)
  statement_bare (b.stop_loop s) c mode n = refl
  statement_bare (b.next_turn s) c mode n = λ i. record { stmts = onwards_bare mode i; temps = [] }
  statement_bare (b.switch s e ty ss) c mode n =
      let v = value_in c.scope (outermost c e) n in
      let value = found_value c e n in
      let k = past n v.temps in
      let number = past_bare n v.temps ∙ ap (λ (z : Lowered). past n z.temps) value in
      let body = sections_bare ss c s (inside mode (k + 2)) k 0 (k + 3) ∙ (λ i. sections_in (bare_scope c) nowhere (bare_sections ss) (inside mode (number i + 2)) (number i) 0 (number i + 3)) in
      switched_bare s ty (type_of (outermost c e)) k mode ss v (sections_in c s ss (inside mode (k + 2)) k 0 (k + 3)) ∙ (λ i. switched nowhere ty (found_type c e i) (number i) mode (bare_sections ss) (value i) (body i))

  else_bare : (o : ElseTree) (c : Code) (mode : Onward) (n : ℕ) → bare_effects (otherwise_in c o mode n) ≡ otherwise_in (bare_scope c) (bare_else o) mode n
  else_bare no_else c mode n = refl
  else_bare (otherwise y) c mode n = statement_bare y c mode n

  all_bare : (ys : BodyTrees) (c : Code) (mode : Onward) (n : ℕ) → bare_effects (all_in c ys mode n) ≡ all_in (bare_scope c) (bare_bodies ys) mode n
  all_bare no_bodies c mode n = refl
  all_bare (body_and y rest) c mode n =
      let one = statement_in c y mode n in
      let first = statement_bare y c mode n in
      let number = behind n one (statement_in (bare_scope c) (bare_body y) mode n) first in
      let others = all_bare rest c mode (past n one.temps) ∙ ap (all_in (bare_scope c) (bare_bodies rest) mode) number in
      followed_bare one (all_in c rest mode (past n one.temps)) ∙ (λ i. followed (first i) (others i))

  sections_bare : (ss : SectionTrees) (c : Code) (s : Span) (mode : Onward) (k m n : ℕ) → bare_effects (sections_in c s ss mode k m n) ≡ sections_in (bare_scope c) nowhere (bare_sections ss) mode k m n
  sections_bare no_sections c s mode k m n = refl
  sections_bare (section_and (section at label ys) rest) c s mode k m n =
      let one = section_by s k m (all_in c ys mode n) in
      let first = section_bare s k m (all_in c ys mode n) ∙ ap (section_by nowhere k m) (all_bare ys c mode n) in
      let number = behind n one (section_by nowhere k m (all_in (bare_scope c) (bare_bodies ys) mode n)) first in
      let others = sections_bare rest c s mode k (m + 1) (past n one.temps) ∙ ap (sections_in (bare_scope c) nowhere (bare_sections rest) mode k (m + 1)) number in
      followed_bare one (sections_in c s rest mode k (m + 1) (past n one.temps)) ∙ (λ i. followed (first i) (others i))
