-- Statements, lowered, are fine in the classes that marks give: by induction on the tree.
use Rattle.std.proofs.Common.{◌≡◌, ◌∙◌, ◌<◌, ℕ, ◌+◌, refl, sym, subst, arith, Bool, true, false, Option, None, Some, List, [], ◌∷◌, ◌++◌, if◌then◌else◌}
use Rattle.std.specs.Prelude.{◌&&◌}
use Rattle.handle_classes.specs.Classes.{Class, class_of, integer_class}
use Rattle.handle_classes.specs.Judgment.{Flows, IsFineStatement}
use Rattle.lowered_code_law.proofs.FormsRules.{no_struct, type_is}
use Rattle.lowered_code_law.proofs.FormsSettings.{source}
use Rattle.lowered_code_law.proofs.FormsStatements.{code, found, tests, integer_result}
use Rattle.lowering.specs.Expressions.{value_in}
use Rattle.lowering.specs.Lowered.{Effects, Lowered, followed, hold, int, past, temp}
use Rattle.lowering.specs.Operators.{as_int}
use Rattle.lowering.specs.Statements.{Onward, all_in, begun, inside, behind_switch, case_of, cases_from, chosen, first_told, looped, nowhere, number, on_the_way_back, onwards, otherwise_in, otherwise_of, outermost, past_flag, returned, section_by, sections_in, statement_in, stepped, switch_temps, switched, tested, to_head}
use Rattle.pt_base.specs.declared.int_type.IntType.{IntType}
use Rattle.pt_base.specs.declared.span.Span.{Span}
use Rattle.pt_base.proofs.Booleans.{both_hold_first, both_hold_second, false_not_true}
use Rattle.pt_core.specs.CodeTree.{ExprTree, StmtTree, break_out, choose, convert, give_back, repeat, stmt_trees}
use Rattle.sides.specs.Carried.{carried}
use Rattle.usages.specs.Usages.{UsageTree, evaluated}
use Rattle.usages.specs.declared.usage.How.TheVariants.{Operated, Returned}
use Rattle.source_meaning.specs.Expressions.{type_of}
use Rattle.typed_tree.specs.ExpressionTree.{typed}
use Rattle.typed_tree.specs.ExpressionTree as src
use Rattle.typed_tree.specs.StatementTree.{BodyTree, BodyTrees, ElseTree, SectionTrees, body_and, no_bodies, no_else, no_sections, otherwise, section, section_and}
use Rattle.typed_tree.specs.StatementTree as b
use Rattle.typed_tree.specs.TypeTests.{both_int, integer_of, is_scalar, same_int}
use Rattle.typed_tree.specs.WellFormedExpression.{ty_of}
use Rattle.typed_tree.specs.WellFormedStatement.{all_sound, any_type, else_sound, for_init_fits, is_sound, labels_fit, labels_of, option_fits, promotes_to, sections_sound}
use Rattle.typed_tree.specs.WellFormedStatement as s
use Rattle.typed_tree.specs.declared.ids.ExprId.{ExprId}
use Rattle.typed_tree.specs.declared.statement.TypedLabel.{TypedLabel}
use Rattle.typed_tree.specs.declared.statement.TypedLabel.TheVariants.{Case, Default}
use Rattle.typed_tree.specs.declared.types.VarTy.{VarTy}
use Rattle.typed_tree.specs.declared.types.VarTy.TheVariants.{Array, Int, Pointer, Struct}
use Rattle.handle_classes_law.proofs.SlavesBench.{AreFine, Bench, LoweredIs, PlainIf, ValueIs, as_int_fine, at_slots, fine_both, fine_trees, hold_is, judged, no_pointer, number_by, plain_value, seen, temp_is}
use Rattle.handle_classes_law.proofs.SlavesClasses.{IsBy}
use Rattle.handle_classes_law.proofs.SlavesExpressions.{value_is}
use Rattle.handle_classes_law.proofs.SlavesGround.{Counts, Ground, Has, all_at, choose_fine, condition_fine, condition_plain, condition_quiet, dropped_fine, followed_fine, has_first, has_rest, has_three, number_held, one_more, plain_test}
use Rattle.handle_classes_law.proofs.SlavesInitialisers.{begun_fine, declared_fine, returned_free}
use Rattle.handle_classes_law.proofs.SlavesOutermost.{AllUsed, BodyUsed, ElseUsed, OptionUsed, SectionsUsed}
use Rattle.handle_classes_law.proofs.SlavesQuiet.{Quiet, plain_here, quiet_here}
use Rattle.handle_classes_law.proofs.SlavesWithin.{AllRoom, count, int_leaf}

-- ---- loops

tested_fine : (b : Bench) (Q : UsageTree → Type 0) (exprs : List src.ExprTree) (o : Option ExprId) (n : ℕ) → Ground b Q → option_fits (tests b.w exprs) is_scalar o ≡ true → OptionUsed Q exprs Operated o → Has b n (tested (code b.w exprs) o n).temps → AreFine b (tested (code b.w exprs) o n).stmts
tested_fine b Q exprs None n c h u has = tt
tested_fine b Q exprs (Some e) n c h u has =
    let a = outermost (code b.w exprs) e in
    let v = value_in (source b.w.names) a n in
    let y = condition_fine b Q exprs e n c h u has in
    one_more b v.stmts (choose v.value (stmt_trees []) (stmt_trees (break_out ∷ []))) y.stmts (choose_fine b (type_of a) (carried (seen b) a) v.value [] (break_out ∷ []) (condition_plain b Q exprs e c h u) y.value tt (tt, tt))

looped_fine : (b : Bench) (at : Span) (body : Effects) → AreFine b body.stmts → AreFine b (looped at body).stmts
looped_fine b at body h = (fine_trees b body.stmts h, tt)

-- one way or the other, by a number that counts
flag_chooses : (b : Bench) (k : ℕ) (xs ys : List StmtTree) → Counts b int k → AreFine b xs → AreFine b ys → IsFineStatement b.world (judged b) b.function (choose (temp k) (stmt_trees xs) (stmt_trees ys))
flag_chooses b k xs ys here h l = choose_fine b int [] (temp k) xs ys (λ p. refl) (temp_is b int [] k refl here) h l

way_back_fine : (b : Bench) (k : ℕ) (back : Effects) → Counts b int k → AreFine b back.stmts → AreFine b (on_the_way_back k back).stmts
way_back_fine b k back here h = (flag_chooses b k (hold k (number 0) ∷ []) back.stmts here (number_held b k 0 here, tt) h, tt)

first_told_fine : (b : Bench) (k : ℕ) (loop : Effects) → Counts b int k → AreFine b loop.stmts → AreFine b (first_told k loop).stmts
first_told_fine b k loop here h = (number_held b k 1 here, h)

-- ---- switches

case_fine : (b : Bench) (at : Span) (ty : IntType) (k m : ℕ) (label : TypedLabel) → Counts b (Int ty) k → Counts b int (k + 1) → AreFine b (case_of at ty k m label)
case_fine b at ty k m (Default p) value here = tt
case_fine b at ty k m (Case p v) value here =
    let one = plain_test b (Int ty) k refl refl value in
    (((one.0, tt, one.1, record { integer = refl; number = refl }), (λ p. refl), fine_trees b (hold (k + 1) (number m) ∷ []) (number_held b (k + 1) m here, tt), tt), tt)

cases_fine : (b : Bench) (at : Span) (ty : IntType) (k m : ℕ) (ss : SectionTrees) → Counts b (Int ty) k → Counts b int (k + 1) → AreFine b (cases_from at ty k m ss)
cases_fine b at ty k m no_sections value here = tt
cases_fine b at ty k m (section_and (section p label ys) rest) value here = fine_both b (case_of at ty k m label) (cases_from at ty k (m + 1) rest) (case_fine b at ty k m label value here) (cases_fine b at ty k (m + 1) rest value here)

section_fine : (b : Bench) (at : Span) (k m : ℕ) (body : Effects) → Counts b int (k + 1) → AreFine b body.stmts → AreFine b (section_by at k m body).stmts
section_fine b at k m body here h =
    let one = plain_test b int (k + 1) refl refl here in
    (((one.0, tt, one.1, record { integer = refl; number = refl }), (λ p. refl), fine_trees b body.stmts h, tt), tt)

inside_fine : (b : Bench) (mode : Onward) (k : ℕ) → Counts b int k → AreFine b (onwards (inside mode k))
inside_fine b nowhere k here = tt
inside_fine b to_head k here = (number_held b k 1 here, (tt, tt))
inside_fine b (past_flag j) k here = (number_held b k 1 here, (tt, tt))

flag_fine : (b : Bench) (mode : Onward) (k : ℕ) → Counts b int k → AreFine b (onwards mode) → AreFine b (behind_switch mode k)
flag_fine b nowhere k here h = tt
flag_fine b to_head k here h = (flag_chooses b k (onwards to_head) [] here h tt, tt)
flag_fine b (past_flag j) k here h = (flag_chooses b k (onwards (past_flag j)) [] here h tt, tt)

-- a number, converted
number_as : (b : Bench) (from to : IntType) (slots : List ℕ) (a : ExprTree) → PlainIf b (Int from) slots → ValueIs b (Int from) slots a → ValueIs b (Int to) [] (as_int (Int from) to a)
number_as b from to slots a plain h =
    let one = as_int_fine b (Int from) to a refl h.fine (plain_value b (Int from) slots a refl plain h) in
    record { fine = one.0; is = number_by b (Int to) [] (class_of (judged b) (as_int (Int from) to a)) refl one.1.integer (size (same_int from to)) one.1.number }
  where
    size : (x : Bool) → (class_of (judged b) (if x then a else convert to a)).size ≡ 1
    size true = h.is.size
    size false = refl

-- the value of a switch is an integer
promoted_from : (o : Option VarTy) (ty : IntType) → promotes_to ty o ≡ true → (z : IntType) × (o ≡ Some (Int z))
promoted_from (Some (Int a)) ty h = (a, refl)
promoted_from None ty h = false_not_true h
promoted_from (Some (Struct n)) ty h = false_not_true h
promoted_from (Some (Array e n)) ty h = false_not_true h
promoted_from (Some (Pointer e f)) ty h = false_not_true h

-- the value, the chosen section and the flag, and the sections behind them
switched_fine : (b : Bench) (at : Span) (ty from : IntType) (slots : List ℕ) (n : ℕ) (mode : Onward) (ss : SectionTrees) (v : Lowered) (body : Effects) → PlainIf b (Int from) slots → AreFine b (onwards mode) → (Has b n v.temps → LoweredIs b (Int from) slots v) →
    (Counts b int (past n v.temps + 1) → Counts b int (past n v.temps + 2) → Has b (past n v.temps + 3) body.temps → AreFine b body.stmts) →
    Has b n (switched at ty (Int from) (past n v.temps) mode ss v body).temps → AreFine b (switched at ty (Int from) (past n v.temps) mode ss v body).stmts
switched_fine b at ty from slots n mode ss v body plain on h k has =
    let all = has_three b n v.temps (switch_temps ty) body.temps has in
    let first = h (has_first b n v.temps (switch_temps ty ++ body.temps) all) in
    let rest = has_rest b n v.temps (switch_temps ty ++ body.temps) all in
    let j = past n v.temps in
    let value : Counts b (Int ty) j = rest.1.0 in
    let chosen : Counts b int (j + 1) = rest.1.1.0 in
    let flag : Counts b int (j + 2) = subst (λ z. Counts b int z) (two j) rest.1.1.1.0 in
    let inner = k chosen flag (subst (λ z. Has b z body.temps) (three j) (rest.0.1.1.1, rest.1.1.1.1)) in
    let number_of = as_int (Int from) ty v.value in
    let held_value = hold_is b (Int ty) [] j number_of refl value (number_as b from ty slots v.value plain first.value) in
    let loop = repeat (stmt_trees (body.stmts ++ break_out ∷ [])) at in
    fine_both b (v.stmts ++ hold j number_of ∷ hold (j + 1) (number (otherwise_of ss)) ∷ cases_from at ty j 0 ss) (hold (j + 2) (number 0) ∷ loop ∷ behind_switch mode (j + 2))
    (fine_both b v.stmts (hold j number_of ∷ hold (j + 1) (number (otherwise_of ss)) ∷ cases_from at ty j 0 ss) first.stmts (held_value, (number_held b (j + 1) (otherwise_of ss) chosen, cases_fine b at ty j 0 ss value chosen)))
    (number_held b (j + 2) 0 flag, (fine_trees b (body.stmts ++ break_out ∷ []) (one_more b body.stmts break_out inner tt), flag_fine b mode (j + 2) flag on))
  where
    two : (j : ℕ) → j + 1 + 1 ≡ j + 2
    two j = omega arith

    three : (j : ℕ) → j + 1 + 1 + 1 ≡ j + 3
    three j = omega arith

-- ---- choices and returns

chosen_fine : (b : Bench) (n : ℕ) (ty : VarTy) (slots : List ℕ) (v : Lowered) (a d : Effects) → PlainIf b ty slots → (Has b n v.temps → LoweredIs b ty slots v) → (Has b (past n v.temps) a.temps → AreFine b a.stmts) → (Has b (past (past n v.temps) a.temps) d.temps → AreFine b d.stmts) →
    Has b n (chosen v a d).temps → AreFine b (chosen v a d).stmts
chosen_fine b n ty slots v a d plain h i j has =
    let all = has_three b n v.temps a.temps d.temps has in
    let test = h (has_first b n v.temps (a.temps ++ d.temps) all) in
    let rest = has_rest b n v.temps (a.temps ++ d.temps) all in
    let yes = i (has_first b (past n v.temps) a.temps d.temps rest) in
    let no = j (has_rest b (past n v.temps) a.temps d.temps rest) in
    one_more b v.stmts (choose v.value (stmt_trees a.stmts) (stmt_trees d.stmts)) test.stmts (choose_fine b ty slots v.value a.stmts d.stmts plain test.value yes no)

-- an integer may be what a function gives, if that may be a handle where it may
result_flows : (v k : Class) (sealed : Bool) → IsBy v k → k.pointer ≡ false → (k.may 0 ≡ true → sealed ≡ true) → Flows v (integer_class sealed)
result_flows v k sealed h p may = record {
  kind = h.kind ∙ p;
  first = λ q m. may (h.number p m);
  size = λ q. false_not_true q;
  may = λ q n less m. false_not_true q;
  must = λ q n less m. false_not_true q;
}

returned_may : (b : Bench) (a : src.ExprTree) (t : IntType) → Quiet b (evaluated Returned a) → ty_of a ≡ Some (Int t) → (at_slots b (type_of a) (carried (seen b) a)).may 0 ≡ true → b.world.result b.function ≡ true
returned_may b (typed p ty form) t h is may = (quiet_here b Returned p ty form h).returned t refl is may

-- an integer has one leaf
integer_room : (b : Bench) (top slot : ℕ) (t : IntType) → slot < top → AllRoom top (count b (Some (Int t))) (slot ∷ [])
integer_room b top slot t less = let l = int_leaf b.w.names.structs t in (omega (arith, l, less), tt)

returned_fine : (b : Bench) (t : IntType) (slots : List ℕ) (v : Lowered) → ((at_slots b (Int t) slots).may 0 ≡ true → b.world.result b.function ≡ true) → LoweredIs b (Int t) slots v → AreFine b (returned v).stmts
returned_fine b t slots v may h = one_more b v.stmts (give_back (Some v.value)) h.stmts (h.value.fine, result_flows (class_of (judged b) v.value) (at_slots b (Int t) slots) (b.world.result b.function) h.value.is refl may)

-- ---- by induction

mutual
  pub statement_fine : (y : BodyTree) (b : Bench) (Q : UsageTree → Type 0) (exprs : List src.ExprTree) (out again : Bool) (mode : Onward) (n : ℕ) → Ground b Q → is_sound (tests b.w exprs) out again y ≡ true → BodyUsed Q exprs y → AreFine b (onwards mode) →
      Has b n (statement_in (code b.w exprs) y mode n).temps → AreFine b (statement_in (code b.w exprs) y mode n).stmts
  statement_fine (b.block at ys) w Q exprs out again mode n c h u on has = all_fine ys w Q exprs out again mode n c h u on has
  statement_fine (b.nothing at) w Q exprs out again mode n c h u on has = tt
  statement_fine (b.evaluate at e) w Q exprs out again mode n c h u on has = dropped_fine w Q exprs e n c h u has
  statement_fine (b.declare d) w Q exprs out again mode n c h u on has = declared_fine w Q exprs d.declarators n c h u has
  statement_fine (b.choose at e y o) w Q exprs out again mode n c h u on has =
      let a = outermost (code w.w exprs) e in
      let v = value_in (source w.w.names) a n in
      let first = statement_in (code w.w exprs) y mode (past n v.temps) in
      let test = both_hold_first (s.expr_fits (tests w.w exprs) is_scalar e) (is_sound (tests w.w exprs) out again y && else_sound (tests w.w exprs) out again o) h in
      let arms = both_hold_second (s.expr_fits (tests w.w exprs) is_scalar e) (is_sound (tests w.w exprs) out again y && else_sound (tests w.w exprs) out again o) h in
      chosen_fine w n (type_of a) (carried (seen w) a) v first (otherwise_in (code w.w exprs) o mode (past (past n v.temps) first.temps)) (condition_plain w Q exprs e c test u.0)
      (λ st. condition_fine w Q exprs e n c test u.0 st)
      (λ st. statement_fine y w Q exprs out again mode (past n v.temps) c (both_hold_first (is_sound (tests w.w exprs) out again y) (else_sound (tests w.w exprs) out again o) arms) u.1 on st)
      (λ st. else_fine o w Q exprs out again mode (past (past n v.temps) first.temps) c (both_hold_second (is_sound (tests w.w exprs) out again y) (else_sound (tests w.w exprs) out again o) arms) u.2 on st) has
  statement_fine (b.while_true at e y) w Q exprs out again mode n c h u on has =
      let test = tested (code w.w exprs) (Some e) n in
      let body = statement_in (code w.w exprs) y to_head (past n test.temps) in
      looped_fine w at (followed test body) (followed_fine w n test body
      (λ st. tested_fine w Q exprs (Some e) n c (both_hold_first (s.expr_fits (tests w.w exprs) is_scalar e) (is_sound (tests w.w exprs) true true y) h) u.0 st)
      (λ st. statement_fine y w Q exprs true true to_head (past n test.temps) c (both_hold_second (s.expr_fits (tests w.w exprs) is_scalar e) (is_sound (tests w.w exprs) true true y) h) u.1 (tt, tt) st) has)
  statement_fine (b.do_while at y e) w Q exprs out again mode n c h u on has =
      let test = tested (code w.w exprs) (Some e) (n + 1) in
      let body = statement_in (code w.w exprs) y to_head (past (n + 1) test.temps) in
      first_told_fine w n (looped at (followed (on_the_way_back n test) body)) has.1.0 (looped_fine w at (followed (on_the_way_back n test) body) (followed_fine w (n + 1) (on_the_way_back n test) body
      (λ st. way_back_fine w n test has.1.0 (tested_fine w Q exprs (Some e) (n + 1) c (both_hold_second (is_sound (tests w.w exprs) true true y) (s.expr_fits (tests w.w exprs) is_scalar e) h) u.1 st))
      (λ st. statement_fine y w Q exprs true true to_head (past (n + 1) test.temps) c (both_hold_first (is_sound (tests w.w exprs) true true y) (s.expr_fits (tests w.w exprs) is_scalar e) h) u.0 (tt, tt) st) (has.0.1, has.1.1)))
  statement_fine (b.for_each at d test None y) w Q exprs out again mode n c h u on has =
      let first = begun (code w.w exprs) d n in
      let k = past n first.temps in
      let cond = tested (code w.w exprs) test k in
      let body = statement_in (code w.w exprs) y to_head (past k cond.temps) in
      let rest = both_hold_second (for_init_fits (tests w.w exprs) d) (option_fits (tests w.w exprs) is_scalar test && (true && is_sound (tests w.w exprs) true true y)) h in
      followed_fine w n first (looped at (followed cond body))
      (λ st. begun_fine w Q exprs d n c (both_hold_first (for_init_fits (tests w.w exprs) d) (option_fits (tests w.w exprs) is_scalar test && (true && is_sound (tests w.w exprs) true true y)) h) u.0 st)
      (λ st. looped_fine w at (followed cond body) (followed_fine w k cond body
      (λ st1. tested_fine w Q exprs test k c (both_hold_first (option_fits (tests w.w exprs) is_scalar test) (true && is_sound (tests w.w exprs) true true y) rest) u.1 st1)
      (λ st1. statement_fine y w Q exprs true true to_head (past k cond.temps) c (both_hold_second (option_fits (tests w.w exprs) is_scalar test) (true && is_sound (tests w.w exprs) true true y) rest) u.3 (tt, tt) st1) st)) has
  statement_fine (b.for_each at d test (Some step) y) w Q exprs out again mode n c h u on has =
      let first = begun (code w.w exprs) d n in
      let k = past n first.temps in
      let back = stepped (code w.w exprs) (Some step) (k + 1) in
      let cond = tested (code w.w exprs) test (past (k + 1) back.temps) in
      let body = statement_in (code w.w exprs) y to_head (past (past (k + 1) back.temps) cond.temps) in
      let rest = both_hold_second (for_init_fits (tests w.w exprs) d) (option_fits (tests w.w exprs) is_scalar test && (s.expr_fits (tests w.w exprs) any_type step && is_sound (tests w.w exprs) true true y)) h in
      let last = both_hold_second (option_fits (tests w.w exprs) is_scalar test) (s.expr_fits (tests w.w exprs) any_type step && is_sound (tests w.w exprs) true true y) rest in
      followed_fine w n first (first_told k (looped at (followed (on_the_way_back k back) (followed cond body))))
      (λ st. begun_fine w Q exprs d n c (both_hold_first (for_init_fits (tests w.w exprs) d) (option_fits (tests w.w exprs) is_scalar test && (s.expr_fits (tests w.w exprs) any_type step && is_sound (tests w.w exprs) true true y)) h) u.0 st)
      (λ st. first_told_fine w k (looped at (followed (on_the_way_back k back) (followed cond body))) st.1.0 (looped_fine w at (followed (on_the_way_back k back) (followed cond body))
      (followed_fine w (k + 1) (on_the_way_back k back) (followed cond body)
      (λ st1. way_back_fine w k back st.1.0 (dropped_fine w Q exprs step (k + 1) c (both_hold_first (s.expr_fits (tests w.w exprs) any_type step) (is_sound (tests w.w exprs) true true y) last) u.2 st1))
      (λ st1. followed_fine w (past (k + 1) back.temps) cond body
      (λ st2. tested_fine w Q exprs test (past (k + 1) back.temps) c (both_hold_first (option_fits (tests w.w exprs) is_scalar test) (s.expr_fits (tests w.w exprs) any_type step && is_sound (tests w.w exprs) true true y) rest) u.1 st2)
      (λ st2. statement_fine y w Q exprs true true to_head (past (past (k + 1) back.temps) cond.temps) c (both_hold_second (s.expr_fits (tests w.w exprs) any_type step) (is_sound (tests w.w exprs) true true y) last) u.3 (tt, tt) st2) st1) (st.0.1, st.1.1)))) has
  statement_fine (b.give_back at None) w Q exprs out again mode n c h u on has = (tt, tt)
  statement_fine (b.give_back at (Some e)) w Q exprs out again mode n c h u on has =
      let a = outermost (code w.w exprs) e in
      let test = λ (z : Option VarTy). both_int (integer_of z) w.w.result in
      let f = found w.w.names exprs test e.0 h in
      let o = integer_result (ty_of a) w.w.result f.1 in
      let type = type_is a (Int o.0) o.1 in
      let quiet = c.quiet a Returned returned_free f.0 (all_at w Q exprs test Returned e h u) (subst (λ z. AllRoom c.top (count w z) ((w.results + w.function) ∷ [])) (sym o.1) (integer_room w c.top (w.results + w.function) o.0 c.own)) in
      returned_fine w o.0 (carried (seen w) a) (value_in (source w.w.names) a n)
      (subst (λ z. (at_slots w z (carried (seen w) a)).may 0 ≡ true → w.world.result w.function ≡ true) type (returned_may w a o.0 quiet o.1))
      (subst (λ z. LoweredIs w z (carried (seen w) a) (value_in (source w.w.names) a n)) type
      (value_is a Returned w n c.fits f.0 (no_struct (ty_of a) (subst (λ z. is_scalar z ≡ true) (sym o.1) refl)) quiet has.0 has.1))
  statement_fine (b.stop_loop at) w Q exprs out again mode n c h u on has = (tt, tt)
  statement_fine (b.next_turn at) w Q exprs out again mode n c h u on has = on
  statement_fine (b.switch at e ty ss) w Q exprs out again mode n c h u on has =
      let a = outermost (code w.w exprs) e in
      let v = value_in (source w.w.names) a n in
      let k = past n v.temps in
      let test = both_hold_first (s.expr_fits (tests w.w exprs) (promotes_to ty) e) (labels_fit ty (labels_of ss) && sections_sound (tests w.w exprs) again ss) h in
      let rest = both_hold_second (s.expr_fits (tests w.w exprs) (promotes_to ty) e) (labels_fit ty (labels_of ss) && sections_sound (tests w.w exprs) again ss) h in
      let f = found w.w.names exprs (promotes_to ty) e.0 test in
      let o = promoted_from (ty_of a) ty f.1 in
      let type = type_is a (Int o.0) o.1 in
      let scalar : is_scalar (ty_of a) ≡ true = subst (λ z. is_scalar z ≡ true) (sym o.1) refl in
      let quiet = condition_quiet w Q exprs (promotes_to ty) e c test u.0 in
      let body = sections_in (code w.w exprs) at ss (inside mode (k + 2)) k 0 (k + 3) in
      subst (λ z. Has w n (switched at ty z k mode ss v body).temps → AreFine w (switched at ty z k mode ss v body).stmts) (sym type)
      (switched_fine w at ty o.0 (carried (seen w) a) n mode ss v body (subst (λ z. PlainIf w z (carried (seen w) a)) type (plain_here w a scalar quiet)) on
      (λ st. subst (λ z. LoweredIs w z (carried (seen w) a) v) type (value_is a Operated w n c.fits f.0 (no_struct (ty_of a) scalar) quiet st.0 st.1))
      (λ one two st. sections_fine ss w Q exprs again (inside mode (k + 2)) at k 0 (k + 3) c (both_hold_second (labels_fit ty (labels_of ss)) (sections_sound (tests w.w exprs) again ss) rest) u.1 one (inside_fine w mode (k + 2) two) st)) has

  else_fine : (o : ElseTree) (b : Bench) (Q : UsageTree → Type 0) (exprs : List src.ExprTree) (out again : Bool) (mode : Onward) (n : ℕ) → Ground b Q → else_sound (tests b.w exprs) out again o ≡ true → ElseUsed Q exprs o → AreFine b (onwards mode) →
      Has b n (otherwise_in (code b.w exprs) o mode n).temps → AreFine b (otherwise_in (code b.w exprs) o mode n).stmts
  else_fine no_else w Q exprs out again mode n c h u on has = tt
  else_fine (otherwise y) w Q exprs out again mode n c h u on has = statement_fine y w Q exprs out again mode n c h u on has

  all_fine : (ys : BodyTrees) (b : Bench) (Q : UsageTree → Type 0) (exprs : List src.ExprTree) (out again : Bool) (mode : Onward) (n : ℕ) → Ground b Q → all_sound (tests b.w exprs) out again ys ≡ true → AllUsed Q exprs ys → AreFine b (onwards mode) →
      Has b n (all_in (code b.w exprs) ys mode n).temps → AreFine b (all_in (code b.w exprs) ys mode n).stmts
  all_fine no_bodies w Q exprs out again mode n c h u on has = tt
  all_fine (body_and y rest) w Q exprs out again mode n c h u on has =
      let first = statement_in (code w.w exprs) y mode n in
      followed_fine w n first (all_in (code w.w exprs) rest mode (past n first.temps))
      (λ st. statement_fine y w Q exprs out again mode n c (both_hold_first (is_sound (tests w.w exprs) out again y) (all_sound (tests w.w exprs) out again rest) h) u.0 on st)
      (λ st. all_fine rest w Q exprs out again mode (past n first.temps) c (both_hold_second (is_sound (tests w.w exprs) out again y) (all_sound (tests w.w exprs) out again rest) h) u.1 on st) has

  sections_fine : (ss : SectionTrees) (b : Bench) (Q : UsageTree → Type 0) (exprs : List src.ExprTree) (again : Bool) (mode : Onward) (at : Span) (k m n : ℕ) → Ground b Q → sections_sound (tests b.w exprs) again ss ≡ true → SectionsUsed Q exprs ss → Counts b int (k + 1) → AreFine b (onwards mode) →
      Has b n (sections_in (code b.w exprs) at ss mode k m n).temps → AreFine b (sections_in (code b.w exprs) at ss mode k m n).stmts
  sections_fine no_sections w Q exprs again mode at k m n c h u here on has = tt
  sections_fine (section_and (section p label ys) rest) w Q exprs again mode at k m n c h u here on has =
      let inner = all_in (code w.w exprs) ys mode n in
      followed_fine w n (section_by at k m inner) (sections_in (code w.w exprs) at rest mode k (m + 1) (past n inner.temps))
      (λ st. section_fine w at k m inner here (all_fine ys w Q exprs true again mode n c (both_hold_first (all_sound (tests w.w exprs) true again ys) (sections_sound (tests w.w exprs) again rest) h) u.0 on st))
      (λ st. sections_fine rest w Q exprs again mode at k (m + 1) (past n inner.temps) c (both_hold_second (all_sound (tests w.w exprs) true again ys) (sections_sound (tests w.w exprs) again rest) h) u.1 here on st) has
