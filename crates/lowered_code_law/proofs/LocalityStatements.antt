-- Statements, and those with new numbers for their outermost expressions, are lowered alike: by induction on the tree.
use Rattle.std.proofs.Common.{◌≡◌, ◌∙◌, refl, ap, ℕ, suc, ◌+◌, Option, Some, None, List, [], ◌∷◌, ◌++◌, map, option_map, if◌then◌else◌}
use Rattle.std.specs.Prelude.{unwrap_or}
use Rattle.pt_base.specs.declared.ids.VarId.{VarId}
use Rattle.pt_base.specs.declared.int_type.IntType.{IntType}
use Rattle.pt_base.specs.declared.span.Span.{Span}
use Rattle.typed_tree.specs.declared.ids.ExprId.{ExprId}
use Rattle.typed_tree.specs.declared.part.Role.TheVariants.{Value, Condition, Init}
use Rattle.typed_tree.specs.declared.types.VarTy.{VarTy}
use Rattle.typed_tree.specs.declared.statement.TypedInit.{TypedInit}
use Rattle.typed_tree.specs.declared.statement.TypedInit.TheVariants as init
use Rattle.typed_tree.specs.declared.statement.TypedDeclarator.{TypedDeclarator}
use Rattle.typed_tree.specs.declared.statement.TypedForInit.{TypedForInit}
use Rattle.typed_tree.specs.declared.statement.TypedForInit.TheVariants as begin
use Rattle.typed_tree.specs.StatementTree as b
use Rattle.typed_tree.specs.StatementTree.{BodyTree, ElseTree, no_else, otherwise, BodyTrees, no_bodies, body_and, section, SectionTrees, no_sections, section_and}
use Rattle.typed_tree.specs.Parts.{part_of, optional_part, init_parts, declarator_parts, declaration_parts, for_init_parts, parts_of, else_parts, all_parts, section_parts}
use Rattle.pt_core.specs.CodeTree.{PlaceTree, StmtTree, assign, break_out, clear, repeat, stmt_trees}
use Rattle.pt_core.specs.Types.{type_at}
use Rattle.source_meaning.specs.Expressions.{type_of}
use Rattle.source_meaning.specs.Statements.{count_of, is_default, section_with}
use Rattle.lowering.specs.Lowered.{Effects, Lowered, followed, hold, past}
use Rattle.lowering.specs.Operators.{as_int}
use Rattle.lowering.specs.Expressions.{copied, given, is_struct, place_effects, value_in}
use Rattle.lowering.specs.Leaves.{leaf_places}
use Rattle.lowering.specs.Statements.{Onward, to_head, outermost, number, inside, behind_switch, variable, variable_place, items_in, value_stored, initialised, declared, tested_by, tested, looped, on_the_way_back, first_told, case_of, cases_from, otherwise_of, section_by, switch_temps, switched, chosen, returned, begun, statement_in, otherwise_in, all_in, sections_in}
use Rattle.lowered_code_law.specs.LocalityRenumbered.{all_by, declarator_by, else_by, for_init_by, init_by, renumbered, sections_by}
use Rattle.lowered_code_law.proofs.LocalityAgreeing.{there}
use Rattle.lowered_code_law.proofs.LocalityOutermost.{Both, Alike, AllAlike, first, first_parts, rest_parts, second}

-- ---- declarations

items_same : (es : List ExprId) (w : Both) (x : VarId) (ps : List PlaceTree) (n : ℕ) → AllAlike w (map (part_of (Init x)) es) → items_in (first w) ps es n ≡ items_in (second w) ps (map w.number es) n
items_same [] w x ps n h = refl
items_same (e ∷ es) w x [] n h = refl
items_same (e ∷ es) w x (p ∷ ps) n h =
    λ i. let v = h.0.value n i in
    followed (record { stmts = v.stmts ++ assign p v.value ∷ []; temps = v.temps }) (items_same es w x ps (past n v.temps) h.1 i)

stored_same : (w : Both) (x : ℕ) (e : ExprId) (n : ℕ) → Alike w e → value_stored (first w) x (outermost (first w) e) n ≡ value_stored (second w) x (outermost (second w) (w.number e)) n
stored_same w x e n h =
    λ i. if is_struct (Some (type_at w.scopes.variables x)) then place_effects (copied (variable_place (first w) x) (h.object n i))
    else place_effects (given (variable_place (first w) x) (h.value n i))

initialised_same : (d : TypedInit) (w : Both) (x : VarId) (n : ℕ) → AllAlike w (init_parts x d) → initialised (first w) d x.0 n ≡ initialised (second w) (init_by w.number d) x.0 n
initialised_same init.Nothing w x n h = refl
initialised_same (init.Value e) w x n h = stored_same w x.0 e n h.0
initialised_same (init.Items s es) w x n h = items_same es w x (leaf_places w.scopes.structs (type_at w.scopes.variables x.0) s (variable (first w) x.0)) n h

declared_same : (ds : List TypedDeclarator) (w : Both) (n : ℕ) → AllAlike w (declaration_parts ds) → declared (first w) ds n ≡ declared (second w) (map (declarator_by w.number) ds) n
declared_same [] w n h = refl
declared_same (d ∷ ds) w n h =
    λ i. let own = initialised_same d.init w d.var n (first_parts w (declarator_parts d) (declaration_parts ds) h) i in
    followed (record { stmts = clear d.var.0 ∷ own.stmts; temps = own.temps }) (declared_same ds w (past n own.temps) (rest_parts w (declarator_parts d) (declaration_parts ds) h) i)

begun_same : (d : TypedForInit) (w : Both) (n : ℕ) → AllAlike w (for_init_parts d) → begun (first w) d n ≡ begun (second w) (for_init_by w.number d) n
begun_same begin.Nothing w n h = refl
begun_same (begin.Declare d) w n h = declared_same d.declarators w n h
begun_same (begin.Evaluate e) w n h = h.0.effects n

-- ---- loops

tested_same : (o : Option ExprId) (w : Both) (n : ℕ) → AllAlike w (optional_part Condition o) → tested (first w) o n ≡ tested (second w) (option_map w.number o) n
tested_same None w n h = refl
tested_same (Some e) w n h = ap tested_by (h.0.value n)

-- ---- switches

cases_same : (ss : SectionTrees) (r : ExprId → ExprId) (s : Span) (ty : IntType) (k m : ℕ) → cases_from s ty k m ss ≡ cases_from s ty k m (sections_by r ss)
cases_same no_sections r s ty k m = refl
cases_same (section_and (section at label ys) rest) r s ty k m = ap (λ (xs : List StmtTree). case_of s ty k m label ++ xs) (cases_same rest r s ty k (m + 1))

default_same : (ss : SectionTrees) (r : ExprId → ExprId) → section_with is_default ss ≡ section_with is_default (sections_by r ss)
default_same no_sections r = refl
default_same (section_and (section at label ys) rest) r = ap (λ (o : Option ℕ). if is_default label then Some 0 else option_map suc o) (default_same rest r)

count_same : (ss : SectionTrees) (r : ExprId → ExprId) → count_of ss ≡ count_of (sections_by r ss)
count_same no_sections r = refl
count_same (section_and (section at label ys) rest) r = ap suc (count_same rest r)

otherwise_same : (ss : SectionTrees) (r : ExprId → ExprId) → otherwise_of ss ≡ otherwise_of (sections_by r ss)
otherwise_same ss r = λ i. unwrap_or (default_same ss r i) (count_same ss r i)

switched_same : (ss : SectionTrees) (r : ExprId → ExprId) (s : Span) (ty : IntType) (from : VarTy) (k : ℕ) (mode : Onward) (v : Lowered) (body : Effects) → switched s ty from k mode ss v body ≡ switched s ty from k mode (sections_by r ss) v body
switched_same ss r s ty from k mode v body = λ i. record {
  stmts = v.stmts
      ++ hold k (as_int from ty v.value) ∷ hold (k + 1) (number (otherwise_same ss r i)) ∷ cases_same ss r s ty k 0 i
      ++ hold (k + 2) (number 0) ∷ repeat (stmt_trees (body.stmts ++ break_out ∷ [])) s ∷ behind_switch mode (k + 2);
  temps = v.temps ++ switch_temps ty ++ body.temps;
}

-- ---- statements

mutual
  pub statement_same : (x : BodyTree) (w : Both) (mode : Onward) (n : ℕ) → AllAlike w (parts_of x) → statement_in (first w) x mode n ≡ statement_in (second w) (renumbered w.number x) mode n
  statement_same (b.block s ys) w mode n h = all_same ys w mode n h
  statement_same (b.nothing s) w mode n h = refl
  statement_same (b.evaluate s e) w mode n h = h.0.effects n
  statement_same (b.declare d) w mode n h = declared_same d.declarators w n h
  statement_same (b.choose s e y o) w mode n h =
      λ i. let v = h.0.value n i in
      let taken = statement_same y w mode (past n v.temps) (first_parts w (parts_of y) (else_parts o) h.1) i in
      chosen v taken (else_same o w mode (past (past n v.temps) taken.temps) (rest_parts w (parts_of y) (else_parts o) h.1) i)
  statement_same (b.while_true s e y) w mode n h =
      λ i. let test = tested_same (Some e) w n (h.0, tt) i in
      looped s (followed test (statement_same y w to_head (past n test.temps) h.1 i))
  statement_same (b.do_while s y e) w mode n h =
      λ i. let test = tested_same (Some e) w (n + 1) (rest_parts w (parts_of y) (part_of Condition e ∷ []) h) i in
      first_told n (looped s (followed (on_the_way_back n test) (statement_same y w to_head (past (n + 1) test.temps) (first_parts w (parts_of y) (part_of Condition e ∷ []) h) i)))
  statement_same (b.for_each s d o None y) w mode n h =
      let rest = rest_parts w (for_init_parts d) (optional_part Condition o ++ parts_of y) h in
      λ i. let start = begun_same d w n (first_parts w (for_init_parts d) (optional_part Condition o ++ parts_of y) h) i in
      let k = past n start.temps in
      let test = tested_same o w k (first_parts w (optional_part Condition o) (parts_of y) rest) i in
      followed start (looped s (followed test (statement_same y w to_head (past k test.temps) (rest_parts w (optional_part Condition o) (parts_of y) rest) i)))
  statement_same (b.for_each s d o (Some e) y) w mode n h =
      let last = part_of Value e ∷ parts_of y in
      let rest = rest_parts w (for_init_parts d) (optional_part Condition o ++ last) h in
      let behind = rest_parts w (optional_part Condition o) last rest in
      λ i. let start = begun_same d w n (first_parts w (for_init_parts d) (optional_part Condition o ++ last) h) i in
      let k = past n start.temps in
      let back = behind.0.effects (k + 1) i in
      let test = tested_same o w (past (k + 1) back.temps) (first_parts w (optional_part Condition o) last rest) i in
      let body = statement_same y w to_head (past (past (k + 1) back.temps) test.temps) behind.1 i in
      followed start (first_told k (looped s (followed (on_the_way_back k back) (followed test body))))
  statement_same (b.give_back s None) w mode n h = refl
  statement_same (b.give_back s (Some e)) w mode n h = ap returned (h.0.value n)
  statement_same (b.stop_loop s) w mode n h = refl
  statement_same (b.next_turn s) w mode n h = refl
  statement_same (b.switch s e ty ss) w mode n h =
      let v = value_in (there w.scopes) (outermost (second w) (w.number e)) n in
      let j = past n v.temps in
      (λ i. let k = past n (h.0.value n i).temps in switched s ty (h.0.ty i) k mode ss (h.0.value n i) (sections_same ss w s (inside mode (k + 2)) k 0 (k + 3) h.1 i))
      ∙ switched_same ss w.number s ty (type_of (outermost (second w) (w.number e))) j mode v (sections_in (second w) s (sections_by w.number ss) (inside mode (j + 2)) j 0 (j + 3))

  else_same : (o : ElseTree) (w : Both) (mode : Onward) (n : ℕ) → AllAlike w (else_parts o) → otherwise_in (first w) o mode n ≡ otherwise_in (second w) (else_by w.number o) mode n
  else_same no_else w mode n h = refl
  else_same (otherwise y) w mode n h = statement_same y w mode n h

  all_same : (ys : BodyTrees) (w : Both) (mode : Onward) (n : ℕ) → AllAlike w (all_parts ys) → all_in (first w) ys mode n ≡ all_in (second w) (all_by w.number ys) mode n
  all_same no_bodies w mode n h = refl
  all_same (body_and y rest) w mode n h =
      λ i. let one = statement_same y w mode n (first_parts w (parts_of y) (all_parts rest) h) i in
      followed one (all_same rest w mode (past n one.temps) (rest_parts w (parts_of y) (all_parts rest) h) i)

  sections_same : (ss : SectionTrees) (w : Both) (s : Span) (mode : Onward) (k m n : ℕ) → AllAlike w (section_parts ss) → sections_in (first w) s ss mode k m n ≡ sections_in (second w) s (sections_by w.number ss) mode k m n
  sections_same no_sections w s mode k m n h = refl
  sections_same (section_and (section at label ys) rest) w s mode k m n h =
      λ i. let body = section_by s k m (all_same ys w mode n (first_parts w (all_parts ys) (section_parts rest) h) i) in
      followed body (sections_same rest w s mode k (m + 1) (past n body.temps) (rest_parts w (all_parts ys) (section_parts rest) h) i)
