-- A lowered function has few variables. Its body's temporaries are at most three times the nodes of the body and of
-- its outermost expressions, and these are numbered one after the other, so that they have no more nodes than all.
use Rattle.std.proofs.Common.{◌≡◌, ◌∙◌, ◌≤◌, ◌<◌, ◌^◌, ◌+◌, ◌*◌, ap, refl, ℕ, suc, Bool, true, false, List, [], ◌∷◌, ◌++◌, map, drop, get_or, length, Option, Some, None, arith, if◌then◌else◌}
use Rattle.std.specs.Prelude.{IsTrue, nat_eq, nat_le, nat_lt, sum_by}
use Rattle.std.specs.List.{list_all}
use Rattle.std.proofs.lemmas.Bool.Decides.{nat_tests}
use Rattle.std.proofs.lemmas.List.{length-map}
use Rattle.std.proofs.lemmas.List.Sums.{sum_by-append, sum_by-cons, sum_by-take-drop}
use Rattle.std.proofs.Math.Seq.{drop-cons}
use Rattle.pt_base.specs.declared.span.Span.{Span}
use Rattle.pt_base.specs.declared.ids.VarId.{VarId}
use Rattle.pt_base.proofs.Booleans.{both_hold, both_hold_first, both_hold_second}
use Rattle.typed_tree.specs.declared.types.StructInfo.{StructInfo}
use Rattle.typed_tree.specs.declared.ids.ExprId.{ExprId}
use Rattle.typed_tree.specs.declared.part.Part.{Part}
use Rattle.typed_tree.specs.declared.part.Role.{Role}
use Rattle.typed_tree.specs.declared.part.Role.TheVariants.{Value, Condition, Init, Returned}
use Rattle.typed_tree.specs.declared.statement.TypedInit.{TypedInit}
use Rattle.typed_tree.specs.declared.statement.TypedInit.TheVariants as n
use Rattle.typed_tree.specs.declared.statement.TypedDeclarator.{TypedDeclarator}
use Rattle.typed_tree.specs.declared.statement.TypedForInit.{TypedForInit}
use Rattle.typed_tree.specs.declared.statement.TypedForInit.TheVariants as f
use Rattle.typed_tree.specs.ExpressionTree as src
use Rattle.typed_tree.specs.StatementTree as b
use Rattle.typed_tree.specs.StatementTree.{BodyTree, ElseTree, no_else, otherwise, BodyTrees, no_bodies, body_and, SectionTree, section, SectionTrees, no_sections, section_and}
use Rattle.typed_tree.specs.TypedTree.{FunctionTree, TypedTree}
use Rattle.typed_tree.specs.Parts.{part_of, init_parts, declaration_parts, for_init_parts, optional_part, parts_of, else_parts, all_parts, section_parts, function_parts, function_variables}
use Rattle.typed_tree.specs.Nodes.{expr_nodes, body_nodes, else_nodes, bodies_nodes, section_nodes, option_nodes, function_nodes, nodes_of}
use Rattle.typed_tree.specs.WellFormed.{is_well_formed, are_numbered, are_consecutive, are_rising, numbers_sound}
use Rattle.typed_tree.proofs.WellFormedLemmas.{facts_of}
use Rattle.pt_core.specs.CodeTree.{PlaceTree}
use Rattle.pt_core.specs.Types.{type_at}
use Rattle.source_meaning.specs.Statements.{no_expr}
use Rattle.lowering.specs.Lowered.{counting, int, past}
use Rattle.lowering.specs.Expressions.{is_struct, copied, given, place_effects, value_in, object_in}
use Rattle.lowering.specs.Leaves.{leaf_places}
use Rattle.lowering.specs.Statements.{Code, Onward, outermost, variable_place, nowhere, to_head, inside, items_in, value_stored, initialised, declared, tested, stepped, begun, variable, switch_temps, statement_in, otherwise_in, all_in, sections_in}
use Rattle.lowering.specs.Functions.{variable_of, code_of, lowered_body, core_of, code_if, functions_from}
use Rattle.half_texts_law.proofs.DeclarationsTemporaries.{two, three, value_few, effects_few, object_few}

-- ---- the outermost expressions of a body

-- how many nodes those of these parts have
abbrev parts_nodes : List src.ExprTree → List Part → ℕ
parts_nodes exprs ps = sum_by (λ p. expr_nodes (get_or exprs p.expr.0 no_expr)) ps

both_parts : (exprs : List src.ExprTree) (ps qs : List Part) → parts_nodes exprs (ps ++ qs) ≡ parts_nodes exprs ps + parts_nodes exprs qs
both_parts exprs ps qs = sum_by-append (λ p. expr_nodes (get_or exprs p.expr.0 no_expr)) ps qs

one_part : (exprs : List src.ExprTree) (role : Role) (e : ExprId) (ps : List Part) → parts_nodes exprs (part_of role e ∷ ps) ≡ expr_nodes (get_or exprs e.0 no_expr) + parts_nodes exprs ps
one_part exprs role e ps = sum_by-cons (λ p. expr_nodes (get_or exprs p.expr.0 no_expr)) (part_of role e) ps

-- ---- declarations

items_few : (es : List ExprId) (c : Code) (v : VarId) (places : List PlaceTree) (n : ℕ) → length (items_in c places es n).temps ≤ 3 * parts_nodes c.exprs (map (part_of (Init v)) es)
items_few [] c v places n = omega arith
items_few (e ∷ es) c v [] n = omega arith
items_few (e ∷ es) c v (p ∷ places) n =
    let first = value_in c.scope (outermost c e) n in
    let h = value_few (outermost c e) c.scope n in
    let i = items_few es c v places (past n first.temps) in
    let j = two first.temps (items_in c places es (past n first.temps)).temps in
    let k = one_part c.exprs (Init v) e (map (part_of (Init v)) es) in
    omega (arith, h, i, j, k)

stored_few : (c : Code) (x : ℕ) (e : src.ExprTree) (n : ℕ) → length (value_stored c x e n).temps < 3 * expr_nodes e
stored_few c x e n = go (is_struct (Some (type_at c.scope.variables x)))
  where
    go : (b : Bool) → length (if b then place_effects (copied (variable_place c x) (object_in c.scope e n)) else place_effects (given (variable_place c x) (value_in c.scope e n))).temps < 3 * expr_nodes e
    go true = object_few e c.scope n
    go false = value_few e c.scope n

init_few : (init : TypedInit) (c : Code) (v : VarId) (n : ℕ) → length (initialised c init v.0 n).temps ≤ 3 * parts_nodes c.exprs (init_parts v init)
init_few n.Nothing c v n = omega arith
init_few (n.Value e) c v n = let h = stored_few c v.0 (outermost c e) n in let k = one_part c.exprs (Init v) e [] in omega (arith, h, k)
init_few (n.Items s es) c v n = items_few es c v (leaf_places c.scope.structs (type_at c.scope.variables v.0) s (variable c v.0)) n

declared_few : (ds : List TypedDeclarator) (c : Code) (n : ℕ) → length (declared c ds n).temps ≤ 3 * parts_nodes c.exprs (declaration_parts ds)
declared_few [] c n = omega arith
declared_few (d ∷ ds) c n =
    let init = initialised c d.init d.var.0 n in
    let h = init_few d.init c d.var n in
    let i = declared_few ds c (past n init.temps) in
    let j = two init.temps (declared c ds (past n init.temps)).temps in
    let k = both_parts c.exprs (init_parts d.var d.init) (declaration_parts ds) in
    omega (arith, h, i, j, k)

begun_few : (begin : TypedForInit) (c : Code) (n : ℕ) → length (begun c begin n).temps ≤ 3 * parts_nodes c.exprs (for_init_parts begin)
begun_few f.Nothing c n = omega arith
begun_few (f.Declare d) c n = declared_few d.declarators c n
begun_few (f.Evaluate e) c n = let h = effects_few (outermost c e) c.scope n in let k = one_part c.exprs Value e [] in omega (arith, h, k)

tested_few : (o : Option ExprId) (c : Code) (n : ℕ) → length (tested c o n).temps ≤ 3 * parts_nodes c.exprs (optional_part Condition o)
tested_few None c n = omega arith
tested_few (Some e) c n = let h = value_few (outermost c e) c.scope n in let k = one_part c.exprs Condition e [] in omega (arith, h, k)

stepped_few : (o : Option ExprId) (c : Code) (n : ℕ) → length (stepped c o n).temps ≤ 3 * parts_nodes c.exprs (optional_part Value o)
stepped_few None c n = omega arith
stepped_few (Some e) c n = let h = effects_few (outermost c e) c.scope n in let k = one_part c.exprs Value e [] in omega (arith, h, k)

-- ---- statements

mutual
  statement_few : (a : BodyTree) (c : Code) (mode : Onward) (n : ℕ) → length (statement_in c a mode n).temps ≤ 3 * (parts_nodes c.exprs (parts_of a) + body_nodes a)
  statement_few (b.block s bs) c mode n = let h = all_few bs c mode n in omega (arith, h)
  statement_few (b.nothing s) c mode n = omega arith
  statement_few (b.evaluate s e) c mode n = let h = effects_few (outermost c e) c.scope n in let k = one_part c.exprs Value e [] in omega (arith, h, k)
  statement_few (b.declare d) c mode n = let h = declared_few d.declarators c n in omega (arith, h)
  statement_few (b.choose s e x y) c mode n =
      let v = value_in c.scope (outermost c e) n in
      let first = statement_in c x mode (past n v.temps) in
      let second = otherwise_in c y mode (past (past n v.temps) first.temps) in
      let h = value_few (outermost c e) c.scope n in
      let i = statement_few x c mode (past n v.temps) in
      let j = else_few y c mode (past (past n v.temps) first.temps) in
      let l = three v.temps first.temps second.temps in
      let k = one_part c.exprs Condition e (parts_of x ++ else_parts y) in
      let m = both_parts c.exprs (parts_of x) (else_parts y) in
      omega (arith, h, i, j, l, k, m)
  statement_few (b.while_true s e x) c mode n =
      let test = tested c (Some e) n in
      let body = statement_in c x to_head (past n test.temps) in
      let h = value_few (outermost c e) c.scope n in
      let i = statement_few x c to_head (past n test.temps) in
      let j = two test.temps body.temps in
      let k = one_part c.exprs Condition e (parts_of x) in
      omega (arith, h, i, j, k)
  statement_few (b.do_while s x e) c mode n =
      let test = tested c (Some e) (n + 1) in
      let body = statement_in c x to_head (past (n + 1) test.temps) in
      let h = value_few (outermost c e) c.scope (n + 1) in
      let i = statement_few x c to_head (past (n + 1) test.temps) in
      let j = two test.temps body.temps in
      let k = one_part c.exprs Condition e [] in
      let m = both_parts c.exprs (parts_of x) (part_of Condition e ∷ []) in
      omega (arith, h, i, j, k, m)
  statement_few (b.for_each s begin test None x) c mode n =
      let first = begun c begin n in
      let k = past n first.temps in
      let t = tested c test k in
      let body = statement_in c x to_head (past k t.temps) in
      let h = begun_few begin c n in
      let i = tested_few test c k in
      let j = statement_few x c to_head (past k t.temps) in
      let l = two first.temps (t.temps ++ body.temps) in
      let m = two t.temps body.temps in
      let o = both_parts c.exprs (for_init_parts begin) (optional_part Condition test ++ ([] ++ parts_of x)) in
      let q = both_parts c.exprs (optional_part Condition test) ([] ++ parts_of x) in
      omega (arith, h, i, j, l, m, o, q)
  statement_few (b.for_each s begin test (Some step) x) c mode n =
      let first = begun c begin n in
      let k = past n first.temps in
      let back = stepped c (Some step) (k + 1) in
      let t = tested c test (past (k + 1) back.temps) in
      let body = statement_in c x to_head (past (past (k + 1) back.temps) t.temps) in
      let h = begun_few begin c n in
      let i = stepped_few (Some step) c (k + 1) in
      let j = tested_few test c (past (k + 1) back.temps) in
      let l = statement_few x c to_head (past (past (k + 1) back.temps) t.temps) in
      let m = two first.temps (counting int ∷ (back.temps ++ (t.temps ++ body.temps))) in
      let o = two back.temps (t.temps ++ body.temps) in
      let q = two t.temps body.temps in
      let u = both_parts c.exprs (for_init_parts begin) (optional_part Condition test ++ (optional_part Value (Some step) ++ parts_of x)) in
      let v = both_parts c.exprs (optional_part Condition test) (optional_part Value (Some step) ++ parts_of x) in
      let w = both_parts c.exprs (optional_part Value (Some step)) (parts_of x) in
      omega (arith, h, i, j, l, m, o, q, u, v, w)
  statement_few (b.give_back s None) c mode n = omega arith
  statement_few (b.give_back s (Some e)) c mode n = let h = value_few (outermost c e) c.scope n in let k = one_part c.exprs Returned e [] in omega (arith, h, k)
  statement_few (b.stop_loop s) c mode n = omega arith
  statement_few (b.next_turn s) c mode n = omega arith
  statement_few (b.switch s e ty sections) c mode n =
      let v = value_in c.scope (outermost c e) n in
      let k = past n v.temps in
      let body = sections_in c s sections (inside mode (k + 2)) k 0 (k + 3) in
      let h = value_few (outermost c e) c.scope n in
      let i = sections_few sections c s (inside mode (k + 2)) k 0 (k + 3) in
      let j = three v.temps (switch_temps ty) body.temps in
      let l = one_part c.exprs Condition e (section_parts sections) in
      omega (arith, h, i, j, l)

  else_few : (y : ElseTree) (c : Code) (mode : Onward) (n : ℕ) → length (otherwise_in c y mode n).temps ≤ 3 * (parts_nodes c.exprs (else_parts y) + else_nodes y)
  else_few no_else c mode n = omega arith
  else_few (otherwise x) c mode n = statement_few x c mode n

  all_few : (xs : BodyTrees) (c : Code) (mode : Onward) (n : ℕ) → length (all_in c xs mode n).temps ≤ 3 * (parts_nodes c.exprs (all_parts xs) + bodies_nodes xs)
  all_few no_bodies c mode n = omega arith
  all_few (body_and x rest) c mode n =
      let first = statement_in c x mode n in
      let h = statement_few x c mode n in
      let i = all_few rest c mode (past n first.temps) in
      let j = two first.temps (all_in c rest mode (past n first.temps)).temps in
      let k = both_parts c.exprs (parts_of x) (all_parts rest) in
      omega (arith, h, i, j, k)

  sections_few : (ss : SectionTrees) (c : Code) (s : Span) (mode : Onward) (k m n : ℕ) → length (sections_in c s ss mode k m n).temps ≤ 3 * (parts_nodes c.exprs (section_parts ss) + section_nodes ss)
  sections_few no_sections c s mode k m n = omega arith
  sections_few (section_and (section at label xs) rest) c s mode k m n =
      let first = all_in c xs mode n in
      let h = all_few xs c mode n in
      let i = sections_few rest c s mode k (m + 1) (past n first.temps) in
      let j = two first.temps (sections_in c s rest mode k (m + 1) (past n first.temps)).temps in
      let l = both_parts c.exprs (all_parts xs) (section_parts rest) in
      omega (arith, h, i, j, l)

-- ---- functions

numbered_within : (ps : List Part) (first last : ℕ) → IsTrue (are_numbered first ps last) → first ≤ last
numbered_within [] first last h = grind (arith, nat_tests, h)
numbered_within (p ∷ ps) first last h = let rest = numbered_within ps (suc first) last (both_hold_second (nat_eq p.expr.0 first) (are_numbered (suc first) ps last) h) in omega (arith, rest)

-- parts that are numbered from this one on have no more nodes than the expressions from there on
numbered_few : (ps : List Part) (exprs : List src.ExprTree) (first : ℕ) → IsTrue (are_numbered first ps (length exprs)) → parts_nodes exprs ps ≤ sum_by expr_nodes (drop first exprs)
numbered_few [] exprs first h = omega arith
numbered_few (p ∷ ps) exprs first h =
    let here : p.expr.0 ≡ first = same p.expr.0 first (both_hold_first (nat_eq p.expr.0 first) (are_numbered (suc first) ps (length exprs)) h) in
    let after = both_hold_second (nat_eq p.expr.0 first) (are_numbered (suc first) ps (length exprs)) h in
    let within = numbered_within ps (suc first) (length exprs) after in
    let rest = numbered_few ps exprs (suc first) after in
    let apart : sum_by expr_nodes (drop first exprs) ≡ expr_nodes (get_or exprs first no_expr) + sum_by expr_nodes (drop (suc first) exprs) =
    ap (sum_by expr_nodes) (drop-cons exprs first no_expr within) ∙ sum_by-cons expr_nodes (get_or exprs first no_expr) (drop (suc first) exprs) in
    let parts : parts_nodes exprs (p ∷ ps) ≡ expr_nodes (get_or exprs p.expr.0 no_expr) + parts_nodes exprs ps = sum_by-cons (λ p. expr_nodes (get_or exprs p.expr.0 no_expr)) p ps in
    let equal : expr_nodes (get_or exprs p.expr.0 no_expr) ≡ expr_nodes (get_or exprs first no_expr) = ap (λ k. expr_nodes (get_or exprs k no_expr)) here in
    omega (arith, rest, apart, parts, equal)
  where
    same : (m n : ℕ) → IsTrue (nat_eq m n) → m ≡ n
    same m n h = grind (arith, nat_tests)

consecutive_few : (ps : List Part) (exprs : List src.ExprTree) → IsTrue (are_consecutive ps (length exprs)) → parts_nodes exprs ps ≤ sum_by expr_nodes exprs
consecutive_few [] exprs h = omega arith
consecutive_few (p ∷ ps) exprs h = let i = numbered_few (p ∷ ps) exprs p.expr.0 h in let j = sum_by-take-drop expr_nodes exprs p.expr.0 in omega (arith, i, j)

-- a function that has this body, behind whose parts its numbers are sound
function_few : (p : TypedTree) (k : ℕ) (f : FunctionTree) (b : BodyTree) → IsTrue (are_consecutive (parts_of b) (length p.exprs)) → length (core_of p k f b).vars ≤ length f.vars + 3 * (sum_by expr_nodes p.exprs + body_nodes b)
function_few p k f b h =
    let temps = (lowered_body p f b).temps in
    let i = statement_few b (code_of p f) nowhere (length f.vars) in
    let j = consecutive_few (parts_of b) p.exprs h in
    let l = two f.vars (map variable_of temps) in
    let m = length-map temps variable_of in
    omega (arith, i, j, l, m)

functions_few : (fs : List FunctionTree) (p : TypedTree) (k limit : ℕ) → IsTrue (list_all (numbers_sound p) fs) → 3 * (sum_by function_nodes fs + sum_by expr_nodes p.exprs) ≤ limit → IsTrue (list_all (λ f. nat_le (length f.vars) limit) (functions_from p k fs))
functions_few [] p k limit h i = refl
functions_few (f ∷ fs) p k limit h i =
    let sum = sum_by-cons function_nodes f fs in
    let rest = functions_few fs p (suc k) limit (both_hold_second (numbers_sound p f) (list_all (numbers_sound p) fs) h) (omega (arith, i, sum)) in
    let parts = both_hold_first (are_consecutive (function_parts f.body) (length p.exprs)) (are_rising (length f.signature.params) (function_variables f.body)) (both_hold_first (numbers_sound p f) (list_all (numbers_sound p) fs) h) in
    let here : 3 * (1 + (length f.vars + option_nodes f.body) + sum_by expr_nodes p.exprs) ≤ limit = omega (arith, i, sum) in
    go f.body rest parts here
  where
    at_most : (m n : ℕ) → m ≤ n → IsTrue (nat_le m n)
    at_most m n h = grind (arith, nat_tests)

    go : (o : Option BodyTree) → IsTrue (list_all (λ f. nat_le (length f.vars) limit) (functions_from p (suc k) fs)) → IsTrue (are_consecutive (function_parts o) (length p.exprs)) → 3 * (1 + (length f.vars + option_nodes o) + sum_by expr_nodes p.exprs) ≤ limit
        → IsTrue (list_all (λ f. nat_le (length f.vars) limit) (code_if p k f o ++ functions_from p (suc k) fs))
    go None rest parts here = rest
    go (Some b) rest parts here =
        let few = function_few p k f b parts in
        both_hold (nat_le (length (core_of p k f b).vars) limit) (list_all (λ f. nat_le (length f.vars) limit) (functions_from p (suc k) fs)) (at_most (length (core_of p k f b).vars) limit (omega (arith, few, here))) rest

-- In the normal form of a well-formed tree no function has more than 2^64 variables.
pub lowered_few : (p : TypedTree) → IsTrue (is_well_formed p) → IsTrue (list_all (λ f. nat_le (length f.vars) (2 ^ 64)) (functions_from p 0 p.functions))
lowered_few p h =
    functions_few p.functions p 0 (2 ^ 64) (facts_of p h).numbered
    (below (sum_by (λ (s : StructInfo). 1 + length s.fields) p.structs) (length p.globals) (sum_by function_nodes p.functions) (sum_by expr_nodes p.exprs) (less (nodes_of p) (2 ^ 28) (facts_of p h).few))
  where
    less : (m n : ℕ) → IsTrue (nat_lt m n) → m < n
    less m n h = grind (arith, nat_tests)

    below : (a g f e : ℕ) → a + (g + (f + e)) < 2 ^ 28 → 3 * (f + e) ≤ 2 ^ 64
    below a g f e h = let i : f + e < 268435456 = omega (arith, h) in omega (arith, i)
