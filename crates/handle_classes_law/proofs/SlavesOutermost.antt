-- What holds of all that a body evaluates holds of what each outermost expression of its statements evaluates, with
-- what that is used for.
use Rattle.std.proofs.Common.{◌≡◌, ◌∙◌, ◌≤◌, ◌<◌, ℕ, suc, refl, sym, subst, arith, true, false, Option, None, Some, List, [], ◌∷◌, ◌++◌, map, if◌then◌else◌}
use Rattle.std.specs.Prelude.{slice_get, nat_eq, nat_le, length}
use Rattle.std.specs.List.{AllByRecursion}
use Rattle.std.proofs.lemmas.Bool.Decides.{nat_tests}
use Rattle.lowered_code_law.proofs.LocalityParts.{parts_are}
use Rattle.pt_base.specs.declared.ids.FnId.{FnId}
use Rattle.pt_base.specs.declared.ids.VarId.{VarId}
use Rattle.pt_base.proofs.Booleans.{both_hold_first, both_hold_second}
use Rattle.pt_base.proofs.Lists.{append_grouped, as_append_nil}
use Rattle.typed_tree.specs.declared.ids.ExprId.{ExprId}
use Rattle.typed_tree.specs.declared.part.Part.{Part}
use Rattle.typed_tree.specs.declared.part.Role.{Role}
use Rattle.typed_tree.specs.declared.part.Role.TheVariants as r
use Rattle.typed_tree.specs.declared.statement.TypedInit.{TypedInit}
use Rattle.typed_tree.specs.declared.statement.TypedInit.TheVariants as init
use Rattle.typed_tree.specs.declared.statement.TypedDeclarator.{TypedDeclarator}
use Rattle.typed_tree.specs.declared.statement.TypedForInit.{TypedForInit}
use Rattle.typed_tree.specs.declared.statement.TypedForInit.TheVariants as begin
use Rattle.typed_tree.specs.ExpressionTree.{ExprTree}
use Rattle.typed_tree.specs.StatementTree as b
use Rattle.typed_tree.specs.StatementTree.{BodyTree, ElseTree, no_else, otherwise, BodyTrees, no_bodies, body_and, section, SectionTrees, no_sections, section_and}
use Rattle.typed_tree.specs.TypedTree.{TypedTree, FunctionTree}
use Rattle.typed_tree.specs.Lookup.{function_at, parts_in}
use Rattle.typed_tree.specs.Parts.{part_of, optional_part, init_parts, declarator_parts, declaration_parts, for_init_parts, parts_of, else_parts, all_parts, section_parts, function_parts, declarator_variables, for_init_variables, variables_of, else_variables, all_variables, section_variables, function_variables}
use Rattle.typed_tree.specs.WellFormed.{are_consecutive, are_rising, numbers_sound}
use Rattle.usages.specs.declared.usage.How.{How}
use Rattle.usages.specs.declared.usage.How.TheVariants.{Kept, Operated, Begins, Returned}
use Rattle.usages.specs.Usages.{UsageTree, evaluated, how_of, part_usages, item_number, parts_usages, usages_in}

-- ---- by statements

-- it holds of what the outermost expression of this number evaluates, where that is used so
abbrev pub UsedAt : (UsageTree → Type 0) → List ExprTree → How → ExprId → Type 0
UsedAt Q exprs how e = (a : ExprTree) → slice_get exprs e.0 ≡ Some a → AllByRecursion Q (evaluated how a)

abbrev pub OptionUsed : (UsageTree → Type 0) → List ExprTree → How → Option ExprId → Type 0
OptionUsed Q exprs how None = Unit {0}
OptionUsed Q exprs how (Some e) = UsedAt Q exprs how e

-- the items of a brace list, the first of which has the number k
abbrev pub ItemsUsed : (UsageTree → Type 0) → List ExprTree → VarId → ℕ → List ExprId → Type 0
ItemsUsed Q exprs v k [] = Unit {0}
ItemsUsed Q exprs v k (e ∷ es) = UsedAt Q exprs (Begins v k) e × ItemsUsed Q exprs v (suc k) es

abbrev pub InitUsed : (UsageTree → Type 0) → List ExprTree → VarId → TypedInit → Type 0
InitUsed Q exprs v init.Nothing = Unit {0}
InitUsed Q exprs v (init.Value e) = UsedAt Q exprs (Begins v 0) e
InitUsed Q exprs v (init.Items s es) = ItemsUsed Q exprs v 0 es

abbrev pub DeclaredUsed : (UsageTree → Type 0) → List ExprTree → List TypedDeclarator → Type 0
DeclaredUsed Q exprs [] = Unit {0}
DeclaredUsed Q exprs (d ∷ ds) = InitUsed Q exprs d.var d.init × DeclaredUsed Q exprs ds

abbrev pub BegunUsed : (UsageTree → Type 0) → List ExprTree → TypedForInit → Type 0
BegunUsed Q exprs begin.Nothing = Unit {0}
BegunUsed Q exprs (begin.Declare d) = DeclaredUsed Q exprs d.declarators
BegunUsed Q exprs (begin.Evaluate e) = UsedAt Q exprs Kept e

abbrev mutual
  pub BodyUsed : (UsageTree → Type 0) → List ExprTree → BodyTree → Type 0
  BodyUsed Q exprs (b.block s ys) = AllUsed Q exprs ys
  BodyUsed Q exprs (b.nothing s) = Unit {0}
  BodyUsed Q exprs (b.evaluate s e) = UsedAt Q exprs Kept e
  BodyUsed Q exprs (b.declare d) = DeclaredUsed Q exprs d.declarators
  BodyUsed Q exprs (b.choose s e y o) = UsedAt Q exprs Operated e × BodyUsed Q exprs y × ElseUsed Q exprs o
  BodyUsed Q exprs (b.while_true s e y) = UsedAt Q exprs Operated e × BodyUsed Q exprs y
  BodyUsed Q exprs (b.do_while s y e) = BodyUsed Q exprs y × UsedAt Q exprs Operated e
  BodyUsed Q exprs (b.for_each s d test step y) = BegunUsed Q exprs d × OptionUsed Q exprs Operated test × OptionUsed Q exprs Kept step × BodyUsed Q exprs y
  BodyUsed Q exprs (b.give_back s e) = OptionUsed Q exprs Returned e
  BodyUsed Q exprs (b.stop_loop s) = Unit {0}
  BodyUsed Q exprs (b.next_turn s) = Unit {0}
  BodyUsed Q exprs (b.switch s e t ss) = UsedAt Q exprs Operated e × SectionsUsed Q exprs ss

  pub ElseUsed : (UsageTree → Type 0) → List ExprTree → ElseTree → Type 0
  ElseUsed Q exprs no_else = Unit {0}
  ElseUsed Q exprs (otherwise y) = BodyUsed Q exprs y

  pub AllUsed : (UsageTree → Type 0) → List ExprTree → BodyTrees → Type 0
  AllUsed Q exprs no_bodies = Unit {0}
  AllUsed Q exprs (body_and y rest) = BodyUsed Q exprs y × AllUsed Q exprs rest

  pub SectionsUsed : (UsageTree → Type 0) → List ExprTree → SectionTrees → Type 0
  SectionsUsed Q exprs no_sections = Unit {0}
  SectionsUsed Q exprs (section_and (section s label ys) rest) = AllUsed Q exprs ys × SectionsUsed Q exprs rest

-- ---- lists

pub used_first : (Q : UsageTree → Type 0) (us vs : List UsageTree) → AllByRecursion Q (us ++ vs) → AllByRecursion Q us
used_first Q [] vs h = tt
used_first Q (u ∷ us) vs h = (h.0, used_first Q us vs h.1)

pub used_rest : (Q : UsageTree → Type 0) (us vs : List UsageTree) → AllByRecursion Q (us ++ vs) → AllByRecursion Q vs
used_rest Q [] vs h = h
used_rest Q (u ∷ us) vs h = used_rest Q us vs h.1

-- ---- the parts that are ahead

-- the variable of this role has a number below this one
abbrev Below : Role → ℕ → Type 0
Below r.Value n = Unit {0}
Below r.Condition n = Unit {0}
Below (r.Init v) n = v.0 < n
Below r.Returned n = Unit {0}

-- It holds of what these parts evaluate, which stand behind one of this role and this number; and the variables that
-- are declared there have rising numbers, each above that of this role.
record Ahead (Q : UsageTree → Type 0) (exprs : List ExprTree) (ps : List Part) (vs : List ℕ) : Type 0 where
  before : Role
  number : ℕ
  first : ℕ
  below : Below before first
  rise : are_rising first vs ≡ true
  used : AllByRecursion Q (parts_usages exprs before number ps)

regrouped : (Q : UsageTree → Type 0) (exprs : List ExprTree) (xs ys ps : List Part) (vs : List ℕ) → Ahead Q exprs ((xs ++ ys) ++ ps) vs → Ahead Q exprs (xs ++ (ys ++ ps)) vs
regrouped Q exprs xs ys ps vs h = subst (λ z. Ahead Q exprs z vs) (append_grouped xs ys ps) h

both_regrouped : (Q : UsageTree → Type 0) (exprs : List ExprTree) (xs ys ps : List Part) (us ws vs : List ℕ) → Ahead Q exprs ((xs ++ ys) ++ ps) ((us ++ ws) ++ vs) → Ahead Q exprs (xs ++ (ys ++ ps)) (us ++ (ws ++ vs))
both_regrouped Q exprs xs ys ps us ws vs h = regrouped Q exprs xs ys ps (us ++ (ws ++ vs)) (subst (λ z. Ahead Q exprs ((xs ++ ys) ++ ps) z) (append_grouped us ws vs) h)

part_used : (Q : UsageTree → Type 0) (exprs : List ExprTree) (how : How) (e : ExprId) (us : List UsageTree) → AllByRecursion Q (part_usages how (slice_get exprs e.0) ++ us) → UsedAt Q exprs how e × AllByRecursion Q us
part_used Q exprs how e us h = (
  λ a is. subst (λ o. AllByRecursion Q (part_usages how o)) is (used_first Q (part_usages how (slice_get exprs e.0)) us h),
  used_rest Q (part_usages how (slice_get exprs e.0)) us h,
)

value_ahead : (Q : UsageTree → Type 0) (exprs : List ExprTree) (e : ExprId) (ps : List Part) (vs : List ℕ) → Ahead Q exprs (part_of r.Value e ∷ ps) vs → UsedAt Q exprs Kept e × Ahead Q exprs ps vs
value_ahead Q exprs e ps vs h =
    let m = item_number h.before h.number r.Value in
    let p = part_used Q exprs Kept e (parts_usages exprs r.Value m ps) h.used in
    (p.0, record { before = r.Value; number = m; first = h.first; below = tt; rise = h.rise; used = p.1 })

condition_ahead : (Q : UsageTree → Type 0) (exprs : List ExprTree) (e : ExprId) (ps : List Part) (vs : List ℕ) → Ahead Q exprs (part_of r.Condition e ∷ ps) vs → UsedAt Q exprs Operated e × Ahead Q exprs ps vs
condition_ahead Q exprs e ps vs h =
    let m = item_number h.before h.number r.Condition in
    let p = part_used Q exprs Operated e (parts_usages exprs r.Condition m ps) h.used in
    (p.0, record { before = r.Condition; number = m; first = h.first; below = tt; rise = h.rise; used = p.1 })

returned_ahead : (Q : UsageTree → Type 0) (exprs : List ExprTree) (e : ExprId) (ps : List Part) (vs : List ℕ) → Ahead Q exprs (part_of r.Returned e ∷ ps) vs → UsedAt Q exprs Returned e × Ahead Q exprs ps vs
returned_ahead Q exprs e ps vs h =
    let m = item_number h.before h.number r.Returned in
    let p = part_used Q exprs Returned e (parts_usages exprs r.Returned m ps) h.used in
    (p.0, record { before = r.Returned; number = m; first = h.first; below = tt; rise = h.rise; used = p.1 })

-- ---- initialisers

-- the first item behind what initialises no variable of its number
fresh : (before : Role) (k : ℕ) (v : VarId) (first : ℕ) → Below before first → first ≤ v.0 → item_number before k (r.Init v) ≡ 0
fresh r.Value k v first low h = refl
fresh r.Condition k v first low h = refl
fresh (r.Init w) k v first low h = subst (λ c. (if c then suc k else 0) ≡ 0) (sym (other w.0 v.0 first low h)) refl
  where
    other : (n m first : ℕ) → n < first → first ≤ m → nat_eq n m ≡ false
    other n m first low h = grind (arith, nat_tests, low, h)
fresh r.Returned k v first low h = refl

next : (v : VarId) (k : ℕ) → item_number (r.Init v) k (r.Init v) ≡ suc k
next v k = subst (λ c. (if c then suc k else 0) ≡ suc k) (sym (same v.0)) refl
  where
    same : (n : ℕ) → nat_eq n n ≡ true
    same n = grind (arith, nat_tests)

below_more : (before : Role) (first n : ℕ) → Below before first → first ≤ n → Below before (suc n)
below_more r.Value first n low h = tt
below_more r.Condition first n low h = tt
below_more (r.Init v) first n low h = later v.0 first n low h
  where
    later : (k first n : ℕ) → k < first → first ≤ n → k < suc n
    later k first n low h = omega (arith, low, h)
below_more r.Returned first n low h = tt

-- one of a number that is known
item_used : (Q : UsageTree → Type 0) (exprs : List ExprTree) (v : VarId) (m k : ℕ) (e : ExprId) (ps : List Part) → m ≡ k → AllByRecursion Q (part_usages (how_of (r.Init v) m) (slice_get exprs e.0) ++ parts_usages exprs (r.Init v) m ps) →
    UsedAt Q exprs (Begins v k) e × AllByRecursion Q (parts_usages exprs (r.Init v) k ps)
item_used Q exprs v m k e ps is h =
    part_used Q exprs (Begins v k) e (parts_usages exprs (r.Init v) k ps) (subst (λ z. AllByRecursion Q (part_usages (how_of (r.Init v) z) (slice_get exprs e.0) ++ parts_usages exprs (r.Init v) z ps)) is h)

items_ahead : (es : List ExprId) (Q : UsageTree → Type 0) (exprs : List ExprTree) (v : VarId) (k : ℕ) (ps : List Part) → AllByRecursion Q (parts_usages exprs (r.Init v) k (map (part_of (r.Init v)) es ++ ps)) →
    ItemsUsed Q exprs v (suc k) es × (n : ℕ) × AllByRecursion Q (parts_usages exprs (r.Init v) n ps)
items_ahead [] Q exprs v k ps h = (tt, k, h)
items_ahead (e ∷ es) Q exprs v k ps h =
    let one = item_used Q exprs v (item_number (r.Init v) k (r.Init v)) (suc k) e (map (part_of (r.Init v)) es ++ ps) (next v k) h in
    let rest = items_ahead es Q exprs v (suc k) ps one.1 in
    ((one.0, rest.0), rest.1, rest.2)

init_ahead : (d : TypedInit) (Q : UsageTree → Type 0) (exprs : List ExprTree) (v : VarId) (ps : List Part) (vs : List ℕ) → Ahead Q exprs (init_parts v d ++ ps) (v.0 ∷ vs) → InitUsed Q exprs v d × Ahead Q exprs ps vs
init_ahead d Q exprs v ps vs h = go d h.used
  where
    low : h.first ≤ v.0
    low = let e = both_hold_first (nat_le h.first v.0) (are_rising (suc v.0) vs) h.rise in grind (arith, nat_tests, e)

    rest : are_rising (suc v.0) vs ≡ true
    rest = both_hold_second (nat_le h.first v.0) (are_rising (suc v.0) vs) h.rise

    -- nothing is initialised
    same : AllByRecursion Q (parts_usages exprs h.before h.number ps) → Ahead Q exprs ps vs
    same used = record { before = h.before; number = h.number; first = suc v.0; below = below_more h.before h.first v.0 h.below low; rise = rest; used = used }

    behind : (n : ℕ) → AllByRecursion Q (parts_usages exprs (r.Init v) n ps) → Ahead Q exprs ps vs
    behind n used = record { before = r.Init v; number = n; first = suc v.0; below = above v.0; rise = rest; used = used }
      where
        above : (n : ℕ) → n < suc n
        above n = omega arith

    go : (d : TypedInit) → AllByRecursion Q (parts_usages exprs h.before h.number (init_parts v d ++ ps)) → InitUsed Q exprs v d × Ahead Q exprs ps vs
    go init.Nothing used = (tt, same used)
    go (init.Value e) used =
        let one = item_used Q exprs v (item_number h.before h.number (r.Init v)) 0 e ps (fresh h.before h.number v h.first h.below low) used in
        (one.0, behind 0 one.1)
    go (init.Items s []) used = (tt, same used)
    go (init.Items s (e ∷ es)) used =
        let one = item_used Q exprs v (item_number h.before h.number (r.Init v)) 0 e (map (part_of (r.Init v)) es ++ ps) (fresh h.before h.number v h.first h.below low) used in
        let more = items_ahead es Q exprs v 0 ps one.1 in
        ((one.0, more.0), behind more.1 more.2)

declared_ahead : (ds : List TypedDeclarator) (Q : UsageTree → Type 0) (exprs : List ExprTree) (ps : List Part) (vs : List ℕ) → Ahead Q exprs (declaration_parts ds ++ ps) (declarator_variables ds ++ vs) → DeclaredUsed Q exprs ds × Ahead Q exprs ps vs
declared_ahead [] Q exprs ps vs h = (tt, h)
declared_ahead (d ∷ ds) Q exprs ps vs h =
    let one = init_ahead d.init Q exprs d.var (declaration_parts ds ++ ps) (declarator_variables ds ++ vs) (regrouped Q exprs (declarator_parts d) (declaration_parts ds) ps (d.var.0 ∷ (declarator_variables ds ++ vs)) h) in
    let rest = declared_ahead ds Q exprs ps vs one.1 in
    ((one.0, rest.0), rest.1)

begun_ahead : (d : TypedForInit) (Q : UsageTree → Type 0) (exprs : List ExprTree) (ps : List Part) (vs : List ℕ) → Ahead Q exprs (for_init_parts d ++ ps) (for_init_variables d ++ vs) → BegunUsed Q exprs d × Ahead Q exprs ps vs
begun_ahead begin.Nothing Q exprs ps vs h = (tt, h)
begun_ahead (begin.Declare d) Q exprs ps vs h = declared_ahead d.declarators Q exprs ps vs h
begun_ahead (begin.Evaluate e) Q exprs ps vs h = value_ahead Q exprs e ps vs h

tested_ahead : (o : Option ExprId) (Q : UsageTree → Type 0) (exprs : List ExprTree) (ps : List Part) (vs : List ℕ) → Ahead Q exprs (optional_part r.Condition o ++ ps) vs → OptionUsed Q exprs Operated o × Ahead Q exprs ps vs
tested_ahead None Q exprs ps vs h = (tt, h)
tested_ahead (Some e) Q exprs ps vs h = condition_ahead Q exprs e ps vs h

stepped_ahead : (o : Option ExprId) (Q : UsageTree → Type 0) (exprs : List ExprTree) (ps : List Part) (vs : List ℕ) → Ahead Q exprs (optional_part r.Value o ++ ps) vs → OptionUsed Q exprs Kept o × Ahead Q exprs ps vs
stepped_ahead None Q exprs ps vs h = (tt, h)
stepped_ahead (Some e) Q exprs ps vs h = value_ahead Q exprs e ps vs h

result_ahead : (o : Option ExprId) (Q : UsageTree → Type 0) (exprs : List ExprTree) (ps : List Part) (vs : List ℕ) → Ahead Q exprs (optional_part r.Returned o ++ ps) vs → OptionUsed Q exprs Returned o × Ahead Q exprs ps vs
result_ahead None Q exprs ps vs h = (tt, h)
result_ahead (Some e) Q exprs ps vs h = returned_ahead Q exprs e ps vs h

-- ---- statements, by induction

mutual
  body_ahead : (y : BodyTree) (Q : UsageTree → Type 0) (exprs : List ExprTree) (ps : List Part) (vs : List ℕ) → Ahead Q exprs (parts_of y ++ ps) (variables_of y ++ vs) → BodyUsed Q exprs y × Ahead Q exprs ps vs
  body_ahead (b.block s ys) Q exprs ps vs h = all_ahead ys Q exprs ps vs h
  body_ahead (b.nothing s) Q exprs ps vs h = (tt, h)
  body_ahead (b.evaluate s e) Q exprs ps vs h = value_ahead Q exprs e ps vs h
  body_ahead (b.declare d) Q exprs ps vs h = declared_ahead d.declarators Q exprs ps vs h
  body_ahead (b.choose s e y o) Q exprs ps vs h =
      let test = condition_ahead Q exprs e ((parts_of y ++ else_parts o) ++ ps) ((variables_of y ++ else_variables o) ++ vs) h in
      let first = body_ahead y Q exprs (else_parts o ++ ps) (else_variables o ++ vs) (both_regrouped Q exprs (parts_of y) (else_parts o) ps (variables_of y) (else_variables o) vs test.1) in
      let second = else_ahead o Q exprs ps vs first.1 in
      ((test.0, first.0, second.0), second.1)
  body_ahead (b.while_true s e y) Q exprs ps vs h =
      let test = condition_ahead Q exprs e (parts_of y ++ ps) (variables_of y ++ vs) h in
      let rest = body_ahead y Q exprs ps vs test.1 in
      ((test.0, rest.0), rest.1)
  body_ahead (b.do_while s y e) Q exprs ps vs h =
      let first = body_ahead y Q exprs (part_of r.Condition e ∷ ps) vs (regrouped Q exprs (parts_of y) (part_of r.Condition e ∷ []) ps (variables_of y ++ vs) h) in
      let test = condition_ahead Q exprs e ps vs first.1 in
      ((first.0, test.0), test.1)
  body_ahead (b.for_each s d test step y) Q exprs ps vs h =
      let tests = optional_part r.Condition test in
      let steps = optional_part r.Value step in
      let first = begun_ahead d Q exprs ((tests ++ (steps ++ parts_of y)) ++ ps) (variables_of y ++ vs) (both_regrouped Q exprs (for_init_parts d) (tests ++ (steps ++ parts_of y)) ps (for_init_variables d) (variables_of y) vs h) in
      let second = tested_ahead test Q exprs ((steps ++ parts_of y) ++ ps) (variables_of y ++ vs) (regrouped Q exprs tests (steps ++ parts_of y) ps (variables_of y ++ vs) first.1) in
      let third = stepped_ahead step Q exprs (parts_of y ++ ps) (variables_of y ++ vs) (regrouped Q exprs steps (parts_of y) ps (variables_of y ++ vs) second.1) in
      let rest = body_ahead y Q exprs ps vs third.1 in
      ((first.0, second.0, third.0, rest.0), rest.1)
  body_ahead (b.give_back s e) Q exprs ps vs h = result_ahead e Q exprs ps vs h
  body_ahead (b.stop_loop s) Q exprs ps vs h = (tt, h)
  body_ahead (b.next_turn s) Q exprs ps vs h = (tt, h)
  body_ahead (b.switch s e t ss) Q exprs ps vs h =
      let test = condition_ahead Q exprs e (section_parts ss ++ ps) (section_variables ss ++ vs) h in
      let rest = sections_ahead ss Q exprs ps vs test.1 in
      ((test.0, rest.0), rest.1)

  else_ahead : (o : ElseTree) (Q : UsageTree → Type 0) (exprs : List ExprTree) (ps : List Part) (vs : List ℕ) → Ahead Q exprs (else_parts o ++ ps) (else_variables o ++ vs) → ElseUsed Q exprs o × Ahead Q exprs ps vs
  else_ahead no_else Q exprs ps vs h = (tt, h)
  else_ahead (otherwise y) Q exprs ps vs h = body_ahead y Q exprs ps vs h

  all_ahead : (ys : BodyTrees) (Q : UsageTree → Type 0) (exprs : List ExprTree) (ps : List Part) (vs : List ℕ) → Ahead Q exprs (all_parts ys ++ ps) (all_variables ys ++ vs) → AllUsed Q exprs ys × Ahead Q exprs ps vs
  all_ahead no_bodies Q exprs ps vs h = (tt, h)
  all_ahead (body_and y rest) Q exprs ps vs h =
      let first = body_ahead y Q exprs (all_parts rest ++ ps) (all_variables rest ++ vs) (both_regrouped Q exprs (parts_of y) (all_parts rest) ps (variables_of y) (all_variables rest) vs h) in
      let more = all_ahead rest Q exprs ps vs first.1 in
      ((first.0, more.0), more.1)

  sections_ahead : (ss : SectionTrees) (Q : UsageTree → Type 0) (exprs : List ExprTree) (ps : List Part) (vs : List ℕ) → Ahead Q exprs (section_parts ss ++ ps) (section_variables ss ++ vs) → SectionsUsed Q exprs ss × Ahead Q exprs ps vs
  sections_ahead no_sections Q exprs ps vs h = (tt, h)
  sections_ahead (section_and (section s label ys) rest) Q exprs ps vs h =
      let first = all_ahead ys Q exprs (section_parts rest ++ ps) (section_variables rest ++ vs) (both_regrouped Q exprs (all_parts ys) (section_parts rest) ps (all_variables ys) (section_variables rest) vs h) in
      let more = sections_ahead rest Q exprs ps vs first.1 in
      ((first.0, more.0), more.1)

-- ---- a function

parts_used : (Q : UsageTree → Type 0) (t : TypedTree) (f : FnId) → AllByRecursion Q (usages_in t f) → AllByRecursion Q (parts_usages t.exprs r.Value 0 (parts_in t f))
unfolding usages_in
parts_used Q t f h = h

pub body_used : (Q : UsageTree → Type 0) (t : TypedTree) (f : FnId) (g : FunctionTree) (body : BodyTree) → function_at t f ≡ Some g → g.body ≡ Some body → numbers_sound t g ≡ true → AllByRecursion Q (usages_in t f) → BodyUsed Q t.exprs body
body_used Q t f g body found is sound h =
    (body_ahead body Q t.exprs [] [] (record {
      before = r.Value;
      number = 0;
      first = length g.signature.params;
      below = tt;
      rise = subst (λ z. are_rising (length g.signature.params) z ≡ true) (as_append_nil (variables_of body)) rising;
      used = subst (λ z. AllByRecursion Q (parts_usages t.exprs r.Value 0 z)) (parts_are t f g body found is ∙ as_append_nil (parts_of body)) (parts_used Q t f h);
    })).0
  where
    rising : are_rising (length g.signature.params) (variables_of body) ≡ true
    rising = subst (λ o. are_rising (length g.signature.params) (function_variables o) ≡ true) is (both_hold_second (are_consecutive (function_parts g.body) (length t.exprs)) (are_rising (length g.signature.params) (function_variables g.body)) sound)
