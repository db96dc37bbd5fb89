-- What is known of all that the slave's functions evaluate in an accepted program: nothing was found in it, and the
-- marks are closed under its edges and hold what comes back secret. So each outermost expression is quiet.
use Rattle.std.proofs.Common.{inl, inr, ◌⊎◌, ◌≡◌, ◌∙◌, ◌≤◌, ◌<◌, ℕ, zero, suc, ◌+◌, refl, ap, sym, subst, arith, Bool, true, false, Option, None, Some, List, [], ◌∷◌, ◌++◌, length, map, if◌then◌else◌}
use Rattle.std.specs.Prelude.{◌&&◌, not, cond, slice_get, get_or, nat_eq, nat_le, is_some, is_none, option_map, Contains, IsSome}
use Rattle.std.specs.Option.{option_map_or}
use Rattle.std.specs.List.{AllByRecursion, filter, flat_map, list_all, range_with_len}
use Rattle.std.proofs.lemmas.List.{get_or_default}
use Rattle.pt_base.specs.declared.ids.FnId.{FnId}
use Rattle.pt_base.specs.declared.slot.Slot.{Slot}
use Rattle.pt_base.specs.declared.slot.Edge.{Edge}
use Rattle.pt_base.proofs.Booleans.{both_hold, both_hold_first, both_hold_second, false_not_true}
use Rattle.pt_base.proofs.Lists.{append_nil_first, append_nil_second}
use Rattle.pt_base.proofs.Members.{all_true_at, all_true_numbers_append, contains_cases, contains_first, contains_later, contains_nothing}
use Rattle.pt_base.proofs.Places.{get_below_length, get_map}
use Rattle.pt_tree.specs.declared.signature.Param.{Param}
use Rattle.pt_tree.specs.declared.signature.ParamKind.{ParamKind}
use Rattle.pt_tree.specs.declared.signature.ParamKind.TheVariants as kind
use Rattle.pt_tree.specs.declared.signature.Signature.{Signature}
use Rattle.typed_tree.specs.declared.types.VarTy.{VarTy}
use Rattle.typed_tree.specs.declared.variable.Var.{Var}
use Rattle.typed_tree.specs.ExpressionTree as src
use Rattle.typed_tree.specs.ExpressionTree.{typed, FormTree}
use Rattle.typed_tree.specs.StatementTree.{BodyTree}
use Rattle.typed_tree.specs.TypedTree.{TypedTree, FunctionTree}
use Rattle.typed_tree.specs.TypeTests.{same_type, same_bool}
use Rattle.typed_tree.specs.Lookup.{function_at}
use Rattle.typed_tree.specs.WellFormed.{names_in, function_sound, body_sound, params_lead, is_integer_kind, is_integer_param, variable_sound}
use Rattle.typed_tree.specs.WellFormedExpression.{is_typed, form_fits, ty_of, param_type}
use Rattle.typed_tree.proofs.WellFormedLemmas.{Facts}
use Rattle.typed_tree.proofs.SameTypes.{equal_types}
use Rattle.propagation.specs.Marks.{AreMarks, Shown, path_shown}
use Rattle.propagation.specs.Paths.{no_edge, Leads, IsPriv}
use Rattle.propagation.proofs.LawLemmas.{marked_priv, priv_marked, leads_push}
use Rattle.sides.specs.declared.objects.Object.{Object}
use Rattle.usages.specs.declared.usage.How.{How}
use Rattle.usages.specs.declared.usage.How.TheVariants.{Kept, Operated, Passed, Begins, Returned}
use Rattle.usages.specs.Usages.{UsageTree, used, evaluated, form_usages, usages_in}
use Rattle.sides.specs.Carried.{carried, place_slots, scope_of, start_of}
use Rattle.reach.specs.Contexts.{InSlave, is_plain, test_function}
use Rattle.sides.specs.Leaves.{leaf_count, value_count}
use Rattle.sides.specs.Objects.{global_objects, variable_objects, variable_types, function_starts, result_start}
use Rattle.sides.specs.Seeds.{gives_back, is_sealed_leaf, sealed_leaves, sealed_behind, usage_sealed}
use Rattle.sides.specs.Slots.{slots_of}
use Rattle.reach.specs.Tables.{slot_number}
use Rattle.reach.proofs.ListLemmas.{contains_flat}
use Rattle.flow_edges.specs.Edges.{mixes, moved_to, passed_slots, target_slots, assigned_edges, form_edges, usage_edges, edges_in}
use Rattle.flow_edges.specs.Moves.{Move, first_of_each, edges_between, edges_from, leaf_edges, move_edges}
use Rattle.flow_rules.specs.declared.accepted.Accepted.{Accepted}
use Rattle.flow_rules.specs.Faults.{IsAccepted, edges_of_all, flows_of}
use Rattle.flow_rules.specs.Findings.{usage_findings, slave_findings, monitor_findings, variables_findings, global_findings, function_findings, findings_of}
use Rattle.lowering.specs.Lowered.{Temp}
use Rattle.lowered_code_law.proofs.FormsPrograms.{setting}
use Rattle.lowered_code_law.proofs.FormsRules.{assign_rules}
use Rattle.handle_classes_law.specs.SlavesMarked.{slave_world}
use Rattle.handle_classes_law.specs.SlavesLaws.{marks_of}
use Rattle.handle_classes_law.proofs.SlavesBench.{Bench, seen, Fits}
use Rattle.handle_classes_law.proofs.SlavesEdges.{AreClosed}
use Rattle.handle_classes_law.proofs.SlavesQuiet.{Quiet}
use Rattle.handle_classes_law.proofs.SlavesFindings.{Looks}
use Rattle.handle_classes_law.proofs.SlavesUsages.{usages_are_quiet}
use Rattle.handle_classes_law.proofs.SlavesOutermost.{used_first, used_rest}
use Rattle.handle_classes_law.proofs.SlavesSlots.{object_type, variable_within, result_within}
use Rattle.handle_classes_law.proofs.SlavesGround.{outer_slots}
use Rattle.handle_classes_law.proofs.SlavesWithin.{AllRoom, Rooms, IsInner, IsRight, NoArgument, Passes, count, int_leaf, carried_room, place_room, form_right}

-- ---- what a function's code is judged with

abbrev pub bench : TypedTree → Accepted → ℕ → FunctionTree → List Temp → Bench
bench t a n f temps = record {
  w = setting t f temps;
  marks = marks_of t a;
  variables = variable_objects t n;
  globals = global_objects t;
  results = result_start t;
  world = slave_world (marks_of t a) t;
  function = n;
}

abbrev pub top_of : TypedTree → ℕ
top_of t = length (slots_of t)

abbrev function_id : ℕ → FnId
function_id n = record { 0 = n }

-- ---- marks are known at slots of the program

-- with its start an edge has its end, if that is a slot
abbrev Loose : ℕ → (ℕ → Bool) → List Edge → Type 0
Loose top m [] = Unit {0}
Loose top m (e ∷ es) = (e.to.0 < top → m e.from.0 ≡ true → m e.to.0 ≡ true) × Loose top m es

abbrev LooseAll : ℕ → (ℕ → Bool) → List ℕ → Type 0
LooseAll top m [] = Unit {0}
LooseAll top m (x ∷ xs) = (x < top → m x ≡ true) × LooseAll top m xs

pub record IsKnown (t : TypedTree) (a : Accepted) (n : ℕ) (u : UsageTree) : Type 0 where
  pub found : usage_findings (flows_of t a.sides a.marks) (function_id n) u ≡ []
  pub edges : Loose (top_of t) (marks_of t a) (usage_edges t n u)
  pub sealed : LooseAll (top_of t) (marks_of t a) (usage_sealed t (function_id n) u.how u.value)

some_is : (o : Option (List ℕ)) → is_some o ≡ true → IsSome o
some_is None h = false_not_true h
some_is (Some x) h = refl

is_some_of : (o : Option (List ℕ)) → IsSome o → is_some o ≡ true
is_some_of None h = cc
is_some_of (Some x) h = refl

edge_follows : (seeds : List Slot) (edges : List Edge) (slots : ℕ) (marks : Shown) → AreMarks seeds edges slots marks → (e : Edge) → Contains edges e → e.to.0 < slots → is_some (path_shown marks (slot_number e.from.0)) ≡ true → is_some (path_shown marks (slot_number e.to.0)) ≡ true
edge_follows seeds edges slots marks are e c less m =
    let same : get_or edges c.0 no_edge ≡ e = get_or_default edges c.0 no_edge e c.1 ∙ c.2 in
    let priv : IsPriv seeds edges e.from = marked_priv seeds edges slots marks are e.from (some_is (path_shown marks e.from) m) in
    is_some_of (path_shown marks e.to) (priv_marked seeds edges slots marks are e.to less
    (priv.0, priv.1 ++ c.0 ∷ [], priv.2, subst (λ (z : Edge). Leads edges (priv.1 ++ c.0 ∷ []) priv.0 z.to) same (leads_push edges priv.1 priv.0 e.from c.0 priv.3 c.1 (ap (λ (z : Edge). z.from) same))))

pub seed_marked : (seeds : List Slot) (edges : List Edge) (slots : ℕ) (marks : Shown) → AreMarks seeds edges slots marks → (s : ℕ) → Contains seeds (slot_number s) → s < slots → is_some (path_shown marks (slot_number s)) ≡ true
seed_marked seeds edges slots marks are s c less = is_some_of (path_shown marks (slot_number s)) (priv_marked seeds edges slots marks are (slot_number s) less (slot_number s, [], c, refl))

-- ---- lists

each_in : {A : Type 0} (P : A → Type 0) (xs : List A) → ((x : A) → Contains xs x → P x) → AllByRecursion P xs
each_in P [] h = tt
each_in P (x ∷ xs) h = (h x (contains_first x xs), each_in P xs (λ y c. h y (contains_later x xs y c)))

loose_in : (top : ℕ) (m : ℕ → Bool) (es : List Edge) → ((e : Edge) → Contains es e → e.to.0 < top → m e.from.0 ≡ true → m e.to.0 ≡ true) → Loose top m es
loose_in top m [] h = tt
loose_in top m (e ∷ es) h = (h e (contains_first e es), loose_in top m es (λ x c. h x (contains_later e es x c)))

loose_all_in : (top : ℕ) (m : ℕ → Bool) (xs : List ℕ) → ((x : ℕ) → Contains xs x → x < top → m x ≡ true) → LooseAll top m xs
loose_all_in top m [] h = tt
loose_all_in top m (x ∷ xs) h = (h x (contains_first x xs), loose_all_in top m xs (λ y c. h y (contains_later x xs y c)))

none_in : {X Y : Type 0} (f : X → List Y) (xs : List X) (x : X) → Contains xs x → flat_map f xs ≡ [] → f x ≡ []
none_in f [] x c h = absurd (contains_nothing x c)
none_in {X} {Y} f (y ∷ ys) x c h = go (contains_cases y ys x c) (λ k. none_in f ys x k (append_nil_second (f y) (flat_map f ys) h))
  where
    go : (y ≡ x) ⊎ Contains ys x → (Contains ys x → f x ≡ []) → f x ≡ []
    go (inl same) later = ap f (sym same) ∙ append_nil_first (f y) (flat_map f ys) h
    go (inr k) later = later k

-- ---- an accepted program

faultless_slave : (t : TypedTree) (a : Accepted) → IsAccepted t a → flat_map (slave_findings (flows_of t a.sides a.marks)) a.sides.slave ≡ []
unfolding findings_of
faultless_slave t a accepted =
    let p = flows_of t a.sides a.marks in
    append_nil_first (flat_map (slave_findings p) a.sides.slave) (flat_map (monitor_findings p) a.sides.monitor)
    (append_nil_first (flat_map (slave_findings p) a.sides.slave ++ flat_map (monitor_findings p) a.sides.monitor) (global_findings p ++ flat_map function_findings t.functions) accepted.faultless)

edge_there : (t : TypedTree) (f : FnId) (u : UsageTree) (e : Edge) → Contains (usages_in t f) u → Contains (usage_edges t f.0 u) e → Contains (edges_in t f) e
unfolding edges_in
edge_there t f u e c d = contains_flat (usage_edges t f.0) (usages_in t f) u e c d

pub known_usages : (t : TypedTree) (a : Accepted) (n : ℕ) → IsAccepted t a → InSlave t (function_id n) → AllByRecursion (IsKnown t a n) (usages_in t (function_id n))
known_usages t a n accepted inside =
    let p = flows_of t a.sides a.marks in
    let f = function_id n in
    let here = (accepted.sides.slave.same f).1 inside in
    let none = append_nil_first (flat_map (usage_findings p f) (usages_in t f)) (variables_findings p f) (none_in (slave_findings p) a.sides.slave f here (faultless_slave t a accepted)) in
    each_in (IsKnown t a n) (usages_in t f) (λ u c. record {
      found = none_in (usage_findings p f) (usages_in t f) u c none;
      edges = loose_in (top_of t) (marks_of t a) (usage_edges t n u) (λ e d less m.
          edge_follows a.sides.seeds (edges_of_all t a.sides) (top_of t) a.marks accepted.marks e (contains_flat (edges_in t) a.sides.slave f e here (edge_there t f u e c d)) less m);
      sealed = loose_all_in (top_of t) (marks_of t a) (usage_sealed t f u.how u.value) (λ s d less.
          seed_marked a.sides.seeds (edges_of_all t a.sides) (top_of t) a.marks accepted.marks s
          ((accepted.sides.seeds.same (slot_number s)).1 (less, inr (f, inside, contains_flat (λ (z : UsageTree). usage_sealed t f z.how z.value) (usages_in t f) u s c d))) less);
    })

-- ---- where all ends are slots

abbrev EndBelow : ℕ → List Edge → Type 0
EndBelow top [] = Unit {0}
EndBelow top (e ∷ es) = (e.to.0 < top) × EndBelow top es

ends_both : (top : ℕ) (xs ys : List Edge) → EndBelow top xs → EndBelow top ys → EndBelow top (xs ++ ys)
ends_both top [] ys h k = k
ends_both top (x ∷ xs) ys h k = (h.0, ends_both top xs ys h.1 k)

tight : (top : ℕ) (m : ℕ → Bool) (es : List Edge) → Loose top m es → EndBelow top es → AreClosed m es
tight top m [] h k = tt
tight top m (e ∷ es) h k = (h.0 k.0, tight top m es h.1 k.1)

loose_first : (top : ℕ) (m : ℕ → Bool) (xs ys : List Edge) → Loose top m (xs ++ ys) → Loose top m xs
loose_first top m [] ys h = tt
loose_first top m (x ∷ xs) ys h = (h.0, loose_first top m xs ys h.1)

loose_rest : (top : ℕ) (m : ℕ → Bool) (xs ys : List Edge) → Loose top m (xs ++ ys) → Loose top m ys
loose_rest top m [] ys h = h
loose_rest top m (x ∷ xs) ys h = loose_rest top m xs ys h.1

closed_both : (m : ℕ → Bool) (xs ys : List Edge) → AreClosed m xs → AreClosed m ys → AreClosed m (xs ++ ys)
closed_both m [] ys h k = k
closed_both m (x ∷ xs) ys h k = (h.0, closed_both m xs ys h.1 k)

between_below : (v : Move) (top x y : ℕ) → x < top → y < top → EndBelow top (edges_between v x y)
between_below v top x y low less = (less, go v.back)
  where
    go : (c : Bool) → EndBelow top (if c then record { from = record { 0 = y }; to = record { 0 = x }; span = v.span } ∷ [] else [])
    go true = (low, tt)
    go false = tt

pub leaf_low : (s k j top : ℕ) → j < k → s + k ≤ top → s + j < top
leaf_low s k j top less h = omega (arith, less, h)

from_below : (v : Move) (top k j x : ℕ) (ys : List ℕ) → j < k → x + j < top → AllRoom top k ys → EndBelow top (flat_map (λ y. edges_between v (x + j) (y + j)) ys)
from_below v top k j x [] less low h = tt
from_below v top k j x (y ∷ ys) less low h =
    ends_both top (edges_between v (x + j) (y + j)) (flat_map (λ z. edges_between v (x + j) (z + j)) ys) (between_below v top (x + j) (y + j) low (leaf_low y k j top less h.0)) (from_below v top k j x ys less low h.1)

leaf_below : (v : Move) (top k j : ℕ) (xs : List ℕ) → j < k → AllRoom top k xs → AllRoom top k v.to → EndBelow top (flat_map (edges_from v j) xs)
leaf_below v top k j [] less h to = tt
leaf_below v top k j (x ∷ xs) less h to =
    ends_both top (edges_from v j x) (flat_map (edges_from v j) xs) (from_below v top k j x v.to less (leaf_low x k j top less h.0) to) (leaf_below v top k j xs less h.1 to)

range_below : (top : ℕ) (make : ℕ → List Edge) (start n : ℕ) → ((j : ℕ) → j < start + n → EndBelow top (make j)) → EndBelow top (flat_map make (range_with_len start n))
range_below top make start zero h = tt
range_below top make start (suc n) h =
    ends_both top (make start) (flat_map make (range_with_len (start + 1) n)) (h start (omega arith)) (range_below top make (start + 1) n (λ j less. h j (omega (arith, less))))

filter_room : (top k : ℕ) (test : ℕ → Bool) (xs : List ℕ) → AllRoom top k xs → AllRoom top k (filter test xs)
filter_room top k test [] h = tt
filter_room top k test (x ∷ xs) h = go (test x) (filter_room top k test xs h.1)
  where
    go : (c : Bool) → AllRoom top k (filter test xs) → AllRoom top k (cond c (x ∷ filter test xs) (filter test xs))
    go true rest = (h.0, rest)
    go false rest = rest

pub once_room : (top k : ℕ) (xs : List ℕ) → AllRoom top k xs → AllRoom top k (first_of_each xs)
once_room top k [] h = tt
once_room top k (x ∷ xs) h = (h.0, filter_room top k (λ y. not (nat_eq y x)) (first_of_each xs) (once_room top k xs h.1))

move_closed : (b : Bench) (top : ℕ) (e : src.ExprTree) (ys : List ℕ) → AllRoom top (count b (ty_of e)) (carried (seen b) e) → AllRoom top (count b (ty_of e)) ys → Loose top b.marks (move_edges (moved_to (seen b) e ys)) → AreClosed b.marks (move_edges (moved_to (seen b) e ys))
move_closed b top e ys from to h =
    let v = moved_to (seen b) e ys in
    tight top b.marks (move_edges v) h
    (range_below top (leaf_edges v) 0 v.leaves (λ j less. leaf_below v top (count b (ty_of e)) j v.from (omega (arith, less)) (once_room top (count b (ty_of e)) (carried (seen b) e) from) (once_room top (count b (ty_of e)) ys to)))

-- ---- what comes back secret

tight_all : (top : ℕ) (m : ℕ → Bool) (xs : List ℕ) → LooseAll top m xs → AllRoom top 1 xs → list_all m xs ≡ true
tight_all top m [] h k = refl
tight_all top m (x ∷ xs) h k = both_hold (m x) (list_all m xs) (h.0 (let a = k.0 in omega (arith, a))) (tight_all top m xs h.1 k.1)

-- leaves below a number
abbrev LeavesBelow : ℕ → List ℕ → Type 0
LeavesBelow k [] = Unit {0}
LeavesBelow k (j ∷ js) = (j < k) × LeavesBelow k js

chosen_below : (k : ℕ) (test : ℕ → Bool) (start n : ℕ) → start + n ≤ k → LeavesBelow k (filter test (range_with_len start n))
chosen_below k test start zero h = tt
chosen_below k test start (suc n) h = go (test start) (chosen_below k test (start + 1) n (omega (arith, h)))
  where
    go : (c : Bool) → LeavesBelow k (filter test (range_with_len (start + 1) n)) → LeavesBelow k (cond c (start ∷ filter test (range_with_len (start + 1) n)) (filter test (range_with_len (start + 1) n)))
    go true rest = (omega (arith, h), rest)
    go false rest = rest

leaves_room : (top k x : ℕ) (js : List ℕ) → x + k ≤ top → LeavesBelow k js → AllRoom top 1 (map (λ j. x + j) js)
leaves_room top k x [] low h = tt
leaves_room top k x (j ∷ js) low h = (let a = h.0 in omega (arith, a, low), leaves_room top k x js low h.1)

room_joined : (top : ℕ) (xs ys : List ℕ) → AllRoom top 1 xs → AllRoom top 1 ys → AllRoom top 1 (xs ++ ys)
room_joined top [] ys h k = k
room_joined top (x ∷ xs) ys h k = (h.0, room_joined top xs ys h.1 k)

behind_room : (top k : ℕ) (js xs : List ℕ) → LeavesBelow k js → AllRoom top k xs → AllRoom top 1 (flat_map (λ x. map (λ j. x + j) js) xs)
behind_room top k js [] low h = tt
behind_room top k js (x ∷ xs) low h = room_joined top (map (λ j. x + j) js) (flat_map (λ y. map (λ j. y + j) js) xs) (leaves_room top k x js h.0 low) (behind_room top k js xs low h.1)

-- ---- arguments

-- the variable of a parameter
lead_at : (ps : List Param) (xs : List Var) (k : ℕ) (q : Param) → params_lead ps xs ≡ true → slice_get ps k ≡ Some q → (y : Var) × (slice_get xs k ≡ Some y) × (param_type q.kind ≡ y.ty)
lead_at [] xs k q h is = cc
lead_at (p ∷ ps) [] k q h is = false_not_true h
lead_at (p ∷ ps) (x ∷ xs) zero q h is =
    (x, refl, ap (λ (z : Param). param_type z.kind) (sym (same p q is)) ∙ equal_types (param_type p.kind) x.ty (both_hold_first (same_type (param_type p.kind) x.ty) (same_bool p.marked x.marked) (both_hold_first (same_type (param_type p.kind) x.ty && same_bool p.marked x.marked) (params_lead ps xs) h)))
  where
    same : (p q : Param) → Some p ≡ Some q → p ≡ q
    same p q e = cc
lead_at (p ∷ ps) (x ∷ xs) (suc k) q h is = lead_at ps xs k q (both_hold_second (same_type (param_type p.kind) x.ty && same_bool p.marked x.marked) (params_lead ps xs) h) is

-- what is passed to has a function
record Callee (t : TypedTree) (g k : ℕ) (o : Option VarTy) : Type 0 where
  function : FunctionTree
  param : Param
  is : slice_get t.functions g ≡ Some function
  at : slice_get function.signature.params k ≡ Some param
  same : o ≡ Some (param_type param.kind)

callee_of : (t : TypedTree) (f : FunctionTree) (g : FnId) (k : ℕ) (o : Option VarTy) → Passes (names_in t f) g k o → Callee t g.0 k o
callee_of t f g k o h = go (slice_get t.functions g.0) refl (sym (get_map (λ (x : FunctionTree). x.signature) t.functions g.0) ∙ h.is)
  where
    same : (a c : Signature) → Some a ≡ Some c → a ≡ c
    same a c e = cc

    go : (x : Option FunctionTree) → slice_get t.functions g.0 ≡ x → option_map (λ (z : FunctionTree). z.signature) x ≡ Some h.signature → Callee t g.0 k o
    go None is e = cc
    go (Some y) is e = record { function = y; param = h.param; is = is; at = subst (λ (z : Signature). slice_get z.params k ≡ Some h.param) (sym (same y.signature h.signature e)) h.at; same = h.same }

-- the object of a parameter has its type
param_object : (t : TypedTree) (g k : ℕ) (o : Option VarTy) (x : Object) → Facts t → Callee t g k o → slice_get (variable_objects t g) k ≡ Some x → o ≡ Some x.ty
param_object t g k o x facts c at =
    let one = all_true_at (function_sound t) t.functions g c.function facts.functions c.is in
    let lead = both_hold_second (nat_le (length c.function.signature.params) 8) (params_lead c.function.signature.params c.function.vars)
    (both_hold_first (nat_le (length c.function.signature.params) 8 && params_lead c.function.signature.params c.function.vars) (list_all (variable_sound t.structs) c.function.vars && body_sound t c.function c.function.body) one) in
    let y = lead_at c.function.signature.params c.function.vars k c.param lead c.at in
    let typed_at : slice_get (option_map_or variable_types (Some c.function) []) k ≡ Some x.ty = subst (λ z. slice_get (option_map_or variable_types z []) k ≡ Some x.ty) c.is (object_type (leaf_count t.structs) (get_or (function_starts t) g 0) (option_map_or variable_types (slice_get t.functions g) []) k x at) in
    let here : Some y.0.ty ≡ Some x.ty = sym (get_map (λ (z : Var). z.ty) c.function.vars k ∙ ap (option_map (λ (z : Var). z.ty)) y.1) ∙ typed_at in
    c.same ∙ ap Some y.2 ∙ here

pub integer_param : (ps : List Param) (k : ℕ) (q : Param) → list_all is_integer_param ps ≡ true → slice_get ps k ≡ Some q → is_integer_kind q.kind ≡ true
integer_param [] k q h is = cc
integer_param (p ∷ ps) zero q h is = subst (λ (z : Param). is_integer_kind z.kind ≡ true) (same p q is) (both_hold_first (is_integer_kind p.kind) (list_all is_integer_param ps) h)
  where
    same : (p q : Param) → Some p ≡ Some q → p ≡ q
    same p q e = cc
integer_param (p ∷ ps) (suc k) q h is = integer_param ps k q (both_hold_second (is_integer_kind p.kind) (list_all is_integer_param ps) h) is

integer_leaves : (t : TypedTree) (k : ParamKind) → is_integer_kind k ≡ true → leaf_count t.structs (param_type k) ≡ 1
integer_leaves t (kind.Int i) h = int_leaf t.structs i
integer_leaves t (kind.Ptr elem fixed) h = false_not_true h

-- a mixed host takes integers
mixed_leaves : (t : TypedTree) (g k : ℕ) (o : Option VarTy) → Facts t → Callee t g k o → is_none (option_map_or (λ (x : FunctionTree). x.body) (slice_get t.functions g) None) ≡ true → value_count (leaf_count t.structs) o ≡ 1
mixed_leaves t g k o facts c none = go c.function.body refl
  where
    one : body_sound t c.function c.function.body ≡ true
    one = both_hold_second (list_all (variable_sound t.structs) c.function.vars) (body_sound t c.function c.function.body)
        (both_hold_second (nat_le (length c.function.signature.params) 8 && params_lead c.function.signature.params c.function.vars) (list_all (variable_sound t.structs) c.function.vars && body_sound t c.function c.function.body)
        (all_true_at (function_sound t) t.functions g c.function facts.functions c.is))

    go : (x : Option BodyTree) → c.function.body ≡ x → value_count (leaf_count t.structs) o ≡ 1
    go None is =
        let host : body_sound t c.function None ≡ true = subst (λ z. body_sound t c.function z ≡ true) is one in
        let all = both_hold_first (list_all is_integer_param c.function.signature.params) (nat_eq (length c.function.vars) (length c.function.signature.params)) (both_hold_second c.function.signature.host (list_all is_integer_param c.function.signature.params && nat_eq (length c.function.vars) (length c.function.signature.params)) host) in
        ap (value_count (leaf_count t.structs)) c.same ∙ integer_leaves t c.param.kind (integer_param c.function.signature.params k c.param all c.at)
    go (Some b) is = false_not_true (sym (ap is_none is) ∙ subst (λ z. is_none (option_map_or (λ (x : FunctionTree). x.body) z None) ≡ true) c.is none)

passed_room : (t : TypedTree) (g : FnId) (k : ℕ) (o : Option VarTy) → Facts t → Callee t g.0 k o → AllRoom (top_of t) (value_count (leaf_count t.structs) o) (passed_slots t g k)
passed_room t g k o facts c = go (test_function is_plain t g)
  where
    own : (x : Option Object) → slice_get (variable_objects t g.0) k ≡ x → AllRoom (top_of t) (value_count (leaf_count t.structs) o) (start_of x)
    own None is = tt
    own (Some x) is = (subst (λ z. x.start + value_count (leaf_count t.structs) z ≤ top_of t) (sym (param_object t g.0 k o x facts c is)) (variable_within t g.0 k x is), tt)

    result : (x : Option FunctionTree) → slice_get t.functions g.0 ≡ x → (d : Bool) → option_map_or (λ f. mixes f k) x false ≡ d → AllRoom (top_of t) (value_count (leaf_count t.structs) o) (if d then (result_start t + g.0) ∷ [] else [])
    result x is false e = tt
    result None is true e = false_not_true e
    result (Some f) is true e =
        let none = both_hold_first (is_none f.body) (not f.signature.privileged) (both_hold_first (is_none f.body && not f.signature.privileged) (is_some f.signature.result && option_map_or (λ (p : Param). p.marked) (slice_get f.signature.params k) false) e) in
        let one = mixed_leaves t g.0 k o facts c (subst (λ z. is_none (option_map_or (λ (x : FunctionTree). x.body) z None) ≡ true) (sym is) none) in
        let low = result_within t g.0 (get_below_length t.functions g.0 f is) in
        (omega (arith, one, low), tt)

    go : (d : Bool) → AllRoom (top_of t) (value_count (leaf_count t.structs) o) (if d then start_of (slice_get (variable_objects t g.0) k) else (if option_map_or (λ f. mixes f k) (function_at t g) false then (result_start t + g.0) ∷ [] else []))
    go true = own (slice_get (variable_objects t g.0) k) refl
    go false = result (slice_get t.functions g.0) refl (option_map_or (λ f. mixes f k) (function_at t g) false) refl

sealed_room : (t : TypedTree) (n : ℕ) (g : FnId) (k : ℕ) (e : src.ExprTree) → Facts t → Callee t g.0 k (ty_of e) → AllRoom (top_of t) (value_count (leaf_count t.structs) (ty_of e)) (carried (scope_of t n) e) → AllRoom (top_of t) 1 (usage_sealed t (function_id n) (Passed g k) e)
sealed_room t n g k e facts c room = go (gives_back (function_at t g) k)
  where
    object : (x : Option Object) → slice_get (variable_objects t g.0) k ≡ x → AllRoom (top_of t) 1 (sealed_behind t g k x (carried (scope_of t n) e))
    object None is = tt
    object (Some x) is =
        behind_room (top_of t) (leaf_count t.structs x.ty) (sealed_leaves t g k x) (carried (scope_of t n) e) (chosen_below (leaf_count t.structs x.ty) (is_sealed_leaf t g k x) 0 (leaf_count t.structs x.ty) (omega arith))
        (subst (λ z. AllRoom (top_of t) (value_count (leaf_count t.structs) z) (carried (scope_of t n) e)) (param_object t g.0 k (ty_of e) x facts c is) room)

    go : (d : Bool) → AllRoom (top_of t) 1 (if d then sealed_behind t g k (slice_get (variable_objects t g.0) k) (carried (scope_of t n) e) else [])
    go true = object (slice_get (variable_objects t g.0) k) refl
    go false = tt

-- ---- each usage

-- what the laws on what bodies evaluate ask for
record IsTight (t : TypedTree) (a : Accepted) (n : ℕ) (u : UsageTree) : Type 0 where
  found : usage_findings (flows_of t a.sides a.marks) (function_id n) u ≡ []
  closed : AreClosed (marks_of t a) (usage_edges t n u)
  sealed : list_all (marks_of t a) (usage_sealed t (function_id n) u.how u.value) ≡ true

assigned_closed : (form : FormTree) (t : TypedTree) (a : Accepted) (n : ℕ) (f : FunctionTree) (temps : List Temp) (ty : Option VarTy) → let b = bench t a n f temps in Fits b → Rooms (top_of t) b → form_fits b.w.names form ty ≡ true →
    Loose (top_of t) (marks_of t a) (assigned_edges (scope_of t n) form) → AreClosed (marks_of t a) (assigned_edges (scope_of t n) form)
assigned_closed (src.assign p e) t a n f temps ty g rooms h loose =
    let b = bench t a n f temps in
    let o = assign_rules b.w.names p e ty h in
    move_closed b (top_of t) e (place_slots (seen b) p) (carried_room e b (top_of t) g rooms o.right)
    (subst (λ z. AllRoom (top_of t) (count b z) (place_slots (seen b) p)) (sym o.same) (place_room p b (top_of t) o.type g rooms o.fits o.place)) loose
assigned_closed (src.constant v) t a n f temps ty g rooms h loose = tt
assigned_closed src.null t a n f temps ty g rooms h loose = tt
assigned_closed (src.read p) t a n f temps ty g rooms h loose = tt
assigned_closed (src.decay p) t a n f temps ty g rooms h loose = tt
assigned_closed (src.address p) t a n f temps ty g rooms h loose = tt
assigned_closed (src.unary op e) t a n f temps ty g rooms h loose = tt
assigned_closed (src.convert e) t a n f temps ty g rooms h loose = tt
assigned_closed (src.discard e) t a n f temps ty g rooms h loose = tt
assigned_closed (src.chain e ls) t a n f temps ty g rooms h loose = tt
assigned_closed (src.logical op e os) t a n f temps ty g rooms h loose = tt
assigned_closed (src.choice e c d) t a n f temps ty g rooms h loose = tt
assigned_closed (src.compound p at op e) t a n f temps ty g rooms h loose = tt
assigned_closed (src.step p at back postfix) t a n f temps ty g rooms h loose = tt
assigned_closed (src.call c arguments) t a n f temps ty g rooms h loose = tt

form_closed : (e : src.ExprTree) (t : TypedTree) (a : Accepted) (n : ℕ) (f : FunctionTree) (temps : List Temp) → let b = bench t a n f temps in Fits b → Rooms (top_of t) b → is_typed b.w.names e ≡ true →
    Loose (top_of t) (marks_of t a) (form_edges (scope_of t n) e) → AreClosed (marks_of t a) (form_edges (scope_of t n) e)
form_closed (typed s ty form) t a n f temps g rooms h loose = assigned_closed form t a n f temps ty g rooms h loose

-- with room for its targets and for what comes back secret
usage_tight : (t : TypedTree) (a : Accepted) (n : ℕ) (f : FunctionTree) (temps : List Temp) (u : UsageTree) → let b = bench t a n f temps in Fits b → Rooms (top_of t) b → is_typed b.w.names u.value ≡ true → IsKnown t a n u →
    AllRoom (top_of t) (count b (ty_of u.value)) (target_slots t n u.how (ty_of u.value)) → AllRoom (top_of t) 1 (usage_sealed t (function_id n) u.how u.value) → IsTight t a n u
usage_tight t a n f temps u g rooms h known targets room =
    let b = bench t a n f temps in
    let forms = form_edges (scope_of t n) u.value in
    let moves = move_edges (moved_to (scope_of t n) u.value (target_slots t n u.how (ty_of u.value))) in
    record {
      found = known.found;
      closed = closed_both (marks_of t a) forms moves (form_closed u.value t a n f temps g rooms h (loose_first (top_of t) (marks_of t a) forms moves known.edges))
          (move_closed b (top_of t) u.value (target_slots t n u.how (ty_of u.value)) (carried_room u.value b (top_of t) g rooms h) targets (loose_rest (top_of t) (marks_of t a) forms moves known.edges));
      sealed = tight_all (top_of t) (marks_of t a) (usage_sealed t (function_id n) u.how u.value) known.sealed room;
    }

-- a part of an expression
pub inner_targets : (how : How) (t : TypedTree) (n : ℕ) (f : FunctionTree) (o : Option VarTy) → Facts t → IsInner how → ((g : FnId) (k : ℕ) → how ≡ Passed g k → Passes (names_in t f) g k o) → AllRoom (top_of t) (value_count (leaf_count t.structs) o) (target_slots t n how o)
inner_targets Kept t n f o facts inner passes = tt
inner_targets Operated t n f o facts inner passes = tt
inner_targets (Passed g k) t n f o facts inner passes = passed_room t g k o facts (callee_of t f g k o (passes g k refl))
inner_targets (Begins v k) t n f o facts inner passes = false_not_true inner
inner_targets Returned t n f o facts inner passes = false_not_true inner

inner_sealed : (how : How) (t : TypedTree) (n : ℕ) (f : FunctionTree) (e : src.ExprTree) → Facts t → IsInner how → ((g : FnId) (k : ℕ) → how ≡ Passed g k → Passes (names_in t f) g k (ty_of e)) →
    AllRoom (top_of t) (value_count (leaf_count t.structs) (ty_of e)) (carried (scope_of t n) e) → AllRoom (top_of t) 1 (usage_sealed t (function_id n) how e)
inner_sealed Kept t n f e facts inner passes room = tt
inner_sealed Operated t n f e facts inner passes room = tt
inner_sealed (Passed g k) t n f e facts inner passes room = sealed_room t n g k e facts (callee_of t f g k (ty_of e) (passes g k refl)) room
inner_sealed (Begins v k) t n f e facts inner passes room = false_not_true inner
inner_sealed Returned t n f e facts inner passes room = false_not_true inner

inner_tight : (t : TypedTree) (a : Accepted) (n : ℕ) (f : FunctionTree) (temps : List Temp) (us : List UsageTree) → let b = bench t a n f temps in Facts t → Fits b → Rooms (top_of t) b → AllByRecursion (IsKnown t a n) us → AllByRecursion (IsRight (names_in t f)) us → AllByRecursion (IsTight t a n) us
inner_tight t a n f temps [] facts g rooms known right = tt
inner_tight t a n f temps (u ∷ us) facts g rooms known right =
    let b = bench t a n f temps in (
      usage_tight t a n f temps u g rooms right.0.typed known.0 (inner_targets u.how t n f (ty_of u.value) facts right.0.inner right.0.passes)
          (inner_sealed u.how t n f u.value facts right.0.inner right.0.passes (carried_room u.value b (top_of t) g rooms right.0.typed)),
      inner_tight t a n f temps us facts g rooms known.1 right.1,
    )

-- an outermost expression
pub outer_targets : (how : How) (t : TypedTree) (a : Accepted) (n : ℕ) (f : FunctionTree) (temps : List Temp) (o : Option VarTy) → let b = bench t a n f temps in NoArgument how → AllRoom (top_of t) (count b o) (outer_slots b how o) → AllRoom (top_of t) (count b o) (target_slots t n how o)
outer_targets Kept t a n f temps o free room = tt
outer_targets Operated t a n f temps o free room = tt
outer_targets (Passed g k) t a n f temps o free room = false_not_true (free g k refl)
outer_targets (Begins v k) t a n f temps o free room = room
outer_targets Returned t a n f temps o free room = room

outer_sealed : (how : How) (t : TypedTree) (n : ℕ) (e : src.ExprTree) → NoArgument how → AllRoom (top_of t) 1 (usage_sealed t (function_id n) how e)
outer_sealed Kept t n e free = tt
outer_sealed Operated t n e free = tt
outer_sealed (Passed g k) t n e free = false_not_true (free g k refl)
outer_sealed (Begins v k) t n e free = tt
outer_sealed Returned t n e free = tt

-- ---- what is asked for

tight_both : (t : TypedTree) (a : Accepted) (n : ℕ) (us vs : List UsageTree) → AllByRecursion (IsTight t a n) us → AllByRecursion (IsTight t a n) vs → AllByRecursion (IsTight t a n) (us ++ vs)
tight_both t a n [] vs h k = k
tight_both t a n (u ∷ us) vs h k = (h.0, tight_both t a n us vs h.1 k)

all_found : (t : TypedTree) (a : Accepted) (n : ℕ) (us : List UsageTree) → AllByRecursion (IsTight t a n) us → flat_map (usage_findings (flows_of t a.sides a.marks) (function_id n)) us ≡ []
all_found t a n [] h = refl
all_found t a n (u ∷ us) h = ap (λ xs. xs ++ flat_map (usage_findings (flows_of t a.sides a.marks) (function_id n)) us) h.0.found ∙ all_found t a n us h.1

all_closed : (t : TypedTree) (a : Accepted) (n : ℕ) (us : List UsageTree) → AllByRecursion (IsTight t a n) us → AreClosed (marks_of t a) (flat_map (usage_edges t n) us)
all_closed t a n [] h = tt
all_closed t a n (u ∷ us) h = closed_both (marks_of t a) (usage_edges t n u) (flat_map (usage_edges t n) us) h.0.closed (all_closed t a n us h.1)

all_sealed : (t : TypedTree) (a : Accepted) (n : ℕ) (us : List UsageTree) → AllByRecursion (IsTight t a n) us → list_all (marks_of t a) (flat_map (λ (u : UsageTree). usage_sealed t (function_id n) u.how u.value) us) ≡ true
all_sealed t a n [] h = refl
all_sealed t a n (u ∷ us) h = all_true_numbers_append (marks_of t a) (usage_sealed t (function_id n) u.how u.value) (flat_map (λ (z : UsageTree). usage_sealed t (function_id n) z.how z.value) us) h.0.sealed (all_sealed t a n us h.1)

-- an outermost expression is quiet, where there is room for what it moves to
pub known_quiet : (e : src.ExprTree) (how : How) (t : TypedTree) (a : Accepted) (n : ℕ) (f : FunctionTree) (temps : List Temp) → let b = bench t a n f temps in Facts t → Fits b → Rooms (top_of t) b → Looks (flows_of t a.sides a.marks) (function_id n) b → NoArgument how → is_typed b.w.names e ≡ true →
    AllByRecursion (IsKnown t a n) (evaluated how e) → AllRoom (top_of t) (count b (ty_of e)) (outer_slots b how (ty_of e)) → Quiet b (evaluated how e)
known_quiet (typed s ty form) how t a n f temps facts g rooms looks free h known room =
    let b = bench t a n f temps in
    let e = typed s ty form in
    let inner = form_usages ty form in
    let last = used_rest (IsKnown t a n) inner (used how e ∷ []) known in
    let all = tight_both t a n inner (used how e ∷ []) (inner_tight t a n f temps inner facts g rooms (used_first (IsKnown t a n) inner (used how e ∷ []) known) (form_right form ty b.w.names h))
    (usage_tight t a n f temps (used how e) g rooms h last.0 (outer_targets how t a n f temps ty free room) (outer_sealed how t n e free), tt) in
    usages_are_quiet (flows_of t a.sides a.marks) (function_id n) b (evaluated how e) looks (all_found t a n (evaluated how e) all) (all_closed t a n (evaluated how e) all) (all_sealed t a n (evaluated how e) all)
