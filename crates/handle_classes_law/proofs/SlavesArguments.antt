-- Arguments may go to their parameters: to variables of the slave's own functions, into privileged functions, and to
-- hosts of the slave.
use Rattle.std.proofs.Common.{◌≡◌, ◌∙◌, ◌<◌, ℕ, zero, suc, ◌+◌, ◌-◌, refl, ap, sym, subst, arith, Bool, true, false, Option, None, Some, List, [], ◌∷◌, length, map, if◌then◌else◌}
use Rattle.std.specs.Prelude.{get_or, is_none, is_some, nat_eq, nat_le, nat_lt, not, slice_get, ◌&&◌, ◌||◌}
use Rattle.std.proofs.lemmas.Bool.Decides.{nat_tests}
use Rattle.std.specs.List.{filter, flat_map, list_all, list_any, range_with_len}
use Rattle.std.specs.Option.{option_map, option_map_or}
use Rattle.flow_edges.specs.Edges.{mixes, moved_to, passed_slots, span_of}
use Rattle.flow_edges.specs.Moves.{move_edges}
use Rattle.flow_rules.specs.Findings.{found, function_is, is_slave_host, is_unmarked_param, priv_to_host, priv_to_plain_param}
use Rattle.flow_rules.specs.Secrets.{Flows, secret_slots, secrets_of, unmarked_leaves}
use Rattle.flow_rules.specs.declared.rule.Rule.TheVariants.{PrivToHost, PrivToPlainParam}
use Rattle.handle_classes.specs.Classes.{Class, World, integer_class}
use Rattle.handle_classes.specs.Judgment as may
use Rattle.lowered_code_law.proofs.FormsPlaces.{variable_known}
use Rattle.lowered_code_law.proofs.FormsRules.{type_is}
use Rattle.lowered_code_law.proofs.FormsSteps.{one_type}
use Rattle.lowered_code_law.proofs.FormLemmas.{param_scalar}
use Rattle.handle_classes_law.specs.ObjectsCells.{class_at, is_pointer, leaf_under}
use Rattle.pt_base.specs.declared.ids.FnId.{FnId}
use Rattle.pt_base.specs.declared.int_type.IntType.{IntType}
use Rattle.pt_base.specs.declared.int_type.IntType.TheVariants as i
use Rattle.pt_base.proofs.Booleans.{both_hold, both_hold_first, both_hold_second, false_not_true}
use Rattle.pt_base.proofs.Members.{all_true_at}
use Rattle.pt_tree.specs.declared.signature.Param.{Param}
use Rattle.pt_tree.specs.declared.signature.ParamKind.{ParamKind}
use Rattle.pt_tree.specs.declared.signature.ParamKind.TheVariants as kind
use Rattle.pt_tree.specs.declared.signature.Signature.{Signature}
use Rattle.sides.specs.Carried.{Scope, carried, scope_of, start_of}
use Rattle.reach.specs.Contexts.{is_plain, test_function}
use Rattle.sides.specs.Leaves.{leaf_count, leaves_of, whole}
use Rattle.sides.specs.Objects.{function_starts, objects_from, result_start, variable_objects, variable_types}
use Rattle.sides.specs.Seeds.{gives_back, is_sealed_leaf, sealed_behind, sealed_leaves, usage_sealed}
use Rattle.sides.specs.declared.objects.Object.{Object}
use Rattle.usages.specs.declared.usage.How.TheVariants.{Passed}
use Rattle.source_meaning.specs.Expressions.{type_of}
use Rattle.typed_tree.proofs.SameTypes.{equal_types}
use Rattle.typed_tree.specs.ExpressionTree as src
use Rattle.typed_tree.specs.Lookup.{function_at}
use Rattle.typed_tree.specs.Sizes.{cells_by, sizes_of}
use Rattle.typed_tree.specs.StatementTree.{BodyTree}
use Rattle.typed_tree.specs.TypeTests.{is_scalar, same_bool, same_type, type_of_elem}
use Rattle.typed_tree.specs.TypedTree.{FunctionTree, TypedTree}
use Rattle.typed_tree.specs.WellFormed.{body_sound, function_sound, is_integer_kind, is_integer_param, is_small, is_variable_type, params_lead, structs_sound, variable_sound}
use Rattle.typed_tree.specs.WellFormedExpression.{param_type, ty_of}
use Rattle.typed_tree.specs.declared.types.VarTy.{VarTy}
use Rattle.typed_tree.specs.declared.types.VarTy.TheVariants.{Array, Int, Pointer, Struct}
use Rattle.typed_tree.specs.declared.variable.Var.{Var}
use Rattle.handle_classes_law.proofs.SlavesBench.{Bench, PlainIf, at_slots, seen}
use Rattle.handle_classes_law.proofs.SlavesClasses.{IsBy, at_same}
use Rattle.handle_classes_law.proofs.SlavesEdges.{AreClosed, Moves}
use Rattle.handle_classes_law.proofs.SlavesFindings.{Looks, all_first, all_rest, has, in_filter, in_map, in_range, none_marked, not_found, operated_quiet}
use Rattle.handle_classes_law.proofs.SlavesMoves.{forward, one_flows, own_leaf, value_goes}
use Rattle.handle_classes_law.proofs.SlavesQuiet.{MayPass, class_here}
use Rattle.handle_classes_law.specs.SlavesMarked.{entry_by, entry_class, held_class, host_class, nothing_class, object_class, param_in, temps_of, variable_class, variable_in}

-- ---- where arguments go

-- a parameter is a variable of its type
pub param_lies : (ps : List Param) (xs : List Var) (k : ℕ) (q : Param) → params_lead ps xs ≡ true → slice_get ps k ≡ Some q → option_map (λ (y : Var). y.ty) (slice_get xs k) ≡ Some (param_type q.kind)
param_lies [] xs k q h is = cc
param_lies (p ∷ ps) [] k q h is = false_not_true h
param_lies (p ∷ ps) (x ∷ xs) zero q h is = subst (λ z. Some x.ty ≡ Some (param_type z.kind)) (same p q is) (ap Some (sym (equal_types (param_type p.kind) x.ty (both_hold_first (same_type (param_type p.kind) x.ty) (same_bool p.marked x.marked) (both_hold_first (same_type (param_type p.kind) x.ty && same_bool p.marked x.marked) (params_lead ps xs) h)))))
  where
    same : (a c : Param) → Some a ≡ Some c → a ≡ c
    same a c e = cc
param_lies (p ∷ ps) (x ∷ xs) (suc k) q h is = param_lies ps xs k q (both_hold_second (same_type (param_type p.kind) x.ty && same_bool p.marked x.marked) (params_lead ps xs) h) is

pub object_lies : (count : VarTy → ℕ) (start : ℕ) (xs : List Var) (k : ℕ) (ty : VarTy) → option_map (λ (y : Var). y.ty) (slice_get xs k) ≡ Some ty → (s : ℕ) × (slice_get (objects_from count start (map (λ (y : Var). y.ty) xs)) k ≡ Some (record { ty = ty; start = s }))
object_lies count start [] k ty h = cc
object_lies count start (x ∷ xs) zero ty h = (start, ap (λ z. Some (record { ty = z; start = start })) (one_type x.ty ty h))
object_lies count start (x ∷ xs) (suc k) ty h = object_lies count (start + count x.ty) xs k ty h

pub lies_below : (xs : List Var) (k : ℕ) (ty : VarTy) → option_map (λ (y : Var). y.ty) (slice_get xs k) ≡ Some ty → nat_lt k (length xs) ≡ true
lies_below [] k ty h = cc
lies_below (x ∷ xs) zero ty h = grind (arith, nat_tests)
lies_below (x ∷ xs) (suc k) ty h = let rest = lies_below xs k ty h in grind (arith, nat_tests, rest)

-- the function that is called, and the parameter
pub record Callee (t : TypedTree) (g k : ℕ) (q : Param) : Type 0 where
  pub tree : FunctionTree
  pub at : slice_get t.functions g ≡ Some tree
  pub param : slice_get tree.signature.params k ≡ Some q
  pub sound : function_sound t tree ≡ true

pub callee_is : (p : Flows) (f : FnId) (b : Bench) (g k : ℕ) (x : Signature) (q : Param) → Looks p f b → b.w.called g ≡ Some x → slice_get x.params k ≡ Some q → Callee p.tree g k q
callee_is p f b g k x q looks called is = go (slice_get p.tree.functions g) refl (sym (looks.calls g) ∙ called)
  where
    same : (a c : Signature) → Some a ≡ Some c → a ≡ c
    same a c e = cc

    go : (o : Option FunctionTree) → slice_get p.tree.functions g ≡ o → option_map (λ (y : FunctionTree). y.signature) o ≡ Some x → Callee p.tree g k q
    go None e h = cc
    go (Some y) e h = record { tree = y; at = e; param = subst (λ z. slice_get z.params k ≡ Some q) (sym (same y.signature x h)) is; sound = all_true_at (function_sound p.tree) p.tree.functions g y looks.functions e }

-- where the parameter's object begins
pub record ParamObject (t : TypedTree) (g k : ℕ) (q : Param) (xs : List Var) : Type 0 where
  pub start : ℕ
  pub object : slice_get (variable_objects t g) k ≡ Some (record { ty = param_type q.kind; start = start })
  pub below : nat_lt k (length xs) ≡ true
  pub known : is_variable_type (length t.structs) (param_type q.kind) ≡ true

pub param_object : (t : TypedTree) (g k : ℕ) (q : Param) → (c : Callee t g k q) → ParamObject t g k q c.tree.vars
param_object t g k q c =
    let lead = both_hold_second (nat_le (length c.tree.signature.params) 8) (params_lead c.tree.signature.params c.tree.vars) (both_hold_first (nat_le (length c.tree.signature.params) 8 && params_lead c.tree.signature.params c.tree.vars) (list_all (variable_sound t.structs) c.tree.vars && body_sound t c.tree c.tree.body) c.sound) in
    let vars = both_hold_first (list_all (variable_sound t.structs) c.tree.vars) (body_sound t c.tree c.tree.body) (both_hold_second (nat_le (length c.tree.signature.params) 8 && params_lead c.tree.signature.params c.tree.vars) (list_all (variable_sound t.structs) c.tree.vars && body_sound t c.tree c.tree.body) c.sound) in
    let lies = param_lies c.tree.signature.params c.tree.vars k q lead c.param in
    let o = object_lies (leaf_count t.structs) (get_or (function_starts t) g 0) c.tree.vars k (param_type q.kind) lies in
    record {
      start = o.0;
      object = subst (λ z. slice_get (objects_from (leaf_count t.structs) (get_or (function_starts t) g 0) (option_map_or variable_types z [])) k ≡ Some (record { ty = param_type q.kind; start = o.0 })) (sym c.at) o.1;
      below = lies_below c.tree.vars k (param_type q.kind) lies;
      known = both_hold_first (is_variable_type (length t.structs) (param_type q.kind)) (is_small t.structs (param_type q.kind)) (variable_known t.structs c.tree.vars k (param_type q.kind) vars lies);
    }

-- the structs are the bench's
pub same_structs : (p : Flows) (f : FnId) (b : Bench) → Looks p f b → p.tree.structs ≡ b.w.names.structs
same_structs p f b looks = ap (λ (z : Scope). z.structs) looks.scope

-- of the argument's class, by the parameter's type
pub arrives : (b : Bench) (a : src.ExprTree) (ty : VarTy) (v : Class) → ty_of a ≡ Some ty → IsBy v (class_here b a) → IsBy v (at_slots b ty (carried (seen b) a))
arrives b a ty v is by = subst (λ z. IsBy v (at_slots b z (carried (seen b) a))) (type_is a ty is) by

-- a function of the slave takes it into its variable
pub own_passes : (p : Flows) (f : FnId) (b : Bench) (g : FnId) (k : ℕ) (q : Param) (a : src.ExprTree) (c : Callee p.tree g.0 k q) → Looks p f b → is_plain c.tree ≡ true → ty_of a ≡ Some (param_type q.kind) → AreClosed b.marks (move_edges (moved_to (scope_of p.tree f.0) a (passed_slots p.tree g k))) → MayPass b g k a
own_passes p f b g k q a c looks plain is closed = λ v by. subst (λ z. may.Flows v z) (sym class) (one_flows b ty o.start v
    (value_goes b a ty (o.start ∷ []) v (at_slots b ty (o.start ∷ [])) (subst (λ z. structs_sound z 0 z ≡ true) structs looks.structs) (subst (λ z. is_variable_type (length z) ty ≡ true) structs o.known) (param_scalar q.kind) is (λ w. (o.start, refl)) moves (arrives b a ty v is by) (at_same (at_slots b ty (o.start ∷ [])))))
  where
    ty : VarTy
    ty = param_type q.kind

    structs : p.tree.structs ≡ b.w.names.structs
    structs = same_structs p f b looks

    o : ParamObject p.tree g.0 k q c.tree.vars
    o = param_object p.tree g.0 k q c

    test : test_function is_plain p.tree g ≡ true
    test = ap (λ z. option_map_or is_plain z false) c.at ∙ plain

    to : passed_slots p.tree g k ≡ o.start ∷ []
    to = ap (λ z. if z then start_of (slice_get (variable_objects p.tree g.0) k) else (if option_map_or (λ f. mixes f k) (function_at p.tree g) false then (result_start p.tree + g.0) ∷ [] else [])) test ∙ ap start_of o.object

    moves : Moves b a (o.start ∷ [])
    moves = subst (λ z. AreClosed b.marks (move_edges (moved_to z a (o.start ∷ [])))) looks.scope (subst (λ z. AreClosed b.marks (move_edges (moved_to (scope_of p.tree f.0) a z))) to closed)

    class : b.world.param g.0 k ≡ at_slots b ty (o.start ∷ [])
    class = ap (λ (w : World). w.param g.0 k) looks.world
        ∙ ap (λ z. option_map_or (λ x. param_in b.marks p.tree g.0 x k) z (integer_class false)) c.at
        ∙ ap (λ z. if z then variable_class b.marks p.tree g.0 k else option_map_or (λ y. if c.tree.signature.privileged then entry_class p.tree g.0 k y else host_class b.marks p.tree g.0 c.tree k y) (slice_get c.tree.signature.params k) (integer_class false)) plain
        ∙ ap (λ z. option_map_or (λ x. variable_in b.marks p.tree g.0 x k) z (nothing_class b.marks p.tree.structs (Int i.Int))) c.at
        ∙ ap (λ z. if z then object_class b.marks p.tree.structs (slice_get (variable_objects p.tree g.0) k) else option_map_or (held_class b.marks (scope_of p.tree g.0)) (slice_get (temps_of p.tree c.tree) (k - length c.tree.vars)) (nothing_class b.marks p.tree.structs (Int i.Int))) o.below
        ∙ ap (λ z. object_class b.marks p.tree.structs z) o.object
        ∙ ap (λ z. class_at b.marks z ty (o.start ∷ [])) structs

-- ---- privileged functions

pub entry_flows : (m : ℕ → Bool) (t : TypedTree) (g k : ℕ) (marked : Bool) (ty : VarTy) (starts : List ℕ) (v : Class) → structs_sound t.structs 0 t.structs ≡ true → is_variable_type (length t.structs) ty ≡ true → is_scalar (Some ty) ≡ true → IsBy v (class_at m t.structs ty starts) →
    (marked ≡ false → (j : ℕ) → j < leaf_count t.structs ty → (get_or (leaves_of t.structs ty) j whole).marked ≡ false → list_any (λ s. m (s + j)) starts ≡ false) →
    ((j : ℕ) → j < leaf_count t.structs ty → gives_back (slice_get t.functions g) k ≡ true → option_map_or (λ x. is_sealed_leaf t (record { 0 = g }) k x j) (slice_get (variable_objects t g) k) false ≡ true → list_all (λ s. m (s + j)) starts ≡ true) →
    may.Flows v (entry_by t g k marked ty)
unfolding leaves_of
entry_flows m t g k marked (Int u) starts v sound known scalar by clean back = record {
  kind = by.kind;
  first = λ no e. go marked refl (by.number refl e);
  size = λ p. false_not_true p;
  may = λ p n less e. false_not_true p;
  must = λ p n less e. false_not_true p;
}
  where
    go : (c : Bool) → marked ≡ c → list_any (λ s. m (s + 0)) starts ≡ true → (c || false) ≡ true
    go true is e = refl
    go false is e = false_not_true (sym (clean is 0 (omega arith) refl) ∙ e)
entry_flows m t g k marked (Pointer elem fixed) starts v sound known scalar by clean back = record {
  kind = by.kind;
  first = λ no e. false_not_true (sym no);
  size = λ p. by.size;
  may = λ p n less e. go n marked (get_or (leaves_of t.structs (Pointer elem fixed)) (leaf n) whole).marked refl refl (own n less) (sym (by.may refl n less) ∙ e);
  must = λ p n less e. by.must refl n less ∙ back (leaf n) (own n less) (both_hold_first (gives_back (slice_get t.functions g) k) (sealed n) e) (both_hold_second (gives_back (slice_get t.functions g) k) (sealed n) e);
}
  where
    leaf : ℕ → ℕ
    leaf n = leaf_under t.structs (type_of_elem elem) n

    sealed : ℕ → Bool
    sealed n = option_map_or (λ x. is_sealed_leaf t (record { 0 = g }) k x (leaf_under t.structs (type_of_elem elem) n)) (slice_get (variable_objects t g) k) false

    own : (n : ℕ) → n < cells_by (sizes_of t.structs) (type_of_elem elem) → leaf n < leaf_count t.structs (Pointer elem fixed)
    own n less = own_leaf t.structs (Pointer elem fixed) n sound known less

    go : (n : ℕ) (c d : Bool) → marked ≡ c → (get_or (leaves_of t.structs (Pointer elem fixed)) (leaf n) whole).marked ≡ d → leaf n < leaf_count t.structs (Pointer elem fixed) → list_any (λ s. m (s + leaf n)) starts ≡ true → (c || d) ≡ true
    go n true d is of less e = refl
    go n false true is of less e = refl
    go n false false is of less e = false_not_true (sym (clean is (leaf n) less of) ∙ e)
entry_flows m t g k marked (Struct n) starts v sound known scalar by clean back = false_not_true scalar
entry_flows m t g k marked (Array elem n) starts v sound known scalar by clean back = false_not_true scalar

-- the leaves of an argument that lie under no marked field
pub clean_leaves : (p : Flows) (f : FnId) (b : Bench) (g : FnId) (k : ℕ) (q : Param) (a : src.ExprTree) (c : Callee p.tree g.0 k q) → Looks p f b → c.tree.signature.privileged ≡ true → ty_of a ≡ Some (param_type q.kind) → priv_to_plain_param p f (Passed g k) a ≡ [] →
    q.marked ≡ false → (j : ℕ) → j < leaf_count p.tree.structs (param_type q.kind) → (get_or (leaves_of p.tree.structs (param_type q.kind)) j whole).marked ≡ false → list_any (λ s. b.marks (s + j)) (carried (seen b) a) ≡ false
clean_leaves p f b g k q a c looks privileged is h plain j less free = none_marked b.marks (carried (seen b) a) (unmarked_leaves p.tree.structs (Some (param_type q.kind))) j found_none member
  where
    unmarked : is_unmarked_param c.tree k ≡ true
    unmarked = ap (λ z. option_map_or (λ (y : Param). not y.marked) z false) c.param ∙ ap not plain

    test : function_is (λ x. x.signature.privileged && is_unmarked_param x k) p.tree g ≡ true
    test = ap (λ z. option_map_or (λ x. x.signature.privileged && is_unmarked_param x k) z false) c.at ∙ both_hold c.tree.signature.privileged (is_unmarked_param c.tree k) privileged unmarked

    none : secret_slots p (carried (scope_of p.tree f.0) a) (unmarked_leaves p.tree.structs (ty_of a)) ≡ []
    none = not_found PrivToPlainParam (span_of a) (secret_slots p (carried (scope_of p.tree f.0) a) (unmarked_leaves p.tree.structs (ty_of a)))
        (subst (λ z. (if z then found PrivToPlainParam (span_of a) (secret_slots p (carried (scope_of p.tree f.0) a) (unmarked_leaves p.tree.structs (ty_of a))) else []) ≡ []) test h)

    found_none : filter b.marks (flat_map (λ s. map (λ i. s + i) (unmarked_leaves p.tree.structs (Some (param_type q.kind)))) (carried (seen b) a)) ≡ []
    found_none = subst (λ z. filter z (flat_map (λ s. map (λ i. s + i) (unmarked_leaves p.tree.structs (Some (param_type q.kind)))) (carried (seen b) a)) ≡ []) looks.marks
        (subst (λ z. filter p.is_priv (flat_map (λ s. map (λ i. s + i) (unmarked_leaves p.tree.structs (Some (param_type q.kind)))) (carried z a)) ≡ []) looks.scope
        (subst (λ z. filter p.is_priv (flat_map (λ s. map (λ i. s + i) (unmarked_leaves p.tree.structs z)) (carried (scope_of p.tree f.0) a)) ≡ []) is none))

    member : has (unmarked_leaves p.tree.structs (Some (param_type q.kind))) j ≡ true
    member = in_filter (λ i. not (get_or (leaves_of p.tree.structs (param_type q.kind)) i whole).marked) (range_with_len 0 (leaf_count p.tree.structs (param_type q.kind))) j (ap not free)
        (subst (λ z. has (range_with_len 0 (leaf_count p.tree.structs (param_type q.kind))) z ≡ true) (plus_none j) (in_range 0 (leaf_count p.tree.structs (param_type q.kind)) j less))
      where
        plus_none : (j : ℕ) → 0 + j ≡ j
        plus_none j = omega arith

-- behind each slot those leaves are marked
pub all_behind : (m : ℕ → Bool) (leaves starts : List ℕ) (j : ℕ) → has leaves j ≡ true → list_all m (flat_map (λ s. map (λ i. s + i) leaves) starts) ≡ true → list_all (λ s. m (s + j)) starts ≡ true
all_behind m leaves [] j is h = refl
all_behind m leaves (s ∷ ss) j is h =
    both_hold (m (s + j)) (list_all (λ z. m (z + j)) ss) (in_map s leaves m j is (all_first m (map (λ i. s + i) leaves) (flat_map (λ z. map (λ i. z + i) leaves) ss) h))
    (all_behind m leaves ss j is (all_rest m (map (λ i. s + i) leaves) (flat_map (λ z. map (λ i. z + i) leaves) ss) h))

-- what comes back secret behind an argument is marked
pub sealed_leaf : (p : Flows) (f : FnId) (b : Bench) (g : FnId) (k : ℕ) (q : Param) (a : src.ExprTree) (c : Callee p.tree g.0 k q) → Looks p f b → list_all b.marks (usage_sealed p.tree f (Passed g k) a) ≡ true →
    (j : ℕ) → j < leaf_count p.tree.structs (param_type q.kind) → gives_back (slice_get p.tree.functions g.0) k ≡ true → option_map_or (λ x. is_sealed_leaf p.tree (record { 0 = g.0 }) k x j) (slice_get (variable_objects p.tree g.0) k) false ≡ true → list_all (λ s. b.marks (s + j)) (carried (seen b) a) ≡ true
sealed_leaf p f b g k q a c looks h j less gives seals =
    subst (λ z. list_all (λ s. b.marks (s + j)) (carried z a) ≡ true) looks.scope
    (all_behind b.marks (sealed_leaves p.tree g k x) (carried (scope_of p.tree f.0) a) j member
    (subst (λ z. list_all b.marks (sealed_behind p.tree g k z (carried (scope_of p.tree f.0) a)) ≡ true) o.object
    (subst (λ z. list_all b.marks (if z then sealed_behind p.tree g k (slice_get (variable_objects p.tree g.0) k) (carried (scope_of p.tree f.0) a) else []) ≡ true) gives h)))
  where
    o : ParamObject p.tree g.0 k q c.tree.vars
    o = param_object p.tree g.0 k q c

    x : Object
    x = record { ty = param_type q.kind; start = o.start }

    plus_none : (j : ℕ) → 0 + j ≡ j
    plus_none j = omega arith

    member : has (sealed_leaves p.tree g k x) j ≡ true
    member = in_filter (is_sealed_leaf p.tree g k x) (range_with_len 0 (leaf_count p.tree.structs (param_type q.kind))) j
        (subst (λ z. option_map_or (λ y. is_sealed_leaf p.tree (record { 0 = g.0 }) k y j) z false ≡ true) o.object seals)
        (subst (λ z. has (range_with_len 0 (leaf_count p.tree.structs (param_type q.kind))) z ≡ true) (plus_none j) (in_range 0 (leaf_count p.tree.structs (param_type q.kind)) j less))

-- a privileged function is asked
pub entry_passes : (p : Flows) (f : FnId) (b : Bench) (g : FnId) (k : ℕ) (q : Param) (a : src.ExprTree) (c : Callee p.tree g.0 k q) → Looks p f b → is_plain c.tree ≡ false → c.tree.signature.privileged ≡ true → ty_of a ≡ Some (param_type q.kind) →
    priv_to_plain_param p f (Passed g k) a ≡ [] → list_all b.marks (usage_sealed p.tree f (Passed g k) a) ≡ true → MayPass b g k a
entry_passes p f b g k q a c looks other privileged is none sealed = λ v by. subst (λ z. may.Flows v z) (sym class)
    (entry_flows b.marks p.tree g.0 k q.marked ty (carried (seen b) a) v looks.structs (param_object p.tree g.0 k q c).known (param_scalar q.kind)
    (subst (λ z. IsBy v (class_at b.marks z ty (carried (seen b) a))) (sym structs) (arrives b a ty v is by))
    (clean_leaves p f b g k q a c looks privileged is none) (sealed_leaf p f b g k q a c looks sealed))
  where
    ty : VarTy
    ty = param_type q.kind

    structs : p.tree.structs ≡ b.w.names.structs
    structs = same_structs p f b looks

    class : b.world.param g.0 k ≡ entry_by p.tree g.0 k q.marked ty
    class = ap (λ (w : World). w.param g.0 k) looks.world
        ∙ ap (λ z. option_map_or (λ x. param_in b.marks p.tree g.0 x k) z (integer_class false)) c.at
        ∙ ap (λ z. if z then variable_class b.marks p.tree g.0 k else option_map_or (λ y. if c.tree.signature.privileged then entry_class p.tree g.0 k y else host_class b.marks p.tree g.0 c.tree k y) (slice_get c.tree.signature.params k) (integer_class false)) other
        ∙ ap (λ z. option_map_or (λ y. if c.tree.signature.privileged then entry_class p.tree g.0 k y else host_class b.marks p.tree g.0 c.tree k y) z (integer_class false)) c.param
        ∙ ap (λ z. if z then entry_class p.tree g.0 k q else host_class b.marks p.tree g.0 c.tree k q) privileged

-- ---- hosts of the slave

-- a host takes integers
pub host_takes : (t : TypedTree) (x : FunctionTree) (k : ℕ) (q : Param) → function_sound t x ≡ true → x.body ≡ None → slice_get x.signature.params k ≡ Some q → (i : IntType) × (param_type q.kind ≡ Int i)
host_takes t x k q sound none is = go q.kind refl (all_true_at is_integer_param x.signature.params k q (both_hold_first (list_all is_integer_param x.signature.params) (nat_eq (length x.vars) (length x.signature.params)) host) is)
  where
    body : body_sound t x x.body ≡ true
    body = both_hold_second (list_all (variable_sound t.structs) x.vars) (body_sound t x x.body) (both_hold_second (nat_le (length x.signature.params) 8 && params_lead x.signature.params x.vars) (list_all (variable_sound t.structs) x.vars && body_sound t x x.body) sound)

    host : (list_all is_integer_param x.signature.params && nat_eq (length x.vars) (length x.signature.params)) ≡ true
    host = both_hold_second x.signature.host (list_all is_integer_param x.signature.params && nat_eq (length x.vars) (length x.signature.params)) (subst (λ z. body_sound t x z ≡ true) none body)

    go : (d : ParamKind) → q.kind ≡ d → is_integer_kind q.kind ≡ true → (i : IntType) × (param_type q.kind ≡ Int i)
    go (kind.Int i) e h = (i, ap param_type e)
    go (kind.Ptr elem fixed) e h = false_not_true (subst (λ z. is_integer_kind z ≡ true) e h)

pub no_body : (o : Option BodyTree) → is_some o ≡ false → o ≡ None
no_body None h = refl
no_body (Some x) h = false_not_true (sym h)

pub one_leaf : (b : Bench) (t : IntType) → 0 < leaf_count b.w.names.structs (Int t)
unfolding leaves_of
one_leaf b t = omega arith

pub host_passes : (p : Flows) (f : FnId) (b : Bench) (g : FnId) (k : ℕ) (q : Param) (a : src.ExprTree) (c : Callee p.tree g.0 k q) → Looks p f b → is_plain c.tree ≡ false → c.tree.signature.privileged ≡ false → ty_of a ≡ Some (param_type q.kind) →
    priv_to_host p f (Passed g k) a ≡ [] → AreClosed b.marks (move_edges (moved_to (scope_of p.tree f.0) a (passed_slots p.tree g k))) → MayPass b g k a
host_passes p f b g k q a c looks other shown is none closed = λ v by. subst (λ z. may.Flows v z) (sym class) (record {
  kind = (arrives b a ty v is by).kind ∙ ap is_pointer int.1;
  first = λ e m. both v by m;
  size = λ e. false_not_true e;
  may = λ e n less m. false_not_true e;
  must = λ e n less m. false_not_true e;
})
  where
    ty : VarTy
    ty = param_type q.kind

    bodiless : c.tree.body ≡ None
    bodiless = no_body c.tree.body (go (is_some c.tree.body) other)
      where
        go : (x : Bool) → (x && not c.tree.signature.privileged) ≡ false → x ≡ false
        go true h = false_not_true (sym h ∙ ap not shown)
        go false h = refl

    int : (i : IntType) × (ty ≡ Int i)
    int = host_takes p.tree c.tree k q c.sound bodiless c.param

    host : is_slave_host c.tree ≡ true
    host = both_hold (is_none c.tree.body) (not c.tree.signature.privileged) (ap is_none bodiless) (ap not shown)

    class : b.world.param g.0 k ≡ host_class b.marks p.tree g.0 c.tree k q
    class = ap (λ (w : World). w.param g.0 k) looks.world
        ∙ ap (λ z. option_map_or (λ x. param_in b.marks p.tree g.0 x k) z (integer_class false)) c.at
        ∙ ap (λ z. if z then variable_class b.marks p.tree g.0 k else option_map_or (λ y. if c.tree.signature.privileged then entry_class p.tree g.0 k y else host_class b.marks p.tree g.0 c.tree k y) (slice_get c.tree.signature.params k) (integer_class false)) other
        ∙ ap (λ z. option_map_or (λ y. if c.tree.signature.privileged then entry_class p.tree g.0 k y else host_class b.marks p.tree g.0 c.tree k y) z (integer_class false)) c.param
        ∙ ap (λ z. if z then entry_class p.tree g.0 k q else host_class b.marks p.tree g.0 c.tree k q) shown

    -- for an unmarked parameter there is no secret
    unmarked_plain : q.marked ≡ false → PlainIf b (type_of a) (carried (seen b) a)
    unmarked_plain plain = operated_quiet p f b a looks (subst (λ z. is_scalar z ≡ true) (sym is) (param_scalar q.kind))
        (not_found PrivToHost (span_of a) (secrets_of p f a) (subst (λ z. (if z then found PrivToHost (span_of a) (secrets_of p f a) else []) ≡ []) test none))
      where
        unmarked : is_unmarked_param c.tree k ≡ true
        unmarked = ap (λ z. option_map_or (λ (y : Param). not y.marked) z false) c.param ∙ ap not plain

        test : function_is (λ x. is_slave_host x && is_unmarked_param x k) p.tree g ≡ true
        test = ap (λ z. option_map_or (λ x. is_slave_host x && is_unmarked_param x k) z false) c.at ∙ both_hold (is_slave_host c.tree) (is_unmarked_param c.tree k) host unmarked

    -- what may be a handle
    may_be : (v : Class) → IsBy v (class_here b a) → v.may 0 ≡ true → list_any (λ s. b.marks (s + 0)) (carried (seen b) a) ≡ true
    may_be v by m = (subst (λ z. IsBy v (at_slots b z (carried (seen b) a))) int.1 (arrives b a ty v is by)).number refl m

    result_marked : is_none c.tree.signature.result ≡ false → q.marked ≡ true → list_any (λ s. b.marks (s + 0)) (carried (seen b) a) ≡ true → b.marks (result_start p.tree + g.0) ≡ true
    result_marked gives marked m = subst (λ z. b.marks z ≡ true) (plus_none (result_start p.tree + g.0)) (both_hold_first (b.marks (result_start p.tree + g.0 + 0)) true (forward b a ty ((result_start p.tree + g.0) ∷ []) 0 moves is one m))
      where
        plus_none : (j : ℕ) → j + 0 ≡ j
        plus_none j = omega arith

        one : 0 < leaf_count b.w.names.structs ty
        one = subst (λ z. 0 < leaf_count b.w.names.structs z) (sym int.1) (one_leaf b int.0)

        plain : test_function is_plain p.tree g ≡ false
        plain = ap (λ z. option_map_or is_plain z false) c.at ∙ other

        some : (o : Option IntType) → is_none o ≡ false → is_some o ≡ true
        some None h = false_not_true (sym h)
        some (Some z) h = refl

        mixed : option_map_or (λ x. mixes x k) (function_at p.tree g) false ≡ true
        mixed = ap (λ z. option_map_or (λ x. mixes x k) z false) c.at ∙ both_hold (is_slave_host c.tree) (is_some c.tree.signature.result && option_map_or (λ (y : Param). y.marked) (slice_get c.tree.signature.params k) false) host
            (both_hold (is_some c.tree.signature.result) (option_map_or (λ (y : Param). y.marked) (slice_get c.tree.signature.params k) false) (some c.tree.signature.result gives) (ap (λ z. option_map_or (λ (y : Param). y.marked) z false) c.param ∙ marked))

        to : passed_slots p.tree g k ≡ (result_start p.tree + g.0) ∷ []
        to = ap (λ z. if z then start_of (slice_get (variable_objects p.tree g.0) k) else (if option_map_or (λ x. mixes x k) (function_at p.tree g) false then (result_start p.tree + g.0) ∷ [] else [])) plain
            ∙ ap (λ z. if z then (result_start p.tree + g.0) ∷ [] else []) mixed

        moves : Moves b a ((result_start p.tree + g.0) ∷ [])
        moves = subst (λ z. AreClosed b.marks (move_edges (moved_to z a ((result_start p.tree + g.0) ∷ [])))) looks.scope (subst (λ z. AreClosed b.marks (move_edges (moved_to (scope_of p.tree f.0) a z))) to closed)

    both : (v : Class) → IsBy v (class_here b a) → v.may 0 ≡ true → (q.marked && (is_none c.tree.signature.result || b.marks (result_start p.tree + g.0))) ≡ true
    both v by m = go q.marked (is_none c.tree.signature.result) refl refl
      where
        kind_here : is_pointer (type_of a) ≡ false
        kind_here = ap is_pointer (type_is a ty is ∙ int.1)

        go : (x y : Bool) → q.marked ≡ x → is_none c.tree.signature.result ≡ y → (x && (y || b.marks (result_start p.tree + g.0))) ≡ true
        go true true e h = refl
        go true false e h = result_marked h e (may_be v by m)
        go false y e h = false_not_true (sym (unmarked_plain e kind_here) ∙ by.number kind_here m)
