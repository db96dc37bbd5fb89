-- The nodes that code gathers are the objects that are shown.
use Rattle.std.proofs.Common.{◌≡◌, ◌∙◌, ◌<◌, ◌+◌, ◌⊎◌, ℕ, zero, suc, refl, ap, sym, subst, arith, inl, inr, true, List, [], ◌∷◌, ◌++◌, Option, Some, None, length}
use Rattle.std.specs.List.{Contains, flat_map}
use Rattle.std.specs.List.Sorted.{IsStrictlySortedBy}
use Rattle.std.specs.Option.{option_map_or}
use Rattle.std.proofs.lemmas.List.Elements.{Contains-append_cases, Contains-append_left, Contains-append_right}
use Rattle.pt_base.specs.declared.ids.FnId.{FnId}
use Rattle.pt_base.specs.declared.ids.GlobalId.{GlobalId}
use Rattle.pt_base.proofs.Members.{contains_cases, contains_first, contains_later, contains_nothing}
use Rattle.reach.proofs.ListLemmas.{contains_flat, contains_map, from_flat, from_map}
use Rattle.reach.specs.Contexts.{InSlave, callees_in, test_function}
use Rattle.reach.specs.Tables.{function_id, global_id}
use Rattle.sides.specs.declared.halves.Sides.{Sides}
use Rattle.sides.specs.Placed.{AreSides}
use Rattle.typed_tree.specs.declared.variable.Var.{Var}
use Rattle.typed_tree.specs.Lookup.{function_at}
use Rattle.typed_tree.specs.TypedTree.{FunctionTree, TypedTree}
use Rattle.flow_picture.specs.declared.node.Node.{Node}
use Rattle.flow_picture.specs.declared.node.Node.TheVariants.{Global, Variable, Result}
use Rattle.flow_picture.specs.Kept.{HasSame, callee_nodes, function_nodes, global_nodes, object_nodes, result_nodes, variables_from, vars_of}
use Rattle.flow_picture.specs.Nodes.{node_cmp}
use Rattle.flow_picture.specs.Objects.{AreNodes, IsObject, IsUsed, has_result, variable_count}
use Rattle.flow_picture.proofs.SameLemmas.{from_item, in_item}

-- ---- variables

from_variables : (f v : ℕ) (xs : List Var) (x : Node) → Contains (variables_from f v xs) x → (k : ℕ) × (k < length xs) × (Variable f (v + k) ≡ x)
from_variables f v [] x h = absurd (contains_nothing x h)
from_variables f v (y ∷ ys) x h = go (contains_cases (Variable f v) (variables_from f (suc v) ys) x h) (from_variables f (suc v) ys x)
  where
    go : (Variable f v ≡ x) ⊎ Contains (variables_from f (suc v) ys) x → (Contains (variables_from f (suc v) ys) x → (k : ℕ) × (k < length ys) × (Variable f (suc v + k) ≡ x)) →
        (k : ℕ) × (k < length (y ∷ ys)) × (Variable f (v + k) ≡ x)
    go (inl e) rest = (0, omega arith, ap (Variable f) (let same : v + 0 ≡ v = omega arith in same) ∙ e)
    go (inr i) rest =
        let r = rest i in
        let lt : r.0 < length ys = r.1 in (suc r.0, omega (arith, lt), ap (Variable f) (let same : v + suc r.0 ≡ suc v + r.0 = omega arith in same) ∙ r.2)

in_variables : (f v k : ℕ) (xs : List Var) → k < length xs → Contains (variables_from f v xs) (Variable f (v + k))
in_variables f v k [] lt = absurd (omega (arith, lt))
in_variables f v zero (y ∷ ys) lt =
    subst (λ n. Contains (variables_from f v (y ∷ ys)) (Variable f n)) (let same : v ≡ v + 0 = omega arith in same) (contains_first (Variable f v) (variables_from f (suc v) ys))
in_variables f v (suc k) (y ∷ ys) lt =
    contains_later (Variable f v) (variables_from f (suc v) ys) (Variable f (v + suc k))
    (subst (λ n. Contains (variables_from f (suc v) ys) (Variable f n)) (let same : suc v + k ≡ v + suc k = omega arith in same) (in_variables f (suc v) k ys (omega (arith, lt))))

counted : (o : Option FunctionTree) → length (option_map_or (λ (x : FunctionTree). x.vars) o []) ≡ option_map_or (λ (x : FunctionTree). length x.vars) o 0
counted None = refl
counted (Some x) = refl

module _ (t : TypedTree) where
  count_is : (f : FnId) → length (vars_of t f) ≡ variable_count t f.0
  count_is f = counted (function_at t f)

  -- ---- functions

  from_function : (f : FnId) → InSlave t f → (x : Node) → Contains (function_nodes t f) x → IsObject t x
  from_function f runs x h = go (Contains-append_cases (variables_from f.0 0 (vars_of t f)) (result_nodes t f ++ callee_nodes t f) x h)
    where
      variable : Contains (variables_from f.0 0 (vars_of t f)) x → IsObject t x
      variable i =
          let m = from_variables f.0 0 (vars_of t f) x i in
          let lt : m.0 < variable_count t f.0 = subst (λ n. m.0 < n) (count_is f) m.1 in
          let below : 0 + m.0 < variable_count t f.0 = omega (arith, lt) in
          subst (λ (y : Node). IsObject t y) m.2 (runs, below)

      result : (g : FnId) → IsUsed t g → Contains (result_nodes t g) x → IsObject t x
      result g used i = let m = from_item (test_function has_result t g) (Result g.0) x i in subst (λ (y : Node). IsObject t y) m.1 (used, m.0)

      callee : Contains (callee_nodes t f) x → IsObject t x
      callee i = let m = from_flat (result_nodes t) (callees_in t f) x i in result m.0 (inr (f, runs, m.1)) m.2

      rest : Contains (result_nodes t f) x ⊎ Contains (callee_nodes t f) x → IsObject t x
      rest (inl i) = result f (inl runs) i
      rest (inr i) = callee i

      go : Contains (variables_from f.0 0 (vars_of t f)) x ⊎ Contains (result_nodes t f ++ callee_nodes t f) x → IsObject t x
      go (inl i) = variable i
      go (inr i) = rest (Contains-append_cases (result_nodes t f) (callee_nodes t f) x i)

  has_variable : (f : FnId) (v : ℕ) → v < variable_count t f.0 → Contains (function_nodes t f) (Variable f.0 v)
  has_variable f v lt =
      let below : v < length (vars_of t f) = subst (λ n. v < n) (sym (count_is f)) lt in
      let one : Contains (variables_from f.0 0 (vars_of t f)) (Variable f.0 (0 + v)) = in_variables f.0 0 v (vars_of t f) below in
      Contains-append_left (variables_from f.0 0 (vars_of t f)) (result_nodes t f ++ callee_nodes t f) (Variable f.0 v)
      (subst (λ n. Contains (variables_from f.0 0 (vars_of t f)) (Variable f.0 n)) (let same : 0 + v ≡ v = omega arith in same) one)

  has_own : (f : FnId) → test_function has_result t f ≡ true → Contains (function_nodes t f) (Result f.0)
  has_own f e =
      Contains-append_right (variables_from f.0 0 (vars_of t f)) (result_nodes t f ++ callee_nodes t f) (Result f.0)
      (Contains-append_left (result_nodes t f) (callee_nodes t f) (Result f.0) (in_item (test_function has_result t f) (Result f.0) e))

  has_callee : (f g : FnId) → Contains (callees_in t f) g → test_function has_result t g ≡ true → Contains (function_nodes t f) (Result g.0)
  has_callee f g calls e =
      Contains-append_right (variables_from f.0 0 (vars_of t f)) (result_nodes t f ++ callee_nodes t f) (Result g.0)
      (Contains-append_right (result_nodes t f) (callee_nodes t f) (Result g.0)
      (contains_flat (result_nodes t) (callees_in t f) g (Result g.0) calls (in_item (test_function has_result t g) (Result g.0) e)))

  -- ---- all objects

  module _ (s : Sides) (are : AreSides t s) where
    from_objects : (x : Node) → Contains (object_nodes t s.owned s.slave) x → IsObject t x
    from_objects x h = go (Contains-append_cases (global_nodes s.owned) (flat_map (function_nodes t) s.slave) x h)
      where
        go : Contains (global_nodes s.owned) x ⊎ Contains (flat_map (function_nodes t) s.slave) x → IsObject t x
        go (inl i) = let m = from_map (λ (g : GlobalId). Global g.0) s.owned x i in subst (λ (y : Node). IsObject t y) m.2 ((are.owned.same m.0).0 m.1)
        go (inr i) = let m = from_flat (function_nodes t) s.slave x i in from_function m.0 ((are.slave.same m.0).0 m.1) x m.2

    of_slave : (f : FnId) (x : Node) → InSlave t f → Contains (function_nodes t f) x → Contains (object_nodes t s.owned s.slave) x
    of_slave f x runs i =
        Contains-append_right (global_nodes s.owned) (flat_map (function_nodes t) s.slave) x (contains_flat (function_nodes t) s.slave f x ((are.slave.same f).1 runs) i)

    used_result : (g : FnId) → IsUsed t g → test_function has_result t g ≡ true → Contains (object_nodes t s.owned s.slave) (Result g.0)
    used_result g (inl runs) e = of_slave g (Result g.0) runs (has_own g e)
    used_result g (inr called) e = of_slave called.0 (Result g.0) called.1 (has_callee called.0 g called.2 e)

    in_objects : (x : Node) → IsObject t x → Contains (object_nodes t s.owned s.slave) x
    in_objects (Global g) is =
        Contains-append_left (global_nodes s.owned) (flat_map (function_nodes t) s.slave) (Global g)
        (contains_map (λ (h : GlobalId). Global h.0) s.owned (global_id g) ((are.owned.same (global_id g)).1 is))
    in_objects (Variable f v) is = of_slave (function_id f) (Variable f v) is.0 (has_variable (function_id f) v is.1)
    in_objects (Result f) is = used_result (function_id f) is.0 is.1

    -- what was gathered is in order
    pub objects_are : (owned : List GlobalId) (slave : List FnId) (gathered nodes : List Node) → owned ≡ s.owned → slave ≡ s.slave → gathered ≡ object_nodes t owned slave →
        HasSame nodes gathered → IsStrictlySortedBy node_cmp nodes → AreNodes (IsObject t) nodes
    objects_are owned slave gathered nodes eo es is same up =
        let all : gathered ≡ object_nodes t s.owned s.slave = is ∙ (λ i. object_nodes t (eo i) (es i)) in
        let members : HasSame nodes (object_nodes t s.owned s.slave) = subst (λ (xs : List Node). HasSame nodes xs) all same in
        record { sorted = up; same = λ x. (λ h. from_objects x ((members x).0 h), λ is. (members x).1 (in_objects x is)) }
