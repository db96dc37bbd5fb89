-- The globals that code of both halves names, by a table for each half.
use Rattle.std.proofs.Common.{◌≡◌, ◌∙◌, ◌≤◌, ◌<◌, ◌+◌, ℕ, suc, refl, ap, subst, arith, ◌⊎◌, inl, inr, Bool, true, false, List, [], ◌∷◌, ◌++◌, length, get_or, map}
use Rattle.std.specs.Prelude.{◌&&◌, ◌||◌, nat_eq, replicate}
use Rattle.std.specs.List.{Contains, flat_map, list_any}
use Rattle.std.proofs.lemmas.Cmp.{nat_eq_equiv}
use Rattle.std.proofs.lemmas.List.{length-replicate}
use Rattle.pt_base.specs.declared.ids.FnId.{FnId}
use Rattle.pt_base.specs.declared.ids.GlobalId.{GlobalId}
use Rattle.pt_base.proofs.Booleans.{same_truth}
use Rattle.pt_base.proofs.Members.{any_true, contains_first, contains_later}
use Rattle.pt_base.proofs.Numbers.{nat_eq_same}
use Rattle.reach.proofs.ListLemmas.{contains_map, from_map, contains_flat, from_flat}
use Rattle.reach.proofs.TableLemmas.{set_all_has, set_all_from, none_true}
use Rattle.reach.specs.Contexts.{globals_in}
use Rattle.reach.specs.Owned.{global_numbers, owned_table}
use Rattle.typed_tree.specs.declared.variable.TypedGlobal.{TypedGlobal}
use Rattle.typed_tree.specs.TypedTree.{TypedTree}
use Rattle.flow_rules.specs.declared.found.Found.{Found}
use Rattle.flow_rules.specs.declared.rule.Rule.TheVariants.{SharedGlobal}
use Rattle.flow_rules.specs.Findings.{found_if, is_named_in, shared_globals}
use Rattle.flow_rules.specs.Kept.{kept, shared_in}
use Rattle.flow_rules.specs.Secrets.{Flows}

any_from : {X : Type 0} (test : X → Bool) (xs : List X) → list_any test xs ≡ true → (x : X) × Contains xs x × (test x ≡ true)
any_from test [] h = cc
any_from {X} test (y ∷ ys) h = go (λ i. any_from test ys i) (test y) refl h
  where
    go : (list_any test ys ≡ true → (x : X) × Contains ys x × (test x ≡ true)) → (b : Bool) → test y ≡ b → (b || list_any test ys) ≡ true → (x : X) × Contains (y ∷ ys) x × (test x ≡ true)
    go rest true e h = (y, contains_first y ys, e)
    go rest false e h = let r = rest h in (r.0, contains_later y ys r.0 r.1, r.2)

abbrev names : TypedTree → ℕ → FnId → Bool
names t g f = list_any (λ h. nat_eq h.0 g) (globals_in t f)

module _ (t : TypedTree) (fs : List FnId) (g : ℕ) where
  to_named : get_or (owned_table t fs) g false ≡ true → is_named_in t g fs ≡ true
  to_named h = go (set_all_from (replicate (length t.globals) false) (flat_map (global_numbers t) fs) g h)
    where
      go : (get_or (replicate (length t.globals) false) g false ≡ true) ⊎ ((g < length (replicate (length t.globals) false)) × Contains (flat_map (global_numbers t) fs) g) → is_named_in t g fs ≡ true
      go (inl e) = absurd (none_true (length t.globals) g e)
      go (inr i) =
          let f = from_flat (global_numbers t) fs g i.1 in
          let h = from_map (λ (x : GlobalId). x.0) (globals_in t f.0) g f.2 in
          let n : ℕ = (h.0).0 in
          let own : nat_eq n n ≡ true = nat_eq_equiv.refl n in
          any_true (names t g) fs f.0 f.1 (any_true (λ (x : GlobalId). nat_eq x.0 g) (globals_in t f.0) h.0 h.1 (subst (λ m. nat_eq (h.0).0 m ≡ true) h.2 own))

  from_named : g < length t.globals → is_named_in t g fs ≡ true → get_or (owned_table t fs) g false ≡ true
  from_named lt h =
      let f = any_from (names t g) fs h in
      let k = any_from (λ (x : GlobalId). nat_eq x.0 g) (globals_in t f.0) f.2 in
      let long = length-replicate (length t.globals) false in
      set_all_has (replicate (length t.globals) false) (flat_map (global_numbers t) fs) g (omega (arith, long, lt))
      (contains_flat (global_numbers t) fs f.0 g f.1
      (subst (λ n. Contains (global_numbers t f.0) n) (nat_eq_same (k.0).0 g k.2) (contains_map (λ (x : GlobalId). x.0) (globals_in t f.0) k.0 k.1)))

  named : g < length t.globals → get_or (owned_table t fs) g false ≡ is_named_in t g fs
  named lt = same_truth (get_or (owned_table t fs) g false) (is_named_in t g fs) to_named (from_named lt)

shared_are : (p : Flows) (g : ℕ) (xs : List TypedGlobal) → g + length xs ≤ length p.tree.globals →
    shared_in (owned_table p.tree p.slave) (owned_table p.tree p.monitor) g xs ≡ shared_globals p g xs
shared_are p g [] h = refl
shared_are p g (x ∷ xs) h =
    let lt : g < length p.tree.globals = omega (arith, h) in
    let le : suc g + length xs ≤ length p.tree.globals = omega (arith, h) in
    let own = named p.tree p.slave g lt in
    let other = named p.tree p.monitor g lt in
    let rest = shared_are p (suc g) xs le in
    (λ i. found_if (own i && other i) SharedGlobal x.var.span ++ rest i)

pub shared_told : (p : Flows) (fs hs : List FnId) (v w a b : List Bool) (gs : List TypedGlobal) (old new : List Found) →
    fs ≡ p.slave → hs ≡ p.monitor → v ≡ owned_table p.tree fs → w ≡ owned_table p.tree hs → a ≡ v → b ≡ w → gs ≡ p.tree.globals →
    new ≡ old ++ map kept (shared_in a b 0 gs) → new ≡ old ++ map kept (shared_globals p 0 p.tree.globals)
shared_told p fs hs v w a b gs old new ef eh ev ew ea eb eg e =
    let slave = ea ∙ ev ∙ ap (owned_table p.tree) ef in
    let monitor = eb ∙ ew ∙ ap (owned_table p.tree) eh in
    e ∙ ap (λ xs. old ++ map kept xs) ((λ i. shared_in (slave i) (monitor i) 0 (eg i)) ∙ shared_are p 0 p.tree.globals (omega arith))
