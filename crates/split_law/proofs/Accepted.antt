-- What is kept of an accepted program: its halves, which share no global.
use Rattle.std.proofs.Common.{◌≡◌, ◌∙◌, ◌<◌, ◌↔◌, ℕ, zero, suc, ◌+◌, refl, ap, sym, subst, arith, Bool, true, false, List, [], ◌∷◌, ◌++◌, length, map}
use Rattle.std.specs.Prelude.{◌&&◌, nat_eq}
use Rattle.std.specs.List.{Contains, flat_map, list_any}
use Rattle.std.proofs.lemmas.Bool.{and_from}
use Rattle.pt_base.specs.declared.ids.FnId.{FnId}
use Rattle.pt_base.specs.declared.ids.GlobalId.{GlobalId}
use Rattle.pt_base.proofs.Lists.{append_nil_first, append_nil_second}
use Rattle.pt_base.proofs.Members.{any_true}
use Rattle.pt_base.proofs.Numbers.{nat_eq_self}
use Rattle.typed_tree.specs.declared.variable.TypedGlobal.{TypedGlobal}
use Rattle.typed_tree.specs.TypedTree.{TypedTree}
use Rattle.sides.specs.declared.halves.Sides.{Sides}
use Rattle.reach.specs.Contexts.{InMonitor, InSlave, IsOwned, globals_in}
use Rattle.sides.specs.Objects.{global_objects}
use Rattle.sides.specs.Placed.{AreSides}
use Rattle.reach.specs.Sorted.{Lists}
use Rattle.reach.proofs.ListLemmas.{contains_map, from_map}
use Rattle.flow_rules.specs.declared.accepted.Accepted.{Accepted}
use Rattle.flow_rules.specs.declared.rule.Rule.TheVariants.{SharedGlobal}
use Rattle.flow_rules.specs.Faults.{IsAccepted, flows_of}
use Rattle.flow_rules.specs.Findings.{findings_of, found_if, function_findings, global_findings, is_named_in, monitor_findings, objects_findings, shared_globals, slave_findings}
use Rattle.flow_rules.specs.Secrets.{Flows}
use Rattle.splitter.specs.Halves.{halves_of}
use Rattle.split_law.specs.Laws.{AcceptedShareNothing, AreHalves, SharesNothing}

-- ---- halves

abbrev function_id : ℕ → FnId
function_id n = record { 0 = n }

abbrev global_id : ℕ → GlobalId
global_id n = record { 0 = n }

numbers_list : {X : Type 0} (number : X → ℕ) (make : ℕ → X) → ((x : X) → make (number x) ≡ x) → ((n : ℕ) → number (make n) ≡ n) → (Has : X → Type 0) (xs : List X) → Lists number Has xs → (n : ℕ) → Contains (map number xs) n ↔ Has (make n)
numbers_list {X} number make back there Has xs lists n = (inside, outside)
  where
    inside : Contains (map number xs) n → Has (make n)
    inside h =
        let at = from_map number xs n h in
        subst Has (sym (back at.0) ∙ ap make at.2) ((lists.same at.0).0 at.1)

    outside : Has (make n) → Contains (map number xs) n
    outside h = subst (λ (m : ℕ). Contains (map number xs) m) (there n) (contains_map number xs (make n) ((lists.same (make n)).1 h))

halves_here : (t : TypedTree) (s : Sides) → AreSides t s → AreHalves t (halves_of s)
halves_here t s are = record {
  slave = numbers_list (λ (f : FnId). f.0) function_id (λ f. refl) (λ n. refl) (InSlave t) s.slave are.slave;
  monitor = numbers_list (λ (f : FnId). f.0) function_id (λ f. refl) (λ n. refl) (InMonitor t) s.monitor are.monitor;
  owned = numbers_list (λ (g : GlobalId). g.0) global_id (λ g. refl) (λ n. refl) (IsOwned t) s.owned are.owned;
}

-- ---- shared globals

named_here : (t : TypedTree) (fs : List FnId) (f : FnId) (g : GlobalId) → Contains fs f → Contains (globals_in t f) g → is_named_in t g.0 fs ≡ true
named_here t fs f g h i = any_true (λ (f : FnId). list_any (λ (x : GlobalId). nat_eq x.0 g.0) (globals_in t f)) fs f h (any_true (λ (x : GlobalId). nat_eq x.0 g.0) (globals_in t f) g i (nat_eq_self g.0))

none_shared : (p : Flows) (n k : ℕ) (gs : List TypedGlobal) → k < length gs → shared_globals p n gs ≡ [] → (is_named_in p.tree (n + k) p.slave && is_named_in p.tree (n + k) p.monitor) ≡ true → ⊥
none_shared p n k [] lt h e = absurd (omega arith)
none_shared p n zero (x ∷ xs) lt h e = go (is_named_in p.tree n p.slave && is_named_in p.tree n p.monitor) (append_nil_first (found_if (is_named_in p.tree n p.slave && is_named_in p.tree n p.monitor) SharedGlobal x.var.span) (shared_globals p (suc n) xs) h) (subst (λ (m : ℕ). (is_named_in p.tree m p.slave && is_named_in p.tree m p.monitor) ≡ true) (plain n) e)
  where
    plain : (n : ℕ) → n + 0 ≡ n
    plain n = omega arith

    go : (b : Bool) → found_if b SharedGlobal x.var.span ≡ [] → b ≡ true → ⊥
    go true i j = cc
    go false i j = cc
none_shared p n (suc k) (x ∷ xs) lt h e =
    none_shared p (suc n) k xs (omega (arith, lt)) (append_nil_second (found_if (is_named_in p.tree n p.slave && is_named_in p.tree n p.monitor) SharedGlobal x.var.span) (shared_globals p (suc n) xs) h)
    (subst (λ (m : ℕ). (is_named_in p.tree m p.slave && is_named_in p.tree m p.monitor) ≡ true) (next n k) e)
  where
    next : (n k : ℕ) → n + suc k ≡ suc n + k
    next n k = omega arith

faultless_globals : (p : Flows) → findings_of p ≡ [] → shared_globals p 0 p.tree.globals ≡ []
unfolding findings_of
faultless_globals p h =
    append_nil_second (objects_findings p (map (λ (x : TypedGlobal). x.var) p.tree.globals) (global_objects p.tree)) (shared_globals p 0 p.tree.globals)
    (append_nil_first (global_findings p) (flat_map function_findings p.tree.functions)
    (append_nil_second (flat_map (slave_findings p) p.slave ++ flat_map (monitor_findings p) p.monitor) (global_findings p ++ flat_map function_findings p.tree.functions) h))

apart : (t : TypedTree) (a : Accepted) → IsAccepted t a → SharesNothing t
apart t a accepted f g monitor named owned =
    none_shared (flows_of t a.sides a.marks) 0 g.0 t.globals owned.0 (faultless_globals (flows_of t a.sides a.marks) accepted.faultless)
    (and_from (is_named_in t (0 + g.0) a.sides.slave) (is_named_in t (0 + g.0) a.sides.monitor)
    (subst (λ (m : ℕ). is_named_in t m a.sides.slave ≡ true) (behind g.0) (named_here t a.sides.slave owned.1.0 g ((accepted.sides.slave.same owned.1.0).1 owned.1.1) owned.1.2))
    (subst (λ (m : ℕ). is_named_in t m a.sides.monitor ≡ true) (behind g.0) (named_here t a.sides.monitor f g ((accepted.sides.monitor.same f).1 monitor) named)))
  where
    behind : (n : ℕ) → n ≡ 0 + n
    behind n = omega arith

pub accepted_shares_nothing : AcceptedShareNothing
accepted_shares_nothing t a accepted = (halves_here t a.sides accepted.sides, apart t a accepted)
