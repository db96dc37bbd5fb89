-- Whether a node is secret can be told; secrets follow arrows; and tables stand for mixed hosts.
use Rattle.std.proofs.Common.{◌≡◌, ◌∙◌, ◌⊎◌, ⊎_elim, inl, inr, ℕ, nat_eq, refl, ap, sym, subst, Bool, true, false, not, Option, Some, None, if◌then◌else◌, List, [], ◌∷◌, ◌++◌, length, map}
use Rattle.std.specs.Prelude.{Contains, IsTrue, ◌&&◌, ◌||◌, is_some, slice_index_or, unwrap_or}
use Rattle.std.specs.List.{find, flat_map}
use Rattle.std.specs.Map.{lookup}
use Rattle.std.proofs.lemmas.List.{get_or_default}
use Rattle.std.proofs.lemmas.List.Elements.{Contains-append_left, Contains-append_right}
use Rattle.pt_base.specs.declared.slot.Edge.{Edge}
use Rattle.pt_base.specs.declared.slot.Slot.{Slot}
use Rattle.pt_base.proofs.Booleans.{both_hold_second, false_not_true, true_and_false}
use Rattle.pt_base.proofs.Members.{contains_cases, contains_first, contains_later, contains_nothing}
use Rattle.pt_base.proofs.Numbers.{nat_eq_same}
use Rattle.pt_base.proofs.Options.{some_same}
use Rattle.pt_tree.specs.declared.host_model.HostModel.{HostModel}
use Rattle.pt_tree.specs.declared.host_model.HostModel.TheVariants.{Table, Feed, Input, Bytes, Line}
use Rattle.pt_tree.specs.declared.signature.Signature.{Signature}
use Rattle.host_models.specs.Fitting.{fits, gives_int, has_numbers_in_range, has_right_params, has_short_name}
use Rattle.host_models.specs.Mixed.{is_mixed}
use Rattle.propagation.specs.Paths.{IsPriv, Leads, no_edge}
use Rattle.propagation.proofs.LawLemmas.{leads_push}
use Rattle.flow_law.proofs.MarkLemmas.{priv_or_not}
use Rattle.runs.specs.State.{Hosts}
use Rattle.pt_core.specs.CodeTree.{FunctionTree, MonitorTree}
use Rattle.pt_core.specs.Calls.{function_in, no_signature, signature_in}
use Rattle.pt_core.specs.WellFormed.{function_at, is_sound, monitor_program}
use Rattle.monitor_labels.specs.Nodes.{Node, of_result, gives_result, slot_of}
use Rattle.monitor_labels.specs.Seeds.{global_seeds, marked_structs, result_seeds, seed_nodes, seeds_of, variable_seeds}
use Rattle.monitor_labels.specs.Arrows.{Arrow, function_arrows}
use Rattle.monitor_labels.specs.Labels.{all_label_edges, edge_of, edges_along, label_edges}
use Rattle.monitor_labels.specs.Secrecy.{IsSecret}
use Rattle.core_soundness_law.proofs.Programs.{facts_of}
use Rattle.independence_law.specs.Bodies.{MixedHostsAreSame, calls_no_plain_host}
use Rattle.independence_law.proofs.Follows.{Follows}
use Rattle.independence_law.proofs.Known.{IsTable, Knows, function_of, is_named}

-- ---- secrecy is decided

abbrev told : {A B : Type 0} → A ⊎ B → Bool
told (inl a) = true
told (inr b) = false

told_true : {A B : Type 0} (d : A ⊎ B) → told d ≡ true → A
told_true (inl a) h = a
told_true (inr b) h = false_not_true h

told_false : {A B : Type 0} (d : A ⊎ B) → told d ≡ false → B
told_false (inl a) h = true_and_false true refl h
told_false (inr b) h = b

pub is_secret : MonitorTree → Node → Bool
is_secret p n = told (priv_or_not (all_label_edges p) (seeds_of p) (slot_of p n))

pub tells_secret : (p : MonitorTree) (n : Node) → is_secret p n ≡ true → IsSecret p n
unfolding is_secret
tells_secret p n h = told_true (priv_or_not (all_label_edges p) (seeds_of p) (slot_of p n)) h

pub tells_open : (p : MonitorTree) (n : Node) → is_secret p n ≡ false → ¬ IsSecret p n
unfolding is_secret
tells_open p n h = told_false (priv_or_not (all_label_edges p) (seeds_of p) (slot_of p n)) h

pub secret_told : (p : MonitorTree) (n : Node) → IsSecret p n → is_secret p n ≡ true
secret_told p n secret = go (is_secret p n) refl
  where
    go : (b : Bool) → is_secret p n ≡ b → is_secret p n ≡ true
    go true e = e
    go false e = absurd (tells_open p n e secret)

pub open_told : (p : MonitorTree) (n : Node) → ¬ IsSecret p n → is_secret p n ≡ false
open_told p n open_ = go (is_secret p n) refl
  where
    go : (b : Bool) → is_secret p n ≡ b → is_secret p n ≡ false
    go true e = absurd (open_ (tells_secret p n e))
    go false e = e

-- ---- arrows

-- along an edge goes what is privileged
along_edge : (seeds : List Slot) (edges : List Edge) (e : Edge) → Contains edges e → IsPriv seeds edges e.from → IsPriv seeds edges e.to
along_edge seeds edges e there priv =
    let is : slice_index_or edges there.0 no_edge ≡ e = get_or_default edges there.0 no_edge e there.1 ∙ there.2 in
    (priv.0, priv.1 ++ there.0 ∷ [], priv.2, subst (λ (x : Edge). Leads edges (priv.1 ++ there.0 ∷ []) priv.0 x.to) is (leads_push edges priv.1 priv.0 e.from there.0 priv.3 there.1 (ap (λ (x : Edge). x.from) is)))

each_edge : (p : MonitorTree) (arrows : List Arrow) → ((e : Edge) → Contains (edges_along p arrows) e → Contains (all_label_edges p) e) → Follows (is_secret p) arrows
each_edge p [] all = tt {0}
each_edge p (a ∷ arrows) all = (
  λ secret. secret_told p a.1 (along_edge (seeds_of p) (all_label_edges p) (edge_of p a) (all (edge_of p a) (contains_first (edge_of p a) (edges_along p arrows))) (tells_secret p a.0 secret)),
  each_edge p arrows (λ e there. all e (contains_later (edge_of p a) (edges_along p arrows) e there)),
)

-- what is among those of a function is among all
among : {X : Type 0} (h : FunctionTree → List X) (f : ℕ) (fs : List FunctionTree) (g : FunctionTree) (x : X) → find (λ y. nat_eq f y.id) fs ≡ Some g → Contains (h g) x → Contains (flat_map h fs) x
among h f [] g x is there = cc
among {X} h f (y ∷ ys) g x is there = go (λ e. among h f ys g x e there) (nat_eq f y.id) is
  where
    go : (find (λ (z : FunctionTree). nat_eq f z.id) ys ≡ Some g → Contains (flat_map h ys) x) → (b : Bool) → (if b then Some y else find (λ (z : FunctionTree). nat_eq f z.id) ys) ≡ Some g → Contains (h y ++ flat_map h ys) x
    go more true e = Contains-append_left (h y) (flat_map h ys) x (subst (λ (z : FunctionTree). Contains (h z) x) (sym (some_same y g e)) there)
    go more false e = Contains-append_right (h y) (flat_map h ys) x (more e)

found_at : (f : ℕ) (fs : List FunctionTree) (g : FunctionTree) → find (λ y. nat_eq f y.id) fs ≡ Some g → f ≡ g.id
found_at f [] g is = cc
found_at f (y ∷ ys) g is = go (λ e. found_at f ys g e) (nat_eq f y.id) refl is
  where
    go : (find (λ (z : FunctionTree). nat_eq f z.id) ys ≡ Some g → f ≡ g.id) → (b : Bool) → nat_eq f y.id ≡ b → (if b then Some y else find (λ (z : FunctionTree). nat_eq f z.id) ys) ≡ Some g → f ≡ g.id
    go more true t e = nat_eq_same f y.id t ∙ ap (λ (z : FunctionTree). z.id) (some_same y g e)
    go more false t e = more e

pub secrets_follow : (p : MonitorTree) (f : ℕ) → IsTrue (is_some (function_at (monitor_program p) f)) → Follows (is_secret p) (function_arrows p (function_of (monitor_program p) f))
unfolding label_edges
secrets_follow p f known = go (function_at (monitor_program p) f) refl known
  where
    go : (o : Option FunctionTree) → function_at (monitor_program p) f ≡ o → IsTrue (is_some o) → Follows (is_secret p) (function_arrows p (function_of (monitor_program p) f))
    go None e h = false_not_true h
    go (Some g) e h =
        let named : f ≡ g.id = found_at f p.functions g e in
        subst (λ (t : FunctionTree). Follows (is_secret p) (function_arrows p t)) (is_named (monitor_program p) f known)
        (each_edge p (function_arrows p (function_in (monitor_program p) f))
        (λ x there. among (λ (t : FunctionTree). label_edges p t.id) f p.functions g x e (subst (λ n. Contains (edges_along p (function_arrows p (function_in (monitor_program p) n))) x) named there)))

-- ---- privileged hosts

seed_there : (s : ℕ × Signature) (n : ℕ) → (s.1.host && gives_result s.1) ≡ true → n ≡ s.0 → Contains (result_seeds s) (of_result n)
seed_there s n gives is = subst (λ k. Contains (result_seeds s) (of_result k)) (sym is) (subst (λ b. Contains (if b then of_result s.0 ∷ [] else []) (of_result s.0)) (sym gives) (contains_first (of_result s.0) []))

result_seed : (g : ℕ) (ss : List (ℕ × Signature)) (x : Signature) → lookup (nat_eq g) ss ≡ Some x → (x.host && gives_result x) ≡ true → Contains (flat_map result_seeds ss) (of_result g)
result_seed g [] x is gives = cc
result_seed g (s ∷ ss) x is gives = go (λ e. result_seed g ss x e gives) (nat_eq g s.0) refl is
  where
    go : (lookup (nat_eq g) ss ≡ Some x → Contains (flat_map result_seeds ss) (of_result g)) → (b : Bool) → nat_eq g s.0 ≡ b → (if b then Some s.1 else lookup (nat_eq g) ss) ≡ Some x → Contains (result_seeds s ++ flat_map result_seeds ss) (of_result g)
    go more true t e = Contains-append_left (result_seeds s) (flat_map result_seeds ss) (of_result g)
        (seed_there s g (ap (λ (y : Signature). y.host && gives_result y) (some_same s.1 x e) ∙ gives) (nat_eq_same g s.0 t))
    go more false t e = Contains-append_right (result_seeds s) (flat_map result_seeds ss) (of_result g) (more e)

mapped_there : (p : MonitorTree) (ns : List Node) (n : Node) → Contains ns n → Contains (map (slot_of p) ns) (slot_of p n)
mapped_there p [] n there = absurd (contains_nothing n there)
mapped_there p (m ∷ ms) n there =
    ⊎_elim (λ is. subst (λ k. Contains (map (slot_of p) (m ∷ ms)) (slot_of p k)) is (contains_first (slot_of p m) (map (slot_of p) ms)))
    (λ later. contains_later (slot_of p m) (map (slot_of p) ms) (slot_of p n) (mapped_there p ms n later)) (contains_cases m ms n there)

abbrev privileged_in : Signature → Bool
privileged_in x = x.privileged

pub hosts_secret : (p : MonitorTree) (g : ℕ) → (signature_in (monitor_program p) g).host ≡ true → (signature_in (monitor_program p) g).privileged ≡ true → IsTrue (is_some (signature_in (monitor_program p) g).result) → is_secret p (of_result g) ≡ true
hosts_secret p g host privileged some = go (lookup (nat_eq g) p.signatures) refl
  where
    gives_it : (b c d : Bool) → b ≡ true → c ≡ true → d ≡ true → (b && (d && (not b || c))) ≡ true
    gives_it true true true h k l = refl
    gives_it true true false h k l = l
    gives_it true false d h k l = false_not_true k
    gives_it false c d h k l = false_not_true h

    go : (o : Option Signature) → lookup (nat_eq g) p.signatures ≡ o → is_secret p (of_result g) ≡ true
    go None e = true_and_false (signature_in (monitor_program p) g).privileged privileged (ap (λ o. privileged_in (unwrap_or o no_signature)) e)
    go (Some x) e =
        let same : signature_in (monitor_program p) g ≡ x = ap (λ o. unwrap_or o no_signature) e in
        let gives : (x.host && gives_result x) ≡ true = subst (λ (y : Signature). (y.host && gives_result y) ≡ true) same
        (gives_it (signature_in (monitor_program p) g).host (signature_in (monitor_program p) g).privileged (is_some (signature_in (monitor_program p) g).result) host privileged some) in
        let there : Contains (seed_nodes p) (of_result g) =
        Contains-append_right (flat_map (variable_seeds (marked_structs p.structs)) p.functions) (flat_map result_seeds p.signatures ++ flat_map (global_seeds (marked_structs p.structs)) p.globals) (of_result g)
        (Contains-append_left (flat_map result_seeds p.signatures) (flat_map (global_seeds (marked_structs p.structs)) p.globals) (of_result g) (result_seed g p.signatures x e gives)) in
        secret_told p (of_result g) (slot_of p (of_result g), [], mapped_there p (seed_nodes p) (of_result g) there, refl)

-- ---- tables

pub mixed_table : (model : HostModel) (s : Signature) → is_mixed s ≡ true → IsTrue (fits model s) → IsTable model
mixed_table model s mixed fit = go model fit
  where
    wrong : (model : HostModel) → has_right_params s model ≡ false → IsTrue (fits model s) → ⊥
    wrong model unfit fit = false_not_true (sym (ap (λ (b : Bool). b && has_numbers_in_range s model && has_short_name model) unfit) ∙ fit)

    last : (b : Bool) → (b && not true) ≡ false
    last true = refl
    last false = refl

    third : (b c : Bool) → (b && c && not true) ≡ false
    third true true = refl
    third true false = refl
    third false c = refl

    go : (model : HostModel) → IsTrue (fits model s) → IsTable model
    go (Table rows other) fit = record { rows = rows; other = other; is = refl }
    go (Feed values other next) fit = absurd (wrong (Feed values other next) (ap (λ (b : Bool). is_some s.result && not b) mixed ∙ last (is_some s.result)) fit)
    go (Input next) fit = absurd (wrong (Input next) (ap (λ (b : Bool). gives_int s.result && nat_eq (length s.params) 0 && not b) mixed ∙ third (gives_int s.result) (nat_eq (length s.params) 0)) fit)
    go Bytes fit = absurd (wrong Bytes (ap (λ (b : Bool). not (is_some s.result) && not b) mixed ∙ last (not (is_some s.result))) fit)
    go (Line name) fit = absurd (wrong (Line name) (ap (λ (b : Bool). not (is_some s.result) && not b) mixed ∙ last (not (is_some s.result))) fit)

-- ---- all that is known

pub knows : (p : MonitorTree) (hosts hosts' : Hosts) → IsTrue (is_sound true (monitor_program p)) → IsTrue (calls_no_plain_host (monitor_program p)) → MixedHostsAreSame (monitor_program p) hosts hosts' → Knows p (is_secret p) hosts
knows p hosts hosts' sound plain same = record {
  facts = facts_of true (monitor_program p) sound;
  plain = plain;
  follows = secrets_follow p;
  hosts = hosts_secret p;
  tables = λ f mixed. mixed_table (hosts f) (signature_in (monitor_program p) f) (both_hold_second (signature_in (monitor_program p) f).host (is_mixed (signature_in (monitor_program p) f)) mixed) (same f mixed).1;
}
