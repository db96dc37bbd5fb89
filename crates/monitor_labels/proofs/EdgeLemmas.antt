-- Edges of lists of nodes, one behind the other.
use Rattle.std.proofs.Common.{◌≡◌, ◌∙◌, ℕ, Bool, true, false, List, [], ◌∷◌, ◌++◌, map, Option, Some, None, refl, sym, ap, ap₂, append_assoc}
use Rattle.std.specs.Prelude.{if◌then◌else◌, option_map}
use Rattle.std.proofs.lemmas.List.{map-append}
use Rattle.pt_base.specs.declared.slot.Edge.{Edge}
use Rattle.pt_base.specs.declared.slot.Slot.{Slot}
use Rattle.pt_base.proofs.Lists.{map_of_map}
use Rattle.pt_base.proofs.Options.{some_same}
use Rattle.pt_core.specs.CodeTree.{ExprTrees, FunctionTree, MonitorTree}
use Rattle.pt_core.specs.Calls.{function_in}
use Rattle.pt_core.specs.WellFormed.{monitor_program}
use Rattle.monitor_labels.specs.Nodes.{Node, of_control, slot_of}
use Rattle.monitor_labels.specs.Arrows.{Arrow, alias_arrows, all_arrows, all_reads, arrows_back, arrows_to, function_arrows, function_call_arrows, host_arrows, joined_pairs, joined_to}
use Rattle.monitor_labels.specs.Labels.{edge_between, edge_of, edges_along, label_edges}
use Rattle.monitor_labels.specs.Scopes.{edges_back, edges_if, edges_to, pair_edges}

pub two_added : {X : Type 0} (a b c xs ys : List X) → b ≡ a ++ xs → c ≡ b ++ ys → c ≡ a ++ (xs ++ ys)
two_added a b c xs ys first second = second ∙ ap (λ us. us ++ ys) first ∙ append_assoc a xs ys

pub three_added : {X : Type 0} (a b c d xs ys zs : List X) → b ≡ a ++ xs → c ≡ b ++ ys → d ≡ c ++ zs → d ≡ a ++ (xs ++ (ys ++ zs))
three_added a b c d xs ys zs first second third = two_added a b d xs (ys ++ zs) first (two_added b c d ys zs second third)

pub edges_to_append : (p : MonitorTree) (xs ys : List Node) (to : Slot) → edges_to p (xs ++ ys) to ≡ edges_to p xs to ++ edges_to p ys to
edges_to_append p xs ys to = map-append (λ n. edge_between (slot_of p n) to) xs ys

pub edges_along_append : (p : MonitorTree) (xs ys : List Arrow) → edges_along p (xs ++ ys) ≡ edges_along p xs ++ edges_along p ys
edges_along_append p xs ys = map-append (edge_of p) xs ys

pub along_to : (p : MonitorTree) (t : Node) (ns : List Node) → edges_along p (arrows_to (Some t) ns) ≡ edges_to p ns (slot_of p t)
along_to p t ns = map_of_map (edge_of p) (λ n. (n, t)) ns

pub along_if : (p : MonitorTree) (o : Option Node) (ns : List Node) → edges_along p (arrows_to o ns) ≡ edges_if p ns (option_map (slot_of p) o)
along_if p None ns = refl
along_if p (Some t) ns = along_to p t ns

pub along_back : (p : MonitorTree) (b : Bool) (t : Node) (o : Option Node) → edges_along p (arrows_back b (Some t) o) ≡ edges_back p b (slot_of p t) o
along_back p true t None = refl
along_back p true t (Some s) = refl
along_back p false t o = refl

-- from several, and from one more
pub one_more : (p : MonitorTree) (xs : List Node) (n : Node) (to from : Slot) (a b c : List Edge) → from ≡ slot_of p n → b ≡ a ++ edges_to p xs to → c ≡ b ++ edge_between from to ∷ [] → c ≡ a ++ edges_to p (xs ++ n ∷ []) to
one_more p xs n to from a b c is first second =
    two_added a b c (edges_to p xs to) (edge_between from to ∷ []) first second
    ∙ ap (λ f. a ++ (edges_to p xs to ++ edge_between f to ∷ [])) is
    ∙ ap (λ us. a ++ us) (sym (edges_to_append p xs (n ∷ []) to))

-- from several, from several others and from one more
pub two_and_one : (p : MonitorTree) (xs ys : List Node) (n : Node) (to from : Slot) (a b c d : List Edge) → from ≡ slot_of p n → b ≡ a ++ edges_to p xs to → c ≡ b ++ edges_to p ys to → d ≡ c ++ edge_between from to ∷ [] → d ≡ a ++ edges_to p (xs ++ (ys ++ n ∷ [])) to
two_and_one p xs ys n to from a b c d is first second third =
    two_added a b d (edges_to p xs to) (edges_to p (ys ++ n ∷ []) to) first (one_more p ys n to from b c d is second third)
    ∙ ap (λ us. a ++ us) (sym (edges_to_append p xs (ys ++ n ∷ []) to))

-- ---- to what a place lies in, if there is such

pub added_if : (p : MonitorTree) (o : Option Node) (ns : List Node) (to : Slot) (a d : List Edge) → option_map (slot_of p) o ≡ Some to → d ≡ a ++ edges_to p ns to → d ≡ a ++ edges_along p (arrows_to o ns)
added_if p o ns to a d is added = added ∙ ap (λ us. a ++ us) (ap (edges_if p ns) (sym is) ∙ sym (along_if p o ns))

pub assigned_added : (p : MonitorTree) (o : Option Node) (ns : List Node) (b : Bool) (start : Option Node) (to : Slot) (a d g : List Edge) → option_map (slot_of p) o ≡ Some to → d ≡ a ++ edges_to p ns to → g ≡ d ++ edges_back p b to start → g ≡ a ++ edges_along p (arrows_to o ns ++ arrows_back b o start)
assigned_added p None ns b start to a d g is one two = cc
assigned_added p (Some t) ns b start to a d g is one two =
    let same : slot_of p t ≡ to = some_same (slot_of p t) to is in
    two_added a d g (edges_to p ns to) (edges_back p b to start) one two
    ∙ ap (λ us. a ++ us)
    (ap₂ (λ us vs. us ++ vs) (ap (edges_to p ns) (sym same) ∙ sym (along_to p t ns)) (ap (λ s. edges_back p b s start) (sym same) ∙ sym (along_back p b t start))
    ∙ sym (edges_along_append p (arrows_to (Some t) ns) (arrows_back b (Some t) start)))

-- from several and from one more, to a node
pub returned_added : (p : MonitorTree) (t n : Node) (ns : List Node) (to from : Slot) (a b c : List Edge) → to ≡ slot_of p t → from ≡ slot_of p n → b ≡ a ++ edges_to p ns to → c ≡ b ++ edge_between from to ∷ [] → c ≡ a ++ edges_along p (arrows_to (Some t) (ns ++ n ∷ []))
returned_added p t n ns to from a b c here is first second =
    one_more p ns n to from a b c is first second
    ∙ ap (λ us. a ++ us) (ap (edges_to p (ns ++ n ∷ [])) here ∙ sym (along_to p t (ns ++ n ∷ [])))

-- ---- statements, one after the other

-- a condition, and two lists of statements
pub choice_added : (p : MonitorTree) (n : Node) (ns : List Node) (xs ys : List Arrow) (control : Slot) (a b c d : List Edge) → control ≡ slot_of p n → b ≡ a ++ edges_to p ns control → c ≡ b ++ edges_along p xs → d ≡ c ++ edges_along p ys →
    d ≡ a ++ edges_along p (arrows_to (Some n) ns ++ (xs ++ ys))
choice_added p n ns xs ys control a b c d is one two three =
    three_added a b c d (edges_to p ns control) (edges_along p xs) (edges_along p ys) one two three
    ∙ ap (λ us. a ++ us) (ap₂ (λ us vs. us ++ vs) (ap (edges_to p ns) is ∙ sym (along_to p n ns)) (sym (edges_along_append p xs ys)) ∙ sym (edges_along_append p (arrows_to (Some n) ns) (xs ++ ys)))

-- ---- both ways

joined_slots : (p : MonitorTree) (n : Node) (ms : List Node) → edges_along p (joined_to n ms) ≡ pair_edges (joined_to (slot_of p n) (map (slot_of p) ms))
joined_slots p n [] = refl
joined_slots p n (m ∷ ms) = ap (λ es. edge_between (slot_of p n) (slot_of p m) ∷ edge_between (slot_of p m) (slot_of p n) ∷ es) (joined_slots p n ms)

pub pairs_append : (xs ys : List (Slot × Slot)) → pair_edges (xs ++ ys) ≡ pair_edges xs ++ pair_edges ys
pairs_append xs ys = map-append (λ (q : Slot × Slot). edge_between q.0 q.1) xs ys

pair_slots : (p : MonitorTree) (ns : List Node) → edges_along p (joined_pairs ns) ≡ pair_edges (joined_pairs (map (slot_of p) ns))
pair_slots p [] = refl
pair_slots p (n ∷ ns) =
    edges_along_append p (joined_to n ns) (joined_pairs ns)
    ∙ ap₂ (λ us vs. us ++ vs) (joined_slots p n ns) (pair_slots p ns)
    ∙ sym (pairs_append (joined_to (slot_of p n) (map (slot_of p) ns)) (joined_pairs (map (slot_of p) ns)))

-- between all pointers and all globals, where the function is privileged
pub aliases_added : (p : MonitorTree) (pointers globals : List Node) (privileged : Bool) (none some all : List Slot) (a b : List Edge) → privileged ≡ true → none ≡ [] → some ≡ none ++ map (slot_of p) pointers → all ≡ some ++ map (slot_of p) globals →
    b ≡ a ++ pair_edges (joined_pairs all) → b ≡ a ++ edges_along p (if privileged then joined_pairs (pointers ++ globals) else [])
aliases_added p pointers globals privileged none some all a b is empty one two three =
    let slots : all ≡ map (slot_of p) (pointers ++ globals) =
    two ∙ ap (λ us. us ++ map (slot_of p) globals) (one ∙ ap (λ us. us ++ map (slot_of p) pointers) empty) ∙ sym (map-append (slot_of p) pointers globals) in
    three
    ∙ ap (λ us. a ++ us) (ap (λ ss. pair_edges (joined_pairs ss)) slots ∙ sym (pair_slots p (pointers ++ globals)) ∙ ap (λ t. edges_along p (if t then joined_pairs (pointers ++ globals) else [])) (sym is))

-- ---- a call

pub mixed_called : (p : MonitorTree) (f : FunctionTree) (n : ℕ) (host privileged : Bool) (args : ExprTrees) (o : Option Node) (to : Option Slot) (a b : List Edge) → host ≡ true → privileged ≡ false → to ≡ option_map (slot_of p) o →
    b ≡ a ++ edges_if p (all_reads f.id args ++ of_control f.id ∷ []) to → b ≡ a ++ edges_along p (if host then host_arrows f n privileged args o else function_call_arrows f (function_in (monitor_program p) n) n args o)
mixed_called p f n true false args o to a b is kind receiver added =
    added ∙ ap (λ us. a ++ us) (ap (edges_if p (all_reads f.id args ++ of_control f.id ∷ [])) receiver ∙ sym (along_if p o (all_reads f.id args ++ of_control f.id ∷ [])))
mixed_called p f n true true args o to a b is kind receiver added = cc
mixed_called p f n false privileged args o to a b is kind receiver added = cc

-- ---- a function

pub labels_are : (p q : MonitorTree) (n : ℕ) (f : FunctionTree) (a b c : List Edge) → q ≡ p → f ≡ function_in (monitor_program p) n → a ≡ [] → b ≡ a ++ edges_along q (alias_arrows q f) → c ≡ b ++ edges_along q (all_arrows q f f.body) → c ≡ label_edges p n
unfolding label_edges
labels_are p q n f a b c same is none one two =
    two_added a b c (edges_along q (alias_arrows q f)) (edges_along q (all_arrows q f f.body)) one two
    ∙ ap (λ us. us ++ (edges_along q (alias_arrows q f) ++ edges_along q (all_arrows q f f.body))) none
    ∙ sym (edges_along_append q (alias_arrows q f) (all_arrows q f f.body))
    ∙ ap₂ (λ (r : MonitorTree) (g : FunctionTree). edges_along r (function_arrows r g)) same is
