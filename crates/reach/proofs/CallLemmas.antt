-- What `propagation` tells of calls is what the definitions of the halves say.
use Rattle.std.proofs.Common.{◌≡◌, ◌∙◌, ◌<◌, ◌↔◌, ℕ, zero, suc, ◌+◌, refl, ap, sym, subst, arith, ◌⊎◌, inl, inr, Bool, true, false, Option, Some, None, IsTrue, List, [], ◌∷◌, ◌++◌, length, get_or, codes}
use Rattle.std.specs.Prelude.{if◌then◌else◌, slice_get, option_map}
use Rattle.std.specs.List.{All, Contains, filter}
use Rattle.std.specs.Option.{option_map_or}
use Rattle.std.proofs.lemmas.List.{get_or_default}
use Rattle.std.proofs.lemmas.List.Elements.{Contains-append_left, Contains-append_right, Contains-append_cases, All-nil, All-cons}
use Rattle.pt_base.specs.declared.ids.FnId.{FnId}
use Rattle.pt_base.specs.declared.slot.Slot.{Slot}
use Rattle.pt_base.specs.declared.slot.Edge.{Edge}
use Rattle.pt_base.proofs.Members.{contains_cases, contains_first, contains_later, contains_nothing}
use Rattle.typed_tree.specs.TypedTree.{FunctionTree, TypedTree}
use Rattle.typed_tree.specs.Lookup.{function_named, HasName}
use Rattle.propagation.specs.Paths.{no_edge, to_of, Leads, IsPriv}
use Rattle.propagation.proofs.LawLemmas.{leads_push}
use Rattle.reach.specs.declared.calls.Half.{Half}
use Rattle.reach.specs.declared.calls.Half.TheVariants.{Monitor, Slave}
use Rattle.reach.specs.CallGraph.{is_entered, call_edge, calls_of, calls_from, call_edges, main_start, privileged_from, half_starts}
use Rattle.reach.specs.Contexts.{test_function, has_body, is_privileged, is_plain, callees_in, Calls, InMonitor, privileged, monitor_calls, InSlave, main, slave_calls}
use Rattle.reach.specs.Reached.{InHalf, IsReached}
use Rattle.reach.proofs.ListLemmas.{contains_map, from_map, contains_filter, from_filter}

-- ---- the edges

abbrev fn_of : Slot → FnId
fn_of s = record { 0 = s.0 }

abbrev slot_of : FnId → Slot
slot_of f = record { 0 = f.0 }

-- a call in the body of `from`, of a function that is entered
record IsCall (t : TypedTree) (half : Half) (e : Edge) : Type 0 where
  pub calls : Calls t (fn_of e.from) (fn_of e.to)
  pub enters : test_function (is_entered half) t (fn_of e.to) ≡ true

call_of : (t : TypedTree) (half : Half) (f : ℕ) (e : Edge) → Contains (calls_of t half f) e → IsCall t half e × (e.from.0 ≡ f)
call_of t half f e h =
    let m = from_map (call_edge f) (filter (test_function (is_entered half) t) (callees_in t (record { 0 = f }))) e h in
    let k = from_filter (test_function (is_entered half) t) (callees_in t (record { 0 = f })) m.0 m.1 in
    (subst (λ (x : Edge). IsCall t half x) m.2 (record { calls = k.0; enters = k.1 }), ap (λ (x : Edge). x.from.0) (sym m.2))

call_in : (t : TypedTree) (half : Half) (f more : ℕ) (e : Edge) → Contains (calls_from t half f more) e → IsCall t half e × (e.from.0 < f + more)
call_in t half f zero e h = absurd (contains_nothing e h)
call_in t half f (suc more) e h = go (λ i. call_in t half (suc f) more e i) (Contains-append_cases (calls_of t half f) (calls_from t half (suc f) more) e h)
  where
    go : (Contains (calls_from t half (suc f) more) e → IsCall t half e × (e.from.0 < suc f + more)) → Contains (calls_of t half f) e ⊎ Contains (calls_from t half (suc f) more) e → IsCall t half e × (e.from.0 < f + suc more)
    go rest (inl i) = let c = call_of t half f e i in (c.0, let s : e.from.0 ≡ f = c.1 in omega arith)
    go rest (inr i) = let c = rest i in (c.0, let s : e.from.0 < suc f + more = c.1 in omega arith)

in_calls : (t : TypedTree) (half : Half) (f more i : ℕ) (e : Edge) → i < more → Contains (calls_of t half (f + i)) e → Contains (calls_from t half f more) e
in_calls t half f zero i e lt h = absurd (omega arith)
in_calls t half f (suc more) zero e lt h =
    let same : f + 0 ≡ f = omega arith in
    Contains-append_left (calls_of t half f) (calls_from t half (suc f) more) e (subst (λ g. Contains (calls_of t half g) e) same h)
in_calls t half f (suc more) (suc i) e lt h =
    let same : f + suc i ≡ suc f + i = omega arith in
    Contains-append_right (calls_of t half f) (calls_from t half (suc f) more) e (in_calls t half (suc f) more i e (omega arith) (subst (λ g. Contains (calls_of t half g) e) same h))

found_below : {X : Type 0} (xs : List X) (test : X → Bool) (k : ℕ) → option_map_or test (slice_get xs k) false ≡ true → k < length xs
found_below [] test k h = cc
found_below (x ∷ xs) test zero h = omega arith
found_below (x ∷ xs) test (suc k) h = omega (arith, found_below xs test k h)

all_from_members : {X : Type 0} (P : X → Type 0) (xs : List X) → ((x : X) → Contains xs x → P x) → All P xs
all_from_members P [] h = All-nil P
all_from_members P (x ∷ xs) h = All-cons P x xs (h x (contains_first x xs)) (all_from_members P xs (λ y i. h y (contains_later x xs y i)))

pub froms_within : (t : TypedTree) (half : Half) → All (λ e. e.from.0 < length t.functions) (call_edges t half)
froms_within t half = all_from_members (λ e. e.from.0 < length t.functions) (call_edges t half) (λ e h. let c = call_in t half 0 (length t.functions) e h in let lt : e.from.0 < 0 + length t.functions = c.1 in omega arith)

pub tos_within : (t : TypedTree) (half : Half) → All (λ e. e.to.0 < length t.functions) (call_edges t half)
tos_within t half = all_from_members (λ e. e.to.0 < length t.functions) (call_edges t half) (λ e h. found_below t.functions (is_entered half) e.to.0 (call_in t half 0 (length t.functions) e h).0.enters)

-- ---- where halves begin

-- the slot is that of a privileged function of a list, of which the first has the number f
abbrev IsPrivilegedAt : List FunctionTree → ℕ → Slot → Type 0
IsPrivilegedAt all f s = (i : ℕ) × (s.0 ≡ f + i) × (option_map_or is_privileged (slice_get all i) false ≡ true)

privileged_later : (x : FunctionTree) (xs : List FunctionTree) (f : ℕ) (s : Slot) → IsPrivilegedAt xs (suc f) s → IsPrivilegedAt (x ∷ xs) f s
privileged_later x xs f s r = (suc r.0, let e : s.0 ≡ suc f + r.0 = r.1 in omega arith, r.2)

privileged_in : (all : List FunctionTree) (f : ℕ) (s : Slot) → Contains (privileged_from f all) s → IsPrivilegedAt all f s
privileged_in [] f s h = absurd (contains_nothing s h)
privileged_in (x ∷ xs) f s h = go (λ i. privileged_in xs (suc f) s i) (is_privileged x) refl h
  where
    first : (Contains (privileged_from (suc f) xs) s → IsPrivilegedAt xs (suc f) s) → is_privileged x ≡ true → (record { 0 = f } ≡ s) ⊎ Contains (privileged_from (suc f) xs) s → IsPrivilegedAt (x ∷ xs) f s
    first rest e (inl same) = (0, let k : f ≡ s.0 = ap (λ (y : Slot). y.0) same in omega arith, e)
    first rest e (inr i) = privileged_later x xs f s (rest i)

    go : (Contains (privileged_from (suc f) xs) s → IsPrivilegedAt xs (suc f) s) → (b : Bool) → is_privileged x ≡ b → Contains (if b then record { 0 = f } ∷ privileged_from (suc f) xs else privileged_from (suc f) xs) s → IsPrivilegedAt (x ∷ xs) f s
    go rest true e i = first rest e (contains_cases (record { 0 = f }) (privileged_from (suc f) xs) s i)
    go rest false e i = privileged_later x xs f s (rest i)

in_privileged : (all : List FunctionTree) (f i : ℕ) → option_map_or is_privileged (slice_get all i) false ≡ true → Contains (privileged_from f all) (record { 0 = f + i })
in_privileged [] f i h = cc
in_privileged (x ∷ xs) f zero h = go (is_privileged x) refl
  where
    go : (b : Bool) → is_privileged x ≡ b → Contains (if b then record { 0 = f } ∷ privileged_from (suc f) xs else privileged_from (suc f) xs) (record { 0 = f + 0 })
    go true e = let same : f + 0 ≡ f = omega arith in subst (λ n. Contains (record { 0 = f } ∷ privileged_from (suc f) xs) (record { 0 = n })) (sym same) (contains_first (record { 0 = f }) (privileged_from (suc f) xs))
    go false e = cc
in_privileged (x ∷ xs) f (suc i) h = go (let same : suc f + i ≡ f + suc i = omega arith in subst (λ n. Contains (privileged_from (suc f) xs) (record { 0 = n })) same (in_privileged xs (suc f) i h)) (is_privileged x)
  where
    go : Contains (privileged_from (suc f) xs) (record { 0 = f + suc i }) → (b : Bool) → Contains (if b then record { 0 = f } ∷ privileged_from (suc f) xs else privileged_from (suc f) xs) (record { 0 = f + suc i })
    go rest true = contains_later (record { 0 = f }) (privileged_from (suc f) xs) (record { 0 = f + suc i }) rest
    go rest false = rest

-- main and privileged functions are functions
start_is : (t : TypedTree) (f : FnId) → HasName t f (codes "main") → f.0 < length t.functions
start_is t f h = go t.functions f.0 h
  where
    go : (xs : List FunctionTree) (k : ℕ) → option_map (λ s. s.name) (option_map (λ (g : FunctionTree). g.signature) (slice_get xs k)) ≡ Some (codes "main") → k < length xs
    go [] k h = cc
    go (x ∷ xs) zero h = omega arith
    go (x ∷ xs) (suc k) h = omega (arith, go xs k h)

-- the function named main is that of this name
abbrev pub NamesMain : TypedTree → Type 0
NamesMain t = (f : FnId) → (function_named t (codes "main") ≡ Some f) ↔ HasName t f (codes "main")

main_in : (t : TypedTree) → NamesMain t → (s : Slot) → Contains (half_starts t Slave) s → HasName t (fn_of s) (codes "main")
main_in t names s h = go (function_named t (codes "main")) refl h
  where
    go : (o : Option FnId) → function_named t (codes "main") ≡ o → Contains (main_start o) s → HasName t (fn_of s) (codes "main")
    go None e i = absurd (contains_nothing s i)
    go (Some f) e i = one (contains_cases (slot_of f) [] s i)
      where
        one : (slot_of f ≡ s) ⊎ Contains [] s → HasName t (fn_of s) (codes "main")
        one (inl same) = subst (λ (x : Slot). HasName t (fn_of x) (codes "main")) same ((names f).0 e)
        one (inr j) = absurd (contains_nothing s j)

in_main : (t : TypedTree) → NamesMain t → (f : FnId) → HasName t f (codes "main") → Contains (half_starts t Slave) (slot_of f)
in_main t names f h = subst (λ (o : Option FnId). Contains (main_start o) (slot_of f)) (sym ((names f).1 h)) (contains_first (slot_of f) [])

pub starts_within : (t : TypedTree) (half : Half) → NamesMain t → All (λ s. s.0 < length t.functions) (half_starts t half)
starts_within t Monitor names = all_from_members (λ s. s.0 < length t.functions) (half_starts t Monitor)
    (λ s h. let p = privileged_in t.functions 0 s h in let lt : p.0 < length t.functions = found_below t.functions is_privileged p.0 p.2 in let e : s.0 ≡ 0 + p.0 = p.1 in omega arith)
starts_within t Slave names = all_from_members (λ s. s.0 < length t.functions) (half_starts t Slave) (λ s h. start_is t (fn_of s) (main_in t names s h))

-- ---- along calls

start_in : (t : TypedTree) (half : Half) → NamesMain t → (s : Slot) → Contains (half_starts t half) s → InHalf t half (fn_of s)
start_in t Monitor names s h =
    let p = privileged_in t.functions 0 s h in
    let e : p.0 ≡ s.0 = let q : s.0 ≡ 0 + p.0 = p.1 in omega arith in
    privileged (fn_of s) (subst (λ i. option_map_or is_privileged (slice_get t.functions i) false ≡ true) e p.2)
start_in t Slave names s h = main (fn_of s) (main_in t names s h)

enters_plain : (t : TypedTree) (g : FnId) → test_function (is_entered Slave) t g ≡ true → IsTrue (test_function is_plain t g)
enters_plain t g h = h

call_on : (t : TypedTree) (half : Half) (e : Edge) → IsCall t half e → InHalf t half (fn_of e.from) → InHalf t half (fn_of e.to)
call_on t Monitor e c h = monitor_calls (fn_of e.from) (fn_of e.to) h c.calls c.enters
call_on t Slave e c h = slave_calls (fn_of e.from) (fn_of e.to) h c.calls c.enters

along : (t : TypedTree) (half : Half) (path : List ℕ) (a b : Slot) → Leads (call_edges t half) path a b → InHalf t half (fn_of a) → InHalf t half (fn_of b)
along t half [] a b h start = subst (λ (x : Slot). InHalf t half (fn_of x)) h start
along t half (k ∷ path) a b h start =
    let e : Edge = get_or (call_edges t half) k no_edge in
    let c = call_in t half 0 (length t.functions) (get_or (call_edges t half) k no_edge) (k, h.0, get_or_default (call_edges t half) k (get_or (call_edges t half) k no_edge) no_edge h.0) in
    along t half path (to_of (call_edges t half) k) b h.2 (call_on t half (get_or (call_edges t half) k no_edge) c.0 (subst (λ (x : Slot). InHalf t half (fn_of x)) (sym h.1) start))

pub priv_in : (t : TypedTree) (half : Half) → NamesMain t → (s : Slot) → IsPriv (half_starts t half) (call_edges t half) s → InHalf t half (fn_of s)
priv_in t half names s h = along t half h.1 h.0 s h.3 (start_in t half names h.0 h.2)

one_more : (seeds : List Slot) (edges : List Edge) (e : Edge) → Contains edges e → IsPriv seeds edges e.from → IsPriv seeds edges e.to
one_more seeds edges e c h =
    let is : get_or edges c.0 no_edge ≡ e = get_or_default edges c.0 no_edge e c.1 ∙ c.2 in
    (h.0, h.1 ++ c.0 ∷ [], h.2, subst (λ (x : Slot). Leads edges (h.1 ++ c.0 ∷ []) h.0 x) (ap (λ (x : Edge). x.to) is) (leads_push edges h.1 h.0 e.from c.0 h.3 c.1 (ap (λ (x : Edge). x.from) is)))

calls_on : (t : TypedTree) (half : Half) (f g : FnId) → f.0 < length t.functions → Calls t f g → test_function (is_entered half) t g ≡ true → IsPriv (half_starts t half) (call_edges t half) (slot_of f) → IsPriv (half_starts t half) (call_edges t half) (slot_of g)
calls_on t half f g lt calls enters h =
    let e : Edge = call_edge f.0 g in
    let c : Contains (calls_of t half (0 + f.0)) (call_edge f.0 g) =
    let same : f.0 ≡ 0 + f.0 = omega arith in
    subst (λ k. Contains (calls_of t half k) (call_edge f.0 g)) same (contains_map (call_edge f.0) (filter (test_function (is_entered half) t) (callees_in t f)) g (contains_filter (test_function (is_entered half) t) (callees_in t f) g calls enters)) in
    one_more (half_starts t half) (call_edges t half) (call_edge f.0 g) (in_calls t half 0 (length t.functions) f.0 (call_edge f.0 g) lt c) h

monitor_below : (t : TypedTree) (f : FnId) → InMonitor t f → f.0 < length t.functions
monitor_below t f (privileged g h) = found_below t.functions is_privileged g.0 h
monitor_below t f (monitor_calls h g r c e) = found_below t.functions has_body g.0 e

slave_below : (t : TypedTree) (f : FnId) → InSlave t f → f.0 < length t.functions
slave_below t f (main g h) = start_is t g h
slave_below t f (slave_calls h g r c e) = found_below t.functions is_plain g.0 e

monitor_priv : (t : TypedTree) (f : FnId) → InMonitor t f → IsPriv (half_starts t Monitor) (call_edges t Monitor) (slot_of f)
monitor_priv t f (privileged g h) =
    let c : Contains (privileged_from 0 t.functions) (record { 0 = 0 + g.0 }) = in_privileged t.functions 0 g.0 h in
    let e : 0 + g.0 ≡ g.0 = omega arith in
    (slot_of g, [], subst (λ n. Contains (privileged_from 0 t.functions) (record { 0 = n })) e c, refl)
monitor_priv t f (monitor_calls h g r c e) = calls_on t Monitor h g (monitor_below t h r) c e (monitor_priv t h r)

slave_priv : (t : TypedTree) → NamesMain t → (f : FnId) → InSlave t f → IsPriv (half_starts t Slave) (call_edges t Slave) (slot_of f)
slave_priv t names f (main g h) = (slot_of g, [], in_main t names g h, refl)
slave_priv t names f (slave_calls h g r c e) = calls_on t Slave h g (slave_below t h r) c e (slave_priv t names h r)

pub in_priv : (t : TypedTree) (half : Half) → NamesMain t → (f : FnId) → InHalf t half f → IsPriv (half_starts t half) (call_edges t half) (slot_of f)
in_priv t Monitor names f h = monitor_priv t f h
in_priv t Slave names f h = slave_priv t names f h

pub half_below : (t : TypedTree) (half : Half) (f : FnId) → InHalf t half f → f.0 < length t.functions
half_below t Monitor f h = monitor_below t f h
half_below t Slave f h = slave_below t f h

-- a truth for each function, by the paths of calls, tells which are in the half
pub reached_is : (t : TypedTree) (half : Half) → NamesMain t → (table : List Bool) → length table ≡ length t.functions →
    ((k : ℕ) → k < length t.functions → (get_or table k false ≡ true) ↔ IsPriv (half_starts t half) (call_edges t half) (record { 0 = k })) → IsReached t half table
reached_is t half names table size told = record {
  size = size;
  same = λ f. (inside f, outside f);
}
  where
    below : (xs : List Bool) (k : ℕ) → get_or xs k false ≡ true → k < length xs
    below [] k h = cc
    below (x ∷ xs) zero h = omega arith
    below (x ∷ xs) (suc k) h = omega (arith, below xs k h)

    inside : (f : FnId) → get_or table f.0 false ≡ true → InHalf t half f
    inside f h = priv_in t half names (slot_of f) ((told f.0 (let lt : f.0 < length table = below table f.0 h in omega arith)).0 h)

    outside : (f : FnId) → InHalf t half f → get_or table f.0 false ≡ true
    outside f h = (told f.0 (half_below t half f h)).1 (in_priv t half names f h)
