-- All nodes have their numbers, in order.
use Rattle.std.proofs.Common.{◌≡◌, ◌∙◌, ◌<◌, ⊎_elim, ℕ, zero, suc, ◌+◌, nat_eq, Bool, true, false, not, Some, List, [], ◌∷◌, ◌++◌, length, map, refl, sym, ap, ap₂, arith, append_assoc}
use Rattle.std.specs.Prelude.{◌&&◌, ◌||◌, Contains, cond, if◌then◌else◌, is_some, unwrap_or}
use Rattle.std.specs.List.{filter, flat_map, range_with_len}
use Rattle.std.specs.Map.{lookup}
use Rattle.std.proofs.lemmas.List.{map-append}
use Rattle.std.proofs.lemmas.List.Sums.{sum_by-cons}
use Rattle.pt_base.proofs.Booleans.{false_not_true}
use Rattle.pt_base.proofs.Lists.{length_pushed}
use Rattle.pt_base.proofs.Members.{contains_cases, contains_nothing}
use Rattle.pt_tree.specs.declared.signature.Signature.{Signature}
use Rattle.typed_tree.specs.declared.variable.Var.{Var}
use Rattle.pt_core.specs.CodeTree.{FunctionTree, GlobalTree, MonitorTree}
use Rattle.pt_core.specs.Calls.{no_signature, signature_in}
use Rattle.pt_core.specs.WellFormed.{monitor_program}
use Rattle.monitor_labels.specs.Nodes.{Node, of_result, of_global, of_control, before, controls_start, gives_result, globals_start, node_count, number_of, own_count, result_count, result_one, results_start, variable_count, variable_nodes, variable_start, variables_from}
use Rattle.monitor_labels.specs.Laws.{AuditedResultsAreNodes, NodesAreNumbered}
use Rattle.monitor_labels.specs.Searching.{IsOrdered}
use Rattle.monitor_labels.specs.Secrecy.{is_audited}
use Rattle.monitor_labels.proofs.CountLemmas.{sum_pushed}
use Rattle.monitor_labels.proofs.OrderLemmas.{before_seam}
use Rattle.monitor_labels.proofs.PlaceLemmas.{ordered}

range_append : (a m n : ℕ) → range_with_len a (m + n) ≡ range_with_len a m ++ range_with_len (a + m) n
range_append a zero n =
    let all : 0 + n ≡ n = omega arith in
    let from : a + 0 ≡ a = omega arith in
    ap (range_with_len a) all ∙ ap (λ k. range_with_len k n) (sym from)
range_append a (suc m) n =
    let more : suc m + n ≡ suc (m + n) = omega arith in
    let from : a + 1 + m ≡ a + suc m = omega arith in
    ap (range_with_len a) more ∙ ap (λ xs. a ∷ xs) (range_append (a + 1) m n ∙ ap (λ k. range_with_len (a + 1) m ++ range_with_len k n) from)

-- ---- of one kind

variables_numbers : (p : MonitorTree) (f i : ℕ) (xs : List Var) (n : ℕ) → n ≡ variable_start p f + i → map (number_of p) (variables_from f i xs) ≡ range_with_len n (length xs)
variables_numbers p f i [] n is = refl
variables_numbers p f i (x ∷ xs) n is =
    ap₂ (λ k ks. k ∷ ks) (sym is) (variables_numbers p f (i + 1) xs (n + 1) (let next : n + 1 ≡ variable_start p f + (i + 1) = omega (arith, is) in next))

functions_numbers : (p : MonitorTree) (done rest : List FunctionTree) (n : ℕ) → IsOrdered p → p.functions ≡ done ++ rest → n ≡ variable_count done →
    map (number_of p) (flat_map variable_nodes rest) ≡ range_with_len n (variable_count rest)
functions_numbers p done [] n order all is = refl
functions_numbers p done (f ∷ fs) n order all is =
    let start : variable_start p f.id ≡ variable_count done = ap variable_count (before_seam (λ (g : FunctionTree). g.id) p.functions done f fs order.functions all) in
    let here : n ≡ variable_start p f.id + 0 = omega (arith, start, is) in
    let next : n + own_count f ≡ variable_count (done ++ f ∷ []) = omega (arith, is, sum_pushed own_count done f) in
    map-append (number_of p) (variable_nodes f) (flat_map variable_nodes fs)
    ∙ ap₂ (λ us vs. us ++ vs) (variables_numbers p f.id 0 f.vars n here)
    (functions_numbers p (done ++ f ∷ []) fs (n + own_count f) order (all ∙ sym (append_assoc done (f ∷ []) fs)) next)
    ∙ sym (range_append n (own_count f) (variable_count fs))
    ∙ ap (range_with_len n) (sym (sum_by-cons own_count f fs))

result_numbers : (p : MonitorTree) (s : ℕ × Signature) (ss : List (ℕ × Signature)) (n : ℕ) (b : Bool) → number_of p (of_result s.0) ≡ n →
    map (number_of p) (map (λ (x : ℕ × Signature). of_result x.0) ss) ≡ range_with_len (n + (if b then 1 else 0)) (length ss) →
    map (number_of p) (map (λ (x : ℕ × Signature). of_result x.0) (cond b (s ∷ ss) ss)) ≡ range_with_len n ((if b then 1 else 0) + length ss)
result_numbers p s ss n true here rest =
    let count : 1 + length ss ≡ suc (length ss) = omega arith in
    ap₂ (λ k ks. k ∷ ks) here rest ∙ ap (range_with_len n) (sym count)
result_numbers p s ss n false here rest =
    let from : n + 0 ≡ n = omega arith in
    let count : length ss ≡ 0 + length ss = omega arith in
    rest ∙ ap (λ k. range_with_len k (length ss)) from ∙ ap (range_with_len n) count

results_numbers : (p : MonitorTree) (done rest : List (ℕ × Signature)) (n : ℕ) → IsOrdered p → p.signatures ≡ done ++ rest → n ≡ results_start p + result_count done →
    (map (number_of p) (map (λ (x : ℕ × Signature). of_result x.0) (filter (λ (x : ℕ × Signature). gives_result x.1) rest)) ≡ range_with_len n (result_count rest)) × (length (filter (λ (x : ℕ × Signature). gives_result x.1) rest) ≡ result_count rest)
results_numbers p done [] n order all is = (refl, refl)
results_numbers p done (s ∷ ss) n order all is =
    let same : result_count (before (λ (x : ℕ × Signature). x.0) s.0 p.signatures) ≡ result_count done = ap result_count (before_seam (λ (x : ℕ × Signature). x.0) p.signatures done s ss order.signatures all) in
    let here : number_of p (of_result s.0) ≡ n = omega (arith, same, is) in
    let next : n + result_one s ≡ results_start p + result_count (done ++ s ∷ []) = omega (arith, is, sum_pushed result_one done s) in
    let given : List (ℕ × Signature) = filter (λ (x : ℕ × Signature). gives_result x.1) ss in
    let rest = results_numbers p (done ++ s ∷ []) ss (n + result_one s) order (all ∙ sym (append_assoc done (s ∷ []) ss)) next in (
      result_numbers p s given n (gives_result s.1) here (rest.0 ∙ ap (range_with_len (n + result_one s)) (sym rest.1)) ∙ ap (λ k. range_with_len n (result_one s + k)) rest.1 ∙ ap (range_with_len n) (sym (sum_by-cons result_one s ss)),
      counted (gives_result s.1) s given (result_count ss) rest.1 ∙ sym (sum_by-cons result_one s ss),
    )
  where
    counted : (b : Bool) (s : ℕ × Signature) (ss : List (ℕ × Signature)) (n : ℕ) → length ss ≡ n → length (cond b (s ∷ ss) ss) ≡ (if b then 1 else 0) + n
    counted true s ss n e = omega (arith, e)
    counted false s ss n e = omega (arith, e)

-- one number for each of a list
plain_numbers : {X : Type 0} (p : MonitorTree) (node : ℕ → Node) (key : X → ℕ) (start : ℕ) (everything : List X) → ((done : List X) (x : X) (rest : List X) → everything ≡ done ++ x ∷ rest → number_of p (node (key x)) ≡ start + length done) →
    (done rest : List X) (n : ℕ) → everything ≡ done ++ rest → n ≡ start + length done → map (number_of p) (map (λ x. node (key x)) rest) ≡ range_with_len n (length rest)
plain_numbers p node key start everything each done [] n all is = refl
plain_numbers p node key start everything each done (x ∷ rest) n all is =
    let next : n + 1 ≡ start + length (done ++ x ∷ []) = omega (arith, is, length_pushed done x) in
    ap₂ (λ k ks. k ∷ ks) (each done x rest all ∙ sym is)
    (plain_numbers p node key start everything each (done ++ x ∷ []) rest (n + 1) (all ∙ sym (append_assoc done (x ∷ []) rest)) next)

-- ---- of all kinds

joined : (p : MonitorTree) (a b : List Node) (n k l : ℕ) → map (number_of p) a ≡ range_with_len n k → map (number_of p) b ≡ range_with_len (n + k) l → map (number_of p) (a ++ b) ≡ range_with_len n (k + l)
joined p a b n k l first second = map-append (number_of p) a b ∙ ap₂ (λ us vs. us ++ vs) first second ∙ sym (range_append n k l)

pub numbered_nodes : NodesAreNumbered
numbered_nodes p h =
    let order : IsOrdered p = ordered p h in
    let v : ℕ = variable_count p.functions in
    let r : ℕ = result_count p.signatures in
    let variables : map (number_of p) (flat_map variable_nodes p.functions) ≡ range_with_len 0 v = functions_numbers p [] p.functions 0 order refl refl in
    let results = (results_numbers p [] p.signatures (0 + v) order refl (let e : 0 + v ≡ v + 0 = omega arith in e)).0 in
    let globals = plain_numbers p of_global (λ (g : GlobalTree). g.id) (globals_start p) p.globals
    (λ done g rest all. ap (λ xs. globals_start p + length xs) (before_seam (λ (x : GlobalTree). x.id) p.globals done g rest order.globals all))
    [] p.globals (0 + v + r) refl (let e : 0 + v + r ≡ v + r + 0 = omega arith in e) in
    let controls = plain_numbers p of_control (λ (f : FunctionTree). f.id) (controls_start p) p.functions
    (λ done f rest all. ap (λ xs. controls_start p + length xs) (before_seam (λ (x : FunctionTree). x.id) p.functions done f rest order.functions all))
    [] p.functions (0 + v + r + length p.globals) refl (let e : 0 + v + r + length p.globals ≡ v + r + length p.globals + 0 = omega arith in e) in
    let count : v + (r + (length p.globals + length p.functions)) ≡ node_count p = omega arith in
    joined p _ _ 0 v (r + (length p.globals + length p.functions)) variables
    (joined p _ _ (0 + v) r (length p.globals + length p.functions) results
    (joined p _ _ (0 + v + r) (length p.globals) (length p.functions) globals controls))
    ∙ ap (range_with_len 0) count

-- ---- results

listed_found : (f : ℕ) (ss : List (ℕ × Signature)) → is_audited (unwrap_or (lookup (nat_eq f) ss) no_signature) ≡ true → result_count (before (λ s. s.0) f ss) < result_count ss
listed_found f [] h = false_not_true h
listed_found f (s ∷ ss) h = go (nat_eq f s.0) (λ k. listed_found f ss k) h
  where
    some : (a b : Bool) (r : Bool) → (a && (b && r)) ≡ true → r ≡ true
    some true true r k = k
    some true false r k = false_not_true k
    some false b r k = false_not_true k

    privileged : (a b : Bool) → (a && b) ≡ true → a ≡ true
    privileged true b k = refl
    privileged false b k = false_not_true k

    gives : (r h q : Bool) → r ≡ true → q ≡ true → (r && (not h || q)) ≡ true
    gives true true true k l = refl
    gives true false q k l = refl
    gives true true false k l = l
    gives false h q k l = false_not_true k

    one : (b : Bool) → b ≡ true → ◌≡◌ {A = ℕ} (if b then 1 else 0) 1
    one true e = refl
    one false e = false_not_true e

    go : (b : Bool) → (is_audited (unwrap_or (lookup (nat_eq f) ss) no_signature) ≡ true → result_count (before (λ (x : ℕ × Signature). x.0) f ss) < result_count ss) →
        is_audited (unwrap_or (if b then Some s.1 else lookup (nat_eq f) ss) no_signature) ≡ true → result_count (if b then [] else s ∷ before (λ (x : ℕ × Signature). x.0) f ss) < result_count (s ∷ ss)
    go true more k =
        let here : result_one s ≡ 1 = one (gives_result s.1) (gives (is_some s.1.result) s.1.host s.1.privileged (some s.1.privileged s.1.declassify (is_some s.1.result) k) (privileged s.1.privileged (s.1.declassify && is_some s.1.result) k)) in
        let whole : result_count (s ∷ ss) ≡ result_one s + result_count ss = sum_by-cons result_one s ss in
        let less : 0 < result_count (s ∷ ss) = omega (arith, here, whole) in
        less
    go false more k =
        let first : List (ℕ × Signature) = before (λ (x : ℕ × Signature). x.0) f ss in
        let rest : result_count first < result_count ss = more k in
        let front : result_count (s ∷ first) ≡ result_one s + result_count first = sum_by-cons result_one s first in
        let whole : result_count (s ∷ ss) ≡ result_one s + result_count ss = sum_by-cons result_one s ss in
        let less : result_count (s ∷ first) < result_count (s ∷ ss) = omega (arith, rest, front, whole) in
        less

audited_there : (test : ℕ → Bool) (ns : List ℕ) (f : ℕ) → Contains (filter test ns) f → test f ≡ true
audited_there test [] f there = absurd (contains_nothing f there)
audited_there test (n ∷ ns) f there = go (λ later. audited_there test ns f later) (test n) refl there
  where
    go : (Contains (filter test ns) f → test f ≡ true) → (b : Bool) → test n ≡ b → Contains (cond b (n ∷ filter test ns) (filter test ns)) f → test f ≡ true
    go more true e h = ⊎_elim (λ is. ap test (sym is) ∙ e) (λ later. more later) (contains_cases n (filter test ns) f h)
    go more false e h = more h

pub audited_nodes : AuditedResultsAreNodes
audited_nodes p f sound there =
    let is : is_audited (signature_in (monitor_program p) f) ≡ true = audited_there (λ n. is_audited (signature_in (monitor_program p) n)) (map (λ (g : FunctionTree). g.id) p.functions) f there in
    let less : result_count (before (λ (s : ℕ × Signature). s.0) f p.signatures) < result_count p.signatures = listed_found f p.signatures is in
    omega (arith, less)
