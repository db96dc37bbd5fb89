-- What the functions of an accepted program's halves are, and what those of the monitor call.
use Rattle.std.proofs.Common.{◌≡◌, ◌∙◌, ℕ, suc, refl, ap, sym, subst, Bool, true, false, cond, not, codes, Option, Some, None, List, [], ◌∷◌, ◌++◌, length, map, option_map}
use Rattle.std.specs.Prelude.{IsTrue, ◌&&◌, ◌||◌, is_none, is_some, nat_eq, nat_le, slice_get, unwrap_or}
use Rattle.std.specs.Option.{option_map_or}
use Rattle.std.specs.List.{Contains, AllByRecursion, find, flat_map, list_all, list_any}
use Rattle.std.specs.Str.{bytes_eq}
use Rattle.std.proofs.lemmas.Slice.Eq.{bytes_eq-Decides}
use Rattle.pt_base.specs.declared.ids.FnId.{FnId}
use Rattle.pt_base.specs.declared.span.Span.{Span}
use Rattle.pt_base.proofs.Booleans.{both_hold, both_hold_first, both_hold_second, false_not_true}
use Rattle.pt_base.proofs.Lists.{append_nil_first, append_nil_second}
use Rattle.pt_tree.specs.declared.signature.Param.{Param}
use Rattle.pt_tree.specs.declared.signature.Signature.{Signature}
use Rattle.usages.specs.Usages.{UsageTree, usages_in}
use Rattle.typed_tree.specs.StatementTree.{BodyTree}
use Rattle.typed_tree.specs.TypedTree.{TypedTree, FunctionTree}
use Rattle.typed_tree.specs.Lookup.{HasName, function_named, named_from}
use Rattle.typed_tree.specs.WellFormed.{body_sound, function_sound, is_block, is_int_result, is_start, is_well_formed, params_lead, scope_in, variable_sound}
use Rattle.typed_tree.specs.WellFormedExpression.{is_main}
use Rattle.typed_tree.specs.WellFormedStatement.{is_sound}
use Rattle.typed_tree.proofs.NameLemmas.{named_is}
use Rattle.typed_tree.proofs.WellFormedLemmas.{facts_of}
use Rattle.reach.specs.Contexts.{Calls, InMonitor, InSlave, callees_in, expr_callees, has_body, is_plain, is_privileged, main, monitor_calls, privileged, slave_calls, test_function}
use Rattle.reach.proofs.ListLemmas.{from_flat, from_map}
use Rattle.flow_edges.specs.Edges.{span_of}
use Rattle.flow_rules.specs.declared.accepted.Accepted.{Accepted}
use Rattle.flow_rules.specs.declared.rule.Rule.{Rule}
use Rattle.flow_rules.specs.declared.rule.Rule.TheVariants.{HostInMonitor, PrivMain}
use Rattle.flow_rules.specs.Faults.{IsAccepted, flows_of}
use Rattle.flow_rules.specs.Findings.{findings_of, found_if, function_findings, function_is, global_findings, host_in_monitor, is_main_function, is_plain_host, monitor_findings, priv_main, slave_findings, unmarked_out}
use Rattle.flow_rules.specs.Secrets.{Flows}
use Rattle.pt_core.specs.CodeTree as core
use Rattle.pt_core.specs.CoreRun.{main_in}
use Rattle.pt_core.specs.WellFormedStatement.{callees_of}
use Rattle.lowering.specs.Functions.{core_program, functions_from, signatures_from}
use Rattle.lowered_code_law.specs.NamesLaws.{LoweredNames}
use Rattle.split_law.proofs.LoweredCode.{all_code, sound_at}
use Rattle.split_law.proofs.Parts.{part}
use Rattle.pair_invariant_law.specs.Halves.{is_asked_for}
use Rattle.pair_invariant_law.proofs.AcceptedMembers.{found_stays, listed, none_of_each, none_passes}

abbrev function_id : ℕ → FnId
function_id n = record { 0 = n }

-- ---- bodies

-- where a test holds of the function of a number, there is one
tested : (test : FunctionTree → Bool) (t : TypedTree) (f : FnId) → IsTrue (test_function test t f) → (x : FunctionTree) × (slice_get t.functions f.0 ≡ Some x) × (test x ≡ true)
tested test t f h = go (slice_get t.functions f.0) refl h
  where
    go : (o : Option FunctionTree) → slice_get t.functions f.0 ≡ o → option_map_or test o false ≡ true → (x : FunctionTree) × (slice_get t.functions f.0 ≡ Some x) × (test x ≡ true)
    go None is k = false_not_true k
    go (Some x) is k = (x, is, k)

-- a function that has a body is no host
pub body_no_host : (t : TypedTree) (f : ℕ) (x : FunctionTree) → list_all (function_sound t) t.functions ≡ true → slice_get t.functions f ≡ Some x → is_some x.body ≡ true → x.signature.host ≡ false
body_no_host t f x sound is body =
    go x.body refl
    (both_hold_second (list_all (variable_sound t.structs) x.vars) (body_sound t x x.body)
    (both_hold_second (nat_le (length x.signature.params) 8 && params_lead x.signature.params x.vars) (list_all (variable_sound t.structs) x.vars && body_sound t x x.body) (sound_at t t.functions f x sound is)))
  where
    no : (b : Bool) → not b ≡ true → b ≡ false
    no false h = refl
    no true h = false_not_true h

    go : (o : Option BodyTree) → x.body ≡ o → body_sound t x o ≡ true → x.signature.host ≡ false
    go None e k = false_not_true (ap is_some (sym e) ∙ body)
    go (Some b) e k = no x.signature.host (both_hold_first (not x.signature.host) (is_block b && is_sound (scope_in t x) false false b) k)

host_no_body : (t : TypedTree) (f : ℕ) (x : FunctionTree) → list_all (function_sound t) t.functions ≡ true → slice_get t.functions f ≡ Some x → x.signature.host ≡ true → is_none x.body ≡ true
host_no_body t f x sound is host = go x.body refl
  where
    go : (o : Option BodyTree) → x.body ≡ o → is_none x.body ≡ true
    go None e = ap is_none e
    go (Some b) e = false_not_true (sym (body_no_host t f x sound is (ap is_some e)) ∙ host)

-- ---- the monitor's functions

pub monitor_has_body : (t : TypedTree) (f : FnId) → InMonitor t f → (x : FunctionTree) × (slice_get t.functions f.0 ≡ Some x) × (is_some x.body ≡ true)
monitor_has_body t f (privileged g h) = let x = tested is_privileged t g h in (x.0, x.1, both_hold_first (is_some x.0.body) x.0.signature.privileged x.2)
monitor_has_body t f (monitor_calls h g r c e) = tested has_body t g e

-- a privileged function is one of them
pub privileged_monitor : (t : TypedTree) (f : ℕ) (x : FunctionTree) → slice_get t.functions f ≡ Some x → is_some x.body ≡ true → x.signature.privileged ≡ true → InMonitor t (record { 0 = f })
privileged_monitor t f x is body priv =
    privileged (record { 0 = f }) (ap (λ (o : Option FunctionTree). option_map_or is_privileged o false) is ∙ both_hold (is_some x.body) x.signature.privileged body priv)

-- ---- no finding

unfound : (b : Bool) (rule : Rule) (span : Span) → found_if b rule span ≡ [] → b ≡ false
unfound true rule span e = cc
unfound false rule span e = refl

no_monitor_findings : (p : Flows) → findings_of p ≡ [] → flat_map (monitor_findings p) p.monitor ≡ []
unfolding findings_of
no_monitor_findings p h =
    append_nil_second (flat_map (slave_findings p) p.slave) (flat_map (monitor_findings p) p.monitor)
    (append_nil_first (flat_map (slave_findings p) p.slave ++ flat_map (monitor_findings p) p.monitor) (global_findings p ++ flat_map function_findings p.tree.functions) h)

no_function_findings : (p : Flows) → findings_of p ≡ [] → flat_map function_findings p.tree.functions ≡ []
unfolding findings_of
no_function_findings p h =
    append_nil_second (global_findings p) (flat_map function_findings p.tree.functions)
    (append_nil_second (flat_map (slave_findings p) p.slave ++ flat_map (monitor_findings p) p.monitor) (global_findings p ++ flat_map function_findings p.tree.functions) h)

-- The rule HostInMonitor: a host that the monitor's code calls is privileged or mixed.
pub monitor_hosts : (t : TypedTree) (a : Accepted) → IsAccepted t a → list_all (function_sound t) t.functions ≡ true → (f g : FnId) (x : FunctionTree) → InMonitor t f → Calls t f g → slice_get t.functions g.0 ≡ Some x → x.signature.host ≡ true →
    is_asked_for x.signature ≡ true
monitor_hosts t a accepted sound f g x here call is host =
    asked (is_none x.body) x.signature.host x.signature.privileged (list_any (λ (q : Param). q.marked) x.signature.params) (host_no_body t g.0 x sound is host) host
    (ap (λ (o : Option FunctionTree). option_map_or is_plain_host o false) (sym is) ∙ none_passes (function_is is_plain_host t) (expr_callees u.0.value) g u.2 (unfound (list_any (function_is is_plain_host t) (expr_callees u.0.value)) HostInMonitor (span_of u.0.value) nothing))
  where
    p : Flows
    p = flows_of t a.sides a.marks

    u : (v : UsageTree) × Contains (usages_in t f) v × Contains (expr_callees v.value) g
    u = from_flat (λ (v : UsageTree). expr_callees v.value) (usages_in t f) g call

    nothing : host_in_monitor p u.0 ≡ []
    nothing = none_of_each (host_in_monitor p) (usages_in t f) u.0 u.1 (none_of_each (monitor_findings p) p.monitor f ((accepted.sides.monitor.same f).1 here) (no_monitor_findings p accepted.faultless))

    asked : (none host priv marked : Bool) → none ≡ true → host ≡ true → ((none && not priv) && not marked) ≡ false → (priv || (host && (not priv && marked))) ≡ true
    asked false host priv marked n h e = false_not_true n
    asked true false priv marked n h e = false_not_true h
    asked true true true marked n h e = refl
    asked true true false true n h e = refl
    asked true true false false n h e = false_not_true (sym e)

-- ---- main

-- the number of main, which has a body
pub record IsMain (t : TypedTree) : Type 0 where
  pub number : ℕ
  pub function : FunctionTree
  pub is : slice_get t.functions number ≡ Some function
  pub start : is_start function ≡ true
  pub named : function_named t (codes "main") ≡ Some (record { 0 = number })

-- a function of this name has it
pub is_named : (t : TypedTree) (f : ℕ) (x : FunctionTree) → slice_get t.functions f ≡ Some x → is_main x.signature ≡ true → HasName t (record { 0 = f }) (codes "main")
is_named t f x is named =
    ap (λ (o : Option FunctionTree). option_map (λ (s : Signature). s.name) (option_map (λ (z : FunctionTree). z.signature) o)) is ∙ ap Some ((bytes_eq-Decides x.signature.name (codes "main")).0 named)

pub start_named : (x : FunctionTree) → is_start x ≡ true → is_main x.signature ≡ true
start_named x h = both_hold_first (is_main x.signature) (is_some x.body && (is_int_result x.signature.result && nat_eq (length x.signature.params) 0)) h

pub start_has_body : (x : FunctionTree) → is_start x ≡ true → is_some x.body ≡ true
start_has_body x h =
    both_hold_first (is_some x.body) (is_int_result x.signature.result && nat_eq (length x.signature.params) 0)
    (both_hold_second (is_main x.signature) (is_some x.body && (is_int_result x.signature.result && nat_eq (length x.signature.params) 0)) h)

starts : (fs : List FunctionTree) → list_any is_start fs ≡ true → (n : ℕ) × (x : FunctionTree) × (slice_get fs n ≡ Some x) × (is_start x ≡ true)
starts [] h = false_not_true h
starts (f ∷ fs) h = go (is_start f) refl (starts fs) h
  where
    go : (b : Bool) → is_start f ≡ b → (list_any is_start fs ≡ true → (n : ℕ) × (x : FunctionTree) × (slice_get fs n ≡ Some x) × (is_start x ≡ true)) → (b || list_any is_start fs) ≡ true →
        (n : ℕ) × (x : FunctionTree) × (slice_get (f ∷ fs) n ≡ Some x) × (is_start x ≡ true)
    go true is later k = (0, f, refl, is)
    go false is later k = let r = later k in (suc r.0, r.1, r.2, r.3)

pub main_of : (t : TypedTree) → IsTrue (is_well_formed t) → IsMain t
main_of t well =
    let s = starts t.functions (facts_of t well).start in
    record { number = s.0; function = s.1; is = s.2; start = s.3; named = (named_is t (codes "main") (function_id s.0) well).1 (is_named t s.0 s.1 s.2 (start_named s.1 s.3)) }

-- there is no other of its name
main_alone : (t : TypedTree) → IsTrue (is_well_formed t) → (m : IsMain t) (f : FnId) → HasName t f (codes "main") → m.number ≡ f.0
main_alone t well m f has = same m.number f (sym m.named ∙ (named_is t (codes "main") f well).1 has)
  where
    number : Option FnId → ℕ
    number None = 0
    number (Some n) = n.0

    same : (n : ℕ) (f : FnId) → ◌≡◌ {A = Option FnId} (Some (record { 0 = n })) (Some f) → n ≡ f.0
    same n f e = ap number e

-- The rule PrivMain: main isn't privileged.
main_plain : (t : TypedTree) (a : Accepted) → IsAccepted t a → (m : IsMain t) → m.function.signature.privileged ≡ false
main_plain t a accepted m =
    rest (is_main m.function.signature) m.function.signature.privileged (start_named m.function m.start)
    (unfound (is_main_function m.function && m.function.signature.privileged) PrivMain m.function.name
    (append_nil_second (unmarked_out m.function) (priv_main m.function)
    (none_of_each function_findings t.functions m.function (listed t.functions m.number m.function m.is) (no_function_findings (flows_of t a.sides a.marks) accepted.faultless))))
  where
    rest : (b c : Bool) → b ≡ true → (b && c) ≡ false → c ≡ false
    rest true c h e = e
    rest false c h e = false_not_true h

-- ---- the slave's functions

-- each has a body and isn't privileged
pub slave_is_plain : (t : TypedTree) (a : Accepted) → IsTrue (is_well_formed t) → IsAccepted t a → (f : FnId) → InSlave t f → (x : FunctionTree) × (slice_get t.functions f.0 ≡ Some x) × (is_some x.body ≡ true) × (x.signature.privileged ≡ false)
slave_is_plain t a well accepted f (main g h) =
    let m = main_of t well in
    (m.function, subst (λ (n : ℕ). slice_get t.functions n ≡ Some m.function) (main_alone t well m g h) m.is, start_has_body m.function m.start, main_plain t a accepted m)
slave_is_plain t a well accepted f (slave_calls h g r c e) =
    let x = tested is_plain t g e in
    (x.0, x.1, both_hold_first (is_some x.0.body) (not x.0.signature.privileged) x.2, no x.0.signature.privileged (both_hold_second (is_some x.0.body) (not x.0.signature.privileged) x.2))
  where
    no : (b : Bool) → not b ≡ true → b ≡ false
    no false k = refl
    no true k = false_not_true k

-- main is one of them
pub main_in_slave : (t : TypedTree) (m : IsMain t) → InSlave t (record { 0 = m.number })
main_in_slave t m = main (record { 0 = m.number }) (is_named t m.number m.function m.is (start_named m.function m.start))

-- ---- its number

abbrev names_main : ℕ × Signature → Bool
names_main s = bytes_eq s.1.name (codes "main")

-- the number of the first that has a signature of the name
named_number : (fs : List FunctionTree) (k : ℕ) → option_map (λ (s : ℕ × Signature). s.0) (find names_main (signatures_from k (map (λ (g : FunctionTree). g.signature) fs))) ≡ option_map (λ (o : FnId). o.0) (named_from k fs (codes "main"))
named_number [] k = refl
named_number (g ∷ fs) k = go (bytes_eq g.signature.name (codes "main")) (named_number fs (suc k))
  where
    go : (b : Bool) → option_map (λ (s : ℕ × Signature). s.0) (find names_main (signatures_from (suc k) (map (λ (g : FunctionTree). g.signature) fs))) ≡ option_map (λ (o : FnId). o.0) (named_from (suc k) fs (codes "main")) →
        option_map (λ (s : ℕ × Signature). s.0) (cond b (Some (k, g.signature)) (find names_main (signatures_from (suc k) (map (λ (g : FunctionTree). g.signature) fs))))
        ≡ option_map (λ (o : FnId). o.0) (cond b (Some (record { 0 = k })) (named_from (suc k) fs (codes "main")))
    go true h = refl
    go false h = h

main_found : (t : TypedTree) (m : IsMain t) → option_map (λ (s : ℕ × Signature). s.0) (find names_main (core_program t).signatures) ≡ Some m.number
main_found t m = named_number t.functions 0 ∙ ap (λ (o : Option FnId). option_map (λ (z : FnId). z.0) o) m.named

pub main_number : (t : TypedTree) (m : IsMain t) → main_in (core_program t) ≡ m.number
main_number t m = ap (λ (o : Option ℕ). unwrap_or o 0) (main_found t m)

-- so is it in a part that has its signature
pub part_main : (t : TypedTree) (m : IsMain t) (signed kept owned : ℕ → Bool) → signed m.number ≡ true → main_in (part signed kept owned (core_program t)) ≡ m.number
part_main t m signed kept owned has = ap (λ (o : Option ℕ). unwrap_or o 0) (found_stays names_main signed m.number (core_program t).signatures has (main_found t m))

-- ---- what code calls

-- what lowered code calls its body calls
called_there : (t : TypedTree) (f : FnId) (n : ℕ) → Contains (map (λ (x : FnId). x.0) (callees_in t f)) n → Calls t f (record { 0 = n })
called_there t f n h =
    let at = from_map (λ (x : FnId). x.0) (callees_in t f) n h in
    let same : at.0 ≡ function_id n = ap function_id at.2 in
    subst (λ (x : FnId). Contains (callees_in t f) x) same at.1

pub code_calls : LoweredNames → (t : TypedTree) → AllByRecursion (λ (c : core.FunctionTree). (n : ℕ) → Contains (callees_of c.body) n → Calls t (record { 0 = c.id }) (record { 0 = n })) (functions_from t 0 t.functions)
code_calls law t =
    all_code (λ (c : core.FunctionTree). (n : ℕ) → Contains (callees_of c.body) n → Calls t (record { 0 = c.id }) (record { 0 = n })) t
    (λ k f b is body n h. called_there t (record { 0 = k }) n ((law t k f b is body).1 n h))
