-- The slots of what is found are privileged.
use Rattle.std.proofs.Common.{◌≡◌, ◌∙◌, ◌<◌, ◌+◌, ℕ, zero, suc, ap, sym, subst, arith, ◌⊎◌, inl, inr, Bool, true, false, List, [], ◌∷◌, ◌++◌, Option, Some, length, map}
use Rattle.std.specs.Prelude.{◌&&◌, if◌then◌else◌, is_some}
use Rattle.std.specs.List.{Contains, flat_map, range_with_len}
use Rattle.std.specs.Option.{option_map_or}
use Rattle.std.proofs.lemmas.List.Elements.{Contains-append_cases}
use Rattle.pt_base.specs.declared.ids.FnId.{FnId}
use Rattle.pt_base.specs.declared.span.Span.{Span}
use Rattle.pt_base.proofs.Members.{contains_cases, contains_nothing}
use Rattle.pt_tree.specs.declared.signature.Param.{Param}
use Rattle.propagation.specs.Marks.{Shown, path_shown}
use Rattle.sides.specs.declared.objects.Object.{Object}
use Rattle.sides.specs.Carried.{carried, place_slots, scope_of}
use Rattle.sides.specs.Leaves.{leaf_count}
use Rattle.sides.specs.Objects.{global_objects, variable_objects}
use Rattle.usages.specs.declared.usage.How.{How}
use Rattle.usages.specs.declared.usage.How.TheVariants.{Kept, Operated, Passed, Begins, Returned}
use Rattle.usages.specs.Usages.{UsageTree, usages_in}
use Rattle.reach.specs.Tables.{slot_number}
use Rattle.reach.proofs.ListLemmas.{from_filter, from_flat, from_map}
use Rattle.typed_tree.specs.declared.types.VarTy.{VarTy}
use Rattle.typed_tree.specs.declared.variable.TypedGlobal.{TypedGlobal}
use Rattle.typed_tree.specs.declared.variable.Var.{Var}
use Rattle.typed_tree.specs.ExpressionTree.{ExprTree, FormTree, typed, compound, step}
use Rattle.typed_tree.specs.Lookup.{function_at}
use Rattle.typed_tree.specs.TypedTree.{FunctionTree}
use Rattle.typed_tree.specs.WellFormedExpression.{ty_of}
use Rattle.flow_edges.specs.Edges.{span_of}
use Rattle.flow_rules.specs.declared.found.Found.{Found}
use Rattle.flow_rules.specs.declared.rule.Rule.{Rule}
use Rattle.flow_rules.specs.declared.rule.Rule.TheVariants.{OperationOnPriv, PrivToHost, PrivIntoUnpriv, PrivToPlainParam, PrivStatus}
use Rattle.flow_rules.specs.Findings.{Finding, changed_operand, changed_operands, finding, findings_of, found, found_if, function_findings, function_is, global_findings, host_in_monitor, is_main_function, is_slave_host, is_unmarked_param, monitor_findings, objects_findings, operation_on_priv, priv_into_unpriv, priv_main, priv_status, priv_to_host, priv_to_plain_param, shared_globals, slave_findings, unmarked_out, unmarked_outs, usage_findings, variables_findings}
use Rattle.flow_rules.specs.Kept.{first_of, kept}
use Rattle.flow_rules.specs.Secrets.{Flows, secret_slots, secrets_of, unmarked_leaves, value_leaves}
use Rattle.flow_rules.specs.Told.{AllShownPriv}

abbrev pub AllPriv : Flows → List Finding → Type 0
AllPriv p xs = (x : Finding) → Contains xs x → (s : ℕ) → Contains x.slots s → p.is_priv s ≡ true

-- ---- lists of findings

nothing : (p : Flows) → AllPriv p []
nothing p x c s h = absurd (contains_nothing x c)

both : (p : Flows) (xs ys : List Finding) → AllPriv p xs → AllPriv p ys → AllPriv p (xs ++ ys)
both p xs ys a b x c s h = go (Contains-append_cases xs ys x c)
  where
    go : Contains xs x ⊎ Contains ys x → p.is_priv s ≡ true
    go (inl i) = a x i s h
    go (inr i) = b x i s h

each : {X : Type 0} (p : Flows) (f : X → List Finding) (xs : List X) → ((x : X) → AllPriv p (f x)) → AllPriv p (flat_map f xs)
each p f xs all x c s h = let r = from_flat f xs x c in all r.0 x r.2 s h

one : (p : Flows) (y : Finding) → ((s : ℕ) → Contains y.slots s → p.is_priv s ≡ true) → AllPriv p (y ∷ [])
one p y all x c s h = go (contains_cases y [] x c)
  where
    go : (y ≡ x) ⊎ Contains [] x → p.is_priv s ≡ true
    go (inl e) = all s (subst (λ (z : Finding). Contains z.slots s) (sym e) h)
    go (inr i) = absurd (contains_nothing x i)

found_priv : (p : Flows) (rule : Rule) (span : Span) (slots : List ℕ) → ((s : ℕ) → Contains slots s → p.is_priv s ≡ true) → AllPriv p (found rule span slots)
found_priv p rule span [] all = nothing p
found_priv p rule span (s ∷ ss) all = one p (finding rule span (s ∷ ss)) all

found_secrets : (p : Flows) (rule : Rule) (span : Span) (starts leaves : List ℕ) → AllPriv p (found rule span (secret_slots p starts leaves))
found_secrets p rule span starts leaves = found_priv p rule span (secret_slots p starts leaves) (λ s h. (from_filter p.is_priv (flat_map (λ k. map (λ j. k + j) leaves) starts) s h).1)

found_if_priv : (p : Flows) (wrong : Bool) (rule : Rule) (span : Span) → AllPriv p (found_if wrong rule span)
found_if_priv p true rule span = one p (finding rule span []) (λ s h. absurd (contains_nothing s h))
found_if_priv p false rule span = nothing p

where_so : (p : Flows) (b : Bool) (xs : List Finding) → AllPriv p xs → AllPriv p (if b then xs else [])
where_so p true xs all = all
where_so p false xs all = nothing p

-- a value
valued : (p : Flows) (f : FnId) (rule : Rule) (e : ExprTree) → AllPriv p (found rule (span_of e) (secrets_of p f e))
valued p f rule e = found_secrets p rule (span_of e) (carried (scope_of p.tree f.0) e) (value_leaves p.tree.structs (ty_of e))

-- ---- the rules

operated : (p : Flows) (f : FnId) (how : How) (e : ExprTree) → AllPriv p (operation_on_priv p f how e)
operated p f Operated e = valued p f OperationOnPriv e
operated p f Kept e = nothing p
operated p f (Passed g k) e = nothing p
operated p f (Begins v k) e = nothing p
operated p f Returned e = nothing p

changed : (p : Flows) (f : FnId) (ty : Option VarTy) (form : FormTree) → AllPriv p (changed_operand p f ty form)
changed p f ty (compound pl at op a) = found_secrets p OperationOnPriv at (place_slots (scope_of p.tree f.0) pl) (value_leaves p.tree.structs ty)
changed p f ty (step pl at back postfix) = found_secrets p OperationOnPriv at (place_slots (scope_of p.tree f.0) pl) (value_leaves p.tree.structs ty)
changed p f ty _ = nothing p

changes : (p : Flows) (f : FnId) (e : ExprTree) → AllPriv p (changed_operands p f e)
changes p f (typed s ty form) = changed p f ty form

to_host : (p : Flows) (f : FnId) (how : How) (e : ExprTree) → AllPriv p (priv_to_host p f how e)
to_host p f (Passed g k) e = where_so p (function_is (λ x. is_slave_host x && is_unmarked_param x k) p.tree g) (found PrivToHost (span_of e) (secrets_of p f e)) (valued p f PrivToHost e)
to_host p f Operated e = nothing p
to_host p f Kept e = nothing p
to_host p f (Begins v k) e = nothing p
to_host p f Returned e = nothing p

to_plain : (p : Flows) (f : FnId) (how : How) (e : ExprTree) → AllPriv p (priv_to_plain_param p f how e)
to_plain p f (Passed g k) e =
    where_so p (function_is (λ x. x.signature.privileged && is_unmarked_param x k) p.tree g)
    (found PrivToPlainParam (span_of e) (secret_slots p (carried (scope_of p.tree f.0) e) (unmarked_leaves p.tree.structs (ty_of e))))
    (found_secrets p PrivToPlainParam (span_of e) (carried (scope_of p.tree f.0) e) (unmarked_leaves p.tree.structs (ty_of e)))
to_plain p f Operated e = nothing p
to_plain p f Kept e = nothing p
to_plain p f (Begins v k) e = nothing p
to_plain p f Returned e = nothing p

status : (p : Flows) (f : FnId) (how : How) (e : ExprTree) → AllPriv p (priv_status p f how e)
status p f Returned e = where_so p (function_is is_main_function p.tree f) (found PrivStatus (span_of e) (secrets_of p f e)) (valued p f PrivStatus e)
status p f Operated e = nothing p
status p f Kept e = nothing p
status p f (Passed g k) e = nothing p
status p f (Begins v k) e = nothing p

usage : (p : Flows) (f : FnId) (u : UsageTree) → AllPriv p (usage_findings p f u)
usage p f u =
    both p (operation_on_priv p f u.how u.value ++ changed_operands p f u.value) (priv_to_host p f u.how u.value ++ (priv_to_plain_param p f u.how u.value ++ priv_status p f u.how u.value))
    (both p (operation_on_priv p f u.how u.value) (changed_operands p f u.value) (operated p f u.how u.value) (changes p f u.value))
    (both p (priv_to_host p f u.how u.value) (priv_to_plain_param p f u.how u.value ++ priv_status p f u.how u.value) (to_host p f u.how u.value)
    (both p (priv_to_plain_param p f u.how u.value) (priv_status p f u.how u.value) (to_plain p f u.how u.value) (status p f u.how u.value)))

unprivileged : (p : Flows) (x : Var) (o : Object) → AllPriv p (priv_into_unpriv p x o)
unprivileged p x o =
    where_so p x.unpriv (found PrivIntoUnpriv x.span (secret_slots p (o.start ∷ []) (range_with_len 0 (leaf_count p.tree.structs o.ty))))
    (found_secrets p PrivIntoUnpriv x.span (o.start ∷ []) (range_with_len 0 (leaf_count p.tree.structs o.ty)))

objects : (p : Flows) (xs : List Var) (os : List Object) → AllPriv p (objects_findings p xs os)
objects p [] os = nothing p
objects p (x ∷ xs) [] = nothing p
objects p (x ∷ xs) (o ∷ os) = both p (priv_into_unpriv p x o) (objects_findings p xs os) (unprivileged p x o) (objects p xs os)

shared : (p : Flows) (g : ℕ) (xs : List TypedGlobal) → AllPriv p (shared_globals p g xs)
shared p g [] = nothing p
shared p g (x ∷ xs) = both p _ (shared_globals p (suc g) xs) (found_if_priv p _ _ _) (shared p (suc g) xs)

outs : (p : Flows) (qs : List Param) (xs : List Var) → AllPriv p (unmarked_outs qs xs)
outs p [] xs = nothing p
outs p (q ∷ qs) [] = nothing p
outs p (q ∷ qs) (x ∷ xs) = both p _ (unmarked_outs qs xs) (found_if_priv p _ _ _) (outs p qs xs)

function : (p : Flows) (f : FunctionTree) → AllPriv p (function_findings f)
function p f = both p (unmarked_out f) (priv_main f) (where_so p f.signature.privileged (unmarked_outs f.signature.params f.vars) (outs p f.signature.params f.vars)) (found_if_priv p _ _ _)

slave : (p : Flows) (f : FnId) → AllPriv p (slave_findings p f)
slave p f = both p (flat_map (usage_findings p f) (usages_in p.tree f)) (variables_findings p f) (each p (usage_findings p f) (usages_in p.tree f) (usage p f)) (objects p (option_map_or (λ x. x.vars) (function_at p.tree f) []) (variable_objects p.tree f.0))

monitor : (p : Flows) (f : FnId) → AllPriv p (monitor_findings p f)
monitor p f = each p (host_in_monitor p) (usages_in p.tree f) (λ u. found_if_priv p _ _ _)

globals : (p : Flows) → AllPriv p (global_findings p)
globals p =
    both p (objects_findings p (map (λ x. x.var) p.tree.globals) (global_objects p.tree)) (shared_globals p 0 p.tree.globals)
    (objects p (map (λ x. x.var) p.tree.globals) (global_objects p.tree)) (shared p 0 p.tree.globals)

pub all_findings : (p : Flows) → AllPriv p (findings_of p)
unfolding findings_of
all_findings p =
    both p (flat_map (slave_findings p) p.slave ++ flat_map (monitor_findings p) p.monitor) (global_findings p ++ flat_map function_findings p.tree.functions)
    (both p (flat_map (slave_findings p) p.slave) (flat_map (monitor_findings p) p.monitor) (each p (slave_findings p) p.slave (slave p)) (each p (monitor_findings p) p.monitor (monitor p)))
    (both p (global_findings p) (flat_map function_findings p.tree.functions) (globals p) (each p function_findings p.tree.functions (function p)))

-- ---- what is kept of them

first_in : (ss : List ℕ) (s : ℕ) → first_of ss ≡ Some s → Contains ss s
first_in [] s h = cc
first_in (t ∷ ts) s h = let e : t ≡ s = cc in (0, omega arith, e)

pub shown_priv : (p : Flows) (list places slice : List Found) → list ≡ map kept (findings_of p) → ((x : Found) → Contains places x → Contains list x) → slice ≡ places → AllShownPriv p slice
shown_priv p list places slice are some same = subst (AllShownPriv p) (sym same) all
  where
    all : AllShownPriv p places
    all x c s h =
        let r = from_map kept (findings_of p) x (subst (λ (xs : List Found). Contains xs x) are (some x c)) in
        let slot : first_of r.0.slots ≡ Some s = ap (λ (y : Found). y.slot) r.2 ∙ h in
        all_findings p r.0 r.1 s (first_in r.0.slots s slot)

-- ---- a privileged slot is one of those that are marked

pub priv_below : (marks : Shown) (n : ℕ) → is_some (path_shown marks (slot_number n)) ≡ true → n < length marks
priv_below [] n h = cc
priv_below (m ∷ ms) zero h = omega arith
priv_below (m ∷ ms) (suc n) h = let lt : n < length ms = priv_below ms n h in omega (arith, lt)
