-- The nine rules: what each finds in a program.
use Rattle.std.specs.Prelude.{ℕ, suc, List, [], ◌∷◌, ◌++◌, Option, Bool, false, not, ◌&&◌, ◌||◌, if◌then◌else◌, is_none, map, nat_eq, slice_get}
use Rattle.std.specs.List.{flat_map, list_any, range_with_len}
use Rattle.std.specs.Option.{option_map_or}
use Rattle.pt_base.specs.declared.ids.FnId.{FnId}
use Rattle.pt_base.specs.declared.span.Span.{Span}
use Rattle.pt_tree.specs.declared.signature.Param.{Param}
use Rattle.sides.specs.declared.objects.Object.{Object}
use Rattle.usages.specs.declared.usage.How.{How}
use Rattle.usages.specs.declared.usage.How.TheVariants.{Operated, Passed, Returned}
use Rattle.sides.specs.Carried.{carried, place_slots, scope_of}
use Rattle.reach.specs.Contexts.{expr_callees, globals_in}
use Rattle.sides.specs.Leaves.{leaf_count}
use Rattle.sides.specs.Objects.{global_objects, variable_objects}
use Rattle.sides.specs.Seeds.{is_out}
use Rattle.usages.specs.Usages.{UsageTree, usages_in}
use Rattle.typed_tree.specs.declared.types.VarTy.{VarTy}
use Rattle.typed_tree.specs.declared.variable.TypedGlobal.{TypedGlobal}
use Rattle.typed_tree.specs.declared.variable.Var.{Var}
use Rattle.typed_tree.specs.ExpressionTree.{ExprTree, FormTree, PlaceTree, typed, compound, step}
use Rattle.typed_tree.specs.Lookup.{function_at}
use Rattle.typed_tree.specs.TypedTree.{FunctionTree, TypedTree}
use Rattle.typed_tree.specs.WellFormedExpression.{is_main, ty_of}
use Rattle.flow_edges.specs.Edges.{span_of}
use Rattle.flow_rules.specs.declared.rule.Rule.{Rule}
use Rattle.flow_rules.specs.declared.rule.Rule.TheVariants.{OperationOnPriv, PrivToHost, PrivIntoUnpriv, SharedGlobal, UnmarkedOut, HostInMonitor, PrivToPlainParam, PrivStatus, PrivMain}
use Rattle.flow_rules.specs.Secrets.{Flows, secret_slots, secrets_of, unmarked_leaves, value_leaves}
pub use Rattle.reach.specs.Contexts.{test_function as function_is}

-- A broken rule, where it shows, and the privileged slots that make it one; none where the rule speaks of no
-- secret.
pub record Finding : Type 0 where
  pub rule : Rule
  pub span : Span
  pub slots : List ℕ

abbrev pub finding : Rule → Span → List ℕ → Finding
finding rule span slots = record { rule = rule; span = span; slots = slots }

-- broken where one of these slots is privileged, which they all are
abbrev pub found : Rule → Span → List ℕ → List Finding
found rule span [] = []
found rule span (s ∷ ss) = finding rule span (s ∷ ss) ∷ []

-- broken where this holds
abbrev pub found_if : Bool → Rule → Span → List Finding
found_if wrong rule span = if wrong then finding rule span [] ∷ [] else []

-- ---- what functions and parameters are

-- the function has this parameter, and it isn't marked `priv`
abbrev pub is_unmarked_param : FunctionTree → ℕ → Bool
is_unmarked_param f k = option_map_or (λ q. not q.marked) (slice_get f.signature.params k) false

-- a host of the slave: it isn't privileged
abbrev pub is_slave_host : FunctionTree → Bool
is_slave_host f = is_none f.body && not f.signature.privileged

-- one of these that no parameter makes a mixed host
abbrev pub is_plain_host : FunctionTree → Bool
is_plain_host f = is_slave_host f && not (list_any (λ q. q.marked) f.signature.params)

abbrev pub is_main_function : FunctionTree → Bool
is_main_function f = is_main f.signature

-- ---- rules on the value of an expression, in the body of a function of the slave

-- an operator looks at what is in this place, an object of this type
abbrev pub looked_at : Flows → FnId → Option VarTy → Span → PlaceTree → List Finding
looked_at p f ty at pl = found OperationOnPriv at (secret_slots p (place_slots (scope_of p.tree f.0) pl) (value_leaves p.tree.structs ty))

-- ++, -- and a compound assignment look at what they change
abbrev pub changed_operand : Flows → FnId → Option VarTy → FormTree → List Finding
changed_operand p f ty (compound pl at op a) = looked_at p f ty at pl
changed_operand p f ty (step pl at back postfix) = looked_at p f ty at pl
changed_operand p f ty _ = []

abbrev pub changed_operands : Flows → FnId → ExprTree → List Finding
changed_operands p f (typed s ty form) = changed_operand p f ty form

-- OperationOnPriv: an operator looks at a privileged expression, or it is an index, a condition or is converted.
abbrev pub operation_on_priv : Flows → FnId → How → ExprTree → List Finding
operation_on_priv p f Operated e = found OperationOnPriv (span_of e) (secrets_of p f e)
operation_on_priv p f _ e = []

-- PrivToHost: a privileged argument for an unmarked parameter of a host of the slave.
abbrev pub priv_to_host : Flows → FnId → How → ExprTree → List Finding
priv_to_host p f (Passed g k) e =
    if function_is (λ x. is_slave_host x && is_unmarked_param x k) p.tree g then found PrivToHost (span_of e) (secrets_of p f e) else []
priv_to_host p f _ e = []

-- PrivToPlainParam: an argument for an unmarked parameter of a privileged function or host, which has, or
-- points to, a privileged leaf that lies under no marked field.
abbrev pub priv_to_plain_param : Flows → FnId → How → ExprTree → List Finding
priv_to_plain_param p f (Passed g k) e =
    if function_is (λ x. x.signature.privileged && is_unmarked_param x k) p.tree g
    then found PrivToPlainParam (span_of e) (secret_slots p (carried (scope_of p.tree f.0) e) (unmarked_leaves p.tree.structs (ty_of e))) else []
priv_to_plain_param p f _ e = []

-- PrivStatus: main returns a privileged expression.
abbrev pub priv_status : Flows → FnId → How → ExprTree → List Finding
priv_status p f Returned e = if function_is is_main_function p.tree f then found PrivStatus (span_of e) (secrets_of p f e) else []
priv_status p f _ e = []

abbrev pub usage_findings : Flows → FnId → UsageTree → List Finding
usage_findings p f u =
    (operation_on_priv p f u.how u.value ++ changed_operands p f u.value)
    ++ (priv_to_host p f u.how u.value ++ (priv_to_plain_param p f u.how u.value ++ priv_status p f u.how u.value))

-- ---- rules on objects

-- PrivIntoUnpriv: an object or parameter that is marked `unpriv` has a privileged slot.
abbrev pub priv_into_unpriv : Flows → Var → Object → List Finding
priv_into_unpriv p x o =
    if x.unpriv then found PrivIntoUnpriv x.span (secret_slots p (o.start ∷ []) (range_with_len 0 (leaf_count p.tree.structs o.ty))) else []

abbrev pub objects_findings : Flows → List Var → List Object → List Finding
objects_findings p (x ∷ xs) (o ∷ os) = priv_into_unpriv p x o ++ objects_findings p xs os
objects_findings p _ _ = []

-- the variables of a function
abbrev pub variables_findings : Flows → FnId → List Finding
variables_findings p f = objects_findings p (option_map_or (λ x. x.vars) (function_at p.tree f) []) (variable_objects p.tree f.0)

-- one of these functions names the global of this number
abbrev pub is_named_in : TypedTree → ℕ → List FnId → Bool
is_named_in t g fs = list_any (λ f. list_any (λ h. nat_eq h.0 g) (globals_in t f)) fs

-- SharedGlobal: code of both halves names the global, of which the first of these has the number g.
abbrev pub shared_globals : Flows → ℕ → List TypedGlobal → List Finding
shared_globals p g [] = []
shared_globals p g (x ∷ xs) =
    found_if (is_named_in p.tree g p.slave && is_named_in p.tree g p.monitor) SharedGlobal x.var.span ++ shared_globals p (suc g) xs

-- ---- rules on functions

-- UnmarkedOut: a parameter through which something comes back has neither `priv` nor `declassify`.
abbrev pub unmarked_outs : List Param → List Var → List Finding
unmarked_outs (q ∷ qs) (x ∷ xs) = found_if (is_out q.kind && not (q.marked || q.declassify)) UnmarkedOut x.span ++ unmarked_outs qs xs
unmarked_outs _ _ = []

-- of privileged functions alone, called or not
abbrev pub unmarked_out : FunctionTree → List Finding
unmarked_out f = if f.signature.privileged then unmarked_outs f.signature.params f.vars else []

-- HostInMonitor: the monitor's code calls a plain host.
abbrev pub host_in_monitor : Flows → UsageTree → List Finding
host_in_monitor p u = found_if (list_any (function_is is_plain_host p.tree) (expr_callees u.value)) HostInMonitor (span_of u.value)

-- PrivMain: main is marked `priv`.
abbrev pub priv_main : FunctionTree → List Finding
priv_main f = found_if (is_main_function f && f.signature.privileged) PrivMain f.name

-- ---- all of them

abbrev pub slave_findings : Flows → FnId → List Finding
slave_findings p f = flat_map (usage_findings p f) (usages_in p.tree f) ++ variables_findings p f

abbrev pub monitor_findings : Flows → FnId → List Finding
monitor_findings p f = flat_map (host_in_monitor p) (usages_in p.tree f)

abbrev pub global_findings : Flows → List Finding
global_findings p = objects_findings p (map (λ x. x.var) p.tree.globals) (global_objects p.tree) ++ shared_globals p 0 p.tree.globals

abbrev pub function_findings : FunctionTree → List Finding
function_findings f = unmarked_out f ++ priv_main f

-- every place where the program breaks a rule; a function of neither half is looked at for its marks alone
unfoldable pub findings_of : Flows → List Finding
findings_of p =
    (flat_map (slave_findings p) p.slave ++ flat_map (monitor_findings p) p.monitor)
    ++ (global_findings p ++ flat_map function_findings p.tree.functions)
