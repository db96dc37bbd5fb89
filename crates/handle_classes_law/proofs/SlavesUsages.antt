-- Where the rules find nothing, and the marks are closed under the edges and hold what comes back secret, a body
-- evaluates what is fine for the classes.
use Rattle.std.proofs.Common.{◌≡◌, ◌∙◌, ℕ, ◌+◌, refl, ap, sym, subst, arith, Bool, true, false, Some, List, [], ◌∷◌, ◌++◌, if◌then◌else◌}
use Rattle.std.specs.Prelude.{not, slice_get, ◌&&◌}
use Rattle.std.specs.List.{flat_map, list_all, list_any}
use Rattle.std.specs.Option.{option_map_or}
use Rattle.flow_edges.specs.Edges.{begun_slots, form_edges, moved_to, passed_slots, span_of, target_slots, usage_edges}
use Rattle.flow_edges.specs.Moves.{move_edges}
use Rattle.flow_rules.specs.Findings.{changed_operands, found, operation_on_priv, priv_status, priv_to_host, priv_to_plain_param, usage_findings}
use Rattle.flow_rules.specs.Secrets.{Flows, secrets_of}
use Rattle.flow_rules.specs.declared.rule.Rule.TheVariants.{OperationOnPriv, PrivStatus}
use Rattle.handle_classes.specs.Classes.{World}
use Rattle.lowered_code_law.proofs.FormsRules.{type_is}
use Rattle.handle_classes_law.specs.ObjectsCells.{is_pointer}
use Rattle.pt_base.specs.declared.ids.FnId.{FnId}
use Rattle.pt_base.specs.declared.int_type.IntType.{IntType}
use Rattle.pt_base.proofs.Booleans.{both_hold_first, false_not_true}
use Rattle.pt_base.proofs.Lists.{append_nil_first, append_nil_second}
use Rattle.pt_tree.specs.declared.signature.Param.{Param}
use Rattle.sides.specs.Carried.{carried, scope_of}
use Rattle.reach.specs.Contexts.{is_plain}
use Rattle.sides.specs.Objects.{result_start}
use Rattle.sides.specs.Seeds.{usage_sealed}
use Rattle.usages.specs.Usages.{UsageTree, used}
use Rattle.usages.specs.declared.usage.How.{How}
use Rattle.usages.specs.declared.usage.How.TheVariants.{Passed, Returned}
use Rattle.source_meaning.specs.Expressions.{type_of}
use Rattle.typed_tree.specs.ExpressionTree as src
use Rattle.typed_tree.specs.TypeTests.{is_scalar}
use Rattle.typed_tree.specs.TypedTree.{FunctionTree}
use Rattle.typed_tree.specs.WellFormedExpression.{is_main, param_type, ty_of}
use Rattle.typed_tree.specs.declared.types.VarTy.TheVariants.{Int}
use Rattle.handle_classes_law.proofs.SlavesArguments.{Callee, callee_is, entry_passes, host_passes, one_leaf, own_passes}
use Rattle.handle_classes_law.proofs.SlavesBench.{Bench, at_slots, seen}
use Rattle.handle_classes_law.proofs.SlavesEdges.{AreClosed, closed_first, closed_rest}
use Rattle.handle_classes_law.proofs.SlavesFindings.{Looks, all_first, all_rest, changes_quiet, not_found, operated_quiet}
use Rattle.handle_classes_law.proofs.SlavesMoves.{forward}
use Rattle.handle_classes_law.proofs.SlavesQuiet.{IsQuiet, MayPass, Quiet, class_here}
use Rattle.handle_classes_law.specs.SlavesMarked.{may_give}

-- ---- what is returned

returns_marked : (p : Flows) (f : FnId) (b : Bench) (a : src.ExprTree) (t : IntType) → Looks p f b → ty_of a ≡ Some (Int t) → priv_status p f Returned a ≡ [] → AreClosed b.marks (move_edges (moved_to (scope_of p.tree f.0) a ((result_start p.tree + f.0) ∷ []))) →
    (class_here b a).may 0 ≡ true → b.world.result b.function ≡ true
returns_marked p f b a t looks is none closed m = ap (λ (w : World). w.result b.function) looks.world ∙ ap (λ n. may_give b.marks p.tree n) looks.function ∙ go (option_map_or (λ (x : FunctionTree). is_main x.signature) (slice_get p.tree.functions f.0) false) refl
  where
    kind_here : is_pointer (type_of a) ≡ false
    kind_here = ap is_pointer (type_is a (Int t) is)

    some : list_any (λ s. b.marks (s + 0)) (carried (seen b) a) ≡ true
    some = subst (λ z. (at_slots b z (carried (seen b) a)).may 0 ≡ true) (type_is a (Int t) is) m

    plus_none : (j : ℕ) → j + 0 ≡ j
    plus_none j = omega arith

    marked : b.marks (result_start p.tree + f.0) ≡ true
    marked = subst (λ z. b.marks z ≡ true) (plus_none (result_start p.tree + f.0)) (both_hold_first (b.marks (result_start p.tree + f.0 + 0)) true
        (forward b a (Int t) ((result_start p.tree + f.0) ∷ []) 0 (subst (λ z. AreClosed b.marks (move_edges (moved_to z a ((result_start p.tree + f.0) ∷ [])))) looks.scope closed) is (one_leaf b t) some))

    go : (x : Bool) → option_map_or (λ (x : FunctionTree). is_main x.signature) (slice_get p.tree.functions f.0) false ≡ x → (not x && b.marks (result_start p.tree + f.0)) ≡ true
    go false e = marked
    go true e = false_not_true (sym (operated_quiet p f b a looks (subst (λ z. is_scalar z ≡ true) (sym is) refl) (not_found PrivStatus (span_of a) (secrets_of p f a) (subst (λ z. (if z then found PrivStatus (span_of a) (secrets_of p f a) else []) ≡ []) e none)) kind_here) ∙ m)

-- ---- each usage

-- what a usage gives, part by part
quiet_usage : (p : Flows) (f : FnId) (b : Bench) (how : How) (a : src.ExprTree) → Looks p f b → usage_findings p f (used how a) ≡ [] → AreClosed b.marks (usage_edges p.tree f.0 (used how a)) → list_all b.marks (usage_sealed p.tree f how a) ≡ true → IsQuiet b (used how a)
quiet_usage p f b how a looks h closed sealed = record {
  operated = λ is scalar. operated_quiet p f b a looks scalar (not_found OperationOnPriv (span_of a) (secrets_of p f a) (subst (λ z. operation_on_priv p f z a ≡ []) is (append_nil_first (operation_on_priv p f how a) (changed_operands p f a) first)));
  changed = changes_quiet p f b a looks (append_nil_second (operation_on_priv p f how a) (changed_operands p f a) first);
  assigned = subst (λ z. AreClosed b.marks (form_edges z a)) looks.scope (closed_first b.marks (form_edges (scope_of p.tree f.0) a) (move_edges (moved_to (scope_of p.tree f.0) a (target_slots p.tree f.0 how (ty_of a)))) closed);
  begins = λ v k is. subst (λ z. AreClosed b.marks (move_edges (moved_to z a (begun_slots z (slice_get z.variables v.0) k (ty_of a))))) looks.scope (subst (λ z. AreClosed b.marks (move_edges (moved_to (scope_of p.tree f.0) a (target_slots p.tree f.0 z (ty_of a))))) is moved);
  passed = λ g k x q is called at type. passes g k q is (callee_is p f b g.0 k x q looks called at) type;
  returned = λ t is type m. returns_marked p f b a t looks type (subst (λ z. priv_status p f z a ≡ []) is (append_nil_second (priv_to_plain_param p f how a) (priv_status p f how a) (append_nil_second (priv_to_host p f how a) (priv_to_plain_param p f how a ++ priv_status p f how a) second)))
      (subst (λ z. AreClosed b.marks (move_edges (moved_to (scope_of p.tree f.0) a (target_slots p.tree f.0 z (ty_of a))))) is moved) m;
}
  where
    first : operation_on_priv p f how a ++ changed_operands p f a ≡ []
    first = append_nil_first (operation_on_priv p f how a ++ changed_operands p f a) (priv_to_host p f how a ++ (priv_to_plain_param p f how a ++ priv_status p f how a)) h

    second : priv_to_host p f how a ++ (priv_to_plain_param p f how a ++ priv_status p f how a) ≡ []
    second = append_nil_second (operation_on_priv p f how a ++ changed_operands p f a) (priv_to_host p f how a ++ (priv_to_plain_param p f how a ++ priv_status p f how a)) h

    moved : AreClosed b.marks (move_edges (moved_to (scope_of p.tree f.0) a (target_slots p.tree f.0 how (ty_of a))))
    moved = closed_rest b.marks (form_edges (scope_of p.tree f.0) a) (move_edges (moved_to (scope_of p.tree f.0) a (target_slots p.tree f.0 how (ty_of a)))) closed

    passes : (g : FnId) (k : ℕ) (q : Param) → how ≡ Passed g k → Callee p.tree g.0 k q → ty_of a ≡ Some (param_type q.kind) → MayPass b g k a
    passes g k q is c type = go (is_plain c.tree) c.tree.signature.privileged refl refl
      where
        to_host : priv_to_host p f (Passed g k) a ≡ []
        to_host = subst (λ z. priv_to_host p f z a ≡ []) is (append_nil_first (priv_to_host p f how a) (priv_to_plain_param p f how a ++ priv_status p f how a) second)

        to_entry : priv_to_plain_param p f (Passed g k) a ≡ []
        to_entry = subst (λ z. priv_to_plain_param p f z a ≡ []) is (append_nil_first (priv_to_plain_param p f how a) (priv_status p f how a) (append_nil_second (priv_to_host p f how a) (priv_to_plain_param p f how a ++ priv_status p f how a) second))

        goes : AreClosed b.marks (move_edges (moved_to (scope_of p.tree f.0) a (passed_slots p.tree g k)))
        goes = subst (λ z. AreClosed b.marks (move_edges (moved_to (scope_of p.tree f.0) a (target_slots p.tree f.0 z (ty_of a))))) is moved

        go : (x y : Bool) → is_plain c.tree ≡ x → c.tree.signature.privileged ≡ y → MayPass b g k a
        go true y e d = own_passes p f b g k q a c looks e type goes
        go false true e d = entry_passes p f b g k q a c looks e d type to_entry (subst (λ z. list_all b.marks (usage_sealed p.tree f z a) ≡ true) is sealed)
        go false false e d = host_passes p f b g k q a c looks e d type to_host goes

-- Where nothing was found, and the marks are closed under the edges and hold what comes back secret.
pub usages_are_quiet : (p : Flows) (f : FnId) (b : Bench) (us : List UsageTree) → Looks p f b → flat_map (usage_findings p f) us ≡ [] → AreClosed b.marks (flat_map (usage_edges p.tree f.0) us) →
    list_all b.marks (flat_map (λ u. usage_sealed p.tree f u.how u.value) us) ≡ true → Quiet b us
usages_are_quiet p f b [] looks h closed sealed = tt
usages_are_quiet p f b (u ∷ us) looks h closed sealed = (
  quiet_usage p f b u.how u.value looks (append_nil_first (usage_findings p f u) (flat_map (usage_findings p f) us) h) (closed_first b.marks (usage_edges p.tree f.0 u) (flat_map (usage_edges p.tree f.0) us) closed) (all_first b.marks (usage_sealed p.tree f u.how u.value) (flat_map (λ x. usage_sealed p.tree f x.how x.value) us) sealed),
  usages_are_quiet p f b us looks (append_nil_second (usage_findings p f u) (flat_map (usage_findings p f) us) h) (closed_rest b.marks (usage_edges p.tree f.0 u) (flat_map (usage_edges p.tree f.0) us) closed) (all_rest b.marks (usage_sealed p.tree f u.how u.value) (flat_map (λ x. usage_sealed p.tree f x.how x.value) us) sealed),
)
