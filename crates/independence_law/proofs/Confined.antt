-- One run: pointers lead as they should, and where it is secret whether statements are done, they change secrets alone.
use Rattle.std.proofs.Common.{◌≡◌, ◌∙◌, ◌≤◌, ℕ, suc, ◌+◌, refl, ap, ap₂, sym, subst, arith, Bool, true, false, not, Option, Some, None, IfOk, List, [], ◌∷◌, ◌++◌, if◌then◌else◌}
use Rattle.std.specs.Prelude.{IsTrue, MatchOption, ◌&&◌, is_some, option_map, slice_get, take, unwrap_or}
use Rattle.pt_base.specs.declared.int_type.IntType.{IntType}
use Rattle.pt_base.specs.declared.span.Span.{Span}
use Rattle.pt_base.proofs.Booleans.{both_hold_first, both_hold_second, false_not_true, true_and_false}
use Rattle.pt_base.proofs.Numbers.{as_plus_zero, at_most_self, zero_plus}
use Rattle.pt_base.proofs.Places.{get_map}
use Rattle.pt_tree.specs.declared.signature.Param.{Param}
use Rattle.pt_tree.specs.declared.signature.Signature.{Signature}
use Rattle.typed_tree.specs.declared.types.VarTy.{VarTy}
use Rattle.typed_tree.specs.declared.types.VarTy.TheVariants.{Int, Struct, Array, Pointer}
use Rattle.typed_tree.specs.declared.variable.Var.{Var}
use Rattle.typed_tree.specs.TypeTests.{both_int, integer_of, is_scalar, pointee_of, same_bool, same_type}
use Rattle.typed_tree.specs.WellFormed.{params_lead}
use Rattle.typed_tree.specs.WellFormedExpression.{is_main, param_type}
use Rattle.typed_tree.proofs.SameTypes.{equal_types}
use Rattle.runs.specs.State.{Hosts, gives, ◌>>=◌}
use Rattle.block_memory.specs.declared.cell.Cell.{Cell}
use Rattle.block_memory.specs.declared.cell.Cell.TheVariants as cell
use Rattle.block_memory.specs.declared.cell.Pointer.TheVariants as pointer
use Rattle.block_memory.specs.declared.cell.BlockName.TheVariants.{Local}
use Rattle.block_memory.specs.Block.{fresh}
use Rattle.block_memory.specs.Blocks.{Blocks}
use Rattle.pt_core.specs.CodeTree.{FunctionTree, MonitorTree, ProgramTree, ExprTree, ExprTrees, no_exprs, expr_and, StmtTree, clear, check, assign, copy, call, choose, repeat, break_out, continue_on, give_back, StmtTrees, no_stmts, stmt_and}
use Rattle.pt_core.specs.Types.{Context, shape_of, type_at, type_of}
use Rattle.pt_core.specs.Values.{holds_in, value_of, values_of, location_of}
use Rattle.pt_core.specs.Statements.{Calls, Flow, State, Outcome, goes_on, broke, continues, returned, after_flow, assigned, cleared, copied, does, do_all, kept, kept_in, returned_value, with_blocks}
use Rattle.pt_core.specs.Calls.{context_in, function_in, no_function, no_signature, signature_in}
use Rattle.pt_core.specs.WellFormed.{called_signature, callee_fits, function_at, monitor_program, signature_at, with_own}
use Rattle.pt_core.specs.WellFormedExpression.{expr_fits, stands_for}
use Rattle.pt_core.specs.WellFormedStatement.{arguments_fit, call_fits, callees_in, callees_of, result_fits, stmt_fits, stmts_fit, value_fits}
use Rattle.core_soundness_law.proofs.Programs.{FunctionFacts, function_facts}
use Rattle.core_soundness_law.proofs.Values.{bound}
use Rattle.lent_blocks_law.proofs.Ranges.{always, weaken}
use Rattle.monitor_labels.specs.Nodes.{Node, of_variable, of_result, of_control}
use Rattle.monitor_labels.specs.Arrows.{all_arrows, all_reads, argument_arrow, argument_arrows, arrows_back, arrows_to, call_arrows, function_call_arrows, host_arrows, is_pointer_variable, reads, start_of, stmt_arrows}
use Rattle.independence_law.specs.Bodies.{is_no_plain_host, is_pointing}
use Rattle.independence_law.proofs.Worlds.{World, AreAlike, CellLeads, ValueLeads, alike_on, alike_self, hides, inside, who_inside}
use Rattle.independence_law.proofs.Follows.{Follows, as_secret, back_secret, follows_first, follows_second, last_secret, secret_at, start_read}
use Rattle.independence_law.proofs.Values.{Sees, farther, values_lead}
use Rattle.independence_law.proofs.Changes.{ArgumentsLead, fresh_leads, leads_inside, put_hidden, put_leads}
use Rattle.independence_law.proofs.Outcomes.{Leaves, Turned, leaves_evaluated, leaves_then, leaves_weaken, loop_leaves}
use Rattle.independence_law.proofs.Known.{AreCalled, Knows, Stands, called_first, called_second, callee_there, frame_of, function_of, is_named, scope_in, sees}
use Rattle.independence_law.proofs.Stores.{Changed, assigned_leads, copied_leads, kept_hidden, kept_leads, pointer_variable, stands_kind, value_plain}

-- ---- what a statement leaves

-- what is given is no pointer, and secret where it is secret whether it is
abbrev pub Gives : World → ℕ → Flow → Type 0
Gives w f goes_on = Unit {0}
Gives w f broke = Unit {0}
Gives w f continues = Unit {0}
Gives w f (returned None) = Unit {0}
Gives w f (returned (Some v)) = (is_pointing v ≡ false) × (w.secret (of_control f) ≡ true → w.secret (of_result f) ≡ true)

-- from this state on
pub record From (p : ProgramTree) (w : World) (f depth : ℕ) (mixed : Hosts) (before st : State) : Type 0 where
  pub stands : Stands p w depth mixed st
  pub kept : w.secret (of_control f) ≡ true → AreAlike w depth before.memory st.memory

abbrev pub After : ProgramTree → World → ℕ → ℕ → Hosts → State → Flow → State → Type 0
After p w f depth mixed before = Turned (From p w f depth mixed before) (Gives w f)

pub from_self : (p : ProgramTree) (w : World) (f depth : ℕ) (mixed : Hosts) (st : State) → Stands p w depth mixed st → From p w f depth mixed st st
from_self p w f depth mixed st stands = record { stands = stands; kept = λ secret. alike_self w depth st.memory }

-- ---- what a call leaves

pub record Called (p : ProgramTree) (w : World) (depth : ℕ) (mixed : Hosts) (g : ℕ) (before : State) (result : Option Cell) (st : State) : Type 0 where
  pub stands : Stands p w depth mixed st
  pub host : (signature_in p g).host ≡ true → AreAlike w depth before.memory st.memory
  pub kept : w.secret (of_control g) ≡ true → AreAlike w depth before.memory st.memory
  pub plain : MatchOption result (Unit {0}) (λ v. is_pointing v ≡ false)
  pub secret : (signature_in p g).host ≡ false → w.secret (of_control g) ≡ true → w.secret (of_result g) ≡ false → result ≡ None

-- a callee may be called with these arguments
pub record MayCall (p : ProgramTree) (w : World) (depth g : ℕ) (args : List Cell) : Type 0 where
  pub there : IsTrue (callee_fits true p g)
  pub plain : IsTrue (is_no_plain_host p g)
  pub lead : (signature_in p g).host ≡ false → ArgumentsLead p (inside w (depth + 1) g) (depth + 1) 0 args

-- calls at this depth leave so
abbrev pub CallsLeave : ProgramTree → World → ℕ → ℕ → Hosts → Bool → Calls → Type 0
CallsLeave p w f depth mixed active calls = (g : ℕ) (s : Span) (args : List Cell) (st : State) → MayCall p w depth g args → Stands p w depth mixed st → Leaves (Called p w depth mixed g st) (calls (frame_of p f depth active) s g args st)

-- ---- changes of the blocks

moved_on : (p : ProgramTree) (w : World) (f depth : ℕ) (mixed : Hosts) (st : State) (blocks : Blocks) → Stands p w depth mixed st → Changed p w f depth st.memory blocks → After p w f depth mixed st goes_on (with_blocks blocks st)
moved_on p w f depth mixed st blocks stands changed = record {
  holds = record { stands = record { pointers = changed.leads; hosts = stands.hosts }; kept = changed.kept };
  flows = tt {0};
}

-- ---- arguments

one_more : (n : ℕ) → n ≤ n + 1
one_more n = omega arith

-- the types of variables from the number i on
abbrev TypesFrom : List VarTy → ℕ → List Var → Type 0
TypesFrom tys i xs = (j : ℕ) → slice_get tys (i + j) ≡ option_map (λ (x : Var). x.ty) (slice_get xs j)

argument_leads : (p : ProgramTree) (w : World) (f depth g i : ℕ) (blocks : Blocks) → Sees p w f depth blocks → (ty : VarTy) (a : ExprTree) (v : Cell) → slice_get (context_in p g).variables i ≡ Some ty → IsTrue (stands_for (type_of (context_in p f) a) ty) →
    Follows w.secret (argument_arrow (function_of p f) (function_of p g) i a) → ValueLeads p w depth (pointee_of (Some (type_of (context_in p f) a))) (start_of f a) v → CellLeads p (inside w (depth + 1) g) (Local (depth + 1) i) v
argument_leads p w f depth g i blocks s ty a (cell.Int v) typed stands follows leads = tt {0}
argument_leads p w f depth g i blocks s ty a (cell.Ptr pointer.Null) typed stands follows leads = tt {0}
argument_leads p w f depth g i blocks s ty a (cell.Sealed v) typed stands follows leads = tt {0}
argument_leads p w f depth g i blocks s ty a (cell.Ptr (pointer.At block base count index)) typed stands follows leads =
    let kind : pointee_of (Some ty) ≡ Some leads.elem = sym (stands_kind (type_of (context_in p f) a) ty stands) ∙ leads.typed in
    let t : Node = of_variable g i in
    let b : Bool = is_pointer_variable (function_of p g) i in
    let points : b ≡ true = pointer_variable (function_in p g).vars i ty leads.elem typed kind in
    let forth : Follows w.secret (arrows_to (Some t) (reads f a)) = follows_first w.secret (arrows_to (Some t) (reads f a)) (arrows_back b (Some t) (start_of f a)) follows in
    let back : Follows w.secret (arrows_back b (Some t) (start_of f a)) = follows_second w.secret (arrows_to (Some t) (reads f a)) (arrows_back b (Some t) (start_of f a)) follows in
    let same : w.secret leads.node ≡ w.secret t = as_secret (w.secret leads.node) (w.secret t)
    (λ secret. secret_at w.secret t (reads f a) leads.node forth (start_read f a leads.node leads.starts) secret)
    (λ secret. back_secret w.secret b t leads.node (Some t) (start_of f a) points refl leads.starts back secret) in
    record {
      elem = leads.elem;
      typed = ap (λ n. pointee_of (slice_get (context_in p n).variables i)) (who_inside w (depth + 1) g) ∙ ap pointee_of typed ∙ kind;
      leads = farther p (inside w (depth + 1) g) depth (depth + 1) (w.secret leads.node) (hides (inside w (depth + 1) g) (Local (depth + 1) i)) leads.elem block base count (one_more depth) (same ∙ ap (λ n. w.secret (of_variable n i)) (sym (who_inside w (depth + 1) g)))
          (leads_inside p w depth depth g (w.secret leads.node) (w.secret leads.node) leads.elem block base count (at_most_self depth) refl leads.leads);
    }

-- one for each parameter
pub arguments_given : (p : ProgramTree) (w : World) (f depth g : ℕ) (blocks : Blocks) → Sees p w f depth blocks → (ps : List Param) (xs : List Var) (i : ℕ) (args : ExprTrees) → TypesFrom (context_in p g).variables i xs → IsTrue (params_lead ps xs) → IsTrue (arguments_fit (context_in p f) ps args) →
    Follows w.secret (argument_arrows (function_of p f) (function_of p g) i args) → IfOk (values_of (context_in p f) depth args blocks) (ArgumentsLead p (inside w (depth + 1) g) (depth + 1) i)
arguments_given p w f depth g blocks s [] xs i no_exprs from lead h follows = tt {0}
arguments_given p w f depth g blocks s [] xs i (expr_and a rest) from lead h follows = false_not_true h
arguments_given p w f depth g blocks s (x ∷ ps) xs i no_exprs from lead h follows = false_not_true h
arguments_given p w f depth g blocks s (x ∷ ps) [] i (expr_and a rest) from lead h follows = false_not_true lead
arguments_given p w f depth g blocks s (x ∷ ps) (y ∷ ys) i (expr_and a rest) from lead h follows =
    let c : Context = context_in p f in
    let fn : FunctionTree = function_of p f in
    let gn : FunctionTree = function_of p g in
    let value : IsTrue (value_fits c (param_type x.kind) a) = both_hold_first (value_fits c (param_type x.kind) a) (arguments_fit c ps rest) h in
    let first : IsTrue (same_type (param_type x.kind) y.ty && same_bool x.marked y.marked) = both_hold_first (same_type (param_type x.kind) y.ty && same_bool x.marked y.marked) (params_lead ps ys) lead in
    let typed : slice_get (context_in p g).variables i ≡ Some (param_type x.kind) =
    ap (slice_get (context_in p g).variables) (as_plus_zero i) ∙ from 0 ∙ ap Some (sym (equal_types (param_type x.kind) y.ty (both_hold_first (same_type (param_type x.kind) y.ty) (same_bool x.marked y.marked) first))) in
    bound (ValueLeads p w depth (pointee_of (Some (type_of c a))) (start_of f a)) (ArgumentsLead p (inside w (depth + 1) g) (depth + 1) i) (value_of c depth a blocks) _
    (values_lead p w f depth blocks s a (both_hold_first (expr_fits c a) (stands_for (type_of c a) (param_type x.kind)) value))
    (λ v leads. bound (ArgumentsLead p (inside w (depth + 1) g) (depth + 1) (i + 1)) (ArgumentsLead p (inside w (depth + 1) g) (depth + 1) i) (values_of c depth rest blocks) _
    (arguments_given p w f depth g blocks s ps ys (i + 1) rest (λ j. ap (slice_get (context_in p g).variables) (moved_one i j) ∙ from (suc j)) (both_hold_second (same_type (param_type x.kind) y.ty && same_bool x.marked y.marked) (params_lead ps ys) lead)
    (both_hold_second (value_fits c (param_type x.kind) a) (arguments_fit c ps rest) h) (follows_second w.secret (argument_arrow fn gn i a) (argument_arrows fn gn (i + 1) rest) follows))
    (λ vs all. (argument_leads p w f depth g i blocks s (param_type x.kind) a v typed (both_hold_second (expr_fits c a) (stands_for (type_of c a) (param_type x.kind)) value) (follows_first w.secret (argument_arrow fn gn i a) (argument_arrows fn gn (i + 1) rest) follows) leads, all)))
  where
    moved_one : (i j : ℕ) → i + 1 + j ≡ i + suc j
    moved_one i j = omega arith

-- ---- a call that fits

pub record CallFits (p : ProgramTree) (c : Context) (g : ℕ) (args : ExprTrees) (to : Option ℕ) : Type 0 where
  pub params : List Param
  pub fit : IsTrue (arguments_fit c params args)
  pub result : IsTrue (result_fits c (signature_in p g).result to)
  pub own : (signature_in p g).host ≡ false → IsTrue (is_some (function_at p g)) → params ≡ take (function_in p g).params (signature_in p g).params

abbrev host_in : Signature → Bool
host_in x = x.host

pub call_parts : (p : ProgramTree) (c : Context) (g : ℕ) (args : ExprTrees) (to : Option ℕ) → IsTrue (call_fits c (called_signature true p g) args to) → CallFits p c g args to
call_parts p c g args to h = go (signature_at p g) refl (function_at p g) refl h
  where
    parts : (x : Signature) → signature_in p g ≡ x → (params : List Param) → IsTrue (not (is_main (record x { params = params })) && (arguments_fit c params args && result_fits c x.result to)) →
        ((signature_in p g).host ≡ false → IsTrue (is_some (function_at p g)) → params ≡ take (function_in p g).params (signature_in p g).params) → CallFits p c g args to
    parts x is params h own =
        let a : Bool = not (is_main (record x { params = params })) in
        let b : Bool = arguments_fit c params args in
        let d : Bool = result_fits c x.result to in
        let rest : IsTrue (b && d) = both_hold_second a (b && d) h in
        record {
          params = params;
          fit = both_hold_first b d rest;
          result = subst (λ (y : Signature). IsTrue (result_fits c y.result to)) (sym is) (both_hold_second b d rest);
          own = own;
        }

    by_host : (x : Signature) (gn : FunctionTree) → signature_in p g ≡ x → function_in p g ≡ gn → (b : Bool) → x.host ≡ b → IsTrue (call_fits c (Some (if true && not b then record x { params = take gn.params x.params } else x)) args to) → CallFits p c g args to
    by_host x gn is tree true e h = parts x is x.params h (λ no_host there. true_and_false x.host e (ap host_in (sym is) ∙ no_host))
    by_host x gn is tree false e h = parts x is (take gn.params x.params) h (λ no_host there. ap₂ (λ (t : FunctionTree) (y : Signature). take t.params y.params) (sym tree) (sym is))

    go : (o : Option Signature) → signature_at p g ≡ o → (q : Option FunctionTree) → function_at p g ≡ q → IsTrue (call_fits c (option_map (with_own true q) o) args to) → CallFits p c g args to
    go None e q r h = false_not_true h
    go (Some x) e None r h = parts x (ap (λ o. unwrap_or o no_signature) e) x.params h (λ no_host there. false_not_true (subst (λ q. IsTrue (is_some q)) r there))
    go (Some x) e (Some gn) r h = by_host x gn (ap (λ o. unwrap_or o no_signature) e) (ap (λ o. unwrap_or o no_function) r) x.host refl h

types_of : (p : ProgramTree) (g : ℕ) → TypesFrom (context_in p g).variables 0 (function_in p g).vars
types_of p g j = ap (slice_get (context_in p g).variables) (zero_plus j) ∙ get_map (λ (x : Var). x.ty) (function_in p g).vars j

-- the arrows of a call of a function
pub function_follows : (p : MonitorTree) (w : World) (f g : ℕ) (args : ExprTrees) (node : Option Node) → IsTrue (is_some (function_at (monitor_program p) g)) → (signature_in (monitor_program p) g).host ≡ false →
    Follows w.secret (call_arrows p (function_of (monitor_program p) f) g (signature_in (monitor_program p) g) args node) → Follows w.secret (function_call_arrows (function_of (monitor_program p) f) (function_of (monitor_program p) g) g args node)
function_follows p w f g args node known no_host follows =
    subst (λ (t : FunctionTree). Follows w.secret (function_call_arrows (function_of (monitor_program p) f) t g args node)) (is_named (monitor_program p) g known)
    (subst (λ b. Follows w.secret (if b then host_arrows (function_of (monitor_program p) f) g (signature_in (monitor_program p) g).privileged args node else function_call_arrows (function_of (monitor_program p) f) (function_in (monitor_program p) g) g args node)) no_host follows)

-- whether a call is done goes to the variable for its result
pub call_to : (p : MonitorTree) (w : World) (f g : ℕ) (s : Signature) (args : ExprTrees) (t : Node) → Follows w.secret (call_arrows p (function_of (monitor_program p) f) g s args (Some t)) → w.secret (of_control f) ≡ true → w.secret t ≡ true
call_to p w f g s args t follows secret = go s.host s.privileged follows
  where
    go : (b c : Bool) → Follows w.secret (if b then host_arrows (function_of (monitor_program p) f) g c args (Some t) else function_call_arrows (function_of (monitor_program p) f) (function_in (monitor_program p) g) g args (Some t)) → w.secret t ≡ true
    go true true h = last_secret w.secret t (of_control f) (of_result g ∷ []) h secret
    go true false h = last_secret w.secret t (of_control f) (all_reads f args) h secret
    go false c h = last_secret w.secret t (of_control f) (of_result g ∷ []) (follows_second w.secret (argument_arrows (function_of (monitor_program p) f) (function_in (monitor_program p) g) 0 args) ((of_control f, of_control g) ∷ arrows_to (Some t) (of_result g ∷ of_control f ∷ [])) h).1 secret

-- what a function is given leads as its variables
pub call_leads : (p : MonitorTree) (w : World) (f depth g : ℕ) (mixed : Hosts) (blocks : Blocks) → Knows p w.secret mixed → Sees (monitor_program p) w f depth blocks → (args : ExprTrees) (to : Option ℕ) (node : Option Node) → CallFits (monitor_program p) (context_in (monitor_program p) f) g args to →
    IsTrue (callee_fits true (monitor_program p) g) → Follows w.secret (call_arrows p (function_of (monitor_program p) f) g (signature_in (monitor_program p) g) args node) →
    IfOk (values_of (context_in (monitor_program p) f) depth args blocks) (λ vs. (signature_in (monitor_program p) g).host ≡ false → ArgumentsLead (monitor_program p) (inside w (depth + 1) g) (depth + 1) 0 vs)
call_leads p w f depth g mixed blocks knows s args to node call_ there follows = go (signature_in (monitor_program p) g).host refl
  where
    go : (b : Bool) → (signature_in (monitor_program p) g).host ≡ b → IfOk (values_of (context_in (monitor_program p) f) depth args blocks) (λ vs. (signature_in (monitor_program p) g).host ≡ false → ArgumentsLead (monitor_program p) (inside w (depth + 1) g) (depth + 1) 0 vs)
    go true e = always (λ vs. (signature_in (monitor_program p) g).host ≡ false → ArgumentsLead (monitor_program p) (inside w (depth + 1) g) (depth + 1) 0 vs) (values_of (context_in (monitor_program p) f) depth args blocks) (λ vs no_host. true_and_false (signature_in (monitor_program p) g).host e no_host)
    go false e =
        let program : ProgramTree = monitor_program p in
        let known : IsTrue (is_some (function_at program g)) = callee_there program g there e in
        let function : FunctionFacts true program g = function_facts true program knows.facts g known in
        let lead : IsTrue (params_lead call_.params (function_in program g).vars) =
        subst (λ ps. IsTrue (params_lead ps (function_in program g).vars)) (sym (call_.own e known))
        (subst (λ (t : FunctionTree). IsTrue (params_lead (take t.params (signature_in program g).params) t.vars)) (sym function.tree_is)
        (subst (λ (y : Signature). IsTrue (params_lead (take function.tree.params y.params) function.tree.vars)) (sym function.signature_is) function.leads)) in
        weaken (ArgumentsLead program (inside w (depth + 1) g) (depth + 1) 0) (λ vs. (signature_in program g).host ≡ false → ArgumentsLead program (inside w (depth + 1) g) (depth + 1) 0 vs) (values_of (context_in program f) depth args blocks) (λ vs all no_host. all)
        (arguments_given program w f depth g blocks s call_.params (function_in program g).vars 0 args (types_of program g) lead call_.fit
        (follows_first w.secret (argument_arrows (function_of program f) (function_of program g) 0 args) ((of_control f, of_control g) ∷ arrows_to node (of_result g ∷ of_control f ∷ []))
        (function_follows p w f g args node known e follows)))

-- ---- statements

either : (P : Flow → State → Type 0) (b : Bool) (x y : State → Outcome Flow) (st : State) → Leaves P (x st) → Leaves P (y st) → Leaves P ((if b then x else y) st)
either P true x y st f g = f
either P false x y st f g = g

pub integer_kind : (ty : VarTy) (r : Option IntType) → IsTrue (both_int (integer_of (Some ty)) r) → pointee_of (Some ty) ≡ None
integer_kind (Int t) r h = refl
integer_kind (Struct n) r h = false_not_true h
integer_kind (Array elem count) r h = false_not_true h
integer_kind (Pointer elem fixed) r h = false_not_true h

from_on : (p : ProgramTree) (w : World) (f depth : ℕ) (mixed : Hosts) (a b c : State) → From p w f depth mixed a b → From p w f depth mixed b c → From p w f depth mixed a c
from_on p w f depth mixed a b c first second = record { stands = second.stands; kept = λ secret. alike_on w depth a.memory b.memory c.memory (first.kept secret) (second.kept secret) }

pub after_on : (p : ProgramTree) (w : World) (f depth : ℕ) (mixed : Hosts) (a b : State) (o : Outcome Flow) → From p w f depth mixed a b → Leaves (After p w f depth mixed b) o → Leaves (After p w f depth mixed a) o
after_on p w f depth mixed a b o first leaves =
    leaves_weaken (After p w f depth mixed b) (After p w f depth mixed a) o leaves (λ flow st t. record { holds = from_on p w f depth mixed a b st first t.holds; flows = t.flows })

rest_after : (p : ProgramTree) (w : World) (f depth : ℕ) (mixed : Hosts) (a : State) (rest : State → Outcome Flow) → ((st : State) → Stands p w depth mixed st → Leaves (After p w f depth mixed st) (rest st)) → (flow : Flow) (st : State) → After p w f depth mixed a flow st → Leaves (After p w f depth mixed a) (after_flow rest flow st)
rest_after p w f depth mixed a rest each goes_on st t = after_on p w f depth mixed a st (rest st) t.holds (each st t.holds.stands)
rest_after p w f depth mixed a rest each broke st t = t
rest_after p w f depth mixed a rest each continues st t = t
rest_after p w f depth mixed a rest each (returned v) st t = t

-- a result is kept
pub result_kept : (p : ProgramTree) (w : World) (f depth g : ℕ) (mixed : Hosts) (a st : State) (to : Option ℕ) (v : Option Cell) → w.who depth ≡ f → Called p w depth mixed g a v st →
    (w.secret (of_control f) ≡ true → AreAlike w depth a.memory st.memory) → (w.secret (of_control f) ≡ true → (x : ℕ) → to ≡ Some x → w.secret (of_variable f x) ≡ true) →
    After p w f depth mixed a goes_on (with_blocks (kept depth to v st.memory) st)
result_kept p w f depth g mixed a st to v here called kept_ goes = record {
  holds = record {
    stands = record { pointers = kept_leads p w depth to v st.memory called.stands.pointers called.plain; hosts = called.stands.hosts };
    kept = λ secret. alike_on w depth a.memory st.memory (kept depth to v st.memory) (kept_ secret) (kept_hidden w f depth to v st.memory here (goes secret));
  };
  flows = tt {0};
}

-- a call keeps what is open, where whether it is done is secret
pub call_keeps : (p : MonitorTree) (w : World) (f depth g : ℕ) (mixed : Hosts) (a st : State) (args : ExprTrees) (node : Option Node) (v : Option Cell) → IsTrue (callee_fits true (monitor_program p) g) →
    Follows w.secret (call_arrows p (function_of (monitor_program p) f) g (signature_in (monitor_program p) g) args node) → Called (monitor_program p) w depth mixed g a v st → w.secret (of_control f) ≡ true → AreAlike w depth a.memory st.memory
call_keeps p w f depth g mixed a st args node v there follows called secret = go (signature_in (monitor_program p) g).host refl
  where
    go : (b : Bool) → (signature_in (monitor_program p) g).host ≡ b → AreAlike w depth a.memory st.memory
    go true e = called.host e
    go false e = called.kept ((follows_second w.secret (argument_arrows (function_of (monitor_program p) f) (function_of (monitor_program p) g) 0 args) ((of_control f, of_control g) ∷ arrows_to node (of_result g ∷ of_control f ∷ []))
        (function_follows p w f g args node (callee_there (monitor_program p) g there e) e follows)).0 secret)

mutual
  pub does_leaves : (p : MonitorTree) (w : World) (f depth : ℕ) (mixed : Hosts) (active : Bool) (calls : Calls) → Knows p w.secret mixed → w.who depth ≡ f → CallsLeave (monitor_program p) w f depth mixed active calls →
      (inner : Bool) (x : StmtTree) → IsTrue (stmt_fits (scope_in (monitor_program p) f) inner x) → AreCalled (monitor_program p) (callees_in x) → Follows w.secret (stmt_arrows p (function_of (monitor_program p) f) x) →
      (st : State) → Stands (monitor_program p) w depth mixed st → Leaves (After (monitor_program p) w f depth mixed st) (does x (frame_of (monitor_program p) f depth active) calls st)
  does_leaves p w f depth mixed active calls knows here each inner (clear v) h called follows st stands =
      let c : Context = context_in (monitor_program p) f in
      moved_on (monitor_program p) w f depth mixed st (cleared c depth v st.memory) stands (record {
        leads = put_leads (monitor_program p) w depth st.memory (Local depth v) (fresh (shape_of c.structs (type_at c.variables v))) stands.pointers (fresh_leads (monitor_program p) w (Local depth v) (shape_of c.structs (type_at c.variables v)));
        kept = λ secret. put_hidden w depth st.memory (Local depth v) (fresh (shape_of c.structs (type_at c.variables v))) (ap (λ g. w.secret (of_variable g v)) here ∙ follows.0 secret);
      })
  does_leaves p w f depth mixed active calls knows here each inner (check q) h called follows st stands =
      leaves_evaluated (λ at. Unit {0}) (After (monitor_program p) w f depth mixed st) (location_of (context_in (monitor_program p) f) depth q st.memory) st (λ at. gives goes_on)
      (always (λ at. Unit {0}) (location_of (context_in (monitor_program p) f) depth q st.memory) (λ at. tt {0})) (λ at _. record { holds = from_self (monitor_program p) w f depth mixed st stands; flows = tt {0} })
  does_leaves p w f depth mixed active calls knows here each inner (assign q a) h called follows st stands =
      leaves_evaluated (Changed (monitor_program p) w f depth st.memory) (After (monitor_program p) w f depth mixed st) (assigned (context_in (monitor_program p) f) depth q a st.memory) st (λ blocks st1. gives goes_on (with_blocks blocks st1))
      (assigned_leads (monitor_program p) w f depth st.memory (sees p w f depth mixed st knows here stands) q a h follows) (λ blocks changed. moved_on (monitor_program p) w f depth mixed st blocks stands changed)
  does_leaves p w f depth mixed active calls knows here each inner (copy to of) h called follows st stands =
      leaves_evaluated (Changed (monitor_program p) w f depth st.memory) (After (monitor_program p) w f depth mixed st) (copied (context_in (monitor_program p) f) depth to of st.memory) st (λ blocks st1. gives goes_on (with_blocks blocks st1))
      (copied_leads (monitor_program p) w f depth st.memory (sees p w f depth mixed st knows here stands) to of h follows) (λ blocks changed. moved_on (monitor_program p) w f depth mixed st blocks stands changed)
  does_leaves p w f depth mixed active calls knows here each inner (call g args to s) h called follows st stands =
      let program : ProgramTree = monitor_program p in
      let c : Context = context_in program f in
      let node : Option Node = option_map (of_variable f) to in
      let there : IsTrue (callee_fits true program g) = both_hold_first (callee_fits true program g) true called.fit in
      let plain : IsTrue (is_no_plain_host program g) = both_hold_first (is_no_plain_host program g) true called.plain in
      leaves_evaluated (λ vs. (signature_in program g).host ≡ false → ArgumentsLead program (inside w (depth + 1) g) (depth + 1) 0 vs) (After program w f depth mixed st) (values_of c depth args st.memory) st (λ vs st1. calls (frame_of program f depth active) s g vs st1 >>= kept_in (frame_of program f depth active) to)
      (call_leads p w f depth g mixed st.memory knows (sees p w f depth mixed st knows here stands) args to node (call_parts program c g args to h) there follows)
      (λ vs lead. leaves_then (Called program w depth mixed g st) (After program w f depth mixed st) (calls (frame_of program f depth active) s g vs st) (kept_in (frame_of program f depth active) to)
      (each g s vs st (record { there = there; plain = plain; lead = lead }) stands)
      (λ v st1 done. result_kept program w f depth g mixed st st1 to v here done (call_keeps p w f depth g mixed st st1 args node v there follows done) (λ secret x is. call_to p w f g (signature_in program g) args (of_variable f x) (subst (λ o. Follows w.secret (call_arrows p (function_of program f) g (signature_in program g) args (option_map (of_variable f) o))) is follows) secret)))
  does_leaves p w f depth mixed active calls knows here each inner (choose a xs ys) h called follows st stands =
      let program : ProgramTree = monitor_program p in
      let fn : FunctionTree = function_of program f in
      let fits : IsTrue (stmts_fit (scope_in program f) inner xs && stmts_fit (scope_in program f) inner ys) = both_hold_second (expr_fits (context_in program f) a && is_scalar (Some (type_of (context_in program f) a))) (stmts_fit (scope_in program f) inner xs && stmts_fit (scope_in program f) inner ys) h in
      let rest = follows_second w.secret (arrows_to (Some (of_control f)) (reads f a)) (all_arrows p fn xs ++ all_arrows p fn ys) follows in
      let first = all_leaves p w f depth mixed active calls knows here each inner xs (both_hold_first (stmts_fit (scope_in program f) inner xs) (stmts_fit (scope_in program f) inner ys) fits) (called_first program (callees_of xs) (callees_of ys) called) (follows_first w.secret (all_arrows p fn xs) (all_arrows p fn ys) rest) st stands in
      let second = all_leaves p w f depth mixed active calls knows here each inner ys (both_hold_second (stmts_fit (scope_in program f) inner xs) (stmts_fit (scope_in program f) inner ys) fits) (called_second program (callees_of xs) (callees_of ys) called) (follows_second w.secret (all_arrows p fn xs) (all_arrows p fn ys) rest) st stands in
      leaves_evaluated (λ v. Unit {0}) (After program w f depth mixed st) (value_of (context_in program f) depth a st.memory) st (λ v. if holds_in v then do_all xs (frame_of program f depth active) calls else do_all ys (frame_of program f depth active) calls)
      (always (λ v. Unit {0}) (value_of (context_in program f) depth a st.memory) (λ v. tt {0}))
      (λ v _. either (After program w f depth mixed st) (holds_in v) (do_all xs (frame_of program f depth active) calls) (do_all ys (frame_of program f depth active) calls) st first second)
  does_leaves p w f depth mixed active calls knows here each inner (repeat xs s) h called follows st stands =
      loop_leaves (From (monitor_program p) w f depth mixed st) (Gives w f) (do_all xs (frame_of (monitor_program p) f depth active) calls)
      (λ st1 n from. record { stands = record { pointers = from.stands.pointers; hosts = from.stands.hosts }; kept = from.kept }) (tt {0})
      (λ st1 from. after_on (monitor_program p) w f depth mixed st st1 (do_all xs (frame_of (monitor_program p) f depth active) calls st1) from (all_leaves p w f depth mixed active calls knows here each true xs h called follows st1 from.stands))
      st.left st (from_self (monitor_program p) w f depth mixed st stands)
  does_leaves p w f depth mixed active calls knows here each inner break_out h called follows st stands = record { holds = from_self (monitor_program p) w f depth mixed st stands; flows = tt {0} }
  does_leaves p w f depth mixed active calls knows here each inner continue_on h called follows st stands = record { holds = from_self (monitor_program p) w f depth mixed st stands; flows = tt {0} }
  does_leaves p w f depth mixed active calls knows here each inner (give_back None) h called follows st stands = record { holds = from_self (monitor_program p) w f depth mixed st stands; flows = tt {0} }
  does_leaves p w f depth mixed active calls knows here each inner (give_back (Some a)) h called follows st stands =
      let program : ProgramTree = monitor_program p in
      let c : Context = context_in program f in
      let typed : IsTrue (both_int (integer_of (Some (type_of c a))) (signature_in program f).result) = both_hold_second (expr_fits c a) (both_int (integer_of (Some (type_of c a))) (signature_in program f).result) h in
      leaves_evaluated (λ v. Gives w f (returned v)) (After program w f depth mixed st) (returned_value c depth (Some a) st.memory) st (λ v. gives (returned v))
      (bound (ValueLeads program w depth (pointee_of (Some (type_of c a))) (start_of f a)) (λ v. Gives w f (returned v)) (value_of c depth a st.memory) _
      (values_lead program w f depth st.memory (sees p w f depth mixed st knows here stands) a (both_hold_first (expr_fits c a) (both_int (integer_of (Some (type_of c a))) (signature_in program f).result) h))
      (λ v leads. (value_plain program w depth (pointee_of (Some (type_of c a))) (start_of f a) v (integer_kind (type_of c a) (signature_in program f).result typed) leads, λ secret. last_secret w.secret (of_result f) (of_control f) (reads f a) follows secret)))
      (λ v given. record { holds = from_self program w f depth mixed st stands; flows = given })

  pub all_leaves : (p : MonitorTree) (w : World) (f depth : ℕ) (mixed : Hosts) (active : Bool) (calls : Calls) → Knows p w.secret mixed → w.who depth ≡ f → CallsLeave (monitor_program p) w f depth mixed active calls →
      (inner : Bool) (xs : StmtTrees) → IsTrue (stmts_fit (scope_in (monitor_program p) f) inner xs) → AreCalled (monitor_program p) (callees_of xs) → Follows w.secret (all_arrows p (function_of (monitor_program p) f) xs) →
      (st : State) → Stands (monitor_program p) w depth mixed st → Leaves (After (monitor_program p) w f depth mixed st) (do_all xs (frame_of (monitor_program p) f depth active) calls st)
  all_leaves p w f depth mixed active calls knows here each inner no_stmts h called follows st stands = record { holds = from_self (monitor_program p) w f depth mixed st stands; flows = tt {0} }
  all_leaves p w f depth mixed active calls knows here each inner (stmt_and x rest) h called follows st stands =
      let program : ProgramTree = monitor_program p in
      let fn : FunctionTree = function_of program f in
      leaves_then (After program w f depth mixed st) (After program w f depth mixed st) (does x (frame_of program f depth active) calls st) (after_flow (do_all rest (frame_of program f depth active) calls))
      (does_leaves p w f depth mixed active calls knows here each inner x (both_hold_first (stmt_fits (scope_in program f) inner x) (stmts_fit (scope_in program f) inner rest) h) (called_first program (callees_in x) (callees_of rest) called) (follows_first w.secret (stmt_arrows p fn x) (all_arrows p fn rest) follows) st stands)
      (rest_after program w f depth mixed st (do_all rest (frame_of program f depth active) calls)
      (λ st1 stands1. all_leaves p w f depth mixed active calls knows here each inner rest (both_hold_second (stmt_fits (scope_in program f) inner x) (stmts_fit (scope_in program f) inner rest) h) (called_second program (callees_in x) (callees_of rest) called) (follows_second w.secret (stmt_arrows p fn x) (all_arrows p fn rest) follows) st1 stands1))
