-- Two runs of statements, where it isn't secret whether they are done: both go on in the same way, and stay alike.
use Rattle.std.proofs.Common.{◌≡◌, ℕ, ◌+◌, refl, subst, Bool, true, false, Option, Some, None, Result, Ok, Err, if◌then◌else◌, List, [], ◌∷◌, ◌++◌, length}
use Rattle.std.specs.Prelude.{IsTrue, ◌&&◌, is_some, nat_lt, option_map}
use Rattle.pt_base.specs.declared.int_type.IntType.{IntType}
use Rattle.pt_base.specs.declared.span.Span.{Span}
use Rattle.pt_base.proofs.Booleans.{both_hold_first, both_hold_second, false_not_true, true_and_false}
use Rattle.typed_tree.specs.TypeTests.{both_int, integer_of, is_scalar, same_types}
use Rattle.typed_tree.specs.declared.types.VarTy.TheVariants.{Int}
use Rattle.runs.specs.State.{Hosts, gives, ◌>>=◌}
use Rattle.block_memory.specs.declared.cell.Cell.{Cell}
use Rattle.block_memory.specs.declared.cell.BlockName.TheVariants.{Local}
use Rattle.block_memory.specs.Block.{fresh}
use Rattle.pt_core.specs.CodeTree.{FunctionTree, MonitorTree, ProgramTree, ExprTrees, StmtTree, clear, check, assign, copy, call, choose, repeat, break_out, continue_on, give_back, StmtTrees, no_stmts, stmt_and}
use Rattle.pt_core.specs.Types.{Context, shape_of, type_at, type_of}
use Rattle.pt_core.specs.Values.{Stop, holds_in, value_of, values_of, location_of}
use Rattle.pt_core.specs.Statements.{Calls, Flow, State, Outcome, goes_on, returned, after_flow, assigned, copied, does, do_all, kept_in, returned_value, with_blocks}
use Rattle.pt_core.specs.Calls.{context_in, function_in, signature_in}
use Rattle.pt_core.specs.WellFormed.{callee_fits, monitor_program}
use Rattle.pt_core.specs.WellFormedExpression.{expr_fits}
use Rattle.pt_core.specs.WellFormedStatement.{callees_in, callees_of, result_fits, stmt_fits, stmts_fit}
use Rattle.monitor_labels.specs.Nodes.{Node, of_variable, of_result, of_control}
use Rattle.monitor_labels.specs.Arrows.{all_arrows, all_reads, argument_arrows, arrows_to, call_arrows, function_call_arrows, host_arrows, reads, stmt_arrows}
use Rattle.independence_law.specs.Bodies.{is_no_plain_host}
use Rattle.independence_law.proofs.Worlds.{World, AreAlike, inside}
use Rattle.independence_law.proofs.Follows.{AreOpen, Follows, back_false, follows_first, follows_second, open_first, to_open}
use Rattle.independence_law.proofs.Alike.{same_next, values_alike}
use Rattle.independence_law.proofs.Changes.{ArgumentsAlike, ArgumentsLead, put_alike}
use Rattle.independence_law.proofs.Outcomes.{BothLeave, BothOk, BothTurned, SameFlow, both_evaluated, both_loops, both_then, same_after, same_ok}
use Rattle.independence_law.proofs.Known.{AreCalled, Knows, Stands, called_first, called_second, callee_there, frame_of, function_of, scope_in, sees}
use Rattle.independence_law.proofs.Both.{any_ok, arguments_both, arguments_same, assigned_both, copied_both, each_ok, kept_alike}
use Rattle.independence_law.proofs.Confined.{After, Called, CallFits, CallsLeave, From, Gives, MayCall, after_on, all_leaves, call_leads, call_parts, does_leaves, from_self, function_follows}

-- ---- what is the same in both

abbrev pub AlikeIn : World → ℕ → State → State → Type 0
AlikeIn w depth st st' = AreAlike w depth st.memory st'.memory

-- what a function gives, where that isn't secret
abbrev pub SameValue : World → ℕ → Option Cell → Option Cell → Type 0
SameValue w f v u = w.secret (of_result f) ≡ false → v ≡ u

abbrev pub Agree : World → ℕ → ℕ → Flow → State → Flow → State → Type 0
Agree w f depth = BothTurned (AlikeIn w depth) (SameFlow (SameValue w f))

-- two calls
pub record CallsMatch (p : ProgramTree) (w : World) (depth g : ℕ) (args args' : List Cell) (v : Option Cell) (st : State) (u : Option Cell) (st' : State) : Type 0 where
  pub alike : AlikeIn w depth st st'
  pub given : (signature_in p g).host ≡ false → w.secret (of_result g) ≡ false → v ≡ u
  pub answer : (signature_in p g).host ≡ true → (signature_in p g).privileged ≡ false → args ≡ args' → v ≡ u

abbrev pub CallsAgree : ProgramTree → World → ℕ → ℕ → Hosts → Bool → Calls → Type 0
CallsAgree p w f depth mixed active calls = (g : ℕ) (s : Span) (args args' : List Cell) (st st' : State) → MayCall p w depth g args → MayCall p w depth g args' →
    ((signature_in p g).host ≡ false → ArgumentsAlike (inside w (depth + 1) g) (depth + 1) 0 args args') → Stands p w depth mixed st → Stands p w depth mixed st' → AlikeIn w depth st st' →
    BothLeave (CallsMatch p w depth g args args') (calls (frame_of p f depth active) s g args st) (calls (frame_of p f depth active) s g args' st')

-- ---- the arguments of two calls

pub record ArgumentsMatch (p : ProgramTree) (w : World) (f depth g : ℕ) (args : ExprTrees) (vs us : List Cell) : Type 0 where
  pub lead : (signature_in p g).host ≡ false → ArgumentsLead p (inside w (depth + 1) g) (depth + 1) 0 vs
  pub lead' : (signature_in p g).host ≡ false → ArgumentsLead p (inside w (depth + 1) g) (depth + 1) 0 us
  pub alike : (signature_in p g).host ≡ false → ArgumentsAlike (inside w (depth + 1) g) (depth + 1) 0 vs us
  pub same : AreOpen w.secret (all_reads f args) → vs ≡ us

-- each of two facts of two results
both_facts : {A : Type 0} (X Y : Type 0) (R S : A → A → Type 0) (r r' : Result A Stop) → (X → BothOk R r r') → (Y → BothOk S r r') → BothOk (λ x y. (X → R x y) × (Y → S x y)) r r'
both_facts X Y R S (Ok x) (Ok y) f g = (f, g)
both_facts X Y R S (Ok x) (Err stop) f g = tt {0}
both_facts X Y R S (Err stop) r' f g = tt {0}

arguments_match : (p : MonitorTree) (w : World) (f depth g : ℕ) (mixed : Hosts) (a b : State) → Knows p w.secret mixed → w.who depth ≡ f → Stands (monitor_program p) w depth mixed a → Stands (monitor_program p) w depth mixed b → AlikeIn w depth a b → (args : ExprTrees) (to : Option ℕ) (node : Option Node) →
    CallFits (monitor_program p) (context_in (monitor_program p) f) g args to → IsTrue (callee_fits true (monitor_program p) g) → Follows w.secret (call_arrows p (function_of (monitor_program p) f) g (signature_in (monitor_program p) g) args node) →
    BothOk (ArgumentsMatch (monitor_program p) w f depth g args) (values_of (context_in (monitor_program p) f) depth args a.memory) (values_of (context_in (monitor_program p) f) depth args b.memory)
arguments_match p w f depth g mixed a b knows here stands stands' same args to node call_ there follows =
    let program : ProgramTree = monitor_program p in
    let c : Context = context_in program f in
    let lead : List Cell → Type 0 = λ vs. (signature_in program g).host ≡ false → ArgumentsLead program (inside w (depth + 1) g) (depth + 1) 0 vs in
    each_ok lead lead (λ vs us. ((signature_in program g).host ≡ false → ArgumentsAlike (inside w (depth + 1) g) (depth + 1) 0 vs us) × (AreOpen w.secret (all_reads f args) → vs ≡ us)) (ArgumentsMatch program w f depth g args)
    (values_of c depth args a.memory) (values_of c depth args b.memory)
    (call_leads p w f depth g mixed a.memory knows (sees p w f depth mixed a knows here stands) args to node call_ there follows) (call_leads p w f depth g mixed b.memory knows (sees p w f depth mixed b knows here stands') args to node call_ there follows)
    (both_facts ((signature_in program g).host ≡ false) (AreOpen w.secret (all_reads f args)) (ArgumentsAlike (inside w (depth + 1) g) (depth + 1) 0) (λ vs us. vs ≡ us) (values_of c depth args a.memory) (values_of c depth args b.memory)
    (λ no_host. arguments_both program w f depth g a.memory b.memory (sees p w f depth mixed a knows here stands) same call_.params 0 args call_.fit
    (follows_first w.secret (argument_arrows (function_of program f) (function_of program g) 0 args) ((of_control f, of_control g) ∷ arrows_to node (of_result g ∷ of_control f ∷ [])) (function_follows p w f g args node (callee_there program g there no_host) no_host follows)))
    (λ open_. same_ok (values_of c depth args a.memory) (values_of c depth args b.memory) (arguments_same program w f depth a.memory b.memory (sees p w f depth mixed a knows here stands) same call_.params args call_.fit open_)))
    (λ vs us one other facts. record { lead = one; lead' = other; alike = facts.0; same = facts.1 })

-- what two calls give a variable that isn't secret is the same
result_match : (p : MonitorTree) (w : World) (f depth g : ℕ) (mixed : Hosts) → Knows p w.secret mixed → (args : ExprTrees) (to : Option ℕ) (vs us : List Cell) (v u : Option Cell) (st st' : State) → IsTrue (result_fits (context_in (monitor_program p) f) (signature_in (monitor_program p) g).result to) →
    IsTrue (callee_fits true (monitor_program p) g) → Follows w.secret (call_arrows p (function_of (monitor_program p) f) g (signature_in (monitor_program p) g) args (option_map (of_variable f) to)) → (AreOpen w.secret (all_reads f args) → vs ≡ us) → CallsMatch (monitor_program p) w depth g vs us v st u st' →
    (x : ℕ) → to ≡ Some x → w.secret (of_variable f x) ≡ false → v ≡ u
result_match p w f depth g mixed knows args to vs us v u st st' fits there follows same match x is shown =
    go (signature_in (monitor_program p) g).host (signature_in (monitor_program p) g).privileged refl refl
    (subst (λ o. Follows w.secret (call_arrows p (function_of (monitor_program p) f) g (signature_in (monitor_program p) g) args (option_map (of_variable f) o))) is follows)
  where
    gives_some : (r : Option IntType) → IsTrue (result_fits (context_in (monitor_program p) f) r (Some x)) → IsTrue (is_some r)
    gives_some None h = false_not_true (both_hold_second (nat_lt x (length (context_in (monitor_program p) f).variables)) (same_types (option_map Int None) (Some (type_at (context_in (monitor_program p) f).variables x))) h)
    gives_some (Some t) h = refl

    go : (b c : Bool) → (signature_in (monitor_program p) g).host ≡ b → (signature_in (monitor_program p) g).privileged ≡ c →
        Follows w.secret (if (signature_in (monitor_program p) g).host then host_arrows (function_of (monitor_program p) f) g (signature_in (monitor_program p) g).privileged args (Some (of_variable f x)) else function_call_arrows (function_of (monitor_program p) f) (function_in (monitor_program p) g) g args (Some (of_variable f x))) → v ≡ u
    go true true host privileged h =
        let arrows : Follows w.secret (arrows_to (Some (of_variable f x)) (of_result g ∷ of_control f ∷ [])) =
        subst (λ c. Follows w.secret (host_arrows (function_of (monitor_program p) f) g c args (Some (of_variable f x)))) privileged
        (subst (λ b. Follows w.secret (if b then host_arrows (function_of (monitor_program p) f) g (signature_in (monitor_program p) g).privileged args (Some (of_variable f x)) else function_call_arrows (function_of (monitor_program p) f) (function_in (monitor_program p) g) g args (Some (of_variable f x)))) host h) in
        true_and_false (w.secret (of_variable f x)) (arrows.0 (knows.hosts g host privileged (gives_some (signature_in (monitor_program p) g).result (subst (λ o. IsTrue (result_fits (context_in (monitor_program p) f) (signature_in (monitor_program p) g).result o)) is fits)))) shown
    go true false host privileged h =
        let arrows : Follows w.secret (arrows_to (Some (of_variable f x)) (all_reads f args ++ of_control f ∷ [])) =
        subst (λ c. Follows w.secret (host_arrows (function_of (monitor_program p) f) g c args (Some (of_variable f x)))) privileged
        (subst (λ b. Follows w.secret (if b then host_arrows (function_of (monitor_program p) f) g (signature_in (monitor_program p) g).privileged args (Some (of_variable f x)) else function_call_arrows (function_of (monitor_program p) f) (function_in (monitor_program p) g) g args (Some (of_variable f x)))) host h) in
        match.answer host privileged (same (open_first w.secret (all_reads f args) (of_control f ∷ []) (to_open w.secret (of_variable f x) (all_reads f args ++ of_control f ∷ []) arrows shown)))
    go false c host privileged h =
        let arrows : Follows w.secret ((of_control f, of_control g) ∷ arrows_to (Some (of_variable f x)) (of_result g ∷ of_control f ∷ [])) =
        follows_second w.secret (argument_arrows (function_of (monitor_program p) f) (function_of (monitor_program p) g) 0 args) ((of_control f, of_control g) ∷ arrows_to (Some (of_variable f x)) (of_result g ∷ of_control f ∷ []))
        (function_follows p w f g args (Some (of_variable f x)) (callee_there (monitor_program p) g there host) host h) in
        match.given host (back_false (w.secret (of_result g)) (w.secret (of_variable f x)) arrows.1.0 shown)

-- ---- statements

-- what is given is the same, where it isn't secret
given_same : (w : World) (f : ℕ) (r r' : Result (Option Cell) Stop) → (w.secret (of_result f) ≡ false → r ≡ r') → BothOk (SameValue w f) r r'
given_same w f (Ok v) (Ok u) same = λ shown. one v u (same shown)
  where
    one : (v u : Option Cell) → ◌≡◌ {A = Result (Option Cell) Stop} (Ok v) (Ok u) → v ≡ u
    one v u h = cc
given_same w f (Ok v) (Err stop) same = tt {0}
given_same w f (Err stop) r' same = tt {0}

either_both : (R : Flow → State → Flow → State → Type 0) (b : Bool) (x y : State → Outcome Flow) (st st' : State) → BothLeave R (x st) (x st') → BothLeave R (y st) (y st') → BothLeave R ((if b then x else y) st) ((if b then x else y) st')
either_both R true x y st st' f g = f
either_both R false x y st st' f g = g

mutual
  pub does_agree : (p : MonitorTree) (w : World) (f depth : ℕ) (mixed : Hosts) (active : Bool) (calls : Calls) → Knows p w.secret mixed → w.who depth ≡ f → w.secret (of_control f) ≡ false → CallsLeave (monitor_program p) w f depth mixed active calls → CallsAgree (monitor_program p) w f depth mixed active calls →
      (inner : Bool) (x : StmtTree) → IsTrue (stmt_fits (scope_in (monitor_program p) f) inner x) → AreCalled (monitor_program p) (callees_in x) → Follows w.secret (stmt_arrows p (function_of (monitor_program p) f) x) →
      (a b : State) → Stands (monitor_program p) w depth mixed a → Stands (monitor_program p) w depth mixed b → AlikeIn w depth a b → BothLeave (Agree w f depth) (does x (frame_of (monitor_program p) f depth active) calls a) (does x (frame_of (monitor_program p) f depth active) calls b)
  does_agree p w f depth mixed active calls knows here open_ each both inner (clear v) h called follows a b sa sb same =
      let c : Context = context_in (monitor_program p) f in
      record { alike = put_alike w depth a.memory b.memory (Local depth v) (fresh (shape_of c.structs (type_at c.variables v))) same; flows = tt {0} }
  does_agree p w f depth mixed active calls knows here open_ each both inner (check q) h called follows a b sa sb same =
      let c : Context = context_in (monitor_program p) f in
      both_evaluated (λ x y. Unit {0}) (Agree w f depth) (location_of c depth q a.memory) (location_of c depth q b.memory) a b (λ at. gives goes_on) (λ at. gives goes_on)
      (any_ok (λ x y. Unit {0}) (location_of c depth q a.memory) (location_of c depth q b.memory) (λ x y. tt {0})) (λ x y _. record { alike = same; flows = tt {0} })
  does_agree p w f depth mixed active calls knows here open_ each both inner (assign q e) h called follows a b sa sb same =
      let c : Context = context_in (monitor_program p) f in
      both_evaluated (AreAlike w depth) (Agree w f depth) (assigned c depth q e a.memory) (assigned c depth q e b.memory) a b (λ blocks st1. gives goes_on (with_blocks blocks st1)) (λ blocks st1. gives goes_on (with_blocks blocks st1))
      (assigned_both (monitor_program p) w f depth a.memory b.memory (sees p w f depth mixed a knows here sa) (sees p w f depth mixed b knows here sb) same q e h follows) (λ x y alike. record { alike = alike; flows = tt {0} })
  does_agree p w f depth mixed active calls knows here open_ each both inner (copy to of) h called follows a b sa sb same =
      let c : Context = context_in (monitor_program p) f in
      both_evaluated (AreAlike w depth) (Agree w f depth) (copied c depth to of a.memory) (copied c depth to of b.memory) a b (λ blocks st1. gives goes_on (with_blocks blocks st1)) (λ blocks st1. gives goes_on (with_blocks blocks st1))
      (copied_both (monitor_program p) w f depth a.memory b.memory (sees p w f depth mixed a knows here sa) (sees p w f depth mixed b knows here sb) same to of h follows) (λ x y alike. record { alike = alike; flows = tt {0} })
  does_agree p w f depth mixed active calls knows here open_ each both inner (call g args to s) h called follows a b sa sb same =
      let program : ProgramTree = monitor_program p in
      let c : Context = context_in program f in
      let node : Option Node = option_map (of_variable f) to in
      let there : IsTrue (callee_fits true program g) = both_hold_first (callee_fits true program g) true called.fit in
      let plain : IsTrue (is_no_plain_host program g) = both_hold_first (is_no_plain_host program g) true called.plain in
      let fits : CallFits program c g args to = call_parts program c g args to h in
      both_evaluated (ArgumentsMatch program w f depth g args) (Agree w f depth) (values_of c depth args a.memory) (values_of c depth args b.memory) a b
      (λ vs st1. calls (frame_of program f depth active) s g vs st1 >>= kept_in (frame_of program f depth active) to) (λ vs st1. calls (frame_of program f depth active) s g vs st1 >>= kept_in (frame_of program f depth active) to)
      (arguments_match p w f depth g mixed a b knows here sa sb same args to node fits there follows)
      (λ vs us match. both_then (Called program w depth mixed g a) (Called program w depth mixed g b) (CallsMatch program w depth g vs us) (Agree w f depth)
      (calls (frame_of program f depth active) s g vs a) (calls (frame_of program f depth active) s g us b) (kept_in (frame_of program f depth active) to) (kept_in (frame_of program f depth active) to)
      (each g s vs a (record { there = there; plain = plain; lead = match.lead }) sa) (each g s us b (record { there = there; plain = plain; lead = match.lead' }) sb)
      (both g s vs us a b (record { there = there; plain = plain; lead = match.lead }) (record { there = there; plain = plain; lead = match.lead' }) match.alike sa sb same)
      (λ v st u st' _ _ done. record {
        alike = kept_alike w f depth to v u st.memory st'.memory here done.alike (result_match p w f depth g mixed knows args to vs us v u st st' fits.result there follows match.same done);
        flows = tt {0};
      }))
  does_agree p w f depth mixed active calls knows here open_ each both inner (choose e xs ys) h called follows a b sa sb same =
      let program : ProgramTree = monitor_program p in
      let c : Context = context_in program f in
      let fn : FunctionTree = function_of program f in
      let cond : IsTrue (expr_fits c e && is_scalar (Some (type_of c e))) = both_hold_first (expr_fits c e && is_scalar (Some (type_of c e))) (stmts_fit (scope_in program f) inner xs && stmts_fit (scope_in program f) inner ys) h in
      let fits : IsTrue (stmts_fit (scope_in program f) inner xs && stmts_fit (scope_in program f) inner ys) = both_hold_second (expr_fits c e && is_scalar (Some (type_of c e))) (stmts_fit (scope_in program f) inner xs && stmts_fit (scope_in program f) inner ys) h in
      let read : AreOpen w.secret (reads f e) = to_open w.secret (of_control f) (reads f e) (follows_first w.secret (arrows_to (Some (of_control f)) (reads f e)) (all_arrows p fn xs ++ all_arrows p fn ys) follows) open_ in
      let rest : Follows w.secret (all_arrows p fn xs ++ all_arrows p fn ys) = follows_second w.secret (arrows_to (Some (of_control f)) (reads f e)) (all_arrows p fn xs ++ all_arrows p fn ys) follows in
      both_evaluated (λ v u. v ≡ u) (Agree w f depth) (value_of c depth e a.memory) (value_of c depth e b.memory) a b
      (λ v. if holds_in v then do_all xs (frame_of program f depth active) calls else do_all ys (frame_of program f depth active) calls) (λ v. if holds_in v then do_all xs (frame_of program f depth active) calls else do_all ys (frame_of program f depth active) calls)
      (same_ok (value_of c depth e a.memory) (value_of c depth e b.memory) (values_alike program w f depth a.memory b.memory (sees p w f depth mixed a knows here sa) same e (both_hold_first (expr_fits c e) (is_scalar (Some (type_of c e))) cond) read))
      (λ v u is. subst (λ z. BothLeave (Agree w f depth) ((if holds_in v then do_all xs (frame_of program f depth active) calls else do_all ys (frame_of program f depth active) calls) a) ((if holds_in z then do_all xs (frame_of program f depth active) calls else do_all ys (frame_of program f depth active) calls) b)) is
      (either_both (Agree w f depth) (holds_in v) (do_all xs (frame_of program f depth active) calls) (do_all ys (frame_of program f depth active) calls) a b
      (all_agree p w f depth mixed active calls knows here open_ each both inner xs (both_hold_first (stmts_fit (scope_in program f) inner xs) (stmts_fit (scope_in program f) inner ys) fits) (called_first program (callees_of xs) (callees_of ys) called) (follows_first w.secret (all_arrows p fn xs) (all_arrows p fn ys) rest) a b sa sb same)
      (all_agree p w f depth mixed active calls knows here open_ each both inner ys (both_hold_second (stmts_fit (scope_in program f) inner xs) (stmts_fit (scope_in program f) inner ys) fits) (called_second program (callees_of xs) (callees_of ys) called) (follows_second w.secret (all_arrows p fn xs) (all_arrows p fn ys) rest) a b sa sb same)))
  does_agree p w f depth mixed active calls knows here open_ each both inner (repeat xs s) h called follows a b sa sb same =
      let program : ProgramTree = monitor_program p in
      both_loops (From program w f depth mixed a) (From program w f depth mixed b) (Gives w f) (Gives w f) (AlikeIn w depth) (SameValue w f) (do_all xs (frame_of program f depth active) calls) (do_all xs (frame_of program f depth active) calls)
      (λ st n from. record { stands = record { pointers = from.stands.pointers; hosts = from.stands.hosts }; kept = from.kept }) (λ st n from. record { stands = record { pointers = from.stands.pointers; hosts = from.stands.hosts }; kept = from.kept })
      (λ st st' n m alike. alike)
      (λ st from. after_on program w f depth mixed a st (do_all xs (frame_of program f depth active) calls st) from (all_leaves p w f depth mixed active calls knows here each true xs h called follows st from.stands))
      (λ st from. after_on program w f depth mixed b st (do_all xs (frame_of program f depth active) calls st) from (all_leaves p w f depth mixed active calls knows here each true xs h called follows st from.stands))
      (λ st st' from from' alike. all_agree p w f depth mixed active calls knows here open_ each both true xs h called follows st st' from.stands from'.stands alike)
      a.left b.left a b (from_self program w f depth mixed a sa) (from_self program w f depth mixed b sb) same
  does_agree p w f depth mixed active calls knows here open_ each both inner break_out h called follows a b sa sb same = record { alike = same; flows = tt {0} }
  does_agree p w f depth mixed active calls knows here open_ each both inner continue_on h called follows a b sa sb same = record { alike = same; flows = tt {0} }
  does_agree p w f depth mixed active calls knows here open_ each both inner (give_back None) h called follows a b sa sb same = record { alike = same; flows = λ shown. refl }
  does_agree p w f depth mixed active calls knows here open_ each both inner (give_back (Some e)) h called follows a b sa sb same =
      let program : ProgramTree = monitor_program p in
      let c : Context = context_in program f in
      both_evaluated (SameValue w f) (Agree w f depth) (returned_value c depth (Some e) a.memory) (returned_value c depth (Some e) b.memory) a b (λ v. gives (returned v)) (λ v. gives (returned v))
      (given_same w f (returned_value c depth (Some e) a.memory) (returned_value c depth (Some e) b.memory)
      (λ shown. same_next (value_of c depth e a.memory) (value_of c depth e b.memory) _ _ (values_alike program w f depth a.memory b.memory (sees p w f depth mixed a knows here sa) same e (both_hold_first (expr_fits c e) (both_int (integer_of (Some (type_of c e))) (signature_in program f).result) h)
      (open_first w.secret (reads f e) (of_control f ∷ []) (to_open w.secret (of_result f) (reads f e ++ of_control f ∷ []) follows shown))) (λ v. refl)))
      (λ v u given. record { alike = same; flows = given })

  pub all_agree : (p : MonitorTree) (w : World) (f depth : ℕ) (mixed : Hosts) (active : Bool) (calls : Calls) → Knows p w.secret mixed → w.who depth ≡ f → w.secret (of_control f) ≡ false → CallsLeave (monitor_program p) w f depth mixed active calls → CallsAgree (monitor_program p) w f depth mixed active calls →
      (inner : Bool) (xs : StmtTrees) → IsTrue (stmts_fit (scope_in (monitor_program p) f) inner xs) → AreCalled (monitor_program p) (callees_of xs) → Follows w.secret (all_arrows p (function_of (monitor_program p) f) xs) →
      (a b : State) → Stands (monitor_program p) w depth mixed a → Stands (monitor_program p) w depth mixed b → AlikeIn w depth a b → BothLeave (Agree w f depth) (do_all xs (frame_of (monitor_program p) f depth active) calls a) (do_all xs (frame_of (monitor_program p) f depth active) calls b)
  all_agree p w f depth mixed active calls knows here open_ each both inner no_stmts h called follows a b sa sb same = record { alike = same; flows = tt {0} }
  all_agree p w f depth mixed active calls knows here open_ each both inner (stmt_and x rest) h called follows a b sa sb same =
      let program : ProgramTree = monitor_program p in
      let fn : FunctionTree = function_of program f in
      let fit : IsTrue (stmt_fits (scope_in program f) inner x) = both_hold_first (stmt_fits (scope_in program f) inner x) (stmts_fit (scope_in program f) inner rest) h in
      let asked : AreCalled program (callees_in x) = called_first program (callees_in x) (callees_of rest) called in
      let first : Follows w.secret (stmt_arrows p fn x) = follows_first w.secret (stmt_arrows p fn x) (all_arrows p fn rest) follows in
      both_then (After program w f depth mixed a) (After program w f depth mixed b) (Agree w f depth) (Agree w f depth) (does x (frame_of program f depth active) calls a) (does x (frame_of program f depth active) calls b)
      (after_flow (do_all rest (frame_of program f depth active) calls)) (after_flow (do_all rest (frame_of program f depth active) calls))
      (does_leaves p w f depth mixed active calls knows here each inner x fit asked first a sa) (does_leaves p w f depth mixed active calls knows here each inner x fit asked first b sb)
      (does_agree p w f depth mixed active calls knows here open_ each both inner x fit asked first a b sa sb same)
      (λ flow st flow' st' one other agree. same_after (Stands program w depth mixed) (Stands program w depth mixed) (AlikeIn w depth) (SameValue w f) (do_all rest (frame_of program f depth active) calls) (do_all rest (frame_of program f depth active) calls)
      (λ st1 st2 s1 s2 alike. all_agree p w f depth mixed active calls knows here open_ each both inner rest (both_hold_second (stmt_fits (scope_in program f) inner x) (stmts_fit (scope_in program f) inner rest) h) (called_second program (callees_in x) (callees_of rest) called) (follows_second w.secret (stmt_arrows p fn x) (all_arrows p fn rest) follows) st1 st2 s1 s2 alike)
      flow flow' st st' one.holds.stands other.holds.stands agree.alike agree.flows)
