-- Calls within a depth, in two runs: where the arguments are alike, so is what they leave.
use Rattle.std.proofs.Common.{◌≡◌, ◌∙◌, ℕ, ℤ, zero, suc, ◌+◌, refl, ap, sym, subst, Bool, true, false, not, Option, Some, None, if◌then◌else◌, List, map}
use Rattle.std.specs.Prelude.{IsTrue, ◌&&◌, ◌||◌, is_some, unwrap_or}
use Rattle.pt_base.specs.declared.int_type.IntType.{IntType}
use Rattle.pt_base.specs.declared.span.Span.{Span}
use Rattle.pt_base.specs.declared.trap.Trap.TheVariants.{Depth}
use Rattle.pt_base.proofs.Booleans.{both_hold, false_not_true, true_and_false}
use Rattle.pt_tree.specs.declared.host_model.HostModel.{HostModel}
use Rattle.pt_tree.specs.declared.signature.Signature.{Signature}
use Rattle.pt_tree.specs.HostStep.{host_step}
use Rattle.typed_tree.specs.declared.variable.Var.{Var}
use Rattle.host_models.specs.Mixed.{is_mixed}
use Rattle.runs.specs.State.{Hosts, gives, trapped, spent, answer_of, after_answer}
use Rattle.block_memory.specs.declared.cell.Cell.{Cell}
use Rattle.block_memory.specs.declared.shape.BlockShape.{BlockShape}
use Rattle.block_memory.specs.Blocks.{Blocks, with_frame}
use Rattle.pt_core.specs.CodeTree.{MonitorTree, ProgramTree}
use Rattle.pt_core.specs.Types.{shape_of}
use Rattle.pt_core.specs.Values.{number_in}
use Rattle.pt_core.specs.Statements.{Calls, Flow, Frame, State, Outcome, goes_on, broke, continues, returned, do_all, with_blocks}
use Rattle.pt_core.specs.Calls.{at_end, body_run, calls_within, entered, function_call, function_in, host_call, inner_frame, no_signature, noted_call, number_cell, returned_from, signature_in}
use Rattle.pt_core.specs.WellFormed.{callee_by, callee_fits, function_at, is_plain_host, monitor_program, signature_at}
use Rattle.core_soundness_law.proofs.Programs.{FunctionFacts, function_facts}
use Rattle.monitor_labels.specs.Nodes.{of_control}
use Rattle.monitor_labels.specs.Arrows.{alias_arrows, all_arrows}
use Rattle.independence_law.specs.Bodies.{is_mixed_host, is_no_plain_host}
use Rattle.independence_law.proofs.Worlds.{World, AreAlike, alike_both, inside, who_inside}
use Rattle.independence_law.proofs.Follows.{follows_second}
use Rattle.independence_law.proofs.Changes.{ArgumentsAlike, ArgumentsLead, arguments_alike, frame_alike, left_alike}
use Rattle.independence_law.proofs.Outcomes.{BothLeave, Leaves, SameFlow, both_then, both_turns, both_weaken}
use Rattle.independence_law.proofs.Known.{IsTable, Knows, Stands, body_called, body_fits, callee_there, frame_of, function_of}
use Rattle.independence_law.proofs.Confined.{After, CallsLeave, all_leaves}
use Rattle.independence_law.proofs.Calls.{Given, body_leaves, calls_leave, entered_stands}
use Rattle.independence_law.proofs.Agree.{Agree, AlikeIn, CallsAgree, CallsMatch, SameValue, all_agree}

-- ---- hosts

-- a host that may be called and isn't privileged takes what is secret
mixed_host : (p : ProgramTree) (g : ℕ) → IsTrue (callee_fits true p g) → IsTrue (is_no_plain_host p g) → (signature_in p g).host ≡ true → (signature_in p g).privileged ≡ false → IsTrue (is_mixed_host (signature_in p g))
mixed_host p g there h host open_ = both_hold (signature_in p g).host (is_mixed (signature_in p g)) host (go (signature_at p g) refl h)
  where
    known : (x : Signature) → signature_at p g ≡ Some x → (x.host && not x.privileged) ≡ true
    known x e = ap (λ (y : Signature). y.host && not y.privileged) (sym (ap (λ o. unwrap_or o no_signature) e)) ∙ both_hold (signature_in p g).host (not (signature_in p g).privileged) host (ap not open_)

    by : (b : Bool) → b ≡ true → IsTrue (not b || is_mixed (signature_in p g)) → IsTrue (is_mixed (signature_in p g))
    by true e k = k
    by false e k = false_not_true e

    nothing : signature_at p g ≡ None → IsTrue (is_mixed (signature_in p g))
    nothing e = false_not_true (subst (λ o. IsTrue (callee_by true p g o)) e there)

    go : (o : Option Signature) → signature_at p g ≡ o → IsTrue (not (is_plain_host o) || is_mixed (signature_in p g)) → IsTrue (is_mixed (signature_in p g))
    go None e k = nothing e
    go (Some x) e k = by (x.host && not x.privileged) (known x e) k

-- a table answers the same, whatever the input is
table_answers : (input input' : List ℕ) (model : HostModel) (numbers : List ℤ) → IsTable model → (host_step input model numbers).result ≡ (host_step input' model numbers).result
table_answers input input' model numbers table = subst (λ m. (host_step input m numbers).result ≡ (host_step input' m numbers).result) (sym table.is) refl

hosts_agree : (p : MonitorTree) (w : World) (f depth g : ℕ) (mixed : Hosts) (active : Bool) (args args' : List Cell) (a b : State) → Knows p w.secret mixed → (signature_in (monitor_program p) g).host ≡ true → IsTrue (callee_fits true (monitor_program p) g) → IsTrue (is_no_plain_host (monitor_program p) g) →
    Stands (monitor_program p) w depth mixed a → Stands (monitor_program p) w depth mixed b → AlikeIn w depth a b →
    BothLeave (CallsMatch (monitor_program p) w depth g args args') (host_call (monitor_program p) (frame_of (monitor_program p) f depth active) g args a) (host_call (monitor_program p) (frame_of (monitor_program p) f depth active) g args' b)
hosts_agree p w f depth g mixed active args args' a b knows host known plain sa sb same =
    both_turns (CallsMatch (monitor_program p) w depth g args args') a.left b.left a b
    (λ st1. let st2 = noted_call (monitor_program p) (frame_of (monitor_program p) f depth active) g args st1 in let answer = answer_of g (map number_in args) st2 in gives (number_cell answer.result) (after_answer g answer st2))
    (λ st1. let st2 = noted_call (monitor_program p) (frame_of (monitor_program p) f depth active) g args' st1 in let answer = answer_of g (map number_in args') st2 in gives (number_cell answer.result) (after_answer g answer st2))
    (λ n m. record {
      alike = same;
      given = λ no_host. true_and_false (signature_in (monitor_program p) g).host host no_host;
      answer = λ _ open_ is.
          let mix : IsTrue (is_mixed_host (signature_in (monitor_program p) g)) = mixed_host (monitor_program p) g known plain host open_ in
          let here : a.hosts g ≡ mixed g = sa.hosts g mix in
          let there : b.hosts g ≡ mixed g = sb.hosts g mix in
          ap number_cell
          (ap (λ x. (host_step a.input x (map number_in args)).result) here
          ∙ table_answers a.input b.input (mixed g) (map number_in args) (knows.tables g mix)
          ∙ ap (λ vs. (host_step b.input (mixed g) (map number_in vs)).result) is
          ∙ ap (λ x. (host_step b.input x (map number_in args')).result) (sym there));
    })

-- ---- bodies

-- what two runs of a body leave
pub record Matched (w : World) (depth g : ℕ) (v : Option Cell) (st : State) (u : Option Cell) (st' : State) : Type 0 where
  pub alike : AlikeIn w depth st st'
  pub given : SameValue w g v u

both_ended : (w : World) (depth g : ℕ) (r : Option IntType) (s : Span) (st st' : State) → AlikeIn (inside w (depth + 1) g) (depth + 1) st st' → BothLeave (Matched w depth g) (at_end r s (depth + 1) st) (at_end r s (depth + 1) st')
both_ended w depth g None s st st' same = record { alike = left_alike w depth g st.memory st'.memory same; given = λ shown. refl }
both_ended w depth g (Some t) s st st' same = tt {0}

both_returned : (w : World) (depth g : ℕ) (r : Option IntType) (s : Span) (flow flow' : Flow) (st st' : State) → AlikeIn (inside w (depth + 1) g) (depth + 1) st st' → SameFlow (SameValue (inside w (depth + 1) g) g) flow flow' →
    BothLeave (Matched w depth g) (returned_from r s (depth + 1) flow st) (returned_from r s (depth + 1) flow' st')
both_returned w depth g r s goes_on goes_on st st' same h = both_ended w depth g r s st st' same
both_returned w depth g r s goes_on broke st st' same h = elim h [ ]
both_returned w depth g r s goes_on continues st st' same h = elim h [ ]
both_returned w depth g r s goes_on (returned u) st st' same h = elim h [ ]
both_returned w depth g r s broke goes_on st st' same h = elim h [ ]
both_returned w depth g r s broke broke st st' same h = both_ended w depth g r s st st' same
both_returned w depth g r s broke continues st st' same h = elim h [ ]
both_returned w depth g r s broke (returned u) st st' same h = elim h [ ]
both_returned w depth g r s continues goes_on st st' same h = elim h [ ]
both_returned w depth g r s continues broke st st' same h = elim h [ ]
both_returned w depth g r s continues continues st st' same h = both_ended w depth g r s st st' same
both_returned w depth g r s continues (returned u) st st' same h = elim h [ ]
both_returned w depth g r s (returned v) goes_on st st' same h = elim h [ ]
both_returned w depth g r s (returned v) broke st st' same h = elim h [ ]
both_returned w depth g r s (returned v) continues st st' same h = elim h [ ]
both_returned w depth g r s (returned v) (returned u) st st' same h = record { alike = left_alike w depth g st.memory st'.memory same; given = h }

-- the states in which they begin
entered_alike : (p : ProgramTree) (w : World) (depth g : ℕ) (args args' : List Cell) (a b : Blocks) → AreAlike w depth a b → ArgumentsAlike (inside w (depth + 1) g) (depth + 1) 0 args args' →
    AreAlike (inside w (depth + 1) g) (depth + 1) (entered p g (depth + 1) args a) (entered p g (depth + 1) args' b)
entered_alike p w depth g args args' a b same alike =
    let shapes : List BlockShape = map (λ (x : Var). shape_of p.structs x.ty) (function_in p g).vars in
    arguments_alike (inside w (depth + 1) g) (depth + 1) 0 (with_frame a (depth + 1) shapes) (with_frame b (depth + 1) shapes) args args' (frame_alike w depth g a b shapes same) alike

open_bodies : (p : MonitorTree) (w : World) (depth g : ℕ) (mixed : Hosts) (active : Bool) (calls : Calls) (args args' : List Cell) (a b : State) → Knows p w.secret mixed → IsTrue (is_some (function_at (monitor_program p) g)) → w.secret (of_control g) ≡ false →
    CallsLeave (monitor_program p) (inside w (depth + 1) g) g (depth + 1) mixed active calls → CallsAgree (monitor_program p) (inside w (depth + 1) g) g (depth + 1) mixed active calls →
    ArgumentsLead (monitor_program p) (inside w (depth + 1) g) (depth + 1) 0 args → ArgumentsLead (monitor_program p) (inside w (depth + 1) g) (depth + 1) 0 args' → ArgumentsAlike (inside w (depth + 1) g) (depth + 1) 0 args args' →
    Stands (monitor_program p) w depth mixed a → Stands (monitor_program p) w depth mixed b → AlikeIn w depth a b →
    BothLeave (Matched w depth g) (body_run (monitor_program p) calls (frame_of (monitor_program p) g (depth + 1) active) g args a) (body_run (monitor_program p) calls (frame_of (monitor_program p) g (depth + 1) active) g args' b)
open_bodies p w depth g mixed active calls args args' a b knows known open_ each both lead lead' alike sa sb same =
    let program : ProgramTree = monitor_program p in
    let function : FunctionFacts true program g = function_facts true program knows.facts g known in
    let a0 : State = with_blocks (entered program g (depth + 1) args a.memory) a in
    let b0 : State = with_blocks (entered program g (depth + 1) args' b.memory) b in
    let follows = follows_second w.secret (alias_arrows p (function_of program g)) (all_arrows p (function_of program g) (function_in program g).body) (knows.follows g known) in
    let fits = body_fits program g function in
    let called = body_called p w.secret mixed g knows function in
    both_then (After program (inside w (depth + 1) g) g (depth + 1) mixed a0) (After program (inside w (depth + 1) g) g (depth + 1) mixed b0) (Agree (inside w (depth + 1) g) g (depth + 1)) (Matched w depth g)
    (do_all (function_in program g).body (frame_of program g (depth + 1) active) calls a0) (do_all (function_in program g).body (frame_of program g (depth + 1) active) calls b0)
    (returned_from (signature_in program g).result (function_in program g).end (depth + 1)) (returned_from (signature_in program g).result (function_in program g).end (depth + 1))
    (all_leaves p (inside w (depth + 1) g) g (depth + 1) mixed active calls knows (who_inside w (depth + 1) g) each false (function_in program g).body fits called follows a0 (entered_stands p w depth g mixed args a sa lead))
    (all_leaves p (inside w (depth + 1) g) g (depth + 1) mixed active calls knows (who_inside w (depth + 1) g) each false (function_in program g).body fits called follows b0 (entered_stands p w depth g mixed args' b sb lead'))
    (all_agree p (inside w (depth + 1) g) g (depth + 1) mixed active calls knows (who_inside w (depth + 1) g) open_ each both false (function_in program g).body fits called follows a0 b0 (entered_stands p w depth g mixed args a sa lead) (entered_stands p w depth g mixed args' b sb lead')
    (entered_alike program w depth g args args' a.memory b.memory same alike))
    (λ flow st flow' st' _ _ agree. both_returned w depth g (signature_in program g).result (function_in program g).end flow flow' st st' agree.alike agree.flows)

-- both change secrets alone
each_leaves : {A : Type 0} (P P' : A → State → Type 0) (R : A → State → A → State → Type 0) (o o' : Outcome A) → Leaves P o → Leaves P' o' → ((x : A) (st : State) (y : A) (st' : State) → P x st → P' y st' → R x st y st') → BothLeave R o o'
each_leaves P P' R (gives x st) (gives y st') h h' k = k x st y st' h h'
each_leaves P P' R (gives x st) (trapped t s st') h h' k = tt {0}
each_leaves P P' R (gives x st) (spent st') h h' k = tt {0}
each_leaves P P' R (trapped t s st) o' h h' k = tt {0}
each_leaves P P' R (spent st) o' h h' k = tt {0}

secret_bodies : (p : MonitorTree) (w : World) (depth g : ℕ) (mixed : Hosts) (active : Bool) (calls : Calls) (args args' : List Cell) (a b : State) → Knows p w.secret mixed → IsTrue (is_some (function_at (monitor_program p) g)) → w.secret (of_control g) ≡ true →
    CallsLeave (monitor_program p) (inside w (depth + 1) g) g (depth + 1) mixed active calls → ArgumentsLead (monitor_program p) (inside w (depth + 1) g) (depth + 1) 0 args → ArgumentsLead (monitor_program p) (inside w (depth + 1) g) (depth + 1) 0 args' →
    Stands (monitor_program p) w depth mixed a → Stands (monitor_program p) w depth mixed b → AlikeIn w depth a b →
    BothLeave (Matched w depth g) (body_run (monitor_program p) calls (frame_of (monitor_program p) g (depth + 1) active) g args a) (body_run (monitor_program p) calls (frame_of (monitor_program p) g (depth + 1) active) g args' b)
secret_bodies p w depth g mixed active calls args args' a b knows known hidden each lead lead' sa sb same =
    each_leaves (Given (monitor_program p) w depth g mixed a.memory) (Given (monitor_program p) w depth g mixed b.memory) (Matched w depth g)
    (body_run (monitor_program p) calls (frame_of (monitor_program p) g (depth + 1) active) g args a) (body_run (monitor_program p) calls (frame_of (monitor_program p) g (depth + 1) active) g args' b)
    (body_leaves p w depth g mixed active calls args a knows known each sa lead) (body_leaves p w depth g mixed active calls args' b knows known each sb lead')
    (λ v st u st' one other. record {
      alike = alike_both w depth a.memory st.memory b.memory st'.memory same (one.kept hidden) (other.kept hidden);
      given = λ shown. one.secret hidden shown ∙ sym (other.secret hidden shown);
    })

pub bodies_match : (p : MonitorTree) (w : World) (depth g : ℕ) (mixed : Hosts) (active : Bool) (calls : Calls) (args args' : List Cell) (a b : State) → Knows p w.secret mixed → IsTrue (is_some (function_at (monitor_program p) g)) →
    CallsLeave (monitor_program p) (inside w (depth + 1) g) g (depth + 1) mixed active calls → CallsAgree (monitor_program p) (inside w (depth + 1) g) g (depth + 1) mixed active calls →
    ArgumentsLead (monitor_program p) (inside w (depth + 1) g) (depth + 1) 0 args → ArgumentsLead (monitor_program p) (inside w (depth + 1) g) (depth + 1) 0 args' → ArgumentsAlike (inside w (depth + 1) g) (depth + 1) 0 args args' →
    Stands (monitor_program p) w depth mixed a → Stands (monitor_program p) w depth mixed b → AlikeIn w depth a b →
    BothLeave (Matched w depth g) (body_run (monitor_program p) calls (frame_of (monitor_program p) g (depth + 1) active) g args a) (body_run (monitor_program p) calls (frame_of (monitor_program p) g (depth + 1) active) g args' b)
bodies_match p w depth g mixed active calls args args' a b knows known each both lead lead' alike sa sb same = go (w.secret (of_control g)) refl
  where
    go : (t : Bool) → w.secret (of_control g) ≡ t → BothLeave (Matched w depth g) (body_run (monitor_program p) calls (frame_of (monitor_program p) g (depth + 1) active) g args a) (body_run (monitor_program p) calls (frame_of (monitor_program p) g (depth + 1) active) g args' b)
    go true hidden = secret_bodies p w depth g mixed active calls args args' a b knows known hidden each lead lead' sa sb same
    go false open_ = open_bodies p w depth g mixed active calls args args' a b knows known open_ each both lead lead' alike sa sb same

-- ---- calls within a depth

by_host : {A : Type 0} (R : A → State → A → State → Type 0) (b : Bool) (x x' y y' : Outcome A) → (b ≡ true → BothLeave R x x') → (b ≡ false → BothLeave R y y') → BothLeave R (if b then x else y) (if b then x' else y')
by_host R true x x' y y' f g = f refl
by_host R false x x' y y' f g = g refl

matched_calls : (p : ProgramTree) (w : World) (depth g : ℕ) (args args' : List Cell) (v u : Option Cell) (st st' : State) → (signature_in p g).host ≡ false → Matched w depth g v st u st' → CallsMatch p w depth g args args' v st u st'
matched_calls p w depth g args args' v u st st' no_host h = record { alike = h.alike; given = λ _. h.given; answer = λ host. true_and_false (signature_in p g).host host no_host }

pub calls_agree : (p : MonitorTree) (mixed : Hosts) (deeper : ℕ) (w : World) (f depth : ℕ) (active : Bool) → Knows p w.secret mixed → CallsAgree (monitor_program p) w f depth mixed active (calls_within (monitor_program p) deeper)
calls_agree p mixed zero w f depth active knows g s args args' a b may may' alike sa sb same =
    by_host (CallsMatch (monitor_program p) w depth g args args') (signature_in (monitor_program p) g).host (host_call (monitor_program p) (frame_of (monitor_program p) f depth active) g args a) (host_call (monitor_program p) (frame_of (monitor_program p) f depth active) g args' b) (trapped Depth s a) (trapped Depth s b)
    (λ host. hosts_agree p w f depth g mixed active args args' a b knows host may.there may.plain sa sb same) (λ no_host. tt {0})
calls_agree p mixed (suc deeper) w f depth active knows g s args args' a b may may' alike sa sb same =
    let program : ProgramTree = monitor_program p in
    let frame : Frame = frame_of program f depth active in
    by_host (CallsMatch program w depth g args args') (signature_in program g).host (host_call program frame g args a) (host_call program frame g args' b) (function_call program (calls_within program deeper) frame g args a) (function_call program (calls_within program deeper) frame g args' b)
    (λ host. hosts_agree p w f depth g mixed active args args' a b knows host may.there may.plain sa sb same)
    (λ no_host. both_turns (CallsMatch program w depth g args args') a.left b.left a b
    (λ st1. body_run program (calls_within program deeper) (inner_frame program frame g) g args (noted_call program frame g args st1)) (λ st1. body_run program (calls_within program deeper) (inner_frame program frame g) g args' (noted_call program frame g args' st1))
    (λ n m. let a1 : State = noted_call program frame g args (record a { left = n }) in
    let b1 : State = noted_call program frame g args' (record b { left = m }) in
    both_weaken (Matched w depth g) (CallsMatch program w depth g args args') (body_run program (calls_within program deeper) (inner_frame program frame g) g args a1) (body_run program (calls_within program deeper) (inner_frame program frame g) g args' b1)
    (bodies_match p w depth g mixed (active || (signature_in program g).privileged) (calls_within program deeper) args args' a1 b1 knows (callee_there program g may.there no_host)
    (calls_leave p mixed deeper (inside w (depth + 1) g) g (depth + 1) (active || (signature_in program g).privileged) knows) (calls_agree p mixed deeper (inside w (depth + 1) g) g (depth + 1) (active || (signature_in program g).privileged) knows)
    (may.lead no_host) (may'.lead no_host) (alike no_host) (record { pointers = sa.pointers; hosts = sa.hosts }) (record { pointers = sb.pointers; hosts = sb.hosts }) same)
    (λ v st u st' done. matched_calls program w depth g args args' v u st st' no_host done)))
