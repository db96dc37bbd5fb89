-- Calls within a depth, in one run: what they leave.
use Rattle.std.proofs.Common.{◌≡◌, ◌∙◌, ℕ, ℤ, zero, suc, ◌+◌, refl, ap, sym, subst, Bool, true, false, Option, Some, None, if◌then◌else◌, List, map, nat_eq}
use Rattle.std.specs.Prelude.{IsTrue, MatchOption, ◌||◌, is_some}
use Rattle.pt_base.specs.declared.int_type.IntType.{IntType}
use Rattle.pt_base.specs.declared.span.Span.{Span}
use Rattle.pt_base.specs.declared.trap.Trap.TheVariants.{Depth}
use Rattle.pt_base.proofs.Booleans.{true_and_false}
use Rattle.pt_base.proofs.Numbers.{nat_eq_same}
use Rattle.pt_tree.specs.declared.host_model.HostModel.{HostModel}
use Rattle.pt_tree.specs.HostStep.{host_step}
use Rattle.typed_tree.specs.declared.variable.Var.{Var}
use Rattle.runs.specs.State.{Hosts, gives, trapped, answer_of, after_answer, put_host}
use Rattle.block_memory.specs.declared.cell.Cell.{Cell}
use Rattle.block_memory.specs.declared.shape.BlockShape.{BlockShape}
use Rattle.block_memory.specs.Blocks.{Blocks, with_frame, without_frames}
use Rattle.pt_core.specs.CodeTree.{MonitorTree, ProgramTree}
use Rattle.pt_core.specs.Types.{shape_of}
use Rattle.pt_core.specs.Values.{number_in}
use Rattle.pt_core.specs.Statements.{Calls, Flow, Frame, State, Outcome, goes_on, broke, continues, returned, do_all, with_blocks}
use Rattle.pt_core.specs.Calls.{at_end, body_run, calls_within, entered, function_call, function_in, host_call, inner_frame, left_at, noted_call, number_cell, returned_from, signature_in, with_arguments}
use Rattle.pt_core.specs.WellFormed.{function_at, monitor_program}
use Rattle.core_soundness_law.proofs.Programs.{FunctionFacts, function_facts}
use Rattle.monitor_labels.specs.Nodes.{of_result, of_control}
use Rattle.monitor_labels.specs.Arrows.{alias_arrows, all_arrows}
use Rattle.independence_law.specs.Bodies.{is_pointing}
use Rattle.independence_law.proofs.Worlds.{World, AreAlike, alike_on, alike_self, inside, who_inside}
use Rattle.independence_law.proofs.Follows.{follows_second}
use Rattle.independence_law.proofs.Changes.{ArgumentsLead, alike_outside, arguments_kept, arguments_lead, frame_kept, frame_leads, left_kept, left_leads}
use Rattle.independence_law.proofs.Outcomes.{Leaves, leaves_then, leaves_turn, leaves_weaken}
use Rattle.independence_law.proofs.Known.{HostsAre, IsTable, Knows, Stands, body_called, body_fits, callee_there, frame_of, function_of}
use Rattle.independence_law.proofs.Confined.{After, Called, CallsLeave, From, Gives, all_leaves}

-- ---- a host's call

-- a table stands for itself
table_stays : (input : List ℕ) (model : HostModel) (numbers : List ℤ) → IsTable model → (host_step input model numbers).next ≡ model
table_stays input model numbers table = subst (λ m. (host_step input m numbers).next ≡ m) (sym table.is) refl

hosts_stay : (p : MonitorTree) (w : World) (mixed : Hosts) (g : ℕ) (numbers : List ℤ) (st : State) → Knows p w.secret mixed → HostsAre (monitor_program p) mixed st.hosts →
    HostsAre (monitor_program p) mixed (put_host st.hosts g (answer_of g numbers st).next)
hosts_stay p w mixed g numbers st knows are h mix = go (nat_eq h g) refl
  where
    go : (b : Bool) → nat_eq h g ≡ b → (if b then (answer_of g numbers st).next else st.hosts h) ≡ mixed h
    go false e = are h mix
    go true e =
        let same : h ≡ g = nat_eq_same h g e in
        let there : st.hosts g ≡ mixed g = subst (λ n. st.hosts n ≡ mixed n) same (are h mix) in
        let table : IsTable (mixed g) = subst (λ n. IsTable (mixed n)) same (knows.tables h mix) in
        ap (λ m. (host_step st.input m numbers).next) there ∙ table_stays st.input (mixed g) numbers table ∙ ap mixed (sym same)

number_plain : (o : Option ℤ) → MatchOption (number_cell o) (Unit {0}) (λ v. is_pointing v ≡ false)
number_plain None = tt {0}
number_plain (Some v) = refl

pub host_leaves : (p : MonitorTree) (w : World) (f depth g : ℕ) (mixed : Hosts) (active : Bool) (args : List Cell) (st : State) → Knows p w.secret mixed → (signature_in (monitor_program p) g).host ≡ true → Stands (monitor_program p) w depth mixed st →
    Leaves (Called (monitor_program p) w depth mixed g st) (host_call (monitor_program p) (frame_of (monitor_program p) f depth active) g args st)
host_leaves p w f depth g mixed active args st knows host stands =
    leaves_turn (Called (monitor_program p) w depth mixed g st) st.left st
    (λ st1. let st2 = noted_call (monitor_program p) (frame_of (monitor_program p) f depth active) g args st1 in let answer = answer_of g (map number_in args) st2 in gives (number_cell answer.result) (after_answer g answer st2))
    (λ n. record {
      stands = record { pointers = stands.pointers; hosts = hosts_stay p w mixed g (map number_in args) (record st { left = n }) knows stands.hosts };
      host = λ e. alike_self w depth st.memory;
      kept = λ e. alike_self w depth st.memory;
      plain = number_plain (answer_of g (map number_in args) (record st { left = n })).result;
      secret = λ no_host. true_and_false (signature_in (monitor_program p) g).host host no_host;
    })

-- ---- a function's body

-- what a body keeps of the caller's memory
body_kept : (p : ProgramTree) (w : World) (depth g : ℕ) (args : List Cell) (before after : Blocks) → AreAlike (inside w (depth + 1) g) (depth + 1) (entered p g (depth + 1) args before) after → AreAlike w depth before (without_frames after (depth + 1))
body_kept p w depth g args before after same =
    let shapes : List BlockShape = map (λ (x : Var). shape_of p.structs x.ty) (function_in p g).vars in
    let framed : Blocks = with_frame before (depth + 1) shapes in
    alike_on w depth before framed (without_frames after (depth + 1)) (frame_kept w depth before shapes)
    (alike_on w depth framed (with_arguments framed (depth + 1) 0 args) (without_frames after (depth + 1)) (arguments_kept w depth 0 framed args)
    (alike_on w depth (with_arguments framed (depth + 1) 0 args) after (without_frames after (depth + 1)) (alike_outside w depth g (with_arguments framed (depth + 1) 0 args) after same) (left_kept w depth after)))

-- what it gives
pub record Given (p : ProgramTree) (w : World) (depth g : ℕ) (mixed : Hosts) (before : Blocks) (result : Option Cell) (st : State) : Type 0 where
  pub stands : Stands p w depth mixed st
  pub kept : w.secret (of_control g) ≡ true → AreAlike w depth before st.memory
  pub plain : MatchOption result (Unit {0}) (λ v. is_pointing v ≡ false)
  pub secret : w.secret (of_control g) ≡ true → w.secret (of_result g) ≡ false → result ≡ None

left_given : (p : ProgramTree) (w : World) (depth g : ℕ) (mixed : Hosts) (args : List Cell) (before : Blocks) (st0 st : State) (result : Option Cell) → st0.memory ≡ entered p g (depth + 1) args before → From p (inside w (depth + 1) g) g (depth + 1) mixed st0 st →
    MatchOption result (Unit {0}) (λ v. is_pointing v ≡ false) → (w.secret (of_control g) ≡ true → w.secret (of_result g) ≡ false → result ≡ None) → Given p w depth g mixed before result (left_at (depth + 1) st)
left_given p w depth g mixed args before st0 st result is from plain secret = record {
  stands = record { pointers = left_leads p w depth g st.memory from.stands.pointers; hosts = from.stands.hosts };
  kept = λ hidden. body_kept p w depth g args before st.memory (subst (λ m. AreAlike (inside w (depth + 1) g) (depth + 1) m st.memory) is (from.kept hidden));
  plain = plain;
  secret = secret;
}

ended : (p : ProgramTree) (w : World) (depth g : ℕ) (mixed : Hosts) (args : List Cell) (before : Blocks) (st0 st : State) (r : Option IntType) (s : Span) → st0.memory ≡ entered p g (depth + 1) args before → From p (inside w (depth + 1) g) g (depth + 1) mixed st0 st →
    Leaves (Given p w depth g mixed before) (at_end r s (depth + 1) st)
ended p w depth g mixed args before st0 st None s is from = left_given p w depth g mixed args before st0 st None is from (tt {0}) (λ a b. refl)
ended p w depth g mixed args before st0 st (Some t) s is from = tt {0}

none_given : (w : World) (g : ℕ) (v : Option Cell) → Gives w g (returned v) → MatchOption v (Unit {0}) (λ c. is_pointing c ≡ false)
none_given w g None h = tt {0}
none_given w g (Some v) h = h.0

secret_given : (w : World) (depth g : ℕ) (v : Option Cell) → Gives w g (returned v) → w.secret (of_control g) ≡ true → w.secret (of_result g) ≡ false → v ≡ None
secret_given w depth g None h hidden open_ = refl
secret_given w depth g (Some v) h hidden open_ = true_and_false (w.secret (of_result g)) (h.1 hidden) open_

pub returned_given : (p : ProgramTree) (w : World) (depth g : ℕ) (mixed : Hosts) (args : List Cell) (before : Blocks) (st0 : State) (r : Option IntType) (s : Span) → st0.memory ≡ entered p g (depth + 1) args before → (flow : Flow) (st : State) → After p (inside w (depth + 1) g) g (depth + 1) mixed st0 flow st →
    Leaves (Given p w depth g mixed before) (returned_from r s (depth + 1) flow st)
returned_given p w depth g mixed args before st0 r s is goes_on st t = ended p w depth g mixed args before st0 st r s is t.holds
returned_given p w depth g mixed args before st0 r s is broke st t = ended p w depth g mixed args before st0 st r s is t.holds
returned_given p w depth g mixed args before st0 r s is continues st t = ended p w depth g mixed args before st0 st r s is t.holds
returned_given p w depth g mixed args before st0 r s is (returned v) st t =
    left_given p w depth g mixed args before st0 st v is t.holds (none_given (inside w (depth + 1) g) g v t.flows) (secret_given (inside w (depth + 1) g) depth g v t.flows)

-- the state in which a body begins
pub entered_stands : (p : MonitorTree) (w : World) (depth g : ℕ) (mixed : Hosts) (args : List Cell) (st : State) → Stands (monitor_program p) w depth mixed st → ArgumentsLead (monitor_program p) (inside w (depth + 1) g) (depth + 1) 0 args →
    Stands (monitor_program p) (inside w (depth + 1) g) (depth + 1) mixed (with_blocks (entered (monitor_program p) g (depth + 1) args st.memory) st)
entered_stands p w depth g mixed args st stands lead =
    let shapes : List BlockShape = map (λ (x : Var). shape_of p.structs x.ty) (function_in (monitor_program p) g).vars in
    record {
      pointers = arguments_lead (monitor_program p) (inside w (depth + 1) g) (depth + 1) 0 (with_frame st.memory (depth + 1) shapes) args (frame_leads (monitor_program p) w depth g st.memory shapes stands.pointers) lead;
      hosts = stands.hosts;
    }

pub body_leaves : (p : MonitorTree) (w : World) (depth g : ℕ) (mixed : Hosts) (active : Bool) (calls : Calls) (args : List Cell) (st : State) → Knows p w.secret mixed → IsTrue (is_some (function_at (monitor_program p) g)) →
    CallsLeave (monitor_program p) (inside w (depth + 1) g) g (depth + 1) mixed active calls → Stands (monitor_program p) w depth mixed st → ArgumentsLead (monitor_program p) (inside w (depth + 1) g) (depth + 1) 0 args →
    Leaves (Given (monitor_program p) w depth g mixed st.memory) (body_run (monitor_program p) calls (frame_of (monitor_program p) g (depth + 1) active) g args st)
body_leaves p w depth g mixed active calls args st knows known each stands lead =
    let program : ProgramTree = monitor_program p in
    let function : FunctionFacts true program g = function_facts true program knows.facts g known in
    let st0 : State = with_blocks (entered program g (depth + 1) args st.memory) st in
    leaves_then (After program (inside w (depth + 1) g) g (depth + 1) mixed st0) (Given program w depth g mixed st.memory) (do_all (function_in program g).body (frame_of program g (depth + 1) active) calls st0) (returned_from (signature_in program g).result (function_in program g).end (depth + 1))
    (all_leaves p (inside w (depth + 1) g) g (depth + 1) mixed active calls knows (who_inside w (depth + 1) g) each false (function_in program g).body (body_fits program g function) (body_called p w.secret mixed g knows function)
    (follows_second w.secret (alias_arrows p (function_of program g)) (all_arrows p (function_of program g) (function_in program g).body) (knows.follows g known)) st0 (entered_stands p w depth g mixed args st stands lead))
    (returned_given program w depth g mixed args st.memory st0 (signature_in program g).result (function_in program g).end refl)

-- ---- calls within a depth

by_host : {A : Type 0} (P : A → State → Type 0) (b : Bool) (x y : Outcome A) → (b ≡ true → Leaves P x) → (b ≡ false → Leaves P y) → Leaves P (if b then x else y)
by_host P true x y f g = f refl
by_host P false x y f g = g refl

called_given : (p : ProgramTree) (w : World) (depth g : ℕ) (mixed : Hosts) (before : State) (result : Option Cell) (st : State) → (signature_in p g).host ≡ false → Given p w depth g mixed before.memory result st → Called p w depth mixed g before result st
called_given p w depth g mixed before result st no_host h = record {
  stands = h.stands;
  host = λ e. true_and_false (signature_in p g).host e no_host;
  kept = h.kept;
  plain = h.plain;
  secret = λ e. h.secret;
}

pub calls_leave : (p : MonitorTree) (mixed : Hosts) (deeper : ℕ) (w : World) (f depth : ℕ) (active : Bool) → Knows p w.secret mixed → CallsLeave (monitor_program p) w f depth mixed active (calls_within (monitor_program p) deeper)
calls_leave p mixed zero w f depth active knows g s args st may stands =
    by_host (Called (monitor_program p) w depth mixed g st) (signature_in (monitor_program p) g).host (host_call (monitor_program p) (frame_of (monitor_program p) f depth active) g args st) (trapped Depth s st)
    (λ host. host_leaves p w f depth g mixed active args st knows host stands) (λ no_host. tt {0})
calls_leave p mixed (suc deeper) w f depth active knows g s args st may stands =
    let program : ProgramTree = monitor_program p in
    let frame : Frame = frame_of program f depth active in
    by_host (Called program w depth mixed g st) (signature_in program g).host (host_call program frame g args st) (function_call program (calls_within program deeper) frame g args st)
    (λ host. host_leaves p w f depth g mixed active args st knows host stands)
    (λ no_host. leaves_turn (Called program w depth mixed g st) st.left st (λ st1. body_run program (calls_within program deeper) (inner_frame program frame g) g args (noted_call program frame g args st1))
    (λ n. let st1 : State = noted_call program frame g args (record st { left = n }) in
    leaves_weaken (Given program w depth g mixed st.memory) (Called program w depth mixed g st) (body_run program (calls_within program deeper) (inner_frame program frame g) g args st1)
    (body_leaves p w depth g mixed (active || (signature_in program g).privileged) (calls_within program deeper) args st1 knows (callee_there program g may.there no_host)
    (calls_leave p mixed deeper (inside w (depth + 1) g) g (depth + 1) (active || (signature_in program g).privileged) knows) (record { pointers = stands.pointers; hosts = stands.hosts }) (may.lead no_host))
    (λ result st2 given. called_given program w depth g mixed st result st2 no_host given)))
