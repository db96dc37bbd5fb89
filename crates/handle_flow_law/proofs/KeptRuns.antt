-- The machine of a slave of an accepted program stays fine, in each step and with each reply.
use Rattle.std.proofs.Common.{◌≡◌, ◌∙◌, ℕ, zero, suc, ◌+◌, refl, ap, sym, subst, Bool, true, false, Option, None, Some, List, [], ◌∷◌, if◌then◌else◌, cond, length}
use Rattle.std.specs.Prelude.{IsTrue, bytes_eq, ◌&&◌, codes, is_some, nat_eq, nat_le, option_map, unwrap_or}
use Rattle.std.specs.List.{find}
use Rattle.std.specs.Map.{lookup}
use Rattle.pt_base.proofs.Booleans.{both_hold_first, false_not_true}
use Rattle.pt_tree.specs.declared.host_model.HostModel.{HostModel}
use Rattle.pt_tree.specs.declared.signature.Signature.{Signature}
use Rattle.typed_tree.specs.TypedTree.{TypedTree, signatures_of}
use Rattle.typed_tree.specs.WellFormed.{is_well_formed, is_int_result}
use Rattle.typed_tree.specs.WellFormedExpression.{is_main}
use Rattle.typed_tree.proofs.WellFormedLemmas.{Facts, facts_of}
use Rattle.block_memory.specs.declared.cell.Cell.{Cell}
use Rattle.wire.specs.declared.message.Message.{Message}
use Rattle.wire.specs.declared.message.ReplyBody.{ReplyBody}
use Rattle.flow_rules.specs.declared.accepted.Accepted.{Accepted}
use Rattle.flow_rules.specs.Faults.{IsAccepted}
use Rattle.pt_core.specs.Calls.{signature_in}
use Rattle.pt_core.specs.CoreRun.{main_in}
use Rattle.pt_core.specs.Steps.{Machine, away, Answer, moved, asked, ended, trapped, spent, idle, at_rest, step, with_blocks}
use Rattle.lowering.specs.Functions.{signatures_from}
use Rattle.lowered_code_law.proofs.FormsPrograms.{signature_of_function}
use Rattle.marshalling.specs.Replies.{result_places}
use Rattle.marshalling.specs.Taking.{after_reply, known_reply, taken_result}
use Rattle.split_law.proofs.Chosen.{chosen_lookup}
use Rattle.handle_classes.specs.Classes.{World}
use Rattle.handle_classes.specs.Invariant.{Fine}
use Rattle.handle_classes.specs.Computes.{computes_next}
use Rattle.handle_classes.specs.Judgment.{IsFineProgram}
use Rattle.handle_classes.specs.Laws.{AnswerFits, MayGive, MayResume, StaysFine}
use Rattle.handle_classes.proofs.Outside.{rest_is_fine, resumes_keep_fine, starts_keep_fine}
use Rattle.handle_classes.proofs.StepKeeps.{steps_keep_fine}
use Rattle.handle_classes_law.specs.SlavesLaws.{slave_half, marks_of, IsSlaveWorld}
use Rattle.handle_classes_law.specs.SlavesMarked.{slave_world}
use Rattle.pair_protocol.specs.Sides.{Moved}
use Rattle.pair_protocol.specs.SlaveRun as run
use Rattle.pair_meaning.specs.SlaveRun.{Slave, slave_of, Doing, goes, waits_for, is_over, after_step, awaits_reply, calls_or_parks, heard_by, is_reply_to, machine_step, mode_by, moves_with, must_wait, parks, posts, says_call, slave_gate, slave_step, stepped, taken_by, way_by, with_reply}
use Rattle.pair_meaning.specs.Pair.{the_sides, slave_at}
use Rattle.handle_flow_law.specs.KeptLaws.{boot_of, computes, is_marked, NoHandleIsComputedWith}
use Rattle.handle_flow_law.proofs.KeptAsked.{IsAway, steps_ask_away}
use Rattle.handle_flow_law.proofs.KeptCalled.{IsCalled, all_called, asks_marked, called_fine, called_world, enters_fit, fits_gate, found_in, has_signature, has_main, start_of}
use Rattle.handle_flow_law.proofs.KeptTaking.{Asked, FineAt, reply_fine, result_may}
use Rattle.handle_flow_law.proofs.KeptUnmet.{unmet_by}

-- the classes of an accepted program, as its slave's calls have them
abbrev pub world_of : TypedTree → Accepted → World
world_of t a = called_world (has_signature t a) (slave_world (marks_of t a) t)

-- what is known of the program
pub record IsKnown (t : TypedTree) (a : Accepted) : Type 0 where
  pub sound : IsTrue (is_well_formed t)
  pub facts : Facts t
  pub accepted : IsAccepted t a
  pub world : IsSlaveWorld t (slave_half t a) (slave_world (marks_of t a) t)

code_of : (t : TypedTree) (a : Accepted) → IsKnown t a → IsFineProgram (slave_half t a) (world_of t a)
code_of t a known = called_fine t a (slave_world (marks_of t a) t) known.facts known.accepted known.world.fine

-- where it waits, it waits for what it asked for
abbrev DoesSo : TypedTree → Accepted → Machine → Doing → Type 0
DoesSo t a m goes = m.awaits ≡ None
DoesSo t a m (waits_for f args) = Asked t a m f args × ((result : Option ℕ) × (m.awaits ≡ Some (record { callee = f; result = result })))
DoesSo t a m is_over = Unit {0}

-- a slave whose machine is fine
pub record Keeps (t : TypedTree) (a : Accepted) (x : Slave) : Type 0 where
  pub program : x.program ≡ slave_half t a
  pub fine : Fine (slave_half t a) (world_of t a) x.machine
  pub doing : DoesSo t a x.machine x.doing

-- ---- a reply

taken_keeps : (t : TypedTree) (a : Accepted) (x : Slave) (f : ℕ) (args : List Cell) (reply : ReplyBody) → IsKnown t a → x.program ≡ slave_half t a → Fine (slave_half t a) (world_of t a) x.machine → DoesSo t a x.machine (waits_for f args) →
    Keeps t a (with_reply x f args reply)
taken_keeps t a x f args reply known program fine waits =
    let r = after_reply (length x.given) x.machine.blocks x.program.structs (signature_in x.program f) args reply in
    record {
      program = program;
      fine = resumes_keep_fine (slave_half t a) (world_of t a) r.result (with_blocks r.blocks x.machine)
          (subst (λ p. FineAt t a x.machine (after_reply (length x.given) x.machine.blocks p.structs (signature_in p f) args reply).blocks) (sym program) (reply_fine t a x.machine f args (length x.given) reply known.facts known.world waits.0 fine))
          (subst (λ o. MayResume (world_of t a) r.result o) (sym waits.1.1)
          (subst (λ p. MayGive (world_of t a) f (taken_result (result_places (signature_in p f) (signature_in p f).result) (length x.given) reply.result)) (sym program)
          (result_may t a x.machine f args (length x.given) reply.result known.sound known.facts known.accepted known.world waits.0)));
      doing = refl;
    }

reply_keeps : (t : TypedTree) (a : Accepted) (x : Slave) (reply : ReplyBody) → IsKnown t a → Keeps t a x → Keeps t a (the_sides.take reply x)
reply_keeps t a x reply known k = go x.doing refl
  where
    go : (d : Doing) → x.doing ≡ d → Keeps t a (taken_by x d reply)
    go goes is = k
    go is_over is = k
    go (waits_for f args) is = by (is_reply_to x f args reply)
      where
        by : (c : Bool) → Keeps t a (if c then with_reply x f args reply else record x { doing = is_over })
        by true = taken_keeps t a x f args reply known k.program k.fine (subst (λ d. DoesSo t a x.machine d) is k.doing)
        by false = record { program = k.program; fine = k.fine; doing = tt }

-- ---- a step

-- a slave with the program and a fine machine
record Stands (t : TypedTree) (a : Accepted) (x : Slave) : Type 0 where
  program : x.program ≡ slave_half t a
  fine : Fine (slave_half t a) (world_of t a) x.machine

either : (t : TypedTree) (a : Accepted) (c : Bool) (y z : Moved Slave Message) → Keeps t a y.slave → Keeps t a z.slave → Keeps t a (if c then y else z).slave
either t a true y z h k = h
either t a false y z h k = k

stops_fine : (t : TypedTree) (a : Accepted) (x : Slave) → Stands t a x → Keeps t a (record x { doing = is_over })
stops_fine t a x k = record { program = k.program; fine = k.fine; doing = tt }

call_keeps : (t : TypedTree) (a : Accepted) (x : Slave) (f : ℕ) (args : List Cell) (depth : ℕ) → IsKnown t a → Stands t a x → DoesSo t a x.machine (waits_for f args) → Keeps t a (calls_or_parks x f args depth).slave
call_keeps t a x f args depth known k waits =
    either t a (nat_le x.machine.budget (x.machine.turns + x.calls)) (parks x) (says_call x f args depth) (stops_fine t a x k)
    (either t a (must_wait x f args) (awaits_reply x f args depth) (posts x f args depth) (record { program = k.program; fine = k.fine; doing = waits })
    (let p = taken_keeps t a x f args (known_reply (length x.given) x.machine.blocks x.program.structs (signature_in x.program f) args) known k.program k.fine waits in
    record { program = p.program; fine = p.fine; doing = p.doing }))

moves_keep : (t : TypedTree) (a : Accepted) (x : Slave) (wrote : Option (List ℕ)) → Keeps t a x → Keeps t a (moves_with x wrote).slave
moves_keep t a x None k = k
moves_keep t a x (Some bytes) k = k

after_keeps : (t : TypedTree) (a : Accepted) (x : Slave) (answer : Answer) (wrote : Option (List ℕ)) → IsKnown t a → Stands t a x → x.doing ≡ goes → AnswerFits (world_of t a) x.machine answer → IsAway (slave_gate x.program) (heard_by x) answer →
    Keeps t a (after_step x answer wrote).slave
after_keeps t a x moved wrote known k is fits out = moves_keep t a x wrote (record { program = k.program; fine = k.fine; doing = subst (λ d. DoesSo t a x.machine d) (sym is) fits })
after_keeps t a x (asked f args depth) wrote known k is fits out =
    call_keeps t a x f args depth known k (record { fits = fits.0; way = subst (λ p. way_by (signature_in p f) args ≡ away) k.program out }, fits.1)
after_keeps t a x (ended v) wrote known k is fits out = stops_fine t a x k
after_keeps t a x (trapped trap span) wrote known k is fits out = stops_fine t a x k
after_keeps t a x spent wrote known k is fits out = stops_fine t a x k
after_keeps t a x idle wrote known k is fits out = stops_fine t a x k

-- what is away does not turn on what is heard
away_still : (x y : Slave) (answer : Answer) → y.program ≡ x.program → IsAway (slave_gate x.program) (heard_by x) answer → IsAway (slave_gate y.program) (heard_by y) answer
away_still x y moved same out = tt
away_still x y (asked f args depth) same out = subst (λ p. way_by (signature_in p f) args ≡ away) (sym same) out
away_still x y (ended v) same out = tt
away_still x y (trapped trap span) same out = tt
away_still x y spent same out = tt
away_still x y idle same out = tt

-- its machine after the next step
pub step_stays : (t : TypedTree) (a : Accepted) (x : Slave) → IsKnown t a → Keeps t a x → x.doing ≡ goes → StaysFine (slave_half t a) (world_of t a) (machine_step x)
step_stays t a x known k is =
    subst (λ p. StaysFine (slave_half t a) (world_of t a) (step p (slave_gate p) x.machine (heard_by x))) (sym k.program)
    (steps_keep_fine (slave_half t a) (world_of t a) (slave_gate (slave_half t a)) x.machine (heard_by x) (code_of t a known) (enters_fit t a (slave_world (marks_of t a) t) known.facts known.world) k.fine (subst (λ d. DoesSo t a x.machine d) is k.doing))

step_keeps : (t : TypedTree) (a : Accepted) (x : Slave) → IsKnown t a → Keeps t a x → x.doing ≡ goes → Keeps t a (slave_step x).slave
step_keeps t a x known k is =
    let s = machine_step x in
    let stays : StaysFine (slave_half t a) (world_of t a) s = step_stays t a x known k is in
    after_keeps t a (stepped x s) s.answer s.gate.wrote known (record { program = k.program; fine = stays.fine }) is stays.answer
    (away_still x (stepped x s) s.answer refl (steps_ask_away x.program (slave_gate x.program) x.machine (heard_by x)))

-- ---- a run

ready_keeps : (t : TypedTree) (a : Accepted) (x : Slave) (replies : List ReplyBody) → IsKnown t a → Keeps t a x → Keeps t a (run.ready the_sides x replies).slave
ready_keeps t a x replies known k = go x.doing replies
  where
    go : (d : Doing) (rs : List ReplyBody) → Keeps t a (run.ready_in the_sides (mode_by d) x rs).slave
    go goes rs = k
    go is_over rs = k
    go (waits_for f args) [] = k
    go (waits_for f args) (r ∷ rs) = reply_keeps t a x r known k

pub runs_keep : (t : TypedTree) (a : Accepted) (n : ℕ) (x : Slave) (replies : List ReplyBody) → IsKnown t a → Keeps t a x → Keeps t a (run.slave_at the_sides n x replies).slave
runs_keep t a zero x replies known k = ready_keeps t a x replies known k
runs_keep t a (suc n) x replies known k = go y.slave.doing refl (λ h. runs_keep t a n (slave_step y.slave).slave y.left known h)
  where
    y : run.Ready Slave ReplyBody
    y = run.ready the_sides x replies

    go : (d : Doing) → y.slave.doing ≡ d → (Keeps t a (slave_step y.slave).slave → Keeps t a (run.slave_at the_sides n (slave_step y.slave).slave y.left).slave) → Keeps t a (run.moved_on the_sides (mode_by d) y (run.slave_at the_sides n (slave_step y.slave).slave y.left)).slave
    go goes is later = later (step_keeps t a y.slave known (ready_keeps t a x replies known k) is)
    go (waits_for f args) is later = ready_keeps t a x replies known k
    go is_over is later = ready_keeps t a x replies known k

-- ---- its begin

abbrev named_main : (ℕ × Signature) → Bool
named_main s = bytes_eq s.1.name (codes "main")

-- where none is found, none is looked up
none_looked_up : (f : ℕ) (xs : List (ℕ × Signature)) (s : Signature) → find named_main xs ≡ None → lookup (nat_eq f) xs ≡ Some s → is_main s ≡ false
none_looked_up f [] s h e = cc
none_looked_up f (x ∷ xs) s h e = go (named_main x) refl h (nat_eq f x.0) e (λ none at. none_looked_up f xs s none at)
  where
    same : (y z : Signature) → Some y ≡ Some z → y ≡ z
    same y z k = cc

    go : (c : Bool) → named_main x ≡ c → cond c (Some x) (find named_main xs) ≡ None → (d : Bool) → cond d (Some x.1) (lookup (nat_eq f) xs) ≡ Some s → (find named_main xs ≡ None → lookup (nat_eq f) xs ≡ Some s → is_main s ≡ false) → is_main s ≡ false
    go true m none d at later = cc
    go false m none true at later = subst (λ z. is_main z ≡ false) (same x.1 s at) m
    go false m none false at later = later none at

found_passes : (xs : List (ℕ × Signature)) (s : ℕ × Signature) → find named_main xs ≡ Some s → named_main s ≡ true
found_passes [] s e = cc
found_passes (x ∷ xs) s e = go (named_main x) refl e (λ h. found_passes xs s h)
  where
    same : (y z : ℕ × Signature) → Some y ≡ Some z → y ≡ z
    same y z k = cc

    go : (c : Bool) → named_main x ≡ c → cond c (Some x) (find named_main xs) ≡ Some s → (find named_main xs ≡ Some s → named_main s ≡ true) → named_main s ≡ true
    go true m k later = subst (λ z. named_main z ≡ true) (same x s k) m
    go false m k later = later k

-- main gives no handle
main_gives_none : (t : TypedTree) (a : Accepted) → IsKnown t a → (slave_world (marks_of t a) t).result (main_in (slave_half t a)) ≡ false
main_gives_none t a known = go (find named_main (slave_half t a).signatures) refl
  where
    go : (o : Option (ℕ × Signature)) → find named_main (slave_half t a).signatures ≡ o → (slave_world (marks_of t a) t).result (unwrap_or (option_map (λ s. s.0) o) 0) ≡ false
    go None is =
        let s = start_of t known.facts in
        let main = both_hold_first (is_main s.function.signature) (is_some s.function.body && (is_int_result s.function.signature.result && nat_eq (length s.function.signature.params) 0)) s.start in
        false_not_true (sym (none_looked_up s.number (slave_half t a).signatures s.function.signature is
        (chosen_lookup (has_signature t a) s.number (signatures_from 0 (signatures_of t)) (λ _. has_main t a s.number s.function known.accepted s.is main) ∙ signature_of_function t s.number s.function s.is)) ∙ main)
    go (Some s) is =
        let c = found_in (λ (x : ℕ × Signature). IsCalled t a x.0 x.1) named_main (slave_half t a).signatures s (all_called t a) is in
        known.world.ends s.0 c.function c.is (ap is_main c.same ∙ found_passes (slave_half t a).signatures s is)

pub begin_keeps : (t : TypedTree) (a : Accepted) (hosts : List (ℕ × HostModel)) (input : List ℕ) (turns : ℕ) → IsKnown t a → Keeps t a (slave_of (boot_of t a hosts input turns))
begin_keeps t a hosts input turns known = record {
  program = refl;
  fine = starts_keep_fine (slave_half t a) (world_of t a) false (main_in (slave_half t a)) 1 [] (at_rest (slave_half t a) turns) (code_of t a known) (rest_is_fine (slave_half t a) (world_of t a) turns) refl refl (main_gives_none t a known) tt;
  doing = refl;
}

-- ---- no handle is computed with

keeps_unmet : (t : TypedTree) (a : Accepted) (x : Slave) → IsKnown t a → Keeps t a x → computes x ≡ false
keeps_unmet t a x known k =
    subst (λ p. computes_next (is_marked p) p (slave_gate p) x.machine (heard_by x) ≡ false) (sym k.program)
    (unmet_by (slave_half t a) (world_of t a) (slave_gate (slave_half t a)) (is_marked (slave_half t a)) x.machine (heard_by x) (code_of t a known) (fits_gate t a known.facts)
    (λ g active f vs out fits. asks_marked t a known.facts known.world active f vs out fits) k.fine)

pub never_met : ((t : TypedTree) (a : Accepted) → IsTrue (is_well_formed t) → IsAccepted t a → IsSlaveWorld t (slave_half t a) (slave_world (marks_of t a) t)) → NoHandleIsComputedWith
never_met classes t a hosts input turns replies k sound accepted =
    let known : IsKnown t a = record { sound = sound; facts = facts_of t sound; accepted = accepted; world = classes t a sound accepted } in
    keeps_unmet t a (slave_at (boot_of t a hosts input turns) replies k).slave known (runs_keep t a k (slave_of (boot_of t a hosts input turns)) replies known (begin_keeps t a hosts input turns known))
