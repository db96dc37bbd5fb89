-- Turns, and calls of hosts.
use Rattle.std.proofs.Common.{◌≡◌, ◌∙◌, ℕ, zero, suc, pos, ℤ, refl, ap, sym, subst, Bool, Option, Some, None, List, [], ◌∷◌, ◌++◌, map}
use Rattle.pt_base.specs.declared.int_type.IntType.{IntType}
use Rattle.pt_tree.specs.declared.signature.Signature.{Signature}
use Rattle.pt_tree.specs.HostStep.{Answer, host_step}
use Rattle.runs.specs.State.{Event, gives, trapped, spent, take_turn, noted, guarded_event, answer_of, after_answer, put_host, out_event}
use Rattle.block_memory.specs.declared.cell.Cell as core
use Rattle.block_memory.specs.declared.cell.Cell.TheVariants as cell
use Rattle.source_meaning.specs.Memory.{Cell, number, null, pointer}
use Rattle.source_meaning.specs.State.{State, Outcome}
use Rattle.source_meaning.specs.Values as v
use Rattle.source_meaning.specs.Values.{Value, cell_of, numbers_of}
use Rattle.source_meaning.specs.Expressions.{Frame}
use Rattle.source_meaning.specs.Functions.{answered, result_value}
use Rattle.pt_core.specs.Values as cv
use Rattle.pt_core.specs.Statements as c
use Rattle.pt_core.specs.Calls.{number_cell}
use Rattle.c_lower_law.proofs.Relations.{core_cell, Scene, frame_of, SameSeen, Alike, Same, all}
use Rattle.c_lower_law.proofs.Expressions.{SameResult, Gives}
use Rattle.c_lower_law.proofs.Memories.{kept_same}
use Rattle.c_lower_law.proofs.Entering.{argument_cells}
use Rattle.c_lower_law.proofs.Operators.{number_same}

-- ---- turns

pub turn_same : {A B : Type 0} (s : Scene) (Q : A → State → B → c.State → Type 0) (st : State) (st' : c.State) (next : State → Outcome A) (next' : c.State → c.Outcome B) → Alike s st st' →
    ((left : ℕ) → Same Q (next (record st { left = left })) (next' (record st' { left = left }))) → Same Q (take_turn st.left st next) (take_turn st'.left st' next')
turn_same s Q st st' next next' al on = subst (λ n. Same Q (take_turn st.left st next) (take_turn n st' next')) (sym al.seen.left) (go st.left)
  where
    go : (n : ℕ) → Same Q (take_turn n st next) (take_turn n st' next')
    go zero = al.seen
    go (suc n) = on n

-- the same is noted
pub noted_alike : (s : Scene) (st : State) (st' : c.State) (events : List Event) → Alike s st st' → Alike s (noted events st) (noted events st')
noted_alike s st st' events al = record {
  objects = al.objects;
  room = al.room;
  fits = al.fits;
  sized = al.sized;
  hosts = al.hosts;
  input = al.input;
  seen = record { events = ap (λ es. es ++ events) al.seen.events; left = al.seen.left };
}

-- ---- numbers

pub numbers_same : (vs : List Value) → map cv.number_in (argument_cells vs) ≡ numbers_of vs
numbers_same [] = refl
numbers_same (x ∷ vs) = ap (λ n. n ∷ map cv.number_in (argument_cells vs)) (number_same (cell_of x)) ∙ ap (λ ns. v.number_of x ∷ ns) (numbers_same vs)

-- ---- hosts

-- a call of a host, by its signature
abbrev pub host_as : Frame → Signature → ℕ → List ℤ → State → Outcome Value
host_as frame signature f numbers st = take_turn st.left st (λ st1. answered f (answer_of f numbers st1) (noted (guarded_event frame.privileged signature f numbers) st1))

abbrev pub core_host_as : c.Frame → Signature → ℕ → List ℤ → c.State → c.Outcome (Option core.Cell)
core_host_as frame signature f numbers st = take_turn st.left st (λ st1.
    let st2 = noted (guarded_event frame.privileged signature f numbers) st1 in
    let answer = answer_of f numbers st2 in
    gives (number_cell answer.result) (after_answer f answer st2))

given : (result : Option IntType) (r : Option ℤ) → SameResult result (result_value r) (number_cell r)
given None r = tt
given (Some t) None = (number (pos 0), refl, tt, refl)
given (Some t) (Some n) = (number n, refl, tt, refl)

pub host_alike : (s : Scene) (f : ℕ) (signature : Signature) (result : Option IntType) (numbers : List ℤ) (st : State) (st' : c.State) → Alike s st st' →
    Same (Gives s all st'.memory (SameResult result)) (host_as s.frame signature f numbers st) (core_host_as (frame_of s) signature f numbers st')
host_alike s f signature result numbers st st' al =
    turn_same s (Gives s all st'.memory (SameResult result)) st st' (λ st1. answered f (answer_of f numbers st1) (noted (guarded_event s.frame.privileged signature f numbers) st1))
    (λ st1.
    let st2 = noted (guarded_event s.frame.privileged signature f numbers) st1 in
    let answer = answer_of f numbers st2 in
    gives (number_cell answer.result) (after_answer f answer st2)) al
    (λ left.
    let is = same_answer in
    record {
      after = record {
        alike = record {
          objects = al.objects;
          room = al.room;
          fits = al.fits;
          sized = al.sized;
          hosts = ap (λ (a : Answer). put_host st'.hosts f a.next) is ∙ ap (λ h. put_host h f (host_step st.input (st.hosts f) numbers).next) al.hosts;
          input = al.input;
          seen = record { events = ap (λ (a : Answer). (st'.events ++ guarded_event s.frame.privileged signature f numbers) ++ out_event a.written) is ∙ ap (λ es. (es ++ guarded_event s.frame.privileged signature f numbers) ++ out_event (host_step st.input (st.hosts f) numbers).written) al.seen.events; left = refl };
        };
        kept = kept_same s all st'.memory;
      };
      facts = subst (λ (a : Answer). SameResult result (result_value (host_step st.input (st.hosts f) numbers).result) (number_cell a.result)) (sym is) (given result (host_step st.input (st.hosts f) numbers).result);
    })
  where
    same_answer : host_step st'.input (st'.hosts f) numbers ≡ host_step st.input (st.hosts f) numbers
    same_answer = ap (λ i. host_step i (st'.hosts f) numbers) al.input ∙ ap (λ h. host_step st.input (h f) numbers) al.hosts
