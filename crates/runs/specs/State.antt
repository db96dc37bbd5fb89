-- What a run goes through, whatever its memory is: its state, its events, and what a part of it comes
-- to.
use Rattle.std.specs.Prelude.{ℕ, zero, suc, ℤ, Bool, not, ◌&&◌, List, [], ◌∷◌, ◌++◌, Option, Some, None, if◌then◌else◌, nat_eq}
use Rattle.pt_base.specs.declared.span.Span.{Span}
use Rattle.pt_base.specs.declared.trap.Trap.{Trap}
use Rattle.pt_tree.specs.declared.host_model.HostModel.{HostModel}
use Rattle.pt_tree.specs.declared.signature.Signature.{Signature}
use Rattle.pt_tree.specs.HostStep.{Answer, host_step}
use Rattle.pt_tree.specs.PlainNumbers.{plain_numbers}

-- What is seen of a run: the bytes that a host writes at one call, and each guarded call with the
-- numbers that it gives for unmarked integer parameters.
pub data Event : Type 0 where
  out : List ℕ → Event
  guarded : ℕ → List ℤ → Event

-- what stands for each host, by its function's number
abbrev pub Hosts : Type 0
Hosts = ℕ → HostModel

abbrev pub put_host : Hosts → ℕ → HostModel → Hosts
put_host hosts f model other = if nat_eq other f then model else hosts other

-- A state of a run, with a memory of type M.
pub record State (M : Type 0) : Type 0 where
  pub memory : M
  pub hosts : Hosts
  pub input : List ℕ
  -- what was seen so far, the first event first
  pub events : List Event
  -- the turns that are left of the budget
  pub left : ℕ

-- What a part of a run comes to: something and a state to go on from, a trap, or a spent budget.
pub data Outcome (M A : Type 0) : Type 0 where
  gives : A → State M → Outcome M A
  trapped : Trap → Span → State M → Outcome M A
  spent : State M → Outcome M A

infixl 20 ◌>>=◌
-- one part after another
abbrev pub ◌>>=◌ : {M A B : Type 0} → Outcome M A → (A → State M → Outcome M B) → Outcome M B
gives a st >>= next = next a st
trapped trap span st >>= next = trapped trap span st
spent st >>= next = spent st

-- a turn is taken, where one is left
abbrev pub take_turn : {M A : Type 0} → ℕ → State M → (State M → Outcome M A) → Outcome M A
take_turn zero st next = spent st
take_turn (suc left) st next = next (record st { left = left })

-- ---- events

-- a call of a privileged function with these numbers is guarded, unless one is active already
abbrev pub guarded_event : Bool → Signature → ℕ → List ℤ → List Event
guarded_event active s f numbers = if s.privileged && not active then guarded f (plain_numbers s.params numbers) ∷ [] else []

-- the event of a host that writes, also where it writes no byte
abbrev pub out_event : Option (List ℕ) → List Event
out_event None = []
out_event (Some bytes) = out bytes ∷ []

abbrev pub noted : {M : Type 0} → List Event → State M → State M
noted events st = record st { events = st.events ++ events }

-- ---- hosts

-- what a host answers to these numbers
abbrev pub answer_of : {M : Type 0} → ℕ → List ℤ → State M → Answer
answer_of f numbers st = host_step st.input (st.hosts f) numbers

-- the state after a host's answer: what stands for the host from then on, and what it wrote
abbrev pub after_answer : {M : Type 0} → ℕ → Answer → State M → State M
after_answer f answer st = noted (out_event answer.written) (record st { hosts = put_host st.hosts f answer.next })
