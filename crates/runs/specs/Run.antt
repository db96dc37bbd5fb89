-- What is seen of the run of a whole program, and what is expected of it under a policy.
use Rattle.std.specs.Prelude.{ℕ, ◌+◌, ℤ, List, [], ◌∷◌, ◌++◌, Option, Some, None}
use Rattle.pt_base.specs.declared.end.End.{End}
use Rattle.pt_base.specs.declared.end.End.TheVariants.{Refused}
use Rattle.runs.specs.State.{Event, out, guarded}

-- A run: what is seen of it, how it ends, and how many turns it used.
pub record Run : Type 0 where
  pub events : List Event
  pub end : End
  pub turns : ℕ

-- the bytes that hosts write in a list of events
abbrev pub written : List Event → List ℕ
written [] = []
written (out bytes ∷ events) = bytes ++ written events
written (guarded f vs ∷ events) = written events

-- A policy as it answers guarded calls: the state that it begins in, the next state where it allows a
-- call and None where it denies it, and a state's name.
pub record Answers (S : Type 0) : Type 0 where
  pub first : S
  pub next : S → ℕ → List ℤ → Option S
  pub name : S → List ℕ

-- What is to be seen from outside: the bytes, and the end.
pub record Expected : Type 0 where
  pub bytes : List ℕ
  pub end : End

abbrev pub after_bytes : List ℕ → Expected → Expected
after_bytes bytes rest = record rest { bytes = bytes ++ rest.bytes }

-- a denied call ends what is expected before it
abbrev pub decided : {S : Type 0} → Answers S → S → ℕ → ℕ → Option S → (S → Expected) → Expected
decided policy s call f None rest = record { bytes = []; end = Refused call (record { 0 = f }) (policy.name s) }
decided policy s call f (Some s') rest = rest s'

-- what is expected of these events and the end after them, from this state of the policy on, where so
-- many guarded calls came before
abbrev pub expected_from : {S : Type 0} → Answers S → S → ℕ → List Event → End → Expected
expected_from policy s calls [] end = record { bytes = []; end = end }
expected_from policy s calls (out bytes ∷ events) end = after_bytes bytes (expected_from policy s calls events end)
expected_from policy s calls (guarded f vs ∷ events) end =
    decided policy s (calls + 1) f (policy.next s f vs) (λ s'. expected_from policy s' (calls + 1) events end)

-- what is expected of a program under a policy: its own bytes and end where every guarded call is
-- allowed, else the bytes before the first that is denied, and its refusal
abbrev pub expected : {S : Type 0} → Answers S → Run → Expected
expected policy run = expected_from policy policy.first 0 run.events run.end

-- the deepest call, main being at depth 1
abbrev pub deepest : ℕ
deepest = 200
