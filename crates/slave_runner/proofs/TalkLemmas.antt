-- Talks in turn.
use Rattle.std.proofs.Common.{◌≡◌, ◌≢◌, ◌<◌, ◌^◌, ℕ, List, [], ◌∷◌, ◌++◌, refl, sym, ap, subst, ◌∙◌, append_assoc, append-nil}
use Rattle.std.proofs.lemmas.List.Elements.{All-append}
use Rattle.pt_base.specs.Talk.{Event, gave, took}
use Rattle.wire.specs.Limits.{IsBytes}
use Rattle.pair_runner.specs.Sending.{given_in, sent_in}
use Rattle.pair_runner.proofs.Moving.{given_append, sent_append}
use Rattle.pair_runner.proofs.SoFar.{given_gave}
use Rattle.pair_runner.proofs.Turning.{no_bytes}
use Rattle.slave_runner.specs.Comes.{IsOpen, InTurn}
use Rattle.slave_runner.specs.Saying.{sending}
use Rattle.slave_runner.specs.SoFar.{Talked}

-- one talk behind the other
abbrev pub Joins : (List Event → Type 0) → (List Event → Type 0) → (List Event → Type 0) → Type 0
Joins talks next both = (talk more : List Event) → talks talk → next more → both (talk ++ more)

abbrev pub JoinsParts : (List Event → Type 0) → (List ℕ → List ℕ → Type 0) → (List ℕ → List ℕ → Type 0) → Type 0
JoinsParts talks next both = (talk : List Event) (given sent more : List ℕ) → talks talk → next given sent → both (given_in talk ++ given) (sent_in talk ++ (sent ++ more))

pub turns_more : (given sent : List ℕ) (talk more : List Event) → InTurn given sent talk → InTurn (given ++ given_in talk) (sent ++ sent_in talk) more → InTurn given sent (talk ++ more)
turns_more given sent [] more t u = subst (λ l. InTurn l sent more) (append-nil given) (subst (λ l. InTurn (given ++ []) l more) (append-nil sent) u)
turns_more given sent (gave piece ∷ talk) more (open_then, some, t) u =
    (open_then, some, turns_more (given ++ piece) sent talk more t (subst (λ l. InTurn l (sent ++ sent_in talk) more) (sym (append_assoc given piece (given_in talk))) u))
turns_more given sent (took bytes ∷ talk) more t u =
    turns_more given (sent ++ bytes) talk more t (subst (λ l. InTurn (given ++ given_in talk) l more) (sym (append_assoc sent bytes (sent_in talk))) u)

pub sent_gave : (talk : List Event) (piece : List ℕ) → sent_in (talk ++ gave piece ∷ []) ≡ sent_in talk
sent_gave talk piece = sent_append talk (gave piece ∷ []) ∙ append-nil (sent_in talk)

sending_given : (bytes : List ℕ) → given_in (sending bytes) ≡ []
sending_given [] = refl
sending_given (b ∷ bytes) = refl

sending_sent : (bytes : List ℕ) → sent_in (sending bytes) ≡ bytes
sending_sent [] = refl
sending_sent (b ∷ bytes) = append-nil (b ∷ bytes)

sending_turns : (given sent bytes : List ℕ) → InTurn given sent (sending bytes)
sending_turns given sent [] = tt {0}
sending_turns given sent (b ∷ bytes) = tt {0}

pub given_sending : (talk : List Event) (bytes : List ℕ) → given_in (talk ++ sending bytes) ≡ given_in talk
given_sending talk bytes = given_append talk (sending bytes) ∙ ap (λ l. given_in talk ++ l) (sending_given bytes) ∙ append-nil (given_in talk)

pub sent_sending : (talk : List Event) (bytes : List ℕ) → sent_in (talk ++ sending bytes) ≡ sent_in talk ++ bytes
sent_sending talk bytes = sent_append talk (sending bytes) ∙ ap (λ l. sent_in talk ++ l) (sending_sent bytes)

-- ---- a talk goes on

pub talked_none : (talks : List Event → Type 0) → talks [] → Talked talks []
talked_none talks none = record { talked = none; turns = tt {0}; given = no_bytes }

pub talked_gave : (talks next both : List Event → Type 0) (talk : List Event) (piece : List ℕ) → Joins talks next both → Talked talks talk → IsOpen (given_in talk) (sent_in talk) → piece ≢ [] → IsBytes piece → next (gave piece ∷ []) →
    Talked both (talk ++ gave piece ∷ [])
talked_gave talks next both talk piece joins t at_open some fits moved = record {
  talked = joins talk (gave piece ∷ []) t.talked moved;
  turns = turns_more [] [] talk (gave piece ∷ []) t.turns (at_open, some, tt {0});
  given = subst IsBytes (sym (given_gave talk piece)) (All-append (λ b. b < 2 ^ 8) (given_in talk) piece t.given fits);
}

pub talked_sent : (talks next both : List Event → Type 0) (talk : List Event) (bytes : List ℕ) → Joins talks next both → Talked talks talk → next (sending bytes) → Talked both (talk ++ sending bytes)
talked_sent talks next both talk bytes joins t moved = record {
  talked = joins talk (sending bytes) t.talked moved;
  turns = turns_more [] [] talk (sending bytes) t.turns (sending_turns (given_in talk) (sent_in talk) bytes);
  given = subst IsBytes (sym (given_sending talk bytes)) t.given;
}
