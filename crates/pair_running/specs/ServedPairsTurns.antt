-- The turns of sessions: whose it is by the answers of a chooser, and what is taken of those.
use Rattle.std.specs.Prelude.{◌≡◌, ◌<◌, ◌+◌, ℕ, List, [], ◌∷◌, Bool, true, not, Option, Some, None, Result, Ok, Err, length, map, slice_get, take, ⊤}
use Rattle.pt_base.specs.declared.chooser.Who as base
use Rattle.pt_base.specs.declared.end.End.{End}
use Rattle.pt_core.specs.CodeTree.{BootTree}
use Rattle.wire.specs.Limits.{KeepsCounts}
use Rattle.wire.specs.declared.message.Message.{Message}
use Rattle.wire.specs.declared.message.ReplyBody.{ReplyBody}
use Rattle.pair_protocol.specs.Sides.{HasReply, Served, of_bool, waiting}
use Rattle.pair_protocol.specs.Pair.{Both, run, done, wrong, answered, both_from, Who}
use Rattle.pair_protocol.specs.SlaveRun.{came, slave_at}
use Rattle.pair_meaning.specs.LinkChoosing.{AreTaken}
use Rattle.pair_meaning.specs.Monitors.{Monitor}
use Rattle.pair_meaning.specs.Pair.{the_sides, wants_reply}
use Rattle.pair_meaning.specs.Rules.{PeerRule}
use Rattle.pair_meaning.specs.SlaveRun.{Slave, may_take, mode_of, slave_of}
use Rattle.session_turns.specs.Turns.{AreWhole, GoesOn, IsTurn, Reach, TurnsLead, begun, count_running, is_running}
use Rattle.sessions.specs.declared.hub.Hub.{Hub as code_hub}
use Rattle.sessions.specs.Hubs.{Hub, OthersStay, monitor_at}
use Rattle.sessions.specs.Alone.{left_by, told_by}
use Rattle.sessions.specs.IsHub.{IsHub, Tells}
use Rattle.monitor_interp.specs.declared.handled.Handled.{Handled}
use Rattle.slave_interp.specs.declared.slave.Slave.{Slave as code_slave}
use Rattle.slave_interp.specs.Slaves.{IsSlave}
use Rattle.stages.specs.declared.refusal.Stop.{Stop}
use Rattle.stages.specs.declared.refusal.Stop.TheVariants as stop
use Rattle.stages.specs.declared.refusal.Stop.TheVariants.{Refused}
use Rattle.pair_texts.specs.Several.{SharedTexts, with_input}
use Rattle.pair_texts.specs.Start.{AreStarted}
use Rattle.pair_running.specs.declared.served_pairs.served.Served.{Served as code_served}
use Rattle.pair_running.specs.declared.served_pairs.served.SessionEnd.{SessionEnd}
use Rattle.pair_running.specs.declared.served_pairs.turning.Talk.{Talk}
use Rattle.pair_running.specs.LocalPairWhole as local
use Rattle.pair_running.specs.ServedPairsServed as served

-- a pair of this program
abbrev pub Pair : Type 0
Pair = Both Slave Monitor End PeerRule

-- some steps lead to an end
abbrev pub ComesToEnd : Pair → Type 0
ComesToEnd b = (k : ℕ) × (bytes : List ℕ) × (end : End) × (both_from the_sides k b ≡ done bytes end)

-- ---- sessions that begin

abbrev pub AreApart : List ℕ → Type 0
AreApart [] = ⊤
AreApart (n ∷ ns) = ((k : ℕ) (j : ℕ) → slice_get ns j ≡ Some k → k ≡ n → ⊥) × AreApart ns

-- The session is open, and its monitor is this one; the slave is this one; nothing was written; and their pair comes to an end.
pub record IsSeated (h : Hub) (x : Talk) (start : Slave × Monitor) : Type 0 where
  pub slave : IsSlave x.slave start.0
  pub monitor : monitor_at h x.session ≡ Some start.1
  pub written : x.written.items ≡ []
  pub runs : x.end ≡ None
  pub ends : ComesToEnd (run start.0 start.1 [])

abbrev pub SeatedEach : Hub → List Talk → List (Slave × Monitor) → Type 0
SeatedEach h [] [] = ⊤
SeatedEach h [] (s ∷ ss) = ⊥
SeatedEach h (x ∷ xs) [] = ⊥
SeatedEach h (x ∷ xs) (s ∷ ss) = IsSeated h x s × SeatedEach h xs ss

abbrev pub numbers_of : List Talk → List ℕ
numbers_of xs = map (λ x. x.session) xs

-- no two of the sessions are one
pub record AreSeated (h : Hub) (xs : List Talk) (starts : List (Slave × Monitor)) : Type 0 where
  pub apart : AreApart (numbers_of xs)
  pub each : SeatedEach h xs starts

-- under the answers that were taken all come to these ends, the last one with the last answer and not before
pub record HaveRun (starts : List (Slave × Monitor)) (told told' : Option (ℕ → base.Who)) (ends : List (List ℕ × End)) : Type 0 where
  pub answers : List Who
  pub taken : AreTaken answers told told'
  pub whole : AreWhole the_sides starts answers ends

abbrev pub end_of : SessionEnd → List ℕ × End
end_of x = (x.bytes, x.end)

-- ---- between two turns

-- where the pair of a talk is
abbrev pub IsTalk : Hub → Talk → Pair → Type 0
IsTalk h x (run s m written) = (x.end ≡ None) × (x.written.items ≡ written) × IsSlave x.slave s × (monitor_at h x.session ≡ Some m)
IsTalk h x (done bytes end) = (x.end ≡ Some end) × (x.written.items ≡ bytes)
IsTalk h x (wrong bytes rule) = ⊥

abbrev pub AreTalks : Hub → List Talk → List Pair → Type 0
AreTalks h [] [] = ⊤
AreTalks h [] (b ∷ bs) = ⊥
AreTalks h (x ∷ xs) [] = ⊥
AreTalks h (x ∷ xs) (b ∷ bs) = IsTalk h x b × ComesToEnd b × AreTalks h xs bs

-- The hub is this one and the talks are where these pairs are, of which so many run. `count` is what the code holds of that.
pub record StandAt (hub : code_hub) (h : Hub) (xs : List Talk) (bs : List Pair) (count : ℕ) : Type 0 where
  pub hub_is : IsHub hub h
  pub talks : AreTalks h xs bs
  pub apart : AreApart (numbers_of xs)
  pub running : count ≡ count_running bs

-- some turns led here, under the answers that were taken
pub record HaveGone (hub : code_hub) (xs : List Talk) (count : ℕ) (starts : List (Slave × Monitor)) (told told' : Option (ℕ → base.Who)) : Type 0 where
  pub h : Hub
  pub pairs : List Pair
  pub stand : StandAt hub h xs pairs count
  pub turns : ℕ
  pub answers : List Who
  pub taken : AreTaken answers told told'
  pub lead : TurnsLead the_sides turns answers (map begun starts) pairs

-- this is the end of a talk that is over
abbrev pub IsEndOf : Talk → SessionEnd → Type 0
IsEndOf x e = (e.bytes ≡ x.written.items) × (x.end ≡ Some e.end)

abbrev pub AreEnds : List Talk → List SessionEnd → Type 0
AreEnds [] [] = ⊤
AreEnds [] (e ∷ es) = ⊥
AreEnds (x ∷ xs) [] = ⊥
AreEnds (x ∷ xs) (e ∷ es) = IsEndOf x e × AreEnds xs es

-- the hub is one with which the talks are where these pairs begin, none of which was over
abbrev pub AllBegin : code_hub → List (Slave × Monitor) → List Talk → Type 0
AllBegin hub starts xs = (h : Hub) × StandAt hub h xs (map begun starts) (length xs)

-- ---- one turn

-- the slave said this message after some steps
pub record HasSaid (from : Slave) (message : Message) (x : code_slave) : Type 0 where
  pub steps : ℕ
  pub to : Slave
  pub there : IsSlave x to
  pub came_to : slave_at the_sides steps from [] ≡ came to (message ∷ []) [] steps
  pub quiet : (j : ℕ) → j < steps → (slave_at the_sides j from []).said ≡ []
  pub counts : KeepsCounts message
  pub waits : waiting (mode_of to) ≡ of_bool (wants_reply message)

-- the hub is this one and the talk runs, with this slave and this monitor
pub record IsRunning (hub : code_hub) (h : Hub) (x : Talk) (s : Slave) (m : Monitor) : Type 0 where
  pub hub_is : IsHub hub h
  pub talks : IsTalk h x (run s m x.written.items)
  pub ends : ComesToEnd (run s m x.written.items)

-- it went on by one message; nothing of another session was changed
pub record HasTaken (hub : code_hub) (h : Hub) (x x' : Talk) (s : Slave) (m : Monitor) (over : Bool) : Type 0 where
  pub next_hub : Hub
  pub hub_is : IsHub hub next_hub
  pub others : OthersStay x.session h next_hub
  pub same : x'.session ≡ x.session
  pub next : Pair
  pub onward : GoesOn the_sides s m x.written.items next
  pub talks : IsTalk next_hub x' next
  pub over_is : over ≡ not (is_running next)

-- what a monitor makes of one message
abbrev pub ServedOne : Type 0
ServedOne = Served Monitor ReplyBody End PeerRule

-- it waits for this reply, where there is one
abbrev pub MayHear : Slave → Option ReplyBody → Type 0
MayHear x None = ⊤
MayHear x (Some reply) = may_take x x.doing reply ≡ true

-- A message of the talk's slave, which came here by it, was served so, and so it was told. So far these bytes were written.
pub record IsServedSo (x : Talk) (to : Slave) (written : List ℕ) (v : ServedOne) (told : Handled) : Type 0 where
  pub slave : IsSlave x.slave to
  pub runs : x.end ≡ None
  pub tells : Tells (told_by v) told written x.written.items
  pub ends : ComesToEnd (answered the_sides to written v)
  pub wants : Bool
  pub replies : HasReply wants v
  pub waits : waiting (mode_of to) ≡ of_bool wants

-- it heard that, and stands where its pair does
pub record HasHeard (x x' : Talk) (to : Slave) (written : List ℕ) (v : ServedOne) (over : Bool) : Type 0 where
  pub same : x'.session ≡ x.session
  pub talks : (h : Hub) → monitor_at h x.session ≡ left_by v → IsTalk h x' (answered the_sides to written v)
  pub over_is : over ≡ not (is_running (answered the_sides to written v))

-- ---- which talks run

-- one that hasn't ended is one that runs
abbrev pub is_open : Option End → ℕ
is_open None = 1
is_open (Some end) = 0

abbrev pub count_open : List Talk → ℕ
count_open [] = 0
count_open (x ∷ xs) = is_open x.end + count_open xs

-- whether the talk at this place runs
pub record IsOpenAt (xs : List Talk) (place : ℕ) (runs : Bool) : Type 0 where
  pub talk : Talk
  pub stands : slice_get xs place ≡ Some talk
  pub counts : is_open talk.end ≡ of_bool runs

-- so many of those that run stand before this place, at which one runs
pub record IsPlace (xs : List Talk) (k place : ℕ) : Type 0 where
  pub talk : Talk
  pub stands : slice_get xs place ≡ Some talk
  pub runs : talk.end ≡ None
  pub before : count_open (take place xs) ≡ k

-- the answers of a turn reach it
pub record HasReached (xs : List Talk) (count : ℕ) (told told' : Option (ℕ → base.Who)) (place : ℕ) : Type 0 where
  pub answers : List Who
  pub taken : AreTaken answers told told'
  pub passed : ℕ
  pub reach : Reach count answers passed
  pub is : IsPlace xs passed place

-- One turn under the answers that were taken. So many run then.
pub record HasTurned (hub : code_hub) (xs : List Talk) (bs : List Pair) (told told' : Option (ℕ → base.Who)) (count : ℕ) : Type 0 where
  pub h : Hub
  pub pairs : List Pair
  pub stand : StandAt hub h xs pairs count
  pub answers : List Who
  pub taken : AreTaken answers told told'
  pub turn : IsTurn the_sides answers bs pairs

-- ---- of texts

-- with each input the slave and the monitor start so, within so many turns
abbrev pub AreStartedEach : SharedTexts → ℕ → List (List ℕ) → List (Slave × Monitor) → Type 0
AreStartedEach t turns [] [] = ⊤
AreStartedEach t turns [] (x ∷ xs) = ⊥
AreStartedEach t turns (input ∷ inputs) [] = ⊥
AreStartedEach t turns (input ∷ inputs) (x ∷ xs) =
    ((boot : BootTree) × (monitor : Monitor) × AreStarted (with_input t input) turns boot monitor × (x.0 ≡ slave_of boot) × (x.1 ≡ local.alone monitor)) × AreStartedEach t turns inputs xs

-- The chooser told the first answers and tells the others still, and so many were taken between. Under them all sessions come to their
-- ends, the last one with the last answer and not before, and write these bytes.
pub record HaveTurns (t : SharedTexts) (inputs : List (List ℕ)) (turns : ℕ) (told told' : Option (ℕ → base.Who)) (bytes : List (List ℕ)) : Type 0 where
  pub starts : List (Slave × Monitor)
  pub started : AreStartedEach t turns inputs starts
  pub answers : List Who
  pub taken : AreTaken answers told told'
  pub ends : List (List ℕ × End)
  pub whole : AreWhole the_sides starts answers ends
  pub bytes_are : bytes ≡ map (λ e. e.0) ends

-- ---- what contracts see of an answer

abbrev pub view_session : SessionEnd → served.Session
view_session x = record { bytes = x.bytes; end = x.end }

abbrev pub view_served : code_served → served.Served
view_served v = record { sessions = map view_session v.sessions.items; names = v.names }

-- what was written is that of whole turns, where they ran; no answer was taken where the texts are refused
abbrev pub AreWholeTurns : SharedTexts → List (List ℕ) → ℕ → Option (ℕ → base.Who) → Option (ℕ → base.Who) → Result code_served Stop → Type 0
AreWholeTurns t inputs turns told told' (Ok v) = HaveTurns t inputs turns told told' (map (λ x. x.bytes) v.sessions.items)
AreWholeTurns t inputs turns told told' (Err (Refused refusal)) = AreTaken [] told told'
AreWholeTurns t inputs turns told told' (Err stop.Memory) = ⊤
