-- Two monitors of which a slave may know the same.
use Rattle.std.specs.Prelude.{◌≡◌, ℕ, ℤ, List, [], ◌∷◌, ◌++◌, None}
use Rattle.std.specs.List.{AllByRecursion}
use Rattle.pt_base.specs.declared.end.End.{End}
use Rattle.pt_base.specs.declared.end.End.TheVariants.{Exit, Trapped, Spent, Refused}
use Rattle.wire.specs.Limits.{KeepsCounts}
use Rattle.wire.specs.declared.message.Message.{Message}
use Rattle.wire.specs.declared.message.ReplyBody.{ReplyBody}
use Rattle.pair_protocol.specs.Sides.{goes_on, ends, bad}
use Rattle.pair_meaning.specs.LowView.{declassified, low_next, reply_of}
use Rattle.pair_meaning.specs.Monitors.{Monitor, Low, low}
use Rattle.pair_meaning.specs.Rules.{PeerRule, Admitted, turns_of}
use Rattle.pair_meaning.specs.Serving.{left_for, serve, served_by, work_of}
use Rattle.pair_meaning.specs.Streams.{at_end, Talk}
use Rattle.low_views_law.specs.Unserved.{Outcome}

-- ---- one message

-- where it goes on, the reply is made of this view, the message and these numbers, and the next view of the view and the message
abbrev pub IsLow : Low → Message → List ℤ → Outcome → Type 0
IsLow view x told (goes_on next reply bytes) = (reply ≡ reply_of view x told) × (low next ≡ low_next view x)
IsLow view x told (ends bytes end) = Unit {0}
IsLow view x told (bad rule) = Unit {0}

-- what comes of a call that is made
abbrev pub called : Monitor → Message → Admitted → Outcome
called m x call = served_by m x call (left_for m x) (work_of m call (left_for m x))

-- Both break the same rule, end the run alike with nothing written, write the same bytes, or make the same call.
pub data AreAlike (m m' : Monitor) (x : Message) : Type 0 where
  both_break : (rule : PeerRule) → serve m x ≡ bad rule → serve m' x ≡ bad rule → AreAlike m m' x
  both_end : (end : End) → serve m x ≡ ends [] end → serve m' x ≡ ends [] end → AreAlike m m' x
  both_write : (bytes : List ℕ) → serve m x ≡ goes_on (record m { last = turns_of x }) None bytes → serve m' x ≡ goes_on (record m' { last = turns_of x }) None bytes → AreAlike m m' x
  both_make : (call : Admitted) → serve m x ≡ called m x call → serve m' x ≡ called m' x call → AreAlike m m' x

-- ---- a stream

-- what is asked of both where both go on
abbrev pub WhereBothGoOn : Outcome → Outcome → (Monitor → Monitor → Type 0) → Type 0
WhereBothGoOn (goes_on m reply bytes) (goes_on m' reply' bytes') asked = asked m m'
WhereBothGoOn (goes_on m reply bytes) (ends bytes' end) asked = Unit {0}
WhereBothGoOn (goes_on m reply bytes) (bad rule) asked = Unit {0}
WhereBothGoOn (ends bytes end) other asked = Unit {0}
WhereBothGoOn (bad rule) other asked = Unit {0}

-- in answer to each of these messages both tell the same numbers, as far as both go on
abbrev pub TellTheSame : Monitor → Monitor → List (Message × ℕ) → Type 0
TellTheSame m m' [] = Unit {0}
TellTheSame m m' (x ∷ frames) =
    WhereBothGoOn (serve m x.0) (serve m' x.0) (λ next next'. (declassified m x.0 ≡ declassified m' x.0) × TellTheSame next next' frames)

-- each message has the counts that the format allows, as every frame's has
abbrev pub KeepCounts : List (Message × ℕ) → Type 0
KeepCounts frames = AllByRecursion (λ x. KeepsCounts x.0) frames

-- an end that the work of a call comes to, or that a monitor's own turns bring: whether it comes is no low matter
abbrev pub IsOwn : End → Type 0
IsOwn (Exit status) = ⊥
IsOwn (Trapped kind span) = Unit {0}
IsOwn Spent = Unit {0}
IsOwn (Refused number function state) = ⊥

-- Both talks have the same replies and stop alike, by the same rule at the same place or with the same end; or one of them comes
-- to a trap or is spent, and its replies are the first of the other's.
pub data GoAlike (a b : Talk) : Type 0 where
  alike : a.replies ≡ b.replies → a.stopped ≡ b.stopped → GoAlike a b
  first_stops : (end : End) → IsOwn end → a.stopped ≡ at_end end → (rest : List ReplyBody) → b.replies ≡ a.replies ++ rest → GoAlike a b
  second_stops : (end : End) → IsOwn end → b.stopped ≡ at_end end → (rest : List ReplyBody) → a.replies ≡ b.replies ++ rest → GoAlike a b
