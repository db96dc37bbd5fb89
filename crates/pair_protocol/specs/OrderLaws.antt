-- What the order of turns can't change.
use Rattle.std.specs.Prelude.{◌≡◌, ◌+◌, ◌<◌, ◌≤◌, ℕ, List, [], ◌∷◌, ◌++◌, length, replicate, Bool, false}
use Rattle.pair_protocol.specs.Sides.{going, waits, Sides, AreFair, waiting}
use Rattle.pair_protocol.specs.SlaveRun.{came, listed, slave_at, IsLongest}
use Rattle.pair_protocol.specs.Serving.{Stop, still, ended, broken, all, serve_all, IsHonest, IsExpected}
use Rattle.pair_protocol.specs.Pair.{Both, run, done, wrong, both_from, both, Who, parents, Going, Pair, goes, stops, breaks, pair_steps, IsWhole, caught_up, asked}
use Rattle.pair_protocol.specs.Links.{talk_of, Half, half, Leads}

-- so many steps of the slave, and these messages served with these replies, lead here
pub record IsAfter {S M X R E Q : Type 0} (g : Sides S M X R E Q) (s : S) (m : M) (steps : ℕ) (served : List X) (replies : List R) (p : Going S M X) : Type 0 where
  -- the slave has made these steps and taken these replies, and what it said is served or waits
  pub slave_so : slave_at g steps s replies ≡ came p.slave (served ++ p.queue) [] steps
  -- the monitor is the fold over what was served
  pub monitor_so : serve_all g m served ≡ all replies p.written (still p.monitor)
  -- with the queue folded and the reply taken, it is the synchronous pair at the slave's step
  pub ahead : caught_up g p ≡ both g s m steps
  pub waits_for : asked g p.queue ≡ waiting (g.mode p.slave)

abbrev pub Described : {S M X R E Q : Type 0} → Sides S M X R E Q → S → M → Going S M X → Type 0
Described {X = X} {R = R} g s m p = (steps : ℕ) × (served : List X) × (replies : List R) × IsAfter g s m steps served replies p

-- the synchronous pair comes from b to where a monitor stopped: to a monitor after k steps of which T holds, or to the end
abbrev pub ComesTo : {S M X R E Q : Type 0} → Sides S M X R E Q → (ℕ → Type 0) → Both S M E Q → List ℕ → Stop M E Q → Type 0
ComesTo {S = S} g T b written (still m) = (k : ℕ) × (s : S) × (both_from g k b ≡ run s m written) × T k
ComesTo g T b written (ended e) = (k : ℕ) × (both_from g k b ≡ done written e)
ComesTo g T b written (broken q) = (k : ℕ) × (both_from g k b ≡ wrong written q)

-- by step k, and at most n, exactly these messages are said
abbrev pub SaidBy : {S M X R E Q : Type 0} → Sides S M X R E Q → ℕ → S → List R → List X → ℕ → Type 0
SaidBy g n s replies xs k = (k ≤ n) × ((slave_at g k s replies).said ≡ xs)

-- what was served, and the last of it, at which the monitor came to this
pub record Over {S M X R E Q : Type 0} (g : Sides S M X R E Q) (s : S) (m : M) (bytes : List ℕ) (stop : Stop M E Q) (last : Both S M E Q) : Type 0 where
  pub steps : ℕ
  pub served : List X
  pub rest : List X
  pub replies : List R
  pub slave : (slave_at g steps s replies).said ≡ served ++ rest
  pub made : (slave_at g steps s replies).made ≡ steps
  pub monitor : serve_all g m served ≡ all replies bytes stop
  pub ahead : both g s m steps ≡ last

-- what a pair is, in any order of turns: going on, at an end, or at a message that breaks a rule
abbrev pub IsDescribed : {S M X R E Q : Type 0} → Sides S M X R E Q → S → M → Pair S M X E Q → Type 0
IsDescribed {X = X} {R = R} g s m (goes p) = (steps : ℕ) × (served : List X) × (replies : List R) × IsAfter g s m steps served replies p ×
    -- the monitor is the synchronous pair's at the step at which exactly these messages were said
    ComesTo g (SaidBy g steps s replies served) (run s m []) p.written (still p.monitor)
IsDescribed g s m (stops bytes e) = Over g s m bytes (ended e) (done bytes e)
IsDescribed g s m (breaks bytes q) = Over g s m bytes (broken q) (wrong bytes q)

-- In every order of turns under any window, the slave is as many steps on as it made, with the replies to what was served; the monitor is
-- the fold over what was served; both are the synchronous pair's at that step and at that message; and that pair is the queue folded.
abbrev pub PairIsDescribed : (S M X R E Q : Type 0) → Type 0
PairIsDescribed S M X R E Q = (g : Sides S M X R E Q) (s : S) (m : M) → AreFair g → waiting (g.mode s) ≡ 0 → (window : ℕ) (answers : List Who) → IsDescribed g s m (pair_steps g s m window answers)

-- Where the synchronous pair ends, every whole run ends alike, whatever window and answers; and more answers than twice the slave's steps begin with a whole run.
pub record OrdersAgree {S M X R E Q : Type 0} (g : Sides S M X R E Q) (s : S) (m : M) (bytes : List ℕ) (e : E) : Type 0 where
  pub alike : (window : ℕ) (answers : List Who) (bytes' : List ℕ) (e' : E) → IsWhole g s m window answers bytes' e' → (bytes' ≡ bytes) × (e' ≡ e)
  pub reached : (longest : ℕ) → IsLongest g longest s → (window : ℕ) (answers : List Who) → 0 < window → longest + longest < length answers →
      (front : List Who) × (back : List Who) × (answers ≡ front ++ back) × IsWhole g s m window front bytes e

abbrev pub EveryOrderEnds : (S M X R E Q : Type 0) → Type 0
EveryOrderEnds S M X R E Q = (g : Sides S M X R E Q) (s : S) (m : M) → AreFair g → waiting (g.mode s) ≡ 0 →
    (k : ℕ) (bytes : List ℕ) (e : E) → both g s m k ≡ done bytes e → OrdersAgree g s m bytes e

-- And the other way round: what ends in some order ends so in the synchronous pair.
abbrev pub OrdersAreExpected : (S M X R E Q : Type 0) → Type 0
OrdersAreExpected S M X R E Q = (g : Sides S M X R E Q) (s : S) (m : M) → AreFair g → waiting (g.mode s) ≡ 0 →
    (window : ℕ) (answers : List Who) (bytes : List ℕ) (e : E) → IsWhole g s m window answers bytes e → (k : ℕ) × (both g s m k ≡ done bytes e)

-- A monitor over an honest peer comes to the synchronous pair's end and bytes, or has written a first part of them while the peer gives no end.
abbrev pub HonestPeersAreExpected : (S M X R E Q : Type 0) → Type 0
HonestPeersAreExpected S M X R E Q = (g : Sides S M X R E Q) (s : S) (m : M) → AreFair g → waiting (g.mode s) ≡ 0 →
    (k : ℕ) (bytes : List ℕ) (e : E) → both g s m k ≡ done bytes e →
    (longest : ℕ) → IsLongest g longest s → (given : List X) (at_end : Bool) → IsHonest g longest s given at_end (serve_all g m given).replies →
    IsExpected bytes e at_end (serve_all g m given)

-- What a pair has served is what an honest peer gives.
abbrev pub IsServedHonestly : {S M X R E Q : Type 0} → Sides S M X R E Q → ℕ → S → M → Pair S M X E Q → Type 0
IsServedHonestly {X = X} g longest s m (goes p) = (served : List X) × ((serve_all g m served).stop ≡ still p.monitor) × ((serve_all g m served).bytes ≡ p.written) × IsHonest g longest s served false (serve_all g m served).replies
IsServedHonestly {X = X} g longest s m (stops bytes e) = (served : List X) × ((serve_all g m served).stop ≡ ended e) × ((serve_all g m served).bytes ≡ bytes) × IsHonest g longest s served false (serve_all g m served).replies
IsServedHonestly {X = X} g longest s m (breaks bytes q) = (served : List X) × ((serve_all g m served).stop ≡ broken q) × ((serve_all g m served).bytes ≡ bytes) × IsHonest g longest s served false (serve_all g m served).replies

abbrev pub PairsAreHonest : (S M X R E Q : Type 0) → Type 0
PairsAreHonest S M X R E Q = (g : Sides S M X R E Q) (s : S) (m : M) → AreFair g → waiting (g.mode s) ≡ 0 →
    (longest : ℕ) → IsLongest g longest s → (window : ℕ) (answers : List Who) → IsServedHonestly g longest s m (pair_steps g s m window answers)

-- Over a first part of what the slave says with its replies, whether or not there is an end, the monitor stops where the synchronous pair comes.
abbrev pub FirstPartsAgree : (S M X R E Q : Type 0) → Type 0
FirstPartsAgree S M X R E Q = (g : Sides S M X R E Q) (s : S) (m : M) → AreFair g → waiting (g.mode s) ≡ 0 → (n : ℕ) (given rest : List X) →
    (slave_at g n s (serve_all g m given).replies).said ≡ given ++ rest →
    ComesTo g (SaidBy g n s (serve_all g m given).replies given) (run s m []) (serve_all g m given).bytes (serve_all g m given).stop

abbrev pub IsFirst : {X : Type 0} → List X → List X → Type 0
IsFirst {X = X} xs ys = (rest : List X) × (ys ≡ xs ++ rest)

-- A monitor over a first part of a list writes and replies a first part.
abbrev pub FirstPartsBegin : (S M X R E Q : Type 0) → Type 0
FirstPartsBegin S M X R E Q = (g : Sides S M X R E Q) (m : M) (xs ys : List X) →
    IsFirst (serve_all g m xs).bytes (serve_all g m (xs ++ ys)).bytes × IsFirst (serve_all g m xs).replies (serve_all g m (xs ++ ys)).replies

-- What each call of a slave does, by the count of its steps and the replies that it took.
pub record CallsAreCounted {S M X R E Q : Type 0} (g : Sides S M X R E Q) (s : S) : Type 0 where
  pub starts : slave_at g 0 s [] ≡ came s [] [] 0
  pub steps : (k : ℕ) (replies : List R) (s' : S) (xs : List X) → slave_at g k s replies ≡ came s' xs [] k → g.mode s' ≡ going →
      slave_at g (k + 1) s replies ≡ came (g.step s').slave (xs ++ listed (g.step s').said) [] (k + 1)
  pub takes : (r : R) (k : ℕ) (replies : List R) (s' : S) (xs : List X) → slave_at g k s replies ≡ came s' xs [] k → g.mode s' ≡ waits →
      slave_at g k s (replies ++ r ∷ []) ≡ came (g.take r s') xs [] k

abbrev pub SlavesAreCounted : (S M X R E Q : Type 0) → Type 0
SlavesAreCounted S M X R E Q = (g : Sides S M X R E Q) (s : S) → AreFair g → CallsAreCounted g s

-- With no bound on the slave: a chooser that names the parent alone leads to the end in at most two answers a step.
abbrev pub ParentsReach : (S M X R E Q : Type 0) → Type 0
ParentsReach S M X R E Q = (g : Sides S M X R E Q) (s : S) (m : M) (k : ℕ) (bytes : List ℕ) (e : E) → both g s m k ≡ done bytes e → (window : ℕ) → 0 < window →
    (n : ℕ) × (n ≤ k + k) × IsWhole g s m window (replicate n parents) bytes e

-- Where a monitor serves messages of a link in memory up to an end, the answers that the link took are a whole run of the pair, with these bytes and this end.
abbrev pub LinksAreWhole : (S M X R E Q : Type 0) → Type 0
LinksAreWhole S M X R E Q = (g : Sides S M X R E Q) (s : S) (m : M) (window : ℕ) (answers : List Who) (given : List X) (e : E) (left : Half S X) →
    (serve_all g m given).stop ≡ ended e → Leads g window answers (half s []) (talk_of g m given) left → IsWhole g s m window answers (serve_all g m given).bytes e
