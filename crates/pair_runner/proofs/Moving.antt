-- Talks one behind the other.
use Rattle.std.proofs.Common.{◌≡◌, ℕ, List, [], ◌∷◌, ◌++◌, Option, Some, None, refl, sym, ap, subst, ◌∙◌, append_assoc, append-nil}
use Rattle.std.proofs.KnownBytes.{Appends-nil, Appends-trans}
use Rattle.std.specs.Io.KnownBytes.{Appends, Keeps}
use Rattle.pt_base.specs.Talk.{Event, gave, took}
use Rattle.pt_base.specs.Told.{AppendsPart}
use Rattle.wire.specs.declared.message.ReplyBody.{ReplyBody}
use Rattle.pair_protocol.specs.SlaveRun.{listed}
use Rattle.pair_runner.specs.Sending.{given_in, sent_in, sent_of, reply_frame, reply_frames, Talks, Parts, Moves, Breaks}
use Rattle.pair_runner.proofs.Parts.{keeps_nil, nothing, part_behind}

-- ---- the bytes of talks

pub given_append : (x y : List Event) → given_in (x ++ y) ≡ given_in x ++ given_in y
given_append [] y = refl
given_append (gave bytes ∷ x) y = ap (λ l. bytes ++ l) (given_append x y) ∙ sym (append_assoc bytes (given_in x) (given_in y))
given_append (took bytes ∷ x) y = given_append x y

pub sent_append : (x y : List Event) → sent_in (x ++ y) ≡ sent_in x ++ sent_in y
sent_append [] y = refl
sent_append (gave bytes ∷ x) y = sent_append x y
sent_append (took bytes ∷ x) y = ap (λ l. bytes ++ l) (sent_append x y) ∙ sym (append_assoc bytes (sent_in x) (sent_in y))

-- a reply is sent and nothing given
pub given_reply : (reply : Option ReplyBody) (talk : List Event) → given_in (sent_of reply ++ talk) ≡ given_in talk
given_reply None talk = refl
given_reply (Some reply) talk = refl

pub sent_reply : (reply : Option ReplyBody) (talk : List Event) → sent_in (sent_of reply ++ talk) ≡ reply_frames (listed reply) ++ sent_in talk
sent_reply None talk = refl
sent_reply (Some reply) talk = ap (λ l. l ++ sent_in talk) (sym (append-nil (reply_frame reply)))

-- ---- links

abbrev pub Law : {L : Type 0} → (L → List Event → L → Type 0) → Type 0
Law {L} came = (a b c : L) (x y : List Event) → came a x b → came b y c → came a (x ++ y) c

abbrev pub Same : {L : Type 0} → (L → List Event → L → Type 0) → Type 0
Same {L} came = (l : L) → came l [] l

pub talks_none : {L : Type 0} (came : L → List Event → L → Type 0) (sent given : L → Option (List ℕ)) → Same came → (a : L) → Talks came sent given a a []
talks_none came sent given same a = record { came_by = same a; sent_so = Appends-nil (sent a); given_so = Appends-nil (given a) }

pub talks_more : {L : Type 0} (came : L → List Event → L → Type 0) (sent given : L → Option (List ℕ)) → Law came → (a b c : L) (x y : List Event) →
    Talks came sent given a b x → Talks came sent given b c y → Talks came sent given a c (x ++ y)
talks_more came sent given further a b c x y p q = record {
  came_by = further a b c x y p.came_by q.came_by;
  sent_so = subst (Appends (sent a) (sent c)) (sym (sent_append x y)) (Appends-trans (sent a) (sent b) (sent c) (sent_in x) (sent_in y) p.sent_so q.sent_so);
  given_so = subst (Appends (given a) (given c)) (sym (given_append x y)) (Appends-trans (given a) (given b) (given c) (given_in x) (given_in y) p.given_so q.given_so);
}

-- a talk, and then a part
pub parts_behind : {L : Type 0} (came : L → List Event → L → Type 0) (sent given : L → Option (List ℕ)) (a b c : L) (x : List Event) (g s more : List ℕ) →
    Talks came sent given a b x → Parts sent given b c g s → Parts sent given a c (given_in x ++ g) (sent_in x ++ (s ++ more))
parts_behind came sent given a b c x g s more p q = record {
  given_so = Appends-trans (given a) (given b) (given c) (given_in x) g p.given_so q.given_so;
  sent_so = part_behind (sent a) (sent b) (sent c) (sent_in x) s more p.sent_so q.sent_so;
}

-- one call
pub took_one : {L : Type 0} (came : L → List Event → L → Type 0) (sent given : L → Option (List ℕ)) (a b : L) (bytes : List ℕ) → came a (took bytes ∷ []) b → Appends (sent a) (sent b) bytes → Keeps (given a) (given b) → Talks came sent given a b (took bytes ∷ [])
took_one came sent given a b bytes by s k = record { came_by = by; sent_so = subst (Appends (sent a) (sent b)) (sym (append-nil bytes)) s; given_so = keeps_nil (given a) (given b) k }

pub gave_one : {L : Type 0} (came : L → List Event → L → Type 0) (sent given : L → Option (List ℕ)) (a b : L) (bytes : List ℕ) → came a (gave bytes ∷ []) b → Keeps (sent a) (sent b) → Appends (given a) (given b) bytes → Talks came sent given a b (gave bytes ∷ [])
gave_one came sent given a b bytes by k s = record { came_by = by; sent_so = keeps_nil (sent a) (sent b) k; given_so = subst (Appends (given a) (given b)) (sym (append-nil bytes)) s }

pub parts_sent : {L : Type 0} (sent given : L → Option (List ℕ)) (a b : L) (bytes : List ℕ) → AppendsPart (sent a) (sent b) bytes → Keeps (given a) (given b) → Parts sent given a b [] bytes
parts_sent sent given a b bytes s k = record { given_so = keeps_nil (given a) (given b) k; sent_so = s }

-- nothing was sent, and nothing given
pub parts_none : {L : Type 0} (sent given : L → Option (List ℕ)) (a b : L) (s : List ℕ) → Keeps (sent a) (sent b) → Keeps (given a) (given b) → Parts sent given a b [] s
parts_none sent given a b s k h = record { given_so = keeps_nil (given a) (given b) h; sent_so = nothing (sent a) (sent b) s k }

-- ---- links and sinks

pub moves_none : {L K : Type 0} (came : L → List Event → L → Type 0) (sent given : L → Option (List ℕ)) (taken : K → Option (List ℕ)) → Same came → (a : L) (k : K) → Moves came sent given taken a a k k [] []
moves_none came sent given taken same a k = record { talks = talks_none came sent given same a; writes = Appends-nil (taken k) }

pub moves_more : {L K : Type 0} (came : L → List Event → L → Type 0) (sent given : L → Option (List ℕ)) (taken : K → Option (List ℕ)) → Law came → (a b c : L) (k l n : K) (x y : List Event) (bytes more : List ℕ) →
    Moves came sent given taken a b k l x bytes → Moves came sent given taken b c l n y more → Moves came sent given taken a c k n (x ++ y) (bytes ++ more)
moves_more came sent given taken further a b c k l n x y bytes more p q = record {
  talks = talks_more came sent given further a b c x y p.talks q.talks;
  writes = Appends-trans (taken k) (taken l) (taken n) bytes more p.writes q.writes;
}

pub breaks_behind : {L K : Type 0} (came : L → List Event → L → Type 0) (sent given : L → Option (List ℕ)) (taken : K → Option (List ℕ)) (a b c : L) (k l n : K) (x : List Event) (bytes g s o more others : List ℕ) →
    Moves came sent given taken a b k l x bytes → Breaks sent given taken b c l n g s o → Breaks sent given taken a c k n (given_in x ++ g) (sent_in x ++ (s ++ more)) (bytes ++ (o ++ others))
breaks_behind came sent given taken a b c k l n x bytes g s o more others p q = record {
  parts = parts_behind came sent given a b c x g s more p.talks q.parts;
  writes = part_behind (taken k) (taken l) (taken n) bytes o others p.writes q.writes;
}

-- a talk at which the sink isn't concerned
pub moves_by_talk : {L K : Type 0} (came : L → List Event → L → Type 0) (sent given : L → Option (List ℕ)) (taken : K → Option (List ℕ)) (a b : L) (k : K) (x : List Event) → Talks came sent given a b x → Moves came sent given taken a b k k x []
moves_by_talk came sent given taken a b k x p = record { talks = p; writes = Appends-nil (taken k) }

pub breaks_by_parts : {L K : Type 0} (sent given : L → Option (List ℕ)) (taken : K → Option (List ℕ)) (a b : L) (k : K) (g s o : List ℕ) → Parts sent given a b g s → Breaks sent given taken a b k k g s o
breaks_by_parts sent given taken a b k g s o p = record { parts = p; writes = nothing (taken k) (taken k) o (keeps (taken k)) }
  where
    keeps : (x : Option (List ℕ)) → Keeps x x
    keeps None = tt {0}
    keeps (Some x) = refl
