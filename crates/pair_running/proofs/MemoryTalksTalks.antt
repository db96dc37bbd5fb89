-- A monitor over a link in memory does what the pair does.
use Rattle.std.proofs.Common.{◌≡◌, ◌≢◌, ◌∙◌, ◌+◌, ◌<◌, ◌⊎◌, inl, inr, ℕ, suc, List, [], ◌∷◌, ◌++◌, length, refl, sym, ap, subst, arith, Option, Some, None, append_assoc, append-nil, length-append}
use Rattle.std.proofs.lemmas.List.{length-replicate}
use Rattle.std.specs.Prelude.{replicate, IfSome}
use Rattle.pt_base.specs.declared.end.End.{End}
use Rattle.pt_base.specs.Talk.{Event}
use Rattle.wire.specs.declared.message.Message.{Message}
use Rattle.wire.specs.declared.message.ReplyBody.{ReplyBody}
use Rattle.wire.specs.Frames.{IsUnfinished, BeginsBad, BeginsTooLong, Begins, open_end, bad_frame_at, too_long_at}
use Rattle.wire.specs.Limits.{Spells}
use Rattle.wire.specs.Spelling.{spelling}
use Rattle.wire.proofs.StreamLaws.{same_message, stops_no_message, frame_not_unfinished, too_long_not_unfinished}
use Rattle.pair_protocol.specs.Links.{Half, half}
use Rattle.pair_protocol.specs.Pair.{Who, parents, going_with, Pair, goes, replied, pair_from, start, IsWholeFrom}
use Rattle.pair_protocol.specs.Sides as sides
use Rattle.pair_protocol.specs.Sides.{Served}
use Rattle.pair_meaning.specs.Monitors.{Monitor}
use Rattle.pair_meaning.specs.Pair.{the_sides}
use Rattle.pair_meaning.specs.Rules.{PeerRule}
use Rattle.pair_meaning.specs.Serving.{serve}
use Rattle.pair_meaning.specs.SlaveRun.{Slave}
use Rattle.pair_meaning.specs.Streams.{Stopped, still_open, at_end, at_rule, Talk}
use Rattle.pair_runner.specs.Sending.{boot_talk, sent_of, IsSpelled}
use Rattle.pair_runner.specs.Serves.{Serves, asks, goes_on, ends, breaks, is_bad, is_too_long, hears_the_end}
use Rattle.pair_meaning.specs.LinkTalks.{Side, begun, Gives, Runs}
use Rattle.pair_running.specs.MemoryTalksLaws.{TalksAreWhole, ComesToAnEnd, TalksEnd}
use Rattle.pair_running.proofs.MemoryTalksHanding.{IsEarlier, Rests, ended, handed, rests_on, steps_append, whole_moves}
use Rattle.pair_running.proofs.MemoryTalksHearing.{boot_heard, reply_heard}
use Rattle.pair_running.proofs.HonestTalksFronts.{longer_bad, longer_long, no_bytes}

-- ---- what the pair comes to

abbrev Both : Type 0
Both = Pair Slave Monitor Message End PeerRule

-- a whole run with these bytes, where it stopped at an end; else nothing moves it any more
abbrev Comes : ℕ → List ℕ → Stopped → List Who → Both → Type 0
Comes window bytes still_open answers p = Rests the_sides window (pair_from the_sides window answers p)
Comes window bytes (at_end end) answers p = IsWholeFrom the_sides window answers p bytes end
Comes window bytes (at_rule rule place) answers p = Rests the_sides window (pair_from the_sides window answers p)

earlier : (window : ℕ) (bytes : List ℕ) (stopped : Stopped) → IsEarlier the_sides window (Comes window bytes stopped)
earlier window bytes still_open who answers p h = h
earlier window bytes (at_end end) who answers p h = h
earlier window bytes (at_rule rule place) who answers p h = h

-- ---- where a link is, over bytes that it gave and that aren't served yet

-- a message was handed over, which begins with these bytes
record Within (bytes : List ℕ) (s : Side) : Type 0 where
  said : Message
  spelled : Spells said (spelling said)
  are : spelling said ≡ bytes ++ s.rest

abbrev Between : List ℕ → Side → Type 0
Between bytes s = (bytes ≡ []) × (s.rest ≡ [])

abbrev IsAt : List ℕ → Side → Type 0
IsAt bytes s = Between bytes s ⊎ Within bytes s

abbrev goes_so : Half Slave Message → Monitor → List ℕ → Both
goes_so h m written = goes (going_with h.slave h.queue m written)

abbrev served_so : Half Slave Message → List ℕ → Served Monitor ReplyBody End PeerRule → Both
served_so h written served = replied the_sides h.slave h.queue written served

-- the pair there: what was handed over is served
abbrev pair_at : {bytes : List ℕ} {s : Side} → IsAt bytes s → Monitor → List ℕ → Both
pair_at {s = s} (inl between) m written = goes_so s.slave_half m written
pair_at {s = s} (inr within) m written = served_so s.slave_half written (serve m within.said)

-- ---- frames

no_message : (x : Message) (bytes left : List ℕ) → Begins x bytes left → bytes ≡ [] → ⊥
no_message x bytes left b none = stops_no_message open_end 0 [] x left no_bytes (subst (λ l. Begins x l left) none b)

-- with what is left to give it is the message's spelling
whole : {bytes : List ℕ} {s : Side} (w : Within bytes s) → Begins w.said (bytes ++ s.rest) []
whole {bytes} {s} w = record { spelled = w.spelled; are = sym w.are ∙ sym (append-nil (spelling w.said)) }

-- where nothing is left to give, the frame isn't unfinished
all_given : {bytes : List ℕ} {s : Side} (w : Within bytes s) → s.rest ≡ [] → IsUnfinished bytes → ⊥
all_given {bytes} {s} w none cut =
    stops_no_message open_end 0 bytes w.said [] cut (subst (λ l. Begins w.said l []) (ap (λ l. bytes ++ l) none ∙ append-nil bytes) (whole w))

both_empty : (a b : List ℕ) → a ++ b ≡ [] → (a ≡ []) × (b ≡ [])
both_empty [] b e = (refl, e)
both_empty (x ∷ a) b e = cc

-- the frame in front is the message that was handed over, and all of it
record IsSaid (x : Message) (left : List ℕ) (bytes : List ℕ) (s : Side) (w : Within bytes s) : Type 0 where
  same : x ≡ w.said
  between : Between left s

is_said : {bytes : List ℕ} {s : Side} (x : Message) (left : List ℕ) (w : Within bytes s) → Begins x bytes left → IsSaid x left bytes s w
is_said {bytes} {s} x left w b =
    let longer : Begins x (bytes ++ s.rest) (left ++ s.rest) = record { spelled = b.spelled; are = ap (λ l. l ++ s.rest) b.are ∙ append_assoc (spelling x) left s.rest } in
    let one = same_message x w.said (bytes ++ s.rest) (left ++ s.rest) [] longer (whole w) in
    record { same = one.0; between = both_empty left s.rest one.1 }

-- a link gives no bad frame, and none that is too long
never_bad : {bytes : List ℕ} {s : Side} → IsAt bytes s → BeginsBad bytes → ⊥
never_bad {bytes} {s} (inl between) bad = frame_not_unfinished [] (subst (λ l. BeginsBad l) between.0 bad).frame no_bytes
never_bad {bytes} {s} (inr w) bad = stops_no_message (bad_frame_at 0) 0 (bytes ++ s.rest) w.said [] (refl, longer_bad bytes s.rest bad) (whole w)

never_long : {bytes : List ℕ} {s : Side} → IsAt bytes s → BeginsTooLong bytes → ⊥
never_long {bytes} {s} (inl between) long = too_long_not_unfinished [] (subst (λ l. BeginsTooLong l) between.0 long) no_bytes
never_long {bytes} {s} (inr w) long = stops_no_message (too_long_at 0) 0 (bytes ++ s.rest) w.said [] (refl, longer_long bytes s.rest long) (whole w)

-- ---- a talk

-- over these bytes, a talk of the link's leads the pair to what serving it comes to
abbrev Follows : ℕ → Monitor → List ℕ → List Event → Talk → Type 0
Follows window m bytes talk served =
    (answers : List Who) (s s' : Side) (written : List ℕ) → s.unread ≡ [] → (i : IsAt bytes s) → Runs window answers s talk s' → Comes window (written ++ served.bytes) served.stopped answers (pair_at i m written)

-- bytes were given
given : (window : ℕ) (m : Monitor) (bytes piece : List ℕ) (talk : List Event) (served : Talk) → IsUnfinished bytes → piece ≢ [] → Follows window m (bytes ++ piece) talk served →
    (first others : List Who) (s at s' : Side) (written : List ℕ) → s.unread ≡ [] → (i : IsAt bytes s) → Gives window first s piece at → Runs window others at talk s' →
    Comes window (written ++ served.bytes) served.stopped (first ++ others) (pair_at i m written)
given window m bytes piece talk served cut some more first others s at s' written none (inl between) (inl gives) runs = absurd (some (both_empty piece at.rest (sym gives.rest ∙ between.1)).0)
given window m bytes piece talk served cut some more first others s at s' written none (inl between) (inr (inl gives)) runs =
    let are : spelling gives.said ≡ (bytes ++ piece) ++ at.rest = gives.rest ∙ ap (λ l. (l ++ piece) ++ at.rest) (sym between.0) in
    handed the_sides window (Comes window (written ++ served.bytes) served.stopped) (earlier window (written ++ served.bytes) served.stopped) first others s.slave_half at.slave_half m written gives.said gives.hands
    (more others at s' written (gives.unread ∙ none) (inr (record { said = gives.said; spelled = gives.spelled; are = are })) runs)
given window m bytes piece talk served cut some more first others s at s' written none (inr w) (inl gives) runs =
    let are : spelling w.said ≡ (bytes ++ piece) ++ at.rest = w.are ∙ ap (λ l. bytes ++ l) gives.rest ∙ sym (append_assoc bytes piece at.rest) in
    subst (λ (first : List Who). Comes window (written ++ served.bytes) served.stopped (first ++ others) (served_so s.slave_half written (serve m w.said))) (sym gives.unasked)
    (subst (λ h. Comes window (written ++ served.bytes) served.stopped others (served_so h written (serve m w.said))) gives.same
    (more others at s' written (gives.unread ∙ none) (inr (record { said = w.said; spelled = w.spelled; are = are })) runs))
given window m bytes piece talk served cut some more first others s at s' written none (inr w) (inr (inl gives)) runs = absurd (all_given w gives.between cut)
given window m bytes piece talk served cut some more first others s at s' written none i (inr (inr gives)) runs = absurd (some gives.none)

-- the message in front is served, and its reply taken
answered : (window : ℕ) (next : Monitor) (left out : List ℕ) (reply : Option ReplyBody) (talk : List Event) (rest : Talk) → IfSome reply IsSpelled → Follows window next left talk rest →
    (answers : List Who) (s s' : Side) (written : List ℕ) → s.unread ≡ [] → Between left s → Runs window answers s (sent_of reply ++ talk) s' →
    Comes window ((written ++ out) ++ rest.bytes) rest.stopped answers (served_so s.slave_half written (sides.goes_on next reply out))
answered window next left out None talk rest spelled more answers s s' written none between runs = more answers s s' (written ++ out) none (inl between) runs
answered window next left out (Some reply) talk rest spelled more answers s s' written none between runs =
    let at : Side = record { slave_half = half (the_sides.take reply s.slave_half.slave) s.slave_half.queue; rest = s.rest; unread = [] } in
    more answers at s' (written ++ out) refl (inl between) (subst (λ s. Runs window answers s talk s') (reply_heard reply s spelled none) runs)

-- what was served is what the link said
served_said : {bytes : List ℕ} {s : Side} (m : Monitor) (x : Message) (left : List ℕ) (w : Within bytes s) (r : Served Monitor ReplyBody End PeerRule) → IsSaid x left bytes s w → serve m x ≡ r → serve m w.said ≡ r
served_said m x left w r is e = ap (serve m) (sym is.same) ∙ e

-- none was given
heard_end : (window : ℕ) (m : Monitor) (bytes : List ℕ) → IsUnfinished bytes → (first others : List Who) (s at s' : Side) (written : List ℕ) → (i : IsAt bytes s) → Gives window first s [] at → (others ≡ []) × (s' ≡ at) →
    Comes window (written ++ []) still_open (first ++ others) (pair_at i m written)
heard_end window m bytes cut first others s at s' written i (inl gives) runs = absurd (gives.some refl)
heard_end window m bytes cut first others s at s' written i (inr (inl gives)) runs = absurd (gives.some refl)
heard_end window m bytes cut first others s at s' written (inl between) (inr (inr gives)) runs =
    subst (λ (answers : List Who). Comes window (written ++ []) still_open answers (goes_so s.slave_half m written)) (sym (append-nil first) ∙ ap (λ l. first ++ l) (sym runs.0))
    (ended the_sides window first s.slave_half at.slave_half m written gives.hands)
heard_end window m bytes cut first others s at s' written (inr w) (inr (inr gives)) runs = absurd (all_given w gives.between cut)

talks : (window : ℕ) (m : Monitor) (place : ℕ) (bytes : List ℕ) (talk : List Event) (served : Talk) → Serves m place bytes talk served → Follows window m bytes talk served
talks window m place bytes _ _ (asks {piece = piece} {talk = talk} {rest = rest} cut some more) answers s s' written none i (first, others, at, both, gives, runs) =
    subst (λ (answers : List Who). Comes window (written ++ rest.bytes) rest.stopped answers (pair_at i m written)) (sym both)
    (given window m bytes piece talk rest cut some (talks window m place (bytes ++ piece) talk rest more) first others s at s' written none i gives runs)
talks window m place bytes _ _ (goes_on {left = left} {x = x} b e spelled more) answers s s' written none (inl between) runs = absurd (no_message x bytes left b between.0)
talks window m place bytes _ _ (goes_on {m' = next} {left = left} {written = out} {x = x} {reply = reply} {talk = talk} {rest = rest} b e spelled more) answers s s' written none (inr w) runs =
    let is = is_said x left w b in
    subst (λ (l : List ℕ). Comes window l rest.stopped answers (served_so s.slave_half written (serve m w.said))) (append_assoc written out rest.bytes)
    (subst (λ (r : Served Monitor ReplyBody End PeerRule). Comes window ((written ++ out) ++ rest.bytes) rest.stopped answers (served_so s.slave_half written r)) (sym (served_said m x left w (sides.goes_on next reply out) is e))
    (answered window next left out reply talk rest spelled (talks window next (place + length (spelling x)) left talk rest more) answers s s' written none is.between runs))
talks window m place bytes _ _ (ends {left = left} {x = x} b e) answers s s' written none (inl between) runs = absurd (no_message x bytes left b between.0)
talks window m place bytes _ _ (ends {left = left} {written = out} {x = x} {end = end} b e) answers s s' written none (inr w) runs =
    let is = is_said x left w b in
    subst (λ (answers : List Who). IsWholeFrom the_sides window answers (served_so s.slave_half written (serve m w.said)) (written ++ out) end) (sym runs.0)
    (subst (λ (r : Served Monitor ReplyBody End PeerRule). IsWholeFrom the_sides window [] (served_so s.slave_half written r) (written ++ out) end) (sym (served_said m x left w (sides.ends out end) is e)) (refl, refl))
talks window m place bytes _ _ (breaks {left = left} {x = x} b e) answers s s' written none (inl between) runs = absurd (no_message x bytes left b between.0)
talks window m place bytes _ _ (breaks {left = left} {x = x} {rule = rule} b e) answers s s' written none (inr w) runs =
    let is = is_said x left w b in
    subst (λ (answers : List Who). Rests the_sides window (pair_from the_sides window answers (served_so s.slave_half written (serve m w.said)))) (sym runs.0)
    (subst (λ (r : Served Monitor ReplyBody End PeerRule). Rests the_sides window (served_so s.slave_half written r)) (sym (served_said m x left w (sides.bad rule) is e)) (tt {0}))
talks window m place bytes _ _ (is_bad bad) answers s s' written none i runs = absurd (never_bad i bad)
talks window m place bytes _ _ (is_too_long long) answers s s' written none i runs = absurd (never_long i long)
talks window m place bytes _ _ (hears_the_end cut) answers s s' written none i (first, others, at, both, gives, runs) =
    subst (λ (answers : List Who). Comes window (written ++ []) still_open answers (pair_at i m written)) (sym both) (heard_end window m bytes cut first others s at s' written i gives runs)

-- ---- behind a boot

comes : (window : ℕ) (answers : List Who) (x : Slave) (m : Monitor) (boot : List ℕ) (talk : List Event) (served : Talk) (s' : Side) → Runs window answers (begun x) (boot_talk boot ++ talk) s' → Serves m 0 [] talk served →
    Comes window served.bytes served.stopped answers (start x m)
comes window answers x m boot talk served s' runs serves =
    talks window m 0 [] talk served serves answers (begun x) s' [] refl (inl (refl, refl)) (boot_heard window answers x boot talk s' runs)

pub talks_are_whole : TalksAreWhole
talks_are_whole window answers x m boot talk served end s' runs serves is =
    subst (λ stopped. Comes window served.bytes stopped answers (start x m)) is (comes window answers x m boot talk served s' runs serves)

-- a pair that nothing moves comes to no end
never_rests : (window : ℕ) (answers : List Who) (x : Slave) (m : Monitor) → ComesToAnEnd x m window → Rests the_sides window (pair_from the_sides window answers (start x m)) → ⊥
never_rests window answers x m ends' rests =
    let more : List Who = replicate (suc ends'.0) parents in
    let long : ends'.0 < length (answers ++ more) = omega (arith, length-append answers more, length-replicate (suc ends'.0) parents) in
    let found = ends'.1 (answers ++ more) long in
    let on : Rests the_sides window (pair_from the_sides window (answers ++ more) (start x m)) =
    subst (λ p. Rests the_sides window p) (sym (steps_append the_sides window answers more (start x m))) (rests_on the_sides window more (pair_from the_sides window answers (start x m)) rests) in
    whole_moves the_sides window found.0 found.1 (start x m) found.3 found.4 found.5
    (subst (λ (answers : List Who). Rests the_sides window (pair_from the_sides window answers (start x m))) found.2 on)

pub talks_end : TalksEnd
talks_end window answers x m boot talk served s' ends' runs serves =
    let all = comes window answers x m boot talk served s' runs serves in (
      λ is. never_rests window answers x m ends' (subst (λ stopped. Comes window served.bytes stopped answers (start x m)) is all),
      λ rule place is. never_rests window answers x m ends' (subst (λ stopped. Comes window served.bytes stopped answers (start x m)) is all),
    )
