-- Two monitors that are given the same frames.
use Rattle.std.proofs.Common.{◌≡◌, ◌∙◌, ◌+◌, inl, inr, ℕ, ℤ, refl, ap, sym, subst, List, [], ◌∷◌, ◌++◌, length, Option}
use Rattle.std.proofs.lemmas.List.{append_assoc}
use Rattle.pt_base.specs.declared.end.End.{End}
use Rattle.wire.specs.declared.message.Message.{Message}
use Rattle.wire.specs.declared.message.ReplyBody.{ReplyBody}
use Rattle.wire.specs.Limits.{KeepsCounts}
use Rattle.wire.specs.Spelling.{spelling}
use Rattle.pair_protocol.specs.Sides.{goes_on, ends, bad}
use Rattle.pair_protocol.specs.SlaveRun.{listed}
use Rattle.pair_meaning.specs.LowView.{reply_of, told_by}
use Rattle.pair_meaning.specs.Monitors.{Monitor, Low, low}
use Rattle.pair_meaning.specs.Rules as rule
use Rattle.pair_meaning.specs.Rules.{PeerRule, Verdict, breaks, rules}
use Rattle.pair_meaning.specs.Serving.{serve}
use Rattle.pair_meaning.specs.Streams.{Talk, after_frame, at_end, at_rule, serve_frames}
use Rattle.monitor_soundness_law.specs.ServingSound.{IsSound}
use Rattle.low_views_law.specs.Unserved.{Outcome}
use Rattle.low_views_law.specs.Alike.{alike, first_stops, second_stops, GoAlike, TellTheSame, WhereBothGoOn}
use Rattle.low_views_law.specs.Laws.{FramesKeepCounts, StreamsAreLow}
use Rattle.low_views_law.proofs.Replies.{Follows, GoesOn, IsTold, serve_told, verdict_of}

-- ---- what two outcomes of one view and message have in common

-- both as the view tells
abbrev pub Told : Low → Message → Outcome → Type 0
Told view x o = Follows view x (rules view x) (verdict_of view x) o

pub serve_told_by : (view : Low) (m : Monitor) (x : Message) → view ≡ low m → IsSound m → KeepsCounts x → Told view x (serve m x)
serve_told_by view m x same sound counts = subst (λ (v : Low). Told v x (serve m x)) (sym same) (serve_told m x sound counts)

pub same_reply : (view : Low) (x : Message) (next next' : Monitor) (reply reply' : Option ReplyBody) (told told' : List ℤ) → IsTold view x (rules view x) next reply told → IsTold view x (rules view x) next' reply' told' → told ≡ told' → reply ≡ reply'
same_reply view x next next' reply reply' told told' h h' e = h.reply_is ∙ ap (reply_of view x) e ∙ sym h'.reply_is

same_end : (v : Verdict) (end end' : End) → v ≡ rule.ends end → v ≡ rule.ends end' → end ≡ end'
same_end v end end' e e' = cc

same_rule : (v : Verdict) (rule rule' : PeerRule) → v ≡ breaks rule → v ≡ breaks rule' → rule ≡ rule'
same_rule v rule rule' e e' = cc

never_ends : (v : Verdict) (end : End) → GoesOn v → v ≡ rule.ends end → ⊥
never_ends v end h e = subst GoesOn e h

never_breaks : (v : Verdict) (rule : PeerRule) → GoesOn v → v ≡ breaks rule → ⊥
never_breaks v rule h e = subst GoesOn e h

not_both : (v : Verdict) (end : End) (broken : PeerRule) → v ≡ rule.ends end → v ≡ breaks broken → ⊥
not_both v end broken e e' = cc

-- ---- talks

later : (reply reply' : Option ReplyBody) (bytes bytes' : List ℕ) (a b : Talk) → reply ≡ reply' → GoAlike a b →
    GoAlike (record { bytes = bytes ++ a.bytes; replies = listed reply ++ a.replies; stopped = a.stopped }) (record { bytes = bytes' ++ b.bytes; replies = listed reply' ++ b.replies; stopped = b.stopped })
later reply reply' bytes bytes' a b e (alike replies stopped) = alike (ap (λ o. listed o ++ a.replies) e ∙ ap (λ rs. listed reply' ++ rs) replies) stopped
later reply reply' bytes bytes' a b e (first_stops end own stopped rest replies) =
    first_stops end own stopped rest (ap (λ o. listed o ++ b.replies) (sym e) ∙ ap (λ rs. listed reply ++ rs) replies ∙ sym (append_assoc (listed reply) a.replies rest))
later reply reply' bytes bytes' a b e (second_stops end own stopped rest replies) =
    second_stops end own stopped rest (ap (λ o. listed o ++ a.replies) e ∙ ap (λ rs. listed reply' ++ rs) replies ∙ sym (append_assoc (listed reply') b.replies rest))

pub streams_are_low : StreamsAreLow
streams_are_low m m' [] ending sound sound' same counts told = alike refl refl
streams_are_low m m' (x ∷ frames) ending sound sound' same counts told =
    go (serve m x.0) (serve m' x.0) (serve_told m x.0 sound counts.0) (serve_told_by (low m) m' x.0 same sound' counts.0) told
    (λ next next' sound sound' same told. streams_are_low next next' frames ending sound sound' same counts.1 told)
  where
    go : (o o' : Outcome) → Told (low m) x.0 o → Told (low m) x.0 o' → WhereBothGoOn o o' (λ next next'. (told_by o ≡ told_by o') × TellTheSame next next' frames) →
        ((next next' : Monitor) → IsSound next → IsSound next' → low next ≡ low next' → TellTheSame next next' frames → GoAlike (serve_frames next frames ending) (serve_frames next' frames ending)) →
        GoAlike (after_frame x.1 o (λ m. serve_frames m frames ending)) (after_frame x.1 o' (λ m. serve_frames m frames ending))
    go (goes_on next reply bytes) (goes_on next' reply' bytes') h h' told rest =
        later reply reply' bytes bytes' (serve_frames next frames ending) (serve_frames next' frames ending)
        (same_reply (low m) x.0 next next' reply reply' (told_by (goes_on next reply bytes)) (told_by (goes_on next' reply' bytes')) h.1 h'.1 told.0)
        (rest next next' h.1.sound h'.1.sound (h.1.view_is ∙ sym h'.1.view_is) told.1)
    go (goes_on next reply bytes) (ends bytes' end) h (inl e) told rest = absurd (never_ends (verdict_of (low m) x.0) end h.0 e)
    go (goes_on next reply bytes) (ends bytes' end) h (inr own) told rest = second_stops end own refl (listed reply ++ (serve_frames next frames ending).replies) refl
    go (goes_on next reply bytes) (bad rule) h e told rest = absurd (never_breaks (verdict_of (low m) x.0) rule h.0 e)
    go (ends bytes end) (goes_on next' reply' bytes') (inl e) h' told rest = absurd (never_ends (verdict_of (low m) x.0) end h'.0 e)
    go (ends bytes end) (goes_on next' reply' bytes') (inr own) h' told rest = first_stops end own refl (listed reply' ++ (serve_frames next' frames ending).replies) refl
    go (ends bytes end) (ends bytes' end') (inl e) (inl e') told rest = alike refl (ap at_end (same_end (verdict_of (low m) x.0) end end' e e'))
    go (ends bytes end) (ends bytes' end') (inl e) (inr own) told rest = second_stops end' own refl [] refl
    go (ends bytes end) (ends bytes' end') (inr own) h' told rest = first_stops end own refl [] refl
    go (ends bytes end) (bad rule) (inl e) e' told rest = absurd (not_both (verdict_of (low m) x.0) end rule e e')
    go (ends bytes end) (bad rule) (inr own) e' told rest = first_stops end own refl [] refl
    go (bad rule) (goes_on next' reply' bytes') e h' told rest = absurd (never_breaks (verdict_of (low m) x.0) rule h'.0 e)
    go (bad rule) (ends bytes' end') e (inl e') told rest = absurd (not_both (verdict_of (low m) x.0) end' rule e' e)
    go (bad rule) (ends bytes' end') e (inr own) told rest = second_stops end' own refl [] refl
    go (bad rule) (bad rule') e e' told rest = alike refl (ap (λ broken. at_rule broken x.1) (same_rule (verdict_of (low m) x.0) rule rule' e e'))

-- ---- frames of bytes

pub frames_keep_counts : FramesKeepCounts
frames_keep_counts at bytes [] ending h = tt
frames_keep_counts at bytes (x ∷ frames) ending h = (h.1.spelled.keeps.counts, frames_keep_counts (at + length (spelling x.0)) h.0 frames ending h.3)
