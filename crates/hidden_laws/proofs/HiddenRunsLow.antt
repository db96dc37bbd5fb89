-- What a peer sees of two runs.
use Rattle.std.proofs.Common.{◌≡◌, ◌∙◌, ℕ, List, [], ◌∷◌, ◌++◌, refl, sym, ap, subst, append_assoc}
use Rattle.std.proofs.lemmas.Grind.{flat_map-append}
use Rattle.boot_fields.specs.Limits.{Spells}
use Rattle.pt_base.specs.declared.end.End.{End}
use Rattle.pt_base.specs.Told.{IsFrontOf}
use Rattle.wire.specs.declared.message.Message.{Message}
use Rattle.wire.specs.declared.message.ReplyBody.{ReplyBody}
use Rattle.wire.specs.Frames.{Ending, open_end}
use Rattle.pt_core.specs.CodeTree.{BootTree}
use Rattle.pair_protocol.specs.Sides.{Served, goes_on, ends, bad}
use Rattle.pair_protocol.specs.SlaveRun.{listed}
use Rattle.pair_meaning.specs.Monitors.{Monitor}
use Rattle.pair_meaning.specs.Peer.{boot_frames}
use Rattle.pair_meaning.specs.Rules.{PeerRule}
use Rattle.pair_meaning.specs.Serving.{serve}
use Rattle.pair_meaning.specs.Streams.{Talk, after_frame, serve_frames}
use Rattle.pair_runner.specs.Sending.{reply_frame, reply_frames}
use Rattle.low_views_law.specs.Alike as low
use Rattle.low_views_law.specs.Alike.{GoAlike, KeepCounts}
use Rattle.low_views_law.specs.Laws.{FramesKeepCounts, StreamsAreLow}
use Rattle.hidden_laws.specs.HiddenRunsLaws.{FirstPartsAreLow, RunsAreLow, RunsServeStreams}
use Rattle.hidden_laws.specs.HiddenRunsRuns.{AreSeenAlike, alike, first_stops, frames_of, second_stops}

one_spelling : (b : BootTree) (x y : List ℕ) → Spells b x → Spells b y → x ≡ y
unfolding Spells
one_spelling b x y h k = h.1 ∙ sym k.1

-- with more replies more is sent
more_frames : (boot : List ℕ) (a c : Talk) (rest : List ReplyBody) → c.replies ≡ a.replies ++ rest → IsFrontOf (frames_of boot a) (frames_of boot c)
more_frames boot a c rest are = (
  reply_frames rest,
  ap (λ (l : List ReplyBody). boot_frames boot ++ reply_frames l) are ∙ ap (λ (l : List ℕ). boot_frames boot ++ l) (flat_map-append reply_frame a.replies rest)
      ∙ sym (append_assoc (boot_frames boot) (reply_frames a.replies) (reply_frames rest)),
)

seen_alike : (boot sent sent' : List ℕ) (a c : Talk) → sent ≡ frames_of boot a → sent' ≡ frames_of boot c → GoAlike a c → AreSeenAlike sent sent' a.stopped c.stopped
seen_alike boot sent sent' a c is is' (low.alike replies stopped) = alike (is ∙ ap (λ (l : List ReplyBody). boot_frames boot ++ reply_frames l) replies ∙ sym is') stopped
seen_alike boot sent sent' a c is is' (low.first_stops end own stopped rest more) =
    first_stops end own stopped (subst (λ (l : List ℕ). IsFrontOf l sent') (sym is) (subst (λ (l : List ℕ). IsFrontOf (frames_of boot a) l) (sym is') (more_frames boot a c rest more)))
seen_alike boot sent sent' a c is is' (low.second_stops end own stopped rest more) =
    second_stops end own stopped (subst (λ (l : List ℕ). IsFrontOf l sent) (sym is') (subst (λ (l : List ℕ). IsFrontOf (frames_of boot c) l) (sym is) (more_frames boot c a rest more)))

pub runs_low : FramesKeepCounts → StreamsAreLow → RunsServeStreams → RunsAreLow
runs_low counts streams serve_streams b m m' sound sound' same stream frames ending is tell run run' =
    let one = serve_streams b m stream run frames ending is in
    let other = serve_streams b m' stream run' frames ending is in
    let go = streams m m' frames ending sound sound' same (counts 0 stream frames ending is) tell in
    seen_alike run.boot _ _ run.served run'.served one.sends (other.sends ∙ ap (λ (boot : List ℕ). frames_of boot run'.served) (one_spelling b run'.boot run.boot run'.spelled run.spelled))
    (subst (λ (a : Talk). GoAlike a run'.served) one.comes_to (subst (λ (c : Talk). GoAlike (serve_frames m frames ending) c) other.comes_to go))

-- ---- the first frames

abbrev First : List ReplyBody → List ReplyBody → Type 0
First xs ys = (rest : List ReplyBody) × (ys ≡ xs ++ rest)

first_replies : (m : Monitor) (front back : List (Message × ℕ)) (ending : Ending) → First (serve_frames m front open_end).replies (serve_frames m (front ++ back) ending).replies
first_replies m [] back ending = ((serve_frames m back ending).replies, refl)
first_replies m (x ∷ front) back ending = go (λ n. first_replies n front back ending) (serve m x.0)
  where
    go : ((n : Monitor) → First (serve_frames n front open_end).replies (serve_frames n (front ++ back) ending).replies) → (s : Served Monitor ReplyBody End PeerRule) →
        First (after_frame x.1 s (λ n. serve_frames n front open_end)).replies (after_frame x.1 s (λ n. serve_frames n (front ++ back) ending)).replies
    go more (goes_on next reply bytes) =
        let f = more next in
        (f.0, ap (λ (l : List ReplyBody). listed reply ++ l) f.1 ∙ sym (append_assoc (listed reply) (serve_frames next front open_end).replies f.0))
    go more (ends bytes end) = ([], refl)
    go more (bad rule) = ([], refl)

first_counts : (front back : List (Message × ℕ)) → KeepCounts (front ++ back) → KeepCounts front
first_counts [] back all = tt {0}
first_counts (x ∷ front) back all = (all.0, first_counts front back all.1)

sent_first : (boot sent : List ℕ) (m : Monitor) (front back : List (Message × ℕ)) (ending : Ending) (served : Talk) → serve_frames m (front ++ back) ending ≡ served → sent ≡ frames_of boot served →
    IsFrontOf (frames_of boot (serve_frames m front open_end)) sent
sent_first boot sent m front back ending served is sends =
    let f = first_replies m front back ending in
    subst (λ (l : List ℕ). IsFrontOf (frames_of boot (serve_frames m front open_end)) l) (ap (frames_of boot) is ∙ sym sends)
    (more_frames boot (serve_frames m front open_end) (serve_frames m (front ++ back) ending) f.0 f.1)

pub first_low : FramesKeepCounts → StreamsAreLow → RunsServeStreams → FirstPartsAreLow
first_low counts streams serve_streams b m m' sound sound' same stream front back ending is tell run run' =
    let one = serve_streams b m stream run (front ++ back) ending is in
    let other = serve_streams b m' stream run' (front ++ back) ending is in
    record {
      boot = one_spelling b run.boot run'.boot run.spelled run'.spelled;
      replies = streams m m' front open_end sound sound' same (first_counts front back (counts 0 stream (front ++ back) ending is)) tell;
      first = sent_first run.boot _ m front back ending run.served one.comes_to one.sends;
      second = sent_first run'.boot _ m' front back ending run'.served other.comes_to other.sends;
    }
