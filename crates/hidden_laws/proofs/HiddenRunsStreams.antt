-- A run comes to what the frames of its peer's whole stream come to.
use Rattle.std.proofs.Common.{◌≡◌, ◌∙◌, ℕ, ◌+◌, List, [], ◌∷◌, ◌++◌, drop, length, refl, sym, ap, subst, append_assoc, append-nil}
use Rattle.pt_base.specs.Talk.{Event}
use Rattle.wire.specs.declared.message.Message.{Message}
use Rattle.wire.specs.Frames.{BeginsBad, BeginsTooLong, Ending, IsStream, Stops, bad_frame_at, open_end, too_long_at}
use Rattle.wire.specs.Spelling.{four_bytes, spelling}
use Rattle.wire.proofs.StreamLaws.{streams_once}
use Rattle.wire.proofs.RunLaws.{begins_more}
use Rattle.pair_protocol.specs.SlaveRun.{listed}
use Rattle.pair_meaning.specs.Monitors.{Monitor}
use Rattle.pair_meaning.specs.Peer.{boot_frames}
use Rattle.pair_meaning.specs.Streams.{still_open, Talk, serve_frames}
use Rattle.pair_runner.specs.Sending.{boot_talk, given_in, sent_in}
use Rattle.pair_runner.specs.Serves.{Serves, asks, before, breaks, ends, goes_on, hears_the_end, is_bad, is_too_long}
use Rattle.pair_runner.proofs.Frames.{breaks_first, ends_first, first_is, goes_first, talks_reply}
use Rattle.pair_runner.proofs.Moving.{given_reply, sent_append}
use Rattle.pair_runner.proofs.Pieces.{boot_sent}
use Rattle.hidden_laws.specs.HiddenRunsLaws.{RunsServeStreams}

-- ---- frames that stop stop so with more bytes behind them

longer_bad : (bytes more : List ℕ) → BeginsBad bytes → BeginsBad (bytes ++ more)
longer_bad bytes more bad =
    let body : List ℕ = bad.frame.body in
    let front : List ℕ = four_bytes (length body) in
    record {
      frame = record {
        body = body;
        rest = bad.frame.rest ++ more;
        are = ap (λ (l : List ℕ). l ++ more) bad.frame.are ∙ append_assoc front (body ++ bad.frame.rest) more ∙ ap (λ (l : List ℕ). front ++ l) (append_assoc body bad.frame.rest more);
        in_range = bad.frame.in_range;
      };
      no_message = bad.no_message;
    }

longer_long : (bytes more : List ℕ) → BeginsTooLong bytes → BeginsTooLong (bytes ++ more)
longer_long bytes more long =
    record { size = long.size; rest = long.rest ++ more; are = ap (λ (l : List ℕ). l ++ more) long.are ∙ append_assoc (four_bytes long.size) long.rest more; fits = long.fits; over = long.over }

stops_there : (m : Monitor) (at : ℕ) (bytes : List ℕ) (frames : List (Message × ℕ)) (ending last : Ending) → Stops last at bytes → IsStream at bytes frames ending → serve_frames m frames ending ≡ serve_frames m [] last
stops_there m at bytes frames ending last so s =
    let once = streams_once frames [] ending last at bytes s so in
    ap (λ (f : List (Message × ℕ)). serve_frames m f ending) once.0 ∙ ap (serve_frames m []) once.1

-- ---- a talk that was given a first part of a stream, and all of it where it is open

stream_served : (m : Monitor) (at : ℕ) (bytes : List ℕ) (talk : List Event) (served : Talk) (rest : List ℕ) (frames : List (Message × ℕ)) (ending : Ending) → Serves m at bytes talk served →
    (served.stopped ≡ still_open → rest ≡ []) → IsStream at (bytes ++ (given_in talk ++ rest)) frames ending → serve_frames m frames ending ≡ served
stream_served m at bytes _ _ rest frames ending (asks {piece = piece} {talk = talk} {rest = served} cut some more) whole s =
    stream_served m at (bytes ++ piece) talk served rest frames ending more whole
    (subst (λ (l : List ℕ). IsStream at l frames ending) (ap (λ (l : List ℕ). bytes ++ l) (append_assoc piece (given_in talk) rest) ∙ sym (append_assoc bytes piece (given_in talk ++ rest))) s)
stream_served m at bytes _ _ rest frames ending (goes_on {m' = next} {left = left} {written = written} {x = x} {reply = reply} {talk = talk} {rest = served} b e spelled more) whole s =
    let behind : List ℕ = given_in talk ++ rest in
    let found = first_is x at (bytes ++ behind) (left ++ behind) frames ending (begins_more x bytes left behind b)
    (subst (λ (l : List ℕ). IsStream at (bytes ++ (l ++ rest)) frames ending) (given_reply reply talk) s) in
    ap (λ (f : List (Message × ℕ)). serve_frames m f ending) found.1 ∙ goes_first m next x at found.0 ending reply written e
    ∙ ap (before written (listed reply)) (stream_served next (at + length (spelling x)) left talk served rest found.0 ending more whole found.2)
stream_served m at bytes _ _ rest frames ending (ends {left = left} {written = written} {x = x} {end = end} b e) whole s =
    let found = first_is x at (bytes ++ rest) (left ++ rest) frames ending (begins_more x bytes left rest b) s in
    ap (λ (f : List (Message × ℕ)). serve_frames m f ending) found.1 ∙ ends_first m x at found.0 ending written end e
stream_served m at bytes _ _ rest frames ending (breaks {left = left} {x = x} {rule = rule} b e) whole s =
    let found = first_is x at (bytes ++ rest) (left ++ rest) frames ending (begins_more x bytes left rest b) s in
    ap (λ (f : List (Message × ℕ)). serve_frames m f ending) found.1 ∙ breaks_first m x at found.0 ending rule e
stream_served m at bytes _ _ rest frames ending (is_bad b) whole s = stops_there m at (bytes ++ rest) frames ending (bad_frame_at at) (refl, longer_bad bytes rest b) s
stream_served m at bytes _ _ rest frames ending (is_too_long b) whole s = stops_there m at (bytes ++ rest) frames ending (too_long_at at) (refl, longer_long bytes rest b) s
stream_served m at bytes _ _ rest frames ending (hears_the_end cut) whole s =
    stops_there m at bytes frames ending open_end cut
    (subst (λ (l : List ℕ). IsStream at l frames ending) (ap (λ (l : List ℕ). bytes ++ l) (whole refl) ∙ append-nil bytes) s)

-- ---- a run

no_more : (given rest : List ℕ) → given ≡ given ++ rest → rest ≡ []
no_more [] rest e = sym e
no_more (x ∷ given) rest e = no_more given rest (ap (drop 1) e)

pub runs_serve : RunsServeStreams
runs_serve b m stream run frames ending s = record {
  comes_to = stream_served m 0 [] run.talk run.served run.given.0 frames ending run.serves (λ stays. no_more (given_in run.talk) run.given.0 (run.whole stays ∙ run.given.1))
      (subst (λ (l : List ℕ). IsStream 0 l frames ending) run.given.1 s);
  sends = sent_append (boot_talk run.boot) run.talk ∙ ap (λ (l : List ℕ). l ++ sent_in run.talk) (boot_sent run.boot)
      ∙ ap (λ (l : List ℕ). boot_frames run.boot ++ l) (talks_reply m 0 [] run.talk run.served run.serves);
}
