-- What a talk comes to is what the frames of its bytes come to.
use Rattle.std.proofs.Common.{◌≡◌, ℕ, ◌+◌, List, [], ◌∷◌, ◌++◌, length, Option, refl, sym, ap, subst, ◌∙◌, append_assoc, append-nil}
use Rattle.pt_base.specs.declared.end.End.{End}
use Rattle.pt_base.specs.Talk.{Event}
use Rattle.wire.specs.declared.message.Message.{Message}
use Rattle.wire.specs.declared.message.ReplyBody.{ReplyBody}
use Rattle.wire.specs.Frames.{Begins, Ending, open_end, bad_frame_at, too_long_at, Stops, IsStream}
use Rattle.wire.specs.Spelling.{spelling}
use Rattle.wire.proofs.StreamLaws.{same_message, stops_no_message, streams_once}
use Rattle.pair_protocol.specs.Sides as sides
use Rattle.pair_protocol.specs.Sides.{Served}
use Rattle.pair_protocol.specs.SlaveRun.{listed}
use Rattle.pair_meaning.specs.Monitors.{Monitor}
use Rattle.pair_meaning.specs.Rules.{PeerRule}
use Rattle.pair_meaning.specs.Serving.{serve}
use Rattle.pair_meaning.specs.Streams.{at_end, at_rule, Talk, after_frame, serve_frames}
use Rattle.pair_runner.specs.Sending.{given_in, sent_in, reply_frames}
use Rattle.pair_runner.specs.Serves.{stops, before, Serves, asks, goes_on, ends, breaks, is_bad, is_too_long, hears_the_end}
use Rattle.pair_runner.proofs.Moving.{given_reply, sent_reply}
use Rattle.std.proofs.lemmas.Grind.{flat_map-append}
use Rattle.wire.proofs.RunLaws.{begins_more}

-- the frames of bytes that begin with a message begin with it
pub first_is : (x : Message) (at : ℕ) (bytes left : List ℕ) (frames : List (Message × ℕ)) (ending : Ending) → Begins x bytes left → IsStream at bytes frames ending →
    (more : List (Message × ℕ)) × (frames ≡ (x, at) ∷ more) × IsStream (at + length (spelling x)) left more ending
first_is x at bytes left [] ending b s = absurd (stops_no_message ending at bytes x left s b)
first_is x at bytes left (f ∷ more) ending b s =
    let same = same_message f.0 x bytes s.0 left s.1 b in (
      more,
      λ i. (same.0 i, s.2 i) ∷ more,
      subst (λ (y : Message). IsStream (at + length (spelling y)) left more ending) same.0 (subst (λ rest. IsStream (at + length (spelling f.0)) rest more ending) same.1 s.3),
    )

-- ---- the first frame is served

pub goes_first : (m next : Monitor) (x : Message) (at : ℕ) (more : List (Message × ℕ)) (ending : Ending) (reply : Option ReplyBody) (written : List ℕ) → serve m x ≡ sides.goes_on next reply written →
    serve_frames m ((x, at) ∷ more) ending ≡ before written (listed reply) (serve_frames next more ending)
goes_first m next x at more ending reply written e = ap (λ (s : Served Monitor ReplyBody End PeerRule). after_frame at s (λ m. serve_frames m more ending)) e

pub ends_first : (m : Monitor) (x : Message) (at : ℕ) (more : List (Message × ℕ)) (ending : Ending) (written : List ℕ) (end : End) → serve m x ≡ sides.ends written end →
    serve_frames m ((x, at) ∷ more) ending ≡ stops written (at_end end)
ends_first m x at more ending written end e = ap (λ (s : Served Monitor ReplyBody End PeerRule). after_frame at s (λ m. serve_frames m more ending)) e

pub breaks_first : (m : Monitor) (x : Message) (at : ℕ) (more : List (Message × ℕ)) (ending : Ending) (rule : PeerRule) → serve m x ≡ sides.bad rule →
    serve_frames m ((x, at) ∷ more) ending ≡ stops [] (at_rule rule at)
breaks_first m x at more ending rule e = ap (λ (s : Served Monitor ReplyBody End PeerRule). after_frame at s (λ m. serve_frames m more ending)) e

-- there is no frame
pub stops_there : (m : Monitor) (at : ℕ) (bytes : List ℕ) (frames : List (Message × ℕ)) (ending last : Ending) → Stops last at bytes → IsStream at (bytes ++ []) frames ending →
    serve_frames m frames ending ≡ serve_frames m [] last
stops_there m at bytes frames ending last so s =
    let once = streams_once frames [] ending last at bytes (subst (λ l. IsStream at l frames ending) (append-nil bytes) s) so in
    ap (λ f. serve_frames m f ending) once.0 ∙ ap (serve_frames m []) once.1

pub talks_are_frames : (m : Monitor) (at : ℕ) (bytes : List ℕ) (talk : List Event) (served : Talk) (frames : List (Message × ℕ)) (ending : Ending) →
    Serves m at bytes talk served → IsStream at (bytes ++ given_in talk) frames ending → serve_frames m frames ending ≡ served
talks_are_frames m at bytes _ _ frames ending (asks {piece = piece} {talk = talk} {rest = rest} cut some more) s =
    talks_are_frames m at (bytes ++ piece) talk rest frames ending more (subst (λ l. IsStream at l frames ending) (sym (append_assoc bytes piece (given_in talk))) s)
talks_are_frames m at bytes _ _ frames ending (goes_on {m' = next} {left = left} {written = written} {x = x} {reply = reply} {talk = talk} {rest = rest} b e spelled more) s =
    let found = first_is x at (bytes ++ given_in talk) (left ++ given_in talk) frames ending (begins_more x bytes left (given_in talk) b) (subst (λ l. IsStream at (bytes ++ l) frames ending) (given_reply reply talk) s) in
    ap (λ f. serve_frames m f ending) found.1 ∙ goes_first m next x at found.0 ending reply written e
    ∙ ap (before written (listed reply)) (talks_are_frames next (at + length (spelling x)) left talk rest found.0 ending more found.2)
talks_are_frames m at bytes _ _ frames ending (ends {left = left} {written = written} {x = x} {end = end} b e) s =
    let found = first_is x at (bytes ++ []) (left ++ []) frames ending (begins_more x bytes left [] b) s in
    ap (λ f. serve_frames m f ending) found.1 ∙ ends_first m x at found.0 ending written end e
talks_are_frames m at bytes _ _ frames ending (breaks {left = left} {x = x} {rule = rule} b e) s =
    let found = first_is x at (bytes ++ []) (left ++ []) frames ending (begins_more x bytes left [] b) s in
    ap (λ f. serve_frames m f ending) found.1 ∙ breaks_first m x at found.0 ending rule e
talks_are_frames m at bytes _ _ frames ending (is_bad b) s = stops_there m at bytes frames ending (bad_frame_at at) (refl, b) s
talks_are_frames m at bytes _ _ frames ending (is_too_long b) s = stops_there m at bytes frames ending (too_long_at at) (refl, b) s
talks_are_frames m at bytes _ _ frames ending (hears_the_end cut) s = stops_there m at bytes frames ending open_end cut s

-- what is sent is the replies
pub talks_reply : (m : Monitor) (at : ℕ) (bytes : List ℕ) (talk : List Event) (served : Talk) → Serves m at bytes talk served → sent_in talk ≡ reply_frames served.replies
talks_reply m at bytes _ _ (asks {piece = piece} {talk = talk} {rest = rest} cut some more) = talks_reply m at (bytes ++ piece) talk rest more
talks_reply m at bytes _ _ (goes_on {m' = next} {left = left} {x = x} {reply = reply} {talk = talk} {rest = rest} b e spelled more) =
    sent_reply reply talk ∙ ap (λ l. reply_frames (listed reply) ++ l) (talks_reply next (at + length (spelling x)) left talk rest more)
    ∙ sym (flat_map-append _ (listed reply) rest.replies)
talks_reply m at bytes _ _ (ends b e) = refl
talks_reply m at bytes _ _ (breaks b e) = refl
talks_reply m at bytes _ _ (is_bad b) = refl
talks_reply m at bytes _ _ (is_too_long b) = refl
talks_reply m at bytes _ _ (hears_the_end cut) = refl
