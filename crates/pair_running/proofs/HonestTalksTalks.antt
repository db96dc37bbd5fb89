-- A talk over an honest link is served to the expected end.
use Rattle.std.proofs.Common.{◌≡◌, ◌∙◌, ◌+◌, ℕ, List, [], ◌++◌, length, refl, sym, ap, append_assoc, Option, Some, None}
use Rattle.std.specs.Prelude.{⊤}
use Rattle.pt_base.specs.Talk.{Event}
use Rattle.runs.specs.Run.{Expected}
use Rattle.wire.specs.declared.message.ReplyBody.{ReplyBody}
use Rattle.wire.specs.Spelling.{spelling}
use Rattle.pt_core.specs.CodeTree.{BootTree}
use Rattle.pair_protocol.specs.Sides as sides
use Rattle.pair_meaning.specs.Monitors.{Monitor}
use Rattle.pair_meaning.specs.Peer.{boot_frames, is_form, says}
use Rattle.pair_meaning.specs.Streams.{at_end, Talk}
use Rattle.pair_runner.specs.Sending.{sent_of}
use Rattle.pair_runner.specs.Serves.{Serves, asks, goes_on, ends, breaks, is_bad, is_too_long, hears_the_end}
use Rattle.honest_link.specs.Talks.{Along}
use Rattle.pair_laws.specs.AwaitedRepliesLaws.{WhatIsSaidGrows}
use Rattle.pair_running.specs.HonestTalksLaws.{HonestTalksAreExpected, IsFairPair}
use Rattle.pair_running.proofs.HonestTalksForms.{boot_sent}
use Rattle.pair_running.proofs.HonestTalksFronts.{all_said, never_bad, never_long}
use Rattle.pair_running.proofs.HonestTalksStanding.{Stands, begins_there, sent_behind, rest_spelled, form_there, hears_there, all_there, goes_there, stops_there, never_over}

module _ (e : Expected) (b : BootTree) (first : Monitor) (fair : IsFairPair e b first) (grows : WhatIsSaidGrows) (boot : List ℕ) (After : List ℕ → List ℕ → Type 0) where
  abbrev At : Monitor → List ℕ → List ℕ → List ℕ → List ℕ → Type 0
  At m unserved sent given written = Stands b first m boot unserved sent given written

  abbrev Goes : List ℕ → List ℕ → List Event → Type 0
  Goes sent given talk = Along (says b) (is_form boot b) After sent given talk

  -- behind these bytes it ends as expected
  abbrev Ends : List ℕ → Talk → Type 0
  Ends written served = (served.stopped ≡ at_end e.end) × (written ++ served.bytes ≡ e.bytes)

  -- a reply may be sent, where there is one
  sent_then : (m : Monitor) (unserved sent given written : List ℕ) (reply : Option ReplyBody) (talk : List Event) → At m unserved (sent_behind sent reply) given written → Goes sent given (sent_of reply ++ talk) → Goes (sent_behind sent reply) given talk
  sent_then m unserved sent given written None talk s along = along
  sent_then m unserved sent given written (Some reply) talk s along = along (form_there e b first fair grows boot m unserved (sent_behind sent (Some reply)) given written s)

  follows : (m : Monitor) (place : ℕ) (unserved : List ℕ) (talk : List Event) (served : Talk) → Serves m place unserved talk served → (sent given written : List ℕ) → At m unserved sent given written → Goes sent given talk → Ends written served
  follows m place unserved _ _ (asks {piece = piece} {talk = talk} {rest = rest} cut some more) sent given written s along =
      follows m place (unserved ++ piece) talk rest more sent (given ++ piece) written (hears_there e b first fair grows boot m unserved sent given written s piece along.0) along.2
  follows m place unserved _ _ (goes_on {m' = next} {left = left} {written = out} {x = x} {reply = reply} {talk = talk} {rest = rest} begins is spelled more) sent given written s along =
      let s' = goes_there e b first fair grows boot m unserved sent given written s next left out x reply begins is spelled in
      let h = follows next (place + length (spelling x)) left talk rest more (sent_behind sent reply) given (written ++ out) s' (sent_then next left sent given (written ++ out) reply talk s' along) in
      (h.0, sym (append_assoc written out rest.bytes) ∙ h.1)
  follows m place unserved _ _ (ends {left = left} {written = out} {x = x} {end = end} begins is) sent given written s along =
      let h = stops_there e b first fair grows boot m unserved sent given written s left x (sides.ends out end) begins is refl in
      (ap at_end h.1, h.0)
  follows m place unserved _ _ (breaks {left = left} {x = x} {rule = rule} begins is) sent given written s along =
      absurd (stops_there e b first fair grows boot m unserved sent given written s left x (sides.bad rule) begins is refl)
  follows m place unserved _ _ (is_bad bad) sent given written s along =
      absurd (never_bad unserved s.rest (rest_spelled e b first fair grows boot m unserved sent given written s) s.front bad)
  follows m place unserved _ _ (is_too_long long) sent given written s along =
      absurd (never_long unserved s.rest (rest_spelled e b first fair grows boot m unserved sent given written s) s.front long)
  follows m place unserved _ _ (hears_the_end cut) sent given written s along =
      let all = all_there e b first fair grows boot m unserved sent given written s (along.1 refl) in
      absurd (never_over e b first fair grows boot m unserved sent given written s
      (all_said unserved s.rest (rest_spelled e b first fair grows boot m unserved sent given written s) all cut))

pub honest_talks : WhatIsSaidGrows → HonestTalksAreExpected
honest_talks grows e b m fair bytes talk served along serves =
    follows e b m fair grows bytes (λ sent given. ⊤) m 0 [] talk served serves (boot_frames bytes) [] [] (begins_there b m bytes) (boot_sent bytes b (λ sent given. ⊤) talk along)
