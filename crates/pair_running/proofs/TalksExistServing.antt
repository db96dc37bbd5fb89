-- A talk with a peer that gives what its slave says goes on to the expected end.
use Rattle.std.proofs.Common.{◌≡◌, ◌∙◌, ◌+◌, ◌<◌, ◌≤◌, ◌⊎◌, inl, inr, ℕ, zero, suc, List, [], ◌∷◌, ◌++◌, length, take, drop, map, refl, sym, ap, subst, arith, append_assoc, append-nil, true, Option, Some, None}
use Rattle.std.specs.Prelude.{IfSome}
use Rattle.std.specs.List.{AllByRecursion, flat_map}
use Rattle.std.proofs.lemmas.Bool.{cases_lt}
use Rattle.std.proofs.lemmas.Grind.{flat_map-append}
use Rattle.std.proofs.lemmas.List.{append_cancel_left, drop_at}
use Rattle.pt_base.specs.declared.end.End.{End}
use Rattle.pt_base.specs.Talk.{Event, gave}
use Rattle.pt_base.specs.Told.{IsFrontOf}
use Rattle.runs.specs.Run.{Expected}
use Rattle.wire.specs.declared.message.Message.{Message}
use Rattle.wire.specs.declared.message.Message.TheVariants as message
use Rattle.wire.specs.declared.message.ReplyBody.{ReplyBody}
use Rattle.wire.specs.Frames.{Begins}
use Rattle.wire.specs.Limits.{Spells}
use Rattle.wire.specs.Spelling.{spelling}
use Rattle.pt_core.specs.CodeTree.{BootTree}
use Rattle.pair_protocol.specs.Serving.{All, after}
use Rattle.pair_protocol.specs.Sides as sides
use Rattle.pair_protocol.specs.Sides.{Served}
use Rattle.pair_protocol.specs.SlaveRun.{listed}
use Rattle.pair_meaning.specs.Monitors.{Monitor}
use Rattle.pair_meaning.specs.Pair.{said, serve_all}
use Rattle.pair_meaning.specs.Peer.{are_awaited, boot_frames, says}
use Rattle.pair_meaning.specs.Rules.{PeerRule}
use Rattle.pair_meaning.specs.Serving.{serve}
use Rattle.pair_meaning.specs.Streams.{at_end, Talk}
use Rattle.pair_runner.specs.Sending.{IsSpelled, boot_pieces, boot_talk, piece_sent, sent_of}
use Rattle.pair_runner.specs.Serves as serving
use Rattle.pair_runner.specs.Serves.{Serves, before, stops}
use Rattle.pair_runner.proofs.Counting.{Progress, passes, progress}
use Rattle.pair_laws.specs.AwaitedRepliesLaws.{WhatIsSaidGrows}
use Rattle.slave_soundness_law.specs.MessagesLaws.{AllAreSpelled}
use Rattle.pair_running.specs.HonestTalksLaws.{IsFairPair}
use Rattle.pair_running.proofs.HonestTalksCutting.{replies_in_are}
use Rattle.pair_running.proofs.HonestTalksFronts.{next_is, spellings}
use Rattle.pair_running.proofs.HonestTalksStanding.{Stands, begins_there, goes_there, hears_there, never_over, rest_spelled, sent_behind, stops_there, then_all}
use Rattle.pair_running.specs.TalksExistLaws.{AwaitedRepliesAreSpelled, FairPairsHaveTalks, HasTalk, SayingIsHonest}
use Rattle.pair_running.specs.TalksExistPeers.{GivesWhatIsSaid}
use Rattle.pair_running.proofs.TalksExistHonest.{front_is, none_taken}
use Rattle.pair_running.proofs.TalksExistPieces.{begins_with, fewer, more_follow, unfinished}

-- from there a talk goes on to the expected end
record GoesOn (sizes : ℕ → ℕ) (e : Expected) (b : BootTree) (m : Monitor) (place : ℕ) (unserved sent given written : List ℕ) : Type 0 where
  talk : List Event
  served : Talk
  gives : GivesWhatIsSaid sizes b sent given talk
  serves : Serves m place unserved talk served
  stopped_so : served.stopped ≡ at_end e.end
  written_so : written ++ served.bytes ≡ e.bytes

last_spelled : (replies : List ReplyBody) (reply : Option ReplyBody) → AllByRecursion IsSpelled (replies ++ listed reply) → IfSome reply IsSpelled
last_spelled [] None all = tt {0}
last_spelled [] (Some reply) all = all.0
last_spelled (r ∷ replies) reply all = last_spelled replies reply all.1

gives_behind : (sizes : ℕ → ℕ) (b : BootTree) (sent given : List ℕ) (reply : Option ReplyBody) (talk : List Event) → GivesWhatIsSaid sizes b (sent_behind sent reply) given talk →
    GivesWhatIsSaid sizes b sent given (sent_of reply ++ talk)
gives_behind sizes b sent given None talk gives = gives
gives_behind sizes b sent given (Some reply) talk gives = gives

abbrev piece_frame : List ℕ → List ℕ
piece_frame piece = spelling (message.Boot piece)

-- pieces of a boot are sent before
boot_before : (sizes : ℕ → ℕ) (b : BootTree) (talk : List Event) (pieces : List (List ℕ)) (sent given : List ℕ) → GivesWhatIsSaid sizes b (sent ++ flat_map piece_frame pieces) given talk →
    GivesWhatIsSaid sizes b sent given (map piece_sent pieces ++ talk)
boot_before sizes b talk [] sent given gives = subst (λ (l : List ℕ). GivesWhatIsSaid sizes b l given talk) (append-nil sent) gives
boot_before sizes b talk (piece ∷ pieces) sent given gives =
    boot_before sizes b talk pieces (sent ++ piece_frame piece) given
    (subst (λ (l : List ℕ). GivesWhatIsSaid sizes b l given talk) (sym (append_assoc sent (piece_frame piece) (flat_map piece_frame pieces))) gives)

module _ (e : Expected) (b : BootTree) (first : Monitor) (fair : IsFairPair e b first) (grows : WhatIsSaidGrows)
    (spelled : (replies : List ReplyBody) → are_awaited b [] replies ≡ true → AllByRecursion IsSpelled replies) (boot : List ℕ) (sizes : ℕ → ℕ) where
  abbrev At : Monitor → List ℕ → List ℕ → List ℕ → List ℕ → Type 0
  At m unserved sent given written = Stands b first m boot unserved sent given written

  -- so it does from wherever this monitor goes on
  abbrev Onward : Monitor → Type 0
  Onward m = (next : Monitor) → Progress m next → (place : ℕ) (unserved sent given written : List ℕ) → At next unserved sent given written → GoesOn sizes e b next place unserved sent given written

  -- ---- a message is served

  -- its reply is one that was waited for
  reply_spelled : (m next : Monitor) (unserved sent given written left out : List ℕ) (s : At m unserved sent given written) (x : Message) (reply : Option ReplyBody) → Begins x unserved left →
      serve m x ≡ sides.goes_on next reply out → IfSome reply IsSpelled
  reply_spelled m next unserved sent given written left out s x reply begins is =
      let n = next_is x unserved left s.rest (rest_spelled e b first fair grows boot m unserved sent given written s) s.front begins in
      let g = grows b s.replies (listed reply) in
      let all = s.served (x ∷ []) ∙ ap (λ (r : Served Monitor ReplyBody End PeerRule). then_all s.replies written (after r (λ m. serve_all m []))) is in
      let replies : (serve_all first (s.done ++ x ∷ [])).replies ≡ s.replies ++ listed reply = ap (λ (a : All Monitor ReplyBody End PeerRule). a.replies) all ∙ ap (λ (l : List ReplyBody). s.replies ++ l) (append-nil (listed reply)) in
      let said_so : said b (serve_all first (s.done ++ x ∷ [])).replies ≡ (s.done ++ x ∷ []) ++ (n.0 ++ g.0) =
      ap (said b) replies ∙ g.1 ∙ ap (λ (l : List Message). l ++ g.0) (s.said_so ∙ ap (λ (l : List Message). s.done ++ l) n.1 ∙ sym (append_assoc s.done (x ∷ []) n.0))
      ∙ append_assoc (s.done ++ x ∷ []) n.0 g.0 in
      last_spelled s.replies reply (spelled (s.replies ++ listed reply) (ap (are_awaited b []) (sym replies) ∙ fair.awaited (s.done ++ x ∷ []) (n.0 ++ g.0) said_so))

  serves_next : (m : Monitor) → Onward m → (place : ℕ) (unserved sent given written left : List ℕ) → At m unserved sent given written → (x : Message) → Begins x unserved left →
      (r : Served Monitor ReplyBody End PeerRule) → serve m x ≡ r → GoesOn sizes e b m place unserved sent given written
  serves_next m onward place unserved sent given written left s x begins (sides.goes_on next reply out) is =
      let can = reply_spelled m next unserved sent given written left out s x reply begins is in
      let there = goes_there e b first fair grows boot m unserved sent given written s next left out x reply begins is can in
      let rest = onward next (progress m x next reply out (passes m x next reply out is)) (place + length (spelling x)) left (sent_behind sent reply) given (written ++ out) there in
      record {
        talk = sent_of reply ++ rest.talk;
        served = before out (listed reply) rest.served;
        gives = gives_behind sizes b sent given reply rest.talk rest.gives;
        serves = serving.goes_on begins is can rest.serves;
        stopped_so = rest.stopped_so;
        written_so = sym (append_assoc written out rest.served.bytes) ∙ rest.written_so;
      }
  serves_next m onward place unserved sent given written left s x begins (sides.ends out end) is =
      let so = stops_there e b first fair grows boot m unserved sent given written s left x (sides.ends out end) begins is refl in
      record { talk = []; served = stops out (at_end end); gives = tt {0}; serves = serving.ends begins is; stopped_so = ap at_end so.1; written_so = so.0 }
  serves_next m onward place unserved sent given written left s x begins (sides.bad rule) is =
      absurd (stops_there e b first fair grows boot m unserved sent given written s left x (sides.bad rule) begins is refl)

  -- ---- more is given

  -- what is said is what was given, and what is left of it
  says_there : (m : Monitor) (unserved sent given written : List ℕ) (s : At m unserved sent given written) → says b sent ≡ given ++ s.front.0
  says_there m unserved sent given written s =
      ap (says b) s.sent_so ∙ ap (λ (replies : List ReplyBody). spellings (said b replies)) (replies_in_are boot s.replies s.sendable) ∙ ap spellings s.said_so
      ∙ flat_map-append spelling s.done s.rest ∙ ap (λ (l : List ℕ). spellings s.done ++ l) s.front.1 ∙ sym (append_assoc (spellings s.done) unserved s.front.0)
      ∙ ap (λ (l : List ℕ). l ++ s.front.0) (sym s.given_so)

  -- so it does behind a piece, of which fewer bytes are left
  abbrev Behind : (m : Monitor) (place : ℕ) (unserved sent given written : List ℕ) → At m unserved sent given written → Type 0
  Behind m place unserved sent given written s =
      (piece : List ℕ) (f : IsFrontOf (given ++ piece) (says b sent)) → length f.0 < length s.front.0 → GoesOn sizes e b m place (unserved ++ piece) sent (given ++ piece) written

  gives_next : (m : Monitor) (place : ℕ) (unserved sent given written : List ℕ) (s : At m unserved sent given written) → Behind m place unserved sent given written s → (x : Message) (rest : List ℕ) →
      Spells x (spelling x) → spelling x ++ rest ≡ unserved ++ s.front.0 → length unserved < length (spelling x) → GoesOn sizes e b m place unserved sent given written
  gives_next m place unserved sent given written s behind x rest spells are short =
      let left : List ℕ = s.front.0 in
      let n : ℕ = sizes (length given) in
      let piece : List ℕ = take (suc n) left in
      let said_so = says_there m unserved sent given written s in
      let some = more_follow x unserved left rest are short in
      let go = behind piece (drop (suc n) left, front_is (suc n) given left (says b sent) said_so) (fewer n left some) in
      record {
        talk = gave piece ∷ go.talk;
        served = go.served;
        gives = (sym (ap (λ (l : List ℕ). take (suc n) (drop (length given) l)) said_so ∙ ap (take (suc n)) (drop_at given left (length given) refl)), go.gives);
        serves = serving.asks (unfinished x unserved left rest spells are short) (λ none. nothing (none_taken n left none) some) go.serves;
        stopped_so = go.stopped_so;
        written_so = go.written_so;
      }
    where
      nothing : {xs : List ℕ} → xs ≡ [] → 0 < length xs → ⊥
      nothing {xs} none some = no_less (subst (λ (l : List ℕ). 0 < length l) none some)
        where
          no_less : 0 < 0 → ⊥
          no_less lt = omega (arith, lt)

  turn : (m : Monitor) → Onward m → (place : ℕ) (unserved sent given written : List ℕ) (s : At m unserved sent given written) → Behind m place unserved sent given written s →
      GoesOn sizes e b m place unserved sent given written
  turn m onward place unserved sent given written s behind = go s.rest refl (rest_spelled e b first fair grows boot m unserved sent given written s)
    where
      by_length : (x : Message) (others : List Message) → Spells x (spelling x) → spelling x ++ spellings others ≡ unserved ++ s.front.0 →
          (length unserved < length (spelling x)) ⊎ (length (spelling x) ≤ length unserved) → GoesOn sizes e b m place unserved sent given written
      by_length x others spells are (inl short) = gives_next m place unserved sent given written s behind x (spellings others) spells are short
      by_length x others spells are (inr long) =
          serves_next m onward place unserved sent given written (drop (length (spelling x)) unserved) s x (begins_with x unserved s.front.0 (spellings others) spells are long) (serve m x) refl

      go : (rest : List Message) → s.rest ≡ rest → AllAreSpelled s.rest → GoesOn sizes e b m place unserved sent given written
      go [] none all = absurd (never_over e b first fair grows boot m unserved sent given written s none)
      go (x ∷ others) is all =
          let one = (subst AllAreSpelled is all).0 in
          by_length x others (record { fits = one.1.fits; keeps = one.1.keeps; are = refl }) (ap spellings (sym is) ∙ s.front.1) (cases_lt (length unserved) (length (spelling x)))

  -- as long as the monitor asks, fewer bytes are left of what is said
  asks : (m : Monitor) → Onward m → (k place : ℕ) (unserved sent given written : List ℕ) (s : At m unserved sent given written) → length s.front.0 ≤ k → GoesOn sizes e b m place unserved sent given written
  asks m onward zero place unserved sent given written s few = turn m onward place unserved sent given written s (λ piece f less. absurd (omega (arith, few, less)))
  asks m onward (suc k) place unserved sent given written s few =
      turn m onward place unserved sent given written s
      (λ piece f less.
      let there = hears_there e b first fair grows boot m unserved sent given written s piece f in
      let same : there.front.0 ≡ f.0 = append_cancel_left (given ++ piece) there.front.0 f.0 (sym (says_there m (unserved ++ piece) sent (given ++ piece) written there) ∙ f.1) in
      asks m onward k place (unserved ++ piece) sent (given ++ piece) written there (omega (arith, few, less, ap (λ (l : List ℕ). length l) same)))

  -- each message behind which it goes on takes a turn of its budget
  goes : (n : ℕ) (m : Monitor) → m.budget ≤ n + (m.last + m.turns) → (place : ℕ) (unserved sent given written : List ℕ) (s : At m unserved sent given written) → GoesOn sizes e b m place unserved sent given written
  goes zero m few place unserved sent given written s =
      asks m (λ next p. let before = p.before in absurd (omega (arith, few, before))) (length s.front.0) place unserved sent given written s (omega arith)
  goes (suc n) m few place unserved sent given written s =
      asks m
      (λ next p. let more = p.more in let same : next.budget ≡ m.budget = p.same in goes n next (omega (arith, few, more, same)))
      (length s.front.0) place unserved sent given written s (omega arith)

  pub talk_of : SayingIsHonest → HasTalk sizes e b first boot
  talk_of honest =
      let so = goes first.budget first (omega arith) 0 [] (boot_frames boot) [] [] (begins_there b first boot) in
      let gives = boot_before sizes b so.talk (boot_pieces boot) [] [] so.gives in
      record {
        talk = so.talk;
        served = so.served;
        gives = gives;
        honest = honest sizes b boot (boot_talk boot ++ so.talk) gives;
        serves = so.serves;
        stops = so.stopped_so;
        writes = so.written_so;
      }

pub fair_talks : AwaitedRepliesAreSpelled → SayingIsHonest → WhatIsSaidGrows → FairPairsHaveTalks
fair_talks spelled honest grows e b m fair bytes spells well sizes = talk_of e b m fair grows (λ replies is. spelled b bytes spells well replies is) bytes sizes honest
