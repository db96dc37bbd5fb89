-- How far a monitor has served what an honest slave said, and sent it replies.
use Rattle.std.proofs.Common.{◌≡◌, ◌∙◌, ℕ, List, [], ◌∷◌, ◌++◌, refl, sym, ap, subst, append_assoc, append-nil, Bool, true, false, Option, Some, None}
use Rattle.std.specs.Prelude.{IfSome, IsTrue}
use Rattle.std.specs.List.{AllByRecursion}
use Rattle.std.proofs.lemmas.Grind.{flat_map-append}
use Rattle.std.proofs.lemmas.List.{append_cancel_left}
use Rattle.pt_base.specs.declared.end.End.{End}
use Rattle.pt_base.specs.Told.{IsFrontOf}
use Rattle.runs.specs.Run.{Expected}
use Rattle.wire.specs.declared.message.Message.{Message}
use Rattle.wire.specs.declared.message.ReplyBody.{ReplyBody}
use Rattle.wire.specs.Frames.{Begins}
use Rattle.wire.specs.Spelling.{spelling}
use Rattle.pt_core.specs.CodeTree.{BootTree}
use Rattle.pair_protocol.specs.Serving.{All, all, after, IsExpected}
use Rattle.pair_protocol.specs.Sides.{Served, goes_on}
use Rattle.pair_protocol.specs.SlaveRun.{listed}
use Rattle.pair_meaning.specs.Monitors.{Monitor}
use Rattle.pair_meaning.specs.Pair.{said, serve_all}
use Rattle.pair_meaning.specs.Peer.{are_awaited, boot_frames, is_form, says}
use Rattle.pair_meaning.specs.Rules.{PeerRule}
use Rattle.pair_meaning.specs.Serving.{serve}
use Rattle.pair_runner.specs.Sending.{IsSpelled, reply_frame, reply_frames}
use Rattle.pair_laws.specs.AwaitedRepliesLaws.{WhatIsSaidGrows}
use Rattle.slave_soundness_law.specs.MessagesLaws.{AllAreSpelled}
use Rattle.pair_running.specs.HonestTalksLaws.{IsFairPair}
use Rattle.pair_running.proofs.HonestTalksCutting.{replies_in_are}
use Rattle.pair_running.proofs.HonestTalksForms.{replies_have_form}
use Rattle.pair_running.proofs.HonestTalksFronts.{AreFront, all_behind, next_is, spellings}

abbrev Served' : Type 0
Served' = Served Monitor ReplyBody End PeerRule

abbrev Comes : Type 0
Comes = All Monitor ReplyBody End PeerRule

-- these replies and bytes, and then the rest
abbrev pub then_all : List ReplyBody → List ℕ → Comes → Comes
then_all replies written rest = all (replies ++ rest.replies) (written ++ rest.bytes) rest.stop

-- The first monitor has come to this one, which was given these bytes, hasn't served the last of them, and sent and wrote those.
pub record Stands (b : BootTree) (first m : Monitor) (boot unserved sent given written : List ℕ) : Type 0 where
  -- what was served, and replied
  pub done : List Message
  pub replies : List ReplyBody
  -- what the slave says beyond
  pub rest : List Message
  pub served : (xs : List Message) → serve_all first (done ++ xs) ≡ then_all replies written (serve_all m xs)
  pub said_so : said b replies ≡ done ++ rest
  pub front : AreFront unserved rest
  pub given_so : given ≡ spellings done ++ unserved
  pub sent_so : sent ≡ boot_frames boot ++ reply_frames replies
  pub sendable : AllByRecursion IsSpelled replies

pub begins_there : (b : BootTree) (m : Monitor) (boot : List ℕ) → Stands b m m boot [] (boot_frames boot) [] []
begins_there b m boot = record {
  done = [];
  replies = [];
  rest = said b [];
  served = λ xs. refl;
  said_so = refl;
  front = (spellings (said b []), refl);
  given_so = refl;
  sent_so = sym (append-nil (boot_frames boot));
  sendable = tt {0};
}

-- ---- lists

spelled_more : (done : List Message) (x : Message) (left : List ℕ) → spellings (done ++ x ∷ []) ++ left ≡ spellings done ++ (spelling x ++ left)
spelled_more done x left =
    ap (λ l. l ++ left) (flat_map-append spelling done (x ∷ []) ∙ ap (λ l. spellings done ++ l) (append-nil (spelling x))) ∙ append_assoc (spellings done) (spelling x) left

-- behind a reply, where there is one
abbrev pub sent_behind : List ℕ → Option ReplyBody → List ℕ
sent_behind sent None = sent
sent_behind sent (Some reply) = sent ++ reply_frame reply

sent_frames : (sent : List ℕ) (reply : Option ReplyBody) → sent_behind sent reply ≡ sent ++ reply_frames (listed reply)
sent_frames sent None = sym (append-nil sent)
sent_frames sent (Some reply) = ap (λ l. sent ++ l) (sym (append-nil (reply_frame reply)))

more_sendable : (replies : List ReplyBody) (reply : Option ReplyBody) → AllByRecursion IsSpelled replies → IfSome reply IsSpelled → AllByRecursion IsSpelled (replies ++ listed reply)
more_sendable [] None all one = tt {0}
more_sendable [] (Some reply) all one = (one, tt {0})
more_sendable (r ∷ replies) reply all one = (all.0, more_sendable replies reply all.1 one)

then_twice : (replies more : List ReplyBody) (written out : List ℕ) (rest : Comes) → then_all replies written (then_all more out rest) ≡ then_all (replies ++ more) (written ++ out) rest
then_twice replies more written out rest = λ i. all (sym (append_assoc replies more rest.replies) i) (sym (append_assoc written out rest.bytes) i) rest.stop

-- ---- what is known there

module _ (e : Expected) (b : BootTree) (first : Monitor) (fair : IsFairPair e b first) (grows : WhatIsSaidGrows) (boot : List ℕ) (m : Monitor) (unserved sent given written : List ℕ) (s : Stands b first m boot unserved sent given written) where
  served_replies : (serve_all first s.done).replies ≡ s.replies
  served_replies = ap (λ l. (serve_all first l).replies) (sym (append-nil s.done)) ∙ ap (λ (a : Comes). a.replies) (s.served []) ∙ append-nil s.replies

  -- the replies were each awaited
  awaited_there : are_awaited b [] s.replies ≡ true
  awaited_there = ap (are_awaited b []) (sym served_replies) ∙ fair.awaited s.done s.rest (ap (said b) served_replies ∙ s.said_so)

  pub rest_spelled : AllAreSpelled s.rest
  rest_spelled = all_behind s.done s.rest (subst AllAreSpelled s.said_so (fair.spelled s.replies))

  -- what was sent has the form
  pub form_there : IsTrue (is_form boot b sent)
  form_there = subst (λ l. IsTrue (is_form boot b l)) (sym s.sent_so) (replies_have_form boot b s.replies s.sendable awaited_there)

  -- what the slave says to it is what was served and the rest
  says_there : says b sent ≡ spellings s.done ++ spellings s.rest
  says_there =
      ap (says b) s.sent_so ∙ ap (λ replies. spellings (said b replies)) (replies_in_are boot s.replies s.sendable) ∙ ap spellings s.said_so ∙ flat_map-append spelling s.done s.rest

  -- ---- bytes are given

  pub hears_there : (piece : List ℕ) → IsFrontOf (given ++ piece) (says b sent) → Stands b first m boot (unserved ++ piece) sent (given ++ piece) written
  hears_there piece f =
      let given' : given ++ piece ≡ spellings s.done ++ (unserved ++ piece) = ap (λ l. l ++ piece) s.given_so ∙ append_assoc (spellings s.done) unserved piece in
      let whole : spellings s.done ++ spellings s.rest ≡ spellings s.done ++ ((unserved ++ piece) ++ f.0) =
      sym says_there ∙ f.1 ∙ ap (λ l. l ++ f.0) given' ∙ append_assoc (spellings s.done) (unserved ++ piece) f.0 in
      record {
        done = s.done;
        replies = s.replies;
        rest = s.rest;
        served = s.served;
        said_so = s.said_so;
        front = (f.0, append_cancel_left (spellings s.done) (spellings s.rest) ((unserved ++ piece) ++ f.0) whole);
        given_so = given';
        sent_so = s.sent_so;
        sendable = s.sendable;
      }

  -- all of it
  pub all_there : given ++ [] ≡ says b sent → spellings s.rest ≡ unserved
  all_there whole = append_cancel_left (spellings s.done) (spellings s.rest) unserved (sym says_there ∙ sym whole ∙ append-nil given ∙ s.given_so)

  -- ---- a message is served

  said_next : (x : Message) (others : List Message) → s.rest ≡ x ∷ others → said b s.replies ≡ (s.done ++ x ∷ []) ++ others
  said_next x others is = s.said_so ∙ ap (λ l. s.done ++ l) is ∙ sym (append_assoc s.done (x ∷ []) others)

  served_next : (x : Message) (r : Served') → serve m x ≡ r → (xs : List Message) → serve_all first (s.done ++ x ∷ xs) ≡ then_all s.replies written (after r (λ m. serve_all m xs))
  served_next x r is xs = s.served (x ∷ xs) ∙ ap (λ (r : Served'). then_all s.replies written (after r (λ m. serve_all m xs))) is

  pub goes_there : (next : Monitor) (left out : List ℕ) (x : Message) (reply : Option ReplyBody) → Begins x unserved left → serve m x ≡ goes_on next reply out → IfSome reply IsSpelled →
      Stands b first next boot left (sent_behind sent reply) given (written ++ out)
  goes_there next left out x reply begins is spelled =
      let n = next_is x unserved left s.rest rest_spelled s.front begins in
      let g = grows b s.replies (listed reply) in
      record {
        done = s.done ++ x ∷ [];
        replies = s.replies ++ listed reply;
        rest = n.0 ++ g.0;
        served = λ xs.
            ap (serve_all first) (append_assoc s.done (x ∷ []) xs) ∙ served_next x (goes_on next reply out) is xs
            ∙ then_twice s.replies (listed reply) written out (serve_all next xs);
        said_so = g.1 ∙ ap (λ l. l ++ g.0) (said_next x n.0 n.1) ∙ append_assoc (s.done ++ x ∷ []) n.0 g.0;
        front = (n.2.0 ++ spellings g.0, flat_map-append spelling n.0 g.0 ∙ ap (λ l. l ++ spellings g.0) n.2.1 ∙ append_assoc left n.2.0 (spellings g.0));
        given_so = s.given_so ∙ ap (λ l. spellings s.done ++ l) begins.are ∙ sym (spelled_more s.done x left);
        sent_so = sent_frames sent reply ∙ ap (λ l. l ++ reply_frames (listed reply)) s.sent_so ∙ append_assoc (boot_frames boot) (reply_frames s.replies) (reply_frames (listed reply))
            ∙ ap (λ l. boot_frames boot ++ l) (sym (flat_map-append reply_frame s.replies (listed reply)));
        sendable = more_sendable s.replies reply s.sendable spelled;
      }

  -- ---- where it stops

  -- serving these messages comes to what is expected
  concludes : (xs rest : List Message) (at_end : Bool) (a : Comes) → serve_all first xs ≡ a → said b a.replies ≡ xs ++ rest → (at_end ≡ true → rest ≡ []) → IsExpected e.bytes e.end at_end a
  concludes xs rest at_end a is says' whole =
      subst (IsExpected e.bytes e.end at_end) is
      (fair.expected.honest xs at_end (record { rest = rest; first = sym says' ∙ ap (λ (a : Comes). said b a.replies) (sym is); whole = whole }))

  -- a message behind which it doesn't go on is served as expected
  pub stops_there : (left : List ℕ) (x : Message) (r : Served') → Begins x unserved left → serve m x ≡ r → (after r (λ m. serve_all m [])).replies ≡ [] →
      IsExpected e.bytes e.end false (then_all s.replies written (after r (λ m. serve_all m [])))
  stops_there left x r begins is none =
      let n = next_is x unserved left s.rest rest_spelled s.front begins in
      concludes (s.done ++ x ∷ []) n.0 false (then_all s.replies written (after r (λ m. serve_all m []))) (served_next x r is [])
      (ap (said b) (ap (λ l. s.replies ++ l) none ∙ append-nil s.replies) ∙ said_next x n.0 n.1) (λ e. cc)

  -- where all is served and the peer's end has come, that isn't expected
  pub never_over : s.rest ≡ [] → ⊥
  never_over none =
      let expected = concludes (s.done ++ []) [] true (then_all s.replies written (serve_all m [])) (s.served [])
      (ap (said b) (append-nil s.replies) ∙ s.said_so ∙ ap (λ l. s.done ++ l) none ∙ sym (append-nil (s.done ++ []))) (λ e. refl) in
      clash expected.0
    where
      clash : true ≡ false → ⊥
      clash e = cc
