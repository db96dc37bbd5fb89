-- What the monitor sends has the form of what may be sent.
use Rattle.std.proofs.Common.{◌≡◌, ◌∙◌, ℕ, List, [], ◌∷◌, ◌++◌, length, take, map, refl, sym, ap, subst, append_assoc, append-nil, true}
use Rattle.std.specs.Prelude.{IsTrue}
use Rattle.std.specs.List.{AllByRecursion, flat_map}
use Rattle.std.proofs.lemmas.List.{take_at, drop_at}
use Rattle.std.proofs.lemmas.Slice.Eq.{bytes_eq-Decides}
use Rattle.std.proofs.lemmas.Bool.{and_from, or_left, or_right}
use Rattle.pt_base.specs.Talk.{Event}
use Rattle.wire.specs.declared.message.Message.TheVariants as message
use Rattle.wire.specs.declared.message.ReplyBody.{ReplyBody}
use Rattle.wire.specs.Spelling.{spelling}
use Rattle.pt_core.specs.CodeTree.{BootTree}
use Rattle.pair_meaning.specs.Peer.{cut, begins, boot_frames, are_awaited, are_replies, are_its_replies, is_form, says, reply_in}
use Rattle.pair_runner.specs.Sending.{IsSpelled, boot_pieces, boot_talk, piece_sent, reply_frames}
use Rattle.honest_link.specs.Talks.{Along}
use Rattle.pair_running.proofs.HonestTalksCutting.{cut_to, reply_messages, replies_cut, same_replies}

begins_itself : (xs more : List ℕ) → begins xs (xs ++ more) ≡ true
begins_itself xs more = (bytes_eq-Decides (take (length xs) (xs ++ more)) xs).1 (take_at xs more (length xs) refl)

-- ---- a part of the boot

part_has_form : (bytes : List ℕ) (b : BootTree) (sent more : List ℕ) → boot_frames bytes ≡ sent ++ more → IsTrue (is_form bytes b sent)
part_has_form bytes b sent more are =
    or_left (begins sent (boot_frames bytes)) _ (ap (begins sent) are ∙ begins_itself sent more)

abbrev piece_frame : List ℕ → List ℕ
piece_frame piece = spelling (message.Boot piece)

-- behind the pieces a talk goes on
pieces_sent : (bytes : List ℕ) (b : BootTree) (After : List ℕ → List ℕ → Type 0) (talk : List Event) (pieces : List (List ℕ)) (sent given : List ℕ) → boot_frames bytes ≡ sent ++ flat_map piece_frame pieces →
    Along (says b) (is_form bytes b) After sent given (map piece_sent pieces ++ talk) → Along (says b) (is_form bytes b) After (sent ++ flat_map piece_frame pieces) given talk
pieces_sent bytes b After talk [] sent given are along = subst (λ l. Along (says b) (is_form bytes b) After l given talk) (sym (append-nil sent)) along
pieces_sent bytes b After talk (piece ∷ pieces) sent given are along =
    let rest = flat_map piece_frame pieces in
    let assoc = append_assoc sent (piece_frame piece) rest in
    let are' : boot_frames bytes ≡ (sent ++ piece_frame piece) ++ rest = are ∙ sym assoc in
    subst (λ l. Along (says b) (is_form bytes b) After l given talk) assoc
    (pieces_sent bytes b After talk pieces (sent ++ piece_frame piece) given are' (along (part_has_form bytes b (sent ++ piece_frame piece) rest are')))

pub boot_sent : (bytes : List ℕ) (b : BootTree) (After : List ℕ → List ℕ → Type 0) (talk : List Event) → Along (says b) (is_form bytes b) After [] [] (boot_talk bytes ++ talk) →
    Along (says b) (is_form bytes b) After (boot_frames bytes) [] talk
boot_sent bytes b After talk along = pieces_sent bytes b After talk (boot_pieces bytes) [] [] refl along

-- ---- replies

only_replies : (replies : List ReplyBody) → are_replies (reply_messages replies) ≡ true
only_replies [] = refl
only_replies (reply ∷ replies) = only_replies replies

its_replies : (b : BootTree) (replies : List ReplyBody) → are_awaited b [] replies ≡ true → are_its_replies b (cut_to (reply_messages replies) []) ≡ true
its_replies b replies awaited =
    and_from (are_replies (reply_messages replies)) _ (only_replies replies)
    (and_from (are_awaited b [] (flat_map reply_in (reply_messages replies))) _ (ap (are_awaited b []) (same_replies replies) ∙ awaited) refl)

-- the boot, and then replies that were awaited
pub replies_have_form : (bytes : List ℕ) (b : BootTree) (replies : List ReplyBody) → AllByRecursion IsSpelled replies → are_awaited b [] replies ≡ true → IsTrue (is_form bytes b (boot_frames bytes ++ reply_frames replies))
replies_have_form bytes b replies spelled awaited =
    let boot = boot_frames bytes in
    let sent = boot ++ reply_frames replies in
    or_right (begins sent boot) _
    (and_from (begins boot sent) _ (begins_itself boot (reply_frames replies))
    (ap (λ l. are_its_replies b (cut l)) (drop_at boot (reply_frames replies) (length boot) refl) ∙ ap (are_its_replies b) (replies_cut replies spelled) ∙ its_replies b replies awaited))
