-- What is sent is heard as it was said.
use Rattle.std.proofs.Common.{◌≡◌, ◌∙◌, ◌<◌, ◌≤◌, ℕ, zero, suc, List, [], ◌∷◌, ◌++◌, length, take, drop, map, refl, ap, subst, arith, Bool, true, false, Option, Some, None, length-append, length-take, length-drop}
use Rattle.std.specs.Prelude.{if◌then◌else◌, nat_le, nat_lt, ◌||◌, option_map}
use Rattle.std.proofs.lemmas.Bool.{le-ltb, le-leb, leb-true, leb-false}
use Rattle.std.proofs.lemmas.List.{take_all, drop_all}
use Rattle.pt_base.specs.Talk.{Event}
use Rattle.wire.specs.declared.message.Message.{Message}
use Rattle.wire.specs.declared.message.Message.TheVariants as message
use Rattle.wire.specs.declared.message.ReplyBody.{ReplyBody}
use Rattle.wire.specs.Limits.{longest_payload, longest_piece}
use Rattle.wire.specs.Reading.{payload_of, boot_of}
use Rattle.wire.specs.Spelling.{four_bytes, payload, spelling}
use Rattle.wire.proofs.Fields.{field32}
use Rattle.wire.proofs.PayloadLaws.{payload_again}
use Rattle.wire.proofs.Sizes.{length-four_bytes}
use Rattle.pair_protocol.specs.Links.{half}
use Rattle.pair_protocol.specs.Pair.{Who}
use Rattle.pair_meaning.specs.Peer.{framed, framed_by, frame_at, Cut, cut_by, cut_within, cut, pieces_within}
use Rattle.pair_meaning.specs.SlaveRun.{Slave}
use Rattle.pair_meaning.specs.SlaveRun as slave
use Rattle.pair_runner.specs.Sending.{reply_frame, IsSpelled, piece_sent, boot_pieces, boot_talk}
use Rattle.pair_meaning.specs.LinkTalks.{Side, begun, heard, all_heard, hears, Runs}

-- ---- frames

-- the payload is read as this message, and isn't too long
record IsRead (m : Message) : Type 0 where
  short : length (payload m) ≤ longest_payload
  again : payload_of (payload m) ≡ Some m

whole_frame : (m : Message) → IsRead m → framed (length (payload m)) (payload m) ≡ Some (m, [])
whole_frame m read =
    let p = payload m in
    let none : List ℕ → Bool → Option (Message × List ℕ) = λ body over. if over then None else option_map (λ m. (m, drop (length p) p)) (payload_of body) in
    ap (λ over. none (take (length p) p) (over || nat_lt (length p) (length p))) (le-ltb longest_payload (length p) read.short)
    ∙ ap (none (take (length p) p)) (le-ltb (length p) (length p) (omega arith))
    ∙ ap (λ body. none body false) (take_all (length p) p (omega arith))
    ∙ ap (option_map (λ m. (m, drop (length p) p))) read.again
    ∙ ap (λ rest. Some (m, rest)) (drop_all (length p) p (omega arith))

frame_is : (m : Message) → IsRead m → frame_at (spelling m) ≡ Some (m, [])
frame_is m read =
    let short : length (payload m) ≤ longest_payload = read.short in
    ap framed_by (field32.again (length (payload m)) (payload m) (omega (arith, short))) ∙ whole_frame m read

abbrev cut_to : List Message → List ℕ → Cut
cut_to messages rest = record { messages = messages; rest = rest }

cut_none : (n : ℕ) → cut_within n [] ≡ cut_to [] []
cut_none zero = refl
cut_none (suc n) = refl

cut_one : (m : Message) → IsRead m → cut (spelling m) ≡ cut_to (m ∷ []) []
cut_one m read = go (length (spelling m)) (omega (arith, length-append (four_bytes (length (payload m))) (payload m), length-four_bytes (length (payload m))))
  where
    go : (n : ℕ) → 0 < n → cut_within n (spelling m) ≡ cut_to (m ∷ []) []
    go zero some = absurd (omega (arith, some))
    go (suc n) some = ap (λ found. cut_by (spelling m) found (cut_within n)) (frame_is m read) ∙ ap (λ c. cut_to (m ∷ c.messages) c.rest) (cut_none n)

-- ---- a frame is heard

abbrev pub side_of : Side → Message → Side
side_of s m = record { slave_half = heard m s.slave_half; rest = s.rest; unread = [] }

abbrev with_cut : Side → Cut → Side
with_cut s c = record { slave_half = all_heard c.messages s.slave_half; rest = s.rest; unread = c.rest }

hears_one : (m : Message) (s : Side) → IsRead m → s.unread ≡ [] → hears (spelling m) s ≡ side_of s m
hears_one m s read none = ap (λ unread. with_cut s (cut (unread ++ spelling m))) none ∙ ap (with_cut s) (cut_one m read)

-- a reply is taken
pub reply_heard : (reply : ReplyBody) (s : Side) → IsSpelled reply → s.unread ≡ [] →
    hears (reply_frame reply) s ≡ record { slave_half = half (slave.take reply s.slave_half.slave) s.slave_half.queue; rest = s.rest; unread = [] }
reply_heard reply s spelled none =
    hears_one (message.Reply reply) s (record { short = spelled.keeps.payload; again = payload_again (message.Reply reply) spelled.fits spelled.keeps }) none

-- ---- a boot is passed over

abbrev IsShort : List ℕ → Type 0
IsShort piece = length piece ≤ longest_piece

abbrev AreShort : List (List ℕ) → Type 0
AreShort [] = Unit {0}
AreShort (piece ∷ pieces) = IsShort piece × AreShort pieces

piece_again : (piece : List ℕ) → IsShort piece → payload_of (payload (message.Boot piece)) ≡ Some (message.Boot piece)
unfolding payload_of boot_of
piece_again piece short = rw (le-leb _ _ short) refl

piece_heard : (piece : List ℕ) (x : Slave) → IsShort piece → hears (spelling (message.Boot piece)) (begun x) ≡ begun x
piece_heard piece x short =
    let few : length piece ≤ longest_piece = short in
    hears_one (message.Boot piece) (begun x) (record { short = omega (arith, few); again = piece_again piece short }) refl

pieces_heard : (window : ℕ) (answers : List Who) (x : Slave) (pieces : List (List ℕ)) (talk : List Event) (s' : Side) → AreShort pieces →
    Runs window answers (begun x) (map piece_sent pieces ++ talk) s' → Runs window answers (begun x) talk s'
pieces_heard window answers x [] talk s' short runs = runs
pieces_heard window answers x (piece ∷ pieces) talk s' short runs =
    pieces_heard window answers x pieces talk s' short.1 (subst (λ s. Runs window answers s (map piece_sent pieces ++ talk) s') (piece_heard piece x short.0) runs)

all_short : (n : ℕ) (bytes : List ℕ) → length bytes ≤ n → AreShort (pieces_within n bytes)
all_short zero bytes few = (omega (arith, few), tt {0})
all_short (suc n) bytes few =
    go (nat_le (length bytes) longest_piece) refl (λ long. all_short n (drop longest_piece bytes) (omega (arith, few, long, length-drop longest_piece bytes)))
  where
    go : (b : Bool) → nat_le (length bytes) longest_piece ≡ b → (longest_piece < length bytes → AreShort (pieces_within n (drop longest_piece bytes))) →
        AreShort (if b then bytes ∷ [] else take longest_piece bytes ∷ pieces_within n (drop longest_piece bytes))
    go true is more = (leb-true _ _ is, tt {0})
    go false is more = (omega (arith, length-take longest_piece bytes), more (leb-false _ _ is))

with_last : (pieces : List (List ℕ)) → AreShort pieces → AreShort (pieces ++ [] ∷ [])
with_last [] short = (omega arith, tt {0})
with_last (piece ∷ pieces) short = (short.0, with_last pieces short.1)

-- behind a boot the link is as it was
pub boot_heard : (window : ℕ) (answers : List Who) (x : Slave) (boot : List ℕ) (talk : List Event) (s' : Side) → Runs window answers (begun x) (boot_talk boot ++ talk) s' → Runs window answers (begun x) talk s'
boot_heard window answers x boot talk s' runs =
    pieces_heard window answers x (boot_pieces boot) talk s' (with_last (pieces_within (length boot) boot) (all_short (length boot) boot (omega arith))) runs
