-- An honest peer: what it says after it was sent so many bytes, and which bytes may be sent to it.
use Rattle.std.specs.Prelude.{ℕ, zero, suc, Bool, true, false, ◌&&◌, ◌||◌, List, [], ◌∷◌, ◌++◌, length, take, drop, Option, Some, None, nat_le, nat_lt, if◌then◌else◌, option_map}
use Rattle.std.specs.List.{flat_map}
use Rattle.std.specs.Int.{w32}
use Rattle.std.specs.Str.{bytes_eq}
use Rattle.wire.specs.declared.message.Message.{Message}
use Rattle.wire.specs.declared.message.Message.TheVariants as message
use Rattle.wire.specs.declared.message.ReplyBody.{ReplyBody}
use Rattle.wire.specs.Limits.{longest_payload, longest_piece}
use Rattle.wire.specs.Reading.{number_at, payload_of}
use Rattle.wire.specs.Spelling.{spelling}
use Rattle.pt_core.specs.CodeTree.{BootTree}
use Rattle.pair_meaning.specs.SlaveRun.{Slave, longest, may_take}
use Rattle.pair_meaning.specs.Pair.{said, slave_at}

-- ---- frames

-- a message and the bytes behind its frame
abbrev pub framed : ℕ → List ℕ → Option (Message × List ℕ)
framed size rest =
    if nat_lt longest_payload size || nat_lt (length rest) size then None else option_map (λ m. (m, drop size rest)) (payload_of (take size rest))

abbrev pub framed_by : Option (ℕ × List ℕ) → Option (Message × List ℕ)
framed_by None = None
framed_by (Some read) = framed read.0 read.1

-- the first message of these bytes, if they begin with one
abbrev pub frame_at : List ℕ → Option (Message × List ℕ)
frame_at bytes = framed_by (number_at w32 bytes)

pub record Cut : Type 0 where
  pub messages : List Message
  pub rest : List ℕ

abbrev pub cut_by : List ℕ → Option (Message × List ℕ) → (List ℕ → Cut) → Cut
cut_by bytes None more = record { messages = []; rest = bytes }
cut_by bytes (Some found) more = record { messages = found.0 ∷ (more found.1).messages; rest = (more found.1).rest }

-- at most so many messages, and the bytes behind them
abbrev pub cut_within : ℕ → List ℕ → Cut
cut_within zero bytes = record { messages = []; rest = bytes }
cut_within (suc n) bytes = cut_by bytes (frame_at bytes) (cut_within n)

-- all messages with which the bytes begin: each has a byte at least
abbrev pub cut : List ℕ → Cut
cut bytes = cut_within (length bytes) bytes

-- ---- the boot

-- bytes in full pieces, and what is left in one more
abbrev pub pieces_within : ℕ → List ℕ → List (List ℕ)
pieces_within zero bytes = bytes ∷ []
pieces_within (suc n) bytes = if nat_le (length bytes) longest_piece then bytes ∷ [] else take longest_piece bytes ∷ pieces_within n (drop longest_piece bytes)

-- the frames of the pieces of a boot's bytes, and of the empty piece that ends it
abbrev pub boot_frames : List ℕ → List ℕ
boot_frames bytes = flat_map (λ piece. spelling (message.Boot piece)) (pieces_within (length bytes) bytes ++ [] ∷ [])

-- ---- what it says

abbrev pub reply_in : Message → List ReplyBody
reply_in (message.Boot piece) = []
reply_in (message.Call turns function depth wants body) = []
reply_in (message.Emit turns bytes) = []
reply_in (message.Exit turns status) = []
reply_in (message.Trap turns kind span) = []
reply_in (message.Park turns) = []
reply_in (message.Reply body) = body ∷ []

-- the replies among the bytes that it was sent
abbrev pub replies_in : List ℕ → List ReplyBody
replies_in sent = flat_map reply_in (cut sent).messages

-- the spellings of all that it says with these replies
abbrev pub says : BootTree → List ℕ → List ℕ
says b sent = flat_map spelling (said b (replies_in sent))

-- ---- what it may be sent

-- the first list begins the second
abbrev pub begins : List ℕ → List ℕ → Bool
begins xs ys = bytes_eq (take (length xs) ys) xs

-- it waits, and the reply is one that its call can have
abbrev pub is_awaited : Slave → ReplyBody → Bool
is_awaited x reply = may_take x x.doing reply

-- each reply was awaited, where it had these before
abbrev pub are_awaited : BootTree → List ReplyBody → List ReplyBody → Bool
are_awaited b before [] = true
are_awaited b before (reply ∷ replies) = is_awaited (slave_at b before (longest b)).slave reply && are_awaited b (before ++ reply ∷ []) replies

abbrev pub is_reply : Message → Bool
is_reply (message.Boot piece) = false
is_reply (message.Call turns function depth wants body) = false
is_reply (message.Emit turns bytes) = false
is_reply (message.Exit turns status) = false
is_reply (message.Trap turns kind span) = false
is_reply (message.Park turns) = false
is_reply (message.Reply body) = true

abbrev pub are_replies : List Message → Bool
are_replies [] = true
are_replies (x ∷ xs) = is_reply x && are_replies xs

-- what is left is no frame yet, and its length is within the limit
abbrev pub is_begun : List ℕ → Option (ℕ × List ℕ) → Bool
is_begun bytes None = true
is_begun bytes (Some read) = nat_le read.0 longest_payload && nat_lt (length read.1) read.0

-- replies that were each awaited, and the beginning of a frame
abbrev pub are_its_replies : BootTree → Cut → Bool
are_its_replies b c = are_replies c.messages && (are_awaited b [] (flat_map reply_in c.messages) && is_begun c.rest (number_at w32 c.rest))

-- a part of the frames of these bytes, which spell the boot, or all of them and then replies that were each awaited
abbrev pub is_form : List ℕ → BootTree → List ℕ → Bool
is_form bytes b sent =
    begins sent (boot_frames bytes) || (begins (boot_frames bytes) sent && are_its_replies b (cut (drop (length (boot_frames bytes)) sent)))
