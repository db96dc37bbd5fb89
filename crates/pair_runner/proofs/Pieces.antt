-- The pieces of a boot, one after the other.
use Rattle.std.proofs.Common.{◌≡◌, ◌<◌, ◌≤◌, ℕ, zero, suc, List, [], ◌∷◌, ◌++◌, length, take, drop, map, Bool, true, false, Option, refl, sym, ap, subst, ◌∙◌, append_assoc, arith, length-drop}
use Rattle.std.specs.Prelude.{if◌then◌else◌, nat_le}
use Rattle.std.specs.List.{flat_map}
use Rattle.std.proofs.lemmas.Bool.{le-leb, lt-leb}
use Rattle.std.proofs.lemmas.Grind.{flat_map-append}
use Rattle.std.proofs.lemmas.List.{map-append}
use Rattle.pt_base.specs.Talk.{Event}
use Rattle.wire.specs.declared.message.Message.TheVariants as message
use Rattle.wire.specs.Limits.{longest_piece}
use Rattle.wire.specs.Spelling.{spelling}
use Rattle.pair_meaning.specs.Peer.{boot_frames, pieces_within}
use Rattle.pair_runner.specs.Sending.{given_in, sent_in, piece_sent, boot_pieces, boot_talk, Talks, Parts}
use Rattle.pair_runner.proofs.Moving.{Law, talks_more, parts_behind}

abbrev piece_frame : List ℕ → List ℕ
piece_frame piece = spelling (message.Boot piece)

-- ---- the bytes

pub pieces_given : (pieces : List (List ℕ)) → given_in (map piece_sent pieces) ≡ []
pieces_given [] = refl
pieces_given (piece ∷ pieces) = pieces_given pieces

pub pieces_sent : (pieces : List (List ℕ)) → sent_in (map piece_sent pieces) ≡ flat_map piece_frame pieces
pieces_sent [] = refl
pieces_sent (piece ∷ pieces) = ap (λ l. piece_frame piece ++ l) (pieces_sent pieces)

pub boot_given : (boot : List ℕ) → given_in (boot_talk boot) ≡ []
boot_given boot = pieces_given (boot_pieces boot)

pub boot_sent : (boot : List ℕ) → sent_in (boot_talk boot) ≡ boot_frames boot
boot_sent boot = pieces_sent (boot_pieces boot)

-- ---- the cut

-- more steps than bytes change nothing
pieces_enough : (n k : ℕ) (bytes : List ℕ) → length bytes ≤ n → length bytes ≤ k → pieces_within n bytes ≡ pieces_within k bytes
pieces_enough zero zero bytes p q = refl
pieces_enough zero (suc k) [] p q = refl
pieces_enough zero (suc k) (x ∷ bytes) p q = absurd (omega (arith, p))
pieces_enough (suc n) zero [] p q = refl
pieces_enough (suc n) zero (x ∷ bytes) p q = absurd (omega (arith, q))
pieces_enough (suc n) (suc k) bytes p q =
    go (nat_le (length bytes) longest_piece) (pieces_enough n k (drop longest_piece bytes) (omega (arith, p, length-drop longest_piece bytes)) (omega (arith, q, length-drop longest_piece bytes)))
  where
    go : (short : Bool) → pieces_within n (drop longest_piece bytes) ≡ pieces_within k (drop longest_piece bytes) →
        (if short then bytes ∷ [] else take longest_piece bytes ∷ pieces_within n (drop longest_piece bytes)) ≡ (if short then bytes ∷ [] else take longest_piece bytes ∷ pieces_within k (drop longest_piece bytes))
    go true same = refl
    go false same = ap (λ l. take longest_piece bytes ∷ l) same

pub pieces_last : (n : ℕ) (bytes : List ℕ) → length bytes ≤ longest_piece → pieces_within n bytes ≡ bytes ∷ []
pieces_last zero bytes short = refl
pieces_last (suc n) bytes short = ap (λ (b : Bool). if b then bytes ∷ [] else take longest_piece bytes ∷ pieces_within n (drop longest_piece bytes)) (le-leb (length bytes) longest_piece short)

long_is : (n : ℕ) → longest_piece < n → nat_le n longest_piece ≡ false
long_is n long = lt-leb n longest_piece long

pub pieces_next : (bytes : List ℕ) → longest_piece < length bytes → pieces_within (length bytes) bytes ≡ take longest_piece bytes ∷ pieces_within (length (drop longest_piece bytes)) (drop longest_piece bytes)
pieces_next bytes long = go (length bytes) refl
  where
    go : (n : ℕ) → length bytes ≡ n → pieces_within n bytes ≡ take longest_piece bytes ∷ pieces_within (length (drop longest_piece bytes)) (drop longest_piece bytes)
    go zero e = absurd (omega (arith, e, long))
    go (suc n) e =
        ap (λ (b : Bool). if b then bytes ∷ [] else take longest_piece bytes ∷ pieces_within n (drop longest_piece bytes)) (long_is (length bytes) long)
        ∙ ap (λ l. take longest_piece bytes ∷ l) (pieces_enough n (length (drop longest_piece bytes)) (drop longest_piece bytes) (omega (arith, e, length-drop longest_piece bytes)) (omega arith))

-- ---- sending them

-- these pieces were sent, and the rest is left
pub record Sent {L : Type 0} (came : L → List Event → L → Type 0) (sent given : L → Option (List ℕ)) (a b : L) (boot rest : List ℕ) : Type 0 where
  pub pieces : List (List ℕ)
  pub are : pieces_within (length boot) boot ≡ pieces ++ pieces_within (length rest) rest
  pub talks : Talks came sent given a b (map piece_sent pieces)

pub sent_none : {L : Type 0} (came : L → List Event → L → Type 0) (sent given : L → Option (List ℕ)) (a : L) (boot : List ℕ) → Talks came sent given a a [] → Sent came sent given a a boot boot
sent_none came sent given a boot none = record { pieces = []; are = refl; talks = none }

pub sent_one : {L : Type 0} (came : L → List Event → L → Type 0) (sent given : L → Option (List ℕ)) → Law came → (a b c : L) (boot rest : List ℕ) → Sent came sent given a b boot rest → longest_piece < length rest →
    Talks came sent given b c (piece_sent (take longest_piece rest) ∷ []) → Sent came sent given a c boot (drop longest_piece rest)
sent_one came sent given further a b c boot rest so long one = record {
  pieces = so.pieces ++ take longest_piece rest ∷ [];
  are = so.are ∙ ap (λ l. so.pieces ++ l) (pieces_next rest long) ∙ sym (append_assoc so.pieces (take longest_piece rest ∷ []) (pieces_within (length (drop longest_piece rest)) (drop longest_piece rest)));
  talks = subst (Talks came sent given a c) (sym (map-append piece_sent so.pieces (take longest_piece rest ∷ []))) (talks_more came sent given further a b c (map piece_sent so.pieces) (piece_sent (take longest_piece rest) ∷ []) so.talks one);
}

-- all pieces, where the rest is the last
pub all_pieces : {L : Type 0} (came : L → List Event → L → Type 0) (sent given : L → Option (List ℕ)) (a b : L) (boot rest : List ℕ) (so : Sent came sent given a b boot rest) → length rest ≤ longest_piece → boot_pieces boot ≡ so.pieces ++ rest ∷ [] ∷ []
all_pieces came sent given a b boot rest so short =
    ap (λ l. l ++ [] ∷ []) (so.are ∙ ap (λ l. so.pieces ++ l) (pieces_last (length rest) rest short)) ∙ append_assoc so.pieces (rest ∷ []) ([] ∷ [])

pub sent_all : {L : Type 0} (came : L → List Event → L → Type 0) (sent given : L → Option (List ℕ)) → Law came → (a b c d : L) (boot rest : List ℕ) → Sent came sent given a b boot rest → length rest ≤ longest_piece →
    Talks came sent given b c (piece_sent rest ∷ []) → Talks came sent given c d (piece_sent [] ∷ []) → Talks came sent given a d (boot_talk boot)
sent_all came sent given further a b c d boot rest so short one two =
    subst (Talks came sent given a d) (sym (map-append piece_sent so.pieces (rest ∷ [] ∷ [])) ∙ ap (map piece_sent) (sym (all_pieces came sent given a b boot rest so short)))
    (talks_more came sent given further a b d (map piece_sent so.pieces) (piece_sent rest ∷ piece_sent [] ∷ []) so.talks
    (talks_more came sent given further b c d (piece_sent rest ∷ []) (piece_sent [] ∷ []) one two))

-- a piece was sent in part
pub sent_part : {L : Type 0} (came : L → List Event → L → Type 0) (sent given : L → Option (List ℕ)) (a b c : L) (boot piece : List ℕ) (pieces more : List (List ℕ)) → boot_pieces boot ≡ pieces ++ piece ∷ more →
    Talks came sent given a b (map piece_sent pieces) → Parts sent given b c [] (spelling (message.Boot piece)) → Parts sent given a c [] (boot_frames boot)
sent_part came sent given a b c boot piece pieces more are first part =
    subst (λ l. Parts sent given a c [] l) whole
    (subst (λ l. Parts sent given a c l (sent_in (map piece_sent pieces) ++ (piece_frame piece ++ flat_map piece_frame more))) (ap (λ l. l ++ []) (pieces_given pieces))
    (parts_behind came sent given a b c (map piece_sent pieces) [] (piece_frame piece) (flat_map piece_frame more) first part))
  where
    whole : sent_in (map piece_sent pieces) ++ (piece_frame piece ++ flat_map piece_frame more) ≡ boot_frames boot
    whole = ap (λ l. l ++ (piece_frame piece ++ flat_map piece_frame more)) (pieces_sent pieces) ∙ sym (flat_map-append piece_frame pieces (piece ∷ more)) ∙ ap (flat_map piece_frame) (sym are)

-- it is one in the middle, the last, or the empty one
pub middle_part : {L : Type 0} (came : L → List Event → L → Type 0) (sent given : L → Option (List ℕ)) (a b c : L) (boot rest : List ℕ) → Sent came sent given a b boot rest → longest_piece < length rest →
    Parts sent given b c [] (spelling (message.Boot (take longest_piece rest))) → Parts sent given a c [] (boot_frames boot)
middle_part came sent given a b c boot rest so long part =
    sent_part came sent given a b c boot (take longest_piece rest) so.pieces (pieces_within (length (drop longest_piece rest)) (drop longest_piece rest) ++ [] ∷ [])
    (ap (λ l. l ++ [] ∷ []) (so.are ∙ ap (λ l. so.pieces ++ l) (pieces_next rest long)) ∙ append_assoc so.pieces (take longest_piece rest ∷ pieces_within (length (drop longest_piece rest)) (drop longest_piece rest)) ([] ∷ [])) so.talks part

pub last_part : {L : Type 0} (came : L → List Event → L → Type 0) (sent given : L → Option (List ℕ)) (a b c : L) (boot rest : List ℕ) → Sent came sent given a b boot rest → length rest ≤ longest_piece →
    Parts sent given b c [] (spelling (message.Boot rest)) → Parts sent given a c [] (boot_frames boot)
last_part came sent given a b c boot rest so short part = sent_part came sent given a b c boot rest so.pieces ([] ∷ []) (all_pieces came sent given a b boot rest so short) so.talks part

pub end_part : {L : Type 0} (came : L → List Event → L → Type 0) (sent given : L → Option (List ℕ)) → Law came → (a b c d : L) (boot rest : List ℕ) → Sent came sent given a b boot rest → length rest ≤ longest_piece →
    Talks came sent given b c (piece_sent rest ∷ []) → Parts sent given c d [] (spelling (message.Boot [])) → Parts sent given a d [] (boot_frames boot)
end_part came sent given further a b c d boot rest so short one part =
    sent_part came sent given a c d boot [] (so.pieces ++ rest ∷ []) [] (all_pieces came sent given a b boot rest so short ∙ sym (append_assoc so.pieces (rest ∷ []) ([] ∷ [])))
    (subst (Talks came sent given a c) (sym (map-append piece_sent so.pieces (rest ∷ []))) (talks_more came sent given further a b c (map piece_sent so.pieces) (piece_sent rest ∷ []) so.talks one)) part
