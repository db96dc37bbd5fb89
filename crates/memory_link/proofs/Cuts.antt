-- All messages with which bytes begin, cut off one after the other.
use Rattle.std.proofs.Common.{◌≡◌, ◌<◌, ◌≤◌, inl, ℕ, zero, suc, List, [], ◌∷◌, length, Option, Some, None, refl, sym, ap, subst, ◌∙◌, arith}
use Rattle.wire.specs.declared.message.Message.{Message}
use Rattle.wire.specs.View.{ReaderView}
use Rattle.pair_protocol.specs.Links.{Half}
use Rattle.pair_meaning.specs.Peer.{Cut, cut, cut_by, cut_within, frame_at}
use Rattle.pair_meaning.specs.SlaveRun.{Slave}
use Rattle.pair_meaning.specs.LinkTalks.{all_heard, heard}
use Rattle.memory_link.specs.declared.slave_half.SlaveHalf.{SlaveHalf}
use Rattle.memory_link.specs.Halves.{IsHalf}
use Rattle.memory_link.specs.Reading.{HearsAll, IsReading, Reads}
use Rattle.memory_link.proofs.Fronts.{shorter, unfinished_front}

-- ---- more rounds than bytes change nothing

abbrev first_of : Message → Cut → Cut
first_of m c = record { messages = m ∷ c.messages; rest = c.rest }

no_byte : (bytes : List ℕ) → length bytes ≤ 0 → bytes ≡ []
no_byte [] h = refl
no_byte (b ∷ bytes) h = absurd (omega (arith, h))

nothing_within : (k : ℕ) (bytes : List ℕ) → length bytes ≤ 0 → cut_within k bytes ≡ record { messages = []; rest = bytes }
nothing_within zero bytes h = refl
nothing_within (suc k) bytes h = subst (λ (b : List ℕ). cut_within (suc k) b ≡ record { messages = []; rest = b }) (sym (no_byte bytes h))
    (ap (λ (o : Option (Message × List ℕ)). cut_by [] o (cut_within k)) (unfinished_front [] (inl (omega arith))))

enough : (n k : ℕ) (bytes : List ℕ) → length bytes ≤ n → length bytes ≤ k → cut_within n bytes ≡ cut_within k bytes
enough zero k bytes h l = sym (nothing_within k bytes h)
enough (suc n) zero bytes h l = nothing_within (suc n) bytes l
enough (suc n) (suc k) bytes h l = go (λ rest a b. enough n k rest a b) (frame_at bytes) refl
  where
    less : (a b c : ℕ) → a < b → b ≤ suc c → a ≤ c
    less a b c h k = omega (arith, h, k)

    go : ((rest : List ℕ) → length rest ≤ n → length rest ≤ k → cut_within n rest ≡ cut_within k rest) → (o : Option (Message × List ℕ)) → frame_at bytes ≡ o →
        cut_by bytes o (cut_within n) ≡ cut_by bytes o (cut_within k)
    go more None e = refl
    go more (Some (m, rest)) e =
        ap (first_of m) (more rest (less (length rest) (length bytes) n (shorter bytes m rest e) h) (less (length rest) (length bytes) k (shorter bytes m rest e) l))

one_more : (bytes : List ℕ) → cut bytes ≡ cut_by bytes (frame_at bytes) (cut_within (length bytes))
one_more bytes = enough (length bytes) (suc (length bytes)) bytes (omega arith) (omega arith)

pub cut_first : (bytes : List ℕ) (m : Message) (rest : List ℕ) → frame_at bytes ≡ Some (m, rest) → cut bytes ≡ first_of m (cut rest)
cut_first bytes m rest e =
    one_more bytes ∙ ap (λ (o : Option (Message × List ℕ)). cut_by bytes o (cut_within (length bytes))) e
    ∙ ap (first_of m) (enough (length bytes) (length rest) rest (most (length rest) (length bytes) (shorter bytes m rest e)) (omega arith))
  where
    most : (a b : ℕ) → a < b → a ≤ b
    most a b h = omega (arith, h)

pub cut_nothing : (bytes : List ℕ) → frame_at bytes ≡ None → cut bytes ≡ record { messages = []; rest = bytes }
cut_nothing bytes e = one_more bytes ∙ ap (λ (o : Option (Message × List ℕ)). cut_by bytes o (cut_within (length bytes))) e

-- ---- while messages are read and heard

-- what is heard from here on is heard from there on
pub record Hearing (x : SlaveHalf) (before : ReaderView) (now : SlaveHalf) (reader : ReaderView) : Type 0 where
  pub reading : IsReading reader
  pub rest : (cut before.unread).rest ≡ (cut reader.unread).rest
  pub half : (h : Half Slave Message) → IsHalf x h → (at : Half Slave Message) × IsHalf now at × (all_heard (cut before.unread).messages h ≡ all_heard (cut reader.unread).messages at)

pub begins : (x : SlaveHalf) (r : ReaderView) → IsReading r → Hearing x r x r
begins x r reading = record { reading = reading; rest = refl; half = λ h is. (h, is, refl) }

pub hears_one : (x : SlaveHalf) (before : ReaderView) (now next : SlaveHalf) (reader after : ReaderView) (m : Message) → Hearing x before now reader → Reads reader (Some m) after →
    ((h : Half Slave Message) → IsHalf now h → IsHalf next (heard m h)) → Hearing x before next after
hears_one x before now next reader after m so reads hears = record {
  reading = reads.reading;
  rest = so.rest ∙ ap (λ (c : Cut). c.rest) (cut_first reader.unread m after.unread reads.front);
  half = λ h is.
      let at = so.half h is in
      (heard m at.0, hears at.0 at.1, at.2 ∙ ap (λ (c : Cut). all_heard c.messages at.0) (cut_first reader.unread m after.unread reads.front));
}

pub hears_all : (x : SlaveHalf) (before : ReaderView) (now : SlaveHalf) (reader after : ReaderView) → Hearing x before now reader → Reads reader None after → HearsAll x before now after
hears_all x before now reader after so reads = record {
  reading = reads.reading;
  unread = reads.front.1 ∙ sym (so.rest ∙ ap (λ (c : Cut). c.rest) (cut_nothing reader.unread reads.front.0));
  half = λ h is.
      let at = so.half h is in
      subst (λ (end : Half Slave Message). IsHalf now end) (sym (at.2 ∙ ap (λ (c : Cut). all_heard c.messages at.0) (cut_nothing reader.unread reads.front.0))) at.1;
}
