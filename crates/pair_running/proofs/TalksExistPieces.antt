-- A part of a frame's bytes is unfinished, and all of them begin with it.
use Rattle.std.proofs.Common.{◌≡◌, ◌∙◌, ◌<◌, ◌≤◌, ◌⊎◌, inl, inr, ℕ, suc, List, ◌++◌, length, take, drop, refl, sym, ap, arith, append_assoc, length-append, length-drop}
use Rattle.std.proofs.lemmas.Bool.{cases_lt}
use Rattle.std.proofs.lemmas.List.{take_at, take-append-drop, take-append-le}
use Rattle.wire.specs.declared.message.Message.{Message}
use Rattle.wire.specs.Frames.{Begins, IsUnfinished}
use Rattle.wire.specs.Limits.{Spells}
use Rattle.wire.specs.Spelling.{four_bytes, payload, spelling}
use Rattle.wire.proofs.Sizes.{length-four_bytes}

pub unfinished : (x : Message) (bytes left rest : List ℕ) → Spells x (spelling x) → spelling x ++ rest ≡ bytes ++ left → length bytes < length (spelling x) → IsUnfinished bytes
unfinished x bytes left rest spells are short = go (cases_lt (length bytes) 4)
  where
    front : List ℕ
    front = four_bytes (length (payload x))

    same : 4 ≤ length bytes → take 4 bytes ≡ front
    same le = sym (take-append-le 4 bytes left le) ∙ ap (take 4) (sym are ∙ append_assoc front (payload x) rest) ∙ take_at front (payload x ++ rest) 4 (length-four_bytes (length (payload x)))

    go : (length bytes < 4) ⊎ (4 ≤ length bytes) → IsUnfinished bytes
    go (inl lt) = inl lt
    go (inr le) = inr (record {
      size = length (payload x);
      part = drop 4 bytes;
      are = sym (take-append-drop 4 bytes) ∙ ap (λ (l : List ℕ). l ++ drop 4 bytes) (same le);
      in_range = spells.keeps.payload;
      short = omega (arith, short, le, length-drop 4 bytes, length-append front (payload x), length-four_bytes (length (payload x)));
    })

pub begins_with : (x : Message) (bytes left rest : List ℕ) → Spells x (spelling x) → spelling x ++ rest ≡ bytes ++ left → length (spelling x) ≤ length bytes →
    Begins x bytes (drop (length (spelling x)) bytes)
begins_with x bytes left rest spells are long =
    let n : ℕ = length (spelling x) in
    let same : take n bytes ≡ spelling x = sym (take-append-le n bytes left long) ∙ ap (take n) (sym are) ∙ take_at (spelling x) rest n refl in
    record { spelled = spells; are = sym (take-append-drop n bytes) ∙ ap (λ (l : List ℕ). l ++ drop n bytes) same }

-- where they are a part, more follow
pub more_follow : (x : Message) (bytes left rest : List ℕ) → spelling x ++ rest ≡ bytes ++ left → length bytes < length (spelling x) → 0 < length left
more_follow x bytes left rest are short = omega (arith, short, ap (λ (l : List ℕ). length l) are, length-append (spelling x) rest, length-append bytes left)

pub fewer : (n : ℕ) (bytes : List ℕ) → 0 < length bytes → length (drop (suc n) bytes) < length bytes
fewer n bytes some = omega (arith, some, length-drop (suc n) bytes)
