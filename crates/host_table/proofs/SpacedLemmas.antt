-- What is written of numbers, one after the other: decimals and low bytes.
use Rattle.std.proofs.Common.{◌≡◌, ◌<◌, ◌+◌, ℕ, ℤ, pos, List, [], ◌∷◌, ◌++◌, length, get_or, take, map, sym, ap, ◌∙◌, append_assoc, Result, Ok, Err}
use Rattle.std.proofs.lemmas.List.{append-nil, take_more, map-append}
use Rattle.std.specs.Fmt.{signed_decimal}
use Rattle.std.specs.Prelude.{codes}
use Rattle.std.specs.Result.{OnErr}
use Rattle.pt_tree.specs.HostStep.{spaced, low_byte}
use Rattle.host_table.specs.Written.{Extends}

spaced-push : (xs : List ℤ) (v : ℤ) → spaced (xs ++ v ∷ []) ≡ spaced xs ++ (codes " " ++ signed_decimal v)
spaced-push [] v = append-nil (codes " " ++ signed_decimal v)
spaced-push (x ∷ xs) v =
    ap (λ bytes. codes " " ++ signed_decimal x ++ bytes) (spaced-push xs v)
    ∙ sym (append_assoc (codes " " ++ signed_decimal x) (spaced xs) (codes " " ++ signed_decimal v))

-- one number more
pub spaced-take : (before now new : List ℕ) (args : List ℤ) (i : ℕ) (v : ℤ) → i < length args → v ≡ get_or args i (pos 0) → now ≡ before ++ spaced (take i args)
    → new ≡ now ++ (codes " " ++ signed_decimal v) → new ≡ before ++ spaced (take (i + 1) args)
spaced-take before now new args i v within read so_far written =
    written ∙ ap (λ bytes. bytes ++ (codes " " ++ signed_decimal v)) so_far
    ∙ append_assoc before (spaced (take i args)) (codes " " ++ signed_decimal v)
    ∙ ap (λ bytes. before ++ bytes) (sym (spaced-push (take i args) v))
    ∙ ap (λ w. before ++ spaced (take i args ++ w ∷ [])) read
    ∙ ap (λ xs. before ++ spaced xs) (sym (take_more args i (pos 0) within))

-- more, and more behind it
pub extends_more : (before now new some : List ℕ) → now ≡ before ++ some → Extends now new → Extends before new
extends_more before now new some so_far written = record {
  more = some ++ written.more;
  is = written.is ∙ ap (λ bytes. bytes ++ written.more) so_far ∙ append_assoc before some written.more;
}

pub on_err : {P T E : Type 0} (r : Result T E) → P → OnErr r P
on_err (Ok x) p = tt
on_err (Err e) p = p

-- ---- low bytes

-- the low byte of one number more
pub low-take : (before now new : List ℕ) (args : List ℤ) (i : ℕ) (v : ℤ) → i < length args → v ≡ get_or args i (pos 0) → now ≡ before ++ map low_byte (take i args)
    → new ≡ now ++ low_byte v ∷ [] → new ≡ before ++ map low_byte (take (i + 1) args)
low-take before now new args i v within read so_far written =
    written ∙ ap (λ bytes. bytes ++ low_byte v ∷ []) so_far
    ∙ append_assoc before (map low_byte (take i args)) (low_byte v ∷ [])
    ∙ ap (λ w. before ++ (map low_byte (take i args) ++ low_byte w ∷ [])) read
    ∙ ap (λ bytes. before ++ bytes) (sym (map-append low_byte (take i args) (get_or args i (pos 0) ∷ [])))
    ∙ ap (λ xs. before ++ map low_byte xs) (sym (take_more args i (pos 0) within))
