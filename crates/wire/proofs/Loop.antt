-- Reading so many fields one behind the other, as a loop does.
use Rattle.std.proofs.Common.{◌≡◌, ℕ, suc, ◌-◌, ◌+◌, ◌≤◌, ◌<◌, List, [], ◌∷◌, ◌++◌, Some, None, refl, sym, ap, ◌∙◌, append_assoc, arith}
use Rattle.std.proofs.lemmas.List.{append-nil}
use Rattle.wire.specs.declared.fault.ReadError.{ReadError}
use Rattle.wire.specs.declared.fault.ReadError.TheVariants as errors
use Rattle.wire.specs.Reading.{◌>>=◌, Fails, Field, many}

-- what was read before, and what is still read
abbrev pub with_front : {A : Type 0} → List A → Field (List A) → Field (List A)
with_front front read = read >>= λ x. Some (front ++ x.0, x.1)

regroup : {A : Type 0} (front : List A) (x : A) (read : Field (List A)) → with_front front (read >>= λ found. Some (x ∷ found.0, found.1)) ≡ with_front (front ++ x ∷ []) read
regroup front x (Some found) = ap (λ xs. Some (xs, found.1)) (simp append_assoc)
regroup front x None = refl

pub goes_on : {A : Type 0} (read : List ℕ → Field A) (front : List A) (count i : ℕ) (bytes : List ℕ) (x : A) (after : List ℕ) (total : Field (List A)) → i < count → read bytes ≡ Some (x, after)
    → with_front front (many read (count - i) bytes) ≡ total → with_front (front ++ x ∷ []) (many read (count - (i + 1)) after) ≡ total
unfolding many
goes_on read front count i bytes x after total lt h so_far =
    let k : count - i ≡ suc (count - (i + 1)) = omega arith in
    let one : with_front front (many read (count - i) bytes) ≡ with_front (front ++ x ∷ []) (many read (count - (i + 1)) after) = rw (k, h) (regroup front x (many read (count - (i + 1)) after)) in
    sym one ∙ so_far

pub ends : {A : Type 0} (read : List ℕ → Field A) (e : ReadError) (front : List A) (count i : ℕ) (bytes : List ℕ) (total : Field (List A)) → i < count → Fails e (read bytes)
    → with_front front (many read (count - i) bytes) ≡ total → Fails e total
unfolding many
ends read errors.Memory front count i bytes total lt h so_far = tt
ends read errors.Bad front count i bytes total lt h so_far =
    let k : count - i ≡ suc (count - (i + 1)) = omega arith in
    let one : with_front front (many read (count - i) bytes) ≡ None = rw (k, h) refl in
    sym so_far ∙ one

pub is_done : {A : Type 0} (read : List ℕ → Field A) (front : List A) (count i : ℕ) (bytes : List ℕ) (total : Field (List A)) → count ≤ i → with_front front (many read (count - i) bytes) ≡ total → total ≡ Some (front, bytes)
unfolding many
is_done read front count i bytes total le so_far =
    let k : count - i ≡ 0 = omega arith in
    let one : with_front front (many read (count - i) bytes) ≡ Some (front, bytes) = rw k (ap (λ xs. Some (xs, bytes)) (append-nil front)) in
    sym so_far ∙ one
