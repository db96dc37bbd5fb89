-- Bytes that are told optionally: parts behind whole ones.
use Rattle.std.proofs.Common.{◌≡◌, ℕ, List, [], ◌++◌, length, take, drop, Option, Some, None, refl, sym, ap, ◌∙◌, append_assoc, append-nil, take-append-drop}
use Rattle.std.specs.Io.KnownBytes.{Appends, Keeps}
use Rattle.pt_base.specs.Told.{AppendsPart}
use Rattle.pt_base.proofs.Places.{take_front}

pub keeps_nil : (a b : Option (List ℕ)) → Keeps a b → Appends a b []
keeps_nil None b k = tt {0}
keeps_nil (Some x) None k = absurd k
keeps_nil (Some x) (Some y) k = k ∙ sym (append-nil x)

-- a first part
part_from : (old front rest bytes new : List ℕ) → bytes ≡ front ++ rest → new ≡ old ++ front → (n : ℕ) × (new ≡ old ++ take n bytes)
part_from old front rest bytes new e f = (length front, f ∙ ap (λ l. old ++ l) (sym (ap (take (length front)) e ∙ take_front front rest)))

pub nothing : (a b : Option (List ℕ)) (bytes : List ℕ) → Keeps a b → AppendsPart a b bytes
nothing None b bytes k = tt {0}
nothing (Some x) None bytes k = absurd k
nothing (Some x) (Some y) bytes k = part_from x [] bytes bytes y refl (k ∙ sym (append-nil x))

pub part_of_whole : (a b : Option (List ℕ)) (bytes : List ℕ) → Appends a b bytes → AppendsPart a b bytes
part_of_whole None b bytes k = tt {0}
part_of_whole (Some x) None bytes k = absurd k
part_of_whole (Some x) (Some y) bytes k = part_from x bytes [] bytes y (sym (append-nil bytes)) k

-- whole bytes, and then a part of the next; more may come behind them
pub part_behind : (a b c : Option (List ℕ)) (xs ys zs : List ℕ) → Appends a b xs → AppendsPart b c ys → AppendsPart a c (xs ++ (ys ++ zs))
part_behind None b c xs ys zs p q = tt {0}
part_behind (Some x) None c xs ys zs p q = absurd p
part_behind (Some x) (Some y) None xs ys zs p q = absurd q
part_behind (Some x) (Some y) (Some z) xs ys zs p (n, q) =
    part_from x (xs ++ take n ys) (drop n ys ++ zs) (xs ++ (ys ++ zs)) z
    (ap (λ l. xs ++ (l ++ zs)) (sym (take-append-drop n ys)) ∙ ap (λ l. xs ++ l) (append_assoc (take n ys) (drop n ys) zs) ∙ sym (append_assoc xs (take n ys) (drop n ys ++ zs)))
    (q ∙ ap (λ l. l ++ take n ys) p ∙ append_assoc x xs (take n ys))

-- a first part of a first part
pub part_more : (a b : Option (List ℕ)) (ys zs : List ℕ) → AppendsPart a b ys → AppendsPart a b (ys ++ zs)
part_more None b ys zs p = tt {0}
part_more (Some x) None ys zs p = absurd p
part_more (Some x) (Some y) ys zs (n, q) =
    part_from x (take n ys) (drop n ys ++ zs) (ys ++ zs) y (ap (λ l. l ++ zs) (sym (take-append-drop n ys)) ∙ append_assoc (take n ys) (drop n ys) zs) q
