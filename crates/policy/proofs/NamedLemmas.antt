-- One function more in a list of numbers by name.
use Rattle.std.proofs.Common.{◌≡◌, ◌∙◌, ◌+◌, ◌-◌, ◌<◌, ℕ, cond, List, ◌∷◌, length, drop, get_or, map, Option, Some, ap, ap₂, sym, arith, drop-cons, add-one, Bor}
use Rattle.std.specs.List.{position_from}
use Rattle.std.specs.Str.{bytes_eq}
use Rattle.pt_tree.specs.declared.signature.Signature.{Signature}

abbrev pub named_from : List (Bor Signature) → ℕ → List ℕ → Option ℕ
named_from signatures k name = position_from (λ s. bytes_eq s.name name) k (map (λ s. s.now) (drop k signatures))

pub named_step : (signatures : List (Bor Signature)) (next : ℕ) (s : Bor Signature) (word name : List ℕ) (new old : Option ℕ)
    → 0 < next → next - 1 < length signatures → s ≡ get_or signatures (next - 1) s → word ≡ s.now.name
    → new ≡ cond (bytes_eq word name) (Some (next - 1)) old → old ≡ named_from signatures next name → new ≡ named_from signatures (next - 1) name
named_step signatures next s word name new old some within read is put before =
    let k : ℕ = next - 1 in
    let same : next ≡ k + 1 = omega arith in
    let cut : drop k signatures ≡ s ∷ drop (k + 1) signatures
    = drop-cons signatures k s within ∙ ap₂ (λ x n. x ∷ drop n signatures) (sym read) (sym (add-one k)) in
    put
    ∙ ap₂ (λ w o. cond (bytes_eq w name) (Some k) o) is (before ∙ ap (λ n. named_from signatures n name) same)
    ∙ sym (ap (λ xs. position_from (λ (t : Signature). bytes_eq t.name name) k (map (λ (t : Bor Signature). t.now) xs)) cut)
