-- Functions by name.
use Rattle.std.specs.Prelude.{◌≡◌, ℕ, List, map, Option}
use Rattle.std.specs.Borrow.{Bor}
use Rattle.std.specs.List.{position_from}
use Rattle.std.specs.Map.{lookup}
use Rattle.std.specs.Str.{bytes_eq}
use Rattle.pt_tree.specs.declared.signature.Signature.{Signature}

-- the number of the function of that name: the first of it, where names could repeat
abbrev pub function_named : List Signature → List ℕ → Option ℕ
function_named signatures name = position_from (λ s. bytes_eq s.name name) 0 signatures

-- the entries have the number of each function of the list by its name
abbrev pub HaveNumbers : List (Bor (List ℕ) × ℕ) → List (Bor Signature) → Type 0
HaveNumbers entries signatures =
    (name : List ℕ) → lookup (λ k. bytes_eq name k.now) entries ≡ function_named (map (λ s. s.now) signatures) name
