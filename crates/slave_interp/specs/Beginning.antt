-- Where a slave begins.
use Rattle.std.specs.Prelude.{ℕ, List, codes, option_map, unwrap_or}
use Rattle.std.specs.List.{find}
use Rattle.std.specs.Str.{bytes_eq}
use Rattle.pt_tree.specs.declared.signature.Signature.{Signature}

-- the number of main; 0 where nothing has the name
abbrev pub main_among : List (ℕ × Signature) → ℕ
main_among signatures = unwrap_or (option_map (λ s. s.0) (find (λ s. bytes_eq s.1.name (codes "main")) signatures)) 0
