-- Structs whose fields name earlier structs alone.
use Rattle.std.specs.Prelude.{ℕ, suc, List, [], ◌∷◌, Bool, true, ◌&&◌, nat_le, length}
use Rattle.std.specs.List.{list_all}
use Rattle.typed_tree.specs.declared.types.Field.{Field}
use Rattle.typed_tree.specs.declared.types.StructInfo.{StructInfo}
use Rattle.typed_tree.specs.WellFormed.{is_plain_type}

-- there is a field, and each is of a type among so many structs, and no pointer
abbrev pub name_earlier : ℕ → List Field → Bool
name_earlier earlier fields = nat_le 1 (length fields) && list_all (λ f. is_plain_type earlier f.ty) fields

-- the same of the structs of a list, of which so many stand before
abbrev pub all_name_earlier : ℕ → List StructInfo → Bool
all_name_earlier earlier [] = true
all_name_earlier earlier (s ∷ rest) = name_earlier earlier s.fields && all_name_earlier (suc earlier) rest
