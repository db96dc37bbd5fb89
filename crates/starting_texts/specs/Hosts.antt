-- The members of a table as code appends them.
use Rattle.std.specs.Prelude.{ℕ, Bool, true, List, [], ◌∷◌, ◌++◌, if◌then◌else◌}
use Rattle.serde_json.specs.Written.{comma_if}
use Rattle.pt_tree.specs.declared.signature.Signature.{Signature}
use Rattle.starting_texts.specs.Tables.{member_text}

-- the members of the hosts among these functions, with a comma before each but the first; `later` says that one
-- stands before these
abbrev pub hosts_text : Bool → List Signature → List ℕ
hosts_text later [] = []
hosts_text later (s ∷ fns) = if s.host then (comma_if later ++ member_text s) ++ hosts_text true fns else hosts_text later fns
