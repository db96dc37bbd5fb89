-- The host table to start from: each call of a host with a result gives 0, and each other one writes a line.
use Rattle.std.specs.Prelude.{◌≡◌, ◌≤◌, ◌<◌, ℕ, Bool, not, ◌&&◌, List, ◌++◌, length, map, filter, Option, Some, None, is_some, if◌then◌else◌, codes}
use Rattle.std.specs.List.{join_with_byte, position_from}
use Rattle.pt_tree.specs.declared.signature.Signature.{Signature}
use Rattle.typed_tree.specs.TypedTree.{TypedTree, signatures_of}
use Rattle.host_models.specs.Mixed.{is_mixed}
use Rattle.host_table.specs.declared.TheConstants.{TABLE_LIMIT}
use Rattle.starting_texts.specs.declared.texts.StartingTable.{StartingTable}
use Rattle.starting_texts.specs.declared.texts.StartingTable.TheVariants.{Text, NoneFits, TooLong}

-- ---- the text

abbrev pub entry_text : Signature → List ℕ
entry_text s = if is_some s.result then codes "{\"kind\":\"table\",\"rows\":[],\"else\":0}" else codes "{\"kind\":\"line\"}"

-- a name in quotes, and a colon
abbrev pub key_text : List ℕ → List ℕ
key_text name = codes "\"" ++ name ++ codes "\":"

abbrev pub member_text : Signature → List ℕ
member_text s = key_text s.name ++ entry_text s

abbrev pub hosts_of : TypedTree → List Signature
hosts_of t = filter (λ s. s.host) (signatures_of t)

-- an object with a member for each host, in the order of their numbers, with commas between them
abbrev pub table_text : TypedTree → List ℕ
table_text t = codes "{" ++ join_with_byte 44 (map member_text (hosts_of t)) ++ codes "}"

-- ---- where there is none

-- no entry fits the host: it takes secrets and isn't privileged, and it has no result
abbrev pub is_unfit : Signature → Bool
is_unfit s = s.host && is_mixed s && not (is_some s.result)

-- the number of the first such one
abbrev pub first_unfit : TypedTree → Option ℕ
first_unfit t = position_from is_unfit 0 (signatures_of t)

-- ---- the answer

abbrev pub IsStartingTable : TypedTree → StartingTable → Type 0
IsStartingTable t (Text text) = (first_unfit t ≡ None) × (text.items ≡ table_text t) × (length (table_text t) ≤ TABLE_LIMIT)
IsStartingTable t (NoneFits f) = first_unfit t ≡ Some f.0
IsStartingTable t TooLong = (first_unfit t ≡ None) × (TABLE_LIMIT < length (table_text t))
