-- The value of the host table to start from, its members in the order in which they are written.
use Rattle.std.specs.Prelude.{List, [], ◌∷◌, is_some, if◌then◌else◌, codes}
use Rattle.serde_json.specs.Data.{Data, number, unsigned, string, array, object, no_items, Members, no_members, member}
use Rattle.pt_tree.specs.declared.signature.Signature.{Signature}
use Rattle.typed_tree.specs.TypedTree.{TypedTree}
use Rattle.starting_texts.specs.Tables.{hosts_of}

-- a table without rows, whose other calls give 0
abbrev pub zero_entry : Data
zero_entry =
    object (member (codes "kind") (string (codes "table"))
    (member (codes "rows") (array no_items) (member (codes "else") (number (unsigned 0)) no_members)))

abbrev pub line_entry : Data
line_entry = object (member (codes "kind") (string (codes "line")) no_members)

abbrev pub entry_data : Signature → Data
entry_data s = if is_some s.result then zero_entry else line_entry

abbrev pub members_data : List Signature → Members
members_data [] = no_members
members_data (s ∷ hosts) = member s.name (entry_data s) (members_data hosts)

abbrev pub table_data : TypedTree → Data
table_data t = object (members_data (hosts_of t))
