-- What an entry of a host table says: the model that stands for a host.
use Rattle.std.specs.Prelude.{ℕ, ℤ, List, [], ◌∷◌, Option, Some, None, option_map, option_and_then, if◌then◌else◌, codes, bytes_eq}
use Rattle.serde_json.specs.Data.{Data, Items, no_items, item}
use Rattle.serde_json.specs.Find.{get, as_number, as_integer, as_str, as_array}
use Rattle.pt_tree.specs.declared.host_model.HostModel.{HostModel}
use Rattle.pt_tree.specs.declared.host_model.HostModel.TheVariants.{Table, Feed, Input, Bytes, Line}
use Rattle.pt_tree.specs.declared.row.Row.{Row}
use Rattle.pt_tree.specs.declared.signature.Signature.{Signature}
use Rattle.host_table.specs.declared.entry.Entry.{Entry}
use Rattle.host_table.specs.declared.entry.Entry.TheVariants.{Missing, Misshaped, Shaped}
use Rattle.host_table.specs.declared.kind.Kind.{Kind}
use Rattle.host_table.specs.declared.kind.Kind.TheVariants as kind

-- what f makes of each, where it makes something of every one
abbrev pub each : {A B : Type 0} → (A → Option B) → List A → Option (List B)
each f [] = Some []
each f (x ∷ xs) = option_and_then (λ y. option_map (λ ys. y ∷ ys) (each f xs)) (f x)

abbrev pub listed : Items → List Data
listed no_items = []
listed (item d ds) = d ∷ listed ds

-- the items of a list
abbrev pub items_in : Data → Option (List Data)
items_in d = option_map listed (as_array d)

abbrev pub two_of : List Data → Option (Data × Data)
two_of [] = None
two_of (a ∷ []) = None
two_of (a ∷ b ∷ []) = Some (a, b)
two_of (a ∷ b ∷ c ∷ ds) = None

-- a whole number, spelled without a fraction or an exponent
abbrev pub number_in : Data → Option ℤ
number_in d = option_and_then as_integer (as_number d)

-- a list of numbers
abbrev pub numbers_in : Data → Option (List ℤ)
numbers_in d = option_and_then (each number_in) (items_in d)

-- a row is `[[arguments], result]`
abbrev pub row_of : Data × Data → Option Row
row_of parts = option_and_then (λ args. option_map (λ result. record { args = args; result = result }) (number_in parts.1)) (numbers_in parts.0)

abbrev pub row_in : Data → Option Row
row_in d = option_and_then row_of (option_and_then two_of (items_in d))

-- `rows`, a list of rows
abbrev pub rows_in : Data → Option (List Row)
rows_in entry = option_and_then (each row_in) (option_and_then items_in (get (codes "rows") entry))

-- `values`, a list of numbers
abbrev pub values_in : Data → Option (List ℤ)
values_in entry = option_and_then numbers_in (get (codes "values") entry)

-- `else`, a number
abbrev pub other_in : Data → Option ℤ
other_in entry = option_and_then number_in (get (codes "else") entry)

-- `kind`, one of five words
abbrev pub kind_of : List ℕ → Option Kind
kind_of word =
    if bytes_eq word (codes "table") then Some kind.Table else
    (if bytes_eq word (codes "feed") then Some kind.Feed else
    (if bytes_eq word (codes "input") then Some kind.Input else
    (if bytes_eq word (codes "bytes") then Some kind.Bytes else
    (if bytes_eq word (codes "line") then Some kind.Line else None))))

abbrev pub kind_in : Data → Option Kind
kind_in entry = option_and_then kind_of (option_and_then as_str (get (codes "kind") entry))

-- the model of an entry with `rows` and `else`
abbrev pub table_in : Data → Option HostModel
table_in entry = option_and_then (λ rows. option_map (Table rows) (other_in entry)) (rows_in entry)

-- the model of an entry with `values` and `else`
abbrev pub feed_in : Data → Option HostModel
feed_in entry = option_and_then (λ values. option_map (λ other. Feed values other 0) (other_in entry)) (values_in entry)

-- the model of an entry of this kind for a host of this name
abbrev pub model_of_kind : List ℕ → Data → Kind → Option HostModel
model_of_kind name entry kind.Table = table_in entry
model_of_kind name entry kind.Feed = feed_in entry
model_of_kind name entry kind.Input = Some (Input 0)
model_of_kind name entry kind.Bytes = Some Bytes
model_of_kind name entry kind.Line = Some (Line name)

-- the model of an entry; no other members than these count
abbrev pub model_in : List ℕ → Data → Option HostModel
model_in name entry = option_and_then (model_of_kind name entry) (kind_in entry)

-- an entry with a model is shaped
abbrev pub shaped_or_not : Option HostModel → Entry
shaped_or_not None = Misshaped
shaped_or_not (Some model) = Shaped model

abbrev pub entry_by : List ℕ → Option Data → Entry
entry_by name None = Missing
entry_by name (Some entry) = shaped_or_not (model_in name entry)

-- the host's entry in the table: the member of its name
abbrev pub entry_of : Data → Signature → Entry
entry_of table s = entry_by s.name (get s.name table)
