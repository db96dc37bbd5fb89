-- The slots that are shown, as code finds them: by tables that have a truth for each function and each global.
use Rattle.std.specs.Prelude.{ℕ, List, [], Bool, false, ◌&&◌, get_or, is_some, map, replicate, slice_index_or}
use Rattle.std.specs.List.{filter, flat_map, range_with_len}
use Rattle.pt_base.specs.declared.ids.GlobalId.{GlobalId}
use Rattle.propagation.specs.Marks.{path_shown}
use Rattle.sides.specs.declared.slots.Owner.{Owner}
use Rattle.sides.specs.declared.slots.Owner.TheVariants.{Variable, Global, Result}
use Rattle.sides.specs.declared.slots.SlotInfo.{SlotInfo}
use Rattle.sides.specs.Slots.{no_slot}
use Rattle.reach.specs.Tables.{set_all, slot_number}
use Rattle.typed_tree.specs.TypedTree.{TypedTree}
use Rattle.flow_rules.specs.declared.accepted.Accepted.{Accepted}
use Rattle.flow_check.specs.declared.shown.ShownSlot.{ShownSlot}
use Rattle.flow_check.specs.Shown.{name_at}
use Rattle.flow_check.specs.SlotLines.{info_line}

abbrev pub owner_in : List SlotInfo → ℕ → Owner
owner_in slots n = (slice_index_or slots n no_slot).owner

-- of so many globals, which are these
abbrev pub owned_table : ℕ → List GlobalId → List Bool
owned_table count globals = set_all (replicate count false) (map (λ g. g.0) globals)

-- by tables of the slave's functions and globals
abbrev pub is_slaves : List Bool → List Bool → Owner → Bool
is_slaves functions globals (Variable f v) = get_or functions f.0 false
is_slaves functions globals (Global g) = get_or globals g.0 false
is_slaves functions globals (Result f) = false

abbrev pub is_kept : Accepted → List Bool → ℕ → Bool
is_kept a globals n = is_slaves a.sides.in_slave.items globals (owner_in a.sides.slots n) && is_some (path_shown a.marks (slot_number n))

abbrev pub kept : TypedTree → List SlotInfo → ℕ → ShownSlot
kept t slots n = record { at = name_at t (owner_in slots n); slot = n }

-- of the first so many, by number
abbrev pub kept_by : TypedTree → Accepted → List Bool → ℕ → List ShownSlot
kept_by t a globals count = map (kept t a.sides.slots) (filter (is_kept a globals) (range_with_len 0 count))

-- the lines of these, by the list of all slots
abbrev pub kept_lines : TypedTree → List SlotInfo → List ShownSlot → List ℕ
kept_lines t slots = flat_map (λ s. info_line t (slice_index_or slots s.slot no_slot))
