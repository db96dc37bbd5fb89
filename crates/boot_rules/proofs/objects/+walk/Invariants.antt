use Rattle.std.proofs.Common.{◌≡◌, ◌+◌, ◌-◌, ◌*◌, drop}
use Rattle.std.specs.List.{flat_map}
use Rattle.typed_tree.specs.declared.types.Field.{Field}
use Rattle.typed_tree.specs.declared.types.VarTy.TheVariants.{Struct}
use Rattle.typed_tree.specs.Cells.{leaves_of, repeated}
use Rattle.boot_rules.specs.Ranks.{rank}
use Rattle.boot_rules.specs.Walks.{past}
use Rattle.boot_rules.proofs.objects.+walk.Given as goal

abbrev pub decreases-past_object : goal.decreases-past_object
decreases-past_object l = rank l.ty

abbrev pub decreases-past_fields : goal.decreases-past_fields
decreases-past_fields l = 4 * l.n + 3

abbrev pub decreases-past_items : goal.decreases-past_items
decreases-past_items l = rank l.item + 1

-- the numbers that are left are those of the other fields
abbrev pub invariant-past_fields-loop-field : goal.invariant-past_fields-loop-field
invariant-past_fields-loop-field l =
    past (flat_map (λ (f : Field). leaves_of l.candidate.boot.now.structs f.ty) (drop l.field-index l.fields)) l.rest ≡ past (leaves_of l.candidate.boot.now.structs (Struct l.n)) l.fn.cells

-- and those of the other objects
abbrev pub invariant-past_items-loop : goal.invariant-past_items-loop
invariant-past_items-loop l =
    past (repeated (l.count - l.counter) (leaves_of l.candidate.boot.now.structs l.item)) l.rest ≡ past (repeated l.count (leaves_of l.candidate.boot.now.structs l.item)) l.fn.cells
