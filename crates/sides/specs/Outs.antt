-- Parameters through which something comes back, as code sees them.
use Rattle.std.specs.Prelude.{◌≡◌, ℕ, ◌+◌, List, [], ◌∷◌, ◌++◌, Option, None, Some, Bool, true, false, ◌||◌, if◌then◌else◌, map, slice_get, slice_index_or}
use Rattle.std.specs.List.{Contains, filter, flat_map, range_with_len}
use Rattle.pt_base.specs.declared.ids.FnId.{FnId}
use Rattle.typed_tree.specs.TypedTree.{TypedTree}
use Rattle.typed_tree.specs.Lookup.{function_at}
use Rattle.sides.specs.declared.objects.Object.{Object}
use Rattle.sides.specs.declared.outs.Out.{Out}
use Rattle.sides.specs.declared.outs.Sealed.{Sealed}
use Rattle.sides.specs.declared.slots.SlotInfo.{SlotInfo}
use Rattle.sides.specs.Leaves.{leaf_count}
use Rattle.sides.specs.Objects.{variable_objects}
use Rattle.sides.specs.Seeds.{gives_back, seals_all}
use Rattle.sides.specs.Slots.{no_slot}
use Rattle.reach.specs.Tables.{set_all}

-- the leaf j comes back secret
abbrev pub is_back : Bool → ℕ → List SlotInfo → ℕ → Bool
is_back all first slots j = all || (slice_index_or slots (first + j) no_slot).marked

abbrev pub out_at : TypedTree → Bool → Option Object → Option Out
out_at t all None = None
out_at t all (Some x) = Some (record { first = x.start; count = leaf_count t.structs x.ty; all = all })

abbrev pub out_param : TypedTree → FnId → ℕ → Option Out
out_param t g k = if gives_back (function_at t g) k then out_at t (seals_all (function_at t g) k) (slice_get (variable_objects t g.0) k) else None

-- the slots behind a start that come back secret
abbrev pub behind_start : List SlotInfo → Out → ℕ → List ℕ
behind_start slots out start = map (λ j. start + j) (filter (is_back out.all out.first slots) (range_with_len 0 out.count))

abbrev pub behind_out : List SlotInfo → Option Out → List ℕ → List ℕ
behind_out slots None starts = []
behind_out slots (Some out) starts = flat_map (behind_start slots out) starts

-- the leaves that these are of
abbrev pub out_of : Sealed → Out
out_of x = record { first = x.first; count = x.count; all = x.all }

-- what is remembered is added already
abbrev pub Remembers : List SlotInfo → List Bool → List Sealed → Type 0
Remembers slots table seen = (x : Sealed) → Contains seen x → set_all table (behind_start slots (out_of x) x.start) ≡ table

-- it is remembered now, and whether it was before
abbrev pub IsNoted : Bool → List Sealed → List Sealed → Sealed → Type 0
IsNoted true before after x = after ≡ before ++ x ∷ []
IsNoted false before after x = (after ≡ before) × Contains before x
