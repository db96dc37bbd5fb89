-- The sides of a program.
use Rattle.std.proofs.Common.{◌≡◌, ◌<◌, ◌≤◌, ◌^◌, List, Bool, length, map, refl, sym, subst}
use Rattle.std.specs.Prelude.{IsTrue}
use Rattle.std.proofs.lemmas.List.{length-map}
use Rattle.pt_base.specs.declared.ids.FnId.{FnId}
use Rattle.typed_tree.specs.declared.types.StructInfo.{StructInfo}
use Rattle.typed_tree.specs.Sizes.{sizes_of}
use Rattle.typed_tree.specs.TypedTree.{TypedTree}
use Rattle.typed_tree.specs.WellFormed.{is_well_formed}
use Rattle.reach.specs.Contexts.{InSlave}
use Rattle.reach.specs.Owned.{owned_table}
use Rattle.reach.specs.Reached.{IsReached}
use Rattle.reach.specs.Sorted.{Lists}
use Rattle.reach.specs.Tables.{function_ids, global_ids, places_true, slot_numbers}
use Rattle.reach.specs.declared.calls.Half.TheVariants.{Monitor, Slave}
use Rattle.sides.specs.declared.halves.Sides.{Sides}
use Rattle.sides.specs.declared.layout.Layout.{Layout}
use Rattle.sides.specs.Layouts.{IsLayout, function_objects}
use Rattle.sides.specs.LeafTables.{counts_of}
use Rattle.sides.specs.Leaves.{field_starts, leaf_count}
use Rattle.sides.specs.Marking.{seed_table}
use Rattle.sides.specs.Objects.{global_objects, result_start}
use Rattle.sides.specs.Placed.{AreSides}
use Rattle.sides.specs.Slots.{slots_of}
use Rattle.sides.proofs.PlaceLemmas.{Owns, half_lists, owned_lists, owned_told, seed_lists}
use Rattle.flow_law.specs.SlotsLaws.{HasFewSlots, SidesAreOfFewSlots, ThereAreSides}
use Rattle.flow_law.proofs.SlotsCounts.{all_functions_few, counts_long, globals_few, globals_long, sizes_long, structs_few, variables_long}
use Rattle.flow_law.proofs.SlotsTables.{reached}
use Rattle.flow_law.proofs.SlotsVecLists.{vec_of}

short : {X Y : Type 0} (xs : List X) (ys : List Y) → length xs ≡ length ys → length ys < 2 ^ 63 → length xs < 2 ^ 63
short xs ys long few = subst (λ n. n < 2 ^ 63) (sym long) few

-- ---- a layout

laid_out : (t : TypedTree) → IsTrue (is_well_formed t) → (l : Layout) × IsLayout t l
laid_out t h = (
  record {
    table = record {
      counts = vec_of (counts_of t.structs) (short (counts_of t.structs) t.structs (counts_long t.structs) (structs_few t h));
      starts = vec_of (map (λ (s : StructInfo). field_starts (leaf_count t.structs) 0 s.fields) t.structs)
          (short (map (λ (s : StructInfo). field_starts (leaf_count t.structs) 0 s.fields) t.structs) t.structs (length-map t.structs (λ (s : StructInfo). field_starts (leaf_count t.structs) 0 s.fields)) (structs_few t h));
      cells = vec_of (sizes_of t.structs) (short (sizes_of t.structs) t.structs (sizes_long t.structs) (structs_few t h));
    };
    globals = vec_of (global_objects t) (short (global_objects t) t.globals (globals_long t) (globals_few t h));
    variables = vec_of (function_objects t) (short (function_objects t) t.functions (variables_long t) (all_functions_few t h));
    results = result_start t;
  },
  record { table = record { counts = refl; starts = refl; cells = refl }; globals = refl; variables = refl; results = refl },
)

-- ---- all of it

module _ (t : TypedTree) (h : IsTrue (is_well_formed t)) (monitor slave : List Bool) (in_monitor : IsReached t Monitor monitor) (in_slave : IsReached t Slave slave) where
  abbrev slaves : List FnId
  slaves = function_ids (places_true 0 slave)

  are_slaves : Lists (λ (f : FnId). f.0) (InSlave t) (function_ids (places_true 0 slave))
  are_slaves = half_lists t Slave slave in_slave

  abbrev owned : List Bool
  owned = owned_table t slaves

  owns : Owns t (owned_table t (function_ids (places_true 0 slave)))
  owns = owned_told t slaves slaves owned owned are_slaves refl refl refl

  sides_of : HasFewSlots t → (s : Sides) × AreSides t s
  sides_of few =
      let layout = laid_out t h in (
        record {
          monitor = function_ids (places_true 0 monitor);
          slave = slaves;
          owned = global_ids (places_true 0 owned);
          slots = slots_of t;
          seeds = slot_numbers (places_true 0 (seed_table t slave owned (slots_of t) slaves));
          layout = layout.0;
          in_slave = vec_of slave (short slave t.functions in_slave.size (all_functions_few t h));
        },
        record {
          monitor = half_lists t Monitor monitor in_monitor;
          slave = are_slaves;
          owned = owned_lists t slaves are_slaves;
          slots = refl;
          few = few;
          seeds = seed_lists t slave owned in_slave owns slaves are_slaves;
          layout = layout.1;
          table = in_slave;
        },
      )

pub sides_exist : ThereAreSides
sides_exist t h few =
    let monitor = reached t h Monitor in
    let slave = reached t h Slave in
    sides_of t h monitor.0 slave.0 monitor.1 slave.1 few

pub sides_few : SidesAreOfFewSlots
sides_few t s are = subst (λ xs. length xs ≤ 2 ^ 25) are.slots are.few
