-- The trees of whole halves are plain.
use Rattle.std.proofs.Common.{◌++◌, Bool, true, false, map, length}
use Rattle.std.specs.Prelude.{◌&&◌, IsTrue}
use Rattle.std.specs.List.{list_all, range_with_len}
use Rattle.std.proofs.lemmas.Bool.{and_parts}
use Rattle.pt_base.proofs.Members.{all_true_append}
use Rattle.typed_tree.specs.WellFormed.{structs_sound}
use Rattle.pt_core.specs.CodeTree.{ProgramTree}
use Rattle.pt_core.specs.WellFormed.{are_in_order, global_fits, are_small, signature_fits, function_at, with_own, function_fits, callee_fits, callees, is_sound, is_well_formed, has_main, slave_program, is_well_formed_slave, entries_fit, monitor_program, is_well_formed_monitor}
use Rattle.c_printer.specs.Plain.{item_plain, items_plain}
use Rattle.half_trees.specs.Declarations.{struct_item, global_item}
use Rattle.half_trees.specs.Functions.{function_item}
use Rattle.half_trees.specs.Halves.{prototype_of, half_tree, slave_tree, monitor_tree}
use Rattle.half_trees_law.specs.Laws.{SlaveTreesArePlain, MonitorTreesArePlain}
use Rattle.half_trees_law.proofs.Tests.{all_mapped, all_mapped_where}
use Rattle.half_trees_law.proofs.Counts.{sound_structs_counted}
use Rattle.half_trees_law.proofs.Items.{Declared, struct_plain, prototype_plain, global_plain, function_plain}

half_plain : (monitor : Bool) (p : ProgramTree) → IsTrue (is_sound monitor p) → IsTrue (items_plain (half_tree monitor p))
half_plain monitor p h =
    let first = and_parts (are_in_order p && structs_sound p.structs 0 p.structs)
    ((list_all (global_fits p.structs) p.globals && are_small p.globals)
    && ((list_all (λ s. signature_fits p.structs s.1) p.signatures && list_all (function_fits monitor p) p.functions) && list_all (callee_fits monitor p) (callees p))) h in
    let sound = (and_parts (are_in_order p) (structs_sound p.structs 0 p.structs) first.0).1 in
    let second = and_parts (list_all (global_fits p.structs) p.globals && are_small p.globals)
    ((list_all (λ s. signature_fits p.structs s.1) p.signatures && list_all (function_fits monitor p) p.functions) && list_all (callee_fits monitor p) (callees p)) first.1 in
    let globals = (and_parts (list_all (global_fits p.structs) p.globals) (are_small p.globals) second.0).0 in
    let third = and_parts (list_all (λ s. signature_fits p.structs s.1) p.signatures && list_all (function_fits monitor p) p.functions) (list_all (callee_fits monitor p) (callees p)) second.1 in
    let functions = (and_parts (list_all (λ s. signature_fits p.structs s.1) p.signatures) (list_all (function_fits monitor p) p.functions) third.0).1 in
    let counted = sound_structs_counted p.structs sound in
    let d : Declared p = record { sound = sound; structs = counted; globals = globals } in
    all_true_append item_plain (map (struct_item p.structs) (range_with_len 0 (length p.structs))) (map (prototype_of monitor p) p.signatures ++ (map (global_item p.structs) p.globals ++ map (function_item p) p.functions))
    (all_mapped item_plain (struct_item p.structs) (λ n. struct_plain p.structs n counted) (range_with_len 0 (length p.structs)))
    (all_true_append item_plain (map (prototype_of monitor p) p.signatures) (map (global_item p.structs) p.globals ++ map (function_item p) p.functions)
    (all_mapped item_plain (prototype_of monitor p) (λ s. prototype_plain p.structs s.0 (with_own monitor (function_at p s.0) s.1)) p.signatures)
    (all_true_append item_plain (map (global_item p.structs) p.globals) (map (function_item p) p.functions)
    (all_mapped_where (global_fits p.structs) item_plain (global_item p.structs) (global_plain p.structs sound) p.globals globals)
    (all_mapped_where (function_fits monitor p) item_plain (function_item p) (function_plain monitor p d) p.functions functions)))

pub slaves_plain : SlaveTreesArePlain
unfolding is_well_formed_slave is_well_formed slave_tree
slaves_plain p h = half_plain false (slave_program p) (and_parts (is_sound false (slave_program p)) (has_main (slave_program p)) h).0

pub monitors_plain : MonitorTreesArePlain
unfolding is_well_formed_monitor monitor_tree
monitors_plain p h = half_plain true (monitor_program p) (and_parts (is_sound true (monitor_program p)) (entries_fit (monitor_program p) p.entries) h).0
