use Rattle.std.proofs.Common.{◌≡◌, ◌∙◌, ◌++◌, ap, ap₂, arith, map}
use Rattle.pt_core.specs.CodeTree.{numbered, view_function, view_global, view_monitor}
use Rattle.monitor_labels.specs.Counting.{function_slots, global_slots, result_slots}
use Rattle.monitor_labels.specs.Nodes.{results_start}
use Rattle.monitor_labels.specs.Seeds.{marked_structs}
use Rattle.monitor_labels.proofs.SeedLemmas.{seeds_are}
use Rattle.monitor_labels.proofs.seeds.seeds_of.Goals as goal

pub returns : goal.returns
returns c =
    let known : c.deref.result.now ≡ marked_structs c.args.p.now.structs = c.deref.ensures.value ∙ c.in_ok-known.ensures ∙ ap marked_structs c.as_slice.ensures in
    let again : c.deref-3.result.now ≡ marked_structs c.args.p.now.structs = c.deref-3.ensures.value ∙ c.in_ok-known.ensures ∙ ap marked_structs c.as_slice.ensures in
    let begun : c.args.places.now.variables.end ≡ results_start (view_monitor c.args.p.now) = omega (arith, c.requires.places.variables.end) in
    seeds_are (view_monitor c.args.p.now) c.args.places.now.variables.end c.args.places.now.globals c.new-seeds.result.items c.add_functions.new.seeds.items c.add_results.new.seeds.items c.add_globals.new.seeds.items
    c.requires.ordered begun c.requires.places.globals c.new-seeds.ensures.items
    (c.in_ok-add_functions.ensures ∙ ap₂ (λ k fs. c.new-seeds.result.items ++ function_slots k 0 (map view_function fs)) known c.deref-2.ensures.value)
    (c.in_ok-add_results.ensures ∙ ap (λ ss. c.add_functions.new.seeds.items ++ result_slots c.args.places.now.variables.end (numbered ss)) c.as_slice-2.ensures)
    (c.in_ok-add_globals.ensures ∙ ap₂ (λ k gs. c.add_results.new.seeds.items ++ global_slots k c.args.places.now.globals (map view_global gs)) again c.as_slice-3.ensures)
