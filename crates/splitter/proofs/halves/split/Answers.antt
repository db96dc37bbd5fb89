use Rattle.std.proofs.Common.{◌≡◌, ◌∙◌, ℕ, Bool, List, ap, arith, length, map, not}
use Rattle.std.proofs.lemmas.List.{length-map}
use Rattle.typed_tree.specs.TypedTree.{view_function}
use Rattle.typed_tree.specs.TypedView.{view_typed}
use Rattle.pt_core.specs.CodeTree as core
use Rattle.splitter.specs.Halves.{called_by, chosen_functions, chosen_globals, halves_of}
use Rattle.splitter.specs.Sets.{function_numbers, global_numbers, is_set}
use Rattle.splitter.proofs.ProgramLemmas.{monitor_made, set_is, slave_made}
use Rattle.splitter.proofs.halves.split.Goals as goal

pub returns-clause-slave : goal.returns-clause-slave
returns-clause-slave c =
    let size : c.len-bound.result ≡ length (view_typed c.args.t.now).functions = omega (arith, c.len-bound.ensures, c.args.t.now.functions.ok.0, length-map c.args.t.now.functions.items view_function) in
    let in_slave = set_is _ _ _ _ _ c.in_ok-in_slave.ensures size (ap function_numbers c.as_slice.ensures) in
    let owned = set_is _ _ _ _ _ c.in_ok-owned.ensures (ap length c.as_slice-4.ensures) (ap global_numbers c.as_slice-3.ensures) in
    let called = set_is _ _ _ _ _ c.in_ok-asked.ensures size (ap (λ xs. called_by (map core.view_function xs)) c.deref.ensures.value) in
    slave_made (view_typed c.args.t.now) (halves_of c.args.a.now.sides) _ _ _ _ _ _ c.in_ok-slave.ensures (ap function_numbers c.as_slice-5.ensures) c.requires
    (c.in_ok-slave_code.ensures.slave ∙ ap (λ (s : List Bool). chosen_functions (is_set s) (map core.view_function c.args.code.items)) in_slave)
    (c.in_ok-slave_globals.ensures.slave ∙ ap (λ (s : List Bool). chosen_globals (is_set s) (view_typed c.args.t.now)) owned) called

pub returns-clause-monitor : goal.returns-clause-monitor
returns-clause-monitor c =
    let size : c.len-bound.result ≡ length (view_typed c.args.t.now).functions = omega (arith, c.len-bound.ensures, c.args.t.now.functions.ok.0, length-map c.args.t.now.functions.items view_function) in
    let in_slave = set_is _ _ _ _ _ c.in_ok-in_slave.ensures size (ap function_numbers c.as_slice.ensures) in
    let in_monitor = set_is _ _ _ _ _ c.in_ok-in_monitor.ensures size (ap function_numbers c.as_slice-2.ensures) in
    let owned = set_is _ _ _ _ _ c.in_ok-owned.ensures (ap length c.as_slice-4.ensures) (ap global_numbers c.as_slice-3.ensures) in
    let asked = set_is _ _ _ _ _ c.in_ok-asked.ensures size (ap (λ xs. called_by (map core.view_function xs)) c.deref.ensures.value) in
    let called = set_is _ _ _ _ _ c.in_ok-called.ensures size (ap (λ xs. called_by (map core.view_function xs)) c.deref-2.ensures.value) in
    monitor_made (view_typed c.args.t.now) (halves_of c.args.a.now.sides) _ _ _ _ _ _ _ _ _ c.in_ok-monitor.ensures (ap function_numbers c.as_slice-6.ensures) c.requires
    (c.in_ok-slave_code.ensures.slave ∙ ap (λ (s : List Bool). chosen_functions (is_set s) (map core.view_function c.args.code.items)) in_slave)
    (c.in_ok-slave_code.ensures.monitor ∙ ap (λ (s : List Bool). chosen_functions (is_set s) (map core.view_function c.args.code.items)) in_monitor)
    (c.in_ok-slave_globals.ensures.monitor ∙ ap (λ (s : List Bool). chosen_globals (λ n. not (is_set s n)) (view_typed c.args.t.now)) owned) asked c.in_ok-entries.ensures called
