use denote.Param.Send.{sendable}
use Rattle.std.proofs.Common.{◌≡◌, ◌∙◌, ap, arith, length, map, subst}
use Rattle.function_runs.specs.Runs.{AreRuns}
use Rattle.label_threads.specs.OwnLabels.{number_in}
use Rattle.label_threads.proofs.LabelLemmas.{all_labels}
use Rattle.label_threads.proofs.Shared.{monitor_shared}
use Rattle.label_threads.proofs.edges.labels_joined.Goals as goal

pub label_parts-requires-sync-P : goal.label_parts-requires-sync-P
label_parts-requires-sync-P g c κs within = search (monitor_shared, sendable) depth 60 fits 20000

pub returns : goal.returns
returns g c =
    let fs = c.as_slice.result.now in
    let runs = c.in_ok-runs.runs in
    let parts = c.in_ok-parts.parts in
    let count : c.len.result ≡ length fs = grind arith in
    let long : length parts.items ≡ length runs.items = omega (arith, c.in_ok-parts.ensures.len, parts.ok.0, runs.ok.0) in
    all_labels c.args.p.now fs runs.items parts.items _ (c.as_slice.ensures.value ∙ c.in_ok-functions.ensures ∙ ap (map number_in) c.deref.ensures.value)
    (subst (λ n. AreRuns n runs.items) count c.in_ok-runs.ensures.runs) long
    (λ i d e lt. c.in_ok-parts.ensures.each i d e (omega (arith, runs.ok.0, lt))) c.in_ok-edges.ensures
