use Rattle.std.proofs.Common.{◌≡◌, ◌∙◌, arith, length, subst}
use Rattle.typed_tree.specs.TypedView.{view_typed}
use Rattle.function_runs.specs.Runs.{AreRuns}
use Rattle.flow_threads.proofs.EdgeLemmas.{all_moves}
use Rattle.flow_threads.proofs.edges.moves_all.Goals as goal

pub returns : goal.returns
returns g c =
    let fs = c.as_slice.result.now in
    let runs = c.in_ok-runs.runs in
    let parts = c.in_ok-parts.parts in
    let count : c.len.result ≡ length fs = grind arith in
    let long : length parts.items ≡ length runs.items = omega (arith, c.in_ok-parts.ensures.len, parts.ok.0, runs.ok.0) in
    all_moves (view_typed c.args.t.now) c.args.sides.now fs runs.items parts.items c.in_ok-moves.moves.items c.requires.sides (c.as_slice.ensures.value ∙ c.in_ok-functions.ensures.these)
    (subst (λ n. AreRuns n runs.items) count c.in_ok-runs.ensures.runs) long
    (λ i d e lt. c.in_ok-parts.ensures.each i d e (omega (arith, runs.ok.0, lt))) c.in_ok-moves.ensures
