use Rattle.std.proofs.lemmas.List.{drop_all}
use Rattle.function_runs.proofs.JoinLemmas.{none_left}
use Rattle.label_threads.specs.OwnLabels.{labels_of}
use Rattle.label_threads.proofs.edges.labels_of_run.Goals as goal

pub returns : goal.returns
returns g c = none_left (labels_of (g.P.Labelled.tree c.args.p.now)) _ _ _ (drop_all c.loop-f.f-index _ c.loop-f-test.false) c.loop-f.invariant
