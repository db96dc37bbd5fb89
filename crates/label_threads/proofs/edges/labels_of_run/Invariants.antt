use Rattle.std.proofs.Common.{◌≡◌, ◌++◌, drop}
use Rattle.std.specs.List.{flat_map}
use Rattle.label_threads.specs.OwnLabels.{labels_of}
use Rattle.label_threads.proofs.edges.labels_of_run.Given as goal

-- the edges so far, and then those of the other functions, are those of all of these
abbrev pub invariant-loop-f : goal.invariant-loop-f
invariant-loop-f g l = l.edges.items ++ flat_map (labels_of (g.P.Labelled.tree l.p)) (drop l.f-index l.functions) ≡ flat_map (labels_of (g.P.Labelled.tree l.p)) l.functions
