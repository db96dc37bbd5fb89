use Rattle.std.proofs.Common.{◌∙◌, ap, map}
use Rattle.pt_core.specs.CodeTree.{view_function, view_monitor}
use Rattle.monitor_labels.specs.Verdicts.{verdicts_among}
use Rattle.monitor_labels.proofs.PlaceLemmas.{ordered}
use Rattle.monitor_labels.proofs.VerdictLemmas.{all_listed, all_say}
use Rattle.monitor_labels.proofs.verdicts.verdicts_of.Goals as goal

pub returns-clause-these : goal.returns-clause-these
returns-clause-these c =
    c.in_ok-verdicts.ensures ∙ ap (λ gs. verdicts_among (view_monitor c.args.p.now) c.args.marks.now (map view_function gs)) c.deref.ensures.value
    ∙ all_listed (view_monitor c.args.p.now) c.args.marks.now

pub returns-clause-exactly : goal.returns-clause-exactly
returns-clause-exactly c =
    all_say (view_monitor c.args.p.now) c.args.marks.now c.in_ok-verdicts.verdicts.items c.requires.well_formed c.requires.marks
    (c.in_ok-verdicts.ensures ∙ ap (λ gs. verdicts_among (view_monitor c.args.p.now) c.args.marks.now (map view_function gs)) c.deref.ensures.value)

pub verdicts_among-requires-clause-ordered : goal.verdicts_among-requires-clause-ordered
verdicts_among-requires-clause-ordered c = ordered (view_monitor c.args.p.now) c.requires.well_formed
