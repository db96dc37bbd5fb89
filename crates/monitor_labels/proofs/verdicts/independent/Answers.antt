use Rattle.std.proofs.Common.{◌∙◌, ap, map}
use Rattle.std.specs.List.{flat_map}
use Rattle.pt_base.specs.declared.ids.FnId.{FnId}
use Rattle.pt_core.specs.CodeTree.{view_monitor}
use Rattle.monitor_labels.specs.Verdicts.{independent_if}
use Rattle.monitor_labels.proofs.VerdictLemmas.{independent_exactly, independent_left}
use Rattle.monitor_labels.proofs.verdicts.independent.Goals as goal

pub returns-clause-these : goal.returns-clause-these
returns-clause-these c =
    independent_left (view_monitor c.args.p.now) c.args.marks.now c.in_ok-verdicts.verdicts.items c.in_ok-functions.functions.items
    c.in_ok-verdicts.ensures.these (c.in_ok-functions.ensures ∙ ap (flat_map independent_if) c.deref.ensures.value)

pub returns-clause-exactly : goal.returns-clause-exactly
returns-clause-exactly c =
    independent_exactly (view_monitor c.args.p.now) c.args.marks.now (map (λ (f : FnId). f.0) c.in_ok-functions.functions.items) c.requires.well_formed c.requires.marks
    (independent_left (view_monitor c.args.p.now) c.args.marks.now c.in_ok-verdicts.verdicts.items c.in_ok-functions.functions.items
    c.in_ok-verdicts.ensures.these (c.in_ok-functions.ensures ∙ ap (flat_map independent_if) c.deref.ensures.value))
