use Rattle.monitor_labels.proofs.PlaceLemmas.{function_is, scope_made}
use Rattle.monitor_labels.proofs.scope.scope_of.Goals as goal

pub returns-clause-is : goal.returns-clause-is
returns-clause-is c =
    scope_made _ c.deref.result.now c.deref-2.result.now c.args.f.0 c.in-Some.place c.deref.ensures.value c.deref-2.ensures.value c.requires.ordered c.requires.nodes c.in-Some.ensures
    c.index.ensures c.in_ok-variables.ensures c.in_ok-result.ensures c.in_ok-control.ensures

pub returns-clause-function : goal.returns-clause-function
returns-clause-function c =
    function_is c.deref.result.now c.args.p.now.functions.items c.args.f.0 c.in-Some.place c.index.result.now c.deref.ensures.value c.requires.ordered.functions c.in-Some.ensures c.index.ensures
