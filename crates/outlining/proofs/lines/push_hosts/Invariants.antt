use Rattle.std.proofs.Common.{◌≡◌, ◌++◌, drop, map}
use Rattle.pt_base.specs.declared.ids.FnId.{FnId}
use Rattle.typed_tree.specs.TypedView.{view_typed}
use Rattle.outlining.specs.OutlineTexts.{hosts_text}
use Rattle.outlining.proofs.lines.push_hosts.Given as goal

abbrev pub invariant-loop-host : goal.invariant-loop-host
invariant-loop-host l =
    l.text.items ++ hosts_text (view_typed l.t) (map (λ (f : FnId). f.0) (drop l.host-index l.hosts)) ≡ l.fn.text.items ++ hosts_text (view_typed l.t) (map (λ (f : FnId). f.0) l.fn.hosts)
