use Rattle.std.proofs.Common.{◌∙◌}
use Rattle.pt_base.specs.declared.ids.FnId.{FnId}
use Rattle.typed_tree.specs.TypedView.{view_typed}
use Rattle.reach.specs.declared.calls.Half.TheVariants.{Monitor, Slave}
use Rattle.reach.specs.Contexts.{InSlave}
use Rattle.reach.specs.Sorted.{Lists}
use Rattle.sides.proofs.PlaceLemmas.{half_listed, owned_listed, owned_told, seeds_listed}
use Rattle.sides.proofs.halves.place.Goals as goal

pub returns : goal.returns
returns c =
    let slave : Lists (λ (f : FnId). f.0) (InSlave (view_typed c.args.t.now)) c.in_ok-slave.slave.items = half_listed (view_typed c.args.t.now) Slave _ _ _ c.in_ok-in_slave.ensures c.deref-4.ensures.value c.in_ok-slave.ensures in
    record {
      monitor = half_listed (view_typed c.args.t.now) Monitor _ _ _ c.in_ok-in_monitor.ensures c.deref-3.ensures.value (c.new.ensures ∙ c.in_ok-monitor.ensures);
      slave = half_listed (view_typed c.args.t.now) Slave _ _ _ c.in_ok-in_slave.ensures c.deref-4.ensures.value (c.new-2.ensures ∙ c.in_ok-slave.ensures);
      owned = owned_listed (view_typed c.args.t.now) _ _ _ _ _ slave c.deref-5.ensures.value c.in_ok-named.ensures c.deref-6.ensures.value (c.new-3.ensures ∙ c.in_ok-owned.ensures);
      slots = c.new-4.ensures ∙ c.in_ok-layout.ensures.slots;
      seeds = seeds_listed (view_typed c.args.t.now) _ _ _ _ _ _ _ _ _ c.in_ok-in_slave.ensures (owned_told (view_typed c.args.t.now) _ _ _ _ slave c.deref-5.ensures.value c.in_ok-named.ensures c.deref-9.ensures.value) slave
          c.deref-8.ensures.value (c.deref-7.ensures.value ∙ c.in_ok-layout.ensures.slots) c.deref-10.ensures.value c.in_ok-marked.ensures c.deref-11.ensures.value (c.new-5.ensures ∙ c.in_ok-seeds.ensures);
      few = rw c.new-4.ensures c.in_ok-layout.ensures.few;
      layout = c.in_ok-layout.ensures.layout;
      table = c.in_ok-in_slave.ensures;
    }
