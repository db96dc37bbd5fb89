-- An object: its one slot, or what it consists of.
use Rattle.std.proofs.Common.{arith}
use Rattle.pt_base.proofs.Results.{on_ok_implies}
use Rattle.flow_edges.proofs.PartLemmas.{as_type, one_slot}
use Rattle.flow_edges.proofs.items.add_object.Goals as goal

pub returns-in_ok-push-in-Int : goal.returns-in_ok-push-in-Int
returns-in_ok-push-in-Int c = λ structs.
    as_type structs c.args.parts.now.items c.args.slots.now.items _ c.args.start c.args.depth c.args.ty _ c.in-Int.is (one_slot structs c.args.parts.now.items c.args.slots.now.items _ c.args.start c.in_ok-push-in-Int.ensures.items)

pub returns-in-Struct : goal.returns-in-Struct
returns-in-Struct c =
    on_ok_implies c.add_struct.result _ _ (λ h structs. as_type structs c.args.parts.now.items c.args.slots.now.items _ c.args.start c.args.depth c.args.ty _ c.in-Struct.is (h structs c.args.slots.now.items)) c.add_struct.ensures

pub returns-in-Array : goal.returns-in-Array
returns-in-Array c =
    on_ok_implies c.add_elements.result _ _ (λ h structs. as_type structs c.args.parts.now.items c.args.slots.now.items _ c.args.start c.args.depth c.args.ty _ c.in-Array.is (h structs c.args.slots.now.items (grind arith))) c.add_elements.ensures

pub returns-in_ok-push-in-Pointer : goal.returns-in_ok-push-in-Pointer
returns-in_ok-push-in-Pointer c = λ structs.
    as_type structs c.args.parts.now.items c.args.slots.now.items _ c.args.start c.args.depth c.args.ty _ c.in-Pointer.is (one_slot structs c.args.parts.now.items c.args.slots.now.items _ c.args.start c.in_ok-push-in-Pointer.ensures.items)
