use Rattle.std.proofs.Common.{refl}
use Rattle.machine_memory.specs.Memory.{live_count}
use Rattle.machine_memory.proofs.ClearLemmas.{zero-put, zero-sized, zero-within}
use Rattle.machine_memory.proofs.memory.MachineMemory.zero.Goals as goal

pub zero-requires : goal.zero-requires
zero-requires c =
    zero-within c.args.self.now c.args.depth c.args.number c.args.var c.args.start c.args.count c.index_mut.result.now c.requires.stands c.index_mut.ensures.value c.requires.place

pub invariant_of-self : goal.invariant_of-self
invariant_of-self c = record {
  sized = zero-sized c.args.self.now c.args.depth c.args.number c.args.var c.args.start c.args.count c.index_mut.result.now c.zero.new.self c.requires.stands c.index_mut.ensures.value c.zero.ensures c.requires.place;
}

pub returns-clause-cleared : goal.returns-clause-cleared
unfolding live_count
returns-clause-cleared c =
    zero-put c.args.self.now _ c.args.depth c.args.number c.args.var c.args.start c.args.count c.index_mut.result.now c.zero.new.self
    (record { layouts = refl; frames = refl; live = refl; globals = refl; received = refl; read = c.index_mut.ensures.value; within = c.requires.stands.is_live })
    c.requires.stands c.zero.ensures c.requires.place
