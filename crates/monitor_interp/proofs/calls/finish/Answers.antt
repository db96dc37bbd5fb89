use Rattle.std.proofs.Common.{◌∙◌, ◌++◌, ap, length, List, subst, sym}
use Rattle.std.specs.Prelude.{IsTrue}
use Rattle.typed_tree.specs.declared.types.StructInfo.{StructInfo}
use Rattle.machine_memory.specs.Memory.{blocks_of}
use Rattle.marshalling.specs.Leaves.{has_structs}
use Rattle.marshalling.specs.Replies.{kept_results, packed_results}
use Rattle.monitor_interp.proofs.CallLemmas.{any_message, counts_done, reply_done, result_done, served_done, stands_done, structs_done}
use Rattle.monitor_interp.proofs.calls.finish.Goals as goal

pub pack_results-requires-clause-structs : goal.pack_results-requires-clause-structs
pack_results-requires-clause-structs c =
    subst (λ (ss : List StructInfo). IsTrue (has_structs ss c.args.sig.now.params)) (sym c.as_slice.ensures)
    (structs_done c.args.program.now c.args.state.now c.args.call c.args.sig.now c.args.value c.args.turns c.requires.0 c.requires.1 c.requires.2 c.requires.3 c.requires.4 c.requires.5)

pub pack_results-requires-clause-counts : goal.pack_results-requires-clause-counts
pack_results-requires-clause-counts c = counts_done c.args.program.now c.args.state.now c.args.call c.args.sig.now c.args.value c.args.turns c.requires.0 c.requires.1 c.requires.2 c.requires.3 c.requires.4 c.requires.5

pub pack_results-requires-clause-served : goal.pack_results-requires-clause-served
pack_results-requires-clause-served c =
    served_done c.args.program.now c.args.state.now c.args.call c.args.sig.now c.args.value c.args.turns c.requires.0 c.requires.1 any_message c.requires.2 c.requires.3 c.requires.4 c.memory.result.now c.requires.5 c.memory.ensures

pub pack_results-requires-clause-value : goal.pack_results-requires-clause-value
pack_results-requires-clause-value c = result_done c.args.program.now c.args.state.now c.args.call c.args.sig.now c.args.value c.args.turns c.requires.0 c.requires.1 any_message c.requires.2 c.requires.3 c.requires.4 c.requires.5

pub returns : goal.returns
returns c x left m a v st done said =
    let reply = c.in_ok-reply.ensures.reply ∙ ap (λ (ss : List StructInfo). packed_results (length c.args.state.now.store) ss c.args.sig.now c.args.call.body.now (blocks_of c.memory.result.now) c.args.value) c.as_slice.ensures in
    let kept = c.in_ok-reply.ensures.kept ∙ ap (λ (ss : List StructInfo). c.args.state.now.store ++ kept_results ss c.args.sig.now c.args.call.body.now (blocks_of c.memory.result.now) c.args.value) c.as_slice.ensures in (
      c.wanted.ensures ∙ reply_done c.args.program.now c.args.state.now c.args.call c.args.sig.now c.args.value c.args.turns left m a v st c.memory.result.now c.in_ok-reply.reply done c.memory.ensures reply,
      stands_done c.args.program.now c.args.state.now c.args.call c.args.sig.now c.args.value c.args.turns left m x a v st c.memory.result.now c.take_blocks.new.machine c.pack_results.new.store (length c.as_slice-2.result.now) done said c.memory.ensures kept
          (ap length c.as_slice-2.ensures) c.in_ok-take_blocks.ensures,
    )
