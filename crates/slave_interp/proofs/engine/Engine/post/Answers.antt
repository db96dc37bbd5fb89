use Rattle.std.proofs.Common.{◌∙◌, ap, sym}
use Rattle.std.proofs.lemmas.Result.{on_ok_weaker}
use Rattle.std.specs.Option.{option_copied}
use Rattle.machine_memory.specs.Memory.{blocks_of}
use Rattle.slave_interp.proofs.CallLemmas.{few_arguments, may_return, no_plain_cell, no_plain_result, posted_runs, room_to_post, signature_there, structs_there, whole}
use Rattle.slave_interp.proofs.engine.Engine.post.Goals as goal

pub unreachable-requires : goal.unreachable-requires
unreachable-requires c = signature_there c.args.self.now c.args.callee.0 c.args.args.now c.requires.ready (ap option_copied (sym c.in_default.is) ∙ c.signature.ensures)

pub post_results-requires-clause-structs : goal.post_results-requires-clause-structs
post_results-requires-clause-structs c = structs_there c.args.self.now c.args.callee.0 c.args.args.now (blocks_of c.memory.result.now) c.as_slice.result.now c.in-Some.signature.now (record { memory = c.memory.ensures; structs_is = c.as_slice.ensures; signature = c.in-Some.ensures }) c.requires.ready

pub post_results-requires-clause-few : goal.post_results-requires-clause-few
post_results-requires-clause-few c = few_arguments c.args.self.now c.args.callee.0 c.args.args.now c.requires.ready

pub post_results-requires-clause-whole : goal.post_results-requires-clause-whole
post_results-requires-clause-whole c = whole c.args.self.now c.args.callee.0 c.args.args.now (blocks_of c.memory.result.now) c.as_slice.result.now c.in-Some.signature.now (record { memory = c.memory.ensures; structs_is = c.as_slice.ensures; signature = c.in-Some.ensures }) c.requires.ready

pub post_results-requires-clause-no_result : goal.post_results-requires-clause-no_result
post_results-requires-clause-no_result c = no_plain_result c.args.self.now c.args.callee.0 c.args.args.now (blocks_of c.memory.result.now) c.as_slice.result.now c.in-Some.signature.now (record { memory = c.memory.ensures; structs_is = c.as_slice.ensures; signature = c.in-Some.ensures }) c.requires.ready c.requires.known

pub post_results-requires-clause-no_cell : goal.post_results-requires-clause-no_cell
post_results-requires-clause-no_cell c = no_plain_cell c.args.self.now c.args.callee.0 c.args.args.now (blocks_of c.memory.result.now) c.as_slice.result.now c.in-Some.signature.now (record { memory = c.memory.ensures; structs_is = c.as_slice.ensures; signature = c.in-Some.ensures }) c.requires.ready c.requires.known

pub post_results-requires-clause-room : goal.post_results-requires-clause-room
post_results-requires-clause-room c = room_to_post c.args.self.now c.args.callee.0 c.args.args.now (blocks_of c.memory.result.now) c.as_slice.result.now c.in-Some.signature.now (record { memory = c.memory.ensures; structs_is = c.as_slice.ensures; signature = c.in-Some.ensures }) c.requires.ready

pub put_back-requires : goal.put_back-requires
put_back-requires c = may_return c.args.self.now c.args.callee.0 c.args.args.now (blocks_of c.memory.result.now) c.as_slice.result.now c.in-Some.signature.now (record { memory = c.memory.ensures; structs_is = c.as_slice.ensures; signature = c.in-Some.ensures }) c.requires.ready c.in_ok-returned.returned c.in_ok-returned.ensures.long

pub returns-clause-posted : goal.returns-clause-posted
returns-clause-posted c =
    on_ok_weaker c.put_back.result
    (λ back. posted_runs c.args.self.now c.args.callee.0 c.args.args.now (blocks_of c.memory.result.now) c.as_slice.result.now c.in-Some.signature.now (record { memory = c.memory.ensures; structs_is = c.as_slice.ensures; signature = c.in-Some.ensures }) c.requires.ready c.requires.known c.in_ok-returned.returned c.post_results.new.names c.put_back.new.machine c.in_ok-returned.ensures.posted back)
    c.put_back.ensures
