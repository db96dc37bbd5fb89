use Rattle.std.proofs.Common.{◌∙◌, ap, refl, sym}
use Rattle.std.specs.Option.{option_copied}
use Rattle.machine_memory.specs.Memory.{blocks_of}
use Rattle.slave_interp.proofs.CallLemmas.{few_arguments, packed_is, signature_there, structs_there, whole}
use Rattle.slave_interp.proofs.engine.Engine.packed.Goals as goal

pub unreachable-requires : goal.unreachable-requires
unreachable-requires c = signature_there c.args.self.now c.args.callee.0 c.args.args.now c.requires (ap option_copied (sym c.in_default.is) ∙ c.signature.ensures)

pub pack_args-requires-clause-few : goal.pack_args-requires-clause-few
pack_args-requires-clause-few c = few_arguments c.args.self.now c.args.callee.0 c.args.args.now c.requires

pub pack_args-requires-clause-whole : goal.pack_args-requires-clause-whole
pack_args-requires-clause-whole c =
    let e = c.args.self.now in
    whole e c.args.callee.0 c.args.args.now (blocks_of c.memory.result.now) e.structs c.in-Some.signature.now (record { memory = c.memory.ensures; structs_is = refl; signature = c.in-Some.ensures }) c.requires

pub reply_holds_number-requires : goal.reply_holds_number-requires
reply_holds_number-requires c =
    structs_there c.args.self.now c.args.callee.0 c.args.args.now (blocks_of c.memory.result.now) c.as_slice.result.now c.in-Some.signature.now (record { memory = c.memory.ensures; structs_is = c.as_slice.ensures; signature = c.in-Some.ensures }) c.requires

pub returns : goal.returns
returns c =
    packed_is c.args.self.now c.args.callee.0 c.args.args.now (blocks_of c.memory.result.now) c.as_slice.result.now c.in-Some.signature.now (record { memory = c.memory.ensures; structs_is = c.as_slice.ensures; signature = c.in-Some.ensures }) c.requires
    (record { body = c.in_ok-body.body; wants = c.in_ok-wants.wants }) c.in_ok-body.ensures c.in_ok-wants.ensures
