use Rattle.std.proofs.Common.{inl}
use Rattle.pair_texts.specs.Seen.{texts_with}
use Rattle.pair_running.proofs.SpawnedPairBeginning.{refused_so}
use Rattle.pair_running.proofs.SpawnedPairServing.{stays_untouched}
use Rattle.pair_running.proofs.spawned_pair.spawned.run.Goals as goal

pub run_pair-requires : goal.run_pair-requires
run_pair-requires g c = record { texts = (texts_with c.args.program.now c.args.beside, record { begins = c.in-Ok.ensures; bytes = c.are_bytes.ensures }) }

pub returns-in-Ok-clause-served : goal.returns-in-Ok-clause-served
returns-in-Ok-clause-served g c = c.run_pair.ensures.served (texts_with c.args.program.now c.args.beside) (record { begins = c.in-Ok.ensures; bytes = c.are_bytes.ensures })

pub returns-in-Ok-clause-expected : goal.returns-in-Ok-clause-expected
returns-in-Ok-clause-expected g c = c.run_pair.ensures.expected (texts_with c.args.program.now c.args.beside) (record { begins = c.in-Ok.ensures; bytes = c.are_bytes.ensures })

pub returns-in-Err-Refused-clause-served : goal.returns-in-Err-Refused-clause-served
returns-in-Err-Refused-clause-served g c =
    let t = texts_with c.args.program.now c.args.beside in
    rw c.in-Err-Refused.field-0-is (refused_so c.args.beside.turns t c.begin.result _ c.in-Err-Refused.refusal c.begin.ensures c.in-Err-Refused.is c.in-Err-Refused.field-0-is, stays_untouched c.args.spawner.now c.args.out.now)

pub returns-in-Err-Refused-clause-expected : goal.returns-in-Err-Refused-clause-expected
returns-in-Err-Refused-clause-expected g c =
    let t = texts_with c.args.program.now c.args.beside in
    λ for_it. rw c.in-Err-Refused.field-0-is (refused_so c.args.beside.turns t c.begin.result _ c.in-Err-Refused.refusal c.begin.ensures c.in-Err-Refused.is c.in-Err-Refused.field-0-is)

pub returns-in-Err-Memory-clause-served : goal.returns-in-Err-Memory-clause-served
returns-in-Err-Memory-clause-served g c = inl (stays_untouched c.args.spawner.now c.args.out.now)
