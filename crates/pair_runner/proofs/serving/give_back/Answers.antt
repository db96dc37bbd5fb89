use Rattle.std.proofs.Common.{◌≡◌, Err, rules}
use Rattle.pair_runner.specs.Faults.{of_link}
use Rattle.pair_runner.proofs.Parts.{part_of_whole}
use Rattle.pair_runner.proofs.Stuck.{stuck_link}
use Rattle.pair_runner.proofs.serving.give_back.Goals as goal

pub returns-in_err-send_reply-clause-err : goal.returns-in_err-send_reply-clause-err
returns-in_err-send_reply-clause-err g c =
    let is : c.from_residual-in_err-send_reply.result ≡ Err (of_link c.in_err-send_reply.field-0.0) = search rules in
    rw is (stuck_link c.in_err-send_reply.field-0.0 _ (record { parts = c.in_err-send_reply.ensures.err; writes = part_of_whole _ _ _ c.in_ok-write_out.ensures.ok }))
