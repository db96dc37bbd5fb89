-- All that a slave says has a spelling.
use Rattle.std.proofs.Common.{◌≡◌, ℕ, zero, suc, refl, List, [], ◌∷◌, Option, Some, None}
use Rattle.std.specs.Prelude.{IfSome}
use Rattle.wire.specs.declared.message.Message.{Message}
use Rattle.wire.specs.declared.message.ReplyBody.{ReplyBody}
use Rattle.marshalling_law.specs.CallsSpelled.{HasSpelling}
use Rattle.pair_protocol.specs.SlaveRun as run
use Rattle.pair_protocol.specs.SlaveRun.{with_said}
use Rattle.pair_meaning.specs.Pair.{the_sides}
use Rattle.pair_meaning.specs.SlaveRun.{Slave, Doing, goes, waits_for, is_over, longest, mode_by, slave_of, slave_step}
use Rattle.slave_soundness_law.specs.MessagesFormat.{IsInFormat}
use Rattle.slave_soundness_law.specs.MessagesLaws.{AllAreSpelled, ReachedSlavesAreInFormat, SaysSpelled, SpokenMessagesAreSpelled}
use Rattle.slave_soundness_law.proofs.MessagesBeginning.{slaves_begin_in_format}
use Rattle.slave_soundness_law.proofs.MessagesStepping.{steps_are_spelled}
use Rattle.slave_soundness_law.proofs.MessagesTaking.{takers_stay_in_format}

said_and : (o : Option Message) (messages : List Message) → IfSome o HasSpelling → AllAreSpelled messages → AllAreSpelled (with_said o messages)
said_and None messages h k = k
said_and (Some m) messages h k = (h, k)

ready_in_format : (x : Slave) (replies : List ReplyBody) → IsInFormat x → IsInFormat (run.ready the_sides x replies).slave
ready_in_format x replies h = go x.doing replies
  where
    go : (d : Doing) (rs : List ReplyBody) → IsInFormat (run.ready_in the_sides (mode_by d) x rs).slave
    go goes rs = h
    go is_over rs = h
    go (waits_for f args) [] = h
    go (waits_for f args) (r ∷ rs) = takers_stay_in_format x r h

-- where it comes, and what it says
record Talks (at : run.At Slave Message ReplyBody) : Type 0 where
  stays : IsInFormat at.slave
  spelled : AllAreSpelled at.said

talks : (n : ℕ) (x : Slave) (replies : List ReplyBody) → IsInFormat x → Talks (run.slave_at the_sides n x replies)
talks zero x replies h = record { stays = ready_in_format x replies h; spelled = tt }
talks (suc n) x replies h = go y.slave.doing refl (λ k. talks n (slave_step y.slave).slave y.left k)
  where
    y : run.Ready Slave ReplyBody
    y = run.ready the_sides x replies

    go : (d : Doing) → y.slave.doing ≡ d → (IsInFormat (slave_step y.slave).slave → Talks (run.slave_at the_sides n (slave_step y.slave).slave y.left)) →
        Talks (run.moved_on the_sides (mode_by d) y (run.slave_at the_sides n (slave_step y.slave).slave y.left))
    go goes is later =
        let says : SaysSpelled (slave_step y.slave) = steps_are_spelled y.slave (ready_in_format x replies h) is in
        let rest : Talks (run.slave_at the_sides n (slave_step y.slave).slave y.left) = later says.stays in
        record { stays = rest.stays; spelled = said_and (slave_step y.slave).said _ says.spelled rest.spelled }
    go (waits_for f args) is later = record { stays = ready_in_format x replies h; spelled = tt }
    go is_over is later = record { stays = ready_in_format x replies h; spelled = tt }

pub reached_slaves_are_in_format : ReachedSlavesAreInFormat
reached_slaves_are_in_format b bytes spells well replies k = (talks k (slave_of b) replies (slaves_begin_in_format b bytes spells well)).stays

pub spoken_messages_are_spelled : SpokenMessagesAreSpelled
spoken_messages_are_spelled b bytes spells well replies = (talks (longest b) (slave_of b) replies (slaves_begin_in_format b bytes spells well)).spelled
