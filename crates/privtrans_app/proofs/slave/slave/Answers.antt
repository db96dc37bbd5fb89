use Rattle.std.proofs.Common.{sym, subst, rules}
use Rattle.privtrans_app.specs.Ending.{Ending}
use Rattle.privtrans_app.specs.SlaveRun.{IsWorkOver}
use Rattle.privtrans_app.proofs.SlaveLemmas.{none_said, work_comes}
use Rattle.privtrans_app.proofs.slave.slave.Goals as goal

pub returns-in-Ok-clause-ending : goal.returns-in-Ok-clause-ending
returns-in-Ok-clause-ending g c =
    subst (λ (e : Ending). IsWorkOver g.S.Spawner.inherits g.S.Link.came g.S.Link.sent g.S.Link.given c.args.spawner.now c.work.new.link e) (sym c.ended_by.ensures)
    (work_comes g.S.Spawner.inherits g.S.Link.came g.S.Link.sent g.S.Link.given c.args.spawner.now _ c.work.new.link c.in-Ok.ensures.sent c.in-Ok.ensures.given
    c.work.result c.work.ensures.ok c.work.ensures.err (search rules))

pub returns-in-Err-Failed-clause-ending : goal.returns-in-Err-Failed-clause-ending
returns-in-Err-Failed-clause-ending g c = none_said g.S.Link.sent g.S.Link.given c.args.spawner.now _ c.in-Err-Failed.ensures.sent c.in-Err-Failed.ensures.given

pub returns-in-Err-Memory-clause-ending : goal.returns-in-Err-Memory-clause-ending
returns-in-Err-Memory-clause-ending g c = none_said g.S.Link.sent g.S.Link.given c.args.spawner.now _ c.in-Err-Memory.ensures.sent c.in-Err-Memory.ensures.given
