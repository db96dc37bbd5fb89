use Rattle.std.proofs.Common.{◌≡◌, ℕ, List, [], Ok, Err, arith, rules, subst}
use Rattle.pt_core.specs.CodeTree.{view_boot}
use Rattle.slave_interp.specs.Slaves.{IsSlave}
use Rattle.boot_rules.specs.Answers.{IsGoodBootOf}
use Rattle.pair_runner.specs.Sending.{Parts, Talks}
use Rattle.slave_runner.specs.declared.fault.WorkFault.TheVariants.{Memory}
use Rattle.slave_runner.specs.Faults.{of_boot}
use Rattle.slave_runner.proofs.BootLemmas.{boot_refused, whole_breaks}
use Rattle.slave_runner.proofs.WorkLemmas.{work_begins}
use Rattle.slave_runner.proofs.TurnLemmas.{runs_begin}
use Rattle.slave_runner.proofs.LinkLemmas.{idle, joins_parts}
use Rattle.slave_runner.proofs.beginning.begin.Goals as goal

pub returns-in_err-bytes-clause-err : goal.returns-in_err-bytes-clause-err
returns-in_err-bytes-clause-err g c =
    let is : c.from_residual.result ≡ Err c.in_err-bytes.field-0.0 = search rules in
    rw is c.in_err-bytes.ensures.err

pub returns-in_err-boot-clause-err : goal.returns-in_err-boot-clause-err
returns-in_err-boot-clause-err g c =
    let is : c.from_residual-in_err-boot.result ≡ Err (of_boot c.in_err-boot.field-0.0) = search rules in
    rw is (boot_refused (Talks g.L.Link.came g.L.Link.sent g.L.Link.given c.args.link.now c.read_pieces.new.link) (Parts g.L.Link.sent g.L.Link.given c.read_pieces.new.link c.read_pieces.new.link) (Parts g.L.Link.sent g.L.Link.given c.args.link.now c.read_pieces.new.link) c.in_ok-bytes.bytes.items c.read_pieces.new.reader c.in_err-boot.field-0.0 (joins_parts g.L.Link.came g.L.Link.sent g.L.Link.given c.args.link.now c.read_pieces.new.link c.read_pieces.new.link) (idle g.L.Link.sent g.L.Link.given c.read_pieces.new.link []) c.in_ok-bytes.ensures.ok
    (subst (λ (l : List ℕ). IsGoodBootOf l (Err c.in_err-boot.field-0.0)) c.deref.ensures.value c.in_err-boot.ensures))

pub returns-in_err-slave-clause-err : goal.returns-in_err-slave-clause-err
returns-in_err-slave-clause-err g c =
    let is : c.from_residual-in_err-slave.result ≡ Err Memory = search rules in
    rw is (whole_breaks (Talks g.L.Link.came g.L.Link.sent g.L.Link.given c.args.link.now c.read_pieces.new.link) (Parts g.L.Link.sent g.L.Link.given c.read_pieces.new.link c.read_pieces.new.link) (Parts g.L.Link.sent g.L.Link.given c.args.link.now c.read_pieces.new.link) c.in_ok-bytes.bytes.items c.read_pieces.new.reader (joins_parts g.L.Link.came g.L.Link.sent g.L.Link.given c.args.link.now c.read_pieces.new.link c.read_pieces.new.link) c.in_ok-bytes.ensures.ok (idle g.L.Link.sent g.L.Link.given c.read_pieces.new.link []))

pub returns-clause-ok : goal.returns-clause-ok
returns-clause-ok g c =
    let good = subst (λ (l : List ℕ). IsGoodBootOf l (Ok c.in_ok-boot.boot)) c.deref.ensures.value c.in_ok-boot.ensures in
    (view_boot c.in_ok-boot.boot, c.in_ok-slave.ensures, work_begins (Talks g.L.Link.came g.L.Link.sent g.L.Link.given c.args.link.now c.read_pieces.new.link) c.in_ok-bytes.bytes.items c.read_pieces.new.reader (view_boot c.in_ok-boot.boot) c.in_ok-bytes.ensures.ok (record { spelled = good.0; well_formed = good.1 }))

pub returns-clause-runs : goal.returns-clause-runs
returns-clause-runs g c =
    let good = subst (λ (l : List ℕ). IsGoodBootOf l (Ok c.in_ok-boot.boot)) c.deref.ensures.value c.in_ok-boot.ensures in
    let bytes = c.in_ok-bytes.bytes in
    runs_begin (IsSlave c.in_ok-slave.slave) (view_boot c.in_ok-boot.boot) bytes.items c.read_pieces.new.reader (record { spelled = good.0; well_formed = good.1 }) (omega (arith, bytes.ok.0, bytes.ok.1, bytes.small)) c.in_ok-slave.ensures c.in_ok-bytes.ensures.ok.sound c.in_ok-bytes.ensures.short
