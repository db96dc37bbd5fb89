use Rattle.std.proofs.Common.{sym, subst, ◌∙◌, arith}
use Rattle.wire.proofs.Bytes.{IsBytes-from}
use Rattle.pt_core.specs.CodeTree.{view_boot}
use Rattle.boot_fields.specs.Reading.{Fails, deepest, boot_at}
use Rattle.boots.proofs.BootLaws.{read_alone, bad_is_no_boot, only_read, none_left, some_left}
use Rattle.boots.proofs.reading.boot_of.Goals as goal

pub returns-then-not-is_empty : goal.returns-then-not-is_empty
returns-then-not-is_empty c = λ b s.
    let same = only_read deepest c.args.bytes.now c.in-Ok.rest.now (view_boot c.in-Ok.boot) b c.in-Ok.ensures s in
    some_left c.in-Ok.rest.now (sym c.is_empty.ensures ∙ c.if-not-is_empty.true) same.1

pub returns-else-not-is_empty : goal.returns-else-not-is_empty
returns-else-not-is_empty c =
    read_alone deepest c.args.bytes.now c.in-Ok.rest.now (view_boot c.in-Ok.boot) (IsBytes-from c.args.bytes.now (λ i. omega (arith, c.type_inv.bytes i))) c.in-Ok.ensures
    (none_left c.in-Ok.rest.now (sym c.is_empty.ensures ∙ c.if-not-is_empty.false))

pub returns-in-Err-Bad : goal.returns-in-Err-Bad
returns-in-Err-Bad c = bad_is_no_boot deepest c.args.bytes.now (subst (λ e. Fails e (boot_at deepest c.args.bytes.now)) c.in-Err-Bad.field-0-is c.in-Err-Bad.ensures)
