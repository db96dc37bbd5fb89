use Rattle.std.proofs.Common.{inl, inr, false, true, refl, subst}
use Rattle.machine_memory.specs.Held.{IsReading}
use Rattle.machine_memory.specs.declared.held.Reading.{Reading}
use Rattle.machine_memory.proofs.held.alike_among.Goals as goal

pub returns-in-Signed : goal.returns-in-Signed
returns-in-Signed c =
    let r = subst (λ (k : Reading). IsReading c.args.types.now false k) c.in-Signed.is c.requires in
    (false, inr (refl, refl, r.1))

pub returns-in-Wide : goal.returns-in-Wide
returns-in-Wide c =
    let r = subst (λ (k : Reading). IsReading c.args.types.now false k) c.in-Wide.is c.requires in
    (true, inr (refl, refl, r.1))

pub returns-in-Each : goal.returns-in-Each
returns-in-Each c = (false, inl refl)
