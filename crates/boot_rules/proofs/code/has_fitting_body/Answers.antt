use Rattle.std.proofs.Common.{◌∙◌, sym}
use Rattle.boot_rules.proofs.CodeLemmas.{body_tested}
use Rattle.boot_rules.proofs.code.has_fitting_body.Goals as goal

pub returns : goal.returns
returns c = λ s is.
    c.body_fits.ensures
    ∙ body_tested c.args.candidate.now.boot.now c.args.function.now s _ _ _ _ _ _ c.names_of-names.ensures.structs c.names_of-names.ensures.globals c.names_of-names.ensures.signatures c.as_slice.ensures (sym is) c.deref.ensures.value
