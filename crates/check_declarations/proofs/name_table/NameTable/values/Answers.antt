use Rattle.std.proofs.Common.{◌∙◌, ap, map}
use Rattle.check_declarations.proofs.NameTableLemmas.{values_named}
use Rattle.check_declarations.proofs.name_table.NameTable.values.Goals as goal

pub returns : goal.returns
returns g c = c.values.ensures.rest ∙ values_named _ ∙ ap (map (λ e. e.1)) c.self.view_is
