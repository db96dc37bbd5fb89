use Rattle.std.proofs.Common.{◌∙◌, ap}
use Rattle.check_declarations.specs.NameTables.{number_of}
use Rattle.check_declarations.proofs.NameTableLemmas.{numbers}
use Rattle.check_declarations.proofs.name_table.NameTable.number_of.Goals as goal

pub returns-in_err-place : goal.returns-in_err-place
returns-in_err-place g c = c.from_residual.ensures ∙ c.in_err-place.ensures.index ∙ numbers c.self.inside.entries.entries c.args.name.now ∙ ap (λ t. number_of t c.args.name.now) c.self.view_is

pub returns : goal.returns
returns g c = c.in_ok-place.ensures.index ∙ numbers c.self.inside.entries.entries c.args.name.now ∙ ap (λ t. number_of t c.args.name.now) c.self.view_is
