use Rattle.std.proofs.Common.{◌∙◌, sym}
use Rattle.typed_tree.specs.Cells.{leaves_of}
use Rattle.boot_rules.proofs.WalkLemmas.{fit_not, fit_to_end}
use Rattle.boot_rules.proofs.objects.cells_fit.Goals as goal

pub returns-in-Some : goal.returns-in-Some
returns-in-Some c = c.is_empty.ensures ∙ fit_to_end (leaves_of c.args.candidate.now.boot.now.structs c.args.ty) c.args.cells.now c.in-Some.rest.now (sym c.in-Some.ensures)

pub returns-in-None : goal.returns-in-None
returns-in-None c = fit_not (leaves_of c.args.candidate.now.boot.now.structs c.args.ty) c.args.cells.now (sym c.in-None.ensures)
