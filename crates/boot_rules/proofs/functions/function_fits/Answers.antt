use Rattle.std.proofs.Common.{◌∙◌, ap, false}
use Rattle.pt_core.specs.CodeTree.{view_boot, view_function}
use Rattle.pt_core.specs.WellFormed.{boot_program, function_by}
use Rattle.boot_rules.proofs.functions.function_fits.Goals as goal

pub returns-in-Some : goal.returns-in-Some
returns-in-Some c = c.fits_signature.ensures ∙ ap (function_by false (boot_program (view_boot c.args.candidate.now.boot.now)) (view_function c.args.function.now)) c.in-Some.ensures

pub returns-in-None : goal.returns-in-None
returns-in-None c = ap (function_by false (boot_program (view_boot c.args.candidate.now.boot.now)) (view_function c.args.function.now)) c.in-None.ensures
