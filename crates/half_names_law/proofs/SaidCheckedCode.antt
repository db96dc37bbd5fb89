-- The code of a checked program can be said: both laws together.
use Rattle.check_programs.specs.Programs.{checked_program}
use Rattle.half_names_law.specs.SaidLaws.{CheckedFunctionsAreSaid}
use Rattle.half_names_law.proofs.SaidChecked.{programs_place_nulls}
use Rattle.half_names_law.proofs.SaidPrograms.{functions_said}

pub checked_said : CheckedFunctionsAreSaid
checked_said items n f body well here is = functions_said (checked_program items).tree n f body well (programs_place_nulls items) here is
