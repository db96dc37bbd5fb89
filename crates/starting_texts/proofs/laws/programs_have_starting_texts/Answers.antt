use Rattle.starting_texts.proofs.ExistingTexts.{policies_exist, tables_exist}
use Rattle.starting_texts.proofs.laws.programs_have_starting_texts.Goals as goal

pub returns-clause-tables : goal.returns-clause-tables
returns-clause-tables c = tables_exist

pub returns-clause-policies : goal.returns-clause-policies
returns-clause-policies c = policies_exist
