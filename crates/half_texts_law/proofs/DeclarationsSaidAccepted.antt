-- The code of both halves of an accepted program can be said: they share no global.
use Rattle.check_programs.specs.Programs.{checked_program}
use Rattle.half_names_law.proofs.SaidChecked.{programs_place_nulls}
use Rattle.half_texts_law.specs.DeclarationsSaid.{AcceptedHalvesAreSaid}
use Rattle.half_texts_law.proofs.DeclarationsSaidHalves.{slaves_said, monitors_said}
use Rattle.split_law.proofs.Accepted.{accepted_shares_nothing}
use Rattle.splitter.specs.Halves.{halves_of}
use Rattle.typed_tree.specs.TypedTree.{TypedTree}

pub accepted_said : AcceptedHalvesAreSaid
accepted_said items a well is =
    let t : TypedTree = (checked_program items).tree in
    let apart = accepted_shares_nothing t a is in
    let nulls = programs_place_nulls items in
    (slaves_said t (halves_of a.sides) well nulls apart.0, monitors_said t (halves_of a.sides) well nulls apart.0 apart.1)
