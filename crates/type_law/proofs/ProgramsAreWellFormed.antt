-- The law of programs, by the laws of their parts.
use Rattle.type_law.proofs.DeclarationsSpecifierLemmas.{specifiers_are_sound}
use Rattle.type_law.proofs.DeclarationsObjectLemmas.{objects_are_sound, results_are_sound}
use Rattle.type_law.proofs.DeclarationsSizeLemmas.{sizes_are_sound}
use Rattle.type_law.proofs.DeclarationsLeavesLemmas.{leaves_are_sound}
use Rattle.type_law.proofs.DeclarationsStructLemmas.{structs_are_well_formed}
use Rattle.type_law.proofs.ExpressionsFits.{values_fit}
use Rattle.type_law.proofs.ExpressionsJudgments.{expressions_by}
use Rattle.type_law.specs.StatementsLaws.{BodiesAreSound}
use Rattle.type_law.proofs.StatementsBodies.{blocks_kept, bodies_sound}
use Rattle.type_law.proofs.SizesProgram.{typed_trees_are_small}
use Rattle.type_law.specs.ProgramsLaws.{ProgramsAreWellFormed}
use Rattle.type_law.proofs.ProgramLemmas.{Laws, programs_well_formed}

bodies_are_sound : BodiesAreSound
bodies_are_sound = bodies_sound (record {
  expressions = expressions_by specifiers_are_sound;
  values = values_fit;
  specifiers = specifiers_are_sound;
  objects = objects_are_sound;
  sizes = sizes_are_sound;
  leaves = leaves_are_sound;
})

-- the laws of the parts
pub laws : Laws
laws = record {
  specifiers = specifiers_are_sound;
  objects = objects_are_sound;
  results = results_are_sound;
  sizes = sizes_are_sound;
  leaves = leaves_are_sound;
  structs = structs_are_well_formed;
  bodies = bodies_are_sound;
  kept = blocks_kept;
  small = typed_trees_are_small;
}

pub programs_are_well_formed : ProgramsAreWellFormed
programs_are_well_formed = programs_well_formed laws
