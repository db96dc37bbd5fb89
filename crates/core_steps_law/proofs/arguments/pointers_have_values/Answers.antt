use Rattle.core_steps_law.proofs.ArgumentsPointers.{pointers_have_values}
use Rattle.core_steps_law.proofs.arguments.pointers_have_values.Goals as goal

pub returns : goal.returns
returns c = pointers_have_values
