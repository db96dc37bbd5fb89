-- The laws of expressions, as they are stated.
use Rattle.std.proofs.Common.{◌≡◌}
use Rattle.c_lower_law.proofs.Expressions.{ValuesAgree, EffectsAgree, ObjectsAgree}
use Rattle.c_lower_law.proofs.Law.{value_law, effects_law, object_law}

pub values_agree : ValuesAgree
values_agree s e n st st' k h plain from temps alike = (value_law e s n k h plain from temps).runs st st' alike

pub effects_agree : EffectsAgree
effects_agree s e n st st' k h from temps alike = effects_law e s n k h from temps st st' alike

pub objects_agree : ObjectsAgree
objects_agree s e n j st st' k h is from temps alike = object_law e s n j k h is from temps st st' alike
