use Rattle.flow_picture.proofs.ExistingPictures.{programs_drawn}
use Rattle.flow_picture.proofs.laws.programs_have_pictures.Goals as goal

pub returns : goal.returns
returns c = programs_drawn
