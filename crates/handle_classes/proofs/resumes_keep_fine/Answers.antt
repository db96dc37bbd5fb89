use Rattle.handle_classes.proofs.Outside.{resumes_keep_fine}
use Rattle.handle_classes.proofs.resumes_keep_fine.Goals as goal

pub returns : goal.returns
returns c = resumes_keep_fine
