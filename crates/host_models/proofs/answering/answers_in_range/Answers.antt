use Rattle.host_models.proofs.AnswerLemmas.{fits_in_range}
use Rattle.host_models.proofs.answering.answers_in_range.Goals as goal

pub returns : goal.returns
returns c = fits_in_range
