use Rattle.low_views_law.proofs.Unserved.{refused_messages_change_nothing}
use Rattle.low_views_law.proofs.refused_messages_change_nothing.Goals as goal

pub returns : goal.returns
returns c = refused_messages_change_nothing
