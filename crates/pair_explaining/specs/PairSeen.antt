-- What contracts see of names and texts.
use Rattle.std.specs.Prelude.{[]}
use Rattle.stages.specs.declared.climbs.GivenTexts.{GivenTexts}
use Rattle.stages.specs.Climb.{Texts, as_written}
use Rattle.pair_explaining.specs.declared.files.FileNames.{FileNames}
use Rattle.pair_explaining.specs.PairNames.{Names}

abbrev pub view_names : FileNames → Names
view_names names = record { program = names.program.now; host = names.host.now; policy = names.policy.now }

-- with no input
abbrev pub view_given : GivenTexts → Texts
view_given given = record { program = given.program.now; host = given.host.now; policy = given.policy.now; input = []; way = as_written }
