-- What contracts see of the texts of halves.
use Rattle.program_split.specs.Split as s
use Rattle.program_split.specs.declared.half_texts.HalfTexts.{HalfTexts}

abbrev pub view_texts : HalfTexts → s.HalfTexts
view_texts h = record { slave = h.slave.items; monitor = h.monitor.items }
