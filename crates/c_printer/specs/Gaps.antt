-- What stands before a word, of the code's own type.
use Rattle.c_printer.specs.declared.gap.Gap.{Gap}
use Rattle.c_printer.specs.declared.gap.Gap.TheVariants.{Tight, Spaced, Line, Apart}
use Rattle.c_printer.specs.Pieces as p

abbrev pub view_gap : Gap → p.Gap
view_gap Tight = p.tight
view_gap Spaced = p.spaced
view_gap (Line levels) = p.line levels
view_gap Apart = p.apart
