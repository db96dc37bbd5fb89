-- Stretches of a text: the empty one at its beginning, and their order.
use Rattle.std.specs.declared.cmp.Ordering.{Ordering}
use Rattle.std.specs.Ordering.{nat_cmp, ordering_then}
use Rattle.pt_base.specs.declared.span.Span.{Span}

-- of what stands in no text
abbrev pub nowhere : Span
nowhere = record { from = 0; to = 0 }

-- by where they begin, then by where they end
abbrev pub span_cmp : Span → Span → Ordering
span_cmp a b = ordering_then (nat_cmp a.from b.from) (nat_cmp a.to b.to)
