use Rattle.std.proofs.Common.{ℕ, List, Option, Some, Ok, true, ap, subst, sym, ◌∙◌}
use Rattle.slave_runner.specs.Fronts.{Pieced}
use Rattle.slave_runner.proofs.BootLemmas.{pieced_empty}
use Rattle.slave_runner.proofs.beginning.add_piece.Goals as goal

pub returns-then-is_empty-clause-pieced : goal.returns-then-is_empty-clause-pieced
returns-then-is_empty-clause-pieced c =
    subst (λ (o : Option (List ℕ)). Pieced o c.args.bytes.now.items c.args.bytes.now.items (Ok true)) (ap (λ p. Some p) c.as_slice-more.ensures ∙ sym c.in-Some.is)
    (pieced_empty _ _ _ c.is_empty.ensures c.if-is_empty.true)
