use Rattle.lowering.proofs.PieceLemmas.{fixed_some, fixed_none}
use Rattle.lowering.proofs.place.fixed.Goals as goal

pub returns-in-Some : goal.returns-in-Some
returns-in-Some c = λ o low h. fixed_some _ o _ _ low _ _ h c.in-Some.is (λ x e. c.fixed_root.ensures o x low h e)

pub returns-in-None : goal.returns-in-None
returns-in-None c = λ o low h. fixed_none o _ low _ h c.in-None.is
