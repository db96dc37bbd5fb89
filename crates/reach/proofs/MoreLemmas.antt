-- One more item of a list.
use Rattle.std.proofs.Common.{◌≡◌, ◌∙◌, ap, List, ◌++◌, append_assoc}

pub moved_on : {A : Type 0} (s s' xs rest all : List A) → s' ≡ s ++ xs → s ++ (xs ++ rest) ≡ all → s' ++ rest ≡ all
moved_on s s' xs rest all e h = ap (λ ys. ys ++ rest) e ∙ append_assoc s xs rest ∙ h
