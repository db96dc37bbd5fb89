-- The plain numbers of a call.
use Rattle.std.proofs.Common.{◌≡◌, ◌++◌, ℤ, List, [], sym, ap, ◌∙◌}
use Rattle.std.proofs.lemmas.List.{append-nil}
use Rattle.pt_tree.specs.declared.signature.Param.{Param}
use Rattle.pt_tree.specs.PlainNumbers.{plain_numbers}
use Rattle.std.specs.Prelude.{map}
use Rattle.policy.proofs.PlainLemmas.{no_numbers}
use Rattle.wire.specs.declared.cell.Arg.{Arg}
use Rattle.pair_meaning.specs.Rules.{number_in_argument}

-- behind the last argument there is nothing
pub all_taken : (plain : List ℤ) (ps : List Param) (left : List Arg) (whole : List ℤ) → left ≡ [] → plain ++ plain_numbers ps (map number_in_argument left) ≡ whole → plain ≡ whole
all_taken plain ps left whole e h = sym (append-nil plain) ∙ ap (λ xs. plain ++ xs) (sym (no_numbers ps)) ∙ ap (λ (xs : List Arg). plain ++ plain_numbers ps (map number_in_argument xs)) (sym e) ∙ h
