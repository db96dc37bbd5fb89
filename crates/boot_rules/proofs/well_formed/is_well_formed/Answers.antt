use Rattle.std.proofs.Common.{◌≡◌, ◌∙◌, ap, false, sym}
use Rattle.std.proofs.lemmas.Option.{MatchOption-at_none, MatchOption-at_some}
use Rattle.host_models.specs.Fitting.{fits}
use Rattle.pt_core.specs.CodeTree.{view_boot}
use Rattle.pt_core.specs.WellFormed.{is_well_formed_boot}
use Rattle.boot_rules.specs.declared.candidate.Candidate.{Candidate}
use Rattle.boot_rules.proofs.TestLemmas.{tested}
use Rattle.boot_rules.proofs.well_formed.is_well_formed.Goals as goal

pub returns-in-Some : goal.returns-in-Some
returns-in-Some c =
    let candidate = c.in-Some.candidate in
    let same = MatchOption-at_some (is_well_formed_boot fits (view_boot c.args.boot.now) ≡ false) (λ (x : Candidate). x.boot.now ≡ c.args.boot.now) candidate c.in-Some.is c.in_ok-candidate.ensures in
    c.parts_fit.ensures ∙ tested (view_boot candidate.boot.now) candidate.in_order candidate.sound ∙ ap (λ b. is_well_formed_boot fits (view_boot b)) same

pub returns-in-None : goal.returns-in-None
returns-in-None c =
    sym (MatchOption-at_none (is_well_formed_boot fits (view_boot c.args.boot.now) ≡ false) (λ (x : Candidate). x.boot.now ≡ c.args.boot.now) c.in-None.is c.in_ok-candidate.ensures)
