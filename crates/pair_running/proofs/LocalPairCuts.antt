-- Texts of which only the first bytes were read, one more than a text may have, come to what the whole
-- texts come to.
use Rattle.std.proofs.Common.{◌≡◌, ◌≤◌, ◌∙◌, ℕ, List, Option, length, ap, subst}
use Rattle.pt_base.specs.declared.chooser.Who.{Who}
use Rattle.runs.specs.Run.{Expected}
use Rattle.typed_tree.specs.TypedTree.{TypedTree}
use Rattle.policy.specs.Verdicts.{start}
use Rattle.stages.specs.Climb.{of_pair}
use Rattle.stages.specs.Commands.{AreCut}
use Rattle.stages.specs.GivenHosts.{most}
use Rattle.stages.proofs.Commands.{whole_climb}
use Rattle.stages.proofs.Cuts.{short_cut}
use Rattle.pair_laws.specs.BegunPairsLaws.{expected_of}
use Rattle.pair_texts.specs.Start.{Texts}
use Rattle.pair_texts.proofs.Cuts.{read_whole, started_whole}
use Rattle.pair_running.specs.LocalPairLocal.{CutsAreEnough, IsExpected, IsPairRun, Ran}
use Rattle.pair_running.specs.LocalPairWhole.{HasWhole}

expected_whole : (whole cut : Texts) (turns : ℕ) (tree : TypedTree) (e : Expected) → AreCut whole cut → IsExpected cut turns tree e → IsExpected whole turns tree e
expected_whole whole cut turns tree e is x =
    let same : cut.input ≡ whole.input = short_cut whole.input cut.input is.input x.short in
    record {
      hosts = x.hosts;
      rules = x.rules;
      accepted = x.accepted;
      read = read_whole whole cut tree x.hosts x.rules is x.read;
      is = x.is;
      short = subst (λ xs. length xs ≤ most) same x.short;
      expected_is = x.expected_is ∙ ap (λ xs. expected_of tree (start x.rules) x.hosts xs turns) same;
    }

-- the run of these first bytes is that of the whole texts
pub run_whole : (turns : ℕ) (whole cut : Texts) (r : Ran) → AreCut whole cut → IsPairRun turns cut r → IsPairRun turns whole r
run_whole turns whole cut r is x = (x.0, x.1, expected_whole whole cut turns x.0 x.1 is x.2, x.3, x.4, x.5)

pub cut_whole : CutsAreEnough
cut_whole whole cut turns o = whole_climb of_pair (IsPairRun turns) (run_whole turns) whole cut o

-- a whole run of these first bytes is one of the whole texts
pub cut_run : (whole cut : Texts) (turns window : ℕ) (told told' : Option (ℕ → Who)) (bytes : List ℕ) → AreCut whole cut → HasWhole cut turns window told told' bytes → HasWhole whole turns window told told' bytes
cut_run whole cut turns window told told' bytes is x = record {
  boot = x.boot;
  monitor = x.monitor;
  started = started_whole whole cut turns x.boot x.monitor is x.started;
  answers = x.answers;
  taken = x.taken;
  end = x.end;
  whole = x.whole;
}
