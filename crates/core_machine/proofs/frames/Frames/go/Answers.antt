use Rattle.std.proofs.Common.{◌≡◌, ap, arith, length, suc, ◌∙◌}
use Rattle.core_machine.specs.Live.{standing}
use Rattle.core_machine.proofs.StackLemmas.{goes_last}
use Rattle.core_machine.proofs.frames.Frames.go.Goals as goal

pub returns-in-Some : goal.returns-in-Some
returns-in-Some c =
    let long : length c.self.inside.frames.items ≡ suc c.in-Some.last = grind arith in
    goes_last c.self.inside.frames.items c.in-Some.last c.args.at c.index_mut.result.now long c.index_mut.ensures.value ∙ ap (standing c.args.at) c.self.view_is
