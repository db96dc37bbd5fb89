use Rattle.std.proofs.lemmas.Result.{IfOk-weaker}
use Rattle.typed_tree.specs.TypedView.{view_typed}
use Rattle.host_table.specs.Hosts.{hosts_of}
use Rattle.pair_texts.specs.declared.pair.Pair.{Pair}
use Rattle.pair_texts.specs.Seen.{HasPair, IsMadeOf}
use Rattle.pair_texts.proofs.Parts.{has_pair}
use Rattle.pair_texts.proofs.beginning.started.Goals as goal

pub returns : goal.returns
returns g c = λ t have input.
    let passed = c.args.passed in
    IfOk-weaker c.with_halves.result (IsMadeOf (view_typed passed.program) passed.accepted (hosts_of passed.hosts) passed.policy c.args.beside.input.now c.args.beside.turns) (HasPair t c.args.beside.turns)
    (λ (p : Pair) made. has_pair t c.args.beside.turns passed c.args.beside.input.now p have input c.requires made) c.with_halves.ensures
