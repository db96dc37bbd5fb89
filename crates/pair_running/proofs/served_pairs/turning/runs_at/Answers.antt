use Rattle.std.proofs.Common.{◌≡◌, ◌∙◌, ap, sym, rules}
use Rattle.std.specs.Option.{is_none}
use Rattle.pair_protocol.specs.Sides.{of_bool}
use Rattle.pair_running.proofs.ServedPairsPlaces.{item_at, open_by}
use Rattle.pair_running.proofs.served_pairs.turning.runs_at.Goals as goal

pub returns : goal.returns
returns c =
    let told : c.is_none.result ≡ is_none c.index-talks-place.result.end = search rules in
    record {
      talk = c.index-talks-place.result;
      stands = item_at c.args.talks.now c.args.place c.index-talks-place.result c.requires c.index-talks-place.is;
      counts = open_by c.index-talks-place.result.end ∙ ap of_bool (sym told);
    }
