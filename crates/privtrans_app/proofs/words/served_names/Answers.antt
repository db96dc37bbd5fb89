use Rattle.std.proofs.Common.{◌∙◌, ◌++◌, map, ap}
use Rattle.std.proofs.lemmas.List.{map-append}
use Rattle.privtrans_app.proofs.words.served_names.Goals as goal

pub returns : goal.returns
returns c =
    ap (map (λ n. n.now)) c.in_ok-extend_from_slice.ensures.items
    ∙ map-append (λ n. n.now) c.in_ok-names.names.items c.args.words.inputs.now
    ∙ ap (λ first. map (λ n. n.now) first ++ map (λ n. n.now) c.args.words.inputs.now) c.in_ok-names.ensures.items
