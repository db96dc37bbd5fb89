use Rattle.std.proofs.Common.{sym, ap, ◌∙◌, map}
use Rattle.std.specs.Prelude.{Ok}
use Rattle.std.proofs.lemmas.List.{map-id}
use Rattle.pt_core.specs.CodeTree.{numbered, view_global}
use Rattle.boot_fields.specs.Reading.{deepest}
use Rattle.boots.proofs.Wholes.{boot_read}
use Rattle.boots.proofs.reading.boot.Goals as goal

pub returns : goal.returns
returns c =
    boot_read deepest c.args.bytes.now c.in_ok-structs.rest.now c.in_ok-signatures.rest.now c.in_ok-functions.rest.now c.in_ok-globals.rest.now c.in_ok-hosts.rest.now c.in_ok-input.rest.now c.in_ok-turns.rest.now _
    (c.in_ok-structs.ensures ∙ ap (λ xs. Ok (xs, c.in_ok-structs.rest.now)) (map-id c.in_ok-structs.structs.items ∙ sym c.new.ensures))
    (c.in_ok-signatures.ensures ∙ ap (λ xs. Ok (numbered xs, c.in_ok-signatures.rest.now)) (sym c.new-2.ensures))
    c.in_ok-functions.ensures
    (c.in_ok-globals.ensures ∙ ap (λ xs. Ok (map view_global xs, c.in_ok-globals.rest.now)) (sym c.new-3.ensures))
    (c.in_ok-hosts.ensures ∙ ap (λ xs. Ok (numbered xs, c.in_ok-hosts.rest.now)) (sym c.new-4.ensures))
    c.in_ok-input.ensures c.in_ok-turns.ensures
