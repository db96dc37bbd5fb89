use Rattle.std.proofs.Common.{◌<◌, ◌^◌, ap, ◌∙◌, map, rules}
use Rattle.std.proofs.lemmas.List.{map-id}
use Rattle.pt_core.specs.CodeTree.{numbered, view_function, view_global, view_boot}
use Rattle.boots.proofs.Written.{written}
use Rattle.boots.proofs.writing.boot_bytes.Goals as goal

pub returns : goal.returns
returns c =
    let turns : c.args.boot.now.turns < 2 ^ 32 = search rules in
    written (view_boot c.args.boot.now) (map (λ x. x) c.as_slice.result.now) (numbered c.as_slice-2.result.now) (map view_function c.deref.result.now) (map view_global c.as_slice-3.result.now) (numbered c.as_slice-4.result.now) c.new-out.result.items c.put_list.new.out.items c.put_list-2.new.out.items c.put_list-3.new.out.items c.put_list-4.new.out.items c.put_list-5.new.out.items c.put_text.new.out.items c.put_u32.new.out.items
    (map-id c.as_slice.result.now ∙ c.as_slice.ensures) (ap numbered c.as_slice-2.ensures) (ap (map view_function) c.deref.ensures.value) (ap (map view_global) c.as_slice-3.ensures) (ap numbered c.as_slice-4.ensures) c.new-out.ensures.items
    c.in_ok-put_list.ensures.bytes c.in_ok-put_list.ensures.fits c.in_ok-put_list-2.ensures.bytes c.in_ok-put_list-2.ensures.fits c.in_ok-put_list-3.ensures.bytes c.in_ok-put_list-3.ensures.fits c.in_ok-put_list-4.ensures.bytes c.in_ok-put_list-4.ensures.fits c.in_ok-put_list-5.ensures.bytes c.in_ok-put_list-5.ensures.fits
    c.in_ok-put_text.ensures.bytes c.in_ok-put_text.ensures.fits c.in_ok-put_u32.ensures turns
