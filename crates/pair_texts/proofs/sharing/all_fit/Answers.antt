use Rattle.std.proofs.Common.{◌≡◌, ◌<◌, ◌≤◌, ◌∙◌, ℕ, List, [], Some, Err, length, get_or, ap, sym, subst, arith, rules}
use Rattle.std.proofs.lemmas.List.{drop_more}
use Rattle.std.proofs.lemmas.Option.{slice_get-get_or}
use Rattle.stages.specs.GivenHosts.{most}
use Rattle.pair_texts.specs.Several.{AreShort}
use Rattle.pair_texts.proofs.sharing.all_fit.Goals as goal

pub returns-in_err-fits-clause-stop : goal.returns-in_err-fits-clause-stop
returns-in_err-fits-clause-stop c =
    let is : c.from_residual.result ≡ Err c.in_err-fits.field-0.0 = search rules in
    let within : c.loop-input.input-index < length c.args.all.now = grind arith in
    rw is (record {
      place = c.loop-input.input-index;
      input = c.input-item.result;
      stands = slice_get-get_or c.args.all.now c.loop-input.input-index c.input-item.result within ∙ ap Some (sym c.input-item.is);
      halts = λ t tree same. c.in_err-fits.ensures.stop [] t tree (same ∙ sym c.as_slice.ensures);
    })

pub loop-input-preserved : goal.loop-input-preserved
loop-input-preserved c = λ rest.
    let within : c.loop-input.input-index < length c.args.all.now = grind arith in
    let short : length c.input-item.result ≤ most = subst (λ (xs : List ℕ). length xs ≤ most) c.as_slice.ensures c.in_ok-fits.ensures.short in
    let there : length (get_or c.args.all.now c.loop-input.input-index c.input-item.result) ≤ most = subst (λ (xs : List ℕ). length xs ≤ most) c.input-item.is short in
    c.loop-input.invariant (subst AreShort (sym (drop_more c.args.all.now c.loop-input.input-index c.input-item.result within)) (there, rest))
