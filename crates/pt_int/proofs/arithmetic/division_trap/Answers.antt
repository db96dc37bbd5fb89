use Rattle.std.proofs.Common.{◌≡◌, ◌≢◌, negsuc, FitsSigned, of_z, rules, sym, ap, ◌∙◌}
use Rattle.std.proofs.lemmas.Int.{to_z-of_z}
use Rattle.std.specs.Int.{w64}
use mir.Syntax.{w128}
use Rattle.pt_base.specs.IntTypes.{low_of}
use Rattle.pt_int.proofs.Division.{quotient-in_range, least-by_minus_one}
use Rattle.pt_int.proofs.Words.{is_word}
use Rattle.pt_int.proofs.arithmetic.division_trap.Goals as goal
use Rattle.pt_int.proofs.arithmetic.division_trap.Goals.{else-b-eqminus1-via-then-b-eqminus1+else-a-from, else-b-eqminus1-via-else-b-eqminus1}

pub returns-then-a-from : goal.returns-then-a-from
returns-then-a-from c =
    let f : FitsSigned w128 c.from.result = search rules in
    let g : FitsSigned w64 c.least.result = search rules in
    let least = is_word c.args.a _ c.ranges.a c.if-a-from.true ∙ to_z-of_z w128 c.from.result f ∙ c.from.ensures ∙ to_z-of_z w64 c.least.result g ∙ c.least.ensures in
    least-by_minus_one c.args.t c.args.a c.args.b c.requires.right least (is_word c.args.b _ c.ranges.b c.if-b-eqminus1.true)

pub returns-else-b-eqminus1 : goal.returns-else-b-eqminus1
returns-else-b-eqminus1 c =
    let other : c.args.b ≡ negsuc 0 → c.args.a ≢ low_of c.args.t =
    elim c.else-b-eqminus1.branch [
      | else-b-eqminus1-via-then-b-eqminus1+else-a-from w ↦ λ eb ea.
          let g : FitsSigned w64 w.least.result = search rules in
          w.if-a-from.false (ap (of_z w128) (ea ∙ sym (w.from.ensures ∙ to_z-of_z w64 w.least.result g ∙ w.least.ensures)))
      | else-b-eqminus1-via-else-b-eqminus1 w ↦ λ eb ea. w.if-b-eqminus1.false (ap (of_z w128) eb)
    ] in
    (λ e. c.if-b-eq0.false (ap (of_z w128) e), quotient-in_range c.args.t c.args.a c.args.b c.requires.left c.requires.right other)
