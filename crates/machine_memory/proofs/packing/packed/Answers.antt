use Rattle.std.proofs.Common.{◌≡◌, ◌∙◌, ◌++◌, ◌∷◌, [], ◌+◌, ◌<◌, ap, arith, FitsSigned, get_or, length, List, rules, take, w64, ℤ}
use Rattle.std.proofs.lemmas.Int.{to_z-of_z}
use Rattle.std.proofs.lemmas.List.{get_or_default, length_push}
use Rattle.pt_base.specs.declared.int_type.IntType.{IntType}
use Rattle.pt_base.specs.declared.int_type.IntType.TheVariants.{Char}
use Rattle.machine_memory.specs.Words.{numbers}
use Rattle.machine_memory.proofs.HeldLemmas.{packed_more}
use Rattle.machine_memory.proofs.packing.packed.Goals as goal

pub loop-i-preserved : goal.loop-i-preserved
loop-i-preserved c =
    let types : List IntType = c.args.types.now in
    let words : List ℤ = c.loop-i.words.items in
    let i = c.loop-i.i in
    let t : IntType = get_or types i Char in
    let lt : i < length types = omega arith in
    let fits : FitsSigned w64 c.in-Some.w = search rules in
    let is : c.push.new.self.items ≡ words ++ c.in-Some.w ∷ [] =
    c.in_ok-push-in-Some.ensures.items ∙ ap (λ (w : ℤ). words ++ w ∷ []) (to_z-of_z w64 c.in-Some.w fits)
    in
    let long : length words ≡ i = c.loop-i.invariant.long in
    record {
      long = ap (λ (ws : List ℤ). length ws) is ∙ length_push words c.in-Some.w ∙ ap (λ n. n + 1) long;
      same = ap (λ (ws : List ℤ). numbers (take (i + 1) types) ws 0) is
          ∙ packed_more types words c.args.cells.now i t c.index-cells-i.result c.in-Some.w long c.loop-i.invariant.same lt (omega (arith, c.requires)) (get_or_default types i Char t lt) c.index-cells-i.is c.in-Some.ensures;
    }
