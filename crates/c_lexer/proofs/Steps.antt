-- One step of reading a text.
use Rattle.std.proofs.Common.{◌≡◌, ℕ, ◌-◌, ◌<◌, List, length, take, drop, ap, sym, ◌∙◌, subst, arith, length-drop}
use Rattle.std.proofs.lemmas.List.{take_all}
use Rattle.c_lexer.specs.Next.{BeginsWith, next_of}
use Rattle.c_lexer.specs.declared.next.Next.{Next}
use Rattle.c_lexer.proofs.Fits.{FitsIn, begins_fits}
use Rattle.c_lexer.proofs.Sound.{next_sound}

module _ (text : List ℕ) (at : ℕ) (x : Next) (in_text : at < length text) (found : x ≡ next_of (take (length text - at) (drop at text))) where
  -- what is found stands there
  pub step_begins : BeginsWith (drop at text) x
  step_begins =
      let size = length-drop at text in
      let whole : take (length text - at) (drop at text) ≡ drop at text = take_all (length text - at) (drop at text) (omega (arith, size)) in
      subst (BeginsWith (drop at text)) (sym (found ∙ ap next_of whole)) (next_sound (drop at text) (omega (arith, size)))

  -- and is in the text
  pub step_fits : FitsIn (length text - at) x
  step_fits = subst (λ n. FitsIn n x) (length-drop at text) (begins_fits (drop at text) x step_begins)
