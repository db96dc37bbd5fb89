-- What a slave's side comes to is one.
use Rattle.std.proofs.Common.{◌≡◌, ◌∙◌, ℕ, List, [], true, false, inl, inr, ap, sym, subst}
use Rattle.wire.specs.declared.message.Message.{Message}
use Rattle.wire.specs.Frames.{Ending}
use Rattle.wire.proofs.StreamLaws.{streams_once}
use Rattle.pt_core.specs.CodeTree.{BootTree}
use Rattle.pair_meaning.specs.Pair.{said}
use Rattle.boots.proofs.BootLaws.{one_reading}
use Rattle.slave_runner.specs.Comes.{Comes, ComesBy, IsBoot, IsNoBoot, RunsOver, spellings}
use Rattle.slave_runner.specs.OneOutcome.{WhatASlaveComesToIsOne}
use Rattle.slave_runner.specs.Reading.{Pieces, whole, stops, read_pieces}
use Rattle.slave_runner.specs.Replies.{hear_replies}
use Rattle.slave_runner.specs.Rules.{Stopped}

-- no bytes spell a well-formed boot and none
not_both : {A : Type 0} (bytes : List ℕ) (b : BootTree) → IsNoBoot bytes → IsBoot bytes b → A
not_both bytes b none is = never (sym (none b is.spelled) ∙ is.well_formed)
  where
    never : {A : Type 0} → false ≡ true → A
    never h = cc

runs_once : (b b' : BootTree) (behind : List (Message × ℕ)) (ending : Ending) (sent sent' : List ℕ) (stopped stopped' : Stopped) → b ≡ b' → RunsOver b behind ending sent stopped → RunsOver b' behind ending sent' stopped' →
    (sent ≡ sent') × (stopped ≡ stopped')
runs_once b b' behind ending sent sent' stopped stopped' same r r' = (
  r.says ∙ ap (λ (x : BootTree). spellings (said x (hear_replies x [] behind ending).replies)) same ∙ sym r'.says,
  r.stop ∙ ap (λ (x : BootTree). (hear_replies x [] behind ending).stopped) same ∙ sym r'.stop,
)

comes_once : (ending : Ending) (p : Pieces) (sent sent' : List ℕ) (stopped stopped' : Stopped) → ComesBy ending p sent stopped → ComesBy ending p sent' stopped' → (sent ≡ sent') × (stopped ≡ stopped')
comes_once ending (stops why) sent sent' stopped stopped' c c' = (c.0 ∙ sym c'.0, c.1 ∙ sym c'.1)
comes_once ending (whole bytes behind) sent sent' stopped stopped' (inl c) (inl c') = (c.1 ∙ sym c'.1, c.2 ∙ sym c'.2)
comes_once ending (whole bytes behind) sent sent' stopped stopped' (inl c) (inr (b, is, r)) = not_both bytes b c.0 is
comes_once ending (whole bytes behind) sent sent' stopped stopped' (inr (b, is, r)) (inl c) = not_both bytes b c.0 is
comes_once ending (whole bytes behind) sent sent' stopped stopped' (inr (b, is, r)) (inr (b', is', r')) = runs_once b b' behind ending sent sent' stopped stopped' (one_reading b b' bytes is.spelled is'.spelled) r r'

over_frames : (frames : List (Message × ℕ)) (ending : Ending) (sent sent' : List ℕ) (stopped stopped' : Stopped) → Comes frames ending sent stopped → Comes frames ending sent' stopped' → (sent ≡ sent') × (stopped ≡ stopped')
over_frames frames ending sent sent' stopped stopped' c c' = comes_once ending (read_pieces [] frames ending) sent sent' stopped stopped' c c'

pub what_a_slave_comes_to_is_one : WhatASlaveComesToIsOne
what_a_slave_comes_to_is_one = record {
  over_frames = over_frames;
  over_bytes = λ at given frames frames' ending ending' sent sent' stopped stopped' s c s' c'.
      let same = streams_once frames frames' ending ending' at given s s' in
      over_frames frames ending sent sent' stopped stopped' c
      (subst (λ e. Comes frames e sent' stopped') (sym same.1) (subst (λ fs. Comes fs ending' sent' stopped') (sym same.0) c'));
}
