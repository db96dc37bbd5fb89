-- A peer that gives what its slave says is honest.
use Rattle.std.proofs.Common.{◌≡◌, ◌∙◌, ℕ, suc, Bool, List, [], ◌∷◌, ◌++◌, length, take, drop, refl, sym, ap, subst, append_assoc}
use Rattle.std.specs.Prelude.{⊤}
use Rattle.std.proofs.lemmas.List.{drop_at, take-append-drop}
use Rattle.pt_base.specs.Talk.{Event, gave, took}
use Rattle.pt_base.specs.Told.{IsFrontOf}
use Rattle.pt_core.specs.CodeTree.{BootTree}
use Rattle.pair_meaning.specs.Peer.{is_form, says}
use Rattle.pair_laws.specs.AwaitedRepliesLaws.{WhatIsSaidGrows}
use Rattle.honest_link.specs.Talks.{Along}
use Rattle.pair_running.specs.TalksExistLaws.{SayingIsHonest}
use Rattle.pair_running.specs.TalksExistPeers.{GivesWhatIsSaid}
use Rattle.pair_running.proofs.TalksExistGrowing.{says_more}

pub none_taken : (n : ℕ) (xs : List ℕ) → take (suc n) xs ≡ [] → xs ≡ []
none_taken n [] e = refl
none_taken n (x ∷ xs) e = cc

-- the next bytes behind these, and those behind them
pub front_is : (n : ℕ) (given left whole : List ℕ) → whole ≡ given ++ left → whole ≡ (given ++ take n left) ++ drop n left
front_is n given left whole are = are ∙ ap (λ (l : List ℕ). given ++ l) (sym (take-append-drop n left)) ∙ sym (append_assoc given (take n left) (drop n left))

module _ (grows : WhatIsSaidGrows) (sizes : ℕ → ℕ) (b : BootTree) (form : List ℕ → Bool) where
  follows : (talk : List Event) (sent given : List ℕ) → IsFrontOf given (says b sent) → GivesWhatIsSaid sizes b sent given talk → Along (says b) form (λ sent given. ⊤) sent given talk
  follows [] sent given front gives = tt {0}
  follows (took bytes ∷ talk) sent given front gives =
      let more = says_more grows b sent bytes in
      λ is. follows talk (sent ++ bytes) given (front.0 ++ more.0, more.1 ∙ ap (λ (l : List ℕ). l ++ more.0) front.1 ∙ append_assoc given front.0 more.0) gives
  follows (gave piece ∷ talk) sent given front gives =
      let n : ℕ = sizes (length given) in
      let left : List ℕ = front.0 in
      let same : take (suc n) left ≡ piece = sym (gives.0 ∙ ap (λ (l : List ℕ). take (suc n) (drop (length given) l)) front.1 ∙ ap (take (suc n)) (drop_at given left (length given) refl)) in
      let next : IsFrontOf (given ++ piece) (says b sent) = subst (λ (l : List ℕ). IsFrontOf (given ++ l) (says b sent)) same (drop (suc n) left, front_is (suc n) given left (says b sent) front.1) in
      let whole : piece ≡ [] → given ++ piece ≡ says b sent = λ none. ap (λ (l : List ℕ). given ++ l) (none ∙ sym (none_taken n left (same ∙ none))) ∙ sym front.1 in
      (next, whole, follows talk sent (given ++ piece) next gives.1)

pub saying : WhatIsSaidGrows → SayingIsHonest
saying grows sizes b bytes talk gives = follows grows sizes b (is_form bytes b) talk [] [] (says b [], refl) gives
