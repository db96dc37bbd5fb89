-- A link whose talk is written down tells what its peer said.
use Rattle.std.proofs.Common.{◌≡◌, ◌∙◌, ℕ, Bool, List, [], ◌∷◌, ◌++◌, Some, sym, ap, subst, append_assoc, append-nil}
use Rattle.std.specs.Prelude.{⊤, IsTrue}
use Rattle.pt_base.specs.Talk.{Event, gave, took}
use Rattle.pt_base.proofs.Options.{some_same_bytes}
use Rattle.honest_link.specs.Came.{IsHonest}
use Rattle.honest_link.specs.Talks.{Along}
use Rattle.pair_runner.specs.Sending.{given_in, sent_in}
use Rattle.pair_running.specs.TalksExistLinks.{PlannedLinksTell}
use Rattle.pair_running.specs.TalksExistPlanned.{Planned, given_by, is_honest, sent_to}

abbrev Goes : (List ℕ → List ℕ) → (List ℕ → Bool) → List ℕ → List ℕ → List Event → Type 0
Goes says form sent given talk = Along says form (λ sent given. ⊤) sent given talk

module _ (says : List ℕ → List ℕ) (form : List ℕ → Bool) (b : Planned) where
  comes : (talk : List Event) (sent given : List ℕ) → Goes says form sent given (talk ++ b.left) → IsTrue (form sent) → b.sent ≡ sent ++ sent_in talk → b.given ≡ given ++ given_in talk →
      Along says form (IsHonest is_honest sent_to given_by b says form) sent given talk
  comes [] sent given along formed sent_so given_so =
      let same : b.sent ≡ sent = sent_so ∙ append-nil sent in
      let same' : b.given ≡ given = given_so ∙ append-nil given in
      record {
        is = subst (λ (l : List ℕ). Goes says form l b.given b.left) (sym same) (subst (λ (l : List ℕ). Goes says form sent l b.left) (sym same') along);
        sent_so = ap (λ (l : List ℕ). Some l) same;
        given_so = ap (λ (l : List ℕ). Some l) same';
        in_form = formed;
      }
  comes (took bytes ∷ talk) sent given along formed sent_so given_so =
      λ is. comes talk (sent ++ bytes) given (along is) is (sent_so ∙ sym (append_assoc sent bytes (sent_in talk))) given_so
  comes (gave piece ∷ talk) sent given along formed sent_so given_so =
      (along.0, along.1, comes talk sent (given ++ piece) along.2 formed sent_so (given_so ∙ sym (append_assoc given piece (given_in talk))))

pub links_tell : PlannedLinksTell
links_tell a b talk came says form s g h =
    let sent : a.sent ≡ s = some_same_bytes a.sent s h.sent_so in
    let given : a.given ≡ g = some_same_bytes a.given g h.given_so in
    let along : Goes says form s g (talk ++ b.left) =
    subst (λ (l : List Event). Goes says form s g l) came.left
    (subst (λ (l : List ℕ). Goes says form s l a.left) given (subst (λ (l : List ℕ). Goes says form l a.given a.left) sent h.is)) in
    comes says form b talk s g along h.in_form (came.sent ∙ ap (λ (l : List ℕ). l ++ sent_in talk) sent) (came.given ∙ ap (λ (l : List ℕ). l ++ given_in talk) given)
