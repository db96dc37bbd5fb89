-- Turns make steps of the pairs and nothing else, so whole turns bring each pair to the end to which it comes alone.
use Rattle.std.proofs.Common.{◌≡◌, ◌+◌, ℕ, zero, suc, List, [], ◌∷◌, ◌++◌, map, slice_get, slice_set, Some, refl, sym, ◌∙◌, ap, subst, arith}
use Rattle.facts.proofs.Lists.{append_grouped}
use Rattle.facts.proofs.Numbers.{suc_plus, zero_plus}
use Rattle.facts.proofs.Options.{none_not_some, some_same}
use Rattle.pair_protocol.specs.Sides.{Sides}
use Rattle.pair_protocol.specs.Pair.{Both, run, done, wrong, both_step, both_from, Who}
use Rattle.session_turns.specs.Turns.{IsTurn, TurnsLead, begun, over}
use Rattle.session_turns.specs.TurnsLaws.{AreLater, ComeTo, TurnsAreSteps, TurnsJoin}
use Rattle.session_turns.proofs.Onward.{onward_steps}

-- ---- steps of one pair

pub steps_more : {S M X R E Q : Type 0} (g : Sides S M X R E Q) (j k : ℕ) (b : Both S M E Q) → both_from g (j + k) b ≡ both_from g k (both_from g j b)
steps_more g zero k b = ap (λ n. both_from g n b) (zero_plus k)
steps_more g (suc j) k b = ap (λ n. both_from g n b) (sym (suc_plus j k)) ∙ steps_more g j k (both_step g b)

pub done_stays : {S M X R E Q : Type 0} (g : Sides S M X R E Q) (k : ℕ) (bytes : List ℕ) (e : E) → both_from g k (done bytes e) ≡ done bytes e
done_stays g zero bytes e = refl
done_stays g (suc k) bytes e = done_stays g k bytes e

both_end : {S M X R E Q : Type 0} (g : Sides S M X R E Q) (j k : ℕ) (b : Both S M E Q) (bytes : List ℕ) (e : E) → both_from g j b ≡ done bytes e → both_from g (j + k) b ≡ done bytes e
both_end g j k b bytes e h = steps_more g j k b ∙ ap (both_from g k) h ∙ done_stays g k bytes e

abbrev end_at : {S M E Q : Type 0} → List ℕ × E → Both S M E Q → List ℕ × E
end_at x (run s m written) = x
end_at x (done bytes e) = (bytes, e)
end_at x (wrong bytes q) = x

-- a pair has one end
pub same_end : {S M X R E Q : Type 0} (g : Sides S M X R E Q) (j k : ℕ) (b : Both S M E Q) (x y : List ℕ × E) → both_from g j b ≡ done x.0 x.1 → both_from g k b ≡ done y.0 y.1 → x ≡ y
same_end g j k b x y h i =
    let turned : k + j ≡ j + k = omega arith in
    ap (end_at x) (sym (both_end g j k b x.0 x.1 h) ∙ ap (λ n. both_from g n b) (sym turned) ∙ both_end g k j b y.0 y.1 i)

-- ---- steps of several

self_later : {S M X R E Q : Type 0} (g : Sides S M X R E Q) (bs : List (Both S M E Q)) → AreLater g bs bs
self_later g [] = tt {0}
self_later g (b ∷ bs) = ((0, refl), self_later g bs)

same_later : {S M X R E Q : Type 0} (g : Sides S M X R E Q) (bs cs : List (Both S M E Q)) → cs ≡ bs → AreLater g bs cs
same_later g bs cs e = subst (λ cs. AreLater g bs cs) (sym e) (self_later g bs)

later_on : {S M X R E Q : Type 0} (g : Sides S M X R E Q) (bs cs ds : List (Both S M E Q)) → AreLater g bs cs → AreLater g cs ds → AreLater g bs ds
later_on g [] [] ds h k = k
later_on g [] (c ∷ cs) ds h k = absurd h
later_on g (b ∷ bs) [] ds h k = absurd h
later_on g (b ∷ bs) (c ∷ cs) [] h k = k
later_on g (b ∷ bs) (c ∷ cs) (d ∷ ds) h k =
    ((h.0.0 + k.0.0, steps_more g h.0.0 k.0.0 b ∙ ap (both_from g k.0.0) h.0.1 ∙ k.0.1), later_on g bs cs ds h.1 k.1)

later_at : {S M X R E Q : Type 0} (g : Sides S M X R E Q) (bs : List (Both S M E Q)) (place : ℕ) (b c : Both S M E Q) (k : ℕ) → slice_get bs place ≡ Some b → both_from g k b ≡ c → AreLater g bs (slice_set bs place c)
later_at g [] place b c k stands e = none_not_some b stands
later_at g (a ∷ bs) zero b c k stands e = ((k, ap (both_from g k) (some_same a b stands) ∙ e), self_later g bs)
later_at g (a ∷ bs) (suc place) b c k stands e = ((0, refl), later_at g bs place b c k stands e)

later_turn : {S M X R E Q : Type 0} (g : Sides S M X R E Q) (answers : List Who) (pairs at : List (Both S M E Q)) → IsTurn g answers pairs at → AreLater g pairs at
later_turn g answers pairs at t =
    subst (λ cs. AreLater g pairs cs) (sym t.others_stay)
    (later_at g pairs t.place (run t.slave t.monitor t.written) t.next t.onward.steps t.stands (onward_steps g t.slave t.monitor t.written t.next t.onward))

later_lead : {S M X R E Q : Type 0} (g : Sides S M X R E Q) (n : ℕ) (answers : List Who) (pairs end : List (Both S M E Q)) → TurnsLead g n answers pairs end → AreLater g pairs end
later_lead g zero answers pairs end h = same_later g pairs end h.1
later_lead g (suc n) answers pairs end (first, rest, at, is, turn, lead) = later_on g pairs at end (later_turn g first pairs at turn) (later_lead g n rest at end lead)

pub turns_are_steps : (S M X R E Q : Type 0) → TurnsAreSteps S M X R E Q
turns_are_steps S M X R E Q g n answers pairs at h = later_lead g n answers pairs at h

-- ---- ends

pub later_come : {S M X R E Q : Type 0} (g : Sides S M X R E Q) (starts : List (S × M)) (ends : List (List ℕ × E)) → AreLater g (map begun starts) (map over ends) → ComeTo g starts ends
later_come g [] [] h = h
later_come g [] (e ∷ es) h = h
later_come g (x ∷ xs) [] h = h
later_come g (x ∷ xs) (e ∷ es) h = (h.0, later_come g xs es h.1)

pub come_once : {S M X R E Q : Type 0} (g : Sides S M X R E Q) (starts : List (S × M)) (ends others : List (List ℕ × E)) → ComeTo g starts ends → ComeTo g starts others → ends ≡ others
come_once g [] [] [] h k = refl
come_once g [] [] (o ∷ os) h k = absurd k
come_once g [] (e ∷ es) others h k = absurd h
come_once g (x ∷ xs) [] others h k = absurd h
come_once g (x ∷ xs) (e ∷ es) [] h k = absurd k
come_once g (x ∷ xs) (e ∷ es) (o ∷ os) h k =
    let same = same_end g h.0.0 k.0.0 (begun x) e o h.0.1 k.0.1 in
    let others = come_once g xs es os h.1 k.1 in
    λ i. same i ∷ others i

-- ---- turns behind turns

pub turns_join : (S M X R E Q : Type 0) → TurnsJoin S M X R E Q
turns_join S M X R E Q g zero k answers more pairs at end h lead =
    subst (λ n. TurnsLead g n (answers ++ more) pairs end) (sym (zero_plus k))
    (subst (λ xs. TurnsLead g k (xs ++ more) pairs end) (sym h.0) (subst (λ bs. TurnsLead g k more bs end) h.1 lead))
turns_join S M X R E Q g (suc n) k answers more pairs at end (first, rest, mid, is, turn, lead) behind =
    subst (λ n. TurnsLead g n (answers ++ more) pairs end) (suc_plus n k)
    (first, rest ++ more, mid, ap (λ xs. xs ++ more) is ∙ append_grouped first rest more, turn, turns_join S M X R E Q g n k rest more mid at end lead behind)
