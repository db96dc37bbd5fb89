-- The answers of a turn are no first part of those of another, so whole turns end with their last answer.
use Rattle.std.proofs.Common.{◌≡◌, ◌+◌, ◌<◌, ℕ, zero, suc, List, [], ◌∷◌, ◌++◌, map, take, replicate, slice_get, slice_set, true, Some, inl, inr, refl, sym, ◌∙◌, ap, subst, arith}
use Rattle.facts.proofs.Booleans.{false_not_true}
use Rattle.facts.proofs.Lists.{append_grouped}
use Rattle.facts.proofs.Numbers.{plus_suc_moved, plus_zero, zero_plus}
use Rattle.facts.proofs.Options.{none_not_some, some_same}
use Rattle.pair_protocol.specs.Sides.{Sides, of_bool}
use Rattle.pair_protocol.specs.Pair.{Both, run, Who, slaves, parents}
use Rattle.session_turns.specs.Turns.{GoesOn, is_running, count_running, Reach, IsTurn, TurnsLead, over}
use Rattle.session_turns.proofs.Onward.{onward_once}

-- ---- the answers of a turn, read off from the front of a list: whom they reach, and what is behind them

abbrev read : ℕ → ℕ → List Who → ℕ × List Who
read zero passed answers = (0, answers)
read (suc left) passed [] = (0, [])
read (suc left) passed (slaves ∷ answers) = read left (suc passed) answers
read (suc left) passed (parents ∷ answers) = (passed, answers)

read_parent : (left passed k : ℕ) (rest : List Who) → k < left → read left passed ((replicate k slaves ++ parents ∷ []) ++ rest) ≡ (passed + k, rest)
read_parent zero passed k rest less = absurd (omega (arith, less))
read_parent (suc left) passed zero rest less = ap (λ n. (n, rest)) (sym (plus_zero passed))
read_parent (suc left) passed (suc k) rest less = read_parent left (suc passed) k rest (omega (arith, less)) ∙ ap (λ n. (n, rest)) (sym (plus_suc_moved passed k))

read_round : (left passed : ℕ) (rest : List Who) → read left passed (replicate left slaves ++ rest) ≡ (0, rest)
read_round zero passed rest = refl
read_round (suc left) passed rest = read_round left (suc passed) rest

read_turn : (count : ℕ) (answers : List Who) (k : ℕ) (rest : List Who) → Reach count answers k → read count 0 (answers ++ rest) ≡ (k, rest)
read_turn count answers k rest (inl h) = ap (λ xs. read count 0 (xs ++ rest)) h.1 ∙ read_parent count 0 k rest h.0 ∙ ap (λ n. (n, rest)) (zero_plus k)
read_turn count answers k rest (inr h) = ap (λ xs. read count 0 (xs ++ rest)) h.1 ∙ read_round count 0 rest ∙ ap (λ n. (n, rest)) (sym h.2)

-- ---- which pair a turn reaches

same_behind : (n a b : ℕ) → n + a ≡ n + b → a ≡ b
same_behind n a b e = omega (arith, e)

none_before : (n a : ℕ) → n ≡ 1 → 0 ≡ n + a → ⊥
none_before n a one e = omega (arith, one, e)

counted : {S M E Q : Type 0} (a b : Both S M E Q) → Some a ≡ Some b → is_running b ≡ true → of_bool (is_running a) ≡ 1
counted a b is running = ap of_bool (ap is_running (some_same a b is) ∙ running)

same_place : {S M E Q : Type 0} (bs : List (Both S M E Q)) (p q : ℕ) (a b : Both S M E Q) → slice_get bs p ≡ Some a → is_running a ≡ true → slice_get bs q ≡ Some b → is_running b ≡ true →
    count_running (take p bs) ≡ count_running (take q bs) → p ≡ q
same_place [] p q a b h i j k e = none_not_some a h
same_place (x ∷ bs) zero zero a b h i j k e = refl
same_place (x ∷ bs) zero (suc q) a b h i j k e = absurd (none_before (of_bool (is_running x)) (count_running (take q bs)) (counted x a h i) e)
same_place (x ∷ bs) (suc p) zero a b h i j k e = absurd (none_before (of_bool (is_running x)) (count_running (take p bs)) (counted x b j k) (sym e))
same_place (x ∷ bs) (suc p) (suc q) a b h i j k e =
    ap (λ n. suc n) (same_place bs p q a b h i j k (same_behind (of_bool (is_running x)) (count_running (take p bs)) (count_running (take q bs)) e))

abbrev slave_in : {S M E Q : Type 0} → S → Both S M E Q → S
slave_in s (run x m written) = x
slave_in s b = s

abbrev monitor_in : {S M E Q : Type 0} → M → Both S M E Q → M
monitor_in m (run s x written) = x
monitor_in m b = m

abbrev written_in : {S M E Q : Type 0} → List ℕ → Both S M E Q → List ℕ
written_in w (run s m x) = x
written_in w b = w

same_next : {S M X R E Q : Type 0} (g : Sides S M X R E Q) (s s' : S) (m m' : M) (w w' : List ℕ) (a b : Both S M E Q) → ◌≡◌ {A = Both S M E Q} (run s m w) (run s' m' w') → GoesOn g s m w a → GoesOn g s' m' w' b → a ≡ b
same_next {S = S} {M = M} {E = E} {Q = Q} g s s' m m' w w' a b e h k =
    let slave : s' ≡ s = sym (ap (λ (b : Both S M E Q). slave_in s b) e) in
    let monitor : m' ≡ m = sym (ap (λ (b : Both S M E Q). monitor_in m b) e) in
    let written : w' ≡ w = sym (ap (λ (b : Both S M E Q). written_in w b) e) in
    onward_once g s m w a b h (subst (λ s. GoesOn g s m w b) slave (subst (λ m. GoesOn g s' m w b) monitor (subst (λ w. GoesOn g s' m' w b) written k)))

-- two turns of the same pairs that reach behind as many
same_turn : {S M X R E Q : Type 0} (g : Sides S M X R E Q) (x y : List Who) (bs at at' : List (Both S M E Q)) (t : IsTurn g x bs at) (u : IsTurn g y bs at') →
    count_running (take t.place bs) ≡ count_running (take u.place bs) → at ≡ at'
same_turn {S = S} {M = M} {E = E} {Q = Q} g x y bs at at' t u e =
    let from : Both S M E Q = run t.slave t.monitor t.written in
    let from' : Both S M E Q = run u.slave u.monitor u.written in
    let place : t.place ≡ u.place = same_place bs t.place u.place from from' t.stands refl u.stands refl e in
    let stands : from ≡ from' = some_same from from' (sym t.stands ∙ ap (slice_get bs) place ∙ u.stands) in
    let next : t.next ≡ u.next = same_next g t.slave u.slave t.monitor u.monitor t.written u.written t.next u.next stands t.onward u.onward in
    t.others_stay ∙ ap (λ p. slice_set bs p t.next) place ∙ ap (λ n. slice_set bs u.place n) next ∙ sym u.others_stay

-- ---- no turn where none runs

over_runs : {S M E Q : Type 0} (ends : List (List ℕ × E)) (place : ℕ) (b : Both S M E Q) → slice_get (map over ends) place ≡ Some b → is_running b ≡ true → ⊥
over_runs [] place b e running = none_not_some b e
over_runs (x ∷ ends) zero b e running = false_not_true (ap is_running (some_same (over x) b e) ∙ running)
over_runs (x ∷ ends) (suc place) b e running = over_runs ends place b e running

no_turn : {S M X R E Q : Type 0} (g : Sides S M X R E Q) (answers : List Who) (ends : List (List ℕ × E)) (pairs at : List (Both S M E Q)) → map over ends ≡ pairs → IsTurn g answers pairs at → ⊥
no_turn g answers ends pairs at e t = over_runs ends t.place (run t.slave t.monitor t.written) (ap (λ bs. slice_get bs t.place) e ∙ t.stands) refl

-- ---- whole turns

pub end_once : {S M X R E Q : Type 0} (g : Sides S M X R E Q) (n k : ℕ) (answers more : List Who) (pairs : List (Both S M E Q)) (ends others : List (List ℕ × E)) →
    TurnsLead g n answers pairs (map over ends) → TurnsLead g k (answers ++ more) pairs (map over others) → more ≡ []
end_once g zero zero answers more pairs ends others h k = ap (λ xs. xs ++ more) (sym h.0) ∙ k.0
end_once g zero (suc k) answers more pairs ends others h (first, rest, at, is, turn, lead) = absurd (no_turn g first ends pairs at h.1 turn)
end_once g (suc n) zero answers more pairs ends others (first, rest, at, is, turn, lead) k = absurd (no_turn g first others pairs at k.1 turn)
end_once g (suc n) (suc k) answers more pairs ends others (first, rest, at, is, turn, lead) (first', rest', at', is', turn', lead') =
    let count = count_running pairs in
    let split : first ++ (rest ++ more) ≡ first' ++ rest' = sym (append_grouped first rest more) ∙ ap (λ xs. xs ++ more) (sym is) ∙ is' in
    let same : (count_running (take turn.place pairs), rest ++ more) ≡ (count_running (take turn'.place pairs), rest') =
    sym (read_turn count first (count_running (take turn.place pairs)) (rest ++ more) turn.reached)
    ∙ ap (read count 0) split
    ∙ read_turn count first' (count_running (take turn'.place pairs)) rest' turn'.reached in
    let ats : at ≡ at' = same_turn g first first' pairs at at' turn turn' (ap (λ x. x.0) same) in
    end_once g n k rest more at ends others lead
    (subst (λ bs. TurnsLead g k (rest ++ more) bs (map over others)) (sym ats) (subst (λ xs. TurnsLead g k xs at' (map over others)) (sym (ap (λ x. x.1) same)) lead'))
