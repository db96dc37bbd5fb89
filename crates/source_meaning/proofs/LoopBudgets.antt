-- Loops keep their budget where each of their rounds does.
use Rattle.std.proofs.Common.{◌≡◌, ◌≤◌, ◌<◌, ◌+◌, ℕ, zero, suc, Bool, false, refl, ◌∙◌, ap, arith}
use Rattle.runs.specs.State.{gives, trapped, spent, take_turn, ◌>>=◌}
use Rattle.source_meaning.specs.State.{State, Outcome}
use Rattle.source_meaning.specs.Statements.{Flow, Round, again, leaves, after_round, looped}
use Rattle.source_meaning.proofs.Budgets.{Grows, state_of, longer, Follows, Keeps, grows_self, grows_bind, grows_turn, follows_bind, follows_turn}

grows_after : (more : State → Outcome Flow) → ((st : State) → Grows st (state_of (more st))) → (r : Round) (st : State) → Grows st (state_of (after_round more r st))
grows_after more h again st = h st
grows_after more h (leaves flow) st = grows_self st

grows_looped : (rounds : ℕ) (round : Bool → State → Outcome Round) → ((first : Bool) → Keeps (round first)) → (first : Bool) (st : State) → Grows st (state_of (looped rounds round first st))
grows_looped zero round k first st = grows_self st
grows_looped (suc rounds) round k first st =
    grows_turn st.left st (λ st1. round first st1 >>= after_round (looped rounds round false)) refl
    (λ st1. grows_bind st1 (round first st1) (after_round (looped rounds round false)) ((k first).grows st1) (grows_after (looped rounds round false) (grows_looped rounds round k false)))

follows_after : (d n : ℕ) (more more' : State → Outcome Flow) → ((st : State) → st.left ≤ n → Follows d (more st) (more' (longer d st))) → (r : Round) (st : State) → st.left ≤ n → Follows d (after_round more r st) (after_round more' r (longer d st))
follows_after d n more more' h again st le = h st le
follows_after d n more more' h (leaves flow) st le = refl

-- neither loop runs out of rounds before its turns
follows_looped : (d rounds rounds' : ℕ) (round : Bool → State → Outcome Round) → ((first : Bool) → Keeps (round first)) → (first : Bool) (st : State) → st.left ≤ rounds → st.left + d < rounds' → Follows d (looped rounds round first st) (looped rounds' round first (longer d st))
follows_looped d rounds zero round k first st le le' = absurd (omega arith)
follows_looped d zero (suc rounds') round k first st le le' =
    let none : st.left ≡ 0 = omega arith in
    follows_turn d zero st (λ st1. spent st1) (λ st1. round first st1 >>= after_round (looped rounds' round false)) none
    (λ st1. grows_bind st1 (round first st1) (after_round (looped rounds' round false)) ((k first).grows st1) (grows_after (looped rounds' round false) (grows_looped rounds' round k false)))
    (λ m e. absurd (omega arith))
follows_looped d (suc rounds) (suc rounds') round k first st le le' =
    follows_turn d st.left st (λ st1. round first st1 >>= after_round (looped rounds round false)) (λ st1. round first st1 >>= after_round (looped rounds' round false)) refl
    (λ st1. grows_bind st1 (round first st1) (after_round (looped rounds' round false)) ((k first).grows st1) (grows_after (looped rounds' round false) (grows_looped rounds' round k false)))
    (λ m e. let st1 : State = record st { left = m } in
    follows_bind d st1 (round first st1) (round first (longer d st1)) (after_round (looped rounds round false)) (after_round (looped rounds' round false))
    ((k first).grows st1) ((k first).follows d st1) (grows_after (looped rounds' round false) (grows_looped rounds' round k false))
    (λ r st2 lt. follows_after d m (looped rounds round false) (looped rounds' round false) (λ st3 le3. follows_looped d rounds rounds' round k false st3 (omega arith) (omega arith)) r st2 lt))

pub keeps_looped : (round : Bool → State → Outcome Round) → ((first : Bool) → Keeps (round first)) → (first : Bool) → Keeps (λ st. looped st.left round first st)
keeps_looped round k first = record {
  grows = λ st. grows_looped st.left round k first st;
  follows = λ d st. follows_looped d st.left (suc (st.left + d)) round k first st (omega arith) (omega arith);
}

-- ---- as many rounds as turns are enough

-- no round has more turns left than it began with
abbrev pub NeverRises : (Bool → State → Outcome Round) → Type 0
NeverRises round = (first : Bool) (st : State) → (state_of (round first st)).left ≤ st.left

same_turn : {A : Type 0} (l : ℕ) (st : State) (k k' : State → Outcome A) → ((m : ℕ) → l ≡ suc m → k (record st { left = m }) ≡ k' (record st { left = m })) → take_turn l st k ≡ take_turn l st k'
same_turn zero st k k' h = refl
same_turn (suc m) st k k' h = h m refl

same_bind : {A B : Type 0} (n : ℕ) (r : Outcome A) (g g' : A → State → Outcome B) → (state_of r).left ≤ n → ((a : A) (st : State) → st.left ≤ n → g a st ≡ g' a st) → (r >>= g) ≡ (r >>= g')
same_bind n (gives a st) g g' le h = h a st le
same_bind n (trapped trap s st) g g' le h = refl
same_bind n (spent st) g g' le h = refl

same_after : (more more' : State → Outcome Flow) (r : Round) (st : State) → more st ≡ more' st → after_round more r st ≡ after_round more' r st
same_after more more' again st h = h
same_after more more' (leaves flow) st h = refl

pub rounds_suffice : (round : Bool → State → Outcome Round) → NeverRises round → (n m : ℕ) (first : Bool) (st : State) → st.left ≤ n → st.left ≤ m → looped n round first st ≡ looped m round first st
rounds_suffice round falls zero zero first st le le' = refl
rounds_suffice round falls zero (suc m) first st le le' =
    let none : 0 ≡ st.left = omega arith in ap (λ l. take_turn l st (λ st1. round first st1 >>= after_round (looped m round false))) none
rounds_suffice round falls (suc n) zero first st le le' =
    let none : st.left ≡ 0 = omega arith in ap (λ l. take_turn l st (λ st1. round first st1 >>= after_round (looped n round false))) none
rounds_suffice round falls (suc n) (suc m) first st le le' =
    same_turn st.left st (λ st1. round first st1 >>= after_round (looped n round false)) (λ st1. round first st1 >>= after_round (looped m round false))
    (λ l is. same_bind l (round first (record st { left = l })) (after_round (looped n round false)) (after_round (looped m round false)) (falls first (record st { left = l }))
    (λ r st2 lt. same_after (looped n round false) (looped m round false) r st2 (rounds_suffice round falls n m false st2 (omega arith) (omega arith))))

-- a loop is a turn, a round, and the loop again where that says so
pub loop_unrolls : (round : Bool → State → Outcome Round) → NeverRises round → (first : Bool) (st : State) → looped st.left round first st ≡ take_turn st.left st (λ st1. round first st1 >>= after_round (λ st2. looped st2.left round false st2))
loop_unrolls round falls first st =
    rounds_suffice round falls st.left (suc st.left) first st (omega arith) (omega arith) ∙
    same_turn st.left st (λ st1. round first st1 >>= after_round (looped st.left round false)) (λ st1. round first st1 >>= after_round (λ st2. looped st2.left round false st2))
    (λ l is. same_bind l (round first (record st { left = l })) (after_round (looped st.left round false)) (after_round (λ st2. looped st2.left round false st2)) (falls first (record st { left = l }))
    (λ r st2 lt. same_after (looped st.left round false) (λ st3. looped st3.left round false st3) r st2 (rounds_suffice round falls st.left st2.left false st2 (omega arith) (omega arith))))

pub keeps_falls : (round : Bool → State → Outcome Round) → ((first : Bool) → Keeps (round first)) → NeverRises round
keeps_falls round k first st = ((k first).grows st).taken
