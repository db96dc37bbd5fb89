-- What parts of a run do with their budget.
use Rattle.std.proofs.Common.{◌≡◌, ◌≤◌, ◌+◌, ℕ, zero, suc, Bool, true, false, List, [], ◌++◌, if◌then◌else◌, refl, sym, ◌∙◌, ap, subst, arith}
use Rattle.std.proofs.lemmas.List.{append_assoc, append-nil}
use Rattle.pt_base.specs.declared.span.Span.{Span}
use Rattle.pt_base.specs.declared.trap.Trap.{Trap}
use Rattle.runs.specs.State.{Event, gives, trapped, spent, ◌>>=◌, take_turn}
use Rattle.source_meaning.specs.Memory.{Memory}
use Rattle.source_meaning.specs.State.{State, Outcome}

-- events were added and turns were taken
pub record Grows (st st' : State) : Type 0 where
  pub added : (rest : List Event) × (st'.events ≡ st.events ++ rest)
  pub taken : st'.left ≤ st.left

-- the state that a part of a run comes to
abbrev pub state_of : {A : Type 0} → Outcome A → State
state_of (gives a st) = st
state_of (trapped trap s st) = st
state_of (spent st) = st

-- the state with d + 1 turns more left
abbrev pub longer : ℕ → State → State
longer d st = record st { left = suc (st.left + d) }

-- r is what it comes to with d + 1 turns more: the same, with as many more left; or, where the fewer
-- turns were spent, it goes on from there and takes at least one of them
abbrev pub Follows : {A : Type 0} → ℕ → Outcome A → Outcome A → Type 0
Follows d (gives a st) r = r ≡ gives a (longer d st)
Follows d (trapped trap s st) r = r ≡ trapped trap s (longer d st)
Follows d (spent st) r = (st.left ≡ 0) × Grows (record st { left = d }) (state_of r)

-- f only adds events and only takes turns, and with more turns it does the same as long as the fewer
-- last
pub record Keeps {A : Type 0} (f : State → Outcome A) : Type 0 where
  pub grows : (st : State) → Grows st (state_of (f st))
  pub follows : (d : ℕ) (st : State) → Follows d (f st) (f (longer d st))

-- ---- states

pub grows_same : (st st' : State) → st'.events ≡ st.events → st'.left ≡ st.left → Grows st st'
grows_same st st' e l = record { added = ([], e ∙ sym (append-nil st.events)); taken = omega arith }

pub grows_self : (st : State) → Grows st st
grows_self st = grows_same st st refl refl

pub grows_more : (a b c : State) → Grows a b → Grows b c → Grows a c
grows_more a b c g h = record {
  added = (g.added.0 ++ h.added.0, h.added.1 ∙ ap (λ es. es ++ h.added.0) g.added.1 ∙ append_assoc a.events g.added.0 h.added.0);
  taken = let one : b.left ≤ a.left = g.taken in let two : c.left ≤ b.left = h.taken in omega arith;
}

-- ---- one part after another

pub grows_bind : {A B : Type 0} (base : State) (r : Outcome A) (g : A → State → Outcome B) → Grows base (state_of r) → ((a : A) (st : State) → Grows st (state_of (g a st))) → Grows base (state_of (r >>= g))
grows_bind base (gives a st) g h k = grows_more base st (state_of (g a st)) h (k a st)
grows_bind base (trapped trap s st) g h k = h
grows_bind base (spent st) g h k = h

pub follows_bind : {A B : Type 0} (d : ℕ) (base : State) (r r' : Outcome A) (g g' : A → State → Outcome B) → Grows base (state_of r) → Follows d r r' → ((a : A) (st : State) → Grows st (state_of (g' a st))) → ((a : A) (st : State) → st.left ≤ base.left → Follows d (g a st) (g' a (longer d st))) → Follows d (r >>= g) (r' >>= g')
follows_bind d base (gives a st) r' g g' grown h more k = subst (λ r. Follows d (g a st) (r >>= g')) (sym h) (k a st grown.taken)
follows_bind d base (trapped trap s st) r' g g' grown h more k = ap (λ r. r >>= g') h
follows_bind d base (spent st) r' g g' grown h more k = (h.0, grows_bind (record st { left = d }) r' g' h.1 more)

pub keeps_bind : {A B : Type 0} (f : State → Outcome A) (g : A → State → Outcome B) → Keeps f → ((a : A) → Keeps (g a)) → Keeps (λ st. f st >>= g)
keeps_bind f g kf kg = record {
  grows = λ st. grows_bind st (f st) g (kf.grows st) (λ a. (kg a).grows);
  follows = λ d st. follows_bind d st (f st) (f (longer d st)) g g (kf.grows st) (kf.follows d st) (λ a. (kg a).grows) (λ a st1 le. (kg a).follows d st1);
}

-- ---- what takes no turn

pub keeps_gives : {A : Type 0} (a : A) → Keeps (λ st. gives a st)
keeps_gives a = record { grows = grows_self; follows = λ d st. refl }

pub keeps_trapped : {A : Type 0} (trap : Trap) (s : Span) → Keeps {A = A} (λ st. trapped trap s st)
keeps_trapped trap s = record { grows = grows_self; follows = λ d st. refl }

-- what reads something of the state that isn't its turns
pub keeps_read : {A B : Type 0} (h : State → B) (f : B → State → Outcome A) → ((d : ℕ) (st : State) → h (longer d st) ≡ h st) → ((b : B) → Keeps (f b)) → Keeps (λ st. f (h st) st)
keeps_read h f same k = record {
  grows = λ st. (k (h st)).grows st;
  follows = λ d st. subst (λ b. Follows d (f (h st) st) (f b (longer d st))) (sym (same d st)) ((k (h st)).follows d st);
}

-- what changes something of the state first, and adds events at most
pub keeps_change : {A : Type 0} (h : State → State) (f : State → Outcome A) → ((st : State) → Grows st (h st)) → ((d : ℕ) (st : State) → h (longer d st) ≡ longer d (h st)) → Keeps f → Keeps (λ st. f (h st))
keeps_change h f grown same k = record {
  grows = λ st. grows_more st (h st) (state_of (f (h st))) (grown st) (k.grows (h st));
  follows = λ d st. subst (λ st'. Follows d (f (h st)) (f st')) (sym (same d st)) (k.follows d (h st));
}

pub keeps_memory : {A : Type 0} (h : Memory → Memory) (f : State → Outcome A) → Keeps f → Keeps (λ st. f (record st { memory = h st.memory }))
keeps_memory h f k = keeps_change (λ st. record st { memory = h st.memory }) f (λ st. grows_same st (record st { memory = h st.memory }) refl refl) (λ d st. refl) k

-- ---- choices

pub keeps_if : {A : Type 0} (b : Bool) (f g : State → Outcome A) → Keeps f → Keeps g → Keeps (if b then f else g)
keeps_if true f g kf kg = kf
keeps_if false f g kf kg = kg

pub keeps_either : {A : Type 0} (b : Bool) (f g : State → Outcome A) → Keeps f → Keeps g → Keeps (λ st. if b then f st else g st)
keeps_either true f g kf kg = kf
keeps_either false f g kf kg = kg

-- ---- turns

pub grows_turn : {A : Type 0} (n : ℕ) (st : State) (k : State → Outcome A) → st.left ≡ n → ((st' : State) → Grows st' (state_of (k st'))) → Grows st (state_of (take_turn n st k))
grows_turn zero st k e h = grows_self st
grows_turn (suc n) st k e h = grows_more st (record st { left = n }) (state_of (k (record st { left = n })))
    (record { added = (grows_self st).added; taken = omega arith }) (h (record st { left = n }))

-- the turn that the longer budget has left is not the last one
pub follows_turn : {A : Type 0} (d n : ℕ) (st : State) (k k' : State → Outcome A) → st.left ≡ n → ((st' : State) → Grows st' (state_of (k' st'))) → ((m : ℕ) → n ≡ suc m → Follows d (k (record st { left = m })) (k' (longer d (record st { left = m })))) → Follows d (take_turn n st k) (take_turn (suc (st.left + d)) (longer d st) k')
follows_turn d zero st k k' e more h =
    let none : st.left + d ≡ d = omega arith in
    (e, subst (λ m. Grows (record st { left = d }) (state_of (k' (record st { left = m })))) (sym none) (more (record st { left = d })))
follows_turn d (suc n) st k k' e more h =
    let one : suc (n + d) ≡ st.left + d = omega arith in
    subst (λ m. Follows d (k (record st { left = n })) (k' (record st { left = m }))) one (h n refl)

pub keeps_turn : {A : Type 0} (k : State → Outcome A) → Keeps k → Keeps (λ st. take_turn st.left st k)
keeps_turn k keeps = record {
  grows = λ st. grows_turn st.left st k refl keeps.grows;
  follows = λ d st. follows_turn d st.left st k k refl keeps.grows (λ m e. keeps.follows d (record st { left = m }));
}
