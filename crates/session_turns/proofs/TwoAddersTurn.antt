-- The example's turns, one by one.
use Rattle.std.proofs.Common.{◌≡◌, ◌<◌, ℕ, zero, suc, List, [], ◌∷◌, false, inl, inr, refl, arith}
use Rattle.pair_protocol.specs.SlaveRun.{slave_at}
use Rattle.pair_protocol.specs.Pair.{Both, run, done, Who, slaves, parents}
use Rattle.pair_protocol.specs.OrderAdder.{think, post, posted, Slave, slave, adder}
use Rattle.session_turns.specs.Turns.{GoesOn, Reach}
use Rattle.session_turns.specs.TwoAdders.{AddersTurn}
use Rattle.session_turns.proofs.Onward.{quiet_first}

-- ---- how each goes on

posts_five : GoesOn adder (slave (post 5 ∷ post 0 ∷ []) [] false) 0 [] (run (slave (post 0 ∷ []) [] false) 5 (5 ∷ []))
posts_five = record { steps = 1; to = slave (post 0 ∷ []) [] false; word = posted 5; came_to = refl; quiet = quiet_first adder (slave (post 5 ∷ post 0 ∷ []) [] false); next_is = refl }

posts_last : GoesOn adder (slave (post 0 ∷ []) [] false) 5 (5 ∷ []) (done (5 ∷ 9 ∷ []) 5)
posts_last = record { steps = 1; to = slave [] [] false; word = posted 0; came_to = refl; quiet = quiet_first adder (slave (post 0 ∷ []) [] false); next_is = refl }

quiet_second : (j : ℕ) → j < 2 → (slave_at adder j (slave (think ∷ post 0 ∷ []) [] false) []).said ≡ []
quiet_second zero less = refl
quiet_second (suc zero) less = refl
quiet_second (suc (suc j)) less = absurd (omega (arith, less))

thinks : GoesOn adder (slave (think ∷ post 0 ∷ []) [] false) 7 [] (done (9 ∷ []) 7)
thinks = record { steps = 2; to = slave [] [] false; word = posted 0; came_to = refl; quiet = quiet_second; next_is = refl }

-- ---- both

abbrev Pairs : Type 0
Pairs = List (Both Slave ℕ ℕ ℕ)

abbrev second_over : Pairs
second_over = run (slave (post 5 ∷ post 0 ∷ []) [] false) 0 [] ∷ done (9 ∷ []) 7 ∷ []

abbrev posted_second_over : Pairs
posted_second_over = run (slave (post 0 ∷ []) [] false) 5 (5 ∷ []) ∷ done (9 ∷ []) 7 ∷ []

abbrev posted_second_begun : Pairs
posted_second_begun = run (slave (post 0 ∷ []) [] false) 5 (5 ∷ []) ∷ run (slave (think ∷ post 0 ∷ []) [] false) 7 [] ∷ []

abbrev first_over : Pairs
first_over = done (5 ∷ 9 ∷ []) 5 ∷ run (slave (think ∷ post 0 ∷ []) [] false) 7 [] ∷ []

no_reach : (answers : List Who) (k : ℕ) → Reach 0 answers k → ⊥
no_reach answers k (inl h) = let below = h.0 in omega (arith, below)
no_reach answers k (inr h) = let some = h.0 in omega (arith, some)

pub adders_turn : AddersTurn
adders_turn = record {
  second_first = record {
    turns = 3;
    lead = (
      slaves ∷ parents ∷ [],
      parents ∷ slaves ∷ [],
      second_over,
      refl,
      record { place = 1; slave = slave (think ∷ post 0 ∷ []) [] false; monitor = 7; written = []; next = done (9 ∷ []) 7; stands = refl; reached = inl (omega arith, refl); onward = thinks; others_stay = refl },
      (
        parents ∷ [],
        slaves ∷ [],
        posted_second_over,
        refl,
        record {
          place = 0;
          slave = slave (post 5 ∷ post 0 ∷ []) [] false;
          monitor = 0;
          written = [];
          next = run (slave (post 0 ∷ []) [] false) 5 (5 ∷ []);
          stands = refl;
          reached = inl (omega arith, refl);
          onward = posts_five;
          others_stay = refl;
        },
        (
          slaves ∷ [],
          [],
          done (5 ∷ 9 ∷ []) 5 ∷ done (9 ∷ []) 7 ∷ [],
          refl,
          record {
            place = 0;
            slave = slave (post 0 ∷ []) [] false;
            monitor = 5;
            written = 5 ∷ [];
            next = done (5 ∷ 9 ∷ []) 5;
            stands = refl;
            reached = inr (omega arith, refl, refl);
            onward = posts_last;
            others_stay = refl;
          },
          (refl, refl),
        ),
      ),
    );
  };
  first_first = record {
    turns = 3;
    lead = (
      slaves ∷ slaves ∷ [],
      parents ∷ parents ∷ [],
      posted_second_begun,
      refl,
      record {
        place = 0;
        slave = slave (post 5 ∷ post 0 ∷ []) [] false;
        monitor = 0;
        written = [];
        next = run (slave (post 0 ∷ []) [] false) 5 (5 ∷ []);
        stands = refl;
        reached = inr (omega arith, refl, refl);
        onward = posts_five;
        others_stay = refl;
      },
      (
        parents ∷ [],
        parents ∷ [],
        first_over,
        refl,
        record {
          place = 0;
          slave = slave (post 0 ∷ []) [] false;
          monitor = 5;
          written = 5 ∷ [];
          next = done (5 ∷ 9 ∷ []) 5;
          stands = refl;
          reached = inl (omega arith, refl);
          onward = posts_last;
          others_stay = refl;
        },
        (
          parents ∷ [],
          [],
          done (5 ∷ 9 ∷ []) 5 ∷ done (9 ∷ []) 7 ∷ [],
          refl,
          record { place = 1; slave = slave (think ∷ post 0 ∷ []) [] false; monitor = 7; written = []; next = done (9 ∷ []) 7; stands = refl; reached = inl (omega arith, refl); onward = thinks; others_stay = refl },
          (refl, refl),
        ),
      ),
    );
  };
  last_of_three = inl (omega arith, refl);
  none_reached = no_reach;
}
