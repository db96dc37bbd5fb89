-- A slave that is given a list of replies.
use Rattle.std.specs.Prelude.{◌≤◌, ℕ, zero, suc, List, [], ◌∷◌, Option, Some, None}
use Rattle.pair_protocol.specs.Sides.{Mode, going, waits, over, Sides}
pub use Rattle.std.specs.Option.{option_to_list as listed}

-- where it is, what it said, the replies that it hasn't taken, and how many steps it made
pub record At (S X R : Type 0) : Type 0 where
  pub slave : S
  pub said : List X
  pub left : List R
  pub made : ℕ

abbrev pub came : {S X R : Type 0} → S → List X → List R → ℕ → At S X R
came s said left made = record { slave = s; said = said; left = left; made = made }

pub record Ready (S R : Type 0) : Type 0 where
  pub slave : S
  pub left : List R

abbrev pub having : {S R : Type 0} → S → List R → Ready S R
having s left = record { slave = s; left = left }

abbrev pub taken : {S M X R E Q : Type 0} → Sides S M X R E Q → S → List R → Ready S R
taken g s [] = having s []
taken g s (r ∷ rs) = having (g.take r s) rs

abbrev pub ready_in : {S M X R E Q : Type 0} → Sides S M X R E Q → Mode → S → List R → Ready S R
ready_in g going s rs = having s rs
ready_in g waits s rs = taken g s rs
ready_in g over s rs = having s rs

-- it takes a reply where it waits
abbrev pub ready : {S M X R E Q : Type 0} → Sides S M X R E Q → S → List R → Ready S R
ready g s rs = ready_in g (g.mode s) s rs

abbrev pub with_said : {X : Type 0} → Option X → List X → List X
with_said None xs = xs
with_said (Some x) xs = x ∷ xs

abbrev pub moved_on : {S M X R E Q : Type 0} → Sides S M X R E Q → Mode → Ready S R → At S X R → At S X R
moved_on g going c rest = came rest.slave (with_said (g.step c.slave).said rest.said) rest.left (suc rest.made)
moved_on g waits c rest = came c.slave [] c.left 0
moved_on g over c rest = came c.slave [] c.left 0

-- after at most so many steps
abbrev pub slave_at : {S M X R E Q : Type 0} → Sides S M X R E Q → ℕ → S → List R → At S X R
slave_at g zero s rs = came (ready g s rs).slave [] (ready g s rs).left 0
slave_at g (suc k) s rs = moved_on g (g.mode (ready g s rs).slave) (ready g s rs) (slave_at g k (g.step (ready g s rs).slave).slave (ready g s rs).left)

-- whatever it is told, it makes no more steps than these
abbrev pub IsLongest : {S M X R E Q : Type 0} → Sides S M X R E Q → ℕ → S → Type 0
IsLongest {R = R} g longest s = (replies : List R) (k : ℕ) → (slave_at g k s replies).made ≤ longest

abbrev pub said : {S M X R E Q : Type 0} → Sides S M X R E Q → ℕ → S → List R → List X
said g longest s replies = (slave_at g longest s replies).said
