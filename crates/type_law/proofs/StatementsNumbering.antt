-- The outermost expressions of statements have consecutive numbers, and stand in the program's list at
-- these numbers.
use Rattle.std.proofs.Common.{◌≡◌, ◌≤◌, ℕ, suc, ◌+◌, refl, sym, ap, ◌∙◌, subst, List, [], ◌∷◌, ◌++◌, length, length-append, append_assoc, append-nil, arith, Some}
use Rattle.std.specs.Prelude.{⊤, IsTrue, nat_eq, slice_get}
use Rattle.std.proofs.lemmas.Bool.Decides.{nat_tests}
use Rattle.pt_base.proofs.Booleans.{both_hold}
use Rattle.typed_tree.specs.declared.part.Part.{Part}
use Rattle.typed_tree.specs.declared.part.Role.{Role}
use Rattle.typed_tree.specs.ExpressionTree.{ExprTree}
use Rattle.typed_tree.specs.Parts.{part_of}
use Rattle.typed_tree.specs.WellFormed.{are_numbered, are_consecutive}
use Rattle.check_declarations.specs.Structs.{Structs}
use Rattle.check_expressions.specs.declared.meaning.Variable.{Variable}
use Rattle.check_statements.specs.Outermost.{State, behind}
use Rattle.check_statements.specs.Statements.{inside, outside, with_structs}

-- ---- places

-- these trees stand in the list from this place on
abbrev pub StandAt : List ExprTree → ℕ → List ExprTree → Type 0
StandAt all k [] = ⊤
StandAt all k (t ∷ ts) = (slice_get all k ≡ Some t) × StandAt all (suc k) ts

pub stand_left : (all : List ExprTree) (k : ℕ) (xs ys : List ExprTree) → StandAt all k (xs ++ ys) → StandAt all k xs
stand_left all k [] ys h = tt
stand_left all k (x ∷ xs) ys h = (h.0, stand_left all (suc k) xs ys h.1)

pub stand_right : (all : List ExprTree) (k : ℕ) (xs ys : List ExprTree) → StandAt all k (xs ++ ys) → StandAt all (k + length xs) ys
stand_right all k [] ys h = let e : k ≡ k + 0 = omega arith in subst (λ (m : ℕ). StandAt all m ys) e h
stand_right all k (x ∷ xs) ys h =
    let e : suc k + length xs ≡ k + length (x ∷ xs) = omega arith in
    subst (λ (m : ℕ). StandAt all m ys) e (stand_right all (suc k) xs ys h.1)

stand_later : (b : ExprTree) (all : List ExprTree) (k : ℕ) (ts : List ExprTree) → StandAt all k ts → StandAt (b ∷ all) (suc k) ts
stand_later b all k [] h = tt
stand_later b all k (t ∷ ts) h = (h.0, stand_later b all (suc k) ts h.1)

stand_first : (ts after : List ExprTree) → StandAt (ts ++ after) 0 ts
stand_first [] after = tt
stand_first (t ∷ ts) after = (refl, stand_later t (ts ++ after) 0 ts (stand_first ts after))

pub stand : (before ts after : List ExprTree) → StandAt (before ++ ts ++ after) (length before) ts
stand [] ts after = stand_first ts after
stand (b ∷ before) ts after = stand_later b (before ++ ts ++ after) (length before) ts (stand before ts after)

-- ---- numbers

-- the parts have the numbers from this one on
abbrev pub AreFrom : ℕ → List Part → Type 0
AreFrom k [] = ⊤
AreFrom k (p ∷ ps) = (p.expr.0 ≡ k) × AreFrom (suc k) ps

pub from_append : (k : ℕ) (ps qs : List Part) → AreFrom k ps → AreFrom (k + length ps) qs → AreFrom k (ps ++ qs)
from_append k [] qs h g = let e : k + 0 ≡ k = omega arith in subst (λ (m : ℕ). AreFrom m qs) e g
from_append k (p ∷ ps) qs h g =
    let e : k + length (p ∷ ps) ≡ suc k + length ps = omega arith in
    (h.0, from_append (suc k) ps qs h.1 (subst (λ (m : ℕ). AreFrom m qs) e g))

numbered : (k : ℕ) (ps : List Part) (last : ℕ) → AreFrom k ps → k + length ps ≤ last → IsTrue (are_numbered k ps last)
numbered k [] last h within = grind (arith, nat_tests, within)
numbered k (p ∷ ps) last h within =
    let rest : suc k + length ps ≤ last = omega (arith, within) in
    let first : p.expr.0 ≡ k = h.0 in
    both_hold (nat_eq p.expr.0 k) (are_numbered (suc k) ps last) (grind (arith, nat_tests, first)) (numbered (suc k) ps last h.1 rest)

pub consecutive : (k : ℕ) (ps : List Part) (last : ℕ) → AreFrom k ps → k + length ps ≤ last → IsTrue (are_consecutive ps last)
consecutive k [] last h within = refl
consecutive k (p ∷ ps) last h within = subst (λ (m : ℕ). IsTrue (are_numbered m (p ∷ ps) last)) (sym h.0) (numbered k (p ∷ ps) last h within)

-- ---- from one state to another

-- Whatever the faults: nothing of the file changes, variables come at the end, and these trees are the
-- next outermost expressions, in the order of these parts.
pub record Goes (st st' : State) (trees : List ExprTree) (parts : List Part) : Type 0 where
  pub file : st'.env.file ≡ st.env.file
  pub functions : st'.env.functions ≡ st.env.functions
  pub globals : st'.env.globals ≡ st.env.globals
  pub new : List Variable
  pub variables : st'.env.variables ≡ st.env.variables ++ new
  pub next : st'.next ≡ st.next + length trees
  pub numbers : AreFrom st.next parts
  pub many : length parts ≡ length trees

pub goes_nowhere : (st : State) → Goes st st [] []
goes_nowhere st = record {
  file = refl;
  functions = refl;
  globals = refl;
  new = [];
  variables = sym (append-nil st.env.variables);
  next = omega arith;
  numbers = tt;
  many = refl;
}

pub goes_on : (st st1 st2 : State) (ts us : List ExprTree) (ps qs : List Part) → Goes st st1 ts ps → Goes st1 st2 us qs → Goes st st2 (ts ++ us) (ps ++ qs)
goes_on st st1 st2 ts us ps qs a b =
    let trees = length-append ts us in
    let parts = length-append ps qs in
    let before : st1.next ≡ st.next + length ts = a.next in
    let after : st2.next ≡ st1.next + length us = b.next in
    let first : length ps ≡ length ts = a.many in
    let second : length qs ≡ length us = b.many in
    let between : st1.next ≡ st.next + length ps = omega arith in
    record {
      file = b.file ∙ a.file;
      functions = b.functions ∙ a.functions;
      globals = b.globals ∙ a.globals;
      new = a.new ++ b.new;
      variables = b.variables ∙ ap (λ xs. xs ++ b.new) a.variables ∙ append_assoc st.env.variables a.new b.new;
      next = omega arith;
      numbers = from_append st.next ps qs a.numbers (subst (λ (m : ℕ). AreFrom m qs) between b.numbers);
      many = omega arith;
    }

-- past one outermost expression
pub goes_one : (st : State) (structs : Structs) (t : ExprTree) (role : Role) → Goes st (behind st structs) (t ∷ []) (part_of role (record { 0 = st.next }) ∷ [])
goes_one st structs t role = record {
  file = refl;
  functions = refl;
  globals = refl;
  new = [];
  variables = sym (append-nil st.env.variables);
  next = refl;
  numbers = (refl, tt);
  many = refl;
}

pub goes_inside : (st st' : State) (ts : List ExprTree) (ps : List Part) → Goes (inside st) st' ts ps → Goes st st' ts ps
goes_inside st st' ts ps g = record { file = g.file; functions = g.functions; globals = g.globals; new = g.new; variables = g.variables; next = g.next; numbers = g.numbers; many = g.many }

pub goes_outside : (st st' : State) (ts : List ExprTree) (ps : List Part) → Goes st st' ts ps → Goes st (outside st') ts ps
goes_outside st st' ts ps g = record { file = g.file; functions = g.functions; globals = g.globals; new = g.new; variables = g.variables; next = g.next; numbers = g.numbers; many = g.many }

pub goes_with : (st st' : State) (structs : Structs) (ts : List ExprTree) (ps : List Part) → Goes (with_structs st structs) st' ts ps → Goes st st' ts ps
goes_with st st' structs ts ps g = record { file = g.file; functions = g.functions; globals = g.globals; new = g.new; variables = g.variables; next = g.next; numbers = g.numbers; many = g.many }
