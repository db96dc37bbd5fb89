-- Parts of objects, and what pointers to them agree with.
use Rattle.std.proofs.Common.{◌≡◌, ◌∙◌, ◌≤◌, ◌<◌, ℕ, zero, suc, ◌+◌, ◌*◌, refl, ap, sym, subst, arith, true, false, List, [], ◌∷◌, zero-add, add-zero, add_assoc}
use Rattle.pt_core.specs.Types.{Context, field_type, path_type}
use Rattle.pt_core.specs.Values.{Location, along, field_at, offset_in}
use Rattle.runs.specs.Pointers.{cell_at}
use Rattle.handle_classes.specs.Classes.{Class, part, pointer_to, pointed_to, path_offset}
use Rattle.handle_classes.specs.Judgment.{AreAlike}
use Rattle.handle_classes.specs.Invariant.{Agrees}

-- an object of the first class lies in one of the second, from this cell on
pub record IsPart (c of : Class) (from : ℕ) : Type 0 where
  pub object : of.pointer ≡ false
  pub may : (n : ℕ) → n < c.size → of.may (from + n) ≡ true → c.may n ≡ true
  pub must : (n : ℕ) → n < c.size → c.must n ≡ true → of.may (from + n) ≡ true

pub whole_part : (c : Class) → c.pointer ≡ false → ((n : ℕ) → c.must n ≡ true → c.may n ≡ true) → IsPart c c 0
whole_part c object both = record {
  object = object;
  may = λ n _ h. subst (λ k. c.may k ≡ true) (zero-add n) h;
  must = λ n _ h. subst (λ k. c.may k ≡ true) (sym (zero-add n)) (both n h);
}

within : (off size total n : ℕ) → off + size ≤ total → n < size → off + n < total
within off size total n h k = omega (arith, h, k)

pub part_of_part : (c of : Class) (from off size : ℕ) → IsPart c of from → off + size ≤ c.size → IsPart (part off size c) of (from + off)
part_of_part c of from off size p room = record {
  object = p.object;
  may = λ n less h. p.may (off + n) (within off size c.size n room less) (subst (λ k. of.may k ≡ true) (add_assoc from off n) h);
  must = λ n less h. subst (λ k. of.may k ≡ true) (sym (add_assoc from off n)) (p.must (off + n) (within off size c.size n room less) h);
}

pub element_part : (c of : Class) (base count index : ℕ) → Agrees c of base count → index < count → IsPart (pointed_to c) of (cell_at c.size base index)
element_part c of base count index agrees less = record {
  object = agrees.object;
  may = λ n small h. agrees.may index n less small h;
  must = λ n small h. agrees.must index n less small h;
}

pub less_trans : (n a b : ℕ) → n < a → a ≤ b → n < b
less_trans n a b h k = omega (arith, h, k)

only_zero : (i : ℕ) → i < 1 → i ≡ 0
only_zero i h = omega (arith, h)

first_cell : (size base i n : ℕ) → i < 1 → cell_at size base i + n ≡ base + n
first_cell size base zero n h = ap (λ k. k + n) (ap (λ k. base + k) (zero_times size) ∙ add-zero base)
  where
    zero_times : (k : ℕ) → 0 * k ≡ 0
    zero_times k = omega arith
first_cell size base (suc i) n h = let no : suc i ≡ 0 = only_zero (suc i) h in cc

pub address_agrees : (c of : Class) (from size : ℕ) → IsPart c of from → size ≤ c.size → Agrees (pointer_to size c) of from 1
address_agrees c of from size p room = record {
  object = p.object;
  may = λ i n less small h. p.may n (less_trans n size c.size small room) (subst (λ k. of.may k ≡ true) (first_cell size from i n less) h);
  must = λ i n less small h. subst (λ k. of.may k ≡ true) (sym (first_cell size from i n less)) (p.must n (less_trans n size c.size small room) h);
}

pub decay_agrees : (c of : Class) (from size count : ℕ) → IsPart c of from → AreAlike c size count → Agrees (pointer_to size c) of from count
decay_agrees c of from size count p alike = record {
  object = p.object;
  may = λ i n less small h. sym (alike.may i n less small) ∙ p.may (i * size + n) (alike.within i n less small) (subst (λ k. of.may k ≡ true) (add_assoc from (i * size) n) h);
  must = λ i n less small h. subst (λ k. of.may k ≡ true) (sym (add_assoc from (i * size) n)) (p.must (i * size + n) (alike.within i n less small) (alike.must i n less small ∙ h));
}

-- ---- along a path

pub record Led (c : Context) (path : List ℕ) (at : Location) : Type 0 where
  pub block : (along c path at).block ≡ at.block
  pub cell : (along c path at).cell ≡ at.cell + path_offset c.structs at.ty path
  pub ty : (along c path at).ty ≡ path_type c.structs at.ty path

pub led : (c : Context) (path : List ℕ) (at : Location) → Led c path at
led c [] at = record { block = refl; cell = sym (add-zero at.cell); ty = refl }
led c (k ∷ ks) at =
    let next : Led c ks (field_at c k at) = led c ks (field_at c k at) in
    record { block = next.block; cell = next.cell ∙ add_assoc at.cell (offset_in c.structs at.ty k) (path_offset c.structs (field_type c.structs at.ty k) ks); ty = next.ty }
