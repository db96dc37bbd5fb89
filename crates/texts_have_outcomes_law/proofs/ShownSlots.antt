-- The privileged slots of an accepted program can be shown: those that pass a test by what is kept of it, in order.
use Rattle.std.proofs.Common.{◌≡◌, ℕ, sym, subst, List}
use Rattle.std.specs.List.{Contains}
use Rattle.std.specs.Ordering.{nat_cmp}
use Rattle.std.specs.declared.cmp.Ordering.TheVariants.{Equal}
use Rattle.sides.specs.Slots.{slot_at}
use Rattle.typed_tree.specs.TypedTree.{TypedTree}
use Rattle.flow_rules.specs.declared.accepted.Accepted.{Accepted}
use Rattle.flow_rules.specs.Faults.{IsAccepted}
use Rattle.flow_check.specs.Shown.{AreShown, IsShown, name_at, shown_cmp}
use Rattle.flow_check.proofs.ShownLemmas.{picked, picked_shown, shown_total}
use Rattle.pt_base.proofs.SortedLists.{ascending, ascends, both_tie, from_ascending, in_ascending, numbers_tie}

same_slot : (t : TypedTree) (m n : ℕ) → shown_cmp t m n ≡ Equal → m ≡ n
same_slot t m n e = numbers_tie m n (both_tie (nat_cmp (name_at t (slot_at t m).owner) (name_at t (slot_at t n).owner)) (nat_cmp m n) e).1

module _ (t : TypedTree) (a : Accepted) (is : IsAccepted t a) where
  abbrev slots : List ℕ
  slots = picked t a is

  shown_there : (n : ℕ) → IsShown t a.sides n → Contains (ascending (shown_cmp t) slots) n
  shown_there n shown =
      let m = in_ascending (shown_cmp t) (shown_total t) slots n ((picked_shown t a is n).1 shown) in
      subst (λ k. Contains (ascending (shown_cmp t) slots) k) (sym (same_slot t n m.0 m.2)) m.1

  pub slots_shown : (slots : List ℕ) × AreShown t a.sides slots
  slots_shown = (
    ascending (shown_cmp t) slots,
    record {
      sorted = ascends (shown_cmp t) (shown_total t) slots;
      same = λ n. ((λ h. (picked_shown t a is n).0 (from_ascending (shown_cmp t) slots n h)), shown_there n);
    },
  )
