-- A search in a list of entries that is in the order of its numbers.
use Rattle.std.proofs.Common.{◌≡◌, ◌<◌, ℕ, List, length, map, get_or, Some, None, nat_eq, nat_cmp, Less, Equal, Greater}
use Rattle.std.specs.Prelude.{IsTrue}
use Rattle.std.specs.List.{HoldsAt}
use Rattle.std.specs.List.Sorted.{IsNonDecreasingBy, IsPartitionPoint}
use Rattle.std.specs.Map.{lookup}
use Rattle.std.specs.Ordering.{ordering_index}
use Rattle.typed_tree.specs.WellFormed.{are_rising}
use Rattle.pt_core.specs.declared.monitor.Entry.{Entry}
pub use Rattle.code_rules.proofs.SearchLemmas.{found_entry, no_entry}

abbrev entry_number : Entry → ℕ
entry_number e = e.function.0

pub found_listed : (xs : List Entry) (f i : ℕ) (x : Entry) → IsTrue (are_rising 0 (map (λ e. e.function.0) xs)) → i < length xs → HoldsAt (λ (y : Entry). nat_cmp y.function.0 f ≡ Equal) xs i → x ≡ get_or xs i x →
    lookup (nat_eq f) (map (λ e. (e.function.0, e)) xs) ≡ Some x
found_listed xs f i x h within equal is = found_entry entry_number (λ y. y) f xs i x h within equal is

pub none_listed : (xs : List Entry) (f i : ℕ) → IsTrue (are_rising 0 (map (λ e. e.function.0) xs))
    → (IsNonDecreasingBy (λ (y : Entry). ordering_index (nat_cmp y.function.0 f)) xs → IsPartitionPoint (λ (y : Entry). nat_cmp y.function.0 f ≡ Less) (λ (y : Entry). nat_cmp y.function.0 f ≡ Greater) xs i)
    → lookup (nat_eq f) (map (λ e. (e.function.0, e)) xs) ≡ None
none_listed xs f i h parted = no_entry entry_number (λ y. y) f xs i h parted
