-- What a walk over the functions has found, and what a table is read as.
use Rattle.std.proofs.Common.{◌≡◌, ◌<◌, ◌+◌, ℕ, zero, suc, List, [], ◌∷◌, ◌++◌, length, slice_get, cond, true, false, Option, Some, None, option_map, refl, sym, ap, ◌∙◌, arith, nat_eq, nat_lt, ◌==◌, Err}
use Rattle.std.proofs.lemmas.Bool.Decides.{nat_tests}
use Rattle.std.proofs.lemmas.Cmp.{nat_eq_equiv}
use Rattle.std.specs.List.{IsDistinct, AllByRecursion}
use Rattle.std.specs.Map.{keys_of}
use Rattle.std.specs.Option.{option_to_list, option_and_then}
use Rattle.std.specs.Prelude.{Result}
use Rattle.pt_base.proofs.Numbers.{nat_eq_above, nat_eq_below as apart}
use Rattle.pt_tree.specs.declared.host_model.HostModel.{HostModel}
use Rattle.pt_tree.specs.declared.signature.Signature.{Signature}
use Rattle.serde_json.specs.Data.{Data}
use Rattle.host_table.specs.Found.{models_from}
use Rattle.host_table.specs.HostFaults.{host_model, reading_of, faults_by, table_hosts, IsAnswer, IsReading, IsOneFault}
use Rattle.host_table.specs.Hosts.{models_by}
use Rattle.host_table.specs.declared.fault.HostError.{HostError}
use Rattle.host_table.specs.declared.fault.HostError.TheVariants.{Faults, Memory}
use Rattle.host_table.specs.declared.fault.HostFault.{HostFault}
use Rattle.host_table.specs.declared.fault.HostFault.TheVariants.{NotJson}
use Rattle.host_table.specs.declared.host.Host.{Host}

abbrev Models : Type 0
Models = List (ℕ × HostModel)

-- the model under this number, if there is one, and then the others
abbrev with_first : ℕ → Option HostModel → Models → Models
with_first n o rest = option_to_list (option_map (λ (model : HostModel). (n, model)) o) ++ rest

other_first : (n q : ℕ) (o : Option HostModel) (rest : Models) → nat_eq q n ≡ false → models_by (with_first n o rest) q ≡ models_by rest q
other_first n q None rest apart = refl
other_first n q (Some model) rest apart = ap (λ b. cond b (Some model) (models_by rest q)) apart

own_first : (n : ℕ) (o : Option HostModel) (rest : Models) → models_by rest n ≡ None → models_by (with_first n o rest) n ≡ o
own_first n None rest none = none
own_first n (Some model) rest none = ap (λ b. cond b (Some model) (models_by rest n)) (nat_eq_equiv.refl n)

-- no number before the first has a model
models_below : (table : Data) (n q : ℕ) (fns : List Signature) → q < n → models_by (models_from table n fns) q ≡ None
models_below table n q [] lt = refl
models_below table n q (s ∷ fns) lt =
    other_first n q (host_model table s) (models_from table (suc n) fns) (apart q n lt) ∙ models_below table (suc n) q fns (omega arith)

-- each number has the model of its function
models_at : (table : Data) (n k q : ℕ) (fns : List Signature) → q ≡ n + k → models_by (models_from table n fns) q ≡ option_and_then (host_model table) (slice_get fns k)
models_at table n zero q [] at = refl
models_at table n (suc k) q [] at = refl
models_at table n zero q (s ∷ fns) at =
    let same : q ≡ n = omega arith in
    ap (models_by (models_from table n (s ∷ fns))) same
    ∙ own_first n (host_model table s) (models_from table (suc n) fns) (models_below table (suc n) n fns (omega arith))
models_at table n (suc k) q (s ∷ fns) at =
    other_first n q (host_model table s) (models_from table (suc n) fns) (nat_eq_above q n (omega arith)) ∙ models_at table (suc n) k q fns (omega arith)

pub models_of_table : (table : Data) (fns : List Signature) (f : ℕ) → models_by (models_from table 0 fns) f ≡ option_and_then (host_model table) (slice_get fns f)
models_of_table table fns f = models_at table 0 f f fns (omega arith)

all_first : (P : ℕ → Type 0) (n : ℕ) (o : Option HostModel) (rest : Models) → P n → AllByRecursion P (keys_of rest) → AllByRecursion P (keys_of (with_first n o rest))
all_first P n None rest here all = all
all_first P n (Some model) rest here all = (here, all)

numbers_above : (table : Data) (m n : ℕ) (fns : List Signature) → m < n → AllByRecursion (λ q. nat_eq m q ≡ false) (keys_of (models_from table n fns))
numbers_above table m n [] lt = tt
numbers_above table m n (s ∷ fns) lt =
    all_first (λ q. nat_eq m q ≡ false) n (host_model table s) (models_from table (suc n) fns) (apart m n lt) (numbers_above table m (suc n) fns (omega arith))

distinct_first : (n : ℕ) (o : Option HostModel) (rest : Models) → AllByRecursion (λ q. nat_eq n q ≡ false) (keys_of rest) → IsDistinct nat_eq (keys_of rest) → IsDistinct nat_eq (keys_of (with_first n o rest))
unfolding IsDistinct
distinct_first n None rest all differ = differ
distinct_first n (Some model) rest all differ = (all, differ)

-- no number stands twice
pub distinct_numbers_from : (table : Data) (n : ℕ) (fns : List Signature) → IsDistinct nat_eq (keys_of (models_from table n fns))
unfolding IsDistinct
distinct_numbers_from table n [] = tt
distinct_numbers_from table n (s ∷ fns) =
    distinct_first n (host_model table s) (models_from table (suc n) fns) (numbers_above table n (suc n) fns (omega arith)) (distinct_numbers_from table (suc n) fns)

-- ---- what a text is read as

pub none_listed : {X : Type 0} (xs : List X) → (length xs == 0) ≡ true → xs ≡ []
none_listed [] e = refl
none_listed (x ∷ xs) e = absurd (grind (arith, nat_tests))

pub read_answer : (text : List ℕ) (fns : List Signature) (table : Data) (r : Result Host HostError) → nat_lt 1048576 (length text) ≡ false → reading_of text ≡ Some table
    → IsAnswer (faults_by (Some table) fns) (Some (table_hosts table fns)) r → IsReading text fns r
read_answer text fns table r short read answer = rw (short, read) answer

not_empty : (fault : HostFault) → fault ∷ [] ≡ [] → ⊥
not_empty fault e = cc

pub no_answer : (text : List ℕ) (fns : List Signature) (e : HostError) → nat_lt 1048576 (length text) ≡ false → reading_of text ≡ None → IsOneFault NotJson e → IsReading text fns (Err e)
no_answer text fns (Faults found) short read one = rw (short, read) (one, λ none. not_empty NotJson (sym one ∙ none))
no_answer text fns Memory short read one = tt
