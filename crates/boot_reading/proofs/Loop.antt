-- Reading so many parts one behind the other, as a loop does.
use Rattle.std.proofs.Common.{◌≡◌, ◌≢◌, ℕ, zero, suc, ◌-◌, ◌+◌, ◌≤◌, ◌<◌, List, [], ◌∷◌, ◌++◌, map, refl, sym, ap, ◌∙◌, append_assoc, arith}
use Rattle.std.specs.Prelude.{Ok, Err}
use Rattle.std.proofs.lemmas.List.{append-nil, map-append}
use Rattle.pt_core.specs.CodeTree.{StmtTree, stmt_trees}
use Rattle.boot_fields.specs.declared.fault.ReadError.{ReadError}
use Rattle.boot_fields.specs.declared.fault.ReadError.TheVariants.{Bad, Memory}
use Rattle.boot_fields.specs.Reading.{◌>>=◌, Fails, Reading, many, list_at, number64_at, expr_at, step_at, stmt_at, stmts_at}

-- what was read before, and what is still read
abbrev pub with_front : {A : Type 0} → List A → Reading (List A) → Reading (List A)
with_front front read = read >>= λ x. Ok (front ++ x.0, x.1)

regroup : {A : Type 0} (front : List A) (x : A) (read : Reading (List A)) → with_front front (read >>= λ found. Ok (x ∷ found.0, found.1)) ≡ with_front (front ++ x ∷ []) read
regroup front x (Ok found) = ap (λ xs. Ok (xs, found.1)) (simp append_assoc)
regroup front x (Err e) = refl

no_front : {A : Type 0} (read : Reading (List A)) → with_front [] read ≡ read
no_front (Ok found) = refl
no_front (Err e) = refl

-- the length was read
pub starts : {A : Type 0} (part : List ℕ → Reading A) (bytes front : List ℕ) (count : ℕ) → number64_at bytes ≡ Ok (count, front) → with_front [] (many part (count - 0) front) ≡ list_at part bytes
unfolding list_at
starts part bytes front count h =
    let all : count - 0 ≡ count = omega arith in
    rw all (no_front (many part count front) ∙ sym (ap (λ r. r >>= λ n. many part n.0 n.1) h))

pub no_length : {A : Type 0} (part : List ℕ → Reading A) (bytes : List ℕ) (e : ReadError) → Fails e (number64_at bytes) → Fails e (list_at part bytes)
unfolding list_at
no_length part bytes Memory h = tt
no_length part bytes Bad h = ap (λ r. r >>= λ n. many part n.0 n.1) h

pub goes_on : {A : Type 0} (part : List ℕ → Reading A) (front more : List A) (count i : ℕ) (bytes : List ℕ) (x : A) (after : List ℕ) (total : Reading (List A)) → i < count → part bytes ≡ Ok (x, after) → more ≡ front ++ x ∷ []
    → with_front front (many part (count - i) bytes) ≡ total → with_front more (many part (count - (i + 1)) after) ≡ total
unfolding many
goes_on part front more count i bytes x after total lt h pushed so_far =
    let k : count - i ≡ suc (count - (i + 1)) = omega arith in
    let one : with_front front (many part (count - i) bytes) ≡ with_front (front ++ x ∷ []) (many part (count - (i + 1)) after) = rw (k, h) (regroup front x (many part (count - (i + 1)) after)) in
    ap (λ front. with_front front (many part (count - (i + 1)) after)) pushed ∙ sym one ∙ so_far

-- the items are seen by a view
pub goes_on_by : {X A : Type 0} (view : X → A) (part : List ℕ → Reading A) (items more : List X) (count i : ℕ) (bytes : List ℕ) (x : X) (after : List ℕ) (total : Reading (List A)) → i < count → part bytes ≡ Ok (view x, after)
    → more ≡ items ++ x ∷ [] → with_front (map view items) (many part (count - i) bytes) ≡ total → with_front (map view more) (many part (count - (i + 1)) after) ≡ total
goes_on_by view part items more count i bytes x after total lt h pushed so_far =
    goes_on part (map view items) (map view more) count i bytes (view x) after total lt h (ap (map view) pushed ∙ map-append view items (x ∷ [])) so_far

pub ends : {A : Type 0} (part : List ℕ → Reading A) (e : ReadError) (front : List A) (count i : ℕ) (bytes : List ℕ) (total : Reading (List A)) → i < count → Fails e (part bytes)
    → with_front front (many part (count - i) bytes) ≡ total → Fails e total
unfolding many
ends part Memory front count i bytes total lt h so_far = tt
ends part Bad front count i bytes total lt h so_far =
    let k : count - i ≡ suc (count - (i + 1)) = omega arith in
    let one : with_front front (many part (count - i) bytes) ≡ Err Bad = rw (k, h) refl in
    sym so_far ∙ one

pub is_done : {A : Type 0} (part : List ℕ → Reading A) (front : List A) (count i : ℕ) (bytes : List ℕ) (total : Reading (List A)) → count ≤ i → with_front front (many part (count - i) bytes) ≡ total → total ≡ Ok (front, bytes)
unfolding many
is_done part front count i bytes total le so_far =
    let k : count - i ≡ 0 = omega arith in
    let one : with_front front (many part (count - i) bytes) ≡ Ok (front, bytes) = rw k (ap (λ xs. Ok (xs, bytes)) (append-nil front)) in
    sym so_far ∙ one

-- one node deeper
pub stmt_deeper : (d : ℕ) (bytes : List ℕ) → d ≢ 0 → stmt_at d bytes ≡ step_at (expr_at (d - 1)) (stmt_at (d - 1)) bytes
unfolding stmt_at
stmt_deeper zero bytes h = absurd (h refl)
stmt_deeper (suc d) bytes h = let less : suc d - 1 ≡ d = omega arith in rw less refl

-- a list of statements, packed
pub stmts_fail : (stmt : List ℕ → Reading StmtTree) (bytes : List ℕ) (e : ReadError) → Fails e (list_at stmt bytes) → Fails e (stmts_at stmt bytes)
unfolding stmts_at
stmts_fail stmt bytes Memory h = tt
stmts_fail stmt bytes Bad h = ap (λ r. r >>= λ x. Ok (stmt_trees x.0, x.1)) h

pub stmts_read : (stmt : List ℕ → Reading StmtTree) (bytes rest : List ℕ) (xs : List StmtTree) → list_at stmt bytes ≡ Ok (xs, rest) → stmts_at stmt bytes ≡ Ok (stmt_trees xs, rest)
unfolding stmts_at
stmts_read stmt bytes rest xs h = ap (λ r. r >>= λ x. Ok (stmt_trees x.0, x.1)) h
