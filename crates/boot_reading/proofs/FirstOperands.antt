-- Reading an expression is reading how it begins, then its first operand, then what stands behind that.
use Rattle.std.proofs.Common.{◌≡◌, ℕ, zero, suc, ◌-◌, ◌<◌, List, [], ◌∷◌, ◌++◌, Option, Some, None, reverse, refl, sym, ap, ◌∙◌, arith}
use Rattle.std.specs.Prelude.{Ok, Err}
use Rattle.std.proofs.lemmas.List.{reverse-append}
use Rattle.pt_base.specs.declared.int_type.IntType.{IntType}
use Rattle.pt_base.specs.declared.span.Span.{Span}
use Rattle.pt_core.specs.CodeTree.{RootTree, local, global, deref, PlaceTree, place, ExprTree, read, unary, binary, convert, null, address, decay, move, compare, difference}
use Rattle.boot_fields.specs.declared.fault.ReadError.{ReadError}
use Rattle.boot_fields.specs.declared.fault.ReadError.TheVariants.{Bad, Memory}
use Rattle.boot_reading.specs.declared.starts.Head.{Head}
use Rattle.boot_reading.specs.declared.starts.Head.TheVariants as head
use Rattle.boot_fields.specs.Reading.{◌>>=◌, Fails, Reading, mapped, both, list_at, number32_at, truth_at, span_at, int_type_at, elem_at, unary_op_at, binary_op_at, root_at, place_at, operands_at, constant_at, node_at, expr_at}
use Rattle.boot_reading.specs.ChainReading.{place_start_at, pointed_at, StartTree, whole, opens, started, start_at, closed_at, upwards}

-- ---- parts in a row

-- the value of the first part is there
second : {A B C : Type 0} (a : A) (r : Reading B) (f : A × B → C) → mapped f (both (λ b. Ok (a, [])) (λ b. r)) [] ≡ mapped (λ y. f (a, y)) (λ b. r) []
second a (Ok y) f = refl
second a (Err e) f = refl

split : {A B C : Type 0} (p : Reading A) (q : List ℕ → Reading B) (f : A × B → C) → mapped f (both (λ b. p) q) [] ≡ (p >>= λ x. mapped (λ y. f (x.0, y)) q x.1)
split (Ok x) q f = second x.0 (q x.1) f
split (Err e) q f = refl

-- one field before the first operand
head1 : {H B : Type 0} (h : Reading H) (expr : List ℕ → Reading ExprTree) (q : List ℕ → Reading B) (f : H × (ExprTree × B) → ExprTree)
    → mapped f (both (λ b. h) (both expr q)) [] ≡ (h >>= λ x. expr x.1 >>= λ a. mapped (λ y. f (x.0, (a.0, y))) q a.1)
head1 (Ok x) expr q f = second x.0 (both expr q x.1) f ∙ split (expr x.1) q (λ y. f (x.0, y))
head1 (Err e) expr q f = refl

-- two fields before it
head2 : {H T B : Type 0} (h : Reading H) (t : List ℕ → Reading T) (expr : List ℕ → Reading ExprTree) (q : List ℕ → Reading B) (f : H × (T × (ExprTree × B)) → ExprTree)
    → mapped f (both (λ b. h) (both t (both expr q))) [] ≡ (h >>= λ x. t x.1 >>= λ y. expr y.1 >>= λ a. mapped (λ z. f (x.0, (y.0, (a.0, z)))) q a.1)
head2 (Ok x) t expr q f = second x.0 (both t (both expr q) x.1) f ∙ head1 (t x.1) expr q (λ y. f (x.0, y))
head2 (Err e) t expr q f = refl

then_mapped : {A B C : Type 0} (p : Reading A) (g : A → B) (k : B × List ℕ → Reading C) → (mapped g (λ b. p) [] >>= k) ≡ (p >>= λ x. k (g x.0, x.1))
then_mapped (Ok x) g k = refl
then_mapped (Err e) g k = refl

then_both : {A B C D : Type 0} (p : Reading A) (q : List ℕ → Reading B) (g : A × B → C) (k : C × List ℕ → Reading D)
    → (mapped g (both (λ b. p) q) [] >>= k) ≡ (p >>= λ x. q x.1 >>= λ y. k (g (x.0, y.0), y.1))
then_both (Ok x) q g k = ap (λ r. r >>= k) (second x.0 (q x.1) g) ∙ then_mapped (q x.1) (λ y. g (x.0, y)) k
then_both (Err e) q g k = refl

-- ---- places

abbrev pub on_place : (List ℕ → Reading ExprTree) → Option PlaceTree → List ℕ → Reading PlaceTree
on_place expr None rest = expr rest >>= λ a. pointed_at a.0 a.1
on_place expr (Some p) rest = Ok (p, rest)

path_read : (root : RootTree) (expr : List ℕ → Reading ExprTree) (r : Reading (List ℕ))
    → mapped (λ p. place p.0 p.1) (both (λ b. Ok (root, [])) (λ b. r)) [] ≡ (mapped (λ p. Some (place root p)) (λ b. r) [] >>= λ s. on_place expr s.0 s.1)
path_read root expr (Ok x) = refl
path_read root expr (Err e) = refl

root_read : (root : ℕ → RootTree) (expr : List ℕ → Reading ExprTree) (n : Reading ℕ)
    → mapped (λ p. place p.0 p.1) (both (mapped root (λ b. n)) (list_at number32_at)) [] ≡ (mapped (λ p. Some (place (root p.0) p.1)) (both (λ b. n) (list_at number32_at)) [] >>= λ s. on_place expr s.0 s.1)
root_read root expr (Ok x) =
    path_read (root x.0) expr (list_at number32_at x.1)
    ∙ ap (λ r. r >>= λ s. on_place expr s.0 s.1) (sym (second x.0 (list_at number32_at x.1) (λ p. Some (place (root p.0) p.1))))
root_read root expr (Err e) = refl

deref_path : (a : ExprTree) (s : Span) (r : Reading (List ℕ)) → mapped (λ p. place p.0 p.1) (both (λ b. Ok (deref a s, [])) (λ b. r)) [] ≡ mapped (λ p. place (deref a p.0) p.1) (both (λ b. Ok (s, [])) (λ b. r)) []
deref_path a s (Ok x) = refl
deref_path a s (Err e) = refl

deref_span : (a : ExprTree) (r : Reading Span)
    → mapped (λ p. place p.0 p.1) (both (mapped (λ p. deref p.0 p.1) (both (λ b. Ok (a, [])) (λ b. r))) (list_at number32_at)) [] ≡ mapped (λ p. place (deref a p.0) p.1) (both (λ b. r) (list_at number32_at)) []
deref_span a (Ok x) = deref_path a x.0 (list_at number32_at x.1)
deref_span a (Err e) = refl

deref_read : (p : Reading ExprTree) → mapped (λ p. place p.0 p.1) (both (mapped (λ p. deref p.0 p.1) (both (λ b. p) span_at)) (list_at number32_at)) [] ≡ (p >>= λ a. pointed_at a.0 a.1)
unfolding pointed_at
deref_read (Ok x) = deref_span x.0 (span_at x.1)
deref_read (Err e) = refl

pub place_by_start : (expr : List ℕ → Reading ExprTree) (bytes : List ℕ) → place_at expr bytes ≡ (place_start_at bytes >>= λ s. on_place expr s.0 s.1)
unfolding place_at root_at place_start_at
place_by_start expr [] = refl
place_by_start expr (zero ∷ rest) = root_read local expr (number32_at rest)
place_by_start expr (suc zero ∷ rest) = root_read global expr (number32_at rest)
place_by_start expr (suc (suc zero) ∷ rest) = deref_read (expr rest)
place_by_start expr (suc (suc (suc b)) ∷ rest) = refl

-- ---- expressions

abbrev pub on_start : (List ℕ → Reading ExprTree) → StartTree → List ℕ → Reading ExprTree
on_start expr (whole e) rest = Ok (e, rest)
on_start expr (opens h) rest = expr rest >>= λ a. closed_at expr h a.0 a.1

then_pointed : (made : PlaceTree → ExprTree) (p : Reading ExprTree) → mapped made (λ b. p >>= λ a. pointed_at a.0 a.1) [] ≡ (p >>= λ a. mapped made (pointed_at a.0) a.1)
then_pointed made (Ok x) = refl
then_pointed made (Err e) = refl

then_closed : (made : PlaceTree → ExprTree) (h : Head) (expr : List ℕ → Reading ExprTree) → ((a : ExprTree) (bytes : List ℕ) → closed_at expr h a bytes ≡ mapped made (pointed_at a) bytes)
    → (p : Reading ExprTree) → (p >>= λ a. mapped made (pointed_at a.0) a.1) ≡ (p >>= λ a. closed_at expr h a.0 a.1)
then_closed made h expr same (Ok x) = sym (same x.0 x.1)
then_closed made h expr same (Err e) = refl

-- the place is there, or its pointer stands behind
of_place : (made : PlaceTree → ExprTree) (h : Head) (expr : List ℕ → Reading ExprTree) → ((a : ExprTree) (bytes : List ℕ) → closed_at expr h a bytes ≡ mapped made (pointed_at a) bytes)
    → (o : Option PlaceTree) (rest : List ℕ) → mapped made (λ b. on_place expr o rest) [] ≡ on_start expr (started made h o) rest
of_place made h expr same (Some p) rest = refl
of_place made h expr same None rest = then_pointed made (expr rest) ∙ then_closed made h expr same (expr rest)

of_places : (made : PlaceTree → ExprTree) (h : Head) (expr : List ℕ → Reading ExprTree) → ((a : ExprTree) (bytes : List ℕ) → closed_at expr h a bytes ≡ mapped made (pointed_at a) bytes)
    → (r : Reading (Option PlaceTree)) → mapped made (λ b. r >>= λ s. on_place expr s.0 s.1) [] ≡ (mapped (started made h) (λ b. r) [] >>= λ s. on_start expr s.0 s.1)
of_places made h expr same (Ok x) = of_place made h expr same x.0 x.1
of_places made h expr same (Err e) = refl

place_node : (made : PlaceTree → ExprTree) (h : Head) (expr : List ℕ → Reading ExprTree) → ((a : ExprTree) (bytes : List ℕ) → closed_at expr h a bytes ≡ mapped made (pointed_at a) bytes)
    → (rest : List ℕ) → mapped made (place_at expr) rest ≡ (mapped (started made h) place_start_at rest >>= λ s. on_start expr s.0 s.1)
place_node made h expr same rest = ap (λ r. mapped made (λ b. r) []) (place_by_start expr rest) ∙ of_places made h expr same (place_start_at rest)

whole_read : (expr : List ℕ → Reading ExprTree) (p : Reading ExprTree) → p ≡ (mapped whole (λ b. p) [] >>= λ s. on_start expr s.0 s.1)
whole_read expr (Ok x) = refl
whole_read expr (Err e) = refl

convert_last : (t : IntType) (r : Reading ExprTree) → mapped (λ p. convert p.0 p.1) (both (λ b. Ok (t, [])) (λ b. r)) [] ≡ (r >>= λ a. Ok (convert t a.0, a.1))
convert_last t (Ok x) = refl
convert_last t (Err e) = refl

convert_node : (expr : List ℕ → Reading ExprTree) (h : Reading IntType) → mapped (λ p. convert p.0 p.1) (both (λ b. h) expr) [] ≡ (mapped (λ t. opens (head.Convert t)) (λ b. h) [] >>= λ s. on_start expr s.0 s.1)
unfolding closed_at
convert_node expr (Ok x) = convert_last x.0 (expr x.1)
convert_node expr (Err e) = refl

pub node_by_start : (expr : List ℕ → Reading ExprTree) (bytes : List ℕ) → node_at expr bytes ≡ (start_at bytes >>= λ s. on_start expr s.0 s.1)
unfolding node_at start_at operands_at closed_at
node_by_start expr [] = refl
node_by_start expr (zero ∷ rest) = whole_read expr (constant_at rest)
node_by_start expr (suc zero ∷ rest) = place_node read head.Read expr (λ a bytes. refl) rest
node_by_start expr (suc (suc zero) ∷ rest) =
    head2 (unary_op_at rest) int_type_at expr span_at (λ p. unary p.0 p.1.0 p.1.1.0 p.1.1.1)
    ∙ sym (then_both (unary_op_at rest) int_type_at (λ p. opens (head.Unary p.0 p.1)) (λ s. on_start expr s.0 s.1))
node_by_start expr (suc (suc (suc zero)) ∷ rest) =
    head2 (binary_op_at rest) int_type_at expr (both expr span_at) (λ p. binary p.0 p.1.0 p.1.1.0 p.1.1.1.0 p.1.1.1.1)
    ∙ sym (then_both (binary_op_at rest) int_type_at (λ p. opens (head.Binary p.0 p.1)) (λ s. on_start expr s.0 s.1))
node_by_start expr (suc (suc (suc (suc zero))) ∷ rest) = convert_node expr (int_type_at rest)
node_by_start expr (suc (suc (suc (suc (suc zero)))) ∷ rest) = sym (then_mapped (elem_at rest) (λ e. whole (null e)) (λ s. on_start expr s.0 s.1))
node_by_start expr (suc (suc (suc (suc (suc (suc zero))))) ∷ rest) = place_node address head.Addr expr (λ a bytes. refl) rest
node_by_start expr (suc (suc (suc (suc (suc (suc (suc zero)))))) ∷ rest) = place_node decay head.Decay expr (λ a bytes. refl) rest
node_by_start expr (suc (suc (suc (suc (suc (suc (suc (suc zero))))))) ∷ rest) = split (expr rest) (both expr (both truth_at span_at)) (λ p. move p.0 p.1.0 p.1.1.0 p.1.1.1)
node_by_start expr (suc (suc (suc (suc (suc (suc (suc (suc (suc zero)))))))) ∷ rest) =
    head1 (binary_op_at rest) expr (both expr span_at) (λ p. compare p.0 p.1.0 p.1.1.0 p.1.1.1)
    ∙ sym (then_mapped (binary_op_at rest) (λ op. opens (head.Compare op)) (λ s. on_start expr s.0 s.1))
node_by_start expr (suc (suc (suc (suc (suc (suc (suc (suc (suc (suc zero))))))))) ∷ rest) = split (expr rest) (both expr span_at) (λ p. difference p.0 p.1.0 p.1.1)
node_by_start expr (suc (suc (suc (suc (suc (suc (suc (suc (suc (suc (suc b)))))))))) ∷ rest) = refl

-- ---- chains

pub upwards_fails : (d : ℕ) (hs : List Head) (e : ReadError) → upwards d hs (Err e) ≡ Err e
upwards_fails d [] e = refl
upwards_fails d (h ∷ hs) e = upwards_fails (suc d) hs e

one_deeper : (d : ℕ) (bytes : List ℕ) → expr_at (suc d) bytes ≡ (start_at bytes >>= λ s. on_start (expr_at d) s.0 s.1)
unfolding expr_at
one_deeper d bytes = node_by_start (expr_at d) bytes

-- an expression that is over
pub ends_there : (n : ℕ) (hs : List Head) (bytes after : List ℕ) (a : ExprTree) (total : Reading ExprTree) → 0 < n → start_at bytes ≡ Ok (whole a, after) → upwards n hs (expr_at n bytes) ≡ total
    → upwards n hs (Ok (a, after)) ≡ total
ends_there zero hs bytes after a total lt h so_far = absurd (omega (arith, lt))
ends_there (suc d) hs bytes after a total lt h so_far =
    ap (upwards (suc d) hs) (sym (one_deeper d bytes ∙ ap (λ r. r >>= λ s. on_start (expr_at d) s.0 s.1) h)) ∙ so_far

-- the first operand stands behind
pub goes_in : (n : ℕ) (hs : List Head) (h : Head) (bytes after : List ℕ) (total : Reading ExprTree) → 0 < n → start_at bytes ≡ Ok (opens h, after) → upwards n hs (expr_at n bytes) ≡ total
    → upwards (n - 1) (h ∷ hs) (expr_at (n - 1) after) ≡ total
goes_in zero hs h bytes after total lt e so_far = absurd (omega (arith, lt))
goes_in (suc d) hs h bytes after total lt e so_far =
    let less : suc d - 1 ≡ d = omega arith in
    rw less (ap (upwards (suc d) hs) (sym (one_deeper d bytes ∙ ap (λ r. r >>= λ s. on_start (expr_at d) s.0 s.1) e)) ∙ so_far)

-- it doesn't begin so
pub no_start : (n : ℕ) (hs : List Head) (bytes : List ℕ) (e : ReadError) (total : Reading ExprTree) → 0 < n → Fails e (start_at bytes) → upwards n hs (expr_at n bytes) ≡ total → Fails e total
no_start n hs bytes Memory total lt h so_far = tt
no_start zero hs bytes Bad total lt h so_far = absurd (omega (arith, lt))
no_start (suc d) hs bytes Bad total lt h so_far =
    sym so_far ∙ ap (upwards (suc d) hs) (one_deeper d bytes ∙ ap (λ r. r >>= λ s. on_start (expr_at d) s.0 s.1) h) ∙ upwards_fails (suc d) hs Bad

-- what stands behind a first operand isn't there
pub not_closed : (d : ℕ) (h : Head) (hs : List Head) (a : ExprTree) (bytes : List ℕ) (e : ReadError) (total : Reading ExprTree) → Fails e (closed_at (expr_at d) h a bytes)
    → upwards d (h ∷ hs) (Ok (a, bytes)) ≡ total → Fails e total
not_closed d h hs a bytes Memory total f so_far = tt
not_closed d h hs a bytes Bad total f so_far = sym so_far ∙ ap (upwards (suc d) hs) f ∙ upwards_fails (suc d) hs Bad

pub pushed : (hs : List Head) (h : Head) → reverse (hs ++ h ∷ []) ≡ h ∷ reverse hs
pushed hs h = reverse-append hs (h ∷ [])

-- ---- places by their beginnings

pub no_place_start : (expr : List ℕ → Reading ExprTree) (bytes : List ℕ) (e : ReadError) → Fails e (place_start_at bytes) → Fails e (place_at expr bytes)
no_place_start expr bytes Memory h = tt
no_place_start expr bytes Bad h = place_by_start expr bytes ∙ ap (λ r. r >>= λ s. on_place expr s.0 s.1) h

pub place_there : (expr : List ℕ → Reading ExprTree) (bytes rest : List ℕ) (p : PlaceTree) → place_start_at bytes ≡ Ok (Some p, rest) → place_at expr bytes ≡ Ok (p, rest)
place_there expr bytes rest p h = place_by_start expr bytes ∙ ap (λ r. r >>= λ s. on_place expr s.0 s.1) h

pub no_pointer : (expr : List ℕ → Reading ExprTree) (bytes rest : List ℕ) (e : ReadError) → place_start_at bytes ≡ Ok (None, rest) → Fails e (expr rest) → Fails e (place_at expr bytes)
no_pointer expr bytes rest Memory h f = tt
no_pointer expr bytes rest Bad h f = place_by_start expr bytes ∙ ap (λ r. r >>= λ s. on_place expr s.0 s.1) h ∙ ap (λ r. r >>= λ a. pointed_at a.0 a.1) f

pub place_pointed : (expr : List ℕ → Reading ExprTree) (bytes rest after : List ℕ) (a : ExprTree) → place_start_at bytes ≡ Ok (None, rest) → expr rest ≡ Ok (a, after) → place_at expr bytes ≡ pointed_at a after
place_pointed expr bytes rest after a h f = place_by_start expr bytes ∙ ap (λ r. r >>= λ s. on_place expr s.0 s.1) h ∙ ap (λ r. r >>= λ a. pointed_at a.0 a.1) f
