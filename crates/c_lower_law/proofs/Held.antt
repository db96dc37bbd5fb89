-- What comes first is ready when what comes next has been evaluated: it is held in a temporary, or nothing
-- is run in between.
use Rattle.std.proofs.Common.{◌≡◌, ◌∙◌, ◌≤◌, ℕ, suc, ◌+◌, pos, refl, ap, sym, subst, inr, arith, Bool, true, false, Option, Some, None, List, [], ◌∷◌, ◌++◌, length, length-append, append_assoc, Result, Ok, Err, if◌then◌else◌}
use Rattle.std.specs.Prelude.{slice_index_or, slice_get, slice_set}
use Rattle.pt_base.proofs.Lists.{append_nil, length_map}
use Rattle.pt_base.proofs.Places.{get_below_length}
use Rattle.runs.specs.State.{gives, trapped, spent, ◌>>=◌}
use Rattle.typed_tree.specs.declared.types.VarTy.{VarTy}
use Rattle.block_memory.specs.declared.cell.Cell as core
use Rattle.block_memory.specs.declared.cell.Cell.TheVariants.{Int}
use Rattle.block_memory.specs.declared.cell.BlockName.TheVariants.{Local}
use Rattle.block_memory.specs.Block as b
use Rattle.block_memory.specs.Blocks.{Blocks}
use Rattle.source_meaning.specs.State.{State, Outcome}
use Rattle.source_meaning.specs.Values.{Value}
use Rattle.source_soundness.specs.Laws.{ContextFits}
use Rattle.pt_core.specs.CodeTree as t
use Rattle.pt_core.specs.CodeTree.{StmtTree}
use Rattle.pt_core.specs.Values.{Stop, ◌>>?◌, written}
use Rattle.pt_core.specs.Statements as c
use Rattle.pt_core.specs.Statements.{Flow, goes_on, after_flow, evaluated, with_blocks}
use Rattle.lowering.specs.Lowered.{Temp, Lowered, past, temp, hold, held, held_if}
use Rattle.c_lower_law.proofs.Relations.{Scene, variable_types, HasTemps, HasRoom, Kept, Alike, Same, After, below}
use Rattle.c_lower_law.proofs.Expressions.{run_all, asked, cell_asked, SameAsked, Gives, IsValue, SceneFits}
use Rattle.c_lower_law.proofs.Runs.{bind_bind, run_append, ok_then, same_bind, same_weaken, Stops, stops_at, asked_asked, asked_else}
use Rattle.c_lower_law.proofs.Memories.{kept_then, kept_temp, alike_temp, temp_holds}

-- ---- numbers of temporaries

-- the function's own variables
pub own_length : (s : Scene) → SceneFits s → length (s.frames s.frame.depth) ≡ length s.names.vars
own_length s k = ap (λ (xs : List VarTy). length xs) k.fits.own ∙ length_map (λ x. x.ty) s.names.vars

pub past_append : (n : ℕ) (xs ys : List Temp) → past n (xs ++ ys) ≡ past (past n xs) ys
past_append n xs ys = let e = length-append xs ys in omega (arith, e)

pub temps_first : (variables : List VarTy) (n : ℕ) (xs ys : List Temp) → HasTemps variables n (xs ++ ys) → HasTemps variables n xs
temps_first variables n [] ys h = tt
temps_first variables n (x ∷ xs) ys h = (h.0, temps_first variables (suc n) xs ys h.1)

pub temps_rest : (variables : List VarTy) (n : ℕ) (xs ys : List Temp) → HasTemps variables n (xs ++ ys) → HasTemps variables (past n xs) ys
temps_rest variables n [] ys h = subst (λ m. HasTemps variables m ys) (omega arith) h
temps_rest variables n (x ∷ xs) ys h = subst (λ m. HasTemps variables m ys) (omega arith) (temps_rest variables (suc n) xs ys h.1)

-- the temporary behind a list
pub temp_there : (variables : List VarTy) (n : ℕ) (xs : List Temp) (x : Temp) (ys : List Temp) → HasTemps variables n (xs ++ x ∷ ys) → slice_get variables (past n xs) ≡ Some x.ty
temp_there variables n xs x ys h = (temps_rest variables n xs (x ∷ ys) h).0

-- ---- a value is held

-- what holds after it
pub record Holds (s : Scene) (k : ℕ) (x : core.Cell) (before : Blocks) (st : State) (st' : c.State) : Type 0 where
  pub alike : Alike s st st'
  pub kept : Kept s (below k) before st'.memory
  pub cell : (st'.memory (Local s.frame.depth k)).cells ≡ x ∷ []

-- the state in which the temporary has the cell
abbrev pub with_temp : Scene → ℕ → core.Cell → c.State → c.State
with_temp s k x st = with_blocks (written st.memory (Local s.frame.depth k) 0 x) st

pub temp_given : (s : Scene) (k : ℕ) (x : core.Cell) (ty : VarTy) (st : State) (st' : c.State) → SceneFits s → length s.names.vars ≤ k → slice_get s.core_variables k ≡ Some ty → Alike s st st' →
    Holds s k x st'.memory st (with_temp s k x st')
temp_given s k x ty st st' fits far is a =
    let own = own_length s fits in
    record {
      alike = alike_temp s st st' k x (omega (arith, own, far)) a;
      kept = kept_temp s st'.memory k (record { types = (st'.memory (Local s.frame.depth k)).types; cells = slice_set (st'.memory (Local s.frame.depth k)).cells 0 x });
      cell = temp_holds s st'.memory k x a.room far (get_below_length s.core_variables k ty is);
    }

-- what is held is what is read
pub temp_read : (s : Scene) (k : ℕ) (x : core.Cell) (blocks : Blocks) → (blocks (Local s.frame.depth k)).cells ≡ x ∷ [] → cell_asked s (temp k) blocks ≡ Ok x
temp_read s k x blocks e = ap (λ cells. Ok (slice_index_or cells 0 (Int (pos 0)))) e

-- what a statement that holds a value does, and what follows it
abbrev holding_then : Scene → ℕ → List StmtTree → c.State → Result core.Cell Stop → c.Outcome Flow
holding_then s k stmts st r = (evaluated (r >>? λ v. Ok (written st.memory (Local s.frame.depth k) 0 v)) st (λ blocks st1. gives goes_on (with_blocks blocks st1))) >>= after_flow (run_all s stmts)

pub hold_then : (s : Scene) (k : ℕ) (e : t.ExprTree) (stmts : List StmtTree) (x : core.Cell) (st : c.State) → cell_asked s e st.memory ≡ Ok x → run_all s (hold k e ∷ stmts) st ≡ run_all s stmts (with_temp s k x st)
hold_then s k e stmts x st is = ap (holding_then s k stmts st) is

pub hold_then_stops : (s : Scene) (k : ℕ) (e : t.ExprTree) (stmts : List StmtTree) (stop : Stop) (st : c.State) → cell_asked s e st.memory ≡ Err stop → Stops stop st (run_all s (hold k e ∷ stmts) st)
hold_then_stops s k e stmts stop st is = stops_at stop st (run_all s (hold k e ∷ stmts) st) (ap (holding_then s k stmts st) is)

-- ---- results

pub same_ok : {X : Type 0} (r : Result X Stop) (x y : X) → r ≡ Ok x → r ≡ Ok y → x ≡ y
same_ok r x y p q = cc

pub same_err : {X : Type 0} (r : Result X Stop) (a z : Stop) → r ≡ Err a → r ≡ Err z → a ≡ z
same_err r a z p q = cc

pub not_both : {X A : Type 0} (r : Result X Stop) (x : X) (stop : Stop) → r ≡ Ok x → r ≡ Err stop → A
not_both r x stop p q = absurd (clash (sym p ∙ q))
  where
    clash : Ok x ≡ Err stop → ⊥
    clash h = cc

-- ---- a value of the source, lowered

-- what is asked first, and then what is asked next
abbrev pub joined : {X Y : Type 0} → Result X Stop → Result Y Stop → Result (X × Y) Stop
joined r1 r2 = r1 >>? λ x. r2 >>? λ y. Ok (x, y)

abbrev pub both : {X Y : Type 0} → (Blocks → Result X Stop) → (Blocks → Result Y Stop) → Blocks → Result (X × Y) Stop
both first second blocks = joined (first blocks) (second blocks)

pub both_err : {X Y : Type 0} (first : Blocks → Result X Stop) (second : Blocks → Result Y Stop) (blocks : Blocks) (stop : Stop) → first blocks ≡ Err stop → both first second blocks ≡ Err stop
both_err first second blocks stop e = ap (λ r. joined r (second blocks)) e

pub both_ok : {X Y : Type 0} (first : Blocks → Result X Stop) (second : Blocks → Result Y Stop) (blocks : Blocks) (x : X) → first blocks ≡ Ok x → both first second blocks ≡ (second blocks >>? λ y. Ok (x, y))
both_ok first second blocks x e = ap (λ r. joined r (second blocks)) e

-- an evaluation behind which something is made of what it gives
pub same_made : {A B X Y : Type 0} (Q : A → State → X → c.State → Type 0) (R : B → State → Y → c.State → Type 0) (o : Outcome A) (f : A → B) (g : X → Y) (r : Result X Stop) (st' : c.State) →
    Same Q o (evaluated r st' (λ x. gives x)) → ((a : A) (st : State) (x : X) → Q a st x st' → R (f a) st (g x) st') → Same R (o >>= λ a. gives (f a)) (evaluated (r >>? λ x. Ok (g x)) st' (λ y. gives y))
same_made Q R (gives a st) f g (Ok x) st' q on = on a st x q
same_made Q R (gives a st) f g (Err stop) st' q on = absurd q
same_made Q R (trapped trap span st) f g (Ok x) st' q on = absurd q
same_made Q R (trapped trap span st) f g (Err stop) st' q on = q
same_made Q R (spent st) f g (Ok x) st' q on = absurd q
same_made Q R (spent st) f g (Err stop) st' q on = absurd q

pub asked_made : {A B X Y : Type 0} (P : Blocks → Type 0) (Q : A → State → X → c.State → Type 0) (R : B → State → Y → c.State → Type 0) (ask : Blocks → Result X Stop) (o : Outcome A) (o' : c.Outcome Flow) (f : A → B) (g : X → Y) →
    SameAsked P Q ask o o' → ((a : A) (st : State) (x : X) (st' : c.State) → Q a st x st' → R (f a) st (g x) st') → SameAsked P R (λ blocks. ask blocks >>? λ x. Ok (g x)) (o >>= λ a. gives (f a)) o'
asked_made P Q R ask o (gives flow st') f g h on = (h.0, h.1, same_made Q R o f g (ask st'.memory) st' h.2 (λ a st x q. on a st x st' q))
asked_made P Q R ask (gives a st) (trapped trap span st') f g h on = h
asked_made P Q R ask (trapped trap1 span1 st) (trapped trap span st') f g h on = h
asked_made P Q R ask (spent st) (trapped trap span st') f g h on = h
asked_made P Q R ask (gives a st) (spent st') f g h on = h
asked_made P Q R ask (trapped trap1 span1 st) (spent st') f g h on = h
asked_made P Q R ask (spent st) (spent st') f g h on = h

-- what is given is made into something else, and what is asked stays
pub asked_kept : {A B X : Type 0} (P : Blocks → Type 0) (Q : A → State → X → c.State → Type 0) (R : B → State → X → c.State → Type 0) (ask : Blocks → Result X Stop) (o : Outcome A) (o' : c.Outcome Flow) (f : A → B) →
    SameAsked P Q ask o o' → ((a : A) (st : State) (x : X) (st' : c.State) → Q a st x st' → R (f a) st x st') → SameAsked P R ask (o >>= λ a. gives (f a)) o'
asked_kept P Q R ask o o' f h on =
    asked_else P P Q R ask ask o o' (λ a. gives (f a)) h (λ blocks p. p) (λ stop blocks p e. e) (λ a st x st' q e. subst (λ r. Same R (gives (f a) st) (evaluated r st' (λ y. gives y))) (sym e) (on a st x st' q))

-- less is known
pub asked_weaken : {A X : Type 0} (P P1 : Blocks → Type 0) (Q R : A → State → X → c.State → Type 0) (ask : Blocks → Result X Stop) (o : Outcome A) (o' : c.Outcome Flow) → SameAsked P Q ask o o' → ((blocks : Blocks) → P blocks → P1 blocks) →
    ((a : A) (st : State) (x : X) (st' : c.State) → Q a st x st' → R a st x st') → SameAsked P1 R ask o o'
asked_weaken P P1 Q R ask o (gives flow st') h up on = (h.0, up st'.memory h.1, same_weaken Q R o (asked ask st') h.2 on)
asked_weaken P P1 Q R ask o (trapped trap span st') h up on = same_weaken Q R o (trapped trap span st') h on
asked_weaken P P1 Q R ask o (spent st') h up on = same_weaken Q R o (spent st') h on

-- what is asked doesn't count by how it is written
pub asked_as : {A X : Type 0} (P : Blocks → Type 0) (Q : A → State → X → c.State → Type 0) (ask ask1 : Blocks → Result X Stop) (o : Outcome A) (o' : c.Outcome Flow) → SameAsked P Q ask o o' → ((blocks : Blocks) → ask1 blocks ≡ ask blocks) → SameAsked P Q ask1 o o'
asked_as P Q ask ask1 o (gives flow st') h e = (h.0, h.1, subst (λ r. Same Q o (evaluated r st' (λ x. gives x))) (sym (e st'.memory)) h.2)
asked_as P Q ask ask1 o (trapped trap span st') h e = h
asked_as P Q ask ask1 o (spent st') h e = h

-- a part of the source, lowered with temporaries from n on: statements, behind which something is evaluated
abbrev pub IsNext : {A X : Type 0} → Scene → (A → X → Type 0) → ℕ → (State → Outcome A) → List StmtTree → (Blocks → Result X Stop) → Type 0
IsNext s F n source stmts ask = (st : State) (st' : c.State) → Alike s st st' → SameAsked (Kept s (below n) st'.memory) (Gives s (below n) st'.memory F) ask (source st) (run_all s stmts st')

-- an expression of the source
abbrev pub IsLowered : Scene → Option VarTy → ℕ → (State → Outcome Value) → Lowered → Type 0
IsLowered s ty n source l = IsNext s (IsValue s ty) n source l.stmts (cell_asked s l.value)

abbrev pub Both : {A B X Y : Type 0} → (A → X → Type 0) → (B → Y → Type 0) → (A × B) → (X × Y) → Type 0
Both F G p q = F p.0 q.0 × G p.1 q.1

-- first one, and then the other
abbrev pub pair_of : {A B : Type 0} → (State → Outcome A) → (State → Outcome B) → State → Outcome (A × B)
pair_of first second st = first st >>= λ a st1. second st1 >>= λ b. gives (a, b)

-- what comes first, and nothing is run after it
pub first_pure : {A B X Y : Type 0} (s : Scene) (n m : ℕ) (F : A → X → Type 0) (G : B → Y → Type 0) (source : State → Outcome A) (next : State → Outcome B) (stmts : List StmtTree) (first : Blocks → Result X Stop) (ask : Blocks → Result Y Stop) → n ≤ m →
    IsNext s F n source stmts first → IsNext s G m next [] ask → IsNext s (Both F G) n (pair_of source next) stmts (both first ask)
first_pure s n m F G source next stmts first ask le one two st st' a =
    asked_else (Kept s (below n) st'.memory) (Kept s (below n) st'.memory) (Gives s (below n) st'.memory F) (Gives s (below n) st'.memory (Both F G)) first (both first ask) (source st) (run_all s stmts st') (λ v st1. next st1 >>= λ b. gives (v, b))
    (one st st' a) (λ blocks p. p) (λ stop blocks p e. both_err first ask blocks stop e)
    (λ v st1 x st1' q e.
    subst (λ r. Same (Gives s (below n) st'.memory (Both F G)) (next st1 >>= λ b. gives (v, b)) (evaluated r st1' (λ y. gives y))) (sym (both_ok first ask st1'.memory x e))
    (same_made (Gives s (below m) st1'.memory G) (Gives s (below n) st'.memory (Both F G)) (next st1) (λ b. (v, b)) (λ y. (x, y)) (ask st1'.memory) st1' (two st1 st1' q.after.alike).2
    (λ b st2 y z. record {
      after = record { alike = z.after.alike; kept = kept_then s (below n) (below m) (below n) st'.memory st1'.memory st1'.memory q.after.kept z.after.kept (λ k h. h) (λ k h. omega (arith, le, h)) };
      facts = (q.facts, z.facts);
    })))

-- a cell comes first, and is held
pub first_held : {A B Y : Type 0} (s : Scene) (n : ℕ) (far : Lowered) (x : Temp) (F : A → core.Cell → Type 0) (G : B → Y → Type 0) (source : State → Outcome A) (next : State → Outcome B) (stmts : List StmtTree) (ask : Blocks → Result Y Stop) →
    SceneFits s → length s.names.vars ≤ n → slice_get s.core_variables (past n far.temps) ≡ Some x.ty → IsNext s F n source far.stmts (cell_asked s far.value) → IsNext s G (suc (past n far.temps)) next stmts ask →
    IsNext s (Both F G) n (pair_of source next) ((held n x far).stmts ++ stmts) (both (cell_asked s (held n x far).value) ask)
first_held {A} {B} {Y} s n far x F G source next stmts ask fits from there one two st st' a =
    subst (λ z. SameAsked (Kept s (below n) st'.memory) (Gives s (below n) st'.memory (Both F G)) (both (cell_asked s (temp (past n far.temps))) ask) (pair_of source next st) z)
    (sym (ap (λ xs. run_all s xs st') (append_assoc far.stmts (hold (past n far.temps) far.value ∷ []) stmts) ∙ run_append s far.stmts (hold (past n far.temps) far.value ∷ stmts) st'))
    (asked_asked (Kept s (below n) st'.memory) (Kept s (below n) st'.memory) (Gives s (below n) st'.memory F) (Gives s (below n) st'.memory (Both F G)) (cell_asked s far.value) (both (cell_asked s (temp (past n far.temps))) ask) (source st) (run_all s far.stmts st') (λ v st1. next st1 >>= λ b. gives (v, b)) (run_all s (hold (past n far.temps) far.value ∷ stmts))
    (one st st' a)
    (λ stop st1' p e. hold_then_stops s (past n far.temps) far.value stmts stop st1' e)
    (λ v st1 y st1' q e.
    subst (λ z. SameAsked (Kept s (below n) st'.memory) (Gives s (below n) st'.memory (Both F G)) (both (cell_asked s (temp (past n far.temps))) ask) (next st1 >>= λ b. gives (v, b)) z)
    (sym (hold_then s (past n far.temps) far.value stmts y st1' e))
    (behind v st1 y st1' q (temp_given s (past n far.temps) y x.ty st1 st1' fits (omega (arith, from)) there q.after.alike))))
  where
    far_enough : length (s.frames s.frame.depth) ≤ past n far.temps
    far_enough = let own = own_length s fits in omega (arith, own, from)

    behind : (v : A) (st1 : State) (y : core.Cell) (st1' : c.State) → Gives s (below n) st'.memory F v st1 y st1' → Holds s (past n far.temps) y st1'.memory st1 (with_temp s (past n far.temps) y st1') →
        SameAsked (Kept s (below n) st'.memory) (Gives s (below n) st'.memory (Both F G)) (both (cell_asked s (temp (past n far.temps))) ask) (next st1 >>= λ b. gives (v, b)) (run_all s stmts (with_temp s (past n far.temps) y st1'))
    behind v st1 y st1' q h =
        asked_else (Kept s (below (suc (past n far.temps))) (with_temp s (past n far.temps) y st1').memory) (Kept s (below n) st'.memory) (Gives s (below (suc (past n far.temps))) (with_temp s (past n far.temps) y st1').memory G) (Gives s (below n) st'.memory (Both F G)) ask (both (cell_asked s (temp (past n far.temps))) ask) (next st1) (run_all s stmts (with_temp s (past n far.temps) y st1')) (λ b. gives (v, b))
        (two st1 (with_temp s (past n far.temps) y st1') h.alike)
        (λ blocks p. all_kept blocks p)
        (λ stop blocks p e. ap (λ r. r >>? λ z. Ok (slice_index_or (blocks (Local s.frame.depth (past n far.temps))).cells 0 (Int (pos 0)), z)) e)
        (λ b st2 z st2' w e.
        subst (λ r. Same (Gives s (below n) st'.memory (Both F G)) (gives (v, b) st2) (evaluated r st2' (λ p. gives p)))
        (sym (both_ok (cell_asked s (temp (past n far.temps))) ask st2'.memory y (temp_read s (past n far.temps) y st2'.memory (still st2'.memory w.after.kept)) ∙ ap (λ r. r >>? λ z. Ok (y, z)) e))
        (record {
          after = record {
            alike = w.after.alike;
            kept = all_kept st2'.memory w.after.kept;
          };
          facts = (q.facts, w.facts);
        }))
      where
        all_kept : (blocks : Blocks) → Kept s (below (suc (past n far.temps))) (with_temp s (past n far.temps) y st1').memory blocks → Kept s (below n) st'.memory blocks
        all_kept blocks kept = kept_then s (below n) (below n) (below n) st'.memory st1'.memory blocks q.after.kept
            (kept_then s (below (past n far.temps)) (below (suc (past n far.temps))) (below n) st1'.memory (with_temp s (past n far.temps) y st1').memory blocks h.kept kept (λ k h. omega (arith, h)) (λ k h. omega (arith, h))) (λ k h. h) (λ k h. h)

        still : (blocks : Blocks) → Kept s (below (suc (past n far.temps))) (with_temp s (past n far.temps) y st1').memory blocks → (blocks (Local s.frame.depth (past n far.temps))).cells ≡ y ∷ []
        still blocks kept = ap (λ (bl : b.Block). bl.cells) (kept s.frame.depth (past n far.temps) far_enough (inr (refl, omega arith))) ∙ h.cell

-- either way
pub first_then : {A B Y : Type 0} (s : Scene) (n : ℕ) (far : Lowered) (t : Bool) (x : Temp) (F : A → core.Cell → Type 0) (G : B → Y → Type 0) (source : State → Outcome A) (next : State → Outcome B) (stmts : List StmtTree) (ask : Blocks → Result Y Stop) →
    SceneFits s → length s.names.vars ≤ n → HasTemps s.core_variables n (held_if t n x far).temps → IsNext s F n source far.stmts (cell_asked s far.value) → IsNext s G (past n (held_if t n x far).temps) next stmts ask → (t ≡ false → stmts ≡ []) →
    IsNext s (Both F G) n (pair_of source next) ((held_if t n x far).stmts ++ stmts) (both (cell_asked s (held_if t n x far).value) ask)
first_then s n far true x F G source next stmts ask fits from temps one two pure =
    first_held s n far x F G source next stmts ask fits from (temp_there s.core_variables n far.temps x [] temps) one
    (subst (λ m. IsNext s G m next stmts ask) (past_append n far.temps (x ∷ []) ∙ next_number (past n far.temps)) two)
  where
    next_number : (m : ℕ) → past m (x ∷ []) ≡ suc m
    next_number m = omega arith
first_then s n far false x F G source next stmts ask fits from temps one two pure =
    subst (λ xs. IsNext s (Both F G) n (pair_of source next) (far.stmts ++ xs) (both (cell_asked s far.value) ask)) (sym (pure refl))
    (subst (λ xs. IsNext s (Both F G) n (pair_of source next) xs (both (cell_asked s far.value) ask)) (sym (append_nil far.stmts))
    (first_pure s n (past n far.temps) F G source next far.stmts (cell_asked s far.value) ask (omega arith) one (subst (λ xs. IsNext s G (past n far.temps) next xs ask) (pure refl) two)))

-- what is kept from a later memory on is kept from the first
pub asked_up : {A X : Type 0} (s : Scene) (n m : ℕ) (x y : Blocks) (F : A → X → Type 0) (ask : Blocks → Result X Stop) (o : Outcome A) (o' : c.Outcome Flow) → n ≤ m → Kept s (below n) x y →
    SameAsked (Kept s (below m) y) (Gives s (below m) y F) ask o o' → SameAsked (Kept s (below n) x) (Gives s (below n) x F) ask o o'
asked_up s n m x y F ask o o' le before h =
    asked_weaken (Kept s (below m) y) (Kept s (below n) x) (Gives s (below m) y F) (Gives s (below n) x F) ask o o' h (λ blocks k. up blocks k)
    (λ a st z st' q. record { after = record { alike = q.after.alike; kept = up st'.memory q.after.kept }; facts = q.facts })
  where
    up : (blocks : Blocks) → Kept s (below m) y blocks → Kept s (below n) x blocks
    up blocks k = kept_then s (below n) (below m) (below n) x y blocks before k (λ j h. h) (λ j h. omega (arith, le, h))
