-- Small facts of lowered forms, from which the law of each form is put together.
use Rattle.std.proofs.Common.{◌≡◌, ◌∙◌, ◌≤◌, ◌<◌, ◌⊎◌, inl, inr, ℕ, zero, suc, ◌+◌, pos, refl, ap, sym, subst, arith, Bool, true, false, not, Option, Some, None, List, [], ◌∷◌, ◌++◌, length, length-append, Result, Ok, Err}
use Rattle.std.specs.Prelude.{IsTrue, ◌&&◌, ◌||◌, is_some, slice_get}
use Rattle.pt_base.specs.declared.int_type.IntType.TheVariants as i
use Rattle.pt_base.specs.declared.span.Span.{Span}
use Rattle.pt_base.proofs.Booleans.{false_not_true}
use Rattle.runs.specs.State.{gives, trapped, spent, ◌>>=◌}
use Rattle.typed_tree.specs.declared.types.VarTy.{VarTy}
use Rattle.typed_tree.specs.declared.types.VarTy.TheVariants.{Int, Struct, Array, Pointer}
use Rattle.typed_tree.specs.declared.link.LinkStep.{LinkStep}
use Rattle.typed_tree.specs.declared.link.LinkStep.TheVariants.{Arithmetic, Shift, Move, MoveBy, Difference, Compare}
use Rattle.typed_tree.specs.ExpressionTree as x
use Rattle.typed_tree.specs.ExpressionTree.{ExprTree, typed, LinkTree}
use Rattle.typed_tree.specs.TypeTests.{integer_of, pointee_of, both_elem}
use Rattle.typed_tree.specs.TypeRules as r
use Rattle.typed_tree.specs.TypeRules.{is_comparison}
use Rattle.typed_tree.specs.WellFormedExpression.{is_typed, ty_of}
use Rattle.block_memory.specs.declared.cell.Cell as core
use Rattle.block_memory.specs.declared.cell.Cell.TheVariants as cell
use Rattle.block_memory.specs.Blocks.{Blocks}
use Rattle.source_meaning.specs.State.{State, Outcome}
use Rattle.source_meaning.specs.Values as m
use Rattle.source_meaning.specs.Values.{Value, cell_of, Location}
use Rattle.source_meaning.specs.Expressions as e
use Rattle.source_meaning.specs.Expressions.{cell_or_trap, value_of}
use Rattle.source_soundness.specs.Worlds.{ValueFits}
use Rattle.source_soundness.specs.Sizes.{ValueSized}
use Rattle.source_soundness.proofs.Soundness.{value_fits}
use Rattle.source_soundness.proofs.SizeSoundness.{value_sized}
use Rattle.pt_core.specs.CodeTree as t
use Rattle.pt_core.specs.CodeTree.{StmtTree, PlaceTree, place, deref}
use Rattle.pt_core.specs.Values.{Stop}
use Rattle.pt_core.specs.Statements as c
use Rattle.pt_core.specs.Statements.{Flow, goes_on, evaluated}
use Rattle.lowering.specs.Lowered.{Temp, Lowered, LoweredPlace, past, temp, held_if}
use Rattle.lowering.specs.Operators.{stepped}
use Rattle.lowering.specs.Purity.{takes_left_first, is_pure}
use Rattle.lowering.specs.Expressions.{fixed_root, fixed_through, fixed_if}
use Rattle.c_lower_law.proofs.Relations.{Scene, world_of, context_of, sizes_in, HasTemps, Kept, Alike, Same, After, below}
use Rattle.c_lower_law.proofs.Expressions.{run_all, cell_asked, SameAsked, SameCell, Gives, IsValue, IsDropped, SceneFits}
use Rattle.c_lower_law.proofs.Runs.{bind_bind, bind_gives, same_weaken}
use Rattle.c_lower_law.proofs.Held.{temps_first, asked_weaken, both, IsNext, Both, pair_of, past_append}
use Rattle.c_lower_law.proofs.Operators.{PointerType, TakesLeft, PlainStep, PointsTo}
use Rattle.c_lower_law.proofs.Places.{setup, PlaceLowered, ValueLowered}
use Rattle.c_lower_law.proofs.Values.{Near, near, GivesNear, IsNear, nearly, asked_settled, same_settled, value_settled, Scalar, link_near, link_by}
use Rattle.c_lower_law.proofs.OperandTypes.{ScalarType}
use Rattle.c_lower_law.proofs.Shapes.{link_ready}

-- ---- by equal sources

pub next_as : {A X : Type 0} (s : Scene) (F : A → X → Type 0) (n : ℕ) (source other : State → Outcome A) (stmts : List StmtTree) (ask : Blocks → Result X Stop) → ((st : State) → other st ≡ source st) → IsNext s F n source stmts ask → IsNext s F n other stmts ask
next_as s F n source other stmts ask e1 h st st' al = subst (λ o. SameAsked (Kept s (below n) st'.memory) (Gives s (below n) st'.memory F) ask o (run_all s stmts st')) (sym (e1 st)) (h st st' al)

pub near_as : {A X : Type 0} (s : Scene) (F : A → X → Type 0) (n : ℕ) (source other : State → Outcome A) (stmts : List StmtTree) (ask : Blocks → Result X Stop) → ((st : State) → other st ≡ source st) → IsNear s F n source stmts ask → IsNear s F n other stmts ask
near_as s F n source other stmts ask e1 h st st' al = subst (λ o. SameAsked (Kept s (below n) st'.memory) (GivesNear s (below n) st'.memory F) ask o (run_all s stmts st')) (sym (e1 st)) (h st st' al)

pub next_weaken : {A X : Type 0} (s : Scene) (F G : A → X → Type 0) (n : ℕ) (source : State → Outcome A) (stmts : List StmtTree) (ask : Blocks → Result X Stop) → IsNext s F n source stmts ask → ((a : A) (x : X) → F a x → G a x) → IsNext s G n source stmts ask
next_weaken s F G n source stmts ask h on st st' al =
    asked_weaken (Kept s (below n) st'.memory) (Kept s (below n) st'.memory) (Gives s (below n) st'.memory F) (Gives s (below n) st'.memory G) ask (source st) (run_all s stmts st') (h st st' al) (λ blocks k. k)
    (λ a st1 z st1' q. record { after = q.after; facts = on a z q.facts })

pub value_typed : (s : Scene) (n : ℕ) (a z : Option VarTy) (source : State → Outcome Value) (stmts : List StmtTree) (ask : Blocks → Result core.Cell Stop) → a ≡ z → IsNext s (IsValue s a) n source stmts ask → IsNext s (IsValue s z) n source stmts ask
value_typed s n a z source stmts ask is h = subst (λ q. IsNext s (IsValue s q) n source stmts ask) is h

pub value_cell : (s : Scene) (n : ℕ) (a z : Option VarTy) (source : State → Outcome Value) (stmts : List StmtTree) (ask : Blocks → Result core.Cell Stop) → a ≡ z → IsNext s (IsValue s a) n source stmts ask → IsNext s (SameCell z) n source stmts ask
value_cell s n a z source stmts ask is h = next_weaken s (IsValue s z) (SameCell z) n source stmts ask (value_typed s n a z source stmts ask is h) (λ w y q. q.same)

-- an expression's value from its cell, where its type is known
pub settled_as : (s : Scene) (ex : ExprTree) (u : VarTy) (n : ℕ) (stmts : List StmtTree) (ask : Blocks → Result core.Cell Stop) → SceneFits s → IsTrue (is_typed s.names ex) → ty_of ex ≡ Some u → IsNear s (SameCell (Some u)) n (value_of ex (context_of s)) stmts ask →
    IsNext s (IsValue s (ty_of ex)) n (value_of ex (context_of s)) stmts ask
settled_as s ex u n stmts ask fits h is k = value_settled s ex n stmts ask fits h (subst (λ q. IsNear s (SameCell q) n (value_of ex (context_of s)) stmts ask) (sym is) k)

-- ---- expressions whose value is dropped

-- statements that go on
abbrev pub Runs : {A : Type 0} → Scene → ℕ → (State → Outcome A) → List StmtTree → Type 0
Runs s n source stmts = (st : State) (st' : c.State) → Alike s st st' → Same (Gives s (below n) st'.memory (λ a flow. flow ≡ goes_on)) (source st) (run_all s stmts st')

abbrev pub RunsNear : {A : Type 0} → Scene → ℕ → (State → Outcome A) → List StmtTree → Type 0
RunsNear s n source stmts = (st : State) (st' : c.State) → Alike s st st' → Same (GivesNear s (below n) st'.memory (λ a flow. flow ≡ goes_on)) (source st) (run_all s stmts st')

pub effects_settled : (s : Scene) (ex : ExprTree) (n : ℕ) (stmts : List StmtTree) → SceneFits s → IsTrue (is_typed s.names ex) → RunsNear s n (value_of ex (context_of s)) stmts → Runs s n (value_of ex (context_of s)) stmts
effects_settled s ex n stmts fits h k st st' al =
    same_settled s n st'.memory (λ w flow. flow ≡ goes_on) (λ w flow. flow ≡ goes_on) (ValueFits (world_of s) (ty_of ex)) (ValueSized (world_of s) (sizes_in s) (ty_of ex)) (value_of ex (context_of s) st) (run_all s stmts st') (k st st' al)
    (value_fits ex (world_of s) s.names (context_of s) st fits.fits h al.fits) (value_sized ex (world_of s) s.names (context_of s) st (setup s fits) h al.fits al.sized) (λ w flow q t1 u1. q)

-- the same statements, and then something that always has a value
asked_of_runs : {A B X : Type 0} (s : Scene) (n : ℕ) (before : Blocks) (F : B → X → Type 0) (ask : Blocks → Result X Stop) (f : A → B) (y : X) (o : Outcome A) (o' : c.Outcome Flow) → ((blocks : Blocks) → ask blocks ≡ Ok y) → ((a : A) → F (f a) y) →
    Same (GivesNear s (below n) before (λ a flow. flow ≡ goes_on)) o o' → SameAsked (Kept s (below n) before) (GivesNear s (below n) before F) ask (o >>= λ a. gives (f a)) o'
asked_of_runs s n before F ask f y (gives a st) (gives flow st') is on q = (q.facts, q.kept, subst (λ r1. Same (GivesNear s (below n) before F) (gives (f a) st) (evaluated r1 st' (λ z. gives z))) (sym (is st'.memory)) (record { near = q.near; kept = q.kept; facts = on a }))
asked_of_runs s n before F ask f y (trapped trap span st) (gives flow st') is on q = absurd q
asked_of_runs s n before F ask f y (spent st) (gives flow st') is on q = absurd q
asked_of_runs s n before F ask f y (gives a st) (trapped trap span st') is on q = absurd q
asked_of_runs s n before F ask f y (trapped trap1 span1 st) (trapped trap span st') is on q = q
asked_of_runs s n before F ask f y (spent st) (trapped trap span st') is on q = absurd q
asked_of_runs s n before F ask f y (gives a st) (spent st') is on q = absurd q
asked_of_runs s n before F ask f y (trapped trap1 span1 st) (spent st') is on q = absurd q
asked_of_runs s n before F ask f y (spent st) (spent st') is on q = q

pub runs_then_nothing : (s : Scene) (n : ℕ) (source : State → Outcome Value) (stmts : List StmtTree) (f : Value → Value) → RunsNear s n source stmts → IsNear s (SameCell None) n (λ st. source st >>= λ w. gives (f w)) stmts (cell_asked s (t.constant i.Int (pos 0)))
runs_then_nothing s n source stmts f h st st' al = asked_of_runs s n st'.memory (SameCell None) (cell_asked s (t.constant i.Int (pos 0))) f (cell.Int (pos 0)) (source st) (run_all s stmts st') (λ blocks. refl) (λ w. tt) (h st st' al)

pub runs_near : {A : Type 0} (s : Scene) (n : ℕ) (source : State → Outcome A) (stmts : List StmtTree) → Runs s n source stmts → RunsNear s n source stmts
runs_near s n source stmts h st st' al =
    same_weaken (Gives s (below n) st'.memory (λ a flow. flow ≡ goes_on)) (GivesNear s (below n) st'.memory (λ a flow. flow ≡ goes_on)) (source st) (run_all s stmts st') (h st st' al)
    (λ a st1 flow st1' q. record { near = near s st1 st1' q.after.alike; kept = q.after.kept; facts = q.facts })

-- what is given doesn't count
runs_made : {A B : Type 0} (s : Scene) (n : ℕ) (before : Blocks) (f : A → B) (o : Outcome A) (o' : c.Outcome Flow) → Same (GivesNear s (below n) before (λ a flow. flow ≡ goes_on)) o o' → Same (GivesNear s (below n) before (λ a flow. flow ≡ goes_on)) (o >>= λ a. gives (f a)) o'
runs_made s n before f (gives a st) (gives flow st') q = record { near = q.near; kept = q.kept; facts = q.facts }
runs_made s n before f (gives a st) (trapped trap span st') q = q
runs_made s n before f (gives a st) (spent st') q = q
runs_made s n before f (trapped trap1 span1 st) (gives flow st') q = q
runs_made s n before f (trapped trap1 span1 st) (trapped trap span st') q = q
runs_made s n before f (trapped trap1 span1 st) (spent st') q = q
runs_made s n before f (spent st) (gives flow st') q = q
runs_made s n before f (spent st) (trapped trap span st') q = q
runs_made s n before f (spent st) (spent st') q = q

pub runs_give : {A B : Type 0} (s : Scene) (n : ℕ) (source : State → Outcome A) (stmts : List StmtTree) (f : A → B) → RunsNear s n source stmts → RunsNear s n (λ st. source st >>= λ a. gives (f a)) stmts
runs_give s n source stmts f h st st' al = runs_made s n st'.memory f (source st) (run_all s stmts st') (h st st' al)

pub runs_as : {A : Type 0} (s : Scene) (n : ℕ) (source other : State → Outcome A) (stmts : List StmtTree) → ((st : State) → other st ≡ source st) → RunsNear s n source stmts → RunsNear s n other stmts
runs_as s n source other stmts e1 h st st' al = subst (λ o. Same (GivesNear s (below n) st'.memory (λ a flow. flow ≡ goes_on)) o (run_all s stmts st')) (sym (e1 st)) (h st st' al)

-- statements behind which something was asked are run
asked_runs : {A X : Type 0} (s : Scene) (n : ℕ) (before : Blocks) (F : A → X → Type 0) (ask : Blocks → Result X Stop) (y : Blocks → X) (o : Outcome A) (o' : c.Outcome Flow) → ((blocks : Blocks) → ask blocks ≡ Ok (y blocks)) →
    SameAsked (Kept s (below n) before) (GivesNear s (below n) before F) ask o o' → Same (GivesNear s (below n) before (λ a flow. flow ≡ goes_on)) o o'
asked_runs {A} {X} s n before F ask y o (gives flow st') is h = go o (subst (λ r1. Same (GivesNear s (below n) before F) o (evaluated r1 st' (λ z. gives z))) (is st'.memory) h.2)
  where
    go : (o : Outcome A) → Same (GivesNear s (below n) before F) o (gives (y st'.memory) st') → Same (GivesNear s (below n) before (λ a flow. flow ≡ goes_on)) o (gives flow st')
    go (gives a st) q = record { near = q.near; kept = q.kept; facts = h.0 }
    go (trapped trap span st) q = absurd q
    go (spent st) q = absurd q
asked_runs s n before F ask y (gives a st) (trapped trap span st') is h = h
asked_runs s n before F ask y (trapped trap1 span1 st) (trapped trap span st') is h = h
asked_runs s n before F ask y (spent st) (trapped trap span st') is h = h
asked_runs s n before F ask y (gives a st) (spent st') is h = h
asked_runs s n before F ask y (trapped trap1 span1 st) (spent st') is h = h
asked_runs s n before F ask y (spent st) (spent st') is h = h

pub near_runs : {A X : Type 0} (s : Scene) (n : ℕ) (F : A → X → Type 0) (ask : Blocks → Result X Stop) (y : Blocks → X) (source : State → Outcome A) (stmts : List StmtTree) → ((blocks : Blocks) → ask blocks ≡ Ok (y blocks)) → IsNear s F n source stmts ask → RunsNear s n source stmts
near_runs s n F ask y source stmts is h st st' al = asked_runs s n st'.memory F ask y (source st) (run_all s stmts st') is (h st st' al)

-- ---- places that are fixed

root_first : (variables : List VarTy) (n : ℕ) (keeps : Temp) (p : LoweredPlace) (q : PlaceTree) → HasTemps variables n (fixed_root n keeps p q).temps → HasTemps variables n p.temps
root_first variables n keeps p (place (t.local k) path) h = h
root_first variables n keeps p (place (t.global k) path) h = h
root_first variables n keeps p (place (deref e1 at) path) h = temps_first variables n p.temps (keeps ∷ []) h

through_first : (variables : List VarTy) (n : ℕ) (o : Option Temp) (p : LoweredPlace) → HasTemps variables n (fixed_through n o p).temps → HasTemps variables n p.temps
through_first variables n None p h = h
through_first variables n (Some keeps) p h = root_first variables n keeps p p.place h

pub fixed_first : (variables : List VarTy) (n : ℕ) (b : Bool) (p : LoweredPlace) → HasTemps variables n (fixed_if b n p).temps → HasTemps variables n p.temps
fixed_first variables n true p h = through_first variables n p.through p h
fixed_first variables n false p h = h

root_type : (n : ℕ) (keeps : Temp) (p : LoweredPlace) (q : PlaceTree) → (fixed_root n keeps p q).ty ≡ p.ty
root_type n keeps p (place (t.local k) path) = refl
root_type n keeps p (place (t.global k) path) = refl
root_type n keeps p (place (deref e1 at) path) = refl

through_type : (n : ℕ) (o : Option Temp) (p : LoweredPlace) → (fixed_through n o p).ty ≡ p.ty
through_type n None p = refl
through_type n (Some keeps) p = root_type n keeps p p.place

pub fixed_type : (n : ℕ) (b : Bool) (p : LoweredPlace) → (fixed_if b n p).ty ≡ p.ty
fixed_type n true p = through_type n p.through p
fixed_type n false p = refl

-- ---- numbers

pub past_from : (v n : ℕ) (xs : List Temp) → v ≤ n → v ≤ past n xs
past_from v n xs h = omega (arith, h)

pub past_one : (n : ℕ) (xs : List Temp) (x : Temp) → past n (xs ++ x ∷ []) ≡ past n xs + 1
past_one n xs x = let e1 = length-append xs (x ∷ []) in omega (arith, e1)

-- ---- chains

pub was_pure : (a z : Bool) → (not a || not z) ≡ false → z ≡ true
was_pure a true h = refl
was_pure true false h = false_not_true (sym h)
was_pure false false h = false_not_true (sym h)

-- a pointer that is added to an integer comes after a held one
abbrev pub LinkBy : LinkStep → t.ExprTree → Type 0
LinkBy step a = TakesLeft step ⊎ ((k : ℕ) × (step ≡ MoveBy) × (a ≡ temp k))

pub ready_by : (first : ExprTree) (before : List LinkTree) (sp : Span) (u : VarTy) (step : LinkStep) (ex : ExprTree) (far : Lowered) (n : ℕ) → LinkBy step (link_ready first before sp u step ex far n).value
ready_by first before sp u (Arithmetic op to) ex far n = inl tt
ready_by first before sp u (Shift back) ex far n = inl tt
ready_by first before sp u (Move back) ex far n = inl tt
ready_by first before sp u MoveBy ex far n = inr (past n far.temps, refl, refl)
ready_by first before sp u Difference ex far n = inl tt
ready_by first before sp u (Compare op) ex far n = inl tt

pub link_step : (s : Scene) (n : ℕ) (u to : VarTy) (ity : Option VarTy) (step : LinkStep) (at : Span) (source index : State → Outcome Value) (stmts : List StmtTree) (a e1 : t.ExprTree) → LinkBy step a → PlainStep step → PointsTo s u step a → ScalarType ity →
    IsNext s (Both (SameCell (Some u)) (IsValue s ity)) n (pair_of source index) stmts (both (cell_asked s a) (cell_asked s e1)) →
    IsNext s (SameCell (Some to)) n (λ st. source st >>= λ w st1. index st1 >>= λ y. cell_or_trap at (m.stepped (sizes_in s) u step (cell_of w) (cell_of y))) stmts (cell_asked s (stepped u step a e1 at))
link_step s n u to ity step at source index stmts a e1 (inl takes) plain points operand h = link_near s n u to ity step at source index stmts a e1 takes plain points operand.u operand.is h
link_step s n u to ity step at source index stmts a e1 (inr by) plain points operand h =
    subst (λ z. IsNext s (SameCell (Some to)) n (λ st. source st >>= λ w st1. index st1 >>= λ y. cell_or_trap at (m.stepped (sizes_in s) u z (cell_of w) (cell_of y))) stmts (cell_asked s (stepped u z a e1 at))) (sym by.1)
    (subst (λ z. IsNext s (SameCell (Some to)) n (λ st. source st >>= λ w st1. index st1 >>= λ y. cell_or_trap at (m.stepped (sizes_in s) u MoveBy (cell_of w) (cell_of y))) stmts (cell_asked s (stepped u MoveBy z e1 at))) (sym by.2)
    (link_by s n by.0 u to ity at source index stmts e1 operand.u operand.is
    (subst (λ z. IsNext s (Both (SameCell (Some u)) (IsValue s ity)) n (pair_of source index) stmts (both (cell_asked s z) (cell_asked s e1))) by.2 h)))

-- the first operand of a chain is a scalar
pub link_first : (a z : Option VarTy) (step : LinkStep) (to : VarTy) → r.stepped a step z ≡ Some to → ScalarType a
link_first (Some (Int u)) z step to h = record { u = Int u; is = refl; scalar = tt }
link_first (Some (Pointer elem f)) z step to h = record { u = Pointer elem f; is = refl; scalar = tt }
link_first None z (Arithmetic op t1) to h = cc
link_first None z (Shift back) to h = cc
link_first None z (Move back) to h = cc
link_first None z MoveBy to h = no_move z h
  where
    no_move : (z : Option VarTy) → r.moved_type z None ≡ Some to → ScalarType None
    no_move None h = cc
    no_move (Some (Int u)) h = cc
    no_move (Some (Struct n)) h = cc
    no_move (Some (Array elem n)) h = cc
    no_move (Some (Pointer elem f)) h = cc
link_first None z Difference to h = cc
link_first None z (Compare op) to h = no_compare (is_comparison op) h
  where
    no_compare : (b : Bool) → r.int_where (b && both_elem (pointee_of None) (pointee_of z)) ≡ Some to → ScalarType None
    no_compare true h = cc
    no_compare false h = cc
link_first (Some (Struct n)) z (Arithmetic op t1) to h = cc
link_first (Some (Struct n)) z (Shift back) to h = cc
link_first (Some (Struct n)) z (Move back) to h = cc
link_first (Some (Struct n)) z MoveBy to h = no_move z h
  where
    no_move : (z : Option VarTy) → r.moved_type z (Some (Struct n)) ≡ Some to → ScalarType (Some (Struct n))
    no_move None h = cc
    no_move (Some (Int u)) h = cc
    no_move (Some (Struct m1)) h = cc
    no_move (Some (Array elem m1)) h = cc
    no_move (Some (Pointer elem f)) h = cc
link_first (Some (Struct n)) z Difference to h = cc
link_first (Some (Struct n)) z (Compare op) to h = no_compare (is_comparison op) h
  where
    no_compare : (b : Bool) → r.int_where (b && both_elem (pointee_of (Some (Struct n))) (pointee_of z)) ≡ Some to → ScalarType (Some (Struct n))
    no_compare true h = cc
    no_compare false h = cc
link_first (Some (Array el n)) z (Arithmetic op t1) to h = cc
link_first (Some (Array el n)) z (Shift back) to h = cc
link_first (Some (Array el n)) z (Move back) to h = cc
link_first (Some (Array el n)) z MoveBy to h = no_move z h
  where
    no_move : (z : Option VarTy) → r.moved_type z (Some (Array el n)) ≡ Some to → ScalarType (Some (Array el n))
    no_move None h = cc
    no_move (Some (Int u)) h = cc
    no_move (Some (Struct m1)) h = cc
    no_move (Some (Array elem m1)) h = cc
    no_move (Some (Pointer elem f)) h = cc
link_first (Some (Array el n)) z Difference to h = cc
link_first (Some (Array el n)) z (Compare op) to h = no_compare (is_comparison op) h
  where
    no_compare : (b : Bool) → r.int_where (b && both_elem (pointee_of (Some (Array el n))) (pointee_of z)) ≡ Some to → ScalarType (Some (Array el n))
    no_compare true h = cc
    no_compare false h = cc

-- ---- expressions of a scalar type

pub record ScalarExpr (ex : ExprTree) : Type 0 where
  pub is : ty_of ex ≡ Some (e.type_of ex)
  pub scalar : Scalar (e.type_of ex)

pub scalar_expr : (ex : ExprTree) → ScalarType (ty_of ex) → ScalarExpr ex
scalar_expr (typed at ty form) k = record { is = k.is ∙ ap (λ u. Some u) (sym (ap e.type_or_int k.is)); scalar = subst (λ u. Scalar u) (sym (ap e.type_or_int k.is)) k.scalar }
