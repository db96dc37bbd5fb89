-- What one step of the code makes, behind what was made before it.
use Rattle.std.proofs.Common.{◌≡◌, ℕ, ◌+◌, Bool, false, List, [], ◌∷◌, ◌++◌, length, Option, Some, None, option_map, sym, ap, ◌∙◌, subst, append_assoc, length-append, arith}
use Rattle.std.proofs.lemmas.List.{append-nil}
use Rattle.std.specs.Prelude.{Result, IfOk, unwrap_or}
use Rattle.std.specs.declared.alloc.AllocError.{AllocError}
use Rattle.pt_base.specs.declared.span.Span.{Span}
use Rattle.typed_tree.specs.declared.types.VarTy.{VarTy}
use Rattle.typed_tree.specs.declared.link.LinkStep.{LinkStep}
use Rattle.typed_tree.specs.ExpressionTree as tree
use Rattle.typed_tree.specs.TypeTests.{points_to_const}
use Rattle.source_meaning.specs.Expressions.{type_of}
use Rattle.pt_core.specs.Types.{field_type, pointee_type}
use Rattle.pt_core.specs.CodeTree as core
use Rattle.pt_core.specs.CodeTree.{local, PlaceTree, place, deref, ExprTree, read, StmtTree, check, assign, copy, call, choose, expr_trees, stmt_trees}
use Rattle.pt_core.proofs.Rows.{same_choice}
use Rattle.lowering.specs.declared.temporary.Temporary.{Temporary}
use Rattle.lowering.specs.declared.place.FoundPlace.{FoundPlace}
use Rattle.lowering.specs.Lowered.{Temp, Effects, Lowered, LoweredPlace, Arguments, pure, past, temp, hold, holding, int}
use Rattle.lowering.specs.Operators.{truth_of, stepped, stored, unit_step, unit_of}
use Rattle.lowering.specs.Expressions.{Scope, behind, element_place, place_with_field, field_in, fixed_root, fixed_through, copied, given, compounded, counted, counted_after, call_effects, called, started}
use Rattle.lowering.specs.Functions.{span_of}
use Rattle.lowering.specs.Output.{Output, next, temporary_of, added, more, Found, found, view_found, Gives, GivesAll, Finds, Does, Collects}
use Rattle.lowering.proofs.OutputLemmas.{next_after, nothing_made, both, then_stmts, then_temps, then_held}

-- ---- places

abbrev pub found_at : PlaceTree → VarTy → Bool → Option Temporary → Found
found_at p ty fixed through = record { place = p; ty = ty; fixed = fixed; through = through }

pub field_is : (c : Scope) (k : ℕ) (f : Found) (low : LoweredPlace) (p : PlaceTree) (ty : VarTy) → f ≡ found low → p ≡ place_with_field f.place k → ty ≡ field_type c.structs f.ty k → found_at p ty f.fixed f.through ≡ found (field_in c k low)
field_is c k f low p ty h hp ht =
    ap (λ z. found_at z ty f.fixed f.through) hp
    ∙ ap (λ z. found_at (place_with_field f.place k) z f.fixed f.through) ht
    ∙ ap (λ (g : Found). found_at (place_with_field g.place k) (field_type c.structs g.ty k) g.fixed g.through) h

-- a pointer is held, and the place behind it found
pub dereferenced_is : (o1 o2 o3 : Output) (t : Temporary) (pointer : ExprTree) (s : Span) (path : List ℕ) (k : ℕ) (p : PlaceTree) → k ≡ next o1 → o2 ≡ added o1 (hold (next o1) pointer ∷ []) (t ∷ []) → p ≡ place (deref (temp k) s) path → o3 ≡ added o2 (check p ∷ []) [] →
    o3 ≡ added o1 (hold (next o1) pointer ∷ check (place (deref (temp (next o1)) s) path) ∷ []) (t ∷ [])
dereferenced_is o1 o2 o3 t pointer s path k p ek e2 ep e3 =
    e3 ∙ ap (λ z. added z (check p ∷ []) []) e2
    ∙ ap (λ z. record { first = o1.first; stmts = (o1.stmts ++ hold (next o1) pointer ∷ []) ++ check z ∷ []; temps = (o1.temps ++ t ∷ []) ++ [] }) (ep ∙ ap (λ j. place (deref (temp j) s) path) ek)
    ∙ ap (λ z. record { first = o1.first; stmts = z; temps = (o1.temps ++ t ∷ []) ++ [] }) (append_assoc o1.stmts (hold (next o1) pointer ∷ []) (check (place (deref (temp (next o1)) s) path) ∷ []))
    ∙ ap (λ z. record { first = o1.first; stmts = o1.stmts ++ hold (next o1) pointer ∷ check (place (deref (temp (next o1)) s) path) ∷ []; temps = z }) (append-nil (o1.temps ++ t ∷ []))

pub fixed_is : (o o1 o2 : Output) (x : Temp) (t : Temporary) (low : LoweredPlace) (f : Found) (pointer : ExprTree) (s : Span) (path : List ℕ) (p : PlaceTree) → Finds o low o1 f → place (deref pointer s) path ≡ f.place → temporary_of x ≡ t →
    p ≡ place (deref (temp (next o1)) s) path → o2 ≡ added o1 (hold (next o1) pointer ∷ check (place (deref (temp (next o1)) s) path) ∷ []) (t ∷ []) → Finds o (fixed_root (next o) x low low.place) o2 (found_at p f.ty f.fixed f.through)
fixed_is o o1 o2 x t low f pointer s path p h e et ep e2 =
    let m = past (next o) low.temps in
    let n : next o1 ≡ m = next_after o o1 low.stmts low.temps h.made in
    let at : place (deref pointer s) path ≡ low.place = e ∙ ap (λ (g : Found). g.place) h.is in
    subst (λ z. Finds o (fixed_root (next o) x low z) o2 (found_at p f.ty f.fixed f.through)) at
    (record {
      made =
          both o o1 o2 low.stmts (hold m pointer ∷ check (place (deref (temp m) s) path) ∷ []) low.temps (x ∷ []) h.made
          (e2 ∙ ap (λ j. added o1 (hold j pointer ∷ check (place (deref (temp j) s) path) ∷ []) (t ∷ [])) n ∙ ap (λ z. added o1 (hold m pointer ∷ check (place (deref (temp m) s) path) ∷ []) (z ∷ [])) (sym et));
      is = ap (λ z. found_at z f.ty f.fixed f.through) (ep ∙ ap (λ j. place (deref (temp j) s) path) n) ∙ ap (λ (g : Found). found_at (place (deref (temp m) s) path) g.ty g.fixed g.through) h.is;
    })

-- a statement and a temporary, and then a place is found
pub held_then_checked : (o1 o2 o3 : Output) (st : StmtTree) (t : Temporary) (p q : PlaceTree) → o2 ≡ added o1 (st ∷ []) (t ∷ []) → o3 ≡ added o2 (check q ∷ []) [] → q ≡ p → o3 ≡ added o1 (st ∷ check p ∷ []) (t ∷ [])
held_then_checked o1 o2 o3 st t p q e2 e3 eq =
    e3 ∙ ap (λ z. added z (check q ∷ []) []) e2 ∙ ap (λ z. added (added o1 (st ∷ []) (t ∷ [])) (check z ∷ []) []) eq
    ∙ ap (λ xs. record { first = o1.first; stmts = xs; temps = (o1.temps ++ t ∷ []) ++ [] }) (append_assoc o1.stmts (st ∷ []) (check p ∷ []))
    ∙ ap (λ ys. record { first = o1.first; stmts = o1.stmts ++ st ∷ check p ∷ []; temps = ys }) (append-nil (o1.temps ++ t ∷ []))

-- where no pointer leads there
pub local_is : (o o1 : Output) (x : Temp) (low : LoweredPlace) (f : Found) (v : ℕ) (path : List ℕ) → Finds o low o1 f → place (local v) path ≡ f.place → Finds o (fixed_root (next o) x low low.place) o1 f
local_is o o1 x low f v path h e =
    subst (λ p. Finds o (fixed_root (next o) x low p) o1 f) (e ∙ ap (λ (g : Found). g.place) h.is) h

pub global_is : (o o1 : Output) (x : Temp) (low : LoweredPlace) (f : Found) (v : ℕ) (path : List ℕ) → Finds o low o1 f → place (core.global v) path ≡ f.place → Finds o (fixed_root (next o) x low low.place) o1 f
global_is o o1 x low f v path h e =
    subst (λ p. Finds o (fixed_root (next o) x low p) o1 f) (e ∙ ap (λ (g : Found). g.place) h.is) h

-- ---- assignments

pub copied_is : (o o1 o2 o3 : Output) (to of : LoweredPlace) (f g : Found) → Finds o to o1 f → Finds o1 of o2 g → o3 ≡ added o2 (copy f.place g.place ∷ []) [] → Finds o (copied to of) o3 f
copied_is o o1 o2 o3 to of f g h i e = record {
  made =
      then_stmts o o2 o3 (to.stmts ++ of.stmts) (copy to.place of.place ∷ []) (to.temps ++ of.temps)
      (both o o1 o2 to.stmts of.stmts to.temps of.temps h.made i.made)
      (e ∙ ap (λ (z : Found). added o2 (copy z.place g.place ∷ []) []) h.is ∙ ap (λ (z : Found). added o2 (copy to.place z.place ∷ []) []) i.is);
  is = h.is;
}

pub given_is : (o o1 o2 o3 : Output) (to : LoweredPlace) (v : Lowered) (f : Found) (w : ExprTree) → Finds o to o1 f → Gives o1 v o2 w → o3 ≡ added o2 (assign f.place w ∷ []) [] → Finds o (given to v) o3 f
given_is o o1 o2 o3 to v f w h i e = record {
  made =
      then_stmts o o2 o3 (to.stmts ++ v.stmts) (assign to.place v.value ∷ []) (to.temps ++ v.temps)
      (both o o1 o2 to.stmts v.stmts to.temps v.temps h.made i.made)
      (e ∙ ap (λ (z : Found). added o2 (assign z.place w ∷ []) []) h.is ∙ ap (λ z. added o2 (assign to.place z ∷ []) []) i.is);
  is = h.is;
}

-- what a compound assignment stores
abbrev pub result_in : Span → LinkStep → Found → ExprTree → ExprTree
result_in s step f w = stored f.ty step (stepped f.ty step (read f.place) w s)

pub compounded_is : (o o1 o2 o3 : Output) (s : Span) (step : LinkStep) (to : LoweredPlace) (v : Lowered) (f : Found) (w : ExprTree) → Finds o to o1 f → Gives o1 v o2 w → o3 ≡ added o2 (assign f.place (result_in s step f w) ∷ []) [] → Finds o (compounded s step to v) o3 f
compounded_is o o1 o2 o3 s step to v f w h i e = record {
  made =
      then_stmts o o2 o3 (to.stmts ++ v.stmts) (assign to.place (result_in s step (found to) v.value) ∷ []) (to.temps ++ v.temps)
      (both o o1 o2 to.stmts v.stmts to.temps v.temps h.made i.made)
      (e ∙ ap (λ (z : Found). added o2 (assign z.place (result_in s step z w) ∷ []) []) h.is ∙ ap (λ z. added o2 (assign to.place (result_in s step (found to) z) ∷ []) []) i.is);
  is = h.is;
}

-- `++` and `--` are compound assignments of 1
pub counted_is : (r : Result FoundPlace AllocError) (o o1 o2 : Output) (s : Span) (back : Bool) (step : LinkStep) (unit : ExprTree) (to : LoweredPlace) (f : Found) →
    Finds o to o1 f → step ≡ unit_step f.ty back → unit ≡ unit_of f.ty →
    ((v : Lowered) → Gives o1 v o1 unit → IfOk r (λ p. Finds o (compounded s step to v) o2 (view_found p))) →
    IfOk r (λ p. Finds o (counted s back to) o2 (view_found p))
counted_is r o o1 o2 s back step unit to f h es eu go =
    subst (λ z. IfOk r (λ p. Finds o (compounded s z to (pure (unit_of to.ty))) o2 (view_found p))) (es ∙ ap (λ (z : Found). unit_step z.ty back) h.is)
    (go (pure (unit_of to.ty)) (record { made = nothing_made o1; is = eu ∙ ap (λ (z : Found). unit_of z.ty) h.is }))

-- the place, behind a statement that holds its value
pub kept_is : (o o1 o2 : Output) (x : Temp) (t : Temporary) (to : LoweredPlace) (f : Found) → Finds o to o1 f → temporary_of x ≡ t → o2 ≡ added o1 (hold (next o1) (read f.place) ∷ []) (t ∷ []) →
    Finds o (record to { stmts = to.stmts ++ hold (past (next o) to.temps) (read to.place) ∷ []; temps = to.temps ++ x ∷ [] }) o2 f
kept_is o o1 o2 x t to f h et e = record {
  made = then_held o o1 o2 to.stmts to.temps x t (read f.place) (read to.place) h.made et (ap (λ (z : Found). read z.place) h.is) e;
  is = h.is;
}

pub kept_at : (o o1 o2 : Output) (x : Temp) (t : Temporary) (at : Span) (to : LoweredPlace) (f : Found) (v : ExprTree) → Finds o to o1 f → temporary_of x ≡ record { ty = to.ty; holds = Some at } → t ≡ record { ty = f.ty; holds = Some at } → v ≡ read f.place → o2 ≡ added o1 (hold (next o1) v ∷ []) (t ∷ []) →
    Finds o (record to { stmts = to.stmts ++ hold (past (next o) to.temps) (read to.place) ∷ []; temps = to.temps ++ x ∷ [] }) o2 f
kept_at o o1 o2 x t at to f v h ex et ev e =
    kept_is o o1 o2 x t to f h (ex ∙ ap (λ (z : Found). record { ty = z.ty; holds = Some at }) (sym h.is) ∙ sym et) (e ∙ ap (λ z. added o1 (hold (next o1) z ∷ []) (t ∷ [])) ev)

pub counted_after_is : (o o1 o3 : Output) (s : Span) (back : Bool) (x : Temp) (to : LoweredPlace) (f g : Found) (k : ℕ) → Finds o to o1 f → k ≡ next o1 →
    Finds o (counted s back (record to { stmts = to.stmts ++ hold (past (next o) to.temps) (read to.place) ∷ []; temps = to.temps ++ x ∷ [] })) o3 g →
    Gives o (counted_after s back (past (next o) to.temps) x to) o3 (temp k)
counted_after_is o o1 o3 s back x to f g k h ek c = record { made = c.made; is = ap temp (ek ∙ next_after o o1 to.stmts to.temps h.made) }

-- ---- calls

pub call_is : (o o1 o2 : Output) (f : ℕ) (s : Span) (a : Arguments) (vs : List ExprTree) → GivesAll o a o1 vs → o2 ≡ added o1 (call f (expr_trees vs) None s ∷ []) [] → Does o (call_effects f s None [] a) o2
call_is o o1 o2 f s a vs g e = record {
  made = both o o1 o2 a.stmts (call f (expr_trees a.values) None s ∷ []) a.temps [] g.made (e ∙ ap (λ z. added o1 (call f (expr_trees z) None s ∷ []) []) g.are);
}

pub call_dropped : (o o1 : Output) (f : ℕ) (s : Span) (e : tree.ExprTree) (a : Arguments) (v : ExprTree) → Does o (call_effects f s None [] a) o1 → v ≡ (called f s None e (next o) a).value → Gives o (called f s None e (next o) a) o1 v
call_dropped o o1 f s e a v d h = record { made = d.made; is = h }

-- a temporary is claimed, and a statement added
claimed : (o1 o2 o3 : Output) (us : List StmtTree) (ts : List Temporary) → o2 ≡ added o1 [] ts → o3 ≡ added o2 us [] → o3 ≡ added o1 us ts
claimed o1 o2 o3 us ts e f =
    f ∙ ap (λ z. added z us []) e
    ∙ ap (λ z. record { first = o1.first; stmts = z ++ us; temps = (o1.temps ++ ts) ++ [] }) (append-nil o1.stmts)
    ∙ ap (λ z. record { first = o1.first; stmts = o1.stmts ++ us; temps = z }) (append-nil (o1.temps ++ ts))

pub call_held : (o o1 o2 o3 : Output) (f : ℕ) (s : Span) (ty : VarTy) (e : tree.ExprTree) (a : Arguments) (vs : List ExprTree) (k : ℕ) → GivesAll o a o1 vs → span_of e ≡ s → k ≡ next o1 → o2 ≡ added o1 [] (record { ty = ty; holds = Some s } ∷ []) → o3 ≡ added o2 (call f (expr_trees vs) (Some k) s ∷ []) [] →
    Gives o (called f s (Some ty) e (next o) a) o3 (temp k)
call_held o o1 o2 o3 f s ty e a vs k g es ek e2 e3 =
    let n : k ≡ past (next o) a.temps = ek ∙ next_after o o1 a.stmts a.temps g.made in
    record {
      made =
          both o o1 o3 a.stmts (call f (expr_trees a.values) (Some (past (next o) a.temps)) s ∷ []) a.temps (holding ty e ∷ []) g.made
          (claimed o1 o2 o3 _ _ e2 e3
          ∙ ap (λ z. added o1 (call f (expr_trees z) (Some k) s ∷ []) (record { ty = ty; holds = Some s } ∷ [])) g.are
          ∙ ap (λ z. added o1 (call f (expr_trees a.values) (Some z) s ∷ []) (record { ty = ty; holds = Some s } ∷ [])) n
          ∙ ap (λ z. added o1 (call f (expr_trees a.values) (Some (past (next o) a.temps)) s ∷ []) (record { ty = ty; holds = Some z } ∷ [])) (sym es));
      is = ap temp n;
    }

-- ---- `&&`, `||` and `?:`

pub started_is : (o o1 o2 : Output) (whole : tree.ExprTree) (ty : VarTy) (s : Span) (low : Lowered) (v truth : ExprTree) → Gives o low o1 v → span_of whole ≡ s → truth ≡ truth_of ty v s → o2 ≡ added o1 (hold (next o1) truth ∷ []) (record { ty = int; holds = Some s } ∷ []) →
    Does o (started whole (past (next o) low.temps) ty s low) o2
started_is o o1 o2 whole ty s low v truth g es et e = record {
  made = then_held o o1 o2 low.stmts low.temps (holding int whole) (record { ty = int; holds = Some s }) truth (truth_of ty low.value s) g.made (ap (λ z. record { ty = int; holds = Some z }) es) (et ∙ ap (λ z. truth_of ty z s) g.is) e;
}

-- a choice between two lists, behind the condition
pub chosen_is : (o o1 o3 o4 o5 : Output) (xs : List StmtTree) (ys : List Temp) (c c' : ExprTree) (first second : Effects) (us vs : List StmtTree) → o1 ≡ more o xs ys → c ≡ c' → Collects o1 first o3 us → Collects o3 second o4 vs → o5 ≡ added o4 (choose c (stmt_trees us) (stmt_trees vs) ∷ []) [] →
    o5 ≡ more o (xs ++ choose c' (stmt_trees first.stmts) (stmt_trees second.stmts) ∷ []) (ys ++ first.temps ++ second.temps)
chosen_is o o1 o3 o4 o5 xs ys c c' first second us vs h ec f g e =
    then_stmts o o4 o5 xs (choose c' (stmt_trees first.stmts) (stmt_trees second.stmts) ∷ []) (ys ++ first.temps ++ second.temps)
    (then_temps o o3 o4 xs (ys ++ first.temps) second.temps (then_temps o o1 o3 xs ys first.temps h f.made) g.made)
    (e ∙ ap (λ z. added o4 (z ∷ []) []) (same_choice _ _ _ _ _ _ ec f.are g.are))

-- a temporary is claimed behind a part
pub then_claimed : (o o1 o2 : Output) (xs : List StmtTree) (ys : List Temp) (x : Temp) (t : Temporary) → o1 ≡ more o xs ys → temporary_of x ≡ t → o2 ≡ added o1 [] (t ∷ []) → o2 ≡ more o xs (ys ++ x ∷ [])
then_claimed o o1 o2 xs ys x t h et e = then_temps o o1 o2 xs ys (x ∷ []) h (e ∙ ap (λ z. added o1 [] (z ∷ [])) (sym et))

-- the number behind it
pub next_claimed : (o o2 : Output) (xs : List StmtTree) (ys : List Temp) (x : Temp) → o2 ≡ more o xs (ys ++ x ∷ []) → next o2 ≡ past (next o) ys + 1
next_claimed o o2 xs ys x h =
    let a : length (ys ++ x ∷ []) ≡ length ys + 1 = length-append ys (x ∷ []) in
    next_after o o2 xs (ys ++ x ∷ []) h ∙ omega arith

-- ---- what places are seen as

pub behind_found : (s : Span) (a : tree.ExprTree) (low : Lowered) (root : core.RootTree) (v : ExprTree) (ty pointee : VarTy) (fixed : Bool) (keeper : Temporary) (path : List ℕ) → path ≡ [] →
    root ≡ deref v s → v ≡ low.value → ty ≡ type_of a → pointee ≡ pointee_type ty → fixed ≡ points_to_const (Some ty) → keeper ≡ record { ty = ty; holds = Some (span_of a) } →
    found_at (place root path) pointee fixed (Some keeper) ≡ found (behind s a low)
behind_found s a low root v ty pointee fixed keeper path ex er ev et ep ef ek =
    ap (λ z. found_at (place root z) pointee fixed (Some keeper)) ex
    ∙ ap (λ z. found_at (place z []) pointee fixed (Some keeper)) (er ∙ ap (λ w. deref w s) ev)
    ∙ ap (λ z. found_at (place (deref low.value s) []) z fixed (Some keeper)) (ep ∙ ap pointee_type et)
    ∙ ap (λ z. found_at (place (deref low.value s) []) (pointee_type (type_of a)) z (Some keeper)) (ef ∙ ap (λ z. points_to_const (Some z)) et)
    ∙ ap (λ z. found_at (place (deref low.value s) []) (pointee_type (type_of a)) (points_to_const (Some (type_of a))) (Some z)) (ek ∙ ap (λ z. record { ty = z; holds = Some (span_of a) }) et)

pub element_found : (s : Span) (first e : tree.ExprTree) (ty : VarTy) (b v : Lowered) (root : core.RootTree) (pointer x y : ExprTree) (pointee : VarTy) (fixed : Bool) (keeper : Temporary) (path : List ℕ) → path ≡ [] →
    root ≡ deref pointer s → pointer ≡ core.move x y false s → x ≡ b.value → y ≡ v.value → pointee ≡ pointee_type ty → fixed ≡ points_to_const (Some ty) → keeper ≡ record { ty = ty; holds = Some s } →
    found_at (place root path) pointee fixed (Some keeper) ≡ found (element_place s first e ty b v)
element_found s first e ty b v root pointer x y pointee fixed keeper path eq er em ex ey ep ef ek =
    ap (λ z. found_at (place root z) pointee fixed (Some keeper)) eq
    ∙ ap (λ z. found_at (place z []) pointee fixed (Some keeper)) (er ∙ ap (λ w. deref w s) (em ∙ ap (λ w. core.move w y false s) ex ∙ ap (λ w. core.move b.value w false s) ey))
    ∙ ap (λ z. found_at (place (deref (core.move b.value v.value false s) s) []) z fixed (Some keeper)) ep
    ∙ ap (λ z. found_at (place (deref (core.move b.value v.value false s) s) []) (pointee_type ty) z (Some keeper)) ef
    ∙ ap (λ z. found_at (place (deref (core.move b.value v.value false s) s) []) (pointee_type ty) (points_to_const (Some ty)) (Some z)) ek

-- a place through which a pointer leads, or none
pub fixed_some : (r : Result FoundPlace AllocError) (o o1 o2 : Output) (low : LoweredPlace) (f : Found) (t : Temporary) → Finds o low o1 f → f.through ≡ Some t →
    ((x : Temp) → temporary_of x ≡ t → IfOk r (λ p. Finds o (fixed_root (next o) x low low.place) o2 (view_found p))) → IfOk r (λ p. Finds o (fixed_through (next o) low.through low) o2 (view_found p))
fixed_some r o o1 o2 low f t h e go = by_case low.through (sym (ap (λ (g : Found). g.through) h.is) ∙ e) go
  where
    by_case : (m : Option Temp) → option_map temporary_of m ≡ Some t → ((x : Temp) → temporary_of x ≡ t → IfOk r (λ p. Finds o (fixed_root (next o) x low low.place) o2 (view_found p))) → IfOk r (λ p. Finds o (fixed_through (next o) m low) o2 (view_found p))
    by_case None k go = absurd (grind arith)
    by_case (Some x) k go = go x (ap (λ (m : Option Temporary). unwrap_or m t) k)

pub fixed_none : (o o1 : Output) (low : LoweredPlace) (f : Found) → Finds o low o1 f → f.through ≡ None → Finds o (fixed_through (next o) low.through low) o1 f
fixed_none o o1 low f h e = by_case low.through (sym (ap (λ (g : Found). g.through) h.is) ∙ e) h
  where
    by_case : (m : Option Temp) → option_map temporary_of m ≡ None → Finds o low o1 f → Finds o (fixed_through (next o) m low) o1 f
    by_case None k h = h
    by_case (Some x) k h = absurd (grind arith)
