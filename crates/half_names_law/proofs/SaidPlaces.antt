-- Places, lowered: what is known of their parts is known of them.
use Rattle.std.proofs.Common.{◌≡◌, ◌∙◌, ℕ, refl, sym, subst, Bool, true, false, Option, None, Some, List, [], ◌∷◌, ◌++◌}
use Rattle.pt_base.specs.declared.span.Span.{Span}
use Rattle.pt_base.proofs.Booleans.{both_hold}
use Rattle.typed_tree.specs.declared.types.VarTy.{VarTy}
use Rattle.typed_tree.specs.ExpressionTree as src
use Rattle.typed_tree.specs.TypeTests.{points_to_const}
use Rattle.pt_core.specs.CodeTree.{local, global, deref, PlaceTree, place, ExprTree, check, decay}
use Rattle.pt_core.specs.Types.{Context, place_type}
use Rattle.source_meaning.specs.Expressions as x
use Rattle.lowering.specs.Lowered.{Temp, Lowered, LoweredPlace, past, temp, hold, holding, held_if}
use Rattle.lowering.specs.Expressions.{Scope, place_with_field, field_in, behind, decayed_type, element_place, fixed_root, fixed_through, fixed_if, value_at, checked}
use Rattle.lowered_code_law.proofs.FormsSettings.{Setting, Stand, context}
use Rattle.lowered_code_law.proofs.FormsStanding.{stand_first, stand_rest}
use Rattle.half_meaning_law.specs.CForms.{stands, place_stands, is_const}
use Rattle.half_names_law.proofs.SaidLemmas.{AreSaid, LoweredSaid, Through, PlaceSaid, said_both, one_more, temp_keeps, hold_said, held_if_said}

-- ---- fields

field_stands : (p : PlaceTree) (k : ℕ) → place_stands p ≡ true → place_stands (place_with_field p k) ≡ true
field_stands (place root path) k h = h

field_const : (c : Context) (p : PlaceTree) (k : ℕ) → is_const c (place_with_field p k) ≡ is_const c p
field_const c (place root path) k = refl

through_field : (c : Context) (p : PlaceTree) (k : ℕ) (own : Bool) (o : Option Temp) → Through c p own o → Through c (place_with_field p k) own o
through_field c (place root path) k own None h = tt
through_field c (place root path) k own (Some y) h = h

pub field_said : (w : Setting) (c : Scope) (fixed : Bool) (k : ℕ) (p : LoweredPlace) → PlaceSaid w fixed p → PlaceSaid w fixed (field_in c k p)
field_said w c fixed k p h = record {
  stmts = h.stmts;
  alone = field_stands p.place k h.alone;
  keeps = λ e. h.keeps (sym (field_const (context w) p.place k) ∙ e);
  own = h.own;
  through = through_field (context w) p.place k p.fixed p.through h.through;
}

-- ---- what pointers point to

pub behind_said : (w : Setting) (s : Span) (a : src.ExprTree) (v : Lowered) → LoweredSaid w false (x.type_of a) v → PlaceSaid w (points_to_const (Some (x.type_of a))) (behind s a v)
behind_said w s a v h = record {
  stmts = h.stmts;
  alone = h.alone;
  keeps = h.keeps;
  own = λ e. e;
  through = (h.keeps, λ e. e);
}

-- an array as a pointer to its first element
pub array_said : (w : Setting) (fixed : Bool) (p : LoweredPlace) → PlaceSaid w fixed p → LoweredSaid w false (decayed_type p.fixed p.ty) (record { stmts = p.stmts; value = decay p.place; temps = p.temps })
array_said w fixed p h = record { stmts = h.stmts; alone = h.alone; keeps = h.keeps }

-- an array's element
pub element_said : (w : Setting) (fixed : Bool) (n : ℕ) (s : Span) (first index : src.ExprTree) (b : Bool) (far : LoweredPlace) (v : Lowered) → (Stand w.variables n far.temps → PlaceSaid w fixed far) →
    (Stand w.variables (past n (held_if b n (holding (decayed_type far.fixed far.ty) first) (record { stmts = far.stmts; value = decay far.place; temps = far.temps })).temps) v.temps → LoweredSaid w false (x.type_of index) v) →
    Stand w.variables n (element_place s first index (decayed_type far.fixed far.ty) (held_if b n (holding (decayed_type far.fixed far.ty) first) (record { stmts = far.stmts; value = decay far.place; temps = far.temps })) v).temps →
    PlaceSaid w fixed (element_place s first index (decayed_type far.fixed far.ty) (held_if b n (holding (decayed_type far.fixed far.ty) first) (record { stmts = far.stmts; value = decay far.place; temps = far.temps })) v)
element_said w fixed n s first index b far v h k stand =
    let array : Lowered = record { stmts = far.stmts; value = decay far.place; temps = far.temps } in
    let ty = decayed_type far.fixed far.ty in
    let base = held_if b n (holding ty first) array in
    let own = stand_first w.variables n base.temps v.temps stand in
    let all = held_if_said b w false ty n (holding ty first) array refl (λ st. array_said w fixed far (h st)) own in
    let index_said = k (stand_rest w.variables n base.temps v.temps stand) in
    record {
      stmts = said_both w base.stmts v.stmts all.stmts index_said.stmts;
      alone = both_hold (stands base.value) (stands v.value) all.alone index_said.alone;
      keeps = all.keeps;
      own = (h (held_stand b n (holding ty first) array own)).own;
      through = (all.keeps, λ e. e);
    }
  where
    held_stand : (b : Bool) (n : ℕ) (y : Temp) (v : Lowered) → Stand w.variables n (held_if b n y v).temps → Stand w.variables n v.temps
    held_stand true n y v st = stand_first w.variables n v.temps (y ∷ []) st
    held_stand false n y v st = st

-- ---- places whose pointer is held

fixed_place : (w : Setting) (fixed : Bool) (n : ℕ) (y : Temp) (p : LoweredPlace) (a : ExprTree) (s : Span) (path : List ℕ) → p.place ≡ place (deref a s) path → p.through ≡ Some y →
    (Stand w.variables n p.temps → PlaceSaid w fixed p) → Stand w.variables n (p.temps ++ y ∷ []) → PlaceSaid w fixed (fixed_root n y p (place (deref a s) path))
fixed_place w fixed n y p a s path is by h stand =
    let all = h (stand_first w.variables n p.temps (y ∷ []) stand) in
    let k = past n p.temps in
    let here = (stand_rest w.variables n p.temps (y ∷ []) stand).0 in
    let there = place (deref (temp k) s) path in
    let led : Through (context w) (place (deref a s) path) p.fixed (Some y) = subst (λ o. Through (context w) (place (deref a s) path) p.fixed o) by (subst (λ z. Through (context w) z p.fixed p.through) is all.through) in
    let alone : stands a ≡ true = subst (λ z. place_stands z ≡ true) is all.alone in
    record {
      stmts = said_both w p.stmts (hold k a ∷ check there ∷ []) all.stmts (hold_said w false k y.ty a here alone led.0, (refl, tt));
      alone = refl;
      keeps = λ e. led.1 (temp_keeps w k y.ty here e);
      own = all.own;
      through = subst (λ o. Through (context w) there p.fixed o) (sym by) (temp_keeps w k y.ty here, led.1);
    }

fixed_root_said : (w : Setting) (fixed : Bool) (n : ℕ) (y : Temp) (p : LoweredPlace) (q : PlaceTree) → p.place ≡ q → p.through ≡ Some y → (Stand w.variables n p.temps → PlaceSaid w fixed p) →
    Stand w.variables n (fixed_root n y p q).temps → PlaceSaid w fixed (fixed_root n y p q)
fixed_root_said w fixed n y p (place (deref a s) path) is by h stand = fixed_place w fixed n y p a s path is by h stand
fixed_root_said w fixed n y p (place (local v) path) is by h stand = h stand
fixed_root_said w fixed n y p (place (global g) path) is by h stand = h stand

fixed_through_said : (w : Setting) (fixed : Bool) (n : ℕ) (o : Option Temp) (p : LoweredPlace) → p.through ≡ o → (Stand w.variables n p.temps → PlaceSaid w fixed p) → Stand w.variables n (fixed_through n o p).temps → PlaceSaid w fixed (fixed_through n o p)
fixed_through_said w fixed n None p by h stand = h stand
fixed_through_said w fixed n (Some y) p by h stand = fixed_root_said w fixed n y p p.place refl by h stand

pub fixed_if_said : (b : Bool) (w : Setting) (fixed : Bool) (n : ℕ) (p : LoweredPlace) → (Stand w.variables n p.temps → PlaceSaid w fixed p) → Stand w.variables n (fixed_if b n p).temps → PlaceSaid w fixed (fixed_if b n p)
fixed_if_said true w fixed n p h stand = fixed_through_said w fixed n p.through p refl h stand
fixed_if_said false w fixed n p h stand = h stand

-- ---- values and checks

-- the value of a place of this type
pub value_at_said : (w : Setting) (fixed : Bool) (ty : VarTy) (p : LoweredPlace) → place_type (context w) p.place ≡ ty → PlaceSaid w fixed p → LoweredSaid w false ty (value_at p)
value_at_said w fixed ty p is h = record { stmts = h.stmts; alone = h.alone; keeps = λ e. subst (λ z. points_to_const (Some z) ≡ true) is e }

pub checked_said : (w : Setting) (fixed : Bool) (p : LoweredPlace) → PlaceSaid w fixed p → AreSaid w (checked p).stmts
checked_said w fixed p h = one_more w p.stmts (check p.place) h.stmts h.alone
