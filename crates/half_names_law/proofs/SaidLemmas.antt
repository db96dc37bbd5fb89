-- What is said of lowered code: each statement can be said in C, and where a value points to const its type
-- says so.
use Rattle.std.proofs.Common.{◌≡◌, ◌∙◌, ℕ, refl, ap, sym, subst, Bool, true, false, Option, None, Some, List, [], ◌∷◌, ◌++◌}
use Rattle.std.specs.Prelude.{◌&&◌, ◌||◌, not, slice_get}
use Rattle.std.proofs.lemmas.Bool.{not_from_false, or_right as or_so}
use Rattle.std.proofs.lemmas.Option.{get_or_from_slice_get}
use Rattle.pt_base.specs.declared.int_type.IntType.TheVariants as i
use Rattle.pt_base.proofs.Booleans.{both_hold, false_not_true}
use Rattle.pt_tree.specs.declared.signature.Param.{Param}
use Rattle.typed_tree.specs.declared.types.VarTy.{VarTy}
use Rattle.typed_tree.specs.declared.types.VarTy.TheVariants.{Int, Struct, Array, Pointer}
use Rattle.typed_tree.specs.TypeTests.{points_to_const}
use Rattle.pt_core.specs.CodeTree.{PlaceTree, ExprTree, StmtTree, assign, choose, expr_trees, stmt_trees}
use Rattle.pt_core.specs.Types.{Context, type_of, place_type}
use Rattle.lowering.specs.Lowered.{Temp, Lowered, LoweredPlace, Arguments, past, temp, temp_place, hold, held, held_if}
use Rattle.lowered_code_law.proofs.FormsSettings.{Setting, Stand, context}
use Rattle.lowered_code_law.proofs.FormsStanding.{stand_first, stand_rest}
use Rattle.half_meaning_law.specs.CForms.{is_null, stands, place_stands, points_const, is_const, with_const, c_type, keeps_const, is_stored, are_passed, is_said, are_said}

abbrev pub AreSaid : Setting → List StmtTree → Type 0
AreSaid w [] = Unit {0}
AreSaid w (x ∷ xs) = (is_said (context w) w.called x ≡ true) × AreSaid w xs

-- where the value points to const, so does the type
abbrev pub Keeps : Context → ExprTree → VarTy → Type 0
Keeps c a ty = points_const c a ≡ true → points_to_const (Some ty) ≡ true

-- a value of this type, which is null only where the flag allows it
pub record LoweredSaid (w : Setting) (nul : Bool) (ty : VarTy) (v : Lowered) : Type 0 where
  pub stmts : AreSaid w v.stmts
  pub alone : ((nul && is_null v.value) || stands v.value) ≡ true
  pub keeps : Keeps (context w) v.value ty

-- The pointer through which a place leads may be held: it points to const only where what holds it does, and that
-- only where the place is known as const.
abbrev pub Through : Context → PlaceTree → Bool → Option Temp → Type 0
Through c at own None = Unit {0}
Through c at own (Some x) = (is_const c at ≡ true → points_to_const (Some x.ty) ≡ true) × (points_to_const (Some x.ty) ≡ true → own ≡ true)

-- a place, which is known as const only where the flag allows it
pub record PlaceSaid (w : Setting) (fixed : Bool) (p : LoweredPlace) : Type 0 where
  pub stmts : AreSaid w p.stmts
  pub alone : place_stands p.place ≡ true
  pub keeps : is_const (context w) p.place ≡ true → p.fixed ≡ true
  pub own : p.fixed ≡ true → fixed ≡ true
  pub through : Through (context w) p.place p.fixed p.through

pub record ArgumentsSaid (w : Setting) (ps : List Param) (a : Arguments) : Type 0 where
  pub stmts : AreSaid w a.stmts
  pub passed : are_passed (context w) ps (expr_trees a.values) ≡ true

-- ---- truth values

pub or_right : (n a b : Bool) → b ≡ true → ((n && a) || b) ≡ true
or_right true true b h = refl
or_right true false b h = h
or_right false a b h = h

pub or_twice : (a b : Bool) → (a || b) ≡ true → ((a && a) || b) ≡ true
or_twice true b h = refl
or_twice false b h = h

pub allowed : (n a b : Bool) → ((n && a) || b) ≡ true → (a || b) ≡ true
allowed true a b h = h
allowed false a b h = or_so a b h

pub not_const : (a b : Bool) → (a ≡ true → b ≡ true) → b ≡ false → a ≡ false
not_const false b h e = refl
not_const true b h e = sym (h refl) ∙ e

stored_by : (n a b k : Bool) → ((n && a) || b) ≡ true → k ≡ true → (a || (b && k)) ≡ true
stored_by n true b k h i = refl
stored_by n false true k h i = i
stored_by true false false k h i = false_not_true h
stored_by false false false k h i = false_not_true h

-- ---- what is stored

keeps_both : (b : Bool) (t ty : VarTy) → (b ≡ true → points_to_const (Some ty) ≡ true) → keeps_const (with_const b t) ty ≡ true
keeps_both b (Int t) ty h = refl
keeps_both b (Struct n) ty h = refl
keeps_both b (Array elem count) ty h = refl
keeps_both b (Pointer elem f) (Int t) h = refl
keeps_both b (Pointer elem f) (Struct n) h = refl
keeps_both b (Pointer elem f) (Array e count) h = refl
keeps_both true (Pointer elem f) (Pointer e g) h = h refl
keeps_both false (Pointer elem f) (Pointer e g) h = refl

pub stored_said : (c : Context) (nul : Bool) (ty : VarTy) (a : ExprTree) → ((nul && is_null a) || stands a) ≡ true → Keeps c a ty → is_stored c ty a ≡ true
stored_said c nul ty a h k = stored_by nul (is_null a) (stands a) (keeps_const (c_type c a) ty) h (keeps_both (points_const c a) (type_of c a) ty k)

pub assign_said : (w : Setting) (nul : Bool) (p : PlaceTree) (ty : VarTy) (a : ExprTree) → place_stands p ≡ true → is_const (context w) p ≡ false → place_type (context w) p ≡ ty → ((nul && is_null a) || stands a) ≡ true → Keeps (context w) a ty → is_said (context w) w.called (assign p a) ≡ true
assign_said w nul p ty a stand free is h k =
    both_hold (place_stands p) (not (is_const (context w) p) && is_stored (context w) (place_type (context w) p) a) stand
    (both_hold (not (is_const (context w) p)) (is_stored (context w) (place_type (context w) p) a) (not_from_false (is_const (context w) p) free)
    (subst (λ z. is_stored (context w) z a ≡ true) (sym is) (stored_said (context w) nul ty a h k)))

-- ---- lists of statements

pub said_both : (w : Setting) (xs ys : List StmtTree) → AreSaid w xs → AreSaid w ys → AreSaid w (xs ++ ys)
said_both w [] ys h k = k
said_both w (x ∷ xs) ys h k = (h.0, said_both w xs ys h.1 k)

-- statements, and one behind them
pub one_more : (w : Setting) (xs : List StmtTree) (x : StmtTree) → AreSaid w xs → is_said (context w) w.called x ≡ true → AreSaid w (xs ++ x ∷ [])
one_more w xs x h k = said_both w xs (x ∷ []) h (k, tt)

pub trees_said : (w : Setting) (xs : List StmtTree) → AreSaid w xs → are_said (context w) w.called (stmt_trees xs) ≡ true
trees_said w [] h = refl
trees_said w (x ∷ xs) h = both_hold (is_said (context w) w.called x) (are_said (context w) w.called (stmt_trees xs)) h.0 (trees_said w xs h.1)

pub choose_said : (w : Setting) (nul : Bool) (a : ExprTree) (xs ys : List StmtTree) → ((nul && is_null a) || stands a) ≡ true → AreSaid w xs → AreSaid w ys → is_said (context w) w.called (choose a (stmt_trees xs) (stmt_trees ys)) ≡ true
choose_said w nul a xs ys h k i =
    both_hold (is_null a || stands a) (are_said (context w) w.called (stmt_trees xs) && are_said (context w) w.called (stmt_trees ys)) (allowed nul (is_null a) (stands a) h)
    (both_hold (are_said (context w) w.called (stmt_trees xs)) (are_said (context w) w.called (stmt_trees ys)) (trees_said w xs k) (trees_said w ys i))

-- ---- temporaries

pub temp_keeps : (w : Setting) (k : ℕ) (ty : VarTy) → slice_get w.variables k ≡ Some ty → Keeps (context w) (temp k) ty
temp_keeps w k ty h e = subst (λ z. points_to_const (Some z) ≡ true) (get_or_from_slice_get w.variables k ty (Int i.Int) h) e

pub hold_said : (w : Setting) (nul : Bool) (k : ℕ) (ty : VarTy) (a : ExprTree) → slice_get w.variables k ≡ Some ty → ((nul && is_null a) || stands a) ≡ true → Keeps (context w) a ty → is_said (context w) w.called (hold k a) ≡ true
hold_said w nul k ty a h alone keeps = assign_said w nul (temp_place k) ty a refl refl (get_or_from_slice_get w.variables k ty (Int i.Int) h) alone keeps

-- ---- values

pub weaker : (w : Setting) (nul : Bool) (ty : VarTy) (v : Lowered) → LoweredSaid w false ty v → LoweredSaid w nul ty v
weaker w nul ty v h = record { stmts = h.stmts; alone = or_right nul (is_null v.value) (stands v.value) h.alone; keeps = h.keeps }

pub said_as : (w : Setting) (nul : Bool) (a b : VarTy) (v : Lowered) → a ≡ b → LoweredSaid w nul a v → LoweredSaid w nul b v
said_as w nul a b v e h = subst (λ z. LoweredSaid w nul z v) e h

pub held_said : (w : Setting) (nul : Bool) (ty : VarTy) (n : ℕ) (x : Temp) (v : Lowered) → x.ty ≡ ty → (Stand w.variables n v.temps → LoweredSaid w nul ty v) → Stand w.variables n (held n x v).temps → LoweredSaid w false ty (held n x v)
held_said w nul ty n x v is h stand =
    let all = h (stand_first w.variables n v.temps (x ∷ []) stand) in
    let here : slice_get w.variables (past n v.temps) ≡ Some ty = (stand_rest w.variables n v.temps (x ∷ []) stand).0 ∙ ap Some is in
    record {
      stmts = one_more w v.stmts (hold (past n v.temps) v.value) all.stmts (hold_said w nul (past n v.temps) ty v.value here all.alone all.keeps);
      alone = refl;
      keeps = temp_keeps w (past n v.temps) ty here;
    }

pub held_if_said : (b : Bool) (w : Setting) (nul : Bool) (ty : VarTy) (n : ℕ) (x : Temp) (v : Lowered) → x.ty ≡ ty → (Stand w.variables n v.temps → LoweredSaid w nul ty v) → Stand w.variables n (held_if b n x v).temps → LoweredSaid w nul ty (held_if b n x v)
held_if_said true w nul ty n x v is h stand = weaker w nul ty (held n x v) (held_said w nul ty n x v is h stand)
held_if_said false w nul ty n x v is h stand = h stand
