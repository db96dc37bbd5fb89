-- Places are judged without fault, and designate what the normal form's do.
use Rattle.std.proofs.Common.{◌≡◌, ◌∙◌, ℕ, refl, ap, sym, subst, Bool, true, false, Option, Some, None, List, [], ◌∷◌, ◌++◌, Ok, Err, if◌then◌else◌, arith}
use Rattle.std.specs.Prelude.{IsTrue, nat_lt, nat_eq, length, is_some, unwrap_or}
use Rattle.std.specs.Map.{lookup}
use Rattle.pt_base.specs.declared.span.Span.{Span}
use Rattle.pt_base.specs.declared.int_type.IntType.TheVariants as i
use Rattle.runs.specs.State.{◌>>=◌}
use Rattle.runs.specs.Pointers.{if_ok, cell_at}
use Rattle.pt_base.specs.declared.trap.Trap.TheVariants.{Bounds}
use Rattle.pt_base.proofs.Booleans.{both_hold_first, both_hold_second, true_not_false}
use Rattle.pt_base.proofs.Numbers.{below_holds}
use Rattle.pt_tree.specs.declared.operator.PrefixOp.TheVariants as p
use Rattle.pt_tree.specs.declared.signature.Elem.{Elem}
use Rattle.pt_tree.specs.declared.signature.Elem.TheVariants as el
use Rattle.pt_tree.specs.ExpressionTree as e
use Rattle.type_rules.specs.declared.types.Type.TheVariants as ty
use Rattle.type_rules.specs.Types.{elem_type}
use Rattle.type_rules.specs.Operators.{deref_rule}
use Rattle.typed_tree.specs.declared.types.VarTy.{VarTy}
use Rattle.typed_tree.specs.declared.types.VarTy.TheVariants as v
use Rattle.typed_tree.specs.ExpressionTree as t
use Rattle.typed_tree.specs.ExpressionTree.{place, step_trees, no_steps}
use Rattle.typed_tree.specs.Sizes.{sizes_of, elem_cells, fields_of}
use Rattle.typed_tree.specs.TypeTests.{type_of_elem, pointee_of}
use Rattle.check_declarations.specs.Structs.{Structs}
use Rattle.check_expressions.specs.Environment.{Env}
use Rattle.check_expressions.specs.Expressions.{Judged, alone, over, judge, named, named_as, meant, an_object, judge_postfixes, judge_postfix, postfix_span}
use Rattle.check_expressions.specs.Operands.{Known, Made, pointed, designated, fine, root_of, steps_of, read_tree, value_of, value_tree, span_of}
use Rattle.check_expressions.specs.Prefixes.{address_tree, prefixed, dereferenced, dereferenced_by, points_to_const}
use Rattle.check_expressions.specs.Postfixes.{arrow, arrow_as, part_by, is_called, is_call}
use Rattle.block_memory.specs.declared.cell.Cell as core
use Rattle.block_memory.specs.declared.cell.BlockName.{BlockName}
use Rattle.block_memory.specs.declared.cell.BlockName.TheVariants.{Global}
use Rattle.source_meaning.specs.Memory.{Block, Cell, number, null, pointer}
use Rattle.source_meaning.specs.State.{State}
use Rattle.source_meaning.specs.Values as m
use Rattle.source_meaning.specs.Expressions as x
use Rattle.pt_core.specs.CodeTree.{local, global, deref, PlaceTree, place as place_at, ExprTree}
use Rattle.pt_core.specs.Types.{type_at, global_type, field_type, path_type, pointee_type, type_of, place_type}
use Rattle.pt_core.specs.Values as w
use Rattle.pt_core.specs.Values.{Stop, ◌>>?◌, at_span}
use Rattle.pt_core.specs.WellFormedExpression.{is_field, is_path, is_addressed}
use Rattle.half_trees.specs.Names.{nowhere, word, local_name, global_name, field_by, field_name}
use Rattle.half_trees.specs.Expressions as h
use Rattle.half_trees.specs.Expressions.{dots, extended, postfixed}
use Rattle.half_meaning_law.specs.Relations.{Scene, context_of, name_of, core_cell, is_pointer, CellFits, reach_of}
use Rattle.half_meaning_law.specs.CForms.{is_const, points_const, with_const, c_type}
use Rattle.half_meaning_law.specs.Known.{type_as, object_as, local_id, global_id, VariableKnown, GlobalKnown, FieldKnown, Known as AllKnown}
use Rattle.half_meaning_law.specs.Expressions.{Evaluates, IsValue, IsPlace, SamePlaces, SameValues, asked, place_asked, ExpressionMeans, SceneFits}
use Rattle.half_meaning_law.proofs.Chains.{bind_gives, type_of_typed}
use Rattle.half_meaning_law.proofs.Operators.{ev_bind}
use Rattle.half_meaning_law.proofs.Judged.{no_faults, NotCalled, IsNoChain, Held}
use Rattle.half_meaning_law.proofs.Places.{Asks, ObjectMeans, asked_as, with_field, field_means, no_reach}
use Rattle.half_meaning_law.proofs.Paths.{JudgedObject, path_means, whole_after, then_along, along_none, along_more, FineAnd, extended_behind, extended_shape, extended_no_chain}

-- ---- what the induction keeps of each place

pub record PlaceHeld (s : Scene) (env : Env) (structs : Structs) (q : PlaceTree) (tree : e.ExprTree) : Type 0 where
  pub means : JudgedObject s structs (place_type s.context q) (is_const s.context q) (is_addressed q) (place_asked s q) (judge env structs tree)
  pub no_chain : IsNoChain tree
  pub shape : NotCalled tree

-- ---- names

-- an object that is named
named_means : (s : Scene) (u : VarTy) (root : t.RootTree) (ask : Asks) → SamePlaces s u (place root no_steps) ask → ObjectMeans s u false true ask (an_object (object_as u) root)
unfolding read_tree address_tree root_of steps_of
named_means s u root ask same = record {
  typed = refl;
  designates = refl;
  fixed = refl;
  no_null = refl;
  reads = λ sp k f. refl;
  addressed = λ all sp el f. refl;
  same = same;
}

local_means : (s : Scene) (env : Env) (structs : Structs) (n : ℕ) → SceneFits s → VariableKnown s env n →
    JudgedObject s structs (type_at s.context.variables n) false true (λ blocks. w.root_location s.context s.frame.depth (local n) blocks) (judge env structs (e.name (word (local_name n))))
unfolding judge named named_as meant
local_means s env structs n fits known =
    subst (λ z. JudgedObject s structs (type_at s.context.variables n) false true asks (alone structs (named_as env nowhere z))) (sym known.named)
    (subst (λ z. JudgedObject s structs (type_at s.context.variables n) false true asks (alone structs (fine (an_object z (t.local (local_id n)))))) (sym known.object) (record {
      fine = record { faults = refl; structs_stay = refl };
      object = named_means s (type_at s.context.variables n) (t.local (local_id n)) asks (λ st st' al. (
        refl,
        record {
          block = refl;
          cell = refl;
          typed = refl;
          typed' = refl;
          fits = ap (λ z. reach_of s (type_at z n)) fits.own;
          near = omega arith;
        },
      ));
    }))
  where
    asks : Asks
    asks blocks = w.root_location s.context s.frame.depth (local n) blocks

global_means : (s : Scene) (env : Env) (structs : Structs) (g : ℕ) (u : VarTy) → global_type s.context g ≡ u → GlobalKnown s env g u →
    JudgedObject s structs u false true (λ blocks. w.root_location s.context s.frame.depth (global g) blocks) (judge env structs (e.name (word (global_name g))))
unfolding judge named named_as meant
global_means s env structs g u is known =
    subst (λ z. JudgedObject s structs u false true asks (alone structs (named_as env nowhere z))) (sym known.named)
    (subst (λ z. JudgedObject s structs u false true asks (alone structs (fine (an_object z (t.global (global_id known.place)))))) (sym known.object) (record {
      fine = record { faults = refl; structs_stay = refl };
      object = named_means s u (t.global (global_id known.place)) asks (λ st st' al. (
        refl,
        record {
          block = ap Global (sym known.number);
          cell = refl;
          typed = known.typed;
          typed' = is;
          fits = sym (no_reach s u known.plain);
          near = omega arith;
        },
      ));
    }))
  where
    asks : Asks
    asks blocks = w.root_location s.context s.frame.depth (global g) blocks

-- a name and a path of fields
path_held : (s : Scene) (env : Env) (structs : Structs) (name : List ℕ) (u : VarTy) (asks : Asks) (path : List ℕ) → AllKnown s env structs → IsTrue (is_path s.context.structs u path) →
    JudgedObject s structs u false true asks (judge env structs (e.name (word name))) →
    JudgedObject s structs (path_type s.context.structs u path) false true (then_along s path asks) (judge env structs (postfixed (e.name (word name)) (dots s.context.structs u path)))
unfolding is_called is_call
path_held s env structs name u asks [] known ok h = record { fine = h.fine; object = asked_as s u false true asks (then_along s [] asks) _ (along_none s asks) h.object }
path_held s env structs name u asks (j ∷ path) known ok h =
    let r = extended_behind env structs (e.name (word name)) (dots s.context.structs u (j ∷ path)) (ObjectMeans s (path_type s.context.structs u (j ∷ path)) false true (then_along s (j ∷ path) asks)) tt refl h.fine
    (λ at. let d = path_means s env structs (j ∷ path) u false true asks (judge env structs (e.name (word name))).operand None at known.fields ok h.object in (d.fine, d.object)) in
    record { fine = r.0; object = r.1 }

dots_shape : (s : Scene) (name : List ℕ) (u : VarTy) (path : List ℕ) → NotCalled (postfixed (e.name (word name)) (dots s.context.structs u path))
unfolding is_call
dots_shape s name u [] = tt
dots_shape s name u (j ∷ path) = (refl, refl)

dots_no_chain : (s : Scene) (name : List ℕ) (u : VarTy) (path : List ℕ) → IsNoChain (postfixed (e.name (word name)) (dots s.context.structs u path))
dots_no_chain s name u [] = tt
dots_no_chain s name u (j ∷ path) = tt

-- ---- what pointers point to

pub elem_type_as : (elem : Elem) → elem_type elem ≡ type_as (type_of_elem elem)
elem_type_as (el.Int t) = refl
elem_type_as (el.Struct n) = refl

elem_plain : (elem : Elem) → is_pointer (type_of_elem elem) ≡ false
elem_plain (el.Int t) = refl
elem_plain (el.Struct n) = refl

-- an element that a cell points to
element_told : (s : Scene) (elem : Elem) (sp sp' : Span) (g : Bool) (cell : Cell) (st : State) → CellFits s (Some s.frame.depth) cell →
    Evaluates (IsPlace s (type_of_elem elem)) st (x.or_trap sp (x.dereferenced (context_of s) (v.Pointer elem g) cell) st) (w.pointee s.context sp' (v.Pointer elem g) (core_cell s cell))
element_told s elem sp sp' g (number n) st h = (refl, refl)
element_told s elem sp sp' g null st h = (refl, refl)
element_told s elem sp sp' g (pointer b base count index) st h = go (nat_lt index count)
  where
    size : ℕ
    size = elem_cells (sizes_of s.context.structs) elem

    go : (z : Bool) → Evaluates (IsPlace s (type_of_elem elem)) st (x.or_trap sp (if_ok {A = Block × ℕ} (if z then Ok (b, cell_at size base index) else Err Bounds) (x.object_at (type_of_elem elem))) st)
        (at_span {A = BlockName × ℕ} sp' (if z then Ok (name_of s b, cell_at size base index) else Err Bounds) >>? λ at. Ok (record { block = at.0; cell = at.1; ty = type_of_elem elem }))
    go true = (refl, record { block = refl; cell = refl; typed = refl; typed' = refl; fits = h.1 ∙ sym (no_reach s (type_of_elem elem) (elem_plain elem)); near = h.0 })
    go false = (refl, refl)

-- the place that a pointer gives
deref_same : (s : Scene) (a : ExprTree) (elem : Elem) (g f : Bool) (y : t.ExprTree) (sp sp' : Span) → type_of s.context a ≡ v.Pointer elem g → x.type_of y ≡ v.Pointer elem f → SameValues s (type_of s.context a) y (asked s a) →
    SamePlaces s (type_of_elem elem) (place (t.deref y sp) no_steps) (λ blocks. asked s a blocks >>? w.pointee s.context sp' (type_of s.context a))
deref_same s a elem g f y sp sp' is is' same st st' al =
    subst (λ o. Evaluates (IsPlace s (type_of_elem elem)) st o (asked s a st'.memory >>? w.pointee s.context sp' (type_of s.context a)))
    (sym (bind_gives (x.value_of y (context_of s) st >>= λ v. x.or_trap sp (x.dereferenced (context_of s) (x.type_of y) (m.cell_of v)))))
    (ev_bind (IsValue s (type_of s.context a)) (IsPlace s (type_of_elem elem)) st (x.value_of y (context_of s) st) (asked s a st'.memory) (λ v. x.or_trap sp (x.dereferenced (context_of s) (x.type_of y) (m.cell_of v)))
    (w.pointee s.context sp' (type_of s.context a)) (same st st' al) one)
  where
    one : (u : m.Value) (q : core.Cell) → IsValue s (type_of s.context a) u q → Evaluates (IsPlace s (type_of_elem elem)) st (x.or_trap sp (x.dereferenced (context_of s) (x.type_of y) (m.cell_of u)) st) (w.pointee s.context sp' (type_of s.context a) q)
    one u q h =
        subst (λ z. Evaluates (IsPlace s (type_of_elem elem)) st (x.or_trap sp (x.dereferenced (context_of s) (x.type_of y) (m.cell_of z)) st) (w.pointee s.context sp' (type_of s.context a) q)) (sym h.is)
        (subst (λ z. Evaluates (IsPlace s (type_of_elem elem)) st (x.or_trap sp (x.dereferenced (context_of s) (x.type_of y) h.cell) st) (w.pointee s.context sp' (type_of s.context a) z)) (sym h.same)
        (subst (λ z. Evaluates (IsPlace s (type_of_elem elem)) st (x.or_trap sp (x.dereferenced (context_of s) z h.cell) st) (w.pointee s.context sp' (type_of s.context a) (core_cell s h.cell))) (sym is')
        (subst (λ z. Evaluates (IsPlace s (type_of_elem elem)) st (x.or_trap sp (x.dereferenced (context_of s) (v.Pointer elem f) h.cell) st) (w.pointee s.context sp' z (core_cell s h.cell))) (sym is)
        (element_told s elem sp sp' g h.cell st (subst (λ z. CellFits s (reach_of s z) h.cell) is h.fits)))))

-- ---- `*` and `->`

-- what the pointer expression points to, as an operand
abbrev pointed_to : Elem → Bool → t.ExprTree → Span → Known
pointed_to elem f y sp = designated (elem_type elem) f (pointed y sp)

c_pointer : (s : Scene) (a : ExprTree) (elem : Elem) (g : Bool) → type_of s.context a ≡ v.Pointer elem g → c_type s.context a ≡ v.Pointer elem (points_const s.context a)
c_pointer s a elem g is = ap (with_const (points_const s.context a)) is

pointed_means : (s : Scene) (structs : Structs) (a : ExprTree) (j : Judged) (elem : Elem) (g : Bool) (at sp sp' : Span) → ExpressionMeans s structs a j → type_of s.context a ≡ v.Pointer elem g →
    ObjectMeans s (type_of_elem elem) (points_const s.context a) false (λ blocks. asked s a blocks >>? w.pointee s.context sp' (type_of s.context a)) (pointed_to elem (points_const s.context a) (value_tree at j.operand) sp)
unfolding read_tree root_of steps_of
pointed_means s structs a j elem g at sp sp' h is = record {
  typed = elem_type_as elem;
  designates = refl;
  fixed = refl;
  no_null = refl;
  reads = λ sp1 k f. refl;
  addressed = λ all. true_not_false (sym all);
  same = deref_same s a elem g (points_const s.context a) (value_tree at j.operand) sp sp' is (type_of_typed (value_tree at j.operand) (v.Pointer elem (points_const s.context a)) (h.tree at ∙ ap Some (c_pointer s a elem g is))) (h.same at);
}

-- the judged type of a pointer
judged_pointer : (s : Scene) (structs : Structs) (a : ExprTree) (j : Judged) (elem : Elem) (g : Bool) → ExpressionMeans s structs a j → type_of s.context a ≡ v.Pointer elem g → (value_of j.operand).ty ≡ ty.Pointer elem (points_const s.context a)
judged_pointer s structs a j elem g h is = h.typed ∙ ap type_as (c_pointer s a elem g is)

deref_is : (structs : Structs) (k : Known) (elem : Elem) (f : Bool) (sp at : Span) → (value_of k).ty ≡ ty.Pointer elem f → prefixed structs p.Dereference sp at k ≡ fine (pointed_to elem f (value_tree at k) sp)
unfolding prefixed dereferenced dereferenced_by deref_rule points_to_const
deref_is structs k elem f sp at is = ap (λ z. dereferenced_by (deref_rule z) (points_to_const z) sp at (value_tree at k)) is

star_means : (s : Scene) (env : Env) (structs : Structs) (a : ExprTree) (ta : e.ExprTree) (elem : Elem) (g : Bool) (sp : Span) → Held s env structs a ta → type_of s.context a ≡ v.Pointer elem g →
    JudgedObject s structs (type_of_elem elem) (points_const s.context a) false (λ blocks. asked s a blocks >>? w.pointee s.context sp (type_of s.context a)) (judge env structs (e.prefix nowhere p.Dereference ta))
unfolding judge
star_means s env structs a ta elem g sp held is =
    subst (λ (z : Made). JudgedObject s structs (type_of_elem elem) (points_const s.context a) false (λ blocks. asked s a blocks >>? w.pointee s.context sp (type_of s.context a)) (over q.faults q.structs z))
    (sym (deref_is q.structs q.operand elem (points_const s.context a) nowhere (span_of ta) (judged_pointer s structs a q elem g held.means is))) (record {
      fine = record { faults = no_faults q.faults [] held.means.fine.faults refl; structs_stay = held.means.fine.structs_stay };
      object = pointed_means s structs a q elem g (span_of ta) nowhere sp held.means is;
    })
  where
    q : Judged
    q = judge env structs ta

arrow_is : (s : Scene) (structs : Structs) (n j : ℕ) (k : Known) (f : Bool) (sp at : Span) (known : FieldKnown s structs n j) → (value_of k).ty ≡ ty.Pointer (el.Struct n) f →
    arrow structs sp (word (field_by (fields_of s.context.structs n) j)) at k ≡ fine (with_field (pointed_to (el.Struct n) f (value_tree at k) sp) (record { number = j; entry = known.entry }))
unfolding arrow arrow_as part_by root_of steps_of
arrow_is s structs n j k f sp at known is =
    ap (λ z. arrow_as z structs sp (word (field_by (fields_of s.context.structs n) j)) at (value_tree at k)) is
    ∙ ap (λ z. part_by z (word (field_by (fields_of s.context.structs n) j)) f true (t.deref (value_tree at k) sp) []) known.named

arrow_means : (s : Scene) (env : Env) (structs : Structs) (a : ExprTree) (ta : e.ExprTree) (n : ℕ) (g : Bool) (sp : Span) (j : ℕ) (path : List ℕ) → AllKnown s env structs → IsTrue (is_path s.context.structs (v.Struct n) (j ∷ path)) → Held s env structs a ta →
    type_of s.context a ≡ v.Pointer (el.Struct n) g →
    JudgedObject s structs (path_type s.context.structs (v.Struct n) (j ∷ path)) (points_const s.context a) true (then_along s (j ∷ path) (λ blocks. asked s a blocks >>? w.pointee s.context sp (type_of s.context a)))
    (judge env structs (extended ta (e.arrow nowhere (word (field_name s.context.structs (v.Struct n) j)) ∷ dots s.context.structs (field_type s.context.structs (v.Struct n) j) path)))
unfolding judge_postfixes judge_postfix is_called is_call postfix_span
arrow_means s env structs a ta n g sp j path known ok held is =
    let r = extended_behind env structs ta (e.arrow nowhere (word (field_name s.context.structs (v.Struct n) j)) ∷ dots s.context.structs (field_type s.context.structs (v.Struct n) j) path) P held.shape refl held.means.fine
    (λ at. subst (λ (z : Made). FineAnd structs P (behind z)) (sym (arrow_is s structs n j q.operand (points_const s.context a) nowhere at f (judged_pointer s structs a q (el.Struct n) g held.means is))) (later at)) in
    record { fine = r.0; object = r.1 }
  where
    q : Judged
    q = judge env structs ta

    asks : Asks
    asks blocks = asked s a blocks >>? w.pointee s.context sp (type_of s.context a)

    P : Known → Type 0
    P = ObjectMeans s (path_type s.context.structs (v.Struct n) (j ∷ path)) (points_const s.context a) true (then_along s (j ∷ path) asks)

    f : FieldKnown s structs n j
    f = known.fields n j (below_holds j (length (fields_of s.context.structs n)) (both_hold_first (is_field s.context.structs (v.Struct n) j) (is_path s.context.structs (field_type s.context.structs (v.Struct n) j) path) ok))

    behind : Made → Judged
    behind z =
        let r = judge_postfixes env structs nowhere None nowhere z.operand (e.postfix_trees (dots s.context.structs (field_type s.context.structs (v.Struct n) j) path)) in
        record { operand = r.operand; structs = r.structs; faults = z.faults ++ r.faults }

    all : {u : VarTy} {k : Bool} {qs : Asks} {o : Known} (ks : List ℕ) → ObjectMeans s u k (whole_after true ks) qs o → ObjectMeans s u k true qs o
    all [] z = z
    all (i ∷ ks) z = z

    later : (at : Span) → FineAnd structs P (behind (fine (with_field (pointed_to (el.Struct n) (points_const s.context a) (value_tree at q.operand) nowhere) (record { number = j; entry = f.entry }))))
    later at =
        let d = path_means s env structs path (field_type s.context.structs (v.Struct n) j) (points_const s.context a) true (λ b. asks b >>? λ at. Ok (w.field_at s.context j at))
        (with_field (pointed_to (el.Struct n) (points_const s.context a) (value_tree at q.operand) nowhere) (record { number = j; entry = f.entry })) None nowhere known.fields
        (both_hold_second (is_field s.context.structs (v.Struct n) j) (is_path s.context.structs (field_type s.context.structs (v.Struct n) j) path) ok)
        (field_means s structs n j (points_const s.context a) false asks (pointed_to (el.Struct n) (points_const s.context a) (value_tree at q.operand) nowhere) f (pointed_means s structs a q (el.Struct n) g at nowhere sp held.means is)) in
        (record { faults = d.fine.faults; structs_stay = d.fine.structs_stay }, asked_as s (path_type s.context.structs (v.Struct n) (j ∷ path)) (points_const s.context a) true (then_along s path (λ b. asks b >>? λ at. Ok (w.field_at s.context j at))) (then_along s (j ∷ path) asks) _ (along_more s j path asks) (all path d.object))

-- ---- all places

pub pointer_type : (u : VarTy) → IsTrue (is_some (pointee_of (Some u))) → (elem : Elem) × (g : Bool) × (u ≡ v.Pointer elem g)
pointer_type (v.Int t) h = true_not_false (sym h)
pointer_type (v.Struct n) h = true_not_false (sym h)
pointer_type (v.Array elem count) h = true_not_false (sym h)
pointer_type (v.Pointer elem g) h = (elem, g, refl)

pub local_held : (s : Scene) (env : Env) (structs : Structs) (n : ℕ) (path : List ℕ) → SceneFits s → AllKnown s env structs → IsTrue (nat_lt n (length s.context.variables)) → IsTrue (is_path s.context.structs (type_at s.context.variables n) path) →
    PlaceHeld s env structs (place_at (local n) path) (h.root_tree s.context (local n) path)
local_held s env structs n path fits known near ok = record {
  means = path_held s env structs (local_name n) (type_at s.context.variables n) (λ blocks. w.root_location s.context s.frame.depth (local n) blocks) path known ok
      (local_means s env structs n fits (known.variables n (below_holds n (length s.context.variables) near)));
  no_chain = dots_no_chain s (local_name n) (type_at s.context.variables n) path;
  shape = dots_shape s (local_name n) (type_at s.context.variables n) path;
}

pub global_held : (s : Scene) (env : Env) (structs : Structs) (g : ℕ) (path : List ℕ) → AllKnown s env structs → IsTrue (is_some (lookup (nat_eq g) s.context.globals)) → IsTrue (is_path s.context.structs (global_type s.context g) path) →
    PlaceHeld s env structs (place_at (global g) path) (h.root_tree s.context (global g) path)
global_held s env structs g path known there ok = record {
  means = path_held s env structs (global_name g) (global_type s.context g) (λ blocks. w.root_location s.context s.frame.depth (global g) blocks) path known ok
      (global_means s env structs g (global_type s.context g) refl (found (lookup (nat_eq g) s.context.globals) refl there));
  no_chain = dots_no_chain s (global_name g) (global_type s.context g) path;
  shape = dots_shape s (global_name g) (global_type s.context g) path;
}
  where
    found : (z : Option VarTy) → lookup (nat_eq g) s.context.globals ≡ z → IsTrue (is_some z) → GlobalKnown s env g (unwrap_or z (v.Int i.Int))
    found None e h = true_not_false (sym h)
    found (Some u) e h = known.globals g u e

-- behind a pointer to elements
behind_pointer : (s : Scene) (env : Env) (structs : Structs) (a : ExprTree) (ta : e.ExprTree) (elem : Elem) (g : Bool) (sp : Span) (path : List ℕ) → AllKnown s env structs → IsTrue (is_path s.context.structs (type_of_elem elem) path) → Held s env structs a ta →
    type_of s.context a ≡ v.Pointer elem g →
    JudgedObject s structs (path_type s.context.structs (type_of_elem elem) path) (points_const s.context a) (is_addressed (place_at (deref a sp) path)) (then_along s path (λ blocks. asked s a blocks >>? w.pointee s.context sp (type_of s.context a)))
    (judge env structs (h.pointed s.context.structs (type_of_elem elem) ta path))
behind_pointer s env structs a ta elem g sp [] known ok held is =
    let d = star_means s env structs a ta elem g sp held is in
    record { fine = d.fine; object = asked_as s (type_of_elem elem) (points_const s.context a) false asks (then_along s [] asks) _ (along_none s asks) d.object }
  where
    asks : Asks
    asks blocks = asked s a blocks >>? w.pointee s.context sp (type_of s.context a)
behind_pointer s env structs a ta (el.Int t) g sp (j ∷ path) known ok held is = true_not_false (sym ok)
behind_pointer s env structs a ta (el.Struct n) g sp (j ∷ path) known ok held is = arrow_means s env structs a ta n g sp j path known ok held is

pointed_shape : (s : Scene) (u : VarTy) (ta : e.ExprTree) (path : List ℕ) → NotCalled ta → NotCalled (h.pointed s.context.structs u ta path)
unfolding is_call
pointed_shape s u ta [] shape = tt
pointed_shape s u ta (j ∷ path) shape = extended_shape ta (e.arrow nowhere (word (field_name s.context.structs u j)) ∷ dots s.context.structs (field_type s.context.structs u j) path) shape refl

pointed_no_chain : (s : Scene) (u : VarTy) (ta : e.ExprTree) (path : List ℕ) → IsNoChain (h.pointed s.context.structs u ta path)
pointed_no_chain s u ta [] = tt
pointed_no_chain s u ta (j ∷ path) = extended_no_chain ta (e.arrow nowhere (word (field_name s.context.structs u j)) ∷ dots s.context.structs (field_type s.context.structs u j) path)

pub deref_held : (s : Scene) (env : Env) (structs : Structs) (a : ExprTree) (sp : Span) (path : List ℕ) → AllKnown s env structs → IsTrue (is_some (pointee_of (Some (type_of s.context a)))) → IsTrue (is_path s.context.structs (pointee_type (type_of s.context a)) path) →
    Held s env structs a (h.expression_tree s.context a) → PlaceHeld s env structs (place_at (deref a sp) path) (h.root_tree s.context (deref a sp) path)
deref_held s env structs a sp path known points ok held = record {
  means = go (pointer_type (type_of s.context a) points);
  no_chain = pointed_no_chain s (pointee_type (type_of s.context a)) (h.expression_tree s.context a) path;
  shape = pointed_shape s (pointee_type (type_of s.context a)) (h.expression_tree s.context a) path held.shape;
}
  where
    go : (elem : Elem) × (g : Bool) × (type_of s.context a ≡ v.Pointer elem g) →
        JudgedObject s structs (place_type s.context (place_at (deref a sp) path)) (is_const s.context (place_at (deref a sp) path)) (is_addressed (place_at (deref a sp) path)) (place_asked s (place_at (deref a sp) path)) (judge env structs (h.root_tree s.context (deref a sp) path))
    go t =
        subst (λ z. JudgedObject s structs (path_type s.context.structs (pointee_type z) path) (points_const s.context a) (is_addressed (place_at (deref a sp) path)) (place_asked s (place_at (deref a sp) path)) (judge env structs (h.pointed s.context.structs (pointee_type z) (h.expression_tree s.context a) path))) (sym t.2)
        (behind_pointer s env structs a (h.expression_tree s.context a) t.0 t.1 sp path known (subst (λ z. IsTrue (is_path s.context.structs (pointee_type z) path)) t.2 ok) held t.2)
