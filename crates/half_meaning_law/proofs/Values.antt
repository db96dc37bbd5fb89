-- Values that are read, taken as pointers, or computed by an operator before its operand.
use Rattle.std.proofs.Common.{◌≡◌, ◌∙◌, ℕ, pos, refl, ap, sym, subst, Bool, true, false, Option, Some, [], ◌∷◌, Ok, if◌then◌else◌}
use Rattle.std.specs.Prelude.{IsTrue, is_some, slice_index_or}
use Rattle.pt_base.specs.declared.span.Span.{Span}
use Rattle.pt_base.proofs.Booleans.{true_not_false}
use Rattle.runs.specs.State.{gives}
use Rattle.pt_tree.specs.declared.operator.PrefixOp.TheVariants as p
use Rattle.pt_tree.specs.declared.signature.Elem.{Elem}
use Rattle.pt_tree.specs.declared.signature.Elem.TheVariants as el
use Rattle.pt_tree.specs.ExpressionTree as e
use Rattle.type_rules.specs.declared.types.Type.{«Type»}
use Rattle.type_rules.specs.declared.types.Type.TheVariants as ty
use Rattle.type_rules.specs.Types.{value_type}
use Rattle.typed_tree.specs.declared.types.VarTy.{VarTy}
use Rattle.typed_tree.specs.declared.types.VarTy.TheVariants as v
use Rattle.typed_tree.specs.ExpressionTree as t
use Rattle.typed_tree.specs.ExpressionTree.{typed}
use Rattle.typed_tree.specs.TypeTests.{is_scalar, points_to_const, item_of, element_of}
use Rattle.typed_tree.specs.WellFormedExpression.{ty_of}
use Rattle.check_declarations.specs.declared.fault.FaultKind.TheVariants.{NotLvalue}
use Rattle.check_declarations.specs.Faults.{fault_at}
use Rattle.check_declarations.specs.Structs.{Structs}
use Rattle.check_expressions.specs.Environment.{Env}
use Rattle.check_expressions.specs.Expressions.{Judged, over, judge}
use Rattle.check_expressions.specs.Operands.{Known, Made, fine, refused, plain, value_of, value_tree, read_tree, read_object, read_form, place_of, span_of, var_type}
use Rattle.check_expressions.specs.Prefixes.{prefixed, addressed, addressed_as, address_of, address_tree}
use Rattle.block_memory.specs.declared.cell.Cell.TheVariants.{Int, Ptr}
use Rattle.block_memory.specs.declared.cell.Pointer.TheVariants.{At}
use Rattle.source_meaning.specs.Memory.{pointer, read}
use Rattle.source_meaning.specs.State.{State}
use Rattle.source_meaning.specs.Values as m
use Rattle.source_meaning.specs.Values.{holds, cell_of, unary_cell}
use Rattle.source_meaning.specs.Expressions as x
use Rattle.pt_core.specs.CodeTree.{PlaceTree, read as read_of, address, decay}
use Rattle.pt_core.specs.Types as core_types
use Rattle.pt_core.specs.Types.{type_of, place_type}
use Rattle.pt_core.specs.Values as w
use Rattle.pt_core.specs.Values.{Stop, ◌>>?◌, at_span, numbered, cell_in}
use Rattle.pt_core.specs.Statements as c
use Rattle.pt_core.specs.WellFormedExpression.{is_addressed}
use Rattle.half_trees.specs.Names.{nowhere}
use Rattle.half_meaning_law.specs.Relations.{Scene, context_of, name_of, is_pointer, CellFits, Alike, reach_of}
use Rattle.half_meaning_law.specs.CForms.{is_const, with_const}
use Rattle.half_meaning_law.specs.Known.{type_as}
use Rattle.half_meaning_law.specs.Expressions.{IsValue, IsPlace, SamePlaces, SameValues, asked, place_asked, ExpressionMeans}
use Rattle.half_meaning_law.proofs.Chains.{var_type_as}
use Rattle.half_meaning_law.proofs.Memories.{map_get}
use Rattle.half_meaning_law.proofs.Operators.{ev_bind}
use Rattle.half_meaning_law.proofs.Judged.{no_faults, no_chain, Held}
use Rattle.half_meaning_law.proofs.Places.{ObjectMeans, no_reach}
use Rattle.half_meaning_law.proofs.PlaceLaw.{PlaceHeld}

-- ---- reading

-- the cell at a place
pub cell_same : (s : Scene) (u : VarTy) (st : State) (st' : c.State) (at : m.Location) (at' : w.Location) → Alike s st st' → IsPlace s u at at' → IsValue s u (holds (read st.memory at.block at.cell)) (cell_in st'.memory at')
cell_same s u st st' at at' al is = record {
  cell = read st.memory at.block at.cell;
  is = refl;
  same =
      ap (λ z. slice_index_or (st'.memory z).cells at'.cell (Int (pos 0))) is.block
      ∙ ap (λ z. slice_index_or (st'.memory (name_of s at.block)).cells z (Int (pos 0))) is.cell
      ∙ ap (λ z. slice_index_or z at.cell (Int (pos 0))) (al.blocks at.block)
      ∙ map_get s (st.memory at.block) at.cell;
  fits = subst (λ z. CellFits s z (read st.memory at.block at.cell)) is.fits (al.fits at.block at.cell);
}

loaded_is : (s : Scene) (u : VarTy) (st : State) (at : m.Location) → IsTrue (is_scalar (Some u)) → at.ty ≡ u → x.loaded (context_of s) at at.ty st ≡ holds (read st.memory at.block at.cell)
loaded_is s (v.Int t) st at ok is = ap (λ z. x.loaded (context_of s) at z st) is
loaded_is s (v.Pointer elem f) st at ok is = ap (λ z. x.loaded (context_of s) at z st) is
loaded_is s (v.Struct n) st at ok is = true_not_false (sym ok)
loaded_is s (v.Array elem count) st at ok is = true_not_false (sym ok)

-- what an object of this type is read as
pub read_same : (s : Scene) (u : VarTy) (y : t.PlaceTree) (q : PlaceTree) → IsTrue (is_scalar (Some u)) → SamePlaces s u y (place_asked s q) → (at : Span) (o : Option VarTy) → SameValues s u (typed at o (t.read y)) (asked s (read_of q))
read_same s u y q ok same at o st st' al =
    ev_bind (IsPlace s u) (IsValue s u) st (x.location_of y (context_of s) st) (place_asked s q st'.memory) (λ at st1. gives (x.loaded (context_of s) at at.ty st1) st1) (λ at. Ok (cell_in st'.memory at)) (same st st' al)
    (λ at at' is. (refl, subst (λ z. IsValue s u z (cell_in st'.memory at')) (sym (loaded_is s u st at ok is.typed)) (cell_same s u st st' at at' al is)))

-- the value of an object that is no array
value_scalar : (u : VarTy) (f : Bool) → IsTrue (is_scalar (Some u)) → value_type (type_as u) f ≡ type_as u
value_scalar (v.Int t) f ok = refl
value_scalar (v.Pointer elem g) f ok = refl
value_scalar (v.Struct n) f ok = true_not_false (sym ok)
value_scalar (v.Array elem count) f ok = true_not_false (sym ok)

scalar_const : (u : VarTy) → with_const (points_to_const (Some u)) u ≡ u
scalar_const (v.Int t) = refl
scalar_const (v.Struct n) = refl
scalar_const (v.Array elem count) = refl
scalar_const (v.Pointer elem f) = refl

scalar_form : (u : VarTy) (y : t.PlaceTree) → IsTrue (is_scalar (Some u)) → read_form (type_as u) y ≡ t.read y
unfolding read_form
scalar_form (v.Int t) y ok = refl
scalar_form (v.Pointer elem g) y ok = refl
scalar_form (v.Struct n) y ok = true_not_false (sym ok)
scalar_form (v.Array elem count) y ok = true_not_false (sym ok)

-- the tree of an object's value
tree_is : (u : VarTy) (k : Known) (at : Span) → k.ty ≡ type_as u → IsTrue (is_scalar (Some u)) → ((sp : Span) (z : «Type») (f : Bool) → read_tree sp z f k.tree ≡ read_object sp z f (place_of k.tree)) →
    value_tree at k ≡ typed at (Some u) (t.read (place_of k.tree))
unfolding value_tree
tree_is u k at is ok reads =
    reads at k.ty k.fixed
    ∙ ap (λ z. read_object at z k.fixed (place_of k.tree)) is
    ∙ ap (λ z. typed at (var_type z) (read_form (type_as u) (place_of k.tree))) (value_scalar u k.fixed ok)
    ∙ ap (λ z. typed at z (read_form (type_as u) (place_of k.tree))) (var_type_as u)
    ∙ ap (λ z. typed at (Some u) z) (scalar_form u (place_of k.tree) ok)

pub read_held : (s : Scene) (env : Env) (structs : Structs) (q : PlaceTree) (tree : e.ExprTree) → IsTrue (is_scalar (Some (place_type s.context q))) → PlaceHeld s env structs q tree → Held s env structs (read_of q) tree
unfolding value_of
read_held s env structs q tree ok held = record {
  means = record {
    fine = held.means.fine;
    typed = ap (λ z. value_type z k.fixed) o.typed ∙ value_scalar u k.fixed ok ∙ ap type_as (sym (scalar_const u));
    tree = λ at. ap ty_of (tree_is u k at o.typed ok o.reads) ∙ ap Some (sym (scalar_const u));
    plain = λ p. o.no_null;
    same = λ at. subst (λ z. SameValues s u z (asked s (read_of q))) (sym (tree_is u k at o.typed ok o.reads)) (read_same s u (place_of k.tree) q ok o.same at (Some u));
  };
  chain = no_chain s env structs (read_of q) tree held.no_chain;
  shape = held.shape;
}
  where
    u : VarTy
    u = place_type s.context q

    k : Known
    k = (judge env structs tree).operand

    o : ObjectMeans s u (is_const s.context q) (is_addressed q) (place_asked s q) k
    o = held.means.object

-- ---- arrays as pointers

array_type : (u : VarTy) → IsTrue (is_some (item_of (Some u))) → (elem : Elem) × (count : ℕ) × (u ≡ v.Array elem count)
array_type (v.Int t) h = true_not_false (sym h)
array_type (v.Struct n) h = true_not_false (sym h)
array_type (v.Array elem count) h = (elem, count, refl)
array_type (v.Pointer elem g) h = true_not_false (sym h)

array_tree : (k : Known) (elem : Elem) (count : ℕ) (at : Span) → k.ty ≡ ty.Array elem count → ((sp : Span) (z : «Type») (f : Bool) → read_tree sp z f k.tree ≡ read_object sp z f (place_of k.tree)) →
    value_tree at k ≡ typed at (Some (v.Pointer elem k.fixed)) (t.decay (place_of k.tree))
unfolding value_tree read_form var_type
array_tree k elem count at is reads = reads at k.ty k.fixed ∙ ap (λ z. read_object at z k.fixed (place_of k.tree)) is

decayed_same : (s : Scene) (u : VarTy) (elem : Elem) (count : ℕ) (st : State) (at : m.Location) (at' : w.Location) → u ≡ v.Array elem count → IsPlace s u at at' → IsValue s (v.Pointer elem false) (holds (x.decayed at at.ty)) (w.decayed at' at'.ty)
decayed_same s u elem count st at at' is h =
    subst (λ z. IsValue s (v.Pointer elem false) (holds (x.decayed at z)) (w.decayed at' at'.ty)) (sym (h.typed ∙ is))
    (subst (λ z. IsValue s (v.Pointer elem false) (holds (x.decayed at (v.Array elem count))) (w.decayed at' z)) (sym (h.typed' ∙ is)) (record {
      cell = pointer at.block at.cell count 0;
      is = refl;
      same = ap (λ z. Ptr (At z at'.cell count 0)) h.block ∙ ap (λ z. Ptr (At (name_of s at.block) z count 0)) h.cell;
      fits = (h.near, h.fits ∙ ap (reach_of s) is);
    }))

decay_same : (s : Scene) (u : VarTy) (elem : Elem) (count : ℕ) (y : t.PlaceTree) (q : PlaceTree) (at : Span) (o : Option VarTy) → u ≡ v.Array elem count → SamePlaces s u y (place_asked s q) → SameValues s (v.Pointer elem false) (typed at o (t.decay y)) (asked s (decay q))
decay_same s u elem count y q at o is same st st' al =
    ev_bind (IsPlace s u) (IsValue s (v.Pointer elem false)) st (x.location_of y (context_of s) st) (place_asked s q st'.memory) (λ at. gives (holds (x.decayed at at.ty))) (λ at. Ok (w.decayed at at.ty)) (same st st' al)
    (λ at at' h. (refl, decayed_same s u elem count st at at' is h))

pub decay_held : (s : Scene) (env : Env) (structs : Structs) (q : PlaceTree) (tree : e.ExprTree) → IsTrue (is_some (item_of (Some (place_type s.context q)))) → PlaceHeld s env structs q tree → Held s env structs (decay q) tree
unfolding value_of
decay_held s env structs q tree ok held = go (array_type (place_type s.context q) ok)
  where
    k : Known
    k = (judge env structs tree).operand

    o : ObjectMeans s (place_type s.context q) (is_const s.context q) (is_addressed q) (place_asked s q) k
    o = held.means.object

    go : (elem : Elem) × (count : ℕ) × (place_type s.context q ≡ v.Array elem count) → Held s env structs (decay q) tree
    go a =
        let is : k.ty ≡ ty.Array a.0 a.1 = o.typed ∙ ap type_as a.2 in
        let element : core_types.element_of (place_type s.context q) ≡ a.0 = ap core_types.element_of a.2 in
        record {
          means = record {
            fine = held.means.fine;
            typed = ap (λ z. value_type z k.fixed) is ∙ ap (λ z. ty.Pointer a.0 z) o.fixed ∙ ap (λ z. ty.Pointer z (is_const s.context q)) (sym element);
            tree = λ at. ap ty_of (array_tree k a.0 a.1 at is o.reads) ∙ ap (λ z. Some (v.Pointer a.0 z)) o.fixed ∙ ap (λ z. Some (v.Pointer z (is_const s.context q))) (sym element);
            plain = λ p. o.no_null;
            same = λ at. subst (λ z. SameValues s (v.Pointer z false) (value_tree at k) (asked s (decay q))) (sym element)
                (subst (λ z. SameValues s (v.Pointer a.0 false) z (asked s (decay q))) (sym (array_tree k a.0 a.1 at is o.reads))
                (decay_same s (place_type s.context q) a.0 a.1 (place_of k.tree) q at (Some (v.Pointer a.0 k.fixed)) a.2 o.same));
          };
          chain = no_chain s env structs (decay q) tree held.no_chain;
          shape = held.shape;
        }

-- ---- `&`

-- an object that `&` may stand before
single_type : (u : VarTy) → IsTrue (is_some (element_of (Some u))) → (elem : Elem) × (core_types.element_of u ≡ elem) × (is_pointer u ≡ false) × ((s at : Span) (k : Known) → k.designates ≡ true → addressed_as (type_as u) s at k ≡ fine (plain (ty.Pointer elem k.fixed) (address_tree s elem k.fixed k.tree)))
unfolding addressed_as address_of
single_type (v.Int t) h = (el.Int t, refl, refl, λ s at k d. ap (λ z. if z then fine (plain (ty.Pointer (el.Int t) k.fixed) (address_tree s (el.Int t) k.fixed k.tree)) else refused (fault_at NotLvalue at ∷ [])) d)
single_type (v.Struct n) h = (el.Struct n, refl, refl, λ s at k d. ap (λ z. if z then fine (plain (ty.Pointer (el.Struct n) k.fixed) (address_tree s (el.Struct n) k.fixed k.tree)) else refused (fault_at NotLvalue at ∷ [])) d)
single_type (v.Array elem count) h = true_not_false (sym h)
single_type (v.Pointer elem g) h = true_not_false (sym h)

address_same : (s : Scene) (u : VarTy) (elem : Elem) (y : t.PlaceTree) (q : PlaceTree) (at : Span) (o : Option VarTy) → is_pointer u ≡ false → SamePlaces s u y (place_asked s q) → SameValues s (v.Pointer elem false) (typed at o (t.address y)) (asked s (address q))
address_same s u elem y q at o is same st st' al =
    ev_bind (IsPlace s u) (IsValue s (v.Pointer elem false)) st (x.location_of y (context_of s) st) (place_asked s q st'.memory) (λ at. gives (holds (x.address_of at))) (λ at. Ok (Ptr (At at.block at.cell 1 0))) (same st st' al)
    (λ at at' h. (
      refl,
      record {
        cell = pointer at.block at.cell 1 0;
        is = refl;
        same = ap (λ z. Ptr (At z at'.cell 1 0)) h.block ∙ ap (λ z. Ptr (At (name_of s at.block) z 1 0)) h.cell;
        fits = (h.near, h.fits ∙ no_reach s u is);
      },
    ))

pub address_held : (s : Scene) (env : Env) (structs : Structs) (q : PlaceTree) (tree : e.ExprTree) → IsTrue (is_addressed q) → IsTrue (is_some (element_of (Some (place_type s.context q)))) → PlaceHeld s env structs q tree →
    Held s env structs (address q) (e.prefix nowhere p.AddressOf tree)
unfolding judge prefixed addressed value_of value_tree read_tree var_type
address_held s env structs q tree whole ok held = record {
  means = subst (λ (z : Made). ExpressionMeans s structs (address q) (over j.faults j.structs z)) (sym (ap (λ z. addressed_as z nowhere (span_of tree) k) o.typed ∙ a.3 nowhere (span_of tree) k o.designates)) (record {
    fine = record { faults = no_faults j.faults [] held.means.fine.faults refl; structs_stay = held.means.fine.structs_stay };
    typed = ap (λ z. ty.Pointer a.0 z) o.fixed ∙ ap (λ z. ty.Pointer z (is_const s.context q)) (sym a.1);
    tree = λ at. ap ty_of (o.addressed whole nowhere a.0 k.fixed) ∙ ap (λ z. Some (v.Pointer a.0 z)) o.fixed ∙ ap (λ z. Some (v.Pointer z (is_const s.context q))) (sym a.1);
    plain = λ p. refl;
    same = λ at. subst (λ z. SameValues s (v.Pointer z false) (address_tree nowhere a.0 k.fixed k.tree) (asked s (address q))) (sym a.1)
        (subst (λ z. SameValues s (v.Pointer a.0 false) z (asked s (address q))) (sym (o.addressed whole nowhere a.0 k.fixed)) (address_same s (place_type s.context q) a.0 (place_of k.tree) q nowhere (Some (v.Pointer a.0 k.fixed)) a.2 o.same));
  });
  chain = tt;
  shape = tt;
}
  where
    j : Judged
    j = judge env structs tree

    k : Known
    k = j.operand

    o : ObjectMeans s (place_type s.context q) (is_const s.context q) (is_addressed q) (place_asked s q) k
    o = held.means.object

    a : (elem : Elem) × (core_types.element_of (place_type s.context q) ≡ elem) × (is_pointer (place_type s.context q) ≡ false) × ((sp at : Span) (g : Known) → g.designates ≡ true → addressed_as (type_as (place_type s.context q)) sp at g ≡ fine (plain (ty.Pointer elem g.fixed) (address_tree sp elem g.fixed g.tree)))
    a = single_type (place_type s.context q) ok
