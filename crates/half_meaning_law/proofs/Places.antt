-- Places: names, fields, and what pointers point to.
use Rattle.std.proofs.Common.{◌≡◌, ◌∙◌, ℕ, refl, ap, sym, subst, Bool, true, false, Some, List, [], ◌∷◌, ◌++◌, Result, Ok, None}
use Rattle.std.specs.Prelude.{◌+◌, ◌||◌}
use Rattle.pt_base.specs.declared.span.Span.{Span}
use Rattle.pt_base.proofs.Booleans.{true_not_false}
use Rattle.runs.specs.State as r
use Rattle.runs.specs.State.{gives, trapped, spent, ◌>>=◌}
use Rattle.pt_tree.specs.declared.signature.Elem.{Elem}
use Rattle.type_rules.specs.declared.types.Type.{«Type»}
use Rattle.type_rules.specs.declared.types.Type.TheVariants as ty
use Rattle.typed_tree.specs.declared.types.VarTy.{VarTy}
use Rattle.typed_tree.specs.declared.types.VarTy.TheVariants as v
use Rattle.typed_tree.specs.ExpressionTree as t
use Rattle.typed_tree.specs.ExpressionTree.{place, step_trees, field}
use Rattle.typed_tree.specs.Sizes.{fields_of}
use Rattle.check_declarations.specs.declared.structs.FoundField.{FoundField}
use Rattle.check_declarations.specs.Structs.{Structs}
use Rattle.check_expressions.specs.Operands.{Known, object, fine, root_of, steps_of, place_of, read_tree, read_object}
use Rattle.check_expressions.specs.Prefixes.{address_tree}
use Rattle.check_expressions.specs.Postfixes.{dotted, dotted_as, part_by}
use Rattle.block_memory.specs.Blocks.{Blocks}
use Rattle.source_meaning.specs.State.{State}
use Rattle.source_meaning.specs.Values.{Location}
use Rattle.source_meaning.specs.Expressions as x
use Rattle.pt_core.specs.Types.{field_type}
use Rattle.pt_core.specs.Values as w
use Rattle.pt_core.specs.Values.{Stop, ◌>>?◌, at_span}
use Rattle.half_trees.specs.Names.{word, field_by}
use Rattle.half_meaning_law.specs.Relations.{Scene, context_of, is_pointer, reach_of}
use Rattle.half_meaning_law.specs.Known.{type_as, FieldKnown}
use Rattle.half_meaning_law.specs.Expressions.{Evaluates, IsPlace, SamePlaces}
use Rattle.half_meaning_law.proofs.Chains.{bind_gives}
use Rattle.half_meaning_law.proofs.Operators.{ev_bind}

-- ---- objects

-- where the normal form's place lies
abbrev pub Asks : Type 0
Asks = Blocks → Result w.Location Stop

-- An expression is judged to be an object of this type, const or not, and designates what the normal form's
-- place does; `&` may stand before it where the second test says so.
pub record ObjectMeans (s : Scene) (ty : VarTy) (const whole : Bool) (ask : Asks) (k : Known) : Type 0 where
  pub typed : k.ty ≡ type_as ty
  pub designates : k.designates ≡ true
  pub fixed : k.fixed ≡ const
  pub no_null : k.null ≡ false
  pub reads : (sp : Span) (u : «Type») (f : Bool) → read_tree sp u f k.tree ≡ read_object sp u f (place_of k.tree)
  pub addressed : whole ≡ true → (sp : Span) (el : Elem) (f : Bool) → address_tree sp el f k.tree ≡ t.typed sp (Some (v.Pointer el f)) (t.address (place_of k.tree))
  pub same : SamePlaces s ty (place_of k.tree) ask

-- the same, asked in another way
pub asked_as : (s : Scene) (ty : VarTy) (const whole : Bool) (ask ask' : Asks) (k : Known) → ((blocks : Blocks) → ask blocks ≡ ask' blocks) → ObjectMeans s ty const whole ask k → ObjectMeans s ty const whole ask' k
asked_as s ty const whole ask ask' k is h = record {
  typed = h.typed;
  designates = h.designates;
  fixed = h.fixed;
  no_null = h.no_null;
  reads = h.reads;
  addressed = h.addressed;
  same = λ st st' al. subst (λ z. Evaluates (IsPlace s ty) st (x.location_of (place_of k.tree) (context_of s) st) z) (is st'.memory) (h.same st st' al);
}

-- ---- one field more

step_split : {M A B D : Type 0} (o : r.Outcome M A) (f : A → r.State M → r.Outcome M D) (g : A → r.State M → r.Outcome M B) (k : B → r.State M → r.Outcome M D) →
    ((a : A) (st : r.State M) → f a st ≡ (g a st >>= k)) → (o >>= f) ≡ ((o >>= g) >>= k)
step_split (gives a st) f g k same = same a st
step_split (trapped trap span st) f g k same = refl
step_split (spent st) f g k same = refl

steps_more : (xs : List t.StepTree) (l : t.StepTree) (at : Location) (c : x.Context) (st : State) →
    x.steps_location (step_trees (xs ++ l ∷ [])) at c st ≡ (x.steps_location (step_trees xs) at c st >>= λ next. x.step_location l next c)
steps_more [] l at c st = bind_gives (x.step_location l at c st)
steps_more (y ∷ ys) l at c st =
    step_split (x.step_location y at c st) (λ next. x.steps_location (step_trees (ys ++ l ∷ [])) next c) (λ next. x.steps_location (step_trees ys) next c) (λ next. x.step_location l next c)
    (λ next st1. steps_more ys l next c st1)

-- a part of a place
pub location_more : (root : t.RootTree) (xs : List t.StepTree) (l : t.StepTree) (c : x.Context) (st : State) →
    x.location_of (place root (step_trees (xs ++ l ∷ []))) c st ≡ (x.location_of (place root (step_trees xs)) c st >>= λ next. x.step_location l next c)
location_more root xs l c st =
    step_split (x.root_location root c st) (λ at. x.steps_location (step_trees (xs ++ l ∷ [])) at c) (λ at. x.steps_location (step_trees xs) at c) (λ next. x.step_location l next c)
    (λ at st1. steps_more xs l at c st1)

-- what is known of a field of an object
abbrev pub with_field : Known → FoundField → Known
with_field k f = record {
  ty = f.entry.ty;
  fixed = k.fixed || f.entry.fixed;
  designates = k.designates;
  null = false;
  tree = object (root_of k.tree) (steps_of k.tree ++ field f.number ∷ []);
}

-- what is no pointer holds none
pub no_reach : (s : Scene) (u : VarTy) → is_pointer u ≡ false → reach_of s u ≡ None
no_reach s (v.Int t) h = refl
no_reach s (v.Struct n) h = refl
no_reach s (v.Array elem count) h = refl
no_reach s (v.Pointer elem g) h = true_not_false h

field_is : (s : Scene) (n j : ℕ) (at : Location) (at' : w.Location) → is_pointer (field_type s.context.structs (v.Struct n) j) ≡ false → IsPlace s (v.Struct n) at at' →
    IsPlace s (field_type s.context.structs (v.Struct n) j) (x.field_at (context_of s) j at) (w.field_at s.context j at')
field_is s n j at at' plain h = subst (λ z. IsPlace s (field_type s.context.structs (v.Struct n) j) (x.field_of (context_of s) j at z) (w.field_at s.context j at')) (sym h.typed) (record {
  block = h.block;
  cell = ap (λ z. z + w.offset_in s.context.structs at'.ty j) h.cell ∙ ap (λ z. at.cell + w.offset_in s.context.structs z j) h.typed';
  typed = refl;
  typed' = ap (λ z. field_type s.context.structs z j) h.typed';
  fits = h.fits ∙ sym (no_reach s (field_type s.context.structs (v.Struct n) j) plain);
  near = h.near;
})

no_more : (a o : Bool) → a ≡ false → (o || a) ≡ o
no_more a true h = refl
no_more a false h = h

pub field_means : (s : Scene) (structs : Structs) (n j : ℕ) (const whole : Bool) (ask : Asks) (k : Known) (f : FieldKnown s structs n j) → ObjectMeans s (v.Struct n) const whole ask k →
    ObjectMeans s (field_type s.context.structs (v.Struct n) j) const true (λ blocks. ask blocks >>? λ at. Ok (w.field_at s.context j at)) (with_field k (record { number = j; entry = f.entry }))
unfolding read_tree address_tree root_of steps_of
field_means s structs n j const whole ask k f h = record {
  typed = f.typed;
  designates = h.designates;
  fixed = no_more f.entry.fixed k.fixed f.changes ∙ h.fixed;
  no_null = refl;
  reads = λ sp u g. refl;
  addressed = λ all sp el g. refl;
  same = λ st st' al.
      subst (λ o. Evaluates (IsPlace s (field_type s.context.structs (v.Struct n) j)) st o (ask st'.memory >>? λ at. Ok (w.field_at s.context j at)))
      (sym (location_more (root_of k.tree) (steps_of k.tree) (field j) (context_of s) st))
      (ev_bind (IsPlace s (v.Struct n)) (IsPlace s (field_type s.context.structs (v.Struct n) j)) st (x.location_of (place_of k.tree) (context_of s) st) (ask st'.memory) (λ next. x.step_location (field j) next (context_of s)) (λ at. Ok (w.field_at s.context j at)) (h.same st st' al)
      (λ at at' is. (refl, field_is s n j at at' f.plain is)));
}

-- what the judgment of `.` makes
pub dot_is : (s : Scene) (structs : Structs) (n j : ℕ) (k : Known) (at : Span) (f : FieldKnown s structs n j) → k.ty ≡ ty.Struct n →
    dotted structs (word (field_by (fields_of s.context.structs n) j)) at k ≡ fine (with_field k (record { number = j; entry = f.entry }))
unfolding dotted dotted_as part_by
dot_is s structs n j k at f is =
    ap (λ z. dotted_as z structs (word (field_by (fields_of s.context.structs n) j)) at k) is
    ∙ ap (λ z. part_by z (word (field_by (fields_of s.context.structs n) j)) k.fixed k.designates (root_of k.tree) (steps_of k.tree)) f.named
