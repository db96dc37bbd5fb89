-- What the items of a half's tree say of its functions together.
use Rattle.std.proofs.Common.{◌≡◌, ◌++◌, ◌∙◌, ◌+◌, sym, ap, refl, subst, ℕ, zero, suc, Bool, true, false, List, [], ◌∷◌, length, map, take, Option, Some, None, arith, cond}
use Rattle.std.specs.Prelude.{◌&&◌, ◌||◌, nat_eq, not, is_some, fold, slice_get, if◌then◌else◌}
use Rattle.std.specs.List.{find, range_with_len}
use Rattle.std.specs.Str.{bytes_eq}
use Rattle.std.proofs.lemmas.Bool.{or_left, or_right}
use Rattle.pt_base.proofs.Lists.{bytes_eq_same, bytes_eq_self}
use Rattle.pt_base.proofs.Members.{all_true_at}
use Rattle.pt_base.proofs.Numbers.{nat_eq_same}
use Rattle.pt_base.proofs.Places.{get_kept, get_mapped}
use Rattle.pt_tree.specs.declared.signature.Signature.{Signature}
use Rattle.pt_tree.specs.SpecifierTree.{spec_trees}
use Rattle.pt_tree.specs.ProgramTree as parsed
use Rattle.pt_tree.specs.ProgramTree.{ItemTree, declares, function}
use Rattle.check_declarations.specs.Marks.{marks_of}
use Rattle.check_programs.specs.declared.function_marks.FunctionMarks.{FunctionMarks}
use Rattle.check_programs.specs.Unions as u
use Rattle.check_programs.specs.Unions.{declarations_of, with_declaration, undeclared, function_marks}
use Rattle.pt_core.specs.CodeTree.{GlobalTree, FunctionTree, ProgramTree}
use Rattle.pt_core.specs.WellFormed.{function_at, with_own, function_fits}
use Rattle.half_trees.specs.Names.{function_by}
use Rattle.half_trees.specs.Declarations.{struct_item, global_item, function_specs}
use Rattle.half_trees.specs.Functions.{head_specs, function_item}
use Rattle.half_trees.specs.Halves.{prototype_of, half_tree}
use Rattle.half_names_law.specs.Declarable.{takes_no_pointer, prototypes_take_no_pointers}
use Rattle.half_names_law.specs.Standing.{own_marks, whole_marks, definition}
use Rattle.half_names_law.proofs.Specifiers.{marks_are, function_says}
use Rattle.half_names_law.proofs.Numbers.{lookup_place, mapped_back, once_there}
use Rattle.half_names_law.proofs.Names.{own, text_name, FunctionsApart, joined_each}
use Rattle.half_names_law.proofs.Known.{own_name}
use Rattle.half_names_law.proofs.Premises.{MarksSay}
use Rattle.half_names_law.proofs.Halves.{Sound, signature_there}

-- ---- lists of declarations

-- what one declaration brings stays
pub rises : (get : FunctionMarks → Bool) → ((m : FunctionMarks) (d : parsed.FunctionTree) → get m ≡ true → get (with_declaration m d) ≡ true) → (ds : List parsed.FunctionTree) (m : FunctionMarks) → get m ≡ true → get (fold with_declaration m ds) ≡ true
rises get keeps [] m h = h
rises get keeps (d ∷ ds) m h = rises get keeps ds (with_declaration m d) (keeps m d h)

pub reached : (get : FunctionMarks → Bool) → ((m : FunctionMarks) (d : parsed.FunctionTree) → get m ≡ true → get (with_declaration m d) ≡ true) → (ds : List parsed.FunctionTree) (m : FunctionMarks) (k : ℕ) (d : parsed.FunctionTree) → slice_get ds k ≡ Some d
    → ((m : FunctionMarks) → get (with_declaration m d) ≡ true) → get (fold with_declaration m ds) ≡ true
reached get keeps [] m k d h brings = cc
reached get keeps (e ∷ ds) m zero d h brings = rises get keeps ds (with_declaration m e) (subst (λ x. get (with_declaration m x) ≡ true) (same h) (brings m))
  where
    same : Some e ≡ Some d → d ≡ e
    same e = cc
reached get keeps (e ∷ ds) m (suc k) d h brings = reached get keeps ds (with_declaration m e) k d h brings

-- none is privileged
never_rises : (ds : List parsed.FunctionTree) (m : FunctionMarks) → m.privileged ≡ false → ((k : ℕ) (d : parsed.FunctionTree) → slice_get ds k ≡ Some d → (u.own_marks d.specs).marked ≡ false) → (fold with_declaration m ds).privileged ≡ false
never_rises [] m h none = h
never_rises (d ∷ ds) m h none = never_rises ds (with_declaration m d) (λ i. h i || none 0 d refl i) (λ k e there. none (suc k) e there)

-- ---- declarations among items

abbrev pub named_as : List ℕ → parsed.FunctionTree → Bool
named_as name f = bytes_eq f.declarator.name.bytes name

-- a declaration of the name is among them
pub declared_in : (items : List ItemTree) (name : List ℕ) (k : ℕ) (f : parsed.FunctionTree) → slice_get items k ≡ Some (function f) → named_as name f ≡ true → (j : ℕ) × (slice_get (declarations_of items name) j ≡ Some f)
declared_in [] name k f there is = cc
declared_in (declares d ∷ items) name zero f there is = cc
declared_in (function g ∷ items) name zero f there is = first (named_as name g) (ap (named_as name) (same there) ∙ is)
  where
    same : Some (function g) ≡ Some (function f) → g ≡ f
    same e = cc

    first : (b : Bool) → b ≡ true → (j : ℕ) × (slice_get (if b then g ∷ declarations_of items name else declarations_of items name) j ≡ Some f)
    first true e = (0, ap Some (same there))
    first false e = cc
declared_in (declares d ∷ items) name (suc k) f there is = declared_in items name k f there is
declared_in (function g ∷ items) name (suc k) f there is = behind (named_as name g) (declared_in items name k f there is)
  where
    behind : (b : Bool) → (j : ℕ) × (slice_get (declarations_of items name) j ≡ Some f) → (j : ℕ) × (slice_get (if b then g ∷ declarations_of items name else declarations_of items name) j ≡ Some f)
    behind true found = (suc found.0, found.1)
    behind false found = found

-- and nothing else is
pub only_declared : (Q : parsed.FunctionTree → Type 0) (items : List ItemTree) (name : List ℕ) → ((k : ℕ) (f : parsed.FunctionTree) → slice_get items k ≡ Some (function f) → named_as name f ≡ true → Q f) → (j : ℕ) (f : parsed.FunctionTree) → slice_get (declarations_of items name) j ≡ Some f → Q f
only_declared Q [] name each j f there = cc
only_declared Q (declares d ∷ items) name each j f there = only_declared Q items name (λ k g e. each (suc k) g e) j f there
only_declared Q (function g ∷ items) name each j f there = go (named_as name g) refl j there (only_declared Q items name (λ k h e. each (suc k) h e))
  where
    same : Some g ≡ Some f → g ≡ f
    same e = cc

    go : (b : Bool) → named_as name g ≡ b → (j : ℕ) → slice_get (if b then g ∷ declarations_of items name else declarations_of items name) j ≡ Some f → ((j : ℕ) (f : parsed.FunctionTree) → slice_get (declarations_of items name) j ≡ Some f → Q f) → Q f
    go true is zero there again = subst Q (same there) (each 0 g refl is)
    go true is (suc j) there again = again j f there
    go false is j there again = again j f there

-- ---- what declarations of a half say

head_marked : (s : Signature) → (u.own_marks (spec_trees (function_specs s))).marked ≡ s.privileged
head_marked s = ap (λ j. (marks_of j.given.attributes).marked) (function_says [] s) ∙ ap (λ m. m.marked) (marks_are s.privileged false s.declassify)

own_privileged : (monitor : Bool) (o : Option FunctionTree) (s : Signature) → (with_own monitor o s).privileged ≡ s.privileged
own_privileged monitor None s = refl
own_privileged monitor (Some f) s = go (monitor && not s.host)
  where
    go : (b : Bool) → (if b then record s { params = take f.params s.params } else s).privileged ≡ s.privileged
    go true = refl
    go false = refl

pub inner : (g f : parsed.FunctionTree) → function g ≡ function f → g ≡ f
inner g f e = cc

-- at each item with this name the function is marked as this one is
abbrev pub MarkedAs : List ℕ → Bool → ItemTree → Type 0
MarkedAs name b x = (f : parsed.FunctionTree) → x ≡ function f → named_as name f ≡ true → (u.own_marks f.specs).marked ≡ b

pub same_entry : (x y : ℕ × Signature) → Some x ≡ Some y → x ≡ y
same_entry x y e = cc

prototypes_marked : (monitor : Bool) (p : ProgramTree) (n : ℕ) (s : ℕ × Signature) → FunctionsApart p.signatures → slice_get p.signatures n ≡ Some s → (j : ℕ) (x : ItemTree) → slice_get (map (prototype_of monitor p) p.signatures) j ≡ Some x → MarkedAs (text_name s) s.1.privileged x
prototypes_marked monitor p n s apart there j x at f is named =
    let back = mapped_back (prototype_of monitor p) p.signatures j x at in
    let t = back.0 in
    let tree = inner _ f (back.2 ∙ is) in
    let name : text_name t ≡ text_name s = sym (own_name monitor (function_at p t.0) t.1 t.0) ∙ ap (λ g. g.declarator.name.bytes) tree ∙ bytes_eq_same f.declarator.name.bytes (text_name s) named in
    let place = apart j n t s back.1 there name in
    let same = same_entry t s (sym back.1 ∙ ap (slice_get p.signatures) place ∙ there) in
    ap (λ g. (u.own_marks g.specs).marked) (sym tree) ∙ head_marked (own monitor p t) ∙ own_privileged monitor (function_at p t.0) t.1 ∙ ap (λ z. z.1.privileged) same

definitions_marked : (monitor : Bool) (p : ProgramTree) (n : ℕ) (s : ℕ × Signature) → Sound monitor p → FunctionsApart p.signatures → slice_get p.signatures n ≡ Some s → (j : ℕ) (x : ItemTree) → slice_get (map (function_item p) p.functions) j ≡ Some x → MarkedAs (text_name s) s.1.privileged x
definitions_marked monitor p n s sound apart there j x at f is named =
    let back = mapped_back (function_item p) p.functions j x at in
    let g = back.0 in
    let signature = signature_there monitor p g (all_true_at (function_fits monitor p) p.functions j g sound.functions back.1) in
    let place = lookup_place p.signatures g.id signature.0 signature.1 in
    let tree = inner _ f (back.2 ∙ is) in
    let name : text_name (g.id, signature.0) ≡ text_name s = ap (function_by g.id) (sym signature.1) ∙ ap (λ d. d.declarator.name.bytes) tree ∙ bytes_eq_same f.declarator.name.bytes (text_name s) named in
    let where_it_is = apart place.place n (g.id, signature.0) s place.there there name in
    let same = same_entry (g.id, signature.0) s (sym place.there ∙ ap (slice_get p.signatures) where_it_is ∙ there) in
    ap (λ d. (u.own_marks d.specs).marked) (sym tree) ∙ ap (λ o. (u.own_marks (spec_trees (head_specs o))).marked) signature.1 ∙ head_marked signature.0 ∙ ap (λ z. z.1.privileged) same

pub structs_unmarked : (p : ProgramTree) (ns : List ℕ) (name : List ℕ) (b : Bool) (j : ℕ) (x : ItemTree) → slice_get (map (struct_item p.structs) ns) j ≡ Some x → MarkedAs name b x
structs_unmarked p ns name b j x at f is named = let back = mapped_back (struct_item p.structs) ns j x at in absurd (other (back.2 ∙ is))
  where
    other : {d : _} → declares d ≡ function f → ⊥
    other e = cc

pub globals_unmarked : (p : ProgramTree) (gs : List GlobalTree) (name : List ℕ) (b : Bool) (j : ℕ) (x : ItemTree) → slice_get (map (global_item p.structs) gs) j ≡ Some x → MarkedAs name b x
globals_unmarked p gs name b j x at f is named = let back = mapped_back (global_item p.structs) gs j x at in absurd (other (back.2 ∙ is))
  where
    other : {d : _} → declares d ≡ function f → ⊥
    other e = cc

items_marked : (monitor : Bool) (p : ProgramTree) (n : ℕ) (s : ℕ × Signature) → Sound monitor p → FunctionsApart p.signatures → slice_get p.signatures n ≡ Some s → (j : ℕ) (x : ItemTree) → slice_get (half_tree monitor p) j ≡ Some x → MarkedAs (text_name s) s.1.privileged x
items_marked monitor p n s sound apart there =
    let name = text_name s in
    let b = s.1.privileged in
    joined_each (MarkedAs name b) (map (struct_item p.structs) (range_with_len 0 (length p.structs))) (map (prototype_of monitor p) p.signatures ++ (map (global_item p.structs) p.globals ++ map (function_item p) p.functions))
    (structs_unmarked p (range_with_len 0 (length p.structs)) name b)
    (joined_each (MarkedAs name b) (map (prototype_of monitor p) p.signatures) (map (global_item p.structs) p.globals ++ map (function_item p) p.functions) (prototypes_marked monitor p n s apart there)
    (joined_each (MarkedAs name b) (map (global_item p.structs) p.globals) (map (function_item p) p.functions) (globals_unmarked p p.globals name b) (definitions_marked monitor p n s sound apart there)))

-- ---- where an item stands

got_behind : {A : Type 0} (xs ys : List A) (k : ℕ) (y : A) → slice_get ys k ≡ Some y → slice_get (xs ++ ys) (length xs + k) ≡ Some y
got_behind [] ys k y h = ap (slice_get ys) (omega arith) ∙ h
got_behind (x ∷ xs) ys k y h = let same : suc (length xs) + k ≡ suc (length xs + k) = omega arith in ap (slice_get (x ∷ (xs ++ ys))) same ∙ got_behind xs ys k y h

pub prototype_there : (monitor : Bool) (p : ProgramTree) (n : ℕ) (s : ℕ × Signature) → slice_get p.signatures n ≡ Some s → slice_get (half_tree monitor p) (length (map (struct_item p.structs) (range_with_len 0 (length p.structs))) + n) ≡ Some (prototype_of monitor p s)
prototype_there monitor p n s there =
    got_behind (map (struct_item p.structs) (range_with_len 0 (length p.structs))) (map (prototype_of monitor p) p.signatures ++ (map (global_item p.structs) p.globals ++ map (function_item p) p.functions)) n (prototype_of monitor p s)
    (get_kept (map (prototype_of monitor p) p.signatures) (map (global_item p.structs) p.globals ++ map (function_item p) p.functions) n (prototype_of monitor p s) (get_mapped (prototype_of monitor p) p.signatures n s there))

definition_there : (monitor : Bool) (p : ProgramTree) (n : ℕ) (f : FunctionTree) → slice_get p.functions n ≡ Some f → (j : ℕ) × (slice_get (half_tree monitor p) j ≡ Some (function_item p f))
definition_there monitor p n f there = (
  length (map (struct_item p.structs) (range_with_len 0 (length p.structs))) + (length (map (prototype_of monitor p) p.signatures) + (length (map (global_item p.structs) p.globals) + n)),
  got_behind (map (struct_item p.structs) (range_with_len 0 (length p.structs))) (map (prototype_of monitor p) p.signatures ++ (map (global_item p.structs) p.globals ++ map (function_item p) p.functions)) _ (function_item p f)
      (got_behind (map (prototype_of monitor p) p.signatures) (map (global_item p.structs) p.globals ++ map (function_item p) p.functions) _ (function_item p f)
      (got_behind (map (global_item p.structs) p.globals) (map (function_item p) p.functions) n (function_item p f) (get_mapped (function_item p) p.functions n f there))),
)

-- ---- together

privileged_is : (monitor : Bool) (p : ProgramTree) (n : ℕ) (s : ℕ × Signature) → Sound monitor p → FunctionsApart p.signatures → slice_get p.signatures n ≡ Some s → (own_marks monitor p (text_name s)).privileged ≡ s.1.privileged
privileged_is monitor p n s sound apart there = go s.1.privileged refl
  where
    each : (j : ℕ) (d : parsed.FunctionTree) → slice_get (declarations_of (half_tree monitor p) (text_name s)) j ≡ Some d → (u.own_marks d.specs).marked ≡ s.1.privileged
    each = only_declared (λ d. (u.own_marks d.specs).marked ≡ s.1.privileged) (half_tree monitor p) (text_name s) (λ k f at named. items_marked monitor p n s sound apart there k (function f) at f refl named)

    first : (j : ℕ) × (d : parsed.FunctionTree) × (slice_get (declarations_of (half_tree monitor p) (text_name s)) j ≡ Some d)
    first =
        let found = declared_in (half_tree monitor p) (text_name s) _ _ (prototype_there monitor p n s there) (ap (λ name. bytes_eq name (text_name s)) (own_name monitor (function_at p s.0) s.1 s.0) ∙ bytes_eq_self (text_name s)) in
        (found.0, _, found.1)

    go : (b : Bool) → s.1.privileged ≡ b → (own_marks monitor p (text_name s)).privileged ≡ s.1.privileged
    go false is = never_rises (declarations_of (half_tree monitor p) (text_name s)) undeclared refl (λ k d at. each k d at ∙ is) ∙ sym is
    go true is =
        reached (λ m. m.privileged) (λ m d h. or_left m.privileged (u.own_marks d.specs).marked h) (declarations_of (half_tree monitor p) (text_name s)) undeclared first.0 first.1 first.2
        (λ m. or_right m.privileged (u.own_marks first.1.specs).marked (each first.0 first.1 first.2 ∙ is))
        ∙ sym is

pub find_back : (fs : List FunctionTree) (n : ℕ) (f : FunctionTree) → find (λ g. nat_eq n g.id) fs ≡ Some f → (k : ℕ) × (slice_get fs k ≡ Some f) × (n ≡ f.id)
find_back [] n f h = cc
find_back (g ∷ gs) n f h = go (nat_eq n g.id) refl h (find_back gs n f)
  where
    same : Some g ≡ Some f → g ≡ f
    same e = cc

    go : (b : Bool) → nat_eq n g.id ≡ b → cond b (Some g) (find (λ x. nat_eq n x.id) gs) ≡ Some f → (find (λ x. nat_eq n x.id) gs ≡ Some f → (k : ℕ) × (slice_get gs k ≡ Some f) × (n ≡ f.id)) → (k : ℕ) × (slice_get (g ∷ gs) k ≡ Some f) × (n ≡ f.id)
    go true is e again = (0, e, nat_eq_same n g.id is ∙ ap (λ x. x.id) (same e))
    go false is e again = let behind = again e in (suc behind.0, behind.1, behind.2)

pub defined_is : (monitor : Bool) (p : ProgramTree) (n : ℕ) (s : ℕ × Signature) → Sound monitor p → slice_get p.signatures n ≡ Some s → is_some (function_at p s.0) ≡ true → (own_marks monitor p (text_name s)).defined ≡ true
defined_is monitor p n s sound there some = go (function_at p s.0) refl some
  where
    with_body : (f : FunctionTree) → function_at p s.0 ≡ Some f → (own_marks monitor p (text_name s)).defined ≡ true
    with_body f found =
        let back = find_back p.functions s.0 f found in
        let signature = signature_there monitor p f (all_true_at (function_fits monitor p) p.functions back.0 f sound.functions back.1) in
        let place = lookup_place p.signatures f.id signature.0 signature.1 in
        let where_it_is = once_there 0 (map (λ x. x.0) p.signatures) place.place n s.0 sound.order.0 (get_mapped (λ x. x.0) p.signatures place.place (f.id, signature.0) place.there ∙ ap Some (sym back.2)) (get_mapped (λ x. x.0) p.signatures n s there) in
        let same = same_entry (f.id, signature.0) s (sym place.there ∙ ap (slice_get p.signatures) where_it_is ∙ there) in
        let item = definition_there monitor p back.0 f back.1 in
        let found_in = declared_in (half_tree monitor p) (text_name s) item.0 (definition p f) item.1 (ap (λ name. bytes_eq name (text_name s)) (ap (function_by f.id) signature.1 ∙ ap text_name same) ∙ bytes_eq_self (text_name s)) in
        reached (λ m. m.defined) (λ m d h. or_left m.defined (is_some d.body) h) (declarations_of (half_tree monitor p) (text_name s)) undeclared found_in.0 (definition p f) found_in.1 (λ m. or_right m.defined true refl)

    go : (o : Option FunctionTree) → function_at p s.0 ≡ o → is_some o ≡ true → (own_marks monitor p (text_name s)).defined ≡ true
    go None is e = cc
    go (Some f) is e = with_body f is

pub whole_say : (monitor : Bool) (p : ProgramTree) → Sound monitor p → FunctionsApart p.signatures → MarksSay (whole_marks monitor p) p
whole_say monitor p sound apart = record {
  privileged = λ n s there. privileged_is monitor p n s sound apart there;
  bodies = λ n s there some. refl;
  pointers = λ n s there some. refl;
}

pub own_say : (monitor : Bool) (p : ProgramTree) → Sound monitor p → FunctionsApart p.signatures → prototypes_take_no_pointers p ≡ true → MarksSay (own_marks monitor p) p
own_say monitor p sound apart plain = record {
  privileged = λ n s there. privileged_is monitor p n s sound apart there;
  bodies = λ n s there some. defined_is monitor p n s sound there some;
  pointers = λ n s there some. defined_is monitor p n s sound there (left_so (is_some (function_at p s.0)) (takes_no_pointer s.1) (all_true_at (λ t. is_some (function_at p t.0) || takes_no_pointer t.1) p.signatures n s plain there) some);
}
  where
    left_so : (a b : Bool) → (a || b) ≡ true → b ≡ false → a ≡ true
    left_so true b h e = refl
    left_so false b h e = cc
