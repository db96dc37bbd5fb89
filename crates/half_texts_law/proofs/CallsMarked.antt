-- Which parameters of a half's functions the items of its tree say are marked.
use Rattle.std.proofs.Common.{◌≡◌, ◌++◌, ◌∙◌, ◌≤◌, sym, ap, refl, subst, ℕ, zero, suc, ◌+◌, ℤ, Bool, true, false, List, [], ◌∷◌, length, map, take, Some, arith}
use Rattle.std.specs.Prelude.{◌&&◌, ◌||◌, is_some, fold, slice_get, if◌then◌else◌}
use Rattle.std.specs.List.{range_with_len}
use Rattle.std.specs.Str.{bytes_eq}
use Rattle.std.proofs.lemmas.List.{append_assoc}
use Rattle.std.proofs.lemmas.Bool.{or_left, or_right}
use Rattle.pt_base.proofs.Booleans.{and_parts, as_or_with_false}
use Rattle.pt_base.proofs.Lists.{bytes_eq_same, bytes_eq_self}
use Rattle.pt_base.proofs.Members.{all_true_at}
use Rattle.pt_tree.specs.declared.signature.Param.{Param}
use Rattle.pt_tree.specs.declared.signature.Signature.{Signature}
use Rattle.pt_tree.specs.PlainNumbers.{plain_numbers, is_plain}
use Rattle.pt_tree.specs.declared.signature.Elem.{Elem}
use Rattle.pt_tree.specs.declared.signature.Elem.TheVariants as el
use Rattle.pt_tree.specs.declared.specifier.SpecWord.{SpecWord}
use Rattle.pt_tree.specs.SpecifierTree.{SpecTree, keyword, spec_trees}
use Rattle.pt_tree.specs.ProgramTree as parsed
use Rattle.pt_tree.specs.ProgramTree.{ItemTree, declares, function}
use Rattle.typed_tree.specs.declared.types.StructInfo.{StructInfo}
use Rattle.typed_tree.specs.declared.variable.Var.{Var}
use Rattle.typed_tree.specs.TypeTests.{same_bool, same_type, points_to_const}
use Rattle.typed_tree.specs.WellFormed.{params_lead}
use Rattle.typed_tree.specs.WellFormedExpression.{param_type}
use Rattle.check_declarations.specs.declared.marks.Marks as d
use Rattle.check_declarations.specs.Marks.{attribute_of, marks_of}
use Rattle.check_declarations.specs.declared.marks.Attribute.{Attribute}
use Rattle.check_declarations.specs.Specifiers.{attributes, names_of}
use Rattle.check_programs.specs.declared.function_marks.FunctionMarks.{FunctionMarks}
use Rattle.check_programs.specs.Functions as fn
use Rattle.check_programs.specs.Unions as u
use Rattle.check_programs.specs.Unions.{declarations_of, with_declaration, undeclared}
use Rattle.pt_core.specs.CodeTree.{FunctionTree, ProgramTree}
use Rattle.pt_core.specs.Types.{element_of}
use Rattle.pt_core.specs.WellFormed.{function_at, function_fits, signature_at}
use Rattle.half_trees.specs.Names.{nowhere, function_by}
use Rattle.half_trees.specs.Declarations.{struct_item, global_item, type_words, elem_specs, const_specs, mark_specs, object_specs, parameters_or_void}
use Rattle.half_trees.specs.Functions.{function_item}
use Rattle.half_trees.specs.Halves.{prototype_of, half_tree}
use Rattle.half_meaning_law.specs.Known.{type_as}
use Rattle.half_names_law.specs.Standing.{own_marks, definition}
use Rattle.half_names_law.proofs.Numbers.{lookup_place, mapped_back}
use Rattle.half_names_law.proofs.Parameters.{Marked, parameter_of, parameters_by}
use Rattle.half_names_law.proofs.Prototypes.{marked_param, prototype_as}
use Rattle.half_names_law.proofs.Names.{own, text_name, FunctionsApart, joined_each}
use Rattle.half_names_law.proofs.Known.{own_name}
use Rattle.half_names_law.proofs.Parts.{marked_var, parameters_in, definition_is}
use Rattle.half_names_law.proofs.Halves.{Sound, signature_there}
use Rattle.half_names_law.proofs.Marks.{reached, named_as, declared_in, only_declared, inner, same_entry, prototype_there}

-- ---- what declarations say of a parameter

abbrev pub said : FunctionMarks → ℕ → Bool
said m k = (u.marks_at m.params k).marked

abbrev pub said_by : parsed.FunctionTree → ℕ → Bool
said_by f k = (u.marks_at (u.params_marks f.params) k).marked

union_says : (xs ys : List d.Marks) (k : ℕ) → (u.marks_at (u.union xs ys) k).marked ≡ ((u.marks_at xs k).marked || (u.marks_at ys k).marked)
union_says [] ys k = refl
union_says (x ∷ xs) [] k = as_or_with_false (u.marks_at (x ∷ xs) k).marked
union_says (x ∷ xs) (y ∷ ys) zero = refl
union_says (x ∷ xs) (y ∷ ys) (suc k) = union_says xs ys k

never_said : (k : ℕ) (ds : List parsed.FunctionTree) (m : FunctionMarks) → said m k ≡ false → ((j : ℕ) (f : parsed.FunctionTree) → slice_get ds j ≡ Some f → said_by f k ≡ false) → said (fold with_declaration m ds) k ≡ false
never_said k [] m h none = h
never_said k (f ∷ ds) m h none = never_said k ds (with_declaration m f) (union_says m.params (u.params_marks f.params) k ∙ (λ i. h i || none 0 f refl i)) (λ j g e. none (suc j) g e)

-- ---- the parameters of one declaration

attributes_joined : (xs ys : List SpecTree) → attributes (spec_trees (xs ++ ys)) ≡ attributes (spec_trees xs) ++ attributes (spec_trees ys)
attributes_joined [] ys = refl
attributes_joined (x ∷ xs) ys = ap (λ zs. map attribute_of (names_of x) ++ zs) (attributes_joined xs ys) ∙ sym (append_assoc (map attribute_of (names_of x)) (attributes (spec_trees xs)) (attributes (spec_trees ys)))

keywords_plain : (ws : List SpecWord) → attributes (spec_trees (map (keyword nowhere) ws)) ≡ []
keywords_plain [] = refl
keywords_plain (w ∷ ws) = keywords_plain ws

element_plain : (infos : List StructInfo) (e : Elem) → attributes (spec_trees (elem_specs infos e)) ≡ []
element_plain infos (el.Int t) = keywords_plain (type_words t)
element_plain infos (el.Struct n) = refl

const_plain : (fixed : Bool) (ys : List SpecTree) → attributes (spec_trees (const_specs fixed ++ ys)) ≡ attributes (spec_trees ys)
const_plain true ys = refl
const_plain false ys = refl

marks_first : (a b c : Bool) (zs : List Attribute) → zs ≡ [] → (marks_of (attributes (spec_trees (mark_specs a b c)) ++ zs)).marked ≡ a
marks_first a b c zs h = ap (λ ys. (marks_of (attributes (spec_trees (mark_specs a b c)) ++ ys)).marked) h ∙ go a b c
  where
    go : (a b c : Bool) → (marks_of (attributes (spec_trees (mark_specs a b c)) ++ [])).marked ≡ a
    go true true true = refl
    go true true false = refl
    go true false true = refl
    go true false false = refl
    go false true true = refl
    go false true false = refl
    go false false true = refl
    go false false false = refl

-- the marks among the specifiers of an object
param_says : (infos : List StructInfo) (k : ℕ) (q : Marked) → (u.own_marks (parameter_of infos k q).specs).marked ≡ q.marked
param_says infos k q =
    ap (λ zs. (marks_of zs).marked) (attributes_joined (mark_specs q.marked q.unpriv q.declassify) (object_specs infos q.ty))
    ∙ marks_first q.marked q.unpriv q.declassify (attributes (spec_trees (object_specs infos q.ty))) (const_plain (points_to_const (Some q.ty)) (elem_specs infos (element_of q.ty)) ∙ element_plain infos (element_of q.ty))

listed_says : (infos : List StructInfo) (n : ℕ) (qs : List Marked) (k : ℕ) (q : Marked) → slice_get qs k ≡ Some q → (u.marks_at (u.params_marks (parameters_by infos n qs)) k).marked ≡ q.marked
listed_says infos n [] k q h = cc
listed_says infos n (x ∷ qs) zero q h = param_says infos n x ∙ ap (λ z. z.marked) (same h)
  where
    same : Some x ≡ Some q → x ≡ q
    same e = cc
listed_says infos n (x ∷ qs) (suc k) q h = listed_says infos (suc n) qs k q h

params_say : (infos : List StructInfo) (qs : List Marked) (k : ℕ) (q : Marked) → slice_get qs k ≡ Some q → (u.marks_at (u.params_marks (parameters_or_void (parameters_by infos 0 qs))) k).marked ≡ q.marked
params_say infos [] k q h = cc
params_say infos (x ∷ qs) k q h = listed_says infos 0 (x ∷ qs) k q h

mapped_param : (ps : List Param) (k : ℕ) (q : Param) → slice_get ps k ≡ Some q → slice_get (map marked_param ps) k ≡ Some (marked_param q)
mapped_param [] k q h = cc
mapped_param (p ∷ ps) zero q h = ap (λ z. Some (marked_param z)) (same h)
  where
    same : Some p ≡ Some q → p ≡ q
    same e = cc
mapped_param (p ∷ ps) (suc k) q h = mapped_param ps k q h

same_marks : (a b : Bool) → same_bool a b ≡ true → b ≡ a
same_marks true true h = refl
same_marks true false h = cc
same_marks false true h = cc
same_marks false false h = refl

-- a variable that a parameter leads is marked as it is
lead_says : (ps : List Param) (xs : List Var) (n k : ℕ) (q : Param) → params_lead ps xs ≡ true → length ps ≡ n → slice_get ps k ≡ Some q → (x : Var) × (slice_get (map marked_var (take n xs)) k ≡ Some (marked_var x)) × (x.marked ≡ q.marked)
lead_says [] xs n k q lead long h = cc
lead_says (p ∷ ps) xs zero k q lead long h = absurd (omega (arith, long))
lead_says (p ∷ ps) [] (suc n) k q lead long h = cc
lead_says (p ∷ ps) (x ∷ xs) (suc n) zero q lead long h =
    let first = and_parts (same_type (param_type p.kind) x.ty && same_bool p.marked x.marked) (params_lead ps xs) lead in
    (x, refl, same_marks p.marked x.marked (and_parts (same_type (param_type p.kind) x.ty) (same_bool p.marked x.marked) first.0).1 ∙ ap (λ z. z.marked) (same h))
  where
    same : Some p ≡ Some q → p ≡ q
    same e = cc
lead_says (p ∷ ps) (x ∷ xs) (suc n) (suc k) q lead long h =
    lead_says ps xs n k q (and_parts (same_type (param_type p.kind) x.ty && same_bool p.marked x.marked) (params_lead ps xs) lead).1 (omega (arith, long)) h

-- ---- all items

-- What holds of the prototype of a function and of its definition holds of each item with its name.
abbrev EachIs : (parsed.FunctionTree → Type 0) → List ℕ → ItemTree → Type 0
EachIs Q name x = (f : parsed.FunctionTree) → x ≡ function f → named_as name f ≡ true → Q f

no_function : {x : _} {f : _} → declares x ≡ function f → ⊥
no_function e = cc

others : {A : Type 0} (Q : parsed.FunctionTree → Type 0) (item : A → ItemTree) (name : List ℕ) → ((a : A) (f : parsed.FunctionTree) → item a ≡ function f → ⊥) → (xs : List A) (j : ℕ) (x : ItemTree) → slice_get (map item xs) j ≡ Some x → EachIs Q name x
others Q item name never xs j x at f is named = let back = mapped_back item xs j x at in absurd (never back.0 f (back.2 ∙ is))

items_each : (Q : parsed.FunctionTree → Type 0) (monitor : Bool) (p : ProgramTree) (n : ℕ) (s : ℕ × Signature) → Sound monitor p → FunctionsApart p.signatures → slice_get p.signatures n ≡ Some s →
    ((f : parsed.FunctionTree) → prototype_of monitor p s ≡ function f → Q f) → ((j : ℕ) (g : FunctionTree) → slice_get p.functions j ≡ Some g → g.id ≡ s.0 → signature_at p g.id ≡ Some s.1 → Q (definition p g)) →
    (j : ℕ) (x : ItemTree) → slice_get (half_tree monitor p) j ≡ Some x → EachIs Q (text_name s) x
items_each Q monitor p n s sound apart there prototypes definitions =
    joined_each (EachIs Q (text_name s)) (map (struct_item p.structs) (range_with_len 0 (length p.structs))) (map (prototype_of monitor p) p.signatures ++ (map (global_item p.structs) p.globals ++ map (function_item p) p.functions))
    (others Q (struct_item p.structs) (text_name s) (λ a f e. no_function e) (range_with_len 0 (length p.structs)))
    (joined_each (EachIs Q (text_name s)) (map (prototype_of monitor p) p.signatures) (map (global_item p.structs) p.globals ++ map (function_item p) p.functions) own_prototype
    (joined_each (EachIs Q (text_name s)) (map (global_item p.structs) p.globals) (map (function_item p) p.functions) (others Q (global_item p.structs) (text_name s) (λ a f e. no_function e) p.globals) own_definition))
  where
    own_prototype : (j : ℕ) (x : ItemTree) → slice_get (map (prototype_of monitor p) p.signatures) j ≡ Some x → EachIs Q (text_name s) x
    own_prototype j x at f is named =
        let back = mapped_back (prototype_of monitor p) p.signatures j x at in
        let t = back.0 in
        let tree = inner _ f (back.2 ∙ is) in
        let name : text_name t ≡ text_name s = sym (own_name monitor (function_at p t.0) t.1 t.0) ∙ ap (λ g. g.declarator.name.bytes) tree ∙ bytes_eq_same f.declarator.name.bytes (text_name s) named in
        let place = apart j n t s back.1 there name in
        let same = same_entry t s (sym back.1 ∙ ap (slice_get p.signatures) place ∙ there) in
        prototypes f (ap (prototype_of monitor p) (sym same) ∙ back.2 ∙ is)

    own_definition : (j : ℕ) (x : ItemTree) → slice_get (map (function_item p) p.functions) j ≡ Some x → EachIs Q (text_name s) x
    own_definition j x at f is named =
        let back = mapped_back (function_item p) p.functions j x at in
        let g = back.0 in
        let signature = signature_there monitor p g (all_true_at (function_fits monitor p) p.functions j g sound.functions back.1) in
        let place = lookup_place p.signatures g.id signature.0 signature.1 in
        let tree = inner _ f (back.2 ∙ is) in
        let name : text_name (g.id, signature.0) ≡ text_name s = ap (function_by g.id) (sym signature.1) ∙ ap (λ d. d.declarator.name.bytes) tree ∙ bytes_eq_same f.declarator.name.bytes (text_name s) named in
        let where_it_is = apart place.place n (g.id, signature.0) s place.there there name in
        let same = same_entry (g.id, signature.0) s (sym place.there ∙ ap (slice_get p.signatures) where_it_is ∙ there) in
        subst Q tree (definitions j g back.1 (ap (λ z. z.0) same) (signature.1 ∙ ap (λ z. Some z.1) same))

-- ---- what the items say together

-- at least the prototype is there
first_of : (monitor : Bool) (p : ProgramTree) (n : ℕ) (s : ℕ × Signature) → slice_get p.signatures n ≡ Some s → (j : ℕ) × (f : parsed.FunctionTree) × (slice_get (declarations_of (half_tree monitor p) (text_name s)) j ≡ Some f)
first_of monitor p n s there =
    let found = declared_in (half_tree monitor p) (text_name s) _ _ (prototype_there monitor p n s there) (ap (λ name. bytes_eq name (text_name s)) (own_name monitor (function_at p s.0) s.1 s.0) ∙ bytes_eq_self (text_name s)) in
    (found.0, _, found.1)

-- a parameter is marked in the text as in the half
pub marked_said : (monitor : Bool) (p : ProgramTree) (n : ℕ) (s : ℕ × Signature) (k : ℕ) (q : Param) → Sound monitor p → FunctionsApart p.signatures → slice_get p.signatures n ≡ Some s →
    ((g : FunctionTree) → g.id ≡ s.0 → signature_at p g.id ≡ Some s.1 → (j : ℕ) → slice_get p.functions j ≡ Some g → (params_lead (own monitor p s).params g.vars ≡ true) × (length (own monitor p s).params ≡ g.params)) →
    slice_get (own monitor p s).params k ≡ Some q → said (own_marks monitor p (text_name s)) k ≡ q.marked
marked_said monitor p n s k q sound apart there leads at = go q.marked refl
  where
    ds : List parsed.FunctionTree
    ds = declarations_of (half_tree monitor p) (text_name s)

    by_prototype : (f : parsed.FunctionTree) → prototype_of monitor p s ≡ function f → said_by f k ≡ q.marked
    by_prototype f is =
        ap (λ g. said_by g k) (sym (inner _ f (sym (prototype_as p.structs s.0 (own monitor p s)) ∙ is)))
        ∙ params_say p.structs (map marked_param (own monitor p s).params) k (marked_param q) (mapped_param (own monitor p s).params k q at)

    by_definition : (j : ℕ) (g : FunctionTree) → slice_get p.functions j ≡ Some g → g.id ≡ s.0 → signature_at p g.id ≡ Some s.1 → said_by (definition p g) k ≡ q.marked
    by_definition j g place is named =
        let own_parts = leads g is named j place in
        let x = lead_says (own monitor p s).params g.vars g.params k q own_parts.0 own_parts.1 at in
        ap (λ f. said_by f k) (definition_is p g s.1 named) ∙ params_say p.structs (parameters_in g) k (marked_var x.0) x.1 ∙ x.2

    each : (j : ℕ) (f : parsed.FunctionTree) → slice_get ds j ≡ Some f → said_by f k ≡ q.marked
    each = only_declared (λ f. said_by f k ≡ q.marked) (half_tree monitor p) (text_name s) (λ j f at named. items_each (λ g. said_by g k ≡ q.marked) monitor p n s sound apart there by_prototype by_definition j (function f) at f refl named)

    first : (j : ℕ) × (f : parsed.FunctionTree) × (slice_get ds j ≡ Some f)
    first = first_of monitor p n s there

    go : (b : Bool) → q.marked ≡ b → said (own_marks monitor p (text_name s)) k ≡ q.marked
    go false is = never_said k ds undeclared refl (λ j f e. each j f e ∙ is) ∙ sym is
    go true is =
        reached (λ m. said m k) (λ m f h. union_says m.params (u.params_marks f.params) k ∙ or_left (said m k) (said_by f k) h) ds undeclared first.0 first.1 first.2
        (λ m. union_says m.params (u.params_marks first.1.params) k ∙ or_right (said m k) (said_by first.1 k) (each first.0 first.1 first.2 ∙ is))
        ∙ sym is

-- ---- no body

-- a function without one isn't said to have one
never_defined : (ds : List parsed.FunctionTree) (m : FunctionMarks) → m.defined ≡ false → ((j : ℕ) (f : parsed.FunctionTree) → slice_get ds j ≡ Some f → is_some f.body ≡ false) → (fold with_declaration m ds).defined ≡ false
never_defined [] m h none = h
never_defined (f ∷ ds) m h none = never_defined ds (with_declaration m f) (λ i. h i || none 0 f refl i) (λ j g e. none (suc j) g e)

pub undefined_said : (monitor : Bool) (p : ProgramTree) (n : ℕ) (s : ℕ × Signature) → Sound monitor p → FunctionsApart p.signatures → slice_get p.signatures n ≡ Some s → ((j : ℕ) (g : FunctionTree) → slice_get p.functions j ≡ Some g → g.id ≡ s.0 → ⊥) → (own_marks monitor p (text_name s)).defined ≡ false
undefined_said monitor p n s sound apart there none =
    never_defined (declarations_of (half_tree monitor p) (text_name s)) undeclared refl
    (only_declared (λ f. is_some f.body ≡ false) (half_tree monitor p) (text_name s)
    (λ j f at named. items_each (λ g. is_some g.body ≡ false) monitor p n s sound apart there (λ g is. ap (λ z. is_some z.body) (sym (inner _ g (sym (prototype_as p.structs s.0 (own monitor p s)) ∙ is)))) (λ i g place is known. absurd (none i g place is)) j (function f) at f refl named))

-- ---- plain numbers

-- where the same parameters are marked, the same numbers are plain
pub plain_same : (ms : List d.Marks) (n : ℕ) (ps : List Param) (numbers : List ℤ) → ((k : ℕ) (q : Param) → slice_get ps k ≡ Some q → (u.marks_at ms (n + k)).marked ≡ q.marked) → ((q : Param) → fn.kind_of (type_as (param_type q.kind)) ≡ q.kind) →
    plain_numbers (fn.params_of ms n (map (λ q. type_as q.ty) (map marked_param ps))) numbers ≡ plain_numbers ps numbers
plain_same ms n [] numbers marks kinds = refl
plain_same ms n (p ∷ ps) [] marks kinds = refl
plain_same ms n (p ∷ ps) (v ∷ vs) marks kinds =
    let rest = plain_same ms (n + 1) ps vs (λ k q h. let next : (n + 1) + k ≡ n + suc k = omega arith in ap (λ z. (u.marks_at ms z).marked) next ∙ marks (suc k) q h) kinds in
    let now : n ≡ n + 0 = omega arith in
    let own_mark = ap (λ z. (u.marks_at ms z).marked) now ∙ marks 0 p refl in
    λ i. if is_plain (kinds p i) (own_mark i) then v ∷ rest i else rest i

-- only so many parameters matter as there are numbers
pub plain_first : (n : ℕ) (ps : List Param) (numbers : List ℤ) → length numbers ≤ n → plain_numbers (take n ps) numbers ≡ plain_numbers ps numbers
plain_first zero [] numbers few = refl
plain_first zero (p ∷ ps) [] few = refl
plain_first zero (p ∷ ps) (v ∷ vs) few = absurd (omega (arith, few))
plain_first (suc n) [] numbers few = refl
plain_first (suc n) (p ∷ ps) [] few = refl
plain_first (suc n) (p ∷ ps) (v ∷ vs) few = let rest = plain_first n ps vs (omega (arith, few)) in λ i. if is_plain p.kind p.marked then v ∷ rest i else rest i
