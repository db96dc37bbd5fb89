-- Specifiers without a fault leave the table of structs sound and name a good base.
use Rattle.std.proofs.Common.{◌≡◌, ◌≤◌, ◌<◌, ◌+◌, ◌++◌, ◌∙◌, sym, ap, subst, refl, ℕ, suc, Bool, true, false, not, cond, List, [], ◌∷◌, length, nat_lt, nat_eq, arith, Some, None, is_none}
use Rattle.std.specs.Prelude.{IsTrue, ◌||◌, nat_le, unwrap_or, if◌then◌else◌}
use Rattle.std.specs.Option.{option_map_or}
use Rattle.std.specs.List.{list_all, prefix_len}
use Rattle.std.specs.Str.{bytes_eq}
use Rattle.std.proofs.lemmas.Bool.Decides.{nat_tests}
use Rattle.std.proofs.lemmas.List.{append_assoc, append-nil, length-append, map-append}
use Rattle.pt_base.specs.declared.span.Span.{Span}
use Rattle.pt_base.proofs.Booleans.{both_hold, both_hold_first, both_hold_second, from_not_false, or_false_first, or_false_second}
use Rattle.pt_base.proofs.Lists.{append_nil_first, append_nil_second, bytes_eq_self}
use Rattle.pt_base.proofs.Members.{all_hold_append}
use Rattle.pt_tree.specs.declared.word.Word.{Word}
use Rattle.pt_tree.specs.declared.specifier.SpecWord.{SpecWord}
use Rattle.pt_tree.specs.declared.specifier.Declarator.{Declarator}
use Rattle.pt_tree.specs.SpecifierTree.{SpecTree, SpecTrees, FieldTree, FieldTrees, attribute, keyword, structure, no_specs, spec_and, field, no_fields, field_and}
use Rattle.type_rules.specs.declared.types.Type.{«Type»}
use Rattle.type_rules.specs.declared.types.Type.TheVariants as ty
use Rattle.check_declarations.specs.declared.fault.FaultKind.TheVariants.{UnknownName, Redeclared, OutOfProfile, TooLarge}
use Rattle.check_declarations.specs.declared.marks.Carrier.TheVariants as carrier
use Rattle.check_declarations.specs.declared.objects.ObjectKind.TheVariants as kind
use Rattle.check_declarations.specs.declared.specifiers.Specified.{Specified}
use Rattle.check_declarations.specs.Faults.{fault_if}
use Rattle.check_declarations.specs.Cells.{cells_of, object_limit}
use Rattle.check_declarations.specs.NameTables.{Named, number_of, is_new, values, with_name}
use Rattle.check_declarations.specs.Structs.{Fields, Structs, struct_type, struct_of, with_struct}
use Rattle.check_declarations.specs.Words.{Combination, combinations, named, named_in, type_words, same_words, are_one_of, no_words}
use Rattle.check_declarations.specs.Marks.{mark_faults}
use Rattle.check_declarations.specs.Objects.{object_faults, size_faults}
use Rattle.check_declarations.specs.Fields.{field_of, field_faults, declared}
use Rattle.check_declarations.specs.Specifiers.{Naming, Body, referred, defined, defined_by, first_of, keywords, has_storage_room, base_of, word_faults, judged, named_by, named_by_all, with_field, body_of}
use Rattle.type_law.specs.DeclarationsTypes.{is_base}
use Rattle.type_law.specs.DeclarationsSound.{field_sound, SoundStruct, SoundStructs}
use Rattle.type_law.specs.DeclarationsLaws.{SpecifiersAreSound}
use Rattle.type_law.proofs.DeclarationsFaultLemmas.{no_fault}
use Rattle.type_law.proofs.DeclarationsGoodTypes.{base_more}
use Rattle.type_law.proofs.DeclarationsObjectLemmas.{objects_are_sound}
use Rattle.type_law.proofs.DeclarationsTableLemmas.{sound_push}

-- ---- what words name

combinations_name : (structs : ℕ) (cs : List Combination) (words : _) → IsTrue (list_all (λ c. is_base structs c.ty) cs) → is_none (named_in cs words) ≡ false
    → IsTrue (is_base structs (unwrap_or (named_in cs words) ty.Bad))
combinations_name structs [] words good some = cc
combinations_name structs (c ∷ cs) words good some = go (are_one_of words c.lists) (combinations_name structs cs words (both_hold_second (is_base structs c.ty) (list_all (λ d. is_base structs d.ty) cs) good)) some
  where
    go : (b : Bool) → (is_none (named_in cs words) ≡ false → IsTrue (is_base structs (unwrap_or (named_in cs words) ty.Bad)))
        → is_none (if b then Some c.ty else named_in cs words) ≡ false → IsTrue (is_base structs (unwrap_or (if b then Some c.ty else named_in cs words) ty.Bad))
    go true others h = both_hold_first (is_base structs c.ty) (list_all (λ d. is_base structs d.ty) cs) good
    go false others h = others h

words_name : (structs : ℕ) (words : List SpecWord) (types : List «Type») → IsTrue (list_all (is_base structs) types) → is_none (named words types) ≡ false
    → IsTrue (is_base structs (unwrap_or (named words types) ty.Bad))
words_name structs words [] good some = combinations_name structs combinations (type_words words) refl some
words_name structs words (t ∷ []) good some = go (same_words (type_words words) no_words) some
  where
    go : (b : Bool) → is_none (if b then Some t else None) ≡ false → IsTrue (is_base structs (unwrap_or (if b then Some t else None) ty.Bad))
    go true h = both_hold_first (is_base structs t) true good
    go false h = cc
words_name structs words (t ∷ u ∷ ts) good some = cc

-- ---- names in tables

-- the place of a name that is found is within the table
found_base : (place structs : ℕ) → is_none (cond (nat_lt place structs) (Some place) None) ≡ false
    → IsTrue (is_base structs (option_map_or ty.Struct (cond (nat_lt place structs) (Some place) None) ty.Bad))
found_base place structs h = go (nat_lt place structs) refl h
  where
    go : (b : Bool) → nat_lt place structs ≡ b → is_none (cond b (Some place) None) ≡ false → IsTrue (is_base structs (option_map_or ty.Struct (cond b (Some place) None) ty.Bad))
    go true e h = e
    go false e h = cc

first_below : {X : Type 0} (p : X → Bool) (xs : List X) (y : X) → p y ≡ true → prefix_len (λ x. not (p x)) (xs ++ y ∷ []) < length (xs ++ y ∷ [])
first_below p [] y h = go (p y) h
  where
    go : (b : Bool) → b ≡ true → cond (not b) (1 + 0) 0 < 1
    go true e = omega arith
    go false e = cc
first_below p (x ∷ xs) y h = go (p x) (first_below p xs y h)
  where
    go : (b : Bool) → prefix_len (λ z. not (p z)) (xs ++ y ∷ []) < length (xs ++ y ∷ []) → cond (not b) (1 + prefix_len (λ z. not (p z)) (xs ++ y ∷ [])) 0 < suc (length (xs ++ y ∷ []))
    go true below = omega arith
    go false below = omega (arith, below)

-- a struct at the end of a table is found by its tag
last_base : {X : Type 0} (table : Named X) (tag : List ℕ) (x : X)
    → IsTrue (is_base (length (table ++ (tag, x) ∷ [])) (option_map_or ty.Struct (number_of (table ++ (tag, x) ∷ []) tag) ty.Bad))
last_base table tag x =
    let below = first_below (λ e. bytes_eq tag e.0) table (tag, x) (bytes_eq_self tag) in
    let test : nat_lt (prefix_len (λ e. not (bytes_eq tag e.0)) (table ++ (tag, x) ∷ [])) (length (table ++ (tag, x) ∷ [])) ≡ true = grind (arith, nat_tests, below) in
    found_base (prefix_len (λ e. not (bytes_eq tag e.0)) (table ++ (tag, x) ∷ [])) (length (table ++ (tag, x) ∷ []))
    (ap (λ b. is_none (cond b (Some (prefix_len (λ e. not (bytes_eq tag e.0)) (table ++ (tag, x) ∷ []))) None)) test)

-- a new name comes last
new_last : {X : Type 0} (table : Named X) (name : List ℕ) (x : X) → is_new table name ≡ true → with_name table name x ≡ table ++ (name, x) ∷ []
new_last table name x new = ap (λ b. if b then table ++ (name, x) ∷ [] else table) new

-- ---- fields

list_all_push : {X : Type 0} (p : X → Bool) (xs : List X) (y : X) → IsTrue (list_all p xs) → IsTrue (p y) → IsTrue (list_all p (xs ++ y ∷ []))
list_all_push p [] y h k = both_hold (p y) true k refl
list_all_push p (x ∷ xs) y h k = both_hold _ _ (both_hold_first (p x) (list_all p xs) h) (list_all_push p xs y (both_hold_second (p x) (list_all p xs) h) k)

field_good : (structs : Structs) (given : Specified) (fields : Fields) (d : Declarator) → IsTrue (is_base (length structs) given.base) → field_faults structs given fields d ≡ []
    → IsTrue (field_sound structs (field_of given d))
field_good structs given fields d base none =
    let two = append_nil_first (object_faults kind.Field given d.pointer d.suffix d.name.span ++ size_faults structs (field_of given d).ty d.name.span) (fault_if (not (is_new fields d.name.bytes)) Redeclared d.name.span) none in
    let plain = objects_are_sound kind.Field (length structs) given d.pointer d.suffix d.name.span base (append_nil_first (object_faults kind.Field given d.pointer d.suffix d.name.span) (size_faults structs (field_of given d).ty d.name.span) two) in
    let small = no_fault (nat_lt object_limit (cells_of structs (field_of given d).ty)) TooLarge d.name.span (append_nil_second (object_faults kind.Field given d.pointer d.suffix d.name.span) (size_faults structs (field_of given d).ty d.name.span) two) in
    both_hold _ _ plain (few (cells_of structs (field_of given d).ty) small)
  where
    few : (n : ℕ) → nat_lt 65536 n ≡ false → IsTrue (nat_le n 65536)
    few n h = grind (arith, nat_tests, h)

field_new : (structs : Structs) (given : Specified) (fields : Fields) (d : Declarator) → field_faults structs given fields d ≡ []
    → with_name fields d.name.bytes (field_of given d) ≡ fields ++ (d.name.bytes, field_of given d) ∷ []
field_new structs given fields d none =
    let last = append_nil_second (object_faults kind.Field given d.pointer d.suffix d.name.span ++ size_faults structs (field_of given d).ty d.name.span) (fault_if (not (is_new fields d.name.bytes)) Redeclared d.name.span) none in
    new_last fields d.name.bytes (field_of given d) (from_not_false _ (no_fault (not (is_new fields d.name.bytes)) Redeclared d.name.span last))

fields_good : (structs : Structs) (given : Specified) (fields : Fields) (ds : List Declarator) → IsTrue (is_base (length structs) given.base)
    → IsTrue (list_all (field_sound structs) (values fields)) → (declared structs given fields ds).faults ≡ []
    → IsTrue (list_all (field_sound structs) (values (declared structs given fields ds).fields))
fields_good structs given fields [] base good none = good
fields_good structs given fields (d ∷ ds) base good none =
    let here = append_nil_first (field_faults structs given fields d) (declared structs given (with_name fields d.name.bytes (field_of given d)) ds).faults none in
    let grown = field_new structs given fields d here in
    let one = field_good structs given fields d base here in
    let good' : IsTrue (list_all (field_sound structs) (values (with_name fields d.name.bytes (field_of given d)))) =
    subst (λ fs. IsTrue (list_all (field_sound structs) (values fs))) (sym grown)
    (subst (λ xs. IsTrue (list_all (field_sound structs) xs)) (sym (map-append (λ e. e.1) fields ((d.name.bytes, field_of given d) ∷ [])))
    (list_all_push (field_sound structs) (values fields) (field_of given d) good one)) in
    fields_good structs given (with_name fields d.name.bytes (field_of given d)) ds base good' (append_nil_second (field_faults structs given fields d) (declared structs given (with_name fields d.name.bytes (field_of given d)) ds).faults none)

-- ---- struct specifiers

-- behind these structs, what struct specifiers name
record SoundNaming (at_file : Bool) (structs : Structs) (n : Naming) : Type 0 where
  more : Structs
  grown : n.structs ≡ structs ++ more
  none : at_file ≡ false → n.structs ≡ structs
  sound : SoundStructs n.structs
  types : IsTrue (list_all (is_base (length n.structs)) n.types)

-- a body declares no structs, and good fields
record SoundBody (structs : Structs) (b : Body) : Type 0 where
  same : b.structs ≡ structs
  fields : IsTrue (list_all (field_sound b.structs) (values b.fields))

-- a specifier that is no struct specifier
names_none : (at_file : Bool) (structs : Structs) → SoundStructs structs → SoundNaming at_file structs (record { structs = structs; types = []; faults = [] })
names_none at_file structs h = record { more = []; grown = sym (append-nil structs); none = λ e. refl; sound = h; types = refl }

referred_good : (at_file : Bool) (structs : Structs) (tag : Word) → SoundStructs structs → (referred structs tag).faults ≡ [] → SoundNaming at_file structs (referred structs tag)
referred_good at_file structs tag h none = record {
  more = [];
  grown = sym (append-nil structs);
  none = λ e. refl;
  sound = h;
  types = both_hold _ _ (found_base (prefix_len (λ e. not (bytes_eq tag.bytes e.0)) structs) (length structs) (no_fault (is_new structs tag.bytes) UnknownName tag.span none)) refl;
}

defined_good : (at_file : Bool) (first : Span) (tag : Word) (structs : Structs) (b : Body) → SoundStructs structs → SoundBody structs b
    → (defined_by at_file first tag b).faults ≡ [] → SoundNaming at_file structs (defined_by at_file first tag b)
unfolding defined
defined_good at_file first tag structs b h body none =
    let own = append_nil_second b.faults (defined at_file first tag b.structs b.fields).faults none in
    let new = from_not_false _ (no_fault (not (is_new b.structs tag.bytes)) Redeclared tag.span (append_nil_first (fault_if (not (is_new b.structs tag.bytes)) Redeclared tag.span) (fault_if (not at_file || nat_eq (length b.fields) 0) OutOfProfile first) own)) in
    let out = no_fault (not at_file || nat_eq (length b.fields) 0) OutOfProfile first (append_nil_second (fault_if (not (is_new b.structs tag.bytes)) Redeclared tag.span) (fault_if (not at_file || nat_eq (length b.fields) 0) OutOfProfile first) own) in
    let file = from_not_false at_file (or_false_first (not at_file) (nat_eq (length b.fields) 0) out) in
    let some = or_false_second (not at_file) (nat_eq (length b.fields) 0) out in
    let grown : with_struct b.structs tag.bytes b.fields ≡ b.structs ++ (tag.bytes, struct_of b.structs b.fields) ∷ [] = new_last b.structs tag.bytes (struct_of b.structs b.fields) new in
    let sound : SoundStruct b.structs (struct_of b.structs b.fields) = record { some = grind (arith, nat_tests, some); fields = body.fields; cells = refl } in
    let all = sound_push b.structs (tag.bytes, struct_of b.structs b.fields) (subst SoundStructs (sym body.same) h) sound in
    let named = last_base b.structs tag.bytes (struct_of b.structs b.fields) in
    record {
      more = (tag.bytes, struct_of b.structs b.fields) ∷ [];
      grown = grown ∙ ap (λ x. x ++ (tag.bytes, struct_of b.structs b.fields) ∷ []) body.same;
      none = λ e. absurd (cc);
      sound = subst SoundStructs (sym grown) all;
      types = both_hold _ _ (subst (λ f. IsTrue (is_base (length (with_struct b.structs tag.bytes b.fields)) (if f then struct_type (with_struct b.structs tag.bytes b.fields) tag.bytes else ty.Bad))) (sym file)
          (subst (λ x. IsTrue (is_base (length x) (struct_type x tag.bytes))) (sym grown) named)) refl;
    }

-- ---- lists of specifiers

judged_base : (at_file : Bool) (specs : SpecTrees) (n : Naming) → IsTrue (list_all (is_base (length n.structs)) n.types) → word_faults at_file specs n.types ≡ []
    → IsTrue (is_base (length n.structs) (judged at_file specs n).given.base)
judged_base at_file specs n good none =
    let room = from_not_false _ (no_fault (not (has_storage_room at_file (keywords specs))) OutOfProfile (first_of specs) (append_nil_first (fault_if (not (has_storage_room at_file (keywords specs))) OutOfProfile (first_of specs)) (fault_if (is_none (named (keywords specs) n.types)) OutOfProfile (first_of specs)) none)) in
    let some = no_fault (is_none (named (keywords specs) n.types)) OutOfProfile (first_of specs) (append_nil_second (fault_if (not (has_storage_room at_file (keywords specs))) OutOfProfile (first_of specs)) (fault_if (is_none (named (keywords specs) n.types)) OutOfProfile (first_of specs)) none) in
    subst (λ b. IsTrue (is_base (length n.structs) (base_of b (named (keywords specs) n.types)))) (sym room) (words_name (length n.structs) (keywords specs) n.types good some)

list_base_more : (m n : ℕ) (ts : List «Type») → m ≤ n → IsTrue (list_all (is_base m) ts) → IsTrue (list_all (is_base n) ts)
list_base_more m n [] le h = refl
list_base_more m n (t ∷ ts) le h = both_hold _ _ (base_more m n t le (both_hold_first (is_base m t) (list_all (is_base m) ts) h)) (list_base_more m n ts le (both_hold_second (is_base m t) (list_all (is_base m) ts) h))

-- one specifier, and then others
then_good : (at_file : Bool) (structs : Structs) (one rest : Naming) → SoundNaming at_file structs one → SoundNaming at_file one.structs rest
    → SoundNaming at_file structs (record { structs = rest.structs; types = one.types ++ rest.types; faults = one.faults ++ rest.faults })
then_good at_file structs one rest h k =
    let long : length one.structs ≤ length rest.structs = omega (arith, ap length k.grown, length-append one.structs k.more) in
    record {
      more = h.more ++ k.more;
      grown = k.grown ∙ ap (λ x. x ++ k.more) h.grown ∙ append_assoc structs h.more k.more;
      none = λ e. k.none e ∙ h.none e;
      sound = k.sound;
      types = all_hold_append (is_base (length rest.structs)) one.types rest.types (list_base_more (length one.structs) (length rest.structs) one.types long h.types) k.types;
    }

-- a declaration of fields, by what its specifiers name
declaration_good : (structs : Structs) (fields : Fields) (s : Span) (specs : SpecTrees) (ds : List Declarator) (n : Naming) → SoundNaming false structs n
    → IsTrue (list_all (field_sound structs) (values fields))
    → (judged false specs n).faults ++ mark_faults carrier.Field (judged false specs n).given.attributes ++ (declared n.structs (judged false specs n).given fields ds).faults ≡ []
    → IsTrue (list_all (field_sound n.structs) (values (declared n.structs (judged false specs n).given fields ds).fields))
declaration_good structs fields s specs ds n h good none =
    let two = append_nil_first ((judged false specs n).faults ++ mark_faults carrier.Field (judged false specs n).given.attributes) (declared n.structs (judged false specs n).given fields ds).faults none in
    let words = append_nil_second n.faults (word_faults false specs n.types) (append_nil_first (judged false specs n).faults (mark_faults carrier.Field (judged false specs n).given.attributes) two) in
    fields_good n.structs (judged false specs n).given fields ds (judged_base false specs n h.types words)
    (subst (λ x. IsTrue (list_all (field_sound x) (values fields))) (sym (h.none refl)) good)
    (append_nil_second ((judged false specs n).faults ++ mark_faults carrier.Field (judged false specs n).given.attributes) (declared n.structs (judged false specs n).given fields ds).faults none)

mutual
  one_good : (at_file : Bool) (first : Span) (structs : Structs) (s : SpecTree) → SoundStructs structs → (named_by at_file first structs s).faults ≡ [] → SoundNaming at_file structs (named_by at_file first structs s)
  one_good at_file first structs (attribute s names) h none = names_none at_file structs h
  one_good at_file first structs (keyword s w) h none = names_none at_file structs h
  one_good at_file first structs (structure s tag no_fields) h none = referred_good at_file structs tag h none
  one_good at_file first structs (structure s tag (field_and f fs)) h none =
      let body = bodies_good structs [] (field_and f fs) h refl (append_nil_first (body_of structs [] (field_and f fs)).faults (defined at_file first tag (body_of structs [] (field_and f fs)).structs (body_of structs [] (field_and f fs)).fields).faults none) in
      defined_good at_file first tag structs (body_of structs [] (field_and f fs)) h body none

  all_good : (at_file : Bool) (first : Span) (structs : Structs) (ss : SpecTrees) → SoundStructs structs → (named_by_all at_file first structs ss).faults ≡ [] → SoundNaming at_file structs (named_by_all at_file first structs ss)
  all_good at_file first structs no_specs h none = names_none at_file structs h
  all_good at_file first structs (spec_and s ss) h none =
      let one = one_good at_file first structs s h (append_nil_first (named_by at_file first structs s).faults (named_by_all at_file first (named_by at_file first structs s).structs ss).faults none) in
      let rest = all_good at_file first (named_by at_file first structs s).structs ss one.sound (append_nil_second (named_by at_file first structs s).faults (named_by_all at_file first (named_by at_file first structs s).structs ss).faults none) in
      then_good at_file structs (named_by at_file first structs s) (named_by_all at_file first (named_by at_file first structs s).structs ss) one rest

  body_good : (structs : Structs) (fields : Fields) (f : FieldTree) → SoundStructs structs → IsTrue (list_all (field_sound structs) (values fields)) → (with_field structs fields f).faults ≡ [] → SoundBody structs (with_field structs fields f)
  body_good structs fields (field s specs ds) h good none =
      let two = append_nil_first ((judged false specs (named_by_all false (first_of specs) structs specs)).faults ++ mark_faults carrier.Field (judged false specs (named_by_all false (first_of specs) structs specs)).given.attributes) _ none in
      let named = append_nil_first (named_by_all false (first_of specs) structs specs).faults _ (append_nil_first (judged false specs (named_by_all false (first_of specs) structs specs)).faults _ two) in
      let types = all_good false (first_of specs) structs specs h named in
      record { same = types.none refl; fields = declaration_good structs fields s specs ds (named_by_all false (first_of specs) structs specs) types good none }

  bodies_good : (structs : Structs) (fields : Fields) (fs : FieldTrees) → SoundStructs structs → IsTrue (list_all (field_sound structs) (values fields)) → (body_of structs fields fs).faults ≡ [] → SoundBody structs (body_of structs fields fs)
  bodies_good structs fields no_fields h good none = record { same = refl; fields = good }
  bodies_good structs fields (field_and f fs) h good none =
      let one = body_good structs fields f h good (append_nil_first (with_field structs fields f).faults (body_of (with_field structs fields f).structs (with_field structs fields f).fields fs).faults none) in
      let rest = bodies_good (with_field structs fields f).structs (with_field structs fields f).fields fs (subst SoundStructs (sym one.same) h) one.fields (append_nil_second (with_field structs fields f).faults (body_of (with_field structs fields f).structs (with_field structs fields f).fields fs).faults none) in
      record { same = rest.same ∙ one.same; fields = rest.fields }

pub specifiers_are_sound : SpecifiersAreSound
specifiers_are_sound at_file structs specs h none =
    let types = all_good at_file (first_of specs) structs specs h (append_nil_first (named_by_all at_file (first_of specs) structs specs).faults (word_faults at_file specs (named_by_all at_file (first_of specs) structs specs).types) none) in
    let words = append_nil_second (named_by_all at_file (first_of specs) structs specs).faults (word_faults at_file specs (named_by_all at_file (first_of specs) structs specs).types) none in
    record { more = types.more; grown = types.grown; none = types.none; sound = types.sound; base = judged_base at_file specs (named_by_all at_file (first_of specs) structs specs) types.types words }
