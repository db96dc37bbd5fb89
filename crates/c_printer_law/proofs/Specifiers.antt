-- The words of specifiers and struct bodies read back.
use Rattle.std.proofs.Common.{◌≡◌, ℕ, ◌+◌, List, [], ◌∷◌, ◌++◌, true, false, Some, refl, ap, map}
use Rattle.pt_base.proofs.Booleans.{and_parts}
use Rattle.c_lexer.specs.declared.token.Token.{Token}
use Rattle.c_lexer.specs.declared.token.TokenKind.TheVariants as k
use Rattle.c_grammar.specs.declared.symbol.Symbol.TheVariants as s
use Rattle.c_grammar.specs.Builds.{keyword as a_keyword}
use Rattle.c_grammar.specs.Table.{row_of}
use Rattle.c_grammar.specs.Part.{spec, specs, fields, field}
use Rattle.c_grammar.specs.Machine.{takes, builds, wanted}
use Rattle.pt_tree.specs.declared.word.Word.{Word}
use Rattle.pt_tree.specs.declared.specifier.SpecWord.{SpecWord}
use Rattle.pt_tree.specs.declared.specifier.SpecWord.TheVariants as w
use Rattle.pt_tree.specs.SpecifierTree.{SpecTree, attribute, keyword, structure, SpecTrees, no_specs, spec_and, FieldTree, field as a_field, FieldTrees, no_fields, field_and, spec_trees, field_trees}
use Rattle.c_printer.specs.Pieces.{Gap, tight, spaced, line, fixed}
use Rattle.c_printer.specs.Kinds.{keyword_kind}
use Rattle.c_printer.specs.Specifiers.{more_names, names as name_words, declarator_words, more_declarators, declarators as declarators_words, spec_words, struct_body, more_fields, field_words, specifiers}
use Rattle.c_printer.specs.Plain.{words_plain, spec_plain, each_spec_plain, specs_plain, fields_plain, field_plain}
use Rattle.c_printer.specs.Unplaced as u
use Rattle.c_printer_law.proofs.Classes.{only, begins_spec, ends_specs, after_spec, begins_declarator}
use Rattle.c_printer_law.proofs.Declarators.{more_names_read, declarator_read, more_declarators_read}
use Rattle.c_printer_law.proofs.Steps.{Has, Stands, first, behind, over, split, Gives, Grows, grows_none, grows_more, enters, enters_by, takes_it, takes_name, builds_on, kind_here, has_here, has_at, settled, weaker, counted_from, is_fixed, wants_as}

-- the rule of a keyword
abbrev word_rule : SpecWord → ℕ
word_rule w.Extern = 14
word_rule w.Static = 15
word_rule w.Const = 16
word_rule w.Void = 17
word_rule w.Char = 18
word_rule w.Short = 19
word_rule w.Int = 20
word_rule w.Long = 21
word_rule w.Signed = 22
word_rule w.Unsigned = 23

record IsWord (x : SpecWord) : Type 0 where
  row : row_of s.Spec (keyword_kind x) ≡ Some (word_rule x)
  wants : (at : ℕ) → wanted at (word_rule x) ≡ takes (keyword_kind x) ∷ builds at (a_keyword x) ∷ []
  plain : is_fixed (keyword_kind x) ≡ true
  begins : begins_spec (keyword_kind x) ≡ true

word_of : (x : SpecWord) → IsWord x
word_of w.Extern = record { row = refl; wants = λ at. refl; plain = refl; begins = refl }
word_of x = record { row = refl; wants = λ at. refl; plain = refl; begins = refl }

-- one specifier
pub record ReadSpec (tokens : List Token) (x : SpecTree) (at next : ℕ) : Type 0 where
  pub begins : Has tokens at begins_spec
  pub gives : Gives tokens s.Spec at next spec u.spec (u.spec x)

-- at least one
pub record ReadSpecs (tokens : List Token) (ss : SpecTrees) (at next : ℕ) : Type 0 where
  pub begins : Has tokens at begins_spec
  pub gives : Gives tokens s.Specs at next specs (λ l. u.specs (spec_trees l)) (u.specs ss)

-- those behind the first
pub record MoreSpecs (tokens : List Token) (ss : SpecTrees) (at next : ℕ) : Type 0 where
  pub begins : Has tokens at after_spec
  pub grows : Grows tokens s.MoreSpecs at next specs (λ l. u.specs (spec_trees l)) (u.specs ss)

record ReadField (tokens : List Token) (f : FieldTree) (at next : ℕ) : Type 0 where
  begins : Has tokens at begins_spec
  gives : Gives tokens s.Field at next field u.field_tree (u.field_tree f)

keyword_read : (tokens : List Token) (x : SpecWord) (gap : Gap) (at next : ℕ) → Stands tokens at (fixed gap (keyword_kind x) ∷ []) next → Gives tokens s.Spec at next spec u.spec (keyword u.nowhere x)
keyword_read tokens x gap at next h =
    let rule = word_of x in
    record {
      tree = keyword _ x;
      alike = refl;
      from = λ {rest} {parts} {o} c. enters (word_rule x) (kind_here (first h)) rule.row (wants_as at (word_rule x) rest (rule.wants at) (takes_it (first h) rule.plain (builds_on (settled (over (behind h)) c))));
    }

attribute_read : (tokens : List Token) (ws : List Word) (gap : Gap) (at next : ℕ) → words_plain ws ≡ true → Stands tokens at (fixed gap k.Attribute ∷ fixed tight k.OpenParen ∷ fixed tight k.OpenParen ∷ (name_words ws ++ (fixed tight k.CloseParen ∷ fixed tight k.CloseParen ∷ []))) next → Gives tokens s.Spec at next spec u.spec (attribute u.nowhere (map u.word ws))
attribute_read tokens [] gap at next plain h = cc
attribute_read tokens (w ∷ ws) gap at next plain h =
    let inner = behind (behind (behind h)) in
    let name = first inner in
    let both = split (more_names ws) (fixed tight k.CloseParen ∷ fixed tight k.CloseParen ∷ []) (behind inner) in
    let closing = both.right in
    let more = more_names_read tokens ws (at + 1 + 1 + 1 + 1) both.mid both.left (has_here (only k.CloseParen) (first closing) refl) in
    record {
      tree = attribute _ (record { span = name.token.span; bytes = w.bytes } ∷ more.new);
      alike = ap (λ l. attribute u.nowhere (u.word w ∷ l)) more.alike;
      from = λ {rest} {parts} {o} c.
          enters 13 (kind_here (first h)) refl (enters 25 (kind_here (first h)) refl (takes_it (first h) refl (takes_it (first (behind h)) refl (takes_it (first (behind (behind h))) refl (takes_name name (builds_on (
          more.from (record { span = name.token.span; bytes = w.bytes } ∷ []) (takes_it (first closing) refl (takes_it (first (behind closing)) refl (builds_on (settled (over (behind (behind closing))) c)))))))))));
    }

mutual
  pub spec_read : (tokens : List Token) (x : SpecTree) (gap : Gap) (at next : ℕ) → spec_plain x ≡ true → Stands tokens at (spec_words x gap) next → Has tokens next after_spec → ReadSpec tokens x at next
  spec_read tokens (attribute here ws) gap at next plain h end = record { begins = has_here begins_spec (first h) refl; gives = attribute_read tokens ws gap at next plain h }
  spec_read tokens (keyword here x) gap at next plain h end = record { begins = has_here begins_spec (first h) (word_of x).begins; gives = keyword_read tokens x gap at next h }
  spec_read tokens (structure here tag fs) gap at next plain h end =
      let name = first (behind h) in
      let body = body_read tokens fs (at + 1 + 1) next (and_parts _ _ plain).1 (behind (behind h)) end in
      record {
        begins = has_here begins_spec (first h) refl;
        gives = record {
          tree = structure _ (record { span = name.token.span; bytes = tag.bytes }) (field_trees body.tree);
          alike = ap (λ l. structure u.nowhere (u.word tag) l) body.alike;
          from = λ {rest} {parts} {o} c. enters 24 (kind_here (first h)) refl (enters 28 (kind_here (first h)) refl (takes_it (first h) refl (takes_name name (body.from (builds_on c)))));
        };
      }

  body_read : (tokens : List Token) (fs : FieldTrees) (at next : ℕ) → fields_plain fs ≡ true → Stands tokens at (struct_body fs) next → Has tokens next after_spec → Gives tokens s.StructBody at next fields (λ l. u.fields (field_trees l)) (u.fields fs)
  body_read tokens no_fields at next plain h end = record { tree = []; alike = refl; from = λ {rest} {parts} {o} c. enters_by after_spec 30 refl (has_at (over h) end) (builds_on (settled (over h) c)) }
  body_read tokens (field_and f rest) at next plain h end =
      let both = and_parts _ _ plain in
      let one = split (field_words f) (more_fields rest ++ (fixed (line 0) k.CloseBrace ∷ [])) (behind h) in
      let two = split (more_fields rest) (fixed (line 0) k.CloseBrace ∷ []) one.right in
      let head = field_read tokens f (at + 1) one.mid both.0 one.left in
      let more = more_fields_read tokens rest one.mid two.mid both.1 two.left (has_here (only k.CloseBrace) (first two.right) refl) in
      record {
        tree = head.gives.tree ∷ more.new;
        alike = cc;
        from = λ {rest} {parts} {o} c. enters 29 (kind_here (first h)) refl (takes_it (first h) refl (counted_from head.gives (builds_on (more.from (head.gives.tree ∷ []) (takes_it (first two.right) refl (settled (over (behind two.right)) c))))));
      }

  more_fields_read : (tokens : List Token) (fs : FieldTrees) (at next : ℕ) → fields_plain fs ≡ true → Stands tokens at (more_fields fs) next → Has tokens next (only k.CloseBrace) → Grows tokens s.Fields at next fields (λ l. u.fields (field_trees l)) (u.fields fs)
  more_fields_read tokens no_fields at next plain h end = grows_none (only k.CloseBrace) 32 refl refl (over h) end refl
  more_fields_read tokens (field_and f rest) at next plain h end =
      let both = and_parts _ _ plain in
      let one = split (field_words f) (more_fields rest) h in
      let head = field_read tokens f at one.mid both.0 one.left in
      let more = more_fields_read tokens rest one.mid next both.1 one.right end in
      grows_more head.gives.tree more (λ before rest parts o c. enters_by begins_spec 31 refl head.begins (counted_from head.gives (builds_on c))) (cc)

  field_read : (tokens : List Token) (f : FieldTree) (at next : ℕ) → field_plain f ≡ true → Stands tokens at (field_words f) next → ReadField tokens f at next
  field_read tokens (a_field here ss []) at next plain h = absurd (none_plain (and_parts (specs_plain ss) false plain).1)
    where
      none_plain : false ≡ true → ⊥
      none_plain e = cc
  field_read tokens (a_field here ss (d ∷ ds)) at next plain h =
      let both = and_parts _ _ plain in
      let one = split (specifiers ss (line 1)) (declarators_words (d ∷ ds) ++ (fixed tight k.Semicolon ∷ [])) h in
      let two = split (declarators_words (d ∷ ds)) (fixed tight k.Semicolon ∷ []) one.right in
      let three = split (declarator_words d) (more_declarators ds) two.left in
      let more = more_declarators_read tokens ds three.mid two.mid three.right (has_here (only k.Semicolon) (first two.right) refl) in
      let head = declarator_read tokens d one.mid three.mid three.left more.begins in
      let before = specs_read tokens ss (line 1) at one.mid both.0 one.left (weaker begins_declarator ends_specs refl head.begins) in
      record {
        begins = before.begins;
        gives = record {
          tree = a_field _ (spec_trees before.gives.tree) (head.gives.tree ∷ more.grows.new);
          alike = cc;
          from = λ {rest} {parts} {o} c. enters_by begins_spec 33 refl before.begins (before.gives.from (head.gives.from (builds_on (more.grows.from (head.gives.tree ∷ []) (takes_it (first two.right) refl (builds_on (settled (over (behind two.right)) c)))))));
        };
      }

  pub specs_read : (tokens : List Token) (ss : SpecTrees) (gap : Gap) (at next : ℕ) → specs_plain ss ≡ true → Stands tokens at (specifiers ss gap) next → Has tokens next ends_specs → ReadSpecs tokens ss at next
  specs_read tokens no_specs gap at next plain h end = cc
  specs_read tokens (spec_and x rest) gap at next plain h end =
      let both = and_parts _ _ plain in
      let one = split (spec_words x gap) (specifiers rest spaced) h in
      let more = more_specs_read tokens rest one.mid next both.1 one.right end in
      let head = spec_read tokens x gap at one.mid both.0 one.left more.begins in
      record {
        begins = head.begins;
        gives = record {
          tree = head.gives.tree ∷ more.grows.new;
          alike = cc;
          from = λ {rest} {parts} {o} c. enters_by begins_spec 10 refl head.begins (head.gives.from (builds_on (more.grows.from (head.gives.tree ∷ []) c)));
        };
      }

  more_specs_read : (tokens : List Token) (ss : SpecTrees) (at next : ℕ) → each_spec_plain ss ≡ true → Stands tokens at (specifiers ss spaced) next → Has tokens next ends_specs → MoreSpecs tokens ss at next
  more_specs_read tokens no_specs at next plain h end = record { begins = has_at (over h) (weaker ends_specs after_spec refl end); grows = grows_none ends_specs 12 refl refl (over h) end refl }
  more_specs_read tokens (spec_and x rest) at next plain h end =
      let both = and_parts _ _ plain in
      let one = split (spec_words x spaced) (specifiers rest spaced) h in
      let more = more_specs_read tokens rest one.mid next both.1 one.right end in
      let head = spec_read tokens x spaced at one.mid both.0 one.left more.begins in
      record {
        begins = weaker begins_spec after_spec refl head.begins;
        grows = grows_more head.gives.tree more.grows (λ before rest parts o c. enters_by begins_spec 11 refl head.begins (head.gives.from (builds_on c))) (cc);
      }
