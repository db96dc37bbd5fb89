-- The table's text is the compact text of its value.
use Rattle.std.proofs.Common.{◌≡◌, ◌∙◌, ◌≤◌, ℕ, Bool, true, false, cond, is_some, List, [], ◌∷◌, ◌++◌, codes, refl, sym, ap, ap₂, arith, append_assoc}
use Rattle.std.specs.Fmt.{digits}
use Rattle.std.specs.List.{list_all, join_with_byte}
use Rattle.std.proofs.lemmas.Bool.{and_parts}
use Rattle.c_lexer.specs.Bytes.{is_word_byte}
use Rattle.c_lexer.specs.Lexemes.{is_identifier}
use Rattle.json.proofs.Printed.Strings.{escape_byte_plain}
use Rattle.json.specs.Print.{escape, escape_byte, quoted}
use Rattle.pt_tree.specs.declared.signature.Signature.{Signature}
use Rattle.serde_json.specs.Written.{compact_text, members_text}
use Rattle.typed_tree.specs.TypedTree.{TypedTree, signatures_of}
use Rattle.starting_texts.specs.Laws.{TablesAreCompact}
use Rattle.starting_texts.specs.Names.{HasPlainNames}
use Rattle.starting_texts.specs.TableData.{zero_entry, line_entry, entry_data, members_data}
use Rattle.starting_texts.specs.Tables.{entry_text, member_text, hosts_of}
use Rattle.starting_texts.proofs.NameLemmas.{names_of, names_are, hosts_named, not_word, word_bytes, word_low}
use Rattle.starting_texts.proofs.TableLemmas.{behind_commas, joined, members_of}

-- the bytes of a word need no escape
words_escaped : (w : List ℕ) → list_all is_word_byte w ≡ true → escape w ≡ w
words_escaped [] h = refl
words_escaped (b ∷ bs) h =
    let both = and_parts (is_word_byte b) (list_all is_word_byte bs) h in
    let low : 48 ≤ b = word_low b both.0 in
    ap₂ (λ (xs ys : List ℕ). xs ++ ys) (escape_byte_plain b (not_word 34 b refl both.0) (not_word 92 b refl both.0) (omega arith)) (words_escaped bs both.1)

zero_text : compact_text zero_entry ≡ codes "{\"kind\":\"table\",\"rows\":[],\"else\":0}"
unfolding escape_byte digits
zero_text = refl

line_text : compact_text line_entry ≡ codes "{\"kind\":\"line\"}"
unfolding escape_byte digits
line_text = refl

entry_compact : (s : Signature) → compact_text (entry_data s) ≡ entry_text s
entry_compact s = go (is_some s.result)
  where
    go : (b : Bool) → compact_text (cond b zero_entry line_entry) ≡ cond b (codes "{\"kind\":\"table\",\"rows\":[],\"else\":0}") (codes "{\"kind\":\"line\"}")
    go true = zero_text
    go false = line_text

-- a member, with what stands behind it
member_then : (s : Signature) (rest : List ℕ) → is_identifier s.name ≡ true → quoted s.name ++ 58 ∷ (compact_text (entry_data s) ++ rest) ≡ member_text s ++ rest
member_then s rest h =
    ap (λ (xs : List ℕ). 34 ∷ ((xs ++ 34 ∷ []) ++ 58 ∷ (compact_text (entry_data s) ++ rest))) (words_escaped s.name (word_bytes s.name h))
    ∙ ap (λ (xs : List ℕ). 34 ∷ ((s.name ++ 34 ∷ []) ++ 58 ∷ (xs ++ rest))) (entry_compact s)
    ∙ ap (λ (xs : List ℕ). 34 ∷ xs) (append_assoc s.name (34 ∷ []) (58 ∷ (entry_text s ++ rest)))
    ∙ ap (λ (xs : List ℕ). 34 ∷ xs) (sym (append_assoc s.name (34 ∷ 58 ∷ []) (entry_text s ++ rest)))
    ∙ ap (λ (xs : List ℕ). 34 ∷ xs) (sym (append_assoc (s.name ++ 34 ∷ 58 ∷ []) (entry_text s) rest))

later_members : (hosts : List Signature) → list_all is_identifier (names_of hosts) ≡ true → members_text true (members_data hosts) ≡ behind_commas (members_of hosts) ++ 125 ∷ []
later_members [] h = refl
later_members (s ∷ hosts) h =
    let both = and_parts (is_identifier s.name) (list_all is_identifier (names_of hosts)) h in
    ap (λ (xs : List ℕ). 44 ∷ xs) (
    member_then s (members_text true (members_data hosts)) both.0
    ∙ ap (λ (xs : List ℕ). member_text s ++ xs) (later_members hosts both.1)
    ∙ sym (append_assoc (member_text s) (behind_commas (members_of hosts)) (125 ∷ [])))

all_members : (hosts : List Signature) → list_all is_identifier (names_of hosts) ≡ true → members_text false (members_data hosts) ≡ join_with_byte 44 (members_of hosts) ++ 125 ∷ []
all_members [] h = refl
all_members (s ∷ hosts) h =
    let both = and_parts (is_identifier s.name) (list_all is_identifier (names_of hosts)) h in
    member_then s (members_text true (members_data hosts)) both.0
    ∙ ap (λ (xs : List ℕ). member_text s ++ xs) (later_members hosts both.1)
    ∙ sym (append_assoc (member_text s) (behind_commas (members_of hosts)) (125 ∷ []))
    ∙ ap (λ (xs : List ℕ). xs ++ 125 ∷ []) (sym (joined (member_text s) (members_of hosts)))

-- the names of the signatures
pub identifiers : (t : TypedTree) → HasPlainNames t → list_all is_identifier (names_of (signatures_of t)) ≡ true
identifiers t plain = ap (list_all is_identifier) (names_are t.functions) ∙ plain.identifiers

pub compact : TablesAreCompact
compact t plain = ap (λ (xs : List ℕ). 123 ∷ xs) (sym (all_members (hosts_of t) (hosts_named (signatures_of t) (identifiers t plain))))
