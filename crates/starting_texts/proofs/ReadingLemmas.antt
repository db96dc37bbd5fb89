-- What the table's text is read as: an object that has its entry under each host's name.
use Rattle.std.proofs.Common.{◌≡◌, ◌∙◌, ◌≤◌, ℕ, Bool, true, false, cond, not, nat_lt, is_some, List, [], ◌∷◌, ◌++◌, filter, codes, Option, Some, None, option_map, option_and_then, IsUtf8, refl, sym, ap, subst, arith, append-nil, lt-ltb}
use Rattle.std.specs.Fmt.{digits}
use Rattle.std.specs.List.{list_all, list_any, join_with_byte}
use Rattle.std.specs.Str.{bytes_eq}
use Rattle.std.proofs.lemmas.Bool.{and_parts, and_from, or_parts, both_ways, not-true}
use Rattle.std.proofs.lemmas.Slice.Eq.{bytes_eq-Decides}
use Rattle.std.proofs.lemmas.Str.{IsUtf8-append, IsUtf8-nil, is_utf8-from_IsUtf8}
use Rattle.c_lexer.specs.Bytes.{is_word_byte}
use Rattle.c_lexer.specs.Lexemes.{is_identifier}
use Rattle.json.proofs.Printed.Tokens.{tokens-print}
use Rattle.json.proofs.Printed.Trees.{value-json_tokens, ArePrintable-json_tokens}
use Rattle.json.proofs.Printed.Utf8.{are_ascii, IsUtf8-are_ascii}
use Rattle.json.specs.Json as json
use Rattle.json.specs.Lex.{tokens}
use Rattle.json.specs.Token.{Token}
use Rattle.json.specs.Tree as tree
use Rattle.json.specs.Word.{after_number}
use Rattle.pt_tree.specs.declared.signature.Signature.{Signature}
use Rattle.serde_json.proofs.OnLiterals.{serde_json_on_literals}
use Rattle.serde_json.proofs.Texts.{print-outline}
use Rattle.serde_json.proofs.Views.{get_member-put, get_member-put_other}
use Rattle.serde_json.specs.Data.{Data, number, unsigned, string, array, object, no_items, Members, no_members, member, put}
use Rattle.serde_json.specs.Find.{get, get_member}
use Rattle.serde_json.specs.Read.{of_json, of_members, read, max_depth}
use Rattle.serde_json.specs.Written.{compact_text, outline, members_outline}
use Rattle.typed_tree.specs.TypedTree.{TypedTree, signatures_of}
use Rattle.typed_tree.specs.WellFormed.{are_distinct}
use Rattle.host_table.specs.HostFaults.{reading_of}
use Rattle.starting_texts.specs.Names.{HasPlainNames}
use Rattle.starting_texts.specs.TableData.{zero_entry, line_entry, entry_data, members_data, table_data}
use Rattle.starting_texts.specs.Tables.{entry_text, key_text, member_text, hosts_of, table_text}
use Rattle.starting_texts.proofs.CompactLemmas.{identifiers, compact}
use Rattle.starting_texts.proofs.NameLemmas.{names_of, hosts_named, word_bytes, word_high}
use Rattle.starting_texts.proofs.TableLemmas.{behind_commas, joined, members_of}

-- ---- a compact text is read

-- what tokens come to
abbrev whole : Option (json.Json × List Token) → Option Data
whole o = option_and_then of_json (option_and_then (λ p. json.if_last p.0 p.1) o)

reads_back : (d found : Data) → tree.HasNumbers (outline d) → tree.depth (outline d) ≤ max_depth → of_json (outline d) ≡ Some found → read (compact_text d) ≡ Some found
reads_back d found numbers shallow is =
    ap (λ (ts : List Token). whole (json.value max_depth ts)) (
    ap tokens (sym (print-outline d)) ∙ tokens-print (tree.json_tokens (outline d)) (ArePrintable-json_tokens (outline d) numbers) ∙ sym (append-nil (tree.json_tokens (outline d))))
    ∙ ap whole (value-json_tokens (outline d) max_depth [] shallow)
    ∙ is

-- ---- the entries

-- an object that is read has its members in the order of their keys
abbrev pub zero_found : Data
zero_found =
    object (member (codes "else") (number (unsigned 0))
    (member (codes "kind") (string (codes "table")) (member (codes "rows") (array no_items) no_members)))

abbrev pub entry_found : Signature → Data
entry_found s = cond (is_some s.result) zero_found line_entry

zero_read : of_json (outline zero_entry) ≡ Some zero_found
unfolding serde_json_on_literals digits
zero_read = refl

line_read : of_json (outline line_entry) ≡ Some line_entry
unfolding serde_json_on_literals digits
line_read = refl

entry_read : (s : Signature) → of_json (outline (entry_data s)) ≡ Some (entry_found s)
entry_read s = go (is_some s.result)
  where
    go : (b : Bool) → of_json (outline (cond b zero_entry line_entry)) ≡ Some (cond b zero_found line_entry)
    go true = zero_read
    go false = line_read

zero_numbers : tree.HasNumbers (outline zero_entry)
unfolding after_number digits
zero_numbers = (tt, (tt, (refl, tt)))

line_numbers : tree.HasNumbers (outline line_entry)
line_numbers = (tt, tt)

entry_numbers : (s : Signature) → tree.HasNumbers (outline (entry_data s))
entry_numbers s = go (is_some s.result)
  where
    go : (b : Bool) → tree.HasNumbers (outline (cond b zero_entry line_entry))
    go true = zero_numbers
    go false = line_numbers

members_numbers : (hosts : List Signature) → tree.MembersHaveNumbers (members_outline (members_data hosts))
members_numbers [] = tt
members_numbers (s ∷ hosts) = (entry_numbers s, members_numbers hosts)

entry_shallow : (s : Signature) → tree.depth (outline (entry_data s)) ≤ 2
entry_shallow s = go (is_some s.result)
  where
    go : (b : Bool) → tree.depth (outline (cond b zero_entry line_entry)) ≤ 2
    go true = omega arith
    go false = omega arith

members_shallow : (hosts : List Signature) → tree.members_depth (members_outline (members_data hosts)) ≤ 2
members_shallow [] = omega arith
members_shallow (s ∷ hosts) =
    let here : tree.depth (outline (entry_data s)) ≤ 2 = entry_shallow s in
    let rest : tree.members_depth (members_outline (members_data hosts)) ≤ 2 = members_shallow hosts in
    omega arith

-- ---- the object

-- these members, and then those of the hosts among these functions
abbrev pub found_after : List Signature → Members → Members
found_after [] ms = ms
found_after (s ∷ fns) ms = found_after fns (cond s.host (put s.name (entry_found s) ms) ms)

members_read : (fns : List Signature) (ms : Members) → of_members (members_outline (members_data (filter (λ (s : Signature). s.host) fns))) ms ≡ Some (found_after fns ms)
members_read [] ms = refl
members_read (s ∷ fns) ms = go s.host (λ found. members_read fns found)
  where
    hosts : List Signature
    hosts = filter (λ (s : Signature). s.host) fns

    go : (b : Bool) → ((found : Members) → of_members (members_outline (members_data hosts)) found ≡ Some (found_after fns found))
        → of_members (members_outline (members_data (cond b (s ∷ hosts) hosts))) ms ≡ Some (found_after fns (cond b (put s.name (entry_found s) ms) ms))
    go true rest = ap (option_and_then (λ (d : Data). of_members (members_outline (members_data hosts)) (put s.name d ms))) (entry_read s) ∙ rest (put s.name (entry_found s) ms)
    go false rest = rest ms

abbrev pub table_found : TypedTree → Data
table_found t = object (found_after (signatures_of t) no_members)

table_read : (t : TypedTree) → of_json (outline (table_data t)) ≡ Some (table_found t)
table_read t = ap (option_map object) (members_read (signatures_of t) no_members)

-- ---- the text is UTF-8

words_ascii : (w : List ℕ) → list_all is_word_byte w ≡ true → are_ascii w ≡ true
words_ascii [] h = refl
words_ascii (b ∷ bs) h =
    let both = and_parts (is_word_byte b) (list_all is_word_byte bs) h in
    and_from (nat_lt b 128) (are_ascii bs) (lt-ltb b 128 (word_high b both.0)) (words_ascii bs both.1)

entry_utf8 : (s : Signature) → IsUtf8 (entry_text s)
entry_utf8 s = go (is_some s.result)
  where
    go : (b : Bool) → IsUtf8 (cond b (codes "{\"kind\":\"table\",\"rows\":[],\"else\":0}") (codes "{\"kind\":\"line\"}"))
    go true = IsUtf8-are_ascii (codes "{\"kind\":\"table\",\"rows\":[],\"else\":0}") refl
    go false = IsUtf8-are_ascii (codes "{\"kind\":\"line\"}") refl

key_utf8 : (w : List ℕ) → is_identifier w ≡ true → IsUtf8 (key_text w)
key_utf8 w h =
    IsUtf8-append (codes "\"" ++ w) (codes "\":")
    (IsUtf8-append (codes "\"") w (IsUtf8-are_ascii (codes "\"") refl) (IsUtf8-are_ascii w (words_ascii w (word_bytes w h))))
    (IsUtf8-are_ascii (codes "\":") refl)

member_utf8 : (s : Signature) → is_identifier s.name ≡ true → IsUtf8 (member_text s)
member_utf8 s h = IsUtf8-append (key_text s.name) (entry_text s) (key_utf8 s.name h) (entry_utf8 s)

later_utf8 : (hosts : List Signature) → list_all is_identifier (names_of hosts) ≡ true → IsUtf8 (behind_commas (members_of hosts))
later_utf8 [] h = IsUtf8-nil
later_utf8 (s ∷ hosts) h =
    let both = and_parts (is_identifier s.name) (list_all is_identifier (names_of hosts)) h in
    IsUtf8-append (44 ∷ member_text s) (behind_commas (members_of hosts))
    (IsUtf8-append (44 ∷ []) (member_text s) (IsUtf8-are_ascii (44 ∷ []) refl) (member_utf8 s both.0))
    (later_utf8 hosts both.1)

joined_utf8 : (hosts : List Signature) → list_all is_identifier (names_of hosts) ≡ true → IsUtf8 (join_with_byte 44 (members_of hosts))
joined_utf8 [] h = IsUtf8-nil
joined_utf8 (s ∷ hosts) h =
    let both = and_parts (is_identifier s.name) (list_all is_identifier (names_of hosts)) h in
    subst IsUtf8 (sym (joined (member_text s) (members_of hosts)))
    (IsUtf8-append (member_text s) (behind_commas (members_of hosts)) (member_utf8 s both.0) (later_utf8 hosts both.1))

table_utf8 : (t : TypedTree) → HasPlainNames t → IsUtf8 (table_text t)
table_utf8 t plain =
    let members : List ℕ = join_with_byte 44 (members_of (hosts_of t)) in
    IsUtf8-append (codes "{" ++ members) (codes "}")
    (IsUtf8-append (codes "{") members (IsUtf8-are_ascii (codes "{") refl) (joined_utf8 (hosts_of t) (hosts_named (signatures_of t) (identifiers t plain))))
    (IsUtf8-are_ascii (codes "}") refl)

pub table_reading : (t : TypedTree) → HasPlainNames t → reading_of (table_text t) ≡ Some (table_found t)
table_reading t plain =
    let members : tree.members_depth (members_outline (members_data (hosts_of t))) ≤ 2 = members_shallow (hosts_of t) in
    let shallow : tree.depth (outline (table_data t)) ≤ max_depth = omega arith in
    ap (λ b. cond b (read (table_text t)) None) (is_utf8-from_IsUtf8 (table_text t) (table_utf8 t plain))
    ∙ ap read (compact t plain)
    ∙ reads_back (table_data t) (table_found t) (members_numbers (hosts_of t)) shallow (table_read t)

-- ---- what stands under each name

-- each host among these functions has its entry
abbrev pub HaveEntries : Data → List Signature → Type 0
HaveEntries table [] = Unit {0}
HaveEntries table (s ∷ fns) = (s.host ≡ true → get s.name table ≡ Some (entry_found s)) × HaveEntries table fns

-- further functions leave a member of another name as it is
kept : (fns : List Signature) (name : List ℕ) (ms : Members) (d : Data) → list_any (bytes_eq name) (names_of fns) ≡ false → get_member name ms ≡ Some d → get_member name (found_after fns ms) ≡ Some d
kept [] name ms d none is = is
kept (s ∷ fns) name ms d none is =
    let both = or_parts (bytes_eq name s.name) (list_any (bytes_eq name) (names_of fns)) none in
    go s.host both.0 (λ found at. kept fns name found d both.1 at)
  where
    go : (b : Bool) → bytes_eq name s.name ≡ false → ((found : Members) → get_member name found ≡ Some d → get_member name (found_after fns found) ≡ Some d)
        → get_member name (found_after fns (cond b (put s.name (entry_found s) ms) ms)) ≡ Some d
    go true other rest =
        rest (put s.name (entry_found s) ms)
        (get_member-put_other name s.name (entry_found s) ms (λ same. both_ways (bytes_eq name s.name) other ((bytes_eq-Decides name s.name).1 same)) ∙ is)
    go false other rest = rest ms is

pub have_entries : (fns : List Signature) (ms : Members) → are_distinct (names_of fns) ≡ true → HaveEntries (object (found_after fns ms)) fns
have_entries [] ms distinct = tt
have_entries (s ∷ fns) ms distinct =
    let both = and_parts (not (list_any (bytes_eq s.name) (names_of fns))) (are_distinct (names_of fns)) distinct in
    let alone = not-true (list_any (bytes_eq s.name) (names_of fns)) both.0 in (
      λ host.
          ap (λ b. get_member s.name (found_after fns (cond b (put s.name (entry_found s) ms) ms))) host
          ∙ kept fns s.name (put s.name (entry_found s) ms) (entry_found s) alone (get_member-put s.name (entry_found s) ms),
      have_entries fns (cond s.host (put s.name (entry_found s) ms) ms) both.1,
    )
