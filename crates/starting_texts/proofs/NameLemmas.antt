-- What identifiers are made of, and functions by their names.
use Rattle.std.proofs.Common.{◌≡◌, ◌∙◌, ◌<◌, ◌≤◌, ◌+◌, ℕ, zero, suc, Bool, true, false, cond, not, List, [], ◌∷◌, map, filter, slice_get, Option, Some, refl, sym, ap, subst, arith}
use Rattle.std.specs.List.{list_all, list_any, position_from}
use Rattle.std.specs.Str.{bytes_eq}
use Rattle.std.proofs.lemmas.Bool.{and_parts, and_from, or_left, or_right, both_ways, not-true}
use Rattle.std.proofs.lemmas.Bool.Decides.{nat_tests}
use Rattle.std.proofs.lemmas.Option.{none-some, same_Some}
use Rattle.std.proofs.lemmas.Slice.Eq.{bytes_eq-Decides}
use Rattle.c_lexer.proofs.Firsts.{nondigit_is_word}
use Rattle.c_lexer.specs.Bytes.{is_nondigit, is_word_byte}
use Rattle.c_lexer.specs.Lexemes.{is_identifier}
use Rattle.pt_tree.specs.declared.signature.Signature.{Signature}
use Rattle.typed_tree.specs.TypedTree.{FunctionTree}
use Rattle.typed_tree.specs.WellFormed.{name_of, are_distinct}

-- ---- bytes of identifiers

-- what holds of each byte of a word holds of each byte of an identifier
pub all_of : (p q : ℕ → Bool) → ((b : ℕ) → p b ≡ true → q b ≡ true) → (bs : List ℕ) → list_all p bs ≡ true → list_all q bs ≡ true
all_of p q one [] h = refl
all_of p q one (b ∷ bs) h = let both = and_parts (p b) (list_all p bs) h in and_from (q b) (list_all q bs) (one b both.0) (all_of p q one bs both.1)

pub word_bytes : (w : List ℕ) → is_identifier w ≡ true → list_all is_word_byte w ≡ true
word_bytes [] h = refl
word_bytes (b ∷ bs) h =
    let both = and_parts (is_nondigit b) (list_all is_word_byte bs) h in
    and_from (is_word_byte b) (list_all is_word_byte bs) (nondigit_is_word b both.0) both.1

-- a byte of a word is no other byte
pub not_word : (n b : ℕ) → is_word_byte n ≡ false → is_word_byte b ≡ true → b ≡ n → ⊥
not_word n b other word same = both_ways (is_word_byte n) other (subst (λ (x : ℕ). is_word_byte x ≡ true) same word)

pub word_low : (b : ℕ) → is_word_byte b ≡ true → 48 ≤ b
word_low b h = grind (arith, nat_tests)

pub word_high : (b : ℕ) → is_word_byte b ≡ true → b < 128
word_high b h = grind (arith, nat_tests)

-- ---- names of functions

abbrev pub names_of : List Signature → List (List ℕ)
names_of fns = map (λ (s : Signature). s.name) fns

pub names_are : (fs : List FunctionTree) → names_of (map (λ (f : FunctionTree). f.signature) fs) ≡ map name_of fs
names_are [] = refl
names_are (f ∷ fs) = ap (λ (ns : List (List ℕ)). name_of f ∷ ns) (names_are fs)

pub identifier_at : (fns : List Signature) (k : ℕ) (s : Signature) → list_all is_identifier (names_of fns) ≡ true → slice_get fns k ≡ Some s → is_identifier s.name ≡ true
identifier_at [] zero s h at = absurd (none-some s at)
identifier_at [] (suc k) s h at = absurd (none-some s at)
identifier_at (r ∷ fns) zero s h at = subst (λ (x : Signature). is_identifier x.name ≡ true) (same_Some r s at) (and_parts (is_identifier r.name) (list_all is_identifier (names_of fns)) h).0
identifier_at (r ∷ fns) (suc k) s h at = identifier_at fns k s (and_parts (is_identifier r.name) (list_all is_identifier (names_of fns)) h).1 at

-- hosts are functions
pub hosts_named : (fns : List Signature) → list_all is_identifier (names_of fns) ≡ true → list_all is_identifier (names_of (filter (λ (s : Signature). s.host) fns)) ≡ true
hosts_named [] h = refl
hosts_named (s ∷ fns) h =
    let both = and_parts (is_identifier s.name) (list_all is_identifier (names_of fns)) h in
    go s.host both.0 (hosts_named fns both.1)
  where
    hosts : List Signature
    hosts = filter (λ (s : Signature). s.host) fns

    go : (b : Bool) → is_identifier s.name ≡ true → list_all is_identifier (names_of hosts) ≡ true → list_all is_identifier (names_of (cond b (s ∷ hosts) hosts)) ≡ true
    go true here rest = and_from (is_identifier s.name) (list_all is_identifier (names_of hosts)) here rest
    go false here rest = rest

-- a function's name stands among the names
stands : (fns : List Signature) (k : ℕ) (s : Signature) (name : List ℕ) → slice_get fns k ≡ Some s → bytes_eq name s.name ≡ true → list_any (bytes_eq name) (names_of fns) ≡ true
stands [] zero s name at same = absurd (none-some s at)
stands [] (suc k) s name at same = absurd (none-some s at)
stands (r ∷ fns) zero s name at same =
    or_left (bytes_eq name r.name) (list_any (bytes_eq name) (names_of fns)) (subst (λ (x : Signature). bytes_eq name x.name ≡ true) (sym (same_Some r s at)) same)
stands (r ∷ fns) (suc k) s name at same = or_right (bytes_eq name r.name) (list_any (bytes_eq name) (names_of fns)) (stands fns k s name at same)

-- where names are distinct, a function is the one of its name
pub named_at : (fns : List Signature) (i k : ℕ) (s : Signature) → are_distinct (names_of fns) ≡ true → slice_get fns k ≡ Some s
    → position_from (λ (r : Signature). bytes_eq r.name s.name) i fns ≡ Some (i + k)
named_at [] i zero s distinct at = absurd (none-some s at)
named_at [] i (suc k) s distinct at = absurd (none-some s at)
named_at (r ∷ fns) i zero s distinct at =
    let same : bytes_eq r.name s.name ≡ true = (bytes_eq-Decides r.name s.name).1 (ap (λ (x : Signature). x.name) (same_Some r s at)) in
    ap (λ b. cond b (Some i) (position_from (λ (x : Signature). bytes_eq x.name s.name) (i + 1) fns)) same ∙ ap Some (omega arith)
named_at (r ∷ fns) i (suc k) s distinct at =
    let both = and_parts (not (list_any (bytes_eq r.name) (names_of fns))) (are_distinct (names_of fns)) distinct in
    go (bytes_eq r.name s.name) refl (not-true (list_any (bytes_eq r.name) (names_of fns)) both.0) (named_at fns (i + 1) k s both.1 at)
  where
    rest : Option ℕ
    rest = position_from (λ (x : Signature). bytes_eq x.name s.name) (i + 1) fns

    go : (b : Bool) → bytes_eq r.name s.name ≡ b → list_any (bytes_eq r.name) (names_of fns) ≡ false → rest ≡ Some (i + 1 + k) → cond b (Some i) rest ≡ Some (i + suc k)
    go true same alone found = absurd (both_ways (list_any (bytes_eq r.name) (names_of fns)) alone (stands fns k s r.name at same))
    go false other alone found = found ∙ ap Some (omega arith)
