-- The combinations of type words (C99 6.7.2p2) that this profile has, and what else keywords say.
use Rattle.std.specs.Prelude.{ℕ, List, [], ◌∷◌, Bool, true, false, ◌&&◌, Option, Some, None, fold, if◌then◌else◌}
use Rattle.std.specs.List.{list_any}
use Rattle.pt_base.specs.declared.int_type.IntType.TheVariants as int
use Rattle.pt_tree.specs.declared.specifier.SpecWord.{SpecWord}
use Rattle.pt_tree.specs.declared.specifier.SpecWord.TheVariants.{Extern, Static, Const, Void, Char, Short, Int, Long, Signed, Unsigned}
use Rattle.type_rules.specs.declared.types.Type.{«Type»}
use Rattle.type_rules.specs.declared.types.Type.TheVariants as ty
use Rattle.check_declarations.specs.declared.words.Often.{Often}
use Rattle.check_declarations.specs.declared.words.Often.TheVariants.{Never, Once, Again}
use Rattle.check_declarations.specs.declared.words.TypeWords.{TypeWords}

-- ---- the combinations, as the standard lists them; the words may stand in any order

abbrev pub short_words : List (List SpecWord)
short_words = (Short ∷ []) ∷ (Signed ∷ Short ∷ []) ∷ (Short ∷ Int ∷ []) ∷ (Signed ∷ Short ∷ Int ∷ []) ∷ []

abbrev pub unsigned_short_words : List (List SpecWord)
unsigned_short_words = (Unsigned ∷ Short ∷ []) ∷ (Unsigned ∷ Short ∷ Int ∷ []) ∷ []

abbrev pub int_words : List (List SpecWord)
int_words = (Int ∷ []) ∷ (Signed ∷ []) ∷ (Signed ∷ Int ∷ []) ∷ []

abbrev pub unsigned_words : List (List SpecWord)
unsigned_words = (Unsigned ∷ []) ∷ (Unsigned ∷ Int ∷ []) ∷ []

abbrev pub long_words : List (List SpecWord)
long_words = (Long ∷ []) ∷ (Signed ∷ Long ∷ []) ∷ (Long ∷ Int ∷ []) ∷ (Signed ∷ Long ∷ Int ∷ []) ∷ []

abbrev pub unsigned_long_words : List (List SpecWord)
unsigned_long_words = (Unsigned ∷ Long ∷ []) ∷ (Unsigned ∷ Long ∷ Int ∷ []) ∷ []

-- a type with the lists of words that name it
pub record Combination : Type 0 where
  pub ty : «Type»
  pub lists : List (List SpecWord)

abbrev pub names : «Type» → List (List SpecWord) → Combination
names ty lists = record { ty = ty; lists = lists }

abbrev pub combinations : List Combination
combinations =
    names ty.Void ((Void ∷ []) ∷ [])
    ∷ names (ty.Int int.Char) ((Char ∷ []) ∷ [])
    ∷ names (ty.Int int.SChar) ((Signed ∷ Char ∷ []) ∷ [])
    ∷ names (ty.Int int.UChar) ((Unsigned ∷ Char ∷ []) ∷ [])
    ∷ names (ty.Int int.Short) short_words
    ∷ names (ty.Int int.UShort) unsigned_short_words
    ∷ names (ty.Int int.Int) int_words
    ∷ names (ty.Int int.UInt) unsigned_words
    ∷ names (ty.Int int.Long) long_words
    ∷ names (ty.Int int.ULong) unsigned_long_words
    ∷ []

-- ---- words in any order: how often each stands

abbrev pub once_more : Often → Often
once_more Never = Once
once_more Once = Again
once_more Again = Again

abbrev pub as_often : Often → Often → Bool
as_often Never Never = true
as_often Once Once = true
as_often Again Again = true
as_often a b = false

abbrev pub no_words : TypeWords
no_words = record { void = Never; char = Never; short = Never; int = Never; long = Never; signed = Never; unsigned = Never }

abbrev pub with_word : TypeWords → SpecWord → TypeWords
with_word t Extern = t
with_word t Static = t
with_word t Const = t
with_word t Void = record t { void = once_more t.void }
with_word t Char = record t { char = once_more t.char }
with_word t Short = record t { short = once_more t.short }
with_word t Int = record t { int = once_more t.int }
with_word t Long = record t { long = once_more t.long }
with_word t Signed = record t { signed = once_more t.signed }
with_word t Unsigned = record t { unsigned = once_more t.unsigned }

-- how often each type word stands in the list
abbrev pub type_words : List SpecWord → TypeWords
type_words words = fold with_word no_words words

unfoldable pub same_words : TypeWords → TypeWords → Bool
same_words a b = as_often a.void b.void && (as_often a.char b.char && (as_often a.short b.short && (as_often a.int b.int && (as_often a.long b.long && (as_often a.signed b.signed && as_often a.unsigned b.unsigned)))))

-- ---- what a list of keywords says

-- these are the words of one of the lists
unfoldable pub are_one_of : TypeWords → List (List SpecWord) → Bool
are_one_of words lists = list_any (λ list. same_words words (type_words list)) lists

-- the type of the first of these combinations that the words are
abbrev pub named_in : List Combination → TypeWords → Option «Type»
named_in [] words = None
named_in (c ∷ cs) words = if are_one_of words c.lists then Some c.ty else named_in cs words

-- the type that keywords and struct specifiers name together, by the types of the latter: a
-- combination of type words, or one struct and no type word
abbrev pub named : List SpecWord → List «Type» → Option «Type»
named keywords [] = named_in combinations (type_words keywords)
named keywords (t ∷ []) = if same_words (type_words keywords) no_words then Some t else None
named keywords (t ∷ u ∷ ts) = None

abbrev pub is_const_word : SpecWord → Bool
is_const_word Const = true
is_const_word w = false

abbrev pub is_extern_word : SpecWord → Bool
is_extern_word Extern = true
is_extern_word w = false

-- a storage-class specifier (C99 6.7.1)
abbrev pub is_storage_word : SpecWord → Bool
is_storage_word Extern = true
is_storage_word Static = true
is_storage_word w = false

-- one storage word may stand at file scope, and none elsewhere
abbrev pub storage_limit : Bool → ℕ
storage_limit true = 1
storage_limit false = 0
