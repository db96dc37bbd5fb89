-- What a table is beside the values that it was read into.
use Rattle.std.proofs.Common.{◌≡◌, ℕ, List, [], ◌∷◌, Option, Some, None, String, Global, string_bytes, Ordering, Less, Equal, Greater, nat_cmp, is_eq, refl, ap, subst, sym, ◌∙◌, Bool, true, false, true≢false}
use Rattle.std.proofs.lemmas.Map.Text.{is_eq-slice_cmp}
use Rattle.std.proofs.lemmas.Slice.Eq.{bytes_eq-Decides}
use Rattle.std.proofs.lemmas.Str.{IsUtf8-string_bytes, IsUtf8-from_is_utf8, is_utf8-from_IsUtf8}
use Rattle.std.specs.Cmp.Lexicographic.{slice_cmp}
use Rattle.std.specs.Ordering.{match_ordering}
use Rattle.std.specs.Str.{IsUtf8, is_utf8}
use Rattle.std.proofs.lemmas.Bool.{false_from_ne_true}
use Rattle.serde_json.specs.Data.{Data}
use Rattle.serde_json.specs.Find.{get, get_member}
use Rattle.serde_json.specs.Read.{read}
use Rattle.serde_json.specs.View.{view, view_step, items_of, members_of}
use Rattle.serde_json.specs.declared.value.Value.{Value, the_lemmas}
use Rattle.serde_json.specs.declared.value.Value.TheOpen.{Value-F}
use Rattle.host_table.specs.Entries.{listed}
use Rattle.host_table.specs.HostFaults.{reading_of}

pub listed-items_of : (ds : List Data) → listed (items_of ds) ≡ ds
listed-items_of [] = refl
listed-items_of (d ∷ ds) = ap (λ xs. d ∷ xs) (listed-items_of ds)

-- what is no text is no key
no_text : (name : List ℕ) (s : String Global) → (IsUtf8 name → ⊥) → name ≡ string_bytes s → ⊥
no_text name s other e = other (subst IsUtf8 (sym e) (IsUtf8-string_bytes s))

other_key : (o : Ordering) (a b : Option Data) → is_eq o ≡ false → match_ordering o a b a ≡ a
other_key Less a b e = refl
other_key Equal a b e = absurd (true≢false e)
other_key Greater a b e = refl

get_member-no_text : (name : List ℕ) (ms : List (String Global × Data)) → (IsUtf8 name → ⊥) → None ≡ get_member name (members_of ms)
get_member-no_text name [] other = refl
get_member-no_text name (m ∷ ms) other =
    get_member-no_text name ms other ∙ sym (other_key (slice_cmp nat_cmp name (string_bytes m.0)) _ _
    (is_eq-slice_cmp name (string_bytes m.0) ∙ false_from_ne_true _ (λ e. no_text name m.0 other ((bytes_eq-Decides name (string_bytes m.0)).0 e))))

-- by one level of a value
get-no_text_step : (name : List ℕ) (x : Value-F Data) → (IsUtf8 name → ⊥) → None ≡ get name (view_step x)
get-no_text_step name Value-F.Null other = refl
get-no_text_step name (Value-F.Bool b) other = refl
get-no_text_step name (Value-F.Number n) other = refl
get-no_text_step name (Value-F.String s) other = refl
get-no_text_step name (Value-F.Array v) other = refl
get-no_text_step name (Value-F.Object m) other = get_member-no_text name m.entries other

-- what is no text is no name of a member
pub get-no_text : (name : List ℕ) (v : Value) → (IsUtf8 name → ⊥) → None ≡ get name (view v)
get-no_text name v other = simp the_lemmas (get-no_text_step name _ other)

at_test : (b : Bool) (text : List ℕ) → is_utf8 text ≡ b → (IsUtf8 text → read text ≡ None) → None ≡ reading_of text
at_test true text e h = rw e (sym (h (IsUtf8-from_is_utf8 text e)))
at_test false text e h = rw e refl

-- what a text has no reading by, if it is one
pub reading_of-none : (text : List ℕ) → (IsUtf8 text → read text ≡ None) → None ≡ reading_of text
reading_of-none text h = at_test (is_utf8 text) text refl h

pub reading_of-some : (text : List ℕ) (d : Data) → IsUtf8 text × (read text ≡ Some d) → reading_of text ≡ Some d
reading_of-some text d h = rw (is_utf8-from_IsUtf8 text h.0) h.1
