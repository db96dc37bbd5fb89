-- A model that fits answers in range, and fits on.
use Rattle.std.proofs.Common.{◌≡◌, ◌<◌, ℕ, zero, suc, ℤ, pos, negsuc, List, [], ◌∷◌, Bool, true, false, true≢false, ◌&&◌, not, Option, Some, None, is_some, slice_get, get_or, if◌then◌else◌, refl, sym, subst, arith}
use Rattle.std.proofs.lemmas.Bool.Decides.{nat_tests}
use Rattle.std.proofs.lemmas.Int.{ints}
use Rattle.std.proofs.lemmas.List.Elements.{All-get_or}
use Rattle.std.proofs.lemmas.Option.{slice_get_within, get_or_from_slice_get}
use Rattle.std.specs.Prelude.{unwrap_or, option_map, All}
use Rattle.std.specs.List.{list_all}
use Rattle.pt_base.specs.declared.int_type.IntType.{IntType}
use Rattle.pt_base.specs.declared.int_type.IntType.TheVariants as t
use Rattle.pt_int.specs.Conversion.{is_in_range}
use Rattle.pt_tree.specs.HostStep.{host_step, first_result, table_result, same_numbers, input_result}
use Rattle.pt_tree.specs.declared.host_model.HostModel.{HostModel}
use Rattle.pt_tree.specs.declared.host_model.HostModel.TheVariants.{Table, Feed, Input, Bytes, Line}
use Rattle.pt_tree.specs.declared.row.Row.{Row}
use Rattle.pt_tree.specs.declared.signature.Signature.{Signature}
use Rattle.host_models.specs.Mixed.{is_mixed}
use Rattle.host_models.specs.Fitting.{gives_int, has_right_params, has_numbers_in_range, has_short_name, is_row_in_range, are_in_params, is_in_result, fits}
use Rattle.host_models.specs.Answering.{is_result, AnswersInRange}

first : (a b : Bool) → a && b ≡ true → a ≡ true
first true b h = refl
first false b h = h

second : (a b : Bool) → a && b ≡ true → b ≡ true
second true b h = h
second false b h = absurd (true≢false (sym h))

-- ---- the result

gives : (o : Option IntType) (v : ℤ) → is_in_result o v ≡ true → is_result o (Some v) ≡ true
gives None v h = h
gives (Some ty) v h = h

gives_none : (o : Option IntType) → not (is_some o) ≡ true → is_result o None ≡ true
gives_none None h = refl
gives_none (Some ty) h = h

by_row : (s : Signature) (b : Bool) (result other : ℤ) (o : Option ℤ) → is_in_result s.result result ≡ true → is_in_result s.result (unwrap_or o other) ≡ true
    → is_in_result s.result (unwrap_or (if b then Some result else o) other) ≡ true
by_row s true result other o here there = here
by_row s false result other o here there = there

-- each row's result is in range, and so is the first one's
by_rows : (s : Signature) (rows : List Row) (other : ℤ) (args : List ℤ) → list_all (is_row_in_range s) rows ≡ true → is_in_result s.result other ≡ true
    → is_in_result s.result (table_result rows other args) ≡ true
by_rows s [] other args all last = last
by_rows s (row ∷ rows) other args all last =
    by_row s (same_numbers row.args args) row.result other (first_result rows args)
    (second (are_in_params s.params row.args) (is_in_result s.result row.result) (first (is_row_in_range s row) (list_all (is_row_in_range s) rows) all))
    (by_rows s rows other args (second (is_row_in_range s row) (list_all (is_row_in_range s) rows) all) last)

-- each value is in range, and so is the one at a place
by_values : (o : Option IntType) (values : List ℤ) (k : ℕ) (other : ℤ) → list_all (is_in_result o) values ≡ true → is_in_result o other ≡ true
    → is_in_result o (unwrap_or (slice_get values k) other) ≡ true
by_values o [] zero other all last = last
by_values o [] (suc k) other all last = last
by_values o (v ∷ vs) zero other all last = first (is_in_result o v) (list_all (is_in_result o) vs) all
by_values o (v ∷ vs) (suc k) other all last = by_values o vs k other (second (is_in_result o v) (list_all (is_in_result o) vs) all) last

int_gives : (o : Option IntType) (v : ℤ) → gives_int o ≡ true → is_in_range t.Int v ≡ true → is_result o (Some v) ≡ true
int_gives None v is h = is
int_gives (Some t.Char) v is h = absurd (true≢false (sym is))
int_gives (Some t.SChar) v is h = absurd (true≢false (sym is))
int_gives (Some t.UChar) v is h = absurd (true≢false (sym is))
int_gives (Some t.Short) v is h = absurd (true≢false (sym is))
int_gives (Some t.UShort) v is h = absurd (true≢false (sym is))
int_gives (Some t.Int) v is h = h
int_gives (Some t.UInt) v is h = absurd (true≢false (sym is))
int_gives (Some t.Long) v is h = absurd (true≢false (sym is))
int_gives (Some t.ULong) v is h = absurd (true≢false (sym is))

byte_in_int : (b : ℕ) → b < 256 → is_in_range t.Int (pos b) ≡ true
byte_in_int b small = grind (arith, ints, nat_tests)

small_at : (input : List ℕ) (next b : ℕ) → All (λ x. x < 256) input → slice_get input next ≡ Some b → b < 256
small_at input next b bytes is =
    let small : get_or input next b < 256 = All-get_or (λ x. x < 256) input next b (slice_get_within input next b is) bytes in
    subst (λ x. x < 256) (get_or_from_slice_get input next b b is) small

-- a byte is an int, and so is -1
by_input : (input : List ℕ) (next : ℕ) → All (λ b. b < 256) input → is_in_range t.Int (input_result input next) ≡ true
by_input input next bytes = at_place (slice_get input next) refl
  where
    at_place : (o : Option ℕ) → slice_get input next ≡ o → is_in_range t.Int (unwrap_or (option_map pos o) (negsuc 0)) ≡ true
    at_place None is = refl
    at_place (Some b) is = byte_in_int b (small_at input next b bytes is)

result_right : (input : List ℕ) (model : HostModel) (args : List ℤ) (s : Signature) → All (λ b. b < 256) input → has_right_params s model ≡ true → has_numbers_in_range s model ≡ true
    → is_result s.result (host_step input model args).result ≡ true
result_right input (Table rows other) args s bytes params numbers =
    gives s.result (table_result rows other args) (by_rows s rows other args (first (list_all (is_row_in_range s) rows) (is_in_result s.result other) numbers) (second (list_all (is_row_in_range s) rows) (is_in_result s.result other) numbers))
result_right input (Feed values other next) args s bytes params numbers =
    gives s.result (unwrap_or (slice_get values next) other)
    (by_values s.result values next other (first (list_all (is_in_result s.result) values) (is_in_result s.result other) numbers) (second (list_all (is_in_result s.result) values) (is_in_result s.result other) numbers))
result_right input (Input next) args s bytes params numbers =
    int_gives s.result (input_result input next) (first _ _ (first _ _ params)) (by_input input next bytes)
result_right input Bytes args s bytes params numbers = gives_none s.result (first (not (is_some s.result)) (not (is_mixed s)) params)
result_right input (Line name) args s bytes params numbers = gives_none s.result (first (not (is_some s.result)) (not (is_mixed s)) params)

-- ---- the next model

fits_on : (input : List ℕ) (model : HostModel) (args : List ℤ) (s : Signature) → fits model s ≡ true → fits (host_step input model args).next s ≡ true
fits_on input (Table rows other) args s fit = fit
fits_on input (Feed values other next) args s fit = fit
fits_on input (Input next) args s fit = fit
fits_on input Bytes args s fit = fit
fits_on input (Line name) args s fit = fit

pub fits_in_range : AnswersInRange
fits_in_range input model args s bytes fit =
    let suits : has_right_params s model && has_numbers_in_range s model ≡ true = first (has_right_params s model && has_numbers_in_range s model) (has_short_name model) fit in
    record {
      result = result_right input model args s bytes (first (has_right_params s model) (has_numbers_in_range s model) suits) (second (has_right_params s model) (has_numbers_in_range s model) suits);
      next = fits_on input model args s fit;
    }
