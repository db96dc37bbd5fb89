-- One call of a host: what it answers and writes, and what stands for it afterwards.
use Rattle.std.specs.Prelude.{ℕ, suc, ℤ, pos, negsuc, Bool, true, false, ◌&&◌, List, [], ◌∷◌, ◌++◌, Option, Some, None, if◌then◌else◌, nat_lt, length, map, codes, slice_get, unwrap_or, option_map}
use Rattle.std.specs.Ordering.{int_eq}
use Rattle.std.specs.Int.{int_rem_euclid}
use Rattle.std.specs.Int.RustNames.{unsigned_abs}
use Rattle.std.specs.Fmt.{signed_decimal}
use Rattle.pt_tree.specs.declared.host_model.HostModel.{HostModel}
use Rattle.pt_tree.specs.declared.host_model.HostModel.TheVariants.{Table, Feed, Input, Bytes, Line}
use Rattle.pt_tree.specs.declared.row.Row.{Row}

-- the two lists are equal
abbrev pub same_numbers : List ℤ → List ℤ → Bool
same_numbers [] [] = true
same_numbers [] (b ∷ bs) = false
same_numbers (a ∷ as') [] = false
same_numbers (a ∷ as') (b ∷ bs) = int_eq a b && same_numbers as' bs

-- the result of the first row with these arguments
abbrev pub first_result : List Row → List ℤ → Option ℤ
first_result [] args = None
first_result (row ∷ rows) args = if same_numbers row.args args then Some row.result else first_result rows args

-- the same, else the other number
abbrev pub table_result : List Row → ℤ → List ℤ → ℤ
table_result rows other args = unwrap_or (first_result rows args) other

-- the place after this one, and the end of the list at its end
abbrev pub place_after : ℕ → ℕ → ℕ
place_after count next = if nat_lt next count then suc next else next

-- a byte of the input as a number, -1 past the last
abbrev pub input_result : List ℕ → ℕ → ℤ
input_result input next = unwrap_or (option_map pos (slice_get input next)) (negsuc 0)

-- the low 8 bits of a number
abbrev pub low_byte : ℤ → ℕ
low_byte v = unsigned_abs (int_rem_euclid v (pos 256))

-- each number in decimal, with a space before it
abbrev pub spaced : List ℤ → List ℕ
spaced [] = []
spaced (v ∷ vs) = codes " " ++ signed_decimal v ++ spaced vs

-- what a call gives
pub record Answer : Type 0 where
  -- the result, none of a void host
  pub result : Option ℤ
  -- the bytes that it writes, maybe none of them; None of a host that writes nothing ever
  pub written : Option (List ℕ)
  -- what stands for the host at the next call
  pub next : HostModel

-- one call, with the input of the run
abbrev pub host_step : List ℕ → HostModel → List ℤ → Answer
host_step input (Table rows other) args =
    record { result = Some (table_result rows other args); written = None; next = Table rows other }
host_step input (Feed values other next) args =
    record { result = Some (unwrap_or (slice_get values next) other); written = None; next = Feed values other (place_after (length values) next) }
host_step input (Input next) args =
    record { result = Some (input_result input next); written = None; next = Input (place_after (length input) next) }
host_step input Bytes args =
    record { result = None; written = Some (map low_byte args); next = Bytes }
host_step input (Line name) args =
    record { result = None; written = Some (name ++ spaced args ++ codes "\n"); next = Line name }
