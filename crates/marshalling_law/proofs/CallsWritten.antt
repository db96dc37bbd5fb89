-- What a host writes has a spelling.
use Rattle.std.proofs.Common.{◌≡◌, ◌+◌, ◌*◌, ◌<◌, ◌≤◌, ◌^◌, ℕ, zero, suc, ℤ, pos, negsuc, sym, subst, arith, List, [], ◌∷◌, ◌++◌, map, length, length-append, Some}
use Rattle.std.proofs.Math.Nat.{mod-lt}
use Rattle.std.specs.Prelude.{IsTrue, codes, nat_le, slice_index_or}
use Rattle.std.specs.Fmt.{decimal, signed_decimal}
use Rattle.std.specs.Str.{IsAscii}
use Rattle.std.proofs.lemmas.Bool.Decides.{nat_tests}
use Rattle.std.proofs.lemmas.Fmt.{IsAscii-decimal, length-decimal-le}
use Rattle.std.proofs.lemmas.Grind.{get_or_default_zero}
use Rattle.std.proofs.lemmas.Int.{ints}
use Rattle.std.proofs.lemmas.List.{length-map}
use Rattle.std.proofs.lemmas.List.Elements.{All-append}
use Rattle.pt_base.specs.IntTypes.{InRange}
use Rattle.pt_base.specs.declared.int_type.IntType.{IntType}
use Rattle.pt_base.specs.declared.int_type.IntType.TheVariants as i
use Rattle.pt_base.proofs.Options.{some_same_bytes}
use Rattle.pt_int.proofs.Ranges.{around_zero}
use Rattle.pt_tree.specs.HostStep.{host_step, low_byte, spaced}
use Rattle.pt_tree.specs.declared.host_model.HostModel.{HostModel}
use Rattle.pt_tree.specs.declared.host_model.HostModel.TheVariants as model
use Rattle.pt_tree.specs.declared.signature.Param.{Param}
use Rattle.typed_tree.specs.declared.types.StructInfo.{StructInfo}
use Rattle.typed_tree.specs.declared.types.VarTy.{VarTy}
use Rattle.typed_tree.specs.declared.types.VarTy.TheVariants.{Int, Struct, Array, Pointer}
use Rattle.typed_tree.specs.WellFormedExpression.{param_type}
use Rattle.block_memory.specs.declared.cell.Cell.{Cell}
use Rattle.block_memory.specs.declared.cell.Cell.TheVariants as cell
use Rattle.block_memory.specs.Blocks.{Blocks}
use Rattle.pt_core.specs.Values.{number_in}
use Rattle.core_soundness_law.specs.Kept.{Kept}
use Rattle.core_soundness_law.specs.Fits.{ValueFits}
use Rattle.core_soundness_law.specs.Outside.{ArgumentsFit}
use Rattle.core_soundness_law.proofs.Numbers.{range_of}
use Rattle.wire.specs.Limits.{IsBytes}
use Rattle.wire.specs.declared.message.Message.TheVariants as message
use Rattle.host_models.specs.Fitting.{has_short_name}
use Rattle.marshalling_law.specs.CallsSpelled.{HasBytes, WritesAreSpelled}
use Rattle.marshalling_law.proofs.CallsPackable.{as_many_given}
use Rattle.marshalling_law.proofs.CallsSpelled.{spelled}

-- at most so many bytes
record IsText (most : ℕ) (bytes : List ℕ) : Type 0 where
  few : length bytes ≤ most
  are : IsBytes bytes

joined : (a b : ℕ) (xs ys : List ℕ) → IsText a xs → IsText b ys → IsText (a + b) (xs ++ ys)
joined a b xs ys h k = record {
  few = let long = length-append xs ys in let left = h.few in let right = k.few in omega (arith, long, left, right);
  are = All-append (λ n. n < 2 ^ 8) xs ys h.are k.are;
}

one : (b : ℕ) → b < 2 ^ 8 → IsText 1 (b ∷ [])
one b h = record { few = omega arith; are = go }
  where
    go : (k d : ℕ) → k < length (b ∷ []) → slice_index_or (b ∷ []) k d < 2 ^ 8
    go zero d lt = h
    go (suc k) d lt = absurd (omega (arith, lt))

nothing : IsText 0 []
nothing = record { few = omega arith; are = λ k d lt. absurd (omega (arith, lt)) }

more : (a b : ℕ) (xs : List ℕ) → a ≤ b → IsText a xs → IsText b xs
more a b xs h k = record { few = let left = k.few in omega (arith, h, left); are = k.are }

-- ---- numbers

plain : (bytes : List ℕ) → IsAscii bytes → IsBytes bytes
plain bytes h k d lt = subst (λ n. n < 2 ^ 8) (sym (get_or_default_zero bytes k d lt)) (let low = h k in omega (arith, low))

digits : (n : ℕ) → n < 2 ^ 64 → IsText 20 (decimal n)
digits n h = record { few = length-decimal-le 20 n (omega arith) (omega (arith, h)) h; are = plain (decimal n) (IsAscii-decimal n h) }

upper : (t : IntType) (n : ℕ) → InRange t (pos n) → n < 2 ^ 64
upper i.Char n h = omega (arith, ints, h.0, h.1)
upper i.SChar n h = omega (arith, ints, h.0, h.1)
upper i.UChar n h = omega (arith, ints, h.0, h.1)
upper i.Short n h = omega (arith, ints, h.0, h.1)
upper i.UShort n h = omega (arith, ints, h.0, h.1)
upper i.Int n h = omega (arith, ints, h.0, h.1)
upper i.UInt n h = omega (arith, ints, h.0, h.1)
upper i.Long n h = omega (arith, ints, h.0, h.1)
upper i.ULong n h = omega (arith, ints, h.0, h.1)

lower : (t : IntType) (n : ℕ) → InRange t (negsuc n) → suc n < 2 ^ 64
lower i.Char n h = omega (arith, ints, h.0, h.1)
lower i.SChar n h = omega (arith, ints, h.0, h.1)
lower i.UChar n h = omega (arith, ints, h.0, h.1)
lower i.Short n h = omega (arith, ints, h.0, h.1)
lower i.UShort n h = omega (arith, ints, h.0, h.1)
lower i.Int n h = omega (arith, ints, h.0, h.1)
lower i.UInt n h = omega (arith, ints, h.0, h.1)
lower i.Long n h = omega (arith, ints, h.0, h.1)
lower i.ULong n h = omega (arith, ints, h.0, h.1)

number : (t : IntType) (v : ℤ) → InRange t v → IsText 21 (signed_decimal v)
number t (pos n) h = more 20 21 (decimal n) (omega arith) (digits n (upper t n h))
number t (negsuc n) h = joined 1 20 (45 ∷ []) (decimal (suc n)) (one 45 (omega arith)) (digits (suc n) (lower t n h))

-- a number of some type
record IsNumber (v : ℤ) : Type 0 where
  of : IntType
  range : InRange of v

abbrev AreNumbers : List ℤ → Type 0
AreNumbers [] = Unit {0}
AreNumbers (v ∷ vs) = IsNumber v × AreNumbers vs

line : (vs : List ℤ) → AreNumbers vs → IsText (length vs * 22) (spaced vs)
line [] h = nothing
line (v ∷ vs) h = more (1 + 21 + length vs * 22) (length (v ∷ vs) * 22) (spaced (v ∷ vs)) (omega arith) (joined (1 + 21) (length vs * 22) (codes " " ++ signed_decimal v) (spaced vs)
    (joined 1 21 (codes " ") (signed_decimal v) (one 32 (omega arith)) (number h.0.of v h.0.range)) (line vs h.1))

low : (v : ℤ) → low_byte v < 2 ^ 8
low (pos a) = mod-lt a {m = 256} (omega arith)
low (negsuc a) = omega arith

low_bytes : (vs : List ℤ) → IsText (length vs) (map low_byte vs)
low_bytes [] = nothing
low_bytes (v ∷ vs) = more (1 + length vs) (length (v ∷ vs)) (map low_byte (v ∷ vs)) (omega arith) (joined 1 (length vs) (low_byte v ∷ []) (map low_byte vs) (one (low_byte v) (low v)) (low_bytes vs))

-- ---- arguments

value : (kept : Kept) (structs : List StructInfo) (x : Blocks) (depth : ℕ) (ty : VarTy) (c : Cell) → ValueFits kept structs x depth ty c → IsNumber (number_in c)
value kept structs x depth (Int t) (cell.Int v) f = record { of = t; range = range_of t v f }
value kept structs x depth ty (cell.Ptr p) f = record { of = i.Int; range = around_zero i.Int }
value kept structs x depth ty (cell.Sealed h) f = record { of = i.Int; range = around_zero i.Int }
value kept structs x depth (Struct n) (cell.Int v) f = elim f [ ]
value kept structs x depth (Array elem count) (cell.Int v) f = elim f [ ]
value kept structs x depth (Pointer elem fixed) (cell.Int v) f = elim f [ ]

values : (kept : Kept) (structs : List StructInfo) (x : Blocks) (depth : ℕ) (params : List Param) (args : List Cell) → ArgumentsFit kept structs x depth params args → AreNumbers (map number_in args)
values kept structs x depth [] [] f = tt {0}
values kept structs x depth [] (c ∷ args) f = elim f [ ]
values kept structs x depth (p ∷ params) [] f = elim f [ ]
values kept structs x depth (p ∷ params) (c ∷ args) f = (value kept structs x depth (param_type p.kind) c f.0, values kept structs x depth params args f.1)

-- ---- what is written

written : (numbers : List ℤ) (input : List ℕ) (host : HostModel) (bytes : List ℕ) → AreNumbers numbers → length numbers ≤ 8 → IsTrue (has_short_name host) → HasBytes host → (host_step input host numbers).written ≡ Some bytes → IsText 1_048_760 bytes
written numbers input (model.Table rows other) bytes are few short named is = cc
written numbers input (model.Feed values other next) bytes are few short named is = cc
written numbers input (model.Input next) bytes are few short named is = cc
written numbers input model.Bytes bytes are few short named is =
    subst (IsText 1_048_760) (some_same_bytes (map low_byte numbers) bytes is) (more (length numbers) 1_048_760 (map low_byte numbers) (omega (arith, few)) (low_bytes numbers))
written numbers input (model.Line name) bytes are few short named is =
    subst (IsText 1_048_760) (some_same_bytes (name ++ spaced numbers ++ codes "\n") bytes is)
    (more (1_048_576 + length numbers * 22 + 1) 1_048_760 (name ++ spaced numbers ++ codes "\n") (omega (arith, few))
    (joined (1_048_576 + length numbers * 22) 1 (name ++ spaced numbers) (codes "\n") (joined 1_048_576 (length numbers * 22) name (spaced numbers) (record { few = at_most (length name) short; are = named }) (line numbers are)) (one 10 (omega arith))))
  where
    at_most : (k : ℕ) → IsTrue (nat_le k 1_048_576) → k ≤ 1_048_576
    at_most k h = grind (arith, nat_tests)

pub writes_are_spelled : WritesAreSpelled
writes_are_spelled kept structs x depth params args input host bytes turns given few short named is turns_fit =
    spelled (message.Emit turns bytes) (turns_fit, text.are) (tt {0}) (let most = text.few in omega (arith, most))
  where
    text : IsText 1_048_760 bytes
    text =
        let count = as_many_given kept structs x depth params args given in
        let same : length (map number_in args) ≡ length args = length-map args number_in in
        written (map number_in args) input host bytes (values kept structs x depth params args given) (omega (arith, count, same, few)) short named is
