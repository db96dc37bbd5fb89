-- The integer types: their ranges (C99 6.2.5, 5.2.4.2.1 for this project's widths), the promoted
-- type (C99 6.3.1.1p2) and the type of the usual arithmetic conversions (C99 6.3.1.8).
use Rattle.std.specs.Prelude.{ℕ, ℤ, pos, negsuc, ◌≤ℤ◌, Bool, true, false, if◌then◌else◌, nat_eq, nat_lt}
use Rattle.pt_base.specs.declared.int_type.IntType.{IntType}
use Rattle.pt_base.specs.declared.int_type.IntType.TheVariants.{Char, SChar, UChar, Short, UShort, Int, UInt, Long, ULong}

-- the place of a type in the list of the integer types
abbrev pub place_of : IntType → ℕ
place_of Char = 0
place_of SChar = 1
place_of UChar = 2
place_of Short = 3
place_of UShort = 4
place_of Int = 5
place_of UInt = 6
place_of Long = 7
place_of ULong = 8

-- both are one type; char is neither signed char nor unsigned char (C99 6.2.5p15)
abbrev pub same_int : IntType → IntType → Bool
same_int a b = nat_eq (place_of a) (place_of b)

-- how many bits a number of the type has
abbrev pub width_of : IntType → ℕ
width_of Char = 8
width_of SChar = 8
width_of UChar = 8
width_of Short = 16
width_of UShort = 16
width_of Int = 32
width_of UInt = 32
width_of Long = 64
width_of ULong = 64

abbrev pub is_signed : IntType → Bool
is_signed Char = true
is_signed SChar = true
is_signed UChar = false
is_signed Short = true
is_signed UShort = false
is_signed Int = true
is_signed UInt = false
is_signed Long = true
is_signed ULong = false

-- the least number of the type
abbrev pub low_of : IntType → ℤ
low_of Char = negsuc 0x7f
low_of SChar = negsuc 0x7f
low_of UChar = pos 0
low_of Short = negsuc 0x7fff
low_of UShort = pos 0
low_of Int = negsuc 0x7fff_ffff
low_of UInt = pos 0
low_of Long = negsuc 0x7fff_ffff_ffff_ffff
low_of ULong = pos 0

-- the greatest number of the type
abbrev pub high_of : IntType → ℤ
high_of Char = pos 0x7f
high_of SChar = pos 0x7f
high_of UChar = pos 0xff
high_of Short = pos 0x7fff
high_of UShort = pos 0xffff
high_of Int = pos 0x7fff_ffff
high_of UInt = pos 0xffff_ffff
high_of Long = pos 0x7fff_ffff_ffff_ffff
high_of ULong = pos 0xffff_ffff_ffff_ffff

-- v is a number of the type
abbrev pub InRange : IntType → ℤ → Type 0
InRange t v = (low_of t ≤ℤ v) × (v ≤ℤ high_of t)

-- a type narrower than 32 bits becomes int, which has all its numbers (C99 6.3.1.1p2)
abbrev pub promoted : IntType → IntType
promoted t = if nat_lt (width_of t) 32 then Int else t

-- of two types of one signedness, the wider
abbrev pub wider : IntType → IntType → IntType
wider a b = if nat_lt (width_of a) (width_of b) then b else a

-- of a signed and an unsigned type, the signed one if it is wider, else the unsigned
abbrev pub mixed : IntType → IntType → IntType
mixed signed unsigned = if nat_lt (width_of unsigned) (width_of signed) then signed else unsigned

-- the common type of two promoted types, by the signedness of each
abbrev pub common : Bool → Bool → IntType → IntType → IntType
common true true a b = wider a b
common true false a b = mixed a b
common false true a b = mixed b a
common false false a b = wider a b

-- the type of the usual arithmetic conversions (C99 6.3.1.8)
abbrev pub usual : IntType → IntType → IntType
usual a b = common (is_signed (promoted a)) (is_signed (promoted b)) (promoted a) (promoted b)
