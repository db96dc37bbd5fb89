-- The table: which rules a symbol has, and which tokens lead to a rule, as a number whose bits are
-- those of the kinds.
use Rattle.std.specs.Prelude.{ℕ, ◌/◌, ◌%◌, ◌^◌, Bool, nat_eq, List, [], ◌∷◌, Option, get_or}
use Rattle.std.specs.List.{find}
use Rattle.c_lexer.specs.declared.token.TokenKind.{TokenKind}
use Rattle.c_grammar.specs.declared.symbol.Symbol.{Symbol}
use Rattle.c_grammar.specs.declared.symbol.Symbol.TheVariants as s
use Rattle.c_grammar.specs.Numbers.{kind_number}

abbrev pub alternatives_of : Symbol → List ℕ
alternatives_of s.TranslationUnit = 1 ∷ 2 ∷ []
alternatives_of s.External = 3 ∷ []
alternatives_of s.ExternalRest = 4 ∷ 5 ∷ []
alternatives_of s.ExternalTail = 6 ∷ 7 ∷ []
alternatives_of s.FunctionEnd = 8 ∷ 9 ∷ []
alternatives_of s.Specs = 10 ∷ []
alternatives_of s.MoreSpecs = 11 ∷ 12 ∷ []
alternatives_of s.Spec = 13 ∷ 14 ∷ 15 ∷ 16 ∷ 17 ∷ 18 ∷ 19 ∷ 20 ∷ 21 ∷ 22 ∷ 23 ∷ 24 ∷ []
alternatives_of s.Attribute = 25 ∷ []
alternatives_of s.MoreNames = 26 ∷ 27 ∷ []
alternatives_of s.Struct = 28 ∷ []
alternatives_of s.StructBody = 29 ∷ 30 ∷ []
alternatives_of s.Fields = 31 ∷ 32 ∷ []
alternatives_of s.Field = 33 ∷ []
alternatives_of s.MoreDeclarators = 34 ∷ 35 ∷ []
alternatives_of s.Declarator = 36 ∷ []
alternatives_of s.Star = 37 ∷ 38 ∷ []
alternatives_of s.Suffix = 39 ∷ 40 ∷ []
alternatives_of s.Size = 41 ∷ 42 ∷ []
alternatives_of s.Init = 43 ∷ 44 ∷ []
alternatives_of s.InitValue = 45 ∷ 46 ∷ []
alternatives_of s.InitItems = 47 ∷ 48 ∷ []
alternatives_of s.InitNext = 49 ∷ 50 ∷ []
alternatives_of s.More = 51 ∷ 52 ∷ []
alternatives_of s.Params = 53 ∷ 54 ∷ []
alternatives_of s.MoreParams = 55 ∷ 56 ∷ []
alternatives_of s.Param = 57 ∷ []
alternatives_of s.Name = 58 ∷ 59 ∷ []
alternatives_of s.Block = 60 ∷ []
alternatives_of s.Items = 61 ∷ 62 ∷ []
alternatives_of s.Item = 63 ∷ 64 ∷ []
alternatives_of s.Declaration = 65 ∷ []
alternatives_of s.DeclarationRest = 66 ∷ 67 ∷ []
alternatives_of s.Statement = 68 ∷ 69 ∷ 70 ∷ 71 ∷ 72 ∷ 73 ∷ 74 ∷ 75 ∷ 76 ∷ 77 ∷ 169 ∷ []
alternatives_of s.ElsePart = 78 ∷ 79 ∷ []
alternatives_of s.ForInit = 80 ∷ 81 ∷ 82 ∷ []
alternatives_of s.ForStep = 83 ∷ 84 ∷ []
alternatives_of s.Opt = 85 ∷ 86 ∷ []
alternatives_of s.Expr = 87 ∷ []
alternatives_of s.AssignTail = 88 ∷ 89 ∷ []
alternatives_of s.Cond = 90 ∷ []
alternatives_of s.CondTail = 91 ∷ 92 ∷ []
alternatives_of s.Unary = 93 ∷ 94 ∷ 95 ∷ 96 ∷ 97 ∷ []
alternatives_of s.Paren = 98 ∷ 99 ∷ []
alternatives_of s.Postfixes = 100 ∷ 101 ∷ 102 ∷ 103 ∷ 104 ∷ 105 ∷ 106 ∷ []
alternatives_of s.Arguments = 107 ∷ 108 ∷ []
alternatives_of s.MoreArguments = 109 ∷ 110 ∷ []
alternatives_of s.Primary = 111 ∷ 112 ∷ 113 ∷ []
alternatives_of s.AssignOp = 114 ∷ 115 ∷ 116 ∷ 117 ∷ 118 ∷ 119 ∷ 120 ∷ 121 ∷ 122 ∷ 123 ∷ 124 ∷ []
alternatives_of s.UnaryOp = 125 ∷ 126 ∷ 127 ∷ 128 ∷ 129 ∷ 130 ∷ []
alternatives_of s.LogicalOr = 131 ∷ []
alternatives_of s.LogicalOrTail = 132 ∷ 133 ∷ []
alternatives_of s.LogicalAnd = 134 ∷ []
alternatives_of s.LogicalAndTail = 135 ∷ 136 ∷ []
alternatives_of s.BitOr = 137 ∷ []
alternatives_of s.BitOrTail = 138 ∷ 139 ∷ []
alternatives_of s.BitXor = 140 ∷ []
alternatives_of s.BitXorTail = 141 ∷ 142 ∷ []
alternatives_of s.BitAnd = 143 ∷ []
alternatives_of s.BitAndTail = 144 ∷ 145 ∷ []
alternatives_of s.Equality = 146 ∷ []
alternatives_of s.EqualityTail = 147 ∷ 148 ∷ 149 ∷ []
alternatives_of s.Relational = 150 ∷ []
alternatives_of s.RelationalTail = 151 ∷ 152 ∷ 153 ∷ 154 ∷ 155 ∷ []
alternatives_of s.Shift = 156 ∷ []
alternatives_of s.ShiftTail = 157 ∷ 158 ∷ 159 ∷ []
alternatives_of s.Additive = 160 ∷ []
alternatives_of s.AdditiveTail = 161 ∷ 162 ∷ 163 ∷ []
alternatives_of s.Multiplicative = 164 ∷ []
alternatives_of s.MultiplicativeTail = 165 ∷ 166 ∷ 167 ∷ 168 ∷ []
alternatives_of s.Sections = 170 ∷ 171 ∷ []
alternatives_of s.Section = 172 ∷ []
alternatives_of s.Label = 173 ∷ 174 ∷ []
alternatives_of s.SectionItems = 175 ∷ 176 ∷ []

abbrev pub leading : List ℕ
leading =
    0 ∷
    0x106363040c0 ∷
    0x0 ∷
    0x106363040c0 ∷
    0x2000000000000000000 ∷
    0x10000000000001 ∷
    0x80000000000 ∷
    0x2006000000000000000000 ∷
    0x2000000000000000000 ∷
    0x200000000000 ∷
    0x106363040c0 ∷
    0x106363040c0 ∷
    0x2002000010120000000001 ∷
    0x10000000000 ∷
    0x4000 ∷
    0x10000000 ∷
    0x80 ∷
    0x400000000 ∷
    0x40 ∷
    0x2000000 ∷
    0x100000 ∷
    0x200000 ∷
    0x4000000 ∷
    0x200000000 ∷
    0x20000000 ∷
    0x10000000000 ∷
    0x2000000000000000000000 ∷
    0x100000000000 ∷
    0x20000000 ∷
    0x200000000000 ∷
    0x20020000101306363040c1 ∷
    0x106363040c0 ∷
    0x400000000000 ∷
    0x106363040c0 ∷
    0x2000000000000000000000 ∷
    0x2000000000000000000 ∷
    0x10000000000001 ∷
    0x10000000000000 ∷
    0x2000000000120000000001 ∷
    0x20000000000 ∷
    0x2006000000180000000000 ∷
    0x2 ∷
    0x40000000000 ∷
    0x4000000000000000000 ∷
    0x2002000000000000000000 ∷
    0x1fe080000000007 ∷
    0x200000000000 ∷
    0x2000000000000000000000 ∷
    0x400000000000 ∷
    0x1fe080000000007 ∷
    0x400000000000 ∷
    0x2000000000000000000000 ∷
    0x2000000000000000000 ∷
    0x106363040c0 ∷
    0x100000000000 ∷
    0x2000000000000000000000 ∷
    0x100000000000 ∷
    0x106363040c0 ∷
    0x1 ∷
    0x2000000000120000000000 ∷
    0x200000000000 ∷
    0x20001fe2916773545d7 ∷
    0x400000000000 ∷
    0x106363040c0 ∷
    0x20001fe281041050517 ∷
    0x106363040c0 ∷
    0x2000000000000000000 ∷
    0x10000000000001 ∷
    0x200000000000 ∷
    0x2000000000000000000 ∷
    0x1fe080000000007 ∷
    0x40000 ∷
    0x1000000000 ∷
    0x400 ∷
    0x10000 ∷
    0x1000000 ∷
    0x10 ∷
    0x100 ∷
    0x1000 ∷
    0x20001fe6916773557f7 ∷
    0x106363040c0 ∷
    0x2000000000000000000 ∷
    0x1fe080000000007 ∷
    0x1fe080000000007 ∷
    0x100000000000 ∷
    0x1fe080000000007 ∷
    0x2000000000000000000 ∷
    0x1fe080000000007 ∷
    0x1ffc000000000000000000 ∷
    0x2003000000540000000000 ∷
    0x1fe080000000007 ∷
    0x800000000000000000 ∷
    0x3fff000000540000000000 ∷
    0x80000000000 ∷
    0x1f8000000000000 ∷
    0x2000000000000 ∷
    0x4000000000000 ∷
    0x7 ∷
    0x106363040c0 ∷
    0x1fe080000000007 ∷
    0x20000000000 ∷
    0x80000000000 ∷
    0x800000000000 ∷
    0x1000000000000 ∷
    0x2000000000000 ∷
    0x4000000000000 ∷
    0x3ffffffe78540000000000 ∷
    0x1fe080000000007 ∷
    0x100000000000 ∷
    0x2000000000000000000000 ∷
    0x100000000000 ∷
    0x1 ∷
    0x2 ∷
    0x4 ∷
    0x4000000000000000000 ∷
    0x8000000000000000000 ∷
    0x10000000000000000000 ∷
    0x20000000000000000000 ∷
    0x40000000000000000000 ∷
    0x80000000000000000000 ∷
    0x100000000000000000000 ∷
    0x200000000000000000000 ∷
    0x400000000000000000000 ∷
    0x800000000000000000000 ∷
    0x1000000000000000000000 ∷
    0x8000000000000 ∷
    0x10000000000000 ∷
    0x20000000000000 ∷
    0x40000000000000 ∷
    0x80000000000000 ∷
    0x100000000000000 ∷
    0x1fe080000000007 ∷
    0x400000000000000000 ∷
    0x3fff800000540000000000 ∷
    0x1fe080000000007 ∷
    0x200000000000000000 ∷
    0x3fffc00000540000000000 ∷
    0x1fe080000000007 ∷
    0x100000000000000000 ∷
    0x3fffe00000540000000000 ∷
    0x1fe080000000007 ∷
    0x80000000000000000 ∷
    0x3ffff00000540000000000 ∷
    0x1fe080000000007 ∷
    0x8000000000000 ∷
    0x3ffff80000540000000000 ∷
    0x1fe080000000007 ∷
    0x20000000000000000 ∷
    0x40000000000000000 ∷
    0x3ffff80008540000000000 ∷
    0x1fe080000000007 ∷
    0x2000000000000000 ∷
    0x4000000000000000 ∷
    0x8000000000000000 ∷
    0x10000000000000000 ∷
    0x3ffffe0008540000000000 ∷
    0x1fe080000000007 ∷
    0x800000000000000 ∷
    0x1000000000000000 ∷
    0x3fffffe008540000000000 ∷
    0x1fe080000000007 ∷
    0x20000000000000 ∷
    0x40000000000000 ∷
    0x3ffffff808540000000000 ∷
    0x1fe080000000007 ∷
    0x10000000000000 ∷
    0x200000000000000 ∷
    0x400000000000000 ∷
    0x3ffffff868540000000000 ∷
    0x40000000 ∷
    0x220 ∷
    0x400000000000 ∷
    0x220 ∷
    0x20 ∷
    0x200 ∷
    0x20001fe281041050517 ∷
    0x400000000220 ∷
    []

-- the kind is in the set
abbrev pub has : ℕ → TokenKind → Bool
has set k = nat_eq (set / 2 ^ kind_number k % 2) 1

-- the token leads to the rule
abbrev pub leads_to : TokenKind → ℕ → Bool
leads_to k n = has (get_or leading n 0) k

-- the rule by which the symbol gives way at the token: the first of its alternatives that will do
abbrev pub row_of : Symbol → TokenKind → Option ℕ
row_of s k = find (leads_to k) (alternatives_of s)
