-- Small programs, as the definitions give them.
use Rattle.std.proofs.Common.{◌≡◌, [], ◌∷◌, ◌++◌, refl, codes, length, map}
use Rattle.std.specs.Fmt.{digits}
use Rattle.std.specs.List.{range_with_len}
use Rattle.program_gen.specs.Draws.{draw}
use Rattle.program_gen.specs.Functions.{functions_of}
use Rattle.program_gen.specs.Policies.{policy_of}
use Rattle.program_gen.specs.Programs.{head, hosts, program_of}

draws_of_one : map (draw 1) (range_with_len 0 6) ≡ 16838 ∷ 5758 ∷ 10113 ∷ 17515 ∷ 31051 ∷ 5627 ∷ []
draws_of_one = refl

draws_of_none : map (draw 0) (range_with_len 0 2) ≡ 0 ∷ 21468 ∷ []
draws_of_none = refl

-- a function that has a secret signed, and one that gives away what it makes of a secret
two_functions : program_of (functions_of 1 2)
    ≡ codes "__attribute__((priv)) int load(int n);\n__attribute__((priv, declassify)) int sign(__attribute__((priv)) int k, int n);\nvoid put(int v);\n"
    ++ codes "int f0(int x) { int k; k = load(x % 4); return sign(k, 758); }\n"
    ++ codes "__attribute__((priv, declassify)) int f1(int x) { return load(x % 4) * 3 + 51; }\n"
    ++ codes "int main(void) { int x; x = 1; x = f0(x); put(x); x = f1(x); put(x); return 0; }\n"
unfolding digits
two_functions = refl

their_rules : policy_of (functions_of 1 2) ≡ codes "from a allow load to a\nfrom a allow sign to a\nfrom a allow f1 to a\n"
unfolding digits
their_rules = refl

-- a loop, a signature and a sum
three_functions : program_of (functions_of 2147483647 3)
    ≡ head
    ++ codes "int f0(int x) { int i; int s; s = x; for (i = 0; i < 8; i++) s = (s + 409) % 1000; return s; }\n"
    ++ codes "int f1(int x) { int k; k = load(x % 4); return sign(k, 713); }\n"
    ++ codes "int f2(int x) { return (x + 63) % 1000; }\n"
    ++ codes "int main(void) { int x; x = 1; x = f0(x); put(x); x = f1(x); put(x); x = f2(x); put(x); return 0; }\n"
unfolding digits
three_functions = refl

length_of_head : length head ≡ 136
length_of_head = refl

lengths : length (program_of (functions_of 1 2)) ∷ length (program_of (functions_of 1 1)) ∷ length (program_of (functions_of 0 1)) ∷ length hosts ∷ []
    ≡ 361 ∷ 261 ∷ 241 ∷ 148 ∷ []
unfolding digits
lengths = refl
