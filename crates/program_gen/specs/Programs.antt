-- The text of a program, and of its host table.
use Rattle.std.specs.Prelude.{ℕ, List, ◌++◌, codes}
use Rattle.std.specs.Fmt.{decimal}
use Rattle.std.specs.List.{flat_map}
use Rattle.program_gen.specs.declared.functions.Function.{Function}
use Rattle.program_gen.specs.declared.functions.Kind.{Kind}
use Rattle.program_gen.specs.declared.functions.Kind.TheVariants.{Adds, Loops, Signs, Declassifies}
use Rattle.program_gen.specs.Functions.{name_of}

abbrev pub adding : Function → List ℕ
adding f = codes "int " ++ name_of f ++ codes "(int x) { return (x + " ++ decimal f.addend ++ codes ") % 1000; }\n"

abbrev pub looping : Function → List ℕ
looping f = codes "int " ++ name_of f ++ codes "(int x) { int i; int s; s = x; for (i = 0; i < " ++ decimal f.times ++ codes "; i++) s = (s + " ++ decimal f.addend ++ codes ") % 1000; return s; }\n"

abbrev pub signing : Function → List ℕ
signing f = codes "int " ++ name_of f ++ codes "(int x) { int k; k = load(x % 4); return sign(k, " ++ decimal f.addend ++ codes "); }\n"

abbrev pub declassifying : Function → List ℕ
declassifying f = codes "__attribute__((priv, declassify)) int " ++ name_of f ++ codes "(int x) { return load(x % 4) * " ++ decimal f.times ++ codes " + " ++ decimal f.addend ++ codes "; }\n"

-- a function's line, by its kind
abbrev pub line_by : Kind → Function → List ℕ
line_by Adds f = adding f
line_by Loops f = looping f
line_by Signs f = signing f
line_by Declassifies f = declassifying f

abbrev pub line_of : Function → List ℕ
line_of f = line_by f.kind f

-- what main does with a function
abbrev pub call_of : Function → List ℕ
call_of f = codes " x = " ++ name_of f ++ codes "(x); put(x);"

-- the declarations of the hosts
abbrev pub head : List ℕ
head = codes "__attribute__((priv)) int load(int n);\n" ++ codes "__attribute__((priv, declassify)) int sign(__attribute__((priv)) int k, int n);\n" ++ codes "void put(int v);\n"

-- main, in one line
abbrev pub main_of : List Function → List ℕ
main_of fs = codes "int main(void) { int x; x = 1;" ++ flat_map call_of fs ++ codes " return 0; }\n"

abbrev pub program_of : List Function → List ℕ
program_of fs = head ++ flat_map line_of fs ++ main_of fs

-- the host table, the same for all
abbrev pub hosts : List ℕ
hosts = codes "{\"load\":{\"kind\":\"table\",\"rows\":[[[0],100],[[1],101],[[2],102],[[3],103]],\"else\":0},\"sign\":{\"kind\":\"table\",\"rows\":[],\"else\":7},\"put\":{\"kind\":\"line\"}}"
