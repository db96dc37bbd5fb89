-- A boot has one spelling, none begins another, and what is read of bytes is what they spell.
use Rattle.std.proofs.Common.{◌≡◌, ◌≢◌, ◌==◌, ℕ, zero, suc, ◌+◌, ◌≤◌, true, false, List, [], ◌∷◌, ◌++◌, length, Option, Some, None, inl, inr, refl, sym, ap, ◌∙◌, arith}
use Rattle.std.specs.Prelude.{Ok, Err}
use Rattle.std.specs.List.{AllByRecursion}
use Rattle.std.proofs.lemmas.Bool.Decides.{nat_tests}
use Rattle.std.proofs.lemmas.List.{append-nil}
use Rattle.wire.specs.Limits.{IsBytes}
use Rattle.wire.proofs.Bytes.{AreBytes-from}
use Rattle.pt_core.specs.CodeTree.{RootTree, local, global, deref, PlaceTree, place, ExprTree, constant, read, unary, binary, convert, null, address, decay, move, compare, difference, ExprTrees, no_exprs, expr_and, StmtTree, clear, check, assign, copy, call, choose, repeat, break_out, continue_on, give_back, StmtTrees, no_stmts, stmt_and, FunctionTree, BootTree}
use Rattle.boot_fields.specs.declared.fault.ReadError.TheVariants.{Bad, Memory}
use Rattle.boot_fields.specs.Spelling.{function_bytes, spelled}
use Rattle.boot_fields.specs.Limits.{FitsFunction, FitsTypes, Spells}
use Rattle.boot_fields.specs.Reading.{Reading, function_at, boot_at}
use Rattle.boots.specs.Laws.{OneSpelling}
use Rattle.boot_fields.proofs.Parts.{IsPart, ok_is, part_fits, both_part, mapped_part, byte_part, number32_part, text_part, list_part, flat_list, numbered_part}
use Rattle.boots.proofs.Values.{span_part, variable_part, struct_part, signature_part, model_part, global_part}
use Rattle.boots.proofs.Trees.{ShortPlace, ShortExpr, ShortExprs, stmts_of, ShortStmts, ShortStmt, stmts_part, stmt_part}

-- ---- functions and boots

abbrev ShortFunction : ℕ → FunctionTree → Type 0
ShortFunction d f = ShortStmts (ShortStmt d) f.body

function_part : (d : ℕ) → IsPart FitsFunction (ShortFunction d) function_bytes (function_at d)
unfolding function_at
function_part d =
    part_fits (λ x h. h) (λ x h. h) (λ x h. (tt, (tt, (tt, (h, tt)))))
    (mapped_part (λ p. record { id = p.0; params = p.1.0; vars = p.1.1.0; body = p.1.1.1.0; end = p.1.1.1.1 }) (λ (f : FunctionTree). (f.id, (f.params, (f.vars, (f.body, f.end))))) (λ x. refl) (λ y. refl)
    (both_part number32_part (both_part byte_part (both_part (flat_list variable_part) (both_part (stmts_part (ShortStmt d) _ (stmt_part d)) span_part)))))

abbrev ShortBoot : ℕ → BootTree → Type 0
ShortBoot d b = AllByRecursion (ShortFunction d) b.functions

boot_part : (d : ℕ) → IsPart FitsTypes (ShortBoot d) spelled (boot_at d)
unfolding boot_at
boot_part d =
    part_fits
    (λ x h. record { structs = h.0; signatures = h.1.0; functions = h.1.1.0; globals = h.1.1.1.0; hosts = h.1.1.1.1.0; input = h.1.1.1.1.1.0; turns = h.1.1.1.1.1.1 })
    (λ x h. (h.structs, (h.signatures, (h.functions, (h.globals, (h.hosts, (h.input, h.turns))))))) (λ x h. (tt, (tt, (h, (tt, (tt, (tt, tt)))))))
    (mapped_part
    (λ p. record { structs = p.0; signatures = p.1.0; functions = p.1.1.0; globals = p.1.1.1.0; hosts = p.1.1.1.1.0; input = p.1.1.1.1.1.0; turns = p.1.1.1.1.1.1 })
    (λ (b : BootTree). (b.structs, (b.signatures, (b.functions, (b.globals, (b.hosts, (b.input, b.turns))))))) (λ x. refl) (λ y. refl)
    (both_part (flat_list struct_part)
    (both_part (flat_list (numbered_part signature_part))
    (both_part (list_part (function_part d))
    (both_part (flat_list global_part)
    (both_part (flat_list (numbered_part model_part)) (both_part text_part number32_part)))))))

-- ---- each boot is read, where enough nested nodes are followed

-- nodes of expressions inside this one
abbrev mutual
  expr_inside : ExprTree → ℕ
  expr_inside (constant t v) = 0
  expr_inside (read p) = place_inside p
  expr_inside (unary op t a s) = suc (expr_inside a)
  expr_inside (binary op t a b s) = suc (expr_inside a + expr_inside b)
  expr_inside (convert t a) = suc (expr_inside a)
  expr_inside (null item) = 0
  expr_inside (address p) = place_inside p
  expr_inside (decay p) = place_inside p
  expr_inside (move a b back s) = suc (expr_inside a + expr_inside b)
  expr_inside (compare op a b s) = suc (expr_inside a + expr_inside b)
  expr_inside (difference a b s) = suc (expr_inside a + expr_inside b)

  place_inside : PlaceTree → ℕ
  place_inside (place root path) = root_inside root

  root_inside : RootTree → ℕ
  root_inside (local v) = 0
  root_inside (global g) = 0
  root_inside (deref a s) = suc (expr_inside a)

with_one : (P : ℕ → Type 0) (n d : ℕ) → suc n ≤ d → ((k : ℕ) → n ≤ k → P (suc k)) → P d
with_one P n zero h f = absurd (omega (arith, h))
with_one P n (suc d) h f = f d (omega (arith, h))

mutual
  short_expr : (e : ExprTree) (d : ℕ) → expr_inside e ≤ d → ShortExpr (suc d) e
  short_expr (constant t v) d h = tt
  short_expr (read p) d h = short_place p d h
  short_expr (unary op t a s) d h = with_one (λ k. ShortExpr k a) (expr_inside a) d h (λ k le. short_expr a k le)
  short_expr (binary op t a b s) d h =
      (with_one (λ k. ShortExpr k a) (expr_inside a) d (omega (arith, h)) (λ k le. short_expr a k le), with_one (λ k. ShortExpr k b) (expr_inside b) d (omega (arith, h)) (λ k le. short_expr b k le))
  short_expr (convert t a) d h = with_one (λ k. ShortExpr k a) (expr_inside a) d h (λ k le. short_expr a k le)
  short_expr (null item) d h = tt
  short_expr (address p) d h = short_place p d h
  short_expr (decay p) d h = short_place p d h
  short_expr (move a b back s) d h =
      (with_one (λ k. ShortExpr k a) (expr_inside a) d (omega (arith, h)) (λ k le. short_expr a k le), with_one (λ k. ShortExpr k b) (expr_inside b) d (omega (arith, h)) (λ k le. short_expr b k le))
  short_expr (compare op a b s) d h =
      (with_one (λ k. ShortExpr k a) (expr_inside a) d (omega (arith, h)) (λ k le. short_expr a k le), with_one (λ k. ShortExpr k b) (expr_inside b) d (omega (arith, h)) (λ k le. short_expr b k le))
  short_expr (difference a b s) d h =
      (with_one (λ k. ShortExpr k a) (expr_inside a) d (omega (arith, h)) (λ k le. short_expr a k le), with_one (λ k. ShortExpr k b) (expr_inside b) d (omega (arith, h)) (λ k le. short_expr b k le))

  short_place : (p : PlaceTree) (d : ℕ) → place_inside p ≤ d → ShortPlace (ShortExpr d) p
  short_place (place (local v) path) d h = tt
  short_place (place (global g) path) d h = tt
  short_place (place (deref a s) path) d h = with_one (λ k. ShortExpr k a) (expr_inside a) d h (λ k le. short_expr a k le)

short_operand : (a : ExprTree) (d : ℕ) → suc (expr_inside a) ≤ d → ShortExpr d a
short_operand a d h = with_one (λ k. ShortExpr k a) (expr_inside a) d h (λ k le. short_expr a k le)

abbrev exprs_inside : ExprTrees → ℕ
exprs_inside no_exprs = 0
exprs_inside (expr_and a rest) = suc (expr_inside a) + exprs_inside rest

short_exprs : (xs : ExprTrees) (d : ℕ) → exprs_inside xs ≤ d → ShortExprs (ShortExpr d) xs
short_exprs no_exprs d h = tt
short_exprs (expr_and a rest) d h = (short_operand a d (omega (arith, h)), short_exprs rest d (omega (arith, h)))

abbrev value_inside : Option ExprTree → ℕ
value_inside None = 0
value_inside (Some a) = suc (expr_inside a)

abbrev mutual
  stmt_inside : StmtTree → ℕ
  stmt_inside (clear v) = 0
  stmt_inside (check p) = place_inside p
  stmt_inside (assign p a) = place_inside p + suc (expr_inside a)
  stmt_inside (copy p q) = place_inside p + place_inside q
  stmt_inside (call f arguments v s) = exprs_inside arguments
  stmt_inside (choose a xs ys) = suc (expr_inside a) + (stmts_inside xs + stmts_inside ys)
  stmt_inside (repeat xs s) = stmts_inside xs
  stmt_inside break_out = 0
  stmt_inside continue_on = 0
  stmt_inside (give_back a) = value_inside a

  stmts_inside : StmtTrees → ℕ
  stmts_inside no_stmts = 0
  stmts_inside (stmt_and a rest) = suc (stmt_inside a) + stmts_inside rest

mutual
  short_stmt : (s : StmtTree) (d : ℕ) → stmt_inside s ≤ d → ShortStmt (suc d) s
  short_stmt (clear v) d h = tt
  short_stmt (check p) d h = short_place p d h
  short_stmt (assign p a) d h = (short_place p d (omega (arith, h)), short_operand a d (omega (arith, h)))
  short_stmt (copy p q) d h = (short_place p d (omega (arith, h)), short_place q d (omega (arith, h)))
  short_stmt (call f arguments v s) d h = short_exprs arguments d h
  short_stmt (choose a xs ys) d h = (short_operand a d (omega (arith, h)), (short_stmts xs d (omega (arith, h)), short_stmts ys d (omega (arith, h))))
  short_stmt (repeat xs s) d h = short_stmts xs d h
  short_stmt break_out d h = tt
  short_stmt continue_on d h = tt
  short_stmt (give_back None) d h = tt
  short_stmt (give_back (Some a)) d h = short_operand a d h

  short_stmts : (xs : StmtTrees) (d : ℕ) → stmts_inside xs ≤ d → AllByRecursion (ShortStmt d) (stmts_of xs)
  short_stmts no_stmts d h = tt
  short_stmts (stmt_and a rest) d h = (with_one (λ k. ShortStmt k a) (stmt_inside a) d (omega (arith, h)) (λ k le. short_stmt a k le), short_stmts rest d (omega (arith, h)))

abbrev functions_inside : List FunctionTree → ℕ
functions_inside [] = 0
functions_inside (f ∷ fs) = stmts_inside f.body + functions_inside fs

short_functions : (fs : List FunctionTree) (d : ℕ) → functions_inside fs ≤ d → AllByRecursion (ShortFunction d) fs
short_functions [] d h = tt
short_functions (f ∷ fs) d h = (short_stmts f.body d (omega (arith, h)), short_functions fs d (omega (arith, h)))

read_again : (b : BootTree) (d : ℕ) (rest : List ℕ) → functions_inside b.functions ≤ d → FitsTypes b → boot_at d (spelled b ++ rest) ≡ Ok (b, rest)
read_again b d rest le fits =
    elim ((boot_part d).again b rest fits) [
      | inl e ↦ e
      | inr e ↦ absurd (e.1 (short_functions b.functions d le))
    ]

-- ---- the laws

pub one_spelling : (b : BootTree) → OneSpelling b
unfolding Spells
one_spelling b = record {
  some = λ fits. (spelled b, (fits, refl));
  only = λ x y s t. s.1 ∙ sym t.1;
  none = λ x s. s.0;
}

-- two boots at one front
same_boot : (a b : BootTree) (x y : List ℕ) → FitsTypes a → FitsTypes b → spelled a ++ x ≡ spelled b ++ y → (a ≡ b) × (x ≡ y)
same_boot a b x y fits fits' e =
    let d = functions_inside a.functions + functions_inside b.functions in
    let one : boot_at d (spelled a ++ x) ≡ Ok (a, x) = read_again a d x (omega arith) fits in
    let two : boot_at d (spelled b ++ y) ≡ Ok (b, y) = read_again b d y (omega arith) fits' in
    let left : BootTree × List ℕ = (a, x) in
    let right : BootTree × List ℕ = (b, y) in
    let same : left ≡ right = ok_is left right (sym one ∙ ap (boot_at d) e ∙ two) in
    (ap (λ p. p.0) same, ap (λ p. p.1) same)

pub one_reading : (a b : BootTree) (bytes : List ℕ) → Spells a bytes → Spells b bytes → a ≡ b
unfolding Spells
one_reading a b bytes s t = (same_boot a b [] [] s.0 t.0 (ap (λ x. x ++ []) (sym s.1 ∙ t.1))).0

pub none_begins_another : (a b : BootTree) (bytes more : List ℕ) → Spells a bytes → Spells b (bytes ++ more) → more ≡ []
unfolding Spells
none_begins_another a b bytes more s t =
    (same_boot a b more [] s.0 t.0 (ap (λ x. x ++ more) (sym s.1) ∙ t.1 ∙ sym (append-nil (spelled b)))).1

-- ---- what is read of bytes

pub read_whole : (d : ℕ) (bytes : List ℕ) (b : BootTree) → IsBytes bytes → boot_at d bytes ≡ Ok (b, []) → Spells b bytes
unfolding Spells
read_whole d bytes b fits e =
    let found : BootTree × List ℕ = (b, []) in
    let t = (boot_part d).takes bytes found (AreBytes-from bytes fits) e in
    (t.1, t.0.parts ∙ append-nil (spelled b))

-- what is read, where the bytes spell a boot
spelled_is_read : (d : ℕ) (bytes : List ℕ) (b : BootTree) (r : Reading BootTree) → Spells b bytes → boot_at d bytes ≡ r → r ≢ Err Memory → r ≡ Ok (b, [])
unfolding Spells
spelled_is_read d bytes b r s e deep =
    let here : boot_at d (spelled b ++ []) ≡ r = ap (boot_at d) (append-nil (spelled b) ∙ sym s.1) ∙ e in
    elim ((boot_part d).again b [] s.0) [
      | inl f ↦ sym here ∙ f
      | inr f ↦ absurd (deep (sym here ∙ f.0))
    ]

pub bad_is_no_boot : (d : ℕ) (bytes : List ℕ) → boot_at d bytes ≡ Err Bad → (b : BootTree) → Spells b bytes → ⊥
bad_is_no_boot d bytes e b s =
    let r : Reading BootTree = Err Bad in
    let f : r ≡ Ok (b, []) = spelled_is_read d bytes b r s e (λ g. cc) in
    cc

pub only_read : (d : ℕ) (bytes rest : List ℕ) (a b : BootTree) → boot_at d bytes ≡ Ok (a, rest) → Spells b bytes → (a ≡ b) × (rest ≡ [])
only_read d bytes rest a b e s =
    let found : BootTree × List ℕ = (a, rest) in
    let whole : BootTree × List ℕ = (b, []) in
    let r : Reading BootTree = Ok found in
    let same : found ≡ whole = ok_is found whole (spelled_is_read d bytes b r s e (λ g. cc)) in
    (ap (λ p. p.0) same, ap (λ p. p.1) same)

-- ---- whether bytes are left

pub none_left : (rest : List ℕ) → (length rest == 0) ≡ true → rest ≡ []
none_left [] h = refl
none_left (x ∷ rest) h = let none : suc (length rest) ≡ 0 = grind (arith, nat_tests, h) in absurd (omega (arith, none))

pub some_left : (rest : List ℕ) → (length rest == 0) ≡ false → rest ≢ []
some_left [] h e = cc
some_left (x ∷ rest) h e = cc

pub read_alone : (d : ℕ) (bytes rest : List ℕ) (b : BootTree) → IsBytes bytes → boot_at d bytes ≡ Ok (b, rest) → rest ≡ [] → Spells b bytes
read_alone d bytes rest b fits e none = read_whole d bytes b fits (e ∙ ap (λ x. Ok (b, x)) none)
