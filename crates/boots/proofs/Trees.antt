-- Expressions and statements are read as they were written, unless they are nested too deep.
use Rattle.std.proofs.Common.{◌≡◌, ℕ, zero, suc, ◌^◌, ◌<◌, List, [], ◌∷◌, ◌++◌, length, inl, inr, refl, sym, ap, subst, ◌∙◌}
use Rattle.std.specs.Prelude.{Ok}
use Rattle.std.specs.List.{flat_map, AllByRecursion}
use Rattle.boot_writing.proofs.TreeLists.{exprs_listed}
use Rattle.pt_base.specs.declared.span.Span.{Span}
use Rattle.wire.specs.Spelling.{four_bytes, eight_bytes}
use Rattle.wire.proofs.Bytes.{AreBytes}
use Rattle.wire.proofs.Fields.{Takes}
use Rattle.pt_core.specs.CodeTree.{RootTree, local, global, deref, PlaceTree, place, ExprTree, constant, read, unary, binary, convert, null, address, decay, move, compare, difference, ExprTrees, no_exprs, expr_and, expr_trees, StmtTree, clear, check, assign, copy, call, choose, repeat, break_out, continue_on, give_back, StmtTrees, no_stmts, stmt_and, stmt_trees}
use Rattle.boot_fields.specs.Spelling.{list_bytes, span_bytes, expr_bytes, place_bytes, root_bytes, exprs_of, exprs_bytes, count_of, stmt_bytes, stmts_bytes, items_bytes}
use Rattle.boot_fields.specs.Limits.{Fits32, FitsList, FitsSpan, FitsExpr, FitsPlace, FitsRoot, FitsExprs, FitsStmt, FitsStmts, FitsEach}
use Rattle.boot_fields.specs.Reading.{Reading, root_at, place_at, operands_at, node_at, expr_at, exprs_at, stmts_at, step_at, stmt_at}
use Rattle.boot_fields.proofs.Parts.{Again, IsPart, ShortOption, part_fits, part_bytes, both_part, mapped_part, variant_takes, variant_again, bare_takes, number32_part, signed128_part, truth_part, list_part, flat_list, option_part, flat_option}
use Rattle.boots.proofs.Values.{int_type_part, span_part, elem_part, unary_part, binary_part}

-- ---- what isn't nested too deep

abbrev pub ShortRoot : (ExprTree → Type 0) → RootTree → Type 0
ShortRoot Short (local v) = Unit {0}
ShortRoot Short (global g) = Unit {0}
ShortRoot Short (deref a s) = Short a

abbrev pub ShortPlace : (ExprTree → Type 0) → PlaceTree → Type 0
ShortPlace Short (place root path) = ShortRoot Short root

-- each expression inside it is short
abbrev pub ShortNode : (ExprTree → Type 0) → ExprTree → Type 0
ShortNode Short (constant t v) = Unit {0}
ShortNode Short (read p) = ShortPlace Short p
ShortNode Short (unary op t a s) = Short a
ShortNode Short (binary op t a b s) = Short a × Short b
ShortNode Short (convert t a) = Short a
ShortNode Short (null item) = Unit {0}
ShortNode Short (address p) = ShortPlace Short p
ShortNode Short (decay p) = ShortPlace Short p
ShortNode Short (move a b back s) = Short a × Short b
ShortNode Short (compare op a b s) = Short a × Short b
ShortNode Short (difference a b s) = Short a × Short b

-- of at most so many nested nodes
abbrev pub ShortExpr : ℕ → ExprTree → Type 0
ShortExpr zero e = ⊥
ShortExpr (suc d) e = ShortNode (ShortExpr d) e

abbrev pub ShortExprs : (ExprTree → Type 0) → ExprTrees → Type 0
ShortExprs Short xs = AllByRecursion Short (exprs_of xs)

abbrev pub stmts_of : StmtTrees → List StmtTree
stmts_of no_stmts = []
stmts_of (stmt_and a rest) = a ∷ stmts_of rest

abbrev pub ShortStmts : (StmtTree → Type 0) → StmtTrees → Type 0
ShortStmts Short xs = AllByRecursion Short (stmts_of xs)

-- each expression and statement inside it is short
abbrev pub ShortStep : (ExprTree → Type 0) → (StmtTree → Type 0) → StmtTree → Type 0
ShortStep Short Short' (clear v) = Unit {0}
ShortStep Short Short' (check p) = ShortPlace Short p
ShortStep Short Short' (assign p a) = ShortPlace Short p × Short a
ShortStep Short Short' (copy p q) = ShortPlace Short p × ShortPlace Short q
ShortStep Short Short' (call f arguments v s) = ShortExprs Short arguments
ShortStep Short Short' (choose a xs ys) = Short a × (ShortStmts Short' xs × ShortStmts Short' ys)
ShortStep Short Short' (repeat xs s) = ShortStmts Short' xs
ShortStep Short Short' break_out = Unit {0}
ShortStep Short Short' continue_on = Unit {0}
ShortStep Short Short' (give_back a) = ShortOption Short a

abbrev pub ShortStmt : ℕ → StmtTree → Type 0
ShortStmt zero s = ⊥
ShortStmt (suc d) s = ShortStep (ShortExpr d) (ShortStmt d) s

-- how expressions are read, of which some aren't too deep
abbrev pub ExprPart : (ExprTree → Type 0) → (List ℕ → Reading ExprTree) → Type 0
ExprPart Short expr = IsPart FitsExpr Short expr_bytes expr

-- ---- places

root_takes : (Short : ExprTree → Type 0) (expr : List ℕ → Reading ExprTree) → ExprPart Short expr
    → (bytes : List ℕ) (found : RootTree × List ℕ) → AreBytes bytes → root_at expr bytes ≡ Ok found → Takes bytes (root_bytes found.0) found.1 × FitsRoot found.0
unfolding root_at
root_takes Short expr p [] found fits e = absurd cc
root_takes Short expr p (zero ∷ bytes) found fits e = variant_takes number32_part local 0 root_bytes FitsRoot (λ x. refl) (λ x h. h) bytes found fits e
root_takes Short expr p (suc zero ∷ bytes) found fits e = variant_takes number32_part global 1 root_bytes FitsRoot (λ x. refl) (λ x h. h) bytes found fits e
root_takes Short expr p (suc (suc zero) ∷ bytes) found fits e = variant_takes (both_part p span_part) (λ x. deref x.0 x.1) 2 root_bytes FitsRoot (λ x. refl) (λ x h. h) bytes found fits e
root_takes Short expr p (suc (suc (suc b)) ∷ bytes) found fits e = absurd cc

root_again : (Short : ExprTree → Type 0) (expr : List ℕ → Reading ExprTree) → ExprPart Short expr
    → (x : RootTree) (rest : List ℕ) → FitsRoot x → Again (ShortRoot Short) x rest (root_at expr (root_bytes x ++ rest))
unfolding root_at
root_again Short expr p (local v) rest fits = variant_again number32_part local (ShortRoot Short) v rest fits (λ h. tt)
root_again Short expr p (global g) rest fits = variant_again number32_part global (ShortRoot Short) g rest fits (λ h. tt)
root_again Short expr p (deref a s) rest fits = variant_again (both_part p span_part) (λ x. deref x.0 x.1) (ShortRoot Short) (a, s) rest fits (λ h. (h, tt))

root_part : (Short : ExprTree → Type 0) (expr : List ℕ → Reading ExprTree) → ExprPart Short expr → IsPart FitsRoot (ShortRoot Short) root_bytes (root_at expr)
root_part Short expr p = record { takes = root_takes Short expr p; again = root_again Short expr p }

abbrev parts_of : PlaceTree → RootTree × List ℕ
parts_of (place root path) = (root, path)

parts_back : (p : PlaceTree) → place (parts_of p).0 (parts_of p).1 ≡ p
parts_back (place root path) = refl

place_into : (p : PlaceTree) → FitsRoot (parts_of p).0 × FitsList Fits32 (parts_of p).1 → FitsPlace p
place_into (place root path) h = h

place_from : (p : PlaceTree) → FitsPlace p → FitsRoot (parts_of p).0 × FitsList Fits32 (parts_of p).1
place_from (place root path) h = h

place_short : (Short : ExprTree → Type 0) (p : PlaceTree) → ShortPlace Short p → ShortRoot Short (parts_of p).0 × Unit {0}
place_short Short (place root path) h = (h, tt)

place_same : (p : PlaceTree) → root_bytes (parts_of p).0 ++ list_bytes four_bytes (parts_of p).1 ≡ place_bytes p
place_same (place root path) = refl

place_part : (Short : ExprTree → Type 0) (expr : List ℕ → Reading ExprTree) → ExprPart Short expr → IsPart FitsPlace (ShortPlace Short) place_bytes (place_at expr)
unfolding place_at
place_part Short expr p =
    part_bytes place_same
    (part_fits place_into place_from (place_short Short)
    (mapped_part (λ x. place x.0 x.1) parts_of (λ x. refl) parts_back (both_part (root_part Short expr p) (flat_list number32_part))))

-- ---- expressions

operands_part : (Short : ExprTree → Type 0) (expr : List ℕ → Reading ExprTree) → ExprPart Short expr
    → IsPart (λ (x : ExprTree × (ExprTree × Span)). FitsExpr x.0 × (FitsExpr x.1.0 × FitsSpan x.1.1)) (λ x. Short x.0 × (Short x.1.0 × Unit {0})) (λ x. expr_bytes x.0 ++ (expr_bytes x.1.0 ++ span_bytes x.1.1)) (operands_at expr)
unfolding operands_at
operands_part Short expr p = both_part p (both_part p span_part)

node_takes : (Short : ExprTree → Type 0) (expr : List ℕ → Reading ExprTree) → ExprPart Short expr
    → (bytes : List ℕ) (found : ExprTree × List ℕ) → AreBytes bytes → node_at expr bytes ≡ Ok found → Takes bytes (expr_bytes found.0) found.1 × FitsExpr found.0
unfolding node_at
node_takes Short expr p [] found fits e = absurd cc
node_takes Short expr p (zero ∷ bytes) found fits e = variant_takes (both_part int_type_part signed128_part) (λ x. constant x.0 x.1) 0 expr_bytes FitsExpr (λ x. refl) (λ x h. h.1) bytes found fits e
node_takes Short expr p (suc zero ∷ bytes) found fits e = variant_takes (place_part Short expr p) read 1 expr_bytes FitsExpr (λ x. refl) (λ x h. h) bytes found fits e
node_takes Short expr p (suc (suc zero) ∷ bytes) found fits e = variant_takes (both_part unary_part (both_part int_type_part (both_part p span_part))) (λ x. unary x.0 x.1.0 x.1.1.0 x.1.1.1) 2 expr_bytes FitsExpr (λ x. refl) (λ x h. h.1.1) bytes found fits e
node_takes Short expr p (suc (suc (suc zero)) ∷ bytes) found fits e = variant_takes (both_part binary_part (both_part int_type_part (operands_part Short expr p))) (λ x. binary x.0 x.1.0 x.1.1.0 x.1.1.1.0 x.1.1.1.1) 3 expr_bytes FitsExpr (λ x. refl) (λ x h. h.1.1) bytes found fits e
node_takes Short expr p (suc (suc (suc (suc zero))) ∷ bytes) found fits e = variant_takes (both_part int_type_part p) (λ x. convert x.0 x.1) 4 expr_bytes FitsExpr (λ x. refl) (λ x h. h.1) bytes found fits e
node_takes Short expr p (suc (suc (suc (suc (suc zero)))) ∷ bytes) found fits e = variant_takes elem_part null 5 expr_bytes FitsExpr (λ x. refl) (λ x h. h) bytes found fits e
node_takes Short expr p (suc (suc (suc (suc (suc (suc zero))))) ∷ bytes) found fits e = variant_takes (place_part Short expr p) address 6 expr_bytes FitsExpr (λ x. refl) (λ x h. h) bytes found fits e
node_takes Short expr p (suc (suc (suc (suc (suc (suc (suc zero)))))) ∷ bytes) found fits e = variant_takes (place_part Short expr p) decay 7 expr_bytes FitsExpr (λ x. refl) (λ x h. h) bytes found fits e
node_takes Short expr p (suc (suc (suc (suc (suc (suc (suc (suc zero))))))) ∷ bytes) found fits e = variant_takes (both_part p (both_part p (both_part truth_part span_part))) (λ x. move x.0 x.1.0 x.1.1.0 x.1.1.1) 8 expr_bytes FitsExpr (λ x. refl) (λ x h. (h.0, (h.1.0, h.1.1.1))) bytes found fits e
node_takes Short expr p (suc (suc (suc (suc (suc (suc (suc (suc (suc zero)))))))) ∷ bytes) found fits e = variant_takes (both_part binary_part (operands_part Short expr p)) (λ x. compare x.0 x.1.0 x.1.1.0 x.1.1.1) 9 expr_bytes FitsExpr (λ x. refl) (λ x h. h.1) bytes found fits e
node_takes Short expr p (suc (suc (suc (suc (suc (suc (suc (suc (suc (suc zero))))))))) ∷ bytes) found fits e = variant_takes (operands_part Short expr p) (λ x. difference x.0 x.1.0 x.1.1) 10 expr_bytes FitsExpr (λ x. refl) (λ x h. h) bytes found fits e
node_takes Short expr p (suc (suc (suc (suc (suc (suc (suc (suc (suc (suc (suc b)))))))))) ∷ bytes) found fits e = absurd cc

node_again : (Short : ExprTree → Type 0) (expr : List ℕ → Reading ExprTree) → ExprPart Short expr
    → (x : ExprTree) (rest : List ℕ) → FitsExpr x → Again (ShortNode Short) x rest (node_at expr (expr_bytes x ++ rest))
unfolding node_at
node_again Short expr p (constant t v) rest fits = variant_again (both_part int_type_part signed128_part) (λ x. constant x.0 x.1) (ShortNode Short) (t, v) rest (tt, fits) (λ h. (tt, tt))
node_again Short expr p (read a) rest fits = variant_again (place_part Short expr p) read (ShortNode Short) a rest fits (λ h. h)
node_again Short expr p (unary op t a s) rest fits = variant_again (both_part unary_part (both_part int_type_part (both_part p span_part))) (λ x. unary x.0 x.1.0 x.1.1.0 x.1.1.1) (ShortNode Short) (op, (t, (a, s))) rest (tt, (tt, fits)) (λ h. (tt, (tt, (h, tt))))
node_again Short expr p (binary op t a b s) rest fits = variant_again (both_part binary_part (both_part int_type_part (operands_part Short expr p))) (λ x. binary x.0 x.1.0 x.1.1.0 x.1.1.1.0 x.1.1.1.1) (ShortNode Short) (op, (t, (a, (b, s)))) rest (tt, (tt, fits)) (λ h. (tt, (tt, (h.0, (h.1, tt)))))
node_again Short expr p (convert t a) rest fits = variant_again (both_part int_type_part p) (λ x. convert x.0 x.1) (ShortNode Short) (t, a) rest (tt, fits) (λ h. (tt, h))
node_again Short expr p (null item) rest fits = variant_again elem_part null (ShortNode Short) item rest fits (λ h. tt)
node_again Short expr p (address a) rest fits = variant_again (place_part Short expr p) address (ShortNode Short) a rest fits (λ h. h)
node_again Short expr p (decay a) rest fits = variant_again (place_part Short expr p) decay (ShortNode Short) a rest fits (λ h. h)
node_again Short expr p (move a b back s) rest fits = variant_again (both_part p (both_part p (both_part truth_part span_part))) (λ x. move x.0 x.1.0 x.1.1.0 x.1.1.1) (ShortNode Short) (a, (b, (back, s))) rest (fits.0, (fits.1.0, (tt, fits.1.1))) (λ h. (h.0, (h.1, (tt, tt))))
node_again Short expr p (compare op a b s) rest fits = variant_again (both_part binary_part (operands_part Short expr p)) (λ x. compare x.0 x.1.0 x.1.1.0 x.1.1.1) (ShortNode Short) (op, (a, (b, s))) rest (tt, fits) (λ h. (tt, (h.0, (h.1, tt))))
node_again Short expr p (difference a b s) rest fits = variant_again (operands_part Short expr p) (λ x. difference x.0 x.1.0 x.1.1) (ShortNode Short) (a, (b, s)) rest fits (λ h. (h.0, (h.1, tt)))

pub expr_part : (d : ℕ) → IsPart FitsExpr (ShortExpr d) expr_bytes (expr_at d)
unfolding expr_at
expr_part zero = record { takes = λ bytes found fits e. absurd cc; again = λ x rest fits. inr (refl, λ h. h) }
expr_part (suc d) = record { takes = node_takes (ShortExpr d) (expr_at d) (expr_part d); again = node_again (ShortExpr d) (expr_at d) (expr_part d) }

-- ---- lists of expressions

exprs_back : (xs : ExprTrees) → expr_trees (exprs_of xs) ≡ xs
exprs_back no_exprs = refl
exprs_back (expr_and a rest) = ap (expr_and a) (exprs_back rest)

exprs_part : (Short : ExprTree → Type 0) (expr : List ℕ → Reading ExprTree) → ExprPart Short expr → IsPart FitsExprs (ShortExprs Short) exprs_bytes (exprs_at expr)
unfolding exprs_at
exprs_part Short expr p = mapped_part expr_trees exprs_of exprs_listed exprs_back (list_part p)

-- ---- lists of statements

stmts_there : (xs : List StmtTree) → stmts_of (stmt_trees xs) ≡ xs
stmts_there [] = refl
stmts_there (x ∷ xs) = ap (λ rest. x ∷ rest) (stmts_there xs)

stmts_back : (xs : StmtTrees) → stmt_trees (stmts_of xs) ≡ xs
stmts_back no_stmts = refl
stmts_back (stmt_and a rest) = ap (stmt_and a) (stmts_back rest)

same_count : (xs : StmtTrees) → length (stmts_of xs) ≡ count_of xs
same_count no_stmts = refl
same_count (stmt_and a rest) = ap suc (same_count rest)

same_items : (xs : StmtTrees) → flat_map stmt_bytes (stmts_of xs) ≡ items_bytes xs
same_items no_stmts = refl
same_items (stmt_and a rest) = ap (λ tail. stmt_bytes a ++ tail) (same_items rest)

same_stmts : (xs : StmtTrees) → list_bytes stmt_bytes (stmts_of xs) ≡ stmts_bytes xs
same_stmts xs = ap (λ n. eight_bytes n ++ flat_map stmt_bytes (stmts_of xs)) (same_count xs) ∙ ap (λ tail. eight_bytes (count_of xs) ++ tail) (same_items xs)

each_into : (xs : StmtTrees) → AllByRecursion FitsStmt (stmts_of xs) → FitsEach xs
each_into no_stmts h = tt
each_into (stmt_and a rest) h = (h.0, each_into rest h.1)

each_from : (xs : StmtTrees) → FitsEach xs → AllByRecursion FitsStmt (stmts_of xs)
each_from no_stmts h = tt
each_from (stmt_and a rest) h = (h.0, each_from rest h.1)

pub stmts_part : (Short : StmtTree → Type 0) (stmt : List ℕ → Reading StmtTree) → IsPart FitsStmt Short stmt_bytes stmt → IsPart FitsStmts (ShortStmts Short) stmts_bytes (stmts_at stmt)
unfolding stmts_at
stmts_part Short stmt p =
    part_bytes same_stmts
    (part_fits (λ xs h. (subst (λ n. n < 2 ^ 64) (same_count xs) h.0, each_into xs h.1)) (λ xs h. (subst (λ n. n < 2 ^ 64) (sym (same_count xs)) h.0, each_from xs h.1)) (λ xs h. h)
    (mapped_part stmt_trees stmts_of stmts_there stmts_back (list_part p)))

-- ---- statements

step_takes : (Short : ExprTree → Type 0) (expr : List ℕ → Reading ExprTree) → ExprPart Short expr → (Short' : StmtTree → Type 0) (stmt : List ℕ → Reading StmtTree) → IsPart FitsStmt Short' stmt_bytes stmt
    → (bytes : List ℕ) (found : StmtTree × List ℕ) → AreBytes bytes → step_at expr stmt bytes ≡ Ok found → Takes bytes (stmt_bytes found.0) found.1 × FitsStmt found.0
unfolding step_at
step_takes Short expr p Short' stmt q [] found fits e = absurd cc
step_takes Short expr p Short' stmt q (zero ∷ bytes) found fits e = variant_takes number32_part clear 0 stmt_bytes FitsStmt (λ x. refl) (λ x h. h) bytes found fits e
step_takes Short expr p Short' stmt q (suc zero ∷ bytes) found fits e = variant_takes (place_part Short expr p) check 1 stmt_bytes FitsStmt (λ x. refl) (λ x h. h) bytes found fits e
step_takes Short expr p Short' stmt q (suc (suc zero) ∷ bytes) found fits e = variant_takes (both_part (place_part Short expr p) p) (λ x. assign x.0 x.1) 2 stmt_bytes FitsStmt (λ x. refl) (λ x h. h) bytes found fits e
step_takes Short expr p Short' stmt q (suc (suc (suc zero)) ∷ bytes) found fits e = variant_takes (both_part (place_part Short expr p) (place_part Short expr p)) (λ x. copy x.0 x.1) 3 stmt_bytes FitsStmt (λ x. refl) (λ x h. h) bytes found fits e
step_takes Short expr p Short' stmt q (suc (suc (suc (suc zero))) ∷ bytes) found fits e = variant_takes (both_part number32_part (both_part (exprs_part Short expr p) (both_part (flat_option number32_part) span_part))) (λ x. call x.0 x.1.0 x.1.1.0 x.1.1.1) 4 stmt_bytes FitsStmt (λ x. refl) (λ x h. h) bytes found fits e
step_takes Short expr p Short' stmt q (suc (suc (suc (suc (suc zero)))) ∷ bytes) found fits e = variant_takes (both_part p (both_part (stmts_part Short' stmt q) (stmts_part Short' stmt q))) (λ x. choose x.0 x.1.0 x.1.1) 5 stmt_bytes FitsStmt (λ x. refl) (λ x h. h) bytes found fits e
step_takes Short expr p Short' stmt q (suc (suc (suc (suc (suc (suc zero))))) ∷ bytes) found fits e = variant_takes (both_part (stmts_part Short' stmt q) span_part) (λ x. repeat x.0 x.1) 6 stmt_bytes FitsStmt (λ x. refl) (λ x h. h) bytes found fits e
step_takes Short expr p Short' stmt q (suc (suc (suc (suc (suc (suc (suc zero)))))) ∷ bytes) found fits e = bare_takes break_out 7 stmt_bytes FitsStmt refl tt bytes found fits e
step_takes Short expr p Short' stmt q (suc (suc (suc (suc (suc (suc (suc (suc zero))))))) ∷ bytes) found fits e = bare_takes continue_on 8 stmt_bytes FitsStmt refl tt bytes found fits e
step_takes Short expr p Short' stmt q (suc (suc (suc (suc (suc (suc (suc (suc (suc zero)))))))) ∷ bytes) found fits e = variant_takes (option_part p) give_back 9 stmt_bytes FitsStmt (λ x. refl) (λ x h. h) bytes found fits e
step_takes Short expr p Short' stmt q (suc (suc (suc (suc (suc (suc (suc (suc (suc (suc b))))))))) ∷ bytes) found fits e = absurd cc

step_again : (Short : ExprTree → Type 0) (expr : List ℕ → Reading ExprTree) → ExprPart Short expr → (Short' : StmtTree → Type 0) (stmt : List ℕ → Reading StmtTree) → IsPart FitsStmt Short' stmt_bytes stmt
    → (x : StmtTree) (rest : List ℕ) → FitsStmt x → Again (ShortStep Short Short') x rest (step_at expr stmt (stmt_bytes x ++ rest))
unfolding step_at
step_again Short expr p Short' stmt q (clear v) rest fits = variant_again number32_part clear (ShortStep Short Short') v rest fits (λ h. tt)
step_again Short expr p Short' stmt q (check a) rest fits = variant_again (place_part Short expr p) check (ShortStep Short Short') a rest fits (λ h. h)
step_again Short expr p Short' stmt q (assign a b) rest fits = variant_again (both_part (place_part Short expr p) p) (λ x. assign x.0 x.1) (ShortStep Short Short') (a, b) rest fits (λ h. h)
step_again Short expr p Short' stmt q (copy a b) rest fits = variant_again (both_part (place_part Short expr p) (place_part Short expr p)) (λ x. copy x.0 x.1) (ShortStep Short Short') (a, b) rest fits (λ h. h)
step_again Short expr p Short' stmt q (call f arguments v s) rest fits = variant_again (both_part number32_part (both_part (exprs_part Short expr p) (both_part (flat_option number32_part) span_part))) (λ x. call x.0 x.1.0 x.1.1.0 x.1.1.1) (ShortStep Short Short') (f, (arguments, (v, s))) rest fits (λ h. (tt, (h, (tt, tt))))
step_again Short expr p Short' stmt q (choose a xs ys) rest fits = variant_again (both_part p (both_part (stmts_part Short' stmt q) (stmts_part Short' stmt q))) (λ x. choose x.0 x.1.0 x.1.1) (ShortStep Short Short') (a, (xs, ys)) rest fits (λ h. h)
step_again Short expr p Short' stmt q (repeat xs s) rest fits = variant_again (both_part (stmts_part Short' stmt q) span_part) (λ x. repeat x.0 x.1) (ShortStep Short Short') (xs, s) rest fits (λ h. (h, tt))
step_again Short expr p Short' stmt q break_out rest fits = inl refl
step_again Short expr p Short' stmt q continue_on rest fits = inl refl
step_again Short expr p Short' stmt q (give_back a) rest fits = variant_again (option_part p) give_back (ShortStep Short Short') a rest fits (λ h. h)

pub stmt_part : (d : ℕ) → IsPart FitsStmt (ShortStmt d) stmt_bytes (stmt_at d)
unfolding stmt_at
stmt_part zero = record { takes = λ bytes found fits e. absurd cc; again = λ x rest fits. inr (refl, λ h. h) }
stmt_part (suc d) = record {
  takes = step_takes (ShortExpr d) (expr_at d) (expr_part d) (ShortStmt d) (stmt_at d) (stmt_part d);
  again = step_again (ShortExpr d) (expr_at d) (expr_part d) (ShortStmt d) (stmt_at d) (stmt_part d);
}
