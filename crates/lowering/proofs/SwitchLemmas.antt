-- Switches: their cases one after the other, and the whole.
use Rattle.std.proofs.Common.{◌≡◌, ℕ, suc, ◌+◌, List, [], ◌∷◌, ◌++◌, length, map, refl, sym, ap, ◌∙◌, subst, append_assoc, length-append, arith}
use Rattle.pt_base.specs.declared.int_type.IntType.{IntType}
use Rattle.pt_base.specs.declared.span.Span.{Span}
use Rattle.typed_tree.specs.declared.types.VarTy.{VarTy}
use Rattle.typed_tree.specs.declared.types.VarTy.TheVariants.{Int}
use Rattle.typed_tree.specs.declared.statement.TypedLabel.{TypedLabel}
use Rattle.typed_tree.specs.declared.statement.TypedSection.{TypedSection}
use Rattle.typed_tree.specs.StatementTree.{BodyTrees, SectionTrees, no_sections, section, section_and, section_trees, view_section}
use Rattle.pt_core.specs.CodeTree.{ExprTree, StmtTree, repeat, break_out, stmt_trees}
use Rattle.source_meaning.specs.Statements.{count_of}
use Rattle.lowering.specs.declared.temporary.Temporary.{Temporary}
use Rattle.lowering.specs.Lowered.{Temp, Effects, Lowered, past, hold, counting, int}
use Rattle.lowering.specs.Operators.{as_int}
use Rattle.lowering.specs.Statements.{Code, Onward, inside, behind_switch, number, case_of, cases_from, otherwise_of, switched, sections_in}
use Rattle.lowering.specs.Output.{Output, next, temporary_of, added, more, opened, closed, Gives, Does, Collects}
use Rattle.lowering.proofs.OutputLemmas.{next_after, nothing_made, both, then_stmts, apart, next_opened}

pub counted : (xs : List TypedSection) → count_of (section_trees (map view_section xs)) ≡ length xs
counted [] = refl
counted (x ∷ xs) = ap suc (counted xs)

pub cases_step : (s : Span) (ty : IntType) (k m : ℕ) (o now all : Output) (at : Span) (label : TypedLabel) (stmts : BodyTrees) (rest rest' : SectionTrees) →
    rest ≡ section_and (section at label stmts) rest' → now ≡ added o (case_of s ty k m label) [] → added o (cases_from s ty k m rest) [] ≡ all → added now (cases_from s ty k (m + 1) rest') [] ≡ all
cases_step s ty k m o now all at label stmts rest rest' split h inv =
    both o now (added now (cases_from s ty k (m + 1) rest') []) (case_of s ty k m label) (cases_from s ty k (m + 1) rest') [] [] h refl
    ∙ ap (λ x. added o (cases_from s ty k m x) []) (sym split) ∙ inv

pub cases_end : (s : Span) (ty : IntType) (k m : ℕ) (now all : Output) (rest : SectionTrees) → rest ≡ no_sections → added now (cases_from s ty k m rest) [] ≡ all → now ≡ all
cases_end s ty k m now all rest e inv = nothing_made now ∙ ap (λ x. added now (cases_from s ty k m x) []) (sym e) ∙ inv

-- a temporary that is given a value
held_at : (o o1 : Output) (k : ℕ) (x : Temp) (t : Temporary) (v w : ExprTree) → next o ≡ k → t ≡ temporary_of x → v ≡ w → o1 ≡ added o (hold (next o) v ∷ []) (t ∷ []) → o1 ≡ more o (hold k w ∷ []) (x ∷ [])
held_at o o1 k x t v w ek et ev e =
    e ∙ ap (λ j. added o (hold j v ∷ []) (t ∷ [])) ek ∙ ap (λ z. added o (hold k z ∷ []) (t ∷ [])) ev ∙ ap (λ z. added o (hold k w ∷ []) (z ∷ [])) et

abbrev first_part : Span → IntType → ℕ → SectionTrees → ExprTree → List StmtTree
first_part s ty k sections value = hold k value ∷ hold (k + 1) (number (otherwise_of sections)) ∷ cases_from s ty k 0 sections ++ hold (k + 2) (number 0) ∷ []

abbrev three : IntType → List Temp
three ty = counting (Int ty) ∷ counting int ∷ counting int ∷ []

-- what stands before the sections
begun_switch : (s : Span) (ty : IntType) (sections : SectionTrees) (o o2 o3 o4 o5 : Output) (k value flag : ℕ) (promoted w other none : ExprTree) (t1 t2 : Temporary) →
    next o ≡ k → promoted ≡ w → t1 ≡ temporary_of (counting (Int ty)) → t2 ≡ temporary_of (counting int) → value ≡ next o → o2 ≡ added o (hold (next o) promoted ∷ []) (t1 ∷ []) →
    other ≡ number (otherwise_of sections) → o3 ≡ added o2 (hold (next o2) other ∷ []) (t2 ∷ []) → o4 ≡ added o3 (cases_from s ty value 0 sections) [] →
    none ≡ number 0 → o5 ≡ added o4 (hold (next o4) none ∷ []) (t2 ∷ []) → o5 ≡ more o (first_part s ty k sections w) (three ty)
begun_switch s ty sections o o2 o3 o4 o5 k value flag promoted w other none t1 t2 ek ep et1 et2 ev e2 eo e3 e4 en e5 =
    let a : o2 ≡ more o (hold k w ∷ []) (counting (Int ty) ∷ []) = held_at o o2 k (counting (Int ty)) t1 promoted w ek et1 ep e2 in
    let n2 : next o2 ≡ next o + 1 = next_after o o2 (hold k w ∷ []) (counting (Int ty) ∷ []) a in
    let m2 : next o2 ≡ k + 1 = n2 ∙ ap (λ j. j + 1) ek in
    let b1 = held_at o2 o3 (k + 1) (counting int) t2 other (number (otherwise_of sections)) m2 et2 eo e3 in
    let b : o3 ≡ more o (hold k w ∷ hold (k + 1) (number (otherwise_of sections)) ∷ []) (counting (Int ty) ∷ counting int ∷ []) = both o o2 o3 (hold k w ∷ []) (hold (k + 1) (number (otherwise_of sections)) ∷ []) (counting (Int ty) ∷ []) (counting int ∷ []) a b1 in
    let c : o4 ≡ more o (hold k w ∷ hold (k + 1) (number (otherwise_of sections)) ∷ cases_from s ty k 0 sections) (counting (Int ty) ∷ counting int ∷ []) =
    then_stmts o o3 o4 (hold k w ∷ hold (k + 1) (number (otherwise_of sections)) ∷ []) (cases_from s ty k 0 sections) (counting (Int ty) ∷ counting int ∷ []) b (e4 ∙ ap (λ j. added o3 (cases_from s ty j 0 sections) []) (ev ∙ ek)) in
    let n4 : next o4 ≡ next o + 2 = next_after o o4 (hold k w ∷ hold (k + 1) (number (otherwise_of sections)) ∷ cases_from s ty k 0 sections) (counting (Int ty) ∷ counting int ∷ []) c in
    let m4 : next o4 ≡ k + 2 = n4 ∙ ap (λ j. j + 2) ek in
    let d1 = held_at o4 o5 (k + 2) (counting int) t2 none (number 0) m4 et2 en e5 in
    both o o4 o5 (hold k w ∷ hold (k + 1) (number (otherwise_of sections)) ∷ cases_from s ty k 0 sections) (hold (k + 2) (number 0) ∷ []) (counting (Int ty) ∷ counting int ∷ []) (counting int ∷ []) c d1

-- the loop that runs the sections once, and what stands behind it
run_switch : (s : Span) (mode : Onward) (o5 o6 o7 o8 o9 o10 o11 : Output) (flag : ℕ) (outer inner : List StmtTree) (body : Effects) →
    outer ≡ o5.stmts → o6 ≡ opened o5 → Does o6 body o7 → o8 ≡ added o7 (break_out ∷ []) [] → inner ≡ o8.stmts → o9 ≡ closed o8 outer → o10 ≡ added o9 (repeat (stmt_trees inner) s ∷ []) [] → o11 ≡ added o10 (behind_switch mode flag) [] →
    o11 ≡ more o5 (repeat (stmt_trees (body.stmts ++ break_out ∷ [])) s ∷ behind_switch mode flag) body.temps
run_switch s mode o5 o6 o7 o8 o9 o10 o11 flag outer inner body eo e6 d e8 ei e9 e10 e11 =
    let a : o8 ≡ more o6 (body.stmts ++ break_out ∷ []) body.temps = then_stmts o6 o7 o8 body.stmts (break_out ∷ []) body.temps d.made e8 in
    let col = apart o5 o6 o8 o9 outer inner (body.stmts ++ break_out ∷ []) body.temps eo e6 a ei e9 in
    let b : o10 ≡ more o5 (repeat (stmt_trees (body.stmts ++ break_out ∷ [])) s ∷ []) body.temps =
    then_stmts o5 o9 o10 [] (repeat (stmt_trees (body.stmts ++ break_out ∷ [])) s ∷ []) body.temps col.made (e10 ∙ ap (λ z. added o9 (repeat (stmt_trees z) s ∷ []) []) col.are) in
    then_stmts o5 o10 o11 (repeat (stmt_trees (body.stmts ++ break_out ∷ [])) s ∷ []) (behind_switch mode flag) body.temps b e11

-- how many temporaries are added
counted_on : (o o1 : Output) (xs : List StmtTree) (ys : List Temporary) → o1 ≡ added o xs ys → next o1 ≡ next o + length ys
counted_on o o1 xs ys h =
    let a : length (o.temps ++ ys) ≡ length o.temps + length ys = length-append o.temps ys in
    ap next h ∙ omega arith

flag_is : (s : Span) (ty : IntType) (sections : SectionTrees) (o1 o2 o3 o4 : Output) (k value flag : ℕ) (promoted other : ExprTree) (t1 t2 : Temporary) → next o1 ≡ k → flag ≡ next o4 → o2 ≡ added o1 (hold (next o1) promoted ∷ []) (t1 ∷ []) → o3 ≡ added o2 (hold (next o2) other ∷ []) (t2 ∷ []) → o4 ≡ added o3 (cases_from s ty value 0 sections) [] → flag ≡ k + 2
flag_is s ty sections o1 o2 o3 o4 k value flag promoted other t1 t2 n1 ef e2 e3 e4 =
    let a : next o2 ≡ next o1 + 1 = counted_on o1 o2 _ (t1 ∷ []) e2 in
    let b : next o3 ≡ next o2 + 1 = counted_on o2 o3 _ (t2 ∷ []) e3 in
    let d : next o4 ≡ next o3 + 0 = counted_on o3 o4 _ [] e4 in
    omega arith

pub switched_does : (c : Code) (s : Span) (ty : IntType) (from : VarTy) (mode inner_mode : Onward) (sections : SectionTrees) (o o1 o2 o3 o4 o5 o6 o7 o8 o9 o10 o11 : Output) (low : Lowered) (value flag : ℕ) (v promoted other none : ExprTree) (t1 t2 : Temporary) (outer inner : List StmtTree) →
    Gives o low o1 v → promoted ≡ as_int from ty v → t1 ≡ temporary_of (counting (Int ty)) → t2 ≡ temporary_of (counting int) → value ≡ next o1 → o2 ≡ added o1 (hold (next o1) promoted ∷ []) (t1 ∷ []) →
    other ≡ number (otherwise_of sections) → o3 ≡ added o2 (hold (next o2) other ∷ []) (t2 ∷ []) → o4 ≡ added o3 (cases_from s ty value 0 sections) [] →
    none ≡ number 0 → flag ≡ next o4 → o5 ≡ added o4 (hold (next o4) none ∷ []) (t2 ∷ []) → outer ≡ o5.stmts → o6 ≡ opened o5 → inner_mode ≡ inside mode flag → Does o6 (sections_in c s sections inner_mode value 0 (next o6)) o7 →
    o8 ≡ added o7 (break_out ∷ []) [] → inner ≡ o8.stmts → o9 ≡ closed o8 outer → o10 ≡ added o9 (repeat (stmt_trees inner) s ∷ []) [] → o11 ≡ added o10 (behind_switch mode flag) [] →
    Does o (switched s ty from (past (next o) low.temps) mode sections low (sections_in c s sections (inside mode (past (next o) low.temps + 2)) (past (next o) low.temps) 0 (past (next o) low.temps + 3))) o11
switched_does c s ty from mode inner_mode sections o o1 o2 o3 o4 o5 o6 o7 o8 o9 o10 o11 low value flag v promoted other none t1 t2 outer inner g ep et1 et2 ev e2 eo e3 e4 en ef e5 eu e6 em d e8 ei e9 e10 e11 =
    let k = past (next o) low.temps in
    let n1 : next o1 ≡ k = next_after o o1 low.stmts low.temps g.made in
    let w = as_int from ty low.value in
    let a : o5 ≡ more o1 (first_part s ty k sections w) (three ty) = begun_switch s ty sections o1 o2 o3 o4 o5 k value flag promoted w other none t1 t2 n1 (ep ∙ ap (as_int from ty) g.is) et1 et2 ev e2 eo e3 e4 en e5 in
    let n5 : next o5 ≡ next o1 + 3 = next_after o1 o5 (first_part s ty k sections w) (three ty) a in
    let m6 : next o6 ≡ k + 3 = next_opened o5 o6 e6 ∙ n5 ∙ ap (λ j. j + 3) n1 in
    let f : flag ≡ k + 2 = flag_is s ty sections o1 o2 o3 o4 k value flag promoted other t1 t2 n1 ef e2 e3 e4 in
    let vk : value ≡ k = ev ∙ n1 in
    let d1 : Does o6 (sections_in c s sections (inside mode (k + 2)) k 0 (k + 3)) o7 =
    subst (λ j. Does o6 (sections_in c s sections (inside mode j) k 0 (k + 3)) o7) f
    (subst (λ z. Does o6 (sections_in c s sections z k 0 (k + 3)) o7) em
    (subst (λ j. Does o6 (sections_in c s sections inner_mode j 0 (k + 3)) o7) vk (subst (λ j. Does o6 (sections_in c s sections inner_mode value 0 j) o7) m6 d))) in
    let body = sections_in c s sections (inside mode (k + 2)) k 0 (k + 3) in
    let b : o11 ≡ more o5 (repeat (stmt_trees (body.stmts ++ break_out ∷ [])) s ∷ behind_switch mode (k + 2)) body.temps =
    run_switch s mode o5 o6 o7 o8 o9 o10 o11 (k + 2) outer inner body eu e6 d1 e8 ei e9 e10 (e11 ∙ ap (λ j. added o10 (behind_switch mode j) []) f) in
    let head = hold k w ∷ hold (k + 1) (number (otherwise_of sections)) ∷ cases_from s ty k 0 sections in
    let tail = repeat (stmt_trees (body.stmts ++ break_out ∷ [])) s ∷ behind_switch mode (k + 2) in
    let ab : o11 ≡ more o1 (head ++ hold (k + 2) (number 0) ∷ tail) (three ty ++ body.temps) = both o1 o5 o11 (first_part s ty k sections w) tail (three ty) body.temps a b ∙ ap (λ xs. more o1 xs (three ty ++ body.temps)) (append_assoc head (hold (k + 2) (number 0) ∷ []) tail) in
    record {
      made =
          both o o1 o11 low.stmts (head ++ hold (k + 2) (number 0) ∷ tail) low.temps (three ty ++ body.temps) g.made ab
          ∙ ap (λ xs. more o xs (low.temps ++ (three ty ++ body.temps))) (sym (append_assoc low.stmts head (hold (k + 2) (number 0) ∷ tail)))
          ∙ ap (λ ys. more o (low.stmts ++ head ++ hold (k + 2) (number 0) ∷ tail) ys) (sym (append_assoc low.temps (three ty) body.temps));
    }
