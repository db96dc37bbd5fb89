-- Loops, choices and lists of statements: parts whose first number is known behind those before.
use Rattle.std.proofs.Common.{◌≡◌, ℕ, ◌+◌, List, [], ◌∷◌, ◌++◌, refl, sym, ap, ◌∙◌, subst, arith}
use Rattle.pt_base.specs.declared.span.Span.{Span}
use Rattle.pt_core.specs.CodeTree.{ExprTree, StmtTree, choose, repeat, give_back, stmt_trees}
use Rattle.std.specs.Prelude.{Some}
use Rattle.lowering.specs.Lowered.{Temp, Effects, Lowered, past, temp, hold, nothing, counting, int, followed}
use Rattle.lowering.specs.Statements.{looped, on_the_way_back, first_told, number, chosen, returned}
use Rattle.lowering.specs.StatementParts.{first_turn, back_only}
use Rattle.lowering.specs.Output.{Output, next, added, more, opened, closed, Gives, Does, Collects}
use Rattle.lowering.proofs.OutputLemmas.{next_after, nothing_made, both, then_stmts, apart, next_opened}
use Rattle.lowering.proofs.PieceLemmas.{chosen_is}

-- what an effect makes, whose first number is the next one
abbrev pub Makes : Output → (ℕ → Effects) → Output → Type 0
Makes o f o1 = Does o (f (next o)) o1

-- one effect behind another
abbrev pub one_then : (ℕ → Effects) → (ℕ → Effects) → ℕ → Effects
one_then f g n = followed (f n) (g (past n (f n).temps))

pub then_makes : (o o1 o2 : Output) (f g : ℕ → Effects) → Makes o f o1 → Makes o1 g o2 → Makes o (one_then f g) o2
then_makes o o1 o2 f g d e =
    let low = f (next o) in
    let n : next o1 ≡ past (next o) low.temps = next_after o o1 low.stmts low.temps d.made in
    let e1 : Does o1 (g (past (next o) low.temps)) o2 = subst (λ j. Does o1 (g j) o2) n e in
    record { made = both o o1 o2 low.stmts (g (past (next o) low.temps)).stmts low.temps (g (past (next o) low.temps)).temps d.made e1.made }

-- a loop of a list of its own
pub looped_makes : (o ob o2 o3 o4 : Output) (s : Span) (outer inner : List StmtTree) (f : ℕ → Effects) → outer ≡ o.stmts → ob ≡ opened o → Makes ob f o2 → inner ≡ o2.stmts → o3 ≡ closed o2 outer → o4 ≡ added o3 (repeat (stmt_trees inner) s ∷ []) [] → Makes o (λ n. looped s (f n)) o4
looped_makes o ob o2 o3 o4 s outer inner f eo eb d ei e3 e4 =
    let body = f (next o) in
    let d1 : Does ob body o2 = subst (λ j. Does ob (f j) o2) (next_opened o ob eb) d in
    let col = apart o ob o2 o3 outer inner body.stmts body.temps eo eb d1.made ei e3 in
    record { made = then_stmts o o3 o4 [] (repeat (stmt_trees body.stmts) s ∷ []) body.temps col.made (e4 ∙ ap (λ z. added o3 (repeat (stmt_trees z) s ∷ []) []) col.are) }

-- what is done on the way back alone
pub back_makes : (ob o1 o2 : Output) (k : ℕ) (back : List StmtTree) (f : ℕ → Effects) → Collects ob (f (next ob)) o1 back → o2 ≡ added o1 (back_only k back) [] → Makes ob (λ n. on_the_way_back k (f n)) o2
back_makes ob o1 o2 k back f col e =
    record { made = then_stmts ob o1 o2 [] (back_only k (f (next ob)).stmts) (f (next ob)).temps col.made (e ∙ ap (λ z. added o1 (back_only k z) []) col.are) }

-- a loop whose first turn is told
pub told_makes : (o o0 o1 : Output) (k : ℕ) (f : ℕ → ℕ → Effects) → k ≡ next o → Does o (first_turn (next o)) o0 → Makes o0 (f k) o1 → Makes o (λ n. first_told n (f n (n + 1))) o1
told_makes o o0 o1 k f ek d e =
    let e1 : Makes o0 (f (next o)) o1 = subst (λ j. Makes o0 (f j) o1) ek e in
    then_makes o o0 o1 first_turn (f (next o)) d e1

-- a `do`, and a `for` with a step: parts on the way back, and then others
pub way_back_makes : (o o0 ob o1 o2 o4 o5 o6 : Output) (s : Span) (k : ℕ) (outer inner back : List StmtTree) (f g : ℕ → Effects) →
    k ≡ next o → Does o (first_turn (next o)) o0 → outer ≡ o0.stmts → ob ≡ opened o0 → Collects ob (f (next ob)) o1 back → o2 ≡ added o1 (back_only k back) [] → Makes o2 g o4 → inner ≡ o4.stmts → o5 ≡ closed o4 outer → o6 ≡ added o5 (repeat (stmt_trees inner) s ∷ []) [] →
    Makes o (λ n. first_told n (looped s (followed (on_the_way_back n (f (n + 1))) (g (past (n + 1) (f (n + 1)).temps))))) o6
way_back_makes o o0 ob o1 o2 o4 o5 o6 s k outer inner back f g ek d eo eb col e2 dg ei e5 e6 =
    told_makes o o0 o6 k (λ j n. looped s (one_then (λ m. on_the_way_back j (f m)) g n)) ek d
    (looped_makes o0 ob o4 o5 o6 s outer inner (one_then (λ m. on_the_way_back k (f m)) g) eo eb
    (then_makes ob o2 o4 (λ m. on_the_way_back k (f m)) g (back_makes ob o1 o2 k back f col e2) dg) ei e5 e6)

-- ---- choices and returns

pub chosen_makes : (o o1 o3 o4 o5 : Output) (low : Lowered) (v : ExprTree) (f g : ℕ → Effects) (us vs : List StmtTree) → Gives o low o1 v → Collects o1 (f (next o1)) o3 us → Collects o3 (g (next o3)) o4 vs → o5 ≡ added o4 (choose v (stmt_trees us) (stmt_trees vs) ∷ []) [] →
    Does o (chosen low (f (past (next o) low.temps)) (g (past (past (next o) low.temps) (f (past (next o) low.temps)).temps))) o5
chosen_makes o o1 o3 o4 o5 low v f g us vs h c d e =
    let m = past (next o) low.temps in
    let n : next o1 ≡ m = next_after o o1 low.stmts low.temps h.made in
    let c1 : Collects o1 (f m) o3 us = subst (λ j. Collects o1 (f j) o3 us) n c in
    let n3 : next o3 ≡ past m (f m).temps = next_after o1 o3 [] (f m).temps c1.made ∙ ap (λ j. past j (f m).temps) n in
    let d1 : Collects o3 (g (past m (f m).temps)) o4 vs = subst (λ j. Collects o3 (g j) o4 vs) n3 d in
    record { made = chosen_is o o1 o3 o4 o5 low.stmts low.temps v low.value (f m) (g (past m (f m).temps)) us vs h.made h.is c1 d1 e }

pub chosen_alone : (o o1 o3 o5 : Output) (low : Lowered) (v : ExprTree) (f : ℕ → Effects) (us vs : List StmtTree) → Gives o low o1 v → Collects o1 (f (next o1)) o3 us → vs ≡ [] → o5 ≡ added o3 (choose v (stmt_trees us) (stmt_trees vs) ∷ []) [] →
    Does o (chosen low (f (past (next o) low.temps)) nothing) o5
chosen_alone o o1 o3 o5 low v f us vs h c ev e = chosen_makes o o1 o3 o3 o5 low v f (λ n. nothing) us vs h c (record { made = nothing_made o3; are = ev }) e

pub returned_makes : (o o1 o2 : Output) (low : Lowered) (v : ExprTree) → Gives o low o1 v → o2 ≡ added o1 (give_back (Some v) ∷ []) [] → Does o (returned low) o2
returned_makes o o1 o2 low v g e = record { made = then_stmts o o1 o2 low.stmts (give_back (Some low.value) ∷ []) low.temps g.made (e ∙ ap (λ z. added o1 (give_back (Some z) ∷ []) []) g.is) }

-- ---- lists: what is made so far, and then the others, are all

abbrev pub Leads : Output → Effects → Output → Effects → Type 0
Leads now rest o all = more now rest.stmts rest.temps ≡ more o all.stmts all.temps

pub leads_step : (now now' o : Output) (all low rest : Effects) (f : ℕ → Effects) → rest ≡ followed low (f (past (next now) low.temps)) → Does now low now' → Leads now rest o all → Leads now' (f (next now')) o all
leads_step now now' o all low rest f split d h =
    let n : next now' ≡ past (next now) low.temps = next_after now now' low.stmts low.temps d.made in
    let r = f (past (next now) low.temps) in
    let h1 : Leads now (followed low r) o all = subst (λ z. Leads now z o all) split h in
    let g : Leads now' r o all = both now now' (more now' r.stmts r.temps) low.stmts r.stmts low.temps r.temps d.made refl ∙ h1 in
    subst (λ j. Leads now' (f j) o all) (sym n) g

pub leads_end : (now o : Output) (all rest : Effects) → rest ≡ nothing → Leads now rest o all → Does o all now
leads_end now o all rest e h =
    let h1 : Leads now nothing o all = subst (λ z. Leads now z o all) e h in
    record { made = nothing_made now ∙ h1 }

-- statements alone, and then an effect
pub stmts_then : (o o1 o2 : Output) (xs : List StmtTree) (f : ℕ → Effects) → o1 ≡ added o xs [] → Makes o1 f o2 → Does o (record { stmts = xs ++ (f (next o)).stmts; temps = (f (next o)).temps }) o2
stmts_then o o1 o2 xs f h d =
    let n : next o1 ≡ next o + 0 = next_after o o1 xs [] h in
    let m : next o1 ≡ next o = omega arith in
    let d1 : Does o1 (f (next o)) o2 = subst (λ j. Does o1 (f j) o2) m d in
    record { made = both o o1 o2 xs (f (next o)).stmts [] (f (next o)).temps h d1.made }
