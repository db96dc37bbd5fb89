-- Parts of what is made, one after the other.
use Rattle.std.proofs.Common.{◌≡◌, ℕ, ◌+◌, List, [], ◌∷◌, ◌++◌, length, map, refl, sym, ap, ◌∙◌, append_assoc, length-append, arith}
use Rattle.std.proofs.lemmas.List.{map-append, length-map, append-nil}
use Rattle.std.proofs.lemmas.Result.{IfOk-weaker}
use Rattle.std.specs.Prelude.{Result, OnOk}
use Rattle.std.specs.declared.alloc.AllocError.{AllocError}
use Rattle.pt_core.specs.CodeTree.{ExprTree, StmtTree}
use Rattle.lowering.specs.declared.temporary.Temporary.{Temporary}
use Rattle.lowering.specs.Lowered.{Temp, Lowered, past, temp, hold, held}
use Rattle.lowering.specs.Output.{Output, next, temporary_of, added, more, opened, closed, Gives, Collects}

abbrev output : ℕ → List StmtTree → List Temporary → Output
output n stmts temps = record { first = n; stmts = stmts; temps = temps }

same : (n : ℕ) (xs us : List StmtTree) (ys vs : List Temporary) → xs ≡ us → ys ≡ vs → output n xs ys ≡ output n us vs
same n xs us ys vs h k = ap (λ z. output n z ys) h ∙ ap (λ z. output n us z) k

-- the number behind what was made
pub next_after : (o o1 : Output) (xs : List StmtTree) (ys : List Temp) → o1 ≡ more o xs ys → next o1 ≡ past (next o) ys
next_after o o1 xs ys h =
    let a : length (o.temps ++ map temporary_of ys) ≡ length o.temps + length ys = length-append o.temps (map temporary_of ys) ∙ ap (λ n. length o.temps + n) (length-map ys temporary_of) in
    ap next h ∙ omega arith

-- nothing
pub nothing_made : (o : Output) → o ≡ more o [] []
nothing_made o = same o.first _ _ _ _ (sym (append-nil o.stmts)) (sym (append-nil o.temps))

-- one part behind another
pub both : (o o1 o2 : Output) (xs us : List StmtTree) (ys vs : List Temp) → o1 ≡ more o xs ys → o2 ≡ more o1 us vs → o2 ≡ more o (xs ++ us) (ys ++ vs)
both o o1 o2 xs us ys vs h k =
    k ∙ ap (λ z. more z us vs) h
    ∙ same o.first _ _ _ _ (append_assoc o.stmts xs us) (append_assoc o.temps (map temporary_of ys) (map temporary_of vs) ∙ ap (λ z. o.temps ++ z) (sym (map-append temporary_of ys vs)))

-- statements alone behind a part
pub then_stmts : (o o1 o2 : Output) (xs us : List StmtTree) (ys : List Temp) → o1 ≡ more o xs ys → o2 ≡ added o1 us [] → o2 ≡ more o (xs ++ us) ys
then_stmts o o1 o2 xs us ys h k = both o o1 o2 xs us ys [] h k ∙ ap (λ z. more o (xs ++ us) z) (append-nil ys)

-- temporaries alone behind a part
pub then_temps : (o o1 o2 : Output) (xs : List StmtTree) (ys vs : List Temp) → o1 ≡ more o xs ys → o2 ≡ more o1 [] vs → o2 ≡ more o xs (ys ++ vs)
then_temps o o1 o2 xs ys vs h k = both o o1 o2 xs [] ys vs h k ∙ ap (λ z. more o z (ys ++ vs)) (append-nil xs)

-- a value is held behind a part
pub then_held : (o o1 o2 : Output) (xs : List StmtTree) (ys : List Temp) (x : Temp) (t : Temporary) (v w : ExprTree) → o1 ≡ more o xs ys → temporary_of x ≡ t → v ≡ w → o2 ≡ added o1 (hold (next o1) v ∷ []) (t ∷ []) → o2 ≡ more o (xs ++ hold (past (next o) ys) w ∷ []) (ys ++ x ∷ [])
then_held o o1 o2 xs ys x t v w h e f k =
    both o o1 o2 xs (hold (past (next o) ys) w ∷ []) ys (x ∷ []) h
    (k ∙ ap (λ n. added o1 (hold n v ∷ []) (t ∷ [])) (next_after o o1 xs ys h)
    ∙ ap (λ z. added o1 (hold (past (next o) ys) z ∷ []) (t ∷ [])) f
    ∙ ap (λ z. added o1 (hold (past (next o) ys) w ∷ []) (z ∷ [])) (sym e))

pub held_is : (o o1 o2 : Output) (low : Lowered) (x : Temp) (t : Temporary) (v : ExprTree) (k : ℕ) → Gives o low o1 v → temporary_of x ≡ t → k ≡ next o1 → o2 ≡ added o1 (hold (next o1) v ∷ []) (t ∷ []) → Gives o (held (next o) x low) o2 (temp k)
held_is o o1 o2 low x t v k g e f m = record {
  made = then_held o o1 o2 low.stmts low.temps x t v low.value g.made e g.is m;
  is = ap temp (f ∙ next_after o o1 low.stmts low.temps g.made);
}

-- a list of statements of its own, between two parts
pub apart : (o ob o1 o2 : Output) (outer inner : List StmtTree) (xs : List StmtTree) (ys : List Temp) → outer ≡ o.stmts → ob ≡ opened o → o1 ≡ more ob xs ys → inner ≡ o1.stmts → o2 ≡ closed o1 outer → Collects o (record { stmts = xs; temps = ys }) o2 inner
apart o ob o1 o2 outer inner xs ys a b c d e =
    let is : o1 ≡ output o.first xs (o.temps ++ map temporary_of ys) = c ∙ ap (λ z. more z xs ys) b in
    record {
      made = e ∙ ap (λ z. closed z outer) is ∙ same o.first _ _ _ _ (a ∙ sym (append-nil o.stmts)) refl;
      are = d ∙ ap (λ z. z.stmts) is;
    }

-- the first number of a list of its own
pub next_opened : (o ob : Output) → ob ≡ opened o → next ob ≡ next o
next_opened o ob b = ap next b

-- equal statements, and equal temporaries
pub same_stmt : (o o1 : Output) (x y : StmtTree) → x ≡ y → o1 ≡ added o (x ∷ []) [] → o1 ≡ added o (y ∷ []) []
same_stmt o o1 x y e h = h ∙ ap (λ z. added o (z ∷ []) []) e

pub same_temp : (o o1 : Output) (x y : Temporary) → x ≡ y → o1 ≡ added o [] (x ∷ []) → o1 ≡ added o [] (y ∷ [])
same_temp o o1 x y e h = h ∙ ap (λ z. added o [] (z ∷ [])) e

-- what holds after a success, and what follows from it
pub also : {U : Type 0} (r : Result U AllocError) (P Q : Type 0) → (P → Q) → OnOk r P → OnOk r Q
also r P Q f go = IfOk-weaker r (λ _. P) (λ _. Q) (λ _ h. f h) go
