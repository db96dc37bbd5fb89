-- Parts of runs side by side, and lists of statements behind one another.
use Rattle.std.proofs.Common.{◌≡◌, ◌∙◌, ◌+◌, ℕ, suc, refl, ap, sym, subst, arith, List, [], ◌∷◌, ◌++◌, append_assoc, length, Result, Ok, Err}
use Rattle.pt_base.proofs.Lists.{length_append}
use Rattle.runs.specs.State as r
use Rattle.runs.specs.State.{gives, trapped, spent, ◌>>=◌, take_turn}
use Rattle.pt_tree.specs.StatementTree as e
use Rattle.typed_tree.specs.ExpressionTree.{ExprTree}
use Rattle.typed_tree.specs.StatementTree.{BodyTree, body_trees}
use Rattle.check_statements.specs.declared.context.Context as k
use Rattle.check_statements.specs.Outermost as o
use Rattle.check_statements.specs.Statements.{Checked, CheckedAll, checked, checked_all}
use Rattle.source_meaning.specs.State.{State, Outcome}
use Rattle.source_meaning.specs.Statements as m
use Rattle.source_meaning.specs.Statements.{no_expr, all_of, statement}
use Rattle.pt_core.specs.Values.{Stop, ◌>>?◌}
use Rattle.pt_core.specs.Statements as c
use Rattle.pt_core.specs.Statements.{evaluated}
use Rattle.half_meaning_law.specs.Relations.{Scene, SameSeen, Alike, Same}
use Rattle.half_meaning_law.specs.Expressions.{Evaluates}
use Rattle.half_meaning_law.specs.Statements.{code_of, ListedFrom, GoesOn, SameRuns, advanced, StatementsMean}
use Rattle.half_meaning_law.proofs.Judged.{no_faults}

-- ---- what comes to the same

-- one after the other
pub same_bind : {A B X Y : Type 0} (s : Scene) (Q : A → State → X → c.State → Type 0) (R : B → State → Y → c.State → Type 0) (o : Outcome A) (o' : c.Outcome X) (f : A → State → Outcome B) (f' : X → c.State → c.Outcome Y) →
    Same s Q o o' → ((a : A) (st : State) (x : X) (st' : c.State) → Q a st x st' → Same s R (f a st) (f' x st')) → Same s R (o >>= f) (o' >>= f')
same_bind s Q R (gives a st) (gives x st') f f' q on = on a st x st' q
same_bind s Q R (gives a st) (trapped trap span st') f f' q on = absurd q
same_bind s Q R (gives a st) (spent st') f f' q on = absurd q
same_bind s Q R (trapped trap span st) (gives x st') f f' q on = absurd q
same_bind s Q R (trapped trap span st) (trapped trap' span' st') f f' q on = q
same_bind s Q R (trapped trap span st) (spent st') f f' q on = absurd q
same_bind s Q R (spent st) (gives x st') f f' q on = absurd q
same_bind s Q R (spent st) (trapped trap' span' st') f f' q on = absurd q
same_bind s Q R (spent st) (spent st') f f' q on = q

-- an evaluation, and what is done with it
pub same_evaluated : {A B X Y : Type 0} (s : Scene) (Q : A → X → Type 0) (R : B → State → Y → c.State → Type 0) (st : State) (st' : c.State) (o : Outcome A) (p : Result X Stop) (f : A → State → Outcome B) (f' : X → c.State → c.Outcome Y) →
    Alike s st st' → Evaluates Q st o p → ((a : A) (x : X) → Q a x → Same s R (f a st) (f' x st')) → Same s R (o >>= f) (evaluated p st' f')
same_evaluated s Q R st st' (gives a st1) (Ok x) f f' al h on = subst (λ z. Same s R (f a z) (f' x st')) (sym h.0) (on a x h.1)
same_evaluated s Q R st st' (gives a st1) (Err stop) f f' al h on = absurd h
same_evaluated s Q R st st' (trapped trap span st1) (Ok x) f f' al h on = absurd h
same_evaluated s Q R st st' (trapped trap span st1) (Err stop) f f' al h on = (h.0, subst (λ z. SameSeen s z st') (sym h.1) al.seen)
same_evaluated s Q R st st' (spent st1) (Ok x) f f' al h on = absurd h
same_evaluated s Q R st st' (spent st1) (Err stop) f f' al h on = absurd h

-- two evaluations in the normal form
pub evaluated_both : {A B X : Type 0} (p : Result A Stop) (q : A → Result B Stop) (st : c.State) (next : B → c.State → c.Outcome X) → evaluated (p >>? q) st next ≡ evaluated p st (λ a st1. evaluated (q a) st1 next)
evaluated_both (Ok a) q st next = refl
evaluated_both (Err stop) q st next = refl

pub bind_assoc : {M A B D : Type 0} (o : r.Outcome M A) (f : A → r.State M → r.Outcome M B) (g : B → r.State M → r.Outcome M D) → ((o >>= f) >>= g) ≡ (o >>= λ a st. f a st >>= g)
bind_assoc (gives a st) f g = refl
bind_assoc (trapped trap span st) f g = refl
bind_assoc (spent st) f g = refl

pub bind_gives : {M A : Type 0} (o : r.Outcome M A) → (o >>= λ a st. gives a st) ≡ o
bind_gives (gives a st) = refl
bind_gives (trapped trap span st) = refl
bind_gives (spent st) = refl

-- ---- control that goes on

-- a statement, and those behind it
pub same_after : (s : Scene) (o : Outcome m.Flow) (o' : c.Outcome c.Flow) (f : State → Outcome m.Flow) (f' : c.State → c.Outcome c.Flow) → Same s (GoesOn s) o o' → SameRuns s f f' → Same s (GoesOn s) (o >>= m.after_flow f) (o' >>= c.after_flow f')
same_after s o o' f f' h on = same_bind s (GoesOn s) (GoesOn s) o o' (m.after_flow f) (c.after_flow f') h go
  where
    go : (flow : m.Flow) (st : State) (flow' : c.Flow) (st' : c.State) → GoesOn s flow st flow' st' → Same s (GoesOn s) (m.after_flow f flow st) (c.after_flow f' flow' st')
    go m.goes_on st c.goes_on st' g = on st st' g.alike
    go m.goes_on st c.broke st' g = absurd g.same
    go m.goes_on st c.continues st' g = absurd g.same
    go m.goes_on st (c.returned x) st' g = absurd g.same
    go m.broke st c.goes_on st' g = absurd g.same
    go m.broke st c.broke st' g = g
    go m.broke st c.continues st' g = absurd g.same
    go m.broke st (c.returned x) st' g = absurd g.same
    go m.continues st c.goes_on st' g = absurd g.same
    go m.continues st c.broke st' g = absurd g.same
    go m.continues st c.continues st' g = g
    go m.continues st (c.returned x) st' g = absurd g.same
    go (m.returned v) st c.goes_on st' g = absurd g.same
    go (m.returned v) st c.broke st' g = absurd g.same
    go (m.returned v) st c.continues st' g = absurd g.same
    go (m.returned v) st (c.returned x) st' g = g

after_both : (o : Outcome m.Flow) (f g : State → Outcome m.Flow) → ((o >>= m.after_flow f) >>= m.after_flow g) ≡ (o >>= m.after_flow (λ st. f st >>= m.after_flow g))
after_both (gives m.goes_on st) f g = refl
after_both (gives m.broke st) f g = refl
after_both (gives m.continues st) f g = refl
after_both (gives (m.returned v) st) f g = refl
after_both (trapped trap span st) f g = refl
after_both (spent st) f g = refl

after_equal : (o : Outcome m.Flow) (f g : State → Outcome m.Flow) → ((st : State) → f st ≡ g st) → (o >>= m.after_flow f) ≡ (o >>= m.after_flow g)
after_equal (gives m.goes_on st) f g e = e st
after_equal (gives m.broke st) f g e = refl
after_equal (gives m.continues st) f g e = refl
after_equal (gives (m.returned v) st) f g e = refl
after_equal (trapped trap span st) f g e = refl
after_equal (spent st) f g e = refl

-- statements behind statements
pub all_behind : (xs ys : List BodyTree) (code : m.Code) (st : State) → all_of (body_trees (xs ++ ys)) code st ≡ (all_of (body_trees xs) code st >>= m.after_flow (all_of (body_trees ys) code))
all_behind [] ys code st = refl
all_behind (x ∷ xs) ys code st =
    after_equal (statement x code st) (all_of (body_trees (xs ++ ys)) code) (λ st1. all_of (body_trees xs) code st1 >>= m.after_flow (all_of (body_trees ys) code)) (all_behind xs ys code)
    ∙ sym (after_both (statement x code st) (all_of (body_trees xs) code) (all_of (body_trees ys) code))

-- ---- lists of judged statements

-- the judgment of statements behind others
abbrev behind : CheckedAll → CheckedAll → CheckedAll
behind p q = record { state = q.state; bodies = p.bodies ++ q.bodies; trees = p.trees ++ q.trees; faults = p.faults ++ q.faults }

pub checked_behind : (c : k.Context) (st : o.State) (xs ys : List e.StmtTree) →
    checked_all c st (e.stmt_trees (xs ++ ys)) ≡ behind (checked_all c st (e.stmt_trees xs)) (checked_all c (checked_all c st (e.stmt_trees xs)).state (e.stmt_trees ys))
checked_behind c st [] ys = refl
checked_behind c st (x ∷ xs) ys =
    ap (λ (z : CheckedAll). let y : CheckedAll = record { state = z.state; bodies = one.tree ∷ z.bodies; trees = one.trees ++ z.trees; faults = one.faults ++ z.faults } in y) (checked_behind c one.state xs ys)
    ∙ ap (λ ts. let y : CheckedAll = record { state = last.state; bodies = one.tree ∷ (rest.bodies ++ last.bodies); trees = ts; faults = one.faults ++ (rest.faults ++ last.faults) } in y) (sym (append_assoc one.trees rest.trees last.trees))
    ∙ ap (λ fs. let y : CheckedAll = record { state = last.state; bodies = one.tree ∷ (rest.bodies ++ last.bodies); trees = (one.trees ++ rest.trees) ++ last.trees; faults = fs } in y) (sym (append_assoc one.faults rest.faults last.faults))
  where
    one : Checked
    one = checked c st x

    rest : CheckedAll
    rest = checked_all c one.state (e.stmt_trees xs)

    last : CheckedAll
    last = checked_all c rest.state (e.stmt_trees ys)

-- listed expressions in two parts
pub listed_parts : (exprs : List ExprTree) (n : ℕ) (xs ys : List ExprTree) → ListedFrom exprs n (xs ++ ys) → ListedFrom exprs n xs × ListedFrom exprs (n + length xs) ys
listed_parts exprs n [] ys h = let same : n ≡ n + 0 = omega arith in (tt, subst (λ z. ListedFrom exprs z ys) same h)
listed_parts exprs n (x ∷ xs) ys h =
    let r = listed_parts exprs (n + 1) xs ys h.1 in
    let same : n + 1 + length xs ≡ n + suc (length xs) = omega arith in
    ((h.0, r.0), subst (λ z. ListedFrom exprs z ys) same r.1)

-- statements that mean something, and others behind them
pub means_behind : (s : Scene) (w : k.Context) (st : o.State) (xs ys : List e.StmtTree) (run run' : c.State → c.Outcome c.Flow) → StatementsMean s st (checked_all w st (e.stmt_trees xs)) run →
    ((n : ℕ) → StatementsMean s (advanced st n) (checked_all w (advanced st n) (e.stmt_trees ys)) run') → StatementsMean s st (checked_all w st (e.stmt_trees (xs ++ ys))) (λ st'. run st' >>= c.after_flow run')
means_behind s w st xs ys run run' first later =
    subst (λ z. StatementsMean s st z (λ st'. run st' >>= c.after_flow run')) (sym (checked_behind w st xs ys))
    (subst (λ z. StatementsMean s st (behind p (checked_all w z (e.stmt_trees ys))) (λ st'. run st' >>= c.after_flow run')) (sym first.state) (record {
      fine = no_faults p.faults q.faults first.fine h.fine;
      state = h.state ∙ ap (λ n. let z : o.State = record { env = st.env; structs = st.structs; next = n } in z) (ends (length p.trees) (length q.trees) (length (p.trees ++ q.trees)) (length_append p.trees q.trees));
      same = λ exprs listed st1 st1' al.
          let parts = listed_parts exprs st.next p.trees q.trees listed in
          subst (λ z. Same s (GoesOn s) z (run st1' >>= c.after_flow run')) (sym (all_behind p.bodies q.bodies (code_of s exprs) st1))
          (same_after s (all_of (body_trees p.bodies) (code_of s exprs) st1) (run st1') (all_of (body_trees q.bodies) (code_of s exprs)) run' (first.same exprs parts.0 st1 st1' al) (h.same exprs parts.1));
    }))
  where
    p : CheckedAll
    p = checked_all w st (e.stmt_trees xs)

    q : CheckedAll
    q = checked_all w (advanced st (length p.trees)) (e.stmt_trees ys)

    h : StatementsMean s (advanced st (length p.trees)) q run'
    h = later (length p.trees)

    ends : (a b d : ℕ) → d ≡ a + b → st.next + a + b ≡ st.next + d
    ends a b d e = omega (arith, e)
