-- Loops: both take a turn at the entry and at each return to the head.
use Rattle.std.proofs.Common.{◌≡◌, ◌∙◌, ◌+◌, ℕ, zero, suc, pos, refl, ap, sym, subst, arith, Bool, true, false, Some, List, [], ◌∷◌, length, if◌then◌else◌}
use Rattle.std.specs.Prelude.{get_or}
use Rattle.pt_base.specs.declared.int_type.IntType.TheVariants as i
use Rattle.pt_base.specs.declared.span.Span.{Span}
use Rattle.runs.specs.State.{gives, trapped, spent, ◌>>=◌, take_turn}
use Rattle.pt_tree.specs.StatementTree as e
use Rattle.type_rules.specs.Conversions.{condition_rule}
use Rattle.typed_tree.specs.declared.types.VarTy.TheVariants as v
use Rattle.typed_tree.specs.ExpressionTree as t
use Rattle.check_expressions.specs.Expressions.{judge, literal}
use Rattle.check_expressions.specs.Operands.{value_of, value_tree, read_tree}
use Rattle.check_statements.specs.declared.context.Context as k
use Rattle.check_statements.specs.Outermost as o
use Rattle.check_statements.specs.Outermost.{is_no_condition}
use Rattle.check_statements.specs.Statements.{Checked, checked, checked_all, looping}
use Rattle.source_meaning.specs.State.{State, Outcome}
use Rattle.source_meaning.specs.Values as mv
use Rattle.source_meaning.specs.Values.{holds}
use Rattle.source_meaning.specs.Expressions as x
use Rattle.source_meaning.specs.Statements as m
use Rattle.source_meaning.specs.Statements.{Round, again, leaves, statement, otherwise_of, body_round, no_expr}
use Rattle.pt_core.specs.CodeTree.{StmtTrees, repeat}
use Rattle.pt_core.specs.Statements as c
use Rattle.pt_core.specs.Statements.{does, do_all, evaluated}
use Rattle.half_trees.specs.Names.{nowhere}
use Rattle.half_trees.specs.Expressions as h
use Rattle.half_trees.specs.Statements as hs
use Rattle.half_meaning_law.specs.Relations.{Scene, context_of, frame_of, SameSeen, Alike, Same}
use Rattle.half_meaning_law.specs.Statements.{code_of, SameReturn, GoesOn, SameRuns, advanced, StatementsMean}
use Rattle.half_meaning_law.proofs.Runs.{same_bind}
use Rattle.half_meaning_law.proofs.Steps.{StatementMeans, one_means}
use Rattle.half_meaning_law.proofs.Flows.{advanced_more, block_means}
use Rattle.half_meaning_law.proofs.Branches.{BranchMeans}

-- ---- turns

turn_same : {A B : Type 0} (s : Scene) (R : A → State → B → c.State → Type 0) (n n' : ℕ) (st : State) (st' : c.State) (f : State → Outcome A) (f' : c.State → c.Outcome B) → n' ≡ n → SameSeen s st st' →
    ((rest : ℕ) → Same s R (f (record st { left = rest })) (f' (record st' { left = rest }))) → Same s R (take_turn n st f) (take_turn n' st' f')
turn_same s R n n' st st' f f' is seen on = subst (λ z. Same s R (take_turn n st f) (take_turn z st' f')) (sym is) (go n)
  where
    go : (k : ℕ) → Same s R (take_turn k st f) (take_turn k st' f')
    go zero = seen
    go (suc k) = on k

pub alike_left : (s : Scene) (st : State) (st' : c.State) (n : ℕ) → Alike s st st' → Alike s (record st { left = n }) (record st' { left = n })
alike_left s st st' n al = record { blocks = al.blocks; fits = al.fits; live = al.live; hosts = al.hosts; input = al.input; seen = record { events = al.seen.events; left = refl } }

-- ---- rounds

-- a round of the source, and how the normal form's body leaves control
abbrev SameRound : Round → c.Flow → Type 0
SameRound again c.goes_on = Unit {0}
SameRound again c.broke = ⊥
SameRound again c.continues = Unit {0}
SameRound again (c.returned x) = ⊥
SameRound (leaves m.goes_on) c.goes_on = ⊥
SameRound (leaves m.goes_on) c.broke = Unit {0}
SameRound (leaves m.goes_on) c.continues = ⊥
SameRound (leaves m.goes_on) (c.returned x) = ⊥
SameRound (leaves m.broke) flow = ⊥
SameRound (leaves m.continues) flow = ⊥
SameRound (leaves (m.returned g)) c.goes_on = ⊥
SameRound (leaves (m.returned g)) c.broke = ⊥
SameRound (leaves (m.returned g)) c.continues = ⊥
SameRound (leaves (m.returned g)) (c.returned x) = SameReturn g x

record GivesRound (s : Scene) (round : Round) (st : State) (flow : c.Flow) (st' : c.State) : Type 0 where
  alike : Alike s st st'
  same : SameRound round flow

body_same : (s : Scene) (body : State → Outcome m.Flow) (run : c.State → c.Outcome c.Flow) → SameRuns s body run → (st : State) (st' : c.State) → Alike s st st' → Same s (GivesRound s) (body st >>= body_round) (run st')
body_same s body run same st st' al = go (body st) (run st') (same st st' al)
  where
    go : (o : Outcome m.Flow) (o' : c.Outcome c.Flow) → Same s (GoesOn s) o o' → Same s (GivesRound s) (o >>= body_round) o'
    go (gives m.goes_on st1) (gives c.goes_on st1') g = record { alike = g.alike; same = tt }
    go (gives m.goes_on st1) (gives c.broke st1') g = absurd g.same
    go (gives m.goes_on st1) (gives c.continues st1') g = absurd g.same
    go (gives m.goes_on st1) (gives (c.returned x) st1') g = absurd g.same
    go (gives m.broke st1) (gives c.goes_on st1') g = absurd g.same
    go (gives m.broke st1) (gives c.broke st1') g = record { alike = g.alike; same = tt }
    go (gives m.broke st1) (gives c.continues st1') g = absurd g.same
    go (gives m.broke st1) (gives (c.returned x) st1') g = absurd g.same
    go (gives m.continues st1) (gives c.goes_on st1') g = absurd g.same
    go (gives m.continues st1) (gives c.broke st1') g = absurd g.same
    go (gives m.continues st1) (gives c.continues st1') g = record { alike = g.alike; same = tt }
    go (gives m.continues st1) (gives (c.returned x) st1') g = absurd g.same
    go (gives (m.returned u) st1) (gives c.goes_on st1') g = absurd g.same
    go (gives (m.returned u) st1) (gives c.broke st1') g = absurd g.same
    go (gives (m.returned u) st1) (gives c.continues st1') g = absurd g.same
    go (gives (m.returned u) st1) (gives (c.returned x) st1') g = record { alike = g.alike; same = g.same }
    go (gives m.goes_on st1) (trapped trap span st1') g = absurd g
    go (gives m.broke st1) (trapped trap span st1') g = absurd g
    go (gives m.continues st1) (trapped trap span st1') g = absurd g
    go (gives (m.returned u) st1) (trapped trap span st1') g = absurd g
    go (gives m.goes_on st1) (spent st1') g = absurd g
    go (gives m.broke st1) (spent st1') g = absurd g
    go (gives m.continues st1) (spent st1') g = absurd g
    go (gives (m.returned u) st1) (spent st1') g = absurd g
    go (trapped trap span st1) (gives x st1') g = absurd g
    go (trapped trap span st1) (trapped trap' span' st1') g = g
    go (trapped trap span st1) (spent st1') g = absurd g
    go (spent st1) (gives x st1') g = absurd g
    go (spent st1) (trapped trap' span' st1') g = absurd g
    go (spent st1) (spent st1') g = g

-- the way back to the head
after_same : (s : Scene) (more : State → Outcome m.Flow) (more' : c.State → c.Outcome c.Flow) (round : Round) (st : State) (flow : c.Flow) (st' : c.State) → GivesRound s round st flow st' → SameRuns s more more' → Same s (GoesOn s) (m.after_round more round st) (c.after_round more' flow st')
after_same s more more' again st c.goes_on st' g on = on st st' g.alike
after_same s more more' again st c.broke st' g on = absurd g.same
after_same s more more' again st c.continues st' g on = on st st' g.alike
after_same s more more' again st (c.returned x) st' g on = absurd g.same
after_same s more more' (leaves m.goes_on) st c.goes_on st' g on = absurd g.same
after_same s more more' (leaves m.goes_on) st c.broke st' g on = record { alike = g.alike; same = tt }
after_same s more more' (leaves m.goes_on) st c.continues st' g on = absurd g.same
after_same s more more' (leaves m.goes_on) st (c.returned x) st' g on = absurd g.same
after_same s more more' (leaves m.broke) st flow st' g on = absurd g.same
after_same s more more' (leaves m.continues) st flow st' g on = absurd g.same
after_same s more more' (leaves (m.returned u)) st c.goes_on st' g on = absurd g.same
after_same s more more' (leaves (m.returned u)) st c.broke st' g on = absurd g.same
after_same s more more' (leaves (m.returned u)) st c.continues st' g on = absurd g.same
after_same s more more' (leaves (m.returned u)) st (c.returned x) st' g on = record { alike = g.alike; same = g.same }

looped_same : (rounds : ℕ) (s : Scene) (source : Bool → State → Outcome Round) (run : c.State → c.Outcome c.Flow) → ((first : Bool) (st : State) (st' : c.State) → Alike s st st' → Same s (GivesRound s) (source first st) (run st')) →
    (first : Bool) (st : State) (st' : c.State) → Alike s st st' → Same s (GoesOn s) (m.looped rounds source first st) (c.looped rounds run st')
looped_same zero s source run each first st st' al = al.seen
looped_same (suc rounds) s source run each first st st' al =
    turn_same s (GoesOn s) st.left st'.left st st' (λ st1. source first st1 >>= m.after_round (m.looped rounds source false)) (λ st1. run st1 >>= c.after_round (c.looped rounds run)) al.seen.left al.seen
    (λ rest. same_bind s (GivesRound s) (GoesOn s) (source first (record st { left = rest })) (run (record st' { left = rest })) (m.after_round (m.looped rounds source false)) (c.after_round (c.looped rounds run))
    (each first (record st { left = rest }) (record st' { left = rest }) (alike_left s st st' rest al))
    (λ round st1 flow st1' g. after_same s (m.looped rounds source false) (c.looped rounds run) round st1 flow st1' g (λ st2 st2' al2. looped_same rounds s source run each false st2 st2' al2)))

-- ---- while (1)

one : t.ExprTree
one = t.typed nowhere (Some (v.Int i.Int)) (t.constant (pos 1))

-- the condition always holds
always : (s : Scene) (exprs : List t.ExprTree) (n : ℕ) (body : State → Outcome Round) (st : State) → get_or exprs n no_expr ≡ one → m.tested (Some (record { 0 = n })) (code_of s exprs) body st ≡ body st
unfolding one
always s exprs n body st is = ap (λ z. x.value_of z (context_of s) st >>= λ g. if mv.is_true g then body else gives (leaves m.goes_on)) is

pub repeat_means : (s : Scene) (w : k.Context) (st : o.State) (xs : StmtTrees) (sp : Span) (trees : List e.StmtTree) → BranchMeans s (looping w) st trees (do_all xs (frame_of s) s.core_calls) →
    StatementsMean s st (checked_all w st (e.stmt_trees (e.while_true nowhere (h.number i.Int 1) (hs.braced trees) ∷ []))) (does (repeat xs sp) (frame_of s) s.core_calls)
unfolding judge literal value_of value_tree read_tree condition_rule one
repeat_means s w st xs sp trees branch = one_means s w st (e.while_true nowhere (h.number i.Int 1) (hs.braced trees)) (does (repeat xs sp) (frame_of s) s.core_calls) (record {
  fine = body.fine;
  state = body.state ∙ advanced_more st 1 (length q.trees) (suc (length q.trees)) (counts (length q.trees));
  same = λ exprs listed st1 st1' al.
      subst (λ z. Same s (GoesOn s) (m.looped st1.left (source exprs) true st1) (c.looped z (do_all xs (frame_of s) s.core_calls) st1')) (sym al.seen.left)
      (looped_same st1.left s (source exprs) (do_all xs (frame_of s) s.core_calls)
      (λ first st2 st2' al2. subst (λ z. Same s (GivesRound s) z (do_all xs (frame_of s) s.core_calls st2')) (sym (always s exprs st.next (λ st3. statement q.tree (code_of s exprs) st3 >>= body_round) st2 listed.0))
      (body_same s (statement q.tree (code_of s exprs)) (do_all xs (frame_of s) s.core_calls) (body.same exprs listed.1) st2 st2' al2)) true st1 st1' al);
})
  where
    q : Checked
    q = checked (looping w) (advanced st 1) (hs.braced trees)

    body : StatementMeans s (advanced st 1) q (do_all xs (frame_of s) s.core_calls)
    body = block_means s (looping w) (advanced st 1) trees (do_all xs (frame_of s) s.core_calls) (branch 1)

    source : List t.ExprTree → Bool → State → Outcome Round
    source exprs first = m.tested (Some (record { 0 = st.next })) (code_of s exprs) (λ st3. statement q.tree (code_of s exprs) st3 >>= body_round)

    counts : (n : ℕ) → 1 + n ≡ suc n
    counts n = omega arith
