-- Steps under the gate that notes nothing are those under the gate of a whole run.
use Rattle.std.proofs.Common.{◌≡◌, ℕ, zero, suc, ◌+◌, List, [], ◌∷◌, ◌++◌, Option, Some, None, Bool, true, false, map, refl, sym, ap, ◌∙◌, append-nil}
use Rattle.std.specs.Prelude.{ℤ, Result, Ok, Err, ◌||◌, ◌&&◌, not, if◌then◌else◌, nat_lt, nat_le}
use Rattle.pt_base.specs.declared.int_type.IntType.{IntType}
use Rattle.pt_base.specs.declared.span.Span.{Span}
use Rattle.pt_base.specs.declared.trap.Trap.TheVariants.{Depth}
use Rattle.pt_tree.specs.HostStep as h
use Rattle.pt_tree.specs.PlainNumbers.{plain_numbers}
use Rattle.pt_tree.specs.declared.signature.Signature.{Signature}
use Rattle.runs.specs.Run.{deepest}
use Rattle.runs.specs.State.{Event, out, guarded, guarded_event, out_event}
use Rattle.block_memory.specs.declared.cell.Cell.{Cell}
use Rattle.pt_core.specs.CodeTree.{StmtTree, clear, check, assign, copy, call, choose, repeat, break_out, continue_on, give_back, StmtTrees, no_stmts, stmt_and, ProgramTree}
use Rattle.pt_core.specs.Values.{Stop, number_in, value_of, values_of, location_of}
use Rattle.pt_core.specs.Statements.{assigned, copied, returned_value}
use Rattle.pt_core.specs.Calls.{signature_in, function_in, context_in}
use Rattle.pt_core.specs.Calls as c
use Rattle.pt_core.specs.Steps as s
use Rattle.pt_core.specs.Steps.{Work, run, head, Active, Machine, Way, enters, here, away, Answer, moved, asked, ended, trapped, spent, idle, Step, answers, settled, past_loop, at_head, is_active, just_entered, on_value, turned, with_blocks, working, works, step}
use Rattle.core_steps_law.specs.WholeRun.{Outside, answered, whole_gate, whole_way, further, steps_run}
use Rattle.core_steps_law.specs.Silent.{outs, silenced, silenced_step, silent_gate, SilentRunsAgree}

-- ---- events

outs-append : (xs ys : List Event) → outs (xs ++ ys) ≡ outs xs ++ outs ys
outs-append [] ys = refl
outs-append (out bytes ∷ xs) ys = ap (λ l. out bytes ∷ l) (outs-append xs ys)
outs-append (guarded f vs ∷ xs) ys = outs-append xs ys

outs-guarded : (active : Bool) (signature : Signature) (f : ℕ) (numbers : List ℤ) → outs (guarded_event active signature f numbers) ≡ []
outs-guarded active signature f numbers = go (signature.privileged && not active)
  where
    go : (b : Bool) → outs (if b then guarded f (plain_numbers signature.params numbers) ∷ [] else []) ≡ []
    go true = refl
    go false = refl

outs-out : (written : Option (List ℕ)) → outs (out_event written) ≡ out_event written
outs-out None = refl
outs-out (Some bytes) = refl

-- what is noted of a call isn't heard
unheard : (program : ProgramTree) (active : Bool) (f : ℕ) (args : List Cell) (g : Outside) → silenced ((whole_gate program).noted active f args g) ≡ silenced g
unheard program active f args g =
    ap (λ (es : List Event). record g { events = es })
    (outs-append g.events (guarded_event active (signature_in program f) f (map number_in args))
    ∙ ap (λ es. outs g.events ++ es) (outs-guarded active (signature_in program f) f (map number_in args)) ∙ append-nil (outs g.events))

-- what a host writes is
heard : (f : ℕ) (answer : h.Answer) (g : Outside) → silenced (answered f answer g).1 ≡ (answered f answer (silenced g)).1
heard f answer g =
    ap (λ (es : List Event). record (answered f answer g).1 { events = es })
    (outs-append g.events (out_event answer.written) ∙ ap (λ es. outs g.events ++ es) (outs-out answer.written))

-- ---- parts of steps

by_result : {A : Type 0} (r : Result A Stop) (m : Machine) (g : Outside) (next go : A → Step Outside) → ((a : A) → next a ≡ silenced_step (go a)) → on_value r m (silenced g) next ≡ silenced_step (on_value r m g go)
by_result (Ok a) m g next go k = k a
by_result (Err stop) m g next go k = refl

either : (b : Bool) (x y u v : Step Outside) → x ≡ silenced_step u → y ≡ silenced_step v → (if b then x else y) ≡ silenced_step (if b then u else v)
either true x y u v h k = h
either false x y u v h k = k

in_turn : (m : Machine) (g : Outside) (next go : Machine → Step Outside) → ((m1 : Machine) → next m1 ≡ silenced_step (go m1)) → turned m (silenced g) next ≡ silenced_step (turned m g go)
in_turn m g next go k = either (nat_lt m.turns m.budget) (next (s.with_turn m)) (answers spent m (silenced g)) (go (s.with_turn m)) (answers spent m g) (k (s.with_turn m)) refl

returns : (m : Machine) (g : Outside) (a : Active) (rest : List Active) (v : Option Cell) → s.returned m (silenced g) a rest v ≡ silenced_step (s.returned m g a rest v)
returns m g a [] v = refl
returns m g a (caller ∷ rest) v = refl

ends : (result : Option IntType) (span : Span) (m : Machine) (g : Outside) (a : Active) (rest : List Active) → s.at_end result span m (silenced g) a rest ≡ silenced_step (s.at_end result span m g a rest)
ends None span m g a rest = returns m g a rest None
ends (Some t) span m g a rest = refl

begins : (m : Machine) (g : Outside) (a : Active) (rest : List Active) (body : StmtTrees) (work : List Work) → s.begins m (silenced g) a rest body work ≡ silenced_step (s.begins m g a rest body work)
begins m g a rest body work = in_turn m g (λ m1. answers moved (working m1 a rest (run body ∷ head body ∷ work)) (silenced g)) (λ m1. answers moved (working m1 a rest (run body ∷ head body ∷ work)) g) (λ m1. refl)

-- ---- calls

enters_same : (program : ProgramTree) (m : Machine) (g : Outside) (span : Span) (f : ℕ) (args : List Cell) (result : Option ℕ) (depth : ℕ) →
    s.enters_at program (silent_gate program) m (silenced g) span f args result depth ≡ silenced_step (s.enters_at program (whole_gate program) m g span f args result depth)
enters_same program m g span f args result depth =
    let noted : Outside = (whole_gate program).noted (is_active m.active) f args g in
    let next : Outside → Machine → Step Outside = λ g1 m1. answers moved
    (record m1 {
      active = just_entered program (is_active m.active || (signature_in program f).privileged) f depth result ∷ m1.active;
      blocks = c.entered program f depth args m1.blocks;
    }) g1 in
    either (nat_le depth deepest)
    (turned m (silenced g) (next (silenced g))) (answers (trapped Depth span) m (silenced g)) (turned m g (next noted)) (answers (trapped Depth span) m g)
    (in_turn m g (next (silenced g)) (next noted) (λ m1. ap (λ (g1 : Outside). next g1 m1) (sym (unheard program (is_active m.active) f args g))))
    refl

made_same : (program : ProgramTree) (m : Machine) (g : Outside) (f : ℕ) (args : List Cell) (result : Option ℕ) (depth : ℕ) →
    s.made_here program (silent_gate program) m (silenced g) f args result depth ≡ silenced_step (s.made_here program (whole_gate program) m g f args result depth)
made_same program m g f args result depth =
    let answer : h.Answer = h.host_step g.input (g.hosts f) (map number_in args) in
    let noted : Outside = (whole_gate program).noted (is_active m.active) f args g in
    let next : Option ℤ × Outside → Machine → Step Outside = λ reply m1. s.made m1 depth result reply in
    in_turn m g (next (answered f answer (silenced g))) (next (answered f answer noted)) (λ m1.
    ap (λ (g1 : Outside). next (answered f answer g1) m1) (sym (unheard program (is_active m.active) f args g))
    ∙ ap (λ (g1 : Outside). next (answer.result, g1) m1) (sym (heard f answer noted)))

goes_same : (program : ProgramTree) (m : Machine) (g : Outside) (span : Span) (f : ℕ) (args : List Cell) (result : Option ℕ) (depth : ℕ) →
    s.goes_away program m (silenced g) span f args result depth ≡ silenced_step (s.goes_away program m g span f args result depth)
goes_same program m g span f args result depth =
    let asks : Outside → ℕ → Step Outside = λ g1 d. answers (asked f args d) (s.awaiting f result m) g1 in
    let traps : Outside → Step Outside = λ g1. answers (trapped Depth span) m g1 in
    either (signature_in program f).host
    (asks (silenced g) 0) (if nat_le depth deepest then asks (silenced g) depth else traps (silenced g)) (asks g 0) (if nat_le depth deepest then asks g depth else traps g)
    refl (either (nat_le depth deepest) (asks (silenced g) depth) (traps (silenced g)) (asks g depth) (traps g) refl refl)

ways_same : (program : ProgramTree) (m : Machine) (g : Outside) (span : Span) (f : ℕ) (args : List Cell) (result : Option ℕ) (depth : ℕ) (way : Way) →
    s.by_way program (silent_gate program) m (silenced g) span f args result depth way ≡ silenced_step (s.by_way program (whole_gate program) m g span f args result depth way)
ways_same program m g span f args result depth enters = enters_same program m g span f args result (depth + 1)
ways_same program m g span f args result depth here = made_same program m g f args result depth
ways_same program m g span f args result depth away = goes_same program m g span f args result (depth + 1)

-- ---- steps

act_same : (program : ProgramTree) (m : Machine) (g : Outside) (a : Active) (rest : List Active) (work : List Work) (x : StmtTree) →
    s.act program (silent_gate program) m (silenced g) a rest work x ≡ silenced_step (s.act program (whole_gate program) m g a rest work x)
act_same program m g a rest work (clear v) = refl
act_same program m g a rest work (check p) = by_result (location_of (context_in program a.function) a.depth p m.blocks) m g _ _ (λ at. refl)
act_same program m g a rest work (assign p e) = by_result (assigned (context_in program a.function) a.depth p e m.blocks) m g _ _ (λ blocks. refl)
act_same program m g a rest work (copy to of) = by_result (copied (context_in program a.function) a.depth to of m.blocks) m g _ _ (λ blocks. refl)
act_same program m g a rest work (call f args result span) =
    by_result (values_of (context_in program a.function) a.depth args m.blocks) m g _ _ (λ vs. ways_same program (working m a rest work) g span f vs result a.depth (whole_way program f))
act_same program m g a rest work (choose e first second) = by_result (value_of (context_in program a.function) a.depth e m.blocks) m g _ _ (λ v. refl)
act_same program m g a rest work (repeat body span) = begins m g a rest body work
act_same program m g a rest work break_out = refl
act_same program m g a rest work continue_on = refl
act_same program m g a rest work (give_back e) = by_result (returned_value (context_in program a.function) a.depth e m.blocks) m g _ _ (λ v. returns m g a rest v)

works_same : (program : ProgramTree) (m : Machine) (g : Outside) (a : Active) (rest : List Active) (work : List Work) →
    works program (silent_gate program) m (silenced g) a rest work ≡ silenced_step (works program (whole_gate program) m g a rest work)
works_same program m g a rest [] = ends (signature_in program a.function).result (function_in program a.function).end m g a rest
works_same program m g a rest (run no_stmts ∷ work) = refl
works_same program m g a rest (run (stmt_and x more) ∷ work) = act_same program m g a rest (run more ∷ work) x
works_same program m g a rest (head body ∷ work) = begins m g a rest body work

step_same' : (program : ProgramTree) (m : Machine) (g : Outside) (active : List Active) →
    s.stepped program (silent_gate program) m (silenced g) active ≡ silenced_step (s.stepped program (whole_gate program) m g active)
step_same' program m g [] = refl
step_same' program m g (a ∷ rest) = works_same program m g a rest (settled a.work)

step_same : (program : ProgramTree) (m : Machine) (g : Outside) → step program (silent_gate program) m (silenced g) ≡ silenced_step (step program (whole_gate program) m g)
step_same program m g = step_same' program m g m.active

goes_further : (answer : Answer) (m : Machine) (g : Outside) (next go : Machine → Outside → Step Outside) → ((m1 : Machine) (g1 : Outside) → next m1 (silenced g1) ≡ silenced_step (go m1 g1)) →
    further (silenced_step (answers answer m g)) next ≡ silenced_step (further (answers answer m g) go)
goes_further moved m g next go k = k m g
goes_further (asked f args depth) m g next go k = refl
goes_further (ended v) m g next go k = refl
goes_further (trapped trap span) m g next go k = refl
goes_further spent m g next go k = refl
goes_further idle m g next go k = refl

pub silent_runs_agree : SilentRunsAgree
silent_runs_agree program zero m g = refl
silent_runs_agree program (suc n) m g =
    let x : Step Outside = step program (whole_gate program) m g in
    ap (λ y. further y (steps_run program (silent_gate program) n)) (step_same program m g)
    ∙ goes_further x.answer x.machine x.gate (steps_run program (silent_gate program) n) (steps_run program (whole_gate program) n) (silent_runs_agree program n)
