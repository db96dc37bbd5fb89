-- What a slave says behind a step of its machine.
use Rattle.std.proofs.Common.{◌≡◌, ◌∙◌, ◌⊎◌, inl, inr, ◌+◌, ◌≢◌, ℕ, refl, sym, ap, subst, List, Bool, true, false, Option, Some, None}
use Rattle.std.specs.Prelude.{if◌then◌else◌, is_some, nat_le}
use Rattle.block_memory.specs.declared.cell.Cell.{Cell}
use Rattle.wire.specs.declared.message.CallBody.{CallBody}
use Rattle.wire.specs.declared.message.Message.{Message}
use Rattle.wire.specs.declared.message.Message.TheVariants as message
use Rattle.pt_core.specs.Steps.{Answer, moved, asked, ended, trapped, spent, idle}
use Rattle.pair_protocol.specs.Sides.{going, over, Moved}
use Rattle.pair_meaning.specs.SlaveRun as s
use Rattle.pair_meaning.specs.SlaveRun.{after_step, awaits_reply, call_body, calls_or_parks, mode_of, must_wait, parks, posted, posts, says_call, says_last}
use Rattle.slave_interp.specs.declared.calling.Packed.{Packed}
use Rattle.slave_interp.specs.declared.doing.Doing.{Doing}
use Rattle.slave_interp.specs.declared.doing.Doing.TheVariants.{Goes, Over}
use Rattle.slave_interp.specs.declared.engine.Engine.{Engine}
use Rattle.slave_interp.specs.declared.ran.Next.{Next}
use Rattle.slave_interp.specs.Doings.{doing_of}
use Rattle.slave_interp.specs.Engines.{HasMoved, IsPacked, Runs}
use Rattle.slave_interp.specs.Hearing.{Hearing}

-- ---- its last message

pub last_moved : (e : Engine) (y : s.Slave) (next : Next) (said m : Message) → Runs e y → next ≡ record { said = Some said; doing = Over } → said ≡ m → HasMoved e next (says_last y m)
last_moved e y next said m runs is same = subst (λ (n : Next). HasMoved e n (says_last y m)) (sym is) (record { runs = runs; said = ap Some same; doing = refl })

-- ---- what a host wrote

-- what is forgotten is no part of it
pub forgets : (e : Engine) (g : Hearing) (y : s.Slave) → g ≡ record e.gate { wrote = None } → Runs e y → Runs (record e { gate = g }) y
forgets e g y is runs = subst (λ (h : Hearing). Runs (record e { gate = h }) y) (sym is) (record {
  shown = runs.shown;
  structs_are = runs.structs_are;
  signatures_are = runs.signatures_are;
  hosts_are = runs.hosts_are;
  input_is = runs.input_is;
  given_are = runs.given_are;
  calls_are = runs.calls_are;
  budget_is = runs.budget_is;
})

pub wrote_moved : (e : Engine) (y : s.Slave) (turns : ℕ) (bytes : List ℕ) (wrote : Option (List ℕ)) → Runs e y → y.doing ≡ s.goes → turns ≡ y.machine.turns → Some bytes ≡ wrote →
    HasMoved e (record { said = Some (message.Emit turns bytes); doing = Goes }) (s.moves_with y wrote)
wrote_moved e y turns bytes wrote runs still same is = subst (λ (w : Option (List ℕ)). HasMoved e (record { said = Some (message.Emit turns bytes); doing = Goes }) (s.moves_with y w)) is
    (record { runs = runs; said = ap (λ t. Some (message.Emit t bytes)) same; doing = ap Some (sym still) })

pub silent_moved : (e : Engine) (y : s.Slave) (wrote : Option (List ℕ)) → Runs e y → y.doing ≡ s.goes → None ≡ wrote → HasMoved e (record { said = None; doing = Goes }) (s.moves_with y wrote)
silent_moved e y wrote runs still is = subst (λ (w : Option (List ℕ)). HasMoved e (record { said = None; doing = Goes }) (s.moves_with y w)) is
    (record { runs = runs; said = refl; doing = ap Some (sym still) })

-- ---- a call

-- the turns taken and the calls said come to the budget, or don't
used_is : (y : s.Slave) (turns calls budget : ℕ) (b : Bool) → turns ≡ y.machine.turns → calls ≡ y.calls → budget ≡ y.machine.budget → b ≡ nat_le budget (turns + calls) → nat_le y.machine.budget (y.machine.turns + y.calls) ≡ b
used_is y turns calls budget b t c n is =
    sym (is ∙ ap (λ k. nat_le k (turns + calls)) n ∙ ap (λ k. nat_le y.machine.budget (k + calls)) t ∙ ap (λ k. nat_le y.machine.budget (y.machine.turns + k)) c)

pub parks_where : (e : Engine) (y : s.Slave) (f : ℕ) (args : List Cell) (depth turns calls budget : ℕ) (b : Bool) (next : Next) → turns ≡ y.machine.turns → calls ≡ y.calls → budget ≡ y.machine.budget →
    b ≡ nat_le budget (turns + calls) → b ≡ true → HasMoved e next (parks y) → HasMoved e next (calls_or_parks y f args depth)
parks_where e y f args depth turns calls budget b next t c n is is_true h =
    subst (λ (k : Bool). HasMoved e next (if k then parks y else says_call y f args depth)) (sym (used_is y turns calls budget b t c n is ∙ is_true)) h

pub says_where : (e : Engine) (y : s.Slave) (f : ℕ) (args : List Cell) (depth turns calls budget : ℕ) (b : Bool) (next : Next) → turns ≡ y.machine.turns → calls ≡ y.calls → budget ≡ y.machine.budget →
    b ≡ nat_le budget (turns + calls) → b ≡ false → HasMoved e next (says_call y f args depth) → HasMoved e next (calls_or_parks y f args depth)
says_where e y f args depth turns calls budget b next t c n is is_false h =
    subst (λ (k : Bool). HasMoved e next (if k then parks y else says_call y f args depth)) (sym (used_is y turns calls budget b t c n is ∙ is_false)) h

call_is : (y : s.Slave) (f : ℕ) (args : List Cell) (turns depth : ℕ) (wants wanted : Bool) (body : CallBody) → turns ≡ y.machine.turns → wants ≡ wanted → body ≡ call_body y f args →
    Some (message.Call turns f depth wants body) ≡ Some (s.call_of y f args depth wanted)
call_is y f args turns depth wants wanted body t w b =
    ap (λ k. Some (message.Call k f depth wants body)) t
    ∙ ap (λ k. Some (message.Call y.machine.turns f depth k body)) w
    ∙ ap (λ k. Some (message.Call y.machine.turns f depth wanted k)) b

-- it waits
pub waits_moved : (e : Engine) (y : s.Slave) (f : ℕ) (args : List Cell) (turns depth : ℕ) (p : Packed) (doing : Doing) → Runs e y → turns ≡ y.machine.turns → IsPacked p y f args → p.wants ≡ true → doing_of doing ≡ Some (s.waits_for f args) →
    HasMoved (record e { calls = e.calls + 1 }) (record { said = Some (message.Call turns f depth p.wants p.body); doing = doing }) (says_call y f args depth)
waits_moved e y f args turns depth p doing runs t is awaited d =
    subst (λ (k : Bool). HasMoved (record e { calls = e.calls + 1 }) (record { said = Some (message.Call turns f depth p.wants p.body); doing = doing }) (if k then awaits_reply y f args depth else posts y f args depth))
    (sym (sym is.wants_is ∙ awaited))
    (record {
      runs = record {
        shown = runs.shown;
        structs_are = runs.structs_are;
        signatures_are = runs.signatures_are;
        hosts_are = runs.hosts_are;
        input_is = runs.input_is;
        given_are = runs.given_are;
        calls_are = ap (λ n. n + 1) runs.calls_are;
        budget_is = runs.budget_is;
      };
      said = call_is y f args turns depth p.wants true p.body t awaited is.body_is;
      doing = d;
    })

-- it goes on
pub posts_moved : (e : Engine) (y : s.Slave) (f : ℕ) (args : List Cell) (turns depth : ℕ) (p : Packed) → Runs e (posted y f args) → turns ≡ y.machine.turns → IsPacked p y f args → p.wants ≡ false →
    HasMoved (record e { calls = e.calls + 1 }) (record { said = Some (message.Call turns f depth p.wants p.body); doing = Goes }) (says_call y f args depth)
posts_moved e y f args turns depth p runs t is posts_it =
    subst (λ (k : Bool). HasMoved (record e { calls = e.calls + 1 }) (record { said = Some (message.Call turns f depth p.wants p.body); doing = Goes }) (if k then awaits_reply y f args depth else posts y f args depth))
    (sym (sym is.wants_is ∙ posts_it))
    (record {
      runs = record {
        shown = runs.shown;
        structs_are = runs.structs_are;
        signatures_are = runs.signatures_are;
        hosts_are = runs.hosts_are;
        input_is = runs.input_is;
        given_are = runs.given_are;
        calls_are = ap (λ n. n + 1) runs.calls_are;
        budget_is = runs.budget_is;
      };
      said = call_is y f args turns depth p.wants false p.body t posts_it is.body_is;
      doing = refl;
    })

-- ---- where a run of its machine stops

abbrev Tells : Moved s.Slave Message → Type 0
Tells m = (m.said ≢ None) ⊎ (mode_of m.slave ≢ going)

said_some : (o : Option Message) (m : Message) → o ≡ Some m → o ≢ None
said_some o m e none = clash (sym e ∙ none)
  where
    clash : Some m ≡ None → ⊥
    clash k = cc

tells_either : (b : Bool) (x y : Moved s.Slave Message) → Tells x → Tells y → Tells (if b then x else y)
tells_either true x y h k = h
tells_either false x y h k = k

-- behind a step that doesn't move it, or in which a host wrote, it has said something or doesn't go on
pub tells : (y : s.Slave) (a : Answer) (wrote : Option (List ℕ)) → (a ≢ moved) ⊎ (is_some wrote ≡ true) → Tells (after_step y a wrote)
tells y moved None (inl h) = absurd (h refl)
tells y moved None (inr h) = absurd (nothing h)
  where
    nothing : false ≡ true → ⊥
    nothing e = cc
tells y moved (Some bytes) h = inl (said_some _ _ refl)
tells y (asked f args depth) wrote h =
    tells_either (nat_le y.machine.budget (y.machine.turns + y.calls)) (parks y) (says_call y f args depth) (inl (said_some _ _ refl))
    (tells_either (must_wait y f args) (awaits_reply y f args depth) (posts y f args depth) (inl (said_some _ _ refl)) (inl (said_some _ _ refl)))
tells y (ended v) wrote h = inl (said_some _ _ refl)
tells y (trapped trap span) wrote h = inl (said_some _ _ refl)
tells y spent wrote h = inl (said_some _ _ refl)
tells y idle wrote h = inr over_goes
  where
    over_goes : over ≡ going → ⊥
    over_goes e = cc
