-- The handles of a slave's memory are of the types with which they were given.
use Rattle.std.proofs.Common.{◌≡◌, ◌∙◌, ◌<◌, ◌⊎◌, inl, inr, ℕ, zero, suc, ◌+◌, refl, ap, sym, subst, arith, List, [], ◌∷◌, ◌++◌, Option, Some, None, Bool, true, false, length, slice_get}
use Rattle.std.specs.Prelude.{IsTrue, ◌||◌, is_some, nat_le, pos, if◌then◌else◌}
use Rattle.pt_base.specs.declared.int_type.IntType.{IntType}
use Rattle.pt_base.proofs.Places.{get_before, get_kept}
use Rattle.typed_tree.specs.declared.types.VarTy.{VarTy}
use Rattle.typed_tree.specs.declared.types.VarTy.TheVariants.{Int, Struct, Array, Pointer}
use Rattle.typed_tree.proofs.SameTypes.{equal_ints, int_self}
use Rattle.host_models.specs.Fitting.{fits}
use Rattle.block_memory.specs.declared.cell.Cell.{Cell}
use Rattle.block_memory.specs.declared.cell.Cell.TheVariants as cell
use Rattle.block_memory.specs.declared.cell.BlockName.{BlockName}
use Rattle.block_memory.specs.declared.cell.BlockName.TheVariants.{Local, Global, Received}
use Rattle.block_memory.specs.Block.{Block}
use Rattle.block_memory.specs.Blocks.{Blocks}
use Rattle.typed_tree.specs.declared.types.StructInfo.{StructInfo}
use Rattle.wire.specs.declared.message.ReplyBody.{ReplyBody}
use Rattle.marshalling.specs.declared.crossing.Crossing.{Crossing}
use Rattle.marshalling.specs.declared.crossing.Crossing.TheVariants as way
use Rattle.marshalling.specs.Replies.{Place, has_plain, kept_by, next_after}
use Rattle.marshalling.specs.Taking.{Taken, after_reply, known_reply}
use Rattle.marshalling_law.specs.TakingLaws.{AllStand, IsTakenWell}
use Rattle.marshalling_law.proofs.TakingKnown.{known_replies_are_replies}
use Rattle.marshalling_law.proofs.TakingLemmas.{taken_replies_fit}
use Rattle.pt_core.specs.CodeTree.{FunctionTree}
use Rattle.pt_core.specs.Calls.{signature_in}
use Rattle.pt_core.specs.CoreRun.{main_in}
use Rattle.pt_core.specs.Steps.{Answer, moved, asked, ended, trapped, spent, idle, with_blocks}
use Rattle.pt_core.specs.WellFormed.{boot_program, function_at, is_sound}
use Rattle.core_soundness_law.specs.Kept.{Kept, IsWithin, by_types, is_given}
use Rattle.core_soundness_law.specs.Fits.{Fits, IntegerFits, IntegersFit, LocalFits, PointerFits, variables_at}
use Rattle.core_soundness_law.proofs.More.{more_is_kept}
use Rattle.core_soundness_law.proofs.Outside.{resumed_fits}
use Rattle.core_soundness_law.specs.Called.{GoesBy, HasAsked}
use Rattle.core_soundness_law.proofs.CalledAccounts.{steps_keep_account}
use Rattle.core_soundness_law.proofs.CalledKeeping.{steps_keep_called}
use Rattle.pair_protocol.specs.SlaveRun as run
use Rattle.pair_meaning.specs.LowView.{types_kept}
use Rattle.pair_meaning.specs.Monitors.{types_in}
use Rattle.pair_meaning.specs.Pair.{slave_at, the_sides}
use Rattle.pair_meaning.specs.SlaveRun.{Slave, Doing, goes, waits_for, is_over, after_step, awaits_reply, calls_or_parks, heard_by, is_reply_to, machine_step, mode_by, moves_with, must_wait, parks, places_of_call, posts, results_of, says_call, slave_gate, slave_of, slave_step, stepped, take, taken_by, types_given, with_reply}
use Rattle.slave_soundness_law.specs.Sound.{IsBare, IsDoing, IsFree, IsRunning, IsSound, IsWaiting}
use Rattle.slave_soundness_law.specs.Typed.{HandlesHaveTheirTypes}
use Rattle.slave_soundness_law.proofs.Beginning.{begun_fits, begun_free, slaves_begin_sound}
use Rattle.slave_soundness_law.proofs.Hosts.{fits_calls}
use Rattle.slave_soundness_law.proofs.Stepping.{running, slaves_stay_sound}
use Rattle.slave_soundness_law.proofs.Taking.{next_counts, reply_well, taken_free, takers_stay_sound}

-- ---- lists of types

-- behind the first list stands the second
behind_at : {X : Type 0} (xs ys : List X) (n i : ℕ) → n ≡ length xs + i → slice_get (xs ++ ys) n ≡ slice_get ys i
behind_at [] ys n i e = ap (slice_get ys) (same n i e)
  where
    same : (n i : ℕ) → n ≡ 0 + i → n ≡ i
    same n i e = omega (arith, e)
behind_at (x ∷ xs) ys zero i e = absurd (omega (arith, e))
behind_at (x ∷ xs) ys (suc n) i e = behind_at xs ys n i (omega (arith, e))

-- ---- which handles stand for numbers

-- more handles may be given
within_more : (given more : List IntType) → IsWithin (by_types given) (by_types (given ++ more))
within_more given more t handle = go (slice_get given handle) refl
  where
    go : (o : Option IntType) → slice_get given handle ≡ o → is_given t o ≡ true → is_given t (slice_get (given ++ more) handle) ≡ true
    go None e h = none h
      where
        none : false ≡ true → is_given t (slice_get (given ++ more) handle) ≡ true
        none h = cc
    go (Some of) e h = ap (is_given t) (get_kept given more handle of e) ∙ h

-- these types stand from this handle on
abbrev StandFrom : List IntType → ℕ → List IntType → Type 0
StandFrom types handle some = (i : ℕ) → i < length some → slice_get types (handle + i) ≡ slice_get some i

-- each handle that the places give stands for a number of its place's type
all_stand : (types : List IntType) (handle : ℕ) (places : List Place) → StandFrom types handle (types_kept places) → AllStand (by_types types) handle places
all_stand types handle [] h = tt {0}
all_stand types handle (p ∷ places) h = go p.way p.ty (λ next k. all_stand types next places k) h
  where
    go : (w : Crossing) (t : IntType) → ((next : ℕ) → StandFrom types next (types_kept places) → AllStand (by_types types) next places) → StandFrom types handle (types_in (kept_by w t (pos 0)) ++ types_kept places) →
        AllStand (by_types types) handle (record { way = w; ty = t } ∷ places)
    go way.Stays t rest h = (tt {0}, rest handle h)
    go way.Plain t rest h = (tt {0}, rest handle h)
    go way.Sealed t rest h = (
      ap (is_given t) (ap (slice_get types) (none handle) ∙ h 0 (first (length (types_kept places)))) ∙ int_self t,
      rest (suc handle) (λ i lt. ap (slice_get types) (one_less handle i) ∙ h (suc i) (below i (length (types_kept places)) lt)),
    )
      where
        none : (n : ℕ) → n ≡ n + 0
        none n = omega arith

        first : (n : ℕ) → 0 < suc n
        first n = omega arith

        one_less : (n i : ℕ) → suc n + i ≡ n + suc i
        one_less n i = omega arith

        below : (i n : ℕ) → i < n → suc i < suc n
        below i n lt = omega (arith, lt)

-- ---- a slave

-- its machine runs, and fits with the handles as they were given
record IsTyped (x : Slave) : Type 0 where
  runs : IsRunning x
  typed : Fits (by_types x.given) false x.program x.machine

record Keeps (x : Slave) : Type 0 where
  sound : IsSound x
  is_typed : IsTyped x

free_of : (x : Slave) → IsSound x → IsTyped x → x.doing ≡ goes → IsFree x
free_of x sound k going = record { running = k.runs; free = go (subst (λ d. IsDoing x d) going sound.doing) }
  where
    go : IsFree x ⊎ IsBare x.machine → x.machine.awaits ≡ None
    go (inl f) = f.free
    go (inr b) = b.free

-- ---- a reply

reply_typed : (x : Slave) (f : ℕ) (args : List Cell) (result : Option ℕ) (reply : ReplyBody) → IsTrue (is_sound false x.program) → IsTyped x → x.machine.awaits ≡ Some (record { callee = f; result = result }) → is_reply_to x f args reply ≡ true →
    IsTyped (with_reply x f args reply)
reply_typed x f args result reply sound k awaits is = record {
  runs = (taken_free x f args result (after_reply (length x.given) x.machine.blocks x.program.structs (signature_in x.program f) args reply) sound k.runs awaits (reply_well x f args reply k.runs is)).running;
  typed = resumed_fits kept false x.program (with_blocks taken.blocks x.machine) (record { callee = f; result = result }) taken.result sound well.fits awaits well.result;
}
  where
    results : List Place
    results = results_of x f

    places : List Place
    places = places_of_call x f args

    kept : Kept
    kept = by_types (x.given ++ types_given x f args)

    taken : Taken
    taken = after_reply (length x.given) x.machine.blocks x.program.structs (signature_in x.program f) args reply

    first : StandFrom (x.given ++ (types_kept results ++ types_kept places)) (length x.given) (types_kept results)
    first i lt = behind_at x.given (types_kept results ++ types_kept places) (length x.given + i) i refl ∙ get_before (types_kept results) (types_kept places) i lt

    second : StandFrom (x.given ++ (types_kept results ++ types_kept places)) (next_after (length x.given) results) (types_kept places)
    second i lt =
        behind_at x.given (types_kept results ++ types_kept places) (next_after (length x.given) results + i) (length (types_kept results) + i) (ap (λ n. n + i) (next_counts (length x.given) results) ∙ together (length x.given) (length (types_kept results)) i)
        ∙ behind_at (types_kept results) (types_kept places) (length (types_kept results) + i) i refl
      where
        together : (a b c : ℕ) → (a + b) + c ≡ a + (b + c)
        together a b c = omega arith

    well : IsTakenWell (by_types (x.given ++ types_given x f args)) false x.program (signature_in x.program f) x.machine (after_reply (length x.given) x.machine.blocks x.program.structs (signature_in x.program f) args reply)
    well =
        taken_replies_fit (by_types (x.given ++ types_given x f args)) false x.program x.machine (length x.given) x.program.structs (signature_in x.program f) args reply
        (more_is_kept (by_types x.given) (by_types (x.given ++ types_given x f args)) false x.program x.machine (within_more x.given (types_given x f args)) k.typed) is
        (record { result = all_stand (x.given ++ types_given x f args) (length x.given) results first; cells = all_stand (x.given ++ types_given x f args) (next_after (length x.given) results) places second })

takes_typed : (x : Slave) (reply : ReplyBody) → IsSound x → IsTyped x → IsTyped (take reply x)
takes_typed x reply sound k = go x.doing refl
  where
    by_form : (f : ℕ) (args : List Cell) → IsWaiting x f args → (b : Bool) → is_reply_to x f args reply ≡ b → IsTyped (if b then with_reply x f args reply else record x { doing = is_over })
    by_form f args waiting true e = reply_typed x f args waiting.result reply sound.program k waiting.awaits e
    by_form f args waiting false e = record { runs = record { machine = k.runs.machine; own = k.runs.own; small = k.runs.small; hosts = k.runs.hosts }; typed = k.typed }

    go : (d : Doing) → x.doing ≡ d → IsTyped (taken_by x d reply)
    go goes e = k
    go (waits_for f args) e = by_form f args (subst (λ d. IsDoing x d) e sound.doing) (is_reply_to x f args reply) refl
    go is_over e = k

take_keeps : (x : Slave) (reply : ReplyBody) → Keeps x → Keeps (take reply x)
take_keeps x reply k = record { sound = takers_stay_sound x reply k.sound; is_typed = takes_typed x reply k.sound k.is_typed }

-- ---- a step

module _ (x : Slave) (sound : IsSound x) (k : IsTyped x) (going : x.doing ≡ goes) where
  abbrev y : Slave
  y = stepped x (machine_step x)

  free : IsFree x
  free = free_of x sound k going

  runs_next : IsRunning y
  runs_next = running x sound free

  typed_next : Fits (by_types x.given) false x.program y.machine
  typed_next =
      (steps_keep_called (by_types x.given) false x.program (slave_gate x.program) x.machine (heard_by x) sound.program (fits_calls x sound.program free.running.hosts sound.input) free.running.own k.typed free.free).machine

  -- whatever it does then
  next : (calls : ℕ) (d : Doing) → IsTyped (record y { calls = calls; doing = d })
  next calls d = record { runs = record { machine = runs_next.machine; own = runs_next.own; small = runs_next.small; hosts = runs_next.hosts }; typed = typed_next }

  next_itself : IsTyped y
  next_itself = record { runs = runs_next; typed = typed_next }

  posts_typed : (f : ℕ) (args : List Cell) (depth : ℕ) → (machine_step x).answer ≡ asked f args depth → must_wait y f args ≡ false → IsTyped (posts y f args depth).slave
  posts_typed f args depth e plain =
      let has : HasAsked x.machine.active y.machine f =
      subst (λ a. GoesBy x.machine.active x.machine a y.machine) e (steps_keep_account x.program (slave_gate x.program) x.machine (heard_by x)).goes in
      let none = neither (has_plain (results_of y f)) (has_plain (places_of_call y f args)) plain in
      let is : is_reply_to y f args (known_reply (length x.given) y.machine.blocks x.program.structs (signature_in x.program f) args) ≡ true =
      known_replies_are_replies (length x.given) y.machine.blocks x.program.structs (signature_in x.program f) args none.0 none.1 in
      let after = reply_typed y f args has.result (known_reply (length x.given) y.machine.blocks x.program.structs (signature_in x.program f) args) sound.program next_itself has.awaits is in
      record { runs = record { machine = after.runs.machine; own = after.runs.own; small = after.runs.small; hosts = after.runs.hosts }; typed = after.typed }
    where
      neither : (a b : Bool) → (a || b) ≡ false → (a ≡ false) × (b ≡ false)
      neither true b h = cc
      neither false b h = (refl, h)

  call_typed : (f : ℕ) (args : List Cell) (depth : ℕ) → (machine_step x).answer ≡ asked f args depth → IsTyped (calls_or_parks y f args depth).slave
  call_typed f args depth e = by_budget (nat_le y.machine.budget (y.machine.turns + x.calls))
    where
      by_want : (b : Bool) → must_wait y f args ≡ b → IsTyped (if b then awaits_reply y f args depth else posts y f args depth).slave
      by_want true w = next (x.calls + 1) (waits_for f args)
      by_want false w = posts_typed f args depth e w

      by_budget : (b : Bool) → IsTyped (if b then parks y else says_call y f args depth).slave
      by_budget true = next x.calls is_over
      by_budget false = by_want (must_wait y f args) refl

  after_typed : (a : Answer) → (machine_step x).answer ≡ a → IsTyped (after_step y a (machine_step x).gate.wrote).slave
  after_typed moved e = by_wrote (machine_step x).gate.wrote
    where
      by_wrote : (wrote : Option (List ℕ)) → IsTyped (moves_with y wrote).slave
      by_wrote None = next_itself
      by_wrote (Some bytes) = next_itself
  after_typed (asked f args depth) e = call_typed f args depth e
  after_typed (ended v) e = next x.calls is_over
  after_typed (trapped trap span) e = next x.calls is_over
  after_typed spent e = next x.calls is_over
  after_typed idle e = next x.calls is_over

step_keeps : (x : Slave) → Keeps x → x.doing ≡ goes → Keeps (slave_step x).slave
step_keeps x k going = record { sound = slaves_stay_sound x k.sound going; is_typed = after_typed x k.sound k.is_typed going (machine_step x).answer refl }

-- ---- a run

ready_keeps : (x : Slave) (replies : List ReplyBody) → Keeps x → Keeps (run.ready the_sides x replies).slave
ready_keeps x replies k = go x.doing replies
  where
    go : (d : Doing) (rs : List ReplyBody) → Keeps (run.ready_in the_sides (mode_by d) x rs).slave
    go goes rs = k
    go is_over rs = k
    go (waits_for f args) [] = k
    go (waits_for f args) (r ∷ rs) = take_keeps x r k

runs_keep : (n : ℕ) (x : Slave) (replies : List ReplyBody) → Keeps x → Keeps (run.slave_at the_sides n x replies).slave
runs_keep zero x replies k = ready_keeps x replies k
runs_keep (suc n) x replies k = go y.slave.doing refl (λ h. runs_keep n (slave_step y.slave).slave y.left h)
  where
    y : run.Ready Slave ReplyBody
    y = run.ready the_sides x replies

    go : (d : Doing) → y.slave.doing ≡ d → (Keeps (slave_step y.slave).slave → Keeps (run.slave_at the_sides n (slave_step y.slave).slave y.left).slave) →
        Keeps (run.moved_on the_sides (mode_by d) y (run.slave_at the_sides n (slave_step y.slave).slave y.left)).slave
    go goes is later = later (step_keeps y.slave (ready_keeps x replies k) is)
    go (waits_for f args) is later = ready_keeps x replies k
    go is_over is later = ready_keeps x replies k

-- ---- cells

-- a handle that fits was given with this type
given_as : (given : List IntType) (t : IntType) (handle : ℕ) → by_types given t handle ≡ true → slice_get given handle ≡ Some t
given_as given t handle = go (slice_get given handle)
  where
    go : (o : Option IntType) → is_given t o ≡ true → o ≡ Some t
    go None h = cc
    go (Some of) h = ap Some (sym (equal_ints t of h))

-- one of cells that fit these types
among : (given : List IntType) (types : List IntType) (cells : List Cell) (n handle : ℕ) → IntegersFit (by_types given) types cells → slice_get cells n ≡ Some (cell.Sealed handle) →
    (t : IntType) × (slice_get types n ≡ Some t) × (slice_get given handle ≡ Some t)
among given [] [] n handle h e = cc
among given [] (c ∷ cells) n handle h e = absurd h
among given (t ∷ types) [] n handle h e = absurd h
among given (t ∷ types) (c ∷ cells) zero handle h e = (t, refl, given_as given t handle (subst (IntegerFits (by_types given) t) (same c (cell.Sealed handle) e) h.0))
  where
    same : (a b : Cell) → Some a ≡ Some b → a ≡ b
    same a b e = cc
among given (t ∷ types) (c ∷ cells) (suc n) handle h e = among given types cells n handle h.1 e

-- a pointer is no handle
no_pointer : {A : Type 0} (structs : List StructInfo) (blocks : Blocks) (depth : ℕ) (elem : _) (held : Cell) (n handle : ℕ) → PointerFits structs blocks depth elem held → slice_get (held ∷ []) n ≡ Some (cell.Sealed handle) → A
no_pointer structs blocks depth elem held zero handle h e = absurd (subst (PointerFits structs blocks depth elem) (same held (cell.Sealed handle) e) h)
  where
    same : (a b : Cell) → Some a ≡ Some b → a ≡ b
    same a b e = cc
no_pointer structs blocks depth elem held (suc n) handle h e = none (cell.Sealed handle) e
  where
    none : {A : Type 0} (c : Cell) → None ≡ Some c → A
    none c e = cc

abbrev IsTold : List IntType → Block → ℕ → ℕ → Type 0
IsTold given block n handle = (t : IntType) × (slice_get block.types n ≡ Some t) × (slice_get given handle ≡ Some t)

in_variable : (given : List IntType) (structs : List StructInfo) (blocks : Blocks) (depth : ℕ) (ty : Option VarTy) (block : Block) (n handle : ℕ) → LocalFits (by_types given) structs blocks depth ty block → slice_get block.cells n ≡ Some (cell.Sealed handle) →
    IsTold given block n handle
in_variable given structs blocks depth None block n handle h e = none (cell.Sealed handle) (sym (ap (λ (b : Block). slice_get b.cells n) h) ∙ e)
  where
    none : {A : Type 0} (c : Cell) → None ≡ Some c → A
    none c e = cc
in_variable given structs blocks depth (Some (Int t)) block n handle h e = among given block.types block.cells n handle h.cells e
in_variable given structs blocks depth (Some (Struct k)) block n handle h e = among given block.types block.cells n handle h.cells e
in_variable given structs blocks depth (Some (Array elem count)) block n handle h e = among given block.types block.cells n handle h.cells e
in_variable given structs blocks depth (Some (Pointer elem fixed)) block n handle h e =
    no_pointer structs blocks depth elem h.held n handle h.fits (ap (λ cells. slice_get cells n) (sym h.cells) ∙ e)

in_memory : (x : Slave) (block : BlockName) (n handle : ℕ) → IsTyped x → slice_get (x.machine.blocks block).cells n ≡ Some (cell.Sealed handle) → IsTold x.given (x.machine.blocks block) n handle
in_memory x (Local depth v) n handle k e =
    in_variable x.given x.program.structs x.machine.blocks depth (slice_get (variables_at x.program x.machine.active depth) v) (x.machine.blocks (Local depth v)) n handle (k.typed.memory.locals depth v) e
in_memory x (Global g) n handle k e = among x.given (x.machine.blocks (Global g)).types (x.machine.blocks (Global g)).cells n handle (k.typed.memory.global_cells g) e
in_memory x (Received m) n handle k e = among x.given (x.machine.blocks (Received m)).types (x.machine.blocks (Received m)).cells n handle (k.typed.memory.received_cells m) e

pub handles_have_their_types : HandlesHaveTheirTypes
handles_have_their_types b replies k well bytes small main block n handle e =
    let told = in_memory (slave_at b replies k).slave block n handle (runs_keep k (slave_of b) replies (start (function_at (boot_program b) (main_in (boot_program b))) refl main)).is_typed e in
    record { ty = told.0; cell = told.1; given = told.2 }
  where
    start : (o : Option FunctionTree) → function_at (boot_program b) (main_in (boot_program b)) ≡ o → is_some o ≡ true → Keeps (slave_of b)
    start None is some = never some
      where
        never : false ≡ true → Keeps (slave_of b)
        never h = cc
    start (Some g) is some = record { sound = slaves_begin_sound b well bytes small; is_typed = record { runs = (begun_free b well g is).running; typed = begun_fits b well g is (by_types []) } }
