-- What holds in a scene whatever its calls do, and where a function is entered and left.
use Rattle.std.proofs.Common.{◌≡◌, ◌∙◌, ◌≤◌, ◌<◌, ℕ, zero, suc, ◌+◌, ℤ, nat_eq, refl, ap, sym, subst, arith, Bool, true, false, Option, Some, None, List, [], ◌∷◌, ◌++◌, map, if◌then◌else◌}
use Rattle.std.specs.Prelude.{◌&&◌, ◌||◌, not}
use Rattle.std.proofs.lemmas.List.{map-append}
use Rattle.std.proofs.lemmas.Bool.Decides.{nat_tests}
use Rattle.pt_base.specs.declared.int_type.IntType.{IntType}
use Rattle.pt_base.specs.declared.span.Span.{Span}
use Rattle.pt_tree.specs.declared.signature.Param.{Param}
use Rattle.pt_tree.specs.declared.signature.Signature.{Signature}
use Rattle.pt_tree.specs.PlainNumbers.{plain_numbers}
use Rattle.runs.specs.State.{Event, gives, trapped, spent, ◌>>=◌, take_turn, noted, guarded, guarded_event}
use Rattle.typed_tree.specs.declared.types.VarTy.{VarTy}
use Rattle.typed_tree.specs.Sizes.{sizes_of}
use Rattle.typed_tree.specs.ExpressionTree.{ExprTree}
use Rattle.block_memory.specs.declared.cell.Cell as core
use Rattle.source_meaning.specs.State.{State, Outcome}
use Rattle.source_meaning.specs.Values.{Value, number_of, numbers_of}
use Rattle.source_meaning.specs.Expressions as m
use Rattle.source_meaning.specs.Statements as ms
use Rattle.source_meaning.specs.Functions as mf
use Rattle.source_meaning.specs.Functions.{opened, frame_in}
use Rattle.pt_core.specs.Values as cv
use Rattle.pt_core.specs.CodeTree.{FunctionTree, ProgramTree}
use Rattle.pt_core.specs.Statements as c
use Rattle.pt_core.specs.Statements.{with_blocks}
use Rattle.pt_core.specs.Calls as cc_
use Rattle.half_meaning_law.specs.Relations.{Scene, core_event, Alike, Same}
use Rattle.half_meaning_law.specs.Statements.{AreArguments, SameReturn, SameFlow, GoesOn, SameResult, GivesResult, code_of}
use Rattle.half_meaning_law.proofs.Operators.{number_same}
use Rattle.half_names_law.specs.Standing.{scene_of}
use Rattle.half_texts_law.specs.Calls.{FramesEnd}
use Rattle.half_texts_law.proofs.CallsFrames.{Enters, Leads, types_in, entering, entering_blocks}
use Rattle.half_texts_law.proofs.CallsEntering.{as_many, entering_fits, entering_live, leaving_blocks, leaving_fits, leaving_live}
use Rattle.half_texts_law.proofs.CallsReturns.{RunFits, FlowFits}

-- ---- other calls

module _ (p : ProgramTree) (f : FunctionTree) (frames : ℕ → List VarTy) (frame : m.Frame) (a b : m.Calls) (a' b' : c.Calls) where
  pub alike_in : (st : State) (st' : c.State) → Alike (scene_of p f frames frame a a') st st' → Alike (scene_of p f frames frame b b') st st'
  alike_in st st' al = record { blocks = al.blocks; fits = al.fits; live = al.live; hosts = al.hosts; input = al.input; seen = record { events = al.seen.events; left = al.seen.left } }

  pub arguments_in : (ps : List Param) (vs : List Value) (xs : List core.Cell) → AreArguments (scene_of p f frames frame a a') ps vs xs → AreArguments (scene_of p f frames frame b b') ps vs xs
  arguments_in [] [] [] args = tt {0}
  arguments_in [] [] (x ∷ xs) args = absurd args
  arguments_in [] (v ∷ vs) xs args = absurd args
  arguments_in (q ∷ ps) [] xs args = absurd args
  arguments_in (q ∷ ps) (v ∷ vs) [] args = absurd args
  arguments_in (q ∷ ps) (v ∷ vs) (x ∷ xs) args = (record { cell = args.0.cell; is = args.0.is; same = args.0.same; fits = args.0.fits }, arguments_in ps vs xs args.1)

  pub results_in : (result : Option IntType) (o : Outcome Value) (o' : c.Outcome (Option core.Cell)) → Same (scene_of p f frames frame a a') (GivesResult (scene_of p f frames frame a a') result) o o' → Same (scene_of p f frames frame b b') (GivesResult (scene_of p f frames frame b b') result) o o'
  results_in result (gives v st) (gives x st') h = record { alike = alike_in st st' h.alike; same = h.same }
  results_in result (gives v st) (trapped trap span st') h = absurd h
  results_in result (gives v st) (spent st') h = absurd h
  results_in result (trapped trap span st) (gives x st') h = absurd h
  results_in result (trapped trap span st) (trapped trap' span' st') h = (h.0, record { events = h.1.events; left = h.1.left })
  results_in result (trapped trap span st) (spent st') h = absurd h
  results_in result (spent st) (gives x st') h = absurd h
  results_in result (spent st) (trapped trap span st') h = absurd h
  results_in result (spent st) (spent st') h = record { events = h.events; left = h.left }

-- ---- turns and events

pub turn_alike : {A B : Type 0} (s : Scene) (Q : A → State → B → c.State → Type 0) (st : State) (st' : c.State) (next : State → Outcome A) (next' : c.State → c.Outcome B) → Alike s st st' →
    ((left : ℕ) → Same s Q (next (record st { left = left })) (next' (record st' { left = left }))) → Same s Q (take_turn st.left st next) (take_turn st'.left st' next')
turn_alike s Q st st' next next' al on = subst (λ n. Same s Q (take_turn st.left st next) (take_turn n st' next')) (sym al.seen.left) (go st.left)
  where
    go : (n : ℕ) → Same s Q (take_turn n st next) (take_turn n st' next')
    go zero = al.seen
    go (suc n) = on n

pub noted_alike : (s : Scene) (st : State) (st' : c.State) (events events' : List Event) → events' ≡ map (core_event s) events → Alike s st st' → Alike s (noted events st) (noted events' st')
noted_alike s st st' events events' same al = record {
  blocks = al.blocks;
  fits = al.fits;
  live = al.live;
  hosts = al.hosts;
  input = al.input;
  seen = record { events = (λ i. al.seen.events i ++ same i) ∙ sym (map-append (core_event s) st.events events); left = al.seen.left };
}

-- a guarded call of both shows the same
pub guarded_same : (s : Scene) (active : Bool) (text half : Signature) (g : ℕ) (numbers numbers' : List ℤ) → text.privileged ≡ half.privileged → numbers' ≡ numbers → plain_numbers text.params numbers ≡ plain_numbers half.params numbers →
    guarded_event active half (s.function_number g) numbers' ≡ map (core_event s) (guarded_event active text g numbers)
guarded_same s active text half g numbers numbers' privileged equal plain =
    (λ i. if sym privileged i && not active then guarded (s.function_number g) ((ap (plain_numbers half.params) equal ∙ sym plain) i) ∷ [] else [])
    ∙ go (text.privileged && not active)
  where
    go : (b : Bool) → (if b then guarded (s.function_number g) (plain_numbers text.params numbers) ∷ [] else []) ≡ map (core_event s) (if b then guarded g (plain_numbers text.params numbers) ∷ [] else [])
    go true = refl
    go false = refl

pub numbers_same : (s : Scene) (ps : List Param) (vs : List Value) (xs : List core.Cell) → AreArguments s ps vs xs → map cv.number_in xs ≡ numbers_of vs
numbers_same s [] [] [] args = refl
numbers_same s [] [] (x ∷ xs) args = absurd args
numbers_same s [] (v ∷ vs) xs args = absurd args
numbers_same s (q ∷ ps) [] xs args = absurd args
numbers_same s (q ∷ ps) (v ∷ vs) [] args = absurd args
numbers_same s (q ∷ ps) (v ∷ vs) (x ∷ xs) args =
    (λ i. (ap cv.number_in args.0.same ∙ number_same s args.0.cell ∙ sym (ap number_of args.0.is)) i ∷ numbers_same s ps vs xs args.1 i)

-- ---- entering

-- the frames while a function with these variables is active one deeper
abbrev pub frames_in : (ℕ → List VarTy) → ℕ → List VarTy → ℕ → List VarTy
frames_in frames depth types d = if nat_eq d (depth + 1) then types else frames d

abbrev pub inner_of : ProgramTree → FunctionTree → (ℕ → List VarTy) → m.Frame → Bool → m.Calls → c.Calls → Scene
inner_of p h frames frame privileged calls calls' =
    scene_of p h (frames_in frames frame.depth (types_in h.vars)) (record { depth = frame.depth + 1; privileged = frame.privileged || privileged }) calls calls'

pub enters : (p : ProgramTree) (f h : FunctionTree) (frames : ℕ → List VarTy) (frame : m.Frame) (privileged : Bool) (a b : m.Calls) (a' b' : c.Calls) → FramesEnd frames frame.depth →
    Enters (scene_of p f frames frame a a') (inner_of p h frames frame privileged b b') (types_in h.vars)
enters p f h frames frame privileged a b a' b' ends = record {
  structs = refl;
  numbers = refl;
  depth = refl;
  below = λ d le. ap (λ t. if t then types_in h.vars else frames d) (lower d frame.depth le);
  own = ap (λ t. if t then types_in h.vars else frames (frame.depth + 1)) (same frame.depth);
  ends = ends;
  ends' = λ d less. ap (λ t. if t then types_in h.vars else frames d) (higher d frame.depth less) ∙ ends d (omega (arith, less));
}
  where
    lower : (d n : ℕ) → d ≤ n → nat_eq d (n + 1) ≡ false
    lower d n le = grind (arith, nat_tests, le)

    higher : (d n : ℕ) → n + 1 < d → nat_eq d (n + 1) ≡ false
    higher d n less = grind (arith, nat_tests, less)

    same : (n : ℕ) → nat_eq (n + 1) (n + 1) ≡ true
    same n = grind (arith, nat_tests)

pub ends_in : (frames : ℕ → List VarTy) (depth : ℕ) (types : List VarTy) → FramesEnd frames depth → FramesEnd (frames_in frames depth types) (depth + 1)
ends_in frames depth types ends d less = ap (λ t. if t then types else frames d) (higher d depth less) ∙ ends d (omega (arith, less))
  where
    higher : (d n : ℕ) → n + 1 < d → nat_eq d (n + 1) ≡ false
    higher d n less = grind (arith, nat_tests, less)

pub own_in : (frames : ℕ → List VarTy) (depth : ℕ) (types : List VarTy) → frames_in frames depth types (depth + 1) ≡ types
own_in frames depth types = ap (λ t. if t then types else frames (depth + 1)) (same depth)
  where
    same : (n : ℕ) → nat_eq (n + 1) (n + 1) ≡ true
    same n = grind (arith, nat_tests)

module _ (p : ProgramTree) (f h : FunctionTree) (frames : ℕ → List VarTy) (frame : m.Frame) (privileged : Bool) (a b : m.Calls) (a' b' : c.Calls) where
  abbrev caller : Scene
  caller = scene_of p f frames frame a a'

  abbrev inner : Scene
  inner = inner_of p h frames frame privileged b b'

  -- the states in which its body begins
  pub entered_alike : (exprs : List ExprTree) (ps : List Param) (vs : List Value) (xs : List core.Cell) (st : State) (st' : c.State) → FramesEnd frames frame.depth → Leads ps (types_in h.vars) → AreArguments caller ps vs xs → Alike caller st st' →
      Alike inner (opened (code_of inner exprs) vs st) (with_blocks (entering p.structs h.vars (frame.depth + 1) xs st'.memory) st')
  entered_alike exprs ps vs xs st st' ends lead args al =
      let en = enters p f h frames frame privileged a b a' b' ends in
      let many = as_many caller ps vs xs args in
      record {
        blocks = entering_blocks caller inner st.memory st'.memory p.structs h.vars (frame.depth + 1) ps vs xs refl lead args al.blocks;
        fits = entering_fits caller inner (types_in h.vars) st.memory (sizes_of p.structs) ps vs xs en lead args al.fits al.live;
        live = entering_live caller inner (types_in h.vars) st.memory p.structs ps vs en refl lead many.0 al.live;
        hosts = al.hosts;
        input = al.input;
        seen = record { events = al.seen.events; left = al.seen.left };
      }

  -- and those in which it is left
  left_alike_at : (st : State) (st' : c.State) → FramesEnd frames frame.depth → Alike inner st st' → Alike caller (mf.left_at (frame.depth + 1) st) (cc_.left_at (frame.depth + 1) st')
  left_alike_at st st' ends al =
      let en = enters p f h frames frame privileged a b a' b' ends in
      record {
        blocks = leaving_blocks caller inner (types_in h.vars) st.memory st'.memory en al.live al.blocks;
        fits = leaving_fits caller inner (types_in h.vars) st.memory en al.live al.fits;
        live = leaving_live caller inner (types_in h.vars) st.memory en al.live;
        hosts = al.hosts;
        input = al.input;
        seen = record { events = al.seen.events; left = al.seen.left };
      }

  at_end : (result : Option IntType) (span span' : Span) (st : State) (st' : c.State) → FramesEnd frames frame.depth → Alike inner st st' → Same caller (GivesResult caller result) (mf.at_brace result span (frame.depth + 1) st) (cc_.at_end result span' (frame.depth + 1) st')
  at_end None span span' st st' ends al = record { alike = left_alike_at st st' ends al; same = tt }
  at_end (Some t) span span' st st' ends al = (refl, record { events = al.seen.events; left = al.seen.left })

  result_same : (result : Option IntType) (v : Value) (x : Option core.Cell) → SameReturn v x → FlowFits result (c.returned x) → SameResult result v x
  result_same None v x same fits = tt {0}
  result_same (Some t) v None same fits = absurd fits
  result_same (Some t) v (Some x) same fits = same

  -- the function returns
  pub returns_alike : (result : Option IntType) (span span' : Span) (o : Outcome ms.Flow) (o' : c.Outcome c.Flow) → FramesEnd frames frame.depth → RunFits result o' → Same inner (GoesOn inner) o o' →
      Same caller (GivesResult caller result) (o >>= mf.returned_from result span (frame.depth + 1)) (o' >>= cc_.returned_from result span' (frame.depth + 1))
  returns_alike result span span' (gives flow st) (gives flow' st') ends fits h = go flow flow' fits h.same
    where
      go : (flow : ms.Flow) (flow' : c.Flow) → FlowFits result flow' → SameFlow flow flow' → Same caller (GivesResult caller result) (mf.returned_from result span (frame.depth + 1) flow st) (cc_.returned_from result span' (frame.depth + 1) flow' st')
      go ms.goes_on c.goes_on fits same = at_end result span span' st st' ends h.alike
      go ms.goes_on c.broke fits same = absurd same
      go ms.goes_on c.continues fits same = absurd same
      go ms.goes_on (c.returned x) fits same = absurd same
      go ms.broke c.goes_on fits same = absurd same
      go ms.broke c.broke fits same = at_end result span span' st st' ends h.alike
      go ms.broke c.continues fits same = absurd same
      go ms.broke (c.returned x) fits same = absurd same
      go ms.continues c.goes_on fits same = absurd same
      go ms.continues c.broke fits same = absurd same
      go ms.continues c.continues fits same = at_end result span span' st st' ends h.alike
      go ms.continues (c.returned x) fits same = absurd same
      go (ms.returned v) c.goes_on fits same = absurd same
      go (ms.returned v) c.broke fits same = absurd same
      go (ms.returned v) c.continues fits same = absurd same
      go (ms.returned v) (c.returned x) fits same = record { alike = left_alike_at st st' ends h.alike; same = result_same result v x same fits }
  returns_alike result span span' (gives flow st) (trapped trap span1 st') ends fits h = absurd h
  returns_alike result span span' (gives flow st) (spent st') ends fits h = absurd h
  returns_alike result span span' (trapped trap span1 st) (gives flow' st') ends fits h = absurd h
  returns_alike result span span' (trapped trap span1 st) (trapped trap' span2 st') ends fits h = (h.0, record { events = h.1.events; left = h.1.left })
  returns_alike result span span' (trapped trap span1 st) (spent st') ends fits h = absurd h
  returns_alike result span span' (spent st) (gives flow' st') ends fits h = absurd h
  returns_alike result span span' (spent st) (trapped trap span1 st') ends fits h = absurd h
  returns_alike result span span' (spent st) (spent st') ends fits h = record { events = h.events; left = h.left }
