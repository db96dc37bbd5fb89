-- Where all functions without a body are hosts, nothing is given from outside.
use Rattle.std.proofs.Common.{◌≡◌, ◌∙◌, ℕ, zero, suc, ℤ, pos, refl, ap, sym, subst, Bool, true, false, Option, Some, None, List, ◌++◌, map, if◌then◌else◌}
use Rattle.std.specs.Prelude.{not, is_some, nat_eq}
use Rattle.std.proofs.lemmas.List.{map-append}
use Rattle.pt_base.specs.declared.int_type.IntType.{IntType}
use Rattle.pt_base.specs.declared.trap.Trap.TheVariants.{Depth}
use Rattle.pt_base.proofs.Booleans.{true_not_false}
use Rattle.pt_base.proofs.Numbers.{nat_eq_other, nat_eq_same, nat_eq_true}
use Rattle.pt_tree.specs.declared.host_model.HostModel.{HostModel}
use Rattle.pt_tree.specs.declared.signature.Signature.{Signature}
use Rattle.pt_tree.specs.HostStep.{Answer, host_step}
use Rattle.runs.specs.State.{Hosts, gives, trapped, take_turn, noted, guarded_event, answer_of, after_answer, put_host, out_event}
use Rattle.typed_tree.specs.TypedTree.{TypedTree}
use Rattle.source_meaning.specs.State.{State}
use Rattle.source_meaning.specs.Expressions as m
use Rattle.source_meaning.specs.Functions.{function_or_none, function_call, host_call, answered, result_value, calls_within}
use Rattle.pt_core.specs.CodeTree.{ProgramTree}
use Rattle.pt_core.specs.Statements as c
use Rattle.pt_core.specs.Calls as d
use Rattle.pt_core.specs.WellFormed.{function_at}
use Rattle.half_meaning_law.specs.Relations.{Scene, core_event, Alike, Same}
use Rattle.half_meaning_law.specs.Statements.{SameResult, GivesResult}
use Rattle.half_texts_law.specs.Calls.{text_calls, half_calls}
use Rattle.half_texts_law.proofs.CallsScenes.{turn_alike}

-- ---- with hosts outside

-- what calls do is what they do where hosts alone stand outside
abbrev pub text_hosts : TypedTree → m.Calls
text_hosts t frame s g vs st = host_call t frame g vs st

abbrev pub half_hosts : ProgramTree → c.Calls
half_hosts p frame s f xs st = d.host_call p frame f xs st

swapped : {A : Type 0} (host body : Bool) (x y : A) → host ≡ not body → (if host then x else y) ≡ (if body then y else x)
swapped host true x y h = λ i. if h i then x else y
swapped host false x y h = λ i. if h i then x else y

pub text_within : (t : TypedTree) → ((g : ℕ) → (function_or_none t g).signature.host ≡ not (is_some (function_or_none t g).body)) → (depth : ℕ) → calls_within t depth ≡ text_calls t (text_hosts t) depth
text_within t hosts zero = λ i frame s g vs st. swapped (function_or_none t g).signature.host (is_some (function_or_none t g).body) (host_call t frame g vs st) (trapped Depth s st) (hosts g) i
text_within t hosts (suc deeper) =
    (λ i frame s g vs st. swapped (function_or_none t g).signature.host (is_some (function_or_none t g).body) (host_call t frame g vs st) (function_call t (calls_within t deeper) frame g vs st) (hosts g) i)
    ∙ (λ i frame s g vs st. if is_some (function_or_none t g).body then function_call t (text_within t hosts deeper i) frame g vs st else host_call t frame g vs st)

pub half_within : (p : ProgramTree) → ((f : ℕ) → (d.signature_in p f).host ≡ not (is_some (function_at p f))) → (depth : ℕ) → d.calls_within p depth ≡ half_calls p (half_hosts p) depth
half_within p hosts zero = λ i frame s f xs st. swapped (d.signature_in p f).host (is_some (function_at p f)) (d.host_call p frame f xs st) (trapped Depth s st) (hosts f) i
half_within p hosts (suc deeper) =
    (λ i frame s f xs st. swapped (d.signature_in p f).host (is_some (function_at p f)) (d.host_call p frame f xs st) (d.function_call p (d.calls_within p deeper) frame f xs st) (hosts f) i)
    ∙ (λ i frame s f xs st. if is_some (function_at p f) then d.function_call p (half_within p hosts deeper i) frame f xs st else d.host_call p frame f xs st)

-- ---- a call of a host

given : (result : Option IntType) (r : Option ℤ) → SameResult result (result_value r) (d.number_cell r)
given None r = tt {0}
given (Some t) None = (pos 0, refl, refl)
given (Some t) (Some n) = (n, refl, refl)

-- what stands for each host, after one has changed
put_same : (f : ℕ → ℕ) → ((j k : ℕ) → f j ≡ f k → j ≡ k) → (hosts hosts' : Hosts) (g : ℕ) (model : HostModel) → ((k : ℕ) → hosts' (f k) ≡ hosts k) → (k : ℕ) → put_host hosts' (f g) model (f k) ≡ put_host hosts g model k
put_same f one hosts hosts' g model same k = go (nat_eq k g) refl
  where
    go : (b : Bool) → nat_eq k g ≡ b → (if nat_eq (f k) (f g) then model else hosts' (f k)) ≡ (if b then model else hosts k)
    go true e = ap (λ b. if b then model else hosts' (f k)) (nat_eq_true (f k) (f g) (ap f (nat_eq_same k g e)))
    go false e = ap (λ b. if b then model else hosts' (f k)) (nat_eq_other (f k) (f g) (λ q. true_not_false (sym (nat_eq_true k g (one k g q)) ∙ e))) ∙ same k

out_same : (s : Scene) (o : Option (List ℕ)) → out_event o ≡ map (core_event s) (out_event o)
out_same s None = refl
out_same s (Some bytes) = refl

-- the same host answers the same
pub host_alike : (s : Scene) (result : Option IntType) (text half : Signature) (g : ℕ) (numbers numbers' : List ℤ) (st : State) (st' : c.State) → ((j k : ℕ) → s.function_number j ≡ s.function_number k → j ≡ k) → numbers' ≡ numbers →
    guarded_event s.frame.privileged half (s.function_number g) numbers' ≡ map (core_event s) (guarded_event s.frame.privileged text g numbers) → Alike s st st' →
    Same s (GivesResult s result)
    (take_turn st.left st (λ st1. answered g (answer_of g numbers st1) (noted (guarded_event s.frame.privileged text g numbers) st1)))
    (take_turn st'.left st' (λ st1.
    let st2 = noted (guarded_event s.frame.privileged half (s.function_number g) numbers') st1 in
    let answer = answer_of (s.function_number g) numbers' st2 in
    gives (d.number_cell answer.result) (after_answer (s.function_number g) answer st2)))
host_alike s result text half g numbers numbers' st st' one equal events al =
    turn_alike s (GivesResult s result) st st' (λ st1. answered g (answer_of g numbers st1) (noted (guarded_event s.frame.privileged text g numbers) st1))
    (λ st1.
    let st2 = noted (guarded_event s.frame.privileged half (s.function_number g) numbers') st1 in
    let answer = answer_of (s.function_number g) numbers' st2 in
    gives (d.number_cell answer.result) (after_answer (s.function_number g) answer st2)) al
    (λ left.
    let text_events = guarded_event s.frame.privileged text g numbers in
    let half_events = guarded_event s.frame.privileged half (s.function_number g) numbers' in
    let answer = host_step st.input (st.hosts g) numbers in
    record {
      alike = record {
        blocks = al.blocks;
        fits = al.fits;
        live = al.live;
        hosts = λ j. ap (λ (a : Answer). put_host st'.hosts (s.function_number g) a.next (s.function_number j)) is ∙ put_same s.function_number one st.hosts st'.hosts g answer.next al.hosts j;
        input = al.input;
        seen = record {
          events =
              ap (λ (a : Answer). (st'.events ++ half_events) ++ out_event a.written) is
              ∙ (λ i. (al.seen.events i ++ events i) ++ out_same s answer.written i)
              ∙ ap (λ es. es ++ map (core_event s) (out_event answer.written)) (sym (map-append (core_event s) st.events text_events))
              ∙ sym (map-append (core_event s) (st.events ++ text_events) (out_event answer.written));
          left = refl;
        };
      };
      same = subst (λ (a : Answer). SameResult result (result_value answer.result) (d.number_cell a.result)) (sym is) (given result answer.result);
    })
  where
    is : host_step st'.input (st'.hosts (s.function_number g)) numbers' ≡ host_step st.input (st.hosts g) numbers
    is = λ i. host_step (al.input i) (al.hosts g i) (equal i)
