-- What a reader answers is determined, and its messages are the stream's.
use Rattle.std.proofs.Common.{◌≡◌, ◌≢◌, ℕ, ◌+◌, List, [], ◌∷◌, ◌++◌, length, Option, Some, None, Result, Ok, Err, ◌⊎◌, refl, sym, ap, subst, ◌∙◌, append_assoc, inl, inr}
use Rattle.std.specs.Prelude.{IfSome}
use Rattle.std.proofs.lemmas.List.{append-nil}
use Rattle.wire.specs.declared.message.Message.{Message}
use Rattle.wire.specs.declared.fault.FrameFault.{FrameFault}
use Rattle.wire.specs.declared.fault.FrameFault.TheVariants as fault
use Rattle.wire.specs.declared.fault.WireError.{WireError}
use Rattle.wire.specs.declared.fault.WireError.TheVariants as error
use Rattle.wire.specs.Spelling.{four_bytes, spelling}
use Rattle.wire.specs.Frames.{BeginsBad, BeginsTooLong, Begins, Ending, open_end, Stops, IsStream}
use Rattle.wire.specs.View.{ReaderView, fresh}
use Rattle.wire.specs.Steps.{Takes, Refuses, Answers, Step, fed, answered, Runs, all_fed, all_given}
use Rattle.wire.specs.Laws.{ending_at, Follows}
use Rattle.wire.proofs.StreamLaws.{same_message, stops_no_message, stops_once, streams_once}

-- ---- one answer

-- a fault of the kind begins the bytes
abbrev FaultBegins : FrameFault → List ℕ → Type 0
FaultBegins fault.BadFrame bytes = BeginsBad bytes
FaultBegins fault.TooLong bytes = BeginsTooLong bytes

-- the fault was kept, or begins what is unread
abbrev Why : FrameFault → ReaderView → Type 0
Why kind before = (before.fault ≡ Some kind) ⊎ ((before.fault ≡ None) × FaultBegins kind before.unread)

fault_stops : (kind : FrameFault) (at : ℕ) (bytes : List ℕ) → FaultBegins kind bytes → Stops (ending_at kind at) at bytes
fault_stops fault.BadFrame at bytes h = (refl, h)
fault_stops fault.TooLong at bytes h = (refl, h)

ending_kind : (one two : FrameFault) (at : ℕ) → ending_at one at ≡ ending_at two at → one ≡ two
ending_kind fault.BadFrame fault.BadFrame at e = refl
ending_kind fault.BadFrame fault.TooLong at e = absurd cc
ending_kind fault.TooLong fault.BadFrame at e = absurd cc
ending_kind fault.TooLong fault.TooLong at e = refl

same_kind : (one two : FrameFault) (before : ReaderView) → Why one before → Why two before → one ≡ two
same_kind one two before (inl p) (inl q) = let e : Some one ≡ Some two = sym p ∙ q in cc
same_kind one two before (inl p) (inr q) = let e : Some one ≡ None = sym p ∙ q.0 in absurd cc
same_kind one two before (inr p) (inl q) = let e : None ≡ Some two = sym p.0 ∙ q in absurd cc
same_kind one two before (inr p) (inr q) =
    ending_kind one two 0 (stops_once (ending_at one 0) (ending_at two 0) 0 before.unread (fault_stops one 0 before.unread p.1) (fault_stops two 0 before.unread q.1))

-- a sound reader's front is one thing
no_refusal : (kind : FrameFault) (before : ReaderView) (ending : Ending) → before.fault ≡ None → Stops ending 0 before.unread → Why kind before → ending ≡ ending_at kind 0
no_refusal kind before ending sound s (inl p) = let e : None ≡ Some kind = sym sound ∙ p in absurd cc
no_refusal kind before ending sound s (inr p) = stops_once ending (ending_at kind 0) 0 before.unread s (fault_stops kind 0 before.unread p.1)

no_message : (kind : FrameFault) (before : ReaderView) (m : Message) (rest : List ℕ) → before.fault ≡ None → Begins m before.unread rest → Why kind before → ⊥
no_message kind before m rest sound b (inl p) = let e : None ≡ Some kind = sym sound ∙ p in cc
no_message kind before m rest sound b (inr p) = stops_no_message (ending_at kind 0) 0 before.unread m rest (fault_stops kind 0 before.unread p.1) b

same_taken : (before : ReaderView) (one two : Message × ℕ) (first second : ReaderView) → Takes before one first → Takes before two second → (one ≡ two) × (first ≡ second)
same_taken before one two first second p q =
    let same = same_message one.0 two.0 before.unread first.unread second.unread p.begins q.begins in
    let place : one.1 ≡ two.1 = p.place ∙ sym q.place in
    let offset : first.offset ≡ second.offset = p.offset ∙ ap (λ m. before.offset + length (spelling m)) same.0 ∙ sym q.offset in
    let sound : first.fault ≡ second.fault = p.stays_sound ∙ sym q.stays_sound in
    ((λ i. (same.0 i, place i)), λ i. record { unread = same.1 i; offset = offset i; fault = sound i })

not_open : (kind : FrameFault) → open_end ≡ ending_at kind 0 → ⊥
not_open fault.BadFrame e = cc
not_open fault.TooLong e = cc

same_refused : (One : List ℕ → Type 0) (kind : FrameFault) (before : ReaderView) (p q : ℕ) (first second : ReaderView) → Refuses One kind before p first → Refuses One kind before q second
    → (p ≡ q) × (first ≡ second)
same_refused One kind before p q first second r s = (r.place ∙ sym s.place, r.keeps ∙ sym s.keeps)

pub one_answer : (before first second : ReaderView) (a b : Result (Option (Message × ℕ)) WireError) → Answers before a first → Answers before b second
    → a ≢ Err error.Memory → b ≢ Err error.Memory → (a ≡ b) × (first ≡ second)
one_answer before first second (Ok (Some one)) (Ok (Some two)) p q first_ran second_ran =
    let same = same_taken before one two first second p q in
    (ap (λ x. Ok (Some x)) same.0, same.1)
one_answer before first second (Ok (Some one)) (Ok None) p q first_ran second_ran = absurd (stops_no_message open_end 0 before.unread one.0 first.unread q.1 p.begins)
one_answer before first second (Ok (Some one)) (Err (error.BadFrame y)) p q first_ran second_ran = absurd (no_message fault.BadFrame before one.0 first.unread p.sound p.begins q.why)
one_answer before first second (Ok (Some one)) (Err (error.TooLong y)) p q first_ran second_ran = absurd (no_message fault.TooLong before one.0 first.unread p.sound p.begins q.why)
one_answer before first second (Ok (Some one)) (Err error.Memory) p q first_ran second_ran = absurd (second_ran refl)
one_answer before first second (Ok None) (Ok (Some two)) p q first_ran second_ran = absurd (stops_no_message open_end 0 before.unread two.0 second.unread p.1 q.begins)
one_answer before first second (Ok None) (Ok None) p q first_ran second_ran = (refl, p.2 ∙ sym q.2)
one_answer before first second (Ok None) (Err (error.BadFrame y)) p q first_ran second_ran = absurd (not_open fault.BadFrame (no_refusal fault.BadFrame before open_end p.0 p.1 q.why))
one_answer before first second (Ok None) (Err (error.TooLong y)) p q first_ran second_ran = absurd (not_open fault.TooLong (no_refusal fault.TooLong before open_end p.0 p.1 q.why))
one_answer before first second (Ok None) (Err error.Memory) p q first_ran second_ran = absurd (second_ran refl)
one_answer before first second (Err (error.BadFrame x)) (Ok (Some two)) p q first_ran second_ran = absurd (no_message fault.BadFrame before two.0 second.unread q.sound q.begins p.why)
one_answer before first second (Err (error.BadFrame x)) (Ok None) p q first_ran second_ran = absurd (not_open fault.BadFrame (no_refusal fault.BadFrame before open_end q.0 q.1 p.why))
one_answer before first second (Err (error.BadFrame x)) (Err (error.BadFrame y)) p q first_ran second_ran =
    let same = same_refused BeginsBad fault.BadFrame before x y first second p q in
    (ap (λ at. Err (error.BadFrame at)) same.0, same.1)
one_answer before first second (Err (error.BadFrame x)) (Err (error.TooLong y)) p q first_ran second_ran = let e : fault.BadFrame ≡ fault.TooLong = same_kind fault.BadFrame fault.TooLong before p.why q.why in absurd cc
one_answer before first second (Err (error.BadFrame x)) (Err error.Memory) p q first_ran second_ran = absurd (second_ran refl)
one_answer before first second (Err (error.TooLong x)) (Ok (Some two)) p q first_ran second_ran = absurd (no_message fault.TooLong before two.0 second.unread q.sound q.begins p.why)
one_answer before first second (Err (error.TooLong x)) (Ok None) p q first_ran second_ran = absurd (not_open fault.TooLong (no_refusal fault.TooLong before open_end q.0 q.1 p.why))
one_answer before first second (Err (error.TooLong x)) (Err (error.BadFrame y)) p q first_ran second_ran = let e : fault.TooLong ≡ fault.BadFrame = same_kind fault.TooLong fault.BadFrame before p.why q.why in absurd cc
one_answer before first second (Err (error.TooLong x)) (Err (error.TooLong y)) p q first_ran second_ran =
    let same = same_refused BeginsTooLong fault.TooLong before x y first second p q in
    (ap (λ at. Err (error.TooLong at)) same.0, same.1)
one_answer before first second (Err (error.TooLong x)) (Err error.Memory) p q first_ran second_ran = absurd (second_ran refl)
one_answer before first second (Err error.Memory) b p q first_ran second_ran = absurd (first_ran refl)

-- ---- any cutting

-- what begins bytes begins them with more behind them

pub begins_more : (m : Message) (bytes rest more : List ℕ) → Begins m bytes rest → Begins m (bytes ++ more) (rest ++ more)
begins_more m bytes rest more b = record { spelled = b.spelled; are = ap (λ x. x ++ more) b.are ∙ append_assoc (spelling m) rest more }

fault_more : (kind : FrameFault) (bytes more : List ℕ) → FaultBegins kind bytes → FaultBegins kind (bytes ++ more)
fault_more fault.BadFrame bytes more b =
    let frame = b.frame in
    record {
      frame = record { body = frame.body; rest = frame.rest ++ more; are = ap (λ x. x ++ more) frame.are ∙ append_assoc (four_bytes (length frame.body)) (frame.body ++ frame.rest) more ∙ ap (λ x. four_bytes (length frame.body) ++ x) (append_assoc frame.body frame.rest more); in_range = frame.in_range };
      no_message = b.no_message;
    }
fault_more fault.TooLong bytes more b = record { size = b.size; rest = b.rest ++ more; are = ap (λ x. x ++ more) b.are ∙ append_assoc (four_bytes b.size) b.rest more; fits = b.fits; over = b.over }

-- a stream that begins with a fault has no message
fault_stream : (kind : FrameFault) (at : ℕ) (bytes : List ℕ) (ms : List (Message × ℕ)) (ending : Ending) → FaultBegins kind bytes → IsStream at bytes ms ending → (ms ≡ []) × (ending ≡ ending_at kind at)
fault_stream kind at bytes [] ending h s = (refl, stops_once ending (ending_at kind at) at bytes s (fault_stops kind at bytes h))
fault_stream kind at bytes (m ∷ ms) ending h s = absurd (stops_no_message (ending_at kind at) at bytes m.0 s.0 (fault_stops kind at bytes h) s.1)

-- a kept fault begins what is unread
abbrev Sound : ReaderView → Type 0
Sound view = IfSome view.fault (λ kind. FaultBegins kind view.unread)

-- what is unread and what is still fed
abbrev Ahead : ReaderView → List ℕ → List (Message × ℕ) → Ending → Type 0
Ahead view more messages ending = IsStream view.offset (view.unread ++ more) messages ending

why_begins : (kind : FrameFault) (before : ReaderView) → Sound before → Why kind before → FaultBegins kind before.unread
why_begins kind before sound (inl p) = subst (λ (f : Option FrameFault). IfSome f (λ kind. FaultBegins kind before.unread)) p sound
why_begins kind before sound (inr p) = p.1

-- after one message
taken_ahead : (before after : ReaderView) (given m : Message × ℕ) (more : List ℕ) (ms : List (Message × ℕ)) (ending : Ending) → Takes before given after → Ahead before more (m ∷ ms) ending
    → (m ≡ given) × Ahead after more ms ending
taken_ahead before after given m more ms ending takes s =
    let same = same_message m.0 given.0 (before.unread ++ more) s.0 (after.unread ++ more) s.1 (begins_more given.0 before.unread after.unread more takes.begins) in
    let place : m.1 ≡ given.1 = s.2 ∙ sym takes.place in
    let offset : before.offset + length (spelling m.0) ≡ after.offset = ap (λ m. before.offset + length (spelling m)) same.0 ∙ sym takes.offset in
    ((λ i. (same.0 i, place i)), subst (λ at. IsStream at (after.unread ++ more) ms ending) offset (subst (λ rest. IsStream (before.offset + length (spelling m.0)) rest ms ending) same.1 s.3))

taken_no_end : (before after : ReaderView) (given : Message × ℕ) (more : List ℕ) (ending : Ending) → Takes before given after → Ahead before more [] ending → ⊥
taken_no_end before after given more ending takes s =
    stops_no_message ending before.offset (before.unread ++ more) given.0 (after.unread ++ more) s (begins_more given.0 before.unread after.unread more takes.begins)

follows_more : (after : ReaderView) (given m : Message × ℕ) (others ms : List (Message × ℕ)) (ending : Ending) → m ≡ given → Follows after others ms ending → Follows after (given ∷ others) (m ∷ ms) ending
follows_more after given m others ms ending same f = record { more = f.more; first = λ i. same i ∷ f.first i; left = f.left; at_end = f.at_end; at_fault = f.at_fault }

done : (view : ReaderView) (messages : List (Message × ℕ)) (ending : Ending) → Sound view → Ahead view [] messages ending → Follows view [] messages ending
done view messages ending sound s =
    let left : IsStream view.offset view.unread messages ending = subst (λ bytes. IsStream view.offset bytes messages ending) (append-nil view.unread) s in
    record {
      more = messages;
      first = refl;
      left = left;
      at_end = λ cut. streams_once messages [] ending open_end view.offset view.unread left cut;
      at_fault = go view.fault sound left;
    }
  where
    go : (f : Option FrameFault) → IfSome f (λ kind. FaultBegins kind view.unread) → IsStream view.offset view.unread messages ending → IfSome f (λ kind. (messages ≡ []) × (ending ≡ ending_at kind view.offset))
    go None h left = tt
    go (Some kind) h left = fault_stream kind view.offset view.unread messages ending h left

kept_sound : (kind : FrameFault) (view : ReaderView) → FaultBegins kind view.unread → Sound (record view { fault = Some kind })
kept_sound kind view h = h

pub follows : (steps : List Step) (before after : ReaderView) (messages : List (Message × ℕ)) (ending : Ending) → Sound before → Runs steps before after → Ahead before (all_fed steps) messages ending
    → Follows after (all_given steps) messages ending
follows [] before after messages ending sound run s =
    done after messages ending (subst Sound run sound) (subst (λ view. Ahead view [] messages ending) run s)
follows (fed piece ∷ steps) before after messages ending sound run s =
    let view = record before { unread = before.unread ++ piece } in
    let grown : Sound view = more_sound before.fault sound in
    let ahead : Ahead view (all_fed steps) messages ending = subst (λ bytes. IsStream before.offset bytes messages ending) (sym (append_assoc before.unread piece (all_fed steps))) s in
    follows steps run.0 after messages ending (subst Sound (sym run.1) grown) run.2 (subst (λ view. Ahead view (all_fed steps) messages ending) (sym run.1) ahead)
  where
    more_sound : (f : Option FrameFault) → IfSome f (λ kind. FaultBegins kind before.unread) → IfSome f (λ kind. FaultBegins kind (before.unread ++ piece))
    more_sound None h = tt
    more_sound (Some kind) h = fault_more kind before.unread piece h
follows (answered (Ok (Some given)) ∷ steps) before after [] ending sound run s = absurd (taken_no_end before run.0 given (all_fed steps) ending run.1 s)
follows (answered (Ok (Some given)) ∷ steps) before after (m ∷ ms) ending sound run s =
    let ahead = taken_ahead before run.0 given m (all_fed steps) ms ending run.1 s in
    let still : Sound run.0 = subst (λ (f : Option FrameFault). IfSome f (λ kind. FaultBegins kind run.0.unread)) (sym run.1.stays_sound) tt in
    follows_more after given m (all_given steps) ms ending ahead.0 (follows steps run.0 after ms ending still run.2 ahead.1)
follows (answered (Ok None) ∷ steps) before after messages ending sound run s =
    follows steps run.0 after messages ending (subst Sound (sym run.1.2) sound) run.2 (subst (λ view. Ahead view (all_fed steps) messages ending) (sym run.1.2) s)
follows (answered (Err (error.BadFrame place)) ∷ steps) before after messages ending sound run s =
    let keeps = kept_sound fault.BadFrame before (why_begins fault.BadFrame before sound run.1.why) in
    follows steps run.0 after messages ending (subst Sound (sym run.1.keeps) keeps) run.2 (subst (λ view. Ahead view (all_fed steps) messages ending) (sym run.1.keeps) s)
follows (answered (Err (error.TooLong place)) ∷ steps) before after messages ending sound run s =
    let keeps = kept_sound fault.TooLong before (why_begins fault.TooLong before sound run.1.why) in
    follows steps run.0 after messages ending (subst Sound (sym run.1.keeps) keeps) run.2 (subst (λ view. Ahead view (all_fed steps) messages ending) (sym run.1.keeps) s)
follows (answered (Err error.Memory) ∷ steps) before after messages ending sound run s =
    follows steps run.0 after messages ending (subst Sound (sym run.1.2) sound) run.2 (subst (λ view. Ahead view (all_fed steps) messages ending) (sym run.1.2) s)

pub any_cutting : (steps : List Step) (after : ReaderView) (messages : List (Message × ℕ)) (ending : Ending) → Runs steps fresh after → IsStream 0 (all_fed steps) messages ending
    → Follows after (all_given steps) messages ending
any_cutting steps after messages ending run s = follows steps fresh after messages ending tt run s
