-- What stands at the front of bytes that begin the spellings of a list of messages.
use Rattle.std.proofs.Common.{◌≡◌, ◌∙◌, ℕ, List, [], ◌∷◌, ◌++◌, length, refl, sym, ap, subst, arith, inl, append_assoc}
use Rattle.std.specs.List.{flat_map}
use Rattle.wire.specs.declared.message.Message.{Message}
use Rattle.wire.specs.Frames.{IsUnfinished, BeginsBad, BeginsTooLong, Begins, open_end, bad_frame_at, too_long_at}
use Rattle.wire.specs.Spelling.{four_bytes, spelling}
use Rattle.wire.proofs.StreamLaws.{same_message, stops_no_message, frame_not_unfinished, too_long_not_unfinished}
use Rattle.wire.proofs.RunLaws.{begins_more}
use Rattle.slave_soundness_law.specs.MessagesLaws.{AllAreSpelled}

-- the spellings, one behind the other
abbrev pub spellings : List Message → List ℕ
spellings xs = flat_map spelling xs

-- what is left of these bytes, where they begin the spellings of these messages
abbrev pub AreFront : List ℕ → List Message → Type 0
AreFront bytes xs = (more : List ℕ) × (spellings xs ≡ bytes ++ more)

pub no_bytes : IsUnfinished []
no_bytes = inl (omega arith)

none_left : (bytes more : List ℕ) → [] ≡ bytes ++ more → bytes ≡ []
none_left [] more e = refl
none_left (b ∷ bytes) more e = cc

first_begins : (x : Message) (xs : List Message) → AllAreSpelled (x ∷ xs) → Begins x (spellings (x ∷ xs)) (spellings xs)
first_begins x xs spelled = record { spelled = record { fits = spelled.0.1.fits; keeps = spelled.0.1.keeps; are = refl }; are = refl }

pub all_behind : (xs ys : List Message) → AllAreSpelled (xs ++ ys) → AllAreSpelled ys
all_behind [] ys spelled = spelled
all_behind (x ∷ xs) ys spelled = all_behind xs ys spelled.1

-- ---- a message is the next one

pub next_is : (x : Message) (bytes left : List ℕ) (xs : List Message) → AllAreSpelled xs → AreFront bytes xs → Begins x bytes left →
    (others : List Message) × (xs ≡ x ∷ others) × AreFront left others
next_is x bytes left [] spelled front b = absurd (stops_no_message open_end 0 [] x left no_bytes (subst (λ l. Begins x l left) (none_left bytes front.0 front.1) b))
next_is x bytes left (y ∷ ys) spelled front b =
    let longer : Begins x (spellings (y ∷ ys)) (left ++ front.0) = subst (λ l. Begins x l (left ++ front.0)) (sym front.1) (begins_more x bytes left front.0 b) in
    let same = same_message y x (spellings (y ∷ ys)) (spellings ys) (left ++ front.0) (first_begins y ys spelled) longer in
    (ys, ap (λ z. z ∷ ys) same.0, (front.0, same.1))

-- ---- no frame is a bad one

pub longer_bad : (bytes more : List ℕ) → BeginsBad bytes → BeginsBad (bytes ++ more)
longer_bad bytes more bad =
    let body : List ℕ = bad.frame.body in
    let front : List ℕ = four_bytes (length body) in
    record {
      frame = record {
        body = body;
        rest = bad.frame.rest ++ more;
        are = ap (λ l. l ++ more) bad.frame.are ∙ append_assoc front (body ++ bad.frame.rest) more ∙ ap (λ l. front ++ l) (append_assoc body bad.frame.rest more);
        in_range = bad.frame.in_range;
      };
      no_message = bad.no_message;
    }

pub longer_long : (bytes more : List ℕ) → BeginsTooLong bytes → BeginsTooLong (bytes ++ more)
longer_long bytes more long = record { size = long.size; rest = long.rest ++ more; are = ap (λ l. l ++ more) long.are ∙ append_assoc (four_bytes long.size) long.rest more; fits = long.fits; over = long.over }

pub never_bad : (bytes : List ℕ) (xs : List Message) → AllAreSpelled xs → AreFront bytes xs → BeginsBad bytes → ⊥
never_bad bytes [] spelled front bad = frame_not_unfinished [] (subst BeginsBad (none_left bytes front.0 front.1) bad).frame no_bytes
never_bad bytes (y ∷ ys) spelled front bad =
    stops_no_message (bad_frame_at 0) 0 (spellings (y ∷ ys)) y (spellings ys) (refl, subst BeginsBad (sym front.1) (longer_bad bytes front.0 bad)) (first_begins y ys spelled)

pub never_long : (bytes : List ℕ) (xs : List Message) → AllAreSpelled xs → AreFront bytes xs → BeginsTooLong bytes → ⊥
never_long bytes [] spelled front long = too_long_not_unfinished [] (subst BeginsTooLong (none_left bytes front.0 front.1) long) no_bytes
never_long bytes (y ∷ ys) spelled front long =
    stops_no_message (too_long_at 0) 0 (spellings (y ∷ ys)) y (spellings ys) (refl, subst BeginsTooLong (sym front.1) (longer_long bytes front.0 long)) (first_begins y ys spelled)

-- ---- the end

-- where all is given and there is no whole frame, there was nothing to say
pub all_said : (bytes : List ℕ) (xs : List Message) → AllAreSpelled xs → spellings xs ≡ bytes → IsUnfinished bytes → xs ≡ []
all_said bytes [] spelled all cut = refl
all_said bytes (y ∷ ys) spelled all cut = absurd (stops_no_message open_end 0 bytes y (spellings ys) cut (subst (λ l. Begins y l (spellings ys)) all (first_begins y ys spelled)))
