-- Laws of lists that lie in one list.
use Rattle.std.proofs.Common.{◌≡◌, ◌∙◌, ◌+◌, ◌-◌, ◌<◌, ◌≤◌, ℕ, suc, zero, List, [], ◌∷◌, ◌++◌, length, take, drop, set, get_or, slice_range, refl, sym, ap, subst, arith, length-append, length-drop, length-set}
use Rattle.std.proofs.Math.Seq.{take-set-lt}
use Rattle.std.proofs.lemmas.Slice.{between_is}
use Rattle.std.proofs.lemmas.List.{length-take-le, drop_at, take-append-le, drop-append-le, take_all, take-take, drop-set-add, drop-set-lt, take-set-le}
use Rattle.block_memory.specs.Pieces.{AreStarts, first_start, pieces}

-- a part of a list is in front of what is added
pub slice_range-append : {X : Type 0} (xs ys : List X) (a b : ℕ) → a ≤ b → b ≤ length xs → slice_range (xs ++ ys) a b ≡ slice_range xs a b
slice_range-append xs ys a b ab bn =
    ap (take (b - a)) (drop-append-le a xs ys (omega arith)) ∙ take-append-le (b - a) (drop a xs) ys (omega (arith, length-drop a xs))

pub slice_range-end : {X : Type 0} (xs ys : List X) → slice_range (xs ++ ys) (length xs) (length (xs ++ ys)) ≡ ys
slice_range-end xs ys = rw (drop_at xs ys (length xs) refl) (take_all _ ys (omega (arith, length-append xs ys)))

pub length-pieces : {X : Type 0} (starts : List ℕ) (xs : List X) → length (pieces starts xs) ≡ length starts
length-pieces [] xs = refl
length-pieces (s ∷ starts) xs = ap suc (length-pieces starts xs)

pub AreStarts-le : (starts : List ℕ) (low end : ℕ) → AreStarts low starts end → low ≤ end
AreStarts-le [] low end h = h
AreStarts-le (s ∷ starts) low end h = let rest = AreStarts-le starts s end h.1 in omega (arith, h.0, rest)

pub first_start-le : (starts : List ℕ) (low end : ℕ) → AreStarts low starts end → (low ≤ first_start starts end) × (first_start starts end ≤ end)
first_start-le [] low end h = (h, omega arith)
first_start-le (s ∷ starts) low end h = (h.0, AreStarts-le starts s end h.1)

pub AreStarts-more : (starts : List ℕ) (low end more : ℕ) → end ≤ more → AreStarts low starts end → AreStarts low starts more
AreStarts-more [] low end more le h = omega arith
AreStarts-more (s ∷ starts) low end more le h = (h.0, AreStarts-more starts s end more le h.1)

-- one more piece starts at the end
pub AreStarts-push : (starts : List ℕ) (low end more : ℕ) → end ≤ more → AreStarts low starts end → AreStarts low (starts ++ end ∷ []) more
AreStarts-push [] low end more le h = (h, le)
AreStarts-push (s ∷ starts) low end more le h = (h.0, AreStarts-push starts s end more le h.1)

first_start-is : (starts : List ℕ) (end : ℕ) → first_start starts end ≡ get_or starts 0 end
first_start-is [] end = refl
first_start-is (s ∷ starts) end = refl

first_start-append : (starts : List ℕ) (end more : ℕ) → first_start (starts ++ end ∷ []) more ≡ first_start starts end
first_start-append [] end more = refl
first_start-append (s ∷ starts) end more = refl

pub pieces-push : {X : Type 0} (starts : List ℕ) (low : ℕ) (xs ys : List X) → AreStarts low starts (length xs) → pieces (starts ++ length xs ∷ []) (xs ++ ys) ≡ pieces starts xs ++ ys ∷ []
pieces-push [] low xs ys h = ap (λ p. p ∷ []) (slice_range-end xs ys)
pieces-push (s ∷ starts) low xs ys h =
    let first = first_start-le starts s (length xs) h.1 in
    ap (λ n. slice_range (xs ++ ys) s n ∷ pieces (starts ++ length xs ∷ []) (xs ++ ys)) (first_start-append starts (length xs) (length (xs ++ ys)))
    ∙ ap (λ p. p ∷ pieces (starts ++ length xs ∷ []) (xs ++ ys)) (slice_range-append xs ys s (first_start starts (length xs)) first.0 first.1)
    ∙ ap (λ ps. slice_range xs s (first_start starts (length xs)) ∷ ps) (pieces-push starts s xs ys h.1)

-- where piece k starts, or the end
pub AreStarts-take : (starts : List ℕ) (low end k : ℕ) → AreStarts low starts end → AreStarts low (take k starts) (get_or starts k end)
AreStarts-take [] low end zero h = h
AreStarts-take [] low end (suc k) h = h
AreStarts-take (s ∷ starts) low end zero h = h.0
AreStarts-take (s ∷ starts) low end (suc k) h = (h.0, AreStarts-take starts s end k h.1)

-- the first of the starts that are kept
first_start-take : (starts : List ℕ) (end k : ℕ) → first_start (take k starts) (get_or starts k end) ≡ first_start starts end
first_start-take [] end zero = refl
first_start-take [] end (suc k) = refl
first_start-take (s ∷ starts) end zero = refl
first_start-take (s ∷ starts) end (suc k) = refl

pub start-le : (starts : List ℕ) (low end k : ℕ) → AreStarts low starts end → (low ≤ get_or starts k end) × (get_or starts k end ≤ end)
start-le [] low end k h = (h, omega arith)
start-le (s ∷ starts) low end zero h = (h.0, AreStarts-le starts s end h.1)
start-le (s ∷ starts) low end (suc k) h = let rest = start-le starts s end k h.1 in (omega (arith, h.0, rest.0), rest.1)

pub start-next : (starts : List ℕ) (low end k : ℕ) → AreStarts low starts end → get_or starts k end ≤ get_or starts (suc k) end
start-next [] low end k h = omega arith
start-next (s ∷ starts) low end zero h = (start-le starts s end zero h.1).0
start-next (s ∷ starts) low end (suc k) h = start-next starts s end k h.1

first_start-first : (starts : List ℕ) (low end k : ℕ) → AreStarts low starts end → first_start starts end ≤ get_or starts k end
first_start-first [] low end k h = omega arith
first_start-first (s ∷ starts) low end zero h = omega arith
first_start-first (s ∷ starts) low end (suc k) h = (start-le starts s end k h.1).0

-- a part of the front of a list
slice_range-take : {X : Type 0} (xs : List X) (a b e : ℕ) → b ≤ e → slice_range (take e xs) a b ≡ slice_range xs a b
slice_range-take xs a b e le = between_is (take e xs) a b ∙ ap (drop a) (take-take b e xs le) ∙ sym (between_is xs a b)

-- the first k pieces lie in front of where piece k starts
pub pieces-take : {X : Type 0} (starts : List ℕ) (low : ℕ) (xs : List X) (k : ℕ) → AreStarts low starts (length xs) → pieces (take k starts) (take (get_or starts k (length xs)) xs) ≡ take k (pieces starts xs)
pieces-take [] low xs zero h = refl
pieces-take [] low xs (suc k) h = refl
pieces-take (s ∷ starts) low xs zero h = refl
pieces-take (s ∷ starts) low xs (suc k) h =
    let end = get_or starts k (length xs) in
    let within : end ≤ length xs = (start-le starts s (length xs) k h.1).1 in
    let head : slice_range (take end xs) s (first_start (take k starts) (length (take end xs))) ≡ slice_range xs s (first_start starts (length xs)) =
    ap (λ n. slice_range (take end xs) s (first_start (take k starts) n)) (length-take-le end xs within)
    ∙ ap (slice_range (take end xs) s) (first_start-take starts (length xs) k)
    ∙ slice_range-take xs s (first_start starts (length xs)) end (first_start-first starts s (length xs) k h.1)
    in
    ap (λ p. p ∷ pieces (take k starts) (take end xs)) head ∙ ap (λ ps. slice_range xs s (first_start starts (length xs)) ∷ ps) (pieces-take starts s xs k h.1)

-- piece k goes from where it starts to where the next one does
pub pieces_at : {X : Type 0} (starts : List ℕ) (xs : List X) (k : ℕ) → k < length starts → get_or (pieces starts xs) k [] ≡ slice_range xs (get_or starts k (length xs)) (get_or starts (suc k) (length xs))
pieces_at [] xs k lt = absurd (omega arith)
pieces_at (s ∷ []) xs zero lt = refl
pieces_at (s ∷ t ∷ starts) xs zero lt = refl
pieces_at (s ∷ starts) xs (suc k) lt = pieces_at starts xs k (omega arith)

-- a write in front of the pieces
pieces-set_front : {X : Type 0} (starts : List ℕ) (low : ℕ) (xs : List X) (j : ℕ) (v : X) → AreStarts low starts (length xs) → j < first_start starts (length xs) → pieces starts (set xs j v) ≡ pieces starts xs
pieces-set_front [] low xs j v h lt = refl
pieces-set_front (s ∷ starts) low xs j v h lt =
    let next = first_start-le starts s (length xs) h.1 in
    rw (length-set, drop-set-lt s xs j v lt) (ap (λ ps. slice_range xs s (first_start starts (length xs)) ∷ ps) (pieces-set_front starts s xs j v h.1 (omega (arith, next.0))))

-- a write in a part of a list, and one behind it
slice_range-set_in : {X : Type 0} (xs : List X) (a b i : ℕ) (v : X) → a + i < b → slice_range (set xs (a + i) v) a b ≡ set (slice_range xs a b) i v
slice_range-set_in xs a b i v lt = ap (take (b - a)) (drop-set-add a xs i v) ∙ take-set-lt (b - a) (drop a xs) i v (omega arith)

slice_range-set_behind : {X : Type 0} (xs : List X) (a b j : ℕ) (v : X) → b ≤ j → slice_range (set xs j v) a b ≡ slice_range xs a b
slice_range-set_behind xs a b j v le = between_is (set xs j v) a b ∙ ap (drop a) (take-set-le b xs j v le) ∙ sym (between_is xs a b)

-- a write in piece k
pub pieces-set : {X : Type 0} (starts : List ℕ) (low : ℕ) (xs : List X) (k i : ℕ) (v : X) → AreStarts low starts (length xs) → k < length starts → get_or starts k (length xs) + i < get_or starts (suc k) (length xs) → pieces starts (set xs (get_or starts k (length xs) + i) v) ≡ set (pieces starts xs) k (set (get_or (pieces starts xs) k []) i v)
pieces-set [] low xs k i v h lt within = absurd (omega arith)
pieces-set (s ∷ starts) low xs zero i v h lt within =
    let before : s + i < first_start starts (length xs) = subst (λ n. s + i < n) (sym (first_start-is starts (length xs))) within in
    rw length-set (ap (λ p. p ∷ pieces starts (set xs (s + i) v)) (slice_range-set_in xs s (first_start starts (length xs)) i v before) ∙ ap (λ ps. set (slice_range xs s (first_start starts (length xs))) i v ∷ ps) (pieces-set_front starts s xs (s + i) v h.1 before))
pieces-set (s ∷ starts) low xs (suc k) i v h lt within =
    let at = get_or starts k (length xs) + i in
    let first = first_start-first starts s (length xs) k h.1 in
    let head : slice_range (set xs at v) s (first_start starts (length xs)) ≡ slice_range xs s (first_start starts (length xs)) = slice_range-set_behind xs s _ at v (omega (arith, first)) in
    rw length-set (ap (λ p. p ∷ pieces starts (set xs at v)) head ∙ ap (λ ps. slice_range xs s (first_start starts (length xs)) ∷ ps) (pieces-set starts s xs k i v h.1 (omega arith) within))
