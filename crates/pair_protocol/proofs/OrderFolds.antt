-- A monitor over a list of messages, and one more.
use Rattle.std.proofs.Common.{◌≡◌, ◌+◌, ℕ, List, [], ◌∷◌, ◌++◌, refl, sym, ◌∙◌, ap, subst, arith, Bool, true, false, Option, Some, None}
use Rattle.facts.proofs.Lists.{append_grouped, append_nil}
use Rattle.facts.proofs.Numbers.{zero_not_suc}
use Rattle.pair_protocol.specs.Sides.{Served, goes_on, ends, bad, Sides, AreFair, HasReply, of_bool, asks}
use Rattle.pair_protocol.specs.SlaveRun.{listed}
use Rattle.pair_protocol.specs.Serving.{Stop, still, ended, broken, All, all, after, serve_all}
use Rattle.pair_protocol.specs.Pair.{asked}
use Rattle.pair_protocol.specs.OrderLaws.{IsFirst}

-- one more message behind all
abbrev pub last_by : {M R E Q : Type 0} → List R → List ℕ → Served M R E Q → All M R E Q
last_by replies bytes (goes_on m o more) = all (replies ++ listed o) (bytes ++ more) (still m)
last_by replies bytes (ends more e) = all replies (bytes ++ more) (ended e)
last_by replies bytes (bad q) = all replies bytes (broken q)

abbrev pub last_in : {S M X R E Q : Type 0} → Sides S M X R E Q → X → List R → List ℕ → Stop M E Q → All M R E Q
last_in g x replies bytes (still m) = last_by replies bytes (g.serve m x)
last_in g x replies bytes (ended e) = all replies bytes (ended e)
last_in g x replies bytes (broken q) = all replies bytes (broken q)

abbrev pub last : {S M X R E Q : Type 0} → Sides S M X R E Q → X → All M R E Q → All M R E Q
last g x a = last_in g x a.replies a.bytes a.stop

alone : {M R E Q : Type 0} (r : Served M R E Q) → after r (λ m. all [] [] (still m)) ≡ last_by [] [] r
alone (goes_on m o bytes) = ap (λ rs. all rs (bytes ++ []) (still m)) (append_nil (listed o)) ∙ ap (λ bs. all (listed o) bs (still m)) (append_nil bytes)
alone (ends bytes e) = refl
alone (bad q) = refl

behind_by : {M R E Q : Type 0} (rs rs' : List R) (bs bs' : List ℕ) (r : Served M R E Q) →
    all (rs ++ (last_by rs' bs' r).replies) (bs ++ (last_by rs' bs' r).bytes) (last_by rs' bs' r).stop ≡ last_by (rs ++ rs') (bs ++ bs') r
behind_by rs rs' bs bs' (goes_on m o more) =
    ap (λ us. all us (bs ++ (bs' ++ more)) (still m)) (sym (append_grouped rs rs' (listed o))) ∙
    ap (λ us. all ((rs ++ rs') ++ listed o) us (still m)) (sym (append_grouped bs bs' more))
behind_by rs rs' bs bs' (ends more e) = ap (λ us. all (rs ++ rs') us (ended e)) (sym (append_grouped bs bs' more))
behind_by rs rs' bs bs' (bad q) = refl

behind_in : {S M X R E Q : Type 0} (g : Sides S M X R E Q) (x : X) (rs rs' : List R) (bs bs' : List ℕ) (stop : Stop M E Q) →
    all (rs ++ (last_in g x rs' bs' stop).replies) (bs ++ (last_in g x rs' bs' stop).bytes) (last_in g x rs' bs' stop).stop ≡ last_in g x (rs ++ rs') (bs ++ bs') stop
behind_in g x rs rs' bs bs' (still m) = behind_by rs rs' bs bs' (g.serve m x)
behind_in g x rs rs' bs bs' (ended e) = refl
behind_in g x rs rs' bs bs' (broken q) = refl

push_in : {S M X R E Q : Type 0} (g : Sides S M X R E Q) (xs : List X) (x : X) → ((m : M) → serve_all g m (xs ++ x ∷ []) ≡ last g x (serve_all g m xs)) → (r : Served M R E Q) →
    after r (λ m. serve_all g m (xs ++ x ∷ [])) ≡ last g x (after r (λ m. serve_all g m xs))
push_in g xs x more (goes_on m o bytes) =
    let a = serve_all g m xs in
    ap (λ b. all (listed o ++ b.replies) (bytes ++ b.bytes) b.stop) (more m) ∙ behind_in g x (listed o) a.replies bytes a.bytes a.stop
push_in g xs x more (ends bytes e) = refl
push_in g xs x more (bad q) = refl

pub push : {S M X R E Q : Type 0} (g : Sides S M X R E Q) (xs : List X) (x : X) (m : M) → serve_all g m (xs ++ x ∷ []) ≡ last g x (serve_all g m xs)
push g [] x m = alone (g.serve m x)
push g (y ∷ xs) x m = push_in g xs x (push g xs x) (g.serve m y)

-- ---- where nothing is asked for, no reply comes

no_reply : {M R E Q : Type 0} (r : Served M R E Q) (rest : M → All M R E Q) (wants : Bool) → HasReply wants r → of_bool wants ≡ 0 → ((m : M) → (rest m).replies ≡ []) → (after r rest).replies ≡ []
no_reply (goes_on m None bytes) rest wants h e more = more m
no_reply (goes_on m (Some r) bytes) rest true h e more = zero_not_suc 0 (sym e)
no_reply (goes_on m (Some r) bytes) rest false h e more = absurd h
no_reply (ends bytes e') rest wants h e more = refl
no_reply (bad q) rest wants h e more = refl

pub none_asked : {S M X R E Q : Type 0} (g : Sides S M X R E Q) → AreFair g → (xs : List X) (m : M) → asked g xs ≡ 0 → (serve_all g m xs).replies ≡ []
none_asked g fair [] m e = refl
none_asked g fair (x ∷ xs) m e =
    let one : of_bool (g.wants x) ≡ 0 = omega (arith, e) in
    let more : asked g xs ≡ 0 = omega (arith, e) in
    no_reply (g.serve m x) (λ m. serve_all g m xs) (g.wants x) (fair.serves m x) one (λ m. none_asked g fair xs m more)

pub asked_push : {S M X R E Q : Type 0} (g : Sides S M X R E Q) (xs : List X) (x : X) → asked g (xs ++ x ∷ []) ≡ asked g xs + of_bool (g.wants x)
asked_push g [] x = omega arith
asked_push g (y ∷ xs) x = let more : asked g (xs ++ x ∷ []) ≡ asked g xs + of_bool (g.wants x) = asked_push g xs x in omega (arith, more)

pub asked_more : {S M X R E Q : Type 0} (g : Sides S M X R E Q) (xs : List X) (o : Option X) → asked g xs ≡ 0 → asked g (xs ++ listed o) ≡ asks g.wants o
asked_more g xs None e = ap (asked g) (append_nil xs) ∙ e
asked_more g xs (Some x) e = let more : asked g (xs ++ x ∷ []) ≡ asked g xs + of_bool (g.wants x) = asked_push g xs x in omega (arith, more, e)

-- ---- a first part

abbrev continued_in : {M R E Q : Type 0} → List R → List ℕ → Stop M E Q → (M → All M R E Q) → All M R E Q
continued_in replies bytes (still m) rest = all (replies ++ (rest m).replies) (bytes ++ (rest m).bytes) (rest m).stop
continued_in replies bytes (ended e) rest = all replies bytes (ended e)
continued_in replies bytes (broken q) rest = all replies bytes (broken q)

abbrev continued : {M R E Q : Type 0} → All M R E Q → (M → All M R E Q) → All M R E Q
continued a rest = continued_in a.replies a.bytes a.stop rest

shifted : {M R E Q : Type 0} (rs rs' : List R) (bs bs' : List ℕ) (stop : Stop M E Q) (rest : M → All M R E Q) →
    all (rs ++ (continued_in rs' bs' stop rest).replies) (bs ++ (continued_in rs' bs' stop rest).bytes) (continued_in rs' bs' stop rest).stop ≡ continued_in (rs ++ rs') (bs ++ bs') stop rest
shifted rs rs' bs bs' (still m) rest =
    ap (λ us. all us (bs ++ (bs' ++ (rest m).bytes)) (rest m).stop) (sym (append_grouped rs rs' (rest m).replies)) ∙
    ap (λ us. all ((rs ++ rs') ++ (rest m).replies) us (rest m).stop) (sym (append_grouped bs bs' (rest m).bytes))
shifted rs rs' bs bs' (ended e) rest = refl
shifted rs rs' bs bs' (broken q) rest = refl

joined_in : {M R E Q : Type 0} (r : Served M R E Q) (long short rest : M → All M R E Q) → ((m : M) → long m ≡ continued (short m) rest) → after r long ≡ continued (after r short) rest
joined_in (goes_on m o bytes) long short rest h = ap (λ b. all (listed o ++ b.replies) (bytes ++ b.bytes) b.stop) (h m) ∙ shifted (listed o) (short m).replies bytes (short m).bytes (short m).stop rest
joined_in (ends bytes e) long short rest h = refl
joined_in (bad q) long short rest h = refl

pub joined : {S M X R E Q : Type 0} (g : Sides S M X R E Q) (xs ys : List X) (m : M) → serve_all g m (xs ++ ys) ≡ continued (serve_all g m xs) (λ m. serve_all g m ys)
joined g [] ys m = refl
joined g (x ∷ xs) ys m = joined_in (g.serve m x) (λ m. serve_all g m (xs ++ ys)) (λ m. serve_all g m xs) (λ m. serve_all g m ys) (joined g xs ys)

firsts_in : {M R E Q : Type 0} (rs : List R) (bs : List ℕ) (stop : Stop M E Q) (rest : M → All M R E Q) → IsFirst bs (continued_in rs bs stop rest).bytes × IsFirst rs (continued_in rs bs stop rest).replies
firsts_in rs bs (still m) rest = (((rest m).bytes, refl), ((rest m).replies, refl))
firsts_in rs bs (ended e) rest = (([], sym (append_nil bs)), ([], sym (append_nil rs)))
firsts_in rs bs (broken q) rest = (([], sym (append_nil bs)), ([], sym (append_nil rs)))

pub first_parts : {S M X R E Q : Type 0} (g : Sides S M X R E Q) (m : M) (xs ys : List X) →
    IsFirst (serve_all g m xs).bytes (serve_all g m (xs ++ ys)).bytes × IsFirst (serve_all g m xs).replies (serve_all g m (xs ++ ys)).replies
first_parts g m xs ys =
    subst (λ (a : All _ _ _ _). IsFirst (serve_all g m xs).bytes a.bytes × IsFirst (serve_all g m xs).replies a.replies) (sym (joined g xs ys m))
    (firsts_in (serve_all g m xs).replies (serve_all g m xs).bytes (serve_all g m xs).stop (λ m. serve_all g m ys))
