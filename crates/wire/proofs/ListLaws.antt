-- Lists that are read are the lists that were written, and what was written is read again.
use Rattle.std.proofs.Common.{◌≡◌, ℕ, zero, suc, ◌^◌, ◌<◌, ◌≤◌, cond, leb, ◌&&◌, List, [], ◌∷◌, ◌++◌, length, Some, None, refl, sym, ap, subst, ◌∙◌, append_assoc, arith}
use Rattle.std.specs.List.{flat_map, AllByRecursion}
use Rattle.std.specs.Int.{w32}
use Rattle.std.proofs.lemmas.Bool.{leb-true, le-leb}
use Rattle.pt_base.specs.declared.int_type.IntType.{IntType}
use Rattle.pt_base.proofs.Booleans.{and_parts}
use Rattle.wire.specs.declared.cell.WireCell.{WireCell}
use Rattle.wire.specs.declared.message.CallBody.{CallBody}
use Rattle.wire.specs.declared.message.ReplyBody.{ReplyBody}
use Rattle.wire.specs.Spelling.{four_bytes, cell_bytes, argument_bytes, typed_cell_bytes, block_bytes, call_bytes, result_bytes, reply_bytes}
use Rattle.wire.specs.Limits.{FitsBlock, FitsCall, FitsReply, IsBlock, IsCall, most_in_a_call, most_in_a_block}
use Rattle.wire.specs.Reading.{◌>>=◌, Field, byte_at, number_at, cell_at, argument_at, typed_cell_at, result_at, many, few, block_at, call_at, reply_at}
use Rattle.wire.proofs.Bytes.{AreBytes}
use Rattle.wire.proofs.Fields.{bind_some, guard_some, some_is, Takes, Takes-then, IsField, byte_field, field32, cell_field, argument_field, typed_cell_field, result_field}

-- ---- so many

pub many_takes : {A : Type 0} {Fits : A → Type 0} {spelled : A → List ℕ} {read : List ℕ → Field A} → IsField Fits spelled read
    → (n : ℕ) (bytes : List ℕ) (found : List A × List ℕ) → AreBytes bytes → many read n bytes ≡ Some found
    → Takes bytes (flat_map spelled found.0) found.1 × (length found.0 ≡ n) × AllByRecursion Fits found.0
unfolding many
many_takes {A} {Fits} {spelled} {read} field zero bytes found fits e =
    subst (λ (x : List A × List ℕ). Takes bytes (flat_map spelled x.0) x.1 × (length x.0 ≡ 0) × AllByRecursion Fits x.0) (some_is ([], bytes) found e) (record { parts = refl; rest_fits = fits }, refl, tt)
many_takes {A} {Fits} {spelled} {read} field (suc n) bytes found fits e =
    let a = bind_some (read bytes) (λ first. many read n first.1 >>= λ others. Some (first.0 ∷ others.0, others.1)) found e in
    let b = bind_some (many read n a.0.1) (λ others. Some (a.0.0 ∷ others.0, others.1)) found a.2 in
    let first = field.takes bytes a.0 fits a.1 in
    let others = many_takes field n a.0.1 b.0 first.0.rest_fits b.1 in
    let both = Takes-then bytes (spelled a.0.0) a.0.1 (flat_map spelled b.0.0) b.0.1 first.0 others.0 in
    let made : List A × List ℕ = (a.0.0 ∷ b.0.0, b.0.1) in
    subst (λ (x : List A × List ℕ). Takes bytes (flat_map spelled x.0) x.1 × (length x.0 ≡ suc n) × AllByRecursion Fits x.0) (some_is made found b.2) (both, ap suc others.1, (first.1, others.2))

pub many_again : {A : Type 0} {Fits : A → Type 0} {spelled : A → List ℕ} {read : List ℕ → Field A} → IsField Fits spelled read
    → (xs : List A) (rest : List ℕ) → AllByRecursion Fits xs → many read (length xs) (flat_map spelled xs ++ rest) ≡ Some (xs, rest)
unfolding many
many_again field [] rest fits = refl
many_again {A} {Fits} {spelled} {read} field (x ∷ xs) rest fits =
    let regrouped : flat_map spelled (x ∷ xs) ++ rest ≡ spelled x ++ (flat_map spelled xs ++ rest) = append_assoc (spelled x) (flat_map spelled xs) rest in
    ap (many read (suc (length xs))) regrouped ∙ rw (field.again x (flat_map spelled xs ++ rest) fits.0, many_again field xs rest fits.1) refl

-- ---- few

pub few_takes : {A : Type 0} {Fits : A → Type 0} {spelled : A → List ℕ} {read : List ℕ → Field A} → IsField Fits spelled read
    → (bytes : List ℕ) (found : List A × List ℕ) → AreBytes bytes → few read bytes ≡ Some found
    → Takes bytes (length found.0 ∷ flat_map spelled found.0) found.1 × (length found.0 ≤ most_in_a_call) × AllByRecursion Fits found.0
unfolding few
few_takes {A} {Fits} {spelled} {read} field bytes found fits e =
    let a = bind_some (byte_at bytes) (λ n. cond (leb n.0 most_in_a_call) (many read n.0 n.1) None) found e in
    let g = guard_some (leb a.0.0 most_in_a_call) (many read a.0.0 a.0.1) found a.2 in
    let count = byte_field.takes bytes a.0 fits a.1 in
    let items = many_takes field a.0.0 a.0.1 found count.0.rest_fits g.1 in
    let both = Takes-then bytes (a.0.0 ∷ []) a.0.1 (flat_map spelled found.0) found.1 count.0 items.0 in
    let le : a.0.0 ≤ most_in_a_call = leb-true _ _ g.0 in
    (subst (λ n. Takes bytes (n ∷ flat_map spelled found.0) found.1) (sym items.1) both, subst (λ n. n ≤ most_in_a_call) (sym items.1) le, items.2)

pub few_again : {A : Type 0} {Fits : A → Type 0} {spelled : A → List ℕ} {read : List ℕ → Field A} → IsField Fits spelled read
    → (xs : List A) (rest : List ℕ) → length xs ≤ most_in_a_call → AllByRecursion Fits xs → few read ((length xs ∷ flat_map spelled xs) ++ rest) ≡ Some (xs, rest)
unfolding few byte_at
few_again field xs rest le fits = rw (le-leb _ _ le) (many_again field xs rest fits)

-- ---- blocks

abbrev pub IsGoodBlock : List (IntType × WireCell) → Type 0
IsGoodBlock cells = IsBlock cells × FitsBlock cells

block_takes : (bytes : List ℕ) (found : List (IntType × WireCell) × List ℕ) → AreBytes bytes → block_at bytes ≡ Some found → Takes bytes (block_bytes found.0) found.1 × IsGoodBlock found.0
unfolding block_at
block_takes bytes found fits e =
    let a = bind_some (number_at w32 bytes) (λ n. cond (leb 1 n.0 && leb n.0 most_in_a_block) (many typed_cell_at n.0 n.1) None) found e in
    let g = guard_some (leb 1 a.0.0 && leb a.0.0 most_in_a_block) (many typed_cell_at a.0.0 a.0.1) found a.2 in
    let within = and_parts (leb 1 a.0.0) (leb a.0.0 most_in_a_block) g.0 in
    let count = field32.takes bytes a.0 fits a.1 in
    let items = many_takes typed_cell_field a.0.0 a.0.1 found count.0.rest_fits g.1 in
    let both = Takes-then bytes (four_bytes a.0.0) a.0.1 (flat_map typed_cell_bytes found.0) found.1 count.0 items.0 in
    let low : 1 ≤ a.0.0 = leb-true _ _ within.0 in
    let high : a.0.0 ≤ most_in_a_block = leb-true _ _ within.1 in
    (subst (λ n. Takes bytes (four_bytes n ++ flat_map typed_cell_bytes found.0) found.1) (sym items.1) both, (subst (λ n. (1 ≤ n) × (n ≤ most_in_a_block)) (sym items.1) (low, high), items.2))

block_again : (cells : List (IntType × WireCell)) (rest : List ℕ) → IsGoodBlock cells → block_at (block_bytes cells ++ rest) ≡ Some (cells, rest)
unfolding block_at
block_again cells rest good =
    let regrouped : block_bytes cells ++ rest ≡ four_bytes (length cells) ++ (flat_map typed_cell_bytes cells ++ rest) = append_assoc (four_bytes (length cells)) (flat_map typed_cell_bytes cells) rest in
    let fits : length cells < 2 ^ 32 = omega (arith, good.0.1) in
    ap block_at regrouped ∙ rw (field32.again (length cells) (flat_map typed_cell_bytes cells ++ rest) fits, le-leb _ _ good.0.0, le-leb _ _ good.0.1) (many_again typed_cell_field cells rest good.1)

pub block_field : IsField IsGoodBlock block_bytes block_at
block_field = record { takes = block_takes; again = block_again }

blocks_apart : (blocks : List (List (IntType × WireCell))) → AllByRecursion IsGoodBlock blocks → AllByRecursion IsBlock blocks × AllByRecursion FitsBlock blocks
blocks_apart [] h = (tt, tt)
blocks_apart (block ∷ blocks) h =
    let rest = blocks_apart blocks h.1 in
    ((h.0.0, rest.0), (h.0.1, rest.1))

blocks_joined : (blocks : List (List (IntType × WireCell))) → AllByRecursion IsBlock blocks → AllByRecursion FitsBlock blocks → AllByRecursion IsGoodBlock blocks
blocks_joined [] h k = tt
blocks_joined (block ∷ blocks) h k = ((h.0, k.0), blocks_joined blocks h.1 k.1)

-- ---- what a call passes

call_takes : (bytes : List ℕ) (found : CallBody × List ℕ) → AreBytes bytes → call_at bytes ≡ Some found → Takes bytes (call_bytes found.0) found.1 × (FitsCall found.0 × IsCall found.0)
unfolding call_at
call_takes bytes found fits e =
    let a = bind_some (few argument_at bytes) (λ args. few block_at args.1 >>= λ blocks. Some (record { args = args.0; blocks = blocks.0 }, blocks.1)) found e in
    let b = bind_some (few block_at a.0.1) (λ blocks. Some (record { args = a.0.0; blocks = blocks.0 }, blocks.1)) found a.2 in
    let t0 = few_takes argument_field bytes a.0 fits a.1 in
    let t1 = few_takes block_field a.0.1 b.0 t0.0.rest_fits b.1 in
    let both = Takes-then bytes (length a.0.0 ∷ flat_map argument_bytes a.0.0) a.0.1 (length b.0.0 ∷ flat_map block_bytes b.0.0) b.0.1 t0.0 t1.0 in
    let apart = blocks_apart b.0.0 t1.2 in
    let made : CallBody × List ℕ = (record { args = a.0.0; blocks = b.0.0 }, b.0.1) in
    subst (λ (x : CallBody × List ℕ). Takes bytes (call_bytes x.0) x.1 × (FitsCall x.0 × IsCall x.0)) (some_is made found b.2)
    (both, (record { args = t0.2; blocks = apart.1 }, record { args = t0.1; blocks = t1.1; each = apart.0 }))

call_again : (body : CallBody) (rest : List ℕ) → FitsCall body × IsCall body → call_at (call_bytes body ++ rest) ≡ Some (body, rest)
unfolding call_at
call_again body rest good =
    let args = length body.args ∷ flat_map argument_bytes body.args in
    let blocks = length body.blocks ∷ flat_map block_bytes body.blocks in
    let regrouped : call_bytes body ++ rest ≡ args ++ (blocks ++ rest) = append_assoc args blocks rest in
    ap call_at regrouped
    ∙ rw (few_again argument_field body.args (blocks ++ rest) good.1.args good.0.args, few_again block_field body.blocks rest good.1.blocks (blocks_joined body.blocks good.1.each good.0.blocks)) refl

pub call_field : IsField (λ body. FitsCall body × IsCall body) call_bytes call_at
call_field = record { takes = call_takes; again = call_again }

-- ---- what a call gives back

abbrev pub IsGoodReply : ReplyBody → Type 0
IsGoodReply body = FitsReply body × (length body.cells < 2 ^ 32)

reply_takes : (bytes : List ℕ) (found : ReplyBody × List ℕ) → AreBytes bytes → reply_at bytes ≡ Some found → Takes bytes (reply_bytes found.0) found.1 × IsGoodReply found.0
unfolding reply_at
reply_takes bytes found fits e =
    let a = bind_some (result_at bytes) (λ r. number_at w32 r.1 >>= λ n. many cell_at n.0 n.1 >>= λ cells. Some (record { result = r.0; cells = cells.0 }, cells.1)) found e in
    let b = bind_some (number_at w32 a.0.1) (λ n. many cell_at n.0 n.1 >>= λ cells. Some (record { result = a.0.0; cells = cells.0 }, cells.1)) found a.2 in
    let d = bind_some (many cell_at b.0.0 b.0.1) (λ cells. Some (record { result = a.0.0; cells = cells.0 }, cells.1)) found b.2 in
    let t0 = result_field.takes bytes a.0 fits a.1 in
    let t1 = field32.takes a.0.1 b.0 t0.0.rest_fits b.1 in
    let t2 = many_takes cell_field b.0.0 b.0.1 d.0 t1.0.rest_fits d.1 in
    let e12 = Takes-then a.0.1 (four_bytes b.0.0) b.0.1 (flat_map cell_bytes d.0.0) d.0.1 t1.0 t2.0 in
    let counted = subst (λ n. Takes a.0.1 (four_bytes n ++ flat_map cell_bytes d.0.0) d.0.1) (sym t2.1) e12 in
    let both = Takes-then bytes (result_bytes a.0.0) a.0.1 (four_bytes (length d.0.0) ++ flat_map cell_bytes d.0.0) d.0.1 t0.0 counted in
    let made : ReplyBody × List ℕ = (record { result = a.0.0; cells = d.0.0 }, d.0.1) in
    subst (λ (x : ReplyBody × List ℕ). Takes bytes (reply_bytes x.0) x.1 × IsGoodReply x.0) (some_is made found d.2)
    (both, (record { result = t0.1; cells = t2.2 }, subst (λ n. n < 2 ^ 32) (sym t2.1) t1.1))

reply_again : (body : ReplyBody) (rest : List ℕ) → IsGoodReply body → reply_at (reply_bytes body ++ rest) ≡ Some (body, rest)
unfolding reply_at
reply_again body rest good =
    let cells = flat_map cell_bytes body.cells in
    let regrouped : reply_bytes body ++ rest ≡ result_bytes body.result ++ (four_bytes (length body.cells) ++ (cells ++ rest)) =
    append_assoc (result_bytes body.result) (four_bytes (length body.cells) ++ cells) rest ∙ ap (λ x. result_bytes body.result ++ x) (append_assoc (four_bytes (length body.cells)) cells rest) in
    ap reply_at regrouped
    ∙ rw (result_field.again body.result (four_bytes (length body.cells) ++ (cells ++ rest)) good.0.result, field32.again (length body.cells) (cells ++ rest) good.1, many_again cell_field body.cells rest good.0.cells) refl

pub reply_field : IsField IsGoodReply reply_bytes reply_at
reply_field = record { takes = reply_takes; again = reply_again }
