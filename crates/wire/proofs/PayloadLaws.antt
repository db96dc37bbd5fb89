-- A payload that is read is the message's, and what was written is read again.
use Rattle.std.proofs.Common.{◌≡◌, ℕ, ℤ, zero, suc, ◌^◌, ◌<◌, ◌≤◌, leb, eqb, List, [], ◌∷◌, ◌++◌, length, Option, Some, refl, sym, ap, subst, ◌∙◌, arith}
use Rattle.std.specs.List.{flat_map}
use Rattle.std.specs.Int.{w32, w64}
use Rattle.std.proofs.lemmas.Bool.{leb-true, le-leb, eqb-true}
use Rattle.std.proofs.lemmas.List.{append-nil, nil_from_length, length-append}
use Rattle.pt_base.specs.declared.trap.Trap.{Trap}
use Rattle.wire.specs.declared.cell.WireCell.{WireCell}
use Rattle.wire.specs.declared.cell.WireCell.TheVariants as cell
use Rattle.wire.specs.declared.message.ReplyBody.{ReplyBody}
use Rattle.wire.specs.declared.message.Message.{Message}
use Rattle.wire.specs.declared.message.Message.TheVariants as message
use Rattle.wire.specs.Spelling.{four_bytes, eight_bytes, four_signed_bytes, truth_byte, kind_byte, cell_bytes, call_bytes, result_bytes, reply_bytes, payload}
use Rattle.wire.specs.Limits.{FitsTypes, KeepsCounts, KeepsLimits, longest_piece}
use Rattle.wire.specs.Reading.{◌>>=◌, Field, byte_at, number_at, signed_at, truth_at, kind_of, call_at, reply_at, alone, boot_of, call_of, emit_of, exit_of, trap_of, park_of, reply_of, payload_of}
use Rattle.wire.proofs.Bytes.{AreBytes, AreBytes-rest, IsBytes-from}
use Rattle.wire.proofs.Fields.{bind_some, guard_some, some_is, Takes, Takes-then, byte_field, field32, field64, field_signed32, truth_field, kind_is, kind_again}
use Rattle.wire.proofs.ListLaws.{call_field, reply_field}

-- the bytes are the payload of the message, which has a spelling if they aren't too many
pub record IsPayload (bytes : List ℕ) (m : Message) : Type 0 where
  pub parts : bytes ≡ payload m
  pub fits : FitsTypes m
  pub counts : KeepsCounts m

alone_some : {A : Type 0} (found : A × List ℕ) (x : A) → alone found ≡ Some x → (found.1 ≡ []) × (found.0 ≡ x)
alone_some found x e =
    let g = guard_some (eqb (length found.1) 0) (Some found.0) x e in
    (nil_from_length found.1 (eqb-true _ _ g.0), some_is found.0 x g.1)

ended : (bytes text rest : List ℕ) → Takes bytes text rest → rest ≡ [] → bytes ≡ text
ended bytes text rest takes none = takes.parts ∙ ap (λ r. text ++ r) none ∙ append-nil text

-- ---- a field at the end

last_field : {A : Type 0} (read : List ℕ → Field A) (text : List ℕ) (x : A) → read (text ++ []) ≡ Some (x, []) → read text ≡ Some (x, [])
last_field read text x e = ap read (sym (append-nil text)) ∙ e

-- ---- each message

boot_takes : (bytes : List ℕ) (m : Message) → AreBytes bytes → boot_of bytes ≡ Some m → IsPayload (0 ∷ bytes) m
unfolding boot_of
boot_takes bytes m fits e =
    let g = guard_some (leb (length bytes) longest_piece) (Some (message.Boot bytes)) m e in
    subst (IsPayload (0 ∷ bytes)) (some_is (message.Boot bytes) m g.1) (record { parts = refl; fits = IsBytes-from bytes fits; counts = leb-true _ _ g.0 })

call_takes : (bytes : List ℕ) (m : Message) → AreBytes bytes → call_of bytes ≡ Some m → IsPayload (1 ∷ bytes) m
unfolding call_of
call_takes bytes m fits e =
    let a = bind_some (number_at w64 bytes) (λ turns. number_at w32 turns.1 >>= λ f. byte_at f.1 >>= λ depth. truth_at depth.1 >>= λ wants. call_at wants.1 >>= λ body. alone (message.Call turns.0 f.0 depth.0 wants.0 body.0, body.1)) m e in
    let b = bind_some (number_at w32 a.0.1) (λ f. byte_at f.1 >>= λ depth. truth_at depth.1 >>= λ wants. call_at wants.1 >>= λ body. alone (message.Call a.0.0 f.0 depth.0 wants.0 body.0, body.1)) m a.2 in
    let d = bind_some (byte_at b.0.1) (λ depth. truth_at depth.1 >>= λ wants. call_at wants.1 >>= λ body. alone (message.Call a.0.0 b.0.0 depth.0 wants.0 body.0, body.1)) m b.2 in
    let f = bind_some (truth_at d.0.1) (λ wants. call_at wants.1 >>= λ body. alone (message.Call a.0.0 b.0.0 d.0.0 wants.0 body.0, body.1)) m d.2 in
    let g = bind_some (call_at f.0.1) (λ body. alone (message.Call a.0.0 b.0.0 d.0.0 f.0.0 body.0, body.1)) m f.2 in
    let done = alone_some (message.Call a.0.0 b.0.0 d.0.0 f.0.0 g.0.0, g.0.1) m g.2 in
    let t0 = field64.takes bytes a.0 fits a.1 in
    let t1 = field32.takes a.0.1 b.0 t0.0.rest_fits b.1 in
    let t2 = byte_field.takes b.0.1 d.0 t1.0.rest_fits d.1 in
    let t3 = truth_field.takes d.0.1 f.0 t2.0.rest_fits f.1 in
    let t4 = call_field.takes f.0.1 g.0 t3.0.rest_fits g.1 in
    let e34 = Takes-then d.0.1 (truth_byte f.0.0 ∷ []) f.0.1 (call_bytes g.0.0) g.0.1 t3.0 t4.0 in
    let e24 = Takes-then b.0.1 (d.0.0 ∷ []) d.0.1 (truth_byte f.0.0 ∷ call_bytes g.0.0) g.0.1 t2.0 e34 in
    let e14 = Takes-then a.0.1 (four_bytes b.0.0) b.0.1 (d.0.0 ∷ truth_byte f.0.0 ∷ call_bytes g.0.0) g.0.1 t1.0 e24 in
    let e04 = Takes-then bytes (eight_bytes a.0.0) a.0.1 (four_bytes b.0.0 ++ (d.0.0 ∷ truth_byte f.0.0 ∷ call_bytes g.0.0)) g.0.1 t0.0 e14 in
    subst (IsPayload (1 ∷ bytes)) done.1 (record { parts = ap (λ x. 1 ∷ x) (ended _ _ _ e04 done.0); fits = (t0.1, t1.1, t2.1, t4.1.0); counts = t4.1.1 })

emit_takes : (bytes : List ℕ) (m : Message) → AreBytes bytes → emit_of bytes ≡ Some m → IsPayload (2 ∷ bytes) m
unfolding emit_of
emit_takes bytes m fits e =
    let a = bind_some (number_at w64 bytes) (λ turns. Some (message.Emit turns.0 turns.1)) m e in
    let t0 = field64.takes bytes a.0 fits a.1 in
    subst (IsPayload (2 ∷ bytes)) (some_is (message.Emit a.0.0 a.0.1) m a.2) (record { parts = ap (λ x. 2 ∷ x) t0.0.parts; fits = (t0.1, IsBytes-from a.0.1 t0.0.rest_fits); counts = tt })

exit_takes : (bytes : List ℕ) (m : Message) → AreBytes bytes → exit_of bytes ≡ Some m → IsPayload (3 ∷ bytes) m
unfolding exit_of
exit_takes bytes m fits e =
    let a = bind_some (number_at w64 bytes) (λ turns. signed_at w32 turns.1 >>= λ status. alone (message.Exit turns.0 status.0, status.1)) m e in
    let b = bind_some (signed_at w32 a.0.1) (λ status. alone (message.Exit a.0.0 status.0, status.1)) m a.2 in
    let done = alone_some (message.Exit a.0.0 b.0.0, b.0.1) m b.2 in
    let t0 = field64.takes bytes a.0 fits a.1 in
    let t1 = field_signed32.takes a.0.1 b.0 t0.0.rest_fits b.1 in
    let both = Takes-then bytes (eight_bytes a.0.0) a.0.1 (four_signed_bytes b.0.0) b.0.1 t0.0 t1.0 in
    subst (IsPayload (3 ∷ bytes)) done.1 (record { parts = ap (λ x. 3 ∷ x) (ended _ _ _ both done.0); fits = (t0.1, t1.1); counts = tt })

trap_takes : (bytes : List ℕ) (m : Message) → AreBytes bytes → trap_of bytes ≡ Some m → IsPayload (4 ∷ bytes) m
unfolding trap_of
trap_takes bytes m fits e =
    let a = bind_some (number_at w64 bytes) (λ turns. byte_at turns.1 >>= λ b. kind_of b.0 >>= λ kind. number_at w32 b.1 >>= λ start. number_at w32 start.1 >>= λ end. alone (message.Trap turns.0 kind (record { from = start.0; to = end.0 }), end.1)) m e in
    let b = bind_some (byte_at a.0.1) (λ b. kind_of b.0 >>= λ kind. number_at w32 b.1 >>= λ start. number_at w32 start.1 >>= λ end. alone (message.Trap a.0.0 kind (record { from = start.0; to = end.0 }), end.1)) m a.2 in
    let k = bind_some (kind_of b.0.0) (λ kind. number_at w32 b.0.1 >>= λ start. number_at w32 start.1 >>= λ end. alone (message.Trap a.0.0 kind (record { from = start.0; to = end.0 }), end.1)) m b.2 in
    let d = bind_some (number_at w32 b.0.1) (λ start. number_at w32 start.1 >>= λ end. alone (message.Trap a.0.0 k.0 (record { from = start.0; to = end.0 }), end.1)) m k.2 in
    let f = bind_some (number_at w32 d.0.1) (λ end. alone (message.Trap a.0.0 k.0 (record { from = d.0.0; to = end.0 }), end.1)) m d.2 in
    let done = alone_some (message.Trap a.0.0 k.0 (record { from = d.0.0; to = f.0.0 }), f.0.1) m f.2 in
    let t0 = field64.takes bytes a.0 fits a.1 in
    let t1 = byte_field.takes a.0.1 b.0 t0.0.rest_fits b.1 in
    let t2 = field32.takes b.0.1 d.0 t1.0.rest_fits d.1 in
    let t3 = field32.takes d.0.1 f.0 t2.0.rest_fits f.1 in
    let kinded = subst (λ (n : ℕ). Takes a.0.1 (n ∷ []) b.0.1) (sym (kind_is b.0.0 k.0 k.1)) t1.0 in
    let e23 = Takes-then b.0.1 (four_bytes d.0.0) d.0.1 (four_bytes f.0.0) f.0.1 t2.0 t3.0 in
    let e13 = Takes-then a.0.1 (kind_byte k.0 ∷ []) b.0.1 (four_bytes d.0.0 ++ four_bytes f.0.0) f.0.1 kinded e23 in
    let e03 = Takes-then bytes (eight_bytes a.0.0) a.0.1 (kind_byte k.0 ∷ four_bytes d.0.0 ++ four_bytes f.0.0) f.0.1 t0.0 e13 in
    subst (IsPayload (4 ∷ bytes)) done.1 (record { parts = ap (λ x. 4 ∷ x) (ended _ _ _ e03 done.0); fits = (t0.1, t2.1, t3.1); counts = tt })

park_takes : (bytes : List ℕ) (m : Message) → AreBytes bytes → park_of bytes ≡ Some m → IsPayload (5 ∷ bytes) m
unfolding park_of
park_takes bytes m fits e =
    let a = bind_some (number_at w64 bytes) (λ turns. alone (message.Park turns.0, turns.1)) m e in
    let done = alone_some (message.Park a.0.0, a.0.1) m a.2 in
    let t0 = field64.takes bytes a.0 fits a.1 in
    subst (IsPayload (5 ∷ bytes)) done.1 (record { parts = ap (λ x. 5 ∷ x) (ended _ _ _ t0.0 done.0); fits = t0.1; counts = tt })

reply_takes : (bytes : List ℕ) (m : Message) → AreBytes bytes → reply_of bytes ≡ Some m → IsPayload (6 ∷ bytes) m
unfolding reply_of
reply_takes bytes m fits e =
    let a = bind_some (reply_at bytes) (λ body. alone (message.Reply body.0, body.1)) m e in
    let done = alone_some (message.Reply a.0.0, a.0.1) m a.2 in
    let t0 = reply_field.takes bytes a.0 fits a.1 in
    subst (IsPayload (6 ∷ bytes)) done.1 (record { parts = ap (λ x. 6 ∷ x) (ended _ _ _ t0.0 done.0); fits = t0.1.0; counts = tt })

-- ---- what is read is spelled so

pub payload_takes : (bytes : List ℕ) (m : Message) → AreBytes bytes → payload_of bytes ≡ Some m → IsPayload bytes m
unfolding payload_of
payload_takes [] m fits e = absurd cc
payload_takes (zero ∷ bytes) m fits e = boot_takes bytes m (AreBytes-rest 0 bytes fits) e
payload_takes (suc zero ∷ bytes) m fits e = call_takes bytes m (AreBytes-rest 1 bytes fits) e
payload_takes (suc (suc zero) ∷ bytes) m fits e = emit_takes bytes m (AreBytes-rest 2 bytes fits) e
payload_takes (suc (suc (suc zero)) ∷ bytes) m fits e = exit_takes bytes m (AreBytes-rest 3 bytes fits) e
payload_takes (suc (suc (suc (suc zero))) ∷ bytes) m fits e = trap_takes bytes m (AreBytes-rest 4 bytes fits) e
payload_takes (suc (suc (suc (suc (suc zero)))) ∷ bytes) m fits e = park_takes bytes m (AreBytes-rest 5 bytes fits) e
payload_takes (suc (suc (suc (suc (suc (suc zero))))) ∷ bytes) m fits e = reply_takes bytes m (AreBytes-rest 6 bytes fits) e
payload_takes (suc (suc (suc (suc (suc (suc (suc tag)))))) ∷ bytes) m fits e = absurd cc

-- ---- what is spelled so is read

cell_has_bytes : (c : WireCell) → 1 ≤ length (cell_bytes c)
cell_has_bytes (cell.Number n) = omega arith
cell_has_bytes (cell.Sealed handle) = omega arith

pub cells_have_bytes : (cells : List WireCell) → length cells ≤ length (flat_map cell_bytes cells)
cells_have_bytes [] = omega arith
cells_have_bytes (c ∷ cells) = omega (arith, cell_has_bytes c, cells_have_bytes cells, length-append (cell_bytes c) (flat_map cell_bytes cells))

pub reply_is_short : (body : ReplyBody) → KeepsLimits (message.Reply body) → length body.cells < 2 ^ 32
reply_is_short body keeps =
    omega (arith, keeps.payload, cells_have_bytes body.cells, length-append (result_bytes body.result) (four_bytes (length body.cells) ++ flat_map cell_bytes body.cells), length-append (four_bytes (length body.cells)) (flat_map cell_bytes body.cells))

pub payload_again : (m : Message) → FitsTypes m → KeepsLimits m → payload_of (payload m) ≡ Some m
unfolding payload_of boot_of call_of emit_of exit_of trap_of park_of reply_of byte_at
payload_again (message.Boot piece) fits keeps = rw (le-leb _ _ keeps.counts) refl
payload_again (message.Call turns function depth wants body) fits keeps =
    let last : call_at (call_bytes body) ≡ Some (body, []) = last_field call_at (call_bytes body) body (call_field.again body [] (fits.3, keeps.counts)) in
    rw (field64.again turns (four_bytes function ++ (depth ∷ truth_byte wants ∷ call_bytes body)) fits.0, field32.again function (depth ∷ truth_byte wants ∷ call_bytes body) fits.1, truth_field.again wants (call_bytes body) tt, last) refl
payload_again (message.Emit turns bytes) fits keeps = rw (field64.again turns bytes fits.0) refl
payload_again (message.Exit turns status) fits keeps =
    let last : signed_at w32 (four_signed_bytes status) ≡ Some (status, []) = last_field (signed_at w32) (four_signed_bytes status) status (field_signed32.again status [] fits.1) in
    ap (λ (r : Field ℕ). r >>= λ t. signed_at w32 t.1 >>= λ s. alone (message.Exit t.0 s.0, s.1)) (field64.again turns (four_signed_bytes status) fits.0)
    ∙ ap (λ (r : Field ℤ). r >>= λ s. alone (message.Exit turns s.0, s.1)) last
payload_again (message.Trap turns kind span) fits keeps =
    let last : number_at w32 (four_bytes span.to) ≡ Some (span.to, []) = last_field (number_at w32) (four_bytes span.to) span.to (field32.again span.to [] fits.2) in
    let ends : ℕ → Trap → ℕ → Field ℕ → Option Message = λ t k start r. r >>= λ end. alone (message.Trap t k (record { from = start; to = end.0 }), end.1) in
    ap (λ (r : Field ℕ). r >>= λ t. byte_at t.1 >>= λ b. kind_of b.0 >>= λ k. number_at w32 b.1 >>= λ start. ends t.0 k start.0 (number_at w32 start.1)) (field64.again turns (kind_byte kind ∷ four_bytes span.from ++ four_bytes span.to) fits.0)
    ∙ ap (λ (r : Option Trap). r >>= λ k. number_at w32 (four_bytes span.from ++ four_bytes span.to) >>= λ start. ends turns k start.0 (number_at w32 start.1)) (kind_again kind)
    ∙ ap (λ (r : Field ℕ). r >>= λ start. ends turns kind start.0 (number_at w32 start.1)) (field32.again span.from (four_bytes span.to) fits.1)
    ∙ ap (ends turns kind span.from) last
payload_again (message.Park turns) fits keeps =
    let last : number_at w64 (eight_bytes turns) ≡ Some (turns, []) = last_field (number_at w64) (eight_bytes turns) turns (field64.again turns [] fits) in
    ap (λ (r : Field ℕ). r >>= λ t. alone (message.Park t.0, t.1)) last
payload_again (message.Reply body) fits keeps =
    let last : reply_at (reply_bytes body) ≡ Some (body, []) = last_field reply_at (reply_bytes body) body (reply_field.again body [] (fits, reply_is_short body keeps)) in
    rw last refl
