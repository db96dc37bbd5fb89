-- Each cell that is taken fits, and changes no block's shape.
use Rattle.std.proofs.Common.{◌≡◌, ◌∙◌, ℕ, zero, suc, nat_eq, refl, ap, sym, subst, Bool, true, false, Option, Some, None, List, [], ◌∷◌, ◌++◌, drop, length, map}
use Rattle.std.specs.Prelude.{ℤ, IsTrue, ◌&&◌, option_to_list, if◌then◌else◌}
use Rattle.pt_base.specs.declared.int_type.IntType.{IntType}
use Rattle.pt_base.proofs.Booleans.{both_hold_first, both_hold_second}
use Rattle.pt_int.specs.Conversion.{is_in_range}
use Rattle.pt_tree.specs.declared.signature.Signature.{Signature}
use Rattle.block_memory.specs.declared.cell.BlockName.{BlockName}
use Rattle.block_memory.specs.declared.cell.Cell.TheVariants as cell
use Rattle.block_memory.specs.Blocks.{Blocks}
use Rattle.wire.specs.declared.cell.WireCell.{WireCell}
use Rattle.wire.specs.declared.cell.WireCell.TheVariants as wire
use Rattle.marshalling.specs.declared.crossing.Crossing.{Crossing}
use Rattle.marshalling.specs.declared.crossing.Crossing.TheVariants.{Stays, Plain, Sealed}
use Rattle.marshalling.specs.Crossings.{sealed_if, result_crossing}
use Rattle.marshalling.specs.Packing.{names_of}
use Rattle.marshalling.specs.Replies.{Place, next_after, next_by, places_from, places_of, result_places}
use Rattle.marshalling.specs.Taking.{Part, after_reply, are_sent, call_crossing, call_places, is_reply, result_by, taken_blocks, taken_cell, taken_cells, taken_result}
use Rattle.marshalling.proofs.TakingLemmas.{SameShape, same_shape, shape-then, cells_shape}
use Rattle.pt_core.specs.CodeTree.{ProgramTree}
use Rattle.pt_core.specs.Steps.{Machine, with_blocks}
use Rattle.core_soundness_law.specs.Kept.{Kept}
use Rattle.core_soundness_law.specs.Fits.{BeginsWith, LieAt, Fits}
use Rattle.core_soundness_law.specs.Outside.{GivenFits}
use Rattle.core_soundness_law.proofs.Outside.{written_fits}
use Rattle.marshalling_law.specs.TakingLaws.{Stands, AllStand, IsTakenWell, TakenRepliesFit}

-- ---- where types lie

lies_here : (ts : List IntType) (i : ℕ) (t : IntType) (rest : List IntType) → drop i ts ≡ t ∷ rest → LieAt ts i (t ∷ [])
lies_here [] zero t rest e = cc
lies_here [] (suc i) t rest e = cc
lies_here (y ∷ ts) zero t rest e = (first y t ts rest e, tt {0})
  where
    first : (y t : IntType) (ts rest : List IntType) → y ∷ ts ≡ t ∷ rest → y ≡ t
    first y t ts rest e = cc
lies_here (y ∷ ts) (suc i) t rest e = lies_here ts i t rest e

drop_next : (ts : List IntType) (i : ℕ) (t : IntType) (rest : List IntType) → drop i ts ≡ t ∷ rest → drop (suc i) ts ≡ rest
drop_next [] zero t rest e = cc
drop_next [] (suc i) t rest e = cc
drop_next (y ∷ ts) zero t rest e = behind y t ts rest e
  where
    behind : (y t : IntType) (ts rest : List IntType) → y ∷ ts ≡ t ∷ rest → ts ≡ rest
    behind y t ts rest e = cc
drop_next (y ∷ ts) (suc i) t rest e = drop_next ts i t rest e

-- a place that stays has nothing among what is sent
stays_in : (t : IntType) (next : ℕ) (rest : List Place) (sent : List WireCell) → are_sent next (record { way = Stays; ty = t } ∷ rest) sent ≡ true → are_sent next rest sent ≡ true
stays_in t next rest [] h = h
stays_in t next rest (c ∷ sent) h = h

-- ---- taking

module _ (kept : Kept) (monitor : Bool) (program : ProgramTree) (m : Machine) (x : Blocks) where
  -- what is still to be taken is for these places, and so far all fits
  record Holds (more : List Place) (p : Part) : Type 0 where
    fits : Fits kept monitor program (with_blocks p.blocks m)
    shape : SameShape x p.blocks
    sent : are_sent p.next more p.sent ≡ true
    stand : AllStand kept p.next more

  number_holds : (t : IntType) (name : BlockName) (i : ℕ) (rest : List Place) (sent : List WireCell) (next : ℕ) (blocks : Blocks) →
      Holds (record { way = Plain; ty = t } ∷ rest) (record { sent = sent; next = next; blocks = blocks }) → LieAt (x name).types i (t ∷ []) →
      Holds rest (taken_cell Plain name i (record { sent = sent; next = next; blocks = blocks }))
  number_holds t name i rest [] next blocks h lies = absurd (never h.sent)
    where
      never : false ≡ true → ⊥
      never e = cc
  number_holds t name i rest (wire.Number v ∷ sent) next blocks h lies = record {
    fits = written_fits kept monitor program (with_blocks blocks m) name i t (cell.Int v) h.fits (subst (λ ts. LieAt ts i (t ∷ [])) (sym (h.shape.types name)) lies) (both_hold_first (is_in_range t v) (are_sent next rest sent) h.sent);
    shape = shape-then x blocks _ h.shape (cells_shape (λ k j. Plain) name 0 i (t ∷ []) (record { sent = wire.Number v ∷ sent; next = next; blocks = blocks }));
    sent = both_hold_second (is_in_range t v) (are_sent next rest sent) h.sent;
    stand = h.stand.1;
  }
  number_holds t name i rest (wire.Sealed given ∷ sent) next blocks h lies = absurd (never h.sent)
    where
      never : false ≡ true → ⊥
      never e = cc

  handle_holds : (t : IntType) (name : BlockName) (i : ℕ) (rest : List Place) (sent : List WireCell) (next : ℕ) (blocks : Blocks) →
      Holds (record { way = Sealed; ty = t } ∷ rest) (record { sent = sent; next = next; blocks = blocks }) → LieAt (x name).types i (t ∷ []) →
      Holds rest (taken_cell Sealed name i (record { sent = sent; next = next; blocks = blocks }))
  handle_holds t name i rest [] next blocks h lies = absurd (never h.sent)
    where
      never : false ≡ true → ⊥
      never e = cc
  handle_holds t name i rest (wire.Number v ∷ sent) next blocks h lies = absurd (never h.sent)
    where
      never : false ≡ true → ⊥
      never e = cc
  handle_holds t name i rest (wire.Sealed given ∷ sent) next blocks h lies = record {
    fits = written_fits kept monitor program (with_blocks blocks m) name i t (cell.Sealed next) h.fits (subst (λ ts. LieAt ts i (t ∷ [])) (sym (h.shape.types name)) lies) h.stand.0;
    shape = shape-then x blocks _ h.shape (cells_shape (λ k j. Sealed) name 0 i (t ∷ []) (record { sent = wire.Sealed given ∷ sent; next = next; blocks = blocks }));
    sent = both_hold_second (nat_eq given next) (are_sent (suc next) rest sent) h.sent;
    stand = h.stand.1;
  }

  cell_holds : (way : Crossing) (t : IntType) (name : BlockName) (i : ℕ) (rest : List Place) (p : Part) →
      Holds (record { way = way; ty = t } ∷ rest) p → LieAt (x name).types i (t ∷ []) → Holds rest (taken_cell way name i p)
  cell_holds Stays t name i rest p h lies = record { fits = h.fits; shape = h.shape; sent = stays_in t p.next rest p.sent h.sent; stand = h.stand.1 }
  cell_holds Plain t name i rest p h lies = number_holds t name i rest p.sent p.next p.blocks h lies
  cell_holds Sealed t name i rest p h lies = handle_holds t name i rest p.sent p.next p.blocks h lies

  cells_hold : (crossing : ℕ → ℕ → Crossing) (name : BlockName) (k i : ℕ) (types : List IntType) (more : List Place) (p : Part) → drop i (x name).types ≡ types →
      Holds (places_from crossing k i types ++ more) p → Holds more (taken_cells crossing name k i types p)
  cells_hold crossing name k i [] more p d h = h
  cells_hold crossing name k i (t ∷ types) more p d h =
      cells_hold crossing name k (suc i) types more (taken_cell (crossing k i) name i p) (drop_next (x name).types i t types d)
      (cell_holds (crossing k i) t name i (places_from crossing k (suc i) types ++ more) p h (lies_here (x name).types i t types d))

  blocks_hold : (crossing : ℕ → ℕ → Crossing) (k : ℕ) (names : List BlockName) (p : Part) → Holds (places_of crossing k (map (λ n. (x n).types) names)) p → Holds [] (taken_blocks crossing k names p)
  blocks_hold crossing k [] p h = h
  blocks_hold crossing k (name ∷ names) p h =
      blocks_hold crossing (suc k) names (taken_cells crossing name k 0 (p.blocks name).types p)
      (subst (λ types. Holds (places_of crossing (suc k) (map (λ n. (x n).types) names)) (taken_cells crossing name k 0 types p)) (sym (h.shape.types name))
      (cells_hold crossing name k 0 (x name).types (places_of crossing (suc k) (map (λ n. (x n).types) names)) p refl h))

-- ---- the result

result_fits : (kept : Kept) (secret : Bool) (t : IntType) (handle : ℕ) (sent : Option WireCell) → are_sent handle (record { way = sealed_if secret; ty = t } ∷ []) (option_to_list sent) ≡ true → Stands kept (sealed_if secret) t handle →
    GivenFits kept (Some t) (result_by (sealed_if secret) handle sent)
result_fits kept true t handle sent h s = s
result_fits kept false t handle None h s = absurd (never h)
  where
    never : false ≡ true → ⊥
    never e = cc
result_fits kept false t handle (Some (wire.Number v)) h s = both_hold_first (is_in_range t v) (are_sent handle [] []) h
result_fits kept false t handle (Some (wire.Sealed given)) h s = absurd (never h)
  where
    never : false ≡ true → ⊥
    never e = cc

given_fits : (kept : Kept) (sig : Signature) (result : Option IntType) (handle : ℕ) (sent : Option WireCell) → are_sent handle (result_places sig result) (option_to_list sent) ≡ true → AllStand kept handle (result_places sig result) →
    GivenFits kept result (taken_result (result_places sig result) handle sent)
given_fits kept sig None handle sent h s = tt {0}
given_fits kept sig (Some t) handle sent h s = result_fits kept _ t handle sent h s.0

pub taken_replies_fit : TakenRepliesFit
taken_replies_fit kept monitor program m handle structs sig args reply fits is stand =
    let results : List Place = result_places sig sig.result in
    let crossing : ℕ → ℕ → Crossing = call_crossing structs sig.params args in
    let first : IsTrue (are_sent handle results (option_to_list reply.result)) = both_hold_first (are_sent handle results (option_to_list reply.result)) (are_sent (next_after handle results) (call_places m.blocks structs sig.params args) reply.cells) is in
    let begun : Part = record { sent = reply.cells; next = next_after handle results; blocks = m.blocks } in
    let held : Holds kept monitor program m m.blocks [] (taken_blocks crossing 0 (names_of args) begun) =
    blocks_hold kept monitor program m m.blocks crossing 0 (names_of args) begun (record {
      fits = record { memory = fits.memory; active = fits.active; awaited = fits.awaited };
      shape = same_shape m.blocks;
      sent = both_hold_second (are_sent handle results (option_to_list reply.result)) (are_sent (next_after handle results) (call_places m.blocks structs sig.params args) reply.cells) is;
      stand = stand.cells;
    }) in
    record {
      fits = held.fits;
      result = given_fits kept sig sig.result handle reply.result first stand.result;
      shape = λ name. record { types = held.shape.types name; count = held.shape.count name };
    }
