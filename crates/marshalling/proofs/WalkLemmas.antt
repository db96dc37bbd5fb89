-- Steps of the walk through a reply's cells.
use Rattle.std.proofs.Common.{◌≡◌, ◌<◌, ◌≤◌, ◌+◌, ◌++◌, ◌∙◌, sym, ap, refl, ℕ, zero, suc, Bool, true, false, if◌then◌else◌, List, [], ◌∷◌, length, drop, get_or, map, add-one, append_assoc, Some, None, arith}
use Rattle.std.specs.Prelude.{◌&&◌, nat_le}
use Rattle.std.proofs.lemmas.Bool.Decides.{nat_tests}
use Rattle.std.proofs.lemmas.List.{drop_all}
use Rattle.pt_base.specs.declared.int_type.IntType.{IntType}
use Rattle.pt_base.proofs.Places.{drop_step_at}
use Rattle.block_memory.specs.declared.cell.BlockName.{BlockName}
use Rattle.wire.specs.declared.cell.WireCell.{WireCell}
use Rattle.marshalling.specs.declared.crossing.Crossing.{Crossing}
use Rattle.marshalling.specs.declared.walk.Walk.{Walk}
use Rattle.marshalling.specs.Replies.{Place, next_by, places_from, places_of}
use Rattle.marshalling.specs.Taking.{are_sent, comes_back, is_sent_by}
use Rattle.marshalling.specs.Walks.{Walks}

-- the place of a cell of a block
abbrev pub place_at : (ℕ → ℕ → Crossing) → ℕ → ℕ → IntType → Place
place_at crossing k i t = record { way = crossing k i; ty = t }

abbrev pub place_by : Crossing → IntType → Place
place_by way t = record { way = way; ty = t }

-- ---- one place

-- a place that comes back where no cell is left
none_sent : (handle : ℕ) (p : Place) (places : List Place) → comes_back p.way ≡ true → are_sent handle (p ∷ places) [] ≡ false
none_sent handle p places h = ap (λ b. if b then false else are_sent handle places []) h

some_sent : (handle : ℕ) (p : Place) (places : List Place) (c : WireCell) (cells : List WireCell) → comes_back p.way ≡ true
    → are_sent handle (p ∷ places) (c ∷ cells) ≡ (is_sent_by p.way p.ty handle c && are_sent (next_by p.way handle) places cells)
some_sent handle p places c cells h =
    ap (λ b. if b then is_sent_by p.way p.ty handle c && are_sent (next_by p.way handle) places cells else are_sent handle places (c ∷ cells)) h

pub walk_past : (crossing : Crossing) (t : IntType) (w : Walk) (cells : List WireCell) → comes_back crossing ≡ true → length cells ≤ w.at
    → Walks None (place_by crossing t ∷ []) w cells
walk_past crossing t w cells h past rest = ap (are_sent w.next (place_by crossing t ∷ rest)) (drop_all w.at cells past)
    ∙ none_sent w.next (place_by crossing t) rest h

pub walk_wrong : (crossing : Crossing) (t : IntType) (w : Walk) (cells : List WireCell) (c : WireCell) (fits : Bool) → comes_back crossing ≡ true
    → w.at < length cells → c ≡ get_or cells w.at c
    → fits ≡ is_sent_by crossing t w.next c → fits ≡ false → Walks None (place_by crossing t ∷ []) w cells
walk_wrong crossing t w cells c fits h lt e is wrong rest =
    ap (are_sent w.next (place_by crossing t ∷ rest)) (drop_step_at cells w.at c lt e)
    ∙ some_sent w.next (place_by crossing t) rest c (drop (w.at + 1) cells) h
    ∙ ap (λ b. b && are_sent (next_by crossing w.next) rest (drop (w.at + 1) cells)) (sym is ∙ wrong)

pub walk_right : (crossing : Crossing) (t : IntType) (w v : Walk) (cells : List WireCell) (c : WireCell) (fits : Bool)
    → comes_back crossing ≡ true → w.at < length cells → c ≡ get_or cells w.at c
    → fits ≡ is_sent_by crossing t w.next c → fits ≡ true → v.at ≡ w.at + 1 → v.next ≡ next_by crossing w.next
    → Walks (Some v) (place_by crossing t ∷ []) w cells
walk_right crossing t w v cells c fits h lt e is right at next rest =
    ap (are_sent w.next (place_by crossing t ∷ rest)) (drop_step_at cells w.at c lt e)
    ∙ some_sent w.next (place_by crossing t) rest c (drop (w.at + 1) cells) h
    ∙ ap (λ b. b && are_sent (next_by crossing w.next) rest (drop (w.at + 1) cells)) (sym is ∙ right)
    ∙ ap (λ n. are_sent n rest (drop (w.at + 1) cells)) (sym next) ∙ ap (λ n. are_sent v.next rest (drop n cells)) (sym at)

-- ---- several

-- the places so far are behind the walk, and these are left
pub record Left (all left : List Place) (w v : Walk) (cells : List WireCell) : Type 0 where
  pub same : (rest : List Place) → are_sent w.next (all ++ rest) (drop w.at cells) ≡ are_sent v.next (left ++ rest) (drop v.at cells)

-- the next part of what is left is walked through
pub left_goes : (all part more left : List Place) (w v u : Walk) (cells : List WireCell) → left ≡ part ++ more → Left all left w v cells
    → Walks (Some u) part v cells → Left all more w u cells
left_goes all part more left w v u cells is so_far step = record {
  same = λ rest. so_far.same rest ∙ ap (λ ps. are_sent v.next ps (drop v.at cells)) (ap (λ ps. ps ++ rest) is ∙ append_assoc part more rest)
      ∙ step (more ++ rest);
}

pub left_fails : (all part more left : List Place) (w v : Walk) (cells : List WireCell) → left ≡ part ++ more → Left all left w v cells
    → Walks None part v cells → Walks None all w cells
left_fails all part more left w v cells is so_far step =
    λ rest. so_far.same rest ∙ ap (λ ps. are_sent v.next ps (drop v.at cells)) (ap (λ ps. ps ++ rest) is ∙ append_assoc part more rest)
    ∙ step (more ++ rest)

pub left_ends : (all left : List Place) (w v : Walk) (cells : List WireCell) → left ≡ [] → Left all left w v cells → Walks (Some v) all w cells
left_ends all left w v cells none so_far = λ rest. so_far.same rest ∙ ap (λ ps. are_sent v.next (ps ++ rest) (drop v.at cells)) none

pub left_all : (all : List Place) (w : Walk) (cells : List WireCell) → Left all all w w cells
left_all all w cells = record { same = λ rest. refl }

-- the cells of a block from a place on
pub places_rest : (crossing : ℕ → ℕ → Crossing) (k i : ℕ) (types : List IntType) (t : IntType) → i < length types → t ≡ get_or types i t
    → places_from crossing k i (drop i types) ≡ place_at crossing k i t ∷ places_from crossing k (i + 1) (drop (i + 1) types)
places_rest crossing k i types t lt e =
    ap (places_from crossing k i) (drop_step_at types i t lt e)
    ∙ ap (λ j. place_at crossing k i t ∷ places_from crossing k j (drop (i + 1) types)) (sym (add-one i))

pub blocks_rest : (crossing : ℕ → ℕ → Crossing) (types : BlockName → List IntType) (k : ℕ) (names : List BlockName) (name : BlockName)
    → k < length names → name ≡ get_or names k name
    → places_of crossing k (map types (drop k names)) ≡ places_from crossing k 0 (types name) ++ places_of crossing (k + 1)
    (map types (drop (k + 1) names))
blocks_rest crossing types k names name lt e =
    ap (λ ns. places_of crossing k (map types ns)) (drop_step_at names k name lt e)
    ∙ ap (λ j. places_from crossing k 0 (types name) ++ places_of crossing j (map types (drop (k + 1) names))) (sym (add-one k))

-- ---- the end of the cells

past_end : (handle at : ℕ) → are_sent handle [] (drop at []) ≡ true
past_end handle zero = refl
past_end handle (suc at) = refl

pub at_end : (handle : ℕ) (cells : List WireCell) (at : ℕ) → are_sent handle [] (drop at cells) ≡ nat_le (length cells) at
at_end handle [] at = past_end handle at ∙ grind (arith, nat_tests)
at_end handle (c ∷ cells) zero = grind (arith, nat_tests)
at_end handle (c ∷ cells) (suc at) = at_end handle cells at ∙ grind (arith, nat_tests)
