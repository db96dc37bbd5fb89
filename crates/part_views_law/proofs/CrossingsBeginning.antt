-- Where a call begins.
use Rattle.std.proofs.Common.{◌≡◌, ◌∙◌, ℕ, ap, sym, refl, subst, List, [], ◌∷◌, map, get_or, Bool, true, false, Some, None, if◌then◌else◌}
use Rattle.std.specs.Prelude.{◌||◌}
use Rattle.std.specs.List.{list_all}
use Rattle.pt_base.specs.declared.int_type.IntType.{IntType}
use Rattle.pt_base.proofs.Booleans.{and_true_first, and_true_second}
use Rattle.pt_tree.specs.declared.signature.Param.{Param}
use Rattle.typed_tree.specs.declared.types.StructInfo.{StructInfo}
use Rattle.block_memory.specs.declared.cell.Cell.{Cell}
use Rattle.block_memory.specs.declared.cell.Cell.TheVariants as cell
use Rattle.block_memory.specs.declared.cell.Pointer.TheVariants.{Null, At}
use Rattle.block_memory.specs.declared.cell.BlockName.{BlockName}
use Rattle.block_memory.specs.declared.cell.BlockName.TheVariants.{Local, Global, Received}
use Rattle.block_memory.specs.Blocks.{Blocks, is_same_name}
use Rattle.block_memory.proofs.BlocksLemmas.{same_name}
use Rattle.pt_core.specs.CodeTree.{ProgramTree}
use Rattle.pt_core.specs.Values.{number_in}
use Rattle.marshalling.specs.Handles.{Entries}
use Rattle.marshalling.specs.HonestCalls.{for_callee, is_integer, renamed, revealed, revealed_block}
use Rattle.marshalling.specs.Packing.{is_among, names_of, number_of, packed}
use Rattle.marshalling.specs.Replies.{types_in}
use Rattle.marshalling.specs.Taking.{is_whole}
use Rattle.marshalling.proofs.NameLemmas.{all_targets, block_at, from_distinct, has_target, name_at}
use Rattle.marshalling_law.proofs.HonestLemmas.{call_opened, block_same}
use Rattle.marshalling_law.proofs.PostingLemmas.{packed_types}
use Rattle.part_views_law.specs.Views.{View, has_global, lying, seen, seen_block, seen_cell, served_view, slave_of, slave_view}
use Rattle.part_views_law.proofs.Instances.{none_own, received_lie, served_are_viewed}
use Rattle.part_views_law.specs.CrossingsCalls.{IsSent, Meet, body_memory, body_view, whole_memory}
use Rattle.part_views_law.specs.CrossingsLaws.{CallsBegin, BodiesAreViewed}
use Rattle.part_views_law.proofs.CrossingsMeeting.{views_meet}
use Rattle.part_views_law.proofs.CrossingsCells.{numbers_seen, integers_seen, block_shows}

-- ---- arguments

arguments_are : (slave monitor : ProgramTree) (base : ℕ) (store : Entries) (m others : Blocks) (names : List BlockName) (args : List Cell) → list_all (has_target names) args ≡ true →
    map (seen_cell (served_view monitor base names others)) (map (renamed names) (map (revealed store) args)) ≡ map (seen_cell (slave_view slave store m)) args
arguments_are slave monitor base store m others names [] h = refl
arguments_are slave monitor base store m others names (c ∷ args) h =
    ap (λ d. d ∷ map (seen_cell (served_view monitor base names others)) (map (renamed names) (map (revealed store) args))) (one c (and_true_first (has_target names c) (list_all (has_target names) args) h))
    ∙ ap (λ ds. seen_cell (slave_view slave store m) c ∷ ds) (arguments_are slave monitor base store m others names args (and_true_second (has_target names c) (list_all (has_target names) args) h))
  where
    one : (c : Cell) → has_target names c ≡ true → seen_cell (served_view monitor base names others) (renamed names (revealed store c)) ≡ seen_cell (slave_view slave store m) c
    one (cell.Int n) h = refl
    one (cell.Ptr Null) h = refl
    one (cell.Ptr (At block at count index)) h = ap (λ (b : BlockName). cell.Ptr (At b at count index)) (name_at names block (Received (number_of names block)) h)
    one (cell.Sealed handle) h = refl

-- a host and the policy see the same numbers
numbers_are : (slave : ProgramTree) (store : Entries) (m : Blocks) (names : List BlockName) (args : List Cell) → map number_in (map (seen_cell (slave_view slave store m)) args) ≡ map number_in (map (renamed names) (map (revealed store) args))
numbers_are slave store m names [] = refl
numbers_are slave store m names (c ∷ args) =
    ap (λ n. n ∷ map number_in (map (seen_cell (slave_view slave store m)) args)) (one c) ∙ ap (λ ns. number_in (renamed names (revealed store c)) ∷ ns) (numbers_are slave store m names args)
  where
    one : (c : Cell) → number_in (seen_cell (slave_view slave store m) c) ≡ number_in (renamed names (revealed store c))
    one (cell.Int n) = refl
    one (cell.Ptr Null) = refl
    one (cell.Ptr (At block at count index)) = refl
    one (cell.Sealed handle) = refl

-- ---- what was received

-- what all blocks of a call have, one of them has
pub of_name : (f : BlockName → Bool) (names : List BlockName) (name : BlockName) → list_all f names ≡ true → is_among names name ≡ true → f name ≡ true
of_name f [] name h among = cc
of_name f (n ∷ names) name h among = go (is_same_name n name) refl (of_name f names name (and_true_second (f n) (list_all f names) h)) among
  where
    go : (t : Bool) → is_same_name n name ≡ t → (is_among names name ≡ true → f name ≡ true) → (t || is_among names name) ≡ true → f name ≡ true
    go true e rest k = subst (λ b. f b ≡ true) (same_name n name e) (and_true_first (f n) (list_all f names) h)
    go false e rest k = rest k

pub types_named : (params : List Param) (x : Blocks) (args : List Cell) (name : BlockName) → list_all (λ n. is_whole (x n)) (names_of args) ≡ true → is_among (names_of args) name ≡ true →
    get_or (types_in (packed x params args)) (number_of (names_of args) name) [] ≡ (x name).types
types_named params x args name whole among =
    ap (λ (ts : List (List IntType)). get_or ts (number_of (names_of args) name) []) (packed_types x (names_of args) whole)
    ∙ block_at (λ n. (x n).types) (names_of args) name among

pub cells_named : (store : Entries) (x : Blocks) (args : List Cell) (name : BlockName) → is_among (names_of args) name ≡ true →
    get_or (for_callee store x args).blocks (number_of (names_of args) name) [] ≡ map (revealed store) (x name).cells
cells_named store x args name among = block_at (λ n. (revealed_block store (x n)).cells) (names_of args) name among

-- a name that was packed is the slave's own
pub slave_has : (slave : ProgramTree) (names : List BlockName) (name : BlockName) → ((g : ℕ) → is_among names (Global g) ≡ true → has_global slave g ≡ true) → is_among names name ≡ true → slave_of slave name ≡ Some name
slave_has slave names (Local d v) there among = refl
slave_has slave names (Global g) there among = ap (λ (t : Bool). if t then Some (Global g) else None) (there g among)
slave_has slave names (Received n) there among = refl

-- so the slave's view shows its block revealed
pub slave_shows : (slave : ProgramTree) (store : Entries) (m x : Blocks) (name : BlockName) → slave_of slave name ≡ Some name → seen (slave_view slave store m) x name ≡ revealed_block store (x name)
slave_shows slave store m x name has = ap (λ o. lying (slave_view slave store m) x name o) has ∙ block_shows slave store m (x name)

-- ---- the call

pub begun_meet : (slave monitor : ProgramTree) (base : ℕ) (store : Entries) (structs : List StructInfo) (params : List Param) (x m : Blocks) (args : List Cell) →
    IsSent slave monitor base store structs params x m args → Meet slave monitor base (names_of args) store x m (body_memory store params x m args) (whole_memory slave store m x)
begun_meet slave monitor base store structs params x m args sent = record {
  apart = sent.apart;
  globals = λ g h. ap (λ (cells : List Cell). record { types = (m (Global g)).types; cells = cells }) (numbers_seen v (m (Global g)).cells (sent.numbers g h));
  received = λ name among own.
      block_same (seen_block v (body_memory store params x m args (Received (number_of (names_of args) name)))) (revealed_block store (x name))
      (types_named params x args name sent.whole among)
      (ap (λ (cells : List Cell). map (seen_cell v) cells) (cells_named store x args name among)
      ∙ integers_seen v store (x name).cells (of_name (λ n. list_all is_integer (x n).cells) (names_of args) name sent.integers among))
      ∙ sym (slave_shows slave store m x name (slave_has slave (names_of args) name sent.there among));
  locals = λ depth k above. (sent.free depth k above, refl);
  beside = λ name own among. refl;
}
  where
    v : View
    v = body_view slave monitor base store x m args

pub calls_begin : CallsBegin
calls_begin slave monitor base store structs params x m args sent =
    let meet = begun_meet slave monitor base store structs params x m args sent in
    record {
      opened = call_opened store structs params x args sent.sendable sent.whole sent.integers;
      args_are = arguments_are slave monitor base store m (whole_memory slave store m x) (names_of args) args (all_targets [] args);
      numbers_are = numbers_are slave store m (names_of args) args;
      meet = meet;
      memory = views_meet slave monitor base (names_of args) store x m (body_memory store params x m args) (whole_memory slave store m x) meet;
    }

-- ---- the view

pub bodies_are_viewed : BodiesAreViewed
bodies_are_viewed slave monitor base store structs params x m args sent = record {
  view = served_are_viewed monitor base (names_of args) (whole_memory slave store m x);
  received = λ k lt. received_lie monitor base (names_of args) (whole_memory slave store m x) k (from_distinct [] args refl) lt (none_own monitor base (names_of args) sent.outside k lt);
}
