-- What the pairs of several inputs share.
use Rattle.std.proofs.Common.{◌≡◌, ◌≤◌, ◌∙◌, ℕ, zero, suc, List, [], ◌∷◌, Some, length, map, refl, sym, ap, subst, arith, inl, inr, ◌⊎◌}
use Rattle.std.specs.Prelude.{slice_get, take}
use Rattle.typed_tree.specs.TypedTree.{TypedTree}
use Rattle.typed_tree.specs.TypedView.{view_typed}
use Rattle.host_table.specs.Hosts.{hosts_of}
use Rattle.host_table.specs.RunHosts.{models_of}
use Rattle.pt_core.specs.CodeTree.{SlaveTree, view_monitor, view_slave}
use Rattle.pair_meaning.specs.Start.{boot_of, monitor_start}
use Rattle.stages.specs.Climb.{IsRefused, Refusal, StopsAt, input, of_pair}
use Rattle.stages.specs.Commands.{AreCut, without_ways}
use Rattle.stages.specs.GivenHosts.{most}
use Rattle.stages.specs.Seen.{HavePassed, IsStop}
use Rattle.stages.specs.declared.climbs.PassedTexts.{PassedTexts}
use Rattle.stages.specs.declared.refusal.Stop.{Stop}
use Rattle.stages.specs.declared.refusal.Stop.TheVariants as stop
use Rattle.stages.proofs.Cuts.{first_bytes}
use Rattle.stages.proofs.OneRefusal.{one_refusal}
use Rattle.pair_texts.specs.declared.sharing.Shared.{Shared}
use Rattle.pair_texts.specs.Several.{AreCutInputs, AreCutShared, AreShared, IsHaltOfOne, IsOneRefused, SharedTexts, StopOne, with_input}
use Rattle.pair_texts.specs.Start.{HaveBegun}
use Rattle.pair_texts.proofs.Parts.{input_stops}

-- ---- where they stop

pub first_input : (xs : List (List ℕ)) → 1 ≤ length xs → (x : List ℕ) × (slice_get xs 0 ≡ Some x)
first_input [] some = absurd (omega (arith, some))
first_input (x ∷ xs) some = (x, refl)

pub stop_one : (t : SharedTexts) (all : List (List ℕ)) (place : ℕ) (x : List ℕ) (e : Stop) → slice_get all place ≡ Some x → IsStop of_pair (with_input t x) e → StopOne t all e
stop_one t all place x (stop.Refused r) at is = (place, x, at, is)
stop_one t all place x stop.Memory at is = tt

pub one_halts : (t : SharedTexts) (all : List (List ℕ)) (passed : PassedTexts) (e : Stop) → ((x : List ℕ) → HavePassed (with_input t x) passed) → IsHaltOfOne all e → StopOne t all e
one_halts t all passed e have halt =
    stop_one t all halt.place halt.input e halt.stands
    (input_stops (with_input t halt.input) passed e (have halt.input) (halt.halts (with_input t halt.input) (view_typed passed.program) refl))

-- ---- what starts

-- the slave and the monitor of the pair with this input, which is short
pub shared_begin : (t : SharedTexts) (x : Shared) (bytes : List ℕ) (turns : ℕ) → AreShared t x → length bytes ≤ most →
    HaveBegun (with_input t bytes) turns (boot_of (view_slave x.slave) (models_of (hosts_of x.hosts).models) bytes turns)
    (monitor_start (view_monitor x.monitor) (models_of (hosts_of x.hosts).models) bytes x.policy turns)
shared_begin t x bytes turns s short = record {
  well_formed = s.well_formed;
  has_hosts = s.fit;
  started = record {
    tree = s.tree;
    hosts = hosts_of x.hosts;
    rules = x.policy.rules;
    accepted = s.accepted;
    read = record { program = s.has; table = s.given; policy = s.rules };
    is = s.is;
    short = short;
    boot_is = ap (λ (half : SlaveTree). boot_of half (models_of (hosts_of x.hosts).models) bytes turns) s.slave_is;
    monitor_is = λ i. monitor_start (s.monitor_is i) (models_of (hosts_of x.hosts).models) bytes (s.begins i) turns;
  };
}

-- ---- one of them is refused

-- a stage before that of inputs stops the pair with another input as well
another_stop : (t : SharedTexts) (x y : List ℕ) (tree : TypedTree) (r : Refusal) → StopsAt of_pair (with_input t x) tree r → StopsAt of_pair (with_input t y) tree r ⊎ (r ≡ input)
another_stop t x y tree r (inl table) = inl (inl table)
another_stop t x y tree r (inr (gives, inl policy)) = inl (inr (gives, inl policy))
another_stop t x y tree r (inr (gives, inr (reads, inl flow))) = inl (inr (gives, inr (reads, inl flow)))
another_stop t x y tree r (inr (gives, inr (reads, inr (accepts, inl (long, is))))) = inr is
another_stop t x y tree r (inr (gives, inr (reads, inr (accepts, inr (short, none))))) = absurd none

another_tree : (t : SharedTexts) (y : List ℕ) (tree : TypedTree) (r : Refusal) → (StopsAt of_pair (with_input t y) tree r → IsRefused of_pair (with_input t y) r)
    → StopsAt of_pair (with_input t y) tree r ⊎ (r ≡ input) → IsRefused of_pair (with_input t y) r ⊎ (r ≡ input)
another_tree t y tree r make (inl stops) = inl (make stops)
another_tree t y tree r make (inr is) = inr is

another : (t : SharedTexts) (x y : List ℕ) (r : Refusal) → IsRefused of_pair (with_input t x) r → IsRefused of_pair (with_input t y) r ⊎ (r ≡ input)
another t x y r (inl unread) = inl (inl unread)
another t x y r (inr (tree, has, stops)) = another_tree t y tree r (λ s. inr (tree, has, s)) (another_stop t x y tree r stops)

-- two refusals, of pairs with this input and that one
both_refused : (t : SharedTexts) (x y : List ℕ) (r s : Refusal) → IsRefused of_pair (with_input t x) r → IsRefused of_pair (with_input t y) s
    → IsRefused of_pair (with_input t y) r ⊎ (r ≡ input) → IsRefused of_pair (with_input t x) s ⊎ (s ≡ input) → without_ways r ≡ without_ways s
both_refused t x y r s p q (inl there) other = one_refusal of_pair (with_input t y) r s there q
both_refused t x y r s p q (inr is) (inl here) = one_refusal of_pair (with_input t x) r s p here
both_refused t x y r s p q (inr is) (inr same) = ap without_ways (is ∙ sym same)

pub one_refused : (t : SharedTexts) (all : List (List ℕ)) (r s : Refusal) → IsOneRefused t all r → IsOneRefused t all s → without_ways r ≡ without_ways s
one_refused t all r s a b = both_refused t a.1 b.1 r s a.3 b.3 (another t a.1 b.1 r a.3) (another t b.1 a.1 s b.3)

-- ---- first bytes

pub cut_of : (whole cut : SharedTexts) (x y : List ℕ) → AreCutShared whole cut → y ≡ take 1048577 x → AreCut (with_input whole x) (with_input cut y)
cut_of whole cut x y are is = record { program = are.program; host = are.host; policy = are.policy; input = is; way = refl }

some_is : (a b : List ℕ) → Some a ≡ Some b → a ≡ b
some_is a b e = cc

-- what stands in a list that was made of another
at_cut : (all : List (List ℕ)) (place : ℕ) (y : List ℕ) → slice_get (map (take 1048577) all) place ≡ Some y → (x : List ℕ) × (slice_get all place ≡ Some x) × (y ≡ take 1048577 x)
at_cut [] place y at = cc
at_cut (x ∷ xs) zero y at = (x, refl, some_is y (take 1048577 x) (sym at))
at_cut (x ∷ xs) (suc place) y at = at_cut xs place y at

pub refused_whole : (whole cut : SharedTexts) (all some : List (List ℕ)) (r : Refusal) → AreCutShared whole cut → AreCutInputs all some → IsOneRefused cut some r → IsOneRefused whole all r
refused_whole whole cut all some r are is x =
    let at = at_cut all x.0 x.1 (subst (λ (xs : List (List ℕ)). slice_get xs x.0 ≡ Some x.1) is x.2) in
    (x.0, at.0, at.1, (first_bytes of_pair (with_input whole at.0) (with_input cut x.1) (cut_of whole cut at.0 x.1 are at.2)).0 r x.3)
