-- The slave's view, and that of a served body.
use Rattle.std.proofs.Common.{◌≡◌, ◌∙◌, ◌<◌, ℕ, List, length, ap, refl, sym, subst, get_or, Bool, true, false, if◌then◌else◌, Some, None}
use Rattle.pt_base.proofs.Options.{some_not_none, some_same}
use Rattle.block_memory.specs.declared.cell.BlockName.{BlockName}
use Rattle.block_memory.specs.declared.cell.BlockName.TheVariants.{Local, Global, Received}
use Rattle.pt_core.specs.CodeTree.{ProgramTree}
use Rattle.marshalling.specs.Packing.{is_among, number_of}
use Rattle.marshalling.proofs.NameLemmas.{get_among, name_at, number_at}
use Rattle.part_views_law.specs.Laws.{ReceivedLie, ServedAreViewed, SlavesAreViewed}
use Rattle.part_views_law.specs.Views.{has_global, is_own, served_at, served_of, slave_of}

pub slaves_are_viewed : SlavesAreViewed
slaves_are_viewed slave base store beside = record { own = own; back = back }
  where
    own : (name : BlockName) → is_own slave base name ≡ true → (name ≡ name) × (slave_of slave name ≡ Some name)
    own (Local d k) h = (refl, refl)
    own (Global g) h = (refl, ap (λ (t : Bool). if t then Some (Global g) else None) h)
    own (Received n) h = cc

    global_back : (g : ℕ) (b : BlockName) (t : Bool) → (if t then Some (Global g) else None) ≡ Some b → b ≡ Global g
    global_back g b true e = sym (some_same (Global g) b e)
    global_back g b false e = some_not_none b (sym e)

    back : (name b : BlockName) → slave_of slave name ≡ Some b → b ≡ name
    back (Local d k) b e = sym (some_same (Local d k) b e)
    back (Global g) b e = global_back g b (has_global slave g) e
    back (Received n) b e = sym (some_same (Received n) b e)

pub served_are_viewed : ServedAreViewed
served_are_viewed monitor base names beside = record { own = λ name h. (own_at name h, own_there name h); back = λ name b e. back name b (is_own monitor base name) refl e }
  where
    own_at : (name : BlockName) → is_own monitor base name ≡ true → served_at names name ≡ name
    own_at (Local d k) h = refl
    own_at (Global g) h = refl
    own_at (Received n) h = cc

    own_there : (name : BlockName) → is_own monitor base name ≡ true → served_of monitor base names name ≡ Some name
    own_there name h = ap (λ (t : Bool). if t then Some name else (if is_among names name then Some (Received (number_of names name)) else None)) h

    packed_back : (name b : BlockName) (t : Bool) → is_among names name ≡ t → (if t then Some (Received (number_of names name)) else None) ≡ Some b → served_at names b ≡ name
    packed_back name b true is e = subst (λ c. served_at names c ≡ name) (some_same (Received (number_of names name)) b e) (name_at names name (Received (number_of names name)) is)
    packed_back name b false is e = some_not_none b (sym e)

    back : (name b : BlockName) (t : Bool) → is_own monitor base name ≡ t → (if t then Some name else (if is_among names name then Some (Received (number_of names name)) else None)) ≡ Some b → served_at names b ≡ name
    back name b true own e = subst (λ c. served_at names c ≡ name) (some_same name b e) (own_at name own)
    back name b false own e = packed_back name b (is_among names name) refl e

-- where none of the names is the body's own, so is none by its number
pub none_own : (monitor : ProgramTree) (base : ℕ) (names : List BlockName) → ((name : BlockName) → is_among names name ≡ true → is_own monitor base name ≡ false) → (k : ℕ) → k < length names → is_own monitor base (get_or names k (Received k)) ≡ false
none_own monitor base names outside k lt = outside (get_or names k (Received k)) (get_among names k (Received k) lt)

pub received_lie : ReceivedLie
received_lie monitor base names beside k distinct lt outside =
    let name : BlockName = get_or names k (Received k) in
    let among : is_among names name ≡ true = get_among names k (Received k) lt in
    ap (λ (t : Bool). if t then Some name else (if is_among names name then Some (Received (number_of names name)) else None)) outside
    ∙ ap (λ (t : Bool). if t then Some (Received (number_of names name)) else None) among
    ∙ ap (λ j. Some (Received j)) (number_at names k (Received k) distinct lt)
