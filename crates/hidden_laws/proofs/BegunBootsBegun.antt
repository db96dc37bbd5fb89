-- What begins from texts is of accepted programs, of which the laws on boots hold.
use Rattle.std.proofs.Common.{◌≡◌, ◌∙◌, ap, sym, subst, ℕ, List}
use Rattle.typed_tree.specs.TypedTree.{TypedTree}
use Rattle.front_end.specs.Reading.{HasTypedTree, ReadingIsOne, typed_tree}
use Rattle.low_views_law.specs.ToldBootsSameForSlave.{IsSameForSlave}
use Rattle.low_views_law.specs.ToldBootsBareBoots.{bare_boot}
use Rattle.low_views_law.specs.ToldBootsLaws.{BootsTellNothingPrivileged, BootsTellOnlyPlaces, ProgramsAreTheSameAsThemselves}
use Rattle.hidden_laws.specs.BegunBootsLaws.{BegunBootsTellNothingPrivileged, BegunBootsTellOnlyPlaces, BegunBootsTellOwnHostsAlone}

pub boots_same : BootsTellNothingPrivileged → BegunBootsTellNothingPrivileged
boots_same law s r turns boot other first second b same =
    let x = b.here.started in
    let y = b.there.started in
    x.boot_is ∙ law x.tree y.tree x.accepted y.accepted x.hosts y.hosts s.input r.input turns b.here.well_formed b.there.well_formed x.is y.is same b.outside ∙ sym y.boot_is

pub boots_placed : BootsTellOnlyPlaces → BegunBootsTellOnlyPlaces
boots_placed law s r turns boot other first second b same =
    let x = b.here.started in
    let y = b.there.started in
    ap bare_boot x.boot_is
    ∙ law x.tree y.tree x.accepted y.accepted x.hosts y.hosts s.input r.input turns b.here.well_formed b.there.well_formed x.is y.is same b.outside
    ∙ sym (ap bare_boot y.boot_is)

-- a text has one typed tree
one_tree : ReadingIsOne → (text other : List ℕ) (t u : TypedTree) → text ≡ other → HasTypedTree text t → HasTypedTree other u → t ≡ u
one_tree reading text other t u e h i = same (reading text (typed_tree t) (typed_tree u) h (subst (λ (x : List ℕ). HasTypedTree x u) (sym e) i))
  where
    same : typed_tree t ≡ typed_tree u → t ≡ u
    same e = cc

pub boots_hosted : BootsTellNothingPrivileged → ProgramsAreTheSameAsThemselves → ReadingIsOne → BegunBootsTellOwnHostsAlone
boots_hosted law selves reading s r turns boot other first second b e =
    let x = b.here.started in
    let y = b.there.started in
    let tree = one_tree reading s.program r.program x.tree y.tree e x.read.program y.read.program in
    boots_same law s r turns boot other first second b (subst (λ (u : TypedTree). IsSameForSlave x.tree u) tree (selves x.tree b.here.well_formed))
