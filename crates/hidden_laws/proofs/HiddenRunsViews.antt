-- What may be known of a monitor at its start is told by the boot and the rules of the policy.
use Rattle.std.proofs.Common.{◌≡◌, ◌∙◌, ℕ, List, [], sym, ap}
use Rattle.pt_tree.specs.declared.signature.Signature.{Signature}
use Rattle.typed_tree.specs.declared.types.StructInfo.{StructInfo}
use Rattle.policy.specs.declared.rule.Rule.{Rule}
use Rattle.policy.specs.Verdicts.{start}
use Rattle.splitter.specs.Halves.{called_by, halves_of}
use Rattle.pt_core.specs.CodeTree.{BootTree}
use Rattle.pair_meaning.specs.Monitors.{Low, Monitor, low}
use Rattle.pair_texts.specs.Start.{HaveBegun, Texts}
use Rattle.hidden_laws.specs.HiddenRunsLaws.{BegunRunsAreLow, BootsAndRulesTellAll}
use Rattle.hidden_laws.proofs.HiddenRunsEntries.{entries_same}

abbrev known : List StructInfo → List (ℕ × Signature) → List Rule → ℕ → Low
known structs entries rules turns = record { structs = structs; entries = entries; types = []; policy = start rules; calls = 0; last = 0; budget = turns }

same_views : (t t' : Texts) (turns : ℕ) (b b' : BootTree) (m m' : Monitor) (one : HaveBegun t turns b m) (other : HaveBegun t' turns b' m') → b ≡ b' → one.started.rules ≡ other.started.rules → low m ≡ low m'
same_views t t' turns b b' m m' one other boots rules =
    let same = sym one.started.boot_is ∙ boots ∙ other.started.boot_is in
    let structs = ap (λ (x : BootTree). x.structs) same in
    let entries =
    entries_same one.started.tree other.started.tree (halves_of one.started.accepted.sides) (halves_of other.started.accepted.sides) (ap (λ (x : BootTree). called_by x.functions) same)
    (ap (λ (x : BootTree). x.signatures) same) in
    ap low one.started.monitor_is ∙ (λ i. known (structs i) (entries i) (rules i) turns) ∙ sym (ap low other.started.monitor_is)

pub boots_tell : BegunRunsAreLow → BootsAndRulesTellAll
boots_tell law t t' turns b b' m m' own own' begin boots rules = law t t' turns b b' m m' own own' begin boots (same_views t t' turns b b' m m' begin.one begin.other boots rules)
