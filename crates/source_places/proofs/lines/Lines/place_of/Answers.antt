use Rattle.std.proofs.Common.{◌≡◌, ◌≤◌, ◌∙◌, arith, length}
use Rattle.source_places.proofs.StartLemmas.{list_rises, place_is}
use Rattle.source_places.proofs.lines.Lines.place_of.Goals as goal

pub begun-feeds-requires : goal.begun-feeds-requires
begun-feeds-requires c = list_rises c.args.self.now.text.now _ (c.as_slice-list.ensures.value ∙ c.args.self.now.indexed)

pub returns : goal.returns
returns c =
    let few : c.begun-feeds.result ≤ length c.as_slice-list.result.now = c.begun-feeds.ensures.few in
    let all : c.min-within.result ≡ c.begun-feeds.result = grind arith in
    place_is c.args.self.now.text.now _ (c.as_slice-list.ensures.value ∙ c.args.self.now.indexed) c.args.offset _ _ _ _ _
    c.begun-feeds.ensures.begun all c.start_of.ensures c.min-here.ensures c.saturating_sub.ensures
