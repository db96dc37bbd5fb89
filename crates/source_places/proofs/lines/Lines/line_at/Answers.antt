use Rattle.std.proofs.Common.{◌≤◌, ◌<◌, ◌∙◌, ap, arith, drop, length}
use Rattle.source_places.specs.Places.{line_after}
use Rattle.source_places.proofs.StartLemmas.{line_is, past_lines}
use Rattle.source_places.proofs.lines.Lines.line_at.Goals as goal

pub returns-then-list-feeds : goal.returns-then-list-feeds
returns-then-list-feeds c =
    let past : length c.as_slice-list.result.now < c.saturating_sub-feeds.result = grind arith in
    past_lines c.args.self.now.text.now c.as_slice-list.result.now (c.as_slice-list.ensures.value ∙ c.args.self.now.indexed) c.saturating_sub-feeds.result past
    ∙ ap (λ k. line_after k c.args.self.now.text.now) c.saturating_sub-feeds.ensures

pub returns : goal.returns
returns c =
    let within : c.saturating_sub-feeds.result ≤ length c.as_slice-list.result.now = grind arith in
    c.behind.ensures ∙ ap (drop c.start_of.result) c.first.ensures
    ∙ line_is c.args.self.now.text.now c.as_slice-list.result.now (c.as_slice-list.ensures.value ∙ c.args.self.now.indexed) c.saturating_sub-feeds.result _ _ within c.start_of.ensures c.end_of-end.ensures
    ∙ ap (λ k. line_after k c.args.self.now.text.now) c.saturating_sub-feeds.ensures
