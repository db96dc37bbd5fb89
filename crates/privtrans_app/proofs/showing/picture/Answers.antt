use Rattle.std.proofs.Common.{◌≡◌, ℕ, List, [], Result, Ok, Err, IfOk, inr, subst}
use Rattle.std.specs.declared.alloc.AllocError.{AllocError}
use Rattle.stages.specs.Climb.{Texts, alone}
use Rattle.flow_picture.specs.Pictures.{IsPictured, Picture}
use Rattle.flow_picture.specs.PicturedSeen.{view_pictured}
use Rattle.privtrans_app.specs.EndingSeen.{shown_seen}
use Rattle.privtrans_app.specs.Gives.{Shows, by_lines, drawn, program_in}
use Rattle.privtrans_app.specs.declared.showing.Shown.{Shown}
use Rattle.privtrans_app.proofs.showing.picture.Goals as goal

drawn_shows : (t : Texts) (p : Picture) (r : Result Shown AllocError) → IsPictured t p → IfOk r (λ s. shown_seen s ≡ drawn p) → IfOk r (λ s. Shows [] by_lines IsPictured drawn t (shown_seen s))
drawn_shows t p (Ok s) is shown = inr (p, is, shown)
drawn_shows t p (Err wants) is shown = tt

pub returns-in-Ok : goal.returns-in-Ok
returns-in-Ok g c =
    let drawn_so : Picture = view_pictured c.in-Ok.pictured in
    drawn_shows (program_in c.args.texts.now) drawn_so c.drawing.result (subst (λ (text : List ℕ). IsPictured (alone text) drawn_so) c.text_at.ensures c.in-Ok.ensures) c.drawing.ensures
