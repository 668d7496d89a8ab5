use Rattle.std.proofs.Common.{◌≡◌, ◌∙◌, ℕ, List, Some, None, sym, ap, subst}
use Rattle.line_plan.specs.Frames.{end_places}
use Rattle.line_plan.specs.declared.signal.To.{To}
use Rattle.train_moves.specs.Standings.{first_standing}
use Rattle.train_moves.proofs.Standings.{standing_before, standing_behind}
use Rattle.train_moves.proofs.moves.first_in_way.Goals as goal

pub returns-in-Some : goal.returns-in-Some
returns-in-Some c =
    let over : first_standing c.args.tracks.now c.args.signal.now.over ≡ Some c.in-Some.there =
    subst (λ (places : List ℕ). first_standing c.args.tracks.now places ≡ Some c.in-Some.there) c.as_slice.ensures
    (sym c.in-Some.ensures) in
    sym (standing_before c.args.tracks.now c.args.signal.now.over (end_places c.args.signal.now.to) c.in-Some.there
    over)

pub returns-in-Place : goal.returns-in-Place
returns-in-Place c =
    let clear : first_standing c.args.tracks.now c.args.signal.now.over ≡ None =
    subst (λ (places : List ℕ). first_standing c.args.tracks.now places ≡ None) c.as_slice.ensures
    (sym c.first_standing.ensures ∙ c.in_default.is) in
    c.first_standing-in-Place.ensures
    ∙ ap (λ (to : To). first_standing c.args.tracks.now (end_places to)) (sym c.in-Place.is)
    ∙ sym (standing_behind c.args.tracks.now c.args.signal.now.over (end_places c.args.signal.now.to) clear)
