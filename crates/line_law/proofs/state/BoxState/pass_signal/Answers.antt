use Rattle.std.proofs.Common.{◌≡◌, Some, None, sym}
use Rattle.line_law.specs.Tracks.{train_on}
use Rattle.line_law.specs.Trains.{pass_refusal}
use Rattle.line_law.proofs.state.BoxState.pass_signal.Goals as goal

pub returns : goal.returns
returns c =
    let train : train_on c.args.self.now.places c.args.signal.now.from ≡ Some c.in-Some.train =
    cc (c.in-Some.ensures, c.as_slice.ensures) in
    let may : pass_refusal c.args.self.now c.args.signal.now ≡ None =
    sym c.in_default-pass_refusal.ensures in
    rw (train, may) c.go.ensures
