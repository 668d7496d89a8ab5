use Rattle.std.proofs.Common.{◌≡◌, ◌+◌, ℕ, Bool, true, false, List, Some, None, cond, refl, sym}
use Rattle.line_law.specs.declared.call.Reply.TheVariants.{SectionFull}
use Rattle.line_law.specs.declared.state.Passage.{Passage}
use Rattle.line_law.specs.Trains.{entry_refusal, holds}
use Rattle.line_law.specs.Ways.{of_way}
use Rattle.line_law.proofs.state.BoxState.enter.Goals as goal

-- where nothing refuses the k-th train, the plain line doesn't hold the train four before it
has_room : (line : List Passage) (k : ℕ) → entry_refusal line k ≡ None → holds line k ≡ false
has_room line k = by (holds line k) where
  by : (full : Bool) → cond full (Some (SectionFull k)) None ≡ None → full ≡ false
  by true refused = absurd cc
  by false refused = refl

pub returns : goal.returns
returns c =
    let free : holds c.args.line.now (of_way c.args.self.now.sent c.args.way + 1) ≡ false =
    has_room c.args.line.now (of_way c.args.self.now.sent c.args.way + 1)
    (rw (← c.get-k.ensures) (sym c.in_default.ensures)) in
    rw (free, c.set.ensures, c.leave.ensures, c.push.ensures, c.get-k.ensures) refl
