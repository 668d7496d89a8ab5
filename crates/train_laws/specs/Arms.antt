-- Arms that trains have passed, and levers that are put back and pulled again.
use Rattle.std.specs.Prelude.{◌≡◌, ℕ, ◌==◌, Bool, true, false, List, ◌∷◌, ◌++◌, IsTrue}
use Rattle.line_law.specs.declared.call.Act.{Act}
use Rattle.line_law.specs.declared.call.Act.TheVariants as acts
use Rattle.line_law.specs.declared.call.Entry.{Entry}
use Rattle.line_law.specs.declared.call.Reply.{Reply}
use Rattle.line_law.specs.declared.call.Reply.TheVariants as replies
use Rattle.line_law.specs.LeverEnds.{is_off, is_pulled}
use Rattle.line_law.specs.States.{LineState, box_at}
use Rattle.train_laws.specs.MayPull.{tells_pulled}

-- the arm of box b's lever is off
abbrev pub arm_off : LineState → ℕ → ℕ → Bool
arm_off state b lever = is_off (box_at state b).off lever

-- box b's lever is reversed
abbrev pub lever_reversed : LineState → ℕ → ℕ → Bool
lever_reversed state b lever = is_pulled (box_at state b).ends lever

-- a call by which a train passes or overruns the signal of a lever
abbrev pub moves_past : ℕ → Act → Bool
moves_past lever (acts.Pass other) = other == lever
moves_past lever (acts.Overrun other) = other == lever
moves_past lever act = false

-- the train went past the signal
abbrev pub tells_moved : Reply → Bool
tells_moved (replies.Passed train) = true
tells_moved (replies.Entered train k) = true
tells_moved reply = false

-- a train passed or overran the signal of box b's lever
pub record GoesPast (b lever : ℕ) (e : Entry) : Type 0 where
  pub box : e.box_no ≡ b
  pub act : IsTrue (moves_past lever e.call.act)
  pub reply : IsTrue (tells_moved e.reply)

-- box b put its lever back
pub record PutsBack (b lever : ℕ) (e : Entry) : Type 0 where
  pub box : e.box_no ≡ b
  pub act : e.call.act ≡ acts.Put lever
  pub reply : e.reply ≡ replies.Put

-- box b pulled its lever
pub record PullsLever (b lever : ℕ) (e : Entry) : Type 0 where
  pub box : e.box_no ≡ b
  pub act : e.call.act ≡ acts.Pull lever
  pub reply : IsTrue (tells_pulled e.reply)

-- among these entries box b pulled its lever
pub record WasPulled (b lever : ℕ) (es : List Entry) : Type 0 where
  pub before : List Entry
  pub pull : Entry
  pub after : List Entry
  pub split : es ≡ before ++ pull ∷ after
  pub pulled : PullsLever b lever pull

-- among these entries box b put its lever back, and pulled it again after that
pub record WasPulledAgain (b lever : ℕ) (es : List Entry) : Type 0 where
  pub before : List Entry
  pub put : Entry
  pub after : List Entry
  pub split : es ≡ before ++ put ∷ after
  pub back : PutsBack b lever put
  pub again : WasPulled b lever after
