-- What a box has in hand behind a journal, as far as the regulations ask: the marks of the audit, and the last code of
-- each side where it is no answer.
use Rattle.std.specs.Prelude.{◌≡◌, ◌↔◌, ℕ, ◌<◌, ◌==◌, true, List, [], ◌∷◌, length, Option, Some, None}
use Rattle.std.specs.Prelude.{if◌then◌else◌}
use Rattle.block_words.specs.Ways.{opposite}
use Rattle.block_words.specs.declared.Position.TheVariants as shows
use Rattle.block_words.specs.declared.Way.{Way}
use Rattle.block_words.specs.declared.Way.TheVariants.{Up, Down}
use Rattle.line_plan.specs.Plans.{PlanFields}
use Rattle.line_law.specs.declared.call.Entry.{Entry}
use Rattle.line_law.specs.Ways.{of_way}
use Rattle.reg_audit.specs.declared.behind.InHand.{InHand}
use Rattle.reg_audit.specs.declared.bell.BellEntry.{BellEntry}
use Rattle.reg_audit.specs.declared.deed.Deed.{Deed}
use Rattle.reg_audit.specs.declared.marks.SideMarks.{SideMarks}
use Rattle.reg_audit.specs.Bells.{IsBell, IsUnprompted, bell_on, rung, train_entering_section, train_out_of_section}
use Rattle.reg_audit.specs.Breaches.{HasSince, IsEntered, IsLeaving, IsOffered, IsTurned}
use Rattle.reg_audit.specs.Deeds.{deed_of}
use Rattle.reg_audit.specs.Marks.{marks_after, opening_marks, unprompted}

-- ---- as it is told

-- the last bell entry on a side, where it is no answer, by the last one before and what was rung or heard there
abbrev pub asked_after : Option BellEntry → Option BellEntry → Option BellEntry → Option BellEntry
asked_after last None asked = asked
asked_after last (Some bell) asked = unprompted last (Some bell)

-- what a box has in hand after something was done there
abbrev pub hand_after : PlanFields → Deed → InHand → InHand
hand_after plan deed hand = record {
  marks = marks_after plan deed hand.marks;
  asked = record {
    up = asked_after hand.marks.up.last_bell (bell_on Up deed) hand.asked.up;
    down = asked_after hand.marks.down.last_bell (bell_on Down deed) hand.asked.down;
  };
}

-- before the first entry
abbrev pub opening_hand : InHand
opening_hand = record { marks = opening_marks; asked = record { up = None; down = None } }

-- the same behind these entries, of which those of box b are its own
abbrev pub hand_from : PlanFields → ℕ → InHand → List Entry → InHand
hand_from plan b hand [] = hand
hand_from plan b hand (e ∷ es) =
    hand_from plan b (if e.box_no == b then hand_after plan (deed_of plan e) hand else hand) es

-- what box b has in hand behind a journal
abbrev pub in_hand : PlanFields → ℕ → List Entry → InHand
in_hand plan b es = hand_from plan b opening_hand es

-- ---- what that is

-- before this place the last bell entry of box b on that side is this one, and it is no answer
pub record IsLastUnprompted (plan : PlanFields) (es : List Entry) (b : ℕ) (side : Way) (bell : BellEntry) (place : ℕ)
    : Type 0 where
  pub last : ℕ
  pub earlier : last < place
  pub is : IsUnprompted plan es b side bell last
  pub none_between : (other : ℕ) (another : BellEntry) → last < other → other < place
      → ¬ IsBell plan es b side another other

-- What box b has in hand on a side behind a journal: whether a train was offered since Line Clear was last given,
-- whether Train Entering Section was rung since a train last entered the section towards there, whether a train has
-- left the berth since Train Out of Section was last rung, and the last bell entry, where it is no answer.
pub record IsInHand (plan : PlanFields) (es : List Entry) (b : ℕ) (side : Way) (marks : SideMarks)
    (code : Option BellEntry) : Type 0 where
  pub offered : marks.offered ≡ true
      ↔ HasSince (IsTurned plan es b (opposite side) shows.LineClear) (IsOffered plan es b side) (length es)
  pub entering : marks.entering ≡ true
      ↔ HasSince (IsEntered plan es b side) (IsUnprompted plan es b side (rung train_entering_section)) (length es)
  pub left : marks.left ≡ true
      ↔ HasSince (IsUnprompted plan es b side (rung train_out_of_section)) (IsLeaving plan es b (opposite side))
      (length es)
  pub asked : (bell : BellEntry) → (code ≡ Some bell ↔ IsLastUnprompted plan es b side bell (length es))
