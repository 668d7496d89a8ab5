-- Which entries of a journal break which of the nine rules. Each is a sentence about the entry and what stands before
-- it in the journal.
use Rattle.std.specs.Prelude.{◌≡◌, ◌≢◌, ℕ, ◌+◌, ◌<◌, ◌≤◌, Bool, true, false, List, Option, Some, None, take}
use Rattle.block_words.specs.Ways.{opposite}
use Rattle.block_words.specs.declared.Position.{Position}
use Rattle.block_words.specs.declared.Position.TheVariants as shows
use Rattle.block_words.specs.declared.Way.{Way}
use Rattle.line_plan.specs.Plans.{PlanFields}
use Rattle.line_plan.specs.Sections.{next_box}
use Rattle.line_plan.specs.declared.section.Section.{Section}
use Rattle.line_law.specs.declared.call.Entry.{Entry}
use Rattle.line_law.specs.History.{state_of}
use Rattle.line_law.specs.Sections.{held_by}
use Rattle.line_law.specs.States.{box_at}
use Rattle.line_law.specs.Ways.{of_way}
use Rattle.reg_audit.specs.declared.deed.Deed.{Deed}
use Rattle.reg_audit.specs.declared.deed.Deed.TheVariants as deeds
use Rattle.reg_audit.specs.declared.rule.Breach.{Breach}
use Rattle.reg_audit.specs.declared.rule.Rule.{Rule}
use Rattle.reg_audit.specs.declared.rule.Rule.TheVariants as rules
use Rattle.reg_audit.specs.Bells.{IsLastBell, IsUnprompted, call_attention, heard, is_class_code, rung}
use Rattle.reg_audit.specs.Bells.{train_entering_section, train_out_of_section}
use Rattle.reg_audit.specs.Deeds.{HasDone}

-- ---- since

-- Before this place there was one of `such` since the last of `mark`: one behind which no `mark` stands before this
-- place. Where there is no `mark` at all, any one before this place is since then.
pub record HasSince (mark such : ℕ → Type 0) (place : ℕ) : Type 0 where
  pub there : ℕ
  pub earlier : there < place
  pub is : such there
  pub none_since : (other : ℕ) → there ≤ other → other < place → ¬ mark other

-- ---- what is done

-- box b turned the commutator of an incoming line to a position
abbrev pub IsTurned : PlanFields → List Entry → ℕ → Way → Position → ℕ → Type 0
IsTurned plan es b way position place = HasDone plan es b (λ deed. deed ≡ deeds.Turned way position) place

-- the section of an outgoing line into which a train went, if it went into one
abbrev pub entered_by : Deed → Option Way
entered_by (deeds.WentPast entered left at_danger) = entered
entered_by deed = None

-- a train entered the section of an outgoing line of box b
abbrev pub IsEntered : PlanFields → List Entry → ℕ → Way → ℕ → Type 0
IsEntered plan es b way place = HasDone plan es b (λ deed. entered_by deed ≡ Some way) place

-- a train left the berth of an incoming line
abbrev pub leaves_berth : Way → Deed → Bool
leaves_berth way (deeds.WentPast entered left at_danger) = of_way left way
leaves_berth way deed = false

-- a train left the berth of an incoming line of box b; where the line has no berth there, none ever does
abbrev pub IsLeaving : PlanFields → List Entry → ℕ → Way → ℕ → Type 0
IsLeaving plan es b way place = HasDone plan es b (λ deed. leaves_berth way deed ≡ true) place

-- the incoming line to whose berth a train came, whole or in part
abbrev pub berthed_by : Deed → Option Way
berthed_by (deeds.Berthed way) = Some way
berthed_by (deeds.PartBerthed way) = Some way
berthed_by deed = None

-- a train went past a signal at danger
abbrev pub passes_danger : Deed → Bool
passes_danger (deeds.WentPast entered left at_danger) = at_danger
passes_danger deed = false

-- a train came into a berth in part
abbrev pub is_divided : Deed → Bool
is_divided (deeds.PartBerthed way) = true
is_divided deed = false

-- the section of an incoming line of box b
abbrev pub section_into : ℕ → Way → Section
section_into b way = record { rear = next_box b (opposite way); way = way }

-- box b heard the code of some class from a side, and it was no answer: a train was offered
pub record IsOffered (plan : PlanFields) (es : List Entry) (b : ℕ) (side : Way) (place : ℕ) : Type 0 where
  pub code : ℕ
  pub class : is_class_code plan code ≡ true
  pub hears : IsUnprompted plan es b side (heard code) place

-- ---- the nine rules

-- 1, offer: the code of some class was rung, no answer, and the last earlier bell entry on that side isn't that Call
-- Attention was heard
pub record BreaksOffer (plan : PlanFields) (es : List Entry) (b place : ℕ) : Type 0 where
  pub side : Way
  pub code : ℕ
  pub class : is_class_code plan code ≡ true
  pub offers : IsUnprompted plan es b side (rung code) place
  pub unasked : ¬ IsLastBell plan es b side (heard call_attention) place

-- 2, clear: Line Clear was given, and since the box last gave it on that line no train was offered from the side from
-- which the line comes
pub record BreaksClear (plan : PlanFields) (es : List Entry) (b place : ℕ) : Type 0 where
  pub way : Way
  pub turned : IsTurned plan es b way shows.LineClear place
  pub unoffered : ¬ HasSince (IsTurned plan es b way shows.LineClear) (IsOffered plan es b (opposite way)) place

-- 3, entering: a train entered a section, and since the last one entered it from that box Train Entering Section
-- wasn't rung towards it but as an answer
pub record BreaksEntering (plan : PlanFields) (es : List Entry) (b place : ℕ) : Type 0 where
  pub way : Way
  pub entered : IsEntered plan es b way place
  pub unrung : ¬ HasSince (IsEntered plan es b way) (IsUnprompted plan es b way (rung train_entering_section)) place

-- 4, berth: a train came to the berth, whole or in part, while the commutator didn't show Train on Line
pub record BreaksBerth (plan : PlanFields) (es : List Entry) (b place : ℕ) : Type 0 where
  pub way : Way
  pub berthed : HasDone plan es b (λ deed. berthed_by deed ≡ Some way) place
  pub shown : (of_way (box_at (state_of plan (take place es)) b).incoming way).position ≢ shows.TrainOnLine

-- 5, out: Train Out of Section was rung, no answer, and since it was last rung so towards that side no train has left
-- the berth of the line that comes from there
pub record BreaksOut (plan : PlanFields) (es : List Entry) (b place : ℕ) : Type 0 where
  pub side : Way
  pub tells : IsUnprompted plan es b side (rung train_out_of_section) place
  pub unleft : ¬ HasSince (IsUnprompted plan es b side (rung train_out_of_section))
      (IsLeaving plan es b (opposite side)) place

-- 6, normal: the commutator was turned to Normal, and the section isn't empty after that
pub record BreaksNormal (plan : PlanFields) (es : List Entry) (b place : ℕ) : Type 0 where
  pub way : Way
  pub turned : IsTurned plan es b way shows.Normal place
  pub held : held_by plan (state_of plan (take (place + 1) es)) (section_into b way) ≢ 0

-- The entry at this place, from 0, breaks the rule; it is one of box b. The last three, danger, divided and release,
-- are broken by every train that goes past a signal at danger, by every one that comes to the berth in part, and by
-- every release.
abbrev pub Breaks : PlanFields → List Entry → Rule → ℕ → ℕ → Type 0
Breaks plan es rules.Offer b place = BreaksOffer plan es b place
Breaks plan es rules.Clear b place = BreaksClear plan es b place
Breaks plan es rules.Entering b place = BreaksEntering plan es b place
Breaks plan es rules.Berth b place = BreaksBerth plan es b place
Breaks plan es rules.Out b place = BreaksOut plan es b place
Breaks plan es rules.Normal b place = BreaksNormal plan es b place
Breaks plan es rules.Danger b place = HasDone plan es b (λ deed. passes_danger deed ≡ true) place
Breaks plan es rules.Divided b place = HasDone plan es b (λ deed. is_divided deed ≡ true) place
Breaks plan es rules.Release b place = HasDone plan es b (λ deed. deed ≡ deeds.Released) place

-- an entry of a journal, by its number from 1, breaks a rule
pub record IsBreach (plan : PlanFields) (es : List Entry) (breach : Breach) : Type 0 where
  pub place : ℕ
  pub number : breach.entry ≡ place + 1
  pub box_no : ℕ
  pub breaks : Breaks plan es breach.rule box_no place
