-- The marks of the audit: what is kept of the journal so far for each box and side, and which rules an entry breaks by
-- them.
use Rattle.std.specs.Prelude.{ℕ, ◌+◌, ◌==◌, Bool, true, false, not, ◌&&◌, ◌||◌, List, [], ◌∷◌, ◌++◌, map, filter}
use Rattle.std.specs.Prelude.{length, replicate, slice_index_or, slice_set, Option, Some, None, if◌then◌else◌}
use Rattle.block_words.specs.Ways.{opposite}
use Rattle.block_words.specs.declared.Position.{Position}
use Rattle.block_words.specs.declared.Position.TheVariants as shows
use Rattle.block_words.specs.declared.Way.{Way}
use Rattle.block_words.specs.declared.Way.TheVariants.{Up, Down}
use Rattle.line_plan.specs.Frames.{is_way, same_way}
use Rattle.line_plan.specs.Plans.{PlanFields}
use Rattle.line_law.specs.declared.call.Entry.{Entry}
use Rattle.line_law.specs.declared.ways.ByWay.{ByWay}
use Rattle.line_law.specs.History.{after_entry}
use Rattle.line_law.specs.Instruments.{same_position}
use Rattle.line_law.specs.Sections.{held_by}
use Rattle.line_law.specs.States.{LineState, opening_state}
use Rattle.line_law.specs.Ways.{of_way}
use Rattle.reg_audit.specs.declared.bell.BellEntry.{BellEntry}
use Rattle.reg_audit.specs.declared.bell.BellKind.{BellKind}
use Rattle.reg_audit.specs.declared.bell.BellKind.TheVariants as kinds
use Rattle.reg_audit.specs.declared.deed.Deed.{Deed}
use Rattle.reg_audit.specs.declared.deed.Deed.TheVariants as deeds
use Rattle.reg_audit.specs.declared.marks.SideMarks.{SideMarks}
use Rattle.reg_audit.specs.declared.rule.Breach.{Breach}
use Rattle.reg_audit.specs.declared.rule.Rule.{Rule}
use Rattle.reg_audit.specs.declared.rule.Rule.TheVariants as rules
use Rattle.reg_audit.specs.Bells.{answered_by, bell_on, call_attention, heard, is_class_code, rung}
use Rattle.reg_audit.specs.Bells.{train_entering_section, train_out_of_section}
use Rattle.reg_audit.specs.Breaches.{berthed_by, entered_by, is_divided, leaves_berth, passes_danger, section_into}
use Rattle.reg_audit.specs.Deeds.{deed_of}
use Rattle.reg_audit.specs.Rules.{all_rules}

-- ---- bell entries

abbrev pub same_kind : BellKind → BellKind → Bool
same_kind kinds.Rung kinds.Rung = true
same_kind kinds.Rung kinds.Heard = false
same_kind kinds.Heard kinds.Rung = false
same_kind kinds.Heard kinds.Heard = true

abbrev pub same_bell : BellEntry → BellEntry → Bool
same_bell one other = same_kind one.kind other.kind && (one.code == other.code)

-- the bell entry, if there is one, is this one
abbrev pub is_bell : Option BellEntry → BellEntry → Bool
is_bell None bell = false
is_bell (Some one) bell = same_bell one bell

-- a bell entry, if there is one and it answers none, by the last one before it
abbrev pub unprompted : Option BellEntry → Option BellEntry → Option BellEntry
unprompted last None = None
unprompted last (Some bell) = if is_bell last (answered_by bell) then None else Some bell

-- a bell entry of this kind with the code of some class
abbrev pub is_of_class : PlanFields → BellKind → Option BellEntry → Bool
is_of_class plan kind None = false
is_of_class plan kind (Some bell) = same_kind bell.kind kind && is_class_code plan bell.code

-- the later of two bell entries, if there is one
abbrev pub later_bell : Option BellEntry → Option BellEntry → Option BellEntry
later_bell (Some bell) last = Some bell
later_bell None last = last

-- ---- the marks of a side

-- whether there was one of a kind since the last mark, by whether the entry is a mark or one of the kind, and whether
-- there was one before
abbrev pub since_after : Bool → Bool → Bool → Bool
since_after mark such before = not mark && (such || before)

-- the commutator of an incoming line was turned to Line Clear
abbrev pub gives_clear : Way → Deed → Bool
gives_clear way (deeds.Turned turned position) = same_way turned way && same_position position shows.LineClear
gives_clear way deed = false

-- what the commutator of an incoming line shows
abbrev pub shown_after : Way → Deed → Position → Position
shown_after way (deeds.Turned turned position) before = if same_way turned way then position else before
shown_after way deed before = before

-- the marks of a side of a box after something was done there
abbrev pub side_after : PlanFields → Way → Deed → SideMarks → SideMarks
side_after plan side deed marks =
    let new = unprompted marks.last_bell (bell_on side deed) in
    record {
      last_bell = later_bell (bell_on side deed) marks.last_bell;
      offered = since_after (gives_clear (opposite side) deed) (is_of_class plan kinds.Heard new) marks.offered;
      entering = since_after (is_way side (entered_by deed)) (is_bell new (rung train_entering_section)) marks.entering;
      left = since_after (is_bell new (rung train_out_of_section)) (leaves_berth (opposite side) deed) marks.left;
      shown = shown_after (opposite side) deed marks.shown;
    }

-- no bell rung, no train offered, none announced, none gone, the commutator at Normal
abbrev pub opening_side : SideMarks
opening_side = record { last_bell = None; offered = false; entering = false; left = false; shown = shows.Normal }

-- ---- the marks of a box

abbrev pub opening_marks : ByWay SideMarks
opening_marks = record { up = opening_side; down = opening_side }

-- the marks of both sides of a box after something was done there
abbrev pub marks_after : PlanFields → Deed → ByWay SideMarks → ByWay SideMarks
marks_after plan deed marks =
    record { up = side_after plan Up deed marks.up; down = side_after plan Down deed marks.down }

-- the marks of box b
abbrev pub marks_at : List (ByWay SideMarks) → ℕ → ByWay SideMarks
marks_at marks b = slice_index_or marks b opening_marks

-- ---- the same, by what was done

-- the marks of a side after a code was rung or heard there
abbrev pub bell_marked : PlanFields → BellEntry → SideMarks → SideMarks
bell_marked plan bell marks =
    let new = unprompted marks.last_bell (Some bell) in
    record {
      last_bell = Some bell;
      offered = is_of_class plan kinds.Heard new || marks.offered;
      entering = is_bell new (rung train_entering_section) || marks.entering;
      left = not (is_bell new (rung train_out_of_section)) && marks.left;
      shown = marks.shown;
    }

-- the marks of the side from which a line comes after its commutator was turned
abbrev pub turn_marked : Position → SideMarks → SideMarks
turn_marked position marks =
    record {
      last_bell = marks.last_bell;
      offered = not (same_position position shows.LineClear) && marks.offered;
      entering = marks.entering;
      left = marks.left;
      shown = position;
    }

-- the marks of a side after a train went past a signal: into the section towards it, or out of the berth of the line
-- that comes from it
abbrev pub pass_marked : Bool → Bool → SideMarks → SideMarks
pass_marked entered gone marks =
    record {
      last_bell = marks.last_bell;
      offered = marks.offered;
      entering = not entered && marks.entering;
      left = gone || marks.left;
      shown = marks.shown;
    }

-- ---- the rules, by the marks before an entry and what was done by it

-- on one side
abbrev pub side_breaks_offer : PlanFields → Way → Deed → SideMarks → Bool
side_breaks_offer plan side deed marks =
    is_of_class plan kinds.Rung (unprompted marks.last_bell (bell_on side deed))
    && not (is_bell marks.last_bell (heard call_attention))

abbrev pub side_breaks_out : Way → Deed → SideMarks → Bool
side_breaks_out side deed marks =
    is_bell (unprompted marks.last_bell (bell_on side deed)) (rung train_out_of_section) && not marks.left

-- the commutator of a line was turned to Line Clear or to Normal
abbrev pub breaks_turned : ByWay SideMarks → ℕ → Rule → Way → Position → Bool
breaks_turned marks held rules.Clear way shows.LineClear = not (of_way marks (opposite way)).offered
breaks_turned marks held rules.Normal way shows.Normal = not (held == 0)
breaks_turned marks held rule way position = false

abbrev pub breaks_turning : ByWay SideMarks → ℕ → Rule → Deed → Bool
breaks_turning marks held rule (deeds.Turned way position) = breaks_turned marks held rule way position
breaks_turning marks held rule deed = false

abbrev pub breaks_entering : ByWay SideMarks → Option Way → Bool
breaks_entering marks None = false
breaks_entering marks (Some way) = not (of_way marks way).entering

abbrev pub breaks_berth : ByWay SideMarks → Option Way → Bool
breaks_berth marks None = false
breaks_berth marks (Some way) = not (same_position (of_way marks (opposite way)).shown shows.TrainOnLine)

abbrev pub is_release : Deed → Bool
is_release deeds.Released = true
is_release deed = false

-- a rule is broken by what a box did, by its marks before that and the trains that the section of a turned line holds
-- after it
abbrev pub is_broken : PlanFields → ByWay SideMarks → ℕ → Deed → Rule → Bool
is_broken plan marks held deed rules.Offer =
    side_breaks_offer plan Up deed marks.up || side_breaks_offer plan Down deed marks.down
is_broken plan marks held deed rules.Clear = breaks_turning marks held rules.Clear deed
is_broken plan marks held deed rules.Entering = breaks_entering marks (entered_by deed)
is_broken plan marks held deed rules.Berth = breaks_berth marks (berthed_by deed)
is_broken plan marks held deed rules.Out = side_breaks_out Up deed marks.up || side_breaks_out Down deed marks.down
is_broken plan marks held deed rules.Normal = breaks_turning marks held rules.Normal deed
is_broken plan marks held deed rules.Danger = passes_danger deed
is_broken plan marks held deed rules.Divided = is_divided deed
is_broken plan marks held deed rules.Release = is_release deed

-- the rules that may be broken by what was done, in their order
abbrev pub rules_on : Deed → List Rule
rules_on (deeds.Rang side code) = rules.Offer ∷ rules.Out ∷ []
rules_on (deeds.Heard side code) = []
rules_on (deeds.Turned way position) = rules.Clear ∷ rules.Normal ∷ []
rules_on (deeds.WentPast entered left at_danger) = rules.Entering ∷ rules.Danger ∷ []
rules_on (deeds.Berthed way) = rules.Berth ∷ []
rules_on (deeds.PartBerthed way) = rules.Berth ∷ rules.Divided ∷ []
rules_on deeds.Released = rules.Release ∷ []
rules_on deeds.Nothing = []

-- ---- a journal

-- how many trains the section of the line holds whose commutator was turned
abbrev pub held_beside : PlanFields → LineState → ℕ → Deed → ℕ
held_beside plan state b (deeds.Turned way position) = held_by plan state (section_into b way)
held_beside plan state b deed = 0

-- the breaches by entry k, in the order of the rules
abbrev pub breaches_at : PlanFields → ℕ → ByWay SideMarks → ℕ → Deed → List Breach
breaches_at plan k marks held deed =
    map (λ rule. record { entry = k; rule = rule }) (filter (is_broken plan marks held deed) all_rules)

-- the breaches by these entries, from entry k and a state with these marks on
abbrev pub breaches_from : PlanFields → LineState → List (ByWay SideMarks) → ℕ → List Entry → List Breach
breaches_from plan state marks k [] = []
breaches_from plan state marks k (e ∷ es) =
    breaches_at plan k (marks_at marks e.box_no)
    (held_beside plan (after_entry plan state e) e.box_no (deed_of plan e)) (deed_of plan e)
    ++ breaches_from plan (after_entry plan state e)
    (slice_set marks e.box_no (marks_after plan (deed_of plan e) (marks_at marks e.box_no))) (k + 1) es

-- the breaches of a journal, by entry and then by rule, as the marks tell them; `IsAuditOf` says what they are
abbrev pub breaches_of : PlanFields → List Entry → List Breach
breaches_of plan es = breaches_from plan (opening_state plan) (replicate (length plan.boxes) opening_marks) 1 es
