-- The lines of the made line's boxes are read as those boxes.
use Rattle.std.proofs.Common.{◌≡◌, ℕ, List, [], ◌∷◌, ◌++◌, Result, refl, ◌∙◌}
use Rattle.rail_text.specs.Lines.{lines_of}
use Rattle.rail_text.specs.Gives.{Fault}
use Rattle.rail_text.specs.Forms.{form_of}
use Rattle.rail_text.specs.Texts.{line_onto, lines_onto}
use Rattle.line_plan.specs.Plans.{no_box}
use Rattle.plan_draft.specs.Drafts.{DraftFields, start}
use Rattle.plan_draft.specs.Reading.{words_onto, has_ended, line_kind, may_follow, kind_onto, plan_onto, boxes_onto}
use Rattle.plan_draft.specs.Reading.{delay_onto, looks_onto, box_onto, here_onto, box_with}
use Rattle.plan_draft.specs.LineWords.{new_name, number_in_names, places_onto, way_in, kind_in, end_in, lever_in}
use Rattle.plan_draft.specs.LineWords.{working_in}
use Rattle.plan_draft.specs.BoxLines.{new_place, place_onto, next_number, lever_onto, arm_in, over_in, with_signal}
use Rattle.plan_draft.specs.BoxLines.{signal_onto, leaving_in, starter_onto, coming_in, berth_at, berth_onto}
use Rattle.plan_draft.specs.BoxLines.{clearing_in, clear_onto, track_in, track_onto, all_worked, row_onto}
use Rattle.locking_table.specs.Reading.{row_of, grammar_of, row_from, lever_from, asked_from, verb_from, asked_by}
use Rattle.locking_table.specs.Reading.{locked_from, bound_from, locked_by, conds_from}
use Rattle.plan_draft.specs.declared.draft.Stage.TheVariants as stages
use Rattle.line_maker.specs.MadeTexts.{head_text, ash_text, beech_text, cedar_text}
use Rattle.line_maker.proofs.MadeLine.{ash, beech, cedar, draft_with}

-- what the lines from number n on make of a draft
abbrev pub read_from : ℕ → DraftFields → List ℕ → Result DraftFields Fault
read_from n draft bytes = lines_onto words_onto (λ draft. has_ended draft.stage) n draft (lines_of bytes)

pub head_read : (rest : List ℕ)
    → read_from 1 start (head_text ++ rest) ≡ read_from 5 (draft_with stages.Looks [] no_box []) rest
unfolding head_text lines_onto line_onto form_of words_onto line_kind may_follow kind_onto plan_onto boxes_onto
    delay_onto looks_onto
head_read rest = refl

pub ash_read : (rest : List ℕ)
    → read_from 5 (draft_with stages.Looks [] no_box []) (ash_text ++ rest)
    ≡ read_from 21 (draft_with stages.Row [] ash []) rest
unfolding ash ash_text lines_onto line_onto form_of words_onto line_kind may_follow kind_onto here_onto box_with
    box_onto new_name number_in_names places_onto way_in kind_in end_in lever_in working_in new_place place_onto
    next_number lever_onto arm_in over_in with_signal signal_onto leaving_in starter_onto coming_in berth_at berth_onto
    clearing_in clear_onto track_in track_onto all_worked row_onto row_of grammar_of row_from lever_from asked_from
    verb_from asked_by locked_from bound_from locked_by conds_from
ash_read rest = refl

pub beech_read : (rest : List ℕ)
    → read_from 21 (draft_with stages.Row [] ash []) (beech_text ++ rest)
    ≡ read_from 42 (draft_with stages.Row (ash ∷ []) beech []) rest
unfolding ash beech beech_text lines_onto line_onto form_of words_onto line_kind may_follow kind_onto here_onto box_with
    box_onto new_name number_in_names places_onto way_in kind_in end_in lever_in working_in new_place place_onto
    next_number lever_onto arm_in over_in with_signal signal_onto leaving_in starter_onto coming_in berth_at berth_onto
    clearing_in clear_onto track_in track_onto all_worked row_onto row_of grammar_of row_from lever_from asked_from
    verb_from asked_by locked_from bound_from locked_by conds_from
beech_read rest = refl

pub cedar_read : (rest : List ℕ)
    → read_from 42 (draft_with stages.Row (ash ∷ []) beech []) (cedar_text ++ rest)
    ≡ read_from 58 (draft_with stages.Row (ash ∷ beech ∷ []) cedar []) rest
unfolding ash beech cedar cedar_text lines_onto line_onto form_of words_onto line_kind may_follow kind_onto here_onto
    box_with box_onto new_name number_in_names places_onto way_in kind_in end_in lever_in working_in new_place
    place_onto next_number lever_onto arm_in over_in with_signal signal_onto leaving_in starter_onto coming_in berth_at
    berth_onto clearing_in clear_onto track_in track_onto all_worked row_onto row_of grammar_of row_from lever_from
    asked_from verb_from asked_by locked_from bound_from locked_by conds_from
cedar_read rest = refl

-- the lines before those of the trains
pub base_read : (rest : List ℕ)
    → read_from 1 start (head_text ++ (ash_text ++ (beech_text ++ (cedar_text ++ rest))))
    ≡ read_from 58 (draft_with stages.Row (ash ∷ beech ∷ []) cedar []) rest
base_read rest =
    head_read (ash_text ++ (beech_text ++ (cedar_text ++ rest))) ∙ ash_read (beech_text ++ (cedar_text ++ rest))
    ∙ beech_read (cedar_text ++ rest) ∙ cedar_read rest

pub ruleset base_rules = (base_read)
