-- The two halves of a legal history: what its entries make of the shared words, and what each box may do by itself.
use Rattle.std.specs.Prelude.{ℕ, ◌≡◌, ◌≢◌, ◌≤◌, ◌↔◌, List, [], ◌∷◌, length, slice_index_or, slice_set}
use Rattle.block_words.specs.declared.Way.{Way}
use Rattle.line_plan.specs.Plans.{PlanFields}
use Rattle.line_law.specs.declared.call.Act.{Act}
use Rattle.line_law.specs.declared.call.Entry.{Entry}
use Rattle.line_law.specs.declared.state.BoxState.{BoxState}
use Rattle.line_law.specs.declared.state.PairState.{PairState}
use Rattle.line_law.specs.Decisions.{Decision, on_pair}
use Rattle.word_laws.specs.Footprint.{Tally, way_at}
use Rattle.line_law.specs.Known.{KnowsCall}
use Rattle.line_law.specs.Law.{link_of, pair_of, box_plan_of, step_at}
use Rattle.line_law.specs.SectionFacts.{HasLink}
use Rattle.line_law.specs.States.{opening_pair}
use Rattle.word_laws.specs.TellsWord.{IsReplyAt, kind_told}
use Rattle.line_journal.specs.Fits.{FitsWord, word_made}

-- ---- the words

-- a pair of a line, by its number
abbrev pub found_at : List PairState → ℕ → PairState
found_at pairs p = slice_index_or pairs p opening_pair

-- the pair of the word of an entry
abbrev pub pair_for : PlanFields → Entry → ℕ
pair_for plan e = pair_of plan e.box_no e.call

-- what becomes of that pair
abbrev pub pair_made : PlanFields → Entry → PairState → PairState
pair_made plan e pair = word_made (kind_told e.reply) (way_at plan e.box_no e.call) e.call.act e.reply pair

-- an entry fits its word in a pair
abbrev pub FitsPair : PlanFields → Entry → PairState → Type 0
FitsPair plan e pair = FitsWord (kind_told e.reply) (way_at plan e.box_no e.call) e.call.act e.reply pair

-- an entry fits its word
abbrev pub Fits : PlanFields → List PairState → Entry → Type 0
Fits plan pairs e = FitsPair plan e (found_at pairs (pair_for plan e))

-- the pairs after an entry
abbrev pub made : PlanFields → List PairState → Entry → List PairState
made plan pairs e = slice_set pairs (pair_for plan e) (pair_made plan e (found_at pairs (pair_for plan e)))

-- from these pairs on each entry fits its word
abbrev pub FitFrom : PlanFields → List PairState → List Entry → Type 0
FitFrom plan pairs [] = Unit {0}
FitFrom plan pairs (e ∷ es) = Fits plan pairs e × FitFrom plan (made plan pairs e) es

-- ---- one box

-- a box may do this from a state of its own on, on some pair
pub record MayDo (plan : PlanFields) (here : BoxState) (e : Entry) : Type 0 where
  pub known : KnowsCall plan e.box_no e.call
  pub later : here.moment ≤ e.call.moment
  pub pair : PairState
  pub told : e.reply ≡ (step_at plan (box_plan_of plan e.box_no) e.call here pair).reply

-- a box may do all this in turn
abbrev pub MayDoAll : PlanFields → BoxState → List Entry → Type 0
MayDoAll plan here [] = Unit {0}
MayDoAll plan here (e ∷ es) =
    (first : MayDo plan here e)
    × MayDoAll plan (step_at plan (box_plan_of plan e.box_no) e.call here first.pair).here es

-- ---- where an entry stands

-- an entry stands at its end of its word, and its line leads to a neighbour
pub record Stands (plan : PlanFields) (e : Entry) : Type 0 where
  pub known : KnowsCall plan e.box_no e.call
  pub link : kind_told e.reply ≢ Tally
      → HasLink (length plan.boxes) e.box_no (link_of (box_plan_of plan e.box_no) e.call.act)
  pub end : IsReplyAt (link_of (box_plan_of plan e.box_no) e.call.act) e.reply

-- ---- the law of a reply

-- where a call that is so decided got a reply on one pair, it gets the reply again on another exactly where the reply
-- fits that one; it leaves the box as there, and makes of the pair what the reply says
pub record GivesAgain (way : Way) (act : Act) (d : Decision) (pair other : PairState) : Type 0 where
  pub again : ((on_pair way d other).reply ≡ (on_pair way d pair).reply)
      ↔ FitsWord (kind_told (on_pair way d pair).reply) way act (on_pair way d pair).reply other
  pub here : (on_pair way d other).reply ≡ (on_pair way d pair).reply
      → (on_pair way d other).here ≡ (on_pair way d pair).here
  pub word : (on_pair way d pair).word
      ≡ word_made (kind_told (on_pair way d pair).reply) way act (on_pair way d pair).reply pair
