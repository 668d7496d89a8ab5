-- The footprint of a call: the state of its box, and the word on which it is decided.
use Rattle.std.specs.Prelude.{ℕ, ◌≡◌, ◌≢◌, ◌⊎◌}
use Rattle.block_words.specs.Ways.{opposite}
use Rattle.block_words.specs.declared.Way.{Way}
use Rattle.block_words.specs.declared.Way.TheVariants.{Up, Down}
use Rattle.line_plan.specs.Plans.{PlanFields}
use Rattle.line_law.specs.declared.call.Call.{Call}
use Rattle.line_law.specs.declared.state.PairState.{PairState}
use Rattle.line_law.specs.Decisions.{Decision, Here, OnBell, OnBlock, OnPlainLine}
use Rattle.line_law.specs.Law.{decide, link_of, step, pair_of, box_plan_of, at_moment}
use Rattle.line_law.specs.Links.{way_of}
use Rattle.line_law.specs.States.{LineState, box_at, pair_at}
use Rattle.line_law.specs.Ways.{of_way}

-- the kind of word on which a call is decided: its box's own tally, which holds nothing of a pair, or a bell, an
-- instrument or a plain line
pub data Kind : Type 0 where
  Tally : Kind
  BellWord : Kind
  BlockWord : Kind
  PlainLineWord : Kind

-- the kind of word of a decision
abbrev pub kind_of : Decision → Kind
kind_of (Here reply here) = Tally
kind_of (OnBell act) = BellWord
kind_of (OnBlock act) = BlockWord
kind_of (OnPlainLine act) = PlainLineWord

-- the word of this kind and way is the same in two pairs
abbrev pub SameWord : Kind → Way → PairState → PairState → Type 0
SameWord Tally way p q = Unit {0}
SameWord BellWord way p q = of_way p.bells way ≡ of_way q.bells way
SameWord BlockWord way p q = of_way p.blocks way ≡ of_way q.blocks way
SameWord PlainLineWord way p q = of_way p.lines way ≡ of_way q.lines way

-- every word but that of this kind and way is the same in two pairs
abbrev pub SameOthers : Kind → Way → PairState → PairState → Type 0
SameOthers Tally way p q = p ≡ q
SameOthers BellWord way p q =
    (of_way p.bells (opposite way) ≡ of_way q.bells (opposite way)) × (p.blocks ≡ q.blocks) × (p.lines ≡ q.lines)
SameOthers BlockWord way p q =
    (p.bells ≡ q.bells) × (of_way p.blocks (opposite way) ≡ of_way q.blocks (opposite way)) × (p.lines ≡ q.lines)
SameOthers PlainLineWord way p q =
    (p.bells ≡ q.bells) × (p.blocks ≡ q.blocks) × (of_way p.lines (opposite way) ≡ of_way q.lines (opposite way))

-- where a call of box b is decided in a state
abbrev pub decision_at : PlanFields → LineState → ℕ → Call → Decision
decision_at plan state b call = decide plan (box_plan_of plan b) call.act (at_moment (box_at state b) call.moment)

-- the kind of word on which a call of box b is decided in a state
abbrev pub kind_at : PlanFields → LineState → ℕ → Call → Kind
kind_at plan state b call = kind_of (decision_at plan state b call)

-- the way of the word on which a call of box b is decided
abbrev pub way_at : PlanFields → ℕ → Call → Way
way_at plan b call = way_of (link_of (box_plan_of plan b) call.act)

-- two states have the same footprint of a call of box b
pub record HaveSameFootprint (plan : PlanFields) (b : ℕ) (call : Call) (state other : LineState) : Type 0 where
  pub here : box_at state b ≡ box_at other b
  pub word : SameWord (kind_at plan state b call) (way_at plan b call) (pair_at state (pair_of plan b call))
      (pair_at other (pair_of plan b call))

-- a call of box b ends in two states with the same reply and the same footprint
pub record EndsAlike (plan : PlanFields) (b : ℕ) (call : Call) (state other : LineState) : Type 0 where
  pub reply : (step plan state b call).reply ≡ (step plan other b call).reply
  pub here : box_at (step plan state b call).after b ≡ box_at (step plan other b call).after b
  pub word : SameWord (kind_at plan state b call) (way_at plan b call)
      (pair_at (step plan state b call).after (pair_of plan b call))
      (pair_at (step plan other b call).after (pair_of plan b call))

-- a call of box b leaves all other boxes, all other pairs and all other words of its pair
pub record KeepsOthers (plan : PlanFields) (b : ℕ) (call : Call) (state : LineState) : Type 0 where
  pub boxes : (other : ℕ) → other ≢ b → box_at (step plan state b call).after other ≡ box_at state other
  pub pairs : (other : ℕ) → other ≢ pair_of plan b call
      → pair_at (step plan state b call).after other ≡ pair_at state other
  pub words : SameOthers (kind_at plan state b call) (way_at plan b call) (pair_at state (pair_of plan b call))
      (pair_at (step plan state b call).after (pair_of plan b call))

-- ---- calls that change places

-- one of the ways is up and the other down
abbrev pub Differ : Way → Way → Type 0
Differ Up Up = ⊥
Differ Up Down = Unit {0}
Differ Down Up = Unit {0}
Differ Down Down = ⊥

-- words of one pair, each by its kind and way, that aren't one word
abbrev pub Apart : Kind → Way → Kind → Way → Type 0
Apart Tally v kind w = Unit {0}
Apart BellWord v Tally w = Unit {0}
Apart BellWord v BellWord w = Differ v w
Apart BellWord v BlockWord w = Unit {0}
Apart BellWord v PlainLineWord w = Unit {0}
Apart BlockWord v Tally w = Unit {0}
Apart BlockWord v BellWord w = Unit {0}
Apart BlockWord v BlockWord w = Differ v w
Apart BlockWord v PlainLineWord w = Unit {0}
Apart PlainLineWord v Tally w = Unit {0}
Apart PlainLineWord v BellWord w = Unit {0}
Apart PlainLineWord v BlockWord w = Unit {0}
Apart PlainLineWord v PlainLineWord w = Differ v w

-- a call of box b and one of box c are decided on different words in a state
abbrev pub OnOtherWords : PlanFields → LineState → ℕ → Call → ℕ → Call → Type 0
OnOtherWords plan state b call c next =
    (pair_of plan b call ≢ pair_of plan c next)
    ⊎ ((pair_of plan b call ≡ pair_of plan c next)
    × Apart (kind_at plan state b call) (way_at plan b call) (kind_at plan state c next) (way_at plan c next))

-- a call of box b and one of box c get the same replies and leave the same state in either order
pub record Commute (plan : PlanFields) (state : LineState) (b : ℕ) (call : Call) (c : ℕ) (next : Call) : Type 0 where
  pub first : (step plan (step plan state c next).after b call).reply ≡ (step plan state b call).reply
  pub second : (step plan (step plan state b call).after c next).reply ≡ (step plan state c next).reply
  pub after : (step plan (step plan state b call).after c next).after
      ≡ (step plan (step plan state c next).after b call).after
