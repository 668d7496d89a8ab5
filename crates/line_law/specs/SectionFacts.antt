-- A fact of one section: of its rear box, its box in advance, and its bell, instrument and plain line. Where each call
-- of the two boxes keeps it, every call of the line does.
use Rattle.std.specs.Prelude.{ℕ, ◌≡◌, List, IsTrue}
use Rattle.line_plan.specs.Plans.{PlanFields}
use Rattle.line_plan.specs.Sections.{advance_of}
use Rattle.line_plan.specs.Ways.{comes_in, leaves}
use Rattle.line_plan.specs.declared.section.Section.{Section}
use Rattle.line_law.specs.declared.call.Call.{Call}
use Rattle.line_law.specs.declared.link.Link.{Link}
use Rattle.line_law.specs.declared.link.Link.TheVariants.{Out, In}
use Rattle.line_law.specs.declared.state.Bell.{Bell}
use Rattle.line_law.specs.declared.state.Block.{Block}
use Rattle.line_law.specs.declared.state.BoxState.{BoxState}
use Rattle.line_law.specs.declared.state.Passage.{Passage}
use Rattle.line_law.specs.Decisions.{Decision, Here, OnBell, OnBlock, OnPlainLine}
use Rattle.line_law.specs.Law.{at_moment, decide, link_of, box_plan_of}
use Rattle.line_law.specs.Lines.{plain_line_of, pair_in}
use Rattle.line_law.specs.States.{LineState, box_at}
use Rattle.line_law.specs.Ways.{of_way}

-- a fact of a section
abbrev pub Fact : Type 1
Fact = BoxState → BoxState → Bell → Block → List Passage → Type 0

-- the fact holds of the section in a state
abbrev pub Holds : Fact → LineState → Section → Type 0
Holds Q state section =
    Q (box_at state section.rear) (box_at state (advance_of section))
    (of_way (pair_in state section).bells section.way) (of_way (pair_in state section).blocks section.way)
    (plain_line_of state section)

-- after a decision on the section's own words
abbrev pub AfterOwn : Decision → (BoxState → Bell → Block → List Passage → Type 0) → Bell → Block → List Passage
    → Type 0
AfterOwn (Here reply here) P bell block line = P here bell block line
AfterOwn (OnBell act) P bell block line = P (act bell).here (act bell).word block line
AfterOwn (OnBlock act) P bell block line = P (act block).here bell (act block).word line
AfterOwn (OnPlainLine act) P bell block line = P (act line).here bell block (act line).word

-- after a decision on some other word, whatever that is
abbrev pub AfterElsewhere : Decision → (BoxState → Type 0) → Type 0
AfterElsewhere (Here reply here) P = P here
AfterElsewhere (OnBell act) P = (bell : Bell) → P (act bell).here
AfterElsewhere (OnBlock act) P = (block : Block) → P (act block).here
AfterElsewhere (OnPlainLine act) P = (line : List Passage) → P (act line).here

-- a decision in the box alone
abbrev pub IsLocal : Decision → Type 0
IsLocal (Here reply here) = Unit {0}
IsLocal (OnBell act) = ⊥
IsLocal (OnBlock act) = ⊥
IsLocal (OnPlainLine act) = ⊥

-- the line of box b, of so many, leads to a neighbour
abbrev pub HasLink : ℕ → ℕ → Link → Type 0
HasLink boxes b (Out way) = IsTrue (leaves boxes b way)
HasLink boxes b (In way) = IsTrue (comes_in boxes b way)

-- what a call of box b does
abbrev pub decided : PlanFields → ℕ → Call → BoxState → Decision
decided plan b call here = decide plan (box_plan_of plan b) call.act (at_moment here call.moment)

-- A call keeps a fact of a section. At the rear box it is on a word of the section where its line is the section's
-- outgoing one, and at the box in advance where its line is the section's incoming one; at either box it may be
-- elsewhere.
pub record Keeps (Q : Fact) (plan : PlanFields) (section : Section) (call : Call) : Type 0 where
  pub rear_own : link_of (box_plan_of plan section.rear) call.act ≡ Out section.way
      → (r a : BoxState) (b : Bell) (k : Block) (t : List Passage) → Q r a b k t
      → AfterOwn (decided plan section.rear call r) (λ h b k t. Q h a b k t) b k t
  pub rear_off : (link_of (box_plan_of plan section.rear) call.act ≡ Out section.way → ⊥)
      → (r a : BoxState) (b : Bell) (k : Block) (t : List Passage) → Q r a b k t
      → AfterElsewhere (decided plan section.rear call r) (λ h. Q h a b k t)
  pub advance_own : link_of (box_plan_of plan (advance_of section)) call.act ≡ In section.way
      → (r a : BoxState) (b : Bell) (k : Block) (t : List Passage) → Q r a b k t
      → AfterOwn (decided plan (advance_of section) call a) (λ h b k t. Q r h b k t) b k t
  pub advance_off : (link_of (box_plan_of plan (advance_of section)) call.act ≡ In section.way → ⊥)
      → (r a : BoxState) (b : Bell) (k : Block) (t : List Passage) → Q r a b k t
      → AfterElsewhere (decided plan (advance_of section) call a) (λ h. Q r h b k t)
