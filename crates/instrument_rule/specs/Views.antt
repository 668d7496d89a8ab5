-- What a seat at a line's words knows: the view of the first seat, and how views change.
use Rattle.std.specs.Prelude.{ℕ, ◌+◌, ◌==◌, nat_le, if◌then◌else◌, List, [], ◌∷◌, ◌++◌, length, Option, Some, None}
use Rattle.block_words.specs.declared.Way.{Way}
use Rattle.line_plan.specs.Plans.{PlanFields}
use Rattle.line_law.specs.declared.call.Entry.{Entry}
use Rattle.word_laws.specs.WordNumbers.{one_if}
use Rattle.instrument_rule.specs.declared.view.Old.{Old}
use Rattle.instrument_rule.specs.declared.view.View.{View}

-- ---- views

-- the first seat has the plan, and has seen nothing
abbrev pub first_view : PlanFields → View
first_view plan =
    record { plan = Some plan; posts = []; seen = []; looks = 0; glances = 0; drawn = None; room = None; olds = [] }

-- what a join leaves of the seat that was taken in: nothing
abbrev pub spent_view : View
spent_view =
    record { plan = None; posts = []; seen = []; looks = 0; glances = 0; drawn = None; room = None; olds = [] }

-- a second seat that has seen as much, holds no box, and has neither looked nor drawn
abbrev pub twin_view : View → View
twin_view v =
    record { plan = v.plan; posts = []; seen = v.seen; looks = 0; glances = 0; drawn = None; room = None; olds = [] }

-- the view of a seat that held no box, once it has drawn box b, where b posts were drawn before
abbrev pub with_post : View → ℕ → View
with_post v b = record v { posts = b ∷ []; drawn = Some b }

-- the view of a seat whose draw found so many posts drawn, and not the number of its box
abbrev pub missed : View → ℕ → View
missed v found = record v { drawn = Some found }

-- the view once this history was seen, after so many looks more, so many of them glances, and with this room
abbrev pub seeing : View → List Entry → ℕ → ℕ → Option Way → View
seeing v seen looks glances room =
    record v { seen = seen; looks = v.looks + looks; glances = v.glances + glances; room = room; olds = [] }

-- ---- two views in one

-- the longer of two histories
abbrev pub longer : List Entry → List Entry → List Entry
longer xs ys = if nat_le (length xs) (length ys) then ys else xs

-- a view's boxes, with what they had seen
abbrev pub old_of : View → Old
old_of v = record { seen = v.seen; posts = v.posts }

-- two views in one, between the two looks of a join: the boxes of both, and what the one that knew more had seen
abbrev pub both_views : View → View → View
both_views v w =
    record {
      plan = v.plan;
      posts = v.posts ++ w.posts;
      seen = longer v.seen w.seen;
      looks = v.looks;
      glances = v.glances;
      drawn = v.drawn;
      room = v.room;
      olds = old_of v ∷ old_of w ∷ [];
    }

-- the view once the second look of a join has told what each of the two had seen
abbrev pub settled : View → View
settled v = record v { olds = [] }

-- ---- the boxes that a seat holds

-- the first of them, if there is one
abbrev pub first_of : List ℕ → Option ℕ
first_of [] = None
first_of (b ∷ bs) = Some b

-- the number of a box, or 0
abbrev pub or_zero : Option ℕ → ℕ
or_zero None = 0
or_zero (Some b) = b

-- the box that calls from a post: the first that the post holds
abbrev pub caller_of : List ℕ → ℕ
caller_of posts = or_zero (first_of posts)

-- how often box p stands among the boxes that a seat holds
abbrev pub held : ℕ → List ℕ → ℕ
held p [] = 0
held p (b ∷ bs) = one_if (b == p) + held p bs

-- how often it does in all views
abbrev pub holders : ℕ → List View → ℕ
holders p [] = 0
holders p (v ∷ vs) = held p v.posts + holders p vs
