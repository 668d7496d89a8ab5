-- The text of the made line's plan: three boxes, and trains 1 to n.
use Rattle.std.specs.Prelude.{ℕ, zero, suc, List, [], ◌++◌, slice_index_or, if◌then◌else◌, codes, decimal}
use Rattle.line_plan.specs.Plans.{opening_names}
use Rattle.line_maker.specs.MadeTrains.{class_of, runs_down}

-- the first four lines
unfoldable pub head_text : List ℕ
head_text = codes "plan 1\nboxes 3\ndelay 2\nlooks 1000000000\n"

-- the lines of Ash, where the down line begins and the up line ends
unfoldable pub ash_text : List ℕ
ash_text =
    codes "box Ash\nplace DP\nplace UB\nplace UP\nlever 1 spare\nlever 2 signal\nlever 3 signal\nlever 4 signal\nlever 5 points\nsignal 3 UB UP\nsignal 4 UP away\nstarter down 2 DP\nberth up UB\nclear up UP\nrow 2 locks 5 normal\nrow 3 locks 5 normal\n"

-- the lines of Beech, in the middle
unfoldable pub beech_text : List ℕ
beech_text =
    codes "box Beech\nplace DB\nplace DP\nplace UB\nplace UP\nlever 1 signal\nlever 2 signal\nlever 3 signal\nlever 4 signal\nlever 5 points\nsignal 1 DB DP\nsignal 3 UB UP\nstarter down 2 DP\nstarter up 4 UP\nberth up UB\nberth down DB\nclear up UP\nclear down DP\ntrack 5 DP\nrow 1 locks 5 normal\nrow 3 locks 5 normal\n"

-- the lines of Cedar, where the down line ends and the up line begins
unfoldable pub cedar_text : List ℕ
cedar_text =
    codes "box Cedar\nplace DB\nplace DP\nplace UP\nlever 1 signal\nlever 2 signal\nlever 3 spare\nlever 4 signal\nlever 5 points\nsignal 1 DB DP\nsignal 2 DP away\nstarter up 4 UP\nberth down DB\nclear down DP\nrow 1 locks 5 normal\nrow 4 locks 5 normal\n"

-- the name of a train's class
abbrev pub class_name : ℕ → List ℕ
class_name i = slice_index_or opening_names (class_of i) []

-- where a train is brought: at Ash to run down, at Cedar to run up
abbrev pub brought_text : ℕ → List ℕ
brought_text i = if runs_down i then codes " Ash DP\n" else codes " Cedar UP\n"

-- the line of a train: its name is t and its number
unfoldable pub train_text : ℕ → List ℕ
train_text i = codes "train t" ++ decimal i ++ codes " " ++ class_name i ++ brought_text i

-- the lines of trains 1 to n
unfoldable pub trains_text : ℕ → List ℕ
trains_text zero = []
trains_text (suc n) = trains_text n ++ train_text (suc n)

-- the text of the plan of n trains
unfoldable pub made_plan_text : ℕ → List ℕ
made_plan_text n = head_text ++ ash_text ++ beech_text ++ cedar_text ++ trains_text n ++ codes "end\n"
