-- The words that stand beside the marks of trains.
use Rattle.std.specs.Prelude.{ℕ, Bool, true, false, List, [], ◌++◌, codes, if◌then◌else◌}
use Rattle.line_plan.specs.Plans.{PlanFields, is_train, train_at}
use Rattle.graph_scene.specs.declared.deeds.Deed.{Deed}
use Rattle.graph_scene.specs.declared.deeds.Deed.TheVariants as deeds

-- the name of a train of the plan; nothing of another
abbrev pub train_name : PlanFields → ℕ → List ℕ
train_name plan train = if is_train plan.trains train then (train_at plan.trains train).name else []

-- a signal passed at danger is told
abbrev pub overrun_words : Bool → List ℕ
overrun_words true = codes "overrun"
overrun_words false = []

-- the words beside the mark of a deed: the train's name where it comes to a stand, and what isn't right
abbrev pub words_of : List ℕ → Deed → List ℕ
words_of name (deeds.Brought place) = name
words_of name (deeds.Passed from to at_danger) = overrun_words at_danger
words_of name (deeds.Entered from way at_danger) = overrun_words at_danger
words_of name (deeds.Away from at_danger) = overrun_words at_danger
words_of name (deeds.Berthed place way) = name
words_of name (deeds.PartBerthed place way) = name ++ codes " divided"
words_of name (deeds.Cleared way) = []
