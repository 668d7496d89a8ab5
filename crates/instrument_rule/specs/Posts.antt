-- What contracts see of a line and of a post at its shared words.
use Rattle.line_plan.specs.Plans.{PlanFields}
use Rattle.instrument_rule.specs.declared.line.Line.{Line}
use Rattle.instrument_rule.specs.declared.post.Post.{Post}
use Rattle.instrument_rule.specs.declared.view.View.{View}

-- the plan of a line: the key of its table
abbrev pub plan_of : Line → PlanFields
plan_of line = line.table.shared.key

-- the boxes that a post holds and what it has seen of its line: what its seat knows
abbrev pub view_of : Post → View
view_of post = post.seat.me.0
