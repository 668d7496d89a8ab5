-- Replies of two words, from those of a lever on.
use Rattle.std.specs.Prelude.{ℕ, List, Option, if◌then◌else◌, bytes_eq, codes, option_map}
use Rattle.rail_text.specs.Number.{number_of}
use Rattle.line_plan.specs.Plans.{PlanFields}
use Rattle.line_law.specs.declared.call.Reply.{Reply}
use Rattle.line_law.specs.declared.call.Reply.TheVariants as replies
use Rattle.script_text.specs.Answers.{◌and_then◌, count_reply, small_number, state_named}
use Rattle.script_text.specs.Moments.{ready_of}

-- a word and a moment, or else a number
unfoldable pub moment_pair : PlanFields → List ℕ → List ℕ → Option Reply
moment_pair plan word other =
    if bytes_eq word (codes "winding") then option_map (λ moment. replies.Winding moment) (ready_of plan.version other)
    else if bytes_eq word (codes "too_soon")
    then option_map (λ moment. replies.TooSoon moment) (ready_of plan.version other)
    else number_of other and_then count_reply word

-- a word and a lever, a number of 32 bits or a state, or else what stands above
unfoldable pub lever_pair : PlanFields → List ℕ → List ℕ → Option Reply
lever_pair plan word other =
    if bytes_eq word (codes "home_reversed") then option_map (λ lever. replies.HomeReversed lever) (small_number other)
    else if bytes_eq word (codes "count_full") then option_map (λ out. replies.CountFull out) (small_number other)
    else if bytes_eq word (codes "welwyn_holds")
    then option_map (λ state. replies.WelwynHolds state) (state_named other)
    else moment_pair plan word other
