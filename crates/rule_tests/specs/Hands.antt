-- What a signalman's hand on the bells knows.
use Rattle.std.specs.Prelude.{◌≡◌, ◌≢◌, ℕ, ◌+◌, ◌≤◌, ◌==◌, if◌then◌else◌, [], length}
use Rattle.block_words.specs.Bells.{bell_word}
use Rattle.line_plan.specs.Plans.{PlanFields}
use Rattle.line_law.specs.History.{part_of, state_of}
use Rattle.line_law.specs.States.{box_at}
use Rattle.instrument_rule.specs.declared.view.View.{View}
use Rattle.instrument_rule.specs.Calls.{Sits}
use Rattle.instrument_rule.specs.Views.{caller_of}

-- how many codes were rung, of so many before, once a ring has met a word
abbrev pub rung_after : ℕ → ℕ → ℕ
rung_after rung met = if met == bell_word rung 0 then rung + 1 else rung

-- the seat holds a box, which has rung so many codes towards the down side and has so many entries, all at 00:00
pub record Knows (plan : PlanFields) (v : View) (rung calls : ℕ) : Type 0 where
  pub sits : Sits plan v
  pub holds : v.posts ≢ []
  pub early : (box_at (state_of plan v.seen) (caller_of v.posts)).moment ≡ 0
  pub rung_down : (box_at (state_of plan v.seen) (caller_of v.posts)).rung.down ≡ rung
  pub counted : length (part_of (caller_of v.posts) v.seen) ≡ calls
  pub few : rung ≤ calls
