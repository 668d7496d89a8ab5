-- What is wanted of a frame's states.
use Rattle.std.specs.Prelude.{map, option_map}
use Rattle.signalbox_words.specs.Commands.{WalkWanted}
use Rattle.signalbox_top.specs.declared.walking.Wanted.{Wanted}

-- what is wanted, with the words as their bytes
abbrev pub wanted_shown : Wanted → WalkWanted
wanted_shown wanted = record {
  plan = wanted.plan.now;
  box_name = wanted.box_name.now;
  limit = option_map (λ word. word.now) wanted.limit;
  never = map (λ word. word.now) wanted.never.now;
  reach = map (λ word. word.now) wanted.reach.now;
}
