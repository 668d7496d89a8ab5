-- A box that gets a berth, its clearing places, or a permissive line.
use Rattle.std.specs.Prelude.{ℕ, List, Option, Some, None}
use Rattle.block_words.specs.declared.Way.{Way}
use Rattle.block_words.specs.declared.Way.TheVariants.{Up, Down}
use Rattle.line_plan.specs.declared.berth.Berth.{Berth}
use Rattle.line_plan.specs.Frames.{BoxFields}

-- the box with this berth of that line
abbrev pub with_berth : BoxFields → Way → Berth → BoxFields
with_berth box_plan Up berth = record box_plan { berth_up = Some berth }
with_berth box_plan Down berth = record box_plan { berth_down = Some berth }

-- a berth with these clearing places, if there is one
abbrev pub clearing_at : List ℕ → Option Berth → Option Berth
clearing_at places None = None
clearing_at places (Some berth) = Some (record berth { clearing = places })

-- the box with these clearing places at the berth of that line
abbrev pub cleared : BoxFields → Way → List ℕ → BoxFields
cleared box_plan Up places = record box_plan { berth_up = clearing_at places box_plan.berth_up }
cleared box_plan Down places = record box_plan { berth_down = clearing_at places box_plan.berth_down }

-- a berth whose line is permissive of n, if there is one
abbrev pub permissive_at : ℕ → Option Berth → Option Berth
permissive_at n None = None
permissive_at n (Some berth) = Some (record berth { permissive = Some n })

-- the box with that line permissive of n
abbrev pub permitted : BoxFields → Way → ℕ → BoxFields
permitted box_plan Up n = record box_plan { berth_up = permissive_at n box_plan.berth_up }
permitted box_plan Down n = record box_plan { berth_down = permissive_at n box_plan.berth_down }
