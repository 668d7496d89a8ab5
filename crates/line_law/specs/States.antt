-- The states of a line, and the one in which it opens.
use Rattle.std.specs.Prelude.{◌≡◌, ℕ, ◌-◌, List, [], false, Option, Some, None, length, map, replicate, slice_index_or}
use Rattle.block_words.specs.declared.Position.TheVariants as shows
use Rattle.block_words.specs.declared.WelwynState.TheVariants as welwyn
use Rattle.locking_table.specs.declared.places.End.TheVariants as ends
use Rattle.line_plan.specs.Frames.{BoxFields, frame_size}
use Rattle.line_plan.specs.Plans.{PlanFields}
use Rattle.line_plan.specs.declared.berth.Berth.{Berth}
use Rattle.line_law.specs.declared.state.Bell.{Bell}
use Rattle.line_law.specs.declared.state.Block.{Block}
use Rattle.line_law.specs.declared.state.BoxState.{BoxState}
use Rattle.line_law.specs.declared.state.Control.{Control}
use Rattle.line_law.specs.declared.state.Control.TheVariants.{Absolute, Permissive}
use Rattle.line_law.specs.declared.state.Incoming.{Incoming}
use Rattle.line_law.specs.declared.state.PairState.{PairState}

-- the state of a line: that of each box, and what each pair of neighbours shares
pub record LineState : Type 0 where
  pub boxes : List BoxState
  pub pairs : List PairState

-- a state of that plan's line: one for each box, and one for each two neighbours
pub record IsStateOf (plan : PlanFields) (state : LineState) : Type 0 where
  pub boxes : length state.boxes ≡ length plan.boxes
  pub pairs : length state.pairs ≡ length plan.boxes - 1

-- ---- a box as it begins

-- an absolute line begins with its Welwyn state Ready, a permissive one with no train out
abbrev pub control_of : Option ℕ → Control
control_of None = Absolute welwyn.Ready
control_of (Some n) = Permissive 0

-- a line without a berth is absolute
abbrev pub opening_control : Option Berth → Control
opening_control None = Absolute welwyn.Ready
opening_control (Some berth) = control_of berth.permissive

-- an incoming line begins with its commutator at Normal and not turned, no winding, no train taken and no portion
abbrev pub opening_line : Option Berth → Incoming
opening_line berth = record {
  position = shows.Normal;
  turns = 0;
  control = opening_control berth;
  ready_at = None;
  taken = 0;
  portion = None;
}

-- a box begins with all levers normal, all arms at danger, all places empty, no train brought, all counts 0 and the
-- last moment 0
abbrev pub opening_box : ℕ → BoxFields → BoxState
opening_box trains box_plan =
    record {
      ends = replicate (frame_size box_plan.levers) ends.Normal;
      off = replicate (frame_size box_plan.levers) false;
      places = replicate (length box_plan.places) None;
      brought = replicate trains false;
      rung = record { up = 0; down = 0 };
      sent = record { up = 0; down = 0 };
      incoming = record { up = opening_line box_plan.berth_up; down = opening_line box_plan.berth_down };
      moment = 0;
    }

-- ---- a pair as it begins

-- a bell begins silent at count 0
abbrev pub silent_bell : Bell
silent_bell = record { count = 0; unheard = None }

-- an instrument begins at Normal, not turned and unspent
abbrev pub opening_block : Block
opening_block = record { turns = 0; position = shows.Normal; spent = false }

-- what two neighbours share begins with silent bells, instruments as they begin, and empty plain lines
abbrev pub opening_pair : PairState
opening_pair =
    record {
      bells = record { up = silent_bell; down = silent_bell };
      blocks = record { up = opening_block; down = opening_block };
      lines = record { up = []; down = [] };
    }

-- ---- a line

-- a line begins with its boxes, and a pair for each two neighbours, as they begin
unfoldable pub opening_state : PlanFields → LineState
opening_state plan =
    record {
      boxes = map (λ box_plan. opening_box (length plan.trains) box_plan) plan.boxes;
      pairs = replicate (length plan.boxes - 1) opening_pair;
    }

-- a box that has nothing and has done nothing
abbrev pub no_state : BoxState
no_state =
    record {
      ends = [];
      off = [];
      places = [];
      brought = [];
      rung = record { up = 0; down = 0 };
      sent = record { up = 0; down = 0 };
      incoming = record { up = opening_line None; down = opening_line None };
      moment = 0;
    }

-- box b; a number off the line has nothing and has done nothing
abbrev pub box_at : LineState → ℕ → BoxState
box_at state b = slice_index_or state.boxes b no_state

-- what the boxes p and p + 1 share; a number off the line has what a pair begins with
abbrev pub pair_at : LineState → ℕ → PairState
pair_at state p = slice_index_or state.pairs p opening_pair
