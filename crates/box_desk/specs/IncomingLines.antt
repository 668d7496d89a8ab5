-- An incoming line as a desk has it, with its Welwyn control or its permit.
use Rattle.std.specs.Prelude.{◌≡◌, ℕ, ◌<◌, ◌≤◌, Option, Some, None}
use Rattle.block_words.specs.declared.Position.{Position}
use Rattle.block_words.specs.declared.Position.TheVariants as shows
use Rattle.block_words.specs.declared.WelwynState.TheVariants.{Ready}
use Rattle.welwyn_control.specs.declared.releases.ReleaseReply.{ReleaseReply}
use Rattle.welwyn_control.specs.declared.releases.ReleaseReply.TheVariants.{Released, NotWinding, TooSoon}
use Rattle.line_plan.specs.declared.berth.Berth.{Berth}
use Rattle.line_law.specs.declared.state.Control.{Control}
use Rattle.line_law.specs.declared.state.Control.TheVariants as law
use Rattle.line_law.specs.declared.state.Incoming.{Incoming}
use Rattle.line_law.specs.declared.ways.ByWay.{ByWay}
use Rattle.line_law.specs.Controls.{released_control}
use Rattle.box_desk.specs.declared.incoming.LineControl.{LineControl}
use Rattle.box_desk.specs.declared.incoming.LineControl.TheVariants.{Absolute, Permissive}
use Rattle.box_desk.specs.declared.incoming.IncomingLine.{IncomingLine}

-- the control that the law has of it: how far Welwyn control has come, or how many trains are out
abbrev pub control_of : LineControl → Control
control_of (Absolute welwyn) = law.Absolute welwyn.state
control_of (Permissive permit) = law.Permissive permit.out

-- the moment from which a release that was begun may come
abbrev pub winding_of : LineControl → Option ℕ
winding_of (Absolute welwyn) = welwyn.winding
winding_of (Permissive permit) = permit.winding

-- what the law has of the line
abbrev pub incoming_of : IncomingLine → Incoming
incoming_of line =
    record {
      position = line.position;
      turns = line.turns;
      control = control_of line.control;
      ready_at = winding_of line.control;
      taken = line.taken;
      portion = line.portion;
    }

-- the same of both incoming lines
abbrev pub incoming_by : ByWay IncomingLine → ByWay Incoming
incoming_by lines = record { up = incoming_of lines.up; down = incoming_of lines.down }

-- an absolute line has Welwyn control, and one that is permissive of n trains a permit for n, of which no more are out
abbrev pub Suits : Option ℕ → LineControl → Type 0
Suits None (Absolute welwyn) = Unit {0}
Suits None (Permissive permit) = ⊥
Suits (Some n) (Absolute welwyn) = ⊥
Suits (Some n) (Permissive permit) = (permit.limit ≡ n) × (permit.out ≤ n)

-- the same by the berth of the line; one without a berth is absolute
abbrev pub SuitsBerth : Option Berth → LineControl → Type 0
SuitsBerth None control = Suits None control
SuitsBerth (Some berth) control = Suits berth.permissive control

-- Line Clear may be given: an absolute line's Welwyn control is ready; on a permissive line fewer trains are out than
-- may be
abbrev pub IsFree : LineControl → Type 0
IsFree (Absolute welwyn) = welwyn.state ≡ Ready
IsFree (Permissive permit) = permit.out < permit.limit

-- what a turn to a position needs of the control: Line Clear may be given; any other turn is free
abbrev pub LetsTurn : Position → LineControl → Type 0
LetsTurn shows.Normal control = Unit {0}
LetsTurn shows.LineClear control = IsFree control
LetsTurn shows.TrainOnLine control = Unit {0}

-- the control after a release is answered: one that is complete gives the Line Clear back
abbrev pub control_after : ReleaseReply → Control → Control
control_after Released control = released_control control
control_after NotWinding control = control
control_after (TooSoon ready_at) control = control
