-- A history in seconds in place of minutes.
use Rattle.std.specs.Prelude.{◌*◌, List, map, option_map}
use Rattle.line_law.specs.declared.call.Call.{Call}
use Rattle.line_law.specs.declared.call.Entry.{Entry}
use Rattle.line_law.specs.declared.call.Reply.{Reply}
use Rattle.line_law.specs.declared.call.Reply.TheVariants.{Winding, TooSoon}
use Rattle.line_law.specs.declared.state.BoxState.{BoxState}
use Rattle.line_law.specs.declared.state.Incoming.{Incoming}
use Rattle.line_law.specs.States.{LineState}

-- ---- a history

-- a reply with its ready moment in seconds, if it has one
abbrev pub reply_in_seconds : Reply → Reply
reply_in_seconds (Winding ready_at) = Winding (ready_at * 60)
reply_in_seconds (TooSoon ready_at) = TooSoon (ready_at * 60)
reply_in_seconds reply = reply

-- a call with its moment in seconds
abbrev pub call_in_seconds : Call → Call
call_in_seconds call = record call { moment = call.moment * 60 }

-- an entry with its moment in seconds, and the ready moment of its reply
abbrev pub entry_in_seconds : Entry → Entry
entry_in_seconds e = record e { call = call_in_seconds e.call; reply = reply_in_seconds e.reply }

-- a history with every moment and every ready moment in seconds
abbrev pub in_seconds : List Entry → List Entry
in_seconds es = map (λ e. entry_in_seconds e) es

-- ---- a state

-- an incoming line with the ready moment of its winding in seconds, if there is one
abbrev pub line_in_seconds : Incoming → Incoming
line_in_seconds line = record line { ready_at = option_map (λ ready_at. ready_at * 60) line.ready_at }

-- a box with its moments in seconds
abbrev pub box_in_seconds : BoxState → BoxState
box_in_seconds here =
    record here {
      incoming = record {
        up = line_in_seconds here.incoming.up;
        down = line_in_seconds here.incoming.down;
      };
      moment = here.moment * 60;
    }

-- a line with its moments in seconds
abbrev pub state_in_seconds : LineState → LineState
state_in_seconds state = record state { boxes = map (λ here. box_in_seconds here) state.boxes }
