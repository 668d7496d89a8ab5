-- The man of a box who notices what others do.
use Rattle.std.specs.Prelude.{ℕ, ◌==◌, ◌&&◌, Bool, true, false, List, [], ◌∷◌, Option, Some, None, if◌then◌else◌}
use Rattle.block_words.specs.declared.Way.{Way}
use Rattle.block_words.specs.declared.Way.TheVariants.{Up, Down}
use Rattle.line_plan.specs.Frames.{same_way}
use Rattle.line_law.specs.declared.call.Act.{Act}
use Rattle.line_law.specs.declared.call.Act.TheVariants as acts
use Rattle.line_law.specs.declared.call.Entry.{Entry}
use Rattle.line_law.specs.declared.call.Reply.{Reply}
use Rattle.line_law.specs.declared.call.Reply.TheVariants as replies
use Rattle.line_law.specs.States.{LineState, box_at}
use Rattle.box_view.specs.declared.notices.Listener.{Listener}
use Rattle.box_view.specs.Notices.{is_rung}

-- a code was heard
abbrev pub is_heard : Reply → Bool
is_heard (replies.Heard code k) = true
is_heard reply = false

-- the code that a man rang last towards a side, behind an act of his: none where a code from there was heard since
abbrev pub rung_after : Way → Option ℕ → Reply → Act → Option ℕ
rung_after side last reply (acts.Ring towards code) =
    if is_rung reply && same_way towards side then Some code else last
rung_after side last reply (acts.Hear from) = if is_heard reply && same_way from side then None else last
rung_after side last reply (acts.AwaitBell from code) = if is_heard reply && same_way from side then None else last
rung_after side last reply act = last

-- the same behind these entries, of which those of box b are his
abbrev pub rung_last : ℕ → Way → Option ℕ → List Entry → Option ℕ
rung_last b side last [] = last
rung_last b side last (e ∷ es) =
    rung_last b side (if e.box_no == b then rung_after side last e.reply e.call.act else last) es

-- the man of box b behind a journal: what he has taken by the state of his box, and what he rang last by the journal
abbrev pub listener_of : LineState → ℕ → List Entry → Listener
listener_of state b es =
    record {
      box_no = b;
      taken = record {
        up = (box_at state b).incoming.up.taken;
        down = (box_at state b).incoming.down.taken;
      };
      rung = record { up = rung_last b Up None es; down = rung_last b Down None es };
    }
