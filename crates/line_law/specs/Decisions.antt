-- Where a call is decided, and what it does there.
use Rattle.std.specs.Prelude.{List, Option, Some, None}
use Rattle.block_words.specs.declared.Way.{Way}
use Rattle.line_law.specs.declared.call.Reply.{Reply}
use Rattle.line_law.specs.declared.state.Bell.{Bell}
use Rattle.line_law.specs.declared.state.Block.{Block}
use Rattle.line_law.specs.declared.state.BoxState.{BoxState}
use Rattle.line_law.specs.declared.state.PairState.{PairState}
use Rattle.line_law.specs.declared.state.Passage.{Passage}
use Rattle.line_law.specs.Ways.{of_way, with_way}

-- the reply of a call, its box after it, and the word after it
pub record Told (Word : Type 0) : Type 0 where
  pub reply : Reply
  pub here : BoxState
  pub word : Word

-- A call is decided in its box alone, with this reply and this box after it; or on one bell, on one instrument or on
-- one plain line: then reply, box and word after it are a function of that word.
pub data Decision : Type 0 where
  Here : Reply → BoxState → Decision
  OnBell : (Bell → Told Bell) → Decision
  OnBlock : (Block → Told Block) → Decision
  OnPlainLine : (List Passage → Told (List Passage)) → Decision

-- what a call on the bell of that way leaves in the pair
abbrev pub bell_told : PairState → Way → Told Bell → Told PairState
bell_told pair way told =
    record { reply = told.reply; here = told.here; word = record pair { bells = with_way pair.bells way told.word } }

-- what a call on the instrument of that way leaves in the pair
abbrev pub block_told : PairState → Way → Told Block → Told PairState
block_told pair way told =
    record { reply = told.reply; here = told.here; word = record pair { blocks = with_way pair.blocks way told.word } }

-- what a call on the plain line of that way leaves in the pair
abbrev pub plain_line_told : PairState → Way → Told (List Passage) → Told PairState
plain_line_told pair way told =
    record { reply = told.reply; here = told.here; word = record pair { lines = with_way pair.lines way told.word } }

-- a decision about the word of that way, in the pair that has the word; all else in the pair stays
abbrev pub on_pair : Way → Decision → PairState → Told PairState
on_pair way (Here reply here) pair = record { reply = reply; here = here; word = pair }
on_pair way (OnBell act) pair = bell_told pair way (act (of_way pair.bells way))
on_pair way (OnBlock act) pair = block_told pair way (act (of_way pair.blocks way))
on_pair way (OnPlainLine act) pair = plain_line_told pair way (act (of_way pair.lines way))

-- refused in the box where there is a reason, with that reply; else as the rest says
abbrev pub unless : Option Reply → BoxState → Decision → Decision
unless (Some reply) here rest = Here reply here
unless None here rest = rest

-- the first of two reasons for a refusal
abbrev pub or_later : Option Reply → Option Reply → Option Reply
or_later (Some reply) later = Some reply
or_later None later = later
