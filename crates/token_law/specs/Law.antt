-- The law of a single line with tokens: the reply to each call, and the line after it.
use Rattle.std.specs.Prelude.{ℕ, ◌+◌, ◌-◌, ◌<◌, ◌≤◌, ◌==◌, if◌then◌else◌}
use Rattle.token_law.specs.declared.calls.Shown.{Shown}
use Rattle.token_law.specs.declared.calls.Shown.TheVariants.{Idle, Leave, Held, OnLine}
use Rattle.token_law.specs.declared.calls.TokenAct.{TokenAct}
use Rattle.token_law.specs.declared.calls.TokenAct.TheVariants as acts
use Rattle.token_law.specs.declared.calls.TokenCall.{TokenCall}
use Rattle.token_law.specs.declared.calls.TokenReply.{TokenReply}
use Rattle.token_law.specs.declared.calls.TokenReply.TheVariants as replies
use Rattle.token_law.specs.States.{TokenState, tokens_at, with_tokens}

-- a reply, and the line after it
pub record TokenTold : Type 0 where
  pub reply : TokenReply
  pub after : TokenState

-- the box at the other end
abbrev pub other_end : ℕ → ℕ
other_end b = 1 - b

-- a refusal, or a look: nothing changes
abbrev pub unchanged : TokenReply → TokenState → TokenTold
unchanged reply state = record { reply = reply; after = state }

-- a reply after which the line shows this, with the same tokens in each instrument
abbrev pub then_shows : TokenReply → TokenState → Shown → TokenTold
then_shows reply state shown = record { reply = reply; after = record state { shown = shown } }

-- leave to the other box, by what is shown: refused where a leave stands, or a token is out
abbrev pub give : ℕ → TokenState → Shown → TokenTold
give b state Idle = then_shows replies.LeaveGiven state (Leave (other_end b))
give b state (Leave to) = unchanged (replies.LeaveOut to) state
give b state (Held at train) = unchanged (replies.TokenOut train) state
give b state (OnLine to train) = unchanged (replies.TokenOut train) state

-- the leave to the other box is taken back: refused unless it stands
abbrev pub withdraw : ℕ → TokenState → Shown → TokenTold
withdraw b state Idle = unchanged replies.NoLeave state
withdraw b state (Leave to) =
    if to == other_end b then then_shows replies.Withdrawn state Idle else unchanged replies.NoLeave state
withdraw b state (Held at train) = unchanged replies.NoLeave state
withdraw b state (OnLine to train) = unchanged replies.NoLeave state

-- a token of box b goes to a train at that box
abbrev pub drawn : ℕ → ℕ → TokenState → TokenTold
drawn b train state =
    record {
      reply = replies.Drawn;
      after = with_tokens (record state { shown = Held b train }) b (tokens_at state b - 1);
    }

-- a token is drawn from an instrument that has one: refused unless the leave to this box stands
abbrev pub draw_under : ℕ → ℕ → TokenState → Shown → TokenTold
draw_under b train state Idle = unchanged replies.NoLeave state
draw_under b train state (Leave to) = if to == b then drawn b train state else unchanged replies.NoLeave state
draw_under b train state (Held at other) = unchanged (replies.TokenOut other) state
draw_under b train state (OnLine to other) = unchanged (replies.TokenOut other) state

-- a token is drawn for a train: refused first where the instrument has none
abbrev pub draw : ℕ → ℕ → TokenState → TokenTold
draw b train state =
    if tokens_at state b == 0 then unchanged replies.Empty state else draw_under b train state state.shown

-- the train that holds a token at this box goes onto the line to the other
abbrev pub depart : ℕ → TokenState → Shown → TokenTold
depart b state Idle = unchanged replies.NoToken state
depart b state (Leave to) = unchanged replies.NoToken state
depart b state (Held at train) =
    if at == b then then_shows (replies.Departed train) state (OnLine (other_end b) train)
    else unchanged replies.NoToken state
depart b state (OnLine to train) = unchanged replies.NoToken state

-- the train on the line to this box arrives: the token is then held here
abbrev pub arrive : ℕ → TokenState → Shown → TokenTold
arrive b state Idle = unchanged replies.NoTrain state
arrive b state (Leave to) = unchanged replies.NoTrain state
arrive b state (Held at train) = unchanged replies.NoTrain state
arrive b state (OnLine to train) =
    if to == b then then_shows (replies.Arrived train) state (Held b train) else unchanged replies.NoTrain state

-- the token of a train goes into the instrument of box b
abbrev pub replaced : ℕ → ℕ → TokenState → TokenTold
replaced b train state =
    record {
      reply = replies.Replaced train;
      after = with_tokens (record state { shown = Idle }) b (tokens_at state b + 1);
    }

-- the token that is held at this box is put back
abbrev pub replace : ℕ → TokenState → Shown → TokenTold
replace b state Idle = unchanged replies.NoToken state
replace b state (Leave to) = unchanged replies.NoToken state
replace b state (Held at train) = if at == b then replaced b train state else unchanged replies.NoToken state
replace b state (OnLine to train) = unchanged replies.NoToken state

-- the reply to a call of box b, and the line after it
abbrev pub token_step : TokenState → ℕ → TokenAct → TokenTold
token_step state b acts.Give = give b state state.shown
token_step state b acts.Withdraw = withdraw b state state.shown
token_step state b (acts.Draw train) = draw b train state
token_step state b acts.Depart = depart b state state.shown
token_step state b acts.Arrive = arrive b state state.shown
token_step state b acts.Replace = replace b state state.shown
token_step state b acts.Look = unchanged (replies.Seen state.shown) state

-- a train, where one is named, has a number from 1
abbrev pub NamesTrain : TokenAct → Type 0
NamesTrain acts.Give = Unit {0}
NamesTrain acts.Withdraw = Unit {0}
NamesTrain (acts.Draw train) = 1 ≤ train
NamesTrain acts.Depart = Unit {0}
NamesTrain acts.Arrive = Unit {0}
NamesTrain acts.Replace = Unit {0}
NamesTrain acts.Look = Unit {0}

-- a call that may be made: of a box of the line, for a train with a number
pub record IsTokenCall (call : TokenCall) : Type 0 where
  pub box : call.box_no < 2
  pub train : NamesTrain call.act
