-- The first step of a call: decided in the box alone, or asking for a word.
use Rattle.std.proofs.Common.{◌≡◌, ℕ, refl, ap, sym, ◌∙◌}
use Rattle.std.specs.Prelude.{Option, Some, None, IfSome, IsSome}
use Rattle.line_plan.specs.declared.signal.Signal.{Signal}
use Rattle.line_plan.specs.Frames.{BoxFields, signal_of}
use Rattle.line_plan.specs.Plans.{PlanFields}
use Rattle.line_law.specs.declared.call.Act.{Act}
use Rattle.line_law.specs.declared.call.Act.TheVariants as acts
use Rattle.line_law.specs.declared.call.Call.{Call}
use Rattle.line_law.specs.declared.call.Reply.{Reply}
use Rattle.line_law.specs.declared.state.BoxState.{BoxState}
use Rattle.line_law.specs.Decisions.{Decision, Here, OnBell, OnBlock, OnPlainLine}
use Rattle.line_law.specs.Law.{decide}
use Rattle.line_law.specs.Tracks.{train_on}
use Rattle.line_law.specs.Trains.{move, overrun_refusal, overrun_signal, pass_refusal, pass_signal}
use Rattle.word_laws.specs.Footprint.{kind_of}
use Rattle.word_laws.specs.Operations.{IsOnWord, first_by, first_on, second_by, second_on}
use Rattle.box_desk.specs.declared.ask.Step.TheVariants.{Local, NeedsWord}
use Rattle.box_desk.specs.declared.ask.WordAsk.{WordAsk}
use Rattle.box_desk.specs.Steps.{Locally, Prepares, awaits_of}
use Rattle.box_desk.specs.TrainMoves.{HasItsTrain}

-- what a call asks for past what the box refuses
abbrev asked_in : BoxFields → Call → BoxState → WordAsk
asked_in box_plan call here =
    record {
      call = call;
      first = first_by box_plan call.act here;
      second = second_by box_plan call.act here;
      awaits = awaits_of call.act;
    }

-- the same by the kind of the word
abbrev asked_on : Decision → BoxFields → Call → BoxState → WordAsk
asked_on d box_plan call here =
    record {
      call = call;
      first = first_on (kind_of d) (first_by box_plan call.act here);
      second = second_on (kind_of d) (second_by box_plan call.act here);
      awaits = awaits_of call.act;
    }

-- where nothing is decided in the box the first step asks for the word
pub asks : (d : Decision) (box_plan : BoxFields) (call : Call) (old new : BoxState) (told : Option Reply)
    (asked : WordAsk) → told ≡ None → Locally d old told new → asked ≡ asked_in box_plan call new
    → Prepares d (asked_on d box_plan call old) old (NeedsWord asked) new
asks (Here reply after) box_plan call old new told asked none locally is = absurd cc
asks (OnBell act) box_plan call old new told asked none locally is =
    (ap (λ (a : WordAsk). NeedsWord a) (is ∙ ap (λ (h : BoxState). asked_in box_plan call h) locally.1), locally.1)
asks (OnBlock act) box_plan call old new told asked none locally is =
    (ap (λ (a : WordAsk). NeedsWord a) (is ∙ ap (λ (h : BoxState). asked_in box_plan call h) locally.1), locally.1)
asks (OnPlainLine act) box_plan call old new told asked none locally is =
    (ap (λ (a : WordAsk). NeedsWord a) (is ∙ ap (λ (h : BoxState). asked_in box_plan call h) locally.1), locally.1)

-- and else it has the law's reply
pub decides : (d : Decision) (asked : WordAsk) (old new : BoxState) (told : Option Reply) (reply : Reply)
    → told ≡ Some reply → Locally d old told new → Prepares d asked old (Local reply) new
decides (Here other after) asked old new told reply some locally =
    let same : reply ≡ other = one_reply reply other (sym some ∙ locally.0) in
    (ap (λ (r : Reply). Local r) same, locally.1)
  where
    one_reply : (a b : Reply) → Some a ≡ Some b → a ≡ b
    one_reply a b e = cc
decides (OnBell act) asked old new told reply some locally = absurd cc
decides (OnBlock act) asked old new told reply some locally = absurd cc
decides (OnPlainLine act) asked old new told reply some locally = absurd cc

-- ---- where nothing is decided in the box

pub on_word : (d : Decision) (old new : BoxState) (told : Option Reply) → told ≡ None → Locally d old told new
    → IsOnWord (kind_of d)
on_word (Here reply after) old new told none locally = absurd cc
on_word (OnBell act) old new told none locally = tt
on_word (OnBlock act) old new told none locally = tt
on_word (OnPlainLine act) old new told none locally = tt

pub unchanged : (d : Decision) (old new : BoxState) (told : Option Reply) → told ≡ None → Locally d old told new
    → new ≡ old
unchanged (Here reply after) old new told none locally = absurd cc
unchanged (OnBell act) old new told none locally = locally.1
unchanged (OnBlock act) old new told none locally = locally.1
unchanged (OnPlainLine act) old new told none locally = locally.1

move_stands : (t : Option ℕ) (r : Option Reply) (box_plan : BoxFields) (here : BoxState) (signal : Signal)
    → IsOnWord (kind_of (move t r box_plan here signal)) → IsSome t
move_stands None r box_plan here signal on = absurd on
move_stands (Some train) r box_plan here signal on = refl

pass_stands : (s : Option Signal) (box_plan : BoxFields) (here : BoxState)
    → IsOnWord (kind_of (pass_signal s box_plan here)) → IfSome s (λ signal. IsSome (train_on here.places signal.from))
pass_stands None box_plan here on = tt
pass_stands (Some signal) box_plan here on =
    move_stands (train_on here.places signal.from) (pass_refusal here signal) box_plan here signal on

overrun_stands : (s : Option Signal) (box_plan : BoxFields) (here : BoxState)
    → IsOnWord (kind_of (overrun_signal s box_plan here))
    → IfSome s (λ signal. IsSome (train_on here.places signal.from))
overrun_stands None box_plan here on = tt
overrun_stands (Some signal) box_plan here on =
    move_stands (train_on here.places signal.from) (overrun_refusal here signal) box_plan here signal on

-- a train that is let pass or overrun on a word stands at its signal
pub has_train : (line : PlanFields) (box_plan : BoxFields) (act : Act) (here : BoxState)
    → IsOnWord (kind_of (decide line box_plan act here)) → HasItsTrain box_plan act here
has_train line box_plan (acts.Pass lever) here on = pass_stands (signal_of box_plan lever) box_plan here on
has_train line box_plan (acts.Overrun lever) here on = overrun_stands (signal_of box_plan lever) box_plan here on
has_train line box_plan act here on = tt
