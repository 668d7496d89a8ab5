-- Texts and calls that grow train by train.
use Rattle.std.proofs.Common.{◌≡◌, ℕ, ◌+◌, zero, suc, List, [], ◌∷◌, ◌++◌, refl, append_assoc, add-one}
use Rattle.std.proofs.lemmas.List.{append-nil, map-append}
use Rattle.line_maker.specs.MadeTexts.{train_text, trains_text}
use Rattle.line_maker.specs.MadeTrains.{train_moment}
use Rattle.line_maker.specs.MadeCalls.{acts_for, calls_at, made_calls}
use Rattle.line_law.specs.declared.call.Act.{Act}
use Rattle.line_law.specs.declared.call.Call.{Call}
use Rattle.line_maker.specs.declared.working.MadeBox.{MadeBox}

pub trains_none : trains_text 0 ≡ []
unfolding trains_text
trains_none = refl

pub trains_next : (n : ℕ) → trains_text (n + 1) ≡ trains_text n ++ train_text (n + 1)
unfolding trains_text
trains_next n = rw add-one refl

pub calls_none : (at : MadeBox) → made_calls at 0 ≡ []
unfolding made_calls
calls_none at = refl

pub calls_next : (at : MadeBox) (n : ℕ)
    → made_calls at (n + 1) ≡ made_calls at n ++ calls_at (train_moment (n + 1)) (acts_for at (n + 1))
unfolding made_calls
calls_next at n = rw add-one refl

abbrev call_at : ℕ → Act → Call
call_at moment act = record { moment = moment; act = act }

-- acts behind others are calls behind theirs
pub calls_at-append : (moment : ℕ) (front acts : List Act)
    → calls_at moment (front ++ acts) ≡ calls_at moment front ++ calls_at moment acts
calls_at-append moment front acts = map-append (λ (act : Act). call_at moment act) front acts

pub ruleset joining = (calls_at-append, append_assoc, append-nil)

pub ruleset growing = (trains_none, trains_next, calls_none, calls_next, append_assoc, append-nil)
