-- What is made of a plan that is told.
use Rattle.std.proofs.Common.{Result, Ok, Err}
use Rattle.text_fetch.specs.declared.stop.Stop.{Stop}
use Rattle.text_fetch.specs.FromTexts.{FromTexts, IsGiven, Makes, told_then}
use Rattle.text_fetch.proofs.Gathering.{given_then, stops_then}

-- where the plan is given, a step that makes what comes of it makes what is told of the texts
pub plan_makes : {X A B : Type 0} (outcome : Result X Stop) (view : X → B) (plan : A) (t : FromTexts A)
    (told : A → FromTexts B) → IsGiven plan t → Makes view outcome (told plan) → Makes view outcome (told_then t told)
plan_makes (Ok x) view plan t told h made = given_then plan (view x) t told h made
plan_makes (Err stop) view plan t told h made = stops_then plan stop t told h made
