-- What is printed of an outcome.
use Rattle.std.proofs.Common.{◌≡◌, ◌⊎◌, ℕ, List, [], Option, Some, None, Result, Ok, Err, IsErrOf, refl, sym, ap, subst}
use Rattle.std.proofs.Common.{◌∙◌, inl, inr}
use Rattle.std.proofs.lemmas.List.Elements.{All-get_or}
use Rattle.rail_text.specs.Bytes.{appended}
use Rattle.rail_text.specs.Causes.{Rose}
use Rattle.rail_text.specs.Gives.{Fault}
use Rattle.box_top.specs.declared.status.Status.{Status}
use Rattle.box_top.specs.declared.status.Status.TheVariants as statuses
use Rattle.text_fetch.specs.declared.stop.Stop.{Stop}
use Rattle.text_fetch.specs.declared.stop.Stop.TheVariants as stops
use Rattle.command_words.specs.Commands.{Command, texts_of}
use Rattle.line_runs.specs.Outputs.{MakesText, MayCome}
use Rattle.box_top.specs.Outcomes.{Exactly, IsPrintOf, NoneRose, Print, command_told, told_exactly}
use Rattle.text_fetch.specs.FromTexts.{Held, FromTexts, Untold, Gives, Refuses, IsGiven, IsRefused, Makes, StopsAt}
use Rattle.text_fetch.specs.FromTexts.{told_then}
use Rattle.box_top.specs.Top.{Answers, Completes, Printed, PutOutcome, PutStop, PutText, ShelfCause, refused_line}

answers_done : (told : FromTexts Print) (text : List ℕ) → MayCome IsPrintOf text told → Answers told statuses.Done text
answers_done Untold text h = inl refl
answers_done (Gives print) text h = (refl, h)
answers_done (Refuses n fault) text h = absurd h

answers_refused : (told : FromTexts Print) (n : ℕ) (fault : Fault) → IsRefused n fault told
    → Answers told statuses.Refused (refused_line n fault)
answers_refused Untold n fault h = inr refl
answers_refused (Gives print) n fault h = absurd h
answers_refused (Refuses k other) n fault h = (refl, rw (h.0, h.1) refl)

refused_printed : (held : Held) (command : Command) (old new : Option (List ℕ)) (status : Status) (n : ℕ)
    (fault : Fault) → IsRefused n fault (command_told held command)
    → PutText old new (refused_line n fault) statuses.Refused status
    → Printed held (Some command) old new status
refused_printed held command old new status n fault h (inl p) = rw p.0
    (refused_line n fault, answers_refused (command_told held command) n fault h, p.1)
refused_printed held command old new status n fault h (inr p) = rw p.0
    (statuses.Refused, refused_line n fault, answers_refused (command_told held command) n fault h, p.1)

done_printed : (held : Held) (command : Command) (old new : Option (List ℕ)) (status : Status) (text : List ℕ)
    → MayCome IsPrintOf text (command_told held command) → PutText old new text statuses.Done status
    → Printed held (Some command) old new status
done_printed held command old new status text h (inl p) = rw p.0
    (text, answers_done (command_told held command) text h, p.1)
done_printed held command old new status text h (inr p) = rw p.0
    (statuses.Done, text, answers_done (command_told held command) text h, p.1)

stop_printed : (stop : Stop) (held : Held) (command : Command) (old new : Option (List ℕ)) (status : Status)
    → StopsAt stop (command_told held command) → PutStop stop old new status
    → Printed held (Some command) old new status
stop_printed (stops.Refused text line cause) held command old new status h (inl p) = refused_printed held command old
    new status text (record { line = line; cause = cause }) h p
stop_printed (stops.Refused text line cause) held command old new status h (inr p) = rw p.0 p.1
stop_printed stops.ShelfFault held command old new status h p = rw p.0 p.1
stop_printed stops.NoMemory held command old new status h p = rw p.0 p.1

-- an outcome of a command is printed
pub outcome_printed : {X : Type 0} (outcome : Result X Stop) (view : X → List ℕ) (held : Held) (command : Command)
    (old new : Option (List ℕ)) (status : Status) → MakesText IsPrintOf view outcome (command_told held command)
    → PutOutcome view outcome old new status → Printed held (Some command) old new status
outcome_printed (Ok x) view held command old new status h p = done_printed held command old new status (view x) h p
outcome_printed (Err stop) view held command old new status h p = stop_printed stop held command old new status h p

-- ---- what an outcome is, by the status

text_done : (status wanted : Status) (old new : Option (List ℕ)) (text : List ℕ) → PutText old new text wanted status
    → status ≡ statuses.Done → (wanted ≡ statuses.Done) × (new ≡ appended old text)
text_done status wanted old new text (inl p) e = (sym p.0 ∙ e, p.1)
text_done status wanted old new text (inr p) e = let bad : statuses.SinkFault ≡ statuses.Done = sym p.0 ∙ e in absurd cc

stop_not_done : (stop : Stop) (old new : Option (List ℕ)) (status : Status) → PutStop stop old new status
    → status ≡ statuses.Done → ⊥
stop_not_done (stops.Refused text line cause) old new status (inl p) e = let bad : statuses.Refused
    ≡ statuses.Done =
    (text_done status statuses.Refused old new (refused_line text (record { line = line; cause = cause })) p e).0 in cc
stop_not_done (stops.Refused text line cause) old new status (inr p) e = let bad : statuses.NoMemory
    ≡ statuses.Done = sym p.0 ∙ e in cc
stop_not_done stops.ShelfFault old new status p e = let bad : statuses.ShelfFault ≡ statuses.Done = sym p.0 ∙ e in cc
stop_not_done stops.NoMemory old new status p e = let bad : statuses.NoMemory ≡ statuses.Done = sym p.0 ∙ e in cc

-- a text that was put whole
pub record IsPut {X : Type 0} (outcome : Result X Stop) (view : X → List ℕ) (old new : Option (List ℕ)) : Type 0 where
  pub made : X
  pub is : outcome ≡ Ok made
  pub taken : new ≡ appended old (view made)

-- where the outcome of a step is put and done, something was made, and its text was taken
pub outcome_done : {X : Type 0} (outcome : Result X Stop) (view : X → List ℕ) (old new : Option (List ℕ))
    (status : Status) → PutOutcome view outcome old new status → status ≡ statuses.Done → IsPut outcome view old new
outcome_done (Ok x) view old new status p e = record
    { made = x; is = refl; taken = (text_done status statuses.Done old new (view x) p e).1 }
outcome_done (Err stop) view old new status p e = absurd (stop_not_done stop old new status p e)

text_no_fault : (status wanted : Status) (old new : Option (List ℕ)) (text : List ℕ)
    → PutText old new text wanted status → status ≡ statuses.ShelfFault → wanted ≡ statuses.ShelfFault
text_no_fault status wanted old new text (inl p) e = sym p.0 ∙ e
text_no_fault status wanted old new text (inr p) e = let bad : statuses.SinkFault ≡ statuses.ShelfFault = sym p.0 ∙ e in
    absurd cc

stop_fault : (stop : Stop) (old new : Option (List ℕ)) (status : Status) → PutStop stop old new status
    → status ≡ statuses.ShelfFault → stop ≡ stops.ShelfFault
stop_fault (stops.Refused text line cause) old new status (inl p) e = let bad : statuses.Refused
    ≡ statuses.ShelfFault = text_no_fault status statuses.Refused old new
    (refused_line text (record { line = line; cause = cause })) p e in absurd cc
stop_fault (stops.Refused text line cause) old new status (inr p) e = let bad : statuses.NoMemory
    ≡ statuses.ShelfFault = sym p.0 ∙ e in absurd cc
stop_fault stops.ShelfFault old new status p e = refl
stop_fault stops.NoMemory old new status p e = let bad : statuses.NoMemory ≡ statuses.ShelfFault = sym p.0 ∙ e in
    absurd cc

-- a fault of the shelf is one that stopped the command
pub outcome_fault : {X : Type 0} (outcome : Result X Stop) (view : X → List ℕ) (old new : Option (List ℕ))
    (status : Status) → PutOutcome view outcome old new status → status ≡ statuses.ShelfFault
    → IsErrOf outcome stops.ShelfFault
outcome_fault (Ok x) view old new status p e = let bad : statuses.Done
    ≡ statuses.ShelfFault = text_no_fault status statuses.Done old new (view x) p e in absurd cc
outcome_fault (Err stop) view old new status p e = ap (λ (s : Stop). Err s) (stop_fault stop old new status p e)

-- ---- it is done, where all is told and no count rose

-- the whole text, or want of memory
abbrev IsWhole : Print → Option (List ℕ) → Option (List ℕ) → Status → Type 0
IsWhole print old new status =
    ((status ≡ statuses.Done) × ((text : List ℕ) × IsPrintOf print text × (new ≡ appended old text)))
    ⊎ (status ≡ statuses.NoMemory)

complete_by : (status : Status) (held : Held) (command : Command) (old new : Option (List ℕ)) (print : Print)
    → Printed held (Some command) old new status → command_told held command ≡ Gives print
    → ¬ (status ≡ statuses.SinkFault) → ¬ (status ≡ statuses.ShelfFault) → IsWhole print old new status
complete_by statuses.Done held command old new print p told s t =
    let q = subst (λ (r : FromTexts Print). Answers r statuses.Done p.0) told p.1 in inl (refl, (p.0, q.1, p.2))
complete_by statuses.NoMemory held command old new print p told s t = inr refl
complete_by statuses.SinkFault held command old new print p told s t = absurd (s refl)
complete_by statuses.ShelfFault held command old new print p told s t = absurd (t refl)
complete_by statuses.Words held command old new print p told s t =
    let q = subst (λ (r : FromTexts Print). Answers r statuses.Words p.0) told p.1 in
    let bad : statuses.Words ≡ statuses.Done = q.0 in absurd cc
complete_by statuses.Refused held command old new print p told s t =
    let q = subst (λ (r : FromTexts Print). Answers r statuses.Refused p.0) told p.1 in
    let bad : statuses.Refused ≡ statuses.Done = q.0 in absurd cc

no_shelf_fault : (held : Held) (before now : List ℕ → ℕ) (words : Option Command) → NoneRose before now words
    → ¬ ShelfCause held before now words
no_shelf_fault held before now None none fault = fault
no_shelf_fault held before now (Some command) none fault =
    All-get_or (λ (name : List ℕ). ¬ Rose (before name) (now name)) (texts_of command) fault.place [] fault.within none
    fault.rose

-- where the count of no text rose, nor that of the sink, a command that isn't refused is done and its whole output
-- taken, unless memory ran out
pub completes : (held : Held) (before now : List ℕ → ℕ) (words : Option Command) (old new : Option (List ℕ))
    (sink_before sink_now : ℕ) (status : Status) → Printed held words old new status
    → (status ≡ statuses.SinkFault → Rose sink_before sink_now)
    → (status ≡ statuses.ShelfFault → ShelfCause held before now words)
    → NoneRose before now words → ¬ Rose sink_before sink_now → Completes held words old new status
completes held before now words old new sink_before sink_now status p sink shelf none calm command print e told =
    complete_by status held command old new print (subst (λ (o : Option Command). Printed held o old new status) e p)
    told
    (λ failed. calm (sink failed)) (λ failed. no_shelf_fault held before now words none (shelf failed))

-- ---- a step that makes the very text that is told

stops_then : {A B : Type 0} (stop : Stop) (t : FromTexts A) (f : A → B) → StopsAt stop t
    → StopsAt stop (told_then t (λ x. Gives (f x)))
stops_then (stops.Refused text line cause) Untold f h = tt
stops_then (stops.Refused text line cause) (Gives x) f h = h
stops_then (stops.Refused text line cause) (Refuses n fault) f h = h
stops_then stops.ShelfFault t f h = tt
stops_then stops.NoMemory t f h = tt

given_exactly : (text : List ℕ) (t : FromTexts (List ℕ)) → IsGiven text t → MayCome IsPrintOf text (told_exactly t)
given_exactly text Untold h = tt
given_exactly text (Gives bytes) h = sym h
given_exactly text (Refuses n fault) h = h

-- a step that makes the text that is told prints exactly that text
pub makes_exactly : {X : Type 0} (outcome : Result X Stop) (view : X → List ℕ) (t : FromTexts (List ℕ))
    → Makes view outcome t → MakesText IsPrintOf view outcome (told_exactly t)
makes_exactly (Ok x) view t h = given_exactly (view x) t h
makes_exactly (Err stop) view t h = stops_then stop t Exactly h

exactly_given : (text : List ℕ) (t : FromTexts (List ℕ)) → MayCome IsPrintOf text (told_exactly t) → IsGiven text t
exactly_given text Untold h = tt
exactly_given text (Gives bytes) h = sym h
exactly_given text (Refuses n fault) h = h

exactly_stops : (stop : Stop) (t : FromTexts (List ℕ)) → StopsAt stop (told_exactly t) → StopsAt stop t
exactly_stops (stops.Refused text line cause) Untold h = tt
exactly_stops (stops.Refused text line cause) (Gives bytes) h = h
exactly_stops (stops.Refused text line cause) (Refuses n fault) h = h
exactly_stops stops.ShelfFault t h = tt
exactly_stops stops.NoMemory t h = tt

-- a step that prints exactly the text that is told makes that text
pub exactly_makes : {X : Type 0} (outcome : Result X Stop) (view : X → List ℕ) (t : FromTexts (List ℕ))
    → MakesText IsPrintOf view outcome (told_exactly t) → Makes view outcome t
exactly_makes (Ok x) view t h = exactly_given (view x) t h
exactly_makes (Err stop) view t h = exactly_stops stop t h

-- ---- a step that makes the output of a run, or a summary

come_then : {A : Type 0} (Comes : A → List ℕ → Type 0) (f : A → Print)
    → ((x : A) (text : List ℕ) → Comes x text → IsPrintOf (f x) text) → (text : List ℕ) (t : FromTexts A)
    → MayCome Comes text t → MayCome IsPrintOf text (told_then t (λ x. Gives (f x)))
come_then Comes f is text Untold h = tt
come_then Comes f is text (Gives x) h = is x text h
come_then Comes f is text (Refuses n fault) h = h

-- where each text that comes of what is told is a print of it, a step that makes such a text prints it
pub makes_print : {X A : Type 0} (Comes : A → List ℕ → Type 0) (f : A → Print)
    → ((x : A) (text : List ℕ) → Comes x text → IsPrintOf (f x) text) → (outcome : Result X Stop) (view : X → List ℕ)
    (t : FromTexts A) → MakesText Comes view outcome t
    → MakesText IsPrintOf view outcome (told_then t (λ x. Gives (f x)))
makes_print Comes f is (Ok x) view t h = come_then Comes f is (view x) t h
makes_print Comes f is (Err stop) view t h = stops_then stop t f h
