-- Which reply a text gives for a call.
use Rattle.std.specs.Prelude.{ℕ, ◌^◌, Bool, true, false, ◌&&◌, ◌||◌, nat_lt, List, [], ◌∷◌, Option, Some, None, Result}
use Rattle.std.specs.Prelude.{Ok, Err, if◌then◌else◌, bytes_eq, codes, slice_get, option_map}
use Rattle.block_words.specs.declared.Position.{Position}
use Rattle.block_words.specs.declared.WelwynState.{WelwynState}
use Rattle.block_words.specs.declared.WelwynState.TheVariants as states
use Rattle.rail_text.specs.Lines.{words_of}
use Rattle.rail_text.specs.Number.{number_of}
use Rattle.rail_text.specs.declared.cause.Cause.{Cause}
use Rattle.rail_text.specs.declared.cause.Cause.TheVariants as causes
use Rattle.line_plan.specs.Plans.{PlanFields}
use Rattle.line_law.specs.declared.call.Act.{Act}
use Rattle.line_law.specs.declared.call.Reply.{Reply}
use Rattle.line_law.specs.declared.call.Reply.TheVariants as replies
use Rattle.script_text.specs.Moments.{ready_of}
use Rattle.script_text.specs.Names.{row_named, way_named, position_named, code_named, place_named, train_named}
use Rattle.script_text.specs.Replies.{is_spelled_reply}
use Rattle.script_text.specs.PossibleReplies.{may_answer}

-- ---- single words

-- what is read of a word, and then the reply that is made of it
infixl 10 ◌and_then◌
abbrev pub ◌and_then◌ : {A B : Type 0} → Option A → (A → Option B) → Option B
None and_then f = None
(Some x) and_then f = f x

-- a number of 32 bits
abbrev pub small : Option ℕ → Option ℕ
small None = None
small (Some n) = if nat_lt n (2 ^ 32) then Some n else None

-- the number of 32 bits that a word spells
abbrev pub small_number : List ℕ → Option ℕ
small_number word = small (number_of word)

-- the state that a word names by which the commutator is held
abbrev pub state_named : List ℕ → Option WelwynState
state_named word =
    if bytes_eq word (codes "given") then Some states.Given else if bytes_eq word (codes "berthed")
    then Some states.Berthed else None

-- whether the word says that an instrument is spent
abbrev pub spent_named : List ℕ → Option Bool
spent_named word = if bytes_eq word (codes "spent") then Some true else if bytes_eq word (codes "unspent")
    then Some false else None

-- ---- replies by their words

-- replies of a word alone
abbrev pub lone_rows : List (List ℕ × Reply)
lone_rows =
    (codes "already_there", replies.AlreadyThere)
    ∷ (codes "not_from_normal", replies.NotFromNormal)
    ∷ (codes "pulled", replies.Pulled)
    ∷ (codes "already_reversed", replies.AlreadyReversed)
    ∷ (codes "spare", replies.Spare)
    ∷ (codes "put", replies.Put)
    ∷ (codes "already_normal", replies.AlreadyNormal)
    ∷ (codes "brought", replies.Brought)
    ∷ (codes "already_brought", replies.AlreadyBrought)
    ∷ (codes "no_train", replies.NoTrain)
    ∷ (codes "at_danger", replies.AtDanger)
    ∷ (codes "arm_off", replies.ArmOff)
    ∷ (codes "no_portion", replies.NoPortion)
    ∷ (codes "already_winding", replies.AlreadyWinding)
    ∷ (codes "not_at_normal", replies.NotAtNormal)
    ∷ (codes "released", replies.Released)
    ∷ (codes "not_winding", replies.NotWinding)
    ∷ []

-- a word alone
unfoldable pub lone_reply : List ℕ → Option Reply
lone_reply word = row_named lone_rows word

-- replies of a word and a number of at most ten digits
abbrev pub count_rows : ℕ → List (List ℕ × Reply)
count_rows n =
    (codes "rung", replies.Rung n)
    ∷ (codes "silent", replies.Silent n)
    ∷ (codes "turned", replies.Turned n)
    ∷ (codes "seen", replies.Seen n)
    ∷ (codes "pulled_under", replies.PulledUnder n)
    ∷ (codes "section_full", replies.SectionFull n)
    ∷ (codes "not_yet", replies.TrainNotYet n)
    ∷ (codes "no_train", replies.NoTrainAt n)
    ∷ []

-- a word and such a number
unfoldable pub count_reply : List ℕ → ℕ → Option Reply
count_reply word n = row_named (count_rows n) word

-- two words: the second is a train, a lever, a state, a moment or a number
unfoldable pub pair_reply : PlanFields → List ℕ → List ℕ → Option Reply
pair_reply plan word other =
    if bytes_eq word (codes "passed") then option_map (λ train. replies.Passed train) (train_named plan other)
    else if bytes_eq word (codes "occupied")
    then option_map (λ train. replies.BerthOccupied train) (train_named plan other)
    else if bytes_eq word (codes "portion_ahead")
    then option_map (λ train. replies.PortionAhead train) (train_named plan other)
    else if bytes_eq word (codes "home_reversed")
    then option_map (λ lever. replies.HomeReversed lever) (small_number other)
    else if bytes_eq word (codes "count_full") then option_map (λ out. replies.CountFull out) (small_number other)
    else if bytes_eq word (codes "welwyn_holds")
    then option_map (λ state. replies.WelwynHolds state) (state_named other)
    else if bytes_eq word (codes "winding")
    then option_map (λ moment. replies.Winding moment) (ready_of plan.version other)
    else if bytes_eq word (codes "too_soon")
    then option_map (λ moment. replies.TooSoon moment) (ready_of plan.version other)
    else number_of other and_then count_reply word

-- replies of a word, a number and a code
abbrev pub code_rows : ℕ → ℕ → List (List ℕ × Reply)
code_rows k code = (codes "bell_busy", replies.BellBusy code k) ∷ (codes "heard", replies.Heard code k) ∷ []

-- a word, a number and a code
abbrev pub code_reply : List ℕ → ℕ → ℕ → Option Reply
code_reply word k code = row_named (code_rows k code) word

-- replies of a word, a place and a train
abbrev pub stand_rows : ℕ → ℕ → List (List ℕ × Reply)
stand_rows place train =
    (codes "track_occupied", replies.TrackOccupied place train)
    ∷ (codes "held_by_track", replies.HeldByTrack place train)
    ∷ (codes "occupied", replies.Occupied place train)
    ∷ []

-- a word, a place and a train
abbrev pub stand_reply : List ℕ → ℕ → ℕ → Option Reply
stand_reply word place train = row_named (stand_rows place train) word

-- replies of a word, a number and a train
abbrev pub train_rows : ℕ → ℕ → List (List ℕ × Reply)
train_rows n train =
    (codes "entered", replies.Entered train n)
    ∷ (codes "approaching", replies.Approaching train n)
    ∷ (codes "berthed", replies.Berthed train n)
    ∷ (codes "part_berthed", replies.PartBerthed train n)
    ∷ (codes "cleared", replies.Cleared train n)
    ∷ []

-- a word, a number and a train
abbrev pub train_reply : List ℕ → ℕ → ℕ → Option Reply
train_reply word n train = row_named (train_rows n train) word

-- a word before a number and a train
abbrev pub tells_a_train : List ℕ → Bool
tells_a_train word =
    bytes_eq word (codes "entered") || bytes_eq word (codes "approaching") || bytes_eq word (codes "berthed")
    || bytes_eq word (codes "part_berthed") || bytes_eq word (codes "cleared")

-- what a bell shows: no code, or one of the code table
abbrev pub bell_shown : PlanFields → List ℕ → Option (Option ℕ)
bell_shown plan word = if bytes_eq word (codes "none") then Some None
    else option_map (λ code. Some code) (code_named plan word)

-- what an instrument or a bell shows after n turns or codes: a position, or else a code or none
abbrev pub shown_reply : PlanFields → ℕ → List ℕ → Option Position → Option Reply
shown_reply plan n word (Some position) = Some (replies.BlockNotYet position n)
shown_reply plan n word None = option_map (λ shown. replies.BellNotYet shown n) (bell_shown plan word)

-- three words: a number with a code, a position or a train, or a place with a train
unfoldable pub triple_reply : PlanFields → ℕ → List ℕ → List ℕ → List ℕ → Option Reply
triple_reply plan b word other last =
    if bytes_eq word (codes "not_yet")
    then number_of other and_then (λ n. shown_reply plan n last (position_named last))
    else if bytes_eq word (codes "bell_busy") || bytes_eq word (codes "heard") then
    number_of other and_then (λ k. code_named plan last and_then code_reply word k)
    else if tells_a_train word then
    number_of other and_then (λ n. train_named plan last and_then train_reply word n)
    else place_named plan b other and_then (λ place. train_named plan last and_then stand_reply word place)

-- held_by_lever L row R
unfoldable pub lever_reply : List ℕ → List ℕ → List ℕ → List ℕ → Option Reply
lever_reply word lever row number =
    if bytes_eq word (codes "held_by_lever") && bytes_eq row (codes "row") then
    small_number lever and_then (λ l. option_map (λ r. replies.HeldByLever l r) (small_number number))
    else None

-- held_by_instrument WAY v POSITION spent or unspent
unfoldable pub instrument_reply : List ℕ → List ℕ → List ℕ → List ℕ → List ℕ → Option Reply
instrument_reply word way turns position spent =
    if bytes_eq word (codes "held_by_instrument") then
    way_named way and_then (λ w. number_of turns and_then (λ v. position_named position and_then (λ p.
    option_map (λ s. replies.HeldByInstrument w p s v) (spent_named spent))))
    else None

-- a reply by its first word and those behind it, if there are some
abbrev pub counted_reply : PlanFields → ℕ → Option (List ℕ) → Option (List ℕ) → Option (List ℕ) → Option (List ℕ)
    → Option (List ℕ) → Option (List ℕ) → Option Reply
counted_reply plan b None p q r s t = None
counted_reply plan b (Some word) None q r s t = lone_reply word
counted_reply plan b (Some word) (Some p) None r s t = pair_reply plan word p
counted_reply plan b (Some word) (Some p) (Some q) None s t = triple_reply plan b word p q
counted_reply plan b (Some word) (Some p) (Some q) (Some r) None t = lever_reply word p q r
counted_reply plan b (Some word) (Some p) (Some q) (Some r) (Some s) None = instrument_reply word p q r s
counted_reply plan b (Some word) (Some p) (Some q) (Some r) (Some s) (Some t) = None

-- the reply that these words have the shape of
unfoldable pub shaped_reply : PlanFields → ℕ → List (List ℕ) → Option Reply
shaped_reply plan b words =
    counted_reply plan b (slice_get words 0) (slice_get words 1) (slice_get words 2) (slice_get words 3)
    (slice_get words 4) (slice_get words 5)

-- a reply for such a call, if it may answer it and can be spelled at box b
abbrev pub accepted : PlanFields → ℕ → Act → Option Reply → Result Reply Cause
accepted plan b act None = Err causes.BadReply
accepted plan b act (Some reply) =
    if may_answer act reply && is_spelled_reply plan b reply then Ok reply else Err causes.BadReply

-- the reply that words spell for such a call of box b
unfoldable pub reply_in : PlanFields → ℕ → Act → List (List ℕ) → Result Reply Cause
reply_in plan b act words = accepted plan b act (shaped_reply plan b words)

-- the reply that a text spells for such a call of box b
unfoldable pub reply_of : PlanFields → ℕ → Act → List ℕ → Result Reply Cause
reply_of plan b act text = reply_in plan b act (words_of text)
