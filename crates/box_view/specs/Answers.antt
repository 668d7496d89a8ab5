-- What a man is told of the answer to his call, and of a refused call at length.
use Rattle.std.specs.Prelude.{◌≡◌, ℕ, Bool, true, false, List, [], ◌∷◌, ◌++◌, codes, if◌then◌else◌}
use Rattle.line_law.specs.declared.call.Reply.{Reply}
use Rattle.line_law.specs.declared.call.Reply.TheVariants as replies
use Rattle.line_law.specs.Refusals.{is_refused}
use Rattle.reply_sentences.specs.Sentences.{Says}

-- the word of what was done, with which its line begins
abbrev pub done_front : Reply → List ℕ
done_front (replies.Rung k) = codes "rung: "
done_front (replies.Heard code k) = codes "heard: "
done_front (replies.Turned v) = codes "turned: "
done_front (replies.Seen v) = codes "seen: "
done_front replies.Pulled = codes "pulled"
done_front (replies.PulledUnder v) = codes "pulled under the Line Clear of "
done_front replies.Put = codes "put back"
done_front replies.Brought = codes "brought"
done_front (replies.Passed train) = codes "passed: "
done_front (replies.Entered train k) = codes "entered: "
done_front (replies.Approaching train j) = codes "approaching: "
done_front (replies.Berthed train j) = codes "berthed: "
done_front (replies.PartBerthed train j) = codes "berthed in part: "
done_front (replies.Cleared train j) = codes "cleared: "
done_front (replies.Winding ready_at) = codes "winding: "
done_front replies.Released = codes "released"
done_front reply = []

-- the line of an answer begins with a word for what was done, or with the word of a refusal
abbrev pub answer_front : Reply → List ℕ
answer_front reply = if is_refused reply then codes "refused: " else done_front reply

-- what was done is told by its word alone
abbrev pub is_plain : Reply → Bool
is_plain replies.Pulled = true
is_plain replies.Put = true
is_plain replies.Brought = true
is_plain replies.Released = true
is_plain reply = false

-- behind a text comes the line of a word, and behind that word what it tells, of bytes that print; or the word alone
abbrev pub TellsFront : Bool → List ℕ → List ℕ → List ℕ → Type 0
TellsFront true front old new = new ≡ old ++ front ++ 10 ∷ []
TellsFront false front old new = (middle : List ℕ) × Says (old ++ front) middle × (new ≡ middle ++ 10 ∷ [])

-- behind a text comes the line of an answer
abbrev pub TellsAnswer : Reply → List ℕ → List ℕ → Type 0
TellsAnswer reply old new = TellsFront (is_plain reply) (answer_front reply) old new

-- behind a text comes a line of bytes that print, not empty
abbrev pub SaysLine : List ℕ → List ℕ → Type 0
SaysLine old new = (middle : List ℕ) × Says old middle × (new ≡ middle ++ 10 ∷ [])

-- behind a text come three such lines: why a call was refused, and the rule
abbrev pub SaysThree : List ℕ → List ℕ → Type 0
SaysThree old new = (one : List ℕ) × (two : List ℕ) × SaysLine old one × SaysLine one two × SaysLine two new
