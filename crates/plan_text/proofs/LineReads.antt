-- Lines that are read one behind the other.
use Rattle.std.proofs.Common.{◌≡◌, ℕ, ◌≤◌, true, false, ◌&&◌, eqb, leb, List, [], ◌∷◌, ◌++◌, length, map, Some, Result}
use Rattle.std.proofs.Common.{Ok, refl, sym, ◌∙◌, arith, append_assoc}
use Rattle.std.specs.List.{list_all, join_with_byte}
use Rattle.std.proofs.lemmas.Bool.Decides.{nat_tests}
use Rattle.std.proofs.lemmas.List.{append-nil}
use Rattle.rail_text.specs.Gives.{◌>>=◌}
use Rattle.rail_text.specs.Words.{keyword}
use Rattle.rail_text.specs.Forms.{is_word, is_skipped}
use Rattle.rail_text.specs.declared.cause.Cause.{Cause}
use Rattle.line_plan.specs.Frames.{BoxFields}
use Rattle.plan_draft.specs.Drafts.{DraftFields, rank}
use Rattle.plan_draft.specs.Reading.{line_kind, between, may_follow, box_with, here_onto, kind_onto, has_ended}
use Rattle.plan_draft.specs.Reading.{words_onto}
use Rattle.plan_draft.specs.declared.draft.Stage.{Stage}
use Rattle.plan_draft.specs.declared.draft.Stage.TheVariants as stages

-- the words of a line as it may stand in a text
pub record IsLine (words : List (List ℕ)) : Type 0 where
  pub each : list_all is_word words ≡ true
  pub short : length (join_with_byte 32 words) ≤ 200
  pub begins : is_skipped (keyword words) ≡ false

-- each of these may stand in a text as a line
abbrev pub AreLines : List (List (List ℕ)) → Type 0
AreLines [] = Unit {0}
AreLines (words ∷ lines) = IsLine words × AreLines lines

-- what these lines make of a draft
abbrev pub onto_all : DraftFields → List (List (List ℕ)) → Result DraftFields Cause
onto_all draft [] = Ok draft
onto_all draft (words ∷ lines) = words_onto draft words >>= (λ next. onto_all next lines)

-- these lines stand in a text, and make that of the draft
pub record AreRead (draft : DraftFields) (lines : List (List (List ℕ))) (last : DraftFields) : Type 0 where
  pub stand : AreLines lines
  pub onto : onto_all draft lines ≡ Ok last

-- no lines at all leave a draft as it is
pub read_none : (draft : DraftFields) → AreRead draft [] draft
read_none draft = record { stand = tt; onto = refl }

-- where a line makes the next draft and the lines behind it are read from there, all of them are read
pub read_line : (draft next last : DraftFields) (words : List (List ℕ)) (lines : List (List (List ℕ))) → IsLine words
    → words_onto draft words ≡ Ok next → AreRead next lines last → AreRead draft (words ∷ lines) last
read_line draft next last words lines is e r = record { stand = (is, r.stand); onto = rw e r.onto }

-- the same lines
pub read_same : (draft last : DraftFields) (lines others : List (List (List ℕ))) → lines ≡ others
    → AreRead draft others last → AreRead draft lines last
read_same draft last lines others e r = rw e r

-- ---- the lines of a box

-- the draft in a box, whose last line was of this kind
abbrev pub hold : DraftFields → Stage → BoxFields → DraftFields
hold draft stage here = record { stage = stage; count = draft.count; plan = draft.plan; here = here }

-- a stage in a box, at most of this rank
pub record InBox (stage : Stage) (high : ℕ) : Type 0 where
  pub low : 6 ≤ rank stage
  pub most : rank stage ≤ high

-- a kind of lines that stand in a box
pub record IsBoxKind (kind : Stage) : Type 0 where
  pub low : 6 ≤ rank kind
  pub high : rank kind ≤ 15
  pub onto : (draft : DraftFields) (words : List (List ℕ)) → kind_onto kind draft words ≡ here_onto kind draft words
  pub follows : (last : Stage) → may_follow kind last ≡ between 6 (rank kind) last

-- lines `place` stand in a box
pub place_kind : IsBoxKind stages.Place
unfolding kind_onto may_follow
place_kind = record { low = omega arith; high = omega arith; onto = λ draft words. refl; follows = λ last. refl }

-- lines `lever` stand in a box
pub lever_kind : IsBoxKind stages.Lever
unfolding kind_onto may_follow
lever_kind = record { low = omega arith; high = omega arith; onto = λ draft words. refl; follows = λ last. refl }

-- lines `signal` stand in a box
pub signal_kind : IsBoxKind stages.Signal
unfolding kind_onto may_follow
signal_kind = record { low = omega arith; high = omega arith; onto = λ draft words. refl; follows = λ last. refl }

-- lines `starter` stand in a box
pub starter_kind : IsBoxKind stages.Starter
unfolding kind_onto may_follow
starter_kind = record { low = omega arith; high = omega arith; onto = λ draft words. refl; follows = λ last. refl }

-- lines `berth` stand in a box
pub berth_kind : IsBoxKind stages.Berth
unfolding kind_onto may_follow
berth_kind = record { low = omega arith; high = omega arith; onto = λ draft words. refl; follows = λ last. refl }

-- lines `clear` stand in a box
pub clear_kind : IsBoxKind stages.Clear
unfolding kind_onto may_follow
clear_kind = record { low = omega arith; high = omega arith; onto = λ draft words. refl; follows = λ last. refl }

-- lines `permissive` stand in a box
pub permissive_kind : IsBoxKind stages.Permissive
unfolding kind_onto may_follow
permissive_kind = record { low = omega arith; high = omega arith; onto = λ draft words. refl; follows = λ last. refl }

-- lines `track` stand in a box
pub track_kind : IsBoxKind stages.Track
unfolding kind_onto may_follow
track_kind = record { low = omega arith; high = omega arith; onto = λ draft words. refl; follows = λ last. refl }

-- lines `row` stand in a box
pub row_kind : IsBoxKind stages.Row
unfolding kind_onto may_follow
row_kind = record { low = omega arith; high = omega arith; onto = λ draft words. refl; follows = λ last. refl }

is_between : (low high n : ℕ) → low ≤ n → n ≤ high → leb low n && leb n high ≡ true
is_between low high n a b = grind (arith, nat_tests)

not_ended : (n : ℕ) → n ≤ 16 → eqb n 17 ≡ false
not_ended n h = grind (arith, nat_tests)

-- a line of the kind makes of the draft what its words make of the box
pub here_read : (draft : DraftFields) (stage kind : Stage) (here next : BoxFields) (words : List (List ℕ))
    → IsBoxKind kind → InBox stage (rank kind) → line_kind (keyword words) ≡ Some kind
    → box_with kind draft.count (length draft.plan.boxes) here words ≡ Ok next
    → words_onto (hold draft stage here) words ≡ Ok (hold draft kind next)
unfolding words_onto here_onto
here_read draft stage kind here next words is in_box k e =
    let going : has_ended stage ≡ false = not_ended (rank stage) (omega (arith, in_box.most, is.high)) in
    let may : may_follow kind stage ≡ true =
    is.follows stage ∙ is_between 6 (rank kind) (rank stage) in_box.low in_box.most in
    rw (going, k, may, is.onto (hold draft stage here) words, e) refl

pub in_own : (kind : Stage) → IsBoxKind kind → InBox kind (rank kind)
in_own kind is = record { low = is.low; most = omega arith }

pub in_later : (stage : Stage) (low high : ℕ) → low ≤ high → InBox stage low → InBox stage high
in_later stage low high l i = record { low = i.low; most = omega (arith, i.most, l) }

-- what is read from a box on, wherever in its lines up to this kind the draft stands
abbrev pub GoesOn : DraftFields → ℕ → BoxFields → List (List (List ℕ)) → DraftFields → Type 0
GoesOn draft high here more last = (stage : Stage) → InBox stage high → AreRead (hold draft stage here) more last

-- one line of the kind, and then those behind it
pub then_read : (draft : DraftFields) (kind : Stage) (here next : BoxFields) (words : List (List ℕ))
    (more : List (List (List ℕ))) (last : DraftFields) → IsBoxKind kind → line_kind (keyword words) ≡ Some kind
    → IsLine words → box_with kind draft.count (length draft.plan.boxes) here words ≡ Ok next
    → GoesOn draft (rank kind) next more last → GoesOn draft (rank kind) here (words ∷ more) last
then_read draft kind here next words more last is k line e go stage in_box =
    read_line (hold draft stage here) (hold draft kind next) last words more line
    (here_read draft stage kind here next words is in_box k e) (go kind (in_own kind is))

-- a lower kind's lines may stand before
pub goes_on : (draft : DraftFields) (low high : ℕ) (here : BoxFields) (more : List (List (List ℕ))) (last : DraftFields)
    → low ≤ high → GoesOn draft high here more last → GoesOn draft low here more last
goes_on draft low high here more last l go stage in_box = go stage (in_later stage low high l in_box)

-- the lines of a list of things of one kind, one thing after the other
pub all_read : {V : Type 0} (draft : DraftFields) (kind : Stage) (line : V → List (List ℕ)) (state : List V → BoxFields)
    (more : List (List (List ℕ))) (last : DraftFields) (whole : List V) → IsBoxKind kind
    → ((v : V) → line_kind (keyword (line v)) ≡ Some kind)
    → ((front rest : List V) (v : V) → whole ≡ front ++ v ∷ rest
    → IsLine (line v)
    × (box_with kind draft.count (length draft.plan.boxes) (state front) (line v) ≡ Ok (state (front ++ v ∷ []))))
    → GoesOn draft (rank kind) (state whole) more last
    → (front vs : List V) → whole ≡ front ++ vs → GoesOn draft (rank kind) (state front) (map line vs ++ more) last
all_read draft kind line state more last whole is k step go front [] e =
    let same : whole ≡ front = e ∙ append-nil front in
    λ stage in_box. rw (sym same) (go stage in_box)
all_read draft kind line state more last whole is k step go front (v ∷ vs) e =
    let s = step front vs v e in
    then_read draft kind (state front) (state (front ++ v ∷ [])) (line v) (map line vs ++ more) last is (k v) s.0 s.1
    (all_read draft kind line state more last whole is k step go (front ++ v ∷ []) vs
    (e ∙ sym (append_assoc front (v ∷ []) vs)))

pub ruleset read_rules = (all_read)
