-- A line that was watched while its men worked, and once more when they had ended.
use Rattle.std.specs.Prelude.{◌≡◌, ℕ, ◌<◌, List, [], ◌∷◌, ◌++◌, length, slice_index_or}
use mathlib.Core.List.{IsPrefix}
use Rattle.line_plan.specs.Plans.{PlanFields}
use Rattle.line_plan.specs.Sections.{sections_of}
use Rattle.line_law.specs.declared.call.Entry.{Entry}
use Rattle.line_law.specs.History.{IsLegal, part_of}
use Rattle.line_watch.specs.declared.sight.Sight.{Sight}
use Rattle.line_watch.specs.Watching.{LooksInTurn, RoundsInTurn}
use Rattle.signalman_seats.specs.Men.{Man}

-- ---- the gathering of what each man has seen

-- A man took back posts that he or others had lent. What he had seen is a beginning of what he has then seen, which is
-- legal, and all else of his stays.
pub record HasTaken (plan : PlanFields) (before after : Man) : Type 0 where
  pub begins : IsPrefix before.view.seen after.view.seen
  pub legal : IsLegal plan after.view.seen
  pub kept : after ≡ record before { view = record before.view { seen = after.view.seen } }

-- the first of the men took back posts, and every other man is as he was
pub record FirstHasTaken (plan : PlanFields) (before after : List Man) : Type 0 where
  pub each : length after ≡ length before
  pub taken : (d : Man) → HasTaken plan (slice_index_or before 0 d) (slice_index_or after 0 d)
  pub others : (b : ℕ) (d : Man) → 0 < b → b < length before
      → slice_index_or after b d ≡ slice_index_or before b d

-- a history begins with what each of so many men, from the first, has seen
abbrev pub BeginsWithAll : ℕ → List Man → List Entry → Type 0
BeginsWithAll count men log =
    (b : ℕ) (d : Man) → b < count → IsPrefix (slice_index_or men b d).view.seen log

-- ---- the rounds

-- A round was filled when the men had ended. What the observer had seen of the line before it begins with what he had
-- seen at the earlier rounds, and with what each man had seen; and what he had seen after it, the first man has seen.
pub record IsLastRound (plan : PlanFields) (earlier : List Entry) (before after : List Man) (round : List Sight)
    : Type 0 where
  pub start : List Entry
  pub log : List Entry
  pub begins : IsPrefix earlier start
  pub gathered : BeginsWithAll (length before) before start
  pub looked : LooksInTurn plan (sections_of plan) round start log
  pub seen : (d : Man) → IsPrefix log (slice_index_or after 0 d).view.seen

-- A line was watched by an observer until its men had ended, and these are his rounds: those that he filled while they
-- worked, and the last. All were looks in turn, up to what he had seen at the end. When he began the last round he had
-- seen every entry that a man has made; and the first man has seen all that he had seen at the end.
pub record IsWatched (plan : PlanFields) (men : List Man) (rounds : List (List Sight)) (log : List Entry)
    : Type 0 where
  pub front : List (List Sight)
  pub last : List Sight
  pub split : rounds ≡ front ++ last ∷ []
  pub in_turn : RoundsInTurn plan (front ++ last ∷ []) [] log
  pub start : List Entry
  pub at_last : LooksInTurn plan (sections_of plan) last start log
  pub entries : (b : ℕ) (d : Man) → b < length men
      → IsPrefix (slice_index_or men b d).entries (part_of (slice_index_or men b d).box_no start)
  pub by_first : (d : Man) → IsPrefix log (slice_index_or men 0 d).view.seen
