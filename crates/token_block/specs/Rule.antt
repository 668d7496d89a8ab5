-- The rule of a single line's shared words, and of the views of its seats.
use Rattle.std.specs.Prelude.{◌≡◌, ℕ, ◌<◌, ◌≤◌, ◌==◌, ◌⊎◌, if◌then◌else◌, IfSome, List, [], length, slice_index}
use Rattle.std.specs.Prelude.{Option, Some, None}
use mathlib.Core.Option.{some}
use mathlib.Core.List.{IsPrefix}
use lib.ListN.{get_elem?}
use Rattle.atomic_table.specs.Table.{State}
use Rattle.token_law.specs.declared.calls.Shown.{Shown}
use Rattle.token_law.specs.declared.calls.Shown.TheVariants.{Idle, Leave, Held, OnLine}
use Rattle.token_law.specs.declared.calls.TokenEntry.{TokenEntry}
use Rattle.token_law.specs.History.{IsTokenHistory, token_part_of, token_state_of}
use Rattle.token_block.specs.declared.view.SeenBefore.{SeenBefore}
use Rattle.token_block.specs.declared.view.Tokens.{Tokens}
use Rattle.token_block.specs.declared.view.TokenView.{TokenView}
use Rattle.token_block.specs.Views.{holders, spent_view}
use Rattle.token_block.specs.Words.{IsLineWord, IsShown, LineWord, line_words, number_after, place_of}

-- the most calls that a box may make
abbrev pub most_box_calls : ℕ
most_box_calls = 4000000000

-- a legal token history of a line that opens with so many tokens
abbrev pub IsHistoryOf : Tokens → List TokenEntry → Type 0
IsHistoryOf tokens log = IsTokenHistory tokens.at_0 tokens.at_1 log

-- what the instruments show after a history
abbrev pub shown_after : Tokens → List TokenEntry → Shown
shown_after tokens log = (token_state_of tokens.at_0 tokens.at_1 log).shown

-- what was seen is a beginning of the history, in which the box whose post is held has the entries that were seen of
-- it, and no other
pub record Seen (log : List TokenEntry) (post : Option ℕ) (seen : List TokenEntry) : Type 0 where
  pub begins : IsPrefix seen log
  pub own : (p : ℕ) → post ≡ Some p → token_part_of p log ≡ token_part_of p seen

-- the same of what a joined view had seen, and a beginning of what the other had
abbrev pub AllSeen : List TokenEntry → Option ℕ → Option SeenBefore → Type 0
AllSeen log post None = Unit {0}
AllSeen log post (Some olds) = Seen log post olds.mine × IsPrefix olds.theirs log

-- the train, if there is one, whose token is held at box b
abbrev pub held_at : ℕ → Shown → Option ℕ
held_at b Idle = None
held_at b (Leave to) = None
held_at b (Held at train) = if at == b then Some train else None
held_at b (OnLine to train) = None

-- the marks of a view: its hand is the train, if there is one, whose token is held at its post; where a train came, its
-- token is on the line to its post; without a post there are none
abbrev pub Marks : Shown → Option ℕ → Option ℕ → Option ℕ → Type 0
Marks shown None hand came = (hand ≡ None) × (came ≡ None)
Marks shown (Some b) hand came = (hand ≡ held_at b shown) × IfSome came (λ train. shown ≡ OnLine b train)

-- A view fits the history, where so many posts were drawn: it knows the tokens at the opening, or a join has spent it;
-- what it has seen begins the history; its post is drawn; its marks are so; and so is what it knows of joined views.
pub record Fits (tokens : Tokens) (log : List TokenEntry) (drawn : ℕ) (v : TokenView) : Type 0 where
  pub same_line : (v.opened ≡ Some tokens) ⊎ (v ≡ spent_view)
  pub seen : Seen log v.post v.seen
  pub below : (p : ℕ) → v.post ≡ Some p → p < drawn
  pub marks : Marks (shown_after tokens log) v.post v.hand v.came
  pub olds : AllSeen v.seen v.post v.olds

-- The rule, between any two steps. There is one legal token history, and some seat has seen all of it. Word 0 counts
-- the posts drawn; no post is held twice, and a box whose post isn't drawn has no entry. Every other word has its
-- number after the history, which shows boxes and trains that the token word has room for. No box has made more calls
-- than it may, and every view fits.
pub record Kept (tokens : Tokens) (s : State (Unit {0}) TokenView) : Type 0 where
  pub log : List TokenEntry
  pub wide : length s.words ≡ line_words
  pub drawn : slice_index s.words 0 ≤ 2
  pub legal : IsHistoryOf tokens log
  pub packed : (w : LineWord) → IsLineWord w → slice_index s.words (place_of w) ≡ number_after tokens log w
  pub shown : IsShown (shown_after tokens log)
  pub undrawn : (b : ℕ) → slice_index s.words 0 ≤ b → token_part_of b log ≡ []
  pub short : (b : ℕ) → length (token_part_of b log) ≤ most_box_calls
  pub once : (p : ℕ) → holders p s.views ≤ 1
  pub longest : (j : ℕ) × (v : TokenView) × (get_elem? s.views j ≡ some v) × (v.seen ≡ log)
  pub fits : (j : ℕ) (v : TokenView) → get_elem? s.views j ≡ some v → Fits tokens log (slice_index s.words 0) v
