-- The words that may be typed at a box, where each may stand, and what it means.
use Rattle.std.specs.Prelude.{ℕ, Bool, true, false, List, [], ◌∷◌, Option, Some, None, codes, ◌==◌, if◌then◌else◌}
use Rattle.typed_words.specs.declared.table.Command.{Command}
use Rattle.typed_words.specs.declared.table.Command.TheVariants as commands
use Rattle.typed_words.specs.declared.table.WordsBehind.{WordsBehind}
use Rattle.typed_words.specs.declared.table.WordsBehind.TheVariants as behind
use Rattle.typed_words.specs.declared.table.Meaning.{Meaning}
use Rattle.typed_words.specs.declared.table.Meaning.TheVariants as means
use Rattle.typed_words.specs.declared.table.WordKind.{WordKind}
use Rattle.typed_words.specs.declared.table.WordKind.TheVariants as kinds

-- each word with what it means
abbrev pub word_rows : List (List ℕ × Meaning)
word_rows =
    (codes "ring", means.Call behind.Way)
    ∷ (codes "hear", means.Call behind.Way)
    ∷ (codes "await_bell", means.Call behind.Way)
    ∷ (codes "turn", means.Call behind.WayAndPosition)
    ∷ (codes "await_block", means.Call behind.WayAndPosition)
    ∷ (codes "pull", means.Call behind.AsTheyStand)
    ∷ (codes "put", means.Call behind.AsTheyStand)
    ∷ (codes "pass", means.Call behind.AsTheyStand)
    ∷ (codes "overrun", means.Call behind.AsTheyStand)
    ∷ (codes "bring", means.Call behind.AsTheyStand)
    ∷ (codes "await_train", means.Call behind.Way)
    ∷ (codes "berth", means.Call behind.Way)
    ∷ (codes "berth_part", means.Call behind.Way)
    ∷ (codes "clear_portion", means.Call behind.Way)
    ∷ (codes "wind", means.Call behind.Way)
    ∷ (codes "release", means.Call behind.Way)
    ∷ (codes "at", means.Command commands.At)
    ∷ (codes "look", means.Command commands.Look)
    ∷ (codes "may", means.Command commands.May)
    ∷ (codes "why", means.Command commands.Why)
    ∷ (codes "codes", means.Command commands.Codes)
    ∷ (codes "undo", means.Command commands.Undo)
    ∷ (codes "book", means.Command commands.Book)
    ∷ (codes "save", means.Command commands.Save)
    ∷ (codes "help", means.Command commands.Help)
    ∷ (codes "end", means.Command commands.End)
    ∷ (codes "up", means.Way)
    ∷ (codes "down", means.Way)
    ∷ (codes "normal", means.Position)
    ∷ (codes "line_clear", means.Position)
    ∷ (codes "train_on_line", means.Position)
    ∷ []

-- a word with this meaning may stand where such a word is wanted: first in a line a call or a command, behind a moment
-- a call alone
abbrev pub may_stand : WordKind → Meaning → Bool
may_stand kinds.First (means.Call words) = true
may_stand kinds.First (means.Command command) = true
may_stand kinds.First means.Way = false
may_stand kinds.First means.Position = false
may_stand kinds.Call (means.Call words) = true
may_stand kinds.Call (means.Command command) = false
may_stand kinds.Call means.Way = false
may_stand kinds.Call means.Position = false
may_stand kinds.Way (means.Call words) = false
may_stand kinds.Way (means.Command command) = false
may_stand kinds.Way means.Way = true
may_stand kinds.Way means.Position = false
may_stand kinds.Position (means.Call words) = false
may_stand kinds.Position (means.Command command) = false
may_stand kinds.Position means.Way = false
may_stand kinds.Position means.Position = true

-- the command, if the word means one
abbrev pub command_of : Meaning → Option Command
command_of (means.Call words) = None
command_of (means.Command command) = Some command
command_of means.Way = None
command_of means.Position = None

-- what stands behind the word: only behind a call's word other than as it is typed
abbrev pub behind_of : Meaning → WordsBehind
behind_of (means.Call words) = words
behind_of (means.Command command) = behind.AsTheyStand
behind_of means.Way = behind.AsTheyStand
behind_of means.Position = behind.AsTheyStand

-- which word is wanted at this place behind a call's word, from 0; none where it stays as it is typed
abbrev pub kind_behind : WordsBehind → ℕ → Option WordKind
kind_behind behind.Way k = if k == 0 then Some kinds.Way else None
kind_behind behind.WayAndPosition k = if k == 0 then Some kinds.Way else if k == 1 then Some kinds.Position else None
kind_behind behind.AsTheyStand k = None
