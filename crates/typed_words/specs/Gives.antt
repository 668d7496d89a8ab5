-- What a reader of typed words answers, and what reading gives.
use Rattle.std.specs.Prelude.{◌≡◌, map, Result, Ok, Err}
use Rattle.typed_words.specs.Chosen.{Misread}
use Rattle.typed_words.specs.declared.typed.NotUnderstood.{NotUnderstood}
use Rattle.typed_words.specs.declared.typed.NotUnderstood.TheVariants as misreads
use Rattle.typed_words.specs.declared.typed.Unread.{Unread}
use Rattle.typed_words.specs.declared.typed.Unread.TheVariants as unread

-- what isn't understood, with its words as their bytes
abbrev pub shown_misread : NotUnderstood → Misread
shown_misread (misreads.UnknownWord at words) = Misread.Unknown at (map (λ word. word.now) words.items)
shown_misread (misreads.SeveralWords at words) = Misread.Several at (map (λ word. word.now) words.items)
shown_misread (misreads.Refused cause) = Misread.Refused cause

-- the reader fails for what isn't understood; want of memory is free
abbrev pub FailsWords : {Y : Type 0} → Unread → Result Y Misread → Type 0
FailsWords (unread.NotUnderstood what) read = read ≡ Err (shown_misread what)
FailsWords unread.NoMemory read = Unit {0}

-- The reader gives what reading gives, unless memory ran out.
abbrev pub GivesWords : {X Y : Type 0} → (X → Y) → Result X Unread → Result Y Misread → Type 0
GivesWords view (Ok x) read = read ≡ Ok (view x)
GivesWords view (Err e) read = FailsWords e read
