-- Entries that a reader gives one after another.
use Rattle.std.proofs.Common.{◌≡◌, ℕ, List, [], ◌∷◌, ◌++◌, Option, Some, Result, Ok, Err, refl, sym, ap, subst, ◌∙◌}
use Rattle.std.proofs.Common.{append_assoc}
use Rattle.std.specs.Result.{IsErr, IsErrAnd}
use Rattle.rail_text.specs.Gives.{◌>>=◌, Fault}
use Rattle.rail_text.specs.Lines.{Line, lines_of}
use Rattle.rail_text.specs.declared.cause.Cause.{Cause}
use Rattle.rail_text.specs.declared.cause.ReadError.{ReadError}
use Rattle.rail_text.specs.declared.cause.ReadError.TheVariants as errors
use Rattle.rail_text.proofs.Binds.{OfOk}
use Rattle.line_law.specs.declared.call.Entry.{Entry}
use Rattle.line_report.specs.Readers.{ReaderFields, SoFar, entry_onto}
use Rattle.line_report.specs.Reading.{RunsOutAt, Tells, TellsNext, entries_from, entries_left, told_by}
use Rattle.line_report.specs.Spelled.{IsBehind}
use Rattle.line_report.proofs.JournalTexts.{IsTold, told_is}

-- the next line tells an entry
pub tells_at : (so_far : SoFar) (rest : List ℕ) (old new : ReaderFields) (line : Line) (e : Entry)
    → record { so_far = so_far; rest = rest } ≡ old → lines_of rest ≡ line ∷ lines_of new.rest
    → told_by so_far line ≡ Ok (Some e) → new.so_far ≡ entry_onto so_far e → TellsNext old new e
tells_at so_far rest old new line e is next told after =
    subst (λ (r : ReaderFields). TellsNext r new e) is
    (record { line = line; next = next; told = told; after = after })

-- an entry stands before those that are left behind it
pub left_then : (old new : ReaderFields) (e : Entry) → TellsNext old new e
    → entries_left old ≡ (entries_left new >>= (λ es. Ok (e ∷ es)))
unfolding entries_from
left_then old new e h = rw (h.next, h.told, h.after) refl

-- ---- entries that are kept

-- the entries that are kept stand before those that are left
abbrev pub kept_then : List Entry → Result (List Entry) Fault → Result (List Entry) Fault
kept_then kept read = read >>= (λ es. Ok (kept ++ es))

-- with nothing kept before, what is left is all that is read
pub none_kept : (read : Result (List Entry) Fault) → read ≡ kept_then [] read
none_kept (Ok es) = refl
none_kept (Err fault) = refl

one_more : (kept : List Entry) (e : Entry) (read : Result (List Entry) Fault)
    → kept_then kept (read >>= (λ es. Ok (e ∷ es))) ≡ kept_then (kept ++ e ∷ []) read
one_more kept e (Ok es) = ap Ok (sym (append_assoc kept (e ∷ []) es))
one_more kept e (Err fault) = refl

-- the next entry goes from those that are left to those that are kept
pub keeps_on : (old new : ReaderFields) (whole : Result (List Entry) Fault) (kept : List Entry) (e : Entry)
    → TellsNext old new e → whole ≡ kept_then kept (entries_left old)
    → whole ≡ kept_then (kept ++ e ∷ []) (entries_left new)
keeps_on old new whole kept e h so_far =
    so_far ∙ ap (kept_then kept) (left_then old new e h) ∙ one_more kept e (entries_left new)

-- ---- entries that are told one after another

-- a reader that has told entries tells one more
pub tells_more : (old middle new : ReaderFields) (es : List Entry) (e : Entry) → Tells old es middle
    → TellsNext middle new e → Tells old (es ++ e ∷ []) new
tells_more old middle new [] e same h = (new, subst (λ (r : ReaderFields). TellsNext r new e) (sym same) h, refl)
tells_more old middle new (first ∷ es) e tells h = (tells.0, tells.1, tells_more tells.0 middle new es e tells.2 h)

-- memory ran out where one more was told
pub runs_out : (old new : ReaderFields) (kept : List Entry) (r : Result (Unit {0}) ReadError) → IsErr r
    → IsErrAnd r (λ error. error ≡ errors.NoMemory) → (e : Entry) × Tells old (kept ++ e ∷ []) new
    → RunsOutAt old new kept r
runs_out old new kept (Ok done) is none tells = tt
runs_out old new kept (Err (errors.Refused line cause)) is none tells = tt
runs_out old new kept (Err errors.NoMemory) is none tells = tells

-- ---- what an entry is

behind_of : (so_far : SoFar) (line : Line) (read : Result (Option Entry) Cause) (e : Entry)
    → OfOk (IsTold so_far line) read → read ≡ Ok (Some e) → IsBehind so_far.plan so_far.moments e
behind_of so_far line read e is same = (subst (OfOk (IsTold so_far line)) same is).1.behind

-- an entry that a line tells is one behind those before it
pub told_behind : (so_far : SoFar) (line : Line) (e : Entry) → told_by so_far line ≡ Ok (Some e)
    → IsBehind so_far.plan so_far.moments e
told_behind so_far line e same = behind_of so_far line (told_by so_far line) e (told_is so_far line) same
