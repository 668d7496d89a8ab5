-- What is known of levers, and what a row says beside it.
use Rattle.std.specs.Prelude.{◌≡◌, ℕ, ◌-◌, Bool, true, false, List, [], ◌∷◌, Option, Some, None, slice_index_or}
use Rattle.std.specs.Prelude.{if◌then◌else◌}
use Rattle.locking_table.specs.declared.places.End.{End}
use Rattle.locking_table.specs.declared.places.End.TheVariants.{Normal, Reversed}
use Rattle.locking_table.specs.declared.row.Cond.{Cond}
use Rattle.locking_table.specs.declared.row.Row.{Row}
use Rattle.locking_table.specs.declared.row.RowKind.{RowKind}
use Rattle.locking_table.specs.declared.row.RowKind.TheVariants.{LocksNormal, ReleasedBy, LocksBoth}
use Rattle.locking_table.specs.Places.{end_at}
use Rattle.row_refutations.specs.declared.known.Look.{Look}
use Rattle.row_refutations.specs.declared.known.Look.TheVariants as looks
use Rattle.row_refutations.specs.declared.known.Said.{Said}
use Rattle.row_refutations.specs.declared.known.Said.TheVariants as says

-- the end at which a lever is known to stand, if it is known
abbrev pub known_end : List (Option End) → ℕ → Option End
known_end known lever = slice_index_or known (lever - 1) None

-- in this state each lever stands where it is known to stand
abbrev pub Agrees : List (Option End) → List End → Type 0
Agrees known state = (lever : ℕ) (end : End) → known_end known lever ≡ Some end → end_at state lever ≡ end

-- ---- what a row forbids

-- a lever stands at the end that a condition names
abbrev pub Stands : List End → Cond → Type 0
Stands state cond = end_at state cond.lever ≡ cond.end

-- the same of all these conditions
abbrev pub AllStand : List End → List Cond → Type 0
AllStand state [] = Unit {0}
AllStand state (cond ∷ conds) = Stands state cond × AllStand state conds

abbrev pub subject_of : Row → Cond
subject_of row = record { lever = row.subject; end = Reversed }

-- how the object of a row of this kind must not stand while the row acts; one that locks both ways forbids nothing
-- between two moves, as if its subject were to stand at both ends
abbrev pub object_of : RowKind → Row → Cond
object_of LocksNormal row = record { lever = row.object; end = Reversed }
object_of ReleasedBy row = record { lever = row.object; end = Normal }
object_of LocksBoth row = record { lever = row.subject; end = Normal }

-- what isn't so all at once where the row holds
abbrev pub forbidden : Row → List Cond
forbidden row = subject_of row ∷ object_of row.kind row ∷ row.when

-- ---- what a row says

abbrev pub same_end : End → End → Bool
same_end Normal Normal = true
same_end Normal Reversed = false
same_end Reversed Normal = false
same_end Reversed Reversed = true

-- what is known of a condition
abbrev pub look_by : Option End → End → Look
look_by None end = looks.Unknown
look_by (Some known) end = if same_end known end then looks.Stands else looks.Differs

abbrev pub look_at : List (Option End) → Cond → Look
look_at known cond = look_by (known_end known cond.lever) cond.end

-- what is said with one condition more
abbrev pub said_with : Look → Said → Cond → Said
said_with looks.Stands said cond = said
said_with looks.Differs said cond = says.Nothing
said_with looks.Unknown says.Broken cond = says.Forces cond
said_with looks.Unknown other cond = says.Nothing

-- what is said with all these conditions
abbrev pub said_of : List (Option End) → Said → List Cond → Said
said_of known said [] = said
said_of known said (cond ∷ conds) = said_of known (said_with (look_at known cond) said cond) conds

-- what a row says beside what is known: nothing; or that it is broken, for all that it forbids is so; or that the lever
-- of this condition doesn't stand at its end, for the rest is so
abbrev pub row_said : List (Option End) → Row → Said
row_said known row = said_of known says.Broken (forbidden row)
